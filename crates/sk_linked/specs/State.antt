-- The state of the machine: what one run keeps of each transaction, and the whole.
use Rattle.std.specs.Prelude.{ℕ, List, [], ◌∷◌, Option, None, Bool, false, map}
use Rattle.sk_rows.specs.declared.table.Table.{Table}
use Rattle.sk_model.specs.declared.label.Label.{Label}
use Rattle.sk_model.specs.declared.engine.EngineName.{EngineName}
use Rattle.sk_model.specs.declared.engine.EngineName.TheVariants.{Mem, Store}
use Rattle.sk_model.specs.declared.record.TxKind.{TxKind}
use Rattle.sk_model.specs.declared.record.Ending.{Ending}
use Rattle.sk_model.specs.declared.point.Point.{Point}
use Rattle.sk_model.specs.declared.step.StepName.{StepName}
use Rattle.sk_model.specs.declared.call.Entry.{Entry}
use Rattle.sk_model.specs.Database.{Tables}
use Rattle.sk_model.specs.Engine.{EngineTable, engine_at}
use Rattle.sk_model.specs.Legal.{after_entries}
use Rattle.sk_model.specs.Talks.{Talk}
use Rattle.sk_weave.specs.Registry.{Regs, regs_at, first_of}
use Rattle.sk_linked.specs.Reads.{Snapshots, number_at}
use Rattle.sk_linked.specs.declared.record.Did.{Did}
use Rattle.sk_linked.specs.declared.record.CoreRecord.{CoreRecord}
use Rattle.sk_linked.specs.Traces.{Drawn, Transaction, Traces}

-- two values, one for each engine
pub record Both (X : Type 0) : Type 0 where
  pub mem : X
  pub store : X

abbrev pub of : {X : Type 0} → EngineName → Both X → X
of Mem b = b.mem
of Store b = b.store

abbrev pub with_of : {X : Type 0} → EngineName → X → Both X → Both X
with_of Mem x b = record b { mem = x }
with_of Store x b = record b { store = x }

abbrev pub other : EngineName → EngineName
other Mem = Store
other Store = Mem

-- how far a transaction has come: no commit step was taken, these are left, it left one engine, or it is over
pub data Stage : Type 0 where
  Running : Stage
  Stepping : List StepName → Stage
  Leaving : Stage
  Over : Stage

-- One transaction. `seen` are the two counters when it began; `chosen` is the storage snapshot that it keeps or selected, and
-- `opened` the snapshots at which it opened the engines; `shut` says where it is closed and no stamp, void or drop has ended it.
pub record Actor : Type 0 where
  pub label : Label
  pub kind : TxKind
  pub seen : Both ℕ
  pub chosen : Option ℕ
  pub opened : Snapshots
  pub wrote : Both Bool
  pub drew : Drawn
  pub shut : Both Bool
  pub committed : Bool
  pub stage : Stage
  pub ending : Ending
  pub made : List Point
  pub did : List Did
  pub talk : Talk

-- its record
abbrev pub record_of : Actor → CoreRecord
record_of r = record {
  base = record { label = r.label; kind = r.kind; mem = r.opened.mem; store = r.opened.store; said = []; ending = r.ending; drew_mem = r.drew.mem; drew_store = r.drew.store; made = r.made };
  did = r.did;
}

abbrev pub transaction_of : Actor → Transaction
transaction_of r = record { label = r.label; kind = r.kind; snapshots = r.opened; drew = r.drew; committed = r.committed; made = r.made; talk = r.talk }

-- a flush in progress: its cut, how many calls on the device are left, and whether one was made
pub record Flush : Type 0 where
  pub cut : Point
  pub left : ℕ
  pub begun : Bool

-- the whole; the tables of the two engines are what the journals make of the opening rows
pub record Core : Type 0 where
  pub catalog : List Table
  pub rows : Tables
  pub regs : Regs
  pub journals : Both (List Entry)
  pub actors : List Actor
  pub queue : List Label
  pub durable : Point
  pub flush : Option Flush
  pub stopped : Bool

abbrev pub core_at : List Table → Tables → Point → ℕ → ℕ → Core
core_at catalog rows start partitions size = record {
  catalog = catalog;
  rows = rows;
  regs = regs_at partitions size start;
  journals = record { mem = []; store = [] };
  actors = [];
  queue = [];
  durable = start;
  flush = None;
  stopped = false;
}

-- the points behind the first
abbrev pub rest_of : List Point → List Point
rest_of [] = []
rest_of (p ∷ qs) = qs

abbrev pub traces_of : Core → Traces
traces_of k = record {
  catalog = k.catalog;
  rows = k.rows;
  first = first_of k.regs.points;
  points = rest_of k.regs.points;
  journals = λ name. of name k.journals;
  transactions = map transaction_of k.actors;
}

abbrev pub table_of : Core → EngineName → EngineTable
table_of k name = after_entries (engine_at name k.catalog k.rows (number_at name (first_of k.regs.points))) (of name k.journals)

abbrev pub counter : EngineName → Regs → ℕ
counter Mem r = r.mem
counter Store r = r.store
