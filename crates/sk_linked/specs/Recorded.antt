-- Linked traces with their records: what the promise of one database says of records.
use Rattle.std.specs.Prelude.{◌≡◌, List, [], ◌∷◌, true, map}
use Rattle.sk_rows.specs.declared.table.Table.{Table}
use Rattle.sk_model.specs.declared.record.Record.{Record}
use Rattle.sk_model.specs.Database.{Tables}
use Rattle.sk_model.specs.Records.{Told, written, is_committed, Fresh, OneDatabase}
use Rattle.sk_model.specs.Talks.{puts_in, TalkTold}
use Rattle.sk_model.specs.RecordTalks.{Talks}
use Rattle.sk_linked.specs.Reads.{order_of, AreSorted}
use Rattle.sk_linked.specs.Traces.{Transaction, Traces, run_of, Linked}
use Rattle.sk_linked.specs.Headline.{place_of}

-- The record is the transaction's: label, snapshots, numbers and whether it is committed are those, its replies are those of each
-- database that its calls show, and where it is committed its statements wrote what it put.
pub record IsRecordOf (catalog : List Table) (t : Transaction) (r : Record) : Type 0 where
  pub label : r.label ≡ t.label
  pub mem : r.mem ≡ t.snapshots.mem
  pub store : r.store ≡ t.snapshots.store
  pub drew_mem : r.drew_mem ≡ t.drew.mem
  pub drew_store : r.drew_store ≡ t.drew.store
  pub committed : is_committed r.ending ≡ t.committed
  pub told : (db : Tables) → TalkTold db t.talk → Told catalog db r.said
  pub wrote : (db : Tables) → TalkTold db t.talk → t.committed ≡ true → written catalog db r.said ≡ puts_in t.talk

-- one record a transaction
abbrev pub AreRecords : List Table → List Transaction → List Record → Type 0
AreRecords catalog [] [] = Unit {0}
AreRecords catalog [] (r ∷ rs) = ⊥
AreRecords catalog (t ∷ ts) [] = ⊥
AreRecords catalog (t ∷ ts) (r ∷ rs) = IsRecordOf catalog t r × AreRecords catalog ts rs

-- the records of linked traces are of one database with the woven list, each at the place of its snapshots, where no session goes back
abbrev pub RecordsAreOne : Type 0
RecordsAreOne = (h : Traces) (records : List Record) → Linked h → AreSorted h.rows → AreRecords h.catalog h.transactions records → Fresh records
    → OneDatabase h.catalog h.rows (order_of (run_of h)) (map (place_of (run_of h)) h.transactions) records

-- a record whose calls are those of its statements and of the steps of its commit is its transaction's
pub record HasTalk (t : Transaction) (r : Record) : Type 0 where
  pub label : r.label ≡ t.label
  pub mem : r.mem ≡ t.snapshots.mem
  pub store : r.store ≡ t.snapshots.store
  pub drew_mem : r.drew_mem ≡ t.drew.mem
  pub drew_store : r.drew_store ≡ t.drew.store
  pub committed : is_committed r.ending ≡ t.committed

abbrev pub TalksMakeRecords : Type 0
TalksMakeRecords = (catalog : List Table) (t : Transaction) (r : Record) → HasTalk t r → Talks catalog r t.talk → IsRecordOf catalog t r
