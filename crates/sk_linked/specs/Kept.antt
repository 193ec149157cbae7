-- What a run of sessions keeps, and the law by which it is of one database: the records with their calls, the journals, and the points.
use Rattle.std.specs.Prelude.{◌≡◌, ℕ, List, ◌∷◌, map, length, true}
use Rattle.std.specs.List.{flat_map, AllByRecursion}
use Rattle.sk_rows.specs.declared.table.Table.{Table}
use Rattle.sk_rows.specs.Catalog.{IsCatalog}
use Rattle.sk_model.specs.declared.engine.EngineName.{EngineName}
use Rattle.sk_model.specs.declared.point.Point.{Point}
use Rattle.sk_model.specs.declared.record.Record.{Record}
use Rattle.sk_model.specs.declared.record.Said.{Said}
use Rattle.sk_model.specs.declared.call.Entry.{Entry}
use Rattle.sk_model.specs.Database.{Tables}
use Rattle.sk_model.specs.Legal.{Legal}
use Rattle.sk_model.specs.Records.{is_committed, Fresh, OneDatabase}
use Rattle.sk_model.specs.Talks.{Talk, calls_in, tx_of, entries_by}
use Rattle.sk_model.specs.RecordTalks.{Talks}
use Rattle.sk_weave.specs.Points.{Staircase}
use Rattle.sk_linked.specs.Reads.{PairIf, first_table, order_of, AreSorted}
use Rattle.sk_linked.specs.Traces.{Transaction, Traces, run_of, DrewUnlike, Known, PointsMade, Linked}
use Rattle.sk_linked.specs.Headline.{place_of}
use Rattle.sk_linked.specs.Recorded.{AreRecords}
use Rattle.sk_linked.specs.Joining.{TablesFit, MayRecords, Share, Counted, session_entries, all_transactions, Apart}
use Rattle.sk_model.specs.Texts.{texts_are_short}
use Rattle.sk_linked.specs.Causes.{Ring, HasCauses}

-- one transaction: its record, and its calls
pub record Account : Type 0 where
  pub kept : Record
  pub talk : Talk

-- one session: its number, and its transactions in the order in which they began
pub record Session : Type 0 where
  pub number : ℕ
  pub accounts : List Account

-- the catalog and the opening rows, the first point and the others, both journals, and the sessions
pub record Play : Type 0 where
  pub catalog : List Table
  pub rows : Tables
  pub first : Point
  pub points : List Point
  pub journals : EngineName → List Entry
  pub sessions : List Session

abbrev pub transaction_in : Account → Transaction
transaction_in a = record {
  label = a.kept.label;
  kind = a.kept.kind;
  snapshots = record { mem = a.kept.mem; store = a.kept.store };
  drew = record { mem = a.kept.drew_mem; store = a.kept.drew_store };
  committed = is_committed a.kept.ending;
  made = a.kept.made;
  talk = a.talk;
}

abbrev pub transactions_in : Session → List Transaction
transactions_in s = map transaction_in s.accounts

-- what the session left in the journals
abbrev pub share_in : (EngineName → List Entry) → Session → Share
share_in journals s = record { session = s.number; gained = λ name. session_entries s.number (journals name); transactions = transactions_in s }

abbrev pub shares_in : Play → List Share
shares_in p = map (share_in p.journals) p.sessions

abbrev pub traces_in : Play → Traces
traces_in p = record { catalog = p.catalog; rows = p.rows; first = p.first; points = p.points; journals = p.journals; transactions = all_transactions (shares_in p) }

abbrev pub records_in : Play → List Record
records_in p = flat_map (λ (s : Session). map (λ (a : Account). a.kept) s.accounts) p.sessions

-- What is kept of one transaction: its calls are those of its record, and just they stand in the journals with its label; its texts
-- are not too long, and its snapshots are a pair of the points.
pub record IsAccount (p : Play) (a : Account) : Type 0 where
  pub talks : Talks p.catalog a.kept a.talk
  pub entries : (name : EngineName) → entries_by a.kept.label (p.journals name) ≡ calls_in name a.talk
  pub texts : AllByRecursion (λ (s : Said). texts_are_short s.statement ≡ true) a.kept.said
  pub pair : PairIf (p.first ∷ p.points) a.kept.mem a.kept.store

-- The records with their calls, the journals and the points are of one run of sessions.
pub record IsPlay (p : Play) : Type 0 where
  pub tables : IsCatalog p.catalog
  pub opening : length p.rows ≡ length p.catalog
  pub fit : TablesFit p.catalog p.rows
  -- sessions differ in their numbers, each counts its labels, and each of their transactions is kept
  pub apart : Apart (shares_in p)
  pub labels : AllByRecursion (λ (s : Session). Counted s.number 1 (transactions_in s)) p.sessions
  pub accounts : AllByRecursion (λ (s : Session). AllByRecursion (IsAccount p) s.accounts) p.sessions
  -- the engines answered right; each entry is of a transaction or of none, and records were asked for where they may be
  pub legal : (name : EngineName) → Legal (first_table (run_of (traces_in p)) name) (p.journals name)
  pub known : (name : EngineName) → AllByRecursion (λ (j : Entry). Known (traces_in p).transactions (tx_of j.call)) (p.journals name)
  pub unowned : (name : EngineName) → MayRecords (first_table (run_of (traces_in p)) name) (p.journals name)
  -- the points climb, each is of the one transaction that appended it or of a flush, and no two transactions drew one number
  pub stairs : Staircase (p.first ∷ p.points)
  pub made : PointsMade (traces_in p)
  pub unlike : (name : EngineName) → DrewUnlike name (traces_in p).transactions

-- So the run is linked, and its records are its transactions'; they are of one database where no session goes back; and each refusal has
-- its cause, where the registry did answer so.
pub record IsOneRun (p : Play) : Type 0 where
  pub linked : Linked (traces_in p)
  pub records : AreRecords p.catalog (traces_in p).transactions (records_in p)
  pub one : AreSorted p.rows → Fresh (records_in p) → OneDatabase p.catalog p.rows (order_of (run_of (traces_in p))) (map (place_of (run_of (traces_in p))) (traces_in p).transactions) (records_in p)
  pub caused : (ring : Ring) → AllByRecursion (HasCauses (traces_in p) ring) (records_in p)

abbrev pub SessionsAreOne : Type 0
SessionsAreOne = (p : Play) → IsPlay p → IsOneRun p
