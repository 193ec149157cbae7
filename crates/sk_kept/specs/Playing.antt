-- A run of sessions with what holds of it at every moment.
use Rattle.std.specs.Prelude.{◌≡◌, List, true, length, map}
use Rattle.std.specs.List.{flat_map, AllByRecursion}
use Rattle.sk_rows.specs.Catalog.{IsCatalog}
use Rattle.sk_model.specs.declared.engine.EngineName.{EngineName}
use Rattle.sk_model.specs.declared.record.Said.{Said}
use Rattle.sk_model.specs.RecordTalks.{Talks}
use Rattle.sk_linked.specs.Reads.{first_table}
use Rattle.sk_linked.specs.Traces.{run_of}
use Rattle.sk_linked.specs.Joining.{Counted, TablesFit, Apart}
use Rattle.sk_model.specs.Texts.{texts_are_short}
use Rattle.sk_linked.specs.Kept.{Account, Session, Play, transactions_in, shares_in, traces_in, IsPlay}
use Rattle.sk_session.specs.Common.{Common}
use Rattle.sk_session.specs.Facts.{facts_of}
use Rattle.sk_kept.specs.Held.{Trace, Held}

abbrev pub trace_of : Account → Trace
trace_of a = record { facts = facts_of a.kept; talk = a.talk }

abbrev pub traces_of_session : Session → List Trace
traces_of_session s = map trace_of s.accounts

abbrev pub traces_of_play : Play → List Trace
traces_of_play p = flat_map traces_of_session p.sessions

-- the calls of a record are those of its statements and of its commit, and its texts are not too long
pub record IsAccounted (p : Play) (a : Account) : Type 0 where
  pub talks : Talks p.catalog a.kept a.talk
  pub texts : AllByRecursion (λ (s : Said). texts_are_short s.statement ≡ true) a.kept.said

-- The records with their calls are those of sessions that each count their own, and what holds at every moment holds of them.
pub record Plays (p : Play) (c : Common) : Type 0 where
  pub tables : IsCatalog p.catalog
  pub opening : length p.rows ≡ length p.catalog
  pub fit : TablesFit p.catalog p.rows
  pub apart : Apart (shares_in p)
  pub labels : AllByRecursion (λ (s : Session). Counted s.number 1 (transactions_in s)) p.sessions
  pub accounts : AllByRecursion (λ (s : Session). AllByRecursion (IsAccounted p) s.accounts) p.sessions
  pub first : (name : EngineName) → c.first name ≡ first_table (run_of (traces_in p)) name
  pub journals : (name : EngineName) → c.journals name ≡ p.journals name
  pub held : Held p.first p.points c (traces_of_play p)

-- So it is what a run of sessions keeps.
abbrev pub PlaysArePlayed : Type 0
PlaysArePlayed = (p : Play) (c : Common) → Plays p c → IsPlay p
