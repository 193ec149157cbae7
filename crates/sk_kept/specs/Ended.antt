-- A run whose sessions are all between two lines is of one database.
use Rattle.std.specs.Prelude.{◌≡◌, List, [], ◌∷◌, ◌++◌, true, length, map}
use Rattle.std.specs.List.{AllByRecursion}
use Rattle.sk_rows.specs.declared.table.Table.{Table}
use Rattle.sk_rows.specs.Catalog.{IsCatalog}
use Rattle.sk_model.specs.declared.engine.EngineName.{EngineName}
use Rattle.sk_model.specs.declared.point.Point.{Point}
use Rattle.sk_model.specs.declared.record.Record.{Record}
use Rattle.sk_model.specs.declared.record.Said.{Said}
use Rattle.sk_model.specs.Database.{Tables}
use Rattle.sk_model.specs.Engine.{engine_at}
use Rattle.sk_model.specs.Records.{OneDatabase}
use Rattle.sk_model.specs.Talks.{Talk}
use Rattle.sk_linked.specs.Reads.{number_at, order_of, AreSorted}
use Rattle.sk_linked.specs.Traces.{run_of}
use Rattle.sk_linked.specs.Headline.{place_of}
use Rattle.sk_linked.specs.Joining.{TablesFit}
use Rattle.sk_model.specs.Texts.{texts_are_short}
use Rattle.sk_linked.specs.Kept.{Account, Session, Play, traces_in, records_in, IsPlay}
use Rattle.sk_session.specs.EachTalk.{IsBetween}
use Rattle.sk_session.specs.Starting.{records_now}
use Rattle.sk_session.specs.Common.{Common}
use Rattle.sk_kept.specs.Sessions.{Player, IsRun}

-- one account a record, as far as there are talks
abbrev pub accounts_of : List Record → List Talk → List Account
accounts_of [] talks = []
accounts_of (r ∷ rs) [] = []
accounts_of (r ∷ rs) (t ∷ ts) = record { kept = r; talk = t } ∷ accounts_of rs ts

-- a session of the run, as it would be handed out now
abbrev pub session_of : Player → Session
session_of p = record { number = p.session.number; accounts = accounts_of (records_now p.session) p.talks }

-- the run, as it would be handed out now
abbrev pub play_of : List Table → Tables → Point → List Point → Common → List Player → Play
play_of catalog rows first points c players = record { catalog = catalog; rows = rows; first = first; points = points; journals = c.journals; sessions = map session_of players }

-- no text that a statement of the record may write is too long for a row
abbrev pub AreShort : Record → Type 0
AreShort r = AllByRecursion (λ (s : Said). texts_are_short s.statement ≡ true) r.said

-- Each session is between two lines, its texts are not too long, and the engines began with these rows.
pub record IsPaused (catalog : List Table) (rows : Tables) (first : Point) (points : List Point) (c : Common) (players : List Player) : Type 0 where
  pub tables : IsCatalog catalog
  pub opening : length rows ≡ length catalog
  pub fit : TablesFit catalog rows
  pub sorted : AreSorted rows
  pub begun : (name : EngineName) → c.first name ≡ engine_at name catalog rows (number_at name first)
  pub run : IsRun catalog first points c players
  pub between : AllByRecursion (λ (p : Player). IsBetween p.session.at) players
  pub texts : AllByRecursion (λ (p : Player). AllByRecursion AreShort (records_now p.session)) players

-- So what it would hand out is of one run of sessions, and of one database: with the list that is woven from its points and its committed
-- writers, and each record at the place of its snapshots.
abbrev pub PausedIsOne : Type 0
PausedIsOne = (catalog : List Table) (rows : Tables) (first : Point) (points : List Point) (c : Common) (players : List Player) → IsPaused catalog rows first points c players →
    let p : Play = play_of catalog rows first points c players in
    IsPlay p × OneDatabase catalog rows (order_of (run_of (traces_in p))) (map (place_of (run_of (traces_in p))) (traces_in p).transactions) (records_in p)
