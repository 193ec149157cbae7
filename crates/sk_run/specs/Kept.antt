-- What a run has kept of the lines that were told.
use Rattle.std.specs.Prelude.{◌≡◌, ◌<◌, ◌≤◌, ℕ, List, [], ◌∷◌, ◌++◌, Option, length, map}
use Rattle.std.specs.List.{AllByRecursion}
use Rattle.sk_rows.specs.declared.statement.Statement.{Statement}
use Rattle.sk_rows.specs.Catalog.{IsCatalog}
use Rattle.sk_model.specs.declared.engine.EngineName.{EngineName}
use Rattle.sk_model.specs.declared.point.Point.{Point}
use Rattle.sk_model.specs.declared.reply.Reply.{Reply}
use Rattle.sk_model.specs.declared.call.Entry.{Entry}
use Rattle.sk_model.specs.Database.{Tables}
use Rattle.sk_model.specs.Engine.{EngineTable, engine_at}
use Rattle.sk_linked.specs.Reads.{number_at}
use Rattle.sk_mem.specs.declared.engine.MemEngine.{MemEngine}
use Rattle.sk_store.specs.declared.engine.StoreEngine.{StoreEngine}
use Rattle.sk_store.specs.Loading.{AreOpeningRows}
use Rattle.sk_session.specs.EachTalk.{IsBetween}
use Rattle.sk_session.specs.Common.{Common}
use Rattle.sk_session.specs.Denied.{SessionDenied}
use Rattle.sk_shared.specs.Shared.{Stands}
use Rattle.sk_kept.specs.Sessions.{Player, IsRun}
use Rattle.sk_recorded.specs.Flushes.{Flush, AllFlush}
use Rattle.sk_recorded.specs.Growing.{HeardBy}
use Rattle.sk_run.specs.Told.{RunLine, AreShort, AreTold, AreRefused}
use Rattle.sk_run.specs.State.{RunState}
use Rattle.sk_run.specs.Over.{HaveSome}

-- the session is one of the run
abbrev pub IsKnown : RunState → ℕ → Type 0
IsKnown x number = (1 ≤ number) × (number ≤ length x.sessions)

-- the rows with which a run begins, and its first point
pub record Beginning : Type 0 where
  pub rows : Tables
  pub first : Point

module _ (mem : MemEngine → EngineTable → List Entry → Type 0) (store : StoreEngine → EngineTable → List Entry → Type 0) where
  -- These lines were told, with these flushes between them, and the run has kept all that a run of sessions keeps: what they share stands for
  -- this, the sessions with the calls of their transactions are a run over it which began so, and each is between two lines, of which its
  -- records say what was told; and what they say that the registry refused, it refused in a state that this has come of.
  pub record HasKept (b : Beginning) (lines : List RunLine) (fs : List Flush) (x : RunState) : Type 0 where
    pub tables : IsCatalog x.catalog
    pub opening : AreOpeningRows x.catalog b.rows
    pub few : length x.sessions < 65536
    pub common : Common
    pub stood : Stands mem store x.shared common
    pub begun : (name : EngineName) → common.first name ≡ engine_at name x.catalog b.rows (number_at name b.first)
    pub points : List Point
    pub players : List Player
    pub sessions_are : x.sessions ≡ map (λ (p : Player). p.session) players
    pub run : IsRun x.catalog b.first points common players
    pub between : AllByRecursion (λ (p : Player). IsBetween p.session.at) players
    pub denied : AllByRecursion (λ (p : Player). SessionDenied (HeardBy common) p.session) players
    pub over : HaveSome x.sessions
    pub told : AreTold 1 lines x.sessions
    pub short : AreShort lines
    pub flushed : AllFlush (b.first ∷ points) common.journals b.first fs

  -- however it began, and whatever the lines and the flushes so far were: with this line more it has kept them
  abbrev pub KeepsOn : RunState → ℕ → Option Statement → RunState → Reply → Type 0
  KeepsOn old number s new reply = (b : Beginning) (lines : List RunLine) (fs : List Flush) → HasKept b lines fs old → HasKept b (lines ++ record { session = number; line = (s, reply) } ∷ []) fs new

  -- and what the table of refusals refuses was answered so, of this line too
  abbrev pub RefusesOn : RunState → ℕ → Option Statement → RunState → Reply → Type 0
  RefusesOn old number s new reply =
      (b : Beginning) (lines : List RunLine) (fs : List Flush) → HasKept b lines fs old → AreRefused old.catalog 1 lines old.sessions → AreRefused old.catalog 1 (lines ++ record { session = number; line = (s, reply) } ∷ []) new.sessions

  -- it has kept some lines and flushes
  abbrev pub IsKept : RunState → Type 0
  IsKept x = (b : Beginning) × (lines : List RunLine) × (fs : List Flush) × HasKept b lines fs x
