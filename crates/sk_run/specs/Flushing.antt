-- What a flush finds in a run, and what it leaves of it.
use Rattle.std.specs.Prelude.{◌≡◌, ◌<◌, ◌≤◌, ℕ, List, [], ◌∷◌, ◌++◌, Option, Some, None, ◌⊎◌}
use Rattle.sk_rows.specs.declared.table.Table.{Table}
use Rattle.sk_model.specs.declared.engine.EngineName.{EngineName}
use Rattle.sk_model.specs.declared.engine.EngineName.TheVariants.{Mem, Store}
use Rattle.sk_model.specs.declared.point.Point.{Point}
use Rattle.sk_model.specs.declared.commit.Commit.{Commit}
use Rattle.sk_model.specs.declared.call.EngineCall.{EngineCall}
use Rattle.sk_model.specs.declared.call.EngineCall.TheVariants as call
use Rattle.sk_model.specs.declared.call.EngineReply.{EngineReply}
use Rattle.sk_model.specs.declared.call.EngineReply.TheVariants as reply
use Rattle.sk_model.specs.declared.call.Entry.{Entry}
use Rattle.sk_model.specs.Engine.{EngineTable}
use Rattle.sk_linked.specs.Traces.{In}
use Rattle.sk_mem.specs.declared.engine.MemEngine.{MemEngine}
use Rattle.sk_store.specs.declared.engine.StoreEngine.{StoreEngine}
use Rattle.sk_session.specs.Common.{Common}
use Rattle.sk_shared.specs.Shared.{Stands}
use Rattle.sk_shared.specs.declared.shared.Shared.{Shared}
use Rattle.sk_kept.specs.Flushing.{AnsweredFlush}
use Rattle.sk_kept.specs.Sessions.{Player, IsRun}
use Rattle.sk_recorded.specs.Growing.{Grows}
use Rattle.sk_recorded.specs.Joined.{joined, from_number}
use Rattle.sk_recorded.specs.Flushes.{Flush, Flushes, last_cut, written}
use Rattle.sk_run.specs.Told.{RunLine}
use Rattle.sk_run.specs.State.{RunState}
use Rattle.sk_run.specs.Kept.{Beginning, HasKept}
use Rattle.sk_run.specs.declared.flushing.Found.{Found}

-- both numbers are the same
abbrev pub SameNumbers : Point → Point → Type 0
SameNumbers p q = (p.a ≡ q.a) × (p.b ≡ q.b)

-- neither number of p is below that of q, and one is past it
abbrev pub IsPast : Point → Point → Type 0
IsPast p q = (q.a ≤ p.a) × (q.b ≤ p.b) × ((q.a < p.a) ⊎ (q.b < p.b))

-- nothing is new: the durable cut itself was found, and no commits
pub record FindsNothing (durable : Point) (found : Found) : Type 0 where
  pub cut : found.cut ≡ durable
  pub mem : found.mem ≡ []
  pub store : found.store ≡ []

-- what was found is this flush, whose cut is past the durable one
pub record IsFlush (durable : Point) (found : Found) (f : Flush) : Type 0 where
  pub cut : f.cut ≡ found.cut
  pub past : IsPast found.cut durable
  pub mem : written Mem (f ∷ []) ≡ found.mem
  pub store : written Store (f ∷ []) ≡ found.store

-- a run that goes on with the same sessions: what they share stands for this, which has grown, and these points were added
pub record DriftsTo {D : Type 0} (stands : D → Common → Type 0) (catalog : List Table) (first : Point) (points : List Point) (c : Common) (players : List Player) (desk : D) : Type 0 where
  pub common : Common
  pub stood : stands desk common
  pub grows : Grows c common
  pub more : List Point
  pub run : IsRun catalog first (points ++ more) common players

module _ (mem : MemEngine → EngineTable → List Entry → Type 0) (store : StoreEngine → EngineTable → List Entry → Type 0) where
  -- whatever run stood over it, it goes on
  abbrev pub Drifts : Shared → Shared → Type 0
  Drifts old new = (catalog : List Table) (first : Point) (points : List Point) (c : Common) (players : List Player) → Stands mem store old c → IsRun catalog first points c players → DriftsTo (Stands mem store) catalog first points c players new

  -- whatever it stood for, this call of no transaction was answered so
  abbrev pub Gives : Shared → EngineName → EngineCall → EngineReply → Shared → Type 0
  Gives old name asked reply new = (c : Common) → Stands mem store old c → (d : Common) × AnsweredFlush c name asked reply d × Stands mem store new d

  -- however it began, and whatever the lines and the flushes were: it has kept them
  pub record KeepsStill (old new : RunState) : Type 0 where
    pub catalog : new.catalog ≡ old.catalog
    pub sessions : new.sessions ≡ old.sessions
    pub kept : (b : Beginning) (lines : List RunLine) (fs : List Flush) → HasKept mem store b lines fs old → HasKept mem store b lines fs new

  -- what was found is a flush, and with it behind the others the run has kept them
  pub record FindsFlush (b : Beginning) (lines : List RunLine) (fs : List Flush) (durable : Point) (found : Found) (new : RunState) : Type 0 where
    pub flush : Flush
    pub is : IsFlush durable found flush
    pub kept : HasKept mem store b lines (fs ++ flush ∷ []) new

  -- however it began, and whatever the lines and the flushes were, if the durable cut is the last one: nothing is new, or there is one flush more
  abbrev pub FindsBatch : RunState → Point → Found → RunState → Type 0
  FindsBatch old durable found new =
      (b : Beginning) (lines : List RunLine) (fs : List Flush) → HasKept mem store b lines fs old → SameNumbers durable (last_cut b.first fs) → FindsNothing durable found ⊎ FindsFlush b lines fs durable found new

  -- ---- the calls of a flush

  -- whatever it stood for, what was found is a point of that for which it stands now
  abbrev pub FindsPoint : Shared → Option Point → Shared → Type 0
  FindsPoint old None new = Unit {0}
  FindsPoint old (Some q) new = (c d : Common) → Stands mem store old c → Stands mem store new d → In q d.regs.points

  -- The engine told commits past one number and up to another, and these are they, each with the other number that the points from `low` on
  -- give it.
  pub record Joins (old : Shared) (name : EngineName) (from to low : ℕ) (commits : List Commit) (new : Shared) : Type 0 where
    pub answered : List Commit
    pub gives : Gives old name (call.Records from to) (reply.Commits answered) new
    pub joins : (c : Common) → Stands mem store new c → commits ≡ joined name (from_number Mem low c.regs.points) answered

  -- a run that goes on, and one flush of it from this point on
  pub record FlushesTo (catalog : List Table) (first : Point) (points : List Point) (c : Common) (players : List Player) (low durable : Point) (found : Found) (new : Shared) : Type 0 where
    pub goes : DriftsTo (Stands mem store) catalog first points c players new
    pub flush : Flush
    pub is : IsFlush durable found flush
    pub flushes : Flushes (first ∷ points ++ goes.more) goes.common.journals low flush

  -- whatever run stood over it, and whichever of its points has the numbers of the durable cut: what was found is a flush from there on
  abbrev pub FlushesOn : Shared → Point → Found → Shared → Type 0
  FlushesOn old durable found new = (catalog : List Table) (first : Point) (points : List Point) (c : Common) (players : List Player) (low : Point) → Stands mem store old c → IsRun catalog first points c players
      → In low (first ∷ points) → SameNumbers durable low → FlushesTo catalog first points c players low durable found new

  abbrev pub FindsOn : Shared → Point → Found → Shared → Type 0
  FindsOn old durable found new = FindsNothing durable found ⊎ FlushesOn old durable found new
