-- The transactions of a run as far as they have come, and what holds of them, of the journals and of the registry at every moment.
use Rattle.std.specs.Prelude.{◌≡◌, ℕ, ◌<◌, ◌≤◌, List, ◌∷◌, ◌++◌, Option, Some, None, ◌⊎◌}
use Rattle.std.specs.List.{AllByRecursion}
use Rattle.sk_model.specs.declared.engine.EngineName.{EngineName}
use Rattle.sk_model.specs.declared.engine.EngineName.TheVariants.{Mem, Store}
use Rattle.sk_model.specs.declared.point.Point.{Point}
use Rattle.sk_model.specs.declared.call.EngineCall.TheVariants as call
use Rattle.sk_model.specs.declared.call.Entry.{Entry}
use Rattle.sk_model.specs.Records.{AtMost}
use Rattle.sk_model.specs.Talks.{Talk, calls_in, tx_of, entries_by}
use Rattle.sk_weave.specs.Registry.{Regs}
use Rattle.sk_weave.specs.AheadLaws.{Counters, counters_of}
use Rattle.sk_linked.specs.Reads.{PairIf, number_at}
use Rattle.sk_linked.specs.State.{counter}
use Rattle.sk_linked.specs.Traces.{In, IsAtHorizons}
use Rattle.sk_linked.specs.Joining.{MayRecords}
use Rattle.sk_commit.specs.declared.asking.Wish.{Wish}
use Rattle.sk_commit.specs.declared.asking.Wish.TheVariants as wish
use Rattle.sk_commit.specs.declared.asking.Got.{Got}
use Rattle.sk_commit.specs.Fits.{own_call}
use Rattle.sk_session.specs.Common.{Common, IsCommon}
use Rattle.sk_session.specs.Facts.{Facts, facts_after}

-- a transaction as far as it has come: what its record says of it, and its calls
pub record Trace : Type 0 where
  pub facts : Facts
  pub talk : Talk

-- with this call more
abbrev pub trace_after : Wish → Got → Trace → Trace
trace_after asked got t = record { facts = facts_after asked got t.facts; talk = t.talk ++ own_call asked got }

abbrev pub drawn_of : EngineName → Facts → Option ℕ
drawn_of Mem f = f.drew_mem
drawn_of Store f = f.drew_store

-- none of its numbers is past these counters
pub record Within (c : Counters) (f : Facts) : Type 0 where
  pub mem : AtMost f.mem c.mem
  pub store : AtMost f.store c.store
  pub drew_mem : AtMost f.drew_mem c.mem
  pub drew_store : AtMost f.drew_store c.store

-- Its calls stand in the journals, and no others of its label; its snapshots are a pair of the points, and none of its numbers is past the
-- counters.
pub record IsHeld (c : Common) (t : Trace) : Type 0 where
  pub entries : (name : EngineName) → entries_by t.facts.label (c.journals name) ≡ calls_in name t.talk
  pub pair : PairIf c.regs.points t.facts.mem t.facts.store
  pub within : Within (counters_of c.regs) t.facts

-- who has x is the only one
abbrev pub Alone : {X : Type 0} → (Trace → X → Type 0) → List Trace → Type 0
Alone {X} Has ts = (x : X) (t u : Trace) → In t ts → In u ts → Has t x → Has u x → t ≡ u

abbrev pub Made : Trace → Point → Type 0
Made t q = In q t.facts.made

abbrev pub Drew : EngineName → Trace → ℕ → Type 0
Drew name t n = drawn_of name t.facts ≡ Some n

-- one of these transactions drew n from the engine's counter
pub record Drawer (name : EngineName) (ts : List Trace) (n : ℕ) : Type 0 where
  pub who : Trace
  pub among : In who ts
  pub drew : Drew name who n

-- one of these transactions made the point
pub record Maker (ts : List Trace) (q : Point) : Type 0 where
  pub who : Trace
  pub among : In who ts
  pub made : Made who q

-- the entry is a call of one of these
pub record Caller (ts : List Trace) (j : Entry) : Type 0 where
  pub who : Trace
  pub among : In who ts
  pub is : tx_of j.call ≡ Some who.facts.label

-- the entry is a call of one of these, or of no transaction
abbrev pub Called : List Trace → Entry → Type 0
Called ts j = Caller ts j ⊎ (tx_of j.call ≡ None)

-- one of these made the point, or it is a cut at horizons that the engines answered
abbrev pub Sourced : (EngineName → List Entry) → List Trace → Point → Type 0
Sourced journals ts q = Maker ts q ⊎ IsAtHorizons journals q

-- What holds at every moment, where `points` are those behind the first.
pub record Held (first : Point) (points : List Point) (c : Common) (ts : List Trace) : Type 0 where
  pub common : IsCommon c
  pub points_are : c.regs.points ≡ first ∷ points
  pub each : AllByRecursion (IsHeld c) ts
  -- each entry is a call of one transaction or of none, and records were asked for where they may be
  pub callers : (name : EngineName) → AllByRecursion (Called ts) (c.journals name)
  pub unowned : (name : EngineName) → MayRecords (c.first name) (c.journals name)
  -- each point is of the one transaction that made it, or is the cut of a flush
  pub makers : AllByRecursion (Sourced c.journals ts) points
  pub among : AllByRecursion (λ (t : Trace). AllByRecursion (λ (q : Point). In q points) t.facts.made) ts
  pub once : Alone Made ts
  -- no two drew one number, and one drew each number past the first point's, up to the counter
  pub unlike : (name : EngineName) → Alone (Drew name) ts
  pub drawn : (name : EngineName) (n : ℕ) → number_at name first < n → n ≤ counter name c.regs → Drawer name ts n

-- An engine is opened at a number that its counter has reached, and the storage engine by a transaction that has the memory engine open at
-- one that makes a pair.
abbrev pub MayOpen : Regs → Facts → Wish → Type 0
MayOpen r f (wish.Mem (call.Open tx n)) = (n ≤ r.mem) × (f.store ≡ None)
MayOpen r f (wish.Store (call.Open tx n)) = (n ≤ r.store) × PairIf r.points f.mem (Some n)
MayOpen r f _ = Unit {0}
