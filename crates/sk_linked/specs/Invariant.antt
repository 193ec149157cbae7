-- What every step of the machine keeps.
use Rattle.std.specs.Prelude.{◌≡◌, ℕ, ◌≤◌, List, [], ◌∷◌, ◌++◌, Option, Some, None, true, false}
use Rattle.std.specs.List.{AllByRecursion}
use Rattle.sk_model.specs.declared.engine.EngineName.{EngineName}
use Rattle.sk_model.specs.declared.engine.EngineName.TheVariants.{Store}
use Rattle.sk_model.specs.declared.point.Point.{Point}
use Rattle.sk_model.specs.declared.call.Entry.{Entry}
use Rattle.sk_model.specs.Records.{some_writes}
use Rattle.sk_model.specs.Calls.{ends}
use Rattle.sk_model.specs.Talks.{calls_in, wrote_in}
use Rattle.sk_weave.specs.Registry.{Regs, IsSound}
use Rattle.sk_linked.specs.Reads.{PairIf, AreSorted}
use Rattle.sk_linked.specs.Traces.{drawn_at, Transaction, In, close_entry, Linked}
use Rattle.sk_linked.specs.State.{of, Actor, transaction_of, Flush, Core, traces_of, counter}
use Rattle.sk_linked.specs.Plans.{is_running}

-- closed in an engine, and nothing came behind it
pub record Shut (t : Transaction) (name : EngineName) : Type 0 where
  pub before : List Entry
  pub floor : ℕ
  pub is : calls_in name t.talk ≡ before ++ close_entry t.label floor ∷ []
  pub none_ends : AllByRecursion (λ (j : Entry). ends t.label j.call ≡ false) before

-- what is kept of a transaction is true of its calls, and its numbers are of the counters
pub record IsKept (regs : Regs) (r : Actor) : Type 0 where
  pub drew : (name : EngineName) (n : ℕ) → drawn_at name r.drew ≡ Some n → n ≤ counter name regs
  pub anchor : (a : ℕ) → r.opened.mem ≡ Some a → a ≤ regs.mem
  pub chosen : PairIf regs.points r.opened.mem r.chosen
  pub unopened : is_running r.stage ≡ true → r.opened.store ≡ None → calls_in Store r.talk ≡ []
  pub shut : (name : EngineName) → of name r.shut ≡ true → Shut (transaction_of r) name
  pub wrote : (name : EngineName) → of name r.wrote ≡ true → some_writes (wrote_in (calls_in name r.talk)) ≡ true
  pub silent : (name : EngineName) → of name r.wrote ≡ false → wrote_in (calls_in name r.talk) ≡ []

-- the cut of a flush in progress is a point
abbrev pub IsCutOf : List Point → Option Flush → Type 0
IsCutOf points None = Unit {0}
IsCutOf points (Some f) = In f.cut points

pub record Invariant (k : Core) : Type 0 where
  pub sorted : AreSorted k.rows
  pub sound : IsSound k.regs
  pub linked : Linked (traces_of k)
  pub actors : AllByRecursion (IsKept k.regs) k.actors
  pub durable : In k.durable k.regs.points
  pub flush : IsCutOf k.regs.points k.flush
