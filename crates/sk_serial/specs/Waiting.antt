-- Who waits until a commit is durable: transactions that have committed.
use Rattle.std.specs.Prelude.{◌≡◌, ◌⊎◌, ℕ, false, List, Option, Some, None, length, max}
use Rattle.std.specs.List.{AllByRecursion}
use Rattle.sk_model.specs.declared.record.Record.{Record}
use Rattle.sk_model.specs.declared.record.Ending.{Ending}
use Rattle.sk_model.specs.declared.record.Ending.TheVariants as ending
use Rattle.sk_model.specs.declared.receipt.Need.{Need}
use Rattle.sk_linked.specs.Traces.{In}
use Rattle.sk_run.specs.State.{RunState}
use Rattle.sk_run.specs.Over.{IsOver, last_record}
use Rattle.sk_cut.specs.Acked.{told}
use Rattle.sk_cut.specs.Receipts.{covers}
use Rattle.sk_durable.specs.Kept.{Kept}
use Rattle.sk_script.specs.Limits.{most_sessions}

-- the greater of a snapshot and the number that was drawn behind it
abbrev pub needed : Option ℕ → Option ℕ → Option ℕ
needed None drew = drew
needed (Some snapshot) None = Some snapshot
needed (Some snapshot) (Some drew) = Some (max snapshot drew)

-- what a transaction that committed waits for
abbrev pub need_of : Record → Need
need_of r = record { label = r.label; mem = needed r.mem r.drew_mem; store = needed r.store r.drew_store }

-- the need is that of this record, which has committed
abbrev pub IsNeedOf : Need → Record → Type 0
IsNeedOf n r = (r.ending ≡ ending.Committed) × (n ≡ need_of r)

-- what it waits for, where it committed
abbrev pub need_in : Ending → Record → Option Need
need_in ending.Committed r = Some (need_of r)
need_in _ r = None

abbrev pub need_if : Record → Option Need
need_if r = need_in r.ending r

-- each need is that of a transaction of the run that is over
abbrev pub AreOver : RunState → List Need → Type 0
AreOver x needs = AllByRecursion (λ n. (r : Record) × IsOver x r × IsNeedOf n r) needs

-- each need is that of one of these records
abbrev pub AreNeedsOf : List Record → List Need → Type 0
AreNeedsOf records needs = AllByRecursion (λ n. (r : Record) × In r records × IsNeedOf n r) needs

-- each transaction of the run that is over and has committed was queued
abbrev pub AllQueued : RunState → List Need → Type 0
AllQueued x needs = (r : Record) → IsOver x r → r.ending ≡ ending.Committed → In (need_of r) needs

-- each but the last of this session
abbrev pub AlmostAll : RunState → ℕ → List Need → Type 0
AlmostAll x number needs = (r : Record) → IsOver x r → r.ending ≡ ending.Committed → In (need_of r) needs ⊎ (last_record x number ≡ Some r)

-- whoever was queued waits, or was told
abbrev pub EachWaits : {D : Type 0} → Kept D → Type 0
EachWaits kept = (n : Need) → In n kept.queued → In n kept.waiting ⊎ In n.label (told kept.receipts)

-- Just the transactions of the run that are over and have committed were queued, and each of them waits or was told.
pub record IsWaiting {D : Type 0} (x : RunState) (kept : Kept D) : Type 0 where
  pub are : AreOver x kept.queued
  pub all : AllQueued x kept.queued
  pub each : EachWaits kept

-- so it is, but for the last one of this session
pub record IsAlmost {D : Type 0} (x : RunState) (number : ℕ) (kept : Kept D) : Type 0 where
  pub are : AreOver x kept.queued
  pub all : AlmostAll x number kept.queued
  pub each : EachWaits kept

-- whoever waited, so it is still
abbrev pub WaitsOn : {D : Type 0} → RunState → Kept D → RunState → Kept D → Type 0
WaitsOn run kept new_run new_kept = IsWaiting run kept → IsWaiting new_run new_kept

-- the last one of the session was queued too, where the run has as many sessions as a script may have
abbrev pub QueuesLast : {D : Type 0} → RunState → ℕ → Kept D → Kept D → Type 0
QueuesLast x number old new = length x.sessions ≡ most_sessions → IsAlmost x number old → IsWaiting x new

-- nobody more was queued, and whoever was waits or was told
abbrev pub KeepsQueue : {D : Type 0} → Kept D → Kept D → Type 0
KeepsQueue old new = (new.queued ≡ old.queued) × (EachWaits old → EachWaits new)

-- the durable cut covers nobody who waits
abbrev pub NoneCovered : {D : Type 0} → Kept D → Type 0
NoneCovered kept = (n : Need) → In n kept.waiting → covers kept.cut n ≡ false
