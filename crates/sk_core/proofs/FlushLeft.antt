-- How many calls on the device are left.
use Rattle.std.specs.Prelude.{◌≡◌, ℕ, zero, suc, ◌<◌, ◌-◌, Some, None, true}
use Rattle.std.proofs.Common.{refl, ap, arith}
use Rattle.sk_linked.specs.declared.event.CoreReply.TheVariants as reply
use Rattle.sk_linked.specs.State.{Flush, Core}
use Rattle.sk_linked.specs.Machine.{Next, flushed, not_now, waiting}

pub none_left : (k : Core) (f : Flush) (left : ℕ) → left ≡ 0 → flushed k f left ≡ not_now k
none_left k f zero is = refl
none_left k f (suc n) is = absurd (omega (arith, is))

pub one_left : (k : Core) (f : Flush) (left : ℕ) → left ≡ 1 → flushed k f left ≡ record { core = record k { durable = f.cut; flush = None; queue = waiting k.actors f.cut k.queue }; reply = reply.Done }
one_left k f zero is = absurd (omega (arith, is))
one_left k f (suc zero) is = refl
one_left k f (suc (suc n)) is = absurd (omega (arith, is))

less : (n : ℕ) → suc n ≡ suc (suc n) - 1
less n = omega arith

pub more_left : (k : Core) (f : Flush) (left : ℕ) → 1 < left → flushed k f left ≡ record { core = record k { flush = Some (record { cut = f.cut; left = left - 1; begun = true }) }; reply = reply.Done }
more_left k f zero past = absurd (omega (arith, past))
more_left k f (suc zero) past = absurd (omega (arith, past))
more_left k f (suc (suc n)) past = ap (λ (m : ℕ). record { core = record k { flush = Some (record { cut = f.cut; left = m; begun = true }) }; reply = reply.Done }) (less n)
