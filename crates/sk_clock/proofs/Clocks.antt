-- What the clock's shape gives.
use Rattle.std.proofs.Common.{◌≡◌, ◌≤◌, ◌<◌, ◌*◌, ◌%◌, ℕ, ◌+◌, ◌∙◌, sym, ap, subst, arith, mul-le-mul_right}
use Rattle.sk_weave.specs.RegistryLaws.{CanStart}
use Rattle.sk_clock.specs.declared.pass.Clock.{Clock}
use Rattle.sk_clock.specs.declared.view.Start.{Start}
use Rattle.sk_clock.specs.Held.{Held}
use Rattle.sk_clock.specs.History.{capacity}
use Rattle.sk_clock.specs.Of.{IsOf}
use Rattle.sk_clock.specs.Kept.{now, Sees}
use Rattle.sk_clock.proofs.Ring.{Shaped}
use Rattle.sk_clock.proofs.Walking.{low_small}

pub size_is : (c : Clock) (p : Held) → IsOf c p → c.size ≡ p.view.start.size
size_is c p of = sym (ap (λ (s : Start). s.size) of.1 ∙ c.shape.1)

pub parts_is : (c : Clock) (p : Held) → IsOf c p → c.parts ≡ p.view.start.partitions
parts_is c p of = sym (ap (λ (s : Start). s.partitions) of.1 ∙ c.shape.0)

pub shaped_of : (c : Clock) (p : Held) → IsOf c p → Shaped p.view.start
shaped_of c p of = subst Shaped (sym of.1) (subst (λ (x : ℕ × ℕ). CanStart x.0 x.1 c.table.shared.key.point) (λ i. (sym c.shape.0 i, sym c.shape.1 i)) c.starts)

-- the place of the point k
pub place_is : (c : Clock) (p : Held) → IsOf c p → (k : ℕ) → k % (c.parts * c.size) + 3 ≡ k % capacity p.view.start + 3
place_is c p of k = let a = size_is c p of in let b = parts_is c p of in λ i. k % (b i * a i) + 3

pub first_place_is : (c : Clock) (p : Held) → IsOf c p → (l : ℕ) → (l * c.size) % (c.parts * c.size) + 3 ≡ (l * p.view.start.size) % capacity p.view.start + 3
first_place_is c p of l = let a = size_is c p of in let b = parts_is c p of in λ i. (l * a i) % (b i * a i) + 3

pub low_fits : (c : Clock) (p : Held) → IsOf c p → Sees p.view → (n : ℕ) → n ≤ (now p.view).low → n * c.size < 9223372036854775808
low_fits c p of legal n l =
    let small = (low_small p.view (shaped_of c p of) legal).0 in
    let up : n * c.size ≤ (now p.view).low * c.size = mul-le-mul_right c.size l in
    let e : (now p.view).low * c.size ≡ (now p.view).low * p.view.start.size = ap (λ (m : ℕ). (now p.view).low * m) (size_is c p of) in
    omega arith
