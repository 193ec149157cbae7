-- The oldest live point never falls, and what is selected is at least its numbers.
use Rattle.std.specs.Prelude.{◌≡◌, ℕ, zero, suc, ◌<◌, ◌≤◌, ◌+◌, ◌*◌, List, [], ◌∷◌, ◌++◌, Ok, Err, Bool, true, false, cond, nat_lt, length, drop, get_or}
use Rattle.std.proofs.Common.{refl, sym, subst, arith}
use Rattle.std.proofs.lemmas.Bool.{cond-false, ltb-false, le-ltb}
use Rattle.sk_model.specs.declared.point.Point.{Point}
use Rattle.sk_model.specs.declared.engine.EngineName.{EngineName}
use Rattle.sk_model.specs.declared.engine.EngineName.TheVariants.{Mem, Store}
use Rattle.sk_model.specs.declared.call.EngineFault.TheVariants as fault
use Rattle.sk_model.specs.declared.call.EngineReply.TheVariants.{Done, Fault}
use Rattle.sk_weave.specs.declared.answer.Selected.{Selected}
use Rattle.sk_weave.specs.declared.event.Event.{Event}
use Rattle.sk_weave.specs.declared.event.Event.TheVariants.{DrawMem, DrawStore, Append, Raise}
use Rattle.sk_weave.specs.Points.{Climbs, Ascends, pick}
use Rattle.sk_weave.specs.Registry.{Regs, IsSound, IsNext, after, no_point, first_of, oldest_of, selected}
use Rattle.sk_weave.proofs.Staircase.{stairs_ascend}
use Rattle.sk_weave.proofs.Registers.{first_dropped, steps_sound}
use Rattle.sk_weave.proofs.Aheads.{live}
use Rattle.sk_recycle.specs.Sweeping.{number_at}
use Rattle.sk_recycle.specs.SweepLaws.{StepsStayBehind, SelectionIsOpen}

-- neither number of q is less than that of p
record IsUpto (p q : Point) : Type 0 where
  a : p.a ≤ q.a
  b : p.b ≤ q.b

from_first : (p : Point) (qs : List Point) → Climbs p qs → (j : ℕ) → j < length (p ∷ qs) → IsUpto p (get_or (p ∷ qs) j no_point)
from_first p qs h zero l = record { a = omega arith; b = omega arith }
from_first p [] h (suc j) l = absurd (omega arith)
from_first p (q ∷ qs) h (suc j) l =
    let less : j < length (q ∷ qs) = omega arith in
    let ih : IsUpto q (get_or (q ∷ qs) j no_point) = from_first q qs h.1 j less in
    record { a = omega (arith, ih.a, h.0.a_stays); b = omega (arith, ih.b, h.0.b_stays) }

later_upto : (ps : List Point) → Ascends ps → (i j : ℕ) → i ≤ j → j < length ps → IsUpto (get_or ps i no_point) (get_or ps j no_point)
later_upto [] h i j le l = absurd (omega arith)
later_upto (p ∷ qs) h zero j le l = from_first p qs h j l
later_upto (p ∷ qs) h (suc i) zero le l = absurd (omega arith)
later_upto (p ∷ []) h (suc i) (suc j) le l = absurd (omega arith)
later_upto (p ∷ q ∷ qs) h (suc i) (suc j) le l =
    let lower : i ≤ j = omega arith in
    let less : j < length (q ∷ qs) = omega arith in
    later_upto (q ∷ qs) h.1 i j lower less

kept_first : (i : ℕ) (ps : List Point) (q : Point) → i < length ps → first_of (drop i (ps ++ q ∷ [])) ≡ first_of (drop i ps)
kept_first i [] q l = absurd (omega arith)
kept_first zero (p ∷ ps) q l = refl
kept_first (suc i) (p ∷ ps) q l = let less : i < length ps = omega arith in kept_first i ps q less

more_times : (n m : ℕ) → n * m ≤ (n + 1) * m
more_times n m = grind arith

oldest_stays : (r : Regs) (s : Event) → IsSound r → IsNext r s → IsUpto (oldest_of r) (oldest_of (after r s))
oldest_stays r (DrawMem n) h next = record { a = omega arith; b = omega arith }
oldest_stays r (DrawStore n) h next = record { a = omega arith; b = omega arith }
oldest_stays r (Append p) h next = subst (IsUpto (oldest_of r)) (sym (kept_first (r.low * r.size) r.points p h.live)) (record { a = omega arith; b = omega arith })
oldest_stays r (Raise n) h next =
    let then : IsSound (after r (Raise n)) = steps_sound r (Raise n) h next in
    let more : r.low * r.size ≤ n * r.size = subst (λ m. r.low * r.size ≤ m * r.size) (sym next.0) (more_times r.low r.size) in
    subst (λ p. IsUpto p (first_of (drop (n * r.size) r.points))) (sym (first_dropped (r.low * r.size) r.points))
    (subst (IsUpto (get_or r.points (r.low * r.size) no_point)) (sym (first_dropped (n * r.size) r.points))
    (later_upto r.points (stairs_ascend r.points h.stairs) (r.low * r.size) (n * r.size) more then.live))

number_upto : (name : EngineName) (p q : Point) → IsUpto p q → number_at name p ≤ number_at name q
number_upto Mem p q h = h.a
number_upto Store p q h = h.b

pub behind_after_step : StepsStayBehind
behind_after_step r s e h next behind =
    let more : number_at e.name (oldest_of r) ≤ number_at e.name (oldest_of (after r s)) = number_upto e.name (oldest_of r) (oldest_of (after r s)) (oldest_stays r s h next) in
    omega (arith, behind, more)

not_refused : {X E : Type 0} (b : Bool) (e : E) (x s : X) → cond b (Err e) (Ok x) ≡ Ok s → b ≡ false
not_refused true e x s is = cc
not_refused false e x s is = refl

-- an anchor that is not refused is not before the oldest live point's
anchor_from : (r : Regs) (a now : ℕ) (s : Selected) → selected r a now ≡ Ok s → (oldest_of r).a ≤ a
anchor_from r a now s is =
    let kept : nat_lt a (oldest_of r).a ≡ false = not_refused (nat_lt a (oldest_of r).a) (record { a = a; oldest = oldest_of r }) (pick r.points a now) s is in
    ltb-false a (oldest_of r).a kept

pub open_at : SelectionIsOpen
open_at r a now s mem store tx h is m st behind_mem behind_store =
    let anchor : (oldest_of r).a ≤ a = anchor_from r a now s is in
    let b : (oldest_of r).b ≤ s.b = live r a now s h is in
    let in_mem : mem.purged ≤ (oldest_of r).a = subst (λ n. mem.purged ≤ number_at n (oldest_of r)) m behind_mem in
    let in_store : store.purged ≤ (oldest_of r).b = subst (λ n. store.purged ≤ number_at n (oldest_of r)) st behind_store in
    let low_mem : mem.purged ≤ a = omega arith in
    let low_store : store.purged ≤ s.b = omega arith in (
      cond-false (nat_lt a mem.purged) (Fault (fault.Old a mem.purged)) Done (le-ltb a mem.purged low_mem),
      cond-false (nat_lt s.b store.purged) (Fault (fault.Old s.b store.purged)) Done (le-ltb s.b store.purged low_store),
    )
