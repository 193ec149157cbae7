-- A selection among the live points is that among all points.
use Rattle.std.specs.Prelude.{◌≡◌, ℕ, Some, None, false, ◌*◌, ◌<◌, ◌≤◌, length, get_or}
use Rattle.std.proofs.Common.{sym, ap, subst, ◌∙◌, arith}
use Rattle.std.specs.List.{prefix_len}
use Rattle.sk_model.specs.declared.point.Point.{Point}
use Rattle.sk_weave.specs.declared.answer.Selected.{Selected}
use Rattle.sk_weave.specs.Points.{Ascends, first_past, before_b, chosen, pick_newest}
use Rattle.sk_weave.specs.Registry.{Regs, is_within, first_of, last_of, oldest_of}
use Rattle.sk_points.specs.declared.points.Points.{Points}
use Rattle.sk_points.specs.Parts.{points_in}
use Rattle.sk_points.specs.Stands.{StandsFor, Picks}
use Rattle.sk_weave.proofs.Staircase.{stairs_ascend}
use Rattle.sk_points.proofs.Searching.{ascends_on, run_finds, run_ends, drop_past, last_dropped, pick_by}

pub live_ascends : (p : Points) (r : Regs) → StandsFor p r → Ascends (points_in p.parts.items)
live_ascends p r h = subst Ascends (sym h.live) (ascends_on (r.low * r.size) r.points (stairs_ascend r.points h.sound.stairs))

pub last_is : (p : Points) (r : Regs) → StandsFor p r → last_of (points_in p.parts.items) ≡ last_of r.points
last_is p r h = ap last_of h.live ∙ last_dropped (r.low * r.size) r.points h.sound.live

pub first_is : (p : Points) (r : Regs) → StandsFor p r → first_of (points_in p.parts.items) ≡ oldest_of r
first_is p r h = ap first_of h.live

past_is : (p : Points) (r : Regs) (a : ℕ) → StandsFor p r → (oldest_of r).a ≤ a → first_past a (points_in p.parts.items) ≡ first_past a r.points
past_is p r a h l = ap (first_past a) h.live ∙ drop_past (r.low * r.size) r.points a (stairs_ascend r.points h.sound.stairs) h.sound.live l

pub some_points : (p : Points) (r : Regs) → StandsFor p r → 0 < length r.points
some_points p r h = let l : r.low * r.size < length r.points = h.sound.live in omega arith

low_b : (p : Points) (r : Regs) → StandsFor p r → (last_of (points_in p.parts.items)).b ≤ 4294967295
low_b p r h =
    let l : (last_of r.points).b ≤ r.store = h.sound.b_drawn in
    let m : r.store ≤ 2147483647 = h.sound.store in
    subst (λ (q : Point). q.b ≤ 4294967295) (sym (last_is p r h)) (omega arith)

pub picks_older : (p : Points) (a count b : ℕ) (q : Point) → count ≡ prefix_len (is_within a 4294967295) (points_in p.parts.items) → count < length (points_in p.parts.items) → q ≡ get_or (points_in p.parts.items) count q → b ≡ before_b q
    → Picks p a (record { b = b; made = false })
picks_older p a count b q is l e f r h old =
    let found : first_past a (points_in p.parts.items) ≡ Some q = run_finds a 4294967295 (points_in p.parts.items) q (live_ascends p r h) (low_b p r h) (subst (λ n. n < length (points_in p.parts.items)) is l)
    (subst (λ n. q ≡ get_or (points_in p.parts.items) n q) is e) in
    ap (λ (n : ℕ). record { b = n; made = false }) f ∙ ap (λ o. chosen o (last_of r.points) a r.store) (sym found ∙ past_is p r a h old) ∙ sym (pick_by r.points a r.store (some_points p r h))

pub picks_newest : (p : Points) (a count : ℕ) (last : Point) (s : Selected) → count ≡ prefix_len (is_within a 4294967295) (points_in p.parts.items) → length (points_in p.parts.items) ≤ count → last ≡ last_of (points_in p.parts.items)
    → s ≡ pick_newest last a p.store → Picks p a s
picks_newest p a count last s is l e f r h old =
    let none : first_past a (points_in p.parts.items) ≡ None = run_ends a 4294967295 (points_in p.parts.items) (subst (λ n. length (points_in p.parts.items) ≤ n) is l) in
    f ∙ ap (λ (q : Point). pick_newest q a p.store) (e ∙ last_is p r h) ∙ ap (λ n. pick_newest (last_of r.points) a n) h.store
    ∙ ap (λ o. chosen o (last_of r.points) a r.store) (sym none ∙ past_is p r a h old) ∙ sym (pick_by r.points a r.store (some_points p r h))
