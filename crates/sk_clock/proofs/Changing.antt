-- Which changes of a word are right.
use Rattle.std.proofs.Common.{◌≡◌, ℕ, suc, ◌+◌, ◌*◌, ◌%◌, ◌<◌, ◌≤◌, Bool, cond, ◌==◌, eq-eqb, ne_eqb, List, ◌∷◌, ◌++◌, length, set, get_or, refl, sym, ap, ◌∙◌, subst, arith, le_trans, mul-le-mul_right}
use Rattle.sk_model.specs.declared.point.Point.{Point}
use Rattle.sk_weave.specs.declared.event.Event.{Event}
use Rattle.sk_weave.specs.declared.event.Event.TheVariants.{DrawMem, DrawStore, Append, Raise}
use Rattle.sk_weave.specs.Points.{IsSmall, word_of, point_at}
use Rattle.sk_weave.specs.Laws.{CanComeLast}
use Rattle.sk_weave.specs.Registry.{CanAppend, Grows}
use Rattle.sk_weave.proofs.Staircase.{word_back}
use Rattle.sk_clock.specs.declared.view.WordStep.TheVariants.{Change}
use Rattle.sk_clock.specs.declared.view.Entry.{Entry}
use Rattle.sk_clock.specs.declared.view.Start.{Start}
use Rattle.sk_clock.specs.declared.view.View.{View}
use Rattle.sk_clock.specs.Paths.{Begins}
use Rattle.sk_clock.specs.Steps.{entry, steps_by, Holds}
use Rattle.sk_clock.specs.History.{Cells, capacity, first_cells, words_of, after_entry, IsRight, cells_after, IsHistory, change_of}
use Rattle.sk_clock.specs.Kept.{cells, now, row_now, Sees, Looks, Swaps, CanExchange}
use Rattle.sk_clock.proofs.Makings.{begins-on, before_legal}
use Rattle.sk_clock.proofs.Histories.{begins-append}
use Rattle.sk_clock.proofs.Ring.{Shaped, spread, end_is, ringed, longer, seen_grows, past_is}
use Rattle.sk_clock.proofs.Reading.{untouched}
use Rattle.sk_clock.proofs.Views.{at_row}

pub change_row : (k w : ℕ) → change_of (k + 3) w ≡ Append (point_at w)
change_row k w = ap (λ (b : Bool). cond b (DrawMem w) (cond ((k + 3) == 1) (DrawStore w) (cond ((k + 3) == 2) (Raise w) (Append (point_at w))))) (ne_eqb (k + 3) 0 (λ e. absurd (omega arith)))
    ∙ (ap (λ (b : Bool). cond b (DrawStore w) (cond ((k + 3) == 2) (Raise w) (Append (point_at w)))) (ne_eqb (k + 3) 1 (λ e. absurd (omega arith)))
    ∙ ap (λ (b : Bool). cond b (Raise w) (Append (point_at w))) (ne_eqb (k + 3) 2 (λ e. absurd (omega arith))))

pub appends_at : (k : ℕ) (p : Point) → IsSmall p → change_of (k + 3) (word_of p) ≡ Append p
appends_at k p small = change_row k (word_of p) ∙ ap Append (word_back p small)

three_up : (n : ℕ) → n + 3 ≡ suc (suc (suc n))
three_up n = omega arith

set_row : (t : Cells) (k w : ℕ) → set (words_of t) (k + 3) w ≡ t.regs.mem ∷ t.regs.store ∷ t.regs.low ∷ set t.row k w
set_row t k w = ap (λ (i : ℕ). set (words_of t) i w) (three_up k)

module _ (v : View) (shaped : Shaped v.start) (legal : Sees v) where
  abbrev s : Start
  s = v.start

  abbrev r : Cells
  r = cells v v.seen

  -- a pass that has seen all places taken may give up the oldest partition
  pub can_raise : (l : ℕ) → (l + s.partitions) * s.size ≤ length r.regs.points → CanExchange v 2 l (l + 1)
  can_raise l full log h b own here =
      let t : Cells = cells v log in
      let a = ringed s shaped log h in
      let g = seen_grows s v.seen log b h in
      let up = longer r.regs t.regs g in
      let fits = a.fits in
      let end = end_is s t a in
      let is : t.regs.low ≡ l = here in
      let d : (l + s.partitions) * s.size ≡ l * s.size + capacity s = spread l s.partitions s.size in
      let f : t.regs.low * s.size ≡ l * s.size = ap (λ (m : ℕ). m * s.size) is in
      (((omega arith, eq-eqb (length t.regs.points) ((t.regs.low + t.regs.partitions) * t.regs.size) (omega arith)), tt), refl)

-- A pass that has seen all points at a place, and the word at the next place, and has only looked since, may append there where that word still stands.
module _ (v w : View) (shaped : Shaped v.start) (legal : Sees v) (looks : Looks v w) where
  abbrev next_place : ℕ
  next_place = length (now v).points % capacity v.start

  can_append : (p : Point) (old : ℕ) → IsSmall p → old ≡ get_or (row_now v) next_place 0 → length (now v).points < ((now v).low + v.start.partitions) * v.start.size → CanComeLast (now v).points p → (a : p.a ≤ (now w).mem) → (b : p.b ≤ (now w).store) → Holds p w.own.steps
      → (log : List Entry) → IsHistory v.start (first_cells v.start) log → Begins w.seen log → steps_by w.own.path log ≡ w.own.steps → get_or (words_of (cells v log)) (next_place + 3) 0 ≡ old
      → IsRight (cells v log) w.own.path (Change (change_of (next_place + 3) (word_of p))) × (words_of (after_entry v.start (cells v log) (entry w.own.path (Change (change_of (next_place + 3) (word_of p))))) ≡ set (words_of (cells v log)) (next_place + 3) (word_of p))
  can_append p old small was free last a b held log h begins own here =
      let s : Start = v.start in
      let r : Cells = cells v v.seen in
      let t : Cells = cells v log in
      let at = ringed s shaped log h in
      let ar = ringed s shaped v.seen legal in
      let g = seen_grows s v.seen log (begins-on v.seen w.seen log looks.seen begins) h in
      let gw : Grows (now w) t.regs = subst (λ (x : Start). Grows (cells_after x (first_cells x) w.seen).regs t.regs) (sym looks.same.0) (seen_grows s w.seen log begins h) in
      let j : ℕ = next_place in
      let same : t.regs.points ≡ r.regs.points = untouched s shaped r t ar at g (sym (at_row t j) ∙ (here ∙ was)) in
      let e : change_of (j + 3) (word_of p) ≡ Append p = appends_at j p small in
      let len : length t.regs.points ≡ length r.regs.points = ap (λ (ps : List Point). length ps) same in
      let low = g.low in
      let d = spread r.regs.low s.partitions s.size in
      let f = end_is s t at in
      let m : r.regs.low * s.size ≤ t.regs.low * s.size = mul-le-mul_right s.size low in
      let past : t.past ≡ log = past_is s (first_cells s) log in
      let right : CanAppend t.regs p = record {
        free = omega arith;
        last = subst (λ (ps : List Point). CanComeLast ps p) (sym same) last;
        a = le_trans a gw.mem;
        b = le_trans b gw.store;
      } in
      let holds : Holds p (steps_by w.own.path t.past) = subst (Holds p) (sym (ap (steps_by w.own.path) past ∙ own)) held in (
        subst (λ (d : Event). IsRight t w.own.path (Change d)) (sym e) (right, holds),
        ap (λ (x : Event). words_of (after_entry s t (entry w.own.path (Change x)))) e
            ∙ (ap (λ (i : ℕ). t.regs.mem ∷ t.regs.store ∷ t.regs.low ∷ set t.row (i % capacity s) (word_of p)) len ∙ sym (set_row t j (word_of p))),
      )

  pub later_append : (p : Point) (old : ℕ) → IsSmall p → old ≡ get_or (row_now v) next_place 0 → length (now v).points < ((now v).low + v.start.partitions) * v.start.size → CanComeLast (now v).points p → p.a ≤ (now w).mem → p.b ≤ (now w).store → Holds p w.own.steps
      → CanExchange w (next_place + 3) old (word_of p)
  later_append p old small was free last a b held =
      subst (λ (s : Start). (log : List Entry) → IsHistory s (first_cells s) log → Begins w.seen log → steps_by w.own.path log ≡ w.own.steps → get_or (words_of (cells_after s (first_cells s) log)) (next_place + 3) 0 ≡ old
      → IsRight (cells_after s (first_cells s) log) w.own.path (Change (change_of (next_place + 3) (word_of p)))
      × (words_of (after_entry s (cells_after s (first_cells s) log) (entry w.own.path (Change (change_of (next_place + 3) (word_of p))))) ≡ set (words_of (cells_after s (first_cells s) log)) (next_place + 3) (word_of p)))
      (sym looks.same.0) (can_append p old small was free last a b held)

-- where the append was made, the points were those that the pass had seen at the place
pub points_there : (v w x : View) (e : Event) (old : ℕ) (shaped : Shaped v.start) → Sees v → Looks v w → (h : Swaps w (length (now v).points % capacity v.start + 3) old e x) → old ≡ get_or (row_now v) (length (now v).points % capacity v.start) 0
    → (cells w (w.seen ++ h.extends.between)).regs.points ≡ (now v).points
points_there v w x e old shaped legal l h was =
    let log : List Entry = w.seen ++ h.extends.between in
    let j : ℕ = length (now v).points % capacity v.start in
    let begins : Begins v.seen log = begins-append v.seen w.seen h.extends.between l.seen in
    let there : IsHistory v.start (first_cells v.start) log = subst (λ (s : Start). IsHistory s (first_cells s) log) (h.extends.same.0 ∙ l.same.0) (before_legal w (Change e) x h.extends) in
    let t : Cells = cells v log in
    let is : get_or t.row j 0 ≡ old = sym (at_row t j) ∙ subst (λ (s : Start). get_or (words_of (cells_after s (first_cells s) log)) (j + 3) 0 ≡ old) l.same.0 h.was in
    ap (λ (s : Start). (cells_after s (first_cells s) log).regs.points) l.same.0
    ∙ untouched v.start shaped (cells v v.seen) t (ringed v.start shaped v.seen legal) (ringed v.start shaped log there) (seen_grows v.start v.seen log begins there) (is ∙ was)
