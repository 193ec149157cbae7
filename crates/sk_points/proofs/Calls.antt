-- What each call answers, from what its steps did.
use Rattle.std.specs.Prelude.{◌≡◌, ℕ, [], Option, None, Result, Ok, Err, Bool, true, false, cond, not, ◌&&◌, ◌==◌, ◌≤◌, nat_lt}
use Rattle.std.proofs.Common.{sym, ap, subst, ◌∙◌, arith}
use Rattle.std.proofs.lemmas.Bool.{and_parts, ltb-true, le-ltb, cond-true, cond-false}
use Rattle.sk_model.specs.declared.point.Point.{Point}
use Rattle.sk_model.specs.declared.point.Recycled.{Recycled}
use Rattle.sk_weave.specs.declared.answer.Selected.{Selected}
use Rattle.sk_weave.specs.declared.answer.Passed.{Passed}
use Rattle.sk_weave.specs.declared.answer.CutFound.{CutFound}
use Rattle.sk_weave.specs.Points.{selection, commit_point, pick}
use Rattle.sk_weave.specs.Registry.{Regs, first_of, last_of, oldest_of, is_within, passes, checked, after_check, selected, selection_steps, after_selection, after_all, append_steps, makes_cut, after_cut, greatest_within, cut_found}
use Rattle.sk_weave.specs.Laws.{CanComeLast}
use Rattle.sk_weave.specs.Promise.{HasDrawn, Answers}
use Rattle.sk_weave.proofs.Staircase.{check_follows}
use Rattle.sk_weave.proofs.Registers.{comes_last, cut_follows, select_follows}
use Rattle.sk_points.specs.declared.points.Points.{Points}
use Rattle.sk_points.specs.Parts.{points_in}
use Rattle.sk_points.specs.Stands.{StandsFor, Appends, AppendsCut, Picks}
use Rattle.sk_points.proofs.Picking.{last_is, first_is, some_points}

-- the numbers are drawn in each state that it stands for
drawn_in : (p : Points) (a b : ℕ) → HasDrawn StandsFor p a b → (r : Regs) → StandsFor p r → (a ≤ r.mem) × (b ≤ r.store)
drawn_in p a b h r s =
    let m : p.mem ≡ r.mem = s.mem in
    let n : p.store ≡ r.store = s.store in
    let x : p.mem ≡ h.0.mem = h.1.mem in
    let y : p.store ≡ h.0.store = h.1.store in
    let k : a ≤ h.0.mem = h.2 in
    let l : b ≤ h.0.store = h.3 in
    (omega arith, omega arith)

passes_is : (p : Points) (last : Point) (ca cb : ℕ) (b : Bool) → last ≡ last_of (points_in p.parts.items) → b ≡ (nat_lt last.a ca && nat_lt last.b cb) → (r : Regs) → StandsFor p r → passes r ca cb ≡ b
passes_is p last ca cb b e f r h = ap (λ (q : Point). nat_lt q.a ca && nat_lt q.b cb) (sym (e ∙ last_is p r h)) ∙ sym f

pub check_passes : (old new : Points) (last : Point) (ca cb : ℕ) (b : Bool) → last ≡ last_of (points_in old.parts.items) → b ≡ (nat_lt last.a ca && nat_lt last.b cb) → b ≡ true → HasDrawn StandsFor old ca cb → Appends old new (commit_point ca cb)
    → Answers StandsFor old new (λ r. ◌≡◌ {A = Result (Unit {0}) Passed} (Ok tt) (checked r ca cb)) (λ r. after_check r ca cb)
check_passes old new last ca cb b e f t drawn appends r h =
    let pass : passes r ca cb ≡ true = passes_is old last ca cb b e f r h ∙ t in
    let parts : (nat_lt (last_of r.points).a ca ≡ true) × (nat_lt (last_of r.points).b cb ≡ true) = and_parts (nat_lt (last_of r.points).a ca) (nat_lt (last_of r.points).b cb) pass in
    let d : (ca ≤ r.mem) × (cb ≤ r.store) = drawn_in old ca cb drawn r h in (
      sym (cond-true (passes r ca cb) (Ok tt) (Err (record { point = last_of r.points })) pass),
      subst (λ c. StandsFor new (after_all r (cond c (append_steps r (commit_point ca cb)) []))) (sym pass)
          (appends r h (comes_last r.points (commit_point ca cb) (some_points old r h) (check_follows (last_of r.points) ca cb (ltb-true _ _ parts.0) (ltb-true _ _ parts.1))) d.0 d.1),
    )

pub check_fails : (old : Points) (last : Point) (ca cb : ℕ) (b : Bool) → last ≡ last_of (points_in old.parts.items) → b ≡ (nat_lt last.a ca && nat_lt last.b cb) → b ≡ false
    → Answers StandsFor old old (λ r. ◌≡◌ {A = Result (Unit {0}) Passed} (Err (record { point = last })) (checked r ca cb)) (λ r. after_check r ca cb)
check_fails old last ca cb b e f t r h =
    let pass : passes r ca cb ≡ false = passes_is old last ca cb b e f r h ∙ t in (
      ap (λ (q : Point). Err (record { point = q })) (e ∙ last_is old r h) ∙ sym (cond-false (passes r ca cb) (Ok tt) (Err (record { point = last_of r.points })) pass),
      subst (λ c. StandsFor old (after_all r (cond c (append_steps r (commit_point ca cb)) []))) (sym pass) h,
    )

cut_is : (p : Points) (last : Point) (x y : ℕ) (made : Bool) → last ≡ last_of (points_in p.parts.items) → made ≡ ((p.store == y) && (is_within x y last && not ((last.a == x) && (last.b == y)))) → (r : Regs) → StandsFor p r
    → made ≡ makes_cut r x y r.store
cut_is p last x y made e f r h = f ∙ ap (λ n. (n == y) && (is_within x y last && not ((last.a == x) && (last.b == y)))) h.store
    ∙ ap (λ (q : Point). (r.store == y) && (is_within x y q && not ((q.a == x) && (q.b == y)))) (e ∙ last_is p r h)

pub cut_made : (old new : Points) (last : Point) (x y : ℕ) (made : Bool) → last ≡ last_of (points_in old.parts.items) → made ≡ ((old.store == y) && (is_within x y last && not ((last.a == x) && (last.b == y))))
    → made ≡ true → HasDrawn StandsFor old x y → Appends old new (selection x y) → AppendsCut old new x y made
cut_made old new last x y made e f t drawn appends r h =
    let is : made ≡ makes_cut r x y r.store = cut_is old last x y made e f r h in
    let yes_ : makes_cut r x y r.store ≡ true = sym is ∙ t in
    let parts : ((r.store == y) ≡ true) × ((is_within x y (last_of r.points) && not (((last_of r.points).a == x) && ((last_of r.points).b == y))) ≡ true) =
    and_parts (r.store == y) (is_within x y (last_of r.points) && not (((last_of r.points).a == x) && ((last_of r.points).b == y))) yes_ in
    let d : (x ≤ r.mem) × (y ≤ r.store) = drawn_in old x y drawn r h in (
      is,
      subst (λ c. StandsFor new (after_all r (cond c (append_steps r (selection x y)) []))) (sym yes_)
          (appends r h (comes_last r.points (selection x y) (some_points old r h) (cut_follows (last_of r.points) x y parts.1)) d.0 d.1),
    )

pub cut_not_made : (old : Points) (last : Point) (x y : ℕ) (made : Bool) → last ≡ last_of (points_in old.parts.items) → made ≡ ((old.store == y) && (is_within x y last && not ((last.a == x) && (last.b == y))))
    → made ≡ false → AppendsCut old old x y made
cut_not_made old last x y made e f t r h =
    let is : made ≡ makes_cut r x y r.store = cut_is old last x y made e f r h in
    (is, subst (λ c. StandsFor old (after_all r (cond c (append_steps r (selection x y)) []))) (sym (sym is ∙ t)) h)

pub select_appends : (old new : Points) (a : ℕ) (oldest : Point) (s : Selected) → oldest ≡ first_of (points_in old.parts.items) → oldest.a ≤ a → Picks old a s → s.made ≡ true → HasDrawn StandsFor old a 0 → Appends old new (selection a s.b)
    → Answers StandsFor old new (λ r. ◌≡◌ {A = Result Selected Recycled} (Ok s) (selected r a r.store)) (λ r. after_selection r a r.store)
select_appends old new a oldest s e l picks t drawn appends r h =
    let old_is : (oldest_of r).a ≤ a = subst (λ (q : Point). q.a ≤ a) (e ∙ first_is old r h) l in
    let not_refused : nat_lt a (oldest_of r).a ≡ false = le-ltb a (oldest_of r).a old_is in
    let is : s ≡ pick r.points a r.store = picks r h old_is in
    let answer : Ok s ≡ selected r a r.store = ap Ok is ∙ sym (cond-false (nat_lt a (oldest_of r).a) (Err (record { a = a; oldest = oldest_of r })) (Ok (pick r.points a r.store)) not_refused) in
    let d : (a ≤ r.mem) × (0 ≤ r.store) = drawn_in old a 0 drawn r h in
    let f : CanComeLast r.points (selection a (pick r.points a r.store).b) × ((pick r.points a r.store).b ≤ r.store) = select_follows r h.sound a r.store (omega arith) (subst (λ (z : Selected). z.made ≡ true) is t) in (
      answer,
      subst (λ (z : Result Selected Recycled). StandsFor new (after_all r (selection_steps r a z))) answer
          (subst (λ c. StandsFor new (after_all r (cond c (append_steps r (selection a s.b)) []))) (sym t)
          (appends r h (subst (λ (z : Selected). CanComeLast r.points (selection a z.b)) (sym is) f.0) d.0 (subst (λ (z : Selected). z.b ≤ r.store) (sym is) f.1))),
    )
