-- What the steps of a registry leave of its points and its counters.
use Rattle.std.specs.Prelude.{◌≡◌, ℕ, List, [], ◌∷◌, ◌++◌, Result, Ok, Err, Bool, true, false, cond, ◌==◌, ◌+◌, ◌*◌, ◌<◌, ◌≤◌, length, nat_lt}
use Rattle.std.proofs.Common.{refl, sym, ap, subst, ◌∙◌, ⊎_elim, arith}
use Rattle.std.proofs.lemmas.Bool.{cond-true, cond-false, cases_lt, lt-ltb, le-ltb}
use Rattle.std.proofs.lemmas.List.{append-nil}
use Rattle.sk_model.specs.declared.point.Point.{Point}
use Rattle.sk_model.specs.declared.point.Recycled.{Recycled}
use Rattle.sk_model.specs.declared.engine.EngineName.{EngineName}
use Rattle.sk_model.specs.declared.engine.EngineName.TheVariants.{Mem, Store}
use Rattle.sk_model.proofs.Lists.{Each, each_weaker}
use Rattle.sk_weave.specs.declared.answer.Selected.{Selected}
use Rattle.sk_weave.specs.declared.answer.DrawFault.{DrawFault}
use Rattle.sk_weave.specs.declared.answer.DrawFault.TheVariants.{Spent, Early}
use Rattle.sk_weave.specs.declared.event.Event.TheVariants.{DrawMem, DrawStore, Append, Raise}
use Rattle.sk_weave.specs.Points.{selection, commit_point, Climbs, Staircase, last_from}
use Rattle.sk_weave.specs.Registry.{Regs, first_of, last_of, is_full, after_all, IsSound, append_steps, appended, selected, selection_steps, after_selection, drawn, draw_steps, passes, after_check, makes_cut, after_cut}
use Rattle.sk_linked.specs.Reads.{number_at}
use Rattle.sk_weave.proofs.Registers.{points_after_append, steps_all_sound, take_steps, last_there}
use Rattle.sk_linked.specs.State.{rest_of, counter}

-- points were appended, and no counter fell
pub record Moves (a b : Regs) (more : List Point) : Type 0 where
  pub points : b.points ≡ a.points ++ more
  pub counters : (name : EngineName) → counter name a ≤ counter name b

pub stays : (r : Regs) → Moves r r []
stays r = record { points = sym (append-nil r.points); counters = λ name. omega arith }

pub whole : (r : Regs) → IsSound r → r.points ≡ first_of r.points ∷ rest_of r.points
whole r s =
    let some : 0 < length r.points = let l : r.low * r.size < length r.points = s.live in omega arith in
    let k : (p : Point) × (qs : List Point) × (r.points ≡ p ∷ qs) = last_there r.points some in
    k.2 ∙ sym (ap (λ (ps : List Point). first_of ps ∷ rest_of ps) k.2)

pub first_stays : (a b : Regs) (more : List Point) → IsSound a → Moves a b more → first_of b.points ≡ first_of a.points
first_stays a b more s m = ap first_of (m.points ∙ ap (λ (ps : List Point). ps ++ more) (whole a s))

pub rest_grows : (a b : Regs) (more : List Point) → IsSound a → Moves a b more → rest_of b.points ≡ rest_of a.points ++ more
rest_grows a b more s m = ap rest_of (m.points ∙ ap (λ (ps : List Point). ps ++ more) (whole a s))

pub stairs_of : (r : Regs) → IsSound r → Staircase (first_of r.points ∷ rest_of r.points)
stairs_of r s = subst Staircase (whole r s) s.stairs

counters_after : (r : Regs) (p : Point) (name : EngineName) → counter name (appended r p) ≡ counter name r
counters_after r p name = go (is_full r) name
  where
    go : (b : Bool) (name : EngineName) → counter name (after_all r (cond b (Raise (r.low + 1) ∷ Append p ∷ []) (Append p ∷ []))) ≡ counter name r
    go true Mem = refl
    go true Store = refl
    go false Mem = refl
    go false Store = refl

pub append_moves : (r : Regs) (p : Point) → Moves r (appended r p) (p ∷ [])
append_moves r p = record { points = points_after_append r p; counters = λ name. let e : counter name (appended r p) ≡ counter name r = counters_after r p name in omega arith }

-- steps that append a point, where a test says so
pub steps_if : (r : Regs) (b : Bool) (p : Point) → Moves r (after_all r (cond b (append_steps r p) [])) (cond b (p ∷ []) [])
steps_if r true p = append_moves r p
steps_if r false p = stays r

pub select_moves : (r : Regs) (a now : ℕ) (s : Selected) → selected r a now ≡ Ok s → Moves r (after_selection r a now) (cond s.made (selection a s.b ∷ []) [])
select_moves r a now s e = subst (λ (x : Result Selected Recycled). Moves r (after_all r (selection_steps r a x)) (cond s.made (selection a s.b ∷ []) [])) (sym e) (steps_if r s.made (selection a s.b))

-- a selection leaves the counters
pub select_counter : (r : Regs) (a now : ℕ) (s : Selected) → selected r a now ≡ Ok s → (name : EngineName) → counter name (after_selection r a now) ≡ counter name r
select_counter r a now s e name = ap (λ (x : Result Selected Recycled). counter name (after_all r (selection_steps r a x))) e ∙ go s.made
  where
    go : (b : Bool) → counter name (after_all r (cond b (append_steps r (selection a s.b)) [])) ≡ counter name r
    go true = counters_after r (selection a s.b) name
    go false = refl

pub select_sound : (r : Regs) (a now : ℕ) → IsSound r → a ≤ r.mem → now ≤ r.store → IsSound (after_selection r a now)
select_sound r a now s l m = steps_all_sound r (selection_steps r a (selected r a now)) s ((take_steps r s).selects a now l m)

-- a draw
pub draw_mem_is : (r : Regs) (floor n : ℕ) → drawn r.mem floor ≡ Ok n → after_all r (draw_steps DrawMem (drawn r.mem floor)) ≡ record r { mem = n }
draw_mem_is r floor n e = ap (λ (x : Result ℕ DrawFault). after_all r (draw_steps DrawMem x)) e

pub draw_store_is : (r : Regs) (floor n : ℕ) → drawn r.store floor ≡ Ok n → after_all r (draw_steps DrawStore (drawn r.store floor)) ≡ record r { store = n }
draw_store_is r floor n e = ap (λ (x : Result ℕ DrawFault). after_all r (draw_steps DrawStore x)) e

err_ok : {A : Type 0} (f : DrawFault) (n : ℕ) → ◌≡◌ {A = Result ℕ DrawFault} (Err f) (Ok n) → A
err_ok f n e = absurd (clash e)
  where
    clash : ◌≡◌ {A = Result ℕ DrawFault} (Err f) (Ok n) → ⊥
    clash e = cc

ok_same : (m n : ℕ) → ◌≡◌ {A = Result ℕ DrawFault} (Ok m) (Ok n) → m ≡ n
ok_same m n e = cc

-- the number that is drawn is behind the counter, and past the floor
pub drawn_ok : (counter floor n : ℕ) → drawn counter floor ≡ Ok n → (n ≡ counter + 1) × (floor ≤ counter)
drawn_ok counter floor n e = at (counter == 2147483647) refl
  where
    at : (b : Bool) → (counter == 2147483647) ≡ b → (n ≡ counter + 1) × (floor ≤ counter)
    at true t = err_ok Spent n (sym (cond-true (counter == 2147483647) (Err Spent) (cond (nat_lt counter floor) (Err (Early floor counter)) (Ok (counter + 1))) t) ∙ e)
    at false f =
        let rest : cond (nat_lt counter floor) (Err (Early floor counter)) (Ok (counter + 1)) ≡ Ok n = sym (cond-false (counter == 2147483647) (Err Spent) (cond (nat_lt counter floor) (Err (Early floor counter)) (Ok (counter + 1))) f) ∙ e in
        ⊎_elim
        (λ (l : counter < floor). err_ok (Early floor counter) n (sym (cond-true (nat_lt counter floor) (Err (Early floor counter)) (Ok (counter + 1)) (lt-ltb counter floor l)) ∙ rest))
        (λ (l : floor ≤ counter). (sym (ok_same (counter + 1) n (sym (cond-false (nat_lt counter floor) (Err (Early floor counter)) (Ok (counter + 1)) (le-ltb counter floor l)) ∙ rest)), l))
        (cases_lt counter floor)

-- no point is past the last
climbs_upto : (p : Point) (qs : List Point) → Climbs p qs → (p.a ≤ (last_from p qs).a) × (p.b ≤ (last_from p qs).b)
climbs_upto p [] h = (omega arith, omega arith)
climbs_upto p (q ∷ qs) h =
    let k : (q.a ≤ (last_from q qs).a) × (q.b ≤ (last_from q qs).b) = climbs_upto q qs h.1 in
    let x : q.a ≤ (last_from q qs).a = k.0 in
    let y : q.b ≤ (last_from q qs).b = k.1 in
    let m : p.a ≤ q.a = h.0.a_stays in
    let n : p.b ≤ q.b = h.0.b_stays in
    (omega arith, omega arith)

each_upto : (p : Point) (qs : List Point) → Climbs p qs → Each (λ (q : Point). (q.a ≤ (last_from p qs).a) × (q.b ≤ (last_from p qs).b)) qs
each_upto p [] h = tt
each_upto p (q ∷ qs) h = (climbs_upto q qs h.1, each_upto q qs h.1)

last_is : (r : Regs) → IsSound r → last_of r.points ≡ last_from (first_of r.points) (rest_of r.points)
last_is r s = ap last_of (whole r s)

-- and so none is past the counters
pub points_drawn : (r : Regs) → IsSound r → Each (λ (q : Point). (q.a ≤ r.mem) × (q.b ≤ r.store)) (rest_of r.points)
points_drawn r s = each_weaker (λ (q : Point). (q.a ≤ (last_from (first_of r.points) (rest_of r.points)).a) × (q.b ≤ (last_from (first_of r.points) (rest_of r.points)).b)) _
    (λ q k.
    let x : q.a ≤ (last_from (first_of r.points) (rest_of r.points)).a = k.0 in
    let y : q.b ≤ (last_from (first_of r.points) (rest_of r.points)).b = k.1 in
    let m : (last_from (first_of r.points) (rest_of r.points)).a ≤ r.mem = subst (λ (p : Point). p.a ≤ r.mem) (last_is r s) s.a_drawn in
    let n : (last_from (first_of r.points) (rest_of r.points)).b ≤ r.store = subst (λ (p : Point). p.b ≤ r.store) (last_is r s) s.b_drawn in
    (omega (arith, x, m), omega (arith, y, n)))
    (rest_of r.points) (each_upto (first_of r.points) (rest_of r.points) (stairs_of r s).1)

pub first_drawn : (r : Regs) → IsSound r → (name : EngineName) → number_at name (first_of r.points) ≤ counter name r
first_drawn r s Mem =
    let k : ((first_of r.points).a ≤ (last_from (first_of r.points) (rest_of r.points)).a) × ((first_of r.points).b ≤ (last_from (first_of r.points) (rest_of r.points)).b) = climbs_upto (first_of r.points) (rest_of r.points) (stairs_of r s).1 in
    let x : (first_of r.points).a ≤ (last_from (first_of r.points) (rest_of r.points)).a = k.0 in
    let m : (last_from (first_of r.points) (rest_of r.points)).a ≤ r.mem = subst (λ (p : Point). p.a ≤ r.mem) (last_is r s) s.a_drawn in
    omega (arith, x, m)
first_drawn r s Store =
    let k : ((first_of r.points).a ≤ (last_from (first_of r.points) (rest_of r.points)).a) × ((first_of r.points).b ≤ (last_from (first_of r.points) (rest_of r.points)).b) = climbs_upto (first_of r.points) (rest_of r.points) (stairs_of r s).1 in
    let x : (first_of r.points).b ≤ (last_from (first_of r.points) (rest_of r.points)).b = k.1 in
    let m : (last_from (first_of r.points) (rest_of r.points)).b ≤ r.store = subst (λ (p : Point). p.b ≤ r.store) (last_is r s) s.b_drawn in
    omega (arith, x, m)

-- a check that passes appends its point
pub check_is : (r : Regs) (ca cb : ℕ) → passes r ca cb ≡ true → after_check r ca cb ≡ appended r (commit_point ca cb)
check_is r ca cb e = ap (λ b. after_all r (cond b (append_steps r (commit_point ca cb)) [])) e

-- a cut appends its selection, where it makes one
pub cut_moves : (r : Regs) (x y now : ℕ) → Moves r (after_cut r x y now) (cond (makes_cut r x y now) (selection x y ∷ []) [])
cut_moves r x y now = steps_if r (makes_cut r x y now) (selection x y)

pub cut_sound : (r : Regs) (x y now : ℕ) → IsSound r → x ≤ r.mem → y ≤ r.store → IsSound (after_cut r x y now)
cut_sound r x y now s l m = go (makes_cut r x y now) refl
  where
    go : (b : Bool) → makes_cut r x y now ≡ b → IsSound (after_all r (cond b (append_steps r (selection x y)) []))
    go true e = steps_all_sound r (append_steps r (selection x y)) s ((take_steps r s).cuts x y now l m e)
    go false e = s
