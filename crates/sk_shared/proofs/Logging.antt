-- What a call of the registry leaves of it and of the list of all its points.
use Rattle.std.specs.Prelude.{◌≡◌, ℕ, ◌<◌, ◌≤◌, ◌==◌, ◌+◌, List, [], ◌∷◌, ◌++◌, Result, Ok, Err, Bool, true, false, cond, nat_lt}
use Rattle.std.proofs.Common.{refl, sym, ap, subst, ◌∙◌, arith, append-nil}
use Rattle.std.proofs.lemmas.Bool.{ltb-false}
use Rattle.sk_model.specs.declared.point.Point.{Point}
use Rattle.sk_model.specs.declared.point.Recycled.{Recycled}
use Rattle.sk_model.specs.Numbers.{greatest_number}
use Rattle.sk_weave.specs.declared.answer.Selected.{Selected}
use Rattle.sk_weave.specs.declared.answer.DrawFault.{DrawFault}
use Rattle.sk_weave.specs.declared.answer.DrawFault.TheVariants.{Spent, Early}
use Rattle.sk_weave.specs.declared.answer.Passed.{Passed}
use Rattle.sk_weave.specs.declared.answer.CutFound.{CutFound}
use Rattle.sk_weave.specs.declared.event.Event.{Event}
use Rattle.sk_weave.specs.declared.event.Event.TheVariants as event
use Rattle.sk_weave.specs.Points.{selection, commit_point, pick}
use Rattle.sk_weave.specs.Promise.{Answers}
use Rattle.sk_weave.specs.Registry.{Regs, oldest_of, last_of, after_all, append_steps, selected, selection_steps, after_selection, drawn, draw_steps, after_draw_mem, after_draw_store, passes, checked, after_check, makes_cut, after_cut, cut_found}
use Rattle.sk_weave.proofs.Registers.{points_after_append}
use Rattle.sk_points.specs.declared.points.Points.{Points}
use Rattle.sk_points.specs.Stands.{StandsFor}
use Rattle.sk_commit.specs.declared.asking.RegistryCall.{RegistryCall}
use Rattle.sk_commit.specs.declared.asking.RegistryCall.TheVariants as reg
use Rattle.sk_commit.specs.declared.asking.RegistryReply.{RegistryReply}
use Rattle.sk_commit.specs.declared.asking.RegistryReply.TheVariants as told
use Rattle.sk_shared.specs.Logged.{Logged, IsLogged, Registered, CutsLog, LogsSame, ShowsOldest}

abbrev pub log : Points → List Point → Logged
log p xs = record { points = p; all = xs }

-- what was answered leaves it in use
pub still : (old new : Logged) (asked : RegistryCall) (reply : RegistryReply) → IsLogged old → Registered old asked reply new → IsLogged new
still old new asked reply u g = let k = g u.0 u.1 in (k.0, k.2)

-- a look at a counter leaves it as it was
pub looked : (p q : Points) (xs : List Point) (Answer : Regs → Type 0) → Answers StandsFor p q Answer (λ r. r) → IsLogged (log p xs) → IsLogged (log q xs)
looked p q xs Answer h u = (u.0, record { stands = (h u.0 u.1.stands).1; all = u.1.all })

pub begins : (p q : Points) (xs : List Point) (n : ℕ) → Answers StandsFor p q (λ r. n ≡ r.mem) (λ r. r) → Registered (log p xs) reg.Begin (told.Number n) (log q xs)
begins p q xs n h r l = let k = h r l.stands in (r, (k.0, refl), record { stands = k.1; all = l.all })

-- ---- the points behind a call

points_if : (r : Regs) (q : Point) (b : Bool) → (after_all r (cond b (append_steps r q) [])).points ≡ r.points ++ cond b (q ∷ []) []
points_if r q true = points_after_append r q
points_if r q false = sym (append-nil r.points)

selection_points : (r : Regs) (a now : ℕ) (s : Selected) → selected r a now ≡ Ok s → (after_selection r a now).points ≡ r.points ++ cond s.made (selection a s.b ∷ []) []
selection_points r a now s is = ap (λ (o : Result Selected Recycled). (after_all r (selection_steps r a o)).points) is ∙ points_if r (selection a s.b) s.made

refused_selection : (r : Regs) (a now : ℕ) (e : Recycled) → selected r a now ≡ Err e → after_selection r a now ≡ r
refused_selection r a now e is = ap (λ (o : Result Selected Recycled). after_all r (selection_steps r a o)) is

-- ---- a selection

pub selects : (p p1 p2 : Points) (xs ys : List Point) (a n : ℕ) (result : Result Selected Recycled) (s : Selected) → Answers StandsFor p p1 (λ r. n ≡ r.mem) (λ r. r) → a ≤ n
    → Answers StandsFor p1 p2 (λ r. result ≡ selected r a r.store) (λ r. after_selection r a r.store) → result ≡ Ok s → ys ≡ xs ++ cond s.made (selection a s.b ∷ []) []
    → Registered (log p xs) (reg.Select a) (told.Selected s) (log p2 ys)
selects p p1 p2 xs ys a n result s h le g is more r l =
    let k = h r l.stands in
    let m = g r k.1 in
    let found : selected r a r.store ≡ Ok s = sym m.0 ∙ is in (
      after_selection r a r.store,
      (subst (λ x. a ≤ x) k.0 le, found, refl),
      record { stands = m.1; all = more ∙ ap (λ zs. zs ++ cond s.made (selection a s.b ∷ []) []) l.all ∙ sym (selection_points r a r.store s found) },
    )

pub recycles : (p p1 p2 : Points) (xs : List Point) (a : ℕ) (Answer : Regs → Type 0) (result : Result Selected Recycled) (e : Recycled) → Answers StandsFor p p1 Answer (λ r. r)
    → Answers StandsFor p1 p2 (λ r. result ≡ selected r a r.store) (λ r. after_selection r a r.store) → result ≡ Err e → Registered (log p xs) (reg.Select a) (told.Recycled e) (log p2 xs)
recycles p p1 p2 xs a Answer result e h g is r l =
    let m = g r (h r l.stands).1 in
    let found : selected r a r.store ≡ Err e = sym m.0 ∙ is in
    (r, (found, refl), record { stands = subst (StandsFor p2) (refused_selection r a r.store e found) m.1; all = l.all })

pub unmade : (p q : Points) (xs : List Point) (a : ℕ) (Answer : Regs → Type 0) → Answers StandsFor p q Answer (λ r. r) → Registered (log p xs) (reg.Select a) told.NoMemory (log q xs)
unmade p q xs a Answer h r l = (r, refl, record { stands = (h r l.stands).1; all = l.all })

abbrev anchor_or : ℕ → Result Selected Recycled → ℕ
anchor_or a (Ok s) = a
anchor_or a (Err e) = e.a

names_anchor : (r : Regs) (a now : ℕ) → anchor_or a (selected r a now) ≡ a
names_anchor r a now = by (nat_lt a (oldest_of r).a)
  where
    by : (b : Bool) → anchor_or a (cond b (Err (record { a = a; oldest = oldest_of r })) (Ok (pick r.points a now))) ≡ a
    by true = refl
    by false = refl

-- a refused selection names its anchor
pub recycled_fits : (p p1 p2 : Points) (xs : List Point) (a : ℕ) (Answer : Regs → Type 0) (result : Result Selected Recycled) (e : Recycled) → IsLogged (log p xs) → Answers StandsFor p p1 Answer (λ r. r)
    → Answers StandsFor p1 p2 (λ r. result ≡ selected r a r.store) (λ r. after_selection r a r.store) → result ≡ Err e → e.a ≡ a
recycled_fits p p1 p2 xs a Answer result e u h g is =
    let m = g u.0 (h u.0 u.1.stands).1 in
    sym (ap (anchor_or a) (sym m.0 ∙ is)) ∙ names_anchor u.0 a u.0.store

-- ---- a draw

draw_points : (r : Regs) (event : ℕ → Event) → ((n : ℕ) → (after_all r (event n ∷ [])).points ≡ r.points) → (o : Result ℕ DrawFault) → (after_all r (draw_steps event o)).points ≡ r.points
draw_points r event h (Ok n) = h n
draw_points r event h (Err e) = refl

abbrev Past : ℕ → Result ℕ DrawFault → Type 0
Past floor (Ok n) = floor < n
Past floor (Err e) = Unit {0}

-- a number that is drawn is past the floor
drawn_past : (counter floor n : ℕ) → drawn counter floor ≡ Ok n → floor < n
drawn_past counter floor n is = subst (Past floor) is (past (counter == greatest_number) (nat_lt counter floor) refl)
  where
    past : (b d : Bool) → nat_lt counter floor ≡ d → Past floor (cond b (Err Spent) (cond d (Err (Early floor counter)) (Ok (counter + 1))))
    past true d e = tt
    past false true e = tt
    past false false e = omega (arith, ltb-false counter floor e)

pub mem_draws : (p q : Points) (xs : List Point) (floor : ℕ) (result : Result ℕ DrawFault) (n : ℕ) → Answers StandsFor p q (λ r. result ≡ drawn r.mem floor) (λ r. after_draw_mem r floor) → result ≡ Ok n
    → Registered (log p xs) (reg.DrawMem floor) (told.Number n) (log q xs)
mem_draws p q xs floor result n h is r l =
    let m = h r l.stands in
    (after_draw_mem r floor, (sym m.0 ∙ is, refl), record { stands = m.1; all = l.all ∙ sym (draw_points r event.DrawMem (λ k. refl) (drawn r.mem floor)) })

pub mem_undrawn : (p q : Points) (xs : List Point) (floor : ℕ) (result : Result ℕ DrawFault) (f : DrawFault) → Answers StandsFor p q (λ r. result ≡ drawn r.mem floor) (λ r. after_draw_mem r floor) → result ≡ Err f
    → Registered (log p xs) (reg.DrawMem floor) (told.NotDrawn f) (log q xs)
mem_undrawn p q xs floor result f h is r l =
    let m = h r l.stands in
    let fails : drawn r.mem floor ≡ Err f = sym m.0 ∙ is in
    let same : after_draw_mem r floor ≡ r = ap (λ (o : Result ℕ DrawFault). after_all r (draw_steps event.DrawMem o)) fails in
    (r, (fails, refl), record { stands = subst (StandsFor q) same m.1; all = l.all })

pub mem_fits : (p q : Points) (xs : List Point) (floor : ℕ) (result : Result ℕ DrawFault) (n : ℕ) → IsLogged (log p xs) → Answers StandsFor p q (λ r. result ≡ drawn r.mem floor) (λ r. after_draw_mem r floor) → result ≡ Ok n → floor < n
mem_fits p q xs floor result n u h is = drawn_past u.0.mem floor n (sym (h u.0 u.1.stands).0 ∙ is)

pub store_draws : (p q : Points) (xs : List Point) (floor : ℕ) (result : Result ℕ DrawFault) (n : ℕ) → Answers StandsFor p q (λ r. result ≡ drawn r.store floor) (λ r. after_draw_store r floor) → result ≡ Ok n
    → Registered (log p xs) (reg.DrawStore floor) (told.Number n) (log q xs)
store_draws p q xs floor result n h is r l =
    let m = h r l.stands in
    (after_draw_store r floor, (sym m.0 ∙ is, refl), record { stands = m.1; all = l.all ∙ sym (draw_points r event.DrawStore (λ k. refl) (drawn r.store floor)) })

pub store_undrawn : (p q : Points) (xs : List Point) (floor : ℕ) (result : Result ℕ DrawFault) (f : DrawFault) → Answers StandsFor p q (λ r. result ≡ drawn r.store floor) (λ r. after_draw_store r floor) → result ≡ Err f
    → Registered (log p xs) (reg.DrawStore floor) (told.NotDrawn f) (log q xs)
store_undrawn p q xs floor result f h is r l =
    let m = h r l.stands in
    let fails : drawn r.store floor ≡ Err f = sym m.0 ∙ is in
    let same : after_draw_store r floor ≡ r = ap (λ (o : Result ℕ DrawFault). after_all r (draw_steps event.DrawStore o)) fails in
    (r, (fails, refl), record { stands = subst (StandsFor q) same m.1; all = l.all })

pub store_fits : (p q : Points) (xs : List Point) (floor : ℕ) (result : Result ℕ DrawFault) (n : ℕ) → IsLogged (log p xs) → Answers StandsFor p q (λ r. result ≡ drawn r.store floor) (λ r. after_draw_store r floor) → result ≡ Ok n → floor < n
store_fits p q xs floor result n u h is = drawn_past u.0.store floor n (sym (h u.0 u.1.stands).0 ∙ is)

-- ---- a check

abbrev is_passed : Result (Unit {0}) Passed → Bool
is_passed (Ok x) = true
is_passed (Err e) = false

passes_is : (r : Regs) (ca cb : ℕ) → is_passed (checked r ca cb) ≡ passes r ca cb
passes_is r ca cb = by (passes r ca cb)
  where
    by : (b : Bool) → is_passed (cond b (Ok tt) (Err (record { point = last_of r.points }))) ≡ b
    by true = refl
    by false = refl

pub checks : (p p1 p2 p3 : Points) (xs ys : List Point) (ca cb m n : ℕ) (result : Result (Unit {0}) Passed) (x : Unit {0}) → Answers StandsFor p p1 (λ r. m ≡ r.mem) (λ r. r) → ca ≤ m
    → Answers StandsFor p1 p2 (λ r. n ≡ r.store) (λ r. r) → cb ≤ n → Answers StandsFor p2 p3 (λ r. result ≡ checked r ca cb) (λ r. after_check r ca cb) → result ≡ Ok x → ys ≡ xs ++ commit_point ca cb ∷ []
    → Registered (log p xs) (reg.Check ca cb) told.Done (log p3 ys)
checks p p1 p2 p3 xs ys ca cb m n result x h le k le2 g is more r l =
    let a = h r l.stands in
    let b = k r a.1 in
    let c = g r b.1 in
    let through : passes r ca cb ≡ true = sym (passes_is r ca cb) ∙ ap is_passed (sym c.0 ∙ is) in
    let points : (after_check r ca cb).points ≡ r.points ++ commit_point ca cb ∷ [] = points_if r (commit_point ca cb) (passes r ca cb) ∙ ap (λ t. r.points ++ cond t (commit_point ca cb ∷ []) []) through in (
      after_check r ca cb,
      (subst (λ y. ca ≤ y) a.0 le, subst (λ y. cb ≤ y) b.0 le2, through, refl),
      record { stands = c.1; all = more ∙ ap (λ zs. zs ++ commit_point ca cb ∷ []) l.all ∙ sym points },
    )

pub refuses : (p p1 p2 p3 : Points) (xs : List Point) (ca cb : ℕ) (Answer More : Regs → Type 0) (result : Result (Unit {0}) Passed) (e : Passed) → Answers StandsFor p p1 Answer (λ r. r)
    → Answers StandsFor p1 p2 More (λ r. r) → Answers StandsFor p2 p3 (λ r. result ≡ checked r ca cb) (λ r. after_check r ca cb) → result ≡ Err e
    → Registered (log p xs) (reg.Check ca cb) (told.Passed e) (log p3 xs)
refuses p p1 p2 p3 xs ca cb Answer More result e h k g is r l =
    let c = g r (k r (h r l.stands).1).1 in
    let fails : checked r ca cb ≡ Err e = sym c.0 ∙ is in
    let stopped : passes r ca cb ≡ false = sym (passes_is r ca cb) ∙ ap is_passed fails in
    let same : after_check r ca cb ≡ r = ap (λ t. after_all r (cond t (append_steps r (commit_point ca cb)) [])) stopped in
    (r, (fails, refl), record { stands = subst (StandsFor p3) same c.1; all = l.all })

-- ---- the cut of a flush

pub cuts : (p p1 p2 p3 : Points) (xs ys : List Point) (x y m n : ℕ) (found : CutFound) → Answers StandsFor p p1 (λ r. m ≡ r.mem) (λ r. r) → x ≤ m → Answers StandsFor p1 p2 (λ r. n ≡ r.store) (λ r. r) → y ≤ n
    → Answers StandsFor p2 p3 (λ r. found ≡ cut_found r x y r.store) (λ r. after_cut r x y r.store) → ys ≡ xs ++ cond found.made (selection x y ∷ []) [] → CutsLog (log p xs) x y found (log p3 ys)
cuts p p1 p2 p3 xs ys x y m n found h le k le2 g more r l =
    let a = h r l.stands in
    let b = k r a.1 in
    let c = g r b.1 in
    let points : (after_cut r x y r.store).points ≡ r.points ++ cond (makes_cut r x y r.store) (selection x y ∷ []) [] = points_if r (selection x y) (makes_cut r x y r.store) in (
      subst (λ t. x ≤ t) a.0 le,
      subst (λ t. y ≤ t) b.0 le2,
      c.0,
      record {
        stands = c.1;
        all = more ∙ ap (λ (t : CutFound). xs ++ cond t.made (selection x y ∷ []) []) c.0 ∙ ap (λ zs. zs ++ cond (makes_cut r x y r.store) (selection x y ∷ []) []) l.all ∙ sym points;
      },
    )

-- looks at the counters leave it as it was
pub looked_same : (p p1 p2 : Points) (xs : List Point) (A B : Regs → Type 0) → Answers StandsFor p p1 A (λ r. r) → Answers StandsFor p1 p2 B (λ r. r) → LogsSame (log p xs) (log p2 xs)
looked_same p p1 p2 xs A B h k r l = record { stands = (k r (h r l.stands).1).1; all = l.all }
