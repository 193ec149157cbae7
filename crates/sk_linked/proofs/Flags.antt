-- The commit steps that are left to a transaction, by what it wrote, closed and drew; seven flags, so that each claim is a table.
use Rattle.std.specs.Prelude.{List, [], ◌∷◌, ◌++◌, Bool, true, false, cond, not, ◌&&◌, ◌||◌, ◌==◌, ◌≡◌}
use Rattle.std.proofs.Common.{refl, sym, ap, subst, ◌∙◌}
use Rattle.std.proofs.lemmas.Bool.{false≢true, and_parts}
use Rattle.sk_model.specs.declared.step.StepName.{StepName}
use Rattle.sk_model.specs.declared.step.StepName.TheVariants as step
use Rattle.sk_linked.specs.Plans.{steps_of, step_number, comes_next, behind, is_none}

-- the steps that are left
abbrev pub left_of : Bool → Bool → Bool → Bool → Bool → Bool → Bool → List StepName
left_of wm ws sm ss dm ds c = cond (wm && not (sm || dm)) (step.CloseMem ∷ []) [] ++ (cond (ws && not (ss || ds)) (step.CloseStore ∷ []) [] ++ (cond (wm && not dm) (step.DrawMem ∷ []) [] ++ (cond (ws && not ds) (step.DrawStore ∷ []) []
    ++ (cond ((wm && ws) && not c) (step.Check ∷ []) [] ++ (cond (wm && (sm || not dm)) (step.StampMem ∷ []) [] ++ cond (ws && (ss || not ds)) (step.StampStore ∷ []) [])))))

abbrev pub same_steps : List StepName → List StepName → Bool
same_steps [] [] = true
same_steps [] (y ∷ ys) = false
same_steps (x ∷ xs) [] = false
same_steps (x ∷ xs) (y ∷ ys) = (step_number x == step_number y) && same_steps xs ys

abbrev pub implies : Bool → Bool → Bool
implies a b = not a || b

-- closed, drawn and committed only as the steps come
abbrev pub is_sane : Bool → Bool → Bool → Bool → Bool → Bool → Bool → Bool
is_sane wm ws sm ss dm ds c = (implies sm wm && implies ss ws) && ((implies dm wm && implies ds ws) && ((implies c (implies wm dm && implies ws ds) && implies (not c) (implies dm sm && implies ds ss)) && (implies (ds && wm) dm && implies (dm && ws) (ss || ds))))

abbrev pub is_fit : Bool → Bool → Bool → Bool → Bool → Bool → Bool → List StepName → Bool
is_fit wm ws sm ss dm ds c steps = is_sane wm ws sm ss dm ds c && same_steps steps (left_of wm ws sm ss dm ds c)

-- ---- for all flags

abbrev both : (Bool → Bool) → Bool
both f = f true && f false

both_at : (f : Bool → Bool) → both f ≡ true → (b : Bool) → f b ≡ true
both_at f h true = (and_parts (f true) (f false) h).0
both_at f h false = (and_parts (f true) (f false) h).1

abbrev Test : Type 0
Test = Bool → Bool → Bool → Bool → Bool → Bool → Bool → Bool

abbrev always : Test → Bool
always f = both (λ a. both (λ b. both (λ c. both (λ d. both (λ e. both (λ g. both (λ h. f a b c d e g h)))))))

at : (f : Test) → always f ≡ true → (a b c d e g h : Bool) → f a b c d e g h ≡ true
at f y a b c d e g h = both_at (λ h. f a b c d e g h) (both_at (λ g. both (λ h. f a b c d e g h)) (both_at (λ e. both (λ g. both (λ h. f a b c d e g h)))
    (both_at (λ d. both (λ e. both (λ g. both (λ h. f a b c d e g h)))) (both_at (λ c. both (λ d. both (λ e. both (λ g. both (λ h. f a b c d e g h)))))
    (both_at (λ b. both (λ c. both (λ d. both (λ e. both (λ g. both (λ h. f a b c d e g h)))))) (both_at (λ a. both (λ b. both (λ c. both (λ d. both (λ e. both (λ g. both (λ h. f a b c d e g h))))))) y a) b) c) d) e) g) h

implied : (a b : Bool) → implies a b ≡ true → a ≡ true → b ≡ true
implied true b h y = h
implied false b h y = absurd (false≢true y)

number_same : (x y : StepName) → (step_number x == step_number y) ≡ true → x ≡ y
number_same step.CloseMem step.CloseMem e = refl
number_same step.CloseStore step.CloseStore e = refl
number_same step.DrawMem step.DrawMem e = refl
number_same step.DrawStore step.DrawStore e = refl
number_same step.Check step.Check e = refl
number_same step.StampMem step.StampMem e = refl
number_same step.StampStore step.StampStore e = refl
number_same _ _ e = absurd (false≢true e)

pub steps_same : (xs ys : List StepName) → same_steps xs ys ≡ true → xs ≡ ys
steps_same [] [] e = refl
steps_same [] (y ∷ ys) e = absurd (false≢true e)
steps_same (x ∷ xs) [] e = absurd (false≢true e)
steps_same (x ∷ xs) (y ∷ ys) e =
    let p : ((step_number x == step_number y) ≡ true) × (same_steps xs ys ≡ true) = and_parts (step_number x == step_number y) (same_steps xs ys) e in
    ap (λ z. z ∷ xs) (number_same x y p.0) ∙ ap (λ zs. y ∷ zs) (steps_same xs ys p.1)

-- ---- the tables

abbrev starting : Test
starting wm ws sm ss dm ds c = implies ((not c && (not dm && not ds)) && (not sm && not ss)) (is_fit wm ws sm ss dm ds c (steps_of (record { mem = wm; store = ws })))

abbrev closing_mem : Test
closing_mem wm ws sm ss dm ds c = implies (is_sane wm ws sm ss dm ds c && comes_next step.CloseMem (left_of wm ws sm ss dm ds c))
    ((((not c && (not dm && not ds)) && not sm) && wm) && is_fit wm ws true ss dm ds c (behind (left_of wm ws sm ss dm ds c)))

abbrev closing_store : Test
closing_store wm ws sm ss dm ds c = implies (is_sane wm ws sm ss dm ds c && comes_next step.CloseStore (left_of wm ws sm ss dm ds c))
    ((((not c && (not dm && not ds)) && not ss) && ws) && is_fit wm ws sm true dm ds c (behind (left_of wm ws sm ss dm ds c)))

abbrev drawing_mem : Test
drawing_mem wm ws sm ss dm ds c = implies (is_sane wm ws sm ss dm ds c && comes_next step.DrawMem (left_of wm ws sm ss dm ds c))
    ((not ds && ((sm && wm) && (not c && not dm))) && is_fit wm ws sm ss true ds c (behind (left_of wm ws sm ss dm ds c)))

abbrev drawing_store : Test
drawing_store wm ws sm ss dm ds c = implies (is_sane wm ws sm ss dm ds c && comes_next step.DrawStore (left_of wm ws sm ss dm ds c))
    (((implies dm sm && ((ss && ws) && (not c && not ds)))) && is_fit wm ws sm ss dm true c (behind (left_of wm ws sm ss dm ds c)))

abbrev checking : Test
checking wm ws sm ss dm ds c = implies (is_sane wm ws sm ss dm ds c && comes_next step.Check (left_of wm ws sm ss dm ds c))
    ((((sm && ss) && not c) && (dm && ds)) && is_fit wm ws sm ss dm ds true (behind (left_of wm ws sm ss dm ds c)))

abbrev stamping_mem : Test
stamping_mem wm ws sm ss dm ds c = implies (is_sane wm ws sm ss dm ds c && comes_next step.StampMem (left_of wm ws sm ss dm ds c))
    (((sm && dm) && (c || (not ds && not ws))) && (is_none (behind (left_of wm ws sm ss dm ds c)) || (ds && is_fit wm ws false ss dm ds true (behind (left_of wm ws sm ss dm ds c)))))

abbrev stamping_store : Test
stamping_store wm ws sm ss dm ds c = implies (is_sane wm ws sm ss dm ds c && comes_next step.StampStore (left_of wm ws sm ss dm ds c))
    (((ss && ds) && (c || (not dm && not wm))) && (is_none (behind (left_of wm ws sm ss dm ds c)) || (dm && is_fit wm ws sm false dm ds true (behind (left_of wm ws sm ss dm ds c)))))

module _ (wm ws sm ss dm ds c : Bool) where
  pub starts : ((not c && (not dm && not ds)) && (not sm && not ss)) ≡ true → is_fit wm ws sm ss dm ds c (steps_of (record { mem = wm; store = ws })) ≡ true
  starts y = implied _ _ (at starting refl wm ws sm ss dm ds c) y

  -- what holds of the list that is fit holds of the steps
  both_is : (x : StepName) (steps : List StepName) → is_fit wm ws sm ss dm ds c steps ≡ true → comes_next x steps ≡ true
      → ((is_sane wm ws sm ss dm ds c && comes_next x (left_of wm ws sm ss dm ds c)) ≡ true) × (left_of wm ws sm ss dm ds c ≡ steps)
  both_is x steps f y =
      let p : (is_sane wm ws sm ss dm ds c ≡ true) × (same_steps steps (left_of wm ws sm ss dm ds c) ≡ true) = and_parts (is_sane wm ws sm ss dm ds c) (same_steps steps (left_of wm ws sm ss dm ds c)) f in
      let e : steps ≡ left_of wm ws sm ss dm ds c = steps_same steps (left_of wm ws sm ss dm ds c) p.1 in
      (subst (λ b. (b && comes_next x (left_of wm ws sm ss dm ds c)) ≡ true) (sym p.0) (subst (λ zs. comes_next x zs ≡ true) e y), sym e)

  -- a table read for steps that are fit and whose first is x
  read : (x : StepName) (says : List StepName → Bool) (steps : List StepName)
      → implies (is_sane wm ws sm ss dm ds c && comes_next x (left_of wm ws sm ss dm ds c)) (says (left_of wm ws sm ss dm ds c)) ≡ true
      → is_fit wm ws sm ss dm ds c steps ≡ true → comes_next x steps ≡ true → says steps ≡ true
  read x says steps t f y =
      let p : ((is_sane wm ws sm ss dm ds c && comes_next x (left_of wm ws sm ss dm ds c)) ≡ true) × (left_of wm ws sm ss dm ds c ≡ steps) = both_is x steps f y in
      subst (λ zs. says zs ≡ true) p.1 (implied _ _ t p.0)

  pub close_mem : (steps : List StepName) → is_fit wm ws sm ss dm ds c steps ≡ true → comes_next step.CloseMem steps ≡ true
      → ((((not c && (not dm && not ds)) && not sm) && wm) && is_fit wm ws true ss dm ds c (behind steps)) ≡ true
  close_mem steps f y = read step.CloseMem (λ zs. (((not c && (not dm && not ds)) && not sm) && wm) && is_fit wm ws true ss dm ds c (behind zs)) steps (at closing_mem refl wm ws sm ss dm ds c) f y

  pub close_store : (steps : List StepName) → is_fit wm ws sm ss dm ds c steps ≡ true → comes_next step.CloseStore steps ≡ true
      → ((((not c && (not dm && not ds)) && not ss) && ws) && is_fit wm ws sm true dm ds c (behind steps)) ≡ true
  close_store steps f y = read step.CloseStore (λ zs. (((not c && (not dm && not ds)) && not ss) && ws) && is_fit wm ws sm true dm ds c (behind zs)) steps (at closing_store refl wm ws sm ss dm ds c) f y

  pub draw_mem : (steps : List StepName) → is_fit wm ws sm ss dm ds c steps ≡ true → comes_next step.DrawMem steps ≡ true
      → ((not ds && ((sm && wm) && (not c && not dm))) && is_fit wm ws sm ss true ds c (behind steps)) ≡ true
  draw_mem steps f y = read step.DrawMem (λ zs. (not ds && ((sm && wm) && (not c && not dm))) && is_fit wm ws sm ss true ds c (behind zs)) steps (at drawing_mem refl wm ws sm ss dm ds c) f y

  pub draw_store : (steps : List StepName) → is_fit wm ws sm ss dm ds c steps ≡ true → comes_next step.DrawStore steps ≡ true
      → ((implies dm sm && ((ss && ws) && (not c && not ds))) && is_fit wm ws sm ss dm true c (behind steps)) ≡ true
  draw_store steps f y = read step.DrawStore (λ zs. (implies dm sm && ((ss && ws) && (not c && not ds))) && is_fit wm ws sm ss dm true c (behind zs)) steps (at drawing_store refl wm ws sm ss dm ds c) f y

  pub check : (steps : List StepName) → is_fit wm ws sm ss dm ds c steps ≡ true → comes_next step.Check steps ≡ true
      → ((((sm && ss) && not c) && (dm && ds)) && is_fit wm ws sm ss dm ds true (behind steps)) ≡ true
  check steps f y = read step.Check (λ zs. (((sm && ss) && not c) && (dm && ds)) && is_fit wm ws sm ss dm ds true (behind zs)) steps (at checking refl wm ws sm ss dm ds c) f y

  pub stamp_mem : (steps : List StepName) → is_fit wm ws sm ss dm ds c steps ≡ true → comes_next step.StampMem steps ≡ true
      → (((sm && dm) && (c || (not ds && not ws))) && (is_none (behind steps) || (ds && is_fit wm ws false ss dm ds true (behind steps)))) ≡ true
  stamp_mem steps f y = read step.StampMem (λ zs. ((sm && dm) && (c || (not ds && not ws))) && (is_none (behind zs) || (ds && is_fit wm ws false ss dm ds true (behind zs)))) steps (at stamping_mem refl wm ws sm ss dm ds c) f y

  pub stamp_store : (steps : List StepName) → is_fit wm ws sm ss dm ds c steps ≡ true → comes_next step.StampStore steps ≡ true
      → (((ss && ds) && (c || (not dm && not wm))) && (is_none (behind steps) || (dm && is_fit wm ws sm false dm ds true (behind steps)))) ≡ true
  stamp_store steps f y = read step.StampStore (λ zs. ((ss && ds) && (c || (not dm && not wm))) && (is_none (behind zs) || (dm && is_fit wm ws sm false dm ds true (behind zs)))) steps (at stamping_store refl wm ws sm ss dm ds c) f y
