-- A number that is used from now on: the list of numbers, and the horizon.
use Rattle.std.specs.Prelude.{◌≡◌, ℕ, ◌<◌, ◌≤◌, List, [], ◌∷◌, ◌++◌, Option, Some, None, Bool, true, false, cond, ◌||◌, ◌==◌, nat_lt, IfSome, is_some}
use Rattle.std.proofs.Common.{refl, sym, ap, subst, ◌∙◌, ⊎_elim, arith}
use Rattle.std.specs.List.{filter, list_any}
use Rattle.std.specs.declared.cmp.Ordering.{Ordering}
use Rattle.std.specs.declared.cmp.Ordering.TheVariants.{Less, Equal, Greater}
use Rattle.std.specs.Ordering.{nat_cmp}
use Rattle.std.specs.Cmp.{nat_cmp_is, unsigned_tied, nat_cmp_total}
use Rattle.std.specs.FinMap.{find, put}
use Rattle.std.specs.FinMap.Entries.{by_order, find-put}
use Rattle.std.proofs.lemmas.Grind.{flat_map-append}
use Rattle.std.proofs.lemmas.Bool.{cases_lt, cond-true, false≢true, lt-ltb, eq-eqb}
use Rattle.std.proofs.lemmas.List.Folds.{list_any-append}
use Rattle.sk_model.specs.declared.label.Label.{Label}
use Rattle.sk_model.specs.Numbers.{Rises}
use Rattle.sk_model.specs.Engine.{EngineTable}
use Rattle.sk_model.specs.EngineReplies.{is_used, last_in}
use Rattle.sk_model.proofs.Lists.{Each, each_append}
use Rattle.sk_engine.specs.declared.row_id.RowId.{RowId}
use Rattle.sk_engine.specs.Counts.{Used, number_in, stamped_in, stamped_of}

-- ---- order

not_step : {X : Type 0} (q : X → Bool) (x : X) (xs : List X) (b : Bool) → q x ≡ b → (list_any q xs ≡ false → Each (λ x. q x ≡ false) xs) → (b || list_any q xs) ≡ false → (q x ≡ false) × Each (λ x. q x ≡ false) xs
not_step q x xs true d ih e = absurd (false≢true (sym e))
not_step q x xs false d ih e = (d, ih e)

pub each_not : {X : Type 0} (q : X → Bool) (xs : List X) → list_any q xs ≡ false → Each (λ x. q x ≡ false) xs
each_not q [] e = tt
each_not q (x ∷ xs) e = not_step q x xs (q x) refl (each_not q xs) e

pub below_all : (m low : ℕ) (front back : List Used) → Rises number_in low (front ++ back) → IfSome (last_in None front) (λ (u : Used). u.n < m) → Each (λ (u : Used). u.n < m) front
below_all m low [] back r h = tt
below_all m low (y ∷ []) back r h = (h, tt)
below_all m low (y ∷ z ∷ zs) back r h =
    let rest : Each (λ (u : Used). u.n < m) (z ∷ zs) = below_all m r.0 (z ∷ zs) back r.3 (again z zs h) in
    let here : y.n ≡ r.0 = one y.n r.0 r.1 in
    let next : z.n ≡ r.3.0 = one z.n r.3.0 r.3.1 in
    let l : r.0 < r.3.0 = r.3.2 in
    let k : z.n < m = rest.0 in
    (omega arith, rest)
  where
    one : (a b : ℕ) → Some a ≡ Some b → a ≡ b
    one a b e = cc

    again : (z : Used) (zs : List Used) → IfSome (last_in (Some y) (z ∷ zs)) (λ (u : Used). u.n < m) → IfSome (last_in None (z ∷ zs)) (λ (u : Used). u.n < m)
    again z zs h = h

pub above_all : (m : ℕ) (back : List Used) → Each (λ (u : Used). m ≤ u.n) back → Each (λ (u : Used). (u.n == m) ≡ false) back → Each (λ (u : Used). m < u.n) back
above_all m [] h k = tt
above_all m (u ∷ us) h k = (⊎_elim (λ (l : m < u.n). l) (λ (le : u.n ≤ m). let ge : m ≤ u.n = h.0 in let e : u.n ≡ m = omega arith in absurd (false≢true (sym k.0 ∙ eq-eqb u.n m e))) (cases_lt m u.n), above_all m us h.1 k.1)

pub some_one : (a b : ℕ) → Some a ≡ Some b → a ≡ b
some_one a b e = cc

pub rises_past : (low m : ℕ) (back : List Used) → Rises number_in low back → Each (λ (u : Used). m < u.n) back → Rises number_in m back
rises_past low m [] r h = tt
rises_past low m (u ∷ us) r h = let e : u.n ≡ r.0 = some_one u.n r.0 r.1 in let l : m < u.n = h.0 in (r.0, r.1, omega arith, r.3)

pub rises_low : (low : ℕ) (front back : List Used) → Rises number_in low (front ++ back) → (n : ℕ) × Rises number_in n back
rises_low low [] back r = (low, r)
rises_low low (u ∷ us) back r = rises_low r.0 us back r.3

pub rises_more : (low : ℕ) (front back : List Used) (x : Used) → Rises number_in low (front ++ back) → low < x.n → Each (λ (u : Used). u.n < x.n) front → Each (λ (u : Used). x.n < u.n) back
    → Rises number_in low (front ++ x ∷ back)
rises_more low [] back x r l f b = (x.n, refl, l, rises_past low x.n back r b)
rises_more low (u ∷ us) back x r l f b =
    let e : u.n ≡ r.0 = some_one u.n r.0 r.1 in
    let k : u.n < x.n = f.0 in
    (r.0, r.1, r.2, rises_more r.0 us back x r.3 (omega arith) f.1 b)

-- ---- the stamped ones

put_step : (p m : ℕ) (tx : Label) (y : ℕ × Label) (ys : List (ℕ × Label)) → p < m → filter (λ x. nat_lt p x.0) (put nat_cmp m tx ys) ≡ put nat_cmp m tx (filter (λ x. nat_lt p x.0) ys)
    → (o : Ordering) → o ≡ nat_cmp m y.0 → (o ≡ Less → m < y.0) → (o ≡ Equal → m ≡ y.0)
    → filter (λ x. nat_lt p x.0) (by_order o ((m, tx) ∷ y ∷ ys) ((y.0, tx) ∷ ys) (y ∷ put nat_cmp m tx ys)) ≡ put nat_cmp m tx (cond (nat_lt p y.0) (y ∷ filter (λ x. nat_lt p x.0) ys) (filter (λ x. nat_lt p x.0) ys))
put_step p m tx y ys l ih Less e less same =
    let far : m < y.0 = less refl in
    let yes : nat_lt p m ≡ true = lt-ltb p m l in
    let also : nat_lt p y.0 ≡ true = lt-ltb p y.0 (omega arith) in
    rw (yes, also) (ap (λ o. by_order o ((m, tx) ∷ y ∷ filter (λ x. nat_lt p x.0) ys) ((y.0, tx) ∷ filter (λ x. nat_lt p x.0) ys) (y ∷ put nat_cmp m tx (filter (λ x. nat_lt p x.0) ys))) e)
put_step p m tx y ys l ih Equal e less same =
    let at : m ≡ y.0 = same refl in
    let also : nat_lt p y.0 ≡ true = lt-ltb p y.0 (omega arith) in
    rw also (ap (λ o. by_order o ((m, tx) ∷ y ∷ filter (λ x. nat_lt p x.0) ys) ((y.0, tx) ∷ filter (λ x. nat_lt p x.0) ys) (y ∷ put nat_cmp m tx (filter (λ x. nat_lt p x.0) ys))) e)
put_step p m tx y ys l ih Greater e less same = go (nat_lt p y.0)
  where
    go : (b : Bool) → cond b (y ∷ filter (λ x. nat_lt p x.0) (put nat_cmp m tx ys)) (filter (λ x. nat_lt p x.0) (put nat_cmp m tx ys)) ≡ put nat_cmp m tx (cond b (y ∷ filter (λ x. nat_lt p x.0) ys) (filter (λ x. nat_lt p x.0) ys))
    go true = ap (λ zs. y ∷ zs) ih ∙ ap (λ o. by_order o ((m, tx) ∷ y ∷ filter (λ x. nat_lt p x.0) ys) ((y.0, tx) ∷ filter (λ x. nat_lt p x.0) ys) (y ∷ put nat_cmp m tx (filter (λ x. nat_lt p x.0) ys))) e
    go false = ih

order_of : (m n : ℕ) → (o : Ordering) × (o ≡ nat_cmp m n) × (o ≡ Less → m < n) × (o ≡ Equal → m ≡ n)
order_of m n = ⊎_elim
    (λ (l : m < n). (Less, nat_cmp_is m n Less l, (λ e. l), (λ e. absurd (less_equal e))))
    (λ (g : n ≤ m). ⊎_elim
    (λ (l : n < m). (Greater, nat_cmp_is m n Greater l, (λ e. absurd (greater_less e)), (λ e. absurd (greater_equal e))))
    (λ (k : m ≤ n). let same : m ≡ n = omega arith in (Equal, nat_cmp_is m n Equal same, (λ e. absurd (equal_less e)), (λ e. same)))
    (cases_lt n m))
    (cases_lt m n)
  where
    less_equal : Less ≡ Equal → ⊥
    less_equal e = cc

    greater_less : Greater ≡ Less → ⊥
    greater_less e = cc

    greater_equal : Greater ≡ Equal → ⊥
    greater_equal e = cc

    equal_less : Equal ≡ Less → ⊥
    equal_less e = cc

filter_put : (p m : ℕ) (tx : Label) (ys : List (ℕ × Label)) → p < m → filter (λ x. nat_lt p x.0) (put nat_cmp m tx ys) ≡ put nat_cmp m tx (filter (λ x. nat_lt p x.0) ys)
filter_put p m tx [] l = cond-true (nat_lt p m) ((m, tx) ∷ []) [] (lt-ltb p m l)
filter_put p m tx (y ∷ ys) l =
    let o = order_of m y.0 in
    ap (λ r. filter (λ x. nat_lt p x.0) (by_order r ((m, tx) ∷ y ∷ ys) ((y.0, tx) ∷ ys) (y ∷ put nat_cmp m tx ys))) (sym o.1)
    ∙ put_step p m tx y ys l (filter_put p m tx ys l) o.0 o.1 o.2 o.3

put_between : (m : ℕ) (tx : Label) (xs ys : List (ℕ × Label)) → Each (λ (q : ℕ × Label). q.0 < m) xs → Each (λ (q : ℕ × Label). m < q.0) ys → put nat_cmp m tx (xs ++ ys) ≡ xs ++ (m, tx) ∷ ys
put_between m tx [] [] h k = refl
put_between m tx [] (y ∷ ys) h k = ap (λ o. by_order o ((m, tx) ∷ y ∷ ys) ((y.0, tx) ∷ ys) (y ∷ put nat_cmp m tx ys)) (sym (nat_cmp_is m y.0 Less k.0))
put_between m tx (x ∷ xs) ys h k =
    ap (λ o. by_order o ((m, tx) ∷ x ∷ (xs ++ ys)) ((x.0, tx) ∷ (xs ++ ys)) (x ∷ put nat_cmp m tx (xs ++ ys))) (sym (nat_cmp_is m x.0 Greater h.0)) ∙ ap (λ zs. x ∷ zs) (put_between m tx xs ys h.1 k)

pub each_stamped : (P : ℕ → Type 0) (us : List Used) → Each (λ (u : Used). P u.n) us → Each (λ (q : ℕ × Label). P q.0) (stamped_of us)
each_stamped P [] h = tt
each_stamped P (u ∷ us) h = each_append (λ (q : ℕ × Label). P q.0) (stamped_in u u.wrote) (stamped_of us) (one u.wrote) (each_stamped P us h.1)
  where
    one : (o : Option (List RowId)) → Each (λ (q : ℕ × Label). P q.0) (stamped_in u o)
    one None = tt
    one (Some w) = (h.0, tt)

pub stamped_more : (p : ℕ) (tx : Label) (stamped : List (ℕ × Label)) (front back : List Used) (m : ℕ) (row_ids : List RowId) → p < m → Each (λ (u : Used). u.n < m) front → Each (λ (u : Used). m < u.n) back
    → filter (λ x. nat_lt p x.0) stamped ≡ stamped_of (front ++ back)
    → filter (λ x. nat_lt p x.0) (put nat_cmp m tx stamped) ≡ stamped_of (front ++ record { n = m; by = tx; wrote = Some row_ids } ∷ back)
stamped_more p tx stamped front back m row_ids l f b is =
    filter_put p m tx stamped l ∙ ap (put nat_cmp m tx) (is ∙ flat_map-append (λ u. stamped_in u u.wrote) front back)
    ∙ put_between m tx (stamped_of front) (stamped_of back) (each_stamped (λ n. n < m) front f) (each_stamped (λ n. m < n) back b)
    ∙ sym (flat_map-append (λ u. stamped_in u u.wrote) front (record { n = m; by = tx; wrote = Some row_ids } ∷ back))

pub stamped_void : (front back : List Used) (m : ℕ) (tx : Label) → stamped_of (front ++ back) ≡ stamped_of (front ++ record { n = m; by = tx; wrote = None } ∷ back)
stamped_void front back m tx = flat_map-append (λ u. stamped_in u u.wrote) front back ∙ sym (flat_map-append (λ u. stamped_in u u.wrote) front (record { n = m; by = tx; wrote = None } ∷ back))

-- ---- which are used

or_swap : (a b c : Bool) → (a || (b || c)) ≡ (b || (a || c))
or_swap true true c = refl
or_swap true false c = refl
or_swap false true c = refl
or_swap false false c = refl

pub used_more : (k : ℕ) (front back : List Used) (x : Used) → list_any (λ (u : Used). u.n == k) (front ++ x ∷ back) ≡ ((x.n == k) || list_any (λ (u : Used). u.n == k) (front ++ back))
used_more k [] back x = refl
used_more k (u ∷ us) back x = ap (λ b. (u.n == k) || b) (used_more k us back x) ∙ or_swap (u.n == k) (x.n == k) (list_any (λ (u : Used). u.n == k) (us ++ back))

pub used_stamp : (e : EngineTable) (tx : Label) (m k : ℕ) → (is_some (find nat_cmp k (put nat_cmp m tx e.stamped)) || list_any (◌==◌ k) e.voided) ≡ ((m == k) || is_used e k)
used_stamp e tx m k = ap (λ o. is_some o || list_any (◌==◌ k) e.voided) (find-put nat_cmp nat_cmp_total k m tx e.stamped) ∙ ap (λ b. is_some (cond b (Some tx) (find nat_cmp k e.stamped)) || list_any (◌==◌ k) e.voided) (unsigned_tied k m ∙ flip k m)
    ∙ go (m == k)
  where
    flip : (a b : ℕ) → (a == b) ≡ (b == a)
    flip a b = grind arith

    go : (b : Bool) → (is_some (cond b (Some tx) (find nat_cmp k e.stamped)) || list_any (◌==◌ k) e.voided) ≡ (b || (is_some (find nat_cmp k e.stamped) || list_any (◌==◌ k) e.voided))
    go true = refl
    go false = refl

pub used_void : (e : EngineTable) (m k : ℕ) → (is_some (find nat_cmp k e.stamped) || list_any (◌==◌ k) (e.voided ++ m ∷ [])) ≡ ((m == k) || is_used e k)
used_void e m k = ap (λ b. is_some (find nat_cmp k e.stamped) || b) (list_any-append (◌==◌ k) e.voided (m ∷ [])) ∙ go (is_some (find nat_cmp k e.stamped)) (list_any (◌==◌ k) e.voided) (k == m) (m == k) (flip k m)
  where
    flip : (a b : ℕ) → (a == b) ≡ (b == a)
    flip a b = grind arith

    go : (a b c d : Bool) → c ≡ d → (a || (b || (c || false))) ≡ (d || (a || b))
    go true b true d e = subst (λ x. true ≡ (x || true)) e refl
    go true b false d e = subst (λ x. true ≡ (x || true)) e refl
    go false true true d e = subst (λ x. true ≡ (x || true)) e refl
    go false true false d e = subst (λ x. true ≡ (x || true)) e refl
    go false false true d e = e ∙ or_off d
      where
        or_off : (d : Bool) → d ≡ (d || false)
        or_off true = refl
        or_off false = refl
    go false false false d e = e ∙ or_off d
      where
        or_off : (d : Bool) → d ≡ (d || false)
        or_off true = refl
        or_off false = refl
