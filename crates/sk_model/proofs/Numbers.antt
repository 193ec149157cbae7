-- Lists in which a number rises.
use Rattle.std.specs.Prelude.{ℕ, List, [], ◌∷◌, ◌++◌, Option, Some, None, Bool, true, false, cond, ◌==◌, ◌≡◌, ◌<◌, ◌≤◌, ◌-◌, nat_lt, nat_le, length, take, drop}
use Rattle.std.proofs.Common.{refl, ap, ⊎_elim, arith}
use Rattle.std.specs.List.{filter, prefix_len}
use Rattle.std.proofs.lemmas.Bool.{cases_lt, cond_both, false≢true, and_parts, ltb-true, lt-ltb, lt-leb}
use Rattle.std.proofs.lemmas.Bool.Decides.{nat_tests}
use Rattle.std.proofs.lemmas.List.{take_at, drop_at}
use Rattle.sk_model.specs.Numbers.{there, within, Rises}
use Rattle.sk_model.proofs.Lists.{Each}

pub there_is : (test : ℕ → Bool) (o : Option ℕ) → there test o ≡ true → (n : ℕ) × (o ≡ Some n) × (test n ≡ true)
there_is test None e = absurd (false≢true e)
there_is test (Some n) e = (n, refl, e)

pub none_pass : {X : Type 0} (f : X → Option ℕ) (test : ℕ → Bool) (low : ℕ) (xs : List X) → Rises f low xs → ((n : ℕ) → low < n → test n ≡ false) → filter (λ c. there test (f c)) xs ≡ []
none_pass f test low [] h fails = refl
none_pass f test low (c ∷ xs) h fails =
    let ih : filter (λ c. there test (f c)) xs ≡ [] = none_pass f test h.0 xs h.3 (λ n l. fails n (omega arith)) in
    rw h.1 (rw (fails h.0 h.2) ih)

-- a test that is one test up to mid, and another past it
pub split_at : {X : Type 0} (f : X → Option ℕ) (test below above : ℕ → Bool) (mid : ℕ)
    → ((n : ℕ) → n ≤ mid → (test n ≡ below n) × (above n ≡ false)) → ((n : ℕ) → mid < n → (test n ≡ above n) × (below n ≡ false))
    → (low : ℕ) (xs : List X) → Rises f low xs
    → filter (λ c. there test (f c)) xs ≡ filter (λ c. there below (f c)) xs ++ filter (λ c. there above (f c)) xs
split_at f test below above mid small large low [] h = refl
split_at {X = X} f test below above mid small large low (c ∷ xs) h =
    let front = filter (λ c. there below (f c)) xs in
    let back = filter (λ c. there above (f c)) xs in
    let all = filter (λ c. there test (f c)) xs in
    let ih : all ≡ front ++ back = split_at f test below above mid small large h.0 xs h.3 in
    ⊎_elim
    (λ (gt : mid < h.0).
    let none : front ≡ [] = none_pass f below h.0 xs h.3 (λ n l. (large n (omega arith)).1) in
    let ih2 : all ≡ back = rw none at ih in
    rw h.1 (rw ((large h.0 gt).0, (large h.0 gt).1, none) (ap (λ ys. cond (above h.0) (c ∷ ys) ys) ih2)))
    (λ (le : h.0 ≤ mid).
    rw h.1 (rw ((small h.0 le).0, (small h.0 le).1)
    (cond_both (below h.0) (c ∷ front) front (λ (ys : List X). cond (below h.0) (c ∷ all) all ≡ ys ++ back)
    (λ e. rw e (ap (λ ys. c ∷ ys) ih)) (λ e. rw e ih))))
    (cases_lt mid h.0)

-- the elements past low are those up to mid and those past it
pub past_cut : {X : Type 0} (f : X → Option ℕ) (low mid from : ℕ) → low ≤ mid → (xs : List X) → Rises f from xs
    → filter (λ c. there (nat_lt low) (f c)) xs ≡ filter (λ c. there (within low mid) (f c)) xs ++ filter (λ c. there (nat_lt mid) (f c)) xs
past_cut f low mid from l xs up = split_at f (nat_lt low) (within low mid) (nat_lt mid) mid
    (λ n le. (grind (arith, nat_tests), grind (arith, nat_tests)))
    (λ n gt. (grind (arith, nat_tests), grind (arith, nat_tests)))
    from xs up

-- and those from n on are the one with n and those past it
pub past_one : {X : Type 0} (f : X → Option ℕ) (n from : ℕ) → 0 < n → (xs : List X) → Rises f from xs
    → filter (λ c. there (nat_lt (n - 1)) (f c)) xs ≡ filter (λ c. there (◌==◌ n) (f c)) xs ++ filter (λ c. there (nat_lt n) (f c)) xs
past_one f n from pos xs up = split_at f (nat_lt (n - 1)) (◌==◌ n) (nat_lt n) n
    (λ m le. (grind (arith, nat_tests), grind (arith, nat_tests)))
    (λ m gt. (grind (arith, nat_tests), grind (arith, nat_tests)))
    from xs up

-- all of them are past low
pub all_past : {X : Type 0} (f : X → Option ℕ) (low from : ℕ) → low ≤ from → (xs : List X) → Rises f from xs → filter (λ c. there (nat_lt low) (f c)) xs ≡ xs
all_past f low from l [] h = refl
all_past f low from l (x ∷ xs) h =
    let m : from < h.0 = h.2 in
    let ih : filter (λ c. there (nat_lt low) (f c)) xs ≡ xs = all_past f low h.0 (omega arith) xs h.3 in
    rw h.1 (rw (lt-ltb low h.0 (omega arith)) (ap (λ ys. x ∷ ys) ih))

-- the run of those up to n, where a list has these first and then those past n
pub run_of : {X : Type 0} (f : X → Option ℕ) (n : ℕ) (xs ys : List X) → Each (λ x. there (λ m. nat_le m n) (f x) ≡ true) xs → Each (λ x. there (λ m. nat_le m n) (f x) ≡ false) ys
    → prefix_len (λ x. there (λ m. nat_le m n) (f x)) (xs ++ ys) ≡ length xs
run_of f n [] [] h k = refl
run_of f n [] (y ∷ ys) h k = rw k.0 refl
run_of f n (x ∷ xs) ys h k =
    let ih : prefix_len (λ x. there (λ m. nat_le m n) (f x)) (xs ++ ys) ≡ length xs = run_of f n xs ys h.1 k in
    rw (h.0, ih) (omega arith)

-- so the elements past low have those up to n as their run, and those past n behind it
pub record Runs {X : Type 0} (f : X → Option ℕ) (low n : ℕ) (xs : List X) : Type 0 where
  pub front : take (prefix_len (λ x. there (λ m. nat_le m n) (f x)) (filter (λ c. there (nat_lt low) (f c)) xs)) (filter (λ c. there (nat_lt low) (f c)) xs) ≡ filter (λ c. there (within low n) (f c)) xs
  pub back : drop (prefix_len (λ x. there (λ m. nat_le m n) (f x)) (filter (λ c. there (nat_lt low) (f c)) xs)) (filter (λ c. there (nat_lt low) (f c)) xs) ≡ filter (λ c. there (nat_lt n) (f c)) xs

pub runs : {X : Type 0} (f : X → Option ℕ) (low n from : ℕ) → low ≤ n → (xs : List X) → Rises f from xs → Runs f low n xs
runs {X = X} f low n from l xs up =
    let here : List X = filter (λ c. there (within low n) (f c)) xs in
    let later : List X = filter (λ c. there (nat_lt n) (f c)) xs in
    let cut : filter (λ c. there (nat_lt low) (f c)) xs ≡ here ++ later = past_cut f low n from l xs up in
    let count : prefix_len (λ x. there (λ m. nat_le m n) (f x)) (here ++ later) ≡ length here = run_of f n here later (all_upto xs) (all_later xs) in
    record { front = rw (cut, count) (take_at here later (length here) refl); back = rw (cut, count) (drop_at here later (length here) refl) }
  where
    inside : (o : Option ℕ) → there (within low n) o ≡ true → there (λ m. nat_le m n) o ≡ true
    inside None e = e
    inside (Some m) e = let parts : (nat_lt low m ≡ true) × (nat_le m n ≡ true) = and_parts (nat_lt low m) (nat_le m n) e in parts.1

    outside : (o : Option ℕ) → there (nat_lt n) o ≡ true → there (λ m. nat_le m n) o ≡ false
    outside None e = refl
    outside (Some m) e = lt-leb m n (ltb-true n m e)

    all_upto : (xs : List X) → Each (λ x. there (λ m. nat_le m n) (f x) ≡ true) (filter (λ c. there (within low n) (f c)) xs)
    all_upto [] = tt
    all_upto (x ∷ xs) = cond_both (there (within low n) (f x)) (x ∷ filter (λ c. there (within low n) (f c)) xs) (filter (λ c. there (within low n) (f c)) xs)
        (λ ys. Each (λ x. there (λ m. nat_le m n) (f x) ≡ true) ys) (λ e. (inside (f x) e, all_upto xs)) (λ e. all_upto xs)

    all_later : (xs : List X) → Each (λ x. there (λ m. nat_le m n) (f x) ≡ false) (filter (λ c. there (nat_lt n) (f c)) xs)
    all_later [] = tt
    all_later (x ∷ xs) = cond_both (there (nat_lt n) (f x)) (x ∷ filter (λ c. there (nat_lt n) (f c)) xs) (filter (λ c. there (nat_lt n) (f c)) xs)
        (λ ys. Each (λ x. there (λ m. nat_le m n) (f x) ≡ false) ys) (λ e. (outside (f x) e, all_later xs)) (λ e. all_later xs)
