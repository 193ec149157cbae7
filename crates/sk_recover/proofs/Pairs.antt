-- The halves of commits of both engines, beside each other.
use Rattle.std.proofs.Common.{◌≡◌, ℕ, true, false, List, [], ◌∷◌, Ok, Err, refl}
use Rattle.sk_log.specs.declared.logged.Logged.{Logged}
use Rattle.sk_log.specs.Groups.{half_at, is_half, halves}

pub halves_alone : (store anchor : ℕ) (xs ys : List Logged) (s : Logged) (ss : List Logged) → xs ≡ s ∷ ss → ys ≡ [] → halves store anchor xs ys ≡ Err (half_at store s.place)
unfolding halves
halves_alone store anchor xs ys s ss x y = rw (x, y) refl

pub halves_unlike : (store anchor : ℕ) (xs ys : List Logged) (s : Logged) (ss : List Logged) (m : Logged) (ms : List Logged) → xs ≡ s ∷ ss → ys ≡ m ∷ ms → is_half s.commit m.commit ≡ false
    → halves store anchor xs ys ≡ Err (half_at store s.place)
unfolding halves
halves_unlike store anchor xs ys s ss m ms x y differ = rw (x, y, differ) refl

pub halves_on : (store anchor : ℕ) (xs ys : List Logged) (s : Logged) (ss : List Logged) (m : Logged) (ms : List Logged) → xs ≡ s ∷ ss → ys ≡ m ∷ ms → is_half s.commit m.commit ≡ true
    → halves store anchor xs ys ≡ halves store anchor ss ms
unfolding halves
halves_on store anchor xs ys s ss m ms x y same = rw (x, y, same) refl

pub halves_none : (store anchor : ℕ) (xs ys : List Logged) → xs ≡ [] → ys ≡ [] → halves store anchor xs ys ≡ Ok tt
unfolding halves
halves_none store anchor xs ys x y = rw (x, y) refl

pub halves_left : (store anchor : ℕ) (xs ys : List Logged) (m : Logged) (ms : List Logged) → xs ≡ [] → ys ≡ m ∷ ms → halves store anchor xs ys ≡ Err (half_at anchor m.place)
unfolding halves
halves_left store anchor xs ys m ms x y = rw (x, y) refl
