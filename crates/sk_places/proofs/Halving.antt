-- The last mark up to a number, where the marks split at it.
use Rattle.std.specs.Prelude.{ℕ, zero, suc, List, [], ◌∷◌, Some, None, true, false, cond, ◌≡◌, ◌<◌, leb, length, get_or}
use Rattle.std.proofs.Common.{refl, arith}
use Rattle.sk_places.specs.declared.marks.Mark.{Mark}
use Rattle.sk_places.specs.Marks.{last_end}

-- no mark is up to the number
pub none_upto : (end upto : ℕ) (ms : List Mark) (d : Mark) → ((k : ℕ) → k < length ms → leb (get_or ms k d).n upto ≡ false) → last_end end (Some upto) ms ≡ end
none_upto end upto [] d none = refl
none_upto end upto (m ∷ ms) d none = rw (none zero (omega arith)) (none_upto end upto ms d (λ k l. none (suc k) (omega arith)))

-- the mark at i is, and none behind it
pub last_upto : (end upto : ℕ) (ms : List Mark) (i : ℕ) (d : Mark) → i < length ms → leb (get_or ms i d).n upto ≡ true
    → ((k : ℕ) → i < k → k < length ms → leb (get_or ms k d).n upto ≡ false) → last_end end (Some upto) ms ≡ (get_or ms i d).end
last_upto end upto [] i d l here none = absurd (omega arith)
last_upto end upto (m ∷ ms) zero d l here none = rw here (none_upto m.end upto ms d (λ k b. none (suc k) (omega arith) (omega arith)))
last_upto end upto (m ∷ ms) (suc i) d l here none =
    last_upto (cond (leb m.n upto) m.end end) upto ms i d (omega arith) here (λ k a b. none (suc k) (omega arith) (omega arith))

-- without a snapshot none counts
pub last_none : (end : ℕ) (ms : List Mark) → last_end end None ms ≡ end
last_none end [] = refl
last_none end (m ∷ ms) = last_none end ms
