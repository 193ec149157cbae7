-- Which pass is which, and which entries are whose.
use Rattle.std.specs.Prelude.{◌≡◌, ℕ, ◌<◌, Bool, true, false, ◌&&◌, ◌==◌, List, [], ◌∷◌, ◌++◌, map}
use Rattle.sk_booked.specs.declared.view.Entry.{Entry}

-- which split made a pass: the first has none, and the split k of the pass p makes k ∷ p
abbrev pub Path : Type 0
Path = List ℕ

abbrev pub same_path : Path → Path → Bool
same_path [] [] = true
same_path [] (y ∷ ys) = false
same_path (x ∷ xs) [] = false
same_path (x ∷ xs) (y ∷ ys) = (x == y) && same_path xs ys

-- the split was made
abbrev pub Born : (Path → ℕ) → Path → Type 0
Born splits [] = Unit {0}
Born splits (k ∷ p) = (k < splits p) × Born splits p

-- ys begins with xs
abbrev pub Begins : {A : Type 0} → List A → List A → Type 0
Begins {A} xs ys = (rest : List A) × (xs ++ rest ≡ ys)

abbrev pub Each : {A : Type 0} → (A → Type 0) → List A → Type 0
Each P [] = Unit {0}
Each P (x ∷ xs) = P x × Each P xs

module _ {E : Type 0} where
  abbrev pub entry : Path → E → Entry E
  entry p x = record { by = p; item = x }

  abbrev pub put_if : Bool → E → List E → List E
  put_if true x xs = x ∷ xs
  put_if false x xs = xs

  -- the entries of one pass
  abbrev pub items_by : Path → List (Entry E) → List E
  items_by p [] = []
  items_by p (e ∷ es) = put_if (same_path p e.by) e.item (items_by p es)

  abbrev pub items_of : List (Entry E) → List E
  items_of log = map (λ (e : Entry E). e.item) log
