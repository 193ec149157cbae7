-- The steps of one pass, and what it holds after them.
use Rattle.std.specs.Prelude.{◌≡◌, ℕ, ◌<◌, ◌≤◌, ◌⊎◌, Bool, true, false, cond, List, [], ◌∷◌}
use Rattle.sk_model.specs.declared.point.Point.{Point}
use Rattle.sk_weave.specs.declared.event.Event.TheVariants.{DrawMem, DrawStore, Append, Raise}
use Rattle.sk_clock.specs.declared.view.WordStep.{WordStep}
use Rattle.sk_clock.specs.declared.view.WordStep.TheVariants.{Load, Change}
use Rattle.sk_clock.specs.declared.view.Entry.{Entry}
use Rattle.sk_clock.specs.Paths.{Path, same_path}

abbrev pub entry : Path → WordStep → Entry
entry p e = record { by = p; step = e }

abbrev pub put_if : {A : Type 0} → Bool → A → List A → List A
put_if true x xs = x ∷ xs
put_if false x xs = xs

-- the steps of one pass
abbrev pub steps_by : Path → List Entry → List WordStep
steps_by p [] = []
steps_by p (e ∷ es) = put_if (same_path p e.by) e.step (steps_by p es)

-- one of these steps is of this kind
abbrev pub AnyStep : (WordStep → Type 0) → List WordStep → Type 0
AnyStep P [] = ⊥
AnyStep P (e ∷ es) = P e ⊎ AnyStep P es

-- one of these steps is of the first kind, and a later one of the second
abbrev pub AnyThen : (WordStep → Type 0) → (WordStep → Type 0) → List WordStep → Type 0
AnyThen P Q [] = ⊥
AnyThen P Q (e ∷ es) = (P e × AnyStep Q es) ⊎ AnyThen P Q es

-- it found or drew an M number of at least a
abbrev pub FindsMem : ℕ → WordStep → Type 0
FindsMem a (Load w n) = (w ≡ 0) × (a ≤ n)
FindsMem a (Change (DrawMem n)) = a ≤ n
FindsMem a (Change (DrawStore n)) = ⊥
FindsMem a (Change (Append p)) = ⊥
FindsMem a (Change (Raise n)) = ⊥

-- it found an S number of at most b, and less than that of a commit, or drew one of at most b
abbrev pub FindsStore : Bool → ℕ → WordStep → Type 0
FindsStore commit b (Load w n) = (w ≡ 1) × cond commit (n < b) (n ≤ b)
FindsStore commit b (Change (DrawStore n)) = n ≤ b
FindsStore commit b (Change (DrawMem n)) = ⊥
FindsStore commit b (Change (Append p)) = ⊥
FindsStore commit b (Change (Raise n)) = ⊥

-- it drew this M number
abbrev pub DrawsMem : ℕ → WordStep → Type 0
DrawsMem a e = e ≡ Change (DrawMem a)

-- it drew this S number
abbrev pub DrawsStore : ℕ → WordStep → Type 0
DrawsStore b e = e ≡ Change (DrawStore b)

-- what a pass holds that may append this point: an M number, and later an S number
abbrev pub Holds : Point → List WordStep → Type 0
Holds p es = AnyThen (FindsMem p.a) (FindsStore p.commit p.b) es

-- these steps drew the M number, and later the S number
abbrev pub HasDrawn : ℕ → ℕ → List WordStep → Type 0
HasDrawn a b es = AnyThen (DrawsMem a) (DrawsStore b) es
