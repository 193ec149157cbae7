-- Three versions of one row, and what is read, cut and trimmed of them.
use Rattle.std.specs.Prelude.{◌≡◌, ℕ, [], ◌∷◌, map, Option, Some, None}
use Rattle.std.proofs.Common.{refl}
use Rattle.sk_undo.specs.declared.undo.Undo.{Undo}
use Rattle.sk_undo.specs.Log.{Log, cut, dropped, dropped_in, filled, newest_for, put_at, trimmed, walk}

abbrev undo : Option ℕ → Option ℕ → ℕ → Option Undo
undo older newer n = Some (record { older = older; newer = newer; n = n; row = None })

-- numbers 1, 3 and 7, in places 0, 1 and 2
abbrev three : Log
three = undo None (Some 3) 1 ∷ undo (Some 0) (Some 7) 3 ∷ undo (Some 1) None 7 ∷ []

-- the log of two records with one more
is_added : filled (undo None (Some 3) 1 ∷ undo (Some 0) None 3 ∷ []) 2 (Some 1) 7 None ≡ three
unfolding put_at
is_added = refl

-- a snapshot sees the newest version that is not past it
reads_the_newest : newest_for three (Some 2) 9 ≡ Some 2
unfolding newest_for walk
reads_the_newest = refl

reads_at_its_number : newest_for three (Some 2) 3 ≡ Some 1
unfolding newest_for walk
reads_at_its_number = refl

reads_between : newest_for three (Some 2) 2 ≡ Some 0
unfolding newest_for walk
reads_between = refl

reads_none : newest_for three (Some 2) 0 ≡ None
unfolding newest_for walk
reads_none = refl

-- snapshots from 4 on need no version that is older than number 3
is_cut : cut three (Some 2) 4 ≡ None ∷ undo None (Some 7) 3 ∷ undo (Some 1) None 7 ∷ []
unfolding newest_for walk dropped dropped_in
is_cut = refl

is_trimmed : map (trimmed 4) three ≡ None ∷ undo None (Some 7) 3 ∷ undo (Some 1) None 7 ∷ []
unfolding trimmed
is_trimmed = refl

-- a trim at a number frees what that version hides
hides_at_its_number : map (trimmed 7) three ≡ None ∷ None ∷ undo None None 7 ∷ []
unfolding trimmed
hides_at_its_number = refl

is_dropped : dropped three (Some 2) ≡ None ∷ None ∷ None ∷ []
unfolding dropped dropped_in
is_dropped = refl
