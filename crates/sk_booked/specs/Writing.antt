-- What a call leaves in a journal.
use Rattle.std.specs.Prelude.{◌≡◌, List, [], ◌∷◌, ◌++◌, ◌⊎◌}

-- The pair of call and reply is the new end, and the reply is one that the call may have so; or all is as it was, and the reply is one for that.
abbrev pub Writes : {C R : Type 0} → (C → R → Type 0) → (C → R → Type 0) → List (C × R) → C → R → List (C × R) → Type 0
Writes enters leaves before call reply after =
    ((after ≡ before ++ (call, reply) ∷ []) × enters call reply) ⊎ ((after ≡ before) × leaves call reply)
