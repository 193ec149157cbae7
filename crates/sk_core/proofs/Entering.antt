-- A journal that is longer took its entry.
use Rattle.std.specs.Prelude.{◌≡◌, ◌≢◌, List, [], ◌∷◌, ◌++◌, Bool, true, false, cond, length}
use Rattle.std.proofs.Common.{refl, ap}

pub grown : {X : Type 0} (b : Bool) (js : List X) (j : X) → length (cond b (js ++ j ∷ []) js) ≢ length js → cond b (js ++ j ∷ []) js ≡ js ++ j ∷ []
grown true js j more = refl
grown false js j more = absurd (more refl)
