-- The last point, where one goes over all.
use Rattle.std.specs.Prelude.{◌≡◌, List, [], ◌∷◌}
use Rattle.std.proofs.Common.{refl}
use Rattle.sk_model.specs.declared.point.Point.{Point}
use Rattle.sk_weave.specs.Points.{last_from}
use Rattle.sk_weave.specs.Registry.{last_of, no_point}

pub last_is : (ps : List Point) → last_of ps ≡ last_from no_point ps
last_is [] = refl
last_is (p ∷ ps) = refl
