-- How far an engine is swept.
use Rattle.std.specs.Prelude.{ℕ, min}
use Rattle.sk_model.specs.declared.engine.EngineName.{EngineName}
use Rattle.sk_model.specs.declared.engine.EngineName.TheVariants.{Mem, Store}
use Rattle.sk_model.specs.declared.point.Point.{Point}

-- an engine's number of a point
abbrev pub number_at : EngineName → Point → ℕ
number_at Mem p = p.a
number_at Store p = p.b

-- the smaller of its numbers of the oldest live point and of the cut
abbrev pub swept_upto : EngineName → Point → Point → ℕ
swept_upto name oldest cut = min (number_at name oldest) (number_at name cut)
