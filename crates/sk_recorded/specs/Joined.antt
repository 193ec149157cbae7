-- The commits of one engine, each with its number of the other engine where it has one.
use Rattle.std.specs.Prelude.{ℕ, List, [], ◌∷◌, Option, Some, None, cond, ◌==◌, ◌&&◌, nat_lt, map}
use Rattle.sk_model.specs.declared.engine.EngineName.{EngineName}
use Rattle.sk_model.specs.declared.engine.EngineName.TheVariants.{Mem, Store}
use Rattle.sk_model.specs.declared.point.Point.{Point}
use Rattle.sk_model.specs.declared.commit.Commit.{Commit}
use Rattle.sk_model.specs.Stamped.{number_in}
use Rattle.sk_linked.specs.Reads.{number_at}

-- a point's number of the other engine
abbrev pub other_at : EngineName → Point → ℕ
other_at Mem q = q.b
other_at Store q = q.a

-- the points from the first one on whose number of the engine is not below n
abbrev pub from_number : EngineName → ℕ → List Point → List Point
from_number name n [] = []
from_number name n (q ∷ qs) = cond (nat_lt (number_at name q) n) (from_number name n qs) (q ∷ qs)

-- the other number of the first of these points, where it is the commit point of this one
abbrev pub other_first : EngineName → ℕ → List Point → Option ℕ
other_first name n [] = None
other_first name n (q ∷ qs) = cond (q.commit && (number_at name q == n)) (Some (other_at name q)) None

-- the other number of the commit that has this number of the engine
abbrev pub other_number : EngineName → List Point → Option ℕ → Option ℕ
other_number name points None = None
other_number name points (Some n) = other_first name n (from_number name n points)

abbrev pub set_other : EngineName → Option ℕ → Commit → Commit
set_other Mem n c = record c { store = n }
set_other Store n c = record c { mem = n }

-- the commit with both its numbers, where it has two
abbrev pub with_other : EngineName → List Point → Commit → Commit
with_other name points c = set_other name (other_number name points (number_in name c)) c

abbrev pub joined : EngineName → List Point → List Commit → List Commit
joined name points commits = map (with_other name points) commits
