-- The commits of one engine by their numbers.
use Rattle.std.specs.Prelude.{ℕ, ◌+◌, List, [], ◌∷◌, Option, Some, None, cond}
use Rattle.sk_model.specs.declared.commit.Commit.{Commit}
use Rattle.sk_model.specs.declared.engine.EngineName.{EngineName}
use Rattle.sk_model.specs.declared.engine.EngineName.TheVariants.{Mem, Store}
use Rattle.sk_model.specs.Places.{upto}
use Rattle.sk_places.specs.declared.marks.Mark.{Mark}

abbrev pub number_by : EngineName → Commit → Option ℕ
number_by Mem c = c.mem
number_by Store c = c.store

-- the marks with one in front, where there is a number
abbrev pub marked : Option ℕ → ℕ → List Mark → List Mark
marked None end ms = ms
marked (Some n) end ms = record { n = n; end = end } ∷ ms

-- a mark of each commit that has a number of this engine: how many commits there are up to it, where so many came before
abbrev pub marks : EngineName → ℕ → List Commit → List Mark
marks name before [] = []
marks name before (c ∷ cs) = marked (number_by name c) (before + 1) (marks name (before + 1) cs)

-- the end of the last mark up to the snapshot, or the given one where there is none
abbrev pub last_end : ℕ → Option ℕ → List Mark → ℕ
last_end end snapshot [] = end
last_end end snapshot (m ∷ ms) = last_end (cond (upto snapshot (Some m.n)) m.end end) snapshot ms
