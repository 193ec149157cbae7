-- The commits of one engine past one number and up to another, and how such windows make a list.
use Rattle.std.specs.Prelude.{◌≡◌, ℕ, ◌≤◌, List, ◌++◌}
use Rattle.sk_model.specs.declared.engine.EngineName.{EngineName}
use Rattle.sk_model.specs.declared.engine.EngineName.TheVariants.{Mem, Store}
use Rattle.sk_model.specs.declared.commit.Commit.{Commit}
use Rattle.sk_model.specs.Numbers.{Rises}
use Rattle.sk_model.specs.Stamped.{number_in}
use Rattle.sk_weave.specs.Weave.{mem_within, store_within}
use Rattle.sk_weave.specs.Laws.{mem_upto, store_upto}

-- the commits whose number of the engine is past one number and up to another
abbrev pub window : EngineName → ℕ → ℕ → List Commit → List Commit
window Mem from to cs = mem_within from to cs
window Store from to cs = store_within from to cs

-- the commits whose number of the engine is there and at most this
abbrev pub upto_in : EngineName → ℕ → List Commit → List Commit
upto_in Mem to cs = mem_upto to cs
upto_in Store to cs = store_upto to cs

-- where the numbers rise, two windows one behind the other are one
abbrev pub WindowsMeet : Type 0
WindowsMeet = (name : EngineName) (low x y z : ℕ) (cs : List Commit) → Rises (number_in name) low cs → x ≤ y → y ≤ z
    → window name x y cs ++ window name y z cs ≡ window name x z cs

-- and where they are all past low, the window from there on is all that is up to its end
abbrev pub WindowsBegin : Type 0
WindowsBegin = (name : EngineName) (low to : ℕ) (cs : List Commit) → Rises (number_in name) low cs → window name low to cs ≡ upto_in name to cs
