-- What an engine committed: the versions of each number.
use Rattle.std.specs.Prelude.{◌≡◌, ℕ, List, [], ◌∷◌, Option, Some, None, ◌⊎◌, map}
use Rattle.std.specs.List.{filter, AllByRecursion}
use Rattle.sk_model.specs.declared.engine.EngineName.{EngineName}
use Rattle.sk_model.specs.declared.engine.EngineName.TheVariants.{Mem, Store}
use Rattle.sk_model.specs.declared.commit.Write.{Write}
use Rattle.sk_model.specs.declared.commit.Commit.{Commit}
use Rattle.sk_model.specs.Database.{net}
use Rattle.sk_model.specs.Numbers.{Rises}
use Rattle.sk_model.specs.Engine.{VersionState, Open, Closed, Stamped, Dropped, Version}
use Rattle.sk_model.specs.EngineReplies.{is_stamped_with}

-- which number of a commit is of the engine
abbrev pub number_in : EngineName → Commit → Option ℕ
number_in Mem c = c.mem
number_in Store c = c.store

abbrev pub number_of : VersionState → Option ℕ
number_of Open = None
number_of (Closed f) = None
number_of (Stamped n) = Some n
number_of Dropped = None

abbrev pub v_number : Version → Option ℕ
v_number v = number_of v.standing

abbrev pub writes_of : List Version → List Write
writes_of vs = map (λ (v : Version). v.write) vs

-- n is the number of one of these commits
abbrev pub Has : (Commit → Option ℕ) → ℕ → List Commit → Type 0
Has number n [] = ⊥
Has number n (c ∷ cs) = (number c ≡ Some n) ⊎ Has number n cs

-- these are the engine's commits past low, in the order of their numbers, each with what its versions come to
pub record CommitsOf (number : Commit → Option ℕ) (low : ℕ) (versions : List Version) (cs : List Commit) : Type 0 where
  pub rises : Rises number low cs
  pub writes : AllByRecursion (λ (c : Commit). (n : ℕ) → number c ≡ Some n → c.writes ≡ net (writes_of (filter (is_stamped_with n) versions))) cs
  pub all : AllByRecursion (λ (v : Version). (n : ℕ) → v_number v ≡ Some n → Has number n cs) versions
