-- The calls that fail, by their numbers from 1.
use Rattle.std.specs.Prelude.{ℕ, ◌≡◌, ◌+◌, ◌-◌, ◌^◌, min, Bool, List, ◌==◌}
use Rattle.std.specs.List.{list_any}
use Rattle.sk_outside.specs.declared.calls.CallList.{CallList}

-- how many calls were made
abbrev pub made_of : CallList → ℕ
made_of list = list.made

-- the numbers of those that fail
abbrev pub fails_of : CallList → List ℕ
fails_of list = list.fails.items

-- the number of the next call
abbrev pub next_of : CallList → ℕ
next_of list = min (list.made + 1) (2 ^ 64 - 1)

-- the next call fails
abbrev pub next_fails : CallList → Bool
next_fails list = list_any (λ call. call == next_of list) list.fails.items

-- one call more was made, and the same ones fail
pub record Counts (old new : CallList) : Type 0 where
  pub made : made_of new ≡ next_of old
  pub fails : fails_of new ≡ fails_of old
