-- Places in the list of commits: how much of it a transaction reads.
use Rattle.std.specs.Prelude.{ℕ, List, [], ◌∷◌, Option, Some, None, Bool, false, cond, ◌||◌, ◌+◌, nat_le}
use Rattle.std.specs.List.{list_any}
use Rattle.sk_model.specs.declared.commit.Commit.{Commit}
use Rattle.sk_model.specs.Numbers.{there}

-- the number is there and is at most the snapshot, which is there too
abbrev pub upto : Option ℕ → Option ℕ → Bool
upto None n = false
upto (Some m) n = there (λ n. nat_le n m) n

-- the commit is a memory commit up to m or a storage commit up to s
abbrev pub is_wanted : Option ℕ → Option ℕ → Commit → Bool
is_wanted m s c = upto m c.mem || upto s c.store

-- the length of the shortest prefix that holds each memory commit up to m and each storage commit up to s
abbrev pub place : List Commit → Option ℕ → Option ℕ → ℕ
place [] m s = 0
place (c ∷ cs) m s = cond (list_any (is_wanted m s) (c ∷ cs)) (place cs m s + 1) 0
