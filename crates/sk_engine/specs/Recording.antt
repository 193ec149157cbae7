-- The commits that an engine lists, over the rows that it keeps.
use Rattle.std.specs.Prelude.{◌≡◌, ℕ, List, [], ◌∷◌, Option, Some, None, Result, Ok, Err, Bool, false, ◌⊎◌, map}
use Rattle.std.specs.List.{flat_map}
use Rattle.sk_outside.specs.Causes.{Rose}
use Rattle.sk_rows.specs.declared.table.Table.{Table}
use Rattle.sk_model.specs.declared.engine.EngineName.{EngineName}
use Rattle.sk_model.specs.declared.commit.Write.{Write}
use Rattle.sk_model.specs.declared.commit.Commit.{Commit}
use Rattle.sk_model.specs.declared.call.EngineFault.{EngineFault}
use Rattle.sk_model.specs.declared.call.EngineFault.TheVariants as fault
use Rattle.sk_model.specs.EngineReplies.{mem_number, store_number}
use Rattle.sk_chain.specs.Reading.{last_upto}
use Rattle.sk_model.specs.Resembling.{RowFits, numbered}
use Rattle.sk_engine.specs.declared.row_id.RowId.{RowId}
use Rattle.sk_engine.specs.Rows.{Chains, row_in}
use Rattle.sk_engine.specs.Counts.{Used}

-- what a number wrote to a row that it wrote
abbrev pub write_given : Chains → ℕ → RowId → Write
write_given chains n p = record { table = p.table; key = p.key; row = row_in (last_upto n (chains p.table p.key).settled) }

abbrev pub commit_by : EngineName → Chains → Used → Option (List RowId) → List Commit
commit_by name chains u None = []
commit_by name chains u (Some row_ids) = record { label = u.by; mem = mem_number name u.n; store = store_number name u.n; writes = map (write_given chains u.n) row_ids } ∷ []

-- the commits of these numbers
abbrev pub commits_given : EngineName → Chains → List Used → List Commit
commits_given name chains us = flat_map (λ u. commit_by name chains u u.wrote) us

-- the elements of one list are such as those of the other, one by one
abbrev pub Alike : {X : Type 0} → (X → X → Type 0) → List X → List X → Type 0
Alike P [] [] = Unit {0}
Alike P [] (x ∷ xs) = ⊥
Alike P (d ∷ ds) [] = ⊥
Alike P (d ∷ ds) (x ∷ xs) = P d x × Alike P ds xs

-- the due write, or where contents are not told one that fits
abbrev pub IsWrite : Bool → List Table → Write → Write → Type 0
IsWrite told tables due w = (due ≡ w) ⊎ ((told ≡ false) × RowFits tables w.table w.key w.row)

abbrev pub IsCommit : Bool → List Table → Commit → Commit → Type 0
IsCommit told tables due c = (numbered c ≡ numbered due) × Alike (IsWrite told tables) due.writes c.writes

-- a result such as this; or want of memory, or a fault that was counted
abbrev pub Yields : {X : Type 0} → ℕ → ℕ → (X → Type 0) → Result X EngineFault → Type 0
Yields before now Is (Ok x) = Is x
Yields before now Is (Err (fault.Old a b)) = ⊥
Yields before now Is (Err (fault.Busy by)) = ⊥
Yields before now Is (Err (fault.Conflict by why)) = ⊥
Yields before now Is (Err fault.Device) = Rose before now
Yields before now Is (Err fault.NoMemory) = Unit {0}
