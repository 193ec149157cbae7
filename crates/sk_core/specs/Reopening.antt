-- The commits of an engine, gone through from the last transaction on.
use Rattle.std.specs.Prelude.{List, [], ◌∷◌, Option, Some, None, map}
use Rattle.sk_rows.specs.declared.table.Table.{Table}
use Rattle.sk_model.specs.declared.engine.EngineName.{EngineName}
use Rattle.sk_model.specs.declared.engine.EngineName.TheVariants.{Mem, Store}
use Rattle.sk_model.specs.declared.commit.Commit.{Commit}
use Rattle.sk_weave.specs.Woven.{IsWeavable}
use Rattle.sk_weave.specs.Registry.{first_of}
use Rattle.sk_linked.specs.Traces.{Transaction, counts, commit_in, added, commits_in}
use Rattle.sk_linked.specs.State.{Actor, transaction_of, Core, rest_of}

abbrev pub listed : {X : Type 0} → Option X → List X
listed None = []
listed (Some x) = x ∷ []

abbrev pub transactions_of : List Actor → List Transaction
transactions_of actors = map transaction_of actors

-- these commits, and those of the transactions
abbrev pub commits_onto : List Table → EngineName → List Actor → List Commit → List Commit
commits_onto catalog name [] cs = cs
commits_onto catalog name (r ∷ rs) cs = added name (counts name (transaction_of r)) (commit_in catalog name (transaction_of r)) (commits_onto catalog name rs cs)

-- the commits of both engines fit the points
abbrev pub CanWeave : Core → Type 0
CanWeave k = IsWeavable (first_of k.regs.points ∷ rest_of k.regs.points) (commits_in k.catalog Mem (transactions_of k.actors)) (commits_in k.catalog Store (transactions_of k.actors))
