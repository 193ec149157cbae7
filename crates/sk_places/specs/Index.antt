-- What an index is of.
use Rattle.std.specs.Prelude.{◌≡◌, List}
use Rattle.sk_model.specs.declared.commit.Commit.{Commit}
use Rattle.sk_model.specs.declared.engine.EngineName.TheVariants.{Mem, Store}
use Rattle.sk_places.specs.declared.index.PlaceIndex.{PlaceIndex}
use Rattle.sk_places.specs.Marks.{marks}

-- it has the marks of each engine's commits in this list
pub record IsIndexOf (order : List Commit) (x : PlaceIndex) : Type 0 where
  pub mem : x.mem.items ≡ marks Mem 0 order
  pub store : x.store.items ≡ marks Store 0 order
