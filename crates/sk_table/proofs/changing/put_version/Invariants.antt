use Rattle.std.proofs.Common.{◌≡◌, ◌++◌, cond}
use Rattle.sk_model.specs.EngineChanges.{put_version}
use Rattle.sk_table.proofs.changing.put_version.Given as goal

-- The versions so far with those to come are all; among these the write has its place unless it was found.
abbrev pub invariant-loop-version : goal.invariant-loop-version
invariant-loop-version l =
    l.out.items ++ cond l.found l.version-iterator.rest.items (put_version l.tx l.snapshot l.write l.version-iterator.rest.items) ≡ put_version l.tx l.snapshot l.write l.initial.version-iterator.rest.items
