use Rattle.std.proofs.Common.{◌≡◌, ◌++◌}
use Rattle.sk_model.specs.EngineChanges.{restand}
use Rattle.sk_table.specs.RowState.{state_of}
use Rattle.sk_table.proofs.changing.restand.Given as goal

-- The versions so far with those to come are all.
abbrev pub invariant-loop-version : goal.invariant-loop-version
invariant-loop-version l = l.out.items ++ restand l.tx (state_of l.standing) l.version-iterator.rest.items ≡ restand l.tx (state_of l.standing) l.initial.version-iterator.rest.items
