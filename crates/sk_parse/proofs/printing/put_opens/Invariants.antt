use Rattle.std.proofs.Common.{◌≡◌, ◌++◌, length}
use Rattle.sk_parse.specs.Chains.{opens}
use Rattle.sk_parse.proofs.printing.put_opens.Given as goal

abbrev pub invariant-loop-operations : goal.invariant-loop-operations
invariant-loop-operations l = l.out.items ++ opens l.operations l.at ≡ l.initial.out.items ++ opens l.initial.operations l.initial.at

abbrev pub decreases-loop-operations : goal.decreases-loop-operations
decreases-loop-operations l = length l.operations
