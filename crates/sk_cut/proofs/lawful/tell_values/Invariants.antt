use Rattle.std.proofs.Common.{length}
use Rattle.sk_codec.specs.Spelling.{AreValues}
use Rattle.sk_cut.proofs.lawful.tell_values.Given as goal

-- if what is left obeys it, all do
abbrev pub invariant-loop-list : goal.invariant-loop-list
invariant-loop-list l = AreValues l.list → AreValues l.values

abbrev pub decreases-loop-list : goal.decreases-loop-list
decreases-loop-list l = length l.list
