use Rattle.std.proofs.Common.{◌≡◌, ◌++◌, length}
use Rattle.sk_parse.specs.Spelled.{more_text}
use Rattle.sk_parse.proofs.writing.put_more.Given as goal

abbrev pub invariant-loop-items : goal.invariant-loop-items
invariant-loop-items g l = l.out.items ++ more_text g.T.Prints.text l.items ≡ l.initial.out.items ++ more_text g.T.Prints.text l.initial.items

abbrev pub decreases-loop-items : goal.decreases-loop-items
decreases-loop-items g l = length l.items
