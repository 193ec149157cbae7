-- The last transaction that is left comes next.
use Rattle.std.proofs.Common.{rules, arith, ◌∙◌}
use Rattle.sk_core.proofs.Woven.{onto_last}
use Rattle.sk_core.proofs.reopen.commits_in.Goals as goal

pub loop-left-preserved : goal.loop-left-preserved
loop-left-preserved c = record {
  all = onto_last c.args.catalog.now c.args.name c.loop-left.left.now c.actor-item.result c.loop-left.commits c.in_ok-commits.commits (omega arith) (search rules) c.in_ok-commits.ensures ∙ c.loop-left.invariant.all;
  within = search rules;
}
