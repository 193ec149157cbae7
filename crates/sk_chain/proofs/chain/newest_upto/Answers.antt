use Rattle.std.proofs.Common.{◌-◌, ◌≤◌, length, arith, sym, ◌∙◌}
use Rattle.std.proofs.lemmas.List.{length-take-le}
use Rattle.sk_chain.proofs.Newest.{newest_here, newest_before}
use Rattle.sk_chain.proofs.chain.newest_upto.Goals as goal

pub returns-then-is_upto-clause-at : goal.returns-then-is_upto-clause-at
returns-then-is_upto-clause-at c =
    newest_here c.args.snapshot c.loop-list.list.now c.version-item.result c.in-len1-up.len_at_least c.version-item.is (sym c.is_upto.ensures ∙ c.if-is_upto.true)
    ∙ c.loop-list.invariant.rest

pub loop-list-preserved : goal.loop-list-preserved
loop-list-preserved c = record {
  rest = newest_before c.args.snapshot c.loop-list.list.now c.version-item.result c.in-len1-up.len_at_least c.version-item.is (sym c.is_upto.ensures ∙ c.if-is_upto.false)
      ∙ c.loop-list.invariant.rest;
  within =
      let below : length c.loop-list.list.now - 1 ≤ length c.loop-list.list.now = omega arith in
      omega (arith, length-take-le (length c.loop-list.list.now - 1) c.loop-list.list.now below);
}
