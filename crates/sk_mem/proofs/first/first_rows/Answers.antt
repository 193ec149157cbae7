use Rattle.std.proofs.Common.{◌≤◌, ◌-◌, length, arith, ◌∙◌}
use Rattle.std.proofs.lemmas.List.{length-take-le}
use Rattle.sk_mem.proofs.Starting.{first_more}
use Rattle.sk_mem.proofs.first.first_rows.Goals as goal

pub loop-list-preserved : goal.loop-list-preserved
loop-list-preserved c = record {
  within =
      let below : length c.loop-list.list.now - 1 ≤ length c.loop-list.list.now = omega arith in
      omega (arith, length-take-le (length c.loop-list.list.now - 1) c.loop-list.list.now below);
  chains = λ q.
      first_more c.args.start c.loop-list.list.now c.row-item.result c.in_ok-copy.field-0 c.in_ok-first_chain.field-0 _ _ c.in-len1-up.len_at_least c.row-item.is c.in_ok-copy.ensures c.in_ok-first_chain.ensures
      c.in_ok-insert.ensures.updates.0 q
      ∙ c.loop-list.invariant.chains q;
}
