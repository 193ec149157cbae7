use Rattle.std.proofs.Common.{subst, sym, ◌∙◌}
use Rattle.std.proofs.lemmas.Bool.{cond-true}
use Rattle.std.specs.Ordering.{eq_by_cmp}
use Rattle.sk_rows.specs.Values.{value_cmp}
use Rattle.sk_rows.specs.Orders.{value_cmp_total}
use Rattle.std.specs.Cmp.{eq_by_cmp_equiv}
use Rattle.sk_chain.specs.Changing.{trimmed}
use Rattle.sk_engine.specs.Rows.{AgreeFrom}
use Rattle.sk_mem.specs.Chains.{chain_of}
use Rattle.sk_mem.proofs.Forgetting.{trim_agrees, agree_both}
use Rattle.sk_mem.proofs.chains.forget_in.Goals as goal

pub returns-clause-here : goal.returns-clause-here
returns-clause-here c =
    let old = chain_of c.args.rows.now.entries c.args.key.now in
    agree_both c.args.upto old _ _
    (subst (AgreeFrom c.args.upto old) (sym (c.trim_in.ensures c.args.key.now ∙ cond-true (eq_by_cmp value_cmp c.args.key.now c.args.key.now) (trimmed old c.args.upto) old ((eq_by_cmp_equiv value_cmp_total).refl c.args.key.now))) (trim_agrees c.args.upto old))
    c.drop_gone.ensures.here
