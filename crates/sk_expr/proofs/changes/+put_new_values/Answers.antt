use Rattle.std.proofs.lemmas.List.{take_rest}
use Rattle.sk_expr.proofs.Extensions.{value_on, value_ends}
use Rattle.sk_expr.proofs.changes.+put_new_values.Goals as goal

pub returns-in_err-new-in-len1-up-olds : goal.returns-in_err-new-in-len1-up-olds
returns-in_err-new-in-len1-up-olds t c =
    value_ends _ _ _ _ _ _ _ _ _ _ _ c.in-len1-up.len_at_least c.in-len1-up-olds.len_at_least c.c-item.is c.v-item.is c.set_of.ensures
    c.in_err-new-in-len1-up-olds.ensures c.from_residual.ensures

pub returns-in_ok-put_value-in-len1-up-olds : goal.returns-in_ok-put_value-in-len1-up-olds
returns-in_ok-put_value-in-len1-up-olds t c =
    value_on _ _ _ _ _ _ _ _ _ _ _ _ _ _ _ c.in-len1-up.len_at_least c.in-len1-up-olds.len_at_least c.c-item.is c.v-item.is (take_rest c.args.of.now 1) (take_rest c.args.olds.now 1) c.set_of.ensures
    c.in_ok-new-in-len1-up-olds.ensures c.in_ok-put_value-in-len1-up-olds.ensures.ok c.put_new_values.ensures
