use Rattle.std.proofs.Common.{not, rules}
use Rattle.std.proofs.lemmas.Fn.{filter_same}
use Rattle.std.specs.Ordering.{eq_by_cmp}
use Rattle.sk_rows.specs.Values.{value_cmp}
use Rattle.sk_expr.proofs.states.remove_row.Goals as goal

pub returns : goal.returns
returns c = filter_same _ (λ e. not (eq_by_cmp value_cmp c.args.key.now e.0)) _ (λ x b f k. search rules) _ _ c.retain.ensures.filtered
