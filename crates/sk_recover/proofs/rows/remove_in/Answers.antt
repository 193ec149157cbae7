use Rattle.std.proofs.Common.{◌∙◌}
use Rattle.sk_rows.specs.Values.{value_cmp}
use Rattle.sk_rows.specs.Orders.{value_cmp_total}
use Rattle.sk_recover.proofs.Entries.{removed_is}
use Rattle.sk_recover.proofs.rows.remove_in.Goals as goal

pub returns-then-len-gt0 : goal.returns-then-len-gt0
returns-then-len-gt0 c = c.remove.ensures.entries ∙ removed_is value_cmp value_cmp_total c.args.key.now c.args.rows.now.entries c.len.ensures.ordered
