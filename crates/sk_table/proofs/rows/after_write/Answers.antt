-- The written table comes back in its place.
use Rattle.std.proofs.Common.{rules, ◌∙◌}
use Rattle.sk_table.proofs.Tables.{written}
use Rattle.sk_table.proofs.rows.after_write.Goals as goal

pub returns-in_ok-insert : goal.returns-in_ok-insert
returns-in_ok-insert c =
    c.from_vec.ensures
    ∙ written c.args.tables c.args.write.now c.remove-rows.result c.in_ok-rows.rows c.remove-rows.new.self.items c.insert.new.self.items (search rules) (search rules) (search rules) (search rules) (search rules)
