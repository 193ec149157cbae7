use Rattle.std.proofs.Common.{rules}
use Rattle.sk_recover.proofs.Entries.{set_entries}
use Rattle.sk_recover.proofs.rows.set_row.Goals as goal

pub returns-in_ok-set_in-in-Some : goal.returns-in_ok-set_in-in-Some
returns-in_ok-set_in-in-Some c = set_entries c.args.tables.now.items c.args.table c.in-Some.rows.now c.set_in.new.rows c.args.key c.args.row (search rules) (search rules) (search rules)
