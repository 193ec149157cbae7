use Rattle.sk_recover.proofs.Catalogs.{new_table}
use Rattle.sk_recover.proofs.image.table_at.Goals as goal

pub returns-clause-new : goal.returns-clause-new
returns-clause-new c =
    new_table c.args.before.now (record { name = c.in_ok-name.name; store = c.in_ok-store.store; columns = c.from_vec-columns.result }) c.in_ok-count.count
    c.in_ok-name.ensures.new.0 c.in_ok-name.ensures.new.1 c.in_ok-count.ensures.within.0 c.in_ok-count.ensures.within.1 (rw c.from_vec-columns.ensures c.in_ok-columns.ensures.good)
