use Rattle.sk_store.proofs.Opening.{one_loaded}
use Rattle.sk_store.proofs.loading.load_row.Goals as goal

pub returns : goal.returns
returns g c =
    one_loaded g.R.Rows.shows (g.R.Rows.faults c.args.rows.now) (g.R.Rows.faults c.push.new.self) c.args.rows.now c.push.new.self c.act.new.self c.act-2.new.self c.args.start c.args.table c.args.entry.now c.in-Ok.row c.push.result c.in_ok-push.field-0
    c.in-Ok.ensures c.in_ok-push.was c.push.ensures.pushes c.act.ensures.acts c.act-2.ensures.acts
