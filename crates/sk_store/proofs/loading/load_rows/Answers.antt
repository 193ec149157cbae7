use Rattle.sk_store.proofs.Opening.{next_row, rows_done}
use Rattle.sk_store.proofs.loading.load_rows.Goals as goal

pub loop-list-preserved : goal.loop-list-preserved
loop-list-preserved g c =
    next_row g.R.Rows.shows c.args.rows.now c.loop-list.rows c.load_row.new.rows c.args.start c.args.table c.args.entries.now c.loop-list.list.now c.entry-item.result c.in-len1-up.len_at_least c.entry-item.is
    c.loop-list.invariant c.in_ok-load_row.ensures

pub returns : goal.returns
returns g c = rows_done g.R.Rows.shows c.args.rows.now c.loop-list.rows c.args.start c.args.table c.args.entries.now c.loop-list.list.now c.in_default.len_below c.loop-list.invariant
