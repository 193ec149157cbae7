use Rattle.std.proofs.Common.{◌+◌, ap, subst, sym, ◌≡◌, slice_index_or, ◌∙◌}
use Rattle.sk_store.proofs.Opening.{item_same, may_load, next_loaded}
use Rattle.sk_store.proofs.loading.load_tables.Goals as goal

pub load_rows-requires : goal.load_rows-requires
load_rows-requires g c =
    let fit = c.requires.fit in
    may_load g.R.Rows.shows c.loop-entries.rows c.args.start c.loop-entries.entries-index c.loop-entries.number c.args.opening.now c.as_slice.result.now c.loop-entries-test.true c.loop-entries.invariant.number
    (item_same c.args.opening.now c.loop-entries.entries-index c.entries-item.result c.as_slice.result.now c.as_slice.ensures c.entries-item.is) fit.0 fit.2 (c.loop-entries.invariant.shown fit.0 fit.1 fit.2)

pub loop-entries-preserved : goal.loop-entries-preserved
loop-entries-preserved g c = record {
  number = ap (λ n. n + 1) c.loop-entries.invariant.number;
  shown = λ tables shown h.
      next_loaded g.R.Rows.shows c.loop-entries.rows c.args.start c.loop-entries.entries-index c.loop-entries.number c.args.opening.now c.as_slice.result.now c.loop-entries-test.true c.loop-entries.invariant.number
      (item_same c.args.opening.now c.loop-entries.entries-index c.entries-item.result c.as_slice.result.now c.as_slice.ensures c.entries-item.is) c.load_rows.new.rows tables c.in_ok-load_rows.ensures h (c.loop-entries.invariant.shown tables shown h);
}
