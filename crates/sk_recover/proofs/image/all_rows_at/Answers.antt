use Rattle.std.proofs.lemmas.Result.{err_from_is_err_and}
use Rattle.sk_codec.specs.Reading.{rest_of}
use Rattle.sk_rows.specs.declared.table.Table.{Table}
use Rattle.sk_log.specs.Images.{rows_at, all_rows_at}
use Rattle.sk_recover.specs.Taking.{Rise}
use Rattle.sk_recover.proofs.Rising.{all_more}
use Rattle.sk_recover.proofs.Each.{each_on, each_end, each_done}
use Rattle.sk_recover.proofs.Sound.{counted}
use Rattle.sk_recover.proofs.image.all_rows_at.Goals as goal

pub returns-in_err-rows-clause-value : goal.returns-in_err-rows-clause-value
returns-in_err-rows-clause-value c =
    let p = err_from_is_err_and c.from_residual.result c.from_residual.ensures.1 in
    let fault = rw (c.as_slice.ensures, c.table-item.is) at c.in_err-rows.ensures.value in
    rw (p.1, p.2) (each_end c.in_err-rows.field-0.0 (λ (t : Table) rest. rows_at t.columns rest) c.loop-table.all.items c.args.tables.now c.loop-table.table-index (rest_of c.loop-table.left) c.table-item.result (all_rows_at c.args.tables.now (rest_of c.args.rest)) c.loop-table-test.true fault c.loop-table.invariant.reads)

pub loop-table-preserved : goal.loop-table-preserved
loop-table-preserved c =
    let read = rw (c.as_slice.ensures, c.table-item.is) at c.in_ok-rows.ensures.value in
    record {
      reads = rw c.in_ok-push.ensures.items (each_on (λ (t : Table) rest. rows_at t.columns rest) c.loop-table.all.items c.args.tables.now c.loop-table.table-index (rest_of c.loop-table.left) c.in_ok-rows.rows (rest_of c.in_ok-rows.after) c.table-item.result (all_rows_at c.args.tables.now (rest_of c.args.rest)) c.loop-table-test.true read c.loop-table.invariant.reads);
      place = c.in_ok-rows.ensures.place;
      rise = rw c.in_ok-push.ensures.items (all_more Rise c.loop-table.all.items c.in_ok-rows.rows c.loop-table.invariant.rise c.in_ok-rows.ensures.rise);
    }

pub returns-clause-value : goal.returns-clause-value
returns-clause-value c = each_done (λ (t : Table) rest. rows_at t.columns rest) c.loop-table.all.items c.args.tables.now c.loop-table.table-index (rest_of c.loop-table.left) (all_rows_at c.args.tables.now (rest_of c.args.rest)) c.loop-table-test.false c.loop-table.invariant.reads

pub returns-clause-count : goal.returns-clause-count
returns-clause-count c = counted c.args.tables.now (rest_of c.args.rest) _ _ (returns-clause-value c)
