use Rattle.std.proofs.Common.{◌++◌, ◌∷◌, []}
use Rattle.std.proofs.lemmas.Result.{err_from_is_err_and}
use Rattle.sk_codec.specs.Reading.{rest_of}
use Rattle.sk_codec.proofs.Loops.{items_on, items_end, items_done}
use Rattle.sk_log.specs.Images.{keyed_at}
use Rattle.sk_recover.specs.Views.{keyeds_at}
use Rattle.sk_recover.proofs.Rising.{rise_more}
use Rattle.sk_recover.proofs.image.keyeds_at.Goals as goal

pub returns-in_err-row-clause-value : goal.returns-in_err-row-clause-value
returns-in_err-row-clause-value c =
    let p = err_from_is_err_and c.from_residual.result c.from_residual.ensures.1 in
    rw (p.1, p.2) (items_end c.in_err-row.field-0.0 (keyed_at c.args.columns.now) (λ before row. before ++ row ∷ []) c.loop.rows.items c.args.count c.loop.counter c.loop.rows.items (rest_of c.loop.left) (keyeds_at c.args.columns.now c.args.count [] (rest_of c.args.rest)) c.loop-test.true (rw c.as_slice.ensures.value at c.in_err-row.ensures.value) c.loop.invariant.reads)

pub loop-preserved : goal.loop-preserved
loop-preserved c = record {
  reads = rw c.in_ok-push.ensures.items (items_on (keyed_at c.args.columns.now) (λ before row. before ++ row ∷ []) c.loop.rows.items c.args.count c.loop.counter c.loop.rows.items (rest_of c.loop.left) c.in_ok-row.row (rest_of c.in_ok-row.after) (keyeds_at c.args.columns.now c.args.count [] (rest_of c.args.rest)) c.loop-test.true (rw c.as_slice.ensures.value at c.in_ok-row.ensures.value) c.loop.invariant.reads);
  place = c.in_ok-row.ensures.place;
  rise = rw c.in_ok-push.ensures.items (rise_more c.loop.rows.items c.in_ok-row.row c.loop.invariant.rise (rw c.as_slice.ensures.value at c.in_ok-row.ensures.past));
}

pub returns-clause-value : goal.returns-clause-value
returns-clause-value c = items_done (keyed_at c.args.columns.now) (λ before row. before ++ row ∷ []) c.loop.rows.items c.args.count c.loop.counter c.loop.rows.items (rest_of c.loop.left) (keyeds_at c.args.columns.now c.args.count [] (rest_of c.args.rest)) c.loop-test.false c.loop.invariant.reads
