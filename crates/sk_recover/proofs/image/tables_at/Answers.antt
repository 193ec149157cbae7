use Rattle.std.proofs.Common.{◌++◌, ◌∷◌, [], length-append, arith}
use Rattle.std.proofs.lemmas.Result.{err_from_is_err_and}
use Rattle.sk_codec.specs.Reading.{rest_of}
use Rattle.sk_codec.proofs.Loops.{items_on, items_end, items_done}
use Rattle.sk_log.specs.Images.{table_at}
use Rattle.sk_recover.specs.Views.{tables_at}
use Rattle.sk_recover.proofs.Catalogs.{taken}
use Rattle.sk_recover.proofs.image.tables_at.Goals as goal

pub returns-in_err-table-clause-value : goal.returns-in_err-table-clause-value
returns-in_err-table-clause-value c =
    let p = err_from_is_err_and c.from_residual.result c.from_residual.ensures.1 in
    rw (p.1, p.2) (items_end c.in_err-table.field-0.0 table_at (λ ts t. ts ++ t ∷ []) c.loop.catalog c.args.count c.loop.counter c.loop.catalog (rest_of c.loop.left) (tables_at c.args.count [] (rest_of c.args.rest)) c.loop-test.true (rw c.tables.ensures.value at c.in_err-table.ensures.value) c.loop.invariant.reads)

pub loop-preserved : goal.loop-preserved
loop-preserved c = record {
  reads = rw c.in_ok-add.ensures.ok (items_on table_at (λ ts t. ts ++ t ∷ []) c.loop.catalog c.args.count c.loop.counter c.loop.catalog (rest_of c.loop.left) c.in_ok-table.table (rest_of c.in_ok-table.after) (tables_at c.args.count [] (rest_of c.args.rest)) c.loop-test.true (rw c.tables.ensures.value at c.in_ok-table.ensures.value) c.loop.invariant.reads);
  place = c.in_ok-table.ensures.place;
  counted = rw c.in_ok-add.ensures.ok (omega (arith, c.loop.invariant.counted, length-append c.loop.catalog (c.in_ok-table.table ∷ [])));
}

pub returns-clause-value : goal.returns-clause-value
returns-clause-value c = items_done table_at (λ ts t. ts ++ t ∷ []) c.loop.catalog c.args.count c.loop.counter c.loop.catalog (rest_of c.loop.left) (tables_at c.args.count [] (rest_of c.args.rest)) c.loop-test.false c.loop.invariant.reads

pub add-requires : goal.add-requires
add-requires c = taken c.loop.catalog c.in_ok-table.table (rw c.tables.ensures.value at c.in_ok-table.ensures.new) (omega (arith, c.loop.invariant.counted, c.loop-test.true, c.requires.few))
