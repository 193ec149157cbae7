use Rattle.std.proofs.Common.{◌≡◌, ℕ, ◌++◌, ◌∷◌, [], subst, arith}
use Rattle.std.proofs.lemmas.Result.{err_from_is_err_and}
use Rattle.sk_codec.specs.Reading.{rest_of}
use Rattle.sk_codec.proofs.Loops.{items_on, items_end, items_done}
use Rattle.sk_log.specs.Images.{column_at}
use Rattle.sk_recover.specs.Taking.{AreGood}
use Rattle.sk_recover.specs.Views.{columns_at}
use Rattle.sk_recover.proofs.Catalogs.{good_more}
use Rattle.sk_recover.proofs.image.columns_at.Goals as goal

pub returns-in_err-column-clause-value : goal.returns-in_err-column-clause-value
returns-in_err-column-clause-value c =
    let p = err_from_is_err_and c.from_residual.result c.from_residual.ensures.1 in
    rw (p.1, p.2) (items_end c.in_err-column.field-0.0 column_at (λ cs c. cs ++ c ∷ []) c.loop.columns.items c.args.count c.loop.counter c.loop.columns.items (rest_of c.loop.left) (columns_at c.args.count [] (rest_of c.args.rest)) c.loop-test.true (rw c.as_slice.ensures.value at c.in_err-column.ensures.value) c.loop.invariant.reads)

pub loop-preserved : goal.loop-preserved
loop-preserved c = record {
  reads = rw c.in_ok-push.ensures.items (items_on column_at (λ cs c. cs ++ c ∷ []) c.loop.columns.items c.args.count c.loop.counter c.loop.columns.items (rest_of c.loop.left) c.in_ok-column.column (rest_of c.in_ok-column.after) (columns_at c.args.count [] (rest_of c.args.rest)) c.loop-test.true (rw c.as_slice.ensures.value at c.in_ok-column.ensures.value) c.loop.invariant.reads);
  place = c.in_ok-column.ensures.place;
  good = rw c.in_ok-push.ensures.items (good_more c.loop.counter c.loop.columns.items c.in_ok-column.column c.loop.invariant.good (rw c.as_slice.ensures.value at c.in_ok-column.ensures.new));
  most = omega (arith, c.loop-test.true);
}

pub returns-clause-value : goal.returns-clause-value
returns-clause-value c = items_done column_at (λ cs c. cs ++ c ∷ []) c.loop.columns.items c.args.count c.loop.counter c.loop.columns.items (rest_of c.loop.left) (columns_at c.args.count [] (rest_of c.args.rest)) c.loop-test.false c.loop.invariant.reads

pub returns-clause-good : goal.returns-clause-good
returns-clause-good c =
    let all : c.loop.counter ≡ c.args.count = omega (arith, c.loop-test.false, c.loop.invariant.most) in
    subst (λ (n : ℕ). AreGood n c.loop.columns.items) all c.loop.invariant.good
