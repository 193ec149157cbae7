use Rattle.std.proofs.Common.{◌≡◌, ◌≤◌, ◌++◌, ◌∷◌, [], length, take, sym, ap, ◌∙◌, arith, rules}
use Rattle.std.proofs.lemmas.List.{length-take-le, take_more}
use Rattle.sk_model.specs.Database.{row_of}
use Rattle.sk_mem.specs.Chains.{chain_at}
use Rattle.sk_engine.specs.Stands.{begun}
use Rattle.sk_mem.proofs.Starting.{more_tables}
use Rattle.sk_mem.proofs.first.first_tables.Goals as goal

pub loop-rows-preserved : goal.loop-rows-preserved
loop-rows-preserved c = record {
  count = search rules;
  chains = λ t key.
      let below : c.loop-rows.rows-index ≤ length c.args.tables.now = omega arith in
      let same : length c.loop-rows.maps.items ≡ length (take c.loop-rows.rows-index c.args.tables.now) = c.loop-rows.invariant.count ∙ sym (length-take-le c.loop-rows.rows-index c.args.tables.now below) in
      ap (λ ms. chain_at ms t key) c.in_ok-push.ensures.items
      ∙ more_tables c.args.start c.loop-rows.maps.items c.in_ok-first_rows.field-0 (take c.loop-rows.rows-index c.args.tables.now) c.as_slice.result.now same c.loop-rows.invariant.chains c.in_ok-first_rows.ensures t key
      ∙ ap (λ rows. begun c.args.start (row_of (take c.loop-rows.rows-index c.args.tables.now ++ rows ∷ []) t key)) (c.as_slice.ensures ∙ c.rows-item.is)
      ∙ ap (λ tables. begun c.args.start (row_of tables t key)) (sym (take_more c.args.tables.now c.loop-rows.rows-index c.rows-item.result c.loop-rows-test.true));
}
