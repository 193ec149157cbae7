use Rattle.std.proofs.Common.{◌∷◌, [], map, ap, sym, subst, ◌∙◌, arith}
use Rattle.std.proofs.lemmas.List.{map-append}
use Rattle.sk_engine.specs.Rows.{all_acted}
use Rattle.sk_engine.proofs.Acted.{next_row_id}
use Rattle.sk_engine.proofs.acting.act_all.Goals as goal

pub loop-row_id-preserved : goal.loop-row_id-preserved
loop-row_id-preserved g c = record {
  later = omega (arith, c.loop-row_id.invariant.later, c.act.ensures.later);
  acts = λ tables chains h.
      subst (λ f. g.R.Rows.shows c.act.new.self tables f)
      (next_row_id c.args.act (map (λ p. p.now) c.loop-row_id.yielded) c.in-Some.row_id.now chains
      ∙ ap (λ ps. all_acted c.args.act ps chains) (sym (map-append (λ p. p.now) c.loop-row_id.yielded (c.in-Some.row_id ∷ []))))
      (c.act.ensures.acts tables (all_acted c.args.act (map (λ p. p.now) c.loop-row_id.yielded) chains) (c.loop-row_id.invariant.acts tables chains h));
}
