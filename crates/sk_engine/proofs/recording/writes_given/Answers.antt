use Rattle.std.proofs.Common.{◌≡◌, [], ◌∷◌, ◌++◌, List, map, ap, sym, subst, ◌∙◌, arith, rules}
use Rattle.std.proofs.lemmas.List.{map-append}
use Rattle.sk_engine.specs.declared.row_id.RowId.{RowId}
use Rattle.sk_engine.specs.Recording.{Alike, IsWrite, Yields, write_given}
use Rattle.sk_engine.proofs.Recorded.{alike_push}
use Rattle.sk_engine.proofs.recording.writes_given.Goals as goal

pub loop-row_id-preserved : goal.loop-row_id-preserved
loop-row_id-preserved g c = record {
  later = omega (arith, c.loop-row_id.invariant.later, c.write_given.ensures.later);
  keeps = λ tables chains h. c.write_given.ensures.keeps tables chains (c.loop-row_id.invariant.keeps tables chains h);
  gives = λ tables chains h.
      let row_ids : List RowId = map (λ p. p.now) c.loop-row_id.yielded in
      let wrote : IsWrite g.R.Rows.told tables (write_given chains c.args.n c.in-Some.row_id.now) c.in_ok-write.write =
      subst (Yields (g.R.Rows.faults c.loop-row_id.rows) (g.R.Rows.faults c.write_given.new.rows) (IsWrite g.R.Rows.told tables (write_given chains c.args.n c.in-Some.row_id.now))) c.in_ok-write.was
      (c.write_given.ensures.gives tables chains (c.loop-row_id.invariant.keeps tables chains h)) in
      let items : c.push.new.self.items ≡ c.loop-row_id.writes.items ++ c.in_ok-write.write ∷ [] = search rules in
      subst (Alike (IsWrite g.R.Rows.told tables) (map (write_given chains c.args.n) (map (λ p. p.now) (c.loop-row_id.yielded ++ c.in-Some.row_id ∷ [])))) (sym items)
      (subst (λ ds. Alike (IsWrite g.R.Rows.told tables) ds (c.loop-row_id.writes.items ++ c.in_ok-write.write ∷ []))
      (sym (ap (map (write_given chains c.args.n)) (map-append (λ p. p.now) c.loop-row_id.yielded (c.in-Some.row_id ∷ [])) ∙ map-append (write_given chains c.args.n) row_ids (c.in-Some.row_id.now ∷ [])))
      (alike_push (IsWrite g.R.Rows.told tables) (map (write_given chains c.args.n) row_ids) c.loop-row_id.writes.items (write_given chains c.args.n c.in-Some.row_id.now) c.in_ok-write.write
      (c.loop-row_id.invariant.gives tables chains h) wrote));
}
