use Rattle.std.proofs.Common.{rules, ◌≡◌, [], ◌∷◌, ◌++◌, ap, sym, subst, ◌∙◌}
use Rattle.sk_rows.specs.Expression.{depth}
use Rattle.sk_rows.specs.Spine.{AreBelow, first_of}
use Rattle.sk_rows.proofs.Spines.{below_pop}
use Rattle.sk_parse.specs.Spelled.{text}
use Rattle.sk_parse.specs.Chains.{behind, behind_one, opens, place_in}
use Rattle.sk_parse.proofs.Chains.{written_all, written_more}
use Rattle.sk_parse.proofs.printing.+expression.Goals as goal

pub put_expr-loop-operation-preserved : goal.put_expr-loop-operation-preserved
put_expr-loop-operation-preserved t c =
    let o = c.in-Some.operation in
    let rest = c.pop.new.self.items in
    let out = c.loop-operation.out.items in
    let is : c.loop-operation.operations.items ≡ rest ++ o ∷ [] = c.in-Some.ensures.items in
    let place = c.place_in-in-Some.ensures ∙ ap (λ l. place_in l c.args.at) c.as_slice-in-Some.ensures.value in
    let made : c.put_behind.new.out.items ≡ out ++ behind_one o (place_in rest c.args.at) = c.in_ok-put_behind.ensures ∙ ap (λ p. out ++ behind_one o p) place in (
      written_more out c.put_behind.new.out.items (c.put_first.new.out.items ++ behind c.in_ok-spine.spine.operations.items c.args.at) c.loop-operation.operations.items rest o c.args.at c.loop-operation.invariant.0 is made,
      (below_pop (depth c.args.e.now) rest o (subst (AreBelow (depth c.args.e.now)) is c.loop-operation.invariant.1)).0,
    )

pub put_expr-returns : goal.put_expr-returns
put_expr-returns t c =
    let os = c.in_ok-spine.spine.operations.items in
    let first = first_of c.in_ok-spine.spine.first in
    let none : c.loop-operation.operations.items ≡ [] = search rules in
    let all : c.loop-operation.out.items ++ [] ≡ c.put_first.new.out.items ++ behind os c.args.at = ap (λ l. c.loop-operation.out.items ++ behind l c.args.at) (sym none) ∙ c.loop-operation.invariant.0 in
    let before : c.put_opens.new.out.items ≡ c.args.out.now.items ++ opens os c.args.at = c.in_ok-put_opens.ensures ∙ ap (λ l. c.args.out.now.items ++ opens l c.args.at) c.as_slice.ensures.value in
    let place = c.place_in.ensures ∙ ap (λ l. place_in l c.args.at) c.as_slice-2.ensures.value in
    let begun : c.put_first.new.out.items ≡ c.put_opens.new.out.items ++ text first (place_in os c.args.at) = c.in_ok-put_first.ensures ∙ ap (λ p. c.put_opens.new.out.items ++ text first p) place in
    written_all c.args.out.now.items c.put_opens.new.out.items c.put_first.new.out.items c.loop-operation.out.items os first c.args.e.now c.args.at c.in_ok-spine.ensures.value before begun all
