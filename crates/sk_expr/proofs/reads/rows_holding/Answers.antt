use Rattle.std.proofs.Common.{rules, ◌≡◌, ◌∷◌, Ok, true, false, subst}
use Rattle.sk_rows.specs.Evaluation.{holds_in}
use Rattle.sk_expr.proofs.Taking.{row_taken, row_left}
use Rattle.sk_expr.proofs.reads.rows_holding.Goals as goal

pub loop-row-preserved-in-Continue-branch-2 : goal.loop-row-preserved-in-Continue-branch-2
loop-row-preserved-in-Continue-branch-2 c =
    let next : c.loop-row.row-iterator.rest.items ≡ c.in-Some.row ∷ c.next.new.self.rest.items = search rules in
    let holds : holds_in c.args.columns.now c.in-Some.row.1 c.args.cond.now ≡ Ok true = subst (λ met. holds_in c.args.columns.now c.in-Some.row.1 c.args.cond.now ≡ Ok met) c.if-branch.true (rw (← c.as_slice.ensures) c.in_ok-holds_over.ensures) in
    row_taken c.args.columns.now c.args.cond.now c.in-Some.row c.loop-row.row-iterator.rest.items c.next.new.self.rest.items c.loop-row.out _ c.put.new.out c.loop-row.invariant next holds c.in_ok-put.ensures

pub loop-row-preserved : goal.loop-row-preserved
loop-row-preserved c =
    let next : c.loop-row.row-iterator.rest.items ≡ c.in-Some.row ∷ c.next.new.self.rest.items = search rules in
    let holds : holds_in c.args.columns.now c.in-Some.row.1 c.args.cond.now ≡ Ok false = subst (λ met. holds_in c.args.columns.now c.in-Some.row.1 c.args.cond.now ≡ Ok met) c.if-branch.false (rw (← c.as_slice.ensures) c.in_ok-holds_over.ensures) in
    row_left c.args.columns.now c.args.cond.now c.in-Some.row c.loop-row.row-iterator.rest.items c.next.new.self.rest.items c.loop-row.out _ c.loop-row.invariant next holds
