use Rattle.std.proofs.Common.{◌≡◌, ◌∷◌, [], ◌++◌}
use Rattle.sk_rows.specs.declared.expr.Expr.TheVariants as expr
use Rattle.sk_rows.specs.declared.operations.Operation.{Operation}
use Rattle.sk_rows.proofs.Spines.{went_down}
use Rattle.sk_rows.proofs.expr.Expr.spine.Goals as goal

pub loop-e-preserved : goal.loop-e-preserved
loop-e-preserved c =
    let o : Operation = record { op = c.in-Two.op; right = c.get-in-Two.result } in
    let two : c.loop-e.e.now ≡ expr.Two o.op c.get-e.result.now o.right.now = cc in
    let pushed : c.push.new.self.items ≡ c.loop-e.operations.items ++ o ∷ [] = c.in_ok-push-in-Two.ensures.items in
    went_down c.loop-e.operations.items c.push.new.self.items o c.loop-e.e.now c.get-e.result.now c.args.self.now c.loop-e.invariant two pushed
