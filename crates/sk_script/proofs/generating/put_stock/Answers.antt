use Rattle.std.proofs.Common.{◌+◌, ◌-◌, ◌++◌, List, [], ◌∷◌, ap, ◌∙◌}
use Rattle.sk_rows.specs.declared.statement.Statement.{Statement}
use Rattle.sk_script.specs.declared.script.Line.{Line}
use Rattle.sk_script.specs.declared.script.Line.TheVariants as line
use Rattle.sk_script.specs.Generated.{stocked}
use Rattle.sk_script.proofs.Making.{more_stock}
use Rattle.sk_script.proofs.generating.put_stock.Goals as goal

pub loop-i-preserved : goal.loop-i-preserved
loop-i-preserved c =
    let made = c.loop-i.lines in
    let i = c.loop-i.i in
    let left = c.args.count - (i + 1) in
    ap (λ (ls : List Line). ls ++ stocked (i + 1 + 1) left) c.in_ok-put.ensures
    ∙ ap (λ (s : Statement). (made ++ line.Says 1 s ∷ []) ++ stocked (i + 1 + 1) left) c.in_ok-statement.ensures
    ∙ more_stock made _ c.args.count i c.loop-i-test.true c.loop-i.invariant
