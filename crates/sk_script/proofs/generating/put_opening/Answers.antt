use Rattle.sk_rows.specs.declared.statement.Begun.TheVariants as begun
use Rattle.sk_rows.specs.declared.statement.Statement.TheVariants as st
use Rattle.sk_script.specs.declared.script.Line.TheVariants as line
use Rattle.sk_script.specs.Generated.{opening, stocked}
use Rattle.sk_script.proofs.Making.{on_ok_by, three_parts}
use Rattle.sk_script.proofs.generating.put_opening.Goals as goal

pub returns : goal.returns
unfolding opening
returns c =
    on_ok_by c.put-2.result _ _ _
    (three_parts c.args.lines.now _ _ (line.Says 1 (st.Begin begun.Store)) (line.Says 1 st.Commit) (stocked 1 16) c.in_ok-put.ensures c.in_ok-put_stock.ensures)
    c.put-2.ensures
