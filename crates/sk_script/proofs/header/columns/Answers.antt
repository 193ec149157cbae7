use Rattle.std.proofs.Common.{rules, arith}
use Rattle.std.proofs.lemmas.Grind.{common_steps}
use Rattle.sk_script.specs.Header.{columns_from}
use Rattle.sk_script.proofs.Turns.{one_more}
use Rattle.sk_script.proofs.header.columns.Goals as goal

pub loop-turn-preserved : goal.loop-turn-preserved
unfolding columns_from
loop-turn-preserved c =
    let e = one_more (λ n. columns_from n c.loop-turn.found c.loop-turn.cursor) _ c.loop-turn._turn c.loop-turn-test.true c.loop-turn.invariant in
    first_of (search rules, grind (arith, common_steps))
