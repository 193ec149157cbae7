use Rattle.std.proofs.Common.{◌+◌, ◌-◌, ◌++◌, List, take, ap, ◌∙◌}
use Rattle.sk_script.specs.declared.drawing.Transfer.{Transfer}
use Rattle.sk_script.specs.declared.script.Line.{Line}
use Rattle.sk_script.specs.Generated.{round, rounds}
use Rattle.sk_script.proofs.Making.{more_rounds}
use Rattle.sk_script.proofs.generating.put_rounds.Goals as goal

pub loop-round-preserved : goal.loop-round-preserved
loop-round-preserved c =
    let made = c.loop-round.lines in
    let left = c.args.count - (c.loop-round._round + 1) in
    ap (λ (ls : List Line). ls ++ rounds left c.parted.result.1.now) c.in_ok-put_round.ensures
    ∙ ap (λ (ts : List Transfer). (made ++ round ts) ++ rounds left c.parted.result.1.now) c.parted.ensures.first
    ∙ ap (λ (ts : List Transfer). (made ++ round (take 8 c.loop-round.rest.now)) ++ rounds left ts) c.parted.ensures.others
    ∙ more_rounds made _ c.loop-round.rest.now c.args.count c.loop-round._round c.loop-round-test.true c.loop-round.invariant
