use Rattle.std.proofs.Common.{◌≡◌, ◌+◌, ◌-◌, length, ap, sym, arith, ◌∙◌}
use Rattle.sk_parse.specs.Printed.{left_at}
use Rattle.sk_parse.proofs.Chains.{last_at}
use Rattle.sk_parse.proofs.printing.place_in.Goals as goal

pub returns-in-len1-up : goal.returns-in-len1-up
returns-in-len1-up c =
    let n = length c.args.operations.now - 1 in
    let len : length c.args.operations.now ≡ n + 1 = omega (arith, c.in-len1-up.len_at_least) in
    c.left_at.ensures ∙ ap (λ o. left_at o.op) c.last-item.is ∙ sym (last_at c.args.operations.now n c.args.at c.last-item.result len)
