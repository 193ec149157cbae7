use Rattle.std.proofs.Common.{sym, ◌∙◌}
use Rattle.sk_mem.proofs.Forgetting.{gone_agrees, none_copied, none_since}
use Rattle.sk_mem.proofs.chains.is_gone.Goals as goal

pub returns-in-Some : goal.returns-in-Some
returns-in-Some c = λ t.
    gone_agrees c.args.upto c.args.chain.now c.in-Some.version.now
    (sym c.version.ensures.value ∙ none_copied c.version.result (sym c.is_some.ensures ∙ c.if-is_some.false))
    (sym c.in-Some.ensures)
    (none_since c.in-Some.version.now.row c.is_none.result c.is_none.ensures t)
