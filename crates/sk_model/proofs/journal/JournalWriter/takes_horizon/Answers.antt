use Rattle.std.specs.Prelude.{◌==◌}
use Rattle.std.proofs.Common.{sym, ap, ◌∙◌}
use Rattle.sk_model.specs.Journal.{takes_horizon}
use Rattle.sk_model.proofs.Runs.{takes_empty, takes_same}
use Rattle.sk_model.proofs.journal.JournalWriter.takes_horizon.Goals as goal

pub returns-then-self-eq0 : goal.returns-then-self-eq0
returns-then-self-eq0 c =
    ap (λ k. k == 0) c.if-self-eq0.true
    ∙ sym (takes_empty c.self.inside.parts.items c.self.inside.last c.args.n c.self.inside.len c.self.invariant.others c.self.invariant.counted c.if-self-lt18446744073709551615.true c.if-self-eq0.true)
    ∙ ap (λ w. takes_horizon w.entries c.args.n) c.self.view_is

pub returns-else-self-eq0 : goal.returns-else-self-eq0
returns-else-self-eq0 c =
    sym (takes_same c.self.inside.parts.items c.self.inside.last c.args.n c.self.inside.len c.self.invariant.others c.self.invariant.counted c.if-self-lt18446744073709551615.true c.if-self-eq0.false)
    ∙ ap (λ w. takes_horizon w.entries c.args.n) c.self.view_is
