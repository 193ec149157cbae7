use Rattle.std.specs.Prelude.{◌≡◌, true}
use Rattle.std.proofs.Common.{sym, ap, ◌∙◌}
use Rattle.sk_model.specs.Journal.{takes_horizon, with_horizon}
use Rattle.sk_model.proofs.Runs.{run_entered}
use Rattle.sk_model.proofs.journal.JournalWriter.enter_horizon.Goals as goal

pub returns-then-takes_horizon : goal.returns-then-takes_horizon
returns-then-takes_horizon c =
    let t : takes_horizon c.args.self.now.entries c.args.n ≡ true = sym c.takes_horizon.ensures ∙ c.if-takes_horizon.true in
    ap (λ xs. record { entries = xs; room = c.self.inside.room })
    (sym (run_entered c.self.inside.parts.items c.self.inside.last c.args.n c.self.invariant.others (ap (λ w. takes_horizon w.entries c.args.n) c.self.view_is ∙ t))
    ∙ ap (λ w. with_horizon w.entries c.args.n) c.self.view_is)
    ∙ ap (λ w. record { entries = with_horizon c.args.self.now.entries c.args.n; room = w.room }) c.self.view_is
