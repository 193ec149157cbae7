-- The cut is that of the engines' horizons.
use Rattle.std.proofs.Common.{ap, ◌∙◌}
use Rattle.sk_model.specs.EngineReplies.{horizon_of}
use Rattle.sk_core.proofs.CutFound.{cut_is}
use Rattle.sk_core.proofs.flush.cut_next.Goals as goal

pub returns : goal.returns
returns c =
    c.in_ok-next.ensures
    ∙ cut_is c.args.k.now c.in_ok-state.state c.in_ok-x.x c.in_ok-y.y c.in_ok-state.ensures (c.in_ok-x.ensures ∙ ap (λ e. horizon_of e) c.table.ensures) (c.in_ok-y.ensures ∙ ap (λ e. horizon_of e) c.table-2.ensures)
