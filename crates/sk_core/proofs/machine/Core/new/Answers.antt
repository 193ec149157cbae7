-- A beginning is a state that a run leads to.
use Rattle.std.proofs.Common.{ap, ◌∙◌}
use Rattle.sk_linked.specs.State.{core_at}
use Rattle.sk_core.proofs.Reaching.{begins_as}
use Rattle.sk_core.proofs.machine.Core.new.Goals as goal

pub shown-requires : goal.shown-requires
shown-requires c =
    begins_as c.in_ok-present.present c.args.catalog.now c.args.rows.now c.args.start c.args.partitions c.args.points
    (c.in_ok-present.ensures ∙ c.in_ok-state.ensures ∙ ap (λ rows. core_at c.args.catalog.now rows c.args.start c.args.partitions c.args.points) c.in_ok-rows.ensures)
    c.requires.can_start c.requires.sorted
