-- The commits of a state that a run leads to can be woven, and what an event makes of it is such a state.
use Rattle.std.proofs.Common.{◌≡◌, rules}
use Rattle.sk_linked.specs.Machine.{step}
use Rattle.sk_core.proofs.Reaching.{can_weave, goes_on_as}
use Rattle.sk_core.proofs.machine.Core.stepped.Goals as goal

pub next-requires : goal.next-requires
next-requires c = can_weave c.self.inside.present c.self.invariant.1

pub shown-requires : goal.shown-requires
shown-requires c =
    let is : c.in_ok-present.present ≡ (step c.self.inside.present c.args.event.now).core = search rules in
    goes_on_as c.self.inside.present c.in_ok-present.present c.args.event.now is c.self.invariant.1
