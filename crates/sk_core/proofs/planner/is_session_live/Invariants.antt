use Rattle.std.proofs.Common.{◌≡◌, ◌&&◌, not, drop}
use Rattle.std.specs.List.{list_any}
use Rattle.sk_linked.specs.Plans.{of_session, is_over}
use Rattle.sk_core.proofs.planner.is_session_live.Given as goal

-- None before this one is live.
abbrev pub invariant-loop-actor : goal.invariant-loop-actor
invariant-loop-actor l =
    list_any (λ r. of_session l.tx r && not (is_over r.stage)) l.actors ≡ list_any (λ r. of_session l.tx r && not (is_over r.stage)) (drop l.actor-index l.actors)
