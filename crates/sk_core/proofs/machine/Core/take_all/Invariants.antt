use Rattle.std.proofs.Common.{◌≡◌, ◌≤◌, take, length, vec_len}
use Rattle.std.specs.Vec.{vec_capacity}
use Rattle.sk_linked.specs.Machine.{run}
use Rattle.sk_core.specs.Reachable.{replies_to}
use Rattle.sk_core.proofs.machine.Core.take_all.Given as goal

-- The state and the replies are those of the events so far, and there is room for a reply to each.
abbrev pub invariant-loop-event : goal.invariant-loop-event
invariant-loop-event l = record {
  state : l.self ≡ run l.fn.self (take l.event-index l.events);
  replies : l.replies.items ≡ replies_to l.fn.self (take l.event-index l.events);
  counted : vec_len l.replies ≡ l.event-index;
  room : length l.events ≤ vec_capacity l.replies;
}
