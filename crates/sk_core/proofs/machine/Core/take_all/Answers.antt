-- One more event: its state and its reply come behind the others.
use Rattle.std.proofs.Common.{rules, ◌∙◌}
use Rattle.sk_core.proofs.Reaching.{run_next, replies_next}
use Rattle.sk_core.proofs.machine.Core.take_all.Goals as goal

pub loop-event-preserved : goal.loop-event-preserved
loop-event-preserved c = record {
  state = run_next c.args.self.now c.args.events.now c.loop-event.event-index c.event-item.result c.loop-event.self c.try_step.new.self c.in-Ok.reply c.loop-event-test.true c.event-item.is c.loop-event.invariant.state c.in-Ok.ensures.ok;
  replies = c.push_reserved.ensures.items
      ∙ replies_next c.args.self.now c.args.events.now c.loop-event.event-index c.event-item.result c.loop-event.self c.try_step.new.self c.in-Ok.reply c.loop-event.replies.items c.loop-event-test.true c.event-item.is c.loop-event.invariant.state c.in-Ok.ensures.ok
      c.loop-event.invariant.replies;
  counted = search rules;
  room = search rules;
}
