-- The session's last transaction has committed, and its need is queued or was; or there is none to queue.
use Rattle.std.proofs.Common.{sym, ap, ◌∙◌}
use Rattle.std.specs.Option.{option_copied}
use Rattle.sk_serial.proofs.Waiting.{queues_nobody, queues_open, queues_need}
use Rattle.sk_serial.proofs.playing.queue_last.Goals as goal

pub returns-in_default-clause-waits : goal.returns-in_default-clause-waits
returns-in_default-clause-waits g c = queues_nobody c.args.run.now c.args.session c.args.store.now (sym c.last_record.ensures.value ∙ ap option_copied c.in_default.is)

pub returns-in_default-need_of-clause-waits : goal.returns-in_default-need_of-clause-waits
returns-in_default-need_of-clause-waits g c = queues_open c.args.run.now c.args.session c.in-Some.record.now c.args.store.now (sym c.last_record.ensures.value ∙ ap option_copied c.in-Some.is) (sym c.need_of.ensures ∙ c.in_default-need_of.is)

pub returns-in-Some-need_of-clause-waits : goal.returns-in-Some-need_of-clause-waits
returns-in-Some-need_of-clause-waits g c = queues_need c.args.run.now c.args.session c.in-Some.record.now c.in-Some-need_of.need c.args.store.now c.queue.new.self c.requires.known.1
    (sym c.last_record.ensures.value ∙ ap option_copied c.in-Some.is) (sym c.need_of.ensures ∙ c.in-Some-need_of.is) c.in-Some.ensures.over c.in-Some.ensures.newest c.queue.ensures.queued c.queue.ensures.passed
