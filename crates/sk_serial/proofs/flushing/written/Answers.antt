-- The batch was written, or nothing was, or the disk failed.
use Rattle.std.proofs.Common.{Err, refl, sym, ap, subst, ◌∙◌}
use Rattle.sk_cut.specs.Batches.{same_cut, stored_text, body_text, full_length}
use Rattle.sk_durable.specs.Refusing.{RefusesOrNot}
use Rattle.sk_durable.specs.declared.refused.Refused.TheVariants as refused
use Rattle.sk_serial.specs.Flushed.{IsPast}
use Rattle.sk_serial.specs.Showing.{batch_of}
use Rattle.sk_serial.proofs.Showing.{wrote_ok, wrote_err}
use Rattle.sk_serial.proofs.Full.{past_refused}
use Rattle.sk_serial.proofs.Waiting.{keeps_same, keeps_flushed, none_covered}
use Rattle.sk_serial.proofs.flushing.written.Goals as goal

pub returns-in-Ok-clause-writes : goal.returns-in-Ok-clause-writes
returns-in-Ok-clause-writes g c = wrote_ok g.D.Device.disk c.args.store.now c.flush.new.self (batch_of c.args.found) (same_cut c.args.found.cut c.args.store.now.cut) refl c.requires.open
    c.in-Ok.ensures.untouched c.in-Ok.ensures.at_most c.in-Ok.ensures.written c.in-Ok.ensures.done

pub returns-in-Err-Flush-clause-writes : goal.returns-in-Err-Flush-clause-writes
returns-in-Err-Flush-clause-writes g c = wrote_err g.D.Device.disk c.args.store.now c.flush.new.self (batch_of c.args.found) c.in-Err-Flush.fault c.in-Err-Flush.ensures.at_most
    (λ same. sym c.in-Err-Flush.field-0-is ∙ c.in-Err-Flush.ensures.equal same) (λ differs. c.in-Err-Flush.ensures.refused (λ is. differs (sym c.in-Err-Flush.field-0-is ∙ is)))
    (λ is. c.in-Err-Flush.ensures.broken (ap Err (c.in-Err-Flush.field-0-is ∙ ap refused.Flush is))) c.in-Err-Flush.ensures.told.2

pub returns-in-Err-Flush-clause-full : goal.returns-in-Err-Flush-clause-full
returns-in-Err-Flush-clause-full g c =
    let batch = batch_of c.args.found in
    let kept = c.args.store.now in
    subst (IsPast kept.logmax) (sym c.noted-in-Err-Flush.ensures.refused) (past_refused kept.logmax kept.ends (stored_text batch) (body_text kept.ends batch) (same_cut c.args.found.cut kept.cut) c.in-Err-Flush.fault
    (λ same. sym c.in-Err-Flush.field-0-is ∙ c.in-Err-Flush.ensures.equal same)
    (λ differs. subst (RefusesOrNot (full_length kept.logmax kept.ends (stored_text batch) (body_text kept.ends batch))) c.in-Err-Flush.field-0-is (c.in-Err-Flush.ensures.full differs)))

pub returns-in-Ok-clause-queue : goal.returns-in-Ok-clause-queue
returns-in-Ok-clause-queue g c = keeps_flushed c.args.store.now c.flush.new.self c.args.found.cut c.in-Ok.receipts c.in-Ok.ensures.places.1 c.in-Ok.ensures.waiting c.in-Ok.ensures.kept c.in-Ok.ensures.receipts

pub returns-in-Ok-clause-told : goal.returns-in-Ok-clause-told
returns-in-Ok-clause-told g c = λ _. none_covered c.args.store.now c.flush.new.self c.args.found.cut c.in-Ok.ensures.waiting c.in-Ok.ensures.done.0

pub returns-in-Err-Flush-clause-queue : goal.returns-in-Err-Flush-clause-queue
returns-in-Err-Flush-clause-queue g c = keeps_same c.args.store.now c.flush.new.self c.in-Err-Flush.ensures.places.1 c.in-Err-Flush.ensures.told.0 c.in-Err-Flush.ensures.told.1

pub returns-clause-queue : goal.returns-clause-queue
returns-clause-queue g c = keeps_same c.args.store.now c.flush.new.self c.in-Err-Unlawful.ensures.places.1 c.in-Err-Unlawful.ensures.told.0 c.in-Err-Unlawful.ensures.told.1
