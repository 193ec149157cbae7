use Rattle.std.proofs.Common.{◌≡◌, ap, subst, ◌∙◌}
use Rattle.sk_device.specs.Disk.{Image}
use Rattle.sk_log.specs.Calls.{store_file, anchor_file, image_file}
use Rattle.sk_log.specs.Stores.{root_of}
use Rattle.sk_recover.specs.Opened.{Tells, opening_of}
use Rattle.sk_recover.proofs.Opens.{stored_is, entry_refused}
use Rattle.sk_recover.proofs.Sound.{entry_cut}
use Rattle.sk_recover.proofs.opening.read_store.Goals as goal

pub returns-in-Err-clause-value : goal.returns-in-Err-clause-value
returns-in-Err-clause-value g c = λ tells is. rw c.damaged.ensures.value (entry_refused c.in-Err.fault (g.D.Device.disk.seen c.args.disk.now) c.args.root.now c.args.at is c.in-Err.ensures.value)

pub returns-clause-value : goal.returns-clause-value
returns-clause-value g c = λ tells is.
    let seen = g.D.Device.disk.seen c.args.disk.now in
    let r = root_of c.in-Ok.entry in
    let base : c.deref.result.now ≡ seen (image_file r.set) = c.deref.ensures.value ∙ c.in_ok-base.ensures.bytes tells in
    let one : c.deref-2.result.now ≡ seen (store_file r.set) = c.deref-2.ensures.value ∙ c.in_ok-one.ensures.bytes tells ∙ ap (λ (im : Image). im (store_file r.set)) c.whole.ensures.looks.seen in
    let two : c.deref-3.result.now ≡ seen (anchor_file r.set) = c.deref-3.ensures.value ∙ c.in_ok-two.ensures.bytes tells ∙ ap (λ (im : Image). im (anchor_file r.set)) (c.whole-2.ensures.looks.seen ∙ c.whole.ensures.looks.seen) in
    subst (λ m. Tells opening_of c.stored_of.result m) (stored_is seen c.args.root.now _ _ _ c.args.at r is c.in-Ok.ensures.value base one two) c.stored_of.ensures.value

pub stored_of-requires-clause-selection : goal.stored_of-requires-clause-selection
stored_of-requires-clause-selection g c = entry_cut c.args.root.now c.args.at _ c.in-Ok.ensures.value
