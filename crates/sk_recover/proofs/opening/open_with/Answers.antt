use Rattle.std.proofs.Common.{◌≡◌, ◌<◌, ℕ, List, Option, Some, None, Ok, subst, ap, sym, ◌∙◌, arith}
use Rattle.std.proofs.lemmas.Result.{err_from_is_err_and}
use Rattle.sk_device.specs.Disk.{Image}
use Rattle.sk_device.proofs.Moments.{settled_looked}
use Rattle.sk_log.specs.Stores.{holding, opens, open_from}
use Rattle.sk_recover.specs.Making.{needs_gate}
use Rattle.sk_recover.specs.Opened.{Refuses, opening_of}
use Rattle.sk_recover.proofs.Made.{settled_can}
use Rattle.sk_recover.proofs.Opens.{opens_stored, opens_new, opens_wrong, same_root}
use Rattle.sk_recover.proofs.Settled.{opens_alike}
use Rattle.sk_recover.proofs.opening.open_with.Goals as goal

pub returns-in-Err-clause-value : goal.returns-in-Err-clause-value
returns-in-Err-clause-value g c = λ catalog tells.
    let seen = g.D.Device.disk.seen c.args.disk.now in
    let root : c.deref.result.now ≡ seen 0 = c.deref.ensures.value ∙ c.in_ok-root.ensures.bytes tells ∙ ap (λ (im : Image). im 0) c.sync_all.ensures.looks.seen in
    rw c.damaged.ensures.value (opens_wrong catalog c.args.start seen c.deref.result.now c.in-Err.fault root (sym c.in-Err.ensures.value))

pub returns-in_err-read_store-in-Ok-Some-clause-value : goal.returns-in_err-read_store-in-Ok-Some-clause-value
returns-in_err-read_store-in-Ok-Some-clause-value g c = λ catalog tells.
    let disk = g.D.Device.disk in
    let p = err_from_is_err_and c.from_residual-in_err-read_store-in-Ok-Some.result c.from_residual-in_err-read_store-in-Ok-Some.ensures.1 in
    let mid = disk.seen c.whole.new.disk in
    let items : c.in_ok-root.root.items ≡ mid 0 = c.in_ok-root.ensures.bytes tells ∙ sym (ap (λ (im : Image). im 0) c.whole.ensures.looks.seen) in
    let held : holding c.in_ok-root.root.items ≡ Ok (Some c.in-Ok-Some.at) = subst (λ (o : Option ℕ). holding c.in_ok-root.root.items ≡ Ok o) c.in-Ok-Some.field-0-is (ap (λ (l : List ℕ). holding l) (sym c.deref.ensures.value) ∙ sym c.in-Ok-Some.ensures.value) in
    let back : mid ≡ disk.seen c.args.disk.now = c.whole.ensures.looks.seen ∙ c.sync_all.ensures.looks.seen in
    let read = c.in_err-read_store-in-Ok-Some.ensures.value tells (c.deref-in-Ok-Some.ensures.value ∙ items) in
    rw (p.1, p.2) (subst (λ (im : Image). Refuses c.in_err-read_store-in-Ok-Some.field-0.0 (opens catalog c.args.start im)) back
    (subst (λ m. Refuses c.in_err-read_store-in-Ok-Some.field-0.0 m) (sym (opens_stored catalog c.args.start mid c.in_ok-root.root.items c.in-Ok-Some.at items held)) read))

pub returns-in-Ok-Some-clause-value : goal.returns-in-Ok-Some-clause-value
returns-in-Ok-Some-clause-value g c = λ catalog tells.
    let disk = g.D.Device.disk in
    let mid = disk.seen c.whole.new.disk in
    let items : c.in_ok-root.root.items ≡ mid 0 = c.in_ok-root.ensures.bytes tells ∙ sym (ap (λ (im : Image). im 0) c.whole.ensures.looks.seen) in
    let held : holding c.in_ok-root.root.items ≡ Ok (Some c.in-Ok-Some.at) = subst (λ (o : Option ℕ). holding c.in_ok-root.root.items ≡ Ok o) c.in-Ok-Some.field-0-is (ap (λ (l : List ℕ). holding l) (sym c.deref.ensures.value) ∙ sym c.in-Ok-Some.ensures.value) in
    let back : mid ≡ disk.seen c.args.disk.now = c.whole.ensures.looks.seen ∙ c.sync_all.ensures.looks.seen in
    let read = c.in_ok-read_store-in-Ok-Some.ensures.value tells (c.deref-in-Ok-Some.ensures.value ∙ items) in
    ap (λ (im : Image). opens catalog c.args.start im) (sym back) ∙ opens_stored catalog c.args.start mid c.in_ok-root.root.items c.in-Ok-Some.at items held ∙ read

pub make_store-requires : goal.make_store-requires
make_store-requires g c = λ tells.
    let disk = g.D.Device.disk in
    let zero : 0 < 7 = omega arith in
    let looks = c.whole.ensures.looks in
    let held : holding c.in_ok-root.root.items ≡ Ok None = subst (λ (o : Option ℕ). holding c.in_ok-root.root.items ≡ Ok o) c.in-Ok-None.field-0-is (ap (λ (l : List ℕ). holding l) (sym c.deref.ensures.value) ∙ sym c.in-Ok-None.ensures.value) in
    settled_can disk _ c.in_ok-root.root.items _ (settled_looked disk 0 _ _ (c.in-Ok-sync_all.ensures.settled tells 0 zero) looks)
    (c.in_ok-root.ensures.bytes tells ∙ sym (ap (λ (im : Image). im 0) looks.seen)) held (c.needs_gate.ensures ∙ ap (λ (l : List ℕ). needs_gate l) c.deref-in-Ok-None-2.ensures.value)

pub returns-in-Ok-make_store-clause-value : goal.returns-in-Ok-make_store-clause-value
returns-in-Ok-make_store-clause-value g c = λ catalog tells.
    let seen = g.D.Device.disk.seen c.args.disk.now in
    let root : c.in_ok-root.root.items ≡ seen 0 = c.in_ok-root.ensures.bytes tells ∙ ap (λ (im : Image). im 0) c.sync_all.ensures.looks.seen in
    let held : holding c.in_ok-root.root.items ≡ Ok None = subst (λ (o : Option ℕ). holding c.in_ok-root.root.items ≡ Ok o) c.in-Ok-None.field-0-is (ap (λ (l : List ℕ). holding l) (sym c.deref.ensures.value) ∙ sym c.in-Ok-None.ensures.value) in
    opens_new catalog c.args.start seen c.in_ok-root.root.items root held

pub returns-in-Ok-Some-clause-stands : goal.returns-in-Ok-Some-clause-stands
returns-in-Ok-Some-clause-stands g c = λ tells image now.
    let disk = g.D.Device.disk in
    let mid = disk.seen c.whole.new.disk in
    let seen = disk.seen c.read_store.new.disk in
    let back : seen ≡ mid = c.read_store.ensures.looks.seen in
    let items : c.in_ok-root.root.items ≡ mid 0 = c.in_ok-root.ensures.bytes tells ∙ sym (ap (λ (im : Image). im 0) c.whole.ensures.looks.seen) in
    let held : holding c.in_ok-root.root.items ≡ Ok (Some c.in-Ok-Some.at) = subst (λ (o : Option ℕ). holding c.in_ok-root.root.items ≡ Ok o) c.in-Ok-Some.field-0-is (ap (λ (l : List ℕ). holding l) (sym c.deref.ensures.value) ∙ sym c.in-Ok-Some.ensures.value) in
    let here : holding (seen 0) ≡ Ok (Some c.in-Ok-Some.at) = ap (λ (im : Image). holding (im 0)) back ∙ ap (λ (l : List ℕ). holding l) (sym items) ∙ held in
    let read = c.in_ok-read_store-in-Ok-Some.ensures.value tells (c.deref-in-Ok-Some.ensures.value ∙ items) in
    let same : (file : ℕ) → file < 7 → image file ≡ seen file = λ file lt. settled_looked disk file _ _ (settled_looked disk file _ _ (c.in-Ok-sync_all.ensures.settled tells file lt) c.whole.ensures.looks) c.read_store.ensures.looks image now in
    opens_alike seen image c.in-Ok-Some.at (opening_of c.in_ok-read_store-in-Ok-Some.field-0) same here (ap (λ (im : Image). open_from im c.in-Ok-Some.at) back ∙ read)

pub returns-in-Ok-make_store-clause-rooted : goal.returns-in-Ok-make_store-clause-rooted
returns-in-Ok-make_store-clause-rooted g c = λ tells.
    let seen = g.D.Device.disk.seen c.args.disk.now in
    let root : c.in_ok-root.root.items ≡ seen 0 = c.in_ok-root.ensures.bytes tells ∙ ap (λ (im : Image). im 0) c.sync_all.ensures.looks.seen in
    let held : holding c.in_ok-root.root.items ≡ Ok None = subst (λ (o : Option ℕ). holding c.in_ok-root.root.items ≡ Ok o) c.in-Ok-None.field-0-is (ap (λ (l : List ℕ). holding l) (sym c.deref.ensures.value) ∙ sym c.in-Ok-None.ensures.value) in
    same_root seen c.in_ok-root.root.items _ root held

pub returns-in-Ok-Some-clause-rooted : goal.returns-in-Ok-Some-clause-rooted
returns-in-Ok-Some-clause-rooted g c = λ tells.
    let seen = g.D.Device.disk.seen c.args.disk.now in
    let root : c.in_ok-root.root.items ≡ seen 0 = c.in_ok-root.ensures.bytes tells ∙ ap (λ (im : Image). im 0) c.sync_all.ensures.looks.seen in
    let held : holding c.in_ok-root.root.items ≡ Ok (Some c.in-Ok-Some.at) = subst (λ (o : Option ℕ). holding c.in_ok-root.root.items ≡ Ok o) c.in-Ok-Some.field-0-is (ap (λ (l : List ℕ). holding l) (sym c.deref.ensures.value) ∙ sym c.in-Ok-Some.ensures.value) in
    same_root seen c.in_ok-root.root.items _ root held
