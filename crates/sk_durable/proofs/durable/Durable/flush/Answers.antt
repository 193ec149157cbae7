use Rattle.std.proofs.Common.{rules, ◌≡◌, ◌+◌, ◌≤◌, ◌∙◌, IsTrue, List, length, map, not, false, true, ap, sym, subst, arith, Err}
use Rattle.std.specs.Prelude.{vec_len, vec_capacity}
use Rattle.std.specs.List.{filter}
use Rattle.sk_device.specs.Disk.{Steps}
use Rattle.sk_model.specs.declared.point.Point.{Point}
use Rattle.sk_model.specs.declared.receipt.FlushFault.{FlushFault}
use Rattle.sk_model.specs.declared.receipt.Receipt.{Receipt}
use Rattle.sk_cut.specs.Acked.{IsUpTo}
use Rattle.sk_cut.specs.Batches.{same_cut}
use Rattle.sk_cut.specs.Receipts.{View, covers, receipt_at}
use Rattle.sk_durable.specs.Growing.{OnlyGrows}
use Rattle.sk_durable.specs.Kept.{Holds, Kept}
use Rattle.sk_durable.proofs.Growing.{grows_by, grows_none}
use Rattle.sk_durable.proofs.Keeping.{holds_flushed, holds_refused, told_and_left, up_to}
use Rattle.sk_durable.proofs.durable.Durable.flush.Goals as goal

pub returns-then-not-may_follow-clause-any_moment : goal.returns-then-not-may_follow-clause-any_moment
returns-then-not-may_follow-clause-any_moment g c = λ tells. grows_none g.D.Device.disk c.args.self.now.disk

pub keep-requires : goal.keep-requires
keep-requires g c =
    let inside = c.self.inside in
    let to = c.args.batch.now.cut in
    let are : c.as_slice.result.now ≡ map (receipt_at to) (filter (covers to) inside.pipeline.waiting) = c.as_slice.ensures ∙ c.in-Ok.ensures.receipts in
    record { room = omega (arith, told_and_left to inside.pipeline.waiting, ap (λ (l : List Receipt). length l) are, c.self.invariant.0.counted, c.self.invariant.3) }

pub invariant_of-self : goal.invariant_of-self
invariant_of-self g c =
    let disk = g.D.Device.disk in
    let inside = c.self.inside in
    let to = c.args.batch.now.cut in
    let are : c.as_slice.result.now ≡ map (receipt_at to) (filter (covers to) inside.pipeline.waiting) = c.as_slice.ensures ∙ c.in-Ok.ensures.receipts in
    let may : c.may_follow.result ≡ true = search rules in
    let up : IsUpTo to inside.pipeline.cut =
    subst (λ (p : Point). IsUpTo to p) c.cut.ensures (up_to c.cut.result to (λ above. let group = c.may_follow.ensures.group may above in (group.a.0, group.b.0))) in
    let steps = λ (tells : IsTrue disk.tells). grows_by disk inside.pipeline.ends c.args.batch.now inside.pipeline.disk c.flush.new.self.disk (c.in-Ok.ensures.any_moment tells) in
    let holds = holds_flushed disk inside.catalog inside.pipeline c.flush.new.self inside.queued.items inside.receipts.items c.as_slice.result.now inside.last to c.acked_when_flushed.ensures c.self.invariant.0 up are c.in-Ok.ensures.waiting c.in-Ok.ensures.done.0 c.in-Ok.ensures.durable steps in
    let same : inside.reserved ≡ c.flush.new.self.reserved = c.self.invariant.1 ∙ sym c.in-Ok.ensures.places.0 in
    let room : vec_len inside.queued + inside.reserved ≤ vec_capacity c.keep.new.receipts = omega (arith, c.self.invariant.3, c.keep.ensures.capacity) in
    (subst (λ (rs : List Receipt). Holds disk inside.catalog c.flush.new.self inside.queued.items rs inside.last) (sym c.keep.ensures.items) holds, same, c.self.invariant.2, room)

pub invariant_of-self-in-Err : goal.invariant_of-self-in-Err
invariant_of-self-in-Err g c =
    let disk = g.D.Device.disk in
    let inside = c.self.inside in
    let steps = λ (tells : IsTrue disk.tells). grows_by disk inside.pipeline.ends c.args.batch.now inside.pipeline.disk c.flush.new.self.disk (c.in-Err.ensures.any_moment tells) in
    let holds = holds_refused disk inside.catalog inside.pipeline c.flush.new.self inside.queued.items inside.receipts.items inside.last c.in-Err.why c.self.invariant.0 c.in-Err.ensures.told.0 c.in-Err.ensures.told.1 c.in-Err.ensures.refused (λ e. c.in-Err.ensures.broken (ap (λ (why : FlushFault). Err why) e)) steps in
    (holds, c.self.invariant.1 ∙ sym c.in-Err.ensures.places.0, c.self.invariant.2, c.self.invariant.3)

pub returns-in-Ok-clause-any_moment : goal.returns-in-Ok-clause-any_moment
returns-in-Ok-clause-any_moment g c =
    let disk = g.D.Device.disk in
    let same = ap (λ (v : Kept _). v.disk) c.self.view_is in
    subst (λ (d : _). IsTrue disk.tells → Steps disk OnlyGrows d c.flush.new.self.disk) same
    (λ tells. grows_by disk c.self.inside.pipeline.ends c.args.batch.now c.self.inside.pipeline.disk c.flush.new.self.disk (c.in-Ok.ensures.any_moment tells))

pub returns-in-Ok-clause-waiting : goal.returns-in-Ok-clause-waiting
returns-in-Ok-clause-waiting g c = c.in-Ok.ensures.waiting ∙ ap (λ (v : Kept _). filter (λ n. not (covers c.args.batch.now.cut n)) v.waiting) c.self.view_is

pub returns-in-Err-clause-any_moment : goal.returns-in-Err-clause-any_moment
returns-in-Err-clause-any_moment g c =
    let disk = g.D.Device.disk in
    let same = ap (λ (v : Kept _). v.disk) c.self.view_is in
    subst (λ (d : _). IsTrue disk.tells → Steps disk OnlyGrows d c.flush.new.self.disk) same
    (λ tells. grows_by disk c.self.inside.pipeline.ends c.args.batch.now c.self.inside.pipeline.disk c.flush.new.self.disk (c.in-Err.ensures.any_moment tells))
