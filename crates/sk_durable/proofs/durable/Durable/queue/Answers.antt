use Rattle.std.proofs.Common.{rules, ◌≡◌, ◌+◌, ◌-◌, ◌<◌, ◌≤◌, ◌∙◌, ℕ, List, length, ap, sym, subst, arith}
use Rattle.std.proofs.lemmas.Grind.{common_steps}
use Rattle.std.specs.Prelude.{vec_len, vec_capacity, set}
use Rattle.sk_model.specs.declared.receipt.Need.{Need}
use Rattle.sk_cut.specs.Receipts.{View}
use Rattle.sk_durable.specs.Kept.{Holds, newest}
use Rattle.sk_durable.proofs.Keeping.{holds_queued, not_queued}
use Rattle.sk_durable.proofs.durable.Durable.queue.Goals as goal

pub enqueue-requires-clause-new : goal.enqueue-requires-clause-new
enqueue-requires-clause-new g c =
    let inside = c.self.inside in
    let holds = c.self.invariant.0 in
    let past : newest c.args.need.label.session inside.queued.items < c.args.need.label.k = grind (arith, common_steps, holds.newest c.args.need.label.session) in
    not_queued c.args.need.label inside.queued.items inside.pipeline.waiting inside.receipts.items inside.pipeline.cut holds.acking past

pub invariant_of-self : goal.invariant_of-self
invariant_of-self g c =
    let inside = c.self.inside in
    let label = c.args.need.label in
    let holds = c.self.invariant.0 in
    let past : newest label.session inside.queued.items < label.k = grind (arith, common_steps, holds.newest label.session) in
    let low : label.session ≤ 64 = grind (arith, common_steps) in
    let size : length inside.last ≡ 65 = search rules in
    let queued = holds_queued g.D.Device.disk inside.catalog inside.pipeline c.enqueue.new.self inside.queued.items inside.receipts.items inside.last c.args.need c.acked_when_queued.ensures holds size low past c.enqueue.ensures in
    let same : c.enqueue.new.self.reserved ≡ inside.pipeline.reserved - 1 = ap (λ (v : View _). v.reserved) c.enqueue.ensures in
    let less : vec_len c.push.new.self + (inside.reserved - 1) ≤ vec_capacity c.push.new.self = search rules in
    let room : vec_len c.push.new.self + (inside.reserved - 1) ≤ vec_capacity inside.receipts = search rules in
    (subst (λ (l : List Need). Holds g.D.Device.disk inside.catalog c.enqueue.new.self l inside.receipts.items (set inside.last label.session label.k)) (sym c.in-Ok.ensures.items) queued, ap (λ (n : ℕ). n - 1) c.self.invariant.1 ∙ sym same, less, room)
