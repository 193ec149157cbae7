use Rattle.std.proofs.Common.{rules, ◌≡◌, ◌+◌, ◌-◌, ◌≤◌, ◌∙◌, List, ap, sym, subst}
use Rattle.std.specs.Prelude.{vec_len, vec_capacity}
use Rattle.sk_model.specs.declared.receipt.Need.{Need}
use Rattle.sk_cut.specs.Acked.{times, labels_of, AreOnce}
use Rattle.sk_cut.specs.Receipts.{View}
use Rattle.sk_cut.proofs.Acking.{queued_once}
use Rattle.sk_cut.proofs.pipeline.Pipeline.enqueue.Goals as goal

pub invariant_of-self : goal.invariant_of-self
invariant_of-self g c =
    let inside = c.self.inside in
    let reserved : vec_len c.push.new.self + (inside.reserved - 1) ≤ vec_capacity c.push.new.self = search rules in
    let new : times c.args.need.label (labels_of inside.waiting.items) ≡ 0 = ap (λ (v : View _). times c.args.need.label (labels_of v.waiting)) c.self.view_is ∙ c.requires.new in
    let once = queued_once inside.waiting.items c.args.need new c.self.invariant.4 in
    (c.self.invariant.0, c.self.invariant.1, reserved, c.self.invariant.3, subst (λ (l : List Need). AreOnce (labels_of l)) (sym c.in-Ok.ensures.items) once)
