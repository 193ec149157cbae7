use Rattle.std.proofs.Common.{rules, ◌≡◌, ◌+◌, ◌≤◌, IsTrue, ap, sym, subst}
use Rattle.std.specs.Prelude.{vec_len, vec_capacity}
use Rattle.sk_cut.specs.Batches.{as_cut}
use Rattle.sk_cut.specs.Flush.{AllAt}
use Rattle.sk_cut.specs.Receipts.{View}
use Rattle.sk_durable.specs.Growing.{AllOver}
use Rattle.sk_durable.proofs.Keeping.{holds_first}
use Rattle.sk_durable.proofs.durable.Durable.new.Goals as goal

pub invariant_of-result : goal.invariant_of-result
invariant_of-result g c =
    let disk = g.D.Device.disk in
    let stands = subst (λ (v : View _). IsTrue disk.tells → AllAt disk (as_cut v.cut) v.ends v.disk) (sym c.new.ensures) c.requires.disk in
    let over = subst (λ (v : View _). IsTrue disk.tells → AllOver disk c.args.catalog v.disk) (sym c.new.ensures) c.requires.over in
    let queued : vec_len c.new-2.result + 0 ≤ vec_capacity c.new-2.result = search rules in
    let receipts : vec_len c.new-2.result + 0 ≤ vec_capacity c.new-3.result = search rules in
    (holds_first disk c.args.catalog c.new.result c.new-2.result.items c.new-3.result.items c.no_numbers.result c.acked_at_first.ensures (ap (λ (v : View _). v.waiting) c.new.ensures) c.new-2.ensures.items c.new-3.ensures.items c.no_numbers.ensures stands over, sym (ap (λ (v : View _). v.reserved) c.new.ensures), queued, receipts)
