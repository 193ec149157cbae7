use Rattle.std.proofs.Common.{sym, ◌∙◌, ◌≡◌, ◌<◌, ◌^◌, subst, length, arith}
use Rattle.sk_booked.specs.Answers.{IsHolding, Made}
use Rattle.sk_booked.proofs.Steps.{counts}
use Rattle.sk_booked.proofs.Makings.{Exchanged, taken_is, slot_there, exchanged, now_live, now_alone, now_holding, now_slot, now_longer, made_entry}
use Rattle.sk_booked.proofs.book.Booked.make.Goals as goal

pub exchange-requires : goal.exchange-requires
exchange-requires g c = (c.requires.table, slot_there c.args.seat.now.me c.requires.holding.0 c.requires.holding.1.slot)

pub fetch_add-requires : goal.fetch_add-requires
fetch_add-requires g c =
    let m = c.args.seat.now.me in
    let k = c.exchange-emptied.new.seat.me in
    let v = c.in-Some.value in
    let y = c.apply-reply.new.self in
    let h0 = c.requires.holding.1 in
    let same = taken_is m c.requires.holding.0 v c.exchange.result h0.slot c.exchange.ensures.2 c.in-Some.is in
    let h : IsHolding g.V.Journaled.journal g.V.Journaled.ready v v m = subst (λ z. IsHolding g.V.Journaled.journal g.V.Journaled.ready z z m) same h0 in
    let a = c.apply-reply.ensures in
    let e : Exchanged g.V.Journaled m k v y c.args.call c.apply-reply.result =
    record { holding = h; is = exchanged m c.exchange.new.seat.me k v y h.slot c.exchange.ensures.3 c.exchange-emptied.ensures.3; is_ready = a.ready; is_kin = a.kin; given = a.gives; writes = a.writes } in (
      c.exchange-emptied.ensures.0 ∙ (c.exchange.ensures.0 ∙ c.requires.table),
      omega arith,
      counts g.V.Journaled.journal g.V.Journaled.ready g.V.Journaled.kin c.args.self.now.table.shared.key c.args.self.now.table.shared.table_id.slots c.exchange-emptied.new.seat.id k v y (c.args.call, c.apply-reply.result)
          (now_live g.V.Journaled m k v y c.args.call c.apply-reply.result e) (now_alone g.V.Journaled m k v y c.args.call c.apply-reply.result e)
          (now_holding g.V.Journaled m k v y c.args.call c.apply-reply.result e) (now_slot g.V.Journaled m k v y c.args.call c.apply-reply.result e)
          (now_longer g.V.Journaled m k v y c.args.call c.apply-reply.result e (λ l. c.if-after-before.true (c.entries-after.ensures ∙ (l ∙ sym c.entries-before.ensures))))
          (subst (λ n. n < 2 ^ 64) c.entries-after.ensures c.entries-after.type_inv),
    )

pub returns-then-after-before-clause-made : goal.returns-then-after-before-clause-made
returns-then-after-before-clause-made g c x h0 =
    let m = c.args.seat.now.me in
    let k = c.exchange-emptied.new.seat.me in
    let v = c.in-Some.value in
    let y = c.apply-reply.new.self in
    let same = taken_is m x v c.exchange.result h0.slot c.exchange.ensures.2 c.in-Some.is in
    let h : IsHolding g.V.Journaled.journal g.V.Journaled.ready v v m = subst (λ z. IsHolding g.V.Journaled.journal g.V.Journaled.ready z z m) same h0 in
    let a = c.apply-reply.ensures in
    let e : Exchanged g.V.Journaled m k v y c.args.call c.apply-reply.result =
    record { holding = h; is = exchanged m c.exchange.new.seat.me k v y h.slot c.exchange.ensures.3 c.exchange-emptied.ensures.3; is_ready = a.ready; is_kin = a.kin; given = a.gives; writes = a.writes } in
    let ne = λ (l : length (g.V.Journaled.journal y) ≡ length (g.V.Journaled.journal v)). c.if-after-before.true (c.entries-after.ensures ∙ (l ∙ sym c.entries-before.ensures)) in
    let counted = c.fetch_add.ensures.2 y (c.args.call, c.apply-reply.result) (now_slot g.V.Journaled m k v y c.args.call c.apply-reply.result e) (now_longer g.V.Journaled m k v y c.args.call c.apply-reply.result e ne) in
    subst (λ z. Made g.V.Journaled.journal g.V.Journaled.ready g.V.Journaled.kin g.V.Journaled.gives g.V.Journaled.enters g.V.Journaled.leaves z m c.args.call c.apply-reply.result c.fetch_add.new.seat.me) (sym same)
    (made_entry g.V.Journaled m k v y c.args.call c.apply-reply.result e c.fetch_add.new.seat.me ne counted)
