use Rattle.std.proofs.Common.{◌≡◌, ◌∙◌, sym, ap, [], ◌∷◌, ◌++◌, map, arith}
use Rattle.sk_booked.specs.Kept.{is_busy}
use Rattle.sk_booked.specs.Of.{own_of}
use Rattle.sk_booked.specs.Answers.{Whole}
use Rattle.sk_booked.proofs.Entries.{none_of}
use Rattle.sk_booked.proofs.Closes.{none_left, sum_first, sum_more, seated_rest, seated_last, value_back, is_back, not_back}
use Rattle.sk_booked.proofs.Splits.{joins}
use Rattle.sk_booked.proofs.book.Booked.close.Goals as goal

pub loop-seat-init : goal.loop-seat-init
loop-seat-init g c = let p = c.in-Some.field-0 in record {
  live = p.plain.0.0;
  idle = p.plain.0.2;
  table = seated_last _ _ _ p c.in-Some.ensures.items c.requires.of;
  tables = seated_rest _ _ _ p c.in-Some.ensures.items c.requires.of;
  sum = sum_first _ _ p c.in-Some.ensures.items (none_of _ p.plain.0.1);
}

pub join_seat-requires : goal.join_seat-requires
join_seat-requires g c = let p = c.in-Some-pop.field-0 in (
  c.loop-seat.invariant.table,
  seated_last _ _ _ p c.in-Some-pop.ensures.items c.loop-seat.invariant.tables,
  none_of _ p.plain.1,
  omega arith,
  joins g.V.Journaled.journal g.V.Journaled.ready g.V.Journaled.kin c.args.self.table.shared.key c.loop-seat.all.id c.loop-seat.all.me.0 p.seat.id p.seat.me.0 c.loop-seat.invariant.live c.loop-seat.invariant.idle p.plain.0.0 p.plain.0.2,
)

pub loop-seat-preserved : goal.loop-seat-preserved
loop-seat-preserved g c = let p = c.in-Some-pop.field-0 in let j = c.join_seat.ensures in record {
  live = ap (λ m. m.0.live) j.2 ∙ c.loop-seat.invariant.live;
  idle = ap (λ m. is_busy m.0.stage) j.2 ∙ c.loop-seat.invariant.idle;
  table = j.0 ∙ c.loop-seat.invariant.table;
  tables = seated_rest _ _ _ p c.in-Some-pop.ensures.items c.loop-seat.invariant.tables;
  sum = sum_more _ _ p c.loop-seat.all.me.0 c.join_seat.new.seat.me.0 _ c.in-Some-pop.ensures.items (ap (λ m. m.0) j.2) c.loop-seat.invariant.sum;
}

pub unreachable-requires-in_default-slot : goal.unreachable-requires-in_default-slot
unreachable-requires-in_default-slot g c =
    let v = c.loop-seat.all.me.0 in
    let j = g.V.Journaled in
    let none : c.loop-seat.passes.items ≡ [] = none_left _ _ _ c.in_default-pop.ensures.items c.in_default-pop.ensures.rest c.in_default-pop.ensures.cases.0 in
    let is : v.taken ++ v.own ∷ [] ≡ map own_of c.args.passes.items = sym (ap (λ l. map own_of l ++ (v.taken ++ v.own ∷ [])) none) ∙ c.loop-seat.invariant.sum in
    let b = value_back j.journal j.ready j.kin c.args.self.table.shared.key c.loop-seat.all.id v _ _ (map own_of c.args.passes.items) c.loop-seat.invariant.live c.loop-seat.invariant.idle is c.requires.every c.close_with-closed.ensures.values.2 in
    not_back (Whole j.journal j.ready j.kin c.args.self.table.shared.key (map own_of c.args.passes.items)) _ c.take-slot.result b c.take-slot.ensures.value c.in_default-slot.not-Some

pub returns : goal.returns
returns g c =
    let v = c.loop-seat.all.me.0 in
    let j = g.V.Journaled in
    let none : c.loop-seat.passes.items ≡ [] = none_left _ _ _ c.in_default-pop.ensures.items c.in_default-pop.ensures.rest c.in_default-pop.ensures.cases.0 in
    let is : v.taken ++ v.own ∷ [] ≡ map own_of c.args.passes.items = sym (ap (λ l. map own_of l ++ (v.taken ++ v.own ∷ [])) none) ∙ c.loop-seat.invariant.sum in
    let b = value_back j.journal j.ready j.kin c.args.self.table.shared.key c.loop-seat.all.id v _ _ (map own_of c.args.passes.items) c.loop-seat.invariant.live c.loop-seat.invariant.idle is c.requires.every c.close_with-closed.ensures.values.2 in
    is_back (Whole j.journal j.ready j.kin c.args.self.table.shared.key (map own_of c.args.passes.items)) _ c.take-slot.result c.in-Some-slot.value b c.take-slot.ensures.value c.in-Some-slot.is
