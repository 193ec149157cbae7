use Rattle.std.proofs.Common.{◌∙◌, ap, arith}
use Rattle.sk_clock.specs.Of.{IsOf}
use Rattle.sk_clock.specs.Kept.{gathered}
use Rattle.sk_clock.proofs.Ends.{sum_first, sum_more, seated_rest, seated_last}
use Rattle.sk_clock.proofs.Splits.{joins}
use Rattle.sk_clock.proofs.pass.Clock.gather.Goals as goal

pub loop-pass-init : goal.loop-pass-init
loop-pass-init c = let p = c.in-Some.first in let e = c.into_seat-all.ensures in record {
  live = ap (λ m. m.0.live) e.1 ∙ e.2.0;
  table = e.0 ∙ (seated_last (IsOf c.args.self.now) _ _ p c.in-Some.ensures.items c.requires.of).0;
  tables = seated_rest (IsOf c.args.self.now) _ _ p c.in-Some.ensures.items c.requires.of;
  sum = sum_first _ _ p c.into_seat-all.result.me.0 c.in-Some.ensures.items (ap (λ m. m.0) e.1) e.2.1;
}

pub join_seat-requires : goal.join_seat-requires
join_seat-requires c = let p = c.in-Some-pop.pass in let e = c.into_seat-seat.ensures in let s = c.args.self.now.shape in (
  c.loop-pass.invariant.table,
  e.0 ∙ (seated_last (IsOf c.args.self.now) _ _ p c.in-Some-pop.ensures.items c.loop-pass.invariant.tables).0,
  ap (λ m. m.1) e.1,
  omega arith,
  joins c.args.self.now.table.shared.key c.loop-pass.all.id c.loop-pass.all.me.0 c.into_seat-seat.result.id c.into_seat-seat.result.me.0 (c.loop-pass.invariant.live, (ap (λ m. m.0.live) e.1 ∙ e.2.0, ap (λ m. m.0.taken) e.1 ∙ e.2.1)),
)

pub loop-pass-preserved : goal.loop-pass-preserved
loop-pass-preserved c = let p = c.in-Some-pop.pass in let e = c.into_seat-seat.ensures in let j = c.join_seat.ensures in record {
  live = ap (λ m. m.0.live) j.2 ∙ c.loop-pass.invariant.live;
  table = j.0 ∙ c.loop-pass.invariant.table;
  tables = seated_rest (IsOf c.args.self.now) _ _ p c.in-Some-pop.ensures.items c.loop-pass.invariant.tables;
  sum = sum_more _ _ p c.loop-pass.all.me.0 c.join_seat.new.seat.me.0 _ c.in-Some-pop.ensures.items (ap (λ m. m.0) j.2 ∙ ap (λ m. gathered c.loop-pass.all.me.0 m.0) e.1) c.loop-pass.invariant.sum;
}
