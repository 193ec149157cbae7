use Rattle.std.proofs.Common.{◌≡◌}
use Rattle.sk_booked.proofs.book.Booked.lock.Given as goal

-- no turn of the loop but the last one changes anything
abbrev pub invariant-loop : goal.invariant-loop
invariant-loop g l = record {
  table : l.seat.table_id ≡ l.initial.seat.table_id;
  same : l.seat.me ≡ l.initial.seat.me;
}
