use Rattle.std.proofs.Common.{◌≡◌, ℕ, true, false, [], ◌∷◌, ◌++◌, map, vec_len}
use mathlib.Core.Option.{some}
use lib.ListN.{get_elem?}
use Rattle.sk_booked.specs.Kept.{is_busy}
use Rattle.sk_booked.specs.Of.{own_of}
use Rattle.sk_booked.proofs.book.Booked.close.Given as goal

-- those that are gathered and those that are left are all
abbrev pub invariant-loop-seat : goal.invariant-loop-seat
invariant-loop-seat g l = record {
  live : l.all.me.0.live ≡ true;
  idle : is_busy l.all.me.0.stage ≡ false;
  table : l.all.table_id ≡ l.self.table.shared.table_id;
  tables : (i : ℕ) (p : _) → get_elem? l.passes.items i ≡ some p → p.seat.table_id ≡ l.self.table.shared.table_id;
  sum : map own_of l.passes.items ++ (l.all.me.0.taken ++ l.all.me.0.own ∷ []) ≡ map own_of l.fn.passes.items;
}

abbrev pub decreases-loop-seat : goal.decreases-loop-seat
decreases-loop-seat g l = vec_len l.passes
