use Rattle.std.proofs.Common.{◌≡◌, ℕ, true, [], ◌∷◌, ◌++◌, map, vec_len}
use mathlib.Core.Option.{some}
use lib.ListN.{get_elem?}
use Rattle.sk_clock.specs.Closes.{own_of}
use Rattle.sk_clock.specs.Of.{IsOf}
use Rattle.sk_clock.proofs.pass.Clock.gather.Given as goal

-- those that are gathered and those that are left are all
abbrev pub invariant-loop-pass : goal.invariant-loop-pass
invariant-loop-pass l = record {
  live : l.all.me.0.live ≡ true;
  table : l.all.table_id ≡ l.self.table.shared.table_id;
  tables : (i : ℕ) (p : _) → get_elem? l.passes.items i ≡ some p → IsOf l.self p;
  sum : map own_of l.passes.items ++ (l.all.me.0.taken ++ l.all.me.0.own ∷ []) ≡ map own_of l.fn.passes.items;
}

abbrev pub decreases-loop-pass : goal.decreases-loop-pass
decreases-loop-pass l = vec_len l.passes
