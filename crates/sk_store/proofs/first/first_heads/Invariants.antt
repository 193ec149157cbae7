use Rattle.std.proofs.Common.{ℕ, ◌≡◌, length}
use Rattle.sk_rows.specs.declared.value.Value.{Value}
use Rattle.sk_store.specs.Heads.{no_head}
use Rattle.sk_store.specs.Maps.{head_at}
use Rattle.sk_store.proofs.first.first_heads.Given as goal

abbrev pub invariant-loop-table : goal.invariant-loop-table
invariant-loop-table l = record {
  count : length l.maps.items ≡ l._table-index;
  heads : (t : ℕ) (key : Value) → head_at l.maps.items t key ≡ no_head;
}
