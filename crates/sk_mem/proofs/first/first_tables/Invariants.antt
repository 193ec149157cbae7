use Rattle.std.proofs.Common.{ℕ, ◌≡◌, length, take}
use Rattle.sk_rows.specs.declared.value.Value.{Value}
use Rattle.sk_model.specs.Database.{row_of}
use Rattle.sk_mem.specs.Chains.{chain_at}
use Rattle.sk_engine.specs.Stands.{begun}
use Rattle.sk_mem.proofs.first.first_tables.Given as goal

abbrev pub invariant-loop-rows : goal.invariant-loop-rows
invariant-loop-rows l = record {
  count : length l.maps.items ≡ l.rows-index;
  chains : (t : ℕ) (key : Value) → chain_at l.maps.items t key ≡ begun l.start (row_of (take l.rows-index l.tables) t key);
}
