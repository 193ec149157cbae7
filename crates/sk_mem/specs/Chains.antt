-- The chains of the tables, as a function of table and key, and what a call makes of one.
use Rattle.std.specs.Prelude.{◌≡◌, ℕ, List, Option, Some, None, Result, Ok, Err, Bool, not, ◌==◌, ◌&&◌, slice_get, length}
use Rattle.std.specs.Option.{unwrap_or}
use Rattle.std.specs.Ordering.{eq_by_cmp}
use Rattle.std.specs.Map.{lookup}
use Rattle.std.specs.BTreeMap.{BTreeMap, is_at}
use Rattle.sk_rows.specs.declared.value.Value.{Value}
use Rattle.sk_rows.specs.declared.table.Table.{Table}
use Rattle.sk_rows.specs.Values.{value_cmp}
use Rattle.sk_model.specs.declared.label.Label.{Label}
use Rattle.sk_model.specs.declared.call.EngineFault.{EngineFault}
use Rattle.sk_model.specs.declared.call.EngineFault.TheVariants as fault
use Rattle.sk_model.specs.declared.call.EngineReply.{EngineReply}
use Rattle.sk_model.specs.Database.{RowOf}
use Rattle.sk_chain.specs.Chained.{Chained, empty}
use Rattle.sk_chain.specs.Writing.{conflict, is_by}
use Rattle.sk_chain.specs.Changing.{pushed}
use Rattle.sk_engine.specs.Rows.{Chains}

-- the chain at a key; where there is none, it is empty
abbrev pub chain_of : List (Value × Chained) → Value → Chained
chain_of entries key = unwrap_or (lookup (is_at (value_cmp key)) entries) empty

abbrev pub chain_in : Option (BTreeMap Value Chained) → Value → Chained
chain_in None key = empty
chain_in (Some m) key = chain_of m.entries key

-- the chain of a table at a key
abbrev pub chain_at : List (BTreeMap Value Chained) → ℕ → Value → Chained
chain_at tables t key = chain_in (slice_get tables t) key

-- the row at t and k is the one at u and key
abbrev pub is_at_row : ℕ → Value → ℕ → Value → Bool
is_at_row t k u key = (t == u) && eq_by_cmp value_cmp key k

-- Of these tables, the maps show these versions of each row: there is one map a table.
pub record Shows (kept : List Table) (maps : List (BTreeMap Value Chained)) (tables : List Table) (shown : Chains) : Type 0 where
  pub catalog : kept ≡ tables
  pub count : length maps ≡ length tables
  pub chains : (t : ℕ) (key : Value) → shown t key ≡ chain_at maps t key

-- a reply, unless memory was wanted
abbrev pub Answers : Option EngineReply → EngineReply → Type 0
Answers None due = Unit {0}
Answers (Some reply) due = reply ≡ due

-- what a write made of a chain, and whether it is the first of its transaction there
abbrev pub Wrote : Chained → Chained → Label → ℕ → Option RowOf → Result Bool EngineFault → Type 0
Wrote old new by s row (Ok first) = (conflict old by s ≡ None) × (new ≡ pushed old by row) × (first ≡ not (is_by by old.top))
Wrote old new by s row (Err (fault.Conflict other why)) = (conflict old by s ≡ Some (record { by = other; why = why })) × (new ≡ old)
Wrote old new by s row (Err fault.NoMemory) = new ≡ old
Wrote old new by s row (Err (fault.Old a b)) = ⊥
Wrote old new by s row (Err (fault.Busy other)) = ⊥
Wrote old new by s row (Err fault.Device) = ⊥
