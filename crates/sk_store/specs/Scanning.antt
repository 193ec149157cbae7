-- What a reader gets of all rows of a table, from what it finds of each.
use Rattle.std.specs.Prelude.{◌≡◌, ℕ, List, [], ◌∷◌, ◌++◌, Option, Some, None, Bool, true, false, ◌⊎◌, map}
use Rattle.std.specs.List.{AllByRecursion}
use Rattle.std.specs.Map.{lookup}
use Rattle.std.specs.BTreeMap.{is_at}
use Rattle.std.specs.Option.{unwrap_or}
use Rattle.sk_outside.specs.Causes.{Rose}
use Rattle.sk_rows.specs.declared.value.Value.{Value}
use Rattle.sk_rows.specs.declared.table.Column.{Column}
use Rattle.sk_rows.specs.Values.{value_cmp}
use Rattle.sk_model.specs.declared.label.Label.{Label}
use Rattle.sk_model.specs.declared.call.EngineFault.TheVariants as fault
use Rattle.sk_model.specs.declared.call.EngineReply.{EngineReply}
use Rattle.sk_model.specs.declared.call.EngineReply.TheVariants.{Rows, Fault}
use Rattle.sk_model.specs.Database.{RowOf, KeyedRows}
use Rattle.sk_chain.specs.Reading.{Sight, Sees, Waits}
use Rattle.sk_engine.specs.Rows.{row_in, sighted, IsScan}
use Rattle.sk_store.specs.Shown.{MayBe}

abbrev pub row_listed : Value → Option RowOf → KeyedRows
row_listed key None = []
row_listed key (Some row) = (key, row) ∷ []

abbrev pub sight_rows : Value → Sight → KeyedRows
sight_rows key (Sees v) = row_listed key (row_in v)
sight_rows key (Waits by) = []

-- the rows that a reader sees, in the order of their keys
abbrev pub rows_seen : List (Value × Sight) → KeyedRows
rows_seen [] = []
rows_seen (e ∷ es) = sight_rows e.0 e.1 ++ rows_seen es

abbrev pub wait_or : Sight → Option Label → Option Label
wait_or (Sees v) other = other
wait_or (Waits by) other = Some by

-- for whom a reader waits first
abbrev pub waits_for : List (Value × Sight) → Option Label
waits_for [] = None
waits_for (e ∷ es) = wait_or e.1 (waits_for es)

abbrev pub busy_or : Option Label → EngineReply → EngineReply
busy_or None reply = reply
busy_or (Some by) reply = Fault (fault.Busy by)

abbrev pub scanning : List (Value × Sight) → EngineReply
scanning es = busy_or (waits_for es) (Rows (rows_seen es))

-- what is found at a key
abbrev pub sight_at : List (Value × Sight) → Value → Sight
sight_at es q = unwrap_or (lookup (is_at (value_cmp q)) es) (Sees None)

-- these keys, with what is found at each
abbrev pub with_sights : {X : Type 0} → (Value → Sight) → List (Value × X) → List (Value × Sight)
with_sights sight es = map (λ e. (e.0, sight e.0)) es

-- rows of these columns, where a scan that has not to wait is due
abbrev pub AreRowsOf : List Column → (Value → Sight) → EngineReply → Type 0
AreRowsOf columns sight (Rows rows) = AllByRecursion (λ (r : Value × RowOf). MayBe columns r.0 (Some r.1)) rows × ((key : Value) (by : Label) → sighted (sight key) ≡ Fault (fault.Busy by) → ⊥)
AreRowsOf columns sight reply = ⊥

abbrev pub ScansRows : Bool → ℕ → ℕ → List Column → (Value → Sight) → Option EngineReply → Type 0
ScansRows told before now columns sight None = Unit {0}
ScansRows told before now columns sight (Some reply) = ((reply ≡ Fault fault.Device) × Rose before now) ⊎ (IsScan (λ q. sighted (sight q)) reply ⊎ ((told ≡ false) × AreRowsOf columns sight reply))

-- the rows that were read of these keys so far, at none of which a reader has to wait
pub record HasRead (told : Bool) (columns : List Column) (es : List (Value × Sight)) (rows : KeyedRows) : Type 0 where
  pub exact : told ≡ true → rows ≡ rows_seen es
  pub fits : AllByRecursion (λ (r : Value × RowOf). MayBe columns r.0 (Some r.1)) rows
  pub free : waits_for es ≡ None
