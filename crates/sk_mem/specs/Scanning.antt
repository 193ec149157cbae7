-- What a reader gets of all rows of a table.
use Rattle.std.specs.Prelude.{ℕ, List, [], ◌∷◌, ◌++◌, Option, Some, None}
use Rattle.sk_rows.specs.declared.value.Value.{Value}
use Rattle.sk_model.specs.declared.label.Label.{Label}
use Rattle.sk_model.specs.declared.call.EngineFault.TheVariants as fault
use Rattle.sk_model.specs.declared.call.EngineReply.{EngineReply}
use Rattle.sk_model.specs.declared.call.EngineReply.TheVariants.{Rows, Fault}
use Rattle.sk_model.specs.Database.{RowOf, KeyedRows}
use Rattle.sk_chain.specs.Chained.{Chained}
use Rattle.sk_chain.specs.Reading.{Sight, Sees, Waits, found}
use Rattle.sk_engine.specs.Rows.{row_in, reading, IsScan}

abbrev pub row_listed : Value → Option RowOf → KeyedRows
row_listed key None = []
row_listed key (Some row) = (key, row) ∷ []

abbrev pub sight_rows : Value → Sight → KeyedRows
sight_rows key (Sees v) = row_listed key (row_in v)
sight_rows key (Waits by) = []

-- the rows that a reader sees, in the order of their keys
abbrev pub rows_seen : Label → ℕ → List (Value × Chained) → KeyedRows
rows_seen tx s [] = []
rows_seen tx s (e ∷ es) = sight_rows e.0 (found e.1 tx s) ++ rows_seen tx s es

abbrev pub wait_or : Sight → Option Label → Option Label
wait_or (Sees v) other = other
wait_or (Waits by) other = Some by

-- for whom a reader waits first
abbrev pub waits_for : Label → ℕ → List (Value × Chained) → Option Label
waits_for tx s [] = None
waits_for tx s (e ∷ es) = wait_or (found e.1 tx s) (waits_for tx s es)

abbrev pub busy_or : Option Label → EngineReply → EngineReply
busy_or None reply = reply
busy_or (Some by) reply = Fault (fault.Busy by)

abbrev pub scanning : List (Value × Chained) → Label → ℕ → EngineReply
scanning es tx s = busy_or (waits_for tx s es) (Rows (rows_seen tx s es))

-- the reply is the scan of these chains, unless memory was wanted
abbrev pub ScansTable : (Value → Chained) → Label → ℕ → Option EngineReply → Type 0
ScansTable chain tx s None = Unit {0}
ScansTable chain tx s (Some reply) = IsScan (λ key. reading (chain key) tx s) reply
