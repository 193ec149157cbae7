-- What an engine begins with.
use Rattle.std.specs.Prelude.{List, [], map}
use Rattle.sk_rows.specs.declared.table.Table.{Table}
use Rattle.sk_model.specs.declared.call.Entry.{Entry}
use Rattle.sk_model.specs.Database.{Tables}
use Rattle.sk_model.specs.Engine.{EngineTable}

-- no rows in each of these tables
abbrev pub no_rows : List Table → Tables
no_rows tables = map (λ t. []) tables

-- the engine stands for some table
abbrev pub IsInUse : {S : Type 0} → (S → EngineTable → List Entry → Type 0) → S → Type 0
IsInUse stands s = (e : EngineTable) × (js : List Entry) × stands s e js
