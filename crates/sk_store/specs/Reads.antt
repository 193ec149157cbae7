-- What is read of one row.
use Rattle.std.specs.Prelude.{Option, Some, List}
use Rattle.sk_rows.specs.declared.value.Value.{Value}
use Rattle.sk_rows.specs.declared.table.Column.{Column}
use Rattle.sk_model.specs.declared.call.EngineReply.{EngineReply}
use Rattle.sk_model.specs.declared.call.EngineReply.TheVariants.{Found}
use Rattle.sk_model.specs.Database.{RowOf}
use Rattle.sk_store.specs.Shown.{MayBe}

-- a row of this key, where one is due
abbrev pub IsRowOf : List Column → Value → EngineReply → Option EngineReply → Type 0
IsRowOf columns key (Found due) (Some (Found row)) = MayBe columns key row
IsRowOf columns key due reply = ⊥
