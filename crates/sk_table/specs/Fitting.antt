-- Where a row goes.
use Rattle.std.specs.Prelude.{◌≡◌, ◌↔◌, IsTrue, List, Option, Some, None, Bool}
use Rattle.sk_rows.specs.declared.table.Column.{Column}
use Rattle.sk_rows.specs.declared.value.Value.{Value}
use Rattle.sk_rows.specs.Values.{Fits}
use Rattle.sk_model.specs.Database.{RowOf}
use Rattle.sk_model.specs.Replies.{key_of}
use Rattle.sk_model.specs.EngineConditions.{is_short}

-- a row goes where it fits and begins with the key; none goes where the key is no long text
abbrev pub IsRowFor : List Column → Value → Option RowOf → Bool → Type 0
IsRowFor columns key None result = result ≡ is_short key
IsRowFor columns key (Some row) result = IsTrue result ↔ (Fits row columns × (key ≡ key_of row))
