-- Where a key stands among rows.
use Rattle.std.specs.Prelude.{ℕ, Bool, false, Option, Some, None}
use Rattle.std.specs.List.{prefix_len}
use Rattle.std.specs.Ordering.{is_eq, is_gt}
use Rattle.sk_rows.specs.declared.value.Value.{Value}
use Rattle.sk_rows.specs.Values.{value_cmp}
use Rattle.sk_model.specs.Database.{RowOf, KeyedRows}

-- how many rows from the front on have lesser keys
abbrev pub lesser : KeyedRows → Value → ℕ
lesser rows key = prefix_len (λ r. is_gt (value_cmp key r.0)) rows

-- the row, where there is one, has the key
abbrev pub ties : Value → Option (Value × RowOf) → Bool
ties key None = false
ties key (Some r) = is_eq (value_cmp key r.0)
