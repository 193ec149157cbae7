-- What the readers keep, as the definitions see it.
use Rattle.std.specs.Prelude.{◌≡◌, ℕ, ◌<◌, ◌≤◌, false, List, [], ◌∷◌, ◌++◌, Some, None, Result, Ok, Err, Vec}
use Rattle.std.specs.declared.alloc.Global.{Global}
use Rattle.sk_rows.specs.declared.value.Value.{Value}
use Rattle.sk_rows.specs.declared.table.Column.{Column}
use Rattle.sk_rows.specs.declared.table.Table.{Table}
use Rattle.sk_codec.specs.declared.fault.Fault.{Fault}
use Rattle.sk_codec.specs.Reading.{Rest, Fails, items_at}
use Rattle.sk_codec.specs.declared.fault.ReadFault.{ReadFault}
use Rattle.sk_model.specs.Numbers.{greatest_number}
use Rattle.sk_recover.specs.declared.turn.Turned.{Turned}
use Rattle.sk_recover.specs.declared.turn.Turned.TheVariants as turned
use Rattle.sk_log.specs.Stores.{LogPosition, turn}
use Rattle.sk_recover.specs.declared.turn.LogPosition.{LogPosition as AnyReached}
use Rattle.sk_log.specs.Images.{Base, column_at, table_at, keyed_at}

-- so many columns behind these
abbrev pub columns_at : ℕ → List Column → Rest → Result (List Column × Rest) Fault
columns_at count before rest = items_at column_at (λ cs c. cs ++ c ∷ []) count before rest

-- so many tables behind these
abbrev pub tables_at : ℕ → List Table → Rest → Result (List Table × Rest) Fault
tables_at count before rest = items_at table_at (λ ts t. ts ++ t ∷ []) count before rest

-- so many rows behind these
abbrev pub keyeds_at : List Column → ℕ → List (Value × List Value) → Rest → Result (List (Value × List Value) × Rest) Fault
keyeds_at columns count before rest = items_at (keyed_at columns) (λ before row. before ++ row ∷ []) count before rest

abbrev pub base_of : List Table × Vec (List (Value × List Value)) Global → Base
base_of x = record { catalog = x.0; rows = x.1.items }

abbrev pub position_of : List Table → AnyReached → LogPosition
position_of catalog r = record { catalog = catalog; set = r.set; cut = r.cut; end = r.end; gate = r.gate; mem = r.mem; store = r.store }

-- what holds of a place between two groups that was read
pub record IsReached (r : AnyReached) : Type 0 where
  pub set : r.set < 2
  pub mem : r.cut.a ≤ greatest_number
  pub store : r.cut.b ≤ greatest_number
  pub selection : r.cut.commit ≡ false

abbrev pub position_in : Turned → AnyReached
position_in (turned.Closed r) = r
position_in (turned.Went r) = r

-- what a turn from there comes to
abbrev pub IsTurn : List Table → List ℕ → List ℕ → AnyReached → Result Turned ReadFault → Type 0
IsTurn catalog one two s (Ok (turned.Closed r)) = (turn one two (position_of catalog s) ≡ Ok None) × (r ≡ s)
IsTurn catalog one two s (Ok (turned.Went r)) = turn one two (position_of catalog s) ≡ Ok (Some (position_of catalog r))
IsTurn catalog one two s (Err e) = Fails e (turn one two (position_of catalog s))
