-- The condition of each call of an engine, and the reply where it does not hold.
use Rattle.std.specs.Prelude.{ℕ, List, [], ◌∷◌, Option, Some, None, Bool, true, false, not, ◌&&◌, length, nat_lt, nat_le, is_some}
use Rattle.std.specs.Ordering.{eq_by_cmp}
use Rattle.sk_rows.specs.declared.value.Value.{Value}
use Rattle.sk_rows.specs.declared.value.Value.TheVariants as value
use Rattle.sk_rows.specs.declared.table.Column.{Column}
use Rattle.sk_rows.specs.declared.table.Table.{Table}
use Rattle.sk_rows.specs.Typing.{same_sort}
use Rattle.sk_rows.specs.Values.{value_cmp, sort_of}
use Rattle.sk_rows.specs.Limits.{longest_text}
use Rattle.sk_model.specs.declared.label.Label.{Label}
use Rattle.sk_model.specs.declared.call.EngineCall.{EngineCall}
use Rattle.sk_model.specs.declared.call.EngineCall.TheVariants as call
use Rattle.sk_model.specs.declared.call.EngineReply.{EngineReply}
use Rattle.sk_model.specs.declared.call.EngineReply.TheVariants.{Done, Found, Rows, Number, Commits}
use Rattle.sk_model.specs.Database.{RowOf}
use Rattle.sk_model.specs.Names.{columns_at}
use Rattle.sk_model.specs.Sorts.{have_sorts}
use Rattle.sk_model.specs.Replies.{has_room, key_of}
use Rattle.sk_model.specs.Engine.{Opening, EngineTable, keeps, opening_of}
use Rattle.sk_model.specs.EngineReplies.{is_used, horizon_of}

abbrev pub is_closed : Option Opening → Bool
is_closed None = false
is_closed (Some o) = is_some o.floor

abbrev pub is_standing : Option Opening → Bool
is_standing None = false
is_standing (Some o) = not (is_some o.floor)

abbrev pub number_or : ℕ → Option ℕ → ℕ
number_or n None = n
number_or n (Some m) = m

abbrev pub floor_of : Option Opening → ℕ
floor_of None = 0
floor_of (Some o) = number_or 0 o.floor

-- a table of this engine
abbrev pub has_table : EngineTable → ℕ → Bool
has_table e t = nat_lt t (length e.rows) && keeps e.name e.catalog t

-- a text is not too long
abbrev pub is_short : Value → Bool
is_short (value.Int n) = true
is_short (value.Text t) = nat_le (length t) longest_text
is_short (value.Bool b) = true

abbrev pub are_short : List Value → Bool
are_short [] = true
are_short (v ∷ vs) = is_short v && are_short vs

-- the value is of the sort of the first of these columns
abbrev pub fits_key : List Column → Value → Bool
fits_key [] v = false
fits_key (c ∷ cs) v = same_sort (sort_of v) c.sort

-- the key is of the sort of the table's key
abbrev pub has_key : EngineTable → ℕ → Value → Bool
has_key e t key = fits_key (columns_at e.catalog t) key

-- the row fits the table, and begins with the key
abbrev pub fits_at : List Table → ℕ → Value → RowOf → Bool
fits_at tables t key row = have_sorts row (columns_at tables t) && (are_short row && (has_room row && eq_by_cmp value_cmp key (key_of row)))

-- a row that is put fits the table, and a key without a row is short
abbrev pub has_row : EngineTable → ℕ → Value → Option RowOf → Bool
has_row e t key None = is_short key
has_row e t key (Some row) = fits_at e.catalog t key row

-- a closed opening, and a number past its floor that is not used yet
abbrev pub may_end : EngineTable → Label → ℕ → Bool
may_end e tx n = is_closed (opening_of e tx) && (nat_lt (floor_of (opening_of e tx)) n && not (is_used e n))

-- the condition of a call
abbrev pub may : EngineTable → EngineCall → Bool
may e (call.Open tx s) = not (is_some (opening_of e tx))
may e (call.Get tx t key) = is_standing (opening_of e tx) && (has_table e t && has_key e t key)
may e (call.Scan tx t) = is_standing (opening_of e tx) && has_table e t
may e (call.Put tx t key row) = is_standing (opening_of e tx) && (has_table e t && (has_key e t key && has_row e t key row))
may e (call.Close tx) = is_standing (opening_of e tx)
may e (call.Stamp tx n) = may_end e tx n
may e (call.Void tx n) = may_end e tx n
may e (call.DropTx tx) = is_some (opening_of e tx)
may e call.Horizon = true
may e (call.Records from to) = nat_le e.purged from && nat_le to (horizon_of e)
may e (call.Purge upto) = true

-- the reply to a call whose condition does not hold
abbrev pub empty_of : EngineCall → EngineReply
empty_of (call.Open tx s) = Done
empty_of (call.Get tx t key) = Found None
empty_of (call.Scan tx t) = Rows []
empty_of (call.Put tx t key row) = Done
empty_of (call.Close tx) = Number 0
empty_of (call.Stamp tx n) = Done
empty_of (call.Void tx n) = Done
empty_of (call.DropTx tx) = Done
empty_of call.Horizon = Done
empty_of (call.Records from to) = Commits []
empty_of (call.Purge upto) = Done
