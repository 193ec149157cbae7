-- The calls of one transaction in an engine's journal, and what they wrote.
use Rattle.std.specs.Prelude.{◌≡◌, ℕ, List, [], ◌∷◌, Option, Bool, false, cond, not, ◌&&◌, map}
use Rattle.std.specs.List.{filter, flat_map, fold}
use Rattle.sk_rows.specs.declared.value.Value.{Value}
use Rattle.sk_model.specs.declared.label.Label.{Label}
use Rattle.sk_model.specs.declared.commit.Write.{Write}
use Rattle.sk_model.specs.declared.call.EngineCall.{EngineCall}
use Rattle.sk_model.specs.declared.call.EngineCall.TheVariants as call
use Rattle.sk_model.specs.declared.call.EngineReply.{EngineReply}
use Rattle.sk_model.specs.declared.call.Entry.{Entry}
use Rattle.sk_model.specs.Database.{RowOf, hits}
use Rattle.sk_model.specs.Records.{same_label}
use Rattle.sk_model.specs.Engine.{Version, EngineTable, is_undecided, write_at}
use Rattle.sk_model.specs.Legal.{is_refusal}

-- a row after these writes, where it was r before
abbrev pub last_row : ℕ → Value → Option RowOf → List Write → Option RowOf
last_row t key r ws = fold (λ r w. cond (hits t key w) w.row r) r ws

-- a version of the transaction that is not decided yet
abbrev pub is_own : Label → Version → Bool
is_own tx v = same_label tx v.by && is_undecided v.standing

-- the writes of a transaction that stand undecided, in order
abbrev pub own_writes_of : Label → List Version → List Write
own_writes_of tx vs = map (λ (v : Version). v.write) (filter (is_own tx) vs)

-- what a call with its reply wrote for the transaction
abbrev pub put_by : Label → EngineCall → EngineReply → List Write
put_by tx (call.Open other s) reply = []
put_by tx (call.Get other t key) reply = []
put_by tx (call.Scan other t) reply = []
put_by tx (call.Put other t key row) reply = cond (same_label tx other && not (is_refusal reply)) (write_at t key row ∷ []) []
put_by tx (call.Close other) reply = []
put_by tx (call.Stamp other n) reply = []
put_by tx (call.Void other n) reply = []
put_by tx (call.DropTx other) reply = []
put_by tx call.Horizon reply = []
put_by tx (call.Records from to) reply = []
put_by tx (call.Purge upto) reply = []

-- what the entries of a journal wrote for the transaction
abbrev pub puts_of : Label → List Entry → List Write
puts_of tx js = flat_map (λ j. put_by tx j.call j.reply) js

-- the call closes the transaction or ends it
abbrev pub ends : Label → EngineCall → Bool
ends tx (call.Open other s) = false
ends tx (call.Get other t key) = false
ends tx (call.Scan other t) = false
ends tx (call.Put other t key row) = false
ends tx (call.Close other) = same_label tx other
ends tx (call.Stamp other n) = same_label tx other
ends tx (call.Void other n) = same_label tx other
ends tx (call.DropTx other) = same_label tx other
ends tx call.Horizon = false
ends tx (call.Records from to) = false
ends tx (call.Purge upto) = false

-- these writes show in each row what the transaction's own versions show
abbrev pub OwnIs : Label → EngineTable → List Write → Type 0
OwnIs tx e ws = (t : ℕ) (key : Value) (x : Option RowOf) → last_row t key x (own_writes_of tx e.versions) ≡ last_row t key x ws
