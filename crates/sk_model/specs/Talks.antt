-- What one transaction asks of the engines, in the order in which it asked, and what a database has to do with the replies.
use Rattle.std.specs.Prelude.{◌≡◌, ℕ, List, [], ◌∷◌, Option, Some, None, Bool, true, false, cond, ◌&&◌}
use Rattle.std.specs.List.{filter, flat_map, list_any}
use Rattle.sk_model.specs.declared.label.Label.{Label}
use Rattle.sk_model.specs.declared.engine.EngineName.{EngineName}
use Rattle.sk_model.specs.declared.engine.EngineName.TheVariants.{Mem, Store}
use Rattle.sk_model.specs.declared.commit.Write.{Write}
use Rattle.sk_model.specs.declared.call.EngineCall.{EngineCall}
use Rattle.sk_model.specs.declared.call.EngineCall.TheVariants as call
use Rattle.sk_model.specs.declared.call.EngineReply.{EngineReply}
use Rattle.sk_model.specs.declared.call.EngineReply.TheVariants.{Done, Found, Rows, Number, Commits, Fault}
use Rattle.sk_model.specs.declared.call.Entry.{Entry}
use Rattle.sk_model.specs.Database.{RowOf, KeyedRows, Tables, row_of, table_of, after_writes}
use Rattle.sk_model.specs.Records.{same_label, some_writes}
use Rattle.sk_model.specs.Engine.{write_at}

-- a call of the transaction on one of the engines, with its reply
pub record OwnCall : Type 0 where
  pub engine : EngineName
  pub entry : Entry

-- its calls on both engines, in the order in which it made them
abbrev pub Talk : Type 0
Talk = List OwnCall

abbrev pub own : EngineName → EngineCall → EngineReply → OwnCall
own e asked reply = record { engine = e; entry = record { call = asked; reply = reply } }

abbrev pub same_engine : EngineName → EngineName → Bool
same_engine Mem Mem = true
same_engine Mem Store = false
same_engine Store Mem = false
same_engine Store Store = true

abbrev pub call_in : EngineName → OwnCall → List Entry
call_in name c = cond (same_engine name c.engine) (c.entry ∷ []) []

-- the calls on one engine
abbrev pub calls_in : EngineName → Talk → List Entry
calls_in name talk = flat_map (call_in name) talk

-- a Put that was done wrote
abbrev pub if_done : Write → EngineReply → List Write
if_done w Done = w ∷ []
if_done w (Found r) = []
if_done w (Rows rows) = []
if_done w (Number n) = []
if_done w (Commits cs) = []
if_done w (Fault f) = []

-- what a call with its reply wrote
abbrev pub wrote_by : EngineCall → EngineReply → List Write
wrote_by (call.Open tx s) reply = []
wrote_by (call.Get tx t key) reply = []
wrote_by (call.Scan tx t) reply = []
wrote_by (call.Put tx t key row) reply = if_done (write_at t key row) reply
wrote_by (call.Close tx) reply = []
wrote_by (call.Stamp tx n) reply = []
wrote_by (call.Void tx n) reply = []
wrote_by (call.DropTx tx) reply = []
wrote_by call.Horizon reply = []
wrote_by (call.Records from to) reply = []
wrote_by (call.Purge upto) reply = []

-- what these entries wrote
abbrev pub wrote_in : List Entry → List Write
wrote_in js = flat_map (λ j. wrote_by j.call j.reply) js

abbrev pub writes_in_call : OwnCall → List Write
writes_in_call c = wrote_by c.entry.call c.entry.reply

-- the writes of all Puts of a talk that were done, in order
abbrev pub puts_in : Talk → List Write
puts_in talk = flat_map writes_in_call talk

-- a row that was found is this one
abbrev pub IsRow : Option RowOf → EngineReply → Type 0
IsRow row Done = Unit {0}
IsRow row (Found r) = r ≡ row
IsRow row (Rows rows) = Unit {0}
IsRow row (Number n) = Unit {0}
IsRow row (Commits cs) = Unit {0}
IsRow row (Fault f) = Unit {0}

-- rows that were found are these
abbrev pub AreRows : KeyedRows → EngineReply → Type 0
AreRows rows Done = Unit {0}
AreRows rows (Found r) = Unit {0}
AreRows rows (Rows found) = found ≡ rows
AreRows rows (Number n) = Unit {0}
AreRows rows (Commits cs) = Unit {0}
AreRows rows (Fault f) = Unit {0}

-- a read that was answered shows what these tables hold
abbrev pub Shows : Tables → EngineCall → EngineReply → Type 0
Shows db (call.Open tx s) reply = Unit {0}
Shows db (call.Get tx t key) reply = IsRow (row_of db t key) reply
Shows db (call.Scan tx t) reply = AreRows (table_of db t) reply
Shows db (call.Put tx t key row) reply = Unit {0}
Shows db (call.Close tx) reply = Unit {0}
Shows db (call.Stamp tx n) reply = Unit {0}
Shows db (call.Void tx n) reply = Unit {0}
Shows db (call.DropTx tx) reply = Unit {0}
Shows db call.Horizon reply = Unit {0}
Shows db (call.Records from to) reply = Unit {0}
Shows db (call.Purge upto) reply = Unit {0}

-- each read shows what the database holds that begins as db and has the transaction's own writes before it
abbrev pub TalkTold : Tables → Talk → Type 0
TalkTold db [] = Unit {0}
TalkTold db (c ∷ rest) = Shows db c.entry.call c.entry.reply × TalkTold (after_writes db (writes_in_call c)) rest

-- the call was done
abbrev pub is_done : EngineReply → Bool
is_done Done = true
is_done (Found r) = false
is_done (Rows rows) = false
is_done (Number n) = false
is_done (Commits cs) = false
is_done (Fault f) = false

-- the snapshot at which a call opened its engine
abbrev pub opened_by : EngineCall → EngineReply → Option ℕ
opened_by (call.Open tx s) reply = cond (is_done reply) (Some s) None
opened_by (call.Get tx t key) reply = None
opened_by (call.Scan tx t) reply = None
opened_by (call.Put tx t key row) reply = None
opened_by (call.Close tx) reply = None
opened_by (call.Stamp tx n) reply = None
opened_by (call.Void tx n) reply = None
opened_by (call.DropTx tx) reply = None
opened_by call.Horizon reply = None
opened_by (call.Records from to) reply = None
opened_by (call.Purge upto) reply = None

abbrev pub or_else : Option ℕ → Option ℕ → Option ℕ
or_else None o = o
or_else (Some n) o = Some n

abbrev pub opened_in : EngineName → OwnCall → Option ℕ
opened_in e c = cond (same_engine e c.engine) (opened_by c.entry.call c.entry.reply) None

-- the snapshot at which these calls opened an engine
abbrev pub opened : EngineName → Talk → Option ℕ
opened e [] = None
opened e (c ∷ cs) = or_else (opened_in e c) (opened e cs)

-- some Put of an engine was done
abbrev pub wrote : EngineName → Talk → Bool
wrote e talk = list_any (λ (c : OwnCall). same_engine e c.engine && some_writes (writes_in_call c)) talk

-- whose call it is
abbrev pub tx_of : EngineCall → Option Label
tx_of (call.Open tx s) = Some tx
tx_of (call.Get tx t key) = Some tx
tx_of (call.Scan tx t) = Some tx
tx_of (call.Put tx t key row) = Some tx
tx_of (call.Close tx) = Some tx
tx_of (call.Stamp tx n) = Some tx
tx_of (call.Void tx n) = Some tx
tx_of (call.DropTx tx) = Some tx
tx_of call.Horizon = None
tx_of (call.Records from to) = None
tx_of (call.Purge upto) = None

-- the call is of this transaction
abbrev pub is_tx : Label → Option Label → Bool
is_tx tx None = false
is_tx tx (Some l) = same_label tx l

abbrev pub is_by : Label → Entry → Bool
is_by tx j = is_tx tx (tx_of j.call)

-- the entries of one transaction
abbrev pub entries_by : Label → List Entry → List Entry
entries_by tx js = filter (is_by tx) js
