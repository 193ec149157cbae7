-- What the calls and answers of one session say by themselves, what the journals, the points and the registry say of all
-- sessions together, and the law by which both make linked traces.
use Rattle.std.specs.Prelude.{◌≡◌, ℕ, ◌<◌, ◌+◌, List, [], ◌∷◌, ◌++◌, Option, Some, None, Bool, true, false, cond, ◌&&◌, ◌==◌, ◌⊎◌, nat_lt}
use Rattle.std.specs.List.{filter, flat_map, AllByRecursion}
use Rattle.sk_rows.specs.declared.value.Value.{Value}
use Rattle.sk_rows.specs.declared.table.Table.{Table}
use Rattle.sk_model.specs.declared.label.Label.{Label}
use Rattle.sk_model.specs.declared.engine.EngineName.{EngineName}
use Rattle.sk_model.specs.declared.engine.EngineName.TheVariants.{Mem}
use Rattle.sk_model.specs.declared.point.Point.{Point}
use Rattle.sk_model.specs.declared.call.EngineCall.{EngineCall}
use Rattle.sk_model.specs.declared.call.EngineCall.TheVariants as call
use Rattle.sk_model.specs.declared.call.EngineReply.{EngineReply}
use Rattle.sk_model.specs.declared.call.EngineReply.TheVariants.{Done, Found, Rows, Number, Commits, Fault}
use Rattle.sk_model.specs.declared.call.Entry.{Entry}
use Rattle.sk_model.specs.Database.{RowOf, Tables, table_of}
use Rattle.sk_model.specs.Records.{some_writes}
use Rattle.sk_model.specs.Engine.{EngineTable, engine_at}
use Rattle.sk_model.specs.EngineConditions.{may, has_table, has_key, has_row}
use Rattle.sk_model.specs.Legal.{is_refusal, step, Legal}
use Rattle.sk_model.specs.Talks.{OwnCall, calls_in, wrote_in, tx_of, entries_by, same_engine}
use Rattle.sk_weave.specs.Points.{Staircase}
use Rattle.sk_weave.specs.Woven.{At}
use Rattle.sk_linked.specs.Reads.{snapshot_at, PairIf, first_table}
use Rattle.sk_linked.specs.Traces.{drawn_at, Transaction, Traces, run_of, has_stamped, In, IsOwn, open_entry, close_entry, stamp_entry, DrewUnlike, CommitOf, Known, PointsMade, Linked}

-- ---- the order of a transaction's calls on one engine

-- how far a transaction is in an engine: it did not open it, it has it open, it closed it and got a floor, or it is over there
pub data Phase : Type 0 where
  Unopened : Phase
  Opened : Phase
  Closed : (floor : ℕ) → Phase
  Over : Phase

abbrev pub is_unopened : Phase → Bool
is_unopened Unopened = true
is_unopened Opened = false
is_unopened (Closed f) = false
is_unopened Over = false

abbrev pub is_opened : Phase → Bool
is_opened Unopened = false
is_opened Opened = true
is_opened (Closed f) = false
is_opened Over = false

-- closed with a floor before n
abbrev pub is_closed_before : ℕ → Phase → Bool
is_closed_before n Unopened = false
is_closed_before n Opened = false
is_closed_before n (Closed f) = nat_lt f n
is_closed_before n Over = false

abbrev pub is_begun : Phase → Bool
is_begun Unopened = false
is_begun Opened = true
is_begun (Closed f) = true
is_begun Over = false

-- whether a call of the transaction comes in its turn
abbrev pub in_turn : Phase → EngineCall → Bool
in_turn p (call.Open tx s) = is_unopened p
in_turn p (call.Get tx t key) = is_opened p
in_turn p (call.Scan tx t) = is_opened p
in_turn p (call.Put tx t key row) = is_opened p
in_turn p (call.Close tx) = is_opened p
in_turn p (call.Stamp tx n) = is_closed_before n p
in_turn p (call.Void tx n) = is_closed_before n p
in_turn p (call.DropTx tx) = is_begun p
in_turn p call.Horizon = false
in_turn p (call.Records from to) = false
in_turn p (call.Purge upto) = false

-- a close answers a floor
abbrev pub closed_with : EngineReply → Phase
closed_with Done = Over
closed_with (Found r) = Over
closed_with (Rows rows) = Over
closed_with (Number n) = Closed n
closed_with (Commits cs) = Over
closed_with (Fault f) = Over

-- how far the transaction is after a call with its reply
abbrev pub phase_after : EngineCall → EngineReply → Phase → Phase
phase_after (call.Open tx s) reply p = cond (is_refusal reply) Over Opened
phase_after (call.Get tx t key) reply p = p
phase_after (call.Scan tx t) reply p = p
phase_after (call.Put tx t key row) reply p = p
phase_after (call.Close tx) reply p = closed_with reply
phase_after (call.Stamp tx n) reply p = Over
phase_after (call.Void tx n) reply p = Over
phase_after (call.DropTx tx) reply p = Over
phase_after call.Horizon reply p = p
phase_after (call.Records from to) reply p = p
phase_after (call.Purge upto) reply p = p

-- each of these calls comes in its turn, where the transaction was this far before them
abbrev pub CallsInTurn : Phase → List Entry → Type 0
CallsInTurn p [] = Unit {0}
CallsInTurn p (j ∷ js) = (in_turn p j.call ≡ true) × CallsInTurn (phase_after j.call j.reply p) js

-- ---- what a call needs of the tables, and of the horizon

-- the call's table is one of the engine's, and its key and its row fit
abbrev pub fits : EngineName → List Table → Tables → EngineCall → Bool
fits name catalog rows (call.Open tx s) = true
fits name catalog rows (call.Get tx t key) = has_table (engine_at name catalog rows 0) t && has_key (engine_at name catalog rows 0) t key
fits name catalog rows (call.Scan tx t) = has_table (engine_at name catalog rows 0) t
fits name catalog rows (call.Put tx t key row) = has_table (engine_at name catalog rows 0) t && (has_key (engine_at name catalog rows 0) t key && has_row (engine_at name catalog rows 0) t key row)
fits name catalog rows (call.Close tx) = true
fits name catalog rows (call.Stamp tx n) = true
fits name catalog rows (call.Void tx n) = true
fits name catalog rows (call.DropTx tx) = true
fits name catalog rows call.Horizon = true
fits name catalog rows (call.Records from to) = true
fits name catalog rows (call.Purge upto) = true

-- a row fits its table and begins with its key
abbrev pub row_fits : List Table → ℕ → Value → Option RowOf → Bool
row_fits catalog t key row = has_row (engine_at Mem catalog [] 0) t key row

-- each row of each table fits it
abbrev pub TablesFit : List Table → Tables → Type 0
TablesFit catalog db = (t : ℕ) → AllByRecursion (λ (p : Value × RowOf). row_fits catalog t p.0 (Some p.1) ≡ true) (table_of db t)

abbrev pub FoundFits : List Table → ℕ → Value → Option RowOf → Type 0
FoundFits catalog t key None = Unit {0}
FoundFits catalog t key (Some row) = row_fits catalog t key (Some row) ≡ true

abbrev pub GetFits : List Table → ℕ → Value → EngineReply → Type 0
GetFits catalog t key Done = Unit {0}
GetFits catalog t key (Found r) = FoundFits catalog t key r
GetFits catalog t key (Rows rows) = Unit {0}
GetFits catalog t key (Number n) = Unit {0}
GetFits catalog t key (Commits cs) = Unit {0}
GetFits catalog t key (Fault f) = Unit {0}

abbrev pub ScanFits : List Table → ℕ → EngineReply → Type 0
ScanFits catalog t Done = Unit {0}
ScanFits catalog t (Found r) = Unit {0}
ScanFits catalog t (Rows rows) = AllByRecursion (λ (p : Value × RowOf). row_fits catalog t p.0 (Some p.1) ≡ true) rows
ScanFits catalog t (Number n) = Unit {0}
ScanFits catalog t (Commits cs) = Unit {0}
ScanFits catalog t (Fault f) = Unit {0}

-- the rows that a read found fit
abbrev pub ReplyFits : List Table → EngineCall → EngineReply → Type 0
ReplyFits catalog (call.Open tx s) reply = Unit {0}
ReplyFits catalog (call.Get tx t key) reply = GetFits catalog t key reply
ReplyFits catalog (call.Scan tx t) reply = ScanFits catalog t reply
ReplyFits catalog (call.Put tx t key row) reply = Unit {0}
ReplyFits catalog (call.Close tx) reply = Unit {0}
ReplyFits catalog (call.Stamp tx n) reply = Unit {0}
ReplyFits catalog (call.Void tx n) reply = Unit {0}
ReplyFits catalog (call.DropTx tx) reply = Unit {0}
ReplyFits catalog call.Horizon reply = Unit {0}
ReplyFits catalog (call.Records from to) reply = Unit {0}
ReplyFits catalog (call.Purge upto) reply = Unit {0}

-- each call fits, as long as the rows that were found before it do
abbrev pub CallsFit : EngineName → List Table → Tables → List Entry → Type 0
CallsFit name catalog rows [] = Unit {0}
CallsFit name catalog rows (j ∷ js) = (fits name catalog rows j.call ≡ true) × (ReplyFits catalog j.call j.reply → CallsFit name catalog rows js)

-- records are asked for past the purge horizon and up to the horizon
abbrev pub MayRecord : EngineTable → EngineCall → Type 0
MayRecord e (call.Open tx s) = Unit {0}
MayRecord e (call.Get tx t key) = Unit {0}
MayRecord e (call.Scan tx t) = Unit {0}
MayRecord e (call.Put tx t key row) = Unit {0}
MayRecord e (call.Close tx) = Unit {0}
MayRecord e (call.Stamp tx n) = Unit {0}
MayRecord e (call.Void tx n) = Unit {0}
MayRecord e (call.DropTx tx) = Unit {0}
MayRecord e call.Horizon = Unit {0}
MayRecord e (call.Records from to) = may e (call.Records from to) ≡ true
MayRecord e (call.Purge upto) = Unit {0}

abbrev pub MayRecords : EngineTable → List Entry → Type 0
MayRecords e [] = Unit {0}
MayRecords e (j ∷ js) = MayRecord e j.call × MayRecords (step e j) js

-- ---- one session

-- What one session left: its number, its entries in each journal, in order, and its transactions, in the order in which they began.
pub record Share : Type 0 where
  pub session : ℕ
  pub gained : EngineName → List Entry
  pub transactions : List Transaction

-- the labels count the transactions of the session, from k on
abbrev pub Counted : ℕ → ℕ → List Transaction → Type 0
Counted session k [] = Unit {0}
Counted session k (t ∷ ts) = (t.label ≡ record { session = session; k = k }) × Counted session (k + 1) ts

-- The calls of a transaction on an engine in which it drew n: those before its close, among them a Put that was done, the close
-- with a floor before n, and its end; where it is committed that is its stamp, if it was made.
pub record Ends (t : Transaction) (name : EngineName) (n : ℕ) : Type 0 where
  pub before : List Entry
  pub floor : ℕ
  pub tail : List Entry
  pub is : calls_in name t.talk ≡ before ++ close_entry t.label floor ∷ tail
  pub past : floor < n
  pub wrote : some_writes (wrote_in before) ≡ true
  pub stamps : t.committed ≡ true → (tail ≡ []) ⊎ (tail ≡ stamp_entry t.label n ∷ [])

-- A transaction as its own calls and answers show it, whoever else is at work.
pub record Behaves (catalog : List Table) (rows : Tables) (points : List Point) (t : Transaction) : Type 0 where
  -- its calls come in their turn, and fit the tables as long as the rows that it found do
  pub ordered : (name : EngineName) → CallsInTurn Unopened (calls_in name t.talk)
  pub fitting : (name : EngineName) → CallsFit name catalog rows (calls_in name t.talk)
  -- they carry its snapshot and its number, and it stamps only where it is committed
  pub own : AllByRecursion (λ (c : OwnCall). IsOwn t c.engine c.entry.call c.entry.reply) t.talk
  -- its snapshots are those at which it opened, and where it opened both engines it was answered a pair
  pub opened : (name : EngineName) (a : ℕ) → snapshot_at name t.snapshots ≡ Some a → In (open_entry t.label a) (calls_in name t.talk)
  pub pair : PairIf points t.snapshots.mem t.snapshots.store
  -- where it drew it wrote and closed before; once committed, its stamp alone ends it there
  pub ends : (name : EngineName) (n : ℕ) → drawn_at name t.drew ≡ Some n → Ends t name n
  -- once committed, it wrote nothing where it drew nothing
  pub silent : (name : EngineName) → t.committed ≡ true → drawn_at name t.drew ≡ None → wrote_in (calls_in name t.talk) ≡ []
  -- with one number it is committed by its stamp, and with two by a check that passed
  pub alone : (name other : EngineName) (n : ℕ) → same_engine name other ≡ false → t.committed ≡ true → drawn_at name t.drew ≡ Some n → drawn_at other t.drew ≡ None → has_stamped name t ≡ true
  pub crossed : (a b : ℕ) → t.committed ≡ true → t.drew.mem ≡ Some a → t.drew.store ≡ Some b → At a b points

-- What one session's calls and answers say, where these are the points so far.
pub record Own (catalog : List Table) (rows : Tables) (points : List Point) (s : Share) : Type 0 where
  pub labels : Counted s.session 1 s.transactions
  -- its entries are those of its transactions
  pub entries : (name : EngineName) → AllByRecursion (λ (t : Transaction). entries_by t.label (s.gained name) ≡ calls_in name t.talk) s.transactions
  pub known : (name : EngineName) → AllByRecursion (λ (j : Entry). Known s.transactions (tx_of j.call)) (s.gained name)
  pub each : AllByRecursion (Behaves catalog rows points) s.transactions

-- ---- all sessions

abbrev pub in_session : ℕ → Option Label → Bool
in_session n None = false
in_session n (Some l) = n == l.session

-- the entries of one session
abbrev pub session_entries : ℕ → List Entry → List Entry
session_entries n js = filter (λ j. in_session n (tx_of j.call)) js

abbrev pub all_transactions : List Share → List Transaction
all_transactions shares = flat_map (λ (s : Share). s.transactions) shares

-- no two of them have one number
abbrev pub Apart : List Share → Type 0
Apart [] = Unit {0}
Apart (s ∷ ss) = AllByRecursion (λ (r : Share). (s.session == r.session) ≡ false) ss × Apart ss

pub record OfOne (shares : List Share) (l : Label) : Type 0 where
  pub who : Share
  pub among : In who shares
  pub is : (who.session == l.session) ≡ true

-- the call is of no session, or of one of these
abbrev pub Heard : List Share → Option Label → Type 0
Heard shares None = Unit {0}
Heard shares (Some l) = OfOne shares l

-- What the journals, the points and the registry say of all sessions together.
pub record Joined (h : Traces) (shares : List Share) : Type 0 where
  pub transactions : h.transactions ≡ all_transactions shares
  pub apart : Apart shares
  pub opening : TablesFit h.catalog h.rows
  -- each reply is the right one; each entry is of a session, in that session's order, or of none, and then its condition holds
  pub legal : (name : EngineName) → Legal (first_table (run_of h) name) (h.journals name)
  pub whose : (name : EngineName) → AllByRecursion (λ (s : Share). session_entries s.session (h.journals name) ≡ s.gained name) shares
  pub heard : (name : EngineName) → AllByRecursion (λ (j : Entry). Heard shares (tx_of j.call)) (h.journals name)
  pub unowned : (name : EngineName) → MayRecords (first_table (run_of h) name) (h.journals name)
  -- the points are a staircase, each is of one transaction or a flush's cut, and each commit point is of a committed transaction
  pub stairs : Staircase (h.first ∷ h.points)
  pub made : PointsMade h
  pub commits : AllByRecursion (λ (q : Point). q.commit ≡ true → CommitOf h.transactions q) h.points
  -- no two drew one number of an engine
  pub unlike : (name : EngineName) → DrewUnlike name h.transactions

abbrev pub AllOwn : Traces → List Share → Type 0
AllOwn h shares = AllByRecursion (Own h.catalog h.rows (h.first ∷ h.points)) shares

-- What each session says of itself, and what all of them have in common, make linked traces.
abbrev pub LinkedOfOwn : Type 0
LinkedOfOwn = (h : Traces) (shares : List Share) → AllOwn h shares → Joined h shares → Linked h

-- What a session's calls and answers say at some points they say at more points, whoever made these.
abbrev pub OwnStays : Type 0
OwnStays = (catalog : List Table) (rows : Tables) (points more : List Point) (s : Share) → Own catalog rows points s → Own catalog rows (points ++ more) s
