-- What a statement asks of the engines, call by call, and what it is answered.
use Rattle.std.specs.Prelude.{◌≡◌, ℕ, List, [], ◌∷◌, Option, Some, None, Bool, true, false, cond, ◌⊎◌, get_or, map, option_and_then}
use Rattle.sk_rows.specs.declared.value.Value.{Value}
use Rattle.sk_rows.specs.declared.table.Table.{Table}
use Rattle.sk_rows.specs.declared.statement.Begun.{Begun}
use Rattle.sk_rows.specs.declared.statement.Begun.TheVariants as begun
use Rattle.sk_rows.specs.declared.statement.Statement.{Statement}
use Rattle.sk_rows.specs.declared.statement.Statement.TheVariants as statement
use Rattle.sk_model.specs.declared.label.Label.{Label}
use Rattle.sk_model.specs.declared.engine.EngineName.{EngineName}
use Rattle.sk_model.specs.declared.engine.EngineName.TheVariants.{Mem, Store}
use Rattle.sk_model.specs.declared.commit.Write.{Write}
use Rattle.sk_model.specs.declared.point.Point.{Point}
use Rattle.sk_model.specs.declared.reply.ErrWord.{ErrWord}
use Rattle.sk_model.specs.declared.reply.ErrWord.TheVariants as err
use Rattle.sk_model.specs.declared.reply.Reply.{Reply}
use Rattle.sk_model.specs.declared.reply.Reply.TheVariants as reply
use Rattle.sk_model.specs.declared.record.TxKind.{TxKind}
use Rattle.sk_model.specs.declared.record.TxKind.TheVariants as kind
use Rattle.sk_model.specs.declared.call.EngineCall.{EngineCall}
use Rattle.sk_model.specs.declared.call.EngineCall.TheVariants as call
use Rattle.sk_model.specs.declared.call.EngineFault.{EngineFault}
use Rattle.sk_model.specs.declared.call.EngineFault.TheVariants as fault
use Rattle.sk_model.specs.declared.call.EngineReply.{EngineReply}
use Rattle.sk_model.specs.declared.call.EngineReply.TheVariants.{Done, Found, Rows, Number, Commits, Fault}
use Rattle.sk_model.specs.Database.{KeyedRows}
use Rattle.sk_model.specs.Names.{table_at, columns_at}
use Rattle.sk_model.specs.Reads.{one_row}
use Rattle.sk_model.specs.Replies.{Answer, comes_to, key_read, refusal_in, target_table, is_judged}
use Rattle.sk_model.specs.Spoken.{is_lost}
use Rattle.sk_model.specs.Talks.{OwnCall, Talk, opened}

-- the engine that keeps a table
abbrev pub keeper_of : Bool → EngineName
keeper_of true = Store
keeper_of false = Mem

abbrev pub keeper : List Table → ℕ → EngineName
keeper catalog t = keeper_of (get_or (map (λ table. table.store) catalog) t false)

-- a transaction of this kind may use the engine
abbrev pub may_use : TxKind → EngineName → Bool
may_use kind.Cross e = true
may_use kind.Mem Mem = true
may_use kind.Mem Store = false
may_use kind.Store Mem = false
may_use kind.Store Store = true

-- the kind that BEGIN declares
abbrev pub kind_begun : Begun → TxKind
kind_begun begun.Cross = kind.Cross
kind_begun begun.Mem = kind.Mem
kind_begun begun.Store = kind.Store

-- the engine that a transaction opens as it begins
abbrev pub first_engine : TxKind → EngineName
first_engine kind.Cross = Mem
first_engine kind.Mem = Mem
first_engine kind.Store = Store

-- the number of the table that a statement names
abbrev pub table_named : List Table → Statement → Option ℕ
table_named catalog s = option_and_then (table_at catalog) (target_table s)

-- what a statement is answered where an engine refused a call of it
abbrev pub fault_reply : EngineName → EngineFault → Reply
fault_reply e (fault.Old snapshot horizon) = reply.Old e snapshot horizon
fault_reply e (fault.Busy by) = reply.Busy by
fault_reply e (fault.Conflict by why) = reply.Conflict by why
fault_reply e fault.Device = reply.Refused err.Device
fault_reply e fault.NoMemory = reply.Refused err.Memory

-- The rest of a statement: its further calls, and its reply.
abbrev pub Rest : Type 1
Rest = Talk → Reply → Type 0

-- there are no further calls, and this is the reply, unless memory was wanted for it
abbrev pub Answers : Reply → Rest
Answers said calls r = (calls ≡ []) × ((r ≡ said) ⊎ (r ≡ reply.Refused err.Memory))

-- memory was wanted
abbrev pub Starves : Rest
Starves calls r = (calls ≡ []) × (r ≡ reply.Refused err.Memory)

-- the call is one of this engine
pub record Asks (e : EngineName) (asked : EngineCall) (c : OwnCall) : Type 0 where
  pub engine : c.engine ≡ e
  pub call : c.entry.call ≡ asked

-- after a call that was done comes Then; a fault is the reply, and loses the transaction
abbrev pub IfDone : EngineName → Rest → EngineReply → Rest
IfDone e Then Done calls r = Then calls r
IfDone e Then (Fault f) calls r = (is_lost (fault_reply e f) ≡ true) × Answers (fault_reply e f) calls r
IfDone e Then (Found row) calls r = ⊥
IfDone e Then (Rows rows) calls r = ⊥
IfDone e Then (Number n) calls r = ⊥
IfDone e Then (Commits cs) calls r = ⊥

-- No snapshot was selected, where this is the anchor of one over both engines; or memory was wanted.
abbrev pub Unopened : Option ℕ → Reply → Type 0
Unopened None r = r ≡ reply.Refused err.Memory
Unopened (Some a) r = (r ≡ reply.Refused err.Memory) ⊎ ((oldest : Point) × (r ≡ reply.Recycled (record { a = a; oldest = oldest })))

-- the engine is opened at some snapshot where it is not open yet, and then comes Then
abbrev pub Opens : Label → EngineName → Option ℕ → Option ℕ → Rest → Rest
Opens tx e anchor (Some s) Then calls r = Then calls r
Opens tx e anchor None Then [] r = Unopened anchor r
Opens tx e anchor None Then (c ∷ calls) r = ((s : ℕ) × Asks e (call.Open tx s) c) × IfDone e Then c.entry.reply calls r

-- the read of a table: of one key, or of all rows
abbrev pub read_call : Label → ℕ → Option Value → EngineCall
read_call tx t None = call.Scan tx t
read_call tx t (Some key) = call.Get tx t key

-- the rows that a reply gives to the read of one key
abbrev pub IfFound : EngineName → Value → (KeyedRows → Rest) → EngineReply → Rest
IfFound e key Then (Found row) calls r = Then (one_row key row) calls r
IfFound e key Then (Fault f) calls r = Answers (fault_reply e f) calls r
IfFound e key Then Done calls r = ⊥
IfFound e key Then (Rows rows) calls r = ⊥
IfFound e key Then (Number n) calls r = ⊥
IfFound e key Then (Commits cs) calls r = ⊥

-- the rows that a reply gives to the read of a table
abbrev pub IfRows : EngineName → (KeyedRows → Rest) → EngineReply → Rest
IfRows e Then (Rows rows) calls r = Then rows calls r
IfRows e Then (Fault f) calls r = Answers (fault_reply e f) calls r
IfRows e Then Done calls r = ⊥
IfRows e Then (Found row) calls r = ⊥
IfRows e Then (Number n) calls r = ⊥
IfRows e Then (Commits cs) calls r = ⊥

abbrev pub IfRead : EngineName → Option Value → (KeyedRows → Rest) → EngineReply → Rest
IfRead e None Then answer calls r = IfRows e Then answer calls r
IfRead e (Some key) Then answer calls r = IfFound e key Then answer calls r

-- the table is read, and then comes Then over the rows
abbrev pub Reads : Label → EngineName → ℕ → Option Value → (KeyedRows → Rest) → Rest
Reads tx e t key Then [] r = r ≡ reply.Refused err.Memory
Reads tx e t key Then (c ∷ calls) r = Asks e (read_call tx t key) c × IfRead e key Then c.entry.reply calls r

abbrev pub put_call : Label → Write → EngineCall
put_call tx w = call.Put tx w.table w.key w.row

-- a write is put, and then comes Then
abbrev pub PutsOne : Label → EngineName → Write → Rest → Rest
PutsOne tx e w Then [] r = r ≡ reply.Refused err.Memory
PutsOne tx e w Then (c ∷ calls) r = Asks e (put_call tx w) c × IfDone e Then c.entry.reply calls r

-- these writes are put, one after another, and then this is the reply
abbrev pub Puts : Label → EngineName → Reply → List Write → Rest
Puts tx e said [] = Answers said
Puts tx e said (w ∷ ws) = PutsOne tx e w (Puts tx e said ws)

-- what the statement comes to: a reply and writes, which are put
abbrev pub Makes : Label → EngineName → Answer → Rest
Makes tx e answer calls r = Starves calls r ⊎ Puts tx e answer.0 answer.1 calls r

-- a statement that nothing refuses: its engine is opened, its table is read, and it comes to something over the rows
abbrev pub Works : List Table → Label → Option ℕ → Option ℕ → Statement → ℕ → Rest
Works catalog tx anchor snapshot s t =
    let columns = columns_at catalog t in
    Opens tx (keeper catalog t) anchor snapshot (Reads tx (keeper catalog t) t (key_read columns s) (λ rows. Makes tx (keeper catalog t) (comes_to columns t s rows)))

-- over table t, where this refuses it whatever rows there are; an engine that the transaction may not use is the last refusal
abbrev pub AsksAt : List Table → Label → TxKind → Talk → Statement → ℕ → Option ErrWord → Rest
AsksAt catalog tx kind before s t (Some word) calls r = Answers (reply.Refused word) calls r
AsksAt catalog tx kind before s t None calls r =
    cond (may_use kind (keeper catalog t))
    (Works catalog tx (opened Mem before) (opened (keeper catalog t) before) s t calls r)
    (Answers (reply.Refused err.Engine) calls r)

-- a statement that the database answers, where it names this table
abbrev pub AsksOf : List Table → Label → TxKind → Talk → Statement → Option ℕ → Rest
AsksOf catalog tx kind before s None calls r = Answers (reply.Refused err.Table) calls r
AsksOf catalog tx kind before s (Some t) calls r = AsksAt catalog tx kind before s t (refusal_in (columns_at catalog t) s) calls r

-- BEGIN opens the first engine
abbrev pub Begins : Label → TxKind → Rest
Begins tx kind = Opens tx (first_engine kind) None None (Answers (reply.Began tx))

-- The calls of a statement of a transaction, behind the calls that it made before, and its reply. BEGIN is its first, and says its
-- kind. COMMIT and ROLLBACK end it: what they make are steps of the commit, or what ends the openings.
abbrev pub Asked : List Table → Label → TxKind → Talk → Statement → Rest
Asked catalog tx kind before (statement.Begin begun) calls r = (before ≡ []) × (kind ≡ kind_begun begun) × (Starves calls r ⊎ Begins tx kind calls r)
Asked catalog tx kind before statement.Commit calls r = (calls ≡ []) × (is_judged r ≡ false)
Asked catalog tx kind before statement.Rollback calls r = (calls ≡ []) × (is_judged r ≡ false)
Asked catalog tx kind before (statement.Insert table values) calls r = Starves calls r ⊎ AsksOf catalog tx kind before (statement.Insert table values) (table_at catalog table) calls r
Asked catalog tx kind before (statement.Select table names e) calls r = Starves calls r ⊎ AsksOf catalog tx kind before (statement.Select table names e) (table_at catalog table) calls r
Asked catalog tx kind before (statement.Update table sets e) calls r = Starves calls r ⊎ AsksOf catalog tx kind before (statement.Update table sets e) (table_at catalog table) calls r
Asked catalog tx kind before (statement.Delete table e) calls r = Starves calls r ⊎ AsksOf catalog tx kind before (statement.Delete table e) (table_at catalog table) calls r
