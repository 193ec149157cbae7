-- The calls of a record: those of its statements, then those of its commit's steps, then what ends its openings.
use Rattle.std.specs.Prelude.{◌≡◌, ℕ, ◌<◌, List, [], ◌∷◌, ◌++◌, Option, Some, None, Bool, true, false, cond, ◌&&◌, ◌||◌, ◌⊎◌, IfSome, is_some, not}
use Rattle.std.specs.List.{list_any, AllByRecursion}
use Rattle.sk_rows.specs.declared.table.Table.{Table}
use Rattle.sk_rows.specs.declared.statement.Statement.{Statement}
use Rattle.sk_rows.specs.declared.statement.Statement.TheVariants as statement
use Rattle.sk_model.specs.declared.label.Label.{Label}
use Rattle.sk_model.specs.declared.engine.EngineName.{EngineName}
use Rattle.sk_model.specs.declared.engine.EngineName.TheVariants.{Mem, Store}
use Rattle.sk_model.specs.declared.point.Point.{Point}
use Rattle.sk_model.specs.declared.record.TxKind.{TxKind}
use Rattle.sk_model.specs.declared.record.Said.{Said}
use Rattle.sk_model.specs.declared.record.Record.{Record}
use Rattle.sk_model.specs.declared.record.Ending.{Ending}
use Rattle.sk_model.specs.declared.record.Ending.TheVariants as ending
use Rattle.sk_model.specs.declared.reply.Reply.{Reply}
use Rattle.sk_model.specs.declared.reply.Reply.TheVariants as reply
use Rattle.sk_model.specs.declared.reply.ErrWord.TheVariants as err
use Rattle.sk_model.specs.declared.step.StepName.{StepName}
use Rattle.sk_model.specs.declared.step.StepName.TheVariants.{CloseMem, CloseStore, DrawMem, DrawStore, Check, StampMem, StampStore}
use Rattle.sk_model.specs.declared.call.EngineCall.TheVariants as call
use Rattle.sk_model.specs.declared.call.EngineReply.TheVariants.{Done, Number}
use Rattle.sk_model.specs.Spoken.{is_lost}
use Rattle.sk_model.specs.Records.{is_committed}
use Rattle.sk_model.specs.Talks.{Talk, own, opened, wrote}
use Rattle.sk_model.specs.Asking.{Asked}

-- COMMIT and ROLLBACK
abbrev pub is_end : Statement → Bool
is_end statement.Commit = true
is_end statement.Rollback = true
is_end _ = false

-- no statement of the transaction comes behind this one
abbrev pub is_last : Said → Bool
is_last s = is_lost s.reply || is_end s.statement

-- the calls of these statements, one statement after another, behind the calls that were made before
abbrev pub Converses : List Table → Label → TxKind → Talk → List Said → Talk → Type 0
Converses catalog tx kind before [] talk = talk ≡ []
Converses catalog tx kind before (s ∷ said) talk =
    (first : Talk) × (more : Talk) × (talk ≡ first ++ more) × Asked catalog tx kind before s.statement first s.reply
    × (is_last s ≡ true → said ≡ []) × Converses catalog tx kind (before ++ first) said more

-- the steps of a commit, by the engines that were written
abbrev pub commit_steps : Bool → Bool → List StepName
commit_steps true true = CloseMem ∷ CloseStore ∷ DrawMem ∷ DrawStore ∷ Check ∷ StampMem ∷ StampStore ∷ []
commit_steps true false = CloseMem ∷ DrawMem ∷ StampMem ∷ []
commit_steps false true = CloseStore ∷ DrawStore ∷ StampStore ∷ []
commit_steps false false = []

abbrev pub number_or_none : Option ℕ → ℕ
number_or_none None = 0
number_or_none (Some n) = n

-- what the closes answered and the draws gave
pub record Numbered : Type 0 where
  pub floor_mem : ℕ
  pub floor_store : ℕ
  pub mem : Option ℕ
  pub store : Option ℕ

-- the calls of a step
abbrev pub step_calls : Label → Numbered → StepName → Talk
step_calls tx n CloseMem = own Mem (call.Close tx) (Number n.floor_mem) ∷ []
step_calls tx n CloseStore = own Store (call.Close tx) (Number n.floor_store) ∷ []
step_calls tx n DrawMem = []
step_calls tx n DrawStore = []
step_calls tx n Check = []
step_calls tx n StampMem = own Mem (call.Stamp tx (number_or_none n.mem)) Done ∷ []
step_calls tx n StampStore = own Store (call.Stamp tx (number_or_none n.store)) Done ∷ []

-- the calls of these steps
abbrev pub steps_calls : Label → Numbered → List StepName → Talk
steps_calls tx n [] = []
steps_calls tx n (s ∷ ss) = step_calls tx n s ++ steps_calls tx n ss

-- what ends an opening that no stamp has ended: the number that was drawn is voided, or the transaction is dropped there
abbrev pub leave : Label → EngineName → Option ℕ → Talk
leave tx e None = own e (call.DropTx tx) Done ∷ []
leave tx e (Some n) = own e (call.Void tx n) Done ∷ []

abbrev pub left_by : Label → EngineName → Bool → Option ℕ → Talk
left_by tx e owed drew = cond owed (leave tx e drew) []

abbrev pub is_open : Ending → Bool
is_open ending.Open = true
is_open _ = false

-- an opening has to be ended: that of a transaction that is over, where no stamp ended it
abbrev pub owes : Ending → Option ℕ → Bool → Bool
owes how snapshot written = not (is_open how) && is_some snapshot && not (is_committed how && written)

-- what ends the openings that no stamp ended, the memory engine first
abbrev pub leaves_of : Record → Bool → Bool → Talk
leaves_of r wrote_mem wrote_store =
    left_by r.label Mem (owes r.ending r.mem wrote_mem) r.drew_mem ++ left_by r.label Store (owes r.ending r.store wrote_store) r.drew_store

abbrev pub is_draw_mem : StepName → Bool
is_draw_mem DrawMem = true
is_draw_mem _ = false

abbrev pub is_draw_store : StepName → Bool
is_draw_store DrawStore = true
is_draw_store _ = false

abbrev pub is_check : StepName → Bool
is_check Check = true
is_check _ = false

abbrev pub is_stamp : StepName → Bool
is_stamp StampMem = true
is_stamp StampStore = true
is_stamp _ = false

abbrev pub begins_with : (StepName → Bool) → List StepName → Bool
begins_with is [] = false
begins_with is (s ∷ ss) = is s

-- how a transaction ended that this reply lost
abbrev pub lost_ending : Reply → Ending
lost_ending (reply.Conflict by why) = ending.Conflict
lost_ending (reply.Recycled recycled) = ending.Recycled
lost_ending (reply.Old engine snapshot horizon) = ending.Old
lost_ending (reply.Refused err.Device) = ending.Device
lost_ending _ = ending.NoMemory

-- How far the commit of a transaction came that ended so: these steps were taken, and these were not. One that wrote both engines is
-- committed from its check on, and one that wrote an engine alone by its stamp; until then it is open.
abbrev pub EndsAt : Ending → List StepName → List StepName → Type 0
EndsAt ending.Open taken rest = (list_any is_check taken || list_any is_stamp taken) ≡ false
EndsAt ending.Committed taken rest = (rest ≡ []) ⊎ (list_any is_check taken ≡ true)
EndsAt ending.CheckFailed taken rest = begins_with is_check rest ≡ true
EndsAt ending.Spent taken rest = begins_with (λ s. is_draw_mem s || is_draw_store s) rest ≡ true
EndsAt ending.NoMemory taken rest = (list_any is_draw_mem taken || list_any is_draw_store taken) ≡ false
EndsAt ending.RolledBack taken rest = taken ≡ []
EndsAt ending.Conflict taken rest = taken ≡ []
EndsAt ending.Recycled taken rest = taken ≡ []
EndsAt ending.Old taken rest = taken ≡ []
EndsAt ending.Device taken rest = taken ≡ []

-- the points that a transaction appended: the selection of its anchor with some number, where one was made, and its commit point, where its check passed
abbrev pub selection_made : Option ℕ → List Point → Type 0
selection_made mem [] = Unit {0}
selection_made mem (p ∷ ps) = (ps ≡ []) × (p.commit ≡ false) × (mem ≡ Some p.a)

abbrev pub commit_made : Numbered → List StepName → List Point
commit_made n taken = cond (list_any is_check taken) (record { a = number_or_none n.mem; b = number_or_none n.store; commit = true } ∷ []) []

-- COMMIT is answered by how the transaction ended, and so is ROLLBACK
abbrev pub CommitReply : Record → Ending → Reply → Type 0
CommitReply r ending.Committed said = said ≡ reply.Committed
CommitReply r ending.CheckFailed said = (point : Point) × (said ≡ reply.CheckFailed point (number_or_none r.drew_mem) (number_or_none r.drew_store))
CommitReply r ending.Spent said = (e : EngineName) × (said ≡ reply.Spent e)
CommitReply r ending.NoMemory said = said ≡ reply.Refused err.Memory
CommitReply r _ said = ⊥

abbrev pub EndReplyTo : Record → Reply → Statement → Type 0
EndReplyTo r said statement.Commit = CommitReply r r.ending said
EndReplyTo r said statement.Rollback = (r.ending ≡ ending.RolledBack) × (said ≡ reply.RolledBack)
EndReplyTo r said _ = Unit {0}

abbrev pub EndReply : Record → Said → Type 0
EndReply r s = EndReplyTo r s.reply s.statement

-- a refusal of a commit
abbrev pub refuses_commit : Reply → Bool
refuses_commit (reply.CheckFailed point mem store) = true
refuses_commit (reply.Spent e) = true
refuses_commit (reply.Refused err.Memory) = true
refuses_commit _ = false

-- the one statement of a transaction outside BEGIN had a reply of its own, and then its commit was refused, which is what it was answered
pub record Outdone (r : Record) (heard : List Said) : Type 0 where
  pub statement : Statement
  pub own : Reply
  pub refusal : Reply
  pub heard_is : heard ≡ record { statement = statement; reply = own } ∷ []
  pub said_is : r.said ≡ record { statement = statement; reply = refusal } ∷ []
  pub refuses : refuses_commit refusal ≡ true
  pub failed : is_committed r.ending ≡ false

-- A record's engine calls are those that its statements and the steps of its commit make, and its replies are what the replies to these
-- calls and its points give. Calls that were refused for memory are left out.
pub record Talks (catalog : List Table) (r : Record) (talk : Talk) : Type 0 where
  -- its statements with the replies that they came to by themselves, and their calls
  pub heard : List Said
  pub spoken : Talk
  -- the steps that its commit took, and those that it did not take
  pub taken : List StepName
  pub rest : List StepName
  pub numbered : Numbered
  pub talk_is : talk ≡ spoken ++ (steps_calls r.label numbered taken ++ leaves_of r (wrote Mem spoken) (wrote Store spoken))
  pub said : (r.said ≡ heard) ⊎ Outdone r heard
  pub asked : Converses catalog r.label r.kind [] heard spoken
  pub mem : r.mem ≡ opened Mem spoken
  pub store : r.store ≡ opened Store spoken
  pub steps : commit_steps (wrote Mem spoken) (wrote Store spoken) ≡ taken ++ rest
  pub drew_mem : r.drew_mem ≡ numbered.mem
  pub drew_store : r.drew_store ≡ numbered.store
  pub mem_drawn : is_some r.drew_mem ≡ list_any is_draw_mem taken
  pub store_drawn : is_some r.drew_store ≡ list_any is_draw_store taken
  pub past_mem : IfSome r.drew_mem (λ n. numbered.floor_mem < n)
  pub past_store : IfSome r.drew_store (λ n. numbered.floor_store < n)
  pub selected : List Point
  pub selection : selection_made r.mem selected
  pub made : r.made ≡ selected ++ commit_made numbered taken
  pub ends : EndsAt r.ending taken rest
  pub replies : AllByRecursion (EndReply r) r.said
  pub lost : AllByRecursion (λ (s : Said). is_lost s.reply ≡ true → r.ending ≡ lost_ending s.reply) r.said
