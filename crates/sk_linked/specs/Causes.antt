-- What caused each refusal of a record, in the journals, the points and the transactions of its run.
use Rattle.std.specs.Prelude.{◌≡◌, ℕ, ◌<◌, ◌≤◌, ◌+◌, ◌-◌, ◌*◌, List, ◌∷◌, ◌++◌, Option, Some, None, Err, true, false, ◌&&◌, ◌⊎◌, length, get_or}
use Rattle.std.specs.List.{AllByRecursion}
use Rattle.sk_rows.specs.declared.value.Value.{Value}
use Rattle.sk_rows.specs.Values.{value_cmp}
use Rattle.sk_model.specs.declared.label.Label.{Label}
use Rattle.sk_model.specs.declared.engine.EngineName.{EngineName}
use Rattle.sk_model.specs.declared.point.Point.{Point}
use Rattle.sk_model.specs.declared.reply.Why.{Why}
use Rattle.sk_model.specs.declared.reply.Why.TheVariants as why
use Rattle.sk_model.specs.declared.reply.Reply.{Reply}
use Rattle.sk_model.specs.declared.reply.Reply.TheVariants as reply
use Rattle.sk_model.specs.declared.record.Record.{Record}
use Rattle.sk_model.specs.declared.record.Said.{Said}
use Rattle.sk_model.specs.declared.call.EngineCall.{EngineCall}
use Rattle.sk_model.specs.declared.call.EngineCall.TheVariants as call
use Rattle.sk_model.specs.declared.call.EngineFault.{EngineFault}
use Rattle.sk_model.specs.declared.call.EngineFault.TheVariants as fault
use Rattle.sk_model.specs.declared.call.EngineReply.TheVariants.{Fault}
use Rattle.sk_model.specs.declared.call.Entry.{Entry}
use Rattle.sk_model.specs.Database.{RowOf}
use Rattle.sk_model.specs.Records.{same_label}
use Rattle.sk_model.specs.Numbers.{greatest_number}
use Rattle.sk_model.specs.Engine.{Open, Closed, Stamped, Version, EngineTable, is_undecided, is_stamped, is_of, snapshot_of}
use Rattle.sk_model.specs.EngineReplies.{is_less}
use Rattle.sk_model.specs.Legal.{after_entries}
use Rattle.sk_model.specs.Asking.{read_call}
use Rattle.sk_model.specs.RecordTalks.{Talks}
use Rattle.sk_weave.specs.declared.answer.DrawFault.TheVariants.{Spent}
use Rattle.sk_weave.specs.Registry.{Regs, no_point, selected, drawn, checked, IsSound}
use Rattle.sk_linked.specs.Reads.{number_at, first_table}
use Rattle.sk_linked.specs.Traces.{drawn_at, Transaction, Traces, run_of, In, IsAtHorizons, Linked}
use Rattle.sk_linked.specs.State.{counter}
use Rattle.sk_linked.specs.Recorded.{HasTalk}

-- ---- what a call met in an engine

-- the entry of a call that was refused, and what stands before it in the journal
pub record Met (h : Traces) (name : EngineName) (asked : EngineCall) (f : EngineFault) : Type 0 where
  pub before : List Entry
  pub after : List Entry
  pub is : h.journals name ≡ before ++ record { call = asked; reply = Fault f } ∷ after

-- the engine's table when the call was made
abbrev pub table_met : (h : Traces) (name : EngineName) (asked : EngineCall) (f : EngineFault) → Met h name asked f → EngineTable
table_met h name asked f m = after_entries (first_table (run_of h) name) m.before

-- another transaction's version of the row
pub record Rival (e : EngineTable) (tx : Label) (t : ℕ) (key : Value) (by : Label) : Type 0 where
  pub version : Version
  pub among : In version e.versions
  pub row : is_of t key version ≡ true
  pub author : version.by ≡ by
  pub apart : same_label tx by ≡ false

-- the newest stamped version of the row, with its number
pub record Newest (e : EngineTable) (t : ℕ) (key : Value) (by : Label) (n : ℕ) : Type 0 where
  pub version : Version
  pub older : List Version
  pub newer : List Version
  pub is : e.versions ≡ older ++ version ∷ newer
  pub row : is_of t key version ≡ true
  pub author : version.by ≡ by
  pub number : version.standing ≡ Stamped n
  pub last : AllByRecursion (λ (v : Version). (is_of t key v && is_stamped v.standing) ≡ false) newer

-- no version of the row by another transaction is open or closed
abbrev pub NoneUndecided : EngineTable → Label → ℕ → Value → Type 0
NoneUndecided e tx t key = AllByRecursion (λ (v : Version). is_of t key v ≡ true → same_label tx v.by ≡ false → is_undecided v.standing ≡ false) e.versions

-- What is in the way of a write: an open or a closed version of another transaction; or, where none stands so, the newest stamped one,
-- with a number past the writer's snapshot.
abbrev pub InTheWay : EngineTable → Label → ℕ → Value → Label → Why → Type 0
InTheWay e tx t key by why.Open = (r : Rival e tx t key by) × (r.version.standing ≡ Open)
InTheWay e tx t key by why.Closed = (r : Rival e tx t key by) × (floor : ℕ) × (r.version.standing ≡ Closed floor)
InTheWay e tx t key by (why.Past n s) = NoneUndecided e tx t key × Newest e t key by n × (snapshot_of e tx ≡ s) × (s < n)

-- the key is the one that is read, where one is
abbrev pub IsRead : Option Value → Version → Type 0
IsRead None v = Unit {0}
IsRead (Some key) v = v.write.key ≡ key

-- closed by another transaction with a floor below the reader's snapshot
pub record Holds (e : EngineTable) (tx : Label) (t : ℕ) (v : Version) : Type 0 where
  pub table : v.write.table ≡ t
  pub apart : same_label tx v.by ≡ false
  pub floor : ℕ
  pub closed : v.standing ≡ Closed floor
  pub below : floor < snapshot_of e tx

-- What a read waits for: such a version by this transaction, at the first key that is read and has one.
pub record Blocks (e : EngineTable) (tx : Label) (t : ℕ) (key : Option Value) (by : Label) : Type 0 where
  pub version : Version
  pub among : In version e.versions
  pub read : IsRead key version
  pub holds : Holds e tx t version
  pub author : version.by ≡ by
  pub first : (v : Version) → In v e.versions → IsRead key v → Holds e tx t v → is_less (value_cmp v.write.key version.write.key) ≡ false

-- ---- what a commit or a selection met in the registry

-- another transaction's point, or a flush's
abbrev pub MadeByOther : Traces → Record → Point → Type 0
MadeByOther h r q = ((u : Transaction) × In u h.transactions × In q u.made × (same_label r.label u.label ≡ false)) ⊎ IsAtHorizons h.journals q

-- some transaction drew the number
pub record Drawer (h : Traces) (name : EngineName) (n : ℕ) : Type 0 where
  pub who : Transaction
  pub among : In who h.transactions
  pub drew : drawn_at name who.drew ≡ Some n

abbrev pub points_of : Traces → List Point
points_of h = h.first ∷ h.points

-- The measures of a registry's ring: how many partitions, and how many points in each.
pub record Ring : Type 0 where
  pub partitions : ℕ
  pub size : ℕ

-- The oldest point is the first of a partition behind the first one, and was made so long ago that all of the ring but one partition was filled behind it.
pub record IsPassed (points : List Point) (ring : Ring) (q : Point) : Type 0 where
  pub partition : ℕ
  pub given_up : 0 < partition
  pub is : get_or points (partition * ring.size) no_point ≡ q
  pub filled : partition * ring.size + (ring.partitions - 1) * ring.size ≤ length points

-- ---- the causes

-- What caused a reply of a record. The words that the database itself decides are `Explained`; want of memory and a fault of a device have no cause here.
abbrev pub Caused : Traces → Ring → Record → Reply → Type 0
Caused h ring r (reply.Conflict by reason) =
    (name : EngineName) × (t : ℕ) × (key : Value) × (row : Option RowOf) × (m : Met h name (call.Put r.label t key row) (fault.Conflict by reason))
    × InTheWay (table_met h name (call.Put r.label t key row) (fault.Conflict by reason) m) r.label t key by reason
Caused h ring r (reply.Busy by) =
    (name : EngineName) × (t : ℕ) × (key : Option Value) × (m : Met h name (read_call r.label t key) (fault.Busy by))
    × Blocks (table_met h name (read_call r.label t key) (fault.Busy by) m) r.label t key by
Caused h ring r (reply.Old name s purged) =
    (m : Met h name (call.Open r.label s) (fault.Old s purged)) × ((table_met h name (call.Open r.label s) (fault.Old s purged) m).purged ≡ purged) × (s < purged)
Caused h ring r (reply.CheckFailed q ca cb) = (r.drew_mem ≡ Some ca) × (r.drew_store ≡ Some cb) × ((ca ≤ q.a) ⊎ (cb ≤ q.b)) × In q (points_of h) × MadeByOther h r q
Caused h ring r (reply.Recycled e) = (r.mem ≡ Some e.a) × (e.a < e.oldest.a) × IsPassed (points_of h) ring e.oldest
Caused h ring r (reply.Spent name) = (number_at name h.first ≡ greatest_number) ⊎ Drawer h name greatest_number
Caused h ring r _ = Unit {0}

-- ---- what the registry answered

-- A state of the registry within the run: its points are the first ones of the run, and each number up to its counters was drawn by a transaction of the run.
pub record IsStateOf (h : Traces) (ring : Ring) (regs : Regs) : Type 0 where
  pub sound : IsSound regs
  pub partitions : regs.partitions ≡ ring.partitions
  pub size : regs.size ≡ ring.size
  pub more : List Point
  pub points : points_of h ≡ regs.points ++ more
  pub drawn : (name : EngineName) (n : ℕ) → number_at name h.first < n → n ≤ counter name regs → Drawer h name n
  pub counters : (name : EngineName) → number_at name h.first ≤ counter name regs

-- of its own it made no point but its selection, at the snapshots of both engines
abbrev pub MadeSelection : Record → Type 0
MadeSelection r = AllByRecursion (λ (q : Point). (q.commit ≡ false) × (r.mem ≡ Some q.a) × (r.store ≡ Some q.b)) r.made

-- a refusal of a registry is what it answered in some state of the run
abbrev pub RegistrySaid : Traces → Ring → Record → Reply → Type 0
RegistrySaid h ring r (reply.CheckFailed q ca cb) =
    (regs : Regs) × IsStateOf h ring regs × (checked regs ca cb ≡ Err (record { point = q })) × (r.drew_mem ≡ Some ca) × (r.drew_store ≡ Some cb) × MadeSelection r
RegistrySaid h ring r (reply.Recycled e) = (regs : Regs) × IsStateOf h ring regs × (now : ℕ) × (selected regs e.a now ≡ Err e)
RegistrySaid h ring r (reply.Spent name) = (regs : Regs) × IsStateOf h ring regs × (floor : ℕ) × (drawn (counter name regs) floor ≡ Err Spent)
RegistrySaid h ring r _ = Unit {0}

-- each reply of a record has its cause, where the registry answered what it refused
abbrev pub HasCauses : Traces → Ring → Record → Type 0
HasCauses h ring r = AllByRecursion (λ (s : Said). RegistrySaid h ring r s.reply → Caused h ring r s.reply) r.said

-- In linked traces each refusal of a record has its cause.
abbrev pub RefusalsAreCaused : Type 0
RefusalsAreCaused = (h : Traces) (ring : Ring) (t : Transaction) (r : Record) → Linked h → In t h.transactions → HasTalk t r → t.made ≡ r.made → Talks h.catalog r t.talk → HasCauses h ring r
