-- What a registry refused, as the records of a session say it: where a record says such a refusal, the registry was asked so and refused it.
use Rattle.std.specs.Prelude.{◌≡◌, ℕ, Option, Some, Bool, true, false, List}
use Rattle.std.specs.List.{AllByRecursion}
use Rattle.sk_model.specs.declared.engine.EngineName.{EngineName}
use Rattle.sk_model.specs.declared.engine.EngineName.TheVariants.{Mem, Store}
use Rattle.sk_model.specs.declared.point.Point.{Point}
use Rattle.sk_model.specs.declared.record.Record.{Record}
use Rattle.sk_model.specs.declared.record.Said.{Said}
use Rattle.sk_model.specs.declared.reply.Reply.{Reply}
use Rattle.sk_model.specs.declared.reply.Reply.TheVariants as reply
use Rattle.sk_model.specs.declared.step.StepName.{StepName}
use Rattle.sk_model.specs.declared.step.StepName.TheVariants.{CloseMem, CloseStore, DrawMem, DrawStore, Check, StampMem, StampStore}
use Rattle.sk_weave.specs.declared.answer.DrawFault.TheVariants.{Spent}
use Rattle.sk_commit.specs.declared.asking.RegistryCall.{RegistryCall}
use Rattle.sk_commit.specs.declared.asking.RegistryCall.TheVariants as reg
use Rattle.sk_commit.specs.declared.asking.RegistryReply.TheVariants as told
use Rattle.sk_commit.specs.declared.asking.Wish.{Wish}
use Rattle.sk_commit.specs.declared.asking.Wish.TheVariants as wish
use Rattle.sk_commit.specs.declared.asking.Got.{Got}
use Rattle.sk_commit.specs.declared.asking.Got.TheVariants as given
use Rattle.sk_commit.specs.declared.committing.CommitEnd.{CommitEnd}
use Rattle.sk_commit.specs.declared.committing.CommitEnd.TheVariants as end
use Rattle.sk_commit.specs.declared.committing.Stage.{Stage}
use Rattle.sk_commit.specs.declared.committing.Stage.TheVariants as stage
use Rattle.sk_session.specs.declared.live.Live.{Live}
use Rattle.sk_session.specs.declared.live.Job.{Job}
use Rattle.sk_session.specs.declared.live.Job.TheVariants as job
use Rattle.sk_session.specs.declared.live.At.{At}
use Rattle.sk_session.specs.declared.live.At.TheVariants as at
use Rattle.sk_session.specs.declared.session.Session.{Session}
use Rattle.sk_session.specs.Moving.{wished}

-- the replies that a registry's refusal makes
abbrev pub is_denial : Reply → Bool
is_denial (reply.CheckFailed point mem store) = true
is_denial (reply.Recycled e) = true
is_denial (reply.Spent engine) = true
is_denial _ = false

-- of its own the transaction made no point but its selection, at the snapshots of both engines
abbrev pub SelectedOnly : Record → Type 0
SelectedOnly r = AllByRecursion (λ (q : Point). (q.commit ≡ false) × (r.mem ≡ Some q.a) × (r.store ≡ Some q.b)) r.made

abbrev pub draw_call : EngineName → ℕ → RegistryCall
draw_call Mem floor = reg.DrawMem floor
draw_call Store floor = reg.DrawStore floor

-- ---- a transaction that is live

-- no reply that it had so far is such a refusal
abbrev pub SaidPlain : Live → Type 0
SaidPlain live = AllByRecursion (λ (s : Said). is_denial s.reply ≡ false) live.said

-- the selection that it made is at the snapshots of both engines, or will be once the storage engine is opened at n
abbrev pub Chosen : Live → Type 0
Chosen live = (p : Point) → live.selected ≡ Some p → (p.commit ≡ false) × (live.mem ≡ Some p.a) × (live.store ≡ Some p.b)

abbrev pub Choosing : Live → ℕ → Type 0
Choosing live n = (p : Point) → live.selected ≡ Some p → (p.commit ≡ false) × (live.mem ≡ Some p.a) × (n ≡ p.b)

-- it was refused nothing by the registry, and has not passed its check
pub record IsPlain (live : Live) : Type 0 where
  pub said : SaidPlain live
  pub chosen : Chosen live
  pub unpassed : live.passed ≡ false

abbrev pub OpenPlain : Live → EngineName → ℕ → Type 0
OpenPlain live Mem n = Unit {0}
OpenPlain live Store n = Choosing live n

abbrev pub OwnPlain : Option Reply → Type 0
OwnPlain (Some own) = is_denial own ≡ false
OwnPlain _ = Unit {0}

-- the steps up to the check
abbrev pub is_unchecked : StepName → Bool
is_unchecked StampMem = false
is_unchecked StampStore = false
is_unchecked _ = true

module _ (Heard : Wish → Got → Type 0) where
  -- ---- a record

  -- The reply of a record, where it is a refusal of the registry, is what the registry answered, by what was heard of it: of a check of the numbers
  -- that the transaction drew, and which made no point but its selection; of a selection; of a draw.
  abbrev pub Denied : Record → Reply → Type 0
  Denied r (reply.CheckFailed q ca cb) = Heard (wish.Reg (reg.Check ca cb)) (given.Reg (told.Passed (record { point = q }))) × (r.drew_mem ≡ Some ca) × (r.drew_store ≡ Some cb) × SelectedOnly r
  Denied r (reply.Recycled e) = Heard (wish.Reg (reg.Select e.a)) (given.Reg (told.Recycled e))
  Denied r (reply.Spent engine) = (floor : ℕ) × Heard (wish.Reg (draw_call engine floor)) (given.Reg (told.NotDrawn Spent))
  Denied r _ = Unit {0}

  abbrev pub RecordDenied : Record → Type 0
  RecordDenied r = AllByRecursion (λ (s : Said). Denied r s.reply) r.said

  -- ---- what a live transaction waits for

  -- the reply with which it is lost, or its commit is refused
  abbrev pub ReplyDenied : Live → Reply → Type 0
  ReplyDenied live (reply.CheckFailed q ca cb) =
      Heard (wish.Reg (reg.Check ca cb)) (given.Reg (told.Passed (record { point = q }))) × (live.drew_mem ≡ Some ca) × (live.drew_store ≡ Some cb) × (live.passed ≡ false) × Chosen live
  ReplyDenied live (reply.Recycled e) = Heard (wish.Reg (reg.Select e.a)) (given.Reg (told.Recycled e))
  ReplyDenied live (reply.Spent engine) = (floor : ℕ) × Heard (wish.Reg (draw_call engine floor)) (given.Reg (told.NotDrawn Spent))
  ReplyDenied live _ = Unit {0}

  abbrev pub EndDenied : Live → CommitEnd → Type 0
  EndDenied live (end.Committed mem store) = Unit {0}
  EndDenied live (end.CheckFailed q ca cb) = ReplyDenied live (reply.CheckFailed q ca cb)
  EndDenied live (end.Spent engine mem) = ReplyDenied live (reply.Spent engine)
  EndDenied live end.NoMemory = Unit {0}

  abbrev pub StageDenied : Live → Stage → Type 0
  StageDenied live (stage.Step s) = is_unchecked s ≡ true → live.passed ≡ false
  StageDenied live (stage.Leave refused engine how) = EndDenied live how

  abbrev pub JobDenied : Live → Job → Type 0
  JobDenied live job.Count = SaidPlain live × (live.passed ≡ false)
  JobDenied live (job.Open e n) = SaidPlain live × (live.passed ≡ false) × OpenPlain live e n
  JobDenied live job.Select = SaidPlain live × (live.passed ≡ false)
  JobDenied live (job.Read e t key) = IsPlain live
  JobDenied live (job.Put e writes done r) = IsPlain live × (is_denial r ≡ false)
  JobDenied live (job.Commit c whole own) = SaidPlain live × Chosen live × OwnPlain own × StageDenied live c.stage
  JobDenied live (job.Leave e how r lost) = SaidPlain live × ReplyDenied live r

  abbrev pub AtDenied : At → Type 0
  AtDenied (at.Inside live) = IsPlain live
  AtDenied (at.Stepping live c) = SaidPlain live × Chosen live × StageDenied live c.stage
  AtDenied (at.Asking live doing) = JobDenied live doing
  AtDenied _ = Unit {0}

  -- what the records of a session say that the registry refused, it refused; and so it will be of its live transaction
  pub record SessionDenied (s : Session) : Type 0 where
    pub records : AllByRecursion RecordDenied s.records
    pub live : AtDenied s.at

  -- the answer to what is waited for was heard
  abbrev pub HeardAt : At → Got → Type 0
  HeardAt (at.Asking live doing) got = Heard (wished live doing) got
  HeardAt _ got = ⊥
