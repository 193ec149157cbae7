-- Refusals of the registry in the replies of a live transaction, and in how its commit ends.
use Rattle.std.specs.Prelude.{◌≡◌, ℕ, ◌+◌, List, [], ◌∷◌, ◌++◌, length, map, Option, Some, None, IfSome, Bool, true, false, not, if◌then◌else◌, Result, Ok, Err}
use Rattle.std.specs.List.{list_all}
use Rattle.std.proofs.Common.{refl, sym, subst}
use Rattle.std.proofs.lemmas.Bool.{false≢true}
use Rattle.sk_rows.specs.declared.table.Table.{Table}
use Rattle.sk_rows.specs.declared.table.Column.{Column}
use Rattle.sk_rows.specs.declared.value.Value.{Value}
use Rattle.sk_rows.specs.declared.faults.ValueFault.{ValueFault}
use Rattle.sk_rows.specs.Evaluation.{◌>>=◌}
use Rattle.sk_rows.specs.declared.statement.Statement.{Statement}
use Rattle.sk_rows.specs.declared.statement.Statement.TheVariants as statement
use Rattle.sk_model.specs.declared.engine.EngineName.{EngineName}
use Rattle.sk_model.specs.declared.engine.EngineName.TheVariants.{Mem, Store}
use Rattle.sk_model.specs.declared.point.Point.{Point}
use Rattle.sk_model.specs.declared.record.Record.{Record}
use Rattle.sk_model.specs.declared.record.Said.{Said}
use Rattle.sk_model.specs.declared.record.Ending.{Ending}
use Rattle.sk_model.specs.declared.reply.ErrWord.TheVariants as err
use Rattle.sk_model.specs.declared.reply.Reply.{Reply}
use Rattle.sk_model.specs.declared.reply.Reply.TheVariants as reply
use Rattle.sk_model.specs.declared.step.StepName.{StepName}
use Rattle.sk_model.specs.declared.step.StepName.TheVariants.{CloseMem, CloseStore, DrawMem, DrawStore, Check, StampMem, StampStore}
use Rattle.sk_model.specs.declared.call.EngineFault.{EngineFault}
use Rattle.sk_model.specs.declared.call.EngineFault.TheVariants as fault
use Rattle.sk_model.specs.declared.call.EngineReply.TheVariants as answer
use Rattle.sk_model.specs.Database.{KeyedRows}
use Rattle.sk_model.specs.Names.{columns_at}
use Rattle.sk_model.specs.Reads.{rows_met}
use Rattle.sk_model.specs.Changes.{new_rows}
use Rattle.sk_model.specs.Asking.{table_named, fault_reply}
use Rattle.sk_model.specs.RecordTalks.{number_or_none}
use Rattle.sk_model.specs.Replies.{Answer, refused, has_room, key_of, row_put, inserted, select_answer, updated, deleted, comes_to}
use Rattle.sk_model.proofs.Lists.{Each, each_append, each_weaker}
use Rattle.sk_weave.specs.declared.answer.DrawFault.TheVariants.{Spent, Early as TooEarly}
use Rattle.sk_commit.specs.declared.asking.RegistryReply.TheVariants as told
use Rattle.sk_commit.specs.declared.asking.Wish.{Wish}
use Rattle.sk_commit.specs.declared.asking.Got.{Got}
use Rattle.sk_commit.specs.declared.asking.Got.TheVariants as given
use Rattle.sk_commit.specs.declared.committing.Used.{Used}
use Rattle.sk_commit.specs.declared.committing.CommitEnd.{CommitEnd}
use Rattle.sk_commit.specs.declared.committing.CommitEnd.TheVariants as end
use Rattle.sk_commit.specs.declared.committing.Stage.{Stage}
use Rattle.sk_commit.specs.declared.committing.Stage.TheVariants as stage
use Rattle.sk_commit.specs.declared.committing.Committing.{Committing}
use Rattle.sk_commit.specs.declared.committing.Stepped.TheVariants.{Went, Early, Ended}
use Rattle.sk_commit.specs.declared.committing.Taken.{Taken}
use Rattle.sk_commit.specs.declared.committing.Taken.TheVariants as outcome
use Rattle.sk_commit.specs.Fits.{WishFits}
use Rattle.sk_commit.specs.Committing.{next_step, owes_mem, owes_store, leave_store, ended, goes_on, taken_at, taken, wish_in, wish_of, first_stage}
use Rattle.sk_session.specs.Kept.{listed, said_maybe}
use Rattle.sk_session.specs.declared.live.Live.{Live}
use Rattle.sk_session.specs.Moving.{said_now, passed_at, record_with, record_of, record_now, end_reply, stepped, answer_in, answer_now}
use Rattle.sk_session.specs.Denied.{is_denial, SelectedOnly, Denied, RecordDenied, SaidPlain, Chosen, ReplyDenied, EndDenied, is_unchecked, StageDenied, OwnPlain}

-- ---- what a statement comes to is no refusal of the registry

abbrev pub PlainAnswer : Answer → Type 0
PlainAnswer a = is_denial a.0 ≡ false

of_two : (b : Bool) (x y : Answer) → PlainAnswer x → PlainAnswer y → PlainAnswer (if b then x else y)
of_two true x y g h = g
of_two false x y g h = h

inserted_plain : (t : ℕ) (values : List Value) (rows : KeyedRows) → PlainAnswer (inserted t values rows)
inserted_plain t values [] = of_two (has_room values) (reply.Count 1, row_put t (key_of values, values) ∷ []) (refused err.Size) refl refl
inserted_plain t values (r ∷ rows) = refl

shown_plain : (columns : List Column) (names : Option (List (List ℕ))) (r : Result KeyedRows ValueFault) → PlainAnswer (select_answer columns names r)
shown_plain columns names (Err fault) = refl
shown_plain columns names (Ok rows) = refl

updated_plain : (t : ℕ) (r : Result KeyedRows ValueFault) → PlainAnswer (updated t r)
updated_plain t (Err fault) = refl
updated_plain t (Ok rows) = of_two (list_all (λ r. has_room r.1) rows) (reply.Count (length rows), map (row_put t) rows) (refused err.Size) refl refl

deleted_plain : (t : ℕ) (r : Result KeyedRows ValueFault) → PlainAnswer (deleted t r)
deleted_plain t (Err fault) = refl
deleted_plain t (Ok rows) = refl

comes_plain : (columns : List Column) (t : ℕ) (s : Statement) (rows : KeyedRows) → PlainAnswer (comes_to columns t s rows)
comes_plain columns t (statement.Begin begun) rows = refl
comes_plain columns t statement.Commit rows = refl
comes_plain columns t statement.Rollback rows = refl
comes_plain columns t (statement.Insert table values) rows = inserted_plain t values rows
comes_plain columns t (statement.Select table names e) rows = shown_plain columns names (rows_met columns e rows)
comes_plain columns t (statement.Update table sets e) rows = updated_plain t (rows_met columns e rows >>= new_rows columns sets)
comes_plain columns t (statement.Delete table e) rows = deleted_plain t (rows_met columns e rows)

pub answer_plain : (catalog : List Table) (o : Option Statement) (rows : KeyedRows) → IfSome (answer_now catalog o rows) PlainAnswer
answer_plain catalog None rows = tt
answer_plain catalog (Some s) rows = in_table (table_named catalog s)
  where
    in_table : (t : Option ℕ) → IfSome (answer_in catalog s rows t) PlainAnswer
    in_table None = tt
    in_table (Some t) = comes_plain (columns_at catalog t) t s rows

pub fault_plain : (e : EngineName) (f : EngineFault) → is_denial (fault_reply e f) ≡ false
fault_plain e (fault.Old snapshot horizon) = refl
fault_plain e (fault.Busy by) = refl
fault_plain e (fault.Conflict by why) = refl
fault_plain e fault.Device = refl
fault_plain e fault.NoMemory = refl

module _ (Heard : Wish → Got → Type 0) where
  -- ---- replies

  plain_denied : (r : Record) (said : Reply) → is_denial said ≡ false → Denied Heard r said
  plain_denied r (reply.CheckFailed q ca cb) e = absurd (false≢true (sym e))
  plain_denied r (reply.Recycled x) e = absurd (false≢true (sym e))
  plain_denied r (reply.Spent engine) e = absurd (false≢true (sym e))
  plain_denied r (reply.Conflict by why) e = tt
  plain_denied r (reply.Busy by) e = tt
  plain_denied r (reply.Old engine s n) e = tt
  plain_denied r (reply.Began label) e = tt
  plain_denied r (reply.Count n) e = tt
  plain_denied r (reply.Rows rows) e = tt
  plain_denied r reply.Committed e = tt
  plain_denied r reply.RolledBack e = tt
  plain_denied r (reply.Step s n) e = tt
  plain_denied r (reply.Refused word) e = tt

  pub plain_reply : (live : Live) (said : Reply) → is_denial said ≡ false → ReplyDenied Heard live said
  plain_reply live (reply.CheckFailed q ca cb) e = absurd (false≢true (sym e))
  plain_reply live (reply.Recycled x) e = absurd (false≢true (sym e))
  plain_reply live (reply.Spent engine) e = absurd (false≢true (sym e))
  plain_reply live (reply.Conflict by why) e = tt
  plain_reply live (reply.Busy by) e = tt
  plain_reply live (reply.Old engine s n) e = tt
  plain_reply live (reply.Began label) e = tt
  plain_reply live (reply.Count n) e = tt
  plain_reply live (reply.Rows rows) e = tt
  plain_reply live reply.Committed e = tt
  plain_reply live reply.RolledBack e = tt
  plain_reply live (reply.Step s n) e = tt
  plain_reply live (reply.Refused word) e = tt

  -- where the check has not passed, the transaction made no point but its selection
  selection_only : (live : Live) (how : Ending) (last : Option Said) → live.passed ≡ false → Chosen live → SelectedOnly (record_with live how last)
  selection_only live how last unpassed chosen = go live.selected refl live.passed unpassed
    where
      go : (o : Option Point) → live.selected ≡ o → (b : Bool) → b ≡ false → Each (λ (q : Point). (q.commit ≡ false) × (live.mem ≡ Some q.a) × (live.store ≡ Some q.b)) (listed o ++ listed (passed_at b live.drew_mem live.drew_store))
      go None e false f = tt
      go (Some p) e false f = (chosen p e, tt)
      go o e true f = absurd (false≢true (sym f))

  reply_denied : (live : Live) (how : Ending) (last : Option Said) (r : Reply) → ReplyDenied Heard live r → Denied Heard (record_with live how last) r
  reply_denied live how last (reply.CheckFailed q ca cb) d = (d.0, d.1, d.2, selection_only live how last d.3 d.4)
  reply_denied live how last (reply.Recycled x) d = d
  reply_denied live how last (reply.Spent engine) d = d
  reply_denied live how last (reply.Conflict by why) d = tt
  reply_denied live how last (reply.Busy by) d = tt
  reply_denied live how last (reply.Old engine s n) d = tt
  reply_denied live how last (reply.Began label) d = tt
  reply_denied live how last (reply.Count n) d = tt
  reply_denied live how last (reply.Rows rows) d = tt
  reply_denied live how last reply.Committed d = tt
  reply_denied live how last reply.RolledBack d = tt
  reply_denied live how last (reply.Step s n) d = tt
  reply_denied live how last (reply.Refused word) d = tt

  -- the record of a live transaction between two lines
  pub now_denied : (live : Live) → SaidPlain live → RecordDenied Heard (record_now live)
  now_denied live said =
      let r : Record = record_now live in
      each_append (λ (s : Said). Denied Heard r s.reply) live.said [] (each_weaker (λ (s : Said). is_denial s.reply ≡ false) (λ (s : Said). Denied Heard r s.reply) (λ s e. plain_denied r s.reply e) live.said said) tt

  -- and where it ends
  pub record_denied : (live : Live) (how : Ending) (r : Reply) → SaidPlain live → ReplyDenied Heard live r → RecordDenied Heard (record_of live how r)
  record_denied live how r said d =
      let x : Record = record_of live how r in
      each_append (λ (s : Said). Denied Heard x s.reply) live.said (said_maybe (said_now live.statement r))
      (each_weaker (λ (s : Said). is_denial s.reply ≡ false) (λ (s : Said). Denied Heard x s.reply) (λ s e. plain_denied x s.reply e) live.said said) (last live.statement)
    where
      last : (o : Option Statement) → Each (λ (s : Said). Denied Heard (record_of live how r) s.reply) (said_maybe (said_now o r))
      last None = tt
      last (Some s) = (reply_denied live how (said_now live.statement r) r d, tt)

  -- ---- a commit

  pub end_reply_denied : (live : Live) (how : CommitEnd) (own : Option Reply) → OwnPlain own → EndDenied Heard live how → ReplyDenied Heard live (end_reply how own)
  end_reply_denied live (end.Committed mem store) None o d = tt
  end_reply_denied live (end.Committed mem store) (Some own) o d = plain_reply live own o
  end_reply_denied live (end.CheckFailed q ca cb) own o d = d
  end_reply_denied live (end.Spent engine mem) own o d = d
  end_reply_denied live end.NoMemory own o d = tt

  -- what an answer to a call of a commit comes to
  abbrev pub TakenDenied : Live → Taken → Type 0
  TakenDenied live (outcome.More c) = StageDenied Heard live c.stage
  TakenDenied live (outcome.Step (Went c name n)) = StageDenied Heard (stepped live name n) c.stage
  TakenDenied live (outcome.Step (Early c floor counter)) = StageDenied Heard live c.stage
  TakenDenied live (outcome.Step (Ended how)) = EndDenied Heard live how

  leave_store_denied : (live : Live) (c : Committing) (refused : Option StepName) (how : CommitEnd) → EndDenied Heard live how → TakenDenied live (leave_store c refused how)
  leave_store_denied live c refused how d = by (owes_store c.used how)
    where
      by : (b : Bool) → TakenDenied live (if b then outcome.More (record c { stage = stage.Leave refused Store how }) else outcome.Step (Ended how))
      by true = d
      by false = d

  ended_denied : (live : Live) (c : Committing) (refused : Option StepName) (how : CommitEnd) → EndDenied Heard live how → TakenDenied live (ended c refused how)
  ended_denied live c refused how d = by (owes_mem c.used how)
    where
      by : (b : Bool) → TakenDenied live (if b then outcome.More (record c { stage = stage.Leave refused Mem how }) else leave_store c refused how)
      by true = d
      by false = leave_store_denied live c refused how d

  goes_on_denied : (live : Live) (c : Committing) (name : StepName) (n : Option ℕ) (next : Option StepName) → IfSome next (λ (s : StepName). is_unchecked s ≡ true → (stepped live name n).passed ≡ false) → TakenDenied live (goes_on c name n next)
  goes_on_denied live c name n (Some s) d = d
  goes_on_denied live c name n None d = ended_denied live c None (end.Committed c.mem c.store) tt

  -- up to the check none has passed
  any_next : (passed : Bool) (o : Option StepName) → passed ≡ false → IfSome o (λ (s : StepName). is_unchecked s ≡ true → passed ≡ false)
  any_next passed None u = tt
  any_next passed (Some s) u = λ e. u

  stamp_next : (passed b : Bool) → IfSome (if b then Some StampStore else None) (λ (s : StepName). is_unchecked s ≡ true → passed ≡ false)
  stamp_next passed true = λ e. absurd (false≢true e)
  stamp_next passed false = tt

  -- the numbers that are checked are those that were drawn
  abbrev pub Drew : Live → Committing → Stage → Type 0
  Drew live c (stage.Step Check) = (live.drew_mem ≡ Some (number_or_none c.mem)) × (live.drew_store ≡ Some (number_or_none c.store))
  Drew live c _ = Unit {0}

  stage_taken : (live : Live) (c : Committing) (there : Stage) (got : Got) → c.stage ≡ there → WishFits (wish_in c there) got → Heard (wish_in c there) got → Drew live c there → Chosen live → StageDenied Heard live there → TakenDenied live (taken_at c there got)
  stage_taken live c (stage.Step CloseMem) (given.Engine (answer.Number floor)) is fits h drew chosen d = goes_on_denied live (record c { floor_mem = floor }) CloseMem None (next_step c.used CloseMem) (any_next live.passed (next_step c.used CloseMem) (d refl))
  stage_taken live c (stage.Step CloseMem) (given.Engine (answer.Fault f)) is fits h drew chosen d = ended_denied live c (Some CloseMem) end.NoMemory tt
  stage_taken live c (stage.Step CloseStore) (given.Engine (answer.Number floor)) is fits h drew chosen d = goes_on_denied live (record c { floor_store = floor }) CloseStore None (next_step c.used CloseStore) (any_next live.passed (next_step c.used CloseStore) (d refl))
  stage_taken live c (stage.Step CloseStore) (given.Engine (answer.Fault f)) is fits h drew chosen d = ended_denied live c (Some CloseStore) end.NoMemory tt
  stage_taken live c (stage.Step DrawMem) (given.Reg (told.Number n)) is fits h drew chosen d = goes_on_denied live (record c { mem = Some n }) DrawMem (Some n) (next_step c.used DrawMem) (any_next live.passed (next_step c.used DrawMem) (d refl))
  stage_taken live c (stage.Step DrawMem) (given.Reg (told.NotDrawn (TooEarly floor counter))) is fits h drew chosen d = subst (StageDenied Heard live) (sym is) d
  stage_taken live c (stage.Step DrawMem) (given.Reg (told.NotDrawn Spent)) is fits h drew chosen d = ended_denied live c (Some DrawMem) (end.Spent Mem c.mem) (c.floor_mem, h)
  stage_taken live c (stage.Step DrawStore) (given.Reg (told.Number n)) is fits h drew chosen d = goes_on_denied live (record c { store = Some n }) DrawStore (Some n) (next_step c.used DrawStore) (any_next live.passed (next_step c.used DrawStore) (d refl))
  stage_taken live c (stage.Step DrawStore) (given.Reg (told.NotDrawn (TooEarly floor counter))) is fits h drew chosen d = subst (StageDenied Heard live) (sym is) d
  stage_taken live c (stage.Step DrawStore) (given.Reg (told.NotDrawn Spent)) is fits h drew chosen d = ended_denied live c (Some DrawStore) (end.Spent Store c.mem) (c.floor_store, h)
  stage_taken live c (stage.Step Check) (given.Reg (told.Passed passed)) is fits h drew chosen d =
      ended_denied live c (Some Check) (end.CheckFailed passed.point (number_or_none c.mem) (number_or_none c.store)) (h, drew.0, drew.1, d refl, chosen)
  stage_taken live c (stage.Step Check) (given.Reg told.Done) is fits h drew chosen d = goes_on_denied live c Check None (Some StampMem) (λ e. absurd (false≢true e))
  stage_taken live c (stage.Step StampMem) got is fits h drew chosen d = goes_on_denied live c StampMem None (next_step c.used StampMem) (stamp_next live.passed c.used.wrote_store)
  stage_taken live c (stage.Step StampStore) got is fits h drew chosen d = goes_on_denied live c StampStore None None tt
  stage_taken live c (stage.Leave refused Mem how) got is fits h drew chosen d = leave_store_denied live c refused how d
  stage_taken live c (stage.Leave refused Store how) got is fits h drew chosen d = d
  stage_taken live c (stage.Step CloseMem) _ is fits h drew chosen d = absurd fits
  stage_taken live c (stage.Step CloseStore) _ is fits h drew chosen d = absurd fits
  stage_taken live c (stage.Step DrawMem) _ is fits h drew chosen d = absurd fits
  stage_taken live c (stage.Step DrawStore) _ is fits h drew chosen d = absurd fits
  stage_taken live c (stage.Step Check) _ is fits h drew chosen d = absurd fits

  pub commit_taken : (live : Live) (c : Committing) (got : Got) → WishFits (wish_of c) got → Heard (wish_of c) got → Drew live c c.stage → Chosen live → StageDenied Heard live c.stage → TakenDenied live (taken c got)
  unfolding taken wish_of
  commit_taken live c got fits h drew chosen d = stage_taken live c c.stage got refl fits h drew chosen d

  pub first_denied : (live : Live) (used : Used) (o : Option StepName) → live.passed ≡ false → StageDenied Heard live (first_stage used o)
  first_denied live used (Some s) u = λ e. u
  first_denied live used None u = tt
