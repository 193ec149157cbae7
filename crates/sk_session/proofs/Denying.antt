-- What each move of a session makes of what its records say the registry refused.
use Rattle.std.specs.Prelude.{◌≡◌, ℕ, ◌+◌, List, [], ◌∷◌, ◌++◌, Option, Some, None, IfSome, Bool, true, false, cond, not, slice_get, Result, Ok, Err}
use Rattle.std.proofs.Common.{refl, sym, ap, subst, ◌∙◌, inl, inr}
use Rattle.std.proofs.lemmas.Option.{same_Some}
use Rattle.sk_rows.specs.declared.table.Table.{Table}
use Rattle.sk_rows.specs.declared.value.Value.{Value}
use Rattle.sk_rows.specs.declared.statement.Statement.{Statement}
use Rattle.sk_rows.specs.declared.statement.Statement.TheVariants as statement
use Rattle.sk_model.specs.declared.commit.Write.{Write}
use Rattle.sk_model.specs.declared.engine.EngineName.{EngineName}
use Rattle.sk_model.specs.declared.engine.EngineName.TheVariants.{Mem, Store}
use Rattle.sk_model.specs.declared.point.Point.{Point}
use Rattle.sk_model.specs.declared.record.Record.{Record}
use Rattle.sk_model.specs.declared.record.Said.{Said}
use Rattle.sk_model.specs.declared.record.Ending.{Ending}
use Rattle.sk_model.specs.declared.record.Ending.TheVariants as ending
use Rattle.sk_model.specs.declared.reply.ErrWord.{ErrWord}
use Rattle.sk_model.specs.declared.reply.ErrWord.TheVariants as err
use Rattle.sk_model.specs.declared.reply.Reply.{Reply}
use Rattle.sk_model.specs.declared.reply.Reply.TheVariants as reply
use Rattle.sk_model.specs.declared.step.StepName.{StepName}
use Rattle.sk_model.specs.declared.step.StepName.TheVariants.{CloseMem, CloseStore, DrawMem, DrawStore, Check, StampMem, StampStore}
use Rattle.sk_model.specs.declared.call.EngineFault.{EngineFault}
use Rattle.sk_model.specs.declared.call.EngineFault.TheVariants as fault
use Rattle.sk_model.specs.declared.call.EngineReply.TheVariants as answer
use Rattle.sk_model.specs.Database.{KeyedRows}
use Rattle.sk_model.specs.Reads.{one_row}
use Rattle.sk_model.specs.Asking.{first_engine, fault_reply}
use Rattle.sk_model.specs.RecordTalks.{number_or_none}
use Rattle.sk_model.specs.Talks.{Talk}
use Rattle.sk_model.specs.Replies.{Answer, refused}
use Rattle.sk_model.proofs.Lists.{Each, each_append, each_front, each_weaker}
use Rattle.sk_commit.specs.declared.asking.RegistryCall.TheVariants as reg
use Rattle.sk_commit.specs.declared.asking.RegistryReply.TheVariants as told
use Rattle.sk_commit.specs.declared.asking.Wish.{Wish}
use Rattle.sk_commit.specs.declared.asking.Wish.TheVariants as wish
use Rattle.sk_commit.specs.declared.asking.Got.{Got}
use Rattle.sk_commit.specs.declared.asking.Got.TheVariants as given
use Rattle.sk_commit.specs.declared.committing.CommitEnd.{CommitEnd}
use Rattle.sk_commit.specs.declared.committing.CommitEnd.TheVariants as end
use Rattle.sk_commit.specs.declared.committing.Stage.{Stage}
use Rattle.sk_commit.specs.declared.committing.Stage.TheVariants as stage
use Rattle.sk_commit.specs.declared.committing.Committing.{Committing}
use Rattle.sk_commit.specs.declared.committing.Stepped.TheVariants.{Went, Early, Ended}
use Rattle.sk_commit.specs.declared.committing.Taken.{Taken}
use Rattle.sk_commit.specs.declared.committing.Taken.TheVariants as outcome
use Rattle.sk_commit.specs.Fits.{WishFits}
use Rattle.sk_commit.specs.Committing.{taken, wish_in, wish_of, first_step, started}
use Rattle.sk_session.specs.Kept.{said_maybe}
use Rattle.sk_session.specs.declared.live.Live.{Live}
use Rattle.sk_session.specs.declared.live.Job.{Job}
use Rattle.sk_session.specs.declared.live.Job.TheVariants as job
use Rattle.sk_session.specs.declared.live.At.{At}
use Rattle.sk_session.specs.declared.live.At.TheVariants as at
use Rattle.sk_session.specs.declared.live.Moved.{Moved}
use Rattle.sk_session.specs.Moving.{said_now, record_of, record_now, with_last, finish, drops, first_opened, next_opened, give_up, lose, starve, goes_well, used_of, commits, end_reply, stepped, closes, heard, hears, say, put_at, put_next, read_now, read_by, read_for, open_or_read, judged, inside_by, inside, opened_at, has_written, noted, behind_open, answer_now, answer_by, rows_come, fault_at_read, count_goes, open_goes, select_goes, read_goes, put_goes, went_on, commit_goes, begins, label_after, record_begun, says, Either, InsideTable, StartsInside, start_stepping, GoesAs, wished}
use Rattle.sk_session.specs.Moving.{StartsAt, TakesAt, leave_at, records_at}
use Rattle.sk_session.specs.declared.session.Session.{Session}
use Rattle.sk_session.specs.declared.turn.Turn.{Turn}
use Rattle.sk_session.specs.Starting.{Starts, Takes, Leaves, moved_to, records_now}
use Rattle.sk_session.specs.Speaks.{JobSpeaks}
use Rattle.sk_session.specs.EachTalk.{OrderlyJob, IsOrderly, HasTalks, SessionTalks, AnswerFits}
use Rattle.sk_session.specs.Facts.{FitsFacts}
use Rattle.sk_session.proofs.SoFar.{live_facts}
use Rattle.sk_session.proofs.Wished.{wished_fits}
use Rattle.sk_session.proofs.Orderly.{BeginsOrRests, resting_moves}
use Rattle.sk_session.proofs.Recorded.{with_last_seam}
use Rattle.sk_session.specs.Denied.{is_denial, Denied, RecordDenied, SaidPlain, Chosen, Choosing, IsPlain, OpenPlain, ReplyDenied, EndDenied, StageDenied, OwnPlain, JobDenied, AtDenied, HeardAt, SessionDenied}
use Rattle.sk_session.proofs.Denials.{PlainAnswer, answer_plain, fault_plain, plain_reply, now_denied, record_denied, end_reply_denied, TakenDenied, Drew, commit_taken, first_denied}

module _ (Heard : Wish → Got → Type 0) where
  -- a step changes neither what was said nor what was chosen
  stepped_said : (live : Live) (name : StepName) (n : Option ℕ) → SaidPlain live → SaidPlain (stepped live name n)
  stepped_said live CloseMem n s = s
  stepped_said live CloseStore n s = s
  stepped_said live DrawMem n s = s
  stepped_said live DrawStore n s = s
  stepped_said live Check n s = s
  stepped_said live StampMem n s = s
  stepped_said live StampStore n s = s

  stepped_chosen : (live : Live) (name : StepName) (n : Option ℕ) → Chosen live → Chosen (stepped live name n)
  stepped_chosen live CloseMem n s = s
  stepped_chosen live CloseStore n s = s
  stepped_chosen live DrawMem n s = s
  stepped_chosen live DrawStore n s = s
  stepped_chosen live Check n s = s
  stepped_chosen live StampMem n s = s
  stepped_chosen live StampStore n s = s

  -- ---- what is noted of an answer

  noted_said : (live : Live) (doing : Job) (got : Got) → SaidPlain live → SaidPlain (noted live doing got)
  noted_said live job.Count got s = s
  noted_said live (job.Open Mem n) (given.Engine answer.Done) s = s
  noted_said live (job.Open Store n) (given.Engine answer.Done) s = s
  noted_said live (job.Open e n) _ s = s
  noted_said live job.Select (given.Reg (told.Selected x)) s = by x.made
    where
      by : (b : Bool) → SaidPlain (cond b (record live { selected = Some (record { a = number_or_none live.mem; b = x.b; commit = false }) }) live)
      by true = s
      by false = s
  noted_said live job.Select _ s = s
  noted_said live (job.Read e t key) got s = s
  noted_said live (job.Put Mem writes done r) (given.Engine answer.Done) s = s
  noted_said live (job.Put Store writes done r) (given.Engine answer.Done) s = s
  noted_said live (job.Put e writes done r) _ s = s
  noted_said live (job.Commit c whole own) got s = s
  noted_said live (job.Leave e how r lost) got s = s

  written_plain : (live : Live) (e : EngineName) → IsPlain live → IsPlain (has_written live e)
  written_plain live Mem p = record { said = p.said; chosen = p.chosen; unpassed = p.unpassed }
  written_plain live Store p = record { said = p.said; chosen = p.chosen; unpassed = p.unpassed }

  none_selected : (live : Live) (p : Point) → live.selected ≡ None → live.selected ≡ Some p → ⊥
  none_selected live p none some = let e = sym none ∙ some in cc

  opened_plain : (live : Live) (e : EngineName) (n : ℕ) → SaidPlain live → live.passed ≡ false → OpenPlain live e n → ((e ≡ Mem) → live.selected ≡ None) → IsPlain (opened_at live e n)
  opened_plain live Mem n s u o none = record { said = s; chosen = λ p e. absurd (none_selected live p (none refl) e); unpassed = u }
  opened_plain live Store n s u o none = record { said = s; chosen = λ p e. let c = o p e in (c.0, c.1, ap Some c.2); unpassed = u }

  count_plain : (live : Live) (e : EngineName) (n : ℕ) → live.selected ≡ None → OpenPlain live e n
  count_plain live Mem n none = tt
  count_plain live Store n none = λ p e. absurd (none_selected live p none e)

  drew_in : (live : Live) (c : Committing) (there : Stage) → FitsFacts (live_facts live) (wish_in c there) → Drew Heard live c there
  drew_in live c (stage.Step Check) f = (f.0, f.1)
  drew_in live c (stage.Step CloseMem) f = tt
  drew_in live c (stage.Step CloseStore) f = tt
  drew_in live c (stage.Step DrawMem) f = tt
  drew_in live c (stage.Step DrawStore) f = tt
  drew_in live c (stage.Step StampMem) f = tt
  drew_in live c (stage.Step StampStore) f = tt
  drew_in live c (stage.Leave refused engine how) f = tt

  drew_now : (catalog : List Table) (live : Live) (c : Committing) (whole : Bool) (own : Option Reply) (talk : Talk) → JobSpeaks catalog live (job.Commit c whole own) talk → OrderlyJob live (job.Commit c whole own) → Drew Heard live c c.stage
  unfolding wish_of
  drew_now catalog live c whole own talk w o = drew_in live c c.stage (wished_fits catalog live (job.Commit c whole own) talk w o)

  -- ---- moves

  module _ (records front : List Record) (open_record : Record) (are : records ≡ front ++ open_record ∷ []) (each : Each (RecordDenied Heard) records) where
    abbrev Keeps : Moved → Type 0
    Keeps moved = Each (RecordDenied Heard) moved.records × AtDenied Heard moved.at

    same_keeps : (moved now : Moved) → now ≡ moved → Keeps moved → Keeps now
    same_keeps moved now is k = subst Keeps (sym is) k

    either_keeps : (x y moved : Moved) → Either x y moved → Keeps x → Keeps y → Keeps moved
    either_keeps x y moved (inl is) kx ky = subst Keeps (sym is) kx
    either_keeps x y moved (inr is) kx ky = subst Keeps (sym is) ky

    pub last_keeps : (r : Record) → RecordDenied Heard r → Each (RecordDenied Heard) (with_last records r)
    last_keeps r d = subst (Each (RecordDenied Heard)) (sym (ap (λ rs. with_last rs r) are ∙ with_last_seam front open_record r))
        (each_append (RecordDenied Heard) front (r ∷ []) (each_front (RecordDenied Heard) front (open_record ∷ []) (subst (Each (RecordDenied Heard)) are each)) (d, tt))

    finish_keeps : (live : Live) (how : Ending) (r : Reply) (lost : Bool) → SaidPlain live → ReplyDenied Heard live r → Keeps (finish records live how r lost)
    finish_keeps live how r true s d = (last_keeps (record_of live how r) (record_denied Heard live how r s d), tt)
    finish_keeps live how r false s d = (last_keeps (record_of live how r) (record_denied Heard live how r s d), tt)

    drops_keeps : (live : Live) (o : Option EngineName) (how : Ending) (r : Reply) (lost : Bool) → SaidPlain live → ReplyDenied Heard live r → Keeps (drops records live o how r lost)
    drops_keeps live None how r lost s d = finish_keeps live how r lost s d
    drops_keeps live (Some e) how r lost s d = (each, (s, d))

    give_up_keeps : (live : Live) (how : Ending) (r : Reply) (lost : Bool) → SaidPlain live → ReplyDenied Heard live r → Keeps (give_up records live how r lost)
    give_up_keeps live how r lost s d = drops_keeps live (first_opened live) how r lost s d

    lose_keeps : (live : Live) (how : Ending) (r : Reply) → SaidPlain live → ReplyDenied Heard live r → Keeps (lose records live how r)
    lose_keeps live how r s d = give_up_keeps live how r (not live.small) s d

    starve_keeps : (live : Live) → SaidPlain live → Keeps (starve records live)
    unfolding starve
    starve_keeps live s = lose_keeps live ending.NoMemory (reply.Refused err.Memory) s tt

    commits_keeps : (live : Live) (whole : Bool) (own : Option Reply) → IsPlain live → OwnPlain own → Keeps (commits records live whole own)
    unfolding started
    commits_keeps live whole own p o = (each, (p.said, p.chosen, o, first_denied Heard live (used_of live) (first_step (used_of live)) p.unpassed))

    closes_keeps : (live : Live) (r : Reply) (well : Bool) → IsPlain live → is_denial r ≡ false → Keeps (closes records live r well)
    closes_keeps live r true p plain = commits_keeps live true (Some r) p plain
    closes_keeps live r false p plain = give_up_keeps live ending.RolledBack r false p.said (plain_reply Heard live r plain)

    heard_plain : (live : Live) (r : Reply) → IsPlain live → is_denial r ≡ false → IsPlain (heard live r)
    heard_plain live r p plain = record {
      said = each_append (λ (s : Said). is_denial s.reply ≡ false) live.said (said_maybe (said_now live.statement r)) p.said (by live.statement);
      chosen = p.chosen;
      unpassed = p.unpassed;
    }
      where
        by : (o : Option Statement) → Each (λ (s : Said). is_denial s.reply ≡ false) (said_maybe (said_now o r))
        by None = tt
        by (Some s) = (plain, tt)

    say_keeps : (live : Live) (r : Reply) → IsPlain live → is_denial r ≡ false → Keeps (say records live r)
    unfolding say
    say_keeps live r p plain = by live.small
      where
        by : (small : Bool) → Keeps (cond small (closes records live r (goes_well r)) (hears records live r))
        by true = closes_keeps live r (goes_well r) p plain
        by false = (each, heard_plain live r p plain)

    put_at_keeps : (live : Live) (e : EngineName) (writes : List Write) (done : ℕ) (r : Reply) (o : Option Write) → IsPlain live → is_denial r ≡ false → Keeps (put_at records live e writes done r o)
    put_at_keeps live e writes done r None p plain = say_keeps live r p plain
    put_at_keeps live e writes done r (Some w) p plain = (each, (p, plain))

    put_next_keeps : (live : Live) (e : EngineName) (writes : List Write) (done : ℕ) (r : Reply) → IsPlain live → is_denial r ≡ false → Keeps (put_next records live e writes done r)
    unfolding put_next
    put_next_keeps live e writes done r p plain = put_at_keeps live e writes done r (slice_get writes done) p plain

    read_by_keeps : (live : Live) (o : Option (EngineName × ℕ × Option Value)) → IsPlain live → Keeps (read_by records live o)
    read_by_keeps live None p = starve_keeps live p.said
    read_by_keeps live (Some r) p = (each, p)

    read_for_keeps : (catalog : List Table) (live : Live) → IsPlain live → Keeps (read_for catalog records live)
    read_for_keeps catalog live p = read_by_keeps live (read_now catalog live.statement) p

    open_or_read_keeps : (catalog : List Table) (live : Live) (o : Option ℕ) → IsPlain live → Keeps (open_or_read catalog records live o)
    open_or_read_keeps catalog live None p = (each, (p.said, p.unpassed))
    open_or_read_keeps catalog live (Some n) p = read_for_keeps catalog live p

    inside_by_keeps : (catalog : List Table) (live : Live) (j : Result EngineName ErrWord) → IsPlain live → Keeps (inside_by catalog records live j)
    inside_by_keeps catalog live (Err word) p = say_keeps live (reply.Refused word) p refl
    inside_by_keeps catalog live (Ok e) p = open_or_read_keeps catalog live _ p

    inside_keeps : (catalog : List Table) (live : Live) → IsPlain live → Keeps (inside catalog records live)
    inside_keeps catalog live p = inside_by_keeps catalog live (judged catalog live.kind live.statement) p

    -- with the statement that is answered now
    says_plain : (live : Live) (s : Statement) → IsPlain live → IsPlain (says live s)
    says_plain live s p = record { said = p.said; chosen = p.chosen; unpassed = p.unpassed }

    table_keeps : (catalog : List Table) (live : Live) (s : Statement) (moved : Moved) → IsPlain live → InsideTable catalog records live s moved → Keeps moved
    table_keeps catalog live s moved p (inl is) = same_keeps _ moved is (starve_keeps live p.said)
    table_keeps catalog live s moved p (inr is) = either_keeps _ _ moved is (inside_keeps catalog (says live s) (says_plain live s p)) (starve_keeps (says live s) p.said)

    pub said_keeps : (catalog : List Table) (live : Live) (s : Option Statement) (moved : Moved) → IsPlain live → StartsInside catalog records live s moved → Keeps moved
    said_keeps catalog live None moved p is = same_keeps _ moved is (commits_keeps live false None p tt)
    said_keeps catalog live (Some (statement.Begin begun)) moved p is = same_keeps _ moved is (each, p)
    said_keeps catalog live (Some statement.Commit) moved p is = same_keeps _ moved is (commits_keeps (says live statement.Commit) true None (says_plain live statement.Commit p) tt)
    said_keeps catalog live (Some statement.Rollback) moved p is = same_keeps _ moved is (give_up_keeps (says live statement.Rollback) ending.RolledBack reply.RolledBack false p.said tt)
    said_keeps catalog live (Some (statement.Insert table values)) moved p is = table_keeps catalog live (statement.Insert table values) moved p is
    said_keeps catalog live (Some (statement.Select table names c)) moved p is = table_keeps catalog live (statement.Select table names c) moved p is
    said_keeps catalog live (Some (statement.Update table sets c)) moved p is = table_keeps catalog live (statement.Update table sets c) moved p is
    said_keeps catalog live (Some (statement.Delete table c)) moved p is = table_keeps catalog live (statement.Delete table c) moved p is

    pub stepping_keeps : (live : Live) (c : Committing) (s : Option Statement) → SaidPlain live × Chosen live × StageDenied Heard live c.stage → Keeps (start_stepping records live c s)
    stepping_keeps live c None p = (each, (p.0, p.1, tt, p.2))
    stepping_keeps live c (Some statement.Commit) p = (each, (p.0, p.1, tt, p.2))
    stepping_keeps live c (Some (statement.Begin begun)) p = (each, p)
    stepping_keeps live c (Some statement.Rollback) p = (each, p)
    stepping_keeps live c (Some (statement.Insert table values)) p = (each, p)
    stepping_keeps live c (Some (statement.Select table names e)) p = (each, p)
    stepping_keeps live c (Some (statement.Update table sets e)) p = (each, p)
    stepping_keeps live c (Some (statement.Delete table e)) p = (each, p)

    pub left_keeps : (live : Live) → IsPlain live → Keeps (give_up records live ending.RolledBack reply.RolledBack false)
    left_keeps live p = give_up_keeps live ending.RolledBack reply.RolledBack false p.said tt

    -- ---- an answer

    behind_open_keeps : (catalog : List Table) (live : Live) (begun : Bool) → IsPlain live → Keeps (behind_open catalog records live begun)
    behind_open_keeps catalog live true p = say_keeps live (reply.Began live.label) p refl
    behind_open_keeps catalog live false p = read_for_keeps catalog live p

    answer_by_keeps : (live : Live) (e : EngineName) (o : Option Answer) → IsPlain live → IfSome o PlainAnswer → Keeps (answer_by records live e o)
    answer_by_keeps live e None p a = starve_keeps live p.said
    answer_by_keeps live e (Some x) p a = put_next_keeps live e x.1 0 x.0 p a

    rows_keeps : (catalog : List Table) (live : Live) (e : EngineName) (rows : KeyedRows) → IsPlain live → Keeps (rows_come catalog records live e rows)
    rows_keeps catalog live e rows p = answer_by_keeps live e (answer_now catalog live.statement rows) p (answer_plain catalog live.statement rows)

    fault_keeps : (live : Live) (e : EngineName) (f : EngineFault) → IsPlain live → Keeps (fault_at_read records live e f)
    fault_keeps live e (fault.Busy by) p = say_keeps live (reply.Busy by) p refl
    fault_keeps live e (fault.Old snapshot horizon) p = lose_keeps live _ _ p.said (plain_reply Heard live (fault_reply e (fault.Old snapshot horizon)) refl)
    fault_keeps live e (fault.Conflict by why) p = lose_keeps live _ _ p.said (plain_reply Heard live (fault_reply e (fault.Conflict by why)) refl)
    fault_keeps live e fault.Device p = lose_keeps live _ _ p.said (plain_reply Heard live (fault_reply e fault.Device) refl)
    fault_keeps live e fault.NoMemory p = lose_keeps live _ _ p.said (plain_reply Heard live (fault_reply e fault.NoMemory) refl)

    count_keeps : (live : Live) (got : Got) → SaidPlain live → live.passed ≡ false → live.selected ≡ None → Keeps (count_goes records live got)
    count_keeps live (given.Reg (told.Number n)) s u none = (each, (s, u, count_plain live (first_engine live.kind) n none))
    count_keeps live (given.Engine r) s u none = starve_keeps live s
    count_keeps live (given.Reg (told.Selected x)) s u none = starve_keeps live s
    count_keeps live (given.Reg (told.Recycled x)) s u none = starve_keeps live s
    count_keeps live (given.Reg (told.NotDrawn x)) s u none = starve_keeps live s
    count_keeps live (given.Reg told.Done) s u none = starve_keeps live s
    count_keeps live (given.Reg (told.Passed x)) s u none = starve_keeps live s
    count_keeps live (given.Reg told.NoMemory) s u none = starve_keeps live s

    open_keeps : (catalog : List Table) (live : Live) (e : EngineName) (n : ℕ) (got : Got) → SaidPlain live → live.passed ≡ false → OpenPlain live e n → ((e ≡ Mem) → live.selected ≡ None) → Keeps (open_goes catalog records (noted live (job.Open e n) got) e got)
    open_keeps catalog live e n (given.Engine answer.Done) s u o none = behind_open_keeps catalog (opened_at live e n) _ (opened_plain live e n s u o none)
    open_keeps catalog live e n (given.Engine (answer.Fault f)) s u o none = lose_keeps live _ (fault_reply e f) s (plain_reply Heard live (fault_reply e f) (fault_plain e f))
    open_keeps catalog live e n (given.Engine (answer.Found x)) s u o none = starve_keeps live s
    open_keeps catalog live e n (given.Engine (answer.Rows x)) s u o none = starve_keeps live s
    open_keeps catalog live e n (given.Engine (answer.Number x)) s u o none = starve_keeps live s
    open_keeps catalog live e n (given.Engine _) s u o none = starve_keeps live s
    open_keeps catalog live e n (given.Reg r) s u o none = starve_keeps live s

    select_keeps : (live : Live) (got : Got) → SaidPlain live → live.passed ≡ false → live.selected ≡ None → live.mem ≡ Some (number_or_none live.mem) → WishFits (wish.Reg (reg.Select (number_or_none live.mem))) got → Heard (wish.Reg (reg.Select (number_or_none live.mem))) got
        → Keeps (select_goes records (noted live job.Select got) got)
    select_keeps live (given.Reg (told.Selected x)) s u none anchor fits h = (each, by x.made)
      where
        point : Point
        point = record { a = number_or_none live.mem; b = x.b; commit = false }

        by : (b : Bool) → SaidPlain (cond b (record live { selected = Some point }) live) × ((cond b (record live { selected = Some point }) live).passed ≡ false) × Choosing (cond b (record live { selected = Some point }) live) x.b
        by true = (s, u, λ p e. let is : point ≡ p = same_Some point p e in (ap (λ (q : Point). q.commit) (sym is), anchor ∙ ap (λ (q : Point). Some q.a) is, ap (λ (q : Point). q.b) is))
        by false = (s, u, λ p e. absurd (none_selected live p none e))
    select_keeps live (given.Reg (told.Recycled x)) s u none anchor fits h = lose_keeps live ending.Recycled (reply.Recycled x) s (subst (λ a. Heard (wish.Reg (reg.Select a)) (given.Reg (told.Recycled x))) (sym fits) h)
    select_keeps live (given.Reg told.NoMemory) s u none anchor fits h = starve_keeps live s
    select_keeps live (given.Engine r) s u none anchor fits h = absurd fits
    select_keeps live (given.Reg (told.Number n)) s u none anchor fits h = absurd fits
    select_keeps live (given.Reg (told.NotDrawn x)) s u none anchor fits h = absurd fits
    select_keeps live (given.Reg told.Done) s u none anchor fits h = absurd fits
    select_keeps live (given.Reg (told.Passed x)) s u none anchor fits h = absurd fits

    read_keeps : (catalog : List Table) (live : Live) (e : EngineName) (key : Option Value) (got : Got) → IsPlain live → Keeps (read_goes catalog records live e key got)
    read_keeps catalog live e None (given.Engine (answer.Rows rows)) p = rows_keeps catalog live e rows p
    read_keeps catalog live e None (given.Engine (answer.Fault f)) p = fault_keeps live e f p
    read_keeps catalog live e None _ p = starve_keeps live p.said
    read_keeps catalog live e (Some key) (given.Engine (answer.Found row)) p = rows_keeps catalog live e (one_row key row) p
    read_keeps catalog live e (Some key) (given.Engine (answer.Fault f)) p = fault_keeps live e f p
    read_keeps catalog live e (Some key) _ p = starve_keeps live p.said

    put_keeps : (live : Live) (e : EngineName) (writes : List Write) (done : ℕ) (r : Reply) (got : Got) → IsPlain live → is_denial r ≡ false → Keeps (put_goes records (noted live (job.Put e writes done r) got) e writes done r got)
    put_keeps live e writes done r (given.Engine answer.Done) p plain = put_next_keeps (has_written live e) e writes (done + 1) r (written_plain live e p) plain
    put_keeps live e writes done r (given.Engine (answer.Fault f)) p plain = lose_keeps live _ (fault_reply e f) p.said (plain_reply Heard live (fault_reply e f) (fault_plain e f))
    put_keeps live e writes done r _ p plain = starve_keeps live p.said

    went_on_keeps : (live : Live) (c : Committing) (name : StepName) (n : Option ℕ) (whole : Bool) (own : Option Reply) → SaidPlain live → Chosen live → OwnPlain own → StageDenied Heard live c.stage → Keeps (went_on records live c name n whole own)
    went_on_keeps live c name n true own s k o d = (each, (s, k, o, d))
    went_on_keeps live c name n false own s k o d = (each, (s, k, d))

    commit_keeps : (live : Live) (t : Taken) (whole : Bool) (own : Option Reply) → SaidPlain live → Chosen live → OwnPlain own → TakenDenied Heard live t → Keeps (commit_goes records live t whole own)
    commit_keeps live (outcome.More c) whole own s k o d = (each, (s, k, o, d))
    commit_keeps live (outcome.Step (Went c name n)) whole own s k o d = went_on_keeps (stepped live name n) c name n whole own (stepped_said live name n s) (stepped_chosen live name n k) o d
    commit_keeps live (outcome.Step (Early c floor counter)) whole own s k o d = (each, (s, k, o, d))
    commit_keeps live (outcome.Step (Ended how)) whole own s k o d = finish_keeps live _ (end_reply how own) false s (end_reply_denied Heard live how own o d)

    -- where an answer leads
    taken_keeps : (catalog : List Table) (live : Live) (doing : Job) (got : Got) (talk : Talk) (moved : Moved) → GoesAs catalog records live doing got moved → JobSpeaks catalog live doing talk → OrderlyJob live doing → WishFits (wished live doing) got → Heard (wished live doing) got
        → JobDenied Heard live doing → Keeps moved
    taken_keeps catalog live (job.Commit c whole own) got talk moved is w o fits h d =
        same_keeps _ moved is (commit_keeps live (taken c got) whole own d.0 d.1 d.2 (commit_taken Heard live c got fits h (drew_now catalog live c whole own talk w o) d.1 d.3))
    taken_keeps catalog live (job.Leave e how r lost) got talk moved is w o fits h d = same_keeps _ moved is (drops_keeps live (next_opened live e) how r lost d.0 d.1)
    taken_keeps catalog live job.Count got talk moved is w o fits h d = either_keeps _ _ moved is (count_keeps live got d.0 d.1 o.1) (starve_keeps live d.0)
    taken_keeps catalog live (job.Open e n) got talk moved is w o fits h d =
        either_keeps _ _ moved is (open_keeps catalog live e n got d.0 d.1 d.2 (first e o)) (starve_keeps (noted live (job.Open e n) got) (noted_said live (job.Open e n) got d.0))
      where
        first : (e : EngineName) → OrderlyJob live (job.Open e n) → e ≡ Mem → live.selected ≡ None
        first Mem o is = o.1
        first Store o is = absurd cc
    taken_keeps catalog live job.Select got talk moved is w o fits h d =
        either_keeps _ _ moved is (select_keeps live got d.0 d.1 o (wished_fits catalog live job.Select talk w o).0 fits h) (starve_keeps (noted live job.Select got) (noted_said live job.Select got d.0))
    taken_keeps catalog live (job.Read e t key) got talk moved is w o fits h d = either_keeps _ _ moved is (read_keeps catalog live e key got d) (starve_keeps live d.said)
    taken_keeps catalog live (job.Put e writes done r) got talk moved is w o fits h d =
        either_keeps _ _ moved is (put_keeps live e writes done r got d.0 d.1) (starve_keeps (noted live (job.Put e writes done r) got) (noted_said live (job.Put e writes done r) got d.0.said))

  -- ---- each call

  abbrev KeepsAt : Moved → Type 0
  KeepsAt moved = Each (RecordDenied Heard) moved.records × AtDenied Heard moved.at

  take_at : (catalog : List Table) (number : ℕ) (records : List Record) (there : At) (got : Got) (moved : Moved) (talks : List Talk) → TakesAt catalog records there got moved → HasTalks catalog number records there talks → IsOrderly there → AnswerFits there got → HeardAt Heard there got
      → Each (RecordDenied Heard) records → AtDenied Heard there → KeepsAt moved
  take_at catalog number records (at.Asking live doing) got moved talks takes h o fits heard each d = taken_keeps records h.1.front h.1.open_record h.1.records_are each catalog live doing got h.0 moved takes h.2 o fits heard d
  take_at catalog number records at.Outside got moved talks takes h o fits heard each d = absurd fits
  take_at catalog number records at.Ended got moved talks takes h o fits heard each d = absurd fits
  take_at catalog number records (at.Inside live) got moved talks takes h o fits heard each d = absurd fits
  take_at catalog number records (at.Stepping live c) got moved talks takes h o fits heard each d = absurd fits

  begins_keeps : (number : ℕ) (records : List Record) (moved : Moved) → BeginsOrRests number records moved → Each (RecordDenied Heard) records → KeepsAt moved
  unfolding begins
  begins_keeps number records moved (inl (kind, small, s, is)) each = subst KeepsAt (sym is) (each_append (RecordDenied Heard) records (record_begun (label_after number records) kind ∷ []) each (tt, tt), (tt, refl))
  begins_keeps number records moved (inr (same, inl is)) each = (subst (Each (RecordDenied Heard)) (sym same) each, subst (AtDenied Heard) (sym is) tt)
  begins_keeps number records moved (inr (same, inr is)) each = (subst (Each (RecordDenied Heard)) (sym same) each, subst (AtDenied Heard) (sym is) tt)

  start_at : (catalog : List Table) (number : ℕ) (records : List Record) (there : At) (s : Option Statement) (moved : Moved) (talks : List Talk) → StartsAt catalog number records there s moved → HasTalks catalog number records there talks → Each (RecordDenied Heard) records → AtDenied Heard there → KeepsAt moved
  start_at catalog number records at.Outside s moved talks starts h each d = begins_keeps number records moved (resting_moves number records catalog at.Outside s moved (inl refl) starts) each
  start_at catalog number records at.Ended s moved talks starts h each d = begins_keeps number records moved (resting_moves number records catalog at.Ended s moved (inr refl) starts) each
  start_at catalog number records (at.Inside live) s moved talks starts h each d = said_keeps records h.1.front h.1.open_record h.1.records_are each catalog live s moved d starts
  start_at catalog number records (at.Stepping live c) s moved talks starts h each d = subst KeepsAt (sym starts) (stepping_keeps records h.1.front h.1.open_record h.1.records_are each live c s d)
  start_at catalog number records (at.Asking live doing) s moved talks starts h each d = subst KeepsAt (sym starts) (each, d)

  left_at : (catalog : List Table) (number : ℕ) (records : List Record) (there : At) (moved : Moved) (talks : List Talk) → moved ≡ leave_at records there → HasTalks catalog number records there talks → Each (RecordDenied Heard) records → AtDenied Heard there → KeepsAt moved
  left_at catalog number records at.Outside moved talks leaves h each d = subst KeepsAt (sym leaves) (each, tt)
  left_at catalog number records at.Ended moved talks leaves h each d = subst KeepsAt (sym leaves) (each, tt)
  left_at catalog number records (at.Inside live) moved talks leaves h each d = subst KeepsAt (sym leaves) (left_keeps records h.1.front h.1.open_record h.1.records_are each live d)
  left_at catalog number records (at.Stepping live c) moved talks leaves h each d = subst KeepsAt (sym leaves) (each, d)
  left_at catalog number records (at.Asking live doing) moved talks leaves h each d = subst KeepsAt (sym leaves) (each, d)

-- an answer that was heard keeps it
pub takes_are_denied : (Heard : Wish → Got → Type 0) (catalog : List Table) (old : Session) (got : Got) (new : Session) (t : Turn) (talks : List Talk) → Takes catalog old got new t → SessionTalks catalog old talks → AnswerFits old.at got → HeardAt Heard old.at got
    → SessionDenied Heard old → SessionDenied Heard new
takes_are_denied Heard catalog old got new t talks takes h fits heard d =
    let k = take_at Heard catalog old.number old.records old.at got (moved_to new t) talks takes.moves h.0 h.1 fits heard d.records d.live in
    record { records = k.0; live = k.1 }

-- and so does a statement
pub starts_are_denied : (Heard : Wish → Got → Type 0) (catalog : List Table) (old : Session) (s : Option Statement) (new : Session) (t : Turn) (talks : List Talk) → Starts catalog old s new t → SessionTalks catalog old talks → SessionDenied Heard old → SessionDenied Heard new
starts_are_denied Heard catalog old s new t talks starts h d =
    let k = start_at Heard catalog old.number old.records old.at s (moved_to new t) talks starts.moves h.0 d.records d.live in
    record { records = k.0; live = k.1 }

-- and leaving the session
pub leaves_are_denied : (Heard : Wish → Got → Type 0) (catalog : List Table) (old new : Session) (t : Turn) (talks : List Talk) → Leaves old new t → SessionTalks catalog old talks → SessionDenied Heard old → SessionDenied Heard new
leaves_are_denied Heard catalog old new t talks leaves h d =
    let k = left_at Heard catalog old.number old.records old.at (moved_to new t) talks leaves.moves h.0 d.records d.live in
    record { records = k.0; live = k.1 }

-- the records as they would be handed out
pub records_are_denied : (Heard : Wish → Got → Type 0) (catalog : List Table) (s : Session) (talks : List Talk) → SessionTalks catalog s talks → SessionDenied Heard s → Each (RecordDenied Heard) (records_now s)
records_are_denied Heard catalog s talks h d = go s.at h.0 d.live
  where
    go : (there : At) → HasTalks catalog s.number s.records there talks → AtDenied Heard there → Each (RecordDenied Heard) (records_at s.records there)
    go at.Outside k a = d.records
    go at.Ended k a = d.records
    go (at.Inside live) k a = last_keeps Heard s.records k.1.front k.1.open_record k.1.records_are d.records (record_now live) (now_denied Heard live a.said)
    go (at.Stepping live c) k a = last_keeps Heard s.records k.1.front k.1.open_record k.1.records_are d.records (record_now live) (now_denied Heard live a.0)
    go (at.Asking live doing) k a = d.records

-- ---- what was heard is heard by more

module _ (Less More : Wish → Got → Type 0) (more : (asked : Wish) (got : Got) → Less asked got → More asked got) where
  more_denied : (r : Record) (said : Reply) → Denied Less r said → Denied More r said
  more_denied r (reply.CheckFailed q ca cb) d = (more _ _ d.0, d.1, d.2, d.3)
  more_denied r (reply.Recycled x) d = more _ _ d
  more_denied r (reply.Spent engine) d = (d.0, more _ _ d.1)
  more_denied r (reply.Conflict by why) d = tt
  more_denied r (reply.Busy by) d = tt
  more_denied r (reply.Old engine s n) d = tt
  more_denied r (reply.Began label) d = tt
  more_denied r (reply.Count n) d = tt
  more_denied r (reply.Rows rows) d = tt
  more_denied r reply.Committed d = tt
  more_denied r reply.RolledBack d = tt
  more_denied r (reply.Step s n) d = tt
  more_denied r (reply.Refused word) d = tt

  more_reply : (live : Live) (said : Reply) → ReplyDenied Less live said → ReplyDenied More live said
  more_reply live (reply.CheckFailed q ca cb) d = (more _ _ d.0, d.1, d.2, d.3, d.4)
  more_reply live (reply.Recycled x) d = more _ _ d
  more_reply live (reply.Spent engine) d = (d.0, more _ _ d.1)
  more_reply live (reply.Conflict by why) d = tt
  more_reply live (reply.Busy by) d = tt
  more_reply live (reply.Old engine s n) d = tt
  more_reply live (reply.Began label) d = tt
  more_reply live (reply.Count n) d = tt
  more_reply live (reply.Rows rows) d = tt
  more_reply live reply.Committed d = tt
  more_reply live reply.RolledBack d = tt
  more_reply live (reply.Step s n) d = tt
  more_reply live (reply.Refused word) d = tt

  more_end : (live : Live) (how : CommitEnd) → EndDenied Less live how → EndDenied More live how
  more_end live (end.Committed mem store) d = tt
  more_end live (end.CheckFailed q ca cb) d = more_reply live (reply.CheckFailed q ca cb) d
  more_end live (end.Spent engine mem) d = more_reply live (reply.Spent engine) d
  more_end live end.NoMemory d = tt

  more_stage : (live : Live) (there : Stage) → StageDenied Less live there → StageDenied More live there
  more_stage live (stage.Step s) d = d
  more_stage live (stage.Leave refused engine how) d = more_end live how d

  more_at : (there : At) → AtDenied Less there → AtDenied More there
  more_at at.Outside d = tt
  more_at at.Ended d = tt
  more_at (at.Inside live) d = d
  more_at (at.Stepping live c) d = (d.0, d.1, more_stage live c.stage d.2)
  more_at (at.Asking live job.Count) d = d
  more_at (at.Asking live (job.Open e n)) d = d
  more_at (at.Asking live job.Select) d = d
  more_at (at.Asking live (job.Read e t key)) d = d
  more_at (at.Asking live (job.Put e writes done r)) d = d
  more_at (at.Asking live (job.Commit c whole own)) d = (d.0, d.1, d.2, more_stage live c.stage d.3)
  more_at (at.Asking live (job.Leave e how r lost)) d = (d.0, more_reply live r d.1)

  more_records : (records : List Record) → Each (RecordDenied Less) records → Each (RecordDenied More) records
  more_records records d = each_weaker (RecordDenied Less) (RecordDenied More) (λ r k. each_weaker (λ (s : Said). Denied Less r s.reply) (λ (s : Said). Denied More r s.reply) (λ s x. more_denied r s.reply x) r.said k) records d

-- what was heard may be heard by more
pub denied_by_more : (Less More : Wish → Got → Type 0) → ((asked : Wish) (got : Got) → Less asked got → More asked got) → (s : Session) → SessionDenied Less s → SessionDenied More s
denied_by_more Less More more s d = record { records = more_records Less More more s.records d.records; live = more_at Less More more s.at d.live }
