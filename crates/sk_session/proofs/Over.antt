-- The records of transactions that are over stay: each move leaves all records, or replaces the last one as its transaction ends.
use Rattle.std.specs.Prelude.{◌≡◌, ◌⊎◌, ℕ, ◌+◌, List, [], ◌∷◌, ◌++◌, Option, Some, None, Bool, true, false, cond, not, if◌then◌else◌, slice_get, Result, Ok, Err}
use Rattle.std.proofs.Common.{refl, sym, ap, subst, ◌∙◌, inl, inr, ⊎_elim}
use Rattle.sk_rows.specs.declared.table.Table.{Table}
use Rattle.sk_rows.specs.declared.value.Value.{Value}
use Rattle.sk_rows.specs.declared.statement.Statement.{Statement}
use Rattle.sk_rows.specs.declared.statement.Statement.TheVariants as statement
use Rattle.sk_model.specs.declared.commit.Write.{Write}
use Rattle.sk_model.specs.declared.engine.EngineName.{EngineName}
use Rattle.sk_model.specs.declared.record.Record.{Record}
use Rattle.sk_model.specs.declared.record.Ending.{Ending}
use Rattle.sk_model.specs.declared.record.Ending.TheVariants as ending
use Rattle.sk_model.specs.declared.reply.ErrWord.{ErrWord}
use Rattle.sk_model.specs.declared.reply.Reply.{Reply}
use Rattle.sk_model.specs.declared.reply.Reply.TheVariants as reply
use Rattle.sk_model.specs.declared.step.StepName.{StepName}
use Rattle.sk_model.specs.declared.call.EngineFault.{EngineFault}
use Rattle.sk_model.specs.declared.call.EngineFault.TheVariants as fault
use Rattle.sk_model.specs.declared.call.EngineReply.TheVariants as answer
use Rattle.sk_model.specs.Database.{KeyedRows}
use Rattle.sk_model.specs.Replies.{Answer}
use Rattle.sk_commit.specs.declared.asking.RegistryReply.TheVariants as told
use Rattle.sk_commit.specs.declared.asking.Wish.{Wish}
use Rattle.sk_commit.specs.declared.asking.Got.{Got}
use Rattle.sk_commit.specs.declared.asking.Got.TheVariants as given
use Rattle.sk_commit.specs.declared.committing.Committing.{Committing}
use Rattle.sk_commit.specs.declared.committing.Stepped.TheVariants.{Went, Early, Ended}
use Rattle.sk_commit.specs.declared.committing.Taken.{Taken}
use Rattle.sk_commit.specs.declared.committing.Taken.TheVariants as outcome
use Rattle.sk_session.specs.declared.turn.Turn.{Turn}
use Rattle.sk_session.specs.declared.turn.Turn.TheVariants as turn
use Rattle.sk_session.specs.declared.live.Live.{Live}
use Rattle.sk_session.specs.declared.live.Job.{Job}
use Rattle.sk_session.specs.declared.live.Job.TheVariants as job
use Rattle.sk_session.specs.declared.live.At.{At}
use Rattle.sk_session.specs.declared.live.At.TheVariants as at
use Rattle.sk_session.specs.declared.live.Moved.{Moved}
use Rattle.sk_session.specs.declared.session.Session.{Session}
use Rattle.sk_session.specs.Moving.{record_of, with_last, asks, finish, drops, first_opened, next_opened, give_up, lose, starve, goes_well, closes, hears, say, put_at, put_next, read_now, read_by, read_for, open_or_read, behind_open, answer_now, answer_by, rows_come, fault_at_read, inside_by, judged, inside, count_goes, open_goes, select_goes, read_goes, put_goes, went_on, commit_goes, goes, begins, record_begun, label_after, says, Either, InsideTable, StartsInside, start_stepping, StartsAt, TakesAt, GoesAs, leave_at, noted}
use Rattle.sk_session.specs.Starting.{Starts, Takes, Leaves, moved_to}
use Rattle.sk_session.specs.Conversing.{Exchange, Exchanges, Replied}
use Rattle.sk_session.specs.Over.{HasOver, AreOver, Rests, OneMore, OverStays, RestsStill}
use Rattle.sk_session.proofs.Orderly.{BeginsOrRests, resting_moves}
use Rattle.sk_session.proofs.Recorded.{with_last_seam}

-- these records come of those: the same while the transaction is live, and with another in place of the last one where it is over
abbrev ComesOf : List Record → List Record → At → Type 0
ComesOf records now at.Outside = (last : Record) × (now ≡ with_last records last)
ComesOf records now at.Ended = (last : Record) × (now ≡ with_last records last)
ComesOf records now _ = now ≡ records

module _ (records : List Record) where
  abbrev Moves : Moved → Type 0
  Moves moved = ComesOf records moved.records moved.at

  same_moves : (moved now : Moved) → now ≡ moved → Moves moved → Moves now
  same_moves moved now is m = subst Moves (sym is) m

  either_moves : (x y moved : Moved) → Either x y moved → Moves x → Moves y → Moves moved
  either_moves x y moved (inl is) mx my = subst Moves (sym is) mx
  either_moves x y moved (inr is) mx my = subst Moves (sym is) my

  -- ---- an end

  finish_moves : (live : Live) (how : Ending) (r : Reply) (lost : Bool) → Moves (finish records live how r lost)
  finish_moves live how r true = (record_of live how r, refl)
  finish_moves live how r false = (record_of live how r, refl)

  drops_moves : (live : Live) (o : Option EngineName) (how : Ending) (r : Reply) (lost : Bool) → Moves (drops records live o how r lost)
  drops_moves live None how r lost = finish_moves live how r lost
  drops_moves live (Some e) how r lost = refl

  give_up_moves : (live : Live) (how : Ending) (r : Reply) (lost : Bool) → Moves (give_up records live how r lost)
  give_up_moves live how r lost = drops_moves live (first_opened live) how r lost

  lose_moves : (live : Live) (how : Ending) (r : Reply) → Moves (lose records live how r)
  lose_moves live how r = give_up_moves live how r (not live.small)

  starve_moves : (live : Live) → Moves (starve records live)
  unfolding starve
  starve_moves live = lose_moves live _ _

  -- ---- a statement

  closes_moves : (live : Live) (r : Reply) (well : Bool) → Moves (closes records live r well)
  closes_moves live r true = refl
  closes_moves live r false = give_up_moves live _ r false

  say_moves : (live : Live) (r : Reply) → Moves (say records live r)
  unfolding say
  say_moves live r = by live.small
    where
      by : (small : Bool) → Moves (cond small (closes records live r (goes_well r)) (hears records live r))
      by true = closes_moves live r (goes_well r)
      by false = refl

  put_at_moves : (live : Live) (e : EngineName) (writes : List Write) (done : ℕ) (r : Reply) (o : Option Write) → Moves (put_at records live e writes done r o)
  put_at_moves live e writes done r None = say_moves live r
  put_at_moves live e writes done r (Some w) = refl

  put_next_moves : (live : Live) (e : EngineName) (writes : List Write) (done : ℕ) (r : Reply) → Moves (put_next records live e writes done r)
  unfolding put_next
  put_next_moves live e writes done r = put_at_moves live e writes done r (slice_get writes done)

  read_by_moves : (live : Live) (o : Option (EngineName × ℕ × Option Value)) → Moves (read_by records live o)
  read_by_moves live None = starve_moves live
  read_by_moves live (Some r) = refl

  read_for_moves : (catalog : List Table) (live : Live) → Moves (read_for catalog records live)
  read_for_moves catalog live = read_by_moves live (read_now catalog live.statement)

  open_or_read_moves : (catalog : List Table) (live : Live) (o : Option ℕ) → Moves (open_or_read catalog records live o)
  open_or_read_moves catalog live None = refl
  open_or_read_moves catalog live (Some n) = read_for_moves catalog live

  inside_by_moves : (catalog : List Table) (live : Live) (j : Result EngineName ErrWord) → Moves (inside_by catalog records live j)
  inside_by_moves catalog live (Err word) = say_moves live _
  inside_by_moves catalog live (Ok e) = open_or_read_moves catalog live _

  inside_moves : (catalog : List Table) (live : Live) → Moves (inside catalog records live)
  inside_moves catalog live = inside_by_moves catalog live (judged catalog live.kind live.statement)

  table_moves : (catalog : List Table) (live : Live) (s : Statement) (moved : Moved) → InsideTable catalog records live s moved → Moves moved
  table_moves catalog live s moved (inl is) = same_moves _ moved is (starve_moves live)
  table_moves catalog live s moved (inr is) = either_moves _ _ moved is (inside_moves catalog (says live s)) (starve_moves (says live s))

  said_moves : (catalog : List Table) (live : Live) (s : Option Statement) (moved : Moved) → StartsInside catalog records live s moved → Moves moved
  said_moves catalog live None moved is = same_moves _ moved is refl
  said_moves catalog live (Some (statement.Begin begun)) moved is = same_moves _ moved is refl
  said_moves catalog live (Some statement.Commit) moved is = same_moves _ moved is refl
  said_moves catalog live (Some statement.Rollback) moved is = same_moves _ moved is (give_up_moves (says live statement.Rollback) _ _ _)
  said_moves catalog live (Some (statement.Insert table values)) moved is = table_moves catalog live (statement.Insert table values) moved is
  said_moves catalog live (Some (statement.Select table names c)) moved is = table_moves catalog live (statement.Select table names c) moved is
  said_moves catalog live (Some (statement.Update table sets c)) moved is = table_moves catalog live (statement.Update table sets c) moved is
  said_moves catalog live (Some (statement.Delete table c)) moved is = table_moves catalog live (statement.Delete table c) moved is

  stepping_moves : (live : Live) (c : Committing) (s : Option Statement) → Moves (start_stepping records live c s)
  stepping_moves live c None = refl
  stepping_moves live c (Some statement.Commit) = refl
  stepping_moves live c _ = refl

  -- ---- an answer

  behind_open_moves : (catalog : List Table) (live : Live) (begun : Bool) → Moves (behind_open catalog records live begun)
  behind_open_moves catalog live true = say_moves live _
  behind_open_moves catalog live false = read_for_moves catalog live

  answer_by_moves : (live : Live) (e : EngineName) (o : Option Answer) → Moves (answer_by records live e o)
  answer_by_moves live e None = starve_moves live
  answer_by_moves live e (Some a) = put_next_moves live e a.1 0 a.0

  rows_moves : (catalog : List Table) (live : Live) (e : EngineName) (rows : KeyedRows) → Moves (rows_come catalog records live e rows)
  rows_moves catalog live e rows = answer_by_moves live e (answer_now catalog live.statement rows)

  fault_moves : (live : Live) (e : EngineName) (f : EngineFault) → Moves (fault_at_read records live e f)
  fault_moves live e (fault.Busy by) = say_moves live _
  fault_moves live e (fault.Old snapshot horizon) = lose_moves live _ _
  fault_moves live e (fault.Conflict by why) = lose_moves live _ _
  fault_moves live e fault.Device = lose_moves live _ _
  fault_moves live e fault.NoMemory = lose_moves live _ _

  count_moves : (live : Live) (got : Got) → Moves (count_goes records live got)
  count_moves live (given.Reg (told.Number n)) = refl
  count_moves live _ = starve_moves live

  open_moves : (catalog : List Table) (live : Live) (e : EngineName) (got : Got) → Moves (open_goes catalog records live e got)
  open_moves catalog live e (given.Engine answer.Done) = behind_open_moves catalog live _
  open_moves catalog live e (given.Engine (answer.Fault f)) = lose_moves live _ _
  open_moves catalog live e _ = starve_moves live

  select_moves : (live : Live) (got : Got) → Moves (select_goes records live got)
  select_moves live (given.Reg (told.Selected s)) = refl
  select_moves live (given.Reg (told.Recycled r)) = lose_moves live _ _
  select_moves live _ = starve_moves live

  read_moves : (catalog : List Table) (live : Live) (e : EngineName) (key : Option Value) (got : Got) → Moves (read_goes catalog records live e key got)
  read_moves catalog live e None (given.Engine (answer.Rows rows)) = rows_moves catalog live e rows
  read_moves catalog live e None (given.Engine (answer.Fault f)) = fault_moves live e f
  read_moves catalog live e None _ = starve_moves live
  read_moves catalog live e (Some key) (given.Engine (answer.Found row)) = rows_moves catalog live e _
  read_moves catalog live e (Some key) (given.Engine (answer.Fault f)) = fault_moves live e f
  read_moves catalog live e (Some key) _ = starve_moves live

  put_moves : (live : Live) (e : EngineName) (writes : List Write) (done : ℕ) (r : Reply) (got : Got) → Moves (put_goes records live e writes done r got)
  put_moves live e writes done r (given.Engine answer.Done) = put_next_moves live e writes (done + 1) r
  put_moves live e writes done r (given.Engine (answer.Fault f)) = lose_moves live _ _
  put_moves live e writes done r _ = starve_moves live

  went_on_moves : (live : Live) (c : Committing) (step : StepName) (n : Option ℕ) (whole : Bool) (own : Option Reply) → Moves (went_on records live c step n whole own)
  went_on_moves live c step n true own = refl
  went_on_moves live c step n false own = refl

  commit_moves : (live : Live) (t : Taken) (whole : Bool) (own : Option Reply) → Moves (commit_goes records live t whole own)
  commit_moves live (outcome.More c) whole own = refl
  commit_moves live (outcome.Step (Went c step n)) whole own = went_on_moves _ c step n whole own
  commit_moves live (outcome.Step (Early c floor counter)) whole own = refl
  commit_moves live (outcome.Step (Ended end)) whole own = finish_moves live _ _ false

  goes_moves : (catalog : List Table) (live : Live) (doing : Job) (got : Got) → Moves (goes catalog records live doing got)
  goes_moves catalog live job.Count got = count_moves live got
  goes_moves catalog live (job.Open e n) got = open_moves catalog live e got
  goes_moves catalog live job.Select got = select_moves live got
  goes_moves catalog live (job.Read e t key) got = read_moves catalog live e key got
  goes_moves catalog live (job.Put e writes done r) got = put_moves live e writes done r got
  goes_moves catalog live (job.Commit c whole own) got = commit_moves live _ whole own
  goes_moves catalog live (job.Leave e how r lost) got = drops_moves live (next_opened live e) how r lost

  noted_moves : (catalog : List Table) (live : Live) (doing : Job) (got : Got) (moved : Moved) → Either (goes catalog records (noted live doing got) doing got) (starve records (noted live doing got)) moved → Moves moved
  noted_moves catalog live doing got moved is = either_moves _ _ moved is (goes_moves catalog (noted live doing got) doing got) (starve_moves (noted live doing got))

  taken_moves : (catalog : List Table) (live : Live) (doing : Job) (got : Got) (moved : Moved) → GoesAs catalog records live doing got moved → Moves moved
  taken_moves catalog live (job.Commit c whole own) got moved is = same_moves _ moved is (commit_moves live _ whole own)
  taken_moves catalog live (job.Leave e how r lost) got moved is = same_moves _ moved is (drops_moves live (next_opened live e) how r lost)
  taken_moves catalog live job.Count got moved is = noted_moves catalog live job.Count got moved is
  taken_moves catalog live (job.Open e n) got moved is = noted_moves catalog live (job.Open e n) got moved is
  taken_moves catalog live job.Select got moved is = noted_moves catalog live job.Select got moved is
  taken_moves catalog live (job.Read e t key) got moved is = noted_moves catalog live (job.Read e t key) got moved is
  taken_moves catalog live (job.Put e writes done r) got moved is = noted_moves catalog live (job.Put e writes done r) got moved is

-- ---- each call

-- these records are over there still, they alone or with one more
abbrev Stays : List Record → List Record → At → Type 0
Stays over records there = HasOver over records there ⊎ OneMore over records there

-- where all of these are over, and the session rests there still
rests_so : (over records now : List Record) (there : At) → records ≡ over → now ≡ records → Rests there → Stays over now there
rests_so over records now there are same (inl is) = inl (subst (HasOver over now) (sym is) (same ∙ are))
rests_so over records now there are same (inr is) = inl (subst (HasOver over now) (sym is) (same ∙ are))

-- where a transaction is live
lives_so : (over records now : List Record) (there : At) (open_record : Record) → records ≡ over ++ open_record ∷ [] → open_record.ending ≡ ending.Open → ComesOf records now there → Stays over now there
lives_so over records now at.Outside open_record are is (last, come) = inr (record { last = last; are = come ∙ ap (λ rs. with_last rs last) are ∙ with_last_seam over open_record last; rests = inl refl })
lives_so over records now at.Ended open_record are is (last, come) = inr (record { last = last; are = come ∙ ap (λ rs. with_last rs last) are ∙ with_last_seam over open_record last; rests = inr refl })
lives_so over records now (at.Inside live) open_record are is come = inl (open_record, come ∙ are, is)
lives_so over records now (at.Stepping live c) open_record are is come = inl (open_record, come ∙ are, is)
lives_so over records now (at.Asking live doing) open_record are is come = inl (open_record, come ∙ are, is)

module _ (number : ℕ) (records over : List Record) (are : records ≡ over) where
  begins_so : (moved : Moved) → BeginsOrRests number records moved → Stays over moved.records moved.at
  unfolding begins
  begins_so moved (inl (kind, small, s, is)) =
      subst (λ (m : Moved). Stays over m.records m.at) (sym is) (inl (record_begun (label_after number records) kind, ap (λ rs. rs ++ record_begun (label_after number records) kind ∷ []) are, refl))
  begins_so moved (inr (same, there)) = rests_so over records moved.records moved.at are same there

start_so : (catalog : List Table) (number : ℕ) (records over : List Record) (there : At) (s : Option Statement) (moved : Moved) → StartsAt catalog number records there s moved → HasOver over records there → Stays over moved.records moved.at
start_so catalog number records over at.Outside s moved starts are = begins_so number records over are moved (resting_moves number records catalog at.Outside s moved (inl refl) starts)
start_so catalog number records over at.Ended s moved starts are = begins_so number records over are moved (resting_moves number records catalog at.Ended s moved (inr refl) starts)
start_so catalog number records over (at.Inside live) s moved starts (open_record, are, is) = lives_so over records moved.records moved.at open_record are is (said_moves records catalog live s moved starts)
start_so catalog number records over (at.Stepping live c) s moved starts (open_record, are, is) = lives_so over records moved.records moved.at open_record are is (same_moves records _ moved starts (stepping_moves records live c s))
start_so catalog number records over (at.Asking live doing) s moved starts (open_record, are, is) = lives_so over records moved.records moved.at open_record are is (same_moves records _ moved starts refl)

take_so : (catalog : List Table) (records over : List Record) (there : At) (got : Got) (moved : Moved) → TakesAt catalog records there got moved → HasOver over records there → Stays over moved.records moved.at
take_so catalog records over (at.Asking live doing) got moved takes (open_record, are, is) = lives_so over records moved.records moved.at open_record are is (taken_moves records catalog live doing got moved takes)
take_so catalog records over at.Outside got moved takes are = subst (λ (m : Moved). Stays over m.records m.at) (sym takes) (rests_so over records records at.Outside are refl (inl refl))
take_so catalog records over at.Ended got moved takes are = subst (λ (m : Moved). Stays over m.records m.at) (sym takes) (rests_so over records records at.Ended are refl (inr refl))
take_so catalog records over (at.Inside live) got moved takes (open_record, are, is) = lives_so over records moved.records moved.at open_record are is (same_moves records _ moved takes refl)
take_so catalog records over (at.Stepping live c) got moved takes (open_record, are, is) = lives_so over records moved.records moved.at open_record are is (same_moves records _ moved takes refl)

leave_so : (records over : List Record) (there : At) (moved : Moved) → moved ≡ leave_at records there → HasOver over records there → Stays over moved.records moved.at
leave_so records over at.Outside moved leaves are = subst (λ (m : Moved). Stays over m.records m.at) (sym leaves) (rests_so over records records at.Outside are refl (inl refl))
leave_so records over at.Ended moved leaves are = subst (λ (m : Moved). Stays over m.records m.at) (sym leaves) (rests_so over records records at.Outside are refl (inl refl))
leave_so records over (at.Inside live) moved leaves (open_record, are, is) = lives_so over records moved.records moved.at open_record are is (same_moves records _ moved leaves (give_up_moves records live ending.RolledBack reply.RolledBack false))
leave_so records over (at.Stepping live c) moved leaves (open_record, are, is) = lives_so over records moved.records moved.at open_record are is (same_moves records _ moved leaves refl)
leave_so records over (at.Asking live doing) moved leaves (open_record, are, is) = lives_so over records moved.records moved.at open_record are is (same_moves records _ moved leaves refl)

-- ---- a line

not_inside : (live : Live) → Rests (at.Inside live) → ⊥
not_inside live (inl is) = absurd cc
not_inside live (inr is) = absurd cc

not_stepping : (live : Live) (c : Committing) → Rests (at.Stepping live c) → ⊥
not_stepping live c (inl is) = absurd cc
not_stepping live c (inr is) = absurd cc

not_asking : (live : Live) (doing : Job) → Rests (at.Asking live doing) → ⊥
not_asking live doing (inl is) = absurd cc
not_asking live doing (inr is) = absurd cc

-- where the session rests, an answer changes nothing
rest_takes : (catalog : List Table) (records : List Record) (there : At) (got : Got) (moved : Moved) → TakesAt catalog records there got moved → Rests there → (moved.records ≡ records) × Rests moved.at
rest_takes catalog records at.Outside got moved takes rests = (ap (λ (m : Moved). m.records) takes, inl (ap (λ (m : Moved). m.at) takes))
rest_takes catalog records at.Ended got moved takes rests = (ap (λ (m : Moved). m.records) takes, inr (ap (λ (m : Moved). m.at) takes))
rest_takes catalog records (at.Inside live) got moved takes rests = absurd (not_inside live rests)
rest_takes catalog records (at.Stepping live c) got moved takes rests = absurd (not_stepping live c rests)
rest_takes catalog records (at.Asking live doing) got moved takes rests = absurd (not_asking live doing rests)

module _ {D : Type 0} (answers : D → Wish → Got → D → Type 0) (catalog : List Table) (new : Session) (said : Turn) (after : D) where
  exchanges_rest : (made : List Exchange) (s : Session) (t : Turn) (d : D) → Exchanges answers catalog s t d made new said after → Rests s.at → (new.records ≡ s.records) × Rests new.at
  exchanges_rest [] s t d h rests = (ap (λ (y : Session). y.records) h.0, subst (λ (y : Session). Rests y.at) (sym h.0) rests)
  exchanges_rest (x ∷ made) s t d h rests =
      let takes : Takes catalog s x.got h.3 h.4 = h.7 in
      let one : (h.3.records ≡ s.records) × Rests h.3.at = rest_takes catalog s.records s.at x.got (moved_to h.3 h.4) takes.moves rests in
      let all : (new.records ≡ h.3.records) × Rests new.at = exchanges_rest made h.3 h.4 h.5 h.8 one.1 in
      (all.0 ∙ one.0, all.1)

  -- once one more is over, it stays at that
  exchanges_one : (made : List Exchange) (s : Session) (t : Turn) (d : D) (over : List Record) → Exchanges answers catalog s t d made new said after → OneMore over s.records s.at → OneMore over new.records new.at
  exchanges_one made s t d over h one =
      let all : (new.records ≡ s.records) × Rests new.at = exchanges_rest made s t d h one.rests in
      record { last = one.last; are = all.0 ∙ one.are; rests = all.1 }

  exchanges_stay : (made : List Exchange) (s : Session) (t : Turn) (d : D) (over : List Record) → Exchanges answers catalog s t d made new said after → AreOver over s → Stays over new.records new.at
  exchanges_stay [] s t d over h are = inl (subst (AreOver over) (sym h.0) are)
  exchanges_stay (x ∷ made) s t d over h are =
      let takes : Takes catalog s x.got h.3 h.4 = h.7 in
      ⊎_elim
      (λ (still : AreOver over h.3). exchanges_stay made h.3 h.4 h.5 over h.8 still)
      (λ (one : OneMore over h.3.records h.3.at). inr (exchanges_one made h.3 h.4 h.5 over h.8 one))
      (take_so catalog s.records over s.at x.got (moved_to h.3 h.4) takes.moves are)

-- nor does a STEP, or leaving it
rest_steps : (catalog : List Table) (number : ℕ) (records : List Record) (there : At) (moved : Moved) → StartsAt catalog number records there None moved → Rests there → (moved.records ≡ records) × Rests moved.at
rest_steps catalog number records at.Outside moved starts rests = (ap (λ (m : Moved). m.records) starts, inl (ap (λ (m : Moved). m.at) starts))
rest_steps catalog number records at.Ended moved starts rests = (ap (λ (m : Moved). m.records) starts, inr (ap (λ (m : Moved). m.at) starts))
rest_steps catalog number records (at.Inside live) moved starts rests = absurd (not_inside live rests)
rest_steps catalog number records (at.Stepping live c) moved starts rests = absurd (not_stepping live c rests)
rest_steps catalog number records (at.Asking live doing) moved starts rests = absurd (not_asking live doing rests)

rest_leaves : (records : List Record) (there : At) (moved : Moved) → moved ≡ leave_at records there → Rests there → (moved.records ≡ records) × Rests moved.at
rest_leaves records at.Outside moved leaves rests = (ap (λ (m : Moved). m.records) leaves, inl (ap (λ (m : Moved). m.at) leaves))
rest_leaves records at.Ended moved leaves rests = (ap (λ (m : Moved). m.records) leaves, inl (ap (λ (m : Moved). m.at) leaves))
rest_leaves records (at.Inside live) moved leaves rests = absurd (not_inside live rests)
rest_leaves records (at.Stepping live c) moved leaves rests = absurd (not_stepping live c rests)
rest_leaves records (at.Asking live doing) moved leaves rests = absurd (not_asking live doing rests)

module _ {D : Type 0} (answers : D → Wish → Got → D → Type 0) (catalog : List Table) (old first : Session) (asked : Turn) (desk : D) (new : Session) (after : D) (r : Reply) (replied : Replied answers catalog first asked desk new after r) where
  behind : (over : List Record) → Stays over first.records first.at → AreOver over new ⊎ OneMore over new.records new.at
  behind over begun = ⊎_elim
      (λ (still : AreOver over first). exchanges_stay answers catalog new (turn.Said r) after replied.made first asked desk over replied.goes still)
      (λ (one : OneMore over first.records first.at). inr (exchanges_one answers catalog new (turn.Said r) after replied.made first asked desk over replied.goes one))
      begun

  pub line_stays : (s : Option Statement) → Starts catalog old s first asked → OverStays old new
  line_stays s starts over are = behind over (start_so catalog old.number old.records over old.at s (moved_to first asked) starts.moves are)

  pub left_stays : Leaves old first asked → OverStays old new
  left_stays leaves over are = behind over (leave_so old.records over old.at (moved_to first asked) leaves.moves are)

  rest_on : (first.records ≡ old.records) × Rests first.at → (new.records ≡ old.records) × Rests new.at
  rest_on begun =
      let all : (new.records ≡ first.records) × Rests new.at = exchanges_rest answers catalog new (turn.Said r) after replied.made first asked desk replied.goes begun.1 in
      (all.0 ∙ begun.0, all.1)

  pub line_rests : (s : Option Statement) → Starts catalog old s first asked → s ≡ None → RestsStill old new
  line_rests s starts none rests = rest_on (rest_steps catalog old.number old.records old.at (moved_to first asked) (subst (λ (o : Option Statement). StartsAt catalog old.number old.records old.at o (moved_to first asked)) none starts.moves) rests)

  pub left_rests : Leaves old first asked → RestsStill old new
  left_rests leaves rests = rest_on (rest_leaves old.records old.at (moved_to first asked) leaves.moves rests)
