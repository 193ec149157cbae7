-- Each move of a session keeps its facts, and is in order.
use Rattle.std.specs.Prelude.{◌≡◌, ℕ, List, Option, Some, None, Bool, true, false, if◌then◌else◌, Ok, Err}
use Rattle.std.proofs.Common.{refl, sym, subst, inl, inr}
use Rattle.sk_rows.specs.declared.table.Table.{Table}
use Rattle.sk_rows.specs.declared.statement.Statement.{Statement}
use Rattle.sk_rows.specs.declared.statement.Statement.TheVariants as statement
use Rattle.sk_model.specs.declared.engine.EngineName.{EngineName}
use Rattle.sk_model.specs.declared.engine.EngineName.TheVariants.{Mem, Store}
use Rattle.sk_model.specs.declared.record.TxKind.{TxKind}
use Rattle.sk_model.specs.declared.record.Record.{Record}
use Rattle.sk_model.specs.declared.reply.ErrWord.{ErrWord}
use Rattle.sk_model.specs.declared.reply.ErrWord.TheVariants as err
use Rattle.sk_model.specs.Names.{columns_at}
use Rattle.sk_model.specs.Replies.{refusal_in}
use Rattle.sk_model.specs.Asking.{keeper, may_use, first_engine, table_named}
use Rattle.sk_model.specs.Talks.{Talk}
use Rattle.sk_commit.specs.declared.asking.RegistryReply.TheVariants as told
use Rattle.sk_commit.specs.declared.asking.Got.{Got}
use Rattle.sk_commit.specs.declared.asking.Got.TheVariants as given
use Rattle.sk_commit.specs.declared.committing.Committing.{Committing}
use Rattle.sk_session.specs.declared.live.Live.{Live}
use Rattle.sk_session.specs.declared.live.Job.{Job}
use Rattle.sk_session.specs.declared.live.Job.TheVariants as job
use Rattle.sk_session.specs.declared.live.At.TheVariants as at
use Rattle.sk_session.specs.declared.live.Moved.{Moved}
use Rattle.sk_session.specs.Moving.{snapshot_of, record_now, says, refuses, open_or_read, judged_at, judged_in, inside_by, inside, InsideTable, StartsInside, start_stepping, GoesAs, next_opened}
use Rattle.sk_session.specs.Speaks.{IsOpen, JobSpeaks}
use Rattle.sk_session.specs.EachTalk.{Unselected, OrderlyJob, AnswerFits}
use Rattle.sk_session.specs.Facts.{facts_taken}
use Rattle.sk_session.proofs.Opening.{only_store}
use Rattle.sk_session.proofs.SoFar.{live_facts, HasFacts, same_facts, same_move, either_has, asks_has, drops_has, give_up_has, starve_has, commits_has, say_has, read_for_has}
use Rattle.sk_session.proofs.Answered.{Before, count_moves, open_moves, select_moves, read_moves, put_moves, counter_adds, open_adds, select_adds, read_adds, put_adds, leave_adds}
use Rattle.sk_session.proofs.Stepped.{commit_has, commit_adds}

-- ---- an answer

-- what is known of what is waited for
pub before_of : (catalog : List Table) (live : Live) (doing : Job) (talk : Talk) → JobSpeaks catalog live doing talk → OrderlyJob live doing → Before live doing
before_of catalog live job.Count talk w o = (w.knows.0, o)
before_of catalog live (job.Open e n) talk w o = o
before_of catalog live job.Select talk w o = (w.knows.1, o)
before_of catalog live (job.Read e t key) talk w o = o
before_of catalog live (job.Put e writes done r) talk w o = o
before_of catalog live (job.Commit c whole own) talk w o = o
before_of catalog live (job.Leave e how r lost) talk w o = o

module _ (catalog : List Table) (records : List Record) (live : Live) (got : Got) (talk : Talk) (moved : Moved) where
  -- an answer leaves of the facts of the live transaction what it adds to them
  pub taken_has : (doing : Job) → JobSpeaks catalog live doing talk → OrderlyJob live doing → AnswerFits (at.Asking live doing) got → GoesAs catalog records live doing got moved
      → HasFacts (at.Asking live doing) got (Before live doing) records (facts_taken (at.Asking live doing) got (live_facts live)) moved
  taken_has job.Count w o fits is = same_facts (counter_adds (first_engine live.kind) got (live_facts live)) (count_moves catalog records live got moved is)
  taken_has (job.Open e n) w o fits is = same_facts (open_adds live e n got) (open_moves catalog records live e n got moved is)
  taken_has job.Select w o fits is = same_facts (select_adds live got o w.answering.knows.unpassed) (select_moves catalog records live got moved is)
  taken_has (job.Read e t key) w o fits is = same_facts (read_adds live e t key got (live_facts live)) (read_moves catalog records live e t key got moved is)
  taken_has (job.Put e writes done r) w o fits is = same_facts (put_adds live e writes done got) (put_moves catalog records live e writes done r got moved is)
  taken_has (job.Commit c whole own) w o fits is =
      same_move is (same_facts (commit_adds catalog live c own talk got w.0 fits) (commit_has _ got _ records live _ whole own))
  taken_has (job.Leave e how r lost) w o fits is =
      same_move is (same_facts (leave_adds live e got (live_facts live)) (drops_has _ got _ records live (next_opened live e) how r lost))

-- ---- a statement inside a transaction

-- no answer was given: a statement has been said
abbrev pub unasked : Got
unasked = given.Reg told.Done

module _ (catalog : List Table) (records : List Record) where
  -- what is known of a transaction that hears a statement
  abbrev pub Ready : Live → Type 0
  Ready live = Unselected live × IsOpen live (first_engine live.kind)

  abbrev pub HasStill : Live → Moved → Type 0
  HasStill live moved = HasFacts at.Outside unasked (Ready live) records (live_facts live) moved

  stays_has : (live : Live) (word : ErrWord) → HasStill live (refuses records (at.Inside live) word)
  stays_has live word = record { last = record_now live; so_far_are = refl; facts_are = refl; orderly = λ g. g.0; opens = λ g. tt }

  open_or_read_has : (live : Live) (e : EngineName) → may_use live.kind e ≡ true → (o : Option ℕ) → snapshot_of live e ≡ o → HasStill live (open_or_read catalog records live o)
  open_or_read_has live e usable (Some n) is = read_for_has _ _ _ records live (λ g. g.0) catalog
  open_or_read_has live e usable None is = asks_has _ _ _ records live job.Select _ (λ g. g.0 (none (only_store live live.kind e usable g.1 is).0)) (λ g. tt)
    where
      none : Store ≡ e → live.store ≡ None
      none same = subst (λ x. snapshot_of live x ≡ None) (sym same) is

  used_has : (live : Live) (e : EngineName) (b : Bool) → may_use live.kind e ≡ b → HasStill live (inside_by catalog records live (if b then Ok e else Err err.Engine))
  used_has live e true usable = open_or_read_has live e usable (snapshot_of live e) refl
  used_has live e false usable = say_has _ _ _ records live (λ g. g.0) _

  word_has : (live : Live) (t : ℕ) (w : Option ErrWord) → HasStill live (inside_by catalog records live (judged_at catalog live.kind t w))
  word_has live t (Some word) = say_has _ _ _ records live (λ g. g.0) _
  word_has live t None = used_has live (keeper catalog t) (may_use live.kind (keeper catalog t)) refl

  table_has : (live : Live) (s : Statement) (o : Option ℕ) → HasStill live (inside_by catalog records live (judged_in catalog live.kind s o))
  table_has live s None = say_has _ _ _ records live (λ g. g.0) _
  table_has live s (Some t) = word_has live t (refusal_in (columns_at catalog t) s)

  inside_has : (live : Live) (s : Statement) → HasStill (says live s) (inside catalog records (says live s))
  inside_has live s = table_has (says live s) s (table_named catalog s)

  -- to hear a statement changes nothing that is known
  says_has : (live : Live) (s : Statement) (moved : Moved) → HasStill (says live s) moved → HasStill live moved
  says_has live s moved h = record { last = h.last; so_far_are = h.so_far_are; facts_are = h.facts_are; orderly = λ g. h.orderly (g.0, still live.kind g.1); opens = λ g. h.opens (g.0, still live.kind g.1) }
    where
      on_engine : (e : EngineName) → IsOpen live e → IsOpen (says live s) e
      on_engine Mem is = is
      on_engine Store is = is

      still : (k : TxKind) → IsOpen live (first_engine k) → IsOpen (says live s) (first_engine k)
      still k is = on_engine (first_engine k) is

  inside_has_still : (live : Live) (s : Statement) (moved : Moved) → InsideTable catalog records live s moved → HasStill live moved
  inside_has_still live s moved (inl is) = same_move is (starve_has _ _ _ records live)
  inside_has_still live s moved (inr is) = says_has live s moved (either_has _ _ _ records _ _ _ moved is (inside_has live s) (starve_has _ _ _ records (says live s)))

  pub inside_said : (live : Live) (s : Option Statement) (moved : Moved) → StartsInside catalog records live s moved → HasStill live moved
  inside_said live None moved is = same_move is (commits_has _ _ _ records live _ _)
  inside_said live (Some (statement.Begin begun)) moved is = same_move is (stays_has live err.InTransaction)
  inside_said live (Some statement.Commit) moved is = same_move is (says_has live statement.Commit _ (commits_has _ _ _ records (says live statement.Commit) _ _))
  inside_said live (Some statement.Rollback) moved is = same_move is (says_has live statement.Rollback _ (give_up_has _ _ _ records (says live statement.Rollback) _ _ _))
  inside_said live (Some (statement.Insert table values)) moved is = inside_has_still live (statement.Insert table values) moved is
  inside_said live (Some (statement.Select table names c)) moved is = inside_has_still live (statement.Select table names c) moved is
  inside_said live (Some (statement.Update table sets c)) moved is = inside_has_still live (statement.Update table sets c) moved is
  inside_said live (Some (statement.Delete table c)) moved is = inside_has_still live (statement.Delete table c) moved is

  pub stepping_said : (live : Live) (c : Committing) (s : Option Statement) → HasFacts at.Outside unasked (Unit {0}) records (live_facts live) (start_stepping records live c s)
  stepping_said live c None = asks_has _ _ _ records live (job.Commit c false None) _ (λ g. tt) (λ g. tt)
  stepping_said live c (Some statement.Commit) = asks_has _ _ _ records (says live statement.Commit) (job.Commit c true None) _ (λ g. tt) (λ g. tt)
  stepping_said live c _ = record { last = record_now live; so_far_are = refl; facts_are = refl; orderly = λ g. tt; opens = λ g. tt }
