-- A session hears a line inside of a transaction.
use Rattle.std.specs.Prelude.{◌≡◌, ℕ, List, [], ◌∷◌, ◌++◌, Option, Some, None, Bool, true, false, cond, not, if◌then◌else◌, Ok, Err}
use Rattle.std.proofs.Common.{refl, sym, ap, subst, ◌∙◌, inl, inr}
use Rattle.sk_rows.specs.declared.table.Table.{Table}
use Rattle.sk_rows.specs.declared.statement.Statement.{Statement}
use Rattle.sk_rows.specs.declared.statement.Statement.TheVariants as statement
use Rattle.sk_model.specs.declared.engine.EngineName.{EngineName}
use Rattle.sk_model.specs.declared.record.Record.{Record}
use Rattle.sk_model.specs.declared.record.Ending.TheVariants as ending
use Rattle.sk_model.specs.declared.record.Said.{Said}
use Rattle.sk_model.specs.declared.reply.ErrWord.{ErrWord}
use Rattle.sk_model.specs.declared.reply.ErrWord.TheVariants as err
use Rattle.sk_model.specs.declared.reply.Reply.{Reply}
use Rattle.sk_model.specs.declared.reply.Reply.TheVariants as reply
use Rattle.sk_model.specs.Names.{columns_at}
use Rattle.sk_model.specs.Replies.{refusal_in}
use Rattle.sk_model.specs.Asking.{keeper, may_use, table_named}
use Rattle.sk_model.specs.Spoken.{Seat, Inside, Ended, uses_label}
use Rattle.sk_commit.specs.declared.committing.CommitEnd.{CommitEnd}
use Rattle.sk_commit.specs.declared.committing.CommitEnd.TheVariants.{Committed, CheckFailed, Spent, NoMemory}
use Rattle.sk_commit.specs.declared.committing.Committing.{Committing}
use Rattle.sk_session.specs.declared.live.Live.{Live}
use Rattle.sk_session.specs.declared.live.At.TheVariants as at
use Rattle.sk_session.specs.declared.live.Moved.{Moved}
use Rattle.sk_session.specs.Kept.{said_maybe}
use Rattle.sk_session.specs.Moving.{snapshot_of, said_now, record_now, end_reply, give_up, says, starve, refuses, open_or_read, judged_at, judged_in, inside_by, inside, InsideTable, StartsInside, start_stepping, at_after}
use Rattle.sk_session.specs.Printed.{seat_at, seat_inside, AddsOne, Adds, IsPlain, IsHeard, Hears, IsTold, Ends, Closes}
use Rattle.sk_session.proofs.Recorded.{with_last_seam}
use Rattle.sk_session.proofs.Judged.{word_kept}
use Rattle.sk_session.proofs.Used.{word_used}
use Rattle.sk_session.proofs.Lines.{Goes, either_goes, give_up_goes, starve_goes, say_goes, read_for_goes}

abbrev NoneSaid : List Said → Type 0
NoneSaid part = part ≡ []

-- a line that uses no label adds nothing
pub unused_adds : (seat : Seat) (s : Statement) (r : Reply) → uses_label seat r ≡ false → Adds seat (Some s) r []
unused_adds seat s r unused = by (uses_label seat r) unused
  where
    by : (b : Bool) → b ≡ false → cond b (AddsOne s r []) (NoneSaid [])
    by false e = refl
    by true e = absurd cc

lost_inside : (s : Statement) → IsPlain s → seat_inside (Some s) (reply.Refused err.Memory) ≡ Ended
lost_inside (statement.Begin begun) plain = refl
lost_inside statement.Commit plain = absurd cc
lost_inside statement.Rollback plain = absurd cc
lost_inside (statement.Insert table values) plain = refl
lost_inside (statement.Select table names e) plain = refl
lost_inside (statement.Update table sets e) plain = refl
lost_inside (statement.Delete table e) plain = refl

-- ---- the ends of a commit

-- COMMIT
commit_ends : (live : Live) (end : CommitEnd) → live.statement ≡ Some statement.Commit → Ends Inside (Some statement.Commit) (end_reply end None) live at.Outside
commit_ends live (Committed mem store) is = (inl (ap (λ o. said_maybe (said_now o reply.Committed)) is), refl)
commit_ends live (CheckFailed point mem store) is = (inl (ap (λ o. said_maybe (said_now o (reply.CheckFailed point mem store))) is), refl)
commit_ends live (Spent engine mem) is = (inl (ap (λ o. said_maybe (said_now o (reply.Spent engine))) is), refl)
commit_ends live NoMemory is = (inl (ap (λ o. said_maybe (said_now o (reply.Refused err.Memory))) is), refl)

-- STEP
step_ends : (live : Live) (end : CommitEnd) → live.statement ≡ None → Ends Inside None (end_reply end None) live at.Outside
step_ends live (Committed mem store) is = (ap (λ o. said_maybe (said_now o reply.Committed)) is, refl)
step_ends live (CheckFailed point mem store) is = (ap (λ o. said_maybe (said_now o (reply.CheckFailed point mem store))) is, refl)
step_ends live (Spent engine mem) is = (ap (λ o. said_maybe (said_now o (reply.Spent engine))) is, refl)
step_ends live NoMemory is = (ap (λ o. said_maybe (said_now o (reply.Refused err.Memory))) is, refl)

module _ (catalog : List Table) (front : List Record) (open_record : Record) (live : Live) (none : live.statement ≡ None) (declared : live.small ≡ false) where
  abbrev records : List Record
  records = front ++ open_record ∷ []

  by_commit : Closes Inside (Some statement.Commit) (says live statement.Commit) true None
  by_commit = ((λ no. absurd cc), λ end. commit_ends (says live statement.Commit) end refl)

  by_step : Closes Inside None live false None
  by_step = ((λ no. (refl, refl, none, declared)), λ end. step_ends live end none)

  -- a refusal for where the session stands
  refused_here : (s : Statement) (word : ErrWord) → uses_label Inside (reply.Refused word) ≡ false → seat_inside (Some s) (reply.Refused word) ≡ Inside → Goes Inside (Some s) front open_record live.said (refuses records (at.Inside live) word)
  refused_here s word unused stays = record {
    last = record_now live;
    part = [];
    are = with_last_seam front open_record (record_now live);
    says = refl;
    adds = unused_adds Inside s (reply.Refused word) unused;
    stands = sym stays;
    clear = (none, declared, (front, open_record, refl));
  }

  paused_here : (c : Committing) (s : Statement) → seat_inside (Some s) (reply.Refused err.Committing) ≡ Inside → Goes Inside (Some s) front open_record live.said (refuses records (at.Stepping live c) err.Committing)
  paused_here c s stays = record {
    last = record_now live;
    part = [];
    are = with_last_seam front open_record (record_now live);
    says = refl;
    adds = refl;
    stands = sym stays;
    clear = (none, declared, (front, open_record, refl));
  }

  module _ (s : Statement) (plain : IsPlain s) where
    abbrev ToIt : Moved → Type 0
    ToIt moved = Goes Inside (Some s) front open_record live.said moved

    abbrev new : Live
    new = says live s

    hears : Hears Inside (Some s) new
    hears = (refl, subst (λ b. IsHeard Inside b (Some s)) (sym declared) plain)

    -- memory was wanted for the statement itself
    unheard : ToIt (starve records live)
    unfolding starve
    unheard = give_up_goes Inside (Some s) front open_record live _ (reply.Refused err.Memory) (not live.small) (
      inr (refl, ap (λ o. said_maybe (said_now o (reply.Refused err.Memory))) none),
      ap (λ b. seat_at (at_after (not b))) declared ∙ sym (lost_inside s plain),
    )

    told_goes : (word : ErrWord) → IsTold Inside (reply.Refused word) → ToIt (inside_by catalog records new (Err word))
    told_goes word told = say_goes Inside (Some s) front open_record new (reply.Refused word) hears told

    opens_or_reads : (o : Option ℕ) → ToIt (open_or_read catalog records new o)
    opens_or_reads None = (refl, refl, hears)
    opens_or_reads (Some n) = read_for_goes Inside (Some s) front open_record catalog new hears

    used : (e : EngineName) (b : Bool) → ToIt (inside_by catalog records new (if b then Ok e else Err err.Engine))
    used e true = opens_or_reads (snapshot_of new e)
    used e false = told_goes err.Engine (refl, refl)

    worded : (t : ℕ) (w : Option ErrWord) → refusal_in (columns_at catalog t) s ≡ w → ToIt (inside_by catalog records new (judged_at catalog live.kind t w))
    worded t (Some word) is = told_goes word (word_kept (columns_at catalog t) s word is, word_used (columns_at catalog t) s word is)
    worded t None is = used (keeper catalog t) (may_use live.kind (keeper catalog t))

    tabled : (o : Option ℕ) → ToIt (inside_by catalog records new (judged_in catalog live.kind s o))
    tabled None = told_goes err.Table (refl, refl)
    tabled (Some t) = worded t (refusal_in (columns_at catalog t) s) refl

    heard_table : (moved : Moved) → InsideTable catalog records live s moved → ToIt moved
    heard_table moved (inl is) = subst ToIt (sym is) unheard
    heard_table moved (inr is) = either_goes Inside (Some s) front open_record live.said (inside catalog records new) (starve records new) moved is (tabled (table_named catalog s)) (starve_goes Inside (Some s) front open_record new hears)

  pub hears_inside : (o : Option Statement) (moved : Moved) → StartsInside catalog records live o moved → Goes Inside o front open_record live.said moved
  hears_inside None moved is = subst (Goes Inside None front open_record live.said) (sym is) (refl, refl, by_step)
  hears_inside (Some (statement.Begin begun)) moved is = subst (Goes Inside (Some (statement.Begin begun)) front open_record live.said) (sym is) (refused_here (statement.Begin begun) err.InTransaction refl refl)
  hears_inside (Some statement.Commit) moved is = subst (Goes Inside (Some statement.Commit) front open_record live.said) (sym is) (refl, refl, by_commit)
  hears_inside (Some statement.Rollback) moved is =
      subst (Goes Inside (Some statement.Rollback) front open_record live.said) (sym is) (give_up_goes Inside (Some statement.Rollback) front open_record (says live statement.Rollback) _ reply.RolledBack false (inl refl, refl))
  hears_inside (Some (statement.Insert table values)) moved is = heard_table (statement.Insert table values) (refl, refl) moved is
  hears_inside (Some (statement.Select table names e)) moved is = heard_table (statement.Select table names e) (refl, refl) moved is
  hears_inside (Some (statement.Update table sets e)) moved is = heard_table (statement.Update table sets e) (refl, refl) moved is
  hears_inside (Some (statement.Delete table e)) moved is = heard_table (statement.Delete table e) (refl, refl) moved is

  pub hears_stepping : (c : Committing) (o : Option Statement) → Goes Inside o front open_record live.said (start_stepping records live c o)
  hears_stepping c None = (refl, refl, by_step)
  hears_stepping c (Some statement.Commit) = (refl, refl, by_commit)
  hears_stepping c (Some statement.Rollback) = paused_here c statement.Rollback refl
  hears_stepping c (Some (statement.Begin begun)) = paused_here c (statement.Begin begun) refl
  hears_stepping c (Some (statement.Insert table values)) = paused_here c (statement.Insert table values) refl
  hears_stepping c (Some (statement.Select table names e)) = paused_here c (statement.Select table names e) refl
  hears_stepping c (Some (statement.Update table sets e)) = paused_here c (statement.Update table sets e) refl
  hears_stepping c (Some (statement.Delete table e)) = paused_here c (statement.Delete table e) refl

  -- the session is left
  pub left_inside : Goes Inside None front open_record live.said (give_up records live ending.RolledBack reply.RolledBack false)
  left_inside = give_up_goes Inside None front open_record live ending.RolledBack reply.RolledBack false (ap (λ o. said_maybe (said_now o reply.RolledBack)) none, refl)

  pub left_stepping : (c : Committing) → Goes Inside None front open_record live.said (refuses records (at.Stepping live c) err.Committing)
  left_stepping c = record {
    last = record_now live;
    part = [];
    are = with_last_seam front open_record (record_now live);
    says = refl;
    adds = refl;
    stands = refl;
    clear = (none, declared, (front, open_record, refl));
  }
