-- A statement, STEP, and leaving a session keep the calls of its transaction.
use Rattle.std.specs.Prelude.{◌≡◌, ℕ, List, Option, Some, None, true, false, not, Result, Ok, Err}
use Rattle.std.proofs.Common.{refl, sym, ap, subst, inl, inr}
use Rattle.sk_rows.specs.declared.table.Table.{Table}
use Rattle.sk_rows.specs.declared.statement.Statement.{Statement}
use Rattle.sk_rows.specs.declared.statement.Statement.TheVariants as statement
use Rattle.sk_model.specs.declared.label.Label.{Label}
use Rattle.sk_model.specs.declared.engine.EngineName.{EngineName}
use Rattle.sk_model.specs.declared.reply.ErrWord.{ErrWord}
use Rattle.sk_model.specs.declared.reply.ErrWord.TheVariants as err
use Rattle.sk_model.specs.declared.reply.Reply.TheVariants as reply
use Rattle.sk_model.specs.declared.record.Record.{Record}
use Rattle.sk_model.specs.declared.record.Ending.TheVariants as ending
use Rattle.sk_model.specs.Talks.{Talk}
use Rattle.sk_model.specs.Asking.{kind_begun}
use Rattle.sk_model.specs.RecordTalks.{is_end}
use Rattle.sk_commit.specs.declared.committing.Committing.{Committing}
use Rattle.sk_session.specs.declared.turn.Turn.{Turn}
use Rattle.sk_session.specs.declared.live.Live.{Live}
use Rattle.sk_session.specs.declared.live.At.{At}
use Rattle.sk_session.specs.declared.live.At.TheVariants as at
use Rattle.sk_session.specs.declared.live.Moved.{Moved}
use Rattle.sk_session.specs.declared.session.Session.{Session}
use Rattle.sk_session.specs.Moving.{says, commits, starve, Either, is_begin, begins, label_after, engine_kind, judged_outside, InsideTable, StartsInside, OutsideTable, StartsOutside, start_stepping, start_ended, refuses, StartsAt, leave_at}
use Rattle.sk_session.specs.Speaks.{Stands, Commits, Pauses, Keeps, BegunAt, StartKept, LeaveKept}
use Rattle.sk_session.specs.Starting.{Starts, Leaves, moved_to}
use Rattle.sk_session.proofs.GivenUp.{commit_keeps, left_behind, rolled_back, give_up_keeps}
use Rattle.sk_session.proofs.Opening.{inside_keeps, begins_keep, small_keeps, judges}

-- a statement comes to a commit under way
hears_commit : (catalog : List Table) (live : Live) (c : Committing) (talk : Talk) → Commits catalog live c None talk → Commits catalog (says live statement.Commit) c None talk
hears_commit catalog live c talk w = record {
  heard = w.heard;
  spoken = w.spoken;
  talk_is = w.talk_is;
  asked = w.asked;
  going = w.going;
  heard_is = (w.heard_is.0, inr refl);
  mem = w.mem;
  store = w.store;
  wrote_mem = w.wrote_mem;
  wrote_store = w.wrote_store;
  selection = w.selection;
  label = w.label;
  used = w.used;
  drew_mem = w.drew_mem;
  drew_store = w.drew_store;
  passed = w.passed;
  underway = w.underway;
}

-- memory was wanted for the statement itself
starves : (catalog : List Table) (old : List Record) (live : Live) (talk : Talk) → Stands catalog live talk → Keeps catalog old live.label talk (starve old live)
unfolding starve
starves catalog old live talk stands = give_up_keeps catalog old live ending.NoMemory (reply.Refused err.Memory) (not live.small) talk (left_behind catalog live talk ending.NoMemory (reply.Refused err.Memory) refl stands)

-- a statement inside a transaction that a table answers
table_keeps : (catalog : List Table) (old : List Record) (live : Live) (s : Statement) (moved : Moved) → is_end s ≡ false → is_begin (Some s) ≡ false → InsideTable catalog old live s moved → (talk : Talk) → Stands catalog live talk → Keeps catalog old live.label talk moved
table_keeps catalog old live s moved goes plain (inl starved) talk stands =
    subst (Keeps catalog old live.label talk) (sym starved) (starves catalog old live talk stands)
table_keeps catalog old live s moved goes plain (inr is) talk stands = inside_keeps catalog old live s talk stands goes plain moved is

at_inside : (catalog : List Table) (old : List Record) (live : Live) (s : Option Statement) (moved : Moved) → StartsInside catalog old live s moved → (talk : Talk) → Stands catalog live talk → Keeps catalog old live.label talk moved
at_inside catalog old live None moved is talk stands =
    subst (Keeps catalog old live.label talk) (sym is)
    (subst (λ o. Keeps catalog old live.label talk (commits old (record live { statement = o }) false None)) (sym stands.no_statement) (commit_keeps catalog old live talk None false stands (inl refl)))
at_inside catalog old live (Some statement.Commit) moved is talk stands = subst (Keeps catalog old live.label talk) (sym is) (commit_keeps catalog old live talk (Some statement.Commit) true stands (inr refl))
at_inside catalog old live (Some statement.Rollback) moved is talk stands =
    subst (Keeps catalog old live.label talk) (sym is) (give_up_keeps catalog old (says live statement.Rollback) ending.RolledBack reply.RolledBack false talk (rolled_back catalog live talk stands))
at_inside catalog old live (Some (statement.Begin begun)) moved is talk stands = subst (Keeps catalog old live.label talk) (sym is) (refl, refl, stands)
at_inside catalog old live (Some (statement.Insert table values)) moved is talk stands = table_keeps catalog old live (statement.Insert table values) moved refl refl is talk stands
at_inside catalog old live (Some (statement.Select table names e)) moved is talk stands = table_keeps catalog old live (statement.Select table names e) moved refl refl is talk stands
at_inside catalog old live (Some (statement.Update table sets e)) moved is talk stands = table_keeps catalog old live (statement.Update table sets e) moved refl refl is talk stands
at_inside catalog old live (Some (statement.Delete table e)) moved is talk stands = table_keeps catalog old live (statement.Delete table e) moved refl refl is talk stands

stepping_keeps : (catalog : List Table) (old : List Record) (live : Live) (c : Committing) (s : Option Statement) (talk : Talk) → Pauses catalog live c talk → Keeps catalog old live.label talk (start_stepping old live c s)
stepping_keeps catalog old live c None talk w = (refl, refl, (w.0, λ x. refl), refl)
stepping_keeps catalog old live c (Some statement.Commit) talk w = (refl, refl, (hears_commit catalog live c talk w.0, λ x. absurd cc), refl)
stepping_keeps catalog old live c _ talk w = (refl, refl, w)

-- what is refused where no transaction is live
unmoved : (catalog : List Table) (old : List Record) (label : Label) (there : At) (word : ErrWord) (moved : Moved) → BegunAt catalog old label (refuses old there word) there → moved ≡ refuses old there word → BegunAt catalog old label moved moved.at
unmoved catalog old label there word moved h is = subst (λ (m : Moved). BegunAt catalog old label m m.at) (sym is) h

begun_or : (catalog : List Table) (old : List Record) (label : Label) (x y moved : Moved) → Either x y moved → BegunAt catalog old label x x.at → BegunAt catalog old label y y.at → BegunAt catalog old label moved moved.at
begun_or catalog old label x y moved (inl is) hx hy = subst (λ (m : Moved). BegunAt catalog old label m m.at) (sym is) hx
begun_or catalog old label x y moved (inr is) hx hy = subst (λ (m : Moved). BegunAt catalog old label m m.at) (sym is) hy

outside_table : (catalog : List Table) (number : ℕ) (old : List Record) (s : Statement) (moved : Moved) → is_end s ≡ false → is_begin (Some s) ≡ false → (j : Result EngineName ErrWord) → judged_outside catalog s ≡ j → OutsideTable number old s j moved → BegunAt catalog old (label_after number old) moved moved.at
outside_table catalog number old s moved goes plain (Err word) judged is = unmoved catalog old (label_after number old) at.Outside word moved refl is
outside_table catalog number old s moved goes plain (Ok e) judged is =
    begun_or catalog old (label_after number old) (begins old (label_after number old) (engine_kind e) true s) (refuses old at.Outside err.Memory) moved is
    (small_keeps catalog old (label_after number old) s e goes plain (judges catalog s e judged)) refl

at_outside : (catalog : List Table) (number : ℕ) (old : List Record) (s : Option Statement) (moved : Moved) → StartsOutside catalog number old s moved → BegunAt catalog old (label_after number old) moved moved.at
at_outside catalog number old None moved is = unmoved catalog old (label_after number old) at.Outside err.NoTransaction moved refl is
at_outside catalog number old (Some statement.Commit) moved is = unmoved catalog old (label_after number old) at.Outside err.NoTransaction moved refl is
at_outside catalog number old (Some statement.Rollback) moved is = unmoved catalog old (label_after number old) at.Outside err.NoTransaction moved refl is
at_outside catalog number old (Some (statement.Begin begun)) moved is =
    begun_or catalog old (label_after number old) (begins old (label_after number old) (kind_begun begun) false (statement.Begin begun)) (refuses old at.Ended err.Memory) moved is
    (begins_keep catalog old (label_after number old) (kind_begun begun) false (statement.Begin begun) refl (λ declared p. absurd cc) refl (λ calls r h. (refl, refl, inr h))) refl
at_outside catalog number old (Some (statement.Insert table values)) moved is = outside_table catalog number old (statement.Insert table values) moved refl refl _ refl is
at_outside catalog number old (Some (statement.Select table names e)) moved is = outside_table catalog number old (statement.Select table names e) moved refl refl _ refl is
at_outside catalog number old (Some (statement.Update table sets e)) moved is = outside_table catalog number old (statement.Update table sets e) moved refl refl _ refl is
at_outside catalog number old (Some (statement.Delete table e)) moved is = outside_table catalog number old (statement.Delete table e) moved refl refl _ refl is

at_ended : (catalog : List Table) (label : Label) (old : List Record) (s : Option Statement) → BegunAt catalog old label (start_ended old s) (start_ended old s).at
at_ended catalog label old (Some statement.Commit) = refl
at_ended catalog label old (Some statement.Rollback) = refl
at_ended catalog label old _ = refl

at_start : (catalog : List Table) (number : ℕ) (old : List Record) (there : At) (s : Option Statement) (moved : Moved) → StartsAt catalog number old there s moved → StartKept catalog number old there moved
at_start catalog number old at.Outside s moved is = at_outside catalog number old s moved is
at_start catalog number old at.Ended s moved is = subst (λ (m : Moved). BegunAt catalog old (label_after number old) m m.at) (sym is) (at_ended catalog (label_after number old) old s)
at_start catalog number old (at.Inside live) s moved is = λ talk stands. at_inside catalog old live s moved is talk stands
at_start catalog number old (at.Stepping live c) s moved is = λ talk w. subst (Keeps catalog old live.label talk) (sym is) (stepping_keeps catalog old live c s talk w)
at_start catalog number old (at.Asking live doing) s moved is = (ap (λ (m : Moved). m.records) is, ap (λ (m : Moved). m.at) is)

pub starts_keep : (catalog : List Table) (old : Session) (s : Option Statement) (new : Session) (turn : Turn) → Starts catalog old s new turn → StartKept catalog old.number old.records old.at (moved_to new turn)
starts_keep catalog old s new turn t = at_start catalog old.number old.records old.at s (moved_to new turn) t.moves

at_leave : (old : List Record) (there : At) (moved : Moved) → moved ≡ leave_at old there → LeaveKept old there moved
at_leave old (at.Inside live) moved is = λ catalog talk stands. subst (Keeps catalog old live.label talk) (sym is) (give_up_keeps catalog old live ending.RolledBack reply.RolledBack false talk (left_behind catalog live talk ending.RolledBack reply.RolledBack refl stands))
at_leave old at.Outside moved is = (ap (λ (m : Moved). m.records) is, ap (λ (m : Moved). m.at) is)
at_leave old at.Ended moved is = (ap (λ (m : Moved). m.records) is, ap (λ (m : Moved). m.at) is)
at_leave old (at.Stepping live c) moved is = (ap (λ (m : Moved). m.records) is, ap (λ (m : Moved). m.at) is)
at_leave old (at.Asking live doing) moved is = (ap (λ (m : Moved). m.records) is, ap (λ (m : Moved). m.at) is)

pub leave_keeps : (old new : Session) (turn : Turn) → Leaves old new turn → LeaveKept old.records old.at (moved_to new turn)
leave_keeps old new turn l = at_leave old.records old.at (moved_to new turn) l.moves
