-- A transaction between two statements: it begins to commit, or is given up.
use Rattle.std.specs.Prelude.{◌≡◌, List, [], ◌∷◌, ◌++◌, Option, Some, None, Bool, true, false, ◌||◌, ◌⊎◌, if◌then◌else◌, is_some}
use Rattle.std.proofs.Common.{refl, sym, ap, subst, ◌∙◌, append-nil}
use Rattle.std.specs.List.{list_any}
use Rattle.sk_rows.specs.declared.table.Table.{Table}
use Rattle.sk_rows.specs.declared.statement.Statement.{Statement}
use Rattle.sk_rows.specs.declared.statement.Statement.TheVariants as statement
use Rattle.sk_model.specs.declared.label.Label.{Label}
use Rattle.sk_model.specs.declared.engine.EngineName.{EngineName}
use Rattle.sk_model.specs.declared.engine.EngineName.TheVariants.{Mem, Store}
use Rattle.sk_model.specs.declared.reply.Reply.{Reply}
use Rattle.sk_model.specs.declared.reply.Reply.TheVariants as reply
use Rattle.sk_model.specs.declared.record.Record.{Record}
use Rattle.sk_model.specs.declared.record.Ending.{Ending}
use Rattle.sk_model.specs.declared.record.Ending.TheVariants as ending
use Rattle.sk_model.specs.Talks.{Talk}
use Rattle.sk_model.specs.Asking.{first_engine}
use Rattle.sk_model.specs.RecordTalks.{Converses, is_check}
use Rattle.sk_commit.specs.declared.committing.Used.{Used}
use Rattle.sk_commit.specs.Committing.{started}
use Rattle.sk_commit.specs.Told.{CanStart, taken_steps}
use Rattle.sk_commit.proofs.Starting.{start_underway, start_talk}
use Rattle.sk_session.specs.Kept.{said_maybe}
use Rattle.sk_session.specs.declared.live.Live.{Live}
use Rattle.sk_session.specs.Moving.{said_now, says, used_of, commits, give_up, drops, opened_store}
use Rattle.sk_session.specs.Speaks.{IsOpen, Stands, Knows, Commits, LastFits, is_given_up, GivenUp, Keeps}
use Rattle.sk_session.proofs.Talking.{spoken_push}
use Rattle.sk_session.proofs.Leaving.{leaves_mem, leaves_store, leaves_none}
use Rattle.sk_session.proofs.Keeping.{finish_keeps}

-- ---- a commit begins

abbrev pub used_as : Bool → Bool → Bool → Bool → Used
used_as om os wm ws = record { open_mem = om; open_store = os; wrote_mem = wm; wrote_store = ws }

pub none_checked : (label : Label) (om os wm ws : Bool) → list_any is_check (taken_steps (started label (used_as om os wm ws))) ≡ false
unfolding started
none_checked label om os true true = refl
none_checked label om os true false = refl
none_checked label om os false true = refl
none_checked label om os false false = refl

-- some engine is open
pub some_open : (live : Live) (e : EngineName) → IsOpen live e → (is_some live.mem || is_some live.store) ≡ true
some_open live Mem is = rw is refl
some_open live Store is = or_true (is_some live.mem) (is_some live.store) is
  where
    or_true : (x y : Bool) → y ≡ true → (x || y) ≡ true
    or_true true y e = refl
    or_true false y e = e

-- COMMIT or STEP of a transaction between two statements
pub commit_begins : (catalog : List Table) (live : Live) (talk : Talk) (now : Option Statement) → Stands catalog live talk → (now ≡ None) ⊎ (now ≡ Some statement.Commit)
    → Commits catalog (record live { statement = now }) (started live.label (used_of live)) None talk
unfolding started
commit_begins catalog live talk now s which =
    let can : CanStart (used_of live) = record { some = some_open live (first_engine live.kind) s.first; open_mem = s.knows.mem_first; open_store = s.knows.store_first } in
    record {
      heard = live.said;
      spoken = talk;
      talk_is = sym (append-nil talk) ∙ ap (λ t. talk ++ t) (sym (start_talk live.label (used_of live) (started live.label (used_of live)) refl can));
      asked = s.said;
      going = s.going;
      heard_is = (refl, which);
      mem = s.knows.mem;
      store = s.knows.store;
      wrote_mem = s.knows.wrote_mem;
      wrote_store = s.knows.wrote_store;
      selection = s.knows.selection;
      label = refl;
      used = refl;
      drew_mem = s.knows.mem_undrawn;
      drew_store = s.knows.store_undrawn;
      passed = s.knows.unpassed ∙ sym (none_checked live.label (is_some live.mem) (is_some live.store) live.wrote_mem live.wrote_store);
      underway = start_underway live.label (used_of live) (started live.label (used_of live)) refl can;
    }

-- ---- it is given up

pub knows_still : (live : Live) (talk : Talk) (now : Option Statement) → Knows live talk → Knows (record live { statement = now }) talk
knows_still live talk now k = record {
  mem = k.mem;
  store = k.store;
  wrote_mem = k.wrote_mem;
  wrote_store = k.wrote_store;
  mem_undrawn = k.mem_undrawn;
  store_undrawn = k.store_undrawn;
  unpassed = k.unpassed;
  selection = k.selection;
  mem_first = k.mem_first;
  store_first = k.store_first;
}

-- it is given up behind the statements that it was answered
pub left_behind : (catalog : List Table) (live : Live) (talk : Talk) (how : Ending) (r : Reply) → is_given_up how ≡ true → Stands catalog live talk → GivenUp catalog live how r talk
left_behind catalog live talk how r given s = record {
  knows = s.knows;
  heard = subst (λ ss. Converses catalog live.label live.kind [] ss talk) (sym (ap (λ o. live.said ++ said_maybe (said_now o r)) s.no_statement ∙ append-nil live.said)) s.said;
  going = s.going;
  last = subst (λ o. LastFits how r o) (sym s.no_statement) tt;
  given_up = given;
}

-- ROLLBACK
pub rolled_back : (catalog : List Table) (live : Live) (talk : Talk) → Stands catalog live talk → GivenUp catalog (says live statement.Rollback) ending.RolledBack reply.RolledBack talk
rolled_back catalog live talk s = record {
  knows = knows_still live talk (Some statement.Rollback) s.knows;
  heard =
      subst (Converses catalog live.label live.kind [] (live.said ++ record { statement = statement.Rollback; reply = reply.RolledBack } ∷ [])) (append-nil talk)
      (spoken_push catalog live.label live.kind [] live.said talk (record { statement = statement.Rollback; reply = reply.RolledBack }) [] s.said s.going (refl, refl));
  going = s.going;
  last = ((λ x is. (is, refl)), (λ l. absurd cc));
  given_up = refl;
}

chosen : {X : Type 0} (P : X → Type 0) (b : Bool) (x y : X) → (b ≡ true → P x) → (b ≡ false → P y) → P (if b then x else y)
chosen P true x y f g = f refl
chosen P false x y f g = g refl

-- what is given up goes on to end its openings, or has ended
pub give_up_keeps : (catalog : List Table) (records : List Record) (live : Live) (how : Ending) (r : Reply) (lost : Bool) (talk : Talk) → GivenUp catalog live how r talk → Keeps catalog records live.label talk (give_up records live how r lost)
give_up_keeps catalog records live how r lost talk over =
    chosen (λ o. Keeps catalog records live.label talk (drops records live o how r lost)) (is_some live.mem) (Some Mem) (opened_store live)
    (λ mem. (refl, refl, leaves_mem catalog live how r talk over mem, refl))
    (λ none. chosen (λ o. Keeps catalog records live.label talk (drops records live o how r lost)) (is_some live.store) (Some Store) None
    (λ store. (refl, refl, leaves_store catalog live how r talk over none store, refl))
    (λ no. finish_keeps catalog records live how r lost talk (leaves_none catalog live how r talk over none no)))

-- a commit that begins asks for its first step
pub commit_keeps : (catalog : List Table) (records : List Record) (live : Live) (talk : Talk) (now : Option Statement) (whole : Bool) → Stands catalog live talk → (now ≡ None) ⊎ (now ≡ Some statement.Commit)
    → Keeps catalog records live.label talk (commits records (record live { statement = now }) whole None)
commit_keeps catalog records live talk now whole s which = (refl, refl, (commit_begins catalog live talk now s which, λ e. refl), refl)
