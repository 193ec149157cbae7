-- Each line is answered as the table of refusals has it, and leads where its reply says.
use Rattle.std.specs.Prelude.{◌≡◌, ℕ, ◌+◌, List, [], ◌∷◌, ◌++◌, Option, Some, None, Bool, true, false, cond, not, ◌||◌, if◌then◌else◌, Result, Ok, Err, IfSome}
use Rattle.std.proofs.Common.{refl, sym, ap, subst, ◌∙◌, inl, inr}
use Rattle.sk_rows.specs.declared.table.Table.{Table}
use Rattle.sk_rows.specs.declared.statement.Begun.{Begun}
use Rattle.sk_rows.specs.declared.statement.Statement.{Statement}
use Rattle.sk_rows.specs.declared.statement.Statement.TheVariants as statement
use Rattle.sk_model.specs.declared.engine.EngineName.{EngineName}
use Rattle.sk_model.specs.declared.record.Record.{Record}
use Rattle.sk_model.specs.declared.record.TxKind.{TxKind}
use Rattle.sk_model.specs.declared.reply.ErrWord.{ErrWord}
use Rattle.sk_model.specs.declared.reply.ErrWord.TheVariants as err
use Rattle.sk_model.specs.declared.reply.Reply.{Reply}
use Rattle.sk_model.specs.declared.reply.Reply.TheVariants as reply
use Rattle.sk_model.specs.declared.step.StepName.{StepName}
use Rattle.sk_model.specs.Names.{columns_at}
use Rattle.sk_model.specs.Replies.{refusal_in}
use Rattle.sk_model.specs.Asking.{keeper, may_use, kind_begun, table_named}
use Rattle.sk_model.specs.Spoken.{Outside, uses_label, is_lost, is_out_of_turn, is_for_words}
use Rattle.sk_commit.specs.declared.asking.Wish.{Wish}
use Rattle.sk_commit.specs.declared.asking.Got.{Got}
use Rattle.sk_commit.specs.Fits.{WishFits}
use Rattle.sk_commit.specs.declared.committing.CommitEnd.{CommitEnd}
use Rattle.sk_commit.specs.declared.committing.CommitEnd.TheVariants.{Committed, CheckFailed, Spent, NoMemory}
use Rattle.sk_commit.specs.declared.committing.Committing.{Committing}
use Rattle.sk_session.specs.declared.turn.Turn.{Turn}
use Rattle.sk_session.specs.declared.turn.Turn.TheVariants as turn
use Rattle.sk_session.specs.declared.live.Live.{Live}
use Rattle.sk_session.specs.declared.live.At.{At}
use Rattle.sk_session.specs.declared.live.At.TheVariants as at
use Rattle.sk_session.specs.declared.live.Moved.{Moved}
use Rattle.sk_session.specs.declared.session.Session.{Session}
use Rattle.sk_session.specs.Moving.{snapshot_of, end_reply, says, starve, begins, label_after, engine_kind, at_after, open_or_read, judged_at, judged_in, inside_by, inside, InsideTable, StartsInside, judged_outside_at, judged_outside_in, OutsideTable, StartsOutside, start_stepping, start_ended, StartsAt, TakesAt}
use Rattle.sk_session.specs.Starting.{Starts, Takes, moved_to, fresh}
use Rattle.sk_session.specs.EachTalk.{AnswerFits}
use Rattle.sk_session.specs.Conversing.{Exchange, Exchanges, Replied}
use Rattle.sk_session.specs.Refusals.{words_then, table_refusal}
use Rattle.sk_session.specs.Printed.{Line, IsClear, IsPlain, HasPrinted}
use Rattle.sk_session.specs.Heard.{Stand, stand_at, refusal_by, stand_outside, stand_inside, stand_after, is_by_table, IsRefused, Refuses, RefusesAll, LineRefuses}
use Rattle.sk_session.specs.Heard as stand
use Rattle.sk_session.proofs.Used.{word_used, word_unlabelled}
use Rattle.sk_session.proofs.Judged.{word_kept}
use Rattle.sk_session.proofs.Lines.{lost_used}
use Rattle.sk_session.proofs.Ways.{Replies, Ends, TurnLeads, Leads, either_leads, give_up_leads, starved_leads, say_declared, read_for_leads, take_leads}
use Rattle.sk_session.proofs.Counting.{most_puts, Within, starts_within}
use Rattle.sk_session.proofs.Exchanging.{takes_left, answer_fits}

-- ---- words

-- outside of a transaction the words of the table alone use no label
by_table_unlabelled : (b : Bool) → not b ≡ true → b ≡ false
by_table_unlabelled true is = absurd cc
by_table_unlabelled false is = refl

labelled_not : (r : Reply) (word : ErrWord) → uses_label Outside r ≡ true → r ≡ reply.Refused word → is_by_table word ≡ false
labelled_not r word used is = by_table_unlabelled (is_by_table word) (sym (ap (uses_label Outside) is) ∙ used)

both_false : (x y : Bool) → not x ≡ true → not (x || y) ≡ false → y ≡ true
both_false true y a b = absurd cc
both_false false true a b = refl
both_false false false a b = absurd cc

-- what refuses the words of a statement is one of the words for that
for_words : (catalog : List Table) (t : ℕ) (s : Statement) (word : ErrWord) → refusal_in (columns_at catalog t) s ≡ Some word → is_for_words word ≡ true
for_words catalog t s word is = both_false (is_out_of_turn word) (is_for_words word) (word_used (columns_at catalog t) s word is) (word_unlabelled (columns_at catalog t) s word is)

same_word : (x y : ErrWord) → Some x ≡ Some y → x ≡ y
same_word x y is = cc

told_word : (x y : ErrWord) → reply.Refused x ≡ reply.Refused y → x ≡ y
told_word x y is = cc

-- it stands behind no transaction that was lost
abbrev pub IsInTurn : Stand → Type 0
IsInTurn stand.Ended = ⊥
IsInTurn _ = Unit {0}

module _ (catalog : List Table) (from : Stand) (o : Option Statement) where
  abbrev Obeys : Reply → Type 0
  Obeys r = Refuses catalog from (o, r)

  -- it is refused with the word
  pub refused_obeys : (word : ErrWord) → refusal_by catalog from o ≡ Some word → Obeys (reply.Refused word)
  refused_obeys word is = record {
    refused = λ w e. inl (ap (λ (x : ErrWord). reply.Refused x) (same_word word w (sym is ∙ e)));
    caused = λ w e table. is ∙ ap (λ (x : ErrWord). Some x) (told_word word w e);
    acknowledged = λ ended none. absurd (cc (sym is ∙ none));
  }

  -- or memory was wanted for that
  starved_obeys : (word : ErrWord) → refusal_by catalog from o ≡ Some word → is_for_words word ≡ true → Obeys (reply.Refused err.Memory)
  starved_obeys word is words = record {
    refused = λ w e. inr (ap is_for_words (same_word w word (sym e ∙ is)) ∙ words, refl);
    caused = λ w e table. absurd (cc (sym (labelled_not (reply.Refused err.Memory) w refl e) ∙ table));
    acknowledged = λ ended none. absurd (cc (sym is ∙ none));
  }

  -- the table does not refuse it, and it is answered with none of its words
  pub free_obeys : (r : Reply) → refusal_by catalog from o ≡ None → IsInTurn from → uses_label Outside r ≡ true → Obeys r
  free_obeys r is here used = record {
    refused = λ w e. absurd (cc (sym is ∙ e));
    caused = λ w e table. absurd (cc (sym (labelled_not r w used e) ∙ table));
    acknowledged = λ ended none. absurd (subst IsInTurn ended here);
  }

  -- it leads out, behind a transaction that was lost
  pub left_obeys : refusal_by catalog from o ≡ None → Obeys reply.RolledBack
  left_obeys is = record {
    refused = λ w e. absurd (cc (sym is ∙ e));
    caused = λ w e table. absurd (cc (sym (labelled_not reply.RolledBack w refl e) ∙ table));
    acknowledged = λ ended none. refl;
  }

  -- where the session stands, and its reply
  abbrev Fits : At → Reply → Type 0
  Fits there r = (stand_at there ≡ stand_after from o r) × Obeys r

  -- memory was wanted, whatever the table says of its words
  memory_obeys : (w : Option ErrWord) → IsInTurn from → refusal_by catalog from o ≡ w → IfSome w (λ word. is_for_words word ≡ true) → Obeys (reply.Refused err.Memory)
  memory_obeys None here is words = free_obeys (reply.Refused err.Memory) is here refl
  memory_obeys (Some word) here is words = starved_obeys word is words

-- ---- what a table refuses

abbrev AreForWords : Option ErrWord → Type 0
AreForWords w = IfSome w (λ word. is_for_words word ≡ true)

engine_words : (b : Bool) → AreForWords (if b then None else Some err.Engine)
engine_words true = tt
engine_words false = refl

words_words : (catalog : List Table) (kind : Option TxKind) (s : Statement) (t : ℕ) (w : Option ErrWord) → refusal_in (columns_at catalog t) s ≡ w → AreForWords (words_then catalog kind t w)
words_words catalog kind s t (Some word) is = for_words catalog t s word is
words_words catalog None s t None is = tt
words_words catalog (Some kind) s t None is = engine_words (may_use kind (keeper catalog t))

table_words : (catalog : List Table) (kind : Option TxKind) (s : Statement) (t : Option ℕ) → AreForWords (table_refusal catalog kind s t)
table_words catalog kind s None = refl
table_words catalog kind s (Some t) = words_words catalog kind s t (refusal_in (columns_at catalog t) s) refl

inside_is : (catalog : List Table) (kind : TxKind) (s : Statement) → IsPlain s → refusal_by catalog (stand.Inside kind) (Some s) ≡ table_refusal catalog (Some kind) s (table_named catalog s)
inside_is catalog kind (statement.Begin begun) plain = absurd cc
inside_is catalog kind statement.Commit plain = absurd cc
inside_is catalog kind statement.Rollback plain = absurd cc
inside_is catalog kind (statement.Insert table values) plain = refl
inside_is catalog kind (statement.Select table names e) plain = refl
inside_is catalog kind (statement.Update table sets e) plain = refl
inside_is catalog kind (statement.Delete table e) plain = refl

outside_is : (catalog : List Table) (s : Statement) → IsPlain s → refusal_by catalog stand.Outside (Some s) ≡ table_refusal catalog None s (table_named catalog s)
outside_is catalog (statement.Begin begun) plain = absurd cc
outside_is catalog statement.Commit plain = absurd cc
outside_is catalog statement.Rollback plain = absurd cc
outside_is catalog (statement.Insert table values) plain = refl
outside_is catalog (statement.Select table names e) plain = refl
outside_is catalog (statement.Update table sets e) plain = refl
outside_is catalog (statement.Delete table e) plain = refl

-- where such a statement leads
inside_leads : (kind : TxKind) (s : Statement) (r : Reply) (b : Bool) → IsPlain s → is_lost r ≡ b → stand_inside kind (Some s) r ≡ cond b stand.Ended (stand.Inside kind)
inside_leads kind (statement.Begin begun) r b plain is = absurd cc
inside_leads kind statement.Commit r b plain is = absurd cc
inside_leads kind statement.Rollback r b plain is = absurd cc
inside_leads kind (statement.Insert table values) r b plain is = ap (λ x. cond x stand.Ended (stand.Inside kind)) is
inside_leads kind (statement.Select table names e) r b plain is = ap (λ x. cond x stand.Ended (stand.Inside kind)) is
inside_leads kind (statement.Update table sets e) r b plain is = ap (λ x. cond x stand.Ended (stand.Inside kind)) is
inside_leads kind (statement.Delete table e) r b plain is = ap (λ x. cond x stand.Ended (stand.Inside kind)) is

outside_leads : (s : Statement) (r : Reply) → IsPlain s → stand_outside (Some s) r ≡ stand.Outside
outside_leads (statement.Begin begun) r plain = absurd cc
outside_leads statement.Commit r plain = refl
outside_leads statement.Rollback r plain = refl
outside_leads (statement.Insert table values) r plain = refl
outside_leads (statement.Select table names e) r plain = refl
outside_leads (statement.Update table sets e) r plain = refl
outside_leads (statement.Delete table e) r plain = refl

-- ---- a line outside of a transaction

module _ (catalog : List Table) (number : ℕ) (records : List Record) where
  abbrev Outwards : Option Statement → Moved → Type 0
  Outwards o moved = Leads (Fits catalog stand.Outside o) moved

  small_replies : (s : Statement) (kind : TxKind) → IsPlain s → refusal_by catalog stand.Outside (Some s) ≡ None → Replies (Fits catalog stand.Outside (Some s)) true kind
  small_replies s kind plain free = record {
    lost = λ r l. (sym (outside_leads s r plain), free_obeys catalog stand.Outside (Some s) r free tt (lost_used r l).0);
    kept = λ no. absurd cc;
    closed = λ is r used. (sym (outside_leads s r plain), free_obeys catalog stand.Outside (Some s) r free tt used);
  }

  begin_replies : (b : Begun) → Replies (Fits catalog stand.Outside (Some (statement.Begin b))) false (kind_begun b)
  begin_replies b = record {
    lost = λ r l. (ap (λ x. cond x stand.Ended (stand.Inside (kind_begun b))) (sym l), free_obeys catalog stand.Outside (Some (statement.Begin b)) r refl tt (lost_used r l).0);
    kept = λ is now same r told. (
      ap (λ k. stand.Inside k) same ∙ ap (λ x. cond x stand.Ended (stand.Inside (kind_begun b))) (sym told.0),
      free_obeys catalog stand.Outside (Some (statement.Begin b)) r refl tt told.1,
    );
    closed = λ no. absurd cc;
  }

  begins_leads : (kind : TxKind) (small : Bool) (s : Statement) → Replies (Fits catalog stand.Outside (Some s)) small kind → Outwards (Some s) (begins records (label_after number records) kind small s)
  unfolding begins
  begins_leads kind small s h = h

  module _ (s : Statement) (plain : IsPlain s) where
    abbrev OutTo : Result EngineName ErrWord → Type 0
    OutTo j = (moved : Moved) → OutsideTable number records s j moved → Outwards (Some s) moved

    out_refused : (word : ErrWord) → refusal_by catalog stand.Outside (Some s) ≡ Some word → OutTo (Err word)
    out_refused word refuses moved is = subst (Outwards (Some s)) (sym is) (sym (outside_leads s (reply.Refused word) plain), refused_obeys catalog stand.Outside (Some s) word refuses)

    out_goes : (e : EngineName) → refusal_by catalog stand.Outside (Some s) ≡ None → OutTo (Ok e)
    out_goes e free moved is =
        either_leads (Fits catalog stand.Outside (Some s)) _ _ moved is (begins_leads (engine_kind e) true s (small_replies s (engine_kind e) plain free))
        (sym (outside_leads s (reply.Refused err.Memory) plain), free_obeys catalog stand.Outside (Some s) (reply.Refused err.Memory) free tt refl)

    out_worded : (t : ℕ) (w : Option ErrWord) → refusal_by catalog stand.Outside (Some s) ≡ words_then catalog None t w → OutTo (judged_outside_at catalog t w)
    out_worded t (Some word) refuses = out_refused word refuses
    out_worded t None refuses = out_goes (keeper catalog t) refuses

    out_tabled : (t : Option ℕ) → refusal_by catalog stand.Outside (Some s) ≡ table_refusal catalog None s t → OutTo (judged_outside_in catalog s t)
    out_tabled None refuses = out_refused err.Table refuses
    out_tabled (Some t) refuses = out_worded t (refusal_in (columns_at catalog t) s) refuses

    out_table : OutTo (judged_outside_in catalog s (table_named catalog s))
    out_table = out_tabled (table_named catalog s) (outside_is catalog s plain)

  -- refused for where it stands
  out_of_turn : (o : Option Statement) (moved : Moved) (x : Moved) → moved ≡ x → Outwards o x → Outwards o moved
  out_of_turn o moved x is h = subst (Outwards o) (sym is) h

  from_outside : (o : Option Statement) (moved : Moved) → StartsOutside catalog number records o moved → Outwards o moved
  from_outside None moved is = out_of_turn None moved _ is (refl, refused_obeys catalog stand.Outside None err.NoTransaction refl)
  from_outside (Some statement.Commit) moved is = out_of_turn (Some statement.Commit) moved _ is (refl, refused_obeys catalog stand.Outside (Some statement.Commit) err.NoTransaction refl)
  from_outside (Some statement.Rollback) moved is = out_of_turn (Some statement.Rollback) moved _ is (refl, refused_obeys catalog stand.Outside (Some statement.Rollback) err.NoTransaction refl)
  from_outside (Some (statement.Begin b)) moved is =
      either_leads (Fits catalog stand.Outside (Some (statement.Begin b))) _ _ moved is (begins_leads (kind_begun b) false (statement.Begin b) (begin_replies b))
      (refl, free_obeys catalog stand.Outside (Some (statement.Begin b)) (reply.Refused err.Memory) refl tt refl)
  from_outside (Some (statement.Insert table values)) moved is = out_table (statement.Insert table values) (refl, refl) moved is
  from_outside (Some (statement.Select table names e)) moved is = out_table (statement.Select table names e) (refl, refl) moved is
  from_outside (Some (statement.Update table sets e)) moved is = out_table (statement.Update table sets e) (refl, refl) moved is
  from_outside (Some (statement.Delete table e)) moved is = out_table (statement.Delete table e) (refl, refl) moved is

-- ---- the ends of a commit

-- no end of one is a word of the table, and each leads out
abbrev LeadsOut : Stand → Option Statement → Type 0
LeadsOut from o = (end : CommitEnd) → (stand_after from o (end_reply end None) ≡ stand.Outside) × (uses_label Outside (end_reply end None) ≡ true)

commit_out : (kind : TxKind) → LeadsOut (stand.Inside kind) (Some statement.Commit)
commit_out kind (Committed mem store) = (refl, refl)
commit_out kind (CheckFailed point mem store) = (refl, refl)
commit_out kind (Spent engine mem) = (refl, refl)
commit_out kind NoMemory = (refl, refl)

step_out : (kind : TxKind) → LeadsOut (stand.Inside kind) None
step_out kind (Committed mem store) = (refl, refl)
step_out kind (CheckFailed point mem store) = (refl, refl)
step_out kind (Spent engine mem) = (refl, refl)
step_out kind NoMemory = (refl, refl)

paused_commit_out : LeadsOut stand.Stepping (Some statement.Commit)
paused_commit_out (Committed mem store) = (refl, refl)
paused_commit_out (CheckFailed point mem store) = (refl, refl)
paused_commit_out (Spent engine mem) = (refl, refl)
paused_commit_out NoMemory = (refl, refl)

paused_step_out : LeadsOut stand.Stepping None
paused_step_out (Committed mem store) = (refl, refl)
paused_step_out (CheckFailed point mem store) = (refl, refl)
paused_step_out (Spent engine mem) = (refl, refl)
paused_step_out NoMemory = (refl, refl)

module _ (catalog : List Table) (from : Stand) (o : Option Statement) (free : refusal_by catalog from o ≡ None) (here : IsInTurn from) (out : LeadsOut from o) where
  whole_ends : Ends (Fits catalog from o) true None
  whole_ends = ((λ end. (sym (out end).0, free_obeys catalog from o (end_reply end None) free here (out end).1)), λ no. absurd cc)

  step_ends : ((name : StepName) (n : Option ℕ) → stand_after from o (reply.Step name n) ≡ stand.Stepping) → Ends (Fits catalog from o) false None
  step_ends stays = (
    (λ end. (sym (out end).0, free_obeys catalog from o (end_reply end None) free here (out end).1)),
    λ is now c name n. (sym (stays name n), free_obeys catalog from o (reply.Step name n) free here refl),
  )

-- ---- a line inside of a transaction

module _ (catalog : List Table) (records : List Record) (live : Live) (declared : live.small ≡ false) where
  abbrev Inwards : Option Statement → Moved → Type 0
  Inwards o moved = Leads (Fits catalog (stand.Inside live.kind) o) moved

  module _ (s : Statement) (plain : IsPlain s) where
    abbrev HereFits : At → Reply → Type 0
    HereFits there r = Fits catalog (stand.Inside live.kind) (Some s) there r

    abbrev new : Live
    new = says live s

    -- memory was wanted
    starved_fits : HereFits (at_after (not live.small)) (reply.Refused err.Memory)
    starved_fits = (
      ap (λ b. stand_at (at_after (not b))) declared ∙ sym (inside_leads live.kind s (reply.Refused err.Memory) true plain refl),
      memory_obeys catalog (stand.Inside live.kind) (Some s) (table_refusal catalog (Some live.kind) s (table_named catalog s)) tt (inside_is catalog live.kind s plain) (table_words catalog (Some live.kind) s (table_named catalog s)),
    )

    in_refused : (word : ErrWord) → refusal_by catalog (stand.Inside live.kind) (Some s) ≡ Some word → is_lost (reply.Refused word) ≡ false → Inwards (Some s) (inside_by catalog records new (Err word))
    in_refused word refuses kept =
        say_declared HereFits records new (reply.Refused word) declared
        (sym (inside_leads live.kind s (reply.Refused word) false plain kept), refused_obeys catalog (stand.Inside live.kind) (Some s) word refuses)

    in_replies : refusal_by catalog (stand.Inside live.kind) (Some s) ≡ None → Replies HereFits live.small live.kind
    in_replies free = record {
      lost = λ r l. (
        ap (λ b. stand_at (at_after (not b))) declared ∙ sym (inside_leads live.kind s r true plain l),
        free_obeys catalog (stand.Inside live.kind) (Some s) r free tt (lost_used r l).0,
      );
      kept = λ is now same r told. (
        ap (λ k. stand.Inside k) same ∙ sym (inside_leads live.kind s r false plain told.0),
        free_obeys catalog (stand.Inside live.kind) (Some s) r free tt told.1,
      );
      closed = λ is. absurd (cc (is, declared));
    }

    in_opens : (n : Option ℕ) → Replies HereFits live.small live.kind → Inwards (Some s) (open_or_read catalog records new n)
    in_opens None h = h
    in_opens (Some n) h = read_for_leads HereFits catalog records new h

    in_used : (e : EngineName) (b : Bool) → refusal_by catalog (stand.Inside live.kind) (Some s) ≡ (if b then None else Some err.Engine) → Inwards (Some s) (inside_by catalog records new (if b then Ok e else Err err.Engine))
    in_used e true refuses = in_opens (snapshot_of new e) (in_replies refuses)
    in_used e false refuses = in_refused err.Engine refuses refl

    in_worded : (t : ℕ) (w : Option ErrWord) → refusal_in (columns_at catalog t) s ≡ w → refusal_by catalog (stand.Inside live.kind) (Some s) ≡ words_then catalog (Some live.kind) t w
        → Inwards (Some s) (inside_by catalog records new (judged_at catalog live.kind t w))
    in_worded t (Some word) is refuses = in_refused word refuses (word_kept (columns_at catalog t) s word is)
    in_worded t None is refuses = in_used (keeper catalog t) (may_use live.kind (keeper catalog t)) refuses

    in_tabled : (t : Option ℕ) → refusal_by catalog (stand.Inside live.kind) (Some s) ≡ table_refusal catalog (Some live.kind) s t → Inwards (Some s) (inside_by catalog records new (judged_in catalog live.kind s t))
    in_tabled None refuses = in_refused err.Table refuses refl
    in_tabled (Some t) refuses = in_worded t (refusal_in (columns_at catalog t) s) refl refuses

    in_table : (moved : Moved) → InsideTable catalog records live s moved → Inwards (Some s) moved
    in_table moved (inl is) = subst (Inwards (Some s)) (sym is) (starved_leads HereFits records live starved_fits)
    in_table moved (inr is) = either_leads HereFits (inside catalog records new) (starve records new) moved is (in_tabled (table_named catalog s) (inside_is catalog live.kind s plain)) (starved_leads HereFits records new starved_fits)

  from_inside : (o : Option Statement) (moved : Moved) → StartsInside catalog records live o moved → Inwards o moved
  from_inside None moved is = subst (Inwards None) (sym is) (step_ends catalog (stand.Inside live.kind) None refl tt (step_out live.kind) (λ name n. refl))
  from_inside (Some (statement.Begin b)) moved is = subst (Inwards (Some (statement.Begin b))) (sym is) (refl, refused_obeys catalog (stand.Inside live.kind) (Some (statement.Begin b)) err.InTransaction refl)
  from_inside (Some statement.Commit) moved is = subst (Inwards (Some statement.Commit)) (sym is) (whole_ends catalog (stand.Inside live.kind) (Some statement.Commit) refl tt (commit_out live.kind))
  from_inside (Some statement.Rollback) moved is =
      subst (Inwards (Some statement.Rollback)) (sym is)
      (give_up_leads (Fits catalog (stand.Inside live.kind) (Some statement.Rollback)) records (says live statement.Rollback) _ reply.RolledBack false
      (refl, free_obeys catalog (stand.Inside live.kind) (Some statement.Rollback) reply.RolledBack refl tt refl))
  from_inside (Some (statement.Insert table values)) moved is = in_table (statement.Insert table values) (refl, refl) moved is
  from_inside (Some (statement.Select table names e)) moved is = in_table (statement.Select table names e) (refl, refl) moved is
  from_inside (Some (statement.Update table sets e)) moved is = in_table (statement.Update table sets e) (refl, refl) moved is
  from_inside (Some (statement.Delete table e)) moved is = in_table (statement.Delete table e) (refl, refl) moved is

-- ---- a line between two steps of a commit, and behind a transaction that was lost

module _ (catalog : List Table) (records : List Record) where
  from_stepping : (live : Live) (c : Committing) (o : Option Statement) → Leads (Fits catalog stand.Stepping o) (start_stepping records live c o)
  from_stepping live c None = step_ends catalog stand.Stepping None refl tt paused_step_out (λ name n. refl)
  from_stepping live c (Some statement.Commit) = whole_ends catalog stand.Stepping (Some statement.Commit) refl tt paused_commit_out
  from_stepping live c (Some statement.Rollback) = (refl, refused_obeys catalog stand.Stepping (Some statement.Rollback) err.Committing refl)
  from_stepping live c (Some (statement.Begin b)) = (refl, refused_obeys catalog stand.Stepping (Some (statement.Begin b)) err.Committing refl)
  from_stepping live c (Some (statement.Insert table values)) = (refl, refused_obeys catalog stand.Stepping (Some (statement.Insert table values)) err.Committing refl)
  from_stepping live c (Some (statement.Select table names e)) = (refl, refused_obeys catalog stand.Stepping (Some (statement.Select table names e)) err.Committing refl)
  from_stepping live c (Some (statement.Update table sets e)) = (refl, refused_obeys catalog stand.Stepping (Some (statement.Update table sets e)) err.Committing refl)
  from_stepping live c (Some (statement.Delete table e)) = (refl, refused_obeys catalog stand.Stepping (Some (statement.Delete table e)) err.Committing refl)

  from_ended : (o : Option Statement) → Leads (Fits catalog stand.Ended o) (start_ended records o)
  from_ended None = (refl, refused_obeys catalog stand.Ended None err.Ended refl)
  from_ended (Some statement.Commit) = (refl, left_obeys catalog stand.Ended (Some statement.Commit) refl)
  from_ended (Some statement.Rollback) = (refl, left_obeys catalog stand.Ended (Some statement.Rollback) refl)
  from_ended (Some (statement.Begin b)) = (refl, refused_obeys catalog stand.Ended (Some (statement.Begin b)) err.Ended refl)
  from_ended (Some (statement.Insert table values)) = (refl, refused_obeys catalog stand.Ended (Some (statement.Insert table values)) err.Ended refl)
  from_ended (Some (statement.Select table names e)) = (refl, refused_obeys catalog stand.Ended (Some (statement.Select table names e)) err.Ended refl)
  from_ended (Some (statement.Update table sets e)) = (refl, refused_obeys catalog stand.Ended (Some (statement.Update table sets e)) err.Ended refl)
  from_ended (Some (statement.Delete table e)) = (refl, refused_obeys catalog stand.Ended (Some (statement.Delete table e)) err.Ended refl)

-- ---- a line, and its answers

start_leads : (catalog : List Table) (number : ℕ) (records : List Record) (there : At) (o : Option Statement) (moved : Moved) → IsClear records there → StartsAt catalog number records there o moved → Leads (Fits catalog (stand_at there) o) moved
start_leads catalog number records at.Outside o moved clear starts = from_outside catalog number records o moved starts
start_leads catalog number records (at.Inside live) o moved clear starts = from_inside catalog records live clear.1 o moved starts
start_leads catalog number records (at.Stepping live c) o moved clear starts = subst (Leads (Fits catalog stand.Stepping o)) (sym starts) (from_stepping catalog records live c o)
start_leads catalog number records at.Ended o moved clear starts = subst (Leads (Fits catalog stand.Ended o)) (sym starts) (from_ended catalog records o)
start_leads catalog number records (at.Asking live doing) o moved clear starts = absurd clear

module _ (P : At → Reply → Type 0) (catalog : List Table) where
  next_leads : (old new : Session) (w : Wish) (t : Turn) (got : Got) (n : ℕ) → Within most_puts n old.at (turn.Ask w) → WishFits w got → Takes catalog old got new t → TurnLeads P old.at (turn.Ask w) → TurnLeads P new.at t
  next_leads old new w t got n within fits takes h = by old.at takes.moves (answer_fits most_puts n old.at w got within fits) h
    where
      by : (there : At) → TakesAt catalog old.records there got (moved_to new t) → AnswerFits there got → TurnLeads P there (turn.Ask w) → TurnLeads P new.at t
      by (at.Asking live doing) moves answer h = take_leads P catalog old.records live doing got (moved_to new t) h answer moves
      by _ moves answer h = absurd h

  -- however many calls it asks for, it leads to what its reply is to be
  replies_lead : {D : Type 0} (answers : D → Wish → Got → D → Type 0) (made : List Exchange) (s : Session) (t : Turn) (d : D) (end : Session) (r : Reply) (last : D) → Exchanges answers catalog s t d made end (turn.Said r) last
      → Within most_puts (most_puts + 14) s.at t → TurnLeads P s.at t → P end.at r
  replies_lead answers [] s t d end r last x within h = subst (λ (y : Session). P y.at r) (sym x.0) (subst (TurnLeads P s.at) (sym x.1) h)
  replies_lead answers (e ∷ made) s t d end r last x within h =
      let here : Within most_puts (most_puts + 14) s.at (turn.Ask e.wish) = subst (Within most_puts (most_puts + 14) s.at) x.0 within in
      replies_lead answers made x.3 x.4 x.5 end r last x.8 (takes_left most_puts catalog s x.3 e.wish x.4 e.got (most_puts + 14) here x.2 x.7)
      (next_leads s x.3 e.wish x.4 e.got (most_puts + 14) here x.1 x.7 (subst (TurnLeads P s.at) x.0 h))

pub line_refuses : {D : Type 0} (answers : D → Wish → Got → D → Type 0) (catalog : List Table) (old first : Session) (asked : Turn) (desk : D) (new : Session) (after : D) (r : Reply) → Replied answers catalog first asked desk new after r
    → (o : Option Statement) → Starts catalog old o first asked → LineRefuses catalog old o new r
line_refuses answers catalog old first asked desk new after r replied o starts clear =
    replies_lead (Fits catalog (stand_at old.at) o) catalog answers replied.made first asked desk new r after replied.goes
    (starts_within most_puts catalog old.number old.records old.at o (moved_to first asked) starts.moves)
    (start_leads catalog old.number old.records old.at o (moved_to first asked) clear starts.moves)

-- ---- line by line

pub refuses_push : (catalog : List Table) (from end now : Stand) (lines : List Line) (line : Line) → RefusesAll catalog from lines end → now ≡ stand_after end line.0 line.1 → Refuses catalog end line → RefusesAll catalog from (lines ++ line ∷ []) now
refuses_push catalog from end now [] line all leads one = (subst (λ x. Refuses catalog x line) all one, leads ∙ ap (λ x. stand_after x line.0 line.1) all)
refuses_push catalog from end now (l ∷ ls) line all leads one = (all.0, refuses_push catalog (stand_after from l.0 l.1) end now ls line all.1 leads one)

-- one line more
pub refuses_on : (catalog : List Table) (lines : List Line) (old : Session) (o : Option Statement) (new : Session) (r : Reply) → HasPrinted lines old → LineRefuses catalog old o new r
    → RefusesAll catalog stand.Outside lines (stand_at old.at) → RefusesAll catalog stand.Outside (lines ++ (o, r) ∷ []) (stand_at new.at)
refuses_on catalog lines old o new r printed one all =
    let h : (stand_at new.at ≡ stand_after (stand_at old.at) o r) × Refuses catalog (stand_at old.at) (o, r) = one printed.clear in
    refuses_push catalog stand.Outside (stand_at old.at) (stand_at new.at) lines (o, r) all h.0 h.1

-- a session that has heard no line
pub new_refuses : (catalog : List Table) (number : ℕ) → RefusesAll catalog stand.Outside [] (stand_at (fresh number).at)
new_refuses catalog number = refl
