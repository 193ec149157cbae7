-- A transaction that commits: what a step adds, and how its record has just the calls that it made.
use Rattle.std.specs.Prelude.{◌≡◌, ℕ, ◌<◌, List, [], ◌∷◌, ◌++◌, Option, Some, None, Bool, true, false, cond, ◌||◌, ◌⊎◌, IfSome, is_some}
use Rattle.std.proofs.Common.{refl, sym, ap, subst, ◌∙◌, inl, inr, append-nil, append_assoc}
use Rattle.std.specs.List.{list_any, AllByRecursion}
use Rattle.std.proofs.lemmas.Bool.{or_parts}
use Rattle.sk_rows.specs.declared.table.Table.{Table}
use Rattle.sk_rows.specs.declared.statement.Statement.{Statement}
use Rattle.sk_rows.specs.declared.statement.Statement.TheVariants as statement
use Rattle.sk_model.specs.declared.engine.EngineName.TheVariants.{Mem, Store}
use Rattle.sk_model.specs.declared.reply.Reply.{Reply}
use Rattle.sk_model.specs.declared.reply.Reply.TheVariants as reply
use Rattle.sk_model.specs.declared.reply.ErrWord.TheVariants as err
use Rattle.sk_model.specs.declared.record.Said.{Said}
use Rattle.sk_model.specs.declared.record.Record.{Record}
use Rattle.sk_model.specs.declared.step.StepName.{StepName}
use Rattle.sk_model.specs.declared.step.StepName.TheVariants.{CloseMem, CloseStore, DrawMem, DrawStore, Check, StampMem, StampStore}
use Rattle.sk_model.specs.Replies.{is_judged}
use Rattle.sk_model.specs.Spoken.{is_lost}
use Rattle.sk_model.specs.Talks.{Talk, wrote}
use Rattle.sk_model.specs.Records.{is_committed}
use Rattle.sk_model.specs.RecordTalks.{Converses, is_last, is_end, number_or_none, commit_steps, steps_calls, left_by, owes, is_open, leaves_of, is_check, EndsAt, EndReplyTo, EndReply, CommitReply, lost_ending, Outdone}
use Rattle.sk_commit.specs.declared.committing.Used.{Used}
use Rattle.sk_commit.specs.declared.committing.CommitEnd.{CommitEnd}
use Rattle.sk_commit.specs.declared.committing.CommitEnd.TheVariants.{Committed, CheckFailed, Spent, NoMemory}
use Rattle.sk_commit.specs.declared.committing.Committing.{Committing}
use Rattle.sk_commit.specs.Committing.{owes_mem, owes_store}
use Rattle.sk_commit.specs.Told.{same_step, steps_before, steps_from, steps_of, taken_until, not_taken, numbered, refused_at, talk_of, talk_at_end, has_refused, refuses, EndHas, HasEnded}
use Rattle.sk_session.specs.Kept.{listed, said_maybe}
use Rattle.sk_session.specs.declared.live.Live.{Live}
use Rattle.sk_session.specs.Moving.{said_now, passed_at, record_of, used_of, end_ending, end_reply}
use Rattle.sk_session.specs.Speaks.{Commits, Over}
use Rattle.sk_session.proofs.Talking.{spoken_push}

-- ---- the steps

cut_or : (b : Bool) (t : StepName) (ts before from : List StepName) → ts ≡ before ++ from → t ∷ ts ≡ cond b [] (t ∷ before) ++ cond b (t ∷ ts) from
cut_or true t ts before from e = refl
cut_or false t ts before from e = ap (λ us. t ∷ us) e

before_from : (s : StepName) (ts : List StepName) → ts ≡ steps_before s ts ++ steps_from s ts
before_from s [] = refl
before_from s (t ∷ ts) = cut_or (same_step s t) t ts (steps_before s ts) (steps_from s ts) (before_from s ts)

pub cut_steps : (used : Used) (o : Option StepName) → steps_of used ≡ taken_until used o ++ not_taken used o
cut_steps used None = sym (append-nil (steps_of used))
cut_steps used (Some s) = before_from s (steps_of used)

abbrev used_as : Bool → Bool → Bool → Bool → Used
used_as om os wm ws = record { open_mem = om; open_store = os; wrote_mem = wm; wrote_store = ws }

-- a commit of nothing has no step
pub no_step : (om os : Bool) (s : StepName) → has_refused (used_as om os false false) (Some s) ≡ true → ⊥
no_step om os CloseMem e = absurd cc
no_step om os CloseStore e = absurd cc
no_step om os DrawMem e = absurd cc
no_step om os DrawStore e = absurd cc
no_step om os Check e = absurd cc
no_step om os StampMem e = absurd cc
no_step om os StampStore e = absurd cc

-- what was refused is how it ended
ends_at : (om os wm ws : Bool) (o : Option StepName) (end : CommitEnd) → has_refused (used_as om os wm ws) o ≡ true → refuses o end ≡ true → EndsAt (end_ending end) (taken_until (used_as om os wm ws) o) (not_taken (used_as om os wm ws) o)
ends_at om os wm ws None (Committed mem store) has so = inl refl
ends_at om os true true (Some CloseMem) NoMemory has so = refl
ends_at om os true false (Some CloseMem) NoMemory has so = refl
ends_at om os true true (Some CloseStore) NoMemory has so = refl
ends_at om os false true (Some CloseStore) NoMemory has so = refl
ends_at om os true true (Some DrawMem) (Spent Mem mem) has so = refl
ends_at om os true false (Some DrawMem) (Spent Mem mem) has so = refl
ends_at om os true true (Some DrawStore) (Spent Store mem) has so = refl
ends_at om os false true (Some DrawStore) (Spent Store mem) has so = refl
ends_at om os true true (Some Check) (CheckFailed point mem store) has so = refl
ends_at om os false false (Some s) end has so = absurd (no_step om os s has)
ends_at om os wm ws o end has so = absurd cc

is_ended : (end : CommitEnd) → is_open (end_ending end) ≡ false
is_ended (Committed mem store) = refl
is_ended (CheckFailed point mem store) = refl
is_ended (Spent engine mem) = refl
is_ended NoMemory = refl

-- no step of who is committed was refused
none_left : (used : Used) (o : Option StepName) (end : CommitEnd) → refuses o end ≡ true → is_committed (end_ending end) ≡ true → not_taken used o ≡ []
none_left used None (Committed mem store) so c = refl
none_left used (Some CloseMem) (Committed mem store) so c = absurd cc
none_left used (Some CloseStore) (Committed mem store) so c = absurd cc
none_left used (Some DrawMem) (Committed mem store) so c = absurd cc
none_left used (Some DrawStore) (Committed mem store) so c = absurd cc
none_left used (Some Check) (Committed mem store) so c = absurd cc
none_left used (Some StampMem) (Committed mem store) so c = absurd cc
none_left used (Some StampStore) (Committed mem store) so c = absurd cc
none_left used o (CheckFailed point mem store) so c = absurd cc
none_left used o (Spent engine mem) so c = absurd cc
none_left used o NoMemory so c = absurd cc

owes_mem_is : (end : CommitEnd) (snapshot : Option ℕ) (os wm ws : Bool) → owes (end_ending end) snapshot wm ≡ owes_mem (used_as (is_some snapshot) os wm ws) end
owes_mem_is (Committed mem store) snapshot os wm ws = refl
owes_mem_is (CheckFailed point mem store) snapshot os wm ws = refl
owes_mem_is (Spent engine mem) snapshot os wm ws = refl
owes_mem_is NoMemory snapshot os wm ws = refl

owes_store_is : (end : CommitEnd) (snapshot : Option ℕ) (om wm ws : Bool) → owes (end_ending end) snapshot ws ≡ owes_store (used_as om (is_some snapshot) wm ws) end
owes_store_is (Committed mem store) snapshot om wm ws = refl
owes_store_is (CheckFailed point mem store) snapshot om wm ws = refl
owes_store_is (Spent engine mem) snapshot om wm ws = refl
owes_store_is NoMemory snapshot om wm ws = refl

pub point_made : (b : Bool) (mem store : Option ℕ) → listed (passed_at b mem store) ≡ cond b (record { a = number_or_none mem; b = number_or_none store; commit = true } ∷ []) []
point_made true mem store = refl
point_made false mem store = refl

module _ (catalog : List Table) (live : Live) (c : Committing) (own : Option Reply) (talk more : Talk) (end : CommitEnd) (w : Commits catalog live c own talk) (h : HasEnded c end (talk_of c ++ more)) where
  abbrev final : Record
  final = record_of live (end_ending end) (end_reply end own)

  abbrev taken : List StepName
  taken = taken_until c.used (refused_at c.stage end)

  -- what is left is what the ends of its openings were
  leaves_are : left_by c.label Mem (owes_mem c.used end) c.mem ++ left_by c.label Store (owes_store c.used end) c.store ≡ leaves_of final (wrote Mem w.spoken) (wrote Store w.spoken)
  leaves_are =
      ap (λ l. left_by l Mem (owes_mem c.used end) c.mem ++ left_by l Store (owes_store c.used end) c.store) w.label
      ∙ ap (λ (u : Used). left_by live.label Mem (owes_mem u end) c.mem ++ left_by live.label Store (owes_store u end) c.store) w.used
      ∙ ap (λ (b : Bool). left_by live.label Mem b c.mem ++ left_by live.label Store (owes_store (used_of live) end) c.store) (sym (owes_mem_is end live.mem (is_some live.store) live.wrote_mem live.wrote_store))
      ∙ ap (λ (b : Bool). left_by live.label Mem (owes (end_ending end) live.mem live.wrote_mem) c.mem ++ left_by live.label Store b c.store) (sym (owes_store_is end live.store (is_some live.mem) live.wrote_mem live.wrote_store))
      ∙ ap (λ m. left_by live.label Mem (owes (end_ending end) live.mem live.wrote_mem) m ++ left_by live.label Store (owes (end_ending end) live.store live.wrote_store) c.store) (sym w.drew_mem)
      ∙ ap (λ m. left_by live.label Mem (owes (end_ending end) live.mem live.wrote_mem) live.drew_mem ++ left_by live.label Store (owes (end_ending end) live.store live.wrote_store) m) (sym w.drew_store)
      ∙ ap (λ b. left_by live.label Mem (owes (end_ending end) live.mem b) live.drew_mem ++ left_by live.label Store (owes (end_ending end) live.store live.wrote_store) live.drew_store) w.wrote_mem
      ∙ ap (λ b. left_by live.label Mem (owes (end_ending end) live.mem (wrote Mem w.spoken)) live.drew_mem ++ left_by live.label Store (owes (end_ending end) live.store b) live.drew_store) w.wrote_store

  all_calls : talk ++ more ≡ w.spoken ++ (steps_calls live.label (numbered c) taken ++ leaves_of final (wrote Mem w.spoken) (wrote Store w.spoken))
  unfolding talk_at_end
  all_calls =
      ap (λ t. t ++ more) w.talk_is
      ∙ append_assoc w.spoken (talk_of c) more
      ∙ ap (λ t. w.spoken ++ t) (sym h.talk_is)
      ∙ ap (λ l. w.spoken ++ (steps_calls l (numbered c) taken ++ (left_by c.label Mem (owes_mem c.used end) c.mem ++ left_by c.label Store (owes_store c.used end) c.store))) w.label
      ∙ ap (λ t. w.spoken ++ (steps_calls live.label (numbered c) taken ++ t)) leaves_are

  -- its record has just these calls, where its statements are such
  pub commit_talks : (heard : List Said) → Converses catalog live.label live.kind [] heard w.spoken → (final.said ≡ heard) ⊎ Outdone final heard → AllByRecursion (EndReply final) final.said
      → AllByRecursion (λ (s : Said). is_lost s.reply ≡ true → final.ending ≡ lost_ending s.reply) final.said → Over catalog final (talk ++ more)
  commit_talks heard asked said replies lost = record {
    talks = record {
      heard = heard;
      spoken = w.spoken;
      taken = taken;
      rest = not_taken c.used (refused_at c.stage end);
      numbered = numbered c;
      talk_is = all_calls;
      said = said;
      asked = asked;
      mem = w.mem;
      store = w.store;
      steps =
          ap (λ b. commit_steps b (wrote Store w.spoken)) (sym w.wrote_mem) ∙ ap (commit_steps live.wrote_mem) (sym w.wrote_store)
          ∙ ap (λ (u : Used). steps_of u) (sym w.used) ∙ cut_steps c.used (refused_at c.stage end);
      drew_mem = w.drew_mem;
      drew_store = w.drew_store;
      mem_drawn = ap is_some w.drew_mem ∙ h.mem_drawn;
      store_drawn = ap is_some w.drew_store ∙ h.store_drawn;
      past_mem = subst (λ m. IfSome m (λ n. c.floor_mem < n)) (sym w.drew_mem) h.past_mem;
      past_store = subst (λ m. IfSome m (λ n. c.floor_store < n)) (sym w.drew_store) h.past_store;
      selected = listed live.selected;
      selection = w.selection;
      made =
          ap (λ b. listed live.selected ++ listed (passed_at b live.drew_mem live.drew_store)) (w.passed ∙ sym h.checked)
          ∙ ap (λ m. listed live.selected ++ listed (passed_at (list_any is_check taken) m live.drew_store)) w.drew_mem
          ∙ ap (λ m. listed live.selected ++ listed (passed_at (list_any is_check taken) c.mem m)) w.drew_store
          ∙ ap (λ t. listed live.selected ++ t) (point_made (list_any is_check taken) c.mem c.store);
      ends = ends_at c.used.open_mem c.used.open_store c.used.wrote_mem c.used.wrote_store (refused_at c.stage end) end h.has h.refused;
      replies = replies;
      lost = lost;
    };
    ended = is_ended end;
    whole = none_left c.used (refused_at c.stage end) end h.refused;
  }

-- ---- its statements

not_an_end : (r : Record) (said : Reply) (s : Statement) → is_end s ≡ false → EndReplyTo r said s
not_an_end r said statement.Commit e = absurd cc
not_an_end r said statement.Rollback e = absurd cc
not_an_end r said (statement.Begin begun) e = tt
not_an_end r said (statement.Insert table values) e = tt
not_an_end r said (statement.Select table names c) e = tt
not_an_end r said (statement.Update table sets c) e = tt
not_an_end r said (statement.Delete table c) e = tt

-- the numbers in an ending are those of the record
abbrev EndFits : Record → CommitEnd → Type 0
EndFits r (Committed mem store) = Unit {0}
EndFits r (CheckFailed point mem store) = (mem ≡ number_or_none r.drew_mem) × (store ≡ number_or_none r.drew_store)
EndFits r (Spent engine mem) = Unit {0}
EndFits r NoMemory = Unit {0}

-- COMMIT is answered by how the commit ended
commit_reply : (end : CommitEnd) (r : Record) → r.ending ≡ end_ending end → EndFits r end → CommitReply r r.ending (end_reply end None)
commit_reply (Committed mem store) r is fits = subst (λ how. CommitReply r how reply.Committed) (sym is) refl
commit_reply (CheckFailed point mem store) r is fits = subst (λ how. CommitReply r how (reply.CheckFailed point mem store)) (sym is) (point, ap (λ m. reply.CheckFailed point m store) fits.0 ∙ ap (reply.CheckFailed point (number_or_none r.drew_mem)) fits.1)
commit_reply (Spent engine mem) r is fits = subst (λ how. CommitReply r how (reply.Spent engine)) (sym is) (engine, refl)
commit_reply NoMemory r is fits = subst (λ how. CommitReply r how (reply.Refused err.Memory)) (sym is) refl

commit_is_not_judged : (end : CommitEnd) → is_judged (end_reply end None) ≡ false
commit_is_not_judged (Committed mem store) = refl
commit_is_not_judged (CheckFailed point mem store) = refl
commit_is_not_judged (Spent engine mem) = refl
commit_is_not_judged NoMemory = refl

commit_lost : (end : CommitEnd) → is_lost (end_reply end None) ≡ true → end_ending end ≡ lost_ending (end_reply end None)
commit_lost (Committed mem store) e = absurd cc
commit_lost (CheckFailed point mem store) e = absurd cc
commit_lost (Spent engine mem) e = absurd cc
commit_lost NoMemory e = refl

pub all_replied : (r : Record) (said : List Said) (last : List Said) → AllByRecursion (λ (s : Said). is_last s ≡ false) said → AllByRecursion (EndReply r) last → AllByRecursion (EndReply r) (said ++ last)
all_replied r [] last going h = h
all_replied r (x ∷ said) last going h = (not_an_end r x.reply x.statement (or_parts (is_lost x.reply) (is_end x.statement) going.0).1, all_replied r said last going.1 h)

abbrev LostSo : Record → List Said → Type 0
LostSo r said = AllByRecursion (λ (s : Said). is_lost s.reply ≡ true → r.ending ≡ lost_ending s.reply) said

pub all_lost : (r : Record) (said : List Said) (last : List Said) → AllByRecursion (λ (s : Said). is_last s ≡ false) said → LostSo r last → LostSo r (said ++ last)
all_lost r [] last going h = h
all_lost r (x ∷ said) last going h =
    let kept : is_lost x.reply ≡ false = (or_parts (is_lost x.reply) (is_end x.statement) going.0).0 in
    ((λ l. absurd (cc (l, kept))), all_lost r said last going.1 h)

module _ (catalog : List Table) (live : Live) (c : Committing) (talk more : Talk) (end : CommitEnd) (h : HasEnded c end (talk_of c ++ more)) where
  -- by STEP, or by COMMIT inside BEGIN
  pub declared_talks : Commits catalog live c None talk → Over catalog (record_of live (end_ending end) (end_reply end None)) (talk ++ more)
  declared_talks w = by w.heard_is.1
    where
      going : AllByRecursion (λ (s : Said). is_last s ≡ false) live.said
      going = subst (AllByRecursion (λ (s : Said). is_last s ≡ false)) (sym w.heard_is.0) w.going

      asked : Converses catalog live.label live.kind [] live.said w.spoken
      asked = subst (λ ss. Converses catalog live.label live.kind [] ss w.spoken) (sym w.heard_is.0) w.asked

      by : (live.statement ≡ None) ⊎ (live.statement ≡ Some statement.Commit) → Over catalog (record_of live (end_ending end) (end_reply end None)) (talk ++ more)
      by (inl none) =
          let is : live.said ++ said_maybe (said_now live.statement (end_reply end None)) ≡ live.said ++ [] = ap (λ o. live.said ++ said_maybe (said_now o (end_reply end None))) none in
          commit_talks catalog live c None talk more end w h live.said asked (inl (is ∙ append-nil live.said))
          (subst (AllByRecursion (EndReply (record_of live (end_ending end) (end_reply end None)))) (sym is) (all_replied (record_of live (end_ending end) (end_reply end None)) live.said [] going tt))
          (subst (LostSo (record_of live (end_ending end) (end_reply end None))) (sym is) (all_lost (record_of live (end_ending end) (end_reply end None)) live.said [] going tt))
      by (inr some) =
          let last : Said = record { statement = statement.Commit; reply = end_reply end None } in
          let is : live.said ++ said_maybe (said_now live.statement (end_reply end None)) ≡ live.said ++ last ∷ [] = ap (λ o. live.said ++ said_maybe (said_now o (end_reply end None))) some in
          commit_talks catalog live c None talk more end w h (live.said ++ last ∷ [])
          (subst (Converses catalog live.label live.kind [] (live.said ++ last ∷ [])) (append-nil w.spoken) (spoken_push catalog live.label live.kind [] live.said w.spoken last [] asked going (refl, commit_is_not_judged end)))
          (inl is)
          (subst (AllByRecursion (EndReply (record_of live (end_ending end) (end_reply end None)))) (sym is) (all_replied (record_of live (end_ending end) (end_reply end None)) live.said (last ∷ []) going (commit_reply end (record_of live (end_ending end) (end_reply end None)) refl (fits end h.numbers), tt)))
          (subst (LostSo (record_of live (end_ending end) (end_reply end None))) (sym is) (all_lost (record_of live (end_ending end) (end_reply end None)) live.said (last ∷ []) going (commit_lost end, tt)))
        where
          fits : (e : CommitEnd) → EndHas c e → EndFits (record_of live (end_ending end) (end_reply end None)) e
          fits (Committed mem store) n = tt
          fits (CheckFailed point mem store) n = (n.0 ∙ ap number_or_none (sym w.drew_mem), n.1 ∙ ap number_or_none (sym w.drew_store))
          fits (Spent engine mem) n = tt
          fits NoMemory n = tt

  -- outside BEGIN, where the one statement has a reply of its own
  pub small_talks : (own : Reply) → Commits catalog live c (Some own) talk → Over catalog (record_of live (end_ending end) (end_reply end (Some own))) (talk ++ more)
  small_talks own w =
      let s : Statement = w.heard_is.0 in
      let r : Reply = end_reply end (Some own) in
      let last : Said = record { statement = s; reply = r } in
      let is : live.said ++ said_maybe (said_now live.statement r) ≡ last ∷ [] = ap (λ ss. ss ++ said_maybe (said_now live.statement r)) w.heard_is.1 ∙ ap (λ o. said_maybe (said_now o r)) w.heard_is.2 in
      commit_talks catalog live c (Some own) talk more end w h w.heard w.asked (heard_as end is)
      (subst (AllByRecursion (EndReply (record_of live (end_ending end) r))) (sym is) (not_an_end (record_of live (end_ending end) r) r s w.heard_is.3, tt))
      (subst (LostSo (record_of live (end_ending end) r)) (sym is) (lost_as end, tt))
    where
      heard_as : (e : CommitEnd) → live.said ++ said_maybe (said_now live.statement (end_reply e (Some own))) ≡ record { statement = w.heard_is.0; reply = end_reply e (Some own) } ∷ []
          → ((record_of live (end_ending e) (end_reply e (Some own))).said ≡ w.heard) ⊎ Outdone (record_of live (end_ending e) (end_reply e (Some own))) w.heard
      heard_as (Committed mem store) is = inl (is ∙ sym w.heard_is.4)
      heard_as (CheckFailed point mem store) is = inr (record { statement = w.heard_is.0; own = own; refusal = reply.CheckFailed point mem store; heard_is = w.heard_is.4; said_is = is; refuses = refl; failed = refl })
      heard_as (Spent engine mem) is = inr (record { statement = w.heard_is.0; own = own; refusal = reply.Spent engine; heard_is = w.heard_is.4; said_is = is; refuses = refl; failed = refl })
      heard_as NoMemory is = inr (record { statement = w.heard_is.0; own = own; refusal = reply.Refused err.Memory; heard_is = w.heard_is.4; said_is = is; refuses = refl; failed = refl })

      lost_as : (e : CommitEnd) → is_lost (end_reply e (Some own)) ≡ true → end_ending e ≡ lost_ending (end_reply e (Some own))
      lost_as (Committed mem store) l = absurd (cc (l, w.heard_is.5))
      lost_as (CheckFailed point mem store) l = absurd cc
      lost_as (Spent engine mem) l = absurd cc
      lost_as NoMemory l = refl
