-- Between two lines a live transaction has a record with just the calls that it has made.
use Rattle.std.specs.Prelude.{◌≡◌, ℕ, List, [], ◌∷◌, ◌++◌, Option, Some, None, Bool, true, false, cond, ◌||◌, ◌<◌, if◌then◌else◌, is_some, IfSome}
use Rattle.std.proofs.Common.{refl, sym, ap, subst, ◌∙◌, inl, inr, append-nil}
use Rattle.std.specs.List.{list_any, AllByRecursion}
use Rattle.sk_rows.specs.declared.table.Table.{Table}
use Rattle.sk_model.specs.declared.engine.EngineName.TheVariants.{Mem, Store}
use Rattle.sk_model.specs.declared.record.Said.{Said}
use Rattle.sk_model.specs.declared.record.Ending.TheVariants.{Open, Committed}
use Rattle.sk_model.specs.declared.step.StepName.{StepName}
use Rattle.sk_model.specs.declared.step.StepName.TheVariants.{CloseMem, CloseStore, DrawMem, DrawStore, Check, StampMem, StampStore}
use Rattle.sk_model.specs.Spoken.{is_lost}
use Rattle.sk_model.specs.Talks.{Talk, wrote}
use Rattle.sk_model.specs.RecordTalks.{is_last, commit_steps, Numbered, steps_calls, left_by, owes, leaves_of, is_check, is_stamp, EndsAt, EndReply, lost_ending, Talks}
use Rattle.sk_commit.specs.declared.committing.Used.{Used}
use Rattle.sk_commit.specs.declared.committing.Committing.{Committing}
use Rattle.sk_commit.specs.declared.committing.Stage.{Stage}
use Rattle.sk_commit.specs.declared.committing.Stage.TheVariants.{Step, Leave}
use Rattle.sk_commit.specs.Told.{same_step, steps_before, steps_from, steps_of, numbered, talk_of, has_step}
use Rattle.sk_session.specs.Kept.{listed}
use Rattle.sk_session.specs.declared.live.Live.{Live}
use Rattle.sk_session.specs.Moving.{passed_at, record_now}
use Rattle.sk_session.specs.Speaks.{Stands, Commits, IsAtStep, Pauses}
use Rattle.sk_session.proofs.Committed.{cut_steps, no_step, point_made, all_replied, all_lost}

-- ---- what its ending says

-- no opening has to be ended
owes_none : (passed : Bool) (snapshot : Option ℕ) (written : Bool) → (passed ≡ true → written ≡ true) → owes (if passed then Committed else Open) snapshot written ≡ false
owes_none true None written h = refl
owes_none true (Some n) true h = refl
owes_none true (Some n) false h = let e : false ≡ true = h refl in absurd cc
owes_none false snapshot written h = refl

module _ (live : Live) (wrote_mem wrote_store : Bool) (mem : live.passed ≡ true → wrote_mem ≡ true) (store : live.passed ≡ true → wrote_store ≡ true) where
  nothing_left : leaves_of (record_now live) wrote_mem wrote_store ≡ []
  nothing_left =
      ap (λ b. left_by live.label Mem b live.drew_mem ++ left_by live.label Store (owes (record_now live).ending live.store wrote_store) live.drew_store) (owes_none live.passed live.mem wrote_mem mem)
      ∙ ap (λ b. left_by live.label Store b live.drew_store) (owes_none live.passed live.store wrote_store store)

module _ (live : Live) (going : AllByRecursion (λ (s : Said). is_last s ≡ false) live.said) where
  said_is : (record_now live).said ≡ live.said
  said_is = append-nil live.said

  replied : AllByRecursion (EndReply (record_now live)) (record_now live).said
  replied = all_replied (record_now live) live.said [] going tt

  lost_so : AllByRecursion (λ (s : Said). is_lost s.reply ≡ true → (record_now live).ending ≡ lost_ending s.reply) (record_now live).said
  lost_so = all_lost (record_now live) live.said [] going tt

none_past : (P : ℕ → Type 0) (n : Option ℕ) → n ≡ None → IfSome n P
none_past P None e = tt
none_past P (Some n) e = absurd cc

-- ---- between two statements

unnumbered : Numbered
unnumbered = record { floor_mem = 0; floor_store = 0; mem = None; store = None }

pub standing_talks : (catalog : List Table) (live : Live) (talk : Talk) → Stands catalog live talk → Talks catalog (record_now live) talk
unfolding unnumbered
standing_talks catalog live talk s =
    record {
      heard = live.said;
      spoken = talk;
      taken = [];
      rest = commit_steps (wrote Mem talk) (wrote Store talk);
      numbered = unnumbered;
      talk_is = sym (append-nil talk) ∙ ap (λ t. talk ++ t) (sym (nothing_left live (wrote Mem talk) (wrote Store talk) (λ e. absurd (cc (e, s.knows.unpassed))) (λ e. absurd (cc (e, s.knows.unpassed)))));
      said = inl (said_is live s.going);
      asked = s.said;
      mem = s.knows.mem;
      store = s.knows.store;
      steps = refl;
      drew_mem = s.knows.mem_undrawn;
      drew_store = s.knows.store_undrawn;
      mem_drawn = ap is_some s.knows.mem_undrawn;
      store_drawn = ap is_some s.knows.store_undrawn;
      past_mem = none_past _ live.drew_mem s.knows.mem_undrawn;
      past_store = none_past _ live.drew_store s.knows.store_undrawn;
      selected = listed live.selected;
      selection = s.knows.selection;
      made = ap (λ b. listed live.selected ++ listed (passed_at b live.drew_mem live.drew_store)) s.knows.unpassed;
      ends = subst (λ b. EndsAt (if b then Committed else Open) [] (commit_steps (wrote Mem talk) (wrote Store talk))) (sym s.knows.unpassed) refl;
      replies = replied live s.going;
      lost = lost_so live s.going;
    }

-- ---- between two steps of a commit

-- what was checked before a step is among all steps
checked_in : (s : StepName) (ts : List StepName) → list_any is_check (steps_before s ts) ≡ true → list_any is_check ts ≡ true
checked_in s [] e = e
checked_in s (t ∷ ts) e = by (same_step s t) (checked_in s ts) e
  where
    any : (c : Bool) → (list_any is_check (steps_before s ts) ≡ true → list_any is_check ts ≡ true) → (c || list_any is_check (steps_before s ts)) ≡ true → (c || list_any is_check ts) ≡ true
    any true further e = refl
    any false further e = further e

    by : (b : Bool) → (list_any is_check (steps_before s ts) ≡ true → list_any is_check ts ≡ true) → list_any is_check (cond b [] (t ∷ steps_before s ts)) ≡ true → (is_check t || list_any is_check ts) ≡ true
    by true further e = absurd cc
    by false further e = any (is_check t) further e

-- a commit that has a check has written both engines
both_written : (wm ws : Bool) → list_any is_check (commit_steps wm ws) ≡ true → (wm ≡ true) × (ws ≡ true)
both_written true true e = (refl, refl)
both_written true false e = absurd cc
both_written false true e = absurd cc
both_written false false e = absurd cc

abbrev used_as : Bool → Bool → Bool → Bool → Used
used_as om os wm ws = record { open_mem = om; open_store = os; wrote_mem = wm; wrote_store = ws }

-- before a step that comes before the check nothing was stamped
none_stamped : (om os wm ws : Bool) (s : StepName) → has_step (used_as om os wm ws) s ≡ true → list_any is_check (steps_before s (commit_steps wm ws)) ≡ false
    → (list_any is_check (steps_before s (commit_steps wm ws)) || list_any is_stamp (steps_before s (commit_steps wm ws))) ≡ false
none_stamped om os true true CloseMem has e = refl
none_stamped om os true true CloseStore has e = refl
none_stamped om os true true DrawMem has e = refl
none_stamped om os true true DrawStore has e = refl
none_stamped om os true true Check has e = refl
none_stamped om os true false CloseMem has e = refl
none_stamped om os true false DrawMem has e = refl
none_stamped om os true false StampMem has e = refl
none_stamped om os false true CloseStore has e = refl
none_stamped om os false true DrawStore has e = refl
none_stamped om os false true StampStore has e = refl
none_stamped om os false false s has e = absurd (no_step om os s has)
none_stamped om os wm ws s has e = absurd cc

ends_now : (passed : Bool) (taken rest : List StepName) → passed ≡ list_any is_check taken → (list_any is_check taken ≡ false → (list_any is_check taken || list_any is_stamp taken) ≡ false) → EndsAt (if passed then Committed else Open) taken rest
ends_now true taken rest is f = inr (sym is)
ends_now false taken rest is f = f (sym is)

module _ (catalog : List Table) (live : Live) (c : Committing) (s : StepName) (talk : Talk) (w : Commits catalog live (record c { stage = Step s }) None talk) where
  abbrev before : List StepName
  before = steps_before s (steps_of c.used)

  written : live.passed ≡ true → (live.wrote_mem ≡ true) × (live.wrote_store ≡ true)
  written e =
      let both : (c.used.wrote_mem ≡ true) × (c.used.wrote_store ≡ true) = both_written c.used.wrote_mem c.used.wrote_store (checked_in s (steps_of c.used) (sym w.passed ∙ e)) in
      (sym (ap (λ (u : Used). u.wrote_mem) w.used) ∙ both.0, sym (ap (λ (u : Used). u.wrote_store) w.used) ∙ both.1)

  going : AllByRecursion (λ (x : Said). is_last x ≡ false) live.said
  going = subst (AllByRecursion (λ (x : Said). is_last x ≡ false)) (sym w.heard_is.0) w.going

  nothing : leaves_of (record_now live) (wrote Mem w.spoken) (wrote Store w.spoken) ≡ []
  nothing = nothing_left live (wrote Mem w.spoken) (wrote Store w.spoken) (λ e. sym w.wrote_mem ∙ (written e).0) (λ e. sym w.wrote_store ∙ (written e).1)

  calls_are : talk ≡ w.spoken ++ (steps_calls live.label (numbered c) before ++ leaves_of (record_now live) (wrote Mem w.spoken) (wrote Store w.spoken))
  unfolding talk_of
  calls_are =
      w.talk_is
      ∙ ap (λ l. w.spoken ++ (steps_calls c.label (numbered c) before ++ l)) (sym nothing)
      ∙ ap (λ l. w.spoken ++ (steps_calls l (numbered c) before ++ leaves_of (record_now live) (wrote Mem w.spoken) (wrote Store w.spoken))) w.label

  at_step : Talks catalog (record_now live) talk
  at_step = record {
    heard = w.heard;
    spoken = w.spoken;
    taken = before;
    rest = steps_from s (steps_of c.used);
    numbered = numbered c;
    talk_is = calls_are;
    said = inl (said_is live going ∙ w.heard_is.0);
    asked = w.asked;
    mem = w.mem;
    store = w.store;
    steps =
        ap (λ b. commit_steps b (wrote Store w.spoken)) (sym w.wrote_mem) ∙ ap (commit_steps live.wrote_mem) (sym w.wrote_store)
        ∙ ap (λ (u : Used). steps_of u) (sym w.used) ∙ cut_steps c.used (Some s);
    drew_mem = w.drew_mem;
    drew_store = w.drew_store;
    mem_drawn = ap is_some w.drew_mem ∙ w.underway.mem_drawn;
    store_drawn = ap is_some w.drew_store ∙ w.underway.store_drawn;
    past_mem = subst (λ m. IfSome m (λ n. c.floor_mem < n)) (sym w.drew_mem) w.underway.past_mem;
    past_store = subst (λ m. IfSome m (λ n. c.floor_store < n)) (sym w.drew_store) w.underway.past_store;
    selected = listed live.selected;
    selection = w.selection;
    made =
        ap (λ b. listed live.selected ++ listed (passed_at b live.drew_mem live.drew_store)) w.passed
        ∙ ap (λ m. listed live.selected ++ listed (passed_at (list_any is_check before) m live.drew_store)) w.drew_mem
        ∙ ap (λ m. listed live.selected ++ listed (passed_at (list_any is_check before) c.mem m)) w.drew_store
        ∙ ap (λ t. listed live.selected ++ t) (point_made (list_any is_check before) c.mem c.store);
    ends = ends_now live.passed before (steps_from s (steps_of c.used)) w.passed (none_stamped c.used.open_mem c.used.open_store c.used.wrote_mem c.used.wrote_store s w.underway.stage);
    replies = replied live going;
    lost = lost_so live going;
  }

pub paused_talks : (catalog : List Table) (live : Live) (c : Committing) (talk : Talk) → Pauses catalog live c talk → Talks catalog (record_now live) talk
paused_talks catalog live c talk p = by c.stage p.1 p.0
  where
    by : (stage : Stage) → IsAtStep stage → Commits catalog live (record c { stage = stage }) None talk → Talks catalog (record_now live) talk
    by (Step s) at w = at_step catalog live c s talk w
    by (Leave refused engine end) at w = absurd at
