-- An answer to a call of a commit, or to the end of an opening, adds just that call; behind the last one the record has all of them.
use Rattle.std.specs.Prelude.{◌≡◌, ℕ, List, [], ◌∷◌, ◌++◌, Option, Some, None, Bool, true, false, if◌then◌else◌, is_some}
use Rattle.std.proofs.Common.{refl, sym, ap, subst, ◌∙◌, append_assoc}
use Rattle.std.specs.List.{list_any}
use Rattle.sk_rows.specs.declared.table.Table.{Table}
use Rattle.sk_model.specs.declared.engine.EngineName.{EngineName}
use Rattle.sk_model.specs.declared.engine.EngineName.TheVariants.{Mem, Store}
use Rattle.sk_model.specs.declared.reply.Reply.{Reply}
use Rattle.sk_model.specs.declared.record.Record.{Record}
use Rattle.sk_model.specs.declared.record.Ending.{Ending}
use Rattle.sk_model.specs.declared.step.StepName.{StepName}
use Rattle.sk_model.specs.declared.step.StepName.TheVariants.{CloseMem, CloseStore, DrawMem, DrawStore, Check, StampMem, StampStore}
use Rattle.sk_model.specs.declared.call.EngineCall.TheVariants as call
use Rattle.sk_model.specs.declared.call.EngineReply.TheVariants as answer
use Rattle.sk_model.specs.Talks.{Talk, own}
use Rattle.sk_model.specs.RecordTalks.{is_check}
use Rattle.sk_commit.specs.declared.asking.Got.{Got}
use Rattle.sk_commit.specs.declared.asking.Got.TheVariants as given
use Rattle.sk_commit.specs.declared.committing.Committing.{Committing}
use Rattle.sk_commit.specs.declared.committing.Stepped.TheVariants.{Went, Early, Ended}
use Rattle.sk_commit.specs.declared.committing.Taken.{Taken}
use Rattle.sk_commit.specs.declared.committing.Taken.TheVariants as outcome
use Rattle.sk_commit.specs.Committing.{wish_of, taken}
use Rattle.sk_commit.specs.Fits.{WishFits, own_call}
use Rattle.sk_commit.specs.Told.{talk_of, taken_steps, GoesOn, Keeps as CommitKeeps}
use Rattle.sk_commit.proofs.Taking.{take_keeps}
use Rattle.sk_session.specs.declared.live.Live.{Live}
use Rattle.sk_session.specs.Moving.{record_of, finish, drops, next_opened, on, stepped, went_on, commit_goes, end_ending, end_reply}
use Rattle.sk_session.specs.Speaks.{HeardIs, Commits, IsAtStep, Leaves, Over, Keeps}
use Rattle.sk_session.proofs.Leaving.{left_mem, left_mem_last, left_store}
use Rattle.sk_session.proofs.Committed.{declared_talks, small_talks}
use Rattle.sk_session.proofs.Stages.{GoesToStep, taken_on}

-- the transaction is over
pub finish_keeps : (catalog : List Table) (records : List Record) (live : Live) (how : Ending) (r : Reply) (lost : Bool) (talk : Talk) → Over catalog (record_of live how r) talk → Keeps catalog records live.label talk (finish records live how r lost)
finish_keeps catalog records live how r true talk t = (record_of live how r, refl, refl, t)
finish_keeps catalog records live how r false talk t = (record_of live how r, refl, refl, t)

-- ---- the steps of a commit

module _ (catalog : List Table) (records : List Record) (live : Live) (c : Committing) (own : Option Reply) (talk more : Talk) (w : Commits catalog live c own talk) where
  -- what a step adds to the transaction is what it adds to the commit
  goes_on : (d : Committing) (step : Option StepName) (n : Option ℕ) (new : Live) → GoesOn c d step n (talk_of c ++ more)
      → new.label ≡ live.label → new ≡ record live { drew_mem = new.drew_mem; drew_store = new.drew_store; passed = new.passed } → new.drew_mem ≡ d.mem → new.drew_store ≡ d.store → new.passed ≡ list_any is_check (taken_steps d)
      → Commits catalog (record live { drew_mem = new.drew_mem; drew_store = new.drew_store; passed = new.passed }) d own (talk ++ more)
  goes_on d step n new g same is mem store passed = record {
    heard = w.heard;
    spoken = w.spoken;
    talk_is = ap (λ t. t ++ more) w.talk_is ∙ append_assoc w.spoken (talk_of c) more ∙ ap (λ t. w.spoken ++ t) (sym g.talk_is);
    asked = w.asked;
    going = w.going;
    heard_is = heard_still own w.heard_is;
    mem = w.mem;
    store = w.store;
    wrote_mem = w.wrote_mem;
    wrote_store = w.wrote_store;
    selection = w.selection;
    label = g.label ∙ w.label;
    used = g.used ∙ w.used;
    drew_mem = mem;
    drew_store = store;
    passed = passed;
    underway = g.underway;
  }
    where
      heard_still : (o : Option Reply) → HeardIs live o w.heard → HeardIs (record live { drew_mem = new.drew_mem; drew_store = new.drew_store; passed = new.passed }) o w.heard
      heard_still None h = h
      heard_still (Some r) h = h

  more_keeps : (d : Committing) → GoesOn c d None None (talk_of c ++ more) → Commits catalog live d own (talk ++ more)
  more_keeps d g = goes_on d None None live g refl refl (w.drew_mem ∙ sym g.mem) (w.drew_store ∙ sym g.store) (w.passed ∙ sym g.checked)

  step_keeps : (d : Committing) (step : StepName) (n : Option ℕ) → GoesOn c d (Some step) n (talk_of c ++ more) → Commits catalog (stepped live step n) d own (talk ++ more)
  step_keeps d CloseMem n g = goes_on d (Some CloseMem) n live g refl refl (w.drew_mem ∙ sym g.mem) (w.drew_store ∙ sym g.store) (w.passed ∙ sym g.checked)
  step_keeps d CloseStore n g = goes_on d (Some CloseStore) n live g refl refl (w.drew_mem ∙ sym g.mem) (w.drew_store ∙ sym g.store) (w.passed ∙ sym g.checked)
  step_keeps d DrawMem n g = goes_on d (Some DrawMem) n (record live { drew_mem = n }) g refl refl (sym g.mem) (w.drew_store ∙ sym g.store) (w.passed ∙ sym g.checked)
  step_keeps d DrawStore n g = goes_on d (Some DrawStore) n (record live { drew_store = n }) g refl refl (w.drew_mem ∙ sym g.mem) (sym g.store) (w.passed ∙ sym g.checked)
  step_keeps d Check n g = goes_on d (Some Check) n (record live { passed = true }) g refl refl (w.drew_mem ∙ sym g.mem) (w.drew_store ∙ sym g.store) (sym g.checked)
  step_keeps d StampMem n g = goes_on d (Some StampMem) n live g refl refl (w.drew_mem ∙ sym g.mem) (w.drew_store ∙ sym g.store) (w.passed ∙ sym g.checked)
  step_keeps d StampStore n g = goes_on d (Some StampStore) n live g refl refl (w.drew_mem ∙ sym g.mem) (w.drew_store ∙ sym g.store) (w.passed ∙ sym g.checked)

  stepped_label : (step : StepName) (n : Option ℕ) → (stepped live step n).label ≡ live.label
  stepped_label CloseMem n = refl
  stepped_label CloseStore n = refl
  stepped_label DrawMem n = refl
  stepped_label DrawStore n = refl
  stepped_label Check n = refl
  stepped_label StampMem n = refl
  stepped_label StampStore n = refl

  went_keeps : (whole : Bool) (d : Committing) (step : StepName) (n : Option ℕ) → (whole ≡ false → own ≡ None) → Commits catalog (stepped live step n) d own (talk ++ more) → IsAtStep d.stage
      → Keeps catalog records live.label (talk ++ more) (went_on records (stepped live step n) d step n whole own)
  went_keeps true d step n alone k next = (refl, stepped_label step n, (k, λ e. absurd cc), refl)
  went_keeps false d step n alone k next = (refl, stepped_label step n, (subst (λ o. Commits catalog (stepped live step n) d o (talk ++ more)) (alone refl) k, next))

  commit_keeps : (whole : Bool) (t : Taken) → (whole ≡ false → own ≡ None) → CommitKeeps c (talk_of c ++ more) t → GoesToStep t → Keeps catalog records live.label (talk ++ more) (commit_goes records live t whole own)
  commit_keeps whole (outcome.More d) alone k on = (refl, refl, (more_keeps d k, alone), refl)
  commit_keeps whole (outcome.Step (Went d step n)) alone k on = went_keeps whole d step n alone (step_keeps d step n k) on
  commit_keeps whole (outcome.Step (Early d floor counter)) alone k on =
      (refl, refl, (subst (λ x. Commits catalog live x own (talk ++ more)) (sym k.0) (early_keeps k.1), alone), refl)
    where
      early_keeps : talk_of c ≡ talk_of c ++ more → Commits catalog live c own (talk ++ more)
      early_keeps e = record {
        heard = w.heard;
        spoken = w.spoken;
        asked = w.asked;
        going = w.going;
        heard_is = w.heard_is;
        mem = w.mem;
        store = w.store;
        wrote_mem = w.wrote_mem;
        wrote_store = w.wrote_store;
        selection = w.selection;
        label = w.label;
        used = w.used;
        drew_mem = w.drew_mem;
        drew_store = w.drew_store;
        passed = w.passed;
        underway = w.underway;
        talk_is = ap (λ t. t ++ more) w.talk_is ∙ append_assoc w.spoken (talk_of c) more ∙ ap (λ t. w.spoken ++ t) (sym e);
      }
  commit_keeps whole (outcome.Step (Ended end)) alone k on = finish_keeps catalog records live (end_ending end) (end_reply end own) false (talk ++ more) (ended own w)
    where
      ended : (o : Option Reply) → Commits catalog live c o talk → Over catalog (record_of live (end_ending end) (end_reply end o)) (talk ++ more)
      ended None v = declared_talks catalog live c talk more end k v
      ended (Some r) v = small_talks catalog live c talk more end k r v

pub take_commit : (catalog : List Table) (records : List Record) (live : Live) (c : Committing) (whole : Bool) (own : Option Reply) (talk : Talk) (got : Got) → Commits catalog live c own talk → (whole ≡ false → own ≡ None) → WishFits (wish_of c) got
    → Keeps catalog records live.label (talk ++ own_call (wish_of c) got) (commit_goes records live (taken c got) whole own)
take_commit catalog records live c whole own talk got w alone fits =
    commit_keeps catalog records live c own talk (own_call (wish_of c) got) w whole (taken c got) alone (take_keeps c got (taken c got) refl w.underway fits) (taken_on c got)

-- ---- the ends of openings

chosen : {X : Type 0} (P : X → Type 0) (b : Bool) (x y : X) → (b ≡ true → P x) → (b ≡ false → P y) → P (if b then x else y)
chosen P true x y f g = f refl
chosen P false x y f g = g refl

pub take_leave : (catalog : List Table) (records : List Record) (live : Live) (e : EngineName) (how : Ending) (r : Reply) (lost : Bool) (talk : Talk) (got : Got) → Leaves catalog live e how r talk → WishFits (on e (call.DropTx live.label)) got
    → Keeps catalog records live.label (talk ++ own_call (on e (call.DropTx live.label)) got) (drops records live (next_opened live e) how r lost)
take_leave catalog records live Mem how r lost talk (given.Engine answer.Done) l fits =
    chosen (λ o. Keeps catalog records live.label (talk ++ own Mem (call.DropTx live.label) answer.Done ∷ []) (drops records live o how r lost)) (is_some live.store) (Some Store) None
    (λ is. (refl, refl, left_mem catalog live how r talk l is, refl))
    (λ none. finish_keeps catalog records live how r lost _ (left_mem_last catalog live how r talk l none))
take_leave catalog records live Store how r lost talk (given.Engine answer.Done) l fits = finish_keeps catalog records live how r lost _ (left_store catalog live how r talk l)
take_leave catalog records live Mem how r lost talk _ l fits = absurd fits
take_leave catalog records live Store how r lost talk _ l fits = absurd fits
