-- A stamp keeps the invariant.
use Rattle.std.specs.Prelude.{ℕ, List, [], ◌∷◌, ◌++◌, Option, Some, None, Bool, true, false, cond, not, ◌&&◌, ◌||◌, ◌≡◌, ◌⊎◌, is_some}
use Rattle.std.proofs.Common.{refl, sym, ap, subst, ◌∙◌, inl, inr, ⊎_elim}
use Rattle.std.proofs.lemmas.Bool.{cond_both, false≢true, and_parts, not-true, or_cases}
use Rattle.std.proofs.lemmas.List.{append-nil}
use Rattle.std.proofs.lemmas.List.Concat.{flat_map-append}
use Rattle.sk_model.specs.declared.label.Label.{Label}
use Rattle.sk_model.specs.declared.engine.EngineName.{EngineName}
use Rattle.sk_model.specs.declared.engine.EngineName.TheVariants.{Mem, Store}
use Rattle.sk_model.specs.declared.call.EngineCall.{EngineCall}
use Rattle.sk_model.specs.declared.call.EngineCall.TheVariants as call
use Rattle.sk_model.specs.declared.call.EngineReply.{EngineReply}
use Rattle.sk_model.specs.declared.call.EngineReply.TheVariants.{Done}
use Rattle.sk_model.specs.declared.call.Entry.{Entry}
use Rattle.sk_model.specs.Records.{some_writes}
use Rattle.sk_model.specs.Engine.{EngineTable}
use Rattle.sk_model.specs.EngineConditions.{may}
use Rattle.sk_model.specs.Legal.{due}
use Rattle.sk_model.specs.Talks.{calls_in, wrote_by, wrote_in, is_by}
use Rattle.sk_model.proofs.Lists.{Each, each_weaker}
use Rattle.sk_model.proofs.Labels.{same_is, same_itself}
use Rattle.sk_linked.specs.declared.event.Event.TheVariants as event
use Rattle.sk_linked.specs.Traces.{drawn_at, Transaction, stamp_entry, In, IsOwn, opens, Belongs}
use Rattle.sk_linked.specs.State.{of, with_of, other, Stage, Stepping, Over, Actor, transaction_of, Core, traces_of, table_of}
use Rattle.sk_linked.specs.Plans.{Plan, only, is_running, both_false, drops, todo, behind, is_none, stage_behind, stamp_plan, may_stamp_in}
use Rattle.sk_linked.specs.Machine.{entered, entries_of, talk_of}
use Rattle.sk_linked.specs.Invariant.{Shut, IsKept, Invariant}
use Rattle.sk_linked.proofs.Members.{in_each, some_clash, distinct_same}
use Rattle.sk_linked.proofs.Grounds.{cond_same}
use Rattle.sk_linked.proofs.Going.{calls_more, IsOwnCall, Aside, Stamps, stamps_on}
use Rattle.sk_linked.proofs.Moving.{stays}
use Rattle.sk_linked.proofs.Applying.{each_entered, left_is, each_said, in_mapped, after_plan, Keeps}
use Rattle.sk_linked.proofs.Events.{Plain, none_is, plain_by, plain_opens, plain_wrote, plain_own, plain_drops, none_wrote, none_false, belongs_now, kept_now, made_same, unlike_old}

other_one : (name s : EngineName) → (s ≡ name) ⊎ (s ≡ other name)
other_one Mem Mem = inl refl
other_one Mem Store = inr refl
other_one Store Mem = inr refl
other_one Store Store = inl refl

module _ (k : Core) (inv : Invariant k) (r : Actor) (among : In r k.actors) (tx : Label) (name : EngineName) (n : ℕ) (mine : drawn_at name r.drew ≡ Some n) (shut : of name r.shut ≡ true) (allowed : may_stamp_in r name ≡ true) where
  abbrev plan : Plan
  plan = stamp_plan k r name n

  abbrev after : Transaction
  after = after_plan k (event.Stamp tx name) plan

  -- the calls on the other engine
  abbrev aside_calls : List EngineCall
  aside_calls = cond (is_some (drawn_at (other name) r.drew)) [] (drops k r (other name))

  aside_plain : Each (Plain (other name) r) aside_calls
  aside_plain = cond_both (is_some (drawn_at (other name) r.drew)) [] (drops k r (other name)) (λ cs. Each (Plain (other name) r) cs) (λ e. tt) (λ e. plain_drops k r (other name))

  kept : IsKept k.regs r
  kept = kept_now k inv r among

  b : Belongs (traces_of k) (transaction_of r)
  b = belongs_now k inv r among

  here_is : entries_of k plan name ≡ stamp_entry r.label n ∷ []
  here_is = go name (due_is name)
    where
      due_is : (name : EngineName) → due (table_of k name) (call.Stamp r.label n) ≡ Done
      due_is name = cond_same (may (table_of k name) (call.Stamp r.label n)) Done

      go : (name : EngineName) → due (table_of k name) (call.Stamp r.label n) ≡ Done → entered (table_of k name) (of name (with_of name (call.Stamp r.label n ∷ []) (only (other name) (cond (is_some (drawn_at (other name) r.drew)) [] (drops k r (other name)))))) ≡ stamp_entry r.label n ∷ []
      go Mem q = ap (λ (a : EngineReply). record { call = call.Stamp r.label n; reply = a } ∷ []) q
      go Store q = ap (λ (a : EngineReply). record { call = call.Stamp r.label n; reply = a } ∷ []) q

  aside_is : entries_of k plan (other name) ≡ entered (table_of k (other name)) aside_calls
  aside_is = go name
    where
      go : (name : EngineName) → entered (table_of k (other name)) (of (other name) (with_of name (call.Stamp r.label n ∷ []) (only (other name) (cond (is_some (drawn_at (other name) r.drew)) [] (drops k r (other name)))))) ≡ entered (table_of k (other name)) (cond (is_some (drawn_at (other name) r.drew)) [] (drops k r (other name)))
      go Mem = refl
      go Store = refl

  -- facts of the calls
  each_on_both : (P : EngineName → Entry → Type 0) → P name (stamp_entry r.label n) → Each (P (other name)) (entered (table_of k (other name)) aside_calls) → (s : EngineName) → Each (P s) (entries_of k plan s)
  each_on_both P p q s = ⊎_elim
      (λ (e : s ≡ name). subst (λ (x : EngineName). Each (P x) (entries_of k plan x)) (sym e) (subst (λ js. Each (P name) js) (sym here_is) (p, tt)))
      (λ (e : s ≡ other name). subst (λ (x : EngineName). Each (P x) (entries_of k plan x)) (sym e) (subst (λ js. Each (P (other name)) js) (sym aside_is) q))
      (other_one name s)

  by : (s : EngineName) → Each (λ (j : Entry). is_by r.label j ≡ true) (entries_of k plan s)
  by = each_on_both (λ s j. is_by r.label j ≡ true) (same_itself r.label)
      (each_entered (λ (j : Entry). is_by r.label j ≡ true) (table_of k (other name)) aside_calls (each_weaker (Plain (other name) r) _ (λ c h f. plain_by (other name) r c h) aside_calls aside_plain))

  own : (s : EngineName) → Each (λ (j : Entry). IsOwn after s j.call j.reply) (entries_of k plan s)
  own = each_on_both (λ s j. IsOwn after s j.call j.reply) (mine, refl)
      (each_entered (λ (j : Entry). IsOwn after (other name) j.call j.reply) (table_of k (other name)) aside_calls
      (each_weaker (Plain (other name) r) (λ (c : EngineCall). (f : EngineTable) → IsOwn after (other name) c (due f c)) (λ c h f. plain_own (other name) r after (λ m q. q) c h (due f c)) aside_calls aside_plain))

  none_opens : (s : EngineName) → Each (λ (j : Entry). opens r.label j.call ≡ false) (entries_of k plan s)
  none_opens = each_on_both (λ s j. opens r.label j.call ≡ false) refl
      (each_entered (λ (j : Entry). opens r.label j.call ≡ false) (table_of k (other name)) aside_calls (each_weaker (Plain (other name) r) _ (λ c h f. plain_opens (other name) r c h) aside_calls aside_plain))

  quiet_aside : wrote_in (entries_of k plan (other name)) ≡ []
  quiet_aside = ap wrote_in aside_is ∙ none_wrote (table_of k (other name)) aside_calls (each_weaker (Plain (other name) r) (λ (c : EngineCall). (a : EngineReply) → wrote_by c a ≡ []) (λ c h a. plain_wrote (other name) r c a h) aside_calls aside_plain)

  quiet : (s : EngineName) → wrote_in (entries_of k plan s) ≡ []
  quiet s = ⊎_elim
      (λ (e : s ≡ name). subst (λ (x : EngineName). wrote_in (entries_of k plan x) ≡ []) (sym e) (ap wrote_in here_is))
      (λ (e : s ≡ other name). subst (λ (x : EngineName). wrote_in (entries_of k plan x) ≡ []) (sym e) quiet_aside)
      (other_one name s)

  -- where it drew there too, nothing is asked of the other engine
  none_aside : (m : ℕ) → drawn_at (other name) r.drew ≡ Some m → entries_of k plan (other name) ≡ []
  none_aside m e = aside_is ∙ ap (λ b. entered (table_of k (other name)) (cond b [] (drops k r (other name)))) (ap (λ (o : Option ℕ). is_some o) e)

  committed_if : (m : ℕ) → drawn_at (other name) r.drew ≡ Some m → r.committed ≡ true
  committed_if m e = ⊎_elim
      (λ (c : r.committed ≡ true). c)
      (λ (c : (not (is_some (drawn_at (other name) r.drew)) && not (of (other name) r.wrote)) ≡ true). some_clash (sym e ∙ none_is (drawn_at (other name) r.drew) (and_parts _ _ c).0))
      (or_cases r.committed (not (is_some (drawn_at (other name) r.drew)) && not (of (other name) r.wrote)) allowed)

  silent_aside : drawn_at (other name) r.drew ≡ None → wrote_in (calls_in (other name) r.talk) ≡ []
  silent_aside e = ⊎_elim
      (λ (c : r.committed ≡ true). b.silent (other name) c e)
      (λ (c : (not (is_some (drawn_at (other name) r.drew)) && not (of (other name) r.wrote)) ≡ true). kept.silent (other name) (not-true (of (other name) r.wrote) (and_parts _ _ c).1))
      (or_cases r.committed (not (is_some (drawn_at (other name) r.drew)) && not (of (other name) r.wrote)) allowed)

  both_committed : (m s : ℕ) → r.drew.mem ≡ Some m → r.drew.store ≡ Some s → r.committed ≡ true
  both_committed m s e f = go name committed_if
    where
      go : (name : EngineName) → ((m : ℕ) → drawn_at (other name) r.drew ≡ Some m → r.committed ≡ true) → r.committed ≡ true
      go Mem g = g s f
      go Store g = g m e

  stamps : Stamps (traces_of k) (transaction_of r) b (entries_of k plan) (talk_of k plan) name n
  stamps = record {
    left = left_is k plan;
    by = by;
    own = each_said (IsOwnCall after) k plan own;
    again = none_opens;
    mine = mine;
    shut = kept.shut name shut;
    here = sym (left_is k plan name) ∙ here_is;
    aside = λ s. ⊎_elim (λ (e : s ≡ name). inl e) (λ (e : s ≡ other name). inr (subst (λ (x : EngineName). Aside (transaction_of r) (talk_of k plan) x) (sym e) aside)) (other_one name s);
    both = both_committed;
  }
    where
      aside : Aside (transaction_of r) (talk_of k plan) (other name)
      aside = record {
        drawn = λ m e. (committed_if m e, sym (left_is k plan (other name)) ∙ none_aside m e);
        silent = λ e. flat_map-append _ (calls_in (other name) r.talk) (calls_in (other name) (talk_of k plan)) ∙ ap (λ ws. ws ++ wrote_in (calls_in (other name) (talk_of k plan))) (silent_aside e)
            ∙ ap wrote_in (sym (left_is k plan (other name))) ∙ quiet_aside;
      }

  calls_after : (s : EngineName) → calls_in s (r.talk ++ talk_of k plan) ≡ calls_in s r.talk ++ entries_of k plan s
  calls_after s = calls_more s r.talk (talk_of k plan) ∙ ap (λ xs. calls_in s r.talk ++ xs) (sym (left_is k plan s))

  wrote_after : (s : EngineName) → wrote_in (calls_in s (r.talk ++ talk_of k plan)) ≡ wrote_in (calls_in s r.talk)
  wrote_after s = ap wrote_in (calls_after s) ∙ flat_map-append _ (calls_in s r.talk) (entries_of k plan s) ∙ ap (λ xs. wrote_in (calls_in s r.talk) ++ xs) (quiet s) ∙ append-nil (wrote_in (calls_in s r.talk))

  -- what is still closed is closed as before
  shut_after : (s : EngineName) → of s (cond (is_some (drawn_at (other name) r.drew)) (with_of name false r.shut) both_false) ≡ true → Shut after s
  shut_after s y = go (drawn_at (other name) r.drew) refl y
    where
      old : (m : ℕ) → drawn_at (other name) r.drew ≡ Some m → (x : EngineName) → x ≡ other name → of x r.shut ≡ true → Shut after x
      old m e x is t =
          let w : Shut (transaction_of r) x = kept.shut x t in
          record {
            before = w.before;
            floor = w.floor;
            is = calls_after x ∙ ap (λ xs. calls_in x r.talk ++ xs) (subst (λ (z : EngineName). entries_of k plan z ≡ []) (sym is) (none_aside m e)) ∙ append-nil (calls_in x r.talk) ∙ w.is;
            none_ends = w.none_ends;
          }

      split : (name x : EngineName) → of x (with_of name false r.shut) ≡ true → (x ≡ other name) × (of x r.shut ≡ true)
      split Mem Mem t = absurd (false≢true t)
      split Mem Store t = (refl, t)
      split Store Mem t = (refl, t)
      split Store Store t = absurd (false≢true t)

      go : (o : Option ℕ) → drawn_at (other name) r.drew ≡ o → of s (cond (is_some o) (with_of name false r.shut) both_false) ≡ true → Shut after s
      go None e t = none_false s t
      go (Some m) e t = old m e s (split name s t).0 (split name s t).1

  not_running : {A : Type 0} → is_running (stage_behind (behind (todo r))) ≡ true → A
  not_running e = absurd (false≢true (sym (cond_both (is_none (behind (todo r))) Over (Stepping (behind (todo r))) (λ (st : Stage). is_running st ≡ false) (λ y. refl) (λ y. refl)) ∙ e))

  pub stamp_keeps : Keeps k (event.Stamp tx name) (Some plan)
  stamp_keeps l = record {
    more = [];
    moves = stays k.regs;
    sound = inv.sound;
    by = by;
    new = stamps_on (traces_of k) (transaction_of r) b (entries_of k plan) (talk_of k plan) name n stamps;
    unlike = unlike_old k inv r among;
    stays = in_each _ (traces_of k).transactions (λ x i t c. (refl, λ s. ap (λ (z : Transaction). drawn_at s z.drew) (distinct_same (traces_of k).transactions (transaction_of r) x inv.linked.distinct (in_mapped r k.actors among) i (same_is r.label x.label t))));
    points = tt;
    made = made_same k inv r among;
    kept = record {
      drew = kept.drew;
      anchor = kept.anchor;
      chosen = kept.chosen;
      unopened = λ y o. not_running y;
      shut = shut_after;
      wrote = λ s y. ap some_writes (wrote_after s) ∙ kept.wrote s y;
      silent = λ s f. wrote_after s ∙ kept.silent s f;
    };
  }
