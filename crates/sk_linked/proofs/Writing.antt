-- Each event that writes, opens or selects keeps the invariant.
use Rattle.std.specs.Prelude.{ℕ, List, [], ◌∷◌, ◌++◌, Option, Some, None, Ok, Bool, true, false, cond, ◌≡◌, ◌≤◌, ◌⊎◌}
use Rattle.std.proofs.Common.{refl, sym, ap, subst, ◌∙◌, inl, inr, ⊎_elim, arith}
use Rattle.std.proofs.lemmas.Bool.{cond_both, false≢true}
use Rattle.std.proofs.lemmas.List.{append-nil}
use Rattle.sk_model.specs.declared.label.Label.{Label}
use Rattle.sk_model.specs.declared.engine.EngineName.{EngineName}
use Rattle.sk_model.specs.declared.engine.EngineName.TheVariants.{Mem, Store}
use Rattle.sk_model.specs.declared.record.Ending.TheVariants as ending
use Rattle.sk_model.specs.declared.commit.Write.{Write}
use Rattle.sk_model.specs.declared.point.Point.{Point}
use Rattle.sk_model.specs.declared.call.EngineCall.{EngineCall}
use Rattle.sk_model.specs.declared.call.EngineCall.TheVariants as call
use Rattle.sk_model.specs.declared.call.EngineFault.{EngineFault}
use Rattle.sk_model.specs.declared.call.EngineReply.{EngineReply}
use Rattle.sk_model.specs.declared.call.EngineReply.TheVariants.{Done, Found, Rows, Number, Commits, Fault}
use Rattle.sk_model.specs.declared.call.Entry.{Entry}
use Rattle.sk_model.specs.Records.{some_writes}
use Rattle.sk_model.specs.Engine.{EngineTable}
use Rattle.sk_model.specs.Legal.{is_refusal, due}
use Rattle.sk_model.specs.Talks.{calls_in, if_done, wrote_by, wrote_in, tx_of, is_tx}
use Rattle.sk_model.proofs.Lists.{Each, each_weaker}
use Rattle.sk_model.proofs.Labels.{same_itself}
use Rattle.sk_weave.specs.declared.answer.Selected.{Selected}
use Rattle.sk_weave.specs.Points.{selection}
use Rattle.sk_weave.specs.Registry.{Regs, first_of, selected, after_selection}
use Rattle.sk_linked.specs.Reads.{Snapshots, snapshot_at, PairIf}
use Rattle.sk_weave.proofs.Registers.{selected_pair}
use Rattle.sk_linked.specs.declared.event.Event.{Event}
use Rattle.sk_linked.specs.declared.event.Event.TheVariants as event
use Rattle.sk_linked.specs.declared.event.CoreReply.{CoreReply}
use Rattle.sk_linked.specs.declared.event.CoreReply.TheVariants as reply
use Rattle.sk_linked.specs.Traces.{In, IsOwn, opens, NotAgain, open_entry}
use Rattle.sk_linked.specs.State.{Both, of, with_of, other, Stage, Over, Actor, Core, rest_of, table_of, counter}
use Rattle.sk_linked.specs.Plans.{Plan, nothing, only, answer, is_running, is_untouched, is_opened, both_false, drops, put_call, put_plan, open_plan, made_if, select_plan}
use Rattle.sk_linked.specs.Machine.{entered, entries_of, recorded}
use Rattle.sk_linked.specs.Invariant.{Invariant}
use Rattle.sk_linked.proofs.Members.{some_clash, some_same}
use Rattle.sk_linked.proofs.Growing.{pair_more}
use Rattle.sk_linked.proofs.Moving.{Moves, stays, whole, select_moves, select_sound}
use Rattle.sk_linked.proofs.Applying.{each_entered, after_plan, Keeps}
use Rattle.sk_linked.proofs.Events.{Plain, plain_by, plain_opens, plain_wrote, plain_own, plain_drops, none_wrote, of_only, of_both, of_two, none_false, is_live, undrawn_of, changed, belongs_now, kept_now, plan, goes_well, calls_after, wrote_after, pair_now, still, only_opened, plain_owns}

some_behind : (ws : List Write) (w : Write) → some_writes (ws ++ w ∷ []) ≡ true
some_behind [] w = refl
some_behind (v ∷ ws) w = refl

module _ (k : Core) (inv : Invariant k) (r : Actor) (among : In r k.actors) (u : is_untouched r ≡ true) where
  live : r.committed ≡ false
  live = is_live r (undrawn_of r u)

  -- what such a plan wrote, where its calls wrote nothing
  quiet_wrote : (e : Event) (said : CoreReply) (calls : Both (List EngineCall)) (regs : Regs) (chosen : Option ℕ) (opened : Snapshots) (wrote shut : Both Bool) (stage : Stage) (made : List Point) (s : EngineName)
      → wrote_in (entries_of k (plan k inv r among live e said calls regs chosen opened wrote shut stage r.ending made) s) ≡ []
      → wrote_in (calls_in s (recorded k e (plan k inv r among live e said calls regs chosen opened wrote shut stage r.ending made)).talk) ≡ wrote_in (calls_in s r.talk)
  quiet_wrote e said calls regs chosen opened wrote shut stage made s none =
      wrote_after k inv r among live e said calls regs chosen opened wrote shut stage r.ending made s ∙ ap (λ xs. wrote_in (calls_in s r.talk) ++ xs) none ∙ append-nil (wrote_in (calls_in s r.talk))

  -- ---- a Put that was done

  module _ (tx : Label) (w : Write) (name : EngineName) where
    abbrev done : Plan
    done = plan k inv r among live (event.Put tx w) reply.Done (only name (put_call r.label w ∷ [])) k.regs r.chosen r.opened (with_of name true r.wrote) r.shut r.stage r.ending r.made

    done_wrote : answer k name (put_call r.label w) ≡ Done → (s : EngineName) → ((s ≡ name) × (wrote_in (entries_of k done s) ≡ w ∷ [])) ⊎ (wrote_in (entries_of k done s) ≡ [])
    done_wrote e s = go name s e
      where
        go : (name s : EngineName) → answer k name (put_call r.label w) ≡ Done
            → ((s ≡ name) × (wrote_in (entered (table_of k s) (of s (only name (put_call r.label w ∷ [])))) ≡ w ∷ [])) ⊎ (wrote_in (entered (table_of k s) (of s (only name (put_call r.label w ∷ [])))) ≡ [])
        go Mem Mem q = inl (refl, ap (λ (a : EngineReply). if_done w a ++ []) q)
        go Mem Store q = inr refl
        go Store Mem q = inr refl
        go Store Store q = inl (refl, ap (λ (a : EngineReply). if_done w a ++ []) q)

    done_keeps : answer k name (put_call r.label w) ≡ Done → is_running r.stage ≡ true → is_opened r name ≡ true → Keeps k (event.Put tx w) (Some done)
    done_keeps e running opened = goes_well k inv r among live (event.Put tx w) reply.Done (only name (put_call r.label w ∷ [])) k.regs r.chosen r.opened (with_of name true r.wrote) r.shut r.stage r.ending r.made (record {
      more = [];
      moves = stays k.regs;
      sound = inv.sound;
      selections = tt;
      by = of_only (λ s c. is_tx r.label (tx_of c) ≡ true) name (put_call r.label w ∷ []) (same_itself r.label, tt);
      snapshot_stays = λ s n q. q;
      opened_now = λ s n q. inl q;
      own = λ s. each_entered (λ (j : Entry). IsOwn (after_plan k (event.Put tx w) done) s j.call j.reply) (table_of k s) (of s (only name (put_call r.label w ∷ [])))
          (of_only (λ s c. (f : EngineTable) → IsOwn (after_plan k (event.Put tx w) done) s c (due f c)) name (put_call r.label w ∷ []) ((λ f. tt), tt) s);
      again = λ s. inl (of_only (λ s c. opens r.label c ≡ false) name (put_call r.label w ∷ []) (refl, tt) s);
      pair = pair_now k inv r among;
      made_more = sym (append-nil r.made);
      kept = record {
        drew = (kept_now k inv r among).drew;
        anchor = (kept_now k inv r among).anchor;
        chosen = (kept_now k inv r among).chosen;
        unopened = λ y o. calls_after k inv r among live (event.Put tx w) reply.Done (only name (put_call r.label w ∷ [])) k.regs r.chosen r.opened (with_of name true r.wrote) r.shut r.stage r.ending r.made Store
            ∙ ap (λ xs. calls_in Store r.talk ++ xs) (only_opened k inv r among (event.Put tx w) reply.Done (changed r r.chosen r.opened (with_of name true r.wrote) r.shut r.stage r.ending r.made) (put_call r.label w) name opened o)
            ∙ append-nil (calls_in Store r.talk) ∙ (kept_now k inv r among).unopened running o;
        shut = still k inv r among u _;
        wrote = λ s y. ⊎_elim
            (λ (c : (s ≡ name) × (wrote_in (entries_of k done s) ≡ w ∷ [])).
            ap some_writes (wrote_after k inv r among live (event.Put tx w) reply.Done (only name (put_call r.label w ∷ [])) k.regs r.chosen r.opened (with_of name true r.wrote) r.shut r.stage r.ending r.made s ∙ ap (λ xs. wrote_in (calls_in s r.talk) ++ xs) c.1) ∙ some_behind (wrote_in (calls_in s r.talk)) w)
            (λ (c : wrote_in (entries_of k done s) ≡ []). ap some_writes (same s c) ∙ (kept_now k inv r among).wrote s (flag name s y (other_wrote s c)))
            (done_wrote e s);
        silent = λ s f. ⊎_elim
            (λ (c : (s ≡ name) × (wrote_in (entries_of k done s) ≡ w ∷ [])). absurd (set_true name (subst (λ (x : EngineName). of x (with_of name true r.wrote) ≡ false) c.0 f)))
            (λ (c : wrote_in (entries_of k done s) ≡ []). same s c ∙ (kept_now k inv r among).silent s (unset name s f (other_wrote s c)))
            (done_wrote e s);
      };
    })
      where
        same : (s : EngineName) → wrote_in (entries_of k done s) ≡ [] → wrote_in (calls_in s (recorded k (event.Put tx w) done).talk) ≡ wrote_in (calls_in s r.talk)
        same s c = quiet_wrote (event.Put tx w) reply.Done (only name (put_call r.label w ∷ [])) k.regs r.chosen r.opened (with_of name true r.wrote) r.shut r.stage r.made s c

        none_one : w ∷ [] ≡ [] → ⊥
        none_one q = cc

        -- where nothing was written, it is the other engine
        other_wrote : (s : EngineName) → wrote_in (entries_of k done s) ≡ [] → s ≡ name → ⊥
        other_wrote s c q = none_one (sym (here name e) ∙ subst (λ (x : EngineName). wrote_in (entries_of k done x) ≡ []) q c)
          where
            here : (name : EngineName) → answer k name (put_call r.label w) ≡ Done → wrote_in (entered (table_of k name) (of name (only name (put_call r.label w ∷ [])))) ≡ w ∷ []
            here Mem q = ap (λ (a : EngineReply). if_done w a ++ []) q
            here Store q = ap (λ (a : EngineReply). if_done w a ++ []) q

        flag : (name s : EngineName) → of s (with_of name true r.wrote) ≡ true → (s ≡ name → ⊥) → of s r.wrote ≡ true
        flag Mem Mem y n = absurd (n refl)
        flag Mem Store y n = y
        flag Store Mem y n = y
        flag Store Store y n = absurd (n refl)

        unset : (name s : EngineName) → of s (with_of name true r.wrote) ≡ false → (s ≡ name → ⊥) → of s r.wrote ≡ false
        unset Mem Mem f n = absurd (n refl)
        unset Mem Store f n = f
        unset Store Mem f n = f
        unset Store Store f n = absurd (n refl)

        set_true : (name : EngineName) → of name (with_of name true r.wrote) ≡ false → ⊥
        set_true Mem f = false≢true (sym f)
        set_true Store f = false≢true (sym f)

  -- ---- a Put that was refused

  module _ (tx : Label) (w : Write) (name : EngineName) (f : EngineFault) where
    abbrev refused_calls : Both (List EngineCall)
    refused_calls = with_of name (put_call r.label w ∷ call.DropTx r.label ∷ []) (only (other name) (drops k r (other name)))

    abbrev refused : Plan
    refused = plan k inv r among live (event.Put tx w) (reply.Refused f) refused_calls k.regs r.chosen r.opened r.wrote both_false Over ending.Conflict r.made

    refused_quiet : answer k name (put_call r.label w) ≡ Fault f → (s : EngineName) → wrote_in (entries_of k refused s) ≡ []
    refused_quiet e s = go name s e
      where
        drops_quiet : (s : EngineName) → wrote_in (entered (table_of k s) (drops k r s)) ≡ []
        drops_quiet s = none_wrote (table_of k s) (drops k r s) (each_weaker (Plain s r) (λ (c : EngineCall). (a : EngineReply) → wrote_by c a ≡ []) (λ c h a. plain_wrote s r c a h) (drops k r s) (plain_drops k r s))

        go : (name s : EngineName) → answer k name (put_call r.label w) ≡ Fault f → wrote_in (entered (table_of k s) (of s (with_of name (put_call r.label w ∷ call.DropTx r.label ∷ []) (only (other name) (drops k r (other name)))))) ≡ []
        go Mem Mem q = ap (λ (a : EngineReply). if_done w a ++ ([] ++ [])) q
        go Mem Store q = drops_quiet Store
        go Store Mem q = drops_quiet Mem
        go Store Store q = ap (λ (a : EngineReply). if_done w a ++ ([] ++ [])) q

    refused_keeps : answer k name (put_call r.label w) ≡ Fault f → Keeps k (event.Put tx w) (Some refused)
    refused_keeps e = goes_well k inv r among live (event.Put tx w) (reply.Refused f) refused_calls k.regs r.chosen r.opened r.wrote both_false Over ending.Conflict r.made (record {
      more = [];
      moves = stays k.regs;
      sound = inv.sound;
      selections = tt;
      by = of_two (λ s c. is_tx r.label (tx_of c) ≡ true) name (put_call r.label w ∷ call.DropTx r.label ∷ []) (drops k r (other name)) (same_itself r.label, (same_itself r.label, tt))
          (each_weaker (Plain (other name) r) (λ (c : EngineCall). is_tx r.label (tx_of c) ≡ true) (λ c h. plain_by (other name) r c h) (drops k r (other name)) (plain_drops k r (other name)));
      snapshot_stays = λ s n q. q;
      opened_now = λ s n q. inl q;
      own = λ s. each_entered (λ (j : Entry). IsOwn (after_plan k (event.Put tx w) refused) s j.call j.reply) (table_of k s) (of s refused_calls)
          (of_two (λ s c. (f : EngineTable) → IsOwn (after_plan k (event.Put tx w) refused) s c (due f c)) name (put_call r.label w ∷ call.DropTx r.label ∷ []) (drops k r (other name)) ((λ f. tt), ((λ f. tt), tt))
          (each_weaker (Plain (other name) r) (λ (c : EngineCall). (f : EngineTable) → IsOwn (after_plan k (event.Put tx w) refused) (other name) c (due f c)) (λ c h f. plain_own (other name) r (after_plan k (event.Put tx w) refused) (λ n q. q) c h (due f c)) (drops k r (other name)) (plain_drops k r (other name))) s);
      again = λ s. inl (of_two (λ s c. opens r.label c ≡ false) name (put_call r.label w ∷ call.DropTx r.label ∷ []) (drops k r (other name)) (refl, (refl, tt))
          (each_weaker (Plain (other name) r) (λ (c : EngineCall). opens r.label c ≡ false) (λ c h. plain_opens (other name) r c h) (drops k r (other name)) (plain_drops k r (other name))) s);
      pair = pair_now k inv r among;
      made_more = sym (append-nil r.made);
      kept = record {
        drew = (kept_now k inv r among).drew;
        anchor = (kept_now k inv r among).anchor;
        chosen = (kept_now k inv r among).chosen;
        unopened = λ y o. absurd (false≢true y);
        shut = λ s y. none_false s y;
        wrote = λ s y. ap some_writes (same s) ∙ (kept_now k inv r among).wrote s y;
        silent = λ s g. same s ∙ (kept_now k inv r among).silent s g;
      };
    })
      where
        same : (s : EngineName) → wrote_in (calls_in s (recorded k (event.Put tx w) refused).talk) ≡ wrote_in (calls_in s r.talk)
        same s = wrote_after k inv r among live (event.Put tx w) (reply.Refused f) refused_calls k.regs r.chosen r.opened r.wrote both_false Over ending.Conflict r.made s
            ∙ ap (λ xs. wrote_in (calls_in s r.talk) ++ xs) (refused_quiet e s) ∙ append-nil (wrote_in (calls_in s r.talk))

  pub put_keeps : (tx : Label) (w : Write) (name : EngineName) (a : EngineReply) → answer k name (put_call r.label w) ≡ a → is_running r.stage ≡ true → is_opened r name ≡ true → Keeps k (event.Put tx w) (put_plan k r name w a)
  put_keeps tx w name Done e running opened = done_keeps tx w name e running opened
  put_keeps tx w name (Fault f) e running opened = refused_keeps tx w name f e
  put_keeps tx w name (Found row) e running opened = tt
  put_keeps tx w name (Rows rows) e running opened = tt
  put_keeps tx w name (Number n) e running opened = tt
  put_keeps tx w name (Commits cs) e running opened = tt

  -- ---- an opening of the storage engine

  module _ (tx : Label) (b : ℕ) (none : r.opened.store ≡ None) (chosen : r.chosen ≡ Some b) (running : is_running r.stage ≡ true) where
    abbrev opened_at : Snapshots
    opened_at = record r.opened { store = Some b }

    abbrev opened_plan : Plan
    opened_plan = plan k inv r among live (event.OpenStore tx) reply.Done (only Store (call.Open r.label b ∷ [])) k.regs r.chosen opened_at r.wrote r.shut r.stage r.ending r.made

    opened_keeps : answer k Store (call.Open r.label b) ≡ Done → Keeps k (event.OpenStore tx) (Some opened_plan)
    opened_keeps e = goes_well k inv r among live (event.OpenStore tx) reply.Done (only Store (call.Open r.label b ∷ [])) k.regs r.chosen opened_at r.wrote r.shut r.stage r.ending r.made (record {
      more = [];
      moves = stays k.regs;
      sound = inv.sound;
      selections = tt;
      by = of_only (λ s c. is_tx r.label (tx_of c) ≡ true) Store (call.Open r.label b ∷ []) (same_itself r.label, tt);
      snapshot_stays = snapshot_stays;
      opened_now = opened_now;
      own = own;
      again = again;
      pair = subst (λ (ps : List Point). PairIf ps r.opened.mem (Some b)) (whole k.regs inv.sound ∙ ap (λ ps. first_of k.regs.points ∷ ps) (sym (append-nil (rest_of k.regs.points))))
          (subst (λ o. PairIf k.regs.points r.opened.mem o) chosen (kept_now k inv r among).chosen);
      made_more = sym (append-nil r.made);
      kept = record {
        drew = (kept_now k inv r among).drew;
        anchor = (kept_now k inv r among).anchor;
        chosen = (kept_now k inv r among).chosen;
        unopened = λ y o. some_clash o;
        shut = still k inv r among u _;
        wrote = λ s y. ap some_writes (same s) ∙ (kept_now k inv r among).wrote s y;
        silent = λ s g. same s ∙ (kept_now k inv r among).silent s g;
      };
    })
      where
        snapshot_stays : (s : EngineName) (n : ℕ) → snapshot_at s r.opened ≡ Some n → snapshot_at s opened_at ≡ Some n
        snapshot_stays Mem n q = q
        snapshot_stays Store n q = some_clash (sym q ∙ none)

        opened_now : (s : EngineName) (n : ℕ) → snapshot_at s opened_at ≡ Some n → (snapshot_at s r.opened ≡ Some n) ⊎ In (open_entry r.label n) (entries_of k opened_plan s)
        opened_now Mem n q = inl q
        opened_now Store n q = inr (inl (ap (λ m. open_entry r.label m) (sym (some_same q)) ∙ ap (λ (a : EngineReply). record { call = call.Open r.label b; reply = a }) (sym e)))

        own : (s : EngineName) → Each (λ (j : Entry). IsOwn (after_plan k (event.OpenStore tx) opened_plan) s j.call j.reply) (entries_of k opened_plan s)
        own Mem = tt
        own Store = ((λ q. refl), tt)

        again : (s : EngineName) → Each (λ (c : EngineCall). opens r.label c ≡ false) (of s (only Store (call.Open r.label b ∷ []))) ⊎ ((calls_in s r.talk ≡ []) × NotAgain r.label (entries_of k opened_plan s))
        again Mem = inl tt
        again Store = inr ((kept_now k inv r among).unopened running none, ((λ q. tt), tt))

        quiet : (s : EngineName) → wrote_in (entries_of k opened_plan s) ≡ []
        quiet Mem = refl
        quiet Store = refl

        same : (s : EngineName) → wrote_in (calls_in s (recorded k (event.OpenStore tx) opened_plan).talk) ≡ wrote_in (calls_in s r.talk)
        same s = quiet_wrote (event.OpenStore tx) reply.Done (only Store (call.Open r.label b ∷ [])) k.regs r.chosen opened_at r.wrote r.shut r.stage r.made s (quiet s)

    module _ (f : EngineFault) where
      abbrev old_calls : Both (List EngineCall)
      old_calls = record { mem = drops k r Mem; store = call.Open r.label b ∷ [] }

      abbrev old_plan : Plan
      old_plan = plan k inv r among live (event.OpenStore tx) (reply.Refused f) old_calls k.regs r.chosen r.opened r.wrote both_false Over ending.Old r.made

      old_keeps : answer k Store (call.Open r.label b) ≡ Fault f → Keeps k (event.OpenStore tx) (Some old_plan)
      old_keeps e = goes_well k inv r among live (event.OpenStore tx) (reply.Refused f) old_calls k.regs r.chosen r.opened r.wrote both_false Over ending.Old r.made (record {
        more = [];
        moves = stays k.regs;
        sound = inv.sound;
        selections = tt;
        by = of_both (λ s c. is_tx r.label (tx_of c) ≡ true) old_calls (each_weaker (Plain Mem r) (λ (c : EngineCall). is_tx r.label (tx_of c) ≡ true) (λ c h. plain_by Mem r c h) (drops k r Mem) (plain_drops k r Mem)) (same_itself r.label, tt);
        snapshot_stays = λ s n q. q;
        opened_now = λ s n q. inl q;
        own = own;
        again = again;
        pair = pair_now k inv r among;
        made_more = sym (append-nil r.made);
        kept = record {
          drew = (kept_now k inv r among).drew;
          anchor = (kept_now k inv r among).anchor;
          chosen = (kept_now k inv r among).chosen;
          unopened = λ y o. absurd (false≢true y);
          shut = λ s y. none_false s y;
          wrote = λ s y. ap some_writes (same s) ∙ (kept_now k inv r among).wrote s y;
          silent = λ s g. same s ∙ (kept_now k inv r among).silent s g;
        };
      })
        where
          own : (s : EngineName) → Each (λ (j : Entry). IsOwn (after_plan k (event.OpenStore tx) old_plan) s j.call j.reply) (entries_of k old_plan s)
          own Mem = plain_owns k inv r among Mem (after_plan k (event.OpenStore tx) old_plan) (λ n q. q) (table_of k Mem) (drops k r Mem) (plain_drops k r Mem)
          own Store = ((λ q. absurd (false≢true (sym q ∙ ap is_refusal e))), tt)

          again : (s : EngineName) → Each (λ (c : EngineCall). opens r.label c ≡ false) (of s old_calls) ⊎ ((calls_in s r.talk ≡ []) × NotAgain r.label (entries_of k old_plan s))
          again Mem = inl (each_weaker (Plain Mem r) (λ (c : EngineCall). opens r.label c ≡ false) (λ c h. plain_opens Mem r c h) (drops k r Mem) (plain_drops k r Mem))
          again Store = inr ((kept_now k inv r among).unopened running none, ((λ q. tt), tt))

          quiet : (s : EngineName) → wrote_in (entries_of k old_plan s) ≡ []
          quiet Mem = none_wrote (table_of k Mem) (drops k r Mem) (each_weaker (Plain Mem r) (λ (c : EngineCall). (a : EngineReply) → wrote_by c a ≡ []) (λ c h a. plain_wrote Mem r c a h) (drops k r Mem) (plain_drops k r Mem))
          quiet Store = refl

          same : (s : EngineName) → wrote_in (calls_in s (recorded k (event.OpenStore tx) old_plan).talk) ≡ wrote_in (calls_in s r.talk)
          same s = wrote_after k inv r among live (event.OpenStore tx) (reply.Refused f) old_calls k.regs r.chosen r.opened r.wrote both_false Over ending.Old r.made s
              ∙ ap (λ xs. wrote_in (calls_in s r.talk) ++ xs) (quiet s) ∙ append-nil (wrote_in (calls_in s r.talk))

    pub open_keeps : (a : EngineReply) → answer k Store (call.Open r.label b) ≡ a → Keeps k (event.OpenStore tx) (open_plan k r b a)
    open_keeps Done e = opened_keeps e
    open_keeps (Fault f) e = old_keeps f e
    open_keeps (Found row) e = tt
    open_keeps (Rows rows) e = tt
    open_keeps (Number n) e = tt
    open_keeps (Commits cs) e = tt

  -- ---- a selection

  module _ (tx : Label) (a : ℕ) (anchor : r.opened.mem ≡ Some a) (running : is_running r.stage ≡ true) where
    pub select_keeps : (s : Selected) → selected k.regs a k.regs.store ≡ Ok s → Keeps k (event.Select tx) (Some (select_plan k r a (Ok s)))
    select_keeps s e = goes_well k inv r among live (event.Select tx) (reply.Number s.b) nothing (after_selection k.regs a k.regs.store) (Some s.b) r.opened r.wrote r.shut r.stage r.ending (r.made ++ made_if s.made (selection a s.b)) (record {
      more = cond s.made (selection a s.b ∷ []) [];
      moves = moves;
      sound = select_sound k.regs a k.regs.store inv.sound ((kept_now k inv r among).anchor a anchor) (omega arith);
      selections = cond_both s.made (selection a s.b ∷ []) [] (λ ps. Each (λ (q : Point). q.commit ≡ false) ps) (λ y. (refl, tt)) (λ y. tt);
      by = none_each (λ s c. is_tx r.label (tx_of c) ≡ true);
      snapshot_stays = λ s n q. q;
      opened_now = λ s n q. inl q;
      own = own;
      again = λ s. inl (none_each (λ s c. opens r.label c ≡ false) s);
      pair = pair_more (first_of k.regs.points ∷ rest_of k.regs.points) (cond s.made (selection a s.b ∷ []) []) r.opened.mem r.opened.store (belongs_now k inv r among).pair;
      made_more = refl;
      kept = record {
        drew = λ x n q. let y : n ≤ counter x k.regs = (kept_now k inv r among).drew x n q in let z : counter x k.regs ≤ counter x (after_selection k.regs a k.regs.store) = moves.counters x in omega arith;
        anchor = λ n q. let y : n ≤ k.regs.mem = (kept_now k inv r among).anchor n q in let z : k.regs.mem ≤ (after_selection k.regs a k.regs.store).mem = moves.counters Mem in omega arith;
        chosen = subst (λ o. PairIf (after_selection k.regs a k.regs.store).points o (Some s.b)) (sym anchor) (selected_pair k.regs a k.regs.store s inv.sound e);
        unopened = λ y o. calls_after k inv r among live (event.Select tx) (reply.Number s.b) nothing (after_selection k.regs a k.regs.store) (Some s.b) r.opened r.wrote r.shut r.stage r.ending (r.made ++ made_if s.made (selection a s.b)) Store
            ∙ append-nil (calls_in Store r.talk) ∙ (kept_now k inv r among).unopened running o;
        shut = still k inv r among u _;
        wrote = λ x y. ap some_writes (same x) ∙ (kept_now k inv r among).wrote x y;
        silent = λ x g. same x ∙ (kept_now k inv r among).silent x g;
      };
    })
      where
        moves : Moves k.regs (after_selection k.regs a k.regs.store) (cond s.made (selection a s.b ∷ []) [])
        moves = select_moves k.regs a k.regs.store s e

        none_each : (P : EngineName → EngineCall → Type 0) → (s : EngineName) → Each (P s) (of s nothing)
        none_each P Mem = tt
        none_each P Store = tt

        sel : Plan
        sel = plan k inv r among live (event.Select tx) (reply.Number s.b) nothing (after_selection k.regs a k.regs.store) (Some s.b) r.opened r.wrote r.shut r.stage r.ending (r.made ++ made_if s.made (selection a s.b))

        own : (x : EngineName) → Each (λ (j : Entry). IsOwn (after_plan k (event.Select tx) sel) x j.call j.reply) (entries_of k sel x)
        own Mem = tt
        own Store = tt

        quiet : (x : EngineName) → wrote_in (entries_of k sel x) ≡ []
        quiet Mem = refl
        quiet Store = refl

        same : (x : EngineName) → wrote_in (calls_in x (recorded k (event.Select tx) sel).talk) ≡ wrote_in (calls_in x r.talk)
        same x = wrote_after k inv r among live (event.Select tx) (reply.Number s.b) nothing (after_selection k.regs a k.regs.store) (Some s.b) r.opened r.wrote r.shut r.stage r.ending (r.made ++ made_if s.made (selection a s.b)) x
            ∙ ap (λ xs. wrote_in (calls_in x r.talk) ++ xs) (quiet x) ∙ append-nil (wrote_in (calls_in x r.talk))
