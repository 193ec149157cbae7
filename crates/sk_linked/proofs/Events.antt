-- Each event of a transaction that draws and commits nothing keeps the invariant.
use Rattle.std.specs.Prelude.{ℕ, List, [], ◌∷◌, ◌++◌, Option, Some, None, Bool, true, false, not, ◌&&◌, ◌≡◌, ◌⊎◌, is_some}
use Rattle.std.proofs.Common.{refl, sym, ap, subst, ◌∙◌, inl, inr, ⊎_elim}
use Rattle.std.proofs.lemmas.Bool.{cond_both, false≢true, and_parts, not-true}
use Rattle.std.proofs.lemmas.List.{append-nil}
use Rattle.std.proofs.lemmas.List.Concat.{flat_map-append}
use Rattle.sk_rows.specs.declared.value.Value.{Value}
use Rattle.sk_model.specs.declared.label.Label.{Label}
use Rattle.sk_model.specs.declared.engine.EngineName.{EngineName}
use Rattle.sk_model.specs.declared.engine.EngineName.TheVariants.{Mem, Store}
use Rattle.sk_model.specs.declared.record.Ending.{Ending}
use Rattle.sk_model.specs.declared.record.Ending.TheVariants as ending
use Rattle.sk_model.specs.declared.point.Point.{Point}
use Rattle.sk_model.specs.declared.point.Recycled.{Recycled}
use Rattle.sk_model.specs.declared.call.EngineCall.{EngineCall}
use Rattle.sk_model.specs.declared.call.EngineCall.TheVariants as call
use Rattle.sk_model.specs.declared.call.EngineReply.{EngineReply}
use Rattle.sk_model.specs.declared.call.EngineReply.TheVariants.{Done, Found, Rows, Number, Commits, Fault}
use Rattle.sk_model.specs.declared.call.Entry.{Entry}
use Rattle.sk_model.specs.Records.{same_label, some_writes}
use Rattle.sk_model.specs.Engine.{EngineTable, opening_of}
use Rattle.sk_model.specs.EngineConditions.{is_standing}
use Rattle.sk_model.specs.Legal.{step, due}
use Rattle.sk_model.specs.Calls.{ends}
use Rattle.sk_model.specs.Talks.{calls_in, wrote_by, wrote_in, tx_of, is_tx, is_by}
use Rattle.sk_model.proofs.Lists.{Each, each_weaker, each_filter}
use Rattle.sk_model.proofs.Labels.{same_is, same_itself}
use Rattle.sk_weave.specs.Registry.{Regs, IsSound, first_of, last_of}
use Rattle.sk_linked.specs.Reads.{Snapshots, snapshot_at, PairIf, first_table}
use Rattle.sk_linked.specs.declared.event.Event.{Event}
use Rattle.sk_linked.specs.declared.event.Event.TheVariants as event
use Rattle.sk_linked.specs.declared.event.CoreReply.{CoreReply}
use Rattle.sk_linked.specs.declared.event.CoreReply.TheVariants as reply
use Rattle.sk_linked.specs.Traces.{Drawn, drawn_at, Transaction, run_of, In, IsOwn, opens, NotAgain, close_entry, Belongs, open_entry}
use Rattle.sk_linked.specs.State.{Both, of, with_of, other, Stage, Stepping, Over, Actor, transaction_of, Core, rest_of, traces_of, table_of}
use Rattle.sk_linked.specs.Plans.{Plan, only, answer, is_running, is_undrawn, is_untouched, is_opened, both_false, ended, drops, found_rows, reads, read_plan, close_plan, voids, leave_plan, stage_left, todo, behind}
use Rattle.sk_linked.specs.Machine.{entered, lets, entries_of, talk_of, recorded}
use Rattle.sk_linked.specs.Invariant.{Shut, IsKept, Invariant}
use Rattle.sk_linked.proofs.Projection.{no_ends, again_of_own}
use Rattle.sk_linked.proofs.Members.{in_each, each_in, unlike_same, distinct_same}
use Rattle.sk_linked.proofs.Growing.{OwnPoint}
use Rattle.sk_linked.proofs.Going.{calls_more, IsOwnCall, goes_on}
use Rattle.sk_linked.proofs.Makers.{made_by, made_by_is}
use Rattle.sk_linked.proofs.Moving.{Moves, stays}
use Rattle.sk_linked.proofs.Applying.{each_entered, left_is, each_said, in_mapped, after_plan, Keeps}

-- ---- calls that open, write and stamp nothing

abbrev pub Plain : EngineName → Actor → EngineCall → Type 0
Plain s r (call.Open tx n) = ⊥
Plain s r (call.Get tx t key) = r.label ≡ tx
Plain s r (call.Scan tx t) = r.label ≡ tx
Plain s r (call.Put tx t key row) = ⊥
Plain s r (call.Close tx) = r.label ≡ tx
Plain s r (call.Stamp tx n) = ⊥
Plain s r (call.Void tx n) = (r.label ≡ tx) × (drawn_at s r.drew ≡ Some n)
Plain s r (call.DropTx tx) = r.label ≡ tx
Plain s r call.Horizon = ⊥
Plain s r (call.Records from to) = ⊥
Plain s r (call.Purge upto) = ⊥

pub label_is : (x y : Label) → x ≡ y → same_label x y ≡ true
label_is x y e = ap (same_label x) (sym e) ∙ same_itself x

pub plain_by : (s : EngineName) (r : Actor) (c : EngineCall) → Plain s r c → is_tx r.label (tx_of c) ≡ true
plain_by s r (call.Open tx n) h = absurd h
plain_by s r (call.Get tx t key) h = label_is r.label tx h
plain_by s r (call.Scan tx t) h = label_is r.label tx h
plain_by s r (call.Put tx t key row) h = absurd h
plain_by s r (call.Close tx) h = label_is r.label tx h
plain_by s r (call.Stamp tx n) h = absurd h
plain_by s r (call.Void tx n) h = label_is r.label tx h.0
plain_by s r (call.DropTx tx) h = label_is r.label tx h
plain_by s r call.Horizon h = absurd h
plain_by s r (call.Records from to) h = absurd h
plain_by s r (call.Purge upto) h = absurd h

pub plain_opens : (s : EngineName) (r : Actor) (c : EngineCall) → Plain s r c → opens r.label c ≡ false
plain_opens s r (call.Open tx n) h = absurd h
plain_opens s r (call.Get tx t key) h = refl
plain_opens s r (call.Scan tx t) h = refl
plain_opens s r (call.Put tx t key row) h = absurd h
plain_opens s r (call.Close tx) h = refl
plain_opens s r (call.Stamp tx n) h = absurd h
plain_opens s r (call.Void tx n) h = refl
plain_opens s r (call.DropTx tx) h = refl
plain_opens s r call.Horizon h = absurd h
plain_opens s r (call.Records from to) h = absurd h
plain_opens s r (call.Purge upto) h = absurd h

pub plain_wrote : (s : EngineName) (r : Actor) (c : EngineCall) (a : EngineReply) → Plain s r c → wrote_by c a ≡ []
plain_wrote s r (call.Open tx n) a h = absurd h
plain_wrote s r (call.Get tx t key) a h = refl
plain_wrote s r (call.Scan tx t) a h = refl
plain_wrote s r (call.Put tx t key row) a h = absurd h
plain_wrote s r (call.Close tx) a h = refl
plain_wrote s r (call.Stamp tx n) a h = absurd h
plain_wrote s r (call.Void tx n) a h = refl
plain_wrote s r (call.DropTx tx) a h = refl
plain_wrote s r call.Horizon a h = absurd h
plain_wrote s r (call.Records from to) a h = absurd h
plain_wrote s r (call.Purge upto) a h = absurd h

pub plain_own : (s : EngineName) (r : Actor) (t : Transaction) → ((n : ℕ) → drawn_at s r.drew ≡ Some n → drawn_at s t.drew ≡ Some n) → (c : EngineCall) → Plain s r c → (a : EngineReply) → IsOwn t s c a
plain_own s r t g (call.Open tx n) h a = absurd h
plain_own s r t g (call.Get tx u key) h a = tt
plain_own s r t g (call.Scan tx u) h a = tt
plain_own s r t g (call.Put tx u key row) h a = absurd h
plain_own s r t g (call.Close tx) h a = tt
plain_own s r t g (call.Stamp tx n) h a = absurd h
plain_own s r t g (call.Void tx n) h a = g n h.1
plain_own s r t g (call.DropTx tx) h a = tt
plain_own s r t g call.Horizon h a = absurd h
plain_own s r t g (call.Records from to) h a = absurd h
plain_own s r t g (call.Purge upto) h a = absurd h

pub plain_drops : (k : Core) (r : Actor) (s : EngineName) → Each (Plain s r) (drops k r s)
plain_drops k r s = cond_both (is_some (opening_of (table_of k s) r.label)) (call.DropTx r.label ∷ []) [] (λ cs. Each (Plain s r) cs) (λ e. (refl, tt)) (λ e. tt)

-- what calls write, where each writes nothing
pub none_wrote : (e : EngineTable) (cs : List EngineCall) → Each (λ (c : EngineCall). (a : EngineReply) → wrote_by c a ≡ []) cs → wrote_in (entered e cs) ≡ []
none_wrote e [] h = refl
none_wrote e (c ∷ cs) h = ap (λ ws. ws ++ wrote_in (entered (step e (record { call = c; reply = due e c })) cs)) (h.0 (due e c)) ∙ none_wrote (step e (record { call = c; reply = due e c })) cs h.1

pub of_only : (P : EngineName → EngineCall → Type 0) (s : EngineName) (cs : List EngineCall) → Each (P s) cs → (x : EngineName) → Each (P x) (of x (only s cs))
of_only P Mem cs h Mem = h
of_only P Mem cs h Store = tt
of_only P Store cs h Mem = tt
of_only P Store cs h Store = h

pub of_both : (P : EngineName → EngineCall → Type 0) (b : Both (List EngineCall)) → Each (P Mem) b.mem → Each (P Store) b.store → (s : EngineName) → Each (P s) (of s b)
of_both P b h k Mem = h
of_both P b h k Store = k

pub of_two : (P : EngineName → EngineCall → Type 0) (s : EngineName) (cs ds : List EngineCall) → Each (P s) cs → Each (P (other s)) ds → (x : EngineName) → Each (P x) (of x (with_of s cs (only (other s) ds)))
of_two P Mem cs ds h k Mem = h
of_two P Mem cs ds h k Store = k
of_two P Store cs ds h k Mem = k
of_two P Store cs ds h k Store = h

pub none_false : {A : Type 0} (s : EngineName) → of s both_false ≡ true → A
none_false Mem e = absurd (false≢true e)
none_false Store e = absurd (false≢true e)

-- ---- guards

pub none_is : {X : Type 0} (o : Option X) → not (is_some o) ≡ true → o ≡ None
none_is None e = refl
none_is (Some x) e = absurd (false≢true e)

pub is_live : (r : Actor) → is_undrawn r ≡ true → r.committed ≡ false
is_live r e = not-true r.committed (and_parts (not r.committed) (not (is_some r.drew.mem) && not (is_some r.drew.store)) e).0

pub none_drawn : (r : Actor) → is_undrawn r ≡ true → (s : EngineName) → drawn_at s r.drew ≡ None
none_drawn r e Mem = none_is r.drew.mem (and_parts (not (is_some r.drew.mem)) (not (is_some r.drew.store)) (and_parts (not r.committed) (not (is_some r.drew.mem) && not (is_some r.drew.store)) e).1).0
none_drawn r e Store = none_is r.drew.store (and_parts (not (is_some r.drew.mem)) (not (is_some r.drew.store)) (and_parts (not r.committed) (not (is_some r.drew.mem) && not (is_some r.drew.store)) e).1).1

pub undrawn_of : (r : Actor) → is_untouched r ≡ true → is_undrawn r ≡ true
undrawn_of r e = (and_parts (is_undrawn r) (not r.shut.mem && not r.shut.store) e).0

pub none_shut : (r : Actor) → is_untouched r ≡ true → (s : EngineName) → of s r.shut ≡ false
none_shut r e Mem = not-true r.shut.mem (and_parts (not r.shut.mem) (not r.shut.store) (and_parts (is_undrawn r) (not r.shut.mem && not r.shut.store) e).1).0
none_shut r e Store = not-true r.shut.store (and_parts (not r.shut.mem) (not r.shut.store) (and_parts (is_undrawn r) (not r.shut.mem && not r.shut.store) e).1).1

-- ---- a plan that neither draws nor commits

-- the transaction after such a plan, but for what it did and said
abbrev pub changed : Actor → Option ℕ → Snapshots → Both Bool → Both Bool → Stage → Ending → List Point → Actor
changed r chosen opened wrote shut stage end made = record r { chosen = chosen; opened = opened; wrote = wrote; shut = shut; stage = stage; ending = end; made = made }

module _ (k : Core) (inv : Invariant k) (r : Actor) (among : In r k.actors) where
  pub belongs_now : Belongs (traces_of k) (transaction_of r)
  belongs_now = each_in (Belongs (traces_of k)) (traces_of k).transactions (transaction_of r) inv.linked.each (in_mapped r k.actors among)

  pub kept_now : IsKept k.regs r
  kept_now = each_in (IsKept k.regs) k.actors r inv.actors among

  pub made_now : made_by r.label (traces_of k).transactions ≡ r.made
  made_now = made_by_is (traces_of k).transactions (transaction_of r) inv.linked.distinct (in_mapped r k.actors among)

  -- where it made nothing more
  pub made_same : r.made ≡ made_by r.label (traces_of k).transactions ++ []
  made_same = sym (append-nil r.made) ∙ ap (λ ps. ps ++ []) (sym made_now)

  pub unlike_old : (name : EngineName) → Each (λ (x : Transaction). same_label r.label x.label ≡ false → (n : ℕ) → drawn_at name r.drew ≡ Some n → drawn_at name x.drew ≡ Some n → ⊥) (traces_of k).transactions
  unlike_old name = in_each _ (traces_of k).transactions (λ x i f n a b.
      false≢true (sym f ∙ ap (λ (z : Transaction). same_label r.label z.label) (sym (unlike_same name n (traces_of k).transactions (transaction_of r) x (inv.linked.unlike name) (in_mapped r k.actors among) i a b)) ∙ same_itself r.label))

  pub stays_live : r.committed ≡ false → (c : Bool) (drew : Drawn) → Each (λ (x : Transaction). same_label r.label x.label ≡ true → x.committed ≡ true → (c ≡ true) × ((name : EngineName) → drawn_at name drew ≡ drawn_at name x.drew)) (traces_of k).transactions
  stays_live live c drew = in_each _ (traces_of k).transactions (λ x i t e.
      absurd (false≢true (sym live ∙ ap (λ (z : Transaction). z.committed) (distinct_same (traces_of k).transactions (transaction_of r) x inv.linked.distinct (in_mapped r k.actors among) i (same_is r.label x.label t)) ∙ e)))

  module _ (live : r.committed ≡ false) (e : Event) (said : CoreReply) (calls : Both (List EngineCall)) (regs : Regs) (chosen : Option ℕ) (opened : Snapshots) (wrote shut : Both Bool) (stage : Stage) (end : Ending) (made : List Point) where
    abbrev pub plan : Plan
    plan = record { reply = said; calls = calls; regs = regs; who = changed r chosen opened wrote shut stage end made }

    pub record GoesWell : Type 0 where
      pub more : List Point
      pub moves : Moves k.regs regs more
      pub sound : IsSound regs
      pub selections : Each (λ (q : Point). q.commit ≡ false) more
      pub by : (s : EngineName) → Each (λ (c : EngineCall). is_tx r.label (tx_of c) ≡ true) (of s calls)
      pub snapshot_stays : (s : EngineName) (n : ℕ) → snapshot_at s r.opened ≡ Some n → snapshot_at s opened ≡ Some n
      pub opened_now : (s : EngineName) (n : ℕ) → snapshot_at s opened ≡ Some n → (snapshot_at s r.opened ≡ Some n) ⊎ In (open_entry r.label n) (entries_of k plan s)
      pub own : (s : EngineName) → Each (λ (j : Entry). IsOwn (after_plan k e plan) s j.call j.reply) (entries_of k plan s)
      pub again : (s : EngineName) → Each (λ (c : EngineCall). opens r.label c ≡ false) (of s calls) ⊎ ((calls_in s r.talk ≡ []) × NotAgain r.label (entries_of k plan s))
      pub pair : PairIf (first_of k.regs.points ∷ (rest_of k.regs.points ++ more)) opened.mem opened.store
      pub made_more : made ≡ r.made ++ more
      pub kept : IsKept regs (recorded k e plan)

    pub goes_well : GoesWell → Keeps k e (Some plan)
    goes_well g l = record {
      more = g.more;
      moves = g.moves;
      sound = g.sound;
      by = by;
      new = goes_on (traces_of k) (transaction_of r) (entries_of k plan) g.more opened made (talk_of k plan) belongs_now (record {
        live = live;
        left = left_is k plan;
        by = by;
        snapshot_stays = g.snapshot_stays;
        opened = g.opened_now;
        own = each_said (IsOwnCall (after_plan k e plan)) k plan g.own;
        again = λ s. ⊎_elim
            (λ (x : Each (λ (c : EngineCall). opens r.label c ≡ false) (of s calls)). inl (each_entered (λ (j : Entry). opens r.label j.call ≡ false) (table_of k s) (of s calls) (each_weaker _ _ (λ c h f. h) (of s calls) x)))
            (λ (x : (calls_in s r.talk ≡ []) × NotAgain r.label (entries_of k plan s)). inr x)
            (g.again s);
        pair = g.pair;
        selections = g.selections;
      });
      unlike = unlike_old;
      stays = stays_live live r.committed r.drew;
      points = each_weaker (λ (q : Point). q.commit ≡ false) (OwnPoint (after_plan k e plan)) (λ q f c. absurd (false≢true (sym f ∙ c))) g.more g.selections;
      made = g.made_more ∙ ap (λ ps. ps ++ g.more) (sym made_now);
      kept = g.kept;
    }
      where
        by : (s : EngineName) → Each (λ (j : Entry). is_by r.label j ≡ true) (entries_of k plan s)
        by s = each_entered (λ (j : Entry). is_by r.label j ≡ true) (table_of k s) (of s calls) (each_weaker _ _ (λ c h f. h) (of s calls) (g.by s))

    -- the calls on an engine behind such a plan
    pub calls_after : (s : EngineName) → calls_in s (r.talk ++ talk_of k plan) ≡ calls_in s r.talk ++ entries_of k plan s
    calls_after s = calls_more s r.talk (talk_of k plan) ∙ ap (λ xs. calls_in s r.talk ++ xs) (sym (left_is k plan s))

    -- and what they wrote
    pub wrote_after : (s : EngineName) → wrote_in (calls_in s (r.talk ++ talk_of k plan)) ≡ wrote_in (calls_in s r.talk) ++ wrote_in (entries_of k plan s)
    wrote_after s = ap wrote_in (calls_after s) ∙ flat_map-append _ (calls_in s r.talk) (entries_of k plan s)

  -- ---- calls that open, write and stamp nothing, where the registry stays

  pub pair_now : PairIf (first_of k.regs.points ∷ (rest_of k.regs.points ++ [])) r.opened.mem r.opened.store
  pair_now = subst (λ (ps : List Point). PairIf (first_of k.regs.points ∷ ps) r.opened.mem r.opened.store) (sym (append-nil (rest_of k.regs.points))) belongs_now.pair

  -- plain calls are the transaction's own
  pub plain_owns : (s : EngineName) (t : Transaction) → ((n : ℕ) → drawn_at s r.drew ≡ Some n → drawn_at s t.drew ≡ Some n) → (e : EngineTable) (cs : List EngineCall) → Each (Plain s r) cs → Each (λ (j : Entry). IsOwn t s j.call j.reply) (entered e cs)
  plain_owns s t g e cs h = each_entered (λ (j : Entry). IsOwn t s j.call j.reply) e cs (each_weaker (Plain s r) (λ (c : EngineCall). (f : EngineTable) → IsOwn t s c (due f c)) (λ c q f. plain_own s r t g c q (due f c)) cs h)

  pub plain_step : (live : r.committed ≡ false) (e : Event) (said : CoreReply) (calls : Both (List EngineCall)) (shut : Both Bool) (stage : Stage) (end : Ending)
      → ((s : EngineName) → Each (Plain s r) (of s calls))
      → (is_running stage ≡ true → r.opened.store ≡ None → calls_in Store r.talk ++ entries_of k (plan live e said calls k.regs r.chosen r.opened r.wrote shut stage end r.made) Store ≡ [])
      → ((s : EngineName) → of s shut ≡ true → Shut (after_plan k e (plan live e said calls k.regs r.chosen r.opened r.wrote shut stage end r.made)) s)
      → Keeps k e (Some (plan live e said calls k.regs r.chosen r.opened r.wrote shut stage end r.made))
  plain_step live e said calls shut stage end plain unopened shut_is = goes_well live e said calls k.regs r.chosen r.opened r.wrote shut stage end r.made (record {
    more = [];
    moves = stays k.regs;
    sound = inv.sound;
    selections = tt;
    by = λ s. each_weaker (Plain s r) (λ (c : EngineCall). is_tx r.label (tx_of c) ≡ true) (λ c h. plain_by s r c h) (of s calls) (plain s);
    snapshot_stays = λ s n q. q;
    opened_now = λ s n q. inl q;
    own = λ s. plain_owns s (after_plan k e (plan live e said calls k.regs r.chosen r.opened r.wrote shut stage end r.made)) (λ n q. q) (table_of k s) (of s calls) (plain s);
    again = λ s. inl (each_weaker (Plain s r) (λ (c : EngineCall). opens r.label c ≡ false) (λ c h. plain_opens s r c h) (of s calls) (plain s));
    pair = pair_now;
    made_more = sym (append-nil r.made);
    kept = record {
      drew = kept_now.drew;
      anchor = kept_now.anchor;
      chosen = kept_now.chosen;
      unopened = λ y o. calls_after live e said calls k.regs r.chosen r.opened r.wrote shut stage end r.made Store ∙ unopened y o;
      shut = shut_is;
      wrote = λ s y. ap some_writes (same s) ∙ kept_now.wrote s y;
      silent = λ s f. same s ∙ kept_now.silent s f;
    };
  })
    where
      quiet : (s : EngineName) → wrote_in (entries_of k (plan live e said calls k.regs r.chosen r.opened r.wrote shut stage end r.made) s) ≡ []
      quiet s = none_wrote (table_of k s) (of s calls) (each_weaker (Plain s r) (λ (c : EngineCall). (a : EngineReply) → wrote_by c a ≡ []) (λ c h a. plain_wrote s r c a h) (of s calls) (plain s))

      same : (s : EngineName) → wrote_in (calls_in s (r.talk ++ talk_of k (plan live e said calls k.regs r.chosen r.opened r.wrote shut stage end r.made))) ≡ wrote_in (calls_in s r.talk)
      same s = wrote_after live e said calls k.regs r.chosen r.opened r.wrote shut stage end r.made s ∙ ap (λ xs. wrote_in (calls_in s r.talk) ++ xs) (quiet s) ∙ append-nil (wrote_in (calls_in s r.talk))

  not_running : {A : Type 0} (b : Bool) → is_running (stage_left b) ≡ true → A
  not_running true e = absurd (false≢true e)
  not_running false e = absurd (false≢true e)

  pub leave_keeps : r.committed ≡ false → (tx : Label) (name : EngineName) → Keeps k (event.Leave tx name) (Some (leave_plan k r name))
  leave_keeps live tx name = plain_step live (event.Leave tx name) reply.Done (only name (call.DropTx r.label ∷ [])) both_false (stage_left (is_some (opening_of (table_of k (other name)) r.label))) ending.RolledBack
      (of_only (λ x c. Plain x r c) name (call.DropTx r.label ∷ []) (refl, tt)) (λ y o. not_running (is_some (opening_of (table_of k (other name)) r.label)) y) (λ s y. none_false s y)

  -- where nothing is closed, nothing has to be said of it
  pub still : is_untouched r ≡ true → (t : Transaction) → (s : EngineName) → of s r.shut ≡ true → Shut t s
  still u t s y = absurd (false≢true (sym (none_shut r u s) ∙ y))

  -- a transaction that has not opened the storage engine makes no call there
  pub only_opened : (e : Event) (said : CoreReply) (who : Actor) (c : EngineCall) (name : EngineName) → is_opened r name ≡ true → r.opened.store ≡ None
      → entries_of k (record { reply = said; calls = only name (c ∷ []); regs = k.regs; who = who }) Store ≡ []
  only_opened e said who c Mem y o = refl
  only_opened e said who c Store y o = absurd (false≢true (sym (ap (λ (x : Option ℕ). is_some x) o) ∙ y))

  -- a read
  reads_keep : (u : is_untouched r ≡ true) (tx : Label) (t : ℕ) (key : Option Value) (name : EngineName) (c : EngineCall) (said : CoreReply) → is_running r.stage ≡ true → is_opened r name ≡ true → Plain name r c
      → Keeps k (event.Read tx t key) (Some (reads r k name c said))
  reads_keep u tx t key name c said running opened plain = plain_step (is_live r (undrawn_of r u)) (event.Read tx t key) said (only name (c ∷ [])) r.shut r.stage r.ending
      (of_only (λ x c. Plain x r c) name (c ∷ []) (plain, tt))
      (λ y o. ap (λ xs. calls_in Store r.talk ++ xs) (only_opened (event.Read tx t key) said r c name opened o) ∙ append-nil (calls_in Store r.talk) ∙ kept_now.unopened running o)
      (still u _)

  pub read_keeps : (u : is_untouched r ≡ true) (tx : Label) (t : ℕ) (key : Option Value) (name : EngineName) (c : EngineCall) (a : EngineReply) → is_running r.stage ≡ true → is_opened r name ≡ true → Plain name r c
      → Keeps k (event.Read tx t key) (read_plan k r name key c a)
  read_keeps u tx t key name c (Found row) running opened plain = reads_keep u tx t key name c (reply.Rows (found_rows key row)) running opened plain
  read_keeps u tx t key name c (Rows rows) running opened plain = reads_keep u tx t key name c (reply.Rows rows) running opened plain
  read_keeps u tx t key name c (Fault f) running opened plain = reads_keep u tx t key name c (reply.Refused f) running opened plain
  read_keeps u tx t key name c Done running opened plain = tt
  read_keeps u tx t key name c (Number n) running opened plain = tt
  read_keeps u tx t key name c (Commits cs) running opened plain = tt

  -- what stands in an engine was not ended there
  own_none_ends : (s : EngineName) → is_standing (opening_of (table_of k s) r.label) ≡ true → Each (λ (j : Entry). ends r.label j.call ≡ false) (calls_in s r.talk)
  own_none_ends s m =
      let b : Belongs (traces_of k) (transaction_of r) = belongs_now in
      let again : NotAgain r.label (of s k.journals) = again_of_own r.label (of s k.journals) (subst (λ xs. NotAgain r.label xs) (sym (b.entries s)) (b.again s)) in
      let all : Each (λ (j : Entry). ends r.label j.call ≡ false) (of s k.journals) = no_ends r.label (first_table (run_of (traces_of k)) s) (of s k.journals) (inv.linked.legal s) (inv.linked.allowed s) again m in
      subst (λ xs. Each (λ (j : Entry). ends r.label j.call ≡ false) xs) (b.entries s) (each_filter (λ (j : Entry). ends r.label j.call ≡ false) (λ (j : Entry). ends r.label j.call ≡ false) (is_by r.label) (λ j t q. q) (of s k.journals) all)

  pub close_keeps : (live : r.committed ≡ false) (tx : Label) (name : EngineName) (a : EngineReply) → answer k name (call.Close r.label) ≡ a → Keeps k (event.Close tx name) (close_plan k r name a)
  close_keeps live tx name (Number floor) e = λ l. plain_step live (event.Close tx name) (reply.Number floor) (only name (call.Close r.label ∷ [])) (with_of name true r.shut) (Stepping (behind (todo r))) r.ending
      (of_only (λ x c. Plain x r c) name (call.Close r.label ∷ []) (refl, tt)) (λ y o. absurd (false≢true y)) (λ s y. shut_now name s e (standing name l) y) l
    where
      p : EngineName → Plan
      p name = plan live (event.Close tx name) (reply.Number floor) (only name (call.Close r.label ∷ [])) k.regs r.chosen r.opened r.wrote (with_of name true r.shut) (Stepping (behind (todo r))) r.ending r.made

      standing : (name : EngineName) → lets k (only name (call.Close r.label ∷ [])) ≡ true → is_standing (opening_of (table_of k name) r.label) ≡ true
      standing Mem q = (and_parts (is_standing (opening_of (table_of k Mem) r.label)) true (and_parts _ true q).0).0
      standing Store q = (and_parts (is_standing (opening_of (table_of k Store) r.label)) true (and_parts true _ q).1).0

      here : (name : EngineName) → entries_of k (p name) name ≡ close_entry r.label floor ∷ [] → is_standing (opening_of (table_of k name) r.label) ≡ true → Shut (after_plan k (event.Close tx name) (p name)) name
      here name q m = record {
        before = calls_in name r.talk;
        floor = floor;
        is = calls_after live (event.Close tx name) (reply.Number floor) (only name (call.Close r.label ∷ [])) k.regs r.chosen r.opened r.wrote (with_of name true r.shut) (Stepping (behind (todo r))) r.ending r.made name ∙ ap (λ xs. calls_in name r.talk ++ xs) q;
        none_ends = own_none_ends name m;
      }

      there : (name s : EngineName) → entries_of k (p name) s ≡ [] → of s r.shut ≡ true → Shut (after_plan k (event.Close tx name) (p name)) s
      there name s q y =
          let old : Shut (transaction_of r) s = kept_now.shut s y in
          record {
            before = old.before;
            floor = old.floor;
            is = calls_after live (event.Close tx name) (reply.Number floor) (only name (call.Close r.label ∷ [])) k.regs r.chosen r.opened r.wrote (with_of name true r.shut) (Stepping (behind (todo r))) r.ending r.made s
                ∙ ap (λ xs. calls_in s r.talk ++ xs) q ∙ append-nil (calls_in s r.talk) ∙ old.is;
            none_ends = old.none_ends;
          }

      shut_now : (name s : EngineName) → answer k name (call.Close r.label) ≡ Number floor → is_standing (opening_of (table_of k name) r.label) ≡ true → of s (with_of name true r.shut) ≡ true → Shut (after_plan k (event.Close tx name) (p name)) s
      shut_now Mem Mem q m y = here Mem (ap (λ (x : EngineReply). record { call = call.Close r.label; reply = x } ∷ []) q) m
      shut_now Mem Store q m y = there Mem Store refl y
      shut_now Store Mem q m y = there Store Mem refl y
      shut_now Store Store q m y = here Store (ap (λ (x : EngineReply). record { call = call.Close r.label; reply = x } ∷ []) q) m
  close_keeps live tx name Done e = tt
  close_keeps live tx name (Found row) e = tt
  close_keeps live tx name (Rows rows) e = tt
  close_keeps live tx name (Commits cs) e = tt
  close_keeps live tx name (Fault f) e = tt

  -- both drawn numbers are void, or what drew none is dropped
  plain_voids : (s : EngineName) → Each (Plain s r) (voids k r s (drawn_at s r.drew))
  plain_voids s = go (drawn_at s r.drew) refl
    where
      go : (o : Option ℕ) → drawn_at s r.drew ≡ o → Each (Plain s r) (voids k r s o)
      go None e = plain_drops k r s
      go (Some n) e = ((refl, e), tt)

  pub spent_keeps : (live : r.committed ≡ false) (tx : Label) (name : EngineName)
      → Keeps k (event.Draw tx name) (Some (record { reply = reply.Spent; calls = record { mem = voids k r Mem r.drew.mem; store = voids k r Store r.drew.store }; regs = k.regs; who = ended ending.Spent r }))
  spent_keeps live tx name = plain_step live (event.Draw tx name) reply.Spent (record { mem = voids k r Mem r.drew.mem; store = voids k r Store r.drew.store }) both_false Over ending.Spent
      (of_both (λ x c. Plain x r c) (record { mem = voids k r Mem r.drew.mem; store = voids k r Store r.drew.store }) (plain_voids Mem) (plain_voids Store)) (λ y o. absurd (false≢true y)) (λ s y. none_false s y)

  pub failed_keeps : (live : r.committed ≡ false) (tx : Label) (ca cb : ℕ) → r.drew.mem ≡ Some ca → r.drew.store ≡ Some cb
      → Keeps k (event.Check tx) (Some (record { reply = reply.CheckFailed (last_of k.regs.points); calls = record { mem = call.Void r.label ca ∷ []; store = call.Void r.label cb ∷ [] }; regs = k.regs; who = ended ending.CheckFailed r }))
  failed_keeps live tx ca cb e f = plain_step live (event.Check tx) (reply.CheckFailed (last_of k.regs.points)) (record { mem = call.Void r.label ca ∷ []; store = call.Void r.label cb ∷ [] }) both_false Over ending.CheckFailed
      (of_both (λ x c. Plain x r c) (record { mem = call.Void r.label ca ∷ []; store = call.Void r.label cb ∷ [] }) ((refl, e), tt) ((refl, f), tt)) (λ y o. absurd (false≢true y)) (λ s y. none_false s y)

  pub recycled_keeps : (live : r.committed ≡ false) (tx : Label) (q : Recycled)
      → Keeps k (event.Select tx) (Some (record { reply = reply.Recycled q; calls = only Mem (drops k r Mem); regs = k.regs; who = ended ending.Recycled r }))
  recycled_keeps live tx q = plain_step live (event.Select tx) (reply.Recycled q) (only Mem (drops k r Mem)) both_false Over ending.Recycled
      (of_only (λ x c. Plain x r c) Mem (drops k r Mem) (plain_drops k r Mem)) (λ y o. absurd (false≢true y)) (λ s y. none_false s y)
