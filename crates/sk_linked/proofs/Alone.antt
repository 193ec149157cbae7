-- Who opens an engine alone meets nobody there.
use Rattle.std.specs.Prelude.{ℕ, Bool, true, false, cond, not, ◌&&◌, ◌≡◌, ◌<◌, ◌≤◌, List, [], ◌∷◌, ◌++◌, is_some, Option, Some, None}
use Rattle.std.proofs.Common.{refl, sym, ap, subst, ◌∙◌, inl, ⊎_elim, arith}
use Rattle.std.proofs.lemmas.Bool.{and_parts, cases_Bool, cond_both, false≢true}
use Rattle.sk_rows.specs.declared.value.Value.{Value}
use Rattle.sk_model.specs.declared.label.Label.{Label}
use Rattle.sk_model.specs.declared.engine.EngineName.{EngineName}
use Rattle.sk_model.specs.declared.commit.Write.{Write}
use Rattle.sk_model.specs.declared.record.Record.{Record}
use Rattle.sk_model.specs.declared.record.Said.{Said}
use Rattle.sk_model.specs.declared.reply.Why.{Why}
use Rattle.sk_model.specs.declared.reply.Why.TheVariants as why
use Rattle.sk_model.specs.declared.reply.Reply.{Reply}
use Rattle.sk_model.specs.declared.reply.Reply.TheVariants as reply
use Rattle.sk_model.specs.declared.call.EngineCall.{EngineCall}
use Rattle.sk_model.specs.declared.call.EngineCall.TheVariants as call
use Rattle.sk_model.specs.declared.call.EngineFault.TheVariants as fault
use Rattle.sk_model.specs.declared.call.Entry.{Entry}
use Rattle.sk_model.specs.Records.{same_label}
use Rattle.sk_model.specs.Engine.{VersionState, Open, Closed, Stamped, Dropped, Version, Opening, EngineTable, is_open, is_undecided, is_of, opening_in, opening_of, snapshot_in, snapshot_of}
use Rattle.sk_model.specs.EngineChanges.{restand, put_version, opening_at, change}
use Rattle.sk_model.specs.EngineConditions.{is_closed, is_standing, may}
use Rattle.sk_model.specs.EngineInvariant.{Stands, Good}
use Rattle.sk_model.specs.Legal.{step, after_entries, Legal, Allowed}
use Rattle.sk_model.specs.declared.engine.EngineName.TheVariants.{Mem}
use Rattle.sk_model.specs.declared.call.EngineReply.TheVariants.{Fault}
use Rattle.sk_model.specs.Talks.{own, opened, tx_of, is_tx}
use Rattle.sk_model.specs.Asking.{read_call, fault_reply}
use Rattle.sk_model.specs.RecordTalks.{Talks}
use Rattle.sk_model.proofs.Lists.{Each}
use Rattle.sk_model.proofs.Labels.{same_is, same_itself}
use Rattle.sk_model.proofs.Order.{good_entries, good_start, legal_front}
use Rattle.sk_model.proofs.Quiet.{step_keeps}
use Rattle.sk_linked.specs.Reads.{number_at, first_table}
use Rattle.sk_linked.specs.Traces.{Transaction, Traces, run_of, In, Linked}
use Rattle.sk_linked.specs.Recorded.{HasTalk}
use Rattle.sk_linked.specs.Causes.{Newest, InTheWay, Blocks, Caused, Ring}
use Rattle.sk_linked.specs.Alone.{StampedUpto, IsAlone, OpensAlone, meets_another, AloneMeetsNobody}
use Rattle.sk_linked.proofs.Members.{each_in, in_append, in_front}
use Rattle.sk_linked.proofs.Projection.{shut, opening_change}
use Rattle.sk_linked.proofs.Refusing.{is_plain, Source, ByFault, ByAnchor, Plain, said_sources}
use Rattle.sk_linked.proofs.Causes.{allowed_at, met, stands, by_engine}

-- at most one transaction has the engine open, and no stamped number is past its snapshot
record Calm (e : EngineTable) : Type 0 where
  only : (l m : Label) → is_some (opening_of e l) ≡ true → is_some (opening_of e m) ≡ true → l ≡ m
  seen : (l : Label) → is_some (opening_of e l) ≡ true → StampedUpto (snapshot_of e l) e.versions

-- ---- what each call keeps of it

put_upto : (s : ℕ) (tx : Label) (k : ℕ) (w : Write) (vs : List Version) → StampedUpto s vs → StampedUpto s (put_version tx k w vs)
put_upto s tx k w [] h = ((λ n e. absurd (open_stamped e)), tt)
  where
    open_stamped : {n : ℕ} → Open ≡ Stamped n → ⊥
    open_stamped e = cc
put_upto s tx k w (v ∷ vs) h = go (is_of w.table w.key v && (same_label tx v.by && is_open v.standing)) (put_upto s tx k w vs h.1)
  where
    go : (b : Bool) → StampedUpto s (put_version tx k w vs) → StampedUpto s (cond b (record v { write = w } ∷ vs) (v ∷ put_version tx k w vs))
    go true ih = (h.0, h.1)
    go false ih = (h.0, ih)

close_upto : (s : ℕ) (tx : Label) (g : ℕ) (vs : List Version) → StampedUpto s vs → StampedUpto s (restand tx (Closed g) vs)
close_upto s tx g [] h = tt
close_upto s tx g (v ∷ vs) h = (go (same_label tx v.by && is_undecided v.standing), close_upto s tx g vs h.1)
  where
    closed_stamped : {n : ℕ} → Closed g ≡ Stamped n → ⊥
    closed_stamped e = cc

    go : (b : Bool) (n : ℕ) → (cond b (record v { standing = Closed g }) v).standing ≡ Stamped n → n ≤ s
    go true n e = absurd (closed_stamped e)
    go false n e = h.0 n e

same_opening : (e : EngineTable) (c : EngineCall) → ((l : Label) → is_some (opening_of (change e c) l) ≡ is_some (opening_of e l)) → ((l : Label) → snapshot_of (change e c) l ≡ snapshot_of e l)
    → ((s : ℕ) → StampedUpto s e.versions → StampedUpto s (change e c).versions) → Calm e → Calm (change e c)
same_opening e c is at upto h = record {
  only = λ l m a b. h.only l m (sym (is l) ∙ a) (sym (is m) ∙ b);
  seen = λ l a. subst (λ s. StampedUpto s (change e c).versions) (sym (at l)) (upto (snapshot_of e l) (h.seen l (sym (is l) ∙ a)));
}

-- where the only one ends, nobody has the engine open
ended : (e : EngineTable) (c : EngineCall) (tx : Label) → is_some (opening_of e tx) ≡ true → ((l : Label) → opening_of (change e c) l ≡ cond (not (same_label tx l)) (opening_of e l) None) → Calm e → Calm (change e c)
ended e c tx there is h = record { only = λ l m a b. absurd (nobody l a); seen = λ l a. absurd (nobody l a) }
  where
    nobody : (l : Label) → is_some (opening_of (change e c) l) ≡ true → ⊥
    nobody l a = ⊎_elim
        (λ (y : same_label tx l ≡ true). false≢true (sym (ap is_some (is l ∙ ap (λ b. cond (not b) (opening_of e l) None) y)) ∙ a))
        (λ (n : same_label tx l ≡ false).
        let still : is_some (opening_of e l) ≡ true = sym (ap is_some (is l ∙ ap (λ b. cond (not b) (opening_of e l) None) n)) ∙ a in
        false≢true (sym n ∙ ap (λ m. same_label tx m) (h.only l tx still there) ∙ same_itself tx))
        (cases_Bool (same_label tx l))

opened_now : (e : EngineTable) (tx : Label) (s : ℕ) → e.openings ≡ [] → StampedUpto s e.versions → Calm (change e (call.Open tx s))
opened_now e tx s none upto = record {
  only = λ l m a b. mine l a ∙ sym (mine m b);
  seen = λ l a. subst (λ n. StampedUpto n e.versions) (sym (at l a)) upto;
}
  where
    nobody : (l : Label) → opening_of e l ≡ None
    nobody l = ap (opening_in l) none

    is : (l : Label) → opening_of (change e (call.Open tx s)) l ≡ cond (same_label l tx) (Some (opening_at s)) None
    is l = opening_change l e (call.Open tx s) ∙ ap (λ o. cond (same_label l tx) (Some (opening_at s)) o) (nobody l)

    own : (l : Label) → is_some (opening_of (change e (call.Open tx s)) l) ≡ true → same_label l tx ≡ true
    own l a = ⊎_elim
        (λ (y : same_label l tx ≡ true). y)
        (λ (n : same_label l tx ≡ false). absurd (false≢true (sym (ap is_some (is l ∙ ap (λ b. cond b (Some (opening_at s)) None) n)) ∙ a)))
        (cases_Bool (same_label l tx))

    mine : (l : Label) → is_some (opening_of (change e (call.Open tx s)) l) ≡ true → l ≡ tx
    mine l a = same_is l tx (own l a)

    at : (l : Label) → is_some (opening_of (change e (call.Open tx s)) l) ≡ true → snapshot_of (change e (call.Open tx s)) l ≡ s
    at l a = ap snapshot_in (is l ∙ ap (λ b. cond b (Some (opening_at s)) None) (own l a))

standing_some : (o : Option Opening) → is_standing o ≡ true → is_some o ≡ true
standing_some None h = absurd (false≢true h)
standing_some (Some o) h = refl

closed_some : (o : Option Opening) → is_closed o ≡ true → is_some o ≡ true
closed_some None h = absurd (false≢true h)
closed_some (Some o) h = refl

-- a close keeps whose opening it is, and its snapshot
shut_keeps : {X : Type 0} (f : Option Opening → X) (l tx : Label) (g : ℕ) (o : Option Opening) → ((o : Option Opening) → f (shut g o) ≡ f o) → f (cond (same_label l tx) (shut g o) o) ≡ f o
shut_keeps f l tx g o k = cond_both (same_label l tx) (shut g o) o (λ x. f x ≡ f o) (λ y. k o) (λ n. refl)

calm_change : (e : EngineTable) (c : EngineCall) → may e c ≡ true → IsAlone e c → Calm e → Calm (change e c)
calm_change e (call.Open tx s) m a h = opened_now e tx s a.0 a.1
calm_change e (call.Get tx t key) m a h = h
calm_change e (call.Scan tx t) m a h = h
calm_change e (call.Put tx t key row) m a h = same_opening e (call.Put tx t key row) (λ l. refl) (λ l. refl) (λ s k. put_upto s tx _ _ e.versions k) h
calm_change e (call.Close tx) m a h = same_opening e (call.Close tx)
    (λ l. ap is_some (opening_change l e (call.Close tx)) ∙ shut_keeps is_some l tx e.greatest (opening_of e l) (λ o. some_same o))
    (λ l. ap snapshot_in (opening_change l e (call.Close tx)) ∙ shut_keeps snapshot_in l tx e.greatest (opening_of e l) (λ o. snapshot_same o))
    (λ s k. close_upto s tx e.greatest e.versions k) h
  where
    some_same : (o : Option Opening) → is_some (shut e.greatest o) ≡ is_some o
    some_same None = refl
    some_same (Some o) = refl

    snapshot_same : (o : Option Opening) → snapshot_in (shut e.greatest o) ≡ snapshot_in o
    snapshot_same None = refl
    snapshot_same (Some o) = refl
calm_change e (call.Stamp tx n) m a h = ended e (call.Stamp tx n) tx (closed_some (opening_of e tx) (and_parts _ _ m).0) (λ l. opening_change l e (call.Stamp tx n)) h
calm_change e (call.Void tx n) m a h = ended e (call.Void tx n) tx (closed_some (opening_of e tx) (and_parts _ _ m).0) (λ l. opening_change l e (call.Void tx n)) h
calm_change e (call.DropTx tx) m a h = ended e (call.DropTx tx) tx m (λ l. opening_change l e (call.DropTx tx)) h
calm_change e call.Horizon m a h = h
calm_change e (call.Records from to) m a h = h
calm_change e (call.Purge upto) m a h = record { only = h.only; seen = h.seen }

calm_after : (e : EngineTable) (js ks : List Entry) → OpensAlone e (js ++ ks) → Calm e → Calm (after_entries e js)
calm_after e [] ks a h = h
calm_after e (j ∷ js) ks a h = calm_after (step e j) js ks a.1 (step_keeps Calm e j h (λ m r. calm_change e j.call m a.0 h))

-- ---- so nobody is in the way

module _ (e : EngineTable) (good : Good e) (calm : Calm e) (tx : Label) (here : is_some (opening_of e tx) ≡ true) where
  undecided_open : (o : Option Opening) (s : VersionState) → Stands o s → is_undecided s ≡ true → is_some o ≡ true
  undecided_open None Open h u = absurd h
  undecided_open (Some o) Open h u = refl
  undecided_open None (Closed f) h u = absurd h
  undecided_open (Some o) (Closed f) h u = refl
  undecided_open o (Stamped n) h u = absurd (false≢true u)
  undecided_open o Dropped h u = absurd (false≢true u)

  no_rival : (v : Version) → In v e.versions → is_undecided v.standing ≡ true → same_label tx v.by ≡ false → ⊥
  no_rival v i u apart =
      let open_too : is_some (opening_of e v.by) ≡ true = undecided_open (opening_of e v.by) v.standing (each_in _ e.versions v good.sound i) u in
      false≢true (sym apart ∙ ap (λ l. same_label tx l) (calm.only v.by tx open_too here) ∙ same_itself tx)

  no_way : (t : ℕ) (key : Value) (by : Label) (reason : Why) → InTheWay e tx t key by reason → ⊥
  no_way t key by why.Open w = no_rival w.0.version w.0.among (ap is_undecided w.1) (ap (λ l. same_label tx l) w.0.author ∙ w.0.apart)
  no_way t key by why.Closed w = no_rival w.0.version w.0.among (ap is_undecided w.2) (ap (λ l. same_label tx l) w.0.author ∙ w.0.apart)
  no_way t key by (why.Past n s) w =
      let newest : Newest e t key by n = w.1 in
      let upto : n ≤ snapshot_of e tx = each_in (λ (v : Version). (n : ℕ) → v.standing ≡ Stamped n → n ≤ snapshot_of e tx) e.versions newest.version (calm.seen tx here) (subst (In newest.version) (sym newest.is) (in_append newest.version newest.older (newest.version ∷ newest.newer) (inl refl))) n newest.number in
      apart n s (snapshot_of e tx) upto w.2 w.3
    where
      apart : (n s m : ℕ) → n ≤ m → m ≡ s → s < n → ⊥
      apart n s m h e l = omega arith

  no_block : (t : ℕ) (key : Option Value) (by : Label) → Blocks e tx t key by → ⊥
  no_block t key by b = no_rival b.version b.among (ap is_undecided b.holds.closed) b.holds.apart

-- ---- in linked traces

module _ (h : Traces) (t : Transaction) (r : Record) (linked : Linked h) (alone : (name : EngineName) → OpensAlone (first_table (run_of h) name) (h.journals name)) (among : In t h.transactions) (same : HasTalk t r) where
  -- no ring of points matters here
  abbrev ring : Ring
  ring = record { partitions = 0; size = 0 }

  calm_first : (name : EngineName) → Calm (first_table (run_of h) name)
  calm_first name = record { only = λ l m a b. absurd (false≢true a); seen = λ l a. absurd (false≢true a) }

  good_at : (name : EngineName) (before after : List Entry) → h.journals name ≡ before ++ after → Good (after_entries (first_table (run_of h) name) before)
  good_at name before after is = good_entries (first_table (run_of h) name) before (legal_front (first_table (run_of h) name) before after (subst (Legal (first_table (run_of h) name)) is (linked.legal name))).0
      (good_start name h.catalog h.rows (number_at name h.first))

  calm_at : (name : EngineName) (before after : List Entry) → h.journals name ≡ before ++ after → Calm (after_entries (first_table (run_of h) name) before)
  calm_at name before after is = calm_after (first_table (run_of h) name) before after (subst (OpensAlone (first_table (run_of h) name)) is (alone name)) (calm_first name)

  may_at : (name : EngineName) (before : List Entry) (j : Entry) (after : List Entry) → h.journals name ≡ before ++ j ∷ after → may (after_entries (first_table (run_of h) name) before) j.call ≡ true
  may_at name before j after is = allowed_at (first_table (run_of h) name) before j after (subst (Allowed (first_table (run_of h) name)) is (linked.allowed name))

  read_some : (e : EngineTable) (l : Label) (n : ℕ) (key : Option Value) → may e (read_call l n key) ≡ true → is_some (opening_of e l) ≡ true
  read_some e l n None m = standing_some (opening_of e l) (and_parts _ _ m).0
  read_some e l n (Some key) m = standing_some (opening_of e l) (and_parts _ _ m).0

  uncaused : (said : Reply) → meets_another said ≡ true → Caused h ring r said → ⊥
  uncaused (reply.Conflict by reason) e c =
      let m = c.4 in
      let at : EngineTable = after_entries (first_table (run_of h) c.0) m.before in
      let put : Entry = record { call = call.Put r.label c.1 c.2 c.3; reply = Fault (fault.Conflict by reason) } in
      no_way at (good_at c.0 m.before (put ∷ m.after) m.is) (calm_at c.0 m.before (put ∷ m.after) m.is) r.label (standing_some (opening_of at r.label) (and_parts _ _ (may_at c.0 m.before put m.after m.is)).0) c.1 c.2 by reason c.5
  uncaused (reply.Busy by) e c =
      let m = c.3 in
      let at : EngineTable = after_entries (first_table (run_of h) c.0) m.before in
      let read : Entry = record { call = read_call r.label c.1 c.2; reply = Fault (fault.Busy by) } in
      no_block at (good_at c.0 m.before (read ∷ m.after) m.is) (calm_at c.0 m.before (read ∷ m.after) m.is) r.label (read_some at r.label c.1 c.2 (may_at c.0 m.before read m.after m.is)) c.1 c.2 by c.4
  uncaused _ e c = absurd (false≢true e)

  plain_meets : (said : Reply) → is_plain said ≡ true → meets_another said ≡ false
  plain_meets (reply.Conflict by why) p = absurd (false≢true p)
  plain_meets (reply.Busy by) p = absurd (false≢true p)
  plain_meets _ p = refl

  meets_nobody : (talks : Talks h.catalog r t.talk) (said : Reply) → Source (opened Mem talks.spoken) talks.spoken said → meets_another said ≡ false
  meets_nobody talks said (Plain p) = plain_meets said p
  meets_nobody talks said (ByAnchor x is a) = ap meets_another is
  meets_nobody talks said (ByFault e c f i is) = ⊎_elim
      (λ (y : meets_another (fault_reply e f) ≡ true). absurd (uncaused (fault_reply e f) y (by_engine h ring t r linked among same e c f (met h ring t r linked among same e c f stood.0) stood.1)))
      (λ (n : meets_another (fault_reply e f) ≡ false). ap meets_another is ∙ n)
      (cases_Bool (meets_another (fault_reply e f)))
    where
      stood : In (record { call = c; reply = Fault f }) (h.journals e) × (is_tx t.label (tx_of c) ≡ true)
      stood = stands h ring t r linked among same e c f (subst (In (own e c (Fault f))) (sym talks.talk_is) (in_front (own e c (Fault f)) talks.spoken _ i))

  each_nobody : (talks : Talks h.catalog r t.talk) (said : List Said) → Each (λ (s : Said). Source (opened Mem talks.spoken) talks.spoken s.reply) said → Each (λ (s : Said). meets_another s.reply ≡ false) said
  each_nobody talks [] k = tt
  each_nobody talks (s ∷ said) k = (meets_nobody talks s.reply k.0, each_nobody talks said k.1)

pub alone_meets_nobody : AloneMeetsNobody
alone_meets_nobody h t r linked alone among same talks = each_nobody h t r linked alone among same talks r.said (said_sources h.catalog r t.talk talks)
