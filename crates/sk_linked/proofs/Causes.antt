-- In linked traces what an engine refused has its cause in the engine's journal, and a number is past its snapshot.
use Rattle.std.specs.Prelude.{ℕ, Bool, true, false, cond, ◌&&◌, ◌≡◌, ◌⊎◌, ◌<◌, ◌≤◌, nat_lt, max, List, [], ◌∷◌, ◌++◌, Some, None}
use Rattle.std.proofs.Common.{refl, sym, ap, subst, ◌∙◌, inl, inr, ⊎_elim, arith}
use Rattle.std.proofs.lemmas.Bool.{cases_lt, cond-true, false≢true, lt-ltb}
use Rattle.sk_model.specs.declared.label.Label.{Label}
use Rattle.sk_model.specs.declared.engine.EngineName.{EngineName}
use Rattle.sk_model.specs.declared.engine.EngineName.TheVariants.{Mem, Store}
use Rattle.sk_model.specs.declared.record.Record.{Record}
use Rattle.sk_model.specs.declared.call.EngineCall.{EngineCall}
use Rattle.sk_model.specs.declared.call.EngineCall.TheVariants as call
use Rattle.sk_model.specs.declared.call.EngineFault.{EngineFault}
use Rattle.sk_model.specs.declared.call.EngineFault.TheVariants as fault
use Rattle.sk_model.specs.declared.call.EngineReply.{EngineReply}
use Rattle.sk_model.specs.declared.call.EngineReply.TheVariants as answer
use Rattle.sk_model.specs.declared.call.Entry.{Entry}
use Rattle.sk_model.specs.Records.{same_label}
use Rattle.sk_model.specs.Engine.{EngineTable}
use Rattle.sk_model.specs.EngineReplies.{answer_of}
use Rattle.sk_model.specs.EngineConditions.{may, empty_of}
use Rattle.sk_model.specs.Legal.{step, after_entries, IsReply, Legal, Allowed}
use Rattle.sk_model.specs.Talks.{OwnCall, Talk, own, same_engine, calls_in, tx_of, is_tx, is_by}
use Rattle.sk_model.specs.Asking.{fault_reply}
use Rattle.sk_model.proofs.Lists.{Each}
use Rattle.sk_model.specs.EngineChanges.{change}
use Rattle.sk_model.proofs.Labels.{same_is, same_itself}
use Rattle.sk_model.proofs.Quiet.{step_keeps}
use Rattle.sk_linked.specs.Reads.{snapshot_at, number_at, first_table}
use Rattle.sk_linked.specs.Traces.{drawn_at, Transaction, Traces, run_of, In, open_entry, close_entry, opens, NotAgain, Drew, Belongs, Linked}
use Rattle.sk_linked.specs.Recorded.{HasTalk}
use Rattle.sk_linked.specs.Causes.{Met, InTheWay, Blocks, Caused, Ring}
use Rattle.sk_linked.proofs.Members.{each_in, in_append, in_either}
use Rattle.sk_linked.proofs.Projection.{SplitBy, split_by, answered, allowed_front}
use Rattle.sk_linked.proofs.Others.{number_same}
use Rattle.sk_linked.proofs.Turns.{greatest_rises}
use Rattle.sk_linked.proofs.Recorded.{CutAt, cut_at}
use Rattle.sk_linked.proofs.Meeting.{get_met, scan_met, open_met, put_met, filter_in}

-- ---- an entry of a legal journal

pub legal_at : (e : EngineTable) (xs : List Entry) (j : Entry) (ys : List Entry) → Legal e (xs ++ j ∷ ys) → IsReply (after_entries e xs) j.call j.reply
legal_at e [] j ys h = h.0
legal_at e (x ∷ xs) j ys h = legal_at (step e x) xs j ys h.1

pub allowed_at : (e : EngineTable) (xs : List Entry) (j : Entry) (ys : List Entry) → Allowed e (xs ++ j ∷ ys) → may (after_entries e xs) j.call ≡ true
allowed_at e [] j ys h = h.0
allowed_at e (x ∷ xs) j ys h = allowed_at (step e x) xs j ys h.1

-- a refusal is the device's, or the table's
refused_by : (e : EngineTable) (c : EngineCall) (f : EngineFault) → may e c ≡ true → IsReply e c (answer.Fault f) → (f ≡ fault.Device) ⊎ (answer_of e c ≡ answer.Fault f)
refused_by e c f m (inl h) = inl (fault_is h.1)
  where
    fault_is : {f g : EngineFault} → ◌≡◌ {A = EngineReply} (answer.Fault f) (answer.Fault g) → f ≡ g
    fault_is e = cc
refused_by e c f m (inr h) = inr (sym (cond-true (may e c) (answer_of e c) (empty_of c) m) ∙ h)

done_fault : (f : EngineFault) → ◌≡◌ {A = EngineReply} answer.Done (answer.Fault f) → ⊥
done_fault f q = cc

in_engine : (e : EngineName) (j : Entry) (talk : Talk) → In (record { engine = e; entry = j }) talk → In j (calls_in e talk)
in_engine e j [] i = absurd i
in_engine e j (c ∷ cs) i = ⊎_elim
    (λ (q : record { engine = e; entry = j } ≡ c). subst (λ (d : OwnCall). In j (cond (same_engine e d.engine) (d.entry ∷ []) [] ++ calls_in e cs)) q (here e))
    (λ (k : In (record { engine = e; entry = j }) cs). in_append j (cond (same_engine e c.engine) (c.entry ∷ []) []) (calls_in e cs) (in_engine e j cs k))
    i
  where
    here : (e : EngineName) → In j (cond (same_engine e e) (j ∷ []) [] ++ calls_in e cs)
    here Mem = inl refl
    here Store = inl refl

module _ (h : Traces) (ring : Ring) (t : Transaction) (r : Record) (linked : Linked h) (among : In t h.transactions) (same : HasTalk t r) where
  mine : Belongs h t
  mine = each_in (Belongs h) h.transactions t linked.each among

  -- a call of the transaction that was refused stands in the journal, and is of its label
  pub stands : (e : EngineName) (c : EngineCall) (f : EngineFault) → In (own e c (answer.Fault f)) t.talk → In (record { call = c; reply = answer.Fault f }) (h.journals e) × (is_tx t.label (tx_of c) ≡ true)
  stands e c f i = filter_in (is_by t.label) (h.journals e) (record { call = c; reply = answer.Fault f })
      (subst (In (record { call = c; reply = answer.Fault f })) (sym (mine.entries e)) (in_engine e (record { call = c; reply = answer.Fault f }) t.talk i))

  pub met : (e : EngineName) (c : EngineCall) (f : EngineFault) → In (record { call = c; reply = answer.Fault f }) (h.journals e) → Met h e c f
  met e c f i =
      let cut : CutAt (record { call = c; reply = answer.Fault f }) (h.journals e) = cut_at (record { call = c; reply = answer.Fault f }) (h.journals e) i in
      record { before = cut.front; after = cut.back; is = cut.is }

  refused : (e : EngineName) (c : EngineCall) (f : EngineFault) (m : Met h e c f) → (f ≡ fault.Device) ⊎ (answer_of (after_entries (first_table (run_of h) e) m.before) c ≡ answer.Fault f)
  refused e c f m = refused_by (after_entries (first_table (run_of h) e) m.before) c f
      (allowed_at (first_table (run_of h) e) m.before (record { call = c; reply = answer.Fault f }) m.after (subst (Allowed (first_table (run_of h) e)) m.is (linked.allowed e)))
      (legal_at (first_table (run_of h) e) m.before (record { call = c; reply = answer.Fault f }) m.after (subst (Legal (first_table (run_of h) e)) m.is (linked.legal e)))

  -- a fault of the device has no cause here
  device : (e : EngineName) (f : EngineFault) → f ≡ fault.Device → Caused h ring r (fault_reply e f)
  device e f q = subst (λ (g : EngineFault). Caused h ring r (fault_reply e g)) (sym q) tt

  is_own : (l : Label) → same_label t.label l ≡ true → l ≡ r.label
  is_own l s = sym (same_is t.label l s) ∙ sym same.label

  -- what an engine refused has its cause there
  pub by_engine : (e : EngineName) (c : EngineCall) (f : EngineFault) → Met h e c f → is_tx t.label (tx_of c) ≡ true → Caused h ring r (fault_reply e f)
  by_engine e (call.Open l s) f m o = ⊎_elim (device e f)
      (λ (q : answer_of (after_entries (first_table (run_of h) e) m.before) (call.Open l s) ≡ answer.Fault f).
      let old = open_met (after_entries (first_table (run_of h) e) m.before) l s f q in
      go m (is_own l o) old)
      (refused e (call.Open l s) f m)
    where
      go : (m : Met h e (call.Open l s) f) → l ≡ r.label → (f ≡ fault.Old s (after_entries (first_table (run_of h) e) m.before).purged) × (s < (after_entries (first_table (run_of h) e) m.before).purged) → Caused h ring r (fault_reply e f)
      go m own old = subst (λ (g : EngineFault). Caused h ring r (fault_reply e g)) (sym old.0)
          (record { before = m.before; after = m.after; is = m.is ∙ ap (λ (j : Entry). m.before ++ j ∷ m.after) (λ i. record { call = call.Open (own i) s; reply = answer.Fault (old.0 i) }) }, refl, old.1)
  by_engine e (call.Get l n key) f m o = ⊎_elim (device e f)
      (λ (q : answer_of (after_entries (first_table (run_of h) e) m.before) (call.Get l n key) ≡ answer.Fault f).
      let busy = get_met (after_entries (first_table (run_of h) e) m.before) l n key f q in
      subst (λ (g : EngineFault). Caused h ring r (fault_reply e g)) (sym busy.1) (
        e,
        n,
        Some key,
        record { before = m.before; after = m.after; is = m.is ∙ ap (λ (j : Entry). m.before ++ j ∷ m.after) (λ i. record { call = call.Get (is_own l o i) n key; reply = answer.Fault (busy.1 i) }) },
        subst (λ (x : Label). Blocks (after_entries (first_table (run_of h) e) m.before) x n (Some key) busy.0) (is_own l o) busy.2,
      ))
      (refused e (call.Get l n key) f m)
  by_engine e (call.Scan l n) f m o = ⊎_elim (device e f)
      (λ (q : answer_of (after_entries (first_table (run_of h) e) m.before) (call.Scan l n) ≡ answer.Fault f).
      let busy = scan_met (after_entries (first_table (run_of h) e) m.before) l n f q in
      subst (λ (g : EngineFault). Caused h ring r (fault_reply e g)) (sym busy.1) (
        e,
        n,
        None,
        record { before = m.before; after = m.after; is = m.is ∙ ap (λ (j : Entry). m.before ++ j ∷ m.after) (λ i. record { call = call.Scan (is_own l o i) n; reply = answer.Fault (busy.1 i) }) },
        subst (λ (x : Label). Blocks (after_entries (first_table (run_of h) e) m.before) x n None busy.0) (is_own l o) busy.2,
      ))
      (refused e (call.Scan l n) f m)
  by_engine e (call.Put l n key row) f m o = ⊎_elim (device e f)
      (λ (q : answer_of (after_entries (first_table (run_of h) e) m.before) (call.Put l n key row) ≡ answer.Fault f).
      let way = put_met (after_entries (first_table (run_of h) e) m.before) l n key row f q in
      subst (λ (g : EngineFault). Caused h ring r (fault_reply e g)) (sym way.2) (
        e,
        n,
        key,
        row,
        record { before = m.before; after = m.after; is = m.is ∙ ap (λ (j : Entry). m.before ++ j ∷ m.after) (λ i. record { call = call.Put (is_own l o i) n key row; reply = answer.Fault (way.2 i) }) },
        subst (λ (x : Label). InTheWay (after_entries (first_table (run_of h) e) m.before) x n key way.0 way.1) (is_own l o) way.3,
      ))
      (refused e (call.Put l n key row) f m)
  by_engine e (call.Close l) f m o = ⊎_elim (device e f) (λ (q : _ ≡ answer.Fault f). absurd (number_fault q)) (refused e (call.Close l) f m)
    where
      number_fault : {n : ℕ} → ◌≡◌ {A = EngineReply} (answer.Number n) (answer.Fault f) → ⊥
      number_fault q = cc
  by_engine e (call.Stamp l n) f m o = ⊎_elim (device e f) (λ (q : _ ≡ answer.Fault f). absurd (done_fault f q)) (refused e (call.Stamp l n) f m)
  by_engine e (call.Void l n) f m o = ⊎_elim (device e f) (λ (q : _ ≡ answer.Fault f). absurd (done_fault f q)) (refused e (call.Void l n) f m)
  by_engine e (call.DropTx l) f m o = ⊎_elim (device e f) (λ (q : _ ≡ answer.Fault f). absurd (done_fault f q)) (refused e (call.DropTx l) f m)
  by_engine e call.Horizon f m o = absurd (false≢true o)
  by_engine e (call.Records from to) f m o = absurd (false≢true o)
  by_engine e (call.Purge upto) f m o = absurd (false≢true o)

-- ---- snapshots and numbers

greatest_stays : (low : ℕ) (e : EngineTable) (js : List Entry) → low ≤ e.greatest → low ≤ (after_entries e js).greatest
greatest_stays low e [] k = k
greatest_stays low e (j ∷ js) k = greatest_stays low (step e j) js (step_keeps (λ (f : EngineTable). low ≤ f.greatest) e j k (λ m r. greatest_rises low e j.call k))

-- no snapshot is past the greatest
opened_greatest : (l : Label) (s : ℕ) (e : EngineTable) (js : List Entry) → Allowed e js → In (open_entry l s) js → s ≤ (after_entries e js).greatest
opened_greatest l s e [] a i = absurd i
opened_greatest l s e (j ∷ js) a i = ⊎_elim
    (λ (q : open_entry l s ≡ j). greatest_stays s (step e j) js (subst (λ (x : Entry). s ≤ (step e x).greatest) q (opens_up (may e (call.Open l s)) (ap (λ (x : Entry). may e x.call) q ∙ a.0))))
    (λ (k : In (open_entry l s) js). opened_greatest l s (step e j) js a.1 k)
    i
  where
    at_least : (x : ℕ) → s ≤ max x s
    at_least x = omega arith

    opens_up : (b : Bool) → b ≡ true → s ≤ (cond (b && true) (change e (call.Open l s)) e).greatest
    opens_up true t = at_least e.greatest
    opens_up false t = absurd (false≢true t)

purged_rises : (low : ℕ) (e : EngineTable) (c : EngineCall) → low ≤ e.purged → low ≤ (change e c).purged
purged_rises low e (call.Open tx s) k = k
purged_rises low e (call.Get tx n key) k = k
purged_rises low e (call.Scan tx n) k = k
purged_rises low e (call.Put tx n key row) k = k
purged_rises low e (call.Close tx) k = k
purged_rises low e (call.Stamp tx n) k = k
purged_rises low e (call.Void tx n) k = k
purged_rises low e (call.DropTx tx) k = k
purged_rises low e call.Horizon k = k
purged_rises low e (call.Records from to) k = k
purged_rises low e (call.Purge upto) k = at_most_max e.purged _ k
  where
    at_most_max : (b c : ℕ) → low ≤ b → low ≤ max b c
    at_most_max b c h = omega arith

-- no snapshot is before the opening number
opened_past : (low : ℕ) (l : Label) (s : ℕ) (e : EngineTable) (js : List Entry) → low ≤ e.purged → Legal e js → Allowed e js → In (open_entry l s) js → low ≤ s
opened_past low l s e [] k legal allowed i = absurd i
opened_past low l s e (j ∷ js) k legal allowed i = ⊎_elim
    (λ (q : open_entry l s ≡ j). not_old (answered e (call.Open l s) answer.Done refl (ap (λ (x : Entry). may e x.call) q ∙ allowed.0) (subst (λ (x : Entry). IsReply e x.call x.reply) (sym q) legal.0)))
    (λ (m : In (open_entry l s) js). opened_past low l s (step e j) js (step_keeps (λ (f : EngineTable). low ≤ f.purged) e j k (λ m r. purged_rises low e j.call k)) legal.1 allowed.1 m)
    i
  where
    fault_done : {f : EngineFault} → ◌≡◌ {A = EngineReply} (answer.Fault f) answer.Done → ⊥
    fault_done q = cc

    not_old : cond (nat_lt s e.purged) (answer.Fault (fault.Old s e.purged)) answer.Done ≡ answer.Done → low ≤ s
    not_old q = ⊎_elim
        (λ (lt : s < e.purged). absurd (fault_done (sym (cond-true (nat_lt s e.purged) (answer.Fault (fault.Old s e.purged)) answer.Done (lt-ltb s e.purged lt)) ∙ q)))
        (λ (le : e.purged ≤ s). omega arith)
        (cases_lt s e.purged)

again_at : (l : Label) (floor : ℕ) (before tail : List Entry) → NotAgain l (before ++ close_entry l floor ∷ tail) → Each (λ (i : Entry). opens l i.call ≡ false) tail
again_at l floor [] tail n = n.0 (same_itself l)
again_at l floor (x ∷ before) tail n = again_at l floor before tail n.1

module _ (h : Traces) (t : Transaction) (linked : Linked h) (among : In t h.transactions) where
  -- a number is past the snapshot in its engine
  pub number_past : (e : EngineName) (s n : ℕ) → snapshot_at e t.snapshots ≡ Some s → drawn_at e t.drew ≡ Some n → s < n
  number_past e s n o d = go (b.drew e n d)
    where
      b : Belongs h t
      b = each_in (Belongs h) h.transactions t linked.each among

      go : Drew t e n → s < n
      go w =
          let front : In (open_entry t.label s) w.before = ⊎_elim
          (λ (i : In (open_entry t.label s) w.before). i)
          (λ (i : In (open_entry t.label s) (close_entry t.label w.floor ∷ w.tail)). ⊎_elim
          (λ (q : open_entry t.label s ≡ close_entry t.label w.floor). absurd (open_close q))
          (λ (k : In (open_entry t.label s) w.tail). absurd (false≢true (sym (each_in (λ (j : Entry). opens t.label j.call ≡ false) w.tail (open_entry t.label s) (again_at t.label w.floor w.before w.tail (subst (NotAgain t.label) w.is (b.again e))) k) ∙ same_itself t.label)))
          i)
          (in_either (open_entry t.label s) w.before (close_entry t.label w.floor ∷ w.tail) (subst (In (open_entry t.label s)) w.is (b.opened e s o))) in
          let cut : SplitBy (is_by t.label) (h.journals e) w.before (close_entry t.label w.floor) w.tail = split_by (is_by t.label) (h.journals e) w.before (close_entry t.label w.floor) w.tail (b.entries e ∙ w.is) in
          let allowed : Allowed (first_table (run_of h) e) (cut.before ++ close_entry t.label w.floor ∷ cut.later) = subst (Allowed (first_table (run_of h) e)) cut.is (linked.allowed e) in
          let open_in : In (open_entry t.label s) cut.before = (filter_in (is_by t.label) cut.before (open_entry t.label s) (subst (In (open_entry t.label s)) (sym cut.front) front)).0 in
          let most : s ≤ (after_entries (first_table (run_of h) e) cut.before).greatest = opened_greatest t.label s (first_table (run_of h) e) cut.before (allowed_front (first_table (run_of h) e) cut.before (close_entry t.label w.floor ∷ cut.later) allowed).0 open_in in
          let floor : (after_entries (first_table (run_of h) e) cut.before).greatest ≡ w.floor = number_same (answered (after_entries (first_table (run_of h) e) cut.before) (call.Close t.label) (answer.Number w.floor) refl
          (allowed_at (first_table (run_of h) e) cut.before (close_entry t.label w.floor) cut.later allowed)
          (legal_at (first_table (run_of h) e) cut.before (close_entry t.label w.floor) cut.later (subst (Legal (first_table (run_of h) e)) cut.is (linked.legal e)))) in
          let past : w.floor < n = w.past in
          omega arith
        where
          open_close : open_entry t.label s ≡ close_entry t.label w.floor → ⊥
          open_close q = other_call (ap (λ (j : Entry). j.call) q)
            where
              other_call : ◌≡◌ {A = EngineCall} (call.Open t.label s) (call.Close t.label) → ⊥
              other_call k = cc

  -- a snapshot is not before the opening number
  pub snapshot_past : (e : EngineName) (s : ℕ) → snapshot_at e t.snapshots ≡ Some s → number_at e h.first ≤ s
  snapshot_past e s o =
      let b : Belongs h t = each_in (Belongs h) h.transactions t linked.each among in
      let i : In (open_entry t.label s) (h.journals e) = (filter_in (is_by t.label) (h.journals e) (open_entry t.label s) (subst (In (open_entry t.label s)) (sym (b.entries e)) (b.opened e s o))).0 in
      opened_past (number_at e h.first) t.label s (first_table (run_of h) e) (h.journals e) (at_most_itself (number_at e h.first)) (linked.legal e) (linked.allowed e) i
    where
      at_most_itself : (n : ℕ) → n ≤ n
      at_most_itself n = omega arith
