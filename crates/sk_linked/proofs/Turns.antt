-- Calls that come in their turn, fit, and use numbers of which no two are the same, break no condition.
use Rattle.std.specs.Prelude.{ℕ, ◌≤◌, List, [], ◌∷◌, Option, Some, None, Bool, true, false, cond, not, ◌&&◌, ◌≡◌, nat_lt, max, is_some}
use Rattle.std.proofs.Common.{refl, sym, ap, subst, ◌∙◌, ⊎_elim, arith}
use Rattle.std.proofs.lemmas.Bool.{cond_both, cond-true, false≢true, and_from}
use Rattle.sk_rows.specs.declared.table.Table.{Table}
use Rattle.sk_model.specs.declared.label.Label.{Label}
use Rattle.sk_model.specs.declared.engine.EngineName.{EngineName}
use Rattle.sk_model.specs.declared.call.EngineCall.{EngineCall}
use Rattle.sk_model.specs.declared.call.EngineCall.TheVariants as call
use Rattle.sk_model.specs.declared.call.EngineReply.{EngineReply}
use Rattle.sk_model.specs.declared.call.EngineReply.TheVariants.{Number}
use Rattle.sk_model.specs.declared.call.Entry.{Entry}
use Rattle.sk_model.specs.Database.{Tables}
use Rattle.sk_model.specs.Records.{same_label}
use Rattle.sk_model.specs.Engine.{Opening, EngineTable, opening_of}
use Rattle.sk_model.specs.EngineReplies.{is_used}
use Rattle.sk_model.specs.EngineChanges.{change, opening_at}
use Rattle.sk_model.specs.EngineConditions.{may, is_closed, is_standing, floor_of}
use Rattle.sk_model.specs.Legal.{is_refusal, step, IsReply, Legal, Allowed}
use Rattle.sk_model.specs.Talks.{tx_of, is_tx, is_by, entries_by}
use Rattle.sk_model.proofs.Lists.{Each, each_weaker, each_both}
use Rattle.sk_model.proofs.Labels.{same_is, same_itself}
use Rattle.sk_model.proofs.Quiet.{step_keeps}
use Rattle.sk_linked.specs.Traces.{drawn_at, Transaction, In, close_entry, DrewUnlike, Known}
use Rattle.sk_linked.specs.Joining.{Phase, Unopened, Opened, Closed, Over, is_unopened, is_opened, is_closed_before, is_begun, in_turn, closed_with, phase_after, CallsInTurn, fits, ReplyFits, CallsFit, MayRecord, MayRecords}
use Rattle.sk_linked.proofs.Projection.{none_pass_filter, shut, opening_change, answered}
use Rattle.sk_linked.proofs.Others.{NotUse, used_change, opening_others, shut_closed, number_same}
use Rattle.sk_linked.proofs.Grounds.{UseOf}
use Rattle.sk_linked.proofs.Fitted.{AllFit, step_fits, reply_fits}
use Rattle.sk_linked.proofs.Members.{in_each, each_in, some_clash, unlike_same}

-- ---- the opening of a transaction is as its calls say

abbrev pub Agrees : Phase → Option Opening → Type 0
Agrees Unopened o = o ≡ None
Agrees Opened o = is_standing o ≡ true
Agrees (Closed f) o = (is_closed o ≡ true) × (floor_of o ≡ f)
Agrees Over o = Unit {0}

unopened_none : (p : Phase) (o : Option Opening) → is_unopened p ≡ true → Agrees p o → is_some o ≡ false
unopened_none Unopened o t a = ap (λ (x : Option Opening). is_some x) a
unopened_none Opened o t a = absurd (false≢true t)
unopened_none (Closed f) o t a = absurd (false≢true t)
unopened_none Over o t a = absurd (false≢true t)

opened_stands : (p : Phase) (o : Option Opening) → is_opened p ≡ true → Agrees p o → is_standing o ≡ true
opened_stands Unopened o t a = absurd (false≢true t)
opened_stands Opened o t a = a
opened_stands (Closed f) o t a = absurd (false≢true t)
opened_stands Over o t a = absurd (false≢true t)

closed_before : (n : ℕ) (p : Phase) (o : Option Opening) → is_closed_before n p ≡ true → Agrees p o → (is_closed o ≡ true) × (nat_lt (floor_of o) n ≡ true)
closed_before n Unopened o t a = absurd (false≢true t)
closed_before n Opened o t a = absurd (false≢true t)
closed_before n (Closed f) o t a = (a.0, ap (λ x. nat_lt x n) a.1 ∙ t)
closed_before n Over o t a = absurd (false≢true t)

begun_is : (p : Phase) (o : Option Opening) → is_begun p ≡ true → Agrees p o → is_some o ≡ true
begun_is p None t a = absurd (none p t a)
  where
    none : (p : Phase) → is_begun p ≡ true → Agrees p None → ⊥
    none Unopened t a = false≢true t
    none Opened t a = false≢true a
    none (Closed f) t a = false≢true a.0
    none Over t a = false≢true t
begun_is p (Some o) t a = refl

-- the call uses no number that was used
abbrev pub Unused : EngineTable → EngineCall → Type 0
Unused e (call.Open tx s) = Unit {0}
Unused e (call.Get tx t key) = Unit {0}
Unused e (call.Scan tx t) = Unit {0}
Unused e (call.Put tx t key row) = Unit {0}
Unused e (call.Close tx) = Unit {0}
Unused e (call.Stamp tx n) = is_used e n ≡ false
Unused e (call.Void tx n) = is_used e n ≡ false
Unused e (call.DropTx tx) = Unit {0}
Unused e call.Horizon = Unit {0}
Unused e (call.Records from to) = Unit {0}
Unused e (call.Purge upto) = Unit {0}

-- the second call uses no number that the first one used
abbrev pub Differs : EngineCall → EngineCall → Type 0
Differs d (call.Open tx s) = Unit {0}
Differs d (call.Get tx t key) = Unit {0}
Differs d (call.Scan tx t) = Unit {0}
Differs d (call.Put tx t key row) = Unit {0}
Differs d (call.Close tx) = Unit {0}
Differs d (call.Stamp tx n) = NotUse n d
Differs d (call.Void tx n) = NotUse n d
Differs d (call.DropTx tx) = Unit {0}
Differs d call.Horizon = Unit {0}
Differs d (call.Records from to) = Unit {0}
Differs d (call.Purge upto) = Unit {0}

-- no number is used twice
abbrev pub Once : List Entry → Type 0
Once [] = Unit {0}
Once (j ∷ js) = Each (λ (i : Entry). Differs j.call i.call) js × Once js

unused_step : (e : EngineTable) (j : Entry) (c : EngineCall) → Unused e c → Differs j.call c → Unused (step e j) c
unused_step e j (call.Open tx s) u d = tt
unused_step e j (call.Get tx t key) u d = tt
unused_step e j (call.Scan tx t) u d = tt
unused_step e j (call.Put tx t key row) u d = tt
unused_step e j (call.Close tx) u d = tt
unused_step e j (call.Stamp tx n) u d = step_keeps (λ (f : EngineTable). is_used f n ≡ false) e j u (λ m r. used_change n e j.call d ∙ u)
unused_step e j (call.Void tx n) u d = step_keeps (λ (f : EngineTable). is_used f n ≡ false) e j u (λ m r. used_change n e j.call d ∙ u)
unused_step e j (call.DropTx tx) u d = tt
unused_step e j call.Horizon u d = tt
unused_step e j (call.Records from to) u d = tt
unused_step e j (call.Purge upto) u d = tt

-- ---- one call

-- a call in its turn that fits, with a number that was not used, keeps its condition
turn_may : (l : Label) (e : EngineTable) (p : Phase) (c : EngineCall) → is_tx l (tx_of c) ≡ true → in_turn p c ≡ true → Agrees p (opening_of e l) → fits e.name e.catalog e.rows c ≡ true → Unused e c → may e c ≡ true
turn_may l e p (call.Open tx s) by t a f u = ap not (unopened_none p (opening_of e tx) t (subst (λ (x : Label). Agrees p (opening_of e x)) (same_is l tx by) a))
turn_may l e p (call.Get tx n key) by t a f u = and_from _ _ (opened_stands p (opening_of e tx) t (subst (λ (x : Label). Agrees p (opening_of e x)) (same_is l tx by) a)) f
turn_may l e p (call.Scan tx n) by t a f u = and_from _ _ (opened_stands p (opening_of e tx) t (subst (λ (x : Label). Agrees p (opening_of e x)) (same_is l tx by) a)) f
turn_may l e p (call.Put tx n key row) by t a f u = and_from _ _ (opened_stands p (opening_of e tx) t (subst (λ (x : Label). Agrees p (opening_of e x)) (same_is l tx by) a)) f
turn_may l e p (call.Close tx) by t a f u = opened_stands p (opening_of e tx) t (subst (λ (x : Label). Agrees p (opening_of e x)) (same_is l tx by) a)
turn_may l e p (call.Stamp tx n) by t a f u =
    let k : (is_closed (opening_of e tx) ≡ true) × (nat_lt (floor_of (opening_of e tx)) n ≡ true) = closed_before n p (opening_of e tx) t (subst (λ (x : Label). Agrees p (opening_of e x)) (same_is l tx by) a) in
    and_from _ _ k.0 (and_from _ _ k.1 (ap not u))
turn_may l e p (call.Void tx n) by t a f u =
    let k : (is_closed (opening_of e tx) ≡ true) × (nat_lt (floor_of (opening_of e tx)) n ≡ true) = closed_before n p (opening_of e tx) t (subst (λ (x : Label). Agrees p (opening_of e x)) (same_is l tx by) a) in
    and_from _ _ k.0 (and_from _ _ k.1 (ap not u))
turn_may l e p (call.DropTx tx) by t a f u = begun_is p (opening_of e tx) t (subst (λ (x : Label). Agrees p (opening_of e x)) (same_is l tx by) a)
turn_may l e p call.Horizon by t a f u = absurd (false≢true by)
turn_may l e p (call.Records from to) by t a f u = absurd (false≢true by)
turn_may l e p (call.Purge upto) by t a f u = absurd (false≢true by)

-- so does a call of no transaction
unowned_may : (e : EngineTable) (c : EngineCall) → tx_of c ≡ None → MayRecord e c → may e c ≡ true
unowned_may e (call.Open tx s) n h = some_clash n
unowned_may e (call.Get tx t key) n h = some_clash n
unowned_may e (call.Scan tx t) n h = some_clash n
unowned_may e (call.Put tx t key row) n h = some_clash n
unowned_may e (call.Close tx) n h = some_clash n
unowned_may e (call.Stamp tx m) n h = some_clash n
unowned_may e (call.Void tx m) n h = some_clash n
unowned_may e (call.DropTx tx) n h = some_clash n
unowned_may e call.Horizon n h = refl
unowned_may e (call.Records from to) n h = h
unowned_may e (call.Purge upto) n h = refl

-- a call of the transaction moves its opening as it moves how far it is
turn_step : (l : Label) (e : EngineTable) (p : Phase) (c : EngineCall) (reply : EngineReply) → is_tx l (tx_of c) ≡ true → may e c ≡ true → IsReply e c reply → in_turn p c ≡ true
    → Agrees p (opening_of e l) → Agrees (phase_after c reply p) (opening_of (step e (record { call = c; reply = reply })) l)
turn_step l e p (call.Open tx s) reply by m i t a = cond_both (is_refusal reply) Over Opened (λ (q : Phase). Agrees q (opening_of (step e (record { call = call.Open tx s; reply = reply })) l))
    (λ r. tt)
    (λ r. subst (λ (f : EngineTable). is_standing (opening_of f l) ≡ true) (sym (cond-true (may e (call.Open tx s) && not (is_refusal reply)) (change e (call.Open tx s)) e (and_from _ _ m (ap not r))))
    (ap is_standing (opening_change l e (call.Open tx s) ∙ cond-true (same_label l tx) (Some (opening_at s)) (opening_of e l) by)))
turn_step l e p (call.Get tx n key) reply by m i t a = step_keeps (λ (f : EngineTable). Agrees p (opening_of f l)) e (record { call = call.Get tx n key; reply = reply }) a (λ x y. a)
turn_step l e p (call.Scan tx n) reply by m i t a = step_keeps (λ (f : EngineTable). Agrees p (opening_of f l)) e (record { call = call.Scan tx n; reply = reply }) a (λ x y. a)
turn_step l e p (call.Put tx n key row) reply by m i t a = step_keeps (λ (f : EngineTable). Agrees p (opening_of f l)) e (record { call = call.Put tx n key row; reply = reply }) a (λ x y. a)
turn_step l e p (call.Close tx) reply by m i t a =
    subst (λ (r : EngineReply). Agrees (closed_with r) (opening_of (step e (record { call = call.Close tx; reply = r })) l)) (answered e (call.Close tx) reply refl m i)
    (subst (λ (f : EngineTable). Agrees (Closed e.greatest) (opening_of f l)) (sym (cond-true (may e (call.Close tx) && true) (change e (call.Close tx)) e (and_from _ _ m refl)))
    (subst (λ (o : Option Opening). Agrees (Closed e.greatest) o) (sym (opening_change l e (call.Close tx) ∙ cond-true (same_label l tx) (shut e.greatest (opening_of e l)) (opening_of e l) by))
    (shut_closed e.greatest (opening_of e l) (opened_stands p (opening_of e l) t a))))
turn_step l e p (call.Stamp tx n) reply by m i t a = tt
turn_step l e p (call.Void tx n) reply by m i t a = tt
turn_step l e p (call.DropTx tx) reply by m i t a = tt
turn_step l e p call.Horizon reply by m i t a = absurd (false≢true t)
turn_step l e p (call.Records from to) reply by m i t a = absurd (false≢true t)
turn_step l e p (call.Purge upto) reply by m i t a = absurd (false≢true t)

-- how far it is after an entry, which may be another's
abbrev pub passed : Label → Entry → Phase → Phase
passed l j p = cond (is_by l j) (phase_after j.call j.reply p) p

agrees_step : (l : Label) (e : EngineTable) (j : Entry) (p : Phase) → may e j.call ≡ true → IsReply e j.call j.reply → (is_by l j ≡ true → in_turn p j.call ≡ true) → Agrees p (opening_of e l) → Agrees (passed l j p) (opening_of (step e j) l)
agrees_step l e j p m i t a = cond_both (is_by l j) (phase_after j.call j.reply p) p (λ (q : Phase). Agrees q (opening_of (step e j) l))
    (λ y. turn_step l e p j.call j.reply y m i (t y) a)
    (λ n. subst (Agrees p) (sym (opening_others l e (j ∷ []) (n, tt))) a)

turn_now : (b : Bool) (p : Phase) (j : Entry) (js : List Entry) → CallsInTurn p (cond b (j ∷ js) js) → b ≡ true → in_turn p j.call ≡ true
turn_now true p j js w e = w.0
turn_now false p j js w e = absurd (false≢true e)

turn_later : (b : Bool) (p : Phase) (j : Entry) (js : List Entry) → CallsInTurn p (cond b (j ∷ js) js) → CallsInTurn (cond b (phase_after j.call j.reply p) p) js
turn_later true p j js w = w.1
turn_later false p j js w = w

fits_now : (b : Bool) (name : EngineName) (catalog : List Table) (rows : Tables) (j : Entry) (js : List Entry) → CallsFit name catalog rows (cond b (j ∷ js) js) → b ≡ true → fits name catalog rows j.call ≡ true
fits_now true name catalog rows j js h e = h.0
fits_now false name catalog rows j js h e = absurd (false≢true e)

fits_later : (b : Bool) (name : EngineName) (catalog : List Table) (rows : Tables) (j : Entry) (js : List Entry) → CallsFit name catalog rows (cond b (j ∷ js) js) → ReplyFits catalog j.call j.reply → CallsFit name catalog rows js
fits_later true name catalog rows j js h r = h.1 r
fits_later false name catalog rows j js h r = h

-- no call changes what fits
fits_change : (e : EngineTable) (c : EngineCall) (js : List Entry) → CallsFit e.name e.catalog e.rows js → CallsFit (change e c).name (change e c).catalog (change e c).rows js
fits_change e (call.Open tx s) js h = h
fits_change e (call.Get tx t key) js h = h
fits_change e (call.Scan tx t) js h = h
fits_change e (call.Put tx t key row) js h = h
fits_change e (call.Close tx) js h = h
fits_change e (call.Stamp tx n) js h = h
fits_change e (call.Void tx n) js h = h
fits_change e (call.DropTx tx) js h = h
fits_change e call.Horizon js h = h
fits_change e (call.Records from to) js h = h
fits_change e (call.Purge upto) js h = h

-- ---- a whole journal

-- what is known of the calls still to come, where each label is this far
pub record Ready (ts : List Transaction) (e : EngineTable) (far : Label → Phase) (js : List Entry) : Type 0 where
  pub legal : Legal e js
  pub known : Each (λ (j : Entry). Known ts (tx_of j.call)) js
  pub agrees : Each (λ (t : Transaction). Agrees (far t.label) (opening_of e t.label)) ts
  pub ordered : Each (λ (t : Transaction). CallsInTurn (far t.label) (entries_by t.label js)) ts
  pub fitting : Each (λ (t : Transaction). CallsFit e.name e.catalog e.rows (entries_by t.label js)) ts
  pub rows : AllFit e
  pub records : MayRecords e js
  pub unused : Each (λ (j : Entry). Unused e j.call) js
  pub once : Once js

pub allowed_from : (ts : List Transaction) (e : EngineTable) (far : Label → Phase) (js : List Entry) → Ready ts e far js → Allowed e js
allowed_from ts e far [] r = tt
allowed_from ts e far (j ∷ js) r =
    let m : may e j.call ≡ true = now (tx_of j.call) refl r.known.0 in (
      m,
      allowed_from ts (step e j) (λ l. passed l j (far l)) js (record {
        legal = r.legal.1;
        known = r.known.1;
        agrees = in_each _ ts (λ t i. agrees_step t.label e j (far t.label) m r.legal.0 (turn t i) (agree t i));
        ordered = in_each _ ts (λ t i. turn_later (is_by t.label j) (far t.label) j (entries_by t.label js) (order t i));
        fitting = in_each _ ts (λ t i. fits_on t i (reply_fits e j.call j.reply m r.legal.0 r.rows));
        rows = step_fits e j r.rows;
        records = r.records.1;
        unused = each_weaker _ (λ (i : Entry). Unused (step e j) i.call) (λ i k. unused_step e j i.call k.0 k.1) js (each_both (λ (i : Entry). Unused e i.call) (λ (i : Entry). Differs j.call i.call) js r.unused.1 r.once.0);
        once = r.once.1;
      }),
    )
  where
    agree : (t : Transaction) → In t ts → Agrees (far t.label) (opening_of e t.label)
    agree t i = each_in (λ (t : Transaction). Agrees (far t.label) (opening_of e t.label)) ts t r.agrees i

    order : (t : Transaction) → In t ts → CallsInTurn (far t.label) (entries_by t.label (j ∷ js))
    order t i = each_in (λ (t : Transaction). CallsInTurn (far t.label) (entries_by t.label (j ∷ js))) ts t r.ordered i

    turn : (t : Transaction) → In t ts → is_by t.label j ≡ true → in_turn (far t.label) j.call ≡ true
    turn t i y = turn_now (is_by t.label j) (far t.label) j (entries_by t.label js) (order t i) y

    fit : (t : Transaction) → In t ts → CallsFit e.name e.catalog e.rows (entries_by t.label (j ∷ js))
    fit t i = each_in (λ (t : Transaction). CallsFit e.name e.catalog e.rows (entries_by t.label (j ∷ js))) ts t r.fitting i

    fits_on : (t : Transaction) → In t ts → ReplyFits e.catalog j.call j.reply → CallsFit (step e j).name (step e j).catalog (step e j).rows (entries_by t.label js)
    fits_on t i q =
        let k : CallsFit e.name e.catalog e.rows (entries_by t.label js) = fits_later (is_by t.label j) e.name e.catalog e.rows j (entries_by t.label js) (fit t i) q in
        step_keeps (λ (f : EngineTable). CallsFit f.name f.catalog f.rows (entries_by t.label js)) e j k (λ x y. fits_change e j.call (entries_by t.label js) k)

    now : (o : Option Label) → tx_of j.call ≡ o → Known ts o → may e j.call ≡ true
    now None q k = unowned_may e j.call q r.records.0
    now (Some l) q k =
        let by : is_by k.who.label j ≡ true = ap (is_tx k.who.label) q ∙ ap (same_label k.who.label) (sym k.is) ∙ same_itself k.who.label in
        turn_may k.who.label e (far k.who.label) j.call by (turn k.who k.among by) (agree k.who k.among) (fits_now (is_by k.who.label j) e.name e.catalog e.rows j (entries_by k.who.label js) (fit k.who k.among) by) r.unused.0

-- ---- no number is used twice

never : (c : EngineCall) → in_turn Over c ≡ false
never (call.Open tx s) = refl
never (call.Get tx t key) = refl
never (call.Scan tx t) = refl
never (call.Put tx t key row) = refl
never (call.Close tx) = refl
never (call.Stamp tx n) = refl
never (call.Void tx n) = refl
never (call.DropTx tx) = refl
never call.Horizon = refl
never (call.Records from to) = refl
never (call.Purge upto) = refl

pub over_nothing : (js : List Entry) → CallsInTurn Over js → js ≡ []
over_nothing [] h = refl
over_nothing (j ∷ js) h = absurd (false≢true (sym (never j.call) ∙ h.0))

module _ (s : EngineName) (ts : List Transaction) (unlike : DrewUnlike s ts) where
  -- a later use of the same number would be of the same transaction, which is over
  apart : (far : Label → Phase) (j : Entry) (js : List Entry) (t : Transaction) (n : ℕ) → In t ts → drawn_at s t.drew ≡ Some n → ((y : is_by t.label j ≡ true) → CallsInTurn (phase_after j.call j.reply (far t.label)) (entries_by t.label js))
      → (i : Entry) → In i js → is_by t.label i ≡ true → (c : EngineCall) → j.call ≡ c → UseOf s ts c → NotUse n c
  apart far j js t n a d w i k by (call.Open tx x) e u = tt
  apart far j js t n a d w i k by (call.Get tx x key) e u = tt
  apart far j js t n a d w i k by (call.Scan tx x) e u = tt
  apart far j js t n a d w i k by (call.Put tx x key row) e u = tt
  apart far j js t n a d w i k by (call.Close tx) e u = tt
  apart far j js t n a d w i k by (call.Stamp tx m) e u = λ q.
      let same : t ≡ u.who = unlike_same s n ts t u.who unlike a u.among d (u.drew ∙ ap Some (sym q)) in
      let mine : is_by t.label j ≡ true = ap (λ (c : EngineCall). is_tx t.label (tx_of c)) e ∙ ap (same_label t.label) (sym u.is ∙ ap (λ (x : Transaction). x.label) (sym same)) ∙ same_itself t.label in
      let none : entries_by t.label js ≡ [] = over_nothing (entries_by t.label js) (subst (λ (c : EngineCall). CallsInTurn (phase_after c j.reply (far t.label)) (entries_by t.label js)) e (w mine)) in
      false≢true (sym (each_in (λ (x : Entry). is_by t.label x ≡ false) js i (none_pass_filter (is_by t.label) js none) k) ∙ by)
  apart far j js t n a d w i k by (call.Void tx m) e u = λ q.
      let same : t ≡ u.who = unlike_same s n ts t u.who unlike a u.among d (u.drew ∙ ap Some (sym q)) in
      let mine : is_by t.label j ≡ true = ap (λ (c : EngineCall). is_tx t.label (tx_of c)) e ∙ ap (same_label t.label) (sym u.is ∙ ap (λ (x : Transaction). x.label) (sym same)) ∙ same_itself t.label in
      let none : entries_by t.label js ≡ [] = over_nothing (entries_by t.label js) (subst (λ (c : EngineCall). CallsInTurn (phase_after c j.reply (far t.label)) (entries_by t.label js)) e (w mine)) in
      false≢true (sym (each_in (λ (x : Entry). is_by t.label x ≡ false) js i (none_pass_filter (is_by t.label) js none) k) ∙ by)
  apart far j js t n a d w i k by (call.DropTx tx) e u = tt
  apart far j js t n a d w i k by call.Horizon e u = tt
  apart far j js t n a d w i k by (call.Records from to) e u = tt
  apart far j js t n a d w i k by (call.Purge upto) e u = tt

  pub once_from : (far : Label → Phase) (js : List Entry) → Each (λ (j : Entry). UseOf s ts j.call) js → Each (λ (t : Transaction). CallsInTurn (far t.label) (entries_by t.label js)) ts → Once js
  once_from far [] u w = tt
  once_from far (j ∷ js) u w = (
    in_each (λ (i : Entry). Differs j.call i.call) js (λ i k. go i k i.call refl (each_in (λ (x : Entry). UseOf s ts x.call) js i u.1 k)),
    once_from (λ l. passed l j (far l)) js u.1 (in_each _ ts (λ t a. turn_later (is_by t.label j) (far t.label) j (entries_by t.label js) (order t a))),
  )
    where
      order : (t : Transaction) → In t ts → CallsInTurn (far t.label) (entries_by t.label (j ∷ js))
      order t a = each_in (λ (t : Transaction). CallsInTurn (far t.label) (entries_by t.label (j ∷ js))) ts t w a

      behind : (t : Transaction) → In t ts → is_by t.label j ≡ true → CallsInTurn (phase_after j.call j.reply (far t.label)) (entries_by t.label js)
      behind t a y = subst (λ (p : Phase). CallsInTurn p (entries_by t.label js)) (cond-true (is_by t.label j) (phase_after j.call j.reply (far t.label)) (far t.label) y) (turn_later (is_by t.label j) (far t.label) j (entries_by t.label js) (order t a))

      mine : (i : Entry) (c : EngineCall) (tx : Label) (t : Transaction) → i.call ≡ c → tx_of c ≡ Some tx → t.label ≡ tx → is_by t.label i ≡ true
      mine i c tx t e f q = ap (λ (c : EngineCall). is_tx t.label (tx_of c)) e ∙ ap (is_tx t.label) f ∙ ap (same_label t.label) (sym q) ∙ same_itself t.label

      go : (i : Entry) → In i js → (c : EngineCall) → i.call ≡ c → UseOf s ts c → Differs j.call c
      go i k (call.Open tx x) e v = tt
      go i k (call.Get tx x key) e v = tt
      go i k (call.Scan tx x) e v = tt
      go i k (call.Put tx x key row) e v = tt
      go i k (call.Close tx) e v = tt
      go i k (call.Stamp tx n) e v = apart far j js v.who n v.among v.drew (behind v.who v.among) i k (mine i (call.Stamp tx n) tx v.who e refl v.is) j.call refl u.0
      go i k (call.Void tx n) e v = apart far j js v.who n v.among v.drew (behind v.who v.among) i k (mine i (call.Void tx n) tx v.who e refl v.is) j.call refl u.0
      go i k (call.DropTx tx) e v = tt
      go i k call.Horizon e v = tt
      go i k (call.Records from to) e v = tt
      go i k (call.Purge upto) e v = tt

-- ---- a floor is not before the opening number

pub greatest_rises : (low : ℕ) (e : EngineTable) (c : EngineCall) → low ≤ e.greatest → low ≤ (change e c).greatest
greatest_rises low e (call.Open tx s) h = at_most_max low e.greatest s h
  where
    at_most_max : (a b c : ℕ) → a ≤ b → a ≤ max b c
    at_most_max a b c h = omega arith
greatest_rises low e (call.Get tx t key) h = h
greatest_rises low e (call.Scan tx t) h = h
greatest_rises low e (call.Put tx t key row) h = h
greatest_rises low e (call.Close tx) h = h
greatest_rises low e (call.Stamp tx n) h = h
greatest_rises low e (call.Void tx n) h = h
greatest_rises low e (call.DropTx tx) h = h
greatest_rises low e call.Horizon h = h
greatest_rises low e (call.Records from to) h = h
greatest_rises low e (call.Purge upto) h = h

pub floor_past : (low : ℕ) (l : Label) (floor : ℕ) (e : EngineTable) (js : List Entry) → low ≤ e.greatest → Legal e js → Allowed e js → In (close_entry l floor) js → low ≤ floor
floor_past low l floor e [] h legal allowed i = absurd i
floor_past low l floor e (j ∷ js) h legal allowed i = ⊎_elim
    (λ (q : close_entry l floor ≡ j). subst (λ n. low ≤ n)
    (number_same (answered e (call.Close l) (Number floor) refl (ap (λ (x : Entry). may e x.call) q ∙ allowed.0) (subst (λ (x : Entry). IsReply e x.call x.reply) (sym q) legal.0))) h)
    (λ (k : In (close_entry l floor) js). floor_past low l floor (step e j) js (step_keeps (λ (f : EngineTable). low ≤ f.greatest) e j h (λ m r. greatest_rises low e j.call h)) legal.1 allowed.1 k)
    i
