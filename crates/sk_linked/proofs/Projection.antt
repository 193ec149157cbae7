-- What the table of a journal knows of one transaction follows from that transaction's own entries.
use Rattle.std.specs.Prelude.{ℕ, List, [], ◌∷◌, ◌++◌, Option, Some, None, Bool, true, false, cond, not, ◌&&◌, ◌≡◌}
use Rattle.std.proofs.Common.{refl, sym, ap, subst, ◌∙◌, ⊎_elim}
use Rattle.std.specs.List.{filter}
use Rattle.std.proofs.lemmas.Bool.{and_parts, cases_Bool, cond-true, cond-false, false≢true, and_left, and_from}
use Rattle.sk_model.specs.declared.label.Label.{Label}
use Rattle.sk_model.specs.declared.call.EngineCall.{EngineCall}
use Rattle.sk_model.specs.declared.call.EngineCall.TheVariants as call
use Rattle.sk_model.specs.declared.call.EngineFault.TheVariants as fault
use Rattle.sk_model.specs.declared.call.EngineReply.{EngineReply}
use Rattle.sk_model.specs.declared.call.EngineReply.TheVariants.{Fault}
use Rattle.sk_model.specs.declared.call.Entry.{Entry}
use Rattle.sk_model.specs.Records.{same_label}
use Rattle.sk_model.specs.Engine.{Opening, Openings, EngineTable, opening_in, opening_of, snapshot_in, write_at}
use Rattle.sk_model.specs.EngineChanges.{change, closed_at, closed_in, opening_at}
use Rattle.sk_model.specs.EngineReplies.{answer_of}
use Rattle.sk_model.specs.EngineConditions.{may, empty_of, is_standing}
use Rattle.sk_model.specs.Legal.{may_fail, is_refusal, step, after_entries, touches, due, IsReply, Legal, Allowed}
use Rattle.sk_model.specs.Calls.{ends, put_by, puts_of}
use Rattle.sk_model.specs.Talks.{tx_of, is_tx, is_by, entries_by}
use Rattle.sk_model.proofs.Lists.{Each}
use Rattle.sk_model.proofs.Labels.{same_is, same_itself, find_put, find_without}
use Rattle.sk_model.proofs.Quiet.{step_keeps}
use Rattle.sk_linked.specs.Traces.{opens, NotAgain}

-- a list split at an element that passes a test
pub record SplitBy (p : Entry → Bool) (js xs : List Entry) (j : Entry) (ys : List Entry) : Type 0 where
  pub before : List Entry
  pub later : List Entry
  pub is : js ≡ before ++ j ∷ later
  pub front : filter p before ≡ xs
  pub back : filter p later ≡ ys

pub cons_head : {X : Type 0} {x y : X} {xs ys : List X} → x ∷ xs ≡ y ∷ ys → x ≡ y
cons_head e = cc

pub cons_tail : {X : Type 0} {x y : X} {xs ys : List X} → x ∷ xs ≡ y ∷ ys → xs ≡ ys
cons_tail e = cc

pub nil_cons : {X A : Type 0} {x : X} {xs : List X} → [] ≡ x ∷ xs → A
nil_cons e = absurd (clash e)
  where
    clash : {X : Type 0} {x : X} {xs : List X} → [] ≡ x ∷ xs → ⊥
    clash e = cc

pub nil_append : {X A : Type 0} (xs : List X) (y : X) (ys : List X) → [] ≡ xs ++ y ∷ ys → A
nil_append [] y ys e = nil_cons e
nil_append (x ∷ xs) y ys e = nil_cons e

split_skip : (p : Entry → Bool) (x : Entry) (js xs : List Entry) (j : Entry) (ys : List Entry) → p x ≡ false → SplitBy p js xs j ys → SplitBy p (x ∷ js) xs j ys
split_skip p x js xs j ys f s = record {
  before = x ∷ s.before;
  later = s.later;
  is = ap (λ zs. x ∷ zs) s.is;
  front = cond-false (p x) (x ∷ filter p s.before) (filter p s.before) f ∙ s.front;
  back = s.back;
}

split_take : (p : Entry → Bool) (x : Entry) (js xs : List Entry) (j : Entry) (ys : List Entry) → p x ≡ true → SplitBy p js xs j ys → SplitBy p (x ∷ js) (x ∷ xs) j ys
split_take p x js xs j ys t s = record {
  before = x ∷ s.before;
  later = s.later;
  is = ap (λ zs. x ∷ zs) s.is;
  front = cond-true (p x) (x ∷ filter p s.before) (filter p s.before) t ∙ ap (λ zs. x ∷ zs) s.front;
  back = s.back;
}

pub split_by : (p : Entry → Bool) (js xs : List Entry) (j : Entry) (ys : List Entry) → filter p js ≡ xs ++ j ∷ ys → SplitBy p js xs j ys
split_by p [] xs j ys e = nil_append xs j ys e
split_by p (x ∷ js) xs j ys e = ⊎_elim
    (λ (t : p x ≡ true). taken xs (λ zs k. split_by p js zs j ys k) (sym (cond-true (p x) (x ∷ filter p js) (filter p js) t) ∙ e) t)
    (λ (f : p x ≡ false). split_skip p x js xs j ys f (split_by p js xs j ys (sym (cond-false (p x) (x ∷ filter p js) (filter p js) f) ∙ e)))
    (cases_Bool (p x))
  where
    taken : (xs : List Entry) → ((zs : List Entry) → filter p js ≡ zs ++ j ∷ ys → SplitBy p js zs j ys) → x ∷ filter p js ≡ xs ++ j ∷ ys → p x ≡ true → SplitBy p (x ∷ js) xs j ys
    taken [] ih e t = record { before = []; later = js; is = ap (λ z. z ∷ js) (cons_head e); front = refl; back = cons_tail e }
    taken (z ∷ zs) ih e t = subst (λ y. SplitBy p (x ∷ js) (y ∷ zs) j ys) (cons_head e) (split_take p x js zs j ys t (ih zs (cons_tail e)))

pub none_pass_filter : {X : Type 0} (p : X → Bool) (xs : List X) → filter p xs ≡ [] → Each (λ x. p x ≡ false) xs
none_pass_filter p [] e = tt
none_pass_filter p (x ∷ xs) e = ⊎_elim
    (λ (t : p x ≡ true). nil_cons (sym e ∙ cond-true (p x) (x ∷ filter p xs) (filter p xs) t))
    (λ (f : p x ≡ false). (f, none_pass_filter p xs (sym (cond-false (p x) (x ∷ filter p xs) (filter p xs) f) ∙ e)))
    (cases_Bool (p x))

-- the opening with a floor, where there is one
abbrev pub shut : ℕ → Option Opening → Option Opening
shut g None = None
shut g (Some o) = Some (closed_at g o)

-- the opening of a transaction after a call, by the opening before
abbrev pub after_opening : Label → ℕ → EngineCall → Option Opening → Option Opening
after_opening tx g (call.Open other s) o = cond (same_label tx other) (Some (opening_at s)) o
after_opening tx g (call.Get other t k) o = o
after_opening tx g (call.Scan other t) o = o
after_opening tx g (call.Put other u key row) o = o
after_opening tx g (call.Close other) o = cond (same_label tx other) (shut g o) o
after_opening tx g (call.Stamp other n) o = cond (not (same_label other tx)) o None
after_opening tx g (call.Void other n) o = cond (not (same_label other tx)) o None
after_opening tx g (call.DropTx other) o = cond (not (same_label other tx)) o None
after_opening tx g call.Horizon o = o
after_opening tx g (call.Records from to) o = o
after_opening tx g (call.Purge upto) o = o

closed_find : (tx other : Label) (g : ℕ) (o : Option Opening) (os : Openings) → opening_in other os ≡ o → opening_in tx (closed_in other g o os) ≡ cond (same_label tx other) (shut g (opening_in tx os)) (opening_in tx os)
closed_find tx other g None os e = ⊎_elim
    (λ (t : same_label tx other ≡ true).
    let none : opening_in tx os ≡ None = ap (λ (l : Label). opening_in l os) (same_is tx other t) ∙ e in
    none ∙ sym (cond-true (same_label tx other) (shut g (opening_in tx os)) (opening_in tx os) t ∙ ap (shut g) none))
    (λ (f : same_label tx other ≡ false). sym (cond-false (same_label tx other) (shut g (opening_in tx os)) (opening_in tx os) f))
    (cases_Bool (same_label tx other))
closed_find tx other g (Some o) os e = find_put tx other (closed_at g o) os ∙ ⊎_elim
    (λ (t : same_label tx other ≡ true).
    let some : opening_in tx os ≡ Some o = ap (λ (l : Label). opening_in l os) (same_is tx other t) ∙ e in
    cond-true (same_label tx other) (Some (closed_at g o)) (opening_in tx os) t
    ∙ sym (cond-true (same_label tx other) (shut g (opening_in tx os)) (opening_in tx os) t ∙ ap (shut g) some))
    (λ (f : same_label tx other ≡ false).
    cond-false (same_label tx other) (Some (closed_at g o)) (opening_in tx os) f
    ∙ sym (cond-false (same_label tx other) (shut g (opening_in tx os)) (opening_in tx os) f))
    (cases_Bool (same_label tx other))

pub opening_change : (tx : Label) (e : EngineTable) (c : EngineCall) → opening_of (change e c) tx ≡ after_opening tx e.greatest c (opening_of e tx)
opening_change tx e (call.Open other s) = find_put tx other (opening_at s) e.openings
opening_change tx e (call.Get other t k) = refl
opening_change tx e (call.Scan other t) = refl
opening_change tx e (call.Put other u key row) = refl
opening_change tx e (call.Close other) = closed_find tx other e.greatest (opening_of e other) e.openings refl
opening_change tx e (call.Stamp other n) = find_without tx other e.openings
opening_change tx e (call.Void other n) = find_without tx other e.openings
opening_change tx e (call.DropTx other) = find_without tx other e.openings
opening_change tx e call.Horizon = refl
opening_change tx e (call.Records from to) = refl
opening_change tx e (call.Purge upto) = refl

abbrev pub HasSnapshot : Option ℕ → Option Opening → Type 0
HasSnapshot a None = Unit {0}
HasSnapshot a (Some o) = a ≡ Some o.snapshot

-- a call of the transaction that opened has this snapshot
abbrev pub OpensAt : Label → Option ℕ → EngineCall → EngineReply → Type 0
OpensAt tx a (call.Open other s) reply = same_label tx other ≡ true → is_refusal reply ≡ false → a ≡ Some s
OpensAt tx a (call.Get other t k) reply = Unit {0}
OpensAt tx a (call.Scan other t) reply = Unit {0}
OpensAt tx a (call.Put other u key row) reply = Unit {0}
OpensAt tx a (call.Close other) reply = Unit {0}
OpensAt tx a (call.Stamp other n) reply = Unit {0}
OpensAt tx a (call.Void other n) reply = Unit {0}
OpensAt tx a (call.DropTx other) reply = Unit {0}
OpensAt tx a call.Horizon reply = Unit {0}
OpensAt tx a (call.Records from to) reply = Unit {0}
OpensAt tx a (call.Purge upto) reply = Unit {0}

snapshot_new : (a : Option ℕ) (b : Bool) (s : ℕ) (o : Option Opening) → HasSnapshot a o → (b ≡ true → a ≡ Some s) → HasSnapshot a (cond b (Some (opening_at s)) o)
snapshot_new a true s o h f = f refl
snapshot_new a false s o h f = h

snapshot_shut : (a : Option ℕ) (g : ℕ) (b : Bool) (o : Option Opening) → HasSnapshot a o → HasSnapshot a (cond b (shut g o) o)
snapshot_shut a g true None h = tt
snapshot_shut a g true (Some o) h = h
snapshot_shut a g false o h = h

snapshot_cond : (a : Option ℕ) (b : Bool) (o : Option Opening) → HasSnapshot a o → HasSnapshot a (cond b o None)
snapshot_cond a true o h = h
snapshot_cond a false o h = tt

snapshot_after : (tx : Label) (a : Option ℕ) (g : ℕ) (c : EngineCall) (reply : EngineReply) (o : Option Opening) → OpensAt tx a c reply → is_refusal reply ≡ false → HasSnapshot a o → HasSnapshot a (after_opening tx g c o)
snapshot_after tx a g (call.Open other s) reply o k r h = snapshot_new a (same_label tx other) s o h (λ t. k t r)
snapshot_after tx a g (call.Get other t key) reply o k r h = h
snapshot_after tx a g (call.Scan other t) reply o k r h = h
snapshot_after tx a g (call.Put other u key row) reply o k r h = h
snapshot_after tx a g (call.Close other) reply o k r h = snapshot_shut a g (same_label tx other) o h
snapshot_after tx a g (call.Stamp other n) reply o k r h = snapshot_cond a (not (same_label other tx)) o h
snapshot_after tx a g (call.Void other n) reply o k r h = snapshot_cond a (not (same_label other tx)) o h
snapshot_after tx a g (call.DropTx other) reply o k r h = snapshot_cond a (not (same_label other tx)) o h
snapshot_after tx a g call.Horizon reply o k r h = h
snapshot_after tx a g (call.Records from to) reply o k r h = h
snapshot_after tx a g (call.Purge upto) reply o k r h = h

-- the opening of a transaction has the snapshot with which it was opened
pub snapshot_is : (tx : Label) (a : Option ℕ) (e : EngineTable) (js : List Entry) → HasSnapshot a (opening_of e tx) → Each (λ (j : Entry). OpensAt tx a j.call j.reply) js → HasSnapshot a (opening_of (after_entries e js) tx)
snapshot_is tx a e [] h k = h
snapshot_is tx a e (j ∷ js) h k = snapshot_is tx a (step e j) js
    (step_keeps (λ (f : EngineTable). HasSnapshot a (opening_of f tx)) e j h (λ m r. subst (HasSnapshot a) (sym (opening_change tx e j.call)) (snapshot_after tx a e.greatest j.call j.reply (opening_of e tx) k.0 r h))) k.1

abbrev Fallen : Option Opening → Type 0
Fallen o = is_standing o ≡ false

fallen_shut : (g : ℕ) (b : Bool) (o : Option Opening) → Fallen o → Fallen (cond b (shut g o) o)
fallen_shut g true None h = refl
fallen_shut g true (Some o) h = refl
fallen_shut g false o h = h

fallen_cond : (b : Bool) (o : Option Opening) → Fallen o → Fallen (cond b o None)
fallen_cond true o h = h
fallen_cond false o h = refl

fallen_after : (tx : Label) (g : ℕ) (c : EngineCall) (o : Option Opening) → opens tx c ≡ false → Fallen o → Fallen (after_opening tx g c o)
fallen_after tx g (call.Open other s) o k h = subst Fallen (sym (cond-false (same_label tx other) (Some (opening_at s)) o k)) h
fallen_after tx g (call.Get other t key) o k h = h
fallen_after tx g (call.Scan other t) o k h = h
fallen_after tx g (call.Put other u key row) o k h = h
fallen_after tx g (call.Close other) o k h = fallen_shut g (same_label tx other) o h
fallen_after tx g (call.Stamp other n) o k h = fallen_cond (not (same_label other tx)) o h
fallen_after tx g (call.Void other n) o k h = fallen_cond (not (same_label other tx)) o h
fallen_after tx g (call.DropTx other) o k h = fallen_cond (not (same_label other tx)) o h
fallen_after tx g call.Horizon o k h = h
fallen_after tx g (call.Records from to) o k h = h
fallen_after tx g (call.Purge upto) o k h = h

fallen_stays : (tx : Label) (e : EngineTable) (js : List Entry) → Fallen (opening_of e tx) → Each (λ (j : Entry). opens tx j.call ≡ false) js → Fallen (opening_of (after_entries e js) tx)
fallen_stays tx e [] h k = h
fallen_stays tx e (j ∷ js) h k = fallen_stays tx (step e j) js
    (step_keeps (λ (f : EngineTable). Fallen (opening_of f tx)) e j h (λ m r. subst Fallen (sym (opening_change tx e j.call)) (fallen_after tx e.greatest j.call (opening_of e tx) k.0 h))) k.1

shut_falls : (g : ℕ) (o : Option Opening) → Fallen (shut g o)
shut_falls g None = refl
shut_falls g (Some o) = refl

gone_falls : (tx other : Label) (o : Option Opening) → same_label tx other ≡ true → Fallen (cond (not (same_label other tx)) o None)
gone_falls tx other o t =
    let back : same_label other tx ≡ true = ap (λ (l : Label). same_label l tx) (sym (same_is tx other t)) ∙ same_itself tx in
    subst Fallen (sym (cond-false (not (same_label other tx)) o None (ap not back))) refl

ended_falls : (tx : Label) (g : ℕ) (c : EngineCall) (o : Option Opening) → ends tx c ≡ true → Fallen (after_opening tx g c o)
ended_falls tx g (call.Open other s) o t = absurd (false≢true t)
ended_falls tx g (call.Get other u k) o t = absurd (false≢true t)
ended_falls tx g (call.Scan other u) o t = absurd (false≢true t)
ended_falls tx g (call.Put other u key row) o t = absurd (false≢true t)
ended_falls tx g (call.Close other) o t = subst Fallen (sym (cond-true (same_label tx other) (shut g o) o t)) (shut_falls g o)
ended_falls tx g (call.Stamp other n) o t = gone_falls tx other o t
ended_falls tx g (call.Void other n) o t = gone_falls tx other o t
ended_falls tx g (call.DropTx other) o t = gone_falls tx other o t
ended_falls tx g call.Horizon o t = absurd (false≢true t)
ended_falls tx g (call.Records from to) o t = absurd (false≢true t)
ended_falls tx g (call.Purge upto) o t = absurd (false≢true t)

-- a call that touches no page has the answer of the table
pub answered : (e : EngineTable) (c : EngineCall) (reply : EngineReply) → touches c ≡ false → may e c ≡ true → IsReply e c reply → answer_of e c ≡ reply
answered e c reply n m h = ⊎_elim
    (λ (k : (may_fail e c ≡ true) × (reply ≡ Fault fault.Device)). absurd (false≢true (sym n ∙ (and_parts (may e c) (touches c) k.0).1)))
    (λ (k : due e c ≡ reply). sym (cond-true (may e c) (answer_of e c) (empty_of c) m) ∙ k)
    h

-- a call that closes or ends is not refused
pub ends_well : (tx : Label) (e : EngineTable) (c : EngineCall) (reply : EngineReply) → may e c ≡ true → IsReply e c reply → ends tx c ≡ true → is_refusal reply ≡ false
ends_well tx e (call.Open other s) reply m l t = absurd (false≢true t)
ends_well tx e (call.Get other u k) reply m l t = absurd (false≢true t)
ends_well tx e (call.Scan other u) reply m l t = absurd (false≢true t)
ends_well tx e (call.Put other u key row) reply m l t = absurd (false≢true t)
ends_well tx e (call.Close other) reply m l t = ap is_refusal (sym (answered e (call.Close other) reply refl m l))
ends_well tx e (call.Stamp other n) reply m l t = ap is_refusal (sym (answered e (call.Stamp other n) reply refl m l))
ends_well tx e (call.Void other n) reply m l t = ap is_refusal (sym (answered e (call.Void other n) reply refl m l))
ends_well tx e (call.DropTx other) reply m l t = ap is_refusal (sym (answered e (call.DropTx other) reply refl m l))
ends_well tx e call.Horizon reply m l t = absurd (false≢true t)
ends_well tx e (call.Records from to) reply m l t = absurd (false≢true t)
ends_well tx e (call.Purge upto) reply m l t = absurd (false≢true t)

-- a transaction that stands was not ended before
pub no_ends : (tx : Label) (e : EngineTable) (js : List Entry) → Legal e js → Allowed e js → NotAgain tx js → is_standing (opening_of (after_entries e js) tx) ≡ true → Each (λ (j : Entry). ends tx j.call ≡ false) js
no_ends tx e [] l a n h = tt
no_ends tx e (j ∷ js) l a n h = ⊎_elim
    (λ (t : ends tx j.call ≡ true).
    let on : (may e j.call && not (is_refusal j.reply)) ≡ true = and_from _ _ a.0 (ap not (ends_well tx e j.call j.reply a.0 l.0 t)) in
    let fallen : Fallen (opening_of (step e j) tx) = subst (λ (f : EngineTable). Fallen (opening_of f tx)) (sym (cond-true (may e j.call && not (is_refusal j.reply)) (change e j.call) e on))
    (subst Fallen (sym (opening_change tx e j.call)) (ended_falls tx e.greatest j.call (opening_of e tx) t)) in
    absurd (false≢true (sym (fallen_stays tx (step e j) js fallen (n.0 t)) ∙ h)))
    (λ (f : ends tx j.call ≡ false). (f, no_ends tx (step e j) js l.1 a.1 n.1 h))
    (cases_Bool (ends tx j.call))

-- facts on the calls of a transaction, from its own entries to the whole journal
pub each_of_own : (tx : Label) (P : Entry → Type 0) → ((j : Entry) → is_by tx j ≡ false → P j) → (js : List Entry) → Each P (entries_by tx js) → Each P js
each_of_own tx P f [] h = tt
each_of_own tx P f (j ∷ js) h = ⊎_elim
    (λ (t : is_by tx j ≡ true).
    let k : Each P (j ∷ entries_by tx js) = subst (λ xs. Each P xs) (cond-true (is_by tx j) (j ∷ entries_by tx js) (entries_by tx js) t) h in
    (k.0, each_of_own tx P f js k.1))
    (λ (n : is_by tx j ≡ false). (f j n, each_of_own tx P f js (subst (λ xs. Each P xs) (cond-false (is_by tx j) (j ∷ entries_by tx js) (entries_by tx js) n) h)))
    (cases_Bool (is_by tx j))

opens_by : (tx : Label) (c : EngineCall) → is_tx tx (tx_of c) ≡ false → opens tx c ≡ false
opens_by tx (call.Open other s) e = e
opens_by tx (call.Get other t k) e = refl
opens_by tx (call.Scan other t) e = refl
opens_by tx (call.Put other u key row) e = refl
opens_by tx (call.Close other) e = refl
opens_by tx (call.Stamp other n) e = refl
opens_by tx (call.Void other n) e = refl
opens_by tx (call.DropTx other) e = refl
opens_by tx call.Horizon e = refl
opens_by tx (call.Records from to) e = refl
opens_by tx (call.Purge upto) e = refl

pub ends_by : (tx : Label) (c : EngineCall) → is_tx tx (tx_of c) ≡ false → ends tx c ≡ false
ends_by tx (call.Open other s) e = refl
ends_by tx (call.Get other t k) e = refl
ends_by tx (call.Scan other t) e = refl
ends_by tx (call.Put other u key row) e = refl
ends_by tx (call.Close other) e = e
ends_by tx (call.Stamp other n) e = e
ends_by tx (call.Void other n) e = e
ends_by tx (call.DropTx other) e = e
ends_by tx call.Horizon e = refl
ends_by tx (call.Records from to) e = refl
ends_by tx (call.Purge upto) e = refl

pub opens_at_by : (tx : Label) (a : Option ℕ) (c : EngineCall) (reply : EngineReply) → is_tx tx (tx_of c) ≡ false → OpensAt tx a c reply
opens_at_by tx a (call.Open other s) reply e = λ t. absurd (false≢true (sym e ∙ t))
opens_at_by tx a (call.Get other t k) reply e = tt
opens_at_by tx a (call.Scan other t) reply e = tt
opens_at_by tx a (call.Put other u key row) reply e = tt
opens_at_by tx a (call.Close other) reply e = tt
opens_at_by tx a (call.Stamp other n) reply e = tt
opens_at_by tx a (call.Void other n) reply e = tt
opens_at_by tx a (call.DropTx other) reply e = tt
opens_at_by tx a call.Horizon reply e = tt
opens_at_by tx a (call.Records from to) reply e = tt
opens_at_by tx a (call.Purge upto) reply e = tt

put_other : (tx : Label) (c : EngineCall) (reply : EngineReply) → is_tx tx (tx_of c) ≡ false → put_by tx c reply ≡ []
put_other tx (call.Open other s) reply e = refl
put_other tx (call.Get other t k) reply e = refl
put_other tx (call.Scan other t) reply e = refl
put_other tx (call.Put other u key row) reply e = cond-false (same_label tx other && not (is_refusal reply)) (write_at u key row ∷ []) [] (and_left (same_label tx other) (not (is_refusal reply)) e)
put_other tx (call.Close other) reply e = refl
put_other tx (call.Stamp other n) reply e = refl
put_other tx (call.Void other n) reply e = refl
put_other tx (call.DropTx other) reply e = refl
put_other tx call.Horizon reply e = refl
put_other tx (call.Records from to) reply e = refl
put_other tx (call.Purge upto) reply e = refl

pub puts_by : (tx : Label) (js : List Entry) → puts_of tx js ≡ puts_of tx (entries_by tx js)
puts_by tx [] = refl
puts_by tx (j ∷ js) = ⊎_elim
    (λ (t : is_by tx j ≡ true). ap (λ xs. put_by tx j.call j.reply ++ xs) (puts_by tx js) ∙ ap (puts_of tx) (sym (cond-true (is_by tx j) (j ∷ entries_by tx js) (entries_by tx js) t)))
    (λ (f : is_by tx j ≡ false). ap (λ xs. xs ++ puts_of tx js) (put_other tx j.call j.reply f) ∙ puts_by tx js ∙ ap (puts_of tx) (sym (cond-false (is_by tx j) (j ∷ entries_by tx js) (entries_by tx js) f)))
    (cases_Bool (is_by tx j))

pub again_of_own : (tx : Label) (js : List Entry) → NotAgain tx (entries_by tx js) → NotAgain tx js
again_of_own tx [] h = tt
again_of_own tx (j ∷ js) h = ⊎_elim
    (λ (t : is_by tx j ≡ true).
    let k : NotAgain tx (j ∷ entries_by tx js) = subst (NotAgain tx) (cond-true (is_by tx j) (j ∷ entries_by tx js) (entries_by tx js) t) h in
    ((λ e. each_of_own tx (λ (i : Entry). opens tx i.call ≡ false) (λ i n. opens_by tx i.call n) js (k.0 e)), again_of_own tx js k.1))
    (λ (n : is_by tx j ≡ false). ((λ e. absurd (false≢true (sym (ends_by tx j.call n) ∙ e))), again_of_own tx js (subst (NotAgain tx) (cond-false (is_by tx j) (j ∷ entries_by tx js) (entries_by tx js) n) h)))
    (cases_Bool (is_by tx j))

pub again_front : (tx : Label) (xs ys : List Entry) → NotAgain tx (xs ++ ys) → NotAgain tx xs
again_front tx [] ys h = tt
again_front tx (x ∷ xs) ys h = ((λ e. front xs (h.0 e)), again_front tx xs ys h.1)
  where
    front : (xs : List Entry) → Each (λ (i : Entry). opens tx i.call ≡ false) (xs ++ ys) → Each (λ (i : Entry). opens tx i.call ≡ false) xs
    front [] k = tt
    front (x ∷ xs) k = (k.0, front xs k.1)

pub allowed_front : (e : EngineTable) (js more : List Entry) → Allowed e (js ++ more) → Allowed e js × Allowed (after_entries e js) more
allowed_front e [] more h = (tt, h)
allowed_front e (j ∷ js) more h = let k : Allowed (step e j) js × Allowed (after_entries (step e j) js) more = allowed_front (step e j) js more h.1 in ((h.0, k.0), k.1)

pub standing_snapshot : (a : Option ℕ) (o : Option Opening) → HasSnapshot a o → is_standing o ≡ true → a ≡ Some (snapshot_in o)
standing_snapshot a None h m = absurd (false≢true m)
standing_snapshot a (Some o) h m = h
