-- What each session says of itself, and what all of them have in common, make linked traces.
use Rattle.std.specs.Prelude.{ℕ, ◌<◌, ◌≤◌, ◌+◌, List, [], ◌∷◌, ◌++◌, Option, Some, None, Bool, true, false, ◌&&◌, ◌==◌, ◌≡◌}
use Rattle.std.proofs.Common.{refl, sym, ap, subst, ◌∙◌, inl, inr, ⊎_elim, arith}
use Rattle.std.specs.List.{filter, flat_map}
use Rattle.std.proofs.lemmas.Bool.{cases_Bool, cond-true, cond-false, false≢true, ne_eqb, and_right}
use Rattle.sk_model.specs.declared.label.Label.{Label}
use Rattle.sk_model.specs.declared.engine.EngineName.{EngineName}
use Rattle.sk_model.specs.declared.engine.EngineName.TheVariants.{Mem}
use Rattle.sk_model.specs.declared.point.Point.{Point}
use Rattle.sk_model.specs.declared.call.EngineCall.{EngineCall}
use Rattle.sk_model.specs.declared.call.EngineCall.TheVariants as call
use Rattle.sk_model.specs.declared.call.EngineReply.{EngineReply}
use Rattle.sk_model.specs.declared.call.Entry.{Entry}
use Rattle.sk_model.specs.Records.{same_label}
use Rattle.sk_model.specs.Engine.{opening_of}
use Rattle.sk_model.specs.Legal.{Allowed}
use Rattle.sk_model.specs.Talks.{calls_in, tx_of, is_tx, is_by, entries_by}
use Rattle.sk_model.proofs.Lists.{Each, each_append, each_weaker, filter_twice}
use Rattle.sk_model.proofs.Labels.{same_is, same_itself}
use Rattle.sk_weave.specs.Woven.{At}
use Rattle.sk_linked.specs.Reads.{number_at, first_table}
use Rattle.sk_linked.proofs.Writers.{each_unfilter}
use Rattle.sk_linked.specs.Traces.{Transaction, Traces, run_of, In, IsOwn, close_entry, Belongs, Distinct, CommitOf, Known, Linked}
use Rattle.sk_linked.specs.Joining.{Unopened, CallsInTurn, CallsFit, Share, Counted, Ends, Behaves, Own, in_session, session_entries, all_transactions, Apart, Heard, Joined, AllOwn, LinkedOfOwn}
use Rattle.sk_linked.proofs.Members.{in_each, each_in, in_append, in_front, in_either, each_flat, some_clash, each_call, unlike_same}
use Rattle.sk_linked.proofs.Grounds.{UseOf, filter_pass}
use Rattle.sk_linked.proofs.Turns.{Agrees, Unused, allowed_from, once_from, floor_past}
use Rattle.sk_linked.proofs.Behaving.{not_again, drew_of}

-- ---- members of a list of lists

pub record InFlat {X Y : Type 0} (f : X → List Y) (xs : List X) (y : Y) : Type 0 where
  pub from : X
  pub among : In from xs
  pub here : In y (f from)

pub flat_in : {X Y : Type 0} (f : X → List Y) (xs : List X) (y : Y) → In y (flat_map f xs) → InFlat f xs y
flat_in f [] y i = absurd i
flat_in {X = X} {Y = Y} f (x ∷ xs) y i = ⊎_elim
    (λ (a : In y (f x)). record { from = x; among = inl refl; here = a })
    (λ (b : In y (flat_map f xs)). let k : InFlat f xs y = flat_in f xs y b in record { from = k.from; among = inr k.among; here = k.here })
    (in_either y (f x) (flat_map f xs) i)

pub in_flat : {X Y : Type 0} (f : X → List Y) (xs : List X) (x : X) (y : Y) → In x xs → In y (f x) → In y (flat_map f xs)
in_flat f [] x y i k = absurd i
in_flat {X = X} {Y = Y} f (z ∷ xs) x y i k = ⊎_elim
    (λ (a : x ≡ z). in_front y (f z) (flat_map f xs) (subst (λ (w : X). In y (f w)) a k))
    (λ (b : In x xs). in_append y (f z) (flat_map f xs) (in_flat f xs x y b k))
    i

-- ---- labels

pub counted_each : (session k : ℕ) (ts : List Transaction) → Counted session k ts → Each (λ (t : Transaction). (t.label.session ≡ session) × (k ≤ t.label.k)) ts
counted_each session k [] c = tt
counted_each session k (t ∷ ts) c = (
  (ap (λ (l : Label). l.session) c.0, subst (λ (l : Label). k ≤ l.k) (sym c.0) (omega arith)),
  each_weaker (λ (u : Transaction). (u.label.session ≡ session) × (k + 1 ≤ u.label.k)) (λ (u : Transaction). (u.label.session ≡ session) × (k ≤ u.label.k)) (λ u h. (h.0, lower u.label.k h.1)) ts (counted_each session (k + 1) ts c.1),
)
  where
    lower : (n : ℕ) → k + 1 ≤ n → k ≤ n
    lower n h = omega arith

distinct_counted : (session k : ℕ) (ts : List Transaction) → Counted session k ts → Distinct ts
distinct_counted session k [] c = tt
distinct_counted session k (t ∷ ts) c = (
  each_weaker _ (λ (u : Transaction). same_label t.label u.label ≡ false)
      (λ u h. and_right (t.label.session == u.label.session) (t.label.k == u.label.k) (ne_eqb t.label.k u.label.k (λ q. past t.label.k u.label.k (ap (λ (l : Label). l.k) c.0) h.1 q)))
      ts (counted_each session (k + 1) ts c.1),
  distinct_counted session (k + 1) ts c.1,
)
  where
    past : (n m : ℕ) → n ≡ k → k + 1 ≤ m → n ≡ m → ⊥
    past n m e h q = omega arith

distinct_append : (xs ys : List Transaction) → Distinct xs → Distinct ys → Each (λ (x : Transaction). Each (λ (y : Transaction). same_label x.label y.label ≡ false) ys) xs → Distinct (xs ++ ys)
distinct_append [] ys d e h = e
distinct_append (x ∷ xs) ys d e h = (each_append _ xs ys d.0 h.0, distinct_append xs ys d.1 e h.1)

differ : (x y : Label) (m n : ℕ) → x.session ≡ m → y.session ≡ n → (m == n) ≡ false → same_label x y ≡ false
differ x y m n e f g = ap (λ a. (a == y.session) && (x.k == y.k)) e ∙ ap (λ b. (m == b) && (x.k == y.k)) f ∙ ap (λ c. c && (x.k == y.k)) g

abbrev Labelled : Share → Type 0
Labelled s = Counted s.session 1 s.transactions

pub distinct_all : (shares : List Share) → Each Labelled shares → Apart shares → Distinct (all_transactions shares)
distinct_all [] c a = tt
distinct_all (s ∷ ss) c a = distinct_append s.transactions (all_transactions ss) (distinct_counted s.session 1 s.transactions c.0) (distinct_all ss c.1 a.1)
    (each_weaker _ (λ (x : Transaction). Each (λ (y : Transaction). same_label x.label y.label ≡ false) (all_transactions ss))
    (λ x h. each_flat (λ (y : Transaction). same_label x.label y.label ≡ false) (λ (r : Share). r.transactions) ss
    (in_each _ ss (λ r i. each_weaker _ (λ (y : Transaction). same_label x.label y.label ≡ false)
    (λ y k. differ x.label y.label s.session r.session h.0 k.0 (each_in (λ (r : Share). (s.session == r.session) ≡ false) ss r a.0 i))
    r.transactions (counted_each r.session 1 r.transactions (each_in Labelled ss r c.1 i)))))
    s.transactions (counted_each s.session 1 s.transactions c.0))

and_again : (a b : Bool) → (a && (a && b)) ≡ (a && b)
and_again true b = refl
and_again false b = refl

-- the entries of a transaction are among those of its session
pub both_session : (n : ℕ) (l : Label) (o : Option Label) → l.session ≡ n → (in_session n o && is_tx l o) ≡ is_tx l o
both_session n l None e = refl
both_session n l (Some m) e = ap (λ x. (x == m.session) && same_label l m) (sym e) ∙ and_again (l.session == m.session) (l.k == m.k)

-- ---- the opening table

unused_at_first : (h : Traces) (name : EngineName) (c : EngineCall) → Unused (first_table (run_of h) name) c
unused_at_first h name (call.Open tx s) = tt
unused_at_first h name (call.Get tx t key) = tt
unused_at_first h name (call.Scan tx t) = tt
unused_at_first h name (call.Put tx t key row) = tt
unused_at_first h name (call.Close tx) = tt
unused_at_first h name (call.Stamp tx n) = refl
unused_at_first h name (call.Void tx n) = refl
unused_at_first h name (call.DropTx tx) = tt
unused_at_first h name call.Horizon = tt
unused_at_first h name (call.Records from to) = tt
unused_at_first h name (call.Purge upto) = tt

-- ---- all sessions together

module _ (h : Traces) (shares : List Share) (own : AllOwn h shares) (j : Joined h shares) where
  abbrev OwnOf : Share → Type 0
  OwnOf s = Own h.catalog h.rows (h.first ∷ h.points) s

  abbrev Fine : Transaction → Type 0
  Fine t = Behaves h.catalog h.rows (h.first ∷ h.points) t

  own_of : (s : Share) → In s shares → OwnOf s
  own_of s i = each_in OwnOf shares s own i

  home : (t : Transaction) → In t h.transactions → InFlat (λ (s : Share). s.transactions) shares t
  home t i = flat_in (λ (s : Share). s.transactions) shares t (subst (λ (ts : List Transaction). In t ts) j.transactions i)

  back : (s : Share) → In s shares → (t : Transaction) → In t s.transactions → In t h.transactions
  back s i t k = subst (λ (ts : List Transaction). In t ts) (sym j.transactions) (in_flat (λ (s : Share). s.transactions) shares s t i k)

  fine : (t : Transaction) → In t h.transactions → Fine t
  fine t i = let w : InFlat (λ (s : Share). s.transactions) shares t = home t i in each_in Fine w.from.transactions t (own_of w.from w.among).each w.here

  whose : (name : EngineName) (s : Share) → In s shares → session_entries s.session (h.journals name) ≡ s.gained name
  whose name s i = each_in (λ (s : Share). session_entries s.session (h.journals name) ≡ s.gained name) shares s (j.whose name) i

  entries : (name : EngineName) (t : Transaction) → In t h.transactions → entries_by t.label (h.journals name) ≡ calls_in name t.talk
  entries name t i =
      let w : InFlat (λ (s : Share). s.transactions) shares t = home t i in
      let o : OwnOf w.from = own_of w.from w.among in
      let session : t.label.session ≡ w.from.session = (each_in (λ (t : Transaction). (t.label.session ≡ w.from.session) × (1 ≤ t.label.k)) w.from.transactions t (counted_each w.from.session 1 w.from.transactions o.labels) w.here).0 in
      sym (filter_twice (is_by t.label) (λ (j : Entry). in_session w.from.session (tx_of j.call)) (is_by t.label) (λ j. both_session w.from.session t.label (tx_of j.call) session) (h.journals name))
      ∙ ap (entries_by t.label) (whose name w.from w.among)
      ∙ each_in (λ (t : Transaction). entries_by t.label (w.from.gained name) ≡ calls_in name t.talk) w.from.transactions t (o.entries name) w.here

  known_more : (s : Share) → In s shares → (o : Option Label) → Known s.transactions o → Known h.transactions o
  known_more s i None k = tt
  known_more s i (Some l) k = record { who = k.who; among = back s i k.who k.among; is = k.is }

  known_in : (name : EngineName) (s : Share) → In s shares → Each (λ (e : Entry). in_session s.session (tx_of e.call) ≡ true → Known h.transactions (tx_of e.call)) (h.journals name)
  known_in name s i = each_unfilter (λ (e : Entry). Known h.transactions (tx_of e.call)) (λ (e : Entry). in_session s.session (tx_of e.call)) (h.journals name)
      (subst (λ xs. Each (λ (e : Entry). Known h.transactions (tx_of e.call)) xs) (sym (whose name s i))
      (each_weaker (λ (e : Entry). Known s.transactions (tx_of e.call)) (λ (e : Entry). Known h.transactions (tx_of e.call)) (λ (e : Entry) k. known_more s i (tx_of e.call) k) (s.gained name) ((own_of s i).known name)))

  known : (name : EngineName) → Each (λ (e : Entry). Known h.transactions (tx_of e.call)) (h.journals name)
  known name = in_each (λ (e : Entry). Known h.transactions (tx_of e.call)) (h.journals name) (λ e i. go e i (tx_of e.call) refl (each_in (λ (e : Entry). Heard shares (tx_of e.call)) (h.journals name) e (j.heard name) i))
    where
      go : (e : Entry) → In e (h.journals name) → (o : Option Label) → tx_of e.call ≡ o → Heard shares o → Known h.transactions o
      go e i None q w = tt
      go e i (Some l) q w = subst (Known h.transactions) q
          (each_in (λ (e : Entry). in_session w.who.session (tx_of e.call) ≡ true → Known h.transactions (tx_of e.call)) (h.journals name) e (known_in name w.who w.among) i (ap (in_session w.who.session) q ∙ w.is))

  -- what holds of each call of each transaction, and of each call of none, holds of each entry
  of_all : (name : EngineName) (P : Entry → Type 0) → ((e : Entry) → tx_of e.call ≡ None → P e) → ((t : Transaction) → In t h.transactions → Each P (calls_in name t.talk)) → Each P (h.journals name)
  of_all name P none each = in_each P (h.journals name) (λ e i. go e i (tx_of e.call) refl (each_in (λ (e : Entry). Known h.transactions (tx_of e.call)) (h.journals name) e (known name) i))
    where
      go : (e : Entry) → In e (h.journals name) → (o : Option Label) → tx_of e.call ≡ o → Known h.transactions o → P e
      go e i None q k = none e q
      go e i (Some l) q k =
          let by : is_by k.who.label e ≡ true = ap (is_tx k.who.label) q ∙ ap (same_label k.who.label) (sym k.is) ∙ same_itself k.who.label in
          each_in (λ (e : Entry). is_by k.who.label e ≡ true → P e) (h.journals name) e
          (each_unfilter P (is_by k.who.label) (h.journals name) (subst (λ xs. Each P xs) (sym (entries name k.who k.among)) (each k.who k.among))) i by

  mine : (name : EngineName) (t : Transaction) → In t h.transactions → Each (λ (e : Entry). is_by t.label e ≡ true) (calls_in name t.talk)
  mine name t i = subst (λ xs. Each (λ (e : Entry). is_by t.label e ≡ true) xs) (entries name t i) (filter_pass (is_by t.label) (h.journals name))

  own_calls : (name : EngineName) (t : Transaction) → In t h.transactions → Each (λ (e : Entry). IsOwn t name e.call e.reply) (calls_in name t.talk)
  own_calls name t i = each_call (λ name e. IsOwn t name e.call e.reply) name t.talk (fine t i).own

  uses : (name : EngineName) → Each (λ (e : Entry). UseOf name h.transactions e.call) (h.journals name)
  uses name = of_all name (λ (e : Entry). UseOf name h.transactions e.call) (λ e n. none e.call n)
      (λ t i. in_each (λ (e : Entry). UseOf name h.transactions e.call) (calls_in name t.talk)
      (λ e k. used t i e.call e.reply (each_in (λ (e : Entry). is_by t.label e ≡ true) (calls_in name t.talk) e (mine name t i) k) (each_in (λ (e : Entry). IsOwn t name e.call e.reply) (calls_in name t.talk) e (own_calls name t i) k)))
    where
      none : (c : EngineCall) → tx_of c ≡ None → UseOf name h.transactions c
      none (call.Open tx s) n = tt
      none (call.Get tx t key) n = tt
      none (call.Scan tx t) n = tt
      none (call.Put tx t key row) n = tt
      none (call.Close tx) n = tt
      none (call.Stamp tx m) n = some_clash n
      none (call.Void tx m) n = some_clash n
      none (call.DropTx tx) n = tt
      none call.Horizon n = tt
      none (call.Records from to) n = tt
      none (call.Purge upto) n = tt

      used : (t : Transaction) → In t h.transactions → (c : EngineCall) (reply : EngineReply) → is_tx t.label (tx_of c) ≡ true → IsOwn t name c reply → UseOf name h.transactions c
      used t i (call.Open tx s) reply b k = tt
      used t i (call.Get tx u key) reply b k = tt
      used t i (call.Scan tx u) reply b k = tt
      used t i (call.Put tx u key row) reply b k = tt
      used t i (call.Close tx) reply b k = tt
      used t i (call.Stamp tx m) reply b k = record { who = t; among = i; is = same_is t.label tx b; drew = k.0; committed = k.1 }
      used t i (call.Void tx m) reply b k = record { who = t; among = i; is = same_is t.label tx b; drew = k }
      used t i (call.DropTx tx) reply b k = tt
      used t i call.Horizon reply b k = tt
      used t i (call.Records from to) reply b k = tt
      used t i (call.Purge upto) reply b k = tt

  in_turn : (name : EngineName) → Each (λ (t : Transaction). CallsInTurn Unopened (entries_by t.label (h.journals name))) h.transactions
  in_turn name = in_each _ h.transactions (λ t i. subst (CallsInTurn Unopened) (sym (entries name t i)) ((fine t i).ordered name))

  -- no entry breaks its condition
  pub allowed : (name : EngineName) → Allowed (first_table (run_of h) name) (h.journals name)
  allowed name = allowed_from h.transactions (first_table (run_of h) name) (λ l. Unopened) (h.journals name) (record {
    legal = j.legal name;
    known = known name;
    agrees = in_each (λ (t : Transaction). Agrees Unopened (opening_of (first_table (run_of h) name) t.label)) h.transactions (λ t i. refl);
    ordered = in_turn name;
    fitting = in_each _ h.transactions (λ t i. subst (CallsFit name h.catalog h.rows) (sym (entries name t i)) ((fine t i).fitting name));
    rows = record { rows = j.opening; versions = tt };
    records = j.unowned name;
    unused = in_each _ (h.journals name) (λ e i. unused_at_first h name e.call);
    once = once_from name h.transactions (j.unlike name) (λ l. Unopened) (h.journals name) (uses name) (in_turn name);
  })

  in_filter : (p : Entry → Bool) (x : Entry) (xs : List Entry) → In x (filter p xs) → In x xs
  in_filter p x [] i = i
  in_filter p x (y ∷ ys) i = ⊎_elim
      (λ (t : p y ≡ true). ⊎_elim (λ (a : x ≡ y). inl a) (λ (b : In x (filter p ys)). inr (in_filter p x ys b)) (subst (λ zs. In x zs) (cond-true (p y) (y ∷ filter p ys) (filter p ys) t) i))
      (λ (f : p y ≡ false). inr (in_filter p x ys (subst (λ zs. In x zs) (cond-false (p y) (y ∷ filter p ys) (filter p ys) f) i)))
      (cases_Bool (p y))

  -- a number is past the floor, and no floor is before the opening number
  past : (t : Transaction) → In t h.transactions → (name : EngineName) (n : ℕ) → Ends t name n → number_at name h.first < n
  past t i name n d =
      let here : In (close_entry t.label d.floor) (entries_by t.label (h.journals name)) = subst (λ xs. In (close_entry t.label d.floor) xs) (sym (entries name t i ∙ d.is)) (in_append (close_entry t.label d.floor) d.before (close_entry t.label d.floor ∷ d.tail) (inl refl)) in
      between (number_at name h.first) d.floor n (floor_past (number_at name h.first) t.label d.floor (first_table (run_of h) name) (h.journals name) (at_most_itself (number_at name h.first)) (j.legal name) (allowed name) (in_filter (is_by t.label) (close_entry t.label d.floor) (h.journals name) here)) d.past
    where
      at_most_itself : (a : ℕ) → a ≤ a
      at_most_itself a = omega arith

      between : (a b c : ℕ) → a ≤ b → b < c → a < c
      between a b c h k = omega arith

  belongs : (t : Transaction) → In t h.transactions → Belongs h t
  belongs t i = record {
    entries = λ name. entries name t i;
    own = (fine t i).own;
    again = λ name. not_again t.label Unopened (calls_in name t.talk) ((fine t i).ordered name);
    opened = (fine t i).opened;
    pair = (fine t i).pair;
    past = λ name n e. past t i name n ((fine t i).ends name n e);
    drew = λ name n e. drew_of h.catalog h.rows (h.first ∷ h.points) t name n (fine t i) (mine name t i) e;
    silent = (fine t i).silent;
    alone = (fine t i).alone;
    crossed = λ a b c e f. ⊎_elim
        (λ (k : (h.first.commit ≡ true) × (h.first.a ≡ a) × (h.first.b ≡ b)). absurd (false≢true (sym j.stairs.0 ∙ k.0)))
        (λ (k : At a b h.points). k)
        ((fine t i).crossed a b c e f);
    paired = each_weaker (λ (q : Point). q.commit ≡ true → CommitOf h.transactions q) (λ (q : Point). q.commit ≡ true → t.drew.mem ≡ Some q.a → t.drew.store ≡ Some q.b)
        (λ q m c e. let k : CommitOf h.transactions q = m c in
        ap (λ (x : Transaction). x.drew.store) (unlike_same Mem q.a h.transactions t k.who (j.unlike Mem) i k.among e k.mem) ∙ k.store)
        h.points j.commits;
  }

  linked : Linked h
  linked = record {
    legal = j.legal;
    allowed = allowed;
    stairs = j.stairs;
    distinct = subst Distinct (sym j.transactions) (distinct_all shares (each_weaker OwnOf Labelled (λ s o. o.labels) shares own) j.apart);
    unlike = j.unlike;
    known = known;
    each = in_each (Belongs h) h.transactions belongs;
    points = j.commits;
    made = j.made;
  }

pub linked_of_own : LinkedOfOwn
linked_of_own h shares own j = linked h shares own j
