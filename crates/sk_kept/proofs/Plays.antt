-- What holds at every moment makes what a run of sessions keeps, where each session is between two lines.
use Rattle.std.specs.Prelude.{◌≡◌, ◌⊎◌, ℕ, List, [], ◌∷◌, Some, None, false, map}
use Rattle.std.proofs.Common.{refl, sym, ap, subst, ◌∙◌, inl, inr, ⊎_elim}
use Rattle.std.proofs.lemmas.Bool.{false≢true}
use Rattle.sk_model.specs.declared.engine.EngineName.{EngineName}
use Rattle.sk_model.specs.declared.engine.EngineName.TheVariants.{Mem, Store}
use Rattle.sk_model.specs.declared.point.Point.{Point}
use Rattle.sk_model.specs.declared.call.Entry.{Entry}
use Rattle.sk_model.specs.Legal.{Legal}
use Rattle.sk_model.specs.Records.{same_label}
use Rattle.sk_model.specs.Talks.{tx_of, entries_by}
use Rattle.sk_model.proofs.Labels.{same_itself}
use Rattle.sk_model.proofs.Lists.{Each, each_weaker}
use Rattle.sk_weave.specs.Points.{Staircase}
use Rattle.sk_linked.specs.Reads.{PairIf}
use Rattle.sk_linked.specs.Traces.{drawn_at, Transaction, In, Distinct, DrewUnlike, Whose, Known, MakerOf, IsAtHorizons, PointsMade}
use Rattle.sk_linked.specs.Joining.{Share, Counted, MayRecords, all_transactions}
use Rattle.sk_linked.specs.Causes.{Drawer as AnyDrawer}
use Rattle.sk_linked.specs.Kept.{Account, Session, Play, transaction_in, share_in, shares_in, traces_in, IsAccount, IsPlay}
use Rattle.sk_linked.proofs.Members.{each_in, in_each, distinct_same}
use Rattle.sk_linked.proofs.Joining.{InFlat, flat_in, in_flat, distinct_all}
use Rattle.sk_session.specs.Common.{Common}
use Rattle.sk_session.specs.Facts.{facts_of}
use Rattle.sk_kept.specs.Held.{Trace, drawn_of, IsHeld, Alone, Made, Drew, Drawer, Maker, Caller, Called, Sourced}
use Rattle.sk_kept.specs.Playing.{trace_of, traces_of_session, traces_of_play, IsAccounted, Plays, PlaysArePlayed}
use Rattle.sk_kept.proofs.Journals.{horizons_stay}

-- ---- members of the lists of a run

record Mapped {X Y : Type 0} (f : X → Y) (xs : List X) (y : Y) : Type 0 where
  from : X
  among : In from xs
  is : y ≡ f from

map_in : {X Y : Type 0} (f : X → Y) (xs : List X) (y : Y) → In y (map f xs) → Mapped f xs y
map_in f [] y i = absurd i
map_in {X = X} {Y = Y} f (x ∷ xs) y i = ⊎_elim
    (λ (e : y ≡ f x). record { from = x; among = inl refl; is = e })
    (λ (k : In y (map f xs)). let m : Mapped f xs y = map_in f xs y k in record { from = m.from; among = inr m.among; is = m.is })
    i

pub in_map : {X Y : Type 0} (f : X → Y) (xs : List X) (x : X) → In x xs → In (f x) (map f xs)
in_map f [] x i = absurd i
in_map {X = X} {Y = Y} f (y ∷ ys) x i = ⊎_elim (λ (e : x ≡ y). inl (ap f e)) (λ (k : In x ys). inr (in_map f ys x k)) i

each_map : {X Y : Type 0} (P : Y → Type 0) (f : X → Y) (xs : List X) → Each (λ x. P (f x)) xs → Each P (map f xs)
each_map P f [] h = tt
each_map P f (x ∷ xs) h = (h.0, each_map P f xs h.1)

module _ (p : Play) (c : Common) (h : Plays p c) where
  -- a trace is of an account of a session, and so is a transaction
  record Held_by (t : Trace) : Type 0 where
    session : Session
    among : In session p.sessions
    account : Account
    here : In account session.accounts
    is : t ≡ trace_of account

  held_by : (t : Trace) → In t (traces_of_play p) → Held_by t
  held_by t i =
      let f : InFlat traces_of_session p.sessions t = flat_in traces_of_session p.sessions t i in
      let a : Mapped trace_of f.from.accounts t = map_in trace_of f.from.accounts t f.here in
      record { session = f.from; among = f.among; account = a.from; here = a.among; is = a.is }

  record Of_account (t : Transaction) : Type 0 where
    session : Session
    among : In session p.sessions
    account : Account
    here : In account session.accounts
    is : t ≡ transaction_in account

  of_account : (t : Transaction) → In t (all_transactions (shares_in p)) → Of_account t
  of_account t i =
      let f : InFlat (λ (s : Share). s.transactions) (shares_in p) t = flat_in (λ (s : Share). s.transactions) (shares_in p) t i in
      let s : Mapped (share_in p.journals) p.sessions f.from = map_in (share_in p.journals) p.sessions f.from f.among in
      let a : Mapped transaction_in s.from.accounts t = map_in transaction_in s.from.accounts t (subst (λ (x : Share). In t x.transactions) s.is f.here) in
      record { session = s.from; among = s.among; account = a.from; here = a.among; is = a.is }

  trace_among : (s : Session) → In s p.sessions → (a : Account) → In a s.accounts → In (trace_of a) (traces_of_play p)
  trace_among s i a k = in_flat traces_of_session p.sessions s (trace_of a) i (in_map trace_of s.accounts a k)

  transaction_among : (s : Session) → In s p.sessions → (a : Account) → In a s.accounts → In (transaction_in a) (all_transactions (shares_in p))
  transaction_among s i a k = in_flat (λ (x : Share). x.transactions) (shares_in p) (share_in p.journals s) (transaction_in a) (in_map (share_in p.journals) p.sessions s i) (in_map transaction_in s.accounts a k)

  distinct : Distinct (all_transactions (shares_in p))
  distinct = distinct_all (shares_in p) (each_map (λ (s : Share). Counted s.session 1 s.transactions) (share_in p.journals) p.sessions h.labels) h.apart

  -- transactions with one label are one
  one : (t u : Transaction) → In t (all_transactions (shares_in p)) → In u (all_transactions (shares_in p)) → t.label ≡ u.label → t ≡ u
  one t u i k e = distinct_same (all_transactions (shares_in p)) t u distinct i k e

  -- ---- one transaction

  held_of : (s : Session) → In s p.sessions → (a : Account) → In a s.accounts → IsHeld c (trace_of a)
  held_of s i a k = each_in (IsHeld c) (traces_of_play p) (trace_of a) h.held.each (trace_among s i a k)

  accounted : (s : Session) → In s p.sessions → (a : Account) → In a s.accounts → IsAccounted p a
  accounted s i a k = each_in (IsAccounted p) s.accounts a (each_in (λ (x : Session). Each (IsAccounted p) x.accounts) p.sessions s h.accounts i) k

  account : (s : Session) → In s p.sessions → (a : Account) → In a s.accounts → IsAccount p a
  account s i a k = record {
    talks = (accounted s i a k).talks;
    entries = λ name. ap (entries_by a.kept.label) (sym (h.journals name)) ∙ (held_of s i a k).entries name;
    texts = (accounted s i a k).texts;
    pair = subst (λ ps. PairIf ps a.kept.mem a.kept.store) h.held.points_are (held_of s i a k).pair;
  }

  -- ---- points and numbers

  maker_of : (q : Point) → Maker (traces_of_play p) q → MakerOf (all_transactions (shares_in p)) q
  maker_of q m =
      let w : Held_by m.who = held_by m.who m.among in
      record {
        who = transaction_in w.account;
        among = transaction_among w.session w.among w.account w.here;
        made = subst (λ (t : Trace). In q t.facts.made) w.is m.made;
      }

  source : (q : Point) → Sourced c.journals (traces_of_play p) q → MakerOf (all_transactions (shares_in p)) q ⊎ IsAtHorizons p.journals q
  source q s = ⊎_elim
      (λ (m : Maker (traces_of_play p) q). inl (maker_of q m))
      (λ (k : IsAtHorizons c.journals q). inr (horizons_stay c.journals p.journals (λ name j i. subst (In j) (h.journals name) i) q k))
      s

  made_among : (t : Transaction) → In t (all_transactions (shares_in p)) → Each (λ (q : Point). In q p.points) t.made
  made_among t i =
      let w : Of_account t = of_account t i in
      subst (λ (x : Transaction). Each (λ (q : Point). In q p.points) x.made) (sym w.is)
      (each_in (λ (x : Trace). Each (λ (q : Point). In q p.points) x.facts.made) (traces_of_play p) (trace_of w.account) h.held.among (trace_among w.session w.among w.account w.here))

  -- what one trace alone has one transaction alone has
  alone : {X : Type 0} (Has : Trace → X → Type 0) (Does : Transaction → X → Type 0) → ((a : Account) (x : X) → Does (transaction_in a) x → Has (trace_of a) x) → Alone Has (traces_of_play p)
      → (x : X) (t u : Transaction) → In t (all_transactions (shares_in p)) → In u (all_transactions (shares_in p)) → Does t x → Does u x → t ≡ u
  alone Has Does same k x t u i j a b =
      let v : Of_account t = of_account t i in
      let w : Of_account u = of_account u j in
      let e : trace_of v.account ≡ trace_of w.account = k x (trace_of v.account) (trace_of w.account) (trace_among v.session v.among v.account v.here) (trace_among w.session w.among w.account w.here)
      (same v.account x (subst (λ z. Does z x) v.is a)) (same w.account x (subst (λ z. Does z x) w.is b)) in
      one t u i j (ap (λ (z : Transaction). z.label) v.is ∙ ap (λ (z : Trace). z.facts.label) e ∙ ap (λ (z : Transaction). z.label) (sym w.is))

  points_made : PointsMade (traces_in p)
  points_made = record {
    source = each_weaker (Sourced c.journals (traces_of_play p)) (λ (q : Point). MakerOf (all_transactions (shares_in p)) q ⊎ IsAtHorizons p.journals q) source p.points h.held.makers;
    among = in_each (λ (t : Transaction). Each (λ (q : Point). In q p.points) t.made) (all_transactions (shares_in p)) made_among;
    once = alone Made (λ (t : Transaction) (q : Point). In q t.made) (λ a q m. m) h.held.once;
  }

  drawn_same : (name : EngineName) (a : Account) → drawn_at name (transaction_in a).drew ≡ drawn_of name (facts_of a.kept)
  drawn_same Mem a = refl
  drawn_same Store a = refl

  drew_alone : (name : EngineName) (n : ℕ) (t u : Transaction) → In t (all_transactions (shares_in p)) → In u (all_transactions (shares_in p)) → drawn_at name t.drew ≡ Some n → drawn_at name u.drew ≡ Some n → t ≡ u
  drew_alone name = alone (Drew name) (λ (t : Transaction) (n : ℕ). drawn_at name t.drew ≡ Some n) (λ a n e. sym (drawn_same name a) ∙ e) (h.held.unlike name)

  -- who drew a number is one of its transactions
  pub drawer_of : (name : EngineName) (n : ℕ) → Drawer name (traces_of_play p) n → AnyDrawer (traces_in p) name n
  drawer_of name n d =
      let w : Held_by d.who = held_by d.who d.among in
      record {
        who = transaction_in w.account;
        among = transaction_among w.session w.among w.account w.here;
        drew = drawn_same name w.account ∙ ap (λ (t : Trace). drawn_of name t.facts) (sym w.is) ∙ d.drew;
      }

  unlike_from : (name : EngineName) (ts : List Transaction) → Distinct ts → ((n : ℕ) (t u : Transaction) → In t ts → In u ts → drawn_at name t.drew ≡ Some n → drawn_at name u.drew ≡ Some n → t ≡ u) → DrewUnlike name ts
  unlike_from name [] d k = tt
  unlike_from name (t ∷ ts) d k = (
    in_each (λ (u : Transaction). (n : ℕ) → drawn_at name t.drew ≡ Some n → drawn_at name u.drew ≡ Some n → ⊥) ts
        (λ u i n a b. false≢true (sym (each_in (λ (u : Transaction). same_label t.label u.label ≡ false) ts u d.0 i) ∙ ap (λ (x : Transaction). same_label t.label x.label) (sym (k n t u (inl refl) (inr i) a b)) ∙ same_itself t.label)),
    unlike_from name ts d.1 (λ n x y i j a b. k n x y (inr i) (inr j) a b),
  )

  -- ---- the journals

  known : (ts : List Trace) → ((t : Trace) → In t ts → Whose (all_transactions (shares_in p)) t.facts.label) → (j : Entry) → Called ts j → Known (all_transactions (shares_in p)) (tx_of j.call)
  known ts f j h = ⊎_elim
      (λ (k : Caller ts j). subst (Known (all_transactions (shares_in p))) (sym k.is) (f k.who k.among))
      (λ (none : tx_of j.call ≡ None). subst (Known (all_transactions (shares_in p))) (sym none) tt)
      h

  whose : (t : Trace) → In t (traces_of_play p) → Whose (all_transactions (shares_in p)) t.facts.label
  whose t i =
      let w : Held_by t = held_by t i in
      record { who = transaction_in w.account; among = transaction_among w.session w.among w.account w.here; is = ap (λ (x : Trace). x.facts.label) (sym w.is) }

  callers : (name : EngineName) → Each (Called (traces_of_play p)) (p.journals name)
  callers name = subst (Each (Called (traces_of_play p))) (h.journals name) (h.held.callers name)

  pub play : IsPlay p
  play = record {
    tables = h.tables;
    opening = h.opening;
    fit = h.fit;
    apart = h.apart;
    labels = h.labels;
    accounts = in_each (λ (s : Session). Each (IsAccount p) s.accounts) p.sessions (λ s i. in_each (IsAccount p) s.accounts (λ a k. account s i a k));
    legal = λ name. subst (λ e. Legal e (p.journals name)) (h.first name) (subst (Legal (c.first name)) (h.journals name) (h.held.common.legal name));
    known = λ name. each_weaker (Called (traces_of_play p)) (λ (j : Entry). Known (all_transactions (shares_in p)) (tx_of j.call)) (known (traces_of_play p) whose) (p.journals name) (callers name);
    unowned = λ name. subst (λ e. MayRecords e (p.journals name)) (h.first name) (subst (MayRecords (c.first name)) (h.journals name) (h.held.unowned name));
    stairs = subst Staircase h.held.points_are h.held.common.sound.stairs;
    made = points_made;
    unlike = λ name. unlike_from name (all_transactions (shares_in p)) distinct (drew_alone name);
  }

pub plays_are_played : PlaysArePlayed
plays_are_played p c h = play p c h
