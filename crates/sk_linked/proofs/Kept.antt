-- What a run of sessions keeps is linked, and of one database.
use Rattle.std.specs.Prelude.{ℕ, Bool, true, false, cond, ◌==◌, ◌≡◌, ◌⊎◌, List, [], ◌∷◌, ◌++◌, map, is_some, Option, Some, None}
use Rattle.std.proofs.Common.{refl, sym, ap, subst, ◌∙◌, inl, inr, ⊎_elim}
use Rattle.std.specs.List.{flat_map, list_any}
use Rattle.std.proofs.lemmas.Bool.{false≢true, eq-eqb, eqb-true}
use Rattle.sk_model.specs.declared.label.Label.{Label}
use Rattle.sk_model.specs.declared.engine.EngineName.{EngineName}
use Rattle.sk_model.specs.declared.engine.EngineName.TheVariants.{Mem, Store}
use Rattle.sk_model.specs.declared.point.Point.{Point}
use Rattle.sk_model.specs.declared.record.Record.{Record}
use Rattle.sk_model.specs.declared.call.Entry.{Entry}
use Rattle.sk_model.specs.Records.{is_committed}
use Rattle.sk_model.specs.Talks.{calls_in, tx_of, is_by, entries_by, wrote}
use Rattle.sk_model.specs.RecordTalks.{number_or_none, is_check, selection_made, commit_made, Talks}
use Rattle.sk_model.proofs.Lists.{Each, each_filter, each_weaker, filter_twice}
use Rattle.sk_linked.specs.Traces.{Transaction, In, CommitOf, MakerOf, IsAtHorizons, Whose, Known, Linked}
use Rattle.sk_linked.specs.Recorded.{HasTalk, AreRecords}
use Rattle.sk_linked.specs.Joining.{Share, Counted, Behaves, Own, in_session, session_entries, all_transactions, Apart, OfOne, Heard, Joined}
use Rattle.sk_linked.specs.Conduct.{IsBacked}
use Rattle.sk_linked.specs.Causes.{Ring, HasCauses}
use Rattle.sk_linked.specs.Kept.{Account, Session, Play, transaction_in, transactions_in, share_in, shares_in, traces_in, records_in, IsAccount, IsPlay, SessionsAreOne}
use Rattle.sk_linked.proofs.Members.{each_in, in_each, in_either}
use Rattle.sk_linked.proofs.Joining as joining
use Rattle.sk_linked.proofs.Joining.{InFlat, flat_in, in_flat, counted_each, both_session}
use Rattle.sk_linked.proofs.Finishing.{check_drew, checked_committed}
use Rattle.sk_linked.proofs.Conduct.{talks_behave}
use Rattle.sk_linked.proofs.Recorded.{records_one, talks_make}
use Rattle.sk_linked.proofs.Denying.{refusals_are_caused}

-- ---- one transaction

has_talk : (a : Account) → HasTalk (transaction_in a) a.kept
has_talk a = record { label = refl; mem = refl; store = refl; drew_mem = refl; drew_store = refl; committed = refl }

-- a member of mapped elements is one of them, mapped
record Mapped {X Y : Type 0} (f : X → Y) (xs : List X) (y : Y) : Type 0 where
  from : X
  among : In from xs
  is : y ≡ f from

map_in : {X Y : Type 0} (f : X → Y) (xs : List X) (y : Y) → In y (map f xs) → Mapped f xs y
map_in f [] y i = absurd i
map_in {X = X} {Y = Y} f (x ∷ xs) y i = ⊎_elim
    (λ (e : y ≡ f x). record { from = x; among = inl refl; is = e })
    (λ (k : In y (map f xs)). let m : Mapped f xs y = map_in f xs y k in record { from = m.from; among = inr m.among; is = m.is })
    i

in_map : {X Y : Type 0} (f : X → Y) (xs : List X) (x : X) → In x xs → In (f x) (map f xs)
in_map f [] x i = absurd i
in_map {X = X} {Y = Y} f (y ∷ ys) x i = ⊎_elim (λ (e : x ≡ y). inl (ap f e)) (λ (k : In x ys). inr (in_map f ys x k)) i

each_map_from : {X Y : Type 0} (P : Y → Type 0) (f : X → Y) (xs : List X) → Each (λ x. P (f x)) xs → Each P (map f xs)
each_map_from P f [] h = tt
each_map_from P f (x ∷ xs) h = (h.0, each_map_from P f xs h.1)

-- a commit point that a record made is of its own two numbers, and then it is committed
made_commit : (a : Account) (p : Play) (q : Point) → Talks p.catalog a.kept a.talk → In q a.kept.made → q.commit ≡ true → (is_committed a.kept.ending ≡ true) × (a.kept.drew_mem ≡ Some q.a) × (a.kept.drew_store ≡ Some q.b)
made_commit a p q t i c = ⊎_elim
    (λ (k : In q t.selected). absurd (chosen t.selected t.selection k))
    (λ (k : In q (commit_made t.numbered t.taken)). point (list_any is_check t.taken) refl k)
    (in_either q t.selected (commit_made t.numbered t.taken) (subst (In q) t.made i))
  where
    chosen : (ps : List Point) → selection_made a.kept.mem ps → In q ps → ⊥
    chosen [] h k = k
    chosen (x ∷ xs) h k = ⊎_elim
        (λ (e : q ≡ x). false≢true (sym h.1 ∙ ap (λ (y : Point). y.commit) (sym e) ∙ c))
        (λ (m : In q xs). subst (In q) h.0 m)
        k

    drew : (o n : Option ℕ) → o ≡ n → is_some o ≡ true → o ≡ Some (number_or_none n)
    drew None n e s = absurd (false≢true s)
    drew (Some x) n e s = subst (λ m. Some x ≡ Some (number_or_none m)) e refl

    point : (b : Bool) → list_any is_check t.taken ≡ b → In q (cond b (record { a = number_or_none t.numbered.mem; b = number_or_none t.numbered.store; commit = true } ∷ []) []) → (is_committed a.kept.ending ≡ true) × (a.kept.drew_mem ≡ Some q.a) × (a.kept.drew_store ≡ Some q.b)
    point false e k = absurd k
    point true e (inr k) = absurd k
    point true e (inl k) = (
      checked_committed a.kept.ending (wrote Mem t.spoken) (wrote Store t.spoken) t.taken t.rest t.steps t.ends e,
      drew a.kept.drew_mem t.numbered.mem t.drew_mem (t.mem_drawn ∙ check_drew Mem (wrote Mem t.spoken) (wrote Store t.spoken) t.taken t.rest t.steps e) ∙ ap (λ (x : Point). Some x.a) (sym k),
      drew a.kept.drew_store t.numbered.store t.drew_store (t.store_drawn ∙ check_drew Store (wrote Mem t.spoken) (wrote Store t.spoken) t.taken t.rest t.steps e) ∙ ap (λ (x : Point). Some x.b) (sym k),
    )

module _ (p : Play) (play : IsPlay p) where
  -- a transaction of the run is of an account of a session
  record Held (t : Transaction) : Type 0 where
    session : Session
    among : In session p.sessions
    account : Account
    here : In account session.accounts
    is : t ≡ transaction_in account

  held : (t : Transaction) → In t (all_transactions (shares_in p)) → Held t
  held t i =
      let f : InFlat (λ (s : Share). s.transactions) (shares_in p) t = flat_in (λ (s : Share). s.transactions) (shares_in p) t i in
      let s : Mapped (share_in p.journals) p.sessions f.from = map_in (share_in p.journals) p.sessions f.from f.among in
      let a : Mapped transaction_in s.from.accounts t = map_in transaction_in s.from.accounts t (subst (λ (x : Share). In t x.transactions) s.is f.here) in
      record { session = s.from; among = s.among; account = a.from; here = a.among; is = a.is }

  account_of : (s : Session) → In s p.sessions → (a : Account) → In a s.accounts → IsAccount p a
  account_of s i a k = each_in (IsAccount p) s.accounts a (each_in (λ (s : Session). Each (IsAccount p) s.accounts) p.sessions s play.accounts i) k

  transaction_of : (s : Session) → In s p.sessions → (a : Account) → In a s.accounts → In (transaction_in a) (all_transactions (shares_in p))
  transaction_of s i a k = in_flat (λ (s : Share). s.transactions) (shares_in p) (share_in p.journals s) (transaction_in a) (in_map (share_in p.journals) p.sessions s i) (in_map transaction_in s.accounts a k)

  backed : (s : Session) → In s p.sessions → (a : Account) → In a s.accounts → IsBacked p.catalog p.rows (p.first ∷ p.points) a.kept
  backed s i a k = record {
    tables = play.tables;
    opening = play.opening;
    texts = (account_of s i a k).texts;
    pair = (account_of s i a k).pair;
    made = each_weaker (λ (q : Point). In q p.points) (λ (q : Point). In q (p.first ∷ p.points)) (λ q m. inr m) a.kept.made (each_in _ (all_transactions (shares_in p)) (transaction_in a) play.made.among (transaction_of s i a k));
  }

  -- ---- one session

  numbered : (s : Session) → In s p.sessions → (t : Transaction) → In t (transactions_in s) → t.label.session ≡ s.number
  numbered s i t k = (each_in _ (transactions_in s) t (counted_each s.number 1 (transactions_in s) (each_in (λ (s : Session). Counted s.number 1 (transactions_in s)) p.sessions s play.labels i)) k).0

  -- two shares of one number are one
  same_share : (shares : List Share) → Apart shares → (x y : Share) → In x shares → In y shares → (x.session == y.session) ≡ true → x ≡ y
  same_share [] a x y i k e = absurd i
  same_share (s ∷ ss) a x y i k e = ⊎_elim
      (λ (q : x ≡ s). ⊎_elim
      (λ (r : y ≡ s). q ∙ sym r)
      (λ (m : In y ss). absurd (false≢true (sym (each_in (λ (z : Share). (s.session == z.session) ≡ false) ss y a.0 m) ∙ ap (λ (z : Share). z.session == y.session) (sym q) ∙ e)))
      k)
      (λ (n : In x ss). ⊎_elim
      (λ (r : y ≡ s). absurd (false≢true (sym (each_in (λ (z : Share). (s.session == z.session) ≡ false) ss x a.0 n) ∙ ap (λ (z : Share). z.session == x.session) (sym r) ∙ turned x.session y.session e)))
      (λ (m : In y ss). same_share ss a.1 x y n m e)
      k)
      i
    where
      turned : (m n : ℕ) → (m == n) ≡ true → (n == m) ≡ true
      turned m n e = eq-eqb n m (sym (eqb-true m n e))

  -- an entry of the session is of one of its transactions
  session_known : (s : Session) → In s p.sessions → (o : Option Label) → in_session s.number o ≡ true → Known (all_transactions (shares_in p)) o → Known (transactions_in s) o
  session_known s i None e k = tt
  session_known s i (Some l) e k = find (held k.who k.among)
    where
      find : Held k.who → Whose (transactions_in s) l
      find w =
          let here : In k.who (transactions_in w.session) = subst (λ (t : Transaction). In t (transactions_in w.session)) (sym w.is) (in_map transaction_in w.session.accounts w.account w.here) in
          let number : w.session.number ≡ l.session = sym (numbered w.session w.among k.who here) ∙ ap (λ (x : Label). x.session) k.is in
          let one : share_in p.journals w.session ≡ share_in p.journals s = same_share (shares_in p) play.apart (share_in p.journals w.session) (share_in p.journals s) (in_map (share_in p.journals) p.sessions w.session w.among) (in_map (share_in p.journals) p.sessions s i) (eq-eqb w.session.number s.number (number ∙ sym (eqb-true s.number l.session e))) in
          record { who = k.who; among = subst (λ (x : Share). In k.who x.transactions) one here; is = k.is }

  own_of : (s : Session) → In s p.sessions → Own p.catalog p.rows (p.first ∷ p.points) (share_in p.journals s)
  own_of s i = record {
    labels = each_in (λ (s : Session). Counted s.number 1 (transactions_in s)) p.sessions s play.labels i;
    entries = λ name. each_map_from (λ (t : Transaction). entries_by t.label (session_entries s.number (p.journals name)) ≡ calls_in name t.talk) transaction_in s.accounts
        (in_each _ s.accounts (λ a k. mine name a.kept.label (numbered s i (transaction_in a) (in_map transaction_in s.accounts a k)) ∙ (account_of s i a k).entries name));
    known = λ name. each_filter (λ (j : Entry). Known (all_transactions (shares_in p)) (tx_of j.call)) (λ (j : Entry). Known (transactions_in s) (tx_of j.call)) (λ (j : Entry). in_session s.number (tx_of j.call))
        (λ j e k. session_known s i (tx_of j.call) e k) (p.journals name) (play.known name);
    each = each_map_from (Behaves p.catalog p.rows (p.first ∷ p.points)) transaction_in s.accounts
        (in_each _ s.accounts (λ a k. talks_behave p.catalog p.rows (p.first ∷ p.points) (transaction_in a) a.kept (has_talk a) (account_of s i a k).talks (backed s i a k)));
  }
    where
      mine : (name : EngineName) (l : Label) → l.session ≡ s.number → entries_by l (session_entries s.number (p.journals name)) ≡ entries_by l (p.journals name)
      mine name l e = filter_twice (is_by l) (λ (j : Entry). in_session s.number (tx_of j.call)) (is_by l) (λ j. both_session s.number l (tx_of j.call) e) (p.journals name)

  -- ---- all sessions

  heard_of : (o : Option Label) → Known (all_transactions (shares_in p)) o → Heard (shares_in p) o
  heard_of None k = tt
  heard_of (Some l) k = find (held k.who k.among)
    where
      find : Held k.who → OfOne (shares_in p) l
      find w =
          let here : In k.who (transactions_in w.session) = subst (λ (t : Transaction). In t (transactions_in w.session)) (sym w.is) (in_map transaction_in w.session.accounts w.account w.here) in
          record {
            who = share_in p.journals w.session;
            among = in_map (share_in p.journals) p.sessions w.session w.among;
            is = eq-eqb w.session.number l.session (sym (numbered w.session w.among k.who here) ∙ ap (λ (x : Label). x.session) k.is);
          }

  commit_of_point : (q : Point) → MakerOf (all_transactions (shares_in p)) q ⊎ IsAtHorizons p.journals q → q.commit ≡ true → CommitOf (all_transactions (shares_in p)) q
  commit_of_point q (inr h) c = absurd (false≢true (sym h.selects ∙ c))
  commit_of_point q (inl m) c = find (held m.who m.among)
    where
      find : Held m.who → CommitOf (all_transactions (shares_in p)) q
      find w =
          let k : (is_committed w.account.kept.ending ≡ true) × (w.account.kept.drew_mem ≡ Some q.a) × (w.account.kept.drew_store ≡ Some q.b) =
          made_commit w.account p q (account_of w.session w.among w.account w.here).talks (subst (λ (t : Transaction). In q t.made) w.is m.made) c in
          record {
            who = transaction_in w.account;
            among = transaction_of w.session w.among w.account w.here;
            committed = k.0;
            mem = k.1;
            store = k.2;
          }

  joined : Joined (traces_in p) (shares_in p)
  joined = record {
    transactions = refl;
    apart = play.apart;
    opening = play.fit;
    legal = play.legal;
    whose = λ name. each_map_from (λ (s : Share). session_entries s.session (p.journals name) ≡ s.gained name) (share_in p.journals) p.sessions (in_each _ p.sessions (λ s i. refl));
    heard = λ name. each_weaker (λ (j : Entry). Known (all_transactions (shares_in p)) (tx_of j.call)) (λ (j : Entry). Heard (shares_in p) (tx_of j.call)) (λ j k. heard_of (tx_of j.call) k) (p.journals name) (play.known name);
    unowned = play.unowned;
    stairs = play.stairs;
    made = play.made;
    commits = each_weaker _ (λ (q : Point). q.commit ≡ true → CommitOf (all_transactions (shares_in p)) q) commit_of_point p.points play.made.source;
    unlike = play.unlike;
  }

  linked : Linked (traces_in p)
  linked = joining.linked_of_own (traces_in p) (shares_in p) (each_map_from (Own p.catalog p.rows (p.first ∷ p.points)) (share_in p.journals) p.sessions (in_each _ p.sessions own_of)) joined

  -- ---- the records

  are_records_more : (ts us : List Transaction) (rs ss : List Record) → AreRecords p.catalog ts rs → AreRecords p.catalog us ss → AreRecords p.catalog (ts ++ us) (rs ++ ss)
  are_records_more [] us [] ss h k = k
  are_records_more [] us (r ∷ rs) ss h k = absurd h
  are_records_more (t ∷ ts) us [] ss h k = absurd h
  are_records_more (t ∷ ts) us (r ∷ rs) ss h k = (h.0, are_records_more ts us rs ss h.1 k)

  account_records : (all : List Account) → Each (IsAccount p) all → AreRecords p.catalog (map transaction_in all) (map (λ (a : Account). a.kept) all)
  account_records [] h = tt
  account_records (a ∷ more) h = (talks_make p.catalog (transaction_in a) a.kept (has_talk a) h.0.talks, account_records more h.1)

  session_records : (ss : List Session) → Each (λ (s : Session). Each (IsAccount p) s.accounts) ss → AreRecords p.catalog (all_transactions (map (share_in p.journals) ss)) (flat_map (λ (s : Session). map (λ (a : Account). a.kept) s.accounts) ss)
  session_records [] h = tt
  session_records (s ∷ ss) h = are_records_more (transactions_in s) (all_transactions (map (share_in p.journals) ss)) (map (λ (a : Account). a.kept) s.accounts) (flat_map (λ (s : Session). map (λ (a : Account). a.kept) s.accounts) ss) (account_records s.accounts h.0) (session_records ss h.1)

  records : AreRecords p.catalog (traces_in p).transactions (records_in p)
  records = session_records p.sessions play.accounts

  causes : (ring : Ring) → Each (HasCauses (traces_in p) ring) (records_in p)
  causes ring = in_each (HasCauses (traces_in p) ring) (records_in p) of_record
    where
      of_record : (r : Record) → In r (records_in p) → HasCauses (traces_in p) ring r
      of_record r i =
          let f : InFlat (λ (s : Session). map (λ (a : Account). a.kept) s.accounts) p.sessions r = flat_in (λ (s : Session). map (λ (a : Account). a.kept) s.accounts) p.sessions r i in
          let a : Mapped (λ (a : Account). a.kept) f.from.accounts r = map_in (λ (a : Account). a.kept) f.from.accounts r f.here in
          subst (HasCauses (traces_in p) ring) (sym a.is)
          (refusals_are_caused (traces_in p) ring (transaction_in a.from) a.from.kept linked (transaction_of f.from f.among a.from a.among) (has_talk a.from) refl (account_of f.from f.among a.from a.among).talks)

pub sessions_are_one : SessionsAreOne
sessions_are_one p play = record {
  linked = linked p play;
  records = records p play;
  one = λ sorted fresh. records_one (traces_in p) (records_in p) (linked p play) sorted (records p play) fresh;
  caused = causes p play;
}
