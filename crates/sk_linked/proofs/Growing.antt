-- One transaction goes on by some calls and points: what was linked stays linked.
use Rattle.std.specs.Prelude.{ℕ, List, [], ◌∷◌, ◌++◌, Option, Some, None, true, false, cond, ◌≡◌}
use Rattle.std.proofs.Common.{refl, sym, ap, subst, ◌∙◌, inl, inr, ⊎_elim}
use Rattle.std.proofs.lemmas.Bool.{cases_Bool, cond_both, false≢true}
use Rattle.std.proofs.lemmas.List.{append-nil}
use Rattle.std.proofs.lemmas.List.Elements.{filter-append}
use Rattle.sk_model.specs.declared.label.Label.{Label}
use Rattle.sk_model.specs.declared.engine.EngineName.{EngineName}
use Rattle.sk_model.specs.declared.engine.EngineName.TheVariants.{Mem, Store}
use Rattle.sk_model.specs.declared.point.Point.{Point}
use Rattle.sk_model.specs.declared.call.EngineCall.{EngineCall}
use Rattle.sk_model.specs.declared.call.Entry.{Entry}
use Rattle.sk_model.specs.Records.{same_label}
use Rattle.sk_model.specs.Legal.{after_entries, Legal, Allowed}
use Rattle.sk_model.specs.Talks.{tx_of, is_tx, is_by, entries_by}
use Rattle.sk_model.proofs.Lists.{Each, each_append, each_weaker, each_both}
use Rattle.sk_model.proofs.Labels.{same_is, not_same_back}
use Rattle.sk_model.proofs.Numbered.{filter_none}
use Rattle.sk_weave.specs.Points.{Staircase}
use Rattle.sk_weave.specs.Woven.{At}
use Rattle.sk_linked.specs.Reads.{PairIf, first_table}
use Rattle.sk_weave.proofs.Pairs.{pair_stays}
use Rattle.sk_linked.specs.Traces.{drawn_at, Transaction, Traces, run_of, In, Belongs, Distinct, DrewUnlike, CommitOf, Known, PointsMade, Linked}
use Rattle.sk_linked.proofs.Members.{in_each, each_in}
use Rattle.sk_linked.proofs.Grounds.{legal_append, allowed_append}

-- the transaction takes the place of the one with its label, or stands behind all
abbrev pub put_transaction : Transaction → List Transaction → List Transaction
put_transaction t [] = t ∷ []
put_transaction t (x ∷ xs) = cond (same_label t.label x.label) (t ∷ xs) (x ∷ put_transaction t xs)

pub each_put : (Q : Transaction → Type 0) (t : Transaction) (xs : List Transaction) → Q t → Distinct xs → Each (λ (x : Transaction). same_label t.label x.label ≡ false → Q x) xs → Each Q (put_transaction t xs)
each_put Q t [] q d h = (q, tt)
each_put Q t (x ∷ xs) q d h = cond_both (same_label t.label x.label) (t ∷ xs) (x ∷ put_transaction t xs) (λ (ys : List Transaction). Each Q ys)
    (λ e. (q, each_weaker _ Q (λ y k. k.1 (ap (λ (l : Label). same_label l y.label) (same_is t.label x.label e) ∙ k.0)) xs (each_both (λ (y : Transaction). same_label x.label y.label ≡ false) (λ (y : Transaction). same_label t.label y.label ≡ false → Q y) xs d.0 h.1)))
    (λ e. (h.0 e, each_put Q t xs q d.1 h.1))

pub in_put_new : (t : Transaction) (xs : List Transaction) → In t (put_transaction t xs)
in_put_new t [] = inl refl
in_put_new t (x ∷ xs) = cond_both (same_label t.label x.label) (t ∷ xs) (x ∷ put_transaction t xs) (λ (ys : List Transaction). In t ys) (λ e. inl refl) (λ e. inr (in_put_new t xs))

pub in_put_old : (t y : Transaction) (xs : List Transaction) → same_label t.label y.label ≡ false → In y xs → In y (put_transaction t xs)
in_put_old t y [] f i = absurd i
in_put_old t y (x ∷ xs) f i = cond_both (same_label t.label x.label) (t ∷ xs) (x ∷ put_transaction t xs) (λ (ys : List Transaction). In y ys)
    (λ e. ⊎_elim (λ (a : y ≡ x). absurd (false≢true (sym f ∙ ap (λ (z : Transaction). same_label t.label z.label) a ∙ e))) (λ (b : In y xs). inr b) i)
    (λ e. ⊎_elim (λ (a : y ≡ x). inl a) (λ (b : In y xs). inr (in_put_old t y xs f b)) i)

distinct_put : (t : Transaction) (xs : List Transaction) → Distinct xs → Distinct (put_transaction t xs)
distinct_put t [] d = (tt, tt)
distinct_put t (x ∷ xs) d = cond_both (same_label t.label x.label) (t ∷ xs) (x ∷ put_transaction t xs) (λ (ys : List Transaction). Distinct ys)
    (λ e. (each_weaker _ _ (λ y k. ap (λ (l : Label). same_label l y.label) (same_is t.label x.label e) ∙ k) xs d.0, d.1))
    (λ e. (each_put (λ (y : Transaction). same_label x.label y.label ≡ false) t xs (not_same_back t.label x.label e) d.1 (each_weaker _ _ (λ y k f. k) xs d.0), distinct_put t xs d.1))

unlike_put : (s : EngineName) (t : Transaction) (xs : List Transaction) → Distinct xs → DrewUnlike s xs
    → Each (λ (x : Transaction). same_label t.label x.label ≡ false → (n : ℕ) → drawn_at s t.drew ≡ Some n → drawn_at s x.drew ≡ Some n → ⊥) xs → DrewUnlike s (put_transaction t xs)
unlike_put s t [] d u h = (tt, tt)
unlike_put s t (x ∷ xs) d u h = cond_both (same_label t.label x.label) (t ∷ xs) (x ∷ put_transaction t xs) (λ (ys : List Transaction). DrewUnlike s ys)
    (λ e. (each_weaker _ _ (λ y k. k.1 (ap (λ (l : Label). same_label l y.label) (same_is t.label x.label e) ∙ k.0)) xs (each_both (λ (y : Transaction). same_label x.label y.label ≡ false) (λ (y : Transaction). same_label t.label y.label ≡ false → (n : ℕ) → drawn_at s t.drew ≡ Some n → drawn_at s y.drew ≡ Some n → ⊥) xs d.0 h.1), u.1))
    (λ e. (each_put (λ (y : Transaction). (n : ℕ) → drawn_at s x.drew ≡ Some n → drawn_at s y.drew ≡ Some n → ⊥) t xs (λ n a b. h.0 e n b a) d.1 (each_weaker _ _ (λ y k f. k) xs u.0), unlike_put s t xs d.1 u.1 h.1))

pub at_more : (a b : ℕ) (qs more : List Point) → At a b qs → At a b (qs ++ more)
at_more a b [] more h = absurd h
at_more a b (q ∷ qs) more h = ⊎_elim (λ (x : (q.commit ≡ true) × (q.a ≡ a) × (q.b ≡ b)). inl x) (λ (y : At a b qs). inr (at_more a b qs more y)) h

pub pair_more : (points more : List Point) (m s : Option ℕ) → PairIf points m s → PairIf (points ++ more) m s
pair_more points more (Some a) (Some b) h = pair_stays points more a b h
pair_more points more None s h = tt
pair_more points more (Some a) None h = tt

pub by_other : (x l : Label) → same_label l x ≡ false → (c : EngineCall) → is_tx l (tx_of c) ≡ true → is_tx x (tx_of c) ≡ false
by_other x l f c e = go (tx_of c) e
  where
    go : (o : Option Label) → is_tx l o ≡ true → is_tx x o ≡ false
    go None e = absurd (false≢true e)
    go (Some y) e = subst (λ (z : Label). same_label x z ≡ false) (same_is l y e) (not_same_back l x f)

known_by : (ts : List Transaction) (t : Transaction) → In t ts → (o : Option Label) → is_tx t.label o ≡ true → Known ts o
known_by ts t i None e = tt
known_by ts t i (Some l) e = record { who = t; among = i; is = same_is t.label l e }

-- a point is the transaction's own commit, if it is a commit
abbrev pub OwnPoint : Transaction → Point → Type 0
OwnPoint t q = q.commit ≡ true → (t.committed ≡ true) × (t.drew.mem ≡ Some q.a) × (t.drew.store ≡ Some q.b)

module _ (h : Traces) (t : Transaction) (es : EngineName → List Entry) (more : List Point) where
  -- the traces where the transaction left these entries and points
  abbrev pub grown : Traces
  grown = record h { points = h.points ++ more; journals = λ s. h.journals s ++ es s; transactions = put_transaction t h.transactions }

  pub record Grows : Type 0 where
    pub legal : (s : EngineName) → Legal (after_entries (first_table (run_of h) s) (h.journals s)) (es s)
    pub allowed : (s : EngineName) → Allowed (after_entries (first_table (run_of h) s) (h.journals s)) (es s)
    pub own : (s : EngineName) → Each (λ (j : Entry). is_by t.label j ≡ true) (es s)
    pub stairs : Staircase (h.first ∷ (h.points ++ more))
    pub new : Belongs grown t
    pub unlike : (s : EngineName) → Each (λ (x : Transaction). same_label t.label x.label ≡ false → (n : ℕ) → drawn_at s t.drew ≡ Some n → drawn_at s x.drew ≡ Some n → ⊥) h.transactions
    pub stays : Each (λ (x : Transaction). same_label t.label x.label ≡ true → x.committed ≡ true → (t.committed ≡ true) × ((s : EngineName) → drawn_at s t.drew ≡ drawn_at s x.drew)) h.transactions
    pub points : Each (OwnPoint t) more
    pub made : PointsMade grown

  -- another transaction
  others : Grows → (x : Transaction) → same_label t.label x.label ≡ false → ((s : EngineName) (n : ℕ) → drawn_at s t.drew ≡ Some n → drawn_at s x.drew ≡ Some n → ⊥) → Belongs h x → Belongs grown x
  others g x f u k = record {
    entries = λ s. filter-append (is_by x.label) (h.journals s) (es s) ∙ ap (λ ys. entries_by x.label (h.journals s) ++ ys) (filter_none (is_by x.label) (es s) (each_weaker (λ (j : Entry). is_by t.label j ≡ true) (λ (j : Entry). is_by x.label j ≡ false) (λ (j : Entry) e. by_other x.label t.label f j.call e) (es s) (g.own s)))
        ∙ append-nil (entries_by x.label (h.journals s)) ∙ k.entries s;
    own = k.own;
    again = k.again;
    pair = pair_more (h.first ∷ h.points) more x.snapshots.mem x.snapshots.store k.pair;
    past = k.past;
    drew = k.drew;
    silent = k.silent;
    opened = k.opened;
    alone = k.alone;
    crossed = λ a b c e q. at_more a b h.points more (k.crossed a b c e q);
    paired = each_append (λ (q : Point). q.commit ≡ true → x.drew.mem ≡ Some q.a → x.drew.store ≡ Some q.b) h.points more k.paired
        (each_weaker (OwnPoint t) (λ (q : Point). q.commit ≡ true → x.drew.mem ≡ Some q.a → x.drew.store ≡ Some q.b) (λ (q : Point) p c e. absurd (u Mem q.a (p c).1 e)) more g.points);
  }

  known_old : (o : Option Label) → Known h.transactions o → Known (put_transaction t h.transactions) o
  known_old None k = tt
  known_old (Some l) k = ⊎_elim
      (λ (y : same_label t.label k.who.label ≡ true). record { who = t; among = in_put_new t h.transactions; is = same_is t.label k.who.label y ∙ k.is })
      (λ (f : same_label t.label k.who.label ≡ false). record { who = k.who; among = in_put_old t k.who h.transactions f k.among; is = k.is })
      (cases_Bool (same_label t.label k.who.label))

  point_old : Grows → (q : Point) → CommitOf h.transactions q → CommitOf (put_transaction t h.transactions) q
  point_old g q k = ⊎_elim
      (λ (y : same_label t.label k.who.label ≡ true).
      let c : (t.committed ≡ true) × ((s : EngineName) → drawn_at s t.drew ≡ drawn_at s k.who.drew) = each_in (λ (x : Transaction). same_label t.label x.label ≡ true → x.committed ≡ true → (t.committed ≡ true) × ((s : EngineName) → drawn_at s t.drew ≡ drawn_at s x.drew)) h.transactions k.who g.stays k.among y k.committed in
      record { who = t; among = in_put_new t h.transactions; committed = c.0; mem = c.1 Mem ∙ k.mem; store = c.1 Store ∙ k.store })
      (λ (f : same_label t.label k.who.label ≡ false). record { who = k.who; among = in_put_old t k.who h.transactions f k.among; committed = k.committed; mem = k.mem; store = k.store })
      (cases_Bool (same_label t.label k.who.label))

  pub linked_grows : Linked h → Grows → Linked grown
  linked_grows l g = record {
    legal = λ s. legal_append (first_table (run_of h) s) (h.journals s) (es s) (l.legal s) (g.legal s);
    allowed = λ s. allowed_append (first_table (run_of h) s) (h.journals s) (es s) (l.allowed s) (g.allowed s);
    stairs = g.stairs;
    distinct = distinct_put t h.transactions l.distinct;
    unlike = λ s. unlike_put s t h.transactions l.distinct (l.unlike s) (g.unlike s);
    known = λ s. each_append (λ (j : Entry). Known (put_transaction t h.transactions) (tx_of j.call)) (h.journals s) (es s)
        (each_weaker (λ (j : Entry). Known h.transactions (tx_of j.call)) (λ (j : Entry). Known (put_transaction t h.transactions) (tx_of j.call)) (λ (j : Entry) k. known_old (tx_of j.call) k) (h.journals s) (l.known s))
        (each_weaker (λ (j : Entry). is_by t.label j ≡ true) (λ (j : Entry). Known (put_transaction t h.transactions) (tx_of j.call)) (λ (j : Entry) e. known_by (put_transaction t h.transactions) t (in_put_new t h.transactions) (tx_of j.call) e) (es s) (g.own s));
    each = each_put (Belongs grown) t h.transactions g.new l.distinct
        (in_each (λ (x : Transaction). same_label t.label x.label ≡ false → Belongs grown x) h.transactions
        (λ x i f. others g x f (λ s n a b. each_in (λ (x : Transaction). same_label t.label x.label ≡ false → (n : ℕ) → drawn_at s t.drew ≡ Some n → drawn_at s x.drew ≡ Some n → ⊥) h.transactions x (g.unlike s) i f n a b) (each_in (Belongs h) h.transactions x l.each i)));
    points = each_append (λ (q : Point). q.commit ≡ true → CommitOf (put_transaction t h.transactions) q) h.points more
        (each_weaker (λ (q : Point). q.commit ≡ true → CommitOf h.transactions q) (λ (q : Point). q.commit ≡ true → CommitOf (put_transaction t h.transactions) q) (λ (q : Point) k c. point_old g q (k c)) h.points l.points)
        (each_weaker (OwnPoint t) (λ (q : Point). q.commit ≡ true → CommitOf (put_transaction t h.transactions) q) (λ (q : Point) k c. record { who = t; among = in_put_new t h.transactions; committed = (k c).0; mem = (k c).1; store = (k c).2 }) more g.points);
    made = g.made;
  }
