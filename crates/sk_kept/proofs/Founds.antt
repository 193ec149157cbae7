-- What each session found when its last transaction began, as calls are made and transactions begin; and so no session goes back.
use Rattle.std.specs.Prelude.{◌≡◌, ℕ, zero, suc, ◌<◌, ◌≤◌, ◌+◌, List, [], ◌∷◌, ◌++◌, Option, Some, None, Bool, true, false, cond, ◌⊎◌, ◌==◌, IfSome, map}
use Rattle.std.proofs.Common.{refl, sym, ap, subst, ◌∙◌, inl, inr, ⊎_elim, arith}
use Rattle.std.specs.List.{flat_map}
use Rattle.std.proofs.lemmas.Bool.{cases_Bool, false≢true, eq-eqb}
use Rattle.std.proofs.lemmas.List.{append-nil}
use Rattle.sk_model.specs.declared.label.Label.{Label}
use Rattle.sk_model.specs.declared.engine.EngineName.{EngineName}
use Rattle.sk_model.specs.declared.record.Record.{Record}
use Rattle.sk_model.specs.declared.call.Entry.{Entry}
use Rattle.sk_model.specs.declared.call.EngineCall.{EngineCall}
use Rattle.sk_model.specs.declared.call.EngineCall.TheVariants as call
use Rattle.sk_model.specs.declared.call.EngineReply.{EngineReply}
use Rattle.sk_model.specs.declared.call.EngineReply.TheVariants as answer
use Rattle.sk_model.specs.Records.{AtMost, IsLater, Follows, Fresh}
use Rattle.sk_model.proofs.Lists.{Each, each_append, each_weaker, each_front, each_end}
use Rattle.sk_weave.specs.AheadLaws.{Counters, counters_of, AreAhead}
use Rattle.sk_weave.proofs.Aheads.{at_first}
use Rattle.sk_linked.specs.Traces.{Transaction, In}
use Rattle.sk_linked.specs.Joining.{Share, Counted, Apart}
use Rattle.sk_linked.specs.Kept.{Account, Session, Play, transaction_in, transactions_in, share_in, records_in}
use Rattle.sk_linked.proofs.Members.{each_in, in_each, some_same}
use Rattle.sk_linked.proofs.Joining.{InFlat, flat_in, in_flat, counted_each}
use Rattle.sk_commit.specs.declared.asking.RegistryCall.{RegistryCall}
use Rattle.sk_commit.specs.declared.asking.RegistryCall.TheVariants as reg
use Rattle.sk_commit.specs.declared.asking.RegistryReply.{RegistryReply}
use Rattle.sk_commit.specs.declared.asking.RegistryReply.TheVariants as told
use Rattle.sk_commit.specs.declared.asking.Wish.{Wish}
use Rattle.sk_commit.specs.declared.asking.Wish.TheVariants as wish
use Rattle.sk_commit.specs.declared.asking.Got.{Got}
use Rattle.sk_commit.specs.declared.asking.Got.TheVariants as given
use Rattle.sk_commit.specs.Fits.{WishFits}
use Rattle.sk_session.specs.Common.{Common, IsCommon, Answered}
use Rattle.sk_session.specs.Facts.{Facts, FitsFacts, fresh_facts, facts_of, facts_after}
use Rattle.sk_kept.specs.Held.{Trace, trace_after, Within}
use Rattle.sk_kept.specs.Playing.{trace_of, traces_of_session, traces_of_play, Plays}
use Rattle.sk_kept.specs.Freshness.{Later, InOrder, Since, Crosses, Glimpse, listed, Found, OpensSince, FoundIsFresh}
use Rattle.sk_kept.proofs.Changes.{Change}
use Rattle.sk_kept.proofs.Plays.{in_map}
use Rattle.sk_kept.proofs.Glimpses.{glimpse_stays}

-- ---- numbers

later_of : (snapshot drawn next : Option ℕ) (n : ℕ) → AtMost snapshot n → AtMost drawn n → IfSome next (λ a. n ≤ a) → IsLater snapshot drawn next
later_of snapshot drawn None n h k l = tt
later_of snapshot drawn (Some s) n h k l = (upto snapshot h l, upto drawn k l)
  where
    upto : (o : Option ℕ) → AtMost o n → n ≤ s → AtMost o s
    upto None h l = tt
    upto (Some m) h l = let k : m ≤ n = h in omega arith

later : (seen : Counters) (f g : Facts) → Within seen f → Since seen g → Later f g
later seen f g h k = (later_of f.mem f.drew_mem g.mem seen.mem h.mem h.drew_mem k.mem, later_of f.store f.drew_store g.store seen.store h.store h.drew_store k.store)

-- those before, and then one
in_order_push : (seen : Counters) (ts : List Trace) (t : Trace) → InOrder ts → Each (λ (u : Trace). Within seen u.facts) ts → Since seen t.facts → InOrder (ts ++ t ∷ [])
in_order_push seen [] t o w s = (tt, tt)
in_order_push seen (u ∷ us) t o w s = (each_append (λ (v : Trace). Later u.facts v.facts) us (t ∷ []) o.0 (later seen u.facts t.facts w.0 s, tt), in_order_push seen us t o.1 w.1 s)

pub found_in_order : (c : Common) (all : List Trace) (seen : Counters) (ts : List Trace) → Found c all seen ts → InOrder ts
found_in_order c all seen ts h = subst InOrder (sym h.are) (go h.last h.since)
  where
    go : (o : Option Trace) → Each (λ (t : Trace). Since seen t.facts) (listed o) → InOrder (h.front ++ listed o)
    go None k = subst InOrder (sym (append-nil h.front)) h.ordered
    go (Some t) k = in_order_push seen h.front t h.ordered h.within k.0

-- ---- a call

-- the last of a list
pub same_last : {X : Type 0} (xs ys : List X) (x y : X) → xs ++ x ∷ [] ≡ ys ++ y ∷ [] → (xs ≡ ys) × (x ≡ y)
same_last [] [] x y e = let h : x ≡ y = head e in (refl, h)
  where
    head : {X : Type 0} {x y : X} → x ∷ [] ≡ y ∷ [] → x ≡ y
    head e = cc
same_last [] (z ∷ zs) x y e = absurd (none zs y (tail e))
  where
    tail : {X : Type 0} {x z : X} {zs : List X} → x ∷ [] ≡ z ∷ zs → [] ≡ zs
    tail e = cc

    none : {X : Type 0} (zs : List X) (y : X) → [] ≡ zs ++ y ∷ [] → ⊥
    none [] y e = cc
    none (z ∷ zs) y e = cc
same_last (z ∷ zs) [] x y e = absurd (none zs x (tail e))
  where
    tail : {X : Type 0} {z y : X} {zs : List X} → z ∷ zs ≡ y ∷ [] → zs ≡ []
    tail e = cc

    none : {X : Type 0} (zs : List X) (y : X) → zs ++ y ∷ [] ≡ [] → ⊥
    none [] y e = cc
    none (z ∷ zs) y e = cc
same_last (v ∷ xs) (w ∷ ys) x y e = let r : (xs ≡ ys) × (x ≡ y) = same_last xs ys x y (tail e) in (cons (head e) r.0, r.1)
  where
    head : {X : Type 0} {x y : X} {xs ys : List X} → x ∷ xs ≡ y ∷ ys → x ≡ y
    head e = cc

    tail : {X : Type 0} {x y : X} {xs ys : List X} → x ∷ xs ≡ y ∷ ys → xs ≡ ys
    tail e = cc

    cons : v ≡ w → xs ≡ ys → v ∷ xs ≡ w ∷ ys
    cons a b = cc

not_empty : {X : Type 0} (xs : List X) (x : X) → xs ++ x ∷ [] ≡ [] → ⊥
not_empty [] x e = cc
not_empty (y ∷ ys) x e = cc

-- who made the last call is the last of its session
pub last_is : (c : Common) (all : List Trace) (seen : Counters) (front : List Trace) (t : Trace) (h : Found c all seen (front ++ t ∷ [])) → (h.front ≡ front) × (h.last ≡ Some t)
last_is c all seen front t h = go h.last refl
  where
    go : (o : Option Trace) → h.last ≡ o → (h.front ≡ front) × (h.last ≡ Some t)
    go None e = absurd (not_empty front t (h.are ∙ ap (λ l. h.front ++ listed l) e ∙ append-nil h.front ∙ h.first e))
    go (Some l) e =
        let r : (front ≡ h.front) × (t ≡ l) = same_last front h.front t l (h.are ∙ ap (λ x. h.front ++ listed x) e) in
        (sym r.0, e ∙ ap Some (sym r.1))

-- a call that opens opens since then
since_after : (seen : Counters) (f : Facts) (asked : Wish) (got : Got) → OpensSince seen asked → Since seen f → Since seen (facts_after asked got f)
since_after seen f (wish.Mem (call.Open tx n)) (given.Engine answer.Done) o h = record { mem = o; store = h.store }
since_after seen f (wish.Mem (call.Open tx n)) (given.Engine (answer.Found x)) o h = h
since_after seen f (wish.Mem (call.Open tx n)) (given.Engine (answer.Rows x)) o h = h
since_after seen f (wish.Mem (call.Open tx n)) (given.Engine (answer.Number x)) o h = h
since_after seen f (wish.Mem (call.Open tx n)) (given.Engine (answer.Commits x)) o h = h
since_after seen f (wish.Mem (call.Open tx n)) (given.Engine (answer.Fault x)) o h = h
since_after seen f (wish.Mem (call.Open tx n)) (given.Reg q) o h = h
since_after seen f (wish.Mem (call.Get tx t key)) got o h = h
since_after seen f (wish.Mem (call.Scan tx t)) got o h = h
since_after seen f (wish.Mem (call.Put tx t key row)) got o h = h
since_after seen f (wish.Mem (call.Close tx)) got o h = h
since_after seen f (wish.Mem (call.Stamp tx n)) got o h = h
since_after seen f (wish.Mem (call.Void tx n)) got o h = h
since_after seen f (wish.Mem (call.DropTx tx)) got o h = h
since_after seen f (wish.Mem call.Horizon) got o h = h
since_after seen f (wish.Mem (call.Records from to)) got o h = h
since_after seen f (wish.Mem (call.Purge upto)) got o h = h
since_after seen f (wish.Store (call.Open tx n)) (given.Engine answer.Done) o h = record { mem = h.mem; store = o }
since_after seen f (wish.Store (call.Open tx n)) (given.Engine (answer.Found x)) o h = h
since_after seen f (wish.Store (call.Open tx n)) (given.Engine (answer.Rows x)) o h = h
since_after seen f (wish.Store (call.Open tx n)) (given.Engine (answer.Number x)) o h = h
since_after seen f (wish.Store (call.Open tx n)) (given.Engine (answer.Commits x)) o h = h
since_after seen f (wish.Store (call.Open tx n)) (given.Engine (answer.Fault x)) o h = h
since_after seen f (wish.Store (call.Open tx n)) (given.Reg q) o h = h
since_after seen f (wish.Store (call.Get tx t key)) got o h = h
since_after seen f (wish.Store (call.Scan tx t)) got o h = h
since_after seen f (wish.Store (call.Put tx t key row)) got o h = h
since_after seen f (wish.Store (call.Close tx)) got o h = h
since_after seen f (wish.Store (call.Stamp tx n)) got o h = h
since_after seen f (wish.Store (call.Void tx n)) got o h = h
since_after seen f (wish.Store (call.DropTx tx)) got o h = h
since_after seen f (wish.Store call.Horizon) got o h = h
since_after seen f (wish.Store (call.Records from to)) got o h = h
since_after seen f (wish.Store (call.Purge upto)) got o h = h
since_after seen f (wish.Reg reg.Begin) got o h = h
since_after seen f (wish.Reg reg.StoreNow) got o h = h
since_after seen f (wish.Reg (reg.Select a)) (given.Engine q) o h = h
since_after seen f (wish.Reg (reg.Select a)) (given.Reg (told.Number n)) o h = h
since_after seen f (wish.Reg (reg.Select a)) (given.Reg (told.Selected found)) o h = ⊎_elim (λ (t : found.made ≡ true). rw t (record { mem = h.mem; store = h.store })) (λ (t : found.made ≡ false). rw t h) (cases_Bool found.made)
since_after seen f (wish.Reg (reg.Select a)) (given.Reg (told.Recycled e)) o h = h
since_after seen f (wish.Reg (reg.Select a)) (given.Reg (told.NotDrawn d)) o h = h
since_after seen f (wish.Reg (reg.Select a)) (given.Reg told.Done) o h = h
since_after seen f (wish.Reg (reg.Select a)) (given.Reg (told.Passed p)) o h = h
since_after seen f (wish.Reg (reg.Select a)) (given.Reg told.NoMemory) o h = h
since_after seen f (wish.Reg (reg.DrawMem floor)) (given.Engine q) o h = h
since_after seen f (wish.Reg (reg.DrawMem floor)) (given.Reg (told.Number n)) o h = record { mem = h.mem; store = h.store }
since_after seen f (wish.Reg (reg.DrawMem floor)) (given.Reg (told.Selected found)) o h = h
since_after seen f (wish.Reg (reg.DrawMem floor)) (given.Reg (told.Recycled e)) o h = h
since_after seen f (wish.Reg (reg.DrawMem floor)) (given.Reg (told.NotDrawn d)) o h = h
since_after seen f (wish.Reg (reg.DrawMem floor)) (given.Reg told.Done) o h = h
since_after seen f (wish.Reg (reg.DrawMem floor)) (given.Reg (told.Passed p)) o h = h
since_after seen f (wish.Reg (reg.DrawMem floor)) (given.Reg told.NoMemory) o h = h
since_after seen f (wish.Reg (reg.DrawStore floor)) (given.Engine q) o h = h
since_after seen f (wish.Reg (reg.DrawStore floor)) (given.Reg (told.Number n)) o h = record { mem = h.mem; store = h.store }
since_after seen f (wish.Reg (reg.DrawStore floor)) (given.Reg (told.Selected found)) o h = h
since_after seen f (wish.Reg (reg.DrawStore floor)) (given.Reg (told.Recycled e)) o h = h
since_after seen f (wish.Reg (reg.DrawStore floor)) (given.Reg (told.NotDrawn d)) o h = h
since_after seen f (wish.Reg (reg.DrawStore floor)) (given.Reg told.Done) o h = h
since_after seen f (wish.Reg (reg.DrawStore floor)) (given.Reg (told.Passed p)) o h = h
since_after seen f (wish.Reg (reg.DrawStore floor)) (given.Reg told.NoMemory) o h = h
since_after seen f (wish.Reg (reg.Check ca cb)) (given.Engine q) o h = h
since_after seen f (wish.Reg (reg.Check ca cb)) (given.Reg (told.Number n)) o h = h
since_after seen f (wish.Reg (reg.Check ca cb)) (given.Reg (told.Selected found)) o h = h
since_after seen f (wish.Reg (reg.Check ca cb)) (given.Reg (told.Recycled e)) o h = h
since_after seen f (wish.Reg (reg.Check ca cb)) (given.Reg (told.NotDrawn d)) o h = h
since_after seen f (wish.Reg (reg.Check ca cb)) (given.Reg told.Done) o h = record { mem = h.mem; store = h.store }
since_after seen f (wish.Reg (reg.Check ca cb)) (given.Reg (told.Passed p)) o h = h
since_after seen f (wish.Reg (reg.Check ca cb)) (given.Reg told.NoMemory) o h = h

module _ (c d : Common) (pre : List Trace) (t : Trace) (post : List Trace) (asked : Wish) (got : Got) (asks : FitsFacts t.facts asked) (fits : WishFits asked got) (answered : Answered c asked got d)
    (ch : Change c.regs d.regs t.facts (facts_after asked got t.facts)) where
  -- the other sessions have found the same
  pub found_other : (seen : Counters) (ts : List Trace) → Found c (pre ++ t ∷ post) seen ts → Found d (pre ++ trace_after asked got t ∷ post) seen ts
  found_other seen ts h = record {
    glimpse = glimpse_stays c d pre t post asked got seen asks fits answered ch h.glimpse;
    front = h.front;
    last = h.last;
    are = h.are;
    first = h.first;
    ordered = h.ordered;
    within = h.within;
    since = h.since;
  }

  -- and so has the transaction's own session
  pub found_own : (seen : Counters) (front : List Trace) → Found c (pre ++ t ∷ post) seen (front ++ t ∷ []) → OpensSince seen asked → Found d (pre ++ trace_after asked got t ∷ post) seen (front ++ trace_after asked got t ∷ [])
  found_own seen front h opens =
      let is : (h.front ≡ front) × (h.last ≡ Some t) = last_is c (pre ++ t ∷ post) seen front t h in
      let since : Since seen t.facts = (subst (λ o. Each (λ (u : Trace). Since seen u.facts) (listed o)) is.1 h.since).0 in
      record {
        glimpse = glimpse_stays c d pre t post asked got seen asks fits answered ch h.glimpse;
        front = front;
        last = Some (trace_after asked got t);
        are = refl;
        first = λ e. absurd (clash e);
        ordered = subst InOrder is.0 h.ordered;
        within = subst (Each (λ (u : Trace). Within seen u.facts)) is.0 h.within;
        since = (since_after seen t.facts asked got opens since, tt);
      }
    where
      clash : {X : Type 0} {x : X} → Some x ≡ None → ⊥
      clash e = cc

-- ---- a transaction begins

-- one that has made no call
pub record IsNew (t : Trace) : Type 0 where
  pub mem : t.facts.mem ≡ None
  pub store : t.facts.store ≡ None
  pub drew_mem : t.facts.drew_mem ≡ None

-- nobody that is within the counters crosses them
within_crosses : (seen : Counters) (f : Facts) → Within seen f → Crosses seen f
within_crosses seen f w ca cb a b past = let l : ca ≤ seen.mem = subst (λ o. AtMost o seen.mem) a w.drew_mem in absurd (omega arith)

new_crosses : (seen : Counters) (t : Trace) → IsNew t → Crosses seen t.facts
new_crosses seen t new ca cb a b past = absurd (clash (sym new.drew_mem ∙ a))
  where
    clash : None ≡ Some ca → ⊥
    clash e = cc

pub glimpse_begins : (c : Common) (pre : List Trace) (t : Trace) (post : List Trace) (seen : Counters) → IsNew t → Glimpse c (pre ++ post) seen → Glimpse c (pre ++ t ∷ post) seen
glimpse_begins c pre t post seen new h = record {
  mem = h.mem;
  store = h.store;
  ahead = h.ahead;
  crosses = each_append (λ (u : Trace). Crosses seen u.facts) pre (t ∷ post) (each_front (λ (u : Trace). Crosses seen u.facts) pre post h.crosses) (new_crosses seen t new, each_end (λ (u : Trace). Crosses seen u.facts) pre post h.crosses);
}

-- the other sessions have found the same
pub found_beside : (c : Common) (pre : List Trace) (t : Trace) (post : List Trace) (seen : Counters) (ts : List Trace) → IsNew t → Found c (pre ++ post) seen ts → Found c (pre ++ t ∷ post) seen ts
found_beside c pre t post seen ts new h = record {
  glimpse = glimpse_begins c pre t post seen new h.glimpse;
  front = h.front;
  last = h.last;
  are = h.are;
  first = h.first;
  ordered = h.ordered;
  within = h.within;
  since = h.since;
}

-- its own session finds both counters as they are
pub found_begins : (c : Common) (pre : List Trace) (t : Trace) (post ts : List Trace) → IsCommon c → IsNew t → Each (λ (u : Trace). Within (counters_of c.regs) u.facts) (pre ++ post) → Each (λ (u : Trace). Within (counters_of c.regs) u.facts) ts
    → InOrder ts → Found c (pre ++ t ∷ post) (counters_of c.regs) (ts ++ t ∷ [])
found_begins c pre t post ts common new all own ordered = record {
  glimpse = glimpse_begins c pre t post (counters_of c.regs) new (record {
    mem = omega arith;
    store = omega arith;
    ahead = at_first c.regs common.sound;
    crosses = each_weaker (λ (u : Trace). Within (counters_of c.regs) u.facts) (λ (u : Trace). Crosses (counters_of c.regs) u.facts) (λ u w. within_crosses (counters_of c.regs) u.facts w) (pre ++ post) all;
  });
  front = ts;
  last = Some t;
  are = refl;
  first = λ e. absurd (clash e);
  ordered = ordered;
  within = own;
  since = (record { mem = subst (λ o. IfSome o (λ a. c.regs.mem ≤ a)) (sym new.mem) tt; store = subst (λ o. IfSome o (λ b. c.regs.store ≤ b)) (sym new.store) tt }, tt);
}
  where
    clash : {X : Type 0} {x : X} → Some x ≡ None → ⊥
    clash e = cc

-- ---- no session goes back

follows_in : (n k : ℕ) (accounts : List Account) → Counted n k (map transaction_in accounts) → InOrder (map trace_of accounts) → (a b : Account) → In a accounts → In b accounts → a.kept.label.k < b.kept.label.k
    → Later (facts_of a.kept) (facts_of b.kept)
follows_in n k [] counted o a b i j l = absurd i
follows_in n k (x ∷ xs) counted o a b i j l = ⊎_elim
    (λ (e : a ≡ x). ⊎_elim
    (λ (f : b ≡ x). absurd (same (ap (λ (z : Account). z.kept.label.k) (e ∙ sym f))))
    (λ (m : In b xs). subst (λ (z : Account). Later (facts_of z.kept) (facts_of b.kept)) (sym e) (each_in (λ (y : Account). Later (facts_of x.kept) (facts_of y.kept)) xs b (each_of xs o.0) m))
    j)
    (λ (m : In a xs). ⊎_elim
    (λ (f : b ≡ x). absurd (before (ap (λ (z : Account). z.kept.label.k) f ∙ ap (λ (z : Label). z.k) counted.0) (past a m)))
    (λ (r : In b xs). follows_in n (k + 1) xs counted.1 o.1 a b m r l)
    j)
    i
  where
    same : a.kept.label.k ≡ b.kept.label.k → ⊥
    same e = omega arith

    before : b.kept.label.k ≡ k → k + 1 ≤ a.kept.label.k → ⊥
    before e m = omega arith

    each_of : (ys : List Account) → Each (λ (u : Trace). Later (facts_of x.kept) u.facts) (map trace_of ys) → Each (λ (y : Account). Later (facts_of x.kept) (facts_of y.kept)) ys
    each_of [] h = tt
    each_of (y ∷ ys) h = (h.0, each_of ys h.1)

    ks : (ys : List Account) → Each (λ (t : Transaction). (t.label.session ≡ n) × (k + 1 ≤ t.label.k)) (map transaction_in ys) → Each (λ (y : Account). k + 1 ≤ y.kept.label.k) ys
    ks [] h = tt
    ks (y ∷ ys) h = (h.0.1, ks ys h.1)

    past : (y : Account) → In y xs → k + 1 ≤ y.kept.label.k
    past y i = each_in (λ (z : Account). k + 1 ≤ z.kept.label.k) xs y (ks xs (counted_each n (k + 1) (map transaction_in xs) counted.1)) i

-- sessions of one number are one
same_session : (journals : EngineName → List Entry) (ss : List Session) → Apart (map (share_in journals) ss) → (x y : Session) → In x ss → In y ss → x.number ≡ y.number → x ≡ y
same_session journals [] a x y i k e = absurd i
same_session journals (s ∷ ss) a x y i k e = ⊎_elim
    (λ (q : x ≡ s). ⊎_elim
    (λ (r : y ≡ s). q ∙ sym r)
    (λ (m : In y ss). absurd (differ y m (ap (λ (z : Session). z.number) (sym q) ∙ e)))
    k)
    (λ (n : In x ss). ⊎_elim
    (λ (r : y ≡ s). absurd (differ x n (ap (λ (z : Session). z.number) (sym r) ∙ sym e)))
    (λ (m : In y ss). same_session journals ss a.1 x y n m e)
    k)
    i
  where
    apart : (zs : List Session) → Each (λ (r : Share). (s.number == r.session) ≡ false) (map (share_in journals) zs) → Each (λ (z : Session). (s.number == z.number) ≡ false) zs
    apart [] h = tt
    apart (z ∷ zs) h = (h.0, apart zs h.1)

    differ : (z : Session) → In z ss → s.number ≡ z.number → ⊥
    differ z i e = false≢true (sym (each_in (λ (z : Session). (s.number == z.number) ≡ false) ss z (apart ss a.0) i) ∙ eq-eqb s.number z.number e)

-- the account of a record
record Recorded (p : Play) (r : Record) : Type 0 where
  session : Session
  among : In session p.sessions
  account : Account
  here : In account session.accounts
  is : r ≡ account.kept
  number : r.label.session ≡ session.number

recorded : (p : Play) (c : Common) → Plays p c → (r : Record) → In r (records_in p) → Recorded p r
recorded p c h r i =
    let f : InFlat (λ (s : Session). map (λ (a : Account). a.kept) s.accounts) p.sessions r = flat_in (λ (s : Session). map (λ (a : Account). a.kept) s.accounts) p.sessions r i in
    find f.from f.among f.from.accounts (λ a k. k) (each_in (λ (s : Session). Counted s.number 1 (transactions_in s)) p.sessions f.from h.labels f.among) f.here
  where
    find : (s : Session) → In s p.sessions → (accounts : List Account) → ((a : Account) → In a accounts → In a s.accounts) → Counted s.number 1 (transactions_in s) → In r (map (λ (a : Account). a.kept) accounts) → Recorded p r
    find s m [] up counted i = absurd i
    find s m (a ∷ rest) up counted i = ⊎_elim
        (λ (e : r ≡ a.kept).
        let here : In a s.accounts = up a (inl refl) in
        record {
          session = s;
          among = m;
          account = a;
          here = here;
          is = e;
          number = ap (λ (x : Record). x.label.session) e ∙ (each_in (λ (t : Transaction). (t.label.session ≡ s.number) × (1 ≤ t.label.k)) (transactions_in s) (transaction_in a) (counted_each s.number 1 (transactions_in s) counted) (in_map transaction_in s.accounts a here)).0;
        })
        (λ (k : In r (map (λ (x : Account). x.kept) rest)). find s m rest (λ x j. up x (inr j)) counted k)
        i

pub found_fresh : FoundIsFresh
found_fresh p c h found = in_each (λ (r : Record). Each (Follows r) (records_in p)) (records_in p) (λ r i. in_each (Follows r) (records_in p) (λ s k. follows r s (recorded p c h r i) (recorded p c h s k)))
  where
    follows : (r s : Record) → Recorded p r → Recorded p s → Follows r s
    follows r s a b same before =
        let one : b.session ≡ a.session = same_session p.journals p.sessions h.apart b.session a.session b.among a.among (sym b.number ∙ sym same ∙ a.number) in
        let here : In b.account a.session.accounts = subst (λ (x : Session). In b.account x.accounts) one b.here in
        let ordered : InOrder (traces_of_session a.session) = (let w : (seen : Counters) × Found c (traces_of_play p) seen (traces_of_session a.session) = each_in (λ (x : Session). (seen : Counters) × Found c (traces_of_play p) seen (traces_of_session x)) p.sessions a.session found a.among in found_in_order c (traces_of_play p) w.0 (traces_of_session a.session) w.1) in
        let counted : Counted a.session.number 1 (transactions_in a.session) = each_in (λ (x : Session). Counted x.number 1 (transactions_in x)) p.sessions a.session h.labels a.among in
        let l : a.account.kept.label.k < b.account.kept.label.k = subst (λ (x : Record). x.label.k < b.account.kept.label.k) a.is (subst (λ (x : Record). r.label.k < x.label.k) b.is before) in
        let both : Later (facts_of a.account.kept) (facts_of b.account.kept) = follows_in a.session.number 1 a.session.accounts counted ordered a.account b.account a.here here l in
        subst (λ (x : Record). Later (facts_of x) (facts_of s)) (sym a.is) (subst (λ (x : Record). Later (facts_of a.account.kept) (facts_of x)) (sym b.is) both)
