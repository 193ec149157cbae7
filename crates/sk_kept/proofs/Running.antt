-- What a session makes of an answer, or of a statement, keeps what holds of all sessions.
use Rattle.std.specs.Prelude.{◌≡◌, ℕ, ◌<◌, ◌≤◌, ◌+◌, List, [], ◌∷◌, ◌++◌, Option, Some, None, Result, Ok, Err, Bool, true, false, ◌⊎◌, ◌==◌, IfSome, nat_lt, length, map, max}
use Rattle.std.proofs.Common.{refl, sym, ap, subst, ◌∙◌, inl, inr, ⊎_elim, arith}
use Rattle.std.specs.List.{flat_map}
use Rattle.std.proofs.lemmas.Bool.{cases_Bool, cases_lt, lt-ltb, le-ltb, false≢true}
use Rattle.std.proofs.lemmas.List.{append-nil}
use Rattle.sk_model.specs.declared.label.Label.{Label}
use Rattle.sk_model.specs.declared.engine.EngineName.{EngineName}
use Rattle.sk_model.specs.declared.engine.EngineName.TheVariants.{Mem, Store}
use Rattle.sk_model.specs.declared.point.Point.{Point}
use Rattle.sk_model.specs.declared.point.Recycled.{Recycled}
use Rattle.sk_model.specs.declared.record.TxKind.{TxKind}
use Rattle.sk_model.specs.declared.call.EngineCall.{EngineCall}
use Rattle.sk_model.specs.declared.call.EngineCall.TheVariants as call
use Rattle.sk_model.specs.declared.call.Entry.{Entry}
use Rattle.sk_model.specs.Records.{AtMost, same_label}
use Rattle.sk_model.specs.Talks.{Talk, calls_in, tx_of, is_tx, is_by, entries_by}
use Rattle.sk_model.proofs.Labels.{same_itself}
use Rattle.sk_model.proofs.Lists.{Each, each_append, each_front, each_end, each_weaker}
use Rattle.sk_weave.specs.declared.answer.Selected.{Selected}
use Rattle.sk_weave.specs.Points.{selection, Climbs, Staircase, before_b, last_from, first_past, chosen, pick, Pair}
use Rattle.sk_weave.specs.Registry.{Regs, IsSound, last_of, oldest_of, after_all, selected, selection_steps, after_selection}
use Rattle.sk_weave.specs.AheadLaws.{Counters, counters_of, AreAhead}
use Rattle.sk_linked.specs.Reads.{PairIf}
use Rattle.sk_weave.proofs.Registers.{selected_pair, ok_is}
use Rattle.sk_weave.proofs.Aheads.{fresh}
use Rattle.sk_linked.specs.Traces.{In}
use Rattle.sk_linked.proofs.Members.{each_in, in_each}
use Rattle.sk_commit.specs.declared.asking.RegistryCall.{RegistryCall}
use Rattle.sk_commit.specs.declared.asking.RegistryCall.TheVariants as reg
use Rattle.sk_commit.specs.declared.asking.RegistryReply.TheVariants as told
use Rattle.sk_commit.specs.declared.asking.Wish.{Wish}
use Rattle.sk_commit.specs.declared.asking.Wish.TheVariants as wish
use Rattle.sk_commit.specs.declared.asking.Got.{Got}
use Rattle.sk_commit.specs.declared.asking.Got.TheVariants as given
use Rattle.sk_commit.specs.Fits.{own_call}
use Rattle.sk_session.specs.Common.{Common, RegsAnswer, Answered}
use Rattle.sk_session.specs.Facts.{Facts, FitsFacts, fresh_facts, facts_after}
use Rattle.sk_kept.specs.Held.{Trace, trace_after, drawn_of, Within, IsHeld, Alone, Made, Drew, Maker, Caller, Held, MayOpen}
use Rattle.sk_kept.specs.Freshness.{InOrder, Since, Glimpse, listed, Found, OpensSince}
use Rattle.sk_kept.specs.Running.{Member, traces_of, traces_in, all_traces, Numbered, Differ, MayAsk, AsksSince, IsMember, IsRunning, OpensNext, AsksNext, Takes, OpensNothing, AsksOn, Begins, TakesKeep, AsksKeep}
use Rattle.sk_kept.proofs.Middles.{in_middle, middle_other, each_others, each_focus, each_middle}
use Rattle.sk_kept.proofs.Changes.{Change, change, pair_grows, at_most_more, picked, store_after_append}
use Rattle.sk_kept.proofs.Steps.{ch, step_held}
use Rattle.sk_kept.proofs.Beginning.{held_begins}
use Rattle.sk_kept.proofs.Founds.{same_last, last_is, found_in_order, found_other, found_own, IsNew, found_beside, found_begins}
use Rattle.sk_kept.proofs.Numbering.{LastOf, last_of as last_in, numbered_push, traces_push, same_numbers, middle_of, place_of, label_apart}

-- ---- what is selected is not past the counter

-- no number of the storage engine is past the last point's
upto_last : (p : Point) (qs : List Point) → Climbs p qs → Each (λ (x : Point). x.b ≤ (last_from p qs).b) (p ∷ qs)
upto_last p [] h = (omega arith, tt)
upto_last p (q ∷ qs) h =
    let ih : Each (λ (x : Point). x.b ≤ (last_from q qs).b) (q ∷ qs) = upto_last q qs h.1 in
    let l : q.b ≤ (last_from q qs).b = ih.0 in
    let m : p.b ≤ q.b = h.0.b_stays in
    (omega arith, ih)

first_past_upto : (points : List Point) (a n : ℕ) (q : Point) → Each (λ (x : Point). x.b ≤ n) points → first_past a points ≡ Some q → q.b ≤ n
first_past_upto [] a n q h e = absurd (clash e)
  where
    clash : None ≡ Some q → ⊥
    clash e = cc
first_past_upto (p ∷ ps) a n q h e = ⊎_elim
    (λ (l : a < p.a). let same : p ≡ q = is (rw (lt-ltb a p.a l) at e) in subst (λ (x : Point). x.b ≤ n) same h.0)
    (λ (l : p.a ≤ a). first_past_upto ps a n q h.1 (rw (le-ltb a p.a l) at e))
    (cases_lt a p.a)
  where
    is : Some p ≡ Some q → p ≡ q
    is e = cc

before_upto : (q : Point) → before_b q ≤ q.b
before_upto q = ⊎_elim (λ (t : q.commit ≡ true). rw t (omega arith)) (λ (f : q.commit ≡ false). rw f (omega arith)) (cases_Bool q.commit)

pick_upto : (points : List Point) (a now : ℕ) → Staircase points → (last_of points).b ≤ now → (pick points a now).b ≤ now
pick_upto [] a now s l = omega arith
pick_upto (p ∷ qs) a now s l = go (first_past a (p ∷ qs)) refl
  where
    go : (o : Option Point) → first_past a (p ∷ qs) ≡ o → (chosen o (last_from p qs) a now).b ≤ now
    go None e = omega arith
    go (Some q) e =
        let m : q.b ≤ (last_from p qs).b = first_past_upto (p ∷ qs) a (last_from p qs).b q (upto_last p qs s.1) e in
        let n : before_b q ≤ q.b = before_upto q in
        omega arith

selected_upto : (r : Regs) (a : ℕ) (s : Selected) → IsSound r → selected r a r.store ≡ Ok s → s.b ≤ r.store
selected_upto r a s sound e = subst (λ (x : Selected). x.b ≤ r.store) (picked r a r.store s e) (pick_upto r.points a r.store sound.stairs sound.b_drawn)

-- ---- what may be asked stays so

may_open_more : (r s : Regs) (f : Facts) (asked : Wish) → (more : List Point) → s.points ≡ r.points ++ more → r.mem ≤ s.mem → r.store ≤ s.store → MayOpen r f asked → MayOpen s f asked
may_open_more r s f (wish.Mem (call.Open tx n)) more e l m h = let k : n ≤ r.mem = h.0 in (omega arith, h.1)
may_open_more r s f (wish.Mem (call.Get tx t key)) more e l m h = tt
may_open_more r s f (wish.Mem (call.Scan tx t)) more e l m h = tt
may_open_more r s f (wish.Mem (call.Put tx t key row)) more e l m h = tt
may_open_more r s f (wish.Mem (call.Close tx)) more e l m h = tt
may_open_more r s f (wish.Mem (call.Stamp tx n)) more e l m h = tt
may_open_more r s f (wish.Mem (call.Void tx n)) more e l m h = tt
may_open_more r s f (wish.Mem (call.DropTx tx)) more e l m h = tt
may_open_more r s f (wish.Mem call.Horizon) more e l m h = tt
may_open_more r s f (wish.Mem (call.Records from to)) more e l m h = tt
may_open_more r s f (wish.Mem (call.Purge upto)) more e l m h = tt
may_open_more r s f (wish.Store (call.Open tx n)) more e l m h = let k : n ≤ r.store = h.0 in (omega arith, subst (λ ps. PairIf ps f.mem (Some n)) (sym e) (pair_grows r.points more f.mem (Some n) h.1))
may_open_more r s f (wish.Store (call.Get tx t key)) more e l m h = tt
may_open_more r s f (wish.Store (call.Scan tx t)) more e l m h = tt
may_open_more r s f (wish.Store (call.Put tx t key row)) more e l m h = tt
may_open_more r s f (wish.Store (call.Close tx)) more e l m h = tt
may_open_more r s f (wish.Store (call.Stamp tx n)) more e l m h = tt
may_open_more r s f (wish.Store (call.Void tx n)) more e l m h = tt
may_open_more r s f (wish.Store (call.DropTx tx)) more e l m h = tt
may_open_more r s f (wish.Store call.Horizon) more e l m h = tt
may_open_more r s f (wish.Store (call.Records from to)) more e l m h = tt
may_open_more r s f (wish.Store (call.Purge upto)) more e l m h = tt
may_open_more r s f (wish.Reg asked) more e l m h = tt

pub may_ask_more : (c d : Common) (f : Facts) (o : Option Wish) → (more : List Point) → d.regs.points ≡ c.regs.points ++ more → c.regs.mem ≤ d.regs.mem → c.regs.store ≤ d.regs.store → MayAsk c f o → MayAsk d f o
may_ask_more c d f None more e l m h = tt
may_ask_more c d f (Some asked) more e l m h = (may_open_more c.regs d.regs f asked more e l m h.0, h.1)

-- ---- an answer

-- the number that was answered is the counter, and nothing has changed
counted : (c d : Common) (n : ℕ) → RegsAnswer c.regs (wish.Reg reg.Begin) (given.Reg (told.Number n)) d.regs → (n ≡ d.regs.mem) × (d.regs ≡ c.regs)
counted c d n h = (h.0 ∙ ap (λ (r : Regs). r.mem) (sym h.1), h.1)

counted_store : (c d : Common) (n : ℕ) → RegsAnswer c.regs (wish.Reg reg.StoreNow) (given.Reg (told.Number n)) d.regs → (n ≡ d.regs.store) × (d.regs ≡ c.regs)
counted_store c d n h = (h.0 ∙ ap (λ (r : Regs). r.store) (sym h.1), h.1)

store_after_selection : (r : Regs) (a : ℕ) (s : Selected) → selected r a r.store ≡ Ok s → (after_selection r a r.store).store ≡ r.store
store_after_selection r a s e =
    ap (λ (x : Result Selected Recycled). (after_all r (selection_steps r a x)).store) e
    ∙ ⊎_elim (λ (t : s.made ≡ true). rw t (store_after_append r (selection a s.b))) (λ (f : s.made ≡ false). rw f refl) (cases_Bool s.made)

-- an opening that is asked for next may be asked, and is not before what was seen
record Next (c d : Common) (seen : Counters) (f : Facts) (o : Option Wish) : Type 0 where
  since : AsksSince seen o
  may : MayAsk d f o

next_mem : (c d : Common) (seen : Counters) (f : Facts) (asked : Wish) (got : Got) (tx : Label) (n : ℕ) → RegsAnswer c.regs asked got d.regs → seen.mem ≤ c.regs.mem → FitsFacts f (wish.Mem (call.Open tx n)) → OpensNext asked got f (Some (wish.Mem (call.Open tx n)))
    → Next c d seen f (Some (wish.Mem (call.Open tx n)))
next_mem c d seen f asked got tx n answer seen_mem asks h =
    let a : RegsAnswer c.regs (wish.Reg reg.Begin) (given.Reg (told.Number n)) d.regs = subst (λ w. RegsAnswer c.regs w (given.Reg (told.Number n)) d.regs) h.0 (subst (λ g. RegsAnswer c.regs asked g d.regs) h.1 answer) in
    let is : (n ≡ d.regs.mem) × (d.regs ≡ c.regs) = counted c d n a in
    let same : d.regs.mem ≡ c.regs.mem = ap (λ (r : Regs). r.mem) is.1 in
    let at : n ≡ d.regs.mem = is.0 in
    record { since = omega arith; may = ((omega arith, h.2), asks) }

next_store : (c d : Common) (seen : Counters) (f : Facts) (asked : Wish) (got : Got) (tx : Label) (n : ℕ) → IsSound c.regs → AreAhead seen c.regs.points → RegsAnswer c.regs asked got d.regs → seen.store ≤ c.regs.store → IfSome f.mem (λ a. seen.mem ≤ a)
    → FitsFacts f (wish.Store (call.Open tx n)) → OpensNext asked got f (Some (wish.Store (call.Open tx n))) → Next c d seen f (Some (wish.Store (call.Open tx n)))
next_store c d seen f asked got tx n sound ahead answer seen_store since asks h = ⊎_elim
    (λ (k : (asked ≡ wish.Reg reg.StoreNow) × (got ≡ given.Reg (told.Number n)) × (f.mem ≡ None)).
    let a : RegsAnswer c.regs (wish.Reg reg.StoreNow) (given.Reg (told.Number n)) d.regs = subst (λ w. RegsAnswer c.regs w (given.Reg (told.Number n)) d.regs) k.0 (subst (λ g. RegsAnswer c.regs asked g d.regs) k.1 answer) in
    let is : (n ≡ d.regs.store) × (d.regs ≡ c.regs) = counted_store c d n a in
    let same : d.regs.store ≡ c.regs.store = ap (λ (r : Regs). r.store) is.1 in
    let at : n ≡ d.regs.store = is.0 in
    record { since = omega arith; may = ((omega arith, subst (λ o. PairIf d.regs.points o (Some n)) (sym k.2) tt), asks) })
    (λ (k : (a : ℕ) × (s : Selected) × (asked ≡ wish.Reg (reg.Select a)) × (got ≡ given.Reg (told.Selected s)) × (n ≡ s.b) × (f.mem ≡ Some a)).
    selects k.0 k.1 k.4 k.5 (subst (λ w. RegsAnswer c.regs w (given.Reg (told.Selected k.1)) d.regs) k.2 (subst (λ g. RegsAnswer c.regs asked g d.regs) k.3 answer)))
    h
  where
    selects : (a : ℕ) (s : Selected) → n ≡ s.b → f.mem ≡ Some a → RegsAnswer c.regs (wish.Reg (reg.Select a)) (given.Reg (told.Selected s)) d.regs → Next c d seen f (Some (wish.Store (call.Open tx n)))
    selects a s is mem r =
        let pair : Pair (after_selection c.regs a c.regs.store).points a s.b = selected_pair c.regs a c.regs.store s sound r.1 in
        let upto : s.b ≤ c.regs.store = selected_upto c.regs a s sound r.1 in
        let seen_mem : seen.mem ≤ a = subst (λ o. IfSome o (λ a. seen.mem ≤ a)) mem since in
        let past : seen.store ≤ s.b = fresh seen c.regs a c.regs.store s ahead seen_mem seen_store r.1 in
        let store : d.regs.store ≡ c.regs.store = ap (λ (x : Regs). x.store) r.2 ∙ store_after_selection c.regs a s r.1 in
        record {
          since = omega arith;
          may = ((omega arith, subst (λ o. PairIf d.regs.points o (Some n)) (sym mem) (subst (λ m. Pair d.regs.points a m) (sym is) (subst (λ (x : Regs). Pair x.points a s.b) (sym r.2) pair))), asks);
        }

next_asked : (c d : Common) (seen : Counters) (f : Facts) (asked : Wish) (got : Got) (o : Option Wish) → IsSound c.regs → AreAhead seen c.regs.points → RegsAnswer c.regs asked got d.regs → seen.mem ≤ c.regs.mem → seen.store ≤ c.regs.store
    → IfSome f.mem (λ a. seen.mem ≤ a) → OpensNext asked got f o → AsksNext f o → Next c d seen f o
next_asked c d seen f asked got None sound ahead answer l m since opens asks = record { since = tt; may = tt }
next_asked c d seen f asked got (Some (wish.Mem (call.Open tx n))) sound ahead answer l m since opens asks = next_mem c d seen f asked got tx n answer l asks opens
next_asked c d seen f asked got (Some (wish.Store (call.Open tx n))) sound ahead answer l m since opens asks = next_store c d seen f asked got tx n sound ahead answer m since asks opens
next_asked c d seen f asked got (Some (wish.Mem (call.Get tx t key))) sound ahead answer l m since opens asks = record { since = tt; may = (tt, asks) }
next_asked c d seen f asked got (Some (wish.Mem (call.Scan tx t))) sound ahead answer l m since opens asks = record { since = tt; may = (tt, asks) }
next_asked c d seen f asked got (Some (wish.Mem (call.Put tx t key row))) sound ahead answer l m since opens asks = record { since = tt; may = (tt, asks) }
next_asked c d seen f asked got (Some (wish.Mem (call.Close tx))) sound ahead answer l m since opens asks = record { since = tt; may = (tt, asks) }
next_asked c d seen f asked got (Some (wish.Mem (call.Stamp tx n))) sound ahead answer l m since opens asks = record { since = tt; may = (tt, asks) }
next_asked c d seen f asked got (Some (wish.Mem (call.Void tx n))) sound ahead answer l m since opens asks = record { since = tt; may = (tt, asks) }
next_asked c d seen f asked got (Some (wish.Mem (call.DropTx tx))) sound ahead answer l m since opens asks = record { since = tt; may = (tt, asks) }
next_asked c d seen f asked got (Some (wish.Mem call.Horizon)) sound ahead answer l m since opens asks = record { since = tt; may = (tt, asks) }
next_asked c d seen f asked got (Some (wish.Mem (call.Records from to))) sound ahead answer l m since opens asks = record { since = tt; may = (tt, asks) }
next_asked c d seen f asked got (Some (wish.Mem (call.Purge upto))) sound ahead answer l m since opens asks = record { since = tt; may = (tt, asks) }
next_asked c d seen f asked got (Some (wish.Store (call.Get tx t key))) sound ahead answer l m since opens asks = record { since = tt; may = (tt, asks) }
next_asked c d seen f asked got (Some (wish.Store (call.Scan tx t))) sound ahead answer l m since opens asks = record { since = tt; may = (tt, asks) }
next_asked c d seen f asked got (Some (wish.Store (call.Put tx t key row))) sound ahead answer l m since opens asks = record { since = tt; may = (tt, asks) }
next_asked c d seen f asked got (Some (wish.Store (call.Close tx))) sound ahead answer l m since opens asks = record { since = tt; may = (tt, asks) }
next_asked c d seen f asked got (Some (wish.Store (call.Stamp tx n))) sound ahead answer l m since opens asks = record { since = tt; may = (tt, asks) }
next_asked c d seen f asked got (Some (wish.Store (call.Void tx n))) sound ahead answer l m since opens asks = record { since = tt; may = (tt, asks) }
next_asked c d seen f asked got (Some (wish.Store (call.DropTx tx))) sound ahead answer l m since opens asks = record { since = tt; may = (tt, asks) }
next_asked c d seen f asked got (Some (wish.Store call.Horizon)) sound ahead answer l m since opens asks = record { since = tt; may = (tt, asks) }
next_asked c d seen f asked got (Some (wish.Store (call.Records from to))) sound ahead answer l m since opens asks = record { since = tt; may = (tt, asks) }
next_asked c d seen f asked got (Some (wish.Store (call.Purge upto))) sound ahead answer l m since opens asks = record { since = tt; may = (tt, asks) }
next_asked c d seen f asked got (Some (wish.Reg w)) sound ahead answer l m since opens asks = record { since = tt; may = (tt, asks) }

-- nothing is opened by a statement alone
still_asked : (c : Common) (seen : Counters) (f : Facts) (o : Option Wish) → OpensNothing o → AsksNext f o → Next c c seen f o
still_asked c seen f None opens asks = record { since = tt; may = tt }
still_asked c seen f (Some (wish.Mem (call.Open tx n))) opens asks = absurd opens
still_asked c seen f (Some (wish.Store (call.Open tx n))) opens asks = absurd opens
still_asked c seen f (Some (wish.Mem (call.Get tx t key))) opens asks = record { since = tt; may = (tt, asks) }
still_asked c seen f (Some (wish.Mem (call.Scan tx t))) opens asks = record { since = tt; may = (tt, asks) }
still_asked c seen f (Some (wish.Mem (call.Put tx t key row))) opens asks = record { since = tt; may = (tt, asks) }
still_asked c seen f (Some (wish.Mem (call.Close tx))) opens asks = record { since = tt; may = (tt, asks) }
still_asked c seen f (Some (wish.Mem (call.Stamp tx n))) opens asks = record { since = tt; may = (tt, asks) }
still_asked c seen f (Some (wish.Mem (call.Void tx n))) opens asks = record { since = tt; may = (tt, asks) }
still_asked c seen f (Some (wish.Mem (call.DropTx tx))) opens asks = record { since = tt; may = (tt, asks) }
still_asked c seen f (Some (wish.Mem call.Horizon)) opens asks = record { since = tt; may = (tt, asks) }
still_asked c seen f (Some (wish.Mem (call.Records from to))) opens asks = record { since = tt; may = (tt, asks) }
still_asked c seen f (Some (wish.Mem (call.Purge upto))) opens asks = record { since = tt; may = (tt, asks) }
still_asked c seen f (Some (wish.Store (call.Get tx t key))) opens asks = record { since = tt; may = (tt, asks) }
still_asked c seen f (Some (wish.Store (call.Scan tx t))) opens asks = record { since = tt; may = (tt, asks) }
still_asked c seen f (Some (wish.Store (call.Put tx t key row))) opens asks = record { since = tt; may = (tt, asks) }
still_asked c seen f (Some (wish.Store (call.Close tx))) opens asks = record { since = tt; may = (tt, asks) }
still_asked c seen f (Some (wish.Store (call.Stamp tx n))) opens asks = record { since = tt; may = (tt, asks) }
still_asked c seen f (Some (wish.Store (call.Void tx n))) opens asks = record { since = tt; may = (tt, asks) }
still_asked c seen f (Some (wish.Store (call.DropTx tx))) opens asks = record { since = tt; may = (tt, asks) }
still_asked c seen f (Some (wish.Store call.Horizon)) opens asks = record { since = tt; may = (tt, asks) }
still_asked c seen f (Some (wish.Store (call.Records from to))) opens asks = record { since = tt; may = (tt, asks) }
still_asked c seen f (Some (wish.Store (call.Purge upto))) opens asks = record { since = tt; may = (tt, asks) }
still_asked c seen f (Some (wish.Reg w)) opens asks = record { since = tt; may = (tt, asks) }

-- so it is not before what was seen
still_since : (c : Common) (seen : Counters) (o : Option Wish) → OpensNothing o → AsksSince seen o
still_since c seen None opens = tt
still_since c seen (Some (wish.Mem (call.Open tx n))) opens = absurd opens
still_since c seen (Some (wish.Store (call.Open tx n))) opens = absurd opens
still_since c seen (Some (wish.Mem (call.Get tx t key))) opens = tt
still_since c seen (Some (wish.Mem (call.Scan tx t))) opens = tt
still_since c seen (Some (wish.Mem (call.Put tx t key row))) opens = tt
still_since c seen (Some (wish.Mem (call.Close tx))) opens = tt
still_since c seen (Some (wish.Mem (call.Stamp tx n))) opens = tt
still_since c seen (Some (wish.Mem (call.Void tx n))) opens = tt
still_since c seen (Some (wish.Mem (call.DropTx tx))) opens = tt
still_since c seen (Some (wish.Mem call.Horizon)) opens = tt
still_since c seen (Some (wish.Mem (call.Records from to))) opens = tt
still_since c seen (Some (wish.Mem (call.Purge upto))) opens = tt
still_since c seen (Some (wish.Store (call.Get tx t key))) opens = tt
still_since c seen (Some (wish.Store (call.Scan tx t))) opens = tt
still_since c seen (Some (wish.Store (call.Put tx t key row))) opens = tt
still_since c seen (Some (wish.Store (call.Close tx))) opens = tt
still_since c seen (Some (wish.Store (call.Stamp tx n))) opens = tt
still_since c seen (Some (wish.Store (call.Void tx n))) opens = tt
still_since c seen (Some (wish.Store (call.DropTx tx))) opens = tt
still_since c seen (Some (wish.Store call.Horizon)) opens = tt
still_since c seen (Some (wish.Store (call.Records from to))) opens = tt
still_since c seen (Some (wish.Store (call.Purge upto))) opens = tt
still_since c seen (Some (wish.Reg w)) opens = tt

module _ (first : Point) (points : List Point) (c d : Common) (before : List Member) (m n : Member) (after : List Member) (asked : Wish) (got : Got)
    (running : IsRunning first points c (before ++ m ∷ after)) (takes : Takes m asked got n) (answered : Answered c asked got d) where
  member : IsMember c (all_traces (before ++ m ∷ after)) m
  member = each_focus (IsMember c (all_traces (before ++ m ∷ after))) before m after running.members

  others : Each (IsMember c (all_traces (before ++ m ∷ after))) (before ++ after)
  others = each_others (IsMember c (all_traces (before ++ m ∷ after))) before m after running.members

  last : LastOf m.number 1 takes.front takes.last takes.before takes.talk
  last = last_in m.number 1 takes.front takes.last takes.before takes.talk (subst (λ ts. Numbered m.number 1 (takes.front ++ takes.last ∷ []) ts) takes.talks (subst (λ fs. Numbered m.number 1 fs m.talks) takes.facts member.numbered))

  abbrev t : Trace
  t = record { facts = takes.last; talk = takes.talk }

  abbrev front : List Trace
  front = traces_of takes.front takes.before

  abbrev pre : List Trace
  pre = all_traces before ++ front

  abbrev post : List Trace
  post = all_traces after

  abbrev u : Trace
  u = trace_after asked got t

  own_traces : traces_in m ≡ front ++ t ∷ []
  own_traces = ap (λ fs. traces_of fs m.talks) takes.facts ∙ ap (traces_of (takes.front ++ takes.last ∷ [])) takes.talks ∙ last.traces

  place : all_traces (before ++ m ∷ after) ≡ pre ++ t ∷ post
  place = middle_of before m after front t own_traces

  may : MayOpen c.regs t.facts asked × FitsFacts t.facts asked
  may = subst (MayAsk c takes.last) takes.waits (member.may takes.front takes.last takes.facts)

  numbered_then : Numbered n.number 1 n.facts n.talks
  numbered_then = subst (λ x. Numbered x 1 n.facts n.talks) (sym takes.number) (subst (λ fs. Numbered m.number 1 fs n.talks) (sym takes.facts_then)
      (subst (Numbered m.number 1 (takes.front ++ facts_after asked got takes.last ∷ [])) (sym takes.talks_then)
      (numbered_push m.number 1 takes.front (facts_after asked got takes.last) takes.before (takes.talk ++ own_call asked got) last.numbered (same_label_after ∙ last.label))))
    where
      same_label_after : (facts_after asked got takes.last).label ≡ takes.last.label
      same_label_after = (change c.regs d.regs takes.last asked got running.held.common.sound may.0 takes.fits answered.regs).label

  own_then : traces_in n ≡ front ++ u ∷ []
  own_then = ap (λ fs. traces_of fs n.talks) takes.facts_then ∙ ap (traces_of (takes.front ++ facts_after asked got takes.last ∷ [])) takes.talks_then
      ∙ traces_push m.number 1 takes.front (facts_after asked got takes.last) takes.before (takes.talk ++ own_call asked got) last.numbered

  place_then : all_traces (before ++ n ∷ after) ≡ pre ++ u ∷ post
  place_then = middle_of before n after front u own_then

  held : Held first points c (pre ++ t ∷ post)
  held = subst (Held first points c) place running.held

  apart : (w : Trace) → In w (pre ++ post) → same_label t.facts.label w.facts.label ≡ false
  apart w i = each_in (λ (w : Trace). same_label t.facts.label w.facts.label ≡ false) (pre ++ post) w
      (label_apart before m after takes.front takes.before takes.last.label (each_weaker (IsMember c (all_traces (before ++ m ∷ after))) (λ (r : Member). Numbered r.number 1 r.facts r.talks) (λ r k. k.numbered) (before ++ after) others) running.differ last.numbered last.label) i

  pub moved : Change c.regs d.regs t.facts u.facts
  moved = ch first points c d pre t post asked got held answered takes.fits may.0 may.1 takes.own apart

  held_then : Held first (points ++ moved.made) d (pre ++ u ∷ post)
  unfolding moved
  held_then = step_held first points c d pre t post asked got held answered takes.fits may.0 may.1 takes.own apart

  -- ---- the other sessions

  other_then : (r : Member) → In r (before ++ after) → IsMember d (all_traces (before ++ n ∷ after)) r
  other_then r i =
      let k : IsMember c (all_traces (before ++ m ∷ after)) r = each_in (IsMember c (all_traces (before ++ m ∷ after))) (before ++ after) r others i in
      make k (subst (λ all. IsMember c all r) place k)
    where
      make : IsMember c (all_traces (before ++ m ∷ after)) r → IsMember c (pre ++ t ∷ post) r → IsMember d (all_traces (before ++ n ∷ after)) r
      make o k = subst (λ all. IsMember d all r) (sym place_then) (record {
        numbered = k.numbered;
        seen = k.seen;
        found = found_other c d pre t post asked got may.1 takes.fits answered moved k.seen (traces_in r) k.found;
        since = k.since;
        may = λ fs f e. may_ask_more c d f r.asked moved.made moved.points moved.mem moved.store (k.may fs f e);
      })

  -- ---- its own

  own_member : IsMember c (pre ++ t ∷ post) m
  own_member = subst (λ all. IsMember c all m) place member

  own_found : Found c (pre ++ t ∷ post) own_member.seen (front ++ t ∷ [])
  own_found = subst (Found c (pre ++ t ∷ post) own_member.seen) own_traces own_member.found

  opens_since : OpensSince own_member.seen asked
  opens_since = subst (AsksSince own_member.seen) takes.waits own_member.since

  found_then : Found d (pre ++ u ∷ post) own_member.seen (front ++ u ∷ [])
  found_then = found_own c d pre t post asked got may.1 takes.fits answered moved own_member.seen front own_found opens_since

  next : Next c d own_member.seen u.facts n.asked
  next = next_asked c d own_member.seen u.facts asked got n.asked held.common.sound own_found.glimpse.ahead answered.regs own_found.glimpse.mem own_found.glimpse.store mem_since takes.opens takes.asks
    where
      mem_since : IfSome u.facts.mem (λ a. own_member.seen.mem ≤ a)
      mem_since = (subst (λ o. Each (λ (w : Trace). Since own_member.seen w.facts) (listed o)) (last_is d (pre ++ u ∷ post) own_member.seen front u found_then).1 found_then.since).0.mem

  own_member_then : IsMember d (all_traces (before ++ n ∷ after)) n
  own_member_then = subst (λ all. IsMember d all n) (sym place_then) (record {
    numbered = numbered_then;
    seen = own_member.seen;
    found = subst (Found d (pre ++ u ∷ post) own_member.seen) (sym own_then) found_then;
    since = next.since;
    may = λ fs f e. subst (λ g. MayAsk d g n.asked) (same_last takes.front fs (facts_after asked got takes.last) f (sym takes.facts_then ∙ e)).1 next.may;
  })

  pub running_then : IsRunning first (points ++ moved.made) d (before ++ n ∷ after)
  running_then = record {
    held = subst (Held first (points ++ moved.made) d) (sym place_then) held_then;
    members = each_middle (IsMember d (all_traces (before ++ n ∷ after))) before n after (in_each (IsMember d (all_traces (before ++ n ∷ after))) (before ++ after) other_then) own_member_then;
    differ = subst Differ (sym (same_numbers before m n after takes.number)) running.differ;
  }

pub takes_keep : TakesKeep
takes_keep first points c d before m n after asked got running takes answered = (_, running_then first points c d before m n after asked got running takes answered)

-- ---- a statement

-- a session that goes on as it is, but for what it asks for
module _ (first : Point) (points : List Point) (c : Common) (before : List Member) (m n : Member) (after : List Member) (running : IsRunning first points c (before ++ m ∷ after)) (on : AsksOn m n) where
  same_traces : traces_in n ≡ traces_in m
  same_traces = ap (λ fs. traces_of fs n.talks) on.facts ∙ ap (traces_of m.facts) on.talks

  same_all : all_traces (before ++ n ∷ after) ≡ all_traces (before ++ m ∷ after)
  same_all = place_of before n after ∙ ap (λ xs. (all_traces before ++ xs) ++ all_traces after) same_traces ∙ sym (place_of before m after)

  goes_on : IsMember c (all_traces (before ++ m ∷ after)) m → IsMember c (all_traces (before ++ m ∷ after)) n
  goes_on k = record {
    numbered = subst (λ x. Numbered x 1 n.facts n.talks) (sym on.number) (subst (λ fs. Numbered m.number 1 fs n.talks) (sym on.facts) (subst (Numbered m.number 1 m.facts) (sym on.talks) k.numbered));
    seen = k.seen;
    found = subst (Found c (all_traces (before ++ m ∷ after)) k.seen) (sym same_traces) k.found;
    since = still_since c k.seen n.asked on.opens;
    may = λ fs f e. (still_asked c k.seen f n.asked on.opens (on.asks fs f e)).may;
  }

  pub running_on : IsRunning first points c (before ++ n ∷ after)
  running_on = record {
    held = subst (Held first points c) (sym same_all) running.held;
    members = subst (λ all. Each (IsMember c all) (before ++ n ∷ after)) (sym same_all)
        (each_middle (IsMember c (all_traces (before ++ m ∷ after))) before n after (each_others (IsMember c (all_traces (before ++ m ∷ after))) before m after running.members)
        (goes_on (each_focus (IsMember c (all_traces (before ++ m ∷ after))) before m after running.members)));
    differ = subst Differ (sym (same_numbers before m n after on.number)) running.differ;
  }

-- a session in which a transaction begins
module _ (first : Point) (points : List Point) (c : Common) (before : List Member) (m n : Member) (after : List Member) (running : IsRunning first points c (before ++ m ∷ after)) (begins : Begins m n) where
  abbrev label : Label
  label = record { session = m.number; k = length m.facts + 1 }

  abbrev fact : Facts
  fact = fresh_facts label begins.kind

  abbrev new : Trace
  new = record { facts = fact; talk = [] }

  abbrev ahead : List Trace
  ahead = all_traces before ++ traces_in m

  abbrev behind : List Trace
  behind = all_traces after

  me : IsMember c (all_traces (before ++ m ∷ after)) m
  me = each_focus (IsMember c (all_traces (before ++ m ∷ after))) before m after running.members

  rest : Each (IsMember c (all_traces (before ++ m ∷ after))) (before ++ after)
  rest = each_others (IsMember c (all_traces (before ++ m ∷ after))) before m after running.members

  held_before : Held first points c (ahead ++ behind)
  held_before = subst (Held first points c) (place_of before m after) running.held

  label_new : Each (λ (u : Trace). same_label label u.facts.label ≡ false) (ahead ++ behind)
  label_new = label_apart before m after m.facts m.talks label (each_weaker (IsMember c (all_traces (before ++ m ∷ after))) (λ (r : Member). Numbered r.number 1 r.facts r.talks) (λ r k. k.numbered) (before ++ after) rest) running.differ me.numbered refl

  own_new : traces_in n ≡ traces_in m ++ new ∷ []
  own_new = ap (λ fs. traces_of fs n.talks) begins.facts ∙ ap (traces_of (m.facts ++ fact ∷ [])) begins.talks ∙ traces_push m.number 1 m.facts fact m.talks [] me.numbered

  place_new : all_traces (before ++ n ∷ after) ≡ ahead ++ new ∷ behind
  place_new = middle_of before n after (traces_in m) new own_new

  held_new : Held first points c (ahead ++ new ∷ behind)
  held_new = held_begins first points c ahead label begins.kind behind held_before label_new

  is_new : IsNew new
  is_new = record { mem = refl; store = refl; drew_mem = refl }

  all_within : Each (λ (u : Trace). Within (counters_of c.regs) u.facts) (ahead ++ behind)
  all_within = each_weaker (IsHeld c) (λ (u : Trace). Within (counters_of c.regs) u.facts) (λ u k. k.within) (ahead ++ behind) held_before.each

  own_within : Each (λ (u : Trace). Within (counters_of c.regs) u.facts) (traces_in m)
  own_within = each_end (λ (u : Trace). Within (counters_of c.regs) u.facts) (all_traces before) (traces_in m) (each_front (λ (u : Trace). Within (counters_of c.regs) u.facts) ahead behind all_within)

  beside : (r : Member) → IsMember c (all_traces (before ++ m ∷ after)) r → IsMember c (all_traces (before ++ n ∷ after)) r
  beside r k = subst (λ all. IsMember c all r) (sym place_new) (record {
    numbered = k.numbered;
    seen = k.seen;
    found = found_beside c ahead new behind k.seen (traces_in r) is_new (subst (λ all. Found c all k.seen (traces_in r)) (place_of before m after) k.found);
    since = k.since;
    may = k.may;
  })

  begun : IsMember c (all_traces (before ++ n ∷ after)) n
  begun = subst (λ all. IsMember c all n) (sym place_new) (record {
    numbered = subst (λ x. Numbered x 1 n.facts n.talks) (sym begins.number) (subst (λ fs. Numbered m.number 1 fs n.talks) (sym begins.facts) (subst (Numbered m.number 1 (m.facts ++ fact ∷ [])) (sym begins.talks)
        (numbered_push m.number 1 m.facts fact m.talks [] me.numbered refl)));
    seen = counters_of c.regs;
    found = subst (Found c (ahead ++ new ∷ behind) (counters_of c.regs)) (sym own_new)
        (found_begins c ahead new behind (traces_in m) running.held.common is_new all_within own_within (found_in_order c (all_traces (before ++ m ∷ after)) me.seen (traces_in m) me.found));
    since = still_since c (counters_of c.regs) n.asked begins.opens;
    may = λ fs f e. subst (λ g. MayAsk c g n.asked) (same_last m.facts fs fact f (sym begins.facts ∙ e)).1 (still_asked c (counters_of c.regs) fact n.asked begins.opens begins.asks).may;
  })

  pub running_begun : IsRunning first points c (before ++ n ∷ after)
  running_begun = record {
    held = subst (Held first points c) (sym place_new) held_new;
    members = each_middle (IsMember c (all_traces (before ++ n ∷ after))) before n after (each_weaker (IsMember c (all_traces (before ++ m ∷ after))) (IsMember c (all_traces (before ++ n ∷ after))) beside (before ++ after) rest) begun;
    differ = subst Differ (sym (same_numbers before m n after begins.number)) running.differ;
  }

pub asks_keep : AsksKeep
asks_keep first points c before m n after running h = ⊎_elim
    (λ (on : AsksOn m n). running_on first points c before m n after running on)
    (λ (begins : Begins m n). running_begun first points c before m n after running begins)
    h
