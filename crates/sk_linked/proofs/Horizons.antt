-- Each number that an engine decided was drawn, so that no horizon is past its counter.
use Rattle.std.specs.Prelude.{ℕ, zero, suc, List, [], ◌∷◌, Some, Bool, true, false, cond, min, ◌+◌, ◌≡◌, ◌≤◌}
use Rattle.std.proofs.Common.{refl, sym, subst, ◌∙◌, ⊎_elim, arith}
use Rattle.std.proofs.lemmas.Bool.{false≢true, cases_eq}
use Rattle.sk_model.specs.declared.engine.EngineName.{EngineName}
use Rattle.sk_model.specs.declared.call.EngineCall.{EngineCall}
use Rattle.sk_model.specs.declared.call.EngineCall.TheVariants as call
use Rattle.sk_model.specs.declared.call.Entry.{Entry}
use Rattle.std.proofs.Math.Nat.{min-le_left, min-le_right, max-le}
use Rattle.sk_model.specs.Engine.{EngineTable, Openings}
use Rattle.sk_model.specs.EngineReplies.{is_used, climb, top_number, horizon_of, least_open}
use Rattle.sk_model.specs.EngineChanges.{change}
use Rattle.sk_model.specs.Legal.{step, after_entries}
use Rattle.sk_model.proofs.Lists.{Each, each_weaker, each_front}
use Rattle.sk_model.proofs.Quiet.{step_keeps}
use Rattle.sk_linked.specs.Reads.{first_table}
use Rattle.sk_linked.specs.Traces.{drawn_at, Transaction, run_of, owed, In}
use Rattle.sk_linked.specs.State.{of, Actor, Core, traces_of, table_of, counter}
use Rattle.sk_linked.specs.Invariant.{IsKept, Invariant}
use Rattle.sk_linked.proofs.Others.{used_change}
use Rattle.sk_linked.proofs.Members.{each_in}
use Rattle.sk_linked.proofs.Grounds.{UseOf, uses_all}
use Rattle.sk_linked.proofs.Moving.{first_drawn}
use Rattle.sk_linked.proofs.Applying.{each_mapped}

climb_upto : (m : ℕ) (used : ℕ → Bool) (n c : ℕ) → n ≤ c → ((x : ℕ) → used x ≡ true → x ≤ c) → climb m used n ≤ c
climb_upto zero used n c l f = l
climb_upto (suc m) used n c l f = go (used (n + 1)) refl (λ k. climb_upto m used (n + 1) c k f)
  where
    go : (b : Bool) → used (n + 1) ≡ b → (n + 1 ≤ c → climb m used (n + 1) ≤ c) → cond b (climb m used (n + 1)) n ≤ c
    go true e ih = ih (f (n + 1) e)
    go false e ih = l

-- a number that the call decides has P
abbrev Decides : (ℕ → Type 0) → EngineCall → Type 0
Decides P (call.Open tx s) = Unit {0}
Decides P (call.Get tx t key) = Unit {0}
Decides P (call.Scan tx t) = Unit {0}
Decides P (call.Put tx t key row) = Unit {0}
Decides P (call.Close tx) = Unit {0}
Decides P (call.Stamp tx n) = P n
Decides P (call.Void tx n) = P n
Decides P (call.DropTx tx) = Unit {0}
Decides P call.Horizon = Unit {0}
Decides P (call.Records from to) = Unit {0}
Decides P (call.Purge upto) = Unit {0}

used_has : (P : ℕ → Type 0) (e : EngineTable) (c : EngineCall) → Decides P c → ((n : ℕ) → is_used e n ≡ true → P n) → (n : ℕ) → is_used (change e c) n ≡ true → P n
used_has P e (call.Open tx s) d h n u = h n u
used_has P e (call.Get tx t key) d h n u = h n u
used_has P e (call.Scan tx t) d h n u = h n u
used_has P e (call.Put tx t key row) d h n u = h n u
used_has P e (call.Close tx) d h n u = h n u
used_has P e (call.Stamp tx m) d h n u = ⊎_elim (λ (q : n ≡ m). subst P (sym q) d) (λ (q : n ≡ m → ⊥). h n (sym (used_change n e (call.Stamp tx m) q) ∙ u)) (cases_eq n m)
used_has P e (call.Void tx m) d h n u = ⊎_elim (λ (q : n ≡ m). subst P (sym q) d) (λ (q : n ≡ m → ⊥). h n (sym (used_change n e (call.Void tx m) q) ∙ u)) (cases_eq n m)
used_has P e (call.DropTx tx) d h n u = h n u
used_has P e call.Horizon d h n u = h n u
used_has P e (call.Records from to) d h n u = h n u
used_has P e (call.Purge upto) d h n u = h n u

used_all : (P : ℕ → Type 0) (e : EngineTable) (js : List Entry) → Each (λ (j : Entry). Decides P j.call) js → ((n : ℕ) → is_used e n ≡ true → P n) → (n : ℕ) → is_used (after_entries e js) n ≡ true → P n
used_all P e [] d h = h
used_all P e (j ∷ js) d h = used_all P (step e j) js d.1 (step_keeps (λ (f : EngineTable). (n : ℕ) → is_used f n ≡ true → P n) e j h (λ m r. used_has P e j.call d.0 h))

start_change : (e : EngineTable) (c : EngineCall) → (change e c).start ≡ e.start
start_change e (call.Open tx s) = refl
start_change e (call.Get tx t key) = refl
start_change e (call.Scan tx t) = refl
start_change e (call.Put tx t key row) = refl
start_change e (call.Close tx) = refl
start_change e (call.Stamp tx m) = refl
start_change e (call.Void tx m) = refl
start_change e (call.DropTx tx) = refl
start_change e call.Horizon = refl
start_change e (call.Records from to) = refl
start_change e (call.Purge upto) = refl

start_stays : (e : EngineTable) (js : List Entry) → (after_entries e js).start ≡ e.start
start_stays e [] = refl
start_stays e (j ∷ js) = start_stays (step e j) js ∙ step_keeps (λ (f : EngineTable). f.start ≡ e.start) e j refl (λ m r. start_change e j.call)

least_upto : (os : Openings) (n : ℕ) → least_open os n ≤ n
least_upto [] n = omega arith
least_upto (p ∷ os) n =
    let l : least_open os (min n p.1.snapshot) ≤ min n p.1.snapshot = least_upto os (min n p.1.snapshot) in
    let m : min n p.1.snapshot ≤ n = min-le_left n p.1.snapshot in
    omega (arith, l, m)

-- no number of the table is past c
record Upto (c : ℕ) (e : EngineTable) : Type 0 where
  used : (n : ℕ) → is_used e n ≡ true → n ≤ c
  start : e.start ≤ c
  purged : e.purged ≤ c

purged_change : (c : ℕ) (e : EngineTable) (call : EngineCall) → Upto c e → (change e call).purged ≤ c
purged_change c e (call.Open tx s) h = h.purged
purged_change c e (call.Get tx t key) h = h.purged
purged_change c e (call.Scan tx t) h = h.purged
purged_change c e (call.Put tx t key row) h = h.purged
purged_change c e (call.Close tx) h = h.purged
purged_change c e (call.Stamp tx m) h = h.purged
purged_change c e (call.Void tx m) h = h.purged
purged_change c e (call.DropTx tx) h = h.purged
purged_change c e call.Horizon h = h.purged
purged_change c e (call.Records from to) h = h.purged
purged_change c e (call.Purge upto) h =
    let a : least_open e.openings (min upto (horizon_of e)) ≤ min upto (horizon_of e) = least_upto e.openings (min upto (horizon_of e)) in
    let b : min upto (horizon_of e) ≤ horizon_of e = min-le_right upto (horizon_of e) in
    let d : horizon_of e ≤ c = climb_upto (top_number e) (is_used e) e.start c h.start h.used in
    max-le h.purged (omega (arith, a, b, d))

upto_all : (c : ℕ) (e : EngineTable) (js : List Entry) → Each (λ (j : Entry). Decides (λ n. n ≤ c) j.call) js → Upto c e → Upto c (after_entries e js)
upto_all c e [] d h = h
upto_all c e (j ∷ js) d h = upto_all c (step e j) js d.1 (step_keeps (Upto c) e j h (λ m r. record {
  used = used_has (λ n. n ≤ c) e j.call d.0 h.used;
  start = subst (λ n. n ≤ c) (sym (start_change e j.call)) h.start;
  purged = purged_change c e j.call h;
}))

module _ (k : Core) (inv : Invariant k) where
  all_drawn : (s : EngineName) → Each (λ (x : Transaction). (m : ℕ) → drawn_at s x.drew ≡ Some m → m ≤ counter s k.regs) (traces_of k).transactions
  all_drawn s = each_mapped (λ (x : Transaction). (m : ℕ) → drawn_at s x.drew ≡ Some m → m ≤ counter s k.regs) k.actors (each_weaker (IsKept k.regs) (λ (x : Actor). (m : ℕ) → drawn_at s x.drew ≡ Some m → m ≤ counter s k.regs) (λ x q m e. q.drew s m e) k.actors inv.actors)

  upto : (s : EngineName) (x : Transaction) → In x (traces_of k).transactions → (n : ℕ) → drawn_at s x.drew ≡ Some n → n ≤ counter s k.regs
  upto s x i n e = each_in (λ (x : Transaction). (m : ℕ) → drawn_at s x.drew ≡ Some m → m ≤ counter s k.regs) (traces_of k).transactions x (all_drawn s) i n e

  decides : (s : EngineName) (c : EngineCall) → UseOf s (traces_of k).transactions c → Decides (λ n. n ≤ counter s k.regs) c
  decides s (call.Open tx n) h = tt
  decides s (call.Get tx t key) h = tt
  decides s (call.Scan tx t) h = tt
  decides s (call.Put tx t key row) h = tt
  decides s (call.Close tx) h = tt
  decides s (call.Stamp tx n) h = upto s h.who h.among n h.drew
  decides s (call.Void tx n) h = upto s h.who h.among n h.drew
  decides s (call.DropTx tx) h = tt
  decides s call.Horizon h = tt
  decides s (call.Records from to) h = tt
  decides s (call.Purge upto) h = tt

  decided : (s : EngineName) → Each (λ (j : Entry). Decides (λ n. n ≤ counter s k.regs) j.call) (of s k.journals)
  decided s = each_weaker (λ (j : Entry). UseOf s (traces_of k).transactions j.call) (λ (j : Entry). Decides (λ n. n ≤ counter s k.regs) j.call) (λ j h. decides s j.call h) (of s k.journals)
      (each_front _ (of s k.journals) (owed s (traces_of k).transactions) (uses_all (traces_of k) inv.linked s))

  pub horizon_upto : (s : EngineName) → horizon_of (table_of k s) ≤ counter s k.regs
  horizon_upto s = climb_upto (top_number (table_of k s)) (is_used (table_of k s)) (table_of k s).start (counter s k.regs)
      (subst (λ n. n ≤ counter s k.regs) (sym (start_stays (first_table (run_of (traces_of k)) s) (of s k.journals))) (first_drawn k.regs inv.sound s))
      (used_all (λ n. n ≤ counter s k.regs) (first_table (run_of (traces_of k)) s) (of s k.journals) (decided s) (λ n u. absurd (false≢true u)))

  -- no purge is past the counter
  pub purged_upto : (s : EngineName) → (table_of k s).purged ≤ counter s k.regs
  purged_upto s = (upto_all (counter s k.regs) (first_table (run_of (traces_of k)) s) (of s k.journals) (decided s) (record {
    used = λ n u. absurd (false≢true u);
    start = first_drawn k.regs inv.sound s;
    purged = first_drawn k.regs inv.sound s;
  })).purged
