-- What a call makes of the registry and of what its transaction's record says.
use Rattle.std.specs.Prelude.{◌≡◌, ℕ, ◌+◌, ◌*◌, ◌<◌, ◌≤◌, List, [], ◌∷◌, ◌++◌, Option, Some, None, Result, Ok, Err, Bool, true, false, cond, ◌&&◌, ◌==◌, ◌⊎◌, nat_lt, length}
use Rattle.std.proofs.Common.{refl, sym, ap, subst, ◌∙◌, inl, inr, ⊎_elim, arith}
use Rattle.std.proofs.lemmas.Bool.{cases_Bool, and_parts, ltb-true, cond-true}
use Rattle.std.proofs.lemmas.List.{append-nil}
use Rattle.sk_model.specs.declared.label.Label.{Label}
use Rattle.sk_model.specs.declared.point.Point.{Point}
use Rattle.sk_model.specs.declared.point.Recycled.{Recycled}
use Rattle.sk_model.specs.declared.call.EngineCall.{EngineCall}
use Rattle.sk_model.specs.declared.call.EngineCall.TheVariants as call
use Rattle.sk_model.specs.declared.call.EngineReply.{EngineReply}
use Rattle.sk_model.specs.declared.call.EngineReply.TheVariants as answer
use Rattle.sk_model.specs.Records.{AtMost}
use Rattle.sk_model.proofs.Lists.{Each}
use Rattle.sk_weave.specs.declared.answer.Selected.{Selected}
use Rattle.sk_weave.specs.declared.answer.DrawFault.{DrawFault}
use Rattle.sk_weave.specs.declared.event.Event.TheVariants.{DrawMem, DrawStore}
use Rattle.sk_weave.specs.Points.{selection, commit_point, CanFollow, Climbs, Staircase, last_from, pick}
use Rattle.sk_weave.specs.Laws.{CanComeLast}
use Rattle.sk_weave.specs.Registry.{Regs, IsSound, last_of, oldest_of, is_full, after_all, append_steps, appended, selected, selection_steps, after_selection, drawn, draw_steps, after_draw_mem, after_draw_store, passes, checked, after_check}
use Rattle.sk_weave.specs.AheadLaws.{counters_of}
use Rattle.sk_linked.specs.Reads.{PairIf}
use Rattle.sk_weave.proofs.Staircase.{check_follows}
use Rattle.sk_weave.proofs.Registers.{points_after_append, select_follows, comes_last, ok_is}
use Rattle.sk_weave.proofs.Pairs.{pair_stays}
use Rattle.sk_linked.specs.Traces.{In}
use Rattle.sk_linked.proofs.Members.{each_in}
use Rattle.sk_commit.specs.declared.asking.RegistryCall.{RegistryCall}
use Rattle.sk_commit.specs.declared.asking.RegistryCall.TheVariants as reg
use Rattle.sk_commit.specs.declared.asking.RegistryReply.{RegistryReply}
use Rattle.sk_commit.specs.declared.asking.RegistryReply.TheVariants as told
use Rattle.sk_commit.specs.declared.asking.Wish.{Wish}
use Rattle.sk_commit.specs.declared.asking.Wish.TheVariants as wish
use Rattle.sk_commit.specs.declared.asking.Got.{Got}
use Rattle.sk_commit.specs.declared.asking.Got.TheVariants as given
use Rattle.sk_commit.specs.Fits.{WishFits}
use Rattle.sk_session.specs.Common.{RegAnswers, RegsAnswer}
use Rattle.sk_session.specs.Facts.{Facts, facts_after, with_point}
use Rattle.sk_kept.specs.Held.{Within, MayOpen}

-- a number stays, or is drawn anew: past the counter as it was, and not past it as it is
abbrev pub Draws : ℕ → ℕ → Option ℕ → Option ℕ → Type 0
Draws before now old new = (new ≡ old) ⊎ ((n : ℕ) × (new ≡ Some n) × (before < n) × (n ≤ now))

pub record Change (r s : Regs) (f g : Facts) : Type 0 where
  pub made : List Point
  pub points : s.points ≡ r.points ++ made
  pub gained : g.made ≡ f.made ++ made
  pub new : Each (λ (q : Point). In q r.points → ⊥) made
  pub mem : r.mem ≤ s.mem
  pub store : r.store ≤ s.store
  pub drew_mem : Draws r.mem s.mem f.drew_mem g.drew_mem
  pub drew_store : Draws r.store s.store f.drew_store g.drew_store
  -- a number that a counter has come to was drawn
  pub next_mem : (n : ℕ) → r.mem < n → n ≤ s.mem → g.drew_mem ≡ Some n
  pub next_store : (n : ℕ) → r.store < n → n ≤ s.store → g.drew_store ≡ Some n
  pub pair : PairIf r.points f.mem f.store → PairIf s.points g.mem g.store
  pub within : Within (counters_of r) f → Within (counters_of s) g
  pub label : g.label ≡ f.label

-- a counter that has not moved has come to no number
unmoved : {A : Type 0} (m k n : ℕ) → k ≡ m → m < n → n ≤ k → A
unmoved m k n e l g = absurd (never e l g)
  where
    never : k ≡ m → m < n → n ≤ k → ⊥
    never e l g = omega arith

-- ---- points that are appended

sums : (p : Point) (qs : List Point) → Climbs p qs → Each (λ (x : Point). x.a + x.b ≤ (last_from p qs).a + (last_from p qs).b) (p ∷ qs)
sums p [] h = (omega arith, tt)
sums p (q ∷ qs) h =
    let ih : Each (λ (x : Point). x.a + x.b ≤ (last_from q qs).a + (last_from q qs).b) (q ∷ qs) = sums q qs h.1 in
    let l : q.a + q.b ≤ (last_from q qs).a + (last_from q qs).b = ih.0 in
    let m : p.a + p.b < q.a + q.b = h.0.moves in
    (omega arith, ih)

-- a point that can come last is none of those before it
not_yet : (points : List Point) (q : Point) → Staircase points → CanComeLast points q → In q points → ⊥
not_yet [] q s f i = i
not_yet (p ∷ qs) q s f i =
    let l : q.a + q.b ≤ (last_from p qs).a + (last_from p qs).b = each_in (λ (x : Point). x.a + x.b ≤ (last_from p qs).a + (last_from p qs).b) (p ∷ qs) q (sums p qs s.1) i in
    let m : (last_from p qs).a + (last_from p qs).b < q.a + q.b = f.moves in
    absurd (omega arith)

pub mem_after_append : (r : Regs) (p : Point) → (appended r p).mem ≡ r.mem
mem_after_append r p = ⊎_elim (λ (t : is_full r ≡ true). rw t refl) (λ (f : is_full r ≡ false). rw f refl) (cases_Bool (is_full r))

pub store_after_append : (r : Regs) (p : Point) → (appended r p).store ≡ r.store
store_after_append r p = ⊎_elim (λ (t : is_full r ≡ true). rw t refl) (λ (f : is_full r ≡ false). rw f refl) (cases_Bool (is_full r))

-- ---- pairs and numbers

pub pair_grows : (points more : List Point) (a b : Option ℕ) → PairIf points a b → PairIf (points ++ more) a b
pair_grows points more None b h = tt
pair_grows points more (Some a) None h = tt
pair_grows points more (Some a) (Some b) h = pair_stays points more a b h

pub at_most_more : (o : Option ℕ) (m n : ℕ) → m ≤ n → AtMost o m → AtMost o n
at_most_more None m n l h = tt
at_most_more (Some x) m n l h = let k : x ≤ m = h in omega arith

-- ---- what stays, and what is appended

-- nothing changes
same : (r s : Regs) (f : Facts) → s ≡ r → Change r s f f
same r s f e = record {
  made = [];
  points = ap (λ (x : Regs). x.points) e ∙ sym (append-nil r.points);
  gained = sym (append-nil f.made);
  new = tt;
  mem = rw e (omega arith);
  store = rw e (omega arith);
  drew_mem = inl refl;
  drew_store = inl refl;
  next_mem = λ n. unmoved r.mem s.mem n (ap (λ (x : Regs). x.mem) e);
  next_store = λ n. unmoved r.store s.store n (ap (λ (x : Regs). x.store) e);
  pair = λ h. rw e h;
  within = λ h. rw e h;
  label = refl;
}

-- a point is appended
adds : (r s : Regs) (q : Point) (f : Facts) → IsSound r → CanComeLast r.points q → s ≡ appended r q → Change r s f (with_point q.a q.b q.commit f)
adds r s q f sound last e =
    let points : s.points ≡ r.points ++ q ∷ [] = ap (λ (x : Regs). x.points) e ∙ points_after_append r q in
    let mem : s.mem ≡ r.mem = ap (λ (x : Regs). x.mem) e ∙ mem_after_append r q in
    let store : s.store ≡ r.store = ap (λ (x : Regs). x.store) e ∙ store_after_append r q in
    record {
      made = q ∷ [];
      points = points;
      gained = refl;
      new = (not_yet r.points q sound.stairs last, tt);
      mem = omega arith;
      store = omega arith;
      drew_mem = inl refl;
      drew_store = inl refl;
      next_mem = λ n. unmoved r.mem s.mem n mem;
      next_store = λ n. unmoved r.store s.store n store;
      pair = λ h. subst (λ ps. PairIf ps f.mem f.store) (sym points) (pair_grows r.points (q ∷ []) f.mem f.store h);
      within = λ h. record { mem = rw mem h.mem; store = rw store h.store; drew_mem = rw mem h.drew_mem; drew_store = rw store h.drew_store };
      label = refl;
    }

-- the number behind the counter
drawn_next : (c floor n : ℕ) → drawn c floor ≡ Ok n → n ≡ c + 1
drawn_next c floor n e = ⊎_elim
    (λ (t : (c == 2147483647) ≡ true). absurd (clash (rw t at e)))
    (λ (f : (c == 2147483647) ≡ false). ⊎_elim
    (λ (t : nat_lt c floor ≡ true). absurd (clash (rw (f, t) at e)))
    (λ (g : nat_lt c floor ≡ false). sym (ok_is (c + 1) n (rw (f, g) at e)))
    (cases_Bool (nat_lt c floor)))
    (cases_Bool (c == 2147483647))
  where
    clash : {X Y : Type 0} {x : X} {y : Y} → ◌≡◌ {A = Result X Y} (Err y) (Ok x) → ⊥
    clash e = cc

draws_mem : (r s : Regs) (floor n : ℕ) (f : Facts) → drawn r.mem floor ≡ Ok n → s ≡ after_draw_mem r floor → Change r s f (record f { drew_mem = Some n })
draws_mem r s floor n f d e =
    let is : s ≡ record r { mem = n } = e ∙ ap (λ (x : Result ℕ DrawFault). after_all r (draw_steps DrawMem x)) d in
    let next : n ≡ r.mem + 1 = drawn_next r.mem floor n d in
    let mem : s.mem ≡ n = ap (λ (x : Regs). x.mem) is in
    let store : s.store ≡ r.store = ap (λ (x : Regs). x.store) is in
    let points : s.points ≡ r.points = ap (λ (x : Regs). x.points) is in
    record {
      made = [];
      points = points ∙ sym (append-nil r.points);
      gained = sym (append-nil f.made);
      new = tt;
      mem = omega arith;
      store = omega arith;
      drew_mem = inr (n, refl, omega arith, omega arith);
      drew_store = inl refl;
      next_mem = λ k l g. let is : n ≡ k = omega arith in ap Some is;
      next_store = λ k. unmoved r.store s.store k store;
      pair = λ h. rw points h;
      within = λ h. record {
        mem = at_most_more f.mem r.mem s.mem (omega arith) h.mem;
        store = rw store h.store;
        drew_mem = omega arith;
        drew_store = rw store h.drew_store;
      };
      label = refl;
    }

draws_store : (r s : Regs) (floor n : ℕ) (f : Facts) → drawn r.store floor ≡ Ok n → s ≡ after_draw_store r floor → Change r s f (record f { drew_store = Some n })
draws_store r s floor n f d e =
    let is : s ≡ record r { store = n } = e ∙ ap (λ (x : Result ℕ DrawFault). after_all r (draw_steps DrawStore x)) d in
    let next : n ≡ r.store + 1 = drawn_next r.store floor n d in
    let mem : s.mem ≡ r.mem = ap (λ (x : Regs). x.mem) is in
    let store : s.store ≡ n = ap (λ (x : Regs). x.store) is in
    let points : s.points ≡ r.points = ap (λ (x : Regs). x.points) is in
    record {
      made = [];
      points = points ∙ sym (append-nil r.points);
      gained = sym (append-nil f.made);
      new = tt;
      mem = omega arith;
      store = omega arith;
      drew_mem = inl refl;
      drew_store = inr (n, refl, omega arith, omega arith);
      next_mem = λ k. unmoved r.mem s.mem k mem;
      next_store = λ k l g. let is : n ≡ k = omega arith in ap Some is;
      pair = λ h. rw points h;
      within = λ h. record {
        mem = rw mem h.mem;
        store = at_most_more f.store r.store s.store (omega arith) h.store;
        drew_mem = rw mem h.drew_mem;
        drew_store = omega arith;
      };
      label = refl;
    }

-- what was selected is what the rule picks
pub picked : (r : Regs) (a now : ℕ) (found : Selected) → selected r a now ≡ Ok found → pick r.points a now ≡ found
picked r a now found e = ⊎_elim
    (λ (t : nat_lt a (oldest_of r).a ≡ true). absurd (clash (rw t at e)))
    (λ (f : nat_lt a (oldest_of r).a ≡ false). ok_is (pick r.points a now) found (rw f at e))
    (cases_Bool (nat_lt a (oldest_of r).a))
  where
    clash : {X Y : Type 0} {x : X} {y : Y} → ◌≡◌ {A = Result X Y} (Err y) (Ok x) → ⊥
    clash e = cc

-- a selection appends its point, or finds one
selects : (r s : Regs) (a : ℕ) (found : Selected) (f : Facts) → IsSound r → selected r a r.store ≡ Ok found → s ≡ after_selection r a r.store → Change r s f (cond found.made (with_point a found.b false f) f)
selects r s a found f sound is e =
    let step : s ≡ after_all r (cond found.made (append_steps r (selection a found.b)) []) = e ∙ ap (λ (x : Result Selected Recycled). after_all r (selection_steps r a x)) is in
    ⊎_elim
    (λ (t : found.made ≡ true).
    let picks : pick r.points a r.store ≡ found = picked r a r.store found is in
    let last : CanComeLast r.points (selection a found.b) = subst (λ (x : Selected). CanComeLast r.points (selection a x.b)) picks (select_follows r sound a r.store (omega arith) (ap (λ (x : Selected). x.made) picks ∙ t)).0 in
    subst (λ b. Change r s f (cond b (with_point a found.b false f) f)) (sym t) (adds r s (selection a found.b) f sound last (step ∙ ap (λ b. after_all r (cond b (append_steps r (selection a found.b)) [])) t)))
    (λ (n : found.made ≡ false). subst (λ b. Change r s f (cond b (with_point a found.b false f) f)) (sym n) (same r s f (step ∙ ap (λ b. after_all r (cond b (append_steps r (selection a found.b)) [])) n)))
    (cases_Bool found.made)

-- a check that passes appends the commit's point
passes_check : (r s : Regs) (ca cb : ℕ) (f : Facts) → IsSound r → passes r ca cb ≡ true → s ≡ after_check r ca cb → Change r s f (with_point ca cb true f)
passes_check r s ca cb f sound p e =
    let some : 0 < length r.points = let l : r.low * r.size < length r.points = sound.live in omega arith in
    let parts : (nat_lt (last_of r.points).a ca ≡ true) × (nat_lt (last_of r.points).b cb ≡ true) = and_parts (nat_lt (last_of r.points).a ca) (nat_lt (last_of r.points).b cb) p in
    adds r s (commit_point ca cb) f sound (comes_last r.points (commit_point ca cb) some (check_follows (last_of r.points) ca cb (ltb-true _ _ parts.0) (ltb-true _ _ parts.1)))
    (e ∙ ap (λ b. after_all r (cond b (append_steps r (commit_point ca cb)) [])) p)

-- ---- each call

-- of the registry
reg_change : (r s : Regs) (f : Facts) (asked : RegistryCall) (reply : RegistryReply) → IsSound r → RegAnswers r asked reply s → Change r s f (facts_after (wish.Reg asked) (given.Reg reply) f)
reg_change r s f reg.Begin (told.Number n) sound h = same r s f h.1
reg_change r s f reg.Begin (told.Selected found) sound h = absurd h
reg_change r s f reg.Begin (told.Recycled e) sound h = absurd h
reg_change r s f reg.Begin (told.NotDrawn d) sound h = absurd h
reg_change r s f reg.Begin told.Done sound h = absurd h
reg_change r s f reg.Begin (told.Passed p) sound h = absurd h
reg_change r s f reg.Begin told.NoMemory sound h = absurd h
reg_change r s f reg.StoreNow (told.Number n) sound h = same r s f h.1
reg_change r s f reg.StoreNow (told.Selected found) sound h = absurd h
reg_change r s f reg.StoreNow (told.Recycled e) sound h = absurd h
reg_change r s f reg.StoreNow (told.NotDrawn d) sound h = absurd h
reg_change r s f reg.StoreNow told.Done sound h = absurd h
reg_change r s f reg.StoreNow (told.Passed p) sound h = absurd h
reg_change r s f reg.StoreNow told.NoMemory sound h = absurd h
reg_change r s f (reg.Select a) (told.Number n) sound h = absurd h
reg_change r s f (reg.Select a) (told.Selected found) sound h = selects r s a found f sound h.1 h.2
reg_change r s f (reg.Select a) (told.Recycled e) sound h = same r s f h.1
reg_change r s f (reg.Select a) (told.NotDrawn d) sound h = absurd h
reg_change r s f (reg.Select a) told.Done sound h = absurd h
reg_change r s f (reg.Select a) (told.Passed p) sound h = absurd h
reg_change r s f (reg.Select a) told.NoMemory sound h = same r s f h
reg_change r s f (reg.DrawMem floor) (told.Number n) sound h = draws_mem r s floor n f h.0 h.1
reg_change r s f (reg.DrawMem floor) (told.Selected found) sound h = absurd h
reg_change r s f (reg.DrawMem floor) (told.Recycled e) sound h = absurd h
reg_change r s f (reg.DrawMem floor) (told.NotDrawn d) sound h = same r s f h.1
reg_change r s f (reg.DrawMem floor) told.Done sound h = absurd h
reg_change r s f (reg.DrawMem floor) (told.Passed p) sound h = absurd h
reg_change r s f (reg.DrawMem floor) told.NoMemory sound h = absurd h
reg_change r s f (reg.DrawStore floor) (told.Number n) sound h = draws_store r s floor n f h.0 h.1
reg_change r s f (reg.DrawStore floor) (told.Selected found) sound h = absurd h
reg_change r s f (reg.DrawStore floor) (told.Recycled e) sound h = absurd h
reg_change r s f (reg.DrawStore floor) (told.NotDrawn d) sound h = same r s f h.1
reg_change r s f (reg.DrawStore floor) told.Done sound h = absurd h
reg_change r s f (reg.DrawStore floor) (told.Passed p) sound h = absurd h
reg_change r s f (reg.DrawStore floor) told.NoMemory sound h = absurd h
reg_change r s f (reg.Check ca cb) (told.Number n) sound h = absurd h
reg_change r s f (reg.Check ca cb) (told.Selected found) sound h = absurd h
reg_change r s f (reg.Check ca cb) (told.Recycled e) sound h = absurd h
reg_change r s f (reg.Check ca cb) (told.NotDrawn d) sound h = absurd h
reg_change r s f (reg.Check ca cb) told.Done sound h = passes_check r s ca cb f sound h.2 h.3
reg_change r s f (reg.Check ca cb) (told.Passed p) sound h = same r s f h.1
reg_change r s f (reg.Check ca cb) told.NoMemory sound h = absurd h

-- of an engine: an opening gives its snapshot, and nothing else changes
opens_mem : (r s : Regs) (n : ℕ) (f : Facts) → s ≡ r → n ≤ r.mem → f.store ≡ None → Change r s f (record f { mem = Some n })
opens_mem r s n f e l none =
    let c : Change r s f f = same r s f e in
    record {
      made = c.made;
      points = c.points;
      gained = c.gained;
      new = c.new;
      mem = c.mem;
      store = c.store;
      drew_mem = c.drew_mem;
      drew_store = c.drew_store;
      next_mem = c.next_mem;
      next_store = c.next_store;
      pair = λ h. subst (λ o. PairIf s.points (Some n) o) (sym none) tt;
      within = λ h. let w : Within (counters_of s) f = c.within h in record { mem = rw e l; store = w.store; drew_mem = w.drew_mem; drew_store = w.drew_store };
      label = refl;
    }

opens_store : (r s : Regs) (n : ℕ) (f : Facts) → s ≡ r → n ≤ r.store → PairIf r.points f.mem (Some n) → Change r s f (record f { store = Some n })
opens_store r s n f e l pair =
    let c : Change r s f f = same r s f e in
    record {
      made = c.made;
      points = c.points;
      gained = c.gained;
      new = c.new;
      mem = c.mem;
      store = c.store;
      drew_mem = c.drew_mem;
      drew_store = c.drew_store;
      next_mem = c.next_mem;
      next_store = c.next_store;
      pair = λ h. rw e pair;
      within = λ h. let w : Within (counters_of s) f = c.within h in record { mem = w.mem; store = rw e l; drew_mem = w.drew_mem; drew_store = w.drew_store };
      label = refl;
    }

mem_change : (r s : Regs) (f : Facts) (asked : EngineCall) (reply : EngineReply) → MayOpen r f (wish.Mem asked) → s ≡ r → Change r s f (facts_after (wish.Mem asked) (given.Engine reply) f)
mem_change r s f (call.Open tx n) answer.Done h e = opens_mem r s n f e h.0 h.1
mem_change r s f (call.Open tx n) (answer.Found x) h e = same r s f e
mem_change r s f (call.Open tx n) (answer.Rows x) h e = same r s f e
mem_change r s f (call.Open tx n) (answer.Number x) h e = same r s f e
mem_change r s f (call.Open tx n) (answer.Commits x) h e = same r s f e
mem_change r s f (call.Open tx n) (answer.Fault x) h e = same r s f e
mem_change r s f (call.Get tx t key) reply h e = same r s f e
mem_change r s f (call.Scan tx t) reply h e = same r s f e
mem_change r s f (call.Put tx t key row) reply h e = same r s f e
mem_change r s f (call.Close tx) reply h e = same r s f e
mem_change r s f (call.Stamp tx n) reply h e = same r s f e
mem_change r s f (call.Void tx n) reply h e = same r s f e
mem_change r s f (call.DropTx tx) reply h e = same r s f e
mem_change r s f call.Horizon reply h e = same r s f e
mem_change r s f (call.Records from to) reply h e = same r s f e
mem_change r s f (call.Purge upto) reply h e = same r s f e

store_change : (r s : Regs) (f : Facts) (asked : EngineCall) (reply : EngineReply) → MayOpen r f (wish.Store asked) → s ≡ r → Change r s f (facts_after (wish.Store asked) (given.Engine reply) f)
store_change r s f (call.Open tx n) answer.Done h e = opens_store r s n f e h.0 h.1
store_change r s f (call.Open tx n) (answer.Found x) h e = same r s f e
store_change r s f (call.Open tx n) (answer.Rows x) h e = same r s f e
store_change r s f (call.Open tx n) (answer.Number x) h e = same r s f e
store_change r s f (call.Open tx n) (answer.Commits x) h e = same r s f e
store_change r s f (call.Open tx n) (answer.Fault x) h e = same r s f e
store_change r s f (call.Get tx t key) reply h e = same r s f e
store_change r s f (call.Scan tx t) reply h e = same r s f e
store_change r s f (call.Put tx t key row) reply h e = same r s f e
store_change r s f (call.Close tx) reply h e = same r s f e
store_change r s f (call.Stamp tx n) reply h e = same r s f e
store_change r s f (call.Void tx n) reply h e = same r s f e
store_change r s f (call.DropTx tx) reply h e = same r s f e
store_change r s f call.Horizon reply h e = same r s f e
store_change r s f (call.Records from to) reply h e = same r s f e
store_change r s f (call.Purge upto) reply h e = same r s f e

-- whatever is asked
pub change : (r s : Regs) (f : Facts) (asked : Wish) (got : Got) → IsSound r → MayOpen r f asked → WishFits asked got → RegsAnswer r asked got s → Change r s f (facts_after asked got f)
change r s f (wish.Mem asked) (given.Engine reply) sound may fits h = mem_change r s f asked reply may h
change r s f (wish.Mem asked) (given.Reg reply) sound may fits h = absurd fits
change r s f (wish.Store asked) (given.Engine reply) sound may fits h = store_change r s f asked reply may h
change r s f (wish.Store asked) (given.Reg reply) sound may fits h = absurd fits
change r s f (wish.Reg asked) (given.Engine reply) sound may fits h = absurd fits
change r s f (wish.Reg asked) (given.Reg reply) sound may fits h = reg_change r s f asked reply sound h
