-- What was seen of both counters at some moment, and the calls that come then.
use Rattle.std.specs.Prelude.{◌≡◌, ℕ, ◌<◌, ◌≤◌, ◌+◌, List, [], ◌∷◌, ◌++◌, Option, Some, None, Result, Ok, Err, Bool, true, false, cond, ◌⊎◌, IfSome}
use Rattle.std.proofs.Common.{refl, sym, ap, subst, ◌∙◌, inl, inr, ⊎_elim, arith}
use Rattle.std.proofs.lemmas.Bool.{cases_Bool}
use Rattle.sk_model.specs.declared.point.Point.{Point}
use Rattle.sk_model.specs.declared.point.Recycled.{Recycled}
use Rattle.sk_model.specs.declared.call.EngineCall.{EngineCall}
use Rattle.sk_model.specs.declared.call.EngineCall.TheVariants as call
use Rattle.sk_model.specs.declared.call.EngineReply.{EngineReply}
use Rattle.sk_model.specs.declared.call.EngineReply.TheVariants as answer
use Rattle.sk_model.specs.Records.{AtMost, IsLater}
use Rattle.sk_model.proofs.Lists.{Each, each_append, each_weaker}
use Rattle.sk_weave.specs.declared.answer.Selected.{Selected}
use Rattle.sk_weave.specs.Registry.{Regs, IsSound, after_selection, after_draw_mem, after_draw_store, after_check}
use Rattle.sk_weave.specs.AheadLaws.{Counters, counters_of, AreAhead, KeepsAhead}
use Rattle.sk_weave.proofs.Aheads.{at_first, ahead_stays}
use Rattle.sk_linked.specs.Traces.{In}
use Rattle.sk_linked.specs.State.{counter}
use Rattle.sk_linked.proofs.Members.{each_in, in_each, some_same, some_clash}
use Rattle.sk_commit.specs.declared.asking.RegistryCall.{RegistryCall}
use Rattle.sk_commit.specs.declared.asking.RegistryCall.TheVariants as reg
use Rattle.sk_commit.specs.declared.asking.RegistryReply.{RegistryReply}
use Rattle.sk_commit.specs.declared.asking.RegistryReply.TheVariants as told
use Rattle.sk_commit.specs.declared.asking.Wish.{Wish}
use Rattle.sk_commit.specs.declared.asking.Wish.TheVariants as wish
use Rattle.sk_commit.specs.declared.asking.Got.{Got}
use Rattle.sk_commit.specs.declared.asking.Got.TheVariants as given
use Rattle.sk_commit.specs.Fits.{WishFits}
use Rattle.sk_session.specs.Common.{Common, RegAnswers, RegsAnswer, Answered}
use Rattle.sk_session.specs.Facts.{Facts, FitsFacts, fresh_facts, facts_after, with_point}
use Rattle.sk_kept.specs.Held.{Trace, trace_after, Within, MayOpen}
use Rattle.sk_kept.specs.Freshness.{Later, InOrder, Since, Crosses, Glimpse, listed, OpensSince}
use Rattle.sk_kept.proofs.Middles.{each_others, each_focus, each_middle}
use Rattle.sk_kept.proofs.Changes.{Draws, Change}

-- ---- the points stay ahead

ahead_same : (seen : Counters) (r s : Regs) → s ≡ r → AreAhead seen r.points → AreAhead seen s.points
ahead_same seen r s e h = rw e h

reg_ahead : (seen : Counters) (r s : Regs) (f : Facts) (asked : RegistryCall) (reply : RegistryReply) → seen.store ≤ r.store → Crosses seen f → FitsFacts f (wish.Reg asked) → RegAnswers r asked reply s → AreAhead seen r.points → AreAhead seen s.points
reg_ahead seen r s f reg.Begin (told.Number n) l crosses asks x h = ahead_same seen r s x.1 h
reg_ahead seen r s f reg.Begin (told.Selected found) l crosses asks x h = absurd x
reg_ahead seen r s f reg.Begin (told.Recycled e) l crosses asks x h = absurd x
reg_ahead seen r s f reg.Begin (told.NotDrawn d) l crosses asks x h = absurd x
reg_ahead seen r s f reg.Begin told.Done l crosses asks x h = absurd x
reg_ahead seen r s f reg.Begin (told.Passed p) l crosses asks x h = absurd x
reg_ahead seen r s f reg.Begin told.NoMemory l crosses asks x h = absurd x
reg_ahead seen r s f reg.StoreNow (told.Number n) l crosses asks x h = ahead_same seen r s x.1 h
reg_ahead seen r s f reg.StoreNow (told.Selected found) l crosses asks x h = absurd x
reg_ahead seen r s f reg.StoreNow (told.Recycled e) l crosses asks x h = absurd x
reg_ahead seen r s f reg.StoreNow (told.NotDrawn d) l crosses asks x h = absurd x
reg_ahead seen r s f reg.StoreNow told.Done l crosses asks x h = absurd x
reg_ahead seen r s f reg.StoreNow (told.Passed p) l crosses asks x h = absurd x
reg_ahead seen r s f reg.StoreNow told.NoMemory l crosses asks x h = absurd x
reg_ahead seen r s f (reg.Select a) (told.Number n) l crosses asks x h = absurd x
reg_ahead seen r s f (reg.Select a) (told.Selected found) l crosses asks x h = subst (λ (y : Regs). AreAhead seen y.points) (sym x.2) ((ahead_stays seen r h).selects a r.store (λ k. l))
reg_ahead seen r s f (reg.Select a) (told.Recycled e) l crosses asks x h = ahead_same seen r s x.1 h
reg_ahead seen r s f (reg.Select a) (told.NotDrawn d) l crosses asks x h = absurd x
reg_ahead seen r s f (reg.Select a) told.Done l crosses asks x h = absurd x
reg_ahead seen r s f (reg.Select a) (told.Passed p) l crosses asks x h = absurd x
reg_ahead seen r s f (reg.Select a) told.NoMemory l crosses asks x h = ahead_same seen r s x h
reg_ahead seen r s f (reg.DrawMem floor) (told.Number n) l crosses asks x h = subst (λ (y : Regs). AreAhead seen y.points) (sym x.1) ((ahead_stays seen r h).draws_mem floor)
reg_ahead seen r s f (reg.DrawMem floor) (told.Selected found) l crosses asks x h = absurd x
reg_ahead seen r s f (reg.DrawMem floor) (told.Recycled e) l crosses asks x h = absurd x
reg_ahead seen r s f (reg.DrawMem floor) (told.NotDrawn d) l crosses asks x h = ahead_same seen r s x.1 h
reg_ahead seen r s f (reg.DrawMem floor) told.Done l crosses asks x h = absurd x
reg_ahead seen r s f (reg.DrawMem floor) (told.Passed p) l crosses asks x h = absurd x
reg_ahead seen r s f (reg.DrawMem floor) told.NoMemory l crosses asks x h = absurd x
reg_ahead seen r s f (reg.DrawStore floor) (told.Number n) l crosses asks x h = subst (λ (y : Regs). AreAhead seen y.points) (sym x.1) ((ahead_stays seen r h).draws_store floor)
reg_ahead seen r s f (reg.DrawStore floor) (told.Selected found) l crosses asks x h = absurd x
reg_ahead seen r s f (reg.DrawStore floor) (told.Recycled e) l crosses asks x h = absurd x
reg_ahead seen r s f (reg.DrawStore floor) (told.NotDrawn d) l crosses asks x h = ahead_same seen r s x.1 h
reg_ahead seen r s f (reg.DrawStore floor) told.Done l crosses asks x h = absurd x
reg_ahead seen r s f (reg.DrawStore floor) (told.Passed p) l crosses asks x h = absurd x
reg_ahead seen r s f (reg.DrawStore floor) told.NoMemory l crosses asks x h = absurd x
reg_ahead seen r s f (reg.Check ca cb) (told.Number n) l crosses asks x h = absurd x
reg_ahead seen r s f (reg.Check ca cb) (told.Selected found) l crosses asks x h = absurd x
reg_ahead seen r s f (reg.Check ca cb) (told.Recycled e) l crosses asks x h = absurd x
reg_ahead seen r s f (reg.Check ca cb) (told.NotDrawn d) l crosses asks x h = absurd x
reg_ahead seen r s f (reg.Check ca cb) told.Done l crosses asks x h = subst (λ (y : Regs). AreAhead seen y.points) (sym x.3) ((ahead_stays seen r h).checks ca cb (λ k. crosses ca cb asks.0 asks.1 k))
reg_ahead seen r s f (reg.Check ca cb) (told.Passed p) l crosses asks x h = ahead_same seen r s x.1 h
reg_ahead seen r s f (reg.Check ca cb) told.NoMemory l crosses asks x h = absurd x

stays_ahead : (seen : Counters) (r s : Regs) (f : Facts) (asked : Wish) (got : Got) → seen.store ≤ r.store → Crosses seen f → FitsFacts f asked → WishFits asked got → RegsAnswer r asked got s → AreAhead seen r.points → AreAhead seen s.points
stays_ahead seen r s f (wish.Mem asked) (given.Engine reply) l crosses asks fits x h = ahead_same seen r s x h
stays_ahead seen r s f (wish.Mem asked) (given.Reg reply) l crosses asks fits x h = absurd fits
stays_ahead seen r s f (wish.Store asked) (given.Engine reply) l crosses asks fits x h = ahead_same seen r s x h
stays_ahead seen r s f (wish.Store asked) (given.Reg reply) l crosses asks fits x h = absurd fits
stays_ahead seen r s f (wish.Reg asked) (given.Engine reply) l crosses asks fits x h = absurd fits
stays_ahead seen r s f (wish.Reg asked) (given.Reg reply) l crosses asks fits x h = reg_ahead seen r s f asked reply l crosses asks x h

-- ---- numbers that are drawn

-- who draws in the memory engine has drawn nothing in the storage engine yet
draws_crossing : (seen : Counters) (r s : Regs) (f g : Facts) → seen.store ≤ r.store → Crosses seen f → Change r s f g → ((g.drew_mem ≡ f.drew_mem) ⊎ (g.drew_store ≡ None)) → Crosses seen g
draws_crossing seen r s f g l h ch first ca cb a b past = ⊎_elim
    (λ (e : g.drew_mem ≡ f.drew_mem). ⊎_elim
    (λ (k : g.drew_store ≡ f.drew_store). h ca cb (sym e ∙ a) (sym k ∙ b) past)
    (λ (k : (n : ℕ) × (g.drew_store ≡ Some n) × (r.store < n) × (n ≤ s.store)).
    let is : k.0 ≡ cb = some_same (sym k.1 ∙ b) in
    let m : r.store < k.0 = k.2 in
    omega arith)
    ch.drew_store)
    (λ (none : g.drew_store ≡ None). some_clash (sym b ∙ none))
    first

drew_first : (f : Facts) (asked : Wish) (got : Got) → FitsFacts f asked → WishFits asked got → (let g : Facts = facts_after asked got f in (g.drew_mem ≡ f.drew_mem) ⊎ (g.drew_store ≡ None))
drew_first f (wish.Mem (call.Open tx n)) (given.Engine answer.Done) asks fits = inl refl
drew_first f (wish.Mem (call.Open tx n)) (given.Engine (answer.Found x)) asks fits = inl refl
drew_first f (wish.Mem (call.Open tx n)) (given.Engine (answer.Rows x)) asks fits = inl refl
drew_first f (wish.Mem (call.Open tx n)) (given.Engine (answer.Number x)) asks fits = inl refl
drew_first f (wish.Mem (call.Open tx n)) (given.Engine (answer.Commits x)) asks fits = inl refl
drew_first f (wish.Mem (call.Open tx n)) (given.Engine (answer.Fault x)) asks fits = inl refl
drew_first f (wish.Mem (call.Open tx n)) (given.Reg q) asks fits = absurd fits
drew_first f (wish.Mem (call.Get tx t key)) got asks fits = inl refl
drew_first f (wish.Mem (call.Scan tx t)) got asks fits = inl refl
drew_first f (wish.Mem (call.Put tx t key row)) got asks fits = inl refl
drew_first f (wish.Mem (call.Close tx)) got asks fits = inl refl
drew_first f (wish.Mem (call.Stamp tx n)) got asks fits = inl refl
drew_first f (wish.Mem (call.Void tx n)) got asks fits = inl refl
drew_first f (wish.Mem (call.DropTx tx)) got asks fits = inl refl
drew_first f (wish.Mem call.Horizon) got asks fits = inl refl
drew_first f (wish.Mem (call.Records from to)) got asks fits = inl refl
drew_first f (wish.Mem (call.Purge upto)) got asks fits = inl refl
drew_first f (wish.Store (call.Open tx n)) (given.Engine answer.Done) asks fits = inl refl
drew_first f (wish.Store (call.Open tx n)) (given.Engine (answer.Found x)) asks fits = inl refl
drew_first f (wish.Store (call.Open tx n)) (given.Engine (answer.Rows x)) asks fits = inl refl
drew_first f (wish.Store (call.Open tx n)) (given.Engine (answer.Number x)) asks fits = inl refl
drew_first f (wish.Store (call.Open tx n)) (given.Engine (answer.Commits x)) asks fits = inl refl
drew_first f (wish.Store (call.Open tx n)) (given.Engine (answer.Fault x)) asks fits = inl refl
drew_first f (wish.Store (call.Open tx n)) (given.Reg q) asks fits = absurd fits
drew_first f (wish.Store (call.Get tx t key)) got asks fits = inl refl
drew_first f (wish.Store (call.Scan tx t)) got asks fits = inl refl
drew_first f (wish.Store (call.Put tx t key row)) got asks fits = inl refl
drew_first f (wish.Store (call.Close tx)) got asks fits = inl refl
drew_first f (wish.Store (call.Stamp tx n)) got asks fits = inl refl
drew_first f (wish.Store (call.Void tx n)) got asks fits = inl refl
drew_first f (wish.Store (call.DropTx tx)) got asks fits = inl refl
drew_first f (wish.Store call.Horizon) got asks fits = inl refl
drew_first f (wish.Store (call.Records from to)) got asks fits = inl refl
drew_first f (wish.Store (call.Purge upto)) got asks fits = inl refl
drew_first f (wish.Reg reg.Begin) (given.Engine q) asks fits = absurd fits
drew_first f (wish.Reg reg.Begin) (given.Reg (told.Number n)) asks fits = inl refl
drew_first f (wish.Reg reg.Begin) (given.Reg (told.Selected found)) asks fits = inl refl
drew_first f (wish.Reg reg.Begin) (given.Reg (told.Recycled e)) asks fits = inl refl
drew_first f (wish.Reg reg.Begin) (given.Reg (told.NotDrawn d)) asks fits = inl refl
drew_first f (wish.Reg reg.Begin) (given.Reg told.Done) asks fits = inl refl
drew_first f (wish.Reg reg.Begin) (given.Reg (told.Passed p)) asks fits = inl refl
drew_first f (wish.Reg reg.Begin) (given.Reg told.NoMemory) asks fits = inl refl
drew_first f (wish.Reg reg.StoreNow) (given.Engine q) asks fits = absurd fits
drew_first f (wish.Reg reg.StoreNow) (given.Reg (told.Number n)) asks fits = inl refl
drew_first f (wish.Reg reg.StoreNow) (given.Reg (told.Selected found)) asks fits = inl refl
drew_first f (wish.Reg reg.StoreNow) (given.Reg (told.Recycled e)) asks fits = inl refl
drew_first f (wish.Reg reg.StoreNow) (given.Reg (told.NotDrawn d)) asks fits = inl refl
drew_first f (wish.Reg reg.StoreNow) (given.Reg told.Done) asks fits = inl refl
drew_first f (wish.Reg reg.StoreNow) (given.Reg (told.Passed p)) asks fits = inl refl
drew_first f (wish.Reg reg.StoreNow) (given.Reg told.NoMemory) asks fits = inl refl
drew_first f (wish.Reg (reg.Select a)) (given.Engine q) asks fits = absurd fits
drew_first f (wish.Reg (reg.Select a)) (given.Reg (told.Number n)) asks fits = inl refl
drew_first f (wish.Reg (reg.Select a)) (given.Reg (told.Selected found)) asks fits = inl (⊎_elim (λ (t : found.made ≡ true). rw t refl) (λ (t : found.made ≡ false). rw t refl) (cases_Bool found.made))
drew_first f (wish.Reg (reg.Select a)) (given.Reg (told.Recycled e)) asks fits = inl refl
drew_first f (wish.Reg (reg.Select a)) (given.Reg (told.NotDrawn d)) asks fits = inl refl
drew_first f (wish.Reg (reg.Select a)) (given.Reg told.Done) asks fits = inl refl
drew_first f (wish.Reg (reg.Select a)) (given.Reg (told.Passed p)) asks fits = inl refl
drew_first f (wish.Reg (reg.Select a)) (given.Reg told.NoMemory) asks fits = inl refl
drew_first f (wish.Reg (reg.DrawMem floor)) (given.Engine q) asks fits = absurd fits
drew_first f (wish.Reg (reg.DrawMem floor)) (given.Reg (told.Number n)) asks fits = inr asks.1
drew_first f (wish.Reg (reg.DrawMem floor)) (given.Reg (told.Selected found)) asks fits = inl refl
drew_first f (wish.Reg (reg.DrawMem floor)) (given.Reg (told.Recycled e)) asks fits = inl refl
drew_first f (wish.Reg (reg.DrawMem floor)) (given.Reg (told.NotDrawn d)) asks fits = inl refl
drew_first f (wish.Reg (reg.DrawMem floor)) (given.Reg told.Done) asks fits = inl refl
drew_first f (wish.Reg (reg.DrawMem floor)) (given.Reg (told.Passed p)) asks fits = inl refl
drew_first f (wish.Reg (reg.DrawMem floor)) (given.Reg told.NoMemory) asks fits = inl refl
drew_first f (wish.Reg (reg.DrawStore floor)) (given.Engine q) asks fits = absurd fits
drew_first f (wish.Reg (reg.DrawStore floor)) (given.Reg (told.Number n)) asks fits = inl refl
drew_first f (wish.Reg (reg.DrawStore floor)) (given.Reg (told.Selected found)) asks fits = inl refl
drew_first f (wish.Reg (reg.DrawStore floor)) (given.Reg (told.Recycled e)) asks fits = inl refl
drew_first f (wish.Reg (reg.DrawStore floor)) (given.Reg (told.NotDrawn d)) asks fits = inl refl
drew_first f (wish.Reg (reg.DrawStore floor)) (given.Reg told.Done) asks fits = inl refl
drew_first f (wish.Reg (reg.DrawStore floor)) (given.Reg (told.Passed p)) asks fits = inl refl
drew_first f (wish.Reg (reg.DrawStore floor)) (given.Reg told.NoMemory) asks fits = inl refl
drew_first f (wish.Reg (reg.Check ca cb)) (given.Engine q) asks fits = absurd fits
drew_first f (wish.Reg (reg.Check ca cb)) (given.Reg (told.Number n)) asks fits = inl refl
drew_first f (wish.Reg (reg.Check ca cb)) (given.Reg (told.Selected found)) asks fits = inl refl
drew_first f (wish.Reg (reg.Check ca cb)) (given.Reg (told.Recycled e)) asks fits = inl refl
drew_first f (wish.Reg (reg.Check ca cb)) (given.Reg (told.NotDrawn d)) asks fits = inl refl
drew_first f (wish.Reg (reg.Check ca cb)) (given.Reg told.Done) asks fits = inl refl
drew_first f (wish.Reg (reg.Check ca cb)) (given.Reg (told.Passed p)) asks fits = inl refl
drew_first f (wish.Reg (reg.Check ca cb)) (given.Reg told.NoMemory) asks fits = inl refl

-- a call of one transaction keeps what was seen before it
pub glimpse_stays : (c d : Common) (pre : List Trace) (t : Trace) (post : List Trace) (asked : Wish) (got : Got) (seen : Counters) → FitsFacts t.facts asked → WishFits asked got → Answered c asked got d
    → Change c.regs d.regs t.facts (facts_after asked got t.facts) → Glimpse c (pre ++ t ∷ post) seen → Glimpse d (pre ++ trace_after asked got t ∷ post) seen
glimpse_stays c d pre t post asked got seen asks fits answered ch h =
    let mem : c.regs.mem ≤ d.regs.mem = ch.mem in
    let store : c.regs.store ≤ d.regs.store = ch.store in
    let before_mem : seen.mem ≤ c.regs.mem = h.mem in
    let before_store : seen.store ≤ c.regs.store = h.store in
    let own : Crosses seen t.facts = each_focus (λ (u : Trace). Crosses seen u.facts) pre t post h.crosses in
    record {
      mem = omega arith;
      store = omega arith;
      ahead = stays_ahead seen c.regs d.regs t.facts asked got before_store own asks fits answered.regs h.ahead;
      crosses = each_middle (λ (u : Trace). Crosses seen u.facts) pre (trace_after asked got t) post (each_others (λ (u : Trace). Crosses seen u.facts) pre t post h.crosses)
          (draws_crossing seen c.regs d.regs t.facts (facts_after asked got t.facts) before_store own ch (drew_first t.facts asked got asks fits));
    }
