-- No session goes back.
use Rattle.std.specs.Prelude.{ℕ, List, [], ◌∷◌, ◌++◌, Option, Some, None, Result, Ok, Err, Bool, true, false, cond, not, ◌&&◌, ◌+◌, ◌-◌, ◌≡◌, ◌<◌, ◌≤◌, is_some, nat_lt, length}
use Rattle.std.proofs.Common.{refl, sym, ap, subst, ◌∙◌, ⊎_elim, arith}
use Rattle.std.specs.List.{filter}
use Rattle.std.proofs.lemmas.Bool.{cases_Bool, cond_both, cond-true, cond-false, false≢true, and_parts, not-true}
use Rattle.sk_rows.specs.declared.value.Value.{Value}
use Rattle.sk_model.specs.declared.label.Label.{Label}
use Rattle.sk_model.specs.declared.engine.EngineName.{EngineName}
use Rattle.sk_model.specs.declared.engine.EngineName.TheVariants.{Mem, Store}
use Rattle.sk_model.specs.declared.record.Ending.{Ending}
use Rattle.sk_model.specs.declared.record.Ending.TheVariants as ending
use Rattle.sk_model.specs.declared.commit.Write.{Write}
use Rattle.sk_model.specs.declared.point.Point.{Point}
use Rattle.sk_model.specs.declared.point.Recycled.{Recycled}
use Rattle.sk_model.specs.declared.step.StepName.{StepName}
use Rattle.sk_model.specs.declared.step.StepName.TheVariants as names
use Rattle.sk_model.specs.declared.call.EngineCall.{EngineCall}
use Rattle.sk_model.specs.declared.call.EngineCall.TheVariants as call
use Rattle.sk_model.specs.declared.call.EngineReply.{EngineReply}
use Rattle.sk_model.specs.declared.call.EngineReply.TheVariants.{Done, Found, Rows, Number, Commits, Fault}
use Rattle.sk_model.specs.Engine.{opening_of}
use Rattle.sk_model.proofs.Lists.{Each, each_weaker, each_both}
use Rattle.sk_weave.specs.declared.answer.Selected.{Selected}
use Rattle.sk_weave.specs.declared.answer.DrawFault.{DrawFault}
use Rattle.sk_weave.specs.declared.answer.DrawFault.TheVariants.{Spent, Early}
use Rattle.sk_weave.specs.AheadLaws.{Counters, AreAhead}
use Rattle.sk_weave.specs.Points.{selection, commit_point, Pair, before_b}
use Rattle.sk_weave.proofs.Aheads.{ahead_stays, fresh as not_before}
use Rattle.sk_weave.proofs.Registers.{selected_pair}
use Rattle.sk_weave.specs.Registry.{Regs, IsSound, selected, after_selection, drawn, passes, after_check}
use Rattle.sk_linked.specs.Reads.{snapshot_at}
use Rattle.sk_linked.specs.declared.event.Event.{Event}
use Rattle.sk_linked.specs.declared.event.Event.TheVariants as event
use Rattle.sk_linked.specs.declared.event.CoreReply.{CoreReply}
use Rattle.sk_linked.specs.declared.event.CoreReply.TheVariants as reply
use Rattle.sk_linked.specs.Traces.{drawn_at, In}
use Rattle.sk_linked.specs.State.{Both, of, with_of, other, Stage, Running, Stepping, Leaving, Over, Actor, Core, rest_of, table_of, counter}
use Rattle.sk_linked.specs.Plans.{Plan, nothing, answer, is_running, is_over, is_cross, is_undrawn, is_untouched, is_free, is_opened, both_false, select_plan, selects, open_plan, opens_store, engine_of, read_call, read_plan, put_call, put_plan, close_of, draw_of, stamp_of, steps_in, todo, comes_next, behind, stepped, close_plan, with_drawn, after_draw, floor_in, draw_plan, checks, stage_behind, may_stamp_in, stamps, stage_left, may_close, in_order, may_draw, may_check, may_stamp_now, may_leave, plan_for, of_session}
use Rattle.sk_linked.specs.Machine.{recorded, put_actor, applied}
use Rattle.sk_linked.specs.Invariant.{Invariant}
use Rattle.sk_linked.proofs.Members.{in_each, each_in, some_clash, some_same}
use Rattle.sk_linked.proofs.Moving.{select_counter, select_sound, Moves, whole, first_drawn, points_drawn, select_moves, check_is, append_moves, drawn_ok}
use Rattle.sk_linked.proofs.Applying.{Other, each_put_actor}
use Rattle.sk_linked.proofs.Events.{none_is}
use Rattle.sk_linked.proofs.Deciding.{draw_moves}
use Rattle.sk_linked.proofs.Seeing.{counters, SeesAt, Sees, Later, SawAt, Follow, Counted, Freshly, pairs_put, count_grows}

-- what a plan for a transaction that is there changes of all this
pub record Delta (k : Core) (r : Actor) (p : Plan) : Type 0 where
  pub label : p.who.label ≡ r.label
  pub seen : p.who.seen ≡ r.seen
  pub was : is_over r.stage ≡ false
  pub up : (s : EngineName) → counter s k.regs ≤ counter s p.regs
  pub sees : SeesAt p.regs p.who.seen p.who.opened p.who.chosen
  pub aheads : Each (λ (x : Actor). AreAhead (counters x.seen) p.regs.points) k.actors
  pub later : Each (Later p.who) k.actors
  pub itself : Later p.who p.who

sees_more : (a b : Regs) (x : Actor) → ((s : EngineName) → counter s a ≤ counter s b) → Sees a x → AreAhead (counters x.seen) b.points → Sees b x
sees_more a b x up h ahead = record {
  upto = λ s. let l : of s x.seen ≤ counter s a = h.upto s in let u : counter s a ≤ counter s b = up s in omega (arith, l, u);
  opened_past = λ s n e. let l : n ≤ counter s a = (h.opened_past s n e).1 in let u : counter s a ≤ counter s b = up s in ((h.opened_past s n e).0, omega (arith, l, u));
  chosen_past = λ n e. let l : n ≤ a.store = (h.chosen_past n e).1 in let u : a.store ≤ b.store = up Store in ((h.chosen_past n e).0, omega (arith, l, u));
  anchor = h.anchor;
  ahead = ahead;
}

less_self : {A : Type 0} (n : ℕ) → n < n → A
less_self n l = absurd (omega (arith, l))

pub applied_fresh : (k : Core) (e : Event) (p : Plan) (r : Actor) → Invariant k → In r k.actors → Freshly k → Delta k r p → Freshly (applied k e p)
applied_fresh k e p r inv i h d = record {
  sees = each_put_actor (Sees p.regs) (recorded k e p) k.actors d.sees
      (each_weaker (λ (x : Actor). Sees k.regs x × AreAhead (counters x.seen) p.regs.points) (Other (Sees p.regs) (recorded k e p)) (λ x q f. sees_more k.regs p.regs x d.up q.0 q.1) k.actors (each_both (Sees k.regs) (λ (x : Actor). AreAhead (counters x.seen) p.regs.points) k.actors h.sees d.aheads)) inv.linked.distinct;
  later = pairs_put Later (recorded k e p) k.actors inv.linked.distinct d.itself
      (each_weaker (Later p.who) (Other (Later p.who) (recorded k e p)) (λ x q f. q) k.actors d.later)
      (in_each (Other (λ x. Later x (recorded k e p)) (recorded k e p)) k.actors (λ x j f. subst (λ (seen : Both ℕ). (m n : ℕ) → x.drew.mem ≡ Some m → x.drew.store ≡ Some n → seen.mem < m → seen.store < n) (sym d.seen) (each_in (Later x) k.actors r (each_in (λ (t : Actor). Each (Later t) k.actors) k.actors x h.later j) i)))
      h.later;
  follows = pairs_put Follow (recorded k e p) k.actors inv.linked.distinct (λ s l. less_self p.who.label.k l)
      (in_each (Other (Follow (recorded k e p)) (recorded k e p)) k.actors (λ x j f s l.
      let old : SawAt r.stage r.opened r.drew x.seen = each_in (Follow r) k.actors x (each_in (λ (t : Actor). Each (Follow t) k.actors) k.actors r h.follows i) j (ap (λ (l : Label). l.session) (sym d.label) ∙ s) (subst (λ (l : Label). l.k < x.label.k) d.label l) in
      absurd (false≢true (sym d.was ∙ old.over))))
      (in_each (Other (λ x. Follow x (recorded k e p)) (recorded k e p)) k.actors (λ x j f s l.
      subst (SawAt x.stage x.opened x.drew) (sym d.seen)
      (each_in (Follow x) k.actors r (each_in (λ (t : Actor). Each (Follow t) k.actors) k.actors x h.follows j) i (s ∙ ap (λ (l : Label). l.session) d.label) (subst (λ (m : Label). x.label.k < m.k) d.label l))))
      h.follows;
  counted = each_put_actor (Counted (put_actor (recorded k e p) k.actors)) (recorded k e p) k.actors
      (subst (λ (l : Label). l.k ≤ length (filter (of_session l) (put_actor (recorded k e p) k.actors))) (sym d.label)
      (let old : r.label.k ≤ length (filter (of_session r.label) k.actors) = each_in (Counted k.actors) k.actors r h.counted i in let g : length (filter (of_session r.label) k.actors) ≤ length (filter (of_session r.label) (put_actor (recorded k e p) k.actors)) = count_grows r.label (recorded k e p) k.actors in omega (arith, old, g)))
      (each_weaker (Counted k.actors) (Other (Counted (put_actor (recorded k e p) k.actors)) (recorded k e p)) (λ x old f. let g : length (filter (of_session x.label) k.actors) ≤ length (filter (of_session x.label) (put_actor (recorded k e p) k.actors)) = count_grows x.label (recorded k e p) k.actors in omega (arith, old, g)) k.actors h.counted) inv.linked.distinct;
}

-- ---- what a selection picks

before_upto : (q : Point) → before_b q ≤ q.b
before_upto q = cond_both q.commit (q.b - 1) q.b (λ x. x ≤ q.b) (λ e. omega arith) (λ e. omega arith)

pair_upto : (points : List Point) (a b c : ℕ) → Each (λ (q : Point). q.b ≤ c) points → Pair points a b → b ≤ c
pair_upto [] a b c h p = absurd p
pair_upto (q ∷ qs) a b c h p = ⊎_elim
    (λ (e : (q.a ≡ a) × (q.b ≡ b)). subst (λ n. n ≤ c) e.1 h.0)
    (λ (k : cond (nat_lt a q.a) (b ≡ before_b q) (Pair qs a b)). go (nat_lt a q.a) (λ m. pair_upto qs a b c h.1 m) k)
    p
  where
    go : (t : Bool) → (Pair qs a b → b ≤ c) → cond t (b ≡ before_b q) (Pair qs a b) → b ≤ c
    go true ih e = let l : q.b ≤ c = h.0 in let m : before_b q ≤ q.b = before_upto q in omega (arith, e, l, m)
    go false ih k = ih k

-- no selection is past the storage counter
selected_upto : (r : Regs) → IsSound r → (a : ℕ) → a ≤ r.mem → (s : Selected) → selected r a r.store ≡ Ok s → s.b ≤ r.store
selected_upto r sound a l s e =
    let later : Regs = after_selection r a r.store in
    let sound_then : IsSound later = select_sound r a r.store sound l (omega arith) in
    let rest : Each (λ (q : Point). q.b ≤ later.store) (rest_of later.points) = each_weaker (λ (q : Point). (q.a ≤ later.mem) × (q.b ≤ later.store)) (λ (q : Point). q.b ≤ later.store) (λ q k. k.1) (rest_of later.points) (points_drawn later sound_then) in
    let all : Each (λ (q : Point). q.b ≤ later.store) later.points = subst (λ qs. Each (λ (q : Point). q.b ≤ later.store) qs) (sym (whole later sound_then)) (first_drawn later sound_then Store, rest) in
    subst (λ n. s.b ≤ n) (select_counter r a r.store s e Store) (pair_upto later.points a s.b later.store all (selected_pair r a r.store s sound e))

draw_ahead : (seen : Counters) (r : Regs) (name : EngineName) (floor : ℕ) → AreAhead seen r.points → AreAhead seen (after_draw name r floor).points
draw_ahead seen r Mem floor h = (ahead_stays seen r h).draws_mem floor
draw_ahead seen r Store floor h = (ahead_stays seen r h).draws_store floor

-- ---- each plan

running_not_over : (st : Stage) → is_running st ≡ true → is_over st ≡ false
running_not_over Running e = refl
running_not_over (Stepping steps) e = refl
running_not_over Leaving e = refl
running_not_over Over e = absurd (false≢true e)

next_not_over : (x : StepName) (w : Both Bool) (st : Stage) → comes_next x (steps_in w st) ≡ true → is_over st ≡ false
next_not_over x w Running e = refl
next_not_over x w (Stepping steps) e = refl
next_not_over x w Leaving e = refl
next_not_over x w Over e = absurd (false≢true e)

abbrev pub Deltas : Core → Actor → Option Plan → Type 0
Deltas k r None = Unit {0}
Deltas k r (Some p) = Delta k r p

deltas_when : (k : Core) (r : Actor) (b : Bool) (o : Option Plan) → (b ≡ true → Deltas k r o) → Deltas k r (cond b o None)
deltas_when k r b o f = cond_both b o None (λ (x : Option Plan). Deltas k r x) f (λ e. tt)

module _ (k : Core) (inv : Invariant k) (h : Freshly k) (r : Actor) (i : In r k.actors) where
  mine : Sees k.regs r
  mine = each_in (Sees k.regs) k.actors r h.sees i

  all_aheads : Each (λ (x : Actor). AreAhead (counters x.seen) k.regs.points) k.actors
  all_aheads = each_weaker (Sees k.regs) (λ (x : Actor). AreAhead (counters x.seen) k.regs.points) (λ x q. q.ahead) k.actors h.sees

  laters : Each (Later r) k.actors
  laters = each_in (λ (t : Actor). Each (Later t) k.actors) k.actors r h.later i

  own_later : Later r r
  own_later = each_in (Later r) k.actors r laters i

  -- a plan that leaves the registry, what was opened and what was drawn
  calm : is_over r.stage ≡ false → (said : CoreReply) (calls : Both (List EngineCall)) (wrote shut : Both Bool) (committed : Bool) (stage : Stage) (end : Ending) (made : List Point)
      → Delta k r (record { reply = said; calls = calls; regs = k.regs; who = record r { wrote = wrote; shut = shut; committed = committed; stage = stage; ending = end; made = made } })
  calm was said calls wrote shut committed stage end made = record { label = refl; seen = refl; was = was; up = λ s. omega arith; sees = mine; aheads = all_aheads; later = laters; itself = own_later }

  free_over : is_free r ≡ true → is_over r.stage ≡ false
  free_over f = running_not_over r.stage (and_parts (is_running r.stage) (is_untouched r) f).0

  -- what each saw stays behind the points, where the call keeps it so
  all_ahead : (regs : Regs) → ((x : Actor) → Sees k.regs x → AreAhead (counters x.seen) regs.points) → Each (λ (x : Actor). AreAhead (counters x.seen) regs.points) k.actors
  all_ahead regs f = each_weaker (Sees k.regs) (λ (x : Actor). AreAhead (counters x.seen) regs.points) f k.actors h.sees

  select_delta : (was : is_over r.stage ≡ false) (a : ℕ) → r.opened.mem ≡ Some a → (x : Result Selected Recycled) → selected k.regs a k.regs.store ≡ x → Delta k r (select_plan k r a x)
  select_delta was a anchor (Ok s) e =
      let moves : Moves k.regs (after_selection k.regs a k.regs.store) (cond s.made (selection a s.b ∷ []) []) = select_moves k.regs a k.regs.store s e in
      let seen_mem : a ≡ r.seen.mem = mine.anchor a anchor in
      let drawn_there : r.seen.mem ≤ k.regs.mem = mine.upto Mem in
      let aheads : Each (λ (x : Actor). AreAhead (counters x.seen) (after_selection k.regs a k.regs.store).points) k.actors = all_ahead (after_selection k.regs a k.regs.store) (λ x q. (ahead_stays (counters x.seen) k.regs q.ahead).selects a k.regs.store (λ l. q.upto Store)) in
      let more : SeesAt (after_selection k.regs a k.regs.store) r.seen r.opened r.chosen = sees_more k.regs (after_selection k.regs a k.regs.store) r moves.counters mine (each_in (λ (x : Actor). AreAhead (counters x.seen) (after_selection k.regs a k.regs.store).points) k.actors r aheads i) in
      record {
        label = refl;
        seen = refl;
        was = was;
        up = moves.counters;
        sees = record {
          upto = more.upto;
          opened_past = more.opened_past;
          chosen_past = λ b q.
              let same : s.b ≡ b = some_same q in
              let low : r.seen.store ≤ s.b = not_before (counters r.seen) k.regs a k.regs.store s mine.ahead (omega (arith, seen_mem)) (mine.upto Store) e in
              let high : s.b ≤ k.regs.store = selected_upto k.regs inv.sound a (omega (arith, seen_mem, drawn_there)) s e in
              let u : k.regs.store ≤ (after_selection k.regs a k.regs.store).store = moves.counters Store in
              (omega (arith, same, low), omega (arith, same, high, u));
          anchor = more.anchor;
          ahead = more.ahead;
        };
        aheads = aheads;
        later = laters;
        itself = own_later;
      }
  select_delta was a anchor (Err q) e = calm was _ _ r.wrote both_false r.committed Over ending.Recycled r.made

  selects_deltas : is_over r.stage ≡ false → (m : Option ℕ) → r.opened.mem ≡ m → (c : Option ℕ) → Deltas k r (selects k r m c)
  selects_deltas was (Some a) e None = select_delta was a e (selected k.regs a k.regs.store) refl
  selects_deltas was (Some a) e (Some b) = tt
  selects_deltas was None e c = tt

  open_deltas : is_over r.stage ≡ false → (c : Option ℕ) → r.chosen ≡ c → (s : Option ℕ) → Deltas k r (opens_store k r c s)
  open_deltas was (Some b) e None = at (answer k Store (call.Open r.label b))
    where
      opened_past : (s : EngineName) (a : ℕ) → snapshot_at s (record r.opened { store = Some b }) ≡ Some a → (of s r.seen ≤ a) × (a ≤ counter s k.regs)
      opened_past Mem a q = mine.opened_past Mem a q
      opened_past Store a q = mine.chosen_past a (e ∙ q)

      at : (a : EngineReply) → Deltas k r (open_plan k r b a)
      at Done = record {
        label = refl;
        seen = refl;
        was = was;
        up = λ s. omega arith;
        sees = record { upto = mine.upto; opened_past = opened_past; chosen_past = mine.chosen_past; anchor = mine.anchor; ahead = mine.ahead };
        aheads = all_aheads;
        later = laters;
        itself = own_later;
      }
      at (Fault f) = calm was _ _ r.wrote both_false r.committed Over ending.Old r.made
      at (Found row) = tt
      at (Rows rows) = tt
      at (Number n) = tt
      at (Commits cs) = tt
  open_deltas was (Some b) e (Some s) = tt
  open_deltas was None e s = tt

  read_deltas : is_over r.stage ≡ false → (name : EngineName) (key : Option Value) (c : EngineCall) (a : EngineReply) → Deltas k r (read_plan k r name key c a)
  read_deltas was name key c (Found row) = calm was _ _ r.wrote r.shut r.committed r.stage r.ending r.made
  read_deltas was name key c (Rows rows) = calm was _ _ r.wrote r.shut r.committed r.stage r.ending r.made
  read_deltas was name key c (Fault f) = calm was _ _ r.wrote r.shut r.committed r.stage r.ending r.made
  read_deltas was name key c Done = tt
  read_deltas was name key c (Number n) = tt
  read_deltas was name key c (Commits cs) = tt

  put_deltas : is_over r.stage ≡ false → (name : EngineName) (w : Write) (a : EngineReply) → Deltas k r (put_plan k r name w a)
  put_deltas was name w Done = calm was _ _ (with_of name true r.wrote) r.shut r.committed r.stage r.ending r.made
  put_deltas was name w (Fault f) = calm was _ _ r.wrote both_false r.committed Over ending.Conflict r.made
  put_deltas was name w (Found row) = tt
  put_deltas was name w (Rows rows) = tt
  put_deltas was name w (Number n) = tt
  put_deltas was name w (Commits cs) = tt

  close_deltas : is_over r.stage ≡ false → (name : EngineName) (a : EngineReply) → Deltas k r (close_plan k r name a)
  close_deltas was name (Number floor) = calm was _ _ r.wrote (with_of name true r.shut) r.committed (Stepping (behind (todo r))) r.ending r.made
  close_deltas was name Done = tt
  close_deltas was name (Found row) = tt
  close_deltas was name (Rows rows) = tt
  close_deltas was name (Commits cs) = tt
  close_deltas was name (Fault f) = tt

  -- a draw: behind what anyone saw
  drawn_late : (name : EngineName) (n : ℕ) → n ≡ counter name k.regs + 1 → in_order r name ≡ true → (x : Actor) → Sees k.regs x → Later r x → (m s : ℕ) → (with_drawn name n r.drew).mem ≡ Some m → (with_drawn name n r.drew).store ≡ Some s → x.seen.mem < m → x.seen.store < s
  drawn_late Mem n e o x q l m s a b lt = none_some (none_is r.drew.store o) b
    where
      none_some : {A : Type 0} → r.drew.store ≡ None → r.drew.store ≡ Some s → A
      none_some f g = some_clash (sym g ∙ f)
  drawn_late Store n e o x q l m s a b lt = let same : n ≡ s = some_same b in let u : x.seen.store ≤ k.regs.store = q.upto Store in omega (arith, same, u, e)

  draw_deltas : is_over r.stage ≡ false → (name : EngineName) → in_order r name ≡ true → (x : Result ℕ DrawFault) → drawn (counter name k.regs) (floor_in k r name) ≡ x → Deltas k r (draw_plan k r name x)
  draw_deltas was name o (Ok n) e =
      let moves : Moves k.regs (after_draw name k.regs (floor_in k r name)) [] = draw_moves k.regs name (floor_in k r name) n e in
      let late : n ≡ counter name k.regs + 1 = (drawn_ok (counter name k.regs) (floor_in k r name) n e).0 in
      let aheads : Each (λ (x : Actor). AreAhead (counters x.seen) (after_draw name k.regs (floor_in k r name)).points) k.actors = all_ahead (after_draw name k.regs (floor_in k r name)) (λ x q. draw_ahead (counters x.seen) k.regs name (floor_in k r name) q.ahead) in
      record {
        label = refl;
        seen = refl;
        was = was;
        up = moves.counters;
        sees = sees_more k.regs (after_draw name k.regs (floor_in k r name)) r moves.counters mine (each_in (λ (x : Actor). AreAhead (counters x.seen) (after_draw name k.regs (floor_in k r name)).points) k.actors r aheads i);
        aheads = aheads;
        later = each_weaker (λ (x : Actor). Sees k.regs x × Later r x) _ (λ x q. drawn_late name n late o x q.0 q.1) k.actors (each_both (Sees k.regs) (Later r) k.actors h.sees laters);
        itself = drawn_late name n late o r mine own_later;
      }
  draw_deltas was name o (Err Spent) e = calm was _ _ r.wrote both_false r.committed Over ending.Spent r.made
  draw_deltas was name o (Err (Early floor counter)) e = tt

  check_deltas : is_over r.stage ≡ false → (m : Option ℕ) → r.drew.mem ≡ m → (s : Option ℕ) → r.drew.store ≡ s → Deltas k r (checks k r m s)
  check_deltas was (Some ca) em (Some cb) es = ⊎_elim
      (λ (t : passes k.regs ca cb ≡ true). subst (Delta k r) (sym (cond-true (passes k.regs ca cb) _ _ t)) (passed t))
      (λ (f : passes k.regs ca cb ≡ false). subst (Delta k r) (sym (cond-false (passes k.regs ca cb) _ _ f)) (calm was _ _ r.wrote both_false r.committed Over ending.CheckFailed r.made))
      (cases_Bool (passes k.regs ca cb))
    where
      passed : passes k.regs ca cb ≡ true → Delta k r (record { reply = reply.Point (Some (commit_point ca cb)); calls = nothing; regs = after_check k.regs ca cb; who = record (stepped r) { committed = true; ending = ending.Committed; made = r.made ++ commit_point ca cb ∷ [] } })
      passed t =
          let moves : Moves k.regs (after_check k.regs ca cb) (commit_point ca cb ∷ []) = subst (λ (x : Regs). Moves k.regs x (commit_point ca cb ∷ [])) (sym (check_is k.regs ca cb t)) (append_moves k.regs (commit_point ca cb)) in
          let aheads : Each (λ (x : Actor). AreAhead (counters x.seen) (after_check k.regs ca cb).points) k.actors =
          each_weaker (λ (x : Actor). Sees k.regs x × Later r x) (λ (x : Actor). AreAhead (counters x.seen) (after_check k.regs ca cb).points) (λ x q. (ahead_stays (counters x.seen) k.regs q.0.ahead).checks ca cb (q.1 ca cb em es)) k.actors (each_both (Sees k.regs) (Later r) k.actors h.sees laters) in
          record {
            label = refl;
            seen = refl;
            was = was;
            up = moves.counters;
            sees = sees_more k.regs (after_check k.regs ca cb) r moves.counters mine (each_in (λ (x : Actor). AreAhead (counters x.seen) (after_check k.regs ca cb).points) k.actors r aheads i);
            aheads = aheads;
            later = laters;
            itself = own_later;
          }
  check_deltas was (Some ca) em None es = tt
  check_deltas was None em s es = tt

  stamp_deltas : is_over r.stage ≡ false → (name : EngineName) (o : Option ℕ) → Deltas k r (stamps k r name o)
  stamp_deltas was name None = tt
  stamp_deltas was name (Some n) = deltas_when k r (may_stamp_in r name) _ (λ y. calm was _ _ r.wrote (cond (is_some (drawn_at (other name) r.drew)) (with_of name false r.shut) both_false) true (stage_behind (behind (todo r))) ending.Committed r.made)

  pub deltas : (e : Event) → Deltas k r (plan_for k r e)
  deltas (event.Begin tx kind) = tt
  deltas (event.Select tx) = deltas_when k r (is_free r && is_cross r.kind) _ (λ y. selects_deltas (free_over (and_parts (is_free r) (is_cross r.kind) y).0) r.opened.mem refl r.chosen)
  deltas (event.OpenStore tx) = deltas_when k r (is_free r) _ (λ y. open_deltas (free_over y) r.chosen refl r.opened.store)
  deltas (event.Read tx t key) = deltas_when k r (is_free r && is_opened r (engine_of k t)) _ (λ y. read_deltas (free_over (and_parts (is_free r) (is_opened r (engine_of k t)) y).0) (engine_of k t) key (read_call r.label t key) (answer k (engine_of k t) (read_call r.label t key)))
  deltas (event.Put tx w) = deltas_when k r (is_free r && is_opened r (engine_of k w.table)) _ (λ y. put_deltas (free_over (and_parts (is_free r) (is_opened r (engine_of k w.table)) y).0) (engine_of k w.table) w (answer k (engine_of k w.table) (put_call r.label w)))
  deltas (event.Close tx name) = deltas_when k r (may_close r name) _ (λ y. close_deltas (next_not_over (close_of name) r.wrote r.stage (and_parts (comes_next (close_of name) (todo r)) _ y).0) name (answer k name (call.Close r.label)))
  deltas (event.Draw tx name) = deltas_when k r (may_draw r name) _
      (λ y. let parts : (comes_next (draw_of name) (todo r) ≡ true) × (in_order r name ≡ true) = and_parts (comes_next (draw_of name) (todo r)) (in_order r name) (and_parts (comes_next (draw_of name) (todo r) && in_order r name) _ y).0 in
      draw_deltas (next_not_over (draw_of name) r.wrote r.stage parts.0) name parts.1 (drawn (counter name k.regs) (floor_in k r name)) refl)
  deltas (event.Check tx) = deltas_when k r (may_check r) _ (λ y. check_deltas (next_not_over names.Check r.wrote r.stage (and_parts (comes_next names.Check (todo r)) _ y).0) r.drew.mem refl r.drew.store refl)
  deltas (event.Stamp tx name) = deltas_when k r (may_stamp_now r name) _ (λ y. stamp_deltas (next_not_over (stamp_of name) r.wrote r.stage (and_parts (comes_next (stamp_of name) (todo r)) _ y).0) name (drawn_at name r.drew))
  deltas (event.Leave tx name) = deltas_when k r (may_leave r) _ (λ y. calm (not-true (is_over r.stage) (and_parts (not (is_over r.stage)) (is_undrawn r) y).0) _ _ r.wrote both_false r.committed (stage_left (is_some (opening_of (table_of k (other name)) r.label))) ending.RolledBack r.made)
  deltas event.Cut = tt
  deltas event.FlushStep = tt
  deltas (event.Purge name) = tt
  deltas event.Stop = tt
  deltas event.Reopen = tt
