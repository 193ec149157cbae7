-- Every run is fresh: a transaction that begins saw all of the earlier ones of its session, and each event keeps that.
use Rattle.std.specs.Prelude.{ℕ, zero, suc, List, [], ◌∷◌, Option, Some, None, Bool, true, false, cond, not, ◌&&◌, ◌||◌, ◌==◌, ◌+◌, ◌≡◌, ◌<◌, ◌≤◌, length, map}
use Rattle.std.proofs.Common.{refl, sym, ap, arith}
use Rattle.std.specs.List.{filter, list_any}
use Rattle.std.proofs.lemmas.Bool.{cond_both, false≢true, and_parts, eqb-true, eq-eqb, not-true}
use Rattle.sk_model.specs.declared.label.Label.{Label}
use Rattle.sk_model.specs.declared.engine.EngineName.{EngineName}
use Rattle.sk_model.specs.declared.engine.EngineName.TheVariants.{Mem, Store}
use Rattle.sk_model.specs.declared.record.TxKind.{TxKind}
use Rattle.sk_model.specs.declared.record.TxKind.TheVariants as kind
use Rattle.sk_model.specs.declared.record.Record.{Record}
use Rattle.sk_model.specs.declared.point.Point.{Point}
use Rattle.sk_model.specs.declared.call.EngineCall.{EngineCall}
use Rattle.sk_model.specs.declared.call.EngineCall.TheVariants as call
use Rattle.sk_model.specs.declared.call.EngineReply.{EngineReply}
use Rattle.sk_model.specs.declared.call.EngineReply.TheVariants.{Done, Found, Rows, Number, Commits, Fault}
use Rattle.sk_model.specs.Records.{same_label, AtMost, IsLater, Follows}
use Rattle.sk_model.specs.EngineReplies.{horizon_of}
use Rattle.sk_model.proofs.Lists.{Each, each_weaker, each_both, each_map}
use Rattle.sk_weave.specs.Points.{selection}
use Rattle.sk_weave.specs.Registry.{Regs, live_of, after_cut, makes_cut, greatest_within}
use Rattle.sk_linked.specs.Reads.{snapshot_at}
use Rattle.sk_linked.specs.declared.event.Event.{Event}
use Rattle.sk_linked.specs.declared.event.Event.TheVariants as event
use Rattle.sk_linked.specs.declared.event.CoreReply.{CoreReply}
use Rattle.sk_linked.specs.declared.event.CoreReply.TheVariants as reply
use Rattle.sk_linked.specs.Traces.{In}
use Rattle.sk_linked.specs.State.{Both, of, Actor, record_of, Flush, Core, core_at, table_of, counter}
use Rattle.sk_linked.specs.Plans.{Plan, nothing, only, answer, is_over, of_session, is_next, newcomer, begin_mem, begin_plan, actor_in, plan_new, plan_with}
use Rattle.sk_linked.specs.Machine.{Next, not_now, recorded, put_actor, applied, taken, for_label, called, is_greater, cut_taken, cut_next, may_cut, flushed, flush_step, live_step, stopped_step, step, run}
use Rattle.sk_linked.specs.Runs.{Start, ran, RunsAreFresh}
use Rattle.sk_linked.specs.Invariant.{IsKept, Invariant}
use Rattle.sk_weave.proofs.Aheads.{at_first, ahead_stays}
use Rattle.sk_linked.proofs.Members.{in_each, each_in, some_clash, some_same}
use Rattle.sk_linked.proofs.Moving.{Moves, cut_moves}
use Rattle.sk_linked.proofs.Applying.{Other, each_put_actor}
use Rattle.sk_linked.proofs.Beginning.{not_there}
use Rattle.sk_linked.proofs.Stepping.{actor_found, cut_core, starts_well, step_keeps}
use Rattle.sk_linked.proofs.Seeing.{counters, SeesAt, Sees, Later, SawAt, Follow, Counted, Freshly, pairs_put, count_grows, count_new}
use Rattle.sk_linked.proofs.Freshness.{Deltas, applied_fresh, deltas}

-- ---- a transaction that begins

none_any : (p : Actor → Bool) (rs : List Actor) → list_any p rs ≡ false → Each (λ (r : Actor). p r ≡ false) rs
none_any p [] e = tt
none_any p (r ∷ rs) e = go (p r) refl e (λ f. none_any p rs f)
  where
    go : (b : Bool) → p r ≡ b → (b || list_any p rs) ≡ false → (list_any p rs ≡ false → Each (λ (r : Actor). p r ≡ false) rs) → Each (λ (r : Actor). p r ≡ false) (r ∷ rs)
    go true q f ih = absurd (false≢true (sym f))
    go false q f ih = (q, ih f)

or_over : (a o : Bool) → (a && not o) ≡ false → a ≡ true → o ≡ true
or_over a true e t = refl
or_over true false e t = absurd (false≢true (sym e))
or_over false false e t = absurd (false≢true t)

module _ (k : Core) (inv : Invariant k) (h : Freshly k) (tx : Label) (none : actor_in tx k.actors ≡ None) (next : is_next tx k.actors ≡ true) (e : Event) (kind : TxKind) (said : CoreReply) (calls : Both (List EngineCall)) (mem chosen : Option ℕ)
    (mem_is : (a : ℕ) → mem ≡ Some a → a ≡ k.regs.mem) (chosen_is : (b : ℕ) → chosen ≡ Some b → b ≡ k.regs.store) where
  abbrev begun : Plan
  begun = record { reply = said; calls = calls; regs = k.regs; who = newcomer k tx kind mem chosen }

  abbrev seen : Both ℕ
  seen = record { mem = k.regs.mem; store = k.regs.store }

  others : Each (λ (x : Actor). same_label tx x.label ≡ false) k.actors
  others = not_there tx k.actors none

  quiet : Each (λ (x : Actor). (of_session tx x && not (is_over x.stage)) ≡ false) k.actors
  quiet = none_any (λ x. of_session tx x && not (is_over x.stage)) k.actors (not-true (list_any (λ x. of_session tx x && not (is_over x.stage)) k.actors) (and_parts _ (tx.k == length (filter (of_session tx) k.actors) + 1) next).0)

  number : tx.k ≡ length (filter (of_session tx) k.actors) + 1
  number = eqb-true tx.k (length (filter (of_session tx) k.actors) + 1) (and_parts (not (list_any (λ x. of_session tx x && not (is_over x.stage)) k.actors)) (tx.k == length (filter (of_session tx) k.actors) + 1) next).1

  seen_is : (s : EngineName) → of s seen ≡ counter s k.regs
  seen_is Mem = refl
  seen_is Store = refl

  begun_sees : SeesAt k.regs seen (newcomer k tx kind mem chosen).opened chosen
  begun_sees = record {
    upto = λ s. let q : of s seen ≡ counter s k.regs = seen_is s in omega (arith, q);
    opened_past = opened;
    chosen_past = λ b q. let same : b ≡ k.regs.store = chosen_is b q in (omega (arith, same), omega (arith, same));
    anchor = mem_is;
    ahead = at_first k.regs inv.sound;
  }
    where
      opened : (s : EngineName) (a : ℕ) → snapshot_at s (newcomer k tx kind mem chosen).opened ≡ Some a → (of s seen ≤ a) × (a ≤ counter s k.regs)
      opened Mem a q = let same : a ≡ k.regs.mem = mem_is a q in (omega (arith, same), omega (arith, same))
      opened Store a q = some_clash (sym q)

  -- what is known of each of the others
  saw_all : (x : Actor) → In x k.actors → of_session tx x ≡ true → SawAt x.stage x.opened x.drew seen
  saw_all x i s = record {
    over = or_over (of_session tx x) (is_over x.stage) (each_in _ k.actors x quiet i) s;
    opened_seen = λ n a q. let u : a ≤ counter n k.regs = ((each_in (Sees k.regs) k.actors x h.sees i).opened_past n a q).1 in let v : of n seen ≡ counter n k.regs = seen_is n in omega (arith, u, v);
    drew_seen = λ n a q. let u : a ≤ counter n k.regs = (each_in (IsKept k.regs) k.actors x inv.actors i).drew n a q in let v : of n seen ≡ counter n k.regs = seen_is n in omega (arith, u, v);
  }

  later_begun : (x : Actor) → In x k.actors → Later x (recorded k e begun)
  later_begun x i m n a b l = let u : m ≤ k.regs.mem = (each_in (IsKept k.regs) k.actors x inv.actors i).drew Mem m a in absurd (omega (arith, u, l))

  session_is : (x : Actor) → x.label.session ≡ tx.session → of_session tx x ≡ true
  session_is x q = eq-eqb x.label.session tx.session q

  begun_first : {A : Type 0} (x : Actor) → In x k.actors → tx.session ≡ x.label.session → tx.k < x.label.k → A
  begun_first x i s l =
      let c : x.label.k ≤ length (filter (of_session x.label) k.actors) = each_in (Counted k.actors) k.actors x h.counted i in
      let same : length (filter (of_session x.label) k.actors) ≡ length (filter (of_session tx) k.actors) = ap (λ (n : ℕ). length (filter (λ (y : Actor). y.label.session == n) k.actors)) (sym s) in
      let n : tx.k ≡ length (filter (of_session tx) k.actors) + 1 = number in
      absurd (omega (arith, c, same, n, l))

  pub begun_fresh : Freshly (applied k e begun)
  begun_fresh = record {
    sees = each_put_actor (Sees k.regs) (recorded k e begun) k.actors begun_sees (each_weaker (Sees k.regs) (Other (Sees k.regs) (recorded k e begun)) (λ x q f. q) k.actors h.sees) inv.linked.distinct;
    later = pairs_put Later (recorded k e begun) k.actors inv.linked.distinct (λ m n a b l. some_clash (sym a))
        (in_each (Other (Later (recorded k e begun)) (recorded k e begun)) k.actors (λ x i f m n a b l. some_clash (sym a)))
        (in_each (Other (λ x. Later x (recorded k e begun)) (recorded k e begun)) k.actors (λ x i f. later_begun x i))
        h.later;
    follows = pairs_put Follow (recorded k e begun) k.actors inv.linked.distinct (λ s l. less_self tx.k l)
        (in_each (Other (Follow (recorded k e begun)) (recorded k e begun)) k.actors (λ x i f s l. begun_first x i s l))
        (in_each (Other (λ x. Follow x (recorded k e begun)) (recorded k e begun)) k.actors (λ x i f s l. saw_all x i (session_is x s)))
        h.follows;
    counted = each_put_actor (Counted (put_actor (recorded k e begun) k.actors)) (recorded k e begun) k.actors
        (let n : tx.k ≡ length (filter (of_session tx) k.actors) + 1 = number in let g : length (filter (of_session tx) k.actors) + 1 ≤ length (filter (of_session tx) (put_actor (recorded k e begun) k.actors)) = count_new tx (recorded k e begun) k.actors others (eq-eqb tx.session tx.session refl) in omega (arith, n, g))
        (each_weaker (Counted k.actors) (Other (Counted (put_actor (recorded k e begun) k.actors)) (recorded k e begun)) (λ x old f. let g : length (filter (of_session x.label) k.actors) ≤ length (filter (of_session x.label) (put_actor (recorded k e begun) k.actors)) = count_grows x.label (recorded k e begun) k.actors in omega (arith, old, g)) k.actors h.counted) inv.linked.distinct;
  }
    where
      less_self : {A : Type 0} (n : ℕ) → n < n → A
      less_self n l = absurd (omega (arith, l))

-- ---- an event of a transaction

abbrev Fresher : Core → Event → Option Plan → Type 0
Fresher k e None = Unit {0}
Fresher k e (Some p) = Freshly (applied k e p)

fresher_when : (k : Core) (e : Event) (b : Bool) (o : Option Plan) → (b ≡ true → Fresher k e o) → Fresher k e (cond b o None)
fresher_when k e b o f = cond_both b o None (λ (x : Option Plan). Fresher k e x) f (λ l. tt)

taken_fresh : (k : Core) (e : Event) (o : Option Plan) → Freshly k → Fresher k e o → Freshly (taken k e o).core
taken_fresh k e None h f = h
taken_fresh k e (Some p) h f = cond_both _ (record { core = applied k e p; reply = p.reply }) (not_now k) (λ (n : Next). Freshly n.core) (λ l. f) (λ l. h)

module _ (k : Core) (inv : Invariant k) (h : Freshly k) where
  begin_mem_fresh : (tx : Label) → actor_in tx k.actors ≡ None → is_next tx k.actors ≡ true → (kind : TxKind) (a : EngineReply) → Fresher k (event.Begin tx kind) (begin_mem k tx kind a)
  begin_mem_fresh tx none next kind Done = begun_fresh k inv h tx none next (event.Begin tx kind) kind (reply.Number k.regs.mem) (only Mem (call.Open tx k.regs.mem ∷ [])) (Some k.regs.mem) None (λ a q. sym (some_same q)) (λ b q. some_clash (sym q))
  begin_mem_fresh tx none next kind (Found row) = tt
  begin_mem_fresh tx none next kind (Rows rows) = tt
  begin_mem_fresh tx none next kind (Number n) = tt
  begin_mem_fresh tx none next kind (Commits cs) = tt
  begin_mem_fresh tx none next kind (Fault f) = tt

  begin_fresh : (tx : Label) → actor_in tx k.actors ≡ None → is_next tx k.actors ≡ true → (kind : TxKind) → Fresher k (event.Begin tx kind) (begin_plan k tx kind)
  begin_fresh tx none next kind.Cross = begin_mem_fresh tx none next kind.Cross (answer k Mem (call.Open tx k.regs.mem))
  begin_fresh tx none next kind.Mem = begin_mem_fresh tx none next kind.Mem (answer k Mem (call.Open tx k.regs.mem))
  begin_fresh tx none next kind.Store = begun_fresh k inv h tx none next (event.Begin tx kind.Store) kind.Store (reply.Number k.regs.store) nothing None (Some k.regs.store) (λ a q. some_clash (sym q)) (λ b q. sym (some_same q))

  old_fresh : (e : Event) (r : Actor) → In r k.actors → Fresher k e (plan_with k (Some r) e)
  old_fresh e r i = go (plan_with k (Some r) e) (deltas k inv h r i e)
    where
      go : (o : Option Plan) → Deltas k r o → Fresher k e o
      go None d = tt
      go (Some p) d = applied_fresh k e p r inv i h d

  label_fresh : (tx : Label) (e : Event) → (actor_in tx k.actors ≡ None → Fresher k e (plan_new k e)) → Freshly (for_label k tx e).core
  label_fresh tx e new = taken_fresh k e (plan_with k (actor_in tx k.actors) e) h (found (actor_in tx k.actors) refl)
    where
      found : (o : Option Actor) → actor_in tx k.actors ≡ o → Fresher k e (plan_with k o e)
      found None q = new q
      found (Some r) q = old_fresh e r (actor_found tx k.actors r q).0

  -- selections of a flush are at the storage counter
  cut_seen : (x y : ℕ) → Freshly (record k { regs = after_cut k.regs x y k.regs.store })
  cut_seen x y =
      let regs : Regs = after_cut k.regs x y k.regs.store in
      let moves : Moves k.regs regs (cond (makes_cut k.regs x y k.regs.store) (selection x y ∷ []) []) = cut_moves k.regs x y k.regs.store in
      record {
        sees = each_weaker (Sees k.regs) (Sees regs) (λ z q. record {
          upto = λ s. let u : of s z.seen ≤ counter s k.regs = q.upto s in let v : counter s k.regs ≤ counter s regs = moves.counters s in omega (arith, u, v);
          opened_past = λ s n g. let u : n ≤ counter s k.regs = (q.opened_past s n g).1 in let v : counter s k.regs ≤ counter s regs = moves.counters s in ((q.opened_past s n g).0, omega (arith, u, v));
          chosen_past = λ n g. let u : n ≤ k.regs.store = (q.chosen_past n g).1 in let v : k.regs.store ≤ regs.store = moves.counters Store in ((q.chosen_past n g).0, omega (arith, u, v));
          anchor = q.anchor;
          ahead = (ahead_stays (counters z.seen) k.regs q.ahead).cuts x y k.regs.store (λ l. q.upto Store);
        }) k.actors h.sees;
        later = h.later;
        follows = h.follows;
        counted = h.counted;
      }

  flushed_fresh : (f : Flush) (n : ℕ) → Freshly (flushed k f n).core
  flushed_fresh f zero = h
  flushed_fresh f (suc zero) = record { sees = h.sees; later = h.later; follows = h.follows; counted = h.counted }
  flushed_fresh f (suc (suc n)) = record { sees = h.sees; later = h.later; follows = h.follows; counted = h.counted }

  flush_fresh : (o : Option Flush) → Freshly (flush_step k o).core
  flush_fresh None = h
  flush_fresh (Some f) = flushed_fresh f f.left

cut_taken_fresh : (k : Core) → Freshly k → (o : Option Point) → Freshly (cut_taken k o).core
cut_taken_fresh k h None = record { sees = h.sees; later = h.later; follows = h.follows; counted = h.counted }
cut_taken_fresh k h (Some q) = cond_both (is_greater q k.durable) _ _ (λ (n : Next). Freshly n.core) (λ t. record { sees = h.sees; later = h.later; follows = h.follows; counted = h.counted }) (λ t. record { sees = h.sees; later = h.later; follows = h.follows; counted = h.counted })

module _ (k : Core) (inv : Invariant k) (h : Freshly k) where
  cut_seen_too : Freshly (cut_core k)
  cut_seen_too =
      let g : Freshly (record k { regs = after_cut k.regs (horizon_of (table_of k Mem)) (horizon_of (table_of k Store)) k.regs.store }) = cut_seen k inv h (horizon_of (table_of k Mem)) (horizon_of (table_of k Store)) in
      record { sees = g.sees; later = g.later; follows = g.follows; counted = g.counted }

  live_fresh : (e : Event) → Freshly (live_step k e).core
  live_fresh (event.Begin tx kind) = label_fresh k inv h tx (event.Begin tx kind) (λ q. fresher_when k (event.Begin tx kind) (is_next tx k.actors) _ (λ y. begin_fresh k inv h tx q y kind))
  live_fresh (event.Select tx) = label_fresh k inv h tx (event.Select tx) (λ q. tt)
  live_fresh (event.OpenStore tx) = label_fresh k inv h tx (event.OpenStore tx) (λ q. tt)
  live_fresh (event.Read tx t key) = label_fresh k inv h tx (event.Read tx t key) (λ q. tt)
  live_fresh (event.Put tx w) = label_fresh k inv h tx (event.Put tx w) (λ q. tt)
  live_fresh (event.Close tx name) = label_fresh k inv h tx (event.Close tx name) (λ q. tt)
  live_fresh (event.Draw tx name) = label_fresh k inv h tx (event.Draw tx name) (λ q. tt)
  live_fresh (event.Check tx) = label_fresh k inv h tx (event.Check tx) (λ q. tt)
  live_fresh (event.Stamp tx name) = label_fresh k inv h tx (event.Stamp tx name) (λ q. tt)
  live_fresh (event.Leave tx name) = label_fresh k inv h tx (event.Leave tx name) (λ q. tt)
  live_fresh event.Cut = cond_both (may_cut k.flush) (cut_next k) (not_now k) (λ (n : Next). Freshly n.core)
      (λ y. cut_taken_fresh (cut_core k) cut_seen_too (greatest_within (horizon_of (table_of k Mem)) (horizon_of (table_of k Store)) None (live_of (cut_core k).regs))) (λ y. h)
  live_fresh event.FlushStep = flush_fresh k inv h k.flush
  live_fresh (event.Purge name) = record { sees = h.sees; later = h.later; follows = h.follows; counted = h.counted }
  live_fresh event.Stop = record { sees = h.sees; later = h.later; follows = h.follows; counted = h.counted }
  live_fresh event.Reopen = h

  stopped_fresh : (e : Event) → Freshly (stopped_step k e).core
  stopped_fresh event.Reopen = record { sees = tt; later = tt; follows = tt; counted = tt }
  stopped_fresh e = h

  step_fresh : (e : Event) → Freshly (step k e).core
  step_fresh e = cond_both k.stopped (stopped_step k e) (live_step k e) (λ (n : Next). Freshly n.core) (λ y. stopped_fresh e) (λ y. live_fresh e)

run_fresh : (k : Core) (es : List Event) → Invariant k → Freshly k → Freshly (run k es)
run_fresh k [] inv h = h
run_fresh k (e ∷ es) inv h = run_fresh (step k e).core es (step_keeps k inv e) (step_fresh k inv h e)

-- ---- in the words of records

abbrev base : Actor → Record
base r = (record_of r).base

at_most : (o : Option ℕ) (b : ℕ) → ((n : ℕ) → o ≡ Some n → n ≤ b) → AtMost o b
at_most None b f = tt
at_most (Some n) b f = f n refl

is_later : (snapshot drawn o : Option ℕ) → ((b : ℕ) → o ≡ Some b → AtMost snapshot b × AtMost drawn b) → IsLater snapshot drawn o
is_later snapshot drawn None f = tt
is_later snapshot drawn (Some b) f = f b refl

follows_is : (regs : Regs) (r x : Actor) → Sees regs x → Follow r x → Follows (base r) (base x)
follows_is regs r x sees f s l =
    let saw : SawAt r.stage r.opened r.drew x.seen = f s l in (
      is_later r.opened.mem r.drew.mem x.opened.mem (λ b q. let u : x.seen.mem ≤ b = (sees.opened_past Mem b q).0 in
          (at_most r.opened.mem b (λ n e. let v : n ≤ x.seen.mem = saw.opened_seen Mem n e in omega (arith, u, v)), at_most r.drew.mem b (λ n e. let v : n ≤ x.seen.mem = saw.drew_seen Mem n e in omega (arith, u, v)))),
      is_later r.opened.store r.drew.store x.opened.store (λ b q. let u : x.seen.store ≤ b = (sees.opened_past Store b q).0 in
          (at_most r.opened.store b (λ n e. let v : n ≤ x.seen.store = saw.opened_seen Store n e in omega (arith, u, v)), at_most r.drew.store b (λ n e. let v : n ≤ x.seen.store = saw.drew_seen Store n e in omega (arith, u, v)))),
    )

pub all_fresh : (s : Start) (events : List Event) → Freshly (ran s events)
all_fresh s events = run_fresh (core_at s.catalog s.rows s.first s.partitions s.size) events (starts_well s.catalog s.rows s.first s.partitions s.size s.can_start s.sorted) (record { sees = tt; later = tt; follows = tt; counted = tt })

pub fresh : RunsAreFresh
fresh s events =
    let h : Freshly (ran s events) = all_fresh s events in
    each_map (λ (r : Record). Each (Follows r) (map base (ran s events).actors)) base (ran s events).actors
    (each_weaker (λ (r : Actor). Each (Follow r) (ran s events).actors) (λ (r : Actor). Each (Follows (base r)) (map base (ran s events).actors))
    (λ r q. each_map (Follows (base r)) base (ran s events).actors (each_weaker (λ (x : Actor). Sees (ran s events).regs x × Follow r x) (λ (x : Actor). Follows (base r) (base x)) (λ x z. follows_is (ran s events).regs r x z.0 z.1) (ran s events).actors (each_both (Sees (ran s events).regs) (Follow r) (ran s events).actors h.sees q)))
    (ran s events).actors h.follows)
