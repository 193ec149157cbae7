-- Who is committed and over waits in the queue, or is covered by the durable cut.
use Rattle.std.specs.Prelude.{ℕ, zero, suc, List, [], ◌∷◌, ◌++◌, Option, Some, None, Bool, true, false, not, ◌&&◌, ◌||◌, ◌≡◌, ◌<◌, ◌≤◌, ◌⊎◌, nat_le, take, map}
use Rattle.std.proofs.Common.{refl, sym, ap, subst, ◌∙◌, inl, inr, ⊎_elim, arith}
use Rattle.std.specs.List.{list_any}
use Rattle.std.proofs.lemmas.Bool.{cases_Bool, cond_both, cond-true, cond-false, false≢true, and_parts, and_from, leb-true, le-leb}
use Rattle.std.proofs.lemmas.List.Folds.{list_any-append}
use Rattle.std.proofs.Math.Bool.{or-true}
use Rattle.sk_model.specs.declared.label.Label.{Label}
use Rattle.sk_model.specs.declared.engine.EngineName.{EngineName}
use Rattle.sk_model.specs.declared.engine.EngineName.TheVariants.{Mem, Store}
use Rattle.sk_model.specs.declared.point.Point.{Point}
use Rattle.sk_model.specs.declared.commit.Commit.{Commit}
use Rattle.sk_model.specs.Records.{same_label}
use Rattle.sk_model.specs.EngineReplies.{horizon_of}
use Rattle.sk_model.specs.Stamped.{number_in}
use Rattle.sk_model.proofs.Lists.{Each, each_weaker}
use Rattle.sk_model.proofs.Labels.{same_is, same_itself}
use Rattle.sk_weave.specs.Points.{Climbs, Pair}
use Rattle.sk_weave.specs.Woven.{Over}
use Rattle.sk_weave.specs.Registry.{first_of, live_of, greatest_within}
use Rattle.sk_linked.specs.Reads.{Snapshots, number_at}
use Rattle.sk_weave.proofs.Pairs.{pair_behind}
use Rattle.sk_linked.proofs.Held.{Held, held_of, held_prefix}
use Rattle.sk_linked.specs.declared.event.Event.{Event}
use Rattle.sk_linked.specs.declared.event.Event.TheVariants as event
use Rattle.sk_linked.specs.declared.event.CoreReply.TheVariants as reply
use Rattle.sk_linked.specs.Traces.{drawn_at, Transaction, run_of, In, Distinct}
use Rattle.sk_linked.specs.State.{Actor, Flush, Core, core_at, rest_of, traces_of, table_of, transaction_of}
use Rattle.sk_linked.specs.Plans.{Plan, is_over, actor_in, plan_with}
use Rattle.sk_linked.specs.Machine.{Next, not_now, recorded, queued, applied, taken, for_label, is_upto_cut, is_covered, covers, waiting, device_calls, is_greater, cut_taken, cut_next, may_cut, flushed, flush_step, commits_of, durable_place, live_step, stopped_step, step, run}
use Rattle.sk_linked.specs.Runs.{ran, IsDurable, RunsAreDurable}
use Rattle.sk_linked.specs.Invariant.{Invariant}
use Rattle.sk_linked.proofs.Members.{in_each, each_in, in_either, distinct_same}
use Rattle.sk_linked.proofs.Grounds.{is_run}
use Rattle.sk_linked.proofs.Authors.{Committer, committers}
use Rattle.sk_linked.proofs.Moving.{whole, stairs_of}
use Rattle.sk_linked.proofs.Applying.{in_mapped, Other, each_put_actor}
use Rattle.sk_linked.proofs.Stepping.{starts_well, cut_point, cut_core, cut_ready, step_keeps}
use Rattle.sk_linked.proofs.Theorem.{all_keep}

-- neither number of the cut is less than the transaction's
abbrev Covered : Point → Actor → Type 0
Covered cut r = (s : EngineName) (n : ℕ) → drawn_at s r.drew ≡ Some n → n ≤ number_at s cut

abbrev Waits : List Label → Actor → Type 0
Waits queue r = list_any (same_label r.label) queue ≡ true

abbrev Acked : List Label → Point → Actor → Type 0
Acked queue cut r = r.committed ≡ true → is_over r.stage ≡ true → Waits queue r ⊎ Covered cut r

abbrev Past : Point → Option Flush → Type 0
Past durable None = Unit {0}
Past durable (Some f) = (durable.a ≤ f.cut.a) × (durable.b ≤ f.cut.b)

record Acks (k : Core) : Type 0 where
  acked : Each (Acked k.queue k.durable) k.actors
  past : Past k.durable k.flush

waits_more : (queue more : List Label) (r : Actor) → Waits queue r → Waits (queue ++ more) r
waits_more queue more r w = list_any-append (same_label r.label) queue more ∙ ap (λ b. b || list_any (same_label r.label) more) w

waits_last : (queue : List Label) (r : Actor) → Waits (queue ++ r.label ∷ []) r
waits_last queue r = list_any-append (same_label r.label) queue (r.label ∷ []) ∙ ap (λ b. list_any (same_label r.label) queue || (b || false)) (same_itself r.label) ∙ or-true (list_any (same_label r.label) queue)

-- a plan queues who is committed and over by it
applied_acks : (k : Core) → Invariant k → Acks k → (e : Event) (p : Plan) → Acks (applied k e p)
applied_acks k inv a e p = record {
  acked = each_put_actor (Acked (queued p.who k.queue) k.durable) (recorded k e p) k.actors
      (λ c o. inl (subst (λ q. Waits q p.who) (sym (cond-true (p.who.committed && is_over p.who.stage) (k.queue ++ p.who.label ∷ []) k.queue (and_from _ _ c o))) (waits_last k.queue p.who)))
      (each_weaker (Acked k.queue k.durable) (Other (Acked (queued p.who k.queue) k.durable) (recorded k e p)) (λ x h f c o. ⊎_elim
      (λ (w : Waits k.queue x). inl (cond_both (p.who.committed && is_over p.who.stage) (k.queue ++ p.who.label ∷ []) k.queue (λ q. Waits q x) (λ y. waits_more k.queue (p.who.label ∷ []) x w) (λ y. w)))
      (λ (w : Covered k.durable x). inr w)
      (h c o)) k.actors a.acked)
      inv.linked.distinct;
  past = a.past;
}

taken_acks : (k : Core) → Invariant k → Acks k → (e : Event) (o : Option Plan) → Acks (taken k e o).core
taken_acks k inv a e None = a
taken_acks k inv a e (Some p) = cond_both _ (record { core = applied k e p; reply = p.reply }) (not_now k) (λ (n : Next). Acks n.core) (λ l. applied_acks k inv a e p) (λ l. a)

-- ---- who leaves the queue is covered

upto_is : (o : Option ℕ) (m n : ℕ) → is_upto_cut o m ≡ true → o ≡ Some n → n ≤ m
upto_is None m n t e = absurd (clash e)
  where
    clash : None ≡ Some n → ⊥
    clash e = cc
upto_is (Some x) m n t e = let same : x ≡ n = cc in let l : x ≤ m = leb-true x m t in omega (arith, same, l)

covered_is : (cut : Point) (r : Actor) → is_covered cut r ≡ true → Covered cut r
covered_is cut r t =
    let parts : ((is_upto_cut r.opened.mem cut.a && is_upto_cut r.drew.mem cut.a) ≡ true) × ((is_upto_cut r.opened.store cut.b && is_upto_cut r.drew.store cut.b) ≡ true) = and_parts _ _ t in
    at (and_parts (is_upto_cut r.opened.mem cut.a) (is_upto_cut r.drew.mem cut.a) parts.0).1 (and_parts (is_upto_cut r.opened.store cut.b) (is_upto_cut r.drew.store cut.b) parts.1).1
  where
    at : is_upto_cut r.drew.mem cut.a ≡ true → is_upto_cut r.drew.store cut.b ≡ true → Covered cut r
    at m s Mem n e = upto_is r.drew.mem cut.a n m e
    at m s Store n e = upto_is r.drew.store cut.b n s e

record Coverer (actors : List Actor) (cut : Point) (tx : Label) : Type 0 where
  who : Actor
  among : In who actors
  label : tx ≡ who.label
  covered : is_covered cut who ≡ true

covers_is : (actors : List Actor) (cut : Point) (tx : Label) → covers actors cut tx ≡ true → Coverer actors cut tx
covers_is [] cut tx t = absurd (false≢true t)
covers_is (r ∷ rs) cut tx t = ⊎_elim
    (λ (y : (same_label tx r.label && is_covered cut r) ≡ true). let p : (same_label tx r.label ≡ true) × (is_covered cut r ≡ true) = and_parts _ _ y in record { who = r; among = inl refl; label = same_is tx r.label p.0; covered = p.1 })
    (λ (f : (same_label tx r.label && is_covered cut r) ≡ false).
    let k : Coverer rs cut tx = covers_is rs cut tx (sym (ap (λ b. b || covers rs cut tx) f) ∙ t) in
    record { who = k.who; among = inr k.among; label = k.label; covered = k.covered })
    (cases_Bool (same_label tx r.label && is_covered cut r))

actor_same : (actors : List Actor) (r x : Actor) → Distinct (map transaction_of actors) → In r actors → In x actors → r.label ≡ x.label → r ≡ x
actor_same [] r x d i j e = absurd i
actor_same (y ∷ ys) r x d i j e = ⊎_elim
    (λ (a : r ≡ y). ⊎_elim
    (λ (b : x ≡ y). a ∙ sym b)
    (λ (b : In x ys). absurd (differ y x (each_in (λ (t : Transaction). same_label y.label t.label ≡ false) (map transaction_of ys) (transaction_of x) d.0 (in_mapped x ys b)) (ap (λ (z : Actor). z.label) (sym a) ∙ e)))
    j)
    (λ (a : In r ys). ⊎_elim
    (λ (b : x ≡ y). absurd (differ y r (each_in (λ (t : Transaction). same_label y.label t.label ≡ false) (map transaction_of ys) (transaction_of r) d.0 (in_mapped r ys a)) (ap (λ (z : Actor). z.label) (sym b) ∙ sym e)))
    (λ (b : In x ys). actor_same ys r x d.1 a b e)
    j)
    i
  where
    differ : (y x : Actor) → same_label y.label x.label ≡ false → y.label ≡ x.label → ⊥
    differ y x f e = false≢true (sym f ∙ ap (λ (l : Label). same_label y.label l) (sym e) ∙ same_itself y.label)

still_waits : (actors : List Actor) (cut : Point) (queue : List Label) (r : Actor) → covers actors cut r.label ≡ false → Waits queue r → Waits (waiting actors cut queue) r
still_waits actors cut [] r n w = w
still_waits actors cut (l ∷ ls) r n w = ⊎_elim
    (λ (y : same_label r.label l ≡ true).
    let kept : not (covers actors cut l) ≡ true = ap not (ap (covers actors cut) (sym (same_is r.label l y)) ∙ n) in
    subst (λ q. Waits q r) (sym (cond-true (not (covers actors cut l)) (l ∷ waiting actors cut ls) (waiting actors cut ls) kept)) (ap (λ b. b || list_any (same_label r.label) (waiting actors cut ls)) y))
    (λ (f : same_label r.label l ≡ false).
    let rest : Waits (waiting actors cut ls) r = still_waits actors cut ls r n (sym (ap (λ b. b || list_any (same_label r.label) ls) f) ∙ w) in
    cond_both (not (covers actors cut l)) (l ∷ waiting actors cut ls) (waiting actors cut ls) (λ q. Waits q r) (λ y. ap (λ b. same_label r.label l || b) rest ∙ or-true (same_label r.label l)) (λ y. rest))
    (cases_Bool (same_label r.label l))

leaves : (k : Core) → Invariant k → (cut : Point) (r : Actor) → In r k.actors → Waits k.queue r → Waits (waiting k.actors cut k.queue) r ⊎ Covered cut r
leaves k inv cut r i w = ⊎_elim
    (λ (y : covers k.actors cut r.label ≡ true).
    let c : Coverer k.actors cut r.label = covers_is k.actors cut r.label y in
    let same : c.who ≡ r = actor_same k.actors c.who r inv.linked.distinct c.among i (sym c.label) in
    inr (subst (Covered cut) same (covered_is cut c.who c.covered)))
    (λ (f : covers k.actors cut r.label ≡ false). inl (still_waits k.actors cut k.queue r f w))
    (cases_Bool (covers k.actors cut r.label))

-- the waiters of a later durable cut
wait_acks : (k : Core) → Invariant k → Acks k → (cut : Point) → (k.durable.a ≤ cut.a) × (k.durable.b ≤ cut.b) → Each (Acked (waiting k.actors cut k.queue) cut) k.actors
wait_acks k inv a cut up = in_each (Acked (waiting k.actors cut k.queue) cut) k.actors (λ r i c o. ⊎_elim
    (λ (w : Waits k.queue r). leaves k inv cut r i w)
    (λ (w : Covered k.durable r). inr (later r w))
    (each_in (Acked k.queue k.durable) k.actors r a.acked i c o))
  where
    later : (r : Actor) → Covered k.durable r → Covered cut r
    later r w Mem n e = let x : n ≤ k.durable.a = w Mem n e in let y : k.durable.a ≤ cut.a = up.0 in omega (arith, x, y)
    later r w Store n e = let x : n ≤ k.durable.b = w Store n e in let y : k.durable.b ≤ cut.b = up.1 in omega (arith, x, y)

-- ---- points of a staircase stand in order

abbrev Upto : Point → Point → Type 0
Upto p q = (p.a ≤ q.a) × (p.b ≤ q.b)

first_upto : (p : Point) (qs : List Point) → Climbs p qs → (q : Point) → In q qs → Upto p q
first_upto p [] h q i = absurd i
first_upto p (r ∷ rs) h q i =
    let a : p.a ≤ r.a = h.0.a_stays in
    let b : p.b ≤ r.b = h.0.b_stays in
    ⊎_elim
    (λ (e : q ≡ r). subst (λ (x : Point). Upto p x) (sym e) (a, b))
    (λ (k : In q rs). let u : Upto r q = first_upto r rs h.1 q k in let x : r.a ≤ q.a = u.0 in let y : r.b ≤ q.b = u.1 in (omega (arith, a, x), omega (arith, b, y)))
    i

ordered : (p : Point) (qs : List Point) → Climbs p qs → (x y : Point) → (In x qs → In y qs → Upto x y ⊎ Upto y x) → In x (p ∷ qs) → In y (p ∷ qs) → Upto x y ⊎ Upto y x
ordered p qs h x y behind i j = ⊎_elim
    (λ (a : x ≡ p). ⊎_elim
    (λ (b : y ≡ p). inl (subst (λ (z : Point). Upto x z) (a ∙ sym b) (omega arith, omega arith)))
    (λ (b : In y qs). inl (subst (λ (z : Point). Upto z y) (sym a) (first_upto p qs h y b)))
    j)
    (λ (a : In x qs). ⊎_elim
    (λ (b : y ≡ p). inr (subst (λ (z : Point). Upto z x) (sym b) (first_upto p qs h x a)))
    (λ (b : In y qs). behind a b)
    j)
    i

in_order : (p : Point) (qs : List Point) → Climbs p qs → (x y : Point) → In x (p ∷ qs) → In y (p ∷ qs) → Upto x y ⊎ Upto y x
in_order p [] h x y i j = ordered p [] h x y (λ a b. absurd a) i j
in_order p (q ∷ qs) h x y i j = ordered p (q ∷ qs) h x y (λ a b. in_order q qs h.1 x y a b) i j

-- a point that is greater than another is past it in neither number less
greater_upto : (k : Core) → Invariant k → (q : Point) → In q k.regs.points → is_greater q k.durable ≡ true → Upto k.durable q
greater_upto k inv q i g =
    let climbs : Climbs (first_of k.regs.points) (rest_of k.regs.points) = (stairs_of k.regs inv.sound).1 in
    let here : In q (first_of k.regs.points ∷ rest_of k.regs.points) = subst (λ ps. In q ps) (whole k.regs inv.sound) i in
    let there_is : In k.durable (first_of k.regs.points ∷ rest_of k.regs.points) = subst (λ ps. In k.durable ps) (whole k.regs inv.sound) inv.durable in
    ⊎_elim
    (λ (u : Upto k.durable q). u)
    (λ (u : Upto q k.durable). absurd (false≢true (sym (ap not (and_from (nat_le q.a k.durable.a) (nat_le q.b k.durable.b) (le-leb q.a k.durable.a u.0) (le-leb q.b k.durable.b u.1))) ∙ g)))
    (in_order (first_of k.regs.points) (rest_of k.regs.points) climbs k.durable q there_is here)

-- ---- each event

cut_acks : (k : Core) → Invariant k → Acks k → (x y : ℕ) (o : Option Point) → greatest_within x y None (live_of k.regs) ≡ o → Acks (cut_taken k o).core
cut_acks k inv a x y None e = record { acked = wait_acks k inv a k.durable (omega arith, omega arith); past = tt }
cut_acks k inv a x y (Some q) e = ⊎_elim
    (λ (t : is_greater q k.durable ≡ true). subst (λ (n : Next). Acks n.core) (sym (cond-true (is_greater q k.durable) (begins q) (waits q) t)) (record { acked = a.acked; past = greater_upto k inv q (cut_point k x y q e) t }))
    (λ (f : is_greater q k.durable ≡ false). subst (λ (n : Next). Acks n.core) (sym (cond-false (is_greater q k.durable) (begins q) (waits q) f)) (record { acked = wait_acks k inv a k.durable (omega arith, omega arith); past = tt }))
    (cases_Bool (is_greater q k.durable))
  where
    begins : Point → Next
    begins q = record { core = record k { flush = Some (record { cut = q; left = device_calls k q; begun = false }) }; reply = reply.Point (Some q) }

    waits : Point → Next
    waits q = record { core = record k { flush = None; queue = waiting k.actors k.durable k.queue }; reply = reply.Point (Some q) }

flushed_acks : (k : Core) → Invariant k → Acks k → (f : Flush) (n : ℕ) → (k.durable.a ≤ f.cut.a) × (k.durable.b ≤ f.cut.b) → Acks (flushed k f n).core
flushed_acks k inv a f zero u = a
flushed_acks k inv a f (suc zero) u = record { acked = wait_acks k inv a f.cut u; past = tt }
flushed_acks k inv a f (suc (suc n)) u = record { acked = a.acked; past = u }

flush_acks : (k : Core) → Invariant k → Acks k → (o : Option Flush) → Past k.durable o → Acks (flush_step k o).core
flush_acks k inv a None u = a
flush_acks k inv a (Some f) u = flushed_acks k inv a f f.left u

module _ (k : Core) (inv : Invariant k) (a : Acks k) where
  label_acks : (tx : Label) (e : Event) → Acks (for_label k tx e).core
  label_acks tx e = taken_acks k inv a e (plan_with k (actor_in tx k.actors) e)

  live_acks : (e : Event) → Acks (live_step k e).core
  live_acks (event.Begin tx kind) = label_acks tx (event.Begin tx kind)
  live_acks (event.Select tx) = label_acks tx (event.Select tx)
  live_acks (event.OpenStore tx) = label_acks tx (event.OpenStore tx)
  live_acks (event.Read tx t key) = label_acks tx (event.Read tx t key)
  live_acks (event.Put tx w) = label_acks tx (event.Put tx w)
  live_acks (event.Close tx name) = label_acks tx (event.Close tx name)
  live_acks (event.Draw tx name) = label_acks tx (event.Draw tx name)
  live_acks (event.Check tx) = label_acks tx (event.Check tx)
  live_acks (event.Stamp tx name) = label_acks tx (event.Stamp tx name)
  live_acks (event.Leave tx name) = label_acks tx (event.Leave tx name)
  live_acks event.Cut = cond_both (may_cut k.flush) (cut_next k) (not_now k) (λ (n : Next). Acks n.core)
      (λ y. cut_acks (cut_core k) (cut_ready k inv) (record { acked = a.acked; past = a.past }) (horizon_of (table_of k Mem)) (horizon_of (table_of k Store)) (greatest_within (horizon_of (table_of k Mem)) (horizon_of (table_of k Store)) None (live_of (cut_core k).regs)) refl) (λ y. a)
  live_acks event.FlushStep = flush_acks k inv a k.flush a.past
  live_acks (event.Purge name) = record { acked = a.acked; past = a.past }
  live_acks event.Stop = record { acked = a.acked; past = a.past }
  live_acks event.Reopen = a

  stopped_acks : (e : Event) → Acks (stopped_step k e).core
  stopped_acks event.Reopen = record { acked = tt; past = tt }
  stopped_acks e = a

  step_acks : (e : Event) → Acks (step k e).core
  step_acks e = cond_both k.stopped (stopped_step k e) (live_step k e) (λ (n : Next). Acks n.core) (λ y. stopped_acks e) (λ y. live_acks e)

run_acks : (k : Core) (es : List Event) → Invariant k → Acks k → Acks (run k es)
run_acks k [] inv a = a
run_acks k (e ∷ es) inv a = run_acks (step k e).core es (step_keeps k inv e) (step_acks k inv a e)

-- ---- the prefix at the durable cut

-- a point's numbers are a pair of the points
point_pair : (p : Point) (qs : List Point) → Climbs p qs → (q : Point) → In q (p ∷ qs) → Pair (p ∷ qs) q.a q.b
point_pair p [] h q i = ⊎_elim (λ (e : q ≡ p). inl (ap (λ (x : Point). x.a) (sym e), ap (λ (x : Point). x.b) (sym e))) (λ (e : ⊥). absurd e) i
point_pair p (r ∷ rs) h q i = ⊎_elim
    (λ (e : q ≡ p). inl (ap (λ (x : Point). x.a) (sym e), ap (λ (x : Point). x.b) (sym e)))
    (λ (e : In q (r ∷ rs)). pair_behind p (r ∷ rs) q.a q.b (first_upto p (r ∷ rs) h q e).0 (point_pair r rs h.1 q e))
    i

over_clash : (a n : ℕ) (o : Option ℕ) → Over a o → o ≡ Some n → n ≤ a → ⊥
over_clash a n o h e l = let k : a < n = subst (Over a) e h in omega (arith, k, l)

durable_now : (k : Core) → Invariant k → Acks k → IsDurable k
durable_now k inv a = record {
  point = inv.durable;
  holds = holds;
  opens = λ e. ap (λ (n : Next). n.core) (cond-true k.stopped (stopped_step k event.Reopen) (live_step k event.Reopen) e);
}
  where
    snapshots : Snapshots
    snapshots = record { mem = Some k.durable.a; store = Some k.durable.b }

    held : Held (record { mem = Some k.durable.a; store = Some k.durable.b }) (commits_of k)
    held = held_of (run_of (traces_of k)) (is_run (traces_of k) inv.linked) (record { mem = Some k.durable.a; store = Some k.durable.b })
        (point_pair (first_of k.regs.points) (rest_of k.regs.points) (stairs_of k.regs inv.sound).1 k.durable (subst (λ ps. In k.durable ps) (whole k.regs inv.sound) inv.durable))

    -- a number of the commit is past the cut, where it stands behind the prefix
    over : (s : EngineName) (n : ℕ) (c : Commit) → In c held.rest → number_in s c ≡ Some n → n ≤ number_at s k.durable → ⊥
    over Mem n c i e l = over_clash k.durable.a n c.mem (each_in (λ (c : Commit). Over k.durable.a c.mem) held.rest c (held.over Mem k.durable.a refl) i) e l
    over Store n c i e l = over_clash k.durable.b n c.store (each_in (λ (c : Commit). Over k.durable.b c.store) held.rest c (held.over Store k.durable.b refl) i) e l

    holds : (r : Actor) → In r k.actors → r.committed ≡ true → is_over r.stage ≡ true → list_any (same_label r.label) k.queue ≡ false → (c : Commit) → In c (commits_of k) → c.label ≡ r.label → In c (take (durable_place k) (commits_of k))
    holds r i c o none d j l =
        let covered : Covered k.durable r = ⊎_elim (λ (w : Waits k.queue r). absurd (false≢true (sym none ∙ w))) (λ (w : Covered k.durable r). w) (each_in (Acked k.queue k.durable) k.actors r a.acked i c o) in
        let whose : Committer (traces_of k).transactions d = each_in (Committer (traces_of k).transactions) (commits_of k) d (committers (traces_of k) inv.linked) j in
        let mine : whose.who ≡ transaction_of r = distinct_same (traces_of k).transactions whose.who (transaction_of r) inv.linked.distinct whose.among (in_mapped r k.actors i) (sym whose.label ∙ l) in
        let drew : drawn_at whose.engine r.drew ≡ Some whose.number = ap (λ (x : Transaction). drawn_at whose.engine x.drew) (sym mine) ∙ whose.drew in
        let number : number_in whose.engine d ≡ Some whose.number = whose.numbers whose.engine ∙ whose.drew in
        subst (λ cs. In d cs) (sym (held_prefix (record { mem = Some k.durable.a; store = Some k.durable.b }) (commits_of k) held))
        (⊎_elim (λ (x : In d held.held). x) (λ (x : In d held.rest). absurd (over whose.engine whose.number d x number (covered whose.engine whose.number drew))) (in_either d held.held held.rest (subst (λ cs. In d cs) held.is j)))

pub durable : RunsAreDurable
durable s events = durable_now (ran s events) (all_keep s events)
    (run_acks (core_at s.catalog s.rows s.first s.partitions s.size) events (starts_well s.catalog s.rows s.first s.partitions s.size s.can_start s.sorted) (record { acked = tt; past = tt }))
