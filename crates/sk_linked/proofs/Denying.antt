-- In linked traces each refusal of a record has its cause: what an engine refused, in its journal, and what the registry refused, in the points and the numbers.
use Rattle.std.specs.Prelude.{ℕ, Bool, true, false, cond, ◌&&◌, ◌≡◌, ◌⊎◌, ◌<◌, ◌≤◌, ◌*◌, ◌+◌, ◌-◌, ◌==◌, nat_lt, length, get_or, List, [], ◌∷◌, ◌++◌, Some, Result, Ok, Err}
use Rattle.std.proofs.Common.{refl, sym, ap, subst, ◌∙◌, inl, inr, ⊎_elim, arith}
use Rattle.std.proofs.lemmas.Bool.{cases_Bool, cases_lt, false≢true, eqb-true, ltb-true, lt-ltb}
use Rattle.std.proofs.lemmas.List.{get_or_append_left}
use Rattle.sk_model.specs.declared.engine.EngineName.{EngineName}
use Rattle.sk_model.specs.declared.engine.EngineName.TheVariants.{Mem, Store}
use Rattle.sk_model.specs.declared.point.Point.{Point}
use Rattle.sk_model.specs.declared.point.Recycled.{Recycled}
use Rattle.sk_model.specs.declared.record.Record.{Record}
use Rattle.sk_model.specs.declared.record.Said.{Said}
use Rattle.sk_model.specs.declared.reply.Reply.{Reply}
use Rattle.sk_model.specs.declared.reply.Reply.TheVariants as reply
use Rattle.sk_model.specs.Numbers.{greatest_number}
use Rattle.sk_model.specs.Records.{same_label}
use Rattle.sk_model.specs.Talks.{own, opened}
use Rattle.sk_model.specs.RecordTalks.{Talks}
use Rattle.sk_model.proofs.Lists.{Each}
use Rattle.sk_model.proofs.Labels.{same_is}
use Rattle.sk_weave.specs.declared.answer.Passed.{Passed}
use Rattle.sk_weave.specs.declared.answer.Selected.{Selected}
use Rattle.sk_weave.specs.declared.answer.DrawFault.{DrawFault}
use Rattle.sk_weave.specs.declared.answer.DrawFault.TheVariants.{Spent, Early}
use Rattle.sk_weave.specs.Points.{last_from, pick}
use Rattle.sk_weave.specs.Registry.{Regs, no_point, oldest_of, last_of, selected, drawn, checked}
use Rattle.sk_weave.specs.RegistryLaws.{IsRecycled}
use Rattle.sk_linked.specs.Reads.{number_at}
use Rattle.sk_weave.proofs.Registers.{recycled_right}
use Rattle.sk_linked.specs.Traces.{Transaction, Traces, In, MakerOf, IsAtHorizons, Belongs, Linked}
use Rattle.sk_linked.specs.State.{counter}
use Rattle.sk_linked.specs.Recorded.{HasTalk}
use Rattle.sk_linked.specs.Causes.{MadeByOther, Drawer, points_of, Ring, IsPassed, Caused, IsStateOf, MadeSelection, RegistrySaid, RefusalsAreCaused}
use Rattle.sk_linked.proofs.Members.{each_in, in_front, distinct_same}
use Rattle.sk_linked.proofs.Refusing.{is_plain, Source, ByFault, ByAnchor, Plain, said_sources}
use Rattle.sk_linked.proofs.Causes.{met, stands, by_engine, number_past, snapshot_past}

at_least_itself : (a b : ℕ) → a ≤ b → b < a → ⊥
at_least_itself a b h k = omega arith

last_in : (p : Point) (qs : List Point) → In (last_from p qs) (p ∷ qs)
last_in p [] = inl refl
last_in p (q ∷ qs) = inr (last_in q qs)

last_among : (points : List Point) → 0 < length points → In (last_of points) points
last_among [] h = absurd (omega arith)
last_among (p ∷ qs) h = last_in p qs

longer : (xs ys : List Point) → length xs ≤ length (xs ++ ys)
longer [] ys = omega arith
longer (x ∷ xs) ys = let l : length xs ≤ length (xs ++ ys) = longer xs ys in omega arith

module _ (h : Traces) (ring : Ring) (t : Transaction) (r : Record) (linked : Linked h) (among : In t h.transactions) (same : HasTalk t r) (made : t.made ≡ r.made) where
  mine : Belongs h t
  mine = each_in (Belongs h) h.transactions t linked.each among

  -- ---- a check

  check_failed : (regs : Regs) (ca cb : ℕ) (q : Point) → checked regs ca cb ≡ Err (record { point = q }) → (q ≡ last_of regs.points) × ((ca ≤ q.a) ⊎ (cb ≤ q.b))
  check_failed regs ca cb q e = go (nat_lt (last_of regs.points).a ca) (nat_lt (last_of regs.points).b cb) refl refl e
    where
      point_is : {x y : Point} → ◌≡◌ {A = Result (Unit {0}) Passed} (Err (record { point = x })) (Err (record { point = y })) → y ≡ x
      point_is {x} {y} e = ap (λ (p : Passed). p.point) (sym (err_is e))
        where
          err_is : {p s : Passed} → ◌≡◌ {A = Result (Unit {0}) Passed} (Err p) (Err s) → p ≡ s
          err_is e = cc

      not_below : (x y : ℕ) → nat_lt x y ≡ false → y ≤ x
      not_below x y f = ⊎_elim (λ (l : x < y). absurd (false≢true (sym f ∙ lt-ltb x y l))) (λ (l : y ≤ x). l) (cases_lt x y)

      go : (a b : Bool) → nat_lt (last_of regs.points).a ca ≡ a → nat_lt (last_of regs.points).b cb ≡ b → cond {A = Result (Unit {0}) Passed} (a && b) (Ok tt) (Err (record { point = last_of regs.points })) ≡ Err (record { point = q }) → (q ≡ last_of regs.points) × ((ca ≤ q.a) ⊎ (cb ≤ q.b))
      go true true x y e = absurd cc
      go false b x y e = let is : q ≡ last_of regs.points = point_is e in (is, inl (subst (λ (p : Point). ca ≤ p.a) (sym is) (not_below _ ca x)))
      go true false x y e = let is : q ≡ last_of regs.points = point_is e in (is, inr (subst (λ (p : Point). cb ≤ p.b) (sym is) (not_below _ cb y)))

  among_points : (regs : Regs) → IsStateOf h ring regs → In (last_of regs.points) (points_of h)
  among_points regs s = subst (In (last_of regs.points)) (sym s.points) (in_front (last_of regs.points) regs.points s.more (last_among regs.points (some (regs.low * regs.size) s.sound.live)))
    where
      some : (n : ℕ) → n < length regs.points → 0 < length regs.points
      some n l = omega arith

  -- the point that was in the way is not its own
  by_other : (q : Point) (ca cb : ℕ) → In q (points_of h) → r.drew_mem ≡ Some ca → r.drew_store ≡ Some cb → MadeSelection r → (ca ≤ q.a) ⊎ (cb ≤ q.b) → MadeByOther h r q
  by_other q ca cb i dm ds own far = ⊎_elim
      (λ (e : q ≡ h.first). absurd (⊎_elim
      (λ (l : ca ≤ q.a). at_least_itself ca h.first.a (subst (λ (p : Point). ca ≤ p.a) e l) (mine.past Mem ca (sym same.drew_mem ∙ dm)))
      (λ (l : cb ≤ q.b). at_least_itself cb h.first.b (subst (λ (p : Point). cb ≤ p.b) e l) (mine.past Store cb (sym same.drew_store ∙ ds)))
      far))
      (λ (k : In q h.points). ⊎_elim
      (λ (m : MakerOf h.transactions q). made_by m (cases_Bool (same_label r.label m.who.label)))
      (λ (z : IsAtHorizons h.journals q). inr z)
      (each_in _ h.points q linked.made.source k))
      i
    where
      own_made : (q.commit ≡ false) × (r.mem ≡ Some q.a) × (r.store ≡ Some q.b) → ⊥
      own_made o = ⊎_elim
          (λ (l : ca ≤ q.a). at_least_itself ca q.a l (number_past h t linked among Mem q.a ca (sym same.mem ∙ o.1) (sym same.drew_mem ∙ dm)))
          (λ (l : cb ≤ q.b). at_least_itself cb q.b l (number_past h t linked among Store q.b cb (sym same.store ∙ o.2) (sym same.drew_store ∙ ds)))
          far

      made_by : (m : MakerOf h.transactions q) → (same_label r.label m.who.label ≡ true) ⊎ (same_label r.label m.who.label ≡ false) → MadeByOther h r q
      made_by m (inr f) = inl (m.who, m.among, m.made, f)
      made_by m (inl y) =
          let is : m.who ≡ t = distinct_same h.transactions m.who t linked.distinct m.among among (sym (same_is r.label m.who.label y) ∙ same.label) in
          absurd (own_made (each_in _ r.made q own (subst (In q) (ap (λ (u : Transaction). u.made) is ∙ made) m.made)))

  -- ---- a selection

  too_old : (regs : Regs) (now : ℕ) (x : Recycled) → selected regs x.a now ≡ Err x → (x.oldest ≡ oldest_of regs) × (x.a < x.oldest.a)
  too_old regs now x e = go (nat_lt x.a (oldest_of regs).a) refl e
    where
      err_is : {p s : Recycled} → ◌≡◌ {A = Result Selected Recycled} (Err p) (Err s) → p ≡ s
      err_is e = cc

      go : (b : Bool) → nat_lt x.a (oldest_of regs).a ≡ b → cond b (Err (record { a = x.a; oldest = oldest_of regs })) (Ok (pick regs.points x.a now)) ≡ Err x → (x.oldest ≡ oldest_of regs) × (x.a < x.oldest.a)
      go false f e = absurd cc
      go true l e =
          let is : x.oldest ≡ oldest_of regs = ap (λ (y : Recycled). y.oldest) (sym (err_is e)) in
          (is, subst (λ (p : Point). x.a < p.a) (sym is) (ltb-true x.a (oldest_of regs).a l))

  passed : (regs : Regs) (now : ℕ) (x : Recycled) → IsStateOf h ring regs → r.mem ≡ Some x.a → selected regs x.a now ≡ Err x → IsPassed (points_of h) ring x.oldest
  passed regs now x s anchor e =
      let first : get_or regs.points 0 no_point ≡ h.first = sym (get_or_append_left regs.points s.more no_point 0 (some (regs.low * regs.size) s.sound.live)) ∙ ap (λ ps. get_or ps 0 no_point) (sym s.points) in
      let begun : (get_or regs.points 0 no_point).a ≤ x.a = subst (λ (p : Point). p.a ≤ x.a) (sym first) (snapshot_past h t linked among Mem x.a (sym same.mem ∙ anchor)) in
      let right : IsRecycled regs = recycled_right regs x.a now x s.sound begun e in
      record {
        partition = regs.low;
        given_up = right.given_up;
        is = subst (λ n. get_or (points_of h) (regs.low * n) no_point ≡ x.oldest) s.size
            (ap (λ ps. get_or ps (regs.low * regs.size) no_point) s.points ∙ get_or_append_left regs.points s.more no_point (regs.low * regs.size) s.sound.live ∙ sym right.oldest ∙ sym (too_old regs now x e).0);
        filled = subst (λ n. regs.low * n + (ring.partitions - 1) * n ≤ length (points_of h)) s.size (subst (λ p. regs.low * regs.size + (p - 1) * regs.size ≤ length (points_of h)) s.partitions
            (subst (λ ps. regs.low * regs.size + (regs.partitions - 1) * regs.size ≤ length ps) (sym s.points) (up _ (length regs.points) (length (regs.points ++ s.more)) right.filled (longer regs.points s.more))));
      }
    where
      some : (n : ℕ) → n < length regs.points → 0 < length regs.points
      some n l = omega arith

      up : (a b c : ℕ) → a ≤ b → b ≤ c → a ≤ c
      up a b c l m = omega arith

  -- ---- a draw

  spent : (regs : Regs) (name : EngineName) (floor : ℕ) → IsStateOf h ring regs → drawn (counter name regs) floor ≡ Err Spent → (number_at name h.first ≡ greatest_number) ⊎ Drawer h name greatest_number
  spent regs name floor s e = go (cases_lt (number_at name h.first) greatest_number)
    where
      at_end : (n : ℕ) (b : Bool) → (n == greatest_number) ≡ b → cond b (Err Spent) (cond (nat_lt n floor) (Err (Early floor n)) (Ok (n + 1))) ≡ Err Spent → n ≡ greatest_number
      at_end n true t e = eqb-true n greatest_number t
      at_end n false t e = absurd (early (nat_lt n floor) e)
        where
          early : (b : Bool) → ◌≡◌ {A = Result ℕ DrawFault} (cond b (Err (Early floor n)) (Ok (n + 1))) (Err Spent) → ⊥
          early true e = cc
          early false e = cc

      counted : counter name regs ≡ greatest_number
      counted = at_end (counter name regs) (counter name regs == greatest_number) refl e

      go : (number_at name h.first < greatest_number) ⊎ (greatest_number ≤ number_at name h.first) → (number_at name h.first ≡ greatest_number) ⊎ Drawer h name greatest_number
      go (inl l) = inr (s.drawn name greatest_number l (subst (λ n. greatest_number ≤ n) (sym counted) (itself greatest_number)))
        where
          itself : (n : ℕ) → n ≤ n
          itself n = omega arith
      go (inr l) = inl (equal (number_at name h.first) greatest_number l (subst (λ n. number_at name h.first ≤ n) counted (s.counters name)))
        where
          equal : (a b : ℕ) → b ≤ a → a ≤ b → a ≡ b
          equal a b k m = omega arith

  -- ---- each reply

  caused : (talks : Talks h.catalog r t.talk) (said : Reply) → Source (opened Mem talks.spoken) talks.spoken said → RegistrySaid h ring r said → Caused h ring r said
  caused talks said (ByFault e c f i is) reg =
      let stood = stands h ring t r linked among same e c f (subst (In (own e c _)) (sym talks.talk_is) (in_front (own e c _) talks.spoken _ i)) in
      subst (Caused h ring r) (sym is) (by_engine h ring t r linked among same e c f (met h ring t r linked among same e c f stood.0) stood.1)
  caused talks said (ByAnchor x is a) reg = subst (Caused h ring r) (sym is) (recycled (subst (RegistrySaid h ring r) is reg))
    where
      anchor : r.mem ≡ Some x.a
      anchor = talks.mem ∙ a

      recycled : RegistrySaid h ring r (reply.Recycled x) → Caused h ring r (reply.Recycled x)
      recycled k = (anchor, (too_old k.0 k.2 x k.3).1, passed k.0 k.2 x k.1 anchor k.3)
  caused talks said (Plain p) reg = plain said p reg
    where
      plain : (said : Reply) → is_plain said ≡ true → RegistrySaid h ring r said → Caused h ring r said
      plain (reply.Conflict by why) p k = absurd (false≢true p)
      plain (reply.Busy by) p k = absurd (false≢true p)
      plain (reply.Old engine s n) p k = absurd (false≢true p)
      plain (reply.Recycled x) p k = absurd (false≢true p)
      plain (reply.CheckFailed q ca cb) p k =
          let failed : (q ≡ last_of k.0.points) × ((ca ≤ q.a) ⊎ (cb ≤ q.b)) = check_failed k.0 ca cb q k.2 in
          let stood : In q (points_of h) = subst (λ (x : Point). In x (points_of h)) (sym failed.0) (among_points k.0 k.1) in
          (k.3, k.4, failed.1, stood, by_other q ca cb stood k.3 k.4 k.5 failed.1)
      plain (reply.Spent name) p k = spent k.0 name k.2 k.1 k.3
      plain (reply.Began label) p k = tt
      plain (reply.Count n) p k = tt
      plain (reply.Rows rows) p k = tt
      plain reply.Committed p k = tt
      plain reply.RolledBack p k = tt
      plain (reply.Step s n) p k = tt
      plain (reply.Refused word) p k = tt

  each_caused : (talks : Talks h.catalog r t.talk) (said : List Said) → Each (λ (s : Said). Source (opened Mem talks.spoken) talks.spoken s.reply) said → Each (λ (s : Said). RegistrySaid h ring r s.reply → Caused h ring r s.reply) said
  each_caused talks [] f = tt
  each_caused talks (s ∷ said) f = (caused talks s.reply f.0, each_caused talks said f.1)

pub refusals_are_caused : RefusalsAreCaused
refusals_are_caused h ring t r linked among same made talks = each_caused h ring t r linked among same made talks r.said (said_sources h.catalog r t.talk talks)
