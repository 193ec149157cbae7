-- What a transaction saw when it began, and what comes later.
use Rattle.std.specs.Prelude.{ℕ, List, [], ◌∷◌, Option, Some, Bool, true, false, cond, ◌==◌, ◌+◌, ◌≡◌, ◌<◌, ◌≤◌, length, map}
use Rattle.std.proofs.Common.{sym, ap, subst, arith}
use Rattle.std.specs.List.{filter}
use Rattle.std.proofs.lemmas.Bool.{cond_both, cond-false, false≢true, and_parts, eqb-true}
use Rattle.sk_model.specs.declared.label.Label.{Label}
use Rattle.sk_model.specs.declared.engine.EngineName.{EngineName}
use Rattle.sk_model.specs.Records.{same_label}
use Rattle.sk_model.proofs.Lists.{Each, each_weaker, each_both}
use Rattle.sk_weave.specs.Registry.{Regs}
use Rattle.sk_weave.specs.AheadLaws.{Counters, AreAhead}
use Rattle.sk_linked.specs.Reads.{Snapshots, snapshot_at}
use Rattle.sk_linked.specs.Traces.{Drawn, drawn_at, Distinct}
use Rattle.sk_linked.specs.State.{Both, of, Stage, Actor, transaction_of, Core, counter}
use Rattle.sk_linked.specs.Plans.{is_over, of_session}
use Rattle.sk_linked.specs.Machine.{put_actor}
use Rattle.sk_linked.proofs.Applying.{Other, each_put_actor}

abbrev pub counters : Both ℕ → Counters
counters seen = record { mem = seen.mem; store = seen.store }

pub record SeesAt (regs : Regs) (seen : Both ℕ) (opened : Snapshots) (chosen : Option ℕ) : Type 0 where
  pub upto : (s : EngineName) → of s seen ≤ counter s regs
  pub opened_past : (s : EngineName) (a : ℕ) → snapshot_at s opened ≡ Some a → (of s seen ≤ a) × (a ≤ counter s regs)
  pub chosen_past : (b : ℕ) → chosen ≡ Some b → (seen.store ≤ b) × (b ≤ regs.store)
  pub anchor : (a : ℕ) → opened.mem ≡ Some a → a ≡ seen.mem
  pub ahead : AreAhead (counters seen) regs.points

abbrev pub Sees : Regs → Actor → Type 0
Sees regs x = SeesAt regs x.seen x.opened x.chosen

-- who drew a number of the memory engine behind what x saw drew its number of the storage engine behind it too
abbrev pub Later : Actor → Actor → Type 0
Later t x = (m n : ℕ) → t.drew.mem ≡ Some m → t.drew.store ≡ Some n → x.seen.mem < m → x.seen.store < n

pub record SawAt (stage : Stage) (opened : Snapshots) (drew : Drawn) (seen : Both ℕ) : Type 0 where
  pub over : is_over stage ≡ true
  pub opened_seen : (s : EngineName) (a : ℕ) → snapshot_at s opened ≡ Some a → a ≤ of s seen
  pub drew_seen : (s : EngineName) (n : ℕ) → drawn_at s drew ≡ Some n → n ≤ of s seen

-- of two transactions of one session the earlier is over, and the later saw all of it
abbrev pub Follow : Actor → Actor → Type 0
Follow r x = r.label.session ≡ x.label.session → r.label.k < x.label.k → SawAt r.stage r.opened r.drew x.seen

-- the numbers of a session's labels are at most their count
abbrev pub Counted : List Actor → Actor → Type 0
Counted actors r = r.label.k ≤ length (filter (of_session r.label) actors)

pub record Freshly (k : Core) : Type 0 where
  pub sees : Each (Sees k.regs) k.actors
  pub later : Each (λ (t : Actor). Each (Later t) k.actors) k.actors
  pub follows : Each (λ (r : Actor). Each (Follow r) k.actors) k.actors
  pub counted : Each (Counted k.actors) k.actors

-- ---- pairs, where one transaction takes its place

pub pairs_put : (P : Actor → Actor → Type 0) (r : Actor) (xs : List Actor) → Distinct (map transaction_of xs) → P r r → Each (Other (P r) r) xs → Each (Other (λ x. P x r) r) xs
    → Each (λ (x : Actor). Each (P x) xs) xs → Each (λ (x : Actor). Each (P x) (put_actor r xs)) (put_actor r xs)
pairs_put P r xs d same here there_is all = each_put_actor (λ x. Each (P x) (put_actor r xs)) r xs
    (each_put_actor (P r) r xs same here d)
    (each_weaker (λ (x : Actor). Other (λ x. P x r) r x × Each (P x) xs) (Other (λ x. Each (P x) (put_actor r xs)) r)
    (λ x q f. each_put_actor (P x) r xs (q.0 f) (each_weaker (P x) (Other (P x) r) (λ y h g. h) xs q.1) d)
    xs (each_both (Other (λ x. P x r) r) (λ (x : Actor). Each (P x) xs) xs there_is all)) d

-- ---- counts

session_same : (l : Label) (r x : Actor) → same_label r.label x.label ≡ true → of_session l r ≡ of_session l x
session_same l r x e = ap (λ n. n == l.session) (eqb-true r.label.session x.label.session (and_parts (r.label.session == x.label.session) (r.label.k == x.label.k) e).0)

longer : (p : Actor → Bool) (x : Actor) (xs ys : List Actor) → length (filter p xs) ≤ length (filter p ys) → length (filter p (x ∷ xs)) ≤ length (filter p (x ∷ ys))
longer p x xs ys l = go (p x)
  where
    go : (b : Bool) → length (cond b (x ∷ filter p xs) (filter p xs)) ≤ length (cond b (x ∷ filter p ys) (filter p ys))
    go true = omega (arith, l)
    go false = l

more : (p : Actor → Bool) (r : Actor) → length (filter p []) ≤ length (filter p (r ∷ []))
more p r = omega arith

pub count_grows : (l : Label) (r : Actor) (xs : List Actor) → length (filter (of_session l) xs) ≤ length (filter (of_session l) (put_actor r xs))
count_grows l r [] = more (of_session l) r
count_grows l r (x ∷ xs) = grow (count_grows l r xs)
  where
    swap : (b c : Bool) → b ≡ c → length (cond c (x ∷ filter (of_session l) xs) (filter (of_session l) xs)) ≤ length (cond b (r ∷ filter (of_session l) xs) (filter (of_session l) xs))
    swap true true e = omega arith
    swap true false e = absurd (false≢true (sym e))
    swap false true e = absurd (false≢true e)
    swap false false e = omega arith

    grow : length (filter (of_session l) xs) ≤ length (filter (of_session l) (put_actor r xs)) → length (filter (of_session l) (x ∷ xs)) ≤ length (filter (of_session l) (cond (same_label r.label x.label) (r ∷ xs) (x ∷ put_actor r xs)))
    grow ih = cond_both (same_label r.label x.label) (r ∷ xs) (x ∷ put_actor r xs) (λ ys. length (filter (of_session l) (x ∷ xs)) ≤ length (filter (of_session l) ys))
        (λ e. swap (of_session l r) (of_session l x) (session_same l r x e))
        (λ e. longer (of_session l) x xs (put_actor r xs) ih)

pub count_new : (l : Label) (r : Actor) (xs : List Actor) → Each (λ (x : Actor). same_label r.label x.label ≡ false) xs → of_session l r ≡ true → length (filter (of_session l) xs) + 1 ≤ length (filter (of_session l) (put_actor r xs))
count_new l r [] h y = subst (λ b. 0 + 1 ≤ length (cond b (r ∷ []) [])) (sym y) (omega arith)
count_new l r (x ∷ xs) h y =
    let ih : length (filter (of_session l) xs) + 1 ≤ length (filter (of_session l) (put_actor r xs)) = count_new l r xs h.1 y in
    subst (λ ys. length (filter (of_session l) (x ∷ xs)) + 1 ≤ length (filter (of_session l) ys)) (sym (cond-false (same_label r.label x.label) (r ∷ xs) (x ∷ put_actor r xs) h.0)) (go (of_session l x) ih)
  where
    go : (b : Bool) → length (filter (of_session l) xs) + 1 ≤ length (filter (of_session l) (put_actor r xs))
        → length (cond b (x ∷ filter (of_session l) xs) (filter (of_session l) xs)) + 1 ≤ length (cond b (x ∷ filter (of_session l) (put_actor r xs)) (filter (of_session l) (put_actor r xs)))
    go true l = omega (arith, l)
    go false l = l
