-- What the registry on one thread stands for, after an append and at its start.
use Rattle.std.specs.Prelude.{◌≡◌, ℕ, suc, List, [], ◌∷◌, ◌++◌, true, false, ◌+◌, ◌-◌, ◌*◌, ◌<◌, ◌≤◌, length, drop}
use Rattle.std.proofs.Common.{refl, sym, ap, subst, ◌∙◌, ⊎_elim, arith}
use Rattle.std.specs.List.{AllByRecursion}
use Rattle.std.proofs.Math.Nat.{add-mul}
use Rattle.std.proofs.lemmas.Bool.{cases_Bool, eqb-true, eq-eqb, ne_eqb}
use Rattle.std.proofs.lemmas.List.{drop-append-le, drop-drop, length-drop}
use Rattle.sk_model.specs.declared.point.Point.{Point}
use Rattle.sk_weave.specs.Laws.{CanComeLast}
use Rattle.sk_weave.specs.Registry.{Regs, regs_at, live_of, is_full, IsSound, appended}
use Rattle.sk_weave.specs.RegistryLaws.{CanStart}
use Rattle.sk_weave.proofs.Registers.{appended_sound, start_sound, whole, at_least_two}
use Rattle.sk_points.specs.declared.points.Points.{Points}
use Rattle.sk_points.specs.Parts.{RingPart, points_in, IsSpare, Shape, room_parts, room_newest, pushed}
use Rattle.sk_points.specs.Stands.{StandsFor}
use Rattle.sk_points.proofs.Shapes.{no_points}
use Rattle.sk_points.proofs.Adding.{Added, added}

-- what an append leaves as it is
record Same (r : Regs) (q : Point) : Type 0 where
  mem : (appended r q).mem ≡ r.mem
  store : (appended r q).store ≡ r.store
  partitions : (appended r q).partitions ≡ r.partitions
  size : (appended r q).size ≡ r.size

same : (r : Regs) (q : Point) → Same r q
same r q = ⊎_elim
    (λ (t : is_full r ≡ true). record { mem = rw t refl; store = rw t refl; partitions = rw t refl; size = rw t refl })
    (λ (f : is_full r ≡ false). record { mem = rw f refl; store = rw f refl; partitions = rw f refl; size = rw f refl })
    (cases_Bool (is_full r))

-- the live points after an append
record Live (r : Regs) (q : Point) : Type 0 where
  kept : is_full r ≡ false → live_of (appended r q) ≡ live_of r ++ q ∷ []
  turned : is_full r ≡ true → live_of (appended r q) ≡ drop r.size (live_of r) ++ q ∷ []

live_after : (r : Regs) (q : Point) → IsSound r → Live r q
live_after r q s = record {
  kept = λ f. rw f (drop-append-le (r.low * r.size) r.points (q ∷ []) (let l : r.low * r.size < length r.points = s.live in omega arith));
  turned = λ t.
      let full : length r.points ≡ (r.low + r.partitions) * r.size = eqb-true (length r.points) ((r.low + r.partitions) * r.size) t in
      let all : (r.low + r.partitions) * r.size ≡ r.low * r.size + r.partitions * r.size = whole r.low r.partitions r.size in
      let two : r.size + r.size ≤ r.partitions * r.size = at_least_two r.partitions r.size s.partitions.0 in
      let next : (r.low + 1) * r.size ≡ r.low * r.size + 1 * r.size = add-mul r.low 1 r.size in
      let at : (r.low + 1) * r.size ≡ r.low * r.size + r.size = omega arith in
      rw (t, at) (drop-append-le (r.low * r.size + r.size) r.points (q ∷ []) (omega arith) ∙ ap (λ xs. xs ++ q ∷ []) (sym (drop-drop r.size (r.low * r.size) r.points)));
}

count_live : (r : Regs) → IsSound r → length r.points ≡ r.low * r.size + length (live_of r)
count_live r s =
    let l : r.low * r.size < length r.points = s.live in
    let n : length (drop (r.low * r.size) r.points) ≡ length r.points - r.low * r.size = length-drop (r.low * r.size) r.points in
    omega arith

pub append_stands : (old new : Points) (q : Point) → new.mem ≡ old.mem → new.store ≡ old.store → new.size ≡ old.size → new.newest ≡ room_newest old.parts.items old.newest
    → new.parts.items ≡ pushed (room_parts old.parts.items old.newest) (room_newest old.parts.items old.newest) q
    → (r : Regs) → StandsFor old r → CanComeLast r.points q → q.a ≤ r.mem → q.b ≤ r.store → StandsFor new (appended r q)
append_stands old new q mem store size newest parts r h last a b =
    let s : IsSound r = h.sound in
    let some : 2 ≤ r.size = s.size.0 in
    let two : 2 ≤ r.partitions = s.partitions.0 in
    let os : old.size ≡ r.size = h.size in
    let op : length old.parts.items ≡ r.partitions = h.partitions in
    let e : Added old.parts.items old.newest old.size q = added old.parts.items old.newest old.size q h.shape (omega arith) (omega arith) in
    let count : length r.points ≡ r.low * r.size + length (live_of r) = count_live r s in
    let len : length (points_in old.parts.items) ≡ length (live_of r) = ap length h.live in
    let all : (r.low + r.partitions) * r.size ≡ r.low * r.size + r.partitions * r.size = whole r.low r.partitions r.size in
    let room : length old.parts.items * old.size ≡ r.partitions * r.size = ap (λ n. n * old.size) op ∙ ap (λ n. r.partitions * n) os in
    let is : Same r q = same r q in
    let new_points : points_in new.parts.items ≡ points_in (pushed (room_parts old.parts.items old.newest) (room_newest old.parts.items old.newest) q) = ap points_in parts in
    record {
      mem = mem ∙ h.mem ∙ sym is.mem;
      store = store ∙ h.store ∙ sym is.store;
      sound = appended_sound r q s last a b;
      size = size ∙ os ∙ sym is.size;
      partitions = ap length parts ∙ e.count ∙ op ∙ sym is.partitions;
      shape = subst (λ xs. Shape xs new.newest new.size) (sym parts) (subst (λ n. Shape (pushed (room_parts old.parts.items old.newest) (room_newest old.parts.items old.newest) q) n new.size) (sym newest)
          (subst (λ n. Shape (pushed (room_parts old.parts.items old.newest) (room_newest old.parts.items old.newest) q) (room_newest old.parts.items old.newest) n) (sym size) e.shape));
      live = ⊎_elim
          (λ (k : (length (points_in old.parts.items) < length old.parts.items * old.size) × (points_in (pushed (room_parts old.parts.items old.newest) (room_newest old.parts.items old.newest) q) ≡ points_in old.parts.items ++ q ∷ [])).
          let free : is_full r ≡ false = ne_eqb (length r.points) ((r.low + r.partitions) * r.size) (λ f. let l : length (points_in old.parts.items) < length old.parts.items * old.size = k.0 in absurd (omega arith)) in
          new_points ∙ k.1 ∙ ap (λ xs. xs ++ q ∷ []) h.live ∙ sym ((live_after r q s).kept free))
          (λ (k : (length (points_in old.parts.items) ≡ length old.parts.items * old.size) × (points_in (pushed (room_parts old.parts.items old.newest) (room_newest old.parts.items old.newest) q) ≡ drop old.size (points_in old.parts.items) ++ q ∷ [])).
          let full : is_full r ≡ true = eq-eqb (length r.points) ((r.low + r.partitions) * r.size) (let l : length (points_in old.parts.items) ≡ length old.parts.items * old.size = k.0 in omega arith) in
          new_points ∙ k.1 ∙ ap (λ xs. drop old.size xs ++ q ∷ []) h.live ∙ ap (λ n. drop n (live_of r) ++ q ∷ []) os ∙ sym ((live_after r q s).turned full))
          e.points;
    }

-- a partition with one point, and empty ones
pub start_stands : (new : Points) (partitions size : ℕ) (start : Point) (spare : List RingPart) → CanStart partitions size start → new.mem ≡ start.a → new.store ≡ start.b → new.size ≡ size → new.newest ≡ 0
    → new.parts.items ≡ record { points = start ∷ []; size = size } ∷ spare → length spare + 1 ≡ partitions → AllByRecursion (IsSpare size) spare → StandsFor new (regs_at partitions size start)
start_stands new partitions size start spare h mem store is newest parts len empty =
    let zero : 0 * size ≡ 0 = omega arith in
    let two : 2 ≤ size = h.size.0 in
    let shape : Shape (record { points = start ∷ []; size = size } ∷ spare) 0 size = record {
      full = [];
      here = record { points = start ∷ []; size = size };
      spare = spare;
      is = refl;
      at = refl;
      filled = tt;
      here_size = refl;
      some = omega arith;
      fits = omega arith;
      empty = empty;
    } in
    record {
      mem = mem;
      store = store;
      sound = start_sound partitions size start h;
      size = is;
      partitions = ap length parts ∙ suc_is (length spare) ∙ len;
      shape = subst (λ xs. Shape xs new.newest new.size) (sym parts) (subst (λ n. Shape (record { points = start ∷ []; size = size } ∷ spare) n new.size) (sym newest)
          (subst (λ n. Shape (record { points = start ∷ []; size = size } ∷ spare) 0 n) (sym is) shape));
      live = ap points_in parts ∙ ap (λ xs. start ∷ xs) (no_points size spare empty) ∙ ap (λ n. drop n (start ∷ [])) (sym zero);
    }
  where
    suc_is : (n : ℕ) → suc n ≡ n + 1
    suc_is n = omega arith

pub each_spare : (size : ℕ) (spare : List RingPart) (p : RingPart) → AllByRecursion (IsSpare size) spare → IsSpare size p → AllByRecursion (IsSpare size) (spare ++ p ∷ [])
each_spare size [] p h k = (k, tt)
each_spare size (x ∷ xs) p h k = (h.0, each_spare size xs p h.1 k)
