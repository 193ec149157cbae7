-- A point behind the others.
use Rattle.std.specs.Prelude.{◌≡◌, ℕ, suc, List, [], ◌∷◌, ◌++◌, true, false, ◌==◌, ◌+◌, ◌*◌, ◌<◌, ◌≤◌, ◌⊎◌, nat_lt, length, get_or, take, drop, set, slice_index_or}
use Rattle.std.proofs.Common.{refl, sym, ap, subst, ◌∙◌, inl, inr, ⊎_elim, arith}
use Rattle.std.specs.List.{AllByRecursion}
use Rattle.std.proofs.Math.Nat.{add-mul}
use Rattle.std.proofs.Math.Seq.{get_or-append_seam, set-append_seam}
use Rattle.std.proofs.lemmas.Bool.{cases_Bool, cases_lt, eqb-true, eqb-false, lt-ltb, le-ltb, cond-true, cond-false}
use Rattle.std.proofs.lemmas.List.{append_assoc, append-nil, length-append, length-set, drop_at, get_or_default}
use Rattle.std.proofs.lemmas.List.Concat.{flat_map-append}
use Rattle.sk_model.specs.declared.point.Point.{Point}
use Rattle.sk_weave.specs.Registry.{no_point}
use Rattle.sk_points.specs.Parts.{RingPart, no_part, points_in, IsFilled, IsSpare, Shape, turned, next_parts, next_newest, is_full_part, room_parts, room_newest, with_point, pushed}
use Rattle.sk_points.proofs.Shapes.{split, newest_is, newest_there, count, times_less}

-- the partitions with one more point: where all were full, the oldest has been emptied
pub record Added (parts : List RingPart) (newest size : ℕ) (q : Point) : Type 0 where
  pub shape : Shape (pushed (room_parts parts newest) (room_newest parts newest) q) (room_newest parts newest) size
  pub count : length (pushed (room_parts parts newest) (room_newest parts newest) q) ≡ length parts
  pub points : ((length (points_in parts) < length parts * size) × (points_in (pushed (room_parts parts newest) (room_newest parts newest) q) ≡ points_in parts ++ q ∷ []))
      ⊎ ((length (points_in parts) ≡ length parts * size) × (points_in (pushed (room_parts parts newest) (room_newest parts newest) q) ≡ drop size (points_in parts) ++ q ∷ []))

made : (parts : List RingPart) (newest size : ℕ) (q : Point) (new : List RingPart) (n : ℕ)
    → pushed (room_parts parts newest) (room_newest parts newest) q ≡ new → room_newest parts newest ≡ n → Shape new n size → length new ≡ length parts
    → ((length (points_in parts) < length parts * size) × (points_in new ≡ points_in parts ++ q ∷ []))
    ⊎ ((length (points_in parts) ≡ length parts * size) × (points_in new ≡ drop size (points_in parts) ++ q ∷ []))
    → Added parts newest size q
made parts newest size q new n is at s len points = record {
  shape = subst (λ xs. Shape xs (room_newest parts newest) size) (sym is) (subst (λ m. Shape new m size) (sym at) s);
  count = ap length is ∙ len;
  points = subst (λ (xs : List RingPart). ((length (points_in parts) < length parts * size) × (points_in xs ≡ points_in parts ++ q ∷ []))
      ⊎ ((length (points_in parts) ≡ length parts * size) × (points_in xs ≡ drop size (points_in parts) ++ q ∷ []))) (sym is) points;
}

each_more : (size : ℕ) (full : List RingPart) (p : RingPart) → AllByRecursion (IsFilled size) full → IsFilled size p → AllByRecursion (IsFilled size) (full ++ p ∷ [])
each_more size [] p h k = (k, tt)
each_more size (f ∷ fs) p h k = (h.0, each_more size fs p h.1 k)

-- the partitions full, a newest one with room, and empty ones: a point more
record Put (full : List RingPart) (here : RingPart) (spare : List RingPart) (size : ℕ) (q : Point) : Type 0 where
  is : pushed (full ++ here ∷ spare) (length full) q ≡ full ++ with_point here q ∷ spare
  shape : Shape (full ++ with_point here q ∷ spare) (length full) size
  points : points_in (full ++ with_point here q ∷ spare) ≡ (points_in full ++ here.points) ++ q ∷ []
  count : length (full ++ with_point here q ∷ spare) ≡ length (full ++ here ∷ spare)

put : (full : List RingPart) (here : RingPart) (spare : List RingPart) (size : ℕ) (q : Point) → AllByRecursion (IsFilled size) full → here.size ≡ size → length here.points < size
    → AllByRecursion (IsSpare size) spare → Put full here spare size q
put full here spare size q f h l e =
    let len : length (here.points ++ q ∷ []) ≡ length here.points + 1 = length-append here.points (q ∷ []) in
    let shape : Shape (full ++ with_point here q ∷ spare) (length full) size = record {
      full = full;
      here = with_point here q;
      spare = spare;
      is = refl;
      at = refl;
      filled = f;
      here_size = h;
      some = omega arith;
      fits = omega arith;
      empty = e;
    } in
    record {
      is = ap (λ (p : RingPart). set (full ++ here ∷ spare) (length full) (with_point p q)) (get_or-append_seam full here spare no_part) ∙ set-append_seam full here spare (with_point here q);
      shape = shape;
      points = split (full ++ with_point here q ∷ spare) (length full) size shape ∙ sym (append_assoc (points_in full) here.points (q ∷ []));
      count = length-append full (with_point here q ∷ spare) ∙ sym (length-append full (here ∷ spare));
    }

-- where the newest partition has room
with_room : (parts : List RingPart) (newest size : ℕ) (q : Point) (s : Shape parts newest size) → is_full_part (slice_index_or parts newest no_part) ≡ false → newest < length parts → Added parts newest size q
with_room parts newest size q s f there =
    let here : get_or parts newest no_part ≡ s.here = newest_is parts newest size no_part s in
    let open_ : (length s.here.points == s.here.size) ≡ false = ap is_full_part (sym here) ∙ f in
    let ne : length s.here.points ≡ s.here.size → ⊥ = eqb-false (length s.here.points) s.here.size open_ in
    let hs : s.here.size ≡ size = s.here_size in
    let fits : length s.here.points ≤ size = s.fits in
    let p : Put s.full s.here s.spare size q = put s.full s.here s.spare size q s.filled s.here_size (omega arith) s.empty in
    let new_parts : room_parts parts newest ≡ s.full ++ s.here ∷ s.spare = cond-false (is_full_part (get_or parts newest no_part)) (next_parts parts newest) parts f ∙ s.is in
    let new_newest : room_newest parts newest ≡ length s.full = cond-false (is_full_part (get_or parts newest no_part)) (next_newest parts newest) newest f ∙ sym s.at in
    let all : length (points_in parts) ≡ newest * size + length s.here.points = count parts newest size s in
    let more : newest * size + size ≤ length parts * size = times_less newest (length parts) size there in
    made parts newest size q (s.full ++ with_point s.here q ∷ s.spare) (length s.full)
    (ap (λ n. pushed (room_parts parts newest) n q) new_newest ∙ ap (λ xs. pushed xs (length s.full) q) new_parts ∙ p.is) new_newest p.shape
    (p.count ∙ ap length (sym s.is)) (inl (omega arith, p.points ∙ ap (λ xs. xs ++ q ∷ []) (sym (split parts newest size s))))

-- where the next partition is empty
with_spare : (parts : List RingPart) (newest size : ℕ) (q : Point) (s : Shape parts newest size) → 1 ≤ size → is_full_part (slice_index_or parts newest no_part) ≡ true → newest + 1 < length parts
    → (e : RingPart) (es : List RingPart) → s.spare ≡ e ∷ es → Added parts newest size q
with_spare parts newest size q s some t l e es is =
    let here : get_or parts newest no_part ≡ s.here = newest_is parts newest size no_part s in
    let closed : (length s.here.points == s.here.size) ≡ true = ap is_full_part (sym here) ∙ t in
    let full : length s.here.points ≡ s.here.size = eqb-true (length s.here.points) s.here.size closed in
    let hs : s.here.size ≡ size = s.here_size in
    let spare : AllByRecursion (IsSpare size) (e ∷ es) = subst (λ xs. AllByRecursion (IsSpare size) xs) is s.empty in
    let nothing : length e.points ≡ 0 = ap length spare.0.1 in
    let front : List RingPart = s.full ++ s.here ∷ [] in
    let filled : AllByRecursion (IsFilled size) front = each_more size s.full s.here s.filled (hs, full ∙ hs) in
    let p : Put front e es size q = put front e es size q filled spare.0.0 (omega arith) spare.1 in
    let shape : parts ≡ front ++ e ∷ es = s.is ∙ ap (λ xs. s.full ++ s.here ∷ xs) is ∙ sym (append_assoc s.full (s.here ∷ []) (e ∷ es)) in
    let goes : nat_lt (newest + 1) (length parts) ≡ true = lt-ltb (newest + 1) (length parts) l in
    let new_parts : room_parts parts newest ≡ front ++ e ∷ es = cond-true (is_full_part (get_or parts newest no_part)) (next_parts parts newest) parts t ∙ cond-true (nat_lt (newest + 1) (length parts)) parts (turned parts) goes ∙ shape in
    let at : length front ≡ newest + 1 = length-append s.full (s.here ∷ []) ∙ ap (λ n. n + 1) s.at in
    let new_newest : room_newest parts newest ≡ length front = cond-true (is_full_part (get_or parts newest no_part)) (next_newest parts newest) newest t ∙ cond-true (nat_lt (newest + 1) (length parts)) (newest + 1) newest goes ∙ sym at in
    let all : length (points_in parts) ≡ newest * size + length s.here.points = count parts newest size s in
    let more : (newest + 1) * size + size ≤ length parts * size = times_less (newest + 1) (length parts) size l in
    let next : (newest + 1) * size ≡ newest * size + 1 * size = add-mul newest 1 size in
    let before : points_in front ++ e.points ≡ points_in parts = ap (λ xs. points_in front ++ xs) spare.0.1 ∙ append-nil (points_in front)
    ∙ flat_map-append (λ (p : RingPart). p.points) s.full (s.here ∷ []) ∙ ap (λ xs. points_in s.full ++ xs) (append-nil s.here.points) ∙ sym (split parts newest size s) in
    made parts newest size q (front ++ with_point e q ∷ es) (length front)
    (ap (λ n. pushed (room_parts parts newest) n q) new_newest ∙ ap (λ xs. pushed xs (length front) q) new_parts ∙ p.is) new_newest p.shape
    (p.count ∙ ap length (sym shape)) (inl (omega arith, p.points ∙ ap (λ xs. xs ++ q ∷ []) before))

-- where all are full
with_none : (parts : List RingPart) (newest size : ℕ) (q : Point) (s : Shape parts newest size) → 1 ≤ size → is_full_part (slice_index_or parts newest no_part) ≡ true → length parts ≤ newest + 1
    → (f : RingPart) (fs : List RingPart) → s.full ≡ f ∷ fs → s.spare ≡ [] → Added parts newest size q
with_none parts newest size q s some t l f fs first none =
    let here : get_or parts newest no_part ≡ s.here = newest_is parts newest size no_part s in
    let closed : (length s.here.points == s.here.size) ≡ true = ap is_full_part (sym here) ∙ t in
    let full : length s.here.points ≡ s.here.size = eqb-true (length s.here.points) s.here.size closed in
    let hs : s.here.size ≡ size = s.here_size in
    let filled : AllByRecursion (IsFilled size) (f ∷ fs) = subst (λ xs. AllByRecursion (IsFilled size) xs) first s.filled in
    let empty : RingPart = record f { points = [] } in
    let front : List RingPart = fs ++ s.here ∷ [] in
    let front_filled : AllByRecursion (IsFilled size) front = each_more size fs s.here filled.1 (hs, full ∙ hs) in
    let p : Put front empty [] size q = put front empty [] size q front_filled filled.0.0 (omega arith) tt in
    let shape : parts ≡ f ∷ front = s.is ∙ ap (λ xs. s.full ++ s.here ∷ xs) none ∙ ap (λ xs. xs ++ s.here ∷ []) first in
    let stays : nat_lt (newest + 1) (length parts) ≡ false = le-ltb (newest + 1) (length parts) l in
    let new_parts : room_parts parts newest ≡ front ++ empty ∷ [] = cond-true (is_full_part (get_or parts newest no_part)) (next_parts parts newest) parts t
    ∙ cond-false (nat_lt (newest + 1) (length parts)) parts (turned parts) stays ∙ ap turned shape in
    let at : length front ≡ newest = length-append fs (s.here ∷ []) ∙ one_more (length fs) ∙ ap length (sym first) ∙ s.at in
    let new_newest : room_newest parts newest ≡ length front = cond-true (is_full_part (get_or parts newest no_part)) (next_newest parts newest) newest t ∙ cond-false (nat_lt (newest + 1) (length parts)) (newest + 1) newest stays ∙ sym at in
    let all : length (points_in parts) ≡ newest * size + length s.here.points = count parts newest size s in
    let many : length parts ≡ newest + 1 = ap length shape ∙ sym (one_more (length front)) ∙ ap (λ n. n + 1) at in
    let times : (newest + 1) * size ≡ newest * size + 1 * size = add-mul newest 1 size in
    let same : length parts * size ≡ (newest + 1) * size = ap (λ n. n * size) many in
    let is : points_in parts ≡ f.points ++ points_in front = ap points_in shape in
    let dropped : drop size (points_in parts) ≡ points_in front = ap (λ xs. drop size xs) is ∙ drop_at f.points (points_in front) size filled.0.1 in
    made parts newest size q (front ++ with_point empty q ∷ []) (length front)
    (ap (λ n. pushed (room_parts parts newest) n q) new_newest ∙ ap (λ xs. pushed xs (length front) q) new_parts ∙ p.is) new_newest p.shape
    (p.count ∙ length-append front (empty ∷ []) ∙ one_more (length front) ∙ ap length (sym shape)) (inr (omega arith, p.points ∙ ap (λ xs. xs ++ q ∷ []) (append-nil (points_in front) ∙ sym dropped)))
  where
    one_more : (n : ℕ) → n + 1 ≡ suc n
    one_more n = omega arith

pub added : (parts : List RingPart) (newest size : ℕ) (q : Point) → Shape parts newest size → 1 ≤ size → 2 ≤ length parts → Added parts newest size q
added parts newest size q s some two = ⊎_elim
    (λ (t : is_full_part (slice_index_or parts newest no_part) ≡ true). ⊎_elim
    (λ (l : newest + 1 < length parts). next t l s.spare refl)
    (λ (le : length parts ≤ newest + 1). turn t le s.full refl s.spare refl)
    (cases_lt (newest + 1) (length parts)))
    (λ (f : is_full_part (slice_index_or parts newest no_part) ≡ false). with_room parts newest size q s f (newest_there parts newest size s))
    (cases_Bool (is_full_part (slice_index_or parts newest no_part)))
  where
    all : length parts ≡ newest + suc (length s.spare)
    all = ap length s.is ∙ length-append s.full (s.here ∷ s.spare) ∙ ap (λ n. n + suc (length s.spare)) s.at

    next : is_full_part (slice_index_or parts newest no_part) ≡ true → newest + 1 < length parts → (xs : List RingPart) → s.spare ≡ xs → Added parts newest size q
    next t l [] e = let n : length s.spare ≡ 0 = ap length e in let m : length parts ≡ newest + suc (length s.spare) = all in absurd (omega arith)
    next t l (x ∷ xs) e = with_spare parts newest size q s some t l x xs e

    turn : is_full_part (slice_index_or parts newest no_part) ≡ true → length parts ≤ newest + 1 → (xs : List RingPart) → s.full ≡ xs → (ys : List RingPart) → s.spare ≡ ys → Added parts newest size q
    turn t le [] e ys f = let n : length s.full ≡ 0 = ap length e in let a : length s.full ≡ newest = s.at in absurd (omega arith)
    turn t le (x ∷ xs) e [] f = with_none parts newest size q s some t le x xs e f
    turn t le (x ∷ xs) e (y ∷ ys) f =
        let n : length s.spare ≡ suc (length ys) = ap length f in
        let m : length parts ≡ newest + suc (length s.spare) = all in
        absurd (omega arith)

-- the newest partition is there once there is room
pub room_there : (parts : List RingPart) (newest size : ℕ) → Shape parts newest size → 1 ≤ size → 2 ≤ length parts → room_newest parts newest < length (room_parts parts newest)
room_there parts newest size s some two =
    let e : Added parts newest size no_point = added parts newest size no_point s some two in
    let l : room_newest parts newest < length (pushed (room_parts parts newest) (room_newest parts newest) no_point) =
    newest_there (pushed (room_parts parts newest) (room_newest parts newest) no_point) (room_newest parts newest) size e.shape in
    let n : length (pushed (room_parts parts newest) (room_newest parts newest) no_point) ≡ length (room_parts parts newest) = length-set (room_parts parts newest) (room_newest parts newest) (with_point (get_or (room_parts parts newest) (room_newest parts newest) no_part) no_point) in
    omega arith

-- a point is put into a partition in place
pub put_in_place : (parts : List RingPart) (n : ℕ) (q : Point) (part new : RingPart) → n < length parts → part ≡ get_or parts n part → new ≡ with_point part q → set parts n new ≡ pushed parts n q
put_in_place parts n q part new l e f = ap (λ p. set parts n p) (f ∙ ap (λ p. with_point p q) (e ∙ get_or_default parts n part no_part l))

-- the oldest partition is emptied in place
pub turned_in_place : (parts rotated : List RingPart) (newest : ℕ) (part new : RingPart) → length parts ≡ newest + 1 → rotated ≡ drop 1 parts ++ take 1 parts → part ≡ get_or rotated newest part → new ≡ record part { points = [] }
    → set rotated newest new ≡ next_parts parts newest
turned_in_place [] rotated newest part new l e f g = absurd (omega arith)
turned_in_place (p ∷ ps) rotated newest part new l e f g =
    let n : length ps ≡ newest = omega arith in
    let stays : nat_lt (newest + 1) (length (p ∷ ps)) ≡ false = le-ltb (newest + 1) (length (p ∷ ps)) (omega arith) in
    let is : rotated ≡ ps ++ p ∷ [] = e in
    let found : part ≡ p = f ∙ ap (λ xs. get_or xs newest part) is ∙ ap (λ i. get_or (ps ++ p ∷ []) i part) (sym n) ∙ get_or-append_seam ps p [] part in
    ap (λ xs. set xs newest new) is ∙ ap (λ i. set (ps ++ p ∷ []) i new) (sym n) ∙ set-append_seam ps p [] new ∙ ap (λ x. ps ++ x ∷ []) (g ∙ ap (λ (x : RingPart). record x { points = [] }) found)
    ∙ sym (cond-false (nat_lt (newest + 1) (length (p ∷ ps))) (p ∷ ps) (turned (p ∷ ps)) stays)
