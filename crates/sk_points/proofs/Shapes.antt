-- Partitions and their points.
use Rattle.std.specs.Prelude.{◌≡◌, ℕ, zero, suc, List, [], ◌∷◌, ◌++◌, ◌+◌, ◌-◌, ◌*◌, ◌/◌, ◌%◌, ◌<◌, ◌≤◌, length, get_or}
use Rattle.std.proofs.Common.{refl, sym, ap, subst, ◌∙◌, ⊎_elim, arith}
use Rattle.std.specs.List.{AllByRecursion}
use Rattle.std.proofs.Math.Nat.{mul-le-mul_left, mul_comm, add-mul, mod-lt}
use Rattle.std.proofs.Math.Seq.{get_or-append_seam}
use Rattle.std.proofs.lemmas.Bool.{cases_lt}
use Rattle.std.proofs.lemmas.Nat.{div-add-mod'}
use Rattle.std.proofs.lemmas.List.{append-nil, append_assoc, length-append, get_or_append_left, get_or-append-add}
use Rattle.std.proofs.lemmas.List.Concat.{flat_map-append}
use Rattle.sk_model.specs.declared.point.Point.{Point}
use Rattle.sk_weave.specs.Registry.{last_of}
use Rattle.sk_weave.specs.Points.{last_from}
use Rattle.sk_points.specs.Parts.{RingPart, points_in, IsFilled, IsSpare, Shape}

pub times_less : (i j n : ℕ) → i < j → i * n + n ≤ j * n
times_less i j n l =
    let h : n * (i + 1) ≤ n * j = mul-le-mul_left n (omega arith) in
    let a : (i + 1) * n ≡ i * n + 1 * n = add-mul i 1 n in
    let b : (i + 1) * n ≡ n * (i + 1) = mul_comm (i + 1) n in
    let c : j * n ≡ n * j = mul_comm j n in
    omega arith

pub no_points : (size : ℕ) (parts : List RingPart) → AllByRecursion (IsSpare size) parts → points_in parts ≡ []
no_points size [] h = refl
no_points size (p ∷ ps) h = rw h.0.1 (no_points size ps h.1)

-- all points are those of the full partitions and those of the newest
pub split : (parts : List RingPart) (newest size : ℕ) → (s : Shape parts newest size) → points_in parts ≡ points_in s.full ++ s.here.points
split parts newest size s =
    ap points_in s.is ∙ flat_map-append (λ (p : RingPart). p.points) s.full (s.here ∷ s.spare)
    ∙ ap (λ xs. points_in s.full ++ (s.here.points ++ xs)) (no_points size s.spare s.empty) ∙ ap (λ xs. points_in s.full ++ xs) (append-nil s.here.points)

pub length_full : (size : ℕ) (full : List RingPart) → AllByRecursion (IsFilled size) full → length (points_in full) ≡ length full * size
length_full size [] h = omega arith
length_full size (p ∷ ps) h =
    let ih : length (points_in ps) ≡ length ps * size = length_full size ps h.1 in
    let len : length (p.points ++ points_in ps) ≡ length p.points + length (points_in ps) = length-append p.points (points_in ps) in
    let here : length p.points ≡ size = h.0.1 in
    let more : (length ps + 1) * size ≡ length ps * size + 1 * size = add-mul (length ps) 1 size in
    let suc_is : suc (length ps) ≡ length ps + 1 = omega arith in
    rw suc_is (omega arith)

-- the newest partition
pub newest_is : (parts : List RingPart) (newest size : ℕ) (d : RingPart) → (s : Shape parts newest size) → get_or parts newest d ≡ s.here
newest_is parts newest size d s = rw (s.is, ← s.at) (get_or-append_seam s.full s.here s.spare d)

pub newest_there : (parts : List RingPart) (newest size : ℕ) → Shape parts newest size → newest < length parts
newest_there parts newest size s =
    let len : length (s.full ++ s.here ∷ s.spare) ≡ length s.full + suc (length s.spare) = length-append s.full (s.here ∷ s.spare) in
    let all : length parts ≡ length (s.full ++ s.here ∷ s.spare) = ap length s.is in
    let at : length s.full ≡ newest = s.at in
    omega arith

-- how many points there are
pub count : (parts : List RingPart) (newest size : ℕ) (s : Shape parts newest size) → length (points_in parts) ≡ newest * size + length s.here.points
count parts newest size s =
    let len : length (points_in s.full ++ s.here.points) ≡ length (points_in s.full) + length s.here.points = length-append (points_in s.full) s.here.points in
    let full : length (points_in s.full) ≡ length s.full * size = length_full size s.full s.filled in
    let same : length s.full * size ≡ newest * size = ap (λ n. n * size) s.at in
    ap length (split parts newest size s) ∙ (omega arith)

in_full : (size : ℕ) (full : List RingPart) (rest : List Point) → AllByRecursion (IsFilled size) full → (i j : ℕ) (d : Point) (e : RingPart) → i < length full → j < size
    → get_or (points_in full ++ rest) (i * size + j) d ≡ get_or (get_or full i e).points j d
in_full size [] rest h i j d e l m = absurd (omega arith)
in_full size (p ∷ ps) rest h zero j d e l m =
    let here : length p.points ≡ size = h.0.1 in
    let z : zero * size + j ≡ j = omega arith in
    rw z (ap (λ xs. get_or xs j d) (append_assoc p.points (points_in ps) rest) ∙ get_or_append_left p.points (points_in ps ++ rest) d j (omega arith))
in_full size (p ∷ ps) rest h (suc i) j d e l m =
    let here : length p.points ≡ size = h.0.1 in
    let suc_is : suc i ≡ i + 1 = omega arith in
    let more : (i + 1) * size ≡ i * size + 1 * size = add-mul i 1 size in
    let at : suc i * size + j ≡ length p.points + (i * size + j) = rw suc_is (omega arith) in
    rw at (ap (λ xs. get_or xs (length p.points + (i * size + j)) d) (append_assoc p.points (points_in ps) rest)
    ∙ get_or-append-add p.points (points_in ps ++ rest) (i * size + j) d ∙ in_full size ps rest h.1 i j d e (omega arith) m)

-- a point by its partition and its place there
pub record At (parts : List RingPart) (size at : ℕ) : Type 0 where
  pub part_there : at / size < length parts
  pub there : (e : RingPart) → at % size < length (get_or parts (at / size) e).points
  pub is : (d : Point) (e : RingPart) → get_or (points_in parts) at d ≡ get_or (get_or parts (at / size) e).points (at % size) d

pub point_at : (parts : List RingPart) (newest size at : ℕ) → 1 ≤ size → Shape parts newest size → at < length (points_in parts) → At parts size at
point_at parts newest size at some s l =
    let all : length (points_in parts) ≡ newest * size + length s.here.points = count parts newest size s in
    let fits : length s.here.points ≤ size = s.fits in
    let back : i * size + j ≡ at = div-add-mod' at size in
    let rest : j < size = mod-lt at some in
    let there : newest < length parts = newest_there parts newest size s in
    ⊎_elim
    (λ (lt : i < newest).
    let full : i < length s.full = omega (arith, s.at) in
    let part : (e : RingPart) → get_or parts i e ≡ get_or s.full i e = λ e. ap (λ xs. get_or xs i e) s.is ∙ get_or_append_left s.full (s.here ∷ s.spare) e i full in
    record {
      part_there = omega arith;
      there = λ e. let f : length (get_or s.full i e).points ≡ size = (each_at size s.full s.filled i e full).1 in rw (part e, f) rest;
      is = λ d e. ap (λ xs. get_or xs at d) (split parts newest size s) ∙ ap (λ n. get_or (points_in s.full ++ s.here.points) n d) (sym back)
          ∙ in_full size s.full s.here.points s.filled i j d e full rest ∙ ap (λ (p : RingPart). get_or p.points j d) (sym (part e));
    })
    (λ (ge : newest ≤ i).
    let same : i ≡ newest = ⊎_elim
    (λ (gt : newest < i). let m : newest * size + size ≤ i * size = times_less newest i size gt in absurd (omega arith))
    (λ (le : i ≤ newest). omega arith)
    (cases_lt newest i) in
    let here : (e : RingPart) → get_or parts i e ≡ s.here = λ e. ap (λ n. get_or parts n e) same ∙ newest_is parts newest size e s in
    let times : i * size ≡ newest * size = ap (λ n. n * size) same in
    let few : j < length s.here.points = omega arith in
    let full : length (points_in s.full) ≡ i * size = length_full size s.full s.filled ∙ ap (λ n. n * size) (s.at ∙ sym same) in
    record {
      part_there = omega arith;
      there = λ e. rw (here e) few;
      is = λ d e. ap (λ xs. get_or xs at d) (split parts newest size s) ∙ ap (λ n. get_or (points_in s.full ++ s.here.points) n d) (sym back ∙ ap (λ n. n + j) (sym full))
          ∙ get_or-append-add (points_in s.full) s.here.points j d ∙ ap (λ (p : RingPart). get_or p.points j d) (sym (here e));
    })
    (cases_lt i newest)
  where
    i : ℕ
    i = at / size

    j : ℕ
    j = at % size

    each_at : (size : ℕ) (full : List RingPart) → AllByRecursion (IsFilled size) full → (i : ℕ) (e : RingPart) → i < length full → IsFilled size (get_or full i e)
    each_at size [] h i e l = absurd (omega arith)
    each_at size (p ∷ ps) h zero e l = h.0
    each_at size (p ∷ ps) h (suc i) e l = each_at size ps h.1 i e (omega arith)

-- the last point is that of the newest partition
last_behind : (xs ys : List Point) → 1 ≤ length ys → last_of (xs ++ ys) ≡ last_of ys
last_behind [] ys l = refl
last_behind (x ∷ xs) [] l = absurd (omega arith)
last_behind (x ∷ xs) (y ∷ ys) l = from x xs
  where
    from : (x : Point) (xs : List Point) → last_from x (xs ++ y ∷ ys) ≡ last_from y ys
    from x [] = refl
    from x (z ∷ zs) = from z zs

last_get : (ys : List Point) (d : Point) → 1 ≤ length ys → get_or ys (length ys - 1) d ≡ last_of ys
last_get [] d l = absurd (omega arith)
last_get (y ∷ ys) d l = from y ys
  where
    from : (y : Point) (ys : List Point) → get_or (y ∷ ys) (suc (length ys) - 1) d ≡ last_from y ys
    from y [] = refl
    from y (z ∷ zs) =
        let a : suc (suc (length zs)) - 1 ≡ suc (length zs) = omega arith in
        let b : suc (length zs) - 1 ≡ length zs = omega arith in
        rw a (subst (λ n. get_or (z ∷ zs) n d ≡ last_from z zs) b (from z zs))

pub last_point : (parts : List RingPart) (newest size : ℕ) (d : Point) (s : Shape parts newest size) → get_or s.here.points (length s.here.points - 1) d ≡ last_of (points_in parts)
last_point parts newest size d s = last_get s.here.points d s.some ∙ sym (last_behind (points_in s.full) s.here.points s.some) ∙ ap last_of (sym (split parts newest size s))
