-- The bytes of a page are read again as its cells.
use Rattle.std.proofs.Common.{◌≡◌, ℕ, zero, suc, ◌+◌, ◌*◌, ◌-◌, ◌≤◌, ◌<◌, ◌^◌, Bool, true, false, cond, ltb, List, [], ◌∷◌, ◌++◌, length, take, drop, replicate, sum_by, Option, Some, None, refl, sym, ap, ◌∙◌, append_assoc, arith}
use Rattle.std.specs.Int.{Width, w16, byte_len, to_be_bytes, from_be_bytes}
use Rattle.std.proofs.lemmas.Bool.{le-ltb}
use Rattle.std.proofs.lemmas.List.{take_at, drop_at, length-append, append-nil, length-replicate}
use Rattle.std.proofs.lemmas.List.Sums.{sum_by-cons}
use Rattle.std.proofs.lemmas.Nat.{from_be_bytes-to_be_bytes_2}
use Rattle.sk_page.specs.Cells.{cost, free}
use Rattle.sk_page.specs.Bytes.{◌>>=◌, in_use, spelled, page_bytes, word_at, bytes_at, slots_at, page_of}

abbrev Cells : Type 0
Cells = List (Option (List ℕ))

-- two bytes, as any list of length two
word_split : (text rest : List ℕ) (n : ℕ) → length text ≡ 2 → from_be_bytes w16 text ≡ n → word_at (text ++ rest) ≡ Some (n, rest)
word_split text rest n len is =
    let long : ltb (length (text ++ rest)) 2 ≡ false = le-ltb _ _ (omega (arith, length-append text rest)) in
    rw (long, take_at text rest 2 len, drop_at text rest 2 len, is) refl

pub word_again : (n : ℕ) (rest : List ℕ) → n < 2 ^ 16 → word_at (to_be_bytes w16 n ++ rest) ≡ Some (n, rest)
word_again n rest lt = word_split (to_be_bytes w16 n) rest n refl (from_be_bytes-to_be_bytes_2 n lt)

pub bytes_again : (c rest : List ℕ) (n : ℕ) → length c ≡ n → bytes_at n (c ++ rest) ≡ Some (c, rest)
bytes_again c rest n len =
    let long : ltb (length (c ++ rest)) n ≡ false = le-ltb _ _ (omega (arith, length-append c rest)) in
    rw (long, take_at c rest n len, drop_at c rest n len) refl

-- the slots up to the last cell
body : ℕ → Cells → Cells
body gap [] = []
body gap (None ∷ cs) = body (suc gap) cs
body gap (Some c ∷ cs) = replicate gap None ++ Some c ∷ body 0 cs

slots_again : (gap : ℕ) (cs : Cells) (rest : List ℕ) → gap + length cs < 2 ^ 16 → sum_by cost cs ≤ 4088 → slots_at (in_use cs) (spelled gap cs ++ rest) ≡ Some (body gap cs)
unfolding slots_at spelled body
slots_again gap [] rest few room = refl
slots_again gap (None ∷ cs) rest few room = slots_again (suc gap) cs rest (omega arith) (omega (arith, sum_by-cons cost None cs))
slots_again gap (Some c ∷ cs) rest few room =
    let total = sum_by-cons cost (Some c) cs in
    let others = spelled 0 cs ++ rest in
    let regrouped : spelled gap (Some c ∷ cs) ++ rest ≡ to_be_bytes w16 gap ++ (to_be_bytes w16 (length c) ++ (c ++ others)) = grouped (to_be_bytes w16 gap) (to_be_bytes w16 (length c)) c (spelled 0 cs) rest in
    let again = slots_again 0 cs rest (omega arith) (omega (arith, total)) in
    ap (slots_at (suc (in_use cs))) regrouped ∙ chained gap c cs others (body 0 cs) (omega arith) (omega (arith, total)) again
  where
    grouped : (a b c d e : List ℕ) → (a ++ (b ++ (c ++ d))) ++ e ≡ a ++ (b ++ (c ++ (d ++ e)))
    grouped a b c d e = simp append_assoc

    chained : (gap : ℕ) (c : List ℕ) (cs : Cells) (others : List ℕ) (read : Cells) → gap < 2 ^ 16 → length c < 2 ^ 16 → slots_at (in_use cs) others ≡ Some read
        → slots_at (suc (in_use cs)) (to_be_bytes w16 gap ++ (to_be_bytes w16 (length c) ++ (c ++ others))) ≡ Some (replicate gap None ++ Some c ∷ read)
    chained gap c cs others read p q e =
        ap (λ (r : Option (ℕ × List ℕ)). r >>= λ gap. word_at gap.1 >>= λ len. bytes_at len.0 len.1 >>= λ cell. slots_at (in_use cs) cell.1 >>= λ rest. Some (replicate gap.0 None ++ Some cell.0 ∷ rest)) (word_again gap (to_be_bytes w16 (length c) ++ (c ++ others)) p)
        ∙ ap (λ (r : Option (ℕ × List ℕ)). r >>= λ len. bytes_at len.0 len.1 >>= λ cell. slots_at (in_use cs) cell.1 >>= λ rest. Some (replicate gap None ++ Some cell.0 ∷ rest)) (word_again (length c) (c ++ others) q)
        ∙ ap (λ (r : Option (List ℕ × List ℕ)). r >>= λ cell. slots_at (in_use cs) cell.1 >>= λ rest. Some (replicate gap None ++ Some cell.0 ∷ rest)) (bytes_again c others (length c) refl)
        ∙ ap (λ (r : Option Cells). r >>= λ rest. Some (replicate gap None ++ Some c ∷ rest)) e

none_left : (gap : ℕ) → replicate (gap + 0 - 0) None ≡ ◌++◌ {A = Option (List ℕ)} (replicate gap None) []
none_left gap = ap (λ (n : ℕ). replicate {A = Option (List ℕ)} n None) (omega arith) ∙ sym (append-nil {A = Option (List ℕ)} (replicate gap None))

-- with as many empty slots behind it, the body is the slots
filled : (gap : ℕ) (cs : Cells) → (length (body gap cs) ≤ gap + length cs) × (body gap cs ++ replicate (gap + length cs - length (body gap cs)) None ≡ replicate gap None ++ cs)
unfolding body
filled gap [] = (omega arith, none_left gap)
filled gap (None ∷ cs) =
    let t = filled (suc gap) cs in
    let sum : suc gap + length cs ≡ gap + suc (length cs) = omega arith in
    (omega (arith, t.0), ap (λ (n : ℕ). body (suc gap) cs ++ replicate (n - length (body (suc gap) cs)) None) (sym sum) ∙ t.1 ∙ one_more gap cs)
  where
    one_more : (gap : ℕ) (cs : Cells) → replicate (suc gap) None ++ cs ≡ replicate gap None ++ None ∷ cs
    one_more zero cs = refl
    one_more (suc gap) cs = ap (λ (ds : Cells). None ∷ ds) (one_more gap cs)
filled gap (Some c ∷ cs) =
    let t = filled 0 cs in
    let whole = body 0 cs in
    let len : length (replicate gap None ++ Some c ∷ whole) ≡ gap + suc (length whole) = length-append (replicate gap None) (Some c ∷ whole) ∙ ap (λ (n : ℕ). n + suc (length whole)) (length-replicate gap None) in
    let left : gap + suc (length cs) - length (replicate gap None ++ Some c ∷ whole) ≡ length cs - length whole = omega (arith, len) in
    let tail : whole ++ replicate (length cs - length whole) None ≡ cs = ap (λ (n : ℕ). whole ++ replicate (n - length whole) None) (omega arith) ∙ t.1 in
    (omega (arith, len, t.0), rw left (append_assoc (replicate gap None) (Some c ∷ whole) (replicate (length cs - length whole) None)) ∙ ap (λ (ds : Cells). replicate gap None ++ Some c ∷ ds) tail)

in_use_few : (cs : Cells) → 4 * in_use cs ≤ sum_by cost cs
in_use_few [] = omega arith
in_use_few (None ∷ cs) = omega (arith, sum_by-cons cost None cs, in_use_few cs)
in_use_few (Some c ∷ cs) = omega (arith, sum_by-cons cost (Some c) cs, in_use_few cs)

-- a page that was written is read as it was
pub page_again : (cs : Cells) → length cs < 2 ^ 16 → sum_by cost cs ≤ 4088 → page_of (page_bytes cs) ≡ Some cs
unfolding page_of page_bytes
page_again cs few room =
    let tail = spelled 0 cs ++ replicate (free cs) 0 in
    let zeros : List ℕ = 0 ∷ 0 ∷ 0 ∷ 0 ∷ [] in
    let t = filled 0 cs in
    let fits : ltb (length cs) (length (body 0 cs)) ≡ false = le-ltb _ _ (omega (arith, t.0)) in
    let whole : body 0 cs ++ replicate (length cs - length (body 0 cs)) None ≡ cs = ap (λ (n : ℕ). body 0 cs ++ replicate (n - length (body 0 cs)) None) (omega arith) ∙ t.1 in
    let used : in_use cs < 2 ^ 16 = omega (arith, in_use_few cs) in
    ap (λ (r : Option (ℕ × List ℕ)). r >>= λ slots. word_at slots.1 >>= λ count. bytes_at 4 count.1 >>= λ head. slots_at count.0 head.1 >>= λ ds. cond (ltb slots.0 (length ds)) None (Some (ds ++ replicate (slots.0 - length ds) None))) (word_again (length cs) (to_be_bytes w16 (in_use cs) ++ (zeros ++ tail)) few)
    ∙ ap (λ (r : Option (ℕ × List ℕ)). r >>= λ count. bytes_at 4 count.1 >>= λ head. slots_at count.0 head.1 >>= λ ds. cond (ltb (length cs) (length ds)) None (Some (ds ++ replicate (length cs - length ds) None))) (word_again (in_use cs) (zeros ++ tail) used)
    ∙ ap (λ (r : Option (List ℕ × List ℕ)). r >>= λ head. slots_at (in_use cs) head.1 >>= λ ds. cond (ltb (length cs) (length ds)) None (Some (ds ++ replicate (length cs - length ds) None))) (bytes_again zeros tail 4 refl)
    ∙ ap (λ (r : Option Cells). r >>= λ ds. cond (ltb (length cs) (length ds)) None (Some (ds ++ replicate (length cs - length ds) None))) (slots_again 0 cs (replicate (free cs) 0) (omega (arith, few)) room)
    ∙ rw fits (ap (λ (ds : Cells). Some ds) whole)

-- cells are spelled in the bytes that they cost
spelled_len : (gap : ℕ) (cs : Cells) → length (spelled gap cs) ≡ sum_by cost cs
unfolding spelled
spelled_len gap [] = refl
spelled_len gap (None ∷ cs) = omega (arith, spelled_len (suc gap) cs, sum_by-cons cost None cs)
spelled_len gap (Some c ∷ cs) =
    let others : List ℕ = c ++ spelled 0 cs in
    let two : length (to_be_bytes w16 gap ++ (to_be_bytes w16 (length c) ++ others)) ≡ 4 + length others = omega (arith, length-append (to_be_bytes w16 gap) (to_be_bytes w16 (length c) ++ others), length-append (to_be_bytes w16 (length c)) others, byte_count gap, byte_count (length c)) in
    let rest : length others ≡ length c + sum_by cost cs = length-append c (spelled 0 cs) ∙ ap (λ (n : ℕ). length c + n) (spelled_len 0 cs) in
    omega (arith, two, rest, sum_by-cons cost (Some c) cs)
  where
    byte_count : (n : ℕ) → length (to_be_bytes w16 n) ≡ 2
    byte_count n = refl

-- a page is spelled in 4,096 bytes
pub page_size : (cs : Cells) → sum_by cost cs ≤ 4088 → length (page_bytes cs) ≡ 4096
unfolding page_bytes free
page_size cs room =
    let zeros : List ℕ = 0 ∷ 0 ∷ 0 ∷ 0 ∷ [] in
    let tail : List ℕ = spelled 0 cs ++ replicate (4088 - sum_by cost cs) 0 in
    let len : length tail ≡ 4088 = omega (arith, length-append (spelled 0 cs) (replicate (4088 - sum_by cost cs) 0), spelled_len 0 cs, length-replicate {A = ℕ} (4088 - sum_by cost cs) 0) in
    head_len (to_be_bytes w16 (length cs)) (to_be_bytes w16 (in_use cs)) tail refl refl len
  where
    head_len : (a b tail : List ℕ) → length a ≡ 2 → length b ≡ 2 → length tail ≡ 4088 → length (a ++ (b ++ ((0 ∷ 0 ∷ 0 ∷ 0 ∷ []) ++ tail))) ≡ 4096
    head_len a b tail e f g = omega (arith, e, f, g, length-append a (b ++ (0 ∷ 0 ∷ 0 ∷ 0 ∷ tail)), length-append b (0 ∷ 0 ∷ 0 ∷ 0 ∷ tail))
