-- What the word at a place tells of the points.
use Rattle.std.proofs.Common.{◌≡◌, ◌≢◌, ℕ, zero, suc, ◌+◌, ◌-◌, ◌*◌, ◌/◌, ◌%◌, ◌<◌, ◌≤◌, List, [], ◌∷◌, ◌++◌, length, length-append, get_or, sym, ap, ◌∙◌, arith, le_refl, le_of_eq, lt_of_not-le}
use Rattle.std.proofs.lemmas.List.{append-nil}
use Rattle.std.proofs.lemmas.Nat.{mod_below}
use native.Mathlib.Nat.{add-mod_right, mod-eq_of_lt, mul-add-mod_self_left, div-add-mod}
use native.Mathlib.Decide.{dec_le}
use Rattle.std.proofs.lemmas.Bool.{cond_both}
use Rattle.std.specs.Prelude.{Bool}
use Rattle.sk_model.specs.declared.point.Point.{Point}
use Rattle.sk_weave.specs.Points.{kind_of, word_of}
use Rattle.sk_weave.specs.Registry.{no_point, Grows}
use Rattle.sk_clock.specs.declared.view.Start.{Start}
use Rattle.sk_clock.specs.History.{Cells, capacity}
use Rattle.sk_clock.specs.Walks.{nth}
use Rattle.sk_clock.proofs.Ring.{word_big, Shaped, Ringed, two_parts, some_cap, grown, longer}

module _ (s : Start) (shaped : Shaped s) where
  -- A walker read the place of the point k + 1 as w, which is greater than the word of the point k, and later found low at most that point's partition: w is the point k + 1, and was there when it was read.
  pub trusted : (r t : Cells) (k w : ℕ) → Ringed s r → Ringed s t → Grows r.regs t.regs → t.regs.low * s.size ≤ k + 1 → k < length r.regs.points → w ≡ get_or r.row ((k + 1) % capacity s) 0 → word_of (nth r.regs k) < w
      → (k + 1 < length r.regs.points) × (w ≡ word_of (nth r.regs (k + 1)))
  trusted r t k w a b g live there is more = go (dec_le (length r.regs.points) (k + 1))
    where
      go : Dec (length r.regs.points ≤ k + 1) → (k + 1 < length r.regs.points) × (w ≡ word_of (nth r.regs (k + 1)))
      go (no l) = let l' = lt_of_not-le l in let up = longer r.regs t.regs g in let f = b.fits in (l', is ∙ a.newest_there (k + 1) l' (omega arith))
      go (yes l) = absurd (old (dec_le (capacity s) (k + 1)))
        where
          old : Dec (capacity s ≤ k + 1) → ⊥
          old (no y) = let y' = lt_of_not-le y in let z = a.blank (k + 1) l y' in let m : (k + 1) % capacity s ≡ k + 1 = mod-eq_of_lt y' in let e = ap (λ (j : ℕ). get_or r.row j 0) m in omega arith
          old (yes y) =
              let j : ℕ = k + 1 - capacity s in
              let join : k + 1 ≡ j + capacity s = omega arith in
              let back : (k + 1) % capacity s ≡ j % capacity s = ap (λ (i : ℕ). i % capacity s) join ∙ add-mod_right j (capacity s) in
              let two = two_parts s shaped in let some = shaped.size.0 in
              let e = a.newest_there j (omega arith) (omega arith) in
              let f = ap (λ (i : ℕ). get_or r.row i 0) back in
              let up = a.rising j k (omega arith) there in omega arith

  -- the newest point of a place that has a point from n on
  latest : (n len : ℕ) → n < len → 0 < capacity s → (k : ℕ) × (n ≤ k) × (k < len) × (len ≤ k + capacity s) × (k % capacity s ≡ n % capacity s)
  latest n len l some =
      let d : ℕ = len - 1 - n in
      let q : ℕ = d / capacity s in
      let parts : capacity s * q + d % capacity s ≡ d = div-add-mod d (capacity s) in
      let small = mod_below d (capacity s) some in
      let turn : ℕ = capacity s * q in (
        turn + n,
        omega arith,
        omega arith,
        omega arith,
        mul-add-mod_self_left (capacity s) q n,
      )

  -- where the next place still has the word that was read there when its points were all, no point came
  pub untouched : (r t : Cells) → Ringed s r → Ringed s t → Grows r.regs t.regs → get_or t.row (length r.regs.points % capacity s) 0 ≡ get_or r.row (length r.regs.points % capacity s) 0 → t.regs.points ≡ r.regs.points
  untouched r t a b g same = no_more (dec_le (length t.regs.points) (length r.regs.points))
    where
      n : ℕ
      n = length r.regs.points

      no_more : Dec (length t.regs.points ≤ n) → t.regs.points ≡ r.regs.points
      no_more (yes l) = equal g.more g.points l
        where
          equal : (rest : List Point) → t.regs.points ≡ r.regs.points ++ rest → length t.regs.points ≤ length r.regs.points → t.regs.points ≡ r.regs.points
          equal [] e l = e ∙ append-nil r.regs.points
          equal (z ∷ zs) e l = absurd (let m : length t.regs.points ≡ length (r.regs.points ++ z ∷ zs) = ap length e in let k = length-append r.regs.points (z ∷ zs) in omega arith)
      no_more (no l) = absurd (came (latest n (length t.regs.points) (lt_of_not-le l) (some_cap s shaped)))
        where
          came : ((k : ℕ) × (n ≤ k) × (k < length t.regs.points) × (length t.regs.points ≤ k + capacity s) × (k % capacity s ≡ n % capacity s)) → ⊥
          came k =
              let there : get_or t.row (n % capacity s) 0 ≡ word_of (nth t.regs k.0) = ap (λ (i : ℕ). get_or t.row i 0) (sym k.4) ∙ b.newest_there k.0 k.2 k.3 in
              old (dec_le (capacity s) n) k.0 k.1 k.2 there
            where
              old : Dec (capacity s ≤ n) → (k : ℕ) → n ≤ k → k < length t.regs.points → get_or t.row (n % capacity s) 0 ≡ word_of (nth t.regs k) → ⊥
              old (no y) k u v there = let y' = lt_of_not-le y in let z = a.blank n (le_refl n) y' in let m : n % capacity s ≡ n = mod-eq_of_lt y' in let e = ap (λ (j : ℕ). get_or r.row j 0) m in let w = word_big (nth t.regs k) in omega arith
              old (yes y) k u v there =
                  let j : ℕ = n - capacity s in
                  let some = some_cap s shaped in
                  let join : n ≡ j + capacity s = omega arith in
                  let back : n % capacity s ≡ j % capacity s = ap (λ (i : ℕ). i % capacity s) join ∙ add-mod_right j (capacity s) in
                  let e = a.newest_there j (omega arith) (omega arith) in
                  let f = ap (λ (i : ℕ). get_or r.row i 0) back in
                  let h = ap word_of (grown r.regs t.regs g j (omega arith)) in
                  let up = b.rising j k (omega arith) v in omega arith

  -- the row at the next place, where no point came since
  pub same_row : (r t : Cells) → Ringed s r → Ringed s t → t.regs.points ≡ r.regs.points → get_or t.row (length r.regs.points % capacity s) 0 ≡ get_or r.row (length r.regs.points % capacity s) 0
  same_row r t a b same = go (dec_le (capacity s) n)
    where
      n : ℕ
      n = length r.regs.points

      len : length t.regs.points ≡ n
      len = ap (λ (ps : List Point). length ps) same

      go : Dec (capacity s ≤ n) → get_or t.row (n % capacity s) 0 ≡ get_or r.row (n % capacity s) 0
      go (no y) = let y' = lt_of_not-le y in let m : n % capacity s ≡ n = mod-eq_of_lt y' in
          ap (λ (j : ℕ). get_or t.row j 0) m ∙ (b.blank n (le_of_eq len) y' ∙ sym (ap (λ (j : ℕ). get_or r.row j 0) m ∙ a.blank n (le_refl n) y'))
      go (yes y) =
          let j : ℕ = n - capacity s in
          let some = some_cap s shaped in
          let many : length t.regs.points ≡ length r.regs.points = len in
          let join : n ≡ j + capacity s = omega arith in
          let back : n % capacity s ≡ j % capacity s = ap (λ (i : ℕ). i % capacity s) join ∙ add-mod_right j (capacity s) in
          ap (λ (i : ℕ). get_or t.row i 0) back ∙ (b.newest_there j (omega arith) (omega arith) ∙ (ap (λ (ps : List Point). word_of (get_or ps j no_point)) same ∙ sym (ap (λ (i : ℕ). get_or r.row i 0) back ∙ a.newest_there j (omega arith) (omega arith))))

  -- where the word at the next place has changed, a point came
  pub came : (r t : Cells) → Ringed s r → Ringed s t → Grows r.regs t.regs → get_or t.row (length r.regs.points % capacity s) 0 ≢ get_or r.row (length r.regs.points % capacity s) 0 → length r.regs.points < length t.regs.points
  came r t a b g ne = go (dec_le (length t.regs.points) (length r.regs.points))
    where
      equal : (rest : List Point) → t.regs.points ≡ r.regs.points ++ rest → length t.regs.points ≤ length r.regs.points → t.regs.points ≡ r.regs.points
      equal [] e l = e ∙ append-nil r.regs.points
      equal (z ∷ zs) e l = absurd (let m : length t.regs.points ≡ length (r.regs.points ++ z ∷ zs) = ap length e in let k = length-append r.regs.points (z ∷ zs) in omega arith)

      go : Dec (length t.regs.points ≤ length r.regs.points) → length r.regs.points < length t.regs.points
      go (no l) = lt_of_not-le l
      go (yes l) = absurd (ne (same_row r t a b (equal g.more g.points l)))

kind_small : (b : Bool) → kind_of b ≤ 1
kind_small b = cond_both b 1 0 (λ x. x ≤ 1) (λ e. omega arith) (λ e. omega arith)

module _ (s : Start) (r : Cells) (a : Ringed s r) where
  climbs : (k : ℕ) → k < length r.regs.points → 9223372036854775808 + k ≤ word_of (nth r.regs k)
  climbs zero l = let w = word_big (nth r.regs 0) in omega arith
  climbs (suc k) l = let w = climbs k (omega arith) in let up = a.rising k (suc k) (omega arith) l in omega arith

  -- there are fewer points than words
  pub few : (k : ℕ) → k < length r.regs.points → k < 9223372036854775808
  few k l = let w = climbs k l in let small = a.small k l in let x = small.a in let y = small.b in let kind = kind_small (nth r.regs k).commit in omega arith

  -- the next place was read as no more than the word of the point k, and k + 1 is not yet recycled: k was the last point then
  pub was_last : (t : Cells) (k w next : ℕ) → Ringed s t → Grows r.regs t.regs → t.regs.low * s.size ≤ k + 1 → k < length r.regs.points → w ≡ word_of (nth r.regs k) → next ≡ get_or r.row ((k + 1) % capacity s) 0 → next ≤ w → length r.regs.points ≡ k + 1
  was_last t k w next b g live there is read less = go (dec_le (length r.regs.points) (k + 1))
    where
      go : Dec (length r.regs.points ≤ k + 1) → length r.regs.points ≡ k + 1
      go (yes l) = omega arith
      go (no l) = let l' = lt_of_not-le l in let up = longer r.regs t.regs g in let f = b.fits in
          let e = a.newest_there (k + 1) l' (omega arith) in let m = a.rising k (k + 1) (omega arith) l' in absurd (omega arith)

  -- the oldest live point, where low has not changed since
  pub oldest_is : (t : Cells) (low w : ℕ) → t.regs.low ≡ low → Grows r.regs t.regs → low ≤ r.regs.low → w ≡ get_or r.row ((low * s.size) % capacity s) 0 → (low * s.size < length r.regs.points) × (w ≡ word_of (nth r.regs (low * s.size)))
  oldest_is t low w is g from read =
      let up = g.low in
      let same : r.regs.low ≡ low = omega arith in
      let e : r.regs.low * s.size ≡ low * s.size = ap (λ (n : ℕ). n * s.size) same in
      let l = a.above in let f = a.fits in
      (omega arith, read ∙ a.newest_there (low * s.size) (omega arith) (omega arith))
