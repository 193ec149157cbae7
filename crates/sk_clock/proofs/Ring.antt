-- The ring of words after a history: what each place holds.
use Rattle.std.proofs.Common.{◌≡◌, ℕ, zero, suc, ◌+◌, ◌-◌, ◌*◌, ◌%◌, ◌<◌, ◌≤◌, List, [], ◌∷◌, ◌++◌, length, length-append, length-set, replicate, get_or, get_or-set_same, get_or-set_other, refl, sym, ap, ◌∙◌, subst, arith, append_assoc, le_refl, le_trans}
use Rattle.std.proofs.lemmas.List.{append-nil}
use Rattle.std.proofs.lemmas.Nat.{mod_below}
use native.Mathlib.Nat.{mod-eq_of_lt}
use lib.ListN.{length-replicate}
use mathlib.Core.Logic.{dite}
use native.Mathlib.Decide.{ℕ_discrete}
use Rattle.atomic_table.proofs.Lists.{one_turn}
use Rattle.sk_model.specs.declared.point.Point.{Point}
use Rattle.sk_weave.specs.declared.event.Event.{Event}
use Rattle.sk_weave.specs.declared.event.Event.TheVariants.{DrawMem, DrawStore, Append, Raise}
use Rattle.sk_weave.specs.Points.{CanFollow, IsSmall, word_of}
use Rattle.sk_weave.specs.Laws.{CanComeLast}
use Rattle.sk_weave.specs.Registry.{Regs, no_point, last_of, after, CanAppend, IsNext, Grows, IsSound}
use Rattle.sk_weave.specs.RegistryLaws.{CanStart}
use Rattle.sk_weave.proofs.Staircase.{words_rise}
use Rattle.sk_weave.proofs.Registers.{whole, at_least_two, start_sound, steps_sound}
use Rattle.std.proofs.lemmas.Bool.{eqb-true}
use Rattle.sk_clock.specs.declared.view.WordStep.{WordStep}
use Rattle.sk_clock.specs.declared.view.WordStep.TheVariants.{Load, Change}
use Rattle.sk_clock.specs.declared.view.Entry.{Entry}
use Rattle.sk_clock.specs.declared.view.Start.{Start}
use Rattle.sk_clock.specs.Paths.{Path, Begins}
use Rattle.sk_clock.specs.History.{Cells, capacity, first_cells, changed, after_entry, IsRight, cells_after, IsHistory}
use Rattle.sk_clock.specs.Walks.{nth}
use Rattle.sk_clock.proofs.Histories.{cells_after-append, history-right}

pub word_big : (p : Point) → 9223372036854775808 ≤ word_of p
word_big p = omega arith

get-left : {A : Type 0} (xs ys : List A) (k : ℕ) (d : A) → k < length xs → get_or (xs ++ ys) k d ≡ get_or xs k d
get-left [] ys k d h = absurd (omega arith)
get-left (x ∷ xs) ys zero d h = refl
get-left (x ∷ xs) ys (suc k) d h = get-left xs ys k d (omega arith)

get-last : {A : Type 0} (xs : List A) (x d : A) (k : ℕ) → k ≡ length xs → get_or (xs ++ x ∷ []) k d ≡ x
get-last [] x d zero e = refl
get-last [] x d (suc k) e = absurd (omega arith)
get-last (y ∷ ys) x d zero e = absurd (omega arith)
get-last (y ∷ ys) x d (suc k) e = get-last ys x d k (omega arith)

pub last_at : (ps : List Point) (k : ℕ) → length ps ≡ k + 1 → get_or ps k no_point ≡ last_of ps
last_at [] k e = absurd (omega arith)
last_at (q ∷ []) zero e = refl
last_at (q ∷ []) (suc k) e = absurd (omega arith)
last_at (q ∷ r ∷ rs) zero e = absurd (omega arith)
last_at (q ∷ r ∷ rs) (suc k) e = last_at (r ∷ rs) k (omega arith)

pub follows_last : (ps : List Point) (p : Point) → 0 < length ps → CanComeLast ps p → CanFollow (last_of ps) p
follows_last [] p l c = absurd (omega arith)
follows_last (q ∷ qs) p l c = c

abbrev pub Shaped : Start → Type 0
Shaped s = CanStart s.partitions s.size s.point

-- Each place has the newest of its points, or 0. The words rise with the points, and each point's numbers were drawn.
pub record Ringed (s : Start) (r : Cells) : Type 0 where
  pub sound : IsSound r.regs
  pub parts_is : r.regs.partitions ≡ s.partitions
  pub size_is : r.regs.size ≡ s.size
  pub len : length r.row ≡ capacity s
  pub above : r.regs.low * s.size < length r.regs.points
  pub fits : length r.regs.points ≤ r.regs.low * s.size + capacity s
  pub newest_there : (k : ℕ) → k < length r.regs.points → length r.regs.points ≤ k + capacity s → get_or r.row (k % capacity s) 0 ≡ word_of (nth r.regs k)
  pub blank : (k : ℕ) → length r.regs.points ≤ k → k < capacity s → get_or r.row k 0 ≡ 0
  pub rising : (j k : ℕ) → j < k → k < length r.regs.points → word_of (nth r.regs j) < word_of (nth r.regs k)
  pub small : (k : ℕ) → k < length r.regs.points → IsSmall (nth r.regs k)
  pub within : (k : ℕ) → k < length r.regs.points → ((nth r.regs k).a ≤ r.regs.mem) × ((nth r.regs k).b ≤ r.regs.store)

pub spread : (n m k : ℕ) → (n + m) * k ≡ n * k + m * k
spread n m k = whole n m k

pub two_parts : (s : Start) → Shaped s → s.size + s.size ≤ capacity s
two_parts s shaped = at_least_two s.partitions s.size shaped.partitions.0

pub some_cap : (s : Start) → Shaped s → 0 < capacity s
some_cap s shaped = let two = two_parts s shaped in let some = shaped.size.0 in omega arith

-- the end of the live places
pub end_is : (s : Start) (r : Cells) → Ringed s r → (r.regs.low + r.regs.partitions) * r.regs.size ≡ r.regs.low * s.size + capacity s
end_is s r h = (λ i. (r.regs.low + h.parts_is i) * h.size_is i) ∙ spread r.regs.low s.partitions s.size

module _ (s : Start) (shaped : Shaped s) where
  up_to_last : (r : Cells) (p : Point) → Ringed s r → CanAppend r.regs p → (j : ℕ) → j < length r.regs.points → word_of (nth r.regs j) < word_of p
  up_to_last r p h c j l =
      let n : ℕ = length r.regs.points - 1 in
      let last : nth r.regs n ≡ last_of r.regs.points = last_at r.regs.points n (omega arith) in
      let sm = h.sound.mem in
      let ss = h.sound.store in
      let ca = c.a in
      let cb = c.b in
      let f : word_of (last_of r.regs.points) < word_of p = words_rise (last_of r.regs.points) p (subst IsSmall last (h.small n (omega arith))) (record { a = omega arith; b = omega arith }) (follows_last r.regs.points p (omega arith) c.last) in
      dite (ℕ_discrete j n)
      (λ e. subst (λ (q : Point). word_of q < word_of p) (sym (ap (nth r.regs) e ∙ last)) f)
      (λ ne. let a = h.rising j n (omega arith) (omega arith) in let b : word_of (nth r.regs n) < word_of p = subst (λ (q : Point). word_of q < word_of p) (sym last) f in omega arith)

  -- an append in a place that is free
  ringed_append : (r : Cells) (p : Point) (past : List Entry) → Ringed s r → CanAppend r.regs p → IsSound (after r.regs (Append p)) → Ringed s (changed s r (Change (Append p)) past)
  ringed_append r p past h c sound =
      let ps : List Point = r.regs.points in
      let n : ℕ = length ps in
      let t : Cells = changed s r (Change (Append p)) past in
      let more : length t.regs.points ≡ n + 1 = length-append ps (p ∷ []) in
      let free = c.free in
      let end = end_is s r h in
      let room : n < r.regs.low * s.size + capacity s = omega arith in
      let inside : n % capacity s < capacity s = mod_below n (capacity s) (some_cap s shaped) in
      let len = h.len in let above = h.above in
      let sm = h.sound.mem in let ss = h.sound.store in let ca = c.a in let cb = c.b in record {
        sound = sound;
        parts_is = h.parts_is;
        size_is = h.size_is;
        len = length-set r.row (n % capacity s) (word_of p) ∙ h.len;
        above = omega arith;
        fits = omega arith;
        newest_there = λ k l m. dite (ℕ_discrete k n)
            (λ e. ap (λ (j : ℕ). get_or t.row (j % capacity s) 0) e ∙ (get_or-set_same r.row (n % capacity s) (word_of p) 0 (omega arith) ∙ ap word_of (sym (get-last ps p no_point k e))))
            (λ ne. get_or-set_other r.row (n % capacity s) (k % capacity s) (word_of p) 0 (λ same. ne (one_turn k n (capacity s) (omega arith) (omega arith) same))
            ∙ (h.newest_there k (omega arith) (omega arith) ∙ ap word_of (sym (get-left ps (p ∷ []) k no_point (omega arith)))));
        blank = λ k l m. get_or-set_other r.row (n % capacity s) k (word_of p) 0 (λ same. absurd (let z : n % capacity s ≡ n = mod-eq_of_lt (omega arith) in omega arith)) ∙ h.blank k (omega arith) m;
        within = λ k l. dite (ℕ_discrete k n)
            (λ e. subst (λ (q : Point). (q.a ≤ r.regs.mem) × (q.b ≤ r.regs.store)) (sym (get-last ps p no_point k e)) (c.a, c.b))
            (λ ne. subst (λ (q : Point). (q.a ≤ r.regs.mem) × (q.b ≤ r.regs.store)) (sym (get-left ps (p ∷ []) k no_point (omega arith))) (h.within k (omega arith)));
        small = λ k l. dite (ℕ_discrete k n)
            (λ e. subst IsSmall (sym (get-last ps p no_point k e)) (record { a = omega arith; b = omega arith }))
            (λ ne. subst IsSmall (sym (get-left ps (p ∷ []) k no_point (omega arith))) (h.small k (omega arith)));
        rising = λ j k l m. dite (ℕ_discrete k n)
            (λ e. subst (λ (x : Point × Point). word_of x.0 < word_of x.1) (λ i. (sym (get-left ps (p ∷ []) j no_point (omega arith)) i, sym (get-last ps p no_point k e) i)) (up_to_last r p h c j (omega arith)))
            (λ ne. subst (λ (x : Point × Point). word_of x.0 < word_of x.1) (λ i. (sym (get-left ps (p ∷ []) j no_point (omega arith)) i, sym (get-left ps (p ∷ []) k no_point (omega arith)) i)) (h.rising j k l (omega arith)));
      }

  ringed_by : (r : Cells) (by : Path) (e : WordStep) (past : List Entry) → Ringed s r → IsRight r by e → Ringed s (changed s r e past)
  ringed_by r by (Load w n) past h k = record { sound = h.sound; parts_is = h.parts_is; size_is = h.size_is; len = h.len; above = h.above; fits = h.fits; newest_there = h.newest_there; blank = h.blank; rising = h.rising; small = h.small; within = h.within }
  ringed_by r by (Change (DrawMem n)) past h k = record { sound = steps_sound r.regs (DrawMem n) h.sound k.0; parts_is = h.parts_is; size_is = h.size_is; len = h.len; above = h.above; fits = h.fits; newest_there = h.newest_there; blank = h.blank; rising = h.rising; small = h.small; within = (λ i j. let u = (h.within i j).0 in let e = k.0.0 in (omega arith, (h.within i j).1)) }
  ringed_by r by (Change (DrawStore n)) past h k = record { sound = steps_sound r.regs (DrawStore n) h.sound k.0; parts_is = h.parts_is; size_is = h.size_is; len = h.len; above = h.above; fits = h.fits; newest_there = h.newest_there; blank = h.blank; rising = h.rising; small = h.small; within = (λ i j. let u = (h.within i j).1 in let e = k.0.0 in ((h.within i j).0, omega arith)) }
  ringed_by r by (Change (Append p)) past h k = ringed_append r p past h k.0 (steps_sound r.regs (Append p) h.sound k.0)
  ringed_by r by (Change (Raise n)) past h k =
      let up : n * s.size ≡ r.regs.low * s.size + s.size = ap (λ (m : ℕ). m * s.size) k.0.0 ∙ (whole r.regs.low 1 s.size ∙ (let e : r.regs.low * s.size + 1 * s.size ≡ r.regs.low * s.size + s.size = omega arith in e)) in
      let full = eqb-true (length r.regs.points) ((r.regs.low + r.regs.partitions) * r.regs.size) k.0.1 in
      let end = end_is s r h in
      let two = two_parts s shaped in let some = shaped.size.0 in
      record { sound = steps_sound r.regs (Raise n) h.sound k.0; parts_is = h.parts_is; size_is = h.size_is; len = h.len; above = omega arith; fits = omega arith; newest_there = h.newest_there; blank = h.blank; rising = h.rising; small = h.small; within = h.within }

  ringed_goes : (r : Cells) (log : List Entry) → Ringed s r → IsHistory s r log → Ringed s (cells_after s r log)
  ringed_goes r [] h l = h
  ringed_goes r (e ∷ es) h l = ringed_goes (after_entry s r e) es (ringed_by r e.by e.step (r.past ++ e ∷ []) h l.0) l.1

  zeros : (n i : ℕ) → get_or (replicate {A = ℕ} n 0) i 0 ≡ 0
  zeros zero i = refl
  zeros (suc n) zero = refl
  zeros (suc n) (suc i) = zeros n i

  ringed_first : Ringed s (first_cells s)
  ringed_first =
      let zs : List ℕ = replicate (capacity s) 0 in
      let c0 : Cells = first_cells s in
      let w : ℕ = word_of s.point in
      let wide : length c0.row ≡ length zs = length-set zs 0 w in
      let n : length zs ≡ capacity s = length-replicate (capacity s) 0 in
      let c = some_cap s shaped in record {
        sound = start_sound s.partitions s.size s.point shaped;
        parts_is = refl;
        size_is = refl;
        len = omega arith;
        above = omega arith;
        fits = omega arith;
        newest_there = λ k l m. let z : k ≡ 0 = omega arith in let y : 0 % capacity s ≡ 0 = mod-eq_of_lt c in
            ap (λ (j : ℕ). get_or c0.row (j % capacity s) 0) z ∙ (ap (λ (j : ℕ). get_or c0.row j 0) y ∙ (get_or-set_same zs 0 w 0 (omega arith) ∙ ap (λ (j : ℕ). word_of (nth c0.regs j)) (sym z)));
        blank = λ k l m. get_or-set_other zs 0 k w 0 (λ e. absurd (omega arith)) ∙ zeros (capacity s) k;
        rising = λ j k l m. absurd (omega arith);
        small = λ k l. let z : k ≡ 0 = omega arith in subst (λ (j : ℕ). IsSmall (nth c0.regs j)) (sym z) shaped.small;
        within = λ k l. let z : k ≡ 0 = omega arith in subst (λ (j : ℕ). ((nth c0.regs j).a ≤ s.point.a) × ((nth c0.regs j).b ≤ s.point.b)) (sym z) (le_refl _, le_refl _);
      }

  pub ringed : (log : List Entry) → IsHistory s (first_cells s) log → Ringed s (cells_after s (first_cells s) log)
  ringed log h = ringed_goes (first_cells s) log ringed_first h

-- the points that were there stay
pub grown : (r t : Regs) → Grows r t → (k : ℕ) → k < length r.points → nth t k ≡ nth r k
grown r t g k l = ap (λ (ps : List Point). get_or ps k no_point) g.points ∙ get-left r.points g.more k no_point l

pub longer : (r t : Regs) → Grows r t → length r.points ≤ length t.points
longer r t g = let e : length t.points ≡ length (r.points ++ g.more) = ap length g.points in let m = length-append r.points g.more in omega arith

pub grows_none : (r : Regs) → Grows r r
grows_none r = record { mem = le_refl _; store = le_refl _; low = le_refl _; more = []; points = sym (append-nil r.points); partitions = refl; size = refl }

pub grows_then : (r t u : Regs) → Grows r t → Grows t u → Grows r u
grows_then r t u a b = record {
  mem = le_trans a.mem b.mem;
  store = le_trans a.store b.store;
  low = le_trans a.low b.low;
  more = a.more ++ b.more;
  points = b.points ∙ (ap (λ (ps : List Point). ps ++ b.more) a.points ∙ append_assoc r.points a.more b.more);
  partitions = b.partitions ∙ a.partitions;
  size = b.size ∙ a.size;
}

grows_after : (r : Regs) (e : Event) → IsNext r e → Grows r (after r e)
grows_after r (DrawMem n) h = record { mem = (let e = h.0 in omega arith); store = le_refl _; low = le_refl _; more = []; points = sym (append-nil r.points); partitions = refl; size = refl }
grows_after r (DrawStore n) h = record { mem = le_refl _; store = (let e = h.0 in omega arith); low = le_refl _; more = []; points = sym (append-nil r.points); partitions = refl; size = refl }
grows_after r (Raise n) h = record { mem = le_refl _; store = le_refl _; low = (let e = h.0 in omega arith); more = []; points = sym (append-nil r.points); partitions = refl; size = refl }
grows_after r (Append p) h = record { mem = le_refl _; store = le_refl _; low = le_refl _; more = p ∷ []; points = refl; partitions = refl; size = refl }

grows_by : (s : Start) (r : Cells) (by : Path) (e : WordStep) (past : List Entry) → IsRight r by e → Grows r.regs (changed s r e past).regs
grows_by s r by (Load w n) past h = grows_none r.regs
grows_by s r by (Change e) past h = grows_after r.regs e h.0

pub grows : (s : Start) (r : Cells) (log : List Entry) → IsHistory s r log → Grows r.regs (cells_after s r log).regs
grows s r [] h = grows_none r.regs
grows s r (e ∷ es) h = grows_then r.regs (after_entry s r e).regs (cells_after s r (e ∷ es)).regs (grows_by s r e.by e.step (r.past ++ e ∷ []) h.0) (grows s (after_entry s r e) es h.1)

pub seen_grows : (s : Start) (seen log : List Entry) → Begins seen log → IsHistory s (first_cells s) log → Grows (cells_after s (first_cells s) seen).regs (cells_after s (first_cells s) log).regs
seen_grows s seen log b h =
    let c : Cells = cells_after s (first_cells s) seen in
    let h' : IsHistory s (first_cells s) (seen ++ b.0) = subst (IsHistory s (first_cells s)) (sym b.1) h in
    subst (λ (t : Cells). Grows c.regs t.regs) (sym (cells_after-append s (first_cells s) seen b.0) ∙ ap (cells_after s (first_cells s)) b.1)
    (grows s c b.0 (history-right s (first_cells s) seen b.0 h'))

-- the past is the history
changed-past : (s : Start) (r : Cells) (e : WordStep) (past : List Entry) → (changed s r e past).past ≡ past
changed-past s r (Load w n) past = refl
changed-past s r (Change e) past = refl

pub past_is : (s : Start) (r : Cells) (log : List Entry) → (cells_after s r log).past ≡ r.past ++ log
past_is s r [] = sym (append-nil r.past)
past_is s r (e ∷ es) =
    let again : (r.past ++ e ∷ []) ++ es ≡ r.past ++ (e ∷ es) = append_assoc r.past (e ∷ []) es in
    past_is s (after_entry s r e) es ∙ (ap (λ (l : List Entry). l ++ es) (changed-past s r e.step (r.past ++ e ∷ [])) ∙ again)
