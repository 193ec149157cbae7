-- What follows where the last point was found.
use Rattle.std.proofs.Common.{◌≡◌, ◌≢◌, ℕ, ◌+◌, ◌-◌, ◌*◌, ◌%◌, ◌<◌, ◌≤◌, Bool, true, false, cond, eqb, eq-eqb, List, ◌++◌, length, get_or, inl, inr, ⊎_elim, sym, ap, ◌∙◌, subst, arith, mul-le-mul_right}
use Rattle.sk_model.specs.declared.point.Point.{Point}
use Rattle.sk_weave.specs.declared.event.Event.{Event}
use Rattle.sk_weave.specs.declared.event.Event.TheVariants.{Append, Raise}
use Rattle.sk_weave.specs.Points.{CanFollow, IsSmall, word_of, point_at}
use Rattle.sk_weave.specs.Registry.{Grows, last_of}
use Rattle.sk_weave.proofs.Staircase.{word_back}
use Rattle.sk_weave.proofs.Registers.{comes_last}
use Rattle.sk_clock.specs.declared.view.WordStep.{WordStep}
use Rattle.sk_clock.specs.declared.view.WordStep.TheVariants.{Load, Change}
use Rattle.sk_clock.specs.declared.view.Entry.{Entry}
use Rattle.sk_clock.specs.declared.view.Start.{Start}
use Rattle.sk_clock.specs.declared.view.View.{View}
use Rattle.sk_clock.specs.Paths.{Begins}
use Rattle.sk_clock.specs.Steps.{entry, Holds}
use Rattle.sk_clock.specs.History.{Cells, capacity, first_cells, IsHistory, change_of}
use Rattle.sk_clock.specs.Kept.{cells, now, row_now, Sees, Extends, Swaps, Looks, IsLook, CanExchange}
use Rattle.sk_clock.specs.Walks.{nth, FindsLast, Appends, LooksPast}
use Rattle.sk_clock.proofs.Histories.{history-left, cells_after-snoc}
use Rattle.sk_clock.proofs.Makings.{looks_then, looks_on, looks_first, step_begins, begins-on}
use Rattle.sk_clock.proofs.Ring.{word_big, last_at, Shaped, Ringed, longer}
use Rattle.sk_clock.proofs.Reading.{few, came, untouched}
use Rattle.sk_clock.proofs.Views.{loaded, loaded_row, view_grows, step_grows, ringed_now, looks_grow}
use Rattle.sk_clock.proofs.Walking.{low_small}
use Rattle.sk_clock.proofs.Changing.{can_raise, later_append, points_there, appends_at}

-- a raise that was made is seen
raised : (v : View) (n : ℕ) (w : View) → Extends v (Change (Raise n)) w → (now w).low ≡ n
raised v n w h = ap (λ (l : List Entry). (cells w l).regs.low) h.seen
    ∙ ap (λ (c : Cells). c.regs.low) (cells_after-snoc w.start (first_cells w.start) (v.seen ++ h.between) (entry v.own.path (Change (Raise n))))

-- how far points and partitions go
pub bounds : (w : View) → Shaped w.start → Sees w → (length (now w).points ≤ 9223372036854775808) × ((now w).low < 9223372036854775808)
bounds w shaped legal =
    let a = ringed_now w shaped legal in
    let above = a.above in
    let last = few w.start (cells w w.seen) a (length (now w).points - 1) (omega arith) in
    let lo = low_small w shaped legal in
    let x = lo.0 in let y = lo.1 in
    (omega arith, omega arith)

module _ (v w : View) (low k word next : ℕ) (shaped : Shaped w.start) (f : FindsLast v low k word next w) where
  abbrev place : View
  place = f.place

  same : w.start ≡ place.start
  same = f.later.same.0

  pub shaped_there : Shaped place.start
  shaped_there = subst Shaped same shaped

  pub sees_there : Sees place
  sees_there = subst (λ (s : Start). IsHistory s (first_cells s) place.seen) same (history-left w.start (first_cells w.start) place.seen f.later.seen.0 (subst (IsHistory w.start (first_cells w.start)) (sym f.later.seen.1) f.legal))

  pub ringed_there : Ringed place.start (cells place place.seen)
  ringed_there = ringed_now place shaped_there sees_there

  pub grows_to : Grows (now v) (now place)
  grows_to = looks_grow v place f.before sees_there

  pub grows_from : Grows (now place) (now w)
  grows_from = looks_grow place w f.later f.legal

  pub at_small : k < 9223372036854775808
  at_small = let l = f.last in few place.start (cells place place.seen) ringed_there k (omega arith)

  pub word_there : 9223372036854775808 ≤ word
  word_there = let is = f.word_is in let big = word_big (nth (now place) k) in omega arith

  pub last_is : point_at word ≡ last_of (now place).points
  last_is = let l = f.last in ap point_at f.word_is ∙ (word_back (nth (now place) k) (ringed_there.small k (omega arith)) ∙ last_at (now place).points k f.last)

  at_place : length (now place).points % capacity place.start + 3 ≡ (k + 1) % capacity w.start + 3
  at_place = λ i. (f.last i) % capacity (sym same i) + 3

  was : next ≡ get_or (row_now place) (length (now place).points % capacity place.start) 0
  was = f.next_is ∙ (λ i. get_or (row_now place) ((sym f.last i) % capacity place.start) 0)

  -- where the word that was read at the next place still stands, this is the last point still
  pub still_last : (y : View) → Extends y (Load ((k + 1) % capacity w.start + 3) next) w → (length (now w).points ≡ k + 1) × (point_at word ≡ last_of (now w).points)
  still_last y h =
      let ring_w : Ringed place.start (cells w w.seen) = subst (λ (s : Start). Ringed s (cells w w.seen)) same (ringed_now w shaped f.legal) in
      let read : next ≡ get_or (row_now w) (length (now place).points % capacity place.start) 0 = loaded_row y ((k + 1) % capacity w.start) next w h ∙ (λ i. get_or (row_now w) ((sym f.last i) % capacity (same i)) 0) in
      let points : (now w).points ≡ (now place).points = untouched place.start shaped_there (cells place place.seen) (cells w w.seen) ringed_there ring_w grows_from (sym read ∙ was) in
      (ap (λ (ps : List Point). length ps) points ∙ f.last, last_is ∙ ap last_of (sym points))

  -- the append at the next place
  pub can_be_next : (p : Point) → IsSmall p → k + 1 < (low + w.start.partitions) * w.start.size → CanFollow (point_at word) p → p.a ≤ (now w).mem → p.b ≤ (now w).store → Holds p w.own.steps → CanExchange w ((k + 1) % capacity w.start + 3) next (word_of p)
  can_be_next p small room follows a b held =
      let last = f.last in
      let some : 0 < length (now place).points = omega arith in
      let more : (low + w.start.partitions) * w.start.size ≤ ((now place).low + w.start.partitions) * w.start.size = mul-le-mul_right w.start.size (let s = f.seen in omega arith) in
      let e : ((now place).low + w.start.partitions) * w.start.size ≡ ((now place).low + place.start.partitions) * place.start.size = ap (λ (s : Start). ((now place).low + s.partitions) * s.size) same in
      subst (λ (n : ℕ). CanExchange w n next (word_of p)) at_place
      (later_append place w shaped_there sees_there f.later p next small was (omega arith) (comes_last (now place).points p some (subst (λ (q : Point). CanFollow q p) last_is follows)) a b held)

  -- where it was made, the last point was still this
  pub appended : (p : Point) → IsSmall p → (x : View) → Swaps w ((k + 1) % capacity w.start + 3) next (change_of ((k + 1) % capacity w.start + 3) (word_of p)) x → Appends w k p (point_at word) x
  appended p small x h0 =
      let h : Swaps w ((k + 1) % capacity w.start + 3) next (Append p) x = subst (λ (e : Event). Swaps w ((k + 1) % capacity w.start + 3) next e x) (appends_at ((k + 1) % capacity w.start) p small) h0 in
      let h' : Swaps w (length (now place).points % capacity place.start + 3) next (Append p) x = subst (λ (n : ℕ). Swaps w n next (Append p) x) (sym at_place) h in
      record {
        extends = h'.extends;
        last_is = ap last_of (points_there place w x (Append p) next shaped_there sees_there f.later h' was) ∙ sym last_is;
        count_is = ap (λ (ps : List Point). length ps) (points_there place w x (Append p) next shaped_there sees_there f.later h' was) ∙ f.last;
      }

  -- where another word is found there, a point came
  pub beaten : (n : ℕ) (y : View) → Extends w (Load ((k + 1) % capacity w.start + 3) n) y → n ≢ next → LooksPast w low k y
  beaten n y h ne =
      let begins : Begins place.seen y.seen = begins-on place.seen w.seen y.seen f.later.seen (step_begins w (Load ((k + 1) % capacity w.start + 3) n) y h) in
      let sy : y.start ≡ place.start = h.same.0 ∙ same in
      let shy : Shaped y.start = subst Shaped (sym sy) shaped_there in
      let ry : Ringed place.start (cells y y.seen) = subst (λ (s : Start). Ringed s (cells y y.seen)) sy (ringed_now y shy h.legal) in
      let read : n ≡ get_or (row_now y) (length (now place).points % capacity place.start) 0 = loaded_row w ((k + 1) % capacity w.start) n y h ∙ (λ i. get_or (row_now y) ((sym f.last i) % capacity (same i)) 0) in
      let g = view_grows place y sy begins h.legal in
      let more = came place.start shaped_there (cells place place.seen) (cells y y.seen) ringed_there ry g (λ e. ne (read ∙ (e ∙ sym was))) in
      let last = f.last in record {
        looks = looks_first w (Load ((k + 1) % capacity w.start + 3) n) y tt h;
        legal = h.legal;
        all_seen = h.all_seen;
        past = inl (omega arith);
      }

  -- the oldest partition may be given up, where all places are taken
  pub can_lift : (low + w.start.partitions) * w.start.size ≤ k + 1 → CanExchange w 2 low (low + 1)
  can_lift full = let up = longer (now place) (now w) grows_from in let last = f.last in can_raise w shaped f.legal low (omega arith)

  -- whoever gave it up, it is seen
  pub lifted : (n : ℕ) (y : View) → (b : Bool) → eqb n low ≡ b → cond b (Swaps w 2 low (Raise (low + 1)) y) (Extends w (Load 2 n) y) → LooksPast w low k y
  lifted n y true is h0 = let h = h0.extends in let r = raised w (low + 1) y h in record { looks = looks_first w (Change (Raise (low + 1))) y tt h; legal = h.legal; all_seen = h.all_seen; past = inr (omega arith) }
  lifted n y false is h =
      let up = (step_grows w (Load 2 n) y h).low in
      let on = grows_from.low in
      let seen = f.seen in
      let r = loaded w 2 n y h in
      let ne : n ≢ low = λ e. absurd (let t : eqb n low ≡ true = eq-eqb n low e in cc) in
      record { looks = looks_first w (Load 2 n) y tt h; legal = h.legal; all_seen = h.all_seen; past = inr (omega arith) }

-- what was found is found still when the pass has looked further
pub later_last : (v w y : View) (low k word next : ℕ) (e : WordStep) → IsLook e → FindsLast v low k word next w → Extends w e y → FindsLast v low k word next y
later_last v w y low k word next e look f h = record {
  place = f.place;
  before = f.before;
  later = looks_on f.place w e y look f.later h;
  own_there = f.own_there;
  last = f.last;
  word_is = f.word_is;
  next_is = f.next_is;
  seen = f.seen;
  since = f.since;
  legal = h.legal;
  all_seen = h.all_seen;
}

pub past_from : (v w y : View) (low k : ℕ) → Looks v w → LooksPast w low k y → LooksPast v low k y
past_from v w y low k l p = record { looks = looks_then v w y l p.looks; legal = p.legal; all_seen = p.all_seen; past = p.past }

-- each round that goes on has seen more
pub nearer : (v w y : View) (low k word next : ℕ) (shaped : Shaped y.start) → FindsLast v low k word next w → LooksPast w low k y
    → 18446744073709551616 - (length (now y).points + (now y).low) < 18446744073709551616 - (length (now v).points + (now v).low)
nearer v w y low k word next shaped f p =
    let shw : Shaped w.start = subst Shaped p.looks.same.0 shaped in
    let a = grows_to v w low k word next shw f in
    let b = grows_from v w low k word next shw f in
    let c = looks_grow w y p.looks p.legal in
    let la = longer (now v) (now f.place) a in
    let lb = longer (now f.place) (now w) b in
    let lc = longer (now w) (now y) c in
    let bl = b.low in
    let cl = c.low in
    let seen = f.seen in
    let since = f.since in
    let last = f.last in
    let top = bounds y shaped p.legal in
    let t0 = top.0 in let t1 = top.1 in
    ⊎_elim (λ (l : k + 1 < length (now y).points). omega arith) (λ (l : low < (now y).low). omega arith) p.past

-- what came of an exchange at the next place
pub tried : (v w y : View) (low k word next : ℕ) (shaped : Shaped w.start) (f : FindsLast v low k word next w) (p : Point) → IsSmall p → (i m n : ℕ) → i ≡ (k + 1) % capacity w.start + 3 → m ≡ word_of p
    → (b : Bool) → eqb n next ≡ b → cond b (Swaps w i next (change_of i m) y) (Extends w (Load i n) y) → cond b (Appends w k p (point_at word) y) (LooksPast w low k y)
tried v w y low k word next shaped f p small i m n at is b e h = go b e (subst (λ (x : ℕ × ℕ). cond b (Swaps w x.0 next (change_of x.0 x.1) y) (Extends w (Load x.0 n) y)) (λ j. (at j, is j)) h)
  where
    go : (b : Bool) → eqb n next ≡ b → cond b (Swaps w ((k + 1) % capacity w.start + 3) next (change_of ((k + 1) % capacity w.start + 3) (word_of p)) y) (Extends w (Load ((k + 1) % capacity w.start + 3) n) y) → cond b (Appends w k p (point_at word) y) (LooksPast w low k y)
    go true e h = appended v w low k word next shaped f p small y h
    go false e h = beaten v w low k word next shaped f n y h (λ same. absurd (let t : eqb n next ≡ true = eq-eqb n next same in cc))

-- the change that it wants is right
pub can_try : (v w : View) (low k word next : ℕ) (shaped : Shaped w.start) (f : FindsLast v low k word next w) (p : Point) → IsSmall p → (i m : ℕ) → i ≡ (k + 1) % capacity w.start + 3 → m ≡ word_of p
    → k + 1 < (low + w.start.partitions) * w.start.size → CanFollow (point_at word) p → p.a ≤ (now w).mem → p.b ≤ (now w).store → Holds p w.own.steps → CanExchange w i next m
can_try v w low k word next shaped f p small i m at is room follows a b held =
    subst (λ (x : ℕ × ℕ). CanExchange w x.0 next x.1) (λ j. (sym at j, sym is j)) (can_be_next v w low k word next shaped f p small room follows a b held)
