-- At the close each step of the history is of one of the passes that were handed in, and the ring has the live points.
use Rattle.std.proofs.Common.{◌≡◌, ℕ, zero, suc, ◌+◌, ◌-◌, ◌*◌, ◌%◌, ◌<◌, ◌≤◌, true, List, [], ◌∷◌, ◌++◌, map, length, take, drop, append_assoc, get_or, refl, sym, ap, ◌∙◌, subst, arith}
use mathlib.Core.List.{map-append}
use Rattle.std.proofs.lemmas.List.{append-nil, drop_more}
use Rattle.std.proofs.Math.ListN.{drop_of_length-le}
use mathlib.Core.Option.{some, some-injective, some-ne-none}
use lib.ListN.{get_elem?}
use Rattle.atomic_table.specs.Table.{State, Final, Seen}
use Rattle.atomic_table.proofs.Lists.{at_longer, at_last}
use Rattle.sk_model.specs.declared.point.Point.{Point}
use Rattle.sk_weave.specs.Points.{word_of, point_at}
use Rattle.sk_weave.specs.RegistryLaws.{CanStart}
use Rattle.sk_clock.specs.declared.pass.Clock.{Clock}
use Rattle.sk_clock.specs.Of.{start_of}
use Rattle.sk_weave.specs.Registry.{no_point, live_of}
use Rattle.sk_weave.proofs.Staircase.{word_back}
use Rattle.sk_weave.proofs.Registers.{length_pushed}
use Rattle.sk_clock.specs.declared.view.Entry.{Entry}
use Rattle.sk_clock.specs.declared.view.Start.{Start}
use Rattle.sk_clock.specs.declared.view.Own.{Own}
use Rattle.sk_clock.specs.declared.view.View.{View}
use Rattle.sk_clock.specs.Held.{Held}
use Rattle.sk_clock.specs.Paths.{Path, Born, Each}
use Rattle.sk_clock.specs.Steps.{steps_by}
use Rattle.sk_clock.specs.History.{Cells, capacity, first_cells, words_of, cells_after, IsHistory}
use Rattle.sk_clock.specs.Kept.{OwnFits, Kept, gathered}
use Rattle.sk_clock.specs.Walks.{nth}
use Rattle.sk_clock.specs.Closes.{own_of, HasPath, IsOfOne, IsEvery, Closes}
use Rattle.sk_clock.proofs.Histories.{each-map, each-snoc, begins-refl}
use Rattle.sk_clock.proofs.Ring.{word_big, Shaped, Ringed, ringed, seen_grows}
use Rattle.sk_clock.proofs.Reading.{trusted, was_last, few}
use Rattle.sk_clock.proofs.Views.{at_row}

each-at : {A : Type 0} (P : A → Type 0) (xs : List A) (i : ℕ) (x : A) → Each P xs → get_elem? xs i ≡ some x → P x
each-at P [] i x h e = absurd (some-ne-none x (sym e))
each-at P (y ∷ ys) zero x h e = subst P (some-injective y x e) h.0
each-at P (y ∷ ys) (suc i) x h e = each-at P ys i x h.1 e

-- the history at the close, whose words are these
pub record Shows (start : Start) (os : List Own) (ws : List ℕ) : Type 0 where
  pub log : List Entry
  pub legal : IsHistory start (first_cells start) log
  pub words_are : ws ≡ words_of (cells_after start (first_cells start) log)
  pub each : (i : ℕ) (o : Own) → get_elem? os i ≡ some o → steps_by o.path log ≡ o.steps
  pub by_one : Each (λ (e : Entry). IsOfOne e.by os) log

module _ {S : Type 0} (start : Start) (s : State S View) (k : Kept start s) (id : ℕ) (v : View) (at : get_elem? s.views id ≡ some v) (live : v.live ≡ true) (every : IsEvery (v.taken ++ v.own ∷ [])) where
  abbrev os : List Own
  os = v.taken ++ v.own ∷ []

  fits : Each (OwnFits k.log k.splits k.holder id) os
  fits = let f = k.each id v at in each-snoc (OwnFits k.log k.splits k.holder id) v.taken v.own f.taken (f.live live).own

  fits_at : (i : ℕ) (o : Own) → get_elem? os i ≡ some o → OwnFits k.log k.splits k.holder id o
  fits_at i o e = each-at (OwnFits k.log k.splits k.holder id) os i o fits e

  -- every pass that was split off is there
  found : (p : Path) → Born k.splits p → HasPath p os
  found [] b = every.first
  found (n ∷ p) b =
      let h = found p b.1 in
      let less : n < h.1.splits = (let is : h.1.splits ≡ k.splits p = (fits_at h.0 h.1 h.2).splits_is ∙ ap k.splits h.3 in let l = b.0 in omega arith) in
      let there = every.others h.0 h.1 h.2 n less in
      (there.0, there.1, there.2, there.3 ∙ ap (λ (l : Path). n ∷ l) h.3)

  one_found : (p : Path) → Born k.splits p → IsOfOne p os
  one_found p b = let h = found p b in (h.0, h.1, h.2, h.3, λ j u e is. every.once j h.0 u h.1 e h.2 (is ∙ sym h.3))

  whole : Shows start os s.words
  whole = record {
    log = k.log;
    legal = k.legal;
    words_are = k.words_are;
    each = λ i o e. (fits_at i o e).steps_are;
    by_one = each-map (λ (e : Entry). Born k.splits e.by) (λ (e : Entry). IsOfOne e.by os) k.log (λ e b. one_found e.by b) k.by_born;
  }

pub closed_shown : {S : Type 0} (start : Start) (id : ℕ) (v : View) (ws : List ℕ) (xs : List S) (all : List Own) → v.live ≡ true → v.taken ++ v.own ∷ [] ≡ all → IsEvery all → Final (Seen (Kept start) id v) ws xs → Shows start all ws
closed_shown start id v ws xs all live is every f =
    subst (λ (x : List Own × List ℕ). Shows start x.0 x.1) (λ i. (is i, f.2 i)) (whole start f.0 f.1.0 id v f.1.1 live (subst IsEvery (sym is) every))

-- reading along the ring has come to the point `at`, and these are the live points up to it
pub record Reads (start : Start) (os : List Own) (ws : List ℕ) (at word : ℕ) (points : List Point) : Type 0 where
  pub shows : Shows start os ws
  pub there : at < length (cells_after start (first_cells start) shows.log).regs.points
  pub above : (cells_after start (first_cells start) shows.log).regs.low * start.size ≤ at
  pub word_is : word ≡ word_of (nth (cells_after start (first_cells start) shows.log).regs at)
  pub points_are : points ++ drop (at + 1) (cells_after start (first_cells start) shows.log).regs.points ≡ live_of (cells_after start (first_cells start) shows.log).regs
  pub count : length points + (cells_after start (first_cells start) shows.log).regs.low * start.size ≡ at + 1

module _ (start : Start) (os : List Own) (ws : List ℕ) (shaped : Shaped start) (h : Shows start os ws) where
  abbrev c : Cells
  c = cells_after start (first_cells start) h.log

  ring : Ringed start c
  ring = ringed start shaped h.log h.legal

  pub at_place : (k : ℕ) → get_or ws (k + 3) 0 ≡ get_or c.row k 0
  at_place k = ap (λ (l : List ℕ). get_or l (k + 3) 0) h.words_are ∙ at_row c k

  pub low_here : get_or ws 2 0 ≡ c.regs.low
  low_here = ap (λ (l : List ℕ). get_or l 2 0) h.words_are

  pub low_upto : c.regs.low * start.size < 9223372036854775808
  low_upto = few start c ring (c.regs.low * start.size) ring.above

  first_word : get_or ws ((c.regs.low * start.size) % capacity start + 3) 0 ≡ word_of (nth c.regs (c.regs.low * start.size))
  first_word = let above = ring.above in let fits = ring.fits in at_place ((c.regs.low * start.size) % capacity start) ∙ ring.newest_there (c.regs.low * start.size) above (omega arith)

  pub begins_at : (at word : ℕ) → at ≡ c.regs.low * start.size → word ≡ get_or ws (at % capacity start + 3) 0 → Reads start os ws at word (point_at word ∷ [])
  begins_at at word is read =
      let above = ring.above in
      let low_is : c.regs.low * c.regs.size ≡ at = ap (λ (n : ℕ). c.regs.low * n) ring.size_is ∙ sym is in
      let there : at < length c.regs.points = omega arith in
      let w : word ≡ word_of (nth c.regs at) = read ∙ (ap (λ (n : ℕ). get_or ws (n % capacity start + 3) 0) is ∙ (first_word ∙ ap (λ (n : ℕ). word_of (nth c.regs n)) (sym is))) in
      let p : point_at word ≡ nth c.regs at = ap point_at w ∙ word_back (nth c.regs at) (ring.small at there) in
      record {
        shows = h;
        there = there;
        above = omega arith;
        word_is = w;
        points_are = ap (λ (q : Point). q ∷ drop (at + 1) c.regs.points) p ∙ (sym (drop_more c.regs.points at no_point there) ∙ ap (λ (n : ℕ). drop n c.regs.points) (sym low_is));
        count = omega arith;
      }

module _ (start : Start) (os : List Own) (ws : List ℕ) (shaped : Shaped start) (at word : ℕ) (points : List Point) (r : Reads start os ws at word points) where
  abbrev d : Cells
  d = cells_after start (first_cells start) r.shows.log

  ring_d : Ringed start d
  ring_d = ringed start shaped r.shows.log r.shows.legal

  here : (next : ℕ) → next ≡ get_or ws ((at + 1) % capacity start + 3) 0 → next ≡ get_or d.row ((at + 1) % capacity start) 0
  here next read = read ∙ at_place start os ws shaped r.shows ((at + 1) % capacity start)

  pub at_upto : at < 9223372036854775808
  at_upto = few start d ring_d at r.there

  pub word_upto : 9223372036854775808 ≤ word
  word_upto = let is = r.word_is in let big = word_big (nth d.regs at) in omega arith

  pub room_for : (next : ℕ) → next ≡ get_or ws ((at + 1) % capacity start + 3) 0 → word < next → length points < capacity start
  room_for next read less =
      let above = r.above in
      let count = r.count in
      let fits = ring_d.fits in
      let t = trusted start shaped d d at next ring_d ring_d (seen_grows start r.shows.log r.shows.log (begins-refl r.shows.log) r.shows.legal) (omega arith) r.there (here next read) (let e = r.word_is in omega arith) in
      let l = t.0 in omega arith

  pub reads_on : (next : ℕ) → next ≡ get_or ws ((at + 1) % capacity start + 3) 0 → word < next → Reads start os ws (at + 1) next (points ++ point_at next ∷ [])
  reads_on next read less =
      let above = r.above in
      let count = r.count in
      let t = trusted start shaped d d at next ring_d ring_d (seen_grows start r.shows.log r.shows.log (begins-refl r.shows.log) r.shows.legal) (omega arith) r.there (here next read) (let e = r.word_is in omega arith) in
      let p : point_at next ≡ nth d.regs (at + 1) = ap point_at t.1 ∙ word_back (nth d.regs (at + 1)) (ring_d.small (at + 1) t.0) in
      let more : length (points ++ point_at next ∷ []) ≡ length points + 1 = length_pushed points (point_at next) in
      record {
        shows = r.shows;
        there = t.0;
        above = omega arith;
        word_is = t.1;
        points_are = append_assoc points (point_at next ∷ []) (drop (at + 1 + 1) d.regs.points)
            ∙ (ap (λ (q : Point). points ++ (q ∷ drop (at + 1 + 1) d.regs.points)) p ∙ (ap (λ (l : List Point). points ++ l) (sym (drop_more d.regs.points (at + 1) no_point t.0)) ∙ r.points_are));
        count = omega arith;
      }

  pub reads_all : (next : ℕ) → next ≡ get_or ws ((at + 1) % capacity start + 3) 0 → next ≤ word → Closes start os points
  reads_all next read less =
      let above = r.above in
      let end = was_last start d ring_d d at word next ring_d (seen_grows start r.shows.log r.shows.log (begins-refl r.shows.log) r.shows.legal) (omega arith) r.there r.word_is (here next read) less in
      record {
        log = r.shows.log;
        legal = r.shows.legal;
        points_are = sym (append-nil points) ∙ (ap (λ (l : List Point). points ++ l) (sym (drop_of_length-le d.regs.points (omega arith))) ∙ r.points_are);
        each = r.shows.each;
        by_one = r.shows.by_one;
      }

-- the list that shrinks at its end
pub none_left : {A : Type 0} (xs ys : List A) (n : ℕ) → xs ≡ ys ++ [] → ys ≡ take (n - 1) xs → n ≡ 0 → xs ≡ []
none_left xs ys n e f z = e ∙ (append-nil ys ∙ (f ∙ ap (λ (m : ℕ). take (m - 1) xs) z))

pub sum_first : (all rest : List Held) (p : Held) (v : View) → all ≡ rest ++ p ∷ [] → v ≡ p.view → p.view.taken ≡ [] → map own_of rest ++ (v.taken ++ v.own ∷ []) ≡ map own_of all
sum_first all rest p v e is none = ap (λ (u : View). map own_of rest ++ (u.taken ++ u.own ∷ [])) is ∙ (ap (λ (l : List Own). map own_of rest ++ (l ++ own_of p ∷ [])) none ∙ (sym (map-append own_of rest (p ∷ [])) ∙ ap (map own_of) (sym e)))

pub sum_more : (old rest : List Held) (p : Held) (v w : View) (all : List Own) → old ≡ rest ++ p ∷ [] → w ≡ gathered v p.view → map own_of old ++ (v.taken ++ v.own ∷ []) ≡ all → map own_of rest ++ (w.taken ++ w.own ∷ []) ≡ all
sum_more old rest p v w all e is s = ap (λ (u : View). map own_of rest ++ (u.taken ++ u.own ∷ [])) is
    ∙ (sym (append_assoc (map own_of rest) (own_of p ∷ []) (v.taken ++ v.own ∷ [])) ∙ (ap (λ (l : List Own). l ++ (v.taken ++ v.own ∷ [])) (sym (map-append own_of rest (p ∷ [])) ∙ ap (map own_of) (sym e)) ∙ s))

pub seated_rest : (P : Held → Type 0) (all rest : List Held) (p : Held) → all ≡ rest ++ p ∷ [] → ((i : ℕ) (q : Held) → get_elem? all i ≡ some q → P q) → (i : ℕ) (q : Held) → get_elem? rest i ≡ some q → P q
seated_rest P all rest p e h i q at = h i q (subst (λ (l : List Held). get_elem? l i ≡ some q) (sym e) (at_longer rest (p ∷ []) i q at))

pub seated_last : (P : Held → Type 0) (all rest : List Held) (p : Held) → all ≡ rest ++ p ∷ [] → ((i : ℕ) (q : Held) → get_elem? all i ≡ some q → P q) → P p
seated_last P all rest p e h = h (length rest) p (subst (λ (l : List Held). get_elem? l (length rest) ≡ some p) (sym e) (at_last rest p (length rest) refl))

no_pass : {A : Type 0} (i : ℕ) (a : A) → get_elem? [] i ≡ some a → ⊥
no_pass i a e = some-ne-none a (sym e)

pub not_none : (ps : List Held) → IsEvery (map own_of ps) → ps ≡ [] → ⊥
not_none ps every e = let f = every.first in no_pass f.0 f.1 (subst (λ (l : List Held). get_elem? (map own_of l) f.0 ≡ some f.1) e f.2)

pub get_or_at : (xs : List ℕ) (i n : ℕ) → get_elem? xs i ≡ some n → n ≡ get_or xs i 0
get_or_at [] i n e = absurd (some-ne-none n (sym e))
get_or_at (x ∷ xs) zero n e = sym (some-injective x n e)
get_or_at (x ∷ xs) (suc i) n e = get_or_at xs i n e

-- for the clock's own numbers
pub shape_is : (c : Clock) → Shaped (start_of c)
shape_is c = subst (λ (x : ℕ × ℕ). CanStart x.0 x.1 c.table.shared.key.point) (λ i. (sym c.shape.0 i, sym c.shape.1 i)) c.starts

pub cap_is : (c : Clock) → (k : ℕ) → k % (c.parts * c.size) + 3 ≡ k % capacity (start_of c) + 3
cap_is c k = λ i. k % (sym c.shape.0 i * sym c.shape.1 i) + 3

pub low_read : (c : Clock) (os : List Own) (ws : List ℕ) (low : ℕ) → Shows (start_of c) os ws → get_elem? ws 2 ≡ some low → low * c.size < 9223372036854775808
low_read c os ws low h e =
    let is : low ≡ (cells_after (start_of c) (first_cells (start_of c)) h.log).regs.low = get_or_at ws 2 low e ∙ low_here (start_of c) os ws (shape_is c) h in
    let up = low_upto (start_of c) os ws (shape_is c) h in
    let same : low * c.size ≡ (cells_after (start_of c) (first_cells (start_of c)) h.log).regs.low * (start_of c).size = λ i. is i * sym c.shape.1 i in
    omega arith

pub first_read : (c : Clock) (os : List Own) (ws : List ℕ) (low word : ℕ) → (h : Shows (start_of c) os ws) → get_elem? ws 2 ≡ some low → get_elem? ws ((low * c.size) % (c.parts * c.size) + 3) ≡ some word → Reads (start_of c) os ws (low * c.size) word (point_at word ∷ [])
first_read c os ws low word h e f =
    let is : low ≡ (cells_after (start_of c) (first_cells (start_of c)) h.log).regs.low = get_or_at ws 2 low e ∙ low_here (start_of c) os ws (shape_is c) h in
    let same : low * c.size ≡ (cells_after (start_of c) (first_cells (start_of c)) h.log).regs.low * (start_of c).size = λ i. is i * sym c.shape.1 i in
    begins_at (start_of c) os ws (shape_is c) h (low * c.size) word same (get_or_at ws ((low * c.size) % (c.parts * c.size) + 3) word f ∙ ap (λ (n : ℕ). get_or ws n 0) (cap_is c (low * c.size)))

module _ (c : Clock) (os : List Own) (ws : List ℕ) (at word next : ℕ) (points : List Point) (r : Reads (start_of c) os ws at word points) (read : next ≡ get_or ws ((at + 1) % (c.parts * c.size) + 3) 0) where
  read_there : next ≡ get_or ws ((at + 1) % capacity (start_of c) + 3) 0
  read_there = read ∙ ap (λ (n : ℕ). get_or ws n 0) (cap_is c (at + 1))

  pub more_read : word < next → Reads (start_of c) os ws (at + 1) next (points ++ point_at next ∷ [])
  more_read less = reads_on (start_of c) os ws (shape_is c) at word points r next read_there less

  pub room_left : word < next → length points < c.parts * c.size
  room_left less =
      let l = room_for (start_of c) os ws (shape_is c) at word points r next read_there less in
      let same : c.parts * c.size ≡ capacity (start_of c) = λ i. sym c.shape.0 i * sym c.shape.1 i in
      omega arith

  pub next_big : word < next → 9223372036854775808 ≤ next
  next_big less = let big = word_upto (start_of c) os ws (shape_is c) at word points r in omega arith

  pub all_read : next ≤ word → Closes (start_of c) os points
  all_read less = reads_all (start_of c) os ws (shape_is c) at word points r next read_there less

pub at_read : (c : Clock) (os : List Own) (ws : List ℕ) (at word : ℕ) (points : List Point) → Reads (start_of c) os ws at word points → at < 9223372036854775808
at_read c os ws at word points r = at_upto (start_of c) os ws (shape_is c) at word points r

pub word_read : (c : Clock) (os : List Own) (ws : List ℕ) (at word : ℕ) (points : List Point) → Reads (start_of c) os ws at word points → 9223372036854775808 ≤ word
word_read c os ws at word points r = word_upto (start_of c) os ws (shape_is c) at word points r
