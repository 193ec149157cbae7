-- What a walk over the points knows.
use Rattle.std.proofs.Common.{◌≡◌, ℕ, ◌+◌, ◌*◌, ◌%◌, ◌<◌, ◌≤◌, get_or, sym, ap, ◌∙◌, subst, arith}
use native.Mathlib.Nat.{mul-one, mul-le-mul_left}
use Rattle.sk_weave.specs.Points.{word_of, point_at}
use Rattle.sk_weave.specs.Registry.{Grows, oldest_of}
use Rattle.sk_weave.proofs.Staircase.{word_back}
use Rattle.sk_weave.proofs.Registers.{first_dropped}
use Rattle.sk_clock.specs.declared.view.WordStep.{WordStep}
use Rattle.sk_clock.specs.declared.view.WordStep.TheVariants.{Load}
use Rattle.sk_clock.specs.declared.view.Start.{Start}
use Rattle.sk_clock.specs.declared.view.View.{View}
use Rattle.sk_clock.specs.History.{capacity}
use Rattle.sk_clock.specs.Kept.{cells, now, row_now, Sees, Extends, Looks}
use Rattle.sk_clock.specs.Walks.{nth, StandsAt, FindsOldest, FindsLast}
use Rattle.sk_clock.proofs.Makings.{looks_on, looks_first}
use Rattle.sk_clock.proofs.Ring.{word_big, Shaped, Ringed, grown, longer}
use Rattle.sk_clock.proofs.Reading.{few, oldest_is, was_last, trusted}
use Rattle.sk_clock.proofs.Views.{loaded, loaded_row, step_grows, ringed_now}

-- what stands, stands later
pub still : (v : View) (k word : ℕ) (w : View) → Grows (now v) (now w) → StandsAt v k word → StandsAt w k word
still v k word w g h =
    let more = longer (now v) (now w) g in
    let l = h.there in record {
      there = omega arith;
      word_is = h.word_is ∙ ap word_of (sym (grown (now v) (now w) g k l));
    }

-- low is small
pub low_small : (w : View) → Shaped w.start → Sees w → ((now w).low * w.start.size < 9223372036854775808) × ((now w).low ≤ (now w).low * w.start.size)
low_small w shaped legal =
    let a = ringed_now w shaped legal in
    let l = few w.start (cells w w.seen) a ((now w).low * w.start.size) a.above in
    let some = shaped.size.0 in
    let up : (now w).low * 1 ≤ (now w).low * w.start.size = mul-le-mul_left (now w).low (let o : 1 ≤ w.start.size = omega arith in o) in
    (l, omega (arith, mul-one (now w).low))

-- two loads of low with one answer, and a word read between them at its partition's first place
pub finds_oldest : (v u x w : View) (low word : ℕ) → Shaped w.start → Looks v u → low ≡ (now u).low → (now v).low ≤ low → Extends u (Load ((low * w.start.size) % capacity w.start + 3) word) x → Extends x (Load 2 low) w → FindsOldest v low word w
finds_oldest v u x w low word shaped l is since a b =
    let sx : x.start ≡ w.start = sym b.same.0 in
    let shx : Shaped x.start = subst Shaped (sym sx) shaped in
    let first = step_grows u (Load ((low * w.start.size) % capacity w.start + 3) word) x a in
    let up = first.low in
    let rx : Ringed w.start (cells x x.seen) = subst (λ (s : Start). Ringed s (cells x x.seen)) sx (ringed_now x shx a.legal) in
    let then = step_grows x (Load 2 low) w b in
    let read : word ≡ get_or (row_now x) ((low * w.start.size) % capacity w.start) 0 = loaded_row u ((low * w.start.size) % capacity w.start) word x a in
    let low_now : (now w).low ≡ low = sym (loaded x 2 low w b) in
    let o = oldest_is w.start (cells x x.seen) rx (cells w w.seen) low word low_now then (omega arith) read in
    let more = longer (now x) (now w) then in
    let there = o.0 in record {
      looks = looks_on v x (Load 2 low) w tt (looks_on v u (Load ((low * w.start.size) % capacity w.start + 3) word) x tt l a) b;
      stands = record { there = omega arith; word_is = o.1 ∙ ap word_of (sym (grown (now x) (now w) then (low * w.start.size) o.0)) };
      since = since;
      seen = omega arith;
      low_is = low_now;
      legal = b.legal;
      all_seen = b.all_seen;
    }

-- A step of a walk: the next place was read, and then low, by which the next point was not yet recycled
module _ (u x w : View) (k word next again : ℕ) (shaped : Shaped w.start) (here : StandsAt u k word) (a : Extends u (Load ((k + 1) % capacity w.start + 3) next) x) (b : Extends x (Load 2 again) w) (live : again * w.start.size ≤ k + 1) where
  abbrev step : WordStep
  step = Load ((k + 1) % capacity w.start + 3) next

  sx : x.start ≡ w.start
  sx = sym b.same.0

  rx : Ringed w.start (cells x x.seen)
  rx = subst (λ (s : Start). Ringed s (cells x x.seen)) sx (ringed_now x (subst Shaped (sym sx) shaped) a.legal)

  then : Grows (now x) (now w)
  then = step_grows x (Load 2 again) w b

  at_x : StandsAt x k word
  at_x = still u k word x (step_grows u step x a) here

  read : next ≡ get_or (row_now x) ((k + 1) % capacity w.start) 0
  read = loaded_row u ((k + 1) % capacity w.start) next x a

  low_then : (now w).low * w.start.size ≤ k + 1
  low_then = let e : again * w.start.size ≡ (now w).low * w.start.size = ap (λ (n : ℕ). n * w.start.size) (loaded x 2 again w b) in omega arith

  pub goes_on : word < next → StandsAt w (k + 1) next
  goes_on less =
      let t = trusted w.start shaped (cells x x.seen) (cells w w.seen) k next rx (ringed_now w shaped b.legal) then low_then at_x.there read (let e = at_x.word_is in omega arith) in
      let more = longer (now x) (now w) then in let l = t.0 in
      record { there = omega arith; word_is = t.1 ∙ ap word_of (sym (grown (now x) (now w) then (k + 1) t.0)) }

  pub ends : (v : View) (low : ℕ) → Looks v u → low ≤ (now u).low → (now v).low ≤ low → next ≤ word → FindsLast v low k word next w
  ends v low l seen since less =
      let len = was_last w.start (cells x x.seen) rx (cells w w.seen) k word next (ringed_now w shaped b.legal) then low_then at_x.there at_x.word_is read less in
      let up = (step_grows u step x a).low in record {
        place = x;
        before = looks_on v u step x tt l a;
        later = looks_first x (Load 2 again) w tt b;
        own_there = a.all_seen;
        last = len;
        word_is = at_x.word_is;
        next_is = read ∙ ap (λ (t : Start). get_or (row_now x) ((k + 1) % capacity t) 0) (sym sx);
        seen = omega arith;
        since = since;
        legal = b.legal;
        all_seen = b.all_seen;
      }

-- the bounds of a point's number
pub point_small : (w : View) (k word : ℕ) → Shaped w.start → Sees w → StandsAt w k word → k < 9223372036854775808
point_small w k word shaped legal h = few w.start (cells w w.seen) (ringed_now w shaped legal) k h.there

-- the word that was found has the oldest live point
pub oldest_now : (v : View) (low word : ℕ) (w : View) → Shaped w.start → FindsOldest v low word w → (9223372036854775808 ≤ word) × (point_at word ≡ oldest_of (now w))
oldest_now v low word w shaped f =
    let a = ringed_now w shaped f.legal in
    let k : ℕ = low * w.start.size in
    let there = f.stands.there in
    let is = f.stands.word_is in
    let big = word_big (nth (now w) k) in
    let at : k ≡ (now w).low * (now w).size = λ i. sym f.low_is i * sym a.size_is i in
    (omega arith, ap point_at is ∙ (word_back (nth (now w) k) (a.small k there) ∙ (ap (nth (now w)) at ∙ sym (first_dropped ((now w).low * (now w).size) (now w).points))))
