-- What a walk for two numbers found, and the selection that follows.
use Rattle.std.specs.Prelude.{◌≡◌, ℕ, zero, suc, ◌+◌, ◌-◌, ◌*◌, ◌<◌, ◌≤◌, ◌==◌, ◌&&◌, Bool, true, false, cond, nat_lt, nat_le, List, [], ◌∷◌, ◌++◌, length, get_or, Option, Some, None, Result, Ok, Err, max}
use Rattle.std.proofs.Common.{refl, sym, ap, ◌∙◌, subst, ⊎_elim, arith, le_trans, append_assoc, length-append}
use Rattle.std.proofs.lemmas.List.{append-nil}
use Rattle.std.proofs.lemmas.Bool.{lt-ltb, le-ltb, le-leb, leb-true, and_parts, and_from, cases_Bool, cases_lt, not-true, false≢true}
use Rattle.sk_model.specs.declared.point.Point.{Point}
use Rattle.sk_model.specs.declared.point.Recycled.{Recycled}
use Rattle.sk_weave.specs.declared.answer.Selected.{Selected}
use Rattle.sk_weave.specs.declared.event.Event.{Event}
use Rattle.sk_weave.specs.declared.event.Event.TheVariants.{Append}
use Rattle.sk_weave.specs.Points.{CanFollow, Climbs, Ascends, Staircase, IsSmall, point_at, selection, last_from, first_past, before_b, pick, pick_newest}
use Rattle.sk_weave.specs.Registry.{Regs, Grows, no_point, oldest_of, last_of, is_within, selected}
use Rattle.sk_weave.proofs.Staircase.{word_back, climbs_both, stairs_ascend, selection_follows}
use Rattle.sk_weave.proofs.Registers.{first_dropped}
use Rattle.sk_clock.specs.declared.view.WordStep.{WordStep}
use Rattle.sk_clock.specs.declared.view.WordStep.TheVariants.{Load, Change}
use Rattle.sk_clock.specs.declared.view.Entry.{Entry}
use Rattle.sk_clock.specs.declared.view.Start.{Start}
use Rattle.sk_clock.specs.declared.view.Own.{Own}
use Rattle.sk_clock.specs.declared.view.View.{View}
use Rattle.sk_clock.specs.Paths.{Path, Begins}
use Rattle.sk_clock.specs.Steps.{entry, steps_by, AnyStep, FindsMem, FindsStore, Holds}
use Rattle.sk_clock.specs.History.{Cells, first_cells, cells_after, IsHistory}
use Rattle.sk_clock.specs.Kept.{own_at, with_step, cells, now, Sees, Extends, Looks}
use Rattle.sk_clock.specs.Answers.{GoesOn, changes}
use Rattle.sk_clock.specs.Walks.{nth, StandsAt, FindsLast, Appends}
use Rattle.sk_clock.specs.Selections.{FindsGone, FindsBetween, LoadsStore, LoadsFresh, SelectsAt, select_of}
use Rattle.sk_clock.proofs.Histories.{begins-refl, begins-append, history-left}
use Rattle.sk_clock.proofs.Makings.{looks_then, looks_first, looks_path, begins-on, before_legal, each-append}
use Rattle.sk_clock.proofs.Held.{mem_seen, looks_any, looks_then_any, then-last}
use Rattle.sk_clock.proofs.Ring.{Shaped, Ringed, last_at, longer, ringed, seen_grows}
use Rattle.sk_clock.proofs.Views.{loaded, ringed_now, looks_grow}
use Rattle.sk_clock.proofs.Finds.{last_is, ringed_there, grows_from}

-- points up to one that is not past the two numbers
within_less : (x y : ℕ) (p q : Point) → p.a ≤ q.a → p.b ≤ q.b → is_within x y q ≡ true → is_within x y p ≡ true
within_less x y p q l m e =
    let parts : (nat_le q.a x ≡ true) × (nat_le q.b y ≡ true) = and_parts (nat_le q.a x) (nat_le q.b y) e in
    let la : q.a ≤ x = leb-true q.a x parts.0 in
    let lb : q.b ≤ y = leb-true q.b y parts.1 in
    and_from (nat_le p.a x) (nat_le p.b y) (le-leb p.a x (omega arith)) (le-leb p.b y (omega arith))

-- numbers do not fall along the points
climbs_between : (points : List Point) (i k : ℕ) → Ascends points → i ≤ k → k < length points → ((get_or points i no_point).a ≤ (get_or points k no_point).a) × ((get_or points i no_point).b ≤ (get_or points k no_point).b)
climbs_between [] i k h le l = absurd (omega arith)
climbs_between (p ∷ qs) zero k h le l = climbs_both p qs h k no_point l
climbs_between (p ∷ qs) (suc i) zero h le l = absurd (omega arith)
climbs_between (p ∷ []) (suc i) (suc k) h le l = absurd (omega arith)
climbs_between (p ∷ q ∷ qs) (suc i) (suc k) h le l = climbs_between (q ∷ qs) i k h.1 (omega arith) (omega arith)

first_is : (a : ℕ) (ps : List Point) (k : ℕ) → k < length ps → a < (get_or ps k no_point).a → ((i : ℕ) → i < k → (get_or ps i no_point).a ≤ a) → first_past a ps ≡ Some (get_or ps k no_point)
first_is a [] k l past below = absurd (omega arith)
first_is a (p ∷ ps) zero l past below = rw (lt-ltb a p.a past) refl
first_is a (p ∷ ps) (suc k) l past below = rw (le-ltb a p.a (below 0 (omega arith))) (first_is a ps k (omega arith) past (λ i h. below (suc i) (omega arith)))

-- the answers of the rule
gone : (r : Regs) (a store : ℕ) (p : Point) → p ≡ oldest_of r → a < p.a → Err (record { a = a; oldest = p }) ≡ selected r a store
gone r a store p is past = let t : nat_lt a (oldest_of r).a ≡ true = subst (λ (q : Point). nat_lt a q.a ≡ true) is (lt-ltb a p.a past) in rw (t, is) refl

picks_older : (points : List Point) (a store : ℕ) (q : Point) → first_past a points ≡ Some q → pick points a store ≡ record { b = before_b q; made = false }
picks_older [] a store q e = absurd (let f : None ≡ Some q = e in cc)
picks_older (p ∷ qs) a store q e = rw e refl

older : (r : Regs) (a store : ℕ) (q : Point) → first_past a r.points ≡ Some q → (oldest_of r).a ≤ a → Ok (record { b = before_b q; made = false }) ≡ selected r a store
older r a store q first live = let f : nat_lt a (oldest_of r).a ≡ false = le-ltb a (oldest_of r).a live in rw f (ap Ok (sym (picks_older r.points a store q first)))

none_past : (p : Point) (qs : List Point) (a : ℕ) → Climbs p qs → (last_from p qs).a ≤ a → (p.a ≤ a) × (first_past a (p ∷ qs) ≡ None)
none_past p [] a h l = (l, rw (le-ltb a p.a l) refl)
none_past p (q ∷ qs) a h l =
    let more = none_past q qs a h.1 l in
    let up = h.0.a_stays in
    let here : p.a ≤ a = (let m = more.0 in omega arith) in
    (here, rw (le-ltb a p.a here) more.1)

picks_newest : (points : List Point) (a store : ℕ) → 0 < length points → Staircase points → (last_of points).a ≤ a → pick points a store ≡ pick_newest (last_of points) a store
picks_newest [] a store some h l = absurd (omega arith)
picks_newest (p ∷ qs) a store some h l = let n = (none_past p qs a h.1 l).1 in rw n refl

module _ (s : Start) (c : Cells) (ring : Ringed s c) where
  pub upwards : (i k : ℕ) → i ≤ k → k < length c.regs.points → ((nth c.regs i).a ≤ (nth c.regs k).a) × ((nth c.regs i).b ≤ (nth c.regs k).b)
  upwards i k l h = climbs_between c.regs.points i k (stairs_ascend c.regs.points ring.sound.stairs) l h

  pub within_below : (x y i k : ℕ) → i ≤ k → k < length c.regs.points → is_within x y (nth c.regs k) ≡ true → is_within x y (nth c.regs i) ≡ true
  within_below x y i k l h e = let up = upwards i k l h in within_less x y (nth c.regs i) (nth c.regs k) up.0 up.1 e

  pub past_above : (x y i k : ℕ) → i ≤ k → k < length c.regs.points → is_within x y (nth c.regs i) ≡ false → is_within x y (nth c.regs k) ≡ false
  past_above x y i k l h f = ⊎_elim
      (λ (t : is_within x y (nth c.regs k) ≡ true). absurd (false≢true (sym f ∙ within_below x y i k l h t)))
      (λ (g : is_within x y (nth c.regs k) ≡ false). g)
      (cases_Bool (is_within x y (nth c.regs k)))

  pub oldest_nth : oldest_of c.regs ≡ nth c.regs (c.regs.low * s.size)
  oldest_nth = first_dropped (c.regs.low * c.regs.size) c.regs.points ∙ (λ i. nth c.regs (c.regs.low * ring.size_is i))

  oldest_below : (oldest_of c.regs).a ≤ (last_of c.regs.points).a
  oldest_below =
      let n : ℕ = length c.regs.points - 1 in
      let above = ring.above in
      let last : nth c.regs n ≡ last_of c.regs.points = last_at c.regs.points n (omega arith) in
      subst (λ (x : Point × Point). x.0.a ≤ x.1.a) (λ i. (sym oldest_nth i, last i)) (upwards (c.regs.low * s.size) n (omega arith) (omega arith)).0

  -- where the last point is not past the anchor
  newest : (a store : ℕ) → (last_of c.regs.points).a ≤ a → Ok (pick_newest (last_of c.regs.points) a store) ≡ selected c.regs a store
  newest a store l =
      let f : nat_lt a (oldest_of c.regs).a ≡ false = le-ltb a (oldest_of c.regs).a (le_trans oldest_below l) in
      let above = ring.above in
      rw f (ap Ok (sym (picks_newest c.regs.points a store (omega arith) ring.sound.stairs l)))

-- what the numbers of a point tell of its anchor
past_anchor : (a : ℕ) (q : Point) → q.b ≤ 2147483647 → is_within a 2147483647 q ≡ false → a < q.a
past_anchor a q l e = ⊎_elim
    (λ (m : a < q.a). m)
    (λ (m : q.a ≤ a). absurd (false≢true (sym e ∙ and_from (nat_le q.a a) (nat_le q.b 2147483647) (le-leb q.a a m) (le-leb q.b 2147483647 l))))
    (cases_lt a q.a)

pub anchor_upto : (a y : ℕ) (p : Point) → is_within a y p ≡ true → p.a ≤ a
anchor_upto a y p e = leb-true p.a a (and_parts (nat_le p.a a) (nat_le p.b y) e).0

pub point_is : (w : View) (k word : ℕ) → Shaped w.start → Sees w → StandsAt w k word → point_at word ≡ nth (now w) k
point_is w k word shaped legal h = ap point_at h.word_is ∙ word_back (nth (now w) k) ((ringed_now w shaped legal).small k h.there)

-- an S number that was loaded when k points and one more had been made, which are all points of the place
same_points : (r t : Regs) → Grows r t → length t.points ≤ length r.points → r.points ≡ t.points
same_points r t g l = go g.more g.points
  where
    go : (rest : List Point) → t.points ≡ r.points ++ rest → r.points ≡ t.points
    go [] e = sym (e ∙ append-nil r.points)
    go (z ∷ zs) e = absurd (let m : length t.points ≡ length (r.points ++ z ∷ zs) = ap length e in let k = length-append r.points (z ∷ zs) in omega arith)

pub loads_store : (v y : View) (store : ℕ) → (e : Extends v (Load 1 store) y) → (place : List Entry) → Begins y.seen place → LoadsStore v store place
loads_store v y store e place b = record {
  before = v.seen ++ e.between;
  since = (e.between, refl);
  then = subst (λ (l : List Entry). Begins l place) e.seen b;
}

loads_fresh : (v y : View) (store k : ℕ) → (e : Extends v (Load 1 store) y) → (place : List Entry) → Begins y.seen place → IsHistory v.start (first_cells v.start) place → k < length (now v).points → length (cells v place).regs.points ≡ k + 1 → LoadsFresh v store place
unfolding loads_store
loads_fresh v y store k e place b legal there last =
    let before : List Entry = v.seen ++ e.between in
    let one : List Entry = entry v.own.path (Load 1 store) ∷ [] in
    let begins : Begins before place = begins-on before (before ++ one) place (one, refl) (subst (λ (l : List Entry). Begins l place) e.seen b) in
    let legal_before : IsHistory v.start (first_cells v.start) before = history-left v.start (first_cells v.start) before begins.0 (subst (IsHistory v.start (first_cells v.start)) (sym begins.1) legal) in
    let up = longer (now v) (cells v before).regs (seen_grows v.start v.seen before (e.between, refl) legal_before) in
    record {
      loads = loads_store v y store e place b;
      made = same_points (cells v before).regs (cells v place).regs (seen_grows v.start before place begins legal) (omega arith);
    }

-- a selection that makes no point
pub selects : (v y w : View) (a store i n k : ℕ) (last : Point) (shaped : Shaped w.start) → (e : Extends v (Load 1 store) y) → (g : Extends y (Load i n) w) → length (now w).points ≡ k + 1 → last ≡ last_of (now w).points → k < length (now v).points → last.a ≤ a → (pick_newest last a store).made ≡ false
    → SelectsAt v a (Ok (pick_newest last a store)) w
selects v y w a store i n k last shaped e g count is there below none =
    let s : Selected = pick_newest last a store in
    let later : Looks y w = looks_first y (Load i n) w tt g in
    let all : Looks v w = looks_then v y w (looks_first v (Load 1 store) y tt e) later in
    let l : (last_of (now w).points).a ≤ a = subst (λ (p : Point). p.a ≤ a) is below in
    let right : Ok s ≡ selected (now w) a store = ap (λ (p : Point). Ok (pick_newest p a store)) is ∙ newest w.start (cells w w.seen) (ringed_now w shaped g.legal) a store l in
    let legal : IsHistory v.start (first_cells v.start) w.seen = subst (λ (z : Start). IsHistory z (first_cells z) w.seen) all.same.0 g.legal in
    let many : length (cells v w.seen).regs.points ≡ k + 1 = subst (λ (z : Start). length (cells_after z (first_cells z) w.seen).regs.points ≡ k + 1) all.same.0 count in
    let change : select_of a (Ok s) ≡ None = ap (λ (b : Bool). cond b (Some (Append (selection a s.b))) None) none in
    record {
      store = store;
      at = record {
        place = w.seen;
        since = all.seen;
        answer = subst (λ (z : Start). Ok s ≡ selected (cells_after z (first_cells z) w.seen).regs a store) all.same.0 right;
        goes_on = subst (λ (o : Option Event). GoesOn o w.seen w) (sym change) (begins-refl w.seen);
        looks = all.steps;
        are_looks = all.are_looks;
        own = all.own ∙ ap (λ (es : List WordStep). own_at v.own.path v.own.splits (v.own.steps ++ es)) (sym (append-nil all.steps) ∙ ap (λ (o : Option Event). all.steps ++ changes o) (sym change));
        all_seen = g.all_seen;
        same = all.same;
      };
      fresh = λ _. loads_fresh v y store k e w.seen later.seen legal there many;
    }

-- a selection that makes one
pub selects_new : (v y w x : View) (a store k : ℕ) (last : Point) (shaped : Shaped w.start) → (e : Extends v (Load 1 store) y) → Looks y w → k < length (now v).points → last.a ≤ a → (pick_newest last a store).made ≡ true
    → Appends w k (selection a (pick_newest last a store).b) last x → SelectsAt v a (Ok (pick_newest last a store)) x
selects_new v y w x a store k last shaped e later there below made h =
    let s : Selected = pick_newest last a store in
    let p : Point = selection a s.b in
    let t = h.extends in
    let place : List Entry = w.seen ++ t.between in
    let all : Looks v w = looks_then v y w (looks_first v (Load 1 store) y tt e) later in
    let ends = begins-append y.seen w.seen t.between later.seen in
    let legal_w : IsHistory w.start (first_cells w.start) place = subst (λ (z : Start). IsHistory z (first_cells z) place) t.same.0 (before_legal w (Change (Append p)) x t) in
    let ring : Ringed w.start (cells w place) = ringed w.start shaped place legal_w in
    let l : (last_of (cells w place).regs.points).a ≤ a = subst (λ (q : Point). q.a ≤ a) (sym h.last_is) below in
    let right : Ok s ≡ selected (cells w place).regs a store = ap (λ (q : Point). Ok (pick_newest q a store)) (sym h.last_is) ∙ newest w.start (cells w place) ring a store l in
    let change : select_of a (Ok s) ≡ Some (Append p) = ap (λ (b : Bool). cond b (Some (Append (selection a s.b))) None) made in
    record {
      store = store;
      at = record {
        place = place;
        since = begins-append v.seen w.seen t.between all.seen;
        answer = subst (λ (z : Start). Ok s ≡ selected (cells_after z (first_cells z) place).regs a store) all.same.0 right;
        goes_on = subst (λ (o : Option Event). GoesOn o place x) (sym change) (t.seen ∙ ap (λ (q : Path). place ++ entry q (Change (Append p)) ∷ []) (sym (ap (λ (o : Own). o.path) t.own)));
        looks = all.steps;
        are_looks = all.are_looks;
        own = t.own ∙ (ap (λ (o : Own). with_step o (Change (Append p))) all.own ∙ ap (λ (es : List WordStep). own_at v.own.path v.own.splits es) (append_assoc v.own.steps all.steps (Change (Append p) ∷ []) ∙ ap (λ (o : Option Event). v.own.steps ++ (all.steps ++ changes o)) (sym change)));
        all_seen = t.all_seen;
        same = (t.same.0 ∙ all.same.0, t.same.1 ∙ all.same.1, t.same.2 ∙ all.same.2);
      };
      fresh = λ _. loads_fresh v y store k e place ends
          (subst (λ (z : Start). IsHistory z (first_cells z) place) all.same.0 legal_w) there
          (subst (λ (z : Start). length (cells_after z (first_cells z) place).regs.points ≡ k + 1) all.same.0 h.count_is);
    }

-- an answer that needs no S number
selects_past : (v w : View) (a : ℕ) (result : Result Selected Recycled) → Looks v w → steps_by w.own.path w.seen ≡ w.own.steps → result ≡ selected (now w) a 0 → select_of a result ≡ None → (first_past a (now w).points ≡ None → ⊥) → SelectsAt v a result w
selects_past v w a result all own right change past = record {
  store = 0;
  at = record {
    place = w.seen;
    since = all.seen;
    answer = subst (λ (z : Start). result ≡ selected (cells_after z (first_cells z) w.seen).regs a 0) all.same.0 right;
    goes_on = subst (λ (o : Option Event). GoesOn o w.seen w) (sym change) (begins-refl w.seen);
    looks = all.steps;
    are_looks = all.are_looks;
    own = all.own ∙ ap (λ (es : List WordStep). own_at v.own.path v.own.splits (v.own.steps ++ es)) (sym (append-nil all.steps) ∙ ap (λ (o : Option Event). all.steps ++ changes o) (sym change));
    all_seen = own;
    same = all.same;
  };
  fresh = λ none. absurd (past (subst (λ (z : Start). first_past a (cells_after z (first_cells z) w.seen).regs.points ≡ None) (sym all.same.0) none));
}

some_past : (a : ℕ) (p : Point) (points : List Point) → first_past a points ≡ Some p → first_past a points ≡ None → ⊥
some_past a p points e f = let g : Some p ≡ None = sym e ∙ f in cc

-- where the oldest live point is past the anchor, some point is
oldest_past : (a k : ℕ) (points : List Point) → a < (get_or points k no_point).a → first_past a points ≡ None → ⊥
oldest_past a k [] l e = absurd (omega arith)
oldest_past a zero (p ∷ ps) l e = some_past a p (p ∷ ps) (rw (lt-ltb a p.a l) refl) e
oldest_past a (suc k) (p ∷ ps) l e = ⊎_elim
    (λ (t : nat_lt a p.a ≡ true). some_past a p (p ∷ ps) (rw t refl) e)
    (λ (f : nat_lt a p.a ≡ false). oldest_past a k ps l (rw f at e))
    (cases_Bool (nat_lt a p.a))

pub answers_older : (v w : View) (a : ℕ) (p q : Point) → Shaped w.start → FindsBetween v a 2147483647 p q w → SelectsAt v a (Ok (record { b = before_b q; made = false })) w
answers_older v w a p q shaped f =
    let ring = ringed_now w shaped f.legal in
    let here : is_within a 2147483647 (nth (now w) f.at) ≡ true = ap (is_within a 2147483647) (sym f.p_is) ∙ f.inside in
    let there = f.there in
    let b : q.b ≤ 2147483647 = subst (λ (z : Point). z.b ≤ 2147483647) (sym f.q_is) (ring.small (f.at + 1) there).b in
    let past : a < (nth (now w) (f.at + 1)).a = subst (λ (z : Point). a < z.a) f.q_is (past_anchor a q b f.past) in
    let below : (i : ℕ) → i ≤ f.at → (nth (now w) i).a ≤ a = λ i l. anchor_upto a 2147483647 (nth (now w) i) (within_below w.start (cells w w.seen) ring a 2147483647 i f.at l (omega arith) here) in
    let first : first_past a (now w).points ≡ Some q = first_is a (now w).points (f.at + 1) there past (λ i l. below i (omega arith)) ∙ ap Some (sym f.q_is) in
    let live : (oldest_of (now w)).a ≤ a = subst (λ (z : Point). z.a ≤ a) (sym (oldest_nth w.start (cells w w.seen) ring)) (below ((now w).low * w.start.size) f.live) in
    selects_past v w a (Ok (record { b = before_b q; made = false })) f.looks f.all_seen (older (now w) a 0 q first live) refl (some_past a q (now w).points first)

pub answers_recycled : (v w : View) (a : ℕ) (p : Point) → Shaped w.start → FindsGone v a 2147483647 p w → SelectsAt v a (Err (record { a = a; oldest = p })) w
answers_recycled v w a p shaped f =
    let ring = ringed_now w shaped f.legal in
    let is : p ≡ nth (now w) ((now w).low * w.start.size) = f.oldest ∙ oldest_nth w.start (cells w w.seen) ring in
    let b : p.b ≤ 2147483647 = subst (λ (z : Point). z.b ≤ 2147483647) (sym is) (ring.small ((now w).low * w.start.size) ring.above).b in
    let past : a < p.a = past_anchor a p b f.past in
    selects_past v w a (Err (record { a = a; oldest = p })) f.looks f.all_seen (gone (now w) a 0 p f.oldest past) refl
    (oldest_past a ((now w).low * w.start.size) (now w).points (subst (λ (q : Point). a < q.a) is past))

pub loads_from : (v u : View) (store : ℕ) (place : List Entry) → Looks v u → LoadsStore u store place → LoadsStore v store place
loads_from v u store place l f = record {
  before = f.before;
  since = begins-on v.seen u.seen f.before l.seen f.since;
  then = subst (λ (p : Path). Begins (f.before ++ entry p (Load 1 store) ∷ []) place) (looks_path v u l) f.then;
}

-- a selection that a pass makes after looking is one from before
pub selects_from : (v u w : View) (a : ℕ) (result : Result Selected Recycled) → Looks v u → SelectsAt u a result w → SelectsAt v a result w
selects_from v u w a result l s =
    let t = s.at in
    record {
      store = s.store;
      at = record {
        place = t.place;
        since = begins-on v.seen u.seen t.place l.seen t.since;
        answer = subst (λ (z : Start). result ≡ selected (cells_after z (first_cells z) t.place).regs a s.store) l.same.0 t.answer;
        goes_on = t.goes_on;
        looks = l.steps ++ t.looks;
        are_looks = each-append _ l.steps t.looks l.are_looks t.are_looks;
        own = t.own ∙ (ap (λ (o : Own). own_at o.path o.splits (o.steps ++ (t.looks ++ changes (select_of a result)))) l.own
            ∙ ap (λ (es : List WordStep). own_at v.own.path v.own.splits es) (append_assoc v.own.steps l.steps (t.looks ++ changes (select_of a result))
            ∙ ap (λ (es : List WordStep). v.own.steps ++ es) (sym (append_assoc l.steps t.looks (changes (select_of a result))))));
        all_seen = t.all_seen;
        same = (t.same.0 ∙ l.same.0, t.same.1 ∙ l.same.1, t.same.2 ∙ l.same.2);
      };
      fresh = λ none.
          let f = s.fresh (subst (λ (z : Start). first_past a (cells_after z (first_cells z) t.place).regs.points ≡ None) (sym l.same.0) none) in
          record {
            loads = record {
              before = f.loads.before;
              since = begins-on v.seen u.seen f.loads.before l.seen f.loads.since;
              then = subst (λ (p : Path). Begins (f.loads.before ++ entry p (Load 1 s.store) ∷ []) t.place) (looks_path v u l) f.loads.then;
            };
            made = subst (λ (z : Start). (cells_after z (first_cells z) f.loads.before).regs.points ≡ (cells_after z (first_cells z) t.place).regs.points) l.same.0 f.made;
          };
    }

-- what a pass knows that found an M number, and after that loaded an S number
pub pair_drawn : (v y w : View) (a store : ℕ) → Extends v (Load 1 store) y → Looks y w → Sees w → steps_by w.own.path w.seen ≡ w.own.steps → AnyStep (FindsMem a) v.own.steps → (a ≤ (now w).mem) × (store ≤ (now w).store)
pair_drawn v y w a store e l legal own begun =
    let m = mem_seen w a legal own (looks_any (FindsMem a) v w (looks_then v y w (looks_first v (Load 1 store) y tt e) l) begun) in
    let is : store ≡ (now y).store = loaded v 1 store y e in
    let up = (looks_grow y w l legal).store in
    (m, omega arith)

pub pair_held : (v y w : View) (a b store : ℕ) → Extends v (Load 1 store) y → Looks y w → AnyStep (FindsMem a) v.own.steps → store ≤ b → Holds (selection a b) w.own.steps
pair_held v y w a b store e l begun less =
    looks_then_any (FindsMem a) (FindsStore false b) y w l
    (subst (Holds (selection a b)) (sym (ap (λ (o : Own). o.steps) e.own)) (then-last (FindsMem a) (FindsStore false b) v.own.steps (Load 1 store) begun (refl, less)))

pub pair_small : (w : View) (a b : ℕ) → Shaped w.start → Sees w → a ≤ (now w).mem → b ≤ (now w).store → IsSmall (selection a b)
pair_small w a b shaped legal la lb =
    let sound = (ringed_now w shaped legal).sound in
    let top = sound.mem in let end = sound.store in
    record { a = omega arith; b = omega arith }

-- the last point's number is not past the counter
pub last_drawn : (u w : View) (low k word next : ℕ) → Shaped w.start → FindsLast u low k word next w → (point_at word).b ≤ (now w).store
last_drawn u w low k word next shaped f =
    let on = (grows_from u w low k word next shaped f).store in
    le_trans (subst (λ (q : Point). q.b ≤ (now f.place).store) (sym (last_is u w low k word next shaped f)) (ringed_there u w low k word next shaped f).sound.b_drawn) on

-- how many points there were when the last was found
pub many_then : (u w : View) (low k word next : ℕ) → Shaped w.start → FindsLast u low k word next w → k < length (now w).points
many_then u w low k word next shaped f = let l = f.last in let more = longer (now f.place) (now w) (grows_from u w low k word next shaped f) in omega arith

pub upto_max : (m n p : ℕ) → m ≤ p → n ≤ p → max m n ≤ p
upto_max m n p l k = omega arith

pub newest_follows : (p : Point) (a store : ℕ) → p.a ≤ a → (pick_newest p a store).made ≡ true → CanFollow p (selection a (pick_newest p a store).b)
newest_follows p a store l made = selection_follows p a store l (not-true ((a == p.a) && (max p.b store == p.b)) made)
