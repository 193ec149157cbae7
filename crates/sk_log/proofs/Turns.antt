-- A turn looks at nothing behind what it reaches.
use Rattle.std.proofs.Common.{◌≡◌, ◌≢◌, ◌⊎◌, ℕ, zero, suc, ◌+◌, ◌≤◌, ◌<◌, List, length, take, drop, get_or, Option, Some, None, Result, Ok, refl, sym, ap, subst, ◌∙◌, arith, inl, inr, length-take}
use Rattle.std.specs.Int.{w32}
use Rattle.std.specs.List.{filter}
use Rattle.std.specs.Prelude.{◌==◌}
use Rattle.std.proofs.lemmas.Bool.{ltb-false, le-ltb, leb-false, lt-leb, eqb-true, eqb-false, eq-eqb, ne_eqb, or_parts}
use Rattle.std.proofs.lemmas.List.{take-take, get_or-take}
use Rattle.sk_codec.specs.declared.fault.Fault.{Fault}
use Rattle.sk_model.specs.declared.point.Point.{Point}
use Rattle.sk_log.specs.Calls.{store_file, anchor_file}
use Rattle.sk_codec.specs.Reading.{Rest, number_at}
use Rattle.sk_log.specs.declared.logged.Logged.{Logged}
use Rattle.sk_log.specs.declared.logged.Head.{Head}
use Rattle.sk_log.specs.Groups.{first_at, second_at, end_at, head_at, body_at, halves, is_cross}
use Rattle.sk_log.specs.Stores.{LogPosition, range_of, body_of, stored_of, group_of, group_at, next_gate, behind_gate, turn, turns}
use Rattle.sk_codec.proofs.Parts.{bind_ok, guard_ok, ok_is}
use Rattle.sk_log.proofs.Tools.{chosen_some, chosen_none}

-- the same up to both places, which are there
pub record Agrees (end gate : ℕ) (one two one' two' : List ℕ) : Type 0 where
  pub store : take end one' ≡ take end one
  pub anchor : take gate two' ≡ take gate two
  pub ended : end ≤ length one
  pub gated : gate ≤ length two

front_same : (n m : ℕ) (xs ys : List ℕ) → n ≤ m → take m ys ≡ take m xs → take n ys ≡ take n xs
front_same n m xs ys le same = sym (take-take n m ys le) ∙ ap (λ (l : List ℕ). take n l) same ∙ take-take n m xs le

pub as_long : (m : ℕ) (xs ys : List ℕ) → take m ys ≡ take m xs → m ≤ length xs → m ≤ length ys
as_long m xs ys same le = omega (arith, length-take m xs, length-take m ys, ap (λ (l : List ℕ). length l) same)

pub agrees_before : (e g end gate : ℕ) (one two one' two' : List ℕ) → e ≤ end → g ≤ gate → Agrees end gate one two one' two' → Agrees e g one two one' two'
agrees_before e g end gate one two one' two' le-e le-g same = record {
  store = front_same e end one one' le-e same.store;
  anchor = front_same g gate two two' le-g same.anchor;
  ended = omega (arith, same.ended);
  gated = omega (arith, same.gated);
}

-- a head's end does not lie before the last one
head_end : (cut : Point) (end : ℕ) (rest : Rest) (x : Head × Rest) → head_at cut end rest ≡ Ok x → end ≤ x.0.end
unfolding head_at end_at
head_end cut end rest x e =
    let a = bind_ok (first_at cut rest) _ _ e in
    let b = bind_ok (second_at cut a.0.0 a.0.1) _ _ a.2 in
    let to = bind_ok (end_at end b.0.1) _ _ b.2 in
    let n = bind_ok (number_at w32 b.0.1) _ _ to.1 in
    let g = guard_ok _ _ _ _ n.2 in
    let le : end ≤ n.0.0 = ltb-false _ _ g.0 in
    let is : n.0.0 ≡ to.0.0 = ap (λ (p : ℕ × Rest). p.0) (ok_is _ _ g.1) in
    let was : to.0.0 ≡ x.0.end = ap (λ (p : Head × Rest). p.0.end) (ok_is _ _ to.2) in
    omega (arith, le, is, was)

body_end : (s : LogPosition) (next : ℕ) (bytes : List ℕ) (x : Head × List Logged) → body_of s next bytes ≡ Ok x → s.end ≤ x.0.end
unfolding body_of
body_end s next bytes x e =
    let h = bind_ok (head_at s.cut s.end (record { file = anchor_file s.set; place = s.gate + 5; bytes = bytes })) _ _ e in
    let m = bind_ok (body_at s.catalog s.cut.a h.0.0.cut.a next h.0.1) _ _ h.2 in
    let is : h.0.0.end ≡ x.0.end = ap (λ (p : Head × List Logged). p.0.end) (ok_is _ _ m.2) in
    let le = head_end _ _ _ _ h.1 in
    omega (arith, le, is)

-- what a group that was read says of its places
pub record Went (one two : List ℕ) (s u : LogPosition) (next : ℕ) : Type 0 where
  pub body : Head × List Logged
  pub store : List Logged
  pub is_body : body_of s next (range_of two (s.gate + 5) next) ≡ Ok body
  pub is_store : stored_of s body.0 (range_of one s.end body.0.end) ≡ Ok store
  pub is_group : group_of s body.0 body.1 store next ≡ Ok u
  pub here : next ≤ length two
  pub there : body.0.end ≤ length one

pub went : (one two : List ℕ) (s u : LogPosition) (next : ℕ) → group_at one two s next ≡ Ok u → Went one two s u next
unfolding group_at
went one two s u next e =
    let body = bind_ok (body_of s next (range_of two (s.gate + 5) next)) _ _ e in
    let store = bind_ok (stored_of s body.0.0 (range_of one s.end body.0.0.end)) _ _ body.2 in
    let g = guard_ok _ _ _ _ store.2 in
    let both = or_parts _ _ g.0 in
    record { body = body.0; store = store.0; is_body = body.1; is_store = store.1; is_group = g.1; here = ltb-false _ _ both.0; there = ltb-false _ _ both.1 }

pub goes : (one two : List ℕ) (s u : LogPosition) (next : ℕ) → Went one two s u next → group_at one two s next ≡ Ok u
unfolding group_at
goes one two s u next w = rw (w.is_body, w.is_store, le-ltb _ _ w.here, le-ltb _ _ w.there) w.is_group

pub record At (s u : LogPosition) (head : Head) (next : ℕ) : Type 0 where
  pub end : u.end ≡ head.end
  pub gate : u.gate ≡ next
  pub set : u.set ≡ s.set
  pub catalog : u.catalog ≡ s.catalog

pub group_is : (s u : LogPosition) (head : Head) (mem store : List Logged) (next : ℕ) → group_of s head mem store next ≡ Ok u → At s u head next
unfolding group_of
group_is s u head mem store next e =
    let both = bind_ok (halves (store_file s.set) (anchor_file s.set) (filter is_cross store) (filter is_cross mem)) _ _ e in
    let is = ok_is _ _ both.2 in
    record { end = ap (λ (r : LogPosition). r.end) (sym is); gate = ap (λ (r : LogPosition). r.gate) (sym is); set = ap (λ (r : LogPosition). r.set) (sym is); catalog = ap (λ (r : LogPosition). r.catalog) (sym is) }

-- the same group, of bytes that agree so far
group_same : (one two one' two' : List ℕ) (s u : LogPosition) (next : ℕ) → Agrees u.end u.gate one two one' two' → group_at one two s next ≡ Ok u → group_at one' two' s next ≡ Ok u
group_same one two one' two' s u next same e =
    let w = went one two s u next e in
    let is = group_is s u w.body.0 w.body.1 w.store next w.is_group in
    let a : take next two' ≡ take next two = subst (λ (k : ℕ). take k two' ≡ take k two) is.gate same.anchor in
    let b : take w.body.0.end one' ≡ take w.body.0.end one = subst (λ (k : ℕ). take k one' ≡ take k one) is.end same.store in
    goes one' two' s u next (record {
      body = w.body;
      store = w.store;
      is_body = ap (λ (l : List ℕ). body_of s next (drop (s.gate + 5) l)) a ∙ w.is_body;
      is_store = ap (λ (l : List ℕ). stored_of s w.body.0 (drop s.end l)) b ∙ w.is_store;
      is_group = w.is_group;
      here = as_long next two two' a w.here;
      there = as_long w.body.0.end one one' b w.there;
    })

-- a turn that went on
pub record Turned (one two : List ℕ) (s u : LogPosition) : Type 0 where
  pub inside : s.gate < length two
  pub opened : get_or two s.gate 0 ≡ 1
  pub next : ℕ
  pub is_next : next_gate s.set s.gate (range_of two (s.gate + 1) (s.gate + 5)) ≡ Ok next
  pub is_group : group_at one two s next ≡ Ok u

behind : (one two : List ℕ) (s u : LogPosition) → behind_gate one two s ≡ Ok u
    → (next : ℕ) × (next_gate s.set s.gate (range_of two (s.gate + 1) (s.gate + 5)) ≡ Ok next) × (group_at one two s next ≡ Ok u)
unfolding behind_gate
behind one two s u e = bind_ok (next_gate s.set s.gate (range_of two (s.gate + 1) (s.gate + 5))) _ _ e

behind_is : (one two : List ℕ) (s u : LogPosition) (next : ℕ) → next_gate s.set s.gate (range_of two (s.gate + 1) (s.gate + 5)) ≡ Ok next → group_at one two s next ≡ Ok u → behind_gate one two s ≡ Ok u
unfolding behind_gate
behind_is one two s u next is_next is_group = rw (is_next, is_group) refl

pub turned : (one two : List ℕ) (s u : LogPosition) → turn one two s ≡ Ok (Some u) → Turned one two s u
unfolding turn
turned one two s u e =
    let g = guard_ok _ _ _ _ e in
    let o = chosen_some (get_or two s.gate 0 == 1) (behind_gate one two s) _ g.1 in
    let n = behind one two s u o.1 in
    record {
      inside = leb-false _ _ g.0;
      opened = eqb-true _ _ o.0;
      next = n.0;
      is_next = n.1;
      is_group = n.2;
    }

pub turns_on : (one two : List ℕ) (s u : LogPosition) → Turned one two s u → turn one two s ≡ Ok (Some u)
unfolding turn
turns_on one two s u t = rw (lt-leb _ _ t.inside, eq-eqb _ _ t.opened, behind_is one two s u t.next t.is_next t.is_group) refl

next_past : (s : LogPosition) (bytes : List ℕ) (next : ℕ) → next_gate s.set s.gate bytes ≡ Ok next → s.gate + 5 ≤ next
unfolding next_gate
next_past s bytes next e =
    let n = bind_ok (number_at w32 (record { file = anchor_file s.set; place = s.gate + 1; bytes = bytes })) _ _ e in
    let g = guard_ok _ _ _ _ n.2 in
    let is : s.gate + 5 + n.0.0 ≡ next = ok_is _ _ g.1 in
    let le : s.gate + 5 ≤ s.gate + 5 + n.0.0 = omega arith in
    subst (λ (k : ℕ). s.gate + 5 ≤ k) is le

-- its places
pub record Places (one two : List ℕ) (s u : LogPosition) : Type 0 where
  pub gate : s.gate + 5 ≤ u.gate
  pub end : s.end ≤ u.end
  pub gated : u.gate ≤ length two
  pub ended : u.end ≤ length one
  pub set : u.set ≡ s.set
  pub catalog : u.catalog ≡ s.catalog

pub places : (one two : List ℕ) (s u : LogPosition) → Turned one two s u → Places one two s u
places one two s u t =
    let w = went one two s u t.next t.is_group in
    let is = group_is s u w.body.0 w.body.1 w.store t.next w.is_group in
    let le = body_end s t.next _ w.body w.is_body in
    let past = next_past s _ t.next t.is_next in
    record {
      gate = omega (arith, past, is.gate);
      end = omega (arith, le, is.end);
      gated = omega (arith, w.here, is.gate);
      ended = omega (arith, w.there, is.end);
      set = is.set;
      catalog = is.catalog;
    }

-- the same turn, of bytes that agree so far
pub turned_same : (one two one' two' : List ℕ) (s u : LogPosition) → Agrees u.end u.gate one two one' two' → Turned one two s u → Turned one' two' s u
turned_same one two one' two' s u same t =
    let p = places one two s u t in
    let five : take (s.gate + 5) two' ≡ take (s.gate + 5) two = front_same (s.gate + 5) u.gate two two' p.gate same.anchor in
    let one_more : take (s.gate + 1) two' ≡ take (s.gate + 1) two = front_same (s.gate + 1) u.gate two two' (omega (arith, p.gate)) same.anchor in
    let long = as_long u.gate two two' same.anchor same.gated in
    let byte : get_or two' s.gate 0 ≡ get_or two s.gate 0 =
    sym (get_or-take (s.gate + 1) two' s.gate 0 (omega arith)) ∙ ap (λ (l : List ℕ). get_or l s.gate 0) one_more ∙ get_or-take (s.gate + 1) two s.gate 0 (omega arith) in
    record {
      inside = omega (arith, long, p.gate);
      opened = byte ∙ t.opened;
      next = t.next;
      is_next = ap (λ (l : List ℕ). next_gate s.set s.gate (drop (s.gate + 1) l)) five ∙ t.is_next;
      is_group = group_same one two one' two' s u t.next same t.is_group;
    }

-- what the last of several turns reached
pub record Lies (one two : List ℕ) (s t : LogPosition) : Type 0 where
  pub gate : s.gate ≤ t.gate
  pub end : s.end ≤ t.end
  pub inside : t.gate < length two
  pub ended : s.end ≤ length one → t.end ≤ length one
  pub shut : get_or two t.gate 0 ≢ 1
  pub set : t.set ≡ s.set
  pub catalog : t.catalog ≡ s.catalog

pub stopped : (one two : List ℕ) (s : LogPosition) → turn one two s ≡ Ok None → (s.gate < length two) × (get_or two s.gate 0 ≢ 1)
unfolding turn
stopped one two s e =
    let g = guard_ok _ _ _ _ e in
    let shut = chosen_none (get_or two s.gate 0 == 1) (behind_gate one two s) g.1 in
    (leb-false _ _ g.0, λ is. absurd (eqb-false _ _ shut is))

pub stops : (one two : List ℕ) (s : LogPosition) → s.gate < length two → get_or two s.gate 0 ≢ 1 → turn one two s ≡ Ok None
unfolding turn
stops one two s inside shut = rw (lt-leb _ _ inside, ne_eqb _ _ shut) refl

no_turns : (one two : List ℕ) (s t : LogPosition) → turns zero one two s ≡ Ok t → ⊥
unfolding turns
no_turns one two s t e = absurd cc

pub turn_then : (n : ℕ) (one two : List ℕ) (s u : LogPosition) (r : Result LogPosition Fault) → turn one two s ≡ Ok (Some u) → turns n one two u ≡ r → turns (suc n) one two s ≡ r
unfolding turns
turn_then n one two s u r is rest = rw is rest

pub turn_last : (n : ℕ) (one two : List ℕ) (s : LogPosition) → turn one two s ≡ Ok None → turns (suc n) one two s ≡ Ok s
unfolding turns
turn_last n one two s is = rw is refl

abbrev after : ℕ → List ℕ → List ℕ → LogPosition → Option LogPosition → Result LogPosition Fault
after n one two s = elim [
  | None ↦ Ok s
  | Some t ↦ turns n one two t
]

by_turn : (n : ℕ) (one two : List ℕ) (s t : LogPosition) (o : Option LogPosition) → turn one two s ≡ Ok o → after n one two s o ≡ Ok t
    → ((turn one two s ≡ Ok None) × (s ≡ t)) ⊎ ((u : LogPosition) × (turn one two s ≡ Ok (Some u)) × (turns n one two u ≡ Ok t))
by_turn n one two s t None is e = inl (is, ok_is _ _ e)
by_turn n one two s t (Some u) is e = inr (u, is, e)

-- one more turn that may be taken stops here, or goes on
pub turn_cases : (n : ℕ) (one two : List ℕ) (s t : LogPosition) → turns (suc n) one two s ≡ Ok t
    → ((turn one two s ≡ Ok None) × (s ≡ t)) ⊎ ((u : LogPosition) × (turn one two s ≡ Ok (Some u)) × (turns n one two u ≡ Ok t))
unfolding turns
turn_cases n one two s t e = let b = bind_ok (turn one two s) (after n one two s) t e in by_turn n one two s t b.0 b.1 b.2

pub lies : (n : ℕ) (one two : List ℕ) (s t : LogPosition) → turns n one two s ≡ Ok t → Lies one two s t
lies zero one two s t e = absurd (no_turns one two s t e)
lies (suc n) one two s t e = elim (turn_cases n one two s t e) [
  | inl here ↦
      let st = stopped one two s here.0 in
      subst (λ (r : LogPosition). Lies one two s r) here.1 (record { gate = omega arith; end = omega arith; inside = st.0; ended = λ le. le; shut = st.1; set = refl; catalog = refl })
  | inr on ↦
      let p = places one two s on.0 (turned one two s on.0 on.1) in
      let l = lies n one two on.0 t on.2 in
      record {
        gate = omega (arith, p.gate, l.gate);
        end = omega (arith, p.end, l.end);
        inside = l.inside;
        ended = λ le. l.ended p.ended;
        shut = l.shut;
        set = l.set ∙ p.set;
        catalog = l.catalog ∙ p.catalog;
      }
]

-- Bytes that agree up to what was reached are read the same up to there, and then go on from there. Each turn passes bytes, so
-- that a number of turns is enough.
pub turns_join : (n m k : ℕ) (one two one' two' : List ℕ) (s t : LogPosition) (r : Result LogPosition Fault) → Agrees t.end t.gate one two one' two' → turns n one two s ≡ Ok t
    → t.gate + k ≤ s.gate + m → ((j : ℕ) → k ≤ j → turns j one' two' t ≡ r) → turns m one' two' s ≡ r
turns_join zero m k one two one' two' s t r same e enough more = absurd (no_turns one two s t e)
turns_join (suc n) zero k one two one' two' s t r same e enough more = elim (turn_cases n one two s t e) [
  | inl here ↦ subst (λ (x : LogPosition). turns zero one' two' x ≡ r) (sym here.1) (more zero (omega (arith, enough, ap (λ (x : LogPosition). x.gate) here.1)))
  | inr on ↦
      let p = places one two s on.0 (turned one two s on.0 on.1) in
      let l = lies n one two on.0 t on.2 in
      let no : ⊥ = omega (arith, enough, p.gate, l.gate) in
      absurd no
]
turns_join (suc n) (suc m) k one two one' two' s t r same e enough more = elim (turn_cases n one two s t e) [
  | inl here ↦ subst (λ (x : LogPosition). turns (suc m) one' two' x ≡ r) (sym here.1) (more (suc m) (omega (arith, enough, ap (λ (x : LogPosition). x.gate) here.1)))
  | inr on ↦
      let p = places one two s on.0 (turned one two s on.0 on.1) in
      let l = lies n one two on.0 t on.2 in
      let there = turned_same one two one' two' s on.0 (agrees_before on.0.end on.0.gate t.end t.gate one two one' two' l.end l.gate same) (turned one two s on.0 on.1) in
      let rest = turns_join n m k one two one' two' on.0 t r same on.2 (omega (arith, enough, p.gate)) more in
      turn_then m one' two' s on.0 r (turns_on one' two' s on.0 there) rest
]
