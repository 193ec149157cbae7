-- What a check answers.
use Rattle.std.specs.Prelude.{◌≡◌, ℕ, Bool, true, false, ◌&&◌, Ok, Err, nat_lt, ◌<◌, ◌≤◌, ◌⊎◌}
use Rattle.std.proofs.Common.{refl, sym, subst, inl, inr, ⊎_elim, arith}
use Rattle.std.proofs.lemmas.Bool.{lt-ltb, le-ltb}
use Rattle.sk_model.specs.declared.point.Point.{Point}
use Rattle.sk_weave.specs.Points.{commit_point, IsSmall}
use Rattle.sk_weave.specs.Registry.{Regs, last_of, checked}
use Rattle.sk_clock.specs.declared.view.View.{View}
use Rattle.sk_clock.specs.Steps.{steps_by, DrawsMem, DrawsStore, Holds, HasDrawn}
use Rattle.sk_clock.specs.Kept.{now, Sees, Looks}
use Rattle.sk_clock.proofs.Held.{drawn_holds, drawn_mem, then-second, looks_then_any, mem_seen, store_seen}
use Rattle.sk_clock.proofs.Ring.{Shaped}
use Rattle.sk_clock.proofs.Views.{ringed_now}

pub passed : (r : Regs) (p : Point) (ca cb : ℕ) → last_of r.points ≡ p → p.a < ca → p.b < cb → Ok tt ≡ checked r ca cb
passed r p ca cb is la lb =
    let a : nat_lt (last_of r.points).a ca ≡ true = subst (λ (q : Point). nat_lt q.a ca ≡ true) (sym is) (lt-ltb p.a ca la) in
    let b : nat_lt (last_of r.points).b cb ≡ true = subst (λ (q : Point). nat_lt q.b cb ≡ true) (sym is) (lt-ltb p.b cb lb) in
    rw (a, b) refl

not_both : (x y : Bool) → (x ≡ false) ⊎ (y ≡ false) → (x && y) ≡ false
not_both true true h = ⊎_elim (λ e. e) (λ e. e) h
not_both true false h = refl
not_both false y h = refl

pub refused : (r : Regs) (p : Point) (ca cb : ℕ) → p ≡ last_of r.points → ((ca ≤ p.a) ⊎ (cb ≤ p.b)) → Err (record { point = p }) ≡ checked r ca cb
refused r p ca cb is why =
    let q : Point = last_of r.points in
    let off : (nat_lt q.a ca && nat_lt q.b cb) ≡ false = not_both (nat_lt q.a ca) (nat_lt q.b cb)
    (⊎_elim
    (λ (l : ca ≤ p.a). inl (le-ltb q.a ca (subst (λ (x : Point). ca ≤ x.a) is l)))
    (λ (l : cb ≤ p.b). inr (le-ltb q.b cb (subst (λ (x : Point). cb ≤ x.b) is l)))
    why) in
    rw (off, is) refl

-- what a pass that drew both numbers knows when it has looked
pub held_there : (v w : View) (ca cb : ℕ) → Shaped w.start → Looks v w → Sees w → steps_by w.own.path w.seen ≡ w.own.steps → HasDrawn ca cb v.own.steps
    → IsSmall (commit_point ca cb) × ((ca ≤ (now w).mem) × (cb ≤ (now w).store)) × Holds (commit_point ca cb) w.own.steps
held_there v w ca cb shaped l legal own had =
    let here : HasDrawn ca cb w.own.steps = looks_then_any (DrawsMem ca) (DrawsStore cb) v w l had in
    let m = mem_seen w ca legal own (drawn_mem ca cb w.own.steps here) in
    let s = store_seen w cb legal own (then-second (DrawsMem ca) (DrawsStore cb) w.own.steps here) in
    let sound = (ringed_now w shaped legal).sound in
    let top = sound.mem in let end = sound.store in
    (record { a = omega arith; b = omega arith }, (m, s), drawn_holds ca cb w.own.steps here)
