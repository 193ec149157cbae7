-- A push changes no other path.
use Rattle.std.proofs.Common.{◌≡◌, ℕ, zero, suc, ◌+◌, ◌≤◌, length, slice_set, Option, Some, None, refl, sym, ap, subst, ◌∙◌, arith}
use Rattle.sk_undo.specs.declared.undo.Undo.{Undo}
use Rattle.sk_undo.specs.Log.{Avoids, Log, record_at, put_at, named, with_newer, IsOlder, IsStanding, LinksTo, IsLinked, AreLinked, bound, met, walk, newest_for}
use Rattle.sk_undo.proofs.Places.{other, same_met, put_other, set_same, set_other, stands, still_stands, pushed_links, enough}

link_avoids : (log : Log) (at : ℕ) (o : Option ℕ) (n : ℕ) → record_at log at ≡ None → LinksTo log o n → Avoids at o
link_avoids log at None n e l = tt
link_avoids log at (Some p) n e l = stands log at p n e l

newer_met : (q s : ℕ) (r : Option Undo) (n : ℕ) (f : Option ℕ → Option ℕ) → met q s (with_newer r n) f ≡ met q s r f
newer_met q s None n f = refl
newer_met q s (Some u) n f = refl

named_met : (log : Log) (older : Option ℕ) (n q s : ℕ) (f : Option ℕ → Option ℕ) → IsStanding log older → met q s (record_at (named log older n) q) f ≡ met q s (record_at log q) f
named_met log None n q s f stand = refl
named_met log (Some p) n q s f stand =
    let y = with_newer (record_at log p) n in
    other q p
    (λ e. ap (λ (r : Option Undo). met q s r f) (ap (record_at (slice_set log p y)) e ∙ set_same log p y stand) ∙ newer_met q s (record_at log p) n f ∙ ap (λ (r : Option Undo). met q s r f) (ap (record_at log) (sym e)))
    (λ e. ap (λ (r : Option Undo). met q s r f) (set_other log p q y e))

named_walks : (log : Log) (older : Option ℕ) (n s : ℕ) → IsStanding log older → (k : ℕ) (o : Option ℕ) → walk k (named log older n) o s ≡ walk k log o s
unfolding walk
named_walks log older n s stand zero o = refl
named_walks log older n s stand (suc k) None = refl
named_walks log older n s stand (suc k) (Some q) =
    named_met log older n q s (λ o. walk k (named log older n) o s) stand
    ∙ same_met q s (record_at log q) (λ o. walk k (named log older n) o s) (λ o. walk k log o s) (λ u e. named_walks log older n s stand k u.older)

put_walks : (log : Log) (at : ℕ) (x : Option Undo) (s : ℕ) → AreLinked log → record_at log at ≡ None → at ≤ length log → (k : ℕ) (o : Option ℕ) → Avoids at o → walk k (put_at log at x) o s ≡ walk k log o s
unfolding walk
put_walks log at x s h empty fits zero o avoid = refl
put_walks log at x s h empty fits (suc k) None avoid = refl
put_walks log at x s h empty fits (suc k) (Some q) avoid =
    ap (λ (r : Option Undo). met q s r (λ o. walk k (put_at log at x) o s)) (put_other log at q x fits avoid)
    ∙ same_met q s (record_at log q) (λ o. walk k (put_at log at x) o s) (λ o. walk k log o s)
    (λ u e. put_walks log at x s h empty fits k u.older (link_avoids log at u.older u.n empty (subst (λ (r : Option Undo). IsLinked log r) e (h q))))

pub push_keeps : (log : Log) (at : ℕ) (u : Undo) (o : Option ℕ) (s : ℕ) → AreLinked log → IsOlder log u.older u.n → record_at log at ≡ None → at ≤ length log → Avoids at o
    → newest_for (named (put_at log at (Some u)) u.older u.n) o s ≡ newest_for log o s
unfolding newest_for
push_keeps log at u o s h free empty fits avoid =
    let mid = put_at log at (Some u) in
    let new = named mid u.older u.n in
    let k = bound log o + bound new o in
    enough new (pushed_links log at u h free empty fits) (bound new o) k o s (omega arith) (omega arith)
    ∙ named_walks mid u.older u.n s (still_stands log u.older u.n at (Some u) free) k o
    ∙ put_walks log at (Some u) s h empty fits k o avoid
    ∙ sym (enough log h (bound log o) k o s (omega arith) (omega arith))
