-- An expression as its first part and the operations on it.
use Rattle.std.proofs.Common.{◌≡◌, ℕ, ◌+◌, ◌<◌, ◌≤◌, max, List, [], ◌∷◌, ◌++◌, refl, sym, ap, subst, ◌∙◌, arith}
use Rattle.std.proofs.Math.Nat.{le-max_left, le-max_right}
use Rattle.sk_rows.specs.declared.expr.Op.{Op}
use Rattle.sk_rows.specs.declared.expr.Expr.{Expr}
use Rattle.sk_rows.specs.declared.expr.Expr.TheVariants as expr
use Rattle.sk_rows.specs.declared.expr.Expr.TheOpen.{Expr-F}
use Rattle.sk_rows.specs.declared.expr.Expr.TheFolds.{fold-roll-Expr}
use Rattle.sk_rows.specs.declared.operations.Operation.{Operation}
use Rattle.sk_rows.specs.Expression.{depth, depth_step}
use Rattle.sk_rows.specs.Spine.{AreBelow, joined}

-- one more operation within the others
pub joined_push : (os : List Operation) (o : Operation) (e : Expr) → joined (os ++ o ∷ []) e ≡ joined os (expr.Two o.op e o.right.now)
joined_push [] o e = refl
joined_push (p ∷ ps) o e = ap (λ x. expr.Two p.op x p.right.now) (joined_push ps o e)

pub below_push : (n : ℕ) (os : List Operation) (o : Operation) → AreBelow n os → depth o.right.now < n → AreBelow n (os ++ o ∷ [])
below_push n [] o all one = (one, tt)
below_push n (p ∷ ps) o all one = (all.0, below_push n ps o all.1 one)

pub below_pop : (n : ℕ) (os : List Operation) (o : Operation) → AreBelow n (os ++ o ∷ []) → AreBelow n os × (depth o.right.now < n)
below_pop n [] o all = (tt, all.0)
below_pop n (p ∷ ps) o all =
    let rest = below_pop n ps o all.1 in
    ((all.0, rest.0), rest.1)

depth_two : (op : Op) (a b : Expr) → depth (expr.Two op a b) ≡ max (depth a) (depth b) + 1
depth_two op a b = ap depth (sym (expr.rolls-Two op a b)) ∙ fold-roll-Expr ℕ depth_step (Expr-F.Two op a b)

-- one step down the left side
pub went_down : (os new : List Operation) (o : Operation) (e a whole : Expr)
    → (joined os e ≡ whole) × (depth e ≤ depth whole) × AreBelow (depth whole) os → e ≡ expr.Two o.op a o.right.now → new ≡ os ++ o ∷ []
    → (joined new a ≡ whole) × (depth a ≤ depth whole) × AreBelow (depth whole) new
went_down os new o e a whole is two pushed =
    let depths : max (depth a) (depth o.right.now) + 1 ≤ depth whole = rw (← depth_two o.op a o.right.now, ← two) is.1 in
    let right : depth o.right.now < depth whole = omega (arith, depths, le-max_right (depth a) (depth o.right.now)) in (
      ap (λ l. joined l a) pushed ∙ joined_push os o a ∙ ap (joined os) (sym two) ∙ is.0,
      omega (arith, depths, le-max_left (depth a) (depth o.right.now)),
      subst (AreBelow (depth whole)) (sym pushed) (below_push (depth whole) os o is.2 right),
    )
