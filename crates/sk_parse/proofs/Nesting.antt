-- How many NOTs and parentheses are open together, layer by layer.
use Rattle.std.proofs.Common.{◌≡◌, ℕ, ◌+◌, max, nat_lt, Bool, true, false, cond, ◌&&◌, suc, arith, refl, sym, ap, ◌∙◌}
use Rattle.sk_rows.specs.declared.expr.Op.{Op}
use Rattle.sk_rows.specs.declared.expr.Expr.{Expr}
use Rattle.sk_rows.specs.declared.expr.Expr.TheVariants as expr
use Rattle.sk_rows.specs.declared.expr.Expr.TheOpen.{Expr-F}
use Rattle.sk_rows.specs.declared.expr.Expr.TheFolds.{fold-roll-Expr}
use Rattle.sk_parse.specs.Printed.{left_at, right_at, strength, nest_step, nesting, opened_by, opened_by_not}

two_or_one : (b : Bool) (n : ℕ) → cond b (suc (suc n)) (suc n) ≡ cond b 2 1 + n
two_or_one true n = omega arith
two_or_one false n = omega arith

one_or_none : (b : Bool) (n : ℕ) → cond b (suc n) n ≡ cond b 1 0 + n
one_or_none true n = omega arith
one_or_none false n = omega arith

pub nesting_not : (a : Expr) (at : ℕ) → nesting (expr.Not a) at ≡ opened_by_not at + nesting a 2
nesting_not a at =
    ap (λ x. nesting x at) (sym (expr.rolls-Not a)) ∙ ap (λ f. f at) (fold-roll-Expr (ℕ → ℕ) nest_step (Expr-F.Not a)) ∙ two_or_one (nat_lt 2 at) (nesting a 2)

pub nesting_two : (o : Op) (a b : Expr) (at : ℕ) → nesting (expr.Two o a b) at ≡ opened_by o at + max (nesting a (left_at o)) (nesting b (right_at o))
nesting_two o a b at =
    ap (λ x. nesting x at) (sym (expr.rolls-Two o a b)) ∙ ap (λ f. f at) (fold-roll-Expr (ℕ → ℕ) nest_step (Expr-F.Two o a b))
    ∙ one_or_none (nat_lt (strength o) at) (max (nesting a (left_at o)) (nesting b (right_at o)))

-- where the right side can be spelled, the left one decides
pub spelled_left : (a b : Bool) → b ≡ true → (a && b) ≡ a
spelled_left true b spelled = spelled
spelled_left false b spelled = refl

pub unspelled_right : (a b : Bool) → b ≡ false → (a && b) ≡ false
unspelled_right true b unspelled = unspelled
unspelled_right false b unspelled = refl
