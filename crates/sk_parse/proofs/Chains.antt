-- The bytes that are printed of an expression, before and behind its first part.
use Rattle.std.proofs.Common.{◌≡◌, ℕ, zero, suc, ◌+◌, nat_lt, arith, List, [], ◌∷◌, ◌++◌, length, get_or, append_assoc, append-nil, refl, sym, ap, ◌∙◌}
use Rattle.sk_lex.specs.Spelling.{spaced}
use Rattle.sk_rows.specs.declared.expr.Op.{Op}
use Rattle.sk_rows.specs.declared.expr.Expr.{Expr}
use Rattle.sk_rows.specs.declared.expr.Expr.TheVariants as expr
use Rattle.sk_rows.specs.declared.expr.Expr.TheOpen.{Expr-F}
use Rattle.sk_rows.specs.declared.expr.Expr.TheFolds.{fold-roll-Expr}
use Rattle.sk_rows.specs.declared.operations.Operation.{Operation}
use Rattle.sk_rows.specs.Spine.{joined}
use Rattle.sk_parse.specs.Printed.{strength, left_at, right_at, op_word}
use Rattle.sk_parse.specs.Spelled.{opened, closed, text, text_step}
use Rattle.sk_parse.specs.Chains.{behind, behind_one, opens, place_in}

text_two : (o : Op) (a b : Expr) (at : ℕ) → text (expr.Two o a b) at ≡ opened (nat_lt (strength o) at) ++ text a (left_at o) ++ spaced (op_word o) ++ text b (right_at o) ++ closed (nat_lt (strength o) at)
text_two o a b at = ap (λ x. text x at) (sym (expr.rolls-Two o a b)) ∙ ap (λ f. f at) (fold-roll-Expr (ℕ → List ℕ) text_step (Expr-F.Two o a b))

regroup : (a b c d s r e : List ℕ) → a ++ (b ++ (c ++ d)) ++ s ++ r ++ e ≡ (a ++ b) ++ (c ++ (d ++ (s ++ r ++ e)))
regroup a b c d s r e = simp append_assoc refl

-- an expression is printed as its first part between what stands before and behind
pub text_joined : (os : List Operation) (e : Expr) (at : ℕ) → text (joined os e) at ≡ opens os at ++ (text e (place_in os at) ++ behind os at)
text_joined [] e at = sym (append-nil (text e at))
text_joined (o ∷ os) e at =
    let below = left_at o.op in
    let opening = opened (nat_lt (strength o.op) at) in
    let closing = closed (nat_lt (strength o.op) at) in
    let word = spaced (op_word o.op) in
    let right = text o.right.now (right_at o.op) in
    text_two o.op (joined os e) o.right.now at ∙ ap (λ z. opening ++ z ++ word ++ right ++ closing) (text_joined os e below)
    ∙ regroup opening (opens os below) (text e (place_in os below)) (behind os below) word right closing

-- the innermost operation stands first behind the first part
pub behind_pop : (os : List Operation) (o : Operation) (at : ℕ) → behind (os ++ o ∷ []) at ≡ behind_one o (place_in os at) ++ behind os at
behind_pop [] o at = sym (append-nil (behind_one o at))
behind_pop (p ∷ ps) o at =
    ap (λ z. z ++ behind_one p at) (behind_pop ps o (left_at p.op)) ∙ append_assoc (behind_one o (place_in ps (left_at p.op))) (behind ps (left_at p.op)) (behind_one p at)

pub place_push : (os : List Operation) (o : Operation) (at : ℕ) → place_in (os ++ o ∷ []) at ≡ left_at o.op
place_push [] o at = refl
place_push (p ∷ ps) o at = place_push ps o (left_at p.op)

-- the first part stands at the left of the last operation
pub last_at : (os : List Operation) (n at : ℕ) (d : Operation) → length os ≡ n + 1 → place_in os at ≡ left_at (get_or os n d).op
last_at [] n at d len = absurd (omega (arith, len))
last_at (o ∷ []) zero at d len = refl
last_at (o ∷ []) (suc n) at d len = absurd (omega (arith, len))
last_at (o ∷ p ∷ ps) zero at d len = absurd (omega (arith, len))
last_at (o ∷ p ∷ ps) (suc n) at d len = last_at (p ∷ ps) n (left_at o.op) d (omega (arith, len))

-- one more operation is written
pub written_more : (out new whole : List ℕ) (os rest : List Operation) (o : Operation) (at : ℕ) → out ++ behind os at ≡ whole → os ≡ rest ++ o ∷ []
    → new ≡ out ++ behind_one o (place_in rest at) → new ++ behind rest at ≡ whole
written_more out new whole os rest o at so_far is made =
    ap (λ n. n ++ behind rest at) made ∙ append_assoc out (behind_one o (place_in rest at)) (behind rest at) ∙ ap (λ z. out ++ z) (sym (behind_pop rest o at))
    ∙ ap (λ l. out ++ behind l at) (sym is) ∙ so_far

-- all of them are
pub written_all : (old before first out : List ℕ) (os : List Operation) (e whole : Expr) (at : ℕ) → joined os e ≡ whole → before ≡ old ++ opens os at
    → first ≡ before ++ text e (place_in os at) → out ++ [] ≡ first ++ behind os at → out ≡ old ++ text whole at
written_all old before first out os e whole at is is_before is_first is_out =
    sym (append-nil out) ∙ is_out ∙ ap (λ f. f ++ behind os at) (is_first ∙ ap (λ b. b ++ text e (place_in os at)) is_before)
    ∙ in_one old (opens os at) (text e (place_in os at)) (behind os at) ∙ ap (λ z. old ++ z) (sym (text_joined os e at)) ∙ ap (λ x. old ++ text x at) is
  where
    in_one : (a b c d : List ℕ) → ((a ++ b) ++ c) ++ d ≡ a ++ (b ++ (c ++ d))
    in_one a b c d = simp append_assoc refl
