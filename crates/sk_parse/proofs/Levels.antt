-- How the rules of one depth stand on those of the depth below.
use Rattle.std.proofs.Common.{◌≡◌, ℕ, zero, suc, cond, refl, ap, arith}
use Rattle.sk_lex.specs.declared.token.Keyword.TheVariants as key
use Rattle.sk_rows.specs.declared.expr.Expr.TheVariants as e
use Rattle.sk_parse.specs.declared.cursor.Sign.TheVariants as sign
use Rattle.sk_parse.specs.Input.{Input, sees, next, ◌<$>◌}
use Rattle.sk_parse.specs.Grammar.{neg, negation, parens, comp_over, in_parens, expr_over}

pub neg_is : (n : ℕ) (i : Input) → neg n i ≡ cond (sees (sign.Key key.Not) i) (negation n i) (comp_over (parens n) i)
unfolding neg negation parens
neg_is zero i = refl
neg_is (suc n) i = refl

pub negation_deeper : (n m : ℕ) (i : Input) → n ≡ suc m → negation n i ≡ (e.Not <$> neg m) (next i)
unfolding negation
negation_deeper zero m i is = absurd (omega arith)
negation_deeper (suc n) m i is = let same : n ≡ m = omega arith in ap (λ k. (e.Not <$> neg k) (next i)) same

pub parens_deeper : (n m : ℕ) (i : Input) → n ≡ suc m → parens n i ≡ in_parens (expr_over (neg m)) i
unfolding parens
parens_deeper zero m i is = absurd (omega arith)
parens_deeper (suc n) m i is = let same : n ≡ m = omega arith in ap (λ k. in_parens (expr_over (neg k)) i) same
