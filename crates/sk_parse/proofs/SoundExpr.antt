-- What is read as an expression is derived by the rules.
use Rattle.std.proofs.Common.{◌≡◌, ℕ, zero, suc, Bool, true, false, cond, List, [], ◌∷◌, ◌++◌, refl, sym, ap, subst, ◌∙◌, append_assoc, Option, Some, None, ◌⊎◌, inl, inr}
use Rattle.sk_lex.specs.declared.token.Keyword.TheVariants as key
use Rattle.sk_lex.specs.declared.token.Word.{Word}
use Rattle.sk_lex.specs.declared.token.Word.TheVariants as word
use Rattle.sk_rows.specs.declared.expr.Op.{Op}
use Rattle.sk_rows.specs.declared.expr.Expr.{Expr}
use Rattle.sk_rows.specs.declared.expr.Expr.TheVariants as e
use Rattle.sk_lex.specs.Marks as mark
use Rattle.sk_parse.specs.declared.cursor.Sign.{Sign}
use Rattle.sk_parse.specs.declared.cursor.Sign.TheVariants as sign
use Rattle.sk_parse.specs.declared.terms.Level.{Level}
use Rattle.sk_parse.specs.declared.terms.Level.TheVariants as level
use Rattle.sk_parse.specs.Input.{Input, Parser, pure, refuse, ◌<$>◌, ◌>>=◌, ◌>>◌, first, next, sees, expect}
use Rattle.sk_parse.specs.Terms.{name_of, name, literal, grouping, comparison}
use Rattle.sk_parse.specs.Grammar.{found_by, compare_on, compared_to, is_column, in_parens, atom_over, sum_over, comp_over, expr_over, neg, parens, chain_at, operand_at}
use Rattle.sk_parse.specs.Rules.{Rule, Derives, operand}
use Rattle.sk_parse.proofs.Sound.{Gave, Splits, Sound, bind_ok, same, never, either, sound_chained, key_at, mark_at, taken_ok, name_ok, sound_literal}

-- an expected sign was there
pub expect_ok : (s : Sign) (i : Input) (u : Unit {0}) (r : Input) → Gave (expect s i) u r → (sees s i ≡ true) × (next i ≡ r)
unfolding expect
expect_ok s i u r is = by (sees s i) refl is
  where
    by : (b : Bool) → sees s i ≡ b → Gave (cond b (pure tt (next i)) (refuse i)) u r → (sees s i ≡ true) × (next i ≡ r)
    by true at is = (at, (same tt u (next i) r is).1)
    by false at is = never _ u r is

-- what stands in parentheses
sound_in_parens : (n : ℕ) (p : Parser Expr) → Sound p (Derives (Rule.Chain level.Or) n) → Sound (in_parens p) (Derives Rule.Atom (suc n))
unfolding in_parens
sound_in_parens n p sound i r x is =
    let a = bind_ok (expect (sign.Mark mark.open_paren mark.none) i) (λ _. p >>= (λ inner. expect (sign.Mark mark.close_paren mark.none) >> pure inner)) x r is in
    let opened = expect_ok (sign.Mark mark.open_paren mark.none) i a.0 a.1 a.2 in
    let b = bind_ok (p a.1) (λ inner. expect (sign.Mark mark.close_paren mark.none) >> pure inner) x r a.3 in
    let s = sound a.1 b.1 b.0 b.2 in
    let c = bind_ok (expect (sign.Mark mark.close_paren mark.none) b.1) (λ _. pure b.0) x r b.3 in
    let close = expect_ok (sign.Mark mark.close_paren mark.none) b.1 c.0 c.1 c.2 in
    let end = same b.0 x c.1 r c.3 in
    let front = mark_at mark.open_paren mark.none i opened.0 ∙ ap (λ z. word.Mark mark.open_paren mark.none ∷ z) (opened.1 ∙ s.1) in
    let back = mark_at mark.close_paren mark.none b.1 close.0 ∙ ap (λ z. word.Mark mark.close_paren mark.none ∷ z) (close.1 ∙ end.1) in (
      word.Mark mark.open_paren mark.none ∷ s.0 ++ word.Mark mark.close_paren mark.none ∷ [],
      front ∙ ap (λ z. word.Mark mark.open_paren mark.none ∷ s.0 ++ z) back ∙ sym (append_assoc (word.Mark mark.open_paren mark.none ∷ s.0) (word.Mark mark.close_paren mark.none ∷ []) r),
      subst (Derives Rule.Atom (suc n) _) end.0 (Derives.atom_parens n s.0 b.0 s.2),
    )

sound_atom : (n : ℕ) (p : Parser Expr) → Sound p (Derives Rule.Atom n) → Sound (atom_over p) (Derives Rule.Atom n)
unfolding atom_over name
sound_atom n p sound i r x is = go (either (sees (sign.Mark mark.open_paren mark.none) i) _ _ x r is)
  where
    col : Gave ((e.Col <$> name) i) x r → Splits (Derives Rule.Atom n) i x r
    col is =
        let a = bind_ok (name i) (λ t. pure (e.Col t)) x r is in
        let t = taken_ok name_of i a.0 a.1 a.2 in
        let w = name_ok t.0 a.0 t.2 in
        let end = same (e.Col a.0) x a.1 r a.3 in
        (word.Name a.0 ∷ [], t.1 ∙ ap (λ z. z ∷ a.1) w.0 ∙ ap (λ z. word.Name a.0 ∷ z) end.1, subst (Derives Rule.Atom n _) end.0 (Derives.atom_name n a.0 w.1))

    lit : Gave ((e.Lit <$> literal) i) x r → Splits (Derives Rule.Atom n) i x r
    lit is =
        let a = bind_ok (literal i) (λ v. pure (e.Lit v)) x r is in
        let t = sound_literal i a.1 a.0 a.2 in
        let end = same (e.Lit a.0) x a.1 r a.3 in
        (t.0, t.1 ∙ ap (λ z. t.0 ++ z) end.1, subst (Derives Rule.Atom n _) end.0 (Derives.atom_literal n t.0 a.0 t.2))

    on : Gave ((e.Col <$> name) i) x r ⊎ Gave ((e.Lit <$> literal) i) x r → Splits (Derives Rule.Atom n) i x r
    on (inl is) = col is
    on (inr is) = lit is

    go : Gave (p i) x r ⊎ Gave (cond (is_column (first i)) ((e.Col <$> name) i) ((e.Lit <$> literal) i)) x r → Splits (Derives Rule.Atom n) i x r
    go (inl is) = sound i r x is
    go (inr is) = on (either (is_column (first i)) _ _ x r is)

sound_sum : (n : ℕ) (p : Parser Expr) → Sound p (Derives Rule.Atom n) → Sound (sum_over p) (Derives (Rule.Chain level.Sum) n)
sound_sum n p sound =
    sound_chained (grouping level.Sum) _ (Derives (Rule.Chain level.Sum) n) (Derives (Rule.Chain level.Prod) n) (Derives.chain_one n level.Sum) (Derives.chain_more n level.Sum)
    (sound_chained (grouping level.Prod) _ (Derives (Rule.Chain level.Prod) n) (Derives Rule.Atom n) (Derives.chain_one n level.Prod) (Derives.chain_more n level.Prod)
    (sound_atom n p sound))

sound_comp : (n : ℕ) (p : Parser Expr) → Sound p (Derives Rule.Atom n) → Sound (comp_over p) (Derives Rule.Comp n)
unfolding comp_over compared_to
sound_comp n p sound i r x is =
    let a = bind_ok (sum_over p i) (compared_to (sum_over p)) x r is in
    let s = sound_sum n p sound i a.1 a.0 a.2 in
    go a.0 a.1 s (found_by comparison (first a.1)) refl a.3
  where
    two : (left : Expr) (w : Word) (j : Input) (o : Op) → Splits (Derives (Rule.Chain level.Sum) n) i left (w ∷ j) → comparison w ≡ Some o
        → Gave ((e.Two o left <$> sum_over p) j) x r → Splits (Derives Rule.Comp n) i x r
    two left w j o s at is =
        let b = bind_ok (sum_over p j) (λ right. pure (e.Two o left right)) x r is in
        let t = sound_sum n p sound j b.1 b.0 b.2 in
        let end = same (e.Two o left b.0) x b.1 r b.3 in (
          s.0 ++ w ∷ t.0,
          s.1 ∙ ap (λ z. s.0 ++ w ∷ z) (t.1 ∙ ap (λ z. t.0 ++ z) end.1) ∙ sym (append_assoc s.0 (w ∷ t.0) r),
          subst (Derives Rule.Comp n _) end.0 (Derives.comp_two n s.0 w t.0 o left b.0 s.2 at t.2),
        )

    go : (left : Expr) (j : Input) → Splits (Derives (Rule.Chain level.Sum) n) i left j → (found : Option Op) → found_by comparison (first j) ≡ found
        → Gave (compare_on (sum_over p) left found j) x r → Splits (Derives Rule.Comp n) i x r
    go left j s None at is =
        let end = same left x j r is in
        (s.0, s.1 ∙ ap (λ z. s.0 ++ z) end.1, subst (Derives Rule.Comp n _) end.0 (Derives.comp_one n s.0 left s.2))
    go left [] s (Some o) at is = absurd (cc)
    go left (w ∷ j) s (Some o) at is = two left w j o s at is

sound_expr_over : (n : ℕ) → Sound (neg n) (Derives Rule.Neg n) → Sound (expr_over (neg n)) (Derives (Rule.Chain level.Or) n)
sound_expr_over n sound =
    sound_chained (grouping level.Or) _ (Derives (Rule.Chain level.Or) n) (Derives (Rule.Chain level.And) n) (Derives.chain_one n level.Or) (Derives.chain_more n level.Or)
    (sound_chained (grouping level.And) _ (Derives (Rule.Chain level.And) n) (Derives Rule.Neg n) (Derives.chain_one n level.And) (Derives.chain_more n level.And)
    sound)

sound_refuse : (D : List Word → Expr → Type 0) → Sound refuse D
sound_refuse D i r x is = never _ x r is

as_neg : (n : ℕ) (p : Parser Expr) → Sound p (Derives Rule.Atom n) → (i r : Input) (x : Expr) → Gave (comp_over p i) x r → Splits (Derives Rule.Neg n) i x r
as_neg n p sound i r x is = let s = sound_comp n p sound i r x is in (s.0, s.1, Derives.neg_one n s.0 x s.2)

pub sound_neg : (n : ℕ) → Sound (neg n) (Derives Rule.Neg n)
unfolding neg
sound_neg zero i r x is = go (either (sees (sign.Key key.Not) i) _ _ x r is)
  where
    go : Gave (refuse i) x r ⊎ Gave (comp_over refuse i) x r → Splits (Derives Rule.Neg 0) i x r
    go (inl is) = never _ x r is
    go (inr is) = as_neg 0 refuse (sound_refuse _) i r x is
sound_neg (suc n) i r x is = go (sound_neg n) (sees (sign.Key key.Not) i) refl is
  where
    go : Sound (neg n) (Derives Rule.Neg n) → (b : Bool) → sees (sign.Key key.Not) i ≡ b
        → Gave (cond b ((e.Not <$> neg n) (next i)) (comp_over (in_parens (expr_over (neg n))) i)) x r → Splits (Derives Rule.Neg (suc n)) i x r
    go ih true at is =
        let a = bind_ok (neg n (next i)) (λ y. pure (e.Not y)) x r is in
        let s = ih (next i) a.1 a.0 a.2 in
        let end = same (e.Not a.0) x a.1 r a.3 in (
          word.Key key.Not ∷ s.0,
          key_at key.Not i at ∙ ap (λ z. word.Key key.Not ∷ z) (s.1 ∙ ap (λ z. s.0 ++ z) end.1),
          subst (Derives Rule.Neg (suc n) _) end.0 (Derives.neg_not n s.0 a.0 s.2),
        )
    go ih false at is = as_neg (suc n) (in_parens (expr_over (neg n))) (sound_in_parens n (expr_over (neg n)) (sound_expr_over n ih)) i r x is

pub sound_expr : (n : ℕ) → Sound (chain_at level.Or n) (Derives (Rule.Chain level.Or) n)
sound_expr n = sound_expr_over n (sound_neg n)

sound_parens : (n : ℕ) → Sound (parens n) (Derives Rule.Atom n)
unfolding parens
sound_parens zero = sound_refuse _
sound_parens (suc n) = sound_in_parens n (expr_over (neg n)) (sound_expr_over n (sound_neg n))

pub sound_operand : (l : Level) (n : ℕ) → Sound (operand_at l n) (Derives (operand l) n)
sound_operand level.Or n = sound_chained (grouping level.And) _ (Derives (Rule.Chain level.And) n) (Derives Rule.Neg n) (Derives.chain_one n level.And) (Derives.chain_more n level.And) (sound_neg n)
sound_operand level.And n = sound_neg n
sound_operand level.Sum n = sound_chained (grouping level.Prod) _ (Derives (Rule.Chain level.Prod) n) (Derives Rule.Atom n) (Derives.chain_one n level.Prod) (Derives.chain_more n level.Prod) (sound_atom n (parens n) (sound_parens n))
sound_operand level.Prod n = sound_atom n (parens n) (sound_parens n)
