-- What the rules derive is read.
use Rattle.std.proofs.Common.{◌≡◌, ℕ, zero, suc, ◌≤◌, Bool, true, false, cond, ◌==◌, List, [], ◌∷◌, ◌++◌, length, refl, sym, ap, subst, ◌∙◌, append_assoc, append-nil, length-append, arith, Option, Some, None}
use Rattle.std.specs.Prelude.{Ok, Err}
use Rattle.std.proofs.lemmas.Bool.Decides.{nat_tests}
use Rattle.sk_lex.specs.declared.token.Keyword.TheVariants as key
use Rattle.sk_lex.specs.declared.token.Word.{Word}
use Rattle.sk_lex.specs.declared.token.Word.TheVariants as word
use Rattle.sk_rows.specs.Names.{is_name}
use Rattle.sk_rows.specs.declared.value.Value.{Value}
use Rattle.sk_rows.specs.declared.expr.Op.{Op}
use Rattle.sk_rows.specs.declared.expr.Op.TheVariants as op
use Rattle.sk_rows.specs.declared.expr.Expr.{Expr}
use Rattle.sk_rows.specs.declared.expr.Expr.TheVariants as e
use Rattle.sk_lex.specs.Marks as mark
use Rattle.sk_parse.specs.declared.cursor.Sign.TheVariants as sign
use Rattle.sk_parse.specs.declared.terms.Level.{Level}
use Rattle.sk_parse.specs.declared.terms.Level.TheVariants as level
use Rattle.sk_parse.specs.Input.{Input, Outcome, Parser, and_then, pure, ◌>>◌, first, sees, same_key, after, expect, take_some}
use Rattle.sk_parse.specs.Terms.{sum_op, prod_op, compared, name, literal, plain, negative, grouping, comparison}
use Rattle.sk_parse.specs.Grammar.{found_by, more_on, more, compare_on, compared_to, chained, in_parens, atom_over, sum_over, comp_over, neg, parens, negation, chain_at, operand_at}
use Rattle.sk_parse.specs.Rules.{Rule, Derives, IsLiteral, operand, IsExact}
use Rattle.sk_parse.proofs.Levels.{neg_is}
use Rattle.sk_parse.proofs.Sound.{Gave, Sound}
use Rattle.sk_parse.proofs.SoundExpr.{sound_operand, sound_expr}

-- ---- where a rule ends: no operator follows that binds as tightly

abbrev pub None_at : (Word → Option Op) → Input → Type 0
None_at ops r = found_by ops (first r) ≡ None

abbrev pub EndsProd : Input → Type 0
EndsProd r = Unit {0} × None_at (grouping level.Prod) r

abbrev pub EndsSum : Input → Type 0
EndsSum r = EndsProd r × None_at (grouping level.Sum) r

abbrev pub EndsComp : Input → Type 0
EndsComp r = EndsSum r × None_at comparison r

abbrev pub EndsAnd : Input → Type 0
EndsAnd r = EndsComp r × None_at (grouping level.And) r

-- where the operands of a level end
abbrev pub Stops : Level → Input → Type 0
Stops level.Or r = EndsAnd r
Stops level.And r = EndsComp r
Stops level.Sum r = EndsProd r
Stops level.Prod r = Unit {0}

sum_no_prod : (a : ℕ) (o : Op) → sum_op a ≡ Some o → prod_op a ≡ None
sum_no_prod a o at = by (a == 42) refl
  where
    by : (b : Bool) → (a == 42) ≡ b → cond b (Some op.Mul) None ≡ None
    by true is = let same : a ≡ 42 = grind (arith, nat_tests) in let bad : None ≡ Some o = subst (λ z. sum_op z ≡ Some o) same at in absurd (cc)
    by false is = refl

compared_no_prod : (a : ℕ) (o : Op) → compared a 0 ≡ Some o → prod_op a ≡ None
compared_no_prod a o at = by (a == 42) refl
  where
    by : (b : Bool) → (a == 42) ≡ b → cond b (Some op.Mul) None ≡ None
    by true is = let same : a ≡ 42 = grind (arith, nat_tests) in let bad : None ≡ Some o = subst (λ z. compared z 0 ≡ Some o) same at in absurd (cc)
    by false is = refl

compared_no_sum : (a : ℕ) (o : Op) → compared a 0 ≡ Some o → sum_op a ≡ None
compared_no_sum a o at = by (a == 43) (a == 45) refl refl
  where
    by : (b c : Bool) → (a == 43) ≡ b → (a == 45) ≡ c → cond b (Some op.Add) (cond c (Some op.Sub) None) ≡ None
    by true c is _ = let same : a ≡ 43 = grind (arith, nat_tests) in let bad : None ≡ Some o = subst (λ z. compared z 0 ≡ Some o) same at in absurd (cc)
    by false true _ is = let same : a ≡ 45 = grind (arith, nat_tests) in let bad : None ≡ Some o = subst (λ z. compared z 0 ≡ Some o) same at in absurd (cc)
    by false false _ _ = refl

op_stops : (l : Level) (w : Word) (o : Op) (i : Input) → grouping l w ≡ Some o → Stops l (w ∷ i)
op_stops level.Or (word.Key key.Or) o i at = ((((tt, refl), refl), refl), refl)
op_stops level.Or _ o i at = absurd (cc)
op_stops level.And (word.Key key.And) o i at = (((tt, refl), refl), refl)
op_stops level.And _ o i at = absurd (cc)
op_stops level.Sum (word.Mark a zero) o i at = (tt, sum_no_prod a o at)
op_stops level.Sum _ o i at = absurd (cc)
op_stops level.Prod w o i at = tt

comp_stops : (w : Word) (o : Op) (i : Input) → comparison w ≡ Some o → EndsSum (w ∷ i)
comp_stops (word.Mark a zero) o i at = ((tt, compared_no_prod a o at), compared_no_sum a o at)
comp_stops (word.Mark a (suc b)) o i at = ((tt, refl), refl)
comp_stops _ o i at = absurd (cc)

-- ---- turns

pub more_none : (ops : Word → Option Op) (p : Parser Expr) (n : ℕ) (x : Expr) (r : Input) → None_at ops r → Gave (more ops p n x r) x r
unfolding more
more_none ops p zero x r none = refl
more_none ops p (suc n) x r none = ap (λ f. more_on p (more ops p n) x f r) none

-- what is read leaves no more than there was
shrinks : (p : Parser Expr) (D : List Word → Expr → Type 0) → Sound p D → (i r : Input) (x : Expr) → Gave (p i) x r → length r ≤ length i
shrinks p D sound i r x is = let s = sound i r x is in omega (arith, length-append s.0 r, ap length s.1)

-- as many turns as there are words are enough
pub fuel : (ops : Word → Option Op) (p : Parser Expr) → ((i r : Input) (x : Expr) → Gave (p i) x r → length r ≤ length i)
    → (n m : ℕ) (x : Expr) (i : Input) → length i ≤ n → length i ≤ m → more ops p n x i ≡ more ops p m x i
unfolding more
fuel ops p short zero zero x i a b = refl
fuel ops p short zero (suc m) x [] a b = refl
fuel ops p short zero (suc m) x (w ∷ i) a b = absurd (omega arith)
fuel ops p short (suc n) zero x [] a b = refl
fuel ops p short (suc n) zero x (w ∷ i) a b = absurd (omega arith)
fuel ops p short (suc n) (suc m) x [] a b = refl
fuel ops p short (suc n) (suc m) x (w ∷ i) a b = go (fuel ops p short n m) (ops w)
  where
    go : ((y : Expr) (j : Input) → length j ≤ n → length j ≤ m → more ops p n y j ≡ more ops p m y j) → (found : Option Op)
        → more_on p (more ops p n) x found (w ∷ i) ≡ more_on p (more ops p m) x found (w ∷ i)
    go ih None = refl
    go ih (Some o) = by (p i) refl
      where
        by : (out : Outcome Expr) → p i ≡ out → and_then out (λ right. more ops p n (e.Two o x right)) ≡ and_then out (λ right. more ops p m (e.Two o x right))
        by (Err k) is = refl
        by (Ok q) is = let less = short i q.1 q.0 is in ih (e.Two o x q.0) q.1 (omega arith) (omega arith)

-- ---- what the derivation of a rule says of the parser, whatever follows

abbrev Claim : Rule → ℕ → Input → Expr → Input → Type 0
Claim (Rule.Chain l) n i x r = Stops l r → chain_at l n i ≡ more (grouping l) (operand_at l n) (length r) x r
Claim Rule.Neg n i x r = EndsComp r → Gave (neg n i) x r
Claim Rule.Comp n i x r = EndsComp r → Gave (comp_over (parens n) i) x r
Claim Rule.Atom n i x r = Gave (atom_over (parens n) i) x r

finish : (l : Level) (n : ℕ) (i : Input) (x : Expr) (r : Input) → Claim (Rule.Chain l) n i x r → Stops l r → None_at (grouping l) r → Gave (chain_at l n i) x r
finish l n i x r claim stops none = claim stops ∙ more_none (grouping l) (operand_at l n) (length r) x r none

operand_gave : (l : Level) (n : ℕ) (i : Input) (x : Expr) (r : Input) → Claim (operand l) n i x r → Stops l r → Gave (operand_at l n i) x r
operand_gave level.Or n i x r claim stops = finish level.And n i x r claim stops.0 stops.1
operand_gave level.And n i x r claim stops = claim stops
operand_gave level.Sum n i x r claim stops = finish level.Prod n i x r claim stops.0 stops.1
operand_gave level.Prod n i x r claim stops = claim

operand_shrinks : (l : Level) (n : ℕ) (i r : Input) (x : Expr) → Gave (operand_at l n i) x r → length r ≤ length i
operand_shrinks l n = shrinks (operand_at l n) (Derives (operand l) n) (sound_operand l n)

chain_start : (l : Level) (n : ℕ) (i : Input) (a : Expr) (r : Input) → Gave (operand_at l n i) a r → chain_at l n i ≡ more (grouping l) (operand_at l n) (length r) a r
unfolding chained
chain_start l n i a r is = ap (λ out. and_then out (λ left j. more (grouping l) (operand_at l n) (length j) left j)) is

chain_turn : (l : Level) (n : ℕ) (a : Expr) (w : Word) (o : Op) (i : Input) (b : Expr) (r : Input) → grouping l w ≡ Some o → Gave (operand_at l n i) b r
    → more (grouping l) (operand_at l n) (length (w ∷ i)) a (w ∷ i) ≡ more (grouping l) (operand_at l n) (length r) (e.Two o a b) r
unfolding more
chain_turn l n a w o i b r at is =
    ap (λ f. more_on (operand_at l n) (more (grouping l) (operand_at l n) (length i)) a f (w ∷ i)) at
    ∙ ap (λ out. and_then out (λ right. more (grouping l) (operand_at l n) (length i) (e.Two o a right))) is
    ∙ fuel (grouping l) (operand_at l n) (operand_shrinks l n) (length i) (length r) (e.Two o a b) r (operand_shrinks l n i r b is) (omega arith)

-- ---- the first word

abbrev IsInner : Rule → Type 0
IsInner (Rule.Chain level.Sum) = Unit {0}
IsInner (Rule.Chain level.Prod) = Unit {0}
IsInner (Rule.Chain _) = ⊥
IsInner Rule.Neg = ⊥
IsInner Rule.Comp = Unit {0}
IsInner Rule.Atom = Unit {0}

inner_operand : (l : Level) → IsInner (Rule.Chain l) → IsInner (operand l)
inner_operand level.Or is = absurd is
inner_operand level.And is = absurd is
inner_operand level.Sum is = tt
inner_operand level.Prod is = tt

literal_no_not : (ws : List Word) (v : Value) → IsLiteral ws v → (r : Input) → sees (sign.Key key.Not) (ws ++ r) ≡ false
unfolding sees same_key
literal_no_not _ _ (IsLiteral.plain (word.Key key.True) v at) r = refl
literal_no_not _ _ (IsLiteral.plain (word.Key key.False) v at) r = refl
literal_no_not _ _ (IsLiteral.plain (word.Key _) v at) r = absurd (cc)
literal_no_not _ _ (IsLiteral.plain _ v at) r = refl
literal_no_not _ _ (IsLiteral.negative w v at) r = refl

no_not : (n : ℕ) (u : Rule) (ws : List Word) (x : Expr) → Derives u n ws x → IsInner u → (r : Input) → sees (sign.Key key.Not) (ws ++ r) ≡ false
unfolding sees same_key
no_not _ _ _ _ (Derives.chain_one n l ws a d) inner r = no_not _ _ _ _ d (inner_operand l inner) r
no_not _ _ _ _ (Derives.chain_more n l us w vs o a b d at d2) inner r =
    subst (λ z. sees (sign.Key key.Not) z ≡ false) (sym (append_assoc us (w ∷ vs) r)) (no_not _ _ _ _ d inner (w ∷ vs ++ r))
no_not _ _ _ _ (Derives.neg_one n ws a d) inner r = absurd inner
no_not _ _ _ _ (Derives.neg_not n ws a d) inner r = absurd inner
no_not _ _ _ _ (Derives.comp_one n ws a d) inner r = no_not _ _ _ _ d tt r
no_not _ _ _ _ (Derives.comp_two n us w vs o a b d at d2) inner r =
    subst (λ z. sees (sign.Key key.Not) z ≡ false) (sym (append_assoc us (w ∷ vs) r)) (no_not _ _ _ _ d tt (w ∷ vs ++ r))
no_not _ _ _ _ (Derives.atom_literal n ws v lit) inner r = literal_no_not ws v lit r
no_not _ _ _ _ (Derives.atom_name n t is) inner r = refl
no_not _ _ _ _ (Derives.atom_parens n ws a d) inner r = refl

-- ---- each rule

literal_read : (n : ℕ) (p : Parser Expr) (ws : List Word) (v : Value) → IsLiteral ws v → (r : Input) → Gave (atom_over p (ws ++ r)) (e.Lit v) r
unfolding atom_over sees literal plain negative after same_key
literal_read n p _ _ (IsLiteral.plain (word.Number k) v at) r = ap (λ f. and_then (take_some f (word.Number k ∷ r)) (λ y. pure (e.Lit y))) at
literal_read n p _ _ (IsLiteral.plain (word.Text t) v at) r = ap (λ f. and_then (take_some f (word.Text t ∷ r)) (λ y. pure (e.Lit y))) at
literal_read n p _ _ (IsLiteral.plain (word.Key k) v at) r = ap (λ f. and_then (take_some f (word.Key k ∷ r)) (λ y. pure (e.Lit y))) at
literal_read n p _ _ (IsLiteral.plain _ v at) r = absurd (cc)
literal_read n p _ _ (IsLiteral.negative w v at) r = ap (λ f. and_then (take_some f (w ∷ r)) (λ y. pure (e.Lit y))) at

name_read : (p : Parser Expr) (t : List ℕ) → is_name t ≡ true → (r : Input) → Gave (atom_over p (word.Name t ∷ r)) (e.Col t) r
unfolding atom_over sees name
name_read p t is r = ap (λ b. and_then (take_some (cond b (Some t) None) (word.Name t ∷ r)) (λ y. pure (e.Col y))) is

parens_read : (n : ℕ) (ws : List Word) (a : Expr) (r : Input) → Gave (chain_at level.Or n (ws ++ word.Mark mark.close_paren mark.none ∷ r)) a (word.Mark mark.close_paren mark.none ∷ r)
    → Gave (atom_over (parens (suc n)) (word.Mark mark.open_paren mark.none ∷ ws ++ word.Mark mark.close_paren mark.none ∷ r)) a r
unfolding atom_over sees parens in_parens expect
parens_read n ws a r is = ap (λ out. and_then out (λ inner. expect (sign.Mark mark.close_paren mark.none) >> pure inner)) is

comp_read : (n : ℕ) (i : Input) (a : Expr) (r : Input) → Gave (chain_at level.Sum n i) a r → None_at comparison r → Gave (comp_over (parens n) i) a r
unfolding comp_over compared_to
comp_read n i a r is none = ap (λ out. and_then out (compared_to (sum_over (parens n)))) is ∙ ap (λ f. compare_on (sum_over (parens n)) a f r) none

comp_two_read : (n : ℕ) (i : Input) (a : Expr) (w : Word) (o : Op) (j : Input) (b : Expr) (r : Input) → Gave (chain_at level.Sum n i) a (w ∷ j) → comparison w ≡ Some o
    → Gave (chain_at level.Sum n j) b r → Gave (comp_over (parens n) i) (e.Two o a b) r
unfolding comp_over compared_to
comp_two_read n i a w o j b r is at that =
    ap (λ out. and_then out (compared_to (sum_over (parens n)))) is
    ∙ ap (λ f. compare_on (sum_over (parens n)) a f (w ∷ j)) at
    ∙ ap (λ out. and_then out (λ right. pure (e.Two o a right))) that

neg_read : (n : ℕ) (i : Input) (a : Expr) (r : Input) → sees (sign.Key key.Not) i ≡ false → Gave (comp_over (parens n) i) a r → Gave (neg n i) a r
neg_read n i a r absent is = neg_is n i ∙ ap (λ b. cond b (negation n i) (comp_over (parens n) i)) absent ∙ is

not_read : (n : ℕ) (i : Input) (a : Expr) (r : Input) → Gave (neg n i) a r → Gave (neg (suc n) (word.Key key.Not ∷ i)) (e.Not a) r
unfolding neg sees same_key
not_read n i a r is = ap (λ out. and_then out (λ y. pure (e.Not y))) is

complete : (n : ℕ) (u : Rule) (ws : List Word) (x : Expr) → Derives u n ws x → (r : Input) → Claim u n (ws ++ r) x r
complete _ _ _ _ (Derives.chain_one n l ws a d) r = λ stops. chain_start l n (ws ++ r) a r (operand_gave l n (ws ++ r) a r (complete _ _ _ _ d r) stops)
complete _ _ _ _ (Derives.chain_more n l us w vs o a b d at d2) r = λ stops.
    ap (chain_at l n) (append_assoc us (w ∷ vs) r)
    ∙ complete _ _ _ _ d (w ∷ vs ++ r) (op_stops l w o (vs ++ r) at)
    ∙ chain_turn l n a w o (vs ++ r) b r at (operand_gave l n (vs ++ r) b r (complete _ _ _ _ d2 r) stops)
complete _ _ _ _ (Derives.neg_one n ws a d) r = λ ends. neg_read n (ws ++ r) a r (no_not _ _ _ _ d tt r) (complete _ _ _ _ d r ends)
complete _ _ _ _ (Derives.neg_not n ws a d) r = λ ends. not_read n (ws ++ r) a r (complete _ _ _ _ d r ends)
complete _ _ _ _ (Derives.comp_one n ws a d) r = λ ends. comp_read n (ws ++ r) a r (finish level.Sum n (ws ++ r) a r (complete _ _ _ _ d r) ends.0.0 ends.0.1) ends.1
complete _ _ _ _ (Derives.comp_two n us w vs o a b d at d2) r = λ ends.
    ap (comp_over (parens n)) (append_assoc us (w ∷ vs) r)
    ∙ (let stop = comp_stops w o (vs ++ r) at in
    comp_two_read n (us ++ (w ∷ vs ++ r)) a w o (vs ++ r) b r (finish level.Sum n _ a (w ∷ vs ++ r) (complete _ _ _ _ d (w ∷ vs ++ r)) stop.0 stop.1) at
    (finish level.Sum n (vs ++ r) b r (complete _ _ _ _ d2 r) ends.0.0 ends.0.1))
complete _ _ _ _ (Derives.atom_literal n ws v lit) r = literal_read n (parens n) ws v lit r
complete _ _ _ _ (Derives.atom_name n t is) r = name_read (parens n) t is r
complete _ _ _ _ (Derives.atom_parens n ws a d) r =
    ap (λ z. atom_over (parens (suc n)) (word.Mark mark.open_paren mark.none ∷ z)) (append_assoc ws (word.Mark mark.close_paren mark.none ∷ []) r)
    ∙ parens_read n ws a r (finish level.Or n _ a (word.Mark mark.close_paren mark.none ∷ r) (complete _ _ _ _ d (word.Mark mark.close_paren mark.none ∷ r)) ((((tt, refl), refl), refl), refl) refl)

-- what may follow an expression
abbrev pub Ends : Input → Type 0
Ends r = Stops level.Or r × None_at (grouping level.Or) r

pub expr_read : (ws : List Word) (a : Expr) → Derives (Rule.Chain level.Or) 64 ws a → (r : Input) → Ends r → Gave (chain_at level.Or 64 (ws ++ r)) a r
expr_read ws a d r ends = finish level.Or 64 (ws ++ r) a r (complete _ _ _ _ d r) ends.0 ends.1

pub derived_is_read : (n : ℕ) (ws : List Word) (a : Expr) → Derives (Rule.Chain level.Or) n ws a → Gave (chain_at level.Or n ws) a []
derived_is_read n ws a d =
    ap (chain_at level.Or n) (sym (append-nil ws)) ∙ finish level.Or n (ws ++ []) a [] (complete _ _ _ _ d []) ((((tt, refl), refl), refl), refl) refl

pub read_is_derived : (n : ℕ) (ws : List Word) (a : Expr) → Gave (chain_at level.Or n ws) a [] → Derives (Rule.Chain level.Or) n ws a
read_is_derived n ws a is =
    let s = sound_expr n ws [] a is in
    subst (λ z. Derives (Rule.Chain level.Or) n z a) (sym (s.1 ∙ append-nil s.0)) s.2

pub exact : IsExact
exact ws a = (derived_is_read 64 ws a, read_is_derived 64 ws a)
