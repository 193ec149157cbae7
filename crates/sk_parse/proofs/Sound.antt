-- What is read is derived by the rules.
use Rattle.std.proofs.Common.{◌≡◌, ℕ, zero, suc, Bool, true, false, cond, List, [], ◌∷◌, ◌++◌, length, refl, sym, ap, subst, ◌∙◌, append_assoc, append-nil, arith, rules, Option, Some, None, ◌⊎◌, inl, inr}
use Rattle.std.specs.Prelude.{Result, Ok, Err}
use denote.Enum.Bare.{same_true}
use Rattle.sk_lex.specs.contracts.token.Keyword.{the_type}
use Rattle.sk_lex.specs.declared.token.Keyword.{Keyword}
use Rattle.sk_lex.specs.declared.token.Word.{Word}
use Rattle.sk_lex.specs.declared.token.Word.TheVariants as word
use Rattle.sk_rows.specs.Names.{is_name}
use Rattle.sk_rows.specs.declared.value.Value.{Value}
use Rattle.std.proofs.lemmas.Bool.Decides.{nat_tests}
use Rattle.sk_rows.specs.declared.expr.Op.{Op}
use Rattle.sk_rows.specs.declared.expr.Expr.{Expr}
use Rattle.sk_rows.specs.declared.expr.Expr.TheVariants as e
use Rattle.sk_lex.specs.Marks as mark
use Rattle.sk_parse.specs.declared.cursor.Sign.TheVariants as sign
use Rattle.sk_parse.specs.Input.{Input, Outcome, Parser, and_then, pure, next, sees, after, same_key, take_some, taken}
use Rattle.sk_parse.specs.Terms.{name_of, value_of, negative_of, negative, plain, literal}
use Rattle.sk_parse.specs.Grammar.{more_on, more, chained}
use Rattle.sk_parse.specs.Rules.{IsLiteral}

-- an outcome is this
abbrev pub Gave : {A : Type 0} → Outcome A → A → Input → Type 0
Gave o a r = o ≡ Ok (a, r)

-- what a parser reads is the words before what is left
abbrev pub Splits : (List Word → Expr → Type 0) → Input → Expr → Input → Type 0
Splits D i x r = (ws : List Word) × (i ≡ ws ++ r) × D ws x

abbrev pub Sound : Parser Expr → (List Word → Expr → Type 0) → Type 0
Sound p D = (i r : Input) (x : Expr) → Gave (p i) x r → Splits D i x r

pub bind_ok : {A B : Type 0} (o : Outcome A) (f : A → Parser B) (b : B) (r : Input) → Gave (and_then o f) b r
    → (a : A) × (j : Input) × Gave o a j × Gave (f a j) b r
bind_ok (Ok p) f b r is = (p.0, p.1, refl, is)
bind_ok (Err n) f b r is = absurd (cc)

abbrev read_or : {A : Type 0} → A × Input → Outcome A → A × Input
read_or d (Ok p) = p
read_or d (Err n) = d

pub same : {A : Type 0} (a b : A) (i r : Input) → Gave (pure a i) b r → (a ≡ b) × (i ≡ r)
same a b i r is = (ap (λ o. (read_or (a, i) o).0) is, ap (λ o. (read_or (a, i) o).1) is)

pub never : {A : Type 0} {B : Type 0} (n : ℕ) (b : A) (r : Input) → Gave (Result.Err n) b r → B
never n b r is = absurd (cc)

pub either : {A : Type 0} (t : Bool) (p q : Outcome A) (a : A) (r : Input) → Gave (cond t p q) a r → Gave p a r ⊎ Gave q a r
either true p q a r is = inl is
either false p q a r is = inr is

module _ (ops : Word → Option Op) (operand : Parser Expr) (D E : List Word → Expr → Type 0)
    (one : (ws : List Word) (a : Expr) → E ws a → D ws a)
    (step : (us : List Word) (w : Word) (vs : List Word) (o : Op) (a b : Expr) → D us a → ops w ≡ Some o → E vs b → D (us ++ w ∷ vs) (e.Two o a b))
    (sound : Sound operand E) where
  -- with these words behind those that were read
  abbrev On : List Word → Input → Expr → Input → Type 0
  On us i x r = (ws : List Word) × (i ≡ ws ++ r) × D (us ++ ws) x

  stop : (us : List Word) (left : Expr) (i : Input) (x : Expr) (r : Input) → D us left → Gave (pure left i) x r → On us i x r
  stop us left i x r d is =
      let parts = same left x i r is in
      ([], parts.1, subst (λ ws. D ws x) (sym (append-nil us)) (subst (D us) parts.0 d))

  turn : (go : Expr → Parser Expr) → ((us : List Word) (left : Expr) (i : Input) (x : Expr) (r : Input) → D us left → Gave (go left i) x r → On us i x r)
      → (us : List Word) (left : Expr) (w : Word) (i : Input) (x : Expr) (r : Input) (found : Option Op) → ops w ≡ found → D us left
      → Gave (more_on operand go left found (w ∷ i)) x r → On us (w ∷ i) x r
  turn go ih us left w i x r None at d is = stop us left (w ∷ i) x r d is
  turn go ih us left w i x r (Some o) at d is =
      let b = bind_ok (operand i) (λ right. go (e.Two o left right)) x r is in
      let s = sound i b.1 b.0 b.2 in
      let m = ih (us ++ w ∷ s.0) (e.Two o left b.0) b.1 x r (step us w s.0 o left b.0 d at s.2) b.3 in
      (w ∷ s.0 ++ m.0, ap (λ z. w ∷ z) (s.1 ∙ ap (λ z. s.0 ++ z) m.1 ∙ sym (append_assoc s.0 m.0 r)), subst (λ z. D z x) (append_assoc us (w ∷ s.0) m.0) m.2)

  sound_more : (n : ℕ) (us : List Word) (left : Expr) (i : Input) (x : Expr) (r : Input) → D us left → Gave (more ops operand n left i) x r → On us i x r
  unfolding more
  sound_more zero us left i x r d is = stop us left i x r d is
  sound_more (suc n) us left [] x r d is = stop us left [] x r d is
  sound_more (suc n) us left (w ∷ i) x r d is = turn (more ops operand n) (sound_more n) us left w i x r (ops w) refl d is

  pub sound_chained : Sound (chained ops operand) D
  unfolding chained
  sound_chained i r x is =
      let b = bind_ok (operand i) (λ left j. more ops operand (length j) left j) x r is in
      let s = sound i b.1 b.0 b.2 in
      let m = sound_more (length b.1) s.0 b.0 b.1 x r (one s.0 b.0 s.2) b.3 in
      (s.0 ++ m.0, s.1 ∙ ap (λ z. s.0 ++ z) m.1 ∙ sym (append_assoc s.0 m.0 r), m.2)

-- ---- single words

pub key_at : (k : Keyword) (i : Input) → sees (sign.Key k) i ≡ true → i ≡ word.Key k ∷ next i
unfolding sees same_key
key_at k [] is = absurd (cc)
key_at k (word.Key l ∷ i) is = ap (λ m. word.Key m ∷ i) (same_true the_type (search rules) l k is)
key_at k (_ ∷ i) is = absurd (cc)

pub mark_at : (a b : ℕ) (i : Input) → sees (sign.Mark a b) i ≡ true → i ≡ word.Mark a b ∷ next i
unfolding sees
mark_at a b [] is = absurd (cc)
mark_at a b (word.Mark c d ∷ i) is =
    let one : c ≡ a = grind (arith, nat_tests) in
    let two : d ≡ b = grind (arith, nat_tests) in
    ap (λ m. word.Mark m d ∷ i) one ∙ ap (λ m. word.Mark a m ∷ i) two
mark_at a b (_ ∷ i) is = absurd (cc)

-- a word that was taken
pub some_taken : {A : Type 0} (found : Option A) (w : Word) (i : Input) (a : A) (r : Input) → Gave (take_some found (w ∷ i)) a r → (w ∷ i ≡ w ∷ r) × (found ≡ Some a)
some_taken None w i a r is = never _ a r is
some_taken (Some b) w i a r is = let parts = same b a i r is in (ap (λ z. w ∷ z) parts.1, ap Some parts.0)

pub taken_ok : {A : Type 0} (f : Word → Option A) (i : Input) (a : A) (r : Input) → Gave (taken f i) a r → (w : Word) × (i ≡ w ∷ r) × (f w ≡ Some a)
taken_ok f [] a r is = never _ a r is
taken_ok f (w ∷ i) a r is = let t = some_taken (f w) w i a r is in (w, t.0, t.1)

named : (t a : List ℕ) (b : Bool) → is_name t ≡ b → cond b (Some t) None ≡ Some a → (word.Name t ≡ word.Name a) × (is_name a ≡ true)
named t a true at is = let same_text : t ≡ a = cc in (ap word.Name same_text, subst (λ z. is_name z ≡ true) same_text at)
named t a false at is = absurd (cc)

pub name_ok : (w : Word) (a : List ℕ) → name_of w ≡ Some a → (w ≡ word.Name a) × (is_name a ≡ true)
name_ok (word.Name t) a is = named t a (is_name t) refl is
name_ok _ a is = absurd (cc)

-- ---- literals

literal_by : (b : Bool) (i r : Input) (v : Value) → sees (sign.Mark mark.minus mark.none) i ≡ b → Gave (cond b negative plain (cond b (next i) i)) v r
    → (ws : List Word) × (i ≡ ws ++ r) × IsLiteral ws v
unfolding negative plain
literal_by true i r v at is =
    let t = taken_ok negative_of (next i) v r is in
    (word.Mark mark.minus mark.none ∷ t.0 ∷ [], mark_at mark.minus mark.none i at ∙ ap (λ z. word.Mark mark.minus mark.none ∷ z) t.1, IsLiteral.negative t.0 v t.2)
literal_by false i r v at is =
    let t = taken_ok value_of i v r is in (t.0 ∷ [], t.1, IsLiteral.plain t.0 v t.2)

pub sound_literal : (i r : Input) (v : Value) → Gave (literal i) v r → (ws : List Word) × (i ≡ ws ++ r) × IsLiteral ws v
unfolding literal after
sound_literal i r v is = literal_by (sees (sign.Mark mark.minus mark.none) i) i r v refl is
