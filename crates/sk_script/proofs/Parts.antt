-- What a parser answers, taken apart.
use Rattle.std.proofs.Common.{◌≡◌, Bool, true, false, cond, Option, Some, None, Ok, Err, refl, ap}
use Rattle.sk_lex.specs.declared.token.Word.{Word}
use Rattle.sk_parse.specs.Input.{Input, Outcome, Parser, and_then, next, pure, refuse, take_some, take_by, taken, first}

-- a parser behind another
pub then_parts : {A B : Type 0} (o : Outcome A) (f : A → Parser B) (q : B × Input) → and_then o f ≡ Ok q → (p : A × Input) × (o ≡ Ok p) × (f p.0 p.1 ≡ Ok q)
then_parts (Ok p) f q e = (p, refl, e)
then_parts (Err n) f q e = absurd cc

took_some : {A : Type 0} (found : Option A) (i : Input) (p : A × Input) → take_some found i ≡ Ok p → found ≡ Some p.0
took_some None i p e = absurd cc
took_some {A} (Some a) i p e =
    let same : (a, next i) ≡ p = cc in
    ap (λ (q : A × Input). Some q.0) same

took_by : {A : Type 0} (f : Word → Option A) (w : Option Word) (i : Input) (p : A × Input) → take_by f w i ≡ Ok p → (word : Word) × (f word ≡ Some p.0)
took_by f None i p e = absurd cc
took_by f (Some w) i p e = (w, took_some (f w) i p e)

-- a word of a kind
pub took : {A : Type 0} (f : Word → Option A) (i : Input) (p : A × Input) → taken f i ≡ Ok p → (word : Word) × (f word ≡ Some p.0)
took f i p e = took_by f (first i) i p e

-- what is allowed by a test
pub kept : {A : Type 0} (b : Bool) (x y : A) → cond b (Some x) None ≡ Some y → (b ≡ true) × (x ≡ y)
kept true x y e = (refl, cc)
kept false x y e = absurd cc

-- what is refused by a test
pub allowed : {A : Type 0} (b : Bool) (i rest : Input) (x : A) (p : A × Input) → cond b (λ (left : Input). refuse i) (pure x) rest ≡ Ok p → (b ≡ false) × (x ≡ p.0)
allowed true i rest x p e = absurd cc
allowed {A} false i rest x p e =
    let same : (x, rest) ≡ p = cc in
    (refl, ap (λ (q : A × Input). q.0) same)
