-- What a parser answers before a word, or at it, does not look behind that word.
use Rattle.std.proofs.Common.{◌≡◌, ◌≤◌, ◌==◌, ℕ, zero, suc, ◌+◌, Bool, true, false, cond, List, [], ◌∷◌, ◌++◌, length, length-append, refl, sym, ap, subst, ◌∙◌, arith, Option, Some, None, ◌⊎◌, inl, inr}
use Rattle.std.specs.Prelude.{Ok, Err}
use Rattle.std.proofs.lemmas.Bool.{ne_eqb}
use Rattle.sk_lex.specs.declared.token.Keyword.{Keyword}
use Rattle.sk_lex.specs.declared.token.Keyword.TheVariants as key
use Rattle.sk_lex.specs.declared.token.Word.{Word}
use Rattle.sk_rows.specs.declared.expr.Op.{Op}
use Rattle.sk_rows.specs.declared.expr.Expr.{Expr}
use Rattle.sk_rows.specs.declared.expr.Expr.TheVariants as e
use Rattle.sk_rows.specs.declared.statement.Begun.TheVariants as begun
use Rattle.sk_rows.specs.declared.statement.SetItem.{SetItem}
use Rattle.sk_rows.specs.declared.statement.Statement.{Statement}
use Rattle.sk_rows.specs.declared.statement.Statement.TheVariants as st
use Rattle.sk_lex.specs.Marks as mark
use Rattle.sk_parse.specs.declared.cursor.Sign.{Sign}
use Rattle.sk_parse.specs.declared.cursor.Sign.TheVariants as sign
use Rattle.sk_parse.specs.declared.terms.Level.TheVariants as level
use Rattle.sk_parse.specs.Input.{Input, Outcome, Parser, and_then, pure, refuse, ◌<$>◌, ◌>>=◌, ◌>>◌, eat, first, first_key, next, is_at, sees, after, expect, listed, listed_from, take_by, take_some, taken}
use Rattle.sk_parse.specs.Terms.{name_of, value_of, negative_of, name, literal, plain, negative, grouping, comparison}
use Rattle.sk_parse.specs.Grammar.{found_by, more_on, more, compare_on, compared_to, chained, is_column, in_parens, atom_over, sum_over, comp_over, expr_over, neg, expr}
use Rattle.sk_parse.specs.Statements.{begin, behind, condition, delete, insert, said, said_by, select, set_item, select_list, update, whole}
use Rattle.sk_parse.specs.Saying.{Says}
use Rattle.sk_parse.proofs.Complete.{fuel}
use Rattle.sk_parse.proofs.CompleteStatement.{whole_read}

module _ (w : Word) (vs zs : List Word) where
  -- two inputs that differ behind the word alone
  abbrev pub InStep : Input → Input → Type 0
  InStep i j = (us : List Word) × (i ≡ us ++ w ∷ vs) × (j ≡ us ++ w ∷ zs)

  -- the word was taken
  abbrev pub IsPast : ℕ → Type 0
  IsPast n = n ≤ length vs

  abbrev pub Agree : {A : Type 0} → Outcome A → Outcome A → Type 0
  Agree (Ok p) o = ((j : Input) × InStep p.1 j × (o ≡ Ok (p.0, j))) ⊎ IsPast (length p.1)
  Agree (Err n) o = ((us : List Word) × (n ≡ length (us ++ w ∷ vs)) × (o ≡ Err (length (us ++ w ∷ zs)))) ⊎ IsPast n

  abbrev pub Fewer : {A : Type 0} → ℕ → Outcome A → Type 0
  Fewer n (Ok p) = length p.1 ≤ n
  Fewer n (Err m) = m ≤ n

  pub record Local {A : Type 0} (p : Parser A) : Type 0 where
    pub fewer : (i : Input) → Fewer (length i) (p i)
    pub agree : (i j : Input) → InStep i j → Agree (p i) (p j)

  -- ---- what is past stays past

  past : {A : Type 0} (n : ℕ) (o q : Outcome A) → IsPast n → Fewer n o → Agree o q
  past n (Ok p) q is few = inr (omega arith)
  past n (Err m) q is few = inr (omega arith)

  weaker : {A : Type 0} (n m : ℕ) (o : Outcome A) → n ≤ m → Fewer n o → Fewer m o
  weaker n m (Ok p) le few = omega arith
  weaker n m (Err k) le few = omega arith

  -- ---- the first words of two inputs in step

  same_first : (i j : Input) → InStep i j → first i ≡ first j
  same_first i j ([], is, that) = ap first is ∙ sym (ap first that)
  same_first i j (u ∷ us, is, that) = ap first is ∙ sym (ap first that)

  next_fewer : (i : Input) → length (next i) ≤ length i
  next_fewer [] = omega arith
  next_fewer (x ∷ i) = omega arith

  -- the rests behind the first words are in step, or the word was taken
  next_step : (i j : Input) → InStep i j → InStep (next i) (next j) ⊎ IsPast (length (next i))
  next_step i j ([], is, that) = inr (let e = ap (λ z. length (next z)) is in omega arith)
  next_step i j (u ∷ us, is, that) = inl (us, ap next is, ap next that)

  -- ---- steps of which rules are made

  pub local_pure : {A : Type 0} (a : A) → Local (pure a)
  local_pure a = record { fewer = λ i. omega arith; agree = λ i j step. inl (j, step, refl) }

  pub local_refuse : {A : Type 0} → Local {A = A} refuse
  local_refuse = record {
    fewer = λ i. omega arith;
    agree = λ i j step. inl (step.0, ap length step.1, ap (λ z. Err (length z)) step.2);
  }

  bind_fewer : {A B : Type 0} (f : A → Parser B) (n : ℕ) (o : Outcome A) → Fewer n o → ((a : A) (i : Input) → Fewer (length i) (f a i)) → Fewer n (and_then o f)
  bind_fewer f n (Ok p) few each = weaker (length p.1) n (f p.0 p.1) few (each p.0 p.1)
  bind_fewer f n (Err m) few each = few

  bind_agree : {A B : Type 0} (f : A → Parser B) (o q : Outcome A) → Agree o q → ((a : A) → Local (f a)) → Agree (and_then o f) (and_then q f)
  bind_agree f (Ok p) q (inl is) each =
      subst (λ z. Agree (f p.0 p.1) (and_then z f)) (sym is.2) ((each p.0).agree p.1 is.0 is.1)
  bind_agree f (Ok p) q (inr is) each = past (length p.1) (f p.0 p.1) (and_then q f) is ((each p.0).fewer p.1)
  bind_agree f (Err n) q (inl is) each = inl (is.0, is.1, ap (λ z. and_then z f) is.2)
  bind_agree f (Err n) q (inr is) each = inr is

  pub local_bind : {A B : Type 0} (p : Parser A) (f : A → Parser B) → Local p → ((a : A) → Local (f a)) → Local (p >>= f)
  local_bind p f here each = record {
    fewer = λ i. bind_fewer f (length i) (p i) (here.fewer i) (λ a. (each a).fewer);
    agree = λ i j step. bind_agree f (p i) (p j) (here.agree i j step) each;
  }

  pub local_first : {A : Type 0} (g : Option Word → Parser A) → ((o : Option Word) → Local (g o)) → Local (λ i. g (first i) i)
  local_first g each = record {
    fewer = λ i. (each (first i)).fewer i;
    agree = λ i j step. subst (λ o. Agree (g (first i) i) (g o j)) (same_first i j step) ((each (first i)).agree i j step);
  }

  pub local_next : {A : Type 0} (p : Parser A) → Local p → Local (λ i. p (next i))
  local_next p here = record {
    fewer = λ i. weaker (length (next i)) (length i) (p (next i)) (next_fewer i) (here.fewer (next i));
    agree = λ i j step. by i j (next_step i j step);
  }
    where
      by : (i j : Input) → InStep (next i) (next j) ⊎ IsPast (length (next i)) → Agree (p (next i)) (p (next j))
      by i j (inl step) = here.agree (next i) (next j) step
      by i j (inr is) = past (length (next i)) (p (next i)) (p (next j)) is (here.fewer (next i))

  pub local_cond : {A : Type 0} (b : Bool) (p q : Parser A) → Local p → Local q → Local (λ i. cond b (p i) (q i))
  local_cond true p q yes_local no_local = yes_local
  local_cond false p q yes_local no_local = no_local

  -- a parser that is another, by an equation
  pub local_same : {A : Type 0} (p q : Parser A) → ((i : Input) → p i ≡ q i) → Local p → Local q
  local_same p q is here = record {
    fewer = λ i. subst (Fewer (length i)) (is i) (here.fewer i);
    agree = λ i j step. subst (λ o. Agree o (q j)) (is i) (subst (Agree (p i)) (is j) (here.agree i j step));
  }

  -- ---- words

  pub local_choice : {A : Type 0} (b : Bool) (p q : Parser A) → Local p → Local q → Local (cond b p q)
  local_choice true p q yes_local no_local = yes_local
  local_choice false p q yes_local no_local = no_local

  pub local_map : {A B : Type 0} (f : A → B) (p : Parser A) → Local p → Local (f <$> p)
  local_map f p here = local_bind p (λ x. pure (f x)) here (λ x. local_pure (f x))

  pub local_then : {A B : Type 0} (p : Parser A) (q : Parser B) → Local p → Local q → Local (p >> q)
  local_then p q here there = local_bind p (λ _. q) here (λ _. there)

  abbrev pub sees_first : Sign → Option Word → Bool
  sees_first s None = false
  sees_first s (Some x) = is_at s x

  pub sees_is : (s : Sign) (i : Input) → sees_first s (first i) ≡ sees s i
  unfolding sees
  sees_is s [] = refl
  sees_is s (x ∷ i) = refl

  pub local_if : {A : Type 0} (s : Sign) (p q : Parser A) → Local p → Local q → Local (λ i. cond (sees s i) (p i) (q i))
  local_if s p q yes_local no_local =
      local_same (λ i. cond (sees_first s (first i)) (p i) (q i)) (λ i. cond (sees s i) (p i) (q i)) (λ i. ap (λ b. cond b (p i) (q i)) (sees_is s i))
      (local_first (λ o i. cond (sees_first s o) (p i) (q i)) (λ o. local_cond (sees_first s o) p q yes_local no_local))

  pub local_expect : (s : Sign) → Local (expect s)
  unfolding expect
  local_expect s = local_if s (λ i. pure tt (next i)) refuse (local_next (pure tt) (local_pure tt)) local_refuse

  pub local_eat : (s : Sign) → Local (eat s)
  unfolding after
  local_eat s =
      local_same (λ i. cond (sees s i) (pure true (next i)) (pure false i)) (eat s) (λ i. by (sees s i) i)
      (local_if s (λ i. pure true (next i)) (pure false) (local_next (pure true) (local_pure true)) (local_pure false))
    where
      by : (b : Bool) (i : Input) → cond b (pure true (next i)) (pure false i) ≡ Ok (b, cond b (next i) i)
      by true i = refl
      by false i = refl

  pub local_some : {A : Type 0} (found : Option A) → Local (take_some found)
  local_some None = local_refuse
  local_some (Some a) = local_next (pure a) (local_pure a)

  pub local_taken : {A : Type 0} (f : Word → Option A) → Local (taken f)
  local_taken f = local_first (take_by f) by
    where
      by : (o : Option Word) → Local (take_by f o)
      by None = local_refuse
      by (Some x) = local_some (f x)

  pub local_name : Local name
  unfolding name
  local_name = local_taken name_of

  pub local_literal : Local literal
  unfolding literal plain negative
  local_literal = local_bind (eat (sign.Mark mark.minus mark.none)) (λ b. cond b negative plain) (local_eat (sign.Mark mark.minus mark.none)) (λ b. local_choice b negative plain (local_taken negative_of) (local_taken value_of))

  -- ---- turns

  pub shrinks : {A : Type 0} (p : Parser A) → Local p → (i r : Input) (x : A) → p i ≡ Ok (x, r) → length r ≤ length i
  shrinks p here i r x is = subst (Fewer (length i)) is (here.fewer i)

  pub local_more_on : (operand : Parser Expr) (go : Expr → Parser Expr) → Local operand → ((x : Expr) → Local (go x)) → (left : Expr) (found : Option Op) → Local (more_on operand go left found)
  local_more_on operand go here each left None = local_pure left
  local_more_on operand go here each left (Some o) =
      local_next (operand >>= (λ right. go (e.Two o left right))) (local_bind operand (λ right. go (e.Two o left right)) here (λ right. each (e.Two o left right)))

  pub local_more : (ops : Word → Option Op) (operand : Parser Expr) → Local operand → (n : ℕ) (left : Expr) → Local (more ops operand n left)
  unfolding more
  local_more ops operand here zero left = local_pure left
  local_more ops operand here (suc n) left =
      local_first (λ o. more_on operand (more ops operand n) left (found_by ops o)) (λ o. local_more_on operand (more ops operand n) here (local_more ops operand here n) left (found_by ops o))

  pub local_turns : (ops : Word → Option Op) (operand : Parser Expr) → Local operand → (left : Expr) → Local (λ i. more ops operand (length i) left i)
  local_turns ops operand here left = record {
    fewer = λ i. (local_more ops operand here (length i) left).fewer i;
    agree = λ i j step.
        let n = length i + length j in
        let one : more ops operand n left i ≡ more ops operand (length i) left i = fuel ops operand (shrinks operand here) n (length i) left i (omega arith) (omega arith) in
        let two : more ops operand n left j ≡ more ops operand (length j) left j = fuel ops operand (shrinks operand here) n (length j) left j (omega arith) (omega arith) in
        subst (λ o. Agree o (more ops operand (length j) left j)) one (subst (Agree (more ops operand n left i)) two ((local_more ops operand here n left).agree i j step));
  }

  pub local_chained : (ops : Word → Option Op) (operand : Parser Expr) → Local operand → Local (chained ops operand)
  unfolding chained
  local_chained ops operand here = local_bind operand (λ left i. more ops operand (length i) left i) here (local_turns ops operand here)

  pub list_fuel : {A : Type 0} (item : Parser A) → ((i r : Input) (x : A) → item i ≡ Ok (x, r) → length r ≤ length i)
      → (n m : ℕ) (found : List A) (i : Input) → length i ≤ n → length i ≤ m → listed_from item n found i ≡ listed_from item m found i
  unfolding listed_from after sees
  list_fuel item short zero zero found i a b = refl
  list_fuel item short zero (suc m) found [] a b = refl
  list_fuel item short zero (suc m) found (x ∷ i) a b = absurd (omega arith)
  list_fuel item short (suc n) zero found [] a b = refl
  list_fuel item short (suc n) zero found (x ∷ i) a b = absurd (omega arith)
  list_fuel item short (suc n) (suc m) found [] a b = refl
  list_fuel {A} item short (suc n) (suc m) found (x ∷ i) a b = by (is_at (sign.Mark mark.comma mark.none) x) (list_fuel item short n m)
    where
      on : ((longer : List A) (j : Input) → length j ≤ n → length j ≤ m → listed_from item n longer j ≡ listed_from item m longer j) → (out : Outcome A) → item i ≡ out
          → and_then out (λ y. listed_from item n (found ++ y ∷ [])) ≡ and_then out (λ y. listed_from item m (found ++ y ∷ []))
      on ih (Err k) is = refl
      on ih (Ok q) is = let less = short i q.1 q.0 is in ih (found ++ q.0 ∷ []) q.1 (omega arith) (omega arith)

      by : (t : Bool) → ((longer : List A) (j : Input) → length j ≤ n → length j ≤ m → listed_from item n longer j ≡ listed_from item m longer j)
          → cond t (item >>= (λ y. listed_from item n (found ++ y ∷ []))) (pure found) (cond t i (x ∷ i)) ≡ cond t (item >>= (λ y. listed_from item m (found ++ y ∷ []))) (pure found) (cond t i (x ∷ i))
      by true ih = on ih (item i) refl
      by false ih = refl

  pub local_listed_from : {A : Type 0} (item : Parser A) → Local item → (n : ℕ) (found : List A) → Local (listed_from item n found)
  unfolding listed_from
  local_listed_from item here zero found = local_pure found
  local_listed_from item here (suc n) found =
      local_bind (eat (sign.Mark mark.comma mark.none)) (λ b. cond b (item >>= (λ y. listed_from item n (found ++ y ∷ []))) (pure found)) (local_eat (sign.Mark mark.comma mark.none))
      (λ b. local_choice b (item >>= (λ y. listed_from item n (found ++ y ∷ []))) (pure found) (local_bind item (λ y. listed_from item n (found ++ y ∷ [])) here (λ y. local_listed_from item here n (found ++ y ∷ []))) (local_pure found))

  pub local_rest : {A : Type 0} (item : Parser A) → Local item → (x : A) → Local (λ i. listed_from item (length i) (x ∷ []) i)
  local_rest item here x = record {
    fewer = λ i. (local_listed_from item here (length i) (x ∷ [])).fewer i;
    agree = λ i j step.
        let n = length i + length j in
        let one : listed_from item n (x ∷ []) i ≡ listed_from item (length i) (x ∷ []) i = list_fuel item (shrinks item here) n (length i) (x ∷ []) i (omega arith) (omega arith) in
        let two : listed_from item n (x ∷ []) j ≡ listed_from item (length j) (x ∷ []) j = list_fuel item (shrinks item here) n (length j) (x ∷ []) j (omega arith) (omega arith) in
        subst (λ o. Agree o (listed_from item (length j) (x ∷ []) j)) one (subst (Agree (listed_from item n (x ∷ []) i)) two ((local_listed_from item here n (x ∷ [])).agree i j step));
  }

  pub local_listed : {A : Type 0} (item : Parser A) → Local item → Local (listed item)
  unfolding listed
  local_listed item here = local_bind item (λ x i. listed_from item (length i) (x ∷ []) i) here (local_rest item here)

  -- ---- expressions

  pub local_in_parens : (p : Parser Expr) → Local p → Local (in_parens p)
  unfolding in_parens
  local_in_parens p here =
      local_then (expect (sign.Mark mark.open_paren mark.none)) (p >>= (λ inner. expect (sign.Mark mark.close_paren mark.none) >> pure inner)) (local_expect (sign.Mark mark.open_paren mark.none))
      (local_bind p (λ inner. expect (sign.Mark mark.close_paren mark.none) >> pure inner) here (λ inner. local_then (expect (sign.Mark mark.close_paren mark.none)) (pure inner) (local_expect (sign.Mark mark.close_paren mark.none)) (local_pure inner)))

  pub local_atom : (p : Parser Expr) → Local p → Local (atom_over p)
  unfolding atom_over
  local_atom p here =
      local_if (sign.Mark mark.open_paren mark.none) p (λ i. cond (is_column (first i)) ((e.Col <$> name) i) ((e.Lit <$> literal) i)) here
      (local_first (λ o i. cond (is_column o) ((e.Col <$> name) i) ((e.Lit <$> literal) i)) (λ o. local_cond (is_column o) (e.Col <$> name) (e.Lit <$> literal) (local_map e.Col name local_name) (local_map e.Lit literal local_literal)))

  pub local_sum : (p : Parser Expr) → Local p → Local (sum_over p)
  local_sum p here = local_chained (grouping level.Sum) (chained (grouping level.Prod) (atom_over p)) (local_chained (grouping level.Prod) (atom_over p) (local_atom p here))

  pub local_compared : (sum : Parser Expr) → Local sum → (left : Expr) → Local (compared_to sum left)
  unfolding compared_to
  local_compared sum here left = local_first (λ o. compare_on sum left (found_by comparison o)) (λ o. by (found_by comparison o))
    where
      by : (found : Option Op) → Local (compare_on sum left found)
      by None = local_pure left
      by (Some o) = local_next (e.Two o left <$> sum) (local_map (e.Two o left) sum here)

  pub local_comp : (p : Parser Expr) → Local p → Local (comp_over p)
  unfolding comp_over
  local_comp p here = local_bind (sum_over p) (compared_to (sum_over p)) (local_sum p here) (local_compared (sum_over p) (local_sum p here))

  pub local_expr_over : (p : Parser Expr) → Local p → Local (expr_over p)
  local_expr_over p here = local_chained (grouping level.Or) (chained (grouping level.And) p) (local_chained (grouping level.And) p here)

  pub local_neg : (n : ℕ) → Local (neg n)
  unfolding neg
  local_neg zero = local_if (sign.Key key.Not) refuse (comp_over refuse) local_refuse (local_comp refuse local_refuse)
  local_neg (suc n) =
      local_if (sign.Key key.Not) (λ i. (e.Not <$> neg n) (next i)) (comp_over (in_parens (expr_over (neg n)))) (local_next (e.Not <$> neg n) (local_map e.Not (neg n) (local_neg n)))
      (local_comp (in_parens (expr_over (neg n))) (local_in_parens (expr_over (neg n)) (local_expr_over (neg n) (local_neg n))))

  pub local_expr : Local expr
  local_expr = local_expr_over (neg 64) (local_neg 64)

  -- ---- statements

  pub local_condition : Local condition
  unfolding condition
  local_condition =
      local_bind (eat (sign.Key key.Where)) (λ b. cond b (Some <$> expr) (pure None)) (local_eat (sign.Key key.Where)) (λ b. local_choice b (Some <$> expr) (pure None) (local_map Some expr local_expr) (local_pure None))

  pub local_behind : {A : Type 0} (s : Sign) (p q : Parser A) → Local p → Local q → Local (behind s p q)
  local_behind s p q here there = local_bind (eat s) (λ b. cond b p q) (local_eat s) (λ b. local_choice b p q here there)

  pub local_begin : Local begin
  unfolding begin
  local_begin =
      local_behind (sign.Key key.Memory) (pure (st.Begin begun.Mem)) (behind (sign.Key key.Storage) (pure (st.Begin begun.Store)) (pure (st.Begin begun.Cross))) (local_pure (st.Begin begun.Mem))
      (local_behind (sign.Key key.Storage) (pure (st.Begin begun.Store)) (pure (st.Begin begun.Cross)) (local_pure (st.Begin begun.Store)) (local_pure (st.Begin begun.Cross)))

  pub local_insert : Local insert
  unfolding insert
  local_insert =
      local_then (expect (sign.Key key.Into)) _ (local_expect (sign.Key key.Into))
      (local_bind name (λ t. expect (sign.Key key.Values) >> (expect (sign.Mark mark.open_paren mark.none) >> (listed literal >>= (λ vs. expect (sign.Mark mark.close_paren mark.none) >> pure (st.Insert t vs))))) local_name (λ t.
      local_then (expect (sign.Key key.Values)) (expect (sign.Mark mark.open_paren mark.none) >> (listed literal >>= (λ vs. expect (sign.Mark mark.close_paren mark.none) >> pure (st.Insert t vs)))) (local_expect (sign.Key key.Values))
      (local_then (expect (sign.Mark mark.open_paren mark.none)) (listed literal >>= (λ vs. expect (sign.Mark mark.close_paren mark.none) >> pure (st.Insert t vs))) (local_expect (sign.Mark mark.open_paren mark.none))
      (local_bind (listed literal) (λ vs. expect (sign.Mark mark.close_paren mark.none) >> pure (st.Insert t vs)) (local_listed literal local_literal) (λ vs.
      local_then (expect (sign.Mark mark.close_paren mark.none)) (pure (st.Insert t vs)) (local_expect (sign.Mark mark.close_paren mark.none)) (local_pure (st.Insert t vs)))))))

  pub local_shown : Local select_list
  unfolding select_list
  local_shown =
      local_bind (eat (sign.Mark mark.star mark.none)) (λ b. cond b (pure None) (Some <$> listed name)) (local_eat (sign.Mark mark.star mark.none)) (λ b. local_choice b (pure None) (Some <$> listed name) (local_pure None) (local_map Some (listed name) (local_listed name local_name)))

  pub local_from : (f : List ℕ → Option Expr → Statement) → Local (expect (sign.Key key.From) >> (name >>= (λ t. condition >>= (λ c. pure (f t c)))))
  local_from f =
      local_then (expect (sign.Key key.From)) (name >>= (λ t. condition >>= (λ c. pure (f t c)))) (local_expect (sign.Key key.From))
      (local_bind name (λ t. condition >>= (λ c. pure (f t c))) local_name (λ t. local_bind condition (λ c. pure (f t c)) local_condition (λ c. local_pure (f t c))))

  pub local_select : Local select
  unfolding select
  local_select =
      local_bind select_list (λ columns. expect (sign.Key key.From) >> (name >>= (λ t. condition >>= (λ c. pure (st.Select t columns c))))) local_shown (λ columns. local_from (λ t c. st.Select t columns c))

  pub local_set : Local set_item
  unfolding set_item
  local_set =
      local_bind name (λ column. expect (sign.Mark mark.equals mark.none) >> (expr >>= (λ value. pure (record { column = column; value = value })))) local_name (λ column.
      local_then (expect (sign.Mark mark.equals mark.none)) (expr >>= (λ value. pure {A = SetItem} (record { column = column; value = value }))) (local_expect (sign.Mark mark.equals mark.none))
      (local_bind expr (λ value. pure {A = SetItem} (record { column = column; value = value })) local_expr (λ value. local_pure _)))

  pub local_update : Local update
  unfolding update
  local_update =
      local_bind name (λ t. expect (sign.Key key.Set) >> (listed set_item >>= (λ sets. condition >>= (λ c. pure (st.Update t sets c))))) local_name (λ t.
      local_then (expect (sign.Key key.Set)) (listed set_item >>= (λ sets. condition >>= (λ c. pure (st.Update t sets c)))) (local_expect (sign.Key key.Set))
      (local_bind (listed set_item) (λ sets. condition >>= (λ c. pure (st.Update t sets c))) (local_listed set_item local_set) (λ sets.
      local_bind condition (λ c. pure (st.Update t sets c)) local_condition (λ c. local_pure (st.Update t sets c)))))

  pub local_delete : Local delete
  unfolding delete
  local_delete = local_from (λ t c. st.Delete t c)

  pub local_said_by : (k : Option Keyword) → Local (said_by k)
  local_said_by (Some key.Begin) = local_next begin local_begin
  local_said_by (Some key.Commit) = local_next (pure st.Commit) (local_pure st.Commit)
  local_said_by (Some key.Rollback) = local_next (pure st.Rollback) (local_pure st.Rollback)
  local_said_by (Some key.Insert) = local_next insert local_insert
  local_said_by (Some key.Select) = local_next select local_select
  local_said_by (Some key.Update) = local_next update local_update
  local_said_by (Some key.Delete) = local_next delete local_delete
  local_said_by _ = local_refuse

  pub local_said : Local said
  unfolding said
  local_said = local_first (λ o. said_by (first_key o)) (λ o. local_said_by (first_key o))

  some_left : (us : List Word) (x : Word) (ys : List Word) → (length (us ++ x ∷ ys) == 0) ≡ false
  some_left us x ys = ne_eqb (length (us ++ x ∷ ys)) 0 (λ none. let e = length-append us (x ∷ ys) in absurd (omega arith))

  pub local_end : (found : Statement) → Local (λ i. cond (length i == 0) (Ok (found, i)) (refuse i))
  local_end found = record { fewer = λ i. by (length i == 0) i; agree = at_end }
    where
      by : (t : Bool) (i : Input) → Fewer (length i) (cond t (Ok (found, i)) (refuse i))
      by true i = omega arith
      by false i = omega arith

      at_end : (i j : Input) → InStep i j → Agree (cond (length i == 0) (Ok (found, i)) (refuse i)) (cond (length j == 0) (Ok (found, j)) (refuse j))
      at_end i j step =
          let here : (length i == 0) ≡ false = ap (λ z. length z == 0) step.1 ∙ some_left step.0 w vs in
          let there : (length j == 0) ≡ false = ap (λ z. length z == 0) step.2 ∙ some_left step.0 w zs in
          rw (here, there) (local_refuse.agree i j step)

  pub local_whole : Local whole
  unfolding whole
  local_whole = local_bind said (λ found i. cond (length i == 0) (Ok (found, i)) (refuse i)) local_said local_end

  pub whole_refuses : (us : List Word) → whole (us ++ w ∷ vs) ≡ Err (suc (length vs)) → (s : Statement) → ¬ (whole (us ++ w ∷ zs) ≡ Ok (s, []))
  whole_refuses us is s reads = by (subst (λ o. Agree o (whole (us ++ w ∷ zs))) is (local_whole.agree (us ++ w ∷ vs) (us ++ w ∷ zs) (us, refl, refl)))
    where
      by : Agree {A = Statement} (Err (suc (length vs))) (whole (us ++ w ∷ zs)) → ⊥
      by (inl same) = let e = same.2 in absurd cc
      by (inr is) = absurd (omega arith)

-- no statement begins with the words through one that is refused
pub refused_rightly : (us : List Word) (w : Word) (vs : List Word) → whole (us ++ w ∷ vs) ≡ Err (suc (length vs)) → (zs : List Word) (s : Statement) → ¬ Says (us ++ w ∷ zs) s
refused_rightly us w vs is zs s says = whole_refuses w vs zs us is s (whole_read (us ++ w ∷ zs) s says)
