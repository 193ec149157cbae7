-- The values that a statement writes have the sorts of their columns, and no long text.
use Rattle.std.specs.Prelude.{ℕ, Bool, true, false, cond, not, ◌&&◌, ◌≡◌, nat_lt, List, [], ◌∷◌, length, zero, suc, slice_get, unwrap_or, Option, Some, None, Result, Ok, Err, ℤ, ◌+ℤ◌, ◌-ℤ◌, ◌*ℤ◌}
use Rattle.std.proofs.Common.{refl, sym, ap, subst, ◌∙◌}
use Rattle.std.specs.List.{position_or_len}
use Rattle.std.specs.Option.{option_map}
use Rattle.std.specs.Str.{bytes_eq}
use Rattle.std.proofs.lemmas.Bool.{and_parts, false≢true, lt-ltb}
use Rattle.std.proofs.lemmas.List.Folds.{find_at}
use Rattle.std.proofs.lemmas.Option.{slice_get_within}
use Rattle.sk_rows.specs.declared.value.Sort.{Sort}
use Rattle.sk_rows.specs.declared.value.Sort.TheVariants as sort
use Rattle.sk_rows.specs.declared.value.Value.{Value}
use Rattle.sk_rows.specs.declared.value.Value.TheVariants as value
use Rattle.sk_rows.specs.declared.table.Column.{Column}
use Rattle.sk_rows.specs.declared.expr.Op.{Op}
use Rattle.sk_rows.specs.declared.expr.Op.TheVariants as op
use Rattle.sk_rows.specs.declared.expr.Expr.{Expr, roll-Expr, map-Expr}
use Rattle.sk_rows.specs.declared.expr.Expr.TheOpen.{Expr-F}
use Rattle.sk_rows.specs.declared.expr.Expr.TheFolds.{fold-roll-Expr, ind-Expr}
use Rattle.sk_rows.specs.declared.faults.TypeFault.{TypeFault}
use Rattle.sk_rows.specs.declared.faults.TypeFault.TheVariants.{TypeMismatch}
use Rattle.sk_rows.specs.declared.faults.ValueFault.{ValueFault}
use Rattle.sk_rows.specs.declared.faults.ValueFault.TheVariants.{Overflow}
use Rattle.sk_rows.specs.Values.{sort_of}
use Rattle.sk_rows.specs.Typing.{column_sort, gives, not_sort, same_sort, sort_in, sort_step, takes, two_sort}
use Rattle.sk_rows.specs.Evaluation.{column_value, compute, fits_64, in_64, int, int_of, is_true, value_in, value_step}
use Rattle.sk_model.specs.Sorts.{have_sorts}
use Rattle.sk_model.specs.EngineConditions.{is_short, are_short}
use Rattle.sk_model.specs.Texts.{expr_is_short, short_step}

-- the value is of this sort, and no long text
abbrev pub IsOfSort : Sort → Value → Type 0
IsOfSort s v = (same_sort (sort_of v) s ≡ true) × (is_short v ≡ true)

pub same_is : (s t : Sort) → same_sort s t ≡ true → s ≡ t
same_is sort.Int sort.Int e = refl
same_is sort.Text sort.Text e = refl
same_is sort.Bool sort.Bool e = refl
same_is _ _ e = absurd (false≢true e)

-- where the column stands, the row has a value of its sort
at_place : (row : List Value) (cs : List Column) (i : ℕ) (c : Column) → have_sorts row cs ≡ true → are_short row ≡ true → slice_get cs i ≡ Some c → IsOfSort c.sort (unwrap_or (slice_get row i) (value.Bool false))
at_place row [] i c s h e = absurd cc
at_place [] (d ∷ cs) i c s h e = absurd (false≢true s)
at_place (v ∷ vs) (d ∷ cs) zero c s h e = let is : d ≡ c = cc in subst (λ x. IsOfSort x.sort v) is ((and_parts _ _ s).0, (and_parts _ _ h).0)
at_place (v ∷ vs) (d ∷ cs) (suc i) c s h e = at_place vs cs i c (and_parts _ _ s).1 (and_parts _ _ h).1 e

sorted_as : (o : Option Column) (s : Sort) → option_map (λ c. c.sort) o ≡ Some s → (c : Column) × (o ≡ Some c) × (c.sort ≡ s)
sorted_as None s e = absurd cc
sorted_as (Some c) s e = (c, refl, cc)

module _ (columns : List Column) (row : List Value) (sorts : have_sorts row columns ≡ true) (short : are_short row ≡ true) where
  column_fits : (name : List ℕ) (s : Sort) → column_sort name columns ≡ Some s → IsOfSort s (column_value name columns row)
  unfolding column_sort column_value
  column_fits name s is =
      let test : Column → Bool = λ c. bytes_eq c.name name in
      let i = position_or_len test columns in
      let there : (c : Column) × (slice_get columns i ≡ Some c) × (c.sort ≡ s) = sorted_as (slice_get columns i) s (ap (option_map (λ c. c.sort)) (sym (find_at test columns)) ∙ is) in
      let inside : nat_lt i (length columns) ≡ true = lt-ltb i (length columns) (slice_get_within columns i there.0 there.1) in
      rw inside (subst (λ t. IsOfSort t (unwrap_or (slice_get row i) (value.Bool false))) there.2 (at_place row columns i there.0 sorts short there.1))

  chosen : (b : Bool) (s t : Sort) → cond b (Ok s) (Err TypeMismatch) ≡ Ok t → s ≡ t
  chosen true s t e = cc
  chosen false s t e = absurd cc

  ok_is : {x y : Value} → ◌≡◌ {A = Result Value ValueFault} (Ok x) (Ok y) → x ≡ y
  ok_is e = cc

  int_fits : (fits : Bool) (z : ℤ) (v : Value) → int (cond fits (Ok z) (Err Overflow)) ≡ Ok v → IsOfSort sort.Int v
  int_fits true z v e = subst (IsOfSort sort.Int) (ok_is e) (refl, refl)
  int_fits false z v e = absurd cc

  -- what an operator computes
  computed : (o : Op) (x y v : Value) → compute o x y ≡ Ok v → IsOfSort (gives o) v
  unfolding compute in_64
  computed op.Or x y v e = subst (IsOfSort sort.Bool) (ok_is e) (refl, refl)
  computed op.And x y v e = subst (IsOfSort sort.Bool) (ok_is e) (refl, refl)
  computed op.Eq x y v e = subst (IsOfSort sort.Bool) (ok_is e) (refl, refl)
  computed op.Ne x y v e = subst (IsOfSort sort.Bool) (ok_is e) (refl, refl)
  computed op.Lt x y v e = subst (IsOfSort sort.Bool) (ok_is e) (refl, refl)
  computed op.Le x y v e = subst (IsOfSort sort.Bool) (ok_is e) (refl, refl)
  computed op.Gt x y v e = subst (IsOfSort sort.Bool) (ok_is e) (refl, refl)
  computed op.Ge x y v e = subst (IsOfSort sort.Bool) (ok_is e) (refl, refl)
  computed op.Add x y v e = int_fits (fits_64 (int_of x +ℤ int_of y)) (int_of x +ℤ int_of y) v e
  computed op.Sub x y v e = int_fits (fits_64 (int_of x -ℤ int_of y)) (int_of x -ℤ int_of y) v e
  computed op.Mul x y v e = int_fits (fits_64 (int_of x *ℤ int_of y)) (int_of x *ℤ int_of y) v e

  -- an expression of this sort and with short texts, and its value
  abbrev Comes : Bool → Result Sort TypeFault → Result Value ValueFault → Type 0
  Comes texts sort result = (s : Sort) (v : Value) → texts ≡ true → sort ≡ Ok s → result ≡ Ok v → IsOfSort s v

  lit_comes : (x : Value) → Comes (is_short x) (Ok (sort_of x)) (Ok x)
  lit_comes x s v h is e = subst (IsOfSort s) (ok_is e) (subst (λ t. same_sort (sort_of x) t ≡ true) (sort_ok is) (same_itself (sort_of x)), h)
    where
      sort_ok : {x y : Sort} → ◌≡◌ {A = Result Sort TypeFault} (Ok x) (Ok y) → x ≡ y
      sort_ok e = cc

      same_itself : (t : Sort) → same_sort t t ≡ true
      same_itself sort.Int = refl
      same_itself sort.Text = refl
      same_itself sort.Bool = refl

  col_comes : (name : List ℕ) (o : Option Sort) → column_sort name columns ≡ o → Comes true (sort_step columns (Expr-F.Col name)) (value_step columns row (Expr-F.Col name))
  col_comes name None is s v h e f = absurd (cc (is, e))
  col_comes name (Some t) is s v h e f = subst (IsOfSort s) (ok_is f) (column_fits name s (cc (is, e)))

  not_comes : (b : Bool) (a : Result Sort TypeFault) (x : Result Value ValueFault) → Comes b (sort_step columns (Expr-F.Not a)) (value_step columns row (Expr-F.Not x))
  unfolding not_sort
  not_comes b (Err f) x s v h is e = absurd cc
  not_comes b (Ok t) (Err f) s v h is e = absurd cc
  not_comes b (Ok t) (Ok x) s v h is e = subst (IsOfSort s) (ok_is e) (subst (λ u. IsOfSort u (value.Bool (not (is_true x)))) (chosen (same_sort t sort.Bool) sort.Bool s is) (refl, refl))

  two_comes : (o : Op) (c : Bool) (a b : Result Sort TypeFault) (x y : Result Value ValueFault) → Comes c (sort_step columns (Expr-F.Two o a b)) (value_step columns row (Expr-F.Two o x y))
  unfolding two_sort
  two_comes o c (Err f) b x y s v h is e = absurd cc
  two_comes o c (Ok t) (Err f) x y s v h is e = absurd cc
  two_comes o c (Ok t) (Ok u) (Err f) y s v h is e = absurd cc
  two_comes o c (Ok t) (Ok u) (Ok x) (Err f) s v h is e = absurd cc
  two_comes o c (Ok t) (Ok u) (Ok x) (Ok y) s v h is e = subst (λ z. IsOfSort z v) (chosen (same_sort t u && takes o t) (gives o) s is) (computed o x y v e)

  abbrev Valued : Expr → Type 0
  Valued e = Comes (expr_is_short e) (sort_in columns e) (value_in columns row e)

  rolled : (y : Expr-F Expr)
      → Comes (short_step (map-Expr Expr Bool expr_is_short y)) (sort_step columns (map-Expr Expr (Result Sort TypeFault) (sort_in columns) y)) (value_step columns row (map-Expr Expr (Result Value ValueFault) (value_in columns row) y))
      → Valued (roll-Expr y)
  rolled y has s v h is e =
      has s v (sym (fold-roll-Expr Bool short_step y) ∙ h) (sym (fold-roll-Expr (Result Sort TypeFault) (sort_step columns) y) ∙ is) (sym (fold-roll-Expr (Result Value ValueFault) (value_step columns row) y) ∙ e)

  layer : (y : Expr-F ((e : Expr) × Valued e)) → Valued (roll-Expr (map-Expr ((e : Expr) × Valued e) Expr (λ p. p.0) y))
  layer (Expr-F.Lit x) = rolled (Expr-F.Lit x) (lit_comes x)
  layer (Expr-F.Col name) = rolled (Expr-F.Col name) (col_comes name (column_sort name columns) refl)
  layer (Expr-F.Not a) = rolled (Expr-F.Not a.0) (not_comes _ (sort_in columns a.0) (value_in columns row a.0))
  layer (Expr-F.Two o a b) = rolled (Expr-F.Two o a.0 b.0) (two_comes o _ (sort_in columns a.0) (sort_in columns b.0) (value_in columns row a.0) (value_in columns row b.0))

  -- an expression of this sort has a value of this sort, and no text longer than those of the row and of the expression may be
  pub value_fits : (e : Expr) → Valued e
  value_fits e = ind-Expr Valued (λ x y eq. subst (λ z. Valued (roll-Expr z)) eq (layer y)) e
