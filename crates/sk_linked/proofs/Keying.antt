-- The key that a statement asks for is of the sort of its table's key.
use Rattle.std.specs.Prelude.{ℕ, Bool, true, false, cond, ◌&&◌, ◌≡◌, List, [], ◌∷◌, find, Option, Some, None, Result, Ok, Err, ok_or}
use Rattle.std.proofs.Common.{refl, sym, ap, subst, ◌∙◌}
use Rattle.std.specs.Option.{option_map}
use Rattle.std.specs.Str.{bytes_eq}
use Rattle.std.proofs.lemmas.Bool.{and_parts, false≢true}
use Rattle.sk_rows.specs.declared.value.Sort.{Sort}
use Rattle.sk_rows.specs.declared.value.Sort.TheVariants as sort
use Rattle.sk_rows.specs.declared.value.Value.{Value}
use Rattle.sk_rows.specs.declared.table.Column.{Column}
use Rattle.sk_rows.specs.declared.expr.Op.{Op}
use Rattle.sk_rows.specs.declared.expr.Op.TheVariants as op
use Rattle.sk_rows.specs.declared.expr.Expr.{Expr, roll-Expr, map-Expr}
use Rattle.sk_rows.specs.declared.expr.Expr.TheOpen.{Expr-F}
use Rattle.sk_rows.specs.declared.expr.Expr.TheFolds.{fold-roll-Expr, ind-Expr}
use Rattle.sk_rows.specs.declared.faults.TypeFault.{TypeFault}
use Rattle.sk_rows.specs.declared.faults.TypeFault.TheVariants.{UnknownColumn, TypeMismatch}
use Rattle.sk_rows.specs.Values.{sort_of}
use Rattle.sk_rows.specs.Typing.{column_sort, gives, same_sort, sort_in, sort_step, takes, two_sort}
use Rattle.sk_model.specs.Names.{is_key}
use Rattle.sk_model.specs.Sorts.{is_sort, is_condition}
use Rattle.sk_model.specs.Reads.{Shape, Name, Literal, Equation, Other, joined, shape_step, shape, key_in, key_asked}
use Rattle.sk_model.specs.EngineConditions.{fits_key}
use Rattle.sk_linked.proofs.Valuing.{same_is}

module _ (columns : List Column) where
  -- what the shape of an expression says of its sort
  abbrev Shaped : Shape → Result Sort TypeFault → Type 0
  Shaped (Name name) r = r ≡ ok_or (column_sort name columns) UnknownColumn
  Shaped (Literal v) r = r ≡ Ok (sort_of v)
  Shaped (Equation name v) r = (s : Sort) → r ≡ Ok s → column_sort name columns ≡ Some (sort_of v)
  Shaped Other r = Unit {0}

  is_named : (o : Option Sort) (s : Sort) → ok_or o UnknownColumn ≡ Ok s → o ≡ Some s
  is_named None s e = absurd cc
  is_named (Some t) s e = cc

  chosen : (b : Bool) (s t : Sort) → cond b (Ok s) (Err TypeMismatch) ≡ Ok t → b ≡ true
  chosen true s t e = refl
  chosen false s t e = absurd cc

  equated : (name : List ℕ) (v : Value) (a b : Result Sort TypeFault) → a ≡ ok_or (column_sort name columns) UnknownColumn → b ≡ Ok (sort_of v) → Shaped (Equation name v) (sort_step columns (Expr-F.Two op.Eq a b))
  unfolding two_sort
  equated name v (Err f) b k l s e = absurd cc
  equated name v (Ok t) (Err f) k l s e = absurd cc
  equated name v (Ok t) (Ok u) k l s e =
      let sides : t ≡ u = same_is t u (and_parts _ _ (chosen (same_sort t u && takes op.Eq t) (gives op.Eq) s e)).0 in
      let is : u ≡ sort_of v = cc in
      is_named (column_sort name columns) t (sym k) ∙ ap Some (sides ∙ is)

  two_shaped : (o : Op) (x y : Shape) (a b : Result Sort TypeFault) → Shaped x a → Shaped y b → Shaped (joined o x y) (sort_step columns (Expr-F.Two o a b))
  two_shaped op.Eq (Name name) (Literal v) a b k l = equated name v a b k l
  two_shaped _ _ _ a b k l = tt

  abbrev IsShaped : Expr → Type 0
  IsShaped e = Shaped (shape e) (sort_in columns e)

  rolled : (y : Expr-F Expr) → Shaped (shape_step (map-Expr Expr Shape shape y)) (sort_step columns (map-Expr Expr (Result Sort TypeFault) (sort_in columns) y)) → IsShaped (roll-Expr y)
  rolled y h = subst (λ (x : Shape). Shaped x (sort_in columns (roll-Expr y))) (sym (fold-roll-Expr Shape shape_step y)) (subst (Shaped (shape_step (map-Expr Expr Shape shape y))) (sym (fold-roll-Expr (Result Sort TypeFault) (sort_step columns) y)) h)

  layer : (y : Expr-F ((e : Expr) × IsShaped e)) → IsShaped (roll-Expr (map-Expr ((e : Expr) × IsShaped e) Expr (λ p. p.0) y))
  layer (Expr-F.Lit v) = rolled (Expr-F.Lit v) refl
  layer (Expr-F.Col name) = rolled (Expr-F.Col name) refl
  layer (Expr-F.Not a) = rolled (Expr-F.Not a.0) tt
  layer (Expr-F.Two o a b) = rolled (Expr-F.Two o a.0 b.0) (two_shaped o (shape a.0) (shape b.0) (sort_in columns a.0) (sort_in columns b.0) a.1 b.1)

  shaped : (e : Expr) → IsShaped e
  shaped e = ind-Expr IsShaped (λ x y eq. subst (λ z. IsShaped (roll-Expr z)) eq (layer y)) e

-- the first column is that of its name
key_sorted : (columns : List Column) (name : List ℕ) (v : Value) → is_key columns name ≡ true → column_sort name columns ≡ Some (sort_of v) → fits_key columns v ≡ true
unfolding column_sort
key_sorted [] name v k e = absurd (false≢true k)
key_sorted (c ∷ cs) name v k e = go (first (bytes_eq c.name name) k e)
  where
    first : (b : Bool) → b ≡ true → option_map (λ (c : Column). c.sort) (cond b (Some c) (find (λ (c : Column). bytes_eq c.name name) cs)) ≡ Some (sort_of v) → c.sort ≡ sort_of v
    first true t e = cc
    first false t e = absurd (false≢true t)

    itself : (t : Sort) → same_sort t t ≡ true
    itself sort.Int = refl
    itself sort.Text = refl
    itself sort.Bool = refl

    go : c.sort ≡ sort_of v → same_sort (sort_of v) c.sort ≡ true
    go s = subst (λ t. same_sort (sort_of v) t ≡ true) (sym s) (itself (sort_of v))

some_sort : (o : Result Sort TypeFault) (s : Sort) → is_sort o (Some s) ≡ true → o ≡ Ok s
some_sort (Ok t) s e = ap Ok (same_is t s e)
some_sort (Err f) s e = absurd (false≢true e)

-- a condition that asks for one key asks for one of the key's sort
pub asked_fits : (columns : List Column) (e : Option Expr) (v : Value) → is_condition columns e ≡ true → key_asked columns e ≡ Some v → fits_key columns v ≡ true
asked_fits columns None v c k = absurd cc
asked_fits columns (Some e) v c k = go (shape e) (shaped columns e) k
  where
    asked : (b : Bool) (w : Value) → cond b (Some w) None ≡ Some v → (b ≡ true) × (w ≡ v)
    asked true w e = (refl, cc)
    asked false w e = absurd cc

    go : (x : Shape) → Shaped columns x (sort_in columns e) → key_in columns x ≡ Some v → fits_key columns v ≡ true
    go (Name name) h q = absurd cc
    go (Literal w) h q = absurd cc
    go Other h q = absurd cc
    go (Equation name w) h q =
        let is : (is_key columns name ≡ true) × (w ≡ v) = asked (is_key columns name) w q in
        subst (λ x. fits_key columns x ≡ true) is.1 (key_sorted columns name w is.0 (h sort.Bool (some_sort (sort_in columns e) sort.Bool c)))
