-- Identities of rows in the order of a set.
use Rattle.std.specs.Prelude.{◌≡◌, ℕ, List, [], ◌∷◌, Bool, true, false, ◌&&◌, ◌||◌, ◌==◌}
use Rattle.std.proofs.Common.{refl, sym, ap, ◌∙◌}
use Rattle.std.specs.declared.cmp.Ordering.{Ordering}
use Rattle.std.specs.declared.cmp.Ordering.TheVariants.{Less, Equal, Greater}
use Rattle.std.specs.Ordering.{nat_cmp, is_eq, eq_by_cmp, match_ordering}
use Rattle.std.specs.Cmp.{tied_then, unsigned_tied}
use Rattle.std.specs.BTreeSet.{insert_key}
use Rattle.std.proofs.lemmas.Bool.{and_parts, eqb-true, and_from, eq-eqb}
use Rattle.sk_rows.specs.declared.value.Value.{Value}
use Rattle.sk_rows.specs.Values.{value_cmp}
use Rattle.sk_model.proofs.Lookups.{tied_is, tied_itself}
use Rattle.sk_engine.specs.declared.row_id.RowId.{RowId}
use Rattle.sk_engine.specs.Rows.{is_row_id, is_among}
use Rattle.sk_engine.specs.Stands.{row_id_cmp}

pub row_id_is : (t : ℕ) (key : Value) (p : RowId) → is_row_id t key p ≡ true → (t ≡ p.table) × (key ≡ p.key)
row_id_is t key p e =
    let parts : ((t == p.table) ≡ true) × (eq_by_cmp value_cmp key p.key ≡ true) = and_parts (t == p.table) (eq_by_cmp value_cmp key p.key) e in
    (eqb-true t p.table parts.0, tied_is key p.key parts.1)

pub row_id_itself : (p : RowId) → is_row_id p.table p.key p ≡ true
row_id_itself p = and_from (p.table == p.table) (eq_by_cmp value_cmp p.key p.key) (eq-eqb p.table p.table refl) (tied_itself p.key)

row_id_tied : (p x : RowId) → is_eq (row_id_cmp p x) ≡ is_row_id p.table p.key x
row_id_tied p x = sym (tied_then (nat_cmp p.table x.table) (value_cmp p.key x.key)) ∙ ap (λ b. b && is_eq (value_cmp p.key x.key)) (unsigned_tied p.table x.table)

-- identities that tie are one
pub row_id_same : (p x : RowId) → row_id_cmp p x ≡ Equal → p ≡ x
row_id_same p x e =
    let is : (p.table ≡ x.table) × (p.key ≡ x.key) = row_id_is p.table p.key x (sym (row_id_tied p x) ∙ ap is_eq e) in
    λ i. record { table = is.0 i; key = is.1 i }

or_swap : (a b : Bool) → (a || b) ≡ (b || a)
or_swap true true = refl
or_swap true false = refl
or_swap false true = refl
or_swap false false = refl

or_join : (a b c : Bool) → (a || (b || c)) ≡ ((a || b) || c)
or_join true b c = refl
or_join false b c = refl

or_again : (a b : Bool) → (a || b) ≡ ((a || b) || a)
or_again true b = refl
or_again false true = refl
or_again false false = refl

more_step : (t : ℕ) (key : Value) (p x : RowId) (xs : List RowId) (o : Ordering) → row_id_cmp p x ≡ o → is_among t key (insert_key row_id_cmp xs p) ≡ (is_among t key xs || is_row_id t key p)
    → is_among t key (match_ordering o (p ∷ x ∷ xs) (x ∷ xs) (x ∷ insert_key row_id_cmp xs p)) ≡ (is_among t key (x ∷ xs) || is_row_id t key p)
more_step t key p x xs Less e ih = or_swap (is_row_id t key p) (is_among t key (x ∷ xs))
more_step t key p x xs Equal e ih = or_again (is_row_id t key x) (is_among t key xs) ∙ ap (λ y. is_among t key (x ∷ xs) || is_row_id t key y) (sym (row_id_same p x e))
more_step t key p x xs Greater e ih = ap (λ b. is_row_id t key x || b) ih ∙ or_join (is_row_id t key x) (is_among t key xs) (is_row_id t key p)

-- a set with one row more
pub among_one_more : (t : ℕ) (key : Value) (p : RowId) (xs : List RowId) → is_among t key (insert_key row_id_cmp xs p) ≡ (is_among t key xs || is_row_id t key p)
among_one_more t key p [] = or_swap (is_row_id t key p) false
among_one_more t key p (x ∷ xs) = more_step t key p x xs (row_id_cmp p x) refl (among_one_more t key p xs)
