-- The condition on a row that is put says that it fits its table and begins with its key.
use Rattle.std.specs.Prelude.{◌≡◌, ℕ, List, [], ◌∷◌, Some, true, ◌&&◌, All, map, length, sum_by}
use Rattle.std.proofs.Common.{refl, sym, ap, ◌∙◌}
use Rattle.std.specs.Ordering.{eq_by_cmp}
use Rattle.std.proofs.lemmas.Bool.{and_parts, and_from, leb-true, le-leb, false≢true}
use Rattle.std.proofs.lemmas.List.Elements.{All-nil, All-cons, All-head, All-tail}
use Rattle.sk_rows.specs.declared.value.Value.{Value}
use Rattle.sk_rows.specs.declared.value.Value.TheVariants as value
use Rattle.sk_rows.specs.declared.value.Sort.{Sort}
use Rattle.sk_rows.specs.declared.value.Sort.TheVariants as sort
use Rattle.sk_rows.specs.declared.table.Column.{Column}
use Rattle.sk_rows.specs.Typing.{same_sort}
use Rattle.sk_rows.specs.Values.{Fits, IsShort, encoded_len, sort_of, value_cmp}
use Rattle.sk_model.specs.Database.{RowOf}
use Rattle.sk_model.specs.Names.{columns_at}
use Rattle.sk_model.specs.Sorts.{have_sorts}
use Rattle.sk_model.specs.Replies.{has_room, key_of}
use Rattle.sk_model.specs.Engine.{EngineTable}
use Rattle.sk_model.specs.EngineConditions.{is_short, are_short, has_row}
use Rattle.sk_model.specs.EngineLaws.{RowsFit}
use Rattle.sk_model.proofs.Lookups.{tied_is, tied_itself}

sort_is : (s t : Sort) → same_sort s t ≡ true → s ≡ t
sort_is sort.Int sort.Int e = refl
sort_is sort.Text sort.Text e = refl
sort_is sort.Bool sort.Bool e = refl
sort_is sort.Int sort.Text e = absurd (false≢true e)
sort_is sort.Int sort.Bool e = absurd (false≢true e)
sort_is sort.Text sort.Int e = absurd (false≢true e)
sort_is sort.Text sort.Bool e = absurd (false≢true e)
sort_is sort.Bool sort.Int e = absurd (false≢true e)
sort_is sort.Bool sort.Text e = absurd (false≢true e)

sort_itself : (s : Sort) → same_sort s s ≡ true
sort_itself sort.Int = refl
sort_itself sort.Text = refl
sort_itself sort.Bool = refl

sorts_are : (vs : List Value) (cs : List Column) → have_sorts vs cs ≡ true → map sort_of vs ≡ map (λ c. c.sort) cs
sorts_are [] [] e = refl
sorts_are [] (c ∷ cs) e = absurd (false≢true e)
sorts_are (v ∷ vs) [] e = absurd (false≢true e)
sorts_are (v ∷ vs) (c ∷ cs) e =
    let parts : (same_sort (sort_of v) c.sort ≡ true) × (have_sorts vs cs ≡ true) = and_parts (same_sort (sort_of v) c.sort) (have_sorts vs cs) e in
    let head : sort_of v ≡ c.sort = sort_is (sort_of v) c.sort parts.0 in
    let tail : map sort_of vs ≡ map (λ c. c.sort) cs = sorts_are vs cs parts.1 in
    cc

sorts_have : (vs : List Value) (cs : List Column) → map sort_of vs ≡ map (λ c. c.sort) cs → have_sorts vs cs ≡ true
sorts_have [] [] e = refl
sorts_have [] (c ∷ cs) e = absurd (nil_cons e)
  where
    nil_cons : {X : Type 0} {x : X} {xs : List X} → [] ≡ x ∷ xs → ⊥
    nil_cons e = cc
sorts_have (v ∷ vs) [] e = absurd (cons_nil e)
  where
    cons_nil : {X : Type 0} {x : X} {xs : List X} → x ∷ xs ≡ [] → ⊥
    cons_nil e = cc
sorts_have (v ∷ vs) (c ∷ cs) e =
    let head : sort_of v ≡ c.sort = cons_head e in
    and_from (same_sort (sort_of v) c.sort) (have_sorts vs cs) (ap (same_sort (sort_of v)) (sym head) ∙ sort_itself (sort_of v)) (sorts_have vs cs (cons_tail e))
  where
    cons_head : {X : Type 0} {x y : X} {xs ys : List X} → x ∷ xs ≡ y ∷ ys → x ≡ y
    cons_head e = cc

    cons_tail : {X : Type 0} {x y : X} {xs ys : List X} → x ∷ xs ≡ y ∷ ys → xs ≡ ys
    cons_tail e = cc

short_is : (v : Value) → is_short v ≡ true → IsShort v
short_is (value.Int n) e = tt
short_is (value.Text t) e = leb-true (length t) 255 e
short_is (value.Bool b) e = tt

short_has : (v : Value) → IsShort v → is_short v ≡ true
short_has (value.Int n) h = refl
short_has (value.Text t) h = le-leb (length t) 255 h
short_has (value.Bool b) h = refl

all_short : (vs : List Value) → are_short vs ≡ true → All IsShort vs
all_short [] e = All-nil IsShort
all_short (v ∷ vs) e =
    let parts : (is_short v ≡ true) × (are_short vs ≡ true) = and_parts (is_short v) (are_short vs) e in
    All-cons IsShort v vs (short_is v parts.0) (all_short vs parts.1)

short_all : (vs : List Value) → All IsShort vs → are_short vs ≡ true
short_all [] h = refl
short_all (v ∷ vs) h = and_from (is_short v) (are_short vs) (short_has v (All-head IsShort v vs h)) (short_all vs (All-tail IsShort v vs h))

row_is : (e : EngineTable) (t : ℕ) (key : Value) (row : RowOf) → has_row e t key (Some row) ≡ true → Fits row (columns_at e.catalog t) × (key ≡ key_of row)
row_is e t key row h =
    let sorts : (have_sorts row (columns_at e.catalog t) ≡ true) × ((are_short row && (has_room row && eq_by_cmp value_cmp key (key_of row))) ≡ true) = and_parts _ _ h in
    let short : (are_short row ≡ true) × ((has_room row && eq_by_cmp value_cmp key (key_of row)) ≡ true) = and_parts _ _ sorts.1 in
    let room : (has_room row ≡ true) × (eq_by_cmp value_cmp key (key_of row) ≡ true) = and_parts _ _ short.1 in (
      record {
        sorts = sorts_are row (columns_at e.catalog t) sorts.0;
        short = all_short row short.0;
        room = leb-true (sum_by encoded_len row) 1024 room.0;
      },
      tied_is key (key_of row) room.1,
    )

row_has : (e : EngineTable) (t : ℕ) (key : Value) (row : RowOf) → Fits row (columns_at e.catalog t) × (key ≡ key_of row) → has_row e t key (Some row) ≡ true
row_has e t key row h =
    and_from _ _ (sorts_have row (columns_at e.catalog t) h.0.sorts)
    (and_from _ _ (short_all row h.0.short)
    (and_from _ _ (le-leb (sum_by encoded_len row) 1024 h.0.room) (ap (λ k. eq_by_cmp value_cmp k (key_of row)) h.1 ∙ tied_itself (key_of row))))

pub fit : RowsFit
fit e t key row = (row_is e t key row, row_has e t key row)
