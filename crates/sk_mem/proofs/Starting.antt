-- The chains that are made for opening rows.
use Rattle.std.specs.Prelude.{◌≡◌, ◌≤◌, ◌-◌, ℕ, zero, suc, List, [], ◌∷◌, ◌++◌, Option, Some, None, Bool, true, false, cond, length, take, get_or}
use Rattle.std.proofs.Common.{refl, sym, ap, ◌∙◌, arith}
use Rattle.std.specs.BTreeMap.{BTreeMap, is_at}
use Rattle.std.specs.FinMap.{find}
use Rattle.std.specs.Map.{lookup}
use Rattle.std.specs.Option.{unwrap_or}
use Rattle.std.specs.Ordering.{is_eq}
use Rattle.std.specs.Cmp.{eq_by_cmp_equiv}
use Rattle.sk_rows.specs.declared.value.Value.{Value}
use Rattle.sk_rows.specs.Values.{value_cmp}
use Rattle.sk_rows.specs.Orders.{value_cmp_total}
use Rattle.sk_model.specs.Database.{RowOf, KeyedRows, Tables, row_of}
use Rattle.sk_chain.specs.Chained.{Chained, empty}
use Rattle.sk_engine.specs.Stands.{begun}
use Rattle.sk_mem.specs.Chains.{chain_of, chain_at}

-- a list ends with its last element
ends_at : {X : Type 0} (n : ℕ) (xs : List X) (x : X) → suc n ≡ length xs → x ≡ get_or xs n x → xs ≡ take n xs ++ x ∷ []
ends_at n [] x e g = absurd (omega arith)
ends_at zero (w ∷ []) x e g = ap (λ y. y ∷ []) (sym g)
ends_at zero (w ∷ y ∷ ys) x e g = absurd (omega arith)
ends_at (suc n) (w ∷ ws) x e g = let f : suc n ≡ length ws = omega arith in ap (λ ys. w ∷ ys) (ends_at n ws x f g)

pub list_ends : {X : Type 0} (xs : List X) (x : X) → 1 ≤ length xs → x ≡ get_or xs (length xs - 1) x → xs ≡ take (length xs - 1) xs ++ x ∷ []
list_ends xs x some g = let e : suc (length xs - 1) ≡ length xs = omega arith in ends_at (length xs - 1) xs x e g

-- the chain of a row among these, or else this one
abbrev pub first_or : ℕ → Option RowOf → Chained → Chained
first_or start None c = c
first_or start (Some row) c = begun start (Some row)

pub first_none : (start : ℕ) (o : Option RowOf) → first_or start o empty ≡ begun start o
first_none start None = refl
first_none start (Some row) = refl

-- the last row of a list goes behind the others
last_row : (start : ℕ) (q : Value) (rows : KeyedRows) (r : Value × RowOf) (c : Chained)
    → first_or start (find value_cmp q (rows ++ r ∷ [])) c ≡ first_or start (find value_cmp q rows) (cond (is_eq (value_cmp q r.0)) (begun start (Some r.1)) c)
last_row start q [] r c = go (is_eq (value_cmp q r.0))
  where
    go : (b : Bool) → first_or start (cond b (Some r.1) None) c ≡ cond b (begun start (Some r.1)) c
    go true = refl
    go false = refl
last_row start q (x ∷ xs) r c = go (is_eq (value_cmp q x.0)) (last_row start q xs r c)
  where
    go : (b : Bool) → first_or start (find value_cmp q (xs ++ r ∷ [])) c ≡ first_or start (find value_cmp q xs) (cond (is_eq (value_cmp q r.0)) (begun start (Some r.1)) c)
        → first_or start (cond b (Some x.1) (find value_cmp q (xs ++ r ∷ []))) c ≡ first_or start (cond b (Some x.1) (find value_cmp q xs)) (cond (is_eq (value_cmp q r.0)) (begun start (Some r.1)) c)
    go true ih = refl
    go false ih = ih

-- one row is put in, from the end of the list
pub first_more : (start : ℕ) (rows : KeyedRows) (r : Value × RowOf) (key : Value) (n : Chained) (es fs : List (Value × Chained)) → 1 ≤ length rows → r ≡ get_or rows (length rows - 1) r
    → key ≡ r.0 → n ≡ begun start (Some r.1)
    → ((q : Value) → lookup (is_at (value_cmp q)) fs ≡ cond (is_at (value_cmp key) q) (Some n) (lookup (is_at (value_cmp q)) es))
    → (q : Value) → first_or start (find value_cmp q (take (length rows - 1) rows)) (chain_of fs q) ≡ first_or start (find value_cmp q rows) (chain_of es q)
first_more start rows r key n es fs some last same is new q =
    ap (first_or start (find value_cmp q (take (length rows - 1) rows))) (ap (λ o. unwrap_or o empty) (new q) ∙ pull (is_eq (value_cmp key q)) (lookup (is_at (value_cmp q)) es) ∙ ap (λ b. cond b (begun start (Some r.1)) (chain_of es q)) turned)
    ∙ sym (last_row start q (take (length rows - 1) rows) r (chain_of es q))
    ∙ ap (λ xs. first_or start (find value_cmp q xs) (chain_of es q)) (sym (list_ends rows r some last))
  where
    turned : is_eq (value_cmp key q) ≡ is_eq (value_cmp q r.0)
    turned = (eq_by_cmp_equiv value_cmp_total).symm key q ∙ ap (λ k. is_eq (value_cmp q k)) same

    pull : (b : Bool) (o : Option Chained) → unwrap_or (cond b (Some n) o) empty ≡ cond b (begun start (Some r.1)) (unwrap_or o empty)
    pull true o = is
    pull false o = refl

-- one more table
pub more_tables : (start : ℕ) (ts : List (BTreeMap Value Chained)) (m : BTreeMap Value Chained) (tables : Tables) (rows : KeyedRows) → length ts ≡ length tables
    → ((t : ℕ) (key : Value) → chain_at ts t key ≡ begun start (row_of tables t key)) → ((q : Value) → chain_of m.entries q ≡ begun start (find value_cmp q rows))
    → (t : ℕ) (key : Value) → chain_at (ts ++ m ∷ []) t key ≡ begun start (row_of (tables ++ rows ∷ []) t key)
more_tables start [] m [] rows len h is zero key = is key
more_tables start [] m [] rows len h is (suc t) key = refl
more_tables start [] m (x ∷ xs) rows len h is t key = absurd (omega arith)
more_tables start (y ∷ ys) m [] rows len h is t key = absurd (omega arith)
more_tables start (y ∷ ys) m (x ∷ xs) rows len h is zero key = h 0 key
more_tables start (y ∷ ys) m (x ∷ xs) rows len h is (suc t) key = let less : length ys ≡ length xs = omega arith in more_tables start ys m xs rows less (λ t key. h (suc t) key) is t key
