-- The chains at keys that tie, and those of a table that was replaced.
use Rattle.std.specs.Prelude.{◌≡◌, ◌<◌, ◌≤◌, ℕ, zero, suc, List, [], ◌∷◌, Option, Some, None, Bool, true, false, cond, ◌==◌, ◌&&◌, length, slice_set, slice_index_or}
use Rattle.std.proofs.Common.{refl, sym, ap, subst, ◌∙◌, ⊎_elim, arith}
use Rattle.std.specs.Option.{unwrap_or}
use Rattle.std.specs.Ordering.{eq_by_cmp}
use Rattle.std.specs.Map.{lookup}
use Rattle.std.specs.BTreeMap.{BTreeMap, is_at}
use Rattle.std.proofs.lemmas.Bool.{and_parts, eqb-true, eq-eqb, ne_eqb, cases_eq, cases_Bool, cond-true, cond-false}
use Rattle.sk_rows.specs.declared.value.Value.{Value}
use Rattle.sk_rows.specs.Values.{value_cmp}
use Rattle.sk_model.proofs.Lookups.{tied_is}
use Rattle.sk_chain.specs.Chained.{Chained, empty}
use Rattle.sk_engine.specs.declared.act.Act.{Act}
use Rattle.sk_engine.specs.declared.act.Act.TheVariants as act
use Rattle.sk_engine.specs.Rows.{acted}
use Rattle.sk_mem.specs.Chains.{chain_of, chain_at, is_at_row}

-- a row is the one whose table and key it has
pub row_is : (t : ℕ) (k : Value) (u : ℕ) (key : Value) → is_at_row t k u key ≡ true → (t ≡ u) × (k ≡ key)
row_is t k u key e =
    let parts : ((t == u) ≡ true) × (eq_by_cmp value_cmp key k ≡ true) = and_parts (t == u) (eq_by_cmp value_cmp key k) e in
    (eqb-true t u parts.0, sym (tied_is key k parts.1))

pub acted_empty : (a : Act) → acted a empty ≡ empty
acted_empty (act.Close f) = refl
acted_empty (act.Stamp n) = refl
acted_empty act.Void = refl

abbrev At : List (Value × Chained) → Value → Option Chained
At es q = lookup (is_at (value_cmp q)) es

-- where the chain at a key was replaced by what f makes of it
pub changed_there : (es fs : List (Value × Chained)) (key : Value) (f : Chained → Chained) (o n : Chained) → At es key ≡ Some o → n ≡ f o
    → ((q : Value) → At fs q ≡ cond (is_at (value_cmp key) q) (Some n) (At es q))
    → (q : Value) → chain_of fs q ≡ cond (eq_by_cmp value_cmp key q) (f (chain_of es q)) (chain_of es q)
changed_there es fs key f o n there is new q = ⊎_elim
    (λ (e : eq_by_cmp value_cmp key q ≡ true).
    let at : key ≡ q = tied_is key q e in
    ap (λ x. unwrap_or x empty) (new q ∙ cond-true (is_at (value_cmp key) q) (Some n) (At es q) e) ∙ is
    ∙ ap (λ x. f (unwrap_or x empty)) (sym there ∙ ap (At es) at) ∙ sym (cond-true (eq_by_cmp value_cmp key q) (f (chain_of es q)) (chain_of es q) e))
    (λ (e : eq_by_cmp value_cmp key q ≡ false).
    ap (λ x. unwrap_or x empty) (new q ∙ cond-false (is_at (value_cmp key) q) (Some n) (At es q) e) ∙ sym (cond-false (eq_by_cmp value_cmp key q) (f (chain_of es q)) (chain_of es q) e))
    (cases_Bool (eq_by_cmp value_cmp key q))

-- where there is none, nothing is changed
pub changed_nowhere : (es : List (Value × Chained)) (key : Value) (f : Chained → Chained) → f empty ≡ empty → At es key ≡ None
    → (q : Value) → chain_of es q ≡ cond (eq_by_cmp value_cmp key q) (f (chain_of es q)) (chain_of es q)
changed_nowhere es key f same none q = ⊎_elim
    (λ (e : eq_by_cmp value_cmp key q ≡ true).
    let bare : chain_of es q ≡ empty = ap (λ x. unwrap_or x empty) (ap (At es) (sym (tied_is key q e)) ∙ none) in
    bare ∙ sym same ∙ ap f (sym bare) ∙ sym (cond-true (eq_by_cmp value_cmp key q) (f (chain_of es q)) (chain_of es q) e))
    (λ (e : eq_by_cmp value_cmp key q ≡ false). sym (cond-false (eq_by_cmp value_cmp key q) (f (chain_of es q)) (chain_of es q) e))
    (cases_Bool (eq_by_cmp value_cmp key q))

-- where an empty chain is put in for none, nothing is seen of it
pub prepared : (es fs : List (Value × Chained)) (key k : Value) (n : Chained) → At es key ≡ None → k ≡ key → n ≡ empty → ((q : Value) → At fs q ≡ cond (is_at (value_cmp k) q) (Some n) (At es q))
    → (q : Value) → chain_of fs q ≡ chain_of es q
prepared es fs key k n none same bare new q = ap (λ x. unwrap_or x empty) (new q) ∙ go (is_at (value_cmp k) q) refl
  where
    go : (b : Bool) → is_at (value_cmp k) q ≡ b → unwrap_or (cond b (Some n) (At es q)) empty ≡ chain_of es q
    go true e = bare ∙ sym (ap (λ x. unwrap_or x empty) (ap (At es) (sym (sym same ∙ tied_is k q e)) ∙ none))
    go false e = refl

abbrev Maps : Type 0
Maps = List (BTreeMap Value Chained)

set_same : (ts : Maps) (m : BTreeMap Value Chained) (u : ℕ) (key : Value) → u < length ts → chain_at (slice_set ts u m) u key ≡ chain_of m.entries key
set_same [] m u key l = absurd (omega arith)
set_same (x ∷ xs) m zero key l = refl
set_same (x ∷ xs) m (suc u) key l = let less : u < length xs = omega arith in set_same xs m u key less

set_other : (ts : Maps) (m : BTreeMap Value Chained) (u t : ℕ) (key : Value) → (t ≡ u → ⊥) → chain_at (slice_set ts u m) t key ≡ chain_at ts t key
set_other [] m u t key ne = refl
set_other (x ∷ xs) m zero zero key ne = absurd (ne refl)
set_other (x ∷ xs) m zero (suc t) key ne = refl
set_other (x ∷ xs) m (suc u) zero key ne = refl
set_other (x ∷ xs) m (suc u) (suc t) key ne = set_other xs m u t key (λ e. ne (ap suc e))

-- the chains of a table that was replaced
chain_set : (ts : Maps) (m : BTreeMap Value Chained) (u t : ℕ) (key : Value) → u < length ts → chain_at (slice_set ts u m) t key ≡ cond (t == u) (chain_of m.entries key) (chain_at ts t key)
chain_set ts m u t key l = ⊎_elim
    (λ (e : t ≡ u).
    ap (λ n. chain_at (slice_set ts u m) n key) e ∙ set_same ts m u key l ∙ sym (cond-true (t == u) (chain_of m.entries key) (chain_at ts t key) (eq-eqb t u e)))
    (λ (ne : t ≡ u → ⊥). set_other ts m u t key ne ∙ sym (cond-false (t == u) (chain_of m.entries key) (chain_at ts t key) (ne_eqb t u ne)))
    (cases_eq t u)

pub chain_here : (ts : Maps) (d : BTreeMap Value Chained) (u : ℕ) (key : Value) → u < length ts → chain_of (slice_index_or ts u d).entries key ≡ chain_at ts u key
chain_here [] d u key l = absurd (omega arith)
chain_here (x ∷ xs) d zero key l = refl
chain_here (x ∷ xs) d (suc u) key l = let less : u < length xs = omega arith in chain_here xs d u key less

pub no_chain : (ts : Maps) (t : ℕ) (key : Value) → length ts ≤ t → chain_at ts t key ≡ empty
no_chain [] t key l = refl
no_chain (x ∷ xs) zero key l = absurd (omega arith)
no_chain (x ∷ xs) (suc t) key l = let less : length xs ≤ t = omega arith in no_chain xs t key less

-- one row of a table that is there was changed
pub changed_at : (ts : Maps) (u : ℕ) (k : Value) (f : Chained → Chained) (old new : BTreeMap Value Chained) → u < length ts → ((q : Value) → chain_of old.entries q ≡ chain_at ts u q)
    → ((q : Value) → chain_of new.entries q ≡ cond (eq_by_cmp value_cmp k q) (f (chain_of old.entries q)) (chain_of old.entries q))
    → (t : ℕ) (key : Value) → chain_at (slice_set ts u new) t key ≡ cond (is_at_row t key u k) (f (chain_at ts t key)) (chain_at ts t key)
changed_at ts u k f old new l was is t key = chain_set ts new u t key l ∙ go (t == u) refl
  where
    go : (b : Bool) → (t == u) ≡ b → cond b (chain_of new.entries key) (chain_at ts t key) ≡ cond (b && eq_by_cmp value_cmp k key) (f (chain_at ts t key)) (chain_at ts t key)
    go true e =
        let here : chain_of old.entries key ≡ chain_at ts t key = was key ∙ ap (λ n. chain_at ts n key) (sym (eqb-true t u e)) in
        is key ∙ ap (λ c. cond (eq_by_cmp value_cmp k key) (f c) c) here
    go false e = refl

-- a row of no table
pub changed_past : (ts : Maps) (u : ℕ) (k : Value) (f : Chained → Chained) → f empty ≡ empty → length ts ≤ u → (t : ℕ) (key : Value) → chain_at ts t key ≡ cond (is_at_row t key u k) (f (chain_at ts t key)) (chain_at ts t key)
changed_past ts u k f same l t key = go (is_at_row t key u k) refl
  where
    go : (b : Bool) → is_at_row t key u k ≡ b → chain_at ts t key ≡ cond b (f (chain_at ts t key)) (chain_at ts t key)
    go true e =
        let bare : chain_at ts t key ≡ empty = no_chain ts t key (subst (λ n. length ts ≤ n) (sym (row_is t key u k e).0) l) in
        bare ∙ sym same ∙ ap f (sym bare)
    go false e = refl

-- other rows than the one that was written
pub others_at : (ts : Maps) (u : ℕ) (k : Value) (old new : BTreeMap Value Chained) → u < length ts → ((q : Value) → chain_of old.entries q ≡ chain_at ts u q)
    → ((q : Value) → eq_by_cmp value_cmp k q ≡ false → chain_of new.entries q ≡ chain_of old.entries q)
    → (t : ℕ) (key : Value) → is_at_row t key u k ≡ false → chain_at (slice_set ts u new) t key ≡ chain_at ts t key
others_at ts u k old new l was is t key off = chain_set ts new u t key l ∙ go (t == u) refl off
  where
    go : (b : Bool) → (t == u) ≡ b → (b && eq_by_cmp value_cmp k key) ≡ false → cond b (chain_of new.entries key) (chain_at ts t key) ≡ chain_at ts t key
    go true e d = is key d ∙ was key ∙ ap (λ n. chain_at ts n key) (sym (eqb-true t u e))
    go false e d = refl

-- the row that was written
pub written_at : (ts : Maps) (u : ℕ) (k : Value) (new : BTreeMap Value Chained) → u < length ts → chain_at (slice_set ts u new) u k ≡ chain_of new.entries k
written_at ts u k new l = chain_set ts new u u k l ∙ cond-true (u == u) (chain_of new.entries k) (chain_at ts u k) (eq-eqb u u refl)
