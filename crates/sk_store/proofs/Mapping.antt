-- The heads at keys that tie, and those of a table that was replaced.
use Rattle.std.specs.Prelude.{◌≡◌, ◌<◌, ◌≤◌, ℕ, zero, suc, List, [], ◌∷◌, Option, Some, None, Bool, true, false, cond, ◌==◌, ◌&&◌, length, slice_set, slice_index_or}
use Rattle.std.proofs.Common.{refl, sym, ap, subst, ◌∙◌, ⊎_elim, arith}
use Rattle.std.specs.Option.{unwrap_or}
use Rattle.std.specs.Ordering.{eq_by_cmp}
use Rattle.std.specs.Map.{lookup}
use Rattle.std.specs.BTreeMap.{BTreeMap, is_at}
use Rattle.std.proofs.lemmas.Bool.{and_parts, eqb-true, eq-eqb, ne_eqb, cases_eq, cases_Bool, cond-true, cond-false}
use Rattle.sk_rows.specs.declared.value.Value.{Value}
use Rattle.sk_rows.specs.Values.{value_cmp}
use Rattle.sk_model.proofs.Lookups.{tied_is}
use Rattle.sk_store.specs.declared.head.Head.{Head}
use Rattle.sk_store.specs.Heads.{acted_head, no_head}
use Rattle.sk_engine.specs.declared.act.Act.{Act}
use Rattle.sk_engine.specs.declared.act.Act.TheVariants as act
use Rattle.sk_store.specs.Maps.{head_of, head_at, is_at_row}

-- a row is the one whose table and key it has
pub row_is : (t : ℕ) (k : Value) (u : ℕ) (key : Value) → is_at_row t k u key ≡ true → (t ≡ u) × (k ≡ key)
row_is t k u key e =
    let parts : ((t == u) ≡ true) × (eq_by_cmp value_cmp key k ≡ true) = and_parts (t == u) (eq_by_cmp value_cmp key k) e in
    (eqb-true t u parts.0, sym (tied_is key k parts.1))

pub acted_none : (a : Act) → acted_head a no_head ≡ no_head
acted_none (act.Close f) = refl
acted_none (act.Stamp n) = refl
acted_none act.Void = refl

abbrev At : List (Value × Head) → Value → Option Head
At es q = lookup (is_at (value_cmp q)) es

-- where the head at a key was replaced by what f makes of it
pub changed_there : (es fs : List (Value × Head)) (key : Value) (f : Head → Head) (o n : Head) → At es key ≡ Some o → n ≡ f o
    → ((q : Value) → At fs q ≡ cond (is_at (value_cmp key) q) (Some n) (At es q))
    → (q : Value) → head_of fs q ≡ cond (eq_by_cmp value_cmp key q) (f (head_of es q)) (head_of es q)
changed_there es fs key f o n there is new q = ⊎_elim
    (λ (e : eq_by_cmp value_cmp key q ≡ true).
    let at : key ≡ q = tied_is key q e in
    ap (λ x. unwrap_or x no_head) (new q ∙ cond-true (is_at (value_cmp key) q) (Some n) (At es q) e) ∙ is
    ∙ ap (λ x. f (unwrap_or x no_head)) (sym there ∙ ap (At es) at) ∙ sym (cond-true (eq_by_cmp value_cmp key q) (f (head_of es q)) (head_of es q) e))
    (λ (e : eq_by_cmp value_cmp key q ≡ false).
    ap (λ x. unwrap_or x no_head) (new q ∙ cond-false (is_at (value_cmp key) q) (Some n) (At es q) e) ∙ sym (cond-false (eq_by_cmp value_cmp key q) (f (head_of es q)) (head_of es q) e))
    (cases_Bool (eq_by_cmp value_cmp key q))

-- where there is none, nothing is changed
pub changed_nowhere : (es : List (Value × Head)) (key : Value) (f : Head → Head) → f no_head ≡ no_head → At es key ≡ None
    → (q : Value) → head_of es q ≡ cond (eq_by_cmp value_cmp key q) (f (head_of es q)) (head_of es q)
changed_nowhere es key f same none q = ⊎_elim
    (λ (e : eq_by_cmp value_cmp key q ≡ true).
    let bare : head_of es q ≡ no_head = ap (λ x. unwrap_or x no_head) (ap (At es) (sym (tied_is key q e)) ∙ none) in
    bare ∙ sym same ∙ ap f (sym bare) ∙ sym (cond-true (eq_by_cmp value_cmp key q) (f (head_of es q)) (head_of es q) e))
    (λ (e : eq_by_cmp value_cmp key q ≡ false). sym (cond-false (eq_by_cmp value_cmp key q) (f (head_of es q)) (head_of es q) e))
    (cases_Bool (eq_by_cmp value_cmp key q))

-- where a head without versions is put in for none, nothing is seen of it
pub prepared : (es fs : List (Value × Head)) (key k : Value) (n : Head) → At es key ≡ None → k ≡ key → n ≡ no_head → ((q : Value) → At fs q ≡ cond (is_at (value_cmp k) q) (Some n) (At es q))
    → (q : Value) → head_of fs q ≡ head_of es q
prepared es fs key k n none same bare new q = ap (λ x. unwrap_or x no_head) (new q) ∙ go (is_at (value_cmp k) q) refl
  where
    go : (b : Bool) → is_at (value_cmp k) q ≡ b → unwrap_or (cond b (Some n) (At es q)) no_head ≡ head_of es q
    go true e = bare ∙ sym (ap (λ x. unwrap_or x no_head) (ap (At es) (sym (sym same ∙ tied_is k q e)) ∙ none))
    go false e = refl

abbrev Maps : Type 0
Maps = List (BTreeMap Value Head)

set_same : (ts : Maps) (m : BTreeMap Value Head) (u : ℕ) (key : Value) → u < length ts → head_at (slice_set ts u m) u key ≡ head_of m.entries key
set_same [] m u key l = absurd (omega arith)
set_same (x ∷ xs) m zero key l = refl
set_same (x ∷ xs) m (suc u) key l = let less : u < length xs = omega arith in set_same xs m u key less

set_other : (ts : Maps) (m : BTreeMap Value Head) (u t : ℕ) (key : Value) → (t ≡ u → ⊥) → head_at (slice_set ts u m) t key ≡ head_at ts t key
set_other [] m u t key ne = refl
set_other (x ∷ xs) m zero zero key ne = absurd (ne refl)
set_other (x ∷ xs) m zero (suc t) key ne = refl
set_other (x ∷ xs) m (suc u) zero key ne = refl
set_other (x ∷ xs) m (suc u) (suc t) key ne = set_other xs m u t key (λ e. ne (ap suc e))

-- the heads of a table that was replaced
head_set : (ts : Maps) (m : BTreeMap Value Head) (u t : ℕ) (key : Value) → u < length ts → head_at (slice_set ts u m) t key ≡ cond (t == u) (head_of m.entries key) (head_at ts t key)
head_set ts m u t key l = ⊎_elim
    (λ (e : t ≡ u).
    ap (λ n. head_at (slice_set ts u m) n key) e ∙ set_same ts m u key l ∙ sym (cond-true (t == u) (head_of m.entries key) (head_at ts t key) (eq-eqb t u e)))
    (λ (ne : t ≡ u → ⊥). set_other ts m u t key ne ∙ sym (cond-false (t == u) (head_of m.entries key) (head_at ts t key) (ne_eqb t u ne)))
    (cases_eq t u)

pub head_here : (ts : Maps) (d : BTreeMap Value Head) (u : ℕ) (key : Value) → u < length ts → head_of (slice_index_or ts u d).entries key ≡ head_at ts u key
head_here [] d u key l = absurd (omega arith)
head_here (x ∷ xs) d zero key l = refl
head_here (x ∷ xs) d (suc u) key l = let less : u < length xs = omega arith in head_here xs d u key less

pub no_heads : (ts : Maps) (t : ℕ) (key : Value) → length ts ≤ t → head_at ts t key ≡ no_head
no_heads [] t key l = refl
no_heads (x ∷ xs) zero key l = absurd (omega arith)
no_heads (x ∷ xs) (suc t) key l = let less : length xs ≤ t = omega arith in no_heads xs t key less

-- one row of a table that is there was changed
pub changed_at : (ts : Maps) (u : ℕ) (k : Value) (f : Head → Head) (old new : BTreeMap Value Head) → u < length ts → ((q : Value) → head_of old.entries q ≡ head_at ts u q)
    → ((q : Value) → head_of new.entries q ≡ cond (eq_by_cmp value_cmp k q) (f (head_of old.entries q)) (head_of old.entries q))
    → (t : ℕ) (key : Value) → head_at (slice_set ts u new) t key ≡ cond (is_at_row t key u k) (f (head_at ts t key)) (head_at ts t key)
changed_at ts u k f old new l was is t key = head_set ts new u t key l ∙ go (t == u) refl
  where
    go : (b : Bool) → (t == u) ≡ b → cond b (head_of new.entries key) (head_at ts t key) ≡ cond (b && eq_by_cmp value_cmp k key) (f (head_at ts t key)) (head_at ts t key)
    go true e =
        let here : head_of old.entries key ≡ head_at ts t key = was key ∙ ap (λ n. head_at ts n key) (sym (eqb-true t u e)) in
        is key ∙ ap (λ c. cond (eq_by_cmp value_cmp k key) (f c) c) here
    go false e = refl

-- a row of no table
pub changed_past : (ts : Maps) (u : ℕ) (k : Value) (f : Head → Head) → f no_head ≡ no_head → length ts ≤ u → (t : ℕ) (key : Value) → head_at ts t key ≡ cond (is_at_row t key u k) (f (head_at ts t key)) (head_at ts t key)
changed_past ts u k f same l t key = go (is_at_row t key u k) refl
  where
    go : (b : Bool) → is_at_row t key u k ≡ b → head_at ts t key ≡ cond b (f (head_at ts t key)) (head_at ts t key)
    go true e =
        let bare : head_at ts t key ≡ no_head = no_heads ts t key (subst (λ n. length ts ≤ n) (sym (row_is t key u k e).0) l) in
        bare ∙ sym same ∙ ap f (sym bare)
    go false e = refl

-- other rows than the one that was written
pub others_at : (ts : Maps) (u : ℕ) (k : Value) (old new : BTreeMap Value Head) → u < length ts → ((q : Value) → head_of old.entries q ≡ head_at ts u q)
    → ((q : Value) → eq_by_cmp value_cmp k q ≡ false → head_of new.entries q ≡ head_of old.entries q)
    → (t : ℕ) (key : Value) → is_at_row t key u k ≡ false → head_at (slice_set ts u new) t key ≡ head_at ts t key
others_at ts u k old new l was is t key off = head_set ts new u t key l ∙ go (t == u) refl off
  where
    go : (b : Bool) → (t == u) ≡ b → (b && eq_by_cmp value_cmp k key) ≡ false → cond b (head_of new.entries key) (head_at ts t key) ≡ head_at ts t key
    go true e d = is key d ∙ was key ∙ ap (λ n. head_at ts n key) (sym (eqb-true t u e))
    go false e d = refl

-- the row that was written
pub written_at : (ts : Maps) (u : ℕ) (k : Value) (new : BTreeMap Value Head) → u < length ts → head_at (slice_set ts u new) u k ≡ head_of new.entries k
written_at ts u k new l = head_set ts new u u k l ∙ cond-true (u == u) (head_of new.entries k) (head_at ts u k) (eq-eqb u u refl)
