-- What is read of all rows of a table is its scan.
use Rattle.std.specs.Prelude.{◌≡◌, ℕ, List, [], ◌∷◌, ◌++◌, Option, Some, None, Bool, true, false, cond, T, ◌&&◌}
use Rattle.std.proofs.Common.{refl, sym, ap, subst, ◌∙◌}
use Rattle.std.specs.BTreeMap.{is_at}
use Rattle.std.specs.FinMap.{find, is_sorted}
use Rattle.std.specs.FinMap.Entries.{below_all}
use Rattle.std.specs.List.{AllByRecursion}
use Rattle.std.specs.List.Sorted.{IsStrictlySortedBy}
use Rattle.std.specs.Map.{lookup, keys_of}
use Rattle.std.specs.Option.{unwrap_or}
use Rattle.std.specs.Ordering.{eq_by_cmp, is_eq, is_lt}
use Rattle.std.specs.declared.cmp.Ordering.{Ordering}
use Rattle.std.specs.declared.cmp.Ordering.TheVariants.{Less, Equal, Greater}
use Rattle.std.proofs.lemmas.Bool.{cond-true, cond-false}
use Rattle.sk_rows.specs.declared.value.Value.{Value}
use Rattle.sk_rows.specs.Values.{value_cmp}
use Rattle.sk_rows.specs.Orders.{value_cmp_total}
use Rattle.sk_model.specs.declared.label.Label.{Label}
use Rattle.sk_model.specs.declared.call.EngineFault.TheVariants as fault
use Rattle.sk_model.specs.declared.call.EngineReply.{EngineReply}
use Rattle.sk_model.specs.declared.call.EngineReply.TheVariants.{Found, Rows, Fault}
use Rattle.sk_model.specs.Database.{RowOf, KeyedRows}
use Rattle.sk_model.proofs.Lookups.{tied_is, tied_itself}
use Rattle.sk_chain.specs.Chained.{Chained, empty}
use Rattle.sk_chain.specs.Reading.{Sight, Sees, Waits, found}
use Rattle.sk_engine.specs.Rows.{row_in, sighted, reading, IsScan}
use Rattle.sk_mem.specs.Chains.{chain_of, Answers}
use Rattle.sk_mem.specs.Scanning.{row_listed, sight_rows, rows_seen, wait_or, waits_for, busy_or, scanning, ScansTable}
use Rattle.sk_mem.proofs.Listing.{none_first}

abbrev waits : Sight → Option Label
waits (Sees v) = None
waits (Waits by) = Some by

abbrev seen_row : Sight → Option RowOf
seen_row (Sees v) = row_in v
seen_row (Waits by) = None

parts : (a b : Bool) → T (a && b) → T a × T b
parts true b h = (tt, h)
parts false b h = absurd h

both : (a b : Bool) → T a → T b → T (a && b)
both true b x y = y
both false b x y = x

-- a key below all others is not among them
find_under : {X : Type 0} (q : Value) (es : List (Value × X)) → T (below_all value_cmp q es) → find value_cmp q es ≡ None
find_under q [] h = refl
find_under q (e ∷ es) h = go (value_cmp q e.0) (parts (is_lt (value_cmp q e.0)) (below_all value_cmp q es) h).0 (find_under q es (parts (is_lt (value_cmp q e.0)) (below_all value_cmp q es) h).1)
  where
    go : (o : Ordering) → T (is_lt o) → find value_cmp q es ≡ None → cond (is_eq o) (Some e.1) (find value_cmp q es) ≡ None
    go Less l i = i
    go Equal l i = absurd l
    go Greater l i = absurd l

free_wait : (x : Sight) → wait_or x None ≡ None → waits x ≡ None
free_wait (Sees v) e = refl
free_wait (Waits by) e = cc

module _ (tx : Label) (s : ℕ) where
  no_wait : (es : List (Value × Chained)) → waits_for tx s es ≡ None → (q : Value) → waits (found (chain_of es q) tx s) ≡ None
  no_wait [] e q = refl
  no_wait (d ∷ es) e q = go (eq_by_cmp value_cmp q d.0) (free_wait (found d.1 tx s) (none_first (found d.1 tx s) (waits_for tx s es) e).0) (no_wait es (none_first (found d.1 tx s) (waits_for tx s es) e).1 q)
    where
      go : (b : Bool) → waits (found d.1 tx s) ≡ None → waits (found (chain_of es q) tx s) ≡ None → waits (found (unwrap_or (cond b (Some d.1) (lookup (is_at (value_cmp q)) es)) empty) tx s) ≡ None
      go true h k = h
      go false h k = k

  rows_below : (k : Value) (es : List (Value × Chained)) → T (below_all value_cmp k es) → T (below_all value_cmp k (rows_seen tx s es))
  rows_below k [] h = tt
  rows_below k (d ∷ es) h = go (found d.1 tx s) (parts (is_lt (value_cmp k d.0)) (below_all value_cmp k es) h).0 (rows_below k es (parts (is_lt (value_cmp k d.0)) (below_all value_cmp k es) h).1)
    where
      listed : (r : Option RowOf) → T (is_lt (value_cmp k d.0)) → T (below_all value_cmp k (rows_seen tx s es)) → T (below_all value_cmp k (row_listed d.0 r ++ rows_seen tx s es))
      listed None x y = y
      listed (Some row) x y = both _ _ x y

      go : (x : Sight) → T (is_lt (value_cmp k d.0)) → T (below_all value_cmp k (rows_seen tx s es)) → T (below_all value_cmp k (sight_rows d.0 x ++ rows_seen tx s es))
      go (Sees v) x y = listed (row_in v) x y
      go (Waits by) x y = y

  rows_sorted : (es : List (Value × Chained)) → T (is_sorted value_cmp es) → T (is_sorted value_cmp (rows_seen tx s es))
  rows_sorted [] h = tt
  rows_sorted (d ∷ es) h = go (found d.1 tx s) (rows_below d.0 es (parts (below_all value_cmp d.0 es) (is_sorted value_cmp es) h).0) (rows_sorted es (parts (below_all value_cmp d.0 es) (is_sorted value_cmp es) h).1)
    where
      listed : (r : Option RowOf) → T (below_all value_cmp d.0 (rows_seen tx s es)) → T (is_sorted value_cmp (rows_seen tx s es)) → T (is_sorted value_cmp (row_listed d.0 r ++ rows_seen tx s es))
      listed None x y = y
      listed (Some row) x y = both _ _ x y

      go : (x : Sight) → T (below_all value_cmp d.0 (rows_seen tx s es)) → T (is_sorted value_cmp (rows_seen tx s es)) → T (is_sorted value_cmp (sight_rows d.0 x ++ rows_seen tx s es))
      go (Sees v) x y = listed (row_in v) x y
      go (Waits by) x y = y

  -- the row at a key among those that are seen
  find_seen : (q : Value) (es : List (Value × Chained)) → T (is_sorted value_cmp es) → find value_cmp q (rows_seen tx s es) ≡ seen_row (found (chain_of es q) tx s)
  find_seen q [] h = refl
  find_seen q (d ∷ es) h = go (eq_by_cmp value_cmp q d.0) refl (find_seen q es (parts (below_all value_cmp d.0 es) (is_sorted value_cmp es) h).1)
    where
      gone : eq_by_cmp value_cmp q d.0 ≡ true → find value_cmp q (rows_seen tx s es) ≡ None
      gone e = subst (λ k. find value_cmp k (rows_seen tx s es) ≡ None) (sym (tied_is q d.0 e)) (find_under d.0 (rows_seen tx s es) (rows_below d.0 es (parts (below_all value_cmp d.0 es) (is_sorted value_cmp es) h).0))

      here : eq_by_cmp value_cmp q d.0 ≡ true → (x : Sight) → find value_cmp q (sight_rows d.0 x ++ rows_seen tx s es) ≡ seen_row x
      here e (Sees v) = row (row_in v)
        where
          row : (r : Option RowOf) → find value_cmp q (row_listed d.0 r ++ rows_seen tx s es) ≡ r
          row None = gone e
          row (Some r) = cond-true (eq_by_cmp value_cmp q d.0) (Some r) (find value_cmp q (rows_seen tx s es)) e
      here e (Waits by) = gone e

      there : eq_by_cmp value_cmp q d.0 ≡ false → (x : Sight) → find value_cmp q (sight_rows d.0 x ++ rows_seen tx s es) ≡ find value_cmp q (rows_seen tx s es)
      there e (Sees v) = row (row_in v)
        where
          row : (r : Option RowOf) → find value_cmp q (row_listed d.0 r ++ rows_seen tx s es) ≡ find value_cmp q (rows_seen tx s es)
          row None = refl
          row (Some r) = cond-false (eq_by_cmp value_cmp q d.0) (Some r) (find value_cmp q (rows_seen tx s es)) e
      there e (Waits by) = refl

      go : (b : Bool) → eq_by_cmp value_cmp q d.0 ≡ b → find value_cmp q (rows_seen tx s es) ≡ seen_row (found (chain_of es q) tx s)
          → find value_cmp q (sight_rows d.0 (found d.1 tx s) ++ rows_seen tx s es) ≡ seen_row (found (unwrap_or (cond b (Some d.1) (lookup (is_at (value_cmp q)) es)) empty) tx s)
      go true e ih = here e (found d.1 tx s)
      go false e ih = there e (found d.1 tx s) ∙ ih

-- entries in order
below_is : (k : Value) (es : List (Value × Chained)) → AllByRecursion (λ y. value_cmp k y ≡ Less) (keys_of es) → T (below_all value_cmp k es)
below_is k [] h = tt
below_is k (e ∷ es) h = both (is_lt (value_cmp k e.0)) (below_all value_cmp k es) (subst (λ o. T (is_lt o)) (sym h.0) tt) (below_is k es h.1)

pub sorted_is : (es : List (Value × Chained)) → IsStrictlySortedBy value_cmp (keys_of es) → T (is_sorted value_cmp es)
unfolding IsStrictlySortedBy
sorted_is [] h = tt
sorted_is (e ∷ es) h = both (below_all value_cmp e.0 es) (is_sorted value_cmp es) (below_is e.0 es h.0) (sorted_is es h.1)

less : (o : Ordering) → T (is_lt o) → o ≡ Less
less Less l = refl
less Equal l = absurd l
less Greater l = absurd l

absent : (q : Value) (es : List (Value × Chained)) → T (below_all value_cmp q es) → chain_of es q ≡ empty
absent q [] h = refl
absent q (e ∷ es) h = go (value_cmp q e.0) (parts (is_lt (value_cmp q e.0)) (below_all value_cmp q es) h).0 (absent q es (parts (is_lt (value_cmp q e.0)) (below_all value_cmp q es) h).1)
  where
    go : (o : Ordering) → T (is_lt o) → chain_of es q ≡ empty → unwrap_or (cond (is_eq o) (Some e.1) (lookup (is_at (value_cmp q)) es)) empty ≡ empty
    go Less l i = i
    go Equal l i = absurd l
    go Greater l i = absurd l

lower : (q k : Value) (es : List (Value × Chained)) → value_cmp q k ≡ Less → T (below_all value_cmp k es) → T (below_all value_cmp q es)
lower q k [] l h = tt
lower q k (e ∷ es) l h =
    let p : T (is_lt (value_cmp k e.0)) × T (below_all value_cmp k es) = parts (is_lt (value_cmp k e.0)) (below_all value_cmp k es) h in
    both (is_lt (value_cmp q e.0)) (below_all value_cmp q es) (subst (λ o. T (is_lt o)) (sym (value_cmp_total.trans q k e.0 l (less (value_cmp k e.0) p.0))) tt) (lower q k es l p.1)

-- the first row at which a reader waits
record First (tx : Label) (s : ℕ) (es : List (Value × Chained)) (by : Label) : Type 0 where
  key : Value
  here : waits (found (chain_of es key) tx s) ≡ Some by
  before : (q : Value) → value_cmp q key ≡ Less → waits (found (chain_of es q) tx s) ≡ None

first_wait : (tx : Label) (s : ℕ) (es : List (Value × Chained)) → T (is_sorted value_cmp es) → (by : Label) → waits_for tx s es ≡ Some by → First tx s es by
first_wait tx s [] h by w = cc
first_wait tx s (d ∷ es) h by w = go (found d.1 tx s) refl w (first_wait tx s es (parts (below_all value_cmp d.0 es) (is_sorted value_cmp es) h).1 by)
  where
    below : T (below_all value_cmp d.0 es)
    below = (parts (below_all value_cmp d.0 es) (is_sorted value_cmp es) h).0

    here_of : (v : Sight) → (k : Value) (b : Bool) → eq_by_cmp value_cmp k d.0 ≡ b → waits (found (chain_of es k) tx s) ≡ Some by
        → waits (found (unwrap_or (cond b (Some d.1) (lookup (is_at (value_cmp k)) es)) empty) tx s) ≡ Some by
    here_of v k true e w =
        let bare : chain_of es k ≡ empty = absent k es (subst (λ x. T (below_all value_cmp x es)) (sym (tied_is k d.0 e)) below) in
        let bad : None ≡ Some by = sym (ap (λ c. waits (found c tx s)) bare) ∙ w in
        cc
    here_of v k false e w = w

    before_of : (q : Value) (b : Bool) → waits (found d.1 tx s) ≡ None → waits (found (chain_of es q) tx s) ≡ None → waits (found (unwrap_or (cond b (Some d.1) (lookup (is_at (value_cmp q)) es)) empty) tx s) ≡ None
    before_of q true x y = x
    before_of q false x y = y

    go : (x : Sight) → found d.1 tx s ≡ x → wait_or x (waits_for tx s es) ≡ Some by → (waits_for tx s es ≡ Some by → First tx s es by) → First tx s (d ∷ es) by
    go (Waits c) i w ih = record {
      key = d.0;
      here = ap (λ b. waits (found (unwrap_or (cond b (Some d.1) (lookup (is_at (value_cmp d.0)) es)) empty) tx s)) (tied_itself d.0) ∙ ap waits i ∙ w;
      before = λ q l. ap (λ o. waits (found (unwrap_or (cond (is_eq o) (Some d.1) (lookup (is_at (value_cmp q)) es)) empty) tx s)) l
          ∙ ap (λ c. waits (found c tx s)) (absent q es (lower q d.0 es l below));
    }
    go (Sees v) i w ih =
        let r : First tx s es by = ih w in
        record {
          key = r.key;
          here = here_of (Sees v) r.key (eq_by_cmp value_cmp r.key d.0) refl r.here;
          before = λ q l. before_of q (eq_by_cmp value_cmp q d.0) (ap waits i) (r.before q l);
        }

-- what a sight that does not wait gives
sees : (x : Sight) → waits x ≡ None → sighted x ≡ Found (seen_row x)
sees (Sees v) w = refl
sees (Waits by) w = cc

waits_reply : (x : Sight) (by : Label) → waits x ≡ Some by → sighted x ≡ Fault (fault.Busy by)
waits_reply (Sees v) by w = cc
waits_reply (Waits other) by w = cc

not_busy : (x : Sight) (by : Label) → waits x ≡ None → sighted x ≡ Fault (fault.Busy by) → ⊥
not_busy (Sees v) by w e = cc
not_busy (Waits other) by w e = cc

-- what is read of the rows in order is the scan of their chains
scan_is : (tx : Label) (s : ℕ) (es : List (Value × Chained)) → T (is_sorted value_cmp es) → IsScan (λ key. reading (chain_of es key) tx s) (scanning es tx s)
scan_is tx s es sorted = go (waits_for tx s es) refl
  where
    go : (o : Option Label) → waits_for tx s es ≡ o → IsScan (λ key. reading (chain_of es key) tx s) (busy_or o (Rows (rows_seen tx s es)))
    go None w = (
      rows_sorted tx s es sorted,
      λ key. sees (found (chain_of es key) tx s) (no_wait tx s es w key) ∙ ap Found (sym (find_seen tx s key es sorted)),
    )
    go (Some by) w =
        let f : First tx s es by = first_wait tx s es sorted by w in (
          f.key,
          waits_reply (found (chain_of es f.key) tx s) by f.here,
          λ k l other e. not_busy (found (chain_of es k) tx s) other (f.before k l) e,
        )

pub scans_table : (tx : Label) (s : ℕ) (es : List (Value × Chained)) (chain : Value → Chained) (reply : Option EngineReply) → IsStrictlySortedBy value_cmp (keys_of es)
    → ((key : Value) → chain_of es key ≡ chain key) → Answers reply (scanning es tx s) → ScansTable chain tx s reply
scans_table tx s es chain None o same a = tt
scans_table tx s es chain (Some reply) o same a =
    let all : (λ key. reading (chain_of es key) tx s) ≡ (λ key. reading (chain key) tx s) = λ i key. reading (same key i) tx s in
    subst (λ read. IsScan read reply) all (subst (IsScan (λ key. reading (chain_of es key) tx s)) (sym a) (scan_is tx s es (sorted_is es o)))

-- no rows of no table
pub scans_nothing : (tx : Label) (s : ℕ) (chain : Value → Chained) (rows : KeyedRows) → ((key : Value) → chain key ≡ empty) → rows ≡ [] → ScansTable chain tx s (Some (Rows rows))
scans_nothing tx s chain rows bare none = subst (λ rs. ScansTable chain tx s (Some (Rows rs))) (sym none) (tt, λ key. ap (λ c. reading c tx s) (bare key))
