-- What is read of all rows of a table, one after another, is its scan.
use Rattle.std.specs.Prelude.{◌≡◌, ◌<◌, ◌≤◌, ℕ, zero, suc, length, take, get_or, List, [], ◌∷◌, ◌++◌, Option, Some, None, Bool, true, false, cond, T, ◌&&◌}
use Rattle.std.proofs.Common.{refl, sym, ap, subst, ◌∙◌, inl, inr, append_assoc, append-nil, arith}
use Rattle.std.specs.BTreeMap.{is_at}
use Rattle.std.specs.FinMap.{find, is_sorted}
use Rattle.std.specs.FinMap.Entries.{below_all}
use Rattle.std.specs.List.{AllByRecursion}
use Rattle.std.specs.List.Sorted.{IsStrictlySortedBy}
use Rattle.std.specs.Map.{lookup, keys_of}
use Rattle.std.specs.Option.{unwrap_or}
use Rattle.std.specs.Ordering.{eq_by_cmp, is_eq, is_lt}
use Rattle.std.specs.declared.cmp.Ordering.{Ordering}
use Rattle.std.specs.declared.cmp.Ordering.TheVariants.{Less, Equal, Greater}
use Rattle.std.proofs.lemmas.Bool.{cond-true, cond-false}
use Rattle.sk_rows.specs.declared.value.Value.{Value}
use Rattle.sk_rows.specs.declared.table.Column.{Column}
use Rattle.sk_rows.specs.Values.{value_cmp}
use Rattle.sk_rows.specs.Orders.{value_cmp_total}
use Rattle.sk_model.specs.declared.label.Label.{Label}
use Rattle.sk_model.specs.declared.call.EngineFault.{EngineFault}
use Rattle.sk_model.specs.declared.call.EngineFault.TheVariants as fault
use Rattle.sk_model.specs.declared.call.EngineReply.{EngineReply}
use Rattle.sk_model.specs.declared.call.EngineReply.TheVariants.{Found, Rows, Fault}
use Rattle.sk_model.specs.Database.{RowOf, KeyedRows}
use Rattle.sk_model.proofs.Lookups.{tied_is, tied_itself}
use Rattle.sk_chain.specs.Reading.{Sight, Sees, Waits}
use Rattle.sk_engine.specs.Rows.{GivesReply, IsScan, row_in, sighted}
use Rattle.sk_chain.specs.Promise.{refused}
use Rattle.sk_store.specs.Reads.{IsRowOf}
use Rattle.sk_store.specs.Shown.{MayBe}
use Rattle.sk_store.specs.Scanning.{HasRead, ScansRows, busy_or, row_listed, rows_seen, scanning, sight_at, sight_rows, wait_or, waits_for, with_sights}

pub none_first : (x : Sight) (o : Option Label) → wait_or x o ≡ None → (wait_or x None ≡ None) × (o ≡ None)
none_first (Sees v) o e = (refl, e)
none_first (Waits by) o e = cc

skips : (y : Sight) (o : Option Label) → wait_or y None ≡ None → wait_or y o ≡ o
skips (Sees v) o n = refl
skips (Waits by) o n = cc

abbrev pub waits : Sight → Option Label
waits (Sees v) = None
waits (Waits by) = Some by

abbrev seen_row : Sight → Option RowOf
seen_row (Sees v) = row_in v
seen_row (Waits by) = None

parts : (a b : Bool) → T (a && b) → T a × T b
parts true b h = (tt, h)
parts false b h = absurd h

both : (a b : Bool) → T a → T b → T (a && b)
both true b x y = y
both false b x y = x

-- a key below all others is not among them
find_under : {X : Type 0} (q : Value) (es : List (Value × X)) → T (below_all value_cmp q es) → find value_cmp q es ≡ None
find_under q [] h = refl
find_under q (e ∷ es) h = go (value_cmp q e.0) (parts (is_lt (value_cmp q e.0)) (below_all value_cmp q es) h).0 (find_under q es (parts (is_lt (value_cmp q e.0)) (below_all value_cmp q es) h).1)
  where
    go : (o : Ordering) → T (is_lt o) → find value_cmp q es ≡ None → cond (is_eq o) (Some e.1) (find value_cmp q es) ≡ None
    go Less l i = i
    go Equal l i = absurd l
    go Greater l i = absurd l

free_wait : (x : Sight) → wait_or x None ≡ None → waits x ≡ None
free_wait (Sees v) e = refl
free_wait (Waits by) e = cc

no_wait : (es : List (Value × Sight)) → waits_for es ≡ None → (q : Value) → waits (sight_at es q) ≡ None
no_wait [] e q = refl
no_wait (d ∷ es) e q = go (eq_by_cmp value_cmp q d.0) (free_wait (d.1) (none_first (d.1) (waits_for es) e).0) (no_wait es (none_first (d.1) (waits_for es) e).1 q)
  where
    go : (b : Bool) → waits (d.1) ≡ None → waits (sight_at es q) ≡ None → waits (unwrap_or (cond b (Some d.1) (lookup (is_at (value_cmp q)) es)) (Sees None)) ≡ None
    go true h k = h
    go false h k = k

rows_below : (k : Value) (es : List (Value × Sight)) → T (below_all value_cmp k es) → T (below_all value_cmp k (rows_seen es))
rows_below k [] h = tt
rows_below k (d ∷ es) h = go (d.1) (parts (is_lt (value_cmp k d.0)) (below_all value_cmp k es) h).0 (rows_below k es (parts (is_lt (value_cmp k d.0)) (below_all value_cmp k es) h).1)
  where
    listed : (r : Option RowOf) → T (is_lt (value_cmp k d.0)) → T (below_all value_cmp k (rows_seen es)) → T (below_all value_cmp k (row_listed d.0 r ++ rows_seen es))
    listed None x y = y
    listed (Some row) x y = both _ _ x y

    go : (x : Sight) → T (is_lt (value_cmp k d.0)) → T (below_all value_cmp k (rows_seen es)) → T (below_all value_cmp k (sight_rows d.0 x ++ rows_seen es))
    go (Sees v) x y = listed (row_in v) x y
    go (Waits by) x y = y

rows_sorted : (es : List (Value × Sight)) → T (is_sorted value_cmp es) → T (is_sorted value_cmp (rows_seen es))
rows_sorted [] h = tt
rows_sorted (d ∷ es) h = go (d.1) (rows_below d.0 es (parts (below_all value_cmp d.0 es) (is_sorted value_cmp es) h).0) (rows_sorted es (parts (below_all value_cmp d.0 es) (is_sorted value_cmp es) h).1)
  where
    listed : (r : Option RowOf) → T (below_all value_cmp d.0 (rows_seen es)) → T (is_sorted value_cmp (rows_seen es)) → T (is_sorted value_cmp (row_listed d.0 r ++ rows_seen es))
    listed None x y = y
    listed (Some row) x y = both _ _ x y

    go : (x : Sight) → T (below_all value_cmp d.0 (rows_seen es)) → T (is_sorted value_cmp (rows_seen es)) → T (is_sorted value_cmp (sight_rows d.0 x ++ rows_seen es))
    go (Sees v) x y = listed (row_in v) x y
    go (Waits by) x y = y

-- the row at a key among those that are seen
find_seen : (q : Value) (es : List (Value × Sight)) → T (is_sorted value_cmp es) → find value_cmp q (rows_seen es) ≡ seen_row (sight_at es q)
find_seen q [] h = refl
find_seen q (d ∷ es) h = go (eq_by_cmp value_cmp q d.0) refl (find_seen q es (parts (below_all value_cmp d.0 es) (is_sorted value_cmp es) h).1)
  where
    gone : eq_by_cmp value_cmp q d.0 ≡ true → find value_cmp q (rows_seen es) ≡ None
    gone e = subst (λ k. find value_cmp k (rows_seen es) ≡ None) (sym (tied_is q d.0 e)) (find_under d.0 (rows_seen es) (rows_below d.0 es (parts (below_all value_cmp d.0 es) (is_sorted value_cmp es) h).0))

    here : eq_by_cmp value_cmp q d.0 ≡ true → (x : Sight) → find value_cmp q (sight_rows d.0 x ++ rows_seen es) ≡ seen_row x
    here e (Sees v) = row (row_in v)
      where
        row : (r : Option RowOf) → find value_cmp q (row_listed d.0 r ++ rows_seen es) ≡ r
        row None = gone e
        row (Some r) = cond-true (eq_by_cmp value_cmp q d.0) (Some r) (find value_cmp q (rows_seen es)) e
    here e (Waits by) = gone e

    there : eq_by_cmp value_cmp q d.0 ≡ false → (x : Sight) → find value_cmp q (sight_rows d.0 x ++ rows_seen es) ≡ find value_cmp q (rows_seen es)
    there e (Sees v) = row (row_in v)
      where
        row : (r : Option RowOf) → find value_cmp q (row_listed d.0 r ++ rows_seen es) ≡ find value_cmp q (rows_seen es)
        row None = refl
        row (Some r) = cond-false (eq_by_cmp value_cmp q d.0) (Some r) (find value_cmp q (rows_seen es)) e
    there e (Waits by) = refl

    go : (b : Bool) → eq_by_cmp value_cmp q d.0 ≡ b → find value_cmp q (rows_seen es) ≡ seen_row (sight_at es q)
        → find value_cmp q (sight_rows d.0 (d.1) ++ rows_seen es) ≡ seen_row (unwrap_or (cond b (Some d.1) (lookup (is_at (value_cmp q)) es)) (Sees None))
    go true e ih = here e (d.1)
    go false e ih = there e (d.1) ∙ ih

-- entries in order
below_is : {X : Type 0} (k : Value) (es : List (Value × X)) → AllByRecursion (λ y. value_cmp k y ≡ Less) (keys_of es) → T (below_all value_cmp k es)
below_is k [] h = tt
below_is k (e ∷ es) h = both (is_lt (value_cmp k e.0)) (below_all value_cmp k es) (subst (λ o. T (is_lt o)) (sym h.0) tt) (below_is k es h.1)

pub sorted_is : {X : Type 0} (es : List (Value × X)) → IsStrictlySortedBy value_cmp (keys_of es) → T (is_sorted value_cmp es)
unfolding IsStrictlySortedBy
sorted_is [] h = tt
sorted_is (e ∷ es) h = both (below_all value_cmp e.0 es) (is_sorted value_cmp es) (below_is e.0 es h.0) (sorted_is es h.1)

less : (o : Ordering) → T (is_lt o) → o ≡ Less
less Less l = refl
less Equal l = absurd l
less Greater l = absurd l

absent : (q : Value) (es : List (Value × Sight)) → T (below_all value_cmp q es) → sight_at es q ≡ Sees None
absent q [] h = refl
absent q (e ∷ es) h = go (value_cmp q e.0) (parts (is_lt (value_cmp q e.0)) (below_all value_cmp q es) h).0 (absent q es (parts (is_lt (value_cmp q e.0)) (below_all value_cmp q es) h).1)
  where
    go : (o : Ordering) → T (is_lt o) → sight_at es q ≡ Sees None → unwrap_or (cond (is_eq o) (Some e.1) (lookup (is_at (value_cmp q)) es)) (Sees None) ≡ Sees None
    go Less l i = i
    go Equal l i = absurd l
    go Greater l i = absurd l

lower : (q k : Value) (es : List (Value × Sight)) → value_cmp q k ≡ Less → T (below_all value_cmp k es) → T (below_all value_cmp q es)
lower q k [] l h = tt
lower q k (e ∷ es) l h =
    let p : T (is_lt (value_cmp k e.0)) × T (below_all value_cmp k es) = parts (is_lt (value_cmp k e.0)) (below_all value_cmp k es) h in
    both (is_lt (value_cmp q e.0)) (below_all value_cmp q es) (subst (λ o. T (is_lt o)) (sym (value_cmp_total.trans q k e.0 l (less (value_cmp k e.0) p.0))) tt) (lower q k es l p.1)

-- the first row at which a reader waits
record First (es : List (Value × Sight)) (by : Label) : Type 0 where
  key : Value
  here : waits (sight_at es key) ≡ Some by
  before : (q : Value) → value_cmp q key ≡ Less → waits (sight_at es q) ≡ None

first_wait : (es : List (Value × Sight)) → T (is_sorted value_cmp es) → (by : Label) → waits_for es ≡ Some by → First es by
first_wait [] h by w = cc
first_wait (d ∷ es) h by w = go (d.1) refl w (first_wait es (parts (below_all value_cmp d.0 es) (is_sorted value_cmp es) h).1 by)
  where
    below : T (below_all value_cmp d.0 es)
    below = (parts (below_all value_cmp d.0 es) (is_sorted value_cmp es) h).0

    here_of : (v : Sight) → (k : Value) (b : Bool) → eq_by_cmp value_cmp k d.0 ≡ b → waits (sight_at es k) ≡ Some by
        → waits (unwrap_or (cond b (Some d.1) (lookup (is_at (value_cmp k)) es)) (Sees None)) ≡ Some by
    here_of v k true e w =
        let bare : sight_at es k ≡ Sees None = absent k es (subst (λ x. T (below_all value_cmp x es)) (sym (tied_is k d.0 e)) below) in
        let bad : None ≡ Some by = sym (ap waits bare) ∙ w in
        cc
    here_of v k false e w = w

    before_of : (q : Value) (b : Bool) → waits (d.1) ≡ None → waits (sight_at es q) ≡ None → waits (unwrap_or (cond b (Some d.1) (lookup (is_at (value_cmp q)) es)) (Sees None)) ≡ None
    before_of q true x y = x
    before_of q false x y = y

    go : (x : Sight) → d.1 ≡ x → wait_or x (waits_for es) ≡ Some by → (waits_for es ≡ Some by → First es by) → First (d ∷ es) by
    go (Waits c) i w ih = record {
      key = d.0;
      here = ap (λ b. waits (unwrap_or (cond b (Some d.1) (lookup (is_at (value_cmp d.0)) es)) (Sees None))) (tied_itself d.0) ∙ ap waits i ∙ w;
      before = λ q l. ap (λ o. waits (unwrap_or (cond (is_eq o) (Some d.1) (lookup (is_at (value_cmp q)) es)) (Sees None))) l
          ∙ ap (waits) (absent q es (lower q d.0 es l below));
    }
    go (Sees v) i w ih =
        let r : First es by = ih w in
        record {
          key = r.key;
          here = here_of (Sees v) r.key (eq_by_cmp value_cmp r.key d.0) refl r.here;
          before = λ q l. before_of q (eq_by_cmp value_cmp q d.0) (ap waits i) (r.before q l);
        }

-- what a sight that does not wait gives
sees : (x : Sight) → waits x ≡ None → sighted x ≡ Found (seen_row x)
sees (Sees v) w = refl
sees (Waits by) w = cc

waits_reply : (x : Sight) (by : Label) → waits x ≡ Some by → sighted x ≡ Fault (fault.Busy by)
waits_reply (Sees v) by w = cc
waits_reply (Waits other) by w = cc

not_busy : (x : Sight) (by : Label) → waits x ≡ None → sighted x ≡ Fault (fault.Busy by) → ⊥
not_busy (Sees v) by w e = cc
not_busy (Waits other) by w e = cc

-- ---- keys with what is found at each

keys_same : {X : Type 0} (sight : Value → Sight) (es : List (Value × X)) → keys_of es ≡ keys_of (with_sights sight es)
keys_same sight [] = refl
keys_same sight (e ∷ es) = ap (λ ks. e.0 ∷ ks) (keys_same sight es)

sights_sorted : {X : Type 0} (sight : Value → Sight) (es : List (Value × X)) → IsStrictlySortedBy value_cmp (keys_of es) → T (is_sorted value_cmp (with_sights sight es))
sights_sorted sight es o = sorted_is (with_sights sight es) (subst (IsStrictlySortedBy value_cmp) (keys_same sight es) o)

at_first : {X Y : Type 0} (f : Sight → Y) (sight : Value → Sight) (e : Value × X) (es : List (Value × X)) (q : Value) → (lookup (is_at (value_cmp q)) (e ∷ es) ≡ None → f (sight q) ≡ f (Sees None))
    → ((lookup (is_at (value_cmp q)) es ≡ None → f (sight q) ≡ f (Sees None)) → f (sight_at (with_sights sight es) q) ≡ f (sight q))
    → (b : Bool) → eq_by_cmp value_cmp q e.0 ≡ b → f (unwrap_or (cond b (Some (sight e.0)) (lookup (is_at (value_cmp q)) (with_sights sight es))) (Sees None)) ≡ f (sight q)
at_first f sight e es q none ih true t = ap (λ k. f (sight k)) (sym (tied_is q e.0 t))
at_first f sight e es q none ih false t = ih (λ n. none (cond-false (eq_by_cmp value_cmp q e.0) (Some e.1) (lookup (is_at (value_cmp q)) es) t ∙ n))

-- what f tells of what is found at a key that stands there, and at one that does not
at_key : {X Y : Type 0} (f : Sight → Y) (sight : Value → Sight) (es : List (Value × X)) (q : Value) → (lookup (is_at (value_cmp q)) es ≡ None → f (sight q) ≡ f (Sees None)) → f (sight_at (with_sights sight es) q) ≡ f (sight q)
at_key f sight [] q none = sym (none refl)
at_key f sight (e ∷ es) q none = at_first f sight e es q none (λ n. at_key f sight es q n) (eq_by_cmp value_cmp q e.0) refl

waits_at : {X : Type 0} (sight : Value → Sight) (es : List (Value × X)) (n : ℕ) (d : Value × X) (by : Label) → n < length es → d ≡ get_or es n d → waits_for (with_sights sight (take n es)) ≡ None → waits (sight d.0) ≡ Some by
    → waits_for (with_sights sight es) ≡ Some by
waits_at sight [] n d by l e f w = absurd (omega arith)
waits_at sight (x ∷ es) zero d by l e f w = first (sight x.0) (ap (λ y. waits (sight y.0)) (sym e) ∙ w)
  where
    first : (y : Sight) → waits y ≡ Some by → wait_or y (waits_for (with_sights sight es)) ≡ Some by
    first (Sees v) g = cc
    first (Waits other) g = g
waits_at sight (x ∷ es) (suc n) d by l e f w =
    let both = none_first (sight x.0) (waits_for (with_sights sight (take n es))) f in
    skips (sight x.0) (waits_for (with_sights sight es)) both.0 ∙ waits_at sight es n d by (omega arith) e both.1 w

-- ---- rows that are read one after another

each_end : {X : Type 0} (P : X → Type 0) (xs ys : List X) → AllByRecursion P xs → AllByRecursion P ys → AllByRecursion P (xs ++ ys)
each_end P [] ys h k = k
each_end P (x ∷ xs) ys h k = (h.0, each_end P xs ys h.1 k)

seen_end : (es : List (Value × Sight)) (key : Value) (x : Sight) → rows_seen (es ++ (key, x) ∷ []) ≡ rows_seen es ++ sight_rows key x
seen_end [] key x = append-nil (sight_rows key x)
seen_end (e ∷ es) key x = ap (λ rs. sight_rows e.0 e.1 ++ rs) (seen_end es key x) ∙ sym (append_assoc (sight_rows e.0 e.1) (rows_seen es) (sight_rows key x))

free_end : (es : List (Value × Sight)) (key : Value) (x : Sight) → waits_for es ≡ None → waits x ≡ None → waits_for (es ++ (key, x) ∷ []) ≡ None
free_end [] key (Sees v) f w = refl
free_end [] key (Waits by) f w = cc
free_end (e ∷ es) key x f w =
    let both = none_first e.1 (waits_for es) f in
    skips e.1 (waits_for (es ++ (key, x) ∷ [])) both.0 ∙ free_end es key x both.1 w

abbrev Reads : Bool → ℕ → ℕ → List Column → Value → Sight → Option EngineReply → Type 0
Reads told before now columns key x reply = GivesReply told before now (IsRowOf columns key (sighted x) reply) (sighted x) reply

not_fault : (x : Sight) (f : EngineFault) → ((by : Label) → f ≡ fault.Busy by → ⊥) → sighted x ≡ Fault f → ⊥
not_fault (Sees v) f other e = cc
not_fault (Waits by) f other e = other by (let is : fault.Busy by ≡ f = cc in sym is)

module _ (told : Bool) (before now : ℕ) (columns : List Column) where
  no_row_any : (key : Value) (f : EngineFault) (x : Sight) → IsRowOf columns key (sighted x) (Some (Fault f)) → ⊥
  no_row_any key f (Sees v) g = g
  no_row_any key f (Waits by) g = g

  exact_row : (key : Value) (x : Sight) (row : Option RowOf) → Reads told before now columns key x (Some (Found row)) → told ≡ true → sight_rows key x ≡ row_listed key row
  exact_row key x row (inl g) t = absurd (let no : Found row ≡ Fault fault.Device = g.0 in cc)
  exact_row key (Sees v) row (inr (inl e)) t = let is : row_in v ≡ row = cc in ap (row_listed key) is
  exact_row key (Waits by) row (inr (inl e)) t = absurd cc
  exact_row key x row (inr (inr g)) t = absurd (let no : false ≡ true = sym g.0 ∙ t in cc)

  free_row : (key : Value) (x : Sight) (row : Option RowOf) → Reads told before now columns key x (Some (Found row)) → waits x ≡ None
  free_row key (Sees v) row g = refl
  free_row key (Waits by) row (inl g) = absurd (let no : Found row ≡ Fault fault.Device = g.0 in cc)
  free_row key (Waits by) row (inr (inl e)) = absurd cc
  free_row key (Waits by) row (inr (inr g)) = absurd g.1

  listed_fits : (key : Value) (row : Option RowOf) → MayBe columns key row → AllByRecursion (λ (r : Value × RowOf). MayBe columns r.0 (Some r.1)) (row_listed key row)
  listed_fits key None m = tt
  listed_fits key (Some row) m = (m, tt)

  -- one more row
  pub more_read : (es : List (Value × Sight)) (rows : KeyedRows) (key : Value) (x : Sight) (row : Option RowOf) → HasRead told columns es rows → Reads told before now columns key x (Some (Found row)) → MayBe columns key row
      → HasRead told columns (es ++ (key, x) ∷ []) (rows ++ row_listed key row)
  more_read es rows key x row h g m = record {
    exact = λ t. ap (λ rs. rs ++ row_listed key row) (h.exact t) ∙ ap (λ rs. rows_seen es ++ rs) (sym (exact_row key x row g t)) ∙ sym (seen_end es key x);
    fits = each_end (λ (r : Value × RowOf). MayBe columns r.0 (Some r.1)) rows (row_listed key row) h.fits (listed_fits key row m);
    free = free_end es key x h.free (free_row key x row g);
  }

  module _ {X : Type 0} (sight : Value → Sight) (es : List (Value × X)) (order : IsStrictlySortedBy value_cmp (keys_of es)) (none_waits : (q : Value) → lookup (is_at (value_cmp q)) es ≡ None → waits (sight q) ≡ None)
      (none_found : told ≡ true → (q : Value) → lookup (is_at (value_cmp q)) es ≡ None → sighted (sight q) ≡ Found None) where
    abbrev all : List (Value × Sight)
    all = with_sights sight es

    sorted : T (is_sorted value_cmp all)
    sorted = sights_sorted sight es order

    same_waits : (q : Value) → waits (sight_at all q) ≡ waits (sight q)
    same_waits q = at_key waits sight es q (none_waits q)

    busy_scan : (by : Label) → waits_for all ≡ Some by → IsScan (λ q. sighted (sight q)) (Fault (fault.Busy by))
    busy_scan by w =
        let f : First all by = first_wait all sorted by w in (
          f.key,
          waits_reply (sight f.key) by (sym (same_waits f.key) ∙ f.here),
          λ k l other e. not_busy (sight k) other (sym (same_waits k) ∙ f.before k l) e,
        )

    -- all rows are read
    pub whole_scan : (rows : KeyedRows) → HasRead told columns all rows → ScansRows told before now columns sight (Some (Rows rows))
    whole_scan rows h = go told refl
      where
        go : (b : Bool) → told ≡ b → ScansRows told before now columns sight (Some (Rows rows))
        go true t = inr (inl (
          subst (λ rs. T (is_sorted value_cmp rs)) (sym (h.exact t)) (rows_sorted all sorted),
          λ q. sym (at_key sighted sight es q (none_found t q)) ∙ sees (sight_at all q) (no_wait all h.free q) ∙ ap Found (sym (ap (find value_cmp q) (h.exact t) ∙ find_seen q all sorted)),
        ))
        go false t = inr (inr (t, (h.fits, λ q by e. not_busy (sight q) by (sym (same_waits q) ∙ no_wait all h.free q) e)))

    -- a row is refused
    pub stopped_scan : (n : ℕ) (d : Value × X) (then : ℕ) (f : EngineFault) → n < length es → d ≡ get_or es n d → waits_for (with_sights sight (take n es)) ≡ None → before ≤ then
        → GivesReply told then now (IsRowOf columns d.0 (sighted (sight d.0)) (refused f)) (sighted (sight d.0)) (refused f) → ScansRows told before now columns sight (refused f)
    stopped_scan n d then f l e free le g = go f g (sight d.0) refl
      where
        busy : (by : Label) (x : Sight) → sight d.0 ≡ x → sighted x ≡ Fault (fault.Busy by) → ScansRows told before now columns sight (Some (Fault (fault.Busy by)))
        busy by (Sees v) i k = absurd cc
        busy by (Waits other) i k =
            let is : other ≡ by = cc in
            inr (inl (busy_scan by (waits_at sight es n d by l e free (ap waits i ∙ ap Some is))))

        go : (f : EngineFault) → GivesReply told then now (IsRowOf columns d.0 (sighted (sight d.0)) (refused f)) (sighted (sight d.0)) (refused f) → (x : Sight) → sight d.0 ≡ x → ScansRows told before now columns sight (refused f)
        go fault.NoMemory g x i = tt
        go fault.Device (inl g) x i = inl (refl, (let r = g.1 in omega arith))
        go fault.Device (inr (inl g)) x i = absurd (not_fault x fault.Device (λ by k. let no : fault.Device ≡ fault.Busy by = k in cc) (ap sighted (sym i) ∙ g))
        go fault.Device (inr (inr g)) x i = absurd (no_row_any d.0 fault.Device x (subst (λ y. IsRowOf columns d.0 (sighted y) (Some (Fault fault.Device))) i g.1))
        go (fault.Busy by) (inl g) x i = absurd (let no : Fault (fault.Busy by) ≡ Fault fault.Device = g.0 in cc)
        go (fault.Busy by) (inr (inl g)) x i = busy by x i (ap sighted (sym i) ∙ g)
        go (fault.Busy by) (inr (inr g)) x i = absurd (no_row_any d.0 (fault.Busy by) x (subst (λ y. IsRowOf columns d.0 (sighted y) (Some (Fault (fault.Busy by)))) i g.1))
        go (fault.Old a b) (inl g) x i = absurd (let no : Fault (fault.Old a b) ≡ Fault fault.Device = g.0 in cc)
        go (fault.Old a b) (inr (inl g)) x i = absurd (not_fault x (fault.Old a b) (λ by k. let no : fault.Old a b ≡ fault.Busy by = k in cc) (ap sighted (sym i) ∙ g))
        go (fault.Old a b) (inr (inr g)) x i = absurd (no_row_any d.0 (fault.Old a b) x (subst (λ y. IsRowOf columns d.0 (sighted y) (Some (Fault (fault.Old a b)))) i g.1))
        go (fault.Conflict by why) (inl g) x i = absurd (let no : Fault (fault.Conflict by why) ≡ Fault fault.Device = g.0 in cc)
        go (fault.Conflict by why) (inr (inl g)) x i = absurd (not_fault x (fault.Conflict by why) (λ other k. let no : fault.Conflict by why ≡ fault.Busy other = k in cc) (ap sighted (sym i) ∙ g))
        go (fault.Conflict by why) (inr (inr g)) x i = absurd (no_row_any d.0 (fault.Conflict by why) x (subst (λ y. IsRowOf columns d.0 (sighted y) (Some (Fault (fault.Conflict by why)))) i g.1))

-- ---- an entry is found at its key

below_at : {X : Type 0} (k : Value) (es : List (Value × X)) (i : ℕ) (d : Value × X) → T (below_all value_cmp k es) → i < length es → d ≡ get_or es i d → T (is_lt (value_cmp k d.0))
below_at k [] i d h l e = absurd (omega arith)
below_at k (x ∷ xs) zero d h l e = subst (λ y. T (is_lt (value_cmp k y.0))) (sym e) (parts (is_lt (value_cmp k x.0)) (below_all value_cmp k xs) h).0
below_at k (x ∷ xs) (suc i) d h l e = below_at k xs i d (parts (is_lt (value_cmp k x.0)) (below_all value_cmp k xs) h).1 (omega arith) e

not_tied : (k q : Value) → T (is_lt (value_cmp k q)) → (b : Bool) → eq_by_cmp value_cmp q k ≡ b → b ≡ false
not_tied k q h false e = refl
not_tied k q h true e = absurd (itself k (subst (λ y. T (is_lt (value_cmp k y))) (tied_is q k e) h))
  where
    no : (o : Ordering) → is_eq o ≡ true → T (is_lt o) → ⊥
    no Less e h = cc
    no Equal e h = h
    no Greater e h = h

    itself : (x : Value) → T (is_lt (value_cmp x x)) → ⊥
    itself x h = no (value_cmp x x) (tied_itself x) h

pub entry_found : {X : Type 0} (es : List (Value × X)) → T (is_sorted value_cmp es) → (i : ℕ) (d : Value × X) → i < length es → d ≡ get_or es i d → lookup (is_at (value_cmp d.0)) es ≡ Some d.1
entry_found [] h i d l e = absurd (omega arith)
entry_found (x ∷ xs) h zero d l e = ap (λ b. cond b (Some x.1) (lookup (is_at (value_cmp d.0)) xs)) (ap (λ y. eq_by_cmp value_cmp d.0 y.0) (sym e) ∙ tied_itself d.0) ∙ ap (λ y. Some y.1) (sym e)
entry_found (x ∷ xs) h (suc i) d l e =
    let both = parts (below_all value_cmp x.0 xs) (is_sorted value_cmp xs) h in
    let less = below_at x.0 xs i d both.0 (omega arith) e in
    ap (λ b. cond b (Some x.1) (lookup (is_at (value_cmp d.0)) xs)) (not_tied x.0 d.0 less (eq_by_cmp value_cmp d.0 x.0) refl) ∙ entry_found xs both.1 i d (omega arith) e
