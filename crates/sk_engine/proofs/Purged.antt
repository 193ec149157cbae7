-- What a purge leaves.
use Rattle.std.specs.Prelude.{◌≡◌, ℕ, zero, suc, ◌<◌, ◌≤◌, List, [], ◌∷◌, ◌++◌, Option, Some, None, Bool, true, false, cond, ◌&&◌, ◌||◌, ◌==◌, T, nat_lt, map, min, take, drop, slice_get, IfSome}
use Rattle.std.proofs.Common.{refl, sym, ap, subst, ◌∙◌, ⊎_elim, arith}
use Rattle.std.specs.Option.{option_map}
use Rattle.std.specs.List.{filter, list_any, AllByRecursion}
use Rattle.std.specs.List.Sorted.{IsStrictlySortedBy}
use Rattle.std.specs.Map.{lookup, keys_of}
use Rattle.std.specs.BTreeMap.{is_at}
use Rattle.std.specs.Ordering.{is_eq, is_lt, eq_by_cmp}
use Rattle.std.specs.declared.cmp.Ordering.TheVariants.{Less}
use Rattle.std.specs.FinMap.{find, is_sorted}
use Rattle.std.specs.FinMap.Entries.{below_all, same_entries}
use Rattle.std.proofs.lemmas.Bool.{cases_lt, lt-ltb, le-ltb, eqb-true}
use Rattle.std.proofs.lemmas.Grind.{flat_map-append}
use Rattle.std.proofs.lemmas.List.Folds.{list_any-append}
use Rattle.sk_rows.specs.declared.table.Table.{Table}
use Rattle.sk_model.specs.declared.label.Label.{Label}
use Rattle.sk_model.specs.Engine.{EngineTable, Openings, label_cmp, opening_in}
use Rattle.sk_model.specs.Engine.{Opening as Opened}
use Rattle.sk_model.specs.EngineReplies.{least_open}
use Rattle.sk_model.proofs.Labels.{label_cmp_total, label_cmp-IsAntisymmetric}
use Rattle.sk_model.proofs.Lists.{Each, each_end, each_map}
use Rattle.std.proofs.lemmas.List.{take-append-drop, map-append}
use Rattle.sk_engine.specs.declared.numbers.Number.{Number as AnyNumber}
use Rattle.sk_model.specs.declared.engine.EngineName.{EngineName}
use Rattle.sk_model.specs.declared.call.EngineCall.TheVariants as call
use Rattle.sk_model.specs.declared.call.EngineReply.TheVariants.{Number}
use Rattle.sk_model.specs.Database.{RowOf, row_of}
use Rattle.sk_model.specs.Numbers.{Rises}
use Rattle.sk_model.specs.Engine.{Version, opening_of}
use Rattle.sk_model.specs.EngineReplies.{horizon_of, purged_to, last_in}
use Rattle.sk_model.specs.EngineConditions.{may}
use Rattle.sk_chain.specs.Chained.{Chained}
use Rattle.sk_chain.specs.Reading.{last_upto}
use Rattle.sk_chain.specs.Writing.{past_of, is_by}
use Rattle.sk_engine.specs.declared.book.Book.{Book}
use Rattle.sk_engine.specs.Counts.{Used, used, number_in, stamped_in, stamped_of, Counts, Wrote}
use Rattle.sk_engine.specs.Engines.{StandsBy, HasRoom}
use Rattle.sk_engine.proofs.Numbering.{some_one, rises_low, rises_past, each_stamped}
use Rattle.sk_engine.proofs.Serving.{LeavesTable, due_reply, after_done, after_asked, sound_change}
use Rattle.sk_engine.specs.declared.openings.Opening.{Opening}
use Rattle.sk_engine.specs.Rows.{Chains, AgreeFrom, ChainsAgree, Forgets, row_in}
use Rattle.sk_engine.specs.Stands.{Held, Stands, RowIs, row_versions, state_by, held, held_in, timed, least_in}

abbrev pub IfHead : ℕ → List Used → Type 0
IfHead q [] = Unit {0}
IfHead q (u ∷ us) = q < u.n

-- ---- what is given up

-- ---- the least open snapshot

opened : Label × Opening → Label × Opened
opened x = (x.0, timed (held x.1))

below_opened : (k : Label) (es : List (Label × Opening)) → AllByRecursion (λ y. label_cmp k y ≡ Less) (keys_of es) → T (below_all label_cmp k (map (λ (x : Label × Opening). (x.0, timed (held x.1))) es))
below_opened k [] h = tt
below_opened k (x ∷ es) h = both (is_lt (label_cmp k x.0)) (below_all label_cmp k (map (λ (x : Label × Opening). (x.0, timed (held x.1))) es)) (subst (λ o. T (is_lt o)) (sym h.0) tt) (below_opened k es h.1)
  where
    both : (a b : Bool) → T a → T b → T (a && b)
    both true b p q = q
    both false b p q = p

sorted_opened : (es : List (Label × Opening)) → IsStrictlySortedBy label_cmp (keys_of es) → T (is_sorted label_cmp (map (λ (x : Label × Opening). (x.0, timed (held x.1))) es))
unfolding IsStrictlySortedBy
sorted_opened [] h = tt
sorted_opened (x ∷ es) h = both (below_all label_cmp x.0 (map (λ (x : Label × Opening). (x.0, timed (held x.1))) es)) (is_sorted label_cmp (map (λ (x : Label × Opening). (x.0, timed (held x.1))) es)) (below_opened x.0 es h.0) (sorted_opened es h.1)
  where
    both : (a b : Bool) → T a → T b → T (a && b)
    both true b p q = q
    both false b p q = p

find_opened : (tx : Label) (es : List (Label × Opening)) → find label_cmp tx (map (λ (x : Label × Opening). (x.0, timed (held x.1))) es) ≡ option_map timed (held_in es tx)
find_opened tx [] = refl
find_opened tx (x ∷ es) = go (is_eq (label_cmp tx x.0)) (find_opened tx es)
  where
    go : (b : Bool) → find label_cmp tx (map (λ (x : Label × Opening). (x.0, timed (held x.1))) es) ≡ option_map timed (held_in es tx)
        → cond b (Some (timed (held x.1))) (find label_cmp tx (map (λ (x : Label × Opening). (x.0, timed (held x.1))) es)) ≡ option_map timed (option_map held (cond b (Some x.1) (lookup (is_at (label_cmp tx)) es)))
    go true ih = refl
    go false ih = ih

same_openings : (es : List (Label × Opening)) (os : Openings) → IsStrictlySortedBy label_cmp (keys_of es) → T (is_sorted label_cmp os) → ((tx : Label) → option_map timed (held_in es tx) ≡ opening_in tx os)
    → map (λ (x : Label × Opening). (x.0, timed (held x.1))) es ≡ os
same_openings es os h k is = same_entries label_cmp label_cmp_total label_cmp-IsAntisymmetric _ os (sorted_opened es h) k (λ tx. find_opened tx es ∙ is tx)

least_map : (n : ℕ) (es : List (Label × Opening)) → least_in es n ≡ least_open (map (λ (x : Label × Opening). (x.0, timed (held x.1))) es) n
least_map n [] = refl
least_map n (x ∷ es) = least_map (min n x.1.snapshot) es

pub least_is : (es : List (Label × Opening)) (os : Openings) (n : ℕ) → IsStrictlySortedBy label_cmp (keys_of es) → T (is_sorted label_cmp os) → ((tx : Label) → option_map timed (held_in es tx) ≡ opening_in tx os)
    → least_in es n ≡ least_open os n
least_is es os n h k is = least_map n es ∙ ap (λ xs. least_open xs n) (same_openings es os h k is)

least_upto : (os : Openings) (n : ℕ) → least_open os n ≤ n
least_upto [] n = omega arith
least_upto (o ∷ os) n = let l : least_open os (min n o.1.snapshot) ≤ min n o.1.snapshot = least_upto os (min n o.1.snapshot) in omega arith

least_found : (os : Openings) (n : ℕ) (tx : Label) → IfSome (opening_in tx os) (λ (o : Opened). least_open os n ≤ o.snapshot)
least_found [] n tx = tt
least_found (o ∷ os) n tx = go (eq_by_cmp label_cmp tx o.0) (least_found os (min n o.1.snapshot) tx)
  where
    go : (b : Bool) → IfSome (opening_in tx os) (λ (x : Opened). least_open os (min n o.1.snapshot) ≤ x.snapshot) → IfSome (cond b (Some o.1) (opening_in tx os)) (λ (x : Opened). least_open os (min n o.1.snapshot) ≤ x.snapshot)
    go true ih = let l : least_open os (min n o.1.snapshot) ≤ min n o.1.snapshot = least_upto os (min n o.1.snapshot) in omega arith
    go false ih = ih

pub least_bounds : (os : Openings) (n : ℕ) → (least_open os n ≤ n) × ((tx : Label) → IfSome (opening_in tx os) (λ (o : Opened). least_open os n ≤ o.snapshot))
least_bounds os n = (least_upto os n, least_found os n)

-- ---- the numbers past the new horizon

pub each_past : (p q : ℕ) (back : List Used) → Rises number_in p back → IfHead q back → Each (λ (u : Used). q < u.n) back
each_past p q [] r h = tt
each_past p q (u ∷ us) r h =
    let is : u.n ≡ r.0 = some_one u.n r.0 r.1 in
    (h, each_past r.0 q us r.3 (next q u us r.0 r.3 is h))
  where
    next : (q : ℕ) (u : Used) (us : List Used) (n : ℕ) → Rises number_in n us → u.n ≡ n → q < u.n → IfHead q us
    next q u [] n r is h = tt
    next q u (v ∷ vs) n r is h = let e : v.n ≡ r.0 = some_one v.n r.0 r.1 in let l : n < r.0 = r.2 in omega arith

filter_low : (q : ℕ) (xs : List (ℕ × Label)) → Each (λ (x : ℕ × Label). x.0 ≤ q) xs → (ys : List (ℕ × Label)) → filter (λ (x : ℕ × Label). nat_lt q x.0) (xs ++ ys) ≡ filter (λ (x : ℕ × Label). nat_lt q x.0) ys
filter_low q [] h ys = refl
filter_low q (x ∷ xs) h ys = ap (λ b. cond b (x ∷ filter (λ (x : ℕ × Label). nat_lt q x.0) (xs ++ ys)) (filter (λ (x : ℕ × Label). nat_lt q x.0) (xs ++ ys))) (le-ltb q x.0 h.0) ∙ filter_low q xs h.1 ys

filter_high : (q : ℕ) (xs : List (ℕ × Label)) → Each (λ (x : ℕ × Label). q < x.0) xs → filter (λ (x : ℕ × Label). nat_lt q x.0) xs ≡ xs
filter_high q [] h = refl
filter_high q (x ∷ xs) h = ap (λ b. cond b (x ∷ filter (λ (x : ℕ × Label). nat_lt q x.0) xs) (filter (λ (x : ℕ × Label). nat_lt q x.0) xs)) (lt-ltb q x.0 h.0) ∙ ap (λ ys. x ∷ ys) (filter_high q xs h.1)

filter_again : (p q : ℕ) → p ≤ q → (xs : List (ℕ × Label)) → filter (λ (x : ℕ × Label). nat_lt q x.0) xs ≡ filter (λ (x : ℕ × Label). nat_lt q x.0) (filter (λ (x : ℕ × Label). nat_lt p x.0) xs)
filter_again p q l [] = refl
filter_again p q l (x ∷ xs) = ⊎_elim
    (λ (far : p < x.0). ap (λ ys. cond (nat_lt q x.0) (x ∷ ys) ys) (filter_again p q l xs) ∙ sym (ap (λ b. filter (λ (x : ℕ × Label). nat_lt q x.0) (cond b (x ∷ filter (λ (x : ℕ × Label). nat_lt p x.0) xs) (filter (λ (x : ℕ × Label). nat_lt p x.0) xs))) (lt-ltb p x.0 far)))
    (λ (near : x.0 ≤ p).
    ap (λ b. cond b (x ∷ filter (λ (x : ℕ × Label). nat_lt q x.0) xs) (filter (λ (x : ℕ × Label). nat_lt q x.0) xs)) (le-ltb q x.0 (omega arith)) ∙ filter_again p q l xs
    ∙ sym (ap (λ b. filter (λ (x : ℕ × Label). nat_lt q x.0) (cond b (x ∷ filter (λ (x : ℕ × Label). nat_lt p x.0) xs) (filter (λ (x : ℕ × Label). nat_lt p x.0) xs))) (le-ltb p x.0 near)))
    (cases_lt p x.0)

none_low : (q k : ℕ) (us : List Used) → q < k → Each (λ (u : Used). u.n ≤ q) us → list_any (λ (u : Used). u.n == k) us ≡ false
none_low q k [] l h = refl
none_low q k (u ∷ us) l h = ap (λ b. b || list_any (λ (u : Used). u.n == k) us) (off (u.n == k) refl) ∙ none_low q k us l h.1
  where
    off : (b : Bool) → (u.n == k) ≡ b → b ≡ false
    off true d = let e : u.n ≡ k = eqb-true u.n k d in let s : u.n ≤ q = h.0 in absurd (clash e s l)
      where
        clash : u.n ≡ k → u.n ≤ q → q < k → ⊥
        clash e s l = omega arith
    off false d = refl

pub counts_purge : (h p q : ℕ) (front back : List Used) (e : EngineTable) → Counts h p (front ++ back) e → p ≤ q → q ≤ h → Each (λ (u : Used). u.n ≤ q) front → IfHead q back → Counts h q back (record e { purged = q })
counts_purge h p q front back e c up le low head =
    let low_back = rises_low p front back c.rising in
    let high : Each (λ (u : Used). q < u.n) back = each_past low_back.0 q back low_back.1 head in
    record {
      low = le;
      rising = rises_past low_back.0 q back low_back.1 high;
      stamped = filter_again p q up e.stamped ∙ ap (filter (λ (x : ℕ × Label). nat_lt q x.0)) (c.stamped ∙ flat_map-append (λ u. stamped_in u u.wrote) front back)
          ∙ filter_low q (stamped_of front) (each_stamped (λ n. n ≤ q) front low) (stamped_of back) ∙ filter_high q (stamped_of back) (each_stamped (λ n. q < n) back high);
      is_used = λ n l. c.is_used n (omega arith) ∙ list_any-append (λ (u : Used). u.n == n) front back ∙ ap (λ b. b || list_any (λ (u : Used). u.n == n) back) (none_low q n front l low);
      horizon = c.horizon;
      wrote = each_end (λ (u : Used). IfSome u.wrote (Wrote e.versions u.n)) front back c.wrote;
    }

-- a row whose versions agree from the new horizon on
row_purge : (p q : ℕ) (r : Option RowOf) (vs : List Version) (c d : Chained) → RowIs p r vs c → p ≤ q → AgreeFrom q c d → RowIs q r vs d
row_purge p q r vs c d h le a = record {
  decided = h.decided;
  undecided = h.undecided;
  kept = d.settled;
  all = h.all;
  are_stamped = h.are_stamped;
  is_pending = h.is_pending;
  chain_is = ap (λ t. record { settled = d.settled; top = t }) (a.top ∙ ap (λ (x : Chained). x.top) h.chain_is);
  reads = λ s l. let more : p ≤ s = omega arith in h.reads s more ∙ ap (λ (x : Chained). row_in (last_upto s x.settled)) (sym h.chain_is) ∙ sym (a.reads s l);
  last = λ s l. let more : p ≤ s = omega arith in h.last s more ∙ ap (λ (x : Chained). past_of s (last_in None x.settled)) (sym h.chain_is) ∙ sym (a.last s l);
}

late_all : (q : ℕ) (o : Option Held) (r : Option Opened) → option_map timed o ≡ r → IfSome r (λ x. q ≤ x.snapshot) → IfSome o (λ h. q ≤ h.snapshot)
late_all q None r e h = tt
late_all q (Some k) r e h = subst (λ x. IfSome x (λ x. q ≤ x.snapshot)) (sym e) h

pub stands_purge : (newest p q : ℕ) (opening : Label → Option Held) (chain then : Chains) (e : EngineTable) → Stands newest p opening chain e → p ≤ q → ChainsAgree q chain then
    → ((tx : Label) → IfSome (opening_of e tx) (λ (o : Opened). q ≤ o.snapshot)) → Stands newest q opening then (record e { purged = q })
stands_purge newest p q opening chain then e h le agree late = record {
  greatest = h.greatest;
  purged = refl;
  openings = h.openings;
  in_time = λ tx. late_all q (opening tx) (opening_of e tx) (h.openings tx) (late tx);
  floors = h.floors;
  rows = λ t key. row_purge p q (row_of e.rows t key) (row_versions t key e.versions) (chain t key) (then t key) (h.rows t key) le (agree t key);
  wrote = λ tx t key. h.wrote tx t key ∙ ap (is_by tx) (sym (agree t key).top);
  tops = λ t key. subst (λ o. IfSome o (λ v. option_map (λ k. state_by k.floor) (opening v.by) ≡ Some v.state)) (sym (agree t key).top) (h.tops t key);
}

module _ (name : EngineName) (told : Bool) (before now : ℕ) (shown then : List Table → Chains → Type 0) (b n : Book) (e : EngineTable) (upto : ℕ) where
  -- up to where a purge goes
  goes_to : StandsBy name shown b e → IsStrictlySortedBy label_cmp (keys_of b.openings.entries) → least_in b.openings.entries (min upto b.horizon) ≡ least_open e.openings (min upto (horizon_of e))
  goes_to h sorted = least_is b.openings.entries e.openings (min upto b.horizon) sorted h.sound.ordered h.stands.openings ∙ ap (λ x. least_open e.openings (min upto x)) h.counts.horizon

  pub serve_stay : (most : ℕ) → most ≡ least_in b.openings.entries (min upto b.horizon) → IsStrictlySortedBy label_cmp (keys_of b.openings.entries) → most ≤ b.purged
      → StandsBy name shown b e → may e (call.Purge upto) ≡ true → LeavesTable told before now (StandsBy name shown b) e (call.Purge upto) (Some (Number b.purged))
  serve_stay most is sorted le h a =
      let far : most ≡ least_open e.openings (min upto (horizon_of e)) = is ∙ goes_to h sorted in
      let purged : b.purged ≡ e.purged = h.stands.purged in
      let same : purged_to e upto ≡ e.purged = omega (arith, far, purged, le) in (
        due_reply told before now e (call.Purge upto) (Number b.purged) a (ap Number (same ∙ sym purged)),
        after_asked (StandsBy name shown b) e (call.Purge upto) (Number b.purged) (ap (λ q. record e { purged = q }) same) h,
      )

  pub serve_purge : (most : ℕ) (front back : List Used) → most ≡ least_in b.openings.entries (min upto b.horizon) → IsStrictlySortedBy label_cmp (keys_of b.openings.entries) → b.purged < most
      → map used b.numbers.items ≡ front ++ back → map used n.numbers.items ≡ back → Each (λ (u : Used). u.n ≤ most) front → IfHead most back
      → n.greatest ≡ b.greatest → n.purged ≡ most → n.horizon ≡ b.horizon → n.openings.entries ≡ b.openings.entries → HasRoom n
      → ((tables : List Table) (chains : Chains) → shown tables chains → (next : Chains) × ChainsAgree most chains next × then tables next)
      → StandsBy name shown b e → may e (call.Purge upto) ≡ true → LeavesTable told before now (StandsBy name then n) e (call.Purge upto) (Some (Number most))
  serve_purge most front back is sorted lt was now_is low head top p hz os room forgets h a =
      let far : most ≡ least_open e.openings (min upto (horizon_of e)) = is ∙ goes_to h sorted in
      let purged : b.purged ≡ e.purged = h.stands.purged in
      let same : purged_to e upto ≡ most = omega (arith, far, purged, lt) in
      let bounds = least_bounds e.openings (min upto (horizon_of e)) in
      let small : most ≤ b.horizon = let l : least_open e.openings (min upto (horizon_of e)) ≤ min upto (horizon_of e) = bounds.0 in let g : b.horizon ≡ horizon_of e = h.counts.horizon in omega (arith, far, l, g) in
      let f = forgets e.catalog h.chains h.shows in
      let late : (tx : Label) → IfSome (opening_of e tx) (λ (o : Opened). most ≤ o.snapshot) = λ tx. subst (λ m. IfSome (opening_of e tx) (λ (o : Opened). m ≤ o.snapshot)) (sym far) (bounds.1 tx) in (
        due_reply told before now e (call.Purge upto) (Number most) a (ap Number same),
        after_done (StandsBy name then n) e (call.Purge upto) (Number most) a refl (record {
          sound = sound_change name e (call.Purge upto) a refl h.sound;
          chains = f.0;
          shows = f.2;
          stands = subst (λ q. Stands n.greatest n.purged (held_in n.openings.entries) f.0 (record e { purged = q })) (sym same)
              (subst (λ q. Stands n.greatest q (held_in n.openings.entries) f.0 (record e { purged = most })) (sym p)
              (subst (λ g. Stands g most (held_in n.openings.entries) f.0 (record e { purged = most })) (sym top)
              (subst (λ es. Stands b.greatest most (held_in es) f.0 (record e { purged = most })) (sym os)
              (stands_purge b.greatest b.purged most (held_in b.openings.entries) h.chains f.0 e h.stands (omega arith) f.1 late))));
          counts = subst (λ q. Counts n.horizon n.purged (map used n.numbers.items) (record e { purged = q })) (sym same)
              (subst (λ q. Counts n.horizon q (map used n.numbers.items) (record e { purged = most })) (sym p)
              (subst (λ x. Counts x most (map used n.numbers.items) (record e { purged = most })) (sym hz)
              (subst (λ us. Counts b.horizon most us (record e { purged = most })) (sym now_is)
              (counts_purge b.horizon b.purged most front back e (subst (λ us. Counts b.horizon b.purged us e) was h.counts) (omega arith) small low head))));
          room = room;
        }),
      )

pub head_of : (q i : ℕ) (xs : List AnyNumber) → IfSome (slice_get xs i) (λ (u : AnyNumber). q < u.n) → IfHead q (map used (drop i xs))
head_of q zero [] h = tt
head_of q (suc i) [] h = tt
head_of q zero (x ∷ xs) h = h
head_of q (suc i) (x ∷ xs) h = head_of q i xs h

pub low_of : (q i : ℕ) (xs : List AnyNumber) → AllByRecursion (λ (u : AnyNumber). u.n ≤ q) (take i xs) → Each (λ (u : Used). u.n ≤ q) (map used (take i xs))
low_of q i xs h = each_map (λ (u : Used). u.n ≤ q) used (take i xs) h

pub parts_of : (i : ℕ) (xs : List AnyNumber) → map used xs ≡ map used (take i xs) ++ map used (drop i xs)
parts_of i xs = ap (map used) (sym (take-append-drop i xs)) ∙ map-append used (take i xs) (drop i xs)
