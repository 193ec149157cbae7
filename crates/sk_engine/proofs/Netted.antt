-- What the versions of one number come to is what its rows have at that number.
use Rattle.std.specs.Prelude.{◌≡◌, ℕ, ◌<◌, ◌≤◌, List, [], ◌∷◌, ◌++◌, Option, Some, None, Bool, true, false, cond, ◌&&◌, ◌||◌, ◌==◌, nat_le, T, map, IfSome, is_some}
use Rattle.std.proofs.Common.{refl, sym, ap, subst, ◌∙◌, ⊎_elim, arith}
use Rattle.std.specs.Option.{option_map}
use Rattle.std.specs.List.{filter, fold, list_any}
use Rattle.std.specs.List.Sorted.{IsStrictlySortedBy}
use Rattle.std.specs.Ordering.{nat_cmp, is_eq, is_lt, eq_by_cmp}
use Rattle.std.specs.declared.cmp.Ordering.TheVariants.{Less, Equal}
use Rattle.std.specs.Cmp.{tied_then, unsigned_tied}
use Rattle.std.specs.FinMap.{find, is_sorted}
use Rattle.std.specs.FinMap.Entries.{find-put, is_sorted-put, below_all, same_entries}
use Rattle.std.proofs.lemmas.Map.Keys.{sorted_head, sorted_tail}
use Rattle.std.proofs.lemmas.Bool.{cases_Bool, and_parts, and_from, cond-true, cond-false, false≢true, le-leb, eqb-true}
use Rattle.std.proofs.lemmas.Float.{T_from_true}
use Rattle.sk_rows.specs.declared.value.Value.{Value}
use Rattle.sk_rows.specs.Values.{value_cmp}
use Rattle.sk_model.specs.declared.commit.Write.{Write}
use Rattle.sk_model.specs.Database.{RowOf, hits, noted, write_of, net}
use Rattle.sk_model.specs.Database.{RowId as TableKey, row_id_cmp as table_key_cmp}
use Rattle.sk_model.specs.Numbers.{Rises}
use Rattle.sk_model.specs.Engine.{Version, VersionState, Open, Closed, Stamped, Dropped, is_of, is_stamped, is_undecided}
use Rattle.sk_model.specs.EngineReplies.{is_stamped_with, stamps, last_in}
use Rattle.sk_model.specs.Stamped.{number_of, v_number}
use Rattle.sk_model.proofs.Lists.{Each, filter_twice}
use Rattle.sk_model.proofs.Numbered.{filter_none, row_rises}
use Rattle.sk_model.proofs.Order.{is_row}
use Rattle.sk_model.specs.EngineInvariant.{Ordered, TimedAt}
use Rattle.sk_model.proofs.Nets.{row_ids_ordered}
use Rattle.sk_model.proofs.Lookups.{tied_is}
use Rattle.sk_chain.specs.declared.version.Version.{Version as ChainVersion}
use Rattle.sk_chain.specs.Chained.{Chained}
use Rattle.sk_chain.specs.Reading.{is_upto, last_upto}
use Rattle.sk_engine.specs.declared.row_id.RowId.{RowId}
use Rattle.sk_engine.specs.Rows.{Chains, is_row_id, is_among, row_or, row_in}
use Rattle.sk_engine.specs.Stands.{is_live, row_versions, state_of, as_chain, listed, RowIs, row_id_cmp}
use Rattle.sk_engine.specs.Counts.{Wrote}
use Rattle.sk_engine.specs.Recording.{write_given}
use Rattle.sk_engine.proofs.RowIds.{row_id_is}
use Rattle.sk_engine.proofs.Numbering.{each_not}

abbrev Noted : Type 0
Noted = List (TableKey × Option RowOf)

table_key_tied : (t : ℕ) (key : Value) (x : TableKey) → eq_by_cmp table_key_cmp (t, key) x ≡ ((t == x.0) && eq_by_cmp value_cmp key x.1)
table_key_tied t key x = sym (tied_then (nat_cmp t x.0) (value_cmp key x.1)) ∙ ap (λ b. b && is_eq (value_cmp key x.1)) (unsigned_tied t x.0)

-- ---- what is found of a row

abbrev last_write : ℕ → Value → Option (Option RowOf) → List Write → Option (Option RowOf)
last_write t key o ws = fold (λ r w. cond (hits t key w) (Some w.row) r) o ws

find_noted : (t : ℕ) (key : Value) (ws : List Write) (es : Noted) → find table_key_cmp (t, key) (fold noted es ws) ≡ last_write t key (find table_key_cmp (t, key) es) ws
find_noted t key [] es = refl
find_noted t key (w ∷ ws) es =
    find_noted t key ws (noted es w)
    ∙ ap (λ o. last_write t key o ws) (find-put table_key_cmp row_ids_ordered (t, key) (w.table, w.key) w.row es ∙ ap (λ b. cond b (Some w.row) (find table_key_cmp (t, key) es)) (table_key_tied t key (w.table, w.key)))

noted_sorted : (ws : List Write) (es : Noted) → T (is_sorted table_key_cmp es) → T (is_sorted table_key_cmp (fold noted es ws))
noted_sorted [] es h = h
noted_sorted (w ∷ ws) es h = noted_sorted ws (noted es w) (is_sorted-put table_key_cmp row_ids_ordered (w.table, w.key) w.row es h)

-- the row of the last of these
abbrev row_last : Option Version → Option (Option RowOf)
row_last o = option_map (λ (v : Version). v.write.row) o

last_step : (t : ℕ) (key : Value) (n : ℕ) (v : Version) (vs rest : List Version) (o : Option Version) (a s l : Bool) → is_of t key v ≡ a → (s ≡ true → l ≡ true) → is_stamped_with n v ≡ s
    → ((y : Option Version) → last_write t key (row_last y) (map (λ (v : Version). v.write) (filter (is_stamped_with n) vs)) ≡ row_last (last_in y (filter (is_stamped_with n) rest)))
    → last_write t key (row_last o) (map (λ (v : Version). v.write) (cond s (v ∷ filter (is_stamped_with n) vs) (filter (is_stamped_with n) vs)))
    ≡ row_last (last_in o (filter (is_stamped_with n) (cond (a && l) (v ∷ rest) rest)))
last_step t key n v vs rest o true true true d h e ih =
    ap (λ y. last_write t key y (map (λ (v : Version). v.write) (filter (is_stamped_with n) vs))) (cond-true (hits t key v.write) (Some v.write.row) (row_last o) d) ∙ ih (Some v)
    ∙ ap (λ xs. row_last (last_in o xs)) (sym (cond-true (is_stamped_with n v) (v ∷ filter (is_stamped_with n) rest) (filter (is_stamped_with n) rest) e))
last_step t key n v vs rest o true true false d h e ih = absurd (false≢true (h refl))
last_step t key n v vs rest o true false true d h e ih = ih o ∙ ap (λ xs. row_last (last_in o xs)) (sym (cond-false (is_stamped_with n v) (v ∷ filter (is_stamped_with n) rest) (filter (is_stamped_with n) rest) e))
last_step t key n v vs rest o true false false d h e ih = ih o
last_step t key n v vs rest o false true l d h e ih = ap (λ y. last_write t key y (map (λ (v : Version). v.write) (filter (is_stamped_with n) vs))) (cond-false (hits t key v.write) (Some v.write.row) (row_last o) d) ∙ ih o
last_step t key n v vs rest o false false l d h e ih = ih o

stamped_live : (n : ℕ) (st : VersionState) → stamps n st ≡ true → is_live st ≡ true
stamped_live n Open e = refl
stamped_live n (Closed f) e = refl
stamped_live n (Stamped m) e = refl
stamped_live n Dropped e = absurd (false≢true e)

last_of_row : (t : ℕ) (key : Value) (n : ℕ) (vs : List Version) (o : Option Version)
    → last_write t key (row_last o) (map (λ (v : Version). v.write) (filter (is_stamped_with n) vs)) ≡ row_last (last_in o (filter (is_stamped_with n) (row_versions t key vs)))
last_of_row t key n [] o = refl
last_of_row t key n (v ∷ vs) o = last_step t key n v vs (row_versions t key vs) o (is_of t key v) (is_stamped_with n v) (is_live v.standing) refl (stamped_live n v.standing) refl (last_of_row t key n vs)

any_step : (a s l : Bool) (x y z : Bool) → (s ≡ true → l ≡ true) → x ≡ y → ((a && s) || x) ≡ cond (a && l) (s || y) y
any_step true true true x y z h e = refl
any_step true true false x y z h e = absurd (false≢true (h refl))
any_step true false true x y z h e = e
any_step true false false x y z h e = e
any_step false s l x y z h e = e

any_cond : (n : ℕ) (v : Version) (rest : List Version) (b : Bool) → list_any (is_stamped_with n) (cond b (v ∷ rest) rest) ≡ cond b (is_stamped_with n v || list_any (is_stamped_with n) rest) (list_any (is_stamped_with n) rest)
any_cond n v rest true = refl
any_cond n v rest false = refl

any_of_row : (t : ℕ) (key : Value) (n : ℕ) (vs : List Version) → list_any (λ v. is_of t key v && is_stamped_with n v) vs ≡ list_any (is_stamped_with n) (row_versions t key vs)
any_of_row t key n [] = refl
any_of_row t key n (v ∷ vs) =
    any_step (is_of t key v) (is_stamped_with n v) (is_live v.standing) _ _ true (stamped_live n v.standing) (any_of_row t key n vs)
    ∙ sym (any_cond n v (row_versions t key vs) (is_of t key v && is_live v.standing))

-- ---- the numbers of a row rise

none_past : (n m : ℕ) (vs : List Version) → Rises v_number m vs → n ≤ m → (list_any (is_stamped_with n) vs ≡ false) × (filter (is_stamped_with n) vs ≡ []) × (filter (λ (c : ChainVersion). is_upto n c.state) (map as_chain vs) ≡ [])
none_past n m [] r l = (refl, refl, refl)
none_past n m (v ∷ vs) r l =
    let rest = none_past n r.0 vs r.3 (let k : m < r.0 = r.2 in omega arith) in
    let k : m < r.0 = r.2 in
    go v.standing r.1 rest (omega arith)
  where
    go : (st : VersionState) → number_of st ≡ Some r.0 → (list_any (is_stamped_with n) vs ≡ false) × (filter (is_stamped_with n) vs ≡ []) × (filter (λ (c : ChainVersion). is_upto n c.state) (map as_chain vs) ≡ []) → n < r.0
        → ((stamps n st || list_any (is_stamped_with n) vs) ≡ false) × (cond (stamps n st) (v ∷ filter (is_stamped_with n) vs) (filter (is_stamped_with n) vs) ≡ [])
        × (cond (is_upto n (state_of st)) (as_chain v ∷ filter (λ (c : ChainVersion). is_upto n c.state) (map as_chain vs)) (filter (λ (c : ChainVersion). is_upto n c.state) (map as_chain vs)) ≡ [])
    go Open e rest k = absurd (no e)
      where
        no : {x : ℕ} → None ≡ Some x → ⊥
        no e = cc
    go (Closed f) e rest k = absurd (no e)
      where
        no : {x : ℕ} → None ≡ Some x → ⊥
        no e = cc
    go Dropped e rest k = absurd (no e)
      where
        no : {x : ℕ} → None ≡ Some x → ⊥
        no e = cc
    go (Stamped x) e rest k =
        let same : x ≡ r.0 = one x r.0 e in
        let off : (n == x) ≡ false = differ n x (omega arith) in
        let far : nat_le x n ≡ false = past x n (omega arith) in
        (rw off rest.0, rw off rest.1, rw far rest.2)
      where
        one : (a b : ℕ) → Some a ≡ Some b → a ≡ b
        one a b e = cc

        differ : (a b : ℕ) → a < b → (a == b) ≡ false
        differ a b l = grind (arith, l)

        past : (a b : ℕ) → b < a → nat_le a b ≡ false
        past a b l = grind (arith, l)

-- of versions whose numbers rise the one with a number is the last one up to it
last_is : (n low : ℕ) (vs : List Version) (o : Option Version) (b : Option ChainVersion) → Rises v_number low vs → list_any (is_stamped_with n) vs ≡ true
    → last_in b (filter (λ (c : ChainVersion). is_upto n c.state) (map as_chain vs)) ≡ option_map as_chain (last_in o (filter (is_stamped_with n) vs))
last_is n low [] o b r a = absurd (false≢true a)
last_is n low (v ∷ vs) o b r a = go (λ c more. last_is n r.0 vs o c r.3 more) v.standing refl r.1 (stamps n v.standing) refl
  where
    one : (a b : ℕ) → Some a ≡ Some b → a ≡ b
    one a b e = cc

    go : ((c : Option ChainVersion) → list_any (is_stamped_with n) vs ≡ true → last_in c (filter (λ (c : ChainVersion). is_upto n c.state) (map as_chain vs)) ≡ option_map as_chain (last_in o (filter (is_stamped_with n) vs)))
        → (st : VersionState) → v.standing ≡ st → number_of v.standing ≡ Some r.0 → (s : Bool) → stamps n v.standing ≡ s
        → last_in b (filter (λ (c : ChainVersion). is_upto n c.state) (map as_chain (v ∷ vs))) ≡ option_map as_chain (last_in o (filter (is_stamped_with n) (v ∷ vs)))
    go ih st i e true d =
        let at : (n ≡ r.0) × (is_upto n (state_of v.standing) ≡ true) = here v.standing d e in
        let rest = none_past n r.0 vs r.3 (let q : n ≡ r.0 = at.0 in omega arith) in
        ap (last_in b) (cond-true (is_upto n (state_of v.standing)) (as_chain v ∷ filter (λ (c : ChainVersion). is_upto n c.state) (map as_chain vs)) (filter (λ (c : ChainVersion). is_upto n c.state) (map as_chain vs)) at.1 ∙ ap (λ xs. as_chain v ∷ xs) rest.2)
        ∙ sym (ap (λ xs. option_map as_chain (last_in o xs)) (cond-true (stamps n v.standing) (v ∷ filter (is_stamped_with n) vs) (filter (is_stamped_with n) vs) d ∙ ap (λ xs. v ∷ xs) rest.1))
      where
        here : (st : VersionState) → stamps n st ≡ true → number_of st ≡ Some r.0 → (n ≡ r.0) × (is_upto n (state_of st) ≡ true)
        here Open d e = absurd (false≢true d)
        here (Closed f) d e = absurd (false≢true d)
        here Dropped d e = absurd (false≢true d)
        here (Stamped x) d e = let same : n ≡ x = eqb-true n x d in (same ∙ one x r.0 e, le-leb x n (omega arith))
    go ih st i e false d =
        let more : list_any (is_stamped_with n) vs ≡ true = ap (λ s. s || list_any (is_stamped_with n) vs) (sym d) ∙ a in
        split (is_upto n (state_of v.standing)) (λ c. ih c more)
        ∙ sym (ap (λ xs. option_map as_chain (last_in o xs)) (cond-false (stamps n v.standing) (v ∷ filter (is_stamped_with n) vs) (filter (is_stamped_with n) vs) d))
      where
        split : (u : Bool) → ((c : Option ChainVersion) → last_in c (filter (λ (c : ChainVersion). is_upto n c.state) (map as_chain vs)) ≡ option_map as_chain (last_in o (filter (is_stamped_with n) vs)))
            → last_in b (cond u (as_chain v ∷ filter (λ (c : ChainVersion). is_upto n c.state) (map as_chain vs)) (filter (λ (c : ChainVersion). is_upto n c.state) (map as_chain vs))) ≡ option_map as_chain (last_in o (filter (is_stamped_with n) vs))
        split true ih = ih (Some (as_chain v))
        split false ih = ih b

-- ---- one row

pub filter_all : {X : Type 0} (p : X → Bool) (xs : List X) → Each (λ x. p x ≡ true) xs → filter p xs ≡ xs
filter_all p [] h = refl
filter_all p (x ∷ xs) h = cond-true (p x) (x ∷ filter p xs) (filter p xs) h.0 ∙ ap (λ ys. x ∷ ys) (filter_all p xs h.1)

filter_both : {X : Type 0} (p : X → Bool) (xs ys : List X) → filter p (xs ++ ys) ≡ filter p xs ++ filter p ys
filter_both p [] ys = refl
filter_both p (x ∷ xs) ys = ap (λ zs. cond (p x) (x ∷ zs) zs) (filter_both p xs ys) ∙ go (p x)
  where
    go : (b : Bool) → cond b (x ∷ (filter p xs ++ filter p ys)) (filter p xs ++ filter p ys) ≡ cond b (x ∷ filter p xs) (filter p xs) ++ filter p ys
    go true = refl
    go false = refl

nothing_more : {X : Type 0} (xs : List X) → xs ++ [] ≡ xs
nothing_more [] = refl
nothing_more (x ∷ xs) = ap (λ ys. x ∷ ys) (nothing_more xs)

undecided_off : (n : ℕ) (st : VersionState) → is_undecided st ≡ true → (stamps n st ≡ false) × (is_stamped st ≡ false)
undecided_off n Open e = (refl, refl)
undecided_off n (Closed f) e = (refl, refl)
undecided_off n (Stamped m) e = absurd (false≢true e)
undecided_off n Dropped e = absurd (false≢true e)

none_listed : (p : Version → Bool) (u : Option Version) → IfSome u (λ v. p v ≡ false) → filter p (listed u) ≡ []
none_listed p None h = refl
none_listed p (Some v) h = cond-false (p v) (v ∷ []) [] h

if_some : (P Q : Version → Type 0) (u : Option Version) → ((v : Version) → P v → Q v) → IfSome u P → IfSome u Q
if_some P Q None f h = tt
if_some P Q (Some v) f h = f v h

-- the stamped versions of a row, of all and of those that were not dropped
stamped_part : (t : ℕ) (key : Value) (vs : List Version) → filter (λ v. is_stamped v.standing) (row_versions t key vs) ≡ filter (is_row t key) vs
stamped_part t key vs = filter_twice (λ v. is_stamped v.standing) (λ v. is_of t key v && is_live v.standing) (is_row t key) (λ v. same (is_of t key v) v.standing) vs
  where
    same : (a : Bool) (st : VersionState) → ((a && is_live st) && is_stamped st) ≡ (a && is_stamped st)
    same true st = go st
      where
        go : (st : VersionState) → (is_live st && is_stamped st) ≡ is_stamped st
        go Open = refl
        go (Closed f) = refl
        go (Stamped n) = refl
        go Dropped = refl
    same false st = refl

any_filter : (q : Version → Bool) (xs : List Version) → filter q xs ≡ [] → list_any q xs ≡ false
any_filter q [] e = refl
any_filter q (x ∷ xs) e = go (any_filter q xs) (q x) refl e
  where
    go : (filter q xs ≡ [] → list_any q xs ≡ false) → (b : Bool) → q x ≡ b → cond b (x ∷ filter q xs) (filter q xs) ≡ [] → (b || list_any q xs) ≡ false
    go ih true d e = absurd (no e)
      where
        no : {X : Type 0} {x : X} {xs : List X} → x ∷ xs ≡ [] → ⊥
        no e = cc
    go ih false d e = ih e

module _ (g p n : ℕ) (t : ℕ) (key : Value) (r : Option RowOf) (vs : List Version) (c : Chained) (h : RowIs p r (row_versions t key vs) c) (o : Ordered vs)
    (timed : Each (λ (v : Version). TimedAt g v.snapshot v.standing) vs) (le : p ≤ n) where
  off_top : IfSome h.undecided (λ v. is_stamped_with n v ≡ false)
  off_top = if_some (λ v. is_undecided v.standing ≡ true) (λ v. is_stamped_with n v ≡ false) h.undecided (λ v e. (undecided_off n v.standing e).0) h.is_pending

  decided_rise : Rises v_number 0 h.decided
  decided_rise =
      let off : IfSome h.undecided (λ v. is_stamped v.standing ≡ false) = if_some (λ v. is_undecided v.standing ≡ true) (λ v. is_stamped v.standing ≡ false) h.undecided (λ v e. (undecided_off n v.standing e).1) h.is_pending in
      let is : filter (is_row t key) vs ≡ h.decided =
      sym (stamped_part t key vs) ∙ ap (filter (λ v. is_stamped v.standing)) h.all ∙ filter_both (λ v. is_stamped v.standing) h.decided (listed h.undecided)
      ∙ ap (λ ys. filter (λ v. is_stamped v.standing) h.decided ++ ys) (none_listed (λ v. is_stamped v.standing) h.undecided off) ∙ nothing_more (filter (λ v. is_stamped v.standing) h.decided)
      ∙ filter_all (λ v. is_stamped v.standing) h.decided h.are_stamped in
      subst (Rises v_number 0) is (row_rises g t key vs o timed)

  with_number : filter (is_stamped_with n) (row_versions t key vs) ≡ filter (is_stamped_with n) h.decided
  with_number =
      ap (filter (is_stamped_with n)) h.all ∙ filter_both (is_stamped_with n) h.decided (listed h.undecided)
      ∙ ap (λ ys. filter (is_stamped_with n) h.decided ++ ys) (none_listed (is_stamped_with n) h.undecided off_top) ∙ nothing_more (filter (is_stamped_with n) h.decided)

  -- the row that a number gave, where it wrote the row
  row_given : list_any (is_stamped_with n) (row_versions t key vs) ≡ true → row_last (last_in None (filter (is_stamped_with n) (row_versions t key vs))) ≡ Some (row_in (last_upto n c.settled))
  row_given a =
      let there : list_any (is_stamped_with n) h.decided ≡ true = ⊎_elim
      (λ (y : list_any (is_stamped_with n) h.decided ≡ true). y)
      (λ (f : list_any (is_stamped_with n) h.decided ≡ false).
      absurd (false≢true (sym (any_filter (is_stamped_with n) (row_versions t key vs) (with_number ∙ filter_none (is_stamped_with n) h.decided (each_not (is_stamped_with n) h.decided f))) ∙ a)))
      (cases_Bool (list_any (is_stamped_with n) h.decided)) in
      let last : last_upto n (map as_chain h.decided) ≡ option_map as_chain (last_in None (filter (is_stamped_with n) h.decided)) = last_is n 0 h.decided None None decided_rise there in
      ap (λ xs. row_last (last_in None xs)) with_number
      ∙ some_row (last_in None (filter (is_stamped_with n) h.decided)) (not_empty (filter (is_stamped_with n) h.decided) (λ e. false≢true (sym (any_filter (is_stamped_with n) h.decided e) ∙ there)))
      ∙ ap Some (ap (row_or r) (sym last) ∙ h.reads n le ∙ ap (λ (c : Chained). row_in (last_upto n c.settled)) (sym h.chain_is))
    where
      some_row : (l : Option Version) → is_some l ≡ true → row_last l ≡ Some (row_or r (option_map as_chain l))
      some_row None e = absurd (false≢true e)
      some_row (Some v) e = refl

      not_empty : (xs : List Version) → (xs ≡ [] → ⊥) → is_some (last_in None xs) ≡ true
      not_empty [] f = absurd (f refl)
      not_empty (x ∷ xs) f = go x xs
        where
          go : (x : Version) (xs : List Version) → is_some (last_in (Some x) xs) ≡ true
          go x [] = refl
          go x (y ∷ ys) = go y ys

-- ---- all rows

abbrev entry_of : Chains → ℕ → RowId → TableKey × Option RowOf
entry_of chains n p = ((p.table, p.key), row_in (last_upto n (chains p.table p.key).settled))

written_out : (chains : Chains) (n : ℕ) (ps : List RowId) → map write_of (map (entry_of chains n) ps) ≡ map (write_given chains n) ps
written_out chains n [] = refl
written_out chains n (p ∷ ps) = ap (λ ws. write_given chains n p ∷ ws) (written_out chains n ps)

find_entries : (chains : Chains) (n t : ℕ) (key : Value) (ps : List RowId)
    → find table_key_cmp (t, key) (map (entry_of chains n) ps) ≡ cond (is_among t key ps) (Some (row_in (last_upto n (chains t key).settled))) None
find_entries chains n t key [] = refl
find_entries chains n t key (p ∷ ps) =
    ap (λ b. cond b (Some (row_in (last_upto n (chains p.table p.key).settled))) (find table_key_cmp (t, key) (map (entry_of chains n) ps))) (table_key_tied t key (p.table, p.key))
    ∙ go (is_row_id t key p) refl (find_entries chains n t key ps)
  where
    go : (b : Bool) → is_row_id t key p ≡ b → find table_key_cmp (t, key) (map (entry_of chains n) ps) ≡ cond (is_among t key ps) (Some (row_in (last_upto n (chains t key).settled))) None
        → cond b (Some (row_in (last_upto n (chains p.table p.key).settled))) (find table_key_cmp (t, key) (map (entry_of chains n) ps)) ≡ cond (b || is_among t key ps) (Some (row_in (last_upto n (chains t key).settled))) None
    go true d ih = let is : (t ≡ p.table) × (key ≡ p.key) = row_id_is t key p d in
        ap (λ m. Some (row_in (last_upto n (chains m p.key).settled))) (sym is.0) ∙ ap (λ k. Some (row_in (last_upto n (chains t k).settled))) (sym is.1)
    go false d ih = ih

below_entries : (chains : Chains) (n : ℕ) (p : RowId) (ps : List RowId) → Each (λ (q : RowId). row_id_cmp p q ≡ Less) ps → below_all table_key_cmp (p.table, p.key) (map (entry_of chains n) ps) ≡ true
below_entries chains n p [] h = refl
below_entries chains n p (q ∷ qs) h = and_from _ _ (ap is_lt h.0) (below_entries chains n p qs h.1)

sorted_entries : (chains : Chains) (n : ℕ) (ps : List RowId) → IsStrictlySortedBy row_id_cmp ps → is_sorted table_key_cmp (map (entry_of chains n) ps) ≡ true
sorted_entries chains n [] h = refl
sorted_entries chains n (p ∷ ps) h = and_from _ _ (below_entries chains n p ps (sorted_head row_id_cmp p ps h)) (sorted_entries chains n ps (sorted_tail row_id_cmp p ps h))

table_key_same : (x y : TableKey) → table_key_cmp x y ≡ Equal → x ≡ y
table_key_same x y e =
    let parts : ((x.0 == y.0) ≡ true) × (eq_by_cmp value_cmp x.1 y.1 ≡ true) = and_parts (x.0 == y.0) (eq_by_cmp value_cmp x.1 y.1) (sym (table_key_tied x.0 x.1 y) ∙ ap is_eq e) in
    let a : x.0 ≡ y.0 = eqb-true x.0 y.0 parts.0 in
    let b : x.1 ≡ y.1 = tied_is x.1 y.1 parts.1 in
    λ i. (a i, b i)

-- what the versions of a number come to is what its rows have at that number
pub net_given : (g p n : ℕ) (opening : ℕ → Value → Option RowOf) (vs : List Version) (chains : Chains) (row_ids : List RowId)
    → ((t : ℕ) (key : Value) → RowIs p (opening t key) (row_versions t key vs) (chains t key)) → Ordered vs → Each (λ (v : Version). TimedAt g v.snapshot v.standing) vs → p ≤ n → Wrote vs n row_ids
    → net (map (λ (v : Version). v.write) (filter (is_stamped_with n) vs)) ≡ map (write_given chains n) row_ids
net_given g p n opening vs chains row_ids rows o timed le w =
    ap (map write_of) (same_entries table_key_cmp row_ids_ordered table_key_same (fold noted [] ws) (map (entry_of chains n) row_ids) (noted_sorted ws [] tt) (T_from_true _ (sorted_entries chains n row_ids w.ordered)) (λ q. at q.0 q.1))
    ∙ written_out chains n row_ids
  where
    ws : List Write
    ws = map (λ (v : Version). v.write) (filter (is_stamped_with n) vs)

    go : (t : ℕ) (key : Value) (b : Bool) → list_any (is_stamped_with n) (row_versions t key vs) ≡ b
        → row_last (last_in None (filter (is_stamped_with n) (row_versions t key vs))) ≡ cond b (Some (row_in (last_upto n (chains t key).settled))) None
    go t key true e = row_given g p n t key (opening t key) vs (chains t key) (rows t key) o timed le e
    go t key false e = ap (λ xs. row_last (last_in None xs)) (filter_none (is_stamped_with n) (row_versions t key vs) (each_not (is_stamped_with n) (row_versions t key vs) e))

    at : (t : ℕ) (key : Value) → find table_key_cmp (t, key) (fold noted [] ws) ≡ find table_key_cmp (t, key) (map (entry_of chains n) row_ids)
    at t key =
        find_noted t key ws [] ∙ last_of_row t key n vs None ∙ go t key (list_any (is_stamped_with n) (row_versions t key vs)) refl
        ∙ ap (λ b. cond b (Some (row_in (last_upto n (chains t key).settled))) None) (sym (w.rows t key ∙ any_of_row t key n vs)) ∙ sym (find_entries chains n t key row_ids)
