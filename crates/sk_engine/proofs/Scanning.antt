-- What a reader gets of a table is what its rows' versions give.
use Rattle.std.specs.Prelude.{◌≡◌, ℕ, List, [], ◌∷◌, ◌++◌, Option, Some, None, Bool, true, false, cond, not, ◌&&◌, ◌==◌, map, IfSome}
use Rattle.std.proofs.Common.{refl, sym, ap, subst, ◌∙◌, ⊎_elim, arith}
use Rattle.std.specs.List.{filter}
use Rattle.std.specs.List.{find as find_first}
use Rattle.std.specs.declared.cmp.Ordering.{Ordering}
use Rattle.std.specs.declared.cmp.Ordering.TheVariants.{Less, Equal, Greater}
use Rattle.std.specs.Ordering.{eq_by_cmp, is_eq, ordering_reverse}
use Rattle.std.specs.FinMap.{find}
use Rattle.std.specs.FinMap.Entries.{same_entries}
use Rattle.std.proofs.lemmas.Bool.{cases_Bool, false≢true, and_parts, and_from, eq-eqb, eqb-true}
use Rattle.sk_rows.specs.declared.value.Value.{Value}
use Rattle.sk_rows.specs.Values.{value_cmp}
use Rattle.sk_rows.specs.Orders.{value_cmp_total, value_cmp-IsAntisymmetric}
use Rattle.sk_model.specs.declared.label.Label.{Label}
use Rattle.sk_model.specs.declared.call.EngineFault.TheVariants as fault
use Rattle.sk_model.specs.declared.call.EngineReply.{EngineReply}
use Rattle.sk_model.specs.declared.call.EngineReply.TheVariants.{Found, Rows, Fault}
use Rattle.sk_model.specs.Database.{RowOf, KeyedRows, row_of, table_of}
use Rattle.sk_model.specs.Records.{same_label}
use Rattle.sk_model.specs.Engine.{EngineTable, Version, VersionState, Open, Closed, Stamped, Dropped, is_of, is_stamped, is_closed_below}
use Rattle.sk_chain.specs.Chained.{Chained}
use Rattle.sk_model.specs.EngineReplies.{is_blocking, is_seen, seen, busy_or, least_key, is_less}
use Rattle.sk_model.proofs.Lists.{Each, each_weaker}
use Rattle.sk_model.proofs.Lookups.{Sorted, sorted_after_writes, tied_is, tied_itself}
use Rattle.sk_model.proofs.Order.{find_none}
use Rattle.sk_model.proofs.Numbered.{filter_none}
use Rattle.sk_model.proofs.Listed.{some_is, none_some}
use Rattle.sk_engine.specs.Rows.{IsScan}
use Rattle.sk_engine.specs.Stands.{row_versions, is_live, listed, RowIs}

-- the version that a reader of the key has to wait for
abbrev pub blocker : Label → ℕ → ℕ → Value → List Version → Option Version
blocker tx s t key vs = find_first (λ v. is_of t key v && is_blocking tx s v) vs

-- one that a reader of the table has to wait for
abbrev pub blocks : Label → ℕ → ℕ → Version → Bool
blocks tx s t v = (v.write.table == t) && is_blocking tx s v

-- at its own key
each_own : (f : Value → Version → Bool) (vs : List Version) → ((key : Value) → Each (λ (v : Version). f key v ≡ false) vs) → Each (λ (v : Version). f v.write.key v ≡ false) vs
each_own f [] h = tt
each_own f (v ∷ vs) h = ((h v.write.key).0, each_own f vs (λ key. (h key).1))

own_of : (t : ℕ) (v : Version) → (v.write.table == t) ≡ true → is_of t v.write.key v ≡ true
own_of t v e = and_from _ _ (eq-eqb t v.write.table (sym (eqb-true v.write.table t e))) (tied_itself v.write.key)

found_free : (o : Option Version) (r s : Option RowOf) → busy_or o (Found s) ≡ Found r → (o ≡ None) × (s ≡ r)
found_free None r s e = (refl, cc)
found_free (Some v) r s e = absurd (clash e)
  where
    clash : Fault (fault.Busy v.by) ≡ Found r → ⊥
    clash e = cc

busy_is : (o : Option Version) (s : Option RowOf) (by : Label) → busy_or o (Found s) ≡ Fault (fault.Busy by) → (w : Version) × (o ≡ Some w) × (w.by ≡ by)
busy_is None s by e = absurd (clash e)
  where
    clash : Found s ≡ Fault (fault.Busy by) → ⊥
    clash e = cc
busy_is (Some w) s by e = (w, refl, one e)
  where
    one : Fault (fault.Busy w.by) ≡ Fault (fault.Busy by) → w.by ≡ by
    one e = cc

busy_some : (o : Option Version) (w : Version) (s : Option RowOf) → o ≡ Some w → busy_or o (Found s) ≡ Fault (fault.Busy w.by)
busy_some o w s e = ap (λ x. busy_or x (Found s)) e

-- where no key has a blocker, no version of the table blocks
none_blocks : (tx : Label) (s t : ℕ) (vs : List Version) → ((key : Value) → blocker tx s t key vs ≡ None) → filter (blocks tx s t) vs ≡ []
none_blocks tx s t vs h =
    filter_none (blocks tx s t) vs (each_weaker _ _ (λ v k. one v k) vs (each_own (λ key v. is_of t key v && is_blocking tx s v) vs (λ key. find_none (λ v. is_of t key v && is_blocking tx s v) vs (h key))))
  where
    one : (v : Version) → (is_of t v.write.key v && is_blocking tx s v) ≡ false → blocks tx s t v ≡ false
    one v k = ⊎_elim
        (λ (y : (v.write.table == t) ≡ true). ap (λ b. b && is_blocking tx s v) y ∙ sym (ap (λ b. b && is_blocking tx s v) (own_of t v y)) ∙ k)
        (λ (n : (v.write.table == t) ≡ false). ap (λ b. b && is_blocking tx s v) n)
        (cases_Bool (v.write.table == t))

module _ (e : EngineTable) (tx : Label) (s t : ℕ) (read : Value → EngineReply) (sorted : Sorted e.rows)
    (got : (key : Value) → busy_or (blocker tx s t key e.versions) (Found (row_of (seen e tx s) t key)) ≡ read key) where
  -- rows
  pub scan_rows : (rows : KeyedRows) → IsScan read (Rows rows)
      → busy_or (least_key None (filter (blocks tx s t) e.versions)) (Rows (table_of (seen e tx s) t)) ≡ Rows rows
  scan_rows rows h =
      let free : (key : Value) → (blocker tx s t key e.versions ≡ None) × (row_of (seen e tx s) t key ≡ find value_cmp key rows) =
      λ key. found_free (blocker tx s t key e.versions) (find value_cmp key rows) (row_of (seen e tx s) t key) (got key ∙ h.1 key) in
      ap (λ vs. busy_or (least_key None vs) (Rows (table_of (seen e tx s) t))) (none_blocks tx s t e.versions (λ key. (free key).0))
      ∙ ap Rows (same_entries value_cmp value_cmp_total value_cmp-IsAntisymmetric (table_of (seen e tx s) t) rows (sorted_after_writes e.rows (map (λ (v : Version). v.write) (filter (is_seen tx s) e.versions)) sorted t) h.0 (λ key. (free key).1))

  -- where no reader of a key has to wait
  pub scan_free : ((key : Value) (by : Label) → read key ≡ Fault (fault.Busy by) → ⊥)
      → busy_or (least_key None (filter (blocks tx s t) e.versions)) (Rows (table_of (seen e tx s) t)) ≡ Rows (table_of (seen e tx s) t)
  scan_free h = ap (λ vs. busy_or (least_key None vs) (Rows (table_of (seen e tx s) t))) (none_blocks tx s t e.versions (λ key. none key (blocker tx s t key e.versions) refl))
    where
      none : (key : Value) (o : Option Version) → blocker tx s t key e.versions ≡ o → blocker tx s t key e.versions ≡ None
      none key None d = d
      none key (Some w) d = absurd (h key w.by (sym (got key) ∙ busy_some (blocker tx s t key e.versions) w (row_of (seen e tx s) t key) d))

-- ---- the first key at which a reader has to wait

first_sat : (p : Version → Bool) (vs : List Version) (w : Version) → find_first p vs ≡ Some w → p w ≡ true
first_sat p [] w e = none_some e
first_sat p (v ∷ vs) w e = go (p v) refl e (first_sat p vs w)
  where
    go : (b : Bool) → p v ≡ b → cond b (Some v) (find_first p vs) ≡ Some w → (find_first p vs ≡ Some w → p w ≡ true) → p w ≡ true
    go true d e ih = subst (λ (x : Version). p x ≡ true) (some_is e) d
    go false d e ih = ih e

-- what holds of each holds of the least
least_sat : (P : Version → Type 0) (best : Option Version) (vs : List Version) → IfSome best P → Each P vs → IfSome (least_key best vs) P
least_sat P best [] b h = b
least_sat P None (v ∷ vs) b h = least_sat P (Some v) vs h.0 h.1
least_sat P (Some w) (v ∷ vs) b h = least_sat P (Some (cond (is_less (value_cmp v.write.key w.write.key)) v w)) vs (one (is_less (value_cmp v.write.key w.write.key))) h.1
  where
    one : (c : Bool) → P (cond c v w)
    one true = h.0
    one false = b

-- no key of these is below that of the least
abbrev pub not_below : Value → Version → Type 0
not_below k v = value_cmp k v.write.key ≡ Less → ⊥

less_not : (o : Ordering) → is_less o ≡ false → o ≡ Less → ⊥
less_not Less e d = false≢true (sym e)
less_not Equal e d = cc
less_not Greater e d = cc

is_less_true : (o : Ordering) → is_less o ≡ true → o ≡ Less
is_less_true Less e = refl
is_less_true Equal e = absurd (false≢true e)
is_less_true Greater e = absurd (false≢true e)

least_keeps : (k : Value) (w : Version) (vs : List Version) → not_below k w → IfSome (least_key (Some w) vs) (not_below k)
least_keeps k w [] h = h
least_keeps k w (v ∷ vs) h = least_keeps k (cond (is_less (value_cmp v.write.key w.write.key)) v w) vs (one (is_less (value_cmp v.write.key w.write.key)) refl)
  where
    one : (c : Bool) → is_less (value_cmp v.write.key w.write.key) ≡ c → not_below k (cond c v w)
    one true d = λ l. h (value_cmp_total.trans k v.write.key w.write.key l (is_less_true (value_cmp v.write.key w.write.key) d))
    one false d = h

itself : (w : Version) → not_below w.write.key w
itself w e = cc2 (value_cmp w.write.key w.write.key) e (tied_itself w.write.key)
  where
    cc2 : (o : Ordering) → o ≡ Less → is_eq o ≡ true → ⊥
    cc2 o e d = false≢true (ap is_eq (sym e) ∙ d)

-- of one of them, the least is not past it
least_of : (p : Version → Bool) (k : Value) (best : Option Version) (vs : List Version) (w : Version) → find_first (λ v. p v && eq_by_cmp value_cmp k v.write.key) vs ≡ Some w → IfSome (least_key best vs) (not_below k)
least_of p k best [] w e = none_some e
least_of p k best (v ∷ vs) w e = go (p v && eq_by_cmp value_cmp k v.write.key) refl e best (λ b d. least_of p k b vs w d)
  where
    better : Option Version → Version
    better None = v
    better (Some x) = cond (is_less (value_cmp v.write.key x.write.key)) v x

    step : (best : Option Version) → least_key best (v ∷ vs) ≡ least_key (Some (better best)) vs
    step None = refl
    step (Some x) = refl

    here : (best : Option Version) → k ≡ v.write.key → not_below k (better best)
    here None q = subst (λ y. not_below y v) (sym q) (itself v)
    here (Some x) q = one (is_less (value_cmp v.write.key x.write.key)) refl
      where
        one : (c : Bool) → is_less (value_cmp v.write.key x.write.key) ≡ c → not_below k (cond c v x)
        one true d = subst (λ y. not_below y v) (sym q) (itself v)
        one false d = subst (λ y. not_below y x) (sym q) (less_not (value_cmp v.write.key x.write.key) d)

    go : (b : Bool) → (p v && eq_by_cmp value_cmp k v.write.key) ≡ b → cond b (Some v) (find_first (λ v. p v && eq_by_cmp value_cmp k v.write.key) vs) ≡ Some w → (best : Option Version)
        → ((b : Option Version) → find_first (λ v. p v && eq_by_cmp value_cmp k v.write.key) vs ≡ Some w → IfSome (least_key b vs) (not_below k)) → IfSome (least_key best (v ∷ vs)) (not_below k)
    go true d e best ih = subst (λ o. IfSome o (not_below k)) (sym (step best)) (least_keeps k (better best) vs (here best (tied_is k v.write.key (and_parts (p v) (eq_by_cmp value_cmp k v.write.key) d).1)))
    go false d e best ih = subst (λ o. IfSome o (not_below k)) (sym (step best)) (ih (Some (better best)) e)

find_filter : (p r q : Version → Bool) → ((v : Version) → (p v && r v) ≡ q v) → (vs : List Version) → find_first r (filter p vs) ≡ find_first q vs
find_filter p r q h [] = refl
find_filter p r q h (v ∷ vs) = go (p v) (r v) (q v) refl refl (h v) (find_filter p r q h vs)
  where
    go : (a b c : Bool) → p v ≡ a → r v ≡ b → (p v && r v) ≡ c → find_first r (filter p vs) ≡ find_first q vs → find_first r (cond a (v ∷ filter p vs) (filter p vs)) ≡ cond c (Some v) (find_first q vs)
    go true b c x y z ih = ap (λ d. cond d (Some v) (find_first r (filter p vs))) (sym (ap (λ d. d && r v) x) ∙ z) ∙ ap (cond c (Some v)) ih
    go false b c x y z ih = ih ∙ ap (λ d. cond d (Some v) (find_first q vs)) (sym (ap (λ d. d && r v) x) ∙ z)

some_least : (x : Version) (vs : List Version) → (y : Version) × (least_key (Some x) vs ≡ Some y)
some_least x [] = (x, refl)
some_least x (v ∷ vs) = some_least (cond (is_less (value_cmp v.write.key x.write.key)) v x) vs

least_there : (q : Version → Bool) (vs : List Version) (w : Version) → find_first q vs ≡ Some w → (y : Version) × (least_key None vs ≡ Some y)
least_there q [] w e = none_some e
least_there q (v ∷ vs) w e = some_least v vs

each_at : (G : Value → Type 0) (f : Value → Version → Bool) (vs : List Version) → ((key : Value) → G key → Each (λ (v : Version). f key v ≡ false) vs) → Each (λ (v : Version). G v.write.key → f v.write.key v ≡ false) vs
each_at G f [] h = tt
each_at G f (v ∷ vs) h = ((λ g. (h v.write.key g).0), each_at G f vs (λ key g. (h key g).1))

each_unfiltered : (P : Version → Type 0) (q : Version → Bool) (vs : List Version) → Each P (filter q vs) → Each (λ (v : Version). q v ≡ true → P v) vs
each_unfiltered P q [] h = tt
each_unfiltered P q (v ∷ vs) h = go (q v) refl h (each_unfiltered P q vs)
  where
    go : (b : Bool) → q v ≡ b → Each P (cond b (v ∷ filter q vs) (filter q vs)) → (Each P (filter q vs) → Each (λ (v : Version). q v ≡ true → P v) vs) → (q v ≡ true → P v) × Each (λ (v : Version). q v ≡ true → P v) vs
    go true d h ih = ((λ e. h.0), ih h.1)
    go false d h ih = ((λ e. absurd (false≢true (sym d ∙ e))), ih h)

each_filtered : (P : Version → Type 0) (q : Version → Bool) (vs : List Version) → Each (λ (v : Version). q v ≡ true → P v) vs → Each P (filter q vs)
each_filtered P q [] h = tt
each_filtered P q (v ∷ vs) h = go (q v) refl (each_filtered P q vs h.1)
  where
    go : (b : Bool) → q v ≡ b → Each P (filter q vs) → Each P (cond b (v ∷ filter q vs) (filter q vs))
    go true d ih = (h.0 d, ih)
    go false d ih = ih

find_each : (P : Version → Type 0) (q : Version → Bool) (vs : List Version) (w : Version) → Each P vs → find_first q vs ≡ Some w → P w
find_each P q [] w h e = none_some e
find_each P q (v ∷ vs) w h e = go (q v) e (find_each P q vs w h.1)
  where
    go : (b : Bool) → cond b (Some v) (find_first q vs) ≡ Some w → (find_first q vs ≡ Some w → P w) → P w
    go true e ih = subst P (some_is e) h.0
    go false e ih = ih e

-- of one row only its pending version blocks
one_blocks : (p : ℕ) (r : Option RowOf) (vs : List Version) (c : Chained) (tx : Label) (s : ℕ) (h : RowIs p r vs c) → Each (λ (v : Version). is_blocking tx s v ≡ true → h.undecided ≡ Some v) vs
one_blocks p r vs c tx s h = subst (Each (λ (v : Version). is_blocking tx s v ≡ true → h.undecided ≡ Some v)) (sym h.all) (go h.decided h.are_stamped)
  where
    last : (u : Option Version) → Each (λ (v : Version). is_blocking tx s v ≡ true → u ≡ Some v) (listed u)
    last None = tt
    last (Some v) = ((λ b. refl), tt)

    off : (b : Bool) (st : VersionState) → is_stamped st ≡ true → (b && is_closed_below s st) ≡ false
    off b Open e = absurd (false≢true e)
    off b (Closed f) e = absurd (false≢true e)
    off true (Stamped n) e = refl
    off false (Stamped n) e = refl
    off b Dropped e = absurd (false≢true e)

    go : (xs : List Version) → Each (λ (v : Version). is_stamped v.standing ≡ true) xs → Each (λ (v : Version). is_blocking tx s v ≡ true → h.undecided ≡ Some v) (xs ++ listed h.undecided)
    go [] k = last h.undecided
    go (x ∷ xs) k = ((λ b. absurd (false≢true (sym (off (not (same_label tx x.by)) x.standing k.0) ∙ b))), go xs k.1)

blocking_live : (s : ℕ) (b : Bool) (st : VersionState) → (b && is_closed_below s st) ≡ true → is_live st ≡ true
blocking_live s b Open e = refl
blocking_live s b (Closed f) e = refl
blocking_live s b (Stamped n) e = refl
blocking_live s true Dropped e = e
blocking_live s false Dropped e = e

neither_less : (a b : Value) → (value_cmp a b ≡ Less → ⊥) → (value_cmp b a ≡ Less → ⊥) → a ≡ b
neither_less a b f g = go (value_cmp a b) refl
  where
    go : (o : Ordering) → value_cmp a b ≡ o → a ≡ b
    go Less e = absurd (f e)
    go Equal e = value_cmp-IsAntisymmetric a b e
    go Greater e = absurd (g (value_cmp_total.antisymm b a ∙ ap ordering_reverse e))

module _ (e : EngineTable) (tx : Label) (s t p : ℕ) (read : Value → EngineReply) (chain : Value → Chained)
    (got : (key : Value) → busy_or (blocker tx s t key e.versions) (Found (row_of (seen e tx s) t key)) ≡ read key)
    (rows : (key : Value) → RowIs p (row_of e.rows t key) (row_versions t key e.versions) (chain key)) where
  -- each that blocks makes a reader of its key wait
  waits : Each (λ (v : Version). blocks tx s t v ≡ true → (other : Label) × (read v.write.key ≡ Fault (fault.Busy other))) e.versions
  waits = each_weaker _ _ (λ v k b. at v k b (blocker tx s t v.write.key e.versions) refl) e.versions
      (each_at (λ key. blocker tx s t key e.versions ≡ None) (λ key v. is_of t key v && is_blocking tx s v) e.versions (λ key g. find_none (λ v. is_of t key v && is_blocking tx s v) e.versions g))
    where
      at : (v : Version) → (blocker tx s t v.write.key e.versions ≡ None → (is_of t v.write.key v && is_blocking tx s v) ≡ false) → blocks tx s t v ≡ true → (o : Option Version) → blocker tx s t v.write.key e.versions ≡ o
          → (other : Label) × (read v.write.key ≡ Fault (fault.Busy other))
      at v k b None d = let parts = and_parts (v.write.table == t) (is_blocking tx s v) b in absurd (false≢true (sym (k d) ∙ and_from _ _ (own_of t v parts.0) parts.1))
      at v k b (Some w) d = (w.by, sym (got v.write.key) ∙ busy_some (blocker tx s t v.write.key e.versions) w (row_of (seen e tx s) t v.write.key) d)

  -- all that block at one key are of one transaction
  alike : (key : Value) → Each (λ (v : Version). (is_of t key v && is_blocking tx s v) ≡ true → (rows key).undecided ≡ Some v) e.versions
  alike key = each_weaker _ _ (λ v k b. one v k b) e.versions (each_unfiltered (λ (v : Version). is_blocking tx s v ≡ true → (rows key).undecided ≡ Some v) (λ v. is_of t key v && is_live v.standing) e.versions
      (one_blocks p (row_of e.rows t key) (row_versions t key e.versions) (chain key) tx s (rows key)))
    where
      one : (v : Version) → ((is_of t key v && is_live v.standing) ≡ true → is_blocking tx s v ≡ true → (rows key).undecided ≡ Some v) → (is_of t key v && is_blocking tx s v) ≡ true → (rows key).undecided ≡ Some v
      one v k b = let parts = and_parts (is_of t key v) (is_blocking tx s v) b in k (and_from _ _ parts.0 (blocking_live s (not (same_label tx v.by)) v.standing parts.1)) parts.1

  pub scan_busy : (by : Label) → IsScan read (Fault (fault.Busy by)) → busy_or (least_key None (filter (blocks tx s t) e.versions)) (Rows (table_of (seen e tx s) t)) ≡ Fault (fault.Busy by)
  scan_busy by h =
      let key : Value = h.0 in
      let w = busy_is (blocker tx s t key e.versions) (row_of (seen e tx s) t key) by (got key ∙ h.1) in
      let f : List Version = filter (blocks tx s t) e.versions in
      let first : find_first (λ v. true && eq_by_cmp value_cmp key v.write.key) f ≡ Some w.0 =
      find_filter (blocks tx s t) (λ v. true && eq_by_cmp value_cmp key v.write.key) (λ v. is_of t key v && is_blocking tx s v) (λ v. same v.write.table (eq_by_cmp value_cmp key v.write.key) (is_blocking tx s v)) e.versions ∙ w.1 in
      let least = least_there (λ v. true && eq_by_cmp value_cmp key v.write.key) f w.0 first in
      let low : not_below key least.0 = subst (λ o. IfSome o (not_below key)) least.1 (least_of (λ v. true) key None f w.0 first) in
      let busy = subst (λ o. IfSome o (λ (v : Version). (other : Label) × (read v.write.key ≡ Fault (fault.Busy other)))) least.1
      (least_sat (λ (v : Version). (other : Label) × (read v.write.key ≡ Fault (fault.Busy other))) None f tt (each_filtered (λ (v : Version). (other : Label) × (read v.write.key ≡ Fault (fault.Busy other))) (blocks tx s t) e.versions waits)) in
      let at : least.0.write.key ≡ key = neither_less least.0.write.key key (λ l. h.2 least.0.write.key l busy.0 busy.1) low in
      let of_all : (rows key).undecided ≡ Some least.0 =
      subst (λ o. IfSome o (λ (v : Version). v.write.key ≡ key → (rows key).undecided ≡ Some v)) least.1
      (least_sat (λ (v : Version). v.write.key ≡ key → (rows key).undecided ≡ Some v) None f tt
      (each_filtered (λ (v : Version). v.write.key ≡ key → (rows key).undecided ≡ Some v) (blocks tx s t) e.versions
      (each_weaker _ _ (λ v k b q. k (of_key v b q)) e.versions (alike key)))) at in
      let of_first : (rows key).undecided ≡ Some w.0 = find_each (λ (v : Version). (is_of t key v && is_blocking tx s v) ≡ true → (rows key).undecided ≡ Some v) (λ v. is_of t key v && is_blocking tx s v) e.versions w.0 (alike key) w.1
      (first_sat (λ v. is_of t key v && is_blocking tx s v) e.versions w.0 w.1) in
      ap (λ o. busy_or o (Rows (table_of (seen e tx s) t))) least.1 ∙ ap (λ (v : Version). Fault (fault.Busy v.by)) (some_is (sym of_all ∙ of_first)) ∙ ap (λ l. Fault (fault.Busy l)) w.2
    where
      same : (u : ℕ) (b c : Bool) → (((u == t) && c) && (true && b)) ≡ (((t == u) && b) && c)
      same u b c = ap (λ x. (x && c) && (true && b)) (flip u t) ∙ go (t == u) b c
        where
          flip : (a b : ℕ) → (a == b) ≡ (b == a)
          flip a b = grind arith

          go : (a b c : Bool) → ((a && c) && (true && b)) ≡ ((a && b) && c)
          go true true true = refl
          go true true false = refl
          go true false true = refl
          go true false false = refl
          go false b c = refl

      of_key : (v : Version) → blocks tx s t v ≡ true → v.write.key ≡ h.0 → (is_of t h.0 v && is_blocking tx s v) ≡ true
      of_key v b q = let parts = and_parts (v.write.table == t) (is_blocking tx s v) b in and_from _ _ (subst (λ k. is_of t k v ≡ true) q (own_of t v parts.0)) parts.1
