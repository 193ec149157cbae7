-- What an engine shows of a row, by its versions, and what a read that was not Busy found.
use Rattle.std.specs.Prelude.{ℕ, List, [], ◌∷◌, ◌++◌, Option, Some, None, Bool, true, false, cond, not, ◌&&◌, ◌==◌, ◌≡◌, ◌<◌, ◌≤◌, nat_lt, nat_le, length}
use Rattle.std.proofs.Math.Bool.{and_comm}
use Rattle.std.proofs.Common.{refl, sym, ap, ◌∙◌, ⊎_elim, arith}
use Rattle.std.specs.List.{filter, flat_map, find}
use Rattle.std.proofs.lemmas.Bool.{cases_lt, and_left, and_right, and_from, or_from, or_left, or_right, eq-eqb, lt-ltb, false≢true, cases_Bool}
use Rattle.std.proofs.lemmas.List.{map-append}
use Rattle.std.proofs.lemmas.List.Sums.{fold-append}
use Rattle.sk_rows.specs.declared.value.Value.{Value}
use Rattle.sk_rows.specs.declared.table.Table.{Table}
use Rattle.sk_rows.specs.Values.{value_cmp}
use Rattle.sk_model.specs.declared.label.Label.{Label}
use Rattle.sk_model.specs.declared.engine.EngineName.{EngineName}
use Rattle.sk_model.specs.declared.commit.Write.{Write}
use Rattle.sk_model.specs.declared.commit.Commit.{Commit}
use Rattle.sk_model.specs.declared.call.EngineCall.{EngineCall}
use Rattle.sk_model.specs.declared.call.EngineCall.TheVariants as call
use Rattle.sk_model.specs.declared.call.EngineFault.TheVariants as fault
use Rattle.sk_model.specs.declared.call.EngineReply.TheVariants.{Found, Rows, Fault}
use Rattle.sk_model.specs.declared.call.Entry.{Entry}
use Rattle.sk_model.specs.Database.{RowOf, KeyedRows, Tables, hits, row_of, table_of, after_writes, state}
use Rattle.sk_model.specs.Numbers.{there, within, Rises}
use Rattle.sk_model.specs.Records.{same_label}
use Rattle.sk_model.specs.Engine.{VersionState, Open, Closed, Stamped, Dropped, Version, EngineTable, engine_at, is_upto, is_undecided, is_of, is_closed_below, opening_of, snapshot_of}
use Rattle.sk_model.specs.EngineReplies.{is_seen, seen, is_blocking, is_less, least_key, busy_or, got, scanned}
use Rattle.sk_model.specs.EngineChanges.{change}
use Rattle.sk_model.specs.EngineConditions.{is_standing}
use Rattle.sk_model.specs.Legal.{step, after_entries, Legal}
use Rattle.sk_model.specs.Stamped.{CommitsOf, writes_of}
use Rattle.sk_model.specs.Calls.{last_row, is_own, own_writes_of}
use Rattle.sk_model.proofs.Lists.{Each, each_both, each_weaker, filter_twice}
use Rattle.sk_model.proofs.Lookups.{row_after_writes, length_after_writes, state_is, hits_is}
use Rattle.sk_model.proofs.Quiet.{undecided_unseen, step_keeps, reads, seen_versions, Quiet, QuietAt, no_closed, seen_stays}
use Rattle.sk_model.specs.EngineInvariant.{Sound, Good, Ordered, Behind, same_row}
use Rattle.sk_model.proofs.Order.{same_row_of, find_none, good_entries, good_start}
use Rattle.sk_model.proofs.Numbered.{filter-map, filter_none, filter_agree_on, engine_row, last_touched, touched}

abbrev pub own_versions : Label → ℕ → Value → List Version → List Version
own_versions tx t key vs = filter (λ v. is_of t key v && is_own tx v) vs

-- behind an undecided version of a row stand only dropped ones
gone : (w st : VersionState) (s : ℕ) → is_undecided st ≡ true → Behind w st s → w ≡ Dropped
gone Dropped st s u b = refl
gone Open Open s u b = absurd b
gone Open (Closed f) s u b = absurd b
gone Open (Stamped n) s u b = absurd (false≢true u)
gone Open Dropped s u b = absurd (false≢true u)
gone (Closed g) Open s u b = absurd b
gone (Closed g) (Closed f) s u b = absurd b
gone (Closed g) (Stamped n) s u b = absurd (false≢true u)
gone (Closed g) Dropped s u b = absurd (false≢true u)
gone (Stamped m) Open s u b = absurd b
gone (Stamped m) (Closed f) s u b = absurd b
gone (Stamped m) (Stamped n) s u b = absurd (false≢true u)
gone (Stamped m) Dropped s u b = absurd (false≢true u)

pub none_left : (v : Version) (t : ℕ) (key : Value) (vs : List Version) → is_undecided v.standing ≡ true → is_of t key v ≡ true
    → Each (λ (w : Version). same_row v w ≡ true → Behind w.standing v.standing w.snapshot) vs → (q : Version → Bool) → ((w : Version) → w.standing ≡ Dropped → q w ≡ false)
    → filter (λ w. is_of t key w && q w) vs ≡ []
none_left v t key vs u i h q off = filter_none (λ w. is_of t key w && q w) vs (each_weaker _ _ (λ w k. one w k) vs h)
  where
    one : (w : Version) → (same_row v w ≡ true → Behind w.standing v.standing w.snapshot) → (is_of t key w && q w) ≡ false
    one w k = ⊎_elim
        (λ (y : is_of t key w ≡ true). and_right (is_of t key w) (q w) (off w (gone w.standing v.standing w.snapshot u (k (same_row_of t key v w i y)))))
        (λ (n : is_of t key w ≡ false). and_left (is_of t key w) (q w) n)
        (cases_Bool (is_of t key w))

-- what a transaction sees of a row is what its snapshot holds, and then its own
own_last : (tx : Label) (t : ℕ) (key : Value) (s : ℕ) (vs : List Version) → Ordered vs
    → filter (λ v. is_of t key v && is_seen tx s v) vs ≡ seen_versions t key s vs ++ own_versions tx t key vs
own_last tx t key s [] o = refl
own_last tx t key s (v ∷ vs) o =
    let ih : filter (λ v. is_of t key v && is_seen tx s v) vs ≡ seen_versions t key s vs ++ own_versions tx t key vs = own_last tx t key s vs o.1 in
    ⊎_elim
    (λ (y : is_of t key v ≡ true). ⊎_elim
    (λ (u : is_undecided v.standing ≡ true).
    let un : is_upto s v.standing ≡ false = undecided_unseen s v.standing u in
    let b : reads t key s v ≡ false = and_right (is_of t key v) (is_upto s v.standing) un in
    ⊎_elim
    (λ (mine : same_label tx v.by ≡ true).
    let a : (is_of t key v && is_seen tx s v) ≡ true = and_from _ _ y (or_right (is_upto s v.standing) (is_own tx v) (and_from _ _ mine u)) in
    let c : (is_of t key v && is_own tx v) ≡ true = and_from _ _ y (and_from _ _ mine u) in
    let e1 : filter (λ v. is_of t key v && is_seen tx s v) vs ≡ [] = none_left v t key vs u y o.0 (is_seen tx s) (λ w d. or_from _ _ (ap (is_upto s) d) (and_right (same_label tx w.by) (is_undecided w.standing) (ap is_undecided d))) in
    let e2 : seen_versions t key s vs ≡ [] = none_left v t key vs u y o.0 (λ w. is_upto s w.standing) (λ w d. ap (is_upto s) d) in
    let e3 : own_versions tx t key vs ≡ [] = none_left v t key vs u y o.0 (is_own tx) (λ w d. and_right (same_label tx w.by) (is_undecided w.standing) (ap is_undecided d)) in
    rw (a, b, c) (rw (e1, e2, e3) refl))
    (λ (other : same_label tx v.by ≡ false).
    let c0 : is_own tx v ≡ false = and_left (same_label tx v.by) (is_undecided v.standing) other in
    let a : (is_of t key v && is_seen tx s v) ≡ false = and_right (is_of t key v) (is_seen tx s v) (or_from _ _ un c0) in
    let c : (is_of t key v && is_own tx v) ≡ false = and_right (is_of t key v) (is_own tx v) c0 in
    rw (a, b, c) ih)
    (cases_Bool (same_label tx v.by)))
    (λ (d : is_undecided v.standing ≡ false).
    let c0 : is_own tx v ≡ false = and_right (same_label tx v.by) (is_undecided v.standing) d in
    let c : (is_of t key v && is_own tx v) ≡ false = and_right (is_of t key v) (is_own tx v) c0 in
    ⊎_elim
    (λ (up : is_upto s v.standing ≡ true).
    let a : (is_of t key v && is_seen tx s v) ≡ true = and_from _ _ y (or_left (is_upto s v.standing) (is_own tx v) up) in
    let b : reads t key s v ≡ true = and_from _ _ y up in
    rw (a, b, c) (ap (λ xs. v ∷ xs) ih))
    (λ (un : is_upto s v.standing ≡ false).
    let a : (is_of t key v && is_seen tx s v) ≡ false = and_right (is_of t key v) (is_seen tx s v) (or_from _ _ un c0) in
    let b : reads t key s v ≡ false = and_right (is_of t key v) (is_upto s v.standing) un in
    rw (a, b, c) ih)
    (cases_Bool (is_upto s v.standing)))
    (cases_Bool (is_undecided v.standing)))
    (λ (n : is_of t key v ≡ false).
    let a : (is_of t key v && is_seen tx s v) ≡ false = and_left _ (is_seen tx s v) n in
    let b : reads t key s v ≡ false = and_left _ (is_upto s v.standing) n in
    let c : (is_of t key v && is_own tx v) ≡ false = and_left _ (is_own tx v) n in
    rw (a, b, c) ih)
    (cases_Bool (is_of t key v))

-- what an engine shows of a row, by its versions
pub seen_row : (e : EngineTable) (tx : Label) (s t : ℕ) (key : Value) → Ordered e.versions → t < length e.rows
    → row_of (seen e tx s) t key ≡ last_row t key (last_row t key (row_of e.rows t key) (writes_of (seen_versions t key s e.versions))) (writes_of (own_versions tx t key e.versions))
seen_row e tx s t key o small =
    let shown : List Write = writes_of (filter (is_seen tx s) e.versions) in
    let parts : touched t key shown ≡ writes_of (seen_versions t key s e.versions) ++ writes_of (own_versions tx t key e.versions) =
    filter-map (hits t key) (λ (v : Version). v.write) (filter (is_seen tx s) e.versions)
    ∙ ap (writes_of) (filter_twice (is_of t key) (is_seen tx s) (λ v. is_of t key v && is_seen tx s v) (λ v. and_comm (is_seen tx s v) (is_of t key v)) e.versions ∙ own_last tx t key s e.versions o)
    ∙ map-append (λ (v : Version). v.write) (seen_versions t key s e.versions) (own_versions tx t key e.versions) in
    row_after_writes e.rows shown t key small ∙ last_touched t key shown (row_of e.rows t key)
    ∙ ap (last_row t key (row_of e.rows t key)) parts
    ∙ fold-append (λ r w. cond (hits t key w) w.row r) (row_of e.rows t key) (writes_of (seen_versions t key s e.versions)) (writes_of (own_versions tx t key e.versions))

-- a read that was not Busy
pub quiet_read : (e : EngineTable) (tx : Label) (t : ℕ) (key : Value) → Good e → is_standing (opening_of e tx) ≡ true
    → find (λ v. is_of t key v && is_blocking tx (snapshot_of e tx) v) e.versions ≡ None → Quiet t key (snapshot_of e tx) e
quiet_read e tx t key h m none = record {
  opened = h.opens tx;
  row = each_weaker _ _ (λ v k. one v k.0 k.1) e.versions (each_both _ _ e.versions (find_none (λ v. is_of t key v && is_blocking tx (snapshot_of e tx) v) e.versions none) h.sound);
}
  where
    one : (v : Version) → (is_of t key v && is_blocking tx (snapshot_of e tx) v) ≡ false → Sound e.openings v → is_of t key v ≡ true → QuietAt (snapshot_of e tx) v.standing
    one v f so y = go v.standing refl
      where
        s : ℕ
        s = snapshot_of e tx

        go : (st : VersionState) → v.standing ≡ st → QuietAt (snapshot_of e tx) v.standing
        go Open q = rw q tt
        go (Stamped n) q = rw q tt
        go Dropped q = rw q tt
        go (Closed g) q = rw q (⊎_elim
            (λ (l : g < snapshot_of e tx).
            let below : is_closed_below (snapshot_of e tx) v.standing ≡ true = ap (is_closed_below (snapshot_of e tx)) q ∙ lt-ltb g (snapshot_of e tx) l in
            ⊎_elim
            (λ (mine : same_label tx v.by ≡ true). absurd (no_closed tx e.openings v m so mine g q))
            (λ (other : same_label tx v.by ≡ false). absurd (false≢true (sym f ∙ and_from _ _ y (and_from _ _ (ap not other) below))))
            (cases_Bool (same_label tx v.by)))
            (λ (l : snapshot_of e tx ≤ g). l)
            (cases_lt g (snapshot_of e tx)))

-- the opening rows stay
rows_change : (e : EngineTable) (c : EngineCall) → (change e c).rows ≡ e.rows
rows_change e (call.Open tx s) = refl
rows_change e (call.Get tx t key) = refl
rows_change e (call.Scan tx t) = refl
rows_change e (call.Put tx u key row) = refl
rows_change e (call.Close tx) = refl
rows_change e (call.Stamp tx n) = refl
rows_change e (call.Void tx n) = refl
rows_change e (call.DropTx tx) = refl
rows_change e call.Horizon = refl
rows_change e (call.Records from to) = refl
rows_change e (call.Purge upto) = refl

pub rows_stay : (e : EngineTable) (js : List Entry) → (after_entries e js).rows ≡ e.rows
rows_stay e [] = refl
rows_stay e (j ∷ js) = rows_stay (step e j) js ∙ step_keeps (λ (f : EngineTable). f.rows ≡ e.rows) e j refl (λ m r. rows_change e j.call)

found_is : (o : Option Version) (r s : Option RowOf) → busy_or o (Found s) ≡ Found r → (o ≡ None) × (s ≡ r)
found_is None r s e = (refl, cc)
found_is (Some v) r s e = absurd (clash e)
  where
    clash : Fault (fault.Busy v.by) ≡ Found r → ⊥
    clash e = cc

module _ (number : Commit → Option ℕ) where
  inside_one : (low s n : ℕ) (o : Option ℕ) → o ≡ Some n → low < n → there (λ m. nat_le m s) o ≡ there (within low s) o
  inside_one low s n None e l = absurd (clash e)
    where
      clash : {n : ℕ} → None ≡ Some n → ⊥
      clash e = cc
  inside_one low s n (Some m) e l =
      let is : m ≡ n = cc in
      let p : nat_lt low m ≡ true = lt-ltb low m (omega arith) in
      rw p refl

  inside_each : (low s from : ℕ) (cs : List Commit) → Rises number from cs → low ≤ from → Each (λ c. there (λ m. nat_le m s) (number c) ≡ there (within low s) (number c)) cs
  inside_each low s from [] r l = tt
  inside_each low s from (c ∷ cs) r l = let p : from < r.0 = r.2 in (inside_one low s r.0 (number c) r.1 (omega arith), inside_each low s r.0 cs r.3 (omega arith))

  pub upto_inside : (low s : ℕ) (cs : List Commit) → Rises number low cs → filter (λ c. there (λ m. nat_le m s) (number c)) cs ≡ filter (λ c. there (within low s) (number c)) cs
  upto_inside low s cs r = filter_agree_on (λ c. there (λ m. nat_le m s) (number c)) (λ c. there (within low s) (number c)) cs (inside_each low s low cs r (omega arith))

  -- what a read that was not Busy found is the row after the engine's commits up to the reader's snapshot, of whenever, and then the reader's own writes
  pub engine_read : (name : EngineName) (catalog : List Table) (rows : Tables) (start low : ℕ) (js later : List Entry) (cs : List Commit) (tx : Label) (t : ℕ) (key : Value) (r : Option RowOf)
      → Legal (engine_at name catalog rows start) js → Legal (after_entries (engine_at name catalog rows start) js) later
      → is_standing (opening_of (after_entries (engine_at name catalog rows start) js) tx) ≡ true
      → got (after_entries (engine_at name catalog rows start) js) tx t key ≡ Found r
      → CommitsOf number low (after_entries (after_entries (engine_at name catalog rows start) js) later).versions cs → t < length rows
      → r ≡ last_row t key (row_of (state rows (filter (λ c. there (within low (snapshot_of (after_entries (engine_at name catalog rows start) js) tx)) (number c)) cs)) t key)
      (writes_of (own_versions tx t key (after_entries (engine_at name catalog rows start) js).versions))
  engine_read name catalog rows start low js later cs tx t key r legal legal2 m found c small =
      let e : EngineTable = after_entries (engine_at name catalog rows start) js in
      let f : EngineTable = after_entries e later in
      let s : ℕ = snapshot_of e tx in
      let good : Good e = good_entries (engine_at name catalog rows start) js legal (good_start name catalog rows start) in
      let good2 : Good f = good_entries e later legal2 good in
      let here : e.rows ≡ rows = rows_stay (engine_at name catalog rows start) js in
      let small2 : t < length e.rows = rw here small in
      let is : (find (λ v. is_of t key v && is_blocking tx s v) e.versions ≡ None) × (row_of (seen e tx s) t key ≡ r) = found_is (find (λ v. is_of t key v && is_blocking tx s v) e.versions) r (row_of (seen e tx s) t key) found in
      let stays : seen_versions t key s f.versions ≡ seen_versions t key s e.versions = seen_stays t key s e later good.sound (quiet_read e tx t key good m is.0) in
      let row : row_of (state rows (filter (λ c. there (λ m. nat_le m s) (number c)) cs)) t key ≡ last_row t key (row_of rows t key) (writes_of (seen_versions t key s f.versions)) =
      engine_row number rows f.greatest low s t key f.versions cs good2.ordered good2.timed c small in
      let base : last_row t key (row_of e.rows t key) (writes_of (seen_versions t key s e.versions)) ≡ row_of (state rows (filter (λ c. there (within low s) (number c)) cs)) t key =
      ap (λ db. last_row t key (row_of db t key) (writes_of (seen_versions t key s e.versions))) here
      ∙ ap (λ vs. last_row t key (row_of rows t key) (writes_of vs)) (sym stays) ∙ sym row
      ∙ ap (λ xs. row_of (state rows xs) t key) (upto_inside low s cs c.rises) in
      sym is.1 ∙ seen_row e tx s t key good.ordered small2
      ∙ ap (λ x. last_row t key x (writes_of (own_versions tx t key e.versions))) base

-- a scan of a table that was not Busy
least_some : (v : Version) (vs : List Version) → least_key (Some v) vs ≡ None → ⊥
least_some v [] e = clash e
  where
    clash : {X : Type 0} {x : X} → Some x ≡ None → ⊥
    clash e = cc
least_some v (w ∷ vs) e = least_some (cond (is_less (value_cmp w.write.key v.write.key)) w v) vs e

least_none : (vs : List Version) → least_key None vs ≡ None → vs ≡ []
least_none [] e = refl
least_none (v ∷ vs) e = absurd (least_some v vs e)

none_pass_filter : {X : Type 0} (p : X → Bool) (xs : List X) → filter p xs ≡ [] → Each (λ x. p x ≡ false) xs
none_pass_filter p [] e = tt
none_pass_filter p (x ∷ xs) e = ⊎_elim
    (λ (t : p x ≡ true). absurd (clash (rw t at e)))
    (λ (f : p x ≡ false). (f, none_pass_filter p xs (rw f at e)))
    (cases_Bool (p x))
  where
    clash : {X : Type 0} {x : X} {xs : List X} → x ∷ xs ≡ [] → ⊥
    clash e = cc

find_from_each : {X : Type 0} (p : X → Bool) (xs : List X) → Each (λ x. p x ≡ false) xs → find p xs ≡ None
find_from_each p [] h = refl
find_from_each p (x ∷ xs) h = rw h.0 (find_from_each p xs h.1)

-- a table that can be scanned can be read at each key
pub scan_reads : (e : EngineTable) (tx : Label) (t : ℕ) (key : Value) (rows : KeyedRows) → scanned e tx t ≡ Rows rows → got e tx t key ≡ Found (row_of (seen e tx (snapshot_of e tx)) t key)
scan_reads e tx t key rows h =
    let s : ℕ = snapshot_of e tx in
    let blocked : Version → Bool = λ v. (v.write.table == t) && is_blocking tx s v in
    let none : filter blocked e.versions ≡ [] = least_none (filter blocked e.versions) (free (least_key None (filter blocked e.versions)) h) in
    let each : Each (λ v. (is_of t key v && is_blocking tx s v) ≡ false) e.versions =
    each_weaker _ _ (λ v k. one v k) e.versions (none_pass_filter blocked e.versions none) in
    ap (λ o. busy_or o (Found (row_of (seen e tx s) t key))) (find_from_each (λ v. is_of t key v && is_blocking tx s v) e.versions each)
  where
    free : (o : Option Version) → busy_or o (Rows (table_of (seen e tx (snapshot_of e tx)) t)) ≡ Rows rows → o ≡ None
    free None h = refl
    free (Some v) h = absurd (clash h)
      where
        clash : Fault (fault.Busy v.by) ≡ Rows rows → ⊥
        clash e = cc

    one : (v : Version) → ((v.write.table == t) && is_blocking tx (snapshot_of e tx) v) ≡ false → (is_of t key v && is_blocking tx (snapshot_of e tx) v) ≡ false
    one v k = ⊎_elim
        (λ (y : is_of t key v ≡ true).
        let is : (t ≡ v.write.table) × (key ≡ v.write.key) = hits_is t key v.write y in
        let tt' : (v.write.table == t) ≡ true = eq-eqb v.write.table t (sym is.0) in
        let b : is_blocking tx (snapshot_of e tx) v ≡ false = rw tt' at k in
        and_right (is_of t key v) (is_blocking tx (snapshot_of e tx) v) b)
        (λ (n : is_of t key v ≡ false). and_left (is_of t key v) (is_blocking tx (snapshot_of e tx) v) n)
        (cases_Bool (is_of t key v))

pub scan_is : (e : EngineTable) (tx : Label) (t : ℕ) (rows : KeyedRows) → scanned e tx t ≡ Rows rows → rows ≡ table_of (seen e tx (snapshot_of e tx)) t
scan_is e tx t rows h = free (least_key None (filter (λ v. (v.write.table == t) && is_blocking tx (snapshot_of e tx) v) e.versions)) h
  where
    free : (o : Option Version) → busy_or o (Rows (table_of (seen e tx (snapshot_of e tx)) t)) ≡ Rows rows → rows ≡ table_of (seen e tx (snapshot_of e tx)) t
    free None h = cc
    free (Some v) h = absurd (clash h)
      where
        clash : Fault (fault.Busy v.by) ≡ Rows rows → ⊥
        clash e = cc

pub view_row : (db : Tables) (tx : Label) (t : ℕ) (key : Value) (vs : List Version) → t < length db
    → row_of (after_writes db (own_writes_of tx vs)) t key ≡ last_row t key (row_of db t key) (writes_of (own_versions tx t key vs))
view_row db tx t key vs small =
    row_after_writes db (own_writes_of tx vs) t key small ∙ last_touched t key (own_writes_of tx vs) (row_of db t key)
    ∙ ap (last_row t key (row_of db t key)) (filter-map (hits t key) (λ (v : Version). v.write) (filter (is_own tx) vs)
    ∙ ap (writes_of) (filter_twice (is_of t key) (is_own tx) (λ v. is_of t key v && is_own tx v) (λ v. and_comm (is_own tx v) (is_of t key v)) vs))

pub length_state : (db : Tables) (cs : List Commit) → length (state db cs) ≡ length db
length_state db cs = ap length (state_is db cs) ∙ length_after_writes db (flat_map (λ c. c.writes) cs)

-- the engine and its catalog stay
kind_change : (e : EngineTable) (c : EngineCall) → ((change e c).name ≡ e.name) × ((change e c).catalog ≡ e.catalog)
kind_change e (call.Open tx s) = (refl, refl)
kind_change e (call.Get tx t key) = (refl, refl)
kind_change e (call.Scan tx t) = (refl, refl)
kind_change e (call.Put tx t key row) = (refl, refl)
kind_change e (call.Close tx) = (refl, refl)
kind_change e (call.Stamp tx n) = (refl, refl)
kind_change e (call.Void tx n) = (refl, refl)
kind_change e (call.DropTx tx) = (refl, refl)
kind_change e call.Horizon = (refl, refl)
kind_change e (call.Records from to) = (refl, refl)
kind_change e (call.Purge upto) = (refl, refl)

pub name_stays : (e : EngineTable) (js : List Entry) → (after_entries e js).name ≡ e.name
name_stays e [] = refl
name_stays e (j ∷ js) = name_stays (step e j) js ∙ step_keeps (λ (f : EngineTable). f.name ≡ e.name) e j refl (λ m r. (kind_change e j.call).0)

pub catalog_stays : (e : EngineTable) (js : List Entry) → (after_entries e js).catalog ≡ e.catalog
catalog_stays e [] = refl
catalog_stays e (j ∷ js) = catalog_stays (step e j) js ∙ step_keeps (λ (f : EngineTable). f.catalog ≡ e.catalog) e j refl (λ m r. (kind_change e j.call).1)
