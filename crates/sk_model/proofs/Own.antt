-- What a transaction's undecided versions hold is what its Puts wrote.
use Rattle.std.specs.Prelude.{ℕ, List, [], ◌∷◌, ◌++◌, Option, Bool, true, false, cond, not, ◌&&◌, ◌≡◌, ◌⊎◌, map}
use Rattle.std.proofs.Math.Bool.{and_comm}
use Rattle.std.proofs.Common.{refl, sym, ap, subst, ◌∙◌, inl, inr, ⊎_elim}
use Rattle.std.specs.List.{filter}
use Rattle.std.proofs.lemmas.List.{append-nil, append_assoc}
use Rattle.std.proofs.lemmas.Bool.{false≢true, cases_Bool, cond-true, cond-false, and_parts, and_from, and_left, and_right, cond_both}
use Rattle.std.proofs.lemmas.List.Sums.{fold-append}
use Rattle.sk_rows.specs.declared.value.Value.{Value}
use Rattle.sk_model.specs.declared.label.Label.{Label}
use Rattle.sk_model.specs.declared.commit.Write.{Write}
use Rattle.sk_model.specs.declared.call.EngineCall.{EngineCall}
use Rattle.sk_model.specs.declared.call.EngineCall.TheVariants as call
use Rattle.sk_model.specs.declared.call.EngineReply.{EngineReply}
use Rattle.sk_model.specs.declared.call.Entry.{Entry}
use Rattle.sk_model.specs.Database.{RowOf, hits}
use Rattle.sk_model.specs.Records.{same_label}
use Rattle.sk_model.specs.Engine.{VersionState, Open, Closed, Stamped, Dropped, Version, EngineTable, snapshot_of, is_open, is_undecided, is_of, write_at}
use Rattle.sk_model.specs.EngineChanges.{change, restand, put_version}
use Rattle.sk_model.specs.EngineConditions.{may}
use Rattle.sk_model.specs.Legal.{is_refusal, step, after_entries, Legal, Allowed}
use Rattle.sk_model.specs.Calls.{last_row, is_own, own_writes_of, put_by, puts_of, ends, OwnIs}
use Rattle.sk_model.proofs.Lists.{Each, filter_twice}
use Rattle.sk_model.proofs.Labels.{same_is, same_itself}
use Rattle.sk_model.proofs.Lookups.{hits_is}
use Rattle.sk_model.proofs.Order.{good_entries}
use Rattle.sk_model.specs.EngineInvariant.{Good, Ordered}
use Rattle.sk_model.proofs.Numbered.{filter-map, last_touched}
use Rattle.sk_model.proofs.Reading.{own_versions, none_left}

pub open_undecided : (st : VersionState) → is_open st ≡ true → is_undecided st ≡ true
open_undecided Open e = refl
open_undecided (Closed f) e = absurd (false≢true e)
open_undecided (Stamped n) e = absurd (false≢true e)
open_undecided Dropped e = absurd (false≢true e)

turned : {A B : Type 0} → A ⊎ B → B ⊎ A
turned s = ⊎_elim inr inl s

-- no own version of a row: the row stays
no_own_row : (tx : Label) (t : ℕ) (key : Value) (x : Option RowOf) (vs : List Version) → own_versions tx t key vs ≡ [] → last_row t key x (own_writes_of tx vs) ≡ x
no_own_row tx t key x vs e =
    last_touched t key (own_writes_of tx vs) x
    ∙ ap (last_row t key x) (filter-map (hits t key) (λ (v : Version). v.write) (filter (is_own tx) vs)
    ∙ ap (map (λ (v : Version). v.write)) (filter_twice (is_of t key) (is_own tx) (λ v. is_of t key v && is_own tx v) (λ v. and_comm (is_own tx v) (is_of t key v)) vs ∙ e))

row_last : (t : ℕ) (key : Value) (x : Option RowOf) (ws : List Write) (w : Write) → last_row t key x (ws ++ w ∷ []) ≡ cond (hits t key w) w.row (last_row t key x ws)
row_last t key x ws w = fold-append (λ r w. cond (hits t key w) w.row r) x ws (w ∷ [])

pub own_cons : (tx : Label) (v : Version) (vs : List Version) → is_own tx v ≡ true → own_writes_of tx (v ∷ vs) ≡ v.write ∷ own_writes_of tx vs
own_cons tx v vs e = ap (map (λ (v : Version). v.write)) (cond-true (is_own tx v) (v ∷ filter (is_own tx) vs) (filter (is_own tx) vs) e)

pub own_skip : (tx : Label) (v : Version) (vs : List Version) → is_own tx v ≡ false → own_writes_of tx (v ∷ vs) ≡ own_writes_of tx vs
own_skip tx v vs e = ap (map (λ (v : Version). v.write)) (cond-false (is_own tx v) (v ∷ filter (is_own tx) vs) (filter (is_own tx) vs) e)

-- a Put of the transaction: its own writes go on by that write, row by row
pub own_put : (tx : Label) (s : ℕ) (w : Write) (t : ℕ) (key : Value) (x : Option RowOf) (vs : List Version) → Ordered vs
    → last_row t key x (own_writes_of tx (put_version tx s w vs)) ≡ cond (hits t key w) w.row (last_row t key x (own_writes_of tx vs))
own_put tx s w t key x [] o = ap (last_row t key x) (own_cons tx (record { by = tx; snapshot = s; write = w; standing = Open }) [] (and_from _ _ (same_itself tx) refl))
own_put tx s w t key x (v ∷ vs) o =
    let test : Bool = is_of w.table w.key v && (same_label tx v.by && is_open v.standing) in
    cond_both test (record v { write = w } ∷ vs) (v ∷ put_version tx s w vs)
    (λ (xs : List Version). last_row t key x (own_writes_of tx xs) ≡ cond (hits t key w) w.row (last_row t key x (own_writes_of tx (v ∷ vs))))
    (λ e. replaced (and_parts _ _ e).0 (and_parts _ _ (and_parts _ _ e).1).0 (open_undecided v.standing (and_parts _ _ (and_parts _ _ e).1).1))
    (λ e. kept (λ y. own_put tx s w t key y vs o.1))
  where
    replaced : is_of w.table w.key v ≡ true → same_label tx v.by ≡ true → is_undecided v.standing ≡ true
        → last_row t key x (own_writes_of tx (record v { write = w } ∷ vs)) ≡ cond (hits t key w) w.row (last_row t key x (own_writes_of tx (v ∷ vs)))
    replaced i m u =
        let mine : is_own tx v ≡ true = and_from _ _ m u in
        let is : (w.table ≡ v.write.table) × (w.key ≡ v.write.key) = hits_is w.table w.key v.write i in
        let same : hits t key w ≡ hits t key v.write = rw (is.0, is.1) refl in
        let now : own_writes_of tx (record v { write = w } ∷ vs) ≡ w ∷ own_writes_of tx vs = own_cons tx (record v { write = w }) vs mine in
        let then : own_writes_of tx (v ∷ vs) ≡ v.write ∷ own_writes_of tx vs = own_cons tx v vs mine in
        ap (last_row t key x) now ∙ ⊎_elim
        (λ (h : hits t key w ≡ true).
        let none : own_versions tx t key vs ≡ [] = none_left v t key vs u (sym same ∙ h) o.0 (is_own tx) (λ z d. and_right (same_label tx z.by) (is_undecided z.standing) (ap is_undecided d)) in
        no_own_row tx t key (cond (hits t key w) w.row x) vs none ∙ cond-true (hits t key w) w.row x h ∙ sym (cond-true (hits t key w) w.row (last_row t key x (own_writes_of tx (v ∷ vs))) h))
        (λ (h : hits t key w ≡ false).
        ap (λ y. last_row t key y (own_writes_of tx vs)) (cond-false (hits t key w) w.row x h ∙ sym (cond-false (hits t key v.write) v.write.row x (sym same ∙ h)))
        ∙ ap (last_row t key x) (sym then) ∙ sym (cond-false (hits t key w) w.row (last_row t key x (own_writes_of tx (v ∷ vs))) h))
        (cases_Bool (hits t key w))

    kept : ((y : Option RowOf) → last_row t key y (own_writes_of tx (put_version tx s w vs)) ≡ cond (hits t key w) w.row (last_row t key y (own_writes_of tx vs)))
        → last_row t key x (own_writes_of tx (v ∷ put_version tx s w vs)) ≡ cond (hits t key w) w.row (last_row t key x (own_writes_of tx (v ∷ vs)))
    kept ih = ⊎_elim
        (λ (m : is_own tx v ≡ true).
        ap (last_row t key x) (own_cons tx v (put_version tx s w vs) m) ∙ ih (cond (hits t key v.write) v.write.row x)
        ∙ ap (λ ws. cond (hits t key w) w.row (last_row t key x ws)) (sym (own_cons tx v vs m)))
        (λ (m : is_own tx v ≡ false).
        ap (last_row t key x) (own_skip tx v (put_version tx s w vs) m) ∙ ih x
        ∙ ap (λ ws. cond (hits t key w) w.row (last_row t key x ws)) (sym (own_skip tx v vs m)))
        (cases_Bool (is_own tx v))

-- what other transactions do leaves a transaction's own writes
pub own_other_put : (tx other : Label) (s : ℕ) (w : Write) → same_label tx other ≡ false → (vs : List Version) → own_writes_of tx (put_version other s w vs) ≡ own_writes_of tx vs
own_other_put tx other s w ne [] = own_skip tx (record { by = other; snapshot = s; write = w; standing = Open }) [] (and_left (same_label tx other) true ne)
own_other_put tx other s w ne (v ∷ vs) =
    cond_both (is_of w.table w.key v && (same_label other v.by && is_open v.standing)) (record v { write = w } ∷ vs) (v ∷ put_version other s w vs)
    (λ (xs : List Version). own_writes_of tx xs ≡ own_writes_of tx (v ∷ vs))
    (λ e.
    let by : other ≡ v.by = same_is other v.by (and_parts _ _ (and_parts _ _ e).1).0 in
    let off : is_own tx v ≡ false = and_left (same_label tx v.by) (is_undecided v.standing) (ap (λ (l : Label). same_label tx l) (sym by) ∙ ne) in
    own_skip tx (record v { write = w }) vs off ∙ sym (own_skip tx v vs off))
    (λ e. ⊎_elim
    (λ (m : is_own tx v ≡ true). own_cons tx v (put_version other s w vs) m ∙ ap (λ ws. v.write ∷ ws) (own_other_put tx other s w ne vs) ∙ sym (own_cons tx v vs m))
    (λ (m : is_own tx v ≡ false). own_skip tx v (put_version other s w vs) m ∙ own_other_put tx other s w ne vs ∙ sym (own_skip tx v vs m))
    (cases_Bool (is_own tx v)))

pub own_other_end : (tx other : Label) (st : VersionState) → same_label tx other ≡ false → (vs : List Version) → own_writes_of tx (restand other st vs) ≡ own_writes_of tx vs
own_other_end tx other st ne [] = refl
own_other_end tx other st ne (v ∷ vs) =
    cond_both (same_label other v.by && is_undecided v.standing) (record v { standing = st }) v
    (λ (x : Version). own_writes_of tx (x ∷ restand other st vs) ≡ own_writes_of tx (v ∷ vs))
    (λ e.
    let by : other ≡ v.by = same_is other v.by (and_parts _ _ e).0 in
    let away : same_label tx v.by ≡ false = ap (λ (l : Label). same_label tx l) (sym by) ∙ ne in
    own_skip tx (record v { standing = st }) (restand other st vs) (and_left (same_label tx v.by) (is_undecided st) away) ∙ own_other_end tx other st ne vs
    ∙ sym (own_skip tx v vs (and_left (same_label tx v.by) (is_undecided v.standing) away)))
    (λ e. ⊎_elim
    (λ (m : is_own tx v ≡ true). own_cons tx v (restand other st vs) m ∙ ap (λ ws. v.write ∷ ws) (own_other_end tx other st ne vs) ∙ sym (own_cons tx v vs m))
    (λ (m : is_own tx v ≡ false). own_skip tx v (restand other st vs) m ∙ own_other_end tx other st ne vs ∙ sym (own_skip tx v vs m))
    (cases_Bool (is_own tx v)))

own_change_put : (tx : Label) (e : EngineTable) (other : Label) (w : Write) (reply : EngineReply) (ws : List Write) → is_refusal reply ≡ false → Ordered e.versions → OwnIs tx e ws
    → (t : ℕ) (key : Value) (x : Option RowOf) → last_row t key x (own_writes_of tx (put_version other (snapshot_of e other) w e.versions)) ≡ last_row t key x (ws ++ cond (same_label tx other && not (is_refusal reply)) (w ∷ []) [])
own_change_put tx e other w reply ws r o h t key x = ⊎_elim
    (λ (m : same_label tx other ≡ true).
    let on : (same_label tx other && not (is_refusal reply)) ≡ true = and_from _ _ m (ap not r) in
    let is : put_version other (snapshot_of e other) w e.versions ≡ put_version tx (snapshot_of e other) w e.versions = ap (λ (l : Label). put_version l (snapshot_of e other) w e.versions) (sym (same_is tx other m)) in
    ap (λ vs. last_row t key x (own_writes_of tx vs)) is ∙ own_put tx (snapshot_of e other) w t key x e.versions o
    ∙ ap (λ y. cond (hits t key w) w.row y) (h t key x) ∙ sym (row_last t key x ws w)
    ∙ ap (λ xs. last_row t key x (ws ++ xs)) (sym (cond-true (same_label tx other && not (is_refusal reply)) (w ∷ []) [] on)))
    (λ (m : same_label tx other ≡ false).
    let off : (same_label tx other && not (is_refusal reply)) ≡ false = and_left _ _ m in
    ap (last_row t key x) (own_other_put tx other (snapshot_of e other) w m e.versions) ∙ h t key x
    ∙ ap (last_row t key x) (sym (append-nil ws)) ∙ ap (λ xs. last_row t key x (ws ++ xs)) (sym (cond-false (same_label tx other && not (is_refusal reply)) (w ∷ []) [] off)))
    (cases_Bool (same_label tx other))

own_change : (tx : Label) (e : EngineTable) (c : EngineCall) (reply : EngineReply) (ws : List Write) → is_refusal reply ≡ false → Ordered e.versions → ends tx c ≡ false → OwnIs tx e ws → OwnIs tx (change e c) (ws ++ put_by tx c reply)
own_change tx e (call.Open other s) reply ws r o n h t key x = h t key x ∙ ap (last_row t key x) (sym (append-nil ws))
own_change tx e (call.Get other u k) reply ws r o n h t key x = h t key x ∙ ap (last_row t key x) (sym (append-nil ws))
own_change tx e (call.Scan other u) reply ws r o n h t key x = h t key x ∙ ap (last_row t key x) (sym (append-nil ws))
own_change tx e (call.Put other u k row) reply ws r o n h t key x = own_change_put tx e other (write_at u k row) reply ws r o h t key x
own_change tx e (call.Close other) reply ws r o n h t key x = ap (last_row t key x) (own_other_end tx other (Closed e.greatest) n e.versions) ∙ h t key x ∙ ap (last_row t key x) (sym (append-nil ws))
own_change tx e (call.Stamp other m) reply ws r o n h t key x = ap (last_row t key x) (own_other_end tx other (Stamped m) n e.versions) ∙ h t key x ∙ ap (last_row t key x) (sym (append-nil ws))
own_change tx e (call.Void other m) reply ws r o n h t key x = ap (last_row t key x) (own_other_end tx other Dropped n e.versions) ∙ h t key x ∙ ap (last_row t key x) (sym (append-nil ws))
own_change tx e (call.DropTx other) reply ws r o n h t key x = ap (last_row t key x) (own_other_end tx other Dropped n e.versions) ∙ h t key x ∙ ap (last_row t key x) (sym (append-nil ws))
own_change tx e call.Horizon reply ws r o n h t key x = h t key x ∙ ap (last_row t key x) (sym (append-nil ws))
own_change tx e (call.Records from to) reply ws r o n h t key x = h t key x ∙ ap (last_row t key x) (sym (append-nil ws))
own_change tx e (call.Purge upto) reply ws r o n h t key x = h t key x ∙ ap (last_row t key x) (sym (append-nil ws))

refused_put : (tx : Label) (c : EngineCall) (reply : EngineReply) → is_refusal reply ≡ true → put_by tx c reply ≡ []
refused_put tx (call.Open other s) reply r = refl
refused_put tx (call.Get other t k) reply r = refl
refused_put tx (call.Scan other t) reply r = refl
refused_put tx (call.Put other u key row) reply r = cond-false (same_label tx other && not (is_refusal reply)) (write_at u key row ∷ []) [] (and_right (same_label tx other) (not (is_refusal reply)) (ap not r))
refused_put tx (call.Close other) reply r = refl
refused_put tx (call.Stamp other n) reply r = refl
refused_put tx (call.Void other n) reply r = refl
refused_put tx (call.DropTx other) reply r = refl
refused_put tx call.Horizon reply r = refl
refused_put tx (call.Records from to) reply r = refl
refused_put tx (call.Purge upto) reply r = refl

-- as long as the transaction is not closed, its own versions are its Puts
pub own_is_puts : (tx : Label) (e : EngineTable) (js : List Entry) (ws : List Write) → Good e → Legal e js → Allowed e js
    → Each (λ (j : Entry). ends tx j.call ≡ false) js → OwnIs tx e ws → OwnIs tx (after_entries e js) (ws ++ puts_of tx js)
own_is_puts tx e [] ws g l a n h t key x = h t key x ∙ ap (last_row t key x) (sym (append-nil ws))
own_is_puts tx e (j ∷ js) ws g l a n h t key x =
    own_is_puts tx (step e j) js (ws ++ put_by tx j.call j.reply) (good_entries e (j ∷ []) (l.0, tt) g) l.1 a.1 n.1 next t key x
    ∙ ap (last_row t key x) (append_assoc ws (put_by tx j.call j.reply) (puts_of tx js))
  where
    next : OwnIs tx (step e j) (ws ++ put_by tx j.call j.reply)
    next = ⊎_elim
        (λ (r : is_refusal j.reply ≡ false).
        let on : (may e j.call && not (is_refusal j.reply)) ≡ true = and_from _ _ a.0 (ap not r) in
        subst (λ (f : EngineTable). OwnIs tx f (ws ++ put_by tx j.call j.reply)) (sym (cond-true (may e j.call && not (is_refusal j.reply)) (change e j.call) e on)) (own_change tx e j.call j.reply ws r g.ordered n.0 h))
        (λ (r : is_refusal j.reply ≡ true).
        let off : (may e j.call && not (is_refusal j.reply)) ≡ false = and_right (may e j.call) (not (is_refusal j.reply)) (ap not r) in
        let none : ws ++ put_by tx j.call j.reply ≡ ws = ap (λ xs. ws ++ xs) (refused_put tx j.call j.reply r) ∙ append-nil ws in
        subst (λ (f : EngineTable). OwnIs tx f (ws ++ put_by tx j.call j.reply)) (sym (cond-false (may e j.call && not (is_refusal j.reply)) (change e j.call) e off)) (subst (λ xs. OwnIs tx e xs) (sym none) h))
        (turned (cases_Bool (is_refusal j.reply)))
