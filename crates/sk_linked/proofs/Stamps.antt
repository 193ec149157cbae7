-- What a stamp leaves in the table comes to what the transaction's Puts come to.
use Rattle.std.specs.Prelude.{ℕ, List, [], ◌∷◌, ◌++◌, true, false, cond, not, ◌&&◌, ◌==◌, ◌≡◌, ◌⊎◌, map}
use Rattle.std.proofs.Common.{refl, sym, ap, ◌∙◌, inl, inr, ⊎_elim}
use Rattle.std.specs.List.{filter}
use Rattle.std.proofs.lemmas.Bool.{cases_Bool, cond_both, cond-true, cond-false, false≢true, and_parts, and_from, eq-eqb, ne_eqb}
use Rattle.std.proofs.lemmas.List.{append-nil}
use Rattle.std.proofs.lemmas.List.Sums.{fold-append}
use Rattle.sk_model.specs.declared.label.Label.{Label}
use Rattle.sk_model.specs.declared.commit.Write.{Write}
use Rattle.sk_model.specs.declared.call.EngineCall.{EngineCall}
use Rattle.sk_model.specs.declared.call.EngineCall.TheVariants as call
use Rattle.sk_model.specs.declared.call.Entry.{Entry}
use Rattle.sk_model.specs.Database.{net}
use Rattle.sk_model.specs.Records.{same_label}
use Rattle.sk_model.specs.Engine.{VersionState, Open, Closed, Stamped, Dropped, Version, EngineTable, is_open, is_undecided, is_of, snapshot_of, write_at}
use Rattle.sk_model.specs.EngineReplies.{is_stamped_with, stamps}
use Rattle.sk_model.specs.EngineChanges.{restood, restand, put_version, change}
use Rattle.sk_model.specs.EngineConditions.{may}
use Rattle.sk_model.specs.Legal.{is_refusal, step, after_entries, Legal, Allowed}
use Rattle.sk_model.specs.Calls.{last_row, is_own, own_writes_of, puts_of, ends, OwnIs}
use Rattle.sk_model.specs.Stamped.{writes_of}
use Rattle.sk_model.proofs.Lists.{Each, each_weaker}
use Rattle.sk_model.proofs.NetLaws.{net_same}
use Rattle.sk_model.proofs.Quiet.{step_keeps, filter_map_same}
use Rattle.sk_model.specs.EngineInvariant.{Good}
use Rattle.sk_model.proofs.Order.{good_entries, legal_front}
use Rattle.sk_model.proofs.Own.{open_undecided, own_cons, own_skip, own_is_puts}
use Rattle.sk_linked.specs.Traces.{close_entry, stamp_entry}
use Rattle.sk_linked.proofs.Projection.{allowed_front, none_pass_filter}

-- not a stamp with this number
abbrev pub NotStamp : ℕ → EngineCall → Type 0
NotStamp n (call.Open tx s) = Unit {0}
NotStamp n (call.Get tx t k) = Unit {0}
NotStamp n (call.Scan tx t) = Unit {0}
NotStamp n (call.Put tx t key row) = Unit {0}
NotStamp n (call.Close tx) = Unit {0}
NotStamp n (call.Stamp tx m) = n ≡ m → ⊥
NotStamp n (call.Void tx m) = Unit {0}
NotStamp n (call.DropTx tx) = Unit {0}
NotStamp n call.Horizon = Unit {0}
NotStamp n (call.Records from to) = Unit {0}
NotStamp n (call.Purge upto) = Unit {0}

undecided_stamps : (n : ℕ) (st : VersionState) → is_undecided st ≡ true → stamps n st ≡ false
undecided_stamps n Open u = refl
undecided_stamps n (Closed f) u = refl
undecided_stamps n (Stamped m) u = absurd (false≢true u)
undecided_stamps n Dropped u = refl

stamped_restand : (n : ℕ) (tx : Label) (st : VersionState) (vs : List Version) → stamps n st ≡ false → filter (is_stamped_with n) (restand tx st vs) ≡ filter (is_stamped_with n) vs
stamped_restand n tx st vs f = filter_map_same (is_stamped_with n) (restood tx st) vs (each_of vs)
  where
    one : (v : Version) → (restood tx st v ≡ v) ⊎ ((is_stamped_with n (restood tx st v) ≡ false) × (is_stamped_with n v ≡ false))
    one v = ⊎_elim
        (λ (t : (same_label tx v.by && is_undecided v.standing) ≡ true).
        let is : restood tx st v ≡ record v { standing = st } = cond-true (same_label tx v.by && is_undecided v.standing) (record v { standing = st }) v t in
        inr (ap (is_stamped_with n) is ∙ f, undecided_stamps n v.standing (and_parts (same_label tx v.by) (is_undecided v.standing) t).1))
        (λ (t : (same_label tx v.by && is_undecided v.standing) ≡ false). inl (cond-false (same_label tx v.by && is_undecided v.standing) (record v { standing = st }) v t))
        (cases_Bool (same_label tx v.by && is_undecided v.standing))

    each_of : (vs : List Version) → Each (λ v. (restood tx st v ≡ v) ⊎ ((is_stamped_with n (restood tx st v) ≡ false) × (is_stamped_with n v ≡ false))) vs
    each_of [] = tt
    each_of (v ∷ vs) = (one v, each_of vs)

stamped_put : (n : ℕ) (tx : Label) (s : ℕ) (w : Write) (vs : List Version) → filter (is_stamped_with n) (put_version tx s w vs) ≡ filter (is_stamped_with n) vs
stamped_put n tx s w [] = refl
stamped_put n tx s w (v ∷ vs) = cond_both (is_of w.table w.key v && (same_label tx v.by && is_open v.standing)) (record v { write = w } ∷ vs) (v ∷ put_version tx s w vs)
    (λ (xs : List Version). filter (is_stamped_with n) xs ≡ filter (is_stamped_with n) (v ∷ vs))
    (λ t.
    let off : stamps n v.standing ≡ false = undecided_stamps n v.standing (open_undecided v.standing (and_parts _ _ (and_parts _ _ t).1).1) in
    cond-false (stamps n v.standing) (record v { write = w } ∷ filter (is_stamped_with n) vs) (filter (is_stamped_with n) vs) off
    ∙ sym (cond-false (stamps n v.standing) (v ∷ filter (is_stamped_with n) vs) (filter (is_stamped_with n) vs) off))
    (λ t. ap (λ xs. cond (stamps n v.standing) (v ∷ xs) xs) (stamped_put n tx s w vs))

stamped_change : (n : ℕ) (e : EngineTable) (c : EngineCall) → NotStamp n c → filter (is_stamped_with n) (change e c).versions ≡ filter (is_stamped_with n) e.versions
stamped_change n e (call.Open tx s) h = refl
stamped_change n e (call.Get tx t k) h = refl
stamped_change n e (call.Scan tx t) h = refl
stamped_change n e (call.Put tx t key row) h = stamped_put n tx (snapshot_of e tx) (write_at t key row) e.versions
stamped_change n e (call.Close tx) h = stamped_restand n tx (Closed e.greatest) e.versions refl
stamped_change n e (call.Stamp tx m) h = stamped_restand n tx (Stamped m) e.versions (ne_eqb n m h)
stamped_change n e (call.Void tx m) h = stamped_restand n tx Dropped e.versions refl
stamped_change n e (call.DropTx tx) h = stamped_restand n tx Dropped e.versions refl
stamped_change n e call.Horizon h = refl
stamped_change n e (call.Records from to) h = refl
stamped_change n e (call.Purge upto) h = refl

pub stamped_stays : (n : ℕ) (e : EngineTable) (js : List Entry) → Each (λ (j : Entry). NotStamp n j.call) js → filter (is_stamped_with n) (after_entries e js).versions ≡ filter (is_stamped_with n) e.versions
stamped_stays n e [] h = refl
stamped_stays n e (j ∷ js) h = stamped_stays n (step e j) js h.1
    ∙ step_keeps (λ (f : EngineTable). filter (is_stamped_with n) f.versions ≡ filter (is_stamped_with n) e.versions) e j refl (λ m r. stamped_change n e j.call h.0)

-- a stamp makes the own versions stamped ones
pub stamp_own : (n : ℕ) (tx : Label) (vs : List Version) → Each (λ (v : Version). is_stamped_with n v ≡ false) vs
    → map (λ (v : Version). v.write) (filter (is_stamped_with n) (restand tx (Stamped n) vs)) ≡ own_writes_of tx vs
stamp_own n tx [] h = refl
stamp_own n tx (v ∷ vs) h =
    let ih : map (λ (v : Version). v.write) (filter (is_stamped_with n) (restand tx (Stamped n) vs)) ≡ own_writes_of tx vs = stamp_own n tx vs h.1 in
    ⊎_elim
    (λ (m : is_own tx v ≡ true).
    ap (λ (x : Version). map (λ (v : Version). v.write) (filter (is_stamped_with n) (x ∷ restand tx (Stamped n) vs))) (cond-true (is_own tx v) (record v { standing = Stamped n }) v m)
    ∙ ap (map (λ (v : Version). v.write)) (cond-true (n == n) (record v { standing = Stamped n } ∷ filter (is_stamped_with n) (restand tx (Stamped n) vs)) (filter (is_stamped_with n) (restand tx (Stamped n) vs)) (eq-eqb n n refl))
    ∙ ap (λ ws. v.write ∷ ws) ih ∙ sym (own_cons tx v vs m))
    (λ (m : is_own tx v ≡ false).
    ap (λ (x : Version). map (λ (v : Version). v.write) (filter (is_stamped_with n) (x ∷ restand tx (Stamped n) vs))) (cond-false (is_own tx v) (record v { standing = Stamped n }) v m)
    ∙ ap (map (λ (v : Version). v.write)) (cond-false (is_stamped_with n v) (v ∷ filter (is_stamped_with n) (restand tx (Stamped n) vs)) (filter (is_stamped_with n) (restand tx (Stamped n) vs)) h.0)
    ∙ ih ∙ sym (own_skip tx v vs m))
    (cases_Bool (is_own tx v))

-- a close leaves the own writes
close_own : (tx : Label) (f : ℕ) (vs : List Version) → own_writes_of tx (restand tx (Closed f) vs) ≡ own_writes_of tx vs
close_own tx f [] = refl
close_own tx f (v ∷ vs) = ⊎_elim
    (λ (m : is_own tx v ≡ true).
    ap (λ (x : Version). own_writes_of tx (x ∷ restand tx (Closed f) vs)) (cond-true (is_own tx v) (record v { standing = Closed f }) v m)
    ∙ own_cons tx (record v { standing = Closed f }) (restand tx (Closed f) vs) (and_from _ _ (and_parts _ _ m).0 refl)
    ∙ ap (λ ws. v.write ∷ ws) (close_own tx f vs) ∙ sym (own_cons tx v vs m))
    (λ (m : is_own tx v ≡ false).
    ap (λ (x : Version). own_writes_of tx (x ∷ restand tx (Closed f) vs)) (cond-false (is_own tx v) (record v { standing = Closed f }) v m)
    ∙ own_skip tx v (restand tx (Closed f) vs) m ∙ close_own tx f vs ∙ sym (own_skip tx v vs m))
    (cases_Bool (is_own tx v))

step_is : (e : EngineTable) (j : Entry) → may e j.call ≡ true → is_refusal j.reply ≡ false → step e j ≡ change e j.call
step_is e j m r = cond-true (may e j.call && not (is_refusal j.reply)) (change e j.call) e (and_from _ _ m (ap not r))

-- a journal in which the transaction closes after some Puts and is then stamped, with none of its own Puts between: the stamped writes come to what its Puts come to
pub stamped_is_puts : (tx : Label) (n : ℕ) (e : EngineTable) (js : List Entry) (floor : ℕ) (mid later : List Entry) → Good e → OwnIs tx e [] → filter (is_stamped_with n) e.versions ≡ []
    → Legal e (js ++ close_entry tx floor ∷ (mid ++ stamp_entry tx n ∷ later))
    → Allowed e (js ++ close_entry tx floor ∷ (mid ++ stamp_entry tx n ∷ later))
    → Each (λ (j : Entry). ends tx j.call ≡ false) js → Each (λ (j : Entry). NotStamp n j.call) js
    → Each (λ (j : Entry). (ends tx j.call ≡ false) × NotStamp n j.call) mid → puts_of tx mid ≡ [] → Each (λ (j : Entry). NotStamp n j.call) later
    → net (writes_of (filter (is_stamped_with n) (after_entries e (js ++ close_entry tx floor ∷ (mid ++ stamp_entry tx n ∷ later))).versions)) ≡ net (puts_of tx js)
stamped_is_puts tx n e js floor mid later g own none l a n1 s1 h2 p2 s3 =
    let close : Entry = close_entry tx floor in
    let stamp : Entry = stamp_entry tx n in
    let l1 : Legal e js × Legal (after_entries e js) (close ∷ (mid ++ stamp ∷ later)) = legal_front e js (close ∷ (mid ++ stamp ∷ later)) l in
    let a1 : Allowed e js × Allowed (after_entries e js) (close ∷ (mid ++ stamp ∷ later)) = allowed_front e js (close ∷ (mid ++ stamp ∷ later)) a in
    let e1 : EngineTable = after_entries e js in
    let e2 : EngineTable = step e1 close in
    let l2 : Legal e2 mid × Legal (after_entries e2 mid) (stamp ∷ later) = legal_front e2 mid (stamp ∷ later) l1.1.1 in
    let a2 : Allowed e2 mid × Allowed (after_entries e2 mid) (stamp ∷ later) = allowed_front e2 mid (stamp ∷ later) a1.1.1 in
    let e3 : EngineTable = after_entries e2 mid in
    let e4 : EngineTable = step e3 stamp in
    let g1 : Good e1 = good_entries e js l1.0 g in
    let g2 : Good e2 = good_entries e1 (close ∷ []) (l1.1.0, tt) g1 in
    let c2 : e2 ≡ change e1 (call.Close tx) = step_is e1 close a1.1.0 refl in
    let c4 : e4 ≡ change e3 (call.Stamp tx n) = step_is e3 stamp a2.1.0 refl in
    let o1 : OwnIs tx e1 (puts_of tx js) = own_is_puts tx e js [] g l1.0 a1.0 n1 own in
    let o2 : OwnIs tx e2 (puts_of tx js) = λ t key x. ap (last_row t key x) (ap (λ (f : EngineTable). own_writes_of tx f.versions) c2 ∙ close_own tx e1.greatest e1.versions) ∙ o1 t key x in
    let o3 : OwnIs tx e3 (puts_of tx js ++ puts_of tx mid) = own_is_puts tx e2 mid (puts_of tx js) g2 l2.0 a2.0 (each_weaker _ _ (λ j k. k.0) mid h2) o2 in
    let f1 : filter (is_stamped_with n) e1.versions ≡ [] = stamped_stays n e js s1 ∙ none in
    let f2 : filter (is_stamped_with n) e2.versions ≡ [] = stamped_stays n e1 (close ∷ []) (tt, tt) ∙ f1 in
    let f3 : filter (is_stamped_with n) e3.versions ≡ [] = stamped_stays n e2 mid (each_weaker _ _ (λ j k. k.1) mid h2) ∙ f2 in
    let w4 : writes_of (filter (is_stamped_with n) e4.versions) ≡ own_writes_of tx e3.versions =
    ap (λ (f : EngineTable). writes_of (filter (is_stamped_with n) f.versions)) c4 ∙ stamp_own n tx e3.versions (none_pass_filter (is_stamped_with n) e3.versions f3) in
    let all : writes_of (filter (is_stamped_with n) (after_entries e (js ++ close ∷ (mid ++ stamp ∷ later))).versions) ≡ own_writes_of tx e3.versions =
    ap (λ (f : EngineTable). writes_of (filter (is_stamped_with n) f.versions)) (fold-append step e js (close ∷ (mid ++ stamp ∷ later)) ∙ fold-append step e2 mid (stamp ∷ later))
    ∙ ap writes_of (stamped_stays n e4 later s3) ∙ w4 in
    ap net all ∙ net_same (own_writes_of tx e3.versions) (puts_of tx js) (λ t key x. o3 t key x ∙ ap (λ ws. last_row t key x ws) (ap (λ ws. puts_of tx js ++ ws) p2 ∙ append-nil (puts_of tx js)))
