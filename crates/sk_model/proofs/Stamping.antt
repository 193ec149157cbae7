-- What a stamp stamps was written at the snapshot of its transaction, which is before the number.
use Rattle.std.specs.Prelude.{◌≡◌, ℕ, List, [], ◌∷◌, ◌++◌, Option, Some, None, true, false, not, ◌&&◌, ◌<◌, ◌≤◌, nat_lt, max, is_some}
use Rattle.std.proofs.Common.{refl, sym, ap, subst, ◌∙◌, inl, inr, ⊎_elim, arith}
use Rattle.std.specs.Ordering.{nat_cmp}
use Rattle.std.specs.FinMap.{find, put}
use Rattle.std.proofs.lemmas.Bool.{cond_both, cond-true, cond-false, and_parts, and_from, or_left, not-true, ltb-true, cases_Bool, false≢true}
use Rattle.sk_model.specs.declared.label.Label.{Label}
use Rattle.sk_model.specs.declared.call.EngineCall.{EngineCall}
use Rattle.sk_model.specs.declared.call.EngineCall.TheVariants as call
use Rattle.sk_model.specs.declared.call.EngineReply.TheVariants.{Done}
use Rattle.sk_model.specs.declared.call.Entry.{Entry}
use Rattle.sk_model.specs.Records.{same_label}
use Rattle.sk_model.specs.Engine.{label_cmp, VersionState, Open, Closed, Stamped, Dropped, Version, Opening, Openings, EngineTable, engine_at, is_undecided, opening_in, opening_of, snapshot_in, snapshot_of, write_at}
use Rattle.sk_model.specs.EngineReplies.{is_used}
use Rattle.sk_model.specs.EngineChanges.{restood, restand, closed_at, closed_in, opening_at, without_opening, change}
use Rattle.sk_model.specs.EngineConditions.{is_closed, floor_of, may}
use Rattle.sk_model.specs.Legal.{step, after_entries}
use Rattle.sk_model.specs.Stamped.{number_of}
use Rattle.sk_model.specs.EngineLaws.{StampedAtSnapshot}
use Rattle.sk_model.proofs.Lists.{Each, each_both, each_weaker}
use Rattle.sk_model.proofs.Labels.{same_is, find_put, find_without, openings_put, openings_closed, openings_without}
use Rattle.sk_model.proofs.Quiet.{each_map_from, each_put, step_keeps, none_from, sound_change}
use Rattle.sk_model.specs.EngineInvariant.{Sound, AllSound, Stands, Known, Listed}
use Rattle.sk_model.proofs.Listed.{listed_entries, listed_start, found_put, some_is, none_some}

-- an undecided version was written at the snapshot of its transaction
abbrev WrittenAt : Openings → Version → Type 0
WrittenAt os v = is_undecided v.standing ≡ true → snapshot_in (opening_in v.by os) ≡ v.snapshot

-- a floor, where there is one, is not before the snapshot
abbrev FloorPast : Option Opening → Type 0
FloorPast None = Unit {0}
FloorPast (Some o) = (f : ℕ) → o.floor ≡ Some f → o.snapshot ≤ f

record Timely (e : EngineTable) : Type 0 where
  sound : AllSound e
  written : Each (WrittenAt e.openings) e.versions
  floors : (l : Label) → FloorPast (opening_of e l)
  opens : (l : Label) → snapshot_of e l ≤ e.greatest

-- who has no opening has no undecided version
no_version : (o : Option Opening) (st : VersionState) → o ≡ None → Stands o st → is_undecided st ≡ false
no_version None Open e h = absurd h
no_version None (Closed f) e h = absurd h
no_version None (Stamped n) e h = refl
no_version None Dropped e h = refl
no_version (Some o) st e h = none_some (sym e)

written_open : (tx : Label) (s : ℕ) (os : Openings) → opening_in tx os ≡ None → (v : Version) → Sound os v → WrittenAt os v → WrittenAt (put label_cmp tx (opening_at s) os) v
written_open tx s os none v so h u = ⊎_elim
    (λ (t : same_label v.by tx ≡ true).
    let was : opening_in v.by os ≡ None = ap (λ (l : Label). opening_in l os) (same_is v.by tx t) ∙ none in
    absurd (false≢true (sym (no_version (opening_in v.by os) v.standing was so) ∙ u)))
    (λ (n : same_label v.by tx ≡ false).
    ap snapshot_in (find_put v.by tx (opening_at s) os ∙ cond-false (same_label v.by tx) (Some (opening_at s)) (opening_in v.by os) n) ∙ h u)
    (cases_Bool (same_label v.by tx))

-- a close leaves each snapshot
closed_snapshot : (l tx : Label) (f : ℕ) (o : Option Opening) (os : Openings) → opening_in tx os ≡ o → snapshot_in (opening_in l (closed_in tx f o os)) ≡ snapshot_in (opening_in l os)
closed_snapshot l tx f None os e = refl
closed_snapshot l tx f (Some o) os e = ap snapshot_in (find_put l tx (closed_at f o) os)
    ∙ cond_both (same_label l tx) (Some (closed_at f o)) (opening_in l os) (λ (p : Option Opening). snapshot_in p ≡ snapshot_in (opening_in l os))
    (λ t. ap snapshot_in (sym (ap (λ (x : Label). opening_in x os) (same_is l tx t) ∙ e)))
    (λ n. refl)

written_close : (tx : Label) (f : ℕ) (o : Option Opening) (os : Openings) → opening_in tx os ≡ o → (v : Version) → WrittenAt os v → WrittenAt (closed_in tx f o os) (restood tx (Closed f) v)
written_close tx f o os e v h = cond_both (same_label tx v.by && is_undecided v.standing) (record v { standing = Closed f }) v (WrittenAt (closed_in tx f o os))
    (λ t u. closed_snapshot v.by tx f o os e ∙ h (and_parts (same_label tx v.by) (is_undecided v.standing) t).1)
    (λ t u. closed_snapshot v.by tx f o os e ∙ h u)

written_end : (tx : Label) (st : VersionState) (os : Openings) → is_undecided st ≡ false → (v : Version) → WrittenAt os v → WrittenAt (without_opening tx os) (restood tx st v)
written_end tx st os d v h = cond_both (same_label tx v.by && is_undecided v.standing) (record v { standing = st }) v (WrittenAt (without_opening tx os))
    (λ t u. absurd (false≢true (sym d ∙ u)))
    (λ t u. ap snapshot_in (find_without v.by tx os ∙ cond-true (not (same_label tx v.by)) (opening_in v.by os) None (ap not (other t u))) ∙ h u)
  where
    other : (same_label tx v.by && is_undecided v.standing) ≡ false → is_undecided v.standing ≡ true → same_label tx v.by ≡ false
    other t u = ⊎_elim
        (λ (s : same_label tx v.by ≡ true). absurd (false≢true (sym t ∙ and_from _ _ s u)))
        (λ (s : same_label tx v.by ≡ false). s)
        (cases_Bool (same_label tx v.by))

timely_end : (e : EngineTable) (tx : Label) (st : VersionState) (stamped : List (ℕ × Label)) (voided : List ℕ) → is_undecided st ≡ false → Each (Sound (without_opening tx e.openings)) (restand tx st e.versions) → Timely e
    → Timely (record e { versions = restand tx st e.versions; openings = without_opening tx e.openings; stamped = stamped; voided = voided })
timely_end e tx st stamped voided d so h = record {
  sound = so;
  written = each_map_from (WrittenAt e.openings) (WrittenAt (without_opening tx e.openings)) (restood tx st) (written_end tx st e.openings d) e.versions h.written;
  floors = openings_without FloorPast tx e.openings tt h.floors;
  opens = openings_without (λ (p : Option Opening). snapshot_in p ≤ e.greatest) tx e.openings (omega arith) h.opens;
}

timely_change : (e : EngineTable) (c : EngineCall) → may e c ≡ true → Timely e → Timely (change e c)
timely_change e (call.Open tx s) m h = record {
  sound = sound_change e (call.Open tx s) m h.sound;
  written = each_weaker _ (WrittenAt (put label_cmp tx (opening_at s) e.openings)) (λ v k. written_open tx s e.openings (none_from (opening_of e tx) m) v k.0 k.1) e.versions (each_both (Sound e.openings) (WrittenAt e.openings) e.versions h.sound h.written);
  floors = openings_put FloorPast tx (opening_at s) e.openings (λ f k. none_some k) h.floors;
  opens = openings_put (λ (p : Option Opening). snapshot_in p ≤ max e.greatest s) tx (opening_at s) e.openings (omega arith) (λ l. let k : snapshot_of e l ≤ e.greatest = h.opens l in omega arith);
}
timely_change e (call.Get tx t key) m h = h
timely_change e (call.Scan tx t) m h = h
timely_change e (call.Put tx t key row) m h = record {
  sound = sound_change e (call.Put tx t key row) m h.sound;
  written = each_put (WrittenAt e.openings) (WrittenAt e.openings) tx (snapshot_of e tx) (write_at t key row) (λ v k. k) (λ v i o k. k) (λ u. refl) e.versions h.written;
  floors = h.floors;
  opens = h.opens;
}
timely_change e (call.Close tx) m h = record {
  sound = sound_change e (call.Close tx) m h.sound;
  written = each_map_from (WrittenAt e.openings) (WrittenAt (closed_in tx e.greatest (opening_of e tx) e.openings)) (restood tx (Closed e.greatest)) (written_close tx e.greatest (opening_of e tx) e.openings refl) e.versions h.written;
  floors = openings_closed FloorPast tx e.greatest (opening_of e tx) e.openings (λ o e f k. floor_at o e f k) h.floors;
  opens = openings_closed (λ (p : Option Opening). snapshot_in p ≤ e.greatest) tx e.greatest (opening_of e tx) e.openings (λ o k. subst (λ (p : Option Opening). snapshot_in p ≤ e.greatest) k (h.opens tx)) h.opens;
}
  where
    floor_at : (o : Opening) → opening_of e tx ≡ Some o → (f : ℕ) → Some e.greatest ≡ Some f → o.snapshot ≤ f
    floor_at o k f q =
        let same : e.greatest ≡ f = some_is q in
        let l : o.snapshot ≤ e.greatest = subst (λ (p : Option Opening). snapshot_in p ≤ e.greatest) k (h.opens tx) in
        omega arith
timely_change e (call.Stamp tx n) m h = timely_end e tx (Stamped n) (put nat_cmp n tx e.stamped) e.voided refl (sound_change e (call.Stamp tx n) m h.sound) h
timely_change e (call.Void tx n) m h = timely_end e tx Dropped e.stamped (e.voided ++ n ∷ []) refl (sound_change e (call.Void tx n) m h.sound) h
timely_change e (call.DropTx tx) m h = timely_end e tx Dropped e.stamped e.voided refl (sound_change e (call.DropTx tx) m h.sound) h
timely_change e call.Horizon m h = h
timely_change e (call.Records from to) m h = h
timely_change e (call.Purge upto) m h = record { sound = h.sound; written = h.written; floors = h.floors; opens = h.opens }

timely_entries : (e : EngineTable) (js : List Entry) → Timely e → Timely (after_entries e js)
timely_entries e [] h = h
timely_entries e (j ∷ js) h = timely_entries (step e j) js (step_keeps Timely e j h (λ m r. timely_change e j.call m h))

-- the number n is stamped, and what has it was written at a
record StampedAt (n a : ℕ) (e : EngineTable) : Type 0 where
  used : is_some (find nat_cmp n e.stamped) ≡ true
  written : Each (λ (v : Version). v.standing ≡ Stamped n → v.snapshot ≡ a) e.versions

used_is : (e : EngineTable) (n : ℕ) → is_some (find nat_cmp n e.stamped) ≡ true → is_used e n ≡ true
used_is e n h = or_left _ _ h

open_not : (n : ℕ) → Open ≡ Stamped n → ⊥
open_not n q = cc

closed_not : (f n : ℕ) → Closed f ≡ Stamped n → ⊥
closed_not f n q = cc

dropped_not : (n : ℕ) → Dropped ≡ Stamped n → ⊥
dropped_not n q = cc

-- a new standing of another number
restood_at : (n a : ℕ) (tx : Label) (st : VersionState) → (st ≡ Stamped n → ⊥) → (v : Version) → (v.standing ≡ Stamped n → v.snapshot ≡ a) → (restood tx st v).standing ≡ Stamped n → (restood tx st v).snapshot ≡ a
restood_at n a tx st ne v h = cond_both (same_label tx v.by && is_undecided v.standing) (record v { standing = st }) v (λ (x : Version). x.standing ≡ Stamped n → x.snapshot ≡ a)
    (λ t q. absurd (ne q))
    (λ t q. h q)

restand_at : (n a : ℕ) (tx : Label) (st : VersionState) (vs : List Version) → (st ≡ Stamped n → ⊥) → Each (λ (v : Version). v.standing ≡ Stamped n → v.snapshot ≡ a) vs
    → Each (λ (v : Version). v.standing ≡ Stamped n → v.snapshot ≡ a) (restand tx st vs)
restand_at n a tx st vs ne h = each_map_from (λ (v : Version). v.standing ≡ Stamped n → v.snapshot ≡ a) (λ (v : Version). v.standing ≡ Stamped n → v.snapshot ≡ a) (restood tx st) (restood_at n a tx st ne) vs h

-- the condition of an end, in its parts
ends_past : (e : EngineTable) (tx : Label) (n : ℕ) → may e (call.Stamp tx n) ≡ true → (is_closed (opening_of e tx) ≡ true) × (floor_of (opening_of e tx) < n) × (is_used e n ≡ false)
ends_past e tx n m =
    let parts : (is_closed (opening_of e tx) ≡ true) × ((nat_lt (floor_of (opening_of e tx)) n && not (is_used e n)) ≡ true) = and_parts (is_closed (opening_of e tx)) (nat_lt (floor_of (opening_of e tx)) n && not (is_used e n)) m in
    let more : (nat_lt (floor_of (opening_of e tx)) n ≡ true) × (not (is_used e n) ≡ true) = and_parts (nat_lt (floor_of (opening_of e tx)) n) (not (is_used e n)) parts.1 in
    (parts.0, ltb-true (floor_of (opening_of e tx)) n more.0, not-true (is_used e n) more.1)

stamp_at : (e : EngineTable) (tx : Label) (n : ℕ) → may e (call.Stamp tx n) ≡ true → Timely e → Each (Known e.stamped) e.versions → StampedAt n (snapshot_of e tx) (change e (call.Stamp tx n))
stamp_at e tx n m h known = record {
  used = found_put n n tx e.stamped (inr refl);
  written = each_map_from _ (λ (v : Version). v.standing ≡ Stamped n → v.snapshot ≡ snapshot_of e tx) (restood tx (Stamped n)) (λ v k. one v k.0 k.1) e.versions (each_both (WrittenAt e.openings) (Known e.stamped) e.versions h.written known);
}
  where
    one : (v : Version) → WrittenAt e.openings v → Known e.stamped v → (restood tx (Stamped n) v).standing ≡ Stamped n → (restood tx (Stamped n) v).snapshot ≡ snapshot_of e tx
    one v w k = cond_both (same_label tx v.by && is_undecided v.standing) (record v { standing = Stamped n }) v (λ (x : Version). x.standing ≡ Stamped n → x.snapshot ≡ snapshot_of e tx)
        (λ t q.
        let parts : (same_label tx v.by ≡ true) × (is_undecided v.standing ≡ true) = and_parts (same_label tx v.by) (is_undecided v.standing) t in
        sym (ap (λ (l : Label). snapshot_in (opening_in l e.openings)) (same_is tx v.by parts.0) ∙ w parts.1))
        (λ t q. absurd (false≢true (sym (ends_past e tx n m).2 ∙ used_is e n (k n (ap number_of q)))))

stamped_change : (n a : ℕ) (e : EngineTable) (c : EngineCall) → may e c ≡ true → StampedAt n a e → StampedAt n a (change e c)
stamped_change n a e (call.Open tx s) m h = record { used = h.used; written = h.written }
stamped_change n a e (call.Get tx t key) m h = h
stamped_change n a e (call.Scan tx t) m h = h
stamped_change n a e (call.Put tx t key row) m h = record {
  used = h.used;
  written = each_put (λ (v : Version). v.standing ≡ Stamped n → v.snapshot ≡ a) (λ (v : Version). v.standing ≡ Stamped n → v.snapshot ≡ a) tx (snapshot_of e tx) (write_at t key row) (λ v k. k) (λ v i o k. k) (λ q. absurd (open_not n q)) e.versions h.written;
}
stamped_change n a e (call.Close tx) m h = record { used = h.used; written = restand_at n a tx (Closed e.greatest) e.versions (λ q. closed_not e.greatest n q) h.written }
stamped_change n a e (call.Stamp tx k) m h = record {
  used = found_put n k tx e.stamped (inl h.used);
  written = restand_at n a tx (Stamped k) e.versions (λ q. false≢true (sym (ends_past e tx k m).2 ∙ ap (is_used e) (number_is q) ∙ used_is e n h.used)) h.written;
}
  where
    number_is : Stamped k ≡ Stamped n → k ≡ n
    number_is q = cc
stamped_change n a e (call.Void tx k) m h = record { used = h.used; written = restand_at n a tx Dropped e.versions (λ q. dropped_not n q) h.written }
stamped_change n a e (call.DropTx tx) m h = record { used = h.used; written = restand_at n a tx Dropped e.versions (λ q. dropped_not n q) h.written }
stamped_change n a e call.Horizon m h = h
stamped_change n a e (call.Records from to) m h = h
stamped_change n a e (call.Purge upto) m h = record { used = h.used; written = h.written }

stamped_entries : (n a : ℕ) (e : EngineTable) (js : List Entry) → StampedAt n a e → StampedAt n a (after_entries e js)
stamped_entries n a e [] h = h
stamped_entries n a e (j ∷ js) h = stamped_entries n a (step e j) js (step_keeps (StampedAt n a) e j h (λ m r. stamped_change n a e j.call m h))

-- the snapshot of a closed opening is not past its floor
snapshot_first : (o : Option Opening) → FloorPast o → is_closed o ≡ true → snapshot_in o ≤ floor_of o
snapshot_first None h c = absurd (false≢true c)
snapshot_first (Some o) h c = at o.floor refl
  where
    at : (f : Option ℕ) → o.floor ≡ f → o.snapshot ≤ floor_of (Some o)
    at None q = absurd (false≢true (sym (ap (λ (x : Option ℕ). is_some x) q) ∙ c))
    at (Some f) q =
        let l : o.snapshot ≤ f = h f q in
        let is : floor_of (Some o) ≡ f = rw (q, floor_of) refl in
        omega arith

pub stamped_at : StampedAtSnapshot
stamped_at name catalog rows start js later tx n m =
    let first : EngineTable = engine_at name catalog rows start in
    let e : EngineTable = after_entries first js in
    let h : Timely e = timely_entries first js (record { sound = tt; written = tt; floors = λ l. tt; opens = λ l. omega arith }) in
    let known : Listed start e = listed_entries start first js (listed_start name catalog rows start) in
    let past : (is_closed (opening_of e tx) ≡ true) × (floor_of (opening_of e tx) < n) × (is_used e n ≡ false) = ends_past e tx n m in
    let before : snapshot_of e tx ≤ floor_of (opening_of e tx) = snapshot_first (opening_of e tx) (h.floors tx) past.0 in
    let floor : floor_of (opening_of e tx) < n = past.1 in
    let less : snapshot_of e tx < n = omega (arith, before, floor) in
    let is : step e (record { call = call.Stamp tx n; reply = Done }) ≡ change e (call.Stamp tx n) = cond-true _ (change e (call.Stamp tx n)) e (and_from _ _ m refl) in
    (less, (stamped_entries n (snapshot_of e tx) (step e (record { call = call.Stamp tx n; reply = Done })) later (subst (StampedAt n (snapshot_of e tx)) (sym is) (stamp_at e tx n m h known.known))).written)
