-- What a reader saw stays: no commit that is stamped later, with a number up to the reader's snapshot, wrote that row.
use Rattle.std.specs.Prelude.{ℕ, List, [], ◌∷◌, Option, Some, None, Bool, true, false, cond, not, ◌&&◌, ◌≡◌, ◌<◌, ◌≤◌, ◌⊎◌, nat_lt, nat_le, map, is_some}
use Rattle.std.proofs.Common.{refl, sym, ap, subst, ◌∙◌, inl, inr, ⊎_elim, arith}
use Rattle.std.specs.List.{filter}
use Rattle.std.specs.FinMap.{put}
use Rattle.std.proofs.lemmas.Bool.{cases_lt, cond_both, cond-true, cond-false, and_parts, and_left, and_right, ltb-true, lt-leb, false≢true, cases_Bool, not-true}
use Rattle.sk_rows.specs.declared.value.Value.{Value}
use Rattle.sk_model.specs.declared.label.Label.{Label}
use Rattle.sk_model.specs.declared.commit.Write.{Write}
use Rattle.sk_model.specs.declared.call.EngineCall.{EngineCall}
use Rattle.sk_model.specs.declared.call.EngineCall.TheVariants as call
use Rattle.sk_model.specs.declared.call.Entry.{Entry}
use Rattle.sk_model.specs.Database.{RowOf, hits}
use Rattle.sk_model.specs.Records.{same_label}
use Rattle.sk_model.specs.Engine.{label_cmp, VersionState, Open, Closed, Stamped, Dropped, Version, Opening, Openings, EngineTable, is_upto, is_open, is_undecided, is_of, opening_in, opening_of, snapshot_of, write_at}
use Rattle.sk_model.specs.EngineReplies.{is_used}
use Rattle.sk_model.specs.EngineChanges.{restood, restand, put_version, without_opening, closed_at, closed_in, opening_at, change}
use Rattle.sk_model.specs.EngineConditions.{may, has_table, has_key, has_row, is_closed, is_standing, floor_of}
use Rattle.sk_model.specs.Legal.{step, after_entries, is_refusal}
use Rattle.sk_model.specs.EngineInvariant.{Stands, Sound, AllSound}
use Rattle.sk_model.proofs.Lists.{Each, each_both, each_weaker}
use Rattle.sk_model.proofs.Labels.{same_is, same_itself, not_same_back, find_put, find_without}

-- the standing of a version after its transaction's versions got a new one
restood_standing : (tx : Label) (st : VersionState) (v : Version) → (restood tx st v).standing ≡ cond (same_label tx v.by && is_undecided v.standing) st v.standing
restood_standing tx st v = go (same_label tx v.by && is_undecided v.standing)
  where
    go : (b : Bool) → (cond b (record v { standing = st }) v).standing ≡ cond b st v.standing
    go true = refl
    go false = refl

restood_by : (tx : Label) (st : VersionState) (v : Version) → (restood tx st v).by ≡ v.by
restood_by tx st v = cond_both (same_label tx v.by && is_undecided v.standing) (record v { standing = st }) v (λ (x : Version). x.by ≡ v.by) (λ e. refl) (λ e. refl)

pub restood_write : (tx : Label) (st : VersionState) (v : Version) → (restood tx st v).write ≡ v.write
restood_write tx st v = cond_both (same_label tx v.by && is_undecided v.standing) (record v { standing = st }) v (λ (x : Version). x.write ≡ v.write) (λ e. refl) (λ e. refl)

-- a transaction with a standing opening has no closed version
pub no_closed : (tx : Label) (os : Openings) (v : Version) → is_standing (opening_in tx os) ≡ true → Sound os v → same_label tx v.by ≡ true → (g : ℕ) → v.standing ≡ Closed g → ⊥
no_closed tx os v m h t g e = at (opening_in tx os) m (subst (λ (st : VersionState). Stands (opening_in tx os) st) e (subst (λ (l : Label). Stands (opening_in l os) v.standing) (sym (same_is tx v.by t)) h))
  where
    at : (o : Option Opening) → is_standing o ≡ true → Stands o (Closed g) → ⊥
    at None m h = h
    at (Some o) m h = false≢true (sym (ap (λ (x : Option ℕ). not (is_some x)) h) ∙ m)

-- once a standing is decided it stands with any opening
decided : (o : Option Opening) (st : VersionState) → is_undecided st ≡ false → Stands o st
decided o Open e = absurd (false≢true (sym e))
decided o (Closed f) e = absurd (false≢true (sym e))
decided None (Stamped n) e = tt
decided (Some o) (Stamped n) e = tt
decided None Dropped e = tt
decided (Some o) Dropped e = tt

-- a version's standing beside its transaction's opening, after that transaction's versions got a new one
sound_again : (tx : Label) (st : VersionState) (os new : Openings) (v : Version)
    → (same_label tx v.by ≡ true → is_undecided v.standing ≡ true → Stands (opening_in v.by new) st)
    → (same_label tx v.by ≡ false → opening_in v.by new ≡ opening_in v.by os) → Sound os v → Sound new (restood tx st v)
sound_again tx st os new v own other h =
    subst (λ (s : VersionState). Stands (opening_in (restood tx st v).by new) s) (sym (restood_standing tx st v))
    (subst (λ (l : Label). Stands (opening_in l new) (cond (same_label tx v.by && is_undecided v.standing) st v.standing)) (sym (restood_by tx st v))
    (⊎_elim
    (λ (t : same_label tx v.by ≡ true). ⊎_elim
    (λ (u : is_undecided v.standing ≡ true). rw (t, u) (own t u))
    (λ (n : is_undecided v.standing ≡ false). rw (t, n) (decided (opening_in v.by new) v.standing n))
    (cases_Bool (is_undecided v.standing)))
    (λ (n : same_label tx v.by ≡ false). rw n (subst (λ (o : Option Opening). Stands o v.standing) (sym (other n)) h))
    (cases_Bool (same_label tx v.by))))

sound_close : (tx : Label) (f : ℕ) (os : Openings) (v : Version) (o : Option Opening) → is_standing o ≡ true → Sound os v → Sound (closed_in tx f o os) (restood tx (Closed f) v)
sound_close tx f os v None m h = absurd (false≢true m)
sound_close tx f os v (Some o) m h = sound_again tx (Closed f) os (put label_cmp tx (closed_at f o) os) v
    (λ t u. subst (λ (p : Option Opening). Stands p (Closed f)) (sym (find_put v.by tx (closed_at f o) os
    ∙ cond-true (same_label v.by tx) (Some (closed_at f o)) (opening_in v.by os) (subst (λ (l : Label). same_label l tx ≡ true) (same_is tx v.by t) (same_itself tx)))) refl)
    (λ n. find_put v.by tx (closed_at f o) os ∙ cond-false (same_label v.by tx) (Some (closed_at f o)) (opening_in v.by os) (not_same_back tx v.by n))
    h

sound_end : (tx : Label) (st : VersionState) (os : Openings) (v : Version) → is_undecided st ≡ false → Sound os v → Sound (without_opening tx os) (restood tx st v)
sound_end tx st os v d h = sound_again tx st os (without_opening tx os) v
    (λ t u. decided (opening_in v.by (without_opening tx os)) st d)
    (λ n. find_without v.by tx os ∙ cond-true (not (same_label tx v.by)) (opening_in v.by os) None (ap not n))
    h

-- one more opening, of a transaction that has none
stands_new : (o : Opening) (st : VersionState) → Stands None st → Stands (Some o) st
stands_new o Open h = absurd h
stands_new o (Closed f) h = absurd h
stands_new o (Stamped n) h = tt
stands_new o Dropped h = tt

sound_open : (tx : Label) (s : ℕ) (os : Openings) → opening_in tx os ≡ None → (v : Version) → Sound os v → Sound (put label_cmp tx (opening_at s) os) v
sound_open tx s os none v h = ⊎_elim
    (λ (t : same_label v.by tx ≡ true).
    let was : opening_in v.by os ≡ None = ap (λ (l : Label). opening_in l os) (same_is v.by tx t) ∙ none in
    subst (λ (p : Option Opening). Stands p v.standing) (sym (find_put v.by tx (opening_at s) os ∙ cond-true (same_label v.by tx) (Some (opening_at s)) (opening_in v.by os) t))
    (stands_new (opening_at s) v.standing (subst (λ (p : Option Opening). Stands p v.standing) was h)))
    (λ (n : same_label v.by tx ≡ false).
    subst (λ (p : Option Opening). Stands p v.standing) (sym (find_put v.by tx (opening_at s) os ∙ cond-false (same_label v.by tx) (Some (opening_at s)) (opening_in v.by os) n)) h)
    (cases_Bool (same_label v.by tx))

pub none_from : (o : Option Opening) → not (is_some o) ≡ true → o ≡ None
none_from None m = refl
none_from (Some o) m = absurd (false≢true m)

-- who may write has a standing opening
pub put_standing : (e : EngineTable) (tx : Label) (u : ℕ) (key : Value) (row : Option RowOf) → may e (call.Put tx u key row) ≡ true → is_standing (opening_of e tx) ≡ true
put_standing e tx u key row m = (and_parts (is_standing (opening_of e tx)) (has_table e u && (has_key e u key && has_row e u key row)) m).0

pub each_map_from : {X Y : Type 0} (Q : X → Type 0) (P : Y → Type 0) (f : X → Y) → ((x : X) → Q x → P (f x)) → (xs : List X) → Each Q xs → Each P (map f xs)
each_map_from Q P f g [] h = tt
each_map_from Q P f g (x ∷ xs) h = (g x h.0, each_map_from Q P f g xs h.1)

pub each_put : (Q P : Version → Type 0) (tx : Label) (s : ℕ) (w : Write) → ((v : Version) → Q v → P v) → ((v : Version) → is_of w.table w.key v ≡ true → is_open v.standing ≡ true → Q v → P (record v { write = w }))
    → P (record { by = tx; snapshot = s; write = w; standing = Open }) → (vs : List Version) → Each Q vs → Each P (put_version tx s w vs)
each_put Q P tx s w f g new [] h = (new, tt)
each_put Q P tx s w f g new (v ∷ vs) h =
    cond_both (is_of w.table w.key v && (same_label tx v.by && is_open v.standing)) (record v { write = w } ∷ vs) (v ∷ put_version tx s w vs) (λ (xs : List Version). Each P xs)
    (λ e. (g v (and_parts _ _ e).0 (and_parts _ _ (and_parts _ _ e).1).1 h.0, each_weaker Q P f vs h.1))
    (λ e. (f v h.0, each_put Q P tx s w f g new vs h.1))

standing_sound : (o : Option Opening) → is_standing o ≡ true → Stands o Open
standing_sound None m = absurd (false≢true m)
standing_sound (Some o) m = floor o.floor m
  where
    floor : (f : Option ℕ) → not (is_some f) ≡ true → f ≡ None
    floor None m = refl
    floor (Some f) m = absurd (false≢true m)

pub sound_change : (e : EngineTable) (c : EngineCall) → may e c ≡ true → AllSound e → AllSound (change e c)
sound_change e (call.Open tx s) m h = each_weaker (Sound e.openings) (Sound (put label_cmp tx (opening_at s) e.openings)) (sound_open tx s e.openings (none_from (opening_of e tx) m)) e.versions h
sound_change e (call.Get tx t key) m h = h
sound_change e (call.Scan tx t) m h = h
sound_change e (call.Put tx u key row) m h =
    each_put (Sound e.openings) (Sound e.openings) tx (snapshot_of e tx) (write_at u key row) (λ v k. k) (λ v t o k. k) (standing_sound (opening_of e tx) (put_standing e tx u key row m)) e.versions h
sound_change e (call.Close tx) m h =
    each_map_from (Sound e.openings) (Sound (closed_in tx e.greatest (opening_of e tx) e.openings)) (restood tx (Closed e.greatest)) (λ v k. sound_close tx e.greatest e.openings v (opening_of e tx) m k) e.versions h
sound_change e (call.Stamp tx n) m h = each_map_from (Sound e.openings) (Sound (without_opening tx e.openings)) (restood tx (Stamped n)) (λ v k. sound_end tx (Stamped n) e.openings v refl k) e.versions h
sound_change e (call.Void tx n) m h = each_map_from (Sound e.openings) (Sound (without_opening tx e.openings)) (restood tx Dropped) (λ v k. sound_end tx Dropped e.openings v refl k) e.versions h
sound_change e (call.DropTx tx) m h = each_map_from (Sound e.openings) (Sound (without_opening tx e.openings)) (restood tx Dropped) (λ v k. sound_end tx Dropped e.openings v refl k) e.versions h
sound_change e call.Horizon m h = h
sound_change e (call.Records from to) m h = h
sound_change e (call.Purge upto) m h = h

-- the versions of one row that a reader at s sees among the stamped ones
abbrev pub reads : ℕ → Value → ℕ → Version → Bool
reads t key s v = is_of t key v && is_upto s v.standing

abbrev pub seen_versions : ℕ → Value → ℕ → List Version → List Version
seen_versions t key s vs = filter (reads t key s) vs

abbrev pub QuietAt : ℕ → VersionState → Type 0
QuietAt s Open = Unit {0}
QuietAt s (Closed f) = s ≤ f
QuietAt s (Stamped n) = Unit {0}
QuietAt s Dropped = Unit {0}

abbrev pub QuietIn : ℕ → Value → ℕ → Version → Type 0
QuietIn t key s v = is_of t key v ≡ true → QuietAt s v.standing

-- s was opened, and no version of the row is closed with a floor below s
pub record Quiet (t : ℕ) (key : Value) (s : ℕ) (e : EngineTable) : Type 0 where
  pub opened : s ≤ e.greatest
  pub row : Each (QuietIn t key s) e.versions

quiet_open : (s : ℕ) (st : VersionState) → is_open st ≡ true → QuietAt s st
quiet_open s Open e = tt
quiet_open s (Closed f) e = absurd (false≢true e)
quiet_open s (Stamped n) e = tt
quiet_open s Dropped e = tt

quiet_restood : (t : ℕ) (key : Value) (s : ℕ) (tx : Label) (st : VersionState) → QuietAt s st → (v : Version) → QuietIn t key s v → QuietIn t key s (restood tx st v)
quiet_restood t key s tx st q v h = cond_both (same_label tx v.by && is_undecided v.standing) (record v { standing = st }) v (λ (x : Version). QuietIn t key s x) (λ e i. q) (λ e. h)

quiet_map : (t : ℕ) (key : Value) (s : ℕ) (e : EngineTable) (tx : Label) (st : VersionState) → QuietAt s st → Each (QuietIn t key s) e.versions → Each (QuietIn t key s) (restand tx st e.versions)
quiet_map t key s e tx st q h = each_map_from (QuietIn t key s) (QuietIn t key s) (restood tx st) (quiet_restood t key s tx st q) e.versions h

pub quiet_change : (t : ℕ) (key : Value) (s : ℕ) (e : EngineTable) (c : EngineCall) → Quiet t key s e → Quiet t key s (change e c)
quiet_change t key s e (call.Open tx n) h = record { opened = let o : s ≤ e.greatest = h.opened in omega arith; row = h.row }
quiet_change t key s e (call.Get tx u k) h = h
quiet_change t key s e (call.Scan tx u) h = h
quiet_change t key s e (call.Put tx u k row) h = record { opened = h.opened; row = each_put (QuietIn t key s) (QuietIn t key s) tx (snapshot_of e tx) (write_at u k row) (λ v k. k) (λ v t o k i. quiet_open s v.standing o) (λ i. tt) e.versions h.row }
quiet_change t key s e (call.Close tx) h = record { opened = h.opened; row = quiet_map t key s e tx (Closed e.greatest) h.opened h.row }
quiet_change t key s e (call.Stamp tx n) h = record { opened = h.opened; row = quiet_map t key s e tx (Stamped n) tt h.row }
quiet_change t key s e (call.Void tx n) h = record { opened = h.opened; row = quiet_map t key s e tx Dropped tt h.row }
quiet_change t key s e (call.DropTx tx) h = record { opened = h.opened; row = quiet_map t key s e tx Dropped tt h.row }
quiet_change t key s e call.Horizon h = h
quiet_change t key s e (call.Records from to) h = h
quiet_change t key s e (call.Purge upto) h = record { opened = h.opened; row = h.row }

open_unseen : (s : ℕ) (st : VersionState) → is_open st ≡ true → is_upto s st ≡ false
open_unseen s Open e = refl
open_unseen s (Closed f) e = absurd (false≢true e)
open_unseen s (Stamped n) e = absurd (false≢true e)
open_unseen s Dropped e = absurd (false≢true e)

pub undecided_unseen : (s : ℕ) (st : VersionState) → is_undecided st ≡ true → is_upto s st ≡ false
undecided_unseen s Open e = refl
undecided_unseen s (Closed f) e = refl
undecided_unseen s (Stamped n) e = absurd (false≢true e)
undecided_unseen s Dropped e = absurd (false≢true e)

pub put_unseen : (t : ℕ) (key : Value) (s : ℕ) (tx : Label) (n : ℕ) (w : Write) (vs : List Version) → seen_versions t key s (put_version tx n w vs) ≡ seen_versions t key s vs
put_unseen t key s tx n w [] =
    let off : reads t key s (record { by = tx; snapshot = n; write = w; standing = Open }) ≡ false = and_right (hits t key w) false refl in
    rw off refl
put_unseen t key s tx n w (v ∷ vs) =
    cond_both (is_of w.table w.key v && (same_label tx v.by && is_open v.standing)) (record v { write = w } ∷ vs) (v ∷ put_version tx n w vs)
    (λ (xs : List Version). seen_versions t key s xs ≡ seen_versions t key s (v ∷ vs))
    (λ e.
    let u : is_upto s v.standing ≡ false = open_unseen s v.standing (and_parts _ _ (and_parts _ _ e).1).1 in
    let new : reads t key s (record v { write = w }) ≡ false = and_right (hits t key w) (is_upto s v.standing) u in
    let old : reads t key s v ≡ false = and_right (is_of t key v) (is_upto s v.standing) u in
    rw (new, old) refl)
    (λ e. ap (λ (xs : List Version). cond (reads t key s v) (v ∷ xs) xs) (put_unseen t key s tx n w vs))

-- a map that changes nothing that passes, before or after
pub filter_map_same : {X : Type 0} (p : X → Bool) (f : X → X) (xs : List X) → Each (λ x. (f x ≡ x) ⊎ ((p (f x) ≡ false) × (p x ≡ false))) xs → filter p (map f xs) ≡ filter p xs
filter_map_same p f [] h = refl
filter_map_same p f (x ∷ xs) h =
    let ih : filter p (map f xs) ≡ filter p xs = filter_map_same p f xs h.1 in
    ⊎_elim
    (λ (e : f x ≡ x). rw (e, ih) refl)
    (λ (e : (p (f x) ≡ false) × (p x ≡ false)). rw (e.0, e.1) ih)
    h.0

-- a new standing that is not seen at s, or versions that are not of the row
restand_unseen : (t : ℕ) (key : Value) (s : ℕ) (tx : Label) (st : VersionState) (vs : List Version)
    → Each (λ v. same_label tx v.by ≡ true → is_undecided v.standing ≡ true → (is_of t key v && is_upto s st) ≡ false) vs
    → seen_versions t key s (restand tx st vs) ≡ seen_versions t key s vs
restand_unseen t key s tx st vs h = filter_map_same (reads t key s) (restood tx st) vs (each_weaker _ _ one vs h)
  where
    one : (v : Version) → (same_label tx v.by ≡ true → is_undecided v.standing ≡ true → (is_of t key v && is_upto s st) ≡ false)
        → (restood tx st v ≡ v) ⊎ ((reads t key s (restood tx st v) ≡ false) × (reads t key s v ≡ false))
    one v k = ⊎_elim
        (λ (e : (same_label tx v.by && is_undecided v.standing) ≡ true).
        let parts : (same_label tx v.by ≡ true) × (is_undecided v.standing ≡ true) = and_parts _ _ e in
        let off : (is_of t key v && is_upto s st) ≡ false = k parts.0 parts.1 in
        let is : restood tx st v ≡ record v { standing = st } = rw e refl in
        inr (ap (reads t key s) is ∙ off, and_right (is_of t key v) (is_upto s v.standing) (undecided_unseen s v.standing parts.1)))
        (λ (e : (same_label tx v.by && is_undecided v.standing) ≡ false). inl (rw e refl))
        (cases_Bool (same_label tx v.by && is_undecided v.standing))

-- who is stamped with a number up to s wrote nothing to the row
stamp_unseen : (t : ℕ) (key : Value) (s n : ℕ) (tx : Label) (e : EngineTable) → is_closed (opening_of e tx) ≡ true → floor_of (opening_of e tx) < n → Quiet t key s e → AllSound e
    → Each (λ v. same_label tx v.by ≡ true → is_undecided v.standing ≡ true → (is_of t key v && nat_le n s) ≡ false) e.versions
stamp_unseen t key s n tx e c l q sound = each_weaker _ _ (λ v k. one v k.0 k.1) e.versions (each_both (QuietIn t key s) (Sound e.openings) e.versions q.row sound)
  where
    at : (o : Option Opening) (st : VersionState) → is_closed o ≡ true → floor_of o < n → n ≤ s → QuietAt s st → is_undecided st ≡ true → Stands o st → ⊥
    at None st c l m k u h = false≢true c
    at (Some o) Open c l m k u h = false≢true (sym (ap (λ (x : Option ℕ). is_some x) h) ∙ c)
    at (Some o) (Closed f) c l m k u h =
        let same : floor_of (Some o) ≡ f = rw (h, floor_of) refl in
        omega arith
    at (Some o) (Stamped i) c l m k u h = false≢true u
    at (Some o) Dropped c l m k u h = false≢true u

    one : (v : Version) → QuietIn t key s v → Sound e.openings v → same_label tx v.by ≡ true → is_undecided v.standing ≡ true → (is_of t key v && nat_le n s) ≡ false
    one v k h same u = ⊎_elim
        (λ (i : is_of t key v ≡ true). ⊎_elim
        (λ (lt : s < n). and_right (is_of t key v) (nat_le n s) (lt-leb n s lt))
        (λ (le : n ≤ s). absurd (at (opening_of e tx) v.standing c l le (k i) u (subst (λ (x : Label). Stands (opening_in x e.openings) v.standing) (sym (same_is tx v.by same)) h)))
        (cases_lt s n))
        (λ (i : is_of t key v ≡ false). and_left (is_of t key v) (nat_le n s) i)
        (cases_Bool (is_of t key v))

all_false : (vs : List Version) (p : Version → Bool) → ((v : Version) → p v ≡ false) → (Q R : Version → Type 0) → Each (λ v. Q v → R v → p v ≡ false) vs
all_false [] p f Q R = tt
all_false (v ∷ vs) p f Q R = ((λ a b. f v), all_false vs p f Q R)

-- one call leaves what the row's readers at s see
pub seen_change : (t : ℕ) (key : Value) (s : ℕ) (e : EngineTable) (c : EngineCall) → may e c ≡ true → AllSound e → Quiet t key s e → seen_versions t key s (change e c).versions ≡ seen_versions t key s e.versions
seen_change t key s e (call.Open tx n) m h q = refl
seen_change t key s e (call.Get tx u k) m h q = refl
seen_change t key s e (call.Scan tx u) m h q = refl
seen_change t key s e (call.Put tx u k row) m h q = put_unseen t key s tx (snapshot_of e tx) (write_at u k row) e.versions
seen_change t key s e (call.Close tx) m h q = restand_unseen t key s tx (Closed e.greatest) e.versions (all_false e.versions (λ v. is_of t key v && false) (λ v. and_right (is_of t key v) false refl) _ _)
seen_change t key s e (call.Stamp tx n) m h q =
    let parts : (is_closed (opening_of e tx) ≡ true) × ((nat_lt (floor_of (opening_of e tx)) n && not (is_used e n)) ≡ true) = and_parts (is_closed (opening_of e tx)) (nat_lt (floor_of (opening_of e tx)) n && not (is_used e n)) m in
    let l : floor_of (opening_of e tx) < n = ltb-true (floor_of (opening_of e tx)) n (and_parts (nat_lt (floor_of (opening_of e tx)) n) (not (is_used e n)) parts.1).0 in
    restand_unseen t key s tx (Stamped n) e.versions (stamp_unseen t key s n tx e parts.0 l q h)
seen_change t key s e (call.Void tx n) m h q = restand_unseen t key s tx Dropped e.versions (all_false e.versions (λ v. is_of t key v && false) (λ v. and_right (is_of t key v) false refl) _ _)
seen_change t key s e (call.DropTx tx) m h q = restand_unseen t key s tx Dropped e.versions (all_false e.versions (λ v. is_of t key v && false) (λ v. and_right (is_of t key v) false refl) _ _)
seen_change t key s e call.Horizon m h q = refl
seen_change t key s e (call.Records from to) m h q = refl
seen_change t key s e (call.Purge upto) m h q = refl

-- what holds of the table after an entry, if each call keeps it
pub step_keeps : (P : EngineTable → Type 0) (e : EngineTable) (j : Entry) → P e → (may e j.call ≡ true → is_refusal j.reply ≡ false → P (change e j.call)) → P (step e j)
step_keeps P e j h f = cond_both (may e j.call && not (is_refusal j.reply)) (change e j.call) e P
    (λ t. let parts : (may e j.call ≡ true) × (not (is_refusal j.reply) ≡ true) = and_parts _ _ t in f parts.0 (not-true _ parts.1))
    (λ f. h)

-- whatever comes after a read, the row's versions up to the reader's snapshot stay those that it saw
pub seen_stays : (t : ℕ) (key : Value) (s : ℕ) (e : EngineTable) (js : List Entry) → AllSound e → Quiet t key s e → seen_versions t key s (after_entries e js).versions ≡ seen_versions t key s e.versions
seen_stays t key s e [] h q = refl
seen_stays t key s e (j ∷ js) h q =
    seen_stays t key s (step e j) js (step_keeps AllSound e j h (λ m r. sound_change e j.call m h)) (step_keeps (Quiet t key s) e j q (λ m r. quiet_change t key s e j.call q))
    ∙ step_keeps (λ (f : EngineTable). seen_versions t key s f.versions ≡ seen_versions t key s e.versions) e j refl (λ m r. seen_change t key s e j.call m h q)
