-- The versions of one row stand in the order of their numbers, and each was written at a snapshot that holds those before it.
use Rattle.std.specs.Prelude.{ℕ, List, [], ◌∷◌, ◌++◌, Option, Some, None, Bool, true, false, cond, not, ◌&&◌, ◌≡◌, ◌<◌, ◌≤◌, nat_lt, max, is_some}
use Rattle.std.proofs.Common.{refl, sym, ap, subst, ◌∙◌, ⊎_elim, arith}
use Rattle.std.specs.List.{filter, find}
use Rattle.std.proofs.lemmas.Bool.{cases_lt, cond_both, and_parts, and_from, cond-true, cond-false, ltb-true, lt-ltb, false≢true, cases_Bool}
use Rattle.sk_rows.specs.declared.value.Value.{Value}
use Rattle.sk_rows.specs.declared.table.Table.{Table}
use Rattle.sk_model.specs.declared.label.Label.{Label}
use Rattle.sk_model.specs.declared.engine.EngineName.{EngineName}
use Rattle.sk_model.specs.declared.commit.Write.{Write}
use Rattle.sk_model.specs.declared.reply.Why.TheVariants as why
use Rattle.sk_model.specs.declared.call.EngineCall.{EngineCall}
use Rattle.sk_model.specs.declared.call.EngineCall.TheVariants as call
use Rattle.sk_model.specs.declared.call.EngineFault.TheVariants as fault
use Rattle.sk_model.specs.declared.call.EngineReply.{EngineReply}
use Rattle.sk_model.specs.declared.call.EngineReply.TheVariants.{Done, Fault}
use Rattle.sk_model.specs.declared.call.Entry.{Entry}
use Rattle.sk_model.specs.Database.{Tables, hits}
use Rattle.sk_model.specs.Records.{same_label}
use Rattle.sk_model.specs.Engine.{VersionState, Open, Closed, Stamped, Dropped, Version, Opening, Openings, EngineTable, engine_at, is_open, is_undecided, is_stamped, is_of, opening_in, opening_of, snapshot_in, snapshot_of, write_at}
use Rattle.sk_model.specs.EngineReplies.{is_rival, put_answer, conflict_or, past_or, past_of, last_in, is_used, answer_of}
use Rattle.sk_model.specs.EngineChanges.{restood, restand, put_version, without_opening, opening_at, change}
use Rattle.sk_model.specs.EngineConditions.{may, is_closed, is_standing, floor_of, empty_of}
use Rattle.sk_model.specs.Legal.{step, after_entries, is_refusal, due, may_fail, IsReply, Legal}
use Rattle.sk_model.proofs.Lists.{Each, each_both, each_weaker}
use Rattle.sk_model.proofs.Lookups.{hits_is, hits_itself}
use Rattle.sk_model.proofs.Labels.{same_is, openings_put, openings_closed, openings_without}
use Rattle.sk_model.proofs.Quiet.{each_map_from, each_put, step_keeps, no_closed, sound_change, put_standing}
use Rattle.sk_model.specs.EngineInvariant.{Sound, AllSound, Stands, Precedes, Behind, same_row, Ordered, TimedAt, Good}

behind_any : (x v : VersionState) (s : ℕ) → Precedes v s → Behind x v s
behind_any Open v s h = h
behind_any (Closed f) v s h = h
behind_any (Stamped m) v s h = h
behind_any Dropped v s h = tt

precedes_kept : (b : Bool) (st v : VersionState) (s : ℕ) → (b ≡ true → is_undecided v ≡ true) → Precedes v s → Precedes (cond b st v) s
precedes_kept true st Open s u h = absurd h
precedes_kept true st (Closed f) s u h = absurd h
precedes_kept true st (Stamped n) s u h = absurd (false≢true (u refl))
precedes_kept true st Dropped s u h = absurd (false≢true (u refl))
precedes_kept false st v s u h = h

behind_kept : (bw bv : Bool) (st w v : VersionState) (s : ℕ) → (bw ≡ true → is_undecided w ≡ true) → (bv ≡ true → is_undecided v ≡ true) → Behind w v s → Behind (cond bw st w) (cond bv st v) s
behind_kept true bv st Dropped v s uw uv h = absurd (false≢true (uw refl))
behind_kept false bv st Dropped v s uw uv h = tt
behind_kept bw bv st Open v s uw uv h = behind_any (cond bw st Open) (cond bv st v) s (precedes_kept bv st v s uv h)
behind_kept bw bv st (Closed f) v s uw uv h = behind_any (cond bw st (Closed f)) (cond bv st v) s (precedes_kept bv st v s uv h)
behind_kept bw bv st (Stamped m) v s uw uv h = behind_any (cond bw st (Stamped m)) (cond bv st v) s (precedes_kept bv st v s uv h)

-- the pair of two versions after a new standing
behind_restood : (tx : Label) (st : VersionState) (v w : Version) → (same_row v w ≡ true → Behind w.standing v.standing w.snapshot)
    → same_row (restood tx st v) (restood tx st w) ≡ true → Behind (restood tx st w).standing (restood tx st v).standing (restood tx st w).snapshot
behind_restood tx st v w h = go (same_label tx w.by && is_undecided w.standing) (same_label tx v.by && is_undecided v.standing) (λ e. (and_parts _ _ e).1) (λ e. (and_parts _ _ e).1)
  where
    go : (bw bv : Bool) → (bw ≡ true → is_undecided w.standing ≡ true) → (bv ≡ true → is_undecided v.standing ≡ true)
        → same_row (cond bv (record v { standing = st }) v) (cond bw (record w { standing = st }) w) ≡ true
        → Behind (cond bw (record w { standing = st }) w).standing (cond bv (record v { standing = st }) v).standing (cond bw (record w { standing = st }) w).snapshot
    go true true uw uv s = behind_kept true true st w.standing v.standing w.snapshot uw uv (h s)
    go true false uw uv s = behind_kept true false st w.standing v.standing w.snapshot uw uv (h s)
    go false true uw uv s = behind_kept false true st w.standing v.standing w.snapshot uw uv (h s)
    go false false uw uv s = h s

pub ordered_restand : (tx : Label) (st : VersionState) (vs : List Version) → Ordered vs → Ordered (restand tx st vs)
ordered_restand tx st [] h = tt
ordered_restand tx st (v ∷ vs) h = (
  each_map_from (λ (w : Version). same_row v w ≡ true → Behind w.standing v.standing w.snapshot)
      (λ (w : Version). same_row (restood tx st v) w ≡ true → Behind w.standing (restood tx st v).standing w.snapshot)
      (restood tx st) (λ w k. behind_restood tx st v w k) vs h.0,
  ordered_restand tx st vs h.1,
)

-- a write to the same row in place of another
hits_same : (w x : Write) → hits w.table w.key x ≡ true → (t : ℕ) (key : Value) → hits t key w ≡ hits t key x
hits_same w x e t key =
    let is : (w.table ≡ x.table) × (w.key ≡ x.key) = hits_is w.table w.key x e in
    rw (is.0, is.1) refl

-- behind all others stands a new version of w, where each version of the row that it does not replace lets it
pub ordered_put : (tx : Label) (s : ℕ) (w : Write) (vs : List Version)
    → Each (λ (v : Version). is_of w.table w.key v ≡ true → (same_label tx v.by && is_open v.standing) ≡ false → Precedes v.standing s) vs
    → Ordered vs → Ordered (put_version tx s w vs)
ordered_put tx s w [] c h = (tt, tt)
ordered_put tx s w (v ∷ vs) c h =
    cond_both (is_of w.table w.key v && (same_label tx v.by && is_open v.standing)) (record v { write = w } ∷ vs) (v ∷ put_version tx s w vs) (λ (xs : List Version). Ordered xs)
    (λ e.
    let is : (w.table ≡ v.write.table) × (w.key ≡ v.write.key) = hits_is w.table w.key v.write (and_parts _ _ e).0 in
    let same : (x : Version) → same_row (record v { write = w }) x ≡ same_row v x = λ x. rw (is.0, is.1) refl in
    (each_weaker _ _ (λ x k r. k (sym (same x) ∙ r)) vs h.0, h.1))
    (λ e. (
      each_put (λ (x : Version). same_row v x ≡ true → Behind x.standing v.standing x.snapshot) (λ (x : Version). same_row v x ≡ true → Behind x.standing v.standing x.snapshot) tx s w
          (λ x k. k)
          (λ x t o k r. k (sym (hits_same w x.write t v.write.table v.write.key) ∙ r))
          (λ r.
          let is : (v.write.table ≡ w.table) × (v.write.key ≡ w.key) = hits_is v.write.table v.write.key w r in
          let mine : is_of w.table w.key v ≡ true = rw (← is.0, ← is.1) (hits_itself v.write) in
          c.0 mine (rw mine at e)) vs h.0,
      ordered_put tx s w vs c.1 h.1,
    ))

-- Put is answered Done only where each version of the row lets the new one stand behind it
pub find_none : {X : Type 0} (p : X → Bool) (xs : List X) → find p xs ≡ None → Each (λ x. p x ≡ false) xs
find_none p [] e = tt
find_none p (x ∷ xs) e = ⊎_elim
    (λ (t : p x ≡ true). absurd (clash (rw t at e)))
    (λ (f : p x ≡ false). (f, find_none p xs (rw f at e)))
    (cases_Bool (p x))
  where
    clash : {X : Type 0} {x : X} → Some x ≡ None → ⊥
    clash e = cc

no_conflict : (o : Option Version) (reply : EngineReply) → is_refusal (conflict_or o reply) ≡ false → (o ≡ None) × (is_refusal reply ≡ false)
no_conflict None reply h = (refl, h)
no_conflict (Some v) reply h = absurd (false≢true (sym h))

not_past : (s : ℕ) (by : Label) (n : ℕ) → is_refusal (past_of s by (Stamped n)) ≡ false → n ≤ s
not_past s by n h = ⊎_elim
    (λ (l : s < n). absurd (false≢true (sym h ∙ ap is_refusal (cond-true (nat_lt s n) (Fault (fault.Conflict by (why.Past n s))) Done (lt-ltb s n l)))))
    (λ (l : n ≤ s). l)
    (cases_lt s n)

-- the last of the stamped versions of a row has the greatest number
abbrev UptoLast : ℕ → Option Version → Type 0
UptoLast s None = Unit {0}
UptoLast s (Some v) = is_stamped v.standing ≡ true → Precedes v.standing s

abbrev pub is_row : ℕ → Value → Version → Bool
is_row t key v = is_of t key v && is_stamped v.standing

chain : (g : ℕ) (v y : VersionState) (sy s : ℕ) → is_stamped y ≡ true → Behind y v sy → TimedAt g sy y → Precedes y s → Precedes v s
chain g v Open sy s t b l p = absurd (false≢true t)
chain g v (Closed f) sy s t b l p = absurd (false≢true t)
chain g Open (Stamped m) sy s t b l p = absurd b
chain g (Closed f) (Stamped m) sy s t b l p = absurd b
chain g (Stamped n) (Stamped m) sy s t b l p = omega arith
chain g Dropped (Stamped m) sy s t b l p = tt
chain g v Dropped sy s t b l p = absurd (false≢true t)

first_in : {X : Type 0} (p : X → Bool) (Q : X → Type 0) (xs ys : List X) (y : X) → filter p xs ≡ y ∷ ys → Each Q xs → Q y × (p y ≡ true)
first_in p Q [] ys y e h = absurd (clash e)
  where
    clash : {X : Type 0} {y : X} {ys : List X} → [] ≡ y ∷ ys → ⊥
    clash e = cc
first_in p Q (x ∷ xs) ys y e h = ⊎_elim
    (λ (t : p x ≡ true).
    let f : x ∷ filter p xs ≡ y ∷ ys = rw t at e in
    let same : x ≡ y = cc in
    (subst Q same h.0, subst (λ z. p z ≡ true) same t))
    (λ (f : p x ≡ false). first_in p Q xs ys y (rw f at e) h.1)
    (cases_Bool (p x))

pub same_row_of : (t : ℕ) (key : Value) (v y : Version) → is_of t key v ≡ true → is_of t key y ≡ true → same_row v y ≡ true
same_row_of t key v y a b =
    let is : (t ≡ v.write.table) × (key ≡ v.write.key) = hits_is t key v.write a in
    rw (← is.0, ← is.1) b

all_upto : (g s t : ℕ) (key : Value) (vs : List Version) (best : Option Version) → Ordered vs → Each (λ (v : Version). TimedAt g v.snapshot v.standing) vs
    → UptoLast s (last_in best (filter (is_row t key) vs)) → Each (λ (v : Version). is_row t key v ≡ true → Precedes v.standing s) vs
all_upto g s t key [] best o l h = tt
all_upto g s t key (v ∷ vs) best o l h = ⊎_elim
    (λ (y : is_row t key v ≡ true).
    let h2 : UptoLast s (last_in (Some v) (filter (is_row t key) vs)) = subst (λ (xs : List Version). UptoLast s (last_in best xs)) (cond-true (is_row t key v) (v ∷ filter (is_row t key) vs) (filter (is_row t key) vs) y) h in
    let rest : Each (λ (v : Version). is_row t key v ≡ true → Precedes v.standing s) vs = all_upto g s t key vs (Some v) o.1 l.1 h2 in
    ((λ (y2 : is_row t key v ≡ true). here y rest (filter (is_row t key) vs) refl h2), rest))
    (λ (n : is_row t key v ≡ false).
    let h2 : UptoLast s (last_in best (filter (is_row t key) vs)) = subst (λ (xs : List Version). UptoLast s (last_in best xs)) (cond-false (is_row t key v) (v ∷ filter (is_row t key) vs) (filter (is_row t key) vs) n) h in
    ((λ (y : is_row t key v ≡ true). absurd (false≢true (sym n ∙ y))), all_upto g s t key vs best o.1 l.1 h2))
    (cases_Bool (is_row t key v))
  where
    here : is_row t key v ≡ true → Each (λ (v : Version). is_row t key v ≡ true → Precedes v.standing s) vs → (ys : List Version) → filter (is_row t key) vs ≡ ys → UptoLast s (last_in (Some v) ys) → Precedes v.standing s
    here y rest [] e u = u (and_parts _ _ y).1
    here y rest (w ∷ ws) e u =
        let f : ((λ (x : Version). (same_row v x ≡ true → Behind x.standing v.standing x.snapshot) × (TimedAt g x.snapshot x.standing × (is_row t key x ≡ true → Precedes x.standing s))) w) × (is_row t key w ≡ true) =
        first_in (is_row t key) (λ (x : Version). (same_row v x ≡ true → Behind x.standing v.standing x.snapshot) × (TimedAt g x.snapshot x.standing × (is_row t key x ≡ true → Precedes x.standing s))) vs ws w e
        (each_both _ _ vs o.0 (each_both _ _ vs l.1 rest)) in
        let mine : is_of t key v ≡ true = (and_parts _ _ y).0 in
        let theirs : is_of t key w ≡ true = (and_parts _ _ f.1).0 in
        chain g v.standing w.standing w.snapshot s (and_parts _ _ f.1).1 (f.0.0 (same_row_of t key v w mine theirs)) f.0.1.0 (f.0.1.1 f.1)

past_none : (s : ℕ) (o : Option Version) → is_refusal (past_or s o) ≡ false → UptoLast s o
past_none s None h = tt
past_none s (Some v) h = at v.standing h
  where
    at : (st : VersionState) → is_refusal (past_of s v.by st) ≡ false → is_stamped st ≡ true → Precedes st s
    at Open h t = absurd (false≢true t)
    at (Closed f) h t = absurd (false≢true t)
    at (Stamped n) h t = not_past s v.by n h
    at Dropped h t = absurd (false≢true t)

-- what a Done of Put says of the row's versions
pub put_lets : (e : EngineTable) (tx : Label) (w : Write) → is_standing (opening_of e tx) ≡ true → AllSound e → Ordered e.versions
    → Each (λ (v : Version). TimedAt e.greatest v.snapshot v.standing) e.versions → is_refusal (put_answer e tx w) ≡ false
    → Each (λ (v : Version). is_of w.table w.key v ≡ true → (same_label tx v.by && is_open v.standing) ≡ false → Precedes v.standing (snapshot_of e tx)) e.versions
put_lets e tx w m sound ordered timed h =
    let parts : (find (is_rival tx w) e.versions ≡ None) × (is_refusal (past_or (snapshot_of e tx) (last_in None (filter (is_row w.table w.key) e.versions))) ≡ false) = no_conflict (find (is_rival tx w) e.versions) (past_or (snapshot_of e tx) (last_in None (filter (is_row w.table w.key) e.versions))) h in
    let rivals : Each (λ v. is_rival tx w v ≡ false) e.versions = find_none (is_rival tx w) e.versions parts.0 in
    let stamped : Each (λ (v : Version). is_row w.table w.key v ≡ true → Precedes v.standing (snapshot_of e tx)) e.versions =
    all_upto e.greatest (snapshot_of e tx) w.table w.key e.versions None ordered timed (past_none (snapshot_of e tx) _ parts.1) in
    each_weaker _ _ (λ v k i f. at v i f k.0 k.1.0 k.1.1) e.versions (each_both _ _ e.versions rivals (each_both _ _ e.versions stamped sound))
  where
    own : (v : Version) → is_of w.table w.key v ≡ true → is_rival tx w v ≡ false → is_undecided v.standing ≡ true → same_label tx v.by ≡ true
    own v i r u = ⊎_elim (λ (t : same_label tx v.by ≡ true). t)
        (λ (f : same_label tx v.by ≡ false). absurd (false≢true (sym r ∙ and_from _ _ i (and_from _ _ (ap not f) u))))
        (cases_Bool (same_label tx v.by))

    at : (v : Version) → is_of w.table w.key v ≡ true → (same_label tx v.by && is_open v.standing) ≡ false → is_rival tx w v ≡ false
        → (is_row w.table w.key v ≡ true → Precedes v.standing (snapshot_of e tx)) → Sound e.openings v → Precedes v.standing (snapshot_of e tx)
    at v i f r given so = go v.standing refl
      where
        go : (st : VersionState) → v.standing ≡ st → Precedes v.standing (snapshot_of e tx)
        go Open q = absurd (false≢true (sym f ∙ and_from _ _ (own v i r (ap is_undecided q)) (ap is_open q)))
        go (Closed g) q = absurd (no_closed tx e.openings v m so (own v i r (ap is_undecided q)) g q)
        go (Stamped n) q = given (and_from _ _ i (ap is_stamped q))
        go Dropped q = rw q tt

timed_more : (g h s : ℕ) (st : VersionState) → g ≤ h → TimedAt g s st → TimedAt h s st
timed_more g h s Open l t = omega arith
timed_more g h s (Closed f) l t = t
timed_more g h s (Stamped n) l t = t
timed_more g h s Dropped l t = tt

timed_restood : (g : ℕ) (tx : Label) (st : VersionState) (v : Version) → (same_label tx v.by ≡ true → is_undecided v.standing ≡ true → TimedAt g v.snapshot st)
    → TimedAt g v.snapshot v.standing → TimedAt g (restood tx st v).snapshot (restood tx st v).standing
timed_restood g tx st v new old = cond_both (same_label tx v.by && is_undecided v.standing) (record v { standing = st }) v (λ (x : Version). TimedAt g x.snapshot x.standing)
    (λ e. new (and_parts _ _ e).0 (and_parts _ _ e).1) (λ e. old)

-- a close: the version was open
timed_close : (g : ℕ) (tx : Label) (os : Openings) (v : Version) → is_standing (opening_in tx os) ≡ true → Sound os v → TimedAt g v.snapshot v.standing
    → same_label tx v.by ≡ true → is_undecided v.standing ≡ true → TimedAt g v.snapshot (Closed g)
timed_close g tx os v m so t same u = at v.standing refl t
  where
    at : (st : VersionState) → v.standing ≡ st → TimedAt g v.snapshot st → v.snapshot ≤ g
    at Open q t = t
    at (Closed f) q t = absurd (no_closed tx os v m so same f q)
    at (Stamped n) q t = absurd (false≢true (sym (ap is_undecided q) ∙ u))
    at Dropped q t = absurd (false≢true (sym (ap is_undecided q) ∙ u))

-- a stamp: the version was closed with a floor below the number
timed_stamp : (g n : ℕ) (tx : Label) (os : Openings) (v : Version) → is_closed (opening_in tx os) ≡ true → floor_of (opening_in tx os) < n → Sound os v → TimedAt g v.snapshot v.standing
    → same_label tx v.by ≡ true → is_undecided v.standing ≡ true → TimedAt g v.snapshot (Stamped n)
timed_stamp g n tx os v c l so t same u = at (opening_in tx os) v.standing c l (subst (λ (x : Label). Stands (opening_in x os) v.standing) (sym (same_is tx v.by same)) so) t u
  where
    at : (o : Option Opening) (st : VersionState) → is_closed o ≡ true → floor_of o < n → Stands o st → TimedAt g v.snapshot st → is_undecided st ≡ true → v.snapshot < n
    at None st c l so t u = absurd (false≢true c)
    at (Some o) Open c l so t u = absurd (false≢true (sym (ap (λ (x : Option ℕ). is_some x) so) ∙ c))
    at (Some o) (Closed f) c l so t u =
        let same : floor_of (Some o) ≡ f = rw (so, floor_of) refl in
        omega arith
    at (Some o) (Stamped i) c l so t u = absurd (false≢true u)
    at (Some o) Dropped c l so t u = absurd (false≢true u)

good_end : (e : EngineTable) (tx : Label) (st : VersionState) → Good e → Each (Sound (without_opening tx e.openings)) (restand tx st e.versions)
    → Each (λ (v : Version). same_label tx v.by ≡ true → is_undecided v.standing ≡ true → TimedAt e.greatest v.snapshot st) e.versions
    → (stamped : List (ℕ × Label)) (voided : List ℕ)
    → Good (record e { versions = restand tx st e.versions; openings = without_opening tx e.openings; stamped = stamped; voided = voided })
good_end e tx st h so t stamped voided = record {
  sound = so;
  ordered = ordered_restand tx st e.versions h.ordered;
  timed = each_map_from _ (λ (v : Version). TimedAt e.greatest v.snapshot v.standing) (restood tx st) (λ v k. timed_restood e.greatest tx st v k.0 k.1) e.versions (each_both _ _ e.versions t h.timed);
  opens = openings_without (λ (o : Option Opening). snapshot_in o ≤ e.greatest) tx e.openings (omega arith) h.opens;
}

dropped_timed : (g : ℕ) (tx : Label) (vs : List Version) → Each (λ (v : Version). same_label tx v.by ≡ true → is_undecided v.standing ≡ true → TimedAt g v.snapshot Dropped) vs
dropped_timed g tx [] = tt
dropped_timed g tx (v ∷ vs) = ((λ a b. tt), dropped_timed g tx vs)

pub good_change : (e : EngineTable) (c : EngineCall) → may e c ≡ true → is_refusal (answer_of e c) ≡ false → Good e → Good (change e c)
good_change e (call.Open tx s) m r h =
    let l : e.greatest ≤ max e.greatest s = omega arith in
    record {
      sound = sound_change e (call.Open tx s) m h.sound;
      ordered = h.ordered;
      timed = each_weaker (λ (v : Version). TimedAt e.greatest v.snapshot v.standing) (λ (v : Version). TimedAt (max e.greatest s) v.snapshot v.standing) (λ (v : Version) k. timed_more e.greatest (max e.greatest s) v.snapshot v.standing l k) e.versions h.timed;
      opens = openings_put (λ (o : Option Opening). snapshot_in o ≤ max e.greatest s) tx (opening_at s) e.openings (omega arith) (λ l. let k : snapshot_of e l ≤ e.greatest = h.opens l in omega arith);
    }
good_change e (call.Get tx t key) m r h = h
good_change e (call.Scan tx t) m r h = h
good_change e (call.Put tx u key row) m r h = record {
  sound = sound_change e (call.Put tx u key row) m h.sound;
  ordered = ordered_put tx (snapshot_of e tx) (write_at u key row) e.versions (put_lets e tx (write_at u key row) (put_standing e tx u key row m) h.sound h.ordered h.timed r) h.ordered;
  timed = each_put (λ (v : Version). TimedAt e.greatest v.snapshot v.standing) (λ (v : Version). TimedAt e.greatest v.snapshot v.standing) tx (snapshot_of e tx) (write_at u key row) (λ v k. k) (λ v t o k. k)
      (h.opens tx) e.versions h.timed;
  opens = h.opens;
}
good_change e (call.Close tx) m r h = record {
  sound = sound_change e (call.Close tx) m h.sound;
  ordered = ordered_restand tx (Closed e.greatest) e.versions h.ordered;
  timed = each_map_from _ (λ (v : Version). TimedAt e.greatest v.snapshot v.standing) (restood tx (Closed e.greatest))
      (λ v k. timed_restood e.greatest tx (Closed e.greatest) v (timed_close e.greatest tx e.openings v m k.0 k.1) k.1) e.versions (each_both _ _ e.versions h.sound h.timed);
  opens = openings_closed (λ (o : Option Opening). snapshot_in o ≤ e.greatest) tx e.greatest (opening_of e tx) e.openings (λ o k. subst (λ (p : Option Opening). snapshot_in p ≤ e.greatest) k (h.opens tx)) h.opens;
}
good_change e (call.Stamp tx n) m r h =
    let parts : (is_closed (opening_of e tx) ≡ true) × ((nat_lt (floor_of (opening_of e tx)) n && not (is_used e n)) ≡ true) = and_parts (is_closed (opening_of e tx)) (nat_lt (floor_of (opening_of e tx)) n && not (is_used e n)) m in
    let l : floor_of (opening_of e tx) < n = ltb-true (floor_of (opening_of e tx)) n (and_parts (nat_lt (floor_of (opening_of e tx)) n) (not (is_used e n)) parts.1).0 in
    good_end e tx (Stamped n) h (sound_change e (call.Stamp tx n) m h.sound)
    (each_weaker _ _ (λ v k. timed_stamp e.greatest n tx e.openings v parts.0 l k.0 k.1) e.versions (each_both _ _ e.versions h.sound h.timed)) _ _
good_change e (call.Void tx n) m r h = good_end e tx Dropped h (sound_change e (call.Void tx n) m h.sound) (dropped_timed e.greatest tx e.versions) _ _
good_change e (call.DropTx tx) m r h = good_end e tx Dropped h (sound_change e (call.DropTx tx) m h.sound) (dropped_timed e.greatest tx e.versions) _ _
good_change e call.Horizon m r h = h
good_change e (call.Records from to) m r h = h
good_change e (call.Purge upto) m r h = record { sound = h.sound; ordered = h.ordered; timed = h.timed; opens = h.opens }

-- every legal journal leaves a good table
pub good_entries : (e : EngineTable) (js : List Entry) → Legal e js → Good e → Good (after_entries e js)
good_entries e [] l h = h
good_entries e (j ∷ js) l h = good_entries (step e j) js l.1 (step_keeps Good e j h (λ m r. good_change e j.call m (answered m r) h))
  where
    answered : may e j.call ≡ true → is_refusal j.reply ≡ false → is_refusal (answer_of e j.call) ≡ false
    answered m r = ⊎_elim
        (λ (d : (may_fail e j.call ≡ true) × (j.reply ≡ Fault fault.Device)). absurd (false≢true (sym r ∙ ap is_refusal d.1)))
        (λ (d : due e j.call ≡ j.reply). ap is_refusal (sym (cond-true (may e j.call) (answer_of e j.call) (empty_of j.call) m) ∙ d) ∙ r)
        l.0

-- one more entry at the end of a legal journal
pub legal_push : (e : EngineTable) (js : List Entry) (j : Entry) → Legal e js → IsReply (after_entries e js) j.call j.reply → Legal e (js ++ j ∷ [])
legal_push e [] j h k = (k, tt)
legal_push e (x ∷ xs) j h k = (h.0, legal_push (step e x) xs j h.1 k)

pub legal_front : (e : EngineTable) (js more : List Entry) → Legal e (js ++ more) → Legal e js × Legal (after_entries e js) more
legal_front e [] more h = (tt, h)
legal_front e (x ∷ xs) more h = let r : Legal (step e x) xs × Legal (after_entries (step e x) xs) more = legal_front (step e x) xs more h.1 in ((h.0, r.0), r.1)

pub good_start : (name : EngineName) (catalog : List Table) (rows : Tables) (start : ℕ) → Good (engine_at name catalog rows start)
good_start name catalog rows start = record { sound = tt; ordered = tt; timed = tt; opens = λ l. omega arith }
