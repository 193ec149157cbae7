-- What a call met that an engine refused.
use Rattle.std.specs.Prelude.{ℕ, Bool, true, false, cond, not, ◌&&◌, ◌≡◌, ◌⊎◌, ◌<◌, ◌==◌, nat_lt, List, [], ◌∷◌, ◌++◌, Option, Some, None}
use Rattle.std.proofs.Common.{refl, sym, ap, subst, ◌∙◌, inl, inr, ⊎_elim}
use Rattle.std.specs.List.{filter, find as find_first}
use Rattle.std.specs.declared.cmp.Ordering.{Ordering}
use Rattle.std.specs.declared.cmp.Ordering.TheVariants.{Less, Equal, Greater}
use Rattle.std.specs.Ordering.{ordering_reverse}
use Rattle.std.proofs.lemmas.Bool.{and_parts, and_from, cases_Bool, false≢true, lt-ltb, ltb-true, eq-eqb, eqb-true, not-true}
use Rattle.sk_rows.specs.declared.value.Value.{Value}
use Rattle.sk_rows.specs.Values.{value_cmp}
use Rattle.sk_rows.specs.Orders.{value_cmp_total}
use Rattle.sk_model.specs.declared.label.Label.{Label}
use Rattle.sk_model.specs.declared.reply.Why.{Why}
use Rattle.sk_model.specs.declared.reply.Why.TheVariants as why
use Rattle.sk_model.specs.declared.call.EngineFault.{EngineFault}
use Rattle.sk_model.specs.declared.call.EngineFault.TheVariants as fault
use Rattle.sk_model.specs.declared.call.EngineReply.{EngineReply}
use Rattle.sk_model.specs.declared.call.EngineReply.TheVariants as answer
use Rattle.sk_model.specs.Database.{RowOf, row_of, table_of}
use Rattle.sk_model.specs.Records.{same_label}
use Rattle.sk_model.specs.Engine.{VersionState, Open, Closed, Stamped, Dropped, Version, EngineTable, is_closed_below, is_undecided, is_stamped, is_of, snapshot_of, write_at}
use Rattle.sk_model.specs.EngineReplies.{is_blocking, seen, is_less, least_key, last_in, busy_or, got, scanned, why_undecided, past_of, past_or, conflict_or, is_rival, put_answer}
use Rattle.sk_model.proofs.Lists.{Each, each_weaker}
use Rattle.sk_model.proofs.Lookups.{hits_is}
use Rattle.sk_linked.specs.Traces.{In}
use Rattle.sk_linked.specs.Causes.{Rival, NoneUndecided, InTheWay, Holds, Blocks}
use Rattle.sk_linked.proofs.Members.{each_in}

fault_is : {f g : EngineFault} → ◌≡◌ {A = EngineReply} (answer.Fault f) (answer.Fault g) → f ≡ g
fault_is e = cc

-- ---- what is found

some_is : {X : Type 0} {x y : X} → ◌≡◌ {A = Option X} (Some x) (Some y) → x ≡ y
some_is e = cc

find_in : {X : Type 0} (p : X → Bool) (xs : List X) (x : X) → find_first p xs ≡ Some x → In x xs × (p x ≡ true)
find_in p [] x e = absurd cc
find_in p (y ∷ ys) x e = go (p y) refl (λ k. find_in p ys x k) e
  where
    go : (b : Bool) → p y ≡ b → (find_first p ys ≡ Some x → In x ys × (p x ≡ true)) → cond b (Some y) (find_first p ys) ≡ Some x → In x (y ∷ ys) × (p x ≡ true)
    go true t ih e = let same : y ≡ x = some_is e in (inl (sym same), subst (λ z. p z ≡ true) same t)
    go false t ih e = let k : In x ys × (p x ≡ true) = ih e in (inr k.0, k.1)

find_none : {X : Type 0} (p : X → Bool) (xs : List X) → find_first p xs ≡ None → Each (λ x. p x ≡ false) xs
find_none p [] e = tt
find_none p (x ∷ xs) e = go (p x) refl (λ k. find_none p xs k) e
  where
    go : (b : Bool) → p x ≡ b → (find_first p xs ≡ None → Each (λ x. p x ≡ false) xs) → cond b (Some x) (find_first p xs) ≡ None → Each (λ x. p x ≡ false) (x ∷ xs)
    go true t ih e = absurd cc
    go false t ih e = (t, ih e)

pub filter_in : {X : Type 0} (p : X → Bool) (xs : List X) (x : X) → In x (filter p xs) → In x xs × (p x ≡ true)
filter_in p [] x i = absurd i
filter_in p (y ∷ ys) x i = go (p y) refl (λ k. filter_in p ys x k) i
  where
    go : (b : Bool) → p y ≡ b → (In x (filter p ys) → In x ys × (p x ≡ true)) → In x (cond b (y ∷ filter p ys) (filter p ys)) → In x (y ∷ ys) × (p x ≡ true)
    go true t ih i = ⊎_elim
        (λ (e : x ≡ y). (inl e, ap p e ∙ t))
        (λ (k : In x (filter p ys)). let j : In x ys × (p x ≡ true) = ih k in (inr j.0, j.1))
        i
    go false t ih i = let j : In x ys × (p x ≡ true) = ih i in (inr j.0, j.1)

in_filter : {X : Type 0} (p : X → Bool) (xs : List X) (x : X) → In x xs → p x ≡ true → In x (filter p xs)
in_filter p [] x i t = absurd i
in_filter p (y ∷ ys) x i t = go (p y) refl (λ k. in_filter p ys x k t) i
  where
    go : (b : Bool) → p y ≡ b → (In x ys → In x (filter p ys)) → In x (y ∷ ys) → In x (cond b (y ∷ filter p ys) (filter p ys))
    go true q ih i = ⊎_elim (λ (e : x ≡ y). inl e) (λ (k : In x ys). inr (ih k)) i
    go false q ih i = ⊎_elim (λ (e : x ≡ y). absurd (false≢true (sym q ∙ ap p (sym e) ∙ t))) (λ (k : In x ys). ih k) i

-- the last that passes, and none behind it
record LastOf {X : Type 0} (p : X → Bool) (xs : List X) (x : X) : Type 0 where
  front : List X
  back : List X
  is : xs ≡ front ++ x ∷ back
  passes : p x ≡ true
  none : Each (λ y. p y ≡ false) back

last_found : {X : Type 0} (p : X → Bool) (best : Option X) (xs : List X) (x : X) → last_in best (filter p xs) ≡ Some x → ((best ≡ Some x) × Each (λ y. p y ≡ false) xs) ⊎ LastOf p xs x
last_found p best [] x e = inl (e, tt)
last_found {X} p best (y ∷ ys) x e = go (p y) refl (λ best k. last_found p best ys x k) e
  where
    go : (b : Bool) → p y ≡ b → ((best : Option X) → last_in best (filter p ys) ≡ Some x → ((best ≡ Some x) × Each (λ y. p y ≡ false) ys) ⊎ LastOf p ys x)
        → last_in best (cond b (y ∷ filter p ys) (filter p ys)) ≡ Some x → ((best ≡ Some x) × Each (λ y. p y ≡ false) (y ∷ ys)) ⊎ LastOf p (y ∷ ys) x
    go true t ih e = ⊎_elim
        (λ (k : (◌≡◌ {A = Option X} (Some y) (Some x)) × Each (λ z. p z ≡ false) ys). let same : y ≡ x = some_is k.0 in inr (record { front = []; back = ys; is = ap (λ z. z ∷ ys) same; passes = ap p (sym same) ∙ t; none = k.1 }))
        (λ (k : LastOf p ys x). inr (record { front = y ∷ k.front; back = k.back; is = ap (λ zs. y ∷ zs) k.is; passes = k.passes; none = k.none }))
        (ih (Some y) e)
    go false t ih e = ⊎_elim
        (λ (k : (best ≡ Some x) × Each (λ z. p z ≡ false) ys). inl (k.0, (t, k.1)))
        (λ (k : LastOf p ys x). inr (record { front = y ∷ k.front; back = k.back; is = ap (λ zs. y ∷ zs) k.is; passes = k.passes; none = k.none }))
        (ih best e)

-- ---- the first key

not_less_itself : (x : Value) → is_less (value_cmp x x) ≡ false
not_less_itself x = go (value_cmp x x) (value_cmp_total.antisymm x x)
  where
    go : (o : Ordering) → o ≡ ordering_reverse o → is_less o ≡ false
    go Less e = absurd cc
    go Equal e = refl
    go Greater e = refl

less_is : (o : Ordering) → is_less o ≡ true → o ≡ Less
less_is Less e = refl
less_is Equal e = absurd (false≢true e)
less_is Greater e = absurd (false≢true e)

-- what is not before one that is not before a third is not before the third
not_less_trans : (x w v : Value) → is_less (value_cmp x w) ≡ false → is_less (value_cmp w v) ≡ false → is_less (value_cmp x v) ≡ false
not_less_trans x w v h k = ⊎_elim
    (λ (t : is_less (value_cmp x v) ≡ true). absurd (false≢true (sym h ∙ ap is_less (before (value_cmp w v) refl (less_is (value_cmp x v) t)))))
    (λ (f : is_less (value_cmp x v) ≡ false). f)
    (cases_Bool (is_less (value_cmp x v)))
  where
    before : (o : Ordering) → value_cmp w v ≡ o → value_cmp x v ≡ Less → value_cmp x w ≡ Less
    before Less e l = absurd (false≢true (sym k ∙ ap is_less e))
    before Equal e l = value_cmp_total.antisymm x w ∙ ap ordering_reverse (value_cmp_total.congr w v x e ∙ value_cmp_total.antisymm v x ∙ ap ordering_reverse l)
    before Greater e l = value_cmp_total.trans x v w l (value_cmp_total.antisymm v w ∙ ap ordering_reverse e)

after_less : (x w v : Value) → is_less (value_cmp x w) ≡ true → is_less (value_cmp x v) ≡ false → is_less (value_cmp w v) ≡ false
after_less x w v l n = ⊎_elim
    (λ (t : is_less (value_cmp w v) ≡ true). absurd (false≢true (sym n ∙ ap is_less (value_cmp_total.trans x w v (less_is (value_cmp x w) l) (less_is (value_cmp w v) t)))))
    (λ (f : is_less (value_cmp w v) ≡ false). f)
    (cases_Bool (is_less (value_cmp w v)))

least_found : (w : Version) (vs : List Version) (v : Version) → least_key (Some w) vs ≡ Some v → ((v ≡ w) ⊎ In v vs) × ((is_less (value_cmp w.write.key v.write.key) ≡ false) × Each (λ (u : Version). is_less (value_cmp u.write.key v.write.key) ≡ false) vs)
least_found w [] v e = let same : w ≡ v = some_is e in (inl (sym same), (subst (λ (x : Version). is_less (value_cmp w.write.key x.write.key) ≡ false) same (not_less_itself w.write.key), tt))
least_found w (u ∷ vs) v e = go (is_less (value_cmp u.write.key w.write.key)) refl (λ x k. least_found x vs v k) e
  where
    go : (b : Bool) → is_less (value_cmp u.write.key w.write.key) ≡ b
        → ((x : Version) → least_key (Some x) vs ≡ Some v → ((v ≡ x) ⊎ In v vs) × ((is_less (value_cmp x.write.key v.write.key) ≡ false) × Each (λ (u : Version). is_less (value_cmp u.write.key v.write.key) ≡ false) vs))
        → least_key (Some (cond b u w)) vs ≡ Some v → ((v ≡ w) ⊎ In v (u ∷ vs)) × ((is_less (value_cmp w.write.key v.write.key) ≡ false) × Each (λ (u : Version). is_less (value_cmp u.write.key v.write.key) ≡ false) (u ∷ vs))
    go true t ih e =
        let k : ((v ≡ u) ⊎ In v vs) × ((is_less (value_cmp u.write.key v.write.key) ≡ false) × Each (λ (u : Version). is_less (value_cmp u.write.key v.write.key) ≡ false) vs) = ih u e in
        (inr k.0, (after_less u.write.key w.write.key v.write.key t k.1.0, (k.1.0, k.1.1)))
    go false t ih e =
        let k : ((v ≡ w) ⊎ In v vs) × ((is_less (value_cmp w.write.key v.write.key) ≡ false) × Each (λ (u : Version). is_less (value_cmp u.write.key v.write.key) ≡ false) vs) = ih w e in
        (⊎_elim (λ (q : v ≡ w). inl q) (λ (q : In v vs). inr (inr q)) k.0, (k.1.0, (not_less_trans u.write.key w.write.key v.write.key t k.1.0, k.1.1)))

least_first : (vs : List Version) (v : Version) → least_key None vs ≡ Some v → In v vs × Each (λ (u : Version). is_less (value_cmp u.write.key v.write.key) ≡ false) vs
least_first [] v e = absurd cc
least_first (w ∷ vs) v e = let k = least_found w vs v e in (k.0, k.1)

-- ---- the causes in one engine

module _ (e : EngineTable) (tx : Label) where
  holds_of : (t : ℕ) (v : Version) → v.write.table ≡ t → is_blocking tx (snapshot_of e tx) v ≡ true → Holds e tx t v
  holds_of t v table b = go v.standing refl (and_parts _ _ b).1
    where
      go : (s : VersionState) → v.standing ≡ s → is_closed_below (snapshot_of e tx) s ≡ true → Holds e tx t v
      go (Closed f) is k = record { table = table; apart = not-true _ (and_parts _ _ b).0; floor = f; closed = is; below = ltb-true f (snapshot_of e tx) k }
      go Open is k = absurd (false≢true k)
      go (Stamped n) is k = absurd (false≢true k)
      go Dropped is k = absurd (false≢true k)

  blocks_of : (t : ℕ) (v : Version) → Holds e tx t v → is_blocking tx (snapshot_of e tx) v ≡ true
  blocks_of t v h = and_from _ _ (ap not h.apart) (ap (is_closed_below (snapshot_of e tx)) h.closed ∙ lt-ltb h.floor (snapshot_of e tx) h.below)

  pub get_met : (t : ℕ) (key : Value) (f : EngineFault) → got e tx t key ≡ answer.Fault f → (by : Label) × (f ≡ fault.Busy by) × Blocks e tx t (Some key) by
  get_met t key f r = go (find_first (λ v. is_of t key v && is_blocking tx (snapshot_of e tx) v) e.versions) refl r
    where
      go : (o : Option Version) → find_first (λ v. is_of t key v && is_blocking tx (snapshot_of e tx) v) e.versions ≡ o → busy_or o (answer.Found (row_of (seen e tx (snapshot_of e tx)) t key)) ≡ answer.Fault f → (by : Label) × (f ≡ fault.Busy by) × Blocks e tx t (Some key) by
      go None q r = absurd cc
      go (Some v) q r =
          let found : In v e.versions × ((is_of t key v && is_blocking tx (snapshot_of e tx) v) ≡ true) = find_in _ e.versions v q in
          let row : (t ≡ v.write.table) × (key ≡ v.write.key) = hits_is t key v.write (and_parts _ _ found.1).0 in (
            v.by,
            sym (fault_is r),
            record {
              version = v;
              among = found.0;
              read = sym row.1;
              holds = holds_of t v (sym row.0) (and_parts _ _ found.1).1;
              author = refl;
              first = λ u i k h. ap (λ x. is_less (value_cmp x v.write.key)) k ∙ ap (λ x. is_less (value_cmp key x)) (sym row.1) ∙ not_less_itself key;
            },
          )

  pub scan_met : (t : ℕ) (f : EngineFault) → scanned e tx t ≡ answer.Fault f → (by : Label) × (f ≡ fault.Busy by) × Blocks e tx t None by
  scan_met t f r = go (least_key None (filter (λ v. (v.write.table == t) && is_blocking tx (snapshot_of e tx) v) e.versions)) refl r
    where
      go : (o : Option Version) → least_key None (filter (λ v. (v.write.table == t) && is_blocking tx (snapshot_of e tx) v) e.versions) ≡ o → busy_or o (answer.Rows (table_of (seen e tx (snapshot_of e tx)) t)) ≡ answer.Fault f → (by : Label) × (f ≡ fault.Busy by) × Blocks e tx t None by
      go None q r = absurd cc
      go (Some v) q r =
          let least : In v (filter (λ v. (v.write.table == t) && is_blocking tx (snapshot_of e tx) v) e.versions) × Each (λ (u : Version). is_less (value_cmp u.write.key v.write.key) ≡ false) (filter (λ v. (v.write.table == t) && is_blocking tx (snapshot_of e tx) v) e.versions) = least_first _ v q in
          let found : In v e.versions × (((v.write.table == t) && is_blocking tx (snapshot_of e tx) v) ≡ true) = filter_in _ e.versions v least.0 in (
            v.by,
            sym (fault_is r),
            record {
              version = v;
              among = found.0;
              read = tt;
              holds = holds_of t v (eqb-true v.write.table t (and_parts _ _ found.1).0) (and_parts _ _ found.1).1;
              author = refl;
              first = λ u i k h. each_in _ _ u least.1 (in_filter _ e.versions u i (and_from _ _ (eq-eqb u.write.table t h.table) (blocks_of t u h)));
            },
          )

  pub open_met : (s : ℕ) (f : EngineFault) → cond (nat_lt s e.purged) (answer.Fault (fault.Old s e.purged)) answer.Done ≡ answer.Fault f → (f ≡ fault.Old s e.purged) × (s < e.purged)
  open_met s f r = ⊎_elim
      (λ (t : nat_lt s e.purged ≡ true). (sym (fault_is (sym (ap (λ b. cond b (answer.Fault (fault.Old s e.purged)) answer.Done) t) ∙ r)), ltb-true s e.purged t))
      (λ (k : nat_lt s e.purged ≡ false). absurd (done_fault (sym (ap (λ b. cond b (answer.Fault (fault.Old s e.purged)) answer.Done) k) ∙ r)))
      (cases_Bool (nat_lt s e.purged))
    where
      done_fault : ◌≡◌ {A = EngineReply} answer.Done (answer.Fault f) → ⊥
      done_fault q = cc

  pub put_met : (t : ℕ) (key : Value) (row : Option RowOf) (f : EngineFault) → put_answer e tx (write_at t key row) ≡ answer.Fault f → (by : Label) × (reason : Why) × (f ≡ fault.Conflict by reason) × InTheWay e tx t key by reason
  put_met t key row f r = go (find_first (is_rival tx (write_at t key row)) e.versions) refl r
    where
      undecided : find_first (is_rival tx (write_at t key row)) e.versions ≡ None → NoneUndecided e tx t key
      undecided q = each_weaker _ _ (λ v n of apart. free (is_undecided v.standing) (sym (ap (λ b. b && (not (same_label tx v.by) && is_undecided v.standing)) of ∙ ap (λ b. not b && is_undecided v.standing) apart) ∙ n)) e.versions (find_none (is_rival tx (write_at t key row)) e.versions q)
        where
          free : (b : Bool) → b ≡ false → b ≡ false
          free b h = h

      past : (o : Option Version) → NoneUndecided e tx t key → last_in None (filter (λ v. is_of t key v && is_stamped v.standing) e.versions) ≡ o → past_or (snapshot_of e tx) o ≡ answer.Fault f → (by : Label) × (reason : Why) × (f ≡ fault.Conflict by reason) × InTheWay e tx t key by reason
      past None none q r = absurd cc
      past (Some v) none q r = ⊎_elim
          (λ (k : (◌≡◌ {A = Option Version} None (Some v)) × _). absurd (no_some k.0))
          (λ (k : LastOf (λ v. is_of t key v && is_stamped v.standing) e.versions v). stamped k v.standing refl r)
          (last_found (λ v. is_of t key v && is_stamped v.standing) None e.versions v q)
        where
          no_some : ◌≡◌ {A = Option Version} None (Some v) → ⊥
          no_some k = cc

          stamped : LastOf (λ v. is_of t key v && is_stamped v.standing) e.versions v → (s : VersionState) → v.standing ≡ s → past_of (snapshot_of e tx) v.by s ≡ answer.Fault f → (by : Label) × (reason : Why) × (f ≡ fault.Conflict by reason) × InTheWay e tx t key by reason
          stamped k Open is r = absurd cc
          stamped k (Closed floor) is r = absurd cc
          stamped k Dropped is r = absurd cc
          stamped k (Stamped n) is r = ⊎_elim
              (λ (l : nat_lt (snapshot_of e tx) n ≡ true). (
                v.by,
                why.Past n (snapshot_of e tx),
                sym (fault_is (sym (ap (λ b. cond b (answer.Fault (fault.Conflict v.by (why.Past n (snapshot_of e tx)))) answer.Done) l) ∙ r)),
                (
                  none,
                  record { version = v; older = k.front; newer = k.back; is = k.is; row = (and_parts _ _ k.passes).0; author = refl; number = is; last = k.none },
                  refl,
                  ltb-true (snapshot_of e tx) n l,
                ),
              ))
              (λ (l : nat_lt (snapshot_of e tx) n ≡ false). absurd (done_fault (sym (ap (λ b. cond b (answer.Fault (fault.Conflict v.by (why.Past n (snapshot_of e tx)))) answer.Done) l) ∙ r)))
              (cases_Bool (nat_lt (snapshot_of e tx) n))
            where
              done_fault : ◌≡◌ {A = EngineReply} answer.Done (answer.Fault f) → ⊥
              done_fault q = cc

      go : (o : Option Version) → find_first (is_rival tx (write_at t key row)) e.versions ≡ o → conflict_or o (past_or (snapshot_of e tx) (last_in None (filter (λ v. is_of t key v && is_stamped v.standing) e.versions))) ≡ answer.Fault f
          → (by : Label) × (reason : Why) × (f ≡ fault.Conflict by reason) × InTheWay e tx t key by reason
      go None q r = past (last_in None (filter (λ v. is_of t key v && is_stamped v.standing) e.versions)) (undecided q) refl r
      go (Some v) q r = standing v.standing refl others.1 r
        where
          found : In v e.versions × (is_rival tx (write_at t key row) v ≡ true)
          found = find_in (is_rival tx (write_at t key row)) e.versions v q

          parts : (is_of t key v ≡ true) × ((not (same_label tx v.by) && is_undecided v.standing) ≡ true)
          parts = and_parts (is_of t key v) (not (same_label tx v.by) && is_undecided v.standing) found.1

          others : (not (same_label tx v.by) ≡ true) × (is_undecided v.standing ≡ true)
          others = and_parts (not (same_label tx v.by)) (is_undecided v.standing) parts.1

          rival : Rival e tx t key v.by
          rival = record { version = v; among = found.0; row = parts.0; author = refl; apart = not-true (same_label tx v.by) others.0 }

          standing : (s : VersionState) → v.standing ≡ s → is_undecided s ≡ true → answer.Fault (fault.Conflict v.by (why_undecided v.standing)) ≡ answer.Fault f → (by : Label) × (reason : Why) × (f ≡ fault.Conflict by reason) × InTheWay e tx t key by reason
          standing Open is u r = (v.by, why.Open, sym (fault_is r) ∙ ap (λ s. fault.Conflict v.by (why_undecided s)) is, (rival, is))
          standing (Closed floor) is u r = (v.by, why.Closed, sym (fault_is r) ∙ ap (λ s. fault.Conflict v.by (why_undecided s)) is, (rival, floor, is))
          standing (Stamped n) is u r = absurd (false≢true u)
          standing Dropped is u r = absurd (false≢true u)
