-- A write: whom it meets, and what it leaves.
use Rattle.std.specs.Prelude.{◌≡◌, ℕ, ◌≤◌, List, [], ◌∷◌, ◌++◌, Option, Some, None, Bool, true, false, cond, not, ◌&&◌, ◌||◌, ◌==◌, nat_lt, map, IfSome}
use Rattle.std.proofs.Common.{refl, sym, ap, subst, ◌∙◌, ⊎_elim}
use Rattle.std.specs.Option.{option_map}
use Rattle.std.specs.List.{filter, find}
use Rattle.std.proofs.lemmas.Bool.{cases_Bool, cond-true, cond-false, false≢true, and_parts, and_from}
use Rattle.std.specs.Ordering.{eq_by_cmp}
use Rattle.std.proofs.Math.Bool.{or-false, or-true}
use Rattle.sk_rows.specs.declared.value.Value.{Value}
use Rattle.sk_rows.specs.Values.{value_cmp}
use Rattle.sk_model.specs.declared.label.Label.{Label}
use Rattle.sk_model.specs.declared.commit.Write.{Write}
use Rattle.sk_model.specs.declared.call.EngineCall.TheVariants as call
use Rattle.sk_model.specs.declared.call.EngineFault.TheVariants as fault
use Rattle.sk_model.specs.declared.call.EngineReply.{EngineReply}
use Rattle.sk_model.specs.declared.call.EngineReply.TheVariants.{Done, Fault}
use Rattle.sk_model.specs.declared.reply.Why.TheVariants as why
use Rattle.sk_model.specs.Database.{RowOf, hits, row_of}
use Rattle.sk_model.specs.Records.{same_label}
use Rattle.sk_model.specs.Engine.{EngineTable, Version, VersionState as TableState, Open, Closed, Stamped, Dropped, is_of, is_open, is_stamped, is_undecided, snapshot_of, write_at}
use Rattle.sk_model.specs.Engine.{Opening as Opened}
use Rattle.sk_model.specs.EngineReplies.{is_rival, put_answer, last_in, past_or, conflict_or, why_undecided}
use Rattle.sk_model.specs.EngineReplies.{past_of as model_past}
use Rattle.sk_model.specs.EngineChanges.{put_version, change}
use Rattle.sk_model.proofs.Labels.{same_is, same_itself}
use Rattle.sk_model.proofs.Lists.{Each, each_weaker}
use Rattle.sk_model.proofs.Lookups.{hits_is, hits_itself}
use Rattle.sk_chain.specs.declared.version.VersionState.TheVariants as state
use Rattle.sk_chain.specs.declared.version.Blocked.{Blocked}
use Rattle.sk_chain.specs.declared.version.Version.{Version as ChainVersion}
use Rattle.sk_chain.specs.Chained.{Chained}
use Rattle.sk_chain.specs.Writing.{past_of, past_state, conflict, rival_or, why_of, is_by}
use Rattle.sk_chain.specs.Changing.{pushed, may_push}
use Rattle.sk_chain.specs.Changing.{is_open as chain_open}
use Rattle.sk_engine.specs.declared.row_id.RowId.{RowId}
use Rattle.sk_engine.specs.Rows.{Chains, is_row_id, is_among}
use Rattle.sk_engine.specs.Stands.{Held, timed, wrote_by, state_by, noted, is_live, row_versions, state_of, as_chain, some_chain, listed, RowIs, Stands}
use Rattle.sk_engine.proofs.Reading.{find_in_row, find_past}
use Rattle.sk_engine.proofs.RowIds.{row_id_is, among_one_more}

-- ---- whom it meets

filter_pick : (b q l : Bool) (v : Version) (rest xs : List Version) (p : Version → Bool) → (q ≡ true → l ≡ true) → p v ≡ q → xs ≡ filter p rest
    → cond (b && q) (v ∷ xs) xs ≡ filter p (cond (b && l) (v ∷ rest) rest)
filter_pick true true true v rest xs p h e i = ap (λ ys. v ∷ ys) i ∙ sym (cond-true (p v) (v ∷ filter p rest) (filter p rest) e)
filter_pick true true false v rest xs p h e i = absurd (false≢true (h refl))
filter_pick true false true v rest xs p h e i = i ∙ sym (cond-false (p v) (v ∷ filter p rest) (filter p rest) e)
filter_pick true false false v rest xs p h e i = i
filter_pick false q l v rest xs p h e i = i

pub filter_in_row : (t : ℕ) (key : Value) (p : Version → Bool) → ((v : Version) → p v ≡ true → is_live v.standing ≡ true) → (vs : List Version)
    → filter (λ v. is_of t key v && p v) vs ≡ filter p (row_versions t key vs)
filter_in_row t key p h [] = refl
filter_in_row t key p h (v ∷ vs) =
    filter_pick (is_of t key v) (p v) (is_live v.standing) v (row_versions t key vs) (filter (λ v. is_of t key v && p v) vs) p (h v) refl (filter_in_row t key p h vs)

abbrev pub blocked_reply : Option Blocked → EngineReply
blocked_reply None = Done
blocked_reply (Some b) = Fault (fault.Conflict b.by b.why)

keep_all : (xs : List Version) (u : Option Version) → Each (λ (v : Version). is_stamped v.standing ≡ true) xs → IfSome u (λ v. is_undecided v.standing ≡ true) → filter (λ v. is_stamped v.standing) (xs ++ listed u) ≡ xs
keep_all [] None h k = refl
keep_all [] (Some v) h k = cond-false (is_stamped v.standing) (v ∷ []) [] (not_stamped v.standing k)
  where
    not_stamped : (st : TableState) → is_undecided st ≡ true → is_stamped st ≡ false
    not_stamped Open e = refl
    not_stamped (Closed f) e = refl
    not_stamped (Stamped n) e = absurd (false≢true e)
    not_stamped Dropped e = refl
keep_all (x ∷ xs) u h k =
    cond-true (is_stamped x.standing) (x ∷ filter (λ v. is_stamped v.standing) (xs ++ listed u)) (filter (λ v. is_stamped v.standing) (xs ++ listed u)) h.0 ∙ ap (λ ys. x ∷ ys) (keep_all xs u h.1 k)

past_step : (s : ℕ) (by : Label) (st : TableState) → model_past s by st ≡ blocked_reply (past_state s by (state_of st))
past_step s by Open = refl
past_step s by (Closed f) = refl
past_step s by (Stamped n) = go (nat_lt s n)
  where
    go : (b : Bool) → cond b (Fault (fault.Conflict by (why.Past n s))) Done ≡ blocked_reply (cond b (Some (record { by = by; why = why.Past n s })) None)
    go true = refl
    go false = refl
past_step s by Dropped = refl

past_last : (s : ℕ) (b : Option Version) (xs : List Version) → past_or s (last_in b xs) ≡ blocked_reply (past_of s (last_in (some_chain b) (map as_chain xs)))
past_last s None [] = refl
past_last s (Some v) [] = past_step s v.by v.standing
past_last s b (x ∷ xs) = past_last s (Some x) xs

rival_stamped : (b : Bool) (st : TableState) → is_stamped st ≡ true → (b && is_undecided st) ≡ false
rival_stamped b Open e = absurd (false≢true e)
rival_stamped b (Closed f) e = absurd (false≢true e)
rival_stamped true (Stamped n) e = refl
rival_stamped false (Stamped n) e = refl
rival_stamped b Dropped e = absurd (false≢true e)

rival_live : (b : Bool) (st : TableState) → (b && is_undecided st) ≡ true → is_live st ≡ true
rival_live b Open e = refl
rival_live b (Closed f) e = refl
rival_live b (Stamped n) e = refl
rival_live true Dropped e = e
rival_live false Dropped e = e

rival_step : (tx : Label) (v : Version) (other : Option Blocked) (b : Bool) (st : TableState) → is_undecided st ≡ true → why_undecided st ≡ why_undecided v.standing
    → conflict_or (cond (not b && is_undecided st) (Some v) None) (blocked_reply other) ≡ blocked_reply (cond b other (Some (record { by = v.by; why = why_of (state_of st) })))
rival_step tx v other true Open u e = refl
rival_step tx v other false Open u e = ap (λ w. Fault (fault.Conflict v.by w)) (sym e)
rival_step tx v other true (Closed f) u e = refl
rival_step tx v other false (Closed f) u e = ap (λ w. Fault (fault.Conflict v.by w)) (sym e)
rival_step tx v other b (Stamped n) u e = absurd (false≢true u)
rival_step tx v other b Dropped u e = absurd (false≢true u)

rivals : (tx : Label) (u : Option Version) (other : Option Blocked) → IfSome u (λ v. is_undecided v.standing ≡ true)
    → conflict_or (find (λ v. not (same_label tx v.by) && is_undecided v.standing) (listed u)) (blocked_reply other) ≡ blocked_reply (rival_or tx (some_chain u) other)
rivals tx None other h = refl
rivals tx (Some v) other h = rival_step tx v other (same_label tx v.by) v.standing h refl

pub put_is : (e : EngineTable) (tx : Label) (s p : ℕ) (w : Write) (r : Option RowOf) (c : Chained) → snapshot_of e tx ≡ s → p ≤ s → RowIs p r (row_versions w.table w.key e.versions) c
    → put_answer e tx w ≡ blocked_reply (conflict c tx s)
put_is e tx s p w r c at le h =
    let split : List Version = h.decided ++ listed h.undecided in
    let test : Version → Bool = λ v. not (same_label tx v.by) && is_undecided v.standing in
    let found : find (is_rival tx w) e.versions ≡ find test (listed h.undecided) =
    find_in_row w.table w.key test (λ v d. rival_live (not (same_label tx v.by)) v.standing d) e.versions ∙ ap (find test) h.all
    ∙ find_past test h.decided (listed h.undecided) (each_weaker (λ (v : Version). is_stamped v.standing ≡ true) (λ v. test v ≡ false) (λ v d. rival_stamped (not (same_label tx v.by)) v.standing d) h.decided h.are_stamped) in
    let stamps : filter (λ v. is_of w.table w.key v && is_stamped v.standing) e.versions ≡ h.decided =
    filter_in_row w.table w.key (λ v. is_stamped v.standing) (λ v d. stamped_live v.standing d) e.versions ∙ ap (filter (λ v. is_stamped v.standing)) h.all ∙ keep_all h.decided h.undecided h.are_stamped h.is_pending in
    ap (λ o. conflict_or o (past_or (snapshot_of e tx) (last_in None (filter (λ v. is_of w.table w.key v && is_stamped v.standing) e.versions)))) found
    ∙ ap (λ xs. conflict_or (find test (listed h.undecided)) (past_or (snapshot_of e tx) (last_in None xs))) stamps
    ∙ ap (λ n. conflict_or (find test (listed h.undecided)) (past_or n (last_in None h.decided))) at
    ∙ ap (conflict_or (find test (listed h.undecided))) (past_last s None h.decided ∙ ap blocked_reply (h.last s le))
    ∙ rivals tx h.undecided (past_of s (last_in None h.kept)) h.is_pending
    ∙ ap (λ c. blocked_reply (conflict c tx s)) (sym h.chain_is)
  where
    stamped_live : (st : TableState) → is_stamped st ≡ true → is_live st ≡ true
    stamped_live Open e = refl
    stamped_live (Closed f) e = refl
    stamped_live (Stamped n) e = refl
    stamped_live Dropped e = absurd (false≢true e)

-- ---- what it leaves

open_live : (st : TableState) → is_open st ≡ true → is_live st ≡ true
open_live Open e = refl
open_live (Closed f) e = refl
open_live (Stamped n) e = refl
open_live Dropped e = absurd (false≢true e)

kept : (h l : Bool) (v : Version) (xs : List Version) → h ≡ true → l ≡ true → cond (h && l) (v ∷ xs) xs ≡ v ∷ xs
kept h l v xs i k = cond-true (h && l) (v ∷ xs) xs (and_from _ _ i k)

dead : (h l : Bool) (v : Version) (xs : List Version) → h ≡ true → l ≡ false → cond (h && l) (v ∷ xs) xs ≡ xs
dead h l v xs i k = ap (λ b. cond (b && l) (v ∷ xs) xs) i ∙ ap (λ b. cond b (v ∷ xs) xs) k

-- its own row
here_step : (tx : Label) (s : ℕ) (w : Write) (v : Version) (vs rest : List Version) (b h l : Bool) → (is_of w.table w.key v && (same_label tx v.by && is_open v.standing)) ≡ b → is_of w.table w.key v ≡ h → is_live v.standing ≡ l
    → rest ≡ row_versions w.table w.key vs → row_versions w.table w.key (put_version tx s w vs) ≡ put_version tx s w rest
    → row_versions w.table w.key (cond b (record v { write = w } ∷ vs) (v ∷ put_version tx s w vs)) ≡ put_version tx s w (cond (h && l) (v ∷ rest) rest)
here_step tx s w v vs rest true true true e i k r ih =
    rw (hits_itself w, k) (ap (λ ys. record v { write = w } ∷ ys) (sym r) ∙ sym (cond-true (is_of w.table w.key v && (same_label tx v.by && is_open v.standing)) (record v { write = w } ∷ rest) (v ∷ put_version tx s w rest) e))
here_step tx s w v vs rest true true false e i k r ih = absurd (false≢true (sym k ∙ open_live v.standing (and_parts _ _ (and_parts _ _ e).1).1))
here_step tx s w v vs rest true false l e i k r ih = absurd (false≢true (sym i ∙ (and_parts _ _ e).0))
here_step tx s w v vs rest false true true e i k r ih =
    kept (is_of w.table w.key v) (is_live v.standing) v (row_versions w.table w.key (put_version tx s w vs)) i k ∙ ap (λ ys. v ∷ ys) ih
    ∙ sym (cond-false (is_of w.table w.key v && (same_label tx v.by && is_open v.standing)) (record v { write = w } ∷ rest) (v ∷ put_version tx s w rest) e)
here_step tx s w v vs rest false true false e i k r ih = dead (is_of w.table w.key v) (is_live v.standing) v (row_versions w.table w.key (put_version tx s w vs)) i k ∙ ih
here_step tx s w v vs rest false false l e i k r ih = ap (λ b. cond (b && is_live v.standing) (v ∷ row_versions w.table w.key (put_version tx s w vs)) (row_versions w.table w.key (put_version tx s w vs))) i ∙ ih

pub put_here : (tx : Label) (s : ℕ) (w : Write) (vs : List Version) → row_versions w.table w.key (put_version tx s w vs) ≡ put_version tx s w (row_versions w.table w.key vs)
put_here tx s w [] = rw (hits_itself w) refl
put_here tx s w (v ∷ vs) =
    here_step tx s w v vs (row_versions w.table w.key vs) (is_of w.table w.key v && (same_label tx v.by && is_open v.standing)) (is_of w.table w.key v) (is_live v.standing) refl refl refl refl (put_here tx s w vs)

-- another row
pub put_there : (tx : Label) (s : ℕ) (w : Write) (t : ℕ) (key : Value) → hits t key w ≡ false → (vs : List Version) → row_versions t key (put_version tx s w vs) ≡ row_versions t key vs
put_there tx s w t key off [] = rw off refl
put_there tx s w t key off (v ∷ vs) = go (is_of w.table w.key v && (same_label tx v.by && is_open v.standing)) refl (put_there tx s w t key off vs)
  where
    go : (b : Bool) → (is_of w.table w.key v && (same_label tx v.by && is_open v.standing)) ≡ b → row_versions t key (put_version tx s w vs) ≡ row_versions t key vs → row_versions t key (cond b (record v { write = w } ∷ vs) (v ∷ put_version tx s w vs)) ≡ row_versions t key (v ∷ vs)
    go true e ih =
        let is : (w.table ≡ v.write.table) × (w.key ≡ v.write.key) = hits_is w.table w.key v.write (and_parts _ _ e).0 in
        let same : hits t key v.write ≡ false = subst (λ n. ((t == n) && eq_by_cmp value_cmp key v.write.key) ≡ false) is.0 (subst (λ n. ((t == w.table) && eq_by_cmp value_cmp key n) ≡ false) is.1 off) in
        rw (off, same) refl
    go false e ih = ap (λ ys. cond (is_of t key v && is_live v.standing) (v ∷ ys) ys) ih

-- behind the stamped versions
put_behind : (tx : Label) (s : ℕ) (w : Write) (xs ys : List Version) → Each (λ (v : Version). is_stamped v.standing ≡ true) xs → put_version tx s w (xs ++ ys) ≡ xs ++ put_version tx s w ys
put_behind tx s w [] ys h = refl
put_behind tx s w (x ∷ xs) ys h =
    cond-false (is_of w.table w.key x && (same_label tx x.by && is_open x.standing)) (record x { write = w } ∷ (xs ++ ys)) (x ∷ put_version tx s w (xs ++ ys)) (not_open (is_of w.table w.key x) (same_label tx x.by) x.standing h.0)
    ∙ ap (λ zs. x ∷ zs) (put_behind tx s w xs ys h.1)
  where
    not_open : (a b : Bool) (st : TableState) → is_stamped st ≡ true → (a && (b && is_open st)) ≡ false
    not_open a b Open e = absurd (false≢true e)
    not_open a b (Closed f) e = absurd (false≢true e)
    not_open true true (Stamped n) e = refl
    not_open true false (Stamped n) e = refl
    not_open false b (Stamped n) e = refl
    not_open a b Dropped e = absurd (false≢true e)

-- where nobody else stands in the way and the own version is open
pub row_put : (p : ℕ) (r : Option RowOf) (tx : Label) (s : ℕ) (w : Write) (vs : List Version) (c : Chained) → Each (λ (v : Version). is_of w.table w.key v ≡ true) (row_versions w.table w.key vs)
    → may_push c tx ≡ true → RowIs p r (row_versions w.table w.key vs) c
    → RowIs p r (row_versions w.table w.key (put_version tx s w vs)) (pushed c tx w.row)
row_put p r tx s w vs c here may h =
    subst (λ d. RowIs p r (row_versions w.table w.key (put_version tx s w vs)) (pushed d tx w.row)) (sym h.chain_is)
    (subst (λ xs. RowIs p r xs (record { settled = h.kept; top = Some (record { by = tx; state = state.Open; row = w.row }) }))
    (sym (put_here tx s w vs ∙ ap (put_version tx s w) h.all ∙ put_behind tx s w h.decided (listed h.undecided) h.are_stamped))
    (go h.undecided (subst (λ xs. Each (λ (v : Version). is_of w.table w.key v ≡ true) xs) h.all here) (subst (λ d. may_push d tx ≡ true) h.chain_is may) h.is_pending))
  where
    with_open : (v : Version) → v.standing ≡ Open → v.by ≡ tx → v.write ≡ w → RowIs p r (h.decided ++ v ∷ []) (record { settled = h.kept; top = Some (record { by = tx; state = state.Open; row = w.row }) })
    with_open v st by wr = record {
      decided = h.decided;
      undecided = Some v;
      kept = h.kept;
      all = refl;
      are_stamped = h.are_stamped;
      is_pending = ap is_undecided st;
      chain_is = ap (λ t. record { settled = h.kept; top = Some t }) (sym (ap (λ b. record { by = b; state = state_of v.standing; row = v.write.row }) by ∙ ap (λ t. record { by = tx; state = state_of t; row = v.write.row }) st ∙ ap (λ (x : Write). record { by = tx; state = state.Open; row = x.row }) wr));
      reads = h.reads;
      last = h.last;
    }

    last_in_all : (xs : List Version) (v : Version) → Each (λ (v : Version). is_of w.table w.key v ≡ true) (xs ++ v ∷ []) → is_of w.table w.key v ≡ true
    last_in_all [] v e = e.0
    last_in_all (x ∷ xs) v e = last_in_all xs v e.1

    open_is : (st : TableState) → chain_open (state_of st) ≡ true → is_undecided st ≡ true → (is_open st ≡ true) × (st ≡ Open)
    open_is Open e u = (refl, refl)
    open_is (Closed f) e u = absurd (false≢true e)
    open_is (Stamped n) e u = absurd (false≢true u)
    open_is Dropped e u = absurd (false≢true u)

    go : (u : Option Version) → Each (λ (v : Version). is_of w.table w.key v ≡ true) (h.decided ++ listed u) → may_push (record { settled = h.kept; top = some_chain u }) tx ≡ true → IfSome u (λ v. is_undecided v.standing ≡ true)
        → RowIs p r (h.decided ++ put_version tx s w (listed u)) (record { settled = h.kept; top = Some (record { by = tx; state = state.Open; row = w.row }) })
    go None e m k = with_open (record { by = tx; snapshot = s; write = w; standing = Open }) refl refl refl
    go (Some v) e m k =
        let parts : (same_label tx v.by ≡ true) × (chain_open (state_of v.standing) ≡ true) = and_parts _ _ m in
        let o = open_is v.standing parts.1 k in
        subst (λ xs. RowIs p r (h.decided ++ xs) (record { settled = h.kept; top = Some (record { by = tx; state = state.Open; row = w.row }) }))
        (sym (cond-true (is_of w.table w.key v && (same_label tx v.by && is_open v.standing)) (record v { write = w } ∷ []) (v ∷ put_version tx s w []) (and_from _ _ (last_in_all h.decided v e) (and_from _ _ parts.0 o.0))))
        (with_open (record v { write = w }) o.1 (sym (same_is tx v.by parts.0)) refl)

each_of : (t : ℕ) (key : Value) (vs : List Version) → Each (λ (v : Version). is_of t key v ≡ true) (row_versions t key vs)
each_of t key [] = tt
each_of t key (v ∷ vs) = go (is_of t key v) (is_live v.standing) refl (each_of t key vs)
  where
    go : (h l : Bool) → is_of t key v ≡ h → Each (λ (v : Version). is_of t key v ≡ true) (row_versions t key vs) → Each (λ (v : Version). is_of t key v ≡ true) (cond (h && l) (v ∷ row_versions t key vs) (row_versions t key vs))
    go true true e i = (e, i)
    go true false e i = i
    go false l e i = i

floors : (o : Option Held) → option_map (λ k. state_by k.floor) o ≡ option_map (λ (x : Opened). state_by x.floor) (option_map timed o)
floors None = refl
floors (Some k) = refl

noted_timed : (b c : Bool) (row_id : RowId) (o r : Option Held) → (c ≡ true → o ≡ r) → option_map timed (cond b (cond c (noted row_id o) r) r) ≡ option_map timed r
noted_timed true true row_id None r e = ap (option_map timed) (e refl)
noted_timed true true row_id (Some k) r e = ap (option_map timed) (e refl)
noted_timed true false row_id o r e = refl
noted_timed false c row_id o r e = refl

-- where a write meets nobody, the pending version is the transaction's own, and open, or there is none
pub push_allowed : (opening : Label → Option Held) (tx : Label) (k : Held) (c : Chained) (s : ℕ) → opening tx ≡ Some k → k.floor ≡ None
    → IfSome c.top (λ v. option_map (λ k. state_by k.floor) (opening v.by) ≡ Some v.state) → conflict c tx s ≡ None → may_push c tx ≡ true
push_allowed opening tx k c s held unclosed tops free = go c.top tops free
  where
    go : (o : Option ChainVersion) → IfSome o (λ v. option_map (λ k. state_by k.floor) (opening v.by) ≡ Some v.state)
        → rival_or tx o (past_of s (last_in None c.settled)) ≡ None → may_push (record { settled = c.settled; top = o }) tx ≡ true
    go None i f = refl
    go (Some v) i f = ⊎_elim
        (λ (t : same_label tx v.by ≡ true).
        let here : opening v.by ≡ Some k = ap opening (sym (same_is tx v.by t)) ∙ held in
        let st : Some (state_by k.floor) ≡ Some v.state = sym (ap (option_map (λ k. state_by k.floor)) here) ∙ i in
        let is : state_by k.floor ≡ v.state = cc in
        and_from _ _ t (ap chain_open (sym (ap state_by (sym unclosed) ∙ is))))
        (λ (n : same_label tx v.by ≡ false).
        let bad : Some (record { by = v.by; why = why_of v.state }) ≡ None = sym (cond-false (same_label tx v.by) (past_of s (last_in None c.settled)) (Some (record { by = v.by; why = why_of v.state })) n) ∙ f in
        cc)
        (cases_Bool (same_label tx v.by))

module _ (newest p : ℕ) (opening after : Label → Option Held) (chain then : Chains) (e : EngineTable) (tx : Label) (row_id : RowId) (row : Option RowOf) (first : Bool) (k : Held)
    (h : Stands newest p opening chain e)
    (held : opening tx ≡ Some k) (unclosed : k.floor ≡ None)
    (free : conflict (chain row_id.table row_id.key) tx k.snapshot ≡ None)
    (first_is : first ≡ not (is_by tx (chain row_id.table row_id.key).top))
    (writes : (t : ℕ) (key : Value) → then t key ≡ cond (is_row_id t key row_id) (pushed (chain row_id.table row_id.key) tx row) (chain t key))
    (notes : (q : Label) → after q ≡ cond first (cond (same_label tx q) (noted row_id (opening tx)) (opening q)) (opening q)) where
  put_timed : (q : Label) → option_map timed (after q) ≡ option_map timed (opening q)
  put_timed q = ap (option_map timed) (notes q) ∙ noted_timed first (same_label tx q) row_id (opening tx) (opening q) (λ d. ap opening (same_is tx q d))

  put_floors : (q : Label) → option_map (λ k. state_by k.floor) (after q) ≡ option_map (λ k. state_by k.floor) (opening q)
  put_floors q = floors (after q) ∙ ap (option_map (λ (x : Opened). state_by x.floor)) (put_timed q) ∙ sym (floors (opening q))

  may : may_push (chain row_id.table row_id.key) tx ≡ true
  may = push_allowed opening tx k (chain row_id.table row_id.key) k.snapshot held unclosed (h.tops row_id.table row_id.key) free

  -- by whom it was
  was_by : (q : Label) → is_by q (chain row_id.table row_id.key).top ≡ cond first false (same_label q tx)
  was_by q = go (chain row_id.table row_id.key).top first may first_is
    where
      go : (o : Option ChainVersion) (b : Bool) → may_push (record { settled = (chain row_id.table row_id.key).settled; top = o }) tx ≡ true → b ≡ not (is_by tx o) → is_by q o ≡ cond b false (same_label q tx)
      go None true m f = refl
      go None false m f = absurd (false≢true f)
      go (Some v) b m f =
          let t : same_label tx v.by ≡ true = (and_parts _ _ m).0 in
          let off : b ≡ false = f ∙ ap not t in
          rw off (ap (same_label q) (sym (same_is tx v.by t)))

  put_wrote : (q : Label) (t : ℕ) (key : Value) → is_among t key (wrote_by (after q)) ≡ is_by q (then t key).top
  put_wrote q t key =
      ap (λ o. is_among t key (wrote_by o)) (notes q)
      ∙ go first (is_row_id t key row_id) (same_label tx q) refl refl refl ∙ ap (λ c. is_by q c.top) (sym (writes t key))
    where
      flip : (b : Bool) → same_label tx q ≡ b → same_label q tx ≡ b
      flip true s = ap (λ x. same_label x tx) (sym (same_is tx q s)) ∙ same_itself tx
      flip false s = ⊎_elim
          (λ (t : same_label q tx ≡ true). absurd (false≢true (sym s ∙ ap (same_label tx) (same_is q tx t) ∙ same_itself tx)))
          (λ (f : same_label q tx ≡ false). f)
          (cases_Bool (same_label q tx))

      same_chain : is_row_id t key row_id ≡ true → chain t key ≡ chain row_id.table row_id.key
      same_chain d =
          let is : (t ≡ row_id.table) × (key ≡ row_id.key) = row_id_is t key row_id d in
          ap (λ n. chain n key) is.0 ∙ ap (chain row_id.table) is.1

      own : is_among t key (wrote_by (noted row_id (opening tx))) ≡ (is_among t key (wrote_by (opening tx)) || is_row_id t key row_id)
      own = rw held (among_one_more t key row_id k.wrote)

      go : (b d s : Bool) → first ≡ b → is_row_id t key row_id ≡ d → same_label tx q ≡ s
          → is_among t key (wrote_by (cond b (cond s (noted row_id (opening tx)) (opening q)) (opening q))) ≡ is_by q (cond d (pushed (chain row_id.table row_id.key) tx row) (chain t key)).top
      go true true true f d s = own ∙ ap (λ b. is_among t key (wrote_by (opening tx)) || b) d ∙ or-true (is_among t key (wrote_by (opening tx))) ∙ sym (flip true s)
      go true false true f d s = own ∙ ap (λ b. is_among t key (wrote_by (opening tx)) || b) d ∙ or-false (is_among t key (wrote_by (opening tx))) ∙ h.wrote tx t key ∙ ap (λ x. is_by x (chain t key).top) (same_is tx q s)
      go true true false f d s = h.wrote q t key ∙ ap (λ c. is_by q c.top) (same_chain d) ∙ was_by q ∙ ap (λ b. cond b false (same_label q tx)) f ∙ sym (flip false s)
      go true false false f d s = h.wrote q t key
      go false true s f d z = h.wrote q t key ∙ ap (λ c. is_by q c.top) (same_chain d) ∙ was_by q ∙ ap (λ b. cond b false (same_label q tx)) f
      go false false s f d z = h.wrote q t key

  put_tops : (t : ℕ) (key : Value) → IfSome (then t key).top (λ v. option_map (λ k. state_by k.floor) (after v.by) ≡ Some v.state)
  put_tops t key = subst (λ c. IfSome c.top (λ v. option_map (λ k. state_by k.floor) (after v.by) ≡ Some v.state)) (sym (writes t key)) (go (is_row_id t key row_id))
    where
      moved : (o : Option ChainVersion) → IfSome o (λ v. option_map (λ k. state_by k.floor) (opening v.by) ≡ Some v.state) → IfSome o (λ v. option_map (λ k. state_by k.floor) (after v.by) ≡ Some v.state)
      moved None i = tt
      moved (Some v) i = put_floors v.by ∙ i

      go : (d : Bool) → IfSome (cond d (pushed (chain row_id.table row_id.key) tx row) (chain t key)).top (λ v. option_map (λ k. state_by k.floor) (after v.by) ≡ Some v.state)
      go true = put_floors tx ∙ ap (option_map (λ k. state_by k.floor)) held ∙ ap (λ f. Some (state_by f)) unclosed
      go false = moved (chain t key).top (h.tops t key)

  put_rows : (t : ℕ) (key : Value) → RowIs p (row_of e.rows t key) (row_versions t key (put_version tx (snapshot_of e tx) (write_at row_id.table row_id.key row) e.versions)) (then t key)
  put_rows t key = subst (λ c. RowIs p (row_of e.rows t key) (row_versions t key (put_version tx (snapshot_of e tx) (write_at row_id.table row_id.key row) e.versions)) c) (sym (writes t key)) (go (is_row_id t key row_id) refl)
    where
      w : Write
      w = write_at row_id.table row_id.key row

      go : (d : Bool) → is_row_id t key row_id ≡ d → RowIs p (row_of e.rows t key) (row_versions t key (put_version tx (snapshot_of e tx) w e.versions)) (cond d (pushed (chain row_id.table row_id.key) tx row) (chain t key))
      go true d =
          let is : (t ≡ row_id.table) × (key ≡ row_id.key) = row_id_is t key row_id d in
          let te : t ≡ row_id.table = is.0 in
          let ke : key ≡ row_id.key = is.1 in
          subst (λ n. RowIs p (row_of e.rows n key) (row_versions n key (put_version tx (snapshot_of e tx) w e.versions)) (pushed (chain row_id.table row_id.key) tx row)) (sym te)
          (subst (λ n. RowIs p (row_of e.rows row_id.table n) (row_versions row_id.table n (put_version tx (snapshot_of e tx) w e.versions)) (pushed (chain row_id.table row_id.key) tx row)) (sym ke)
          (row_put p (row_of e.rows row_id.table row_id.key) tx (snapshot_of e tx) w e.versions (chain row_id.table row_id.key) (each_of row_id.table row_id.key e.versions)
          may (h.rows row_id.table row_id.key)))
      go false d = subst (λ xs. RowIs p (row_of e.rows t key) xs (chain t key)) (sym (put_there tx (snapshot_of e tx) w t key d e.versions)) (h.rows t key)

  pub stands_put : Stands newest p after then (change e (call.Put tx row_id.table row_id.key row))
  stands_put = record {
    greatest = h.greatest;
    purged = h.purged;
    openings = λ q. put_timed q ∙ h.openings q;
    in_time = λ q. timely (after q) (opening q) (put_timed q) (h.in_time q);
    floors = λ q. floored_well (after q) (opening q) (put_timed q) (h.floors q);
    rows = put_rows;
    wrote = put_wrote;
    tops = put_tops;
  }
    where
      timely : (o r : Option Held) → option_map timed o ≡ option_map timed r → IfSome r (λ k. p ≤ k.snapshot) → IfSome o (λ k. p ≤ k.snapshot)
      timely None r i j = tt
      timely (Some k) None i j = let bad : Some (timed k) ≡ None = i in cc
      timely (Some k) (Some l) i j =
          let both : timed k ≡ timed l = cc in
          subst (λ n. p ≤ n) (sym (ap (λ (x : Opened). x.snapshot) both)) j

      floored_well : (o r : Option Held) → option_map timed o ≡ option_map timed r → IfSome r (λ k. IfSome k.floor (λ f. k.snapshot ≤ f)) → IfSome o (λ k. IfSome k.floor (λ f. k.snapshot ≤ f))
      floored_well None r i j = tt
      floored_well (Some k) None i j = let bad : Some (timed k) ≡ None = i in cc
      floored_well (Some k) (Some l) i j =
          let both : timed k ≡ timed l = cc in
          subst (λ (x : Opened). IfSome x.floor (λ f. x.snapshot ≤ f)) (sym both) j
