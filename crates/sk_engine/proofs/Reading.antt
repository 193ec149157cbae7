-- What a reader gets of a row is what its versions in the table give.
use Rattle.std.specs.Prelude.{◌≡◌, ℕ, ◌≤◌, ◌<◌, List, [], ◌∷◌, ◌++◌, Option, Some, None, Bool, true, false, cond, not, ◌&&◌, ◌||◌, nat_lt, length, map, IfSome}
use Rattle.std.proofs.Common.{refl, sym, ap, ◌∙◌, arith}
use Rattle.std.specs.List.{filter, fold, find}
use Rattle.std.proofs.lemmas.Bool.{cond-true, cond-false, false≢true}
use Rattle.std.proofs.lemmas.List.Sums.{fold-append}
use Rattle.sk_rows.specs.declared.value.Value.{Value}
use Rattle.sk_model.specs.declared.label.Label.{Label}
use Rattle.sk_model.specs.declared.call.EngineFault.TheVariants as fault
use Rattle.sk_model.specs.declared.call.EngineReply.{EngineReply}
use Rattle.sk_model.specs.declared.call.EngineReply.TheVariants.{Found, Fault}
use Rattle.sk_model.specs.Database.{RowOf, hits, row_of}
use Rattle.sk_model.specs.Records.{same_label}
use Rattle.sk_model.specs.Calls.{last_row}
use Rattle.sk_model.specs.Engine.{EngineTable, Version, VersionState, Open, Closed, Stamped, Dropped, is_of, is_stamped, is_undecided, is_closed_below}
use Rattle.sk_model.specs.Engine.{is_upto as model_upto}
use Rattle.sk_model.specs.EngineReplies.{is_blocking, is_seen, seen, busy_or, last_in}
use Rattle.sk_model.proofs.Lists.{Each, each_weaker}
use Rattle.sk_model.proofs.Lookups.{row_after_writes}
use Rattle.sk_chain.specs.declared.version.Version.{Version as ChainVersion}
use Rattle.sk_chain.specs.Chained.{Chained}
use Rattle.sk_chain.specs.Reading.{is_upto, last_upto, Sees, Waits}
use Rattle.sk_chain.specs.Reading.{is_closed_below as chain_below}
use Rattle.sk_engine.specs.Rows.{row_or, row_in, reading, sighted}
use Rattle.sk_engine.specs.Stands.{is_live, row_versions, state_of, as_chain, some_chain, listed, RowIs}

-- the versions of a row have all that a test of live versions finds
pick : (b q l : Bool) (v : Version) (rest : List Version) (x : Option Version) (p : Version → Bool) → (q ≡ true → l ≡ true) → p v ≡ q → x ≡ find p rest
    → cond (b && q) (Some v) x ≡ find p (cond (b && l) (v ∷ rest) rest)
pick true true true v rest x p h e i = sym (cond-true (p v) (Some v) (find p rest) e)
pick true true false v rest x p h e i = absurd (false≢true (h refl))
pick true false true v rest x p h e i = i ∙ sym (cond-false (p v) (Some v) (find p rest) e)
pick true false false v rest x p h e i = i
pick false q l v rest x p h e i = i

pub find_in_row : (t : ℕ) (key : Value) (p : Version → Bool) → ((v : Version) → p v ≡ true → is_live v.standing ≡ true) → (vs : List Version)
    → find (λ v. is_of t key v && p v) vs ≡ find p (row_versions t key vs)
find_in_row t key p h [] = refl
find_in_row t key p h (v ∷ vs) =
    pick (is_of t key v) (p v) (is_live v.standing) v (row_versions t key vs) (find (λ v. is_of t key v && p v) vs) p (h v) refl (find_in_row t key p h vs)

-- the row that the versions seen give, from x on
abbrev pub fold_seen : Label → ℕ → Option RowOf → List Version → Option RowOf
fold_seen tx s x vs = fold (λ r v. cond (is_seen tx s v) v.write.row r) x vs

seen_step : (tx : Label) (s t : ℕ) (key : Value) (x : Option RowOf) (v : Version) (vs rest : List Version) (b q l : Bool) → hits t key v.write ≡ b → is_seen tx s v ≡ q → (q ≡ true → l ≡ true)
    → ((y : Option RowOf) → last_row t key y (map (λ (v : Version). v.write) vs) ≡ fold_seen tx s y rest)
    → last_row t key x (map (λ (v : Version). v.write) (cond q (v ∷ vs) vs)) ≡ fold_seen tx s x (cond (b && l) (v ∷ rest) rest)
seen_step tx s t key x v vs rest true true true e d h ih =
    ap (λ y. last_row t key y (map (λ (v : Version). v.write) vs)) (cond-true (hits t key v.write) v.write.row x e) ∙ ih v.write.row
    ∙ ap (λ y. fold_seen tx s y rest) (sym (cond-true (is_seen tx s v) v.write.row x d))
seen_step tx s t key x v vs rest true true false e d h ih = absurd (false≢true (h refl))
seen_step tx s t key x v vs rest true false true e d h ih = ih x ∙ ap (λ y. fold_seen tx s y rest) (sym (cond-false (is_seen tx s v) v.write.row x d))
seen_step tx s t key x v vs rest true false false e d h ih = ih x
seen_step tx s t key x v vs rest false true l e d h ih = ap (λ y. last_row t key y (map (λ (v : Version). v.write) vs)) (cond-false (hits t key v.write) v.write.row x e) ∙ ih x
seen_step tx s t key x v vs rest false false l e d h ih = ih x

seen_live : (s : ℕ) (b : Bool) (st : VersionState) → (model_upto s st || (b && is_undecided st)) ≡ true → is_live st ≡ true
seen_live s b Open e = refl
seen_live s b (Closed f) e = refl
seen_live s b (Stamped n) e = refl
seen_live s true Dropped e = e
seen_live s false Dropped e = e

pub seen_in_row : (tx : Label) (s t : ℕ) (key : Value) (x : Option RowOf) (vs : List Version) → last_row t key x (map (λ (v : Version). v.write) (filter (is_seen tx s) vs)) ≡ fold_seen tx s x (row_versions t key vs)
seen_in_row tx s t key x [] = refl
seen_in_row tx s t key x (v ∷ vs) =
    seen_step tx s t key x v (filter (is_seen tx s) vs) (row_versions t key vs) (is_of t key v) (is_seen tx s v) (is_live v.standing) refl refl (seen_live s (same_label tx v.by) v.standing)
    (λ y. seen_in_row tx s t key y vs)

-- a stamped version is seen up to its number, and blocks nobody
seen_stamped : (s : ℕ) (b : Bool) (st : VersionState) → is_stamped st ≡ true → (model_upto s st || (b && is_undecided st)) ≡ is_upto s (state_of st)
seen_stamped s b Open e = absurd (false≢true e)
seen_stamped s b (Closed f) e = absurd (false≢true e)
seen_stamped s b (Stamped n) e = grind arith
seen_stamped s b Dropped e = absurd (false≢true e)

best_step : (s : ℕ) (x : Option RowOf) (best : Option ChainVersion) (v : ChainVersion) (vs : List ChainVersion) (b : Bool) → is_upto s v.state ≡ b
    → ((c : Option ChainVersion) → fold (λ r (v : ChainVersion). cond (is_upto s v.state) v.row r) (row_or x c) vs ≡ row_or x (last_in c (filter (λ (v : ChainVersion). is_upto s v.state) vs)))
    → fold (λ r (v : ChainVersion). cond (is_upto s v.state) v.row r) (cond b v.row (row_or x best)) vs ≡ row_or x (last_in best (cond b (v ∷ filter (λ (v : ChainVersion). is_upto s v.state) vs) (filter (λ (v : ChainVersion). is_upto s v.state) vs)))
best_step s x best v vs true e ih = ih (Some v)
best_step s x best v vs false e ih = ih best

pub best_row : (s : ℕ) (x : Option RowOf) (best : Option ChainVersion) (vs : List ChainVersion)
    → fold (λ r (v : ChainVersion). cond (is_upto s v.state) v.row r) (row_or x best) vs ≡ row_or x (last_in best (filter (λ (v : ChainVersion). is_upto s v.state) vs))
best_row s x best [] = refl
best_row s x best (v ∷ vs) = best_step s x best v vs (is_upto s v.state) refl (λ c. best_row s x c vs)

fold_decided : (tx : Label) (s : ℕ) (x : Option RowOf) (vs : List Version) → Each (λ (v : Version). is_stamped v.standing ≡ true) vs
    → fold_seen tx s x vs ≡ fold (λ r (v : ChainVersion). cond (is_upto s v.state) v.row r) x (map as_chain vs)
fold_decided tx s x [] h = refl
fold_decided tx s x (v ∷ vs) h =
    ap (λ b. fold_seen tx s (cond b v.write.row x) vs) (seen_stamped s (same_label tx v.by) v.standing h.0) ∙ fold_decided tx s (cond (is_upto s (state_of v.standing)) v.write.row x) vs h.1

seen_decided : (tx : Label) (s : ℕ) (x : Option RowOf) (vs : List Version) → Each (λ (v : Version). is_stamped v.standing ≡ true) vs → fold_seen tx s x vs ≡ row_or x (last_upto s (map as_chain vs))
seen_decided tx s x vs h = fold_decided tx s x vs h ∙ best_row s x None (map as_chain vs)

blocks_none : (s : ℕ) (b : Bool) (st : VersionState) → is_stamped st ≡ true → (b && is_closed_below s st) ≡ false
blocks_none s b Open e = absurd (false≢true e)
blocks_none s b (Closed f) e = absurd (false≢true e)
blocks_none s true (Stamped n) e = refl
blocks_none s false (Stamped n) e = refl
blocks_none s b Dropped e = absurd (false≢true e)

pub find_past : {X : Type 0} (p : X → Bool) (xs ys : List X) → Each (λ x. p x ≡ false) xs → find p (xs ++ ys) ≡ find p ys
find_past p [] ys h = refl
find_past p (x ∷ xs) ys h = cond-false (p x) (Some x) (find p (xs ++ ys)) h.0 ∙ find_past p xs ys h.1

-- what a reader gets, of the pending version and of the row that the stamped ones give
abbrev pub reading_by : Label → ℕ → Option ChainVersion → Option RowOf → EngineReply
reading_by tx s None r = Found r
reading_by tx s (Some v) r = cond (same_label tx v.by) (Found v.row) (cond (chain_below s v.state) (Fault (fault.Busy v.by)) (Found r))

busy_cond : (b : Bool) (v : Version) (r : Option RowOf) → busy_or (cond b (Some v) None) (Found r) ≡ cond b (Fault (fault.Busy v.by)) (Found r)
busy_cond true v r = refl
busy_cond false v r = refl

-- the pending version alone
pending_step : (s : ℕ) (v : Version) (r : Option RowOf) (b : Bool) (st : VersionState) → is_undecided st ≡ true
    → busy_or (cond (not b && is_closed_below s st) (Some v) None) (Found (cond (model_upto s st || (b && is_undecided st)) v.write.row r))
    ≡ cond b (Found v.write.row) (cond (chain_below s (state_of st)) (Fault (fault.Busy v.by)) (Found r))
pending_step s v r true Open u = refl
pending_step s v r false Open u = refl
pending_step s v r true (Closed f) u = refl
pending_step s v r false (Closed f) u = busy_cond (nat_lt f s) v r
pending_step s v r b (Stamped n) u = absurd (false≢true u)
pending_step s v r b Dropped u = absurd (false≢true u)

pending : (tx : Label) (s : ℕ) (u : Option Version) (r : Option RowOf) → IfSome u (λ v. is_undecided v.standing ≡ true)
    → busy_or (find (is_blocking tx s) (listed u)) (Found (fold_seen tx s r (listed u))) ≡ reading_by tx s (some_chain u) r
pending tx s None r h = refl
pending tx s (Some v) r h = pending_step s v r (same_label tx v.by) v.standing h

reading_over : (settled : List ChainVersion) (top : Option ChainVersion) (tx : Label) (s : ℕ)
    → reading (record { settled = settled; top = top }) tx s ≡ reading_by tx s top (row_in (last_upto s settled))
reading_over settled None tx s = refl
reading_over settled (Some v) tx s = go (same_label tx v.by) (chain_below s v.state)
  where
    go : (b d : Bool) → sighted (cond b (Sees (Some v)) (cond d (Waits v.by) (Sees (last_upto s settled))))
        ≡ cond b (Found v.row) (cond d (Fault (fault.Busy v.by)) (Found (row_in (last_upto s settled))))
    go true d = refl
    go false true = refl
    go false false = refl

fold_listed : (tx : Label) (s : ℕ) (x : Option RowOf) (xs ys : List Version) → fold_seen tx s x (xs ++ ys) ≡ fold_seen tx s (fold_seen tx s x xs) ys
fold_listed tx s x xs ys = fold-append (λ r v. cond (is_seen tx s v) v.write.row r) x xs ys

-- what the versions of a row give a reader, its chain gives
pub row_reads : (p : ℕ) (r : Option RowOf) (vs : List Version) (c : Chained) (tx : Label) (s : ℕ) → RowIs p r vs c → p ≤ s
    → busy_or (find (is_blocking tx s) vs) (Found (fold_seen tx s r vs)) ≡ reading c tx s
row_reads p r vs c tx s h l =
    let split : List Version = h.decided ++ listed h.undecided in
    let blocks : find (is_blocking tx s) split ≡ find (is_blocking tx s) (listed h.undecided) =
    find_past (is_blocking tx s) h.decided (listed h.undecided) (each_weaker (λ (v : Version). is_stamped v.standing ≡ true) (λ v. is_blocking tx s v ≡ false) (λ v e. blocks_none s (not (same_label tx v.by)) v.standing e) h.decided h.are_stamped) in
    let rows : fold_seen tx s r split ≡ fold_seen tx s (row_in (last_upto s h.kept)) (listed h.undecided) =
    fold_listed tx s r h.decided (listed h.undecided) ∙ ap (λ y. fold_seen tx s y (listed h.undecided)) (seen_decided tx s r h.decided h.are_stamped ∙ h.reads s l) in
    ap (λ xs. busy_or (find (is_blocking tx s) xs) (Found (fold_seen tx s r xs))) h.all
    ∙ ap (λ o. busy_or o (Found (fold_seen tx s r split))) blocks
    ∙ ap (λ y. busy_or (find (is_blocking tx s) (listed h.undecided)) (Found y)) rows
    ∙ pending tx s h.undecided (row_in (last_upto s h.kept)) h.is_pending
    ∙ sym (reading_over h.kept (some_chain h.undecided) tx s)
    ∙ ap (λ c. reading c tx s) (sym h.chain_is)

blocking_live : (s : ℕ) (b : Bool) (st : VersionState) → (b && is_closed_below s st) ≡ true → is_live st ≡ true
blocking_live s b Open e = refl
blocking_live s b (Closed f) e = refl
blocking_live s b (Stamped n) e = refl
blocking_live s true Dropped e = e
blocking_live s false Dropped e = e

-- the engine's answer to a read
pub got_is : (e : EngineTable) (tx : Label) (s p t : ℕ) (key : Value) (c : Chained) → t < length e.rows → p ≤ s → RowIs p (row_of e.rows t key) (row_versions t key e.versions) c
    → busy_or (find (λ v. is_of t key v && is_blocking tx s v) e.versions) (Found (row_of (seen e tx s) t key)) ≡ reading c tx s
got_is e tx s p t key c l le h =
    ap (λ o. busy_or o (Found (row_of (seen e tx s) t key))) (find_in_row t key (is_blocking tx s) (λ v d. blocking_live s (not (same_label tx v.by)) v.standing d) e.versions)
    ∙ ap (λ y. busy_or (find (is_blocking tx s) (row_versions t key e.versions)) (Found y))
    (row_after_writes e.rows (map (λ (v : Version). v.write) (filter (is_seen tx s) e.versions)) t key l ∙ seen_in_row tx s t key (row_of e.rows t key) e.versions)
    ∙ row_reads p (row_of e.rows t key) (row_versions t key e.versions) c tx s h le
