-- What a call does to the versions of a row, its chain shows.
use Rattle.std.specs.Prelude.{◌≡◌, ℕ, ◌≤◌, List, [], ◌∷◌, ◌++◌, Option, Some, None, Bool, true, false, cond, not, ◌&&◌, map, IfSome}
use Rattle.std.proofs.Common.{refl, sym, ap, subst, ◌∙◌, append-nil}
use Rattle.std.specs.List.{filter}
use Rattle.std.proofs.lemmas.Bool.{cond-true, cond-false, false≢true, and_parts, and_from, and_left}
use Rattle.std.proofs.lemmas.List.{map-append}
use Rattle.sk_rows.specs.declared.value.Value.{Value}
use Rattle.sk_model.specs.declared.label.Label.{Label}
use Rattle.sk_model.specs.Database.{RowOf}
use Rattle.sk_model.specs.Records.{same_label}
use Rattle.sk_model.specs.Calls.{is_own}
use Rattle.sk_model.specs.Engine.{Version, VersionState as TableState, Open, Closed, Stamped, Dropped, is_of, is_stamped, is_undecided}
use Rattle.sk_model.specs.EngineReplies.{last_in}
use Rattle.sk_model.specs.EngineChanges.{restood, restand}
use Rattle.sk_model.proofs.Lists.{Each}
use Rattle.sk_chain.specs.declared.version.VersionState.{VersionState}
use Rattle.sk_chain.specs.declared.version.VersionState.TheVariants as state
use Rattle.sk_chain.specs.declared.version.Version.{Version as ChainVersion}
use Rattle.sk_chain.specs.Chained.{Chained, listed as chain_listed}
use Rattle.sk_chain.specs.Reading.{is_upto, last_upto}
use Rattle.sk_chain.specs.Writing.{past_of, is_by}
use Rattle.sk_chain.specs.Changing.{voided, with_state, is_open, is_closed}
use Rattle.sk_engine.specs.declared.act.Act.{Act}
use Rattle.sk_engine.specs.declared.act.Act.TheVariants as act
use Rattle.sk_engine.specs.Rows.{acted, row_or, row_in}
use Rattle.sk_engine.specs.Stands.{is_live, row_versions, state_of, as_chain, some_chain, listed, RowIs}

-- what an act does to a pending version that is ready for it
abbrev pub restated : VersionState → Option ChainVersion → Option ChainVersion
restated st None = None
restated st (Some v) = Some (with_state st v)

abbrev pub closed : Chained → ℕ → Chained
closed c f = record { settled = c.settled; top = restated (state.Closed f) c.top }

abbrev pub stamped : Chained → ℕ → Chained
stamped c n = record { settled = c.settled ++ chain_listed (restated (state.Stamped n) c.top); top = None }

abbrev pub ended : Act → Chained → Chained
ended (act.Close f) c = closed c f
ended (act.Stamp n) c = stamped c n
ended act.Void c = voided c

-- one that is open for a close, and one that is closed for a stamp
abbrev pub is_ready : Act → VersionState → Bool
is_ready (act.Close f) st = is_open st
is_ready (act.Stamp n) st = is_closed st
is_ready act.Void st = true

close_state : (settled : List ChainVersion) (by : Label) (row : Option RowOf) (f : ℕ) (st : VersionState) → is_open st ≡ true
    → acted (act.Close f) (record { settled = settled; top = Some (record { by = by; state = st; row = row }) }) ≡ closed (record { settled = settled; top = Some (record { by = by; state = st; row = row }) }) f
close_state settled by row f state.Open e = refl
close_state settled by row f (state.Closed g) e = absurd (false≢true e)
close_state settled by row f (state.Stamped n) e = absurd (false≢true e)

stamp_state : (settled : List ChainVersion) (by : Label) (row : Option RowOf) (n : ℕ) (st : VersionState) → is_closed st ≡ true
    → acted (act.Stamp n) (record { settled = settled; top = Some (record { by = by; state = st; row = row }) }) ≡ stamped (record { settled = settled; top = Some (record { by = by; state = st; row = row }) }) n
stamp_state settled by row n state.Open e = absurd (false≢true e)
stamp_state settled by row n (state.Closed g) e = refl
stamp_state settled by row n (state.Stamped m) e = absurd (false≢true e)

pub ready_act : (a : Act) (c : Chained) (v : ChainVersion) → c.top ≡ Some v → is_ready a v.state ≡ true → acted a c ≡ ended a c
ready_act (act.Close f) c v t e = ap (λ o. acted (act.Close f) (record { settled = c.settled; top = o })) t ∙ close_state c.settled v.by v.row f v.state e ∙ ap (λ o. closed (record { settled = c.settled; top = o }) f) (sym t)
ready_act (act.Stamp n) c v t e = ap (λ o. acted (act.Stamp n) (record { settled = c.settled; top = o })) t ∙ stamp_state c.settled v.by v.row n v.state e ∙ ap (λ o. stamped (record { settled = c.settled; top = o }) n) (sym t)
ready_act act.Void c v t e = refl

undecided_live : (st : TableState) → is_undecided st ≡ true → is_live st ≡ true
undecided_live Open e = refl
undecided_live (Closed f) e = refl
undecided_live (Stamped n) e = refl
undecided_live Dropped e = absurd (false≢true e)

-- a new standing that is live
restand_step : (st : TableState) (v : Version) (rest : List Version) (tx : Label) (b h l : Bool) → is_live st ≡ true → (b ≡ true → l ≡ true) → (same_label tx v.by && is_undecided v.standing) ≡ b
    → (t : ℕ) (key : Value) → is_of t key v ≡ h → is_live v.standing ≡ l
    → cond (is_of t key (cond b (record v { standing = st }) v) && is_live (cond b (record v { standing = st }) v).standing) (cond b (record v { standing = st }) v ∷ restand tx st rest) (restand tx st rest)
    ≡ restand tx st (cond (h && l) (v ∷ rest) rest)
restand_step st v rest tx true true true live o e t key i k = rw (i, live) (ap (λ x. x ∷ restand tx st rest) (sym (cond-true (same_label tx v.by && is_undecided v.standing) (record v { standing = st }) v e)))
restand_step st v rest tx true false true live o e t key i k = rw i refl
restand_step st v rest tx true h false live o e t key i k = absurd (false≢true (o refl))
restand_step st v rest tx false true true live o e t key i k = rw (i, k) (ap (λ x. x ∷ restand tx st rest) (sym (cond-false (same_label tx v.by && is_undecided v.standing) (record v { standing = st }) v e)))
restand_step st v rest tx false true false live o e t key i k = rw (i, k) refl
restand_step st v rest tx false false l live o e t key i k = rw i refl

pub row_restand : (tx : Label) (st : TableState) (t : ℕ) (key : Value) → is_live st ≡ true → (vs : List Version) → row_versions t key (restand tx st vs) ≡ restand tx st (row_versions t key vs)
row_restand tx st t key live [] = refl
row_restand tx st t key live (v ∷ vs) =
    ap (λ xs. cond (is_of t key (restood tx st v) && is_live (restood tx st v).standing) (restood tx st v ∷ xs) xs) (row_restand tx st t key live vs)
    ∙ restand_step st v (row_versions t key vs) tx (is_own tx v) (is_of t key v) (is_live v.standing) live (λ e. undecided_live v.standing (and_parts _ _ e).1) refl t key refl refl

-- versions that go
drop_step : (v : Version) (rest xs : List Version) (tx : Label) (b h l : Bool) → (b ≡ true → l ≡ true) → is_own tx v ≡ b → (t : ℕ) (key : Value) → is_of t key v ≡ h → is_live v.standing ≡ l
    → xs ≡ filter (λ v. not (is_own tx v)) rest
    → cond (is_of t key (cond b (record v { standing = Dropped }) v) && is_live (cond b (record v { standing = Dropped }) v).standing) (cond b (record v { standing = Dropped }) v ∷ xs) xs
    ≡ filter (λ v. not (is_own tx v)) (cond (h && l) (v ∷ rest) rest)
drop_step v rest xs tx true true true o e t key i k s = rw i (s ∙ sym (cond-false (not (is_own tx v)) (v ∷ filter (λ v. not (is_own tx v)) rest) (filter (λ v. not (is_own tx v)) rest) (ap not e)))
drop_step v rest xs tx true false true o e t key i k s = rw i s
drop_step v rest xs tx true h false o e t key i k s = absurd (false≢true (o refl))
drop_step v rest xs tx false true true o e t key i k s = rw (i, k) (ap (λ ys. v ∷ ys) s ∙ sym (cond-true (not (is_own tx v)) (v ∷ filter (λ v. not (is_own tx v)) rest) (filter (λ v. not (is_own tx v)) rest) (ap not e)))
drop_step v rest xs tx false true false o e t key i k s = rw (i, k) s
drop_step v rest xs tx false false l o e t key i k s = rw i s

pub row_drop : (tx : Label) (t : ℕ) (key : Value) (vs : List Version) → row_versions t key (restand tx Dropped vs) ≡ filter (λ v. not (is_own tx v)) (row_versions t key vs)
row_drop tx t key [] = refl
row_drop tx t key (v ∷ vs) =
    drop_step v (row_versions t key vs) (row_versions t key (restand tx Dropped vs)) tx (is_own tx v) (is_of t key v) (is_live v.standing) (λ e. undecided_live v.standing (and_parts _ _ e).1) refl t key refl refl (row_drop tx t key vs)

stamped_not : (b : Bool) (st : TableState) → is_stamped st ≡ true → (b && is_undecided st) ≡ false
stamped_not b Open e = absurd (false≢true e)
stamped_not b (Closed f) e = absurd (false≢true e)
stamped_not true (Stamped n) e = refl
stamped_not false (Stamped n) e = refl
stamped_not b Dropped e = absurd (false≢true e)

-- stamped versions stay
restand_decided : (tx : Label) (st : TableState) (xs ys : List Version) → Each (λ (v : Version). is_stamped v.standing ≡ true) xs → restand tx st (xs ++ ys) ≡ xs ++ restand tx st ys
restand_decided tx st [] ys h = refl
restand_decided tx st (x ∷ xs) ys h =
    ap (λ y. y ∷ restand tx st (xs ++ ys)) (cond-false (is_own tx x) (record x { standing = st }) x (stamped_not (same_label tx x.by) x.standing h.0)) ∙ ap (λ zs. x ∷ zs) (restand_decided tx st xs ys h.1)

keep_decided : (tx : Label) (xs ys : List Version) → Each (λ (v : Version). is_stamped v.standing ≡ true) xs → filter (λ v. not (is_own tx v)) (xs ++ ys) ≡ xs ++ filter (λ v. not (is_own tx v)) ys
keep_decided tx [] ys h = refl
keep_decided tx (x ∷ xs) ys h =
    cond-true (not (is_own tx x)) (x ∷ filter (λ v. not (is_own tx v)) (xs ++ ys)) (filter (λ v. not (is_own tx v)) (xs ++ ys)) (ap not (stamped_not (same_label tx x.by) x.standing h.0)) ∙ ap (λ zs. x ∷ zs) (keep_decided tx xs ys h.1)

each_end : (P : Version → Type 0) (xs : List Version) (y : Version) → Each P xs → P y → Each P (xs ++ y ∷ [])
each_end P [] y h k = (k, tt)
each_end P (x ∷ xs) y h k = (h.0, each_end P xs y h.1 k)

upto_step : (s : ℕ) (r : Option RowOf) (b : Option ChainVersion) (x y : ChainVersion) (xs : List ChainVersion) (d : Bool)
    → ((c : Option ChainVersion) → row_or r (last_in c (filter (λ (v : ChainVersion). is_upto s v.state) (xs ++ y ∷ []))) ≡ cond (is_upto s y.state) y.row (row_or r (last_in c (filter (λ (v : ChainVersion). is_upto s v.state) xs))))
    → row_or r (last_in b (cond d (x ∷ filter (λ (v : ChainVersion). is_upto s v.state) (xs ++ y ∷ [])) (filter (λ (v : ChainVersion). is_upto s v.state) (xs ++ y ∷ []))))
    ≡ cond (is_upto s y.state) y.row (row_or r (last_in b (cond d (x ∷ filter (λ (v : ChainVersion). is_upto s v.state) xs) (filter (λ (v : ChainVersion). is_upto s v.state) xs))))
upto_step s r b x y xs true ih = ih (Some x)
upto_step s r b x y xs false ih = ih b

-- one version more
pub upto_end : (s : ℕ) (r : Option RowOf) (b : Option ChainVersion) (xs : List ChainVersion) (y : ChainVersion)
    → row_or r (last_in b (filter (λ (v : ChainVersion). is_upto s v.state) (xs ++ y ∷ []))) ≡ cond (is_upto s y.state) y.row (row_or r (last_in b (filter (λ (v : ChainVersion). is_upto s v.state) xs)))
upto_end s r b [] y = one (is_upto s y.state)
  where
    one : (d : Bool) → row_or r (last_in b (cond d (y ∷ []) [])) ≡ cond d y.row (row_or r b)
    one true = refl
    one false = refl
upto_end s r b (x ∷ xs) y = upto_step s r b x y xs (is_upto s x.state) (λ c. upto_end s r c xs y)

pub last_end : {X : Type 0} (b : Option X) (xs : List X) (y : X) → last_in b (xs ++ y ∷ []) ≡ Some y
last_end b [] y = refl
last_end b (x ∷ xs) y = last_end (Some x) xs y

module _ (p : ℕ) (r : Option RowOf) (decided : List Version) (kept : List ChainVersion)
    (are_stamped : Each (λ (v : Version). is_stamped v.standing ≡ true) decided)
    (reads : (s : ℕ) → p ≤ s → row_or r (last_upto s (map as_chain decided)) ≡ row_in (last_upto s kept))
    (last : (s : ℕ) → p ≤ s → past_of s (last_in None (map as_chain decided)) ≡ past_of s (last_in None kept)) where
  with_pending : (u : Option Version) → IfSome u (λ v. is_undecided v.standing ≡ true) → RowIs p r (decided ++ listed u) (record { settled = kept; top = some_chain u })
  with_pending u h = record { decided = decided; undecided = u; kept = kept; all = refl; are_stamped = are_stamped; is_pending = h; chain_is = refl; reads = reads; last = last }

  with_stamped : (v : Version) (n : ℕ) → v.standing ≡ Stamped n → RowIs p r (decided ++ v ∷ []) (record { settled = kept ++ as_chain v ∷ []; top = None })
  with_stamped v n e =
      let more : map as_chain (decided ++ v ∷ []) ≡ map as_chain decided ++ as_chain v ∷ [] = map-append as_chain decided (v ∷ []) in
      record {
        decided = decided ++ v ∷ [];
        undecided = None;
        kept = kept ++ as_chain v ∷ [];
        all = sym (append-nil (decided ++ v ∷ []));
        are_stamped = each_end (λ (v : Version). is_stamped v.standing ≡ true) decided v are_stamped (ap is_stamped e);
        is_pending = tt;
        chain_is = refl;
        reads = λ s l. ap (λ xs. row_or r (last_upto s xs)) more ∙ upto_end s r None (map as_chain decided) (as_chain v)
            ∙ ap (λ x. cond (is_upto s (state_of v.standing)) v.write.row x) (reads s l)
            ∙ sym (upto_end s None None kept (as_chain v));
        last = λ s l. ap (λ xs. past_of s (last_in None xs)) more ∙ ap (past_of s) (last_end None (map as_chain decided) (as_chain v) ∙ sym (last_end None kept (as_chain v)));
      }

  stamp_pending : (tx : Label) (n : ℕ) (u : Option Version) → IfSome u (λ v. is_undecided v.standing ≡ true)
      → RowIs p r (decided ++ restand tx (Stamped n) (listed u)) (cond (is_by tx (some_chain u)) (stamped (record { settled = kept; top = some_chain u }) n) (record { settled = kept; top = some_chain u }))
  stamp_pending tx n None h = with_pending None tt
  stamp_pending tx n (Some v) h = go (same_label tx v.by) refl
    where
      go : (b : Bool) → same_label tx v.by ≡ b
          → RowIs p r (decided ++ restand tx (Stamped n) (v ∷ [])) (cond b (stamped (record { settled = kept; top = Some (as_chain v) }) n) (record { settled = kept; top = Some (as_chain v) }))
      go true e = rw (cond-true (is_own tx v) (record v { standing = Stamped n }) v (and_from _ _ e h)) (with_stamped (record v { standing = Stamped n }) n refl)
      go false e = rw (cond-false (is_own tx v) (record v { standing = Stamped n }) v (and_left _ _ e)) (with_pending (Some v) h)

  close_pending : (tx : Label) (f : ℕ) (u : Option Version) → IfSome u (λ v. is_undecided v.standing ≡ true)
      → RowIs p r (decided ++ restand tx (Closed f) (listed u)) (cond (is_by tx (some_chain u)) (closed (record { settled = kept; top = some_chain u }) f) (record { settled = kept; top = some_chain u }))
  close_pending tx f None h = with_pending None tt
  close_pending tx f (Some v) h = go (same_label tx v.by) refl
    where
      go : (b : Bool) → same_label tx v.by ≡ b
          → RowIs p r (decided ++ restand tx (Closed f) (v ∷ [])) (cond b (closed (record { settled = kept; top = Some (as_chain v) }) f) (record { settled = kept; top = Some (as_chain v) }))
      go true e = rw (cond-true (is_own tx v) (record v { standing = Closed f }) v (and_from _ _ e h)) (with_pending (Some (record v { standing = Closed f })) refl)
      go false e = rw (cond-false (is_own tx v) (record v { standing = Closed f }) v (and_left _ _ e)) (with_pending (Some v) h)

  void_pending : (tx : Label) (u : Option Version) → IfSome u (λ v. is_undecided v.standing ≡ true)
      → RowIs p r (decided ++ filter (λ v. not (is_own tx v)) (listed u)) (cond (is_by tx (some_chain u)) (voided (record { settled = kept; top = some_chain u })) (record { settled = kept; top = some_chain u }))
  void_pending tx None h = with_pending None tt
  void_pending tx (Some v) h = go (same_label tx v.by) refl
    where
      go : (b : Bool) → same_label tx v.by ≡ b
          → RowIs p r (decided ++ filter (λ v. not (is_own tx v)) (v ∷ [])) (cond b (voided (record { settled = kept; top = Some (as_chain v) })) (record { settled = kept; top = Some (as_chain v) }))
      go true e = rw (cond-false (not (is_own tx v)) (v ∷ []) [] (ap not (and_from _ _ e h))) (with_pending None tt)
      go false e = rw (cond-true (not (is_own tx v)) (v ∷ []) [] (ap not (and_left _ _ e))) (with_pending (Some v) h)

-- the standing that an act gives
abbrev pub standing_of : Act → TableState
standing_of (act.Close f) = Closed f
standing_of (act.Stamp n) = Stamped n
standing_of act.Void = Dropped

-- one act on a transaction's versions: of each row
pub row_act : (a : Act) (p : ℕ) (r : Option RowOf) (tx : Label) (t : ℕ) (key : Value) (vs : List Version) (c : Chained) → RowIs p r (row_versions t key vs) c
    → RowIs p r (row_versions t key (restand tx (standing_of a) vs)) (cond (is_by tx c.top) (ended a c) c)
row_act a p r tx t key vs c h =
    subst (λ d. RowIs p r (row_versions t key (restand tx (standing_of a) vs)) (cond (is_by tx d.top) (ended a d) d)) (sym h.chain_is) (go a)
  where
    k : Chained
    k = record { settled = h.kept; top = some_chain h.undecided }

    go : (a : Act) → RowIs p r (row_versions t key (restand tx (standing_of a) vs)) (cond (is_by tx (some_chain h.undecided)) (ended a k) k)
    go (act.Close f) =
        subst (λ xs. RowIs p r xs (cond (is_by tx (some_chain h.undecided)) (closed k f) k))
        (sym (row_restand tx (Closed f) t key refl vs ∙ ap (restand tx (Closed f)) h.all ∙ restand_decided tx (Closed f) h.decided (listed h.undecided) h.are_stamped))
        (close_pending p r h.decided h.kept h.are_stamped h.reads h.last tx f h.undecided h.is_pending)
    go (act.Stamp n) =
        subst (λ xs. RowIs p r xs (cond (is_by tx (some_chain h.undecided)) (stamped k n) k))
        (sym (row_restand tx (Stamped n) t key refl vs ∙ ap (restand tx (Stamped n)) h.all ∙ restand_decided tx (Stamped n) h.decided (listed h.undecided) h.are_stamped))
        (stamp_pending p r h.decided h.kept h.are_stamped h.reads h.last tx n h.undecided h.is_pending)
    go act.Void =
        subst (λ xs. RowIs p r xs (cond (is_by tx (some_chain h.undecided)) (voided k) k))
        (sym (row_drop tx t key vs ∙ ap (filter (λ v. not (is_own tx v))) h.all ∙ keep_decided tx h.decided (listed h.undecided) h.are_stamped))
        (void_pending p r h.decided h.kept h.are_stamped h.reads h.last tx h.undecided h.is_pending)
