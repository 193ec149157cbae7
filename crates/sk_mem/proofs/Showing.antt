-- What is read of the maps, and what calls leave of them, over what they show.
use Rattle.std.specs.Prelude.{◌≡◌, ℕ, List, Option, Some, None, Result, Ok, Err, Bool, true, false, cond, not, ◌&&◌, ◌==◌, length}
use Rattle.std.proofs.Common.{inl, inr, refl, sym, ap, subst, ◌∙◌}
use Rattle.std.specs.BTreeMap.{BTreeMap}
use Rattle.std.specs.Cmp.{eq_by_cmp_equiv}
use Rattle.sk_rows.specs.declared.value.Value.{Value}
use Rattle.sk_rows.specs.declared.table.Table.{Table}
use Rattle.sk_rows.specs.Orders.{value_cmp_total}
use Rattle.sk_model.specs.declared.label.Label.{Label}
use Rattle.sk_model.specs.declared.call.EngineFault.{EngineFault}
use Rattle.sk_model.specs.declared.call.EngineFault.TheVariants as fault
use Rattle.sk_model.specs.declared.call.EngineReply.{EngineReply}
use Rattle.sk_model.specs.Database.{RowOf}
use Rattle.sk_chain.specs.Chained.{Chained}
use Rattle.sk_chain.specs.Writing.{conflict, is_by, past_of}
use Rattle.sk_chain.specs.Changing.{pushed, trimmed}
use Rattle.sk_engine.specs.Rows.{Chains, is_row_id, with_chain, reading, row_in, GivesReply, Scans, Pushed, AgreeFrom, ChainsAgree}
use Rattle.sk_mem.specs.Chains.{chain_at, is_at_row, Shows, Answers, Wrote}
use Rattle.sk_mem.specs.Scanning.{ScansTable}
use Rattle.sk_mem.proofs.Maps.{row_is}
use Rattle.sk_mem.proofs.Forgetting.{itself}

abbrev Maps : Type 0
Maps = List (BTreeMap Value Chained)

-- what is answered of a chain is answered of what is shown for it
pub gives : (told : Bool) (before now : ℕ) (Like : Type 0) (due shown : EngineReply) (reply : Option EngineReply) → shown ≡ due → Answers reply due → GivesReply told before now Like shown reply
gives told before now Like due shown None is a = tt
gives told before now Like due shown (Some reply) is a = inr (inl (is ∙ sym a))

pub scans : (told : Bool) (before now : ℕ) (catalog : List Table) (maps : Maps) (tables : List Table) (chains : Chains) (t : ℕ) (by : Label) (s : ℕ) (reply : Option EngineReply)
    → Shows catalog maps tables chains → ScansTable (chain_at maps t) by s reply → Scans told before now tables t (λ key. reading (chains t key) by s) reply
scans told before now catalog maps tables chains t by s None h a = tt
scans told before now catalog maps tables chains t by s (Some reply) h a =
    let same : chain_at maps t ≡ chains t = λ i key. sym (h.chains t key) i in
    inr (inl (subst (λ chain. ScansTable chain by s (Some reply)) same a))

same_row : (t : ℕ) (k : Value) (u : ℕ) (key : Value) → is_at_row t k u key ≡ is_row_id t k (record { table = u; key = key })
same_row t k u key = ap (λ b. (t == u) && b) ((eq_by_cmp_equiv value_cmp_total).symm key k)

module _ (catalog : List Table) (old new : Maps) (tables : List Table) (chains : Chains) (u : ℕ) (key : Value) where
  -- one row was changed by f, and no other
  pub shows_changed : (f : Chained → Chained) → Shows catalog old tables chains → length new ≡ length old
      → ((t : ℕ) (k : Value) → chain_at new t k ≡ cond (is_at_row t k u key) (f (chain_at old t k)) (chain_at old t k))
      → Shows catalog new tables (with_chain chains (record { table = u; key = key }) (f (chains u key)))
  shows_changed f h len is = record {
    catalog = h.catalog;
    count = len ∙ h.count;
    chains = λ t k. ap (λ b. cond b (f (chains u key)) (chains t k)) (sym (same_row t k u key)) ∙ go t k (is_at_row t k u key) refl ∙ sym (is t k);
  }
    where
      go : (t : ℕ) (k : Value) (b : Bool) → is_at_row t k u key ≡ b → cond b (f (chains u key)) (chains t k) ≡ cond b (f (chain_at old t k)) (chain_at old t k)
      go t k true e =
          let at : (t ≡ u) × (k ≡ key) = row_is t k u key e in
          ap (λ n. f (chains n key)) (sym at.0) ∙ ap (λ q. f (chains t q)) (sym at.1) ∙ ap f (h.chains t k)
      go t k false e = h.chains t k

  -- one row was written, and no other
  pub shows_written : (c : Chained) → Shows catalog old tables chains → length new ≡ length old → chain_at new u key ≡ c
      → ((t : ℕ) (k : Value) → is_at_row t k u key ≡ false → chain_at new t k ≡ chain_at old t k)
      → Shows catalog new tables (with_chain chains (record { table = u; key = key }) c)
  shows_written c h len here others = record {
    catalog = h.catalog;
    count = len ∙ h.count;
    chains = λ t k. ap (λ b. cond b c (chains t k)) (sym (same_row t k u key)) ∙ go t k (is_at_row t k u key) refl;
  }
    where
      go : (t : ℕ) (k : Value) (b : Bool) → is_at_row t k u key ≡ b → cond b c (chains t k) ≡ chain_at new t k
      go t k true e =
          let at : (t ≡ u) × (k ≡ key) = row_is t k u key e in
          sym here ∙ ap (λ n. chain_at new n key) (sym at.0) ∙ ap (chain_at new t) (sym at.1)
      go t k false e = h.chains t k ∙ sym (others t k e)

  -- no row was changed
  pub shows_kept : Shows catalog old tables chains → length new ≡ length old → chain_at new u key ≡ chain_at old u key
      → ((t : ℕ) (k : Value) → is_at_row t k u key ≡ false → chain_at new t k ≡ chain_at old t k) → Shows catalog new tables chains
  shows_kept h len here others = record {
    catalog = h.catalog;
    count = len ∙ h.count;
    chains = λ t k. h.chains t k ∙ go t k (is_at_row t k u key) refl;
  }
    where
      go : (t : ℕ) (k : Value) (b : Bool) → is_at_row t k u key ≡ b → chain_at old t k ≡ chain_at new t k
      go t k true e =
          let at : (t ≡ u) × (k ≡ key) = row_is t k u key e in
          ap (λ n. chain_at old n k) at.0 ∙ ap (chain_at old u) at.1 ∙ sym here ∙ ap (λ n. chain_at new n key) (sym at.0) ∙ ap (chain_at new t) (sym at.1)
      go t k false e = sym (others t k e)

-- a write
module _ {S : Type 0} (shows : S → List Table → Chains → Type 0) (before now : ℕ) (rows : S) (catalog : List Table) (old new : Maps) (tables : List Table) (chains : Chains) (u : ℕ) (key : Value) (by : Label) (s : ℕ) (row : Option RowOf)
    (shown : (then : Chains) → Shows catalog new tables then → shows rows tables then) (h : Shows catalog old tables chains) (len : length new ≡ length old)
    (others : (t : ℕ) (k : Value) → is_at_row t k u key ≡ false → chain_at new t k ≡ chain_at old t k) where
  pub pushes : (result : Result Bool EngineFault) → Wrote (chain_at old u key) (chain_at new u key) by s row result
      → Pushed shows before now rows tables chains (record { table = u; key = key }) by s row result
  pushes (Ok first) w = (
    ap (λ c. conflict c by s) (h.chains u key) ∙ w.0,
    w.2 ∙ ap (λ c. not (is_by by c.top)) (sym (h.chains u key)),
    shown (with_chain chains (record { table = u; key = key }) (pushed (chains u key) by row))
        (shows_written catalog old new tables chains u key (pushed (chains u key) by row) h len (w.1 ∙ ap (λ c. pushed c by row) (sym (h.chains u key))) others),
  )
  pushes (Err (fault.Conflict other why)) w = (ap (λ c. conflict c by s) (h.chains u key) ∙ w.0, shown chains (shows_kept catalog old new tables chains u key h len w.1 others))
  pushes (Err fault.NoMemory) w = shown chains (shows_kept catalog old new tables chains u key h len w others)
  pushes (Err fault.Device) w = absurd w
  pushes (Err (fault.Old a b)) w = absurd w
  pushes (Err (fault.Busy other)) w = absurd w

-- what was given up of a row nobody from the number on finds
pub forgets : (catalog : List Table) (old new : Maps) (tables : List Table) (chains : Chains) (u : ℕ) (key : Value) (upto : ℕ) → Shows catalog old tables chains → length new ≡ length old
    → AgreeFrom upto (chain_at old u key) (chain_at new u key) → ((t : ℕ) (k : Value) → is_at_row t k u key ≡ false → chain_at new t k ≡ chain_at old t k)
    → (then : Chains) × ChainsAgree upto chains then × Shows catalog new tables then
forgets catalog old new tables chains u key upto h len here others =
    (chain_at new, λ t k. subst (λ d. AgreeFrom upto d (chain_at new t k)) (sym (h.chains t k)) (go t k (is_at_row t k u key) refl), record { catalog = h.catalog; count = len ∙ h.count; chains = λ t k. refl })
  where
    go : (t : ℕ) (k : Value) (b : Bool) → is_at_row t k u key ≡ b → AgreeFrom upto (chain_at old t k) (chain_at new t k)
    go t k true e =
        let at : (t ≡ u) × (k ≡ key) = row_is t k u key e in
        subst (λ n. AgreeFrom upto (chain_at old n k) (chain_at new n k)) (sym at.0) (subst (λ q. AgreeFrom upto (chain_at old u q) (chain_at new u q)) (sym at.1) here)
    go t k false e = subst (λ d. AgreeFrom upto (chain_at old t k) d) (sym (others t k e)) (itself upto (chain_at old t k))
