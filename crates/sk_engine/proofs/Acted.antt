-- One act at each of some rows.
use Rattle.std.specs.Prelude.{◌≡◌, ℕ, List, [], ◌∷◌, ◌++◌, Option, Some, None, Bool, true, false, cond, ◌||◌}
use Rattle.std.proofs.Common.{refl, sym, ap, ◌∙◌}
use Rattle.std.proofs.lemmas.List.Folds.{list_any-append}
use Rattle.std.proofs.Math.Bool.{or-false, or-true}
use Rattle.sk_rows.specs.declared.value.Value.{Value}
use Rattle.sk_model.specs.declared.label.Label.{Label}
use Rattle.sk_model.specs.Database.{RowOf}
use Rattle.sk_chain.specs.declared.version.VersionState.{VersionState}
use Rattle.sk_chain.specs.declared.version.VersionState.TheVariants as state
use Rattle.sk_chain.specs.declared.version.Version.{Version}
use Rattle.sk_chain.specs.Chained.{Chained}
use Rattle.sk_engine.specs.declared.act.Act.{Act}
use Rattle.sk_engine.specs.declared.act.Act.TheVariants as act
use Rattle.sk_engine.specs.declared.row_id.RowId.{RowId}
use Rattle.sk_engine.specs.Rows.{Chains, is_row_id, is_among, with_chain, acted, all_acted}
use Rattle.sk_engine.proofs.RowIds.{row_id_is}

close_twice : (f : ℕ) (settled : List Version) (by : Label) (row : Option RowOf) (st : VersionState)
    → acted (act.Close f) (acted (act.Close f) (record { settled = settled; top = Some (record { by = by; state = st; row = row }) })) ≡ acted (act.Close f) (record { settled = settled; top = Some (record { by = by; state = st; row = row }) })
close_twice f settled by row state.Open = refl
close_twice f settled by row (state.Closed g) = refl
close_twice f settled by row (state.Stamped n) = refl

stamp_twice : (n : ℕ) (settled : List Version) (by : Label) (row : Option RowOf) (st : VersionState)
    → acted (act.Stamp n) (acted (act.Stamp n) (record { settled = settled; top = Some (record { by = by; state = st; row = row }) })) ≡ acted (act.Stamp n) (record { settled = settled; top = Some (record { by = by; state = st; row = row }) })
stamp_twice n settled by row state.Open = refl
stamp_twice n settled by row (state.Closed g) = refl
stamp_twice n settled by row (state.Stamped m) = refl

-- an act done twice is done once
pub acted_twice : (a : Act) (c : Chained) → acted a (acted a c) ≡ acted a c
acted_twice a c = go a c.settled c.top
  where
    go : (a : Act) (settled : List Version) (top : Option Version) → acted a (acted a (record { settled = settled; top = top })) ≡ acted a (record { settled = settled; top = top })
    go (act.Close f) settled None = refl
    go (act.Close f) settled (Some v) = close_twice f settled v.by v.row v.state
    go (act.Stamp n) settled None = refl
    go (act.Stamp n) settled (Some v) = stamp_twice n settled v.by v.row v.state
    go act.Void settled top = refl

or_end : (a b : Bool) → (a || (b || false)) ≡ (a || b)
or_end true b = refl
or_end false true = refl
or_end false false = refl

-- one row more
one_more : (a : Act) (ys : List RowId) (p : RowId) (chains : Chains) (t : ℕ) (key : Value)
    → with_chain (all_acted a ys chains) p (acted a (all_acted a ys chains p.table p.key)) t key ≡ all_acted a (ys ++ p ∷ []) chains t key
one_more a ys p chains t key =
    at (is_row_id t key p) (is_among t key ys) refl refl
    ∙ ap (λ b. cond b (acted a (chains t key)) (chains t key)) (sym (list_any-append (is_row_id t key) ys (p ∷ []) ∙ or_end (is_among t key ys) (is_row_id t key p)))
  where
    twice : (b : Bool) → acted a (cond b (acted a (chains t key)) (chains t key)) ≡ acted a (chains t key)
    twice true = acted_twice a (chains t key)
    twice false = refl

    here : is_row_id t key p ≡ true → all_acted a ys chains p.table p.key ≡ all_acted a ys chains t key
    here d = let is : (t ≡ p.table) × (key ≡ p.key) = row_id_is t key p d in
        ap (λ n. all_acted a ys chains n p.key) (sym is.0) ∙ ap (all_acted a ys chains t) (sym is.1)

    at : (d b : Bool) → is_row_id t key p ≡ d → is_among t key ys ≡ b
        → cond d (acted a (all_acted a ys chains p.table p.key)) (all_acted a ys chains t key) ≡ cond (is_among t key ys || d) (acted a (chains t key)) (chains t key)
    at true b d e = ap (acted a) (here d) ∙ twice (is_among t key ys) ∙ ap (λ b. cond b (acted a (chains t key)) (chains t key)) (sym (or-true (is_among t key ys)))
    at false b d e = ap (λ b. cond b (acted a (chains t key)) (chains t key)) (sym (or-false (is_among t key ys)))

pub next_row_id : (a : Act) (ys : List RowId) (p : RowId) (chains : Chains) → with_chain (all_acted a ys chains) p (acted a (all_acted a ys chains p.table p.key)) ≡ all_acted a (ys ++ p ∷ []) chains
next_row_id a ys p chains = λ i t key. one_more a ys p chains t key i
