-- What readers and writers find where versions were given up.
use Rattle.std.specs.Prelude.{◌≡◌, ℕ, ◌≤◌, zero, suc, List, [], ◌∷◌, ◌++◌, Option, Some, None, Bool, true, false, cond, not, slice_get, is_some}
use Rattle.std.proofs.Common.{Bor, refl, sym, ap, subst, ◌∙◌, arith}
use Rattle.std.specs.Option.{option_copied}
use Rattle.std.specs.List.{filter}
use Rattle.std.proofs.lemmas.Bool.{false≢true, leb-true, le-ltb}
use Rattle.sk_model.specs.EngineReplies.{last_in}
use Rattle.sk_model.proofs.Listed.{some_is, none_some}
use Rattle.sk_chain.specs.declared.version.VersionState.{VersionState}
use Rattle.sk_chain.specs.declared.version.VersionState.TheVariants.{Open, Closed, Stamped}
use Rattle.sk_chain.specs.declared.version.Version.{Version}
use Rattle.sk_chain.specs.Chained.{Chained, empty, versions}
use Rattle.sk_chain.specs.Reading.{is_upto, last_upto}
use Rattle.sk_chain.specs.Writing.{past_of, past_version}
use Rattle.sk_chain.specs.Changing.{trimmed}
use Rattle.sk_chain.proofs.Trimming.{last_upto_kept, last_kept}
use Rattle.sk_engine.specs.Rows.{row_in, AgreeFrom}

pub trim_agrees : (u : ℕ) (c : Chained) → AgreeFrom u c (trimmed c u)
trim_agrees u c = record {
  top = refl;
  reads = λ s l. ap row_in (last_upto_kept u s l c.settled);
  last = λ s l. ap (past_of s) (last_kept u c.settled);
}

pub itself : (u : ℕ) (c : Chained) → AgreeFrom u c c
itself u c = record { top = refl; reads = λ s l. refl; last = λ s l. refl }

pub agree_both : (u : ℕ) (c d e : Chained) → AgreeFrom u c d → AgreeFrom u d e → AgreeFrom u c e
agree_both u c d e a b = record {
  top = b.top ∙ a.top;
  reads = λ s l. b.reads s l ∙ a.reads s l;
  last = λ s l. b.last s l ∙ a.last s l;
}

-- a version with a number up to u is in nobody's way from u on
not_past : (u s : ℕ) (v : Version) → u ≤ s → is_upto u v.state ≡ true → past_version s v ≡ None
not_past u s v l = by_state v.state
  where
    by_state : (st : VersionState) → is_upto u st ≡ true → past_version s (record v { state = st }) ≡ None
    by_state Open e = refl
    by_state (Closed f) e = refl
    by_state (Stamped n) e =
        let m : n ≤ u = leb-true n u e in
        let k : n ≤ s = omega arith in
        rw (le-ltb s n k) refl

-- one version that is found from u on is an absence, and there is no other
only_absence : (u : ℕ) (settled : List Version) (top : Option Version) (v : Version) → slice_get (versions (record { settled = settled; top = top })) 1 ≡ None → last_upto u settled ≡ Some v → v.row ≡ None
    → AgreeFrom u (record { settled = settled; top = top }) empty
only_absence u [] top v one found gone = none_some found
only_absence u (w ∷ []) None v one found gone = by_found (is_upto u w.state) refl found
  where
    reading : (s : ℕ) (b : Bool) → w.row ≡ None → None ≡ row_in (last_in None (cond b (w ∷ []) []))
    reading s true e = sym e
    reading s false e = refl

    by_found : (b : Bool) → is_upto u w.state ≡ b → last_in None (cond b (w ∷ []) []) ≡ Some v → AgreeFrom u (record { settled = w ∷ []; top = None }) empty
    by_found false e f = none_some f
    by_found true e f =
        let none : w.row ≡ None = ap (λ (x : Version). x.row) (some_is f) ∙ gone in
        record { top = refl; reads = λ s l. reading s (is_upto s w.state) none; last = λ s l. sym (not_past u s w l e) }
only_absence u (w ∷ []) (Some t) v one found gone = none_some (sym one)
only_absence u (w ∷ x ∷ settled) top v one found gone = none_some (sym one)

pub gone_agrees : (u : ℕ) (c : Chained) (v : Version) → slice_get (versions c) 1 ≡ None → last_upto u c.settled ≡ Some v → v.row ≡ None → AgreeFrom u c empty
gone_agrees u c v one found gone = only_absence u c.settled c.top v one found gone

pub none_copied : {X : Type 0} (o : Option (Bor X)) → is_some o ≡ false → option_copied o ≡ None
none_copied None e = refl
none_copied (Some x) e = absurd (false≢true (sym e))

pub none_since : {X : Type 0} (o : Option X) (b : Bool) → is_some o ≡ not b → b ≡ true → o ≡ None
none_since None b e t = refl
none_since (Some x) b e t = absurd (false≢true (sym (e ∙ ap not t)))
