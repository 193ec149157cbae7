-- A trim takes nothing away that a reader from its number on, or a writer, finds.
use Rattle.std.proofs.Common.{ℕ, ◌≡◌, ◌≤◌, List, [], ◌∷◌, Option, Some, None, Bool, true, false, is_some, refl, sym, ◌∙◌, ap, arith}
use Rattle.std.proofs.lemmas.Bool.Decides.{nat_tests}
use Rattle.sk_model.specs.declared.label.Label.{Label}
use Rattle.sk_model.specs.EngineReplies.{last_in}
use Rattle.sk_chain.specs.declared.version.VersionState.{VersionState}
use Rattle.sk_chain.specs.declared.version.VersionState.TheVariants.{Open, Closed, Stamped}
use Rattle.sk_chain.specs.Chained.{Chained, Version}
use Rattle.sk_chain.specs.Reading.{is_upto, later_or, newest, last_upto, found_over, found}
use Rattle.sk_chain.specs.Writing.{past_of, rival_or, conflict}
use Rattle.sk_chain.specs.Changing.{from_index, trimmed}
use Rattle.sk_chain.proofs.Finding.{first_of, only_if, last_upto-cons, fits}

-- what is up to u is up to s
upto_more : (u s : ℕ) → u ≤ s → (x : VersionState) → is_upto u x ≡ true → is_upto s x ≡ true
upto_more u s l Open h = cc
upto_more u s l (Closed f) h = cc
upto_more u s l (Stamped n) h = grind (arith, nat_tests)

still_some : (v : Version) (f g : Option Version) (here there : Bool) → (is_some f ≡ true → is_some g ≡ true) → (here ≡ true → there ≡ true)
    → is_some (first_of f (only_if here v)) ≡ true → is_some (first_of g (only_if there v)) ≡ true
still_some v f (Some w) here there more upto h = refl
still_some v (Some w) None here there more upto h = let e : is_some {T = Version} None ≡ true = more refl in cc
still_some v None None true there more upto h = ap (λ b. is_some (only_if b v)) (upto refl)
still_some v None None false there more upto h = cc

upto_stays : (u s : ℕ) → u ≤ s → (vs : List Version) → is_some (last_upto u vs) ≡ true → is_some (last_upto s vs) ≡ true
upto_stays u s l [] h = h
upto_stays u s l (v ∷ vs) h =
    ap is_some (last_upto-cons s v vs)
    ∙ still_some v (last_upto u vs) (last_upto s vs) (is_upto u v.state) (is_upto s v.state) (upto_stays u s l vs) (upto_more u s l v.state)
    (ap is_some (sym (last_upto-cons u v vs)) ∙ h)

first_some : (f other : Option Version) → is_some f ≡ true → first_of f other ≡ f
first_some (Some v) other h = refl
first_some None other h = cc

none_gone : (v : Version) (vs : List Version) (here : Bool) → from_index (later_or None here) (v ∷ vs) ≡ v ∷ vs
none_gone v vs true = refl
none_gone v vs false = refl

pub last_upto_kept : (u s : ℕ) → u ≤ s → (vs : List Version) → last_upto s (from_index (newest u vs) vs) ≡ last_upto s vs
last_upto_kept u s l [] = refl
last_upto_kept u s l (v ∷ vs) = step (newest u vs) refl (last_upto_kept u s l vs)
  where
    step : (o : Option ℕ) → newest u vs ≡ o → last_upto s (from_index (newest u vs) vs) ≡ last_upto s vs
        → last_upto s (from_index (later_or o (is_upto u v.state)) (v ∷ vs)) ≡ last_upto s (v ∷ vs)
    step (Some at) e kept =
        let there : is_some (last_upto u vs) ≡ true = sym (fits u vs []).some ∙ ap is_some e in
        ap (λ o. last_upto s (from_index o vs)) (sym e) ∙ kept ∙ sym (first_some (last_upto s vs) (only_if (is_upto s v.state) v) (upto_stays u s l vs there)) ∙ sym (last_upto-cons s v vs)
    step None e kept = ap (last_upto s) (none_gone v vs (is_upto u v.state))

last_more : (u : ℕ) (v : Version) (vs : List Version) (at : ℕ) → newest u vs ≡ Some at → last_in None vs ≡ last_in (Some v) vs
last_more u v [] at e = cc
last_more u v (w ∷ ws) at e = refl

pub last_kept : (u : ℕ) (vs : List Version) → last_in None (from_index (newest u vs) vs) ≡ last_in None vs
last_kept u [] = refl
last_kept u (v ∷ vs) = step (newest u vs) refl (last_kept u vs)
  where
    step : (o : Option ℕ) → newest u vs ≡ o → last_in None (from_index (newest u vs) vs) ≡ last_in None vs
        → last_in None (from_index (later_or o (is_upto u v.state)) (v ∷ vs)) ≡ last_in None (v ∷ vs)
    step (Some at) e kept = ap (λ o. last_in None (from_index o vs)) (sym e) ∙ kept ∙ last_more u v vs at e
    step None e kept = ap (last_in None) (none_gone v vs (is_upto u v.state))

pub trim_reads : (c : Chained) (u : ℕ) (by : Label) (s : ℕ) → u ≤ s → found (trimmed c u) by s ≡ found c by s
trim_reads c u by s l = ap (found_over by s c.top) (last_upto_kept u s l c.settled)

pub trim_writes : (c : Chained) (u : ℕ) (by : Label) (s : ℕ) → conflict (trimmed c u) by s ≡ conflict c by s
trim_writes c u by s = ap (λ v. rival_or by c.top (past_of s v)) (last_kept u c.settled)
