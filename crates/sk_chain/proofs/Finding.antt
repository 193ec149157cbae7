-- What a reader finds at the index that it sees.
use Rattle.std.proofs.Common.{ℕ, ◌≡◌, List, [], ◌∷◌, ◌++◌, Option, Some, None, Bool, true, false, cond, length, slice_get, is_some, refl, sym, ◌∙◌, ap, subst, append-nil}
use Rattle.std.specs.List.{filter}
use Rattle.sk_model.specs.declared.label.Label.{Label}
use Rattle.sk_model.specs.EngineReplies.{last_in}
use Rattle.sk_model.specs.Records.{same_label}
use Rattle.sk_chain.specs.declared.version.Seen.TheVariants.{At, Busy}
use Rattle.sk_chain.specs.Chained.{Chained, Version, listed, versions}
use Rattle.sk_chain.specs.Reading.{is_upto, is_closed_below, later_or, newest, seen_index, over, Sees, Waits, seen_at, sight_of, last_upto, found_over, found}

abbrev pub first_of : Option Version → Option Version → Option Version
first_of (Some v) other = Some v
first_of None other = other

abbrev pub only_if : Bool → Version → Option Version
only_if here v = cond here (Some v) None

last_is_first : (v : Version) (vs : List Version) → last_in (Some v) vs ≡ first_of (last_in None vs) (Some v)
last_is_first v [] = refl
last_is_first v (w ∷ ws) = last_is_first w ws ∙ first_again (last_in None ws) ∙ ap (λ o. first_of o (Some v)) (sym (last_is_first w ws))
  where
    first_again : (o : Option Version) → first_of o (Some w) ≡ first_of (first_of o (Some w)) (Some v)
    first_again (Some x) = refl
    first_again None = refl

-- the last one stamped up to s is among the later ones, or else the first one
pub last_upto-cons : (s : ℕ) (v : Version) (vs : List Version) → last_upto s (v ∷ vs) ≡ first_of (last_upto s vs) (only_if (is_upto s v.state) v)
last_upto-cons s v vs = step (is_upto s v.state)
  where
    rest : List Version
    rest = filter (λ w. is_upto s w.state) vs

    first_none : (o : Option Version) → o ≡ first_of o None
    first_none (Some x) = refl
    first_none None = refl

    step : (here : Bool) → last_in None (cond here (v ∷ rest) rest) ≡ first_of (last_in None rest) (only_if here v)
    step true = last_is_first v rest
    step false = first_none (last_in None rest)

abbrev pub at_index : Option ℕ → List Version → Option Version
at_index None vs = None
at_index (Some at) vs = slice_get vs at

-- this index is that of this version, or both are missing
pub record Fits (o : Option ℕ) (vs : List Version) (f : Option Version) : Type 0 where
  pub index : at_index o vs ≡ f
  pub some : is_some o ≡ is_some f

fits_more : (v : Version) (vs : List Version) (o : Option ℕ) (f : Option Version) (here : Bool) → Fits o vs f → Fits (later_or o here) (v ∷ vs) (first_of f (only_if here v))
fits_more v vs (Some at) (Some w) here h = record { index = h.index; some = refl }
fits_more v vs (Some at) None here h = cc
fits_more v vs None (Some w) here h = cc
fits_more v vs None None true h = record { index = refl; some = refl }
fits_more v vs None None false h = record { index = refl; some = refl }

-- the newest index is that of the last version stamped up to s
pub fits : (s : ℕ) (vs ws : List Version) → Fits (newest s vs) (vs ++ ws) (last_upto s vs)
fits s [] ws = record { index = refl; some = refl }
fits s (v ∷ vs) ws =
    subst (λ f. Fits (newest s (v ∷ vs)) (v ∷ (vs ++ ws)) f) (sym (last_upto-cons s v vs))
    (fits_more v (vs ++ ws) (newest s vs) (last_upto s vs) (is_upto s v.state) (fits s vs ws))

-- what stands at the newest index
pub newest_shows : (s : ℕ) (vs : List Version) → at_index (newest s vs) vs ≡ last_upto s vs
newest_shows s vs = ap (at_index (newest s vs)) (sym (append-nil vs)) ∙ (fits s vs []).index

index_is : (o : Option ℕ) (vs : List Version) → sight_of vs (seen_index o) ≡ Sees (at_index o vs)
index_is None vs = refl
index_is (Some at) vs = refl

at_end : (v : Version) (vs : List Version) → slice_get (vs ++ v ∷ []) (length vs) ≡ Some v
at_end v [] = refl
at_end v (w ∷ ws) = at_end v ws

shows : (by : Label) (s : ℕ) (vs : List Version) (t : Option Version) → sight_of (vs ++ listed t) (over by s (length vs) t (seen_index (newest s vs))) ≡ found_over by s t (last_upto s vs)
shows by s vs None = index_is (newest s vs) (vs ++ []) ∙ ap Sees (fits s vs []).index
shows by s vs (Some v) = choose (same_label by v.by) (is_closed_below s v.state)
  where
    choose : (own waits : Bool)
        → sight_of (vs ++ v ∷ []) (cond own (At (length vs)) (cond waits (Busy v.by) (seen_index (newest s vs))))
        ≡ cond own (Sees (Some v)) (cond waits (Waits v.by) (Sees (last_upto s vs)))
    choose true waits = ap Sees (at_end v vs)
    choose false true = refl
    choose false false = index_is (newest s vs) (vs ++ v ∷ []) ∙ ap Sees (fits s vs (v ∷ [])).index

-- what stands at the index that a reader sees is what it is to find
pub index_shows : (c : Chained) (by : Label) (s : ℕ) → sight_of (versions c) (seen_at c by s) ≡ found c by s
index_shows c by s = shows by s c.settled c.top
