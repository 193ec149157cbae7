-- The newest version by a search from the end, and the last element by its index.
use Rattle.std.proofs.Common.{ℕ, zero, suc, ◌-◌, ◌≤◌, ◌≡◌, List, [], ◌∷◌, Option, Some, None, Bool, true, false, cond, length, take, get_or, slice_get, refl, sym, ◌∙◌, ap, arith}
use Rattle.std.proofs.lemmas.List.{length-take-le}
use Rattle.sk_model.specs.EngineReplies.{last_in}
use Rattle.sk_chain.specs.Chained.{Version}
use Rattle.sk_chain.specs.Reading.{is_upto, later_or, newest}

later_end : (here other : Bool) (n : ℕ) (o : Option ℕ) → later_or (cond here (Some n) o) other ≡ cond here (Some (suc n)) (later_or o other)
later_end true other n o = refl
later_end false other n o = refl

-- the last version goes before the others
newest_last : (s n : ℕ) (vs : List Version) (v : Version) → suc n ≡ length vs → v ≡ get_or vs n v
    → newest s vs ≡ cond (is_upto s v.state) (Some n) (newest s (take n vs))
newest_last s n [] v e g = absurd (omega arith)
newest_last s zero (w ∷ []) v e g = ap (λ x. later_or None (is_upto s x.state)) (sym g)
newest_last s zero (w ∷ x ∷ xs) v e g = absurd (omega arith)
newest_last s (suc n) (w ∷ ws) v e g =
    let f : suc n ≡ length ws = omega arith in
    ap (λ o. later_or o (is_upto s w.state)) (newest_last s n ws v f g) ∙ later_end (is_upto s v.state) (is_upto s w.state) n (newest s (take n ws))

newest_split : (s : ℕ) (vs : List Version) (v : Version) → 1 ≤ length vs → v ≡ get_or vs (length vs - 1) v
    → newest s vs ≡ cond (is_upto s v.state) (Some (length vs - 1)) (newest s (take (length vs - 1) vs))
newest_split s vs v some last = let e : suc (length vs - 1) ≡ length vs = omega arith in newest_last s (length vs - 1) vs v e last

-- a search from the end comes to the newest one
pub newest_here : (s : ℕ) (vs : List Version) (v : Version) → 1 ≤ length vs → v ≡ get_or vs (length vs - 1) v → is_upto s v.state ≡ true
    → Some (length (take (length vs - 1) vs)) ≡ newest s vs
newest_here s vs v some last here =
    let within : length vs - 1 ≤ length vs = omega arith in
    ap Some (length-take-le (length vs - 1) vs within)
    ∙ sym (newest_split s vs v some last ∙ ap (λ b. cond b (Some (length vs - 1)) (newest s (take (length vs - 1) vs))) here)

-- or goes on among those before
pub newest_before : (s : ℕ) (vs : List Version) (v : Version) → 1 ≤ length vs → v ≡ get_or vs (length vs - 1) v → is_upto s v.state ≡ false
    → newest s (take (length vs - 1) vs) ≡ newest s vs
newest_before s vs v some last here =
    sym (newest_split s vs v some last ∙ ap (λ b. cond b (Some (length vs - 1)) (newest s (take (length vs - 1) vs))) here)

last_from : {X : Type 0} (x : X) (xs : List X) → slice_get (x ∷ xs) (length xs) ≡ last_in (Some x) xs
last_from x [] = refl
last_from x (y ∷ ys) = last_from y ys

pub last_is : {X : Type 0} (xs : List X) → slice_get xs (length xs - 1) ≡ last_in None xs
last_is [] = refl
last_is {X} (x ∷ xs) = let e : suc (length xs) - 1 ≡ length xs = omega arith in ap (slice_get (x ∷ xs)) e ∙ last_from x xs
