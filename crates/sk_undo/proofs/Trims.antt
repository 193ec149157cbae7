-- A trim takes no version that a snapshot from its number on can see.
use Rattle.std.proofs.Common.{◌≡◌, ℕ, zero, suc, ◌+◌, ◌≤◌, ◌<◌, Bool, true, false, cond, leb, [], ◌∷◌, ◌++◌, length, take, drop, map, get_or, slice_set, Option, Some, None, refl, sym, ap, subst, ◌∙◌, arith}
use Rattle.std.proofs.lemmas.Bool.{leb-false, leb-true, le-leb}
use Rattle.sk_undo.specs.declared.undo.Undo.{Undo}
use Rattle.sk_undo.specs.Log.{Log, Stays, record_at, is_at_most, is_dead, trimmed, older_of, AreWhole, IsNamed, LinksTo, IsLinked, AreLinked, bound, met, walk, newest_for}
use Rattle.sk_undo.proofs.Places.{past_leb, enough}

pub trim_at : (upto : ℕ) (log : Log) (at : ℕ) → record_at (map (trimmed upto) log) at ≡ trimmed upto (record_at log at)
unfolding trimmed
trim_at upto [] at = refl
trim_at upto (s ∷ log) zero = refl
trim_at upto (s ∷ log) (suc at) = trim_at upto log at

-- a record named by a number past upto stays, and so does what names it
kept : (upto n : ℕ) (s : Option Undo) → upto < n → IsNamed s n → IsNamed (trimmed upto s) n
unfolding trimmed
kept upto n None lt h = absurd h
kept upto n (Some v) lt h = from (is_at_most v.newer upto) refl (leb v.n upto)
  where
    from : (a : Bool) → is_at_most v.newer upto ≡ a → (b : Bool) → IsNamed (cond a None (cond b (Some (record v { older = None })) (Some v))) n
    from true e b = let t : leb n upto ≡ true = ap (λ o. is_at_most o upto) (sym h.1) ∙ e in absurd (let le = leb-true _ _ t in omega arith)
    from false e true = h
    from false e false = h

pub trim_links : (upto : ℕ) (log : Log) → AreLinked log → AreLinked (map (trimmed upto) log)
unfolding trimmed
trim_links upto log h at = subst (λ (s : Option Undo). IsLinked (map (trimmed upto) log) s) (sym (trim_at upto log at)) (from (record_at log at) (h at))
  where
    links : (o : Option ℕ) (n : ℕ) → upto < n → LinksTo log o n → LinksTo (map (trimmed upto) log) o n
    links None n lt k = tt
    links (Some p) n lt k = subst (λ (s : Option Undo). IsNamed s n) (sym (trim_at upto log p)) (kept upto n (record_at log p) lt k)

    branch : (u : Undo) (a : Bool) (b : Bool) → leb u.n upto ≡ b → LinksTo log u.older u.n → IsLinked (map (trimmed upto) log) (cond a None (cond b (Some (record u { older = None })) (Some u)))
    branch u true b e k = tt
    branch u false true e k = tt
    branch u false false e k = links u.older u.n (leb-false _ _ e) k

    from : (s : Option Undo) → IsLinked log s → IsLinked (map (trimmed upto) log) (trimmed upto s)
    from None k = tt
    from (Some u) k = branch u (is_at_most u.newer upto) (leb u.n upto) refl k

still_names : (upto o : ℕ) (s : Option Undo) → older_of (trimmed upto s) ≡ Some o → older_of s ≡ Some o
unfolding trimmed
still_names upto o None e = e
still_names upto o (Some u) e = from (is_at_most u.newer upto) (leb u.n upto) e
  where
    from : (a b : Bool) → older_of (cond a None (cond b (Some (record u { older = None })) (Some u))) ≡ Some o → u.older ≡ Some o
    from true b e = absurd cc
    from false true e = absurd cc
    from false false e = e

pub trim_whole : (upto : ℕ) (log : Log) → AreWhole log → AreWhole (map (trimmed upto) log)
trim_whole upto log h = (trim_links upto log h.0, λ p q o e f. h.1 p q o (named p o e) (named q o f))
  where
    named : (p o : ℕ) → older_of (record_at (map (trimmed upto) log) p) ≡ Some o → older_of (record_at log p) ≡ Some o
    named p o e = still_names upto o (record_at log p) (ap older_of (sym (trim_at upto log p)) ∙ e)

-- ---- what a path shows

live_record : (s : Option Undo) (n upto : ℕ) → IsNamed s n → upto < n → is_dead upto s ≡ false
live_record None n upto l lt = absurd l
live_record (Some v) n upto l lt = ap (λ (o : Option ℕ). is_at_most o upto) l.1 ∙ past_leb n upto lt

live_link : (log : Log) (o : Option ℕ) (n upto : ℕ) → LinksTo log o n → upto < n → Stays upto log o
live_link log None n upto l lt = tt
live_link log (Some p) n upto l lt = live_record (record_at log p) n upto l lt

trim_met : (upto s at : ℕ) (log : Log) (r : Option Undo) (f g : Option ℕ → Option ℕ) → upto ≤ s → IsLinked log r → is_dead upto r ≡ false → ((o : Option ℕ) → Stays upto log o → f o ≡ g o) → met at s (trimmed upto r) f ≡ met at s r g
unfolding trimmed
trim_met upto s at log None f g le l live same = refl
trim_met upto s at log (Some u) f g le l live same = branch (is_at_most u.newer upto) (leb u.n upto) live refl
  where
    branch : (a b : Bool) → a ≡ false → leb u.n upto ≡ b → met at s (cond a None (cond b (Some (record u { older = None })) (Some u))) f ≡ met at s (Some u) g
    branch true b e q = absurd cc
    branch false true e q =
        let low : leb u.n s ≡ true = le-leb _ _ (let h = leb-true _ _ q in omega arith) in
        ap (λ (t : Bool). cond t (Some at) (f None)) low ∙ sym (ap (λ (t : Bool). cond t (Some at) (g u.older)) low)
    branch false false e q = ap (λ (r : Option ℕ). cond (leb u.n s) (Some at) r) (same u.older (live_link log u.older u.n upto l (leb-false _ _ q)))

keeps : (upto s : ℕ) (log : Log) → upto ≤ s → AreLinked log → (k : ℕ) (from : Option ℕ) → Stays upto log from → walk k (map (trimmed upto) log) from s ≡ walk k log from s
unfolding walk
keeps upto s log le h zero from live = refl
keeps upto s log le h (suc k) None live = refl
keeps upto s log le h (suc k) (Some at) live =
    ap (λ (r : Option Undo). met at s r (λ o. walk k (map (trimmed upto) log) o s)) (trim_at upto log at)
    ∙ trim_met upto s at log (record_at log at) (λ o. walk k (map (trimmed upto) log) o s) (λ o. walk k log o s) le (h at) live (λ o l. keeps upto s log le h k o l)

pub trim_keeps : (upto s : ℕ) (log : Log) (from : Option ℕ) → upto ≤ s → AreLinked log → Stays upto log from → newest_for (map (trimmed upto) log) from s ≡ newest_for log from s
unfolding newest_for
trim_keeps upto s log from le h live =
    let new = map (trimmed upto) log in
    let k = bound log from + bound new from in
    enough new (trim_links upto log h) (bound new from) k from s (omega arith) (omega arith) ∙ keeps upto s log le h k from live ∙ sym (enough log h (bound log from) k from s (omega arith) (omega arith))

-- ---- one place after another

-- one more place is trimmed
pub trim_more : (upto : ℕ) (xs : Log) (i : ℕ) (x d : Option Undo) → i < length xs → x ≡ trimmed upto (get_or xs i d) → slice_set (map (trimmed upto) (take i xs) ++ drop i xs) i x ≡ map (trimmed upto) (take (i + 1) xs) ++ drop (i + 1) xs
trim_more upto [] i x d h e = absurd (omega arith)
trim_more upto (y ∷ ys) zero x d h e = ap (λ (z : Option Undo). z ∷ ys) e
trim_more upto (y ∷ ys) (suc i) x d h e =
    let k : suc i + 1 ≡ suc (i + 1) = omega arith in
    rw k (ap (λ (zs : Log). trimmed upto y ∷ zs) (trim_more upto ys i x d (omega arith) e))

pub at_trim : (upto : ℕ) (xs : Log) (i : ℕ) (d : Option Undo) → i < length xs → get_or (map (trimmed upto) (take i xs) ++ drop i xs) i d ≡ get_or xs i d
at_trim upto [] i d h = absurd (omega arith)
at_trim upto (y ∷ ys) zero d h = refl
at_trim upto (y ∷ ys) (suc i) d h = at_trim upto ys i d (omega arith)
