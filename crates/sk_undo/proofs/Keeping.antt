-- A path that goes, and a cut, leave the other paths what they show.
use Rattle.std.proofs.Common.{◌≡◌, ℕ, zero, suc, ◌+◌, ◌≤◌, Bool, true, false, cond, leb, slice_set, Option, Some, None, refl, sym, ap, ◌∙◌, arith}
use Rattle.std.proofs.lemmas.Bool.{leb-true, le-leb}
use Rattle.sk_undo.specs.declared.undo.Undo.{Undo}
use Rattle.sk_undo.specs.Log.{AreWhole, Avoids, IsUnnamed, Log, bound, bound_of, cut_behind, dropped, dropped_in, met, newest_for, older_of, record_at, unlinked, walk, without_older}
use Rattle.sk_undo.proofs.Places.{enough, other, same_met, set_other}
use Rattle.sk_undo.proofs.Frees.{Replaces, free_unnamed, free_whole, none_replaces, set_here, still_names, unlinked_unnamed, unlinked_whole, without_replaces}

-- ---- a record that nobody names goes

off : (log : Log) (at : ℕ) → IsUnnamed log (Some at) → (q : ℕ) (u : Undo) → record_at log q ≡ Some u → (o : Option ℕ) → u.older ≡ o → Avoids at o
off log at un q u e None f = tt
off log at un q u e (Some p) f = λ s. un q (ap older_of e ∙ f ∙ ap Some s)

free_walks : (log : Log) (at s : ℕ) → IsUnnamed log (Some at) → (k : ℕ) (o : Option ℕ) → Avoids at o → walk k (slice_set log at None) o s ≡ walk k log o s
unfolding walk
free_walks log at s un zero o avoid = refl
free_walks log at s un (suc k) None avoid = refl
free_walks log at s un (suc k) (Some q) avoid =
    let f = λ (o : Option ℕ). walk k (slice_set log at None) o s in
    ap (λ (r : Option Undo). met q s r f) (set_other log at q None avoid)
    ∙ same_met q s (record_at log q) f (λ o. walk k log o s) (λ u e. free_walks log at s un k u.older (off log at un q u e u.older refl))

free_keeps : (log : Log) (at s : ℕ) (o : Option ℕ) → AreWhole log → IsUnnamed log (Some at) → Avoids at o → newest_for (slice_set log at None) o s ≡ newest_for log o s
unfolding newest_for
free_keeps log at s o h un avoid =
    let new = slice_set log at None in
    let k = bound log o + bound new o in
    enough new (free_whole log at h un).0 (bound new o) k o s (omega arith) (omega arith)
    ∙ free_walks log at s un k o avoid
    ∙ sym (enough log h.0 (bound log o) k o s (omega arith) (omega arith))

-- what nobody names is named by nobody where a record names less
unnamed : (log : Log) (at : ℕ) (x : Option Undo) (o : ℕ) → Replaces log at x → IsUnnamed log (Some o) → IsUnnamed (slice_set log at x) (Some o)
unnamed log at x o r un = λ q e. un q (still_names log at x r q o e)

dropped_in_keeps : (k : ℕ) (log : Log) (from : Option ℕ) (o s : ℕ) → AreWhole log → IsUnnamed log from → IsUnnamed log (Some o) → (from ≡ Some o → ⊥) → newest_for (dropped_in k log from) (Some o) s ≡ newest_for log (Some o) s
unfolding dropped_in
dropped_in_keeps zero log from o s h un alone apart = refl
dropped_in_keeps (suc k) log None o s h un alone apart = refl
dropped_in_keeps (suc k) log (Some at) o s h un alone apart =
    dropped_in_keeps k (slice_set log at None) (older_of (record_at log at)) o s (free_whole log at h un) (free_unnamed log at h) (unnamed log at None o (none_replaces log at) alone) (alone at)
    ∙ free_keeps log at s (Some o) h un (λ e. apart (ap Some (sym e)))

pub dropped_keeps : (log : Log) (from : Option ℕ) (o s : ℕ) → AreWhole log → IsUnnamed log from → IsUnnamed log (Some o) → (from ≡ Some o → ⊥) → newest_for (dropped log from) (Some o) s ≡ newest_for log (Some o) s
unfolding dropped
dropped_keeps log from o s h un alone apart = dropped_in_keeps (bound log from) log from o s h un alone apart

-- ---- a record names nobody any more, and is seen all the same

alone_met : (q s : ℕ) (r : Option Undo) (f g : Option ℕ → Option ℕ) → bound_of r ≤ suc s → met q s (without_older r) f ≡ met q s r g
alone_met q s None f g low = refl
alone_met q s (Some u) f g low =
    let e : leb u.n s ≡ true = le-leb _ _ (omega arith) in
    ap (λ (t : Bool). cond t (Some q) (f None)) e ∙ sym (ap (λ (t : Bool). cond t (Some q) (g u.older)) e)

unlinked_walks : (log : Log) (at s : ℕ) → bound_of (record_at log at) ≤ suc s → (k : ℕ) (o : Option ℕ) → walk k (unlinked log at) o s ≡ walk k log o s
unfolding walk
unlinked_walks log at s low zero o = refl
unlinked_walks log at s low (suc k) None = refl
unlinked_walks log at s low (suc k) (Some q) =
    let f = λ (o : Option ℕ). walk k (unlinked log at) o s in
    let g = λ (o : Option ℕ). walk k log o s in
    let x = without_older (record_at log at) in
    other q at
    (λ e. ap (λ (r : Option Undo). met q s r f) (ap (record_at (unlinked log at)) e ∙ set_here log at x (without_replaces log at).0)
    ∙ alone_met q s (record_at log at) f g low ∙ ap (λ (r : Option Undo). met q s r g) (ap (record_at log) (sym e)))
    (λ e. ap (λ (r : Option Undo). met q s r f) (set_other log at q x e) ∙ same_met q s (record_at log q) f g (λ u same. unlinked_walks log at s low k u.older))

unlinked_keeps : (log : Log) (at s : ℕ) (o : Option ℕ) → AreWhole log → bound_of (record_at log at) ≤ suc s → newest_for (unlinked log at) o s ≡ newest_for log o s
unfolding newest_for
unlinked_keeps log at s o h low =
    let new = unlinked log at in
    let k = bound log o + bound new o in
    enough new (unlinked_whole log at h).0 (bound new o) k o s (omega arith) (omega arith)
    ∙ unlinked_walks log at s low k o
    ∙ sym (enough log h.0 (bound log o) k o s (omega arith) (omega arith))

-- ---- what is found has a number of at most the snapshot

step_low : (k : ℕ) (log : Log) (q s at : ℕ) → ((o : Option ℕ) → walk k log o s ≡ Some at → bound_of (record_at log at) ≤ suc s) → met q s (record_at log q) (λ o. walk k log o s) ≡ Some at → bound_of (record_at log at) ≤ suc s
step_low k log q s at again e = from (record_at log q) refl e
  where
    branch : (u : Undo) → record_at log q ≡ Some u → (b : Bool) → leb u.n s ≡ b → cond b (Some q) (walk k log u.older s) ≡ Some at → bound_of (record_at log at) ≤ suc s
    branch u r true t e =
        let same : q ≡ at = cc in
        let b : bound_of (record_at log at) ≡ suc u.n = ap (λ (p : ℕ). bound_of (record_at log p)) (sym same) ∙ ap bound_of r in
        let le = leb-true _ _ t in
        omega arith
    branch u r false t e = again u.older e

    from : (r : Option Undo) → record_at log q ≡ r → met q s r (λ o. walk k log o s) ≡ Some at → bound_of (record_at log at) ≤ suc s
    from None r e = absurd cc
    from (Some u) r e = branch u r (leb u.n s) refl e

walk_low : (k : ℕ) (log : Log) (o : Option ℕ) (s at : ℕ) → walk k log o s ≡ Some at → bound_of (record_at log at) ≤ suc s
unfolding walk
walk_low zero log o s at e = absurd cc
walk_low (suc k) log None s at e = absurd cc
walk_low (suc k) log (Some q) s at e = step_low k log q s at (λ o. walk_low k log o s at) e

pub found_low : (log : Log) (path : Option ℕ) (upto at : ℕ) → newest_for log path upto ≡ Some at → bound_of (record_at log at) ≤ suc upto
unfolding newest_for
found_low log path upto at e = walk_low (bound log path) log path upto at e

pub cut_keeps : (log : Log) (found : Option ℕ) (o s : ℕ) → AreWhole log → IsUnnamed log (Some o) → ((at : ℕ) → found ≡ Some at → bound_of (record_at log at) ≤ suc s) → newest_for (cut_behind log found) (Some o) s ≡ newest_for log (Some o) s
cut_keeps log None o s h alone low = refl
cut_keeps log (Some at) o s h alone low =
    dropped_keeps (unlinked log at) (older_of (record_at log at)) o s (unlinked_whole log at h) (unlinked_unnamed log at h) (unnamed log at (without_older (record_at log at)) o (without_replaces log at) alone) (alone at)
    ∙ unlinked_keeps log at s (Some o) h (low at refl)
