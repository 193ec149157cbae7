-- What readers see of paths as a place is claimed and filled.
use Rattle.std.proofs.Common.{◌≡◌, ℕ, zero, suc, ◌+◌, ◌⊎◌, ◌≤◌, ◌<◌, Bool, true, false, cond, leb, inl, inr, length, slice_set, Option, Some, None, refl, sym, ap, subst, ◌∙◌, arith}
use Rattle.std.proofs.lemmas.Bool.{leb-true, leb-false, le-leb}
use Rattle.sk_rows.specs.declared.value.Value.{Value}
use Rattle.std.specs.Prelude.{List}
use Rattle.sk_undo.specs.declared.undo.Undo.{Undo}
use Rattle.sk_undo.specs.Laws.{ClaimShows, FillRows, FillShows}
use Rattle.sk_undo.specs.Log.{AreLinked, AreWhole, Avoids, IsClaimed, IsFree, IsOlder, IsStanding, Log, bound, bound_of, filled, is_empty, met, named, newest_for, put_at, record_at, row_in, row_of, row_seen, walk, with_newer}
use Rattle.sk_undo.proofs.Places.{goes_on, is_met, other, past_leb, pushed_links, put_other, put_same, same_met, set_other, set_same, stands_free, still_stands}
use Rattle.sk_undo.proofs.Frees.{put_reads}
use Rattle.sk_undo.proofs.Pushes.{push_keeps}

-- ---- what is found stands

branch_stands : (log : Log) (q p : ℕ) (u : Undo) (b : Bool) (rest : Option ℕ) → record_at log q ≡ Some u → (rest ≡ Some p → is_empty (record_at log p) ≡ false) → cond b (Some q) rest ≡ Some p → is_empty (record_at log p) ≡ false
branch_stands log q p u true rest r again e = let same : q ≡ p = cc in ap (λ (x : ℕ). is_empty (record_at log x)) (sym same) ∙ ap is_empty r
branch_stands log q p u false rest r again e = again e

step_stands : (k : ℕ) (log : Log) (q s p : ℕ) → ((o : Option ℕ) → walk k log o s ≡ Some p → is_empty (record_at log p) ≡ false) → (r : Option Undo) → record_at log q ≡ r
    → met q s r (λ o. walk k log o s) ≡ Some p → is_empty (record_at log p) ≡ false
step_stands k log q s p again None r e = absurd cc
step_stands k log q s p again (Some u) r e = branch_stands log q p u (leb u.n s) (walk k log u.older s) r (again u.older) e

walk_stands : (k : ℕ) (log : Log) (o : Option ℕ) (s p : ℕ) → walk k log o s ≡ Some p → is_empty (record_at log p) ≡ false
unfolding walk
walk_stands zero log o s p e = absurd cc
walk_stands (suc k) log None s p e = absurd cc
walk_stands (suc k) log (Some q) s p e = step_stands k log q s p (λ o. walk_stands k log o s p) (record_at log q) refl e

pub found_stands : (log : Log) (from : Option ℕ) (s p : ℕ) → newest_for log from s ≡ Some p → is_empty (record_at log p) ≡ false
unfolding newest_for
found_stands log from s p e = walk_stands (bound log from) log from s p e

-- ---- a claim

module _ (old new : Log) (same : (q : ℕ) → record_at new q ≡ record_at old q) where
  same_walks : (k : ℕ) (o : Option ℕ) (s : ℕ) → walk k new o s ≡ walk k old o s
  unfolding walk
  same_walks zero o s = refl
  same_walks (suc k) None s = refl
  same_walks (suc k) (Some q) s =
      ap (λ (r : Option Undo). met q s r (λ o. walk k new o s)) (same q)
      ∙ same_met q s (record_at old q) (λ o. walk k new o s) (λ o. walk k old o s) (λ u e. same_walks k u.older s)

  same_bound : (o : Option ℕ) → bound new o ≡ bound old o
  same_bound None = refl
  same_bound (Some q) = ap bound_of (same q)

  same_found : (o : Option ℕ) (s : ℕ) → newest_for new o s ≡ newest_for old o s
  unfolding newest_for
  same_found o s = ap (λ (k : ℕ). walk k new o s) (same_bound o) ∙ same_walks (bound old o) o s

  same_in : (o : Option ℕ) → row_in new o ≡ row_in old o
  same_in None = refl
  same_in (Some q) = ap row_of (same q)

  same_seen : (o : Option ℕ) (s : ℕ) → row_seen new o s ≡ row_seen old o s
  same_seen o s = ap (row_in new) (same_found o s) ∙ same_in (newest_for old o s)

pub claiming : ClaimShows
claiming old new at from s h = same_seen old new (λ q. ap (λ (l : Log). record_at l q) h.2 ∙ put_reads old at h.0 h.1 q) from s

-- ---- a new record

kept_row : (s : Option Undo) (n : ℕ) → row_of (with_newer s n) ≡ row_of s
kept_row None n = refl
kept_row (Some u) n = refl

named_row : (log : Log) (older : Option ℕ) (n p : ℕ) → IsStanding log older → row_of (record_at (named log older n) p) ≡ row_of (record_at log p)
named_row log None n p stand = refl
named_row log (Some o) n p stand =
    let x = with_newer (record_at log o) n in
    other p o
    (λ e. ap row_of (ap (record_at (slice_set log o x)) e ∙ set_same log o x stand) ∙ kept_row (record_at log o) n ∙ ap (λ (z : ℕ). row_of (record_at log z)) (sym e))
    (λ e. ap row_of (set_other log o p x e))

module _ (log : Log) (at : ℕ) (u : Undo) (h : AreWhole log) (free : IsFree log at) (older : IsOlder log u.older u.n) where
  abbrev mid : Log
  mid = put_at log at (Some u)

  abbrev new : Log
  new = named mid u.older u.n

  fits : at ≤ length log
  fits = let lt = free.0 in omega arith

  linked : AreLinked new
  linked = pushed_links log at u h.0 older free.1 fits

  standing : IsStanding mid u.older
  standing = still_stands log u.older u.n at (Some u) older

  here : record_at new at ≡ Some u
  here = from u.older older
    where
      from : (o : Option ℕ) → IsOlder log o u.n → record_at (named mid o u.n) at ≡ Some u
      from None f = put_same log at (Some u) fits
      from (Some o) f = set_other mid o at (with_newer (record_at mid o) u.n) (λ e. stands_free log at o u.n free.1 f (sym e)) ∙ put_same log at (Some u) fits

  avoids : (o : Option ℕ) → IsOlder log o u.n → Avoids at o
  avoids None f = tt
  avoids (Some o) f = stands_free log at o u.n free.1 f

  -- what is found in the log before is another place than the new one, and has its row
  row_there : (o : Option ℕ) → ((p : ℕ) → o ≡ Some p → is_empty (record_at log p) ≡ false) → row_in new o ≡ row_in log o
  row_there None f = refl
  row_there (Some p) f =
      named_row mid u.older u.n p standing
      ∙ ap row_of (put_other log at p (Some u) fits (λ e. absurd (let no : true ≡ false = ap is_empty (sym (ap (record_at log) e ∙ free.1)) ∙ f p refl in cc)))

  seen_new : (s : ℕ) (b : Bool) → leb u.n s ≡ b → row_seen new (Some at) s ≡ cond b u.row (row_seen log u.older s)
  seen_new s true e = ap (row_in new) (is_met new at s u here (leb-true _ _ e)) ∙ ap row_of here
  seen_new s false e =
      let past = leb-false _ _ e in
      let on : newest_for new (Some at) s ≡ newest_for log u.older s = goes_on new at s u linked here (omega arith) ∙ push_keeps log at u u.older s h.0 older free.1 fits (avoids u.older older) in
      ap (row_in new) on ∙ row_there (newest_for log u.older s) (λ p f. found_stands log u.older s p f)

  rows_are : (q : ℕ) → (row_of (record_at new q) ≡ u.row) ⊎ (row_of (record_at new q) ≡ row_of (record_at log q))
  rows_are q =
      other q at
      (λ e. inl (named_row mid u.older u.n q standing ∙ ap (λ (z : ℕ). row_of (record_at mid z)) e ∙ ap row_of (put_same log at (Some u) fits)))
      (λ e. inr (named_row mid u.older u.n q standing ∙ ap row_of (put_other log at q (Some u) fits e)))

pub filling : FillShows
filling log at older n row s h free may = seen_new log at record { older = older; newer = None; n = n; row = row } h free may s (leb n s) refl

-- the row of each place is the new one, or the one of before
pub filled_rows : FillRows
filled_rows log at older n row q h free may = rows_are log at record { older = older; newer = None; n = n; row = row } h free may q
