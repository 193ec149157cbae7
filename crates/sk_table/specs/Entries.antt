-- Where a key belongs among entries.
use Rattle.std.specs.Prelude.{ℕ, suc, List, [], ◌∷◌, Option, Some, None, Bool, false, cond}
use Rattle.std.specs.declared.cmp.Ordering.{Ordering}
use Rattle.std.specs.Ordering.{is_gt, eq_by_cmp}

module _ {K X : Type 0} (R : K → K → Ordering) where
  -- how many entries from the front on have lesser keys
  abbrev pub count_below : K → List (K × X) → ℕ
  count_below k [] = 0
  count_below k (e ∷ es) = cond (is_gt (R k e.0)) (suc (count_below k es)) 0

  -- the entry has this key
  abbrev pub is_tied : K → Option (K × X) → Bool
  is_tied k None = false
  is_tied k (Some e) = eq_by_cmp R k e.0
