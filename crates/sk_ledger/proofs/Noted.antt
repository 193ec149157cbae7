-- A row that is put into an ordered map, as it is put into sorted entries.
use Rattle.std.specs.Prelude.{◌≡◌, List, [], ◌∷◌}
use Rattle.std.proofs.Common.{refl, ap}
use Rattle.std.specs.declared.cmp.Ordering.{Ordering}
use Rattle.std.specs.declared.cmp.Ordering.TheVariants.{Less, Equal, Greater}
use Rattle.std.specs.Ordering.{match_ordering}
use Rattle.std.specs.BTreeMap.{insert_entry}
use Rattle.std.specs.FinMap.{put}
use Rattle.std.specs.FinMap.Entries.{by_order}

ordered_is : {A : Type 0} (o : Ordering) (a b c d : A) → c ≡ d → match_ordering o a b c ≡ by_order o a b d
ordered_is Less a b c d e = refl
ordered_is Equal a b c d e = refl
ordered_is Greater a b c d e = e

pub put_is : {K X : Type 0} (R : K → K → Ordering) (k : K) (x : X) (es : List (K × X)) → insert_entry R es k x ≡ put R k x es
put_is R k x [] = refl
put_is R k x (e ∷ es) = ordered_is (R k e.0) _ _ _ _ (ap (λ fs. e ∷ fs) (put_is R k x es))
