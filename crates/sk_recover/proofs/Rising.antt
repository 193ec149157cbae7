-- Rows whose keys rise, one more behind them, and what putting them one by one into an ordered map makes.
use Rattle.std.proofs.Common.{◌≡◌, ℕ, suc, ◌-◌, true, List, [], ◌∷◌, ◌++◌, length, append_assoc, refl, sym, ap, subst, ◌∙◌, arith}
use Rattle.std.specs.Prelude.{slice_get}
use Rattle.std.specs.declared.cmp.Ordering.{Ordering}
use Rattle.std.specs.declared.cmp.Ordering.TheVariants.{Less, Equal, Greater}
use Rattle.std.specs.Cmp.{IsTotalOrder}
use Rattle.std.specs.Ordering.{is_lt, ordering_reverse}
use Rattle.std.specs.List.{AllByRecursion}
use Rattle.std.specs.List.Sorted.{IsStrictlySortedBy}
use Rattle.std.specs.Map.{keys_of}
use Rattle.std.specs.FinMap.{put}
use Rattle.sk_rows.specs.declared.value.Value.{Value}
use Rattle.sk_rows.specs.Values.{value_cmp}
use Rattle.sk_rows.specs.Orders.{value_cmp_total}
use Rattle.sk_log.specs.Images.{is_past}
use Rattle.sk_recover.specs.Taking.{Rise}

is_less : (o : Ordering) → is_lt o ≡ true → o ≡ Less
is_less Less e = refl
is_less Equal e = absurd cc
is_less Greater e = absurd cc

-- what is below a key is below all that are past that
below_all : {K : Type 0} (R : K → K → Ordering) → IsTotalOrder R → (a b : K) (ks : List K) → R a b ≡ Less → AllByRecursion (λ y. R b y ≡ Less) ks → AllByRecursion (λ y. R a y ≡ Less) ks
below_all R total a b [] less all = tt
below_all R total a b (k ∷ ks) less all = (total.trans a b k less all.0, below_all R total a b ks less all.1)

module _ {K X : Type 0} (R : K → K → Ordering) (total : IsTotalOrder R) where
  among : (a : K) (es : List (K × X)) (k : K) (x : X) (more : List (K × X)) → AllByRecursion (λ y. R a y ≡ Less) (keys_of (es ++ (k, x) ∷ more)) → R a k ≡ Less
  among a [] k x more all = all.0
  among a (e ∷ es) k x more all = among a es k x more all.1

  -- what is put behind all that are below it stands last
  pub put_last : (es : List (K × X)) (k : K) (x : X) (more : List (K × X)) → IsStrictlySortedBy R (keys_of (es ++ (k, x) ∷ more)) → put R k x es ≡ es ++ (k, x) ∷ []
  unfolding IsStrictlySortedBy
  put_last [] k x more sorted = refl
  put_last (e ∷ es) k x more sorted =
      let less : R e.0 k ≡ Less = among e.0 es k x more sorted.0 in
      let greater : R k e.0 ≡ Greater = total.antisymm k e.0 ∙ ap ordering_reverse less in
      rw greater (ap (λ fs. e ∷ fs) (put_last es k x more sorted.1))

-- all of these and one more
pub all_more : {A : Type 0} (P : A → Type 0) (xs : List A) (x : A) → AllByRecursion P xs → P x → AllByRecursion P (xs ++ x ∷ [])
all_more P [] x all one = (one, tt)
all_more P (y ∷ xs) x all one = (all.0, all_more P xs x all.1 one)

pub rise_none : Rise []
unfolding IsStrictlySortedBy
rise_none = tt

-- a row past the last of rows that rise
pub rise_more : (rows : List (Value × List Value)) (new : Value × List Value) → Rise rows → is_past (slice_get rows (length rows - 1)) new.0 ≡ true → Rise (rows ++ new ∷ [])
unfolding IsStrictlySortedBy
rise_more [] new rise past = (tt, tt)
rise_more (r ∷ []) new rise past = ((is_less (value_cmp r.0 new.0) past, tt), (tt, tt))
rise_more (r ∷ s ∷ rs) new rise past =
    let here : length (r ∷ s ∷ rs) - 1 ≡ suc (length rs) = omega arith in
    let there : length (s ∷ rs) - 1 ≡ length rs = omega arith in
    let nearer : is_past (slice_get (r ∷ s ∷ rs) (suc (length rs))) new.0 ≡ true = ap (λ (n : ℕ). is_past (slice_get (r ∷ s ∷ rs) n) new.0) (sym here) ∙ past in
    let last : is_past (slice_get (s ∷ rs) (length (s ∷ rs) - 1)) new.0 ≡ true = ap (λ (n : ℕ). is_past (slice_get (s ∷ rs) n) new.0) there ∙ nearer in
    let rest : Rise ((s ∷ rs) ++ new ∷ []) = rise_more (s ∷ rs) new rise.1 last in
    ((rise.0.0, below_all value_cmp value_cmp_total r.0 s.0 (keys_of (rs ++ new ∷ [])) rise.0.0 rest.0), rest)

-- a row that is put behind rows below it stands last
pub put_behind : (rows : List (Value × List Value)) (e : Value × List Value) (more all : List (Value × List Value)) → Rise all → rows ++ e ∷ more ≡ all → put value_cmp e.0 e.1 rows ++ more ≡ all
put_behind rows e more all rise is =
    let sorted : Rise (rows ++ e ∷ more) = subst Rise (sym is) rise in
    ap (λ (front : List (Value × List Value)). front ++ more) (put_last value_cmp value_cmp_total rows e.0 e.1 more sorted) ∙ append_assoc rows (e ∷ []) more ∙ is
