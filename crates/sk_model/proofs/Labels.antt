-- Labels and their order, and the openings by label.
use Rattle.std.specs.Prelude.{◌≡◌, ℕ, Option, Some, None, true, false, cond, not, ◌&&◌, ◌==◌}
use Rattle.std.proofs.Common.{refl, sym, ap, subst, ◌∙◌, ⊎_elim}
use Rattle.std.specs.Ordering.{nat_cmp, is_eq, eq_by_cmp}
use Rattle.std.specs.Cmp.{IsTotalOrder, nat_cmp_total, tied_then, unsigned_tied}
use Rattle.std.specs.FinMap.{IsAntisymmetric, put}
use Rattle.std.specs.FinMap.Entries.{find-put, find-where_key}
use Rattle.std.proofs.lemmas.Cmp.{then_total}
use Rattle.std.proofs.lemmas.Bool.{cond_both, and_parts, and_from, eqb-true, eq-eqb, cases_Bool, false≢true}
use Rattle.sk_model.specs.declared.label.Label.{Label}
use Rattle.sk_model.specs.Records.{same_label}
use Rattle.sk_model.specs.Engine.{label_cmp, Opening, Openings, opening_in}
use Rattle.sk_model.specs.EngineChanges.{closed_at, closed_in, without_opening}

pub same_is : (x y : Label) → same_label x y ≡ true → x ≡ y
same_is x y e =
    let parts : ((x.session == y.session) ≡ true) × ((x.k == y.k) ≡ true) = and_parts (x.session == y.session) (x.k == y.k) e in
    let s : x.session ≡ y.session = eqb-true x.session y.session parts.0 in
    let k : x.k ≡ y.k = eqb-true x.k y.k parts.1 in
    λ i. record { session = s i; k = k i }

pub same_itself : (x : Label) → same_label x x ≡ true
same_itself x = and_from (x.session == x.session) (x.k == x.k) (eq-eqb x.session x.session refl) (eq-eqb x.k x.k refl)

pub not_same_back : (x y : Label) → same_label x y ≡ false → same_label y x ≡ false
not_same_back x y n = ⊎_elim
    (λ (t : same_label y x ≡ true). absurd (false≢true (sym n ∙ ap (λ (z : Label). same_label x z) (same_is y x t) ∙ same_itself x)))
    (λ (f : same_label y x ≡ false). f)
    (cases_Bool (same_label y x))

by_session : IsTotalOrder (λ (x y : Label). nat_cmp x.session y.session)
by_session = record {
  antisymm = λ x y. nat_cmp_total.antisymm x.session y.session;
  trans = λ x y z e f. nat_cmp_total.trans x.session y.session z.session e f;
  congr = λ x y z e. nat_cmp_total.congr x.session y.session z.session e;
}

by_k : IsTotalOrder (λ (x y : Label). nat_cmp x.k y.k)
by_k = record {
  antisymm = λ x y. nat_cmp_total.antisymm x.k y.k;
  trans = λ x y z e f. nat_cmp_total.trans x.k y.k z.k e f;
  congr = λ x y z e. nat_cmp_total.congr x.k y.k z.k e;
}

pub label_cmp_total : IsTotalOrder label_cmp
label_cmp_total = then_total by_session by_k

-- labels that tie are the same
pub label_tied : (x y : Label) → eq_by_cmp label_cmp x y ≡ same_label x y
label_tied x y = sym (tied_then (nat_cmp x.session y.session) (nat_cmp x.k y.k))
    ∙ ap (λ b. b && is_eq (nat_cmp x.k y.k)) (unsigned_tied x.session y.session) ∙ ap (λ b. (x.session == y.session) && b) (unsigned_tied x.k y.k)

pub label_cmp-IsAntisymmetric : IsAntisymmetric label_cmp
label_cmp-IsAntisymmetric x y e = same_is x y (sym (label_tied x y) ∙ ap is_eq e)

-- the opening of a label, where one label's is put or taken away
pub find_put : (l tx : Label) (o : Opening) (os : Openings) → opening_in l (put label_cmp tx o os) ≡ cond (same_label l tx) (Some o) (opening_in l os)
find_put l tx o os = find-put label_cmp label_cmp_total l tx o os ∙ ap (λ b. cond b (Some o) (opening_in l os)) (label_tied l tx)

pub find_without : (l tx : Label) (os : Openings) → opening_in l (without_opening tx os) ≡ cond (not (same_label tx l)) (opening_in l os) None
find_without l tx os = find-where_key label_cmp (λ x. not (same_label tx x)) l (λ x e. ap (λ y. not (same_label tx y)) (sym (label_cmp-IsAntisymmetric l x e))) os

-- what holds of each opening still holds where one is put, closed or taken away
pub openings_put : (P : Option Opening → Type 0) (tx : Label) (o : Opening) (os : Openings) → P (Some o) → ((l : Label) → P (opening_in l os)) → (l : Label) → P (opening_in l (put label_cmp tx o os))
openings_put P tx o os k h l = subst P (sym (find_put l tx o os)) (cond_both (same_label l tx) (Some o) (opening_in l os) P (λ t. k) (λ f. h l))

pub openings_closed : (P : Option Opening → Type 0) (tx : Label) (f : ℕ) (o : Option Opening) (os : Openings) → ((p : Opening) → o ≡ Some p → P (Some (closed_at f p)))
    → ((l : Label) → P (opening_in l os)) → (l : Label) → P (opening_in l (closed_in tx f o os))
openings_closed P tx f None os k h l = h l
openings_closed P tx f (Some o) os k h l = openings_put P tx (closed_at f o) os (k o refl) h l

pub openings_without : (P : Option Opening → Type 0) (tx : Label) (os : Openings) → P None → ((l : Label) → P (opening_in l os)) → (l : Label) → P (opening_in l (without_opening tx os))
openings_without P tx os k h l = subst P (sym (find_without l tx os)) (cond_both (not (same_label tx l)) (opening_in l os) None P (λ t. h l) (λ f. k))
