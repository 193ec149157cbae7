-- Members of a list with one of them changed.
use Rattle.std.specs.Prelude.{◌≡◌, List, [], ◌∷◌, ◌++◌, ◌⊎◌}
use Rattle.std.proofs.Common.{refl, sym, subst, ◌∙◌, inl, inr, ⊎_elim}
use Rattle.sk_model.proofs.Lists.{Each, each_append, each_front, each_end}
use Rattle.sk_linked.specs.Traces.{In}
use Rattle.sk_linked.proofs.Members.{in_append, in_front, in_either}
use Rattle.sk_kept.specs.Held.{Trace, Alone}

-- a member is the one in the middle, or one of the others
pub in_middle : {X : Type 0} (v : X) (pre : List X) (t : X) (post : List X) → In v (pre ++ t ∷ post) → (v ≡ t) ⊎ In v (pre ++ post)
in_middle v pre t post i = ⊎_elim
    (λ (a : In v pre). inr (in_front v pre post a))
    (λ (b : In v (t ∷ post)). ⊎_elim (λ (e : v ≡ t). inl e) (λ (k : In v post). inr (in_append v pre post k)) b)
    (in_either v pre (t ∷ post) i)

pub middle_other : {X : Type 0} (v : X) (pre : List X) (t : X) (post : List X) → In v (pre ++ post) → In v (pre ++ t ∷ post)
middle_other v pre t post i = ⊎_elim
    (λ (a : In v pre). in_front v pre (t ∷ post) a)
    (λ (b : In v post). in_append v pre (t ∷ post) (inr b))
    (in_either v pre post i)

pub middle_self : {X : Type 0} (pre : List X) (t : X) (post : List X) → In t (pre ++ t ∷ post)
middle_self pre t post = in_append t pre (t ∷ post) (inl refl)

pub each_others : {X : Type 0} (P : X → Type 0) (pre : List X) (t : X) (post : List X) → Each P (pre ++ t ∷ post) → Each P (pre ++ post)
each_others P pre t post h = each_append P pre post (each_front P pre (t ∷ post) h) (each_end P pre (t ∷ post) h).1

pub each_focus : {X : Type 0} (P : X → Type 0) (pre : List X) (t : X) (post : List X) → Each P (pre ++ t ∷ post) → P t
each_focus P pre t post h = (each_end P pre (t ∷ post) h).0

pub each_middle : {X : Type 0} (P : X → Type 0) (pre : List X) (t : X) (post : List X) → Each P (pre ++ post) → P t → Each P (pre ++ t ∷ post)
each_middle P pre t post h k = each_append P pre (t ∷ post) (each_front P pre post h) (k, each_end P pre post h)

-- who has x stays the only one, where the changed one gained nothing that another has
pub alone_moved : {X : Type 0} (Has : Trace → X → Type 0) (pre : List Trace) (t u : Trace) (post : List Trace) → ((w : Trace) → In w (pre ++ post) → t ≡ w → ⊥)
    → ((x : X) → Has u x → Has t x ⊎ ((w : Trace) → In w (pre ++ post) → Has w x → ⊥)) → Alone Has (pre ++ t ∷ post) → Alone Has (pre ++ u ∷ post)
alone_moved {X = X} Has pre t u post apart gain h x v w i k a b = ⊎_elim
    (λ (e : v ≡ u). ⊎_elim
    (λ (f : w ≡ u). e ∙ sym f)
    (λ (m : In w (pre ++ post)). absurd (mixed w m (subst (λ z. Has z x) e a) b))
    (in_middle w pre u post k))
    (λ (m : In v (pre ++ post)). ⊎_elim
    (λ (f : w ≡ u). absurd (mixed v m (subst (λ z. Has z x) f b) a))
    (λ (n : In w (pre ++ post)). h x v w (middle_other v pre t post m) (middle_other w pre t post n) a b)
    (in_middle w pre u post k))
    (in_middle v pre u post i)
  where
    mixed : (w : Trace) → In w (pre ++ post) → Has u x → Has w x → ⊥
    mixed w m a b = ⊎_elim
        (λ (old : Has t x). apart w m (h x t w (middle_self pre t post) (middle_other w pre t post m) old b))
        (λ (new : (w : Trace) → In w (pre ++ post) → Has w x → ⊥). new w m b)
        (gain x a)
