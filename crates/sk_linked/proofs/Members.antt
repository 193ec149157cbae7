-- Members of lists, and the transactions that drew a number or have a label.
use Rattle.std.specs.Prelude.{ℕ, List, [], ◌∷◌, ◌++◌, Some, None, false, ◌≡◌, ◌⊎◌}
use Rattle.std.proofs.Common.{refl, sym, ap, subst, ◌∙◌, inl, inr, ⊎_elim}
use Rattle.std.specs.List.{flat_map}
use Rattle.std.proofs.lemmas.Bool.{false≢true}
use Rattle.sk_model.specs.declared.label.Label.{Label}
use Rattle.sk_model.specs.declared.engine.EngineName.{EngineName}
use Rattle.sk_model.specs.declared.engine.EngineName.TheVariants.{Mem, Store}
use Rattle.sk_model.specs.declared.call.Entry.{Entry}
use Rattle.sk_model.specs.Records.{same_label}
use Rattle.sk_model.specs.Talks.{OwnCall, Talk, call_in, calls_in}
use Rattle.sk_model.proofs.Lists.{Each, each_append}
use Rattle.sk_model.proofs.Labels.{same_itself}
use Rattle.sk_linked.specs.Traces.{drawn_at, Transaction, In, Distinct, DrewUnlike}

pub in_each : {X : Type 0} (P : X → Type 0) (xs : List X) → ((x : X) → In x xs → P x) → Each P xs
in_each P [] f = tt
in_each P (x ∷ xs) f = (f x (inl refl), in_each P xs (λ y i. f y (inr i)))

pub each_in : {X : Type 0} (P : X → Type 0) (xs : List X) (x : X) → Each P xs → In x xs → P x
each_in P [] x h i = absurd i
each_in P (y ∷ ys) x h i = ⊎_elim (λ (e : x ≡ y). subst P (sym e) h.0) (λ (k : In x ys). each_in P ys x h.1 k) i

pub in_append : {X : Type 0} (x : X) (xs ys : List X) → In x ys → In x (xs ++ ys)
in_append x [] ys i = i
in_append x (y ∷ xs) ys i = inr (in_append x xs ys i)

pub in_front : {X : Type 0} (x : X) (xs ys : List X) → In x xs → In x (xs ++ ys)
in_front x [] ys i = absurd i
in_front x (y ∷ xs) ys i = ⊎_elim (λ (e : x ≡ y). inl e) (λ (k : In x xs). inr (in_front x xs ys k)) i

pub in_either : {X : Type 0} (x : X) (xs ys : List X) → In x (xs ++ ys) → In x xs ⊎ In x ys
in_either x [] ys i = inr i
in_either {X = X} x (y ∷ xs) ys i = ⊎_elim
    (λ (e : x ≡ y). inl (inl e))
    (λ (k : In x (xs ++ ys)). ⊎_elim (λ (a : In x xs). inl (inr a)) (λ (b : In x ys). inr b) (in_either x xs ys k))
    i

pub each_flat : {X Y : Type 0} (P : Y → Type 0) (f : X → List Y) (xs : List X) → Each (λ x. Each P (f x)) xs → Each P (flat_map f xs)
each_flat P f [] h = tt
each_flat P f (x ∷ xs) h = each_append P (f x) (flat_map f xs) h.0 (each_flat P f xs h.1)

pub some_clash : {X A : Type 0} {x : X} → Some x ≡ None → A
some_clash e = absurd (clash e)
  where
    clash : {X : Type 0} {x : X} → Some x ≡ None → ⊥
    clash e = cc

pub some_same : {x y : ℕ} → Some x ≡ Some y → x ≡ y
some_same e = cc

-- what holds of each call holds of each call on one engine
pub each_call : (P : EngineName → Entry → Type 0) (name : EngineName) (talk : Talk) → Each (λ (c : OwnCall). P c.engine c.entry) talk → Each (P name) (calls_in name talk)
each_call P name [] h = tt
each_call P name (c ∷ cs) h = each_append (P name) (call_in name c) (calls_in name cs) (one name c.engine c.entry h.0) (each_call P name cs h.1)
  where
    one : (name engine : EngineName) (j : Entry) → P engine j → Each (P name) (call_in name (record { engine = engine; entry = j }))
    one Mem Mem j k = (k, tt)
    one Mem Store j k = tt
    one Store Mem j k = tt
    one Store Store j k = (k, tt)

-- who drew a number of an engine
pub unlike_same : (s : EngineName) (n : ℕ) (ts : List Transaction) (t u : Transaction) → DrewUnlike s ts → In t ts → In u ts → drawn_at s t.drew ≡ Some n → drawn_at s u.drew ≡ Some n → t ≡ u
unlike_same s n [] t u k i j e f = absurd i
unlike_same s n (y ∷ ys) t u k i j e f = ⊎_elim
    (λ (a : t ≡ y). ⊎_elim
    (λ (b : u ≡ y). a ∙ sym b)
    (λ (b : In u ys). absurd (each_in (λ (z : Transaction). (m : ℕ) → drawn_at s y.drew ≡ Some m → drawn_at s z.drew ≡ Some m → ⊥) ys u k.0 b n (ap (λ (z : Transaction). drawn_at s z.drew) (sym a) ∙ e) f))
    j)
    (λ (a : In t ys). ⊎_elim
    (λ (b : u ≡ y). absurd (each_in (λ (z : Transaction). (m : ℕ) → drawn_at s y.drew ≡ Some m → drawn_at s z.drew ≡ Some m → ⊥) ys t k.0 a n (ap (λ (z : Transaction). drawn_at s z.drew) (sym b) ∙ f) e))
    (λ (b : In u ys). unlike_same s n ys t u k.1 a b e f)
    j)
    i

-- who has a label
pub distinct_same : (ts : List Transaction) (t u : Transaction) → Distinct ts → In t ts → In u ts → t.label ≡ u.label → t ≡ u
distinct_same [] t u d i k e = absurd i
distinct_same (y ∷ ys) t u d i k e = ⊎_elim
    (λ (a : t ≡ y). ⊎_elim
    (λ (b : u ≡ y). a ∙ sym b)
    (λ (b : In u ys). absurd (differ y u (each_in (λ (z : Transaction). same_label y.label z.label ≡ false) ys u d.0 b) (ap (λ (z : Transaction). z.label) (sym a) ∙ e)))
    k)
    (λ (a : In t ys). ⊎_elim
    (λ (b : u ≡ y). absurd (differ y t (each_in (λ (z : Transaction). same_label y.label z.label ≡ false) ys t d.0 a) (ap (λ (z : Transaction). z.label) (sym b) ∙ sym e)))
    (λ (b : In u ys). distinct_same ys t u d.1 a b e)
    k)
    i
  where
    differ : (y x : Transaction) → same_label y.label x.label ≡ false → y.label ≡ x.label → ⊥
    differ y x f e = false≢true (sym f ∙ ap (λ (l : Label). same_label y.label l) (sym e) ∙ same_itself y.label)
