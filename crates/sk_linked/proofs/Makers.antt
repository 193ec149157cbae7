-- Who appended the points, where a transaction goes on.
use Rattle.std.specs.Prelude.{ℕ, List, [], ◌∷◌, ◌++◌, true, false, cond, ◌+◌, ◌≡◌, ◌<◌, ◌⊎◌}
use Rattle.std.proofs.Common.{refl, sym, ap, subst, ◌∙◌, inl, inr, ⊎_elim, arith}
use Rattle.std.proofs.lemmas.Bool.{cases_Bool, cond-true, cond-false, false≢true}
use Rattle.sk_model.specs.declared.label.Label.{Label}
use Rattle.sk_model.specs.declared.engine.EngineName.{EngineName}
use Rattle.sk_model.specs.declared.engine.EngineName.TheVariants.{Mem, Store}
use Rattle.sk_model.specs.declared.point.Point.{Point}
use Rattle.sk_model.specs.declared.call.Entry.{Entry}
use Rattle.sk_model.specs.Records.{same_label}
use Rattle.sk_model.proofs.Lists.{Each, each_append, each_weaker}
use Rattle.sk_model.proofs.Labels.{same_is, same_itself}
use Rattle.sk_weave.specs.Points.{Climbs, Staircase}
use Rattle.sk_linked.specs.Traces.{Transaction, Traces, In, Distinct, IsAtHorizons, MakerOf, PointsMade}
use Rattle.sk_linked.proofs.Members.{in_each, each_in, in_append, in_front, in_either}
use Rattle.sk_linked.proofs.Growing.{put_transaction, each_put, in_put_new, in_put_old, grown}

-- what the transaction of a label appended
abbrev pub made_by : Label → List Transaction → List Point
made_by tx [] = []
made_by tx (t ∷ ts) = cond (same_label tx t.label) t.made (made_by tx ts)

pub made_by_is : (ts : List Transaction) (t : Transaction) → Distinct ts → In t ts → made_by t.label ts ≡ t.made
made_by_is [] t d i = absurd i
made_by_is (x ∷ xs) t d i = ⊎_elim
    (λ (e : t ≡ x). cond-true (same_label t.label x.label) x.made (made_by t.label xs) (ap (λ (z : Transaction). same_label t.label z.label) (sym e) ∙ same_itself t.label) ∙ ap (λ (z : Transaction). z.made) (sym e))
    (λ (k : In t xs). cond-false (same_label t.label x.label) x.made (made_by t.label xs) (apart k) ∙ made_by_is xs t d.1 k)
    i
  where
    apart : In t xs → same_label t.label x.label ≡ false
    apart k = ⊎_elim
        (λ (y : same_label t.label x.label ≡ true).
        absurd (false≢true (sym (each_in (λ (u : Transaction). same_label x.label u.label ≡ false) xs t d.0 k) ∙ ap (λ (l : Label). same_label l t.label) (sym (same_is t.label x.label y)) ∙ same_itself t.label)))
        (λ (f : same_label t.label x.label ≡ false). f)
        (cases_Bool (same_label t.label x.label))

pub made_by_none : (ts : List Transaction) (tx : Label) → Each (λ (x : Transaction). same_label tx x.label ≡ false) ts → made_by tx ts ≡ []
made_by_none [] tx h = refl
made_by_none (x ∷ xs) tx h = cond-false (same_label tx x.label) x.made (made_by tx xs) h.0 ∙ made_by_none xs tx h.1

-- the transaction that appended one of these points
record MadeThere (ts : List Transaction) (tx : Label) (q : Point) : Type 0 where
  who : Transaction
  among : In who ts
  label : same_label tx who.label ≡ true
  made : In q who.made

made_there : (ts : List Transaction) (tx : Label) (q : Point) → In q (made_by tx ts) → MadeThere ts tx q
made_there [] tx q i = absurd i
made_there (x ∷ xs) tx q i = ⊎_elim
    (λ (y : same_label tx x.label ≡ true). record { who = x; among = inl refl; label = y; made = subst (λ ps. In q ps) (cond-true (same_label tx x.label) x.made (made_by tx xs) y) i })
    (λ (f : same_label tx x.label ≡ false).
    let k : MadeThere xs tx q = made_there xs tx q (subst (λ ps. In q ps) (cond-false (same_label tx x.label) x.made (made_by tx xs) f) i) in
    record { who = k.who; among = inr k.among; label = k.label; made = k.made })
    (cases_Bool (same_label tx x.label))

-- who is there once a transaction took its place
put_cases : (t y : Transaction) (xs : List Transaction) → Distinct xs → In y (put_transaction t xs) → (y ≡ t) ⊎ (In y xs × (same_label t.label y.label ≡ false))
put_cases t y [] d i = ⊎_elim (λ (e : y ≡ t). inl e) (λ (k : ⊥). absurd k) i
put_cases t y (x ∷ xs) d i = ⊎_elim
    (λ (s : same_label t.label x.label ≡ true). ⊎_elim
    (λ (e : y ≡ t). inl e)
    (λ (k : In y xs). inr (inr k, ap (λ (l : Label). same_label l y.label) (same_is t.label x.label s) ∙ each_in (λ (u : Transaction). same_label x.label u.label ≡ false) xs y d.0 k))
    (subst (λ (ys : List Transaction). In y ys) (cond-true (same_label t.label x.label) (t ∷ xs) (x ∷ put_transaction t xs) s) i))
    (λ (f : same_label t.label x.label ≡ false). ⊎_elim
    (λ (e : y ≡ x). inr (inl e, ap (λ (z : Transaction). same_label t.label z.label) e ∙ f))
    (λ (k : In y (put_transaction t xs)). ⊎_elim (λ (e : y ≡ t). inl e) (λ (m : In y xs × (same_label t.label y.label ≡ false)). inr (inr m.0, m.1)) (put_cases t y xs d.1 k))
    (subst (λ (ys : List Transaction). In y ys) (cond-false (same_label t.label x.label) (t ∷ xs) (x ∷ put_transaction t xs) f) i))
    (cases_Bool (same_label t.label x.label))

-- each point of a staircase is past those before it
sums_rise : (p : Point) (qs : List Point) → Climbs p qs → Each (λ (q : Point). p.a + p.b < q.a + q.b) qs
sums_rise p [] h = tt
sums_rise p (q ∷ qs) h =
    let here : p.a + p.b < q.a + q.b = h.0.moves in
    (here, each_weaker (λ (x : Point). q.a + q.b < x.a + x.b) (λ (x : Point). p.a + p.b < x.a + x.b) (λ x l. omega (arith, here, l)) qs (sums_rise q qs h.1))

-- so no point stands twice
apart : (p : Point) (qs more : List Point) → Climbs p (qs ++ more) → (q : Point) → In q qs → In q more → ⊥
apart p [] more h q i j = i
apart p (x ∷ qs) more h q i j = ⊎_elim
    (λ (e : q ≡ x). itself (x.a + x.b) (subst (λ (z : Point). x.a + x.b < z.a + z.b) e (each_in (λ (z : Point). x.a + x.b < z.a + z.b) (qs ++ more) q (sums_rise x (qs ++ more) h.1) (in_append q qs more j))))
    (λ (k : In q qs). apart x qs more h.1 q k j)
    i
  where
    itself : (n : ℕ) → n < n → ⊥
    itself n l = omega (arith, l)

module _ (h : Traces) (t : Transaction) (es : EngineName → List Entry) (more : List Point) (distinct : Distinct h.transactions) (stairs : Staircase (h.first ∷ (h.points ++ more))) (is : t.made ≡ made_by t.label h.transactions ++ more) (m : PointsMade h) where
  -- what the transaction had made before it keeps
  had : (x : Transaction) → In x h.transactions → same_label t.label x.label ≡ true → (q : Point) → In q x.made → In q t.made
  had x i y q k = subst (λ ps. In q ps) (sym is) (in_front q (made_by t.label h.transactions) more
      (subst (λ ps. In q ps) (sym (ap (λ (l : Label). made_by l h.transactions) (same_is t.label x.label y) ∙ made_by_is h.transactions x distinct i)) k))

  abbrev Source : Point → Type 0
  Source q = MakerOf (put_transaction t h.transactions) q ⊎ IsAtHorizons (λ s. h.journals s ++ es s) q

  old_source : (q : Point) → MakerOf h.transactions q ⊎ IsAtHorizons h.journals q → Source q
  old_source q s = ⊎_elim
      (λ (k : MakerOf h.transactions q). inl (⊎_elim
      (λ (y : same_label t.label k.who.label ≡ true). record { who = t; among = in_put_new t h.transactions; made = had k.who k.among y q k.made })
      (λ (f : same_label t.label k.who.label ≡ false). record { who = k.who; among = in_put_old t k.who h.transactions f k.among; made = k.made })
      (cases_Bool (same_label t.label k.who.label))))
      (λ (k : IsAtHorizons h.journals q). inr (record { selects = k.selects; mem = in_front _ (h.journals Mem) (es Mem) k.mem; store = in_front _ (h.journals Store) (es Store) k.store }))
      s

  before : (x : Transaction) → In x h.transactions → (q : Point) → In q x.made → In q h.points
  before x i q k = each_in (λ (q : Point). In q h.points) x.made q (each_in (λ (x : Transaction). Each (λ (q : Point). In q h.points) x.made) h.transactions x m.among i) k

  -- what it has made it had made before, or it is new
  made_here : (q : Point) → In q t.made → MadeThere h.transactions t.label q ⊎ In q more
  made_here q i = ⊎_elim
      (λ (k : In q (made_by t.label h.transactions)). inl (made_there h.transactions t.label q k))
      (λ (k : In q more). inr k)
      (in_either q (made_by t.label h.transactions) more (subst (λ ps. In q ps) is i))

  -- another transaction made none of this
  other : {A : Type 0} (x : Transaction) → In x h.transactions → same_label t.label x.label ≡ false → (q : Point) → In q t.made → In q x.made → A
  other x i f q k j = absurd (⊎_elim
      (λ (w : MadeThere h.transactions t.label q). false≢true (sym f ∙ ap (λ (z : Transaction). same_label t.label z.label) (sym (m.once q w.who x w.among i w.made j)) ∙ w.label))
      (λ (w : In q more). apart h.first h.points more stairs.1 q (before x i q j) w)
      (made_here q k))

  pub made_grows : PointsMade (grown h t es more)
  made_grows = record {
    source = each_append Source h.points more
        (each_weaker (λ (q : Point). MakerOf h.transactions q ⊎ IsAtHorizons h.journals q) Source old_source h.points m.source)
        (in_each Source more (λ q i. inl (record { who = t; among = in_put_new t h.transactions; made = subst (λ ps. In q ps) (sym is) (in_append q (made_by t.label h.transactions) more i) })));
    among = each_put (λ (x : Transaction). Each (λ (q : Point). In q (h.points ++ more)) x.made) t h.transactions
        (in_each (λ (q : Point). In q (h.points ++ more)) t.made (λ q i. ⊎_elim
        (λ (w : MadeThere h.transactions t.label q). in_front q h.points more (before w.who w.among q w.made))
        (λ (w : In q more). in_append q h.points more w)
        (made_here q i)))
        distinct
        (in_each _ h.transactions (λ x i f. in_each (λ (q : Point). In q (h.points ++ more)) x.made (λ q j. in_front q h.points more (before x i q j))));
    once = once;
  }
    where
      once : (q : Point) (x y : Transaction) → In x (put_transaction t h.transactions) → In y (put_transaction t h.transactions) → In q x.made → In q y.made → x ≡ y
      once q x y i j a b = ⊎_elim
          (λ (e : x ≡ t). ⊎_elim
          (λ (f : y ≡ t). e ∙ sym f)
          (λ (f : In y h.transactions × (same_label t.label y.label ≡ false)). other y f.0 f.1 q (subst (λ (z : Transaction). In q z.made) e a) b)
          (put_cases t y h.transactions distinct j))
          (λ (e : In x h.transactions × (same_label t.label x.label ≡ false)). ⊎_elim
          (λ (f : y ≡ t). other x e.0 e.1 q (subst (λ (z : Transaction). In q z.made) f b) a)
          (λ (f : In y h.transactions × (same_label t.label y.label ≡ false)). m.once q x y e.0 f.0 a b)
          (put_cases t y h.transactions distinct j))
          (put_cases t x h.transactions distinct i)
