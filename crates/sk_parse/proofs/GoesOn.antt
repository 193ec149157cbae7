-- The words before one that is refused begin a statement.
use Rattle.std.proofs.Common.{◌≡◌, ℕ, List, [], ◌∷◌, ◌++◌, length, length-append, refl, sym, ap, subst, ◌∙◌, append_assoc, arith, Option, Some, None, ◌⊎◌, inl, inr}
use Rattle.std.specs.Prelude.{Ok, Err}
use Rattle.std.proofs.lemmas.List.{append_cancel_right}
use Rattle.sk_lex.specs.declared.token.Word.{Word}
use Rattle.sk_parse.specs.Input.{Input, Outcome, Parser, and_then, pure, ◌>>=◌, first}
use Rattle.sk_parse.proofs.Local.{Agree, Local}
use Rattle.sk_parse.proofs.Sound.{Gave, bind_ok, same}

abbrev pub IsLocal : {A : Type 0} → Parser A → Type 0
IsLocal p = (w : Word) (vs zs : List Word) → Local w vs zs p

-- a word that was looked at and left keeps the answer, whatever follows it
kept : {A : Type 0} (p : Parser A) → IsLocal p → (us : List Word) (x : Word) (v z : List Word) (a : A) → Gave (p (us ++ x ∷ v)) a (x ∷ v) → Gave (p (us ++ x ∷ z)) a (x ∷ z)
kept {A} p local us x v z a is = by (subst (λ o. Agree x v z o (p (us ++ x ∷ z))) is ((local x v z).agree (us ++ x ∷ v) (us ++ x ∷ z) (us, refl, refl)))
  where
    left : (j : Input) (ws : List Word) → x ∷ v ≡ ws ++ x ∷ v → j ≡ ws ++ x ∷ z → j ≡ x ∷ z
    left j [] same_words that = that
    left j (y ∷ ws) same_words that = let l = ap length same_words in let k = length-append ws (x ∷ v) in absurd (omega arith)

    by : Agree x v z {A = A} (Ok (a, x ∷ v)) (p (us ++ x ∷ z)) → Gave (p (us ++ x ∷ z)) a (x ∷ z)
    by (inl (j, (ws, here, there), eq)) = eq ∙ ap (λ k. Ok (a, k)) (left j ws here there)
    by (inr past) = absurd (omega arith)

longer : (u : Word) (us r : List Word) → r ≡ u ∷ us ++ r → ⊥
longer u us r is = let l = ap length is in let k = length-append us r in omega arith

abbrev Fails : {A : Type 0} → Outcome A → ℕ → Type 0
Fails o n = o ≡ Err n

abbrev err_or : {A : Type 0} → ℕ → Outcome A → ℕ
err_or d (Ok p) = d
err_or d (Err n) = n

same_err : {A : Type 0} (n m : ℕ) → Fails {A = A} (Err n) m → n ≡ m
same_err n m is = ap (err_or n) is

-- words that go on behind those that were read, at least one, to something that the rule reads where such words follow
abbrev pub Completion : {A : Type 0} → Parser A → (Input → Type 0) → Input → ℕ → Type 0
Completion {A} p Follow i n =
    (u : Word) × (us : List Word) × (vs : List Word) × (zs : List Word) × (a : A) × (i ≡ u ∷ us ++ vs) × (n ≡ length vs) × ((z : Input) → Follow z → Gave (p (u ∷ us ++ (zs ++ z))) a z)

-- the same, from the start on
abbrev pub Reach : {A : Type 0} → Parser A → (Input → Type 0) → Input → ℕ → Type 0
Reach {A} p Follow i n =
    (us : List Word) × (vs : List Word) × (zs : List Word) × (a : A) × (i ≡ us ++ vs) × (n ≡ length vs) × ((z : Input) → Follow z → Gave (p (us ++ (zs ++ z))) a z)

abbrev pub Stable : {A : Type 0} → Parser A → (Input → Type 0) → Type 0
Stable {A} p Follow = (us : List Word) (r : Input) (a : A) → Gave (p (us ++ r)) a r → (z : Input) → Follow z → Gave (p (us ++ z)) a z

abbrev pub Takes : {A : Type 0} → Parser A → Type 0
Takes {A} p = (i r : Input) (a : A) → Gave (p i) a r → (u : Word) × (us : List Word) × (i ≡ u ∷ us ++ r)

abbrev pub Leaves : {A : Type 0} → Parser A → Type 0
Leaves {A} p = (i r : Input) (a : A) → Gave (p i) a r → (us : List Word) × (i ≡ us ++ r)

-- a rule that takes a word at least
pub record Weak {A : Type 0} (p : Parser A) (Follow : Input → Type 0) : Type 0 where
  pub local : IsLocal p
  pub takes : Takes p
  pub stable : Stable p Follow
  pub completes : (i : Input) (n : ℕ) → Fails (p i) n → (n ≡ length i) ⊎ Completion p Follow i n

-- one that may take nothing, and is never refused at its first word
pub record Tail {A : Type 0} (p : Parser A) (Follow : Input → Type 0) : Type 0 where
  pub local : IsLocal p
  pub leaves : Leaves p
  pub stops : (a : A) × ((z : Input) → Follow z → Gave (p z) a z)
  pub stable : Stable p Follow
  pub completes : (i : Input) (n : ℕ) → Fails (p i) n → Completion p Follow i n

-- one that stands behind a word
pub record Rest {A : Type 0} (p : Parser A) (Follow : Input → Type 0) : Type 0 where
  pub leaves : Leaves p
  pub stable : Stable p Follow
  pub completes : (i : Input) (n : ℕ) → Fails (p i) n → Reach p Follow i n

-- words that the rule reads
abbrev pub Fills : {A : Type 0} → Parser A → (Input → Type 0) → Word → List Word → Type 0
Fills {A} p Follow x fill = (a : A) × ((z : Input) → Follow z → Gave (p (x ∷ fill ++ z)) a z)

pub rest_of : {A : Type 0} (p : Parser A) (Follow : Input → Type 0) (x : Word) (fill : List Word) → Weak p Follow → Fills p Follow x fill → Rest p Follow
rest_of {A} p Follow x fill weak fills = record {
  leaves = λ i r a is. let t = weak.takes i r a is in (t.0 ∷ t.1, t.2);
  stable = weak.stable;
  completes = λ i n is. by i n (weak.completes i n is);
}
  where
    by : (i : Input) (n : ℕ) → (n ≡ length i) ⊎ Completion p Follow i n → Reach p Follow i n
    by i n (inl at_once) = ([], i, x ∷ fill, fills.0, refl, at_once, fills.1)
    by i n (inr c) = (c.0 ∷ c.1, c.2, c.3, c.4, c.5, c.6, c.7)

pub rest_pure : {A : Type 0} (a : A) (Follow : Input → Type 0) → Rest (pure a) Follow
rest_pure a Follow = record {
  leaves = λ i r b is. ([], (same a b i r is).1);
  stable = λ us r b is z stop. let s = same a b (us ++ r) r is in ap (λ c. Ok (c, us ++ z)) s.0 ∙ ap (λ l. Ok (b, l ++ z)) (append_cancel_right us [] r s.1);
  completes = λ i n is. absurd cc;
}

pub tail_pure : {A : Type 0} (a : A) (Follow : Input → Type 0) → IsLocal (pure a) → Tail (pure a) Follow
tail_pure a Follow local = record {
  local = local;
  leaves = λ i r b is. ([], (same a b i r is).1);
  stops = (a, λ z stop. refl);
  stable = (rest_pure a Follow).stable;
  completes = λ i n is. absurd cc;
}

-- ---- by the first word

-- it is refused, or taken before a rest, or stands in a rule
abbrev pub Kind : {A : Type 0} → (Option Word → Parser A) → (Input → Type 0) → Word → Type 0
Kind {A} g Follow c =
    ((j : Input) → g (Some c) (c ∷ j) ≡ Err (length (c ∷ j)))
    ⊎ (((q : Parser A) × Rest q Follow × ((j : Input) → g (Some c) (c ∷ j) ≡ q j))
    ⊎ ((p : Parser A) × Weak p Follow × ((j : Input) → g (Some c) (c ∷ j) ≡ p (c ∷ j))))

module _ {A : Type 0} (g : Option Word → Parser A) (Follow : Input → Type 0) (nothing : g None [] ≡ Err 0) (kind : (c : Word) → Kind g Follow c) where
  abbrev At : Parser A
  At i = g (first i) i

  first_takes : Takes At
  first_takes [] r a is = absurd cc
  first_takes (c ∷ j) r a is = by (kind c)
    where
      by : Kind g Follow c → (u : Word) × (us : List Word) × (c ∷ j ≡ u ∷ us ++ r)
      by (inl refused) = let bad = refused j in absurd cc
      by (inr (inl (q, rest, at))) = let l = rest.leaves j r a (sym (at j) ∙ is) in (c, l.0, ap (λ k. c ∷ k) l.1)
      by (inr (inr (p, weak, at))) = weak.takes (c ∷ j) r a (sym (at j) ∙ is)

  first_stable : Stable At Follow
  first_stable [] r a is z stop = let t = first_takes r r a is in absurd (longer t.0 t.1 r t.2)
  first_stable (c ∷ us) r a is z stop = by (kind c)
    where
      by : Kind g Follow c → Gave (At (c ∷ us ++ z)) a z
      by (inl refused) = let bad = refused (us ++ r) in absurd cc
      by (inr (inl (q, rest, at))) = at (us ++ z) ∙ rest.stable us r a (sym (at (us ++ r)) ∙ is) z stop
      by (inr (inr (p, weak, at))) = at (us ++ z) ∙ weak.stable (c ∷ us) r a (sym (at (us ++ r)) ∙ is) z stop

  first_completes : (i : Input) (n : ℕ) → Fails (At i) n → (n ≡ length i) ⊎ Completion At Follow i n
  first_completes [] n is = inl (sym (same_err {A = A} 0 n (sym nothing ∙ is)))
  first_completes (c ∷ j) n is = by (kind c)
    where
      moved : (p : Parser A) → ((k : Input) → g (Some c) (c ∷ k) ≡ p (c ∷ k)) → (u : Word) (us zs : List Word) (a : A) (z : Input) → c ≡ u → Gave (p (u ∷ us ++ (zs ++ z))) a z → Gave (At (c ∷ us ++ (zs ++ z))) a z
      moved p at u us zs a z same_word reads = at (us ++ (zs ++ z)) ∙ ap (λ x. p (x ∷ us ++ (zs ++ z))) same_word ∙ reads

      in_rule : (p : Parser A) → ((k : Input) → g (Some c) (c ∷ k) ≡ p (c ∷ k)) → (n ≡ length (c ∷ j)) ⊎ Completion p Follow (c ∷ j) n → (n ≡ length (c ∷ j)) ⊎ Completion At Follow (c ∷ j) n
      in_rule p at (inl at_once) = inl at_once
      in_rule p at (inr (u, us, vs, zs, a, words, len, reads)) =
          let word_is : c ≡ u = cc in
          inr (c, us, vs, zs, a, words ∙ ap (λ x. x ∷ us ++ vs) (sym word_is), len, λ z stop. moved p at u us zs a z word_is (reads z stop))

      by : Kind g Follow c → (n ≡ length (c ∷ j)) ⊎ Completion At Follow (c ∷ j) n
      by (inl refused) = inl (sym (same_err {A = A} (length (c ∷ j)) n (sym (refused j) ∙ is)))
      by (inr (inl (q, rest, at))) =
          let r = rest.completes j n (sym (at j) ∙ is) in
          inr (c, r.0, r.1, r.2, r.3, ap (λ k. c ∷ k) r.4, r.5, λ z stop. at (r.0 ++ (r.2 ++ z)) ∙ r.6 z stop)
      by (inr (inr (p, weak, at))) = in_rule p at (weak.completes (c ∷ j) n (sym (at j) ∙ is))

  pub weak_first : IsLocal At → Weak At Follow
  weak_first local = record { local = local; takes = first_takes; stable = first_stable; completes = first_completes }

-- it ends a rule that may take nothing, or is taken before a rest
abbrev pub KindTail : {A : Type 0} → (Option Word → Parser A) → (Input → Type 0) → A → Word → Type 0
KindTail {A} g Follow a c =
    ((j : Input) → g (Some c) (c ∷ j) ≡ Ok (a, c ∷ j)) ⊎ ((q : Parser A) × Rest q Follow × ((j : Input) → g (Some c) (c ∷ j) ≡ q j))

module _ {A : Type 0} (g : Option Word → Parser A) (Follow : Input → Type 0) (left : A) (nothing : Gave (g None []) left []) (kind : (c : Word) → KindTail g Follow left c)
    (stops : (z : Input) → Follow z → Gave (g (first z) z) left z) where
  abbrev AtTail : Parser A
  AtTail i = g (first i) i

  tail_leaves : Leaves AtTail
  tail_leaves [] r a is = ([], (same left a [] r (sym nothing ∙ is)).1)
  tail_leaves (c ∷ j) r a is = by (kind c)
    where
      by : KindTail g Follow left c → (us : List Word) × (c ∷ j ≡ us ++ r)
      by (inl ended) = ([], (same left a (c ∷ j) r (sym (ended j) ∙ is)).1)
      by (inr (q, rest, at)) = let l = rest.leaves j r a (sym (at j) ∙ is) in (c ∷ l.0, ap (λ k. c ∷ k) l.1)

  -- what takes nothing gives this
  gives_left : (r : Input) (a : A) → Gave (AtTail r) a r → left ≡ a
  gives_left [] a is = (same left a [] [] (sym nothing ∙ is)).0
  gives_left (c ∷ j) a is = by (kind c)
    where
      shorter : (us : List Word) → j ≡ us ++ c ∷ j → ⊥
      shorter us words = let l = ap length words in let k = length-append us (c ∷ j) in omega arith

      by : KindTail g Follow left c → left ≡ a
      by (inl ended) = (same left a (c ∷ j) (c ∷ j) (sym (ended j) ∙ is)).0
      by (inr (q, rest, at)) = let l = rest.leaves j (c ∷ j) a (sym (at j) ∙ is) in absurd (shorter l.0 l.1)

  tail_stable : Stable AtTail Follow
  tail_stable [] r a is z stop = stops z stop ∙ ap (λ x. Ok (x, z)) (gives_left r a is)
  tail_stable (c ∷ us) r a is z stop = by (kind c)
    where
      by : KindTail g Follow left c → Gave (AtTail (c ∷ us ++ z)) a z
      by (inl ended) = let s = same left a (c ∷ us ++ r) r (sym (ended (us ++ r)) ∙ is) in absurd (longer c us r (sym s.1))
      by (inr (q, rest, at)) = at (us ++ z) ∙ rest.stable us r a (sym (at (us ++ r)) ∙ is) z stop

  tail_completes : (i : Input) (n : ℕ) → Fails (AtTail i) n → Completion AtTail Follow i n
  tail_completes [] n is = absurd cc
  tail_completes (c ∷ j) n is = by (kind c)
    where
      by : KindTail g Follow left c → Completion AtTail Follow (c ∷ j) n
      by (inl ended) = let bad = ended j in absurd cc
      by (inr (q, rest, at)) =
          let r = rest.completes j n (sym (at j) ∙ is) in
          (c, r.0, r.1, r.2, r.3, ap (λ k. c ∷ k) r.4, r.5, λ z stop. at (r.0 ++ (r.2 ++ z)) ∙ r.6 z stop)

  pub tail_first : IsLocal AtTail → Tail AtTail Follow
  tail_first local = record { local = local; leaves = tail_leaves; stops = (left, stops); stable = tail_stable; completes = tail_completes }

-- ---- one rule behind another

-- the first rule before words that the second took
split_kept : {A : Type 0} (p : Parser A) → IsLocal p → (us : List Word) (i r : Input) (a : A) (x : Word) (v : List Word) → Gave (p i) a r → i ≡ us ++ r → r ≡ x ∷ v → (z : List Word) → Gave (p (us ++ x ∷ z)) a (x ∷ z)
split_kept p local us i r a x v is words rest z =
    let here : Gave (p (us ++ x ∷ v)) a (x ∷ v) = subst (λ k. Gave (p (us ++ k)) a k) rest (subst (λ k. Gave (p k) a r) words is) in
    kept p local us x v z a here

module _ {A B : Type 0} (p : Parser A) (f : A → Parser B) (Follow Last : Input → Type 0) (weak : Weak p Follow) (local : IsLocal (p >>= f)) where
  module _ (each : (a : A) → Weak (f a) Last) (y : Word) (gill : List Word) (fills : (a : A) → Fills (f a) Last y gill) (before : (z : Input) → Follow (y ∷ z)) where
    bind_takes : Takes (p >>= f)
    bind_takes i r b is =
        let s = bind_ok (p i) f b r is in
        let t = weak.takes i s.1 s.0 s.2 in
        let k = (each s.0).takes s.1 r b s.3 in
        (t.0, t.1 ++ k.0 ∷ k.1, t.2 ∙ ap (λ l. t.0 ∷ t.1 ++ l) k.2 ∙ sym (append_assoc (t.0 ∷ t.1) (k.0 ∷ k.1) r))

    bind_stable : Stable (p >>= f) Last
    bind_stable us r b is z stop =
        let s = bind_ok (p (us ++ r)) f b r is in
        let t = weak.takes (us ++ r) s.1 s.0 s.2 in
        let k = (each s.0).takes s.1 r b s.3 in
        let front = t.0 ∷ t.1 in
        let back = k.0 ∷ k.1 in
        let words : us ≡ front ++ back = append_cancel_right us (front ++ back) r (t.2 ∙ ap (λ l. front ++ l) k.2 ∙ sym (append_assoc front back r)) in
        let one = split_kept p weak.local front (us ++ r) s.1 s.0 k.0 (k.1 ++ r) s.2 t.2 k.2 (k.1 ++ z) in
        let two = (each s.0).stable back r b (subst (λ l. Gave (f s.0 l) b r) k.2 s.3) z stop in
        ap (λ l. and_then (p (l ++ z)) f) words ∙ ap (λ l. and_then (p l) f) (append_assoc front back z) ∙ ap (λ o. and_then o f) one ∙ two

    bind_completes : (i : Input) (n : ℕ) → Fails ((p >>= f) i) n → (n ≡ length i) ⊎ Completion (p >>= f) Last i n
    bind_completes i n is = by (p i) refl is
      where
        in_first : (n ≡ length i) ⊎ Completion p Follow i n → (n ≡ length i) ⊎ Completion (p >>= f) Last i n
        in_first (inl at_once) = inl at_once
        in_first (inr (u, us, vs, zs, a, words, len, reads)) =
            let b = fills a in
            inr (
              u,
              us,
              vs,
              zs ++ y ∷ gill,
              b.0,
              words,
              len,
              λ z stop.
                  ap (λ l. and_then (p (u ∷ us ++ l)) f) (append_assoc zs (y ∷ gill) z) ∙ ap (λ o. and_then o f) (reads (y ∷ gill ++ z) (before (gill ++ z))) ∙ b.1 z stop,
            )

        in_second : (a : A) (r : Input) → Gave (p i) a r → (n ≡ length r) ⊎ Completion (f a) Last r n → (n ≡ length i) ⊎ Completion (p >>= f) Last i n
        in_second a r is_p (inl at_once) =
            let t = weak.takes i r a is_p in
            let b = fills a in
            inr (
              t.0,
              t.1,
              r,
              y ∷ gill,
              b.0,
              t.2,
              at_once,
              λ z stop.
                  ap (λ o. and_then o f) (weak.stable (t.0 ∷ t.1) r a (subst (λ l. Gave (p l) a r) t.2 is_p) (y ∷ gill ++ z) (before (gill ++ z))) ∙ b.1 z stop,
            )
        in_second a r is_p (inr (u, us, vs, zs, b, words, len, reads)) =
            let t = weak.takes i r a is_p in
            inr (
              t.0,
              t.1 ++ u ∷ us,
              vs,
              zs,
              b,
              t.2 ∙ ap (λ l. t.0 ∷ t.1 ++ l) words ∙ sym (append_assoc (t.0 ∷ t.1) (u ∷ us) vs),
              len,
              λ z stop.
                  ap (λ l. and_then (p l) f) (append_assoc (t.0 ∷ t.1) (u ∷ us) (zs ++ z))
                  ∙ ap (λ o. and_then o f) (split_kept p weak.local (t.0 ∷ t.1) i r a u (us ++ vs) is_p t.2 words (us ++ (zs ++ z))) ∙ reads z stop,
            )

        by : (o : Outcome A) → p i ≡ o → Fails (and_then o f) n → (n ≡ length i) ⊎ Completion (p >>= f) Last i n
        by (Err m) at failed = in_first (weak.completes i n (at ∙ ap Err (same_err {A = B} m n failed)))
        by (Ok q) at failed = in_second q.0 q.1 at ((each q.0).completes q.1 n failed)

    pub weak_bind : Weak (p >>= f) Last
    weak_bind = record { local = local; takes = bind_takes; stable = bind_stable; completes = bind_completes }

    pub fills_bind : (x : Word) (fill : List Word) → Fills p Follow x fill → Fills (p >>= f) Last x (fill ++ y ∷ gill)
    fills_bind x fill is =
        let b = fills is.0 in
        (b.0, λ z stop. ap (λ l. and_then (p l) f) (append_assoc (x ∷ fill) (y ∷ gill) z) ∙ ap (λ o. and_then o f) (is.1 (y ∷ gill ++ z) (before (gill ++ z))) ∙ b.1 z stop)

  module _ (each : (a : A) → Tail (f a) Last) (weaker : (z : Input) → Last z → Follow z) where
    then_takes : Takes (p >>= f)
    then_takes i r b is =
        let s = bind_ok (p i) f b r is in
        let t = weak.takes i s.1 s.0 s.2 in
        let k = (each s.0).leaves s.1 r b s.3 in
        (t.0, t.1 ++ k.0, t.2 ∙ ap (λ l. t.0 ∷ t.1 ++ l) k.1 ∙ sym (append_assoc (t.0 ∷ t.1) k.0 r))

    then_stable : Stable (p >>= f) Last
    then_stable us r b is z stop =
        let s = bind_ok (p (us ++ r)) f b r is in
        let t = weak.takes (us ++ r) s.1 s.0 s.2 in
        let k = (each s.0).leaves s.1 r b s.3 in
        let words : us ≡ (t.0 ∷ t.1) ++ k.0 = append_cancel_right us ((t.0 ∷ t.1) ++ k.0) r (t.2 ∙ ap (λ l. t.0 ∷ t.1 ++ l) k.1 ∙ sym (append_assoc (t.0 ∷ t.1) k.0 r)) in
        let two = (each s.0).stable k.0 r b (subst (λ l. Gave (f s.0 l) b r) k.1 s.3) z stop in
        ap (λ l. and_then (p (l ++ z)) f) words ∙ ap (λ l. and_then (p l) f) (append_assoc (t.0 ∷ t.1) k.0 z) ∙ ap (λ o. and_then o f) (by s.0 s.1 t.0 t.1 s.2 t.2 k.0 k.1) ∙ two
      where
        by : (a : A) (q : Input) (u : Word) (front : List Word) → Gave (p (us ++ r)) a q → us ++ r ≡ u ∷ front ++ q → (back : List Word) → q ≡ back ++ r → Gave (p (u ∷ front ++ (back ++ z))) a (back ++ z)
        by a q u front is_p words [] rest =
            weak.stable (u ∷ front) r a (subst (λ k. Gave (p (u ∷ front ++ k)) a k) rest (subst (λ k. Gave (p k) a q) words is_p)) z (weaker z stop)
        by a q u front is_p words (c ∷ back) rest = split_kept p weak.local (u ∷ front) (us ++ r) q a c (back ++ r) is_p words rest (back ++ z)

    then_completes : (i : Input) (n : ℕ) → Fails ((p >>= f) i) n → (n ≡ length i) ⊎ Completion (p >>= f) Last i n
    then_completes i n is = by (p i) refl is
      where
        in_first : (n ≡ length i) ⊎ Completion p Follow i n → (n ≡ length i) ⊎ Completion (p >>= f) Last i n
        in_first (inl at_once) = inl at_once
        in_first (inr (u, us, vs, zs, a, words, len, reads)) =
            let b = (each a).stops in
            inr (u, us, vs, zs, b.0, words, len, λ z stop. ap (λ o. and_then o f) (reads z (weaker z stop)) ∙ b.1 z stop)

        in_second : (a : A) (r : Input) → Gave (p i) a r → Completion (f a) Last r n → (n ≡ length i) ⊎ Completion (p >>= f) Last i n
        in_second a r is_p (u, us, vs, zs, b, words, len, reads) =
            let t = weak.takes i r a is_p in
            inr (
              t.0,
              t.1 ++ u ∷ us,
              vs,
              zs,
              b,
              t.2 ∙ ap (λ l. t.0 ∷ t.1 ++ l) words ∙ sym (append_assoc (t.0 ∷ t.1) (u ∷ us) vs),
              len,
              λ z stop.
                  ap (λ l. and_then (p l) f) (append_assoc (t.0 ∷ t.1) (u ∷ us) (zs ++ z))
                  ∙ ap (λ o. and_then o f) (split_kept p weak.local (t.0 ∷ t.1) i r a u (us ++ vs) is_p t.2 words (us ++ (zs ++ z))) ∙ reads z stop,
            )

        by : (o : Outcome A) → p i ≡ o → Fails (and_then o f) n → (n ≡ length i) ⊎ Completion (p >>= f) Last i n
        by (Err m) at failed = in_first (weak.completes i n (at ∙ ap Err (same_err {A = B} m n failed)))
        by (Ok q) at failed = in_second q.0 q.1 at ((each q.0).completes q.1 n failed)

    pub weak_then : Weak (p >>= f) Last
    weak_then = record { local = local; takes = then_takes; stable = then_stable; completes = then_completes }

    pub fills_then : (x : Word) (fill : List Word) → Fills p Follow x fill → Fills (p >>= f) Last x fill
    fills_then x fill is =
        let b = (each is.0).stops in
        (b.0, λ z stop. ap (λ o. and_then o f) (is.1 z (weaker z stop)) ∙ b.1 z stop)
