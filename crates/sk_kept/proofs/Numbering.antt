-- The transactions of sessions in one list: whose they are, and where the last of a session stands.
use Rattle.std.specs.Prelude.{◌≡◌, ℕ, ◌<◌, ◌≤◌, ◌+◌, List, [], ◌∷◌, ◌++◌, Bool, true, false, ◌==◌, ◌&&◌, length, map}
use Rattle.std.proofs.Common.{refl, sym, ap, subst, ◌∙◌, inl, inr, ⊎_elim, arith}
use Rattle.std.specs.List.{flat_map}
use Rattle.std.proofs.lemmas.Bool.{ne_eqb, eqb-true, eq-eqb, cases_Bool, false≢true, and_right}
use Rattle.std.proofs.lemmas.List.{append-nil, append_assoc}
use Rattle.std.proofs.lemmas.List.Concat.{flat_map-append}
use Rattle.sk_model.specs.declared.label.Label.{Label}
use Rattle.sk_model.specs.Records.{same_label}
use Rattle.sk_model.specs.Talks.{Talk}
use Rattle.sk_model.proofs.Lists.{Each, each_append, each_front, each_end, each_weaker}
use Rattle.sk_linked.specs.Traces.{In}
use Rattle.sk_linked.proofs.Members.{each_in, in_each, each_flat}
use Rattle.sk_session.specs.Facts.{Facts}
use Rattle.sk_kept.specs.Held.{Trace}
use Rattle.sk_kept.specs.Running.{Member, traces_of, traces_in, all_traces, Numbered, Differ}

-- ---- the last transaction of a session

pub record LastOf (number k : ℕ) (front : List Facts) (f : Facts) (before : List Talk) (t : Talk) : Type 0 where
  pub traces : traces_of (front ++ f ∷ []) (before ++ t ∷ []) ≡ traces_of front before ++ record { facts = f; talk = t } ∷ []
  pub numbered : Numbered number k front before
  pub label : f.label ≡ record { session = number; k = length front + k }

no_more : (number k : ℕ) (ts : List Talk) (t : Talk) → Numbered number k [] (ts ++ t ∷ []) → ⊥
no_more number k [] t h = h
no_more number k (s ∷ ts) t h = h

none_left : (number k : ℕ) (fs : List Facts) (f : Facts) → Numbered number k (fs ++ f ∷ []) [] → ⊥
none_left number k [] f h = h
none_left number k (g ∷ fs) f h = h

pub last_of : (number k : ℕ) (front : List Facts) (f : Facts) (before : List Talk) (t : Talk) → Numbered number k (front ++ f ∷ []) (before ++ t ∷ []) → LastOf number k front f before t
last_of number k [] f [] t h = let z : k ≡ 0 + k = omega arith in record { traces = refl; numbered = tt; label = h.0 ∙ ap (λ n. record { session = number; k = n }) z }
last_of number k [] f (s ∷ ts) t h = absurd (no_more number (k + 1) ts t h.1)
last_of number k (g ∷ fs) f [] t h = absurd (none_left number (k + 1) fs f h.1)
last_of number k (g ∷ fs) f (s ∷ ts) t h =
    let l : LastOf number (k + 1) fs f ts t = last_of number (k + 1) fs f ts t h.1 in
    let n : length fs + (k + 1) ≡ length (g ∷ fs) + k = omega arith in
    record {
      traces = ap (λ xs. record { facts = g; talk = s } ∷ xs) l.traces;
      numbered = (h.0, l.numbered);
      label = l.label ∙ ap (λ n. record { session = number; k = n }) n;
    }

pub numbered_push : (number k : ℕ) (front : List Facts) (f : Facts) (before : List Talk) (t : Talk) → Numbered number k front before → f.label ≡ record { session = number; k = length front + k } → Numbered number k (front ++ f ∷ []) (before ++ t ∷ [])
numbered_push number k [] f [] t h e = let z : 0 + k ≡ k = omega arith in (e ∙ ap (λ n. record { session = number; k = n }) z, tt)
numbered_push number k [] f (s ∷ ts) t h e = absurd h
numbered_push number k (g ∷ fs) f [] t h e = absurd h
numbered_push number k (g ∷ fs) f (s ∷ ts) t h e =
    let n : length (g ∷ fs) + k ≡ length fs + (k + 1) = omega arith in
    (h.0, numbered_push number (k + 1) fs f ts t h.1 (e ∙ ap (λ n. record { session = number; k = n }) n))

pub traces_push : (number k : ℕ) (front : List Facts) (f : Facts) (before : List Talk) (t : Talk) → Numbered number k front before → traces_of (front ++ f ∷ []) (before ++ t ∷ []) ≡ traces_of front before ++ record { facts = f; talk = t } ∷ []
traces_push number k [] f [] t h = refl
traces_push number k [] f (s ∷ ts) t h = absurd h
traces_push number k (g ∷ fs) f [] t h = absurd h
traces_push number k (g ∷ fs) f (s ∷ ts) t h = ap (λ xs. record { facts = g; talk = s } ∷ xs) (traces_push number (k + 1) fs f ts t h.1)

-- ---- labels

abbrev pub IsOf : ℕ → ℕ → Trace → Type 0
IsOf number bound t = (t.facts.label.session ≡ number) × (t.facts.label.k < bound)

pub labels_in : (number k : ℕ) (fs : List Facts) (ts : List Talk) → Numbered number k fs ts → Each (IsOf number (length fs + k)) (traces_of fs ts)
labels_in number k [] [] h = tt
labels_in number k [] (t ∷ ts) h = absurd h
labels_in number k (f ∷ fs) [] h = absurd h
labels_in number k (f ∷ fs) (t ∷ ts) h =
    let e : f.label.k ≡ k = ap (λ (l : Label). l.k) h.0 in
    let n : length fs + (k + 1) ≡ length (f ∷ fs) + k = omega arith in
    ((ap (λ (l : Label). l.session) h.0, omega arith), subst (λ b. Each (IsOf number b) (traces_of fs ts)) n (labels_in number (k + 1) fs ts h.1))

same_session_apart : (l m : Label) (n : ℕ) → l.k ≡ n → m.k < n → same_label l m ≡ false
same_session_apart l m n e h = and_right (l.session == m.session) (l.k == m.k) (ne_eqb l.k m.k (λ q. past q))
  where
    past : l.k ≡ m.k → ⊥
    past q = omega arith

other_session_apart : (l m : Label) (x y : ℕ) → l.session ≡ x → m.session ≡ y → (x == y) ≡ false → same_label l m ≡ false
other_session_apart l m x y e f g = ap (λ a. (a == m.session) && (l.k == m.k)) e ∙ ap (λ b. (x == b) && (l.k == m.k)) f ∙ ap (λ c. c && (l.k == m.k)) g

-- ---- all sessions

pub swap_eqb : (m n : ℕ) → (m == n) ≡ false → (n == m) ≡ false
swap_eqb m n e = ⊎_elim
    (λ (t : (n == m) ≡ true). absurd (false≢true (sym e ∙ eq-eqb m n (sym (eqb-true n m t)))))
    (λ (f : (n == m) ≡ false). f)
    (cases_Bool (n == m))

numbers : List Member → List ℕ
numbers ms = map (λ (m : Member). m.number) ms

-- the others differ from the one in the middle
pub differ_middle : (before : List Member) (m : Member) (after : List Member) → Differ (map (λ (x : Member). x.number) (before ++ m ∷ after)) → Each (λ (r : Member). (m.number == r.number) ≡ false) (before ++ after)
differ_middle [] m after h = each_of after h.0
  where
    each_of : (xs : List Member) → Each (λ n. (m.number == n) ≡ false) (map (λ (x : Member). x.number) xs) → Each (λ (r : Member). (m.number == r.number) ≡ false) xs
    each_of [] h = tt
    each_of (x ∷ xs) h = (h.0, each_of xs h.1)
differ_middle (b ∷ before) m after h = (swap_eqb b.number m.number (here before h.0), differ_middle before m after h.1)
  where
    here : (xs : List Member) → Each (λ n. (b.number == n) ≡ false) (map (λ (x : Member). x.number) (xs ++ m ∷ after)) → (b.number == m.number) ≡ false
    here [] h = h.0
    here (x ∷ xs) h = here xs h.1

-- a changed session keeps its number
pub same_numbers : (before : List Member) (m n : Member) (after : List Member) → n.number ≡ m.number → map (λ (x : Member). x.number) (before ++ n ∷ after) ≡ map (λ (x : Member). x.number) (before ++ m ∷ after)
same_numbers [] m n after e = ap (λ x. x ∷ map (λ (x : Member). x.number) after) e
same_numbers (b ∷ before) m n after e = ap (λ xs. b.number ∷ xs) (same_numbers before m n after e)

-- where the last transaction of a session stands among all
pub middle_of : (before : List Member) (m : Member) (after : List Member) (front : List Trace) (t : Trace) → traces_in m ≡ front ++ t ∷ [] → all_traces (before ++ m ∷ after) ≡ (all_traces before ++ front) ++ t ∷ all_traces after
middle_of before m after front t e =
    flat_map-append traces_in before (m ∷ after) ∙ ap (λ xs. all_traces before ++ (xs ++ all_traces after)) e ∙ ap (λ xs. all_traces before ++ xs) (append_assoc front (t ∷ []) (all_traces after))
    ∙ sym (append_assoc (all_traces before) front (t ∷ all_traces after))

-- and where a new one comes
pub place_of : (before : List Member) (m : Member) (after : List Member) → all_traces (before ++ m ∷ after) ≡ (all_traces before ++ traces_in m) ++ all_traces after
place_of before m after = flat_map-append traces_in before (m ∷ after) ∙ sym (append_assoc (all_traces before) (traces_in m) (all_traces after))

abbrev Apart : Label → Trace → Type 0
Apart l u = same_label l u.facts.label ≡ false

abbrev Both : ℕ → Member → Type 0
Both n r = Numbered r.number 1 r.facts r.talks × ((n == r.number) ≡ false)

-- the label of a session's next transaction, or of its last, is none of the others'
pub label_apart : (before : List Member) (m : Member) (after : List Member) (front : List Facts) (talks : List Talk) (l : Label) → Each (λ (r : Member). Numbered r.number 1 r.facts r.talks) (before ++ after)
    → Differ (map (λ (x : Member). x.number) (before ++ m ∷ after)) → Numbered m.number 1 front talks → l ≡ record { session = m.number; k = length front + 1 }
    → Each (λ (u : Trace). same_label l u.facts.label ≡ false) ((all_traces before ++ traces_of front talks) ++ all_traces after)
label_apart before m after front talks l others differ own e =
    each_append (Apart l) (all_traces before ++ traces_of front talks) (all_traces after)
    (each_append (Apart l) (all_traces before) (traces_of front talks)
    (of_others before (each_front (Both m.number) before after both))
    (each_weaker (IsOf m.number (length front + 1)) (Apart l) (λ u h. same_session_apart l u.facts.label (length front + 1) (ap (λ (x : Label). x.k) e) h.1) (traces_of front talks) (labels_in m.number 1 front talks own)))
    (of_others after (each_end (Both m.number) before after both))
  where
    pair : (xs : List Member) → Each (λ (r : Member). Numbered r.number 1 r.facts r.talks) xs → Each (λ (r : Member). (m.number == r.number) ≡ false) xs → Each (Both m.number) xs
    pair [] h k = tt
    pair (x ∷ xs) h k = ((h.0, k.0), pair xs h.1 k.1)

    both : Each (Both m.number) (before ++ after)
    both = pair (before ++ after) others (differ_middle before m after differ)

    of_others : (xs : List Member) → Each (Both m.number) xs → Each (Apart l) (all_traces xs)
    of_others xs h = each_flat (Apart l) traces_in xs (each_weaker (Both m.number) (λ (r : Member). Each (Apart l) (traces_in r))
        (λ r k. each_weaker (IsOf r.number (length r.facts + 1)) (Apart l) (λ u x. other_session_apart l u.facts.label m.number r.number (ap (λ (y : Label). y.session) e) x.0 k.1) (traces_in r) (labels_in r.number 1 r.facts r.talks k.0))
        xs h)
