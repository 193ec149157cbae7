-- Receipts stay as they promise, from flush to flush.
use Rattle.std.specs.Prelude.{◌≡◌, ℕ, ◌+◌, ◌≤◌, Bool, true, false, not, ◌||◌, List, [], ◌∷◌, ◌++◌, map, cond, if◌then◌else◌}
use Rattle.std.specs.List.{filter, list_any, AllByRecursion}
use Rattle.std.proofs.Common.{refl, sym, ap, subst, arith}
use Rattle.std.proofs.lemmas.Bool.{and_from, false≢true}
use Rattle.sk_model.specs.declared.label.Label.{Label}
use Rattle.sk_model.specs.declared.point.Point.{Point}
use Rattle.sk_model.specs.declared.receipt.Need.{Need}
use Rattle.sk_model.specs.declared.receipt.Receipt.{Receipt}
use Rattle.sk_model.specs.Records.{same_label}
use Rattle.sk_model.proofs.Labels.{same_is, same_itself}
use Rattle.sk_cut.specs.Receipts.{covers, receipt_at}
use Rattle.sk_cut.specs.Acked.{times, AreOnce, labels_of, told, answers, IsUpTo, IsOneOf, AckedAtFirst, AckedWhenQueued, AckedWhenFlushed}

abbrev one : Label → Label → ℕ
one label l = if same_label label l then 1 else 0

one_small : (label l : Label) → one label l ≤ 1
one_small label l = small (same_label label l)
  where
    small : (b : Bool) → (if b then 1 else 0) ≤ 1
    small true = omega arith
    small false = omega arith

-- ---- how often a label stands

pub queued_more : (label : Label) (needs : List Need) (need : Need) → times label (labels_of (needs ++ need ∷ [])) ≡ times label (labels_of needs) + one label need.label
queued_more label [] need = omega arith
queued_more label (n ∷ needs) need = omega (arith, queued_more label needs need)

told_more : (label : Label) (receipts : List Receipt) (to : Point) (needs : List Need)
    → times label (told (receipts ++ map (receipt_at to) needs)) ≡ times label (told receipts) + times label (labels_of needs)
told_more label [] to needs = omega (arith, same needs)
  where
    same : (needs : List Need) → times label (told (map (receipt_at to) needs)) ≡ times label (labels_of needs)
    same [] = refl
    same (n ∷ needs) = ap (λ (k : ℕ). one label n.label + k) (same needs)
told_more label (r ∷ receipts) to needs = omega (arith, told_more label receipts to needs)

-- those who are covered and those who are not are all
pub split : (label : Label) (test : Need → Bool) (needs : List Need) → times label (labels_of (filter test needs)) + times label (labels_of (filter (λ n. not (test n)) needs)) ≡ times label (labels_of needs)
split label test [] = refl
split label test (n ∷ needs) = step (test n) (split label test needs)
  where
    step : (b : Bool) → times label (labels_of (filter test needs)) + times label (labels_of (filter (λ m. not (test m)) needs)) ≡ times label (labels_of needs)
        → times label (labels_of (cond b (n ∷ filter test needs) (filter test needs))) + times label (labels_of (cond (not b) (n ∷ filter (λ m. not (test m)) needs) (filter (λ m. not (test m)) needs)))
        ≡ one label n.label + times label (labels_of needs)
    step true rest = omega (arith, rest)
    step false rest = omega (arith, rest)

-- ---- each of a list

all_weaker : {X : Type 0} (P Q : X → Type 0) (weaker : (x : X) → P x → Q x) (xs : List X) → AllByRecursion P xs → AllByRecursion Q xs
all_weaker P Q weaker [] all = tt
all_weaker P Q weaker (x ∷ xs) all = (weaker x all.0, all_weaker P Q weaker xs all.1)

all_both : {X : Type 0} (P : X → Type 0) (xs ys : List X) → AllByRecursion P xs → AllByRecursion P ys → AllByRecursion P (xs ++ ys)
all_both P [] ys one two = two
all_both P (x ∷ xs) ys one two = (one.0, all_both P xs ys one.1 two)

all_filtered : {X : Type 0} (P : X → Type 0) (test : X → Bool) (xs : List X) → AllByRecursion P xs → AllByRecursion P (filter test xs)
all_filtered P test [] all = tt
all_filtered P test (x ∷ xs) all = step (test x) (all_filtered P test xs all.1)
  where
    step : (b : Bool) → AllByRecursion P (filter test xs) → AllByRecursion P (cond b (x ∷ filter test xs) (filter test xs))
    step true rest = (all.0, rest)
    step false rest = rest

any_front : (test : Need → Bool) (needs more : List Need) → list_any test needs ≡ true → list_any test (needs ++ more) ≡ true
any_front test [] more is = absurd (false≢true is)
any_front test (n ∷ needs) more is = step (test n) (λ rest. any_front test needs more rest) is
  where
    step : (b : Bool) → (list_any test needs ≡ true → list_any test (needs ++ more) ≡ true) → (b || list_any test needs) ≡ true → (b || list_any test (needs ++ more)) ≡ true
    step true rest is = refl
    step false rest is = rest is

any_last : (test : Need → Bool) (needs : List Need) (need : Need) → test need ≡ true → list_any test (needs ++ need ∷ []) ≡ true
any_last test [] need is = ap (λ (b : Bool). b || false) is
any_last test (n ∷ needs) need is = step (test n) (any_last test needs need is)
  where
    step : (b : Bool) → list_any test (needs ++ need ∷ []) ≡ true → (b || list_any test (needs ++ need ∷ [])) ≡ true
    step true rest = refl
    step false rest = rest

-- ---- of one call

-- those who are told are among those who wait, once as they are
pub told_once : (to : Point) (waiting : List Need) → AreOnce (labels_of waiting) → AreOnce (told (map (receipt_at to) (filter (covers to) waiting)))
told_once to waiting once label = omega (arith, once label, told_more label [] to (filter (covers to) waiting), split label (covers to) waiting)

-- those who go on waiting are
pub left_once : (to : Point) (waiting : List Need) → AreOnce (labels_of waiting) → AreOnce (labels_of (filter (λ n. not (covers to n)) waiting))
left_once to waiting once label = omega (arith, once label, split label (covers to) waiting)

-- one who did not wait is queued
pub queued_once : (waiting : List Need) (need : Need) → times need.label (labels_of waiting) ≡ 0 → AreOnce (labels_of waiting) → AreOnce (labels_of (waiting ++ need ∷ []))
queued_once waiting need new once label = step (same_label label need.label) refl
  where
    step : (b : Bool) → same_label label need.label ≡ b → times label (labels_of (waiting ++ need ∷ [])) ≤ 1
    step true is = omega (arith, queued_more label waiting need, one_small label need.label, subst (λ (l : Label). times l (labels_of waiting) ≡ 0) (sym (same_is label need.label is)) new)
    step false is =
        let none : one label need.label ≡ 0 = ap (λ (b : Bool). if b then 1 else 0) is in
        omega (arith, queued_more label waiting need, once label, none)

-- ---- the laws

pub at_first : AckedAtFirst
at_first cut = record {
  acked = record { within = tt; covered = tt; once = λ label. omega arith };
  waits = tt;
  apart = λ label. omega arith;
  once = λ label. omega arith;
}

pub when_queued : AckedWhenQueued
when_queued queued waiting receipts cut need new acking = record {
  acked = record {
    within = acking.acked.within;
    covered = all_weaker (λ (r : Receipt). list_any (answers r) queued ≡ true) (λ (r : Receipt). list_any (answers r) (queued ++ need ∷ []) ≡ true) (λ r is. any_front (answers r) queued (need ∷ []) is) receipts acking.acked.covered;
    once = acking.acked.once;
  };
  waits = all_both (IsOneOf (queued ++ need ∷ [])) waiting (need ∷ [])
      (all_weaker (IsOneOf queued) (IsOneOf (queued ++ need ∷ [])) (λ n is to covered. any_front (answers (receipt_at to n)) queued (need ∷ []) (is to covered)) waiting acking.waits)
      (λ to covered. any_last (answers (receipt_at to need)) queued need (and_from (same_label need.label need.label) (covers to need) (same_itself need.label) covered), tt);
  apart = λ label. omega (arith, acking.apart label, queued_more label queued need, queued_more label waiting need);
  once = queued_once queued need new acking.once;
}

all_within : (to : Point) (needs : List Need) → AllByRecursion (λ (r : Receipt). IsUpTo to r.cut) (map (receipt_at to) needs)
all_within to [] = tt
all_within to (n ∷ needs) = ((omega arith, omega arith), all_within to needs)

all_covered : (queued : List Need) (to : Point) (needs : List Need) → AllByRecursion (IsOneOf queued) needs → AllByRecursion (λ (r : Receipt). list_any (answers r) queued ≡ true) (map (receipt_at to) (filter (covers to) needs))
all_covered queued to [] all = tt
all_covered queued to (n ∷ needs) all = step (covers to n) refl (all_covered queued to needs all.1)
  where
    step : (b : Bool) → covers to n ≡ b → AllByRecursion (λ (r : Receipt). list_any (answers r) queued ≡ true) (map (receipt_at to) (filter (covers to) needs))
        → AllByRecursion (λ (r : Receipt). list_any (answers r) queued ≡ true) (map (receipt_at to) (cond b (n ∷ filter (covers to) needs) (filter (covers to) needs)))
    step true is rest = (all.0 to is, rest)
    step false is rest = rest

pub when_flushed : AckedWhenFlushed
when_flushed queued waiting receipts cut to up acking = record {
  acked = record {
    within = all_both (λ (r : Receipt). IsUpTo to r.cut) receipts (map (receipt_at to) (filter (covers to) waiting))
        (all_weaker (λ (r : Receipt). IsUpTo cut r.cut) (λ (r : Receipt). IsUpTo to r.cut) (λ r le. (omega (arith, up.0, le.0), omega (arith, up.1, le.1))) receipts acking.acked.within)
        (all_within to (filter (covers to) waiting));
    covered = all_both (λ (r : Receipt). list_any (answers r) queued ≡ true) receipts (map (receipt_at to) (filter (covers to) waiting)) acking.acked.covered (all_covered queued to waiting acking.waits);
    once = λ label. omega (arith, acking.apart label, acking.once label, told_more label receipts to (filter (covers to) waiting), split label (covers to) waiting);
  };
  waits = all_filtered (IsOneOf queued) (λ n. not (covers to n)) waiting acking.waits;
  apart = λ label. omega (arith, acking.apart label, told_more label receipts to (filter (covers to) waiting), split label (covers to) waiting);
  once = acking.once;
}
