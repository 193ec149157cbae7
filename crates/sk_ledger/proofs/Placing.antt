-- Commits by their numbers in an ordered map, as they are placed in a list.
use Rattle.std.specs.Prelude.{◌≡◌, ℕ, ◌+◌, ◌<◌, List, [], ◌∷◌, ◌++◌, Some, None, Bool, true, false, cond, ◌==◌, nat_lt, length, take, slice_index_or, ◌-◌}
use Rattle.std.proofs.Common.{refl, sym, ap, subst, ◌∙◌, ⊎_elim, arith}
use Rattle.std.specs.declared.cmp.Ordering.{Ordering}
use Rattle.std.specs.declared.cmp.Ordering.TheVariants.{Less, Equal, Greater}
use Rattle.std.specs.Ordering.{nat_cmp, ordering_then, match_ordering}
use Rattle.std.specs.BTreeMap.{insert_entry}
use Rattle.std.proofs.lemmas.Bool.{cases_Bool, cond_both, cond-true, cond-false, le-ltb, ne_eqb}
use Rattle.std.proofs.lemmas.List.{take_more}
use Rattle.std.proofs.Math.Seq.{take-length}
use Rattle.sk_model.specs.declared.label.Label.{Label}
use Rattle.sk_model.specs.declared.engine.EngineName.{EngineName}
use Rattle.sk_model.specs.declared.engine.EngineName.TheVariants.{Mem, Store}
use Rattle.sk_model.specs.declared.commit.Write.{Write}
use Rattle.sk_model.specs.declared.commit.Commit.{Commit}
use Rattle.sk_model.specs.declared.record.Record.{Record}
use Rattle.sk_model.specs.declared.call.Entry.{Entry}
use Rattle.sk_model.specs.Database.{net}
use Rattle.sk_model.specs.Numbers.{there}
use Rattle.sk_model.specs.Records.{is_committed}
use Rattle.sk_model.specs.Stamped.{number_in}
use Rattle.sk_model.proofs.Lists.{each_weaker}
use Rattle.sk_linked.specs.Traces.{placed, added}
use Rattle.sk_linked.proofs.Members.{some_clash}
use Rattle.sk_ledger.specs.Ledger.{drawn_in, number_of, entered, committed_in}
use Rattle.sk_ledger.specs.Puts.{HasPuts}
use Rattle.sk_ledger.specs.Numbered.{Key, commit_from, commits_onto, commits_from, listed, AreNumbered}

abbrev pub key_cmp : Key → Key → Ordering
key_cmp a b = ordering_then (nat_cmp a.0 b.0) (nat_cmp a.1 b.1)

-- what comes later stands behind all with its number
goes : (n t m s : ℕ) → s < t → key_cmp (n, t) (m, s) ≡ cond (nat_lt n m) Less Greater
goes n t m s past = ⊎_elim
    (λ (e : nat_lt n m ≡ true). ap (λ o. ordering_then o (nat_cmp t s)) (cond-true (nat_lt n m) Less (cond (n == m) Equal Greater) e) ∙ sym (cond-true (nat_lt n m) Less Greater e))
    (λ (e : nat_lt n m ≡ false).
    ap (λ o. ordering_then o (nat_cmp t s)) (cond-false (nat_lt n m) Less (cond (n == m) Equal Greater) e) ∙ go (n == m) ∙ sym (cond-false (nat_lt n m) Less Greater e))
    (cases_Bool (nat_lt n m))
  where
    later : nat_cmp t s ≡ Greater
    later = cond-false (nat_lt t s) Less (cond (t == s) Equal Greater) (le-ltb t s (omega (arith, past))) ∙ cond-false (t == s) Equal Greater (ne_eqb t s (λ (z : t ≡ s). omega (arith, z, past)))

    go : (b : Bool) → ordering_then (cond b Equal Greater) (nat_cmp t s) ≡ Greater
    go true = later
    go false = refl

by_order : {X : Type 0} (b : Bool) (x y z : X) → match_ordering (cond b Less Greater) x y z ≡ cond b x z
by_order true x y z = refl
by_order false x y z = refl

module _ (name : EngineName) (n t : ℕ) (c : Commit) where
  step : (e : Key × Commit) (es : List (Key × Commit)) → e.0.1 < t → insert_entry key_cmp (e ∷ es) (n, t) c ≡ cond (nat_lt n e.0.0) (((n, t), c) ∷ e ∷ es) (e ∷ insert_entry key_cmp es (n, t) c)
  step e es past =
      ap (λ o. match_ordering o (((n, t), c) ∷ e ∷ es) ((e.0, c) ∷ es) (e ∷ insert_entry key_cmp es (n, t) c)) (goes n t e.0.0 e.0.1 past)
      ∙ by_order (nat_lt n e.0.0) (((n, t), c) ∷ e ∷ es) ((e.0, c) ∷ es) (e ∷ insert_entry key_cmp es (n, t) c)

  either : (e : Key × Commit) (es : List (Key × Commit)) (b : Bool) → listed (insert_entry key_cmp es (n, t) c) ≡ placed name n c (listed es)
      → listed (cond b (((n, t), c) ∷ e ∷ es) (e ∷ insert_entry key_cmp es (n, t) c)) ≡ cond b (c ∷ e.1 ∷ listed es) (e.1 ∷ placed name n c (listed es))
  either e es true ih = refl
  either e es false ih = ap (λ cs. e.1 ∷ cs) ih

  -- it is placed as in a list
  pub placed_is : (es : List (Key × Commit)) → AreNumbered name t es → listed (insert_entry key_cmp es (n, t) c) ≡ placed name n c (listed es)
  placed_is [] h = refl
  placed_is (e ∷ es) h =
      ap listed (step e es h.0.1) ∙ either e es (nat_lt n e.0.0) (placed_is es h.1)
      ∙ ap (λ b. cond b (c ∷ e.1 ∷ listed es) (e.1 ∷ placed name n c (listed es))) (ap (there (nat_lt n)) (sym h.0.0))

  abbrev Fits : Key × Commit → Type 0
  Fits e = (number_in name e.1 ≡ Some e.0.0) × (e.0.1 < t + 1)

  later_all : (es : List (Key × Commit)) → AreNumbered name t es → AreNumbered name (t + 1) es
  later_all es h = each_weaker (λ (e : Key × Commit). (number_in name e.1 ≡ Some e.0.0) × (e.0.1 < t)) Fits (λ e k. (k.0, omega (arith, k.1))) es h

  pub numbered_more : number_in name c ≡ Some n → (es : List (Key × Commit)) → AreNumbered name t es → AreNumbered name (t + 1) (insert_entry key_cmp es (n, t) c)
  numbered_more is [] h = ((is, omega arith), tt)
  numbered_more is (e ∷ es) h = subst (λ xs. AreNumbered name (t + 1) xs) (sym (step e es h.0.1))
      (cond_both (nat_lt n e.0.0) (((n, t), c) ∷ e ∷ es) (e ∷ insert_entry key_cmp es (n, t) c) (λ xs. AreNumbered name (t + 1) xs)
      (λ b. ((is, omega arith), later_all (e ∷ es) h))
      (λ b. ((h.0.0, omega (arith, h.0.1)), numbered_more is es h.1)))

pub numbered_later : (name : EngineName) (t : ℕ) (es : List (Key × Commit)) → AreNumbered name t es → AreNumbered name (t + 1) es
numbered_later name t es h = each_weaker (λ (e : Key × Commit). (number_in name e.1 ≡ Some e.0.0) × (e.0.1 < t)) (λ (e : Key × Commit). (number_in name e.1 ≡ Some e.0.0) × (e.0.1 < t + 1)) (λ e k. (k.0, omega (arith, k.1))) es h

-- the number at which a commit is placed is its own
number_is : (name : EngineName) (puts : List (Label × List Write)) (r : Record) → number_in name (commit_from puts r) ≡ drawn_in name r
number_is Mem puts r = refl
number_is Store puts r = refl

pub own_number : (name : EngineName) (puts : List (Label × List Write)) (r : Record) (n : ℕ) → number_of name r ≡ Some n → number_in name (commit_from puts r) ≡ Some n
own_number name puts r n e = number_is name puts r ∙ ⊎_elim
    (λ (y : is_committed r.ending ≡ true). sym (cond-true (is_committed r.ending) (drawn_in name r) None y) ∙ e)
    (λ (f : is_committed r.ending ≡ false). some_clash (sym e ∙ cond-false (is_committed r.ending) (drawn_in name r) None f))
    (cases_Bool (is_committed r.ending))

-- ---- all records, from the last one on

onto_more : (puts : List (Label × List Write)) (name : EngineName) (rs : List Record) (r : Record) (cs : List Commit)
    → commits_onto puts name (rs ++ r ∷ []) cs ≡ commits_onto puts name rs (added name (number_of name r) (commit_from puts r) cs)
onto_more puts name [] r cs = refl
onto_more puts name (x ∷ xs) r cs = ap (added name (number_of name x) (commit_from puts x)) (onto_more puts name xs r cs)

split_last : (rs : List Record) (r : Record) → 0 < length rs → r ≡ slice_index_or rs (length rs - 1) r → take (length rs - 1) rs ++ r ∷ [] ≡ rs
split_last rs r some is =
    let last : length rs - 1 < length rs = omega arith in
    let whole : length rs - 1 + 1 ≡ length rs = omega arith in
    ap (λ (x : Record). take (length rs - 1) rs ++ x ∷ []) is ∙ sym (take_more rs (length rs - 1) r last) ∙ ap (λ (n : ℕ). take n rs) whole ∙ take-length rs

pub onto_last : (puts : List (Label × List Write)) (name : EngineName) (rs : List Record) (r : Record) (cs ds : List Commit) → 0 < length rs → r ≡ slice_index_or rs (length rs - 1) r
    → ds ≡ added name (number_of name r) (commit_from puts r) cs → commits_onto puts name (take (length rs - 1) rs) ds ≡ commits_onto puts name rs cs
onto_last puts name rs r cs ds some is adds =
    ap (λ (es : List Commit). commits_onto puts name (take (length rs - 1) rs) es) adds
    ∙ sym (onto_more puts name (take (length rs - 1) rs) r cs)
    ∙ ap (λ (xs : List Record). commits_onto puts name xs cs) (split_last rs r some is)

-- with the puts of a journal they are what it says
pub from_journal : (name : EngineName) (puts : List (Label × List Write)) (js : List Entry) → HasPuts puts js → (rs : List Record) → commits_from puts name rs ≡ committed_in name js rs
from_journal name puts js h [] = refl
from_journal name puts js h (r ∷ rs) =
    ap (λ (ws : List Write). added name (number_of name r) (record { label = r.label; mem = r.drew_mem; store = r.drew_store; writes = net ws }) (commits_from puts name rs)) (h r.label)
    ∙ ap (added name (number_of name r) (entered js r)) (from_journal name puts js h rs)
