-- Each rule of the grammar goes on behind the words before one that is refused.
use Rattle.std.proofs.Common.{◌≡◌, ◌≤◌, ℕ, zero, suc, ◌+◌, Bool, true, false, cond, List, [], ◌∷◌, ◌++◌, length, length-append, refl, sym, ap, subst, ◌∙◌, arith, codes, Option, Some, None, ◌⊎◌, inl, inr}
use Rattle.std.specs.Prelude.{Ok, Err, nat_le, pos, negsuc}
use Rattle.std.proofs.lemmas.Bool.{leb-true, leb-false}
use Rattle.sk_lex.specs.declared.token.Keyword.TheVariants as key
use Rattle.sk_lex.specs.declared.token.Word.{Word}
use Rattle.sk_lex.specs.declared.token.Word.TheVariants as word
use Rattle.sk_rows.specs.Names.{are_name_bytes, begins_with_digit, has_name_length, is_keyword, is_name}
use Rattle.sk_rows.specs.declared.value.Value.TheVariants as value
use Rattle.sk_rows.specs.declared.expr.Op.{Op}
use Rattle.sk_rows.specs.declared.expr.Expr.{Expr}
use Rattle.sk_rows.specs.declared.expr.Expr.TheVariants as e
use Rattle.sk_lex.specs.Marks as mark
use Rattle.sk_parse.specs.declared.cursor.Sign.{Sign}
use Rattle.sk_parse.specs.declared.cursor.Sign.TheVariants as sign
use Rattle.sk_parse.specs.declared.terms.Level.TheVariants as level
use Rattle.sk_parse.specs.Input.{Input, Outcome, Parser, and_then, pure, refuse, ◌<$>◌, ◌>>=◌, ◌>>◌, after, eat, expect, first, is_at, listed, listed_from, next, same_key, sees, take_by, take_some, taken}
use Rattle.sk_parse.specs.Terms.{name_of, value_of, negative_of, name, literal, plain, negative, grouping, comparison}
use Rattle.sk_parse.specs.Grammar.{found_by, more_on, more, compare_on, compared_to, chained, is_column, in_parens, atom_over, sum_over, comp_over, expr_over, neg, expr}
use Rattle.sk_parse.proofs.Complete.{Ends, EndsAnd, EndsComp, EndsProd, EndsSum, None_at, fuel, more_none}
use Rattle.sk_parse.proofs.Local.{list_fuel, local_bind, local_cond, local_compared, local_first, local_more, local_next, local_pure, local_refuse, local_rest, local_taken, local_turns}
use Rattle.sk_parse.proofs.GoesOn.{Completion, Fills, IsLocal, Kind, KindTail, Tail, Weak, fills_bind, fills_then, rest_of, rest_pure, tail_first, tail_pure, weak_bind, weak_first, weak_then}
use Rattle.sk_parse.proofs.Sound.{Gave, same}

abbrev pub Anything : Input → Type 0
Anything z = Unit {0}

pub ext : {A : Type 0} (p q : Parser A) → ((i : Input) → p i ≡ q i) → p ≡ q
ext p q is = λ k i. is i k

pub is_pure_local : {A : Type 0} (a : A) → IsLocal (pure a)
is_pure_local a w vs zs = local_pure w vs zs a

pub tail_end : {A : Type 0} (a : A) (Follow : Input → Type 0) → Tail (pure a) Follow
tail_end a Follow = tail_pure a Follow (is_pure_local a)

pub bind_local : {A B : Type 0} (p : Parser A) (f : A → Parser B) → IsLocal p → ((a : A) → IsLocal (f a)) → IsLocal (p >>= f)
bind_local p f here each w vs zs = local_bind w vs zs p f (here w vs zs) (λ a. each a w vs zs)

-- one rule behind another, that takes a word
pub both : {A B : Type 0} (p : Parser A) (f : A → Parser B) (Follow Last : Input → Type 0) → Weak p Follow → ((a : A) → Weak (f a) Last) → (y : Word) (gill : List Word) → ((a : A) → Fills (f a) Last y gill)
    → ((z : Input) → Follow (y ∷ z)) → Weak (p >>= f) Last
both p f Follow Last weak each y gill fills before = weak_bind p f Follow Last weak (bind_local p f weak.local (λ a. (each a).local)) each y gill fills before

pub fill_both : {A B : Type 0} (p : Parser A) (f : A → Parser B) (Follow Last : Input → Type 0) → Weak p Follow → ((a : A) → Weak (f a) Last) → (y : Word) (gill : List Word) → ((a : A) → Fills (f a) Last y gill)
    → ((z : Input) → Follow (y ∷ z)) → (x : Word) (fill : List Word) → Fills p Follow x fill → Fills (p >>= f) Last x (fill ++ y ∷ gill)
fill_both p f Follow Last weak each y gill fills before x fill is = fills_bind p f Follow Last weak (bind_local p f weak.local (λ a. (each a).local)) each y gill fills before x fill is

-- one rule behind another, that may take nothing
pub tailed : {A B : Type 0} (p : Parser A) (f : A → Parser B) (Follow Last : Input → Type 0) → Weak p Follow → ((a : A) → Tail (f a) Last) → ((z : Input) → Last z → Follow z) → Weak (p >>= f) Last
tailed p f Follow Last weak each weaker = weak_then p f Follow Last weak (bind_local p f weak.local (λ a. (each a).local)) each weaker

pub fill_tailed : {A B : Type 0} (p : Parser A) (f : A → Parser B) (Follow Last : Input → Type 0) → Weak p Follow → ((a : A) → Tail (f a) Last) → ((z : Input) → Last z → Follow z)
    → (x : Word) (fill : List Word) → Fills p Follow x fill → Fills (p >>= f) Last x fill
fill_tailed p f Follow Last weak each weaker x fill is = fills_then p f Follow Last weak (bind_local p f weak.local (λ a. (each a).local)) each weaker x fill is

pub mapped : {A B : Type 0} (f : A → B) (p : Parser A) (Follow : Input → Type 0) → Weak p Follow → Weak (f <$> p) Follow
mapped f p Follow weak = tailed p (λ x. pure (f x)) Follow Follow weak (λ x. tail_end (f x) Follow) (λ z stop. stop)

pub fill_mapped : {A B : Type 0} (f : A → B) (p : Parser A) (Follow : Input → Type 0) → Weak p Follow → (x : Word) (fill : List Word) → Fills p Follow x fill → Fills (f <$> p) Follow x fill
fill_mapped f p Follow weak x fill is = fill_tailed p (λ x. pure (f x)) Follow Follow weak (λ x. tail_end (f x) Follow) (λ z stop. stop) x fill is

-- ---- by a sign

abbrev pub front_is : Sign → Option Word → Bool
front_is s None = false
front_is s (Some x) = is_at s x

pub front_sees : (s : Sign) (i : Input) → front_is s (first i) ≡ sees s i
unfolding sees
front_sees s [] = refl
front_sees s (x ∷ i) = refl

abbrev pub chosen : {A : Type 0} → Sign → Parser A → Parser A → Option Word → Parser A
chosen s p q o = λ i. cond (front_is s o) (p i) (q i)

pub is_chosen : {A : Type 0} (s : Sign) (p q : Parser A) → ◌≡◌ {A = Parser A} (λ i. chosen s p q (first i) i) (λ i. cond (sees s i) (p i) (q i))
is_chosen s p q = ext (λ i. chosen s p q (first i) i) (λ i. cond (sees s i) (p i) (q i)) (λ i. ap (λ b. cond b (p i) (q i)) (front_sees s i))

-- behind a sign that was looked for
pub is_eaten : {A : Type 0} (s : Sign) (p q : Parser A) → ◌≡◌ {A = Parser A} (λ i. cond (sees s i) (p (next i)) (q i)) (eat s >>= (λ b. cond b p q))
unfolding after
is_eaten s p q = ext (λ i. cond (sees s i) (p (next i)) (q i)) (eat s >>= (λ b. cond b p q)) (λ i. by (sees s i) i)
  where
    by : (t : Bool) (i : Input) → cond t (p (next i)) (q i) ≡ cond t p q (cond t (next i) i)
    by true i = refl
    by false i = refl

pub kind_cond : {A : Type 0} (t : Bool) (p q : Parser A) (Follow : Input → Type 0) (c : Word) → (t ≡ true → Kind (λ _. p) Follow c) → (t ≡ false → Kind (λ _. q) Follow c) → Kind (λ _ i. cond t (p i) (q i)) Follow c
kind_cond true p q Follow c yes_kind no_kind = yes_kind refl
kind_cond false p q Follow c yes_kind no_kind = no_kind refl

pub kind_tail_cond : {A : Type 0} (t : Bool) (p q : Parser A) (Follow : Input → Type 0) (a : A) (c : Word) → KindTail (λ _. p) Follow a c → KindTail (λ _. q) Follow a c → KindTail (λ _ i. cond t (p i) (q i)) Follow a c
kind_tail_cond true p q Follow a c yes_kind no_kind = yes_kind
kind_tail_cond false p q Follow a c yes_kind no_kind = no_kind

pub chosen_local : {A : Type 0} (s : Sign) (p q : Parser A) → IsLocal p → IsLocal q → IsLocal (λ i. chosen s p q (first i) i)
chosen_local s p q here there w vs zs = local_first w vs zs (chosen s p q) (λ o. local_cond w vs zs (front_is s o) p q (here w vs zs) (there w vs zs))

pub next_local : {A : Type 0} (p : Parser A) → IsLocal p → IsLocal (λ i. p (next i))
next_local p here w vs zs = local_next w vs zs p (here w vs zs)

refuse_local : {A : Type 0} → IsLocal {A = A} refuse
refuse_local w vs zs = local_refuse w vs zs

-- a rule by whether a sign stands at the front
pub weak_if : {A : Type 0} (s : Sign) (p q : Parser A) (Follow : Input → Type 0) → IsLocal p → IsLocal q → q [] ≡ Err 0 → ((c : Word) → is_at s c ≡ true → Kind (λ _. p) Follow c) → ((c : Word) → is_at s c ≡ false → Kind (λ _. q) Follow c)
    → Weak (λ i. cond (sees s i) (p i) (q i)) Follow
weak_if s p q Follow here there nothing yes_kind no_kind =
    subst (λ r. Weak r Follow) (is_chosen s p q)
    (weak_first (chosen s p q) Follow nothing (λ c. kind_cond (is_at s c) p q Follow c (yes_kind c) (no_kind c)) (chosen_local s p q here there))

pub weak_expect : (s : Sign) (Follow : Input → Type 0) → Weak (expect s) Follow
unfolding expect
weak_expect s Follow =
    weak_if s (λ i. pure tt (next i)) refuse Follow (next_local (pure tt) (is_pure_local tt)) refuse_local refl
    (λ c at. inr (inl (pure tt, rest_pure tt Follow, λ j. refl))) (λ c at. inl (λ j. refl))

pub fill_expect : (s : Sign) (Follow : Input → Type 0) (x : Word) → is_at s x ≡ true → Fills (expect s) Follow x []
unfolding expect sees
fill_expect s Follow x at = (tt, λ z stop. ap (λ t. cond t (Ok (tt, z)) (refuse (x ∷ z))) at)

-- ---- words

kind_some : {A : Type 0} (found : Option A) (Follow : Input → Type 0) (c : Word) → Kind (λ _. take_some found) Follow c
kind_some None Follow c = inl (λ j. refl)
kind_some (Some a) Follow c = inr (inl (pure a, rest_pure a Follow, λ j. refl))

pub weak_taken : {A : Type 0} (f : Word → Option A) (Follow : Input → Type 0) → Weak (taken f) Follow
weak_taken f Follow = weak_first (take_by f) Follow refl (λ c. kind_some (f c) Follow c) (λ w vs zs. local_taken w vs zs f)

pub fill_taken : {A : Type 0} (f : Word → Option A) (Follow : Input → Type 0) (x : Word) (a : A) → f x ≡ Some a → Fills (taken f) Follow x []
fill_taken f Follow x a is = (a, λ z stop. ap (λ o. take_some o (x ∷ z)) is)

pub weak_name : (Follow : Input → Type 0) → Weak name Follow
unfolding name
weak_name Follow = weak_taken name_of Follow

abbrev pub some_name : Word
some_name = word.Name (codes "a")

abbrev pub one : Word
one = word.Number 1

pub fill_name : (Follow : Input → Type 0) → Fills name Follow some_name []
unfolding name is_name has_name_length begins_with_digit are_name_bytes is_keyword
fill_name Follow = fill_taken name_of Follow some_name (codes "a") refl

pub weak_literal : (Follow : Input → Type 0) → Weak literal Follow
unfolding literal plain negative
weak_literal Follow =
    subst (λ r. Weak r Follow) (is_eaten (sign.Mark mark.minus mark.none) (taken negative_of) (taken value_of))
    (weak_if (sign.Mark mark.minus mark.none) (λ i. taken negative_of (next i)) (taken value_of) Follow (next_local (taken negative_of) (weak_taken negative_of Follow).local) (weak_taken value_of Follow).local refl
    (λ c at. inr (inl (taken negative_of, rest_of (taken negative_of) Follow one [] (weak_taken negative_of Follow) (fill_taken negative_of Follow one (value.Int (negsuc 0)) refl), λ j. refl)))
    (λ c at. inr (inr (taken value_of, weak_taken value_of Follow, λ j. refl))))

pub fill_literal : (Follow : Input → Type 0) → Fills literal Follow one []
unfolding literal plain negative after sees
fill_literal Follow = (value.Int (pos 1), λ z stop. refl)

-- ---- turns

pub weak_nothing : {A : Type 0} (p : Parser A) (Follow : Input → Type 0) → Weak p Follow → p [] ≡ Err 0
weak_nothing {A} p Follow weak = by (p []) refl
  where
    at_once : (n : ℕ) → (n ≡ 0) ⊎ Completion p Follow [] n → n ≡ 0
    at_once n (inl is) = is
    at_once n (inr c) = absurd (cc c.5)

    by : (o : Outcome A) → p [] ≡ o → o ≡ Err 0
    by (Ok q) is = absurd (cc (weak.takes [] q.1 q.0 is).2)
    by (Err n) is = ap Err (at_once n (weak.completes [] n is))

weak_shrinks : {A : Type 0} (p : Parser A) (Follow : Input → Type 0) → Weak p Follow → (i r : Input) (a : A) → Gave (p i) a r → length r ≤ length i
weak_shrinks p Follow weak i r a is = let t = weak.takes i r a is in let l = ap length t.2 in let k = length-append (t.0 ∷ t.1) r in omega arith

-- more turns change nothing where no operator is left
grows : (ops : Word → Option Op) (operand : Parser Expr) (n m : ℕ) (left : Expr) (i : Input) (y : Expr) (r : Input) → n ≤ m → Gave (more ops operand n left i) y r → None_at ops r → Gave (more ops operand m left i) y r
unfolding more
grows ops operand zero m left i y r le is none =
    let s = same left y i r is in
    subst (λ k. Gave (more ops operand m left k) y r) (sym s.1) (subst (λ x. Gave (more ops operand m left r) x r) s.0 (more_none ops operand m left r none))
grows ops operand (suc n) zero left i y r le is none = absurd (omega arith)
grows ops operand (suc n) (suc m) left i y r le is none = by (found_by ops (first i)) is (λ x j given. grows ops operand n m x j y r (omega arith) given none)
  where
    on : (o : Op) (out : Outcome Expr) → Gave (and_then out (λ right. more ops operand n (e.Two o left right))) y r
        → ((x : Expr) (j : Input) → Gave (more ops operand n x j) y r → Gave (more ops operand m x j) y r) → Gave (and_then out (λ right. more ops operand m (e.Two o left right))) y r
    on o (Err k) given ih = absurd cc
    on o (Ok q) given ih = ih (e.Two o left q.0) q.1 given

    by : (found : Option Op) → Gave (more_on operand (more ops operand n) left found i) y r → ((x : Expr) (j : Input) → Gave (more ops operand n x j) y r → Gave (more ops operand m x j) y r)
        → Gave (more_on operand (more ops operand m) left found i) y r
    by None given ih = given
    by (Some o) given ih = on o (operand (next i)) given ih

module _ (ops : Word → Option Op) (operand : Parser Expr) (Follow : Input → Type 0) (weak : Weak operand Follow) (x : Word) (fill : List Word) (fills : Fills operand Follow x fill) where
  abbrev Last : Input → Type 0
  Last z = Follow z × None_at ops z

  kind_on : (n : ℕ) (left : Expr) → ((y : Expr) → Tail (more ops operand n y) Last) → (c : Word) (found : Option Op) → KindTail (λ _. more_on operand (more ops operand n) left found) Last left c
  kind_on n left each c None = inl (λ j. refl)
  kind_on n left each c (Some o) =
      let f = λ (right : Expr). more ops operand n (e.Two o left right) in
      inr (operand >>= f, rest_of (operand >>= f) Last x fill (tailed operand f Follow Last weak (λ right. each (e.Two o left right)) (λ z stop. stop.0)) (fill_tailed operand f Follow Last weak (λ right. each (e.Two o left right)) (λ z stop. stop.0) x fill fills), λ j. refl)

  tail_more : (n : ℕ) (left : Expr) → Tail (more ops operand n left) Last
  unfolding more
  tail_more zero left = tail_end left Last
  tail_more (suc n) left =
      tail_first (λ o. more_on operand (more ops operand n) left (found_by ops o)) Last left refl (λ c. kind_on n left (tail_more n) c (ops c)) (λ z stop. ap (λ f. more_on operand (more ops operand n) left f z) stop.1)
      (λ w vs zs. local_more w vs zs ops operand (weak.local w vs zs) (suc n) left)

  enough : (n : ℕ) (left : Expr) (i : Input) (y : Expr) (r : Input) → Gave (more ops operand n left i) y r → None_at ops r → Gave (more ops operand (length i) left i) y r
  enough n left i y r is none = by (nat_le n (length i)) refl
    where
      by : (t : Bool) → nat_le n (length i) ≡ t → Gave (more ops operand (length i) left i) y r
      by true at = grows ops operand n (length i) left i y r (leb-true n (length i) at) is none
      by false at =
          let less = leb-false n (length i) at in
          sym (fuel ops operand (weak_shrinks operand Follow weak) n (length i) left i (omega arith) (omega arith)) ∙ is

  tail_turns : (left : Expr) → Tail (λ i. more ops operand (length i) left i) Last
  tail_turns left = record {
    local = λ w vs zs. local_turns w vs zs ops operand (weak.local w vs zs) left;
    leaves = λ i r a is. (tail_more (length i) left).leaves i r a is;
    stops = (left, λ z stop. more_none ops operand (length z) left z stop.1);
    stable = λ us r a is z stop.
        let n = length (us ++ r) + length (us ++ z) in
        let before = fuel ops operand (weak_shrinks operand Follow weak) n (length (us ++ r)) left (us ++ r) (omega arith) (omega arith) in
        let behind = fuel ops operand (weak_shrinks operand Follow weak) n (length (us ++ z)) left (us ++ z) (omega arith) (omega arith) in
        sym behind ∙ (tail_more n left).stable us r a (before ∙ is) z stop;
    completes = λ i n is.
        let c = (tail_more (length i) left).completes i n is in
        (c.0, c.1, c.2, c.3, c.4, c.5, c.6, λ z stop. enough (length i) left (c.0 ∷ c.1 ++ (c.3 ++ z)) c.4 z (c.7 z stop) stop.1);
  }

  pub weak_chained : Weak (chained ops operand) Last
  unfolding chained
  weak_chained = tailed operand (λ left i. more ops operand (length i) left i) Follow Last weak tail_turns (λ z stop. stop.0)

  pub fill_chained : Fills (chained ops operand) Last x fill
  unfolding chained
  fill_chained = fill_tailed operand (λ left i. more ops operand (length i) left i) Follow Last weak tail_turns (λ z stop. stop.0) x fill fills

-- ---- lists

abbrev pub NoComma : Input → Type 0
NoComma z = sees (sign.Mark mark.comma mark.none) z ≡ false

no_more : {A : Type 0} (item : Parser A) (n : ℕ) (found : List A) (r : Input) → NoComma r → Gave (listed_from item n found r) found r
unfolding listed_from after
no_more item zero found r none = refl
no_more item (suc n) found r none = ap (λ t. cond t (item >>= (λ x. listed_from item n (found ++ x ∷ []))) (pure found) (cond t (next r) r)) none

list_grows : {A : Type 0} (item : Parser A) (n m : ℕ) (found : List A) (i : Input) (ys : List A) (r : Input) → n ≤ m → Gave (listed_from item n found i) ys r → NoComma r → Gave (listed_from item m found i) ys r
unfolding listed_from after
list_grows item zero m found i ys r le is none =
    let s = same found ys i r is in
    subst (λ k. Gave (listed_from item m found k) ys r) (sym s.1) (subst (λ l. Gave (listed_from item m found r) l r) s.0 (no_more item m found r none))
list_grows item (suc n) zero found i ys r le is none = absurd (omega arith)
list_grows {A} item (suc n) (suc m) found i ys r le is none = by (sees (sign.Mark mark.comma mark.none) i) is (λ l j given. list_grows item n m l j ys r (omega arith) given none)
  where
    on : (out : Outcome A) → Gave (and_then out (λ y. listed_from item n (found ++ y ∷ []))) ys r
        → ((l : List A) (j : Input) → Gave (listed_from item n l j) ys r → Gave (listed_from item m l j) ys r) → Gave (and_then out (λ y. listed_from item m (found ++ y ∷ []))) ys r
    on (Err k) given ih = absurd cc
    on (Ok q) given ih = ih (found ++ q.0 ∷ []) q.1 given

    by : (t : Bool) → Gave (cond t (item >>= (λ y. listed_from item n (found ++ y ∷ []))) (pure found) (cond t (next i) i)) ys r
        → ((l : List A) (j : Input) → Gave (listed_from item n l j) ys r → Gave (listed_from item m l j) ys r)
        → Gave (cond t (item >>= (λ y. listed_from item m (found ++ y ∷ []))) (pure found) (cond t (next i) i)) ys r
    by true given ih = on (item (next i)) given ih
    by false given ih = given

module _ {A : Type 0} (item : Parser A) (Follow : Input → Type 0) (weak : Weak item Follow) (x : Word) (fill : List Word) (fills : Fills item Follow x fill) where
  abbrev Behind : Input → Type 0
  Behind z = Follow z × NoComma z

  tail_listed : (n : ℕ) (found : List A) → Tail (listed_from item n found) Behind
  unfolding listed_from
  tail_listed zero found = tail_end found Behind
  tail_listed (suc n) found = by (tail_listed n)
    where
      f : A → Parser (List A)
      f y = listed_from item n (found ++ y ∷ [])

      by : ((l : List A) → Tail (listed_from item n l) Behind) → Tail (eat (sign.Mark mark.comma mark.none) >>= (λ b. cond b (item >>= f) (pure found))) Behind
      by each =
          let p = item >>= f in
          let here = tailed item f Follow Behind weak (λ y. each (found ++ y ∷ [])) (λ z stop. stop.0) in
          let filled = fill_tailed item f Follow Behind weak (λ y. each (found ++ y ∷ [])) (λ z stop. stop.0) x fill fills in
          subst (λ r. Tail r Behind) (is_eaten (sign.Mark mark.comma mark.none) p (pure found))
          (subst (λ r. Tail r Behind) (is_chosen (sign.Mark mark.comma mark.none) (λ i. p (next i)) (pure found))
          (tail_first (chosen (sign.Mark mark.comma mark.none) (λ i. p (next i)) (pure found)) Behind found refl
          (λ c. kind_tail_cond (is_at (sign.Mark mark.comma mark.none) c) (λ i. p (next i)) (pure found) Behind found c (inr (p, rest_of p Behind x fill here filled, λ j. refl)) (inl (λ j. refl)))
          (λ z stop. ap (λ b. cond b (p (next z)) (pure found z)) (front_sees (sign.Mark mark.comma mark.none) z ∙ stop.1))
          (chosen_local (sign.Mark mark.comma mark.none) (λ i. p (next i)) (pure found) (next_local p here.local) (is_pure_local found))))

  fuel_of : (n m : ℕ) (found : List A) (i : Input) → length i ≤ n → length i ≤ m → listed_from item n found i ≡ listed_from item m found i
  fuel_of = list_fuel (word.Mark 0 0) [] [] item (weak_shrinks item Follow weak)

  list_enough : (n : ℕ) (found : List A) (i : Input) (ys : List A) (r : Input) → Gave (listed_from item n found i) ys r → NoComma r → Gave (listed_from item (length i) found i) ys r
  list_enough n found i ys r is none = by (nat_le n (length i)) refl
    where
      by : (t : Bool) → nat_le n (length i) ≡ t → Gave (listed_from item (length i) found i) ys r
      by true at = list_grows item n (length i) found i ys r (leb-true n (length i) at) is none
      by false at =
          let less = leb-false n (length i) at in
          sym (fuel_of n (length i) found i (omega arith) (omega arith)) ∙ is

  tail_rest : (y : A) → Tail (λ i. listed_from item (length i) (y ∷ []) i) Behind
  tail_rest y = record {
    local = λ w vs zs. local_rest w vs zs item (weak.local w vs zs) y;
    leaves = λ i r a is. (tail_listed (length i) (y ∷ [])).leaves i r a is;
    stops = (y ∷ [], λ z stop. no_more item (length z) (y ∷ []) z stop.1);
    stable = λ us r a is z stop.
        let n = length (us ++ r) + length (us ++ z) in
        let before = fuel_of n (length (us ++ r)) (y ∷ []) (us ++ r) (omega arith) (omega arith) in
        let behind = fuel_of n (length (us ++ z)) (y ∷ []) (us ++ z) (omega arith) (omega arith) in
        sym behind ∙ (tail_listed n (y ∷ [])).stable us r a (before ∙ is) z stop;
    completes = λ i n is.
        let c = (tail_listed (length i) (y ∷ [])).completes i n is in
        (c.0, c.1, c.2, c.3, c.4, c.5, c.6, λ z stop. list_enough (length i) (y ∷ []) (c.0 ∷ c.1 ++ (c.3 ++ z)) c.4 z (c.7 z stop) stop.1);
  }

  pub weak_listed : Weak (listed item) Behind
  unfolding listed
  weak_listed = tailed item (λ y i. listed_from item (length i) (y ∷ []) i) Follow Behind weak tail_rest (λ z stop. stop.0)

  pub fill_listed : Fills (listed item) Behind x fill
  unfolding listed
  fill_listed = fill_tailed item (λ y i. listed_from item (length i) (y ∷ []) i) Follow Behind weak tail_rest (λ z stop. stop.0) x fill fills

-- ---- expressions

abbrev opened : Word
opened = word.Mark mark.open_paren mark.none

abbrev closed : Word
closed = word.Mark mark.close_paren mark.none

-- ")" behind what stands in parentheses
weak_close : (inner : Expr) → Weak (expect (sign.Mark mark.close_paren mark.none) >> pure inner) Anything
weak_close inner = tailed (expect (sign.Mark mark.close_paren mark.none)) (λ _. pure inner) Anything Anything (weak_expect (sign.Mark mark.close_paren mark.none) Anything) (λ _. tail_end inner Anything) (λ z stop. stop)

fill_close : (inner : Expr) → Fills (expect (sign.Mark mark.close_paren mark.none) >> pure inner) Anything closed []
fill_close inner =
    fill_tailed (expect (sign.Mark mark.close_paren mark.none)) (λ _. pure inner) Anything Anything (weak_expect (sign.Mark mark.close_paren mark.none) Anything) (λ _. tail_end inner Anything) (λ z stop. stop) closed []
    (fill_expect (sign.Mark mark.close_paren mark.none) Anything closed refl)

module _ (p : Parser Expr) (Follow : Input → Type 0) (weak : Weak p Follow) (fills : Fills p Follow one []) (before : (z : Input) → Follow (closed ∷ z)) where
  weak_inner : Weak (p >>= (λ inner. expect (sign.Mark mark.close_paren mark.none) >> pure inner)) Anything
  weak_inner = both p (λ inner. expect (sign.Mark mark.close_paren mark.none) >> pure inner) Follow Anything weak weak_close closed [] fill_close before

  fill_inner : Fills (p >>= (λ inner. expect (sign.Mark mark.close_paren mark.none) >> pure inner)) Anything one (closed ∷ [])
  fill_inner = fill_both p (λ inner. expect (sign.Mark mark.close_paren mark.none) >> pure inner) Follow Anything weak weak_close closed [] fill_close before one [] fills

  pub weak_in_parens : Weak (in_parens p) Anything
  unfolding in_parens
  weak_in_parens = both (expect (sign.Mark mark.open_paren mark.none)) (λ _. p >>= (λ inner. expect (sign.Mark mark.close_paren mark.none) >> pure inner)) Anything Anything (weak_expect (sign.Mark mark.open_paren mark.none) Anything) (λ _. weak_inner) one (closed ∷ []) (λ _. fill_inner) (λ z. tt)

-- how a rule goes on at an open parenthesis
abbrev AtOpen : Parser Expr → Type 0
AtOpen p = (c : Word) → is_at (sign.Mark mark.open_paren mark.none) c ≡ true → Kind (λ _. p) Anything c

weak_atom : (p : Parser Expr) → IsLocal p → AtOpen p → Weak (atom_over p) Anything
unfolding atom_over
weak_atom p local kind =
    weak_if (sign.Mark mark.open_paren mark.none) p other Anything local other_local nothing kind
    (λ c at. kind_cond (is_column (Some c)) col lit Anything c (λ _. inr (inr (col, weak_col, λ j. refl))) (λ _. inr (inr (lit, weak_lit, λ j. refl))))
  where
    col : Parser Expr
    col = e.Col <$> name

    lit : Parser Expr
    lit = e.Lit <$> literal

    weak_col : Weak col Anything
    weak_col = mapped e.Col name Anything (weak_name Anything)

    weak_lit : Weak lit Anything
    weak_lit = mapped e.Lit literal Anything (weak_literal Anything)

    other : Parser Expr
    other i = cond (is_column (first i)) (col i) (lit i)

    other_local : IsLocal other
    other_local w vs zs = local_first w vs zs (λ o i. cond (is_column o) (col i) (lit i)) (λ o. local_cond w vs zs (is_column o) col lit (weak_col.local w vs zs) (weak_lit.local w vs zs))

    nothing : other [] ≡ Err 0
    nothing = weak_nothing lit Anything weak_lit

fill_atom : (p : Parser Expr) → Fills (atom_over p) Anything one []
unfolding atom_over literal plain negative after sees
fill_atom p = (e.Lit (value.Int (pos 1)), λ z stop. refl)

module _ (p : Parser Expr) (local : IsLocal p) (kind : AtOpen p) where
  weak_prod : Weak (chained (grouping level.Prod) (atom_over p)) EndsProd
  weak_prod = weak_chained (grouping level.Prod) (atom_over p) Anything (weak_atom p local kind) one [] (fill_atom p)

  fill_prod : Fills (chained (grouping level.Prod) (atom_over p)) EndsProd one []
  fill_prod = fill_chained (grouping level.Prod) (atom_over p) Anything (weak_atom p local kind) one [] (fill_atom p)

  weak_sum : Weak (sum_over p) EndsSum
  weak_sum = weak_chained (grouping level.Sum) (chained (grouping level.Prod) (atom_over p)) EndsProd weak_prod one [] fill_prod

  fill_sum : Fills (sum_over p) EndsSum one []
  fill_sum = fill_chained (grouping level.Sum) (chained (grouping level.Prod) (atom_over p)) EndsProd weak_prod one [] fill_prod

  kind_compared : (left : Expr) (c : Word) (found : Option Op) → KindTail (λ _. compare_on (sum_over p) left found) EndsComp left c
  kind_compared left c None = inl (λ j. refl)
  kind_compared left c (Some o) =
      let f = λ (right : Expr). pure (e.Two o left right) in
      inr (sum_over p >>= f, rest_of (sum_over p >>= f) EndsComp one [] (tailed (sum_over p) f EndsSum EndsComp weak_sum (λ right. tail_end (e.Two o left right) EndsComp) (λ z stop. stop.0)) (fill_tailed (sum_over p) f EndsSum EndsComp weak_sum (λ right. tail_end (e.Two o left right) EndsComp) (λ z stop. stop.0) one [] fill_sum), λ j. refl)

  tail_compared : (left : Expr) → Tail (compared_to (sum_over p) left) EndsComp
  unfolding compared_to
  tail_compared left =
      tail_first (λ o. compare_on (sum_over p) left (found_by comparison o)) EndsComp left refl (λ c. kind_compared left c (comparison c)) (λ z stop. ap (λ f. compare_on (sum_over p) left f z) stop.1)
      (λ w vs zs. local_compared w vs zs (sum_over p) (weak_sum.local w vs zs) left)

  weak_comp : Weak (comp_over p) EndsComp
  unfolding comp_over
  weak_comp = tailed (sum_over p) (compared_to (sum_over p)) EndsSum EndsComp weak_sum tail_compared (λ z stop. stop.0)

  fill_comp : Fills (comp_over p) EndsComp one []
  unfolding comp_over
  fill_comp = fill_tailed (sum_over p) (compared_to (sum_over p)) EndsSum EndsComp weak_sum tail_compared (λ z stop. stop.0) one [] fill_sum

abbrev NegTame : Parser Expr → Type 0
NegTame p = Weak p EndsComp × Fills p EndsComp one []

module _ (p : Parser Expr) (neg_is : NegTame p) where
  weak_conj : Weak (chained (grouping level.And) p) EndsAnd
  weak_conj = weak_chained (grouping level.And) p EndsComp neg_is.0 one [] neg_is.1

  fill_conj : Fills (chained (grouping level.And) p) EndsAnd one []
  fill_conj = fill_chained (grouping level.And) p EndsComp neg_is.0 one [] neg_is.1

  weak_expr_over : Weak (expr_over p) Ends
  weak_expr_over = weak_chained (grouping level.Or) (chained (grouping level.And) p) EndsAnd weak_conj one [] fill_conj

  fill_expr_over : Fills (expr_over p) Ends one []
  fill_expr_over = fill_chained (grouping level.Or) (chained (grouping level.And) p) EndsAnd weak_conj one [] fill_conj

closed_ends : (z : Input) → Ends (closed ∷ z)
closed_ends z = (((((tt, refl), refl), refl), refl), refl)

neg_tame : (n : ℕ) → NegTame (neg n)
unfolding neg sees same_key
neg_tame zero =
    let weak = weak_comp refuse refuse_local (λ c at. inl (λ j. refl)) in
    let fill = fill_comp refuse refuse_local (λ c at. inl (λ j. refl)) in (
      weak_if (sign.Key key.Not) refuse (comp_over refuse) EndsComp refuse_local weak.local (weak_nothing (comp_over refuse) EndsComp weak) (λ c at. inl (λ j. refl)) (λ c at. inr (inr (comp_over refuse, weak, λ j. refl))),
      fill,
    )
neg_tame (suc n) =
    let inner = neg_tame n in
    let p = in_parens (expr_over (neg n)) in
    let weak_p = weak_in_parens (expr_over (neg n)) Ends (weak_expr_over (neg n) inner) (fill_expr_over (neg n) inner) closed_ends in
    let weak = weak_comp p weak_p.local (λ c at. inr (inr (p, weak_p, λ j. refl))) in
    let fill = fill_comp p weak_p.local (λ c at. inr (inr (p, weak_p, λ j. refl))) in
    let negated = mapped e.Not (neg n) EndsComp inner.0 in (
      weak_if (sign.Key key.Not) (λ i. (e.Not <$> neg n) (next i)) (comp_over p) EndsComp (next_local (e.Not <$> neg n) negated.local) weak.local (weak_nothing (comp_over p) EndsComp weak)
          (λ c at. inr (inl (e.Not <$> neg n, rest_of (e.Not <$> neg n) EndsComp one [] negated (fill_mapped e.Not (neg n) EndsComp inner.0 one [] inner.1), λ j. refl)))
          (λ c at. inr (inr (comp_over p, weak, λ j. refl))),
      fill,
    )

pub weak_expr : Weak expr Ends
weak_expr = weak_expr_over (neg 64) (neg_tame 64)

pub fill_expr : Fills expr Ends one []
fill_expr = fill_expr_over (neg 64) (neg_tame 64)
