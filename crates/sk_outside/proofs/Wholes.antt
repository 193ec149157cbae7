-- A source read whole and a text written whole, a piece at a time.
use Rattle.std.proofs.Common.{◌≡◌, ℕ, ◌+◌, ◌-◌, ◌≤◌, List, [], ◌++◌, length, take, drop, None, Some, IfSome, sym, ap, ◌∙◌, subst, arith, length-drop}
use Rattle.std.proofs.Math.Seq.{take-add}
use Rattle.std.proofs.lemmas.List.{take_rest, take_at, take_all, drop_at, drop_all, append-nil}
use Rattle.std.specs.declared.option.Option.{Option}
use Rattle.std.specs.Io.KnownBytes.{Appends, Consumes, IsAtEnd}
use Rattle.std.proofs.KnownBytes.{Appends-trans, Consumes-trans}
use Rattle.std.proofs.lemmas.Grind.{common_steps}
use Rattle.sk_outside.specs.Pieces.{ConsumesAtMost}

module _ (text : List ℕ) (at n : ℕ) where
  abbrev piece : List ℕ
  piece = take (length text - at) (drop at text)

  pub appends_more : (a b c : Option (List ℕ)) → Appends a b (take at text) → Appends b c (take n piece) → Appends a c (take (at + n) text)
  appends_more a b c before more =
      let joined : take at text ++ take n piece ≡ take (at + n) text =
      ap (λ (l : List ℕ). take at text ++ take n l) (take_rest text at) ∙ sym (take-add at n text) in
      subst (Appends a c) joined (Appends-trans a b c _ _ before more)

  pub within_more : at ≤ length text → n ≤ length piece → at + n ≤ length text
  within_more before more =
      let long : length piece ≡ length text - at = ap length (take_rest text at) ∙ length-drop at text in
      omega arith

-- nothing is left, or the limit is reached: these are the first bytes up to the limit
pub read_ended : (a b c : Option (List ℕ)) (bytes buf : List ℕ) (count most : ℕ) → count ≡ 0 → Consumes a b bytes → Consumes b c (take count buf) → IsAtEnd c → length bytes ≤ most → IfSome a (λ left. bytes ≡ take most left)
read_ended None b c bytes buf count most zero taken none end short = tt
read_ended (Some xs) None c bytes buf count most zero taken none end short = absurd taken
read_ended (Some xs) (Some ys) None bytes buf count most zero taken none end short = absurd none
read_ended (Some xs) (Some ys) (Some zs) bytes buf count most zero taken none end short =
    let nothing : ys ≡ [] = none ∙ ap (λ (n : ℕ). take n buf ++ zs) zero ∙ end in
    let all : xs ≡ bytes = taken ∙ ap (λ (l : List ℕ). bytes ++ l) nothing ∙ append-nil bytes in
    sym (ap (λ (l : List ℕ). take most l) all ∙ take_all most bytes short)

pub read_full : (a b : Option (List ℕ)) (bytes : List ℕ) (most : ℕ) → Consumes a b bytes → length bytes ≡ most → IfSome a (λ left. bytes ≡ take most left)
read_full None b bytes most taken full = tt
read_full (Some xs) None bytes most taken full = absurd taken
read_full (Some xs) (Some ys) bytes most taken full =
    sym (ap (λ (l : List ℕ). take most l) taken ∙ take_at bytes ys most full)

-- nothing is left behind the limit either
pub rest_ended : (a b c : Option (List ℕ)) (bytes buf : List ℕ) (count most : ℕ) → count ≡ 0 → Consumes a b bytes → Consumes b c (take count buf) → IsAtEnd c → length bytes ≤ most → IfSome a (λ left. c ≡ Some (drop most left))
rest_ended None b c bytes buf count most zero taken none end short = tt
rest_ended (Some xs) None c bytes buf count most zero taken none end short = absurd taken
rest_ended (Some xs) (Some ys) None bytes buf count most zero taken none end short = absurd none
rest_ended (Some xs) (Some ys) (Some zs) bytes buf count most zero taken none end short =
    let nothing : ys ≡ [] = none ∙ ap (λ (n : ℕ). take n buf ++ zs) zero ∙ end in
    let all : xs ≡ bytes = taken ∙ ap (λ (l : List ℕ). bytes ++ l) nothing ∙ append-nil bytes in
    let over : length xs ≤ most = subst (λ (l : List ℕ). length l ≤ most) (sym all) short in
    ap (λ (l : List ℕ). Some l) (end ∙ sym (drop_all most xs over))

pub rest_full : (a b : Option (List ℕ)) (bytes : List ℕ) (most : ℕ) → Consumes a b bytes → length bytes ≡ most → IfSome a (λ left. b ≡ Some (drop most left))
rest_full None b bytes most taken full = tt
rest_full (Some xs) None bytes most taken full = absurd taken
rest_full (Some xs) (Some ys) bytes most taken full =
    ap (λ (l : List ℕ). Some l) (sym (ap (λ (l : List ℕ). drop most l) taken ∙ drop_at bytes ys most full))

-- one read more, within the limit
pub read_more : (a b c : Option (List ℕ)) (bytes buf : List ℕ) (count most : ℕ) → Consumes a b bytes → Consumes b c (take count buf) → length bytes + count ≤ most → ConsumesAtMost most a c
read_more a b c bytes buf count most taken more fits = record {
  bytes = bytes ++ take count buf;
  within = grind (arith, common_steps);
  front = Consumes-trans a b c bytes (take count buf) taken more;
}
