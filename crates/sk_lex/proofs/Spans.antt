-- One more token behind the others.
use Rattle.std.proofs.Common.{◌≡◌, ◌≤◌, ◌<◌, ℕ, zero, suc, ◌+◌, ◌-◌, ◌==◌, List, [], ◌∷◌, ◌++◌, length, length-drop, slice_index, drop, take, refl, sym, ap, subst, ◌∙◌, arith}
use Rattle.std.specs.Prelude.{All, Ok}
use Rattle.std.specs.List.{list_all}
use Rattle.std.proofs.lemmas.List.Elements.{All-cons}
use Rattle.std.proofs.lemmas.List.Folds.{list_all-append}
use Rattle.sk_lex.specs.declared.token.Token.{Token}
use Rattle.sk_lex.specs.declared.token.Word.{Word}
use Rattle.sk_lex.specs.Front.{Text, front}
use Rattle.sk_lex.specs.Scanning.{token}
use Rattle.sk_lex.specs.Spans.{AreCut, IsBlank, IsCut, end_of, slice}
use Rattle.sk_lex.specs.Spelling.{IsEnd, IsWritten}
use Rattle.sk_lex.proofs.Written.{front_stands}

cut_snoc : (line : Text) (at : ℕ) (found : List Token) (t : Token) → AreCut line at found → IsCut line (end_of at found) t → AreCut line at (found ++ t ∷ [])
cut_snoc line at [] t cut here = (here, tt)
cut_snoc line at (s ∷ ss) t cut here = (cut.0, cut_snoc line s.to ss t cut.1 here)

end_snoc : (at : ℕ) (found : List Token) (t : Token) → end_of at (found ++ t ∷ []) ≡ t.to
end_snoc at [] t = refl
end_snoc at (s ∷ ss) t = end_snoc s.to ss t

drop_more : (a b : ℕ) (z : Text) → drop b (drop a z) ≡ drop (a + b) z
drop_more zero b z = let e : b ≡ 0 + b = omega arith in ap (λ k. drop k z) e
drop_more (suc a) zero [] = let e : suc a ≡ suc a + 0 = omega arith in ap (λ k. drop k []) e
drop_more (suc a) (suc b) [] = let e : suc (a + suc b) ≡ suc a + suc b = omega arith in ap (λ k. drop k []) e
drop_more (suc a) b (x ∷ z) = let e : suc (a + b) ≡ suc a + b = omega arith in drop_more a b z ∙ ap (λ k. drop k (x ∷ z)) e

take_one_more : (k : ℕ) (z : Text) (b : ℕ) (rest : Text) → drop k z ≡ b ∷ rest → take (suc k) z ≡ take k z ++ b ∷ []
take_one_more zero [] b rest e = absurd cc
take_one_more zero (x ∷ z) b rest e = let same : x ≡ b = cc in ap (λ y. y ∷ []) same
take_one_more (suc k) [] b rest e = absurd cc
take_one_more (suc k) (x ∷ z) b rest e = ap (λ l. x ∷ l) (take_one_more k z b rest e)

-- what a scan keeps of its tokens and of the bytes that are left
pub record Kept (line : Text) (found : List Token) (at : ℕ) (z : Text) : Type 0 where
  pub cut : AreCut line 0 found
  pub last : end_of 0 found ≤ at
  pub blank : IsBlank (slice line (end_of 0 found) at)
  pub left : z ≡ drop at line
  pub long : at + length z ≡ length line

blank_more : (line : Text) (from to : ℕ) (rest : Text) → from ≤ to → drop to line ≡ 32 ∷ rest → IsBlank (slice line from to) → IsBlank (slice line from (to + 1))
blank_more line from to rest le next blank =
    let k = to - from in
    let whole : from + k ≡ to = omega arith in
    let longer : to + 1 - from ≡ suc k = omega arith in
    let here : drop k (drop from line) ≡ 32 ∷ rest = drop_more from k line ∙ ap (λ n. drop n line) whole ∙ next in
    ap (λ n. list_all (λ b. b == 32) (take n (drop from line))) longer
    ∙ ap (list_all (λ b. b == 32)) (take_one_more k (drop from line) 32 rest here)
    ∙ list_all-append (λ b. b == 32) (take k (drop from line)) (32 ∷ [])
    ∙ rw blank refl

kept_blank : (line : Text) (found : List Token) (at : ℕ) (z : Text) (rest : Text) → Kept line found at z → z ≡ 32 ∷ rest → Kept line found (at + 1) rest
kept_blank line found at z rest k is = record {
  cut = k.cut;
  last = omega (arith, k.last);
  blank = blank_more line (end_of 0 found) at rest k.last (sym k.left ∙ is) k.blank;
  left = ap (drop 1) (sym is ∙ k.left) ∙ drop_more at 1 line;
  long = omega (arith, k.long, ap length is);
}

pub kept_space : (line : Text) (found : List Token) (at : ℕ) (z : Text) → Kept line found at z → 1 ≤ length z → slice_index z 0 ≡ 32 → Kept line found (at + 1) (drop 1 z)
kept_space line found at [] k some is = absurd (omega arith)
kept_space line found at (b ∷ z) k some is = kept_blank line found at (b ∷ z) z k (ap (λ x. x ∷ z) is)

pub kept_token : (line : Text) (found : List Token) (at : ℕ) (z : Text) (word : Word) (n : ℕ) → Kept line found at z → front z ≡ Ok (word, n) → 1 ≤ n → n ≤ length z
    → Kept line (found ++ token at (word, n) ∷ []) (at + n) (drop n z)
kept_token line found at z word n k is some few =
    let t = token at (word, n) in
    let len : n ≡ at + n - at = omega arith in
    let stands = front_stands z word n is in
    let same : z ≡ drop at line = k.left in
    let here : take n z ≡ slice line at (at + n) = ap (take n) same ∙ ap (λ m. take m (drop at line)) len in
    let behind : drop n z ≡ drop (at + n) line = ap (drop n) same ∙ drop_more at n line in
    let last = end_snoc 0 found t in
    let none : 0 ≡ at + n - (at + n) = omega arith in
    let cut : IsCut line (end_of 0 found) t = record {
      after = k.last;
      some = omega arith;
      within = omega (arith, k.long);
      blank = k.blank;
      written = subst (λ s. IsWritten word s) here stands.0;
      ends = subst (λ s. IsEnd word s) behind stands.1;
      read = ap front (sym same) ∙ is ∙ ap (λ m. Ok (word, m)) len;
    } in
    record {
      cut = cut_snoc line 0 found t k.cut cut;
      last = omega (arith, last);
      blank = subst (λ e. IsBlank (slice line e (at + n))) (sym last) (ap (λ m. list_all (λ b. b == 32) (take m (drop (at + n) line))) (sym none));
      left = behind;
      long = omega (arith, k.long, length-drop n z);
    }

-- ---- what the tokens are where a scan ends

end_from : (line : Text) (at : ℕ) (ts : List Token) → AreCut line at ts → at ≤ end_of at ts
end_from line at [] cut = omega arith
end_from line at (t ∷ ts) cut = let rest = end_from line t.to ts cut.1 in omega (arith, cut.0.after, cut.0.some)

pub all_before : (line : Text) (at : ℕ) (ts : List Token) (n : ℕ) → AreCut line at ts → end_of at ts ≤ n → All (λ t. t.from < n) ts
all_before line at [] n cut few = λ k d less. absurd (omega arith)
all_before line at (t ∷ ts) n cut few =
    let rest = end_from line t.to ts cut.1 in
    All-cons (λ t. t.from < n) t ts (omega (arith, cut.0.some)) (all_before line t.to ts n cut.1 few)
