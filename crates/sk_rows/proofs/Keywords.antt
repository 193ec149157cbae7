-- The constant of the keywords holds the words that the definition has.
use Rattle.std.proofs.Common.{◌≡◌, ℕ, Bool, List, [], ◌∷◌, map, refl, ap, ◌∙◌}
use Rattle.std.specs.Prelude.{◌||◌}
use Rattle.std.specs.List.{list_any}
use Rattle.std.specs.Str.{bytes_eq}
use Rattle.sk_rows.specs.declared.names.TheConstants.{KEYWORDS}
use Rattle.sk_rows.specs.Names.{is_keyword, keywords}

any_map : {A B : Type 0} (f : A → B) (p : B → Bool) (xs : List A) → list_any (λ x. p (f x)) xs ≡ list_any p (map f xs)
any_map f p [] = refl
any_map f p (x ∷ xs) = ap (λ b. p (f x) || b) (any_map f p xs)

same_words : map (λ word. word.now) KEYWORDS ≡ keywords
same_words = refl

pub among_keywords : (text : List ℕ) → list_any (λ word. bytes_eq word.now text) KEYWORDS ≡ is_keyword text
unfolding is_keyword
among_keywords text = any_map (λ word. word.now) (λ word. bytes_eq word text) KEYWORDS ∙ ap (list_any (λ word. bytes_eq word text)) same_words
