-- The constant of the keywords is the definition's table.
use Rattle.std.proofs.Common.{◌≡◌, map, refl}
use Rattle.sk_lex.specs.declared.token.TheConstants.{WORDS}
use Rattle.sk_lex.specs.Front.{Text, keyword, keywords, lookup}

same_words : map (λ k. (k.0.now, k.1)) WORDS ≡ keywords
same_words = refl

pub looked_up : (word : Text) → lookup (map (λ k. (k.0.now, k.1)) WORDS) word ≡ keyword word
unfolding keyword
looked_up word = refl
