-- The tokens of a SET line are at fault where they are not read, and nowhere else.
use Rattle.std.proofs.Common.{◌≡◌, ℕ, List, [], ◌∷◌, Option, Some, None, refl, ap, subst, ◌∙◌}
use Rattle.sk_lex.specs.declared.token.Token.{Token}
use Rattle.sk_lex.specs.Front.{Text}
use Rattle.sk_script.specs.declared.script.OptionLine.{OptionLine}
use Rattle.sk_script.specs.Faults.{OptionFault}
use Rattle.sk_script.specs.Options.{behind_name, behind_number, by_name, by_number, new_option, number_of, option_line}
use Rattle.sk_script.proofs.BodyFaults.{FailsAt, place_or}
use Rattle.sk_script.proofs.OptionRules.{set_to}

behind_fault : (lines : List OptionLine) (n : ℕ) (t u : Token) (ts : List Token) (end place : ℕ) (name : Text) (k : ℕ) → new_option lines t.word ≡ Some name → number_of name u.word ≡ Some k
    → FailsAt (behind_number (set_to n name k) ts end) place → OptionFault lines end (t ∷ u ∷ ts) place
behind_fault lines n t u [] end place name k found is e = absurd cc
behind_fault lines n t u (v ∷ ts) end place name k found is e =
    subst (OptionFault lines end (t ∷ u ∷ v ∷ ts)) (ap (place_or 0) e) (OptionFault.behind t u v ts name k found is)

number_fault : (lines : List OptionLine) (n : ℕ) (t : Token) (ts : List Token) (end place : ℕ) (name : Text) → new_option lines t.word ≡ Some name
    → FailsAt (behind_name n name ts end) place → OptionFault lines end (t ∷ ts) place
number_fault lines n t [] end place name found e = subst (OptionFault lines end (t ∷ [])) (ap (place_or 0) e) (OptionFault.number t [] name found tt)
number_fault lines n t (u ∷ ts) end place name found e = by (number_of name u.word) refl e
  where
    by : (o : Option ℕ) → number_of name u.word ≡ o → FailsAt (by_number o n name u ts end) place → OptionFault lines end (t ∷ u ∷ ts) place
    by (Some k) is e = behind_fault lines n t u ts end place name k found is e
    by None is e = subst (OptionFault lines end (t ∷ u ∷ ts)) (ap (place_or 0) e) (OptionFault.number t (u ∷ ts) name found is)

pub option_fault : (lines : List OptionLine) (n : ℕ) (ts : List Token) (end place : ℕ) → FailsAt (option_line lines n ts end) place → OptionFault lines end ts place
unfolding option_line
option_fault lines n [] end place e = subst (OptionFault lines end []) (ap (place_or 0) e) (OptionFault.name [] tt)
option_fault lines n (t ∷ ts) end place e = by (new_option lines t.word) refl e
  where
    by : (o : Option Text) → new_option lines t.word ≡ o → FailsAt (by_name o n t ts end) place → OptionFault lines end (t ∷ ts) place
    by (Some name) found e = number_fault lines n t ts end place name found e
    by None none e = subst (OptionFault lines end (t ∷ ts)) (ap (place_or 0) e) (OptionFault.name (t ∷ ts) none)

pub option_fails : (lines : List OptionLine) (n end : ℕ) (ts : List Token) (place : ℕ) → OptionFault lines end ts place → FailsAt (option_line lines n ts end) place
unfolding option_line
option_fails lines n end _ _ (OptionFault.name [] none) = refl
option_fails lines n end _ _ (OptionFault.name (t ∷ ts) none) = ap (λ o. by_name o n t ts end) none
option_fails lines n end _ _ (OptionFault.number t [] name found none) = ap (λ o. by_name o n t [] end) found
option_fails lines n end _ _ (OptionFault.number t (u ∷ ts) name found none) =
    ap (λ o. by_name o n t (u ∷ ts) end) found ∙ ap (λ o. by_number o n name u ts end) none
option_fails lines n end _ _ (OptionFault.behind t u v ts name k found is) =
    ap (λ o. by_name o n t (u ∷ v ∷ ts) end) found ∙ ap (λ o. by_number o n name u (v ∷ ts) end) is
