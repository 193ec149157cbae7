-- Where the words of a line that says something are not read, its tokens are at fault there.
use Rattle.std.proofs.Common.{◌≡◌, ℕ, ◌+◌, Bool, true, false, cond, List, [], ◌∷◌, ◌++◌, Option, Some, None, refl, sym, ap, subst, ◌∙◌, ◌⊎◌, inl, inr}
use Rattle.std.specs.Prelude.{Result, Ok, Err}
use Rattle.std.specs.List.{list_all}
use Rattle.sk_lex.specs.declared.token.Keyword.TheVariants as key
use Rattle.sk_lex.specs.declared.token.Token.{Token}
use Rattle.sk_lex.specs.declared.token.Word.{Word}
use Rattle.sk_lex.specs.declared.token.Word.TheVariants as word
use Rattle.sk_rows.specs.declared.statement.Statement.{Statement}
use Rattle.sk_lex.specs.Marks as mark
use Rattle.sk_parse.specs.declared.fault.ParseFault.{ParseFault}
use Rattle.sk_parse.specs.declared.fault.ParseFault.TheVariants as parse
use Rattle.sk_parse.specs.Statements.{statement}
use Rattle.sk_parse.proofs.Answered.{answered}
use Rattle.sk_script.specs.declared.script.Line.{Line}
use Rattle.sk_script.specs.declared.script.Line.TheVariants as line
use Rattle.sk_script.specs.Body.{alone, begins_step, behind_session, body, by_command, by_session, closed, command_of, goes_on, is_mark, misfit, phrase, rest_of, said, says, session_of}
use Rattle.sk_script.specs.Faults.{BodyFault, SaidFault}
use Rattle.sk_script.proofs.BodyRules.{IsClosed, first_mark, is_semicolon, mark_word, phrase_words, said_closed, said_plain, step_first}

-- a result is a fault at this place
abbrev pub FailsAt : {A : Type 0} → Result A ParseFault → ℕ → Type 0
FailsAt r place = r ≡ Err (parse.Unexpected place)

abbrev pub place_or : {A : Type 0} → ℕ → Result A ParseFault → ℕ
place_or d (Err (parse.Unexpected place)) = place
place_or d _ = d

no_colon : (w : Word) → is_mark 58 w ≡ false → ¬ (w ≡ word.Mark mark.colon mark.none)
no_colon w at is = let bad : true ≡ false = ap (is_mark 58) (sym is) ∙ at in absurd cc

says_err : (n : ℕ) (r : Result Statement ParseFault) (place : ℕ) → FailsAt (says n r) place → FailsAt r place
says_err n (Ok s) place is = absurd cc
says_err n (Err f) place is = cc

phrase_fault : (n : ℕ) (ts : List Token) (end place : ℕ) → FailsAt (phrase n ts end) place → SaidFault end ts place
unfolding phrase
phrase_fault n ts end place is = by (begins_step ts) refl is
  where
    stepped : (t : Token) (rest : List Token) → t.word ≡ word.Key key.Step → FailsAt (alone (Ok (line.Step n)) rest) place → SaidFault end (t ∷ rest) place
    stepped t [] at e = absurd cc
    stepped t (v ∷ rest) at e = subst (SaidFault end (t ∷ v ∷ rest)) (ap (place_or 0) e) (SaidFault.step t v rest at)

    by : (b : Bool) → begins_step ts ≡ b → FailsAt (cond b (alone (Ok (line.Step n)) (rest_of ts)) (says n (statement ts end))) place → SaidFault end ts place
    by true at e = let first = step_first ts at in subst (λ l. SaidFault end l place) (sym first.1) (stepped first.0 (rest_of ts) first.2 e)
    by false at e = SaidFault.statement ts place at (answered ts end (Err (parse.Unexpected place)) (says_err n (statement ts end) place e))

alone_err : (n : ℕ) (us : List Token) (end : ℕ) (rest : List Token) (place : ℕ) (r : Result Line ParseFault) → r ≡ phrase n us end → FailsAt (alone r rest) place
    → SaidFault end us place ⊎ ((what : Line) × (v : Token) × (ts : List Token) × (phrase n us end ≡ Ok what) × (rest ≡ v ∷ ts) × (v.from + 1 ≡ place))
alone_err n us end [] place (Ok what) at is = absurd cc
alone_err n us end (v ∷ ts) place (Ok what) at is = inr (what, v, ts, sym at, refl, ap (place_or 0) is)
alone_err n us end rest place (Err f) at is = let same : Err f ≡ Err (parse.Unexpected place) = cc in inl (phrase_fault n us end place (sym at ∙ same))

said_fault : (t c : Token) (ts : List Token) (n end place : ℕ) → session_of t.word ≡ Some n → c.word ≡ word.Mark mark.colon mark.none → FailsAt (said n ts end) place → BodyFault end (t ∷ c ∷ ts) place
unfolding closed
said_fault t c ts n end place session colon is = by (first_mark ts)
  where
    on : (d : IsClosed ts) → SaidFault d.mark.from d.before place ⊎ ((what : Line) × (v : Token) × (vs : List Token) × (phrase n d.before d.mark.from ≡ Ok what) × (d.rest ≡ v ∷ vs) × (v.from + 1 ≡ place))
        → BodyFault end (t ∷ c ∷ ts) place
    on d (inl f) =
        subst (λ l. BodyFault end (t ∷ c ∷ l) place) (sym d.split)
        (BodyFault.closed t c d.before d.mark d.rest n place session colon d.inside (mark_word 59 d.mark.word (is_semicolon d.mark.word d.ends)) f)
    on d (inr r) =
        let split : ts ≡ d.before ++ d.mark ∷ r.1 ∷ r.2 = d.split ∙ ap (λ l. d.before ++ d.mark ∷ l) r.4 in
        subst (λ l. BodyFault end (t ∷ c ∷ l) place) (sym split)
        (subst (BodyFault end (t ∷ c ∷ d.before ++ d.mark ∷ r.1 ∷ r.2)) r.5
        (BodyFault.behind t c d.before d.mark r.1 r.2 n r.0 session colon (mark_word 59 d.mark.word (is_semicolon d.mark.word d.ends)) (phrase_words n d.before d.mark.from r.0 r.3)))

    by : (list_all goes_on ts ≡ true) ⊎ IsClosed ts → BodyFault end (t ∷ c ∷ ts) place
    by (inl all) = BodyFault.plain t c ts n place session colon all (phrase_fault n ts end place (sym (said_plain n ts end all) ∙ is))
    by (inr d) =
        let found : FailsAt (closed n d.before d.mark.from d.rest) place = sym (said_closed n d.before d.mark d.rest end d.inside d.ends) ∙ ap (λ l. said n l end) (sym d.split) ∙ is in
        on d (alone_err n d.before d.mark.from d.rest place (phrase n d.before d.mark.from) refl found)

behind_fault : (t : Token) (ts : List Token) (n end place : ℕ) → session_of t.word ≡ Some n → FailsAt (behind_session n ts end) place → BodyFault end (t ∷ ts) place
behind_fault t [] n end place session is = subst (BodyFault end (t ∷ [])) (ap (place_or 0) is) (BodyFault.colon t [] n session tt)
behind_fault t (c ∷ ts) n end place session is = by (is_mark 58 c.word) refl is
  where
    by : (b : Bool) → is_mark 58 c.word ≡ b → FailsAt (cond b (said n ts end) (misfit (c ∷ ts) end)) place → BodyFault end (t ∷ c ∷ ts) place
    by true at e = said_fault t c ts n end place session (mark_word 58 c.word at) e
    by false at e = subst (BodyFault end (t ∷ c ∷ ts)) (ap (place_or 0) e) (BodyFault.colon t (c ∷ ts) n session (no_colon c.word at))

session_fault : (t : Token) (ts : List Token) (end place : ℕ) → command_of t.word ≡ None → FailsAt (by_session (session_of t.word) t ts end) place → BodyFault end (t ∷ ts) place
session_fault t ts end place none is = by (session_of t.word) refl is
  where
    by : (o : Option ℕ) → session_of t.word ≡ o → FailsAt (by_session o t ts end) place → BodyFault end (t ∷ ts) place
    by (Some n) at e = behind_fault t ts n end place at e
    by None at e = subst (BodyFault end (t ∷ ts)) (ap (place_or 0) e) (BodyFault.first (t ∷ ts) none at)

command_fault : (t : Token) (ts : List Token) (end place : ℕ) (what : Line) → command_of t.word ≡ Some what → FailsAt (alone (Ok what) ts) place → BodyFault end (t ∷ ts) place
command_fault t [] end place what at is = absurd cc
command_fault t (v ∷ ts) end place what at is = subst (BodyFault end (t ∷ v ∷ ts)) (ap (place_or 0) is) (BodyFault.command t v ts what at)

pub body_fault : (ts : List Token) (end place : ℕ) → FailsAt (body ts end) place → BodyFault end ts place
unfolding body
body_fault [] end place is = subst (BodyFault end []) (ap (place_or 0) is) (BodyFault.first [] tt tt)
body_fault (t ∷ ts) end place is = by (command_of t.word) refl is
  where
    by : (o : Option Line) → command_of t.word ≡ o → FailsAt (by_command o t ts end) place → BodyFault end (t ∷ ts) place
    by (Some what) at e = command_fault t ts end place what at e
    by None at e = session_fault t ts end place at e
