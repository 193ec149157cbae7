-- Where the rules call the tokens of a line that says something at fault, its words are not read there.
use Rattle.std.proofs.Common.{◌≡◌, ℕ, ◌+◌, Bool, true, false, cond, List, [], ◌∷◌, ◌++◌, append-nil, append_assoc, Some, None, refl, sym, ap, subst, ◌∙◌, ◌⊎◌, inl, inr}
use Rattle.std.specs.Prelude.{Result, Ok, Err}
use Rattle.std.proofs.lemmas.List.{map-append}
use Rattle.sk_lex.specs.declared.token.Token.{Token}
use Rattle.sk_lex.specs.declared.token.Word.{Word}
use Rattle.sk_lex.specs.declared.token.Word.TheVariants as word
use Rattle.sk_rows.specs.declared.statement.Statement.{Statement}
use Rattle.sk_lex.specs.Marks as mark
use Rattle.sk_parse.specs.declared.fault.ParseFault.{ParseFault}
use Rattle.sk_parse.specs.declared.fault.ParseFault.TheVariants as parse
use Rattle.sk_parse.specs.Input.{Outcome}
use Rattle.sk_parse.specs.Places.{IsFirstFault, IsRefused, words}
use Rattle.sk_parse.specs.Saying.{Says}
use Rattle.sk_parse.specs.Statements.{answer as answered_by, place_of, statement, whole}
use Rattle.sk_parse.proofs.Answered.{answered}
use Rattle.sk_script.specs.declared.script.Line.TheVariants as line
use Rattle.sk_script.specs.Body.{alone, behind_session, body, by_command, by_session, closed, command_of, is_mark, is_step, misfit, phrase, rest_of, said, says, session_of}
use Rattle.sk_script.specs.Faults.{BodyFault, IsNoMark, SaidFault}
use Rattle.sk_script.proofs.BodyFaults.{FailsAt}
use Rattle.sk_script.proofs.BodyRules.{mark_word, phrase_open, phrase_read, said_closed, said_plain, session_word}
use Rattle.sk_script.proofs.NoSemicolon.{goes}

-- ---- statements

-- of two ways to cut a list one cuts behind the other
record IsLater (us vs us2 vs2 : List Token) : Type 0 where
  between : List Token
  front : us2 ≡ us ++ between
  back : vs ≡ between ++ vs2

two_cuts : (us vs us2 vs2 : List Token) → us ++ vs ≡ us2 ++ vs2 → IsLater us vs us2 vs2 ⊎ IsLater us2 vs2 us vs
two_cuts [] vs us2 vs2 is = inl (record { between = us2; front = refl; back = is })
two_cuts (u ∷ us) vs [] vs2 is = inr (record { between = u ∷ us; front = refl; back = sym is })
two_cuts (u ∷ us) vs (v ∷ us2) vs2 is = by (two_cuts us vs us2 vs2 tail)
  where
    tail : us ++ vs ≡ us2 ++ vs2
    tail = cc

    head : u ≡ v
    head = cc

    by : IsLater us vs us2 vs2 ⊎ IsLater us2 vs2 us vs → IsLater (u ∷ us) vs (v ∷ us2) vs2 ⊎ IsLater (v ∷ us2) vs2 (u ∷ us) vs
    by (inl l) = inl (record { between = l.between; front = ap (λ z. z ∷ us2) (sym head) ∙ ap (λ z. u ∷ z) l.front; back = l.back })
    by (inr l) = inr (record { between = l.between; front = ap (λ z. z ∷ us) head ∙ ap (λ z. v ∷ z) l.front; back = l.back })

-- nothing goes on with a word that is refused
not_later : (ts : List Token) (end place place2 : ℕ) → (f : IsFirstFault ts end place) → (g : IsFirstFault ts end place2) → IsLater f.0 f.1 g.0 g.1 → place ≡ place2
not_later ts end place place2 f g l = by l.between f.1 l.front l.back f.5 f.3
  where
    by : (between vs : List Token) → g.0 ≡ f.0 ++ between → vs ≡ between ++ g.1 → IsRefused (words f.0) vs → place ≡ place_of end vs → place ≡ place2
    by [] vs front back refused here = here ∙ ap (place_of end) back ∙ sym g.3
    by (w ∷ more) [] front back refused here = absurd cc
    by (w ∷ more) (v ∷ vs) front back refused here =
        let head : v ≡ w = cc in
        let begins = g.4 in
        let all : words g.0 ++ begins.0 ≡ words f.0 ++ v.word ∷ (words more ++ begins.0) =
        ap (λ l. words l ++ begins.0) front
        ∙ ap (λ l. l ++ begins.0) (map-append (λ (t : Token). t.word) f.0 (w ∷ more))
        ∙ append_assoc (words f.0) (w.word ∷ words more) begins.0
        ∙ ap (λ z. words f.0 ++ z.word ∷ (words more ++ begins.0)) (sym head) in
        absurd (refused (words more ++ begins.0) begins.1 (subst (λ l. Says l begins.1) all begins.2))

said_not : (ts : List Token) (end place : ℕ) (s : Statement) → IsFirstFault ts end place → ¬ Says (words ts) s
said_not ts end place s f is = by f.1 f.2 f.5
  where
    by : (vs : List Token) → ts ≡ f.0 ++ vs → IsRefused (words f.0) vs → ⊥
    by [] split refused = refused s (subst (λ l. Says (words l) s) (split ∙ append-nil f.0) is)
    by (v ∷ vs) split refused = refused (words vs) s (subst (λ l. Says l s) (ap words split ∙ map-append (λ (t : Token). t.word) f.0 (v ∷ vs)) is)

no_memory : (ts : List Token) (end : ℕ) (o : Outcome Statement) → ¬ (answered_by ts end o ≡ Err parse.NoMemory)
no_memory ts end (Ok r) is = absurd cc
no_memory ts end (Err k) is = absurd cc

first_is : (ts : List Token) (end place : ℕ) → IsFirstFault ts end place → FailsAt (statement ts end) place
unfolding statement
first_is ts end place f = by (statement ts end) refl
  where
    on : (place2 : ℕ) → (g : IsFirstFault ts end place2) → IsLater f.0 f.1 g.0 g.1 ⊎ IsLater g.0 g.1 f.0 f.1 → place2 ≡ place
    on place2 g (inl l) = sym (not_later ts end place place2 f g l)
    on place2 g (inr l) = not_later ts end place2 place g f l

    by : (r : Result Statement ParseFault) → statement ts end ≡ r → r ≡ Err (parse.Unexpected place)
    by (Ok s) is = absurd (said_not ts end place s f (answered ts end (Ok s) is))
    by (Err (parse.Unexpected place2)) is =
        let g = answered ts end (Err (parse.Unexpected place2)) is in
        ap (λ p. Err (parse.Unexpected p)) (on place2 g (two_cuts f.0 f.1 g.0 g.1 (sym f.2 ∙ g.2)))
    by (Err parse.NoMemory) is = absurd (no_memory ts end (whole (words ts)) is)

-- ---- what a session says

phrase_fails : (n end : ℕ) (ts : List Token) (place : ℕ) → SaidFault end ts place → FailsAt (phrase n ts end) place
unfolding phrase
phrase_fails n end _ _ (SaidFault.step t v ts at) = ap (λ w. cond (is_step w) (alone (Ok (line.Step n)) (v ∷ ts)) (says n (statement (t ∷ v ∷ ts) end))) at
phrase_fails n end _ _ (SaidFault.statement ts place none f) =
    ap (λ b. cond b (alone (Ok (line.Step n)) (rest_of ts)) (says n (statement ts end))) none ∙ ap (says n) (first_is ts end place f)

-- ---- lines

-- no session's number is FLUSH or STOP
no_command : (w : Word) (n : ℕ) → session_of w ≡ Some n → command_of w ≡ None
no_command w n is = ap command_of (session_word w n is).0

colon_missing : (n : ℕ) (ts : List Token) (end : ℕ) → IsNoMark 58 ts → FailsAt (behind_session n ts end) (place_of end ts)
colon_missing n [] end none = refl
colon_missing n (c ∷ ts) end none = by (is_mark 58 c.word) refl
  where
    by : (b : Bool) → is_mark 58 c.word ≡ b → FailsAt (cond b (said n ts end) (misfit (c ∷ ts) end)) (c.from + 1)
    by true is = absurd (none (mark_word 58 c.word is))
    by false is = refl

behind_colon : (t c : Token) (ts : List Token) (n end place : ℕ) → session_of t.word ≡ Some n → c.word ≡ word.Mark mark.colon mark.none → FailsAt (said n ts end) place → FailsAt (body (t ∷ c ∷ ts) end) place
unfolding body
behind_colon t c ts n end place session colon is =
    ap (λ o. by_command o t (c ∷ ts) end) (no_command t.word n session)
    ∙ ap (λ o. by_session o t (c ∷ ts) end) session
    ∙ ap (λ w. cond (is_mark 58 w) (said n ts end) (misfit (c ∷ ts) end)) colon
    ∙ is

pub body_fails : (end : ℕ) (ts : List Token) (place : ℕ) → BodyFault end ts place → FailsAt (body ts end) place
unfolding body closed
body_fails end _ _ (BodyFault.first [] command session) = refl
body_fails end _ _ (BodyFault.first (t ∷ ts) command session) = ap (λ o. by_command o t ts end) command ∙ ap (λ o. by_session o t ts end) session
body_fails end _ _ (BodyFault.command t v ts what is) = ap (λ o. by_command o t (v ∷ ts) end) is
body_fails end _ _ (BodyFault.colon t ts n session none) =
    ap (λ o. by_command o t ts end) (no_command t.word n session) ∙ ap (λ o. by_session o t ts end) session ∙ colon_missing n ts end none
body_fails end _ _ (BodyFault.plain t c ts n place session colon all f) = behind_colon t c ts n end place session colon (said_plain n ts end all ∙ phrase_fails n end ts place f)
body_fails end _ _ (BodyFault.closed t c us m ts n place session colon all mark f) =
    behind_colon t c (us ++ m ∷ ts) n end place session colon (said_closed n us m ts end all (ap goes mark) ∙ ap (λ r. alone r ts) (phrase_fails n m.from us place f))
body_fails end _ _ (BodyFault.behind t c us m v ts n what session colon mark is) =
    behind_colon t c (us ++ m ∷ v ∷ ts) n end (v.from + 1) session colon
    (said_closed n us m (v ∷ ts) end (phrase_open n us (words us) what refl is) (ap goes mark) ∙ ap (λ r. alone r (v ∷ ts)) (phrase_read n us m.from (words us) what refl is))
