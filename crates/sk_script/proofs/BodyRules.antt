-- The words of a line that says something: they are read as it exactly where the rules make it of them.
use Rattle.std.proofs.Common.{◌≡◌, ◌==◌, ℕ, Bool, true, false, cond, not, ◌&&◌, List, [], ◌∷◌, ◌++◌, length, take, drop, Option, Some, None, refl, sym, ap, subst, ◌∙◌, arith, ◌⊎◌, inl, inr}
use Rattle.std.specs.Prelude.{nat_le, Result, Ok, Err}
use Rattle.std.specs.List.{list_all, prefix_len}
use Rattle.std.proofs.Math.Seq.{drop-append_seam, drop-length, take-append_seam, take-length}
use Rattle.std.proofs.lemmas.Bool.{and_parts, le-leb, leb-true}
use Rattle.std.proofs.lemmas.Bool.Decides.{nat_tests}
use Rattle.std.proofs.lemmas.List.{map-append}
use Rattle.sk_lex.specs.declared.token.Keyword.TheVariants as key
use Rattle.sk_lex.specs.declared.token.Token.{Token}
use Rattle.sk_lex.specs.declared.token.Word.{Word}
use Rattle.sk_lex.specs.declared.token.Word.TheVariants as word
use Rattle.sk_rows.specs.declared.statement.Statement.{Statement}
use Rattle.sk_rows.specs.declared.statement.Statement.TheVariants as st
use Rattle.sk_lex.specs.Marks as mark
use Rattle.sk_parse.specs.declared.fault.ParseFault.{ParseFault}
use Rattle.sk_parse.specs.Places.{words}
use Rattle.sk_parse.specs.Saying.{Says}
use Rattle.sk_parse.specs.Statements.{answer, statement}
use Rattle.sk_parse.proofs.Answered.{answered}
use Rattle.sk_parse.proofs.CompleteStatement.{whole_read}
use Rattle.sk_script.specs.declared.script.Line.{Line}
use Rattle.sk_script.specs.declared.script.Line.TheVariants as line
use Rattle.sk_script.specs.Body.{alone, begins_step, behind_session, body, by_command, by_session, closed, command_of, goes_on, is_mark, is_step, misfit, phrase, rest_of, said, said_by, says, session_of}
use Rattle.sk_script.specs.Rules.{IsBody, IsSaid, IsSession}
use Rattle.sk_script.proofs.NoSemicolon.{goes, said_free}

-- ---- where the first semicolon stands

prefix_all : (ts : List Token) → list_all goes_on ts ≡ true → prefix_len goes_on ts ≡ length ts
prefix_all [] all = refl
prefix_all (t ∷ ts) all =
    let parts = and_parts (goes_on t) (list_all goes_on ts) all in
    let rest = prefix_all ts parts.1 in
    rw parts.0 (omega arith)

prefix_before : (us : List Token) (mark : Token) (rest : List Token) → list_all goes_on us ≡ true → goes_on mark ≡ false → prefix_len goes_on (us ++ mark ∷ rest) ≡ length us
prefix_before [] mark rest all ends = rw ends refl
prefix_before (t ∷ us) mark rest all ends =
    let parts = and_parts (goes_on t) (list_all goes_on us) all in
    let more = prefix_before us mark rest parts.1 ends in
    rw parts.0 (omega arith)

pub said_plain : (n : ℕ) (ts : List Token) (end : ℕ) → list_all goes_on ts ≡ true → said n ts end ≡ phrase n ts end
unfolding said
said_plain n ts end all =
    ap (λ k. said_by n (take k ts) end (drop k ts)) (prefix_all ts all)
    ∙ ap (said_by n (take (length ts) ts) end) (drop-length ts)
    ∙ ap (λ us. phrase n us end) (take-length ts)

pub said_closed : (n : ℕ) (us : List Token) (mark : Token) (rest : List Token) (end : ℕ) → list_all goes_on us ≡ true → goes_on mark ≡ false → said n (us ++ mark ∷ rest) end ≡ closed n us mark.from rest
unfolding said
said_closed n us mark rest end all ends =
    let ts = us ++ mark ∷ rest in
    ap (λ k. said_by n (take k ts) end (drop k ts)) (prefix_before us mark rest all ends)
    ∙ ap (said_by n (take (length us) ts) end) (drop-append_seam us (mark ∷ rest))
    ∙ ap (λ before. closed n before mark.from rest) (take-append_seam us (mark ∷ rest))

-- tokens with no semicolon, or those before the first and those behind it
pub record IsClosed (ts : List Token) : Type 0 where
  pub before : List Token
  pub mark : Token
  pub rest : List Token
  pub split : ts ≡ before ++ mark ∷ rest
  pub inside : list_all goes_on before ≡ true
  pub ends : goes_on mark ≡ false

pub first_mark : (ts : List Token) → (list_all goes_on ts ≡ true) ⊎ IsClosed ts
first_mark [] = inl refl
first_mark (t ∷ ts) = by (goes_on t) refl (first_mark ts)
  where
    by : (b : Bool) → goes_on t ≡ b → (list_all goes_on ts ≡ true) ⊎ IsClosed ts → (list_all goes_on (t ∷ ts) ≡ true) ⊎ IsClosed (t ∷ ts)
    by true is (inl all) = inl (rw (is, all) refl)
    by true is (inr c) = inr (record { before = t ∷ c.before; mark = c.mark; rest = c.rest; split = ap (λ l. t ∷ l) c.split; inside = rw (is, c.inside) refl; ends = c.ends })
    by false is _ = inr (record { before = []; mark = t; rest = ts; split = refl; inside = refl; ends = is })

-- ---- what is read stands in the words

pub mark_word : (byte : ℕ) (w : Word) → is_mark byte w ≡ true → w ≡ word.Mark byte 0
mark_word byte (word.Mark a b) is =
    let parts = and_parts (a == byte) (b == 0) is in
    let first : a ≡ byte = (let e = parts.0 in grind (arith, nat_tests)) in
    let second : b ≡ 0 = (let e = parts.1 in grind (arith, nat_tests)) in
    ap (λ m. word.Mark m b) first ∙ ap (word.Mark byte) second
mark_word byte (word.Key k) is = absurd cc
mark_word byte (word.Name t) is = absurd cc
mark_word byte (word.Number n) is = absurd cc
mark_word byte (word.Text t) is = absurd cc

pub is_semicolon : (w : Word) → not (is_mark 59 w) ≡ false → is_mark 59 w ≡ true
is_semicolon w = by (is_mark 59 w)
  where
    by : (b : Bool) → not b ≡ false → b ≡ true
    by true is = refl
    by false is = absurd cc

pub session_word : (w : Word) (n : ℕ) → session_of w ≡ Some n → (w ≡ word.Number n) × IsSession n
session_word (word.Number m) n is = by (nat_le 1 m && nat_le m 64) refl is
  where
    by : (b : Bool) → (nat_le 1 m && nat_le m 64) ≡ b → cond b (Some m) None ≡ Some n → (word.Number m ≡ word.Number n) × IsSession n
    by true at e =
        let same : m ≡ n = cc in
        let parts = and_parts (nat_le 1 m) (nat_le m 64) at in
        (ap word.Number same, subst IsSession same (leb-true 1 m parts.0, leb-true m 64 parts.1))
    by false at e = absurd cc
session_word (word.Key k) n is = absurd cc
session_word (word.Name t) n is = absurd cc
session_word (word.Text t) n is = absurd cc
session_word (word.Mark a b) n is = absurd cc

pub alone_ok : (r : Result Line ParseFault) (rest : List Token) (what : Line) → alone r rest ≡ Ok what → (rest ≡ []) × (r ≡ Ok what)
alone_ok (Ok x) [] what is = (refl, is)
alone_ok (Ok x) (t ∷ ts) what is = absurd cc
alone_ok (Err f) rest what is = absurd cc

pub step_word : (w : Word) → is_step w ≡ true → w ≡ word.Key key.Step
step_word (word.Key key.Step) is = refl
step_word _ is = absurd cc

-- the words are STEP and those behind it
pub step_first : (ts : List Token) → begins_step ts ≡ true → (t : Token) × (ts ≡ t ∷ rest_of ts) × (t.word ≡ word.Key key.Step)
step_first [] is = absurd cc
step_first (t ∷ ts) is = (t, refl, step_word t.word is)

says_ok : (n : ℕ) (r : Result Statement ParseFault) (what : Line) → says n r ≡ Ok what → (s : Statement) × (r ≡ Ok s) × (line.Says n s ≡ what)
says_ok n (Ok s) what is = let same : line.Says n s ≡ what = cc in (s, refl, same)
says_ok n (Err f) what is = absurd cc

pub phrase_words : (n : ℕ) (ts : List Token) (end : ℕ) (what : Line) → phrase n ts end ≡ Ok what → IsSaid n (words ts) what
unfolding phrase
phrase_words n ts end what is = by (begins_step ts) refl is
  where
    by : (b : Bool) → begins_step ts ≡ b → cond b (alone (Ok (line.Step n)) (rest_of ts)) (says n (statement ts end)) ≡ Ok what → IsSaid n (words ts) what
    by true at e =
        let first = step_first ts at in
        let parts = alone_ok (Ok (line.Step n)) (rest_of ts) what e in
        let same : line.Step n ≡ what = let o = parts.1 in cc in
        let all : words ts ≡ word.Key key.Step ∷ [] = ap words first.1 ∙ ap (λ rest. words (first.0 ∷ rest)) parts.0 ∙ ap (λ w. w ∷ []) first.2 in
        subst (λ ws. IsSaid n ws what) (sym all) (subst (IsSaid n (word.Key key.Step ∷ [])) same IsSaid.step)
    by false at e =
        let found = says_ok n (statement ts end) what e in
        subst (IsSaid n (words ts)) found.2 (IsSaid.statement (words ts) found.0 (answered ts end (Ok found.0) found.1))

abbrev IsLineOf : ℕ → List Token → Line → Type 0
IsLineOf n ts what = IsBody (word.Number n ∷ word.Mark mark.colon mark.none ∷ words ts) what

said_words : (n : ℕ) → IsSession n → (ts : List Token) (end : ℕ) (what : Line) → said n ts end ≡ Ok what → IsLineOf n ts what
unfolding closed
said_words n session ts end what is = by (first_mark ts)
  where
    by : (list_all goes_on ts ≡ true) ⊎ IsClosed ts → IsLineOf n ts what
    by (inl all) = IsBody.plain n (words ts) what session (phrase_words n ts end what (sym (said_plain n ts end all) ∙ is))
    by (inr c) =
        let found : closed n c.before c.mark.from c.rest ≡ Ok what = sym (said_closed n c.before c.mark c.rest end c.inside c.ends) ∙ ap (λ us. said n us end) (sym c.split) ∙ is in
        let parts = alone_ok (phrase n c.before c.mark.from) c.rest what found in
        let last : words (c.mark ∷ c.rest) ≡ word.Mark mark.semicolon mark.none ∷ [] =
        ap (λ rest. words (c.mark ∷ rest)) parts.0 ∙ ap (λ w. w ∷ []) (mark_word 59 c.mark.word (is_semicolon c.mark.word c.ends)) in
        let all : words ts ≡ words c.before ++ word.Mark mark.semicolon mark.none ∷ [] =
        ap words c.split ∙ map-append (λ (t : Token). t.word) c.before (c.mark ∷ c.rest) ∙ ap (λ l. words c.before ++ l) last in
        subst (λ ws. IsBody (word.Number n ∷ word.Mark mark.colon mark.none ∷ ws) what) (sym all)
        (IsBody.closed n (words c.before) what session (phrase_words n c.before c.mark.from what parts.1))

behind_words : (n : ℕ) → IsSession n → (ts : List Token) (end : ℕ) (what : Line) → behind_session n ts end ≡ Ok what → IsBody (word.Number n ∷ words ts) what
behind_words n session [] end what is = absurd cc
behind_words n session (t ∷ ts) end what is = by (is_mark 58 t.word) refl is
  where
    by : (b : Bool) → is_mark 58 t.word ≡ b → cond b (said n ts end) (misfit (t ∷ ts) end) ≡ Ok what → IsBody (word.Number n ∷ words (t ∷ ts)) what
    by true at e = subst (λ w. IsBody (word.Number n ∷ w ∷ words ts) what) (sym (mark_word 58 t.word at)) (said_words n session ts end what e)
    by false at e = absurd cc

session_words : (t : Token) (ts : List Token) (end : ℕ) (what : Line) → by_session (session_of t.word) t ts end ≡ Ok what → IsBody (words (t ∷ ts)) what
session_words t ts end what is = by (session_of t.word) refl is
  where
    by : (found : Option ℕ) → session_of t.word ≡ found → by_session found t ts end ≡ Ok what → IsBody (words (t ∷ ts)) what
    by (Some n) at e =
        let session = session_word t.word n at in
        subst (λ w. IsBody (w ∷ words ts) what) (sym session.0) (behind_words n session.1 ts end what e)
    by None at e = absurd cc

command_words : (w : Word) (what : Line) → command_of w ≡ Some what → IsBody (w ∷ []) what
command_words (word.Key key.Flush) what is = subst (IsBody (word.Key key.Flush ∷ [])) (let same : line.Flush ≡ what = cc in same) IsBody.flush
command_words (word.Key key.Stop) what is = subst (IsBody (word.Key key.Stop ∷ [])) (let same : line.Stop ≡ what = cc in same) IsBody.stop
command_words _ what is = absurd cc

pub body_words : (ts : List Token) (end : ℕ) (what : Line) → body ts end ≡ Ok what → IsBody (words ts) what
unfolding body
body_words [] end what is = absurd cc
body_words (t ∷ ts) end what is = by (command_of t.word) refl is
  where
    by : (found : Option Line) → command_of t.word ≡ found → by_command found t ts end ≡ Ok what → IsBody (words (t ∷ ts)) what
    by (Some command) at e =
        let parts = alone_ok (Ok command) ts what e in
        let same : command ≡ what = let o = parts.1 in cc in
        subst (λ rest. IsBody (t.word ∷ words rest) what) (sym parts.0) (subst (IsBody (t.word ∷ [])) same (command_words t.word command at))
    by None at e = session_words t ts end what e

-- ---- what stands in the words is read

split_words : (us vs : List Word) (ts : List Token) → words ts ≡ us ++ vs → (before : List Token) × (rest : List Token) × (ts ≡ before ++ rest) × (words before ≡ us) × (words rest ≡ vs)
split_words [] vs ts is = ([], ts, refl, refl, is)
split_words (u ∷ us) vs [] is = absurd cc
split_words (u ∷ us) vs (t ∷ ts) is =
    let head : t.word ≡ u = cc in
    let tail : words ts ≡ us ++ vs = cc in
    let more = split_words us vs ts tail in
    (t ∷ more.0, more.1, ap (λ l. t ∷ l) more.2, ap (λ w. w ∷ words more.0) head ∙ ap (λ l. u ∷ l) more.3, more.4)

all_words : (ts : List Token) → list_all goes (words ts) ≡ list_all goes_on ts
all_words [] = refl
all_words (t ∷ ts) = ap (λ b. goes_on t && b) (all_words ts)

pub statement_read : (ts : List Token) (end : ℕ) (ws : List Word) (s : Statement) → words ts ≡ ws → Says ws s → statement ts end ≡ Ok s
unfolding statement
statement_read ts end ws s is says = ap (answer ts end) (whole_read (words ts) s (subst (λ l. Says l s) (sym is) says))

open_tokens : (ts : List Token) (ws : List Word) → words ts ≡ ws → list_all goes ws ≡ true → list_all goes_on ts ≡ true
open_tokens ts ws is free = sym (all_words ts) ∙ ap (list_all goes) is ∙ free

-- what is said has no semicolon
said_open : (n : ℕ) (ws : List Word) (what : Line) → IsSaid n ws what → list_all goes ws ≡ true
said_open n _ _ IsSaid.step = refl
said_open n _ _ (IsSaid.statement us s says) = said_free us s says

pub phrase_open : (n : ℕ) (ts : List Token) (ws : List Word) (what : Line) → words ts ≡ ws → IsSaid n ws what → list_all goes_on ts ≡ true
phrase_open n ts ws what is said = open_tokens ts ws is (said_open n ws what said)

-- no statement begins with STEP
no_step : (ts : List Token) (s : Statement) → Says (words ts) s → begins_step ts ≡ false
no_step [] s says = refl
no_step (t ∷ ts) s says = by (is_step t.word) refl
  where
    never : (s : Statement) (ws : List Word) → ¬ Says (word.Key key.Step ∷ ws) s
    never (st.Begin b) ws is = absurd (let e = is.1 in cc)
    never st.Commit ws is = absurd cc
    never st.Rollback ws is = absurd cc
    never (st.Insert table values) ws is = absurd (let e = is.1 in cc)
    never (st.Select table columns c) ws is = absurd (let e = is.2 in cc)
    never (st.Update table sets c) ws is = absurd (let e = is.2 in cc)
    never (st.Delete table c) ws is = absurd (let e = is.1 in cc)

    by : (b : Bool) → is_step t.word ≡ b → b ≡ false
    by true at = absurd (never s (words ts) (subst (λ w. Says (w ∷ words ts) s) (step_word t.word at) says))
    by false at = refl

one_word : (w : Word) (ts : List Token) → words ts ≡ w ∷ [] → (t : Token) × (ts ≡ t ∷ []) × (t.word ≡ w)
one_word w [] is = absurd cc
one_word w (t ∷ []) is = (t, refl, cc)
one_word w (t ∷ u ∷ ts) is = absurd cc

pub phrase_read : (n : ℕ) (ts : List Token) (end : ℕ) (ws : List Word) (what : Line) → words ts ≡ ws → IsSaid n ws what → phrase n ts end ≡ Ok what
unfolding phrase
phrase_read n ts end _ _ is IsSaid.step =
    let one = one_word (word.Key key.Step) ts is in
    ap (λ l. phrase n l end) one.1 ∙ ap (λ w. cond (is_step w) (alone (Ok (line.Step n)) []) (says n (statement (one.0 ∷ []) end))) one.2
phrase_read n ts end _ _ is (IsSaid.statement us s said) =
    let here : Says (words ts) s = subst (λ l. Says l s) (sym is) said in
    ap (λ b. cond b (alone (Ok (line.Step n)) (rest_of ts)) (says n (statement ts end))) (no_step ts s here)
    ∙ ap (says n) (statement_read ts end us s is said)

session_is : (n : ℕ) → IsSession n → session_of (word.Number n) ≡ Some n
session_is n session = rw (le-leb 1 n session.0, le-leb n 64 session.1) refl

session_read : (n : ℕ) → IsSession n → (t c : Token) (ts : List Token) (end : ℕ) (what : Line) → t.word ≡ word.Number n → c.word ≡ word.Mark mark.colon mark.none → said n ts end ≡ Ok what
    → body (t ∷ c ∷ ts) end ≡ Ok what
unfolding body
session_read n session t c ts end what number colon is =
    ap (λ w. by_command (command_of w) t (c ∷ ts) end) number
    ∙ ap (λ w. by_session (session_of w) t (c ∷ ts) end) number
    ∙ ap (λ o. by_session o t (c ∷ ts) end) (session_is n session)
    ∙ ap (λ w. cond (is_mark 58 w) (said n ts end) (misfit (c ∷ ts) end)) colon
    ∙ is

two_words : (v w : Word) (ws : List Word) (ts : List Token) → words ts ≡ v ∷ w ∷ ws → (t : Token) × (c : Token) × (us : List Token) × (ts ≡ t ∷ c ∷ us) × (t.word ≡ v) × (c.word ≡ w) × (words us ≡ ws)
two_words v w ws [] is = absurd cc
two_words v w ws (t ∷ []) is = absurd cc
two_words v w ws (t ∷ c ∷ us) is = (t, c, us, refl, cc, cc, cc)

closed_read : (n : ℕ) (us : List Token) (stop : Token) (end : ℕ) (ws : List Word) (what : Line) → words us ≡ ws → IsSaid n ws what → stop.word ≡ word.Mark mark.semicolon mark.none → said n (us ++ stop ∷ []) end ≡ Ok what
unfolding closed
closed_read n us stop end ws what is says at =
    said_closed n us stop [] end (phrase_open n us ws what is says) (ap goes at)
    ∙ ap (λ r. alone r []) (phrase_read n us stop.from ws what is says)

command_read : (t : Token) (end : ℕ) (what : Line) → command_of t.word ≡ Some what → body (t ∷ []) end ≡ Ok what
unfolding body
command_read t end what is = ap (λ o. by_command o t [] end) is

command_alone : (w : Word) (what : Line) → command_of w ≡ Some what → (ts : List Token) (end : ℕ) → words ts ≡ w ∷ [] → body ts end ≡ Ok what
command_alone w what command ts end is =
    let one = one_word w ts is in
    ap (λ l. body l end) one.1 ∙ command_read one.0 end what (ap command_of one.2 ∙ command)

pub body_read : (ws : List Word) (what : Line) → IsBody ws what → (ts : List Token) (end : ℕ) → words ts ≡ ws → body ts end ≡ Ok what
body_read _ _ (IsBody.plain n us what session says) ts end is =
    let two = two_words (word.Number n) (word.Mark mark.colon mark.none) us ts is in
    ap (λ l. body l end) two.3
    ∙ session_read n session two.0 two.1 two.2 end what two.4 two.5 (said_plain n two.2 end (phrase_open n two.2 us what two.6 says) ∙ phrase_read n two.2 end us what two.6 says)
body_read _ _ IsBody.flush ts end is = command_alone (word.Key key.Flush) line.Flush refl ts end is
body_read _ _ IsBody.stop ts end is = command_alone (word.Key key.Stop) line.Stop refl ts end is
body_read _ _ (IsBody.closed n us what session says) ts end is =
    let two = two_words (word.Number n) (word.Mark mark.colon mark.none) (us ++ word.Mark mark.semicolon mark.none ∷ []) ts is in
    let cut = split_words us (word.Mark mark.semicolon mark.none ∷ []) two.2 two.6 in
    let last = one_word (word.Mark mark.semicolon mark.none) cut.1 cut.4 in
    let all : two.2 ≡ cut.0 ++ last.0 ∷ [] = cut.2 ∙ ap (λ l. cut.0 ++ l) last.1 in
    ap (λ l. body l end) two.3
    ∙ session_read n session two.0 two.1 two.2 end what two.4 two.5 (ap (λ l. said n l end) all ∙ closed_read n cut.0 last.0 end us what cut.3 says last.2)
