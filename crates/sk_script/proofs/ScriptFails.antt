-- What the rules call the first fault of a script is the one that is answered.
use Rattle.std.proofs.Common.{◌≡◌, ℕ, ◌+◌, ◌<◌, Bool, true, false, cond, ◌||◌, List, [], ◌∷◌, ◌++◌, length, map, refl, sym, ap, ◌∙◌, arith, ◌⊎◌, inl, inr}
use Rattle.std.specs.Prelude.{nat_lt, Ok, Err}
use Rattle.std.proofs.Math.Bool.{or-true}
use Rattle.std.proofs.lemmas.Bool.{lt-ltb}
use Rattle.sk_lex.specs.declared.token.Keyword.TheVariants as key
use Rattle.sk_lex.specs.declared.token.Token.{Token}
use Rattle.sk_lex.specs.declared.token.Word.TheVariants as word
use Rattle.sk_lex.specs.Front.{Text}
use Rattle.sk_parse.specs.declared.fault.ParseFault.TheVariants as parse
use Rattle.sk_parse.specs.Input.{next}
use Rattle.sk_parse.specs.Places.{words}
use Rattle.sk_script.specs.declared.legible.Legible.{Legible}
use Rattle.sk_script.specs.declared.line.Kind.{Kind}
use Rattle.sk_script.specs.declared.line.Kind.TheVariants as kind
use Rattle.sk_script.specs.declared.script.Script.{Script}
use Rattle.sk_script.specs.declared.script.ScriptFault.TheVariants as fault
use Rattle.sk_script.specs.Body.{rest_of}
use Rattle.sk_script.specs.Faults.{IsFirstFaultAt, IsPlaced, LineFault, TableFault, is_cut, line_of}
use Rattle.sk_script.specs.Header.{answer, table, table_line}
use Rattle.sk_script.specs.Legible.{legible}
use Rattle.sk_script.specs.Script.{and_then, behind, by_kind, good_len, gone_on, is_passed_over, kind_of, line_added, nothing, option_added, passed, read_from, script_of, table_added, with_body, with_front, with_last, with_line, with_option, with_table, without_return}
use Rattle.sk_script.proofs.BodyFaults.{FailsAt}
use Rattle.sk_script.proofs.BodyRules.{body_read}
use Rattle.sk_script.proofs.BodyFails.{body_fails}
use Rattle.sk_script.proofs.LineFaults.{begins_some, place_is}
use Rattle.sk_script.proofs.LineRules.{body_opens, is_body, kind_is, set_line_read, table_line_read}
use Rattle.sk_script.proofs.OptionFaults.{option_fails}
use Rattle.sk_script.proofs.OptionRules.{set_to}
use Rattle.sk_script.proofs.ScriptFaults.{first_fault}
use Rattle.sk_script.proofs.ScriptRules.{makes_run, run}
use Rattle.sk_script.proofs.TableFails.{table_fails}
use Rattle.sk_script.proofs.Takings.{gone_parts}

-- ---- one line

table_line_fails : (script : Script) (ts : List Token) (end p : ℕ) → kind_of script.lines ts ≡ kind.Table → TableFault script.tables end (rest_of ts) p → FailsAt (table_line script.tables ts end) p
unfolding table_line
table_line_fails script ts end p header f =
    let some = begins_some script.lines ts header in
    let r = table_fails script.tables end (rest_of ts) p f in
    let split : ts ≡ (some.0 ∷ r.0) ++ r.1 = some.1 ∙ ap (λ l. some.0 ∷ l) r.2 in
    ap (λ l. answer ts end (table script.tables (next (words l)))) some.1
    ∙ ap (answer ts end) r.3
    ∙ ap (λ q. Err (parse.Unexpected q)) (place_is end (some.0 ∷ r.0) r.1 ts split ∙ sym r.4)

spoilt_fails : {A : Type 0} (front : Legible) (x : A) → front.spoilt ≡ true → FailsAt (and_then (behind front) (λ _. Ok x)) (front.end + 1)
spoilt_fails front x spoilt = ap (λ b. and_then (cond b (Err (parse.Unexpected (front.end + 1))) (Ok (tt {0}))) (λ _. Ok x)) spoilt

by_some : (script : Script) (long : Bool) (n : ℕ) (line : Text) → is_passed_over line ≡ false → with_line long script n line ≡ with_front script n (legible long line)
unfolding with_line
by_some script long n line some = ap (λ b. cond b (passed long script line) (with_front script n (legible long line))) some

as_kind : (script : Script) (n : ℕ) (front : Legible) (k : Kind) → kind_of script.lines front.tokens ≡ k → with_front script n front ≡ by_kind k script n front
as_kind script n front k is = ap (λ k. by_kind k script n front) is

is_bad : (long : Bool) (line : Text) → (long ≡ true) ⊎ (good_len line < length line) → (long || nat_lt (good_len line) (length line)) ≡ true
is_bad long line (inl is) = ap (λ b. b || nat_lt (good_len line) (length line)) is
is_bad long line (inr is) = ap (λ b. long || b) (lt-ltb (good_len line) (length line) is) ∙ or-true long

line_fails : (script : Script) (long : Bool) (n : ℕ) (line : Text) (p : ℕ) → LineFault script long line p → FailsAt (with_line long script n line) p
unfolding with_line with_table with_option with_body passed
line_fails script long n line _ (LineFault.passed empty bad) =
    ap (λ b. cond b (passed long script line) (with_front script n (legible long line))) empty
    ∙ ap (λ b. cond b (Err (parse.Unexpected (good_len line + 1))) (Ok script)) (is_bad long line bad)
line_fails script long n line _ (LineFault.table p some header f) =
    let front = legible long line in
    by_some script long n line some
    ∙ as_kind script n front kind.Table header
    ∙ ap (λ r. and_then r (λ t. and_then (behind front) (λ _. Ok (table_added script n t)))) (table_line_fails script front.tokens front.end p header f)
line_fails script long n line _ (LineFault.option p some header f) =
    let front = legible long line in
    by_some script long n line some
    ∙ as_kind script n front kind.Option header
    ∙ ap (λ r. and_then r (λ o. and_then (behind front) (λ _. Ok (option_added script o)))) (option_fails script.options n front.end (rest_of front.tokens) p f)
line_fails script long n line _ (LineFault.body p some header f) =
    let front = legible long line in
    by_some script long n line some
    ∙ as_kind script n front kind.Body header
    ∙ ap (λ r. and_then r (λ what. and_then (behind front) (λ _. Ok (line_added script n what)))) (body_fails front.end front.tokens p f)
line_fails script long n line _ (LineFault.spoilt_table t some first is taken spoilt) =
    let front = legible long line in
    by_some script long n line some
    ∙ as_kind script n front kind.Table (kind_is script.lines front.tokens (word.Key key.Table) _ first is.1)
    ∙ ap (λ r. and_then r (λ t. and_then (behind front) (λ _. Ok (table_added script n t)))) (table_line_read script front.tokens front.end (words front.tokens) t refl is taken)
    ∙ spoilt_fails front (table_added script n t) spoilt
line_fails script long n line _ (LineFault.spoilt_option name k some first is may spoilt) =
    let front = legible long line in
    by_some script long n line some
    ∙ as_kind script n front kind.Option (kind_is script.lines front.tokens (word.Key key.Set) _ first is)
    ∙ ap (λ r. and_then r (λ o. and_then (behind front) (λ _. Ok (option_added script o)))) (set_line_read script.options n front.tokens front.end (words front.tokens) name k refl is may)
    ∙ spoilt_fails front (option_added script (set_to n name k)) spoilt
line_fails script long n line _ (LineFault.spoilt_body what some is spoilt) =
    let front = legible long line in
    by_some script long n line some
    ∙ as_kind script n front kind.Body (is_body script.lines front.tokens (words front.tokens) refl (body_opens (words front.tokens) what is))
    ∙ ap (λ r. and_then r (λ what. and_then (behind front) (λ _. Ok (line_added script n what)))) (body_read (words front.tokens) what is front.tokens front.end refl)
    ∙ spoilt_fails front (line_added script n what) spoilt

-- ---- lines

one_step : (long : Bool) (script : Script) (m : ℕ) (p : Text) (ps : List Text) (q : Text) (qs : List Text)
    → read_from long script m (p ∷ ps ++ q ∷ qs) ≡ gone_on m (with_line false script m (without_return p)) (λ after. read_from long after (m + 1) (ps ++ q ∷ qs))
one_step long script m p [] q qs = refl
one_step long script m p (r ∷ ps) q qs = refl

run_reads : (long : Bool) (ps : List Text) (script : Script) (m : ℕ) (q : Text) (qs : List Text) (after : Script) → run script m (map without_return ps) ≡ Ok after
    → read_from long script m (ps ++ q ∷ qs) ≡ read_from long after (m + length ps) (q ∷ qs)
run_reads long [] script m q qs after is =
    let same : script ≡ after = cc in
    let here : m ≡ m + 0 = omega arith in
    ap (λ s. read_from long s m (q ∷ qs)) same ∙ ap (λ k. read_from long after k (q ∷ qs)) here
run_reads long (p ∷ ps) script m q qs after is =
    let parts = gone_parts m (with_line false script m (without_return p)) (λ after. run after (m + 1) (map without_return ps)) after is in
    let further : m + 1 + length ps ≡ m + length (p ∷ ps) = omega arith in
    one_step long script m p ps q qs
    ∙ ap (λ r. gone_on m r (λ after. read_from long after (m + 1) (ps ++ q ∷ qs))) parts.1
    ∙ run_reads long ps parts.0 (m + 1) q qs after parts.2
    ∙ ap (λ k. read_from long after k (q ∷ qs)) further

empty_fits : (script : Script) (n p : ℕ) → ¬ FailsAt (with_line false script n []) p
unfolding with_line passed
empty_fits script n p is = absurd cc

piece_fails : (long : Bool) (script : Script) (n : ℕ) (q : Text) (qs : List Text) (p : ℕ) → LineFault script (is_cut long qs) (line_of q qs) p → read_from long script n (q ∷ qs) ≡ Err (fault.At n p)
unfolding with_last
piece_fails long script n q (r ∷ qs) p f =
    ap (λ s. gone_on n s (λ after. read_from long after (n + 1) (r ∷ qs))) (line_fails script false n (without_return q) p f)
piece_fails true script n [] [] p f = ap (λ s. gone_on n s (λ after. Ok after)) (line_fails script true n [] p f)
piece_fails false script n [] [] p f = absurd (empty_fits script n p (line_fails script false n [] p f))
piece_fails long script n (b ∷ q) [] p f = ap (λ s. gone_on n s (λ after. Ok after)) (line_fails script long n (b ∷ q) p f)

first_is_read : (bytes : Text) (n p : ℕ) → IsFirstFaultAt bytes n p → script_of bytes ≡ Err (fault.At n p)
unfolding script_of
first_is_read bytes n p f =
    let long = nat_lt 16777216 (length bytes) in
    ap (read_from long nothing 1) f.cut
    ∙ run_reads long f.before nothing 1 f.piece f.behind f.script (makes_run (map without_return f.before) f.script f.made)
    ∙ ap (λ k. read_from long f.script k (f.piece ∷ f.behind)) (sym f.number)
    ∙ piece_fails long f.script n f.piece f.behind p f.fault

pub placed : IsPlaced
placed bytes n p = (first_is_read bytes n p, first_fault bytes n p)
