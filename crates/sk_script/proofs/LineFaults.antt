-- Where a line is not read, it is at fault there.
use Rattle.std.proofs.Common.{◌≡◌, ℕ, ◌+◌, ◌-◌, ◌<◌, Bool, true, false, cond, ◌||◌, List, [], ◌∷◌, ◌++◌, length, length-append, drop, refl, sym, ap, subst, ◌∙◌, arith, ◌⊎◌, inl, inr}
use Rattle.std.specs.Prelude.{nat_lt, Result, Ok, Err}
use Rattle.std.proofs.Math.Seq.{drop-append_seam}
use Rattle.std.proofs.lemmas.Bool.{ltb-true, or_cases}
use Rattle.sk_lex.specs.declared.token.Token.{Token}
use Rattle.sk_lex.specs.Front.{Text}
use Rattle.sk_rows.specs.declared.table.Table.{Table}
use Rattle.sk_parse.specs.declared.fault.ParseFault.{ParseFault}
use Rattle.sk_parse.specs.declared.fault.ParseFault.TheVariants as parse
use Rattle.sk_parse.specs.Input.{Outcome, next}
use Rattle.sk_parse.specs.Places.{words}
use Rattle.sk_parse.specs.Statements.{place_of}
use Rattle.sk_script.specs.declared.legible.Legible.{Legible}
use Rattle.sk_script.specs.declared.line.Kind.{Kind}
use Rattle.sk_script.specs.declared.line.Kind.TheVariants as kind
use Rattle.sk_script.specs.declared.script.Line.{Line}
use Rattle.sk_script.specs.declared.script.OptionLine.{OptionLine}
use Rattle.sk_script.specs.declared.script.Script.{Script}
use Rattle.sk_script.specs.declared.script.ScriptLine.{ScriptLine}
use Rattle.sk_script.specs.declared.script.TableLine.{TableLine}
use Rattle.sk_script.specs.Body.{body, rest_of}
use Rattle.sk_script.specs.Faults.{LineFault, TableFault}
use Rattle.sk_script.specs.Header.{answer, place, table, table_line}
use Rattle.sk_script.specs.Legible.{legible}
use Rattle.sk_script.specs.Options.{option_line}
use Rattle.sk_script.specs.Script.{and_then, behind, by_kind, good_len, is_passed_over, kind_of, line_added, option_added, passed, table_added, with_body, with_front, with_line, with_option, with_table}
use Rattle.sk_script.proofs.BodyFaults.{FailsAt, body_fault, place_or}
use Rattle.sk_script.proofs.BodyRules.{body_words}
use Rattle.sk_script.proofs.LineRules.{set_begins, set_of, table_begins, table_of}
use Rattle.sk_script.proofs.NewTables.{line_taken}
use Rattle.sk_script.proofs.OptionFaults.{option_fault}
use Rattle.sk_script.proofs.OptionRules.{option_words}
use Rattle.sk_script.proofs.TableFaults.{length_words, table_fault}

pub place_is : (end : ℕ) (us vs ts : List Token) → ts ≡ us ++ vs → place ts end (length (words vs)) ≡ place_of end vs
unfolding place
place_is end us vs ts split =
    let before : length ts - length (words vs) ≡ length us = omega (arith, ap length split, length-append us vs, length_words vs) in
    ap (λ k. place_of end (drop k ts)) before ∙ ap (λ l. place_of end (drop (length us) l)) split ∙ ap (place_of end) (drop-append_seam us vs)

pub begins_some : (lines : List ScriptLine) (ts : List Token) → kind_of lines ts ≡ kind.Table → (t : Token) × (ts ≡ t ∷ rest_of ts)
begins_some [] (t ∷ ts) is = (t, refl)
begins_some [] [] is = absurd cc
begins_some (l ∷ ls) ts is = absurd cc

answer_err : {A : Type 0} (ts : List Token) (end : ℕ) (o : Outcome A) (at : ℕ) → FailsAt (answer ts end o) at → (k : ℕ) × (o ≡ Err k) × (place ts end k ≡ at)
answer_err ts end (Ok p) at is = absurd cc
answer_err ts end (Err k) at is = (k, refl, ap (place_or 0) is)

table_line_fault : (lines : List ScriptLine) (tables : List TableLine) (ts : List Token) (end at : ℕ) → kind_of lines ts ≡ kind.Table → FailsAt (table_line tables ts end) at → TableFault tables end (rest_of ts) at
unfolding table_line
table_line_fault lines tables ts end at header is =
    let some = begins_some lines ts header in
    let found = answer_err ts end (table tables (next (words ts))) at is in
    let rest : next (words ts) ≡ words (rest_of ts) = ap (λ l. next (words l)) some.1 in
    let f = table_fault tables end (rest_of ts) found.0 (ap (table tables) (sym rest) ∙ found.1) in
    let split : ts ≡ (some.0 ∷ f.0) ++ f.1 = some.1 ∙ ap (λ l. some.0 ∷ l) f.2 in
    let here : place_of end f.1 ≡ at = sym (place_is end (some.0 ∷ f.0) f.1 ts split) ∙ ap (place ts end) (sym f.3) ∙ found.2 in
    subst (TableFault tables end (rest_of ts)) here f.4

behind_err : (front : Legible) (at : ℕ) {A : Type 0} (x : A) → FailsAt (and_then (behind front) (λ _. Ok x)) at → (front.spoilt ≡ true) × (front.end + 1 ≡ at)
behind_err front at x is = by front.spoilt refl is
  where
    by : (b : Bool) → front.spoilt ≡ b → FailsAt (and_then (cond b (Err (parse.Unexpected (front.end + 1))) (Ok (tt {0}))) (λ _. Ok x)) at → (b ≡ true) × (front.end + 1 ≡ at)
    by true spoilt e = (refl, ap (place_or 0) e)
    by false spoilt e = absurd cc

passed_fault : (script : Script) (long : Bool) (line : Text) (at : ℕ) → is_passed_over line ≡ true → FailsAt (passed long script line) at → LineFault script long line at
unfolding passed
passed_fault script long line at empty is = by (long || nat_lt (good_len line) (length line)) refl is
  where
    why : (long ≡ true) ⊎ (nat_lt (good_len line) (length line) ≡ true) → (long ≡ true) ⊎ (good_len line < length line)
    why (inl is) = inl is
    why (inr is) = inr (ltb-true (good_len line) (length line) is)

    by : (b : Bool) → (long || nat_lt (good_len line) (length line)) ≡ b → FailsAt (cond b (Err (parse.Unexpected (good_len line + 1))) (Ok script)) at → LineFault script long line at
    by true bad e = subst (LineFault script long line) (ap (place_or 0) e) (LineFault.passed empty (why (or_cases long (nat_lt (good_len line) (length line)) bad)))
    by false bad e = absurd cc

table_front : (script : Script) (long : Bool) (n : ℕ) (line : Text) (at : ℕ) → is_passed_over line ≡ false → kind_of script.lines (legible long line).tokens ≡ kind.Table
    → FailsAt (with_table script n (legible long line)) at → LineFault script long line at
unfolding with_table
table_front script long n line at some header is = by (table_line script.tables (legible long line).tokens (legible long line).end) refl is
  where
    by : (r : Result Table ParseFault) → table_line script.tables (legible long line).tokens (legible long line).end ≡ r
        → FailsAt (and_then r (λ t. and_then (behind (legible long line)) (λ _. Ok (table_added script n t)))) at → LineFault script long line at
    by (Ok t) made e =
        let spoilt = behind_err (legible long line) at (table_added script n t) e in
        let begins = table_begins script.lines (legible long line).tokens header in
        subst (LineFault script long line) spoilt.1
        (LineFault.spoilt_table t some begins.first (table_of script (legible long line).end (legible long line).tokens t begins made)
        (line_taken script.tables (legible long line).tokens (legible long line).end t made) spoilt.0)
    by (Err f) made e =
        let same : Err f ≡ Err (parse.Unexpected at) = cc in
        LineFault.table at some header (table_line_fault script.lines script.tables (legible long line).tokens (legible long line).end at header (made ∙ same))

option_front : (script : Script) (long : Bool) (n : ℕ) (line : Text) (at : ℕ) → is_passed_over line ≡ false → kind_of script.lines (legible long line).tokens ≡ kind.Option
    → FailsAt (with_option script n (legible long line)) at → LineFault script long line at
unfolding with_option
option_front script long n line at some header is = by (option_line script.options n (rest_of (legible long line).tokens) (legible long line).end) refl is
  where
    by : (r : Result OptionLine ParseFault) → option_line script.options n (rest_of (legible long line).tokens) (legible long line).end ≡ r
        → FailsAt (and_then r (λ o. and_then (behind (legible long line)) (λ _. Ok (option_added script o)))) at → LineFault script long line at
    by (Ok o) made e =
        let spoilt = behind_err (legible long line) at (option_added script o) e in
        let begins = set_begins script.lines (legible long line).tokens header in
        let setting = option_words script.options n (rest_of (legible long line).tokens) (legible long line).end o made in
        subst (LineFault script long line) spoilt.1
        (LineFault.spoilt_option setting.name setting.k some begins.first (set_of script.lines script.options n (legible long line).tokens o begins setting) setting.may spoilt.0)
    by (Err f) made e =
        let same : Err f ≡ Err (parse.Unexpected at) = cc in
        LineFault.option at some header (option_fault script.options n (rest_of (legible long line).tokens) (legible long line).end at (made ∙ same))

body_front : (script : Script) (long : Bool) (n : ℕ) (line : Text) (at : ℕ) → is_passed_over line ≡ false → kind_of script.lines (legible long line).tokens ≡ kind.Body
    → FailsAt (with_body script n (legible long line)) at → LineFault script long line at
unfolding with_body
body_front script long n line at some header is = by (body (legible long line).tokens (legible long line).end) refl is
  where
    by : (r : Result Line ParseFault) → body (legible long line).tokens (legible long line).end ≡ r
        → FailsAt (and_then r (λ what. and_then (behind (legible long line)) (λ _. Ok (line_added script n what)))) at → LineFault script long line at
    by (Ok what) made e =
        let spoilt = behind_err (legible long line) at (line_added script n what) e in
        subst (LineFault script long line) spoilt.1 (LineFault.spoilt_body what some (body_words (legible long line).tokens (legible long line).end what made) spoilt.0)
    by (Err f) made e =
        let same : Err f ≡ Err (parse.Unexpected at) = cc in
        LineFault.body at some header (body_fault (legible long line).tokens (legible long line).end at (made ∙ same))

pub line_fault : (script : Script) (long : Bool) (n : ℕ) (line : Text) (at : ℕ) → FailsAt (with_line long script n line) at → LineFault script long line at
unfolding with_line
line_fault script long n line at is = by (is_passed_over line) refl is
  where
    on : is_passed_over line ≡ false → (k : Kind) → kind_of script.lines (legible long line).tokens ≡ k → FailsAt (by_kind k script n (legible long line)) at → LineFault script long line at
    on some kind.Table header e = table_front script long n line at some header e
    on some kind.Option header e = option_front script long n line at some header e
    on some kind.Body header e = body_front script long n line at some header e

    by : (b : Bool) → is_passed_over line ≡ b → FailsAt (cond b (passed long script line) (with_front script n (legible long line))) at → LineFault script long line at
    by true empty e = passed_fault script long line at empty e
    by false some e = on some (kind_of script.lines (legible long line).tokens) refl e
