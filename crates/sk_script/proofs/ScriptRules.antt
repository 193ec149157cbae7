-- Bytes are a script by the rules exactly where they are read as it.
use Rattle.std.proofs.Common.{◌≡◌, ◌==◌, ℕ, zero, suc, ◌+◌, ◌≤◌, Bool, true, false, cond, List, [], ◌∷◌, ◌++◌, length, map, take, append-nil, append_assoc, refl, sym, ap, subst, ◌∙◌, arith}
use Rattle.std.specs.Prelude.{nat_lt, Result, Ok, Err}
use Rattle.std.specs.List.{list_all}
use Rattle.std.proofs.lemmas.Bool.{and_parts, le-ltb, ltb-false, not-true}
use Rattle.std.proofs.lemmas.Bool.Decides.{nat_tests}
use Rattle.std.proofs.lemmas.List.{map-append}
use Rattle.sk_lex.specs.Front.{Text}
use Rattle.sk_rows.specs.declared.table.Table.{Table}
use Rattle.sk_parse.specs.declared.fault.ParseFault.{ParseFault}
use Rattle.sk_parse.specs.declared.fault.ParseFault.TheVariants as parse
use Rattle.sk_script.specs.declared.legible.Legible.{Legible}
use Rattle.sk_script.specs.declared.line.Kind.{Kind}
use Rattle.sk_script.specs.declared.line.Kind.TheVariants as kind
use Rattle.sk_script.specs.declared.script.OptionLine.{OptionLine}
use Rattle.sk_script.specs.declared.script.Script.{Script}
use Rattle.sk_script.specs.declared.script.ScriptFault.{ScriptFault}
use Rattle.sk_script.specs.declared.script.ScriptLine.{ScriptLine}
use Rattle.sk_script.specs.declared.script.TableLine.{TableLine}
use Rattle.sk_script.specs.Body.{body, rest_of}
use Rattle.sk_script.specs.Header.{table_line}
use Rattle.sk_script.specs.Legible.{legible}
use Rattle.sk_script.specs.Options.{CanSet, option_line}
use Rattle.sk_script.specs.Rules.{AreBodies, AreHeaders, AreLines, IsAlone, IsGrammar, IsOpen, IsScript, Makes}
use Rattle.sk_script.specs.Script.{and_then, behind, by_kind, goes_on, gone_on, is_passed_over, kind_of, line_added, nothing, onto, option_added, passed, pieces, read_from, script_of, table_added, with_body, with_front, with_last, with_line, with_option, with_table, without_return}
use Rattle.sk_script.specs.Tables.{CanAdd}
use Rattle.sk_script.proofs.Cuts.{one_line, some_piece}
use Rattle.sk_script.proofs.LineRules.{Adds, line_adds, line_read}
use Rattle.sk_script.proofs.OptionRules.{set_to}
use Rattle.sk_script.proofs.Takings.{AreTaken, gone_parts, script_taken}

-- ---- lines

-- the lines that are read one after another
abbrev pub run : Script → ℕ → List Text → Result Script ScriptFault
run script n [] = Ok script
run script n (line ∷ lines) = gone_on n (with_line false script n line) (λ after. run after (n + 1) lines)

open_piece : (line : Text) → IsOpen line → pieces line ≡ line ∷ []
open_piece [] inside = refl
open_piece (b ∷ line) inside =
    let parts = and_parts (goes_on b) (list_all goes_on line) inside in
    rw (not-true (b == 10) parts.0) (ap (onto b) (open_piece line parts.1))

ended_piece : (line rest : Text) → IsOpen line → pieces (line ++ 10 ∷ rest) ≡ line ∷ pieces rest
ended_piece [] rest inside = refl
ended_piece (b ∷ line) rest inside =
    let parts = and_parts (goes_on b) (list_all goes_on line) inside in
    rw (not-true (b == 10) parts.0) (ap (onto b) (ended_piece line rest parts.1))

-- bytes are read as their lines are
pub lines_run : (bytes : Text) (lines : List Text) → AreLines bytes lines → (script : Script) (n : ℕ) → read_from false script n (pieces bytes) ≡ run script n lines
unfolding with_last
lines_run _ _ AreLines.none script n = refl
lines_run _ _ (AreLines.last b line inside) script n = ap (read_from false script n) (open_piece (b ∷ line) inside)
lines_run _ _ (AreLines.ended line rest lines inside more) script n =
    ap (read_from false script n) (ended_piece line rest inside)
    ∙ one_line false script n line rest
    ∙ by (with_line false script n (without_return line)) (λ after. lines_run rest lines more after (n + 1))
  where
    by : (r : Result Script ParseFault) → ((after : Script) → read_from false after (n + 1) (pieces rest) ≡ run after (n + 1) lines)
        → gone_on n r (λ after. read_from false after (n + 1) (pieces rest)) ≡ gone_on n r (λ after. run after (n + 1) lines)
    by (Ok after) ih = ih after
    by (Err f) ih = refl

one_more : (b : ℕ) → (b == 10) ≡ false → (bytes : Text) (lines : List Text) → AreLines bytes lines → (more : List Text) × AreLines (b ∷ bytes) more
one_more b is _ _ AreLines.none = ((b ∷ []) ∷ [], AreLines.last b [] (rw is refl))
one_more b is _ _ (AreLines.last c line inside) = ((b ∷ c ∷ line) ∷ [], AreLines.last b (c ∷ line) (rw is inside))
one_more b is _ _ (AreLines.ended line rest lines inside more) = (without_return (b ∷ line) ∷ lines, AreLines.ended (b ∷ line) rest lines (rw is inside) more)

-- all bytes are lines
pub some_lines : (bytes : Text) → (lines : List Text) × AreLines bytes lines
some_lines [] = ([], AreLines.none)
some_lines (b ∷ bytes) = by (b == 10) refl (some_lines bytes)
  where
    by : (t : Bool) → (b == 10) ≡ t → (lines : List Text) × AreLines bytes lines → (lines : List Text) × AreLines (b ∷ bytes) lines
    by true at rest =
        let ten : 10 ≡ b = sym (grind (arith, nat_tests)) in
        (without_return [] ∷ rest.0, subst (λ c. AreLines (c ∷ bytes) (without_return [] ∷ rest.0)) ten (AreLines.ended [] bytes rest.0 refl rest.1))
    by false at rest = one_more b at bytes rest.0 rest.1

-- ---- what is read stands by the rules

abbrev Said : Script → ℕ → List Text → Script → Type 0
Said script n lines last = (said : List ScriptLine) × AreBodies n lines said × (last.lines ≡ script.lines ++ said) × (last.tables ≡ script.tables) × (last.options ≡ script.options)

no_line : {A : Type 0} (xs : List A) (x : A) → ¬ (xs ++ x ∷ [] ≡ [])
no_line [] x is = absurd cc
no_line (y ∷ xs) x is = absurd cc

run_bodies : (lines : List Text) (script : Script) (n : ℕ) (last : Script) → ¬ (script.lines ≡ []) → run script n lines ≡ Ok last → Said script n lines last
run_bodies [] script n last some is =
    let same : script ≡ last = cc in
    ([], AreBodies.none n, ap (λ (s : Script). s.lines) (sym same) ∙ sym (append-nil script.lines), ap (λ (s : Script). s.tables) (sym same), ap (λ (s : Script). s.options) (sym same))
run_bodies (line ∷ lines) script n last some is =
    let step = gone_parts n (with_line false script n line) (λ after. run after (n + 1) lines) last is in
    by step.0 (line_adds script n line step.0 step.1) step.2 (λ after. run_bodies lines after (n + 1) last)
  where
    by : (after : Script) → Adds script n line after → run after (n + 1) lines ≡ Ok last → ((next : Script) → ¬ (next.lines ≡ []) → run next (n + 1) lines ≡ Ok last → Said next (n + 1) lines last)
        → Said script n (line ∷ lines) last
    by _ (Adds.over is) e ih = let rest = ih script some e in (rest.0, AreBodies.passed n line lines rest.0 is rest.1, rest.2, rest.3, rest.4)
    by _ (Adds.makes ws t first has made taken) e ih = absurd (some first)
    by _ (Adds.sets ws name k first has set may) e ih = absurd (some first)
    by _ (Adds.speaks ws what has made) e ih =
        let here : ScriptLine = record { line = n; what = what } in
        let rest = ih (line_added script n what) (no_line script.lines here) e in
        (here ∷ rest.0, AreBodies.body n line lines rest.0 ws what has made rest.1, rest.2 ∙ append_assoc script.lines (here ∷ []) rest.0, rest.3, rest.4)

record Runs (script : Script) (n : ℕ) (lines : List Text) (last : Script) : Type 0 where
  headers : List Text
  bodies : List Text
  tables : List TableLine
  options : List OptionLine
  said : List ScriptLine
  split : lines ≡ headers ++ bodies
  make : AreHeaders n headers tables options
  speak : AreBodies (n + length headers) bodies said
  all_tables : last.tables ≡ script.tables ++ tables
  all_options : last.options ≡ script.options ++ options
  all_lines : last.lines ≡ said

run_all : (lines : List Text) (script : Script) (n : ℕ) (last : Script) → script.lines ≡ [] → run script n lines ≡ Ok last → Runs script n lines last
run_all [] script n last first is =
    let same : script ≡ last = cc in
    record {
      headers = [];
      bodies = [];
      tables = [];
      options = [];
      said = [];
      split = refl;
      make = AreHeaders.none n;
      speak = AreBodies.none (n + 0);
      all_tables = ap (λ (s : Script). s.tables) (sym same) ∙ sym (append-nil script.tables);
      all_options = ap (λ (s : Script). s.options) (sym same) ∙ sym (append-nil script.options);
      all_lines = ap (λ (s : Script). s.lines) (sym same) ∙ first;
    }
run_all (line ∷ lines) script n last first is =
    let step = gone_parts n (with_line false script n line) (λ after. run after (n + 1) lines) last is in
    by step.0 (line_adds script n line step.0 step.1) step.2 (λ after. run_all lines after (n + 1) last)
  where
    further : (hs : List Text) → n + 1 + length hs ≡ n + suc (length hs)
    further hs = omega arith

    by : (after : Script) → Adds script n line after → run after (n + 1) lines ≡ Ok last → ((next : Script) → next.lines ≡ [] → run next (n + 1) lines ≡ Ok last → Runs next (n + 1) lines last)
        → Runs script n (line ∷ lines) last
    by _ (Adds.over is) e ih =
        let r = ih script first e in
        record {
          headers = line ∷ r.headers;
          bodies = r.bodies;
          tables = r.tables;
          options = r.options;
          said = r.said;
          split = ap (λ l. line ∷ l) r.split;
          make = AreHeaders.passed n line r.headers r.tables r.options is r.make;
          speak = subst (λ k. AreBodies k r.bodies r.said) (further r.headers) r.speak;
          all_tables = r.all_tables;
          all_options = r.all_options;
          all_lines = r.all_lines;
        }
    by _ (Adds.makes ws t _ has made taken) e ih =
        let here : TableLine = record { line = n; table = t } in
        let r = ih (table_added script n t) first e in
        record {
          headers = line ∷ r.headers;
          bodies = r.bodies;
          tables = here ∷ r.tables;
          options = r.options;
          said = r.said;
          split = ap (λ l. line ∷ l) r.split;
          make = AreHeaders.table n line r.headers r.tables r.options ws t has made r.make;
          speak = subst (λ k. AreBodies k r.bodies r.said) (further r.headers) r.speak;
          all_tables = r.all_tables ∙ append_assoc script.tables (here ∷ []) r.tables;
          all_options = r.all_options;
          all_lines = r.all_lines;
        }
    by _ (Adds.sets ws name k _ has set may) e ih =
        let here : OptionLine = set_to n name k in
        let r = ih (option_added script here) first e in
        record {
          headers = line ∷ r.headers;
          bodies = r.bodies;
          tables = r.tables;
          options = here ∷ r.options;
          said = r.said;
          split = ap (λ l. line ∷ l) r.split;
          make = AreHeaders.option n line r.headers r.tables r.options ws name k has set r.make;
          speak = subst (λ k. AreBodies k r.bodies r.said) (further r.headers) r.speak;
          all_tables = r.all_tables;
          all_options = r.all_options ∙ append_assoc script.options (here ∷ []) r.options;
          all_lines = r.all_lines;
        }
    by _ (Adds.speaks ws what has made) e ih =
        let here : ScriptLine = record { line = n; what = what } in
        let rest = run_bodies lines (line_added script n what) (n + 1) last (no_line script.lines here) e in
        let start : n ≡ n + 0 = omega arith in
        record {
          headers = [];
          bodies = line ∷ lines;
          tables = [];
          options = [];
          said = here ∷ rest.0;
          split = refl;
          make = AreHeaders.none n;
          speak = subst (λ k. AreBodies k (line ∷ lines) (here ∷ rest.0)) start (AreBodies.body n line lines rest.0 ws what has made rest.1);
          all_tables = rest.3 ∙ sym (append-nil script.tables);
          all_options = rest.4 ∙ sym (append-nil script.options);
          all_lines = rest.2 ∙ append_assoc script.lines (here ∷ []) rest.0 ∙ ap (λ l. l ++ here ∷ rest.0) first;
        }

-- ---- what stands by the rules is read

abbrev script_with : List TableLine → List OptionLine → List ScriptLine → Script
script_with ts os ls = record { tables = ts; options = os; lines = ls }

pub bodies_run : (n : ℕ) (lines : List Text) (said : List ScriptLine) → AreBodies n lines said → (ts : List TableLine) (os : List OptionLine) (before : List ScriptLine)
    → run (script_with ts os before) n lines ≡ Ok (script_with ts os (before ++ said))
bodies_run _ _ _ (AreBodies.none n) ts os before = ap (λ l. Ok (script_with ts os l)) (sym (append-nil before))
bodies_run _ _ _ (AreBodies.passed n line lines said is more) ts os before =
    let script : Script = script_with ts os before in
    ap (λ r. gone_on n r (λ after. run after (n + 1) lines)) (line_read script n line script (Adds.over is)) ∙ bodies_run (n + 1) lines said more ts os before
bodies_run _ _ _ (AreBodies.body n line lines said ws what has made more) ts os before =
    let script : Script = script_with ts os before in
    let here : ScriptLine = record { line = n; what = what } in
    ap (λ r. gone_on n r (λ after. run after (n + 1) lines)) (line_read script n line (line_added script n what) (Adds.speaks ws what has made))
    ∙ bodies_run (n + 1) lines said more ts os (before ++ here ∷ [])
    ∙ ap (λ l. Ok (script_with ts os l)) (append_assoc before (here ∷ []) said)

abbrev tables_of : List TableLine → List Table
tables_of = map (λ l. l.table)

pub headers_run : (n : ℕ) (lines : List Text) (tables : List TableLine) (options : List OptionLine) → AreHeaders n lines tables options
    → (before : List TableLine) (set : List OptionLine) (bodies : List Text) → CanAdd (tables_of before) (tables_of tables) → CanSet set options
    → run (script_with before set []) n (lines ++ bodies) ≡ run (script_with (before ++ tables) (set ++ options) []) (n + length lines) bodies
headers_run _ _ _ _ (AreHeaders.none n) before set bodies taken may =
    let none : n ≡ n + 0 = omega arith in
    ap (λ k. run (script_with before set []) k bodies) none
    ∙ ap (λ l. run (script_with l set []) (n + 0) bodies) (sym (append-nil before))
    ∙ ap (λ l. run (script_with (before ++ []) l []) (n + 0) bodies) (sym (append-nil set))
headers_run _ _ _ _ (AreHeaders.passed n line lines tables options is more) before set bodies taken may =
    let script : Script = script_with before set [] in
    let further : n + 1 + length lines ≡ n + suc (length lines) = omega arith in
    ap (λ r. gone_on n r (λ after. run after (n + 1) (lines ++ bodies))) (line_read script n line script (Adds.over is))
    ∙ headers_run (n + 1) lines tables options more before set bodies taken may
    ∙ ap (λ k. run (script_with (before ++ tables) (set ++ options) []) k bodies) further
headers_run _ _ _ _ (AreHeaders.table n line lines tables options ws t has made more) before set bodies taken may =
    let script : Script = script_with before set [] in
    let here : TableLine = record { line = n; table = t } in
    let further : n + 1 + length lines ≡ n + suc (length lines) = omega arith in
    let later : CanAdd (tables_of (before ++ here ∷ [])) (tables_of tables) =
    subst (λ l. CanAdd l (tables_of tables)) (sym (map-append (λ (l : TableLine). l.table) before (here ∷ []))) taken.1 in
    ap (λ r. gone_on n r (λ after. run after (n + 1) (lines ++ bodies))) (line_read script n line (table_added script n t) (Adds.makes ws t refl has made taken.0))
    ∙ headers_run (n + 1) lines tables options more (before ++ here ∷ []) set bodies later may
    ∙ ap (λ k. run (script_with ((before ++ here ∷ []) ++ tables) (set ++ options) []) k bodies) further
    ∙ ap (λ l. run (script_with l (set ++ options) []) (n + suc (length lines)) bodies) (append_assoc before (here ∷ []) tables)
headers_run _ _ _ _ (AreHeaders.option n line lines tables options ws name k has is more) before set bodies taken may =
    let script : Script = script_with before set [] in
    let here : OptionLine = set_to n name k in
    let further : n + 1 + length lines ≡ n + suc (length lines) = omega arith in
    ap (λ r. gone_on n r (λ after. run after (n + 1) (lines ++ bodies))) (line_read script n line (option_added script here) (Adds.sets ws name k refl has is may.0))
    ∙ headers_run (n + 1) lines tables options more before (set ++ here ∷ []) bodies taken may.1
    ∙ ap (λ k. run (script_with (before ++ tables) ((set ++ here ∷ []) ++ options) []) k bodies) further
    ∙ ap (λ l. run (script_with (before ++ tables) l []) (n + suc (length lines)) bodies) (append_assoc set (here ∷ []) options)

-- ---- bytes that are too many

never_by : (front : Legible) → front.spoilt ≡ true → {A : Type 0} (r : Result A ParseFault) (f : A → Script) (last : Script) → ¬ (and_then r (λ x. and_then (behind front) (λ _. Ok (f x))) ≡ Ok last)
never_by front spoilt (Ok x) f last is =
    let e : Err (parse.Unexpected (front.end + 1)) ≡ Ok last = sym (ap (λ b. and_then (cond b (Err (parse.Unexpected (front.end + 1))) (Ok tt)) (λ _. Ok (f x))) spoilt) ∙ is in
    absurd cc
never_by front spoilt (Err w) f last is = absurd cc

long_line : (script : Script) (n : ℕ) (line : Text) (last : Script) → ¬ (with_line true script n line ≡ Ok last)
unfolding with_line passed with_table with_option with_body legible
long_line script n line last is = by (is_passed_over line) is
  where
    front : Legible
    front = legible true line

    on : (k : Kind) → ¬ (by_kind k script n front ≡ Ok last)
    on kind.Table e = never_by front refl (table_line script.tables front.tokens front.end) (λ t. table_added script n t) last e
    on kind.Option e = never_by front refl (option_line script.options n (rest_of front.tokens) front.end) (λ o. option_added script o) last e
    on kind.Body e = never_by front refl (body front.tokens front.end) (λ what. line_added script n what) last e

    by : (b : Bool) → ¬ (cond b (passed true script line) (with_front script n front) ≡ Ok last)
    by true e = absurd cc
    by false e = on (kind_of script.lines front.tokens) e

long_read : (ps : List Text) (p : Text) (script : Script) (n : ℕ) (last : Script) → ¬ (read_from true script n (p ∷ ps) ≡ Ok last)
unfolding with_last
long_read [] p script n last is = by p is
  where
    by : (q : Text) → ¬ (with_last true script n q ≡ Ok last)
    by [] e = let parts = gone_parts n (with_line true script n []) (λ after. Ok after) last e in long_line script n [] parts.0 parts.1
    by (b ∷ q) e = let parts = gone_parts n (with_line true script n (b ∷ q)) (λ after. Ok after) last e in long_line script n (b ∷ q) parts.0 parts.1
long_read (q ∷ ps) p script n last is =
    let parts = gone_parts n (with_line false script n (without_return p)) (λ after. read_from true after (n + 1) (q ∷ ps)) last is in
    long_read ps q parts.0 (n + 1) last parts.2

-- ---- both ways

take_short : (n : ℕ) (bytes : Text) → length bytes ≤ n → take n bytes ≡ bytes
take_short zero [] le = refl
take_short zero (b ∷ bytes) le = absurd (omega arith)
take_short (suc n) [] le = refl
take_short (suc n) (b ∷ bytes) le = ap (λ l. b ∷ l) (take_short n bytes (omega arith))

pub short_script : (bytes : Text) (lines : List Text) → length bytes ≤ 16777216 → AreLines bytes lines → script_of bytes ≡ run nothing 1 lines
unfolding script_of
short_script bytes lines short are =
    ap (λ b. read_from b nothing 1 (pieces (take 16777216 bytes))) (le-ltb 16777216 (length bytes) short)
    ∙ ap (λ z. read_from false nothing 1 (pieces z)) (take_short 16777216 bytes short)
    ∙ lines_run bytes lines are nothing 1

not_long : (bytes : Text) (script : Script) → script_of bytes ≡ Ok script → length bytes ≤ 16777216
unfolding script_of
not_long bytes script is = by (nat_lt 16777216 (length bytes)) refl is
  where
    by : (b : Bool) → nat_lt 16777216 (length bytes) ≡ b → read_from b nothing 1 (pieces (take 16777216 bytes)) ≡ Ok script → length bytes ≤ 16777216
    by true at e =
        let some = some_piece (take 16777216 bytes) in
        absurd (long_read some.1 some.0 nothing 1 script (ap (read_from true nothing 1) (sym some.2) ∙ e))
    by false at e = ltb-false 16777216 (length bytes) at

-- lines that were read make the script
pub run_makes : (lines : List Text) (script : Script) → run nothing 1 lines ≡ Ok script → AreTaken script → Makes lines script
run_makes lines script is taken =
    let r = run_all lines nothing 1 script refl is in
    record {
      headers = r.headers;
      bodies = r.bodies;
      split = r.split;
      made = subst (λ os. AreHeaders 1 r.headers script.tables os) (sym r.all_options) (subst (λ ts. AreHeaders 1 r.headers ts r.options) (sym r.all_tables) r.make);
      taken = taken.tables;
      set = taken.options;
      said = subst (AreBodies (1 + length r.headers) r.bodies) (sym r.all_lines) r.speak;
    }

pub script_stands : (bytes : Text) (script : Script) → script_of bytes ≡ Ok script → IsScript bytes script
script_stands bytes script is =
    let short = not_long bytes script is in
    let lines = some_lines bytes in
    record {
      short = short;
      lines = lines.0;
      cut = lines.1;
      made = run_makes lines.0 script (sym (short_script bytes lines.0 short lines.1) ∙ is) (script_taken bytes script is);
    }

-- lines that make a script are read as it
pub makes_run : (lines : List Text) (script : Script) → Makes lines script → run nothing 1 lines ≡ Ok script
makes_run lines script made =
    ap (run nothing 1) made.split
    ∙ headers_run 1 made.headers script.tables script.options made.made [] [] made.bodies made.taken made.set
    ∙ bodies_run (1 + length made.headers) made.bodies script.lines made.said script.tables script.options []

pub script_read : (bytes : Text) (script : Script) → IsScript bytes script → script_of bytes ≡ Ok script
script_read bytes script is = short_script bytes is.lines is.short is.cut ∙ makes_run is.lines script is.made

pub grammar : IsGrammar
grammar bytes script = (script_read bytes script, script_stands bytes script)

pub alone : IsAlone
alone bytes s t is_s is_t =
    let same : Ok s ≡ Ok t = sym (script_read bytes s is_s) ∙ script_read bytes t is_t in
    cc
