-- One line: it is read exactly where the rules make something of it.
use Rattle.std.proofs.Common.{◌≡◌, ◌==◌, ℕ, ◌+◌, ◌≤◌, Bool, true, false, cond, ◌||◌, List, [], ◌∷◌, length, map, Option, Some, None, refl, sym, ap, subst, ◌∙◌, arith}
use Rattle.std.specs.Prelude.{nat_lt, is_some, Result, Ok, Err}
use Rattle.std.specs.List.{list_all, prefix_len}
use Rattle.std.proofs.lemmas.Bool.{and_parts, le-ltb, ltb-false, ltb-true, or_parts}
use Rattle.std.proofs.lemmas.Bool.Decides.{nat_tests}
use Rattle.sk_lex.specs.declared.scanning.ScanFault.TheVariants as scan_fault
use Rattle.sk_lex.specs.declared.token.Keyword.TheVariants as key
use Rattle.sk_lex.specs.declared.token.LexFault.{LexFault}
use Rattle.sk_lex.specs.declared.token.Token.{Token}
use Rattle.sk_lex.specs.declared.token.Word.{Word}
use Rattle.sk_lex.specs.declared.token.Word.TheVariants as word
use Rattle.sk_lex.specs.Front.{Text, begins, front, is_pair, is_single, mark_at}
use Rattle.sk_lex.specs.Scanning.{Scan, begun, scan, scan_from, scan_on, tokens, tokens_by}
use Rattle.sk_lex.proofs.Begun.{all_of_line}
use Rattle.sk_lex.proofs.Printable.{tokens_printable}
use Rattle.sk_rows.specs.declared.table.Table.{Table}
use Rattle.sk_rows.specs.Catalog.{add_fault}
use Rattle.sk_rows.specs.Text.{are_printable, is_printable}
use Rattle.sk_parse.specs.declared.fault.ParseFault.{ParseFault}
use Rattle.sk_parse.specs.declared.fault.ParseFault.TheVariants as parse
use Rattle.sk_parse.specs.Input.{next}
use Rattle.sk_parse.specs.Places.{words}
use Rattle.sk_script.specs.declared.legible.Legible.{Legible}
use Rattle.sk_script.specs.declared.line.Kind.{Kind}
use Rattle.sk_script.specs.declared.line.Kind.TheVariants as kind
use Rattle.sk_script.specs.declared.script.Line.{Line}
use Rattle.sk_script.specs.declared.script.OptionLine.{OptionLine}
use Rattle.sk_script.specs.declared.script.Script.{Script}
use Rattle.sk_script.specs.declared.script.ScriptLine.{ScriptLine}
use Rattle.sk_script.specs.Body.{body, rest_of}
use Rattle.sk_script.specs.Header.{answer, table, table_line}
use Rattle.sk_script.specs.Legible.{capped, front_by, legible}
use Rattle.sk_script.specs.Options.{MaySet, option_line}
use Rattle.sk_script.specs.Rules.{HasWords, IsBody, IsPassed, IsSet, IsTable}
use Rattle.sk_script.specs.Script.{and_then, behind, by_kind, good_len, is_passed_over, kind_by, kind_of, line_added, option_added, passed, table_added, with_body, with_front, with_line, with_option, with_table}
use Rattle.sk_script.proofs.BodyRules.{body_read, body_words}
use Rattle.sk_script.proofs.NewTables.{answered, line_taken}
use Rattle.sk_script.proofs.OptionRules.{IsSetting, option_read, option_words, set_to}
use Rattle.sk_script.proofs.TableRules.{table_read, table_words}
use Rattle.sk_script.proofs.Takings.{then_parts}

-- what the line of this number adds to a script
pub data Adds (script : Script) (n : ℕ) (line : Text) : Script → Type 0 where
  over : IsPassed line → Adds script n line script
  makes : (ws : List Word) (t : Table) → script.lines ≡ [] → HasWords line ws → IsTable ws t → add_fault (map (λ l. l.table) script.tables) t ≡ None → Adds script n line (table_added script n t)
  sets : (ws : List Word) (name : Text) (k : ℕ) → script.lines ≡ [] → HasWords line ws → IsSet ws name k → MaySet script.options name k → Adds script n line (option_added script (set_to n name k))
  speaks : (ws : List Word) (what : Line) → HasWords line ws → IsBody ws what → Adds script n line (line_added script n what)

-- ---- lines that are passed over

capped_least : (n : ℕ) → (capped n ≤ n) × (capped n ≤ 4096)
capped_least n = by (nat_lt n 4096) refl
  where
    by : (b : Bool) → nat_lt n 4096 ≡ b → (cond b n 4096 ≤ n) × (cond b n 4096 ≤ 4096)
    by true is = let less = ltb-true n 4096 is in (omega arith, omega arith)
    by false is = let least = ltb-false n 4096 is in (omega arith, omega arith)

capped_is : (n : ℕ) → n ≤ 4096 → capped n ≡ n
capped_is n short = by (nat_lt n 4096) refl
  where
    by : (b : Bool) → nat_lt n 4096 ≡ b → cond b n 4096 ≡ n
    by true is = refl
    by false is = let least = ltb-false n 4096 is in omega arith

all_printable : (z : Text) → length z ≤ prefix_len is_printable z → list_all is_printable z ≡ true
all_printable [] le = refl
all_printable (b ∷ z) le = by (is_printable b) refl (all_printable z)
  where
    by : (t : Bool) → is_printable b ≡ t → (length z ≤ prefix_len is_printable z → list_all is_printable z ≡ true) → list_all is_printable (b ∷ z) ≡ true
    by true is ih = let more : length z ≤ prefix_len is_printable z = (let l = rw is at le in omega arith) in rw (is, ih more) refl
    by false is ih = let l = rw is at le in absurd (omega arith)

printable_len : (z : Text) → list_all is_printable z ≡ true → prefix_len is_printable z ≡ length z
printable_len [] all = refl
printable_len (b ∷ z) all =
    let parts = and_parts (is_printable b) (list_all is_printable z) all in
    let more = printable_len z parts.1 in
    rw parts.0 (omega arith)

kept_or : (bad : Bool) (f : ParseFault) (script after : Script) → cond bad (Err f) (Ok script) ≡ Ok after → (bad ≡ false) × (script ≡ after)
kept_or true f script after is = absurd cc
kept_or false f script after is = (refl, cc)

passed_words : (script : Script) (n : ℕ) (line : Text) (after : Script) → is_passed_over line ≡ true → passed false script line ≡ Ok after → Adds script n line after
unfolding passed are_printable
passed_words script n line after empty is =
    let good = kept_or (nat_lt (good_len line) (length line)) (parse.Unexpected (good_len line + 1)) script after is in
    let long = ltb-false (good_len line) (length line) good.0 in
    let least = capped_least (prefix_len is_printable line) in
    let short : length line ≤ 4096 = omega (arith, least.1) in
    let all : length line ≤ prefix_len is_printable line = omega (arith, least.0) in
    subst (Adds script n line) good.1 (Adds.over (record { short = short; empty = empty; printable = all_printable line all }))

passed_read : (script : Script) (line : Text) → IsPassed line → passed false script line ≡ Ok script
unfolding passed are_printable
passed_read script line is =
    let all : good_len line ≡ length line = ap capped (printable_len line is.printable) ∙ capped_is (length line) is.short in
    let none : nat_lt (good_len line) (length line) ≡ false = ap (λ k. nat_lt k (length line)) all ∙ le-ltb (length line) (length line) (omega arith) in
    ap (λ b. cond b (Err (parse.Unexpected (good_len line + 1))) (Ok script)) none

-- such a line has no token
passed_scan : (z : Text) (found : List Token) (at : ℕ) → is_passed_over z ≡ true → (scan_from found 0 at z).0 ≡ found
unfolding front begins mark_at is_pair is_single
passed_scan [] found at is = refl
passed_scan (b ∷ z) found at is = by (b == 32) refl is (passed_scan z found (at + 1))
  where
    more : List Token → ℕ → Scan
    more longer left = scan_from longer left (at + 1) z

    at_comment : b ≡ 35 → (scan_on found at more (front (b ∷ z))).0 ≡ found
    at_comment same = subst (λ c. (scan_on found at more (front (c ∷ z))).0 ≡ found) (sym same) refl

    by : (t : Bool) → (b == 32) ≡ t → cond t (is_passed_over z) (b == 35) ≡ true → (is_passed_over z ≡ true → (scan_from found 0 (at + 1) z).0 ≡ found)
        → (cond t (scan_from found 0 (at + 1) z) (scan_on found at more (front (b ∷ z)))).0 ≡ found
    by true at_space e ih = ih e
    by false at_space e ih = at_comment (grind (arith, nat_tests))

-- ---- lines of words

abbrev tokens_or : List Token → Result (List Token) LexFault → List Token
tokens_or d (Ok ts) = ts
tokens_or d (Err f) = d

scan_is : (s : Scan) (ts : List Token) → tokens_by s.0 s.1 ≡ Ok ts → s ≡ (ts, None)
scan_is (found, None) ts is = ap (λ r. (tokens_or [] r, None)) is
scan_is (found, Some (scan_fault.BadByte from place)) ts is = absurd cc
scan_is (found, Some (scan_fault.OpenText place)) ts is = absurd cc

line_scan : (line : Text) (ts : List Token) → tokens line ≡ Ok ts → scan line ≡ (ts, None)
unfolding tokens
line_scan line ts is = scan_is (scan line) ts is

not_passed : (line : Text) (ts : List Token) (w : Word) (ws : List Word) → tokens line ≡ Ok ts → words ts ≡ w ∷ ws → is_passed_over line ≡ false
unfolding scan
not_passed line ts w ws cut is = by (is_passed_over line) refl
  where
    by : (b : Bool) → is_passed_over line ≡ b → b ≡ false
    by true at =
        let none : ts ≡ [] = sym (ap (λ (s : Scan). s.0) (line_scan line ts cut)) ∙ passed_scan line [] 0 at in
        let bad : [] ≡ w ∷ ws = sym (ap words none) ∙ is in
        absurd cc
    by false at = refl

abbrev plain : List Token → Text → Legible
plain ts line = record { tokens = ts; end = length line; spoilt = false }

-- such a line is read to its end
legible_plain : (line : Text) (ts : List Token) → length line ≤ 4096 → tokens line ≡ Ok ts → legible false line ≡ plain ts line
unfolding legible
legible_plain line ts short cut =
    let all : begun 4096 (scan line) ≡ (ts, None) = all_of_line 4096 line short ∙ line_scan line ts cut in
    ap (front_by false line) all
    ∙ ap (λ e. record { tokens = ts; end = e; spoilt = nat_lt 4096 (length line) || false }) (capped_is (length line) short)
    ∙ ap (λ b. record { tokens = ts; end = length line; spoilt = b || false }) (le-ltb 4096 (length line) short)

none_of : {A : Type 0} (o : Option A) → is_some o ≡ false → o ≡ None
none_of None is = refl
none_of (Some a) is = absurd cc

record IsWhole (line : Text) : Type 0 where
  short : length line ≤ 4096
  found : List Token
  cut : tokens line ≡ Ok found

unspoilt : (line : Text) → (legible false line).spoilt ≡ false → IsWhole line
unfolding legible tokens
unspoilt line is =
    let parts = or_parts (nat_lt 4096 (length line)) (is_some (begun 4096 (scan line)).1) is in
    let short = ltb-false 4096 (length line) parts.0 in
    let none : (scan line).1 ≡ None = sym (ap (λ (s : Scan). s.1) (all_of_line 4096 line short)) ∙ none_of (begun 4096 (scan line)).1 parts.1 in
    record { short = short; found = (scan line).0; cut = ap (tokens_by (scan line).0) none }

behind_ok : (front : Legible) (u : Unit {0}) → behind front ≡ Ok u → front.spoilt ≡ false
behind_ok front u is = by front.spoilt refl is
  where
    by : (b : Bool) → front.spoilt ≡ b → cond b (Err (parse.Unexpected (front.end + 1))) (Ok tt) ≡ Ok u → b ≡ false
    by true at e = absurd cc
    by false at e = refl

table_key : (w : Word) → kind_by w ≡ kind.Table → w ≡ word.Key key.Table
table_key (word.Key key.Table) is = refl
table_key _ is = absurd cc

set_key : (w : Word) → kind_by w ≡ kind.Option → w ≡ word.Key key.Set
set_key (word.Key key.Set) is = refl
set_key _ is = absurd cc

-- no line that says something stands before these tokens, of which this is the first word
pub record Begins (lines : List ScriptLine) (ts : List Token) (w : Word) : Type 0 where
  pub first : lines ≡ []
  pub begins : words ts ≡ w ∷ next (words ts)

pub table_begins : (lines : List ScriptLine) (ts : List Token) → kind_of lines ts ≡ kind.Table → Begins lines ts (word.Key key.Table)
table_begins [] (t ∷ ts) is = record { first = refl; begins = ap (λ w. w ∷ words ts) (table_key t.word is) }
table_begins [] [] is = absurd cc
table_begins (l ∷ ls) ts is = absurd cc

pub set_begins : (lines : List ScriptLine) (ts : List Token) → kind_of lines ts ≡ kind.Option → Begins lines ts (word.Key key.Set)
set_begins [] (t ∷ ts) is = record { first = refl; begins = ap (λ w. w ∷ words ts) (set_key t.word is) }
set_begins [] [] is = absurd cc
set_begins (l ∷ ls) ts is = absurd cc

pub table_of : (script : Script) (end : ℕ) (ts : List Token) (t : Table) → Begins script.lines ts (word.Key key.Table) → table_line script.tables ts end ≡ Ok t → IsTable (words ts) t
unfolding table_line
table_of script end ts t header is =
    let found = answered ts end (table script.tables (next (words ts))) t is in
    let same : table script.tables (next (words ts)) ≡ Ok (t, found.0.1) = found.1 ∙ ap (λ x. Ok (x, found.0.1)) found.2 in
    let made = table_words script.tables (next (words ts)) found.0.1 t same in
    (made.0, header.begins ∙ ap (λ l. word.Key key.Table ∷ l) made.1, made.2)

rest_words : (ts : List Token) → words (rest_of ts) ≡ next (words ts)
rest_words [] = refl
rest_words (t ∷ ts) = refl

pub set_of : (lines : List ScriptLine) (options : List OptionLine) (n : ℕ) (ts : List Token) (o : OptionLine) → Begins lines ts (word.Key key.Set) → (is : IsSetting options n (rest_of ts) o) → IsSet (words ts) is.name is.k
set_of lines options n ts o begins is = begins.begins ∙ ap (λ l. word.Key key.Set ∷ l) (sym (rest_words ts) ∙ is.words)

-- ---- both ways

front_words : (k : Kind) (script : Script) (n : ℕ) (line : Text) (after : Script) → kind_of script.lines (legible false line).tokens ≡ k → by_kind k script n (legible false line) ≡ Ok after → Adds script n line after
unfolding with_table with_option with_body
front_words kind.Table script n line after header e =
    let front = legible false line in
    let t = then_parts (table_line script.tables front.tokens front.end) (λ t. and_then (behind front) (λ _. Ok (table_added script n t))) after e in
    let rest = then_parts (behind front) (λ (_ : Unit {0}). Ok (table_added script n t.0)) after t.2 in
    let whole = unspoilt line (behind_ok front rest.0 rest.1) in
    let same : table_added script n t.0 ≡ after = cc rest.2 in
    let is = legible_plain line whole.found whole.short whole.cut in
    let begins = table_begins script.lines whole.found (ap (λ (f : Legible). kind_of script.lines f.tokens) (sym is) ∙ header) in
    let made = ap (λ (f : Legible). table_line script.tables f.tokens f.end) (sym is) ∙ t.1 in
    let has : HasWords line (words whole.found) = record { short = whole.short; printable = tokens_printable line whole.found whole.cut; found = whole.found; cut = whole.cut; words = refl } in
    subst (Adds script n line) same
    (Adds.makes (words whole.found) t.0 begins.first has (table_of script (length line) whole.found t.0 begins made) (line_taken script.tables whole.found (length line) t.0 made))
front_words kind.Option script n line after header e =
    let front = legible false line in
    let o = then_parts (option_line script.options n (rest_of front.tokens) front.end) (λ o. and_then (behind front) (λ _. Ok (option_added script o))) after e in
    let rest = then_parts (behind front) (λ (_ : Unit {0}). Ok (option_added script o.0)) after o.2 in
    let whole = unspoilt line (behind_ok front rest.0 rest.1) in
    let same : option_added script o.0 ≡ after = cc rest.2 in
    let is = legible_plain line whole.found whole.short whole.cut in
    let begins = set_begins script.lines whole.found (ap (λ (f : Legible). kind_of script.lines f.tokens) (sym is) ∙ header) in
    let made = ap (λ (f : Legible). option_line script.options n (rest_of f.tokens) f.end) (sym is) ∙ o.1 in
    let has : HasWords line (words whole.found) = record { short = whole.short; printable = tokens_printable line whole.found whole.cut; found = whole.found; cut = whole.cut; words = refl } in
    let setting = option_words script.options n (rest_of whole.found) (length line) o.0 made in
    subst (Adds script n line) (ap (option_added script) setting.is ∙ same)
    (Adds.sets (words whole.found) setting.name setting.k begins.first has (set_of script.lines script.options n whole.found o.0 begins setting) setting.may)
front_words kind.Body script n line after header e =
    let front = legible false line in
    let what = then_parts (body front.tokens front.end) (λ what. and_then (behind front) (λ _. Ok (line_added script n what))) after e in
    let rest = then_parts (behind front) (λ (_ : Unit {0}). Ok (line_added script n what.0)) after what.2 in
    let whole = unspoilt line (behind_ok front rest.0 rest.1) in
    let same : line_added script n what.0 ≡ after = cc rest.2 in
    let is = legible_plain line whole.found whole.short whole.cut in
    let made = ap (λ (f : Legible). body f.tokens f.end) (sym is) ∙ what.1 in
    let has : HasWords line (words whole.found) = record { short = whole.short; printable = tokens_printable line whole.found whole.cut; found = whole.found; cut = whole.cut; words = refl } in
    subst (Adds script n line) same (Adds.speaks (words whole.found) what.0 has (body_words whole.found (length line) what.0 made))

pub line_adds : (script : Script) (n : ℕ) (line : Text) (after : Script) → with_line false script n line ≡ Ok after → Adds script n line after
unfolding with_line
line_adds script n line after is = by (is_passed_over line) refl is
  where
    by : (b : Bool) → is_passed_over line ≡ b → cond b (passed false script line) (with_front script n (legible false line)) ≡ Ok after → Adds script n line after
    by true empty e = passed_words script n line after empty e
    by false empty e = front_words (kind_of script.lines (legible false line).tokens) script n line after refl e

with_words : (script : Script) (n : ℕ) (line : Text) (w : Word) (ws : List Word) → (has : HasWords line (w ∷ ws)) → with_line false script n line ≡ with_front script n (plain has.found line)
unfolding with_line
with_words script n line w ws has =
    ap (λ b. cond b (passed false script line) (with_front script n (legible false line))) (not_passed line has.found w ws has.cut has.words)
    ∙ ap (with_front script n) (legible_plain line has.found has.short has.cut)

pub kind_is : (lines : List ScriptLine) (ts : List Token) (w : Word) (ws : List Word) → lines ≡ [] → words ts ≡ w ∷ ws → kind_of lines ts ≡ kind_by w
kind_is [] (t ∷ ts) w ws none is = let head : t.word ≡ w = cc in ap kind_by head
kind_is [] [] w ws none is = absurd cc
kind_is (l ∷ ls) ts w ws none is = absurd cc

-- the first of these words makes no table and sets no option
pub record Opens (ws : List Word) : Type 0 where
  pub first : Word
  pub rest : List Word
  pub cut : ws ≡ first ∷ rest
  pub is : kind_by first ≡ kind.Body

pub body_opens : (ws : List Word) (what : Line) → IsBody ws what → Opens ws
body_opens _ _ (IsBody.plain n us what session says) = record { first = word.Number n; rest = _; cut = refl; is = refl }
body_opens _ _ (IsBody.closed n us what session says) = record { first = word.Number n; rest = _; cut = refl; is = refl }
body_opens _ _ IsBody.flush = record { first = word.Key key.Flush; rest = []; cut = refl; is = refl }
body_opens _ _ IsBody.stop = record { first = word.Key key.Stop; rest = []; cut = refl; is = refl }

pub is_body : (lines : List ScriptLine) (ts : List Token) (ws : List Word) → words ts ≡ ws → Opens ws → kind_of lines ts ≡ kind.Body
is_body [] (t ∷ ts) ws is opens = let head : t.word ≡ opens.first = (let all = is ∙ opens.cut in cc) in ap kind_by head ∙ opens.is
is_body [] [] ws is opens = refl
is_body (l ∷ ls) ts ws is opens = refl

pub table_line_read : (script : Script) (ts : List Token) (end : ℕ) (ws : List Word) (t : Table) → words ts ≡ ws → IsTable ws t → add_fault (map (λ l. l.table) script.tables) t ≡ None
    → table_line script.tables ts end ≡ Ok t
unfolding table_line
table_line_read script ts end ws t is made taken =
    ap (λ l. answer ts end (table script.tables (next l))) (is ∙ made.1)
    ∙ ap (answer ts end) (table_read script.tables (next (word.Key key.Table ∷ word.Name t.name ∷ _ ∷ made.0)) t (made.0, refl, made.2) taken)

pub set_line_read : (options : List OptionLine) (n : ℕ) (ts : List Token) (end : ℕ) (ws : List Word) (name : Text) (k : ℕ) → words ts ≡ ws → IsSet ws name k → MaySet options name k
    → option_line options n (rest_of ts) end ≡ Ok (set_to n name k)
set_line_read options n ts end ws name k is set may = option_read options n (rest_of ts) end name k (rest_words ts ∙ ap next (is ∙ set)) may

pub line_read : (script : Script) (n : ℕ) (line : Text) (after : Script) → Adds script n line after → with_line false script n line ≡ Ok after
unfolding with_line with_table with_option with_body
line_read script n line _ (Adds.over is) =
    ap (λ b. cond b (passed false script line) (with_front script n (legible false line))) is.empty ∙ passed_read script line is
line_read script n line _ (Adds.makes ws t first has made taken) =
    let has_words : HasWords line (word.Key key.Table ∷ _ ∷ _ ∷ made.0) = subst (HasWords line) made.1 has in
    let front = plain has_words.found line in
    with_words script n line _ _ has_words
    ∙ ap (λ k. by_kind k script n front) (kind_is script.lines has_words.found (word.Key key.Table) _ first has_words.words)
    ∙ ap (λ r. and_then r (λ t. and_then (behind front) (λ _. Ok (table_added script n t)))) (table_line_read script has_words.found (length line) _ t has_words.words (made.0, refl, made.2) taken)
line_read script n line _ (Adds.sets ws name k first has set may) =
    let has_words : HasWords line (word.Key key.Set ∷ word.Name name ∷ word.Number k ∷ []) = subst (HasWords line) set has in
    let front = plain has_words.found line in
    with_words script n line _ _ has_words
    ∙ ap (λ k. by_kind k script n front) (kind_is script.lines has_words.found (word.Key key.Set) _ first has_words.words)
    ∙ ap (λ r. and_then r (λ o. and_then (behind front) (λ _. Ok (option_added script o)))) (set_line_read script.options n has_words.found (length line) _ name k has_words.words refl may)
line_read script n line _ (Adds.speaks ws what has made) =
    let opens = body_opens ws what made in
    let has_words : HasWords line (opens.first ∷ opens.rest) = subst (HasWords line) opens.cut has in
    let front = plain has_words.found line in
    with_words script n line opens.first opens.rest has_words
    ∙ ap (λ k. by_kind k script n front) (is_body script.lines has_words.found _ has_words.words (record { first = opens.first; rest = opens.rest; cut = refl; is = opens.is }))
    ∙ ap (λ r. and_then r (λ what. and_then (behind front) (λ _. Ok (line_added script n what)))) (body_read ws what made has_words.found (length line) (has_words.words ∙ sym opens.cut))
