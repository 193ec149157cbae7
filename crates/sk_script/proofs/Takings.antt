-- The tables of a script are such as a catalog takes, one after another, and each option that it sets may be set.
use Rattle.std.proofs.Common.{◌≡◌, ℕ, ◌+◌, Bool, true, false, cond, not, ◌&&◌, List, [], ◌∷◌, ◌++◌, append-nil, append_assoc, map, take, None, Result, Ok, Err, refl, sym, subst}
use Rattle.std.specs.Prelude.{IfOk}
use Rattle.std.proofs.lemmas.List.{map-append}
use Rattle.sk_lex.specs.Front.{Text}
use Rattle.sk_rows.specs.declared.table.Table.{Table}
use Rattle.sk_rows.specs.Catalog.{add_fault}
use Rattle.sk_parse.specs.declared.fault.ParseFault.{ParseFault}
use Rattle.sk_script.specs.declared.legible.Legible.{Legible}
use Rattle.sk_rows.specs.Memory.{Gives}
use Rattle.sk_script.specs.declared.line.Kind.{Kind}
use Rattle.sk_script.specs.declared.line.Kind.TheVariants as kind
use Rattle.sk_script.specs.declared.script.OptionLine.{OptionLine}
use Rattle.sk_script.specs.declared.script.Script.{Script}
use Rattle.sk_script.specs.declared.script.ScriptFault.{ScriptFault}
use Rattle.sk_script.specs.declared.script.ScriptFault.TheVariants as fault
use Rattle.sk_script.specs.declared.script.TableLine.{TableLine}
use Rattle.sk_script.specs.Body.{body, rest_of}
use Rattle.sk_script.specs.Header.{table_line}
use Rattle.sk_script.specs.Legible.{legible}
use Rattle.sk_script.specs.Options.{CanSet, MaySet, option_line}
use Rattle.sk_script.specs.Script.{and_then, behind, by_kind, gone_on, is_nil, is_passed_over, kind_of, line_added, nothing, option_added, passed, pieces, read_from, script_of, table_added, wants, with_body, with_front, with_last, with_line, with_option, with_table, without_return}
use Rattle.sk_script.specs.Tables.{CanAdd}
use Rattle.sk_script.proofs.NewTables.{line_taken}
use Rattle.sk_script.proofs.OptionRules.{option_words, set_to}

can_add_more : (before ts : List Table) (t : Table) → CanAdd before ts → add_fault (before ++ ts) t ≡ None → CanAdd before (ts ++ t ∷ [])
can_add_more before [] t can new =
    let P : List Table → Type 0 = λ l. add_fault l t ≡ None in
    (subst P (append-nil before) new, tt)
can_add_more before (u ∷ ts) t can new = (can.0, can_add_more (before ++ u ∷ []) ts t can.1 (rw (append_assoc before (u ∷ []) ts) new))

can_set_more : (before os : List OptionLine) (o : OptionLine) → CanSet before os → MaySet (before ++ os) o.name o.number → CanSet before (os ++ o ∷ [])
can_set_more before [] o can new = (subst (λ l. MaySet l o.name o.number) (append-nil before) new, tt)
can_set_more before (p ∷ os) o can new = (can.0, can_set_more (before ++ p ∷ []) os o can.1 (subst (λ l. MaySet l o.name o.number) (sym (append_assoc before (p ∷ []) os)) new))

-- what is said of a script
pub record AreTaken (script : Script) : Type 0 where
  pub tables : CanAdd [] (map (λ l. l.table) script.tables)
  pub options : CanSet [] script.options

taken_more : (script : Script) (n : ℕ) (t : Table) → AreTaken script → add_fault (map (λ l. l.table) script.tables) t ≡ None → AreTaken (table_added script n t)
taken_more script n t taken new = record {
  tables = rw (map-append (λ (l : TableLine). l.table) script.tables (record { line = n; table = t } ∷ [])) (can_add_more [] (map (λ l. l.table) script.tables) t taken.tables new);
  options = taken.options;
}

taken_set : (script : Script) (o : OptionLine) → AreTaken script → MaySet script.options o.name o.number → AreTaken (option_added script o)
taken_set script o taken new = record { tables = taken.tables; options = can_set_more [] script.options o taken.options new }

-- a step behind another
pub then_parts : {A B : Type 0} (r : Result A ParseFault) (f : A → Result B ParseFault) (y : B) → and_then r f ≡ Ok y → (x : A) × (r ≡ Ok x) × (f x ≡ Ok y)
then_parts (Ok x) f y e = (x, refl, e)
then_parts (Err w) f y e = absurd cc

taken_table : (script : Script) (n : ℕ) (front : Legible) (after : Script) → AreTaken script → with_table script n front ≡ Ok after → AreTaken after
unfolding with_table
taken_table script n front after taken e =
    let t = then_parts (table_line script.tables front.tokens front.end) (λ t. and_then (behind front) (λ _. Ok (table_added script n t))) after e in
    let rest = then_parts (behind front) (λ (_ : Unit {0}). Ok (table_added script n t.0)) after t.2 in
    let same : table_added script n t.0 ≡ after = cc rest.2 in
    subst AreTaken same (taken_more script n t.0 taken (line_taken script.tables front.tokens front.end t.0 t.1))

taken_option : (script : Script) (n : ℕ) (front : Legible) (after : Script) → AreTaken script → with_option script n front ≡ Ok after → AreTaken after
unfolding with_option
taken_option script n front after taken e =
    let o = then_parts (option_line script.options n (rest_of front.tokens) front.end) (λ o. and_then (behind front) (λ _. Ok (option_added script o))) after e in
    let rest = then_parts (behind front) (λ (_ : Unit {0}). Ok (option_added script o.0)) after o.2 in
    let same : option_added script o.0 ≡ after = cc rest.2 in
    let setting = option_words script.options n (rest_of front.tokens) front.end o.0 o.1 in
    let added : AreTaken (option_added script (set_to n setting.name setting.k)) = taken_set script (set_to n setting.name setting.k) taken setting.may in
    subst AreTaken same (subst (λ p. AreTaken (option_added script p)) setting.is added)

taken_body : (script : Script) (n : ℕ) (front : Legible) (after : Script) → AreTaken script → with_body script n front ≡ Ok after → AreTaken after
unfolding with_body
taken_body script n front after taken e =
    let what = then_parts (body front.tokens front.end) (λ what. and_then (behind front) (λ _. Ok (line_added script n what))) after e in
    let rest = then_parts (behind front) (λ (_ : Unit {0}). Ok (line_added script n what.0)) after what.2 in
    let same : line_added script n what.0 ≡ after = cc rest.2 in
    let still : AreTaken (line_added script n what.0) = record { tables = taken.tables; options = taken.options } in
    subst AreTaken same still

taken_front : (k : Kind) (script : Script) (n : ℕ) (front : Legible) (after : Script) → AreTaken script → by_kind k script n front ≡ Ok after → AreTaken after
taken_front kind.Table script n front after taken e = taken_table script n front after taken e
taken_front kind.Option script n front after taken e = taken_option script n front after taken e
taken_front kind.Body script n front after taken e = taken_body script n front after taken e

taken_same : (bad : Bool) (w : ParseFault) (script after : Script) → AreTaken script → cond bad (Err w) (Ok script) ≡ Ok after → AreTaken after
taken_same true w script after taken e = absurd cc
taken_same false w script after taken e =
    let same : script ≡ after = cc in
    subst AreTaken same taken

taken_passed : (long : Bool) (script : Script) (line : Text) (after : Script) → AreTaken script → passed long script line ≡ Ok after → AreTaken after
unfolding passed
taken_passed long script line after taken e = taken_same _ _ script after taken e

taken_by : (over long : Bool) (script : Script) (n : ℕ) (line : Text) (after : Script) → AreTaken script
    → cond over (passed long script line) (with_front script n (legible long line)) ≡ Ok after → AreTaken after
taken_by true long script n line after taken e = taken_passed long script line after taken e
taken_by false long script n line after taken e =
    let front = legible long line in
    taken_front (kind_of script.lines front.tokens) script n front after taken e

pub taken_line : (long : Bool) (script : Script) (n : ℕ) (line : Text) (after : Script) → AreTaken script → with_line long script n line ≡ Ok after → AreTaken after
unfolding with_line
taken_line long script n line after taken e = taken_by (is_passed_over line) long script n line after taken e

-- lines behind a line
pub gone_parts : (n : ℕ) (r : Result Script ParseFault) (f : Script → Result Script ScriptFault) (y : Script) → gone_on n r f ≡ Ok y → (x : Script) × (r ≡ Ok x) × (f x ≡ Ok y)
gone_parts n (Ok x) f y e = (x, refl, e)
gone_parts n (Err w) f y e = absurd cc

taken_end : (none long : Bool) (script : Script) (n : ℕ) (piece : Text) (last : Script) → AreTaken script
    → cond none (Ok script) (gone_on n (with_line long script n piece) (λ after. Ok after)) ≡ Ok last → AreTaken last
taken_end true long script n piece last taken e =
    let same : script ≡ last = cc in
    subst AreTaken same taken
taken_end false long script n piece last taken e =
    let parts = gone_parts n (with_line long script n piece) (λ after. Ok after) last e in
    let same : parts.0 ≡ last = cc parts.2 in
    subst AreTaken same (taken_line long script n piece parts.0 taken parts.1)

taken_last : (long : Bool) (script : Script) (n : ℕ) (piece : Text) (last : Script) → AreTaken script → with_last long script n piece ≡ Ok last → AreTaken last
unfolding with_last
taken_last long script n piece last taken e = taken_end (is_nil piece && not long) long script n piece last taken e

taken_from : (long : Bool) (script : Script) (n : ℕ) (ps : List Text) (last : Script) → AreTaken script → read_from long script n ps ≡ Ok last → AreTaken last
taken_from long script n [] last taken e =
    let same : script ≡ last = cc in
    subst AreTaken same taken
taken_from long script n (piece ∷ []) last taken e = taken_last long script n piece last taken e
taken_from long script n (piece ∷ next ∷ more) last taken e =
    let parts = gone_parts n (with_line false script n (without_return piece)) (λ after. read_from long after (n + 1) (next ∷ more)) last e in
    taken_from long parts.0 (n + 1) (next ∷ more) last (taken_line false script n (without_return piece) parts.0 taken parts.1) parts.2

pub none_taken : AreTaken nothing
none_taken = record { tables = tt; options = tt }

-- of the script that bytes are
pub script_taken : (bytes : Text) (script : Script) → script_of bytes ≡ Ok script → AreTaken script
unfolding script_of
script_taken bytes script e = taken_from _ nothing 1 (pieces (take 16777216 bytes)) script none_taken e

-- of what came back for the bytes
pub given_tables : (bytes : Text) (result : Result Script ScriptFault) → Gives wants result (script_of bytes) → IfOk result (λ script. CanAdd [] (map (λ l. l.table) script.tables))
given_tables bytes (Ok script) e = (script_taken bytes script e).tables
given_tables bytes (Err (fault.At line place)) e = tt
given_tables bytes (Err fault.NoMemory) e = tt

pub given_options : (bytes : Text) (result : Result Script ScriptFault) → Gives wants result (script_of bytes) → IfOk result (λ script. CanSet [] script.options)
given_options bytes (Ok script) e = (script_taken bytes script e).options
given_options bytes (Err (fault.At line place)) e = tt
given_options bytes (Err fault.NoMemory) e = tt
