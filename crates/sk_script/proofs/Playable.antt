-- The lines of a script that is generated are of sessions from 1 to 64, and write no text that is too long.
use Rattle.std.proofs.Common.{◌≡◌, ◌<◌, ◌≤◌, ℕ, zero, suc, ◌+◌, ◌-◌, ◌%◌, ◌/◌, List, [], ◌∷◌, ◌++◌, map, take, drop, codes, true, ◌&&◌, refl, ap, ◌∙◌, arith}
use Rattle.std.specs.Prelude.{Bool, IfOk, IfSome, Result, Ok, Err}
use Rattle.std.proofs.Math.Nat.{mod-lt}
use Rattle.sk_rows.specs.declared.expr.Expr.TheVariants as expr
use Rattle.sk_rows.specs.declared.expr.Op.{Op}
use Rattle.sk_rows.specs.declared.expr.Op.TheVariants as op
use Rattle.sk_rows.specs.Catalog.{add_fault, has_table, are_columns, has_bool_key}
use Rattle.sk_rows.specs.Names.{is_name, has_name_length, begins_with_digit, are_name_bytes, is_keyword}
use Rattle.sk_model.specs.Texts.{short_step, expr_is_short}
use Rattle.sk_model.proofs.Layers.{of_pair}
use Rattle.sk_model.proofs.Lists.{Each, each_append, each_weaker}
use Rattle.sk_script.specs.declared.drawing.Transfer.{Transfer}
use Rattle.sk_script.specs.declared.generating.Pass.{Pass}
use Rattle.sk_script.specs.declared.generating.Pass.TheVariants as pass
use Rattle.sk_script.specs.declared.script.Line.{Line}
use Rattle.sk_script.specs.declared.script.Line.TheVariants as line
use Rattle.sk_rows.specs.declared.statement.Statement.TheVariants as st
use Rattle.sk_script.specs.declared.script.Script.{Script}
use Rattle.sk_script.specs.declared.script.ScriptLine.{ScriptLine}
use Rattle.sk_script.specs.Generated.{changed, closing, generated, int, line_of, lines, numbered, opening, orders_table, round, rounds, said, stocked, stock_row, stock_table, transfers}
use Rattle.sk_script.specs.Options.{CanSet}
use Rattle.sk_script.specs.Rules.{IsSession, session_in}
use Rattle.sk_script.specs.Tables.{CanAdd}
use Rattle.sk_script.specs.Texts.{says_short}

-- the line is of a session, if of any, and writes short texts
abbrev IsPlayable : Line → Type 0
IsPlayable l = IfSome (session_in l) IsSession × (says_short l ≡ true)

abbrev ArePlayable : List Line → Type 0
ArePlayable = Each IsPlayable

session_is : (n : ℕ) → IsSession (n % 8 + 1)
session_is n = let below : n % 8 < 8 = mod-lt n (omega arith) in (omega arith, omega (arith, below))

changed_short : (by : Op) (n : ℕ) → expr_is_short (expr.Two by (expr.Col (codes "qty")) (expr.Lit (int n))) ≡ true
changed_short by n = of_pair Bool short_step by (codes "qty") (int n)

said_short : (p : Pass) (t : Transfer) → says_short (line_of p t) ≡ true
said_short pass.Begins t = refl
said_short pass.Takes t = rw (changed_short op.Sub t.count) refl
said_short pass.Gives t = rw (changed_short op.Add t.count) refl
said_short pass.Orders t = refl
said_short pass.Commits t = refl

line_plays : (p : Pass) (t : Transfer) → IsPlayable (line_of p t)
line_plays p t = (session_is (t.number - 1), said_short p t)

pass_plays : (p : Pass) (ts : List Transfer) → ArePlayable (map (line_of p) ts)
pass_plays p [] = tt
pass_plays p (t ∷ ts) = (line_plays p t, pass_plays p ts)

both_play : (front back : List Line) → ArePlayable front → ArePlayable back → ArePlayable (front ++ back)
both_play front back f b = each_append IsPlayable front back f b

round_plays : (ts : List Transfer) → ArePlayable (round ts)
unfolding round
round_plays ts =
    both_play _ (line.Flush ∷ [])
    (both_play _ (map (line_of pass.Commits) ts)
    (both_play _ (map (line_of pass.Orders) ts)
    (both_play _ (map (line_of pass.Gives) ts)
    (both_play (map (line_of pass.Begins) ts) (map (line_of pass.Takes) ts) (pass_plays pass.Begins ts) (pass_plays pass.Takes ts))
    (pass_plays pass.Gives ts))
    (pass_plays pass.Orders ts))
    (pass_plays pass.Commits ts))
    ((tt, refl), tt)

rounds_play : (k : ℕ) (ts : List Transfer) → ArePlayable (rounds k ts)
rounds_play zero ts = tt
rounds_play (suc k) ts = both_play (round (take 8 ts)) (rounds k (drop 8 ts)) (round_plays (take 8 ts)) (rounds_play k (drop 8 ts))

first_session : IsSession 1
first_session = (omega arith, omega arith)

stocked_play : (row n : ℕ) → ArePlayable (stocked row n)
stocked_play row zero = tt
stocked_play row (suc n) = ((first_session, refl), stocked_play (row + 1) n)

opening_plays : ArePlayable opening
unfolding opening
opening_plays = ((first_session, refl), both_play (stocked 1 16) (line.Says 1 st.Commit ∷ []) (stocked_play 1 16) ((first_session, refl), tt))

lines_play : (seed n : ℕ) → ArePlayable (lines seed n)
unfolding lines
lines_play seed n = both_play _ (closing ∷ [])
    (both_play opening (rounds ((n + 7) / 8) (transfers seed 1 n)) opening_plays (rounds_play ((n + 7) / 8) (transfers seed 1 n)))
    ((first_session, refl), tt)

numbered_play : (from : ℕ) (ls : List Line) → ArePlayable ls → Each (λ (l : ScriptLine). IsPlayable l.what) (numbered from ls)
numbered_play from [] h = tt
numbered_play from (l ∷ ls) h = (h.0, numbered_play (from + 1) ls h.1)

all_play : (seed n : ℕ) → Each (λ (l : ScriptLine). IsPlayable l.what) (numbered 3 (lines seed n))
all_play seed n = numbered_play 3 (lines seed n) (lines_play seed n)

-- so a script of them can be played
pub generated_sessions : (seed n : ℕ) (script : Script) → script ≡ generated seed n → Each (λ (l : ScriptLine). IfSome (session_in l.what) IsSession) script.lines
unfolding generated
generated_sessions seed n script is = rw is (each_weaker (λ (l : ScriptLine). IsPlayable l.what) (λ (l : ScriptLine). IfSome (session_in l.what) IsSession) (λ l h. h.0) (numbered 3 (lines seed n)) (all_play seed n))

pub generated_texts : (seed n : ℕ) (script : Script) → script ≡ generated seed n → Each (λ (l : ScriptLine). says_short l.what ≡ true) script.lines
unfolding generated
generated_texts seed n script is = rw is (each_weaker (λ (l : ScriptLine). IsPlayable l.what) (λ (l : ScriptLine). says_short l.what ≡ true) (λ l h. h.1) (numbered 3 (lines seed n)) (all_play seed n))

pub generated_tables : (seed n : ℕ) (script : Script) → script ≡ generated seed n → CanAdd [] (map (λ l. l.table) script.tables)
unfolding generated add_fault is_name has_name_length begins_with_digit are_name_bytes is_keyword has_table are_columns has_bool_key
generated_tables seed n script is = rw is (refl, (refl, tt))

pub generated_options : (seed n : ℕ) (script : Script) → script ≡ generated seed n → CanSet [] script.options
unfolding generated
generated_options seed n script is = rw is tt

-- what holds of the script holds of an answer that is it
pub if_made : {E : Type 0} (Q : Script → Type 0) (seed n : ℕ) (r : Result Script E) → ((script : Script) → script ≡ generated seed n → Q script) → IfOk r (λ script. script ≡ generated seed n) → IfOk r Q
if_made Q seed n (Ok script) of is = of script is
if_made Q seed n (Err e) of is = tt
