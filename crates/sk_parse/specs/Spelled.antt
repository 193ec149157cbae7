-- The bytes that are printed, piece by piece, each word behind a space.
use Rattle.std.specs.Prelude.{◌≡◌, pos, negsuc, ℕ, suc, Bool, true, false, ◌/◌, if◌then◌else◌, nat_lt, List, [], ◌∷◌, ◌++◌, length, Option, Some, None, Ok}
use Rattle.sk_lex.specs.declared.token.Keyword.TheVariants as key
use Rattle.sk_lex.specs.declared.token.Token.{Token}
use Rattle.sk_lex.specs.declared.token.Word.TheVariants as word
use Rattle.sk_lex.specs.Scanning.{tokens}
use Rattle.sk_lex.specs.Spelling.{digits, spaced}
use Rattle.sk_lex.specs.Marks as mark
use Rattle.sk_rows.specs.declared.value.Value.{Value}
use Rattle.sk_rows.specs.declared.value.Value.TheVariants as value
use Rattle.sk_rows.specs.declared.expr.Expr.{Expr}
use Rattle.sk_rows.specs.declared.expr.Expr.TheOpen.{Expr-F}
use Rattle.sk_rows.specs.declared.expr.Expr.TheFolds.{fold-Expr}
use Rattle.sk_rows.specs.declared.statement.Begun.{Begun}
use Rattle.sk_rows.specs.declared.statement.Begun.TheVariants as begun
use Rattle.sk_rows.specs.declared.statement.SetItem.{SetItem}
use Rattle.sk_rows.specs.declared.statement.Statement.{Statement}
use Rattle.sk_rows.specs.declared.statement.Statement.TheVariants as st
use Rattle.sk_parse.specs.Printed.{strength, left_at, right_at, op_word}
use Rattle.sk_parse.specs.Statements.{statement}

-- all digits but the last
abbrev pub front_digits : ℕ → ℕ → List ℕ
front_digits k n = if nat_lt n 10 then [] else digits k (n / 10)

abbrev pub opened : Bool → List ℕ
opened asked = if asked then spaced (word.Mark mark.open_paren mark.none) else []

abbrev pub closed : Bool → List ℕ
closed asked = if asked then spaced (word.Mark mark.close_paren mark.none) else []

abbrev pub literal_text : Value → List ℕ
literal_text (value.Int (pos n)) = spaced (word.Number n)
literal_text (value.Int (negsuc n)) = spaced (word.Mark mark.minus mark.none) ++ spaced (word.Number (suc n))
literal_text (value.Text t) = spaced (word.Text t)
literal_text (value.Bool true) = spaced (word.Key key.True)
literal_text (value.Bool false) = spaced (word.Key key.False)

-- an expression at the place of a rule
abbrev pub text_step : Expr-F (ℕ → List ℕ) → ℕ → List ℕ
text_step (Expr-F.Lit v) at = literal_text v
text_step (Expr-F.Col t) at = spaced (word.Name t)
text_step (Expr-F.Not a) at = opened (nat_lt 2 at) ++ spaced (word.Key key.Not) ++ a 2 ++ closed (nat_lt 2 at)
text_step (Expr-F.Two o a b) at =
    opened (nat_lt (strength o) at) ++ a (left_at o) ++ spaced (op_word o) ++ b (right_at o) ++ closed (nat_lt (strength o) at)

abbrev pub text : Expr → ℕ → List ℕ
text = fold-Expr (ℕ → List ℕ) text_step

-- behind the first of a list
abbrev pub more_text : {A : Type 0} → (A → List ℕ) → List A → List ℕ
more_text f [] = []
more_text f (x ∷ xs) = spaced (word.Mark mark.comma mark.none) ++ f x ++ more_text f xs

-- a list with commas between
abbrev pub listed_text : {A : Type 0} → (A → List ℕ) → List A → List ℕ
listed_text f [] = []
listed_text f (x ∷ xs) = f x ++ more_text f xs

abbrev pub name_text : List ℕ → List ℕ
name_text t = spaced (word.Name t)

abbrev pub set_text : SetItem → List ℕ
set_text item = name_text item.column ++ spaced (word.Mark mark.equals mark.none) ++ text item.value 0

abbrev pub cond_text : Option Expr → List ℕ
cond_text None = []
cond_text (Some e) = spaced (word.Key key.Where) ++ text e 0

abbrev pub begun_text : Begun → List ℕ
begun_text begun.Cross = []
begun_text begun.Mem = spaced (word.Key key.Memory)
begun_text begun.Store = spaced (word.Key key.Storage)

abbrev pub shown_text : Option (List (List ℕ)) → List ℕ
shown_text None = spaced (word.Mark mark.star mark.none)
shown_text (Some names) = listed_text name_text names

unfoldable pub insert_text : List ℕ → List Value → List ℕ
insert_text table values =
    spaced (word.Key key.Insert) ++ spaced (word.Key key.Into) ++ name_text table ++ spaced (word.Key key.Values)
    ++ spaced (word.Mark mark.open_paren mark.none) ++ listed_text literal_text values ++ spaced (word.Mark mark.close_paren mark.none)

unfoldable pub select_text : List ℕ → Option (List (List ℕ)) → Option Expr → List ℕ
select_text table columns cond = spaced (word.Key key.Select) ++ shown_text columns ++ spaced (word.Key key.From) ++ name_text table ++ cond_text cond

unfoldable pub update_text : List ℕ → List SetItem → Option Expr → List ℕ
update_text table sets cond = spaced (word.Key key.Update) ++ name_text table ++ spaced (word.Key key.Set) ++ listed_text set_text sets ++ cond_text cond

unfoldable pub delete_text : List ℕ → Option Expr → List ℕ
delete_text table cond = spaced (word.Key key.Delete) ++ spaced (word.Key key.From) ++ name_text table ++ cond_text cond

abbrev pub said_text : Statement → List ℕ
said_text (st.Begin begun) = spaced (word.Key key.Begin) ++ begun_text begun
said_text st.Commit = spaced (word.Key key.Commit)
said_text st.Rollback = spaced (word.Key key.Rollback)
said_text (st.Insert table values) = insert_text table values
said_text (st.Select table columns cond) = select_text table columns cond
said_text (st.Update table sets cond) = update_text table sets cond
said_text (st.Delete table cond) = delete_text table cond

-- the tokens of this line are the statement, and nothing else
abbrev pub IsReadAs : List ℕ → Statement → Type 0
IsReadAs line s = (ts : List Token) × (tokens line ≡ Ok ts) × (statement ts (length line) ≡ Ok s)
