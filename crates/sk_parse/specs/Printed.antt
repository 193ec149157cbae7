-- What is printed of statements and expressions, as words, and of which.
use Rattle.std.specs.Prelude.{◌≡◌, ◌≤◌, ℕ, suc, Bool, true, false, ◌&&◌, if◌then◌else◌, nat_lt, nat_le, max, List, [], ◌∷◌, ◌++◌, length, Ok, Option, Some, None, ℤ, pos, negsuc}
use Rattle.std.specs.List.{list_all}
use Rattle.sk_lex.specs.declared.token.Keyword.TheVariants as key
use Rattle.sk_lex.specs.declared.token.Word.{Word}
use Rattle.sk_lex.specs.declared.token.Word.TheVariants as word
use Rattle.sk_lex.specs.Marks as mark
use Rattle.sk_rows.specs.Names.{is_name}
use Rattle.sk_rows.specs.Text.{are_printable}
use Rattle.sk_rows.specs.declared.value.Value.{Value}
use Rattle.sk_rows.specs.declared.value.Value.TheVariants as value
use Rattle.sk_rows.specs.declared.expr.Op.{Op}
use Rattle.sk_rows.specs.declared.expr.Op.TheVariants as op
use Rattle.sk_rows.specs.declared.expr.Expr.{Expr}
use Rattle.sk_rows.specs.declared.expr.Expr.TheOpen.{Expr-F}
use Rattle.sk_rows.specs.declared.expr.Expr.TheFolds.{fold-Expr}
use Rattle.sk_rows.specs.declared.statement.Begun.{Begun}
use Rattle.sk_rows.specs.declared.statement.Begun.TheVariants as begun
use Rattle.sk_rows.specs.declared.statement.SetItem.{SetItem}
use Rattle.sk_rows.specs.declared.statement.Statement.{Statement}
use Rattle.sk_rows.specs.declared.statement.Statement.TheVariants as st
use Rattle.sk_rows.specs.Limits.{longest_text}
use Rattle.sk_parse.specs.Grammar.{expr}
use Rattle.sk_parse.specs.Statements.{whole}
use Rattle.sk_parse.specs.Limits.{most_nested}

-- The rules are counted from the outermost: 0 expr, 1 conj, 2 neg, 3 comp, 4 sum, 5 prod, 6 atom.
-- the rule that has the operator
abbrev pub strength : Op → ℕ
strength op.Or = 0
strength op.And = 1
strength op.Add = 4
strength op.Sub = 4
strength op.Mul = 5
strength _ = 3

-- the rules of what stands on its left and on its right
abbrev pub left_at : Op → ℕ
left_at op.Or = 0
left_at op.And = 1
left_at op.Mul = 5
left_at _ = 4

abbrev pub right_at : Op → ℕ
right_at op.Or = 1
right_at op.And = 2
right_at op.Add = 5
right_at op.Sub = 5
right_at op.Mul = 6
right_at _ = 4

abbrev pub op_word : Op → Word
op_word op.Or = word.Key key.Or
op_word op.And = word.Key key.And
op_word op.Eq = word.Mark mark.equals mark.none
op_word op.Ne = word.Mark mark.less mark.greater
op_word op.Lt = word.Mark mark.less mark.none
op_word op.Le = word.Mark mark.less mark.equals
op_word op.Gt = word.Mark mark.greater mark.none
op_word op.Ge = word.Mark mark.greater mark.equals
op_word op.Add = word.Mark mark.plus mark.none
op_word op.Sub = word.Mark mark.minus mark.none
op_word op.Mul = word.Mark mark.star mark.none

abbrev pub literal_words : Value → List Word
literal_words (value.Int (pos n)) = word.Number n ∷ []
literal_words (value.Int (negsuc n)) = word.Mark mark.minus mark.none ∷ word.Number (suc n) ∷ []
literal_words (value.Text t) = word.Text t ∷ []
literal_words (value.Bool true) = word.Key key.True ∷ []
literal_words (value.Bool false) = word.Key key.False ∷ []

-- parentheses, where they are asked for
abbrev pub wrapped : Bool → List Word → List Word
wrapped asked ws = if asked then word.Mark mark.open_paren mark.none ∷ ws ++ word.Mark mark.close_paren mark.none ∷ [] else ws

-- by the rule at whose place it stands
abbrev pub print_step : Expr-F (ℕ → List Word) → ℕ → List Word
print_step (Expr-F.Lit v) at = literal_words v
print_step (Expr-F.Col t) at = word.Name t ∷ []
print_step (Expr-F.Not a) at = wrapped (nat_lt 2 at) (word.Key key.Not ∷ a 2)
print_step (Expr-F.Two o a b) at = wrapped (nat_lt (strength o) at) (a (left_at o) ++ op_word o ∷ b (right_at o))

abbrev pub printed : Expr → ℕ → List Word
printed = fold-Expr (ℕ → List Word) print_step

-- how many more are open within a NOT or an operator at the place of a rule
abbrev pub opened_by_not : ℕ → ℕ
opened_by_not at = if nat_lt 2 at then 2 else 1

abbrev pub opened_by : Op → ℕ → ℕ
opened_by o at = if nat_lt (strength o) at then 1 else 0

-- how many NOTs and parentheses are then open together
abbrev pub nest_step : Expr-F (ℕ → ℕ) → ℕ → ℕ
nest_step (Expr-F.Lit v) at = 0
nest_step (Expr-F.Col t) at = 0
nest_step (Expr-F.Not a) at = if nat_lt 2 at then suc (suc (a 2)) else suc (a 2)
nest_step (Expr-F.Two o a b) at =
    if nat_lt (strength o) at then suc (max (a (left_at o)) (b (right_at o))) else max (a (left_at o)) (b (right_at o))

abbrev pub nesting : Expr → ℕ → ℕ
nesting = fold-Expr (ℕ → ℕ) nest_step

-- of 64 bits with a sign
abbrev pub is_int : ℤ → Bool
is_int (pos n) = nat_lt n 9223372036854775808
is_int (negsuc n) = nat_lt n 9223372036854775808

unfoldable pub is_text : List ℕ → Bool
is_text t = nat_le (length t) longest_text && are_printable t

abbrev pub is_literal : Value → Bool
is_literal (value.Int z) = is_int z
is_literal (value.Text t) = is_text t
is_literal (value.Bool b) = true

-- names and literals are those of the grammar
abbrev pub spelled_step : Expr-F Bool → Bool
spelled_step (Expr-F.Lit v) = is_literal v
spelled_step (Expr-F.Col t) = is_name t
spelled_step (Expr-F.Not a) = a
spelled_step (Expr-F.Two o a b) = a && b

abbrev pub can_be_spelled : Expr → Bool
can_be_spelled = fold-Expr Bool spelled_step

-- what is printed is read as the expression, to its end
abbrev pub IsReadBack : Type 0
IsReadBack = (x : Expr) → can_be_spelled x ≡ true → nesting x 0 ≤ most_nested → expr (printed x 0) ≡ Ok (x, [])

-- ---- statements

-- behind the first of a list
abbrev pub more_words : {A : Type 0} → (A → List Word) → List A → List Word
more_words f [] = []
more_words f (x ∷ xs) = word.Mark mark.comma mark.none ∷ f x ++ more_words f xs

-- a list with commas between
abbrev pub listed_words : {A : Type 0} → (A → List Word) → List A → List Word
listed_words f [] = []
listed_words f (x ∷ xs) = f x ++ more_words f xs

abbrev pub name_words : List ℕ → List Word
name_words t = word.Name t ∷ []

abbrev pub set_words : SetItem → List Word
set_words item = word.Name item.column ∷ word.Mark mark.equals mark.none ∷ printed item.value 0

abbrev pub cond_words : Option Expr → List Word
cond_words None = []
cond_words (Some e) = word.Key key.Where ∷ printed e 0

abbrev pub begun_words : Begun → List Word
begun_words begun.Cross = []
begun_words begun.Mem = word.Key key.Memory ∷ []
begun_words begun.Store = word.Key key.Storage ∷ []

abbrev pub shown_words : Option (List (List ℕ)) → List Word
shown_words None = word.Mark mark.star mark.none ∷ []
shown_words (Some names) = listed_words name_words names

-- the words of a statement
abbrev pub said_words : Statement → List Word
said_words (st.Begin begun) = word.Key key.Begin ∷ begun_words begun
said_words st.Commit = word.Key key.Commit ∷ []
said_words st.Rollback = word.Key key.Rollback ∷ []
said_words (st.Insert table values) =
    word.Key key.Insert ∷ word.Key key.Into ∷ word.Name table ∷ word.Key key.Values ∷ word.Mark mark.open_paren mark.none ∷ listed_words literal_words values ++ word.Mark mark.close_paren mark.none ∷ []
said_words (st.Select table columns cond) = word.Key key.Select ∷ shown_words columns ++ word.Key key.From ∷ word.Name table ∷ cond_words cond
said_words (st.Update table sets cond) = word.Key key.Update ∷ word.Name table ∷ word.Key key.Set ∷ listed_words set_words sets ++ cond_words cond
said_words (st.Delete table cond) = word.Key key.Delete ∷ word.Key key.From ∷ word.Name table ∷ cond_words cond

-- ---- what can be printed: names and literals of the grammar, no empty list, and no more NOTs and parentheses than may be open together

unfoldable pub is_expression : Expr → Bool
is_expression e = can_be_spelled e && nat_le (nesting e 0) most_nested

abbrev pub is_condition : Option Expr → Bool
is_condition None = true
is_condition (Some e) = is_expression e

abbrev pub are_some : {A : Type 0} → (A → Bool) → List A → Bool
are_some f [] = false
are_some f (x ∷ xs) = f x && list_all f xs

abbrev pub are_shown : Option (List (List ℕ)) → Bool
are_shown None = true
are_shown (Some names) = are_some is_name names

abbrev pub is_set : SetItem → Bool
is_set item = is_name item.column && is_expression item.value

abbrev pub can_be_printed : Statement → Bool
can_be_printed (st.Begin begun) = true
can_be_printed st.Commit = true
can_be_printed st.Rollback = true
can_be_printed (st.Insert table values) = is_name table && are_some is_literal values
can_be_printed (st.Select table columns cond) = is_name table && are_shown columns && is_condition cond
can_be_printed (st.Update table sets cond) = is_name table && are_some is_set sets && is_condition cond
can_be_printed (st.Delete table cond) = is_name table && is_condition cond

-- the words that are printed are read as the statement, all of them
abbrev pub IsSaidBack : Type 0
IsSaidBack = (s : Statement) → can_be_printed s ≡ true → whole (said_words s) ≡ Ok (s, [])
