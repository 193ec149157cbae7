-- The script that a seed and a number of transfers give. Stock is moved between the rows of one table, and each transfer puts a
-- row into another.
use Rattle.std.specs.Prelude.{ℕ, zero, suc, pos, ◌+◌, ◌-◌, ◌*◌, ◌/◌, ◌%◌, ◌==◌, if◌then◌else◌, false, true, List, [], ◌∷◌, ◌++◌, map, take, drop, codes, Some, None}
use Rattle.sk_rows.specs.declared.expr.Expr.TheVariants as expr
use Rattle.sk_rows.specs.declared.expr.Op.{Op}
use Rattle.sk_rows.specs.declared.expr.Op.TheVariants as op
use Rattle.sk_rows.specs.declared.statement.Begun.TheVariants as begun
use Rattle.sk_rows.specs.declared.statement.Statement.{Statement}
use Rattle.sk_rows.specs.declared.statement.Statement.TheVariants as st
use Rattle.sk_rows.specs.declared.table.Column.{Column}
use Rattle.sk_rows.specs.declared.table.Table.{Table}
use Rattle.sk_rows.specs.declared.value.Sort.TheVariants as sorts
use Rattle.sk_rows.specs.declared.value.Value.{Value}
use Rattle.sk_rows.specs.declared.value.Value.TheVariants as value
use Rattle.sk_script.specs.declared.generating.Pass.{Pass}
use Rattle.sk_script.specs.declared.generating.Pass.TheVariants as pass
use Rattle.sk_script.specs.declared.script.Line.{Line}
use Rattle.sk_script.specs.declared.script.Line.TheVariants as line
use Rattle.sk_script.specs.declared.script.Script.{Script}
use Rattle.sk_script.specs.declared.script.ScriptLine.{ScriptLine}
use Rattle.sk_script.specs.declared.drawing.Transfer.{Transfer}

-- ---- transfers

-- the number that follows in a sequence
abbrev pub draw : ℕ → ℕ
draw x = (75 * x + 74) % 65537

-- one of the sixteen rows of stock
abbrev pub row_of : ℕ → ℕ
row_of x = x % 16 + 1

-- a second row, which is not the first
abbrev pub other : ℕ → ℕ → ℕ
other first second = if second == first then row_of first else second

-- the transfer of this number that three drawn numbers give: from where, to where, and from 1 to 9 of how many
abbrev pub transfer_of : ℕ → ℕ → ℕ → ℕ → Transfer
transfer_of i p q r = record { number = i; from = row_of p; to = other (row_of p) (row_of q); count = r % 9 + 1 }

-- So many transfers, numbered from i, behind this number of the sequence. Each draws three.
abbrev pub transfers : ℕ → ℕ → ℕ → List Transfer
transfers x i zero = []
transfers x i (suc n) = transfer_of i (draw x) (draw (draw x)) (draw (draw (draw x))) ∷ transfers (draw (draw (draw x))) (i + 1) n

-- ---- lines

abbrev pub int : ℕ → Value
int n = value.Int (pos n)

-- INSERT INTO stock VALUES (row, 1000)
abbrev pub stock_row : ℕ → Statement
stock_row row = st.Insert (codes "stock") (int row ∷ int 1000 ∷ [])

-- UPDATE stock SET qty = qty + n WHERE id = row, or the same with another operator
abbrev pub changed : Op → ℕ → ℕ → Statement
changed by row n =
    st.Update (codes "stock") (record { column = codes "qty"; value = expr.Two by (expr.Col (codes "qty")) (expr.Lit (int n)) } ∷ [])
    (Some (expr.Two op.Eq (expr.Col (codes "id")) (expr.Lit (int row))))

-- INSERT INTO orders VALUES (number, item, qty)
abbrev pub order : Transfer → Statement
order t = st.Insert (codes "orders") (int t.number ∷ int t.from ∷ int t.count ∷ [])

-- what a transfer says in one pass over its round
abbrev pub said : Pass → Transfer → Statement
said pass.Begins t = st.Begin begun.Cross
said pass.Takes t = changed op.Sub t.from t.count
said pass.Gives t = changed op.Add t.to t.count
said pass.Orders t = order t
said pass.Commits t = st.Commit

-- transfers take turns in eight sessions
abbrev pub line_of : Pass → Transfer → Line
line_of p t = line.Says ((t.number - 1) % 8 + 1) (said p t)

-- the transfers of a round side by side, in five passes, and then a flush
unfoldable pub round : List Transfer → List Line
round ts =
    map (line_of pass.Begins) ts ++ map (line_of pass.Takes) ts ++ map (line_of pass.Gives) ts ++ map (line_of pass.Orders) ts
    ++ map (line_of pass.Commits) ts ++ line.Flush ∷ []

-- so many rounds, each of eight transfers but for the last one, which has what is left
abbrev pub rounds : ℕ → List Transfer → List Line
rounds zero ts = []
rounds (suc k) ts = round (take 8 ts) ++ rounds k (drop 8 ts)

-- so many rows of stock, from this one on
abbrev pub stocked : ℕ → ℕ → List Line
stocked row zero = []
stocked row (suc n) = line.Says 1 (stock_row row) ∷ stocked (row + 1) n

-- the lines before the rounds
unfoldable pub opening : List Line
opening = line.Says 1 (st.Begin begun.Store) ∷ stocked 1 16 ++ line.Says 1 st.Commit ∷ []

-- the line behind them
abbrev pub closing : Line
closing = line.Says 1 (st.Select (codes "stock") None None)

-- all lines behind the tables
unfoldable pub lines : ℕ → ℕ → List Line
lines seed n = opening ++ rounds ((n + 7) / 8) (transfers seed 1 n) ++ closing ∷ []

-- ---- the script

-- lines numbered from this number on
abbrev pub numbered : ℕ → List Line → List ScriptLine
numbered n [] = []
numbered n (what ∷ more) = record { line = n; what = what } ∷ numbered (n + 1) more

abbrev pub whole_number : List ℕ → Column
whole_number name = record { name = name; sort = sorts.Int }

-- TABLE orders MEMORY id INT, item INT, qty INT
abbrev pub orders_table : Table
orders_table = record { name = codes "orders"; store = false; columns = whole_number (codes "id") ∷ whole_number (codes "item") ∷ whole_number (codes "qty") ∷ [] }

-- TABLE stock STORAGE id INT, qty INT
abbrev pub stock_table : Table
stock_table = record { name = codes "stock"; store = true; columns = whole_number (codes "id") ∷ whole_number (codes "qty") ∷ [] }

unfoldable pub generated : ℕ → ℕ → Script
generated seed n = record {
  tables = record { line = 1; table = orders_table } ∷ record { line = 2; table = stock_table } ∷ [];
  options = [];
  lines = numbered 3 (lines seed n);
}
