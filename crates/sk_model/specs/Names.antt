-- The names in a statement: its table's, and those of columns.
use Rattle.std.specs.Prelude.{ℕ, List, [], ◌∷◌, Option, Some, None, Bool, true, false, ◌&&◌, ◌||◌, position, map, get_or}
use Rattle.std.specs.List.{list_all, list_any}
use Rattle.std.specs.Str.{bytes_eq}
use Rattle.sk_rows.specs.declared.table.Column.{Column}
use Rattle.sk_rows.specs.declared.table.Table.{Table}
use Rattle.sk_rows.specs.declared.expr.Expr.{Expr}
use Rattle.sk_rows.specs.declared.expr.Expr.TheOpen.{Expr-F}
use Rattle.sk_rows.specs.declared.expr.Expr.TheFolds.{fold-Expr}
use Rattle.sk_rows.specs.declared.statement.SetItem.{SetItem}
use Rattle.sk_rows.specs.Catalog.{has_column}

-- the number of the table of this name
abbrev pub table_at : List Table → List ℕ → Option ℕ
table_at catalog name = position (λ t. bytes_eq t.name name) catalog

abbrev pub columns_at : List Table → ℕ → List Column
columns_at catalog t = get_or (map (λ table. table.columns) catalog) t []

-- the column is the key
abbrev pub is_key : List Column → List ℕ → Bool
is_key [] name = false
is_key (c ∷ cs) name = bytes_eq c.name name

abbrev pub known_step : List Column → Expr-F Bool → Bool
known_step columns (Expr-F.Lit v) = true
known_step columns (Expr-F.Col name) = has_column name columns
known_step columns (Expr-F.Not a) = a
known_step columns (Expr-F.Two op a b) = a && b

-- each name in an expression is a column's
abbrev pub expr_known : List Column → Expr → Bool
expr_known columns = fold-Expr Bool (known_step columns)

-- each name in a condition is a column's
abbrev pub cond_known : List Column → Option Expr → Bool
cond_known columns None = true
cond_known columns (Some e) = expr_known columns e

-- each name of a list is a column's; no list stands for all columns
abbrev pub names_known : List Column → Option (List (List ℕ)) → Bool
names_known columns None = true
names_known columns (Some names) = list_all (λ name. has_column name columns) names

-- each column that is set is there, and so is each name in its new value
abbrev pub sets_known : List Column → List SetItem → Bool
sets_known columns sets = list_all (λ s. has_column s.column columns && expr_known columns s.value) sets

-- some column is set twice
abbrev pub sets_twice : List SetItem → Bool
sets_twice [] = false
sets_twice (s ∷ ss) = list_any (λ x. bytes_eq x.column s.column) ss || sets_twice ss

-- the key is set
abbrev pub sets_key : List Column → List SetItem → Bool
sets_key columns sets = list_any (λ s. is_key columns s.column) sets
