-- The counts and the sorts of what stands in a statement.
use Rattle.std.specs.Prelude.{List, [], ◌∷◌, Option, Some, None, Bool, true, false, ◌&&◌, Result, Ok, Err}
use Rattle.std.specs.List.{list_all}
use Rattle.sk_rows.specs.declared.value.Sort.{Sort}
use Rattle.sk_rows.specs.declared.value.Sort.TheVariants as sort
use Rattle.sk_rows.specs.declared.value.Value.{Value}
use Rattle.sk_rows.specs.declared.table.Column.{Column}
use Rattle.sk_rows.specs.declared.expr.Expr.{Expr}
use Rattle.sk_rows.specs.declared.statement.SetItem.{SetItem}
use Rattle.sk_rows.specs.declared.faults.TypeFault.{TypeFault}
use Rattle.sk_rows.specs.Values.{sort_of}
use Rattle.sk_rows.specs.Typing.{same_sort, column_sort, sort_in}

-- one value a column, each of its sort
abbrev pub have_sorts : List Value → List Column → Bool
have_sorts [] [] = true
have_sorts [] (c ∷ cs) = false
have_sorts (v ∷ vs) [] = false
have_sorts (v ∷ vs) (c ∷ cs) = same_sort (sort_of v) c.sort && have_sorts vs cs

abbrev pub is_sort : Result Sort TypeFault → Option Sort → Bool
is_sort (Ok s) (Some t) = same_sort s t
is_sort (Ok s) None = false
is_sort (Err e) t = false

-- a condition is a truth
abbrev pub is_condition : List Column → Option Expr → Bool
is_condition columns None = true
is_condition columns (Some e) = is_sort (sort_in columns e) (Some sort.Bool)

-- each new value is of its column's sort
abbrev pub sets_sorts : List Column → List SetItem → Bool
sets_sorts columns sets = list_all (λ s. is_sort (sort_in columns s.value) (column_sort s.column columns)) sets
