-- The table that a statement names is one of the catalog.
use Rattle.std.specs.Prelude.{◌≡◌, ℕ, ◌<◌, zero, suc, List, [], ◌∷◌, Option, Some, None, false, length, map, get_or, option_and_then, position, slice_get}
use Rattle.std.specs.Str.{bytes_eq}
use Rattle.std.proofs.Common.{sym, ap, arith}
use Rattle.std.proofs.lemmas.List.Quantifiers.{position-Some}
use Rattle.sk_rows.specs.declared.table.Table.{Table}
use Rattle.sk_rows.specs.declared.statement.Statement.{Statement}
use Rattle.sk_rows.specs.declared.statement.Statement.TheVariants as statement
use Rattle.sk_model.specs.Names.{columns_at, table_at}
use Rattle.sk_model.specs.Replies.{target_table}
use Rattle.sk_model.specs.Asking.{keeper_of, keeper, table_named}

-- what is told of the table at a moment
abbrev told : {X : Type 0} → (Table → X) → X → Option Table → X
told f d None = d
told f d (Some table) = f table

-- what is told of the table at a moment
told_at : {X : Type 0} (f : Table → X) (d : X) (catalog : List Table) (t : ℕ) (table : Table) → slice_get catalog t ≡ Some table → f table ≡ get_or (map f catalog) t d
told_at f d [] t table is = absurd cc
told_at f d (x ∷ catalog) zero table is = sym (ap (told f d) is)
told_at f d (x ∷ catalog) (suc t) table is = told_at f d catalog t table is

pub columns_are : (catalog : List Table) (t : ℕ) (table : Table) → slice_get catalog t ≡ Some table → table.columns ≡ columns_at catalog t
columns_are catalog t table is = told_at (λ (x : Table). x.columns) [] catalog t table is

pub keeper_is : (catalog : List Table) (t : ℕ) (table : Table) → slice_get catalog t ≡ Some table → keeper_of table.store ≡ keeper catalog t
keeper_is catalog t table is = ap keeper_of (told_at (λ (x : Table). x.store) false catalog t table is)

pub none_named : (catalog : List Table) (s : Statement) → target_table s ≡ None → None ≡ table_named catalog s
none_named catalog s is = sym (ap (option_and_then (table_at catalog)) is)

missing : {A X : Type 0} (xs : List X) (i : ℕ) → slice_get xs i ≡ None → i < length xs → A
missing [] i is l = absurd (omega arith)
missing (x ∷ xs) zero is l = absurd cc
missing (x ∷ xs) (suc i) is l = missing xs i is (omega arith)

found_there : (catalog : List Table) (name : List ℕ) (t : ℕ) → position (λ (table : Table). bytes_eq table.name name) catalog ≡ Some t → t < length catalog
found_there [] name t is = absurd cc
found_there (x ∷ catalog) name t is = (position-Some (λ (table : Table). bytes_eq table.name name) (x ∷ catalog) t x is).0

-- the table that a statement names is there
pub is_inside : (catalog : List Table) (s : Statement) (t : ℕ) → table_named catalog s ≡ Some t → t < length catalog
is_inside catalog (statement.Begin begun) t is = absurd cc
is_inside catalog statement.Commit t is = absurd cc
is_inside catalog statement.Rollback t is = absurd cc
is_inside catalog (statement.Insert table values) t is = found_there catalog table t is
is_inside catalog (statement.Select table names e) t is = found_there catalog table t is
is_inside catalog (statement.Update table sets e) t is = found_there catalog table t is
is_inside catalog (statement.Delete table e) t is = found_there catalog table t is

pub is_there : (catalog : List Table) (s : Statement) (t : ℕ) → table_named catalog s ≡ Some t → slice_get catalog t ≡ None → table_named catalog s ≡ None
is_there catalog s t is none = missing catalog t none (is_inside catalog s t is)
