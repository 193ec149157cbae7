-- Lists that are put together piece by piece.
use Rattle.std.proofs.Common.{◌≡◌, ◌≤◌, List, [], ◌∷◌, ◌++◌, length, get_or, drop, find, append_assoc, Option, Result, Ok, Err, refl, sym, ap, subst, ◌∙◌, arith}
use Rattle.std.specs.Result.{IsErr, IsErrAnd}
use Rattle.std.specs.Str.{bytes_eq}
use Rattle.sk_rows.specs.declared.value.Value.{Value}
use Rattle.sk_rows.specs.declared.table.Column.{Column}
use Rattle.sk_rows.specs.declared.statement.SetItem.{SetItem}
use Rattle.sk_rows.specs.declared.faults.ValueFault.{ValueFault}
use Rattle.sk_rows.specs.declared.faults.ValueFault.TheVariants.{Overflow, NoMemory}
use Rattle.sk_rows.specs.Memory.{Gives}
use Rattle.sk_rows.specs.Evaluation.{◌>>=◌, wants_memory}
use Rattle.sk_model.specs.Database.{RowOf}
use Rattle.sk_model.specs.Changes.{new_value, new_values}
use Rattle.sk_expr.specs.Extended.{extended, Extends}

one_more : {A : Type 0} (xs : List A) (x : A) (m : Result (List A) ValueFault) → extended xs (m >>= λ ys. Ok (x ∷ ys)) ≡ extended (xs ++ x ∷ []) m
one_more xs x (Ok ys) = ap Ok (sym (append_assoc xs (x ∷ []) ys))
one_more xs x (Err e) = refl

-- a value that was made
pub value_more : (columns : List Column) (row : RowOf) (sets : List SetItem) (c : Column) (cs : List Column) (v : Value) (vs out : List Value) (new : Value)
    → new_value columns row (find (λ s. bytes_eq s.column c.name) sets) v ≡ Ok new
    → extended out (new_values columns row sets (c ∷ cs) (v ∷ vs)) ≡ extended (out ++ new ∷ []) (new_values columns row sets cs vs)
value_more columns row sets c cs v vs out new is = rw is (one_more out new (new_values columns row sets cs vs))

over_back : {A : Type 0} (xs : List A) (m : Result (List A) ValueFault) (f : ValueFault) → extended xs m ≡ Err f → m ≡ Err f
over_back xs (Ok ys) f e = absurd cc
over_back xs (Err g) f e = e

extends_along : {A X : Type 0} (r : Result X ValueFault) (xs ys last : List A) (m n : Result (List A) ValueFault) → extended xs m ≡ extended ys n
    → Extends r ys last n → Extends r xs last m
extends_along (Ok u) xs ys last m n e rest = e ∙ rest
extends_along (Err Overflow) xs ys last m n e rest = over_back xs m Overflow (e ∙ ap (extended ys) rest)
extends_along (Err NoMemory) xs ys last m n e rest = tt

-- the values that are made, from the next column on
pub value_on : {X : Type 0} (columns : List Column) (row : RowOf) (sets : List SetItem) (of cs : List Column) (olds vs : List Value) (c : Column) (v : Value) (set : Option SetItem) (new : Value) (out pushed last : List Value) (r : Result X ValueFault)
    → 1 ≤ length of → 1 ≤ length olds → c ≡ get_or of 0 c → v ≡ get_or olds 0 v → cs ≡ drop 1 of → vs ≡ drop 1 olds
    → set ≡ find (λ s. bytes_eq s.column c.name) sets → new_value columns row set v ≡ Ok new → pushed ≡ out ++ new ∷ []
    → Extends r pushed last (new_values columns row sets cs vs) → Extends r out last (new_values columns row sets of olds)
value_on columns row sets [] cs olds vs c v set new out pushed last r some_of some_olds is_c is_v is_cs is_vs is_set is made rest = absurd (omega arith)
value_on columns row sets (d ∷ ds) cs [] vs c v set new out pushed last r some_of some_olds is_c is_v is_cs is_vs is_set is made rest = absurd (omega arith)
value_on columns row sets (d ∷ ds) cs (w ∷ ws) vs c v set new out pushed last r some_of some_olds is_c is_v is_cs is_vs is_set is made rest =
    let meant : new_value columns row (find (λ s. bytes_eq s.column d.name) sets) w ≡ Ok new = rw (← is_c, ← is_v, ← is_set) is in
    let others : new_values columns row sets cs vs ≡ new_values columns row sets ds ws = rw (is_cs, is_vs) refl in
    let step : extended out (new_values columns row sets (d ∷ ds) (w ∷ ws)) ≡ extended pushed (new_values columns row sets cs vs) =
    value_more columns row sets d ds w ws out new meant ∙ rw (made, others) refl in
    extends_along r out pushed last (new_values columns row sets (d ∷ ds) (w ∷ ws)) (new_values columns row sets cs vs) step rest

-- a value that cannot be made
pub value_ends : {X : Type 0} (columns : List Column) (row : RowOf) (sets : List SetItem) (of : List Column) (olds : List Value) (c : Column) (v : Value) (set : Option SetItem) (f : ValueFault) (out : List Value) (r : Result X ValueFault)
    → 1 ≤ length of → 1 ≤ length olds → c ≡ get_or of 0 c → v ≡ get_or olds 0 v → set ≡ find (λ s. bytes_eq s.column c.name) sets
    → Gives wants_memory (Err f) (new_value columns row set v) → IsErr r × IsErrAnd r (λ e. e ≡ f) → Extends r out out (new_values columns row sets of olds)
value_ends columns row sets [] olds c v set f out r some_of some_olds is_c is_v is_set gives is = absurd (omega arith)
value_ends columns row sets (d ∷ ds) [] c v set f out r some_of some_olds is_c is_v is_set gives is = absurd (omega arith)
value_ends columns row sets (d ∷ ds) (w ∷ ws) c v set f out (Ok u) some_of some_olds is_c is_v is_set gives is = absurd (cc is.0)
value_ends columns row sets (d ∷ ds) (w ∷ ws) c v set f out (Err NoMemory) some_of some_olds is_c is_v is_set gives is = tt
value_ends columns row sets (d ∷ ds) (w ∷ ws) c v set f out (Err Overflow) some_of some_olds is_c is_v is_set gives is =
    let P : ValueFault → Type 0 = λ g. Gives wants_memory (Err g) (new_value columns row set v) in
    let over : new_value columns row set v ≡ Err Overflow = subst P (sym is.1) gives in
    let meant : new_value columns row (find (λ s. bytes_eq s.column d.name) sets) w ≡ Err Overflow = rw (← is_c, ← is_v, ← is_set) over in
    rw meant refl
