-- Lists that are put together piece by piece, where a piece may overflow.
use Rattle.std.specs.Prelude.{◌≡◌, List, ◌++◌, Result, Ok, Err}
use Rattle.sk_rows.specs.declared.faults.ValueFault.{ValueFault}
use Rattle.sk_rows.specs.declared.faults.ValueFault.TheVariants.{Overflow, NoMemory}

-- these items, and behind them those that are meant
abbrev pub extended : {A : Type 0} → List A → Result (List A) ValueFault → Result (List A) ValueFault
extended xs (Ok ys) = Ok (xs ++ ys)
extended xs (Err e) = Err e

-- the list was extended by what was meant, unless memory ran out
abbrev pub Extends : {A X : Type 0} → Result X ValueFault → List A → List A → Result (List A) ValueFault → Type 0
Extends (Ok u) old new meant = extended old meant ≡ Ok new
Extends (Err Overflow) old new meant = meant ≡ Err Overflow
Extends (Err NoMemory) old new meant = Unit {0}
