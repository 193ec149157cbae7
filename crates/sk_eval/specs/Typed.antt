-- The sort of an expression from its end on.
use Rattle.std.specs.Prelude.{Result}
use Rattle.sk_rows.specs.declared.value.Sort.{Sort}
use Rattle.sk_rows.specs.declared.value.Sort.TheVariants as sort
use Rattle.sk_rows.specs.declared.expr.Op.{Op}
use Rattle.sk_rows.specs.declared.faults.TypeFault.{TypeFault}
use Rattle.sk_rows.specs.Typing.{◌>>=◌, not_sort, two_sort}
use Rattle.sk_eval.specs.declared.typing.Outcomes.{Outcomes}

-- what the whole comes to, where what is left has this sort
abbrev pub of_sort : Outcomes → Sort → Result Sort TypeFault
of_sort o sort.Int = o.int
of_sort o sort.Text = o.text
of_sort o sort.Bool = o.truth

abbrev pub outcome : Outcomes → Result Sort TypeFault → Result Sort TypeFault
outcome o found = found >>= of_sort o

-- the same by what it comes to for each sort
abbrev pub by_sort : (Sort → Result Sort TypeFault) → Outcomes
by_sort f = record { int = f sort.Int; text = f sort.Text; truth = f sort.Bool }

-- where what is left is the left side of an operator
abbrev pub left_of : Op → Result Sort TypeFault → Outcomes → Outcomes
left_of op right o = by_sort (λ s. outcome o (right >>= two_sort op s))

-- where what is left stands behind a NOT
abbrev pub negated : Outcomes → Outcomes
negated o = by_sort (λ s. outcome o (not_sort s))
