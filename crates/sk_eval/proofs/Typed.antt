-- The sort of an expression from its end on.
use Rattle.std.proofs.Common.{◌≡◌, Result, Ok, Err, refl}
use Rattle.sk_rows.specs.declared.value.Sort.{Sort}
use Rattle.sk_rows.specs.declared.value.Sort.TheVariants as sort
use Rattle.sk_rows.specs.declared.expr.Op.{Op}
use Rattle.sk_rows.specs.declared.faults.TypeFault.{TypeFault}
use Rattle.sk_rows.specs.Typing.{◌>>=◌, not_sort, two_sort}
use Rattle.sk_eval.specs.declared.typing.Outcomes.{Outcomes}
use Rattle.sk_eval.specs.Typed.{by_sort, left_of, negated, of_sort, outcome}

of_by : (f : Sort → Result Sort TypeFault) (s : Sort) → of_sort (by_sort f) s ≡ f s
of_by f sort.Int = refl
of_by f sort.Text = refl
of_by f sort.Bool = refl

-- a left side by what it comes to with its operator and its right side
pub left_outcome : (o : Outcomes) (op : Op) (left right : Result Sort TypeFault)
    → outcome (left_of op right o) left ≡ outcome o (left >>= λ s. right >>= λ t. two_sort op s t)
left_outcome o op (Err fault) right = refl
left_outcome o op (Ok s) right = of_by (λ s. outcome o (right >>= two_sort op s)) s

pub negated_outcome : (o : Outcomes) (found : Result Sort TypeFault) → outcome (negated o) found ≡ outcome o (found >>= not_sort)
negated_outcome o (Err fault) = refl
negated_outcome o (Ok s) = of_by (λ s. outcome o (not_sort s)) s

pub itself : (o : Outcomes) (found : Result Sort TypeFault) → o.int ≡ Ok sort.Int → o.text ≡ Ok sort.Text → o.truth ≡ Ok sort.Bool → outcome o found ≡ found
itself o (Err fault) int text truth = refl
itself o (Ok sort.Int) int text truth = int
itself o (Ok sort.Text) int text truth = text
itself o (Ok sort.Bool) int text truth = truth
