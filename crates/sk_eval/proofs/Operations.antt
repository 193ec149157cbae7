-- What the operations of an expression come to.
use Rattle.std.proofs.Common.{◌≡◌, List, [], ◌∷◌, ◌++◌, Result, Ok, Err, refl, sym, ap, subst, ◌∙◌}
use Rattle.std.specs.Result.{IsErr, IsErrAnd}
use Rattle.sk_rows.specs.declared.value.Value.{Value}
use Rattle.sk_rows.specs.declared.table.Column.{Column}
use Rattle.sk_rows.specs.declared.expr.Op.{Op}
use Rattle.sk_rows.specs.declared.expr.Expr.{Expr}
use Rattle.sk_rows.specs.declared.expr.Expr.TheVariants as expr
use Rattle.sk_rows.specs.declared.expr.Expr.TheOpen.{Expr-F}
use Rattle.sk_rows.specs.declared.expr.Expr.TheFolds.{fold-roll-Expr}
use Rattle.sk_rows.specs.declared.operations.Operation.{Operation}
use Rattle.sk_rows.specs.declared.faults.ValueFault.{ValueFault}
use Rattle.sk_rows.specs.declared.faults.ValueFault.TheVariants.{Overflow, NoMemory}
use Rattle.sk_rows.specs.Memory.{Gives}
use Rattle.sk_rows.specs.Evaluation.{◌>>=◌, compute, value_in, value_step, wants_memory}
use Rattle.sk_rows.specs.Spine.{joined}
use Rattle.sk_eval.specs.declared.seen.Seen.{Seen}
use Rattle.sk_eval.specs.Seen.{operated, result_seen}

module _ (columns : List Column) (row : List Value) where
  value_two : (o : Op) (a b : Expr) → value_in columns row (expr.Two o a b) ≡ (value_in columns row a >>= λ x. value_in columns row b >>= λ y. compute o x y)
  value_two o a b = ap (value_in columns row) (sym (expr.rolls-Two o a b)) ∙ fold-roll-Expr (Result Value ValueFault) (value_step columns row) (Expr-F.Two o a b)

  -- the value of an expression is what its operations come to behind its first part
  pub value_joined : (os : List Operation) (e : Expr) → value_in columns row (joined os e) ≡ operated columns row os (value_in columns row e)
  value_joined [] e = refl
  value_joined (o ∷ os) e =
      value_two o.op (joined os e) o.right.now ∙ ap (λ left. left >>= λ x. value_in columns row o.right.now >>= λ y. compute o.op x y) (value_joined os e)

  -- the innermost operation is the first that is made
  pub operated_pop : (os : List Operation) (o : Operation) (left : Result Value ValueFault)
      → operated columns row (os ++ o ∷ []) left ≡ operated columns row os (left >>= λ x. value_in columns row o.right.now >>= λ y. compute o.op x y)
  operated_pop [] o left = refl
  operated_pop (p ∷ ps) o left = ap (λ l. l >>= λ x. value_in columns row p.right.now >>= λ y. compute p.op x y) (operated_pop ps o left)

  pub operated_fails : (os : List Operation) (fault : ValueFault) → operated columns row os (Err fault) ≡ Err fault
  operated_fails [] fault = refl
  operated_fails (o ∷ os) fault = ap (λ l. l >>= λ x. value_in columns row o.right.now >>= λ y. compute o.op x y) (operated_fails os fault)

  -- where the first part has no value, the expression has none
  pub first_fails : (os : List Operation) (first whole : Expr) (f : ValueFault) (r : Result Seen ValueFault) → joined os first ≡ whole
      → Gives wants_memory (Err f) (value_in columns row first) → IsErr r × IsErrAnd r (λ e. e ≡ f) → Gives wants_memory (result_seen r) (value_in columns row whole)
  first_fails os first whole f (Ok x) is gives failed = absurd (cc failed.0)
  first_fails os first whole f (Err NoMemory) is gives failed = tt
  first_fails os first whole f (Err Overflow) is gives failed =
      let P : ValueFault → Type 0 = λ g. Gives wants_memory (Err g) (value_in columns row first) in
      let over : value_in columns row first ≡ Err Overflow = subst P (sym failed.1) gives in
      ap (value_in columns row) (sym is) ∙ value_joined os first ∙ ap (operated columns row os) over ∙ operated_fails os Overflow
