-- The sides of an operator.
use Rattle.std.proofs.Common.{◌≡◌, refl}
use Rattle.sk_rows.specs.declared.expr.Op.{Op}
use Rattle.sk_rows.specs.declared.expr.Op.TheVariants as op
use Rattle.sk_model.specs.Reads.{Shape, Name, Literal, Equation, Other, joined}
use Rattle.sk_expr.specs.Shapes.{side}

-- an operator joins shapes as it joins sides
pub joined_sides : (o : Op) (a b : Shape) → joined o (side a) (side b) ≡ joined o a b
joined_sides op.Eq (Name n) (Name m) = refl
joined_sides op.Eq (Name n) (Literal v) = refl
joined_sides op.Eq (Name n) (Equation m v) = refl
joined_sides op.Eq (Name n) Other = refl
joined_sides op.Eq (Literal v) b = refl
joined_sides op.Eq (Equation n v) b = refl
joined_sides op.Eq Other b = refl
joined_sides op.Or a b = refl
joined_sides op.And a b = refl
joined_sides op.Ne a b = refl
joined_sides op.Lt a b = refl
joined_sides op.Le a b = refl
joined_sides op.Gt a b = refl
joined_sides op.Ge a b = refl
joined_sides op.Add a b = refl
joined_sides op.Sub a b = refl
joined_sides op.Mul a b = refl

-- an operation is neither a name nor a literal
pub other_side : (o : Op) (a b : Shape) → side (joined o a b) ≡ Other
other_side op.Eq (Name n) (Name m) = refl
other_side op.Eq (Name n) (Literal v) = refl
other_side op.Eq (Name n) (Equation m v) = refl
other_side op.Eq (Name n) Other = refl
other_side op.Eq (Literal v) b = refl
other_side op.Eq (Equation n v) b = refl
other_side op.Eq Other b = refl
other_side op.Or a b = refl
other_side op.And a b = refl
other_side op.Ne a b = refl
other_side op.Lt a b = refl
other_side op.Le a b = refl
other_side op.Gt a b = refl
other_side op.Ge a b = refl
other_side op.Add a b = refl
other_side op.Sub a b = refl
other_side op.Mul a b = refl
