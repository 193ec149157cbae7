-- The shape of a condition as the definition of reads has it.
use Rattle.sk_model.specs.Reads.{Shape, Name, Literal, Equation, Other}
use Rattle.sk_expr.specs.declared.shapes.Shape.{Shape as Seen}
use Rattle.sk_expr.specs.declared.shapes.Shape.TheVariants as seen

abbrev pub shape_seen : Seen → Shape
shape_seen (seen.Name name) = Name name.now
shape_seen (seen.Literal value) = Literal value.now
shape_seen (seen.Equation name value) = Equation name.now value.now
shape_seen seen.Other = Other

-- as a side of an operator an equation is neither a name nor a literal
abbrev pub side : Shape → Shape
side (Equation name v) = Other
side s = s
