use Rattle.std.proofs.Common.{◌↔◌, drop}
use Rattle.sk_model.specs.Records.{Told}
use Rattle.sk_expr.proofs.told.all_told.Given as goal

-- All is told exactly where what is to come is.
abbrev pub invariant-loop-one : goal.invariant-loop-one
invariant-loop-one l = Told l.catalog l.tables.items (drop l.one-index l.said) ↔ Told l.catalog l.initial.tables.items l.said
