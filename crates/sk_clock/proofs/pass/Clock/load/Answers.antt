use Rattle.std.proofs.Common.{◌∙◌, ap, arith}
use Rattle.sk_clock.specs.Held.{Held}
use Rattle.sk_clock.proofs.Steps.{loads}
use Rattle.sk_clock.proofs.pass.Clock.load.Goals as goal

pub load-requires : goal.load-requires
load-requires c = let s = c.args.self.now.shape in (
  ap (λ (h : Held). h.table) c.pass.view_is ∙ c.requires.table.0,
  omega arith,
  loads c.args.self.now.table.shared.key c.args.self.now.table.shared.table_id.slots c.pass.inside.seat.id c.pass.inside.seat.me c.args.place c.pass.invariant.0,
)
