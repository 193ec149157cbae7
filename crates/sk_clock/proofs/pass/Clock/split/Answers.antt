use Rattle.std.proofs.Common.{◌∙◌, ap, arith}
use Rattle.sk_clock.specs.Held.{Held}
use Rattle.sk_clock.proofs.Splits.{splits}
use Rattle.sk_clock.proofs.pass.Clock.split.Goals as goal

pub split_seat-requires : goal.split_seat-requires
split_seat-requires c = let s = c.args.self.now.shape in (
  ap (λ (h : Held). h.table) c.pass.view_is ∙ c.requires.0,
  omega arith,
  splits c.args.self.now.table.shared.key c.pass.inside.seat.id c.pass.inside.seat.me.0 c.pass.invariant.0,
)
