use Rattle.std.proofs.Common.{◌∙◌, sym, ap, subst, arith}
use Rattle.sk_clock.specs.Held.{Held}
use Rattle.sk_clock.specs.Kept.{CanExchange}
use Rattle.sk_clock.proofs.Steps.{exchanges}
use Rattle.sk_clock.proofs.pass.Clock.exchange.Goals as goal

pub compare_exchange-requires : goal.compare_exchange-requires
compare_exchange-requires c = let s = c.args.self.now.shape in (
  ap (λ (h : Held). h.table) c.pass.view_is ∙ c.requires.table.0,
  omega arith,
  exchanges c.args.self.now.table.shared.key c.args.self.now.table.shared.table_id.slots c.pass.inside.seat.id c.pass.inside.seat.me c.args.place c.args.old c.args.new c.pass.invariant.0
      (subst (λ (h : Held). CanExchange h.view c.args.place c.args.old c.args.new) (sym c.pass.view_is) c.requires.step),
)
