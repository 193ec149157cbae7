use Rattle.std.proofs.Common.{arith}
use Rattle.sk_booked.proofs.Steps.{opens}
use Rattle.sk_booked.proofs.Makings.{filled}
use Rattle.sk_booked.proofs.book.Booked.fill.Goals as goal

pub load-requires : goal.load-requires
load-requires g c = (
  c.requires.table,
  omega arith,
  opens g.V.Journaled.journal g.V.Journaled.ready g.V.Journaled.kin c.args.self.now.table.shared.key c.args.self.now.table.shared.table_id.slots c.args.seat.now.id c.args.seat.now.me c.args.value
      c.requires.first.2 c.requires.first.3 c.requires.first.0 c.requires.first.1 g.met.V.Journaled.kin_self,
)

pub free-requires-clause-holding : goal.free-requires-clause-holding
free-requires-clause-holding g c =
    let opened = c.load.ensures.2 c.args.value c.requires.first.0 in
    let all = filled g.V.Journaled c.args.seat.now.me c.load.new.seat.me c.exchange-emptied.new.seat.me c.args.value
    c.requires.first.2 c.requires.first.3 opened c.exchange-emptied.ensures.3 c.requires.value.0 c.requires.value.1 c.requires.value.2 in
    (c.args.value, c.args.value, all.0, λ first k. k)
