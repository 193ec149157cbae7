use Rattle.std.proofs.Common.{arith}
use Rattle.sk_booked.proofs.Steps.{frees}
use Rattle.sk_booked.proofs.book.Booked.free.Goals as goal

pub swap-requires : goal.swap-requires
swap-requires g c =
    let x = c.requires.holding.0 in
    let y = c.requires.holding.1 in
    let h = c.requires.holding.2 in (
      c.requires.table,
      omega arith,
      frees g.V.Journaled.journal g.V.Journaled.ready g.V.Journaled.kin c.args.self.now.table.shared.key c.args.self.now.table.shared.table_id.slots c.args.seat.now.id c.args.seat.now.me x y
          c.args.self.now.one_slot h.live h.alone h.stage h.slot h.is_ready h.journal_is c.requires.holding.3,
    )
