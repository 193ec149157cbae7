use Rattle.std.proofs.Common.{arith}
use Rattle.sk_booked.proofs.Entries.{none_of}
use Rattle.sk_booked.proofs.Splits.{splits}
use Rattle.sk_booked.proofs.book.Booked.split.Goals as goal

pub split_seat-requires : goal.split_seat-requires
split_seat-requires g c =
    let plain = c.args.pass.now.plain.0 in (
      c.requires,
      omega arith,
      splits g.V.Journaled.journal g.V.Journaled.ready g.V.Journaled.kin c.args.self.now.table.shared.key c.args.pass.now.seat.id c.args.pass.now.seat.me.0 plain.0 (none_of _ plain.1) plain.2,
    )
