use Rattle.std.proofs.Common.{ap, ◌∙◌, arith}
use Rattle.sk_booked.specs.Kept.{is_busy}
use Rattle.sk_booked.proofs.Entries.{none_of}
use Rattle.sk_booked.proofs.Steps.{locks}
use Rattle.sk_booked.proofs.book.Booked.lock.Goals as goal

pub compare_exchange-found-requires : goal.compare_exchange-found-requires
compare_exchange-found-requires g c =
    let same = c.loop.invariant.same in
    let plain = c.requires.rest.0 in (
      c.loop.invariant.table ∙ c.requires.table,
      omega arith,
      locks g.V.Journaled.journal g.V.Journaled.ready g.V.Journaled.kin c.args.self.now.table.shared.key c.args.self.now.table.shared.table_id.slots c.loop.seat.id c.loop.seat.me
          (ap (λ m. m.0.live) same ∙ plain.0) (ap (λ m. m.0.taken) same ∙ none_of _ plain.1) (ap (λ m. is_busy m.0.stage) same ∙ plain.2) (ap (λ m. m.1) same ∙ none_of _ c.requires.rest.1),
    )
