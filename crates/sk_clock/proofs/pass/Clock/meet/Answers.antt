use Rattle.std.proofs.Common.{◌∙◌, ap, arith}
use Rattle.sk_clock.specs.Held.{Held}
use Rattle.sk_clock.proofs.Splits.{notes, tells}
use Rattle.sk_clock.proofs.pass.Clock.meet.Goals as goal

pub split_seat-note-requires : goal.split_seat-note-requires
split_seat-note-requires c = (ap (λ (h : Held). h.table) c.other.view_is ∙ c.requires.1.0, omega arith, notes c.args.self.now.table.shared.key c.other.inside.seat.id c.other.inside.seat.me.0)

pub join_seat-requires : goal.join_seat-requires
join_seat-requires c =
    let e = c.split_seat-note.ensures in (
      ap (λ (h : Held). h.table) c.pass.view_is ∙ c.requires.0.0,
      e.3 ∙ (ap (λ (h : Held). h.table) c.other.view_is ∙ c.requires.1.0),
      ap (λ m. m.1) e.4,
      omega arith,
      tells c.args.self.now.table.shared.key c.pass.inside.seat.id c.pass.inside.seat.me.0 c.split_seat-note.result.id c.split_seat-note.result.me.0 (ap (λ m. m.0.live) e.4) (ap (λ m. m.0.taken) e.4),
    )
