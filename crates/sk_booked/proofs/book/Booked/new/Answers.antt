use Rattle.sk_booked.proofs.Splits.{begins}
use Rattle.sk_booked.proofs.book.Booked.new.Goals as goal

pub vacant-requires : goal.vacant-requires
vacant-requires g c = begins g.V.Journaled.journal g.V.Journaled.ready g.V.Journaled.kin c.args.value c.entries-count.result c.entries-count.ensures
