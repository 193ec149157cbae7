use Rattle.std.proofs.Common.{refl, arith}
use Rattle.sk_engine.specs.declared.book.Book.{Book}
use Rattle.sk_engine.specs.Stands.{held_in}
use Rattle.sk_engine.proofs.Ends.{wrote_is, serve_stamp}
use Rattle.sk_engine.proofs.versioned.VersionedEngine.stamp.Goals as goal

pub returns-in-Some : goal.returns-in-Some
returns-in-Some g c = record {
  later = c.act_all.ensures.later;
  holds = λ e js h m.
      let b : Book = c.args.self.now.book in
      serve_stamp g.R.Rows.name g.R.Rows.told (g.R.Rows.faults c.args.self.now.rows) (g.R.Rows.faults c.act_all.new.rows) (g.R.Rows.shows c.args.self.now.rows) (g.R.Rows.shows c.act_all.new.rows)
      b (record { openings = c.end.new.openings; greatest = b.greatest; purged = b.purged; numbers = c.enter-self.new.numbers; horizon = c.enter-self.result }) e c.args.tx c.args.n c.in-Some.wrote.keys refl refl c.in-Some.ensures.gone
      (omega (arith, h.room, c.in-Some.ensures.len, c.enter-self.ensures.len, c.enter-self.ensures.capacity)) (wrote_is c.in-Some.wrote.keys (held_in b.openings.entries c.args.tx) c.in-Some.ensures.wrote)
      c.has_row_ids.ensures c.enter-self.ensures.entered c.act_all.ensures.acts h m;
}
