use Rattle.std.proofs.Common.{ap, arith, rules, ◌≡◌}
use Rattle.sk_engine.specs.declared.book.Book.{Book}
use Rattle.sk_engine.proofs.Calls.{serve_open}
use Rattle.sk_engine.proofs.versioned.VersionedEngine.open.Goals as goal

pub returns : goal.returns
returns g c = record {
  later = omega arith;
  holds = λ e js h m.
      let b = c.args.self.now.book in
      let r = c.reserve.new.book in
      let n : Book = record { openings = c.begin.new.openings; greatest = c.max-self.result; purged = r.purged; numbers = r.numbers; horizon = r.horizon } in
      let same : r ≡ record b { numbers = r.numbers } = c.reserve.ensures.same in
      serve_open g.R.Rows.name g.R.Rows.told (g.R.Rows.faults c.args.self.now.rows) (g.R.Rows.faults c.args.self.now.rows) (g.R.Rows.shows c.args.self.now.rows) (g.R.Rows.shows c.args.self.now.rows)
      b n e c.args.tx c.args.snapshot (search rules) (search rules) (ap (λ (x : Book). x.purged) same) (ap (λ (x : Book). x.horizon) same) c.reserve.ensures.items (search rules) (search rules) h m;
}
