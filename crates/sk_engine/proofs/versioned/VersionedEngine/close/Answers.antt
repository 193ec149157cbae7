use Rattle.std.proofs.Common.{◌≤◌, ◌+◌, refl, sym, subst}
use Rattle.std.specs.Vec.{vec_len, vec_capacity}
use Rattle.sk_engine.proofs.Calls.{serve_close}
use Rattle.sk_engine.proofs.versioned.VersionedEngine.close.Goals as goal

pub returns : goal.returns
returns g c = record {
  later = c.close_all.ensures.later;
  holds = λ e js h m.
      let b = c.args.self.now.book in
      serve_close g.R.Rows.name g.R.Rows.told (g.R.Rows.faults c.args.self.now.rows) (g.R.Rows.faults c.close_all.new.rows) (g.R.Rows.shows c.args.self.now.rows) (g.R.Rows.shows c.close_all.new.rows)
      b (record b { openings = c.shut.new.openings }) e c.args.tx refl refl refl refl c.shut.ensures.openings
      (subst (λ k. vec_len b.numbers + k ≤ vec_capacity b.numbers) (sym c.shut.ensures.len) h.room) c.close_all.ensures.acts h m;
}
