use Rattle.sk_engine.specs.Engines.{StandsBy}
use Rattle.sk_engine.proofs.Serving.{leaves}
use Rattle.sk_model.specs.declared.call.EngineCall.TheVariants as call
use Rattle.sk_chain.specs.Promise.{refused}
use Rattle.std.proofs.Common.{◌≤◌, ◌+◌, refl, sym, subst, arith, true, false}
use Rattle.std.specs.Prelude.{Ok}
use Rattle.std.specs.Vec.{vec_len, vec_capacity}
use Rattle.sk_engine.specs.Rows.{Pushed}
use Rattle.sk_engine.proofs.Calls.{push_meets, serve_put, refused_put, unnoted_put}
use Rattle.sk_engine.proofs.versioned.VersionedEngine.put.Goals as goal

pub push-requires : goal.push-requires
push-requires g c =
    let b = c.args.self.now.book in
    push_meets g.R.Rows.name g.R.Rows.told (g.R.Rows.faults c.args.self.now.rows) (g.R.Rows.faults c.args.self.now.rows) (g.R.Rows.shows c.args.self.now.rows) (g.R.Rows.shows c.args.self.now.rows)
    b b c.requires.0 c.args.tx c.args.table c.args.key.now c.snapshot_in-snapshot.result c.args.row c.snapshot_in-snapshot.ensures c.requires.2 c.requires.3

pub returns-in-Ok : goal.returns-in-Ok
returns-in-Ok g c = record {
  later = c.in-Ok-true.ensures.later;
  holds = λ e js h m.
      let b = c.args.self.now.book in
      serve_put g.R.Rows.name g.R.Rows.told (g.R.Rows.faults c.args.self.now.rows) (g.R.Rows.faults c.push.new.self) (g.R.Rows.shows c.args.self.now.rows) (g.R.Rows.shows c.push.new.self)
      b (record b { openings = c.note.new.openings }) e c.args.tx c.args.table c.args.key.now c.snapshot_in-snapshot.result c.args.row true c.snapshot_in-snapshot.ensures refl refl refl refl
      (subst (λ k. vec_len b.numbers + k ≤ vec_capacity b.numbers) (sym c.in-Ok.ensures.len) h.room) c.in-Ok.ensures.ok
      (λ tables chains k. subst (λ x. Pushed g.R.Rows.shows (g.R.Rows.faults c.args.self.now.rows) (g.R.Rows.faults c.push.new.self) c.push.new.self tables chains (record { table = c.args.table; key = c.args.key.now }) c.args.tx c.snapshot_in-snapshot.result c.args.row (Ok x))
      c.in-Ok-true.field-0-test (c.in-Ok-true.ensures.pushes tables chains k)) h m;
}

pub returns-in-Ok-false : goal.returns-in-Ok-false
returns-in-Ok-false g c = record {
  later = c.in-Ok-false.ensures.later;
  holds = λ e js h m.
      let b = c.args.self.now.book in
      serve_put g.R.Rows.name g.R.Rows.told (g.R.Rows.faults c.args.self.now.rows) (g.R.Rows.faults c.push.new.self) (g.R.Rows.shows c.args.self.now.rows) (g.R.Rows.shows c.push.new.self)
      b b e c.args.tx c.args.table c.args.key.now c.snapshot_in-snapshot.result c.args.row false c.snapshot_in-snapshot.ensures refl refl refl refl h.room (λ q. refl)
      (λ tables chains k. subst (λ x. Pushed g.R.Rows.shows (g.R.Rows.faults c.args.self.now.rows) (g.R.Rows.faults c.push.new.self) c.push.new.self tables chains (record { table = c.args.table; key = c.args.key.now }) c.args.tx c.snapshot_in-snapshot.result c.args.row (Ok x))
      c.in-Ok-false.field-0-test (c.in-Ok-false.ensures.pushes tables chains k)) h m;
}

pub returns-in-Err-note : goal.returns-in-Err-note
returns-in-Err-note g c = record {
  later = omega (arith, c.in-Ok-true.ensures.later, c.act.ensures.later);
  holds = λ e js h m.
      let b = c.args.self.now.book in
      unnoted_put g.R.Rows.name g.R.Rows.told (g.R.Rows.faults c.args.self.now.rows) (g.R.Rows.faults c.act.new.self) (g.R.Rows.shows c.args.self.now.rows) b (record b { openings = c.note.new.openings }) e c.args.tx
      (g.R.Rows.shows c.push.new.self) (g.R.Rows.shows c.act.new.self) c.args.table c.args.key.now c.snapshot_in-snapshot.result c.args.row c.in-Ok-true.field-0 c.snapshot_in-snapshot.ensures c.in-Ok-true.field-0-test
      refl refl refl refl (subst (λ k. vec_len b.numbers + k ≤ vec_capacity b.numbers) (sym c.in-Err-note.ensures.len) h.room) c.in-Err-note.ensures.err c.in-Ok-true.ensures.pushes c.act.ensures.acts h m;
}

pub returns-in-Err : goal.returns-in-Err
returns-in-Err g c = record {
  later = c.in-Err.ensures.later;
  holds = λ e js h m.
      let b = c.args.self.now.book in
      leaves g.R.Rows.told (g.R.Rows.faults c.args.self.now.rows) (g.R.Rows.faults c.push.new.self) (StandsBy g.R.Rows.name (g.R.Rows.shows c.push.new.self) b) e js (call.Put c.args.tx c.args.table c.args.key.now c.args.row) (refused c.in-Err.fault)
      (refused_put g.R.Rows.name g.R.Rows.told (g.R.Rows.faults c.args.self.now.rows) (g.R.Rows.faults c.push.new.self) (g.R.Rows.shows c.args.self.now.rows) b b e c.args.tx
      g.R.Rows.shows c.push.new.self c.args.table c.args.key.now c.snapshot_in-snapshot.result c.args.row c.in-Err.fault c.snapshot_in-snapshot.ensures c.in-Err.ensures.pushes h m);
}
