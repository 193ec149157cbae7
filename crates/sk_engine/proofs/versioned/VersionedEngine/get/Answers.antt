use Rattle.sk_engine.specs.Engines.{StandsBy}
use Rattle.sk_engine.proofs.Serving.{leaves}
use Rattle.sk_model.specs.declared.call.EngineCall.TheVariants as call
use Rattle.sk_model.specs.declared.call.EngineReply.TheVariants.{Found}
use Rattle.sk_chain.specs.Promise.{replied}
use Rattle.sk_engine.proofs.Calls.{serve_get}
use Rattle.sk_engine.proofs.versioned.VersionedEngine.get.Goals as goal

pub returns : goal.returns
returns g c = record {
  later = c.see.ensures.later;
  holds = λ e js h m.
      let b = c.args.self.now.book in
      leaves g.R.Rows.told (g.R.Rows.faults c.args.self.now.rows) (g.R.Rows.faults c.see.new.self) (StandsBy g.R.Rows.name (g.R.Rows.shows c.see.new.self) b) e js (call.Get c.args.tx c.args.table c.args.key.now) (replied Found c.see.result)
      (serve_get g.R.Rows.name g.R.Rows.told (g.R.Rows.faults c.args.self.now.rows) (g.R.Rows.faults c.see.new.self) (g.R.Rows.shows c.args.self.now.rows) (g.R.Rows.shows c.see.new.self)
      b b e c.args.tx c.args.table c.args.key.now c.snapshot_in-snapshot.result (replied Found c.see.result) c.snapshot_in-snapshot.ensures c.see.ensures.keeps c.see.ensures.reads h m);
}
