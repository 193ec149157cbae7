use Rattle.sk_engine.specs.Engines.{StandsBy}
use Rattle.sk_engine.proofs.Serving.{leaves}
use Rattle.sk_model.specs.declared.call.EngineCall.TheVariants as call
use Rattle.sk_model.specs.declared.call.EngineReply.TheVariants.{Rows}
use Rattle.sk_chain.specs.Promise.{replied}
use Rattle.sk_engine.proofs.Calls.{serve_scan}
use Rattle.sk_engine.proofs.versioned.VersionedEngine.scan.Goals as goal

pub returns : goal.returns
returns g c = record {
  later = c.scan.ensures.later;
  holds = λ e js h m.
      leaves g.R.Rows.told (g.R.Rows.faults c.args.self.now.rows) (g.R.Rows.faults c.scan.new.self) (StandsBy g.R.Rows.name (g.R.Rows.shows c.scan.new.self) c.args.self.now.book) e js (call.Scan c.args.tx c.args.table) (replied Rows c.scan.result)
      (serve_scan g.R.Rows.name g.R.Rows.told (g.R.Rows.faults c.args.self.now.rows) (g.R.Rows.faults c.scan.new.self) (g.R.Rows.shows c.args.self.now.rows) (g.R.Rows.shows c.scan.new.self)
      c.args.self.now.book e c.args.tx c.args.table c.snapshot_in-snapshot.result (replied Rows c.scan.result) c.snapshot_in-snapshot.ensures c.scan.ensures.keeps c.scan.ensures.scans h m);
}
