use Rattle.std.proofs.Common.{true}
use Rattle.sk_model.specs.declared.call.EngineReply.TheVariants.{Rows}
use Rattle.sk_chain.specs.Promise.{replied}
use Rattle.sk_mem.proofs.Showing.{scans}
use Rattle.sk_mem.proofs.rows.MemRowsRows.scan.Goals as goal

pub returns-clause-scans : goal.returns-clause-scans
returns-clause-scans c = λ tables chains h.
    scans true 0 0 c.args.self.now.catalog c.args.self.now.tables.items tables chains c.args.table c.args.by c.args.snapshot (replied Rows c.scan_at.result) h c.scan_at.ensures
