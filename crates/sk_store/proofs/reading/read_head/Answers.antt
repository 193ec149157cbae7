use Rattle.std.proofs.Common.{sym}
use Rattle.sk_model.specs.EngineReplies.{last_in}
use Rattle.sk_chain.specs.Reading.{last_upto}
use Rattle.sk_engine.specs.Rows.{row_in}
use Rattle.sk_store.proofs.Readings.{own_here, own_reads, stamped_reads, waits_reads}
use Rattle.sk_store.proofs.reading.read_head.Goals as goal

pub returns-in-Stamped-clause-reads : goal.returns-in-Stamped-clause-reads
returns-in-Stamped-clause-reads g c = λ cells d h s.
    stamped_reads g.P.Pages.told cells c.args.table.now.columns c.args.key.now c.args.head.now d c.args.by c.args.snapshot _ _ s c.read_stamped.result (sym c.in-Stamped.ensures)
    (λ t. c.read_stamped.ensures.exact cells d t h s) (c.read_stamped.ensures.fits s.fit) c.read_stamped.ensures.caused

pub returns-in-Own-clause-reads : goal.returns-in-Own-clause-reads
returns-in-Own-clause-reads g c = λ cells d h s.
    own_reads g.P.Pages.told cells c.args.table.now.columns c.args.key.now c.args.head.now d c.args.by c.args.snapshot _ _ s c.fetch_cell.result (sym c.in-Own.ensures)
    (λ t. c.fetch_cell.ensures.exact cells (row_in d.top) t h (own_here g.P.Pages.told cells c.args.table.now.columns c.args.key.now c.args.head.now d s t c.args.by c.args.snapshot (sym c.in-Own.ensures))) c.fetch_cell.ensures.fits c.fetch_cell.ensures.caused
