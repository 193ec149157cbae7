use Rattle.std.proofs.Common.{true, ap}
use Rattle.sk_model.specs.declared.call.EngineReply.TheVariants.{Found}
use Rattle.sk_chain.specs.Promise.{replied}
use Rattle.sk_engine.specs.Rows.{reading}
use Rattle.sk_mem.specs.Chains.{chain_at}
use Rattle.sk_mem.proofs.Showing.{gives}
use Rattle.sk_mem.proofs.rows.MemRowsRows.see.Goals as goal

pub returns-clause-reads : goal.returns-clause-reads
returns-clause-reads c = λ tables chains h.
    gives true 0 0 _ (reading (chain_at c.args.self.now.tables.items c.args.table c.args.key.now) c.args.by c.args.snapshot) (reading (chains c.args.table c.args.key.now) c.args.by c.args.snapshot) (replied Found c.read_at.result)
    (ap (λ d. reading d c.args.by c.args.snapshot) (h.chains c.args.table c.args.key.now)) c.read_at.ensures
