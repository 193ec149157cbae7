use Rattle.std.proofs.Common.{true, ap}
use Rattle.sk_model.specs.declared.call.EngineReply.TheVariants.{Found}
use Rattle.sk_chain.specs.Promise.{replied}
use Rattle.sk_engine.specs.Rows.{given}
use Rattle.sk_mem.specs.Chains.{chain_at}
use Rattle.sk_mem.proofs.Showing.{gives}
use Rattle.sk_mem.proofs.rows.MemRowsRows.given.Goals as goal

pub returns-clause-gives : goal.returns-clause-gives
returns-clause-gives c = λ tables chains h.
    gives true 0 0 _ (given (chain_at c.args.self.now.tables.items c.args.table c.args.key.now) c.args.n) (given (chains c.args.table c.args.key.now) c.args.n) (replied Found c.given_at.result)
    (ap (λ d. given d c.args.n) (h.chains c.args.table c.args.key.now)) c.given_at.ensures
