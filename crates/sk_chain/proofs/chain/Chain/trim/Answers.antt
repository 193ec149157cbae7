use Rattle.std.proofs.Common.{◌∙◌, ap}
use Rattle.sk_chain.specs.Reading.{found}
use Rattle.sk_chain.specs.Writing.{conflict}
use Rattle.sk_chain.proofs.Trimming.{trim_reads, trim_writes}
use Rattle.sk_chain.proofs.chain.Chain.trim.Goals as goal

pub returns-clause-reads : goal.returns-clause-reads
returns-clause-reads c = λ by s l. ap (λ d. found d by s) c.drop_older.ensures ∙ trim_reads c.args.self.now c.args.upto by s l

pub returns-clause-writes : goal.returns-clause-writes
returns-clause-writes c = λ by s. ap (λ d. conflict d by s) c.drop_older.ensures ∙ trim_writes c.args.self.now c.args.upto by s
