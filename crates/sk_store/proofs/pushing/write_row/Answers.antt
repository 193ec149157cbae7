use Rattle.sk_store.proofs.pushing.write_row.Goals as goal

pub returns-in-None-clause-writes : goal.returns-in-None-clause-writes
returns-in-None-clause-writes g c = λ cells d h s m. c.write_over.ensures.writes cells c.args.table.now.columns c.args.key.now d h s m
