use Rattle.sk_engine.specs.Rows.{acted}
use Rattle.sk_mem.proofs.Showing.{shows_changed}
use Rattle.sk_mem.proofs.rows.MemRowsRows.act.Goals as goal

pub returns-clause-acts : goal.returns-clause-acts
returns-clause-acts c = λ tables chains h.
    shows_changed c.args.self.now.catalog c.args.self.now.tables.items c.act_at.new.tables.items tables chains c.args.table c.args.key.now (acted c.args.act) h c.act_at.ensures.len c.act_at.ensures.acts
