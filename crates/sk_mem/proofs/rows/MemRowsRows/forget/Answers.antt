use Rattle.sk_mem.proofs.Showing.{forgets}
use Rattle.sk_mem.proofs.rows.MemRowsRows.forget.Goals as goal

pub returns-clause-forgets : goal.returns-clause-forgets
returns-clause-forgets c = λ tables chains h.
    forgets c.args.self.now.catalog c.args.self.now.tables.items c.forget_at.new.tables.items tables chains c.args.table c.args.key.now c.args.upto h c.forget_at.ensures.len c.forget_at.ensures.here c.forget_at.ensures.others
