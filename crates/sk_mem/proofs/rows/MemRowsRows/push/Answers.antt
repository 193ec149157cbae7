use Rattle.std.proofs.Common.{◌≡◌, ◌<◌, None, true, sym, subst}
use Rattle.sk_chain.specs.Writing.{conflict}
use Rattle.sk_chain.specs.Changing.{may_push}
use Rattle.sk_mem.specs.declared.rows.MemRows.{MemRows}
use Rattle.sk_mem.specs.Chains.{Shows}
use Rattle.sk_mem.proofs.Showing.{pushes}
use Rattle.sk_mem.proofs.rows.MemRowsRows.push.Goals as goal

pub write_at-requires-clause-within : goal.write_at-requires-clause-within
write_at-requires-clause-within c = subst (λ n. c.args.table < n) (sym c.requires.1.1.count) c.requires.1.4

pub write_at-requires-clause-pushes : goal.write_at-requires-clause-pushes
write_at-requires-clause-pushes c =
    subst (λ d. conflict d c.args.by c.args.snapshot ≡ None → may_push d c.args.by ≡ true) (c.requires.1.1.chains c.args.table c.args.key.now) c.requires.1.3

pub returns-clause-pushes : goal.returns-clause-pushes
returns-clause-pushes c = λ tables chains h.
    pushes (λ (x : MemRows). Shows x.catalog x.tables.items) 0 0 (record c.args.self.now { tables = c.write_at.new.tables }) c.args.self.now.catalog c.args.self.now.tables.items c.write_at.new.tables.items
    tables chains c.args.table c.args.key.now c.args.by c.args.snapshot c.args.row
    (λ then k. k) h c.write_at.ensures.len c.write_at.ensures.others c.write_at.result c.write_at.ensures.here
