use Rattle.std.proofs.Common.{ap, ◌∙◌}
use Rattle.sk_mem.specs.Chains.{chain_of}
use Rattle.sk_mem.proofs.Maps.{others_at, written_at, chain_here}
use Rattle.sk_mem.proofs.chains.write_at.Goals as goal

pub returns-in-Ok-clause-others : goal.returns-in-Ok-clause-others
returns-in-Ok-clause-others c =
    others_at c.args.tables.now.items c.args.table c.args.key.now c.index_mut-rows.result.now c.write.new.rows c.requires.within
    (λ q. ap (λ m. chain_of m.entries q) c.index_mut-rows.ensures.value ∙ chain_here c.args.tables.now.items _ c.args.table q c.requires.within)
    (λ q e. c.write.ensures.others q e ∙ c.prepare.ensures q)

pub returns-in-Err-clause-here : goal.returns-in-Err-clause-here
returns-in-Err-clause-here c =
    written_at c.args.tables.now.items c.args.table c.args.key.now c.prepare.new.rows c.requires.within ∙ c.prepare.ensures c.args.key.now
    ∙ ap (λ m. chain_of m.entries c.args.key.now) c.index_mut-rows.ensures.value ∙ chain_here c.args.tables.now.items _ c.args.table c.args.key.now c.requires.within

pub returns-in-Err-clause-others : goal.returns-in-Err-clause-others
returns-in-Err-clause-others c =
    others_at c.args.tables.now.items c.args.table c.args.key.now c.index_mut-rows.result.now c.prepare.new.rows c.requires.within
    (λ q. ap (λ m. chain_of m.entries q) c.index_mut-rows.ensures.value ∙ chain_here c.args.tables.now.items _ c.args.table q c.requires.within)
    (λ q e. c.prepare.ensures q)
