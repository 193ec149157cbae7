use Rattle.std.proofs.Common.{◌<◌, ◌≤◌, length, ap, ◌∙◌, arith}
use Rattle.sk_engine.specs.Rows.{acted}
use Rattle.sk_mem.specs.Chains.{chain_of}
use Rattle.sk_mem.proofs.Maps.{changed_at, changed_past, chain_here, acted_empty}
use Rattle.sk_mem.proofs.chains.act_at.Goals as goal

pub returns-then-table-len-clause-acts : goal.returns-then-table-len-clause-acts
returns-then-table-len-clause-acts c =
    let l : c.args.table < length c.args.tables.now.items = omega arith in
    changed_at c.args.tables.now.items c.args.table c.args.key.now (acted c.args.act) c.index_mut-rows.result.now c.act_in.new.rows l
    (λ q. ap (λ m. chain_of m.entries q) c.index_mut-rows.ensures.value ∙ chain_here c.args.tables.now.items _ c.args.table q l) c.act_in.ensures

pub returns-else-table-len-clause-acts : goal.returns-else-table-len-clause-acts
returns-else-table-len-clause-acts c =
    let l : length c.args.tables.now.items ≤ c.args.table = omega arith in
    changed_past c.args.tables.now.items c.args.table c.args.key.now (acted c.args.act) (acted_empty c.args.act) l
