use Rattle.std.proofs.Common.{◌<◌, ◌≤◌, length, ap, ◌∙◌, arith}
use Rattle.sk_store.specs.Heads.{acted_head}
use Rattle.sk_store.specs.Maps.{head_of}
use Rattle.sk_store.proofs.Mapping.{changed_at, changed_past, head_here, acted_none}
use Rattle.sk_store.proofs.heads.act_at.Goals as goal

pub returns-then-table-len-clause-acts : goal.returns-then-table-len-clause-acts
returns-then-table-len-clause-acts c =
    let l : c.args.table < length c.args.heads.now.items = omega arith in
    changed_at c.args.heads.now.items c.args.table c.args.key.now (acted_head c.args.act) c.index_mut-map.result.now c.act_in.new.heads l
    (λ q. ap (λ m. head_of m.entries q) c.index_mut-map.ensures.value ∙ head_here c.args.heads.now.items _ c.args.table q l) c.act_in.ensures

pub returns-else-table-len-clause-acts : goal.returns-else-table-len-clause-acts
returns-else-table-len-clause-acts c =
    let l : length c.args.heads.now.items ≤ c.args.table = omega arith in
    changed_past c.args.heads.now.items c.args.table c.args.key.now (acted_head c.args.act) (acted_none c.args.act) l
