use Rattle.std.proofs.Common.{◌<◌, ◌≤◌, refl, length, ap, ◌∙◌, arith}
use Rattle.sk_store.specs.Heads.{forgotten}
use Rattle.sk_store.specs.Maps.{head_of}
use Rattle.sk_store.proofs.Mapping.{changed_at, changed_past, head_here}
use Rattle.sk_store.proofs.heads.forget_at.Goals as goal

pub returns-then-table-len-clause-forgets : goal.returns-then-table-len-clause-forgets
returns-then-table-len-clause-forgets c =
    let l : c.args.table < length c.args.heads.now.items = omega arith in
    changed_at c.args.heads.now.items c.args.table c.args.key.now (forgotten c.args.upto) c.index_mut-map.result.now c.forget_in.new.heads l
    (λ q. ap (λ m. head_of m.entries q) c.index_mut-map.ensures.value ∙ head_here c.args.heads.now.items _ c.args.table q l) c.forget_in.ensures

pub returns-else-table-len-clause-forgets : goal.returns-else-table-len-clause-forgets
returns-else-table-len-clause-forgets c =
    let l : length c.args.heads.now.items ≤ c.args.table = omega arith in
    changed_past c.args.heads.now.items c.args.table c.args.key.now (forgotten c.args.upto) refl l
