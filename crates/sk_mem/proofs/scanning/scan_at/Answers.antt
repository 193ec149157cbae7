use Rattle.std.proofs.Common.{◌<◌, ◌≤◌, length, ap, ◌∙◌, arith}
use Rattle.sk_model.specs.declared.call.EngineReply.TheVariants.{Rows}
use Rattle.sk_chain.specs.Promise.{replied}
use Rattle.sk_mem.specs.Chains.{chain_at, chain_of}
use Rattle.sk_mem.proofs.Maps.{chain_here, no_chain}
use Rattle.sk_mem.proofs.Scans.{scans_table, scans_nothing}
use Rattle.sk_mem.proofs.scanning.scan_at.Goals as goal

pub returns-then-table-len : goal.returns-then-table-len
returns-then-table-len c =
    let l : c.args.table < length c.args.tables.now.items = omega arith in
    scans_table c.args.by c.args.snapshot _ (chain_at c.args.tables.now.items c.args.table) (replied Rows c.scan_rows.result) c.scan_rows.ensures.ordered
    (λ q. ap (λ m. chain_of m.entries q) c.index-rows.ensures ∙ chain_here c.args.tables.now.items _ c.args.table q l) c.scan_rows.ensures.gives

pub returns-else-table-len : goal.returns-else-table-len
returns-else-table-len c =
    let l : length c.args.tables.now.items ≤ c.args.table = omega arith in
    scans_nothing c.args.by c.args.snapshot (chain_at c.args.tables.now.items c.args.table) c.new.result (λ q. no_chain c.args.tables.now.items c.args.table q l) c.new.ensures
