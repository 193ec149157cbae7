use Rattle.std.proofs.Common.{true, subst}
use Rattle.sk_engine.specs.Rows.{Chains}
use Rattle.sk_store.specs.Begun.{no_rows}
use Rattle.sk_store.specs.Cells.{HasCells}
use Rattle.sk_store.specs.Maps.{Shows}
use Rattle.sk_store.proofs.Beginning.{none_begun, none_len, none_sorted}
use Rattle.sk_store.proofs.engine.StoreEngine.without_rows.Goals as goal

pub returns : goal.returns
returns c =
    let tables = c.args.catalog.now in
    let paged = c.in_ok-paged.paged in
    λ js. c.new-engine.ensures tables (no_rows tables) (none_len tables) (none_sorted tables)
    (subst (λ (chains : Chains). Shows true (HasCells paged.pages) paged.catalog paged.heads.items tables chains) (none_begun tables c.args.start) c.in_ok-paged.ensures)
