use Rattle.std.proofs.Common.{true, sym, subst}
use Rattle.sk_model.specs.Database.{Tables}
use Rattle.sk_store.specs.Cells.{HasCells}
use Rattle.sk_store.specs.Loading.{AreOpeningRows}
use Rattle.sk_store.specs.Maps.{Shows}
use Rattle.sk_store.proofs.Opening.{first_begun}
use Rattle.sk_store.proofs.engine.StoreEngine.new.Goals as goal

pub returns-in-Ok : goal.returns-in-Ok
returns-in-Ok c =
    let tables = c.args.catalog.now in
    let is = c.as_slice.ensures in
    let opening : AreOpeningRows tables c.args.rows.now = record { count = c.requires.count; ordered = c.requires.ordered; fit = c.requires.fit } in
    let paged = c.load_tables.new.rows in
    λ js. c.new-engine.ensures tables c.args.rows.now c.requires.count c.requires.ordered
    (subst (λ (o : Tables). Shows true (HasCells paged.pages) paged.catalog paged.heads.items tables (first_begun c.args.start o)) is
    (c.in-Ok.ensures tables c.in_ok-paged.ensures (subst (AreOpeningRows tables) (sym is) opening)))
