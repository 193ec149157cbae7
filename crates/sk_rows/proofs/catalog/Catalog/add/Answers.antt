use Rattle.std.proofs.Common.{◌≡◌, None, sym, subst}
use Rattle.sk_rows.specs.Catalog.{IsCatalog, add_fault}
use Rattle.sk_rows.proofs.Tables.{catalog_more}
use Rattle.sk_rows.proofs.catalog.Catalog.add.Goals as goal

-- The table that was taken makes a catalog with those before it.
pub invariant_of-self-2 : goal.invariant_of-self-2
invariant_of-self-2 c =
    let none : add_fault c.self.inside.tables c.args.table ≡ None = cc in
    subst (λ tables. IsCatalog tables) (sym c.in_default-push.ensures.ok) (catalog_more c.self.inside.tables c.args.table c.self.invariant none)
