-- Tables as a catalog takes them.
use Rattle.std.specs.Prelude.{◌≡◌, List, [], ◌∷◌, ◌++◌, None}
use Rattle.sk_rows.specs.declared.table.Table.{Table}
use Rattle.sk_rows.specs.Catalog.{add_fault}

-- each of these tables is one that a catalog of those before it takes
abbrev pub CanAdd : List Table → List Table → Type 0
CanAdd before [] = Unit {0}
CanAdd before (t ∷ ts) = (add_fault before t ≡ None) × CanAdd (before ++ t ∷ []) ts
