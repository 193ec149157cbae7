-- A run may begin without rows.
use Rattle.std.specs.Prelude.{◌≡◌, ℕ, zero, suc, List, [], ◌∷◌}
use Rattle.std.proofs.Common.{refl, sym, subst}
use Rattle.sk_rows.specs.declared.table.Table.{Table}
use Rattle.sk_model.specs.Database.{table_of}
use Rattle.sk_model.proofs.Lists.{Each}
use Rattle.sk_store.specs.Begun.{no_rows}
use Rattle.sk_store.specs.Loading.{AreOpeningRows}
use Rattle.sk_store.proofs.Beginning.{none_sorted, none_len}

no_table : (catalog : List Table) (t : ℕ) → table_of (no_rows catalog) t ≡ []
no_table [] t = refl
no_table (c ∷ cs) zero = refl
no_table (c ∷ cs) (suc t) = no_table cs t

pub none_open : (catalog : List Table) → AreOpeningRows catalog (no_rows catalog)
none_open catalog = record { count = none_len catalog; ordered = none_sorted catalog; fit = λ t. subst (Each _) (sym (no_table catalog t)) tt }
