-- What clauses see of a pass.
use base.Stored.{Coded, coded×, coded_via}
use Rattle.atomic_table.specs.Seated.{TableId, table_id_coded}
use Rattle.sk_clock.specs.declared.view.View.{View}
use Rattle.sk_clock.specs.contracts.view.View as v

-- the table of its clock, and what it knows
pub record Held : Type 0 where
  pub table : TableId
  pub view : View

abbrev pub held_coded : Coded Held
held_coded = coded_via (coded× table_id_coded v.the_row.coded) (λ (h : Held). (h.table, h.view)) (λ x y e i. record { table = (e i).0; view = (e i).1 })
