-- How a version stands in the code, as the table's definition has it.
use Rattle.sk_model.specs.Engine.{VersionState, Open, Closed, Stamped, Dropped}
use Rattle.sk_table.specs.declared.row_state.RowState.{RowState}
use Rattle.sk_table.specs.declared.row_state.RowState.TheVariants as standing

abbrev pub state_of : RowState → VersionState
state_of standing.Open = Open
state_of (standing.Closed floor) = Closed floor
state_of (standing.Stamped n) = Stamped n
state_of standing.Dropped = Dropped
