use Rattle.sk_undo.proofs.Seen.{filled_rows}
use Rattle.sk_undo.proofs.laws.fill_rows.Goals as goal

pub returns : goal.returns
returns c = filled_rows
