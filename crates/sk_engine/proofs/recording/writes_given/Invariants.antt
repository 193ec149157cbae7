use Rattle.std.proofs.Common.{◌≤◌, List, map}
use Rattle.sk_rows.specs.declared.table.Table.{Table}
use Rattle.sk_engine.specs.Rows.{Chains, Keeps}
use Rattle.sk_engine.specs.Recording.{Alike, IsWrite, write_given}
use Rattle.sk_engine.proofs.recording.writes_given.Given as goal

-- the writes of the rows so far
abbrev pub invariant-loop-row_id : goal.invariant-loop-row_id
invariant-loop-row_id g l = record {
  later : g.R.Rows.faults l.initial.rows ≤ g.R.Rows.faults l.rows;
  keeps : Keeps g.R.Rows.shows l.initial.rows l.rows;
  gives : (tables : List Table) (chains : Chains) → g.R.Rows.shows l.initial.rows tables chains → Alike (IsWrite g.R.Rows.told tables) (map (write_given chains l.n) (map (λ p. p.now) l.yielded)) l.writes.items;
}
