use Rattle.std.proofs.Common.{◌≤◌, map}
use Rattle.std.specs.List.Sorted.{IsStrictlySortedBy}
use Rattle.std.specs.Map.{keys_of}
use Rattle.sk_rows.specs.declared.value.Value.{Value}
use Rattle.sk_rows.specs.Values.{value_cmp}
use Rattle.sk_chain.specs.Chained.{Chained}
use Rattle.sk_chain.specs.Reading.{found}
use Rattle.sk_store.specs.Calls.{KeepsCells}
use Rattle.sk_store.specs.Cells.{Cells}
use Rattle.sk_store.specs.Maps.{head_of}
use Rattle.sk_store.specs.Scanning.{HasRead, with_sights}
use Rattle.sk_store.specs.Shown.{RowShows}
use Rattle.sk_store.proofs.scanning.scan_rows.Given as goal

-- the rows so far are read, and none of them has to be waited for
abbrev pub invariant-loop-key : goal.invariant-loop-key
invariant-loop-key g l = record {
  later : g.P.Pages.faults l.initial.pages ≤ g.P.Pages.faults l.pages;
  keeps : KeepsCells g.P.Pages.has l.initial.pages l.pages;
  so_far : (cells : Cells) (chain : Value → Chained) → g.P.Pages.has l.initial.pages cells → ((q : Value) → RowShows g.P.Pages.told cells l.table.columns q (head_of l.heads.entries q) (chain q)) → IsStrictlySortedBy value_cmp (keys_of l.heads.entries)
      → HasRead g.P.Pages.told l.table.columns (with_sights (λ q. found (chain q) l.by l.snapshot) (map (λ e. (e.0.now, e.1.now)) l.yielded)) l.rows;
}
