use Rattle.std.proofs.Common.{◌≡◌, List, take}
use Rattle.sk_rows.specs.declared.table.Table.{Table}
use Rattle.sk_chain.specs.Chained.{empty}
use Rattle.sk_store.specs.Loading.{AreOpeningRows}
use Rattle.sk_store.proofs.Opening.{first_begun}
use Rattle.sk_store.proofs.loading.load_tables.Given as goal

-- the rows of the tables so far are shown
abbrev pub invariant-loop-entries : goal.invariant-loop-entries
invariant-loop-entries g l = record {
  number : l.number ≡ l.entries-index;
  shown : (tables : List Table) → g.R.Rows.shows l.initial.rows tables (λ t key. empty) → AreOpeningRows tables l.opening → g.R.Rows.shows l.rows tables (first_begun l.start (take l.entries-index l.opening));
}
