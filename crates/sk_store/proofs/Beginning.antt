-- An engine without rows shows no versions.
use Rattle.std.specs.Prelude.{◌≡◌, ℕ, zero, suc, List, [], ◌∷◌, ◌++◌, Option, Some, None, Bool, true, false, T, length}
use Rattle.std.proofs.Common.{refl, sym, ap, subst, ◌∙◌}
use Rattle.std.specs.BTreeMap.{BTreeMap}
use Rattle.std.specs.FinMap.{is_sorted}
use Rattle.sk_rows.specs.declared.value.Value.{Value}
use Rattle.sk_rows.specs.declared.table.Column.{Column}
use Rattle.sk_rows.specs.declared.table.Table.{Table}
use Rattle.sk_rows.specs.Values.{value_cmp}
use Rattle.sk_model.specs.Database.{row_of, table_of}
use Rattle.sk_model.specs.Names.{columns_at}
use Rattle.sk_chain.specs.Chained.{Chained, empty}
use Rattle.sk_engine.specs.Rows.{Chains}
use Rattle.sk_engine.specs.Stands.{begun}
use Rattle.sk_store.specs.declared.head.Head.{Head}
use Rattle.sk_store.specs.Begun.{no_rows}
use Rattle.sk_store.specs.Cells.{Cells, HasCells, cells_of}
use Rattle.sk_store.specs.Heads.{no_head}
use Rattle.sk_store.specs.Maps.{Shows, head_at, head_of}
use Rattle.sk_store.specs.Shown.{Owns, RowShows, row_id}
use Rattle.sk_store.proofs.Acts.{none_seen}

-- one more map without heads
pub none_more : (maps : List (BTreeMap Value Head)) (m : BTreeMap Value Head) → ((t : ℕ) (key : Value) → head_at maps t key ≡ no_head) → m.entries ≡ [] → (t : ℕ) (key : Value) → head_at (maps ++ m ∷ []) t key ≡ no_head
none_more [] m h e zero key = ap (λ es. head_of es key) e
none_more [] m h e (suc t) key = refl
none_more (x ∷ xs) m h e zero key = h 0 key
none_more (x ∷ xs) m h e (suc t) key = none_more xs m (λ n k. h (suc n) k) e t key

no_row : (tables : List Table) (t : ℕ) (key : Value) → row_of (no_rows tables) t key ≡ None
no_row [] t key = refl
no_row (x ∷ xs) zero key = refl
no_row (x ∷ xs) (suc t) key = no_row xs t key

pub none_sorted : (tables : List Table) (t : ℕ) → T (is_sorted value_cmp (table_of (no_rows tables) t))
none_sorted [] t = tt
none_sorted (x ∷ xs) zero = tt
none_sorted (x ∷ xs) (suc t) = none_sorted xs t

pub none_len : (tables : List Table) → length (no_rows tables) ≡ length tables
none_len [] = refl
none_len (x ∷ xs) = ap suc (none_len xs)

none_shown : (cells : Cells) (columns : List Column) (key : Value) → RowShows true cells columns key no_head empty
none_shown cells columns key = record { top = refl; last = refl; fit = λ at. tt; holds = λ t s. sym (none_seen s) }

pub begins : (kept tables : List Table) (maps : List (BTreeMap Value Head)) (pages : List (List (Option (List ℕ)))) → kept ≡ tables → length maps ≡ length tables → ((t : ℕ) (key : Value) → head_at maps t key ≡ no_head)
    → Shows true (HasCells pages) kept maps tables (λ t key. empty)
begins kept tables maps pages same count none = record {
  catalog = same;
  count = count;
  all = record {
    cells = cells_of pages;
    has_cells = λ p s. refl;
    rows = λ t key. subst (λ g. RowShows true (cells_of pages) (columns_at tables t) key g empty) (sym (none t key)) (none_shown (cells_of pages) (columns_at tables t) key);
    apart = λ told. record {
      owner = λ p s. None;
      owned = λ t key. subst (λ g. Owns (λ p s. None) g.cell (row_id t key)) (sym (none t key)) tt;
      used = λ p s e. absurd cc;
    };
  };
}

-- no rows have no versions
pub none_begun : (tables : List Table) (start : ℕ) → ◌≡◌ {A = Chains} (λ t key. empty) (λ t key. begun start (row_of (no_rows tables) t key))
none_begun tables start = λ i t key. begun start (sym (no_row tables t key) i)
