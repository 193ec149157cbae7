-- One session inserts into a table of the memory engine and then into one of storage, with no point between the two: the woven
-- list has the second commit first. The run is of one database. It is not where a commit is left out of the list, has a number
-- that its record did not draw, or where a record's place is not that of its snapshots.
use Rattle.std.specs.Prelude.{◌≡◌, ℕ, List, [], ◌∷◌, Option, Some, None, true, false, pos}
use Rattle.std.proofs.Common.{refl, arith}
use Rattle.std.specs.List.{IsDistinct}
use Rattle.std.proofs.lemmas.List.Sorted.{length_permutation, sum_by-IsPermutation}
use Rattle.sk_rows.specs.declared.value.Value.{Value}
use Rattle.sk_rows.specs.declared.value.Value.TheVariants as value
use Rattle.sk_rows.specs.declared.value.Sort.TheVariants as sort
use Rattle.sk_rows.specs.declared.table.Column.{Column}
use Rattle.sk_rows.specs.declared.table.Table.{Table}
use Rattle.sk_rows.specs.declared.statement.Statement.TheVariants as statement
use Rattle.sk_model.specs.declared.commit.Commit.{Commit}
use Rattle.sk_model.specs.declared.record.Record.{Record}
use Rattle.sk_model.specs.declared.record.Said.{Said}
use Rattle.sk_model.specs.declared.record.TxKind.TheVariants as kind
use Rattle.sk_model.specs.declared.record.Ending.TheVariants as ending
use Rattle.sk_model.specs.declared.reply.Reply.TheVariants as reply
use Rattle.sk_model.specs.Database.{RowOf, Tables}
use Rattle.sk_model.specs.Engine.{write_at}
use Rattle.sk_model.specs.Replies.{insert_refusal}
use Rattle.sk_model.specs.Records.{all_commits, OneDatabase}

abbrev columns : List Column
columns = record { name = 105 ∷ []; sort = sort.Int } ∷ record { name = 118 ∷ []; sort = sort.Int } ∷ []

abbrev catalog : List Table
catalog = record { name = 97 ∷ []; store = false; columns = columns } ∷ record { name = 99 ∷ []; store = true; columns = columns } ∷ []

abbrev opening : Tables
opening = [] ∷ [] ∷ []

abbrev key : Value
key = value.Int (pos 1)

abbrev row : RowOf
row = key ∷ key ∷ []

abbrev inserts : ℕ → Said
inserts letter = record { statement = statement.Insert (letter ∷ []) row; reply = reply.Count 1 }

abbrev first : Record
first = record { label = record { session = 1; k = 1 }; kind = kind.Mem; mem = Some 0; store = None; said = inserts 97 ∷ []; ending = ending.Committed; drew_mem = Some 1; drew_store = None; made = [] }

abbrev second : Record
second = record { label = record { session = 1; k = 2 }; kind = kind.Store; mem = None; store = Some 0; said = inserts 99 ∷ []; ending = ending.Committed; drew_mem = None; drew_store = Some 1; made = [] }

abbrev in_mem : Commit
in_mem = record { label = first.label; mem = Some 1; store = None; writes = write_at 0 key (Some row) ∷ [] }

abbrev in_store : Commit
in_store = record { label = second.label; mem = None; store = Some 1; writes = write_at 1 key (Some row) ∷ [] }

abbrev IsOne : List Commit → List ℕ → Type 0
IsOne order places = OneDatabase catalog opening order places (first ∷ second ∷ [])

is_one : IsOne (in_store ∷ in_mem ∷ []) (0 ∷ 0 ∷ [])
unfolding insert_refusal IsDistinct
is_one = record {
  explained = ((refl, tt), ((refl, tt), tt));
  placed = (refl, (refl, tt));
  listed = record { moves = (0, 1) ∷ []; below = (omega arith, omega arith, tt); is = refl };
  unlike = ((refl, tt), (tt, tt));
  by_mem = (1, refl, omega arith, tt);
  by_store = (1, refl, omega arith, tt);
  first_wins = ((omega arith, (refl, tt)), ((omega arith, tt), tt));
  fresh = (
    ((λ same less. absurd (omega arith)), ((λ same less. (tt, (tt, tt))), tt)),
    (((λ same less. absurd (omega arith)), ((λ same less. absurd (omega arith)), tt)), tt),
  );
}

-- what the records add to a list, in their order
abbrev adds : List Commit → List ℕ → List Commit
adds order places = all_commits catalog opening order places (first ∷ second ∷ [])

one_left_out : IsOne (in_store ∷ []) (0 ∷ 0 ∷ []) → ⊥
unfolding insert_refusal
one_left_out h =
    let e : ◌≡◌ {A = ℕ} 1 2 = length_permutation (adds (in_store ∷ []) (0 ∷ 0 ∷ [])) (in_store ∷ []) h.listed in
    omega arith

abbrev misnumbered : Commit
misnumbered = record { label = first.label; mem = Some 2; store = None; writes = in_mem.writes }

abbrev or_zero : Option ℕ → ℕ
or_zero None = 0
or_zero (Some n) = n

one_misnumbered : IsOne (in_store ∷ misnumbered ∷ []) (0 ∷ 0 ∷ []) → ⊥
unfolding insert_refusal
one_misnumbered h =
    let order : List Commit = in_store ∷ misnumbered ∷ [] in
    let e : ◌≡◌ {A = ℕ} 2 1 = sum_by-IsPermutation (λ (c : Commit). or_zero c.mem) (adds order (0 ∷ 0 ∷ [])) order h.listed in
    omega arith

another_place : IsOne (in_store ∷ in_mem ∷ []) (0 ∷ 1 ∷ []) → ⊥
another_place h = let e : ◌≡◌ {A = ℕ} 1 0 = h.placed.1.0 in omega arith
