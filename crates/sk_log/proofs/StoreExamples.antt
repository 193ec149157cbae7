-- A worked store: the tables a and c without rows at the cut (0, 0), and one group that brings it to (1, 1).
use Rattle.std.specs.Prelude.{◌≡◌, ◌==◌, ℕ, Bool, true, false, List, [], ◌∷◌, ◌++◌, Some, Ok, Err, if◌then◌else◌, pos}
use Rattle.std.proofs.Common.{refl}
use Rattle.sk_device.specs.Disk.{Image}
use Rattle.sk_rows.specs.declared.value.Value.TheVariants.{Int}
use Rattle.sk_rows.specs.declared.value.Sort.TheVariants as sort
use Rattle.sk_rows.specs.declared.table.Column.{Column}
use Rattle.sk_rows.specs.declared.table.Table.{Table}
use Rattle.sk_rows.specs.Catalog.{has_table}
use Rattle.sk_rows.specs.Names.{is_keyword, has_name_length, begins_with_digit, are_name_bytes, is_name}
use Rattle.sk_model.specs.declared.commit.Commit.{Commit}
use Rattle.sk_codec.specs.declared.fault.What.TheVariants as what
use Rattle.sk_codec.specs.Reading.{number_at, number_in, bit_at, items_at}
use Rattle.sk_codec.specs.Rows.{int_at, truth_at, text_at, cell_at, cells_at}
use Rattle.sk_codec.specs.Records.{own_at, other_at, table_at as written_table_at, content_at, write_at, label_at, numbers_at, record_at}
use Rattle.sk_log.specs.Images.{name_at, new_name_at, sort_at, column_at, table_at, catalog_at, rows_at, each_at, base_at}
use Rattle.sk_log.specs.Groups.{logged_at, records_to, first_at, second_at, end_at, head_at, body_at, halves, selection}
use Rattle.sk_log.specs.Stores.{group_of, body_of, stored_of, group_at, next_gate, behind_gate, turn, turns, byte_in, entry_at, holding, open_from, opens, at_place, no_rows}

abbrev column : List ℕ → Column
column name = record { name = name; sort = sort.Int }

-- in words of tables: a, of the memory engine, and c, of the storage engine, each with the columns id and v
abbrev table : ℕ → Bool → Table
table letter store = record { name = letter ∷ []; store = store; columns = column (105 ∷ 100 ∷ []) ∷ column (118 ∷ []) ∷ [] }

abbrev tables : List Table
tables = table 97 false ∷ table 99 true ∷ []

abbrev base : List ℕ
base = 0 ∷ 2 ∷ 1 ∷ 97 ∷ 0 ∷ 2 ∷ 2 ∷ 105 ∷ 100 ∷ 0 ∷ 1 ∷ 118 ∷ 0 ∷ 1 ∷ 99 ∷ 1 ∷ 2 ∷ 2 ∷ 105 ∷ 100 ∷ 0 ∷ 1 ∷ 118 ∷ 0 ∷ 0 ∷ 0 ∷ 0 ∷ 0 ∷ 0 ∷ 0 ∷ 0 ∷ 0 ∷ []

-- an open entry of this format: set 0, sequence 1, the cut (0, 0), and an image of 32 bytes
abbrev root : ℕ → List ℕ
root format = 1 ∷ format ∷ 0 ∷ 0 ∷ 0 ∷ 0 ∷ 0 ∷ 1 ∷ 0 ∷ 0 ∷ 0 ∷ 0 ∷ 0 ∷ 0 ∷ 0 ∷ 0 ∷ 0 ∷ 0 ∷ 0 ∷ 0 ∷ 0 ∷ 0 ∷ 0 ∷ 32 ∷ []

-- a record of 1.k in both engines, which has this number and wrote (1, v) to this table
abbrev record_of : ℕ → ℕ → ℕ → ℕ → List ℕ
record_of k number table v =
    0 ∷ 1 ∷ 0 ∷ 0 ∷ 0 ∷ k ∷ 1 ∷ 0 ∷ 0 ∷ 0 ∷ number ∷ 0 ∷ 0 ∷ 0 ∷ 1 ∷ 0 ∷ 0 ∷ 0 ∷ 1 ∷ 0 ∷ table ∷ 1 ∷ 0 ∷ 0 ∷ 0 ∷ 0 ∷ 0 ∷ 0 ∷ 0 ∷ 1 ∷ 0 ∷ 0 ∷ 0 ∷ 0 ∷ 0 ∷ 0 ∷ 0 ∷ v ∷ []

-- a group with this cut, this end of the storage log, and one record
abbrev anchor : ℕ → ℕ → ℕ → List ℕ
anchor a b end = 1 ∷ 0 ∷ 0 ∷ 0 ∷ 54 ∷ 0 ∷ 0 ∷ 0 ∷ a ∷ 0 ∷ 0 ∷ 0 ∷ b ∷ 0 ∷ 0 ∷ 0 ∷ end ∷ 0 ∷ 0 ∷ 0 ∷ 1 ∷ record_of 1 1 0 10 ++ 0 ∷ []

abbrev files : List ℕ → List ℕ → List ℕ → Image
files zeroth one two file = if file == 0 then zeroth else if file == 1 then one else if file == 2 then two else if file == 5 then base else []

abbrev wrote : ℕ → ℕ → Commit
wrote number v = record { label = record { session = 1; k = 1 }; mem = Some 1; store = Some 1; writes = record { table = number; key = Int (pos 1); row = Some (Int (pos 1) ∷ Int (pos v) ∷ []) } ∷ [] }

one_group : opens [] (selection 0 0) (files (root 1) (record_of 1 1 1 20) (anchor 1 1 38))
    ≡ Ok (record { base = record { catalog = tables; rows = no_rows tables }; mem = wrote 0 10 ∷ []; store = wrote 1 20 ∷ []; cut = selection 1 1; ends = record { set = 0; store_end = 38; gate = 59 } })
unfolding is_keyword has_name_length begins_with_digit are_name_bytes is_name has_table number_at number_in bit_at items_at int_at truth_at text_at cell_at cells_at own_at other_at written_table_at content_at write_at label_at numbers_at record_at name_at new_name_at sort_at column_at table_at catalog_at rows_at each_at base_at logged_at records_to first_at second_at end_at head_at body_at halves group_of body_of stored_of group_at next_gate behind_gate turn turns byte_in entry_at holding open_from opens
one_group = refl

-- the format is 2
format_2 : opens [] (selection 0 0) (files (root 2) (record_of 1 1 1 20) (anchor 1 1 38)) ≡ Err (at_place what.Format 0 1)
unfolding is_keyword has_name_length begins_with_digit are_name_bytes is_name has_table number_at number_in bit_at items_at int_at truth_at text_at cell_at cells_at own_at other_at written_table_at content_at write_at label_at numbers_at record_at name_at new_name_at sort_at column_at table_at catalog_at rows_at each_at base_at logged_at records_to first_at second_at end_at head_at body_at halves group_of body_of stored_of group_at next_gate behind_gate turn turns byte_in entry_at holding open_from opens
format_2 = refl

-- the anchor log is empty
no_anchor_log : opens [] (selection 0 0) (files (root 1) (record_of 1 1 1 20) []) ≡ Err (at_place what.Length 2 0)
unfolding is_keyword has_name_length begins_with_digit are_name_bytes is_name has_table number_at number_in bit_at items_at int_at truth_at text_at cell_at cells_at own_at other_at written_table_at content_at write_at label_at numbers_at record_at name_at new_name_at sort_at column_at table_at catalog_at rows_at each_at base_at logged_at records_to first_at second_at end_at head_at body_at halves group_of body_of stored_of group_at next_gate behind_gate turn turns byte_in entry_at holding open_from opens
no_anchor_log = refl

-- the group's cut is the root's
same_cut : opens [] (selection 0 0) (files (root 1) (record_of 1 1 1 20) (anchor 0 0 38)) ≡ Err (at_place what.Order 2 9)
unfolding is_keyword has_name_length begins_with_digit are_name_bytes is_name has_table number_at number_in bit_at items_at int_at truth_at text_at cell_at cells_at own_at other_at written_table_at content_at write_at label_at numbers_at record_at name_at new_name_at sort_at column_at table_at catalog_at rows_at each_at base_at logged_at records_to first_at second_at end_at head_at body_at halves group_of body_of stored_of group_at next_gate behind_gate turn turns byte_in entry_at holding open_from opens
same_cut = refl

-- the record in the storage log is of 1.2
other_half : opens [] (selection 0 0) (files (root 1) (record_of 2 1 1 20) (anchor 1 1 38)) ≡ Err (at_place what.Half 1 0)
unfolding is_keyword has_name_length begins_with_digit are_name_bytes is_name has_table number_at number_in bit_at items_at int_at truth_at text_at cell_at cells_at own_at other_at written_table_at content_at write_at label_at numbers_at record_at name_at new_name_at sort_at column_at table_at catalog_at rows_at each_at base_at logged_at records_to first_at second_at end_at head_at body_at halves group_of body_of stored_of group_at next_gate behind_gate turn turns byte_in entry_at holding open_from opens
other_half = refl

-- the storage log ends within the record
short_range : opens [] (selection 0 0) (files (root 1) (record_of 1 1 1 20) (anchor 1 1 37)) ≡ Err (at_place what.Length 1 30)
unfolding is_keyword has_name_length begins_with_digit are_name_bytes is_name has_table number_at number_in bit_at items_at int_at truth_at text_at cell_at cells_at own_at other_at written_table_at content_at write_at label_at numbers_at record_at name_at new_name_at sort_at column_at table_at catalog_at rows_at each_at base_at logged_at records_to first_at second_at end_at head_at body_at halves group_of body_of stored_of group_at next_gate behind_gate turn turns byte_in entry_at holding open_from opens
short_range = refl

-- the record in the storage log has number 2
past_the_cut : opens [] (selection 0 0) (files (root 1) (record_of 1 2 1 20) (anchor 1 1 38)) ≡ Err (at_place what.Order 1 7)
unfolding is_keyword has_name_length begins_with_digit are_name_bytes is_name has_table number_at number_in bit_at items_at int_at truth_at text_at cell_at cells_at own_at other_at written_table_at content_at write_at label_at numbers_at record_at name_at new_name_at sort_at column_at table_at catalog_at rows_at each_at base_at logged_at records_to first_at second_at end_at head_at body_at halves group_of body_of stored_of group_at next_gate behind_gate turn turns byte_in entry_at holding open_from opens
past_the_cut = refl
