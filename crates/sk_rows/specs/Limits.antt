-- The limits of names, rows and tables.
use Rattle.std.specs.Prelude.{ℕ}

-- of a text, in bytes without its quotes
abbrev pub longest_text : ℕ
longest_text = 255

-- of a row, in the bytes that it takes in a file
abbrev pub longest_row : ℕ
longest_row = 1024

-- of one table
abbrev pub most_columns : ℕ
most_columns = 16

-- of one catalog
abbrev pub most_tables : ℕ
most_tables = 64
