-- The line that sums up a run of a script that was generated.
use Rattle.std.specs.Prelude.{ℕ, ◌+◌, ℤ, pos, ◌+ℤ◌, List, [], ◌∷◌, ◌++◌, length, Option, Some, None, codes, if◌then◌else◌}
use Rattle.std.specs.Fmt.{decimal, signed_decimal}
use Rattle.sk_rows.specs.declared.value.Value.{Value}
use Rattle.sk_rows.specs.declared.value.Value.TheVariants as value
use Rattle.sk_rows.specs.Evaluation.{fits_64}
use Rattle.sk_model.specs.declared.commit.Commit.{Commit}
use Rattle.sk_model.specs.declared.point.Point.{Point}
use Rattle.sk_model.specs.declared.record.Ending.{Ending}
use Rattle.sk_model.specs.declared.record.Ending.TheVariants as ending
use Rattle.sk_model.specs.declared.record.Record.{Record}
use Rattle.sk_model.specs.declared.reply.Reply.{Reply}
use Rattle.sk_model.specs.declared.reply.Reply.TheVariants as reply

-- how many of the records met another transaction's write
abbrev pub met : Ending → ℕ
met ending.Conflict = 1
met _ = 0

abbrev pub conflicts : List Record → ℕ
conflicts [] = 0
conflicts (r ∷ rs) = met r.ending + conflicts rs

-- the number in the second column of a row
abbrev pub second : List Value → Option ℤ
second (k ∷ value.Int n ∷ vs) = Some n
second _ = None

-- a sum that has 64 bits, with one number more
abbrev pub plus : ℤ → Option ℤ → Option ℤ
plus sum None = None
plus sum (Some n) = if fits_64 (sum +ℤ n) then Some (sum +ℤ n) else None

-- what the numbers in the second columns add to a sum, where each row has one and each sum has 64 bits
abbrev pub total_from : Option ℤ → List (List Value) → Option ℤ
total_from sum [] = sum
total_from None (row ∷ rows) = None
total_from (Some sum) (row ∷ rows) = total_from (plus sum (second row)) rows

abbrev pub total : List (List Value) → Option ℤ
total rows = total_from (Some (pos 0)) rows

-- what the stock of the last reply comes to, where it is a list of rows
abbrev pub stock : Option Reply → Option ℤ
stock (Some (reply.Rows rows)) = total rows
stock _ = None

abbrev pub stock_text : Option ℤ → List ℕ
stock_text None = codes "-"
stock_text (Some n) = signed_decimal n

abbrev pub counts_text : ℕ → ℕ → ℕ → List ℕ
counts_text transfers order conflicts = codes "GEN transfers " ++ decimal transfers ++ codes " list " ++ decimal order ++ codes " conflict " ++ decimal conflicts ++ codes " stock "

abbrev pub cut_text : Point → List ℕ
cut_text cut = codes " cut " ++ decimal cut.a ++ codes " " ++ decimal cut.b ++ codes "\n"

-- so many transfers, the length of the list, the records that met another's write, what the stock of the last reply comes to, and the durable cut
abbrev pub summary : ℕ → List Commit → List Record → Option Reply → Point → List ℕ
summary transfers order records last cut = counts_text transfers (length order) (conflicts records) ++ (stock_text (stock last) ++ cut_text cut)
