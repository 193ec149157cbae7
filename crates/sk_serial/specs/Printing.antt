-- What is printed of a script that was not played to its end.
use Rattle.std.specs.Prelude.{◌≡◌, ◌⊎◌, ℕ, List, ◌++◌, Option, codes}
use Rattle.std.specs.Fmt.{decimal}
use Rattle.std.specs.Io.KnownBytes.{Appends}
use Rattle.sk_outside.specs.Causes.{Rose}
use Rattle.sk_outside.specs.Pieces.{AppendsFront}
use Rattle.sk_codec.specs.declared.fault.What.{What}
use Rattle.sk_codec.specs.declared.fault.What.TheVariants as what
use Rattle.sk_text.specs.Text.{script_fault_text}
use Rattle.sk_serial.specs.declared.run_fault.RunFault.{RunFault}
use Rattle.sk_serial.specs.declared.run_fault.RunFault.TheVariants as run_fault

-- the text is added to what was written, or a front of it where the sink failed
abbrev pub Prints : Option (List ℕ) → Option (List ℕ) → ℕ → ℕ → List ℕ → Type 0
Prints old new before now text = Appends old new text ⊎ (AppendsFront old new text × Rose before now)

abbrev pub usage_text : List ℕ
usage_text = codes "FAULT usage\n"

abbrev pub read_text : List ℕ
read_text = codes "FAULT read\n"

abbrev pub device_text : List ℕ
device_text = codes "FAULT device\n"

abbrev pub memory_text : List ℕ
memory_text = codes "FAULT memory\n"

abbrev pub word_of : What → List ℕ
word_of what.Format = codes "format"
word_of what.Length = codes "length"
word_of what.Tag = codes "tag"
word_of what.Range = codes "range"
word_of what.Order = codes "order"
word_of what.Half = codes "half"

abbrev pub place_text : ℕ → ℕ → List ℕ
place_text file place = codes "FAULT damaged " ++ decimal file ++ codes " " ++ decimal place ++ codes " "

abbrev pub line_end : List ℕ
line_end = codes "\n"

-- the first field of the stored files that is wrong, by its file and place
abbrev pub damaged_text : ℕ → ℕ → What → List ℕ
damaged_text file place w = place_text file place ++ (word_of w ++ line_end)

-- a fault's status and its text; for want of memory that of memory stands in its place
abbrev pub IsPrinted : ℕ → List ℕ → ℕ → Option (List ℕ) → Option (List ℕ) → ℕ → ℕ → Type 0
IsPrinted fault text status old new before now = (status ≡ fault) × Prints old new before now text

-- it is, or memory was wanting for its text
abbrev pub IsMade : ℕ → List ℕ → ℕ → Option (List ℕ) → Option (List ℕ) → ℕ → ℕ → Type 0
IsMade fault text status old new before now = IsPrinted fault text status old new before now ⊎ IsPrinted 8 memory_text status old new before now

abbrev pub IsRefused : RunFault → ℕ → Option (List ℕ) → Option (List ℕ) → ℕ → ℕ → Type 0
IsRefused run_fault.Usage status old new before now = IsPrinted 2 usage_text status old new before now
IsRefused (run_fault.Script line place) status old new before now = IsMade 3 (script_fault_text line place) status old new before now
IsRefused (run_fault.Tables line) status old new before now = IsMade 3 (script_fault_text line 1) status old new before now
IsRefused run_fault.Read status old new before now = IsPrinted 4 read_text status old new before now
IsRefused run_fault.Device status old new before now = IsPrinted 6 device_text status old new before now
IsRefused (run_fault.Damaged file place w) status old new before now = IsMade 7 (damaged_text file place w) status old new before now
IsRefused run_fault.NoMemory status old new before now = IsPrinted 8 memory_text status old new before now
