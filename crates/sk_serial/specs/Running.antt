-- What a run answers and prints, what it takes of its source, and what becomes of its store.
use Rattle.std.specs.Prelude.{◌≡◌, ◌⊎◌, ◌↔◌, ℕ, ◌<◌, ◌≤◌, List, [], ◌∷◌, Option, Some, None, Result, Ok, Err, Bool, true, false, length, take, is_some, IfSome, IsTrue, ◌==◌}
use Rattle.std.specs.List.{list_any}
use Rattle.std.specs.String.{string_bytes}
use Rattle.std.specs.Io.KnownBytes.{Appends, Consumes, IsAtEnd}
use Rattle.sk_outside.specs.Causes.{Rose}
use Rattle.sk_device.specs.Disk.{Image, Disk, Steps, LeavesOnly}
use Rattle.sk_codec.specs.declared.fault.What.{What}
use Rattle.sk_log.specs.declared.ends.Ends.{Ends}
use Rattle.sk_log.specs.Groups.{selection}
use Rattle.sk_cut.specs.Batches.{as_cut}
use Rattle.sk_cut.specs.Flush.{AllAt}
use Rattle.sk_recover.specs.declared.opening.Opened.{Opened}
use Rattle.sk_outcome.specs.declared.outcome.Outcome.{Outcome}
use Rattle.sk_script.specs.declared.script.Script.{Script}
use Rattle.sk_script.specs.declared.script.ScriptFault.TheVariants as fault
use Rattle.sk_script.specs.Generated.{generated}
use Rattle.sk_script.specs.Script.{script_of}
use Rattle.sk_script.specs.Limits.{most_read}
use Rattle.sk_script.specs.Options.{settings_of}
use Rattle.sk_text.specs.Text.{script_fault_text}
use Rattle.sk_run.specs.declared.ended.Ended.{Ended}
use Rattle.sk_serial.specs.declared.ending.Shown.{Shown}
use Rattle.sk_serial.specs.declared.run_fault.RunFault.{RunFault}
use Rattle.sk_serial.specs.declared.run_fault.RunFault.TheVariants as run_fault
use Rattle.sk_serial.specs.Saving.{Saved, Grows}
use Rattle.sk_serial.specs.Played.{tables_in, HasShown, printed_text}
use Rattle.sk_serial.specs.Showing.{ShowsPrefix, ShowsSome, ShowsLater}
use Rattle.sk_serial.specs.Acknowledged.{Acknowledged}
use Rattle.sk_serial.specs.Stored.{start_of, beginning, StartsFrom, WhyNone}
use Rattle.sk_serial.specs.Lasting.{Lasts, Lasting}
use Rattle.sk_serial.specs.Printing.{Prints, usage_text, read_text, device_text, memory_text, damaged_text}

-- ---- statuses

-- Ok, usage, script fault, read fault, write fault, device fault, damaged files, want of memory
abbrev pub is_status : ℕ → Bool
is_status n = list_any (λ status. status == n) (0 ∷ 2 ∷ 3 ∷ 4 ∷ 5 ∷ 6 ∷ 7 ∷ 8 ∷ [])

-- the script was not played to its end: the text is one line of its own, and nothing is handed out but the disk
abbrev pub is_fault : ℕ → Bool
is_fault n = list_any (λ status. status == n) (2 ∷ 3 ∷ 4 ∷ 7 ∷ 8 ∷ [])

-- it was, and the disk did not fail
abbrev pub is_whole : ℕ → Bool
is_whole n = list_any (λ status. status == n) (0 ∷ 5 ∷ [])

-- ---- the script

-- the bytes were read: to the end of the source, or through the first byte past the longest script
pub record IsRead (old new : Option (List ℕ)) (bytes : List ℕ) : Type 0 where
  pub first : IfSome old (λ left. bytes ≡ take most_read left)
  pub taken : Consumes old new bytes
  pub most : length bytes ≤ most_read
  pub ended : length bytes < most_read → IsAtEnd new

-- bytes were read that are this script
pub record Reads (old new : Option (List ℕ)) (script : Script) : Type 0 where
  pub bytes : List ℕ
  pub read : IsRead old new bytes
  pub is_script : script_of bytes ≡ Ok script

-- bytes were read of which this is the first fault
pub record Departs (old new : Option (List ℕ)) (line place : ℕ) : Type 0 where
  pub bytes : List ℕ
  pub read : IsRead old new bytes
  pub departs : script_of bytes ≡ Err (fault.At line place)

-- the script was read; or it is the one that is generated of a seed and a number of transfers
abbrev pub IsScript : Option (ℕ × ℕ) → Option (List ℕ) → Option (List ℕ) → Script → Type 0
IsScript None old new script = Reads old new script
IsScript (Some made) old new script = script ≡ generated made.0 made.1

-- of how many transfers
abbrev pub transfers_in : Option (ℕ × ℕ) → Option ℕ
transfers_in None = None
transfers_in (Some made) = Some made.1

-- no fault but those of reading
abbrev pub IsReadFault : RunFault → Type 0
IsReadFault run_fault.Read = Unit {0}
IsReadFault run_fault.NoMemory = Unit {0}
IsReadFault _ = ⊥

abbrev pub ReadAs : List ℕ → Result Script RunFault → Type 0
ReadAs bytes (Ok script) = script_of bytes ≡ Ok script
ReadAs bytes (Err (run_fault.Script line place)) = script_of bytes ≡ Err (fault.At line place)
ReadAs bytes (Err run_fault.NoMemory) = Unit {0}
ReadAs bytes (Err _) = ⊥

-- why there is no script
abbrev pub WhyNoScript : Option (List ℕ) → Option (List ℕ) → RunFault → Type 0
WhyNoScript old new (run_fault.Script line place) = Departs old new line place
WhyNoScript old new run_fault.Read = Unit {0}
WhyNoScript old new run_fault.NoMemory = Unit {0}
WhyNoScript old new _ = ⊥

-- ---- the run

abbrev pub saved_of : {D : Type 0} → Shown D → Saved
saved_of s = record { receipts = s.receipts; cut = s.cut }

-- the text that is printed of a run in place of that of its lines, and all else the same
pub record HasText {D : Type 0} (transfers : Option ℕ) (old new : Shown D) : Type 0 where
  pub text : string_bytes new.text ≡ printed_text transfers (string_bytes old.text) old.ended (saved_of old) old.last
  pub ended : new.ended ≡ old.ended
  pub receipts : new.receipts ≡ old.receipts
  pub cut : new.cut ≡ old.cut
  pub disk : new.disk ≡ old.disk
  pub broken : new.broken ≡ old.broken

-- ---- the outcome

-- nothing is handed out but the disk
pub record IsNothing {D : Type 0} (o : Outcome D) : Type 0 where
  pub records : o.records ≡ []
  pub mem : o.mem ≡ []
  pub store : o.store ≡ []
  pub points : o.points ≡ []
  pub order : o.order ≡ []
  pub prefixes : o.prefixes ≡ []
  pub receipts : o.receipts ≡ []
  pub cut : o.cut ≡ selection 0 0

-- the run is what is handed out
pub record IsHandedOut {D : Type 0} (ended : Ended) (o : Outcome D) : Type 0 where
  pub records : o.records ≡ ended.records
  pub mem : o.mem ≡ ended.mem
  pub store : o.store ≡ ended.store
  pub points : o.points ≡ ended.points
  pub order : o.order ≡ ended.order
  pub prefixes : o.prefixes ≡ ended.places

abbrev pub saved_out : {D : Type 0} → Outcome D → Saved
saved_out o = record { receipts = o.receipts; cut = o.cut }

-- what was shown is handed out and printed; the status is 6 where the disk failed, and else 5 where the sink did
pub record IsFinished {D : Type 0} (shown : Shown D) (o : Outcome D) (old new : Option (List ℕ)) (before now : ℕ) : Type 0 where
  pub handed_out : IsHandedOut shown.ended o
  pub saved : saved_out o ≡ saved_of shown
  pub disk_is : o.disk ≡ shown.disk
  pub printed : Prints old new before now (string_bytes shown.text)
  pub status : ((shown.broken ≡ true) × (o.status ≡ 6)) ⊎ ((shown.broken ≡ false) × (((o.status ≡ 0) × Appends old new (string_bytes shown.text)) ⊎ ((o.status ≡ 5) × Rose before now)))

module _ {D : Type 0} (disk : Disk D) (faults : D → ℕ) where
  -- The script was played on what the disk opened as: each of its lines was answered so, up to where it was cut off, and this is handed out and
  -- printed of it. Whatever a stop leaves of the disk from then on shows a prefix of the printed list, and at the end the one at the durable cut,
  -- or where the disk failed perhaps the one of the flush that it failed, which is no shorter. Whoever was told that a commit is durable had
  -- committed, was told once, and stands in that prefix; and unless the disk failed, every image opens at the durable cut.
  pub record IsPlayed (script : Script) (transfers : Option ℕ) (was : D) (ended : Ended) (saved : Saved) (text : List ℕ) (broken : Bool) (now : D) : Type 0 where
    pub opened : Opened
    pub begun : D
    pub starts : StartsFrom disk faults script (is_some transfers) was opened begun
    pub shown : HasShown opened.catalog (beginning opened) (settings_of script.options).logmax script.lines transfers ended saved text
    pub prefixes : IsTrue disk.tells → LeavesOnly disk (ShowsSome opened.catalog opened.rows ended.order ended.points) begun now
    pub at_end : IsTrue disk.tells → (image : Image) → disk.may_leave now image → ShowsPrefix opened.catalog opened.rows ended.order saved.cut image ⊎ ((broken ≡ true) × ShowsLater opened.catalog opened.rows ended.order ended.points saved.cut image)
    pub grows : Grows disk faults begun now
    pub acked : Acknowledged ended.records ended.order saved.receipts saved.cut
    pub stands : broken ≡ false → IsTrue disk.tells → (ends : Ends) × AllAt disk (as_cut saved.cut) ends now
    pub broke : broken ≡ true → Rose (faults was) (faults now)

  -- a script was read or generated, and was played
  abbrev pub IsShown : Option (ℕ × ℕ) → Option (List ℕ) → Option (List ℕ) → D → Shown D → Type 0
  IsShown made left left_now was s = (script : Script) × IsScript made left left_now script × IsPlayed script (transfers_in made) was s.ended (saved_of s) (string_bytes s.text) s.broken s.disk

  -- the script was not played to its end, and this is what became of the disk
  pub record HasHalted (script : Script) (generated : Bool) (was : D) (fault : RunFault) (now : D) : Type 0 where
    pub why : WhyNone disk faults script generated was now fault
    pub lasts : IsTrue disk.tells → Steps disk (Lasts (tables_in script) (start_of script)) was now
    pub later : faults was ≤ faults now

  -- why no script was played to its end
  abbrev pub WhyHalted : Option (ℕ × ℕ) → Option (List ℕ) → Option (List ℕ) → D → RunFault → D → Type 0
  WhyHalted made left left_now was run_fault.Usage now = ⊥
  WhyHalted made left left_now was (run_fault.Script line place) now = Departs left left_now line place
  WhyHalted made left left_now was run_fault.Read now = Unit {0}
  WhyHalted made left left_now was run_fault.NoMemory now = Unit {0}
  WhyHalted made left left_now was fault now = (script : Script) × IsScript made left left_now script × WhyNone disk faults script (is_some (transfers_in made)) was now fault

  -- none was, and this is what became of the disk
  pub record IsHalted (made : Option (ℕ × ℕ)) (left left_now : Option (List ℕ)) (was : D) (fault : RunFault) (now : D) : Type 0 where
    pub why : WhyHalted made left left_now was fault now
    pub lasts : IsTrue disk.tells → Lasting disk was now
    pub later : faults was ≤ faults now

  -- A script was read or generated, and was played: so the records, the list of commits and the prefixes of the records are of one database over the rows with
  -- which the store opened, the records of each session say what its lines were answered, and what the table of refusals refuses was refused
  -- so. This text is printed of it, or a front of it where the sink failed.
  pub record HasRun (made : Option (ℕ × ℕ)) (left left_now written written_now : Option (List ℕ)) (writes writes_now : ℕ) (was : D) (broken : Bool) (o : Outcome D) : Type 0 where
    pub script : Script
    pub is_script : IsScript made left left_now script
    pub ended : Ended
    pub handed_out : IsHandedOut ended o
    pub text : List ℕ
    pub played : IsPlayed script (transfers_in made) was ended (saved_out o) text broken o.disk
    pub printed : Prints written written_now writes writes_now text
    pub whole : o.status ≡ 0 → Appends written written_now text

  -- the script has a fault, and it is the one that is printed: a departure from the grammar, or a line that does not go with the store that is there
  pub record IsScriptFault (made : Option (ℕ × ℕ)) (left left_now written written_now : Option (List ℕ)) (writes writes_now : ℕ) (was now : D) : Type 0 where
    pub line : ℕ
    pub place : ℕ
    pub why : Departs left left_now line place ⊎ ((place ≡ 1) × WhyHalted made left left_now was (run_fault.Tables line) now)
    pub printed : Prints written written_now writes writes_now (script_fault_text line place)

  -- the stored files are not those of a store, and their first fault is printed
  pub record IsDamaged (made : Option (ℕ × ℕ)) (left left_now written written_now : Option (List ℕ)) (writes writes_now : ℕ) (was now : D) : Type 0 where
    pub file : ℕ
    pub place : ℕ
    pub what : What
    pub why : WhyHalted made left left_now was (run_fault.Damaged file place what) now
    pub printed : Prints written written_now writes writes_now (damaged_text file place what)

  -- What a run answers, prints and leaves of its disk, where left is what the source has left, written what the sink holds, and each has its count of
  -- faults: before the call and behind it.
  pub record Ran (is_form : Bool) (made : Option (ℕ × ℕ)) (left left_now written written_now : Option (List ℕ)) (reads reads_now writes writes_now : ℕ) (was : D) (o : Outcome D) : Type 0 where
    pub status : is_status o.status ≡ true
    pub usage : (o.status ≡ 2) ↔ (is_form ≡ false)
    pub usage_printed : o.status ≡ 2 → Prints written written_now writes writes_now usage_text
    pub script : o.status ≡ 3 → IsScriptFault made left left_now written written_now writes writes_now was o.disk
    pub read : o.status ≡ 4 → Rose reads reads_now × Prints written written_now writes writes_now read_text
    pub write : o.status ≡ 5 → Rose writes writes_now
    pub device : o.status ≡ 6 → Rose (faults was) (faults o.disk)
    pub damaged : o.status ≡ 7 → IsDamaged made left left_now written written_now writes writes_now was o.disk
    pub memory : o.status ≡ 8 → Prints written written_now writes writes_now memory_text
    pub nothing : is_fault o.status ≡ true → IsNothing o
    pub played : is_whole o.status ≡ true → HasRun made left left_now written written_now writes writes_now was false o
    pub broken : o.status ≡ 6 → (IsNothing o × Prints written written_now writes writes_now device_text) ⊎ HasRun made left left_now written written_now writes writes_now was true o
    pub lasts : IsTrue disk.tells → Lasting disk was o.disk
