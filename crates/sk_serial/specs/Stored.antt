-- The store on which a script is played.
use Rattle.std.specs.Prelude.{◌≡◌, ◌≤◌, ℕ, Bool, true, false, cond, ◌&&◌, ◌||◌, List, [], ◌∷◌, Option, Some, None, codes, if◌then◌else◌, nat_lt, IsTrue, Ok, Err}
use Rattle.std.specs.Str.{bytes_eq}
use Rattle.sk_outside.specs.Causes.{Rose}
use Rattle.sk_device.specs.Disk.{Disk, Steps}
use Rattle.sk_rows.specs.declared.value.Sort.{Sort}
use Rattle.sk_rows.specs.declared.value.Sort.TheVariants as sort
use Rattle.sk_rows.specs.declared.table.Column.{Column}
use Rattle.sk_rows.specs.declared.table.Table.{Table}
use Rattle.sk_model.specs.declared.point.Point.{Point}
use Rattle.sk_model.specs.Numbers.{greatest_number}
use Rattle.sk_log.specs.Groups.{selection}
use Rattle.sk_log.specs.Stores.{opens}
use Rattle.sk_recover.specs.declared.opening.Opened.{Opened}
use Rattle.sk_recover.specs.Making.{AllImages, Reopens}
use Rattle.sk_recover.specs.Opened.{OpensTo, IsOpenedAs, IsSound}
use Rattle.sk_log.specs.Growth.{OpensAt}
use Rattle.sk_run.specs.Kept.{Beginning}
use Rattle.sk_script.specs.declared.script.OptionLine.{OptionLine}
use Rattle.sk_script.specs.declared.script.Script.{Script}
use Rattle.sk_script.specs.declared.script.TableLine.{TableLine}
use Rattle.sk_script.specs.Options.{settings_of}
use Rattle.sk_serial.specs.Played.{tables_in}
use Rattle.sk_serial.specs.declared.run_fault.RunFault.{RunFault}
use Rattle.sk_serial.specs.declared.run_fault.RunFault.TheVariants as run_fault

-- the cut from which a new store of the script starts
abbrev pub start_of : Script → Point
start_of script = selection (settings_of script.options).startm (settings_of script.options).starts

-- how a run over an opened store begins: with its rows, from its cut on
abbrev pub beginning : Opened → Beginning
beginning o = record { rows = o.rows; first = o.cut }

-- a selection with numbers that an engine may have
abbrev pub IsStart : Point → Type 0
IsStart p = (p.commit ≡ false) × (p.a ≤ greatest_number) × (p.b ≤ greatest_number)

-- ---- what does not go with a store that is there

abbrev pub same_sort : Sort → Sort → Bool
same_sort sort.Int sort.Int = true
same_sort sort.Text sort.Text = true
same_sort sort.Bool sort.Bool = true
same_sort _ _ = false

abbrev pub same_column : Column → Column → Bool
same_column c d = bytes_eq c.name d.name && same_sort c.sort d.sort

abbrev pub same_columns : List Column → List Column → Bool
same_columns [] [] = true
same_columns [] (d ∷ ds) = false
same_columns (c ∷ cs) [] = false
same_columns (c ∷ cs) (d ∷ ds) = cond (same_column c d) (same_columns cs ds) false

abbrev pub same_engine : Bool → Bool → Bool
same_engine true b = b
same_engine false true = false
same_engine false false = true

abbrev pub same_table : Table → Table → Bool
same_table t u = bytes_eq t.name u.name && (same_engine t.store u.store && same_columns t.columns u.columns)

-- the first line whose table is not the stored one in its place, or the last line where more tables are stored
abbrev pub first_unlike : ℕ → List TableLine → List Table → Option ℕ
first_unlike last [] [] = None
first_unlike last [] (t ∷ ts) = Some last
first_unlike last (l ∷ ls) [] = Some l.line
first_unlike last (l ∷ ls) (t ∷ ts) = cond (same_table l.table t) (first_unlike l.line ls ts) (Some l.line)

-- a script without tables takes those of the store
abbrev pub table_fault : List TableLine → List Table → Option ℕ
table_fault [] stored = None
table_fault (l ∷ ls) stored = first_unlike l.line (l ∷ ls) stored

abbrev pub sets_start : OptionLine → Bool
sets_start o = bytes_eq o.name (codes "startm") || bytes_eq o.name (codes "starts")

-- the first line that sets where an engine's numbers start
abbrev pub start_fault : List OptionLine → Option ℕ
start_fault [] = None
start_fault (o ∷ os) = cond (sets_start o) (Some o.line) (start_fault os)

abbrev pub least : Option ℕ → Option ℕ → Option ℕ
least None b = b
least (Some m) None = Some m
least (Some m) (Some n) = Some (if nat_lt n m then n else m)

-- the first line of the script that does not go with these stored tables
abbrev pub stored_fault : Script → List Table → Option ℕ
stored_fault script stored = least (table_fault script.tables stored) (start_fault script.options)

-- The line of a script that does not go with what was opened: with a store that was there that of the first fault, or the first one where the
-- script is generated, which needs a new store.
abbrev pub unlike : Opened → Script → Bool → Option ℕ
unlike opened script generated = cond opened.fresh None (cond generated (Some 1) (stored_fault script opened.catalog))

-- ---- opening

module _ {D : Type 0} (disk : Disk D) (faults : D → ℕ) where
  -- the disk was opened as this store, or as a new one of these tables from this cut
  pub record HasOpened (catalog : List Table) (start : Point) (old : D) (opened : Opened) (new : D) : Type 0 where
    pub opens_to : IsTrue disk.tells → OpensTo catalog start (disk.seen old) (Ok opened)
    pub moments : IsTrue disk.tells → Steps disk (Reopens catalog start) old new
    pub stands : IsTrue disk.tells → AllImages disk (IsOpenedAs opened) new
    pub begins : IsTrue disk.tells → AllImages disk (OpensAt (selection opened.cut.a opened.cut.b) opened.ends) new
    pub sound : IsSound opened
    pub later : faults old ≤ faults new

  -- why it was not: the disk failed, this is the first field that is wrong, or memory was wanting
  abbrev pub WhyNot : List Table → Point → D → D → RunFault → Type 0
  WhyNot catalog start old new run_fault.Device = Rose (faults old) (faults new)
  WhyNot catalog start old new (run_fault.Damaged file place w) = IsTrue disk.tells → opens catalog start (disk.seen old) ≡ Err (record { file = file; place = place; what = w })
  WhyNot catalog start old new run_fault.NoMemory = Unit {0}
  WhyNot catalog start old new _ = ⊥

  -- it was not opened
  pub record HasNotOpened (catalog : List Table) (start : Point) (old : D) (fault : RunFault) (new : D) : Type 0 where
    pub moments : IsTrue disk.tells → Steps disk (Reopens catalog start) old new
    pub why : WhyNot catalog start old new fault
    pub later : faults old ≤ faults new

  -- it was opened, and the script goes with it
  pub record StartsFrom (script : Script) (generated : Bool) (old : D) (opened : Opened) (new : D) : Type 0 where
    pub has_opened : HasOpened (tables_in script) (start_of script) old opened new
    pub goes : unlike opened script generated ≡ None

  -- why no run of the script began: this line of it does not go with the store that is there, or none was opened
  abbrev pub WhyNone : Script → Bool → D → D → RunFault → Type 0
  WhyNone script generated old new (run_fault.Tables line) =
      (opened : Opened) × (IsTrue disk.tells → OpensTo (tables_in script) (start_of script) (disk.seen old) (Ok opened)) × (unlike opened script generated ≡ Some line)
  WhyNone script generated old new fault = WhyNot (tables_in script) (start_of script) old new fault

  -- no run of the script began
  pub record HasNotBegun (script : Script) (generated : Bool) (old : D) (fault : RunFault) (new : D) : Type 0 where
    pub moments : IsTrue disk.tells → Steps disk (Reopens (tables_in script) (start_of script)) old new
    pub why : WhyNone script generated old new fault
    pub later : faults old ≤ faults new

-- a run may begin on it: it is sound, and every image of its disk opens as it, at its cut and with its ends
pub record MayBegin {D : Type 0} (disk : Disk D) (opened : Opened) (device : D) : Type 0 where
  pub sound : IsSound opened
  pub stands : IsTrue disk.tells → AllImages disk (IsOpenedAs opened) device
  pub begins : IsTrue disk.tells → AllImages disk (OpensAt (selection opened.cut.a opened.cut.b) opened.ends) device
