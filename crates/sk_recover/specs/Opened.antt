-- What reading a store answers.
use Rattle.std.specs.Prelude.{◌≡◌, ℕ, ◌+◌, ◌<◌, ◌≤◌, Bool, true, false, T, List, length, Option, Some, None, Result, Ok, Err}
use Rattle.std.specs.List.{AllByRecursion}
use Rattle.std.specs.FinMap.{is_sorted}
use Rattle.sk_device.specs.Disk.{Image}
use Rattle.sk_rows.specs.declared.value.Value.{Value}
use Rattle.sk_rows.specs.Values.{value_cmp}
use Rattle.sk_model.specs.Database.{RowOf, Tables, table_of}
use Rattle.sk_model.specs.Numbers.{greatest_number}
use Rattle.sk_model.specs.Resembling.{RowFits}
use Rattle.sk_codec.specs.declared.fault.Fault.{Fault}
use Rattle.sk_codec.specs.declared.fault.ReadFault.{ReadFault}
use Rattle.sk_codec.specs.declared.fault.ReadFault.TheVariants as read_fault
use Rattle.sk_codec.specs.Reading.{◌>>=◌}
use Rattle.sk_log.specs.Calls.{image_file}
use Rattle.sk_log.specs.Images.{Base, base_at}
use Rattle.sk_log.specs.Stores.{Root, Opening, begun, new_store, opened, opens, rows_of, turns}
use Rattle.sk_rows.specs.declared.table.Table.{Table}
use Rattle.sk_model.specs.declared.point.Point.{Point}
use Rattle.sk_recover.specs.declared.opening.Opening.{Opening as AnyOpening}
use Rattle.sk_recover.specs.declared.opening.Opening.TheVariants as any
use Rattle.sk_recover.specs.declared.opening.Stored.{Stored}
use Rattle.sk_recover.specs.declared.opening.Opened.{Opened}
use Rattle.sk_log.specs.Growth.{OpensAs}
use Rattle.sk_recover.specs.declared.opening.OpenFault.{OpenFault}
use Rattle.sk_recover.specs.declared.opening.OpenFault.TheVariants as fault
use Rattle.sk_recover.specs.Taking.{Rise}
use Rattle.sk_recover.specs.Views.{position_of, IsReached}

-- a reader's fault, as an opening answers it
abbrev pub told : ReadFault → OpenFault
told (read_fault.Wrong f) = fault.Damaged f.file f.place f.what
told read_fault.NoMemory = fault.NoMemory

-- what was read, as an opening
abbrev pub base_in : Stored → Base
base_in s = record { catalog = s.catalog; rows = s.rows.items }

abbrev pub opening_of : Stored → Opening
opening_of s = opened (base_in s) (position_of s.catalog s.reached)

-- What a function returned is what was meant, or the first fault, unless the device failed or memory ran out.
abbrev pub Refuses : {Y : Type 0} → OpenFault → Result Y Fault → Type 0
Refuses fault.Device meant = Unit {0}
Refuses (fault.Damaged file place what) meant = meant ≡ Err (record { file = file; place = place; what = what })
Refuses fault.NoMemory meant = Unit {0}

abbrev pub Tells : {X Y : Type 0} → (X → Y) → Result X OpenFault → Result Y Fault → Type 0
Tells view (Ok x) meant = meant ≡ Ok (view x)
Tells view (Err e) meant = Refuses e meant

-- the image and both logs of a root entry, by their bytes
abbrev pub stored_at : Root → List ℕ → List ℕ → List ℕ → Result Opening Fault
stored_at root base one two =
    base_at (image_file root.set) base root.size >>= λ b. turns (length two + 1) one two (begun root b) >>= λ t. Ok (opened b t)

-- what holds where a store was made
abbrev pub IfFresh : AnyOpening → Type 0 → Type 0
IfFresh any.Fresh P = P
IfFresh (any.Stored s) P = Unit {0}

-- what holds where one was there
abbrev pub IfStored : AnyOpening → Type 0 → Type 0
IfStored any.Fresh P = Unit {0}
IfStored (any.Stored s) P = P

-- what holds of the store that was there
abbrev pub ForStored : AnyOpening → (Stored → Type 0) → Type 0
ForStored any.Fresh P = Unit {0}
ForStored (any.Stored s) P = P s

-- a store was made
abbrev pub is_fresh : AnyOpening → Bool
is_fresh any.Fresh = true
is_fresh (any.Stored s) = false

-- of the entries of a root none is open
abbrev pub is_new : Result (Option ℕ) Fault → Bool
is_new (Ok None) = true
is_new (Ok (Some at)) = false
is_new (Err f) = false

-- What was answered is what this image opens as, or the first fault, unless the device failed or memory ran out.
abbrev pub AnswersOpens : List Table → Point → Image → Result AnyOpening OpenFault → Type 0
AnswersOpens catalog start image (Ok any.Fresh) = opens catalog start image ≡ Ok (new_store catalog start)
AnswersOpens catalog start image (Ok (any.Stored s)) = opens catalog start image ≡ Ok (opening_of s)
AnswersOpens catalog start image (Err e) = Refuses e (opens catalog start image)

-- each of these rows fits its table and begins with its key
abbrev pub AllFit : List Table → Tables → Type 0
AllFit tables rows = (t : ℕ) → AllByRecursion (λ (r : Value × RowOf). RowFits tables t r.0 (Some r.1)) (table_of rows t)

-- what holds of a store that was read, whatever its device tells
pub record IsStored (s : Stored) : Type 0 where
  pub rise : AllByRecursion Rise s.rows.items
  pub count : length s.rows.items ≡ length s.catalog
  pub reached : IsReached s.reached
  pub fit : AllFit s.catalog (rows_of (opening_of s))

-- of each table the keys of the rows rise
abbrev pub AreOrdered : Tables → Type 0
AreOrdered rows = (t : ℕ) → T (is_sorted value_cmp (table_of rows t))

-- What an opened store obeys, whatever its device tells: a set of files, a cut that is a selection, and rows of each table that are in
-- order and fit it.
pub record IsSound (o : Opened) : Type 0 where
  pub set : o.ends.set < 2
  pub selection : o.cut.commit ≡ false
  pub mem : o.cut.a ≤ greatest_number
  pub store : o.cut.b ≤ greatest_number
  pub count : length o.rows ≡ length o.catalog
  pub ordered : AreOrdered o.rows
  pub fit : AllFit o.catalog o.rows

-- the store has the tables, the rows, the cut and the ends of this opening
pub record IsOpened (o : Opened) (p : Opening) : Type 0 where
  pub catalog : o.catalog ≡ p.base.catalog
  pub rows : o.rows ≡ rows_of p
  pub cut : o.cut ≡ p.cut
  pub ends : o.ends ≡ p.ends

-- a root entry is open, and the image opens as this store
pub record IsOpenedAs (o : Opened) (image : Image) : Type 0 where
  pub opening : Opening
  pub stands : OpensAs image opening
  pub is : IsOpened o opening

-- this image opens as this store
pub record IsOpeningOf (catalog : List Table) (start : Point) (image : Image) (o : Opened) : Type 0 where
  pub opening : Opening
  pub opens : opens catalog start image ≡ Ok opening
  pub is : IsOpened o opening

-- What was answered is what this image opens as, or the first fault, unless the device failed or memory ran out.
abbrev pub OpensTo : List Table → Point → Image → Result Opened OpenFault → Type 0
OpensTo catalog start image (Ok o) = IsOpeningOf catalog start image o
OpensTo catalog start image (Err e) = Refuses e (opens catalog start image)
