-- What an image opens as, by what its root says.
use Rattle.std.proofs.Common.{◌≡◌, ◌⊎◌, ℕ, Bool, false, List, Option, Some, None, Result, Ok, Err, refl, sym, ap, ◌∙◌, inl, inr}
use Rattle.std.specs.Prelude.{IfOk, IfErr}
use Rattle.sk_device.specs.Disk.{Image, Disk}
use Rattle.sk_rows.specs.declared.table.Table.{Table}
use Rattle.sk_model.specs.declared.point.Point.{Point}
use Rattle.sk_codec.specs.declared.fault.Fault.{Fault}
use Rattle.sk_codec.specs.Reading.{Fails}
use Rattle.sk_log.specs.Calls.{store_file, anchor_file, image_file}
use Rattle.sk_log.specs.Groups.{selection}
use Rattle.sk_log.specs.Growth.{OpensAs, OpensAt}
use Rattle.sk_log.specs.Stores.{Root, Opening, entry_at, holding, new_store, open_from, opens}
use Rattle.sk_codec.specs.declared.fault.ReadFault.{ReadFault}
use Rattle.sk_codec.specs.declared.fault.ReadFault.TheVariants as read_fault
use Rattle.sk_recover.specs.declared.opening.OpenFault.{OpenFault}
use Rattle.sk_recover.specs.declared.opening.OpenFault.TheVariants as fault
use Rattle.sk_recover.specs.declared.opening.Opened.{Opened}
use Rattle.sk_recover.specs.Making.{AllImages}
use Rattle.sk_recover.specs.Opened.{IsOpened, IsOpenedAs, IsSound, OpensTo, Refuses, is_new, told, stored_at}

-- an entry is open
pub opens_stored : (catalog : List Table) (start : Point) (image : Image) (root : List ℕ) (at : ℕ) → root ≡ image 0 → holding root ≡ Ok (Some at) → opens catalog start image ≡ open_from image at
unfolding opens
opens_stored catalog start image root at is held = rw (← is, held) refl

-- none is
pub opens_new : (catalog : List Table) (start : Point) (image : Image) (root : List ℕ) → root ≡ image 0 → holding root ≡ Ok None → opens catalog start image ≡ Ok (new_store catalog start)
unfolding opens
opens_new catalog start image root is held = rw (← is, held) refl

-- both are, with one sequence
pub opens_wrong : (catalog : List Table) (start : Point) (image : Image) (root : List ℕ) (f : Fault) → root ≡ image 0 → holding root ≡ Err f → opens catalog start image ≡ Err f
unfolding opens
opens_wrong catalog start image root f is held = rw (← is, held) refl

-- whether an entry is open is a matter of the root
pub same_root : (image : Image) (root : List ℕ) (h : Result (Option ℕ) Fault) → root ≡ image 0 → holding root ≡ h → is_new h ≡ is_new (holding (image 0))
same_root image root h is held = ap (λ (x : Result (Option ℕ) Fault). is_new x) (sym held) ∙ ap (λ (l : List ℕ). is_new (holding l)) is

-- a fault that says nothing of the bytes
pub says_nothing : {Y : Type 0} (e : OpenFault) (meant : Result Y Fault) → (e ≡ fault.Device) ⊎ (e ≡ fault.NoMemory) → Refuses e meant
says_nothing fault.Device meant h = tt
says_nothing fault.NoMemory meant h = tt
says_nothing (fault.Damaged file place what) meant (inl is) = absurd cc
says_nothing (fault.Damaged file place what) meant (inr is) = absurd cc

-- the files that the root entry names
pub stored_is : (image : Image) (root base one two : List ℕ) (at : ℕ) (r : Root) → root ≡ image 0 → entry_at root at ≡ Ok r → base ≡ image (image_file r.set) → one ≡ image (store_file r.set) → two ≡ image (anchor_file r.set)
    → stored_at r base one two ≡ open_from image at
unfolding open_from
stored_is image root base one two at r is read b o t = rw (← is, read, b, o, t) refl

-- a root entry that is wrong
pub entry_refused : (e : ReadFault) (image : Image) (root : List ℕ) (at : ℕ) → root ≡ image 0 → Fails e (entry_at root at) → Refuses (told e) (open_from image at)
unfolding open_from
entry_refused read_fault.NoMemory image root at is read = tt
entry_refused (read_fault.Wrong f) image root at is read = rw (← is, read) refl

-- the store that is answered is the opening of the image
pub opens_to : (catalog : List Table) (start : Point) (image : Image) (p : Opening) (r : Result Opened OpenFault) → opens catalog start image ≡ Ok p → IfOk r (λ o. IsOpened o p) → IfErr r (λ e. e ≡ fault.NoMemory) → OpensTo catalog start image r
opens_to catalog start image p (Ok o) is opened refused = record { opening = p; opens = is; is = opened }
opens_to catalog start image p (Err e) is opened refused = says_nothing e (opens catalog start image) (inr refused)

-- every image opens as the store that is answered
pub all_stand : {D : Type 0} (disk : Disk D) (device : D) (p : Opening) (r : Result Opened OpenFault) → AllImages disk (λ image. OpensAs image p) device → IfOk r (λ o. IsOpened o p) → IfOk r (λ o. AllImages disk (IsOpenedAs o) device)
all_stand disk device p (Ok o) all opened = λ image now. record { opening = p; stands = all image now; is = opened }
all_stand disk device p (Err e) all opened = tt

is_selection : (p : Point) → p.commit ≡ false → p ≡ selection p.a p.b
is_selection p is = ap (λ (c : Bool). record { a = p.a; b = p.b; commit = c }) is

-- it opens at the cut and with the ends that are answered
pub all_begin : {D : Type 0} (disk : Disk D) (device : D) (p : Opening) (r : Result Opened OpenFault) → AllImages disk (λ image. OpensAs image p) device → IfOk r (λ o. IsOpened o p) → IfOk r (λ o. IsSound o)
    → IfOk r (λ o. AllImages disk (OpensAt (selection o.cut.a o.cut.b) o.ends) device)
all_begin disk device p (Ok o) all opened sound = λ image now. record { opening = p; stands = all image now; is_cut = sym opened.cut ∙ is_selection o.cut sound.selection; is_ends = sym opened.ends }
all_begin disk device p (Err e) all opened sound = tt
