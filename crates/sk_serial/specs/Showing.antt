-- What a disk shows of a run: the store with which it began, with what its flushes wrote behind it.
use Rattle.std.specs.Prelude.{◌≡◌, ◌⊎◌, Bool, true, false, List, [], ◌++◌, IsTrue}
use Rattle.sk_device.specs.Disk.{Image, Disk, AfterStep, Steps}
use Rattle.sk_rows.specs.declared.table.Table.{Table}
use Rattle.sk_model.specs.declared.engine.EngineName.TheVariants.{Mem, Store}
use Rattle.sk_model.specs.declared.call.Entry.{Entry}
use Rattle.sk_model.specs.declared.commit.Commit.{Commit}
use Rattle.sk_model.specs.declared.point.Point.{Point}
use Rattle.sk_model.specs.Database.{Tables, state}
use Rattle.sk_model.specs.Engine.{EngineTable}
use Rattle.sk_mem.specs.declared.engine.MemEngine.{MemEngine}
use Rattle.sk_store.specs.declared.engine.StoreEngine.{StoreEngine}
use Rattle.sk_weave.specs.PrefixLaws.{prefix_at}
use Rattle.sk_linked.specs.Traces.{In}
use Rattle.sk_log.specs.Stores.{Opening, rows_of}
use Rattle.sk_log.specs.Growth.{OpensAs}
use Rattle.sk_cut.specs.declared.pipeline.Batch.{Batch}
use Rattle.sk_cut.specs.Acked.{IsUpTo}
use Rattle.sk_cut.specs.Batches.{as_cut, same_cut}
use Rattle.sk_cut.specs.Flush.{AtMostGrows, HasGrown}
use Rattle.sk_durable.specs.Kept.{Kept}
use Rattle.sk_recorded.specs.Flushes.{Flush, last_cut, written}
use Rattle.sk_run.specs.State.{RunState}
use Rattle.sk_run.specs.Told.{RunLine}
use Rattle.sk_run.specs.Kept.{Beginning, HasKept}
use Rattle.sk_run.specs.Flushing.{SameNumbers}
use Rattle.sk_run.specs.Ended.{ShowPrefixes, CutsAreAmong}
use Rattle.sk_run.specs.declared.ended.Ended.{Ended}
use Rattle.sk_run.specs.declared.flushing.Found.{Found}

-- ---- images

-- the image opens as the opening with what these flushes wrote behind both logs, from the first cut on
pub record Holds (first : Point) (fs : List Flush) (o : Opening) (image : Image) : Type 0 where
  pub opening : Opening
  pub stands : OpensAs image opening
  pub base : opening.base ≡ o.base
  pub mem : opening.mem ≡ o.mem ++ written Mem fs
  pub store : opening.store ≡ o.store ++ written Store fs
  pub cut : opening.cut ≡ as_cut (last_cut first fs)

-- so it is with a front of these flushes
pub record HoldsFront (first : Point) (fs : List Flush) (o : Opening) (image : Image) : Type 0 where
  pub front : List Flush
  pub back : List Flush
  pub flushes_are : fs ≡ front ++ back
  pub holds : Holds first front o image

-- what the one opens as at this cut, the other holds with a front of these flushes
abbrev pub GrowsBy : Point → List Flush → Image → Image → Type 0
GrowsBy first fs was image = (o : Opening) → OpensAs was o → o.cut ≡ as_cut first → HoldsFront first fs o image

-- or with all of them, or these and the one that was tried
abbrev pub HasGrownBy : Point → List Flush → List Flush → Image → Image → Type 0
HasGrownBy first fs tried was image = (o : Opening) → OpensAs was o → o.cut ≡ as_cut first → Holds first fs o image ⊎ Holds first (fs ++ tried) o image

-- From a disk on which a run began: at each moment an image holds a front of its flushes. What a stop now may leave holds all that were written,
-- and where the disk failed in one more perhaps that one; the durable cut is the last that was written, and that of the one more is not below it.
pub record Shows {D : Type 0} (disk : Disk D) (first : Point) (begun : D) (fs tried : List Flush) (now : D) (cut : Point) (broken : Bool) : Type 0 where
  pub moments : IsTrue disk.tells → Steps disk (GrowsBy first (fs ++ tried)) begun now
  pub leaves : IsTrue disk.tells → (image : Image) → disk.may_leave now image → AfterStep disk (HasGrownBy first fs tried) begun image
  pub last : SameNumbers cut (last_cut first fs)
  pub tries : IsUpTo (last_cut first (fs ++ tried)) cut
  pub sure : broken ≡ false → tried ≡ []

-- ---- a flush

abbrev pub batch_of : Found → Batch
batch_of found = record { cut = found.cut; mem = found.mem; store = found.store }

-- the disk and the durable cut are what they were
pub record IsStill {D : Type 0} (old new : Kept D) : Type 0 where
  pub disk : new.disk ≡ old.disk
  pub broken : new.broken ≡ old.broken
  pub cut : SameNumbers new.cut old.cut

-- the batch was written behind what each image held; or the disk failed meanwhile
pub record Appends {D : Type 0} (disk : Disk D) (old : Kept D) (batch : Batch) (new : Kept D) : Type 0 where
  pub unlike : same_cut batch.cut old.cut ≡ false
  pub moments : IsTrue disk.tells → Steps disk (AtMostGrows old.ends batch) old.disk new.disk
  pub whole : new.broken ≡ false → IsTrue disk.tells → HasGrown disk old.ends batch old.disk new.disk
  pub cut : new.broken ≡ false → SameNumbers new.cut batch.cut
  pub stays : new.broken ≡ true → SameNumbers new.cut old.cut

module _ {D : Type 0} (disk : Disk D) (mem : MemEngine → EngineTable → List Entry → Type 0) (store : StoreEngine → EngineTable → List Entry → Type 0) where
  -- a run that began so was told these lines, and its disk shows it
  pub record HasSaved (b : Beginning) (begun : D) (lines : List RunLine) (run : RunState) (kept : Kept D) : Type 0 where
    pub flushes : List Flush
    pub tried : List Flush
    pub has_kept : HasKept mem store b lines (flushes ++ tried) run
    pub shows : Shows disk b.first begun flushes tried kept.disk kept.cut kept.broken

  -- however the run began and whatever it was told: its disk shows it still
  abbrev pub SavesOn : RunState → Kept D → RunState → Kept D → Type 0
  SavesOn run kept new_run new_kept = (b : Beginning) (begun : D) (lines : List RunLine) → HasSaved b begun lines run kept → HasSaved b begun lines new_run new_kept

-- the flushes of a run that has ended, on its disk: behind each front of them the disk shows a prefix of the list
pub record IsOnDisk {D : Type 0} (disk : Disk D) (catalog : List Table) (b : Beginning) (begun : D) (x : Ended) (now : D) (cut : Point) (broken : Bool) : Type 0 where
  pub flushes : List Flush
  pub tried : List Flush
  pub shows : Shows disk b.first begun flushes tried now cut broken
  pub prefixes : ShowPrefixes catalog b (flushes ++ tried) x.order
  pub cuts : CutsAreAmong b (flushes ++ tried) x.points

-- ---- the printed list

-- the image opens at this point, over these tables, and shows the prefix of the list there
pub record ShowsPrefix (catalog : List Table) (rows : Tables) (order : List Commit) (at : Point) (image : Image) : Type 0 where
  pub opening : Opening
  pub stands : OpensAs image opening
  pub is_catalog : opening.base.catalog ≡ catalog
  pub is_cut : opening.cut ≡ as_cut at
  pub is_prefix : rows_of opening ≡ state rows (prefix_at order at.a at.b)

-- it does at one of these points
pub record ShowsSome (catalog : List Table) (rows : Tables) (order : List Commit) (points : List Point) (image : Image) : Type 0 where
  pub at : Point
  pub among : In at points
  pub shows : ShowsPrefix catalog rows order at image

-- and that point is not below this cut
pub record ShowsLater (catalog : List Table) (rows : Tables) (order : List Commit) (points : List Point) (cut : Point) (image : Image) : Type 0 where
  pub some : ShowsSome catalog rows order points image
  pub later : IsUpTo some.at cut
