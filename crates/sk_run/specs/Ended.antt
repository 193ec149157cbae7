-- What a run hands out at its end, and that it is of one database.
use Rattle.std.specs.Prelude.{◌≡◌, List, ◌∷◌, ◌++◌, None}
use Rattle.std.specs.List.{flat_map, AllByRecursion}
use Rattle.sk_rows.specs.declared.table.Table.{Table}
use Rattle.sk_model.specs.declared.engine.EngineName.TheVariants.{Mem, Store}
use Rattle.sk_model.specs.declared.point.Point.{Point}
use Rattle.sk_model.specs.declared.commit.Commit.{Commit}
use Rattle.sk_model.specs.declared.record.Record.{Record}
use Rattle.sk_model.specs.declared.call.Entry.{Entry}
use Rattle.sk_model.specs.Database.{Tables, state}
use Rattle.sk_model.specs.Engine.{EngineTable, keeps}
use Rattle.sk_model.specs.Records.{OneDatabase}
use Rattle.sk_weave.specs.Woven.{Owned}
use Rattle.sk_weave.specs.PrefixLaws.{prefix_at}
use Rattle.sk_linked.specs.Reads.{order_of}
use Rattle.sk_linked.specs.Traces.{run_of, In}
use Rattle.sk_model.specs.declared.record.Said.{Said}
use Rattle.sk_linked.specs.Causes.{Ring, Caused}
use Rattle.sk_linked.specs.Kept.{Play, traces_in, records_in, IsPlay}
use Rattle.sk_mem.specs.declared.engine.MemEngine.{MemEngine}
use Rattle.sk_store.specs.declared.engine.StoreEngine.{StoreEngine}
use Rattle.sk_recorded.specs.Flushes.{Flush, last_cut, written}
use Rattle.sk_run.specs.Told.{RunLine, AreSaid}
use Rattle.sk_run.specs.State.{RunState}
use Rattle.sk_run.specs.Kept.{Beginning, HasKept}
use Rattle.sk_run.specs.Numbered.{AreByRecords}
use Rattle.sk_run.specs.declared.ended.Ended.{Ended}

-- no statements: what a session does as it is left
abbrev pub AreSteps : List RunLine → Type 0
AreSteps lines = AllByRecursion (λ (l : RunLine). l.line.0 ≡ None) lines

abbrev pub joined : List (List Record) → List Record
joined parts = flat_map (λ (rs : List Record). rs) parts

-- Behind each of the flushes a disk shows a prefix of the list: whatever image and logs made the rows with which the run began, with what was
-- written behind both logs so far they make the tables that the list shows at the last cut.
abbrev pub ShowPrefixes : List Table → Beginning → List Flush → List Commit → Type 0
ShowPrefixes catalog b fs order = (front back : List Flush) → fs ≡ front ++ back → (base : Tables) (m s : List Commit) → b.rows ≡ state base (m ++ s) → Owned (keeps Store catalog) m s →
    let q : Point = last_cut b.first front in
    state base ((m ++ written Mem front) ++ (s ++ written Store front)) ≡ state b.rows (prefix_at order q.a q.b)

-- and each last cut is one of the points
abbrev pub CutsAreAmong : Beginning → List Flush → List Point → Type 0
CutsAreAmong b fs points = (front back : List Flush) → fs ≡ front ++ back → In (last_cut b.first front) points

-- A run over these tables that began so, was told these lines with these flushes between them, and was then left, has this to hand out: its
-- records, journals and points are of one run of sessions, which began with these rows; the list is the one that is woven from its points and
-- its committed writers; they are of one database; each refusal has its cause, one of the registry by the measures of its ring; each commit has the
-- numbers of the record with its label; the records of each session say what its lines were answered; and behind each flush a disk shows a
-- prefix of the list.
pub record HasEnded (catalog : List Table) (b : Beginning) (lines : List RunLine) (fs : List Flush) (x : Ended) : Type 0 where
  pub play : Play
  pub is_play : IsPlay play
  pub catalog_is : play.catalog ≡ catalog
  pub rows_are : play.rows ≡ b.rows
  pub mem_is : x.mem ≡ play.journals Mem
  pub store_is : x.store ≡ play.journals Store
  pub points_are : x.points ≡ play.first ∷ play.points
  pub records_are : x.records ≡ records_in play
  pub order_is : x.order ≡ order_of (run_of (traces_in play))
  pub one : OneDatabase catalog b.rows x.order x.places x.records
  pub ring : Ring
  pub caused : AllByRecursion (λ (r : Record). AllByRecursion (λ (s : Said). Caused (traces_in play) ring r s.reply) r.said) x.records
  pub numbered : AreByRecords x.order x.records
  pub steps : List RunLine
  pub are_steps : AreSteps steps
  pub parts : List (List Record)
  pub are_parts : x.records ≡ joined parts
  pub said : AreSaid 1 (lines ++ steps) parts
  pub shows : ShowPrefixes catalog b fs x.order
  pub cuts : CutsAreAmong b fs x.points

module _ (mem : MemEngine → EngineTable → List Entry → Type 0) (store : StoreEngine → EngineTable → List Entry → Type 0) where
  -- however it began, and whatever the lines and the flushes so far were: with some lines more that are no statements it has kept them
  abbrev pub Settles : RunState → RunState → Type 0
  Settles old new = (b : Beginning) (lines : List RunLine) (fs : List Flush) → HasKept mem store b lines fs old → (steps : List RunLine) × AreSteps steps × HasKept mem store b (lines ++ steps) fs new

  -- however it began, and whatever the lines and the flushes were, the run has ended so
  abbrev pub Ends : RunState → Ended → Type 0
  Ends old x = (b : Beginning) (lines : List RunLine) (fs : List Flush) → HasKept mem store b lines fs old → HasEnded old.catalog b lines fs x

  -- however it began, whatever the lines and the flushes were, and which of the last lines are no statements, the run has come to this
  abbrev pub HandsOut : RunState → Ended → Type 0
  HandsOut now x = (b : Beginning) (lines steps : List RunLine) (fs : List Flush) → AreSteps steps → HasKept mem store b (lines ++ steps) fs now → HasEnded now.catalog b lines fs x
