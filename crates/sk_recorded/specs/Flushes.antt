-- Flushes of a run, one behind the other, and what they wrote.
use Rattle.std.specs.Prelude.{◌≡◌, ◌≤◌, List, [], ◌∷◌, ◌++◌}
use Rattle.std.specs.List.{flat_map}
use Rattle.sk_model.specs.declared.engine.EngineName.{EngineName}
use Rattle.sk_model.specs.declared.engine.EngineName.TheVariants.{Mem, Store}
use Rattle.sk_model.specs.declared.point.Point.{Point}
use Rattle.sk_model.specs.declared.commit.Commit.{Commit}
use Rattle.sk_model.specs.declared.call.Entry.{Entry}
use Rattle.sk_model.specs.Database.{state}
use Rattle.sk_weave.specs.Laws.{mem_upto, store_upto}
use Rattle.sk_weave.specs.PrefixLaws.{prefix_at}
use Rattle.sk_linked.specs.Reads.{Run, number_at, order_of}
use Rattle.sk_linked.specs.Traces.{In}
use Rattle.sk_recorded.specs.Joined.{joined}
use Rattle.sk_recorded.specs.Entries.{records_entry, AreEnough}

-- one flush: its cut, the points by which it joined, and what each engine answered
pub record Flush : Type 0 where
  pub cut : Point
  pub points : List Point
  pub answers : EngineName → List Commit

-- It went from one cut on to its own, which is one of the points: each engine answered its commits from the one to the other, and the points
-- by which they were joined are enough.
pub record Flushes (points : List Point) (journals : EngineName → List Entry) (low : Point) (f : Flush) : Type 0 where
  pub cut : In f.cut points
  pub goes_on : (name : EngineName) → number_at name low ≤ number_at name f.cut
  pub asked : (name : EngineName) → In (records_entry (number_at name low) (number_at name f.cut) (f.answers name)) (journals name)
  pub enough : (name : EngineName) → AreEnough name points f.points (number_at name low) (number_at name f.cut)

-- each goes on from the cut of the one before
abbrev pub AllFlush : List Point → (EngineName → List Entry) → Point → List Flush → Type 0
AllFlush points journals low [] = Unit {0}
AllFlush points journals low (f ∷ fs) = Flushes points journals low f × AllFlush points journals f.cut fs

-- the last cut
abbrev pub last_cut : Point → List Flush → Point
last_cut low [] = low
last_cut low (f ∷ fs) = last_cut f.cut fs

-- the commits of one engine that these flushes wrote
abbrev pub written : EngineName → List Flush → List Commit
written name fs = flat_map (λ (f : Flush). joined name f.points (f.answers name)) fs

-- these are the commits of each engine up to a point, and they make the tables that the one list shows there
pub record IsStored (run : Run) (q : Point) (mem store : List Commit) : Type 0 where
  pub of_mem : mem ≡ mem_upto q.a (run.commits Mem)
  pub of_store : store ≡ store_upto q.b (run.commits Store)
  pub tables : state run.rows (mem ++ store) ≡ state run.rows (prefix_at (order_of run) q.a q.b)

-- A flush stays one while the run goes on: points are appended, and each entry stays in its journal.
abbrev pub FlushesStay : Type 0
FlushesStay = (points more : List Point) (old new : EngineName → List Entry) (low : Point) (fs : List Flush) → ((name : EngineName) (j : Entry) → In j (old name) → In j (new name))
    → AllFlush points old low fs → AllFlush (points ++ more) new low fs

-- one more flush behind these, which wrote its commits behind theirs
pub record OneMore (points : List Point) (journals : EngineName → List Entry) (low : Point) (fs : List Flush) (f : Flush) : Type 0 where
  pub all : AllFlush points journals low (fs ++ f ∷ [])
  pub cut : last_cut low (fs ++ f ∷ []) ≡ f.cut
  pub wrote : (name : EngineName) → written name (fs ++ f ∷ []) ≡ written name fs ++ joined name f.points (f.answers name)

-- A flush that goes on from the last cut is one more.
abbrev pub FlushesGoOn : Type 0
FlushesGoOn = (points : List Point) (journals : EngineName → List Entry) (low : Point) (fs : List Flush) (f : Flush) → AllFlush points journals low fs → Flushes points journals (last_cut low fs) f
    → OneMore points journals low fs f
