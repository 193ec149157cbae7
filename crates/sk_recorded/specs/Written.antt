-- What the flushes of a run wrote, one behind the other, is all that each engine committed up to the last cut, and makes the tables of the
-- run's one list there; also behind what the engines' logs had before.
use Rattle.std.specs.Prelude.{◌≡◌, List, ◌∷◌, ◌++◌}
use Rattle.sk_rows.specs.declared.table.Table.{Table}
use Rattle.sk_model.specs.declared.engine.EngineName.TheVariants.{Mem, Store}
use Rattle.sk_model.specs.declared.commit.Commit.{Commit}
use Rattle.sk_model.specs.declared.point.Point.{Point}
use Rattle.sk_model.specs.Database.{Tables, state}
use Rattle.sk_model.specs.Engine.{keeps}
use Rattle.sk_weave.specs.Woven.{Owned}
use Rattle.sk_weave.specs.Laws.{mem_upto, store_upto}
use Rattle.sk_weave.specs.PrefixLaws.{prefix_at}
use Rattle.sk_linked.specs.Reads.{Run, order_of}
use Rattle.sk_linked.specs.Traces.{In}
use Rattle.sk_session.specs.Common.{Common}
use Rattle.sk_kept.specs.Sessions.{Player}
use Rattle.sk_kept.specs.Ended.{IsPaused}
use Rattle.sk_recorded.specs.Recorded.{run_now}
use Rattle.sk_recorded.specs.Flushes.{Flush, AllFlush, last_cut, written, IsStored}

-- At each point of a run, what each engine committed up to it makes the tables that the one list shows there.
abbrev pub StoredIsPrefix : Type 0
StoredIsPrefix = (catalog : List Table) (rows : Tables) (first : Point) (points : List Point) (c : Common) (players : List Player) → IsPaused catalog rows first points c players
    → (q : Point) → In q (first ∷ points) →
    let run : Run = run_now catalog rows first points c players in
    state rows (mem_upto q.a (run.commits Mem) ++ store_upto q.b (run.commits Store)) ≡ state rows (prefix_at (order_of run) q.a q.b)

-- So it is with what flushes from the first point on wrote, up to the last cut.
abbrev pub WrittenIsStored : Type 0
WrittenIsStored = (catalog : List Table) (rows : Tables) (first : Point) (points : List Point) (c : Common) (players : List Player) → IsPaused catalog rows first points c players
    → (fs : List Flush) → AllFlush (first ∷ points) c.journals first fs
    → IsStored (run_now catalog rows first points c players) (last_cut first fs) (written Mem fs) (written Store fs)

-- Each engine's commits that these flushes wrote are of its own tables.
abbrev pub WrittenIsOwned : Type 0
WrittenIsOwned = (catalog : List Table) (rows : Tables) (first : Point) (points : List Point) (c : Common) (players : List Player) → IsPaused catalog rows first points c players
    → (fs : List Flush) → AllFlush (first ∷ points) c.journals first fs
    → Owned (keeps Store catalog) (written Mem fs) (written Store fs)

-- A run that began with the tables of an image and of both engines' logs writes its flushes behind them: the image and both logs then make the
-- tables that the run's one list shows at the last cut.
abbrev pub ShowsBehind : Type 0
ShowsBehind = (catalog : List Table) (rows : Tables) (first : Point) (points : List Point) (c : Common) (players : List Player) → IsPaused catalog rows first points c players
    → (fs : List Flush) → AllFlush (first ∷ points) c.journals first fs
    → (base : Tables) (a b : List Commit) → rows ≡ state base (a ++ b) → Owned (keeps Store catalog) a b →
    let run : Run = run_now catalog rows first points c players in
    let q : Point = last_cut first fs in
    state base ((a ++ written Mem fs) ++ (b ++ written Store fs)) ≡ state rows (prefix_at (order_of run) q.a q.b)
