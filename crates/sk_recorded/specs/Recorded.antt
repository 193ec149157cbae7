-- What an engine answered of its commits at any moment of a run is a window of the run's one list, however long the run went on.
use Rattle.std.specs.Prelude.{◌≡◌, ℕ, List, ◌∷◌}
use Rattle.sk_rows.specs.declared.table.Table.{Table}
use Rattle.sk_model.specs.declared.engine.EngineName.{EngineName}
use Rattle.sk_model.specs.declared.point.Point.{Point}
use Rattle.sk_model.specs.declared.commit.Commit.{Commit}
use Rattle.sk_model.specs.Database.{Tables}
use Rattle.sk_linked.specs.Reads.{Run}
use Rattle.sk_linked.specs.Traces.{run_of, In}
use Rattle.sk_linked.specs.Kept.{traces_in}
use Rattle.sk_session.specs.Common.{Common}
use Rattle.sk_kept.specs.Sessions.{Player}
use Rattle.sk_kept.specs.Ended.{play_of, IsPaused}
use Rattle.sk_recorded.specs.Joined.{joined}
use Rattle.sk_recorded.specs.Windows.{window}
use Rattle.sk_recorded.specs.Entries.{records_entry, AreEnough}

-- the run that would be handed out now
abbrev pub run_now : List Table → Tables → Point → List Point → Common → List Player → Run
run_now catalog rows first points c players = run_of (traces_in (play_of catalog rows first points c players))

-- Each such entry of a journal, joined by points that are enough, is that window of the engine's commits in the run's one list.
abbrev pub EntriesAreWindows : Type 0
EntriesAreWindows = (catalog : List Table) (rows : Tables) (first : Point) (points : List Point) (c : Common) (players : List Player) → IsPaused catalog rows first points c players
    → (name : EngineName) (from to : ℕ) (cs : List Commit) (used : List Point) → In (records_entry from to cs) (c.journals name) → AreEnough name (first ∷ points) used from to
    → joined name used cs ≡ window name from to ((run_now catalog rows first points c players).commits name)
