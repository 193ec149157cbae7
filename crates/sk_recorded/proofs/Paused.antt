-- The laws of a run whose sessions are all between two lines.
use Rattle.std.specs.Prelude.{List, ◌++◌}
use Rattle.std.proofs.Common.{sym, ap, ◌∙◌}
use Rattle.sk_rows.specs.declared.table.Table.{Table}
use Rattle.sk_model.specs.declared.point.Point.{Point}
use Rattle.sk_model.specs.declared.engine.EngineName.TheVariants.{Mem, Store}
use Rattle.sk_model.specs.Database.{Tables, state}
use Rattle.sk_model.specs.Engine.{keeps}
use Rattle.sk_linked.specs.Traces.{Traces, Linked}
use Rattle.sk_linked.specs.Kept.{traces_in}
use Rattle.sk_linked.proofs.Kept.{sessions_are_one}
use Rattle.sk_session.specs.Common.{Common}
use Rattle.sk_kept.specs.Sessions.{Player}
use Rattle.sk_kept.specs.Ended.{play_of, IsPaused}
use Rattle.sk_kept.proofs.Ended.{paused_is_one}
use Rattle.sk_recorded.specs.Entries.{records_entry}
use Rattle.sk_recorded.specs.Flushes.{written}
use Rattle.sk_recorded.specs.Recorded.{EntriesAreWindows}
use Rattle.sk_recorded.specs.Written.{StoredIsPrefix, WrittenIsStored, WrittenIsOwned, ShowsBehind}
use Rattle.sk_recorded.proofs.Behind.{state_behind}
use Rattle.sk_recorded.proofs.Entries.{middle, entry_window}
use Rattle.sk_recorded.proofs.Flushes.{stored_prefix, written_stored, written_owned}

abbrev traces_now : List Table → Tables → Point → List Point → Common → List Player → Traces
traces_now catalog rows first points c players = traces_in (play_of catalog rows first points c players)

linked : (catalog : List Table) (rows : Tables) (first : Point) (points : List Point) (c : Common) (players : List Player) → IsPaused catalog rows first points c players
    → Linked (traces_now catalog rows first points c players)
linked catalog rows first points c players paused = (sessions_are_one (play_of catalog rows first points c players) (paused_is_one catalog rows first points c players paused).0).linked

pub entries_are_windows : EntriesAreWindows
entries_are_windows catalog rows first points c players paused name from to cs used i enough =
    entry_window (traces_now catalog rows first points c players) (linked catalog rows first points c players paused) name from to cs (middle (records_entry from to cs) (c.journals name) i) used enough

pub stored_is_prefix : StoredIsPrefix
stored_is_prefix catalog rows first points c players paused q i = stored_prefix (traces_now catalog rows first points c players) (linked catalog rows first points c players paused) q i

pub written_is_stored : WrittenIsStored
written_is_stored catalog rows first points c players paused fs k = written_stored (traces_now catalog rows first points c players) (linked catalog rows first points c players paused) fs k

pub written_is_owned : WrittenIsOwned
written_is_owned catalog rows first points c players paused fs k = written_owned (traces_now catalog rows first points c players) (linked catalog rows first points c players paused) fs k

pub shows_behind : ShowsBehind
shows_behind catalog rows first points c players paused fs k base a b e o =
    state_behind (keeps Store catalog) base a (written Mem fs) b (written Store fs) o (written_is_owned catalog rows first points c players paused fs k)
    ∙ ap (λ db. state db (written Mem fs ++ written Store fs)) (sym e)
    ∙ (written_is_stored catalog rows first points c players paused fs k).tables
