-- What every run of the machine promises, whatever its events are.
use Rattle.std.specs.Prelude.{◌≡◌, ℕ, List, true, false, take, map}
use Rattle.std.specs.List.{list_any}
use Rattle.sk_rows.specs.declared.table.Table.{Table}
use Rattle.sk_model.specs.declared.commit.Commit.{Commit}
use Rattle.sk_model.specs.declared.point.Point.{Point}
use Rattle.sk_model.specs.Database.{Tables, state}
use Rattle.sk_model.specs.Records.{same_label, Fresh}
use Rattle.sk_weave.specs.Points.{selection}
use Rattle.sk_weave.specs.RegistryLaws.{CanStart}
use Rattle.sk_linked.specs.Reads.{AreSorted}
use Rattle.sk_linked.specs.declared.event.Event.{Event}
use Rattle.sk_linked.specs.declared.event.Event.TheVariants as event
use Rattle.sk_linked.specs.Traces.{In, Linked}
use Rattle.sk_linked.specs.Headline.{Headline}
use Rattle.sk_linked.specs.State.{Actor, record_of, Core, core_at, traces_of}
use Rattle.sk_linked.specs.Plans.{is_over}
use Rattle.sk_linked.specs.Machine.{commits_of, durable_place, step, run}

-- what a run begins with: opening rows in order, and the measures and the first point of a registry
pub record Start : Type 0 where
  pub catalog : List Table
  pub rows : Tables
  pub first : Point
  pub partitions : ℕ
  pub size : ℕ
  pub can_start : CanStart partitions size first
  pub sorted : AreSorted rows

abbrev pub ran : Start → List Event → Core
ran s events = run (core_at s.catalog s.rows s.first s.partitions s.size) events

-- the journals, the points and the transactions of every run belong together
abbrev pub RunsAreLinked : Type 0
RunsAreLinked = (s : Start) (events : List Event) → Linked (traces_of (ran s events))

-- and so every run is of one database with one list of commits
abbrev pub RunsAreOne : Type 0
RunsAreOne = (s : Start) (events : List Event) → Headline (traces_of (ran s events))

-- The durable cut is a point of the run. The prefix at it holds each commit that has ended and waits for no cut, and once stopped the
-- machine opens with just the rows after this prefix, at a selection of the durable cut.
pub record IsDurable (k : Core) : Type 0 where
  pub point : In k.durable k.regs.points
  pub holds : (r : Actor) → In r k.actors → r.committed ≡ true → is_over r.stage ≡ true → list_any (same_label r.label) k.queue ≡ false
      → (c : Commit) → In c (commits_of k) → c.label ≡ r.label → In c (take (durable_place k) (commits_of k))
  pub opens : k.stopped ≡ true → (step k event.Reopen).core
      ≡ core_at k.catalog (state k.rows (take (durable_place k) (commits_of k))) (selection k.durable.a k.durable.b) k.regs.partitions k.regs.size

-- every run is durable, with stops and openings anywhere
abbrev pub RunsAreDurable : Type 0
RunsAreDurable = (s : Start) (events : List Event) → IsDurable (ran s events)

-- no session goes back
abbrev pub RunsAreFresh : Type 0
RunsAreFresh = (s : Start) (events : List Event) → Fresh (map (λ r. (record_of r).base) (ran s events).actors)
