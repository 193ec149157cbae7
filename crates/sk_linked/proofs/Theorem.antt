-- Every run of the machine is linked, and so of one database.
use Rattle.std.specs.Prelude.{List}
use Rattle.sk_linked.specs.declared.event.Event.{Event}
use Rattle.sk_linked.specs.State.{core_at}
use Rattle.sk_linked.specs.Runs.{Start, ran, RunsAreLinked, RunsAreOne}
use Rattle.sk_linked.specs.Invariant.{Invariant}
use Rattle.sk_linked.proofs.One.{one}
use Rattle.sk_linked.proofs.Stepping.{starts_well, run_keeps}

pub all_keep : (s : Start) (events : List Event) → Invariant (ran s events)
all_keep s events = run_keeps (core_at s.catalog s.rows s.first s.partitions s.size) events (starts_well s.catalog s.rows s.first s.partitions s.size s.can_start s.sorted)

pub linked : RunsAreLinked
linked s events = (all_keep s events).linked

pub all_one : RunsAreOne
all_one s events = one _ (linked s events) (all_keep s events).sorted
