-- What the records of a run say that the registry refused, it refused in a state of that run.
use Rattle.std.specs.Prelude.{List}
use Rattle.std.specs.List.{AllByRecursion}
use Rattle.sk_rows.specs.declared.table.Table.{Table}
use Rattle.sk_model.specs.declared.point.Point.{Point}
use Rattle.sk_model.specs.declared.record.Record.{Record}
use Rattle.sk_model.specs.declared.record.Said.{Said}
use Rattle.sk_model.specs.Database.{Tables}
use Rattle.sk_weave.specs.Registry.{Regs}
use Rattle.sk_linked.specs.Kept.{Play, traces_in, records_in}
use Rattle.sk_linked.specs.Causes.{Ring, RegistrySaid}
use Rattle.sk_session.specs.Common.{Common}
use Rattle.sk_session.specs.Denied.{SessionDenied}
use Rattle.sk_kept.specs.Sessions.{Player}
use Rattle.sk_kept.specs.Ended.{play_of, IsPaused}
use Rattle.sk_recorded.specs.Growing.{HeardBy}

abbrev pub ring_of : Regs → Ring
ring_of r = record { partitions = r.partitions; size = r.size }

-- Where each session is between two lines, and what its records say that the registry refused was heard of it, the registry said it in a state
-- of the run.
abbrev pub RefusalsAreSaid : Type 0
RefusalsAreSaid = (catalog : List Table) (rows : Tables) (first : Point) (points : List Point) (c : Common) (players : List Player) → IsPaused catalog rows first points c players
    → AllByRecursion (λ (x : Player). SessionDenied (HeardBy c) x.session) players →
    let p : Play = play_of catalog rows first points c players in
    AllByRecursion (λ (r : Record). AllByRecursion (λ (s : Said). RegistrySaid (traces_in p) (ring_of c.regs) r s.reply) r.said) (records_in p)
