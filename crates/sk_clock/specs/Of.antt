-- A pass of a clock.
use Rattle.std.specs.Prelude.{◌≡◌}
use Rattle.sk_clock.specs.declared.pass.Clock.{Clock}
use Rattle.sk_clock.specs.declared.view.Start.{Start}
use Rattle.sk_clock.specs.Held.{Held}

-- what the clock began with
abbrev pub start_of : Clock → Start
start_of c = c.table.shared.key

abbrev pub IsOf : Clock → Held → Type 0
IsOf c p = (p.table ≡ c.table.shared.table_id) × (p.view.start ≡ start_of c)
