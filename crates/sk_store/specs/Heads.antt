-- What a head tells of the versions of its row.
use Rattle.std.specs.Prelude.{ℕ, List, [], ◌∷◌, Option, Some, None, Bool, false, cond, nat_le}
use Rattle.sk_model.specs.declared.label.Label.{Label}
use Rattle.sk_model.specs.Records.{same_label}
use Rattle.sk_chain.specs.declared.version.Version.{Version}
use Rattle.sk_chain.specs.declared.version.VersionState.{VersionState}
use Rattle.sk_chain.specs.declared.version.VersionState.TheVariants.{Stamped}
use Rattle.sk_chain.specs.Reading.{is_closed_below}
use Rattle.sk_engine.specs.Stands.{state_by}
use Rattle.sk_engine.specs.declared.act.Act.{Act}
use Rattle.sk_engine.specs.declared.act.Act.TheVariants as act
use Rattle.sk_store.specs.declared.head.Head.{Head}
use Rattle.sk_store.specs.declared.head.Holds.{Holds}
use Rattle.sk_store.specs.declared.head.Holds.TheVariants.{Settled, Pending, Dropped}
use Rattle.sk_store.specs.declared.head.Stamp.{Stamp}
use Rattle.sk_store.specs.declared.head.Sight.{Sight}
use Rattle.sk_store.specs.declared.head.Sight.TheVariants as sight

-- a row without versions
abbrev pub no_head : Head
no_head = record { cell = None; holds = Dropped; newest = None; older = None; undo = [] }

-- a version but for its row
abbrev pub bare_version : Label → VersionState → Version
bare_version by state = record { by = by; state = state; row = None }

abbrev pub bare : Option Version → Option Version
bare None = None
bare (Some v) = Some (bare_version v.by v.state)

-- the version that is open or closed, but for its row
abbrev pub top_of : Holds → Option Version
top_of Settled = None
top_of (Pending by floor) = Some (bare_version by (state_by floor))
top_of Dropped = None

-- the newest stamped version, but for its row
abbrev pub last_of : Option Stamp → Option Version
last_of None = None
last_of (Some x) = Some (bare_version x.by (Stamped x.n))

-- which version a reader gets
abbrev pub sight_of : Label → ℕ → Option Version → Sight
sight_of by s None = sight.Stamped
sight_of by s (Some v) = cond (same_label by v.by) sight.Own (cond (is_closed_below s v.state) (sight.Waits v.by) sight.Stamped)

abbrev pub number_of : Option Stamp → Option ℕ
number_of None = None
number_of (Some x) = Some x.n

-- the number of the stamped version in the cell
abbrev pub settled_number : Holds → Option Stamp → Option ℕ
settled_number Settled newest = number_of newest
settled_number (Pending by floor) newest = None
settled_number Dropped newest = None

abbrev pub closed_floor : ℕ → Option ℕ → Option ℕ
closed_floor new None = Some new
closed_floor new (Some old) = Some old

abbrev pub stamped_holds : Label → Option ℕ → Holds
stamped_holds by None = Pending by None
stamped_holds by (Some floor) = Settled

abbrev pub stamped_newest : Label → Option ℕ → ℕ → Option Stamp → Option Stamp
stamped_newest by None n newest = newest
stamped_newest by (Some floor) n newest = Some (record { by = by; n = n })

-- the version that is open or closed is closed, stamped or dropped
abbrev pub acted_holds : Act → Holds → Holds
acted_holds a Settled = Settled
acted_holds a Dropped = Dropped
acted_holds (act.Close new) (Pending by floor) = Pending by (closed_floor new floor)
acted_holds (act.Stamp n) (Pending by floor) = stamped_holds by floor
acted_holds act.Void (Pending by floor) = Dropped

abbrev pub acted_newest : Act → Holds → Option Stamp → Option Stamp
acted_newest a Settled newest = newest
acted_newest a Dropped newest = newest
acted_newest (act.Close new) (Pending by floor) newest = newest
acted_newest (act.Stamp n) (Pending by floor) newest = stamped_newest by floor n newest
acted_newest act.Void (Pending by floor) newest = newest

abbrev pub acted_head : Act → Head → Head
acted_head a h = record h { holds = acted_holds a h.holds; newest = acted_newest a h.holds h.newest }

-- there is a number, of at most n
abbrev pub is_upto : ℕ → Option ℕ → Bool
is_upto n None = false
is_upto n (Some m) = nat_le m n

-- without the undo records, where the version in the cell is stamped with a number of at most upto
abbrev pub forgotten : ℕ → Head → Head
forgotten upto h = cond (is_upto upto (settled_number h.holds h.newest)) (record h { older = None; undo = [] }) h
