-- What sweeps leave to those who select.
use Rattle.std.specs.Prelude.{◌≡◌, ℕ, ◌≤◌, List, Ok, max}
use Rattle.sk_rows.specs.declared.table.Table.{Table}
use Rattle.sk_model.specs.declared.label.Label.{Label}
use Rattle.sk_model.specs.declared.point.Point.{Point}
use Rattle.sk_model.specs.declared.engine.EngineName.{EngineName}
use Rattle.sk_model.specs.declared.engine.EngineName.TheVariants.{Mem, Store}
use Rattle.sk_model.specs.declared.call.EngineCall.TheVariants as call
use Rattle.sk_model.specs.declared.call.EngineReply.TheVariants.{Done}
use Rattle.sk_model.specs.Database.{Tables}
use Rattle.sk_model.specs.Engine.{EngineTable, engine_at}
use Rattle.sk_model.specs.EngineReplies.{answer_of}
use Rattle.sk_model.specs.EngineChanges.{change}
use Rattle.sk_weave.specs.declared.answer.Selected.{Selected}
use Rattle.sk_weave.specs.declared.event.Event.{Event}
use Rattle.sk_weave.specs.Registry.{Regs, regs_at, oldest_of, selected, after, IsNext, IsSound}
use Rattle.sk_recycle.specs.Sweeping.{number_at, swept_upto}

-- the table after a sweep to these points
abbrev pub swept : EngineTable → Point → Point → EngineTable
swept e oldest cut = change e (call.Purge (swept_upto e.name oldest cut))

-- the purge horizon did not fall, and rose at most to the numbers of both points
pub record IsBounded (e : EngineTable) (oldest cut : Point) : Type 0 where
  pub stays : e.purged ≤ (swept e oldest cut).purged
  pub by_oldest : (swept e oldest cut).purged ≤ max e.purged (number_at e.name oldest)
  pub by_cut : (swept e oldest cut).purged ≤ max e.purged (number_at e.name cut)

abbrev pub SweepIsBounded : Type 0
SweepIsBounded = (e : EngineTable) (oldest cut : Point) → IsBounded e oldest cut

-- the purge horizon is not past the oldest live point
abbrev pub IsBehind : Regs → EngineTable → Type 0
IsBehind r e = e.purged ≤ number_at e.name (oldest_of r)

abbrev pub StartIsBehind : Type 0
StartIsBehind = (partitions size : ℕ) (start : Point) (name : EngineName) (catalog : List Table) (rows : Tables)
    → IsBehind (regs_at partitions size start) (engine_at name catalog rows (number_at name start))

abbrev pub SweepStaysBehind : Type 0
SweepStaysBehind = (r : Regs) (e : EngineTable) (cut : Point) → IsBehind r e → IsBehind r (swept e (oldest_of r) cut)

abbrev pub StepsStayBehind : Type 0
StepsStayBehind = (r : Regs) (s : Event) (e : EngineTable) → IsSound r → IsNext r s → IsBehind r e → IsBehind (after r s) e

-- the snapshots of a selection open both engines
abbrev pub SelectionIsOpen : Type 0
SelectionIsOpen = (r : Regs) (a now : ℕ) (s : Selected) (mem store : EngineTable) (tx : Label) → IsSound r → selected r a now ≡ Ok s
    → mem.name ≡ Mem → store.name ≡ Store → IsBehind r mem → IsBehind r store
    → (answer_of mem (call.Open tx a) ≡ Done) × (answer_of store (call.Open tx s.b) ≡ Done)
