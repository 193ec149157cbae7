-- What a flush and a purge ask of the engines and of the registry, in no transaction's name, and that this keeps what holds of all sessions.
use Rattle.std.specs.Prelude.{◌≡◌, ℕ, ◌≤◌, List, ◌++◌, None}
use Rattle.sk_rows.specs.declared.table.Table.{Table}
use Rattle.sk_model.specs.declared.engine.EngineName.{EngineName}
use Rattle.sk_model.specs.declared.engine.EngineName.TheVariants.{Mem, Store}
use Rattle.sk_model.specs.declared.point.Point.{Point}
use Rattle.sk_model.specs.declared.call.EngineCall.{EngineCall}
use Rattle.sk_model.specs.declared.call.EngineReply.{EngineReply}
use Rattle.sk_model.specs.Legal.{after_entries}
use Rattle.sk_model.specs.Talks.{own, call_in, tx_of}
use Rattle.sk_weave.specs.Registry.{after_cut}
use Rattle.sk_linked.specs.Traces.{In, horizon_entry}
use Rattle.sk_linked.specs.Joining.{MayRecord}
use Rattle.sk_session.specs.Common.{Common, IsCommon}
use Rattle.sk_kept.specs.Sessions.{Player, IsRun}

-- The engine answered a call of no transaction so, which has made this of what is common: the call stands behind the others in its journal,
-- with its reply. Records were asked for where they may be.
pub record AnsweredFlush (old : Common) (name : EngineName) (asked : EngineCall) (reply : EngineReply) (new : Common) : Type 0 where
  pub nobody : tx_of asked ≡ None
  pub may : MayRecord (after_entries (old.first name) (old.journals name)) asked
  pub first : new.first ≡ old.first
  pub journals : (other : EngineName) → new.journals other ≡ old.journals other ++ call_in other (own name asked reply)
  pub regs : new.regs ≡ old.regs
  pub common : IsCommon new

-- The registry was asked for a cut at two horizons that the engines answered.
pub record Cuts (old : Common) (x y : ℕ) (new : Common) : Type 0 where
  pub mem : In (horizon_entry x) (old.journals Mem)
  pub store : In (horizon_entry y) (old.journals Store)
  pub drawn_mem : x ≤ old.regs.mem
  pub drawn_store : y ≤ old.regs.store
  pub first : new.first ≡ old.first
  pub journals : (name : EngineName) → new.journals name ≡ old.journals name
  pub regs : new.regs ≡ after_cut old.regs x y old.regs.store
  pub common : IsCommon new

-- Such a call keeps what holds of all sessions, wherever they stand.
abbrev pub FlushCallsKeep : Type 0
FlushCallsKeep = (catalog : List Table) (first : Point) (points : List Point) (c d : Common) (players : List Player) (name : EngineName) (asked : EngineCall) (reply : EngineReply)
    → IsRun catalog first points c players → AnsweredFlush c name asked reply d → IsRun catalog first points d players

-- And so does a cut, with the point that it may add.
abbrev pub CutsKeep : Type 0
CutsKeep = (catalog : List Table) (first : Point) (points : List Point) (c d : Common) (players : List Player) (x y : ℕ)
    → IsRun catalog first points c players → Cuts c x y d → (more : List Point) × IsRun catalog first (points ++ more) d players
