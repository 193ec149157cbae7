-- What a call does to the versions of rows, which are given as a function of table and key.
use Rattle.std.specs.Prelude.{◌≡◌, ℕ, ◌<◌, ◌≤◌, List, Option, Some, None, Result, Ok, Err, Bool, true, false, cond, not, ◌==◌, ◌&&◌, ◌⊎◌, T, length}
use Rattle.std.specs.Ordering.{eq_by_cmp}
use Rattle.std.specs.declared.cmp.Ordering.TheVariants.{Less}
use Rattle.std.specs.List.{list_any, AllByRecursion}
use Rattle.std.specs.FinMap.{find, is_sorted}
use Rattle.sk_outside.specs.Causes.{Rose}
use Rattle.sk_rows.specs.declared.value.Value.{Value}
use Rattle.sk_rows.specs.declared.table.Table.{Table}
use Rattle.sk_rows.specs.Values.{value_cmp}
use Rattle.sk_model.specs.declared.label.Label.{Label}
use Rattle.sk_model.specs.declared.call.EngineFault.{EngineFault}
use Rattle.sk_model.specs.declared.call.EngineFault.TheVariants as fault
use Rattle.sk_model.specs.declared.call.EngineReply.{EngineReply}
use Rattle.sk_model.specs.declared.call.EngineReply.TheVariants.{Found, Rows, Fault}
use Rattle.sk_model.specs.Database.{RowOf}
use Rattle.sk_model.specs.EngineReplies.{last_in}
use Rattle.sk_chain.specs.declared.version.Version.{Version}
use Rattle.sk_chain.specs.Chained.{Chained}
use Rattle.sk_chain.specs.Reading.{Sight, Sees, Waits, found, last_upto}
use Rattle.sk_chain.specs.Writing.{conflict, past_of, is_by}
use Rattle.sk_chain.specs.Changing.{may_push, pushed, closed, stamped, voided}
use Rattle.sk_model.specs.Resembling.{RowFits}
use Rattle.sk_engine.specs.declared.act.Act.{Act}
use Rattle.sk_engine.specs.declared.act.Act.TheVariants as act
use Rattle.sk_engine.specs.declared.row_id.RowId.{RowId}

-- the versions of each row
abbrev pub Chains : Type 0
Chains = ℕ → Value → Chained

abbrev pub is_row_id : ℕ → Value → RowId → Bool
is_row_id t key p = (t == p.table) && eq_by_cmp value_cmp key p.key

abbrev pub is_among : ℕ → Value → List RowId → Bool
is_among t key row_ids = list_any (is_row_id t key) row_ids

-- one row's versions are others
abbrev pub with_chain : Chains → RowId → Chained → Chains
with_chain chains p c t key = cond (is_row_id t key p) c (chains t key)

abbrev pub acted : Act → Chained → Chained
acted (act.Close floor) c = closed c floor
acted (act.Stamp n) c = stamped c n
acted act.Void c = voided c

-- one act at each of these rows
abbrev pub all_acted : Act → List RowId → Chains → Chains
all_acted a row_ids chains t key = cond (is_among t key row_ids) (acted a (chains t key)) (chains t key)

-- the row of a version, or else this one
abbrev pub row_or : Option RowOf → Option Version → Option RowOf
row_or r None = r
row_or r (Some v) = v.row

abbrev pub row_in : Option Version → Option RowOf
row_in o = row_or None o

abbrev pub sighted : Sight → EngineReply
sighted (Sees v) = Found (row_in v)
sighted (Waits by) = Fault (fault.Busy by)

-- what a reader gets of a row
abbrev pub reading : Chained → Label → ℕ → EngineReply
reading c by s = sighted (found c by s)

-- the row of the newest stamped version with a number up to n
abbrev pub given : Chained → ℕ → EngineReply
given c n = Found (row_in (last_upto n c.settled))

-- of a call that touches what is behind a device: want of memory, a fault that was counted, the due reply, or one like it where contents are not told
abbrev pub GivesReply : Bool → ℕ → ℕ → Type 0 → EngineReply → Option EngineReply → Type 0
GivesReply told before now Like due None = Unit {0}
GivesReply told before now Like due (Some reply) = ((reply ≡ Fault fault.Device) × Rose before now) ⊎ ((due ≡ reply) ⊎ ((told ≡ false) × Like))

-- a reply with a row that fits, where one is due
abbrev pub IsRow : List Table → ℕ → Value → EngineReply → Option EngineReply → Type 0
IsRow tables t key (Found due) (Some (Found row)) = RowFits tables t key row
IsRow tables t key due reply = ⊥

-- the rows of a table, in the order of their keys, or the first key at which a reader has to wait
abbrev pub IsScan : (Value → EngineReply) → EngineReply → Type 0
IsScan read (Rows rows) = T (is_sorted value_cmp rows) × ((key : Value) → read key ≡ Found (find value_cmp key rows))
IsScan read (Fault (fault.Busy by)) = (key : Value) × (read key ≡ Fault (fault.Busy by)) × ((k : Value) → value_cmp k key ≡ Less → (other : Label) → read k ≡ Fault (fault.Busy other) → ⊥)
IsScan read reply = ⊥

-- rows that fit, where a scan that has not to wait is due
abbrev pub AreRows : List Table → ℕ → (Value → EngineReply) → EngineReply → Type 0
AreRows tables t read (Rows rows) = AllByRecursion (λ (r : Value × RowOf). RowFits tables t r.0 (Some r.1)) rows × ((key : Value) (by : Label) → read key ≡ Fault (fault.Busy by) → ⊥)
AreRows tables t read reply = ⊥

abbrev pub Scans : Bool → ℕ → ℕ → List Table → ℕ → (Value → EngineReply) → Option EngineReply → Type 0
Scans told before now tables t read None = Unit {0}
Scans told before now tables t read (Some reply) = ((reply ≡ Fault fault.Device) × Rose before now) ⊎ (IsScan read reply ⊎ ((told ≡ false) × AreRows tables t read reply))

module _ {S : Type 0} (shows : S → List Table → Chains → Type 0) where
  -- all that was shown is shown
  abbrev pub Keeps : S → S → Type 0
  Keeps old new = (tables : List Table) (chains : Chains) → shows old tables chains → shows new tables chains

  -- the row that a reader gets
  abbrev pub Reads : Bool → ℕ → ℕ → S → ℕ → Value → Label → ℕ → Option EngineReply → Type 0
  Reads told before now old t key by s reply = (tables : List Table) (chains : Chains) → shows old tables chains
      → GivesReply told before now (IsRow tables t key (reading (chains t key) by s) reply) (reading (chains t key) by s) reply

  abbrev pub GivesAt : Bool → ℕ → ℕ → S → ℕ → Value → ℕ → Option EngineReply → Type 0
  GivesAt told before now old t key n reply = (tables : List Table) (chains : Chains) → shows old tables chains
      → GivesReply told before now (IsRow tables t key (given (chains t key) n) reply) (given (chains t key) n) reply

  abbrev pub ScansAll : Bool → ℕ → ℕ → S → ℕ → Label → ℕ → Option EngineReply → Type 0
  ScansAll told before now old t by s reply = (tables : List Table) (chains : Chains) → shows old tables chains
      → Scans told before now tables t (λ key. reading (chains t key) by s) reply

  -- a write to a table that is there; if it meets nobody it may be pushed
  abbrev pub MayPush : S → ℕ → Value → Label → ℕ → Option RowOf → Type 0
  MayPush old t key by s row = (tables : List Table) × ((chains : Chains) × shows old tables chains × RowFits tables t key row
      × (conflict (chains t key) by s ≡ None → may_push (chains t key) by ≡ true) × (t < length tables))

  -- a write: done, and whether it is the first of its transaction to this row; or refused, and nothing is changed
  abbrev pub Pushed : ℕ → ℕ → S → List Table → Chains → RowId → Label → ℕ → Option RowOf → Result Bool EngineFault → Type 0
  Pushed before now new tables chains p by s row (Ok first) = (conflict (chains p.table p.key) by s ≡ None) × (first ≡ not (is_by by (chains p.table p.key).top))
      × shows new tables (with_chain chains p (pushed (chains p.table p.key) by row))
  Pushed before now new tables chains p by s row (Err (fault.Conflict other why)) = (conflict (chains p.table p.key) by s ≡ Some (record { by = other; why = why })) × shows new tables chains
  Pushed before now new tables chains p by s row (Err fault.NoMemory) = shows new tables chains
  Pushed before now new tables chains p by s row (Err fault.Device) = Rose before now × shows new tables chains
  Pushed before now new tables chains p by s row (Err (fault.Old a b)) = ⊥
  Pushed before now new tables chains p by s row (Err (fault.Busy other)) = ⊥

  abbrev pub Pushes : ℕ → ℕ → S → S → RowId → Label → ℕ → Option RowOf → Result Bool EngineFault → Type 0
  Pushes before now old new p by s row result = (tables : List Table) (chains : Chains) → shows old tables chains → Pushed before now new tables chains p by s row result

  abbrev pub Acts : S → S → RowId → Act → Type 0
  Acts old new p a = (tables : List Table) (chains : Chains) → shows old tables chains → shows new tables (with_chain chains p (acted a (chains p.table p.key)))

  abbrev pub ActsAll : S → S → List RowId → Act → Type 0
  ActsAll old new row_ids a = (tables : List Table) (chains : Chains) → shows old tables chains → shows new tables (all_acted a row_ids chains)

-- what readers at snapshots from u on, and writers there, find is the same
pub record AgreeFrom (u : ℕ) (c d : Chained) : Type 0 where
  pub top : d.top ≡ c.top
  pub reads : (s : ℕ) → u ≤ s → row_in (last_upto s d.settled) ≡ row_in (last_upto s c.settled)
  pub last : (s : ℕ) → u ≤ s → past_of s (last_in None d.settled) ≡ past_of s (last_in None c.settled)

abbrev pub ChainsAgree : ℕ → Chains → Chains → Type 0
ChainsAgree u f g = (t : ℕ) (key : Value) → AgreeFrom u (f t key) (g t key)

-- all that was shown is shown, but for what only snapshots before u need
abbrev pub Forgets : {S : Type 0} → (S → List Table → Chains → Type 0) → ℕ → S → S → Type 0
Forgets shows u old new = (tables : List Table) (chains : Chains) → shows old tables chains → (then : Chains) × ChainsAgree u chains then × shows new tables then
