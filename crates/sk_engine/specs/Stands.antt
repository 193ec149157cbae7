-- For which tables the versions of rows and the openings stand.
use Rattle.std.specs.Prelude.{◌≡◌, ℕ, ◌≤◌, List, [], ◌∷◌, ◌++◌, Option, Some, None, Bool, true, false, ◌&&◌, map, min, IfSome}
use Rattle.std.specs.Option.{option_map}
use Rattle.std.specs.Map.{lookup}
use Rattle.std.specs.BTreeMap.{is_at}
use Rattle.std.specs.BTreeSet.{insert_key}
use Rattle.std.specs.declared.cmp.Ordering.{Ordering}
use Rattle.std.specs.Ordering.{nat_cmp, ordering_then}
use Rattle.std.specs.List.{filter, fold, AllByRecursion}
use Rattle.sk_rows.specs.declared.value.Value.{Value}
use Rattle.sk_rows.specs.Values.{value_cmp}
use Rattle.sk_model.specs.declared.label.Label.{Label}
use Rattle.sk_model.specs.Database.{RowOf, row_of}
use Rattle.sk_model.specs.Engine.{label_cmp, VersionState as TableState, Open, Closed, Stamped, Dropped, Version, EngineTable, is_of, is_stamped, is_undecided, opening_of}
use Rattle.sk_model.specs.Engine.{Opening as Opened}
use Rattle.sk_model.specs.EngineReplies.{last_in}
use Rattle.sk_chain.specs.declared.version.VersionState.{VersionState}
use Rattle.sk_chain.specs.declared.version.VersionState.TheVariants as state
use Rattle.sk_chain.specs.declared.version.Version.{Version as ChainVersion}
use Rattle.sk_chain.specs.Chained.{Chained}
use Rattle.sk_chain.specs.Reading.{last_upto}
use Rattle.sk_chain.specs.Writing.{past_of, is_by}
use Rattle.sk_engine.specs.declared.row_id.RowId.{RowId}
use Rattle.sk_engine.specs.declared.openings.Opening.{Opening}
use Rattle.sk_engine.specs.Rows.{Chains, is_among, row_or, row_in}

abbrev pub is_live : TableState → Bool
is_live Open = true
is_live (Closed f) = true
is_live (Stamped n) = true
is_live Dropped = false

-- the versions of one row that were not dropped, in their order: all that answers on the row look at
abbrev pub row_versions : ℕ → Value → List Version → List Version
row_versions t key vs = filter (λ v. is_of t key v && is_live v.standing) vs

abbrev pub state_of : TableState → VersionState
state_of Open = state.Open
state_of (Closed f) = state.Closed f
state_of (Stamped n) = state.Stamped n
state_of Dropped = state.Open

abbrev pub as_chain : Version → ChainVersion
as_chain v = record { by = v.by; state = state_of v.standing; row = v.write.row }

abbrev pub some_chain : Option Version → Option ChainVersion
some_chain None = None
some_chain (Some v) = Some (as_chain v)

abbrev pub listed : Option Version → List Version
listed None = []
listed (Some v) = v ∷ []

-- the chain c stands for the versions vs of a row whose opening row is r, for snapshots from p on
pub record RowIs (p : ℕ) (r : Option RowOf) (vs : List Version) (c : Chained) : Type 0 where
  pub decided : List Version
  pub undecided : Option Version
  pub kept : List ChainVersion
  pub all : vs ≡ decided ++ listed undecided
  pub are_stamped : AllByRecursion (λ (v : Version). is_stamped v.standing ≡ true) decided
  pub is_pending : IfSome undecided (λ v. is_undecided v.standing ≡ true)
  pub chain_is : c ≡ record { settled = kept; top = some_chain undecided }
  pub reads : (s : ℕ) → p ≤ s → row_or r (last_upto s (map as_chain decided)) ≡ row_in (last_upto s kept)
  pub last : (s : ℕ) → p ≤ s → past_of s (last_in None (map as_chain decided)) ≡ past_of s (last_in None kept)

-- an opening, with the rows that its transaction wrote
pub record Held : Type 0 where
  pub snapshot : ℕ
  pub floor : Option ℕ
  pub wrote : List RowId

abbrev pub held : Opening → Held
held o = record { snapshot = o.snapshot; floor = o.floor; wrote = o.wrote.keys }

abbrev pub held_in : List (Label × Opening) → Label → Option Held
held_in entries tx = option_map held (lookup (is_at (label_cmp tx)) entries)

abbrev pub timed : Held → Opened
timed h = record { snapshot = h.snapshot; floor = h.floor }

abbrev pub wrote_by : Option Held → List RowId
wrote_by None = []
wrote_by (Some h) = h.wrote

abbrev pub snapshot_by : Option Held → ℕ
snapshot_by None = 0
snapshot_by (Some h) = h.snapshot

abbrev pub floor_by : Option Held → Option ℕ
floor_by None = None
floor_by (Some h) = h.floor

abbrev pub state_by : Option ℕ → VersionState
state_by None = state.Open
state_by (Some f) = state.Closed f

-- The versions of rows and the openings, given as functions, stand for a table. The rows that a transaction wrote are exactly
-- the rows whose version that is open or closed is its own, and such a version is open or closed as its transaction's opening is.
pub record Stands (newest p : ℕ) (opening : Label → Option Held) (chain : Chains) (e : EngineTable) : Type 0 where
  pub greatest : newest ≡ e.greatest
  pub purged : p ≡ e.purged
  pub openings : (tx : Label) → option_map timed (opening tx) ≡ opening_of e tx
  pub in_time : (tx : Label) → IfSome (opening tx) (λ h. p ≤ h.snapshot)
  pub floors : (tx : Label) → IfSome (opening tx) (λ h. IfSome h.floor (λ f. h.snapshot ≤ f))
  pub rows : (t : ℕ) (key : Value) → RowIs p (row_of e.rows t key) (row_versions t key e.versions) (chain t key)
  pub wrote : (tx : Label) (t : ℕ) (key : Value) → is_among t key (wrote_by (opening tx)) ≡ is_by tx (chain t key).top
  pub tops : (t : ℕ) (key : Value) → IfSome (chain t key).top (λ v. option_map (λ h. state_by h.floor) (opening v.by) ≡ Some v.state)

abbrev pub opened_at : ℕ → Held
opened_at s = record { snapshot = s; floor = None; wrote = [] }

abbrev pub floored : ℕ → Option Held → Option Held
floored floor None = None
floored floor (Some h) = Some (record { snapshot = h.snapshot; floor = Some floor; wrote = h.wrote })

-- by table, and within a table by key
abbrev pub row_id_cmp : RowId → RowId → Ordering
row_id_cmp a b = ordering_then (nat_cmp a.table b.table) (value_cmp a.key b.key)

abbrev pub noted : RowId → Option Held → Option Held
noted p None = None
noted p (Some h) = Some (record { snapshot = h.snapshot; floor = h.floor; wrote = insert_key row_id_cmp h.wrote p })

-- the least snapshot of these openings, or n where none is below it
abbrev pub least_in : List (Label × Opening) → ℕ → ℕ
least_in entries n = fold (λ m (e : Label × Opening). min m e.1.snapshot) n entries

-- a row that an engine begins with, stamped with its start
abbrev pub begun : ℕ → Option RowOf → Chained
begun start None = record { settled = []; top = None }
begun start (Some row) = record { settled = record { by = record { session = 0; k = 0 }; state = state.Stamped start; row = Some row } ∷ []; top = None }
