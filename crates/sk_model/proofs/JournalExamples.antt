-- Worked examples: what a journal keeps, and replies that may stand in one.
use Rattle.std.specs.Prelude.{◌≡◌, ℕ, List, [], ◌∷◌, Some, false, pos}
use Rattle.std.proofs.Common.{refl, inl}
use Rattle.sk_rows.specs.declared.value.Value.{Value}
use Rattle.sk_rows.specs.declared.value.Value.TheVariants as value
use Rattle.sk_rows.specs.declared.value.Sort.TheVariants as sort
use Rattle.sk_rows.specs.declared.table.Column.{Column}
use Rattle.sk_rows.specs.declared.table.Table.{Table}
use Rattle.sk_model.specs.declared.label.Label.{Label}
use Rattle.sk_model.specs.declared.engine.EngineName.TheVariants.{Mem}
use Rattle.sk_model.specs.declared.call.Entry.{Entry}
use Rattle.sk_model.specs.declared.call.EngineCall.TheVariants as call
use Rattle.sk_model.specs.declared.call.EngineFault.TheVariants as fault
use Rattle.sk_model.specs.declared.call.EngineReply.TheVariants.{Done, Found, Number, Fault}
use Rattle.sk_model.specs.Database.{RowOf}
use Rattle.sk_model.specs.Engine.{EngineTable, engine_at}
use Rattle.sk_model.specs.EngineConditions.{fits_at}
use Rattle.sk_model.specs.Legal.{step, may_fail, IsReply}
use Rattle.sk_model.specs.Resembling.{Resembles}
use Rattle.sk_model.specs.Journal.{entries_in, entered, with_horizon, horizon_entry}

abbrev purge : Entry
purge = record { call = call.Purge 5; reply = Number 5 }

-- three Horizons, a purge, and a Horizon
kept : entries_in (record { horizons = record { answer = 7; count = 3 }; entry = purge } ∷ []) (record { answer = 7; count = 1 })
    ≡ horizon_entry 7 ∷ horizon_entry 7 ∷ horizon_entry 7 ∷ purge ∷ horizon_entry 7 ∷ []
kept = refl

-- another answer may stand behind the purge, and not behind a Horizon
turned : with_horizon (horizon_entry 7 ∷ []) 8 ≡ horizon_entry 7 ∷ []
turned = refl

behind_purge : with_horizon (entered (horizon_entry 7 ∷ []) purge) 8 ≡ horizon_entry 7 ∷ purge ∷ horizon_entry 8 ∷ []
behind_purge = refl

abbrev columns : List Column
columns = record { name = 105 ∷ []; sort = sort.Int } ∷ record { name = 118 ∷ []; sort = sort.Int } ∷ []

abbrev tables : List Table
tables = record { name = 97 ∷ []; store = false; columns = columns } ∷ []

abbrev int : ℕ → Value
int n = value.Int (pos n)

abbrev row : ℕ → ℕ → RowOf
row k v = int k ∷ int v ∷ []

abbrev tx : Label
tx = record { session = 1; k = 1 }

-- where (1, 10) is due, (1, 11) resembles it, and (2, 10) does not
alike : Resembles tables (call.Get tx 0 (int 1)) (Found (Some (row 1 10))) (Found (Some (row 1 11)))
alike = refl

unlike : fits_at tables 0 (int 1) (row 2 10) ≡ false
unlike = refl

-- a device fails a Get of one's own table, and none of an unknown table, which is not made
abbrev opened : EngineTable
opened = step (engine_at Mem tables ([] ∷ []) 0) record { call = call.Open tx 0; reply = Done }

fails : IsReply opened (call.Get tx 0 (int 1)) (Fault fault.Device)
fails = inl (refl, refl)

never_made : may_fail opened (call.Get tx 1 (int 1)) ≡ false
never_made = refl
