-- Worked ledgers, by computation: who put twice, who was refused, who was rolled back, and whose number comes first. And a run of nobody.
use Rattle.std.specs.Prelude.{◌≡◌, ℕ, List, [], ◌∷◌, Option, Some, None, pos}
use Rattle.std.proofs.Common.{refl, arith}
use Rattle.sk_rows.specs.declared.value.Value.TheVariants as value
use Rattle.sk_rows.specs.Catalog.{IsCatalog}
use Rattle.sk_model.specs.declared.label.Label.{Label}
use Rattle.sk_model.specs.declared.commit.Write.{Write}
use Rattle.sk_model.specs.declared.engine.EngineName.TheVariants.{Mem, Store}
use Rattle.sk_model.specs.declared.record.Record.{Record}
use Rattle.sk_model.specs.declared.record.Ending.{Ending}
use Rattle.sk_model.specs.declared.record.Ending.TheVariants as ending
use Rattle.sk_model.specs.declared.record.TxKind.TheVariants as kind
use Rattle.sk_model.specs.declared.point.Point.{Point}
use Rattle.sk_model.specs.declared.call.EngineCall.TheVariants as call
use Rattle.sk_model.specs.declared.call.EngineFault.TheVariants as fault
use Rattle.sk_model.specs.declared.call.EngineReply.{EngineReply}
use Rattle.sk_model.specs.declared.call.EngineReply.TheVariants.{Done, Number, Fault}
use Rattle.sk_model.specs.declared.call.Entry.{Entry}
use Rattle.sk_weave.specs.Points.{selection}
use Rattle.sk_linked.specs.Joining.{TablesFit}
use Rattle.sk_linked.specs.Kept.{Play, IsPlay}
use Rattle.sk_ledger.specs.Ledger.{puts_in_journal, committed_in, IsLeftBy}

abbrev of : ℕ → Label
of session = record { session = session; k = 1 }

abbrev write : ℕ → ℕ → Write
write key v = record { table = 0; key = value.Int (pos key); row = Some (value.Int (pos key) ∷ value.Int (pos v) ∷ []) }

-- the session's first transaction puts v at the key, and is replied so
abbrev puts : ℕ → ℕ → ℕ → EngineReply → Entry
puts session key v reply = record { call = call.Put (of session) 0 (value.Int (pos key)) (Some (value.Int (pos key) ∷ value.Int (pos v) ∷ [])); reply = reply }

abbrev journal : List Entry
journal =
    record { call = call.Horizon; reply = Number 0 } ∷ puts 1 7 10 Done ∷ puts 3 5 50 Done ∷ puts 2 8 20 Done
    ∷ puts 1 6 60 (Fault fault.NoMemory) ∷ puts 1 7 11 Done ∷ []

abbrev kept : ℕ → Ending → Option ℕ → Record
kept session ended n = record { label = of session; kind = kind.Mem; mem = Some 0; store = None; said = []; ending = ended; drew_mem = n; drew_store = None; made = [] }

abbrev records : List Record
records = kept 1 ending.Committed (Some 3) ∷ kept 2 ending.Committed (Some 1) ∷ kept 3 ending.RolledBack (Some 2) ∷ []

puts_of_one : puts_in_journal (of 1) journal ≡ write 7 10 ∷ write 7 11 ∷ []
puts_of_one = refl

-- 2.1 drew the smaller number, and of 1.1 the last put of the row is left
in_mem : committed_in Mem journal records ≡ record { label = of 2; mem = Some 1; store = None; writes = write 8 20 ∷ [] } ∷ record { label = of 1; mem = Some 3; store = None; writes = write 7 11 ∷ [] } ∷ []
in_mem = refl

none_in_store : committed_in Store journal records ≡ []
none_in_store = refl

-- who committed without a number is not in the list
without_number : committed_in Mem journal (kept 1 ending.Committed None ∷ []) ≡ []
without_number = refl

-- ---- a run of nobody

abbrev pub nobody : Play
nobody = record { catalog = []; rows = []; first = selection 0 0; points = []; journals = λ name. []; sessions = [] }

no_tables : IsCatalog []
no_tables = record { few = omega arith; good = refl; unlike = refl }

pub left_by_nobody : (mem store : List Entry) (points : List Point) (records : List Record) → mem ≡ [] → store ≡ [] → points ≡ selection 0 0 ∷ [] → records ≡ [] → IsLeftBy nobody mem store points records
left_by_nobody mem store points records m s p r = record { is_play = is_play; mem_is = m; store_is = s; points_are = p; records_are = r }
  where
    fit : TablesFit [] []
    fit t = tt

    is_play : IsPlay nobody
    is_play = record {
      tables = no_tables;
      opening = refl;
      fit = fit;
      apart = tt;
      labels = tt;
      accounts = tt;
      legal = λ name. tt;
      known = λ name. tt;
      unowned = λ name. tt;
      stairs = (refl, tt);
      made = record { source = tt; among = tt; once = λ q t u i j a b. absurd i };
      unlike = λ name. tt;
    }
