-- The commits of a list and the records of their transactions.
use Rattle.std.specs.Prelude.{◌≡◌, ℕ, List, Some}
use Rattle.sk_model.specs.declared.engine.EngineName.{EngineName}
use Rattle.sk_model.specs.declared.commit.Commit.{Commit}
use Rattle.sk_model.specs.declared.record.Record.{Record}
use Rattle.sk_model.specs.Stamped.{number_in}
use Rattle.sk_linked.specs.Traces.{In}

-- the commit has the numbers that the transaction drew, one of them at least
pub record IsBy (c : Commit) (r : Record) : Type 0 where
  pub mem : c.mem ≡ r.drew_mem
  pub store : c.store ≡ r.drew_store
  pub some : (name : EngineName) × (n : ℕ) × (number_in name c ≡ Some n)

-- so has each commit of the list with the label of one of these records
abbrev pub AreByRecords : List Commit → List Record → Type 0
AreByRecords order records = (c : Commit) → In c order → (r : Record) → In r records → c.label ≡ r.label → IsBy c r
