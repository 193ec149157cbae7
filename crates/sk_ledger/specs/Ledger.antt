-- The ledger of a run: what each engine's journal and the records say of the commits, and the law that these are the run's.
use Rattle.std.specs.Prelude.{◌≡◌, ℕ, List, [], ◌∷◌, Option, None, cond}
use Rattle.sk_model.specs.declared.label.Label.{Label}
use Rattle.sk_model.specs.declared.engine.EngineName.{EngineName}
use Rattle.sk_model.specs.declared.engine.EngineName.TheVariants.{Mem, Store}
use Rattle.sk_model.specs.declared.commit.Write.{Write}
use Rattle.sk_model.specs.declared.commit.Commit.{Commit}
use Rattle.sk_model.specs.declared.point.Point.{Point}
use Rattle.sk_model.specs.declared.record.Record.{Record}
use Rattle.sk_model.specs.declared.call.Entry.{Entry}
use Rattle.sk_model.specs.Database.{net}
use Rattle.sk_model.specs.Records.{is_committed}
use Rattle.sk_model.specs.Talks.{wrote_in, entries_by}
use Rattle.sk_linked.specs.Traces.{drawn_at, added, commits_in}
use Rattle.sk_linked.specs.Kept.{Play, traces_in, records_in, IsPlay}

-- what the puts of a transaction wrote that this journal says were done
abbrev pub puts_in_journal : Label → List Entry → List Write
puts_in_journal l js = wrote_in (entries_by l js)

abbrev pub drawn_in : EngineName → Record → Option ℕ
drawn_in name r = drawn_at name (record { mem = r.drew_mem; store = r.drew_store })

-- the number that a record drew in the engine, once it is committed
abbrev pub number_of : EngineName → Record → Option ℕ
number_of name r = cond (is_committed r.ending) (drawn_in name r) None

-- what a record has committed in the engine of this journal
abbrev pub entered : List Entry → Record → Commit
entered js r = record { label = r.label; mem = r.drew_mem; store = r.drew_store; writes = net (puts_in_journal r.label js) }

-- what records have committed in the engine of this journal, in the order of the numbers that they drew there
abbrev pub committed_in : EngineName → List Entry → List Record → List Commit
committed_in name js [] = []
committed_in name js (r ∷ rs) = added name (number_of name r) (entered js r) (committed_in name js rs)

-- Of a run of sessions these are the commits of its transactions in the engine.
abbrev pub LedgerIsRun : Type 0
LedgerIsRun = (p : Play) (name : EngineName) → IsPlay p → committed_in name (p.journals name) (records_in p) ≡ commits_in p.catalog name (traces_in p).transactions

-- a run of sessions left these journals of both engines, these points, and these records
pub record IsLeftBy (p : Play) (mem store : List Entry) (points : List Point) (records : List Record) : Type 0 where
  pub is_play : IsPlay p
  pub mem_is : mem ≡ p.journals Mem
  pub store_is : store ≡ p.journals Store
  pub points_are : points ≡ p.first ∷ p.points
  pub records_are : records ≡ records_in p
