-- Who was told that a commit is durable.
use Rattle.std.specs.Prelude.{◌≡◌, List, true}
use Rattle.std.specs.List.{AllByRecursion}
use Rattle.sk_model.specs.declared.commit.Commit.{Commit}
use Rattle.sk_model.specs.declared.point.Point.{Point}
use Rattle.sk_model.specs.declared.record.Record.{Record}
use Rattle.sk_model.specs.declared.record.Ending.TheVariants as ending
use Rattle.sk_model.specs.declared.receipt.Receipt.{Receipt}
use Rattle.sk_model.specs.Records.{AtMost}
use Rattle.sk_weave.specs.PrefixLaws.{prefix_at}
use Rattle.sk_linked.specs.Traces.{In}
use Rattle.sk_cut.specs.Acked.{AreOnce, IsUpTo, told}
use Rattle.sk_cut.specs.Receipts.{covers}
use Rattle.sk_serial.specs.Saving.{Saved}
use Rattle.sk_serial.specs.Waiting.{need_of}

-- neither a snapshot nor a number of the transaction is past the cut
pub record IsCovered (r : Record) (cut : Point) : Type 0 where
  pub mem : AtMost r.mem cut.a
  pub store : AtMost r.store cut.b
  pub drew_mem : AtMost r.drew_mem cut.a
  pub drew_store : AtMost r.drew_store cut.b

-- what was committed with the receipt's label stands in the prefix of the list at its cut, and at each later one
abbrev pub Stands : List Commit → Receipt → Type 0
Stands order receipt = (c : Commit) → In c order → c.label ≡ receipt.label → (p : Point) → IsUpTo p receipt.cut → In c (prefix_at order p.a p.b)

-- the receipt is of one of these records: the transaction committed, the receipt's cut covers it, and what it wrote stands in the list up to there
pub record IsReceipt (records : List Record) (order : List Commit) (receipt : Receipt) : Type 0 where
  pub transaction : Record
  pub among : In transaction records
  pub committed : transaction.ending ≡ ending.Committed
  pub label : transaction.label ≡ receipt.label
  pub covered : IsCovered transaction receipt.cut
  pub stands : Stands order receipt

-- The receipts of a run with these records and this list, up to a durable cut: each is of a transaction that committed and that its cut
-- covers, no cut is past the durable one, and nobody was told twice.
pub record Acknowledged (records : List Record) (order : List Commit) (receipts : List Receipt) (cut : Point) : Type 0 where
  pub each : AllByRecursion (IsReceipt records order) receipts
  pub within : AllByRecursion (λ r. IsUpTo cut r.cut) receipts
  pub once : AreOnce (told receipts)

-- each of these records that has committed and that the durable cut covers has its receipt
abbrev pub AllTold : List Record → Saved → Type 0
AllTold records saved = (r : Record) → In r records → r.ending ≡ ending.Committed → covers saved.cut (need_of r) ≡ true → In r.label (told saved.receipts)
