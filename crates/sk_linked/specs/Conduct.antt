-- What a record with its calls says of its transaction, where the catalog, the script and the registry say the rest.
use Rattle.std.specs.Prelude.{◌≡◌, List, true, length}
use Rattle.std.specs.List.{AllByRecursion}
use Rattle.sk_rows.specs.declared.table.Table.{Table}
use Rattle.sk_rows.specs.Catalog.{IsCatalog}
use Rattle.sk_model.specs.declared.point.Point.{Point}
use Rattle.sk_model.specs.declared.record.Record.{Record}
use Rattle.sk_model.specs.declared.record.Said.{Said}
use Rattle.sk_model.specs.Database.{Tables}
use Rattle.sk_model.specs.RecordTalks.{Talks}
use Rattle.sk_model.specs.Texts.{texts_are_short}
use Rattle.sk_linked.specs.Reads.{PairIf}
use Rattle.sk_linked.specs.Traces.{Transaction, In}
use Rattle.sk_linked.specs.Recorded.{HasTalk}
use Rattle.sk_linked.specs.Joining.{Behaves}

-- What the catalog, the script and the registry say of a record: one opening table for each of the catalog, statements as a script
-- may have them, snapshots that are a pair of these points, and points of its own that are among them.
pub record IsBacked (catalog : List Table) (rows : Tables) (points : List Point) (r : Record) : Type 0 where
  pub tables : IsCatalog catalog
  pub opening : length rows ≡ length catalog
  pub texts : AllByRecursion (λ (s : Said). texts_are_short s.statement ≡ true) r.said
  pub pair : PairIf points r.mem r.store
  pub made : AllByRecursion (λ (q : Point). In q points) r.made

-- A record whose calls are those of its statements and of its commit's steps shows all that its session has to say of it.
abbrev pub TalksBehave : Type 0
TalksBehave = (catalog : List Table) (rows : Tables) (points : List Point) (t : Transaction) (r : Record) → HasTalk t r → Talks catalog r t.talk → IsBacked catalog rows points r → Behaves catalog rows points t
