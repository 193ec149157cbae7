-- How the calls of one record go in one engine, and the laws of records and their calls.
use Rattle.std.specs.Prelude.{◌≡◌, ℕ, ◌<◌, List, [], ◌∷◌, Option, Some, None, true, IfSome}
use Rattle.sk_rows.specs.declared.table.Table.{Table}
use Rattle.sk_model.specs.declared.label.Label.{Label}
use Rattle.sk_model.specs.declared.engine.EngineName.{EngineName}
use Rattle.sk_model.specs.declared.record.Record.{Record}
use Rattle.sk_model.specs.declared.call.EngineCall.TheVariants as call
use Rattle.sk_model.specs.declared.call.EngineReply.TheVariants.{Done, Number}
use Rattle.sk_model.specs.Database.{Tables}
use Rattle.sk_model.specs.Records.{Told, written, is_committed}
use Rattle.sk_model.specs.Talks.{Talk, own, puts_in, TalkTold}
use Rattle.sk_model.specs.RecordTalks.{Talks}

-- What ends the calls of a transaction in an engine, behind those of its statements: nothing yet; it is dropped; it is closed, and its number is past the floor; it is
-- closed and dropped; it is stamped with the number that it drew, which is past the floor; or that number is voided.
pub data EngineEnd (tx : Label) (e : EngineName) (drew : Option ℕ) (tail : Talk) : Type 0 where
  StillOpen : drew ≡ None → tail ≡ [] → EngineEnd tx e drew tail
  Dropped : drew ≡ None → tail ≡ own e (call.DropTx tx) Done ∷ [] → EngineEnd tx e drew tail
  Closed : (floor : ℕ) → IfSome drew (λ n. floor < n) → tail ≡ own e (call.Close tx) (Number floor) ∷ [] → EngineEnd tx e drew tail
  ClosedDropped : (floor : ℕ) → drew ≡ None → tail ≡ own e (call.Close tx) (Number floor) ∷ own e (call.DropTx tx) Done ∷ [] → EngineEnd tx e drew tail
  StampedAt : (floor n : ℕ) → drew ≡ Some n → floor < n → tail ≡ own e (call.Close tx) (Number floor) ∷ own e (call.Stamp tx n) Done ∷ [] → EngineEnd tx e drew tail
  VoidedAt : (floor n : ℕ) → drew ≡ Some n → floor < n → tail ≡ own e (call.Close tx) (Number floor) ∷ own e (call.Void tx n) Done ∷ [] → EngineEnd tx e drew tail

-- the replies of a record are those of each database that its calls show
abbrev pub RepliesAreTold : Type 0
RepliesAreTold = (catalog : List Table) (r : Record) (talk : Talk) (db : Tables) → Talks catalog r talk → TalkTold db talk → Told catalog db r.said

-- what the statements of a committed record wrote is what it put
abbrev pub WritesArePuts : Type 0
WritesArePuts = (catalog : List Table) (r : Record) (talk : Talk) (db : Tables) → Talks catalog r talk → TalkTold db talk → is_committed r.ending ≡ true → written catalog db r.said ≡ puts_in talk
