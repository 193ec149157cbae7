-- The records of a session whose transactions are over, which stay as they are.
use Rattle.std.specs.Prelude.{◌≡◌, ◌⊎◌, List, [], ◌∷◌, ◌++◌}
use Rattle.sk_model.specs.declared.record.Record.{Record}
use Rattle.sk_model.specs.declared.record.Ending.TheVariants as ending
use Rattle.sk_session.specs.declared.live.At.{At}
use Rattle.sk_session.specs.declared.live.At.TheVariants as at
use Rattle.sk_session.specs.declared.session.Session.{Session}

-- all of these records, or all but the last, which is that of a transaction that is live: it is open
abbrev pub HasOver : List Record → List Record → At → Type 0
HasOver over records at.Outside = records ≡ over
HasOver over records at.Ended = records ≡ over
HasOver over records _ = (open_record : Record) × (records ≡ over ++ open_record ∷ []) × (open_record.ending ≡ ending.Open)

-- these are the records of its transactions that are over
abbrev pub AreOver : List Record → Session → Type 0
AreOver over s = HasOver over s.records s.at

-- the session rests between two transactions
abbrev pub Rests : At → Type 0
Rests there = (there ≡ at.Outside) ⊎ (there ≡ at.Ended)

-- one more is over, the last one: this record stands behind these
pub record OneMore (over : List Record) (records : List Record) (there : At) : Type 0 where
  pub last : Record
  pub are : records ≡ over ++ last ∷ []
  pub rests : Rests there

-- whichever were: they are so still, they alone or with one more
abbrev pub OverStays : Session → Session → Type 0
OverStays old new = (over : List Record) → AreOver over old → AreOver over new ⊎ OneMore over new.records new.at

-- where it rests between two transactions, no record comes, and it rests still
abbrev pub RestsStill : Session → Session → Type 0
RestsStill old new = Rests old.at → (new.records ≡ old.records) × Rests new.at
