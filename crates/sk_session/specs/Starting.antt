-- What the calls of a session leave.
use Rattle.std.specs.Prelude.{◌≡◌, ℕ, List, [], Option}
use Rattle.sk_rows.specs.declared.table.Table.{Table}
use Rattle.sk_rows.specs.declared.statement.Statement.{Statement}
use Rattle.sk_commit.specs.declared.asking.Got.{Got}
use Rattle.sk_session.specs.declared.turn.Turn.{Turn}
use Rattle.sk_session.specs.declared.live.Moved.{Moved}
use Rattle.sk_session.specs.declared.session.Session.{Session}
use Rattle.sk_session.specs.declared.live.At.TheVariants.{Outside}
use Rattle.sk_model.specs.declared.record.Record.{Record}
use Rattle.sk_session.specs.Moving.{StartsAt, TakesAt, leave_at, records_at}
use Rattle.sk_session.specs.Refusals.{RefusesByTable}
use Rattle.sk_session.specs.Speaks.{StartKept, TakeKept, LeaveKept}

abbrev pub moved_to : Session → Turn → Moved
moved_to new turn = record { records = new.records; at = new.at; turn = turn }

pub record Starts (catalog : List Table) (old : Session) (s : Option Statement) (new : Session) (turn : Turn) : Type 0 where
  pub number : new.number ≡ old.number
  pub moves : StartsAt catalog old.number old.records old.at s (moved_to new turn)

pub record Takes (catalog : List Table) (old : Session) (got : Got) (new : Session) (turn : Turn) : Type 0 where
  pub number : new.number ≡ old.number
  pub moves : TakesAt catalog old.records old.at got (moved_to new turn)

pub record Leaves (old new : Session) (turn : Turn) : Type 0 where
  pub number : new.number ≡ old.number
  pub moves : moved_to new turn ≡ leave_at old.records old.at

-- a session that has had no transaction
abbrev pub fresh : ℕ → Session
fresh number = record { number = number; records = []; at = Outside }

-- the records of a session, where that of a live transaction is as it began
abbrev pub records_in : Session → List Record
records_in s = s.records

-- and where it has come as far as the transaction has
abbrev pub records_now : Session → List Record
records_now s = records_at s.records s.at

-- what the table of refusals refuses is refused so
abbrev pub StartRefuses : List Table → Session → Option Statement → Session → Turn → Type 0
StartRefuses catalog old s new turn = RefusesByTable catalog old.records old.at s (moved_to new turn)

-- a statement keeps the calls of the live transaction, or begins one
abbrev pub StartKeeps : List Table → Session → Session → Turn → Type 0
StartKeeps catalog old new turn = StartKept catalog old.number old.records old.at (moved_to new turn)

-- an answer of the kind that was asked for adds to the calls of the live transaction just the one that was made
abbrev pub TakeKeeps : List Table → Session → Got → Session → Turn → Type 0
TakeKeeps catalog old got new turn = TakeKept catalog old.records old.at got (moved_to new turn)

-- leaving keeps them
abbrev pub LeaveKeeps : Session → Session → Turn → Type 0
LeaveKeeps old new turn = LeaveKept old.records old.at (moved_to new turn)
