-- The records of a run whose transactions are over, which stay as they are.
use Rattle.std.specs.Prelude.{◌≡◌, ◌≢◌, ◌⊎◌, ℕ, ◌-◌, ◌<◌, ◌≤◌, List, Option, Some, Bool, true, false, length, get_or, slice_get}
use Rattle.std.specs.List.{AllByRecursion}
use Rattle.sk_model.specs.declared.record.Record.{Record}
use Rattle.sk_model.specs.declared.reply.ErrWord.TheVariants as word
use Rattle.sk_model.specs.declared.reply.Reply.{Reply}
use Rattle.sk_model.specs.declared.reply.Reply.TheVariants as reply
use Rattle.sk_linked.specs.Traces.{In}
use Rattle.sk_session.specs.declared.session.Session.{Session}
use Rattle.sk_session.specs.Over.{AreOver, Rests}
use Rattle.sk_session.specs.Starting.{fresh}
use Rattle.sk_run.specs.State.{RunState}

-- a session of the run has this record, of a transaction that is over
pub record IsOver (x : RunState) (r : Record) : Type 0 where
  pub session : Session
  pub among : In session x.sessions
  pub over : List Record
  pub are_over : AreOver over session
  pub has : In r over

-- whichever was is so still
abbrev pub OverStay : RunState → RunState → Type 0
OverStay old new = (r : Record) → IsOver old r → IsOver new r

-- of the records of the session these or those are of transactions that are over
abbrev pub HasSome : Session → Type 0
HasSome s = (over : List Record) × AreOver over s

abbrev pub HaveSome : List Session → Type 0
HaveSome sessions = AllByRecursion HasSome sessions

-- these are among the records
abbrev pub HasAllOver : RunState → List Record → Type 0
HasAllOver x records = (r : Record) → IsOver x r → In r records

-- and no others are
abbrev pub HasOnlyOver : RunState → List Record → Type 0
HasOnlyOver x records = (r : Record) → In r records → IsOver x r

-- no transaction is over yet
abbrev pub NoneOver : RunState → Type 0
NoneOver x = (r : Record) → IsOver x r → ⊥

-- ---- one session

-- the session of this number, and one that has had no transaction where there is none
abbrev pub session_at : RunState → ℕ → Session
session_at x number = get_or x.sessions (number - 1) (fresh number)

-- all others stand as they did
abbrev pub OthersStay : RunState → ℕ → RunState → Type 0
OthersStay old number new = (other : ℕ) → 1 ≤ other → other ≢ number → session_at new other ≡ session_at old other

-- the session rests between two transactions
abbrev pub RestsAt : RunState → ℕ → Type 0
RestsAt x number = Rests (session_at x number).at

-- all do
abbrev pub AllRest : RunState → Type 0
AllRest x = AllByRecursion (λ (s : Session). Rests s.at) x.sessions

-- it was refused since a commit is between two of its steps
abbrev pub is_committing : Reply → Bool
is_committing (reply.Refused word.Committing) = true
is_committing _ = false

-- the last of a list
abbrev pub last_in : List Record → Option Record
last_in records = slice_get records (length records - 1)

-- that of the session's last transaction
abbrev pub last_record : RunState → ℕ → Option Record
last_record x number = last_in (session_at x number).records

-- whichever is over now was so before, or it is that of the last transaction of this session, which rests
abbrev pub OneMoreBy : RunState → ℕ → RunState → Type 0
OneMoreBy old number new = (r : Record) → IsOver new r → IsOver old r ⊎ ((last_record new number ≡ Some r) × RestsAt new number)

-- the record is of this session, and no other of its transactions that are over is as new
pub record IsNewest (x : RunState) (number : ℕ) (r : Record) : Type 0 where
  pub session : r.label.session ≡ number
  pub counted : 1 ≤ r.label.k
  pub newest : (q : Record) → IsOver x q → q.label.session ≡ number → (q ≡ r) ⊎ (q.label.k < r.label.k)
