-- What sessions were answered, line by line, is what their records say.
use Rattle.std.specs.Prelude.{◌≡◌, ℕ, ◌+◌, List, [], ◌∷◌, Bool, true, false, cond, not, ◌||◌, ◌==◌, map}
use Rattle.std.specs.List.{filter, flat_map, AllByRecursion}
use Rattle.sk_rows.specs.declared.statement.Statement.{Statement}
use Rattle.sk_model.specs.declared.label.Label.{Label}
use Rattle.sk_model.specs.declared.reply.ErrWord.{ErrWord}
use Rattle.sk_model.specs.declared.reply.ErrWord.TheVariants as err
use Rattle.sk_model.specs.declared.reply.Reply.{Reply}
use Rattle.sk_model.specs.declared.reply.Reply.TheVariants as reply
use Rattle.sk_model.specs.declared.record.Said.{Said}
use Rattle.sk_model.specs.declared.record.Record.{Record}

-- a line of a session: a statement, and the reply that was printed for it
pub record Spoke : Type 0 where
  pub session : ℕ
  pub said : Said

-- where a session stands: outside of a transaction, inside one, or behind one that ended before the session left it
pub data Seat : Type 0 where
  Outside : Seat
  Inside : Seat
  Ended : Seat

-- refused for where the session stands
abbrev pub is_out_of_turn : ErrWord → Bool
is_out_of_turn err.Committing = true
is_out_of_turn err.Ended = true
is_out_of_turn err.InTransaction = true
is_out_of_turn err.NoTransaction = true
is_out_of_turn _ = false

-- refused for the statement's names, counts and sorts, or for the engine of its table
abbrev pub is_for_words : ErrWord → Bool
is_for_words err.Table = true
is_for_words err.Column = true
is_for_words err.Key = true
is_for_words err.Type = true
is_for_words err.Engine = true
is_for_words _ = false

-- a line uses a label unless it is refused for where the session stands or, outside of a transaction, for its words
abbrev pub uses_label : Seat → Reply → Bool
uses_label Ended r = false
uses_label Outside (reply.Refused word) = not (is_out_of_turn word || is_for_words word)
uses_label Inside (reply.Refused word) = not (is_out_of_turn word)
uses_label seat r = true

-- a reply with which the session's transaction is over before the session left it
abbrev pub is_lost : Reply → Bool
is_lost (reply.Conflict by why) = true
is_lost (reply.Recycled point) = true
is_lost (reply.Old engine snapshot horizon) = true
is_lost (reply.Refused err.Device) = true
is_lost (reply.Refused err.Memory) = true
is_lost r = false

-- where the session stands behind a reply
abbrev pub seat_behind : Seat → Reply → Seat
seat_behind seat (reply.Began label) = Inside
seat_behind seat reply.Committed = Outside
seat_behind seat reply.RolledBack = Outside
seat_behind seat (reply.CheckFailed point mem store) = Outside
seat_behind seat (reply.Spent engine) = Outside
seat_behind Inside r = cond (is_lost r) Ended Inside
seat_behind seat r = seat

-- of a session's lines those that used a label, where the session stands here before them
abbrev pub labelled : Seat → List Said → List Said
labelled seat [] = []
labelled seat (s ∷ rest) =
    let more : List Said = labelled (seat_behind seat s.reply) rest in
    cond (uses_label seat s.reply) (s ∷ more) more

-- the lines of a session
abbrev pub lines_of : ℕ → List Spoke → List Said
lines_of session lines = map (λ (l : Spoke). l.said) (filter (λ (l : Spoke). l.session == session) lines)

-- the records of a session
abbrev pub records_of : ℕ → List Record → List Record
records_of session records = filter (λ (r : Record). r.label.session == session) records

-- the records have these numbers, one after another
abbrev pub Counts : ℕ → List Record → Type 0
Counts k [] = Unit {0}
Counts k (r ∷ rs) = (r.label.k ≡ k) × Counts (k + 1) rs

-- a reply that names a transaction which began names this one
abbrev pub Names : Label → Reply → Type 0
Names label (reply.Began l) = l ≡ label
Names label r = Unit {0}

-- what was printed is what the records say
pub record Spoken (lines : List Spoke) (records : List Record) : Type 0 where
  -- each session's transactions are numbered from 1 on
  pub numbered : (session : ℕ) → Counts 1 (records_of session records)
  -- each session's lines that used a label, with their printed replies, are what its records say, one record after another
  pub said : (session : ℕ) → flat_map (λ (r : Record). r.said) (records_of session records) ≡ labelled Outside (lines_of session lines)
  -- a BEGIN is answered the label of its record
  pub named : AllByRecursion (λ (r : Record). AllByRecursion (λ (s : Said). Names r.label s.reply) r.said) records

-- the lines of these sessions, with what they said and were answered
abbrev pub spoke : List ℕ → List Statement → List Reply → List Spoke
spoke (n ∷ ns) (s ∷ ss) (r ∷ rs) = record { session = n; said = record { statement = s; reply = r } } ∷ spoke ns ss rs
spoke ns ss rs = []
