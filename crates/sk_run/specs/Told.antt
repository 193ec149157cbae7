-- The lines of a run: who said each, and what it was answered.
use Rattle.std.specs.Prelude.{◌≡◌, ℕ, ◌+◌, List, [], ◌∷◌, Option, Some, None, true, cond, ◌==◌}
use Rattle.std.specs.List.{AllByRecursion}
use Rattle.sk_rows.specs.declared.table.Table.{Table}
use Rattle.sk_rows.specs.declared.statement.Statement.{Statement}
use Rattle.sk_model.specs.declared.record.Record.{Record}
use Rattle.sk_model.specs.Spoken.{Seat, Outside}
use Rattle.sk_model.specs.Texts.{texts_are_short}
use Rattle.sk_session.specs.declared.session.Session.{Session}
use Rattle.sk_session.specs.Printed.{Line, Prints, HasPrinted, said_in}
use Rattle.sk_session.specs.Heard as stand
use Rattle.sk_session.specs.Heard.{Stand, stand_at, RefusesAll}

-- a line of the run, by the number of its session
pub record RunLine : Type 0 where
  pub session : ℕ
  pub line : Line

-- the lines of one session
abbrev pub lines_of : ℕ → List RunLine → List Line
lines_of number [] = []
lines_of number (l ∷ ls) = cond (number == l.session) (l.line ∷ lines_of number ls) (lines_of number ls)

-- no text that a line may write is too long for a row
abbrev pub IsShort : Option Statement → Type 0
IsShort None = Unit {0}
IsShort (Some s) = texts_are_short s ≡ true

abbrev pub AreShort : List RunLine → Type 0
AreShort lines = AllByRecursion (λ (l : RunLine). IsShort l.line.0) lines

-- the sessions are numbered from k on, and each was told just its own lines of these
abbrev pub AreTold : ℕ → List RunLine → List Session → Type 0
AreTold k lines [] = Unit {0}
AreTold k lines (s ∷ ss) = (s.number ≡ k) × HasPrinted (lines_of k lines) s × AreTold (k + 1) lines ss

-- what the table of refusals refuses each session was answered so, line by line, up to where it stands
abbrev pub AreRefused : List Table → ℕ → List RunLine → List Session → Type 0
AreRefused catalog k lines [] = Unit {0}
AreRefused catalog k lines (s ∷ ss) = RefusesAll catalog stand.Outside (lines_of k lines) (stand_at s.at) × AreRefused catalog (k + 1) lines ss

-- so each session of these numbers was
abbrev pub ObeyTable : List Table → List RunLine → List ℕ → Type 0
ObeyTable catalog lines numbers = AllByRecursion (λ k. (end : Stand) × RefusesAll catalog stand.Outside (lines_of k lines) end) numbers

-- the records of each session, by number from k on, say what its lines add
abbrev pub AreSaid : ℕ → List RunLine → List (List Record) → Type 0
AreSaid k lines [] = Unit {0}
AreSaid k lines (rs ∷ more) = ((end : Seat) × Prints Outside (lines_of k lines) (said_in rs) end) × AreSaid (k + 1) lines more
