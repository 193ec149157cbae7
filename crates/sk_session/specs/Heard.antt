-- A script with its replies, held line by line against the table of refusals.
use Rattle.std.specs.Prelude.{◌≡◌, List, [], ◌∷◌, Option, Some, None, Bool, true, cond, ◌||◌, ◌⊎◌}
use Rattle.sk_rows.specs.declared.table.Table.{Table}
use Rattle.sk_rows.specs.declared.statement.Statement.{Statement}
use Rattle.sk_rows.specs.declared.statement.Statement.TheVariants as statement
use Rattle.sk_model.specs.declared.record.TxKind.{TxKind}
use Rattle.sk_model.specs.declared.reply.ErrWord.{ErrWord}
use Rattle.sk_model.specs.declared.reply.ErrWord.TheVariants as err
use Rattle.sk_model.specs.declared.reply.Reply.{Reply}
use Rattle.sk_model.specs.declared.reply.Reply.TheVariants as reply
use Rattle.sk_model.specs.Asking.{kind_begun}
use Rattle.sk_model.specs.Spoken.{is_lost, is_out_of_turn, is_for_words}
use Rattle.sk_session.specs.declared.live.At.{At}
use Rattle.sk_session.specs.declared.live.At.TheVariants as at
use Rattle.sk_session.specs.declared.session.Session.{Session}
use Rattle.sk_session.specs.Printed.{Line, IsClear}
use Rattle.sk_session.specs.Refusals.{outside_refusal, inside_refusal, stepping_refusal, ended_refusal}

-- where a session stands, as far as refusals go by it: outside of a transaction, inside one of a kind, between two steps of its commit, or
-- behind one that was lost
pub data Stand : Type 0 where
  Outside : Stand
  Inside : (kind : TxKind) → Stand
  Stepping : Stand
  Ended : Stand

abbrev pub stand_at : At → Stand
stand_at at.Outside = Outside
stand_at (at.Inside live) = Inside live.kind
stand_at (at.Stepping live c) = Stepping
stand_at at.Ended = Ended
stand_at (at.Asking live doing) = Inside live.kind

-- what refuses a line there
abbrev pub refusal_by : List Table → Stand → Option Statement → Option ErrWord
refusal_by catalog Outside o = outside_refusal catalog o
refusal_by catalog (Inside kind) o = inside_refusal catalog kind o
refusal_by catalog Stepping o = stepping_refusal o
refusal_by catalog Ended o = ended_refusal o

-- ---- where a line leads

-- outside of a transaction BEGIN alone leads into one, or behind one that was lost
abbrev pub stand_outside : Option Statement → Reply → Stand
stand_outside (Some (statement.Begin begun)) r = cond (is_lost r) Ended (Inside (kind_begun begun))
stand_outside o r = Outside

-- inside of one, STEP leads between two steps of its commit, or out, as COMMIT and ROLLBACK do; any other statement that loses it leaves the
-- session behind it
abbrev pub stand_inside : TxKind → Option Statement → Reply → Stand
stand_inside kind None (reply.Step name n) = Stepping
stand_inside kind None r = Outside
stand_inside kind (Some statement.Commit) r = Outside
stand_inside kind (Some statement.Rollback) r = Outside
stand_inside kind (Some s) r = cond (is_lost r) Ended (Inside kind)

-- between two steps, COMMIT and the last step lead out
abbrev pub stand_stepping : Option Statement → Reply → Stand
stand_stepping None (reply.Step name n) = Stepping
stand_stepping None r = Outside
stand_stepping (Some statement.Commit) r = Outside
stand_stepping (Some s) r = Stepping

-- behind one that was lost COMMIT and ROLLBACK lead out
abbrev pub stand_after : Stand → Option Statement → Reply → Stand
stand_after Outside o r = stand_outside o r
stand_after (Inside kind) o r = stand_inside kind o r
stand_after Stepping o r = stand_stepping o r
stand_after Ended o reply.RolledBack = Outside
stand_after Ended o r = Ended

-- ---- what a line is answered

-- the words of the table
abbrev pub is_by_table : ErrWord → Bool
is_by_table word = is_out_of_turn word || is_for_words word

-- answered with the word; where it is one for the statement's words, memory may have been wanted for that
abbrev pub IsRefused : ErrWord → Reply → Type 0
IsRefused word r = (r ≡ reply.Refused word) ⊎ ((is_for_words word ≡ true) × (r ≡ reply.Refused err.Memory))

-- a line that is said there, with its reply
pub record Refuses (catalog : List Table) (stand : Stand) (line : Line) : Type 0 where
  -- what the table refuses is refused so
  pub refused : (word : ErrWord) → refusal_by catalog stand line.0 ≡ Some word → IsRefused word line.1
  -- nothing else is answered with a word of the table
  pub caused : (word : ErrWord) → line.1 ≡ reply.Refused word → is_by_table word ≡ true → refusal_by catalog stand line.0 ≡ Some word
  -- behind a transaction that was lost, what it does not refuse is answered that this one was rolled back
  pub acknowledged : stand ≡ Ended → refusal_by catalog stand line.0 ≡ None → line.1 ≡ reply.RolledBack

-- where the session stands here, these lines are answered as the table has it, one after another, and then it stands there
abbrev pub RefusesAll : List Table → Stand → List Line → Stand → Type 0
RefusesAll catalog stand [] end = end ≡ stand
RefusesAll catalog stand (line ∷ lines) end = Refuses catalog stand line × RefusesAll catalog (stand_after stand line.0 line.1) lines end

-- a session between two lines has answered this one
abbrev pub LineRefuses : List Table → Session → Option Statement → Session → Reply → Type 0
LineRefuses catalog old o new r = IsClear old.records old.at → (stand_at new.at ≡ stand_after (stand_at old.at) o r) × Refuses catalog (stand_at old.at) (o, r)
