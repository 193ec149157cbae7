-- The order of refusals, as a table by where the session stands and what is said.
use Rattle.std.specs.Prelude.{◌≡◌, ℕ, List, Option, Some, None, ◌⊎◌, if◌then◌else◌}
use Rattle.sk_rows.specs.declared.table.Table.{Table}
use Rattle.sk_rows.specs.declared.statement.Statement.{Statement}
use Rattle.sk_rows.specs.declared.statement.Statement.TheVariants as statement
use Rattle.sk_model.specs.declared.record.TxKind.{TxKind}
use Rattle.sk_model.specs.declared.reply.ErrWord.{ErrWord}
use Rattle.sk_model.specs.declared.reply.ErrWord.TheVariants.{Committing, Ended, InTransaction, NoTransaction, Table as UnknownTable, Engine}
use Rattle.sk_model.specs.Names.{columns_at}
use Rattle.sk_model.specs.Replies.{refusal_in}
use Rattle.sk_model.specs.Asking.{keeper, may_use, table_named}
use Rattle.sk_model.specs.declared.reply.Reply.TheVariants as reply
use Rattle.sk_model.specs.declared.record.Record.{Record}
use Rattle.sk_session.specs.declared.live.Live.{Live}
use Rattle.sk_session.specs.declared.live.Moved.{Moved}
use Rattle.sk_session.specs.declared.live.At.{At}
use Rattle.sk_session.specs.declared.live.At.TheVariants as at
use Rattle.sk_session.specs.Moving.{Either, say, says, starve, refuses}

-- a transaction of this kind may not use the engine of the table; outside a transaction there is no kind that forbids one
abbrev pub engine_refusal : List Table → Option TxKind → ℕ → Option ErrWord
engine_refusal catalog None t = None
engine_refusal catalog (Some kind) t = if may_use kind (keeper catalog t) then None else Some Engine

-- the words come before the engine
abbrev pub words_then : List Table → Option TxKind → ℕ → Option ErrWord → Option ErrWord
words_then catalog kind t (Some word) = Some word
words_then catalog kind t None = engine_refusal catalog kind t

-- a table that is not there comes before all other words
abbrev pub table_refusal : List Table → Option TxKind → Statement → Option ℕ → Option ErrWord
table_refusal catalog kind s None = Some UnknownTable
table_refusal catalog kind s (Some t) = words_then catalog kind t (refusal_in (columns_at catalog t) s)

-- what refuses a statement outside of a transaction; STEP is no statement
abbrev pub outside_refusal : List Table → Option Statement → Option ErrWord
outside_refusal catalog None = Some NoTransaction
outside_refusal catalog (Some statement.Commit) = Some NoTransaction
outside_refusal catalog (Some statement.Rollback) = Some NoTransaction
outside_refusal catalog (Some (statement.Begin begun)) = None
outside_refusal catalog (Some s) = table_refusal catalog None s (table_named catalog s)

-- inside of one of this kind
abbrev pub inside_refusal : List Table → TxKind → Option Statement → Option ErrWord
inside_refusal catalog kind None = None
inside_refusal catalog kind (Some statement.Commit) = None
inside_refusal catalog kind (Some statement.Rollback) = None
inside_refusal catalog kind (Some (statement.Begin begun)) = Some InTransaction
inside_refusal catalog kind (Some s) = table_refusal catalog (Some kind) s (table_named catalog s)

-- between two steps of a commit
abbrev pub stepping_refusal : Option Statement → Option ErrWord
stepping_refusal None = None
stepping_refusal (Some statement.Commit) = None
stepping_refusal _ = Some Committing

-- behind a transaction that was lost
abbrev pub ended_refusal : Option Statement → Option ErrWord
ended_refusal (Some statement.Commit) = None
ended_refusal (Some statement.Rollback) = None
ended_refusal _ = Some Ended

-- what refuses a statement, or STEP, before anything is asked for
abbrev pub refusal_at : List Table → At → Option Statement → Option ErrWord
refusal_at catalog at.Outside s = outside_refusal catalog s
refusal_at catalog (at.Inside live) s = inside_refusal catalog live.kind s
refusal_at catalog (at.Stepping live c) s = stepping_refusal s
refusal_at catalog at.Ended s = ended_refusal s
refusal_at catalog (at.Asking live doing) s = Some Committing

-- A statement that is refused inside of a transaction is answered the word, and stands in its record; or memory was wanted for that, and the
-- transaction is lost.
abbrev pub RefusedInside : List Record → Live → Statement → ErrWord → Moved → Type 0
RefusedInside old live s word moved = (moved ≡ starve old live) ⊎ Either (say old (says live s) (reply.Refused word)) (starve old (says live s)) moved

-- What is refused asks for nothing and changes nothing, but that inside of a transaction a refusal for its words or its engine stands in the
-- record.
abbrev pub RefusedIn : List Record → Live → Option Statement → ErrWord → Moved → Type 0
RefusedIn old live None word moved = moved ≡ refuses old (at.Inside live) word
RefusedIn old live (Some (statement.Begin begun)) word moved = moved ≡ refuses old (at.Inside live) word
RefusedIn old live (Some s) word moved = RefusedInside old live s word moved

abbrev pub RefusedAt : List Record → At → Option Statement → ErrWord → Moved → Type 0
RefusedAt old (at.Inside live) s word moved = RefusedIn old live s word moved
RefusedAt old there s word moved = moved ≡ refuses old there word

-- what the table refuses is refused so
abbrev pub RefusesByTable : List Table → List Record → At → Option Statement → Moved → Type 0
RefusesByTable catalog old there s moved = (word : ErrWord) → refusal_at catalog there s ≡ Some word → RefusedAt old there s word moved
