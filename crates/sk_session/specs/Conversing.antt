-- What a session asks of a desk until it replies.
use Rattle.std.specs.Prelude.{◌≡◌, ℕ, List, [], ◌∷◌, ◌++◌, Option, Bool, true, false}
use Rattle.sk_rows.specs.declared.table.Table.{Table}
use Rattle.sk_rows.specs.declared.statement.Statement.{Statement}
use Rattle.sk_model.specs.declared.record.Said.{Said}
use Rattle.sk_model.specs.declared.reply.Reply.{Reply}
use Rattle.sk_model.specs.declared.reply.Reply.TheVariants as reply
use Rattle.sk_model.specs.declared.reply.ErrWord.TheVariants.{Committing}
use Rattle.sk_model.specs.declared.call.EngineCall.{EngineCall}
use Rattle.sk_model.specs.declared.call.EngineCall.TheVariants as call
use Rattle.sk_model.specs.Spoken.{Seat}
use Rattle.sk_model.specs.Talks.{Talk}
use Rattle.sk_weave.specs.declared.answer.DrawFault.TheVariants.{Early}
use Rattle.sk_commit.specs.declared.asking.RegistryReply.TheVariants as told
use Rattle.sk_commit.specs.declared.asking.Wish.{Wish}
use Rattle.sk_commit.specs.declared.asking.Wish.TheVariants as wish
use Rattle.sk_commit.specs.declared.asking.Got.{Got}
use Rattle.sk_commit.specs.declared.asking.Got.TheVariants as given
use Rattle.sk_commit.specs.Fits.{WishFits, own_call}
use Rattle.sk_session.specs.declared.turn.Turn.{Turn}
use Rattle.sk_session.specs.declared.turn.Turn.TheVariants as turn
use Rattle.sk_session.specs.declared.session.Session.{Session}
use Rattle.sk_session.specs.declared.live.Job.TheVariants as job
use Rattle.sk_session.specs.declared.live.At.{At}
use Rattle.sk_session.specs.declared.live.At.TheVariants as at
use Rattle.sk_session.specs.Moving.{wished}
use Rattle.sk_session.specs.Starting.{Starts, Takes, Leaves}
use Rattle.sk_session.specs.EachTalk.{grown, SessionTalks, StartTalks, LeaveTalks}
use Rattle.sk_session.specs.Printed.{Speaking}

-- a draw came too early: the counter stood below the floor
abbrev pub is_early : Got → Bool
is_early (given.Reg (told.NotDrawn (Early floor counter))) = true
is_early _ = false

-- a call that a transaction makes of an engine
abbrev pub is_of_transaction : EngineCall → Bool
is_of_transaction call.Horizon = false
is_of_transaction (call.Records from to) = false
is_of_transaction (call.Purge upto) = false
is_of_transaction _ = true

-- a call that a session may ask for
abbrev pub IsAsked : Wish → Type 0
IsAsked (wish.Mem asked) = is_of_transaction asked ≡ true
IsAsked (wish.Store asked) = is_of_transaction asked ≡ true
IsAsked (wish.Reg asked) = Unit {0}

-- how many writes of the statement that is being answered were put
abbrev pub puts_done : At → ℕ
puts_done (at.Asking live (job.Put e writes done r)) = done
puts_done _ = 0

-- a call that was asked for, and its answer
pub record Exchange : Type 0 where
  pub wish : Wish
  pub got : Got

-- the engine calls that were made
abbrev pub calls_made : List Exchange → Talk
calls_made [] = []
calls_made (x ∷ xs) = own_call x.wish x.got ++ calls_made xs

module _ {D : Type 0} (answers : D → Wish → Got → D → Type 0) (catalog : List Table) where
  -- The session, with this turn, has asked the desk for these calls, one after another, and each was answered so. That has made the session,
  -- its turn and the desk the last three.
  abbrev pub Exchanges : Session → Turn → D → List Exchange → Session → Turn → D → Type 0
  Exchanges s t d [] s_end t_end d_end = (s_end ≡ s) × (t_end ≡ t) × (d_end ≡ d)
  Exchanges s t d (x ∷ xs) s_end t_end d_end =
      (t ≡ turn.Ask x.wish) × WishFits x.wish x.got × (is_early x.got ≡ false)
      × (next : Session) × (then : Turn) × (desk : D) × answers d x.wish x.got desk × Takes catalog s x.got next then × Exchanges next then desk xs s_end t_end d_end

-- The session, with this turn, has asked the desk for calls, which has made the session, its turn and the desk the last three. Each record has
-- its talk, as before, the last one with the calls that were made; and a line that was being answered is so still, or was answered.
pub record HasExchanged {D : Type 0} (answers : D → Wish → Got → D → Type 0) (catalog : List Table) (first : Session) (asked : Turn) (desk : D) (now : Session) (t : Turn) (after : D) : Type 0 where
  pub made : List Exchange
  pub goes : Exchanges answers catalog first asked desk made now t after
  pub talks : (talks : List Talk) → SessionTalks catalog first talks → SessionTalks catalog now (grown talks (calls_made made))
  pub says : (seat : Seat) (s : Option Statement) (said : List Said) → Speaking seat s said first asked → Speaking seat s said now t

-- it has, and then it has replied this
abbrev pub Replied : {D : Type 0} → (D → Wish → Got → D → Type 0) → List Table → Session → Turn → D → Session → D → Reply → Type 0
Replied answers catalog first asked desk new after said = HasExchanged answers catalog first asked desk new (turn.Said said) after

-- a statement, or STEP, was answered: the session began with it, asked the desk for calls, and replied
pub record Conversed {D : Type 0} (answers : D → Wish → Got → D → Type 0) (catalog : List Table) (old : Session) (desk : D) (s : Option Statement) (new : Session) (after : D) (said : Reply) : Type 0 where
  pub first : Session
  pub asked : Turn
  pub starts : Starts catalog old s first asked
  pub begins : StartTalks catalog old first
  pub replied : Replied answers catalog first asked desk new after said

-- the session was left: it began to leave, asked the desk for calls, and replied
pub record HasLeft {D : Type 0} (answers : D → Wish → Got → D → Type 0) (catalog : List Table) (old : Session) (desk : D) (new : Session) (after : D) (said : Reply) : Type 0 where
  pub first : Session
  pub asked : Turn
  pub leaves : Leaves old first asked
  pub keeps : LeaveTalks old first
  pub replied : Replied answers catalog first asked desk new after said

-- Where a session stands that was left, and its reply: outside of a transaction; but where a call is waited for, or a commit is between two of its
-- steps, leaving is refused and it stays.
abbrev pub StandsLeft : At → At → Reply → Type 0
StandsLeft (at.Stepping live c) new said = (new ≡ at.Stepping live c) × (said ≡ reply.Refused Committing)
StandsLeft (at.Asking live doing) new said = (new ≡ at.Asking live doing) × (said ≡ reply.Refused Committing)
StandsLeft _ new said = (new ≡ at.Outside) × (said ≡ reply.RolledBack)

-- a call is asked for only where it is waited for
abbrev pub TurnFits : At → Turn → Type 0
TurnFits there (turn.Said r) = Unit {0}
TurnFits (at.Asking live doing) (turn.Ask w) = w ≡ wished live doing
TurnFits _ (turn.Ask w) = ⊥
