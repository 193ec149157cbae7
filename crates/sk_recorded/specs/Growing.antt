-- What is common to the sessions of a run only grows: journals and points are appended to, counters rise, and nothing of them is lost.
use Rattle.std.specs.Prelude.{◌≡◌, ℕ, List, ◌∷◌, ◌++◌, Option}
use Rattle.sk_rows.specs.declared.table.Table.{Table}
use Rattle.sk_rows.specs.declared.statement.Statement.{Statement}
use Rattle.sk_model.specs.declared.engine.EngineName.{EngineName}
use Rattle.sk_model.specs.declared.point.Point.{Point}
use Rattle.sk_model.specs.declared.reply.Reply.{Reply}
use Rattle.sk_model.specs.declared.call.Entry.{Entry}
use Rattle.sk_model.specs.declared.call.EngineCall.{EngineCall}
use Rattle.sk_model.specs.declared.call.EngineReply.{EngineReply}
use Rattle.sk_model.specs.Talks.{Talk}
use Rattle.sk_weave.specs.Registry.{Regs, IsSound, Grows as RegsGrow}
use Rattle.sk_commit.specs.declared.asking.Wish.{Wish}
use Rattle.sk_commit.specs.declared.asking.Got.{Got}
use Rattle.sk_session.specs.declared.session.Session.{Session}
use Rattle.sk_session.specs.EachTalk.{IsBetween}
use Rattle.sk_session.specs.Conversing.{Conversed, HasLeft}
use Rattle.sk_session.specs.Common.{Common, RegsAnswer, Answered}
use Rattle.sk_session.specs.Denied.{SessionDenied}
use Rattle.sk_kept.specs.Flushing.{AnsweredFlush, Cuts}
use Rattle.sk_kept.specs.Sessions.{Player, IsRun, AnswersRight, GoesOn}

-- what the engines began with stays, each journal has what it had, with more behind it or nothing, and the registry has gone on
pub record Grows (c d : Common) : Type 0 where
  pub first : d.first ≡ c.first
  pub journals : (name : EngineName) → (more : List Entry) × (d.journals name ≡ c.journals name ++ more)
  pub regs : RegsGrow c.regs d.regs

-- each grows to itself, and what has grown grows on
abbrev pub GrowsOn : Type 0
GrowsOn = ((c : Common) → Grows c c) × ((c d e : Common) → Grows c d → Grows d e → Grows c e)

-- by a call of a session that was answered
abbrev pub AnsweredGrows : Type 0
AnsweredGrows = (c d : Common) (asked : Wish) (got : Got) → Answered c asked got d → Grows c d

-- by a call of a flush or a purge
abbrev pub FlushCallsGrow : Type 0
FlushCallsGrow = (c d : Common) (name : EngineName) (asked : EngineCall) (reply : EngineReply) → AnsweredFlush c name asked reply d → Grows c d

-- and by a flush's cut
abbrev pub CutsGrow : Type 0
CutsGrow = (c d : Common) (x y : ℕ) → Cuts c x y d → Grows c d

-- a call of the registry was answered so in a state that this one has come of, or in this one
pub record HeardBy (c : Common) (asked : Wish) (got : Got) : Type 0 where
  pub was : Regs
  pub sound : IsSound was
  pub grown : RegsGrow was c.regs
  pub next : Regs
  pub answered : RegsAnswer was asked got next

-- the desk stands for what c has grown to
abbrev pub StandsGrown : {D : Type 0} → (D → Common → Type 0) → Common → D → Common → Type 0
StandsGrown stands c desk d = stands desk d × Grows c d

-- A desk that answers right for which it stands does so for what that has grown to.
abbrev pub AnswersGrow : {D : Type 0} → (D → Wish → Got → D → Type 0) → (D → Common → Type 0) → Type 0
AnswersGrow {D} answers stands = AnswersRight answers stands → (c : Common) → AnswersRight answers (StandsGrown stands c)

-- So a statement, or STEP, that a session is answered lets it grow, whatever desk makes the calls.
abbrev pub LinesGrow : {D : Type 0} → (D → Wish → Got → D → Type 0) → (D → Common → Type 0) → Type 0
LinesGrow {D} answers stands = AnswersRight answers stands → (catalog : List Table) (old : Session) (desk : D) (s : Option Statement) (new : Session) (desk_then : D) (said : Reply) (c : Common)
    → stands desk c → Conversed answers catalog old desk s new desk_then said → (d : Common) × stands desk_then d × Grows c d

-- And so does leaving a session.
abbrev pub LeavesGrow : {D : Type 0} → (D → Wish → Got → D → Type 0) → (D → Common → Type 0) → Type 0
LeavesGrow {D} answers stands = AnswersRight answers stands → (catalog : List Table) (old : Session) (desk : D) (new : Session) (desk_then : D) (said : Reply) (c : Common)
    → stands desk c → HasLeft answers catalog old desk new desk_then said → (d : Common) × stands desk_then d × Grows c d

-- Such a line keeps what holds of all sessions, of the very common state to which it grows; and what the session's records say that the registry
-- refused, it refused in a state which that has come of.
abbrev pub LinesKeepGrowing : {D : Type 0} → (D → Wish → Got → D → Type 0) → (D → Common → Type 0) → Type 0
LinesKeepGrowing {D} answers stands = AnswersRight answers stands → (catalog : List Table) (first : Point) (points : List Point) (c : Common) (before : List Player) (old : Session) (talks : List Talk) (after : List Player) (desk : D)
    (s : Option Statement) (new : Session) (desk_then : D) (said : Reply) → stands desk c → IsRun catalog first points c (before ++ record { session = old; talks = talks } ∷ after) → IsBetween old.at
    → Conversed answers catalog old desk s new desk_then said → (goes : GoesOn (StandsGrown stands c) catalog first points c before new after desk_then) × IsBetween new.at × (SessionDenied (HeardBy c) old → SessionDenied (HeardBy goes.common) new)

-- And so does leaving a session.
abbrev pub LeavesKeepGrowing : {D : Type 0} → (D → Wish → Got → D → Type 0) → (D → Common → Type 0) → Type 0
LeavesKeepGrowing {D} answers stands = AnswersRight answers stands → (catalog : List Table) (first : Point) (points : List Point) (c : Common) (before : List Player) (old : Session) (talks : List Talk) (after : List Player) (desk : D)
    (new : Session) (desk_then : D) (said : Reply) → stands desk c → IsRun catalog first points c (before ++ record { session = old; talks = talks } ∷ after) → IsBetween old.at
    → HasLeft answers catalog old desk new desk_then said → (goes : GoesOn (StandsGrown stands c) catalog first points c before new after desk_then) × IsBetween new.at × (SessionDenied (HeardBy c) old → SessionDenied (HeardBy goes.common) new)
