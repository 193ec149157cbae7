-- What a session was answered, line by line, and what its records say of that.
use Rattle.std.specs.Prelude.{◌≡◌, List, [], ◌∷◌, ◌++◌, Option, Some, None, Bool, true, false, cond, ◌⊎◌}
use Rattle.std.specs.List.{flat_map}
use Rattle.sk_rows.specs.declared.statement.Statement.{Statement}
use Rattle.sk_rows.specs.declared.statement.Statement.TheVariants as statement
use Rattle.sk_model.specs.declared.reply.Reply.{Reply}
use Rattle.sk_model.specs.declared.reply.Reply.TheVariants as reply
use Rattle.sk_model.specs.declared.reply.ErrWord.TheVariants as err
use Rattle.sk_model.specs.declared.record.Said.{Said}
use Rattle.sk_model.specs.declared.record.Record.{Record}
use Rattle.sk_model.specs.RecordTalks.{is_end}
use Rattle.sk_model.specs.Spoken.{Seat, Outside, Inside, Ended, uses_label, is_lost}
use Rattle.sk_commit.specs.declared.asking.Got.{Got}
use Rattle.sk_commit.specs.declared.committing.CommitEnd.{CommitEnd}
use Rattle.sk_session.specs.declared.turn.Turn.{Turn}
use Rattle.sk_session.specs.declared.turn.Turn.TheVariants as turn
use Rattle.sk_session.specs.declared.live.Live.{Live}
use Rattle.sk_session.specs.declared.live.Job.{Job}
use Rattle.sk_session.specs.declared.live.Job.TheVariants as job
use Rattle.sk_session.specs.declared.live.At.{At}
use Rattle.sk_session.specs.declared.live.At.TheVariants as at
use Rattle.sk_session.specs.declared.session.Session.{Session}
use Rattle.sk_session.specs.Kept.{said_maybe}
use Rattle.sk_session.specs.Moving.{said_now, is_begin, at_after, end_reply}
use Rattle.sk_session.specs.EachTalk.{AnswerFits}
use Rattle.sk_session.specs.SoFar.{records_so_far}

-- what these records say, one after another
abbrev pub said_in : List Record → List Said
said_in records = flat_map (λ (r : Record). r.said) records

-- what the records of a session say so far
abbrev pub said_so_far : Session → List Said
said_so_far s = said_in (records_so_far s)

-- ---- where a session stands

abbrev pub seat_at : At → Seat
seat_at at.Outside = Outside
seat_at (at.Inside live) = Inside
seat_at (at.Stepping live c) = Inside
seat_at at.Ended = Ended
seat_at (at.Asking live doing) = Inside

-- Behind a reply inside of a transaction: COMMIT ends it whatever comes of it, and so does a STEP that was the last; ROLLBACK ends it, but
-- between two steps of its commit, where nothing else does. Any other statement that loses it leaves the session behind it.
abbrev pub seat_inside : Option Statement → Reply → Seat
seat_inside None (reply.Step name n) = Inside
seat_inside None (reply.Refused err.Committing) = Inside
seat_inside None r = Outside
seat_inside (Some statement.Commit) r = Outside
seat_inside (Some statement.Rollback) reply.RolledBack = Outside
seat_inside (Some statement.Rollback) r = Inside
seat_inside (Some s) r = cond (is_lost r) Ended Inside

-- outside of one BEGIN alone leads into one, or behind one that was lost
abbrev pub seat_outside : Option Statement → Reply → Seat
seat_outside (Some (statement.Begin begun)) r = cond (is_lost r) Ended Inside
seat_outside o r = Outside

-- behind one that was lost COMMIT and ROLLBACK lead out
abbrev pub seat_after : Seat → Option Statement → Reply → Seat
seat_after Outside o r = seat_outside o r
seat_after Inside o r = seat_inside o r
seat_after Ended o reply.RolledBack = Outside
seat_after Ended o r = Ended

-- ---- what a line adds

-- the statement with its reply; where memory was wanted it may be missing
abbrev pub AddsOne : Statement → Reply → List Said → Type 0
AddsOne s r part = (part ≡ record { statement = s; reply = r } ∷ []) ⊎ ((r ≡ reply.Refused err.Memory) × (part ≡ []))

-- A line adds this to what the records say: STEP, and a statement that uses no label, add nothing.
abbrev pub Adds : Seat → Option Statement → Reply → List Said → Type 0
Adds seat None r part = part ≡ []
Adds seat (Some s) r part = cond (uses_label seat r) (AddsOne s r part) (part ≡ [])

-- a line, STEP where there is no statement, and its reply
abbrev pub Line : Type 0
Line = Option Statement × Reply

-- where the session stands here, these lines add this to what its records say, and then it stands there
abbrev pub Prints : Seat → List Line → List Said → Seat → Type 0
Prints seat [] said end = (said ≡ []) × (end ≡ seat)
Prints seat (line ∷ lines) said end =
    (part : List Said) × (more : List Said) × (said ≡ part ++ more) × Adds seat line.0 line.1 part × Prints (seat_after seat line.0 line.1) lines more end

-- ---- between two lines

-- the last record is that of a live transaction
abbrev pub HasOpenRecord : List Record → Type 0
HasOpenRecord records = (front : List Record) × (open_record : Record) × (records ≡ front ++ open_record ∷ [])

-- A transaction that is live between two lines is of BEGIN and answers no statement, and the last record is its own.
abbrev pub IsClear : List Record → At → Type 0
IsClear records at.Outside = Unit {0}
IsClear records at.Ended = Unit {0}
IsClear records (at.Inside live) = (live.statement ≡ None) × (live.small ≡ false) × HasOpenRecord records
IsClear records (at.Stepping live c) = (live.statement ≡ None) × (live.small ≡ false) × HasOpenRecord records
IsClear records (at.Asking live doing) = ⊥

-- these are the lines of a session so far
pub record HasPrinted (lines : List Line) (s : Session) : Type 0 where
  pub clear : IsClear s.records s.at
  pub prints : Prints Outside lines (said_so_far s) (seat_at s.at)

-- the line was answered this
pub record LineDone (seat : Seat) (o : Option Statement) (said : List Said) (s : Session) (r : Reply) : Type 0 where
  pub part : List Said
  pub said_are : said_so_far s ≡ said ++ part
  pub adds : Adds seat o r part
  pub stands : seat_at s.at ≡ seat_after seat o r
  pub clear : IsClear s.records s.at

-- ---- while a line is answered

-- a statement that is answered over a table
abbrev pub IsPlain : Statement → Type 0
IsPlain s = (is_begin (Some s) ≡ false) × (is_end s ≡ false)

-- the lines that ask for calls of their own: of a transaction of one statement, of BEGIN, and inside of a transaction
abbrev pub IsHeard : Seat → Bool → Option Statement → Type 0
IsHeard Outside true (Some s) = IsPlain s
IsHeard Outside false (Some s) = is_begin (Some s) ≡ true
IsHeard Inside false (Some s) = IsPlain s
IsHeard _ _ _ = ⊥

abbrev pub Hears : Seat → Option Statement → Live → Type 0
Hears seat o live = (live.statement ≡ o) × IsHeard seat live.small o

-- a reply that loses no transaction, to a line that uses a label
abbrev pub IsTold : Seat → Reply → Type 0
IsTold seat r = (is_lost r ≡ false) × (uses_label seat r ≡ true)

-- a transaction that ends with this reply adds what the line adds, and the session stands where the line leads
abbrev pub Ends : Seat → Option Statement → Reply → Live → At → Type 0
Ends seat o r live there = Adds seat o r (said_maybe (said_now live.statement r)) × (seat_at there ≡ seat_after seat o r)

-- one step alone is taken by STEP
abbrev pub BySteps : Seat → Option Statement → Live → Type 0
BySteps seat o live = (seat ≡ Inside) × (o ≡ None) × (live.statement ≡ None) × (live.small ≡ false)

abbrev pub Closes : Seat → Option Statement → Live → Bool → Option Reply → Type 0
Closes seat o live whole own = (whole ≡ false → BySteps seat o live) × ((end : CommitEnd) → Ends seat o (end_reply end own) live at.Outside)

abbrev pub JobFits : Seat → Option Statement → Live → Job → Type 0
JobFits seat o live job.Count = Hears seat o live
JobFits seat o live (job.Open e n) = Hears seat o live
JobFits seat o live job.Select = Hears seat o live
JobFits seat o live (job.Read e t key) = Hears seat o live
JobFits seat o live (job.Put e writes done r) = Hears seat o live × IsTold seat r
JobFits seat o live (job.Commit c whole own) = Closes seat o live whole own
JobFits seat o live (job.Leave e how r lost) = Ends seat o r live (at_after lost)

-- what the records said before the line is what they say still
abbrev pub UnderWay : Seat → Option Statement → List Said → List Record → At → Type 0
UnderWay seat o said records (at.Asking live doing) =
    (front : List Record) × (open_record : Record) × (records ≡ front ++ open_record ∷ []) × (said ≡ said_in front ++ live.said) × JobFits seat o live doing
UnderWay seat o said records _ = ⊥

-- The session answers this line, which it heard at this seat, when its records said this; or it has answered it.
abbrev pub Speaking : Seat → Option Statement → List Said → Session → Turn → Type 0
Speaking seat o said s (turn.Ask w) = UnderWay seat o said s.records s.at
Speaking seat o said s (turn.Said r) = LineDone seat o said s r

-- ---- the calls

-- a session hears a line
abbrev pub StartPrints : Session → Option Statement → Session → Turn → Type 0
StartPrints old o new t = IsClear old.records old.at → Speaking (seat_at old.at) o (said_so_far old) new t

-- and goes on with an answer of the kind that was asked for
abbrev pub TakePrints : Session → Got → Session → Turn → Type 0
TakePrints old got new t =
    (seat : Seat) (o : Option Statement) (said : List Said) → UnderWay seat o said old.records old.at → AnswerFits old.at got → Speaking seat o said new t

-- leaving adds nothing
abbrev pub LeavePrints : Session → Session → Turn → Type 0
LeavePrints old new t = IsClear old.records old.at → Speaking (seat_at old.at) None (said_so_far old) new t

-- one line more was answered
abbrev pub LinePrints : Session → Option Statement → Session → Reply → Type 0
LinePrints old o new r = (lines : List Line) → HasPrinted lines old → HasPrinted (lines ++ (o, r) ∷ []) new
