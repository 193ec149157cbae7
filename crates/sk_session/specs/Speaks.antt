-- The calls that the live transaction of a session has made, and what it still may ask for its statement.
use Rattle.std.specs.Prelude.{◌≡◌, ℕ, List, [], ◌∷◌, ◌++◌, Option, Some, None, Bool, true, false, ◌⊎◌, drop, is_some, slice_get}
use Rattle.std.specs.List.{list_any, AllByRecursion}
use Rattle.sk_rows.specs.declared.table.Table.{Table}
use Rattle.sk_rows.specs.declared.statement.Statement.{Statement}
use Rattle.sk_rows.specs.declared.statement.Statement.TheVariants as statement
use Rattle.sk_model.specs.declared.commit.Write.{Write}
use Rattle.sk_model.specs.declared.engine.EngineName.{EngineName}
use Rattle.sk_model.specs.declared.engine.EngineName.TheVariants.{Mem, Store}
use Rattle.sk_model.specs.declared.label.Label.{Label}
use Rattle.sk_model.specs.declared.record.TxKind.{TxKind}
use Rattle.sk_model.specs.declared.reply.Reply.{Reply}
use Rattle.sk_model.specs.declared.reply.Reply.TheVariants as reply
use Rattle.sk_model.specs.declared.record.Said.{Said}
use Rattle.sk_model.specs.declared.record.Record.{Record}
use Rattle.sk_model.specs.declared.record.Ending.{Ending}
use Rattle.sk_model.specs.declared.record.Ending.TheVariants as ending
use Rattle.sk_model.specs.Names.{columns_at}
use Rattle.sk_model.specs.Replies.{comes_to, key_read}
use Rattle.sk_model.specs.Spoken.{is_lost}
use Rattle.sk_model.specs.Talks.{Talk, opened, wrote}
use Rattle.sk_model.specs.Asking.{keeper, first_engine, table_named, Rest, Answers, Opens, Reads, Puts, Makes, Asked}
use Rattle.sk_model.specs.Records.{is_committed}
use Rattle.sk_model.specs.RecordTalks.{Converses, is_last, is_end, selection_made, EndReplyTo, lost_ending, left_by, is_open, is_check, Talks}
use Rattle.sk_commit.specs.declared.committing.Committing.{Committing}
use Rattle.sk_commit.specs.declared.committing.Stage.{Stage}
use Rattle.sk_commit.specs.declared.committing.Stage.TheVariants.{Step, Leave}
use Rattle.sk_commit.specs.declared.asking.Got.{Got}
use Rattle.sk_commit.specs.Fits.{WishFits, own_call}
use Rattle.sk_commit.specs.Told.{Underway, talk_of, taken_steps}
use Rattle.sk_session.specs.declared.live.At.{At}
use Rattle.sk_session.specs.declared.live.At.TheVariants as at
use Rattle.sk_session.specs.declared.live.Moved.{Moved}
use Rattle.sk_session.specs.Kept.{listed, said_maybe}
use Rattle.sk_session.specs.declared.turn.Turn.{Turn}
use Rattle.sk_session.specs.declared.turn.Turn.TheVariants as turn_to
use Rattle.sk_session.specs.Moving.{snapshot_of, said_now, used_of, with_last, is_begin, record_begun, label_after, wished}
use Rattle.sk_session.specs.declared.live.Live.{Live}
use Rattle.sk_session.specs.declared.live.Job.{Job}
use Rattle.sk_session.specs.declared.live.Job.TheVariants as job

abbrev pub Nothing : Rest
Nothing calls r = ⊥

-- the read of a table, and what comes then
abbrev pub ReadsOf : List Table → Label → Statement → Option ℕ → Rest
ReadsOf catalog tx s None = Nothing
ReadsOf catalog tx s (Some t) =
    Reads tx (keeper catalog t) t (key_read (columns_at catalog t) s) (λ rows. Makes tx (keeper catalog t) (comes_to (columns_at catalog t) t s rows))

-- what comes behind an opening
abbrev pub Behind : List Table → Label → Statement → Rest
Behind catalog tx (statement.Begin begun) = Answers (reply.Began tx)
Behind catalog tx s = ReadsOf catalog tx s (table_named catalog s)

-- what is still to come of the statement that is being answered, where this is waited for
abbrev pub Remains : List Table → Live → Statement → Job → Rest
Remains catalog live s job.Count = Opens live.label (first_engine live.kind) live.mem None (Behind catalog live.label s)
Remains catalog live s (job.Open e n) = Opens live.label e live.mem None (Behind catalog live.label s)
Remains catalog live s job.Select = Opens live.label Store live.mem None (Behind catalog live.label s)
Remains catalog live s (job.Read e t key) = Reads live.label e t key (λ rows. Makes live.label e (comes_to (columns_at catalog t) t s rows))
Remains catalog live s (job.Put e writes done r) = Puts live.label e r (drop done writes)
Remains catalog live s (job.Commit c whole own) = Nothing
Remains catalog live s (job.Leave e how r lost) = Nothing

-- what a live transaction knows of the calls that it has made
pub record Knows (live : Live) (talk : Talk) : Type 0 where
  pub mem : live.mem ≡ opened Mem talk
  pub store : live.store ≡ opened Store talk
  pub wrote_mem : live.wrote_mem ≡ wrote Mem talk
  pub wrote_store : live.wrote_store ≡ wrote Store talk
  pub mem_undrawn : live.drew_mem ≡ None
  pub store_undrawn : live.drew_store ≡ None
  pub unpassed : live.passed ≡ false
  pub selection : selection_made live.mem (listed live.selected)
  pub mem_first : live.wrote_mem ≡ true → is_some live.mem ≡ true
  pub store_first : live.wrote_store ≡ true → is_some live.store ≡ true

-- the engine is open
abbrev pub IsOpen : Live → EngineName → Type 0
IsOpen live e = is_some (snapshot_of live e) ≡ true

-- a transaction between two statements has made just the calls of those that it was answered
pub record Stands (catalog : List Table) (live : Live) (talk : Talk) : Type 0 where
  pub knows : Knows live talk
  pub said : Converses catalog live.label live.kind [] live.said talk
  pub going : AllByRecursion (λ (s : Said). is_last s ≡ false) live.said
  pub no_statement : live.statement ≡ None
  pub declared : live.small ≡ false
  pub first : IsOpen live (first_engine live.kind)

-- A transaction that answers a statement has made the calls of the statements before it, and some of this one: whatever remains of it
-- makes it a whole.
pub record Answering (catalog : List Table) (live : Live) (now : Statement) (Remaining : Rest) (talk : Talk) : Type 0 where
  pub knows : Knows live talk
  pub before : Talk
  pub part : Talk
  pub talk_is : talk ≡ before ++ part
  pub statement_is : live.statement ≡ Some now
  pub goes_on : is_end now ≡ false
  pub said : Converses catalog live.label live.kind [] live.said before
  pub going : AllByRecursion (λ (s : Said). is_last s ≡ false) live.said
  pub alone : live.small ≡ true → live.said ≡ []
  pub first : live.small ≡ false → is_begin (Some now) ≡ false → IsOpen live (first_engine live.kind)
  pub whole : (calls : Talk) (r : Reply) → Remaining calls r → Asked catalog live.label live.kind before now (part ++ calls) r

-- the engine is the one that the statement uses: that of its table, or for BEGIN the one that is opened first
abbrev pub Uses : List Table → TxKind → Statement → EngineName → Type 0
Uses catalog kind (statement.Begin begun) e = e ≡ first_engine kind
Uses catalog kind s e = (t : ℕ) × (table_named catalog s ≡ Some t) × (keeper catalog t ≡ e)

-- what a transaction knows of what it waits for
abbrev pub JobKnows : List Table → Live → Statement → Job → Type 0
JobKnows catalog live s job.Count = (live.mem ≡ None) × (live.store ≡ None) × Uses catalog live.kind s (first_engine live.kind)
JobKnows catalog live s (job.Open e n) = (snapshot_of live e ≡ None) × Uses catalog live.kind s e
JobKnows catalog live s job.Select = (live.store ≡ None) × (is_some live.mem ≡ true) × Uses catalog live.kind s Store
JobKnows catalog live s (job.Read e t key) = (table_named catalog s ≡ Some t) × IsOpen live e
JobKnows catalog live s (job.Put e writes done r) = (w : Write) × (slice_get writes done ≡ Some w) × (is_lost r ≡ false) × IsOpen live e × (is_begin (Some s) ≡ false)
JobKnows catalog live s (job.Commit c whole own) = ⊥
JobKnows catalog live s (job.Leave e how r lost) = ⊥

-- a transaction that waits for an answer for its statement
pub record Waits (catalog : List Table) (live : Live) (doing : Job) (talk : Talk) : Type 0 where
  pub now : Statement
  pub answering : Answering catalog live now (Remains catalog live now doing) talk
  pub knows : JobKnows catalog live now doing

-- what the last statement was answered fits how the transaction ended
abbrev pub LastFits : Ending → Reply → Option Statement → Type 0
LastFits how r None = Unit {0}
LastFits how r (Some s) = ((record_ends : Record) → record_ends.ending ≡ how → EndReplyTo record_ends r s) × (is_lost r ≡ true → how ≡ lost_ending r)

-- the endings of a transaction that was given up before it drew a number
abbrev pub is_given_up : Ending → Bool
is_given_up ending.RolledBack = true
is_given_up ending.Conflict = true
is_given_up ending.Recycled = true
is_given_up ending.Old = true
is_given_up ending.Device = true
is_given_up ending.NoMemory = true
is_given_up _ = false

-- a transaction is given up, and has ended so but for its openings: these are the calls of its statements
pub record GivenUp (catalog : List Table) (live : Live) (how : Ending) (r : Reply) (spoken : Talk) : Type 0 where
  pub knows : Knows live spoken
  pub heard : Converses catalog live.label live.kind [] (live.said ++ said_maybe (said_now live.statement r)) spoken
  pub going : AllByRecursion (λ (s : Said). is_last s ≡ false) live.said
  pub last : LastFits how r live.statement
  pub given_up : is_given_up how ≡ true

-- the calls that have ended its openings, where this one is ended next
abbrev pub left_before : Live → EngineName → Talk
left_before live Mem = []
left_before live Store = left_by live.label Mem (is_some live.mem) None

-- a transaction that waits for the end of an opening
pub record Leaves (catalog : List Table) (live : Live) (e : EngineName) (how : Ending) (r : Reply) (talk : Talk) : Type 0 where
  pub spoken : Talk
  pub over : GivenUp catalog live how r spoken
  pub talk_is : talk ≡ spoken ++ left_before live e
  pub opened : is_some (snapshot_of live e) ≡ true

-- the statements that were heard before a commit: those of the record; or the one outside BEGIN, with its own reply
abbrev pub HeardIs : Live → Option Reply → List Said → Type 0
HeardIs live None heard = (live.said ≡ heard) × ((live.statement ≡ None) ⊎ (live.statement ≡ Some statement.Commit))
HeardIs live (Some own) heard = (s : Statement) × (live.said ≡ []) × (live.statement ≡ Some s) × (is_end s ≡ false) × (heard ≡ record { statement = s; reply = own } ∷ []) × (is_lost own ≡ false)

-- a transaction that commits has made the calls of its statements, and behind them those of the steps that it took
pub record Commits (catalog : List Table) (live : Live) (c : Committing) (own : Option Reply) (talk : Talk) : Type 0 where
  pub heard : List Said
  pub spoken : Talk
  pub talk_is : talk ≡ spoken ++ talk_of c
  pub asked : Converses catalog live.label live.kind [] heard spoken
  pub going : AllByRecursion (λ (s : Said). is_last s ≡ false) heard
  pub heard_is : HeardIs live own heard
  pub mem : live.mem ≡ opened Mem spoken
  pub store : live.store ≡ opened Store spoken
  pub wrote_mem : live.wrote_mem ≡ wrote Mem spoken
  pub wrote_store : live.wrote_store ≡ wrote Store spoken
  pub selection : selection_made live.mem (listed live.selected)
  pub label : c.label ≡ live.label
  pub used : c.used ≡ used_of live
  pub drew_mem : live.drew_mem ≡ c.mem
  pub drew_store : live.drew_store ≡ c.store
  pub passed : live.passed ≡ list_any is_check (taken_steps c)
  pub underway : Underway c

-- a step of a commit comes next
abbrev pub IsAtStep : Stage → Type 0
IsAtStep (Step s) = Unit {0}
IsAtStep (Leave refused engine end) = ⊥

-- a transaction between two steps of its commit has made the calls of its statements and of the steps that it took
abbrev pub Pauses : List Table → Live → Committing → Talk → Type 0
Pauses catalog live c talk = Commits catalog live c None talk × IsAtStep c.stage

-- the calls of a transaction that waits for this
abbrev pub JobSpeaks : List Table → Live → Job → Talk → Type 0
JobSpeaks catalog live (job.Commit c whole own) talk = Commits catalog live c own talk × (whole ≡ false → own ≡ None)
JobSpeaks catalog live (job.Leave e how r lost) talk = Leaves catalog live e how r talk
JobSpeaks catalog live job.Count talk = Waits catalog live job.Count talk
JobSpeaks catalog live (job.Open e n) talk = Waits catalog live (job.Open e n) talk
JobSpeaks catalog live job.Select talk = Waits catalog live job.Select talk
JobSpeaks catalog live (job.Read e t key) talk = Waits catalog live (job.Read e t key) talk
JobSpeaks catalog live (job.Put e writes done r) talk = Waits catalog live (job.Put e writes done r) talk

-- A transaction that is over has made just these calls: its record says how it ended, and where it is committed each step of its commit was taken.
pub record Over (catalog : List Table) (r : Record) (talk : Talk) : Type 0 where
  pub talks : Talks catalog r talk
  pub ended : is_open r.ending ≡ false
  pub whole : is_committed r.ending ≡ true → talks.rest ≡ []

-- The live transaction of a session that stands there has made just these calls, and asks for the one that it waits for; where none is live
-- any more, the last of the records has.
abbrev pub SpeaksAt : List Table → List Record → Label → List Record → At → Turn → Talk → Type 0
SpeaksAt catalog old label new at.Outside turn talk = (r : Record) × (new ≡ with_last old r) × (r.label ≡ label) × Over catalog r talk
SpeaksAt catalog old label new at.Ended turn talk = (r : Record) × (new ≡ with_last old r) × (r.label ≡ label) × Over catalog r talk
SpeaksAt catalog old label new (at.Inside live) turn talk = (new ≡ old) × (live.label ≡ label) × Stands catalog live talk
SpeaksAt catalog old label new (at.Stepping live c) turn talk = (new ≡ old) × (live.label ≡ label) × Pauses catalog live c talk
SpeaksAt catalog old label new (at.Asking live doing) turn talk = (new ≡ old) × (live.label ≡ label) × JobSpeaks catalog live doing talk × (turn ≡ turn_to.Ask (wished live doing))

-- what was made of a session whose live transaction, of this label, had these calls
abbrev pub Keeps : List Table → List Record → Label → Talk → Moved → Type 0
Keeps catalog old label talk moved = SpeaksAt catalog old label moved.records moved.at moved.turn talk

-- An answer of the kind that was asked for adds to the calls of the transaction just the one that was made; and behind the last call its
-- record has just these calls.
abbrev pub TakeKept : List Table → List Record → At → Got → Moved → Type 0
TakeKept catalog old (at.Asking live doing) got moved =
    (talk : Talk) → JobSpeaks catalog live doing talk → WishFits (wished live doing) got → Keeps catalog old live.label (talk ++ own_call (wished live doing) got) moved
TakeKept catalog old _ got moved = Unit {0}

-- Where no transaction is live, a statement begins one of this label, which has made no call yet and whose record is behind the others; or
-- it begins none.
abbrev pub BegunAt : List Table → List Record → Label → Moved → At → Type 0
BegunAt catalog old label moved (at.Asking live doing) =
    (moved.records ≡ old ++ record_begun live.label live.kind ∷ []) × (live.label ≡ label) × JobSpeaks catalog live doing [] × (moved.turn ≡ turn_to.Ask (wished live doing))
BegunAt catalog old label moved at.Outside = moved.records ≡ old
BegunAt catalog old label moved at.Ended = moved.records ≡ old
BegunAt catalog old label moved _ = ⊥

-- nothing has changed
abbrev pub Unmoved : List Record → At → Moved → Type 0
Unmoved old there moved = (moved.records ≡ old) × (moved.at ≡ there)

-- A statement keeps the calls that the live transaction has made, or begins one.
abbrev pub StartKept : List Table → ℕ → List Record → At → Moved → Type 0
StartKept catalog number old at.Outside moved = BegunAt catalog old (label_after number old) moved moved.at
StartKept catalog number old at.Ended moved = BegunAt catalog old (label_after number old) moved moved.at
StartKept catalog number old (at.Inside live) moved = (talk : Talk) → Stands catalog live talk → Keeps catalog old live.label talk moved
StartKept catalog number old (at.Stepping live c) moved = (talk : Talk) → Pauses catalog live c talk → Keeps catalog old live.label talk moved
StartKept catalog number old (at.Asking live doing) moved = Unmoved old (at.Asking live doing) moved

-- and so does leaving the session
abbrev pub LeaveKept : List Record → At → Moved → Type 0
LeaveKept old at.Outside moved = Unmoved old at.Outside moved
LeaveKept old at.Ended moved = Unmoved old at.Outside moved
LeaveKept old (at.Inside live) moved = (catalog : List Table) (talk : Talk) → Stands catalog live talk → Keeps catalog old live.label talk moved
LeaveKept old (at.Stepping live c) moved = Unmoved old (at.Stepping live c) moved
LeaveKept old (at.Asking live doing) moved = Unmoved old (at.Asking live doing) moved
