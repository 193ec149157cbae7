-- A session has a talk for each of its records, that of its live transaction too.
use Rattle.std.specs.Prelude.{◌≡◌, ℕ, ◌+◌, List, [], ◌∷◌, ◌++◌, None, Bool, true, false, cond, length}
use Rattle.sk_rows.specs.declared.table.Table.{Table}
use Rattle.sk_model.specs.declared.engine.EngineName.TheVariants.{Mem, Store}
use Rattle.sk_model.specs.declared.label.Label.{Label}
use Rattle.sk_model.specs.declared.record.Record.{Record}
use Rattle.sk_model.specs.Talks.{Talk}
use Rattle.sk_model.specs.RecordTalks.{Talks}
use Rattle.sk_commit.specs.declared.asking.Got.{Got}
use Rattle.sk_commit.specs.Fits.{WishFits, own_call}
use Rattle.sk_session.specs.declared.live.Live.{Live}
use Rattle.sk_session.specs.declared.live.Job.{Job}
use Rattle.sk_session.specs.declared.live.Job.TheVariants as job
use Rattle.sk_session.specs.declared.live.At.{At}
use Rattle.sk_session.specs.declared.live.At.TheVariants as at
use Rattle.sk_session.specs.declared.session.Session.{Session}
use Rattle.sk_session.specs.Moving.{wished}
use Rattle.sk_session.specs.Speaks.{Stands, Pauses, JobSpeaks, Over}

abbrev pub label_at : ℕ → ℕ → Label
label_at number k = record { session = number; k = k }

-- a talk for each record, of which this holds, and the labels of the records are numbered from k on
abbrev pub EachHas : (Record → Talk → Type 0) → ℕ → ℕ → List Record → List Talk → Type 0
EachHas Has number k [] [] = Unit {0}
EachHas Has number k [] (t ∷ ts) = ⊥
EachHas Has number k (r ∷ rs) [] = ⊥
EachHas Has number k (r ∷ rs) (t ∷ ts) = (r.label ≡ label_at number k) × Has r t × EachHas Has number (k + 1) rs ts

-- the records have these talks
abbrev pub EachTalks : List Table → ℕ → ℕ → List Record → List Talk → Type 0
EachTalks catalog number k rs ts = EachHas (Talks catalog) number k rs ts

-- and are of transactions that are over
abbrev pub EachOver : List Table → ℕ → ℕ → List Record → List Talk → Type 0
EachOver catalog number k rs ts = EachHas (Over catalog) number k rs ts

-- The last record is that of a live transaction of this label, whose talk is the last; those before it are of transactions that are over.
pub record LastLive (catalog : List Table) (number : ℕ) (records : List Record) (talks : List Talk) (label : Label) (talk : Talk) : Type 0 where
  pub front : List Record
  pub open_record : Record
  pub before : List Talk
  pub records_are : records ≡ front ++ open_record ∷ []
  pub talks_are : talks ≡ before ++ talk ∷ []
  pub each : EachOver catalog number 1 front before
  pub label_is : label ≡ label_at number (length front + 1)

-- these are the talks of a session that stands there with these records
abbrev pub HasTalks : List Table → ℕ → List Record → At → List Talk → Type 0
HasTalks catalog number records at.Outside talks = EachOver catalog number 1 records talks
HasTalks catalog number records at.Ended talks = EachOver catalog number 1 records talks
HasTalks catalog number records (at.Inside live) talks = (talk : Talk) × LastLive catalog number records talks live.label talk × Stands catalog live talk
HasTalks catalog number records (at.Stepping live c) talks = (talk : Talk) × LastLive catalog number records talks live.label talk × Pauses catalog live c talk
HasTalks catalog number records (at.Asking live doing) talks = (talk : Talk) × LastLive catalog number records talks live.label talk × JobSpeaks catalog live doing talk

-- the last talk has one call more, where one was made
abbrev pub grown : List Talk → Talk → List Talk
grown [] more = []
grown (t ∷ []) more = (t ++ more) ∷ []
grown (t ∷ u ∷ ts) more = t ∷ grown (u ∷ ts) more

-- the answer is of the kind that is waited for, and this is the engine call that was made
abbrev pub AnswerFits : At → Got → Type 0
AnswerFits (at.Asking live doing) got = WishFits (wished live doing) got
AnswerFits _ got = ⊥

abbrev pub call_made : At → Got → Talk
call_made (at.Asking live doing) got = own_call (wished live doing) got
call_made _ got = []

-- a transaction has begun where none was live
abbrev pub has_begun : At → At → Bool
has_begun at.Outside (at.Asking live doing) = true
has_begun at.Ended (at.Asking live doing) = true
has_begun _ _ = false

-- the talks behind a statement: one more, with no call yet, where a transaction begins
abbrev pub talks_from : At → At → List Talk → List Talk
talks_from old new talks = cond (has_begun old new) (talks ++ [] ∷ []) talks

-- a selection stands only where the storage engine is open
abbrev pub Unselected : Live → Type 0
Unselected live = live.store ≡ None → live.selected ≡ None

-- or is opened next; and the memory engine is opened first
abbrev pub OrderlyJob : Live → Job → Type 0
OrderlyJob live job.Count = (live.store ≡ None) × (live.selected ≡ None)
OrderlyJob live (job.Open Mem n) = (live.store ≡ None) × (live.selected ≡ None)
OrderlyJob live (job.Open Store n) = Unit {0}
OrderlyJob live job.Select = live.selected ≡ None
OrderlyJob live (job.Read e t key) = Unselected live
OrderlyJob live (job.Put e writes done r) = Unselected live
OrderlyJob live (job.Commit c whole own) = Unit {0}
OrderlyJob live (job.Leave e how r lost) = Unit {0}

abbrev pub IsOrderly : At → Type 0
IsOrderly (at.Inside live) = Unselected live
IsOrderly (at.Asking live doing) = OrderlyJob live doing
IsOrderly _ = Unit {0}

-- these are the talks of the session
abbrev pub SessionTalks : List Table → Session → List Talk → Type 0
SessionTalks catalog s talks = HasTalks catalog s.number s.records s.at talks × IsOrderly s.at

-- a statement keeps the talks of a session; a transaction that begins has made no call
abbrev pub StartTalks : List Table → Session → Session → Type 0
StartTalks catalog old new = (talks : List Talk) → SessionTalks catalog old talks → SessionTalks catalog new (talks_from old.at new.at talks)

-- an answer of the kind that was asked for adds to the last talk just the call that was made
abbrev pub TakeTalks : List Table → Session → Got → Session → Type 0
TakeTalks catalog old got new = (talks : List Talk) → SessionTalks catalog old talks → AnswerFits old.at got → SessionTalks catalog new (grown talks (call_made old.at got))

-- leaving a session keeps its talks
abbrev pub LeaveTalks : Session → Session → Type 0
LeaveTalks old new = (catalog : List Table) (talks : List Talk) → SessionTalks catalog old talks → SessionTalks catalog new talks

-- it waits for no answer
abbrev pub IsBetween : At → Type 0
IsBetween (at.Asking live doing) = ⊥
IsBetween _ = Unit {0}

-- between two lines each of these records has its label and its talk, that of a live transaction too
abbrev pub TalksNow : Session → List Record → Type 0
TalksNow s records = (catalog : List Table) (talks : List Talk) → SessionTalks catalog s talks → IsBetween s.at → EachTalks catalog s.number 1 records talks
