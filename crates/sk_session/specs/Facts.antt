-- What a record says of its transaction beside its statements and its ending, and what answers add to it.
use Rattle.std.specs.Prelude.{◌≡◌, ℕ, ◌+◌, List, [], ◌∷◌, ◌++◌, map, Option, Some, None, Bool, true, false, cond, length}
use Rattle.std.specs.List.{AllByRecursion}
use Rattle.sk_rows.specs.declared.table.Table.{Table}
use Rattle.sk_model.specs.declared.label.Label.{Label}
use Rattle.sk_model.specs.declared.engine.EngineName.{EngineName}
use Rattle.sk_model.specs.declared.engine.EngineName.TheVariants.{Mem, Store}
use Rattle.sk_model.specs.declared.point.Point.{Point}
use Rattle.sk_model.specs.declared.record.TxKind.{TxKind}
use Rattle.sk_model.specs.declared.record.Record.{Record}
use Rattle.sk_model.specs.declared.call.EngineCall.TheVariants as call
use Rattle.sk_model.specs.declared.call.EngineReply.TheVariants as answer
use Rattle.sk_model.specs.Asking.{first_engine}
use Rattle.sk_model.specs.Talks.{OwnCall, Talk, tx_of}
use Rattle.sk_weave.specs.declared.answer.Selected.{Selected}
use Rattle.sk_commit.specs.declared.asking.RegistryCall.TheVariants as reg
use Rattle.sk_commit.specs.declared.asking.RegistryReply.TheVariants as told
use Rattle.sk_commit.specs.declared.asking.Wish.{Wish}
use Rattle.sk_commit.specs.declared.asking.Wish.TheVariants as wish
use Rattle.sk_commit.specs.declared.asking.Got.{Got}
use Rattle.sk_commit.specs.declared.asking.Got.TheVariants as given
use Rattle.sk_commit.specs.Fits.{own_call}
use Rattle.sk_session.specs.declared.live.Live.{Live}
use Rattle.sk_session.specs.declared.live.Job.TheVariants as job
use Rattle.sk_session.specs.declared.live.At.{At}
use Rattle.sk_session.specs.declared.live.At.TheVariants as at
use Rattle.sk_session.specs.declared.session.Session.{Session}
use Rattle.sk_session.specs.Moving.{wished}
use Rattle.sk_session.specs.SoFar.{records_so_far}
use Rattle.sk_session.specs.EachTalk.{label_at, SessionTalks, AnswerFits, has_begun}
use Rattle.sk_session.specs.Conversing.{IsAsked}

pub record Facts : Type 0 where
  pub label : Label
  pub kind : TxKind
  pub mem : Option ℕ
  pub store : Option ℕ
  pub drew_mem : Option ℕ
  pub drew_store : Option ℕ
  pub made : List Point

abbrev pub facts_of : Record → Facts
facts_of r = record { label = r.label; kind = r.kind; mem = r.mem; store = r.store; drew_mem = r.drew_mem; drew_store = r.drew_store; made = r.made }

-- the facts of all transactions of a session, in order
abbrev pub facts_in : Session → List Facts
facts_in s = map facts_of (records_so_far s)

-- ---- what an answer adds

-- one more point
abbrev pub with_point : ℕ → ℕ → Bool → Facts → Facts
with_point a b commit f = record f { made = f.made ++ record { a = a; b = b; commit = commit } ∷ [] }

-- the facts of a transaction behind a call and its answer
abbrev pub facts_after : Wish → Got → Facts → Facts
facts_after (wish.Mem (call.Open tx n)) (given.Engine answer.Done) f = record f { mem = Some n }
facts_after (wish.Store (call.Open tx n)) (given.Engine answer.Done) f = record f { store = Some n }
facts_after (wish.Reg (reg.Select a)) (given.Reg (told.Selected s)) f = cond s.made (with_point a s.b false f) f
facts_after (wish.Reg (reg.DrawMem floor)) (given.Reg (told.Number n)) f = record f { drew_mem = Some n }
facts_after (wish.Reg (reg.DrawStore floor)) (given.Reg (told.Number n)) f = record f { drew_store = Some n }
facts_after (wish.Reg (reg.Check ca cb)) (given.Reg told.Done) f = with_point ca cb true f
facts_after _ _ f = f

-- behind the answer to what is waited for
abbrev pub facts_taken : At → Got → Facts → Facts
facts_taken (at.Asking live doing) got f = facts_after (wished live doing) got f
facts_taken _ got f = f

-- the last one changed so
abbrev pub last_changed : (Facts → Facts) → List Facts → List Facts
last_changed change [] = []
last_changed change (f ∷ []) = change f ∷ []
last_changed change (f ∷ g ∷ gs) = f ∷ last_changed change (g ∷ gs)

-- ---- what the calls of a session make of them

-- an answer of the kind that was asked for changes the last facts alone, by what it says
abbrev pub TakeFacts : List Table → Session → Got → Session → Type 0
TakeFacts catalog old got new = (talks : List Talk) → SessionTalks catalog old talks → AnswerFits old.at got → facts_in new ≡ last_changed (facts_taken old.at got) (facts_in old)

-- the facts of a transaction that has done nothing yet
abbrev pub fresh_facts : Label → TxKind → Facts
fresh_facts label kind = record { label = label; kind = kind; mem = None; store = None; drew_mem = None; drew_store = None; made = [] }

-- a transaction that begins has the next label, and has done nothing
abbrev pub BegunFacts : ℕ → List Record → List Facts → List Facts → Type 0
BegunFacts number records old new = (kind : TxKind) × (new ≡ old ++ fresh_facts (label_at number (length records + 1)) kind ∷ [])

-- a statement keeps the facts, but that a transaction which begins has its own
abbrev pub StartFacts : Session → Session → Type 0
StartFacts old new = cond (has_begun old.at new.at) (BegunFacts old.number old.records (facts_in old) (facts_in new)) (facts_in new ≡ facts_in old)

-- leaving a session keeps them
abbrev pub LeaveFacts : Session → Session → Type 0
LeaveFacts old new = facts_in new ≡ facts_in old

-- ---- what is asked for

-- A call fits the facts of its transaction: a snapshot is selected for the one of the memory engine, where the storage engine is not open;
-- each number is drawn once; a commit point has the numbers that were drawn; and an engine is opened once, the memory engine first.
abbrev pub FitsFacts : Facts → Wish → Type 0
FitsFacts f (wish.Mem (call.Open tx n)) = (f.mem ≡ None) × (f.store ≡ None)
FitsFacts f (wish.Store (call.Open tx n)) = f.store ≡ None
FitsFacts f (wish.Reg (reg.Select a)) = (f.mem ≡ Some a) × (f.store ≡ None)
FitsFacts f (wish.Reg (reg.DrawMem floor)) = (f.drew_mem ≡ None) × (f.drew_store ≡ None)
FitsFacts f (wish.Reg (reg.DrawStore floor)) = f.drew_store ≡ None
FitsFacts f (wish.Reg (reg.Check ca cb)) = (f.drew_mem ≡ Some ca) × (f.drew_store ≡ Some cb)
FitsFacts f _ = Unit {0}

-- the calls are of this transaction
abbrev pub AreBy : Label → Talk → Type 0
AreBy tx talk = AllByRecursion (λ (c : OwnCall). tx_of c.entry.call ≡ Some tx) talk

-- this call is one that a session may ask for, is of the transaction whose facts are the last, and fits them
pub record AsksFor (all : List Facts) (label : Label) (asked : Wish) : Type 0 where
  pub before : List Facts
  pub last : Facts
  pub all_are : all ≡ before ++ last ∷ []
  pub label_is : last.label ≡ label
  pub may : IsAsked asked
  pub by : (got : Got) → AreBy label (own_call asked got)
  pub fits : FitsFacts last asked

abbrev pub AsksAt : List Facts → At → Type 0
AsksAt all (at.Asking live doing) = AsksFor all live.label (wished live doing)
AsksAt all _ = Unit {0}

-- what a session asks for is of its live transaction, and fits its facts
abbrev pub AsksRight : List Table → Session → Type 0
AsksRight catalog s = (talks : List Talk) → SessionTalks catalog s talks → AsksAt (facts_in s) s.at

-- the opening of the memory engine is at its counter, which was asked for right before, and so is that of the storage engine, at its own
-- counter, in a transaction that has not opened the memory engine
abbrev pub OpensCounted : At → Got → EngineName → ℕ → Type 0
OpensCounted old got e n = (live : Live) × (old ≡ at.Asking live job.Count) × (first_engine live.kind ≡ e) × (got ≡ given.Reg (told.Number n))

-- the opening of the storage engine behind that of the memory engine is at the snapshot that was selected right before
abbrev pub OpensSelected : At → Got → ℕ → Type 0
OpensSelected old got n = (live : Live) × (s : Selected) × (old ≡ at.Asking live job.Select) × (got ≡ given.Reg (told.Selected s)) × (n ≡ s.b)

abbrev pub OpensBy : At → Got → Option ℕ → EngineName → ℕ → Type 0
OpensBy old got mem Mem n = OpensCounted old got Mem n
OpensBy old got None Store n = OpensCounted old got Store n
OpensBy old got (Some a) Store n = OpensSelected old got n

abbrev pub OpensAt : At → Got → At → Type 0
OpensAt old got (at.Asking live (job.Open e n)) = OpensBy old got live.mem e n
OpensAt old got _ = Unit {0}

-- an opening is asked for right behind the answer that gave its number
abbrev pub TakeOpens : List Table → Session → Got → Session → Type 0
TakeOpens catalog old got new = (talks : List Talk) → SessionTalks catalog old talks → AnswerFits old.at got → OpensAt old.at got new.at

abbrev pub IsOpening : At → Type 0
IsOpening (at.Asking live (job.Open e n)) = Unit {0}
IsOpening _ = ⊥

-- a statement asks for no opening
abbrev pub StartOpens : List Table → Session → Session → Type 0
StartOpens catalog old new = (talks : List Talk) → SessionTalks catalog old talks → IsOpening new.at → new.at ≡ old.at
