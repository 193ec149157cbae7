-- The sessions of a run as far as they have come, whether they wait for an answer or not, and what their calls make of them.
use Rattle.std.specs.Prelude.{◌≡◌, ℕ, ◌+◌, ◌≤◌, List, [], ◌∷◌, ◌++◌, Option, Some, None, Bool, true, false, ◌⊎◌, ◌==◌, length, map}
use Rattle.std.specs.List.{flat_map, AllByRecursion}
use Rattle.sk_model.specs.declared.label.Label.{Label}
use Rattle.sk_model.specs.declared.record.TxKind.{TxKind}
use Rattle.sk_model.specs.declared.point.Point.{Point}
use Rattle.sk_model.specs.declared.call.EngineCall.{EngineCall}
use Rattle.sk_model.specs.declared.call.EngineCall.TheVariants as call
use Rattle.sk_model.specs.Talks.{Talk}
use Rattle.sk_weave.specs.declared.answer.Selected.{Selected}
use Rattle.sk_weave.specs.AheadLaws.{Counters}
use Rattle.sk_commit.specs.declared.asking.RegistryCall.TheVariants as reg
use Rattle.sk_commit.specs.declared.asking.RegistryReply.TheVariants as told
use Rattle.sk_commit.specs.declared.asking.Wish.{Wish}
use Rattle.sk_commit.specs.declared.asking.Wish.TheVariants as wish
use Rattle.sk_commit.specs.declared.asking.Got.{Got}
use Rattle.sk_commit.specs.declared.asking.Got.TheVariants as given
use Rattle.sk_commit.specs.Fits.{WishFits, own_call}
use Rattle.sk_session.specs.Common.{Common, Answered}
use Rattle.sk_session.specs.EachTalk.{label_at}
use Rattle.sk_session.specs.Facts.{Facts, facts_after, fresh_facts, AreBy, FitsFacts}
use Rattle.sk_kept.specs.Held.{Trace, Held, MayOpen}
use Rattle.sk_kept.specs.Freshness.{Found, OpensSince}

-- A session: its number, what its records say, the calls of each of its transactions, and the call that it waits for.
pub record Member : Type 0 where
  pub number : ℕ
  pub facts : List Facts
  pub talks : List Talk
  pub asked : Option Wish

abbrev pub traces_of : List Facts → List Talk → List Trace
traces_of [] talks = []
traces_of (f ∷ fs) [] = []
traces_of (f ∷ fs) (t ∷ ts) = record { facts = f; talk = t } ∷ traces_of fs ts

abbrev pub traces_in : Member → List Trace
traces_in m = traces_of m.facts m.talks

abbrev pub all_traces : List Member → List Trace
all_traces ms = flat_map traces_in ms

-- as many talks as records, whose labels count from k on
abbrev pub Numbered : ℕ → ℕ → List Facts → List Talk → Type 0
Numbered number k [] [] = Unit {0}
Numbered number k [] (t ∷ ts) = ⊥
Numbered number k (f ∷ fs) [] = ⊥
Numbered number k (f ∷ fs) (t ∷ ts) = (f.label ≡ label_at number k) × Numbered number (k + 1) fs ts

-- no two are one
abbrev pub Differ : List ℕ → Type 0
Differ [] = Unit {0}
Differ (n ∷ ns) = AllByRecursion (λ m. (n == m) ≡ false) ns × Differ ns

-- what is waited for may be asked of the engines and of the registry as they are, by a session whose last record says this
abbrev pub MayAsk : Common → Facts → Option Wish → Type 0
MayAsk c f None = Unit {0}
MayAsk c f (Some asked) = MayOpen c.regs f asked × FitsFacts f asked

abbrev pub AsksSince : Counters → Option Wish → Type 0
AsksSince seen None = Unit {0}
AsksSince seen (Some asked) = OpensSince seen asked

-- What holds of one session: its labels count, it found what it found when its last transaction began, and it may ask what it asks.
pub record IsMember (c : Common) (all : List Trace) (m : Member) : Type 0 where
  pub numbered : Numbered m.number 1 m.facts m.talks
  pub seen : Counters
  pub found : Found c all seen (traces_in m)
  pub since : AsksSince seen m.asked
  pub may : (front : List Facts) (f : Facts) → m.facts ≡ front ++ f ∷ [] → MayAsk c f m.asked

-- What holds of all sessions at every moment of a run.
pub record IsRunning (first : Point) (points : List Point) (c : Common) (ms : List Member) : Type 0 where
  pub held : Held first points c (all_traces ms)
  pub members : AllByRecursion (IsMember c (all_traces ms)) ms
  pub differ : Differ (map (λ (m : Member). m.number) ms)

-- ---- what a session makes of an answer

-- An opening that is asked for behind this answer: of the memory engine at the counter that was answered; of the storage engine so too, or
-- at the number that was selected for the snapshot of the memory engine.
abbrev pub OpensNext : Wish → Got → Facts → Option Wish → Type 0
OpensNext asked got f None = Unit {0}
OpensNext asked got f (Some (wish.Mem (call.Open tx n))) = (asked ≡ wish.Reg reg.Begin) × (got ≡ given.Reg (told.Number n)) × (f.store ≡ None)
OpensNext asked got f (Some (wish.Store (call.Open tx n))) =
    ((asked ≡ wish.Reg reg.StoreNow) × (got ≡ given.Reg (told.Number n)) × (f.mem ≡ None))
    ⊎ ((a : ℕ) × (s : Selected) × (asked ≡ wish.Reg (reg.Select a)) × (got ≡ given.Reg (told.Selected s)) × (n ≡ s.b) × (f.mem ≡ Some a))
OpensNext asked got f (Some other) = Unit {0}

-- what is asked for next fits the numbers that were drawn
abbrev pub AsksNext : Facts → Option Wish → Type 0
AsksNext f None = Unit {0}
AsksNext f (Some asked) = FitsFacts f asked

-- A session that waited for the answer to this call got it: its last record says what the answer adds, and the call is behind the others of
-- its transaction.
pub record Takes (m : Member) (asked : Wish) (got : Got) (n : Member) : Type 0 where
  pub waits : m.asked ≡ Some asked
  pub fits : WishFits asked got
  pub number : n.number ≡ m.number
  pub front : List Facts
  pub last : Facts
  pub before : List Talk
  pub talk : Talk
  pub facts : m.facts ≡ front ++ last ∷ []
  pub talks : m.talks ≡ before ++ talk ∷ []
  pub facts_then : n.facts ≡ front ++ facts_after asked got last ∷ []
  pub talks_then : n.talks ≡ before ++ (talk ++ own_call asked got) ∷ []
  pub own : AreBy last.label (own_call asked got)
  pub opens : OpensNext asked got (facts_after asked got last) n.asked
  pub asks : AsksNext (facts_after asked got last) n.asked

-- ---- what a session makes of a statement

-- no opening
abbrev pub OpensNothing : Option Wish → Type 0
OpensNothing (Some (wish.Mem (call.Open tx n))) = ⊥
OpensNothing (Some (wish.Store (call.Open tx n))) = ⊥
OpensNothing _ = Unit {0}

-- It asks for a call of its transaction, or for none.
pub record AsksOn (m n : Member) : Type 0 where
  pub number : n.number ≡ m.number
  pub facts : n.facts ≡ m.facts
  pub talks : n.talks ≡ m.talks
  pub opens : OpensNothing n.asked
  pub asks : (front : List Facts) (f : Facts) → n.facts ≡ front ++ f ∷ [] → AsksNext f n.asked

-- A transaction begins, behind the others.
pub record Begins (m n : Member) : Type 0 where
  pub number : n.number ≡ m.number
  pub kind : TxKind
  pub facts : n.facts ≡ m.facts ++ fresh_facts (label_at m.number (length m.facts + 1)) kind ∷ []
  pub talks : n.talks ≡ m.talks ++ [] ∷ []
  pub opens : OpensNothing n.asked
  pub asks : AsksNext (fresh_facts (label_at m.number (length m.facts + 1)) kind) n.asked

-- ---- the laws

-- an answer keeps what holds
abbrev pub TakesKeep : Type 0
TakesKeep = (first : Point) (points : List Point) (c d : Common) (before : List Member) (m n : Member) (after : List Member) (asked : Wish) (got : Got)
    → IsRunning first points c (before ++ m ∷ after) → Takes m asked got n → Answered c asked got d → (more : List Point) × IsRunning first (points ++ more) d (before ++ n ∷ after)

-- and so does a statement
abbrev pub AsksKeep : Type 0
AsksKeep = (first : Point) (points : List Point) (c : Common) (before : List Member) (m n : Member) (after : List Member)
    → IsRunning first points c (before ++ m ∷ after) → AsksOn m n ⊎ Begins m n → IsRunning first points c (before ++ n ∷ after)
