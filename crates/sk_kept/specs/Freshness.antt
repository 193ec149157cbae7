-- What each session found when its last transaction began, and the law that no session goes back.
use Rattle.std.specs.Prelude.{◌≡◌, ℕ, ◌<◌, ◌≤◌, List, [], ◌∷◌, ◌++◌, Option, Some, None, IfSome}
use Rattle.std.specs.List.{AllByRecursion}
use Rattle.sk_model.specs.declared.call.EngineCall.TheVariants as call
use Rattle.sk_model.specs.Records.{IsLater, Fresh}
use Rattle.sk_weave.specs.AheadLaws.{Counters, AreAhead}
use Rattle.sk_linked.specs.Kept.{Session, Play, records_in}
use Rattle.sk_commit.specs.declared.asking.Wish.{Wish}
use Rattle.sk_commit.specs.declared.asking.Wish.TheVariants as wish
use Rattle.sk_commit.specs.declared.asking.RegistryCall.TheVariants as reg
use Rattle.sk_session.specs.Common.{Common}
use Rattle.sk_session.specs.Facts.{Facts}
use Rattle.sk_kept.specs.Held.{Trace, Within, Held}
use Rattle.sk_kept.specs.Playing.{traces_of_session, traces_of_play, Plays}

-- the later one reads what the earlier one read and what it drew
abbrev pub Later : Facts → Facts → Type 0
Later f g = IsLater f.mem f.drew_mem g.mem × IsLater f.store f.drew_store g.store

-- each reads what those before it read and drew
abbrev pub InOrder : List Trace → Type 0
InOrder [] = Unit {0}
InOrder (t ∷ ts) = AllByRecursion (λ (u : Trace). Later t.facts u.facts) ts × InOrder ts

-- none of its snapshots is before these counters
pub record Since (seen : Counters) (f : Facts) : Type 0 where
  pub mem : IfSome f.mem (λ a. seen.mem ≤ a)
  pub store : IfSome f.store (λ b. seen.store ≤ b)

-- who drew a number of the memory engine past these counters drew past them in the storage engine
abbrev pub Crosses : Counters → Facts → Type 0
Crosses seen f = (ca cb : ℕ) → f.drew_mem ≡ Some ca → f.drew_store ≡ Some cb → seen.mem < ca → seen.store < cb

-- Both counters at some moment, as they bear on all that came then.
pub record Glimpse (c : Common) (all : List Trace) (seen : Counters) : Type 0 where
  pub mem : seen.mem ≤ c.regs.mem
  pub store : seen.store ≤ c.regs.store
  pub ahead : AreAhead seen c.regs.points
  pub crosses : AllByRecursion (λ (t : Trace). Crosses seen t.facts) all

-- the last one, if there is one
abbrev pub listed : Option Trace → List Trace
listed None = []
listed (Some t) = t ∷ []

-- What a session with these transactions found as the last one began: none before it has a number past that, and it opened none before that.
pub record Found (c : Common) (all : List Trace) (seen : Counters) (ts : List Trace) : Type 0 where
  pub glimpse : Glimpse c all seen
  pub front : List Trace
  pub last : Option Trace
  pub are : ts ≡ front ++ listed last
  pub first : last ≡ None → front ≡ []
  pub ordered : InOrder front
  pub within : AllByRecursion (λ (t : Trace). Within seen t.facts) front
  pub since : AllByRecursion (λ (t : Trace). Since seen t.facts) (listed last)

-- an opening is not before these counters
abbrev pub OpensSince : Counters → Wish → Type 0
OpensSince seen (wish.Mem (call.Open tx n)) = seen.mem ≤ n
OpensSince seen (wish.Store (call.Open tx n)) = seen.store ≤ n
OpensSince seen _ = Unit {0}

-- Where each session has found so, no session goes back.
abbrev pub FoundIsFresh : Type 0
FoundIsFresh = (p : Play) (c : Common) → Plays p c → AllByRecursion (λ (s : Session). (seen : Counters) × Found c (traces_of_play p) seen (traces_of_session s)) p.sessions → Fresh (records_in p)
