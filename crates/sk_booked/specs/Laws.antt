-- Laws of books.
use Rattle.std.specs.Prelude.{◌≡◌, ℕ, List, [], Bool, true}
use mathlib.Core.Option.{some}
use lib.ListN.{get_elem?}
use Rattle.sk_model.specs.declared.call.EngineCall.{EngineCall}
use Rattle.sk_model.specs.declared.call.EngineReply.{EngineReply}
use Rattle.sk_model.specs.declared.call.Entry.{Entry as Called}
use Rattle.sk_model.specs.Engine.{EngineTable}
use Rattle.sk_model.specs.Legal.{Legal}
use Rattle.sk_chain.specs.declared.noted.Noted.{Noted}
use Rattle.sk_chain.specs.Noting.{journal_of, noted_stands}
use Rattle.sk_chain.specs.Applying.{IsInUse}
use Rattle.sk_booked.specs.declared.view.Entry.{Entry}
use Rattle.sk_booked.specs.declared.view.Own.{Own}
use Rattle.sk_booked.specs.Paths.{Each, items_of}
use Rattle.sk_booked.specs.Answers.{IsOfOne, IsIn, Whole}
use Rattle.sk_booked.specs.Engines.{pairs_of, MadeWith, Descends}

-- The engine's journal is made of the passes' entries, each of just one of them, and it is legal from the table with which the engine began.
pub record CameThrough {G : Type 0} (first : EngineTable) (os : List (Own (EngineCall × EngineReply))) (value : Noted G) : Type 0 where
  pub log : List (Entry (EngineCall × EngineReply))
  pub journal_is : pairs_of value ≡ items_of log
  pub each : (i : ℕ) (o : Own (EngineCall × EngineReply)) → get_elem? os i ≡ some o → IsIn log o
  pub by_one : Each (λ (e : Entry (EngineCall × EngineReply)). IsOfOne e.by os) log
  pub legal : Legal first (journal_of value)

-- an engine without an entry, as it stands for its table, was made with it
abbrev pub NewIsMadeWith : {G : Type 0} → Bool → (G → EngineTable → List Called → Type 0) → Type 0
NewIsMadeWith {G} told stands = (x : Noted G) (first : EngineTable) → noted_stands stands x first [] → journal_of x ≡ [] → MadeWith told stands x first

-- of an engine that is told what its device reads, and that began without an entry, the journal that came through the passes is legal
abbrev pub ClosedIsLegal : {G : Type 0} → Bool → (G → ℕ) → (G → EngineTable → List Called → Type 0) → Type 0
ClosedIsLegal {G} told faults stands = told ≡ true → (start value : Noted G) (first : EngineTable) (os : List (Own (EngineCall × EngineReply)))
    → noted_stands stands start first [] → journal_of start ≡ []
    → Whole pairs_of (IsInUse (noted_stands stands)) (Descends told faults stands) start os value → CameThrough first os value
