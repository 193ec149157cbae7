-- The journal of an engine is the entries of its calls.
use Rattle.std.specs.Prelude.{◌≡◌, ℕ, List, [], Bool}
use Rattle.std.proofs.Common.{sym, subst}
use Rattle.sk_model.specs.declared.call.Entry.{Entry}
use Rattle.sk_model.specs.Engine.{EngineTable}
use Rattle.sk_model.specs.Legal.{Legal, Allowed}
use Rattle.sk_chain.specs.declared.noted.Noted.{Noted}
use Rattle.sk_chain.specs.Runs.{AreEntered, entries_by, engine_behind}
use Rattle.sk_chain.specs.Noting.{engine_of, journal_of, noted_stands, JournalIsLegal}
use Rattle.sk_chain.proofs.Legality.{calls_are_legal}

pub journal_is_legal : {G : Type 0} (told : Bool) (faults : G → ℕ) (stands : G → EngineTable → List Entry → Type 0) → JournalIsLegal told faults stands
journal_is_legal {G} told faults stands t s e ms notes makes few =
    let all : AreEntered (noted_stands stands) e [] (entries_by ms) (engine_behind s ms)
    = calls_are_legal told (λ (x : Noted G). faults (engine_of x)) (noted_stands stands) t s e [] ms notes makes in
    let is : journal_of (engine_behind s ms) ≡ entries_by ms = all.stood.entries few in
    record { is = is; legal = subst (Legal e) (sym is) all.legal; allowed = subst (Allowed e) (sym is) all.allowed }
