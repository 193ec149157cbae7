-- The journal of an engine to which calls are applied.
use Rattle.std.specs.Prelude.{◌≡◌, ℕ, List, [], Bool}
use Rattle.std.proofs.Common.{sym, subst}
use Rattle.sk_model.specs.declared.call.Entry.{Entry}
use Rattle.sk_model.specs.Engine.{EngineTable}
use Rattle.sk_model.specs.Legal.{Legal}
use Rattle.sk_chain.specs.declared.noted.Noted.{Noted}
use Rattle.sk_chain.specs.Runs.{entries_by, engine_behind}
use Rattle.sk_chain.specs.Noting.{engine_of, journal_of, noted_stands}
use Rattle.sk_chain.specs.Applying.{IsLegalFrom, AppliedIsLegal}
use Rattle.sk_chain.proofs.Applied.{all_stay_legal}

pub applied_is_legal : {G : Type 0} (told : Bool) (faults : G → ℕ) (stands : G → EngineTable → List Entry → Type 0) → AppliedIsLegal told faults stands
applied_is_legal {G} told faults stands t s e ms notes all few =
    let kept : IsLegalFrom (noted_stands stands) e (entries_by ms) (engine_behind s ms)
    = all_stay_legal told (λ (x : Noted G). faults (engine_of x)) (noted_stands stands) t e s [] ms (record { legal = tt; stood = notes }) all in
    let is : journal_of (engine_behind s ms) ≡ entries_by ms = kept.stood.entries few in
    record { is = is; legal = subst (Legal e) (sym is) kept.legal }
