-- An engine that stands for some table, before a call and behind it.
use Rattle.std.specs.Prelude.{◌≡◌, ℕ, ◌++◌, ◌∷◌, [], List, Option, Some, None, Bool, true}
use Rattle.std.proofs.Common.{sym, ◌∙◌}
use Rattle.sk_model.specs.declared.call.EngineCall.{EngineCall}
use Rattle.sk_model.specs.declared.call.EngineReply.{EngineReply}
use Rattle.sk_model.specs.declared.call.Entry.{Entry}
use Rattle.sk_model.specs.Engine.{EngineTable}
use Rattle.sk_model.specs.EngineConditions.{may}
use Rattle.sk_model.specs.Legal.{step}
use Rattle.sk_chain.specs.Promise.{Meets, Serves, entry_of}
use Rattle.sk_store.specs.Begun.{IsInUse}

-- what was asked by `may` meets the condition of the call
pub meets : {S : Type 0} (stands : S → EngineTable → List Entry → Type 0) (s : S) (call : EngineCall) (b : Bool) → IsInUse stands s
    → ((e : EngineTable) (js : List Entry) → stands s e js → b ≡ may e call) → b ≡ true → Meets stands s call
meets stands s call b u is holds = (u.0, u.1, u.2, sym (is u.0 u.1 u.2) ∙ holds)

pub used : {S : Type 0} (told : Bool) (faults : S → ℕ) (stands : S → EngineTable → List Entry → Type 0) (old new : S) (call : EngineCall) (reply : Option EngineReply)
    → Meets stands old call → Serves told faults stands old new call reply → IsInUse stands new
used told faults stands old new call None m s = (m.0, m.1, s.holds m.0 m.1 m.2 m.3)
used told faults stands old new call (Some reply) m s = (step m.0 (entry_of call reply), m.1 ++ entry_of call reply ∷ [], (s.holds m.0 m.1 m.2 m.3).1)
