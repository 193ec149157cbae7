-- The entries that calls of an engine leave.
use Rattle.std.specs.Prelude.{◌≡◌, ℕ, List, [], ◌∷◌, ◌++◌, Option, Some, None, Bool, true, false, ◌⊎◌}
use Rattle.std.proofs.Common.{sym, subst, ◌∙◌, inl, inr, ⊎_elim}
use Rattle.std.proofs.lemmas.Bool.{and_from, false≢true}
use Rattle.std.proofs.lemmas.List.{append-nil, append_assoc}
use Rattle.sk_outside.specs.Causes.{Rose}
use Rattle.sk_model.specs.declared.call.EngineCall.{EngineCall}
use Rattle.sk_model.specs.declared.call.EngineReply.{EngineReply}
use Rattle.sk_model.specs.declared.call.EngineReply.TheVariants.{Fault}
use Rattle.sk_model.specs.declared.call.EngineFault.TheVariants as fault
use Rattle.sk_model.specs.declared.call.Entry.{Entry}
use Rattle.sk_model.specs.Engine.{EngineTable}
use Rattle.sk_model.specs.EngineConditions.{may}
use Rattle.sk_model.specs.Legal.{step, due, touches, after_entries, IsReply}
use Rattle.sk_model.specs.Resembling.{Resembles}
use Rattle.sk_chain.specs.Promise.{entry_of, Replies, Leaves}
use Rattle.sk_chain.specs.Runs.{Made, entered_by, entries_by, engine_behind, Makes, AreEntered, CallsAreLegal}

is_reply : (told : Bool) (before now : ℕ) (e : EngineTable) (call : EngineCall) (reply : EngineReply) → told ≡ true → may e call ≡ true → Replies told before now e call reply → IsReply e call reply
is_reply told before now e call reply t m r = ⊎_elim
    (λ (d : (touches call ≡ true) × (reply ≡ Fault fault.Device) × Rose before now). inl (and_from (may e call) (touches call) m d.0, d.1))
    (λ (k : (due e call ≡ reply) ⊎ ((told ≡ false) × Resembles e.catalog call (due e call) reply)). ⊎_elim (λ d. inr d) (λ (n : (told ≡ false) × Resembles e.catalog call (due e call) reply). absurd (false≢true (sym n.0 ∙ t))) k)
    r

module _ {S : Type 0} (told : Bool) (faults : S → ℕ) (stands : S → EngineTable → List Entry → Type 0) (t : told ≡ true) where
  -- one call before those that are known
  one_more : (before : ℕ) (now : S) (e : EngineTable) (js : List Entry) (call : EngineCall) (reply : Option EngineReply) (ms : List (Made S)) → may e call ≡ true
      → Leaves told before (faults now) (stands now) e js call reply
      → ((e2 : EngineTable) (js2 : List Entry) → stands now e2 js2 → Makes told faults stands now e2 ms → AreEntered stands e2 js2 (entries_by ms) (engine_behind now ms))
      → Makes told faults stands now (after_entries e (entered_by call reply)) ms
      → AreEntered stands e js (entered_by call reply ++ entries_by ms) (engine_behind now ms)
  one_more before now e js call None ms m l ih rest = ih e js l rest
  one_more before now e js call (Some reply) ms m l ih rest =
      let later : AreEntered stands (step e (entry_of call reply)) (js ++ entry_of call reply ∷ []) (entries_by ms) (engine_behind now ms) = ih (step e (entry_of call reply)) (js ++ entry_of call reply ∷ []) l.1 rest in
      record {
        legal = (is_reply told before (faults now) e call reply t m l.0, later.legal);
        allowed = (m, later.allowed);
        stood = subst (λ xs. stands (engine_behind now ms) (after_entries e (entry_of call reply ∷ entries_by ms)) xs) (append_assoc js (entry_of call reply ∷ []) (entries_by ms)) later.stood;
      }

  entered : (s : S) (e : EngineTable) (js : List Entry) (ms : List (Made S)) → stands s e js → Makes told faults stands s e ms → AreEntered stands e js (entries_by ms) (engine_behind s ms)
  entered s e js [] st mk = record { legal = tt; allowed = tt; stood = subst (λ xs. stands s e xs) (sym (append-nil js)) st }
  entered s e js (m ∷ ms) st mk = one_more (faults s) m.behind e js m.call m.reply ms mk.0 (mk.1.holds e js st mk.0) (λ e2 js2 st2 mk2. entered m.behind e2 js2 ms st2 mk2) mk.2

pub calls_are_legal : {S : Type 0} (told : Bool) (faults : S → ℕ) (stands : S → EngineTable → List Entry → Type 0) → CallsAreLegal told faults stands
calls_are_legal told faults stands t s e js ms st mk = entered told faults stands t s e js ms st mk
