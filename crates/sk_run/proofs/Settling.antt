-- Sessions that end add no statements.
use Rattle.std.specs.Prelude.{◌≡◌, ℕ, List, [], ◌∷◌, ◌++◌, None, Result, Ok, Err, IfOk}
use Rattle.std.proofs.Common.{refl, sym, subst}
use Rattle.std.proofs.lemmas.List.{append-nil, append_assoc}
use Rattle.sk_model.specs.declared.reply.Reply.{Reply}
use Rattle.sk_model.specs.declared.call.Entry.{Entry}
use Rattle.sk_model.specs.Engine.{EngineTable}
use Rattle.sk_model.proofs.Lists.{each_append}
use Rattle.sk_mem.specs.declared.engine.MemEngine.{MemEngine}
use Rattle.sk_store.specs.declared.engine.StoreEngine.{StoreEngine}
use Rattle.sk_run.specs.Told.{RunLine}
use Rattle.sk_run.specs.State.{RunState}
use Rattle.sk_run.specs.Kept.{HasKept, KeepsOn}
use Rattle.sk_run.specs.Ended.{AreSteps, HasEnded, Settles, HandsOut, Ends}
use Rattle.sk_run.specs.declared.ended.Ended.{Ended}
use Rattle.sk_run.proofs.Lines.{line_by}

module _ (mem : MemEngine → EngineTable → List Entry → Type 0) (store : StoreEngine → EngineTable → List Entry → Type 0) where
  -- nothing was told yet
  pub settles_none : (x : RunState) → Settles mem store x x
  settles_none x b lines fs k = ([], tt, subst (λ ls. HasKept mem store b ls fs x) (sym (append-nil lines)) k)

  -- one line more that is no statement
  pub settles_on : (old now new : RunState) (number : ℕ) (reply : Reply) → Settles mem store old now → KeepsOn mem store now number None new reply → Settles mem store old new
  settles_on old now new number reply s k b lines fs kept =
      let t : (steps : List RunLine) × AreSteps steps × HasKept mem store b (lines ++ steps) fs now = s b lines fs kept in (
        t.0 ++ line_by number (None, reply) ∷ [],
        each_append (λ (l : RunLine). l.line.0 ≡ None) t.0 (line_by number (None, reply) ∷ []) t.1 (refl, tt),
        subst (λ ls. HasKept mem store b ls fs new) (append_assoc lines t.0 (line_by number (None, reply) ∷ [])) (k b (lines ++ t.0) fs t.2),
      )

  -- and more of them
  pub settles_both : (old now new : RunState) → Settles mem store old now → Settles mem store now new → Settles mem store old new
  settles_both old now new s u b lines fs kept =
      let t : (steps : List RunLine) × AreSteps steps × HasKept mem store b (lines ++ steps) fs now = s b lines fs kept in
      let v : (steps : List RunLine) × AreSteps steps × HasKept mem store b ((lines ++ t.0) ++ steps) fs new = u b (lines ++ t.0) fs t.2 in (
        t.0 ++ v.0,
        each_append (λ (l : RunLine). l.line.0 ≡ None) t.0 v.0 t.1 v.1,
        subst (λ ls. HasKept mem store b ls fs new) (append_assoc lines t.0 v.0) v.2,
      )

  -- so where the sessions have ended and what is left is handed out, the run has ended
  pub finishes : {E : Type 0} (old now : RunState) (result : Result Ended E) → Settles mem store old now → now.catalog ≡ old.catalog → IfOk result (HandsOut mem store now) → IfOk result (Ends mem store old)
  finishes old now (Ok x) s same h = λ b lines fs k. let t : (steps : List RunLine) × AreSteps steps × HasKept mem store b (lines ++ steps) fs now = s b lines fs k in subst (λ c. HasEnded c b lines fs x) same (h b lines t.0 fs t.1 t.2)
  finishes old now (Err e) s same h = tt
