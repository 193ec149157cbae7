-- Worked examples of lines that are held against the table of refusals.
use Rattle.std.specs.Prelude.{ℕ, List, [], ◌∷◌, Option, Some, None}
use Rattle.std.proofs.Common.{refl, ⊎_elim}
use Rattle.sk_rows.specs.declared.expr.Expr.{Expr}
use Rattle.sk_rows.specs.declared.table.Table.{Table}
use Rattle.sk_rows.specs.declared.statement.Begun.TheVariants as begun
use Rattle.sk_rows.specs.declared.statement.Statement.TheVariants as statement
use Rattle.sk_model.specs.declared.label.Label.{Label}
use Rattle.sk_model.specs.declared.record.TxKind.{TxKind}
use Rattle.sk_model.specs.declared.reply.ErrWord.TheVariants as err
use Rattle.sk_model.specs.declared.reply.Reply.TheVariants as reply
use Rattle.sk_model.specs.declared.step.StepName.TheVariants.{CloseMem}
use Rattle.sk_session.specs.Heard.{Refuses, RefusesAll}
use Rattle.sk_session.specs.Heard as stand
use Rattle.sk_session.proofs.Obeyed.{refused_obeys, free_obeys, left_obeys}

-- STEP before BEGIN; BEGIN, BEGIN again, a step, ROLLBACK behind it, and the last step
by_steps : (catalog : List Table) (label : Label)
    → RefusesAll catalog stand.Outside (
    (None, reply.Refused err.NoTransaction) ∷ (Some (statement.Begin begun.Mem), reply.Began label) ∷ (Some (statement.Begin begun.Mem), reply.Refused err.InTransaction) ∷ (None, reply.Step CloseMem None)
    ∷ (Some statement.Rollback, reply.Refused err.Committing) ∷ (None, reply.Committed) ∷ []
    ) stand.Outside
by_steps catalog label =
    (refused_obeys catalog _ _ err.NoTransaction refl, (free_obeys catalog _ _ (reply.Began label) refl tt refl, (refused_obeys catalog _ _ err.InTransaction refl, (free_obeys catalog _ _ (reply.Step CloseMem None) refl tt refl, (refused_obeys catalog _ _ err.Committing refl, (free_obeys catalog _ _ reply.Committed refl tt refl, refl))))))

-- BEGIN that was refused for memory; until COMMIT every line is refused, whatever it names
behind_loss : (catalog : List Table) (name : List ℕ) (e : Option Expr)
    → RefusesAll catalog stand.Outside ((Some (statement.Begin begun.Cross), reply.Refused err.Memory) ∷ (Some (statement.Delete name e), reply.Refused err.Ended) ∷ (Some statement.Commit, reply.RolledBack) ∷ []) stand.Outside
behind_loss catalog name e = (free_obeys catalog _ _ (reply.Refused err.Memory) refl tt refl, (refused_obeys catalog _ _ err.Ended refl, (left_obeys catalog _ _ refl, refl)))

-- ROLLBACK between two steps is not answered that this one was rolled back
not_rolled_back : (catalog : List Table) → Refuses catalog stand.Stepping (Some statement.Rollback, reply.RolledBack) → ⊥
not_rolled_back catalog h = ⊎_elim (λ is. absurd (cc is)) (λ is. absurd (cc is.1)) (h.refused err.Committing refl)

-- and no COMMIT inside of a transaction is refused for where it stands
not_refused : (catalog : List Table) (kind : TxKind) → Refuses catalog (stand.Inside kind) (Some statement.Commit, reply.Refused err.InTransaction) → ⊥
not_refused catalog kind h = absurd (cc (h.caused err.InTransaction refl refl))
