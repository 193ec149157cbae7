-- Worked examples of what lines add, and of where they lead.
use Rattle.std.specs.Prelude.{[], ◌∷◌, Some, None}
use Rattle.std.proofs.Common.{refl, inl, inr}
use Rattle.sk_rows.specs.declared.statement.Begun.TheVariants as begun
use Rattle.sk_rows.specs.declared.statement.Statement.{Statement}
use Rattle.sk_rows.specs.declared.statement.Statement.TheVariants as statement
use Rattle.sk_model.specs.declared.label.Label.{Label}
use Rattle.sk_model.specs.declared.record.Said.{Said}
use Rattle.sk_model.specs.declared.reply.Reply.{Reply}
use Rattle.sk_model.specs.declared.reply.Reply.TheVariants as reply
use Rattle.sk_model.specs.declared.reply.ErrWord.TheVariants as err
use Rattle.sk_model.specs.declared.step.StepName.TheVariants.{CloseMem}
use Rattle.sk_model.specs.Spoken.{Outside}
use Rattle.sk_session.specs.Printed.{Prints}

abbrev said : Statement → Reply → Said
said s r = record { statement = s; reply = r }

-- STEP before BEGIN; BEGIN, a step, BEGIN again, and a COMMIT that was refused for memory, behind which no transaction stands
refused_commit : (label : Label)
    → Prints Outside ((None, reply.Refused err.NoTransaction) ∷ (Some (statement.Begin begun.Mem), reply.Began label) ∷ (None, reply.Step CloseMem None) ∷ (Some (statement.Begin begun.Mem), reply.Refused err.Committing) ∷ (Some statement.Commit, reply.Refused err.Memory) ∷ [])
    (said (statement.Begin begun.Mem) (reply.Began label) ∷ said statement.Commit (reply.Refused err.Memory) ∷ []) Outside
refused_commit label = ([], _, refl, refl, (_ ∷ [], _, refl, inl refl, ([], _, refl, refl, ([], _, refl, refl, (_ ∷ [], [], refl, inl refl, (refl, refl))))))

-- BEGIN that was refused for memory before it had a label adds nothing, and the session stands behind a transaction that was lost until ROLLBACK
refused_begin : Prints Outside ((Some (statement.Begin begun.Mem), reply.Refused err.Memory) ∷ (Some statement.Commit, reply.RolledBack) ∷ []) [] Outside
refused_begin = ([], [], refl, inr (refl, refl), ([], [], refl, refl, (refl, refl)))
