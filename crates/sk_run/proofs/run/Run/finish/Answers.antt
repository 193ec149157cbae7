-- All sessions have ended, and what is left is handed out.
use Rattle.sk_run.proofs.Stands.{mem_stands, store_stands}
use Rattle.std.proofs.lemmas.Result.{IfOk-weaker}
use Rattle.sk_run.proofs.Settling.{finishes}
use Rattle.sk_run.proofs.run.Run.finish.Goals as goal

pub returns-in-Ok-clause-ends : goal.returns-in-Ok-clause-ends
returns-in-Ok-clause-ends c = finishes mem_stands store_stands c.args.self c.in-Ok.run' c.hand_out.result c.in-Ok.ensures.kept c.in-Ok.ensures.tables c.hand_out.ensures.hands_out

pub returns-in-Ok-clause-over : goal.returns-in-Ok-clause-over
returns-in-Ok-clause-over c = IfOk-weaker c.hand_out.result _ _ (λ x has r o. has r (c.in-Ok.ensures.over r o)) c.hand_out.ensures.over
