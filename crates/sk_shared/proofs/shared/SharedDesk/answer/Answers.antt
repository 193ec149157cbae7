use Rattle.std.proofs.Common.{refl, sym, subst}
use Rattle.sk_commit.specs.declared.asking.Wish.{Wish}
use Rattle.sk_commit.specs.declared.asking.Got.TheVariants as given
use Rattle.sk_shared.specs.Shared.{Answers}
use Rattle.sk_shared.proofs.Answering.{reg_answered}
use Rattle.sk_shared.proofs.shared.SharedDesk.answer.Goals as goal

pub returns-in_ok-answer-in-Reg-clause-answered : goal.returns-in_ok-answer-in-Reg-clause-answered
returns-in_ok-answer-in-Reg-clause-answered c =
    subst (λ (w : Wish). Answers _ _ c.args.self.now w (given.Reg c.in_ok-answer-in-Reg.field-0) (record { engines = c.args.self.now.engines; log = c.answer.new.self })) (sym c.in-Reg.is)
    (reg_answered _ _ c.args.self.now (record { engines = c.args.self.now.engines; log = c.answer.new.self }) c.in-Reg.call c.in_ok-answer-in-Reg.field-0 c.in_ok-answer-in-Reg.ensures.registered refl)
