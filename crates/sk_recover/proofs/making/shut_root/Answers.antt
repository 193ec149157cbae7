use Rattle.std.proofs.Common.{Bool, subst}
use Rattle.std.proofs.lemmas.Result.{on_ok_weaker}
use Rattle.sk_recover.specs.Making.{AllImages, CanShut}
use Rattle.sk_recover.proofs.Made.{shut_same, shut_now}
use Rattle.sk_recover.proofs.making.shut_root.Goals as goal

pub returns-clause-steps : goal.returns-clause-steps
returns-clause-steps g c = λ catalog start tells.
    shut_same g.D.Device.disk _ _ (subst (λ (n : Bool). AllImages g.D.Device.disk (CanShut n) c.args.disk.now) c.if-not-needed.false (c.requires tells)) c.put.ensures.steps catalog start

pub returns-clause-shut : goal.returns-clause-shut
returns-clause-shut g c = λ tells.
    on_ok_weaker c.put.result (λ gate. shut_now g.D.Device.disk _ _ (subst (λ (n : Bool). AllImages g.D.Device.disk (CanShut n) c.args.disk.now) c.if-not-needed.false (c.requires tells)) c.put.ensures.steps gate) (c.put.ensures.stands tells)
