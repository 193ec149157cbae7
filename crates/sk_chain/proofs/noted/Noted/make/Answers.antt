use Rattle.std.proofs.Common.{Some, sym, subst}
use Rattle.sk_model.specs.declared.call.EngineReply.TheVariants.{Number}
use Rattle.sk_chain.specs.declared.noted.Noted.{Noted}
use Rattle.sk_chain.specs.Promise.{Serves}
use Rattle.sk_chain.specs.Noting.{engine_of, noted_stands}
use Rattle.sk_chain.proofs.noted.Noted.make.Goals as goal

pub returns-in-Horizon-clause-serves : goal.returns-in-Horizon-clause-serves
returns-in-Horizon-clause-serves g c =
    subst (λ q. Serves g.G.Engine.told (λ (s : Noted g.row.G.Denot). g.G.Engine.faults (engine_of s)) (noted_stands g.G.Engine.stands) c.args.self.now c.horizon.new.self q (Some (Number c.horizon.result))) (sym c.in-Horizon.is) c.horizon.ensures
