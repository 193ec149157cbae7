use Rattle.std.proofs.Common.{None, refl, sym, ap, subst, ◌∙◌}
use Rattle.sk_chain.specs.declared.noted.Noted.{Noted}
use Rattle.sk_chain.specs.Noting.{engine_of, noted_stands}
use Rattle.sk_chain.specs.Applying.{Applies, entered_reply}
use Rattle.sk_chain.proofs.Applied.{meets_condition, no_horizon, empty_entered, made_applies, passed_applies, unmade_applies, applied_in_use}
use Rattle.sk_chain.proofs.noted.Noted.apply.Goals as goal

pub make-requires : goal.make-requires
make-requires g c = meets_condition (noted_stands g.G.Engine.stands) c.args.self.now c.args.call c.may.result c.requires c.may.ensures c.if-may.true

pub pass_over-requires : goal.pass_over-requires
pass_over-requires g c = no_horizon (noted_stands g.G.Engine.stands) c.args.self.now c.args.call c.may.result c.requires c.may.ensures c.if-may.false

pub returns-then-may : goal.returns-then-may
returns-then-may g c =
    let applies : Applies g.G.Engine.told (λ (s : Noted g.row.G.Denot). g.G.Engine.faults (engine_of s)) (noted_stands g.G.Engine.stands) c.args.self.now c.make.new.self c.args.call (entered_reply c.make.result)
    = made_applies g.G.Engine.told (λ (s : Noted g.row.G.Denot). g.G.Engine.faults (engine_of s)) (noted_stands g.G.Engine.stands) c.args.self.now c.make.new.self c.args.call (entered_reply c.make.result)
    (λ e js st. sym (c.may.ensures e js st) ∙ c.if-may.true) c.make.ensures.steady c.make.ensures.serves in
    record { in_use = applied_in_use _ _ _ _ _ _ _ c.requires applies; applies = applies }

pub returns-in-Ok : goal.returns-in-Ok
returns-in-Ok g c =
    let new : Noted g.row.G.Denot = record { engine = c.args.self.now.engine; journal = c.pass_over.new.journal; alloc = c.args.self.now.alloc } in
    let applies : Applies g.G.Engine.told (λ (s : Noted g.row.G.Denot). g.G.Engine.faults (engine_of s)) (noted_stands g.G.Engine.stands) c.args.self.now new c.args.call (entered_reply c.in-Ok.reply)
    = subst (Applies g.G.Engine.told (λ (s : Noted g.row.G.Denot). g.G.Engine.faults (engine_of s)) (noted_stands g.G.Engine.stands) c.args.self.now new c.args.call) (sym (ap entered_reply c.in-Ok.ensures.reply ∙ empty_entered c.args.call))
    (passed_applies g.G.Engine.told g.G.Engine.faults g.G.Engine.stands (λ (s : Noted g.row.G.Denot). s.engine) (λ (s : Noted g.row.G.Denot). s.journal) c.args.self.now new c.args.call
    (no_horizon (noted_stands g.G.Engine.stands) c.args.self.now c.args.call c.may.result c.requires c.may.ensures c.if-may.false) refl c.in-Ok.ensures.ok
    (λ e js st. sym (c.may.ensures e js st) ∙ c.if-may.false)) in
    record { in_use = applied_in_use _ _ _ _ _ _ _ c.requires applies; applies = applies }

pub returns-in-Err : goal.returns-in-Err
returns-in-Err g c =
    let new : Noted g.row.G.Denot = record { engine = c.args.self.now.engine; journal = c.pass_over.new.journal; alloc = c.args.self.now.alloc } in
    let applies : Applies g.G.Engine.told (λ (s : Noted g.row.G.Denot). g.G.Engine.faults (engine_of s)) (noted_stands g.G.Engine.stands) c.args.self.now new c.args.call None
    = unmade_applies g.G.Engine.told g.G.Engine.faults g.G.Engine.stands (λ (s : Noted g.row.G.Denot). s.engine) (λ (s : Noted g.row.G.Denot). s.journal) c.args.self.now new c.args.call refl c.in-Err.ensures.err
    (λ e js st. sym (c.may.ensures e js st) ∙ c.if-may.false) in
    record { in_use = applied_in_use _ _ _ _ _ _ _ c.requires applies; applies = applies }
