-- A check that passes has its commit point behind the others.
use Rattle.std.proofs.Common.{◌≤◌, ◌≡◌, [], ◌∷◌, ◌++◌, List, refl, sym, ap, subst, ◌∙◌, arith}
use Rattle.sk_model.specs.declared.point.Point.{Point}
use Rattle.sk_weave.specs.Points.{commit_point}
use Rattle.sk_commit.specs.declared.asking.RegistryCall.TheVariants as call
use Rattle.sk_commit.specs.declared.asking.RegistryReply.TheVariants as told
use Rattle.sk_shared.specs.Logged.{Logged, Told}
use Rattle.sk_shared.proofs.Logging.{log, checks, refuses}
use Rattle.sk_shared.proofs.point_log.PointLog.check.Goals as goal

pub returns-in-Ok : goal.returns-in-Ok
returns-in-Ok c =
    let first : c.args.ca ≤ c.begin.result = omega (arith, c.if-ca-begin.false) in
    let second : c.args.cb ≤ c.store_now.result = omega (arith, c.if-cb-store_now.false) in
    let more : c.push_reserved.new.self.items ≡ c.self.inside.all.items ++ commit_point c.args.ca c.args.cb ∷ []
    = c.push_reserved.ensures.items ∙ ap (λ (xs : List Point). xs ++ commit_point c.args.ca c.args.cb ∷ []) c.reserve.ensures.items in
    subst (λ (old : Logged). Told old (call.Check c.args.ca c.args.cb) told.Done (log c.check.new.self c.push_reserved.new.self.items)) c.self.view_is record {
      fits = tt;
      not_early = refl;
      registered = checks c.self.inside.points c.begin.new.self c.store_now.new.self c.check.new.self c.self.inside.all.items c.push_reserved.new.self.items c.args.ca c.args.cb c.begin.result c.store_now.result c.check.result c.in-Ok.field-0
          c.begin.ensures first c.store_now.ensures second c.check.ensures c.in-Ok.is more;
    }

pub returns-in-Err : goal.returns-in-Err
returns-in-Err c =
    subst (λ (xs : List Point). Told c.args.self.now (call.Check c.args.ca c.args.cb) (told.Passed c.in-Err.passed) (log c.check.new.self xs)) (sym c.reserve.ensures.items)
    (subst (λ (old : Logged). Told old (call.Check c.args.ca c.args.cb) (told.Passed c.in-Err.passed) (log c.check.new.self c.self.inside.all.items)) c.self.view_is record {
      fits = tt;
      not_early = refl;
      registered = refuses c.self.inside.points c.begin.new.self c.store_now.new.self c.check.new.self c.self.inside.all.items c.args.ca c.args.cb _ _ c.check.result c.in-Err.passed c.begin.ensures c.store_now.ensures c.check.ensures c.in-Err.is;
    })
