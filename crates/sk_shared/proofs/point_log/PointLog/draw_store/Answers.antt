use Rattle.std.proofs.Common.{Err, refl, ap, subst, ◌∙◌}
use Rattle.sk_weave.specs.declared.answer.DrawFault.TheVariants.{Spent}
use Rattle.sk_commit.specs.declared.asking.RegistryCall.TheVariants as call
use Rattle.sk_commit.specs.declared.asking.RegistryReply.TheVariants as told
use Rattle.sk_shared.specs.Logged.{Logged, Told}
use Rattle.sk_shared.proofs.Logging.{log, store_draws, store_undrawn, store_fits}
use Rattle.sk_shared.proofs.point_log.PointLog.draw_store.Goals as goal

pub returns-in-Ok : goal.returns-in-Ok
returns-in-Ok c =
    subst (λ (old : Logged). Told old (call.DrawStore c.args.floor) (told.Number c.in-Ok.n) (log c.draw_store.new.self c.self.inside.all.items)) c.self.view_is record {
      fits = store_fits c.self.inside.points c.draw_store.new.self c.self.inside.all.items c.args.floor c.draw_store.result c.in-Ok.n c.self.invariant c.draw_store.ensures c.in-Ok.is;
      not_early = refl;
      registered = store_draws c.self.inside.points c.draw_store.new.self c.self.inside.all.items c.args.floor c.draw_store.result c.in-Ok.n c.draw_store.ensures c.in-Ok.is;
    }

pub returns-in-Err-Spent : goal.returns-in-Err-Spent
returns-in-Err-Spent c =
    subst (λ (old : Logged). Told old (call.DrawStore c.args.floor) (told.NotDrawn Spent) (log c.draw_store.new.self c.self.inside.all.items)) c.self.view_is record {
      fits = tt;
      not_early = refl;
      registered = store_undrawn c.self.inside.points c.draw_store.new.self c.self.inside.all.items c.args.floor c.draw_store.result Spent c.draw_store.ensures (c.in-Err-Spent.is ∙ ap Err c.in-Err-Spent.field-0-is);
    }
