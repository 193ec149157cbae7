-- The points rise, so those behind the last one that is below the number are those from it on.
use Rattle.std.proofs.Common.{◌≡◌, sym, ap, subst, ◌∙◌}
use Rattle.sk_model.specs.declared.engine.EngineName.TheVariants.{Mem}
use Rattle.sk_weave.specs.Points.{Staircase}
use Rattle.sk_recorded.specs.Joined.{from_number}
use Rattle.sk_shared.specs.Logged.{Logged}
use Rattle.sk_shared.proofs.Numbered.{from_behind}
use Rattle.sk_shared.proofs.point_log.PointLog.points_from.Goals as goal

pub returns-then-last-a : goal.returns-then-last-a
returns-then-last-a c =
    let all : c.as_slice-all.result.now ≡ c.args.self.now.all = c.as_slice-all.ensures.value ∙ ap (λ (x : Logged). x.all) c.self.view_is in
    let stairs : Staircase c.as_slice-all.result.now = subst Staircase (sym (c.as_slice-all.ensures.value ∙ c.self.invariant.1.all)) c.self.invariant.1.stands.sound.stairs in
    from_behind c.args.a c.as_slice-all.result.now c.loop-front.front.now c.loop-front.invariant.0 _ stairs c.loop-front.invariant.1 c.in-len1-up.len_at_least c.if-last-a.true c.loop-front.invariant.2
    ∙ ap (from_number Mem c.args.a) all
