-- The points of the log are those of the run.
use Rattle.std.proofs.Common.{ap, ◌∙◌}
use Rattle.sk_model.specs.declared.engine.EngineName.TheVariants.{Mem}
use Rattle.sk_recorded.specs.Joined.{from_number}
use Rattle.sk_shared.proofs.shared.Shared.points_from.Goals as goal

pub returns : goal.returns
returns c = λ d st. c.points_from.ensures ∙ ap (from_number Mem c.args.point.a) st.logged.all
