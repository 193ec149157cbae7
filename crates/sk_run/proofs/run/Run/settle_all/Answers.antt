-- Each session that ends adds no statement.
use Rattle.std.proofs.Common.{refl, ◌∙◌}
use Rattle.sk_run.proofs.Stands.{mem_stands, store_stands}
use Rattle.sk_run.proofs.Over.{stay_none, stay_on}
use Rattle.sk_run.proofs.Settling.{settles_none, settles_both}
use Rattle.sk_run.proofs.run.Run.settle_all.Goals as goal

pub loop-before-init : goal.loop-before-init
loop-before-init c = record { kept = settles_none mem_stands store_stands c.args.self; over = stay_none c.args.self; tables = refl; sessions = refl }

pub loop-before-preserved : goal.loop-before-preserved
loop-before-preserved c = record {
  kept = settles_both mem_stands store_stands c.args.self c.loop-before.run c.in_ok-run.run' c.loop-before.invariant.kept c.in_ok-run.ensures.kept;
  over = stay_on c.args.self c.loop-before.run c.in_ok-run.run' c.loop-before.invariant.over c.in_ok-run.ensures.over;
  tables = c.in_ok-run.ensures.tables ∙ c.loop-before.invariant.tables;
  sessions = c.in_ok-run.ensures.sessions ∙ c.loop-before.invariant.sessions;
}
