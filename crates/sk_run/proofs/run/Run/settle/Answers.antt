-- Each call is one line more that is no statement.
use Rattle.std.specs.Prelude.{◌≡◌, true}
use Rattle.std.proofs.Common.{refl, ◌∙◌, ⊎_elim}
use Rattle.sk_run.specs.Over.{RestsAt, is_committing}
use Rattle.sk_run.proofs.Stands.{mem_stands, store_stands}
use Rattle.sk_run.proofs.Over.{stay_none, stay_on}
use Rattle.sk_run.proofs.Spoken.{one_none, one_on, others_none, others_on}
use Rattle.sk_run.proofs.Settling.{settles_none, settles_on}
use Rattle.sk_run.proofs.run.Run.settle.Goals as goal

pub loop-init : goal.loop-init
loop-init c = record { kept = settles_none mem_stands store_stands c.args.self; over = stay_none c.args.self; one = one_none c.args.self c.args.session; others = others_none c.args.self c.args.session; tables = refl; sessions = refl }

pub returns-then-not-is_committing-clause-kept : goal.returns-then-not-is_committing-clause-kept
returns-then-not-is_committing-clause-kept c = settles_on mem_stands store_stands c.args.self c.loop.run c.in_ok-left.left c.args.session c.in_ok-left.reply c.loop.invariant.kept c.in_ok-left.ensures.kept

pub loop-preserved : goal.loop-preserved
loop-preserved c = record {
  kept = settles_on mem_stands store_stands c.args.self c.in_ok-left.left c.in_ok-stepped.stepped c.args.session c.in_ok-stepped.field-0-1
      (settles_on mem_stands store_stands c.args.self c.loop.run c.in_ok-left.left c.args.session c.in_ok-left.reply c.loop.invariant.kept c.in_ok-left.ensures.kept) c.in_ok-stepped.ensures.kept;
  over = stay_on c.args.self c.in_ok-left.left c.in_ok-stepped.stepped (stay_on c.args.self c.loop.run c.in_ok-left.left c.loop.invariant.over c.in_ok-left.ensures.over) c.in_ok-stepped.ensures.over;
  one = one_on c.args.self c.in_ok-left.left c.in_ok-stepped.stepped c.args.session
      (one_on c.args.self c.loop.run c.in_ok-left.left c.args.session c.loop.invariant.one c.in_ok-left.ensures.one c.in_ok-left.ensures.rests) c.in_ok-stepped.ensures.one (c.in_ok-stepped.ensures.rests refl);
  others = others_on c.args.self c.in_ok-left.left c.in_ok-stepped.stepped c.args.session
      (others_on c.args.self c.loop.run c.in_ok-left.left c.args.session c.loop.invariant.others c.in_ok-left.ensures.others) c.in_ok-stepped.ensures.others;
  tables = c.in_ok-stepped.ensures.tables ∙ c.in_ok-left.ensures.tables ∙ c.loop.invariant.tables;
  sessions = c.in_ok-stepped.ensures.sessions ∙ c.in_ok-left.ensures.sessions ∙ c.loop.invariant.sessions;
}

pub returns-then-not-is_committing-clause-over : goal.returns-then-not-is_committing-clause-over
returns-then-not-is_committing-clause-over c = stay_on c.args.self c.loop.run c.in_ok-left.left c.loop.invariant.over c.in_ok-left.ensures.over

pub returns-then-not-is_committing-clause-one : goal.returns-then-not-is_committing-clause-one
returns-then-not-is_committing-clause-one c = one_on c.args.self c.loop.run c.in_ok-left.left c.args.session c.loop.invariant.one c.in_ok-left.ensures.one c.in_ok-left.ensures.rests

pub returns-then-not-is_committing-clause-others : goal.returns-then-not-is_committing-clause-others
returns-then-not-is_committing-clause-others c = others_on c.args.self c.loop.run c.in_ok-left.left c.args.session c.loop.invariant.others c.in_ok-left.ensures.others

pub returns-then-not-is_committing-clause-rests : goal.returns-then-not-is_committing-clause-rests
returns-then-not-is_committing-clause-rests c = ⊎_elim
    (λ (rests : RestsAt c.in_ok-left.left c.args.session). rests)
    (λ (refused : is_committing c.in_ok-left.reply ≡ true). absurd (let value = c.is_committing.ensures in let went = c.if-not-is_committing.true in cc))
    c.in_ok-left.ensures.left
