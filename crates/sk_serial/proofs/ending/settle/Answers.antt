-- One session more has ended.
use Rattle.std.proofs.Common.{rules, ◌≡◌, ◌+◌, refl, ◌∙◌, arith}
use Rattle.std.specs.Prelude.{IfErr}
use Rattle.sk_run.proofs.Stands.{mem_stands, store_stands}
use Rattle.sk_run.proofs.Settling.{settles_none, settles_both}
use Rattle.sk_serial.proofs.Waiting.{almost_then}
use Rattle.sk_run.proofs.Spoken.{rests_more, all_rest}
use Rattle.sk_serial.proofs.Saves.{saves_same, grows_same, err_grows}
use Rattle.sk_serial.proofs.ending.settle.Goals as goal

pub loop-before-init : goal.loop-before-init
loop-before-init g c = record { settles = settles_none mem_stands store_stands c.args.run; tables = refl; known = c.requires.few; disk = refl; limit = refl; whole = refl; saved = refl; waits = λ h. h; rest = λ n some up. absurd (omega (arith, some, up)) }

pub returns-in_err-store-clause-halted : goal.returns-in_err-store-clause-halted
returns-in_err-store-clause-halted g c =
    let same : IfErr c.from_residual.result (λ h. h.disk ≡ c.loop-before.store.disk) = search rules in
    err_grows g.D.Device.disk g.D.Device.faults (λ h. h.disk) c.from_residual.result c.args.store.disk c.loop-before.store.disk c.loop-before.invariant.disk same

pub returns-in-Err-clause-halted : goal.returns-in-Err-clause-halted
returns-in-Err-clause-halted g c = grows_same g.D.Device.disk g.D.Device.faults c.args.store.disk c.starved.result.disk (c.starved.ensures.disk ∙ c.in_ok-store.ensures.disk ∙ c.loop-before.invariant.disk)

pub loop-before-preserved : goal.loop-before-preserved
loop-before-preserved g c = record {
  settles = settles_both mem_stands store_stands c.args.run c.loop-before.run c.in-Ok.settled c.loop-before.invariant.settles c.in-Ok.ensures.kept;
  tables = c.in-Ok.ensures.tables ∙ c.loop-before.invariant.tables;
  known = c.in-Ok.ensures.sessions ∙ c.loop-before.invariant.known;
  disk = c.queue_last.ensures.disk ∙ c.in_ok-store.ensures.disk ∙ c.loop-before.invariant.disk;
  limit = c.queue_last.ensures.limit ∙ c.in_ok-store.ensures.limit ∙ c.loop-before.invariant.limit;
  whole = c.queue_last.ensures.open ∙ c.in_ok-store.ensures.open ∙ c.loop-before.invariant.whole;
  saved = c.queue_last.ensures.saved ∙ c.in_ok-store.ensures.saved ∙ c.loop-before.invariant.saved;
  waits = λ h. c.queue_last.ensures.waits (c.in-Ok.ensures.sessions ∙ c.loop-before.invariant.known)
      (almost_then c.loop-before.run c.in-Ok.settled (c.loop-before.before + 1) c.loop-before.store c.in_ok-store.store c.in-Ok.ensures.over c.in-Ok.ensures.one c.in_ok-store.ensures.queue (c.loop-before.invariant.waits h));
  rest = rests_more c.loop-before.run c.in-Ok.settled c.loop-before.before c.in-Ok.ensures.others c.in-Ok.ensures.rests c.loop-before.invariant.rest;
}

pub returns-clause-saves : goal.returns-clause-saves
returns-clause-saves g c = saves_same g.D.Device.disk g.D.Device.faults c.args.store c.loop-before.store c.loop-before.invariant.disk c.loop-before.invariant.whole c.loop-before.invariant.limit

pub returns-clause-rest : goal.returns-clause-rest
returns-clause-rest g c = all_rest c.loop-before.run c.loop-before.before (search rules) c.loop-before.invariant.rest
