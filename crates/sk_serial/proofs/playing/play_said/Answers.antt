-- The session was answered so, and the store was left alone.
use Rattle.std.proofs.Common.{rules, ◌≡◌, Some, refl, sym, ap, subst, ◌∙◌}
use Rattle.std.specs.Prelude.{IfErr}
use Rattle.std.specs.Option.{option_copied}
use Rattle.std.specs.String.{string_bytes}
use Rattle.sk_run.proofs.Stands.{mem_stands, store_stands}
use Rattle.sk_durable.specs.Kept.{Kept}
use Rattle.sk_serial.specs.Saving.{saved_in}
use Rattle.sk_serial.specs.Played.{Now, now}
use Rattle.sk_serial.proofs.Showing.{still_of}
use Rattle.sk_serial.proofs.Plays.{plays_said, said_next}
use Rattle.sk_serial.specs.Waiting.{KeepsQueue}
use Rattle.sk_serial.proofs.Waiting.{almost_then}
use Rattle.sk_serial.proofs.Saves.{saves_same, grows_same, err_grows}
use Rattle.sk_serial.proofs.playing.play_said.Goals as goal

pub returns-clause-played : goal.returns-clause-played
returns-clause-played g c =
    let old : Now _ = now c.args.playing.run (string_bytes c.args.playing.text) c.args.playing.store c.args.playing.last in
    let new : Now _ = now c.in_ok-run.run' (string_bytes c.in-Ok.text) c.queue_last.new.store (Some c.in_ok-run.reply) in
    said_next g.D.Device.disk mem_stands store_stands old new c.args.session (option_copied c.args.statement) c.args.playing.ended c.requires.open.0
    (plays_said g.D.Device.disk mem_stands store_stands old new c.args.session (option_copied c.args.statement) c.in_ok-run.reply c.in_ok-run.ensures.kept c.in_ok-run.ensures.refused c.in_ok-run.ensures.tables c.in_ok-run.ensures.sessions c.in-Ok.ensures
    (still_of g.D.Device.disk c.args.playing.store c.queue_last.new.store (c.queue_last.ensures.disk ∙ ap (λ (k : Kept _). k.disk) c.in_ok-run.ensures.store ∙ c.in_ok-store.ensures.disk)
    (c.queue_last.ensures.open ∙ ap (λ (k : Kept _). k.broken) c.in_ok-run.ensures.store ∙ c.in_ok-store.ensures.open)
    (c.queue_last.ensures.saved ∙ ap saved_in c.in_ok-run.ensures.store ∙ c.in_ok-store.ensures.saved))
    (c.queue_last.ensures.saved ∙ ap saved_in c.in_ok-run.ensures.store ∙ c.in_ok-store.ensures.saved)
    (c.queue_last.ensures.limit ∙ ap (λ (k : Kept _). k.logmax) c.in_ok-run.ensures.store ∙ c.in_ok-store.ensures.limit)
    (λ few h. c.queue_last.ensures.waits (c.in_ok-run.ensures.sessions ∙ few)
    (almost_then c.args.playing.run c.in_ok-run.run' c.args.session c.args.playing.store c.in_ok-run.store c.in_ok-run.ensures.over c.in_ok-run.ensures.one (subst (KeepsQueue c.args.playing.store) (sym c.in_ok-run.ensures.store) c.in_ok-store.ensures.queue) h))
    refl)

pub returns-clause-saves : goal.returns-clause-saves
returns-clause-saves g c = saves_same g.D.Device.disk g.D.Device.faults c.args.playing.store c.queue_last.new.store
    (c.queue_last.ensures.disk ∙ ap (λ (k : Kept _). k.disk) c.in_ok-run.ensures.store ∙ c.in_ok-store.ensures.disk)
    (c.queue_last.ensures.open ∙ ap (λ (k : Kept _). k.broken) c.in_ok-run.ensures.store ∙ c.in_ok-store.ensures.open)
    (c.queue_last.ensures.limit ∙ ap (λ (k : Kept _). k.logmax) c.in_ok-run.ensures.store ∙ c.in_ok-store.ensures.limit)

pub returns-in_err-store-clause-halted : goal.returns-in_err-store-clause-halted
returns-in_err-store-clause-halted g c =
    let same : IfErr c.from_residual.result (λ h. h.disk ≡ c.args.playing.store.disk) = search rules in
    err_grows g.D.Device.disk g.D.Device.faults (λ h. h.disk) c.from_residual.result c.args.playing.store.disk c.args.playing.store.disk refl same

pub returns-in_err-run-clause-halted : goal.returns-in_err-run-clause-halted
returns-in_err-run-clause-halted g c =
    let same : IfErr c.from_residual-in_err-run.result (λ h. h.disk ≡ c.in_ok-store.store.disk) = search rules in
    err_grows g.D.Device.disk g.D.Device.faults (λ h. h.disk) c.from_residual-in_err-run.result c.args.playing.store.disk c.in_ok-store.store.disk c.in_ok-store.ensures.disk same

pub returns-in-Err-clause-halted : goal.returns-in-Err-clause-halted
returns-in-Err-clause-halted g c = grows_same g.D.Device.disk g.D.Device.faults c.args.playing.store.disk c.starved.result.disk
    (c.starved.ensures.disk ∙ ap (λ (k : Kept _). k.disk) c.in_ok-run.ensures.store ∙ c.in_ok-store.ensures.disk)
