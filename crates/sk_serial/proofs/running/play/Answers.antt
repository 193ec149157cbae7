-- The script was played to its end; or memory was wanting behind the opening.
use Rattle.std.specs.Prelude.{◌≡◌, List, is_some}
use Rattle.std.specs.String.{string_bytes}
use Rattle.std.proofs.Common.{ap, subst, ◌∙◌}
use Rattle.sk_run.proofs.Stands.{mem_stands, store_stands}
use Rattle.sk_script.specs.declared.script.ScriptLine.{ScriptLine}
use Rattle.sk_script.specs.declared.settings.Settings.{Settings}
use Rattle.sk_serial.specs.declared.run_fault.RunFault.TheVariants as run_fault
use Rattle.sk_serial.specs.Played.{now, PlaysAll}
use Rattle.sk_serial.specs.Running.{HasText, IsPlayed, HasHalted, saved_of}
use Rattle.sk_serial.specs.Saving.{Grows}
use Rattle.sk_serial.specs.Stored.{StartsFrom}
use Rattle.sk_serial.proofs.Saves.{grows_same, grows_then}
use Rattle.sk_serial.proofs.Whole.{if_ok, if_err, is_played, halts_starved}
use Rattle.sk_serial.proofs.running.play.Goals as goal

pub returns-in-Err-play_lines-clause-halted : goal.returns-in-Err-play_lines-clause-halted
returns-in-Err-play_lines-clause-halted g c =
    let starts = subst (λ b. StartsFrom g.D.Device.disk g.D.Device.faults c.args.script b c.args.disk c.in-Ok.stored.opened c.in-Ok.stored.disk) c.is_some.ensures c.in-Ok.ensures.begun in
    let grows = subst (λ d. Grows g.D.Device.disk g.D.Device.faults d c.in-Err-play_lines.halt.disk) c.in-Ok-begin.ensures.disk c.in-Err-play_lines.ensures.halted in
    halts_starved g.D.Device.disk g.D.Device.faults c.args.script (is_some c.args.transfers) c.args.disk c.in-Ok.stored.disk c.in-Err-play_lines.halt.disk c.in-Ok.stored.opened c.in-Err-play_lines.halt.fault starts grows c.in-Err-play_lines.ensures.starved

pub returns-in-Err-end-clause-halted : goal.returns-in-Err-end-clause-halted
returns-in-Err-end-clause-halted g c =
    let starts = subst (λ b. StartsFrom g.D.Device.disk g.D.Device.faults c.args.script b c.args.disk c.in-Ok.stored.opened c.in-Ok.stored.disk) c.is_some.ensures c.in-Ok.ensures.begun in
    let played = subst (λ d. Grows g.D.Device.disk g.D.Device.faults d c.in-Ok-play_lines.playing.store.disk) c.in-Ok-begin.ensures.disk c.in-Ok-play_lines.ensures.saves.grows in
    let grows = grows_then g.D.Device.disk g.D.Device.faults c.in-Ok.stored.disk c.in-Ok-play_lines.playing.store.disk c.in-Err-end.halt.disk played c.in-Err-end.ensures.halted in
    halts_starved g.D.Device.disk g.D.Device.faults c.args.script (is_some c.args.transfers) c.args.disk c.in-Ok.stored.disk c.in-Err-end.halt.disk c.in-Ok.stored.opened c.in-Err-end.halt.fault starts grows c.in-Err-end.ensures.starved

pub returns-clause-shown : goal.returns-clause-shown
returns-clause-shown g c =
    let starts = subst (λ b. StartsFrom g.D.Device.disk g.D.Device.faults c.args.script b c.args.disk c.in-Ok.stored.opened c.in-Ok.stored.disk) c.is_some.ensures c.in-Ok.ensures.begun in
    let start = now c.in-Ok-begin.begun.run (string_bytes c.in-Ok-begin.begun.text) c.in-Ok-begin.begun.store c.in-Ok-begin.begun.last in
    let end = now c.in-Ok-play_lines.playing.run (string_bytes c.in-Ok-play_lines.playing.text) c.in-Ok-play_lines.playing.store c.in-Ok-play_lines.playing.last in
    let plays = subst (λ (ls : List ScriptLine). PlaysAll g.D.Device.disk mem_stands store_stands start ls end c.in-Ok-play_lines.playing.ended) c.into_vec.ensures c.in-Ok-play_lines.ensures.played in
    if_ok c.with_text.result (λ t. HasText c.args.transfers c.in-Ok-end.shown t) (λ t. IsPlayed g.D.Device.disk g.D.Device.faults c.args.script c.args.transfers c.args.disk t.ended (saved_of t) (string_bytes t.text) t.broken t.disk)
    (λ t has. is_played g.D.Device.disk g.D.Device.faults mem_stands store_stands c.args.script c.args.transfers c.args.disk c.in-Ok.stored.disk c.in-Ok.stored.opened start end c.in-Ok-play_lines.playing.ended
    c.in-Ok-begin.begun.store c.in-Ok-play_lines.playing.store c.in-Ok-end.shown t c.logs_hold_their_own.ensures starts c.in-Ok-begin.ensures.begun plays c.in-Ok-end.ensures.ends c.in-Ok-begin.ensures.disk c.in-Ok-begin.ensures.open.1
    c.in-Ok-play_lines.ensures.saves (c.in-Ok-play_lines.ensures.saves.limit ∙ c.in-Ok-begin.ensures.limit ∙ ap (λ (s : Settings). s.logmax) c.settings-settings.ensures.numbers) c.in-Ok-end.ensures.kept has)
    c.with_text.ensures.text

pub returns-clause-halted : goal.returns-clause-halted
returns-clause-halted g c =
    let starts = subst (λ b. StartsFrom g.D.Device.disk g.D.Device.faults c.args.script b c.args.disk c.in-Ok.stored.opened c.in-Ok.stored.disk) c.is_some.ensures c.in-Ok.ensures.begun in
    let played = subst (λ d. Grows g.D.Device.disk g.D.Device.faults d c.in-Ok-play_lines.playing.store.disk) c.in-Ok-begin.ensures.disk c.in-Ok-play_lines.ensures.saves.grows in
    let grows = grows_then g.D.Device.disk g.D.Device.faults c.in-Ok.stored.disk c.in-Ok-play_lines.playing.store.disk c.in-Ok-end.shown.disk played c.in-Ok-end.ensures.kept.grows in
    if_err c.with_text.result (λ h. (h.disk ≡ c.in-Ok-end.shown.disk) × (h.fault ≡ run_fault.NoMemory)) (λ h. HasHalted g.D.Device.disk g.D.Device.faults c.args.script (is_some c.args.transfers) c.args.disk h.fault h.disk)
    (λ h is. halts_starved g.D.Device.disk g.D.Device.faults c.args.script (is_some c.args.transfers) c.args.disk c.in-Ok.stored.disk h.disk c.in-Ok.stored.opened h.fault starts
    (grows_then g.D.Device.disk g.D.Device.faults c.in-Ok.stored.disk c.in-Ok-end.shown.disk h.disk grows (grows_same g.D.Device.disk g.D.Device.faults c.in-Ok-end.shown.disk h.disk is.0)) is.1)
    c.with_text.ensures.halted
