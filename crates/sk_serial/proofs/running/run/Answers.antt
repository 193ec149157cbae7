-- What was answered and printed, from how it ended.
use Rattle.std.proofs.Common.{◌≡◌, true, false, map, is_some, rules, sym, subst}
use Rattle.std.specs.String.{string_bytes}
use Rattle.sk_script.specs.Words.{place, transfers_of}
use Rattle.sk_serial.specs.Running.{IsShown, IsHalted}
use Rattle.sk_serial.proofs.Ends.{misused, finished_ran, refused_ran}
use Rattle.sk_serial.proofs.running.run.Goals as goal

pub returns-then-is_none-clause-ran : goal.returns-then-is_none-clause-ran
returns-then-is_none-clause-ran g c =
    let form : is_some (place (map string_bytes c.args.words.now)) ≡ false = search rules in
    rw form (misused g.D.Device.disk g.D.Device.faults _ _ _ _ _ _ _ _ _ c.args.disk c.refuse.result c.refuse.ensures.printed.0 c.refuse.ensures.printed.1 c.refuse.ensures.nothing c.refuse.ensures.disk)

pub returns-in-Ok-clause-ran : goal.returns-in-Ok-clause-ran
returns-in-Ok-clause-ran g c =
    let form : is_some (place (map string_bytes c.args.words.now)) ≡ true = search rules in
    let shown = subst (λ made. IsShown g.D.Device.disk g.D.Device.faults made (g.S.Source.left c.args.source.now) (g.S.Source.left c.play_source.new.source) c.args.disk c.in-Ok.shown) c.transfers_of.ensures.exact c.in-Ok.ensures.shown in
    rw form (finished_ran g.D.Device.disk g.D.Device.faults _ _ _ _ _ _ _ _ _ c.args.disk c.finish.result c.in-Ok.shown c.finish.ensures shown)

pub returns-in-Err-clause-ran : goal.returns-in-Err-clause-ran
returns-in-Err-clause-ran g c =
    let form : is_some (place (map string_bytes c.args.words.now)) ≡ true = search rules in
    let halted = subst (λ made. IsHalted g.D.Device.disk g.D.Device.faults made (g.S.Source.left c.args.source.now) (g.S.Source.left c.play_source.new.source) c.args.disk c.in-Err.halt.fault c.in-Err.halt.disk) c.transfers_of.ensures.exact c.in-Err.ensures.halted in
    rw form (refused_ran g.D.Device.disk g.D.Device.faults _ _ _ _ _ _ _ _ _ c.args.disk c.refuse-in-Err.result c.in-Err.halt.fault c.refuse-in-Err.ensures.printed c.refuse-in-Err.ensures.nothing
    (subst (λ d. IsHalted g.D.Device.disk g.D.Device.faults (transfers_of (map string_bytes c.args.words.now)) (g.S.Source.left c.args.source.now) (g.S.Source.left c.play_source.new.source) c.args.disk c.in-Err.halt.fault d)
    (sym c.refuse-in-Err.ensures.disk) halted) c.in-Err.ensures.read)
