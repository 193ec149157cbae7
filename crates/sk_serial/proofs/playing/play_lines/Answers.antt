-- One line more was played or passed, behind the others.
use Rattle.std.specs.Prelude.{◌≡◌, Bool, List, ◌∷◌, true, IfSome}
use Rattle.std.specs.List.{AllByRecursion}
use Rattle.std.specs.String.{string_bytes}
use Rattle.std.proofs.Common.{rules, refl, sym, ap, subst, ◌∙◌}
use Rattle.sk_script.specs.declared.script.ScriptLine.{ScriptLine}
use Rattle.sk_script.specs.Rules.{IsSession, session_in}
use Rattle.sk_script.specs.Texts.{says_short}
use Rattle.sk_run.proofs.Stands.{mem_stands, store_stands}
use Rattle.sk_serial.specs.Played.{Now, now}
use Rattle.sk_serial.proofs.Plays.{SoFar, so_far_first, so_far_step}
use Rattle.sk_serial.proofs.Saves.{saves_same, saves_then, grows_then}
use Rattle.sk_serial.proofs.playing.play_lines.Goals as goal

pub loop-line-init : goal.loop-line-init
loop-line-init g c =
    let all : c.into_iter-line-iterator.result.rest.items ≡ c.args.lines.items = search rules in
    let old : Now _ = now c.args.begun.run (string_bytes c.args.begun.text) c.args.begun.store c.args.begun.last in
    record {
      sessions = subst (AllByRecursion (λ (x : ScriptLine). IfSome (session_in x.what) IsSession)) (sym all) c.requires.sessions;
      texts = subst (AllByRecursion (λ (x : ScriptLine). says_short x.what ≡ true)) (sym all) c.requires.texts;
      known = c.requires.known;
      whole = λ e. c.requires.open.1;
      saves = saves_same g.D.Device.disk g.D.Device.faults c.args.begun.store c.args.begun.store refl refl refl;
      played = subst (λ (e : Bool). SoFar g.D.Device.disk mem_stands store_stands old c.into_iter-line-iterator.result.rest.items old e c.into_iter-line-iterator.result.rest.items) (sym c.requires.open.0)
          (so_far_first g.D.Device.disk mem_stands store_stands old c.into_iter-line-iterator.result.rest.items);
    }

pub returns-in-Err-clause-halted : goal.returns-in-Err-clause-halted
returns-in-Err-clause-halted g c = grows_then g.D.Device.disk g.D.Device.faults c.args.begun.store.disk c.loop-line.playing.store.disk c.in-Err.halt.disk c.loop-line.invariant.saves.grows c.in-Err.ensures.halted

pub loop-line-preserved : goal.loop-line-preserved
loop-line-preserved g c =
    let steps : c.loop-line.line-iterator.rest.items ≡ c.in-Some.line ∷ c.next.new.self.rest.items = c.in-Some.ensures.steps.0 in
    let old : Now _ = now c.args.begun.run (string_bytes c.args.begun.text) c.args.begun.store c.args.begun.last in
    let before : Now _ = now c.loop-line.playing.run (string_bytes c.loop-line.playing.text) c.loop-line.playing.store c.loop-line.playing.last in
    let new : Now _ = now c.in-Ok.next.run (string_bytes c.in-Ok.next.text) c.in-Ok.next.store c.in-Ok.next.last in
    record {
      sessions = (subst (AllByRecursion (λ (x : ScriptLine). IfSome (session_in x.what) IsSession)) steps c.loop-line.invariant.sessions).1;
      texts = (subst (AllByRecursion (λ (x : ScriptLine). says_short x.what ≡ true)) steps c.loop-line.invariant.texts).1;
      known = c.in-Ok.ensures.sessions ∙ c.loop-line.invariant.known;
      whole = c.in-Ok.ensures.open;
      saves = saves_then g.D.Device.disk g.D.Device.faults c.args.begun.store c.loop-line.playing.store c.in-Ok.next.store c.loop-line.invariant.saves c.in-Ok.ensures.saves;
      played = so_far_step g.D.Device.disk mem_stands store_stands old before new c.into_iter-line-iterator.result.rest.items c.in-Some.line c.next.new.self.rest.items c.loop-line.playing.ended c.in-Ok.next.ended
          (subst (λ (xs : List ScriptLine). SoFar g.D.Device.disk mem_stands store_stands old c.into_iter-line-iterator.result.rest.items before c.loop-line.playing.ended xs) steps c.loop-line.invariant.played)
          (λ e. (ap (λ p. now p.run (string_bytes p.text) p.store p.last) (c.in-Ok.ensures.passed e), ap (λ p. p.ended) (c.in-Ok.ensures.passed e)))
          c.in-Ok.ensures.played;
    }
