-- The lines that were played and those that are left are all.
use Rattle.std.specs.Prelude.{◌≡◌, true, false, length, IfSome}
use Rattle.std.specs.List.{AllByRecursion}
use Rattle.std.specs.String.{string_bytes}
use Rattle.sk_script.specs.declared.script.ScriptLine.{ScriptLine}
use Rattle.sk_script.specs.Limits.{most_sessions}
use Rattle.sk_script.specs.Rules.{IsSession, session_in}
use Rattle.sk_script.specs.Texts.{says_short}
use Rattle.sk_run.proofs.Stands.{mem_stands, store_stands}
use Rattle.sk_serial.specs.Saving.{Saves}
use Rattle.sk_serial.specs.Played.{now}
use Rattle.sk_serial.proofs.Plays.{SoFar}
use Rattle.sk_serial.proofs.playing.play_lines.Given as goal

abbrev pub invariant-loop-line : goal.invariant-loop-line
invariant-loop-line g l = record {
  sessions : AllByRecursion (λ (x : ScriptLine). IfSome (session_in x.what) IsSession) l.line-iterator.rest.items;
  texts : AllByRecursion (λ (x : ScriptLine). says_short x.what ≡ true) l.line-iterator.rest.items;
  known : length l.playing.run.sessions ≡ most_sessions;
  whole : l.playing.ended ≡ false → l.playing.store.broken ≡ false;
  saves : Saves g.D.Device.disk g.D.Device.faults l.fn.begun.store l.playing.store;
  played : SoFar g.D.Device.disk mem_stands store_stands (now l.fn.begun.run (string_bytes l.fn.begun.text) l.fn.begun.store l.fn.begun.last) l.initial.line-iterator.rest.items
      (now l.playing.run (string_bytes l.playing.text) l.playing.store l.playing.last) l.playing.ended l.line-iterator.rest.items;
}
