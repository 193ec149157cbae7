-- The texts that the lines of a script write.
use Rattle.std.specs.Prelude.{Bool, true}
use Rattle.sk_model.specs.Texts.{texts_are_short}
use Rattle.sk_script.specs.declared.script.Line.{Line}
use Rattle.sk_script.specs.declared.script.Line.TheVariants as line

-- no text that the line may write is too long for a row
abbrev pub says_short : Line → Bool
says_short (line.Says session s) = texts_are_short s
says_short (line.Step session) = true
says_short line.Flush = true
says_short line.Stop = true
