-- How far a transaction has come in the code, as the machine's definition has it.
use Rattle.sk_linked.specs.State.{Stage, Running, Stepping, Leaving, Over}
use Rattle.sk_core.specs.declared.progress.Progress.{Progress}
use Rattle.sk_core.specs.declared.progress.Progress.TheVariants as progress

abbrev pub stage_of : Progress → Stage
stage_of progress.Running = Running
stage_of (progress.Stepping steps) = Stepping steps
stage_of progress.Leaving = Leaving
stage_of progress.Over = Over
