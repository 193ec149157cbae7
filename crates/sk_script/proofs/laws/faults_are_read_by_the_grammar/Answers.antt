use Rattle.sk_script.proofs.ScriptFails.{placed}
use Rattle.sk_script.proofs.laws.faults_are_read_by_the_grammar.Goals as goal

pub returns : goal.returns
returns c = placed
