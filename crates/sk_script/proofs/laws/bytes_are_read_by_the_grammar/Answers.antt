use Rattle.sk_script.proofs.ScriptRules.{alone, grammar}
use Rattle.sk_script.proofs.laws.bytes_are_read_by_the_grammar.Goals as goal

pub returns-clause-scripts : goal.returns-clause-scripts
returns-clause-scripts c = grammar

pub returns-clause-alone : goal.returns-clause-alone
returns-clause-alone c = alone
