use Rattle.sk_script.proofs.Rising.{before_place, line_behind}
use Rattle.sk_script.proofs.body.said.Goals as goal

pub closed-requires-clause-before : goal.closed-requires-clause-before
closed-requires-clause-before c = before_place c.statement_len-n.result c.args.tokens.now c.mark-item.result c.args.end c.requires c.in-len1-up.len_at_least c.mark-item.is

pub closed-requires-clause-behind : goal.closed-requires-clause-behind
closed-requires-clause-behind c = line_behind 1 _ c.args.end (line_behind c.statement_len-n.result c.args.tokens.now c.args.end c.requires)
