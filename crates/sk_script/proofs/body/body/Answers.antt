use Rattle.sk_script.proofs.Rising.{line_behind}
use Rattle.sk_script.proofs.body.body.Goals as goal

pub said-requires : goal.said-requires
said-requires c = line_behind 1 _ c.args.end (line_behind 1 c.args.tokens.now c.args.end c.requires)
