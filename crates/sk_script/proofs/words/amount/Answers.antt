use Rattle.sk_script.proofs.Amounts.{past_limit}
use Rattle.sk_script.proofs.words.amount.Goals as goal

pub returns-then-n-most : goal.returns-then-n-most
returns-then-n-most c = past_limit c.args.most c.loop-rest.n c.loop-rest.rest.now c.args.digits.now c.saturating_sub.result c.in-len1-up.len_at_least c.saturating_sub.ensures c.loop-rest.invariant.goes_on c.if-n-most.true
