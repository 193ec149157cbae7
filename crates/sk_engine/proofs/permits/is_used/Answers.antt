-- What is not below it is behind the count of those below.
use Rattle.std.specs.Prelude.{List, ◌==◌}
use Rattle.std.specs.List.{list_any}
use Rattle.std.proofs.Common.{ap, ◌∙◌}
use Rattle.sk_engine.specs.declared.numbers.Number.{Number}
use Rattle.sk_engine.proofs.UsedNumbers.{seen_behind, last_below}
use Rattle.sk_engine.proofs.permits.is_used.Goals as goal

pub returns : goal.returns
returns c = λ p rises. c.is_one_of.ensures ∙ ap (list_any (λ (u : Number). u.n == c.args.n)) c.split_at.ensures.back
    ∙ seen_behind c.args.n c.count_below-at.result p c.args.numbers.now rises c.count_below-at.ensures.within (last_below c.args.n c.count_below-at.result c.args.numbers.now c.count_below-at.ensures.before)
