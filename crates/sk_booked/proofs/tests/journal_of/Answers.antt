use Rattle.std.proofs.Common.{sym, ap, ◌∙◌, subst, [], ◌∷◌, ◌++◌, map}
use Rattle.sk_booked.specs.Of.{own_of}
use Rattle.sk_booked.specs.Answers.{IsEvery}
use Rattle.sk_booked.proofs.tests.journal_of.Goals as goal

pub close-requires-clause-every : goal.close-requires-clause-every
close-requires-clause-every g c =
    let items = c.push_reserved-2.ensures.items ∙ ap (λ l. l ++ c.args.two ∷ []) (c.push_reserved.ensures.items ∙ ap (λ l. l ++ c.args.one ∷ []) c.in_ok-passes.ensures.items) in
    subst (λ l. IsEvery (map own_of l)) (sym items) c.requires.every
