use Rattle.std.proofs.Common.{◌≡◌, ◌<◌, Some, length, sym, ap, subst, ◌∙◌, slice_get, get_or, rules}
use Rattle.std.proofs.lemmas.Option.{slice_get-get_or}
use Rattle.sk_chain.specs.Reading.{newest}
use Rattle.sk_chain.proofs.Finding.{at_index, newest_shows}
use Rattle.sk_chain.proofs.chain.Chain.stamped_upto.Goals as goal

pub returns-in-Some : goal.returns-in-Some
returns-in-Some c =
    let items : c.as_slice.result.now ≡ c.args.self.now.settled = search rules in
    let own : c.self.inside.settled.items ≡ c.args.self.now.settled = search rules in
    let within : c.in-Some.at < length c.args.self.now.settled = subst (λ vs. c.in-Some.at < length vs) items c.in-Some.ensures.within in
    let there : slice_get c.args.self.now.settled c.in-Some.at ≡ Some c.index.result.now = slice_get-get_or c.args.self.now.settled c.in-Some.at c.index.result.now within ∙ ap (λ vs. Some (get_or vs c.in-Some.at c.index.result.now)) (sym own) ∙ ap Some (sym c.index.ensures) in
    sym there ∙ ap (λ o. at_index o c.args.self.now.settled) (c.in-Some.ensures.at ∙ ap (newest c.args.n) items) ∙ newest_shows c.args.n c.args.self.now.settled

pub returns-in-None : goal.returns-in-None
returns-in-None c =
    let items : c.as_slice.result.now ≡ c.args.self.now.settled = search rules in
    ap (λ o. at_index o c.args.self.now.settled) (c.in-None.ensures.at ∙ ap (newest c.args.n) items) ∙ newest_shows c.args.n c.args.self.now.settled
