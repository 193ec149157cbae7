use Rattle.std.proofs.Common.{◌≡◌, List, [], ◌∷◌, ◌++◌, map, sym, ap, ◌∙◌, subst}
use Rattle.sk_clock.specs.declared.view.View.{View}
use Rattle.sk_clock.specs.Held.{Held}
use Rattle.sk_clock.specs.Kept.{elder, younger}
use Rattle.sk_clock.specs.Closes.{own_of, IsEvery}
use Rattle.sk_clock.proofs.Passing.{two_every}
use Rattle.sk_clock.proofs.tests.two_passes_close.Goals as goal

pub close-requires-clause-every : goal.close-requires-clause-every
close-requires-clause-every g c =
    let first : Held = c.split-two.new.pass in
    let second : Held = c.split-two.result in
    let born = c.in_ok-clock.ensures.1 in
    let a = c.split-two.ensures.old.1 ∙ ap elder born in
    let b = c.split-two.ensures.new.1 ∙ ap younger born in
    let all : c.push-2.new.self.items ≡ first ∷ second ∷ [] = c.in_ok-push-2.ensures.items ∙ ap (λ (l : List Held). l ++ second ∷ []) (c.in_ok-push.ensures.items ∙ ap (λ (l : List Held). l ++ first ∷ []) c.new-passes.ensures.items) in
    subst IsEvery (sym (ap (map own_of) all)) (two_every (own_of first) (own_of second) (ap (λ (v : View). v.own.path) a) (ap (λ (v : View). v.own.splits) a) (ap (λ (v : View). v.own.path) b) (ap (λ (v : View). v.own.splits) b))
