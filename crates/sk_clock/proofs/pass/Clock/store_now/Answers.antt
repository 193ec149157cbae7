use Rattle.std.proofs.Common.{◌≡◌, ◌≤◌, rules}
use Rattle.sk_clock.proofs.Makings.{answers, looks_first, looks-none}
use Rattle.sk_clock.proofs.Views.{loaded, store_small}
use Rattle.sk_clock.proofs.Clocks.{shaped_of}
use Rattle.sk_clock.proofs.pass.Clock.store_now.Goals as goal

pub overflow_cast-result : goal.overflow_cast-result
overflow_cast-result c = let e = c.load.ensures in let l : c.load.result ≤ 2147483647 = store_small _ _ _ (shaped_of c.args.self.now c.load.new.pass e.0) e.1 in search rules

pub returns-clause-answer : goal.returns-clause-answer
returns-clause-answer c = let e = c.load.ensures in
    answers c.args.pass.now.view c.load.new.pass.view c.load.new.pass.view (λ r. c.load.result ≡ r.store) (looks_first _ _ _ tt e.1) (looks-none _) e.1.all_seen (loaded _ _ _ _ e.1)
