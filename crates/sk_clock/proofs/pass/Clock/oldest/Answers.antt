use Rattle.std.proofs.Common.{◌≡◌, ◌∙◌}
use Rattle.sk_weave.specs.Registry.{oldest_of}
use Rattle.sk_clock.proofs.Makings.{answers, looks-none}
use Rattle.sk_clock.proofs.Walking.{oldest_now}
use Rattle.sk_clock.proofs.Clocks.{shaped_of}
use Rattle.sk_clock.proofs.pass.Clock.oldest.Goals as goal

pub unpack-requires : goal.unpack-requires
unpack-requires c = let o = c.oldest_word-word.ensures in (oldest_now _ _ _ _ (shaped_of c.args.self.now c.oldest_word-word.new.pass o.0) o.1).0

pub returns-clause-answer : goal.returns-clause-answer
returns-clause-answer c = let o = c.oldest_word-word.ensures in let w = c.oldest_word-word.new.pass.view in
    answers c.args.pass.now.view w w (λ r. c.unpack.result ≡ oldest_of r) o.1.looks (looks-none w) o.1.all_seen (c.unpack.ensures ∙ (oldest_now _ _ _ _ (shaped_of c.args.self.now c.oldest_word-word.new.pass o.0) o.1).1)
