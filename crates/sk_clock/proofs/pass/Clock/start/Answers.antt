use Rattle.std.proofs.Common.{◌∙◌, sym, rules}
use Rattle.sk_clock.proofs.Walking.{oldest_now}
use Rattle.sk_clock.proofs.Clocks.{shaped_of, low_fits}
use Rattle.sk_clock.proofs.pass.Clock.start.Goals as goal

pub returns-then-not-is_within-clause-gone : goal.returns-then-not-is_within-clause-gone
returns-then-not-is_within-clause-gone c = let o = c.oldest_word-low.ensures in let f = o.1 in record {
  looks = f.looks;
  oldest = c.unpack-oldest.ensures ∙ (oldest_now _ _ _ _ (shaped_of c.args.self.now c.oldest_word-low.new.pass o.0) f).1;
  past = sym c.is_within.ensures ∙ c.if-not-is_within.true;
  legal = f.legal;
  all_seen = f.all_seen;
}

pub overflow_mul-result : goal.overflow_mul-result
overflow_mul-result c = let o = c.oldest_word-low.ensures in let l = low_fits c.args.self.now c.oldest_word-low.new.pass o.0 o.1.legal c.oldest_word-low.result.0 o.1.seen in search rules
