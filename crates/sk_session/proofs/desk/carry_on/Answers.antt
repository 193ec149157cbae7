-- Each answer is one exchange more, and leaves fewer calls.
use Rattle.std.specs.Prelude.{◌+◌, ◌<◌}
use Rattle.std.proofs.Common.{sym, subst, arith}
use Rattle.sk_session.specs.declared.turn.Turn.{Turn}
use Rattle.sk_session.specs.declared.turn.Turn.TheVariants.{Ask}
use Rattle.sk_session.specs.Conversing.{puts_done}
use Rattle.sk_session.proofs.Counting.{most_puts, Within, turns_left}
use Rattle.sk_session.proofs.Exchanging.{nothing_asked, fits_within, goes_to, takes_left, takes_fewer, counts_at, asks_it}
use Rattle.sk_session.proofs.desk.carry_on.Goals as goal

pub loop-turn-init : goal.loop-turn-init
loop-turn-init g c = record {
  asked = nothing_asked g.K.Desk.answers c.args.catalog.now c.args.session.now c.args.begun c.args.desk.now;
  waits = fits_within most_puts c.args.session.now.at c.args.begun c.requires;
}

pub loop-turn-preserved : goal.loop-turn-preserved
loop-turn-preserved g c =
    let waits : Within most_puts (most_puts + 14) c.loop-turn.session.at (Ask c.in-Ask.wish) = subst (λ (x : Turn). Within most_puts (most_puts + 14) c.loop-turn.session.at x) c.in-Ask.is c.loop-turn.invariant.waits in
    record {
      asked =
          goes_to g.K.Desk.answers c.args.catalog.now most_puts (most_puts + 14) c.args.session.now c.args.begun c.args.desk.now c.loop-turn.session c.loop-turn.turn c.loop-turn.desk c.in-Ask.wish c.in_ok-got-in-Ask.got c.take-turn.new.self c.take-turn.result c.answer.new.self
          c.loop-turn.invariant.asked c.loop-turn.invariant.waits c.in-Ask.is c.in_ok-got-in-Ask.ensures.fits c.in_ok-got-in-Ask.ensures.not_early c.in_ok-got-in-Ask.ensures.answered c.take-turn.ensures.moves;
      waits = takes_left most_puts c.args.catalog.now c.loop-turn.session c.take-turn.new.self c.in-Ask.wish c.take-turn.result c.in_ok-got-in-Ask.got (most_puts + 14) waits c.in_ok-got-in-Ask.ensures.not_early c.take-turn.ensures.moves;
    }

pub loop-turn-smaller : goal.loop-turn-smaller
loop-turn-smaller g c =
    let waits : Within most_puts (most_puts + 14) c.loop-turn.session.at (Ask c.in-Ask.wish) = subst (λ (x : Turn). Within most_puts (most_puts + 14) c.loop-turn.session.at x) c.in-Ask.is c.loop-turn.invariant.waits in
    let counts : puts_done c.loop-turn.session.at < most_puts = omega arith in
    subst (λ (x : Turn). turns_left most_puts c.take-turn.new.self.at c.take-turn.result < turns_left most_puts c.loop-turn.session.at x) (sym c.in-Ask.is)
    (takes_fewer most_puts c.args.catalog.now c.loop-turn.session c.take-turn.new.self c.in-Ask.wish c.take-turn.result c.in_ok-got-in-Ask.got (most_puts + 14) waits c.in_ok-got-in-Ask.ensures.not_early (counts_at most_puts c.loop-turn.session.at counts) c.take-turn.ensures.moves)

pub answer-requires : goal.answer-requires
answer-requires g c =
    asks_it most_puts (most_puts + 14) c.loop-turn.session.at c.in-Ask.wish (subst (λ (x : Turn). Within most_puts (most_puts + 14) c.loop-turn.session.at x) c.in-Ask.is c.loop-turn.invariant.waits)
