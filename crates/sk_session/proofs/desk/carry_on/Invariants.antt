-- What was asked for and answered so far; what is left falls at each answer.
use Rattle.std.specs.Prelude.{◌+◌}
use Rattle.sk_session.specs.Conversing.{HasExchanged}
use Rattle.sk_session.proofs.Counting.{most_puts, Within, turns_left}
use Rattle.sk_session.proofs.desk.carry_on.Given as goal

abbrev pub invariant-loop-turn : goal.invariant-loop-turn
invariant-loop-turn g l = record {
  asked : HasExchanged g.K.Desk.answers l.catalog l.fn.session l.fn.begun l.fn.desk l.session l.turn l.desk;
  waits : Within most_puts (most_puts + 14) l.session.at l.turn;
}

abbrev pub decreases-loop-turn : goal.decreases-loop-turn
decreases-loop-turn g l = turns_left most_puts l.session.at l.turn
