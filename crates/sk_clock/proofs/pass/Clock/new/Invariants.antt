use Rattle.std.proofs.Common.{◌≡◌, ◌+◌, ◌-◌, ◌≤◌, ◌∷◌, replicate, vec_len}
use Rattle.std.specs.Prelude.{vec_capacity}
use Rattle.sk_weave.specs.Points.{word_of}
use Rattle.sk_clock.proofs.pass.Clock.new.Given as goal

abbrev pub invariant-loop : goal.invariant-loop
invariant-loop l = record {
  items : l.words.items ≡ l.start.a ∷ l.start.b ∷ 0 ∷ word_of l.start ∷ replicate (l.counter - 1) 0;
  room : l.capacity + 3 ≤ vec_capacity l.words;
  len : vec_len l.words ≡ l.counter + 3;
}
