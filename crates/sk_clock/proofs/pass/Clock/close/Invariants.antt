use Rattle.std.proofs.Common.{◌≡◌, ◌+◌, ◌-◌, ◌*◌, ◌%◌, ◌≤◌, get_or, length, map, vec_len}
use Rattle.std.specs.Prelude.{vec_capacity}
use Rattle.std.specs.Slots.{slots_items}
use Rattle.sk_clock.specs.Of.{start_of}
use Rattle.sk_clock.specs.Closes.{own_of}
use Rattle.sk_clock.proofs.Ends.{Reads}
use Rattle.sk_clock.proofs.pass.Clock.close.Given as goal

-- reading has come to the point `at`, and `next` stands behind it
abbrev pub invariant-loop-word : goal.invariant-loop-word
invariant-loop-word l = record {
  reads : Reads (start_of l.fn.self) (map own_of l.fn.passes.items) (slots_items l.words.words) l.at l.word l.points.items;
  read : l.next ≡ get_or (slots_items l.words.words) ((l.at + 1) % (l.fn.self.parts * l.fn.self.size) + 3) 0;
  room : l.fn.self.parts * l.fn.self.size ≤ vec_capacity l.points;
  len : vec_len l.points ≡ length l.points.items;
}

abbrev pub decreases-loop-word : goal.decreases-loop-word
decreases-loop-word l = 9223372036854775808 - l.at
