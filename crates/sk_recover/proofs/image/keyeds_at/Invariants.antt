use Rattle.std.proofs.Common.{◌≡◌, ◌-◌, []}
use Rattle.sk_codec.specs.Reading.{rest_of, IsPlace}
use Rattle.sk_codec.proofs.Loops.{with_front}
use Rattle.sk_recover.specs.Taking.{Rise}
use Rattle.sk_recover.specs.Views.{keyeds_at}
use Rattle.sk_recover.proofs.image.keyeds_at.Given as goal

abbrev pub invariant-loop : goal.invariant-loop
invariant-loop l = record {
  reads : with_front l.rows.items (keyeds_at l.columns (l.count - l.counter) l.rows.items (rest_of l.left)) ≡ keyeds_at l.columns l.count [] (rest_of l.rest);
  place : IsPlace l.left.place l.left.bytes.now;
  rise : Rise l.rows.items;
}
