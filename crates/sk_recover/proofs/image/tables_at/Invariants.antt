use Rattle.std.proofs.Common.{◌≡◌, ◌-◌, [], length}
use Rattle.sk_codec.specs.Reading.{rest_of, IsPlace}
use Rattle.sk_codec.proofs.Loops.{with_front}
use Rattle.sk_recover.specs.Views.{tables_at}
use Rattle.sk_recover.proofs.image.tables_at.Given as goal

abbrev pub invariant-loop : goal.invariant-loop
invariant-loop l = record {
  reads : with_front l.catalog (tables_at (l.count - l.counter) l.catalog (rest_of l.left)) ≡ tables_at l.count [] (rest_of l.rest);
  place : IsPlace l.left.place l.left.bytes.now;
  counted : length l.catalog ≡ l.counter;
}
