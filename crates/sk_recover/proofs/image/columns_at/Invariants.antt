use Rattle.std.proofs.Common.{◌≡◌, ◌-◌, ◌≤◌, []}
use Rattle.sk_codec.specs.Reading.{rest_of, IsPlace}
use Rattle.sk_codec.proofs.Loops.{with_front}
use Rattle.sk_recover.specs.Taking.{AreGood}
use Rattle.sk_recover.specs.Views.{columns_at}
use Rattle.sk_recover.proofs.image.columns_at.Given as goal

abbrev pub invariant-loop : goal.invariant-loop
invariant-loop l = record {
  reads : with_front l.columns.items (columns_at (l.count - l.counter) l.columns.items (rest_of l.left)) ≡ columns_at l.count [] (rest_of l.rest);
  place : IsPlace l.left.place l.left.bytes.now;
  good : AreGood l.counter l.columns.items;
  most : l.counter ≤ l.count;
}
