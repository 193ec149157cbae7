use Rattle.std.proofs.Common.{◌≡◌, drop}
use Rattle.sk_codec.specs.Reading.{rest_of, IsPlace}
use Rattle.sk_codec.proofs.Loops.{with_front}
use Rattle.sk_log.specs.Images.{all_rows_at}
use Rattle.std.specs.List.{AllByRecursion}
use Rattle.sk_recover.specs.Taking.{Rise}
use Rattle.sk_recover.proofs.image.all_rows_at.Given as goal

abbrev pub invariant-loop-table : goal.invariant-loop-table
invariant-loop-table l = record {
  reads : with_front l.all.items (all_rows_at (drop l.table-index l.tables) (rest_of l.left)) ≡ all_rows_at l.tables (rest_of l.rest);
  place : IsPlace l.left.place l.left.bytes.now;
  rise : AllByRecursion Rise l.all.items;
}
