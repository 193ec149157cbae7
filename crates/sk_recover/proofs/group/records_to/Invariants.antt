use Rattle.std.proofs.Common.{◌≡◌, ◌-◌, ◌≤◌, true}
use Rattle.sk_codec.specs.Reading.{rest_of, IsPlace}
use Rattle.sk_model.specs.Numbers.{greatest_number}
use Rattle.sk_log.specs.Groups.{records_to}
use Rattle.sk_recover.proofs.Ranges.{with_records}
use Rattle.sk_recover.proofs.group.records_to.Given as goal

abbrev pub invariant-loop : goal.invariant-loop
invariant-loop l = record {
  reads : with_records l.logged.items (records_to l.tables true (l.fuel - l.counter) l.end l.upto l.last (rest_of l.left)) ≡ records_to l.tables true l.fuel l.end l.upto l.above (rest_of l.rest);
  place : IsPlace l.left.place l.left.bytes.now;
  small : l.last ≤ greatest_number;
}
