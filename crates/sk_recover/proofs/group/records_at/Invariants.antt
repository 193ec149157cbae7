use Rattle.std.proofs.Common.{◌≡◌, ◌-◌, ◌≤◌}
use Rattle.sk_codec.specs.Reading.{rest_of, IsPlace}
use Rattle.sk_model.specs.Numbers.{greatest_number}
use Rattle.sk_codec.proofs.Loops.{with_front}
use Rattle.sk_log.specs.Groups.{records_at}
use Rattle.sk_recover.proofs.group.records_at.Given as goal

abbrev pub invariant-loop : goal.invariant-loop
invariant-loop l = record {
  reads : with_front l.logged.items (records_at l.tables l.store (l.count - l.counter) l.upto l.last (rest_of l.left)) ≡ records_at l.tables l.store l.count l.upto l.above (rest_of l.rest);
  place : IsPlace l.left.place l.left.bytes.now;
  small : l.last ≤ greatest_number;
}
