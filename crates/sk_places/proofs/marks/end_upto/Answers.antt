use Rattle.std.proofs.Common.{ℕ, ◌-◌, leb, sym, arith, rules}
use Rattle.std.proofs.lemmas.List.Sorted.{IsPartitionPoint-from_clause, IsPartitionedBy-leb}
use Rattle.sk_places.specs.declared.marks.Mark.{Mark}
use Rattle.sk_places.proofs.Halving.{none_upto, last_upto}
use Rattle.sk_places.proofs.marks.end_upto.Goals as goal

pub returns-then-behind-eq0 : goal.returns-then-behind-eq0
returns-then-behind-eq0 c =
    let parted = IsPartitionedBy-leb (λ (m : Mark). m.n) c.args.marks.now c.args.upto c.requires in
    let at = IsPartitionPoint-from_clause (λ (m : Mark). leb m.n c.args.upto) c.args.marks.now c.partition_point-behind.result c.partition_point-behind.ensures.partitioned parted (λ a r q k. search rules) in
    let none : Mark = record { n = 0; end = 0 } in
    sym (none_upto 0 c.args.upto c.args.marks.now none (λ k l. at.1 k none (omega arith) l))

pub returns-else-behind-eq0 : goal.returns-else-behind-eq0
returns-else-behind-eq0 c =
    let parted = IsPartitionedBy-leb (λ (m : Mark). m.n) c.args.marks.now c.args.upto c.requires in
    let at = IsPartitionPoint-from_clause (λ (m : Mark). leb m.n c.args.upto) c.args.marks.now c.partition_point-behind.result c.partition_point-behind.ensures.partitioned parted (λ a r q k. search rules) in
    let none : Mark = record { n = 0; end = 0 } in
    let behind : ℕ = c.partition_point-behind.result in
    sym (last_upto 0 c.args.upto c.args.marks.now (behind - 1) none (omega arith) (at.0 (behind - 1) none (omega arith) (omega arith)) (λ k m l. at.1 k none (omega arith) l))
