-- The points are those of whatever it stands for behind the call.
use Rattle.std.proofs.Common.{ℕ, subst}
use Rattle.sk_linked.specs.Reads.{number_at}
use Rattle.sk_run.specs.Flushing.{Joins}
use Rattle.sk_run.proofs.Stands.{mem_stands, store_stands}
use Rattle.sk_run.proofs.Finding.{joins_points}
use Rattle.sk_run.proofs.flushing.joined.Goals as goal

pub returns-clause-joins : goal.returns-clause-joins
returns-clause-joins c =
    subst (λ (n : ℕ). Joins mem_stands store_stands c.args.shared.now c.args.name n (number_at c.args.name c.args.cut) c.args.durable.a c.in_ok-join.field-0 c.records.new.shared) c.number_at-from.ensures
    (subst (λ (n : ℕ). Joins mem_stands store_stands c.args.shared.now c.args.name c.number_at-from.result n c.args.durable.a c.in_ok-join.field-0 c.records.new.shared) c.number_at-to.ensures
    (joins_points mem_stands store_stands c.args.shared.now c.records.new.shared c.args.name c.number_at-from.result c.number_at-to.result c.args.durable c.in_ok-commits.commits c.in_ok-join.field-0 c.points_from.result.now
    c.in_ok-commits.ensures.gives c.points_from.ensures c.in_ok-join.ensures))
