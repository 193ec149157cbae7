-- The ledger's commits are the run's.
use Rattle.std.specs.Prelude.{List}
use Rattle.std.proofs.Common.{◌∙◌}
use Rattle.std.proofs.lemmas.Result.{IfOk-weaker}
use Rattle.sk_model.specs.declared.commit.Commit.{Commit}
use Rattle.sk_linked.specs.Kept.{Play}
use Rattle.sk_ledger.proofs.Whole.{can_weave, woven}
use Rattle.sk_ledger.proofs.listing.order.Goals as goal

pub weave-requires : goal.weave-requires
weave-requires c = can_weave c.requires.0 c.args.mem.now c.args.store.now c.args.points.now c.args.records.now c.requires.1 c.as_slice.result.now c.as_slice-2.result.now
    (c.as_slice.ensures ∙ c.in_ok-mem.ensures) (c.as_slice-2.ensures ∙ c.in_ok-store.ensures)

pub returns : goal.returns
returns c = IfOk-weaker c.weave.result _ _
    (λ (order : List Commit) is (p : Play) left. is ∙ woven p c.args.mem.now c.args.store.now c.args.points.now c.args.records.now left c.as_slice.result.now c.as_slice-2.result.now
    (c.as_slice.ensures ∙ c.in_ok-mem.ensures) (c.as_slice-2.ensures ∙ c.in_ok-store.ensures))
    c.weave.ensures
