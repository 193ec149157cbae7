-- The puts are the journal's.
use Rattle.std.specs.Prelude.{List}
use Rattle.std.proofs.Common.{◌∙◌}
use Rattle.std.proofs.lemmas.Result.{IfOk-weaker}
use Rattle.sk_model.specs.declared.commit.Commit.{Commit}
use Rattle.sk_ledger.proofs.Placing.{from_journal}
use Rattle.sk_ledger.proofs.listing.commits.Goals as goal

pub returns : goal.returns
returns c = IfOk-weaker c.in_order.result _ _ (λ (cs : List Commit) is. is ∙ c.in_ok-numbered.ensures ∙ from_journal c.args.name c.in_ok-puts.puts.entries c.args.journal.now c.in_ok-puts.ensures c.args.records.now) c.in_order.ensures
