use Rattle.std.proofs.Common.{length, ap, ◌∙◌}
use Rattle.sk_store.proofs.Beginning.{begins}
use Rattle.sk_store.proofs.first.bare_rows.Goals as goal

pub returns : goal.returns
returns c =
    begins c.in_ok-kept.kept c.args.catalog.now c.in_ok-heads.heads.items c.new.result c.in_ok-kept.ensures (c.in_ok-heads.ensures.count ∙ ap length c.tables.ensures.value) c.in_ok-heads.ensures.heads
