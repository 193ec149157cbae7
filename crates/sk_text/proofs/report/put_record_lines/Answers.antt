use Rattle.std.specs.BTreeSet.{contains}
use Rattle.sk_model.specs.Engine.{label_cmp}
use Rattle.sk_text.proofs.Named.{one_line}
use Rattle.sk_text.proofs.report.put_record_lines.Goals as goal

pub loop-records-preserved : goal.loop-records-preserved
loop-records-preserved c =
    one_line (contains label_cmp c.args.named.now) _ _ _ c.loop-records.records.now c.loop-records.places.now c.first-item.result c.in-len1-up.len_at_least c.in-len1-up-places.len_at_least c.first-item.is
    c.loop-records.invariant c.in_ok-put_line_of.ensures
