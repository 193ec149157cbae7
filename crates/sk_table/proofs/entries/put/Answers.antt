-- The entry with this key is replaced.
use Rattle.std.proofs.Common.{rules, sym, ap, ◌∙◌, slice_get}
use Rattle.sk_table.specs.Entries.{count_below, is_tied}
use Rattle.sk_table.proofs.Placing.{replaced}
use Rattle.sk_table.proofs.entries.put.Goals as goal

pub returns-in_ok-insert : goal.returns-in_ok-insert
returns-in_ok-insert g c =
    replaced g.K.Ord.cmp c.args.key c.args.value c.args.entries.now.items c.remove-old.result c.count_below-at.result c.remove-old.new.self.items c.insert.new.self.items
    (c.count_below-at.ensures.count ∙ ap (λ es. count_below g.K.Ord.cmp c.args.key es) c.as_slice.ensures.value) (search rules)
    (ap (λ es. is_tied g.K.Ord.cmp c.args.key (slice_get es c.count_below-at.result)) (sym c.as_slice-2.ensures.value) ∙ sym c.is_tied.ensures.tied ∙ c.if-is_tied.true) (search rules) (search rules)
