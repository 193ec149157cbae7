use Rattle.std.proofs.Common.{◌<◌, length, get_or, slice_set, ap, ◌∙◌, arith}
use Rattle.sk_undo.specs.Log.{Log, trimmed}
use Rattle.sk_undo.proofs.Trims.{trim_more, at_trim}
use Rattle.sk_undo.proofs.undo.trim.Goals as goal

pub loop-at-preserved : goal.loop-at-preserved
loop-at-preserved c =
    let xs = c.args.slots.now.items in
    let i = c.loop-at.at in
    let d = c.index_mut.result.now in
    let upto = c.args.upto in
    let lt : i < length xs = omega (arith, c.len-at-end.ensures) in
    let e = c.trim_one.ensures ∙ ap (trimmed upto) (c.index_mut.ensures.value ∙ ap (λ (l : Log). get_or l i d) c.loop-at.invariant ∙ at_trim upto xs i d lt) in
    ap (λ (l : Log). slice_set l i c.trim_one.new.slot) c.loop-at.invariant ∙ trim_more upto xs i c.trim_one.new.slot d lt e
