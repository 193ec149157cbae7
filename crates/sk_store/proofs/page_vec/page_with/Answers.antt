use Rattle.std.proofs.Common.{length, arith}
use Rattle.sk_store.proofs.Changing.{fits_new}
use Rattle.sk_store.proofs.page_vec.page_with.Goals as goal

pub unreachable-requires : goal.unreachable-requires
unreachable-requires c =
    let free = c.in-Err.ensures.full.0 in
    let need = c.in-Err.ensures.full.1 in
    let less = c.in-Err.ensures.full.2 in
    fits_new c.new-page.result (length c.args.cell.now) c.new-page.ensures c.requires (omega arith)
