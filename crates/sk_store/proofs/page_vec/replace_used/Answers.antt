use Rattle.std.proofs.Common.{Some}
use Rattle.sk_store.proofs.Changing.{changed_by_put, used_at, used_within}
use Rattle.sk_store.proofs.page_vec.replace_used.Goals as goal

pub replace-requires-clause-used : goal.replace-requires-clause-used
replace-requires-clause-used c = used_at c.args.pages.now.items c.args.page c.args.slot c.index_mut.result.now c.requires.there c.index_mut.ensures.value c.requires.used

pub returns-in-Ok-clause-done : goal.returns-in-Ok-clause-done
returns-in-Ok-clause-done c t =
    changed_by_put c.args.pages.now.items c.args.page c.args.slot (Some c.args.cell.now) c.index_mut.result.now c.replace.new.self c.requires.there c.index_mut.ensures.value
    (used_within c.index_mut.result.now c.args.slot (used_at c.args.pages.now.items c.args.page c.args.slot c.index_mut.result.now c.requires.there c.index_mut.ensures.value c.requires.used)) c.in-Ok.ensures.ok.0
