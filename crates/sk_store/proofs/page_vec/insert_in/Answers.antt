use Rattle.std.proofs.Common.{Some}
use Rattle.sk_store.proofs.Changing.{changed_by_put}
use Rattle.sk_store.proofs.page_vec.insert_in.Goals as goal

pub returns-in-Ok-clause-some : goal.returns-in-Ok-clause-some
returns-in-Ok-clause-some c =
    changed_by_put c.args.pages.now.items c.args.page c.in-Ok.slot (Some c.args.cell.now) c.index_mut.result.now c.insert.new.self c.requires.there c.index_mut.ensures.value c.in-Ok.ensures.unused.0 c.in-Ok.ensures.ok.1
