use Rattle.sk_store.proofs.Serving.{forgot_all}
use Rattle.sk_store.proofs.paged.PagedRowsRows.forget.Goals as goal

pub returns-clause-forgets : goal.returns-clause-forgets
returns-clause-forgets g c = λ tables chains h.
    forgot_all g.P.Pages.told (g.P.Pages.has c.args.self.now.pages) c.args.self.now.catalog c.args.self.now.heads.items c.forget_at.new.heads.items tables chains c.args.table c.args.key.now h c.forget_at.ensures.len c.args.upto c.forget_at.ensures.forgets
