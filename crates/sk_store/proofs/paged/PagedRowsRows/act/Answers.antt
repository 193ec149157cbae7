use Rattle.sk_store.proofs.Serving.{acted_all}
use Rattle.sk_store.proofs.paged.PagedRowsRows.act.Goals as goal

pub returns-clause-acts : goal.returns-clause-acts
returns-clause-acts g c = λ tables chains h.
    acted_all g.P.Pages.told (g.P.Pages.has c.args.self.now.pages) c.args.self.now.catalog c.args.self.now.heads.items c.act_at.new.heads.items tables chains c.args.table c.args.key.now h c.act_at.ensures.len c.args.act c.act_at.ensures.acts
