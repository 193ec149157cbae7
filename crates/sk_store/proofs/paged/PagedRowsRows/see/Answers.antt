use Rattle.sk_store.proofs.Lifting.{kept_all}
use Rattle.sk_store.proofs.paged.PagedRowsRows.see.Goals as goal

pub returns-clause-keeps : goal.returns-clause-keeps
returns-clause-keeps g c = λ tables chains h. record { catalog = h.catalog; count = h.count; all = kept_all g.P.Pages.told _ _ _ tables chains c.read_at.ensures.keeps h.all }

pub returns-clause-reads : goal.returns-clause-reads
returns-clause-reads g c = c.read_at.ensures.reads
