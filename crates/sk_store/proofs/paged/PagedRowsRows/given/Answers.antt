use Rattle.sk_store.proofs.Lifting.{kept_all}
use Rattle.sk_store.proofs.paged.PagedRowsRows.given.Goals as goal

pub returns-clause-keeps : goal.returns-clause-keeps
returns-clause-keeps g c = λ tables chains h. record { catalog = h.catalog; count = h.count; all = kept_all g.P.Pages.told _ _ _ tables chains c.given_at.ensures.keeps h.all }

pub returns-clause-gives : goal.returns-clause-gives
returns-clause-gives g c = c.given_at.ensures.gives
