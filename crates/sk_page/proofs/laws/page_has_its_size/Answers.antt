use Rattle.sk_page.proofs.Again.{page_size}
use Rattle.sk_page.proofs.laws.page_has_its_size.Goals as goal

pub returns : goal.returns
returns c cells h = page_size cells h.room
