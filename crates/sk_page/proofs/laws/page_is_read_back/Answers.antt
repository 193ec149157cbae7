use Rattle.sk_page.proofs.Again.{page_again}
use Rattle.sk_page.proofs.laws.page_is_read_back.Goals as goal

pub returns : goal.returns
returns c cells h = page_again cells h.few h.room
