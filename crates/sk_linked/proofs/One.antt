-- Linked traces are of one database.
use Rattle.sk_linked.specs.Headline.{LinkedIsOne}
use Rattle.sk_linked.proofs.Members.{in_each}
use Rattle.sk_linked.proofs.Telling.{told}
use Rattle.sk_linked.proofs.Authors.{authors, stands, unlike}
use Rattle.sk_linked.proofs.Winning.{wins_first}

pub one : LinkedIsOne
one h l sorted = record {
  told = in_each _ h.transactions (λ t i. told h l sorted t i);
  authors = authors h l;
  stands = in_each _ h.transactions (λ t i. stands h l t i);
  unlike = unlike h l;
  wins = in_each _ h.transactions (λ t i. wins_first h l t i);
}
