-- What linked traces promise: each transaction reads one prefix of one list with its own writes, and the first committer wins.
use Rattle.std.specs.Prelude.{◌≡◌, ℕ, ◌≤◌, List, [], true, IfSome}
use Rattle.std.specs.List.{AllByRecursion}
use Rattle.sk_model.specs.declared.engine.EngineName.{EngineName}
use Rattle.sk_model.specs.declared.commit.Commit.{Commit}
use Rattle.sk_model.specs.Database.{net}
use Rattle.sk_model.specs.Records.{FirstWins, Unlike, some_writes, own_place}
use Rattle.sk_model.specs.Stamped.{number_in}
use Rattle.sk_model.specs.Talks.{puts_in, TalkTold}
use Rattle.sk_model.specs.Places.{place}
use Rattle.sk_linked.specs.Reads.{Run, order_of, view_at, AreSorted}
use Rattle.sk_linked.specs.Traces.{drawn_at, Transaction, Traces, run_of, In, Linked}

-- the committed transaction whose commit it is, with its numbers and with what its writes come to
pub record Author (ts : List Transaction) (c : Commit) : Type 0 where
  pub who : Transaction
  pub among : In who ts
  pub committed : who.committed ≡ true
  pub label : c.label ≡ who.label
  pub numbers : (name : EngineName) → number_in name c ≡ drawn_at name who.drew
  pub writes : c.writes ≡ net (puts_in who.talk)

-- the transaction's commit is in the list
pub record Stands (order : List Commit) (t : Transaction) : Type 0 where
  pub entry : Commit
  pub among : In entry order
  pub is : entry.label ≡ t.label

-- the length of the prefix that the transaction reads
abbrev pub place_of : Run → Transaction → ℕ
place_of run t = place (order_of run) t.snapshots.mem t.snapshots.store

-- where its commit stands in the list, the transaction read no more than what stands before it, and nothing between wrote a row that it wrote
abbrev pub WinsFirst : Run → Transaction → Type 0
WinsFirst run t = IfSome (own_place (order_of run) t.label) (λ q. (place_of run t ≤ q) × FirstWins (order_of run) (place_of run t) q (puts_in t.talk))

pub record Headline (h : Traces) : Type 0 where
  -- each transaction's reads are those of the prefix at its place, with its own writes
  pub told : AllByRecursion (λ (t : Transaction). TalkTold (view_at (run_of h) t.snapshots []) t.talk) h.transactions
  -- the list is exactly what committed and wrote, each once
  pub authors : AllByRecursion (Author h.transactions) (order_of (run_of h))
  pub stands : AllByRecursion (λ (t : Transaction). t.committed ≡ true → some_writes (puts_in t.talk) ≡ true → Stands (order_of (run_of h)) t) h.transactions
  pub unlike : Unlike (order_of (run_of h))
  -- the first committer wins
  pub wins : AllByRecursion (WinsFirst (run_of h)) h.transactions

-- linked traces over tables in order are of one database
abbrev pub LinkedIsOne : Type 0
LinkedIsOne = (h : Traces) → Linked h → AreSorted h.rows → Headline h
