-- The ledger has the commits of a run's transactions, and so they can be woven, to the one list.
use Rattle.std.specs.Prelude.{◌≡◌, List, [], ◌∷◌, ◌++◌, map}
use Rattle.std.proofs.Common.{refl, sym, ap, subst, ◌∙◌}
use Rattle.std.specs.List.{flat_map}
use Rattle.sk_model.specs.declared.engine.EngineName.{EngineName}
use Rattle.sk_model.specs.declared.engine.EngineName.TheVariants.{Mem, Store}
use Rattle.sk_model.specs.declared.commit.Write.{Write}
use Rattle.sk_model.specs.declared.commit.Commit.{Commit}
use Rattle.sk_model.specs.declared.point.Point.{Point}
use Rattle.sk_model.specs.declared.record.Record.{Record}
use Rattle.sk_model.specs.declared.call.Entry.{Entry}
use Rattle.sk_model.specs.Database.{net}
use Rattle.sk_model.specs.Talks.{wrote_in}
use Rattle.sk_model.proofs.Lists.{Each, each_front, each_end}
use Rattle.sk_linked.specs.Reads.{order_of}
use Rattle.sk_weave.specs.Weave.{weave}
use Rattle.sk_weave.specs.Woven.{IsWeavable}
use Rattle.sk_linked.specs.Traces.{Transaction, Traces, commit_in, added, commits_in, run_of, In, Linked}
use Rattle.sk_linked.specs.Joining.{all_transactions}
use Rattle.sk_linked.specs.Kept.{Account, Session, Play, transaction_in, transactions_in, share_in, records_in, traces_in}
use Rattle.sk_linked.proofs.Members.{in_each}
use Rattle.sk_linked.proofs.Grounds.{belongs, puts_wrote, is_run}
use Rattle.sk_linked.proofs.Kept.{sessions_are_one}
use Rattle.sk_ledger.specs.Ledger.{number_of, entered, committed_in, LedgerIsRun, IsLeftBy}

module _ (p : Play) (name : EngineName) (l : Linked (traces_in p)) where
  abbrev h : Traces
  h = traces_in p

  abbrev Among : Transaction → Type 0
  Among t = In t h.transactions

  abbrev kept : Account → Record
  kept a = a.kept

  -- what a record of the run committed is what its transaction did
  one : (a : Account) → Among (transaction_in a) → entered (p.journals name) a.kept ≡ commit_in p.catalog name (transaction_in a)
  one a i = ap (λ (ws : List Write). record { label = a.kept.label; mem = a.kept.drew_mem; store = a.kept.drew_store; writes = net ws })
      (ap wrote_in ((belongs h l (transaction_in a) i).entries name) ∙ sym (puts_wrote h l name (transaction_in a) i))

  accounts : (xs : List Account) (rs : List Record) (ts : List Transaction) → Each Among (map transaction_in xs) → committed_in name (p.journals name) rs ≡ commits_in p.catalog name ts
      → committed_in name (p.journals name) (map kept xs ++ rs) ≡ commits_in p.catalog name (map transaction_in xs ++ ts)
  accounts [] rs ts k is = is
  accounts (a ∷ xs) rs ts k is =
      ap (λ (c : Commit). added name (number_of name a.kept) c (committed_in name (p.journals name) (map kept xs ++ rs))) (one a k.0)
      ∙ ap (added name (number_of name a.kept) (commit_in p.catalog name (transaction_in a))) (accounts xs rs ts k.1 is)

  abbrev transactions : List Session → List Transaction
  transactions ss = all_transactions (map (share_in p.journals) ss)

  sessions : (ss : List Session) → Each Among (transactions ss) → committed_in name (p.journals name) (flat_map (λ (s : Session). map (λ (a : Account). a.kept) s.accounts) ss) ≡ commits_in p.catalog name (transactions ss)
  sessions [] k = refl
  sessions (s ∷ ss) k = accounts s.accounts (flat_map (λ (s : Session). map (λ (a : Account). a.kept) s.accounts) ss) (transactions ss)
      (each_front Among (transactions_in s) (transactions ss) k) (sessions ss (each_end Among (transactions_in s) (transactions ss) k))

  pub all : committed_in name (p.journals name) (records_in p) ≡ commits_in p.catalog name h.transactions
  all = sessions p.sessions (in_each Among h.transactions (λ t i. i))

pub ledger_is_run : LedgerIsRun
ledger_is_run p name play = all p name (sessions_are_one p play).linked

-- ---- what a run left

module _ (p : Play) (mem store : List Entry) (points : List Point) (records : List Record) (left : IsLeftBy p mem store points records) where
  abbrev ms : List Commit
  ms = commits_in p.catalog Mem (traces_in p).transactions

  abbrev ns : List Commit
  ns = commits_in p.catalog Store (traces_in p).transactions

  mem_commits : committed_in Mem mem records ≡ ms
  mem_commits = ap (λ js. committed_in Mem js records) left.mem_is ∙ ap (committed_in Mem (p.journals Mem)) left.records_are ∙ ledger_is_run p Mem left.is_play

  store_commits : committed_in Store store records ≡ ns
  store_commits = ap (λ js. committed_in Store js records) left.store_is ∙ ap (committed_in Store (p.journals Store)) left.records_are ∙ ledger_is_run p Store left.is_play

  pub can_weave : (cs ds : List Commit) → cs ≡ committed_in Mem mem records → ds ≡ committed_in Store store records → IsWeavable points cs ds
  can_weave cs ds c d = subst (λ ps. IsWeavable ps cs ds) (sym left.points_are)
      (subst (λ xs. IsWeavable (p.first ∷ p.points) xs ds) (sym (c ∙ mem_commits))
      (subst (λ xs. IsWeavable (p.first ∷ p.points) ms xs) (sym (d ∙ store_commits)) (is_run (traces_in p) (sessions_are_one p left.is_play).linked).weavable))

  pub woven : (cs ds : List Commit) → cs ≡ committed_in Mem mem records → ds ≡ committed_in Store store records → weave points cs ds ≡ order_of (run_of (traces_in p))
  woven cs ds c d =
      ap (λ ps. weave ps cs ds) left.points_are ∙ ap (λ xs. weave (p.first ∷ p.points) xs ds) (c ∙ mem_commits) ∙ ap (λ xs. weave (p.first ∷ p.points) ms xs) (d ∙ store_commits)
