-- Each commit of a run's list has the numbers that the transaction of its label drew.
use Rattle.std.specs.Prelude.{◌≡◌, List, [], ◌∷◌, map}
use Rattle.std.specs.List.{flat_map}
use Rattle.std.proofs.Common.{refl, sym, ap, ◌∙◌, inl, inr, ⊎_elim}
use Rattle.sk_model.specs.declared.engine.EngineName.{EngineName}
use Rattle.sk_model.specs.declared.engine.EngineName.TheVariants.{Mem, Store}
use Rattle.sk_model.specs.declared.call.Entry.{Entry}
use Rattle.sk_model.specs.declared.record.Record.{Record}
use Rattle.sk_linked.specs.Reads.{order_of}
use Rattle.sk_linked.specs.Joining.{all_transactions}
use Rattle.sk_linked.specs.Kept.{Account, Session, Play, transaction_in, transactions_in, share_in, records_in, traces_in, IsPlay}
use Rattle.sk_linked.specs.Traces.{Transaction, Traces, drawn_at, run_of, In, Linked}
use Rattle.sk_linked.proofs.Authors.{Committer, committers}
use Rattle.sk_linked.proofs.Kept.{sessions_are_one}
use Rattle.sk_linked.proofs.Members.{in_append, in_front, in_either, each_in, distinct_same}
use Rattle.sk_run.specs.Numbered.{AreByRecords}

-- the account of a record whose transaction is one of these
record Told (r : Record) (ts : List Transaction) : Type 0 where
  account : Account
  is : account.kept ≡ r
  among : In (transaction_in account) ts

told_by : (r : Record) (accounts : List Account) → In r (map (λ (a : Account). a.kept) accounts) → Told r (map transaction_in accounts)
told_by r [] i = absurd i
told_by r (a ∷ rest) i = ⊎_elim
    (λ (e : r ≡ a.kept). record { account = a; is = sym e; among = inl refl })
    (λ (k : In r (map (λ (b : Account). b.kept) rest)). let t : Told r (map transaction_in rest) = told_by r rest k in record { account = t.account; is = t.is; among = inr t.among })
    i

told_in : (js : EngineName → List Entry) (r : Record) (ss : List Session) → In r (flat_map (λ (s : Session). map (λ (a : Account). a.kept) s.accounts) ss) → Told r (all_transactions (map (share_in js) ss))
told_in js r [] i = absurd i
told_in js r (s ∷ ss) i = ⊎_elim
    (λ (k : In r (map (λ (a : Account). a.kept) s.accounts)).
    let t : Told r (transactions_in s) = told_by r s.accounts k in
    record { account = t.account; is = t.is; among = in_front (transaction_in t.account) (transactions_in s) (all_transactions (map (share_in js) ss)) t.among })
    (λ (k : In r (flat_map (λ (u : Session). map (λ (a : Account). a.kept) u.accounts) ss)).
    let t : Told r (all_transactions (map (share_in js) ss)) = told_in js r ss k in
    record { account = t.account; is = t.is; among = in_append (transaction_in t.account) (transactions_in s) (all_transactions (map (share_in js) ss)) t.among })
    (in_either r (map (λ (a : Account). a.kept) s.accounts) (flat_map (λ (u : Session). map (λ (a : Account). a.kept) u.accounts) ss) i)

pub numbered : (p : Play) → IsPlay p → AreByRecords (order_of (run_of (traces_in p))) (records_in p)
numbered p is c i r j same =
    let h : Traces = traces_in p in
    let l : Linked h = (sessions_are_one p is).linked in
    let k : Committer h.transactions c = each_in (Committer h.transactions) (order_of (run_of h)) c (committers h l) i in
    let t : Told r h.transactions = told_in p.journals r p.sessions j in
    let who : k.who ≡ transaction_in t.account =
    distinct_same h.transactions k.who (transaction_in t.account) l.distinct k.among t.among (sym k.label ∙ same ∙ sym (ap (λ (x : Record). x.label) t.is)) in
    record {
      mem = k.numbers Mem ∙ ap (λ (x : Transaction). drawn_at Mem x.drew) who ∙ ap (λ (x : Record). x.drew_mem) t.is;
      store = k.numbers Store ∙ ap (λ (x : Transaction). drawn_at Store x.drew) who ∙ ap (λ (x : Record). x.drew_store) t.is;
      some = (k.engine, k.number, k.numbers k.engine ∙ k.drew);
    }
