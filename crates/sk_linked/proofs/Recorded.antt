-- The records of linked traces are of one database.
use Rattle.std.specs.Prelude.{◌≡◌, ℕ, ◌<◌, ◌≤◌, ◌⊎◌, List, [], ◌∷◌, ◌++◌, Option, Some, None, Bool, true, false, cond, ◌&&◌, map, take, is_some, IfSome}
use Rattle.std.proofs.Common.{refl, sym, ap, subst, ◌∙◌, inl, inr, ⊎_elim, arith}
use Rattle.std.specs.List.{filter, flat_map, AllByRecursion, IsDistinct}
use Rattle.std.specs.List.Sorted.{IsPermutation}
use Rattle.std.proofs.lemmas.Bool.{cond_both, cond-true, cond-false, false≢true, and_parts, and_from}
use Rattle.std.proofs.lemmas.List.Concat.{flat_map-append}
use Rattle.std.proofs.lemmas.List.Sorted.{IsPermutation-refl, IsPermutation-cons, IsPermutation-middle, IsPermutation-sym, IsPermutation-trans}
use Rattle.sk_rows.specs.declared.table.Table.{Table}
use Rattle.sk_model.specs.declared.label.Label.{Label}
use Rattle.sk_model.specs.declared.engine.EngineName.{EngineName}
use Rattle.sk_model.specs.declared.engine.EngineName.TheVariants.{Mem, Store}
use Rattle.sk_model.specs.declared.commit.Write.{Write}
use Rattle.sk_model.specs.declared.commit.Commit.{Commit}
use Rattle.sk_model.specs.declared.record.Record.{Record}
use Rattle.sk_model.specs.Database.{RowOf, net, state, hits}
use Rattle.sk_model.specs.Records.{written, is_committed, some_writes, commits_of, same_label, own_place, FirstWins, EachAt, all_commits, Explained, ReadsAt, Unlike, WinsFirst as RecordWins}
use Rattle.sk_model.specs.Numbers.{Rises}
use Rattle.sk_model.specs.Places.{place}
use Rattle.sk_model.specs.Calls.{last_row}
use Rattle.sk_model.specs.Stamped.{number_in}
use Rattle.sk_model.specs.Talks.{puts_in, wrote_in, TalkTold}
use Rattle.sk_model.proofs.Lists.{Each}
use Rattle.sk_model.proofs.Labels.{same_is, same_itself}
use Rattle.sk_model.proofs.Lookups.{hits_itself}
use Rattle.sk_model.proofs.Nets.{net_row}
use Rattle.sk_model.proofs.TalksTold.{talks_told, talks_wrote}
use Rattle.sk_weave.specs.Woven.{parts_at, own_writes, parts}
use Rattle.sk_linked.specs.Reads.{number_at, owns, order_of, view_at, AreSorted}
use Rattle.sk_weave.proofs.Parts.{part_n}
use Rattle.sk_linked.specs.Traces.{drawn_at, Transaction, Traces, run_of, In, Drew, Distinct, close_entry, Linked}
use Rattle.sk_linked.specs.Headline.{Author, Stands, place_of, Headline, WinsFirst}
use Rattle.sk_linked.specs.Recorded.{IsRecordOf, AreRecords, RecordsAreOne, TalksMakeRecords}
use Rattle.sk_linked.proofs.Members.{in_each, each_in, in_append, in_front, in_either, each_flat, distinct_same}
use Rattle.sk_linked.proofs.Grounds.{belongs, puts_wrote}
use Rattle.sk_linked.proofs.Authors.{Committer, committers, parts_rise}
use Rattle.sk_linked.proofs.Winning.{SplitAt, found_at}
use Rattle.sk_linked.proofs.One.{one}

-- ---- lists without two alike are permutations where they have the same members

-- no two are alike
abbrev NoTwo : {X : Type 0} → (X → X → Bool) → List X → Type 0
NoTwo same [] = Unit {0}
NoTwo same (x ∷ xs) = Each (λ y. same x y ≡ false) xs × NoTwo same xs

pub record CutAt {X : Type 0} (x : X) (xs : List X) : Type 0 where
  pub front : List X
  pub back : List X
  pub is : xs ≡ front ++ x ∷ back

pub cut_at : {X : Type 0} (x : X) (xs : List X) → In x xs → CutAt x xs
cut_at x [] i = absurd i
cut_at {X = X} x (y ∷ ys) i = ⊎_elim
    (λ (e : x ≡ y). record { front = []; back = ys; is = ap (λ (z : X). z ∷ ys) (sym e) })
    (λ (k : In x ys). let c : CutAt x ys = cut_at x ys k in record { front = y ∷ c.front; back = c.back; is = ap (λ zs. y ∷ zs) c.is })
    i

module _ {X : Type 0} (same : X → X → Bool) (itself : (x : X) → same x x ≡ true) where
  two_less : (front back : List X) (x : X) → NoTwo same (front ++ x ∷ back) → NoTwo same (front ++ back)
  two_less [] back x h = h.1
  two_less (y ∷ front) back x h = (each_without (λ z. same y z ≡ false) front h.0, two_less front back x h.1)
    where
      each_without : (P : X → Type 0) (front : List X) → Each P (front ++ x ∷ back) → Each P (front ++ back)
      each_without P [] h = h.1
      each_without P (z ∷ zs) h = (h.0, each_without P zs h.1)

  -- it does not stand twice
  not_twice : (front back : List X) (x : X) → NoTwo same (front ++ x ∷ back) → In x (front ++ back) → ⊥
  not_twice [] back x h i = false≢true (sym (each_in (λ y. same x y ≡ false) back x h.0 i) ∙ itself x)
  not_twice (y ∷ front) back x h i = ⊎_elim
      (λ (e : x ≡ y). false≢true (sym (each_in (λ z. same y z ≡ false) (front ++ x ∷ back) x h.0 (in_append x front (x ∷ back) (inl refl))) ∙ ap (λ z. same y z) e ∙ itself y))
      (λ (k : In x (front ++ back)). not_twice front back x h.1 k)
      i

  in_less : (front back : List X) (x y : X) → In y (front ++ x ∷ back) → (y ≡ x) ⊎ In y (front ++ back)
  in_less front back x y i = ⊎_elim
      (λ (k : In y front). inr (in_front y front back k))
      (λ (k : In y (x ∷ back)). ⊎_elim (λ (e : y ≡ x). inl e) (λ (j : In y back). inr (in_append y front back j)) k)
      (in_either y front (x ∷ back) i)

  in_more : (front back : List X) (x y : X) → In y (front ++ back) → In y (front ++ x ∷ back)
  in_more front back x y i = ⊎_elim
      (λ (k : In y front). in_front y front (x ∷ back) k)
      (λ (k : In y back). in_append y front (x ∷ back) (inr k))
      (in_either y front back i)

  same_members : (xs ys : List X) → NoTwo same xs → NoTwo same ys → ((x : X) → In x xs → In x ys) → ((x : X) → In x ys → In x xs) → IsPermutation xs ys
  same_members [] [] h k f g = IsPermutation-refl []
  same_members [] (y ∷ ys) h k f g = absurd (g y (inl refl))
  same_members (x ∷ xs) ys h k f g = at (cut_at x ys (f x (inl refl))) (λ zs m a b. same_members xs zs h.1 m a b)
    where
      at : CutAt x ys → ((zs : List X) → NoTwo same zs → ((z : X) → In z xs → In z zs) → ((z : X) → In z zs → In z xs) → IsPermutation xs zs) → IsPermutation (x ∷ xs) ys
      at c ih = IsPermutation-trans (x ∷ xs) (x ∷ (c.front ++ c.back)) ys
          (IsPermutation-cons x xs (c.front ++ c.back) (ih (c.front ++ c.back) (two_less c.front c.back x there)
          (λ z i. ⊎_elim (λ (e : z ≡ x). absurd (false≢true (sym (each_in (λ y. same x y ≡ false) xs z h.0 i) ∙ ap (λ y. same x y) e ∙ itself x))) (λ (j : In z (c.front ++ c.back)). j) (in_less c.front c.back x z (subst (λ zs. In z zs) c.is (f z (inr i)))))
          (λ z i. ⊎_elim (λ (e : z ≡ x). absurd (not_twice c.front c.back x there (subst (λ w. In w (c.front ++ c.back)) e i))) (λ (j : In z xs). j) (g z (subst (λ zs. In z zs) (sym c.is) (in_more c.front c.back x z i))))))
          (subst (λ zs. IsPermutation (x ∷ (c.front ++ c.back)) zs) (sym c.is) (IsPermutation-sym (c.front ++ x ∷ c.back) (x ∷ (c.front ++ c.back)) (IsPermutation-middle c.front x c.back)))
        where
          there : NoTwo same (c.front ++ x ∷ c.back)
          there = subst (λ zs. NoTwo same zs) c.is k

-- ---- what writes come to

none_row : {A : Type 0} (x : Option RowOf) → None ≡ x → Some [] ≡ x → A
none_row x e f = absurd (clash (e ∙ sym f))
  where
    clash : ◌≡◌ {A = Option RowOf} None (Some []) → ⊥
    clash g = cc

-- some, where there are some
some_net : (ws : List Write) → some_writes (net ws) ≡ some_writes ws
some_net [] = refl
some_net (w ∷ ws) = go (net (w ∷ ws)) refl
  where
    last : (r : Option RowOf) → last_row w.table w.key r (w ∷ ws) ≡ last_row w.table w.key w.row ws
    last r = ap (λ x. last_row w.table w.key x ws) (cond-true (hits w.table w.key w) w.row r (hits_itself w))

    go : (xs : List Write) → net (w ∷ ws) ≡ xs → some_writes xs ≡ true
    go [] e = none_row (last_row w.table w.key w.row ws)
        (ap (λ vs. last_row w.table w.key None vs) (sym e) ∙ net_row w.table w.key None (w ∷ ws) ∙ last None)
        (ap (λ vs. last_row w.table w.key (Some []) vs) (sym e) ∙ net_row w.table w.key (Some []) (w ∷ ws) ∙ last (Some []))
    go (x ∷ xs) e = refl

some_front : (xs ys : List Write) → some_writes xs ≡ true → some_writes (xs ++ ys) ≡ true
some_front [] ys e = absurd (false≢true e)
some_front (x ∷ xs) ys e = refl

some_filter : (p : Write → Bool) (xs : List Write) → some_writes (filter p xs) ≡ true → some_writes xs ≡ true
some_filter p [] e = e
some_filter p (x ∷ xs) e = refl

-- ---- numbers rise along the list

numbers_rise : (number : Commit → Option ℕ) (owns : ℕ → Bool) (low from : ℕ) → low ≤ from → (cs : List Commit) → Rises part_n from (parts number owns cs) → Rises number low (filter (λ c. is_some (number c)) cs)
numbers_rise number owns low from l [] r = tt
numbers_rise number owns low from l (c ∷ cs) r = go (number c) refl r (λ below at m k. numbers_rise number owns below at m cs k)
  where
    go : (o : Option ℕ) → number c ≡ o → Rises part_n from (parts_at o c.label (own_writes owns c.writes) ++ parts number owns cs)
        → ((below at : ℕ) → below ≤ at → Rises part_n at (parts number owns cs) → Rises number below (filter (λ c. is_some (number c)) cs)) → Rises number low (cond (is_some (number c)) (c ∷ filter (λ c. is_some (number c)) cs) (filter (λ c. is_some (number c)) cs))
    go None e r ih = subst (λ (xs : List Commit). Rises number low xs) (sym (cond-false (is_some (number c)) (c ∷ filter (λ c. is_some (number c)) cs) (filter (λ c. is_some (number c)) cs) (ap (λ (o : Option ℕ). is_some o) e))) (ih low from l r)
    go (Some n) e r ih =
        let same : n ≡ r.0 = some_is r.1 in
        let past : from < r.0 = r.2 in
        subst (λ (xs : List Commit). Rises number low xs) (sym (cond-true (is_some (number c)) (c ∷ filter (λ c. is_some (number c)) cs) (filter (λ c. is_some (number c)) cs) (ap (λ (o : Option ℕ). is_some o) e)))
        (n, e, omega (arith, same, past, l), ih n r.0 (omega (arith, same)) r.3)
      where
        some_is : {a b : ℕ} → Some a ≡ Some b → a ≡ b
        some_is f = cc

-- ---- records at their places

each_at : (P : ℕ → Record → Type 0) (place_at : Transaction → ℕ) (catalog : List Table) (ts : List Transaction) (rs : List Record) → AreRecords catalog ts rs
    → ((t : Transaction) (r : Record) → In t ts → IsRecordOf catalog t r → P (place_at t) r) → EachAt P (map place_at ts) rs
each_at P place_at catalog [] [] a f = tt
each_at P place_at catalog [] (r ∷ rs) a f = absurd a
each_at P place_at catalog (t ∷ ts) [] a f = absurd a
each_at P place_at catalog (t ∷ ts) (r ∷ rs) a f = (f t r (inl refl) a.0, each_at P place_at catalog ts rs a.1 (λ x y i k. f x y (inr i) k))

-- the commit of a transaction over both engines
abbrev commit_for : Transaction → Commit
commit_for t = record { label = t.label; mem = t.drew.mem; store = t.drew.store; writes = net (puts_in t.talk) }

-- what it adds to the list
abbrev adds : Transaction → List Commit
adds t = cond (t.committed && some_writes (puts_in t.talk)) (commit_for t ∷ []) []

commit_is : (c d : Commit) → c.label ≡ d.label → c.mem ≡ d.mem → c.store ≡ d.store → c.writes ≡ d.writes → c ≡ d
commit_is c d l m s w = λ i. record { label = l i; mem = m i; store = s i; writes = w i }

in_adds : (t : Transaction) (c : Commit) → In c (adds t) → (t.committed ≡ true) × (some_writes (puts_in t.talk) ≡ true) × (c ≡ commit_for t)
in_adds t c i = go (t.committed && some_writes (puts_in t.talk)) refl i
  where
    go : (b : Bool) → (t.committed && some_writes (puts_in t.talk)) ≡ b → In c (cond b (commit_for t ∷ []) []) → (t.committed ≡ true) × (some_writes (puts_in t.talk) ≡ true) × (c ≡ commit_for t)
    go true e k = let p : (t.committed ≡ true) × (some_writes (puts_in t.talk) ≡ true) = and_parts t.committed (some_writes (puts_in t.talk)) e in (p.0, p.1, ⊎_elim (λ (s : c ≡ commit_for t). s) (λ (z : ⊥). absurd z) k)
    go false e k = absurd k

adds_it : (t : Transaction) → t.committed ≡ true → some_writes (puts_in t.talk) ≡ true → In (commit_for t) (adds t)
adds_it t c w = subst (λ (cs : List Commit). In (commit_for t) cs) (sym (cond-true (t.committed && some_writes (puts_in t.talk)) (commit_for t ∷ []) [] (and_from t.committed (some_writes (puts_in t.talk)) c w))) (inl refl)

in_all : (ts : List Transaction) (c : Commit) → In c (flat_map adds ts) → (t : Transaction) × In t ts × In c (adds t)
in_all [] c i = absurd i
in_all (t ∷ ts) c i = ⊎_elim
    (λ (k : In c (adds t)). (t, inl refl, k))
    (λ (k : In c (flat_map adds ts)). let w : (t : Transaction) × In t ts × In c (adds t) = in_all ts c k in (w.0, inr w.1, w.2))
    (in_either c (adds t) (flat_map adds ts) i)

all_in : (ts : List Transaction) (t : Transaction) (c : Commit) → In t ts → In c (adds t) → In c (flat_map adds ts)
all_in [] t c i k = absurd i
all_in (u ∷ ts) t c i k = ⊎_elim
    (λ (e : t ≡ u). in_front c (adds u) (flat_map adds ts) (subst (λ (x : Transaction). In c (adds x)) e k))
    (λ (j : In t ts). in_append c (adds u) (flat_map adds ts) (all_in ts t c j k))
    i

abbrev alike : Commit → Commit → Bool
alike c d = same_label c.label d.label

adds_apart : (ts : List Transaction) → Distinct ts → NoTwo alike (flat_map adds ts)
adds_apart [] d = tt
adds_apart (t ∷ ts) d = cond_both (t.committed && some_writes (puts_in t.talk)) (commit_for t ∷ []) [] (λ (cs : List Commit). NoTwo alike (cs ++ flat_map adds ts))
    (λ e. (
      each_flat (λ (c : Commit). same_label t.label c.label ≡ false) adds ts (in_each _ ts (λ u i. in_each _ (adds u) (λ c k.
          ap (λ (x : Commit). same_label t.label x.label) (in_adds u c k).2 ∙ each_in (λ (x : Transaction). same_label t.label x.label ≡ false) ts u d.0 i))),
      adds_apart ts d.1,
    ))
    (λ e. adds_apart ts d.1)

-- commits with unlike labels
unlike_two : (cs : List Commit) → Unlike cs → NoTwo alike cs
unfolding IsDistinct
unlike_two [] h = tt
unlike_two (c ∷ cs) h = (mapped cs h.0, unlike_two cs h.1)
  where
    mapped : (ds : List Commit) → AllByRecursion (λ (l : Label). same_label c.label l ≡ false) (map (λ (d : Commit). d.label) ds) → Each (λ (d : Commit). alike c d ≡ false) ds
    mapped [] k = tt
    mapped (d ∷ ds) k = (k.0, mapped ds k.1)

module _ (h : Traces) (l : Linked h) (sorted : AreSorted h.rows) where
  abbrev order : List Commit
  order = order_of (run_of h)

  abbrev placed : Transaction → ℕ
  placed t = place_of (run_of h) t

  head : Headline h
  head = one h l sorted

  told : (t : Transaction) → In t h.transactions → TalkTold (view_at (run_of h) t.snapshots []) t.talk
  told t i = each_in (λ (t : Transaction). TalkTold (view_at (run_of h) t.snapshots []) t.talk) h.transactions t head.told i

  -- who stands in the list is committed
  stands_committed : (t : Transaction) → In t h.transactions → (q : ℕ) → own_place order t.label ≡ Some q → t.committed ≡ true
  stands_committed t i q e =
      let s : SplitAt (λ (c : Commit). same_label c.label t.label) order q = found_at (λ (c : Commit). same_label c.label t.label) order q e in
      let a : Author h.transactions s.item = each_in (Author h.transactions) order s.item head.authors (subst (λ (cs : List Commit). In s.item cs) (sym s.is) (in_append s.item s.front (s.item ∷ s.back) (inl refl))) in
      let mine : a.who ≡ t = distinct_same h.transactions a.who t l.distinct a.among i (sym a.label ∙ same_is s.item.label t.label s.passes) in
      ap (λ (x : Transaction). x.committed) (sym mine) ∙ a.committed

  -- where the commit stands there, these writes win
  abbrev Wins : Transaction → Option ℕ → List Write → Type 0
  Wins t o ws = IfSome o (λ q. (placed t ≤ q) × FirstWins order (placed t) q ws)

  abbrev ours : Transaction → Record → List Write
  ours t r = written h.catalog (state h.rows (take (placed t) order)) r.said

  wins : (t : Transaction) (r : Record) → In t h.transactions → IsRecordOf h.catalog t r → RecordWins h.catalog h.rows order (placed t) r
  wins t r i k = go (own_place order t.label) refl (ap (own_place order) k.label) (each_in (WinsFirst (run_of h)) h.transactions t head.wins i)
    where
      go : (o : Option ℕ) → own_place order t.label ≡ o → own_place order r.label ≡ own_place order t.label → Wins t (own_place order t.label) (puts_in t.talk)
          → Wins t (own_place order r.label) (ours t r)
      go None e f w = subst (λ (o : Option ℕ). Wins t o (ours t r)) (sym (f ∙ e)) tt
      go (Some q) e f w = subst (λ (o : Option ℕ). Wins t o (ours t r)) (sym f)
          (subst (λ ws. Wins t (own_place order t.label) ws) (sym (k.wrote (view_at (run_of h) t.snapshots []) (told t i) (stands_committed t i q e))) w)

  -- what a record adds to the list
  commits_is : (t : Transaction) (r : Record) → In t h.transactions → IsRecordOf h.catalog t r → commits_of h.catalog h.rows order (placed t) r ≡ adds t
  commits_is t r i k = go t.committed refl
    where
      go : (b : Bool) → t.committed ≡ b → commits_of h.catalog h.rows order (placed t) r ≡ adds t
      go false e = cond-false (is_committed r.ending && some_writes (net (ours t r))) (record { label = r.label; mem = r.drew_mem; store = r.drew_store; writes = net (ours t r) } ∷ []) [] (ap (λ b. b && some_writes (net (ours t r))) (k.committed ∙ e))
          ∙ sym (cond-false (t.committed && some_writes (puts_in t.talk)) (commit_for t ∷ []) [] (ap (λ b. b && some_writes (puts_in t.talk)) e))
      go true e =
          let w : ours t r ≡ puts_in t.talk = k.wrote (view_at (run_of h) t.snapshots []) (told t i) e in
          (λ x. cond (k.committed x && some_writes (net (w x))) (record { label = k.label x; mem = k.drew_mem x; store = k.drew_store x; writes = net (w x) } ∷ []) [])
          ∙ ap (λ b. cond (t.committed && b) (commit_for t ∷ []) []) (some_net (puts_in t.talk))

  all_is : (ts : List Transaction) (rs : List Record) → ((t : Transaction) → In t ts → In t h.transactions) → AreRecords h.catalog ts rs → all_commits h.catalog h.rows order (map placed ts) rs ≡ flat_map adds ts
  all_is [] [] f a = refl
  all_is [] (r ∷ rs) f a = absurd a
  all_is (t ∷ ts) [] f a = absurd a
  all_is (t ∷ ts) (r ∷ rs) f a = ap (λ cs. cs ++ all_commits h.catalog h.rows order (map placed ts) rs) (commits_is t r (f t (inl refl)) a.0) ∙ ap (λ cs. adds t ++ cs) (all_is ts rs (λ u i. f u (inr i)) a.1)

  author_is : (c : Commit) (a : Author h.transactions c) → c ≡ commit_for a.who
  author_is c a = commit_is c (commit_for a.who) a.label (a.numbers Mem) (a.numbers Store) a.writes

  -- each commit of a transaction is in the list
  goes_in : (c : Commit) → In c (flat_map adds h.transactions) → In c order
  goes_in c i =
      let w : (t : Transaction) × In t h.transactions × In c (adds t) = in_all h.transactions c i in
      let p : (w.0.committed ≡ true) × (some_writes (puts_in w.0.talk) ≡ true) × (c ≡ commit_for w.0) = in_adds w.0 c w.2 in
      let s : Stands order w.0 = each_in (λ (t : Transaction). t.committed ≡ true → some_writes (puts_in t.talk) ≡ true → Stands order t) h.transactions w.0 head.stands w.1 p.0 p.1 in
      let a : Author h.transactions s.entry = each_in (Author h.transactions) order s.entry head.authors s.among in
      let mine : a.who ≡ w.0 = distinct_same h.transactions a.who w.0 l.distinct a.among w.1 (sym a.label ∙ s.is) in
      subst (λ (d : Commit). In d order) (author_is s.entry a ∙ ap commit_for mine ∙ sym p.2) s.among

  -- and each commit in the list is a transaction's, which wrote
  comes_out : (c : Commit) → In c order → In c (flat_map adds h.transactions)
  comes_out c i =
      let a : Author h.transactions c = each_in (Author h.transactions) order c head.authors i in
      let k : Committer h.transactions c = each_in (Committer h.transactions) order c (committers h l) i in
      let same : k.who ≡ a.who = distinct_same h.transactions k.who a.who l.distinct k.among a.among (sym k.label ∙ a.label) in
      subst (λ (d : Commit). In d (flat_map adds h.transactions)) (sym (author_is c a))
      (all_in h.transactions a.who (commit_for a.who) a.among (adds_it a.who a.committed (some_puts k.engine k.number a.who a.among (ap (λ (x : Transaction). drawn_at k.engine x.drew) (sym same) ∙ k.drew))))
    where
      some_puts : (s : EngineName) (n : ℕ) (t : Transaction) → In t h.transactions → drawn_at s t.drew ≡ Some n → some_writes (puts_in t.talk) ≡ true
      some_puts s n t i e =
          let d : Drew t s n = (belongs h l t i).drew s n e in
          some_filter (λ (w : Write). owns h.catalog s w.table) (puts_in t.talk)
          (ap some_writes (puts_wrote h l s t i ∙ ap wrote_in d.is ∙ flat_map-append _ d.before (close_entry t.label d.floor ∷ d.tail)) ∙ some_front (wrote_in d.before) (wrote_in (close_entry t.label d.floor ∷ d.tail)) d.wrote)

  rises : (s : EngineName) → Rises (number_in s) 0 (filter (λ c. is_some (number_in s c)) order)
  rises s = numbers_rise (number_in s) (owns h.catalog s) 0 (number_at s h.first) (omega arith) order (parts_rise h l s)

pub records_one : RecordsAreOne
records_one h records l sorted a fresh = record {
  explained = each_at (Explained h.catalog h.rows (order_of (run_of h))) (place_of (run_of h)) h.catalog h.transactions records a (λ t r i k. k.told (view_at (run_of h) t.snapshots []) (told h l sorted t i));
  placed = each_at (ReadsAt (order_of (run_of h))) (place_of (run_of h)) h.catalog h.transactions records a (λ t r i k. λ x. place (order_of (run_of h)) (sym k.mem x) (sym k.store x));
  listed = subst (λ cs. IsPermutation cs (order_of (run_of h))) (sym (all_is h l sorted h.transactions records (λ t i. i) a))
      (same_members alike (λ c. same_itself c.label) (flat_map adds h.transactions) (order_of (run_of h)) (adds_apart h.transactions l.distinct) (unlike_two (order_of (run_of h)) (one h l sorted).unlike) (goes_in h l sorted) (comes_out h l sorted));
  unlike = (one h l sorted).unlike;
  by_mem = rises h l sorted Mem;
  by_store = rises h l sorted Store;
  first_wins = each_at (RecordWins h.catalog h.rows (order_of (run_of h))) (place_of (run_of h)) h.catalog h.transactions records a (wins h l sorted);
  fresh = fresh;
}

pub talks_make : TalksMakeRecords
talks_make catalog t r k talks = record {
  label = k.label;
  mem = k.mem;
  store = k.store;
  drew_mem = k.drew_mem;
  drew_store = k.drew_store;
  committed = k.committed;
  told = λ db m. talks_told catalog r t.talk talks db m;
  wrote = λ db m c. talks_wrote catalog r t.talk talks db m (k.committed ∙ c);
}
