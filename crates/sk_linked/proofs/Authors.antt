-- Each commit of the woven list is a committed transaction's, with its numbers; what it wrote to each engine comes to that transaction's Puts there.
use Rattle.std.specs.Prelude.{ℕ, List, [], ◌∷◌, ◌++◌, Option, Some, None, true, false, cond, not, ◌≡◌, ◌<◌, nat_lt}
use Rattle.std.proofs.Common.{refl, sym, ap, subst, ◌∙◌, inl, inr, ⊎_elim, arith}
use Rattle.std.proofs.lemmas.Bool.{cases_Bool, cond_both, cond-true, false≢true}
use Rattle.std.proofs.lemmas.List.{append_assoc}
use Rattle.std.proofs.lemmas.List.Concat.{flat_map-append}
use Rattle.std.specs.List.{IsDistinct}
use Rattle.sk_model.specs.declared.label.Label.{Label}
use Rattle.sk_model.specs.declared.engine.EngineName.{EngineName}
use Rattle.sk_model.specs.declared.engine.EngineName.TheVariants.{Mem, Store}
use Rattle.sk_model.specs.declared.commit.Write.{Write}
use Rattle.sk_model.specs.declared.commit.Commit.{Commit}
use Rattle.sk_model.specs.declared.point.Point.{Point}
use Rattle.sk_model.specs.Database.{net}
use Rattle.sk_model.specs.Records.{Unlike, same_label, some_writes}
use Rattle.sk_model.specs.Numbers.{Rises}
use Rattle.sk_model.specs.Engine.{keeps}
use Rattle.sk_model.specs.Stamped.{number_in}
use Rattle.sk_model.specs.Talks.{puts_in}
use Rattle.sk_model.proofs.Lists.{Each, each_map, each_append, each_filter, each_end}
use Rattle.sk_model.proofs.Labels.{same_is}
use Rattle.sk_model.proofs.Numbers.{all_past}
use Rattle.sk_model.proofs.NetLaws.{net_filter}
use Rattle.sk_model.proofs.Quiet.{each_map_from}
use Rattle.sk_weave.specs.Points.{before_a, before_b}
use Rattle.sk_weave.specs.Weave.{with_writes, cross, mem_within, store_within, mem_past, store_past, weave_from}
use Rattle.sk_weave.specs.Woven.{Part, parts_at, own_writes, parts}
use Rattle.sk_linked.specs.Reads.{number_at, owns, order_of}
use Rattle.sk_weave.proofs.Parts.{part, part_n, past, rises_before, rises_parts, rises_filter, commit_part}
use Rattle.sk_weave.proofs.Prefixes.{Fits}
use Rattle.sk_linked.proofs.Held.{contents, order_fits}
use Rattle.sk_linked.specs.Traces.{drawn_at, Transaction, Traces, commit_in, commits_in, run_of, In, Linked}
use Rattle.sk_linked.specs.Headline.{Author, Stands}
use Rattle.sk_linked.proofs.Members.{in_each, each_in, in_append, in_front, in_either, each_flat, unlike_same, distinct_same}
use Rattle.sk_linked.proofs.Commits.{number_is, counts_is, counts_from, commits_each, counted_in, owned_writes}
use Rattle.sk_linked.proofs.ByTable.{net_from, same_by_table, both_nil, ByTable, woven_by_table}
use Rattle.sk_linked.proofs.Grounds.{belongs, puts_wrote, rising, is_run}

-- what all commits of both engines have, with other writes too, all of the woven list has
pub weave_each : (P : Commit → Type 0) → ((c : Commit) (ws : List Write) → P c → P (with_writes ws c)) → (p : Point) (qs : List Point) (mem store : List Commit) → Each P mem → Each P store → Each P (weave_from p qs mem store)
weave_each P f p [] mem store h k = each_append P (store_past p.b store) (mem_past p.a mem) (each_filter P P _ (λ c e x. x) store k) (each_filter P P _ (λ c e x. x) mem h)
weave_each P f p (q ∷ qs) mem store h k =
    each_append P (store_within p.b (before_b q) store) _ (each_filter P P _ (λ c e x. x) store k)
    (each_append P (mem_within p.a (before_a q) mem) _ (each_filter P P _ (λ c e x. x) mem h)
    (each_append P (cond q.commit (cross q.a q.b mem store) []) (weave_from q qs mem store)
    (cond_both q.commit (cross q.a q.b mem store) [] (λ xs. Each P xs) (λ t. each_map_from P P (with_writes _) (λ c x. f c _ x) _ (each_filter P P _ (λ c e x. x) mem h)) (λ t. tt))
    (weave_each P f q qs mem store h k)))

-- whose commit it is, and a number of it
pub record Committer (ts : List Transaction) (c : Commit) : Type 0 where
  pub who : Transaction
  pub among : In who ts
  pub committed : who.committed ≡ true
  pub label : c.label ≡ who.label
  pub numbers : (name : EngineName) → number_in name c ≡ drawn_at name who.drew
  pub engine : EngineName
  pub number : ℕ
  pub drew : drawn_at engine who.drew ≡ Some number

module _ (h : Traces) (l : Linked h) where
  pub committers : Each (Committer h.transactions) (order_of (run_of h))
  committers = weave_each (Committer h.transactions)
      (λ c ws k. record { who = k.who; among = k.among; committed = k.committed; label = k.label; numbers = λ s. same_number ws c s ∙ k.numbers s; engine = k.engine; number = k.number; drew = k.drew })
      h.first h.points (commits_in h.catalog Mem h.transactions) (commits_in h.catalog Store h.transactions) (of_engine Mem) (of_engine Store)
    where
      same_number : (ws : List Write) (c : Commit) (s : EngineName) → number_in s (with_writes ws c) ≡ number_in s c
      same_number ws c Mem = refl
      same_number ws c Store = refl

      of_engine : (s : EngineName) → Each (Committer h.transactions) (commits_in h.catalog s h.transactions)
      of_engine s = commits_each h.catalog s (Committer h.transactions) h.transactions
          (λ t i n e. record { who = t; among = i; committed = (counts_is s t n e).0; label = refl; numbers = λ x. number_is h.catalog x s t; engine = s; number = n; drew = (counts_is s t n e).1 })

  -- a part of the engine's is what the transaction with its number wrote there
  abbrev WroteThere : EngineName → Part → Type 0
  WroteThere s x = (t : Transaction) → In t h.transactions → drawn_at s t.drew ≡ Some x.n → x.writes ≡ net (own_writes (owns h.catalog s) (puts_in t.talk))

  all_owned : (s : EngineName) (ws : List Write) → Each (λ (w : Write). owns h.catalog s w.table ≡ true) ws → own_writes (owns h.catalog s) ws ≡ ws
  all_owned s [] k = refl
  all_owned s (w ∷ ws) k = cond-true (owns h.catalog s w.table) (w ∷ own_writes (owns h.catalog s) ws) (own_writes (owns h.catalog s) ws) k.0 ∙ ap (λ xs. w ∷ xs) (all_owned s ws k.1)

  part_there : (s : EngineName) (c : Commit) → ((n : ℕ) → number_in s c ≡ Some n → WroteThere s (record { n = n; label = c.label; writes = own_writes (owns h.catalog s) c.writes })) → Each (WroteThere s) (part (number_in s) (owns h.catalog s) c)
  part_there s c f = go (number_in s c) refl
    where
      go : (o : Option ℕ) → number_in s c ≡ o → Each (WroteThere s) (parts_at o c.label (own_writes (owns h.catalog s) c.writes))
      go None e = tt
      go (Some n) e = (f n e, tt)

  engine_parts : (s : EngineName) → Each (WroteThere s) (parts (number_in s) (owns h.catalog s) (past (number_in s) (owns h.catalog s) (number_at s h.first) (commits_in h.catalog s h.transactions)))
  engine_parts s = each_flat (WroteThere s) (part (number_in s) (owns h.catalog s)) (past (number_in s) (owns h.catalog s) (number_at s h.first) (commits_in h.catalog s h.transactions))
      (each_filter (λ c. Each (WroteThere s) (part (number_in s) (owns h.catalog s) c)) (λ c. Each (WroteThere s) (part (number_in s) (owns h.catalog s) c)) _ (λ c e k. k) (commits_in h.catalog s h.transactions)
      (commits_each h.catalog s (λ c. Each (WroteThere s) (part (number_in s) (owns h.catalog s) c)) h.transactions
      (λ t i m q. part_there s (commit_in h.catalog s t) (λ n e u j d.
      let same : t ≡ u = unlike_same s n h.transactions t u (l.unlike s) i j (sym (number_is h.catalog s s t) ∙ e) d in
      all_owned s (commit_in h.catalog s t).writes (owned_writes h.catalog s t) ∙ ap (λ (x : Transaction). net (own_writes (owns h.catalog s) (puts_in x.talk))) same))))

  order_parts : (s : EngineName) → Each (λ (c : Commit). (n : ℕ) → number_in s c ≡ Some n → WroteThere s (record { n = n; label = c.label; writes = own_writes (owns h.catalog s) c.writes })) (order_of (run_of h))
  order_parts s = commit_part (number_in s) (owns h.catalog s) (WroteThere s) (order_of (run_of h)) (subst (λ xs. Each (WroteThere s) xs) (sym (contents (run_of h) (is_run h l) s)) (engine_parts s))

  -- what a commit of the list wrote to an engine's tables comes to its transaction's Puts there
  own_is : (c : Commit) → In c (order_of (run_of h)) → (k : Committer h.transactions c) → (s : EngineName) → own_writes (owns h.catalog s) c.writes ≡ net (own_writes (owns h.catalog s) (puts_in k.who.talk))
  own_is c i k s = go (drawn_at s k.who.drew) refl
    where
      go : (o : Option ℕ) → drawn_at s k.who.drew ≡ o → own_writes (owns h.catalog s) c.writes ≡ net (own_writes (owns h.catalog s) (puts_in k.who.talk))
      go None e =
          each_in (Fits (number_in s) (owns h.catalog s)) (order_of (run_of h)) c (order_fits (run_of h) (is_run h l) s) i (k.numbers s ∙ e)
          ∙ sym (ap net (puts_wrote h l s k.who k.among ∙ (belongs h l k.who k.among).silent s k.committed e))
      go (Some n) e = each_in (λ (c : Commit). (n : ℕ) → number_in s c ≡ Some n → WroteThere s (record { n = n; label = c.label; writes = own_writes (owns h.catalog s) c.writes })) (order_of (run_of h)) c (order_parts s) i n (k.numbers s ∙ e) k.who k.among e

  by_tables : Each ByTable (order_of (run_of h))
  by_tables = woven_by_table h.first h.points (commits_in h.catalog Mem h.transactions) (commits_in h.catalog Store h.transactions) (is_run h l).weavable.matched (of_engine Mem) (of_engine Store)
    where
      of_engine : (s : EngineName) → Each ByTable (commits_in h.catalog s h.transactions)
      of_engine s = commits_each h.catalog s ByTable h.transactions (λ t i n e. net_from (own_writes (owns h.catalog s) (puts_in t.talk)))

  pub authors : Each (Author h.transactions) (order_of (run_of h))
  authors = in_each (Author h.transactions) (order_of (run_of h)) (λ c i. author c i (each_in (Committer h.transactions) (order_of (run_of h)) c committers i))
    where
      author : (c : Commit) → In c (order_of (run_of h)) → Committer h.transactions c → Author h.transactions c
      author c i k = record {
        who = k.who;
        among = k.among;
        committed = k.committed;
        label = k.label;
        numbers = k.numbers;
        writes = same_by_table (keeps Store h.catalog) 0 0 c.writes (net (puts_in k.who.talk)) (each_in ByTable (order_of (run_of h)) c by_tables i) (net_from (puts_in k.who.talk))
            (own_is c i k Mem ∙ sym (net_filter (λ t. not (keeps Store h.catalog t)) (puts_in k.who.talk)))
            (own_is c i k Store ∙ sym (net_filter (keeps Store h.catalog) (puts_in k.who.talk)));
      }

  -- ---- each committed writer stands in the list, once

  -- the engine's part of a transaction is of a commit in the list
  abbrev HasNumber : EngineName → ℕ → List Commit → Type 0
  HasNumber s n cs = (c : Commit) × In c cs × (number_in s c ≡ Some n)

  number_parts : (s : EngineName) (n : ℕ) (cs : List Commit) → HasNumber s n cs → (x : Part) × In x (parts (number_in s) (owns h.catalog s) cs) × (x.n ≡ n)
  number_parts s n [] k = absurd k.1
  number_parts s n (d ∷ cs) k = ⊎_elim
      (λ (e : k.0 ≡ d).
      let here : number_in s d ≡ Some n = ap (number_in s) (sym e) ∙ k.2 in
      (record { n = n; label = d.label; writes = own_writes (owns h.catalog s) d.writes }, in_front _ (part (number_in s) (owns h.catalog s) d) (parts (number_in s) (owns h.catalog s) cs) (subst (λ o. In (record { n = n; label = d.label; writes = own_writes (owns h.catalog s) d.writes }) (parts_at o d.label (own_writes (owns h.catalog s) d.writes))) (sym here) (inl refl)), refl))
      (λ (e : In k.0 cs).
      let r : (x : Part) × In x (parts (number_in s) (owns h.catalog s) cs) × (x.n ≡ n) = number_parts s n cs (k.0, e, k.2) in
      (r.0, in_append r.0 (part (number_in s) (owns h.catalog s) d) (parts (number_in s) (owns h.catalog s) cs) r.1, r.2))
      k.1

  parts_number : (s : EngineName) (x : Part) (cs : List Commit) → In x (parts (number_in s) (owns h.catalog s) cs) → HasNumber s x.n cs
  parts_number s x [] i = absurd i
  parts_number s x (d ∷ cs) i = ⊎_elim
      (λ (k : In x (part (number_in s) (owns h.catalog s) d)). (d, inl refl, of_one (number_in s d) k))
      (λ (k : In x (parts (number_in s) (owns h.catalog s) cs)). let r : HasNumber s x.n cs = parts_number s x cs k in (r.0, inr r.1, r.2))
      (in_either x (part (number_in s) (owns h.catalog s) d) (parts (number_in s) (owns h.catalog s) cs) i)
    where
      of_one : (o : Option ℕ) → In x (parts_at o d.label (own_writes (owns h.catalog s) d.writes)) → o ≡ Some x.n
      of_one None k = absurd k
      of_one (Some n) k = ⊎_elim (λ (e : x ≡ record { n = n; label = d.label; writes = own_writes (owns h.catalog s) d.writes }). ap (λ (y : Part). Some y.n) (sym e)) (λ (e : ⊥). absurd e) k

  pub has_drawn : (s : EngineName) (n : ℕ) (t : Transaction) → In t h.transactions → t.committed ≡ true → drawn_at s t.drew ≡ Some n → HasNumber s n (order_of (run_of h))
  has_drawn s n t i y e =
      let mine : In (commit_in h.catalog s t) (commits_in h.catalog s h.transactions) = counted_in h.catalog s h.transactions t n i (counts_from s t n y e) in
      let number : number_in s (commit_in h.catalog s t) ≡ Some n = number_is h.catalog s s t ∙ e in
      let late : past (number_in s) (owns h.catalog s) (number_at s h.first) (commits_in h.catalog s h.transactions) ≡ commits_in h.catalog s h.transactions = all_past (number_in s) (number_at s h.first) (number_at s h.first) (omega arith) (commits_in h.catalog s h.transactions) (rising h l s) in
      let here : (x : Part) × In x (parts (number_in s) (owns h.catalog s) (commits_in h.catalog s h.transactions)) × (x.n ≡ n) = number_parts s n (commits_in h.catalog s h.transactions) (commit_in h.catalog s t, mine, number) in
      let there_too : In here.0 (parts (number_in s) (owns h.catalog s) (order_of (run_of h))) = subst (λ xs. In here.0 xs) (sym (contents (run_of h) (is_run h l) s ∙ ap (parts (number_in s) (owns h.catalog s)) late)) here.1 in
      subst (λ m. HasNumber s m (order_of (run_of h))) here.2 (parts_number s here.0 (order_of (run_of h)) there_too)

  stands_by : (s : EngineName) (n : ℕ) (t : Transaction) → In t h.transactions → t.committed ≡ true → drawn_at s t.drew ≡ Some n → Stands (order_of (run_of h)) t
  stands_by s n t i y e =
      let k : HasNumber s n (order_of (run_of h)) = has_drawn s n t i y e in
      let c : Committer h.transactions k.0 = each_in (Committer h.transactions) (order_of (run_of h)) k.0 committers k.1 in
      let same : c.who ≡ t = unlike_same s n h.transactions c.who t (l.unlike s) c.among i (sym (c.numbers s) ∙ k.2) e in
      record { entry = k.0; among = k.1; is = c.label ∙ ap (λ (x : Transaction). x.label) same }

  none_wrote : (ws : List Write) → ws ≡ [] → some_writes ws ≡ true → ⊥
  none_wrote ws e y = false≢true (sym (ap some_writes e) ∙ y)

  -- who wrote and is committed drew a number
  pub stands : (t : Transaction) → In t h.transactions → t.committed ≡ true → some_writes (puts_in t.talk) ≡ true → Stands (order_of (run_of h)) t
  stands t i y w = go (drawn_at Mem t.drew) refl (drawn_at Store t.drew) refl
    where
      quiet : (s : EngineName) → drawn_at s t.drew ≡ None → own_writes (owns h.catalog s) (puts_in t.talk) ≡ []
      quiet s e = puts_wrote h l s t i ∙ (belongs h l t i).silent s y e

      go : (m : Option ℕ) → drawn_at Mem t.drew ≡ m → (s : Option ℕ) → drawn_at Store t.drew ≡ s → Stands (order_of (run_of h)) t
      go (Some n) e s f = stands_by Mem n t i y e
      go None e (Some n) f = stands_by Store n t i y f
      go None e None f = absurd (none_wrote (puts_in t.talk) (both_nil (keeps Store h.catalog) (puts_in t.talk) (quiet Mem e) (quiet Store f)) w)

  -- the numbers of an engine rise along the list
  pub parts_rise : (s : EngineName) → Rises part_n (number_at s h.first) (parts (number_in s) (owns h.catalog s) (order_of (run_of h)))
  parts_rise s =
      subst (λ xs. Rises part_n (number_at s h.first) xs) (sym (contents (run_of h) (is_run h l) s))
      (rises_parts (number_in s) (owns h.catalog s) (number_at s h.first) (past (number_in s) (owns h.catalog s) (number_at s h.first) (commits_in h.catalog s h.transactions)) (rises_filter (number_in s) (owns h.catalog s) (nat_lt (number_at s h.first)) (number_at s h.first) (commits_in h.catalog s h.transactions) (rising h l s)))

  -- two commits of the list have unlike labels, since their numbers rise
  apart : (s : EngineName) (n : ℕ) (front mid back : List Commit) (c d : Commit) → order_of (run_of h) ≡ front ++ c ∷ (mid ++ d ∷ back) → number_in s c ≡ Some n → number_in s d ≡ Some n → ⊥
  apart s n front mid back c d is e f =
      let up : Rises part_n (number_at s h.first) (parts (number_in s) (owns h.catalog s) (order_of (run_of h))) = parts_rise s in
      let x : Part = record { n = n; label = c.label; writes = own_writes (owns h.catalog s) c.writes } in
      let y : Part = record { n = n; label = d.label; writes = own_writes (owns h.catalog s) d.writes } in
      let xs : List Part = parts (number_in s) (owns h.catalog s) front in
      let ms : List Part = parts (number_in s) (owns h.catalog s) mid in
      let ys : List Part = parts (number_in s) (owns h.catalog s) back in
      let cp : part (number_in s) (owns h.catalog s) c ≡ x ∷ [] = ap (λ o. parts_at o c.label (own_writes (owns h.catalog s) c.writes)) e in
      let dp : part (number_in s) (owns h.catalog s) d ≡ y ∷ [] = ap (λ o. parts_at o d.label (own_writes (owns h.catalog s) d.writes)) f in
      let shape : parts (number_in s) (owns h.catalog s) (order_of (run_of h)) ≡ (xs ++ x ∷ ms) ++ y ∷ ys =
      ap (parts (number_in s) (owns h.catalog s)) is ∙ flat_map-append (part (number_in s) (owns h.catalog s)) front (c ∷ (mid ++ d ∷ back))
      ∙ ap (λ zs. xs ++ zs) (ap (λ zs. zs ++ parts (number_in s) (owns h.catalog s) (mid ++ d ∷ back)) cp ∙ ap (λ zs. x ∷ zs) (flat_map-append (part (number_in s) (owns h.catalog s)) mid (d ∷ back) ∙ ap (λ zs. ms ++ (zs ++ ys)) dp))
      ∙ sym (append_assoc xs (x ∷ ms) (y ∷ ys)) in
      let before : Each (λ (z : Part). z.n < n) (xs ++ x ∷ ms) = rises_before (number_at s h.first) n (xs ++ x ∷ ms) ys y refl (subst (λ zs. Rises part_n (number_at s h.first) zs) shape up) in
      let less : n < n = (each_end (λ (z : Part). z.n < n) xs (x ∷ ms) before).0 in
      omega (arith, less)

  pub unlike : Unlike (order_of (run_of h))
  unfolding IsDistinct
  unlike = from [] (order_of (run_of h)) refl
    where
      other : (front mid back : List Commit) (c d : Commit) → order_of (run_of h) ≡ front ++ c ∷ (mid ++ d ∷ back) → same_label c.label d.label ≡ false
      other front mid back c d is = ⊎_elim
          (λ (y : same_label c.label d.label ≡ true).
          let all : Each (Committer h.transactions) (front ++ c ∷ (mid ++ d ∷ back)) = subst (λ cs. Each (Committer h.transactions) cs) is committers in
          let tail : Each (Committer h.transactions) (c ∷ (mid ++ d ∷ back)) = each_end (Committer h.transactions) front (c ∷ (mid ++ d ∷ back)) all in
          let p : Committer h.transactions c = tail.0 in
          let q : Committer h.transactions d = (each_end (Committer h.transactions) mid (d ∷ back) tail.1).0 in
          let same : p.who ≡ q.who = distinct_same h.transactions p.who q.who l.distinct p.among q.among (sym p.label ∙ same_is c.label d.label y ∙ q.label) in
          absurd (apart p.engine p.number front mid back c d is (p.numbers p.engine ∙ p.drew) (q.numbers p.engine ∙ ap (λ (x : Transaction). drawn_at p.engine x.drew) (sym same) ∙ p.drew)))
          (λ (n : same_label c.label d.label ≡ false). n)
          (cases_Bool (same_label c.label d.label))

      others : (front mid rest : List Commit) (c : Commit) → order_of (run_of h) ≡ front ++ c ∷ (mid ++ rest) → Each (λ (d : Commit). same_label c.label d.label ≡ false) rest
      others front mid [] c is = tt
      others front mid (d ∷ rest) c is = (other front mid rest c d is, others front (mid ++ d ∷ []) rest c (is ∙ ap (λ xs. front ++ c ∷ xs) (sym (append_assoc mid (d ∷ []) rest))))

      from : (front rest : List Commit) → order_of (run_of h) ≡ front ++ rest → Unlike rest
      from front [] is = tt
      from front (c ∷ rest) is = (each_map (λ (m : Label). same_label c.label m ≡ false) (λ (d : Commit). d.label) rest (others front [] rest c is), from (front ++ c ∷ []) rest (is ∙ sym (append_assoc front (c ∷ []) rest)))
