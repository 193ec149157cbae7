-- In linked traces, what is stamped behind all that was called and all stamps that are still to come, joined, are the commits of the traces.
use Rattle.std.specs.Prelude.{ℕ, List, [], ◌∷◌, ◌++◌, Option, Some, None, true, ◌≡◌, map}
use Rattle.std.proofs.Common.{refl, sym, ap, subst, ◌∙◌, inl, inr}
use Rattle.std.specs.List.{filter}
use Rattle.std.proofs.lemmas.List.{append_assoc}
use Rattle.sk_rows.specs.declared.table.Table.{Table}
use Rattle.sk_model.specs.declared.label.Label.{Label}
use Rattle.sk_model.specs.declared.engine.EngineName.{EngineName}
use Rattle.sk_model.specs.declared.engine.EngineName.TheVariants.{Mem, Store}
use Rattle.sk_model.specs.declared.commit.Write.{Write}
use Rattle.sk_model.specs.declared.commit.Commit.{Commit}
use Rattle.sk_model.specs.declared.point.Point.{Point}
use Rattle.sk_model.specs.declared.call.EngineCall.{EngineCall}
use Rattle.sk_model.specs.declared.call.EngineCall.TheVariants as call
use Rattle.sk_model.specs.declared.call.Entry.{Entry}
use Rattle.sk_model.specs.Database.{net}
use Rattle.sk_model.specs.Numbers.{Rises}
use Rattle.sk_model.specs.Engine.{EngineTable}
use Rattle.sk_model.specs.EngineReplies.{mem_number, store_number, commit_of, is_stamped_with}
use Rattle.sk_model.specs.Legal.{after_entries}
use Rattle.sk_model.specs.Stamped.{number_in, writes_of}
use Rattle.sk_model.specs.Talks.{is_by, entries_by}
use Rattle.sk_model.proofs.Lists.{Each, each_weaker}
use Rattle.sk_model.proofs.Listed.{are_commits}
use Rattle.sk_model.proofs.Quiet.{each_map_from}
use Rattle.sk_model.proofs.Reading.{name_stays}
use Rattle.sk_linked.specs.Reads.{number_at}
use Rattle.sk_linked.specs.Traces.{drawn_at, Transaction, Traces, commit_in, commits_in, owed_by, In, stamp_entry, close_entry, Drew, CommitOf, Linked}
use Rattle.sk_linked.proofs.Members.{each_in, in_append, some_clash, unlike_same}
use Rattle.sk_linked.proofs.Meeting.{filter_in}
use Rattle.sk_linked.proofs.Commits.{number_is, counts_is, counts_from, commits_each, counted_in}
use Rattle.sk_linked.proofs.Grounds.{Stamper, UseOf, start, all, uses_all, all_allowed, own_all, belongs, rising, commits_all}
use Rattle.sk_recorded.specs.Joined.{other_at, from_number, other_first, other_number, with_other}
use Rattle.sk_recorded.proofs.Stamped.{StampIs, stamped_found, stamped_each, find_in, in_map}
use Rattle.sk_recorded.proofs.Others.{Among, other_found, other_missing, early_passed, among_mem, among_store}
use Rattle.sk_recorded.proofs.Rising.{same_members}

same_commit : (l : Label) (a x b y : Option ℕ) (v w : List Write) → a ≡ x → b ≡ y → v ≡ w → ◌≡◌ {A = Commit} (record { label = l; mem = a; store = b; writes = v }) (record { label = l; mem = x; store = y; writes = w })
same_commit l a x b y v w p q r = cc

-- a commit's number of the engine is not changed by the other one
pub number_kept : (name : EngineName) (points : List Point) (c : Commit) → number_in name (with_other name points c) ≡ number_in name c
number_kept Mem points c = refl
number_kept Store points c = refl

rises_joined : (name : EngineName) (points : List Point) (low : ℕ) (cs : List Commit) → Rises (number_in name) low cs → Rises (number_in name) low (map (with_other name points) cs)
rises_joined name points low [] r = tt
rises_joined name points low (c ∷ cs) r = (r.0, number_kept name points c ∙ r.1, r.2, rises_joined name points r.0 cs r.3)

abbrev other_engine : EngineName → EngineName
other_engine Mem = Store
other_engine Store = Mem

-- a stamped number's commit, with the other number that its transaction drew, is the transaction's
joined_is : (name : EngineName) (points : List Point) (e : EngineTable) (catalog : List Table) (t : Transaction) (n : ℕ) → e.name ≡ name → drawn_at name t.drew ≡ Some n
    → other_number name points (Some n) ≡ drawn_at (other_engine name) t.drew → net (writes_of (filter (is_stamped_with n) e.versions)) ≡ (commit_in catalog name t).writes
    → with_other name points (commit_of e (n, t.label)) ≡ commit_in catalog name t
joined_is Mem points e catalog t n named drew other writes =
    same_commit t.label (mem_number e.name n) t.drew.mem (other_number Mem points (mem_number e.name n)) t.drew.store (net (writes_of (filter (is_stamped_with n) e.versions))) (commit_in catalog Mem t).writes
    (ap (λ x. mem_number x n) named ∙ sym drew)
    (ap (λ x. other_number Mem points (mem_number x n)) named ∙ other)
    writes
joined_is Store points e catalog t n named drew other writes =
    same_commit t.label (other_number Store points (store_number e.name n)) t.drew.mem (store_number e.name n) t.drew.store (net (writes_of (filter (is_stamped_with n) e.versions))) (commit_in catalog Store t).writes
    (ap (λ x. other_number Store points (store_number x n)) named ∙ other)
    (ap (λ x. store_number x n) named ∙ sym drew)
    writes

module _ (h : Traces) (l : Linked h) (name : EngineName) where
  -- the table behind all calls, also those that are still to come
  abbrev pub table : EngineTable
  table = after_entries (start h l name) (all h l name)

  abbrev commits : List Commit
  commits = commits_in h.catalog name h.transactions

  -- ---- the stamps

  -- each stamped number is of a committed transaction that drew it
  abbrev OfStamper : ℕ × Label → Type 0
  OfStamper p = Stamper name h.transactions p.1 p.0

  stamp_is : (c : EngineCall) → UseOf name h.transactions c → StampIs OfStamper c
  stamp_is (call.Open tx s) u = tt
  stamp_is (call.Get tx t key) u = tt
  stamp_is (call.Scan tx t) u = tt
  stamp_is (call.Put tx t key row) u = tt
  stamp_is (call.Close tx) u = tt
  stamp_is (call.Stamp tx n) u = u
  stamp_is (call.Void tx n) u = tt
  stamp_is (call.DropTx tx) u = tt
  stamp_is call.Horizon u = tt
  stamp_is (call.Records from to) u = tt
  stamp_is (call.Purge upto) u = tt

  stampers : Each OfStamper table.stamped
  stampers = stamped_each OfStamper (start h l name) (all h l name)
      (each_weaker (λ (j : Entry). UseOf name h.transactions j.call) (λ (j : Entry). StampIs OfStamper j.call) (λ j u. stamp_is j.call u) (all h l name) (uses_all h l name)) tt

  -- each committed transaction has made its stamp, or it is still to come
  in_stamps : (t : Transaction) (n : ℕ) → In t h.transactions → t.committed ≡ true → drawn_at name t.drew ≡ Some n → In (stamp_entry t.label n) (all h l name)
  in_stamps t n i y e =
      let d : Drew t name n = (belongs h l t i).drew name n e in
      let own : entries_by t.label (all h l name) ≡ d.before ++ close_entry t.label d.floor ∷ (stamp_entry t.label n ∷ []) =
      own_all h l name t i ∙ ap (λ js. js ++ owed_by name t) d.is ∙ append_assoc d.before (close_entry t.label d.floor ∷ d.tail) (owed_by name t) ∙ ap (λ js. d.before ++ close_entry t.label d.floor ∷ js) (d.once y) in
      (filter_in (is_by t.label) (all h l name) (stamp_entry t.label n)
      (subst (In (stamp_entry t.label n)) (sym own) (in_append (stamp_entry t.label n) d.before (close_entry t.label d.floor ∷ (stamp_entry t.label n ∷ [])) (inr (inl refl))))).0

  -- ---- the other number of a commit

  point_drew : (name : EngineName) (q : Point) (w : CommitOf h.transactions q) → drawn_at name w.who.drew ≡ Some (number_at name q)
  point_drew Mem q w = w.mem
  point_drew Store q w = w.store

  point_other : (name : EngineName) (q : Point) (w : CommitOf h.transactions q) → drawn_at (other_engine name) w.who.drew ≡ Some (other_at name q)
  point_other Mem q w = w.store
  point_other Store q w = w.mem

  crossing : (name : EngineName) (t : Transaction) (n m : ℕ) → In t h.transactions → t.committed ≡ true → drawn_at name t.drew ≡ Some n → drawn_at (other_engine name) t.drew ≡ Some m → Among name n m h.points
  crossing Mem t n m i y e f = among_mem n m h.points ((belongs h l t i).crossed n m y e f)
  crossing Store t n m i y e f = among_store m n h.points ((belongs h l t i).crossed m n y f e)

  other_is : (t : Transaction) (n : ℕ) → In t h.transactions → t.committed ≡ true → drawn_at name t.drew ≡ Some n → other_number name (h.first ∷ h.points) (Some n) ≡ drawn_at (other_engine name) t.drew
  other_is t n i y e = ap (other_first name n) (early_passed name n (h.first ∷ []) h.points ((belongs h l t i).past name n e, tt)) ∙ at (drawn_at (other_engine name) t.drew) refl
    where
      no_point : drawn_at (other_engine name) t.drew ≡ None → (q : Point) → (q.commit ≡ true → CommitOf h.transactions q) → q.commit ≡ true → number_at name q ≡ n → ⊥
      no_point f q of c g =
          let w : CommitOf h.transactions q = of c in
          let same : w.who ≡ t = unlike_same name n h.transactions w.who t (l.unlike name) w.among i (point_drew name q w ∙ ap Some g) e in
          some_clash (sym (point_other name q w) ∙ ap (λ (x : Transaction). drawn_at (other_engine name) x.drew) same ∙ f)

      at : (o : Option ℕ) → drawn_at (other_engine name) t.drew ≡ o → other_first name n (from_number name n h.points) ≡ o
      at (Some m) f = other_found name n h.first h.points m l.stairs.1 (crossing name t n m i y e f)
      at None f = other_missing name n h.points (each_weaker (λ (q : Point). q.commit ≡ true → CommitOf h.transactions q) (λ (q : Point). q.commit ≡ true → number_at name q ≡ n → ⊥) (no_point f) h.points l.points)

  -- ---- a commit as it is told

  named : table.name ≡ name
  named = name_stays (start h l name) (all h l name)

  writes_are : (t : Transaction) (n : ℕ) → In t h.transactions → t.committed ≡ true → drawn_at name t.drew ≡ Some n → net (writes_of (filter (is_stamped_with n) table.versions)) ≡ (commit_in h.catalog name t).writes
  writes_are t n i y e =
      sym (each_in (λ (c : Commit). (n : ℕ) → number_in name c ≡ Some n → c.writes ≡ net (writes_of (filter (is_stamped_with n) table.versions))) commits (commit_in h.catalog name t)
      (commits_all h l name).writes (counted_in h.catalog name h.transactions t n i (counts_from name t n y e)) n (number_is h.catalog name name t ∙ e))

  -- with both its numbers
  abbrev joins : Commit → Commit
  joins c = with_other name (h.first ∷ h.points) c

  told_is : (t : Transaction) (n : ℕ) → In t h.transactions → t.committed ≡ true → drawn_at name t.drew ≡ Some n → joins (commit_of table (n, t.label)) ≡ commit_in h.catalog name t
  told_is t n i y e = joined_is name (h.first ∷ h.points) table h.catalog t n named e (other_is t n i y e) (writes_are t n i y e)

  -- ---- the lists

  abbrev pub list : List Commit
  list = map joins (map (commit_of table) table.stamped)

  list_rises : Rises (number_in name) (number_at name h.first) list
  list_rises = rises_joined name (h.first ∷ h.points) (number_at name h.first) (map (commit_of table) table.stamped) (are_commits name h.catalog h.rows (number_at name h.first) (all h l name)).rises

  list_among : Each (λ (c : Commit). In c commits) list
  list_among = each_map_from (λ (c : Commit). In (joins c) commits) (λ (c : Commit). In c commits) joins (λ c k. k) (map (commit_of table) table.stamped)
      (each_map_from OfStamper (λ (c : Commit). In (joins c) commits) (commit_of table) one table.stamped stampers)
    where
      one : (p : ℕ × Label) → OfStamper p → In (joins (commit_of table p)) commits
      one p w = subst (λ (k : Label). In (joins (commit_of table (p.0, k))) commits) w.is
          (subst (λ (c : Commit). In c commits) (sym (told_is w.who p.0 w.among w.committed w.drew)) (counted_in h.catalog name h.transactions w.who p.0 w.among (counts_from name w.who p.0 w.committed w.drew)))

  among_list : Each (λ (c : Commit). In c list) commits
  among_list = commits_each h.catalog name (λ (c : Commit). In c list) h.transactions (λ t i n q. one t i n (counts_is name t n q))
    where
      one : (t : Transaction) → In t h.transactions → (n : ℕ) → (t.committed ≡ true) × (drawn_at name t.drew ≡ Some n) → In (commit_in h.catalog name t) list
      one t i n k = subst (λ (c : Commit). In c list) (told_is t n i k.0 k.1)
          (in_map joins (map (commit_of table) table.stamped) (commit_of table (n, t.label))
          (in_map (commit_of table) table.stamped (n, t.label)
          (find_in n t.label table.stamped (stamped_found n t.label (start h l name) (all h l name) (all_allowed h l name) (in_stamps t n i k.0 k.1)))))

  pub tells : list ≡ commits
  tells = same_members h.catalog name (number_at name h.first) (number_at name h.first) list commits list_rises (rising h l name) list_among among_list
