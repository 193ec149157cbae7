-- In linked traces, an entry by which an engine told its commits, joined by points that are enough, is a window of the commits of the traces.
use Rattle.std.specs.Prelude.{ℕ, List, [], ◌∷◌, ◌++◌, Some, true, ◌≡◌, ◌<◌, ◌≤◌, nat_lt, nat_le, map}
use Rattle.std.proofs.Common.{sym, ap, subst, ◌∙◌, ⊎_elim, arith}
use Rattle.std.specs.List.{filter}
use Rattle.std.proofs.lemmas.Bool.{cond-true, and_parts, ltb-true, leb-true}
use Rattle.std.proofs.lemmas.List.{append_assoc}
use Rattle.std.proofs.lemmas.List.Sums.{fold-append}
use Rattle.sk_model.specs.declared.label.Label.{Label}
use Rattle.sk_model.specs.declared.engine.EngineName.{EngineName}
use Rattle.sk_model.specs.declared.engine.EngineName.TheVariants.{Mem, Store}
use Rattle.sk_model.specs.declared.commit.Commit.{Commit}
use Rattle.sk_model.specs.declared.point.Point.{Point}
use Rattle.sk_model.specs.declared.call.EngineCall.TheVariants as call
use Rattle.sk_model.specs.declared.call.EngineFault.{EngineFault}
use Rattle.sk_model.specs.declared.call.EngineReply.TheVariants.{Commits, Fault}
use Rattle.sk_model.specs.declared.call.Entry.{Entry}
use Rattle.sk_model.specs.Numbers.{there, within}
use Rattle.sk_model.specs.Engine.{EngineTable}
use Rattle.sk_model.specs.EngineReplies.{is_used, horizon_of, mem_number, store_number, commit_of, commits_between, answer_of}
use Rattle.sk_model.specs.EngineConditions.{may, empty_of}
use Rattle.sk_model.specs.Legal.{step, after_entries, IsReply, Legal, Allowed}
use Rattle.sk_model.specs.Stamped.{number_in}
use Rattle.sk_model.proofs.Lists.{Each, each_weaker}
use Rattle.sk_model.proofs.Numbered.{filter-map, filter_agree_on, each_all}
use Rattle.sk_model.proofs.Order.{legal_front}
use Rattle.sk_model.proofs.Reading.{name_stays}
use Rattle.sk_linked.specs.Reads.{number_at}
use Rattle.sk_linked.specs.Traces.{Traces, commits_in, owed, In, Linked}
use Rattle.sk_linked.proofs.Grounds.{start, all, all_allowed, filter_pass}
use Rattle.sk_linked.proofs.Projection.{allowed_front}
use Rattle.sk_recorded.specs.Joined.{other_first, other_number, with_other, joined}
use Rattle.sk_recorded.specs.Windows.{window}
use Rattle.sk_recorded.specs.Entries.{records_entry, AreEnough}
use Rattle.sk_recorded.proofs.Staying.{horizon_used, start_stays, purged_stays, map_same, commits_stay}
use Rattle.sk_recorded.proofs.Others.{early_passed, later_unread, joined_same}
use Rattle.sk_recorded.proofs.Telling.{number_kept, table, tells}
use Rattle.sk_recorded.proofs.Windows.{window_is}

-- ---- what the entry says

-- a member stands in the middle
pub record Middle {X : Type 0} (x : X) (xs : List X) : Type 0 where
  pub front : List X
  pub back : List X
  pub is : xs ≡ front ++ x ∷ back

pub middle : {X : Type 0} (x : X) (xs : List X) → In x xs → Middle x xs
middle x [] i = absurd i
middle {X = X} x (y ∷ ys) i = ⊎_elim
    (λ (e : x ≡ y). record { front = []; back = ys; is = ap (λ (z : X). z ∷ ys) (sym e) })
    (λ (k : In x ys). let m : Middle x ys = middle x ys k in record { front = y ∷ m.front; back = m.back; is = ap (λ zs. y ∷ zs) m.is })
    i

not_fault : {A : Type 0} {cs : List Commit} {f : EngineFault} → Commits cs ≡ Fault f → A
not_fault e = absurd (clash e)
  where
    clash : {cs : List Commit} {f : EngineFault} → Commits cs ≡ Fault f → ⊥
    clash e = cc

same_answer : {cs ds : List Commit} → Commits cs ≡ Commits ds → cs ≡ ds
same_answer e = cc

-- it is what the table tells
told_is : (e : EngineTable) (from to : ℕ) (cs : List Commit) → may e (call.Records from to) ≡ true → IsReply e (call.Records from to) (Commits cs) → cs ≡ commits_between e from to
told_is e from to cs m r = ⊎_elim
    (λ k. not_fault k.1)
    (λ k. same_answer (sym k ∙ cond-true (may e (call.Records from to)) (answer_of e (call.Records from to)) (empty_of (call.Records from to)) m))
    r

-- and each of its numbers is used
all_used : (e : EngineTable) (from to : ℕ) → e.start ≤ e.purged → may e (call.Records from to) ≡ true → (m : ℕ) → within from to m ≡ true → is_used e m ≡ true
all_used e from to kept ok m t =
    let bounds : (nat_le e.purged from ≡ true) × (nat_le to (horizon_of e) ≡ true) = and_parts (nat_le e.purged from) (nat_le to (horizon_of e)) ok in
    let ends : (nat_lt from m ≡ true) × (nat_le m to ≡ true) = and_parts (nat_lt from m) (nat_le m to) t in
    let past : e.purged ≤ from = leb-true e.purged from bounds.0 in
    let decided : to ≤ horizon_of e = leb-true to (horizon_of e) bounds.1 in
    let low : from < m = ltb-true from m ends.0 in
    let high : m ≤ to = leb-true m to ends.1 in
    horizon_used e m (omega arith) (omega arith)

-- ---- the points that join it

number_of_commit : (name : EngineName) (e : EngineTable) (p : ℕ × Label) → e.name ≡ name → number_in name (commit_of e p) ≡ Some p.0
number_of_commit Mem e p same = ap (λ x. mem_number x p.0) same
number_of_commit Store e p same = ap (λ x. store_number x p.0) same

-- points that are enough give each of its numbers the other number that all points give it
other_same : (name : EngineName) (points used : List Point) (from to n : ℕ) → AreEnough name points used from to → within from to n ≡ true → other_number name used (Some n) ≡ other_number name points (Some n)
other_same name points used from to n k t =
    sym (ap (λ ps. other_number name ps (Some n)) k.are
    ∙ ap (other_first name n) (early_passed name n k.early (used ++ k.later) (each_weaker (λ (q : Point). number_at name q ≤ from) (λ (q : Point). number_at name q < n) (λ q l. below q l) k.early k.before))
    ∙ later_unread name n used k.later k.reached k.among reaches)
  where
    ends : (nat_lt from n ≡ true) × (nat_le n to ≡ true)
    ends = and_parts (nat_lt from n) (nat_le n to) t

    below : (q : Point) → number_at name q ≤ from → number_at name q < n
    below q l = let low : from < n = ltb-true from n ends.0 in omega arith

    reaches : n ≤ number_at name k.reached
    reaches = let high : n ≤ to = leb-true n to ends.1 in let far : to ≤ number_at name k.reached = k.far in omega arith

-- ---- the window

module _ (h : Traces) (l : Linked h) (name : EngineName) where
  abbrev whole : EngineTable
  whole = table h l name

  abbrev Inside : ℕ → ℕ → ℕ × Label → Type 0
  Inside from to p = within from to p.0 ≡ true

  named : whole.name ≡ name
  named = name_stays (start h l name) (all h l name)

  -- what is told behind all that was called, by points that are enough, is by all points
  joined_all : (from to : ℕ) (used : List Point) → AreEnough name (h.first ∷ h.points) used from to
      → joined name used (commits_between whole from to) ≡ joined name (h.first ∷ h.points) (commits_between whole from to)
  joined_all from to used k = map_same (with_other name used) (with_other name (h.first ∷ h.points)) (commits_between whole from to)
      (each_mapped (λ c. with_other name used c ≡ with_other name (h.first ∷ h.points) c) (filter (λ (p : ℕ × Label). within from to p.0) whole.stamped)
      (each_weaker (Inside from to) (λ (p : ℕ × Label). with_other name used (commit_of whole p) ≡ with_other name (h.first ∷ h.points) (commit_of whole p))
      (λ p t. joined_same name used (h.first ∷ h.points) (commit_of whole p) p.0 (number_of_commit name whole p named) (other_same name (h.first ∷ h.points) used from to p.0 k t))
      (filter (λ (p : ℕ × Label). within from to p.0) whole.stamped) (filter_pass (λ (p : ℕ × Label). within from to p.0) whole.stamped)))
    where
      each_mapped : (P : Commit → Type 0) (ps : List (ℕ × Label)) → Each (λ (p : ℕ × Label). P (commit_of whole p)) ps → Each P (map (commit_of whole) ps)
      each_mapped P [] q = tt
      each_mapped P (p ∷ ps) q = (q.0, each_mapped P ps q.1)

  -- and a window of the commits
  window_told : (from to : ℕ) → joined name (h.first ∷ h.points) (commits_between whole from to) ≡ window name from to (commits_in h.catalog name h.transactions)
  window_told from to =
      sym (window_is name from to (commits_in h.catalog name h.transactions)
      ∙ ap (filter (λ (c : Commit). there (within from to) (number_in name c))) (sym (tells h l name))
      ∙ filter-map (λ (c : Commit). there (within from to) (number_in name c)) (with_other name (h.first ∷ h.points)) (map (commit_of whole) whole.stamped)
      ∙ ap (map (with_other name (h.first ∷ h.points)))
      (filter-map (λ (c : Commit). there (within from to) (number_in name (with_other name (h.first ∷ h.points) c))) (commit_of whole) whole.stamped
      ∙ ap (map (commit_of whole))
      (filter_agree_on (λ (p : ℕ × Label). there (within from to) (number_in name (with_other name (h.first ∷ h.points) (commit_of whole p)))) (λ (p : ℕ × Label). within from to p.0) whole.stamped
      (each_all _ (λ (p : ℕ × Label). ap (there (within from to)) (number_kept name (h.first ∷ h.points) (commit_of whole p) ∙ number_of_commit name whole p named)) whole.stamped))))

  module _ (from to : ℕ) (cs : List Commit) (m : Middle (records_entry from to cs) (h.journals name)) where
    abbrev before : EngineTable
    before = after_entries (start h l name) m.front

    abbrev rest : List Entry
    rest = records_entry from to cs ∷ (m.back ++ owed name h.transactions)

    all_is : all h l name ≡ m.front ++ rest
    all_is = ap (λ js. js ++ owed name h.transactions) m.is ∙ append_assoc m.front (records_entry from to cs ∷ m.back) (owed name h.transactions)

    allowed : Allowed before rest
    allowed = (allowed_front (start h l name) m.front rest (subst (Allowed (start h l name)) all_is (all_allowed h l name))).1

    reply : IsReply before (call.Records from to) (Commits cs)
    reply = (legal_front (start h l name) m.front (records_entry from to cs ∷ m.back) (subst (Legal (start h l name)) m.is (l.legal name))).1.0

    begun : before.start ≤ before.purged
    begun =
        let same : before.start ≡ (start h l name).start = start_stays (start h l name) m.front in
        let more : (start h l name).purged ≤ before.purged = purged_stays (start h l name) m.front in
        omega arith

    -- what was told then is told behind all that was called
    stays : cs ≡ commits_between whole from to
    stays =
        told_is before from to cs allowed.0 reply
        ∙ sym (ap (λ e. commits_between e from to) (ap (after_entries (start h l name)) all_is ∙ fold-append step (start h l name) m.front rest)
        ∙ commits_stay before rest from to allowed (all_used before from to begun allowed.0))

    pub entry_window : (used : List Point) → AreEnough name (h.first ∷ h.points) used from to → joined name used cs ≡ window name from to (commits_in h.catalog name h.transactions)
    entry_window used k = ap (joined name used) stays ∙ joined_all from to used k ∙ window_told from to
