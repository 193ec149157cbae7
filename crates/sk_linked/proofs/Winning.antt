-- First committers win: between each writer's place and its own place nothing wrote a row that it wrote.
use Rattle.std.specs.Prelude.{ℕ, zero, suc, List, [], ◌∷◌, ◌++◌, Option, Some, None, Bool, true, false, cond, ◌||◌, ◌≡◌, ◌<◌, ◌≤◌, length, position, get_or, IfSome}
use Rattle.std.proofs.Common.{refl, sym, ap, subst, ◌∙◌, ⊎_elim, arith}
use Rattle.std.specs.List.{list_any}
use Rattle.std.proofs.lemmas.Bool.{cases_Bool, cond-true, cond-false, false≢true, and_parts, or_from}
use Rattle.std.proofs.lemmas.List.{append_assoc}
use Rattle.std.proofs.lemmas.List.Quantifiers.{position-Some}
use Rattle.sk_rows.specs.declared.value.Value.{Value}
use Rattle.sk_model.specs.declared.engine.EngineName.{EngineName}
use Rattle.sk_model.specs.declared.commit.Write.{Write}
use Rattle.sk_model.specs.declared.commit.Commit.{Commit}
use Rattle.sk_model.specs.declared.call.Entry.{Entry}
use Rattle.sk_model.specs.Database.{RowOf, hits, net}
use Rattle.sk_model.specs.Records.{clashes, FirstWins, same_label, own_place}
use Rattle.sk_model.specs.Engine.{Opening, EngineTable, opening_of, snapshot_in}
use Rattle.sk_model.specs.EngineConditions.{is_closed}
use Rattle.sk_model.specs.Legal.{after_entries, Allowed}
use Rattle.sk_model.specs.Calls.{last_row}
use Rattle.sk_model.specs.Talks.{puts_in, is_by, entries_by}
use Rattle.sk_model.proofs.Lists.{Each, each_weaker, each_front, each_end}
use Rattle.sk_model.proofs.Labels.{same_is}
use Rattle.sk_model.proofs.Lookups.{hits_is, hits_itself}
use Rattle.sk_model.proofs.Nets.{net_row}
use Rattle.sk_linked.specs.Reads.{snapshot_at, order_of, StampedIn, Writer}
use Rattle.sk_linked.proofs.Wins.{wins}
use Rattle.sk_linked.specs.Traces.{drawn_at, Transaction, Traces, run_of, stamp_entry, owed_by, In, close_entry, Drew, Linked}
use Rattle.sk_linked.specs.Headline.{Author, place_of, WinsFirst}
use Rattle.sk_linked.proofs.Projection.{SplitBy, split_by, HasSnapshot, OpensAt, snapshot_is, opens_at_by, allowed_front}
use Rattle.sk_linked.proofs.Members.{distinct_same}
use Rattle.sk_linked.proofs.Grounds.{start, all, belongs, own_all, own_fits, all_legal, all_allowed, commits_all, is_run}
use Rattle.sk_linked.proofs.Telling.{own_opens}
use Rattle.sk_linked.proofs.Authors.{Committer, committers, authors}

-- ---- where an element is found

pub record SplitAt {X : Type 0} (p : X → Bool) (xs : List X) (q : ℕ) : Type 0 where
  pub front : List X
  pub item : X
  pub back : List X
  pub is : xs ≡ front ++ item ∷ back
  pub long : length front ≡ q
  pub passes : p item ≡ true

split_at : {X : Type 0} (xs : List X) (q : ℕ) (d : X) → q < length xs → (front : List X) × (back : List X) × (xs ≡ front ++ get_or xs q d ∷ back) × (length front ≡ q)
split_at [] q d l = absurd (omega (arith, l))
split_at (x ∷ xs) zero d l = ([], xs, refl, refl)
split_at {X = X} (x ∷ xs) (suc q) d l =
    let k : (front : List X) × (back : List X) × (xs ≡ front ++ get_or xs q d ∷ back) × (length front ≡ q) = split_at xs q d (omega (arith, l)) in
    (x ∷ k.0, k.1, ap (λ ys. x ∷ ys) k.2, ap suc k.3)

pub found_at : {X : Type 0} (p : X → Bool) (xs : List X) (q : ℕ) → position p xs ≡ Some q → SplitAt p xs q
found_at p [] q e = absurd (clash e)
  where
    clash : None ≡ Some q → ⊥
    clash e = cc
found_at {X = X} p (x ∷ xs) q e =
    let f : (q < length (x ∷ xs)) × (p (get_or (x ∷ xs) q x) ≡ true) × ((k : ℕ) → k < q → p (get_or (x ∷ xs) k x) ≡ false) = position-Some p (x ∷ xs) q x e in
    let s : (front : List X) × (back : List X) × (x ∷ xs ≡ front ++ get_or (x ∷ xs) q x ∷ back) × (length front ≡ q) = split_at (x ∷ xs) q x f.0 in
    record { front = s.0; item = get_or (x ∷ xs) q x; back = s.1; is = s.2; long = s.3; passes = f.1 }

-- ---- from what writes come to, to the writes

same_hit : (v w : Write) → hits v.table v.key w ≡ true → hits w.table w.key v ≡ true
same_hit v w e =
    let is : (v.table ≡ w.table) × (v.key ≡ w.key) = hits_is v.table v.key w e in
    rw (← is.0, ← is.1) (hits_itself v)

hit_back : (v w : Write) → hits v.table v.key w ≡ hits w.table w.key v
hit_back v w = ⊎_elim
    (λ (y : hits v.table v.key w ≡ true). y ∙ sym (same_hit v w y))
    (λ (n : hits v.table v.key w ≡ false). n ∙ sym (⊎_elim (λ (y : hits w.table w.key v ≡ true). absurd (false≢true (sym n ∙ same_hit w v y))) (λ (k : hits w.table w.key v ≡ false). k) (cases_Bool (hits w.table w.key v))))
    (cases_Bool (hits v.table v.key w))

any_back : (w : Write) (ws : List Write) → list_any (λ (v : Write). hits v.table v.key w) ws ≡ list_any (λ (v : Write). hits w.table w.key v) ws
any_back w [] = refl
any_back w (v ∷ ws) = ap (λ b. b || list_any (λ (v : Write). hits v.table v.key w) ws) (hit_back v w) ∙ ap (λ b. hits w.table w.key v || b) (any_back w ws)

missed : (t : ℕ) (key : Value) (ws : List Write) (r : Option RowOf) → list_any (hits t key) ws ≡ false → last_row t key r ws ≡ r
missed t key [] r e = refl
missed t key (w ∷ ws) r e =
    let both : (hits t key w ≡ false) × (list_any (hits t key) ws ≡ false) = or_parts (hits t key w) (list_any (hits t key) ws) e in
    ap (λ x. last_row t key x ws) (cond-false (hits t key w) w.row r both.0) ∙ missed t key ws r both.1
  where
    or_parts : (a b : Bool) → (a || b) ≡ false → (a ≡ false) × (b ≡ false)
    or_parts true b e = absurd (false≢true (sym e))
    or_parts false b e = (refl, e)

struck : (t : ℕ) (key : Value) (ws : List Write) (r q : Option RowOf) → list_any (hits t key) ws ≡ true → last_row t key r ws ≡ last_row t key q ws
struck t key [] r q e = absurd (false≢true e)
struck t key (w ∷ ws) r q e = ⊎_elim
    (λ (y : hits t key w ≡ true). ap (λ x. last_row t key x ws) (cond-true (hits t key w) w.row r y ∙ sym (cond-true (hits t key w) w.row q y)))
    (λ (n : hits t key w ≡ false). struck t key ws (cond (hits t key w) w.row r) (cond (hits t key w) w.row q) (sym (ap (λ b. b || list_any (hits t key) ws) n) ∙ e))
    (cases_Bool (hits t key w))

none_row : ◌≡◌ {A = Option RowOf} None (Some []) → ⊥
none_row e = cc

net_misses : (t : ℕ) (key : Value) (ws : List Write) → list_any (hits t key) (net ws) ≡ false → list_any (hits t key) ws ≡ false
net_misses t key ws e = ⊎_elim
    (λ (y : list_any (hits t key) ws ≡ true).
    let all : (r : Option RowOf) → last_row t key r ws ≡ r = λ r. sym (net_row t key r ws) ∙ missed t key (net ws) r e in
    absurd (none_row (sym (all None) ∙ struck t key ws None (Some []) y ∙ all (Some []))))
    (λ (n : list_any (hits t key) ws ≡ false). n)
    (cases_Bool (list_any (hits t key) ws))

clash_net : (ws : List Write) (d : Commit) → clashes (net ws) d ≡ false → clashes ws d ≡ false
clash_net ws d = go d.writes
  where
    or_parts : (a b : Bool) → (a || b) ≡ false → (a ≡ false) × (b ≡ false)
    or_parts true b e = absurd (false≢true (sym e))
    or_parts false b e = (refl, e)

    go : (xs : List Write) → list_any (λ w. list_any (λ v. hits v.table v.key w) (net ws)) xs ≡ false → list_any (λ w. list_any (λ v. hits v.table v.key w) ws) xs ≡ false
    go [] e = refl
    go (x ∷ xs) e =
        let both : (list_any (λ (v : Write). hits v.table v.key x) (net ws) ≡ false) × (list_any (λ w. list_any (λ v. hits v.table v.key w) (net ws)) xs ≡ false) = or_parts _ _ e in
        or_from _ _ (any_back x ws ∙ net_misses x.table x.key ws (sym (any_back x (net ws)) ∙ both.0)) (go xs both.1)

closed_snapshot : (a : Option ℕ) (o : Option Opening) → HasSnapshot a o → is_closed o ≡ true → a ≡ Some (snapshot_in o)
closed_snapshot a None h c = absurd (false≢true c)
closed_snapshot a (Some o) h c = h

module _ (h : Traces) (l : Linked h) where
  -- the stamp of a committed transaction, made or still to come
  stamped_in : (t : Transaction) → In t h.transactions → t.committed ≡ true → (s : EngineName) (n : ℕ) → drawn_at s t.drew ≡ Some n → StampedIn (run_of h) s (all h l s) (snapshot_at s t.snapshots) n
  stamped_in t i y s n e =
      let d : Drew t s n = (belongs h l t i).drew s n e in
      let close : Entry = close_entry t.label d.floor in
      let stamp : Entry = stamp_entry t.label n in
      let first : EngineTable = start h l s in
      let own : entries_by t.label (all h l s) ≡ (d.before ++ close ∷ []) ++ stamp ∷ [] =
      own_all h l s t i ∙ ap (λ xs. xs ++ owed_by s t) d.is ∙ append_assoc d.before (close ∷ d.tail) (owed_by s t) ∙ ap (λ xs. d.before ++ close ∷ xs) (d.once y) ∙ sym (append_assoc d.before (close ∷ []) (stamp ∷ [])) in
      let cut : SplitBy (is_by t.label) (all h l s) (d.before ++ close ∷ []) stamp [] = split_by (is_by t.label) (all h l s) (d.before ++ close ∷ []) stamp [] own in
      let alloweds : Allowed first cut.before × Allowed (after_entries first cut.before) (stamp ∷ cut.later) = allowed_front first cut.before (stamp ∷ cut.later) (subst (λ xs. Allowed first xs) cut.is (all_allowed h l s)) in
      let opens_all : Each (λ (j : Entry). OpensAt t.label (snapshot_at s t.snapshots) j.call j.reply) (all h l s) =
      each_weaker _ (λ (j : Entry). OpensAt t.label (snapshot_at s t.snapshots) j.call j.reply)
      (λ j f. ⊎_elim (λ (b : is_by t.label j ≡ true). own_opens t s j.call j.reply (f b)) (λ (b : is_by t.label j ≡ false). opens_at_by t.label (snapshot_at s t.snapshots) j.call j.reply b) (cases_Bool (is_by t.label j)))
      (all h l s) (own_fits h l s t i) in
      let opens_at : Each (λ (j : Entry). OpensAt t.label (snapshot_at s t.snapshots) j.call j.reply) cut.before = each_front _ cut.before (stamp ∷ cut.later) (subst (λ xs. Each (λ (j : Entry). OpensAt t.label (snapshot_at s t.snapshots) j.call j.reply) xs) cut.is opens_all) in
      let shut : is_closed (opening_of (after_entries first cut.before) t.label) ≡ true = (and_parts (is_closed (opening_of (after_entries first cut.before) t.label)) _ alloweds.1.0).0 in
      record {
        legal = all_legal h l s;
        commits = commits_all h l s;
        tx = t.label;
        before = cut.before;
        later = cut.later;
        stands = cut.is;
        met = alloweds.1.0;
        had = closed_snapshot (snapshot_at s t.snapshots) (opening_of (after_entries first cut.before) t.label) (snapshot_is t.label (snapshot_at s t.snapshots) first cut.before tt opens_at) shut;
      }

  writer : (t : Transaction) → In t h.transactions → (c : Commit) → (k : Committer h.transactions c) → k.who ≡ t → Writer (run_of h) (all h l) t.snapshots c
  writer t i c k same = record {
    pair = (belongs h l t i).pair;
    stamped = λ s n e. stamped_in t i (ap (λ (x : Transaction). x.committed) (sym same) ∙ k.committed) s n (ap (λ (x : Transaction). drawn_at s x.drew) (sym same) ∙ sym (k.numbers s) ∙ e);
    engine = k.engine;
    number = k.number;
    has = k.numbers k.engine ∙ k.drew;
  }

  -- where the transaction's commit stands
  wins_at : (t : Transaction) → In t h.transactions → (front back : List Commit) (c : Commit) → order_of (run_of h) ≡ front ++ c ∷ back → same_label c.label t.label ≡ true
      → (place_of (run_of h) t ≤ length front) × FirstWins (order_of (run_of h)) (place_of (run_of h) t) (length front) (puts_in t.talk)
  wins_at t i front back c is y =
      let k : Committer h.transactions c = (each_end (Committer h.transactions) front (c ∷ back) (subst (λ cs. Each (Committer h.transactions) cs) is (committers h l))).0 in
      let a : Author h.transactions c = (each_end (Author h.transactions) front (c ∷ back) (subst (λ cs. Each (Author h.transactions) cs) is (authors h l))).0 in
      let label : c.label ≡ t.label = same_is c.label t.label y in
      let mine : k.who ≡ t = distinct_same h.transactions k.who t l.distinct k.among i (sym k.label ∙ label) in
      let ours : a.who ≡ t = distinct_same h.transactions a.who t l.distinct a.among i (sym a.label ∙ label) in
      let writes : c.writes ≡ net (puts_in t.talk) = a.writes ∙ ap (λ (x : Transaction). net (puts_in x.talk)) ours in
      let both : (place_of (run_of h) t ≤ length front) × FirstWins (order_of (run_of h)) (place_of (run_of h) t) (length front) c.writes = wins (run_of h) (all h l) t.snapshots front back c (is_run h l) (writer t i c k mine) is in
      let net_wins : FirstWins (order_of (run_of h)) (place_of (run_of h) t) (length front) (net (puts_in t.talk)) = subst (λ ws. FirstWins (order_of (run_of h)) (place_of (run_of h) t) (length front) ws) writes both.1 in
      (both.0, each_weaker (λ (d : Commit). clashes (net (puts_in t.talk)) d ≡ false) (λ (d : Commit). clashes (puts_in t.talk) d ≡ false) (λ d e. clash_net (puts_in t.talk) d e) _ net_wins)

  -- first committers win between each writer's place and its own place
  pub wins_first : (t : Transaction) → In t h.transactions → WinsFirst (run_of h) t
  wins_first t i = go (own_place (order_of (run_of h)) t.label) refl
    where
      go : (o : Option ℕ) → own_place (order_of (run_of h)) t.label ≡ o → IfSome o (λ q. (place_of (run_of h) t ≤ q) × FirstWins (order_of (run_of h)) (place_of (run_of h) t) q (puts_in t.talk))
      go None e = tt
      go (Some q) e =
          let s : SplitAt (λ (c : Commit). same_label c.label t.label) (order_of (run_of h)) q = found_at (λ (c : Commit). same_label c.label t.label) (order_of (run_of h)) q e in
          subst (λ n. (place_of (run_of h) t ≤ n) × FirstWins (order_of (run_of h)) (place_of (run_of h) t) n (puts_in t.talk)) s.long (wins_at t i s.front s.back s.item s.is s.passes)
