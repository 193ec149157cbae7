-- The stamped numbers of an engine's table are its commits.
use Rattle.std.specs.Prelude.{◌≡◌, ℕ, List, [], ◌∷◌, ◌++◌, Option, Some, None, Bool, true, false, cond, not, ◌&&◌, ◌<◌, ◌≤◌, ◌⊎◌, T, nat_lt, map, is_some}
use Rattle.std.proofs.Common.{refl, sym, ap, subst, ◌∙◌, inl, inr, ⊎_elim, arith}
use Rattle.std.specs.List.{filter}
use Rattle.std.specs.declared.cmp.Ordering.{Ordering}
use Rattle.std.specs.declared.cmp.Ordering.TheVariants.{Less, Equal, Greater}
use Rattle.std.specs.Ordering.{nat_cmp, is_lt, eq_by_cmp}
use Rattle.std.specs.Cmp.{nat_cmp_total, nat_cmp_is, unsigned_tied}
use Rattle.std.specs.FinMap.{find, put, is_sorted}
use Rattle.std.specs.FinMap.Entries.{find-put, is_sorted-put, below_all, by_order}
use Rattle.std.proofs.lemmas.Bool.{cond_both, cond-false, and_parts, ltb-true, eqb-true, eq-eqb, cases_Bool, cases_lt, cases_eq, false≢true}
use Rattle.sk_rows.specs.declared.table.Table.{Table}
use Rattle.sk_model.specs.declared.label.Label.{Label}
use Rattle.sk_model.specs.declared.engine.EngineName.{EngineName}
use Rattle.sk_model.specs.declared.engine.EngineName.TheVariants.{Mem, Store}
use Rattle.sk_model.specs.declared.commit.Commit.{Commit}
use Rattle.sk_model.specs.declared.call.EngineCall.{EngineCall}
use Rattle.sk_model.specs.declared.call.EngineCall.TheVariants as call
use Rattle.sk_model.specs.declared.call.Entry.{Entry}
use Rattle.sk_model.specs.Database.{Tables, net}
use Rattle.sk_model.specs.Numbers.{Rises}
use Rattle.sk_model.specs.Records.{same_label}
use Rattle.sk_model.specs.Engine.{Closed, Stamped, Dropped, Version, Opening, EngineTable, engine_at, opening_of, is_undecided, write_at, snapshot_of}
use Rattle.sk_model.specs.EngineReplies.{is_used, mem_number, store_number, commit_of, is_stamped_with}
use Rattle.sk_model.specs.EngineChanges.{restood, restand, opening_at, without_opening, change}
use Rattle.sk_model.specs.EngineConditions.{is_closed, floor_of, may}
use Rattle.sk_model.specs.Legal.{step, after_entries}
use Rattle.sk_model.specs.Stamped.{number_in, v_number, writes_of, Has}
use Rattle.sk_model.specs.EngineLaws.{StampedAreCommits}
use Rattle.sk_model.specs.EngineInvariant.{FloorFrom, Known, Listed}
use Rattle.sk_model.proofs.Lists.{Each, each_weaker}
use Rattle.sk_model.proofs.Labels.{openings_put, openings_closed, openings_without}
use Rattle.sk_model.proofs.Quiet.{each_map_from, each_put, step_keeps}
use Rattle.sk_model.proofs.Reading.{name_stays}

pub some_is : {X : Type 0} {x y : X} → Some x ≡ Some y → x ≡ y
some_is e = cc

pub none_some : {X A : Type 0} {x : X} → None ≡ Some x → A
none_some e = absurd (clash e)
  where
    clash : {X : Type 0} {x : X} → None ≡ Some x → ⊥
    clash e = cc

-- the number of an end is past the start
end_past : (s n : ℕ) (o : Option Opening) → FloorFrom s o → is_closed o ≡ true → floor_of o < n → s < n
end_past s n None h c l = absurd (false≢true c)
end_past s n (Some o) h c l = at o.floor refl
  where
    at : (f : Option ℕ) → o.floor ≡ f → s < n
    at None e = absurd (false≢true (sym (ap (λ (x : Option ℕ). is_some x) e) ∙ c))
    at (Some f) e =
        let from : s ≤ f = h f e in
        let is : floor_of (Some o) ≡ f = rw (e, floor_of) refl in
        omega arith

-- one more number among those of a list
put_here : (P : ℕ × Label → Type 0) (n : ℕ) (tx : Label) (p : ℕ × Label) (ps : List (ℕ × Label)) → P (n, tx) → P p → ((l : Label) → P (p.0, l)) → Each P ps → Each P (put nat_cmp n tx ps) → Each P (put nat_cmp n tx (p ∷ ps))
put_here P n tx p ps new old any rest more = go (nat_cmp n p.0)
  where
    go : (o : Ordering) → Each P (by_order o ((n, tx) ∷ p ∷ ps) ((p.0, tx) ∷ ps) (p ∷ put nat_cmp n tx ps))
    go Less = (new, (old, rest))
    go Equal = (any tx, rest)
    go Greater = (old, more)

past_put : (s n : ℕ) (tx : Label) (ps : List (ℕ × Label)) → s < n → Each (λ (p : ℕ × Label). s < p.0) ps → Each (λ (p : ℕ × Label). s < p.0) (put nat_cmp n tx ps)
past_put s n tx [] l h = (l, tt)
past_put s n tx (p ∷ ps) l h = put_here (λ (p : ℕ × Label). s < p.0) n tx p ps l h.0 (λ x. h.0) h.1 (past_put s n tx ps l h.1)

pub found_put : (m n : ℕ) (tx : Label) (ps : List (ℕ × Label)) → (is_some (find nat_cmp m ps) ≡ true) ⊎ (n ≡ m) → is_some (find nat_cmp m (put nat_cmp n tx ps)) ≡ true
found_put m n tx ps h = subst (λ (o : Option Label). is_some o ≡ true) (sym (find-put nat_cmp nat_cmp_total m n tx ps)) (at (eq_by_cmp nat_cmp m n) refl h)
  where
    at : (b : Bool) → eq_by_cmp nat_cmp m n ≡ b → (is_some (find nat_cmp m ps) ≡ true) ⊎ (n ≡ m) → is_some (cond b (Some tx) (find nat_cmp m ps)) ≡ true
    at true e h = refl
    at false e h = ⊎_elim (λ (k : is_some (find nat_cmp m ps) ≡ true). k)
        (λ (k : n ≡ m). absurd (false≢true (sym e ∙ unsigned_tied m n ∙ eq-eqb m n (sym k)))) h

known_stamp : (n : ℕ) (tx : Label) (ps : List (ℕ × Label)) (v : Version) → Known ps v → Known (put nat_cmp n tx ps) (restood tx (Stamped n) v)
known_stamp n tx ps v h = cond_both (same_label tx v.by && is_undecided v.standing) (record v { standing = Stamped n }) v (λ (x : Version). Known (put nat_cmp n tx ps) x)
    (λ e m f. found_put m n tx ps (inr (some_is f)))
    (λ e m f. found_put m n tx ps (inl (h m f)))

known_closed : (f : ℕ) (tx : Label) (ps : List (ℕ × Label)) (v : Version) → Known ps v → Known ps (restood tx (Closed f) v)
known_closed f tx ps v h = cond_both (same_label tx v.by && is_undecided v.standing) (record v { standing = Closed f }) v (λ (x : Version). Known ps x) (λ e m g. none_some g) (λ e. h)

known_dropped : (tx : Label) (ps : List (ℕ × Label)) (v : Version) → Known ps v → Known ps (restood tx Dropped v)
known_dropped tx ps v h = cond_both (same_label tx v.by && is_undecided v.standing) (record v { standing = Dropped }) v (λ (x : Version). Known ps x) (λ e m g. none_some g) (λ e. h)

listed_end : (s : ℕ) (e : EngineTable) (tx : Label) (voided : List ℕ) → Listed s e
    → Listed s (record e { versions = restand tx Dropped e.versions; openings = without_opening tx e.openings; voided = voided })
listed_end s e tx voided h = record {
  sorted = h.sorted;
  past = h.past;
  floors = openings_without (FloorFrom s) tx e.openings tt h.floors;
  greatest = h.greatest;
  known = each_map_from (Known e.stamped) (Known e.stamped) (restood tx Dropped) (known_dropped tx e.stamped) e.versions h.known;
}

listed_change : (s : ℕ) (e : EngineTable) (c : EngineCall) → may e c ≡ true → Listed s e → Listed s (change e c)
listed_change s e (call.Open tx n) m h = record {
  sorted = h.sorted;
  past = h.past;
  floors = openings_put (FloorFrom s) tx (opening_at n) e.openings (λ f k. none_some k) h.floors;
  greatest = let g : s ≤ e.greatest = h.greatest in omega arith;
  known = h.known;
}
listed_change s e (call.Get tx t key) m h = h
listed_change s e (call.Scan tx t) m h = h
listed_change s e (call.Put tx t key row) m h = record {
  sorted = h.sorted;
  past = h.past;
  floors = h.floors;
  greatest = h.greatest;
  known = each_put (Known e.stamped) (Known e.stamped) tx (snapshot_of e tx) (write_at t key row) (λ v k. k) (λ v i o k. k) (λ n k. none_some k) e.versions h.known;
}
listed_change s e (call.Close tx) m h = record {
  sorted = h.sorted;
  past = h.past;
  floors = openings_closed (FloorFrom s) tx e.greatest (opening_of e tx) e.openings (λ o k f q. floor_at f q) h.floors;
  greatest = h.greatest;
  known = each_map_from (Known e.stamped) (Known e.stamped) (restood tx (Closed e.greatest)) (known_closed e.greatest tx e.stamped) e.versions h.known;
}
  where
    floor_at : (f : ℕ) → Some e.greatest ≡ Some f → s ≤ f
    floor_at f q = let same : e.greatest ≡ f = some_is q in let l : s ≤ e.greatest = h.greatest in omega arith
listed_change s e (call.Stamp tx n) m h =
    let parts : (is_closed (opening_of e tx) ≡ true) × ((nat_lt (floor_of (opening_of e tx)) n && not (is_used e n)) ≡ true) = and_parts (is_closed (opening_of e tx)) (nat_lt (floor_of (opening_of e tx)) n && not (is_used e n)) m in
    let l : floor_of (opening_of e tx) < n = ltb-true (floor_of (opening_of e tx)) n (and_parts (nat_lt (floor_of (opening_of e tx)) n) (not (is_used e n)) parts.1).0 in
    record {
      sorted = is_sorted-put nat_cmp nat_cmp_total n tx e.stamped h.sorted;
      past = past_put s n tx e.stamped (end_past s n (opening_of e tx) (h.floors tx) parts.0 l) h.past;
      floors = openings_without (FloorFrom s) tx e.openings tt h.floors;
      greatest = h.greatest;
      known = each_map_from (Known e.stamped) (Known (put nat_cmp n tx e.stamped)) (restood tx (Stamped n)) (known_stamp n tx e.stamped) e.versions h.known;
    }
listed_change s e (call.Void tx n) m h = listed_end s e tx (e.voided ++ n ∷ []) h
listed_change s e (call.DropTx tx) m h = listed_end s e tx e.voided h
listed_change s e call.Horizon m h = h
listed_change s e (call.Records from to) m h = h
listed_change s e (call.Purge upto) m h = record { sorted = h.sorted; past = h.past; floors = h.floors; greatest = h.greatest; known = h.known }

pub listed_entries : (s : ℕ) (e : EngineTable) (js : List Entry) → Listed s e → Listed s (after_entries e js)
listed_entries s e [] h = h
listed_entries s e (j ∷ js) h = listed_entries s (step e j) js (step_keeps (Listed s) e j h (λ m r. listed_change s e j.call m h))

pub listed_start : (name : EngineName) (catalog : List Table) (rows : Tables) (start : ℕ) → Listed start (engine_at name catalog rows start)
listed_start name catalog rows start = record { sorted = tt; past = tt; floors = λ l. tt; greatest = omega arith; known = tt }

-- the commits of the stamped numbers
from_T : (b : Bool) → T b → b ≡ true
from_T true h = refl
from_T false h = absurd h

less_is : (x y : ℕ) → is_lt (nat_cmp x y) ≡ true → x < y
less_is x y e = ⊎_elim
    (λ (l : x < y). l)
    (λ (le : y ≤ x). ⊎_elim
    (λ (same : x ≡ y). absurd (false≢true (ap is_lt (nat_cmp_is x y Equal same) ∙ e)))
    (λ (ne : x ≡ y → ⊥). let l : y < x = omega arith in absurd (false≢true (ap is_lt (nat_cmp_is x y Greater l) ∙ e)))
    (cases_eq x y))
    (cases_lt x y)

all_past : (x : ℕ) (ps : List (ℕ × Label)) → below_all nat_cmp x ps ≡ true → Each (λ (p : ℕ × Label). x < p.0) ps
all_past x [] h = tt
all_past x (p ∷ ps) h =
    let parts : (is_lt (nat_cmp x p.0) ≡ true) × (below_all nat_cmp x ps ≡ true) = and_parts (is_lt (nat_cmp x p.0)) (below_all nat_cmp x ps) h in
    (less_is x p.0 parts.0, all_past x ps parts.1)

own_number : (name : EngineName) (e : EngineTable) (p : ℕ × Label) → e.name ≡ name → number_in name (commit_of e p) ≡ Some p.0
own_number Mem e p same = ap (λ (n : EngineName). mem_number n p.0) same
own_number Store e p same = ap (λ (n : EngineName). store_number n p.0) same

rises_of : (name : EngineName) (e : EngineTable) (low : ℕ) (ps : List (ℕ × Label)) → e.name ≡ name → is_sorted nat_cmp ps ≡ true → Each (λ (p : ℕ × Label). low < p.0) ps → Rises (number_in name) low (map (commit_of e) ps)
rises_of name e low [] same h k = tt
rises_of name e low (p ∷ ps) same h k =
    let parts : (below_all nat_cmp p.0 ps ≡ true) × (is_sorted nat_cmp ps ≡ true) = and_parts (below_all nat_cmp p.0 ps) (is_sorted nat_cmp ps) h in
    (p.0, own_number name e p same, k.0, rises_of name e p.0 ps same parts.1 (all_past p.0 ps parts.0))

writes_are : (name : EngineName) (e : EngineTable) (ps : List (ℕ × Label)) → e.name ≡ name
    → Each (λ (c : Commit). (n : ℕ) → number_in name c ≡ Some n → c.writes ≡ net (writes_of (filter (is_stamped_with n) e.versions))) (map (commit_of e) ps)
writes_are name e [] same = tt
writes_are name e (p ∷ ps) same = (
  (λ n k. let is : p.0 ≡ n = some_is (sym (own_number name e p same) ∙ k) in ap (λ m. net (writes_of (filter (is_stamped_with m) e.versions))) is),
  writes_are name e ps same,
)

has_number : (name : EngineName) (e : EngineTable) (n : ℕ) (ps : List (ℕ × Label)) → e.name ≡ name → is_some (find nat_cmp n ps) ≡ true → Has (number_in name) n (map (commit_of e) ps)
has_number name e n [] same h = absurd (false≢true h)
has_number name e n (p ∷ ps) same h = ⊎_elim
    (λ (t : eq_by_cmp nat_cmp n p.0 ≡ true). inl (own_number name e p same ∙ ap Some (sym (eqb-true n p.0 (sym (unsigned_tied n p.0) ∙ t)))))
    (λ (f : eq_by_cmp nat_cmp n p.0 ≡ false). inr (has_number name e n ps same (ap is_some (sym (cond-false (eq_by_cmp nat_cmp n p.0) (Some p.1) (find nat_cmp n ps) f)) ∙ h)))
    (cases_Bool (eq_by_cmp nat_cmp n p.0))

pub are_commits : StampedAreCommits
are_commits name catalog rows start js =
    let first : EngineTable = engine_at name catalog rows start in
    let e : EngineTable = after_entries first js in
    let h : Listed start e = listed_entries start first js (listed_start name catalog rows start) in
    let same : e.name ≡ name = name_stays first js in
    record {
      rises = rises_of name e start e.stamped same (from_T (is_sorted nat_cmp e.stamped) h.sorted) h.past;
      writes = writes_are name e e.stamped same;
      all = each_weaker (Known e.stamped) (λ (v : Version). (n : ℕ) → v_number v ≡ Some n → Has (number_in name) n (map (commit_of e) e.stamped)) (λ v k n f. has_number name e n e.stamped same (k n f)) e.versions h.known;
    }
