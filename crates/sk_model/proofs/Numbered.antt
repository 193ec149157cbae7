-- An engine's rows at a snapshot are the opening rows after its commits up to that snapshot.
use Rattle.std.specs.Prelude.{ℕ, List, [], ◌∷◌, ◌++◌, Option, Some, None, Bool, true, false, cond, ◌&&◌, ◌==◌, ◌≡◌, ◌<◌, ◌≤◌, ◌-◌, nat_lt, nat_le, map, length}
use Rattle.std.proofs.Math.Bool.{and_comm}
use Rattle.std.proofs.Common.{refl, sym, ap, subst, ◌∙◌, ⊎_elim, arith}
use Rattle.std.specs.List.{filter, flat_map}
use Rattle.std.proofs.lemmas.Bool.{cases_lt, cond_both, cond-true, cond-false, and_parts, ltb-true, lt-ltb, le-leb, lt-leb, false≢true, cases_Bool}
use Rattle.std.proofs.lemmas.Bool.Decides.{nat_tests}
use Rattle.std.proofs.lemmas.List.{map-append}
use Rattle.std.proofs.lemmas.List.Elements.{filter-append}
use Rattle.std.proofs.lemmas.List.Sums.{fold-append}
use Rattle.sk_rows.specs.declared.value.Value.{Value}
use Rattle.sk_model.specs.declared.commit.Write.{Write}
use Rattle.sk_model.specs.declared.commit.Commit.{Commit}
use Rattle.sk_model.specs.Database.{RowOf, Tables, hits, row_of, state, net}
use Rattle.sk_model.specs.Numbers.{there, within, Rises}
use Rattle.sk_model.specs.Engine.{VersionState, Open, Closed, Stamped, Dropped, Version, is_upto, is_stamped, is_of}
use Rattle.sk_model.specs.EngineReplies.{stamps, is_stamped_with}
use Rattle.sk_model.specs.Calls.{last_row}
use Rattle.sk_model.specs.Stamped.{number_of, v_number, writes_of, Has, CommitsOf}
use Rattle.sk_model.proofs.Lists.{Each, each_weaker, each_filter, filter_twice}
use Rattle.sk_model.proofs.Numbers.{there_is, none_pass, split_at}
use Rattle.sk_model.proofs.Lookups.{row_after_writes, state_is}
use Rattle.sk_model.proofs.Nets.{net_row}
use Rattle.sk_model.proofs.Quiet.{reads, seen_versions}
use Rattle.sk_model.proofs.Order.{is_row, same_row_of}
use Rattle.sk_model.specs.EngineInvariant.{Ordered, TimedAt, Behind, same_row}

abbrev pub row_versions : ℕ → Value → List Version → List Version
row_versions t key vs = filter (is_row t key) vs

pub filter_agree_on : {X : Type 0} (p q : X → Bool) (xs : List X) → Each (λ x. p x ≡ q x) xs → filter p xs ≡ filter q xs
filter_agree_on p q [] h = refl
filter_agree_on p q (x ∷ xs) h = rw (h.0, filter_agree_on p q xs h.1) refl

pub filter_none : {X : Type 0} (p : X → Bool) (xs : List X) → Each (λ x. p x ≡ false) xs → filter p xs ≡ []
filter_none p [] h = refl
filter_none p (x ∷ xs) h = rw h.0 (filter_none p xs h.1)

pub filter-map : {X Y : Type 0} (p : Y → Bool) (f : X → Y) (xs : List X) → filter p (map f xs) ≡ map f (filter (λ x. p (f x)) xs)
filter-map p f [] = refl
filter-map p f (x ∷ xs) = ⊎_elim
    (λ (t : p (f x) ≡ true). rw (t, filter-map p f xs) refl)
    (λ (n : p (f x) ≡ false). rw n (filter-map p f xs))
    (cases_Bool (p (f x)))

pub filter_twice_on : {X : Type 0} (p q r : X → Bool) (xs : List X) → Each (λ x. (q x && p x) ≡ r x) xs → filter p (filter q xs) ≡ filter r xs
filter_twice_on p q r [] h = refl
filter_twice_on p q r (x ∷ xs) h =
    let ih : filter p (filter q xs) ≡ filter r xs = filter_twice_on p q r xs h.1 in
    ⊎_elim
    (λ (t : q x ≡ true).
    let same : r x ≡ p x = sym h.0 ∙ ap (λ b. b && p x) t in
    rw (t, same) (rw ih refl))
    (λ (f : q x ≡ false).
    let same : r x ≡ false = sym h.0 ∙ ap (λ b. b && p x) f in
    rw (f, same) ih)
    (cases_Bool (q x))

-- what a stamped version of the row in front makes of those behind it
from_front : (t : ℕ) (key : Value) (n : ℕ) (v w : Version) → v.standing ≡ Stamped n → is_row t key v ≡ true → (same_row v w ≡ true → Behind w.standing v.standing w.snapshot) → is_row t key w ≡ true → n ≤ w.snapshot
from_front t key n v w e y k z =
    go w.standing (and_parts _ _ z).1 (subst (λ (st : VersionState). Behind w.standing st w.snapshot) e (k (same_row_of t key v w (and_parts _ _ y).0 (and_parts _ _ z).0)))
  where
    go : (st : VersionState) → is_stamped st ≡ true → Behind st (Stamped n) w.snapshot → n ≤ w.snapshot
    go Open i b = b
    go (Closed f) i b = b
    go (Stamped m) i b = b
    go Dropped i b = absurd (false≢true i)

stamped_is : (st : VersionState) → is_stamped st ≡ true → (n : ℕ) × (st ≡ Stamped n)
stamped_is Open i = absurd (false≢true i)
stamped_is (Closed f) i = absurd (false≢true i)
stamped_is (Stamped n) i = (n, refl)
stamped_is Dropped i = absurd (false≢true i)

-- the stamped versions of a row rise in number
rises_from : (g t : ℕ) (key : Value) (low : ℕ) (vs : List Version) → Ordered vs → Each (λ (v : Version). TimedAt g v.snapshot v.standing) vs
    → Each (λ (v : Version). is_row t key v ≡ true → low ≤ v.snapshot) vs → Rises v_number low (row_versions t key vs)
rises_from g t key low [] o l h = tt
rises_from g t key low (v ∷ vs) o l h = cond_both (is_row t key v) (v ∷ row_versions t key vs) (row_versions t key vs) (λ (xs : List Version). Rises v_number low xs)
    (λ (y : is_row t key v ≡ true).
    let st : (n : ℕ) × (v.standing ≡ Stamped n) = stamped_is v.standing (and_parts (is_of t key v) (is_stamped v.standing) y).1 in
    let s : v.snapshot < st.0 = subst (λ (x : VersionState). TimedAt g v.snapshot x) st.1 l.0 in
    let m : low ≤ v.snapshot = h.0 y in
    let low_is : low < st.0 = omega arith in (
      st.0,
      ap number_of st.1,
      low_is,
      rises_from g t key st.0 vs o.1 l.1 (each_weaker (λ (w : Version). same_row v w ≡ true → Behind w.standing v.standing w.snapshot) (λ (w : Version). is_row t key w ≡ true → st.0 ≤ w.snapshot) (λ w k z. from_front t key st.0 v w st.1 y k z) vs o.0),
    ))
    (λ n. rises_from g t key low vs o.1 l.1 h.1)

pub each_all : {X : Type 0} (P : X → Type 0) → ((x : X) → P x) → (xs : List X) → Each P xs
each_all P f [] = tt
each_all P f (x ∷ xs) = (f x, each_all P f xs)

pub row_rises : (g t : ℕ) (key : Value) (vs : List Version) → Ordered vs → Each (λ (v : Version). TimedAt g v.snapshot v.standing) vs → Rises v_number 0 (row_versions t key vs)
row_rises g t key vs o l = rises_from g t key 0 vs o l (each_all (λ (v : Version). is_row t key v ≡ true → 0 ≤ v.snapshot) (λ v y. omega arith) vs)

row_test : (b : Bool) (g t : ℕ) (key : Value) (s sn : ℕ) (st : VersionState) → TimedAt g sn st → ((b && is_stamped st) && there (within 0 s) (number_of st)) ≡ (b && is_upto s st)
row_test true g t key s sn Open k = refl
row_test false g t key s sn st k = refl
row_test true g t key s sn (Closed f) k = refl
row_test true g t key s sn (Stamped n) k = let p : nat_lt 0 n ≡ true = lt-ltb 0 n (omega arith) in rw p refl
row_test true g t key s sn Dropped k = refl

-- seen by number
pub seen_by_number : (g t : ℕ) (key : Value) (s : ℕ) (vs : List Version) → Each (λ (v : Version). TimedAt g v.snapshot v.standing) vs
    → filter (λ v. there (within 0 s) (v_number v)) (row_versions t key vs) ≡ seen_versions t key s vs
seen_by_number g t key s vs l = filter_twice_on (λ v. there (within 0 s) (v_number v)) (is_row t key) (reads t key s) vs
    (each_weaker _ _ (λ (v : Version) k. row_test (is_of t key v) g t key s v.snapshot v.standing k) vs l)

abbrev pub touched : ℕ → Value → List Write → List Write
touched t key ws = filter (hits t key) ws

pub last_touched : (t : ℕ) (key : Value) (ws : List Write) (r : Option RowOf) → last_row t key r ws ≡ last_row t key r (touched t key ws)
last_touched t key [] r = refl
last_touched t key (w ∷ ws) r = ⊎_elim
    (λ (y : hits t key w ≡ true). last_touched t key ws (cond (hits t key w) w.row r)
    ∙ sym (ap (last_row t key r) (cond-true (hits t key w) (w ∷ touched t key ws) (touched t key ws) y)))
    (λ (n : hits t key w ≡ false). ap (λ x. last_row t key x ws) (cond-false (hits t key w) w.row r n) ∙ last_touched t key ws r
    ∙ sym (ap (last_row t key r) (cond-false (hits t key w) (w ∷ touched t key ws) (touched t key ws) n)))
    (cases_Bool (hits t key w))

touched_all : (t : ℕ) (key : Value) (G : Commit → List Write) (cs : List Commit) → touched t key (flat_map G cs) ≡ flat_map (λ c. touched t key (G c)) cs
touched_all t key G [] = refl
touched_all t key G (c ∷ cs) = filter-append (hits t key) (G c) (flat_map G cs) ∙ ap (λ xs. touched t key (G c) ++ xs) (touched_all t key G cs)

-- what the versions of one number wrote
abbrev raw : List Version → Option ℕ → List Write
raw vs None = []
raw vs (Some n) = writes_of (filter (is_stamped_with n) vs)

stamp_test : (b : Bool) (n : ℕ) (st : VersionState) → (stamps n st && b) ≡ (b && there (◌==◌ n) (number_of st))
stamp_test true n Open = refl
stamp_test false n Open = refl
stamp_test true n (Closed f) = refl
stamp_test false n (Closed f) = refl
stamp_test true n (Stamped m) = and_comm (n == m) true
stamp_test false n (Stamped m) = and_comm (n == m) false
stamp_test true n Dropped = refl
stamp_test false n Dropped = refl

row_stamp_test : (b : Bool) (n : ℕ) (st : VersionState) → ((b && is_stamped st) && there (◌==◌ n) (number_of st)) ≡ (b && there (◌==◌ n) (number_of st))
row_stamp_test true n Open = refl
row_stamp_test false n st = refl
row_stamp_test true n (Closed f) = refl
row_stamp_test true n (Stamped m) = refl
row_stamp_test true n Dropped = refl

touched_commit : (t : ℕ) (key : Value) (n : ℕ) (vs : List Version) → touched t key (writes_of (filter (is_stamped_with n) vs)) ≡ writes_of (filter (λ v. there (◌==◌ n) (v_number v)) (row_versions t key vs))
touched_commit t key n vs =
    filter-map (hits t key) (λ (v : Version). v.write) (filter (is_stamped_with n) vs)
    ∙ ap writes_of (filter_twice (is_of t key) (is_stamped_with n) (λ (v : Version). is_of t key v && there (◌==◌ n) (v_number v)) (λ v. stamp_test (is_of t key v) n v.standing) vs
    ∙ sym (filter_twice (λ (v : Version). there (◌==◌ n) (v_number v)) (is_row t key) (λ (v : Version). is_of t key v && there (◌==◌ n) (v_number v)) (λ v. row_stamp_test (is_of t key v) n v.standing) vs))

module _ (number : Commit → Option ℕ) where
  has_past : (low n : ℕ) (cs : List Commit) → Rises number low cs → Has number n cs → low < n
  has_past low n [] r h = absurd h
  has_past low n (c ∷ cs) r h = ⊎_elim
      (λ (e : number c ≡ Some n). let f : Some r.0 ≡ Some n = sym r.1 ∙ e in let same : r.0 ≡ n = cc in let l : low < r.0 = r.2 in omega arith)
      (λ (k : Has number n cs). let l : r.0 < n = has_past r.0 n cs r.3 k in let m : low < r.0 = r.2 in omega arith)
      h

  up_or_next : (low n s : ℕ) → low < n → (o : Option ℕ) → ((m : ℕ) → o ≡ Some m → low < m → n ≤ m) → there (within low s) o ≡ there (within (n - 1) s) o
  up_or_next low n s l None f = refl
  up_or_next low n s l (Some m) f = ⊎_elim
      (λ (lt : low < m). let le : n ≤ m = f m refl lt in grind (arith, nat_tests))
      (λ (le : m ≤ low). grind (arith, nat_tests))
      (cases_lt low m)

  none_up : (low n s : ℕ) → s < n → (o : Option ℕ) → ((m : ℕ) → o ≡ Some m → low < m → n ≤ m) → there (within low s) o ≡ false
  none_up low n s l None f = refl
  none_up low n s l (Some m) f = ⊎_elim
      (λ (lt : low < m). let le : n ≤ m = f m refl lt in grind (arith, nat_tests))
      (λ (le : m ≤ low). grind (arith, nat_tests))
      (cases_lt low m)

  -- the versions of a row, one number after another
  by_numbers : (row : List Version) (low s : ℕ) (cs : List Commit) (from : ℕ) → Rises v_number from row → Rises number low cs
      → Each (λ (v : Version). (n : ℕ) → v_number v ≡ Some n → low < n → Has number n cs) row
      → (G : Commit → List Write) → Each (λ (c : Commit). (n : ℕ) → number c ≡ Some n → G c ≡ writes_of (filter (λ v. there (◌==◌ n) (v_number v)) row)) cs
      → flat_map G (filter (λ c. there (λ m. nat_le m s) (number c)) cs) ≡ writes_of (filter (λ v. there (within low s) (v_number v)) row)
  by_numbers row low s [] from up r has G g = ap writes_of (sym (filter_none (λ v. there (within low s) (v_number v)) row (each_weaker _ _ (λ v k. none v k) row has)))
    where
      none : (v : Version) → ((n : ℕ) → v_number v ≡ Some n → low < n → ⊥) → there (within low s) (v_number v) ≡ false
      none v k = ⊎_elim
          (λ (t : there (within low s) (v_number v) ≡ true).
          let is : (n : ℕ) × (v_number v ≡ Some n) × (within low s n ≡ true) = there_is _ (v_number v) t in
          absurd (k is.0 is.1 (ltb-true _ _ (and_parts _ _ is.2).0)))
          (λ (f : there (within low s) (v_number v) ≡ false). f)
          (cases_Bool (there (within low s) (v_number v)))
  by_numbers row low s (c ∷ cs) from up r has G g =
      let n : ℕ = r.0 in
      let later : Each (λ (v : Version). (m : ℕ) → v_number v ≡ Some m → low < m → r.0 ≤ m) row =
      each_weaker _ _ (λ v k m e l. ⊎_elim
      (λ (f : number c ≡ Some m). let g : Some r.0 ≡ Some m = sym r.1 ∙ f in let same : r.0 ≡ m = cc in omega arith)
      (λ (h : Has number m cs). let p : r.0 < m = has_past r.0 m cs r.3 h in omega arith)
      (k m e l)) row has in
      let rec : Each (λ (v : Version). (m : ℕ) → v_number v ≡ Some m → r.0 < m → Has number m cs) row =
      each_weaker _ _ (λ v k m e l.
      let p : low < r.0 = r.2 in
      ⊎_elim
      (λ (f : number c ≡ Some m). let g : Some r.0 ≡ Some m = sym r.1 ∙ f in let same : r.0 ≡ m = cc in absurd (omega arith))
      (λ (h : Has number m cs). h)
      (k m e (omega arith))) row has in
      let ih : flat_map G (filter (λ c. there (λ m. nat_le m s) (number c)) cs) ≡ writes_of (filter (λ v. there (within r.0 s) (v_number v)) row) = by_numbers row r.0 s cs from up r.3 rec G g.1 in
      let pos : low < r.0 = r.2 in
      ⊎_elim
      (λ (lt : s < r.0).
      let off : nat_le r.0 s ≡ false = lt-leb r.0 s lt in
      let empty : filter (λ c. there (λ m. nat_le m s) (number c)) cs ≡ [] = none_pass number (λ m. nat_le m s) r.0 cs r.3 (λ m l. lt-leb m s (omega arith)) in
      let none : filter (λ v. there (within low s) (v_number v)) row ≡ [] =
      filter_none (λ v. there (within low s) (v_number v)) row (each_weaker _ _ (λ (v : Version) k. none_up low r.0 s lt (v_number v) k) row later) in
      rw r.1 (rw (off, empty, none) refl))
      (λ (le : r.0 ≤ s).
      let on : nat_le r.0 s ≡ true = le-leb r.0 s le in
      let shift : filter (λ v. there (within low s) (v_number v)) row ≡ filter (λ v. there (within (r.0 - 1) s) (v_number v)) row =
      filter_agree_on (λ v. there (within low s) (v_number v)) (λ v. there (within (r.0 - 1) s) (v_number v)) row (each_weaker _ _ (λ (v : Version) k. up_or_next low r.0 s pos (v_number v) k) row later) in
      let cut : filter (λ v. there (within (r.0 - 1) s) (v_number v)) row ≡ filter (λ v. there (◌==◌ r.0) (v_number v)) row ++ filter (λ v. there (within r.0 s) (v_number v)) row =
      split_at v_number (within (r.0 - 1) s) (◌==◌ r.0) (within r.0 s) r.0
      (λ m l. (grind (arith, nat_tests), grind (arith, nat_tests)))
      (λ m l. (grind (arith, nat_tests), grind (arith, nat_tests))) from row up in
      let first : G c ≡ writes_of (filter (λ v. there (◌==◌ r.0) (v_number v)) row) = g.0 r.0 r.1 in
      rw r.1 (rw on (rw (first, ih) (sym (ap writes_of (shift ∙ cut) ∙ map-append (λ (v : Version). v.write) (filter (λ v. there (◌==◌ r.0) (v_number v)) row) (filter (λ v. there (within r.0 s) (v_number v)) row))))))
      (cases_lt s r.0)

  rises_weaker : (low from : ℕ) (cs : List Commit) → low ≤ from → Rises number from cs → Rises number low cs
  rises_weaker low from [] l r = tt
  rises_weaker low from (c ∷ cs) l r = let p : from < r.0 = r.2 in let q : low < r.0 = omega arith in (r.0, r.1, q, r.3)

  -- what a commit wrote to a row, by the versions of its number
  by_commit : (t : ℕ) (key : Value) (low : ℕ) (vs : List Version) (s : ℕ) (cs : List Commit) (r : Option RowOf) → Rises number low cs
      → Each (λ (c : Commit). (n : ℕ) → number c ≡ Some n → c.writes ≡ net (writes_of (filter (is_stamped_with n) vs))) cs
      → last_row t key r (flat_map (λ c. c.writes) (filter (λ c. there (λ m. nat_le m s) (number c)) cs)) ≡ last_row t key r (flat_map (λ c. raw vs (number c)) (filter (λ c. there (λ m. nat_le m s) (number c)) cs))
  by_commit t key low vs s [] r up h = refl
  by_commit t key low vs s (c ∷ cs) r up h =
      let rest : List Commit = filter (λ c. there (λ m. nat_le m s) (number c)) cs in
      cond_both (there (λ m. nat_le m s) (number c)) (c ∷ rest) rest
      (λ (xs : List Commit). last_row t key r (flat_map (λ c. c.writes) xs) ≡ last_row t key r (flat_map (λ c. raw vs (number c)) xs))
      (λ e.
      let first : last_row t key r c.writes ≡ last_row t key r (raw vs (number c)) =
      ap (last_row t key r) (h.0 up.0 up.1) ∙ net_row t key r (writes_of (filter (is_stamped_with up.0) vs)) ∙ ap (λ o. last_row t key r (raw vs o)) (sym up.1) in
      fold-append (λ r w. cond (hits t key w) w.row r) r c.writes (flat_map (λ c. c.writes) rest)
      ∙ ap (λ x. last_row t key x (flat_map (λ c. c.writes) rest)) first
      ∙ by_commit t key up.0 vs s cs (last_row t key r (raw vs (number c))) up.3 h.1
      ∙ sym (fold-append (λ r w. cond (hits t key w) w.row r) r (raw vs (number c)) (flat_map (λ c. raw vs (number c)) rest)))
      (λ e. by_commit t key up.0 vs s cs r up.3 h.1)

  -- the state after the engine's commits up to s has in each row the last version seen at s
  pub engine_row : (db : Tables) (g low s t : ℕ) (key : Value) (vs : List Version) (cs : List Commit) → Ordered vs → Each (λ (v : Version). TimedAt g v.snapshot v.standing) vs
      → CommitsOf number low vs cs → t < length db
      → row_of (state db (filter (λ c. there (λ m. nat_le m s) (number c)) cs)) t key ≡ last_row t key (row_of db t key) (writes_of (seen_versions t key s vs))
  engine_row db g low s t key vs cs o l c small =
      let upto_s : List Commit = filter (λ c. there (λ m. nat_le m s) (number c)) cs in
      let has : Each (λ (v : Version). (n : ℕ) → v_number v ≡ Some n → 0 < n → Has number n cs) (row_versions t key vs) =
      each_filter (λ (v : Version). (n : ℕ) → v_number v ≡ Some n → Has number n cs) (λ (v : Version). (n : ℕ) → v_number v ≡ Some n → 0 < n → Has number n cs) (is_row t key) (λ v e k n q p. k n q) vs c.all in
      let of : Each (λ (c : Commit). (n : ℕ) → number c ≡ Some n → touched t key (raw vs (number c)) ≡ writes_of (filter (λ v. there (◌==◌ n) (v_number v)) (row_versions t key vs))) cs =
      each_all (λ (c : Commit). (n : ℕ) → number c ≡ Some n → touched t key (raw vs (number c)) ≡ writes_of (filter (λ v. there (◌==◌ n) (v_number v)) (row_versions t key vs)))
      (λ c n e. ap (λ o. touched t key (raw vs o)) e ∙ touched_commit t key n vs) cs in
      ap (λ d. row_of d t key) (state_is db upto_s) ∙ row_after_writes db (flat_map (λ c. c.writes) upto_s) t key small
      ∙ by_commit t key low vs s cs (row_of db t key) c.rises c.writes
      ∙ last_touched t key (flat_map (λ c. raw vs (number c)) upto_s) (row_of db t key)
      ∙ ap (last_row t key (row_of db t key)) (touched_all t key (λ c. raw vs (number c)) upto_s
      ∙ by_numbers (row_versions t key vs) 0 s cs 0 (row_rises g t key vs o l) (rises_weaker 0 low cs (omega arith) c.rises) has (λ c. touched t key (raw vs (number c))) of
      ∙ ap writes_of (seen_by_number g t key s vs l))
