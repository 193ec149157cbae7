-- What an engine answers of numbers that are all used stays, whatever comes behind.
use Rattle.std.specs.Prelude.{◌≡◌, ℕ, zero, suc, ◌+◌, ◌<◌, ◌≤◌, List, [], ◌∷◌, Bool, true, false, cond, not, ◌&&◌, nat_lt, map}
use Rattle.std.proofs.Common.{refl, sym, ap, subst, ◌∙◌, ⊎_elim, arith}
use Rattle.std.specs.List.{filter}
use Rattle.std.specs.declared.cmp.Ordering.{Ordering}
use Rattle.std.specs.declared.cmp.Ordering.TheVariants.{Less, Equal, Greater}
use Rattle.std.specs.Ordering.{nat_cmp, is_eq}
use Rattle.std.specs.Cmp.{unsigned_tied}
use Rattle.std.specs.FinMap.{put}
use Rattle.std.specs.FinMap.Entries.{by_order}
use Rattle.std.proofs.lemmas.Bool.{cases_lt, cond-false, false≢true, and_parts, eqb-true}
use Rattle.sk_model.specs.declared.label.Label.{Label}
use Rattle.sk_model.specs.declared.engine.EngineName.{EngineName}
use Rattle.sk_model.specs.declared.commit.Commit.{Commit}
use Rattle.sk_model.specs.declared.call.EngineCall.{EngineCall}
use Rattle.sk_model.specs.declared.call.EngineCall.TheVariants as call
use Rattle.sk_model.specs.declared.call.Entry.{Entry}
use Rattle.sk_model.specs.Database.{net}
use Rattle.sk_model.specs.Numbers.{within}
use Rattle.sk_model.specs.Engine.{Version, EngineTable, opening_of}
use Rattle.sk_model.specs.EngineReplies.{is_used, climb, top_number, horizon_of, mem_number, store_number, is_stamped_with, commit_of, commits_between}
use Rattle.sk_model.specs.EngineChanges.{change}
use Rattle.sk_model.specs.EngineConditions.{may, may_end, is_closed, floor_of}
use Rattle.sk_model.specs.Legal.{step, after_entries, Allowed}
use Rattle.sk_model.proofs.Lists.{Each, each_weaker}
use Rattle.sk_model.proofs.Quiet.{step_keeps}
use Rattle.sk_model.proofs.Reading.{name_stays}
use Rattle.sk_linked.proofs.Others.{NotUse, used_change}
use Rattle.sk_linked.proofs.Stamps.{NotStamp, stamped_stays}
use Rattle.sk_linked.proofs.Grounds.{filter_pass}

-- ---- each number up to the horizon is used

climb_used : (k : ℕ) (used : ℕ → Bool) (n m : ℕ) → n < m → m ≤ climb k used n → used m ≡ true
climb_used zero used n m l g = absurd (never l g)
  where
    never : n < m → m ≤ n → ⊥
    never l g = omega arith
climb_used (suc k) used n m l g = at (used (n + 1)) refl g (λ far h. climb_used k used (n + 1) m far h)
  where
    never : n < m → m ≤ n → ⊥
    never l g = omega arith

    at : (b : Bool) → used (n + 1) ≡ b → m ≤ cond b (climb k used (n + 1)) n → (n + 1 < m → m ≤ climb k used (n + 1) → used m ≡ true) → used m ≡ true
    at true e h more = ⊎_elim
        (λ (far : n + 1 < m). more far h)
        (λ (near : m ≤ n + 1). let same : n + 1 ≡ m = omega arith in subst (λ i. used i ≡ true) same e)
        (cases_lt (n + 1) m)
    at false e h more = absurd (never l h)

pub horizon_used : (e : EngineTable) (m : ℕ) → e.start < m → m ≤ horizon_of e → is_used e m ≡ true
horizon_used e m l g = climb_used (top_number e) (is_used e) e.start m l g

-- ---- what a table began with, and up to where it is purged

start_change : (e : EngineTable) (c : EngineCall) → (change e c).start ≡ e.start
start_change e (call.Open tx s) = refl
start_change e (call.Get tx t key) = refl
start_change e (call.Scan tx t) = refl
start_change e (call.Put tx t key row) = refl
start_change e (call.Close tx) = refl
start_change e (call.Stamp tx m) = refl
start_change e (call.Void tx m) = refl
start_change e (call.DropTx tx) = refl
start_change e call.Horizon = refl
start_change e (call.Records from to) = refl
start_change e (call.Purge upto) = refl

pub start_stays : (e : EngineTable) (js : List Entry) → (after_entries e js).start ≡ e.start
start_stays e [] = refl
start_stays e (j ∷ js) = start_stays (step e j) js ∙ step_keeps (λ (f : EngineTable). f.start ≡ e.start) e j refl (λ m r. start_change e j.call)

purged_change : (e : EngineTable) (c : EngineCall) → e.purged ≤ (change e c).purged
purged_change e (call.Open tx s) = omega arith
purged_change e (call.Get tx t key) = omega arith
purged_change e (call.Scan tx t) = omega arith
purged_change e (call.Put tx t key row) = omega arith
purged_change e (call.Close tx) = omega arith
purged_change e (call.Stamp tx m) = omega arith
purged_change e (call.Void tx m) = omega arith
purged_change e (call.DropTx tx) = omega arith
purged_change e call.Horizon = omega arith
purged_change e (call.Records from to) = omega arith
purged_change e (call.Purge upto) = omega arith

pub purged_stays : (e : EngineTable) (js : List Entry) → e.purged ≤ (after_entries e js).purged
purged_stays e [] = omega arith
purged_stays e (j ∷ js) =
    let one : e.purged ≤ (step e j).purged = step_keeps (λ (f : EngineTable). e.purged ≤ f.purged) e j (omega arith) (λ m r. purged_change e j.call) in
    let more : (step e j).purged ≤ (after_entries (step e j) js).purged = purged_stays (step e j) js in
    omega arith

-- ---- a used number is not used again

unlike : (e : EngineTable) (tx : Label) (n m : ℕ) → may_end e tx m ≡ true → is_used e n ≡ true → n ≡ m → ⊥
unlike e tx n m h u q =
    let parts : (nat_lt (floor_of (opening_of e tx)) m && not (is_used e m)) ≡ true = (and_parts (is_closed (opening_of e tx)) (nat_lt (floor_of (opening_of e tx)) m && not (is_used e m)) h).1 in
    let unused : not (is_used e m) ≡ true = (and_parts (nat_lt (floor_of (opening_of e tx)) m) (not (is_used e m)) parts).1 in
    false≢true (sym (ap not (subst (λ i. is_used e i ≡ true) q u)) ∙ unused)

pub not_again : (n : ℕ) (e : EngineTable) (c : EngineCall) → may e c ≡ true → is_used e n ≡ true → NotUse n c
not_again n e (call.Open tx s) h u = tt
not_again n e (call.Get tx t key) h u = tt
not_again n e (call.Scan tx t) h u = tt
not_again n e (call.Put tx t key row) h u = tt
not_again n e (call.Close tx) h u = tt
not_again n e (call.Stamp tx m) h u = unlike e tx n m h u
not_again n e (call.Void tx m) h u = unlike e tx n m h u
not_again n e (call.DropTx tx) h u = tt
not_again n e call.Horizon h u = tt
not_again n e (call.Records from to) h u = tt
not_again n e (call.Purge upto) h u = tt

used_step : (n : ℕ) (e : EngineTable) (j : Entry) → is_used e n ≡ true → is_used (step e j) n ≡ true
used_step n e j u = step_keeps (λ (f : EngineTable). is_used f n ≡ true) e j u (λ m r. used_change n e j.call (not_again n e j.call m u) ∙ u)

never_again : (n : ℕ) (e : EngineTable) (js : List Entry) → Allowed e js → is_used e n ≡ true → Each (λ (j : Entry). NotUse n j.call) js
never_again n e [] a u = tt
never_again n e (j ∷ js) a u = (not_again n e j.call a.0 u, never_again n (step e j) js a.1 (used_step n e j u))

no_stamp : (n : ℕ) (c : EngineCall) → NotUse n c → NotStamp n c
no_stamp n (call.Open tx s) h = tt
no_stamp n (call.Get tx t key) h = tt
no_stamp n (call.Scan tx t) h = tt
no_stamp n (call.Put tx t key row) h = tt
no_stamp n (call.Close tx) h = tt
no_stamp n (call.Stamp tx m) h = h
no_stamp n (call.Void tx m) h = tt
no_stamp n (call.DropTx tx) h = tt
no_stamp n call.Horizon h = tt
no_stamp n (call.Records from to) h = tt
no_stamp n (call.Purge upto) h = tt

-- ---- the stamped numbers among those that are used

abbrev inside : (ℕ → Bool) → List (ℕ × Label) → List (ℕ × Label)
inside test ps = filter (λ (p : ℕ × Label). test p.0) ps

put_outside : (test : ℕ → Bool) (n : ℕ) (tx : Label) (ps : List (ℕ × Label)) → test n ≡ false → inside test (put nat_cmp n tx ps) ≡ inside test ps
put_outside test n tx [] f = cond-false (test n) ((n, tx) ∷ []) [] f
put_outside test n tx (p ∷ ps) f = at (nat_cmp n p.0) refl (put_outside test n tx ps f)
  where
    at : (o : Ordering) → nat_cmp n p.0 ≡ o → inside test (put nat_cmp n tx ps) ≡ inside test ps → inside test (by_order o ((n, tx) ∷ p ∷ ps) ((p.0, tx) ∷ ps) (p ∷ put nat_cmp n tx ps)) ≡ inside test (p ∷ ps)
    at Less e rest = cond-false (test n) ((n, tx) ∷ inside test (p ∷ ps)) (inside test (p ∷ ps)) f
    at Equal e rest =
        let same : n ≡ p.0 = eqb-true n p.0 (sym (unsigned_tied n p.0) ∙ ap is_eq e) in
        let off : test p.0 ≡ false = ap test (sym same) ∙ f in
        cond-false (test p.0) ((p.0, tx) ∷ inside test ps) (inside test ps) off ∙ sym (cond-false (test p.0) (p ∷ inside test ps) (inside test ps) off)
    at Greater e rest = ap (λ qs. cond (test p.0) (p ∷ qs) qs) rest

module _ (test : ℕ → Bool) where
  abbrev Inside : EngineTable → Type 0
  Inside e = (m : ℕ) → test m ≡ true → is_used e m ≡ true

  abbrev stamped_in : EngineTable → List (ℕ × Label)
  stamped_in e = inside test e.stamped

  stamped_change : (e : EngineTable) (c : EngineCall) → may e c ≡ true → Inside e → stamped_in (change e c) ≡ stamped_in e
  stamped_change e (call.Open tx s) m h = refl
  stamped_change e (call.Get tx t key) m h = refl
  stamped_change e (call.Scan tx t) m h = refl
  stamped_change e (call.Put tx t key row) m h = refl
  stamped_change e (call.Close tx) m h = refl
  stamped_change e (call.Stamp tx n) m h = put_outside test n tx e.stamped (off (test n) refl)
    where
      off : (b : Bool) → test n ≡ b → test n ≡ false
      off true t = absurd (unlike e tx n n m (h n t) refl)
      off false f = f
  stamped_change e (call.Void tx n) m h = refl
  stamped_change e (call.DropTx tx) m h = refl
  stamped_change e call.Horizon m h = refl
  stamped_change e (call.Records from to) m h = refl
  stamped_change e (call.Purge upto) m h = refl

  within_stays : (e : EngineTable) (js : List Entry) → Inside e → stamped_in (after_entries e js) ≡ stamped_in e
  within_stays e [] h = refl
  within_stays e (j ∷ js) h = within_stays (step e j) js (λ m t. used_step m e j (h m t))
      ∙ step_keeps (λ (f : EngineTable). stamped_in f ≡ stamped_in e) e j refl (λ m r. stamped_change e j.call m h)

-- ---- and the commits of a range

abbrev made : EngineName → List Version → ℕ × Label → Commit
made name vs p = record { label = p.1; mem = mem_number name p.0; store = store_number name p.0; writes = net (map (λ (v : Version). v.write) vs) }

commit_stays : (e : EngineTable) (js : List Entry) (p : ℕ × Label) → Allowed e js → is_used e p.0 ≡ true → commit_of (after_entries e js) p ≡ commit_of e p
commit_stays e js p a u =
    ap (λ name. made name (filter (is_stamped_with p.0) (after_entries e js).versions) p) (name_stays e js)
    ∙ ap (λ vs. made e.name vs p) (stamped_stays p.0 e js (each_weaker (λ (j : Entry). NotUse p.0 j.call) (λ (j : Entry). NotStamp p.0 j.call) (λ j h. no_stamp p.0 j.call h) js (never_again p.0 e js a u)))

pub map_same : {X Y : Type 0} (f g : X → Y) (xs : List X) → Each (λ x. f x ≡ g x) xs → map f xs ≡ map g xs
map_same f g [] h = refl
map_same f g (x ∷ xs) h = ap (λ y. y ∷ map f xs) h.0 ∙ ap (λ ys. g x ∷ ys) (map_same f g xs h.1)

-- where each number of the range is used, what is told of it stays
pub commits_stay : (e : EngineTable) (js : List Entry) (from to : ℕ) → Allowed e js → ((m : ℕ) → within from to m ≡ true → is_used e m ≡ true) → commits_between (after_entries e js) from to ≡ commits_between e from to
commits_stay e js from to a h =
    ap (map (commit_of (after_entries e js))) (within_stays (within from to) e js h)
    ∙ map_same (commit_of (after_entries e js)) (commit_of e) (filter (λ (p : ℕ × Label). within from to p.0) e.stamped)
    (each_weaker (λ (p : ℕ × Label). within from to p.0 ≡ true) (λ (p : ℕ × Label). commit_of (after_entries e js) p ≡ commit_of e p) (λ p t. commit_stays e js p a (h p.0 t))
    (filter (λ (p : ℕ × Label). within from to p.0) e.stamped) (filter_pass (λ (p : ℕ × Label). within from to p.0) e.stamped))
