-- The stamped numbers behind a journal are those of its stamps.
use Rattle.std.specs.Prelude.{ℕ, List, [], ◌∷◌, Option, Some, true, false, not, ◌&&◌, ◌||◌, ◌==◌, ◌≡◌, is_some, map}
use Rattle.std.proofs.Common.{refl, sym, ap, subst, ◌∙◌, inl, inr, ⊎_elim}
use Rattle.std.specs.List.{list_any}
use Rattle.std.specs.declared.cmp.Ordering.{Ordering}
use Rattle.std.specs.declared.cmp.Ordering.TheVariants.{Less, Equal, Greater}
use Rattle.std.specs.Ordering.{nat_cmp, is_eq, eq_by_cmp}
use Rattle.std.specs.Cmp.{nat_cmp_total, unsigned_tied}
use Rattle.std.specs.FinMap.{find, put}
use Rattle.std.specs.FinMap.Entries.{find-put, by_order}
use Rattle.std.proofs.lemmas.Bool.{cases_Bool, cond-true, cond-false, eq-eqb, eqb-true, ne_eqb, and_from}
use Rattle.sk_model.specs.declared.label.Label.{Label}
use Rattle.sk_model.specs.declared.call.EngineCall.{EngineCall}
use Rattle.sk_model.specs.declared.call.EngineCall.TheVariants as call
use Rattle.sk_model.specs.declared.call.Entry.{Entry}
use Rattle.sk_model.specs.Engine.{EngineTable}
use Rattle.sk_model.specs.EngineChanges.{change}
use Rattle.sk_model.specs.EngineConditions.{may}
use Rattle.sk_model.specs.Legal.{is_refusal, step, after_entries, Allowed}
use Rattle.sk_model.proofs.Lists.{Each}
use Rattle.sk_model.proofs.Quiet.{step_keeps}
use Rattle.sk_model.proofs.Listed.{some_is, none_some}
use Rattle.sk_linked.specs.Traces.{In, stamp_entry}
use Rattle.sk_recorded.proofs.Staying.{not_again}

-- ---- a stamped number keeps its transaction

found_change : (n : ℕ) (l : Label) (e : EngineTable) (c : EngineCall) → may e c ≡ true → find nat_cmp n e.stamped ≡ Some l → find nat_cmp n (change e c).stamped ≡ Some l
found_change n l e (call.Open tx s) m h = h
found_change n l e (call.Get tx t key) m h = h
found_change n l e (call.Scan tx t) m h = h
found_change n l e (call.Put tx t key row) m h = h
found_change n l e (call.Close tx) m h = h
found_change n l e (call.Stamp tx k) m h =
    let other : n ≡ k → ⊥ = not_again n e (call.Stamp tx k) m (ap (λ (o : Option Label). is_some o || list_any (◌==◌ n) e.voided) h) in
    find-put nat_cmp nat_cmp_total n k tx e.stamped ∙ cond-false (eq_by_cmp nat_cmp n k) (Some tx) (find nat_cmp n e.stamped) (unsigned_tied n k ∙ ne_eqb n k other) ∙ h
found_change n l e (call.Void tx k) m h = h
found_change n l e (call.DropTx tx) m h = h
found_change n l e call.Horizon m h = h
found_change n l e (call.Records from to) m h = h
found_change n l e (call.Purge upto) m h = h

found_stays : (n : ℕ) (l : Label) (e : EngineTable) (js : List Entry) → find nat_cmp n e.stamped ≡ Some l → find nat_cmp n (after_entries e js).stamped ≡ Some l
found_stays n l e [] h = h
found_stays n l e (j ∷ js) h = found_stays n l (step e j) js (step_keeps (λ (f : EngineTable). find nat_cmp n f.stamped ≡ Some l) e j h (λ m r. found_change n l e j.call m h))

step_is : (e : EngineTable) (j : Entry) → may e j.call ≡ true → is_refusal j.reply ≡ false → step e j ≡ change e j.call
step_is e j m r = cond-true (may e j.call && not (is_refusal j.reply)) (change e j.call) e (and_from _ _ m (ap not r))

-- each stamp of the journal is among the stamped numbers
pub stamped_found : (n : ℕ) (l : Label) (e : EngineTable) (js : List Entry) → Allowed e js → In (stamp_entry l n) js → find nat_cmp n (after_entries e js).stamped ≡ Some l
stamped_found n l e [] a i = absurd i
stamped_found n l e (j ∷ js) a i = ⊎_elim
    (λ (q : stamp_entry l n ≡ j). found_stays n l (step e j) js (subst (λ (x : Entry). may e x.call ≡ true → find nat_cmp n (step e x).stamped ≡ Some l) q here a.0))
    (λ (k : In (stamp_entry l n) js). stamped_found n l (step e j) js a.1 k)
    i
  where
    here : may e (call.Stamp l n) ≡ true → find nat_cmp n (step e (stamp_entry l n)).stamped ≡ Some l
    here m = ap (λ (f : EngineTable). find nat_cmp n f.stamped) (step_is e (stamp_entry l n) m refl) ∙ find-put nat_cmp nat_cmp_total n n l e.stamped ∙ cond-true (eq_by_cmp nat_cmp n n) (Some l) (find nat_cmp n e.stamped) (unsigned_tied n n ∙ eq-eqb n n refl)

-- ---- each stamped number is of a stamp

abbrev pub StampIs : (ℕ × Label → Type 0) → EngineCall → Type 0
StampIs P (call.Open tx s) = Unit {0}
StampIs P (call.Get tx t key) = Unit {0}
StampIs P (call.Scan tx t) = Unit {0}
StampIs P (call.Put tx t key row) = Unit {0}
StampIs P (call.Close tx) = Unit {0}
StampIs P (call.Stamp tx n) = P (n, tx)
StampIs P (call.Void tx n) = Unit {0}
StampIs P (call.DropTx tx) = Unit {0}
StampIs P call.Horizon = Unit {0}
StampIs P (call.Records from to) = Unit {0}
StampIs P (call.Purge upto) = Unit {0}

module _ (P : ℕ × Label → Type 0) where
  put_each : (n : ℕ) (tx : Label) (ps : List (ℕ × Label)) → P (n, tx) → Each P ps → Each P (put nat_cmp n tx ps)
  put_each n tx [] new h = (new, tt)
  put_each n tx (p ∷ ps) new h = go (nat_cmp n p.0) refl (put_each n tx ps new h.1)
    where
      go : (o : Ordering) → nat_cmp n p.0 ≡ o → Each P (put nat_cmp n tx ps) → Each P (by_order o ((n, tx) ∷ p ∷ ps) ((p.0, tx) ∷ ps) (p ∷ put nat_cmp n tx ps))
      go Less e r = (new, h)
      go Equal e r = (subst (λ (m : ℕ). P (m, tx)) (eqb-true n p.0 (sym (unsigned_tied n p.0) ∙ ap is_eq e)) new, h.1)
      go Greater e r = (h.0, r)

  stamped_change : (e : EngineTable) (c : EngineCall) → StampIs P c → Each P e.stamped → Each P (change e c).stamped
  stamped_change e (call.Open tx s) k h = h
  stamped_change e (call.Get tx t key) k h = h
  stamped_change e (call.Scan tx t) k h = h
  stamped_change e (call.Put tx t key row) k h = h
  stamped_change e (call.Close tx) k h = h
  stamped_change e (call.Stamp tx n) k h = put_each n tx e.stamped k h
  stamped_change e (call.Void tx n) k h = h
  stamped_change e (call.DropTx tx) k h = h
  stamped_change e call.Horizon k h = h
  stamped_change e (call.Records from to) k h = h
  stamped_change e (call.Purge upto) k h = h

  pub stamped_each : (e : EngineTable) (js : List Entry) → Each (λ (j : Entry). StampIs P j.call) js → Each P e.stamped → Each P (after_entries e js).stamped
  stamped_each e [] k h = h
  stamped_each e (j ∷ js) k h = stamped_each (step e j) js k.1 (step_keeps (λ (f : EngineTable). Each P f.stamped) e j h (λ m r. stamped_change e j.call k.0 h))

-- ---- members

pair_is : (m n : ℕ) (k l : Label) → m ≡ n → k ≡ l → ◌≡◌ {A = ℕ × Label} (m, k) (n, l)
pair_is m n k l p q = cc

pub find_in : (n : ℕ) (l : Label) (ps : List (ℕ × Label)) → find nat_cmp n ps ≡ Some l → In (n, l) ps
find_in n l [] e = none_some e
find_in n l (p ∷ ps) e = ⊎_elim
    (λ (t : eq_by_cmp nat_cmp n p.0 ≡ true). inl (pair_is n p.0 l p.1 (eqb-true n p.0 (sym (unsigned_tied n p.0) ∙ t)) (some_is (sym e ∙ cond-true (eq_by_cmp nat_cmp n p.0) (Some p.1) (find nat_cmp n ps) t))))
    (λ (f : eq_by_cmp nat_cmp n p.0 ≡ false). inr (find_in n l ps (sym (cond-false (eq_by_cmp nat_cmp n p.0) (Some p.1) (find nat_cmp n ps) f) ∙ e)))
    (cases_Bool (eq_by_cmp nat_cmp n p.0))

pub in_map : {X Y : Type 0} (f : X → Y) (xs : List X) (x : X) → In x xs → In (f x) (map f xs)
in_map f [] x i = absurd i
in_map {X = X} {Y = Y} f (y ∷ ys) x i = ⊎_elim (λ (e : x ≡ y). inl (ap f e)) (λ (k : In x ys). inr (in_map f ys x k)) i
