-- How many openings a table has behind an entry, and their order.
use Rattle.std.specs.Prelude.{◌≡◌, ℕ, ◌+◌, ◌≤◌, Option, Some, None, Bool, true, false, cond, not, ◌&&◌, T, length, is_some, nat_lt}
use Rattle.std.proofs.Common.{refl, sym, ap, subst, ◌∙◌, arith}
use Rattle.std.specs.FinMap.{find, is_sorted}
use Rattle.std.specs.FinMap.Entries.{where_key, is_sorted-put, is_sorted-where_key, length-put, length_without}
use Rattle.std.proofs.lemmas.Bool.{cond_both, and_parts, false≢true}
use Rattle.sk_model.specs.declared.label.Label.{Label}
use Rattle.sk_model.specs.declared.call.EngineCall.{EngineCall}
use Rattle.sk_model.specs.declared.call.EngineCall.TheVariants as call
use Rattle.sk_model.specs.declared.call.Entry.{Entry}
use Rattle.sk_model.specs.Records.{same_label}
use Rattle.sk_model.specs.Engine.{EngineTable, Opening, Openings, label_cmp, opening_in, opening_of}
use Rattle.sk_model.specs.EngineReplies.{is_used}
use Rattle.sk_model.specs.EngineChanges.{change, closed_at, closed_in, opening_at, without_opening}
use Rattle.sk_model.specs.EngineConditions.{may, is_closed, floor_of}
use Rattle.sk_model.specs.Legal.{step, is_refusal}
use Rattle.sk_model.proofs.Labels.{label_cmp_total, label_tied}
use Rattle.sk_model.proofs.Quiet.{step_keeps}

abbrev pub InOrder : Openings → Type 0
InOrder os = T (is_sorted label_cmp os)

closed_order : (tx : Label) (f : ℕ) (o : Option Opening) (os : Openings) → InOrder os → InOrder (closed_in tx f o os)
closed_order tx f None os h = h
closed_order tx f (Some o) os h = is_sorted-put label_cmp label_cmp_total tx (closed_at f o) os h

without_order : (tx : Label) (os : Openings) → InOrder os → InOrder (without_opening tx os)
without_order tx os h = is_sorted-where_key label_cmp (λ l. not (same_label tx l)) os h

order_change : (e : EngineTable) (c : EngineCall) → InOrder e.openings → InOrder (change e c).openings
order_change e (call.Open tx s) h = is_sorted-put label_cmp label_cmp_total tx (opening_at s) e.openings h
order_change e (call.Get tx t key) h = h
order_change e (call.Scan tx t) h = h
order_change e (call.Put tx t key row) h = h
order_change e (call.Close tx) h = closed_order tx e.greatest (opening_of e tx) e.openings h
order_change e (call.Stamp tx n) h = without_order tx e.openings h
order_change e (call.Void tx n) h = without_order tx e.openings h
order_change e (call.DropTx tx) h = without_order tx e.openings h
order_change e call.Horizon h = h
order_change e (call.Records from to) h = h
order_change e (call.Purge upto) h = h

-- openings stay in the order of their labels
pub order_step : (e : EngineTable) (j : Entry) → InOrder e.openings → InOrder (step e j).openings
order_step e j h = step_keeps (λ (x : EngineTable). InOrder x.openings) e j h (λ m r. order_change e j.call h)

-- one opening more at most
pub more_opened : (e : EngineTable) (tx : Label) (s : ℕ) → InOrder e.openings → length (change e (call.Open tx s)).openings ≤ length e.openings + 1
more_opened e tx s h = subst (λ n. n ≤ length e.openings + 1) (sym (length-put label_cmp label_cmp_total tx (opening_at s) e.openings h))
    (cond_both (is_some (find label_cmp tx e.openings)) (length e.openings) (length e.openings + 1) (λ n. n ≤ length e.openings + 1) (λ t. omega arith) (λ f. omega arith))

closed_length : (tx : Label) (f : ℕ) (o : Option Opening) (os : Openings) → opening_in tx os ≡ o → InOrder os → length (closed_in tx f o os) ≡ length os
closed_length tx f None os e h = refl
closed_length tx f (Some o) os e h = length-put label_cmp label_cmp_total tx (closed_at f o) os h ∙ ap (λ p. cond (is_some p) (length os) (length os + 1)) e

-- a close keeps their number
pub as_many_closed : (e : EngineTable) (tx : Label) → InOrder e.openings → length (change e (call.Close tx)).openings ≡ length e.openings
as_many_closed e tx h = closed_length tx e.greatest (opening_of e tx) e.openings refl h

one_less : (b : Bool) (n m : ℕ) → b ≡ true → cond b 1 0 + n ≡ m → n + 1 ≡ m
one_less true n m t h = omega arith
one_less false n m t h = absurd (false≢true t)

-- and the end of one takes it away
pub one_ended : (tx : Label) (os : Openings) → is_some (opening_in tx os) ≡ true → InOrder os → length (without_opening tx os) + 1 ≡ length os
one_ended tx os o h =
    one_less (is_some (find label_cmp tx os)) (length (without_opening tx os)) (length os) o
    (ap (λ p. cond (is_some (find label_cmp tx os)) 1 0 + length (where_key label_cmp p os)) (sym (λ i l. not (label_tied tx l i))) ∙ length_without label_cmp label_cmp_total tx os h)

is_there : (o : Option Opening) → is_closed o ≡ true → is_some o ≡ true
is_there None e = e
is_there (Some o) e = refl

-- who may end has an opening
pub there_to_end : (e : EngineTable) (tx : Label) (n : ℕ) → may e (call.Stamp tx n) ≡ true → is_some (opening_of e tx) ≡ true
there_to_end e tx n m = is_there (opening_of e tx) (and_parts (is_closed (opening_of e tx)) (nat_lt (floor_of (opening_of e tx)) n && not (is_used e n)) m).0

-- an entry that was refused changes nothing
pub refused_stays : (e : EngineTable) (j : Entry) → is_refusal j.reply ≡ true → step e j ≡ e
refused_stays e j r = ap (λ b. cond (may e j.call && not b) (change e j.call) e) r ∙ cond_both (may e j.call && false) (change e j.call) e (λ x. x ≡ e) (λ t. absurd (no (may e j.call) t)) (λ f. refl)
  where
    no : (b : Bool) → (b && false) ≡ true → ⊥
    no true t = cc
    no false t = cc
