-- The entries of a journal whose Horizons are kept in runs.
use Rattle.std.specs.Prelude.{◌≡◌, ℕ, zero, suc, ◌+◌, ◌<◌, List, [], ◌∷◌, ◌++◌, Option, Some, None, true, false, cond, not, ◌==◌, ◌||◌, ◌&&◌, length, nat_lt, replicate}
use Rattle.std.proofs.Common.{refl, sym, ap, subst, ◌∙◌}
use Rattle.std.specs.List.{flat_map}
use Rattle.std.proofs.lemmas.Bool.{lt-ltb, ne_eqb, eqb-true, and_parts}
use Rattle.std.proofs.lemmas.List.{append_assoc, replicate_more}
use Rattle.sk_model.specs.declared.call.Entry.{Entry}
use Rattle.sk_model.specs.declared.journal.HorizonRun.{HorizonRun}
use Rattle.sk_model.specs.declared.journal.JournalPart.{JournalPart}
use Rattle.sk_model.specs.EngineReplies.{last_in}
use Rattle.sk_model.specs.Journal.{is_horizon, horizon_entry, run_entries, part_entries, entries_in, answers, goes_behind, takes_horizon, with_horizon, most_entries}
use Rattle.sk_model.proofs.Lists.{Each}

abbrev pub NotHorizon : JournalPart → Type 0
NotHorizon p = is_horizon p.entry.call ≡ false

pub last_append : (best : Option Entry) (xs ys : List Entry) → last_in best (xs ++ ys) ≡ last_in (last_in best xs) ys
last_append best [] ys = refl
last_append best (x ∷ xs) ys = last_append (Some x) xs ys

-- behind parts any Horizon may stand
last_parts : (n : ℕ) (parts : List JournalPart) → Each NotHorizon parts → (best : Option Entry) → goes_behind n best ≡ true → goes_behind n (last_in best (flat_map part_entries parts)) ≡ true
last_parts n [] h best k = k
last_parts n (p ∷ ps) h best k =
    ap (goes_behind n) (last_append best (part_entries p) (flat_map part_entries ps) ∙ ap (λ o. last_in o (flat_map part_entries ps)) (last_append best (run_entries p.horizons) (p.entry ∷ [])))
    ∙ last_parts n ps h.1 (Some p.entry) (ap (λ b. not b || answers n p.entry.reply) h.0)

last_same : (c : ℕ) (j : Entry) → last_in (Some j) (replicate c j) ≡ Some j
last_same zero j = refl
last_same (suc c) j = last_same c j

not_zero : (c : ℕ) → (suc c == 0) ≡ false
not_zero c = ne_eqb (suc c) 0 (λ e. cc)

-- behind a run one with the same answer may
last_run : (n a c : ℕ) (best : Option Entry) → goes_behind n best ≡ true → goes_behind n (last_in best (replicate c (horizon_entry a))) ≡ ((c == 0) || (a == n))
last_run n a zero best k = k
last_run n a (suc c) best k = ap (goes_behind n) (last_same c (horizon_entry a)) ∙ sym (ap (λ b. b || (a == n)) (not_zero c))

pub takes_run : (parts : List JournalPart) (last : HorizonRun) (n : ℕ) → Each NotHorizon parts → goes_behind n (last_in None (entries_in parts last)) ≡ ((last.count == 0) || (last.answer == n))
takes_run parts last n h = ap (goes_behind n) (last_append None (flat_map part_entries parts) (run_entries last))
    ∙ last_run n last.answer last.count (last_in None (flat_map part_entries parts)) (last_parts n parts h None refl)

-- one more in the run is one more entry
pub run_grows : (parts : List JournalPart) (a c : ℕ) → entries_in parts (record { answer = a; count = c + 1 }) ≡ entries_in parts (record { answer = a; count = c }) ++ horizon_entry a ∷ []
run_grows parts a c = ap (λ xs. flat_map part_entries parts ++ xs) (sym (replicate_more c (horizon_entry a))) ∙ sym (append_assoc (flat_map part_entries parts) (replicate c (horizon_entry a)) (horizon_entry a ∷ []))

-- short of the most, one may be entered where the run is empty or has this answer
takes_is : (parts : List JournalPart) (last : HorizonRun) (n len : ℕ) → Each NotHorizon parts → len ≡ length (entries_in parts last) → len < most_entries
    → takes_horizon (entries_in parts last) n ≡ ((last.count == 0) || (last.answer == n))
takes_is parts last n len h e l = ap (λ b. b && goes_behind n (last_in None (entries_in parts last))) (lt-ltb (length (entries_in parts last)) most_entries (subst (λ k. k < most_entries) e l)) ∙ takes_run parts last n h

pub takes_empty : (parts : List JournalPart) (last : HorizonRun) (n len : ℕ) → Each NotHorizon parts → len ≡ length (entries_in parts last) → len < most_entries → last.count ≡ 0
    → takes_horizon (entries_in parts last) n ≡ true
takes_empty parts last n len h e l z = takes_is parts last n len h e l ∙ ap (λ k. (k == 0) || (last.answer == n)) z

pub takes_same : (parts : List JournalPart) (last : HorizonRun) (n len : ℕ) → Each NotHorizon parts → len ≡ length (entries_in parts last) → len < most_entries → (last.count ≡ 0 → ⊥)
    → takes_horizon (entries_in parts last) n ≡ (last.answer == n)
takes_same parts last n len h e l z = takes_is parts last n len h e l ∙ ap (λ b. b || (last.answer == n)) (ne_eqb last.count 0 z)

same_run : (a n c : ℕ) → ((c == 0) || (a == n)) ≡ true → replicate c (horizon_entry a) ≡ replicate c (horizon_entry n)
same_run a n zero e = refl
same_run a n (suc c) e = ap (λ m. replicate (suc c) (horizon_entry m)) (eqb-true a n (sym (ap (λ b. b || (a == n)) (not_zero c)) ∙ e))

-- a Horizon that may be entered makes the run longer by one
pub run_entered : (parts : List JournalPart) (last : HorizonRun) (n : ℕ) → Each NotHorizon parts → takes_horizon (entries_in parts last) n ≡ true
    → with_horizon (entries_in parts last) n ≡ entries_in parts (record { answer = n; count = last.count + 1 })
run_entered parts last n h t =
    let goes : ((last.count == 0) || (last.answer == n)) ≡ true = sym (takes_run parts last n h) ∙ (and_parts (nat_lt (length (entries_in parts last)) most_entries) (goes_behind n (last_in None (entries_in parts last))) t).1 in
    ap (λ b. cond b (entries_in parts last ++ horizon_entry n ∷ []) (entries_in parts last)) t
    ∙ ap (λ xs. (flat_map part_entries parts ++ xs) ++ horizon_entry n ∷ []) (same_run last.answer n last.count goes)
    ∙ sym (run_grows parts n last.count)
