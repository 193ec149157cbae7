-- Calls of other transactions leave what a table knows of one.
use Rattle.std.specs.Prelude.{ℕ, List, [], ◌∷◌, ◌++◌, Option, Some, None, Bool, true, false, not, ◌&&◌, ◌||◌, ◌==◌, ◌≡◌, ◌<◌, nat_lt, is_some}
use Rattle.std.proofs.Common.{refl, ap, subst, ◌∙◌}
use Rattle.std.specs.List.{list_any}
use Rattle.std.specs.Ordering.{nat_cmp, eq_by_cmp}
use Rattle.std.specs.Cmp.{nat_cmp_total, unsigned_tied}
use Rattle.std.specs.FinMap.{find}
use Rattle.std.specs.FinMap.Entries.{find-put}
use Rattle.std.proofs.lemmas.Bool.{cond-true, cond-false, false≢true, and_from, ne_eqb, lt-ltb}
use Rattle.std.proofs.lemmas.List.Folds.{list_any-append}
use Rattle.std.proofs.lemmas.List.Sums.{fold-append}
use Rattle.sk_rows.specs.declared.table.Table.{Table}
use Rattle.sk_model.specs.declared.label.Label.{Label}
use Rattle.sk_model.specs.declared.engine.EngineName.{EngineName}
use Rattle.sk_model.specs.declared.call.EngineCall.{EngineCall}
use Rattle.sk_model.specs.declared.call.EngineCall.TheVariants as call
use Rattle.sk_model.specs.declared.call.EngineReply.TheVariants.{Number}
use Rattle.sk_model.specs.declared.call.Entry.{Entry}
use Rattle.sk_model.specs.Database.{Tables}
use Rattle.sk_model.specs.Records.{same_label}
use Rattle.sk_model.specs.Engine.{Opening, EngineTable, engine_at, opening_of}
use Rattle.sk_model.specs.EngineReplies.{is_used}
use Rattle.sk_model.specs.EngineChanges.{change, opening_at}
use Rattle.sk_model.specs.EngineConditions.{may, is_closed, is_standing, floor_of}
use Rattle.sk_model.specs.Legal.{step, after_entries, Legal, Allowed}
use Rattle.sk_model.specs.Talks.{tx_of, is_tx, is_by, entries_by}
use Rattle.sk_model.proofs.Lists.{Each}
use Rattle.sk_model.proofs.Labels.{same_itself, not_same_back}
use Rattle.sk_model.proofs.Quiet.{step_keeps}
use Rattle.sk_model.proofs.Order.{legal_front}
use Rattle.sk_linked.specs.Traces.{close_entry}
use Rattle.sk_linked.proofs.Projection.{SplitBy, split_by, none_pass_filter, opening_change, shut, answered, allowed_front}

opening_other : (tx : Label) (e : EngineTable) (c : EngineCall) → is_tx tx (tx_of c) ≡ false → opening_of (change e c) tx ≡ opening_of e tx
opening_other tx e (call.Open other s) n = opening_change tx e (call.Open other s) ∙ cond-false (same_label tx other) (Some (opening_at s)) (opening_of e tx) n
opening_other tx e (call.Get other t k) n = refl
opening_other tx e (call.Scan other t) n = refl
opening_other tx e (call.Put other u key row) n = refl
opening_other tx e (call.Close other) n = opening_change tx e (call.Close other) ∙ cond-false (same_label tx other) (shut e.greatest (opening_of e tx)) (opening_of e tx) n
opening_other tx e (call.Stamp other m) n = opening_change tx e (call.Stamp other m) ∙ cond-true (not (same_label other tx)) (opening_of e tx) None (ap not (not_same_back tx other n))
opening_other tx e (call.Void other m) n = opening_change tx e (call.Void other m) ∙ cond-true (not (same_label other tx)) (opening_of e tx) None (ap not (not_same_back tx other n))
opening_other tx e (call.DropTx other) n = opening_change tx e (call.DropTx other) ∙ cond-true (not (same_label other tx)) (opening_of e tx) None (ap not (not_same_back tx other n))
opening_other tx e call.Horizon n = refl
opening_other tx e (call.Records from to) n = refl
opening_other tx e (call.Purge upto) n = refl

pub opening_others : (tx : Label) (e : EngineTable) (js : List Entry) → Each (λ (j : Entry). is_by tx j ≡ false) js → opening_of (after_entries e js) tx ≡ opening_of e tx
opening_others tx e [] h = refl
opening_others tx e (j ∷ js) h = opening_others tx (step e j) js h.1
    ∙ step_keeps (λ (f : EngineTable). opening_of f tx ≡ opening_of e tx) e j refl (λ m r. opening_other tx e j.call h.0)

-- the call decides another number, or none
abbrev pub NotUse : ℕ → EngineCall → Type 0
NotUse n (call.Open tx s) = Unit {0}
NotUse n (call.Get tx t k) = Unit {0}
NotUse n (call.Scan tx t) = Unit {0}
NotUse n (call.Put tx t key row) = Unit {0}
NotUse n (call.Close tx) = Unit {0}
NotUse n (call.Stamp tx m) = n ≡ m → ⊥
NotUse n (call.Void tx m) = n ≡ m → ⊥
NotUse n (call.DropTx tx) = Unit {0}
NotUse n call.Horizon = Unit {0}
NotUse n (call.Records from to) = Unit {0}
NotUse n (call.Purge upto) = Unit {0}

or_none : (b : Bool) → (b || false) ≡ b
or_none true = refl
or_none false = refl

pub used_change : (n : ℕ) (e : EngineTable) (c : EngineCall) → NotUse n c → is_used (change e c) n ≡ is_used e n
used_change n e (call.Open other s) h = refl
used_change n e (call.Get other t k) h = refl
used_change n e (call.Scan other t) h = refl
used_change n e (call.Put other u key row) h = refl
used_change n e (call.Close other) h = refl
used_change n e (call.Stamp other m) h =
    ap (λ (o : Option Label). is_some o || list_any (◌==◌ n) e.voided)
    (find-put nat_cmp nat_cmp_total n m other e.stamped ∙ cond-false (eq_by_cmp nat_cmp n m) (Some other) (find nat_cmp n e.stamped) (unsigned_tied n m ∙ ne_eqb n m h))
used_change n e (call.Void other m) h =
    ap (λ b. is_some (find nat_cmp n e.stamped) || b)
    (list_any-append (◌==◌ n) e.voided (m ∷ [])
    ∙ ap (λ b. list_any (◌==◌ n) e.voided || (b || false)) (ne_eqb n m h)
    ∙ or_none (list_any (◌==◌ n) e.voided))
used_change n e (call.DropTx other) h = refl
used_change n e call.Horizon h = refl
used_change n e (call.Records from to) h = refl
used_change n e (call.Purge upto) h = refl

-- a stamp that may be made may be made after calls of others with other numbers
pub may_stamp_stays : (tx : Label) (n : ℕ) (e : EngineTable) (js : List Entry) → Each (λ (j : Entry). (is_by tx j ≡ false) × NotUse n j.call) js → may e (call.Stamp tx n) ≡ true → may (after_entries e js) (call.Stamp tx n) ≡ true
may_stamp_stays tx n e [] h m = m
may_stamp_stays tx n e (j ∷ js) h m = may_stamp_stays tx n (step e j) js h.1
    (step_keeps (λ (f : EngineTable). may f (call.Stamp tx n) ≡ true) e j m
    (λ q r. ap (λ (o : Option Opening). is_closed o && (nat_lt (floor_of o) n && not (is_used (change e j.call) n))) (opening_other tx e j.call h.0.0)
    ∙ ap (λ b. is_closed (opening_of e tx) && (nat_lt (floor_of (opening_of e tx)) n && not b)) (used_change n e j.call h.0.1) ∙ m))

used_stays : (n : ℕ) (e : EngineTable) (js : List Entry) → Each (λ (j : Entry). NotUse n j.call) js → is_used (after_entries e js) n ≡ is_used e n
used_stays n e [] h = refl
used_stays n e (j ∷ js) h = used_stays n (step e j) js h.1 ∙ step_keeps (λ (f : EngineTable). is_used f n ≡ is_used e n) e j refl (λ m r. used_change n e j.call h.0)

pub shut_closed : (g : ℕ) (o : Option Opening) → is_standing o ≡ true → (is_closed (shut g o) ≡ true) × (floor_of (shut g o) ≡ g)
shut_closed g None m = absurd (false≢true m)
shut_closed g (Some o) m = (refl, refl)

pub number_same : {x y : ℕ} → Number x ≡ Number y → x ≡ y
number_same e = cc

-- the opening of a transaction whose last call is its close has that floor
pub closed_opening : (name : EngineName) (catalog : List Table) (rows : Tables) (start : ℕ) (js before : List Entry) (l : Label) (f : ℕ)
    → Legal (engine_at name catalog rows start) js → Allowed (engine_at name catalog rows start) js → entries_by l js ≡ before ++ close_entry l f ∷ []
    → (is_closed (opening_of (after_entries (engine_at name catalog rows start) js) l) ≡ true) × (floor_of (opening_of (after_entries (engine_at name catalog rows start) js) l) ≡ f)
closed_opening name catalog rows start js before l f legal allowed own =
    let e : EngineTable = engine_at name catalog rows start in
    let close : Entry = close_entry l f in
    let cut : SplitBy (is_by l) js before close [] = split_by (is_by l) js before close [] own in
    let e1 : EngineTable = after_entries e cut.before in
    let lg : Legal e cut.before × Legal e1 (close ∷ cut.later) = legal_front e cut.before (close ∷ cut.later) (subst (λ xs. Legal e xs) cut.is legal) in
    let al : Allowed e cut.before × Allowed e1 (close ∷ cut.later) = allowed_front e cut.before (close ∷ cut.later) (subst (λ xs. Allowed e xs) cut.is allowed) in
    let m : is_standing (opening_of e1 l) ≡ true = al.1.0 in
    let g : e1.greatest ≡ f = number_same (answered e1 (call.Close l) (Number f) refl m lg.1.0) in
    let s : step e1 close ≡ change e1 (call.Close l) = cond-true (may e1 (call.Close l) && true) (change e1 (call.Close l)) e1 (and_from (may e1 (call.Close l)) true m refl) in
    let c : (is_closed (shut e1.greatest (opening_of e1 l)) ≡ true) × (floor_of (shut e1.greatest (opening_of e1 l)) ≡ e1.greatest) = shut_closed e1.greatest (opening_of e1 l) m in
    let whole : after_entries e js ≡ after_entries (step e1 close) cut.later = ap (after_entries e) cut.is ∙ fold-append step e cut.before (close ∷ cut.later) in
    let opening : opening_of (after_entries e js) l ≡ shut e1.greatest (opening_of e1 l) =
    ap (λ (x : EngineTable). opening_of x l) whole ∙ opening_others l (step e1 close) cut.later (none_pass_filter (is_by l) cut.later cut.back)
    ∙ ap (λ (x : EngineTable). opening_of x l) s ∙ opening_change l e1 (call.Close l) ∙ cond-true (same_label l l) (shut e1.greatest (opening_of e1 l)) (opening_of e1 l) (same_itself l) in
    (ap is_closed opening ∙ c.0, ap floor_of opening ∙ c.1 ∙ g)

-- it may stamp a number past its floor that no call has used
pub may_stamp : (name : EngineName) (catalog : List Table) (rows : Tables) (start : ℕ) (js before : List Entry) (l : Label) (f n : ℕ)
    → Legal (engine_at name catalog rows start) js → Allowed (engine_at name catalog rows start) js
    → entries_by l js ≡ before ++ close_entry l f ∷ [] → f < n → Each (λ (j : Entry). NotUse n j.call) js → may (after_entries (engine_at name catalog rows start) js) (call.Stamp l n) ≡ true
may_stamp name catalog rows start js before l f n legal allowed own lt unused =
    let e : EngineTable = engine_at name catalog rows start in
    let o : (is_closed (opening_of (after_entries e js) l) ≡ true) × (floor_of (opening_of (after_entries e js) l) ≡ f) = closed_opening name catalog rows start js before l f legal allowed own in
    and_from (is_closed (opening_of (after_entries e js) l)) (nat_lt (floor_of (opening_of (after_entries e js) l)) n && not (is_used (after_entries e js) n)) o.0
    (and_from (nat_lt (floor_of (opening_of (after_entries e js) l)) n) (not (is_used (after_entries e js) n)) (ap (λ x. nat_lt x n) o.1 ∙ lt-ltb f n lt) (ap not (used_stays n e js unused)))
