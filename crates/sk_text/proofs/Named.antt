-- The labels of receipts as a set.
use Rattle.std.proofs.Common.{◌≡◌, ◌<◌, ◌≤◌, ℕ, ◌+◌, ◌-◌, Bool, true, false, cond, List, [], ◌∷◌, ◌++◌, append_assoc, length, get_or, take, drop, sym, ap, refl, ◌∙◌, arith}
use Rattle.std.proofs.Math.Seq.{take-length}
use Rattle.std.specs.Prelude.{◌||◌}
use Rattle.std.specs.BTreeSet.{BTreeSet, contains}
use Rattle.std.specs.BTreeMap.{is_at}
use Rattle.std.proofs.lemmas.List.Folds.{list_any_more}
use Rattle.sk_model.specs.declared.label.Label.{Label}
use Rattle.sk_model.specs.declared.receipt.Receipt.{Receipt}
use Rattle.sk_model.specs.declared.record.Record.{Record}
use Rattle.sk_model.specs.Engine.{label_cmp}
use Rattle.sk_model.specs.Records.{same_label}
use Rattle.sk_model.proofs.Labels.{label_tied}
use Rattle.sk_text.specs.Text.{is_named, record_line, record_lines}

either : (a b : Bool) → cond a true b ≡ (b || a)
either true true = refl
either true false = refl
either false true = refl
either false false = refl

-- one receipt more
pub one_more : (s n : BTreeSet Label) (receipts : List Receipt) (i : ℕ) (d : Receipt) → i < length receipts → ((q : Label) → contains label_cmp s q ≡ is_named (take i receipts) q)
    → ((q : Label) → contains label_cmp n q ≡ cond (is_at (label_cmp (get_or receipts i d).label) q) true (contains label_cmp s q)) → (q : Label) → contains label_cmp n q ≡ is_named (take (i + 1) receipts) q
one_more s n receipts i d inside before more q =
    let named : Receipt → Bool = λ (x : Receipt). same_label x.label q in
    let here : Bool = same_label (get_or receipts i d).label q in
    more q
    ∙ ap (λ (b : Bool). cond b true (contains label_cmp s q)) (label_tied (get_or receipts i d).label q)
    ∙ ap (λ (b : Bool). cond here true b) (before q)
    ∙ either here (is_named (take i receipts) q)
    ∙ sym (list_any_more named receipts i d inside)

-- two tests that agree choose the same lines
pub same_lines : (f g : Label → Bool) → ((q : Label) → f q ≡ g q) → (rs : List Record) (places : List ℕ) → record_lines f rs places ≡ record_lines g rs places
same_lines f g same [] places = refl
same_lines f g same (r ∷ rs) [] = refl
same_lines f g same (r ∷ rs) (p ∷ places) =
    ap (λ (b : Bool). record_line b r p ++ record_lines f rs places) (same r.label) ∙ ap (λ ls. record_line (g r.label) r p ++ ls) (same_lines f g same rs places)

-- one line more
pub one_line : (f : Label → Bool) (all out new : List ℕ) (records : List Record) (places : List ℕ) (r : Record) → 1 ≤ length records → 1 ≤ length places → r ≡ get_or records 0 r → out ++ record_lines f records places ≡ all
    → new ≡ out ++ record_line (f r.label) r (get_or places 0 0) → new ++ record_lines f (take (length records - 1) (drop 1 records)) (take (length places - 1) (drop 1 places)) ≡ all
one_line f all out new [] places r some more is before line = absurd (omega arith)
one_line f all out new (x ∷ records) [] r some more is before line = absurd (omega arith)
one_line f all out new (x ∷ records) (p ∷ places) r some more is before line =
    let first : r ≡ x = is in
    let rest : record_lines f (take (length (x ∷ records) - 1) records) (take (length (p ∷ places) - 1) places) ≡ record_lines f records places =
    ap (λ (n : ℕ). record_lines f (take n records) (take (length (p ∷ places) - 1) places)) (let e : length (x ∷ records) - 1 ≡ length records = omega arith in e)
    ∙ ap (λ (n : ℕ). record_lines f (take (length records) records) (take n places)) (let e : length (p ∷ places) - 1 ≡ length places = omega arith in e)
    ∙ ap (λ (rs : List Record). record_lines f rs (take (length places) places)) (take-length records)
    ∙ ap (record_lines f records) (take-length places) in
    ap (λ ls. new ++ ls) rest
    ∙ ap (λ ls. ls ++ record_lines f records places) line
    ∙ ap (λ (y : Record). (out ++ record_line (f y.label) y p) ++ record_lines f records places) first
    ∙ append_assoc out (record_line (f x.label) x p) (record_lines f records places)
    ∙ before
