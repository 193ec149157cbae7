-- What receipts promise together, and how they stay so from flush to flush.
use Rattle.std.specs.Prelude.{◌≡◌, ℕ, ◌+◌, ◌≤◌, Bool, true, not, ◌&&◌, List, [], ◌∷◌, ◌++◌, map, if◌then◌else◌}
use Rattle.std.specs.List.{filter, list_any, AllByRecursion}
use Rattle.sk_model.specs.declared.label.Label.{Label}
use Rattle.sk_model.specs.declared.point.Point.{Point}
use Rattle.sk_model.specs.declared.receipt.Need.{Need}
use Rattle.sk_model.specs.declared.receipt.Receipt.{Receipt}
use Rattle.sk_model.specs.Records.{same_label}
use Rattle.sk_cut.specs.Receipts.{covers, receipt_at}

-- how often this label stands there
abbrev pub times : Label → List Label → ℕ
times label [] = 0
times label (l ∷ ls) = (if same_label label l then 1 else 0) + times label ls

-- no label stands there twice
abbrev pub AreOnce : List Label → Type 0
AreOnce labels = (label : Label) → times label labels ≤ 1

-- whose needs they are
abbrev pub labels_of : List Need → List Label
labels_of needs = map (λ n. n.label) needs

-- who was told
abbrev pub told : List Receipt → List Label
told receipts = map (λ r. r.label) receipts

-- the receipt is of this need, and its cut covers it
abbrev pub answers : Receipt → Need → Bool
answers r need = same_label need.label r.label && covers r.cut need

-- neither number of the cut is past the other's
abbrev pub IsUpTo : Point → Point → Type 0
IsUpTo to cut = (cut.a ≤ to.a) × (cut.b ≤ to.b)

-- The receipts that were given up to a durable cut, where these are the needs of the committed transactions: no receipt's cut is past it, each is of one of the needs and covers it, and nobody was told twice.
pub record Acked (needs : List Need) (receipts : List Receipt) (cut : Point) : Type 0 where
  pub within : AllByRecursion (λ r. IsUpTo cut r.cut) receipts
  pub covered : AllByRecursion (λ r. list_any (answers r) needs ≡ true) receipts
  pub once : AreOnce (told receipts)

-- whatever cut covers the need, its receipt there is of one of these needs
abbrev pub IsOneOf : List Need → Need → Type 0
IsOneOf needs need = (cut : Point) → covers cut need ≡ true → list_any (answers (receipt_at cut need)) needs ≡ true

-- Between the calls of a run: what was queued in all, who of them waits, what was told, and what is durable.
pub record IsAcking (queued waiting : List Need) (receipts : List Receipt) (cut : Point) : Type 0 where
  pub acked : Acked queued receipts cut
  pub waits : AllByRecursion (IsOneOf queued) waiting
  pub apart : (label : Label) → times label (told receipts) + times label (labels_of waiting) ≤ times label (labels_of queued)
  pub once : AreOnce (labels_of queued)

-- before anybody is queued
abbrev pub AckedAtFirst : Type 0
AckedAtFirst = (cut : Point) → IsAcking [] [] [] cut

-- a need is queued whose label was not
abbrev pub AckedWhenQueued : Type 0
AckedWhenQueued = (queued waiting : List Need) (receipts : List Receipt) (cut : Point) (need : Need) → times need.label (labels_of queued) ≡ 0
    → IsAcking queued waiting receipts cut → IsAcking (queued ++ need ∷ []) (waiting ++ need ∷ []) receipts cut

-- a flush at a cut that is not below the durable one gives its receipts
abbrev pub AckedWhenFlushed : Type 0
AckedWhenFlushed = (queued waiting : List Need) (receipts : List Receipt) (cut to : Point) → IsUpTo to cut
    → IsAcking queued waiting receipts cut → IsAcking queued (filter (λ n. not (covers to n)) waiting) (receipts ++ map (receipt_at to) (filter (covers to) waiting)) to
