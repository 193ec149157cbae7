-- Who is told, and what a pipeline is to its callers.
use Rattle.std.specs.Prelude.{◌≡◌, ℕ, Bool, true, List, Option, Some, None, nat_le, ◌&&◌}
use Rattle.sk_model.specs.declared.label.Label.{Label}
use Rattle.sk_model.specs.declared.point.Point.{Point}
use Rattle.sk_log.specs.declared.ends.Ends.{Ends}
use Rattle.sk_model.specs.declared.receipt.Need.{Need}
use Rattle.sk_model.specs.declared.receipt.Receipt.{Receipt}

abbrev pub is_reached : Option ℕ → ℕ → Bool
is_reached None upto = true
is_reached (Some n) upto = nat_le n upto

abbrev pub covers : Point → Need → Bool
covers cut need = is_reached need.mem cut.a && is_reached need.store cut.b

abbrev pub receipt_at : Point → Need → Receipt
receipt_at cut need = record { label = need.label; cut = cut }

-- it answers the receipt of the label and the cut that it is called with
abbrev pub AnswersReceipts : (Label → Point → Receipt → Type 0) → Type 0
AnswersReceipts post = (label : Label) (cut : Point) (r : Receipt) → post label cut r → r ≡ record { label = label; cut = cut }

-- what a clause sees of a pipeline
pub record View (D : Type 0) : Type 0 where
  pub disk : D
  pub ends : Ends
  pub logmax : ℕ
  pub cut : Point
  pub waiting : List Need
  pub reserved : ℕ
  pub broken : Bool
