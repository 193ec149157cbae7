-- A cell that is gone or moved.
use Rattle.std.specs.Prelude.{◌≡◌, ◌≤◌, ℕ, Option, Some, None, false, ◌==◌, ◌&&◌, min, ◌+◌, ◌-◌, ◌^◌}
use Rattle.std.proofs.Common.{sym, ap, ◌∙◌, arith}
use Rattle.std.proofs.lemmas.Bool.{cond-false}
use Rattle.sk_outside.specs.Causes.{Rose}
use Rattle.sk_model.specs.declared.call.EngineFault.{EngineFault}
use Rattle.sk_model.specs.declared.call.EngineFault.TheVariants as fault
use Rattle.sk_store.specs.declared.head.Spot.{Spot}
use Rattle.sk_store.specs.Cells.{Cells, with_cell}
use Rattle.sk_store.specs.Shown.{is_at}
use Rattle.sk_store.specs.Writes.{IsRefusal}

pub removed : (cells : Cells) (was : Option Spot) (at : Spot) → was ≡ Some at → (p s : ℕ) → is_at was p s ≡ false → with_cell cells at.page at.slot None p s ≡ cells p s
removed cells was at e p s off = cond-false ((p == at.page) && (s == at.slot)) None (cells p s) (ap (λ w. is_at w p s) (sym e) ∙ off)
