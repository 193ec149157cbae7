-- What clauses see of a book and of a pass.
use Rattle.std.specs.Prelude.{◌≡◌}
use Rattle.sk_booked.specs.declared.journaled.Journaled.{Ghosts}
use Rattle.sk_booked.specs.declared.book.Booked.{Booked}
use Rattle.sk_booked.specs.declared.book.BookPass.{BookPass}
use Rattle.sk_booked.specs.declared.view.View.{View}
use Rattle.sk_booked.specs.declared.view.Own.{Own}

module _ {V C R : Type 0} {g : Ghosts V C R} where
  abbrev pub view : BookPass V C R g → View V (C × R)
  view p = p.seat.me.0

  abbrev pub own_of : BookPass V C R g → Own (C × R)
  own_of p = p.seat.me.0.own

  abbrev pub IsOf : Booked V C R → BookPass V C R g → Type 0
  IsOf b p = p.seat.table_id ≡ b.table.shared.table_id

-- the value with which the book was made
abbrev pub start_of : {V C R : Type 0} → Booked V C R → V
start_of b = b.table.shared.key
