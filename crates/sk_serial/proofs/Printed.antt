-- A text that was made, or memory was wanting for it.
use Rattle.std.proofs.Common.{◌≡◌, ℕ, List, Option, Result, Ok, Err, inl, inr, subst}
use Rattle.std.specs.Prelude.{IfOk, IfErr}
use Rattle.sk_serial.specs.Printing.{IsPrinted, IsMade, memory_text}

pub is_made : {X E : Type 0} (bytes : X → List ℕ) (r : Result X E) (text : List ℕ) (fault status : ℕ) (old new : Option (List ℕ)) (before now : ℕ) → IfOk r (λ t. bytes t ≡ text)
    → IfOk r (λ t. IsPrinted fault (bytes t) status old new before now) → IfErr r (λ e. IsPrinted 8 memory_text status old new before now) → IsMade fault text status old new before now
is_made bytes (Ok t) text fault status old new before now is printed none = inl (subst (λ (x : List ℕ). IsPrinted fault x status old new before now) is printed)
is_made bytes (Err e) text fault status old new before now is printed none = inr none
