-- What a function that may want memory answers.
use Rattle.std.specs.Prelude.{◌≡◌, Bool, cond, Result, Ok, Err}

-- What came back is what was meant, unless memory was wanted; `wants` tells which fault says so.
abbrev pub Gives : {X E : Type 0} → (E → Bool) → Result X E → Result X E → Type 0
Gives wants (Ok x) meant = meant ≡ Ok x
Gives wants (Err e) meant = cond (wants e) (Unit {0}) (meant ≡ Err e)
