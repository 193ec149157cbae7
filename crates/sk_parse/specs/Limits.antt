-- The limit of expressions.
use Rattle.std.specs.Prelude.{ℕ}

-- of NOTs and parentheses that are open together
abbrev pub most_nested : ℕ
most_nested = 64
