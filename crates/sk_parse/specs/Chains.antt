-- The bytes that are printed of an expression, before and behind its first part.
use Rattle.std.specs.Prelude.{ℕ, nat_lt, List, [], ◌∷◌, ◌++◌}
use Rattle.sk_lex.specs.Spelling.{spaced}
use Rattle.sk_rows.specs.declared.operations.Operation.{Operation}
use Rattle.sk_parse.specs.Printed.{strength, left_at, right_at, op_word}
use Rattle.sk_parse.specs.Spelled.{opened, closed, text}

-- before the first part: the parentheses of the operations, the outermost at the place of this rule
abbrev pub opens : List Operation → ℕ → List ℕ
opens [] at = []
opens (o ∷ os) at = opened (nat_lt (strength o.op) at) ++ opens os (left_at o.op)

-- the rule at whose place the first part stands
abbrev pub place_in : List Operation → ℕ → ℕ
place_in [] at = at
place_in (o ∷ os) at = place_in os (left_at o.op)

-- what stands behind the left side of an operation
abbrev pub behind_one : Operation → ℕ → List ℕ
behind_one o at = spaced (op_word o.op) ++ text o.right.now (right_at o.op) ++ closed (nat_lt (strength o.op) at)

-- what stands behind the first part
abbrev pub behind : List Operation → ℕ → List ℕ
behind [] at = []
behind (o ∷ os) at = behind os (left_at o.op) ++ behind_one o at
