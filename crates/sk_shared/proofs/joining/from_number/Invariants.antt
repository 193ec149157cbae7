-- The points that are left have the one that is looked for.
use Rattle.std.proofs.Common.{◌≡◌, length}
use Rattle.sk_recorded.specs.Joined.{from_number}
use Rattle.sk_shared.proofs.joining.from_number.Given as goal

abbrev pub invariant-loop-rest : goal.invariant-loop-rest
invariant-loop-rest l = from_number l.name l.n l.rest ≡ from_number l.name l.n l.fn.points

abbrev pub decreases-loop-rest : goal.decreases-loop-rest
decreases-loop-rest l = length l.rest
