use Rattle.std.proofs.Common.{◌≡◌, ◌≤◌, length}
use Rattle.std.specs.FinMap.{find}
use Rattle.sk_rows.specs.declared.value.Value.{Value}
use Rattle.sk_rows.specs.Values.{value_cmp}
use Rattle.sk_chain.specs.Chained.{empty}
use Rattle.sk_mem.specs.Chains.{chain_of}
use Rattle.sk_mem.proofs.Starting.{first_or}
use Rattle.sk_mem.proofs.first.first_rows.Given as goal

-- what is left of the list, and the chains so far, make the chains of all
abbrev pub invariant-loop-list : goal.invariant-loop-list
invariant-loop-list l = record {
  within : length l.list ≤ length l.rows;
  chains : (q : Value) → first_or l.start (find value_cmp q l.list) (chain_of l.chains.entries q) ≡ first_or l.start (find value_cmp q l.rows) empty;
}

abbrev pub decreases-loop-list : goal.decreases-loop-list
decreases-loop-list l = length l.list
