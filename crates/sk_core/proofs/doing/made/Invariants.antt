use Rattle.std.proofs.Common.{◌≡◌, ◌++◌, drop}
use Rattle.sk_linked.specs.Machine.{may_all, entered}
use Rattle.sk_core.proofs.doing.made.Given as goal

-- The entries so far with those of the calls to come are all, and the calls to come may be made where all may.
abbrev pub invariant-loop-call : goal.invariant-loop-call
invariant-loop-call l = record {
  entries : l.entries ++ entered l.after (drop l.call-index l.calls) ≡ entered l.fn.table l.calls;
  may : may_all l.after (drop l.call-index l.calls) ≡ may_all l.fn.table l.calls;
}
