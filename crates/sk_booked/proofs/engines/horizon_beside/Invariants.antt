use Rattle.std.proofs.Common.{◌-◌, ◌≤◌, List}
use Rattle.sk_model.specs.declared.call.Entry.{Entry}
use Rattle.sk_model.specs.Engine.{EngineTable}
use Rattle.sk_model.specs.EngineReplies.{horizon_of}
use Rattle.sk_booked.proofs.engines.horizon_beside.Given as goal

-- the horizon lies between the two
abbrev pub invariant-loop-low : goal.invariant-loop-low
invariant-loop-low g l = record {
  order : l.low ≤ l.high;
  between : (e : EngineTable) (js : List Entry) → g.G.Engine.stands l.fn.engine e js → e.purged ≤ 4294967295 → horizon_of e ≤ 4294967295 → (l.low ≤ horizon_of e) × (horizon_of e ≤ l.high);
}

abbrev pub decreases-loop-low : goal.decreases-loop-low
decreases-loop-low g l = l.high - l.low
