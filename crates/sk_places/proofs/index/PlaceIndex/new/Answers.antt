use Rattle.sk_model.specs.declared.engine.EngineName.TheVariants.{Mem, Store}
use Rattle.sk_places.proofs.Rising.{marks_rise}
use Rattle.sk_places.proofs.index.PlaceIndex.new.Goals as goal

pub invariant_of-result : goal.invariant_of-result
invariant_of-result c = record {
  mem_rises = rw c.in_ok-marks_of.ensures (marks_rise Mem c.args.order.now c.requires.by_mem);
  store_rises = rw c.in_ok-marks_of-2.ensures (marks_rise Store c.args.order.now c.requires.by_store);
}
