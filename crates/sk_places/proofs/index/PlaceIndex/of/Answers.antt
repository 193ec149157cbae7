use Rattle.sk_places.proofs.Ends.{ends_place}
use Rattle.sk_places.proofs.index.PlaceIndex.of.Goals as goal

pub returns : goal.returns
returns c order is = rw (c.max.ensures, c.last_end-in_mem.ensures, c.last_end-in_store.ensures, c.deref.ensures.value, c.deref-2.ensures.value, is.mem, is.store) (ends_place order c.args.mem c.args.store)
