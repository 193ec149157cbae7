use Rattle.sk_log.specs.Stores.{root_of}
use Rattle.sk_recover.specs.Views.{base_of, position_of}
use Rattle.sk_recover.proofs.Sound.{stored_fits}
use Rattle.sk_recover.proofs.opening.stored_of.Goals as goal

pub returns-in-Ok-turns-clause-sound : goal.returns-in-Ok-turns-clause-sound
returns-in-Ok-turns-clause-sound c =
    let last = rw (c.tables.ensures.value, c.new.ensures, c.new-2.ensures) at c.in-Ok-turns.ensures.value in
    record {
      rise = c.in-Ok.ensures.rise;
      count = c.in-Ok.ensures.count;
      reached = c.in-Ok-turns.ensures.reached;
      fit = stored_fits (root_of c.args.root.now) c.args.base.now c.args.one.now c.args.two.now (base_of c.in-Ok.base) (position_of c.in-Ok.base.0 c.in-Ok-turns.reached) c.in-Ok.ensures.value last c.tables.ensures.catalog;
    }
