use Rattle.std.proofs.Common.{refl}
use Rattle.sk_shared.proofs.Answering.{mem_asked}
use Rattle.sk_shared.proofs.shared.Shared.ask_mem.Goals as goal

pub returns-then-has_room-clause-answered : goal.returns-then-has_room-clause-answered
returns-then-has_room-clause-answered c =
    mem_asked _ _ c.args.self.now c.has_room.new.self (record { engines = c.ask_mem.new.self; log = c.has_room.new.self.log }) c.args.call c.ask_mem.result c.has_room.ensures.same c.ask_mem.ensures.asks c.ask_mem.ensures.other refl
