use Rattle.std.proofs.Common.{refl}
use Rattle.sk_shared.proofs.Answering.{store_asked}
use Rattle.sk_shared.proofs.shared.Shared.ask_store.Goals as goal

pub returns-then-has_room-clause-answered : goal.returns-then-has_room-clause-answered
returns-then-has_room-clause-answered c =
    store_asked _ _ c.args.self.now c.has_room.new.self (record { engines = c.ask_store.new.self; log = c.has_room.new.self.log }) c.args.call c.ask_store.result c.has_room.ensures.same c.ask_store.ensures.asks c.ask_store.ensures.other refl
