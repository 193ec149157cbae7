-- What is left is of the same run.
use Rattle.sk_shared.proofs.Leaving.{is_left}
use Rattle.sk_shared.proofs.shared.Shared.into_parts.Goals as goal

pub returns : goal.returns
returns c =
    is_left _ _ c.args.self c.into_parts-mem.result.0 c.into_parts-mem.result.1 _ c.into_parts-mem.ensures.mem c.into_parts-mem.ensures.store c.into_parts-mem_journal.ensures.journal
    c.into_parts-store_journal.ensures.journal c.into_parts-mem_counter.ensures.counters c.into_parts-mem_counter.ensures.points
