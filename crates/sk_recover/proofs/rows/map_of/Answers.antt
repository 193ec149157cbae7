use Rattle.std.proofs.Common.{rules}
use Rattle.sk_recover.proofs.Rising.{put_behind}
use Rattle.sk_recover.proofs.rows.map_of.Goals as goal

pub loop-row-preserved : goal.loop-row-preserved
loop-row-preserved c = rw c.in_ok-put_in.ensures (put_behind c.loop-row.map.entries c.in-Some.row c.next.new.self.rest.items c.args.rows c.requires (search rules))
