use Rattle.std.proofs.Common.{le_trans}
use Rattle.sk_booked.proofs.Enterings.{few_entries, writes, descends}
use Rattle.sk_booked.proofs.engines.NotedJournaled.apply.Goals as goal

pub returns-clause-kin : goal.returns-clause-kin
returns-clause-kin g c first from =
    let few = few_entries c.args.self.now c.entries.result c.entries.ensures c.entries.type_inv c.if-entries-eq18446744073709551615.false in
    let on = descends g.G.Engine.told g.G.Engine.faults g.G.Engine.stands c.args.self.now c.apply.new.self c.args.call c.apply.result few c.apply.ensures.applies in
    record { later = le_trans from.later on.later; made = λ t m. on.made t (from.made t m) }

pub returns-clause-writes : goal.returns-clause-writes
returns-clause-writes g c =
    let few = few_entries c.args.self.now c.entries.result c.entries.ensures c.entries.type_inv c.if-entries-eq18446744073709551615.false in
    writes g.G.Engine.told g.G.Engine.faults g.G.Engine.stands c.args.self.now c.apply.new.self c.args.call c.apply.result few c.apply.ensures.applies c.requires
