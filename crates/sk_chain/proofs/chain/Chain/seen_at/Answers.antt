use Rattle.std.proofs.Common.{rules, ◌≡◌, ◌∙◌, ap}
use Rattle.sk_chain.specs.declared.version.Seen.TheVariants.{At, Nothing}
use Rattle.sk_chain.specs.Chained.{versions}
use Rattle.sk_chain.specs.Reading.{seen_at, sight_of}
use Rattle.sk_chain.proofs.Finding.{index_shows}
use Rattle.sk_chain.proofs.chain.Chain.seen_at.Goals as goal

pub returns-in-Some-newest_upto-clause-finds : goal.returns-in-Some-newest_upto-clause-finds
returns-in-Some-newest_upto-clause-finds c =
    let e : At c.in-Some-newest_upto.at ≡ seen_at c.args.self.now c.args.by c.args.snapshot = search rules in
    ap (sight_of (versions c.args.self.now)) e ∙ index_shows c.args.self.now c.args.by c.args.snapshot

pub returns-in-None-clause-finds : goal.returns-in-None-clause-finds
returns-in-None-clause-finds c =
    let e : Nothing ≡ seen_at c.args.self.now c.args.by c.args.snapshot = search rules in
    ap (sight_of (versions c.args.self.now)) e ∙ index_shows c.args.self.now c.args.by c.args.snapshot
