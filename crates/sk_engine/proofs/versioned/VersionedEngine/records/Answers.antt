use Rattle.sk_engine.specs.Engines.{StandsBy}
use Rattle.sk_engine.proofs.Serving.{leaves}
use Rattle.sk_model.specs.declared.call.EngineCall.TheVariants as call
use Rattle.sk_model.specs.declared.call.EngineReply.TheVariants.{Commits}
use Rattle.sk_chain.specs.Promise.{replied}
use Rattle.std.proofs.Common.{◌≡◌, rules, take, drop}
use Rattle.sk_engine.specs.declared.book.Book.{Book}
use Rattle.sk_engine.proofs.Commits.{serve_listed}
use Rattle.sk_engine.proofs.versioned.VersionedEngine.records.Goals as goal

pub returns : goal.returns
returns g c = record {
  later = c.commits_given.ensures.later;
  holds = λ e js h m.
      let b : Book = c.args.self.now.book in
      let i = c.find_past.result in
      let j = c.find_past-2.result in
      let all : c.as_slice-numbers.result.now ≡ b.numbers.items = search rules in
      let rest : c.split_at.result.1.now ≡ drop i b.numbers.items = search rules in
      let some : c.split_at-2.result.0.now ≡ take j (drop i b.numbers.items) = search rules in
      leaves g.R.Rows.told (g.R.Rows.faults c.args.self.now.rows) (g.R.Rows.faults c.commits_given.new.rows) (StandsBy g.R.Rows.name (g.R.Rows.shows c.commits_given.new.rows) b) e js (call.Records c.args.from c.args.to) (replied Commits c.commits_given.result)
      (serve_listed g.R.Rows.name g.R.Rows.told (g.R.Rows.faults c.args.self.now.rows) (g.R.Rows.faults c.commits_given.new.rows) (g.R.Rows.shows c.args.self.now.rows) (g.R.Rows.shows c.commits_given.new.rows)
      b e h c.args.from c.args.to i j c.as_slice-numbers.result.now c.split_at.result.1.now c.split_at-2.result.0.now c.commits_given.result all rest some
      c.find_past.ensures.within c.find_past.ensures.before c.find_past.ensures.behind c.find_past-2.ensures.within c.find_past-2.ensures.before c.find_past-2.ensures.behind
      c.commits_given.ensures.keeps c.commits_given.ensures.gives m);
}
