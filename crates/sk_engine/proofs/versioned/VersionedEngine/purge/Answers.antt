use Rattle.std.proofs.Common.{◌≡◌, ◌≤◌, ◌<◌, ◌∙◌, ap, subst, refl, arith, rules, map, take, drop, slice_get, IfSome}
use Rattle.std.specs.List.{AllByRecursion}
use Rattle.sk_engine.specs.declared.book.Book.{Book}
use Rattle.sk_engine.specs.Stands.{least_in}
use Rattle.sk_engine.specs.Counts.{used}
use Rattle.sk_engine.proofs.Purged.{serve_stay, serve_purge, head_of, low_of, parts_of}
use Rattle.sk_engine.proofs.versioned.VersionedEngine.purge.Goals as goal

pub returns-then-most-self : goal.returns-then-most-self
returns-then-most-self g c = record {
  later = omega arith;
  holds = λ e js h m.
      let b : Book = c.args.self.now.book in
      serve_stay g.R.Rows.name g.R.Rows.told (g.R.Rows.faults c.args.self.now.rows) (g.R.Rows.faults c.args.self.now.rows) (g.R.Rows.shows c.args.self.now.rows) (g.R.Rows.shows c.args.self.now.rows)
      b b e c.args.upto c.least_open-most.result (c.least_open-most.ensures ∙ ap (least_in b.openings.entries) c.min.ensures) c.has_openings.ensures (omega arith) h m;
}

pub returns : goal.returns
returns g c = record {
  later = c.forget_all.ensures.later;
  holds = λ e js h m.
      let b : Book = c.args.self.now.book in
      let count = c.count_upto-count.result in
      let same : c.as_slice.result.now ≡ b.numbers.items = search rules in
      let rest : c.drop-drain.new.self.0.items ≡ drop count b.numbers.items = search rules in
      serve_purge g.R.Rows.name g.R.Rows.told (g.R.Rows.faults c.args.self.now.rows) (g.R.Rows.faults c.forget_all.new.rows) (g.R.Rows.shows c.args.self.now.rows) (g.R.Rows.shows c.forget_all.new.rows)
      b (record b { numbers = c.drop-drain.new.self.0; purged = c.least_open-most.result }) e c.args.upto c.least_open-most.result (map used (take count b.numbers.items)) (map used (drop count b.numbers.items))
      (c.least_open-most.ensures ∙ ap (least_in b.openings.entries) c.min.ensures) c.has_openings.ensures (omega arith)
      (parts_of count b.numbers.items) (ap (map used) rest)
      (low_of c.least_open-most.result count b.numbers.items (subst (λ xs. AllByRecursion (λ u. u.n ≤ c.least_open-most.result) (take count xs)) same c.count_upto-count.ensures.front))
      (head_of c.least_open-most.result count b.numbers.items (subst (λ xs. IfSome (slice_get xs count) (λ u. c.least_open-most.result < u.n)) same c.count_upto-count.ensures.behind))
      refl refl refl refl (search rules) c.forget_all.ensures.forgets h m;
}
