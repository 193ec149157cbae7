use Rattle.std.proofs.Common.{◌≡◌, ◌+◌, [], ◌∷◌, ◌++◌, map, take, ap, sym, subst, ◌∙◌, arith, rules}
use Rattle.std.specs.Option.{option_map}
use Rattle.sk_model.specs.EngineReplies.{mem_number, store_number}
use Rattle.sk_engine.specs.Counts.{used}
use Rattle.sk_engine.specs.Recording.{Alike, IsWrite, IsCommit, Yields, write_given, commits_given}
use Rattle.sk_engine.proofs.Recorded.{commits_same, commits_more}
use Rattle.sk_engine.proofs.recording.commits_given.Goals.{in-Some+in_ok-writes+else-is_err, in_default}
use Rattle.sk_engine.proofs.recording.commits_given.Goals as goal

pub loop-number-preserved : goal.loop-number-preserved
loop-number-preserved g c = elim c.match-number.branch [
  | in-Some+in_ok-writes+else-is_err w ↦
      let x = c.number-item.result in
      let faults : g.R.Rows.faults c.match-number.rows ≡ g.R.Rows.faults w.writes_given.new.rows = ap g.R.Rows.faults w.rows-is in
      record {
        later = omega (arith, c.loop-number.invariant.later, w.writes_given.ensures.later, faults);
        keeps = λ tables chains h. subst (λ r. g.R.Rows.shows r tables chains) (sym w.rows-is) (w.writes_given.ensures.keeps tables chains (c.loop-number.invariant.keeps tables chains h));
        gives = λ tables chains h.
            let wrote : Alike (IsWrite g.R.Rows.told tables) (map (write_given chains x.n) w.in-Some.row_ids.keys) w.in_ok-writes.writes =
            subst (Yields (g.R.Rows.faults c.loop-number.rows) (g.R.Rows.faults w.writes_given.new.rows) (Alike (IsWrite g.R.Rows.told tables) (map (write_given chains x.n) w.in-Some.row_ids.keys))) w.in_ok-writes.was
            (w.writes_given.ensures.gives tables chains (c.loop-number.invariant.keeps tables chains h)) in
            let pushed : w.push.new.self.items ≡ c.loop-number.commits.items ++ w.commit_at-commit.result ∷ [] = search rules in
            let at : w.commit_at-commit.result ≡ record { label = x.by; mem = mem_number g.R.Rows.name x.n; store = store_number g.R.Rows.name x.n; writes = w.in_ok-writes.writes } =
            w.commit_at-commit.ensures ∙ ap (λ m. record { label = x.by; mem = mem_number m x.n; store = store_number m x.n; writes = w.in_ok-writes.writes }) c.engine-name.ensures in
            subst (Alike (IsCommit g.R.Rows.told tables) (commits_given g.R.Rows.name chains (map used (take (c.loop-number.number-index + 1) c.args.numbers.now)))) (sym (ap (λ v. v.items) w.commits-is ∙ pushed))
            (commits_more g.R.Rows.told tables g.R.Rows.name chains c.args.numbers.now c.loop-number.number-index x w.in-Some.row_ids.keys w.in_ok-writes.writes c.loop-number.commits.items w.commit_at-commit.result
            c.loop-number-test.true c.number-item.is (ap (option_map (λ s. s.keys)) w.in-Some.is) at wrote (c.loop-number.invariant.gives tables chains h));
      }
  | in_default w ↦
      let faults : g.R.Rows.faults c.match-number.rows ≡ g.R.Rows.faults c.loop-number.rows = ap g.R.Rows.faults w.rows-is in
      record {
        later = omega (arith, c.loop-number.invariant.later, faults);
        keeps = λ tables chains h. subst (λ r. g.R.Rows.shows r tables chains) (sym w.rows-is) (c.loop-number.invariant.keeps tables chains h);
        gives = λ tables chains h.
            subst (Alike (IsCommit g.R.Rows.told tables) (commits_given g.R.Rows.name chains (map used (take (c.loop-number.number-index + 1) c.args.numbers.now)))) (sym (ap (λ v. v.items) w.commits-is))
            (commits_same g.R.Rows.told tables g.R.Rows.name chains c.args.numbers.now c.loop-number.number-index c.number-item.result c.loop-number.commits.items
            c.loop-number-test.true c.number-item.is (ap (option_map (λ s. s.keys)) w.in_default.is) (c.loop-number.invariant.gives tables chains h));
      }
]
