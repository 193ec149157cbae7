-- The last record that is left comes next.
use Rattle.std.specs.Prelude.{◌≡◌, ◌+◌, ◌-◌, take, length}
use Rattle.std.proofs.Common.{rules, arith, subst, ◌∙◌, length-take}
use Rattle.sk_ledger.specs.Numbered.{AreNumbered, listed}
use Rattle.sk_ledger.proofs.Placing.{onto_last}
use Rattle.sk_ledger.proofs.numbering.numbered.Goals as goal

pub loop-left-preserved : goal.loop-left-preserved
loop-left-preserved c =
    let left = c.loop-left.left.now in
    let now : length c.args.records.now - length left + 1 ≡ length c.args.records.now - length (take (length left - 1) left) = simp length-take (omega arith) in
    record {
      all = onto_last c.args.puts.now.entries c.args.name left c.kept-item.result (listed c.loop-left.numbered.entries) (listed c.add.new.numbered.entries) (omega arith) (search rules) c.in_ok-add.ensures.listed ∙ c.loop-left.invariant.all;
      numbered = subst (λ time. AreNumbered c.args.name time c.add.new.numbered.entries) now c.in_ok-add.ensures.numbered;
      within = search rules;
    }
