-- It is placed behind those with its number.
use Rattle.std.specs.Prelude.{◌≡◌, ◌+◌, Some}
use Rattle.std.proofs.Common.{sym, ap, subst, ◌∙◌}
use Rattle.sk_model.specs.declared.commit.Commit.{Commit}
use Rattle.sk_model.specs.Stamped.{number_in}
use Rattle.sk_linked.specs.Traces.{added, placed}
use Rattle.sk_ledger.specs.Ledger.{number_of}
use Rattle.sk_ledger.specs.Numbered.{commit_from, listed, AreNumbered}
use Rattle.sk_ledger.proofs.Placing.{placed_is, numbered_more, numbered_later, own_number}
use Rattle.sk_ledger.proofs.numbering.add.Goals as goal

pub returns-in_ok-insert-clause-numbered : goal.returns-in_ok-insert-clause-numbered
returns-in_ok-insert-clause-numbered c =
    let drew : number_of c.args.name c.args.kept.now ≡ Some c.in-Some.n = sym c.number_of.ensures ∙ c.in-Some.is in
    subst (AreNumbered c.args.name (c.args.time + 1)) (sym c.in_ok-insert.ensures.entries)
    (numbered_more c.args.name c.in-Some.n c.args.time c.in_ok-commit.commit
    (ap (number_in c.args.name) c.in_ok-commit.ensures ∙ own_number c.args.name c.args.puts.now.entries c.args.kept.now c.in-Some.n drew) c.args.numbered.now.entries c.requires)

pub returns-in_ok-insert-clause-listed : goal.returns-in_ok-insert-clause-listed
returns-in_ok-insert-clause-listed c =
    let drew : number_of c.args.name c.args.kept.now ≡ Some c.in-Some.n = sym c.number_of.ensures ∙ c.in-Some.is in
    ap listed c.in_ok-insert.ensures.entries ∙ placed_is c.args.name c.in-Some.n c.args.time c.in_ok-commit.commit c.args.numbered.now.entries c.requires
    ∙ ap (λ (d : Commit). placed c.args.name c.in-Some.n d (listed c.args.numbered.now.entries)) c.in_ok-commit.ensures
    ∙ ap (λ o. added c.args.name o (commit_from c.args.puts.now.entries c.args.kept.now) (listed c.args.numbered.now.entries)) (sym drew)

pub returns-in_default-clause-numbered : goal.returns-in_default-clause-numbered
returns-in_default-clause-numbered c = numbered_later c.args.name c.args.time c.args.numbered.now.entries c.requires
