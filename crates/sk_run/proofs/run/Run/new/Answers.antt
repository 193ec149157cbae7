-- No session has had a transaction.
use Rattle.std.proofs.Common.{[], sym, ap, subst, ◌∙◌}
use Rattle.std.proofs.lemmas.List.FromFn.{length-map-range_with_len}
use Rattle.std.specs.Prelude.{length}
use Rattle.sk_session.specs.Starting.{fresh}
use Rattle.sk_rows.specs.Catalog.{IsCatalog}
use Rattle.sk_run.specs.Told.{AreRefused}
use Rattle.sk_run.proofs.Beginning.{kept_first}
use Rattle.sk_run.proofs.Over.{none_over}
use Rattle.sk_run.proofs.Refusing.{none_refused}
use Rattle.sk_run.proofs.run.Run.new.Goals as goal

pub returns-clause-kept : goal.returns-clause-kept
returns-clause-kept c =
    kept_first _ _ c.args.rows.now c.args.partitions c.args.size c.args.sessions c.args.start _ c.ranges.sessions.fits (subst IsCatalog c.catalog.view_is c.catalog.invariant) c.requires.rows c.in_ok-shared.ensures c.in_ok-sessions.ensures

pub invariant_of-result : goal.invariant_of-result
invariant_of-result c = (record { rows = c.args.rows.now; first = c.args.start }, [], [], returns-clause-kept c)

pub returns-clause-sessions : goal.returns-clause-sessions
returns-clause-sessions c = ap length c.in_ok-sessions.ensures ∙ length-map-range_with_len fresh 1 c.args.sessions

pub returns-clause-refused : goal.returns-clause-refused
returns-clause-refused c = subst (AreRefused c.args.catalog 1 []) (sym c.in_ok-sessions.ensures) (none_refused c.args.catalog 1 c.args.sessions)

pub returns-clause-over : goal.returns-clause-over
returns-clause-over c = none_over _ _ c.in_ok-sessions.ensures
