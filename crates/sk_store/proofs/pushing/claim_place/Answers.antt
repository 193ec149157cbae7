use Rattle.std.proofs.Common.{ap, ◌∙◌}
use Rattle.sk_undo.specs.Log.{Log, record_at}
use Rattle.sk_undo.proofs.Frees.{claimed_free, put_reads}
use Rattle.sk_undo.proofs.Seen.{claiming}
use Rattle.sk_store.proofs.pushing.claim_place.Goals as goal

pub returns-then-may_name-clause-seen : goal.returns-then-may_name-clause-seen
returns-then-may_name-clause-seen c = λ from s. claiming c.args.undo.now c.claim.new.self c.in-Ok.at from s c.in-Ok.ensures.ok

pub returns-then-may_name-clause-same : goal.returns-then-may_name-clause-same
returns-then-may_name-clause-same c = λ q. let h = c.in-Ok.ensures.ok in ap (λ (l : Log). record_at l q) h.2 ∙ put_reads c.args.undo.now c.in-Ok.at h.0 h.1 q

pub returns-then-may_name-clause-ok : goal.returns-then-may_name-clause-ok
returns-then-may_name-clause-ok c = (c.may_name.ensures.whole, claimed_free c.args.undo.now c.claim.new.self c.in-Ok.at c.in-Ok.ensures.ok, c.may_name.ensures.may.0 c.if-may_name.true)

pub returns-else-may_name-clause-seen : goal.returns-else-may_name-clause-seen
returns-else-may_name-clause-seen c = λ from s. claiming c.args.undo.now c.claim.new.self c.in-Ok.at from s c.in-Ok.ensures.ok

pub returns-else-may_name-clause-same : goal.returns-else-may_name-clause-same
returns-else-may_name-clause-same c = λ q. let h = c.in-Ok.ensures.ok in ap (λ (l : Log). record_at l q) h.2 ∙ put_reads c.args.undo.now c.in-Ok.at h.0 h.1 q
