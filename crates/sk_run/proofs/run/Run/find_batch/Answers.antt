-- What the flush asked leaves the run, and what it found is a flush behind the others.
use Rattle.std.proofs.Common.{IfOk, refl, subst}
use Rattle.sk_run.specs.State.{RunState}
use Rattle.sk_run.specs.Flushing.{KeepsStill, FindsBatch}
use Rattle.sk_run.specs.declared.flushing.Found.{Found}
use Rattle.sk_run.proofs.Stands.{mem_stands, store_stands}
use Rattle.sk_run.proofs.Drifting.{keeps_still, kept_still}
use Rattle.sk_run.proofs.Finding.{finds_batch}
use Rattle.sk_run.proofs.run.Run.find_batch.Goals as goal

pub invariant_of-self : goal.invariant_of-self
invariant_of-self c = kept_still mem_stands store_stands _ _ (keeps_still mem_stands store_stands _ _ refl refl c.batch.ensures.drifts) c.self.invariant

pub returns-clause-kept : goal.returns-clause-kept
returns-clause-kept c =
    let new : RunState = record { catalog = c.self.inside.catalog; sessions = c.self.inside.sessions.items; shared = c.batch.new.shared } in
    subst (λ (x : RunState). KeepsStill mem_stands store_stands x new) c.self.view_is (keeps_still mem_stands store_stands _ new refl refl c.batch.ensures.drifts)

pub returns-clause-found : goal.returns-clause-found
returns-clause-found c =
    let new : RunState = record { catalog = c.self.inside.catalog; sessions = c.self.inside.sessions.items; shared = c.batch.new.shared } in
    subst (λ (x : RunState). IfOk c.batch.result (λ (found : Found). FindsBatch mem_stands store_stands x c.args.durable found new)) c.self.view_is
    (finds_batch mem_stands store_stands _ new c.args.durable c.batch.result refl refl c.batch.ensures.found)
