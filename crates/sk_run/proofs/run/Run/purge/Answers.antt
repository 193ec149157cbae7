-- What both sweeps asked leaves the run.
use Rattle.std.proofs.Common.{refl, subst}
use Rattle.sk_run.specs.State.{RunState}
use Rattle.sk_run.specs.Flushing.{KeepsStill}
use Rattle.sk_run.proofs.Stands.{mem_stands, store_stands}
use Rattle.sk_run.proofs.Drifting.{drifts_on, keeps_still, kept_still}
use Rattle.sk_run.proofs.run.Run.purge.Goals as goal

pub invariant_of-self : goal.invariant_of-self
invariant_of-self c =
    kept_still mem_stands store_stands _ _ (keeps_still mem_stands store_stands _ _ refl refl (drifts_on mem_stands store_stands _ _ _ c.sweep-mem.ensures c.sweep-store.ensures)) c.self.invariant

pub returns : goal.returns
returns c =
    let new : RunState = record { catalog = c.self.inside.catalog; sessions = c.self.inside.sessions.items; shared = c.sweep-store.new.shared } in
    subst (λ (x : RunState). KeepsStill mem_stands store_stands x new) c.self.view_is
    (keeps_still mem_stands store_stands _ new refl refl (drifts_on mem_stands store_stands _ _ _ c.sweep-mem.ensures c.sweep-store.ensures))
