-- The last record of the session, where it has committed.
use Rattle.std.specs.Prelude.{◌≡◌, ◌-◌, ◌≤◌, IfSome, length}
use Rattle.std.proofs.Common.{refl, sym, ap, subst, ◌∙◌}
use Rattle.std.proofs.Math.ListN.{get_or}
use Rattle.std.proofs.lemmas.Option.{slice_get_read}
use Rattle.sk_model.specs.declared.record.Ending.TheVariants as ending
use Rattle.sk_run.specs.State.{RunState}
use Rattle.sk_run.specs.Over.{IsOver, IsNewest, last_in}
use Rattle.sk_run.proofs.Over.{last_over}
use Rattle.sk_run.proofs.Labels.{last_newest}
use Rattle.sk_run.proofs.Stands.{mem_stands, store_stands}
use Rattle.sk_run.proofs.Going.{is_inside}
use Rattle.sk_run.proofs.run.Run.last_record.Goals as goal

pub returns-in-Some-clause-over : goal.returns-in-Some-clause-over
returns-in-Some-clause-over c =
    subst (λ (x : RunState). IfSome c.last.result (λ r. r.now.ending ≡ ending.Committed → IsOver x r.now)) c.self.view_is
    (last_over _ c.in-Some.speaker.now (c.args.session - 1) c.last.result c.self.invariant.3.over
    (slice_get_read c.self.inside.sessions.items (length c.self.inside.sessions.items) (c.args.session - 1) c.in-Some.speaker.now refl
    (is_inside c.args.session (length c.self.inside.sessions.items) c.requires.0 (subst (λ (x : RunState). c.args.session ≤ length x.sessions) (sym c.self.view_is) c.requires.1))
    (c.in-Some.ensures.lookup.1 ∙ ap (λ xs. get_or xs (c.args.session - 1) c.in-Some.speaker.now) c.deref.ensures.value))
    (c.last.ensures.value ∙ ap last_in (c.as_slice.ensures ∙ c.records.ensures)))

pub returns-in-Some-clause-newest : goal.returns-in-Some-clause-newest
returns-in-Some-clause-newest c =
    subst (λ (x : RunState). IfSome c.last.result (λ r. r.now.ending ≡ ending.Committed → IsNewest x c.args.session r.now)) c.self.view_is
    (last_newest mem_stands store_stands _ c.args.session c.in-Some.speaker.now c.last.result c.self.invariant c.requires.0
    (slice_get_read c.self.inside.sessions.items (length c.self.inside.sessions.items) (c.args.session - 1) c.in-Some.speaker.now refl
    (is_inside c.args.session (length c.self.inside.sessions.items) c.requires.0 (subst (λ (x : RunState). c.args.session ≤ length x.sessions) (sym c.self.view_is) c.requires.1))
    (c.in-Some.ensures.lookup.1 ∙ ap (λ xs. get_or xs (c.args.session - 1) c.in-Some.speaker.now) c.deref.ensures.value))
    (c.last.ensures.value ∙ ap last_in (c.as_slice.ensures ∙ c.records.ensures)))
