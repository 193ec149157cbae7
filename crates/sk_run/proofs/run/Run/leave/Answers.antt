-- The session of this number has spoken.
use Rattle.std.specs.Prelude.{true, ◌≡◌, ◌⊎◌, ◌-◌, ◌≤◌, ◌++◌, [], ◌∷◌, None, length}
use Rattle.std.proofs.Common.{refl, sym, subst, arith}
use Rattle.std.proofs.Math.ListN.{set}
use Rattle.sk_run.specs.State.{RunState}
use Rattle.sk_run.specs.Kept.{KeepsOn}
use Rattle.sk_run.proofs.Lines.{line_by}
use Rattle.sk_run.proofs.Stands.{mem_stands, store_stands}
use Rattle.sk_session.specs.Over.{RestsStill}
use Rattle.sk_run.specs.Over.{OverStay, OneMoreBy, OthersStay, RestsAt, is_committing, session_at}
use Rattle.sk_run.proofs.Over.{turn_stays}
use Rattle.sk_run.proofs.Spoken.{others_by, one_by, rests_by, left_by}
use Rattle.sk_run.proofs.Going.{is_inside, leave_keeps}
use Rattle.sk_run.proofs.run.Run.leave.Goals as goal

pub invariant_of-run : goal.invariant_of-run
invariant_of-run c = (
  c.self.invariant.0,
  c.self.invariant.1 ++ line_by c.args.session (None, c.in_ok-reply-in-Some.reply) ∷ [],
  c.self.invariant.2,
  leave_keeps mem_stands store_stands _ _ c.args.session (c.args.session - 1) c.in-Some.speaker.now c.leave_with.new.self c.in_ok-reply-in-Some.reply (omega (arith, c.requires.0))
      (is_inside c.args.session (length c.self.inside.sessions.items) c.requires.0 (subst (λ (x : RunState). c.args.session ≤ length x.sessions) (sym c.self.view_is) c.requires.1))
      c.in-Some.ensures.value refl refl c.in_ok-reply-in-Some.ensures.calls c.in_ok-reply-in-Some.ensures.prints c.in_ok-reply-in-Some.ensures.over c.self.invariant.0 c.self.invariant.1 c.self.invariant.2 c.self.invariant.3,
)

pub returns-clause-kept : goal.returns-clause-kept
returns-clause-kept c =
    let new : RunState = record { catalog = c.self.inside.catalog; sessions = set c.self.inside.sessions.items (c.args.session - 1) c.leave_with.new.self; shared = c.leave_with.new.desk } in
    subst (λ (x : RunState). KeepsOn mem_stands store_stands x c.args.session (None) new c.in_ok-reply-in-Some.reply) c.self.view_is
    (leave_keeps mem_stands store_stands _ new c.args.session (c.args.session - 1) c.in-Some.speaker.now c.leave_with.new.self c.in_ok-reply-in-Some.reply (omega (arith, c.requires.0))
    (is_inside c.args.session (length c.self.inside.sessions.items) c.requires.0 (subst (λ (x : RunState). c.args.session ≤ length x.sessions) (sym c.self.view_is) c.requires.1))
    c.in-Some.ensures.value refl refl c.in_ok-reply-in-Some.ensures.calls c.in_ok-reply-in-Some.ensures.prints c.in_ok-reply-in-Some.ensures.over)

pub returns-clause-over : goal.returns-clause-over
returns-clause-over c =
    let new : RunState = record { catalog = c.self.inside.catalog; sessions = set c.self.inside.sessions.items (c.args.session - 1) c.leave_with.new.self; shared = c.leave_with.new.desk } in
    subst (λ (x : RunState). OverStay x new) c.self.view_is
    (turn_stays _ new (c.args.session - 1) c.in-Some.speaker.now c.leave_with.new.self
    (is_inside c.args.session (length c.self.inside.sessions.items) c.requires.0 (subst (λ (x : RunState). c.args.session ≤ length x.sessions) (sym c.self.view_is) c.requires.1))
    c.in-Some.ensures.value refl c.in_ok-reply-in-Some.ensures.over)

pub returns-clause-others : goal.returns-clause-others
returns-clause-others c =
    let new : RunState = record { catalog = c.self.inside.catalog; sessions = set c.self.inside.sessions.items (c.args.session - 1) c.leave_with.new.self; shared = c.leave_with.new.desk } in
    subst (λ (x : RunState). OthersStay x c.args.session new) c.self.view_is
    (others_by (record { catalog = c.self.inside.catalog; sessions = c.self.inside.sessions.items; shared = c.self.inside.shared }) new c.args.session c.in-Some.speaker.now c.leave_with.new.self
    (is_inside c.args.session (length c.self.inside.sessions.items) c.requires.0 (subst (λ (x : RunState). c.args.session ≤ length x.sessions) (sym c.self.view_is) c.requires.1))
    c.in-Some.ensures.value refl c.requires.0)

pub returns-clause-one : goal.returns-clause-one
returns-clause-one c =
    let new : RunState = record { catalog = c.self.inside.catalog; sessions = set c.self.inside.sessions.items (c.args.session - 1) c.leave_with.new.self; shared = c.leave_with.new.desk } in
    subst (λ (x : RunState). OneMoreBy x c.args.session new) c.self.view_is
    (one_by (record { catalog = c.self.inside.catalog; sessions = c.self.inside.sessions.items; shared = c.self.inside.shared }) new c.args.session c.in-Some.speaker.now c.leave_with.new.self
    (is_inside c.args.session (length c.self.inside.sessions.items) c.requires.0 (subst (λ (x : RunState). c.args.session ≤ length x.sessions) (sym c.self.view_is) c.requires.1))
    c.in-Some.ensures.value refl c.self.invariant.3.over c.in_ok-reply-in-Some.ensures.over)

pub returns-clause-rests : goal.returns-clause-rests
returns-clause-rests c =
    let new : RunState = record { catalog = c.self.inside.catalog; sessions = set c.self.inside.sessions.items (c.args.session - 1) c.leave_with.new.self; shared = c.leave_with.new.desk } in
    subst (λ (x : RunState). RestsStill (session_at x c.args.session) (session_at new c.args.session)) c.self.view_is
    (rests_by (record { catalog = c.self.inside.catalog; sessions = c.self.inside.sessions.items; shared = c.self.inside.shared }) new c.args.session c.in-Some.speaker.now c.leave_with.new.self
    (is_inside c.args.session (length c.self.inside.sessions.items) c.requires.0 (subst (λ (x : RunState). c.args.session ≤ length x.sessions) (sym c.self.view_is) c.requires.1))
    c.in-Some.ensures.value refl c.in_ok-reply-in-Some.ensures.rests)

pub returns-clause-left : goal.returns-clause-left
returns-clause-left c =
    let new : RunState = record { catalog = c.self.inside.catalog; sessions = set c.self.inside.sessions.items (c.args.session - 1) c.leave_with.new.self; shared = c.leave_with.new.desk } in
    subst (λ (x : RunState). RestsAt new c.args.session ⊎ (is_committing c.in_ok-reply-in-Some.reply ≡ true)) c.self.view_is
    (left_by (record { catalog = c.self.inside.catalog; sessions = c.self.inside.sessions.items; shared = c.self.inside.shared }) new c.args.session c.in-Some.speaker.now c.leave_with.new.self
    (is_inside c.args.session (length c.self.inside.sessions.items) c.requires.0 (subst (λ (x : RunState). c.args.session ≤ length x.sessions) (sym c.self.view_is) c.requires.1))
    c.in-Some.ensures.value refl c.in_ok-reply-in-Some.reply c.in_ok-reply-in-Some.ensures.stands)
