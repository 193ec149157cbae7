-- The session of this number has spoken.
use Rattle.std.specs.Prelude.{◌-◌, ◌≤◌, ◌++◌, [], ◌∷◌, length}
use Rattle.std.specs.Option.{option_copied}
use Rattle.std.proofs.Common.{refl, sym, subst, arith}
use Rattle.std.proofs.Math.ListN.{set}
use Rattle.sk_run.specs.State.{RunState}
use Rattle.sk_run.specs.Kept.{KeepsOn, RefusesOn}
use Rattle.sk_run.proofs.Lines.{line_by}
use Rattle.sk_run.proofs.Stands.{mem_stands, store_stands}
use Rattle.sk_session.specs.Over.{RestsStill}
use Rattle.sk_run.specs.Over.{OverStay, OneMoreBy, OthersStay, session_at}
use Rattle.sk_run.proofs.Over.{turn_stays}
use Rattle.sk_run.proofs.Spoken.{others_by, one_by, rests_by}
use Rattle.sk_run.proofs.Going.{is_inside, line_keeps}
use Rattle.sk_run.proofs.Refusing.{line_refuses_on}
use Rattle.sk_run.proofs.run.Run.line.Goals as goal

pub invariant_of-run : goal.invariant_of-run
invariant_of-run c = (
  c.self.invariant.0,
  c.self.invariant.1 ++ line_by c.args.session (option_copied c.args.statement, c.in_ok-reply-in-Some.reply) ∷ [],
  c.self.invariant.2,
  line_keeps mem_stands store_stands _ _ c.args.session (c.args.session - 1) (option_copied c.args.statement) c.in-Some.speaker.now c.answer_line.new.speaker c.in_ok-reply-in-Some.reply (omega (arith, c.requires.known.0))
      (is_inside c.args.session (length c.self.inside.sessions.items) c.requires.known.0 (subst (λ (x : RunState). c.args.session ≤ length x.sessions) (sym c.self.view_is) c.requires.known.1))
      c.in-Some.ensures.value refl refl c.in_ok-reply-in-Some.ensures.calls c.in_ok-reply-in-Some.ensures.prints c.in_ok-reply-in-Some.ensures.over c.requires.short c.self.invariant.0 c.self.invariant.1 c.self.invariant.2 c.self.invariant.3,
)

pub returns-clause-kept : goal.returns-clause-kept
returns-clause-kept c =
    let new : RunState = record { catalog = c.self.inside.catalog; sessions = set c.self.inside.sessions.items (c.args.session - 1) c.answer_line.new.speaker; shared = c.answer_line.new.shared } in
    subst (λ (x : RunState). KeepsOn mem_stands store_stands x c.args.session (option_copied c.args.statement) new c.in_ok-reply-in-Some.reply) c.self.view_is
    (line_keeps mem_stands store_stands _ new c.args.session (c.args.session - 1) (option_copied c.args.statement) c.in-Some.speaker.now c.answer_line.new.speaker c.in_ok-reply-in-Some.reply (omega (arith, c.requires.known.0))
    (is_inside c.args.session (length c.self.inside.sessions.items) c.requires.known.0 (subst (λ (x : RunState). c.args.session ≤ length x.sessions) (sym c.self.view_is) c.requires.known.1))
    c.in-Some.ensures.value refl refl c.in_ok-reply-in-Some.ensures.calls c.in_ok-reply-in-Some.ensures.prints c.in_ok-reply-in-Some.ensures.over c.requires.short)

pub returns-clause-refused : goal.returns-clause-refused
returns-clause-refused c =
    let new : RunState = record { catalog = c.self.inside.catalog; sessions = set c.self.inside.sessions.items (c.args.session - 1) c.answer_line.new.speaker; shared = c.answer_line.new.shared } in
    let old : RunState = record { catalog = c.self.inside.catalog; sessions = c.self.inside.sessions.items; shared = c.self.inside.shared } in
    subst (λ (x : RunState). RefusesOn mem_stands store_stands x c.args.session (option_copied c.args.statement) new c.in_ok-reply-in-Some.reply) c.self.view_is
    (line_refuses_on mem_stands store_stands old new c.args.session (c.args.session - 1) (option_copied c.args.statement) c.in-Some.speaker.now c.answer_line.new.speaker c.in_ok-reply-in-Some.reply (omega (arith, c.requires.known.0))
    (is_inside c.args.session (length c.self.inside.sessions.items) c.requires.known.0 (subst (λ (x : RunState). c.args.session ≤ length x.sessions) (sym c.self.view_is) c.requires.known.1))
    c.in-Some.ensures.value refl c.in_ok-reply-in-Some.ensures.refuses)

pub returns-clause-over : goal.returns-clause-over
returns-clause-over c =
    let new : RunState = record { catalog = c.self.inside.catalog; sessions = set c.self.inside.sessions.items (c.args.session - 1) c.answer_line.new.speaker; shared = c.answer_line.new.shared } in
    subst (λ (x : RunState). OverStay x new) c.self.view_is
    (turn_stays _ new (c.args.session - 1) c.in-Some.speaker.now c.answer_line.new.speaker
    (is_inside c.args.session (length c.self.inside.sessions.items) c.requires.known.0 (subst (λ (x : RunState). c.args.session ≤ length x.sessions) (sym c.self.view_is) c.requires.known.1))
    c.in-Some.ensures.value refl c.in_ok-reply-in-Some.ensures.over)

pub returns-clause-others : goal.returns-clause-others
returns-clause-others c =
    let new : RunState = record { catalog = c.self.inside.catalog; sessions = set c.self.inside.sessions.items (c.args.session - 1) c.answer_line.new.speaker; shared = c.answer_line.new.shared } in
    subst (λ (x : RunState). OthersStay x c.args.session new) c.self.view_is
    (others_by (record { catalog = c.self.inside.catalog; sessions = c.self.inside.sessions.items; shared = c.self.inside.shared }) new c.args.session c.in-Some.speaker.now c.answer_line.new.speaker
    (is_inside c.args.session (length c.self.inside.sessions.items) c.requires.known.0 (subst (λ (x : RunState). c.args.session ≤ length x.sessions) (sym c.self.view_is) c.requires.known.1))
    c.in-Some.ensures.value refl c.requires.known.0)

pub returns-clause-one : goal.returns-clause-one
returns-clause-one c =
    let new : RunState = record { catalog = c.self.inside.catalog; sessions = set c.self.inside.sessions.items (c.args.session - 1) c.answer_line.new.speaker; shared = c.answer_line.new.shared } in
    subst (λ (x : RunState). OneMoreBy x c.args.session new) c.self.view_is
    (one_by (record { catalog = c.self.inside.catalog; sessions = c.self.inside.sessions.items; shared = c.self.inside.shared }) new c.args.session c.in-Some.speaker.now c.answer_line.new.speaker
    (is_inside c.args.session (length c.self.inside.sessions.items) c.requires.known.0 (subst (λ (x : RunState). c.args.session ≤ length x.sessions) (sym c.self.view_is) c.requires.known.1))
    c.in-Some.ensures.value refl c.self.invariant.3.over c.in_ok-reply-in-Some.ensures.over)

pub returns-clause-rests : goal.returns-clause-rests
returns-clause-rests c = λ none.
    let new : RunState = record { catalog = c.self.inside.catalog; sessions = set c.self.inside.sessions.items (c.args.session - 1) c.answer_line.new.speaker; shared = c.answer_line.new.shared } in
    subst (λ (x : RunState). RestsStill (session_at x c.args.session) (session_at new c.args.session)) c.self.view_is
    (rests_by (record { catalog = c.self.inside.catalog; sessions = c.self.inside.sessions.items; shared = c.self.inside.shared }) new c.args.session c.in-Some.speaker.now c.answer_line.new.speaker
    (is_inside c.args.session (length c.self.inside.sessions.items) c.requires.known.0 (subst (λ (x : RunState). c.args.session ≤ length x.sessions) (sym c.self.view_is) c.requires.known.1))
    c.in-Some.ensures.value refl (c.in_ok-reply-in-Some.ensures.rests none))
