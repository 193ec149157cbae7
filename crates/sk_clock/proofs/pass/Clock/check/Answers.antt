use Rattle.std.proofs.Common.{◌≡◌, inl, inr, ◌∙◌, ◌++◌, Bool, cond, ap, subst, arith}
use Rattle.std.specs.Prelude.{Ok, Err}
use Rattle.sk_model.specs.declared.point.Point.{Point}
use Rattle.sk_weave.specs.Points.{point_at, commit_point}
use Rattle.sk_weave.specs.Registry.{checked}
use Rattle.sk_weave.specs.declared.event.Event.TheVariants.{Append}
use Rattle.sk_weave.proofs.Staircase.{check_follows}
use Rattle.sk_clock.specs.Kept.{cells, now}
use Rattle.sk_clock.specs.Walks.{Appends, LooksPast}
use Rattle.sk_clock.proofs.Makings.{answers, makes, looks-none, looks_then}
use Rattle.sk_clock.proofs.Clocks.{shaped_of}
use Rattle.sk_clock.proofs.Finds.{word_there, last_is, nearer}
use Rattle.sk_clock.proofs.Checking.{passed, refused, held_there}
use Rattle.sk_clock.proofs.pass.Clock.check.Goals as goal
use Rattle.sk_clock.proofs.pass.Clock.check.Goals.{then-last-ca-via-then-last-ca, then-last-ca-via-else-last-ca+then-last-cb}

pub loop-found-init : goal.loop-found-init
loop-found-init c = record { of = c.requires.of; looks = looks-none c.args.pass.now.view }

pub unpack-last-requires : goal.unpack-last-requires
unpack-last-requires c = let o = c.last-found.ensures in word_there _ _ _ _ _ _ (shaped_of c.args.self.now c.last-found.new.pass o.0) o.1

pub returns-then-last-ca-clause-answer : goal.returns-then-last-ca-clause-answer
returns-then-last-ca-clause-answer c =
    let o = c.last-found.ensures in
    let f = o.1 in
    let w = c.last-found.new.pass.view in
    answers c.args.pass.now.view f.place w (λ r. Err (record { point = c.unpack-last.result }) ≡ checked r c.args.ca c.args.cb) (looks_then _ _ _ c.loop-found.invariant.looks f.before) f.later f.all_seen
    (refused (now f.place) c.unpack-last.result c.args.ca c.args.cb (c.unpack-last.ensures ∙ last_is _ w _ _ _ _ (shaped_of c.args.self.now c.last-found.new.pass o.0) f)
    (elim c.then-last-ca.branch [ then-last-ca-via-then-last-ca z ↦ inl z.if-last-ca.true | then-last-ca-via-else-last-ca+then-last-cb z ↦ inr z.if-last-cb.true ]))

pub append-requires-clause-found : goal.append-requires-clause-found
append-requires-clause-found c = (c.loop-found.pass.view, c.last-found.ensures.1)

pub append-requires-clause-small : goal.append-requires-clause-small
append-requires-clause-small c = let o = c.last-found.ensures in let f = o.1 in
    (held_there c.args.pass.now.view c.last-found.new.pass.view c.args.ca c.args.cb (shaped_of c.args.self.now c.last-found.new.pass o.0) (looks_then _ _ _ c.loop-found.invariant.looks (looks_then _ _ _ f.before f.later)) f.legal f.all_seen c.requires.drawn).0

pub append-requires-clause-follows : goal.append-requires-clause-follows
append-requires-clause-follows c =
    let la = ap (λ (p : Point). p.a) c.unpack-last.ensures in
    let lb = ap (λ (p : Point). p.b) c.unpack-last.ensures in
    let a = c.if-last-ca.false in
    let b = c.if-last-cb.false in
    check_follows (point_at c.last-found.result.word) c.args.ca c.args.cb (omega arith) (omega arith)

pub append-requires-clause-drawn : goal.append-requires-clause-drawn
append-requires-clause-drawn c = let o = c.last-found.ensures in let f = o.1 in
    (held_there c.args.pass.now.view c.last-found.new.pass.view c.args.ca c.args.cb (shaped_of c.args.self.now c.last-found.new.pass o.0) (looks_then _ _ _ c.loop-found.invariant.looks (looks_then _ _ _ f.before f.later)) f.legal f.all_seen c.requires.drawn).1

pub append-requires-clause-held : goal.append-requires-clause-held
append-requires-clause-held c = let o = c.last-found.ensures in let f = o.1 in
    (held_there c.args.pass.now.view c.last-found.new.pass.view c.args.ca c.args.cb (shaped_of c.args.self.now c.last-found.new.pass o.0) (looks_then _ _ _ c.loop-found.invariant.looks (looks_then _ _ _ f.before f.later)) f.legal f.all_seen c.requires.drawn).2

pub returns-then-append-clause-answer : goal.returns-then-append-clause-answer
returns-then-append-clause-answer c =
    let f = c.last-found.ensures.1 in
    let w = c.last-found.new.pass.view in
    let x = c.append.new.pass.view in
    let p : Point = commit_point c.args.ca c.args.cb in
    let last : Point = point_at c.last-found.result.word in
    let la = ap (λ (q : Point). q.a) c.unpack-last.ensures in
    let lb = ap (λ (q : Point). q.b) c.unpack-last.ensures in
    let a = c.if-last-ca.false in
    let b = c.if-last-cb.false in
    let h : Appends w c.last-found.result.at p last x = subst (λ (t : Bool). cond t (Appends w c.last-found.result.at p last x) (LooksPast w c.last-found.result.low c.last-found.result.at x)) c.if-append.true c.append.ensures.made in
    makes c.args.pass.now.view w x (λ r. Ok tt ≡ checked r c.args.ca c.args.cb) (Append p) (looks_then _ _ _ c.loop-found.invariant.looks (looks_then _ _ _ f.before f.later)) h.extends (passed (cells w (w.seen ++ h.extends.between)).regs last c.args.ca c.args.cb h.last_is (omega arith) (omega arith))

pub loop-found-smaller : goal.loop-found-smaller
loop-found-smaller c =
    let f = c.last-found.ensures.1 in
    let w = c.last-found.new.pass.view in
    let y = c.append.new.pass in
    let p : Point = commit_point c.args.ca c.args.cb in
    let last : Point = point_at c.last-found.result.word in
    let h : LooksPast w c.last-found.result.low c.last-found.result.at y.view = subst (λ (t : Bool). cond t (Appends w c.last-found.result.at p last y.view) (LooksPast w c.last-found.result.low c.last-found.result.at y.view)) c.if-append.false c.append.ensures.made in
    nearer c.loop-found.pass.view w y.view _ _ _ _ (shaped_of c.args.self.now y c.append.ensures.of) f h

pub loop-found-preserved : goal.loop-found-preserved
loop-found-preserved c =
    let f = c.last-found.ensures.1 in
    let w = c.last-found.new.pass.view in
    let y = c.append.new.pass.view in
    let p : Point = commit_point c.args.ca c.args.cb in
    let last : Point = point_at c.last-found.result.word in
    let h : LooksPast w c.last-found.result.low c.last-found.result.at y = subst (λ (t : Bool). cond t (Appends w c.last-found.result.at p last y) (LooksPast w c.last-found.result.low c.last-found.result.at y)) c.if-append.false c.append.ensures.made in
    record { of = c.append.ensures.of; looks = looks_then _ _ _ c.loop-found.invariant.looks (looks_then _ _ _ (looks_then _ _ _ f.before f.later) h.looks) }
