use Rattle.std.proofs.Common.{◌≡◌, ◌+◌, [], ◌∷◌, ◌++◌, length, refl, ap, ◌∙◌, arith}
use Rattle.std.proofs.lemmas.List.{length-append}
use Rattle.sk_points.specs.Parts.{RingPart, with_point}
use Rattle.sk_points.proofs.Settled.{start_stands, each_spare}
use Rattle.sk_points.proofs.points.Points.new.Goals as goal

pub loop-init : goal.loop-init
loop-init c =
    let first = c.in_ok-first.ensures in
    let part = c.push.ensures ∙ ap (λ (p : RingPart). with_point p c.args.start) first in
    ([], c.in_ok-push.ensures.items ∙ ap (λ xs. xs ++ c.push.new.self ∷ []) c.new-parts.ensures.items ∙ ap (λ p. p ∷ []) part, omega arith, tt)

-- One more empty partition behind the others.
pub loop-preserved : goal.loop-preserved
loop-preserved c =
    let i = c.loop.invariant in
    let e = c.in_ok-new.ensures in (
      i.0 ++ c.in_ok-new.field-0 ∷ [],
      c.in_ok-push-2.ensures.items ∙ ap (λ xs. xs ++ c.in_ok-new.field-0 ∷ []) i.1,
      let n : length (i.0 ++ c.in_ok-new.field-0 ∷ []) ≡ length i.0 + 1 = length-append i.0 (c.in_ok-new.field-0 ∷ []) in omega (arith, i.2),
      each_spare c.args.points i.0 c.in_ok-new.field-0 i.3 (ap (λ (p : RingPart). p.size) e, ap (λ (p : RingPart). p.points) e),
    )

pub returns : goal.returns
returns c =
    let i = c.loop.invariant in
    start_stands _ c.args.partitions c.args.points c.args.start i.0 c.requires refl refl refl refl i.1 (omega (arith, i.2, c.loop-test.false, c.loop.auto.counter-end, c.requires.partitions.0)) i.3
