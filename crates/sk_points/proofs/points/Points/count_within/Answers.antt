use Rattle.std.proofs.Common.{ℕ, ◌≡◌, ◌+◌, ◌-◌, ◌/◌, true, false, ap, sym, ◌∙◌, arith}
use Rattle.sk_model.specs.declared.point.Point.{Point}
use Rattle.sk_weave.specs.Registry.{is_within}
use Rattle.sk_points.specs.Parts.{points_in}
use Rattle.sk_points.proofs.Searching.{run_past, run_upto, run_is_short}
use Rattle.sk_points.proofs.Picking.{live_ascends}
use Rattle.sk_points.proofs.points.Points.count_within.Goals as goal

pub loop-low-init : goal.loop-low-init
loop-low-init c = record {
  low = omega arith;
  high = let l = run_is_short c.args.x c.args.y (points_in c.args.self.now.parts.items) in omega (arith, l, c.len-high.ensures);
  within = omega (arith, c.len-high.ensures);
}

-- The point in the middle is in the run, so the run ends behind it.
pub loop-low-preserved-then-is_within : goal.loop-low-preserved-then-is_within
loop-low-preserved-then-is_within c =
    let middle : ℕ = c.loop-low.low + (c.loop-low.high - c.loop-low.low) / 2 in
    let live = points_in c.args.self.now.parts.items in
    let t = c.loop-low-test.true in
    let w = c.loop-low.invariant.within in
    let here : is_within c.args.x c.args.y c.point.result ≡ true = sym c.is_within.ensures ∙ c.if-is_within.true in
    let l = run_past c.args.x c.args.y live middle c.point.result (live_ascends c.args.self.now c.requires.0 c.requires.1) (omega (arith, t, w)) (ap (λ (q : Point). is_within c.args.x c.args.y q) (sym c.point.ensures) ∙ here) in
    record { low = omega (arith, l); high = c.loop-low.invariant.high; within = w }

-- It is not, so the run ends at it or before.
pub loop-low-preserved : goal.loop-low-preserved
loop-low-preserved c =
    let middle : ℕ = c.loop-low.low + (c.loop-low.high - c.loop-low.low) / 2 in
    let live = points_in c.args.self.now.parts.items in
    let t = c.loop-low-test.true in
    let w = c.loop-low.invariant.within in
    let here : is_within c.args.x c.args.y c.point.result ≡ false = sym c.is_within.ensures ∙ c.if-is_within.false in
    let l = run_upto c.args.x c.args.y live middle c.point.result (omega (arith, t, w)) (ap (λ (q : Point). is_within c.args.x c.args.y q) (sym c.point.ensures) ∙ here) in
    record { low = c.loop-low.invariant.low; high = l; within = omega (arith, t, w) }
