use Rattle.std.proofs.Common.{◌≡◌, ◌≤◌, ◌∙◌, ◌-◌, ◌*◌, ℕ, List, ◌∷◌, replicate, set, zero, suc, refl, ap, arith}
use Rattle.sk_weave.specs.Points.{word_of}
use Rattle.sk_clock.specs.declared.view.Start.{Start}
use Rattle.sk_clock.proofs.Ring.{some_cap}
use Rattle.sk_clock.proofs.Splits.{opens}
use Rattle.sk_clock.proofs.pass.Clock.new.Goals as goal

first_set : (n w : ℕ) → ¬ (n ≡ 0) → w ∷ replicate (n - 1) 0 ≡ set (replicate n 0) 0 w
first_set zero w h = absurd (h refl)
first_set (suc n) w h = ap (λ (m : ℕ). w ∷ replicate m 0) (let e : suc n - 1 ≡ n = omega arith in e)

pub of_words-requires : goal.of_words-requires
of_words-requires c =
    let start : Start = record { partitions = c.args.partitions; size = c.args.points; point = c.args.start } in
    let end = c.loop-test.false in
    let top = c.loop.auto.counter-end in
    let some = some_cap start c.requires in
    let n : ℕ = c.args.partitions * c.args.points in
    let at_most = top (let l : 1 ≤ n = omega arith in l) in
    let all : c.loop.counter ≡ n = omega arith in
    let w : ℕ = word_of c.args.start in
    opens start c.as_slice.result.now (c.as_slice.ensures.value ∙ (c.loop.invariant.items
    ∙ (ap (λ (k : ℕ). c.args.start.a ∷ c.args.start.b ∷ 0 ∷ w ∷ replicate (k - 1) 0) all
    ∙ ap (λ (l : List ℕ). c.args.start.a ∷ c.args.start.b ∷ 0 ∷ l) (first_set n w (λ e. absurd (omega arith))))))
