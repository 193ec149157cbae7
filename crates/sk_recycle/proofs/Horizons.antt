-- A sweep raises the purge horizon no further than asked.
use Rattle.std.specs.Prelude.{◌≡◌, ℕ, ◌≤◌, [], ◌∷◌, ◌*◌, drop, min, max}
use Rattle.std.proofs.Common.{subst, arith}
use Rattle.sk_model.specs.Engine.{EngineTable, Openings}
use Rattle.sk_model.specs.EngineReplies.{least_open, purged_to, horizon_of}
use Rattle.sk_weave.specs.Registry.{oldest_of, first_of}
use Rattle.sk_recycle.specs.Sweeping.{number_at, swept_upto}
use Rattle.sk_recycle.specs.SweepLaws.{IsBounded, SweepIsBounded, StartIsBehind, SweepStaysBehind, swept}

least_upto : (os : Openings) (n : ℕ) → least_open os n ≤ n
least_upto [] n = omega arith
least_upto (o ∷ os) n = let l : least_open os (min n o.1.snapshot) ≤ min n o.1.snapshot = least_upto os (min n o.1.snapshot) in omega arith

purged_upto : (e : EngineTable) (n : ℕ) → purged_to e n ≤ max e.purged n
purged_upto e n = let l : least_open e.openings (min n (horizon_of e)) ≤ min n (horizon_of e) = least_upto e.openings (min n (horizon_of e)) in omega arith

purged_from : (e : EngineTable) (n : ℕ) → e.purged ≤ purged_to e n
purged_from e n = omega arith

pub bounded : SweepIsBounded
bounded e oldest cut =
    let most : purged_to e (swept_upto e.name oldest cut) ≤ max e.purged (swept_upto e.name oldest cut) = purged_upto e (swept_upto e.name oldest cut) in
    record {
      stays = purged_from e (swept_upto e.name oldest cut);
      by_oldest = omega arith;
      by_cut = omega arith;
    }

pub behind_at_start : StartIsBehind
behind_at_start partitions size start name catalog rows =
    let none : 0 ≡ 0 * size = omega arith in
    let same : number_at name start ≤ number_at name start = omega arith in
    subst (λ n. number_at name start ≤ number_at name (first_of (drop n (start ∷ [])))) none same

pub behind_after_sweep : SweepStaysBehind
behind_after_sweep r e cut h =
    let b : IsBounded e (oldest_of r) cut = bounded e (oldest_of r) cut in
    let within : e.purged ≤ number_at e.name (oldest_of r) = h in
    let most : (swept e (oldest_of r) cut).purged ≤ max e.purged (number_at e.name (oldest_of r)) = b.by_oldest in
    let then : (swept e (oldest_of r) cut).purged ≤ number_at e.name (oldest_of r) = omega (arith, within, most) in
    then
