-- Behind each of a run's flushes a disk shows a prefix of its list.
use Rattle.std.specs.Prelude.{List, [], ◌∷◌, ◌++◌}
use Rattle.std.proofs.Common.{refl, subst, inl}
use Rattle.sk_rows.specs.declared.table.Table.{Table}
use Rattle.sk_model.specs.declared.engine.EngineName.{EngineName}
use Rattle.sk_model.specs.declared.point.Point.{Point}
use Rattle.sk_model.specs.declared.call.Entry.{Entry}
use Rattle.sk_linked.specs.Reads.{order_of}
use Rattle.sk_linked.specs.Traces.{In}
use Rattle.sk_session.specs.Common.{Common}
use Rattle.sk_kept.specs.Sessions.{Player}
use Rattle.sk_kept.specs.Ended.{IsPaused}
use Rattle.sk_recorded.specs.Recorded.{run_now}
use Rattle.sk_recorded.specs.Flushes.{Flush, AllFlush, last_cut}
use Rattle.sk_recorded.proofs.Paused.{shows_behind}
use Rattle.sk_run.specs.Kept.{Beginning}
use Rattle.sk_run.specs.Ended.{ShowPrefixes, CutsAreAmong}

-- the first of some flushes are flushes
front_flushes : (points : List Point) (journals : EngineName → List Entry) (low : Point) (front back : List Flush) → AllFlush points journals low (front ++ back) → AllFlush points journals low front
front_flushes points journals low [] back k = tt
front_flushes points journals low (f ∷ fs) back k = (k.0, front_flushes points journals f.cut fs back k.1)

-- the last cut is a point, where the first is
last_among : (points : List Point) (journals : EngineName → List Entry) (low : Point) (fs : List Flush) → In low points → AllFlush points journals low fs → In (last_cut low fs) points
last_among points journals low [] i k = i
last_among points journals low (f ∷ fs) i k = last_among points journals f.cut fs k.0.cut k.1

pub show_prefixes : (catalog : List Table) (b : Beginning) (points : List Point) (c : Common) (players : List Player) → IsPaused catalog b.rows b.first points c players
    → (fs : List Flush) → AllFlush (b.first ∷ points) c.journals b.first fs → ShowPrefixes catalog b fs (order_of (run_now catalog b.rows b.first points c players))
show_prefixes catalog b points c players paused fs k front back e base m s are owned =
    shows_behind catalog b.rows b.first points c players paused front (front_flushes (b.first ∷ points) c.journals b.first front back (subst (AllFlush (b.first ∷ points) c.journals b.first) e k)) base m s are owned

-- the cut of the last flush, or the first point where there is none
pub cut_among : (b : Beginning) (points : List Point) (journals : EngineName → List Entry) (fs : List Flush) → AllFlush (b.first ∷ points) journals b.first fs → In (last_cut b.first fs) (b.first ∷ points)
cut_among b points journals fs k = last_among (b.first ∷ points) journals b.first fs (inl refl) k

pub cuts_among : (b : Beginning) (points : List Point) (journals : EngineName → List Entry) (fs : List Flush) → AllFlush (b.first ∷ points) journals b.first fs → CutsAreAmong b fs (b.first ∷ points)
cuts_among b points journals fs k front back e =
    cut_among b points journals front (front_flushes (b.first ∷ points) journals b.first front back (subst (AllFlush (b.first ∷ points) journals b.first) e k))
