-- An entry of a journal by which an engine told its commits, and the points that are enough to join them.
use Rattle.std.specs.Prelude.{◌≡◌, ℕ, ◌≤◌, List, ◌++◌}
use Rattle.std.specs.List.{AllByRecursion}
use Rattle.sk_model.specs.declared.engine.EngineName.{EngineName}
use Rattle.sk_model.specs.declared.engine.EngineName.TheVariants.{Mem}
use Rattle.sk_model.specs.declared.point.Point.{Point}
use Rattle.sk_model.specs.declared.commit.Commit.{Commit}
use Rattle.sk_model.specs.declared.call.EngineCall.TheVariants as call
use Rattle.sk_model.specs.declared.call.EngineReply.TheVariants.{Commits}
use Rattle.sk_model.specs.declared.call.Entry.{Entry}
use Rattle.sk_weave.specs.Points.{Ascends}
use Rattle.sk_linked.specs.Reads.{number_at}
use Rattle.sk_linked.specs.Traces.{In}
use Rattle.sk_recorded.specs.Joined.{from_number}

-- an engine was asked for its commits past one number and up to another, and answered these
abbrev pub records_entry : ℕ → ℕ → List Commit → Entry
records_entry from to cs = record { call = call.Records from to; reply = Commits cs }

-- Some of the points are enough for the commits past one number and up to another: none before these has a number past the first, and one
-- of these has reached the other, whatever points come later.
pub record AreEnough (name : EngineName) (points used : List Point) (from to : ℕ) : Type 0 where
  pub early : List Point
  pub later : List Point
  pub are : points ≡ early ++ (used ++ later)
  pub before : AllByRecursion (λ (q : Point). number_at name q ≤ from) early
  pub reached : Point
  pub among : In reached used
  pub far : to ≤ number_at name reached

-- Of the points at some moment, those from a cut's number of the memory engine on are enough for the commits past that cut and up to a later one.
abbrev pub PointsFromAreEnough : Type 0
PointsFromAreEnough = (name : EngineName) (now later : List Point) (low high : Point) → Ascends (now ++ later) → In low now → In high now → low.a ≤ high.a
    → AreEnough name (now ++ later) (from_number Mem low.a now) (number_at name low) (number_at name high)
