-- The registry of a run, together with all points of the run.
use Rattle.std.specs.Prelude.{◌≡◌, ℕ, ◌≤◌, List, false}
use Rattle.sk_model.specs.declared.point.Point.{Point}
use Rattle.sk_weave.specs.declared.answer.CutFound.{CutFound}
use Rattle.sk_weave.specs.Registry.{Regs, after_cut, cut_found, oldest_of}
use Rattle.sk_points.specs.declared.points.Points.{Points}
use Rattle.sk_points.specs.Stands.{StandsFor}
use Rattle.sk_commit.specs.declared.asking.RegistryCall.{RegistryCall}
use Rattle.sk_commit.specs.declared.asking.RegistryReply.{RegistryReply}
use Rattle.sk_commit.specs.declared.asking.Got.TheVariants.{Reg}
use Rattle.sk_commit.specs.Fits.{RegFits}
use Rattle.sk_session.specs.Conversing.{is_early}
use Rattle.sk_session.specs.Common.{RegAnswers}

-- the registry, and every point of the run, those that were recycled too
pub record Logged : Type 0 where
  pub points : Points
  pub all : List Point

-- it stands for this state, and has all its points
pub record Logs (x : Logged) (r : Regs) : Type 0 where
  pub stands : StandsFor x.points r
  pub all : x.all ≡ r.points

-- it stands for some state
abbrev pub IsLogged : Logged → Type 0
IsLogged x = (r : Regs) × Logs x r

-- for each state that it stood for: the call has this reply, and it stands for what that leaves
abbrev pub Registered : Logged → RegistryCall → RegistryReply → Logged → Type 0
Registered old asked reply new = (r : Regs) → Logs old r → (s : Regs) × RegAnswers r asked reply s × Logs new s

-- the reply is of the kind that was asked for and not too early, and has its rule
pub record Told (old : Logged) (asked : RegistryCall) (reply : RegistryReply) (new : Logged) : Type 0 where
  pub fits : RegFits asked reply
  pub not_early : is_early (Reg reply) ≡ false
  pub registered : Registered old asked reply new

-- for each state that it stood for: both horizons were drawn, this is the cut there, and it stands for what that leaves
abbrev pub CutsLog : Logged → ℕ → ℕ → CutFound → Logged → Type 0
CutsLog old x y found new = (r : Regs) → Logs old r → (x ≤ r.mem) × (y ≤ r.store) × (found ≡ cut_found r x y r.store) × Logs new (after_cut r x y r.store)

-- each state that it stood for
abbrev pub LogsSame : Logged → Logged → Type 0
LogsSame old new = (r : Regs) → Logs old r → Logs new r

-- for each state that it stood for: this is its oldest live point, and it stands for that state
abbrev pub ShowsOldest : Logged → Point → Logged → Type 0
ShowsOldest old q new = (r : Regs) → Logs old r → (q ≡ oldest_of r) × Logs new r
