-- A run that has just begun.
use Rattle.std.specs.Prelude.{◌≡◌, ℕ, List, [], ◌∷◌, map}
use Rattle.sk_rows.specs.declared.table.Table.{Table}
use Rattle.sk_model.specs.declared.engine.EngineName.{EngineName}
use Rattle.sk_model.specs.declared.point.Point.{Point}
use Rattle.sk_session.specs.Starting.{fresh}
use Rattle.sk_session.specs.Common.{Common, IsCommon}
use Rattle.sk_kept.specs.Running.{Differ}
use Rattle.sk_kept.specs.Sessions.{Player, IsRun}

-- a session that has had no transaction
abbrev pub new_player : ℕ → Player
new_player number = record { session = fresh number; talks = [] }

-- no call was made yet, no number was drawn, and there is the first point alone
pub record IsFirst (first : Point) (c : Common) : Type 0 where
  pub common : IsCommon c
  pub journals : (name : EngineName) → c.journals name ≡ []
  pub points : c.regs.points ≡ first ∷ []
  pub mem : c.regs.mem ≡ first.a
  pub store : c.regs.store ≡ first.b

-- What holds at every moment holds at first, of sessions with unlike numbers.
abbrev pub FirstIsRun : Type 0
FirstIsRun = (catalog : List Table) (first : Point) (c : Common) (numbers : List ℕ) → IsFirst first c → Differ numbers → IsRun catalog first [] c (map new_player numbers)
