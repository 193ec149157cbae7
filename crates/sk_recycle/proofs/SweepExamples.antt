-- Worked examples of sweeps.
use Rattle.std.specs.Prelude.{◌≡◌, [], ◌∷◌, None}
use Rattle.std.proofs.Common.{refl}
use Rattle.sk_model.specs.declared.label.Label.{Label}
use Rattle.sk_model.specs.declared.engine.EngineName.TheVariants.{Mem, Store}
use Rattle.sk_model.specs.Engine.{EngineTable, engine_at, Openings}
use Rattle.sk_weave.specs.Points.{selection}
use Rattle.sk_recycle.specs.Sweeping.{swept_upto}
use Rattle.sk_recycle.specs.SweepLaws.{swept}

-- the oldest live point is (4, 0), the cut (3, 0): the memory engine is swept up to 3, the storage engine up to 0
in_memory : swept_upto Mem (selection 4 0) (selection 3 0) ≡ 3
in_memory = refl

in_storage : swept_upto Store (selection 4 0) (selection 3 0) ≡ 0
in_storage = refl

abbrev by : Label
by = record { session = 1; k = 1 }

-- the memory engine with horizon 4
abbrev at_four : Openings → EngineTable
at_four os = record (engine_at Mem [] [] 0) { stamped = (1, by) ∷ (2, by) ∷ (3, by) ∷ (4, by) ∷ []; openings = os }

-- with nothing open it is purged to 3, and with a snapshot open at 2 to 2
purged_by_the_cut : (swept (at_four []) (selection 4 0) (selection 3 0)).purged ≡ 3
purged_by_the_cut = refl

purged_by_a_snapshot : (swept (at_four ((by, record { snapshot = 2; floor = None }) ∷ [])) (selection 4 0) (selection 3 0)).purged ≡ 2
purged_by_a_snapshot = refl
