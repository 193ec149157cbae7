-- The room for points changes nothing, and the cut is at the horizons that were answered.
use Rattle.std.proofs.Common.{subst}
use Rattle.sk_shared.specs.declared.shared.Shared.{Shared}
use Rattle.sk_run.specs.Flushing.{FindsPoint}
use Rattle.sk_run.specs.Reaching.{IsCut}
use Rattle.sk_run.proofs.Stands.{mem_stands, store_stands}
use Rattle.sk_run.proofs.Drifting.{drifts_equal, drifts_on, cut_drifts}
use Rattle.sk_run.proofs.Finding.{finds_point}
use Rattle.sk_run.proofs.Reaching.{finds_cut}
use Rattle.sk_run.proofs.flushing.find_cut.Goals as goal

pub returns-in_err-make_room-clause-drifts : goal.returns-in_err-make_room-clause-drifts
returns-in_err-make_room-clause-drifts c = drifts_equal mem_stands store_stands c.args.shared.now c.make_room.new.self c.make_room.ensures

pub returns-in_err-y-clause-drifts : goal.returns-in_err-y-clause-drifts
returns-in_err-y-clause-drifts c =
    drifts_on mem_stands store_stands c.args.shared.now c.make_room.new.self c.horizon-2.new.shared (drifts_equal mem_stands store_stands c.args.shared.now c.make_room.new.self c.make_room.ensures)
    (drifts_on mem_stands store_stands c.make_room.new.self c.horizon.new.shared c.horizon-2.new.shared c.horizon.ensures.drifts c.horizon-2.ensures.drifts)

pub returns-in-Ok-clause-drifts : goal.returns-in-Ok-clause-drifts
returns-in-Ok-clause-drifts c =
    drifts_on mem_stands store_stands c.args.shared.now c.make_room.new.self c.cut.new.self (drifts_equal mem_stands store_stands c.args.shared.now c.make_room.new.self c.make_room.ensures)
    (cut_drifts mem_stands store_stands c.make_room.new.self c.horizon.new.shared c.horizon-2.new.shared c.cut.new.self c.in_ok-x.x c.in_ok-y.y c.cut.result c.in_ok-x.ensures.gives c.in_ok-y.ensures.gives c.cut.ensures)

pub returns-in-Err-clause-drifts : goal.returns-in-Err-clause-drifts
returns-in-Err-clause-drifts c =
    drifts_on mem_stands store_stands c.args.shared.now c.make_room.new.self c.cut.new.self (drifts_equal mem_stands store_stands c.args.shared.now c.make_room.new.self c.make_room.ensures)
    (cut_drifts mem_stands store_stands c.make_room.new.self c.horizon.new.shared c.horizon-2.new.shared c.cut.new.self c.in_ok-x.x c.in_ok-y.y c.cut.result c.in_ok-x.ensures.gives c.in_ok-y.ensures.gives c.cut.ensures)

pub returns-in-Ok-clause-point : goal.returns-in-Ok-clause-point
returns-in-Ok-clause-point c =
    subst (λ (x : Shared). FindsPoint mem_stands store_stands x c.in-Ok.found.cut c.cut.new.self) c.make_room.ensures
    (finds_point mem_stands store_stands c.make_room.new.self c.horizon.new.shared c.horizon-2.new.shared c.cut.new.self c.in_ok-x.x c.in_ok-y.y c.cut.result c.in-Ok.found c.in-Ok.is c.in_ok-x.ensures.gives c.in_ok-y.ensures.gives c.cut.ensures)

pub returns-in-Ok-clause-reaches : goal.returns-in-Ok-clause-reaches
returns-in-Ok-clause-reaches c =
    subst (λ (x : Shared). IsCut mem_stands store_stands x c.in-Ok.found.cut) c.make_room.ensures
    (finds_cut mem_stands store_stands c.make_room.new.self c.horizon.new.shared c.horizon-2.new.shared c.cut.new.self c.in_ok-x.x c.in_ok-y.y c.cut.result c.in-Ok.found c.in-Ok.is c.in_ok-x.ensures.gives c.in_ok-y.ensures.gives c.cut.ensures)
