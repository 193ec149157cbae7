-- A cut that made a point has it behind the others.
use Rattle.std.proofs.Common.{◌≤◌, ◌≡◌, [], ◌∷◌, ◌++◌, List, cond, sym, ap, subst, ◌∙◌, append-nil, arith}
use Rattle.sk_model.specs.declared.point.Point.{Point}
use Rattle.sk_weave.specs.Points.{selection}
use Rattle.sk_shared.specs.Logged.{Logged, CutsLog}
use Rattle.sk_shared.proofs.Logging.{log, cuts}
use Rattle.sk_shared.proofs.point_log.PointLog.cut.Goals as goal

pub returns-then-found-clause-found : goal.returns-then-found-clause-found
returns-then-found-clause-found c =
    let first : c.args.x ≤ c.begin-mem.result = omega (arith, c.if-x-mem.false) in
    let second : c.args.y ≤ c.store_now-store.result = omega (arith, c.if-y-store.false) in
    let more : c.push_reserved.new.self.items ≡ c.self.inside.all.items ++ cond c.cut-found.result.made (selection c.args.x c.args.y ∷ []) []
    = c.push_reserved.ensures.items ∙ ap (λ (xs : List Point). xs ++ selection c.args.x c.args.y ∷ []) c.reserve.ensures.items
    ∙ ap (λ t. c.self.inside.all.items ++ cond t (selection c.args.x c.args.y ∷ []) []) (sym c.if-found.true) in
    subst (λ (old : Logged). CutsLog old c.args.x c.args.y c.cut-found.result (log c.cut-found.new.self c.push_reserved.new.self.items)) c.self.view_is
    (cuts c.self.inside.points c.begin-mem.new.self c.store_now-store.new.self c.cut-found.new.self c.self.inside.all.items c.push_reserved.new.self.items c.args.x c.args.y c.begin-mem.result c.store_now-store.result c.cut-found.result
    c.begin-mem.ensures first c.store_now-store.ensures second c.cut-found.ensures more)

pub returns-else-found-clause-found : goal.returns-else-found-clause-found
returns-else-found-clause-found c =
    let first : c.args.x ≤ c.begin-mem.result = omega (arith, c.if-x-mem.false) in
    let second : c.args.y ≤ c.store_now-store.result = omega (arith, c.if-y-store.false) in
    let more : c.reserve.new.self.items ≡ c.self.inside.all.items ++ cond c.cut-found.result.made (selection c.args.x c.args.y ∷ []) []
    = c.reserve.ensures.items ∙ sym (append-nil c.self.inside.all.items) ∙ ap (λ t. c.self.inside.all.items ++ cond t (selection c.args.x c.args.y ∷ []) []) (sym c.if-found.false) in
    subst (λ (old : Logged). CutsLog old c.args.x c.args.y c.cut-found.result (log c.cut-found.new.self c.reserve.new.self.items)) c.self.view_is
    (cuts c.self.inside.points c.begin-mem.new.self c.store_now-store.new.self c.cut-found.new.self c.self.inside.all.items c.reserve.new.self.items c.args.x c.args.y c.begin-mem.result c.store_now-store.result c.cut-found.result
    c.begin-mem.ensures first c.store_now-store.ensures second c.cut-found.ensures more)
