-- A selection that made a point has it behind the others.
use Rattle.std.proofs.Common.{◌≤◌, ◌≡◌, ℕ, true, [], ◌∷◌, ◌++◌, List, cond, refl, sym, ap, subst, ◌∙◌, append-nil, arith}
use Rattle.sk_model.specs.declared.point.Point.{Point}
use Rattle.sk_weave.specs.declared.answer.Selected.{Selected}
use Rattle.sk_weave.specs.Points.{selection}
use Rattle.sk_commit.specs.declared.asking.RegistryCall.TheVariants as call
use Rattle.sk_commit.specs.declared.asking.RegistryReply.TheVariants as told
use Rattle.sk_shared.specs.Logged.{Logged, Told}
use Rattle.sk_shared.proofs.Logging.{log, still, selects, recycles, recycled_fits}
use Rattle.sk_shared.proofs.point_log.PointLog.select.Goals as goal

-- the points behind a push
pushed : (xs ys zs : List Point) (a : ℕ) (s : Selected) → zs ≡ ys ++ selection a s.b ∷ [] → ys ≡ xs → s.made ≡ true → zs ≡ xs ++ cond s.made (selection a s.b ∷ []) []
pushed xs ys zs a s more same made = more ∙ ap (λ (ws : List Point). ws ++ selection a s.b ∷ []) same ∙ ap (λ t. xs ++ cond t (selection a s.b ∷ []) []) (sym made)

pub invariant_of-self-then-selected : goal.invariant_of-self-then-selected
invariant_of-self-then-selected c =
    still (log c.self.inside.points c.self.inside.all.items) (log c.select.new.self c.push_reserved.new.self.items) (call.Select c.args.a) (told.Selected c.in-Ok.selected) c.self.invariant
    (selects c.self.inside.points c.begin.new.self c.select.new.self c.self.inside.all.items c.push_reserved.new.self.items c.args.a c.begin.result c.select.result c.in-Ok.selected c.begin.ensures (omega (arith, c.if-a-begin.false)) c.select.ensures c.in-Ok.is
    (pushed c.self.inside.all.items c.reserve.new.self.items c.push_reserved.new.self.items c.args.a c.in-Ok.selected c.push_reserved.ensures.items c.reserve.ensures.items c.if-selected.true))

pub returns-then-selected : goal.returns-then-selected
returns-then-selected c =
    subst (λ (old : Logged). Told old (call.Select c.args.a) (told.Selected c.in-Ok.selected) (log c.select.new.self c.push_reserved.new.self.items)) c.self.view_is record {
      fits = tt;
      not_early = refl;
      registered = selects c.self.inside.points c.begin.new.self c.select.new.self c.self.inside.all.items c.push_reserved.new.self.items c.args.a c.begin.result c.select.result c.in-Ok.selected c.begin.ensures (omega (arith, c.if-a-begin.false)) c.select.ensures c.in-Ok.is
          (pushed c.self.inside.all.items c.reserve.new.self.items c.push_reserved.new.self.items c.args.a c.in-Ok.selected c.push_reserved.ensures.items c.reserve.ensures.items c.if-selected.true);
    }

pub returns-else-selected : goal.returns-else-selected
returns-else-selected c =
    let drawn : c.args.a ≤ c.begin.result = omega (arith, c.if-a-begin.false) in
    let more : c.reserve.new.self.items ≡ c.self.inside.all.items ++ cond c.in-Ok.selected.made (selection c.args.a c.in-Ok.selected.b ∷ []) []
    = c.reserve.ensures.items ∙ sym (append-nil c.self.inside.all.items) ∙ ap (λ t. c.self.inside.all.items ++ cond t (selection c.args.a c.in-Ok.selected.b ∷ []) []) (sym c.if-selected.false) in
    subst (λ (old : Logged). Told old (call.Select c.args.a) (told.Selected c.in-Ok.selected) (log c.select.new.self c.reserve.new.self.items)) c.self.view_is record {
      fits = tt;
      not_early = refl;
      registered = selects c.self.inside.points c.begin.new.self c.select.new.self c.self.inside.all.items c.reserve.new.self.items c.args.a c.begin.result c.select.result c.in-Ok.selected c.begin.ensures drawn c.select.ensures c.in-Ok.is more;
    }

pub returns-in-Err : goal.returns-in-Err
returns-in-Err c =
    subst (λ (xs : List Point). Told c.args.self.now (call.Select c.args.a) (told.Recycled c.in-Err.recycled) (log c.select.new.self xs)) (sym c.reserve.ensures.items)
    (subst (λ (old : Logged). Told old (call.Select c.args.a) (told.Recycled c.in-Err.recycled) (log c.select.new.self c.self.inside.all.items)) c.self.view_is record {
      fits = recycled_fits c.self.inside.points c.begin.new.self c.select.new.self c.self.inside.all.items c.args.a _ c.select.result c.in-Err.recycled c.self.invariant c.begin.ensures c.select.ensures c.in-Err.is;
      not_early = refl;
      registered = recycles c.self.inside.points c.begin.new.self c.select.new.self c.self.inside.all.items c.args.a _ c.select.result c.in-Err.recycled c.begin.ensures c.select.ensures c.in-Err.is;
    })
