use Rattle.std.proofs.Common.{◌≡◌, ap, sym, ◌∙◌, rules}
use Rattle.sk_model.specs.declared.call.EngineCall.TheVariants as call
use Rattle.sk_model.specs.EngineConditions.{may}
use Rattle.sk_engine.proofs.Permitted.{may_ends}
use Rattle.sk_engine.proofs.versioned.VersionedEngine.may.Goals as goal

pub returns-in-Stamp : goal.returns-in-Stamp
returns-in-Stamp g c = λ e js h.
    let is : c.args.call.now ≡ call.Stamp c.in-Stamp.tx c.in-Stamp.n = search rules in
    c.may_end.ensures c.args.self.now.book.purged h.counts.rising ∙ may_ends g.R.Rows.name (g.R.Rows.shows c.args.self.now.rows) c.args.self.now.book e c.in-Stamp.tx c.in-Stamp.n h ∙ ap (may e) (sym is)

pub returns-in-Void : goal.returns-in-Void
returns-in-Void g c = λ e js h.
    let is : c.args.call.now ≡ call.Void c.in-Void.tx c.in-Void.n = search rules in
    c.may_end-in-Void.ensures c.args.self.now.book.purged h.counts.rising ∙ may_ends g.R.Rows.name (g.R.Rows.shows c.args.self.now.rows) c.args.self.now.book e c.in-Void.tx c.in-Void.n h ∙ ap (may e) (sym is)
