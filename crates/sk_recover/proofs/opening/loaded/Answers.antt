use Rattle.std.proofs.Common.{List, ◌++◌, length, ap, sym, subst, ◌∙◌}
use Rattle.sk_model.specs.Database.{KeyedRows, Tables}
use Rattle.sk_recover.specs.Opened.{AllFit}
use Rattle.sk_recover.proofs.Sound.{behind_ordered, state_counted}
use Rattle.sk_recover.proofs.opening.loaded.Goals as goal

pub returns-clause-sound : goal.returns-clause-sound
returns-clause-sound c =
    let s = c.args.stored in
    let order = s.reached.mem ++ s.reached.store in
    record {
      set = c.requires.reached.set;
      selection = c.requires.reached.selection;
      mem = c.requires.reached.mem;
      store = c.requires.reached.store;
      count = ap (λ (l : List KeyedRows). length l) c.in-Ok.ensures ∙ state_counted order s.rows.items ∙ c.requires.count;
      ordered = behind_ordered s.rows.items order c.in-Ok.rows c.requires.rise c.in-Ok.ensures;
      fit = subst (λ (rows : Tables). AllFit s.catalog rows) (sym c.in-Ok.ensures) c.requires.fit;
    }
