use Rattle.std.proofs.Common.{◌≡◌, List, length, ap, sym, subst, ◌∙◌, arith}
use Rattle.sk_rows.specs.declared.table.Table.{Table}
use Rattle.sk_model.specs.Database.{KeyedRows, Tables}
use Rattle.sk_log.specs.Stores.{no_rows}
use Rattle.sk_recover.specs.Opened.{AllFit, AreOrdered}
use Rattle.sk_recover.proofs.Sound.{none_counted, none_ordered}
use Rattle.sk_recover.proofs.RowsFit.{none_fit}
use Rattle.sk_recover.proofs.opening.made.Goals as goal

pub returns-clause-sound : goal.returns-clause-sound
returns-clause-sound c =
    let catalog = c.args.catalog.now in
    let rows : c.in-Ok.rows ≡ no_rows catalog = c.in-Ok.ensures ∙ ap (λ (ts : List Table). no_rows ts) c.tables.ensures.value in
    record {
      set = omega arith;
      selection = c.requires.start.0;
      mem = c.requires.start.1;
      store = c.requires.start.2;
      count = ap (λ (l : List KeyedRows). length l) rows ∙ none_counted catalog ∙ ap (λ (l : List Table). length l) (sym c.in-Ok-copy.ensures);
      ordered = subst AreOrdered (sym rows) (none_ordered catalog);
      fit = subst (λ (rows : Tables). AllFit c.in-Ok-copy.catalog rows) (sym rows) (none_fit c.in-Ok-copy.catalog catalog);
    }
