use Rattle.std.proofs.Common.{ap, ◌≡◌, ◌∙◌, ◌++◌, List, ℕ, Result, Ok, Err}
use Rattle.std.specs.Prelude.{OnOk}
use Rattle.std.specs.BTreeSet.{contains}
use Rattle.std.specs.String.{string_bytes}
use Rattle.sk_model.specs.Engine.{label_cmp}
use Rattle.sk_text.specs.Text.{is_named}
use Rattle.sk_text.proofs.Named.{same_lines}
use Rattle.sk_text.proofs.report.put_transactions.Goals as goal

on_ok_by : {A E : Type 0} (r : Result A E) (x y z : List ℕ) → y ≡ z → OnOk r (x ≡ y) → OnOk r (x ≡ z)
on_ok_by (Ok a) x y z e h = h ∙ e
on_ok_by (Err f) x y z e h = h

pub returns : goal.returns
returns c =
    on_ok_by c.put_record_lines.result _ _ _
    (ap (λ ls. string_bytes c.args.out.now ++ ls) (same_lines (contains label_cmp c.in_ok-named.named) (is_named c.args.receipts.now) c.in_ok-named.ensures c.args.records.now c.args.places.now))
    c.put_record_lines.ensures
