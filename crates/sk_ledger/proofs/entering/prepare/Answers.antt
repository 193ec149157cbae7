-- A list without writes shows nothing.
use Rattle.std.proofs.Common.{◌≡◌, None, rules}
use Rattle.std.specs.Map.{lookup}
use Rattle.std.specs.BTreeMap.{is_at}
use Rattle.sk_model.specs.Engine.{label_cmp}
use Rattle.sk_ledger.proofs.Putting.{prepared}
use Rattle.sk_ledger.proofs.entering.prepare.Goals as goal

pub returns-in_ok-insert : goal.returns-in_ok-insert
returns-in_ok-insert c =
    let none : lookup (is_at (label_cmp c.args.tx)) c.args.puts.now.entries ≡ None = search rules in
    prepared _ _ c.args.tx c.new.result c.new.ensures none c.in_ok-insert.ensures.updates.0
