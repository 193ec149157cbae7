use Rattle.std.proofs.Common.{◌≡◌, None, rules}
use Rattle.std.specs.Map.{lookup}
use Rattle.std.specs.BTreeMap.{is_at}
use Rattle.sk_rows.specs.Values.{value_cmp}
use Rattle.sk_store.proofs.Mapping.{prepared}
use Rattle.sk_store.proofs.heads.prepare.Goals as goal

pub returns-in_ok-insert : goal.returns-in_ok-insert
returns-in_ok-insert c =
    let none : lookup (is_at (value_cmp c.args.key.now)) c.args.heads.now.entries ≡ None = search rules in
    prepared _ _ c.args.key.now c.in_ok-key.key c.new.result none c.in_ok-key.ensures c.new.ensures c.in_ok-insert.ensures.updates.0
