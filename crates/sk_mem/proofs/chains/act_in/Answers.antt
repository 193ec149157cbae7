use Rattle.std.proofs.Common.{◌≡◌, Some, None, ap, ◌∙◌, rules}
use Rattle.std.specs.Map.{lookup}
use Rattle.std.specs.BTreeMap.{is_at}
use Rattle.sk_rows.specs.Values.{value_cmp}
use Rattle.sk_engine.specs.Rows.{acted}
use Rattle.sk_mem.specs.Chains.{chain_of}
use Rattle.sk_mem.proofs.Maps.{changed_there, changed_nowhere, acted_empty}
use Rattle.sk_mem.proofs.chains.act_in.Goals as goal

pub returns-in-Some : goal.returns-in-Some
returns-in-Some c =
    let there : lookup (is_at (value_cmp c.args.key.now)) c.args.rows.now.entries ≡ Some c.in-Some.chain.now = search rules in
    changed_there _ _ c.args.key.now (acted c.args.act) c.in-Some.chain.now c.act_on.new.chain there c.act_on.ensures ((c.get_mut.follows.holds _).3 (search rules)).0

pub returns-in_default : goal.returns-in_default
returns-in_default c =
    let none : lookup (is_at (value_cmp c.args.key.now)) c.args.rows.now.entries ≡ None = search rules in
    let same : c.get_mut.follows.lender-at-none.entries ≡ c.args.rows.now.entries = search rules in
    λ q. ap (λ es. chain_of es q) same ∙ changed_nowhere c.args.rows.now.entries c.args.key.now (acted c.args.act) (acted_empty c.args.act) none q
