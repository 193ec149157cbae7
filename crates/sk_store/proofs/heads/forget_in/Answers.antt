use Rattle.std.proofs.Common.{◌≡◌, refl, Some, None, ap, ◌∙◌, rules}
use Rattle.std.specs.Map.{lookup}
use Rattle.std.specs.BTreeMap.{is_at}
use Rattle.sk_rows.specs.Values.{value_cmp}
use Rattle.sk_store.specs.Heads.{forgotten}
use Rattle.sk_store.specs.Maps.{head_of}
use Rattle.sk_store.proofs.Mapping.{changed_there, changed_nowhere}
use Rattle.sk_store.proofs.heads.forget_in.Goals as goal

pub returns-in-Some : goal.returns-in-Some
returns-in-Some c =
    let there : lookup (is_at (value_cmp c.args.key.now)) c.args.heads.now.entries ≡ Some c.in-Some.head.now = search rules in
    changed_there _ _ c.args.key.now (forgotten c.args.upto) c.in-Some.head.now c.forget.new.self there c.forget.ensures ((c.get_mut.follows.holds _).3 (search rules)).0

pub returns-in_default : goal.returns-in_default
returns-in_default c =
    let none : lookup (is_at (value_cmp c.args.key.now)) c.args.heads.now.entries ≡ None = search rules in
    let same : c.get_mut.follows.lender-at-none.entries ≡ c.args.heads.now.entries = search rules in
    λ q. ap (λ es. head_of es q) same ∙ changed_nowhere c.args.heads.now.entries c.args.key.now (forgotten c.args.upto) refl none q
