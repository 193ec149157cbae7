use Rattle.std.proofs.Common.{◌≡◌, ◌&&◌, None, drop}
use Rattle.std.specs.Option.{option_copied}
use Rattle.std.specs.List.{filter}
use Rattle.sk_model.specs.Engine.{is_of, is_stamped}
use Rattle.sk_model.specs.EngineReplies.{last_in}
use Rattle.sk_table.proofs.writing.newest_stamped.Given as goal

-- The last so far and those to come have the last of all.
abbrev pub invariant-loop-version : goal.invariant-loop-version
invariant-loop-version l =
    last_in (option_copied l.newest) (filter (λ v. is_of l.write.table l.write.key v && is_stamped v.standing) (drop l.version-index l.versions))
    ≡ last_in None (filter (λ v. is_of l.write.table l.write.key v && is_stamped v.standing) l.versions)
