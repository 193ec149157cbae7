-- Which version of a row a further write of its transaction replaces.
use Rattle.std.specs.Prelude.{Bool, ◌&&◌}
use Rattle.sk_model.specs.declared.label.Label.{Label}
use Rattle.sk_model.specs.declared.commit.Write.{Write}
use Rattle.sk_model.specs.Records.{same_label}
use Rattle.sk_model.specs.Engine.{Version, is_of, is_open}

-- the transaction's own open version of the row
abbrev pub is_own : Label → Write → Version → Bool
is_own tx w v = is_of w.table w.key v && (same_label tx v.by && is_open v.standing)
