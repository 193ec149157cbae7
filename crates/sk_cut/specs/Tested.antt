-- A group as it is tested, part by part.
use Rattle.std.specs.Prelude.{◌≡◌, ◌⊎◌, ℕ, ◌+◌, ◌<◌, ◌≤◌, Bool, true, false, List, [], ◌∷◌, Option, Some, None}
use Rattle.std.specs.List.{filter}
use Rattle.sk_rows.specs.declared.value.Value.{Value}
use Rattle.sk_rows.specs.declared.table.Column.{Column}
use Rattle.sk_rows.specs.declared.table.Table.{Table}
use Rattle.sk_rows.specs.Values.{sort_of, IsShort}
use Rattle.sk_model.specs.declared.label.Label.{Label}
use Rattle.sk_model.specs.declared.commit.Commit.{Commit}
use Rattle.sk_model.specs.declared.point.Point.{Point}
use Rattle.sk_model.specs.Numbers.{greatest_number}
use Rattle.sk_codec.specs.Records.{key_sort}
use Rattle.sk_codec.specs.Spelling.{IsRecord, own_of, number_or_0}
use Rattle.sk_log.specs.Lawful.{ArePairs, is_both}
use Rattle.sk_cut.specs.declared.pipeline.Batch.{Batch}

-- neither number falls, one of them rises, and both may be there
pub record Climbs (cut to : Point) : Type 0 where
  pub a : (cut.a ≤ to.a) × (to.a ≤ greatest_number)
  pub b : (cut.b ≤ to.b) × (to.b ≤ greatest_number)
  pub rises : (cut.a < to.a) ⊎ (cut.b < to.b)

-- a transaction's label: a session from 1 to 64, and a number from 1 on
pub record IsLabel (label : Label) : Type 0 where
  pub session : (1 ≤ label.session) × (label.session ≤ 64)
  pub k : (1 ≤ label.k) × (label.k ≤ 4294967295)

-- the number is there, past one and at most another
abbrev pub IsOwn : ℕ → ℕ → Option ℕ → Type 0
IsOwn above upto None = ⊥
IsOwn above upto (Some n) = (above + 1 ≤ n) × (n ≤ upto) × (n ≤ greatest_number)

-- a key of a table with these columns
abbrev pub IsKey : List Column → Value → Type 0
IsKey columns key = (sort_of key ≡ key_sort columns) × IsShort key

-- Commits that a log of this engine may hold, with numbers that rise past one and up to another. The writes of each can be counted.
abbrev pub AreTested : List Table → Bool → ℕ → ℕ → List Commit → Type 0
AreTested catalog store upto above [] = Unit {0}
AreTested catalog store upto above (c ∷ cs) = IsRecord catalog store (above + 1) upto c × AreTested catalog store upto (number_or_0 (own_of store c)) cs

-- the parts of a group that can be counted
pub record IsTested (catalog : List Table) (cut : Point) (b : Batch) : Type 0 where
  pub climbs : Climbs cut b.cut
  pub mem : AreTested catalog false b.cut.a cut.a b.mem
  pub store : AreTested catalog true b.cut.b cut.b b.store
  pub pairs : ArePairs (filter is_both b.store) (filter is_both b.mem)
