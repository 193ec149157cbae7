-- Why a flush may be refused.
use Rattle.std.specs.Prelude.{ℕ, Option}
use Rattle.sk_cut.specs.Batches.{Refuses}
use Rattle.sk_durable.specs.declared.refused.Refused.{Refused}
use Rattle.sk_durable.specs.declared.refused.Refused.TheVariants as refused

-- what a flush of a run may be refused with, where this is the length of the first log that would be too long
abbrev pub RefusesOrNot : Option ℕ → Refused → Type 0
RefusesOrNot full (refused.Flush e) = Refuses full e
RefusesOrNot full refused.Unlawful = Unit {0}
