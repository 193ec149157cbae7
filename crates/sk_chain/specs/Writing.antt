-- Whom a write of a row meets.
use Rattle.std.specs.Prelude.{ℕ, Option, Some, None, Bool, false, cond, nat_lt}
use Rattle.sk_model.specs.declared.label.Label.{Label}
use Rattle.sk_model.specs.declared.reply.Why.{Why}
use Rattle.sk_model.specs.declared.reply.Why.TheVariants as why
use Rattle.sk_model.specs.Records.{same_label}
use Rattle.sk_model.specs.EngineReplies.{last_in}
use Rattle.sk_chain.specs.declared.version.VersionState.{VersionState}
use Rattle.sk_chain.specs.declared.version.VersionState.TheVariants.{Open, Closed, Stamped}
use Rattle.sk_chain.specs.declared.version.Blocked.{Blocked}
use Rattle.sk_chain.specs.Chained.{Chained, Version}

-- there is a version, and it is by this transaction
abbrev pub is_by : Label → Option Version → Bool
is_by by None = false
is_by by (Some v) = same_label by v.by

abbrev pub why_of : VersionState → Why
why_of Open = why.Open
why_of (Closed f) = why.Closed
why_of (Stamped n) = why.Open

abbrev pub past_state : ℕ → Label → VersionState → Option Blocked
past_state s by Open = None
past_state s by (Closed f) = None
past_state s by (Stamped n) = cond (nat_lt s n) (Some (record { by = by; why = why.Past n s })) None

-- a version with a number past s is in the way
abbrev pub past_version : ℕ → Version → Option Blocked
past_version s v = past_state s v.by v.state

abbrev pub past_of : ℕ → Option Version → Option Blocked
past_of s None = None
past_of s (Some v) = past_version s v

-- another's version that is not stamped is in the way, before any other
abbrev pub rival_or : Label → Option Version → Option Blocked → Option Blocked
rival_or by None other = other
rival_or by (Some v) other = cond (same_label by v.by) other (Some (record { by = v.by; why = why_of v.state }))

abbrev pub conflict : Chained → Label → ℕ → Option Blocked
conflict c by s = rival_or by c.top (past_of s (last_in None c.settled))
