-- What the table of an engine replies to each call.
use Rattle.std.specs.Prelude.{ℕ, zero, suc, List, [], ◌∷◌, Option, Some, None, Bool, true, false, cond, not, ◌==◌, ◌&&◌, ◌||◌, ◌+◌, map, nat_lt, nat_le, max, min, is_some}
use Rattle.std.specs.List.{filter, fold, list_any, find as find_first}
use Rattle.std.specs.declared.cmp.Ordering.{Ordering}
use Rattle.std.specs.declared.cmp.Ordering.TheVariants.{Less}
use Rattle.std.specs.Ordering.{nat_cmp}
use Rattle.std.specs.FinMap.{find}
use Rattle.sk_rows.specs.declared.value.Value.{Value}
use Rattle.sk_rows.specs.Values.{value_cmp}
use Rattle.sk_model.specs.declared.label.Label.{Label}
use Rattle.sk_model.specs.declared.engine.EngineName.{EngineName}
use Rattle.sk_model.specs.declared.engine.EngineName.TheVariants.{Mem, Store}
use Rattle.sk_model.specs.declared.commit.Write.{Write}
use Rattle.sk_model.specs.declared.commit.Commit.{Commit}
use Rattle.sk_model.specs.declared.reply.Why.{Why}
use Rattle.sk_model.specs.declared.reply.Why.TheVariants as why
use Rattle.sk_model.specs.declared.call.EngineCall.{EngineCall}
use Rattle.sk_model.specs.declared.call.EngineCall.TheVariants as call
use Rattle.sk_model.specs.declared.call.EngineFault.TheVariants as fault
use Rattle.sk_model.specs.declared.call.EngineReply.{EngineReply}
use Rattle.sk_model.specs.declared.call.EngineReply.TheVariants.{Done, Found, Rows, Number, Commits, Fault}
use Rattle.sk_model.specs.Database.{Tables, row_of, table_of, after_writes, net}
use Rattle.sk_model.specs.Records.{same_label}
use Rattle.sk_model.specs.Engine.{VersionState, Open, Closed, Stamped, Dropped, Version, Openings, EngineTable, is_upto, is_closed_below, is_undecided, is_stamped, is_of, snapshot_of, write_at}

-- what a transaction sees at the snapshot s: its own writes, and what is stamped with a number up to s
abbrev pub is_seen : Label → ℕ → Version → Bool
is_seen tx s v = is_upto s v.standing || (same_label tx v.by && is_undecided v.standing)

abbrev pub seen : EngineTable → Label → ℕ → Tables
seen e tx s = after_writes e.rows (map (λ v. v.write) (filter (is_seen tx s) e.versions))

-- a version at which a reader at s has to wait
abbrev pub is_blocking : Label → ℕ → Version → Bool
is_blocking tx s v = not (same_label tx v.by) && is_closed_below s v.standing

abbrev pub is_less : Ordering → Bool
is_less Less = true
is_less _ = false

-- the first in the order of the keys
abbrev pub least_key : Option Version → List Version → Option Version
least_key best [] = best
least_key None (v ∷ vs) = least_key (Some v) vs
least_key (Some w) (v ∷ vs) = least_key (Some (cond (is_less (value_cmp v.write.key w.write.key)) v w)) vs

abbrev pub last_in : {X : Type 0} → Option X → List X → Option X
last_in best [] = best
last_in best (x ∷ xs) = last_in (Some x) xs

abbrev pub busy_or : Option Version → EngineReply → EngineReply
busy_or None reply = reply
busy_or (Some v) reply = Fault (fault.Busy v.by)

-- the row at a key, or the transaction that a reader has to wait for
abbrev pub got : EngineTable → Label → ℕ → Value → EngineReply
got e tx t key =
    busy_or (find_first (λ v. is_of t key v && is_blocking tx (snapshot_of e tx) v) e.versions)
    (Found (row_of (seen e tx (snapshot_of e tx)) t key))

-- the rows of a table, or the transaction that a reader has to wait for at the first such key
abbrev pub scanned : EngineTable → Label → ℕ → EngineReply
scanned e tx t =
    busy_or (least_key None (filter (λ v. (v.write.table == t) && is_blocking tx (snapshot_of e tx) v) e.versions))
    (Rows (table_of (seen e tx (snapshot_of e tx)) t))

abbrev pub why_undecided : VersionState → Why
why_undecided Open = why.Open
why_undecided (Closed f) = why.Closed
why_undecided (Stamped n) = why.Open
why_undecided Dropped = why.Open

-- a stamped version past the snapshot is in the way
abbrev pub past_of : ℕ → Label → VersionState → EngineReply
past_of s by Open = Done
past_of s by (Closed f) = Done
past_of s by (Stamped n) = cond (nat_lt s n) (Fault (fault.Conflict by (why.Past n s))) Done
past_of s by Dropped = Done

abbrev pub past_or : ℕ → Option Version → EngineReply
past_or s None = Done
past_or s (Some v) = past_of s v.by v.standing

abbrev pub conflict_or : Option Version → EngineReply → EngineReply
conflict_or None reply = reply
conflict_or (Some v) reply = Fault (fault.Conflict v.by (why_undecided v.standing))

-- a version of this row by another transaction that is open or closed
abbrev pub is_rival : Label → Write → Version → Bool
is_rival tx w v = is_of w.table w.key v && (not (same_label tx v.by) && is_undecided v.standing)

-- whether a write meets a rival's version, or else the newest stamped one past its snapshot
abbrev pub put_answer : EngineTable → Label → Write → EngineReply
put_answer e tx w =
    conflict_or (find_first (is_rival tx w) e.versions)
    (past_or (snapshot_of e tx) (last_in None (filter (λ v. is_of w.table w.key v && is_stamped v.standing) e.versions)))

abbrev pub is_used : EngineTable → ℕ → Bool
is_used e n = is_some (find nat_cmp n e.stamped) || list_any (◌==◌ n) e.voided

-- up from n as long as the next number is used, at most k times
abbrev pub climb : ℕ → (ℕ → Bool) → ℕ → ℕ
climb zero used n = n
climb (suc k) used n = cond (used (n + 1)) (climb k used (n + 1)) n

-- a number that no used one is past
abbrev pub top_number : EngineTable → ℕ
top_number e = fold (λ m p. max m p.0) (fold max 0 e.voided) e.stamped

-- the greatest number up to which each one from the start on was stamped or voided
abbrev pub horizon_of : EngineTable → ℕ
horizon_of e = climb (top_number e) (is_used e) e.start

abbrev pub stamps : ℕ → VersionState → Bool
stamps n Open = false
stamps n (Closed f) = false
stamps n (Stamped m) = n == m
stamps n Dropped = false

abbrev pub is_stamped_with : ℕ → Version → Bool
is_stamped_with n v = stamps n v.standing

-- a number drawn from the engine's own counter
abbrev pub mem_number : EngineName → ℕ → Option ℕ
mem_number Mem n = Some n
mem_number Store n = None

abbrev pub store_number : EngineName → ℕ → Option ℕ
store_number Mem n = None
store_number Store n = Some n

-- what was stamped with a number, as a commit
abbrev pub commit_of : EngineTable → ℕ × Label → Commit
commit_of e p = record {
  label = p.1;
  mem = mem_number e.name p.0;
  store = store_number e.name p.0;
  writes = net (map (λ v. v.write) (filter (is_stamped_with p.0) e.versions));
}

abbrev pub commits_between : EngineTable → ℕ → ℕ → List Commit
commits_between e from to = map (commit_of e) (filter (λ p. nat_lt from p.0 && nat_le p.0 to) e.stamped)

abbrev pub least_open : Openings → ℕ → ℕ
least_open os n = fold (λ m p. min m p.1.snapshot) n os

-- the smallest of the number asked for, the horizon and the least snapshot that is open, and never less than before
abbrev pub purged_to : EngineTable → ℕ → ℕ
purged_to e upto = max e.purged (least_open e.openings (min upto (horizon_of e)))

-- the reply of the table to a call whose condition holds
abbrev pub answer_of : EngineTable → EngineCall → EngineReply
answer_of e (call.Open tx s) = cond (nat_lt s e.purged) (Fault (fault.Old s e.purged)) Done
answer_of e (call.Get tx t key) = got e tx t key
answer_of e (call.Scan tx t) = scanned e tx t
answer_of e (call.Put tx t key row) = put_answer e tx (write_at t key row)
answer_of e (call.Close tx) = Number e.greatest
answer_of e (call.Stamp tx n) = Done
answer_of e (call.Void tx n) = Done
answer_of e (call.DropTx tx) = Done
answer_of e call.Horizon = Number (horizon_of e)
answer_of e (call.Records from to) = Commits (commits_between e from to)
answer_of e (call.Purge upto) = Number (purged_to e upto)
