-- Worked runs of several transactions, by computation: what the machine replies to each event, and the list of commits.
use Rattle.std.specs.Prelude.{◌≡◌, ◌⊎◌, ℕ, List, [], ◌∷◌, ◌++◌, ◌+◌, ◌-◌, Option, Some, None, true, false, pos, map}
use Rattle.std.proofs.Common.{refl, ap, inl, inr, ⊎_elim, arith}
use Rattle.sk_rows.specs.declared.value.Value.{Value}
use Rattle.sk_rows.specs.declared.value.Value.TheVariants as value
use Rattle.sk_rows.specs.declared.value.Sort.TheVariants as sort
use Rattle.sk_rows.specs.declared.table.Column.{Column}
use Rattle.sk_rows.specs.declared.table.Table.{Table}
use Rattle.sk_model.specs.declared.label.Label.{Label}
use Rattle.sk_model.specs.declared.engine.EngineName.TheVariants.{Mem, Store}
use Rattle.sk_model.specs.declared.record.TxKind.TheVariants as kind
use Rattle.sk_model.specs.declared.reply.Why.TheVariants as why
use Rattle.sk_model.specs.declared.call.EngineFault.TheVariants as fault
use Rattle.sk_model.specs.declared.commit.Write.{Write}
use Rattle.sk_model.specs.declared.commit.Commit.{Commit}
use Rattle.sk_model.specs.declared.point.Point.{Point}
use Rattle.sk_model.specs.Database.{RowOf, KeyedRows}
use Rattle.sk_model.specs.Engine.{write_at}
use Rattle.sk_model.specs.Places.{place}
use Rattle.sk_weave.specs.Points.{selection, commit_point}
use Rattle.sk_linked.specs.declared.event.Event.{Event}
use Rattle.sk_linked.specs.declared.event.Event.TheVariants as event
use Rattle.sk_linked.specs.declared.event.CoreReply.{CoreReply}
use Rattle.sk_linked.specs.declared.event.CoreReply.TheVariants as reply
use Rattle.sk_linked.specs.State.{Core, core_at}
use Rattle.sk_linked.specs.Machine.{Next, step, run, commits_of}
use Rattle.sk_core.specs.Reachable.{IsStep, replies_to, IsWhole, StopsAt, IsRun}

abbrev columns : List Column
columns = record { name = 105 ∷ []; sort = sort.Int } ∷ record { name = 118 ∷ []; sort = sort.Int } ∷ []

-- a memory table a and a storage table c, with an INT key and an INT
abbrev catalog : List Table
catalog = record { name = 97 ∷ []; store = false; columns = columns } ∷ record { name = 99 ∷ []; store = true; columns = columns } ∷ []

abbrev begun : Point → ℕ → ℕ → Core
begun start partitions size = core_at catalog ([] ∷ [] ∷ []) start partitions size

-- without rows
abbrev first : Core
first = begun (selection 0 0) 8 256

abbrev tx : ℕ → ℕ → Label
tx s k = record { session = s; k = k }

abbrev key : ℕ → Value
key n = value.Int (pos n)

abbrev row : ℕ → ℕ → RowOf
row n v = key n ∷ value.Int (pos v) ∷ []

abbrev only : ℕ → ℕ → KeyedRows
only n v = (key n, row n v) ∷ []

abbrev put : ℕ → ℕ → ℕ → Write
put t n v = write_at t (key n) (Some (row n v))

-- each commit's transaction and numbers
abbrev printed : Core → List (Label × Option ℕ × Option ℕ)
printed k = map (λ (c : Commit). (c.label, c.mem, c.store)) (commits_of k)

-- ---- what transactions do, and what they are replied

-- a transaction of one engine writes a row and commits
abbrev commits_mem : Label → Write → List Event
commits_mem l w = event.Begin l kind.Mem ∷ event.Put l w ∷ event.Close l Mem ∷ event.Draw l Mem ∷ event.Stamp l Mem ∷ []

abbrev committed_mem : ℕ → ℕ → List CoreReply
committed_mem snapshot n = reply.Number snapshot ∷ reply.Done ∷ reply.Number snapshot ∷ reply.Number n ∷ reply.Done ∷ []

abbrev commits_store : Label → Write → List Event
commits_store l w = event.Begin l kind.Store ∷ event.OpenStore l ∷ event.Put l w ∷ event.Close l Store ∷ event.Draw l Store ∷ event.Stamp l Store ∷ []

abbrev committed_store : ℕ → ℕ → List CoreReply
committed_store snapshot n = reply.Number snapshot ∷ reply.Done ∷ reply.Done ∷ reply.Number snapshot ∷ reply.Number n ∷ reply.Done ∷ []

-- one writes both engines, up to its second draw
abbrev writes_both : Label → ℕ → ℕ → List Event
writes_both l v w = event.Begin l kind.Cross ∷ event.Put l (put 0 1 v) ∷ event.Select l ∷ event.OpenStore l ∷ event.Put l (put 1 1 w)
    ∷ event.Close l Mem ∷ event.Close l Store ∷ event.Draw l Mem ∷ []

abbrev wrote_both : List CoreReply
wrote_both = reply.Number 0 ∷ reply.Done ∷ reply.Number 0 ∷ reply.Done ∷ reply.Done ∷ reply.Number 0 ∷ reply.Number 0 ∷ reply.Number 1 ∷ []

-- and the steps that are left of its commit
abbrev commits : Label → List Event
commits l = event.Draw l Store ∷ event.Check l ∷ event.Stamp l Mem ∷ event.Stamp l Store ∷ []

abbrev committed : List CoreReply
committed = reply.Number 1 ∷ reply.Point (Some (commit_point 1 1)) ∷ reply.Done ∷ reply.Done ∷ []

-- one that only read both engines ends
abbrev leaves : Label → List Event
leaves l = event.Leave l Mem ∷ event.Leave l Store ∷ []

abbrev left : List CoreReply
left = reply.Done ∷ reply.Done ∷ []

abbrev selects : Label → List Event
selects l = event.Select l ∷ event.OpenStore l ∷ []

-- ---- nothing, and nobody

-- to no events there are no replies
nothing_asked : (k l : Core) (replies : List CoreReply) → IsRun k [] l replies → replies ≡ []
nothing_asked k l replies said = ⊎_elim (λ (w : IsWhole k [] l replies). w.replies_are) (λ (s : StopsAt k [] l replies). absurd (omega (arith, s.within))) said

-- a check of a transaction that is not there is answered NotNow, or memory was wanted, and changes nothing
nobody : (l : Core) (r : CoreReply) → IsStep first (event.Check (tx 1 1)) l r → ((r ≡ reply.NotNow) ⊎ (r ≡ reply.NoMemory)) × (l ≡ first)
nobody l r said = ⊎_elim
    (λ (e : record { core = l; reply = r } ≡ step first (event.Check (tx 1 1))). (inl (ap (λ (x : Next). x.reply) e), ap (λ (x : Next). x.core) e))
    (λ (w : (r ≡ reply.NoMemory) × (l ≡ first)). (inr w.0, w.1))
    said

-- ---- one commit over both engines

abbrev plain : List Event
plain = writes_both (tx 1 1) 10 20 ++ commits (tx 1 1)

plain_replies : replies_to first (plain ++ event.Cut ∷ []) ≡ wrote_both ++ (committed ++ reply.Point (Some (commit_point 1 1)) ∷ [])
plain_replies = refl

plain_list : printed (run first plain) ≡ (tx 1 1, Some 1, Some 1) ∷ []
plain_list = refl

-- ---- skew: an anchor from before a commit selects the storage snapshot before it

abbrev skew : List Event
skew = event.Begin (tx 1 1) kind.Cross ∷ event.Read (tx 1 1) 0 None ∷ writes_both (tx 2 1) 10 20 ++ (commits (tx 2 1) ++ (selects (tx 1 1) ++ event.Read (tx 1 1) 1 None ∷ leaves (tx 1 1)))

skew_replies : replies_to first skew ≡ reply.Number 0 ∷ reply.Rows [] ∷ wrote_both ++ (committed ++ reply.Number 0 ∷ reply.Done ∷ reply.Rows [] ∷ left)
skew_replies = refl

skew_list : printed (run first skew) ≡ (tx 2 1, Some 1, Some 1) ∷ []
skew_list = refl

skew_place : place (commits_of (run first skew)) (Some 0) (Some 0) ≡ 0
skew_place = refl

-- ---- an older anchor takes the next selection's storage number

abbrev older : List Event
older = event.Begin (tx 1 1) kind.Cross ∷ commits_mem (tx 2 1) (put 0 1 1) ++ (commits_store (tx 2 2) (put 1 1 1)
    ++ (event.Begin (tx 3 1) kind.Cross ∷ selects (tx 3 1) ++ (event.Read (tx 3 1) 1 None
    ∷ selects (tx 1 1) ++ (event.Read (tx 1 1) 1 None ∷ event.Read (tx 1 1) 0 None ∷ leaves (tx 1 1) ++ leaves (tx 3 1)))))

older_replies : replies_to first older ≡ reply.Number 0 ∷ committed_mem 0 1 ++ (committed_store 0 1
    ++ (reply.Number 1 ∷ reply.Number 1 ∷ reply.Done ∷ reply.Rows (only 1 1)
    ∷ reply.Number 1 ∷ reply.Done ∷ reply.Rows (only 1 1) ∷ reply.Rows [] ∷ left ++ left))
older_replies = refl

older_list : printed (run first older) ≡ (tx 2 2, None, Some 1) ∷ (tx 2 1, Some 1, None) ∷ []
older_list = refl

older_places : (place (commits_of (run first older)) (Some 0) (Some 1) ≡ 1) × (place (commits_of (run first older)) (Some 1) (Some 1) ≡ 2)
older_places = (refl, refl)

-- ---- a failed check: a selection was made past the number that was drawn first, and a cut goes past the void numbers

abbrev failing : List Event
failing = writes_both (tx 1 1) 1 1 ++ (event.Begin (tx 2 1) kind.Cross ∷ selects (tx 2 1) ++ (event.Read (tx 2 1) 1 None ∷ event.Draw (tx 1 1) Store ∷ event.Check (tx 1 1) ∷ leaves (tx 2 1) ++ event.Cut ∷ []))

failing_replies : replies_to first failing ≡ wrote_both ++ (reply.Number 1 ∷ reply.Number 0 ∷ reply.Done ∷ reply.Rows []
    ∷ reply.Number 1 ∷ reply.CheckFailed (selection 1 0) ∷ left ++ reply.Point (Some (selection 1 1)) ∷ [])
failing_replies = refl

failing_list : printed (run first failing) ≡ []
failing_list = refl

-- ---- busy: a reader past the floor meets a commit that is not stamped

abbrev writes_mem : Label → List Event
writes_mem l = event.Begin l kind.Cross ∷ event.Put l (put 0 1 1) ∷ event.Close l Mem ∷ event.Draw l Mem ∷ []

abbrev wrote_mem : List CoreReply
wrote_mem = reply.Number 0 ∷ reply.Done ∷ reply.Number 0 ∷ reply.Number 1 ∷ []

abbrev reads_twice : List Event
reads_twice = event.Read (tx 2 1) 0 None ∷ event.Stamp (tx 1 1) Mem ∷ event.Read (tx 2 1) 0 None ∷ event.Leave (tx 2 1) Mem ∷ event.Cut ∷ []

abbrev busy : List Event
busy = writes_mem (tx 1 1) ++ (event.Begin (tx 2 1) kind.Cross ∷ reads_twice)

busy_replies : replies_to first busy ≡ wrote_mem ++ (reply.Number 1 ∷ reply.Refused (fault.Busy (tx 1 1)) ∷ reply.Done ∷ reply.Rows (only 1 1) ∷ reply.Done ∷ reply.Point (Some (selection 1 0)) ∷ [])
busy_replies = refl

busy_list : printed (run first busy) ≡ (tx 1 1, Some 1, None) ∷ []
busy_list = refl

-- ---- the floor: a reader that began before reads what stood before

abbrev floor : List Event
floor = event.Begin (tx 2 1) kind.Cross ∷ writes_mem (tx 1 1) ++ reads_twice

floor_replies : replies_to first floor ≡ reply.Number 0 ∷ wrote_mem ++ (reply.Rows [] ∷ reply.Done ∷ reply.Rows [] ∷ reply.Done ∷ reply.Point (Some (selection 1 0)) ∷ [])
floor_replies = refl

-- ---- two writers of one row: the second meets the first, which is open, and is over

abbrev two_writers : List Event
two_writers = commits_mem (tx 1 1) (put 0 1 5) ++ (event.Begin (tx 1 2) kind.Mem ∷ event.Begin (tx 2 1) kind.Mem ∷ event.Put (tx 1 2) (put 0 1 6) ∷ event.Put (tx 2 1) (put 0 1 7)
    ∷ event.Leave (tx 1 2) Mem ∷ event.Read (tx 2 1) 0 None ∷ event.Cut ∷ [])

two_writers_replies : replies_to first two_writers ≡ committed_mem 0 1 ++ (reply.Number 1 ∷ reply.Number 1 ∷ reply.Done ∷ reply.Refused (fault.Conflict (tx 1 2) why.Open)
    ∷ reply.Done ∷ reply.NotNow ∷ reply.Point (Some (selection 1 0)) ∷ [])
two_writers_replies = refl

two_writers_list : printed (run first two_writers) ≡ (tx 1 1, Some 1, None) ∷ []
two_writers_list = refl

-- ---- past the snapshot: a row was committed behind the writer's snapshot

abbrev past : List Event
past = commits_mem (tx 1 1) (put 0 1 5) ++ (event.Begin (tx 1 2) kind.Mem ∷ commits_mem (tx 2 1) (put 0 1 6) ++ event.Put (tx 1 2) (put 0 1 7) ∷ [])

past_replies : replies_to first past ≡ committed_mem 0 1 ++ (reply.Number 1 ∷ committed_mem 1 2 ++ reply.Refused (fault.Conflict (tx 2 1) (why.Past 2 1)) ∷ [])
past_replies = refl

-- ---- write skew: each reads what the other writes, and both commit

abbrev write_skew : List Event
write_skew = plain ++ (event.Begin (tx 1 2) kind.Cross ∷ event.Begin (tx 2 1) kind.Cross ∷ selects (tx 1 2) ++ (event.Read (tx 1 2) 1 None ∷ event.Read (tx 2 1) 0 None
    ∷ event.Put (tx 1 2) (put 0 1 0) ∷ selects (tx 2 1) ++ (event.Put (tx 2 1) (put 1 1 0)
    ∷ event.Close (tx 1 2) Mem ∷ event.Draw (tx 1 2) Mem ∷ event.Stamp (tx 1 2) Mem ∷ event.Close (tx 2 1) Store ∷ event.Draw (tx 2 1) Store ∷ event.Stamp (tx 2 1) Store ∷ event.Cut ∷ [])))

write_skew_replies : replies_to first write_skew ≡ wrote_both ++ (committed ++ (reply.Number 1 ∷ reply.Number 1 ∷ reply.Number 1 ∷ reply.Done ∷ reply.Rows (only 1 20) ∷ reply.Rows (only 1 10)
    ∷ reply.Done ∷ reply.Number 1 ∷ reply.Done ∷ reply.Done
    ∷ reply.Number 1 ∷ reply.Number 2 ∷ reply.Done ∷ reply.Number 1 ∷ reply.Number 2 ∷ reply.Done ∷ reply.Point (Some (selection 2 2)) ∷ []))
write_skew_replies = refl

write_skew_list : printed (run first write_skew) ≡ (tx 1 1, Some 1, Some 1) ∷ (tx 2 1, None, Some 2) ∷ (tx 1 2, Some 2, None) ∷ []
write_skew_list = refl

write_skew_place : place (commits_of (run first write_skew)) (Some 1) (Some 1) ≡ 1
write_skew_place = refl

-- ---- recycled: eight selections in a ring of two partitions of four points give up the first partition, and seven do not

abbrev turn : ℕ → List Event
turn n = commits_mem (tx 2 (n + n - 1)) (put 0 n 0) ++ (event.Begin (tx 2 (n + n)) kind.Cross ∷ selects (tx 2 (n + n)) ++ (event.Read (tx 2 (n + n)) 1 None ∷ leaves (tx 2 (n + n))))

abbrev turned : ℕ → List CoreReply
turned n = committed_mem (n - 1) n ++ (reply.Number n ∷ reply.Number 0 ∷ reply.Done ∷ reply.Rows [] ∷ left)

abbrev seven_turns : List Event
seven_turns = turn 1 ++ (turn 2 ++ (turn 3 ++ (turn 4 ++ (turn 5 ++ (turn 6 ++ turn 7)))))

abbrev seven_turned : List CoreReply
seven_turned = turned 1 ++ (turned 2 ++ (turned 3 ++ (turned 4 ++ (turned 5 ++ (turned 6 ++ turned 7)))))

abbrev small_ring : Core
small_ring = begun (selection 0 0) 2 4

recycled_replies : replies_to small_ring (event.Begin (tx 1 1) kind.Cross ∷ seven_turns ++ (turn 8 ++ event.Select (tx 1 1) ∷ []))
    ≡ reply.Number 0 ∷ seven_turned ++ (turned 8 ++ reply.Recycled (record { a = 0; oldest = selection 4 0 }) ∷ [])
recycled_replies = refl

kept_replies : replies_to small_ring (event.Begin (tx 1 1) kind.Cross ∷ seven_turns ++ selects (tx 1 1) ++ event.Read (tx 1 1) 1 None ∷ [])
    ≡ reply.Number 0 ∷ seven_turned ++ reply.Number 0 ∷ reply.Done ∷ reply.Rows [] ∷ []
kept_replies = refl

-- ---- a cut between two draws is past neither, and the check passes

between_replies : replies_to first (writes_both (tx 1 1) 10 20 ++ (event.Draw (tx 1 1) Store ∷ event.Cut ∷ event.FlushStep ∷ event.Check (tx 1 1) ∷ event.Stamp (tx 1 1) Mem ∷ event.Stamp (tx 1 1) Store ∷ []))
    ≡ wrote_both ++ (reply.Number 1 ∷ reply.Point (Some (selection 0 0)) ∷ reply.NotNow ∷ reply.Point (Some (commit_point 1 1)) ∷ reply.Done ∷ reply.Done ∷ [])
between_replies = refl

-- ---- a lagging horizon: an undecided storage number keeps a cut from going past it, and a session sees its own commit

abbrev lagging : List Event
lagging = event.Begin (tx 2 1) kind.Store ∷ event.OpenStore (tx 2 1) ∷ event.Put (tx 2 1) (put 1 9 9) ∷ event.Close (tx 2 1) Store ∷ event.Draw (tx 2 1) Store
    ∷ commits_store (tx 1 1) (put 1 1 1) ++ (event.Begin (tx 1 2) kind.Cross ∷ commits_mem (tx 3 1) (put 0 1 1) ++ (event.Cut
    ∷ selects (tx 1 2) ++ (event.Read (tx 1 2) 1 (Some (key 1)) ∷ leaves (tx 1 2) ++ (event.Stamp (tx 2 1) Store ∷ event.Cut ∷ []))))

lagging_replies : replies_to first lagging ≡ reply.Number 0 ∷ reply.Done ∷ reply.Done ∷ reply.Number 0 ∷ reply.Number 1
    ∷ committed_store 1 2 ++ (reply.Number 0 ∷ committed_mem 0 1 ++ (reply.Point (Some (selection 0 0))
    ∷ reply.Number 2 ∷ reply.Done ∷ reply.Rows (only 1 1) ∷ left ++ (reply.Done ∷ reply.Point (Some (selection 1 2)) ∷ [])))
lagging_replies = refl

lagging_list : printed (run first lagging) ≡ (tx 2 1, None, Some 1) ∷ (tx 1 1, None, Some 2) ∷ (tx 3 1, Some 1, None) ∷ []
lagging_list = refl

-- ---- stops

abbrev reads_both : List Event
reads_both = event.Begin (tx 1 1) kind.Cross ∷ event.Read (tx 1 1) 0 None ∷ selects (tx 1 1) ++ event.Read (tx 1 1) 1 None ∷ []

-- before a flush: nothing is kept
stopped_replies : replies_to (run first plain) (event.Stop ∷ event.Cut ∷ event.Reopen ∷ reads_both)
    ≡ reply.Done ∷ reply.NotNow ∷ reply.Point (Some (selection 0 0)) ∷ reply.Number 0 ∷ reply.Rows [] ∷ reply.Number 0 ∷ reply.Done ∷ reply.Rows [] ∷ []
stopped_replies = refl

abbrev five_calls : List Event
five_calls = event.Cut ∷ event.FlushStep ∷ event.FlushStep ∷ event.FlushStep ∷ event.FlushStep ∷ event.FlushStep ∷ []

-- before the last call of a flush: nothing is kept
early_replies : replies_to (run (run first plain) five_calls) (event.Stop ∷ event.Reopen ∷ reads_both)
    ≡ reply.Done ∷ reply.Point (Some (selection 0 0)) ∷ reply.Number 0 ∷ reply.Rows [] ∷ reply.Number 0 ∷ reply.Done ∷ reply.Rows [] ∷ []
early_replies = refl

-- behind it: all is
late_replies : replies_to (run (run first plain) five_calls) (event.FlushStep ∷ event.FlushStep ∷ event.Stop ∷ event.Reopen ∷ reads_both)
    ≡ reply.Done ∷ reply.NotNow ∷ reply.Done ∷ reply.Point (Some (selection 1 1)) ∷ reply.Number 1 ∷ reply.Rows (only 1 10) ∷ reply.Number 1 ∷ reply.Done ∷ reply.Rows (only 1 20) ∷ []
late_replies = refl

-- ---- a spent counter

spent_replies : replies_to (begun (selection 2147483646 0) 8 256)
    (commits_mem (tx 1 1) (put 0 1 1) ++ (event.Begin (tx 1 2) kind.Mem ∷ event.Put (tx 1 2) (put 0 2 2) ∷ event.Close (tx 1 2) Mem ∷ event.Draw (tx 1 2) Mem ∷ []))
    ≡ committed_mem 2147483646 2147483647 ++ (reply.Number 2147483647 ∷ reply.Done ∷ reply.Number 2147483647 ∷ reply.Spent ∷ [])
spent_replies = refl
