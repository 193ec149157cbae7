-- Worked runs of the machine, by computation.
use Rattle.std.specs.Prelude.{◌≡◌, ℕ, List, [], ◌∷◌, Some, None, true, false, pos}
use Rattle.std.proofs.Common.{refl}
use Rattle.sk_rows.specs.declared.value.Value.{Value}
use Rattle.sk_rows.specs.declared.value.Value.TheVariants as value
use Rattle.sk_rows.specs.declared.value.Sort.TheVariants as sort
use Rattle.sk_rows.specs.declared.table.Column.{Column}
use Rattle.sk_model.specs.declared.label.Label.{Label}
use Rattle.sk_model.specs.declared.engine.EngineName.TheVariants.{Mem, Store}
use Rattle.sk_model.specs.declared.record.TxKind.TheVariants as kind
use Rattle.sk_model.specs.declared.reply.Why.TheVariants as why
use Rattle.sk_model.specs.declared.call.EngineFault.TheVariants as fault
use Rattle.sk_model.specs.declared.commit.Write.{Write}
use Rattle.sk_model.specs.Database.{RowOf}
use Rattle.sk_model.specs.Engine.{write_at}
use Rattle.sk_weave.specs.Points.{selection, commit_point}
use Rattle.sk_linked.specs.declared.event.Event.{Event}
use Rattle.sk_linked.specs.declared.event.Event.TheVariants as event
use Rattle.sk_linked.specs.declared.event.CoreReply.{CoreReply}
use Rattle.sk_linked.specs.declared.event.CoreReply.TheVariants as reply
use Rattle.sk_linked.specs.State.{Core, core_at}
use Rattle.sk_linked.specs.Machine.{step}

abbrev columns : List Column
columns = record { name = 105 ∷ []; sort = sort.Int } ∷ record { name = 118 ∷ []; sort = sort.Int } ∷ []

-- a memory table a and a storage table c
abbrev first : Core
first = core_at (record { name = 97 ∷ []; store = false; columns = columns } ∷ record { name = 99 ∷ []; store = true; columns = columns } ∷ []) ([] ∷ [] ∷ []) (selection 0 0) 2 4

abbrev key : Value
key = value.Int (pos 1)

abbrev row : ℕ → RowOf
row v = key ∷ value.Int (pos v) ∷ []

abbrev put : ℕ → ℕ → Write
put t v = write_at t key (Some (row v))

abbrev one : Label
one = record { session = 1; k = 1 }

abbrev two : Label
two = record { session = 2; k = 1 }

abbrev again : Label
again = record { session = 1; k = 2 }

-- the replies to some events
abbrev replies : Core → List Event → List CoreReply
replies k [] = []
replies k (e ∷ es) = (step k e).reply ∷ replies (step k e).core es

-- one transaction writes both engines and commits
abbrev crossing : List Event
crossing = event.Begin one kind.Cross ∷ event.Put one (put 0 10) ∷ event.Select one ∷ event.OpenStore one ∷ event.Put one (put 1 20)
    ∷ event.Close one Mem ∷ event.Close one Store ∷ event.Draw one Mem ∷ event.Draw one Store ∷ event.Check one ∷ event.Stamp one Mem ∷ event.Stamp one Store ∷ []

crossed : replies first crossing ≡ reply.Number 0 ∷ reply.Done ∷ reply.Number 0 ∷ reply.Done ∷ reply.Done
    ∷ reply.Number 0 ∷ reply.Number 0 ∷ reply.Number 1 ∷ reply.Number 1 ∷ reply.Point (Some (commit_point 1 1)) ∷ reply.Done ∷ reply.Done ∷ []
crossed = refl

-- a reader that began before a commit does not see it, a writer meets it, and steps out of order are not lawful
abbrev skewed : List Event
skewed = event.Begin one kind.Mem ∷ event.Begin two kind.Mem ∷ event.Put two (put 0 7) ∷ event.Stamp two Mem ∷ event.Close two Mem ∷ event.Draw two Mem ∷ event.Stamp two Mem
    ∷ event.Read one 0 (Some key) ∷ event.Put one (put 0 8) ∷ event.Read one 0 None ∷ event.Begin again kind.Mem ∷ event.Read again 0 (Some key) ∷ []

skew : replies first skewed ≡ reply.Number 0 ∷ reply.Number 0 ∷ reply.Done ∷ reply.NotNow ∷ reply.Number 0 ∷ reply.Number 1 ∷ reply.Done
    ∷ reply.Rows [] ∷ reply.Refused (fault.Conflict two (why.Past 1 0)) ∷ reply.NotNow ∷ reply.Number 1 ∷ reply.Rows ((key, row 7) ∷ []) ∷ []
skew = refl

-- a check fails where a later point stands, and its numbers are void
abbrev failing : List Event
failing = event.Begin one kind.Cross ∷ event.Put one (put 0 1) ∷ event.Select one ∷ event.OpenStore one ∷ event.Put one (put 1 1) ∷ event.Close one Mem ∷ event.Close one Store ∷ event.Draw one Mem
    ∷ event.Begin two kind.Cross ∷ event.Select two ∷ event.OpenStore two ∷ event.Read two 1 None ∷ event.Draw one Store ∷ event.Check one ∷ event.Read two 0 None ∷ []

failed : replies first failing ≡ reply.Number 0 ∷ reply.Done ∷ reply.Number 0 ∷ reply.Done ∷ reply.Done ∷ reply.Number 0 ∷ reply.Number 0 ∷ reply.Number 1
    ∷ reply.Number 1 ∷ reply.Number 0 ∷ reply.Done ∷ reply.Rows [] ∷ reply.Number 1 ∷ reply.CheckFailed (selection 1 0) ∷ reply.Rows [] ∷ []
failed = refl

-- a flush of six calls on the device, a stop, and the run that starts from it
abbrev flushing : List Event
flushing = event.Cut ∷ event.FlushStep ∷ event.Cut ∷ event.FlushStep ∷ event.FlushStep ∷ event.FlushStep ∷ event.FlushStep ∷ event.FlushStep ∷ event.FlushStep ∷ event.Purge Mem
    ∷ event.Stop ∷ event.Begin two kind.Mem ∷ event.Reopen ∷ event.Begin two kind.Mem ∷ event.Read two 0 None ∷ []

abbrev after : Core → List Event → Core
after k [] = k
after k (e ∷ es) = after (step k e).core es

flushed : replies (after first crossing) flushing ≡ reply.Point (Some (commit_point 1 1)) ∷ reply.Done ∷ reply.NotNow ∷ reply.Done ∷ reply.Done ∷ reply.Done ∷ reply.Done ∷ reply.Done ∷ reply.NotNow ∷ reply.Number 0
    ∷ reply.Done ∷ reply.NotNow ∷ reply.Point (Some (selection 1 1)) ∷ reply.Number 1 ∷ reply.Rows ((key, row 10) ∷ []) ∷ []
flushed = refl

-- a commit that no flush has made durable is gone after a stop, and the one before it is there
abbrev forgetting : List Event
forgetting = event.Cut ∷ event.FlushStep ∷ event.FlushStep ∷ event.FlushStep ∷ event.FlushStep ∷ event.FlushStep ∷ event.FlushStep
    ∷ event.Begin again kind.Mem ∷ event.Put again (put 0 11) ∷ event.Close again Mem ∷ event.Draw again Mem ∷ event.Stamp again Mem
    ∷ event.Stop ∷ event.Reopen ∷ event.Begin two kind.Mem ∷ event.Read two 0 None ∷ []

forgotten : replies (after first crossing) forgetting ≡ reply.Point (Some (commit_point 1 1)) ∷ reply.Done ∷ reply.Done ∷ reply.Done ∷ reply.Done ∷ reply.Done ∷ reply.Done
    ∷ reply.Number 1 ∷ reply.Done ∷ reply.Number 1 ∷ reply.Number 2 ∷ reply.Done
    ∷ reply.Done ∷ reply.Point (Some (selection 1 1)) ∷ reply.Number 1 ∷ reply.Rows ((key, row 10) ∷ []) ∷ []
forgotten = refl
