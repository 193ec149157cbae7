-- The puts of a journal by the transactions that made them, as a map has them.
use Rattle.std.specs.Prelude.{◌≡◌, List, [], ◌∷◌, ◌++◌, Option, Some, None, cond}
use Rattle.std.specs.Map.{lookup}
use Rattle.std.specs.BTreeMap.{is_at}
use Rattle.std.specs.Option.{unwrap_or}
use Rattle.sk_model.specs.declared.label.Label.{Label}
use Rattle.sk_model.specs.declared.commit.Write.{Write}
use Rattle.sk_model.specs.declared.call.EngineCall.{EngineCall}
use Rattle.sk_model.specs.declared.call.EngineCall.TheVariants as call
use Rattle.sk_model.specs.declared.call.EngineReply.{EngineReply}
use Rattle.sk_model.specs.declared.call.Entry.{Entry}
use Rattle.sk_model.specs.Records.{same_label}
use Rattle.sk_model.specs.Engine.{label_cmp, write_at}
use Rattle.sk_model.specs.Talks.{is_done}
use Rattle.sk_ledger.specs.Ledger.{puts_in_journal}

-- whose put the call is and what it writes, where it is one that was done
abbrev pub put_of_call : EngineCall → EngineReply → Option (Label × Write)
put_of_call (call.Put tx t key row) reply = cond (is_done reply) (Some (tx, write_at t key row)) None
put_of_call _ reply = None

abbrev pub put_of : Entry → Option (Label × Write)
put_of j = put_of_call j.call j.reply

-- the writes that the map has of this transaction
abbrev pub puts_at : List (Label × List Write) → Label → List Write
puts_at entries q = unwrap_or (lookup (is_at (label_cmp q)) entries) []

-- the writes of q, behind one more write of tx
abbrev pub with_put : Label → Label → Write → List Write → List Write
with_put q tx w ws = cond (same_label q tx) (ws ++ w ∷ []) ws

-- the map has the puts of these entries that were done, of each transaction
abbrev pub HasPuts : List (Label × List Write) → List Entry → Type 0
HasPuts entries js = (q : Label) → puts_at entries q ≡ puts_in_journal q js
