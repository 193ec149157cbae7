-- The texts that a run prints: the replies and what flushes give in the order of their lines, and then the report of its
-- commits and transactions.
use Rattle.std.specs.Prelude.{ℕ, List, [], ◌∷◌, ◌++◌, Option, Some, None, Bool, true, false, if◌then◌else◌, ◌==◌, length, codes}
use Rattle.std.specs.List.{flat_map, list_any}
use Rattle.std.specs.Fmt.{decimal, signed_decimal}
use Rattle.sk_rows.specs.declared.value.Value.{Value}
use Rattle.sk_rows.specs.declared.value.Value.TheVariants as value
use Rattle.sk_model.specs.declared.label.Label.{Label}
use Rattle.sk_model.specs.declared.engine.EngineName.{EngineName}
use Rattle.sk_model.specs.declared.engine.EngineName.TheVariants as engine
use Rattle.sk_model.specs.declared.step.StepName.{StepName}
use Rattle.sk_model.specs.declared.step.StepName.TheVariants as step
use Rattle.sk_model.specs.declared.reply.Why.{Why}
use Rattle.sk_model.specs.declared.reply.Why.TheVariants as why
use Rattle.sk_model.specs.declared.reply.ErrWord.{ErrWord}
use Rattle.sk_model.specs.declared.reply.ErrWord.TheVariants as err
use Rattle.sk_model.specs.declared.reply.Reply.{Reply}
use Rattle.sk_model.specs.declared.reply.Reply.TheVariants as reply
use Rattle.sk_model.specs.declared.commit.Commit.{Commit}
use Rattle.sk_model.specs.declared.point.Point.{Point}
use Rattle.sk_model.specs.declared.record.TxKind.{TxKind}
use Rattle.sk_model.specs.declared.record.TxKind.TheVariants as kind
use Rattle.sk_model.specs.declared.record.Ending.{Ending}
use Rattle.sk_model.specs.declared.record.Ending.TheVariants as ending
use Rattle.sk_model.specs.declared.record.Record.{Record}
use Rattle.sk_model.specs.declared.receipt.Receipt.{Receipt}
use Rattle.sk_model.specs.declared.receipt.FlushFault.{FlushFault}
use Rattle.sk_model.specs.declared.receipt.FlushFault.TheVariants as refusal
use Rattle.sk_model.specs.declared.call.EngineFault.{EngineFault}
use Rattle.sk_model.specs.declared.call.EngineFault.TheVariants as fault
use Rattle.sk_model.specs.Records.{same_label}
use Rattle.sk_outcome.specs.declared.flush_note.FlushNote.{FlushNote}

-- a number, or `-` where there is none
abbrev pub number_text : Option ℕ → List ℕ
number_text None = codes "-"
number_text (Some n) = decimal n

unfoldable pub two_text : ℕ → ℕ → List ℕ
two_text a b = decimal a ++ codes " " ++ decimal b

abbrev pub label_text : Label → List ℕ
label_text label = decimal label.session ++ codes "." ++ decimal label.k

-- a quote stands doubled
abbrev pub quoted : ℕ → List ℕ
quoted b = if b == 39 then 39 ∷ 39 ∷ [] else b ∷ []

abbrev pub value_text : Value → List ℕ
value_text (value.Int n) = signed_decimal n
value_text (value.Text t) = codes "'" ++ flat_map quoted t ++ codes "'"
value_text (value.Bool true) = codes "TRUE"
value_text (value.Bool false) = codes "FALSE"

-- the values after the first of a row
abbrev pub more_values : List Value → List ℕ
more_values vs = flat_map (λ v. codes ", " ++ value_text v) vs

abbrev pub row_text : List Value → List ℕ
row_text [] = []
row_text (v ∷ vs) = value_text v ++ more_values vs

abbrev pub engine_text : EngineName → List ℕ
engine_text engine.Mem = codes "memory"
engine_text engine.Store = codes "storage"

abbrev pub step_text : StepName → List ℕ
step_text step.CloseMem = codes "close m"
step_text step.CloseStore = codes "close s"
step_text step.DrawMem = codes "draw m"
step_text step.DrawStore = codes "draw s"
step_text step.Check = codes "check"
step_text step.StampMem = codes "stamp m"
step_text step.StampStore = codes "stamp s"

abbrev pub drawn_text : Option ℕ → List ℕ
drawn_text None = []
drawn_text (Some n) = codes " " ++ decimal n

abbrev pub why_text : Why → List ℕ
why_text why.Open = codes "open"
why_text why.Closed = codes "closed"
why_text (why.Past n s) = codes "past " ++ decimal n ++ codes " " ++ decimal s

abbrev pub word_text : ErrWord → List ℕ
word_text err.Committing = codes "committing"
word_text err.Ended = codes "ended"
word_text err.InTransaction = codes "intransaction"
word_text err.NoTransaction = codes "notransaction"
word_text err.Table = codes "table"
word_text err.Column = codes "column"
word_text err.Key = codes "key"
word_text err.Type = codes "type"
word_text err.Engine = codes "engine"
word_text err.Overflow = codes "overflow"
word_text err.Duplicate = codes "duplicate"
word_text err.Size = codes "size"
word_text err.Device = codes "device"
word_text err.Memory = codes "memory"

unfoldable pub failed_at : Point → List ℕ
failed_at point = codes "CHECKFAILED " ++ decimal point.a ++ codes " " ++ decimal point.b

-- a reply on one line, which is any but rows
abbrev pub reply_text : Reply → List ℕ
reply_text (reply.Began label) = codes "OK " ++ label_text label
reply_text (reply.Count n) = codes "COUNT " ++ decimal n
reply_text (reply.Rows rows) = codes "ROWS " ++ decimal (length rows)
reply_text reply.Committed = codes "COMMITTED"
reply_text reply.RolledBack = codes "ROLLEDBACK"
reply_text (reply.Step step drawn) = codes "STEP " ++ step_text step ++ drawn_text drawn
reply_text (reply.CheckFailed point mem store) =
    failed_at point ++ codes " drew " ++ two_text mem store
reply_text (reply.Spent engine) = codes "SPENT " ++ engine_text engine
reply_text (reply.Conflict by why) = codes "CONFLICT " ++ label_text by ++ codes " " ++ why_text why
reply_text (reply.Busy by) = codes "BUSY " ++ label_text by
reply_text (reply.Recycled at) =
    codes "RECYCLED " ++ decimal at.a ++ codes " " ++ decimal at.oldest.a ++ codes " " ++ decimal at.oldest.b
reply_text (reply.Old engine snapshot horizon) =
    codes "OLD " ++ engine_text engine ++ codes " " ++ decimal snapshot ++ codes " " ++ decimal horizon
reply_text (reply.Refused word) = codes "ERR " ++ word_text word

-- a line of a session
abbrev pub session_line : ℕ → List ℕ → List ℕ
session_line session text = decimal session ++ codes ": " ++ text ++ codes "\n"

abbrev pub row_line : ℕ → List Value → List ℕ
row_line session row = session_line session (codes "ROW " ++ row_text row)

abbrev pub row_lines : ℕ → List (List Value) → List ℕ
row_lines session rows = flat_map (row_line session) rows

-- the rows of a reply, one line each
abbrev pub rows_before : ℕ → Reply → List ℕ
rows_before session (reply.Rows rows) = row_lines session rows
rows_before session _ = []

unfoldable pub reply_lines : ℕ → Reply → List ℕ
reply_lines session reply = rows_before session reply ++ session_line session (reply_text reply)

-- the replies in the order of their lines, each with its line's session
abbrev pub replies_text : List (ℕ × Reply) → List ℕ
replies_text replies = flat_map (λ r. reply_lines r.0 r.1) replies

-- ---- what a flush gives

-- a transaction is durable
abbrev pub ack_line : Receipt → List ℕ
ack_line r = codes "ACK " ++ label_text r.label ++ codes "\n"

-- the durable cut behind a flush
unfoldable pub flush_line : Point → List ℕ
flush_line cut = codes "FLUSH " ++ decimal cut.a ++ codes " " ++ decimal cut.b ++ codes "\n"

-- a flush that was refused; of a log that is full, the length that it would have
abbrev pub refused_line : FlushFault → List ℕ
refused_line refusal.Device = codes "FLUSH device\n"
refused_line (refusal.LogFull n) = codes "FLUSH full " ++ decimal n ++ codes "\n"
refused_line refusal.NoMemory = codes "FLUSH memory\n"

-- its receipts and the cut, or its refusal alone
abbrev pub flushed_by : Option FlushFault → List Receipt → Point → List ℕ
flushed_by None receipts cut = flat_map ack_line receipts ++ flush_line cut
flushed_by (Some refused) receipts cut = refused_line refused

-- where its commits could not be read, that alone
abbrev pub flushed_lines : FlushNote → List ℕ
flushed_lines note = if note.unread then codes "SWEEP device\n" else flushed_by note.refused note.receipts note.cut

-- a purge that failed
abbrev pub sweep_line : Option EngineFault → List ℕ
sweep_line None = []
sweep_line (Some fault.NoMemory) = codes "SWEEP memory\n"
sweep_line (Some _) = codes "SWEEP device\n"

-- the lines of a flush, and of the purges that follow it, the memory engine's first
unfoldable pub flush_text : FlushNote → List ℕ
flush_text note = flushed_lines note ++ sweep_line note.sweep_mem ++ sweep_line note.sweep_store

-- ---- the report

abbrev pub order_line : Commit → List ℕ
order_line c =
    codes "ORDER " ++ label_text c.label ++ codes " " ++ number_text c.mem ++ codes " " ++ number_text c.store ++ codes "\n"

abbrev pub kind_text : TxKind → List ℕ
kind_text kind.Cross = codes "cross"
kind_text kind.Mem = codes "memory"
kind_text kind.Store = codes "storage"

abbrev pub ending_text : Ending → List ℕ
ending_text ending.Open = codes "open"
ending_text ending.Committed = codes "committed"
ending_text ending.RolledBack = codes "rolledback"
ending_text ending.Conflict = codes "conflict"
ending_text ending.CheckFailed = codes "checkfailed"
ending_text ending.Recycled = codes "recycled"
ending_text ending.Old = codes "old"
ending_text ending.Spent = codes "spent"
ending_text ending.Device = codes "device"
ending_text ending.NoMemory = codes "memory"

-- two numbers
abbrev pub pair_text : Option ℕ → Option ℕ → List ℕ
pair_text mem store = number_text mem ++ codes " " ++ number_text store

-- what is said of acknowledgement. The flag: a receipt names the transaction.
abbrev pub ack_text : Bool → Ending → List ℕ
ack_text is_named ending.Committed = if is_named then codes "acked" else codes "pending"
ack_text is_named _ = codes "-"

-- the line of a transaction that read a prefix of this length
unfoldable pub record_line : Bool → Record → ℕ → List ℕ
record_line is_named r place =
    codes "TX " ++ label_text r.label ++ codes " " ++ kind_text r.kind ++ codes " " ++ pair_text r.mem r.store
    ++ codes " " ++ decimal place ++ codes " " ++ ending_text r.ending ++ codes " " ++ pair_text r.drew_mem r.drew_store
    ++ codes " " ++ ack_text is_named r.ending ++ codes "\n"

-- the lines of transactions, where a test says which of them receipts name
abbrev pub record_lines : (Label → Bool) → List Record → List ℕ → List ℕ
record_lines named [] places = []
record_lines named (r ∷ rs) [] = []
record_lines named (r ∷ rs) (p ∷ ps) = record_line (named r.label) r p ++ record_lines named rs ps

-- one of the receipts names the transaction
abbrev pub is_named : List Receipt → Label → Bool
is_named receipts label = list_any (λ r. same_label r.label label) receipts

-- the durable cut at the end
unfoldable pub cut_line : Point → List ℕ
cut_line cut = codes "CUT " ++ decimal cut.a ++ codes " " ++ decimal cut.b ++ codes "\n"

-- what stands behind the replies: the list of commits, the transactions with the lengths of the prefixes that they read, and
-- the durable cut. A committed transaction is acknowledged where a receipt of the run names it.
unfoldable pub report : List Commit → List Record → List ℕ → List Receipt → Point → List ℕ
report order records places receipts cut =
    flat_map order_line order ++ record_lines (is_named receipts) records places ++ cut_line cut

-- the one line of a run whose script has its first fault at this line and place
unfoldable pub script_fault_text : ℕ → ℕ → List ℕ
script_fault_text line place = codes "FAULT script " ++ decimal line ++ codes " " ++ decimal place ++ codes "\n"
