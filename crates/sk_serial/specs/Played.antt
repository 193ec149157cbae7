-- The lines of a script as they were played: what came of each, and the text of it.
use Rattle.std.specs.Prelude.{◌≡◌, ◌⊎◌, ℕ, Bool, true, false, List, [], ◌∷◌, ◌++◌, Option, Some, None, map, length, IfSome}
use Rattle.std.specs.List.{flat_map, range_with_len, AllByRecursion}
use Rattle.sk_device.specs.Disk.{Disk}
use Rattle.sk_rows.specs.declared.table.Table.{Table}
use Rattle.sk_rows.specs.declared.statement.Statement.{Statement}
use Rattle.sk_model.specs.declared.call.Entry.{Entry}
use Rattle.sk_model.specs.declared.reply.Reply.{Reply}
use Rattle.sk_model.specs.Engine.{EngineTable}
use Rattle.sk_outcome.specs.declared.flush_note.FlushNote.{FlushNote}
use Rattle.sk_mem.specs.declared.engine.MemEngine.{MemEngine}
use Rattle.sk_store.specs.declared.engine.StoreEngine.{StoreEngine}
use Rattle.sk_durable.specs.Kept.{Kept}
use Rattle.sk_recorded.specs.Flushes.{Flush}
use Rattle.sk_run.specs.State.{RunState}
use Rattle.sk_run.specs.Told.{RunLine, AreRefused, ObeyTable}
use Rattle.sk_run.specs.Kept.{Beginning}
use Rattle.sk_run.specs.Over.{AllRest}
use Rattle.sk_run.specs.Ended.{AreSteps, HasEnded}
use Rattle.sk_run.specs.declared.ended.Ended.{Ended}
use Rattle.sk_script.specs.declared.script.Line.{Line}
use Rattle.sk_script.specs.declared.script.Line.TheVariants as line
use Rattle.sk_script.specs.declared.script.Script.{Script}
use Rattle.sk_script.specs.declared.script.ScriptLine.{ScriptLine}
use Rattle.sk_script.specs.Limits.{most_sessions}
use Rattle.sk_text.specs.Text.{reply_lines, flush_text, report}
use Rattle.sk_serial.specs.Flushed.{is_broken, IsPast}
use Rattle.sk_serial.specs.Saving.{Saved, saved_in, saved_first, saved_by, saved_last}
use Rattle.sk_serial.specs.Showing.{HasSaved, IsOnDisk}
use Rattle.sk_serial.specs.Waiting.{IsWaiting, NoneCovered, WaitsOn}
use Rattle.sk_serial.specs.Acknowledged.{Acknowledged, AllTold}
use Rattle.sk_serial.specs.Summary.{summary}

-- the tables of a script
abbrev pub tables_in : Script → List Table
tables_in script = map (λ l. l.table) script.tables

-- ---- what came of a line

-- what its session was answered, or what its flush came to
pub data Came : Type 0 where
  Answered : RunLine → Came
  Flushed : FlushNote → Came

-- who asks what: a session a statement, or STEP
abbrev pub asked_in : Line → Option (ℕ × Option Statement)
asked_in (line.Says session statement) = Some (session, Some statement)
asked_in (line.Step session) = Some (session, None)
asked_in line.Flush = None
asked_in line.Stop = None

-- the line of a session that says this, or STEP
abbrev pub line_of : ℕ → Option Statement → Line
line_of session None = line.Step session
line_of session (Some s) = line.Says session s

abbrev pub asked_by : RunLine → ℕ × Option Statement
asked_by t = (t.session, t.line.0)

-- it came of this line
abbrev pub IsOf : Came → Line → Type 0
IsOf (Answered t) l = asked_in l ≡ Some (asked_by t)
IsOf (Flushed note) l = l ≡ line.Flush

-- each of these came of its line
abbrev pub AreOf : List Came → List ScriptLine → Type 0
AreOf [] [] = Unit {0}
AreOf [] (l ∷ ls) = ⊥
AreOf (c ∷ cs) [] = ⊥
AreOf (c ∷ cs) (l ∷ ls) = IsOf c l.what × AreOf cs ls

-- what the sessions were told
abbrev pub told_in : List Came → List RunLine
told_in [] = []
told_in (Answered t ∷ cs) = t ∷ told_in cs
told_in (Flushed note ∷ cs) = told_in cs

abbrev pub came_text : Came → List ℕ
came_text (Answered t) = reply_lines t.session t.line.1
came_text (Flushed note) = flush_text note

-- what was printed for the lines
abbrev pub lines_text : List Came → List ℕ
lines_text came = flat_map came_text came

-- the last reply of a session, behind this one if there is one
abbrev pub reply_after : Option Reply → List Came → Option Reply
reply_after last [] = last
reply_after last (Answered t ∷ cs) = reply_after (Some t.line.1) cs
reply_after last (Flushed note ∷ cs) = reply_after last cs

-- who was told, and the durable cut, behind what flushes gave
abbrev pub saved_after : Saved → List Came → Saved
saved_after s [] = s
saved_after s (Answered t ∷ cs) = saved_after s cs
saved_after s (Flushed note ∷ cs) = saved_after (saved_by note s) cs

-- a flush that was refused for the length of a log came to one past the greatest
abbrev pub FullPast : ℕ → Came → Type 0
FullPast logmax (Answered t) = Unit {0}
FullPast logmax (Flushed note) = IsPast logmax note.refused

-- ---- which lines are played

-- STOP comes next
abbrev pub StopsAt : List ScriptLine → Type 0
StopsAt [] = ⊥
StopsAt (l ∷ ls) = l.what ≡ line.Stop

-- the last of these was a flush that the disk failed
abbrev pub HasBroken : List Came → Type 0
HasBroken came = (front : List Came) × (note : FlushNote) × (came ≡ front ++ Flushed note ∷ []) × (is_broken note ≡ true)

-- Behind what came, these lines are left: none, unless the run has ended, by STOP or by the disk.
abbrev pub IsCutOff : Bool → List Came → List ScriptLine → Type 0
IsCutOff false came left = left ≡ []
IsCutOff true came left = StopsAt left ⊎ HasBroken came

-- ---- the whole

-- the note of the last flush, which is made unless the run has ended before
abbrev pub last_text : Option FlushNote → List ℕ
last_text None = []
last_text (Some note) = flush_text note

abbrev pub IsLast : Bool → Option FlushNote → Type 0
IsLast false None = ⊥
IsLast false (Some note) = Unit {0}
IsLast true None = Unit {0}
IsLast true (Some note) = ⊥

-- the last flush was made, and was not refused
abbrev pub WasMade : Option FlushNote → Type 0
WasMade None = ⊥
WasMade (Some note) = note.refused ≡ None

-- A run over these tables that began so, whose logs may be so long, and of which this came, has ended so: what it hands out, the text of its lines,
-- what is saved of it, and its last reply. What the table of refusals refuses each of its sessions was answered so, and a flush was refused for the
-- length of a log only where that is past the greatest. Where the last flush was made, everybody who committed and whom the durable cut covers was
-- told.
pub record HasEnding (catalog : List Table) (b : Beginning) (logmax : ℕ) (came : List Came) (stopped : Bool) (ended : Ended) (text : List ℕ) (saved : Saved) (last : Option Reply) : Type 0 where
  pub flushes : List Flush
  pub ends : HasEnded catalog b (told_in came) flushes ended
  pub refused : ObeyTable catalog (told_in came) (range_with_len 1 most_sessions)
  pub flushed : Option FlushNote
  pub is_last : IsLast stopped flushed
  pub full : AllByRecursion (FullPast logmax) came
  pub last_full : IfSome flushed (λ (note : FlushNote). IsPast logmax note.refused)
  pub printed : text ≡ lines_text came ++ last_text flushed
  pub is_saved : saved ≡ saved_last flushed (saved_after (saved_first b.first) came)
  pub replied : last ≡ reply_after None came
  pub all_told : WasMade flushed → AllTold ended.records saved

-- what is printed of it: its lines and the report, or of a script that was generated of so many transfers the line that sums it up
abbrev pub printed_text : Option ℕ → List ℕ → Ended → Saved → Option Reply → List ℕ
printed_text None lines ended saved last = lines ++ report ended.order ended.records ended.places saved.receipts saved.cut
printed_text (Some n) lines ended saved last = summary n ended.order ended.records last saved.cut

-- So it is of these lines, up to where it was cut off, and this is printed.
pub record HasShown (catalog : List Table) (b : Beginning) (logmax : ℕ) (lines : List ScriptLine) (transfers : Option ℕ) (ended : Ended) (saved : Saved) (text : List ℕ) : Type 0 where
  pub played : List ScriptLine
  pub left : List ScriptLine
  pub lines_are : lines ≡ played ++ left
  pub came : List Came
  pub of : AreOf came played
  pub stopped : Bool
  pub cut_off : IsCutOff stopped came left
  pub said : List ℕ
  pub last : Option Reply
  pub ending : HasEnding catalog b logmax came stopped ended said saved last
  pub printed : text ≡ printed_text transfers said ended saved last

-- a run at a moment: it, the text of its lines so far, what it keeps on disk, and its last reply
pub record Now (D : Type 0) : Type 0 where
  pub run : RunState
  pub text : List ℕ
  pub store : Kept D
  pub last : Option Reply

abbrev pub now : {D : Type 0} → RunState → List ℕ → Kept D → Option Reply → Now D
now run text store last = record { run = run; text = text; store = store; last = last }

module _ {D : Type 0} (disk : Disk D) (mem : MemEngine → EngineTable → List Entry → Type 0) (store : StoreEngine → EngineTable → List Entry → Type 0) where
  -- a run over these tables that began so, on this disk, has come so far: it has kept what its sessions were told, its disk shows it, and this is the
  -- text of what came
  pub record HasPlayed (catalog : List Table) (b : Beginning) (begun : D) (came : List Came) (n : Now D) : Type 0 where
    pub saved : HasSaved disk mem store b begun (told_in came) n.run n.store
    pub waits : IsWaiting n.run n.store
    pub tables : n.run.catalog ≡ catalog
    pub sessions : length n.run.sessions ≡ most_sessions
    pub refused : AreRefused catalog 1 (told_in came) n.run.sessions
    pub full : AllByRecursion (FullPast n.store.logmax) came
    pub printed : n.text ≡ lines_text came
    pub is_saved : saved_in n.store ≡ saved_after (saved_first b.first) came
    pub replied : n.last ≡ reply_after None came

  -- whatever came so far: it has come so much further
  abbrev pub PlaysOn : Now D → List Came → Now D → Type 0
  PlaysOn old more new = (catalog : List Table) (b : Beginning) (begun : D) (came : List Came) → HasPlayed catalog b begun came old → HasPlayed catalog b begun (came ++ more) new

  -- one line more was played: this came of it, and where the run has ended by that the disk has failed
  pub record PlaysLine (old : Now D) (l : Line) (new : Now D) (ended : Bool) : Type 0 where
    pub came : Came
    pub of : IsOf came l
    pub plays : PlaysOn old (came ∷ []) new
    pub broken : ended ≡ true → HasBroken (came ∷ [])

  -- a statement of a session, or STEP
  abbrev pub PlaysSaid : Now D → ℕ → Option Statement → Now D → Type 0
  PlaysSaid old session s new = (reply : Reply) × PlaysOn old (Answered (record { session = session; line = (s, reply) }) ∷ []) new

  -- a flush; where the run has ended by that the disk has failed
  abbrev pub PlaysFlush : Now D → Now D → Bool → Type 0
  PlaysFlush old new ended = (note : FlushNote) × (is_broken note ≡ ended) × PlaysOn old (Flushed note ∷ []) new

  -- or it was STOP, which ends the run
  abbrev pub PlaysNext : Now D → Line → Now D → Bool → Type 0
  PlaysNext old l new ended = PlaysLine old l new ended ⊎ ((l ≡ line.Stop) × (new ≡ old) × (ended ≡ true))

  -- these lines were played, up to where the run was cut off
  pub record PlaysAll (old : Now D) (lines : List ScriptLine) (new : Now D) (ended : Bool) : Type 0 where
    pub played : List ScriptLine
    pub left : List ScriptLine
    pub lines_are : lines ≡ played ++ left
    pub came : List Came
    pub of : AreOf came played
    pub cut_off : IsCutOff ended came left
    pub plays : PlaysOn old came new

  -- however the run began and whatever it was told: its disk shows it still, with some lines more that are no statements
  abbrev pub SettlesOn : RunState → Kept D → RunState → Kept D → Type 0
  SettlesOn run kept new_run new_kept = (b : Beginning) (begun : D) (lines : List RunLine) → HasSaved disk mem store b begun lines run kept
      → (steps : List RunLine) × AreSteps steps × HasSaved disk mem store b begun (lines ++ steps) new_run new_kept

  -- the sessions have ended and one flush more was made, unless the run had ended before
  pub record Closes (old : Now D) (ended : Bool) (new : Now D) : Type 0 where
    pub flushed : Option FlushNote
    pub is_last : IsLast ended flushed
    pub settles : SettlesOn old.run old.store new.run new.store
    pub waits : WaitsOn old.run old.store new.run new.store
    pub rest : ended ≡ false → AllRest new.run
    pub told : WasMade flushed → NoneCovered new.store
    pub catalog : new.run.catalog ≡ old.run.catalog
    pub full : IfSome flushed (λ (note : FlushNote). IsPast old.store.logmax note.refused)
    pub printed : new.text ≡ old.text ++ last_text flushed
    pub is_saved : saved_in new.store ≡ saved_last flushed (saved_in old.store)
    pub replied : new.last ≡ old.last

  -- whatever came so far: it has ended so, its disk shows it, and these were told
  abbrev pub EndsSo : Now D → Bool → Ended → List ℕ → Saved → Option Reply → D → Bool → Type 0
  EndsSo old stopped x text saved last device broken = (catalog : List Table) (b : Beginning) (begun : D) (came : List Came) → HasPlayed catalog b begun came old
      → HasEnding catalog b old.store.logmax came stopped x text saved last × IsOnDisk disk catalog b begun x device saved.cut broken × Acknowledged x.records x.order saved.receipts saved.cut
