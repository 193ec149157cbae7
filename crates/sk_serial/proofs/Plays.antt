-- A line more that was played, and all lines.
use Rattle.std.specs.Prelude.{◌≡◌, ◌⊎◌, ℕ, Bool, true, false, List, [], ◌∷◌, ◌++◌, Option, Some, None, length}
use Rattle.std.proofs.Common.{refl, sym, ap, subst, ◌∙◌, inl, inr, ⊎_elim}
use Rattle.std.proofs.lemmas.List.{append-nil, append_assoc}
use Rattle.sk_device.specs.Disk.{Disk}
use Rattle.sk_rows.specs.declared.table.Table.{Table}
use Rattle.sk_rows.specs.declared.statement.Statement.{Statement}
use Rattle.sk_model.specs.declared.call.Entry.{Entry}
use Rattle.sk_model.specs.declared.reply.Reply.{Reply}
use Rattle.sk_model.specs.Engine.{EngineTable}
use Rattle.sk_outcome.specs.declared.flush_note.FlushNote.{FlushNote}
use Rattle.sk_mem.specs.declared.engine.MemEngine.{MemEngine}
use Rattle.sk_store.specs.declared.engine.StoreEngine.{StoreEngine}
use Rattle.sk_session.specs.declared.session.Session.{Session}
use Rattle.sk_run.specs.State.{RunState}
use Rattle.sk_run.specs.Told.{RunLine, AreRefused}
use Rattle.sk_durable.specs.Kept.{Kept}
use Rattle.sk_recover.specs.declared.opening.Opened.{Opened}
use Rattle.sk_run.specs.Kept.{Beginning, HasKept, KeepsOn, RefusesOn}
use Rattle.sk_run.specs.Flushing.{KeepsStill}
use Rattle.sk_run.specs.Over.{NoneOver}
use Rattle.sk_script.specs.declared.script.Line.TheVariants as line
use Rattle.sk_script.specs.declared.script.ScriptLine.{ScriptLine}
use Rattle.sk_script.specs.Limits.{most_sessions}
use Rattle.sk_text.specs.Text.{reply_lines, flush_text}
use Rattle.sk_serial.specs.Flushed.{IsPast}
use Rattle.sk_serial.specs.Saving.{saved_in, saved_first, saved_by}
use Rattle.sk_serial.specs.Showing.{IsStill, HasSaved, SavesOn}
use Rattle.sk_serial.specs.Stored.{beginning}
use Rattle.sk_serial.specs.Waiting.{KeepsQueue, WaitsOn}
use Rattle.sk_run.proofs.Over.{stay_same}
use Rattle.sk_serial.proofs.Waiting.{waits_none, waits_same}
use Rattle.sk_serial.proofs.Showing.{shows_none, shows_still}
use Rattle.sk_serial.specs.Played.{Came, Answered, Flushed, IsOf, AreOf, HasBroken, StopsAt, line_of, told_in, Now, now, HasPlayed, PlaysOn, PlaysLine, PlaysSaid, PlaysFlush, PlaysNext}
use Rattle.sk_serial.proofs.Came.{told_more, text_more, reply_more, saved_more, of_more, broken_more, full_more}

-- what a run was told by a line
abbrev pub told_by : ℕ → Option Statement → Reply → RunLine
told_by session s reply = record { session = session; line = (s, reply) }

of_line : (session : ℕ) (s : Option Statement) (reply : Reply) → IsOf (Answered (told_by session s reply)) (line_of session s)
of_line session None reply = refl
of_line session (Some s) reply = refl

-- ---- lines that are left

-- behind what came of these lines, these are left of all, and these are still to come where the run goes on
abbrev pub IsCutAt : Bool → List Came → List ScriptLine → List ScriptLine → Type 0
IsCutAt false came left rest = left ≡ rest
IsCutAt true came left rest = StopsAt left ⊎ HasBroken came

-- one more was played, and where the run has ended by that the disk has failed
cut_more : (ended : Bool) (came : List Came) (c : Came) (rest : List ScriptLine) → (ended ≡ true → HasBroken (c ∷ [])) → IsCutAt ended (came ++ c ∷ []) rest rest
cut_more false came c rest broken = refl
cut_more true came c rest broken = inr (broken_more came (c ∷ []) (broken refl))

module _ {D : Type 0} (disk : Disk D) (mem : MemEngine → EngineTable → List Entry → Type 0) (store : StoreEngine → EngineTable → List Entry → Type 0) where
  -- before the first line of a run over an opened store
  pub plays_none : (opened : Opened) (device : D) (run : RunState) (text : List ℕ) (kept : Kept D) → HasKept mem store (beginning opened) [] [] run → AreRefused run.catalog 1 [] run.sessions → run.catalog ≡ opened.catalog
      → length run.sessions ≡ most_sessions → text ≡ [] → kept.disk ≡ device → kept.cut ≡ opened.cut → kept.receipts ≡ [] → kept.queued ≡ [] → NoneOver run → HasPlayed disk mem store opened.catalog (beginning opened) device [] (now run text kept None)
  plays_none opened device run text kept has refused tables sessions printed same cut told none over = record {
    saved = record { flushes = []; tried = []; has_kept = has; shows = rw (same, cut) (shows_none disk opened.cut device kept.broken) };
    waits = waits_none run kept over none;
    tables = tables;
    sessions = sessions;
    refused = subst (λ (c : List Table). AreRefused c 1 [] run.sessions) tables refused;
    full = tt;
    printed = printed;
    is_saved = rw (told, cut) refl;
    replied = refl;
  }

  -- ---- one line

  -- the run has kept one line more, and the disk was left alone
  saves_line : (old new : RunState) (kept new_kept : Kept D) (session : ℕ) (s : Option Statement) (reply : Reply) → KeepsOn mem store old session s new reply → IsStill kept new_kept
      → (b : Beginning) (begun : D) (lines : List RunLine) → HasSaved disk mem store b begun lines old kept → HasSaved disk mem store b begun (lines ++ told_by session s reply ∷ []) new new_kept
  saves_line old new kept new_kept session s reply keeps still b begun lines h = record {
    flushes = h.flushes;
    tried = h.tried;
    has_kept = keeps b lines (h.flushes ++ h.tried) h.has_kept;
    shows = shows_still disk b.first begun h.flushes h.tried kept new_kept still h.shows;
  }

  pub plays_said : (old new : Now D) (session : ℕ) (s : Option Statement) (reply : Reply) → KeepsOn mem store old.run session s new.run reply → RefusesOn mem store old.run session s new.run reply
      → new.run.catalog ≡ old.run.catalog → length new.run.sessions ≡ length old.run.sessions → new.text ≡ old.text ++ reply_lines session reply → IsStill old.store new.store → saved_in new.store ≡ saved_in old.store → new.store.logmax ≡ old.store.logmax → (length old.run.sessions ≡ most_sessions → WaitsOn old.run old.store new.run new.store) → new.last ≡ Some reply
      → PlaysSaid disk mem store old session s new
  plays_said old new session s reply keeps refuses tables sessions printed still saved limit waits last = (
    reply,
    λ catalog b begun came h.
        let told : told_in (came ++ Answered (told_by session s reply) ∷ []) ≡ told_in came ++ told_by session s reply ∷ [] = told_more came (Answered (told_by session s reply) ∷ []) in
        record {
          saved = subst (λ (ls : List RunLine). HasSaved disk mem store b begun ls new.run new.store) (sym told) (saves_line old.run new.run old.store new.store session s reply keeps still b begun (told_in came) h.saved);
          waits = waits h.sessions h.waits;
          tables = tables ∙ h.tables;
          sessions = sessions ∙ h.sessions;
          refused = subst (λ (ls : List RunLine). AreRefused catalog 1 ls new.run.sessions) (sym told)
              (subst (λ (c : List Table). AreRefused c 1 (told_in came ++ told_by session s reply ∷ []) new.run.sessions) h.tables
              (refuses b (told_in came) (h.saved.flushes ++ h.saved.tried) h.saved.has_kept (subst (λ (c : List Table). AreRefused c 1 (told_in came) old.run.sessions) (sym h.tables) h.refused)));
          full = full_more old.store.logmax new.store.logmax limit came (Answered (told_by session s reply)) h.full tt;
          printed = printed ∙ ap (λ (xs : List ℕ). xs ++ reply_lines session reply) h.printed ∙ sym (text_more came (Answered (told_by session s reply)));
          is_saved = saved ∙ h.is_saved ∙ sym (saved_more (saved_first b.first) came (Answered (told_by session s reply) ∷ []));
          replied = last ∙ sym (reply_more None came (Answered (told_by session s reply) ∷ []));
        },
  )

  pub plays_flush : (old new : Now D) (note : FlushNote) → KeepsStill mem store old.run new.run → SavesOn disk mem store old.run old.store new.run new.store → new.text ≡ old.text ++ flush_text note → saved_in new.store ≡ saved_by note (saved_in old.store) → new.store.logmax ≡ old.store.logmax → IsPast old.store.logmax note.refused → KeepsQueue old.store new.store → new.last ≡ old.last
      → PlaysOn disk mem store old (Flushed note ∷ []) new
  plays_flush old new note still saves printed saved limit full queue last catalog b begun came h =
      let told : told_in (came ++ Flushed note ∷ []) ≡ told_in came = told_more came (Flushed note ∷ []) ∙ append-nil (told_in came) in
      record {
        saved = subst (λ (ls : List RunLine). HasSaved disk mem store b begun ls new.run new.store) (sym told) (saves b begun (told_in came) h.saved);
        waits = waits_same old.run new.run old.store new.store (stay_same old.run new.run still.sessions) (stay_same new.run old.run (sym still.sessions)) queue h.waits;
        tables = still.catalog ∙ h.tables;
        sessions = ap length still.sessions ∙ h.sessions;
        refused = subst (λ (ls : List RunLine). AreRefused catalog 1 ls new.run.sessions) (sym told) (subst (λ (ss : List Session). AreRefused catalog 1 (told_in came) ss) (sym still.sessions) h.refused);
        full = full_more old.store.logmax new.store.logmax limit came (Flushed note) h.full (subst (λ (n : ℕ). IsPast n note.refused) (sym limit) full);
        printed = printed ∙ ap (λ (xs : List ℕ). xs ++ flush_text note) h.printed ∙ sym (text_more came (Flushed note));
        is_saved = saved ∙ ap (saved_by note) h.is_saved ∙ sym (saved_more (saved_first b.first) came (Flushed note ∷ []));
        replied = last ∙ h.replied ∙ sym (reply_more None came (Flushed note ∷ []));
      }

  -- a line of a session is one that was played
  pub said_next : (old new : Now D) (session : ℕ) (s : Option Statement) (ended : Bool) → ended ≡ false → PlaysSaid disk mem store old session s new → PlaysNext disk mem store old (line_of session s) new ended
  said_next old new session s ended going (reply, plays) = inl (record {
    came = Answered (told_by session s reply);
    of = of_line session s reply;
    plays = plays;
    broken = λ e. absurd (let f = going in cc);
  })

  pub flush_next : (old new : Now D) (ended : Bool) → PlaysFlush disk mem store old new ended → PlaysNext disk mem store old line.Flush new ended
  flush_next old new ended (note, broken, plays) = inl (record {
    came = Flushed note;
    of = refl;
    plays = plays;
    broken = λ e. ([], note, refl, broken ∙ e);
  })

  -- ---- all lines

  -- of all lines these were played, and the run goes on with the rest unless it has ended
  pub record SoFar (old : Now D) (all : List ScriptLine) (new : Now D) (ended : Bool) (rest : List ScriptLine) : Type 0 where
    pub played : List ScriptLine
    pub left : List ScriptLine
    pub lines_are : all ≡ played ++ left
    pub came : List Came
    pub of : AreOf came played
    pub cut_at : IsCutAt ended came left rest
    pub plays : PlaysOn disk mem store old came new

  pub so_far_first : (old : Now D) (all : List ScriptLine) → SoFar old all old false all
  so_far_first old all = record {
    played = [];
    left = all;
    lines_are = refl;
    came = [];
    of = tt;
    cut_at = refl;
    plays = λ catalog rows first came h. subst (λ (cs : List Came). HasPlayed disk mem store catalog rows first cs old) (sym (append-nil came)) h;
  }

  -- one line more was played
  so_far_line : (old now new : Now D) (all : List ScriptLine) (l : ScriptLine) (rest : List ScriptLine) (ended : Bool) → SoFar old all now false (l ∷ rest) → PlaysLine disk mem store now l.what new ended → SoFar old all new ended rest
  so_far_line old now new all l rest ended f p = record {
    played = f.played ++ l ∷ [];
    left = rest;
    lines_are = f.lines_are ∙ ap (λ (xs : List ScriptLine). f.played ++ xs) f.cut_at ∙ sym (append_assoc f.played (l ∷ []) rest);
    came = f.came ++ p.came ∷ [];
    of = of_more f.came f.played p.came l f.of p.of;
    cut_at = cut_more ended f.came p.came rest p.broken;
    plays = λ catalog rows first came h.
        subst (λ (cs : List Came). HasPlayed disk mem store catalog rows first cs new) (append_assoc came f.came (p.came ∷ [])) (p.plays catalog rows first (came ++ f.came) (f.plays catalog rows first came h));
  }

  -- STOP came
  so_far_stop : (old now new : Now D) (all : List ScriptLine) (l : ScriptLine) (rest : List ScriptLine) → SoFar old all now false (l ∷ rest) → l.what ≡ line.Stop → new ≡ now → SoFar old all new true rest
  so_far_stop old now new all l rest f stops same = record {
    played = f.played;
    left = f.left;
    lines_are = f.lines_are;
    came = f.came;
    of = f.of;
    cut_at = inl (subst StopsAt (sym f.cut_at) stops);
    plays = subst (λ (n : Now D). PlaysOn disk mem store old f.came n) (sym same) f.plays;
  }

  pub so_far_next : (old now new : Now D) (all : List ScriptLine) (l : ScriptLine) (rest : List ScriptLine) (was ended : Bool) → was ≡ false → SoFar old all now was (l ∷ rest) → PlaysNext disk mem store now l.what new ended → SoFar old all new ended rest
  so_far_next old now new all l rest true ended going f next = absurd (cc)
  so_far_next old now new all l rest false ended going f next = ⊎_elim
      (λ (p : PlaysLine disk mem store now l.what new ended). so_far_line old now new all l rest ended f p)
      (λ (p : (l.what ≡ line.Stop) × (new ≡ now) × (ended ≡ true)). subst (λ (e : Bool). SoFar old all new e rest) (sym p.2) (so_far_stop old now new all l rest f p.0 p.1))
      next

  -- a line that is not played any more
  pub so_far_over : (old now : Now D) (all : List ScriptLine) (l : ScriptLine) (rest : List ScriptLine) (ended : Bool) → ended ≡ true → SoFar old all now ended (l ∷ rest) → SoFar old all now ended rest
  so_far_over old now all l rest false over f = absurd (cc)
  so_far_over old now all l rest true over f = record { played = f.played; left = f.left; lines_are = f.lines_are; came = f.came; of = f.of; cut_at = f.cut_at; plays = f.plays }

  -- a line that is played, or passed where the run has ended
  pub so_far_step : (old before new : Now D) (all : List ScriptLine) (l : ScriptLine) (rest : List ScriptLine) (was ended : Bool) → SoFar old all before was (l ∷ rest)
      → (was ≡ true → (new ≡ before) × (ended ≡ was)) → (was ≡ false → PlaysNext disk mem store before l.what new ended) → SoFar old all new ended rest
  so_far_step old before new all l rest true ended f passed played =
      let p : (new ≡ before) × (ended ≡ true) = passed refl in
      subst (λ (e : Bool). SoFar old all new e rest) (sym p.1) (subst (λ (n : Now D). SoFar old all n true rest) (sym p.0) (so_far_over old before all l rest true refl f))
  so_far_step old before new all l rest false ended f passed played = so_far_next old before new all l rest false ended refl f (played refl)
