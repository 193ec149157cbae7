-- The end of a run.
use Rattle.std.specs.Prelude.{◌≡◌, ℕ, Bool, true, false, List, [], ◌++◌, Option, Some, None}
use Rattle.std.specs.List.{range_with_len}
use Rattle.std.proofs.Common.{refl, sym, ap, subst, ◌∙◌}
use Rattle.std.proofs.lemmas.List.{append-nil}
use Rattle.sk_device.specs.Disk.{Disk}
use Rattle.sk_rows.specs.declared.table.Table.{Table}
use Rattle.sk_model.specs.declared.call.Entry.{Entry}
use Rattle.sk_model.specs.declared.reply.Reply.{Reply}
use Rattle.sk_model.specs.Engine.{EngineTable}
use Rattle.sk_outcome.specs.declared.flush_note.FlushNote.{FlushNote}
use Rattle.sk_mem.specs.declared.engine.MemEngine.{MemEngine}
use Rattle.sk_store.specs.declared.engine.StoreEngine.{StoreEngine}
use Rattle.sk_durable.specs.Kept.{Kept}
use Rattle.sk_recorded.specs.Flushes.{Flush}
use Rattle.sk_run.specs.State.{RunState}
use Rattle.sk_run.specs.Told.{RunLine, ObeyTable}
use Rattle.sk_run.specs.Kept.{HasKept}
use Rattle.sk_run.specs.Flushing.{KeepsStill}
use Rattle.sk_run.specs.Ended.{AreSteps, HasEnded, Settles, HandsOut}
use Rattle.sk_run.specs.declared.ended.Ended.{Ended}
use Rattle.sk_run.proofs.Refusing.{obey}
use Rattle.sk_serial.specs.Flushed.{IsPast}
use Rattle.sk_serial.specs.Saving.{Saved, saved_in, saved_by, saved_last}
use Rattle.sk_serial.specs.Showing.{IsStill, HasSaved, SavesOn}
use Rattle.sk_serial.specs.Played.{told_in, last_text, IsLast, WasMade, Now, SettlesOn, Closes, EndsSo}
use Rattle.sk_model.proofs.Lists.{Each}
use Rattle.sk_session.specs.declared.session.Session.{Session}
use Rattle.sk_session.specs.Over.{Rests}
use Rattle.sk_run.specs.Over.{AllRest, HasAllOver, HasOnlyOver}
use Rattle.sk_run.proofs.Over.{stay_same}
use Rattle.sk_cut.specs.Acked.{Acked}
use Rattle.sk_serial.specs.Waiting.{KeepsQueue, NoneCovered, WaitsOn}
use Rattle.sk_serial.specs.Acknowledged.{Acknowledged}
use Rattle.sk_serial.proofs.Acknowledged.{acknowledged_at}
use Rattle.sk_serial.proofs.Waiting.{all_told, waits_same, waits_on}
use Rattle.sk_serial.proofs.Showing.{shows_still}

-- where the last flush was made the run had not ended before
goes_on : (stopped : Bool) (flushed : Option FlushNote) → IsLast stopped flushed → WasMade flushed → stopped ≡ false
goes_on false flushed last made = refl
goes_on true None last made = absurd made
goes_on true (Some note) last made = absurd last

module _ {D : Type 0} (disk : Disk D) (mem : MemEngine → EngineTable → List Entry → Type 0) (store : StoreEngine → EngineTable → List Entry → Type 0) where
  -- one behind the other
  pub still_then : (old mid new : RunState) → KeepsStill mem store old mid → KeepsStill mem store mid new → KeepsStill mem store old new
  still_then old mid new a b = record { catalog = b.catalog ∙ a.catalog; sessions = b.sessions ∙ a.sessions; kept = λ rows lines fs h. b.kept rows lines fs (a.kept rows lines fs h) }

  -- sessions ended, and the disk was left alone
  pub settles_still : (run new : RunState) (kept new_kept : Kept D) → Settles mem store run new → IsStill kept new_kept → SettlesOn disk mem store run kept new new_kept
  settles_still run new kept new_kept settles still b begun lines h =
      let t : (steps : List RunLine) × AreSteps steps × HasKept mem store b (lines ++ steps) (h.flushes ++ h.tried) new = settles b lines (h.flushes ++ h.tried) h.has_kept in
      (t.0, t.1, record { flushes = h.flushes; tried = h.tried; has_kept = t.2; shows = shows_still disk b.first begun h.flushes h.tried kept new_kept still h.shows })

  -- and then a flush was made
  settles_flushed : (run mid new : RunState) (kept between last : Kept D) → SettlesOn disk mem store run kept mid between → SavesOn disk mem store mid between new last → SettlesOn disk mem store run kept new last
  settles_flushed run mid new kept between last settles saves b begun lines h = let t = settles b begun lines h in (t.0, t.1, saves b begun (lines ++ t.0) t.2)

  -- nothing was done
  settles_nothing : (run : RunState) (kept : Kept D) → SettlesOn disk mem store run kept run kept
  settles_nothing run kept b begun lines h = ([], tt, subst (λ (ls : List RunLine). HasSaved disk mem store b begun ls run kept) (sym (append-nil lines)) h)

  -- the run had ended before
  pub closes_none : (old : Now D) (ended : Bool) → ended ≡ true → Closes disk mem store old ended old
  closes_none old false is = absurd (cc)
  closes_none old true is = record {
    flushed = None;
    is_last = tt;
    settles = settles_nothing old.run old.store;
    waits = λ h. h;
    rest = λ e. absurd (cc);
    told = λ made. absurd made;
    catalog = refl;
    full = tt;
    printed = sym (append-nil old.text);
    is_saved = refl;
    replied = refl;
  }

  -- the sessions ended, and a flush was made
  pub closes_all : (old new : Now D) (settled : RunState) (between : Kept D) (note : FlushNote) (ended : Bool) → ended ≡ false → Settles mem store old.run settled → IsStill old.store between → WaitsOn old.run old.store settled between → AllRest settled → settled.catalog ≡ old.run.catalog → between.logmax ≡ old.store.logmax
      → KeepsStill mem store settled new.run → SavesOn disk mem store settled between new.run new.store → KeepsQueue between new.store → (note.refused ≡ None → NoneCovered new.store) → IsPast between.logmax note.refused
      → new.text ≡ old.text ++ last_text (Some note) → saved_in new.store ≡ saved_by note (saved_in old.store) → new.last ≡ old.last → Closes disk mem store old ended new
  closes_all old new settled between note true is settles same waits rest tables limit still saves queue told full printed saved last = absurd (cc)
  closes_all old new settled between note false is settles same waits rest tables limit still saves queue told full printed saved last = record {
    flushed = Some note;
    is_last = tt;
    settles = settles_flushed old.run settled new.run old.store between new.store (settles_still old.run settled old.store between settles same) saves;
    waits = waits_on old.run settled new.run old.store between new.store waits
        (waits_same settled new.run between new.store (stay_same settled new.run still.sessions) (stay_same new.run settled (sym still.sessions)) queue);
    rest = λ _. subst (Each (λ (s : Session). Rests s.at)) (sym still.sessions) rest;
    told = told;
    catalog = still.catalog ∙ tables;
    full = subst (λ (n : ℕ). IsPast n note.refused) limit full;
    printed = printed;
    is_saved = saved;
    replied = last;
  }

  pub ends_so : (old new : Now D) (stopped : Bool) (x : Ended) (text : List ℕ) (saved : Saved) (last : Option Reply) (device : D) (broken : Bool) → Closes disk mem store old stopped new → HandsOut mem store new.run x → HasAllOver new.run x.records → (AllRest new.run → HasOnlyOver new.run x.records)
      → Acked new.store.queued new.store.receipts new.store.cut → text ≡ new.text → saved ≡ saved_in new.store → last ≡ new.last → device ≡ new.store.disk → broken ≡ new.store.broken → EndsSo disk mem store old stopped x text saved last device broken
  ends_so old new stopped x text saved last device broken closes hands has only acked printed is_saved replied same whole catalog b begun came h =
      let t : (steps : List RunLine) × AreSteps steps × HasSaved disk mem store b begun (told_in came ++ steps) new.run new.store = closes.settles b begun (told_in came) h.saved in
      let fs : List Flush = t.2.flushes ++ t.2.tried in
      let ended : HasEnded catalog b (told_in came) fs x = subst (λ (c : List Table). HasEnded c b (told_in came) fs x) (closes.catalog ∙ h.tables) (hands b (told_in came) t.0 fs t.1 t.2.has_kept) in (
        record {
          flushes = fs;
          ends = ended;
          refused = subst (λ (n : ℕ). ObeyTable catalog (told_in came) (range_with_len 1 n)) h.sessions (obey catalog 1 (told_in came) old.run.sessions h.refused);
          flushed = closes.flushed;
          is_last = closes.is_last;
          full = h.full;
          last_full = closes.full;
          printed = printed ∙ closes.printed ∙ ap (λ (xs : List ℕ). xs ++ last_text closes.flushed) h.printed;
          is_saved = is_saved ∙ closes.is_saved ∙ ap (saved_last closes.flushed) h.is_saved;
          replied = replied ∙ closes.replied ∙ h.replied;
          all_told = λ made. all_told new.run x.records new.store saved is_saved (only (closes.rest (goes_on stopped closes.flushed closes.is_last made))) (closes.waits h.waits) (closes.told made);
        },
        record {
          flushes = t.2.flushes;
          tried = t.2.tried;
          shows = rw (same, whole, is_saved) t.2.shows;
          prefixes = ended.shows;
          cuts = ended.cuts;
        },
        subst (λ (s : Saved). Acknowledged x.records x.order s.receipts s.cut) (sym is_saved)
            (acknowledged_at new.run x.records x.order new.store.queued new.store.receipts new.store.cut has ended.numbered (closes.waits h.waits).are acked),
      )
