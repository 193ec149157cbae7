-- A script that was played, from the opening of its store to its text.
use Rattle.std.specs.Prelude.{◌≡◌, ◌⊎◌, ◌≤◌, ℕ, Bool, true, false, List, [], Option, Result, Ok, Err, IfOk, IfErr, is_some, IsTrue}
use Rattle.std.specs.String.{string_bytes}
use Rattle.std.proofs.Common.{ap, subst, ⊎_elim, arith}
use Rattle.sk_outside.specs.Causes.{Rose}
use Rattle.sk_device.specs.Disk.{Disk, Steps}
use Rattle.sk_model.specs.declared.call.Entry.{Entry}
use Rattle.sk_model.specs.declared.point.Point.{Point}
use Rattle.sk_model.specs.Engine.{EngineTable}
use Rattle.sk_mem.specs.declared.engine.MemEngine.{MemEngine}
use Rattle.sk_store.specs.declared.engine.StoreEngine.{StoreEngine}
use Rattle.sk_durable.specs.Kept.{Kept}
use Rattle.sk_recover.specs.declared.opening.Opened.{Opened}
use Rattle.sk_recover.specs.Owning.{LogsHoldTheirOwn}
use Rattle.sk_script.specs.declared.script.Script.{Script}
use Rattle.sk_script.specs.Options.{settings_of}
use Rattle.sk_serial.specs.declared.ending.Shown.{Shown}
use Rattle.sk_serial.specs.declared.run_fault.RunFault.{RunFault}
use Rattle.sk_serial.specs.declared.run_fault.RunFault.TheVariants as run_fault
use Rattle.sk_serial.specs.Lasting.{Lasts}
use Rattle.sk_serial.specs.Played.{tables_in, Now, HasEnding, HasPlayed, PlaysAll, EndsSo}
use Rattle.sk_serial.specs.Running.{IsPlayed, HasText, HasHalted, IsHalted, IsScript, WhyNoScript, WhyHalted, saved_of, transfers_in}
use Rattle.sk_serial.specs.Saving.{Grows, Saves, IsKept}
use Rattle.sk_serial.specs.Stored.{start_of, beginning, StartsFrom, WhyNone}
use Rattle.sk_serial.proofs.Prefixes.{shows_prefixes, shows_last}
use Rattle.sk_serial.proofs.Lasts.{lasts_grown, lasts_same}
use Rattle.sk_serial.proofs.Saves.{grows_then, rose_later, rose_before}

-- what one fact gives of an answer, and of a refusal
pub if_ok : {X E : Type 0} (r : Result X E) (P Q : X → Type 0) → ((x : X) → P x → Q x) → IfOk r P → IfOk r Q
if_ok (Ok x) P Q f h = f x h
if_ok (Err e) P Q f h = tt

pub if_err : {X E : Type 0} (r : Result X E) (P Q : E → Type 0) → ((e : E) → P e → Q e) → IfErr r P → IfErr r Q
if_err (Ok x) P Q f h = tt
if_err (Err e) P Q f h = f e h

module _ {D : Type 0} (disk : Disk D) (faults : D → ℕ) where
  -- where the disk failed behind the opening, it failed behind its start
  broke_from : (was begun now : D) (first last : Kept D) (broken : Bool) → faults was ≤ faults begun → first.disk ≡ begun → first.broken ≡ false → Saves disk faults first last
      → (broken ≡ true → (last.broken ≡ true) ⊎ Rose (faults last.disk) (faults now)) → faults last.disk ≤ faults now → broken ≡ true → Rose (faults was) (faults now)
  broke_from was begun now first last broken before is unbroken saves broke later failed =
      let first_before : faults was ≤ faults first.disk = omega (arith, before, ap faults is) in
      ⊎_elim
      (λ (l : last.broken ≡ true). ⊎_elim
      (λ (f : first.broken ≡ true). absurd (let g = unbroken in cc))
      (λ (rose : Rose (faults first.disk) (faults last.disk)). rose_before (faults was) (faults first.disk) (faults now) first_before (rose_later (faults first.disk) (faults last.disk) (faults now) rose later))
      (saves.broke l))
      (λ (rose : Rose (faults last.disk) (faults now)). rose_before (faults was) (faults last.disk) (faults now) (omega (arith, first_before, saves.grows.later)) rose)
      (broke failed)

  module _ (mem : MemEngine → EngineTable → List Entry → Type 0) (store : StoreEngine → EngineTable → List Entry → Type 0) where
    pub is_played : (script : Script) (transfers : Option ℕ) (was begun : D) (opened : Opened) (start end : Now D) (ended : Bool) (first last : Kept D) (s t : Shown D)
        → LogsHoldTheirOwn → StartsFrom disk faults script (is_some transfers) was opened begun → HasPlayed disk mem store opened.catalog (beginning opened) begun [] start → PlaysAll disk mem store start script.lines end ended
        → EndsSo disk mem store end ended s.ended (string_bytes s.text) (saved_of s) s.last s.disk s.broken → first.disk ≡ begun → first.broken ≡ false → Saves disk faults first last
        → end.store.logmax ≡ (settings_of script.options).logmax → IsKept disk faults last s.receipts s.cut s.broken s.disk → HasText transfers s t → IsPlayed disk faults script transfers was t.ended (saved_of t) (string_bytes t.text) t.broken t.disk
    is_played script transfers was begun opened start end ended first last s t law starts begins plays ends is unbroken saves limit kept has =
        let all = ends opened.catalog (beginning opened) begun plays.came (plays.plays opened.catalog (beginning opened) begun [] begins) in
        rw (has.ended, has.receipts, has.cut, has.disk, has.broken) (record {
          opened = opened;
          begun = begun;
          starts = starts;
          shown = record {
            played = plays.played;
            left = plays.left;
            lines_are = plays.lines_are;
            came = plays.came;
            of = plays.of;
            stopped = ended;
            cut_off = plays.cut_off;
            said = string_bytes s.text;
            last = s.last;
            ending = subst (λ (n : ℕ). HasEnding opened.catalog (beginning opened) n plays.came ended s.ended (string_bytes s.text) (saved_of s) s.last) limit all.0;
            printed = has.text;
          };
          prefixes = λ tells. shows_prefixes opened starts.has_opened.sound law disk begun s.ended s.disk s.cut s.broken (starts.has_opened.stands tells) all.1 tells;
          at_end = λ tells. shows_last opened starts.has_opened.sound law disk begun s.ended s.disk s.cut s.broken (starts.has_opened.stands tells) all.1 tells;
          grows = subst (λ (d : D). Grows disk faults d s.disk) is (grows_then disk faults first.disk last.disk s.disk saves.grows kept.grows);
          acked = all.2;
          stands = kept.stands;
          broke = broke_from was begun s.disk first last s.broken starts.has_opened.later is unbroken saves kept.broke kept.grows.later;
        })

  -- ---- a script that was not played to its end

  -- memory was wanting, and the store only grew
  pub halts_starved : (script : Script) (generated : Bool) (was begun now : D) (opened : Opened) (fault : RunFault) → StartsFrom disk faults script generated was opened begun → Grows disk faults begun now → fault ≡ run_fault.NoMemory
      → HasHalted disk faults script generated was fault now
  halts_starved script generated was begun now opened fault starts grows is = rw is (record {
    why = tt;
    lasts = λ tells. lasts_grown disk (tables_in script) (start_of script) was begun now opened (starts.has_opened.moments tells) (starts.has_opened.stands tells) (grows.images tells);
    later = omega (arith, starts.has_opened.later, grows.later);
  })

  -- what was played lasts
  pub lasts_played : (script : Script) (was begun now : D) (opened : Opened) (generated : Bool) → StartsFrom disk faults script generated was opened begun → Grows disk faults begun now → IsTrue disk.tells
      → Steps disk (Lasts (tables_in script) (start_of script)) was now
  lasts_played script was begun now opened generated starts grows tells = lasts_grown disk (tables_in script) (start_of script) was begun now opened (starts.has_opened.moments tells) (starts.has_opened.stands tells) (grows.images tells)

  module _ (made : Option (ℕ × ℕ)) (left left_now : Option (List ℕ)) (was : D) where
    -- there is no script, and nothing is asked of the disk
    pub halts_unread : (fault : RunFault) → WhyNoScript left left_now fault → IsHalted disk faults made left left_now was fault was
    halts_unread fault why = record { why = why_unread fault why; lasts = λ tells. ([], nothing, lasts_same disk [] nothing was); later = omega arith }
      where
        nothing : Point
        nothing = record { a = 0; b = 0; commit = false }

        why_unread : (e : RunFault) → WhyNoScript left left_now e → WhyHalted disk faults made left left_now was e was
        why_unread run_fault.Usage none = absurd none
        why_unread (run_fault.Script line place) departs = departs
        why_unread (run_fault.Tables line) none = absurd none
        why_unread run_fault.Read none = tt
        why_unread run_fault.Device none = absurd none
        why_unread (run_fault.Damaged file place w) none = absurd none
        why_unread run_fault.NoMemory none = tt

    -- there is one, and it was not played to its end
    pub halts_played : (script : Script) (now : D) (fault : RunFault) → IsScript made left left_now script → HasHalted disk faults script (is_some (transfers_in made)) was fault now → IsHalted disk faults made left left_now was fault now
    halts_played script now fault is h = record { why = why_played fault h.why; lasts = λ tells. (tables_in script, start_of script, h.lasts tells); later = h.later }
      where
        why_played : (e : RunFault) → WhyNone disk faults script (is_some (transfers_in made)) was now e → WhyHalted disk faults made left left_now was e now
        why_played run_fault.Usage none = absurd none
        why_played (run_fault.Script line place) none = absurd none
        why_played (run_fault.Tables line) why = (script, is, why)
        why_played run_fault.Read none = absurd none
        why_played run_fault.Device why = (script, is, why)
        why_played (run_fault.Damaged file place w) why = (script, is, why)
        why_played run_fault.NoMemory none = tt
