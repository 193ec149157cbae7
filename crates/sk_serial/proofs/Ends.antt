-- What a run answers, from how it ended.
use Rattle.std.proofs.Common.{◌≡◌, ◌⊎◌, ℕ, Bool, List, [], true, false, Option, refl, sym, subst, inl, inr, ⊎_elim}
use Rattle.std.specs.Prelude.{IsTrue, is_some}
use Rattle.std.specs.Io.KnownBytes.{Appends}
use Rattle.std.specs.String.{string_bytes}
use Rattle.sk_outside.specs.Causes.{Rose}
use Rattle.sk_device.specs.Disk.{Disk}
use Rattle.sk_codec.specs.declared.fault.What.{What}
use Rattle.sk_outcome.specs.declared.outcome.Outcome.{Outcome}
use Rattle.sk_text.specs.Text.{script_fault_text}
use Rattle.sk_serial.specs.declared.ending.Shown.{Shown}
use Rattle.sk_serial.specs.declared.run_fault.RunFault.{RunFault}
use Rattle.sk_serial.specs.declared.run_fault.RunFault.TheVariants as run_fault
use Rattle.sk_serial.specs.Played.{tables_in}
use Rattle.sk_serial.specs.Stored.{start_of}
use Rattle.sk_serial.specs.Saving.{Saved}
use Rattle.sk_serial.specs.Lasting.{Lasting}
use Rattle.sk_serial.specs.Printing.{Prints, IsRefused, usage_text, read_text, device_text, memory_text, damaged_text}
use Rattle.sk_serial.specs.Running.{Ran, Departs, IsNothing, IsFinished, IsHalted, IsShown, IsPlayed, HasRun, WhyHalted, saved_of, saved_out, transfers_in}
use Rattle.sk_serial.proofs.Whole.{lasts_played}
use Rattle.sk_serial.proofs.Lasts.{lasts_same}

module _ {D : Type 0} (disk : Disk D) (faults : D → ℕ) (made : Option (ℕ × ℕ)) (left left_now written written_now : Option (List ℕ)) (reads reads_now writes writes_now : ℕ) (was : D) (o : Outcome D) where
  abbrev Answers : Bool → Type 0
  Answers is_form = Ran disk faults is_form made left left_now written written_now reads reads_now writes writes_now was o

  abbrev Text : List ℕ → Type 0
  Text text = Prints written written_now writes writes_now text

  abbrev Runs : Bool → Type 0
  Runs broken = HasRun disk faults made left left_now written written_now writes writes_now was broken o

  usage_ran : (is : o.status ≡ 2) → Text usage_text → IsNothing o → (lasts : IsTrue disk.tells → Lasting disk was o.disk) → Answers false
  usage_ran is printed nothing lasts = record {
    status = rw is refl;
    usage = ((λ _. refl), (λ _. is));
    usage_printed = λ _. printed;
    script = λ e. absurd (cc);
    read = λ e. absurd (cc);
    write = λ e. absurd (cc);
    device = λ e. absurd (cc);
    damaged = λ e. absurd (cc);
    memory = λ e. absurd (cc);
    nothing = λ _. nothing;
    played = λ e. absurd (let f = rw is at e in cc);
    broken = λ e. absurd (cc);
    lasts = lasts;
  }

  script_ran : (line place : ℕ) → Departs left left_now line place ⊎ ((place ≡ 1) × WhyHalted disk faults made left left_now was (run_fault.Tables line) o.disk) → (is : o.status ≡ 3) → Text (script_fault_text line place) → IsNothing o → (lasts : IsTrue disk.tells → Lasting disk was o.disk) → Answers true
  script_ran line place why is printed nothing lasts = record {
    status = rw is refl;
    usage = ((λ e. absurd (cc)), (λ e. absurd (cc)));
    usage_printed = λ e. absurd (cc);
    script = λ _. record { line = line; place = place; why = why; printed = printed };
    read = λ e. absurd (cc);
    write = λ e. absurd (cc);
    device = λ e. absurd (cc);
    damaged = λ e. absurd (cc);
    memory = λ e. absurd (cc);
    nothing = λ _. nothing;
    played = λ e. absurd (let f = rw is at e in cc);
    broken = λ e. absurd (cc);
    lasts = lasts;
  }

  read_ran : Rose reads reads_now → (is : o.status ≡ 4) → Text read_text → IsNothing o → (lasts : IsTrue disk.tells → Lasting disk was o.disk) → Answers true
  read_ran rose is printed nothing lasts = record {
    status = rw is refl;
    usage = ((λ e. absurd (cc)), (λ e. absurd (cc)));
    usage_printed = λ e. absurd (cc);
    script = λ e. absurd (cc);
    read = λ _. (rose, printed);
    write = λ e. absurd (cc);
    device = λ e. absurd (cc);
    damaged = λ e. absurd (cc);
    memory = λ e. absurd (cc);
    nothing = λ _. nothing;
    played = λ e. absurd (let f = rw is at e in cc);
    broken = λ e. absurd (cc);
    lasts = lasts;
  }

  device_ran : Rose (faults was) (faults o.disk) → (is : o.status ≡ 6) → Text device_text → IsNothing o → (lasts : IsTrue disk.tells → Lasting disk was o.disk) → Answers true
  device_ran rose is printed nothing lasts = record {
    status = rw is refl;
    usage = ((λ e. absurd (cc)), (λ e. absurd (cc)));
    usage_printed = λ e. absurd (cc);
    script = λ e. absurd (cc);
    read = λ e. absurd (cc);
    write = λ e. absurd (cc);
    device = λ _. rose;
    damaged = λ e. absurd (cc);
    memory = λ e. absurd (cc);
    nothing = λ e. absurd (let f = rw is at e in cc);
    played = λ e. absurd (let f = rw is at e in cc);
    broken = λ _. inl (nothing, printed);
    lasts = lasts;
  }

  damaged_ran : (file place : ℕ) (w : What) → WhyHalted disk faults made left left_now was (run_fault.Damaged file place w) o.disk → (is : o.status ≡ 7) → Text (damaged_text file place w) → IsNothing o → (lasts : IsTrue disk.tells → Lasting disk was o.disk) → Answers true
  damaged_ran file place w why is printed nothing lasts = record {
    status = rw is refl;
    usage = ((λ e. absurd (cc)), (λ e. absurd (cc)));
    usage_printed = λ e. absurd (cc);
    script = λ e. absurd (cc);
    read = λ e. absurd (cc);
    write = λ e. absurd (cc);
    device = λ e. absurd (cc);
    damaged = λ _. record { file = file; place = place; what = w; why = why; printed = printed };
    memory = λ e. absurd (cc);
    nothing = λ _. nothing;
    played = λ e. absurd (let f = rw is at e in cc);
    broken = λ e. absurd (cc);
    lasts = lasts;
  }

  memory_ran : (is : o.status ≡ 8) → Text memory_text → IsNothing o → (lasts : IsTrue disk.tells → Lasting disk was o.disk) → Answers true
  memory_ran is printed nothing lasts = record {
    status = rw is refl;
    usage = ((λ e. absurd (cc)), (λ e. absurd (cc)));
    usage_printed = λ e. absurd (cc);
    script = λ e. absurd (cc);
    read = λ e. absurd (cc);
    write = λ e. absurd (cc);
    device = λ e. absurd (cc);
    damaged = λ e. absurd (cc);
    memory = λ _. printed;
    nothing = λ _. nothing;
    played = λ e. absurd (let f = rw is at e in cc);
    broken = λ e. absurd (cc);
    lasts = lasts;
  }

  whole_ran : (is : o.status ≡ 0) → Runs false → (lasts : IsTrue disk.tells → Lasting disk was o.disk) → Answers true
  whole_ran is run lasts = record {
    status = rw is refl;
    usage = ((λ e. absurd (cc)), (λ e. absurd (cc)));
    usage_printed = λ e. absurd (cc);
    script = λ e. absurd (cc);
    read = λ e. absurd (cc);
    write = λ e. absurd (cc);
    device = λ e. absurd (cc);
    damaged = λ e. absurd (cc);
    memory = λ e. absurd (cc);
    nothing = λ e. absurd (let f = rw is at e in cc);
    played = λ _. run;
    broken = λ e. absurd (cc);
    lasts = lasts;
  }

  part_ran : (is : o.status ≡ 5) → Runs false → Rose writes writes_now → (lasts : IsTrue disk.tells → Lasting disk was o.disk) → Answers true
  part_ran is run rose lasts = record {
    status = rw is refl;
    usage = ((λ e. absurd (cc)), (λ e. absurd (cc)));
    usage_printed = λ e. absurd (cc);
    script = λ e. absurd (cc);
    read = λ e. absurd (cc);
    write = λ _. rose;
    device = λ e. absurd (cc);
    damaged = λ e. absurd (cc);
    memory = λ e. absurd (cc);
    nothing = λ e. absurd (let f = rw is at e in cc);
    played = λ _. run;
    broken = λ e. absurd (cc);
    lasts = lasts;
  }

  broken_ran : (is : o.status ≡ 6) → Runs true → Rose (faults was) (faults o.disk) → (lasts : IsTrue disk.tells → Lasting disk was o.disk) → Answers true
  broken_ran is run rose lasts = record {
    status = rw is refl;
    usage = ((λ e. absurd (cc)), (λ e. absurd (cc)));
    usage_printed = λ e. absurd (cc);
    script = λ e. absurd (cc);
    read = λ e. absurd (cc);
    write = λ e. absurd (cc);
    device = λ _. rose;
    damaged = λ e. absurd (cc);
    memory = λ e. absurd (cc);
    nothing = λ e. absurd (let f = rw is at e in cc);
    played = λ e. absurd (let f = rw is at e in cc);
    broken = λ _. inr run;
    lasts = lasts;
  }

  -- the words are of no written form
  pub misused : o.status ≡ 2 → Text usage_text → IsNothing o → o.disk ≡ was → Answers false
  misused is printed nothing same = usage_ran is printed nothing (λ tells. subst (λ (d : D). Lasting disk was d) (sym same) ([], record { a = 0; b = 0; commit = false }, lasts_same disk [] (record { a = 0; b = 0; commit = false }) was))

  -- no script was played to its end
  pub refused_ran : (why : RunFault) → IsRefused why o.status written written_now writes writes_now → IsNothing o → IsHalted disk faults made left left_now was why o.disk → (why ≡ run_fault.Read → Rose reads reads_now) → Answers true
  refused_ran run_fault.Usage printed nothing h read = absurd h.why
  refused_ran (run_fault.Script line place) printed nothing h read = ⊎_elim (λ p. script_ran line place (inl h.why) p.0 p.1 nothing h.lasts) (λ p. memory_ran p.0 p.1 nothing h.lasts) printed
  refused_ran (run_fault.Tables line) printed nothing h read = ⊎_elim (λ p. script_ran line 1 (inr (refl, h.why)) p.0 p.1 nothing h.lasts) (λ p. memory_ran p.0 p.1 nothing h.lasts) printed
  refused_ran run_fault.Read printed nothing h read = read_ran (read refl) printed.0 printed.1 nothing h.lasts
  refused_ran run_fault.Device printed nothing h read = device_ran h.why.2 printed.0 printed.1 nothing h.lasts
  refused_ran (run_fault.Damaged file place w) printed nothing h read = ⊎_elim (λ p. damaged_ran file place w h.why p.0 p.1 nothing h.lasts) (λ p. memory_ran p.0 p.1 nothing h.lasts) printed
  refused_ran run_fault.NoMemory printed nothing h read = memory_ran printed.0 printed.1 nothing h.lasts

  -- one was
  pub finished_ran : (shown : Shown D) → IsFinished shown o written written_now writes writes_now → IsShown disk faults made left left_now was shown → Answers true
  finished_ran shown finished (script, is_script, played) = ⊎_elim
      (λ (b : (shown.broken ≡ true) × (o.status ≡ 6)). broken_ran b.1 (runs true b.0 (λ e. absurd (let f = b.1 in cc))) (subst (λ (d : D). Rose (faults was) (faults d)) (sym finished.disk_is) (played.broke b.0)) lasts)
      (λ (w : (shown.broken ≡ false) × (((o.status ≡ 0) × Appends written written_now (string_bytes shown.text)) ⊎ ((o.status ≡ 5) × Rose writes writes_now))). ⊎_elim
      (λ (a : (o.status ≡ 0) × Appends written written_now (string_bytes shown.text)). whole_ran a.0 (runs false w.0 (λ _. a.1)) lasts)
      (λ (a : (o.status ≡ 5) × Rose writes writes_now). part_ran a.0 (runs false w.0 (λ e. absurd (let f = a.0 in cc))) a.1 lasts)
      w.1)
      finished.status
    where
      lasts : IsTrue disk.tells → Lasting disk was o.disk
      lasts = λ tells. subst (λ (d : D). Lasting disk was d) (sym finished.disk_is)
          (tables_in script, start_of script, lasts_played disk faults script was played.begun shown.disk played.opened (is_some (transfers_in made)) played.starts played.grows tells)

      runs : (broken : Bool) → shown.broken ≡ broken → (o.status ≡ 0 → Appends written written_now (string_bytes shown.text)) → Runs broken
      runs broken is whole = record {
        script = script;
        is_script = is_script;
        ended = shown.ended;
        handed_out = finished.handed_out;
        text = string_bytes shown.text;
        played = subst (λ (d : D). IsPlayed disk faults script (transfers_in made) was shown.ended (saved_out o) (string_bytes shown.text) broken d) (sym finished.disk_is)
            (subst (λ (v : Saved). IsPlayed disk faults script (transfers_in made) was shown.ended v (string_bytes shown.text) broken shown.disk) (sym finished.saved)
            (subst (λ (b : Bool). IsPlayed disk faults script (transfers_in made) was shown.ended (saved_of shown) (string_bytes shown.text) b shown.disk) is played));
        printed = finished.printed;
        whole = whole;
      }
