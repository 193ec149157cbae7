-- What became of a source, from what became of its bytes.
use Rattle.std.proofs.Common.{◌≡◌, ℕ, List, Ok, Err, ap, sym, ◌∙◌, Option}
use Rattle.sk_script.specs.declared.script.Script.{Script}
use Rattle.sk_script.specs.Script.{script_of}
use Rattle.sk_serial.specs.declared.run_fault.RunFault.{RunFault}
use Rattle.sk_serial.specs.declared.run_fault.RunFault.TheVariants as run_fault
use Rattle.sk_serial.specs.Running.{IsRead, ReadAs, IsReadFault, Reads, WhyNoScript}

pub found : (old new : Option (List ℕ)) (bytes slice : List ℕ) (script : Script) → IsRead old new bytes → slice ≡ bytes → ReadAs slice (Ok script) → Reads old new script
found old new bytes slice script read same of = record { bytes = bytes; read = read; is_script = ap script_of (sym same) ∙ of }

pub not_found : (old new : Option (List ℕ)) (bytes slice : List ℕ) (e : RunFault) → IsRead old new bytes → slice ≡ bytes → ReadAs slice (Err e) → WhyNoScript old new e
not_found old new bytes slice (run_fault.Script line place) read same of = record { bytes = bytes; read = read; departs = ap script_of (sym same) ∙ of }
not_found old new bytes slice run_fault.Usage read same of = absurd of
not_found old new bytes slice (run_fault.Tables line) read same of = absurd of
not_found old new bytes slice run_fault.Read read same of = tt
not_found old new bytes slice run_fault.Device read same of = absurd of
not_found old new bytes slice (run_fault.Damaged file place w) read same of = absurd of
not_found old new bytes slice run_fault.NoMemory read same of = tt

pub not_read : (old new : Option (List ℕ)) (e : RunFault) → IsReadFault e → WhyNoScript old new e
not_read old new run_fault.Usage is = absurd is
not_read old new (run_fault.Script line place) is = absurd is
not_read old new (run_fault.Tables line) is = absurd is
not_read old new run_fault.Read is = tt
not_read old new run_fault.Device is = absurd is
not_read old new (run_fault.Damaged file place w) is = absurd is
not_read old new run_fault.NoMemory is = tt
