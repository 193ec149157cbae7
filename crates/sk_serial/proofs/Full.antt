-- A flush that was refused for the length of a log.
use Rattle.std.specs.Prelude.{◌≡◌, ℕ, ◌<◌, ◌+◌, Bool, true, false, ◌&&◌, nat_lt, List, length, Some, None, if◌then◌else◌}
use Rattle.std.proofs.Common.{refl, subst}
use Rattle.std.proofs.lemmas.Bool.{and_parts, ltb-true}
use Rattle.std.proofs.lemmas.Option.{same_Some}
use Rattle.sk_model.specs.declared.receipt.FlushFault.{FlushFault}
use Rattle.sk_model.specs.declared.receipt.FlushFault.TheVariants as fault
use Rattle.sk_log.specs.declared.ends.Ends.{Ends}
use Rattle.sk_cut.specs.Batches.{full_length, Refuses}
use Rattle.sk_durable.specs.declared.refused.Refused.TheVariants as refused
use Rattle.sk_serial.specs.Flushed.{IsPast}

-- of two lengths the first one that is too long is past the greatest
first_long : (logmax some k m n : ℕ) → (if nat_lt 0 some && nat_lt logmax k then Some k else if nat_lt logmax m then Some m else None) ≡ Some n → logmax < n
first_long logmax some k m n e = go (nat_lt 0 some && nat_lt logmax k) refl (nat_lt logmax m) refl e
  where
    go : (x : Bool) → (nat_lt 0 some && nat_lt logmax k) ≡ x → (y : Bool) → nat_lt logmax m ≡ y → (if x then Some k else if y then Some m else None) ≡ Some n → logmax < n
    go true h y i e = subst (λ (j : ℕ). logmax < j) (same_Some k n e) (ltb-true logmax k (and_parts _ _ h).1)
    go false h true i e = subst (λ (j : ℕ). logmax < j) (same_Some m n e) (ltb-true logmax m i)
    go false h false i e = absurd (cc)

pub past_refused : (logmax : ℕ) (ends : Ends) (stored body : List ℕ) (same : Bool) (f : FlushFault) → (same ≡ true → refused.Flush f ≡ refused.Flush fault.NoMemory) → (same ≡ false → Refuses (full_length logmax ends stored body) f)
    → IsPast logmax (Some f)
past_refused logmax ends stored body same fault.Device equal full = tt
past_refused logmax ends stored body same fault.NoMemory equal full = tt
past_refused logmax ends stored body true (fault.LogFull n) equal full = absurd (let e = equal refl in cc)
past_refused logmax ends stored body false (fault.LogFull n) equal full = first_long logmax (length stored) (ends.store_end + length stored) (ends.gate + 6 + length body) n (full refl)
