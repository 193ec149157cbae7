-- Reading the records of a range of the storage log, as a loop does, and the halves beside each other.
use Rattle.std.proofs.Common.{◌≡◌, ℕ, suc, ◌-◌, ◌+◌, ◌≤◌, ◌<◌, Bool, List, [], ◌∷◌, ◌++◌, Result, Ok, Err, refl, sym, ap, ◌∙◌, append_assoc, arith}
use Rattle.std.proofs.lemmas.Bool.{le-leb, lt-leb}
use Rattle.std.proofs.lemmas.List.{append-nil}
use Rattle.sk_rows.specs.declared.table.Table.{Table}
use Rattle.sk_codec.specs.declared.fault.Fault.{Fault}
use Rattle.sk_codec.specs.declared.fault.ReadFault.{ReadFault}
use Rattle.sk_codec.specs.declared.fault.ReadFault.TheVariants as read_fault
use Rattle.sk_codec.specs.Reading.{Rest, ◌>>=◌, Fails}
use Rattle.sk_log.specs.declared.logged.Logged.{Logged}
use Rattle.sk_log.specs.Groups.{number_of, logged_at, records_to}

-- what was read before, and what is still read
abbrev pub with_records : List Logged → Result (List Logged) Fault → Result (List Logged) Fault
with_records front read = read >>= λ x. Ok (front ++ x)

regroup : (front : List Logged) (v : Logged) (read : Result (List Logged) Fault) → with_records front (read >>= λ x. Ok (v ∷ x)) ≡ with_records (front ++ v ∷ []) read
regroup front v (Ok x) = ap (λ (vs : List Logged). Ok vs) (simp append_assoc)
regroup front v (Err f) = refl

module _ (tables : List Table) (store : Bool) (end upto : ℕ) where
  pub records_on : (front : List Logged) (fuel i last : ℕ) (rest : Rest) (v : Logged) (after : Rest) (total : Result (List Logged) Fault) → i < fuel → rest.place < end → logged_at tables store upto last rest ≡ Ok (v, after)
      → with_records front (records_to tables store (fuel - i) end upto last rest) ≡ total → with_records (front ++ v ∷ []) (records_to tables store (fuel - (i + 1)) end upto (number_of store v) after) ≡ total
  unfolding records_to
  records_on front fuel i last rest v after total lt before h so_far =
      let k : fuel - i ≡ suc (fuel - (i + 1)) = omega arith in
      let one : with_records front (records_to tables store (fuel - i) end upto last rest) ≡ with_records (front ++ v ∷ []) (records_to tables store (fuel - (i + 1)) end upto (number_of store v) after) =
      rw (k, lt-leb _ _ before, h) (regroup front v (records_to tables store (fuel - (i + 1)) end upto (number_of store v) after)) in
      sym one ∙ so_far

  pub records_end : (e : ReadFault) (front : List Logged) (fuel i last : ℕ) (rest : Rest) (total : Result (List Logged) Fault) → i < fuel → rest.place < end → Fails e (logged_at tables store upto last rest)
      → with_records front (records_to tables store (fuel - i) end upto last rest) ≡ total → Fails e total
  unfolding records_to
  records_end read_fault.NoMemory front fuel i last rest total lt before h so_far = tt
  records_end (read_fault.Wrong f) front fuel i last rest total lt before h so_far =
      let k : fuel - i ≡ suc (fuel - (i + 1)) = omega arith in
      let one : with_records front (records_to tables store (fuel - i) end upto last rest) ≡ Err f = rw (k, lt-leb _ _ before, h) refl in
      sym so_far ∙ one

  pub records_reached : (front : List Logged) (fuel i last : ℕ) (rest : Rest) (total : Result (List Logged) Fault) → i < fuel → end ≤ rest.place
      → with_records front (records_to tables store (fuel - i) end upto last rest) ≡ total → total ≡ Ok front
  unfolding records_to
  records_reached front fuel i last rest total lt there so_far =
      let k : fuel - i ≡ suc (fuel - (i + 1)) = omega arith in
      let one : with_records front (records_to tables store (fuel - i) end upto last rest) ≡ Ok front = rw (k, le-leb _ _ there) (ap (λ (vs : List Logged). Ok vs) (append-nil front)) in
      sym so_far ∙ one

  pub records_done : (front : List Logged) (fuel i last : ℕ) (rest : Rest) (total : Result (List Logged) Fault) → fuel ≤ i
      → with_records front (records_to tables store (fuel - i) end upto last rest) ≡ total → total ≡ Ok front
  unfolding records_to
  records_done front fuel i last rest total le so_far =
      let k : fuel - i ≡ 0 = omega arith in
      let one : with_records front (records_to tables store (fuel - i) end upto last rest) ≡ Ok front = rw k (ap (λ (vs : List Logged). Ok vs) (append-nil front)) in
      sym so_far ∙ one
