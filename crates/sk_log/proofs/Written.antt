-- A group that is spelled is read.
use Rattle.std.proofs.Common.{◌≡◌, ◌⊎◌, ℕ, zero, suc, ◌+◌, ◌-◌, ◌^◌, ◌<◌, ◌≤◌, Bool, true, false, List, [], ◌∷◌, ◌++◌, length, drop, Result, Ok, refl, sym, ap, subst, ◌∙◌, append_assoc, arith, inl, inr}
use Rattle.std.specs.Prelude.{◌==◌, ◌&&◌, nat_le}
use Rattle.std.specs.List.{filter, flat_map}
use Rattle.std.specs.Int.{w32, to_be_bytes}
use Rattle.std.proofs.lemmas.Bool.{le-ltb, le-leb, lt-leb, eq-eqb, ne_eqb, and_left, and_right}
use Rattle.std.proofs.lemmas.List.{append-nil, length-append}
use Rattle.sk_rows.specs.declared.table.Table.{Table}
use Rattle.sk_model.specs.declared.commit.Commit.{Commit}
use Rattle.sk_model.specs.declared.commit.Write.{Write}
use Rattle.sk_model.specs.declared.point.Point.{Point}
use Rattle.sk_codec.specs.declared.fault.Fault.{Fault}
use Rattle.sk_codec.specs.Reading.{Rest, items_at}
use Rattle.sk_model.specs.Numbers.{greatest_number}
use Rattle.sk_codec.specs.Records.{record_at}
use Rattle.sk_codec.specs.Spelling.{IsRecord, own_of, other_of, number_or_0, label_bytes, numbers_bytes, write_bytes, writes_bytes, record_bytes}
use Rattle.sk_codec.proofs.Parts.{IsBytes, IsBytes-drop, at, or_false, wide32, number_there, number_in_there}
use Rattle.sk_codec.proofs.RecordLaws.{record_reads, record_takes}
use Rattle.sk_log.specs.declared.logged.Logged.{Logged}
use Rattle.sk_log.specs.declared.ends.Ends.{Ends}
use Rattle.sk_log.specs.Calls.{store_file, anchor_file}
use Rattle.sk_log.specs.Groups.{logged_at, records_at, records_to, first_at, second_at, end_at, head_at, body_at, selection, is_cross, halves}
use Rattle.sk_log.specs.Stores.{commits, body_of, stored_of, group_of}
use Rattle.sk_log.specs.Spelled.{records_bytes, head_bytes, counted_bytes, body_bytes}
use Rattle.sk_log.specs.Growth.{Follows, from_ends}
use Rattle.sk_log.specs.Lawful.{AreRecords, is_both, ArePairs, IsGroup}

-- ---- counts

writes_some : (ws : List Write) → length ws ≤ length (flat_map write_bytes ws)
unfolding write_bytes
writes_some [] = omega arith
writes_some (w ∷ ws) = omega (arith, writes_some ws, length-append (write_bytes w) (flat_map write_bytes ws))

writes_size : (ws : List Write) → length ws ≤ length (writes_bytes ws)
unfolding writes_bytes
writes_size ws = omega (arith, writes_some ws)

-- a record has more bytes than writes
record_size : (store : Bool) (c : Commit) → length c.writes ≤ length (record_bytes store c)
unfolding record_bytes
record_size store c =
    let numbers = numbers_bytes (number_or_0 (own_of store c)) (other_of store c) in
    let writes = writes_bytes c.writes in
    omega (arith, length-append (label_bytes c.label) (numbers ++ writes), length-append numbers writes, writes_size c.writes)

some_bytes : (store : Bool) (c : Commit) → 1 ≤ length (record_bytes store c)
unfolding record_bytes label_bytes
some_bytes store c = omega arith

-- records have more bytes than there are of them
records_size : (store : Bool) (cs : List Commit) → length cs ≤ length (records_bytes store cs)
records_size store [] = omega arith
records_size store (c ∷ cs) = omega (arith, some_bytes store c, records_size store cs, length-append (record_bytes store c) (records_bytes store cs))

-- commits that a log of this engine may hold
abbrev AreSure : List Table → Bool → ℕ → ℕ → List Commit → Type 0
AreSure catalog store upto above [] = Unit {0}
AreSure catalog store upto above (c ∷ cs) = IsRecord catalog store (above + 1) upto c × AreSure catalog store upto (number_or_0 (own_of store c)) cs

-- what fits a log can be counted
sure : (catalog : List Table) (store : Bool) (upto above : ℕ) (cs : List Commit) → AreRecords catalog store upto above cs → length (records_bytes store cs) < 2 ^ 32 → AreSure catalog store upto above cs
sure catalog store upto above [] are small = tt
sure catalog store upto above (c ∷ cs) are small =
    let size = length-append (record_bytes store c) (records_bytes store cs) in
    (are.0 (omega (arith, small, size, record_size store c)), sure catalog store upto (number_or_0 (own_of store c)) cs are.1 (omega (arith, small, size)))

-- ---- records

-- a record that is spelled, with its end
record_there : (catalog : List Table) (store : Bool) (low high : ℕ) (c : Commit) (file place : ℕ) (more : List ℕ) → IsRecord catalog store low high c → IsBytes (record_bytes store c ++ more)
    → (record_at catalog store low high (at file place (record_bytes store c ++ more)) ≡ Ok (c, at file (place + length (record_bytes store c)) more)) × IsBytes more
record_there catalog store low high c file place more is fits =
    let r = record_reads catalog store low high c is file place more in
    let t = record_takes catalog store low high (at file place (record_bytes store c ++ more)) c (at file r.0 more) fits r.1 in
    let end : r.0 ≡ place + length (record_bytes store c) = t.takes.place in
    (r.1 ∙ ap (λ (n : ℕ). Ok (c, at file n more)) end, t.takes.fits)

logged_there : (catalog : List Table) (store : Bool) (upto above : ℕ) (c : Commit) (file place : ℕ) (more : List ℕ) → IsRecord catalog store (above + 1) upto c → IsBytes (record_bytes store c ++ more)
    → logged_at catalog store upto above (at file place (record_bytes store c ++ more)) ≡ Ok (record { place = place; commit = c }, at file (place + length (record_bytes store c)) more)
unfolding logged_at
logged_there catalog store upto above c file place more is fits = rw (record_there catalog store (above + 1) upto c file place more is fits).0 refl

pub record AreThere (read : Result (List Logged × Rest) Fault) (cs : List Commit) (file end : ℕ) (more : List ℕ) : Type 0 where
  pub logged : List Logged
  pub reads : read ≡ Ok (logged, at file end more)
  pub told : commits logged ≡ cs

records_there : (catalog : List Table) (store : Bool) (upto above : ℕ) (cs : List Commit) (file place : ℕ) (more : List ℕ) → AreSure catalog store upto above cs → IsBytes (records_bytes store cs ++ more)
    → AreThere (records_at catalog store (length cs) upto above (at file place (records_bytes store cs ++ more))) cs file (place + length (records_bytes store cs)) more
unfolding items_at
records_there catalog store upto above [] file place more are fits =
    let here : place ≡ place + 0 = omega arith in
    record { logged = []; reads = ap (λ (n : ℕ). Ok ([], at file n more)) here; told = refl }
records_there catalog store upto above (c ∷ cs) file place more are fits =
    let text = record_bytes store c in
    let others = records_bytes store cs in
    let split : (text ++ others) ++ more ≡ text ++ (others ++ more) = append_assoc text others more in
    let fits' : IsBytes (text ++ (others ++ more)) = subst IsBytes split fits in
    let one = logged_there catalog store upto above c file place (others ++ more) are.0 fits' in
    let rest = (record_there catalog store (above + 1) upto c file place (others ++ more) are.0 fits').1 in
    let t = records_there catalog store upto (number_or_0 (own_of store c)) cs file (place + length text) more are.1 rest in
    let first : Logged = record { place = place; commit = c } in
    let end : place + length text + length others ≡ place + length (text ++ others) = omega (arith, length-append text others) in
    record {
      logged = first ∷ t.logged;
      reads = ap (λ (l : List ℕ). records_at catalog store (length (c ∷ cs)) upto above (at file place l)) split ∙ rw (one, t.reads) (ap (λ (n : ℕ). Ok (first ∷ t.logged, at file n more)) end);
      told = ap (λ (l : List Commit). c ∷ l) t.told;
    }

pub record AreStored (read : Result (List Logged) Fault) (cs : List Commit) : Type 0 where
  pub logged : List Logged
  pub reads : read ≡ Ok logged
  pub told : commits logged ≡ cs

records_stored : (catalog : List Table) (store : Bool) (fuel end upto above : ℕ) (cs : List Commit) (file place : ℕ) → AreSure catalog store upto above cs → IsBytes (records_bytes store cs) → place + length (records_bytes store cs) ≡ end
    → length (records_bytes store cs) ≤ fuel → AreStored (records_to catalog store fuel end upto above (at file place (records_bytes store cs))) cs
unfolding records_to
records_stored catalog store zero end upto above [] file place are fits is enough = record { logged = []; reads = refl; told = refl }
records_stored catalog store (suc n) end upto above [] file place are fits is enough =
    let there : nat_le end place ≡ true = le-leb end place (omega (arith, is)) in
    record { logged = []; reads = rw there refl; told = refl }
records_stored catalog store zero end upto above (c ∷ cs) file place are fits is enough =
    let no : ⊥ = omega (arith, enough, some_bytes store c, length-append (record_bytes store c) (records_bytes store cs)) in
    absurd no
records_stored catalog store (suc n) end upto above (c ∷ cs) file place are fits is enough =
    let text = record_bytes store c in
    let others = records_bytes store cs in
    let size = length-append text others in
    let some = some_bytes store c in
    let before : nat_le end place ≡ false = lt-leb end place (omega (arith, is, size, some)) in
    let one = logged_there catalog store upto above c file place others are.0 fits in
    let rest = (record_there catalog store (above + 1) upto c file place others are.0 fits).1 in
    let t = records_stored catalog store n end upto (number_or_0 (own_of store c)) cs file (place + length text) are.1 rest (omega (arith, is, size)) (omega (arith, enough, size, some)) in
    let first : Logged = record { place = place; commit = c } in
    record { logged = first ∷ t.logged; reads = rw (before, one, t.reads) refl; told = ap (λ (l : List Commit). c ∷ l) t.told }

-- ---- halves

crosses : (fs : List Logged) → commits (filter is_cross fs) ≡ filter is_both (commits fs)
crosses [] = refl
crosses (f ∷ fs) = by_test (crosses fs) (is_both f.commit) refl
  where
    by_test : commits (filter is_cross fs) ≡ filter is_both (commits fs) → (b : Bool) → is_both f.commit ≡ b → commits (filter is_cross (f ∷ fs)) ≡ filter is_both (commits (f ∷ fs))
    by_test more true e = rw e (ap (λ (l : List Commit). f.commit ∷ l) more)
    by_test more false e = rw e more

paired : (one two : ℕ) (fs gs : List Logged) → ArePairs (commits fs) (commits gs) → halves one two fs gs ≡ Ok tt
unfolding halves
paired one two [] [] pairs = refl
paired one two [] (g ∷ gs) pairs = absurd pairs
paired one two (f ∷ fs) [] pairs = absurd pairs
paired one two (f ∷ fs) (g ∷ gs) pairs = rw pairs.0 (paired one two fs gs pairs.1)

both_paired : (one two : ℕ) (fs gs : List Logged) (ss ms : List Commit) → commits fs ≡ ss → commits gs ≡ ms → ArePairs (filter is_both ss) (filter is_both ms) → halves one two (filter is_cross fs) (filter is_cross gs) ≡ Ok tt
both_paired one two fs gs ss ms s m pairs =
    let left : filter is_both ss ≡ commits (filter is_cross fs) = ap (λ (l : List Commit). filter is_both l) (sym s) ∙ sym (crosses fs) in
    let right : filter is_both ms ≡ commits (filter is_cross gs) = ap (λ (l : List Commit). filter is_both l) (sym m) ∙ sym (crosses gs) in
    paired one two (filter is_cross fs) (filter is_cross gs) (subst (λ (l : List Commit). ArePairs l (commits (filter is_cross gs))) left (subst (λ (l : List Commit). ArePairs (filter is_both ss) l) right pairs))

-- ---- the head

not_both : (a b c d : ℕ) → ((a < c) ⊎ (b < d)) → (c == a) && (d == b) ≡ false
not_both a b c d (inl lt) = and_left _ _ (ne_eqb c a (λ is. absurd (omega (arith, lt, is))))
not_both a b c d (inr lt) = and_right _ _ (ne_eqb d b (λ is. absurd (omega (arith, lt, is))))

head_there : (cut to : Point) (before end file place : ℕ) (more : List ℕ) → (cut.a ≤ to.a) × (to.a ≤ greatest_number) → (cut.b ≤ to.b) × (to.b ≤ greatest_number) → (cut.a < to.a) ⊎ (cut.b < to.b) → before ≤ end → end < 2 ^ 32
    → head_at cut before (at file place (head_bytes to end ++ more)) ≡ Ok (record { cut = selection to.a to.b; end = end }, at file (place + 4 + 4 + 4) more)
unfolding head_at first_at second_at end_at head_bytes
head_there cut to before end file place more a b rises le small =
    let ra = number_in_there w32 (2 ^ 32) wide32 0 greatest_number to.a file place (to_be_bytes w32 to.b ++ (to_be_bytes w32 end ++ more)) (omega (arith, a.1)) (omega arith) a.1 in
    let rb = number_in_there w32 (2 ^ 32) wide32 0 greatest_number to.b file (place + 4) (to_be_bytes w32 end ++ more) (omega (arith, b.1)) (omega arith) b.1 in
    let re = number_there w32 (2 ^ 32) wide32 end file (place + 4 + 4) more small in
    rw (ra, le-ltb to.a cut.a a.0, rb, or_false _ _ (le-ltb to.b cut.b b.0) (not_both cut.a cut.b to.a to.b rises), re, le-ltb end before le) refl

-- ---- the whole

-- the bytes of these commits behind these ends
pub record AreTexts (catalog : List Table) (cut : Point) (ends : Ends) (to : Point) (mem store : List Commit) : Type 0 where
  pub group : IsGroup catalog cut to mem store
  pub store_fits : ends.store_end + length (records_bytes true store) < 2 ^ 32
  pub body_fits : ends.gate + 5 + length (body_bytes to (ends.store_end + length (records_bytes true store)) mem) ≤ 4294967295
  pub store_bytes : IsBytes (records_bytes true store)
  pub text_bytes : IsBytes (body_bytes to (ends.store_end + length (records_bytes true store)) mem)

body_size : (to : Point) (end : ℕ) (mem : List Commit) → length (body_bytes to end mem) ≡ 12 + (4 + length (records_bytes false mem))
unfolding body_bytes head_bytes counted_bytes
body_size to end mem = omega arith

records_behind : (to : Point) (end : ℕ) (mem : List Commit) → drop 16 (body_bytes to end mem) ≡ records_bytes false mem
unfolding body_bytes head_bytes counted_bytes
records_behind to end mem = refl

body_there : (catalog : List Table) (cut : Point) (ends : Ends) (to : Point) (mem store : List Commit) (t : AreTexts catalog cut ends to mem store)
    → (found : List Logged) × (body_of (from_ends catalog cut ends) (ends.gate + 5 + length (body_bytes to (ends.store_end + length (records_bytes true store)) mem)) (body_bytes to (ends.store_end + length (records_bytes true store)) mem)
    ≡ Ok (record { cut = selection to.a to.b; end = ends.store_end + length (records_bytes true store) }, found)) × (commits found ≡ mem)
unfolding body_of body_at body_bytes counted_bytes
body_there catalog cut ends to mem store t =
    let end = ends.store_end + length (records_bytes true store) in
    let file = anchor_file ends.set in
    let place = ends.gate + 5 in
    let g = t.group in
    let records = records_bytes false mem in
    let le : ends.store_end ≤ end = omega arith in
    let h = head_there cut to ends.store_end end file place (to_be_bytes w32 (length mem) ++ records) g.a g.b g.rises le t.store_fits in
    let size = body_size to end mem in
    let few : length mem < 2 ^ 32 = omega (arith, t.body_fits, size, records_size false mem) in
    let n = number_there w32 (2 ^ 32) wide32 (length mem) file (place + 4 + 4 + 4) records few in
    let bytes : IsBytes (records ++ []) = subst IsBytes (sym (append-nil records)) (subst IsBytes (records_behind to end mem) (IsBytes-drop 16 (body_bytes to end mem) t.text_bytes)) in
    let f = records_there catalog false to.a cut.a mem file (place + 4 + 4 + 4 + 4) [] (sure catalog false to.a cut.a mem g.are_mem (omega (arith, t.body_fits, size))) bytes in
    let found : records_at catalog false (length mem) to.a cut.a (at file (place + 4 + 4 + 4 + 4) records) ≡ Ok (f.logged, at file (place + 4 + 4 + 4 + 4 + length records) []) =
    ap (λ (l : List ℕ). records_at catalog false (length mem) to.a cut.a (at file (place + 4 + 4 + 4 + 4) l)) (sym (append-nil records)) ∙ f.reads in
    let there : (place + 4 + 4 + 4 + 4 + length records == ends.gate + 5 + length (body_bytes to end mem)) ≡ true = eq-eqb _ _ (omega (arith, size)) in
    (f.logged, rw (h, n, found, there) refl, f.told)

store_there : (catalog : List Table) (cut : Point) (ends : Ends) (to : Point) (mem store : List Commit) (t : AreTexts catalog cut ends to mem store)
    → AreStored (stored_of (from_ends catalog cut ends) (record { cut = selection to.a to.b; end = ends.store_end + length (records_bytes true store) }) (records_bytes true store)) store
unfolding stored_of
store_there catalog cut ends to mem store t =
    let size = length (records_bytes true store) in
    let fuel : size ≤ ends.store_end + size - ends.store_end = omega arith in
    records_stored catalog true (ends.store_end + size - ends.store_end) (ends.store_end + size) to.b cut.b store (store_file ends.set) ends.store_end (sure catalog true to.b cut.b store t.group.are_store (omega (arith, t.store_fits))) t.store_bytes refl fuel

group_there : (catalog : List Table) (cut : Point) (ends : Ends) (to : Point) (end next : ℕ) (fs gs : List Logged) (mem store : List Commit) → commits fs ≡ mem → commits gs ≡ store → ArePairs (filter is_both store) (filter is_both mem)
    → group_of (from_ends catalog cut ends) (record { cut = selection to.a to.b; end = end }) fs gs next ≡ Ok (record { catalog = catalog; set = ends.set; cut = selection to.a to.b; end = end; gate = next; mem = mem; store = store })
unfolding group_of
group_there catalog cut ends to end next fs gs mem store m s pairs =
    rw (both_paired (store_file ends.set) (anchor_file ends.set) gs fs store mem s m pairs, m, s) refl

-- a group that is spelled may follow, and is the group of its commits
pub group_follows : (catalog : List Table) (cut : Point) (ends : Ends) (to : Point) (mem store : List Commit) → AreTexts catalog cut ends to mem store
    → Follows catalog cut ends (records_bytes true store) (body_bytes to (ends.store_end + length (records_bytes true store)) mem) (selection to.a to.b) mem store
group_follows catalog cut ends to mem store t =
    let b = body_there catalog cut ends to mem store t in
    let s = store_there catalog cut ends to mem store t in
    record {
      fits = t.body_fits;
      head = record { cut = selection to.a to.b; end = ends.store_end + length (records_bytes true store) };
      mem_records = b.0;
      store_records = s.logged;
      is_body = b.1;
      is_end = refl;
      is_store = s.reads;
      is_group = group_there catalog cut ends to _ _ b.0 s.logged mem store b.2 s.told t.group.pairs;
    }
