-- A group that stands behind an open gate is read.
use Rattle.std.proofs.Common.{◌≡◌, ◌≢◌, ℕ, zero, suc, ◌+◌, ◌≤◌, ◌<◌, List, [], ◌∷◌, ◌++◌, length, take, drop, get_or, Ok, refl, sym, ap, subst, ◌∙◌, arith, append_assoc, length-append, length-take, length-drop}
use Rattle.std.specs.Int.{w32, to_be_bytes}
use Rattle.std.specs.List.{filter}
use Rattle.std.proofs.lemmas.Nat.{from_be_bytes-to_be_bytes_4}
use Rattle.std.proofs.lemmas.Bool.{le-ltb}
use Rattle.std.proofs.lemmas.List.{take-take, drop-take, drop-drop, take_at, drop_at, get_or-take, get_or-drop, get_or_at}
use Rattle.sk_device.specs.Disk.{Image}
use Rattle.sk_model.specs.declared.point.Point.{Point}
use Rattle.sk_model.specs.declared.commit.Commit.{Commit}
use Rattle.sk_rows.specs.declared.table.Table.{Table}
use Rattle.sk_log.specs.Calls.{store_file, anchor_file, Holds}
use Rattle.sk_codec.specs.Reading.{number_at}
use Rattle.sk_log.specs.declared.logged.Logged.{Logged}
use Rattle.sk_log.specs.declared.logged.Head.{Head}
use Rattle.sk_log.specs.Groups.{halves, is_cross}
use Rattle.sk_log.specs.Stores.{LogPosition, Opening, range_of, body_of, stored_of, group_of, next_gate, opened, holding, turns}
use Rattle.sk_log.specs.Images.{Base}
use Rattle.sk_log.specs.Growth.{OpensAs, Behind, Follows, group_text, from_ends, grown}
use Rattle.sk_codec.proofs.Parts.{bind_ok, ok_is}
use Rattle.sk_log.proofs.Turns.{Turned, Went, goes, turns_on, turn_then, turn_last, stops, lies, as_long}
use Rattle.sk_log.proofs.Openings.{parts_of, goes_on}

-- a group's text, where it stands
module _ (two : List ℕ) (gate : ℕ) (body : List ℕ) (holds : take (length (group_text body)) (drop (gate + 1) two) ≡ group_text body) where
  abbrev back : List ℕ
  back = drop (gate + 1) two

  size : length (group_text body) ≡ 5 + length body
  size = omega (arith, length-append (to_be_bytes w32 (length body)) (body ++ 0 ∷ []), length-append body (0 ∷ []))

  pub long : gate + 5 + length body < length two
  long = omega (arith, ap (λ (l : List ℕ). length l) holds, size, length-take (length (group_text body)) back, length-drop (gate + 1) two)

  front : (n : ℕ) → n ≤ 5 + length body → take n back ≡ take n (group_text body)
  front n le = sym (take-take n (length (group_text body)) back (omega (arith, size))) ∙ ap (λ (l : List ℕ). take n l) holds

  pub count_there : range_of two (gate + 1) (gate + 5) ≡ to_be_bytes w32 (length body)
  count_there =
      let split : gate + 5 ≡ gate + 1 + 4 = omega arith in
      ap (λ (k : ℕ). drop (gate + 1) (take k two)) split ∙ drop-take (gate + 1) 4 two ∙ front 4 (omega arith) ∙ take_at (to_be_bytes w32 (length body)) (body ++ 0 ∷ []) 4 refl

  pub body_there : range_of two (gate + 5) (gate + 5 + length body) ≡ body
  body_there =
      let n = length body in
      let five : gate + 1 + 4 ≡ gate + 5 = omega arith in
      drop-take (gate + 5) n two
      ∙ ap (λ (k : ℕ). take n (drop k two)) (sym five)
      ∙ ap (λ (l : List ℕ). take n l) (sym (drop-drop 4 (gate + 1) two))
      ∙ sym (drop-take 4 n back)
      ∙ ap (λ (l : List ℕ). drop 4 l) (front (4 + n) (omega arith))
      ∙ ap (λ (l : List ℕ). drop 4 (take (4 + n) l)) (sym (append_assoc (to_be_bytes w32 n) body (0 ∷ [])))
      ∙ ap (λ (l : List ℕ). drop 4 l) (take_at (to_be_bytes w32 n ++ body) (0 ∷ []) (4 + n) (length-append (to_be_bytes w32 n) body))
      ∙ drop_at (to_be_bytes w32 n) body 4 refl

  pub shut_there : get_or two (gate + 5 + length body) 0 ≡ 0
  shut_there =
      let n = length body in
      let at : gate + 1 + (4 + n) ≡ gate + 5 + n = omega arith in
      ap (λ (k : ℕ). get_or two k 0) (sym at)
      ∙ sym (get_or-drop (gate + 1) two (4 + n) 0)
      ∙ sym (get_or-take (5 + n) back (4 + n) 0 (omega arith))
      ∙ ap (λ (l : List ℕ). get_or l (4 + n) 0) (front (5 + n) (omega arith))
      ∙ get_or-take (5 + n) (group_text body) (4 + n) 0 (omega arith)
      ∙ ap (λ (l : List ℕ). get_or l (4 + n) 0) (sym (append_assoc (to_be_bytes w32 n) body (0 ∷ [])))
      ∙ get_or_at (to_be_bytes w32 n ++ body) 0 [] 0 (4 + n) (length-append (to_be_bytes w32 n) body)

abbrev none : Base
none = record { catalog = []; rows = [] }

shift_body : (t : LogPosition) (next : ℕ) (bytes : List ℕ) → body_of t next bytes ≡ body_of (from_ends t.catalog t.cut (opened none t).ends) next bytes
unfolding body_of
shift_body t next bytes = refl

shift_store : (t : LogPosition) (head : Head) (bytes : List ℕ) → stored_of t head bytes ≡ stored_of (from_ends t.catalog t.cut (opened none t).ends) head bytes
unfolding stored_of
shift_store t head bytes = refl

-- a group is put behind the commits that were read before
shift_group : (t u : LogPosition) (head : Head) (mem store : List Logged) (next : ℕ) → group_of (from_ends t.catalog t.cut (opened none t).ends) head mem store next ≡ Ok u
    → group_of t head mem store next ≡ Ok (record { catalog = t.catalog; set = t.set; cut = u.cut; end = u.end; gate = u.gate; mem = t.mem ++ u.mem; store = t.store ++ u.store })
unfolding group_of
shift_group t u head mem store next e =
    let b = bind_ok (halves (store_file t.set) (anchor_file t.set) (filter is_cross store) (filter is_cross mem)) _ _ e in
    let is = ok_is _ _ b.2 in
    rw b.1 (ap (λ (r : LogPosition). Ok (record { catalog = t.catalog; set = t.set; cut = r.cut; end = r.end; gate = r.gate; mem = t.mem ++ r.mem; store = t.store ++ r.store })) is)

next_there : (t : LogPosition) (n : ℕ) → t.gate + 5 + n ≤ 4294967295 → next_gate t.set t.gate (to_be_bytes w32 n) ≡ Ok (t.gate + 5 + n)
unfolding next_gate number_at
next_there t n fits = rw (from_be_bytes-to_be_bytes_4 n (omega (arith, fits)), le-ltb 4294967295 (t.gate + 5 + n) fits) refl

abbrev pub further : LogPosition → List ℕ → List ℕ → Point → List Commit → List Commit → LogPosition
further t store body to mem stored = record { catalog = t.catalog; set = t.set; cut = to; end = t.end + length store; gate = t.gate + 5 + length body; mem = t.mem ++ mem; store = t.store ++ stored }

pub group_turns : (one two : List ℕ) (t : LogPosition) (store body : List ℕ) (to : Point) (mem stored : List Commit) → Follows t.catalog t.cut (opened none t).ends store body to mem stored
    → take (length (group_text body)) (drop (t.gate + 1) two) ≡ group_text body → take (length store) (drop t.end one) ≡ store → t.end ≤ length one → get_or two t.gate 0 ≡ 1
    → (j : ℕ) → 2 ≤ j → turns j one two t ≡ Ok (further t store body to mem stored)
group_turns one two t store body to mem stored f there range ended is_open zero le = absurd (omega (arith, le))
group_turns one two t store body to mem stored f there range ended is_open (suc zero) le = absurd (omega (arith, le))
group_turns one two t store body to mem stored f there range ended is_open (suc (suc j)) le =
    let next = t.gate + 5 + length body in
    let far = long two t.gate body there in
    let is_range : range_of one t.end f.head.end ≡ store =
    ap (λ (k : ℕ). drop t.end (take k one)) f.is_end ∙ drop-take t.end (length store) one ∙ range in
    let w : Went one two t (further t store body to mem stored) next = record {
      body = (f.head, f.mem_records);
      store = f.store_records;
      is_body = ap (λ (l : List ℕ). body_of t next l) (body_there two t.gate body there) ∙ shift_body t next body ∙ f.is_body;
      is_store = ap (λ (l : List ℕ). stored_of t f.head l) is_range ∙ shift_store t f.head store ∙ f.is_store;
      is_group = shift_group t _ f.head f.mem_records f.store_records next f.is_group;
      here = omega (arith, far);
      there = omega (arith, f.is_end, ended, ap (λ (l : List ℕ). length l) range, length-take (length store) (drop t.end one), length-drop t.end one);
    } in
    let turned : Turned one two t (further t store body to mem stored) = record {
      inside = omega (arith, far);
      opened = is_open;
      next = next;
      is_next = ap (λ (l : List ℕ). next_gate t.set t.gate l) (count_there two t.gate body there) ∙ next_there t (length body) f.fits;
      is_group = goes one two t (further t store body to mem stored) next w;
    } in
    let shut : get_or two next 0 ≢ 1 = shut_by (shut_there two t.gate body there) in
    turn_then (suc j) one two t (further t store body to mem stored) _ (turns_on one two t _ turned) (turn_last j one two (further t store body to mem stored) (stops one two (further t store body to mem stored) far shut))
  where
    shut_by : {n : ℕ} → n ≡ 0 → n ≢ 1
    shut_by is one = omega (arith, is, one)

-- Nothing before the ends differs, the gate is open, and the group and its range stand there: the image opens with it.
pub grows : (was image : Image) (o : Opening) (store body : List ℕ) (to : Point) (mem stored : List Commit) → OpensAs was o → Behind o.ends was image
    → Follows o.base.catalog o.cut o.ends store body to mem stored
    → get_or (image (anchor_file o.ends.set)) o.ends.gate 0 ≡ 1
    → Holds (anchor_file o.ends.set) (o.ends.gate + 1) (group_text body) image → Holds (store_file o.ends.set) o.ends.store_end store image
    → OpensAs image (grown o store body to mem stored)
grows was image o store body to mem stored a b f is_open there range =
    let p = parts_of was a.at o a.opens in
    let b' = subst (λ (q : Opening). Behind q.ends was image) (sym p.is) b in
    let f' = subst (λ (q : Opening). Follows q.base.catalog q.cut q.ends store body to mem stored) (sym p.is) f in
    let open' = subst (λ (q : Opening). get_or (image (anchor_file q.ends.set)) q.ends.gate 0 ≡ 1) (sym p.is) is_open in
    let there' = subst (λ (q : Opening). Holds (anchor_file q.ends.set) (q.ends.gate + 1) (group_text body) image) (sym p.is) there in
    let range' = subst (λ (q : Opening). Holds (store_file q.ends.set) q.ends.store_end store image) (sym p.is) range in
    let t = p.last in
    let l = lies _ _ _ _ _ p.is_last in
    let ended : t.end ≤ length (was (store_file t.set)) = subst (λ (k : ℕ). t.end ≤ length (was (store_file k))) (sym l.set) (l.ended (omega arith)) in
    let ended' : t.end ≤ length (image (store_file t.set)) = as_long t.end _ _ b'.store ended in
    let far = long (image (anchor_file t.set)) t.gate body there' in
    let same : t.catalog ≡ p.base.catalog = l.catalog in
    let f'' = subst (λ (c : List Table). Follows c t.cut (opened none t).ends store body to mem stored) (sym same) f' in
    record {
      at = a.at;
      rooted = ap (λ (bytes : List ℕ). holding bytes) b'.root ∙ a.rooted;
      opens = goes_on was image a.at o p (further t store body to mem stored) 2 b'.root b'.base b'.store b'.anchor (omega (arith, far))
          (group_turns _ _ t store body to mem stored f'' there' range' ended' open') ∙ ap (λ (q : Opening). Ok (grown q store body to mem stored)) p.is;
    }
