-- A new store, call by call.
use Rattle.std.proofs.Common.{◌≡◌, ◌≢◌, ℕ, suc, ◌+◌, ◌≤◌, ◌<◌, ◌^◌, Bool, true, false, List, [], ◌∷◌, length, take, drop, get_or, None, Ok, refl, sym, ap, subst, ◌∙◌, arith, inl, inr, length-take, length-drop}
use Rattle.std.specs.Prelude.{◌==◌}
use Rattle.std.proofs.lemmas.Bool.{cases_eq, le-ltb, or_cases, or_parts, and_cases, leb-false, eqb-true, eqb-false, false≢true}
use Rattle.std.proofs.lemmas.List.{get_or-take}
use Rattle.std.proofs.Math.Seq.{take-length}
use Rattle.std.proofs.lemmas.Nat.{from_be_bytes-to_be_bytes_4, from_be_bytes-to_be_bytes_8}
use Rattle.sk_device.specs.Disk.{Image, Disk, Torn, TornBytes, Steps, Looks, IsSettled}
use Rattle.sk_device.proofs.Moments.{steps_then, steps_weaker, steps_none, steps_looked}
use Rattle.sk_rows.specs.declared.table.Table.{Table}
use Rattle.sk_model.specs.declared.point.Point.{Point}
use Rattle.sk_log.specs.Calls.{Holds, Stands}
use Rattle.sk_codec.specs.Reading.{number_at, number_in}
use Rattle.sk_log.specs.Stores.{Root, Opening, holding, open_from, opens, new_store, entry_at, byte_in, begun, no_rows, turns}
use Rattle.sk_log.specs.Images.{Base, base_at}
use Rattle.sk_log.specs.Groups.{selection}
use Rattle.sk_log.specs.Spelled.{entry_bytes}
use Rattle.sk_log.specs.Growth.{OpensAs}
use Rattle.sk_log.proofs.Turns.{turn_last, stops}
use Rattle.sk_log.proofs.Openings.{from_parts}
use Rattle.sk_recover.specs.Making.{AllImages, Unrooted, IsShut, CanShut, entry_text, Reopens, Remakes, IsMade, IsEmptyImage, needs_gate}
use Rattle.sk_recover.proofs.Roots.{none_parts, none_short, none_shut, some_open, torn_short, torn_entry, other_closed}

pub entry_len : (start : Point) (size : ℕ) → length (entry_text start size) ≡ 23
unfolding entry_bytes
entry_len start size = refl

opens_unrooted : (catalog : List Table) (start : Point) (image : Image) → Unrooted image → opens catalog start image ≡ Ok (new_store catalog start)
unfolding opens
opens_unrooted catalog start image none = rw none refl

opens_as : (catalog : List Table) (start : Point) (image : Image) (o : Opening) → OpensAs image o → opens catalog start image ≡ Ok o
unfolding opens
opens_as catalog start image o a = rw (a.rooted, a.opens) refl

pub still_new : (catalog : List Table) (start : Point) (was image : Image) → Unrooted was → Unrooted image → Reopens catalog start was image
still_new catalog start was image a b = opens_unrooted catalog start image b ∙ sym (opens_unrooted catalog start was a)

pub now_made : (catalog : List Table) (start : Point) (was image : Image) → Unrooted was → IsMade catalog start image → Reopens catalog start was image
now_made catalog start was image a b = opens_as catalog start image _ b ∙ sym (opens_unrooted catalog start was a)

pub can_unrooted : (needed : Bool) (image : Image) → CanShut needed image → Unrooted image
can_unrooted true image c = c.0
can_unrooted false image c = c.unrooted

pub can_other : (needed : Bool) (was image : Image) → image 0 ≡ was 0 → CanShut needed was → CanShut needed image
can_other true was image same c = (ap (λ (l : List ℕ). holding l) same ∙ c.0, subst (λ (l : List ℕ). length l < 24) (sym same) c.1)
can_other false was image same c = record {
  unrooted = ap (λ (l : List ℕ). holding l) same ∙ c.unrooted;
  some = subst (λ (l : List ℕ). 0 < length l) (sym same) c.some;
  shut = subst (λ (l : List ℕ). get_or l 0 0 ≢ 1) (sym same) c.shut;
}

pub shut_kept : (was image : Image) → IsShut was → TornBytes 1 23 (was 0) (image 0) → IsShut image
shut_kept was image s torn =
    let p = none_parts (was 0) s.unrooted in
    let n = torn_entry (was 0) (image 0) (record { other = p.1; some = s.some; shut = s.shut }) torn in
    record { unrooted = none_shut (image 0) n.shut n.other; some = n.some; shut = n.shut }

-- all that stands before the gate of the root is opened
pub record Ready (text entry : List ℕ) (image : Image) : Type 0 where
  pub shut : IsShut image
  pub base : Holds 5 0 text image
  pub anchor : Holds 2 0 (0 ∷ []) image
  pub root : Holds 0 1 entry image

pub root_again : (root : List ℕ) (start : Point) (size : ℕ) → take 23 (drop 1 root) ≡ entry_text start size → start.a ≤ 2147483647 → start.b ≤ 2147483647 → size < 2 ^ 64
    → entry_at root 0 ≡ Ok (record { set = 0; sequence = 1; cut = selection start.a start.b; size = size })
unfolding entry_at byte_in number_at number_in entry_bytes
root_again root start size is a b long =
    rw (is, from_be_bytes-to_be_bytes_4 start.a (omega (arith, a)), le-ltb 2147483647 start.a a, le-ltb start.a 0 (omega arith), from_be_bytes-to_be_bytes_4 start.b (omega (arith, b)), le-ltb 2147483647 start.b b, le-ltb start.b 0 (omega arith), from_be_bytes-to_be_bytes_8 size long) refl

held_byte : (l : List ℕ) (b : ℕ) → take 1 l ≡ b ∷ [] → (get_or l 0 0 ≡ b) × (0 < length l)
held_byte l b is = (sym (get_or-take 1 l 0 0 (omega arith)) ∙ ap (λ (x : List ℕ). get_or x 0 0) is, omega (arith, ap (λ (x : List ℕ). length x) is, length-take 1 l))

based : (bytes text : List ℕ) → take (length text) bytes ≡ text → base_at 5 bytes (length text) ≡ base_at 5 text (length text)
unfolding base_at
based bytes text is =
    let same : take (length text) bytes ≡ take (length text) text = is ∙ sym (take-length text) in
    rw same refl

pub opened_root : (catalog : List Table) (text : List ℕ) (start : Point) (was image : Image) → IsEmptyImage catalog text → start.commit ≡ false → Ready text (entry_text start (length text)) was → Torn 0 0 1 was image → start.a ≤ 2147483647 → start.b ≤ 2147483647 → length text < 2 ^ 64
    → get_or (image 0) 0 0 ≡ 1 → IsMade catalog start image
opened_root catalog text start was image empty chosen r t a b long is =
    let root = image 0 in
    let size : length (entry_text start (length text)) ≡ 23 = entry_len start (length text) in
    let stood : take 23 (drop 1 (was 0)) ≡ entry_text start (length text) = subst (λ (n : ℕ). take n (drop 1 (was 0)) ≡ entry_text start (length text)) size r.root in
    let entry : take 23 (drop 1 root) ≡ entry_text start (length text) = ap (λ (l : List ℕ). take 23 l) (t.this.behind 1 (omega arith)) ∙ stood in
    let ne5 : ◌≢◌ {A = ℕ} 5 0 = omega arith in
    let ne2 : ◌≢◌ {A = ℕ} 2 0 = omega arith in
    let base : take (length text) (image 5) ≡ text = ap (λ (l : List ℕ). take (length text) l) (t.others 5 ne5) ∙ r.base in
    let gate = held_byte (image 2) 0 (ap (λ (l : List ℕ). take 1 l) (t.others 2 ne2) ∙ r.anchor) in
    let shut : get_or (image 2) 0 0 ≢ 1 = not_one gate.0 in
    let p = none_parts (was 0) r.shut.unrooted in
    let other = other_closed 0 1 (was 0) root (omega arith) t.this p.1 in
    let count : suc (length (image 2)) ≡ length (image 2) + 1 = omega arith in
    let cut : selection start.a start.b ≡ start = ap (λ (c : Bool). record { a = start.a; b = start.b; commit = c }) (sym chosen) in
    let the_root : Root = record { set = 0; sequence = 1; cut = selection start.a start.b; size = length text } in
    let the_base : Base = record { catalog = catalog; rows = no_rows catalog } in
    record {
      at = 0;
      rooted = some_open root is (omega (arith, ap (λ (l : List ℕ). length l) entry, length-take 23 (drop 1 root), length-drop 1 root, size)) other;
      opens = subst (λ (p : Point). open_from image 0 ≡ Ok (new_store catalog p)) cut (from_parts image 0 (new_store catalog (selection start.a start.b)) (record {
        root = the_root;
        base = the_base;
        last = begun the_root the_base;
        is_root = root_again root start (length text) entry a b long;
        is_base = based (image 5) text base ∙ empty;
        is_last = subst (λ (m : ℕ). turns m (image 1) (image 2) (begun the_root the_base) ≡ Ok (begun the_root the_base)) count (turn_last (length (image 2)) (image 1) (image 2) (begun the_root the_base) (stops (image 1) (image 2) (begun the_root the_base) gate.1 shut));
        is = refl;
      }));
    }
  where
    not_one : {n : ℕ} → n ≡ 0 → n ≢ 1
    not_one zero one = omega (arith, zero, one)

module _ {D : Type 0} (disk : Disk D) (catalog : List Table) (text : List ℕ) (start : Point) where
  abbrev R : Image → Image → Type 0
  R = Reopens catalog start

  pub joined : (old mid new : D) → Steps disk R old mid → Steps disk R mid new → Steps disk R old new
  joined old mid new first second = steps_then disk _ _ _ old mid new first second (λ was image now r. r) (λ was between image now then_now r q. q ∙ r)

  pub other_can : (needed : Bool) (file at n : ℕ) (mid new : D) → 0 ≢ file → AllImages disk (CanShut needed) mid → Steps disk (Torn file at n) mid new → AllImages disk (CanShut needed) new
  other_can needed file at n mid new ne have steps image now = let f = steps.now image now in can_other needed f.0 image (f.2.others 0 ne) (have f.0 f.1)

  pub other_same : (needed : Bool) (file at n : ℕ) (mid new : D) → 0 ≢ file → AllImages disk (CanShut needed) mid → Steps disk (Torn file at n) mid new → Steps disk R mid new
  other_same needed file at n mid new ne have steps = steps_weaker disk _ _ mid new steps (λ was image now t.
      still_new catalog start was image (can_unrooted needed was (have was now)) (can_unrooted needed image (can_other needed was image (t.others 0 ne) (have was now))))

  pub remade : (mid new : D) → Steps disk (Remakes catalog start) mid new → Steps disk R mid new
  remade mid new steps = steps_weaker disk _ _ mid new steps (λ was image now r. r.opens)

  pub entry_same : (n : ℕ) (mid new : D) → n ≡ 23 → AllImages disk IsShut mid → Steps disk (Torn 0 1 n) mid new → Steps disk R mid new
  entry_same n mid new is have steps = steps_weaker disk _ _ mid new steps (λ was image now t.
      let s = have was now in
      still_new catalog start was image s.unrooted (shut_kept was image s (subst (λ (k : ℕ). TornBytes 1 k (was 0) (image 0)) is t.this)).unrooted)

  pub is_ready : (entry : List ℕ) (m1 m2 m3 m4 : D) → length entry ≡ 23 → Stands disk 5 0 text m1 → Steps disk (Torn 2 0 1) m1 m2 → Stands disk 2 0 (0 ∷ []) m2 → Steps disk (Remakes catalog start) m2 m3
      → AllImages disk IsShut m3 → Steps disk (Torn 0 1 (length entry)) m3 m4 → Stands disk 0 1 entry m4 → AllImages disk (Ready text entry) m4
  is_ready entry m1 m2 m3 m4 is base two anchor three shut four root image now =
      let f3 = four.now image now in
      let f2 = three.now f3.0 f3.1 in
      let f1 = two.now f2.0 f2.1 in
      let ne50 : ◌≢◌ {A = ℕ} 5 0 = omega arith in
      let ne20 : ◌≢◌ {A = ℕ} 2 0 = omega arith in
      let ne52 : ◌≢◌ {A = ℕ} 5 2 = omega arith in
      record {
        shut = shut_kept f3.0 image (shut f3.0 f3.1) (subst (λ (k : ℕ). TornBytes 1 k (f3.0 0) (image 0)) is f3.2.this);
        base = ap (λ (l : List ℕ). take (length text) l) (f3.2.others 5 ne50 ∙ f2.2.base ∙ f1.2.others 5 ne52) ∙ base f1.0 f1.1;
        anchor = ap (λ (l : List ℕ). take 1 l) (f3.2.others 2 ne20 ∙ f2.2.anchor) ∙ anchor f2.0 f2.1;
        root = root image now;
      }

  module _ (empty : IsEmptyImage catalog text) (chosen : start.commit ≡ false) (a : start.a ≤ 2147483647) (b : start.b ≤ 2147483647) (long : length text < 2 ^ 64) where
    pub gate_same : (mid new : D) → AllImages disk (Ready text (entry_text start (length text))) mid → Steps disk (Torn 0 0 1) mid new → Steps disk R mid new
    gate_same mid new have steps = steps_weaker disk _ _ mid new steps (λ was image now t.
        let r = have was now in
        elim (cases_eq (get_or (image 0) 0 0) 1) [
          | inl is ↦ now_made catalog start was image r.shut.unrooted (opened_root catalog text start was image empty chosen r t a b long is)
          | inr ne ↦ still_new catalog start was image r.shut.unrooted (none_shut (image 0) ne (other_closed 0 1 (was 0) (image 0) (omega arith) t.this (none_parts (was 0) r.shut.unrooted).1))
        ])

    pub gate_made : (mid new : D) → AllImages disk (Ready text (entry_text start (length text))) mid → Steps disk (Torn 0 0 1) mid new → Stands disk 0 0 (1 ∷ []) new → AllImages disk (IsMade catalog start) new
    gate_made mid new have steps gate image now =
        let f = steps.now image now in
        opened_root catalog text start f.0 image empty chosen (have f.0 f.1) f.2 a b long (held_byte (image 0) 1 (gate image now)).0

-- a closed gate byte is written
module _ {D : Type 0} (disk : Disk D) (old new : D) (have : AllImages disk (CanShut true) old) (steps : Steps disk (Torn 0 0 1) old new) where
  pub shut_same : (catalog : List Table) (start : Point) → Steps disk (Remakes catalog start) old new
  shut_same catalog start = steps_weaker disk _ _ old new steps (λ was image now t.
      let ne2 : ◌≢◌ {A = ℕ} 2 0 = omega arith in
      let ne5 : ◌≢◌ {A = ℕ} 5 0 = omega arith in
      let h = have was now in
      record { opens = still_new catalog start was image h.0 (none_short (image 0) (torn_short (was 0) (image 0) h.1 t.this)); anchor = t.others 2 ne2; base = t.others 5 ne5 })

  pub shut_now : Stands disk 0 0 (0 ∷ []) new → AllImages disk IsShut new
  shut_now gate image now =
      let f = steps.now image now in
      let b = held_byte (image 0) 0 (gate image now) in
      record { unrooted = none_short (image 0) (torn_short (f.0 0) (image 0) (have f.0 f.1).1 f.2.this); some = b.1; shut = λ is. absurd (no_both b.0 is) }
    where
      no_both : {n : ℕ} → n ≡ 0 → n ≢ 1
      no_both zero one = omega (arith, zero, one)

-- what has to be done with byte 0, where no entry is open
pub can_of : (image : Image) (b : Bool) → b ≡ needs_gate (image 0) → Unrooted image → CanShut b image
can_of image true is none =
    let p = none_parts (image 0) none in (
      none,
      elim (or_cases _ _ (sym is)) [
        | inl empty ↦ (let zero : length (image 0) ≡ 0 = eqb-true _ _ empty in omega (arith, zero))
        | inr one ↦ elim (and_cases _ _ p.0) [
          | inl short ↦ leb-false _ _ short
          | inr shut ↦ absurd (false≢true (sym shut ∙ one))
        ]
      ],
    )
can_of image false is none =
    let parts = or_parts (length (image 0) == 0) (get_or (image 0) 0 0 == 1) (sym is) in
    let ne : length (image 0) ≢ 0 = λ e. eqb-false _ _ parts.0 e in
    record { unrooted = none; some = omega (arith, ne); shut = λ e. eqb-false _ _ parts.1 e }

-- calls that look change no opening
pub looked_same : {D : Type 0} (disk : Disk D) (catalog : List Table) (start : Point) (old new : D) → Looks disk old new → Steps disk (Reopens catalog start) old new
looked_same disk catalog start old new looks = steps_looked disk _ old old new (steps_none disk _ old (λ image. refl)) looks

pub settled_can : {D : Type 0} (disk : Disk D) (device : D) (root : List ℕ) (b : Bool) → IsSettled disk device 0 → root ≡ disk.seen device 0 → holding root ≡ Ok None → b ≡ needs_gate root → AllImages disk (CanShut b) device
settled_can disk device root b settled is none needs image now =
    let same : root ≡ image 0 = is ∙ sym (settled image now) in
    can_of image b (needs ∙ ap (λ (l : List ℕ). needs_gate l) same) (ap (λ (l : List ℕ). holding l) (sym same) ∙ none)
