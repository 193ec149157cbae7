-- Tokens of a line stand one behind the other, and so do parts of them.
use Rattle.std.proofs.Common.{◌≡◌, ℕ, zero, suc, ◌-◌, ◌≤◌, ◌<◌, true, false, List, [], ◌∷◌, length, take, drop, get_or, refl, sym, ap, subst, ◌∙◌, arith, Bool, cond}
use Rattle.std.specs.Prelude.{All, Option, Some, None, nat_lt}
use Rattle.std.specs.List.{AllPairs}
use Rattle.std.proofs.lemmas.Bool.{ltb-true}
use Rattle.std.proofs.lemmas.List.{take_rest}
use Rattle.std.proofs.lemmas.List.Elements.{All-cons, All-drop, All-head, All-push, All-tail}
use Rattle.std.proofs.lemmas.List.Kept.{AllPairs-cons}
use Rattle.std.proofs.lemmas.List.Quantifiers.{all_pairs_push}
use Rattle.sk_lex.specs.declared.scanning.ScanFault.{ScanFault}
use Rattle.sk_lex.specs.declared.scanning.ScanFault.TheVariants as scan_fault
use Rattle.sk_lex.specs.declared.token.Token.{Token}
use Rattle.sk_lex.specs.declared.token.Word.TheVariants as word
use Rattle.sk_lex.specs.Front.{Text}
use Rattle.sk_lex.specs.Spans.{AreCut, IsPlaced, reach as before_fault}
use Rattle.sk_script.specs.Body.{rest_of}
use Rattle.sk_script.specs.Legible.{capped, is_long, open_from, reach, with_text}
use Rattle.sk_script.specs.Lines.{IsLine}

pairs_tail : (t : Token) (ts : List Token) → AllPairs (λ t u. t.from < u.from) (t ∷ ts) → AllPairs (λ t u. t.from < u.from) ts
pairs_tail t ts p = λ i j d less within. p (suc i) (suc j) d (omega arith) (omega arith)

pairs_drop : (k : ℕ) (ts : List Token) → AllPairs (λ t u. t.from < u.from) ts → AllPairs (λ t u. t.from < u.from) (drop k ts)
pairs_drop zero ts p = p
pairs_drop (suc k) [] p = p
pairs_drop (suc k) (t ∷ ts) p = pairs_drop k ts (pairs_tail t ts p)

-- the tokens from one place on
pub line_behind : (k : ℕ) (ts : List Token) (end : ℕ) → IsLine ts end → IsLine (take (length ts - k) (drop k ts)) end
line_behind k ts end l = subst (λ us. IsLine us end) (sym (take_rest ts k)) (record {
  short = l.short;
  before = All-drop (λ t. t.from < end) k ts l.before;
  rising = pairs_drop k ts l.rising;
})

line_rest : (ts : List Token) (end : ℕ) → IsLine ts end → IsLine (rest_of ts) end
line_rest [] end l = l
line_rest (t ∷ ts) end l = record { short = l.short; before = All-tail (λ t. t.from < end) t ts l.before; rising = pairs_tail t ts l.rising }

-- those behind the first
pub rest_is_line : (us ts : List Token) (end : ℕ) → us ≡ rest_of ts → IsLine ts end → IsLine us end
rest_is_line us ts end is l = subst (λ vs. IsLine vs end) (sym is) (line_rest ts end l)

head_pairs : (t : Token) (ts : List Token) → AllPairs (λ t u. t.from < u.from) (t ∷ ts) → All (λ u. t.from < u.from) ts
head_pairs t ts p = λ j d within. p 0 (suc j) d (omega arith) (omega arith)

at_place : (P : Token → Type 0) (k : ℕ) (ts : List Token) (mark : Token) (rest : List Token) → All P ts → drop k ts ≡ mark ∷ rest → P mark
at_place P zero ts mark rest all is = All-head P mark rest (subst (All P) is all)
at_place P (suc k) [] mark rest all is = absurd cc
at_place P (suc k) (t ∷ ts) mark rest all is = at_place P k ts mark rest (All-tail P t ts all) is

-- a token behind these others comes after each of them
before_token : (k : ℕ) (ts : List Token) (mark : Token) (rest : List Token) → AllPairs (λ t u. t.from < u.from) ts → drop k ts ≡ mark ∷ rest → All (λ t. t.from < mark.from) (take k ts)
before_token zero ts mark rest rising is = λ k d within. absurd (omega arith)
before_token (suc k) [] mark rest rising is = absurd cc
before_token (suc k) (t ∷ ts) mark rest rising is =
    All-cons (λ u. u.from < mark.from) t (take k ts) (at_place (λ u. t.from < u.from) k ts mark rest (head_pairs t ts rising) is) (before_token k ts mark rest (pairs_tail t ts rising) is)

all_take : (P : Token → Type 0) (k : ℕ) (ts : List Token) → All P ts → All P (take k ts)
all_take P zero ts all = λ k d within. absurd (omega arith)
all_take P (suc k) [] all = all
all_take P (suc k) (t ∷ ts) all = All-cons P t (take k ts) (All-head P t ts all) (all_take P k ts (All-tail P t ts all))

pairs_take : (k : ℕ) (ts : List Token) → AllPairs (λ t u. t.from < u.from) ts → AllPairs (λ t u. t.from < u.from) (take k ts)
pairs_take zero ts p = λ i j d less within. absurd (omega arith)
pairs_take (suc k) [] p = p
pairs_take (suc k) (t ∷ ts) p =
    AllPairs-cons (λ t u. t.from < u.from) t (take k ts) (all_take (λ u. t.from < u.from) k ts (head_pairs t ts p)) (pairs_take k ts (pairs_tail t ts p))

-- the tokens before one of them are a line that ends there
pub before_mark : (k : ℕ) (ts : List Token) (mark : Token) (rest : List Token) (end : ℕ) → IsLine ts end → drop k ts ≡ mark ∷ rest → IsLine (take k ts) mark.from
before_mark k ts mark rest end l is =
    let below : mark.from < end = at_place (λ t. t.from < end) k ts mark rest l.before is in
    record {
      short = omega (arith, l.short);
      before = before_token k ts mark rest l.rising is;
      rising = pairs_take k ts l.rising;
    }

cons_of : (ts : List Token) (mark : Token) → 1 ≤ length ts → mark ≡ get_or ts 0 mark → (rest : List Token) × (ts ≡ mark ∷ rest)
cons_of [] mark some is = absurd (omega arith)
cons_of (t ∷ ts) mark some is = (ts, ap (λ u. u ∷ ts) (sym is))

-- the same as slices have it
pub before_place : (k : ℕ) (ts : List Token) (mark : Token) (end : ℕ) → IsLine ts end → 1 ≤ length (take (length ts - k) (drop k ts)) → mark ≡ get_or (take (length ts - k) (drop k ts)) 0 mark
    → IsLine (take k ts) mark.from
before_place k ts mark end l some is =
    let whole = cons_of (take (length ts - k) (drop k ts)) mark some is in
    before_mark k ts mark whole.0 end l (sym (take_rest ts k) ∙ whole.1)

all_from : (line : Text) (at : ℕ) (ts : List Token) (n : ℕ) → n < at → AreCut line at ts → All (λ t. n < t.from) ts
all_from line at [] n less cut = λ k d within. absurd (omega arith)
all_from line at (t ∷ ts) n less cut = All-cons (λ u. n < u.from) t ts (omega (arith, cut.0.after)) (all_from line t.to ts n (omega (arith, cut.0.after, cut.0.some)) cut.1)

-- tokens that were cut from a line stand one behind the other
cut_rises : (line : Text) (at : ℕ) (ts : List Token) → AreCut line at ts → AllPairs (λ t u. t.from < u.from) ts
cut_rises line at [] cut = λ i j d less within. absurd (omega arith)
cut_rises line at (t ∷ ts) cut = AllPairs-cons (λ t u. t.from < u.from) t ts (all_from line t.to ts t.from cut.0.some cut.1) (cut_rises line t.to ts cut.1)

-- no token begins behind the byte that fits none
no_nearer : (line : Text) (s : Option ScanFault) → IsPlaced s → before_fault (length line) s ≤ reach line s
no_nearer line None placed = omega arith
no_nearer line (Some (scan_fault.OpenText place)) placed = omega arith
no_nearer line (Some (scan_fault.BadByte from place)) placed = by (is_long from line)
  where
    by : (b : Bool) → from ≤ cond b from (place - 1)
    by true = omega arith
    by false = omega arith

below_cap : (m n : ℕ) → m < n → m < 4096 → m < capped n
below_cap m n less most = by (nat_lt n 4096)
  where
    by : (b : Bool) → m < cond b n 4096
    by true = less
    by false = most

all_before_cap : (line : Text) (s : Option ScanFault) (ts : List Token) → IsPlaced s → All (λ t. t.from < before_fault (length line) s) ts → All (λ t. t.from < 4096) ts
    → All (λ t. t.from < capped (reach line s)) ts
all_before_cap line s ts placed before begun = λ k d within.
    let least = no_nearer line s placed in
    let less : (get_or ts k d).from < before_fault (length line) s = before k d within in
    below_cap (get_or ts k d).from (reach line s) (omega arith) (begun k d within)

is_capped : (n : ℕ) → capped n ≤ 4096
is_capped n = by (nat_lt n 4096) refl
  where
    by : (b : Bool) → nat_lt n 4096 ≡ b → cond b n 4096 ≤ 4096
    by true is = let less = ltb-true n 4096 is in omega arith
    by false is = omega arith

-- a text that holds such a byte begins behind the other tokens
with_text_line : (s : Option ScanFault) (len : ℕ) (ts : List Token) (end : ℕ) → IsLine ts end → All (λ t. t.from < before_fault len s) ts → IsLine (with_text ts end (open_from s end)) end
with_text_line None len ts end is before = is
with_text_line (Some (scan_fault.OpenText place)) len ts end is before = is
with_text_line (Some (scan_fault.BadByte from place)) len ts end is before = by (nat_lt from end) refl
  where
    text : Token
    text = record { word = word.Text []; from = from; to = end }

    by : (b : Bool) → nat_lt from end ≡ b → IsLine (with_text ts end (cond b (Some from) None)) end
    by true less = record {
      short = is.short;
      before = All-push (λ t. t.from < end) ts text is.before (ltb-true from end less);
      rising = all_pairs_push (λ t u. t.from < u.from) ts text is.rising before;
    }
    by false less = is

-- the front of a line is one
pub front_is_line : (line : Text) (s : Option ScanFault) (ts : List Token) (end : ℕ) → end ≡ capped (reach line s) → AreCut line 0 ts
    → All (λ t. t.from < before_fault (length line) s) ts → All (λ t. t.from < 4096) ts → IsPlaced s → IsLine (with_text ts end (open_from s end)) end
front_is_line line s ts end is cut before begun placed =
    let front : IsLine ts (capped (reach line s)) = record {
      short = is_capped (reach line s);
      before = all_before_cap line s ts placed before begun;
      rising = cut_rises line 0 ts cut;
    } in
    with_text_line s (length line) ts end (subst (IsLine ts) (sym is) front) before
