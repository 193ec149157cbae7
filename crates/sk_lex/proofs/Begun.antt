-- What of a scan begins before a place.
use Rattle.std.proofs.Common.{◌≡◌, ℕ, zero, suc, ◌+◌, ◌-◌, ◌≤◌, ◌<◌, Bool, true, false, cond, List, [], ◌∷◌, ◌++◌, length, refl, sym, ap, subst, ◌∙◌, append_assoc, append-nil, arith}
use Rattle.std.specs.Prelude.{◌==◌, nat_lt, All, Option, Some, None, IfOk, Result, Ok, Err}
use Rattle.std.specs.List.{filter}
use Rattle.std.proofs.lemmas.Bool.{lt-ltb, le-ltb}
use Rattle.std.proofs.lemmas.List.Elements.{All-nil, All-cons, All-head, All-tail, All-weaker, filter-append}
use Rattle.sk_lex.specs.declared.front.Misfit.TheVariants as misfit
use Rattle.sk_rows.specs.declared.memory.NoMemory.{NoMemory}
use Rattle.sk_lex.specs.declared.scanning.Scanned.{Scanned}
use Rattle.sk_lex.specs.declared.scanning.ScanFault.{ScanFault}
use Rattle.sk_lex.specs.declared.scanning.ScanFault.TheVariants as scan_fault
use Rattle.sk_lex.specs.declared.token.Token.{Token}
use Rattle.sk_lex.specs.Front.{Text, Found, front}
use Rattle.sk_lex.specs.Scanning.{Scan, begin_of, begun, scan, scan_from, scan_on, fault_begun, token}

-- the fault is in a token that begins there
abbrev IsFrom : ℕ → ℕ → Option ScanFault → Type 0
IsFrom at end None = Unit {0}
IsFrom at end (Some s) = (at ≤ begin_of s) × (begin_of s < end)

-- a scan that goes on behind the tokens found finds what begins from there on
record Goes (found : List Token) (at end : ℕ) (s : Scan) : Type 0 where
  more : List Token
  tokens : s.0 ≡ found ++ more
  behind : All (λ t. at ≤ t.from) more
  within : All (λ t. t.from < end) more
  fault : IsFrom at end s.1

later : (at to end : ℕ) (s : Option ScanFault) → at ≤ to → IsFrom to end s → IsFrom at end s
later at to end None le is = tt
later at to end (Some s) le is = (omega (arith, is.0), is.1)

wider : (found : List Token) (at to end : ℕ) (s : Scan) → at ≤ to → Goes found to end s → Goes found at end s
wider found at to end s le g = record {
  more = g.more;
  tokens = g.tokens;
  behind = All-weaker (λ t. to ≤ t.from) (λ t. at ≤ t.from) (λ t is. omega arith) g.more g.behind;
  within = g.within;
  fault = later at to end s.1 le g.fault;
}

nothing_more : (found : List Token) (at end : ℕ) (s : Option ScanFault) → IsFrom at end s → Goes found at end (found, s)
nothing_more found at end s is = record {
  more = [];
  tokens = sym (append-nil found);
  behind = All-nil (λ t. at ≤ t.from);
  within = All-nil (λ t. t.from < end);
  fault = is;
}

one_more : (found : List Token) (at end : ℕ) (t : Token) (s : Scan) → t.from ≡ at → at < end → Goes (found ++ t ∷ []) at end s → Goes found at end s
one_more found at end t s is less g = record {
  more = t ∷ g.more;
  tokens = g.tokens ∙ append_assoc found (t ∷ []) g.more;
  behind = All-cons (λ t. at ≤ t.from) t g.more (omega (arith, is)) g.behind;
  within = All-cons (λ t. t.from < end) t g.more (omega (arith, is, less)) g.within;
  fault = g.fault;
}

by_front : (found : List Token) (at end : ℕ) (more : List Token → ℕ → Scan) (r : Found) → at < end
    → ((longer : List Token) (left : ℕ) → Goes longer at end (more longer left)) → Goes found at end (scan_on found at more r)
by_front found at end more (Ok r) less ih = one_more found at end (token at r) (more (found ++ token at r ∷ []) (r.1 - 1)) refl less (ih (found ++ token at r ∷ []) (r.1 - 1))
by_front found at end more (Err (misfit.Bad n)) less ih = nothing_more found at end (Some (scan_fault.BadByte at (at + n + 1))) (omega arith, less)
by_front found at end more (Err misfit.Open) less ih = nothing_more found at end (Some (scan_fault.OpenText (at + 1))) (omega arith, omega arith)
by_front found at end more (Err misfit.NoMemory) less ih = nothing_more found at end None tt

goes : (z : Text) (found : List Token) (left at end : ℕ) → at + length z ≡ end → Goes found at end (scan_from found left at z)
goes [] found left at end is = nothing_more found at end None tt
goes (b ∷ z) found (suc left) at end is = wider found at (at + 1) end _ (omega arith) (goes z found left (at + 1) end (omega arith))
goes (b ∷ z) found zero at end is =
    by (b == 32) (λ longer left. wider longer at (at + 1) end (scan_from longer left (at + 1) z) (omega arith) (goes z longer left (at + 1) end (omega arith)))
  where
    more : List Token → ℕ → Scan
    more longer left = scan_from longer left (at + 1) z

    by : (t : Bool) → ((longer : List Token) (left : ℕ) → Goes longer at end (more longer left)) → Goes found at end (cond t (more found 0) (scan_on found at more (front (b ∷ z))))
    by true on = on found 0
    by false on = by_front found at end more (front (b ∷ z)) (omega arith) on

-- ---- what is kept of it

all_kept : (most : ℕ) (ts : List Token) → All (λ t. t.from < most) ts → filter (λ t. nat_lt t.from most) ts ≡ ts
all_kept most [] all = refl
all_kept most (t ∷ ts) all =
    rw (lt-ltb t.from most (All-head (λ t. t.from < most) t ts all)) (ap (λ l. t ∷ l) (all_kept most ts (All-tail (λ t. t.from < most) t ts all)))

none_kept : (most : ℕ) (ts : List Token) → All (λ t. most ≤ t.from) ts → filter (λ t. nat_lt t.from most) ts ≡ []
none_kept most [] all = refl
none_kept most (t ∷ ts) all =
    rw (le-ltb t.from most (All-head (λ t. most ≤ t.from) t ts all)) (none_kept most ts (All-tail (λ t. most ≤ t.from) t ts all))

abbrev IsBegun : ℕ → Option ScanFault → Type 0
IsBegun most None = Unit {0}
IsBegun most (Some s) = begin_of s < most

stop_kept : (most : ℕ) (s : Option ScanFault) → IsBegun most s → fault_begun most s ≡ s
stop_kept most None is = refl
stop_kept most (Some s) is = rw (lt-ltb (begin_of s) most is) refl

stop_gone : (most end : ℕ) (s : Option ScanFault) → IsFrom most end s → fault_begun most s ≡ None
stop_gone most end None is = refl
stop_gone most end (Some s) is = rw (le-ltb (begin_of s) most is.0) refl

-- all of a scan begins before the place
pub all_begun : (most : ℕ) (found : List Token) (s : Option ScanFault) → All (λ t. t.from < most) found → IsBegun most s → (found, s) ≡ begun most (found, s)
unfolding begun
all_begun most found s all is = rw (all_kept most found all, stop_kept most s is) refl

-- a scan that has come to the place finds nothing more that is kept
pub cut_off : (most : ℕ) (found : List Token) (left at : ℕ) (z : Text) → most ≤ at → All (λ t. t.from < most) found → (found, None) ≡ begun most (scan_from found left at z)
unfolding begun
cut_off most found left at z le all =
    let g = goes z found left at (at + length z) refl in
    let s = scan_from found left at z in
    let none = none_kept most g.more (All-weaker (λ t. at ≤ t.from) (λ t. most ≤ t.from) (λ t is. omega arith) g.more g.behind) in
    let kept : filter (λ t. nat_lt t.from most) s.0 ≡ found =
    ap (filter (λ t. nat_lt t.from most)) g.tokens
    ∙ filter-append (λ (t : Token). nat_lt t.from most) found g.more
    ∙ rw (all_kept most found all, none) (append-nil found) in
    let gone : fault_begun most s.1 ≡ None = stop_gone most (at + length z) s.1 (later most at (at + length z) s.1 le g.fault) in
    rw (kept, gone) refl

begun_within : (most at end : ℕ) (s : Option ScanFault) → end ≤ most → IsFrom at end s → IsBegun most s
begun_within most at end None le is = tt
begun_within most at end (Some s) le is = omega (arith, is.1)

-- all of a line begins before a place that is not before its end
pub all_of_line : (most : ℕ) (line : Text) → length line ≤ most → begun most (scan line) ≡ scan line
unfolding scan
all_of_line most line le =
    let g = goes line [] 0 0 (length line) (omega arith) in
    let s = scan_from [] 0 0 line in
    let within = All-weaker (λ t. t.from < length line) (λ t. t.from < most) (λ t is. omega arith) g.more g.within in
    sym (all_begun most s.0 s.1 (subst (All (λ t. t.from < most)) (sym g.tokens) within) (begun_within most 0 (length line) s.1 le g.fault))

-- what was found of a line up to its end is its scan
pub scan_of_line : (line : Text) (r : Result Scanned NoMemory) → IfOk r (λ s. ◌≡◌ {A = Scan} (s.tokens, s.fault) (begun (length line) (scan line)))
    → IfOk r (λ s. ◌≡◌ {A = Scan} (s.tokens, s.fault) (scan line))
scan_of_line line (Ok s) is = is ∙ all_of_line (length line) line (omega arith)
scan_of_line line (Err e) is = tt
