-- The lines of each session, with one line more.
use Rattle.std.specs.Prelude.{◌≡◌, ℕ, ◌+◌, ◌<◌, List, [], ◌∷◌, ◌++◌, Some, None, Bool, true, false, cond, ◌==◌, length}
use Rattle.std.proofs.Common.{refl, sym, ap, subst, ◌∙◌, arith, ⊎_elim}
use Rattle.std.proofs.lemmas.Bool.{ne_eqb, eq-eqb}
use Rattle.sk_model.specs.declared.record.Said.{Said}
use Rattle.sk_model.specs.declared.record.Record.{Record}
use Rattle.sk_model.specs.Spoken.{Seat, uses_label}
use Rattle.sk_model.proofs.Lists.{Each, each_append, each_front, each_end}
use Rattle.sk_model.specs.Texts.{texts_are_short}
use Rattle.sk_session.specs.declared.session.Session.{Session}
use Rattle.sk_session.specs.Printed.{Line, Prints, Adds, AddsOne, HasPrinted, said_in, seat_after}
use Rattle.sk_run.specs.Told.{RunLine, lines_of, IsShort, AreTold}

abbrev pub line_by : ℕ → Line → RunLine
line_by number l = record { session = number; line = l }

-- ---- the lines of one session

-- its own line is one more of them
pub own_line : (k : ℕ) (lines : List RunLine) (l : Line) → lines_of k (lines ++ line_by k l ∷ []) ≡ lines_of k lines ++ l ∷ []
own_line k [] l = ap (λ b. cond b (l ∷ []) []) (eq-eqb k k refl)
own_line k (m ∷ ms) l = at (k == m.session) (own_line k ms l)
  where
    at : (b : Bool) → lines_of k (ms ++ line_by k l ∷ []) ≡ lines_of k ms ++ l ∷ [] → cond b (m.line ∷ lines_of k (ms ++ line_by k l ∷ [])) (lines_of k (ms ++ line_by k l ∷ [])) ≡ cond b (m.line ∷ lines_of k ms) (lines_of k ms) ++ l ∷ []
    at true e = ap (λ rest. m.line ∷ rest) e
    at false e = e

-- and that of another is none
pub other_line : (k n : ℕ) (lines : List RunLine) (l : Line) → (k == n) ≡ false → lines_of k (lines ++ line_by n l ∷ []) ≡ lines_of k lines
other_line k n [] l e = ap (λ b. cond b (l ∷ []) []) e
other_line k n (m ∷ ms) l e = ap (λ rest. cond (k == m.session) (m.line ∷ rest) rest) (other_line k n ms l e)

-- ---- what each was told

-- sessions of greater numbers were told what they were told
pub told_later : (k n : ℕ) (lines : List RunLine) (l : Line) (ss : List Session) → n < k → AreTold k lines ss → AreTold k (lines ++ line_by n l ∷ []) ss
told_later k n lines l [] less h = tt
told_later k n lines l (s ∷ ss) less h =
    let apart : (k == n) ≡ false = ne_eqb k n (λ e. omega (arith, less, e)) in (
      h.0,
      subst (λ xs. HasPrinted xs s) (sym (other_line k n lines l apart)) h.1,
      told_later (k + 1) n lines l ss (omega (arith, less)) h.2,
    )

-- a number that none stands before
pub k_is : (n k : ℕ) → n ≡ 0 + k → k ≡ n
k_is n k e = omega (arith, e)

-- and the session that spoke was told one line more
pub told_on : (k n : ℕ) (before : List Session) (old new : Session) (after : List Session) (lines : List RunLine) (l : Line) → n ≡ length before + k → new.number ≡ old.number
    → ((xs : List Line) → HasPrinted xs old → HasPrinted (xs ++ l ∷ []) new) → AreTold k lines (before ++ old ∷ after) → AreTold k (lines ++ line_by n l ∷ []) (before ++ new ∷ after)
told_on k n [] old new after lines l at number one h = (
  number ∙ h.0,
  subst (λ m. HasPrinted (lines_of k (lines ++ line_by m l ∷ [])) new) (k_is n k at) (subst (λ xs. HasPrinted xs new) (sym (own_line k lines l)) (one (lines_of k lines) h.1)),
  told_later (k + 1) n lines l after (omega (arith, at)) h.2,
)
told_on k n (b ∷ before) old new after lines l at number one h =
    let apart : (k == n) ≡ false = ne_eqb k n (λ e. omega (arith, at, e)) in (
      h.0,
      subst (λ xs. HasPrinted xs b) (sym (other_line k n lines l apart)) h.1,
      told_on (k + 1) n before old new after lines l (omega (arith, at)) number one h.2,
    )

-- ---- texts that are not too long

abbrev pub IsShortLine : Line → Type 0
IsShortLine l = IsShort l.0

abbrev pub IsShortSaid : Said → Type 0
IsShortSaid s = texts_are_short s.statement ≡ true

pub lines_short : (k : ℕ) (lines : List RunLine) → Each (λ (l : RunLine). IsShort l.line.0) lines → Each IsShortLine (lines_of k lines)
lines_short k [] h = tt
lines_short k (m ∷ ms) h = at (k == m.session) (lines_short k ms h.1)
  where
    at : (b : Bool) → Each IsShortLine (lines_of k ms) → Each IsShortLine (cond b (m.line ∷ lines_of k ms) (lines_of k ms))
    at true rest = (h.0, rest)
    at false rest = rest

-- what a line adds is short where it is
adds_short : (seat : Seat) (l : Line) (part : List Said) → IsShortLine l → Adds seat l.0 l.1 part → Each IsShortSaid part
adds_short seat (None, r) part h a = subst (Each IsShortSaid) (sym a) tt
adds_short seat (Some s, r) part h a = at (uses_label seat r) a
  where
    at : (b : Bool) → cond b (AddsOne s r part) (part ≡ []) → Each IsShortSaid part
    at true a = ⊎_elim (λ is. subst (Each IsShortSaid) (sym is) (h, tt)) (λ is. subst (Each IsShortSaid) (sym is.1) tt) a
    at false a = subst (Each IsShortSaid) (sym a) tt

pub prints_short : (seat : Seat) (lines : List Line) (said : List Said) (end : Seat) → Each IsShortLine lines → Prints seat lines said end → Each IsShortSaid said
prints_short seat [] said end h p = subst (Each IsShortSaid) (sym p.0) tt
prints_short seat (l ∷ ls) said end h p =
    subst (Each IsShortSaid) (sym p.2) (each_append IsShortSaid p.0 p.1 (adds_short seat l p.0 h.0 p.3) (prints_short (seat_after seat l.0 l.1) ls p.1 end h.1 p.4))

-- so are the statements of each record
pub records_short : (records : List Record) → Each IsShortSaid (said_in records) → Each (λ (r : Record). Each IsShortSaid r.said) records
records_short [] h = tt
records_short (r ∷ rs) h = (each_front IsShortSaid r.said (said_in rs) h, records_short rs (each_end IsShortSaid r.said (said_in rs) h))
