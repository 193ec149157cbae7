-- One session alone has spoken: who is over then, and where it stands.
use Rattle.std.specs.Prelude.{true, ◌≡◌, ◌⊎◌, ℕ, suc, ◌+◌, ◌-◌, ◌<◌, ◌≤◌, List, [], ◌∷◌, ◌++◌, Some, length}
use Rattle.std.proofs.Common.{refl, sym, ap, subst, ◌∙◌, inl, inr, ⊎_elim, arith}
use Rattle.std.proofs.Math.Seq.{get_or-append_seam, set-append_seam}
use Rattle.std.proofs.Math.ListN.{get_or, set}
use Rattle.std.proofs.lemmas.Bool.{cases_lt}
use Rattle.std.proofs.lemmas.List.{get_or-set_same, get_or-set_other, get_or_default}
use Rattle.sk_model.proofs.Lists.{Each}
use Rattle.sk_model.specs.declared.record.Record.{Record}
use Rattle.sk_model.specs.declared.reply.Reply.{Reply}
use Rattle.sk_linked.specs.Traces.{In}
use Rattle.sk_linked.proofs.Members.{in_append, in_front, in_either}
use Rattle.sk_session.specs.declared.live.At.{At}
use Rattle.sk_session.specs.declared.live.At.TheVariants as at
use Rattle.sk_session.specs.declared.session.Session.{Session}
use Rattle.sk_session.specs.Conversing.{StandsLeft}
use Rattle.sk_session.specs.Starting.{fresh}
use Rattle.sk_session.specs.Over.{HasOver, AreOver, Rests, OneMore, OverStays, RestsStill}
use Rattle.sk_kept.proofs.Middles.{each_focus}
use Rattle.sk_run.specs.State.{RunState}
use Rattle.sk_run.specs.Over.{IsOver, AllRest, HasSome, HaveSome, OthersStay, RestsAt, OneMoreBy, is_committing, last_in, last_record, session_at}
use Rattle.sk_run.proofs.Over.{Middle, middle_of, last_place}

-- ---- where the session stands in the list

-- who spoke is the session of the number, before and behind it
pub was_at : (old : RunState) (number : ℕ) (speaker : Session) → number - 1 < length old.sessions → speaker ≡ get_or old.sessions (number - 1) speaker → session_at old number ≡ speaker
was_at old number speaker inside is = get_or_default old.sessions (number - 1) (fresh number) speaker inside ∙ sym is

pub is_at : (old new : RunState) (number : ℕ) (spoken : Session) → number - 1 < length old.sessions → new.sessions ≡ set old.sessions (number - 1) spoken → session_at new number ≡ spoken
is_at old new number spoken inside set_to = ap (λ ss. get_or ss (number - 1) (fresh number)) set_to ∙ get_or-set_same old.sessions (number - 1) spoken (fresh number) inside

module _ (old new : RunState) (number : ℕ) (speaker spoken : Session) (inside : number - 1 < length old.sessions) (is : speaker ≡ get_or old.sessions (number - 1) speaker) (set_to : new.sessions ≡ set old.sessions (number - 1) spoken) where
  pub others_by : 1 ≤ number → OthersStay old number new
  others_by some other some_other unlike =
      ap (λ ss. get_or ss (other - 1) (fresh other)) set_to
      ∙ get_or-set_other old.sessions (number - 1) (other - 1) spoken (fresh other) (λ e. unlike (omega (arith, e, some, some_other)))

  pub rests_by : RestsStill speaker spoken → RestsStill (session_at old number) (session_at new number)
  rests_by rests = subst (λ (s : Session). RestsStill s (session_at new number)) (sym (was_at old number speaker inside is)) (subst (RestsStill speaker) (sym (is_at old new number spoken inside set_to)) rests)

  -- left, it has no transaction, unless leaving it was refused
  pub left_by : (said : Reply) → StandsLeft speaker.at spoken.at said → RestsAt new number ⊎ (is_committing said ≡ true)
  left_by said stands = subst (λ (s : Session). Rests s.at ⊎ (is_committing said ≡ true)) (sym (is_at old new number spoken inside set_to)) (left_so speaker.at spoken.at said stands)
    where
      left_so : (was now : At) (said : Reply) → StandsLeft was now said → Rests now ⊎ (is_committing said ≡ true)
      left_so at.Outside now said s = inl (inl s.0)
      left_so at.Ended now said s = inl (inl s.0)
      left_so (at.Inside live) now said s = inl (inl s.0)
      left_so (at.Stepping live c) now said s = inr (ap is_committing s.1)
      left_so (at.Asking live doing) now said s = inr (ap is_committing s.1)

-- ---- who is over

pub snoc_front : {X : Type 0} (xs ys : List X) (x y : X) → xs ++ x ∷ [] ≡ ys ++ y ∷ [] → xs ≡ ys
snoc_front [] [] x y e = refl
snoc_front [] (b ∷ []) x y e = absurd cc
snoc_front [] (b ∷ c ∷ ys) x y e = absurd cc
snoc_front (a ∷ []) [] x y e = absurd cc
snoc_front (a ∷ c ∷ xs) [] x y e = absurd cc
snoc_front (a ∷ xs) (b ∷ ys) x y e =
    let head : a ≡ b = cc in
    let rest : xs ++ x ∷ [] ≡ ys ++ y ∷ [] = cc in
    ap (λ zs. a ∷ zs) (snoc_front xs ys x y rest) ∙ ap (λ z. z ∷ ys) head

-- which records of a session are over is one list
pub over_same : (over more records : List Record) (there : At) → HasOver over records there → HasOver more records there → over ≡ more
over_same over more records at.Outside h g = sym h ∙ g
over_same over more records at.Ended h g = sym h ∙ g
over_same over more records (at.Inside live) (p, is, open_p) (q, are, open_q) = snoc_front over more p q (sym is ∙ are)
over_same over more records (at.Stepping live c) (p, is, open_p) (q, are, open_q) = snoc_front over more p q (sym is ∙ are)
over_same over more records (at.Asking live doing) (p, is, open_p) (q, are, open_q) = snoc_front over more p q (sym is ∙ are)

over_all : (over records : List Record) (there : At) → Rests there → HasOver over records there → records ≡ over
over_all over records there rests has = ⊎_elim (λ (e : there ≡ at.Outside). subst (HasOver over records) e has) (λ (e : there ≡ at.Ended). subst (HasOver over records) e has) rests

-- of the session itself: it was over, or it is the last, and the session rests
abbrev WasOrLast : Session → Session → Record → Type 0
WasOrLast old new r = ((was : List Record) × AreOver was old × In r was) ⊎ ((last_in new.records ≡ Some r) × Rests new.at)

was_or_last : (old new : Session) (over : List Record) (r : Record) → HasSome old → OverStays old new → AreOver over new → In r over → WasOrLast old new r
was_or_last old new over r (was, are) stays now has = ⊎_elim
    (λ (still : AreOver was new). inl (was, are, subst (In r) (over_same over was new.records new.at now still) has))
    (λ (one : OneMore was new.records new.at).
    let all : over ≡ was ++ one.last ∷ [] = sym (over_all over new.records new.at one.rests now) ∙ one.are in
    ⊎_elim
    (λ (front : In r was). inl (was, are, front))
    (λ (behind : In r (one.last ∷ [])). inr (ap last_in one.are ∙ last_place was one.last ∙ ap (λ (x : Record). Some x) (only r one.last behind), one.rests))
    (in_either r was (one.last ∷ []) (subst (In r) all has)))
    (stays was are)
  where
    only : (x y : Record) → In x (y ∷ []) → y ≡ x
    only x y h = ⊎_elim (λ (e : x ≡ y). sym e) (λ (n : In x []). absurd n) h

module _ (old new : RunState) (number : ℕ) (speaker spoken : Session) (inside : number - 1 < length old.sessions) (is : speaker ≡ get_or old.sessions (number - 1) speaker) (set_to : new.sessions ≡ set old.sessions (number - 1) spoken) where
  -- so where it alone has spoken
  pub one_by : HaveSome old.sessions → OverStays speaker spoken → OneMoreBy old number new
  one_by have stays r o =
      let m : Middle old.sessions (number - 1) = middle_of old.sessions (number - 1) inside in
      let who : m.one ≡ speaker =
      sym (is ∙ ap (λ xs. get_or xs (number - 1) speaker) m.is ∙ ap (λ i. get_or (m.before ++ m.one ∷ m.after) i speaker) (sym m.place) ∙ get_or-append_seam m.before m.one m.after speaker) in
      let now : new.sessions ≡ m.before ++ spoken ∷ m.after =
      set_to ∙ ap (λ xs. set xs (number - 1) spoken) m.is ∙ ap (λ i. set (m.before ++ m.one ∷ m.after) i spoken) (sym m.place) ∙ set-append_seam m.before m.one m.after spoken in
      ⊎_elim
      (λ (i : In o.session m.before). inl (still (subst (In o.session) (sym m.is) (in_front o.session m.before (m.one ∷ m.after) i))))
      (λ (rest : In o.session (spoken ∷ m.after)). ⊎_elim
      (λ (e : o.session ≡ spoken). spoke m.one (subst (In m.one) (sym m.is) (in_append m.one m.before (m.one ∷ m.after) (inl refl)))
      (was_or_last m.one spoken o.over r (each_focus HasSome m.before m.one m.after (subst HaveSome m.is have)) (subst (λ (s : Session). OverStays s spoken) (sym who) stays) (subst (AreOver o.over) e o.are_over) o.has))
      (λ (i : In o.session m.after). inl (still (subst (In o.session) (sym m.is) (in_append o.session m.before (m.one ∷ m.after) (inr i)))))
      rest)
      (in_either o.session m.before (spoken ∷ m.after) (subst (In o.session) now o.among))
    where
      still : In o.session old.sessions → IsOver old r
      still i = record { session = o.session; among = i; over = o.over; are_over = o.are_over; has = o.has }

      spoke : (s : Session) → In s old.sessions → WasOrLast s spoken r → IsOver old r ⊎ ((last_record new number ≡ Some r) × RestsAt new number)
      spoke s i (inl (was, are, has)) = inl (record { session = s; among = i; over = was; are_over = are; has = has })
      spoke s i (inr (last, rests)) =
          let same : session_at new number ≡ spoken = is_at old new number spoken inside set_to in
          inr (ap (λ (y : Session). last_in y.records) same ∙ last, subst (λ (y : Session). Rests y.at) (sym same) rests)

-- ---- one line after another

pub others_none : (x : RunState) (number : ℕ) → OthersStay x number x
others_none x number other some unlike = refl

pub others_on : (old mid new : RunState) (number : ℕ) → OthersStay old number mid → OthersStay mid number new → OthersStay old number new
others_on old mid new number h g other some unlike = g other some unlike ∙ h other some unlike

pub one_none : (x : RunState) (number : ℕ) → OneMoreBy x number x
one_none x number r o = inl o

-- behind one more that is over comes none
pub one_on : (old mid new : RunState) (number : ℕ) → OneMoreBy old number mid → OneMoreBy mid number new → RestsStill (session_at mid number) (session_at new number) → OneMoreBy old number new
one_on old mid new number h g rests r o = ⊎_elim
    (λ (was : IsOver mid r). ⊎_elim
    (λ (first : IsOver old r). inl first)
    (λ (last : (last_record mid number ≡ Some r) × RestsAt mid number). inr (ap last_in (rests last.1).0 ∙ last.0, (rests last.1).1))
    (h r was))
    (λ (last : (last_record new number ≡ Some r) × RestsAt new number). inr last)
    (g r o)

-- ---- sessions that rest

-- one more has no transaction, and the others stand as they did
pub rests_more : (old new : RunState) (k : ℕ) → OthersStay old (k + 1) new → RestsAt new (k + 1) → ((n : ℕ) → 1 ≤ n → n ≤ k → RestsAt old n) → (n : ℕ) → 1 ≤ n → n ≤ k + 1 → RestsAt new n
rests_more old new k others rests before n some up = ⊎_elim
    (λ (past : k < n). let same : k + 1 ≡ n = omega (arith, past, up) in subst (RestsAt new) same rests)
    (λ (le : n ≤ k). subst (λ (s : Session). Rests s.at) (sym (others n some (λ e. omega (arith, e, le)))) (before n some le))
    (cases_lt k n)

rest_from : (ss : List Session) → ((i : ℕ) (d : Session) → i < length ss → Rests (get_or ss i d).at) → Each (λ (s : Session). Rests s.at) ss
rest_from [] h = tt
rest_from (s ∷ ss) h = (h 0 s (omega arith), rest_from ss (λ i d l. h (suc i) d (omega (arith, l))))

-- so where each number's session rests all do
pub all_rest : (x : RunState) (k : ℕ) → k ≡ length x.sessions → ((n : ℕ) → 1 ≤ n → n ≤ k → RestsAt x n) → AllRest x
all_rest x k count h = rest_from x.sessions (λ i d l.
    let at : (i + 1) - 1 ≡ i = omega arith in
    subst (λ (s : Session). Rests s.at) (ap (λ (m : ℕ). get_or x.sessions m (fresh (i + 1))) at ∙ get_or_default x.sessions i (fresh (i + 1)) d l) (h (i + 1) (omega arith) (omega (arith, l, count))))
