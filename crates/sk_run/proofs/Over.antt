-- The records of transactions that are over stay, whatever a session does, and are handed out.
use Rattle.std.specs.Prelude.{◌≡◌, ◌⊎◌, ℕ, zero, suc, ◌-◌, ◌<◌, List, [], ◌∷◌, ◌++◌, Option, Some, None, IfSome, length, map, slice_get}
use Rattle.std.specs.Option.{option_copied}
use Rattle.std.proofs.Common.{Bor, refl, sym, ap, subst, ◌∙◌, inl, inr, ⊎_elim, arith}
use Rattle.std.proofs.lemmas.List.{length-append}
use Rattle.std.proofs.Math.Seq.{get_or-append_seam, set-append_seam}
use Rattle.std.proofs.Math.ListN.{get_or, set}
use Rattle.sk_model.specs.declared.record.Record.{Record}
use Rattle.sk_model.specs.declared.record.Ending.TheVariants as ending
use Rattle.sk_linked.specs.Traces.{In}
use Rattle.sk_linked.proofs.Members.{in_append, in_front, in_either, each_in}
use Rattle.sk_session.specs.declared.live.At.{At}
use Rattle.sk_session.specs.declared.live.At.TheVariants as at
use Rattle.sk_session.specs.declared.session.Session.{Session}
use Rattle.sk_session.specs.Moving.{records_at, record_now, with_last}
use Rattle.sk_session.specs.Starting.{fresh, records_now}
use Rattle.sk_session.specs.Over.{HasOver, AreOver, Rests, OneMore, OverStays}
use Rattle.sk_session.proofs.Recorded.{with_last_seam}
use Rattle.sk_kept.proofs.Middles.{each_others, each_focus, each_middle}
use Rattle.sk_run.specs.State.{RunState}
use Rattle.sk_run.specs.Over.{IsOver, OverStay, NoneOver, AllRest, HasSome, HaveSome, last_in}
use Rattle.sk_run.specs.Ended.{joined}

-- ---- one of a list

-- the one at this place, and those before and behind it
pub record Middle {X : Type 0} (xs : List X) (at : ℕ) : Type 0 where
  pub before : List X
  pub one : X
  pub after : List X
  pub is : xs ≡ before ++ one ∷ after
  pub place : length before ≡ at

pub middle_of : {X : Type 0} (xs : List X) (at : ℕ) → at < length xs → Middle xs at
middle_of [] at h = absurd (omega (arith, h))
middle_of (x ∷ xs) zero h = record { before = []; one = x; after = xs; is = refl; place = refl }
middle_of (x ∷ xs) (suc n) h =
    let m : Middle xs n = middle_of xs n (omega (arith, h)) in
    record { before = x ∷ m.before; one = m.one; after = m.after; is = ap (λ ys. x ∷ ys) m.is; place = ap suc m.place }

-- ---- a session that has spoken

-- with one more they are all its records
pub one_over : (over records : List Record) (there : At) (one : OneMore over records there) → HasOver (over ++ one.last ∷ []) records there
one_over over records there one = ⊎_elim
    (λ (e : there ≡ at.Outside). subst (HasOver (over ++ one.last ∷ []) records) (sym e) one.are)
    (λ (e : there ≡ at.Ended). subst (HasOver (over ++ one.last ∷ []) records) (sym e) one.are)
    one.rests

some_then : (over : List Record) (new : Session) → AreOver over new ⊎ OneMore over new.records new.at → HasSome new
some_then over new went = ⊎_elim (λ (are : AreOver over new). (over, are)) (λ (one : OneMore over new.records new.at). (over ++ one.last ∷ [], one_over over new.records new.at one)) went

-- whichever of its records were over, some are
pub some_on : (before : List Session) (old new : Session) (after : List Session) → HaveSome (before ++ old ∷ after) → OverStays old new → HaveSome (before ++ new ∷ after)
some_on before old new after have stays =
    let had : HasSome old = each_focus HasSome before old after have in
    each_middle HasSome before new after (each_others HasSome before old after have) (some_then had.0 new (stays had.0 had.1))

pub stay_none : (x : RunState) → OverStay x x
stay_none x r o = o

pub stay_on : (old mid new : RunState) → OverStay old mid → OverStay mid new → OverStay old new
stay_on old mid new h g r o = g r (h r o)

pub stay_same : (old new : RunState) → new.sessions ≡ old.sessions → OverStay old new
stay_same old new same r o = record { session = o.session; among = subst (In o.session) (sym same) o.among; over = o.over; are_over = o.are_over; has = o.has }

-- so is one of these, of a session that has it still, alone or with one more
is_still : (x : RunState) (r : Record) (s : Session) (over : List Record) → In s x.sessions → In r over → AreOver over s ⊎ OneMore over s.records s.at → IsOver x r
is_still x r s over among has went = ⊎_elim
    (λ (are : AreOver over s). record { session = s; among = among; over = over; are_over = are; has = has })
    (λ (one : OneMore over s.records s.at). record { session = s; among = among; over = over ++ one.last ∷ []; are_over = one_over over s.records s.at one; has = in_front r over (one.last ∷ []) has })
    went

-- the session of this place has spoken, and all others stand as they did
pub turn_stays : (old new : RunState) (at : ℕ) (speaker spoken : Session) → at < length old.sessions → speaker ≡ get_or old.sessions at speaker → new.sessions ≡ set old.sessions at spoken → OverStays speaker spoken → OverStay old new
turn_stays old new at speaker spoken inside is set_to stays r o =
    let m : Middle old.sessions at = middle_of old.sessions at inside in
    let who : m.one ≡ speaker =
    sym (is ∙ ap (λ xs. get_or xs at speaker) m.is ∙ ap (λ i. get_or (m.before ++ m.one ∷ m.after) i speaker) (sym m.place) ∙ get_or-append_seam m.before m.one m.after speaker) in
    let now : new.sessions ≡ m.before ++ spoken ∷ m.after =
    set_to ∙ ap (λ xs. set xs at spoken) m.is ∙ ap (λ i. set (m.before ++ m.one ∷ m.after) i spoken) (sym m.place) ∙ set-append_seam m.before m.one m.after spoken in
    ⊎_elim
    (λ (i : In o.session m.before). still (subst (In o.session) (sym now) (in_front o.session m.before (spoken ∷ m.after) i)))
    (λ (rest : In o.session (m.one ∷ m.after)). ⊎_elim
    (λ (e : o.session ≡ m.one). is_still new r spoken o.over (subst (In spoken) (sym now) (in_append spoken m.before (spoken ∷ m.after) (inl refl))) o.has (stays o.over (subst (AreOver o.over) (e ∙ who) o.are_over)))
    (λ (i : In o.session m.after). still (subst (In o.session) (sym now) (in_append o.session m.before (spoken ∷ m.after) (inr i))))
    rest)
    (in_either o.session m.before (m.one ∷ m.after) (subst (In o.session) m.is o.among))
  where
    still : In o.session new.sessions → IsOver new r
    still i = record { session = o.session; among = i; over = o.over; are_over = o.are_over; has = o.has }

-- ---- the last record of a session

pub in_slice : {X : Type 0} (xs : List X) (i : ℕ) (x : X) → slice_get xs i ≡ Some x → In x xs
in_slice [] i x e = absurd cc
in_slice (y ∷ ys) zero x e = let same : y ≡ x = cc in inl (sym same)
in_slice (y ∷ ys) (suc i) x e = inr (in_slice ys i x e)

at_end : {X : Type 0} (xs : List X) (y : X) → slice_get (xs ++ y ∷ []) (length xs) ≡ Some y
at_end [] y = refl
at_end (x ∷ xs) y = at_end xs y

pub last_place : (xs : List Record) (y : Record) → last_in (xs ++ y ∷ []) ≡ Some y
last_place xs y = let e : length (xs ++ y ∷ []) - 1 ≡ length xs = omega (arith, length-append xs (y ∷ [])) in ap (slice_get (xs ++ y ∷ [])) e ∙ at_end xs y

-- it is not that of a live transaction, which is open
not_place : (records over : List Record) (place r : Record) → records ≡ over ++ place ∷ [] → place.ending ≡ ending.Open → last_in records ≡ Some r → r.ending ≡ ending.Committed → ⊥
not_place records over place r are stays is committed =
    let same : r ≡ place = same_of r place (sym is ∙ ap last_in are ∙ last_place over place) in
    clash (sym committed ∙ ap (λ (x : Record). x.ending) same ∙ stays)
  where
    same_of : (x y : Record) → Some x ≡ Some y → x ≡ y
    same_of x y e = cc

    clash : ending.Committed ≡ ending.Open → ⊥
    clash e = cc

-- nor does the last that has committed differ from the last that is over
pub committed_last : (records over : List Record) (there : At) (r : Record) → HasOver over records there → last_in records ≡ Some r → r.ending ≡ ending.Committed → (last_in over ≡ Some r) × In r over
committed_last records over at.Outside r are is committed = (ap last_in (sym are) ∙ is, subst (In r) are (in_slice records _ r is))
committed_last records over at.Ended r are is committed = (ap last_in (sym are) ∙ is, subst (In r) are (in_slice records _ r is))
committed_last records over (at.Inside live) r (place, are, stays) is committed = absurd (not_place records over place r are stays is committed)
committed_last records over (at.Stepping live c) r (place, are, stays) is committed = absurd (not_place records over place r are stays is committed)
committed_last records over (at.Asking live doing) r (place, are, stays) is committed = absurd (not_place records over place r are stays is committed)

-- where it has committed its transaction is over
pub committed_over : (x : RunState) (s : Session) (r : Record) → HaveSome x.sessions → In s x.sessions → last_in s.records ≡ Some r → r.ending ≡ ending.Committed → IsOver x r
committed_over x s r have i is committed =
    let had : HasSome s = each_in HasSome x.sessions s have i in
    record { session = s; among = i; over = had.0; are_over = had.1; has = (committed_last s.records had.0 s.at r had.1 is committed).1 }

-- so it is of what is looked up
pub last_over : (x : RunState) (s : Session) (i : ℕ) (found : Option (Bor Record)) → HaveSome x.sessions → slice_get x.sessions i ≡ Some s → option_copied found ≡ last_in s.records → IfSome found (λ r. r.now.ending ≡ ending.Committed → IsOver x r.now)
last_over x s i None have is last = tt
last_over x s i (Some r) have is last = λ committed. committed_over x s r.now have (in_slice x.sessions i s is) (sym last) committed

-- ---- what is handed out

-- the records of its transactions that are over are among those that it hands out
out_at : (records over : List Record) (there : At) (r : Record) → HasOver over records there → In r over → In r (records_at records there)
out_at records over at.Outside r are has = subst (In r) (sym are) has
out_at records over at.Ended r are has = subst (In r) (sym are) has
out_at records over (at.Inside live) r (place, are, is) has = subst (In r) (sym (ap (λ rs. with_last rs (record_now live)) are ∙ with_last_seam over place (record_now live))) (in_front r over (record_now live ∷ []) has)
out_at records over (at.Stepping live c) r (place, are, is) has = subst (In r) (sym (ap (λ rs. with_last rs (record_now live)) are ∙ with_last_seam over place (record_now live))) (in_front r over (record_now live ∷ []) has)
out_at records over (at.Asking live doing) r (place, are, is) has = subst (In r) (sym are) (in_front r over (place ∷ []) has)

in_joined : (r : Record) (s : Session) (ss : List Session) → In s ss → In r (records_now s) → In r (joined (map records_now ss))
in_joined r s [] i has = absurd i
in_joined r s (x ∷ ss) i has = ⊎_elim
    (λ (e : s ≡ x). in_front r (records_now x) (joined (map records_now ss)) (subst (λ (y : Session). In r (records_now y)) e has))
    (λ (k : In s ss). in_append r (records_now x) (joined (map records_now ss)) (in_joined r s ss k has))
    i

pub over_is_out : (x : RunState) (r : Record) → IsOver x r → In r (joined (map records_now x.sessions))
over_is_out x r o = in_joined r o.session x.sessions o.among (out_at o.session.records o.over o.session.at r o.are_over o.has)

-- ---- where no session has a transaction

-- what is handed out is of transactions that are over
only_at : (records over : List Record) (there : At) (r : Record) → Rests there → HasOver over records there → In r (records_at records there) → In r over
only_at records over there r rests has i = ⊎_elim
    (λ (e : there ≡ at.Outside). subst (In r) (subst (HasOver over records) e has) (subst (λ a. In r (records_at records a)) e i))
    (λ (e : there ≡ at.Ended). subst (In r) (subst (HasOver over records) e has) (subst (λ a. In r (records_at records a)) e i))
    rests

from_joined : (r : Record) (ss : List Session) → In r (joined (map records_now ss)) → (s : Session) × In s ss × In r (records_now s)
from_joined r [] i = absurd i
from_joined r (x ∷ xs) i = ⊎_elim
    (λ (here : In r (records_now x)). (x, inl refl, here))
    (λ (rest : In r (joined (map records_now xs))). let found : (s : Session) × In s xs × In r (records_now s) = from_joined r xs rest in (found.0, inr found.1, found.2))
    (in_either r (records_now x) (joined (map records_now xs)) i)

pub out_is_over : (x : RunState) (r : Record) → HaveSome x.sessions → AllRest x → In r (joined (map records_now x.sessions)) → IsOver x r
out_is_over x r have rest i =
    let found : (s : Session) × In s x.sessions × In r (records_now s) = from_joined r x.sessions i in
    let had : HasSome found.0 = each_in HasSome x.sessions found.0 have found.1 in
    record { session = found.0; among = found.1; over = had.0; are_over = had.1; has = only_at found.0.records had.0 found.0.at r (each_in (λ (s : Session). Rests s.at) x.sessions found.0 rest found.1) had.1 found.2 }

-- a session that has had no transaction has none that is over
pub none_over : (x : RunState) (numbers : List ℕ) → x.sessions ≡ map fresh numbers → NoneOver x
none_over x numbers are r o = fresh_none numbers (subst (In o.session) are o.among)
  where
    fresh_none : (ns : List ℕ) → In o.session (map fresh ns) → ⊥
    fresh_none [] i = i
    fresh_none (n ∷ ns) i = ⊎_elim (λ (e : o.session ≡ fresh n). subst (In r) (sym (subst (AreOver o.over) e o.are_over)) o.has) (λ (rest : In o.session (map fresh ns)). fresh_none ns rest) i
