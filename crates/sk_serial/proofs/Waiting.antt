-- Whoever committed was queued, and waits or was told.
use Rattle.std.specs.Prelude.{◌≡◌, ◌⊎◌, ℕ, ◌-◌, ◌<◌, ◌≤◌, Bool, true, false, cond, not, ◌==◌, nat_le, max, if◌then◌else◌, List, [], ◌∷◌, ◌++◌, Some, None, length, map}
use Rattle.std.specs.List.{filter}
use Rattle.std.proofs.Common.{refl, sym, ap, subst, ◌∙◌, inl, inr, ⊎_elim, arith}
use Rattle.std.proofs.Math.Nat.{max-eq_left, max-le}
use Rattle.std.proofs.lemmas.Bool.{false≢true, and_from, eqb-true, le-leb, lt-ltb, cond-true, cases_lt}
use Rattle.sk_model.specs.declared.label.Label.{Label}
use Rattle.sk_model.specs.declared.point.Point.{Point}
use Rattle.sk_model.specs.declared.record.Record.{Record}
use Rattle.sk_model.specs.declared.record.Ending.{Ending}
use Rattle.sk_model.specs.declared.record.Ending.TheVariants as ending
use Rattle.sk_model.specs.declared.receipt.Need.{Need}
use Rattle.sk_model.specs.declared.receipt.Receipt.{Receipt}
use Rattle.sk_model.proofs.Lists.{each_append, each_weaker}
use Rattle.sk_linked.specs.Traces.{In}
use Rattle.sk_linked.proofs.Members.{each_in, in_append, in_front, in_either}
use Rattle.sk_cut.specs.Acked.{told}
use Rattle.sk_cut.specs.Batches.{as_cut}
use Rattle.sk_cut.specs.Receipts.{covers, receipt_at}
use Rattle.sk_durable.specs.Kept.{Kept, newest, goes_on}
use Rattle.sk_run.specs.Over.{IsOver, OverStay, NoneOver, OneMoreBy, RestsAt, HasOnlyOver, IsNewest, last_record}
use Rattle.sk_run.specs.State.{RunState}
use Rattle.sk_serial.specs.Saving.{Saved, saved_in}
use Rattle.sk_serial.specs.Acknowledged.{AllTold}
use Rattle.sk_serial.specs.Waiting.{need_of, need_in, need_if, IsNeedOf, AreOver, AllQueued, IsWaiting, IsAlmost, WaitsOn, QueuesLast, KeepsQueue, NoneCovered}

-- ---- members

in_filter : {X : Type 0} (p : X → Bool) (xs : List X) (x : X) → In x xs → p x ≡ true → In x (filter p xs)
in_filter {X = X} p (y ∷ ys) x i is = ⊎_elim
    (λ (e : x ≡ y). subst (λ (zs : List X). In x zs) (sym (cond-true (p y) (y ∷ filter p ys) (filter p ys) (ap p (sym e) ∙ is))) (inl e))
    (λ (k : In x ys). behind (p y) (in_filter p ys x k is))
    i
  where
    behind : (b : Bool) → In x (filter p ys) → In x (cond b (y ∷ filter p ys) (filter p ys))
    behind true k = inr k
    behind false k = k
in_filter p [] x i is = absurd i

from_filter : {X : Type 0} (p : X → Bool) (xs : List X) (x : X) → In x (filter p xs) → p x ≡ true
from_filter p [] x i = absurd i
from_filter p (y ∷ ys) x i = at (p y) refl i (from_filter p ys x)
  where
    at : (b : Bool) → p y ≡ b → In x (cond b (y ∷ filter p ys) (filter p ys)) → (In x (filter p ys) → p x ≡ true) → p x ≡ true
    at true is k rest = ⊎_elim (λ (e : x ≡ y). ap p e ∙ is) rest k
    at false is k rest = rest k

told_in_map : (cut : Point) (ns : List Need) (n : Need) → In n ns → In n.label (told (map (receipt_at cut) ns))
told_in_map cut [] n i = absurd i
told_in_map cut (m ∷ ms) n i = ⊎_elim (λ (e : n ≡ m). inl (ap (λ (x : Need). x.label) e)) (λ (k : In n ms). inr (told_in_map cut ms n k)) i

told_more : (rs ss : List Receipt) → told (rs ++ ss) ≡ told rs ++ told ss
told_more [] ss = refl
told_more (r ∷ rs) ss = ap (λ ls. r.label ∷ ls) (told_more rs ss)

-- ---- of a need

some_same : (q r : Record) → Some q ≡ Some r → q ≡ r
some_same q r e = cc

-- one of these of the session has k as its number, or a later one
abbrev Newer : ℕ → ℕ → List Need → Type 0
Newer session k needs = (n : Need) × In n needs × (n.label.session ≡ session) × (k ≤ n.label.k)

max_first : (k a b : ℕ) → k ≤ max a b → b < k → k ≤ a
max_first k a b le lt = ⊎_elim
    (λ (l : a < b). let m : max a b ≤ b = max-le (omega (arith, l)) (omega arith) in absurd (omega (arith, le, lt, m)))
    (λ (l : b ≤ a). subst (λ m. k ≤ m) (max-eq_left l) le)
    (cases_lt a b)

newer_first : (session k : ℕ) (n : Need) (ns : List Need) (b : Bool) → (n.label.session == session) ≡ b → 1 ≤ k → k ≤ (if b then n.label.k else 0) → Newer session k (n ∷ ns)
newer_first session k n ns true is some le = (n, inl refl, eqb-true n.label.session session is, le)
newer_first session k n ns false is some le = absurd (omega (arith, some, le))

newest_in : (session k : ℕ) (needs : List Need) → 1 ≤ k → k ≤ newest session needs → Newer session k needs
newest_in session k [] some up = absurd (omega (arith, some, up))
newest_in session k (n ∷ ns) some up = ⊎_elim
    (λ (past : newest session ns < k). newer_first session k n ns (n.label.session == session) refl some (max_first k (if n.label.session == session then n.label.k else 0) (newest session ns) up past))
    (λ (le : k ≤ newest session ns). let found : Newer session k ns = newest_in session k ns some le in (found.0, inr found.1, found.2, found.3))
    (cases_lt (newest session ns) k)

-- a need that is passed over was queued before
passed_over : (x : RunState) (number : ℕ) (r : Record) (queued : List Need) → number ≤ 64 → AreOver x queued → IsNewest x number r → goes_on (need_of r) queued ≡ false → In (need_of r) queued
passed_over x number r queued few over newest_is passed =
    let fits : nat_le r.label.session 64 ≡ true = le-leb r.label.session 64 (omega (arith, few, newest_is.session)) in
    let up : r.label.k ≤ newest r.label.session queued = ⊎_elim
    (λ (l : newest r.label.session queued < r.label.k). absurd (false≢true (sym passed ∙ and_from _ _ fits (lt-ltb (newest r.label.session queued) r.label.k l))))
    (λ (l : r.label.k ≤ newest r.label.session queued). l)
    (cases_lt (newest r.label.session queued) r.label.k) in
    let found : (n : Need) × In n queued × (n.label.session ≡ r.label.session) × (r.label.k ≤ n.label.k) = newest_in r.label.session r.label.k queued newest_is.counted up in
    let q : (q : Record) × IsOver x q × IsNeedOf found.0 q = each_in (λ n. (q : Record) × IsOver x q × IsNeedOf n q) queued found.0 over found.1 in
    let label : found.0.label ≡ q.0.label = ap (λ (n : Need). n.label) q.2.1 in
    ⊎_elim
    (λ (same : q.0 ≡ r). subst (λ (n : Need). In n queued) (q.2.1 ∙ ap need_of same) found.1)
    (λ (less : q.0.label.k < r.label.k). let le : r.label.k ≤ found.0.label.k = found.3 in let k_is : found.0.label.k ≡ q.0.label.k = ap (λ (l : Label). l.k) label in absurd (omega (arith, less, le, k_is)))
    (newest_is.newest q.0 q.1 (ap (λ (l : Label). l.session) (sym label) ∙ found.2 ∙ newest_is.session))

same_need : (m n : Need) → Some m ≡ Some n → n ≡ m
same_need m n e = cc

need_is : (r : Record) (n : Need) (how : Ending) → r.ending ≡ how → need_in how r ≡ Some n → IsNeedOf n r
need_is r n ending.Committed is e = (is, same_need (need_of r) n e)
need_is r n ending.Open is e = absurd cc
need_is r n ending.CheckFailed is e = absurd cc
need_is r n ending.Spent is e = absurd cc
need_is r n ending.NoMemory is e = absurd cc
need_is r n ending.RolledBack is e = absurd cc
need_is r n ending.Conflict is e = absurd cc
need_is r n ending.Recycled is e = absurd cc
need_is r n ending.Old is e = absurd cc
need_is r n ending.Device is e = absurd cc

-- ---- the queue of the store

module _ {D : Type 0} where
  pub keeps_same : (old new : Kept D) → new.queued ≡ old.queued → new.waiting ≡ old.waiting → new.receipts ≡ old.receipts → KeepsQueue old new
  keeps_same old new queued waiting receipts = (
    queued,
    λ h n i. ⊎_elim
        (λ (w : In n old.waiting). inl (subst (In n) (sym waiting) w))
        (λ (t : In n.label (told old.receipts)). inr (subst (λ rs. In n.label (told rs)) (sym receipts) t))
        (h n (subst (In n) queued i)),
  )

  pub keeps_on : (old mid new : Kept D) → KeepsQueue old mid → KeepsQueue mid new → KeepsQueue old new
  keeps_on old mid new a b = (b.0 ∙ a.0, λ h. b.1 (a.1 h))

  -- a flush told those whom its cut covers
  pub keeps_flushed : (old new : Kept D) (cut : Point) (rs : List Receipt) → new.queued ≡ old.queued → new.waiting ≡ filter (λ n. not (covers cut n)) old.waiting → new.receipts ≡ old.receipts ++ rs
      → rs ≡ map (receipt_at cut) (filter (covers cut) old.waiting) → KeepsQueue old new
  keeps_flushed old new cut rs queued waiting receipts are = (
    queued,
    λ h n i. ⊎_elim
        (λ (w : In n old.waiting). by n w (covers cut n) refl)
        (λ (t : In n.label (told old.receipts)). inr (subst (In n.label) (sym all) (in_front n.label (told old.receipts) (told rs) t)))
        (h n (subst (In n) queued i)),
  )
    where
      all : told new.receipts ≡ told old.receipts ++ told rs
      all = ap told receipts ∙ told_more old.receipts rs

      by : (n : Need) → In n old.waiting → (b : Bool) → covers cut n ≡ b → In n new.waiting ⊎ In n.label (told new.receipts)
      by n w true is = inr (subst (In n.label) (sym all) (in_append n.label (told old.receipts) (told rs) (subst (λ (xs : List Receipt). In n.label (told xs)) (sym are) (told_in_map cut (filter (covers cut) old.waiting) n (in_filter (covers cut) old.waiting n w is)))))
      by n w false is = inl (subst (In n) (sym waiting) (in_filter (λ m. not (covers cut m)) old.waiting n w (ap not is)))

  pub none_covered : (old new : Kept D) (cut : Point) → new.waiting ≡ filter (λ n. not (covers cut n)) old.waiting → as_cut new.cut ≡ as_cut cut → NoneCovered new
  none_covered old new cut waiting same n i =
      let uncovered : not (covers cut n) ≡ true = from_filter (λ m. not (covers cut m)) old.waiting n (subst (In n) waiting i) in
      ap (λ (c : Point). covers c n) same ∙ off (covers cut n) uncovered
    where
      off : (b : Bool) → not b ≡ true → b ≡ false
      off true e = absurd (false≢true e)
      off false e = refl

  -- ---- who waits

  pub waits_same : (old new : RunState) (kept new_kept : Kept D) → OverStay old new → OverStay new old → KeepsQueue kept new_kept → WaitsOn old kept new new_kept
  waits_same old new kept new_kept stay back keeps h = record {
    are = subst (AreOver new) (sym keeps.0) (each_weaker (λ n. (r : Record) × IsOver old r × IsNeedOf n r) (λ n. (r : Record) × IsOver new r × IsNeedOf n r) (λ n (r, over, is). (r, stay r over, is)) kept.queued h.are);
    all = λ r over committed. subst (In (need_of r)) (sym keeps.0) (h.all r (back r over) committed);
    each = keeps.1 h.each;
  }

  pub waits_on : (old mid new : RunState) (kept between last : Kept D) → WaitsOn old kept mid between → WaitsOn mid between new last → WaitsOn old kept new last
  waits_on old mid new kept between last one two h = two (one h)

  -- nobody was queued, and no transaction is over
  pub waits_none : (x : RunState) (kept : Kept D) → NoneOver x → kept.queued ≡ [] → IsWaiting x kept
  waits_none x kept none empty = record {
    are = subst (AreOver x) (sym empty) tt;
    all = λ r over committed. absurd (none r over);
    each = λ n i. absurd (subst (In n) empty i);
  }

  -- one transaction more is over perhaps
  pub almost_then : (old new : RunState) (number : ℕ) (kept new_kept : Kept D) → OverStay old new → OneMoreBy old number new → KeepsQueue kept new_kept → IsWaiting old kept → IsAlmost new number new_kept
  almost_then old new number kept new_kept stay one keeps h = record {
    are = subst (AreOver new) (sym keeps.0) (each_weaker (λ n. (r : Record) × IsOver old r × IsNeedOf n r) (λ n. (r : Record) × IsOver new r × IsNeedOf n r) (λ n (r, over, is). (r, stay r over, is)) kept.queued h.are);
    all = λ r over committed. ⊎_elim
        (λ (was : IsOver old r). inl (subst (In (need_of r)) (sym keeps.0) (h.all r was committed)))
        (λ (last : (last_record new number ≡ Some r) × RestsAt new number). inr last.0)
        (one r over);
    each = keeps.1 h.each;
  }

  -- ---- its need is queued

  -- the session has had no transaction
  pub queues_nobody : (x : RunState) (number : ℕ) (kept : Kept D) → last_record x number ≡ None → QueuesLast x number kept kept
  queues_nobody x number kept none few h = record {
    are = h.are;
    all = λ r over committed. ⊎_elim (λ (i : In (need_of r) kept.queued). i) (λ (e : last_record x number ≡ Some r). absurd (clash r (sym none ∙ e))) (h.all r over committed);
    each = h.each;
  }
    where
      clash : (r : Record) → None ≡ Some r → ⊥
      clash r e = cc

  -- its last one has not committed
  pub queues_open : (x : RunState) (number : ℕ) (r : Record) (kept : Kept D) → last_record x number ≡ Some r → need_if r ≡ None → QueuesLast x number kept kept
  queues_open x number r kept last none few h = record {
    are = h.are;
    all = λ q over committed. ⊎_elim (λ (i : In (need_of q) kept.queued). i)
        (λ (e : last_record x number ≡ Some q). absurd (clash (sym none ∙ ap (λ (how : Ending). need_in how r) (ap (λ (y : Record). y.ending) (some_same r q (sym last ∙ e)) ∙ committed)))) (h.all q over committed);
    each = h.each;
  }
    where
      clash : None ≡ Some (need_of r) → ⊥
      clash e = cc

  -- its last one has committed, and its need is queued, or was
  pub queues_need : (x : RunState) (number : ℕ) (r : Record) (n : Need) (old new : Kept D) → number ≤ length x.sessions → last_record x number ≡ Some r → need_if r ≡ Some n → (r.ending ≡ ending.Committed → IsOver x r) → (r.ending ≡ ending.Committed → IsNewest x number r)
      → (goes_on n old.queued ≡ true → new ≡ record old { queued = old.queued ++ n ∷ []; waiting = old.waiting ++ n ∷ []; reserved = old.reserved - 1 }) → (goes_on n old.queued ≡ false → new ≡ old) → QueuesLast x number old new
  queues_need x number r n old new known last needs over newest_of queued passed few h = by (goes_on n old.queued) refl
    where
      is_need : IsNeedOf n r
      is_need = need_is r n r.ending refl needs

      is_over : IsOver x r
      is_over = over is_need.0

      all_by : (needs : List Need) → ((m : Need) → In m old.queued → In m needs) → In (need_of r) needs → AllQueued x needs
      all_by needs more has q was committed = ⊎_elim (λ (i : In (need_of q) old.queued). more (need_of q) i) (λ (e : last_record x number ≡ Some q). subst (λ (y : Record). In (need_of y) needs) (some_same r q (sym last ∙ e)) has) (h.all q was committed)

      by : (b : Bool) → goes_on n old.queued ≡ b → IsWaiting x new
      by true is =
          let new_is = queued is in
          let queue : new.queued ≡ old.queued ++ n ∷ [] = ap (λ (k : Kept D). k.queued) new_is in
          let waits : new.waiting ≡ old.waiting ++ n ∷ [] = ap (λ (k : Kept D). k.waiting) new_is in
          let receipts : new.receipts ≡ old.receipts = ap (λ (k : Kept D). k.receipts) new_is in
          record {
            are = subst (AreOver x) (sym queue) (each_append (λ m. (q : Record) × IsOver x q × IsNeedOf m q) old.queued (n ∷ []) h.are ((r, is_over, is_need), tt));
            all = subst (AllQueued x) (sym queue) (all_by (old.queued ++ n ∷ []) (λ m i. in_front m old.queued (n ∷ []) i) (in_append (need_of r) old.queued (n ∷ []) (inl (sym is_need.1))));
            each = λ m i. ⊎_elim
                (λ (k : In m old.queued). ⊎_elim
                (λ (w : In m old.waiting). inl (subst (In m) (sym waits) (in_front m old.waiting (n ∷ []) w)))
                (λ (t : In m.label (told old.receipts)). inr (subst (λ rs. In m.label (told rs)) (sym receipts) t))
                (h.each m k))
                (λ (k : In m (n ∷ [])). inl (subst (In m) (sym waits) (in_append m old.waiting (n ∷ []) k)))
                (in_either m old.queued (n ∷ []) (subst (In m) queue i));
          }
      by false is =
          let before : In (need_of r) old.queued = passed_over x number r old.queued (omega (arith, known, few)) h.are (newest_of is_need.0) (subst (λ (m : Need). goes_on m old.queued ≡ false) is_need.1 is) in
          subst (IsWaiting x) (sym (passed is)) (record { are = h.are; all = all_by old.queued (λ m i. i) before; each = h.each })

  -- ---- at the end

  -- whom the durable cut covers was told
  pub all_told : (x : RunState) (records : List Record) (kept : Kept D) (saved : Saved) → saved ≡ saved_in kept → HasOnlyOver x records → IsWaiting x kept → NoneCovered kept → AllTold records saved
  all_told x records kept saved is only h none r i committed covered = ⊎_elim
      (λ (w : In (need_of r) kept.waiting). absurd (false≢true (sym (none (need_of r) w) ∙ ap (λ (s : Saved). covers s.cut (need_of r)) (sym is) ∙ covered)))
      (λ (t : In r.label (told kept.receipts)). subst (λ (s : Saved). In r.label (told s.receipts)) (sym is) t)
      (h.each (need_of r) (h.all r (only r i) committed))
