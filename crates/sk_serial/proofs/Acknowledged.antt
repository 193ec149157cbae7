-- Who was told that a commit is durable is a transaction that committed, and what it wrote stands in the list up to the receipt's cut.
use Rattle.std.specs.Prelude.{◌≡◌, ◌≤◌, ℕ, suc, ◌+◌, Bool, true, false, cond, ◌||◌, ◌&&◌, max, List, [], ◌∷◌, Option, Some, None, take}
use Rattle.std.specs.List.{list_any}
use Rattle.std.proofs.Common.{refl, sym, ap, subst, ◌∙◌, inl, inr, ⊎_elim, arith}
use Rattle.std.proofs.Math.Nat.{le-max_left, le-max_right}
use Rattle.std.proofs.lemmas.Bool.{leb-true, le-leb}
use Rattle.sk_model.specs.declared.commit.Commit.{Commit}
use Rattle.sk_model.specs.declared.engine.EngineName.{EngineName}
use Rattle.sk_model.specs.declared.engine.EngineName.TheVariants.{Mem, Store}
use Rattle.sk_model.specs.declared.point.Point.{Point}
use Rattle.sk_model.specs.declared.record.Record.{Record}
use Rattle.sk_model.specs.declared.receipt.Need.{Need}
use Rattle.sk_model.specs.declared.receipt.Receipt.{Receipt}
use Rattle.sk_model.specs.Places.{is_wanted, place, upto}
use Rattle.sk_model.specs.Records.{AtMost, same_label}
use Rattle.sk_model.specs.Stamped.{number_in}
use Rattle.sk_model.proofs.Labels.{same_is}
use Rattle.sk_model.proofs.Lists.{Each}
use Rattle.sk_linked.specs.Traces.{In}
use Rattle.sk_linked.proofs.Members.{each_in}
use Rattle.sk_cut.specs.Acked.{Acked, answers, IsUpTo}
use Rattle.sk_cut.specs.Receipts.{covers, is_reached}
use Rattle.sk_run.specs.Numbered.{IsBy, AreByRecords}
use Rattle.sk_run.specs.Over.{IsOver, HasAllOver}
use Rattle.sk_run.specs.State.{RunState}
use Rattle.sk_serial.specs.Acknowledged.{IsCovered, IsReceipt, Acknowledged}
use Rattle.sk_serial.specs.Waiting.{needed, need_of, IsNeedOf, AreOver, AreNeedsOf}

-- ---- who waits

abbrev pub IsOf : RunState → Need → Type 0
IsOf x n = (r : Record) × IsOver x r × IsNeedOf n r

each_weaker : {X : Type 0} (P Q : X → Type 0) (xs : List X) → ((x : X) → P x → Q x) → Each P xs → Each Q xs
each_weaker P Q [] f h = tt
each_weaker P Q (x ∷ xs) f h = (f x h.0, each_weaker P Q xs f h.1)

-- at the end each is of a record that is handed out
handed_out : (x : RunState) (records : List Record) (queued : List Need) → HasAllOver x records → AreOver x queued → AreNeedsOf records queued
handed_out x records queued has h = each_weaker (IsOf x) (λ n. (r : Record) × In r records × IsNeedOf n r) queued (λ n (r, over, is). (r, has r over, is)) h

-- ---- of one receipt

both : (x y : Bool) → (x && y) ≡ true → (x ≡ true) × (y ≡ true)
both true y e = (refl, e)
both false y e = absurd (cc)

some_answers : (r : Receipt) (ns : List Need) → list_any (answers r) ns ≡ true → (n : Need) × In n ns × (answers r n ≡ true)
some_answers r [] e = absurd (cc)
some_answers r (n ∷ ns) e = at (answers r n) refl (some_answers r ns)
  where
    at : (b : Bool) → answers r n ≡ b → (list_any (answers r) ns ≡ true → (m : Need) × In m ns × (answers r m ≡ true)) → (m : Need) × In m (n ∷ ns) × (answers r m ≡ true)
    at true is rest = (n, inl refl, is)
    at false is rest = let found = rest (sym (ap (λ b. b || list_any (answers r) ns) is) ∙ e) in (found.0, inr found.1, found.2)

reaches : (snapshot drew : Option ℕ) (upto : ℕ) → is_reached (needed snapshot drew) upto ≡ true → AtMost snapshot upto × AtMost drew upto
reaches None None upto h = (tt, tt)
reaches None (Some n) upto h = (tt, leb-true n upto h)
reaches (Some s) None upto h = (leb-true s upto h, tt)
reaches (Some s) (Some n) upto h =
    let least : max s n ≤ upto = leb-true (max s n) upto h in
    (omega (arith, le-max_left s n, least), omega (arith, le-max_right s n, least))

covered : (cut : Point) (r : Record) → covers cut (need_of r) ≡ true → IsCovered r cut
covered cut r h =
    let parts = both (is_reached (needed r.mem r.drew_mem) cut.a) (is_reached (needed r.store r.drew_store) cut.b) h in
    let mem = reaches r.mem r.drew_mem cut.a parts.0 in
    let store = reaches r.store r.drew_store cut.b parts.1 in
    record { mem = mem.0; store = store.0; drew_mem = mem.1; drew_store = store.1 }

-- ---- the prefix

or_first : (x y : Bool) → x ≡ true → (x || y) ≡ true
or_first true y e = refl
or_first false y e = absurd (cc)

or_second : (x y : Bool) → y ≡ true → (x || y) ≡ true
or_second true y e = refl
or_second false y e = e

any_in : (p : Commit → Bool) (cs : List Commit) (c : Commit) → In c cs → p c ≡ true → list_any p cs ≡ true
any_in p [] c i is = absurd i
any_in p (d ∷ ds) c i is = ⊎_elim
    (λ (e : c ≡ d). or_first (p d) (list_any p ds) (ap p (sym e) ∙ is))
    (λ (k : In c ds). or_second (p d) (list_any p ds) (any_in p ds c k is))
    i

-- a commit that both snapshots hold stands in the prefix at them
in_prefix : (m s : Option ℕ) (cs : List Commit) (c : Commit) → In c cs → is_wanted m s c ≡ true → In c (take (place cs m s) cs)
in_prefix m s [] c i is = absurd i
in_prefix m s (d ∷ ds) c i is =
    let all : place (d ∷ ds) m s ≡ suc (place ds m s) = ap (λ (b : Bool). cond b (place ds m s + 1) 0) (any_in (is_wanted m s) (d ∷ ds) c i is) ∙ omega arith in
    subst (λ (n : ℕ). In c (take n (d ∷ ds))) (sym all) (⊎_elim (λ (e : c ≡ d). inl e) (λ (k : In c ds). inr (in_prefix m s ds c k is)) i)

within : (n cut up : ℕ) → n ≤ cut → cut ≤ up → upto (Some up) (Some n) ≡ true
within n cut up a b = le-leb n up (omega (arith, a, b))

-- a commit by a record that the cut covers is held there, and at each later point
held_at : (c : Commit) (r : Record) (cut p : Point) → IsBy c r → IsCovered r cut → IsUpTo p cut → is_wanted (Some p.a) (Some p.b) c ≡ true
held_at c r cut p by k later = at by.some.0 by.some.1 by.some.2
  where
    at : (name : EngineName) (n : ℕ) → number_in name c ≡ Some n → is_wanted (Some p.a) (Some p.b) c ≡ true
    at Mem n is = or_first (upto (Some p.a) c.mem) (upto (Some p.b) c.store)
        (ap (upto (Some p.a)) is ∙ within n cut.a p.a (subst (λ (o : Option ℕ). AtMost o cut.a) (sym by.mem ∙ is) k.drew_mem) later.0)
    at Store n is = or_second (upto (Some p.a) c.mem) (upto (Some p.b) c.store)
        (ap (upto (Some p.b)) is ∙ within n cut.b p.b (subst (λ (o : Option ℕ). AtMost o cut.b) (sym by.store ∙ is) k.drew_store) later.1)

-- ---- all receipts

module _ (records : List Record) (order : List Commit) (needs : List Need) (of : AreNeedsOf records needs) (by : AreByRecords order records) where
  is_receipt : (receipt : Receipt) → list_any (answers receipt) needs ≡ true → IsReceipt records order receipt
  is_receipt receipt found =
      let n : (n : Need) × In n needs × (answers receipt n ≡ true) = some_answers receipt needs found in
      let r : (r : Record) × In r records × IsNeedOf n.0 r = each_in (λ (m : Need). (r : Record) × In r records × IsNeedOf m r) needs n.0 of n.1 in
      let parts = both (same_label n.0.label receipt.label) (covers receipt.cut n.0) n.2 in
      let label : r.0.label ≡ receipt.label = sym (ap (λ (m : Need). m.label) r.2.1) ∙ same_is n.0.label receipt.label parts.0 in
      let k : IsCovered r.0 receipt.cut = covered receipt.cut r.0 (subst (λ (m : Need). covers receipt.cut m ≡ true) r.2.1 parts.1) in
      record {
        transaction = r.0;
        among = r.1;
        committed = r.2.0;
        label = label;
        covered = k;
        stands = λ c i same p later. in_prefix (Some p.a) (Some p.b) order c i (held_at c r.0 receipt.cut p (by c i r.0 r.1 (same ∙ sym label)) k later);
      }

  acknowledged : (receipts : List Receipt) (cut : Point) → Acked needs receipts cut → Acknowledged records order receipts cut
  acknowledged receipts cut a = record {
    each = each_weaker (λ (r : Receipt). list_any (answers r) needs ≡ true) (IsReceipt records order) receipts is_receipt a.covered;
    within = a.within;
    once = a.once;
  }

-- so it is at the end of a run
pub acknowledged_at : (x : RunState) (records : List Record) (order : List Commit) (queued : List Need) (receipts : List Receipt) (cut : Point) → HasAllOver x records → AreByRecords order records → AreOver x queued → Acked queued receipts cut → Acknowledged records order receipts cut
acknowledged_at x records order queued receipts cut has by over a = acknowledged records order queued (handed_out x records queued has over) by receipts cut a
