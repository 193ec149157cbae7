-- The receipts and the greatest numbers, from call to call.
use Rattle.std.proofs.Common.{◌≢◌, IsTrue, ◌&&◌, ◌-◌, nat_le, nat_lt, ◌≡◌, ℕ, ◌+◌, ◌<◌, ◌≤◌, max, Bool, true, false, cond, not, ◌==◌, if◌then◌else◌, List, [], ◌∷◌, ◌++◌, length, map, get_or, set, replicate, refl, sym, ap, subst, ◌∙◌, arith}
use Rattle.std.specs.List.{filter, AllByRecursion}
use Rattle.std.proofs.lemmas.Bool.{and_parts, eqb-true, eq-eqb, false≢true}
use Rattle.std.proofs.lemmas.List.{get_or-replicate, get_or-set_same, get_or-set_other, length-append}
use Rattle.sk_device.specs.Disk.{Disk, Steps}
use Rattle.sk_rows.specs.declared.table.Table.{Table}
use Rattle.sk_model.specs.declared.label.Label.{Label}
use Rattle.sk_model.specs.declared.point.Point.{Point}
use Rattle.sk_model.specs.declared.receipt.Need.{Need}
use Rattle.sk_model.specs.declared.receipt.Receipt.{Receipt}
use Rattle.sk_model.specs.declared.receipt.FlushFault.{FlushFault}
use Rattle.sk_model.specs.declared.receipt.FlushFault.TheVariants as fault
use Rattle.sk_model.specs.Records.{same_label}
use Rattle.sk_model.proofs.Labels.{same_is}
use Rattle.sk_cut.specs.Acked.{AckedAtFirst, AckedWhenFlushed, AckedWhenQueued, IsAcking, IsUpTo, labels_of, times}
use Rattle.sk_cut.specs.Batches.{as_cut, same_cut}
use Rattle.sk_cut.specs.Flush.{AllAt}
use Rattle.sk_cut.specs.Receipts.{View, covers, receipt_at}
use Rattle.sk_durable.specs.Growing.{AllOver, OnlyGrows}
use Rattle.sk_durable.specs.Kept.{AreNewest, Holds, newest}
use Rattle.sk_durable.proofs.Growing.{over_after}

-- only the numbers of the cut count
pub acking_at : (queued waiting : List Need) (receipts : List Receipt) (cut to : Point) → cut.a ≡ to.a → cut.b ≡ to.b → IsAcking queued waiting receipts cut → IsAcking queued waiting receipts to
acking_at queued waiting receipts cut to a b acking = record {
  acked = record {
    within = subst (λ (n : ℕ). AllByRecursion (λ (r : Receipt). (r.cut.a ≤ n) × (r.cut.b ≤ to.b)) receipts) a
        (subst (λ (n : ℕ). AllByRecursion (λ (r : Receipt). (r.cut.a ≤ cut.a) × (r.cut.b ≤ n)) receipts) b acking.acked.within);
    covered = acking.acked.covered;
    once = acking.acked.once;
  };
  waits = acking.waits;
  apart = acking.apart;
  once = acking.once;
}

-- those who are told and those who are not are all
pub told_and_left : (to : Point) (waiting : List Need) → length (map (receipt_at to) (filter (covers to) waiting)) + length (filter (λ n. not (covers to n)) waiting) ≡ length waiting
told_and_left to [] = refl
told_and_left to (n ∷ waiting) = step (covers to n) (told_and_left to waiting)
  where
    step : (b : Bool) → length (map (receipt_at to) (filter (covers to) waiting)) + length (filter (λ m. not (covers to m)) waiting) ≡ length waiting
        → length (map (receipt_at to) (cond b (n ∷ filter (covers to) waiting) (filter (covers to) waiting))) + length (cond (not b) (n ∷ filter (λ m. not (covers to m)) waiting) (filter (λ m. not (covers to m)) waiting))
        ≡ length (n ∷ waiting)
    step true rest = omega (arith, rest)
    step false rest = omega (arith, rest)

-- ---- the greatest number of a session

abbrev own : ℕ → Need → ℕ
own session n = if n.label.session == session then n.label.k else 0

pub newest_first : AreNewest (replicate 65 0) []
newest_first session le = get_or-replicate 65 session 0 0 (omega (arith, le))

-- a label past the greatest was not queued
pub none_queued : (label : Label) (queued : List Need) → newest label.session queued < label.k → times label (labels_of queued) ≡ 0
none_queued label [] past = refl
none_queued label (n ∷ ns) past = step (same_label label n.label) refl (λ less. none_queued label ns less)
  where
    step : (b : Bool) → same_label label n.label ≡ b → (newest label.session ns < label.k → times label (labels_of ns) ≡ 0) → (if b then 1 else 0) + times label (labels_of ns) ≡ 0
    step true is rest =
        let same = same_is label n.label is in
        let session : n.label.session ≡ label.session = sym (ap (λ (l : Label). l.session) same) in
        let k : label.k ≡ n.label.k = ap (λ (l : Label). l.k) same in
        let number : own label.session n ≡ n.label.k = ap (λ (b : Bool). if b then n.label.k else 0) (eq-eqb n.label.session label.session session) in
        omega (arith, past, number, k)
    step false is rest =
        let less : newest label.session ns < label.k = omega (arith, past) in
        omega (arith, rest less)

newest_more : (session : ℕ) (queued : List Need) (need : Need) → newest session (queued ++ need ∷ []) ≡ max (newest session queued) (own session need)
newest_more session [] need = omega arith
newest_more session (n ∷ ns) need = omega (arith, newest_more session ns need)

-- one past it is queued
pub newest_queued : (last : List ℕ) (queued : List Need) (need : Need) → length last ≡ 65 → need.label.session ≤ 64 → newest need.label.session queued < need.label.k
    → AreNewest last queued → AreNewest (set last need.label.session need.label.k) (queued ++ need ∷ [])
newest_queued last queued need size low past are session le = step (need.label.session == session) refl
  where
    step : (b : Bool) → (need.label.session == session) ≡ b → get_or (set last need.label.session need.label.k) session 0 ≡ newest session (queued ++ need ∷ [])
    step true is =
        let same : need.label.session ≡ session = eqb-true need.label.session session is in
        let number : own session need ≡ need.label.k = ap (λ (b : Bool). if b then need.label.k else 0) is in
        let less : newest session queued < need.label.k = subst (λ (s : ℕ). newest s queued < need.label.k) same past in
        let greatest : newest session (queued ++ need ∷ []) ≡ need.label.k = omega (arith, newest_more session queued need, number, less) in
        subst (λ (s : ℕ). get_or (set last need.label.session need.label.k) s 0 ≡ need.label.k) same (get_or-set_same last need.label.session need.label.k 0 (omega (arith, size, low))) ∙ sym greatest
    step false is =
        let number : own session need ≡ 0 = ap (λ (b : Bool). if b then need.label.k else 0) is in
        let same : newest session (queued ++ need ∷ []) ≡ newest session queued = omega (arith, newest_more session queued need, number) in
        get_or-set_other last need.label.session session need.label.k 0 (λ e. false≢true (sym is ∙ eq-eqb need.label.session session (sym e))) ∙ are session le ∙ sym same

-- a cut that may follow is not below the durable one
pub up_to : (cut to : Point) → (same_cut to cut ≡ false → IsUpTo to cut) → IsUpTo to cut
up_to cut to above = step (same_cut to cut) refl
  where
    step : (b : Bool) → same_cut to cut ≡ b → IsUpTo to cut
    step true is =
        let parts : ((to.a == cut.a) ≡ true) × ((to.b == cut.b) ≡ true) = and_parts (to.a == cut.a) (to.b == cut.b) is in
        (omega (arith, eqb-true to.a cut.a parts.0), omega (arith, eqb-true to.b cut.b parts.1))
    step false is = above is

-- ---- what holds

pub not_queued : (label : Label) (queued waiting : List Need) (receipts : List Receipt) (cut : Point) → IsAcking queued waiting receipts cut → newest label.session queued < label.k → times label (labels_of waiting) ≡ 0
not_queued label queued waiting receipts cut acking past = omega (arith, acking.apart label, none_queued label queued past)

module _ {D : Type 0} (disk : Disk D) (catalog : List Table) where
  pub holds_first : (v : View D) (queued : List Need) (receipts : List Receipt) (last : List ℕ) → AckedAtFirst → v.waiting ≡ [] → queued ≡ [] → receipts ≡ [] → AreNewest last []
      → (IsTrue disk.tells → AllAt disk (as_cut v.cut) v.ends v.disk) → (IsTrue disk.tells → AllOver disk catalog v.disk) → Holds disk catalog v queued receipts last
  holds_first v queued receipts last at_first no_waiter no_need no_receipt numbers stands over = record {
    acking = subst (λ (q : List Need). IsAcking q v.waiting receipts v.cut) (sym no_need)
        (subst (λ (w : List Need). IsAcking [] w receipts v.cut) (sym no_waiter) (subst (λ (rs : List Receipt). IsAcking [] [] rs v.cut) (sym no_receipt) (at_first v.cut)));
    counted = omega (arith, ap (λ (l : List Need). length l) no_waiter, ap (λ (l : List Need). length l) no_need, ap (λ (l : List Receipt). length l) no_receipt);
    newest = subst (λ (q : List Need). AreNewest last q) (sym no_need) numbers;
    stands = λ whole. stands;
    over = over;
  }

  pub holds_queued : (v w : View D) (queued : List Need) (receipts : List Receipt) (last : List ℕ) (need : Need) → AckedWhenQueued → Holds disk catalog v queued receipts last
      → length last ≡ 65 → need.label.session ≤ 64 → newest need.label.session queued < need.label.k → w ≡ record v { waiting = v.waiting ++ need ∷ []; reserved = v.reserved - 1 }
      → Holds disk catalog w (queued ++ need ∷ []) receipts (set last need.label.session need.label.k)
  holds_queued v w queued receipts last need when_queued holds size low past is =
      subst (λ (u : View D). Holds disk catalog u (queued ++ need ∷ []) receipts (set last need.label.session need.label.k)) (sym is) (record {
        acking = when_queued queued v.waiting receipts v.cut need (none_queued need.label queued past) holds.acking;
        counted = omega (arith, holds.counted, length-append v.waiting (need ∷ []), length-append queued (need ∷ []));
        newest = newest_queued last queued need size low past holds.newest;
        stands = holds.stands;
        over = holds.over;
      })

  pub holds_flushed : (v w : View D) (queued : List Need) (receipts told : List Receipt) (last : List ℕ) (to : Point) → AckedWhenFlushed → Holds disk catalog v queued receipts last → IsUpTo to v.cut
      → told ≡ map (receipt_at to) (filter (covers to) v.waiting) → w.waiting ≡ filter (λ n. not (covers to n)) v.waiting → as_cut w.cut ≡ as_cut to
      → (IsTrue disk.tells → AllAt disk (as_cut to) w.ends w.disk) → (IsTrue disk.tells → Steps disk OnlyGrows v.disk w.disk) → Holds disk catalog w queued (receipts ++ told) last
  holds_flushed v w queued receipts told last to when_flushed holds up are_told are_left is_cut stands steps =
      let a : to.a ≡ w.cut.a = sym (ap (λ (p : Point). p.a) is_cut) in
      let b : to.b ≡ w.cut.b = sym (ap (λ (p : Point). p.b) is_cut) in
      let acking = when_flushed queued v.waiting receipts v.cut to up holds.acking in
      let with_told = subst (λ (rs : List Receipt). IsAcking queued (filter (λ n. not (covers to n)) v.waiting) (receipts ++ rs) to) (sym are_told) acking in
      let with_left = subst (λ (l : List Need). IsAcking queued l (receipts ++ told) to) (sym are_left) with_told in
      record {
        acking = acking_at queued w.waiting (receipts ++ told) to w.cut a b with_left;
        counted = omega (arith, holds.counted, told_and_left to v.waiting, length-append receipts told, ap (λ (l : List Receipt). length l) are_told, ap (λ (l : List Need). length l) are_left);
        newest = holds.newest;
        stands = λ whole tells. subst (λ (p : Point). AllAt disk p w.ends w.disk) (sym is_cut) (stands tells);
        over = λ tells. over_after disk catalog v.disk w.disk (steps tells) (holds.over tells);
      }

  -- where it was refused, the pipeline is the same or broken
  still_stands : (v w : View D) (e : FlushFault) → (e ≢ fault.Device → w ≡ v) → (e ≡ fault.Device → w.broken ≡ true)
      → (v.broken ≡ false → IsTrue disk.tells → AllAt disk (as_cut v.cut) v.ends v.disk) → w.broken ≡ false → IsTrue disk.tells → AllAt disk (as_cut w.cut) w.ends w.disk
  still_stands v w fault.Device same broken stands whole = absurd (false≢true (sym whole ∙ broken refl))
  still_stands v w (fault.LogFull n) same broken stands whole =
      let is : w ≡ v = same (λ e. cc) in
      subst (λ (u : View D). u.broken ≡ false → IsTrue disk.tells → AllAt disk (as_cut u.cut) u.ends u.disk) (sym is) stands whole
  still_stands v w fault.NoMemory same broken stands whole =
      let is : w ≡ v = same (λ e. cc) in
      subst (λ (u : View D). u.broken ≡ false → IsTrue disk.tells → AllAt disk (as_cut u.cut) u.ends u.disk) (sym is) stands whole

  pub holds_refused : (v w : View D) (queued : List Need) (receipts : List Receipt) (last : List ℕ) (e : FlushFault) → Holds disk catalog v queued receipts last
      → w.waiting ≡ v.waiting → w.cut ≡ v.cut → (e ≢ fault.Device → w ≡ v) → (e ≡ fault.Device → w.broken ≡ true)
      → (IsTrue disk.tells → Steps disk OnlyGrows v.disk w.disk) → Holds disk catalog w queued receipts last
  holds_refused v w queued receipts last e holds same_waiting cut same broken steps = record {
    acking = subst (λ (l : List Need). IsAcking queued l receipts w.cut) (sym same_waiting) (subst (λ (p : Point). IsAcking queued v.waiting receipts p) (sym cut) holds.acking);
    counted = omega (arith, holds.counted, ap (λ (l : List Need). length l) same_waiting);
    newest = holds.newest;
    stands = still_stands v w e same broken holds.stands;
    over = λ tells. over_after disk catalog v.disk w.disk (steps tells) (holds.over tells);
  }
