-- What a disk shows goes on with each flush.
use Rattle.std.specs.Prelude.{◌≡◌, ◌≢◌, ◌⊎◌, ◌==◌, ◌&&◌, Bool, true, false, List, [], ◌∷◌, ◌++◌, IsTrue}
use Rattle.std.proofs.Common.{refl, sym, ap, subst, ◌∙◌, inl, inr, ⊎_elim, arith}
use Rattle.std.proofs.lemmas.Bool.{eq-eqb, false_from_ne_true}
use Rattle.std.proofs.Common.{eqb-true}
use Rattle.std.proofs.lemmas.List.{append-nil, append_assoc}
use Rattle.std.proofs.lemmas.Grind.{flat_map-append}
use Rattle.sk_device.specs.Disk.{Image, Disk, AfterStep, Steps}
use Rattle.sk_device.proofs.Moments.{steps_none}
use Rattle.sk_model.specs.declared.engine.EngineName.{EngineName}
use Rattle.sk_model.specs.declared.engine.EngineName.TheVariants.{Mem, Store}
use Rattle.sk_model.specs.declared.call.Entry.{Entry}
use Rattle.sk_model.specs.declared.commit.Commit.{Commit}
use Rattle.sk_model.specs.declared.point.Point.{Point}
use Rattle.sk_model.specs.Engine.{EngineTable}
use Rattle.sk_mem.specs.declared.engine.MemEngine.{MemEngine}
use Rattle.sk_store.specs.declared.engine.StoreEngine.{StoreEngine}
use Rattle.sk_log.specs.Stores.{Opening}
use Rattle.sk_log.specs.Growth.{OpensAs}
use Rattle.sk_log.specs.declared.ends.Ends.{Ends}
use Rattle.sk_model.specs.declared.receipt.FlushFault.{FlushFault}
use Rattle.sk_model.specs.declared.receipt.FlushFault.TheVariants as fault
use Rattle.sk_cut.specs.declared.pipeline.Batch.{Batch}
use Rattle.sk_cut.specs.Acked.{IsUpTo}
use Rattle.sk_cut.specs.Batches.{as_cut, same_cut}
use Rattle.sk_cut.specs.Flush.{AtMostGrows, HasGrown, grown_by}
use Rattle.sk_durable.specs.declared.refused.Refused.TheVariants as refused
use Rattle.sk_durable.specs.Kept.{Kept}
use Rattle.sk_recorded.specs.Joined.{joined}
use Rattle.sk_recorded.specs.Flushes.{Flush, last_cut, written}
use Rattle.sk_run.specs.State.{RunState}
use Rattle.sk_run.specs.Told.{RunLine}
use Rattle.sk_run.specs.Kept.{Beginning, HasKept}
use Rattle.sk_run.specs.Flushing.{SameNumbers, IsFlush, FindsNothing, FindsFlush, FindsBatch, KeepsStill}
use Rattle.sk_run.specs.declared.flushing.Found.{Found}
use Rattle.sk_serial.specs.Saving.{Saved, saved_in}
use Rattle.sk_serial.specs.Showing.{Holds, HoldsFront, GrowsBy, Shows, IsStill, Appends, HasSaved, SavesOn, batch_of}

-- ---- flushes, one behind the other

last_more : (low : Point) (fs : List Flush) (f : Flush) → last_cut low (fs ++ f ∷ []) ≡ f.cut
last_more low [] f = refl
last_more low (g ∷ gs) f = last_more g.cut gs f

written_more : (name : EngineName) (fs : List Flush) (f : Flush) → written name (fs ++ f ∷ []) ≡ written name fs ++ written name (f ∷ [])
written_more name fs f = flat_map-append (λ (g : Flush). joined name g.points (g.answers name)) fs (f ∷ [])

-- what was written behind both logs, with one flush more
wrote_more : (name : EngineName) (log from more : List Commit) (fs : List Flush) (f : Flush) → from ≡ log ++ written name fs → written name (f ∷ []) ≡ more → from ++ more ≡ log ++ written name (fs ++ f ∷ [])
wrote_more name log from more fs f is wrote = ap (λ xs. xs ++ more) is ∙ append_assoc log (written name fs) more ∙ ap (λ xs. log ++ xs) (ap (λ xs. written name fs ++ xs) (sym wrote) ∙ sym (written_more name fs f))

same_numbers : (p q : Point) → q ≡ p → SameNumbers p q
same_numbers p q is = (sym (ap (λ (x : Point). x.a) is), sym (ap (λ (x : Point). x.b) is))

same_then : (p q r : Point) → SameNumbers p q → SameNumbers q r → SameNumbers p r
same_then p q r one two = (one.0 ∙ two.0, one.1 ∙ two.1)

-- a cut is the same as itself
cut_same : (p q : Point) → p ≡ q → same_cut p q ≡ true
cut_same p q is = rw (eq-eqb p.a q.a (ap (λ (x : Point). x.a) is), eq-eqb p.b q.b (ap (λ (x : Point). x.b) is)) refl

both : (x y : Bool) → (x && y) ≡ true → (x ≡ true) × (y ≡ true)
both true y e = (refl, e)
both false y e = absurd (cc)

-- a cut of these numbers is no later
up_to_same : (p q r : Point) → SameNumbers r q → IsUpTo p q → IsUpTo p r
up_to_same p q r same up = (omega (arith, same.0, up.0), omega (arith, same.1, up.1))

up_to_itself : (p q : Point) → SameNumbers q p → IsUpTo p q
up_to_itself p q same = (omega (arith, same.0), omega (arith, same.1))

-- so have cuts that are the same
cut_numbers : (p q : Point) → same_cut p q ≡ true → SameNumbers p q
cut_numbers p q is = let both = both (p.a == q.a) (p.b == q.b) is in (eqb-true p.a q.a both.0, eqb-true p.b q.b both.1)

numbers_of : (p q : Point) → as_cut p ≡ as_cut q → SameNumbers p q
numbers_of p q is = (ap (λ (x : Point). x.a) is, ap (λ (x : Point). x.b) is)

-- ---- one image

-- it holds what it opens as
pub holds_none : (first : Point) (o : Opening) (image : Image) → OpensAs image o → o.cut ≡ as_cut first → Holds first [] o image
holds_none first o image stands cut = record { opening = o; stands = stands; base = refl; mem = sym (append-nil o.mem); store = sym (append-nil o.store); cut = cut }

-- a flush more is behind those before it
holds_more : (first : Point) (fs : List Flush) (f : Flush) (durable : Point) (found : Found) (ends : Ends) (o : Opening) (between image : Image) → IsFlush durable found f → (h : Holds first fs o between)
    → OpensAs image (grown_by ends (batch_of found) h.opening) → Holds first (fs ++ f ∷ []) o image
holds_more first fs f durable found ends o between image is h stands = record {
  opening = grown_by ends (batch_of found) h.opening;
  stands = stands;
  base = h.base;
  mem = wrote_more Mem o.mem h.opening.mem found.mem fs f h.mem is.mem;
  store = wrote_more Store o.store h.opening.store found.store fs f h.store is.store;
  cut = ap as_cut (sym is.cut ∙ sym (last_more first fs f));
}

-- none was tried: the image holds all that were written
holds_all : (first : Point) (fs : List Flush) (o : Opening) (image : Image) → Holds first fs o image ⊎ Holds first (fs ++ []) o image → Holds first fs o image
holds_all first fs o image h = ⊎_elim (λ (a : Holds first fs o image). a) (λ (b : Holds first (fs ++ []) o image). subst (λ (xs : List Flush). Holds first xs o image) (append-nil fs) b) h

-- a front of the flushes is one of these and one more
front_more : (first : Point) (fs : List Flush) (f : Flush) (o : Opening) (image : Image) → HoldsFront first (fs ++ []) o image → HoldsFront first (fs ++ f ∷ []) o image
front_more first fs f o image h = record {
  front = h.front;
  back = h.back ++ f ∷ [];
  flushes_are = ap (λ (xs : List Flush). xs ++ f ∷ []) (sym (append-nil fs) ∙ h.flushes_are) ∙ append_assoc h.front h.back (f ∷ []);
  holds = h.holds;
}

front_all : (first : Point) (fs back : List Flush) (o : Opening) (image : Image) → Holds first fs o image → HoldsFront first (fs ++ back) o image
front_all first fs back o image h = record { front = fs; back = back; flushes_are = refl; holds = h }

-- an image that grew at most by the batch holds what it held, or one flush more
at_most : (first : Point) (fs : List Flush) (f : Flush) (durable : Point) (found : Found) (ends : Ends) (o : Opening) (between image : Image) → IsFlush durable found f → Holds first fs o between
    → AtMostGrows ends (batch_of found) between image → Holds first fs o image ⊎ Holds first (fs ++ f ∷ []) o image
at_most first fs f durable found ends o between image is h grows = ⊎_elim
    (λ (same : OpensAs image h.opening). inl (record { opening = h.opening; stands = same; base = h.base; mem = h.mem; store = h.store; cut = h.cut }))
    (λ (more : OpensAs image (grown_by ends (batch_of found) h.opening)). inr (holds_more first fs f durable found ends o between image is h more))
    (grows h.opening h.stands)

-- so it holds a front
at_most_front : (first : Point) (fs : List Flush) (f : Flush) (o : Opening) (image : Image) → Holds first fs o image ⊎ Holds first (fs ++ f ∷ []) o image → HoldsFront first (fs ++ f ∷ []) o image
at_most_front first fs f o image h = ⊎_elim
    (λ (a : Holds first fs o image). front_all first fs (f ∷ []) o image a)
    (λ (b : Holds first (fs ++ f ∷ []) o image). subst (λ (xs : List Flush). HoldsFront first xs o image) (append-nil (fs ++ f ∷ [])) (front_all first (fs ++ f ∷ []) [] o image b))
    h

module _ {D : Type 0} (disk : Disk D) where
  -- one call that changes after others, of which more is known than of their moments
  steps_through : (one whole two both : Image → Image → Type 0) (old mid new : D) → Steps disk one old mid → ((image : Image) → disk.may_leave mid image → AfterStep disk whole old image) → Steps disk two mid new
      → ((was image : Image) → one was image → both was image) → ((was between image : Image) → whole was between → two between image → both was image) → Steps disk both old new
  steps_through one whole two both old mid new first all second alone joined = record {
    later = omega (arith, first.later, second.later);
    now = λ image left. after image (second.now image left);
    since = λ t image le left.
        ⊎_elim (λ left_mid. ⊎_elim (λ past. inl past) (λ from. inr (from.0, from.1, alone from.0 image from.2)) (first.since t image le left_mid)) (λ from. inr (after image from))
        (second.since t image (omega (arith, le, first.later)) left);
    keeps = λ t image le left. second.keeps t image (omega (arith, le, first.later)) (first.keeps t image le left);
  }
    where
      after : (image : Image) → AfterStep disk two mid image → AfterStep disk both old image
      after image from = let was = all from.0 from.1 in (was.0, was.1, joined was.0 from.0 image was.2 from.2)

  -- ---- a disk

  still_same : (old new : Kept D) → new ≡ old → IsStill old new
  still_same old new is = record { disk = ap (λ (k : Kept D). k.disk) is; broken = ap (λ (k : Kept D). k.broken) is; cut = same_numbers new.cut old.cut (sym (ap (λ (k : Kept D). k.cut) is)) }

  -- what was saved is the same
  pub still_of : (old new : Kept D) → new.disk ≡ old.disk → new.broken ≡ old.broken → saved_in new ≡ saved_in old → IsStill old new
  still_of old new same whole saved = record { disk = same; broken = whole; cut = same_numbers new.cut old.cut (sym (ap (λ (s : Saved). s.cut) saved)) }

  -- the batch was written, or has the durable cut
  pub wrote_ok : (old new : Kept D) (batch : Batch) (same : Bool) → same_cut batch.cut old.cut ≡ same → old.broken ≡ false → (same_cut batch.cut old.cut ≡ true → new.disk ≡ old.disk)
      → (IsTrue disk.tells → same_cut batch.cut old.cut ≡ false → Steps disk (AtMostGrows old.ends batch) old.disk new.disk) → (IsTrue disk.tells → same_cut batch.cut old.cut ≡ false → HasGrown disk old.ends batch old.disk new.disk)
      → (as_cut new.cut ≡ as_cut batch.cut) × (new.broken ≡ false) → IsStill old new ⊎ Appends disk old batch new
  wrote_ok old new batch true is unbroken untouched at_most written done = inl (record {
    disk = untouched is;
    broken = done.1 ∙ sym unbroken;
    cut = same_then new.cut batch.cut old.cut (numbers_of new.cut batch.cut done.0) (cut_numbers batch.cut old.cut is);
  })
  wrote_ok old new batch false is unbroken untouched at_most written done = inr (record {
    unlike = is;
    moments = λ tells. at_most tells is;
    whole = λ whole tells. written tells is;
    cut = λ whole. numbers_of new.cut batch.cut done.0;
    stays = λ failed. absurd (let g = done.1 in cc);
  })

  -- or it was not, or the disk failed meanwhile
  pub wrote_err : (old new : Kept D) (batch : Batch) (e : FlushFault) → (IsTrue disk.tells → same_cut batch.cut old.cut ≡ false → Steps disk (AtMostGrows old.ends batch) old.disk new.disk)
      → (same_cut batch.cut old.cut ≡ true → refused.Flush e ≡ refused.Flush fault.NoMemory) → (refused.Flush e ≢ refused.Flush fault.Device → new ≡ old) → (e ≡ fault.Device → new.broken ≡ true) → new.cut ≡ old.cut
      → IsStill old new ⊎ Appends disk old batch new
  wrote_err old new batch fault.Device at_most equal refused broken cut =
      let differs : same_cut batch.cut old.cut ≡ false = false_from_ne_true (same_cut batch.cut old.cut) (λ is. let g = equal is in cc) in
      inr (record {
        unlike = differs;
        moments = λ tells. at_most tells differs;
        whole = λ whole tells. absurd (let g = broken refl in cc);
        cut = λ whole. absurd (let g = broken refl in cc);
        stays = λ failed. same_numbers new.cut old.cut (sym cut);
      })
  wrote_err old new batch (fault.LogFull n) at_most equal refused broken cut = inl (still_same old new (refused (λ e. cc)))
  wrote_err old new batch fault.NoMemory at_most equal refused broken cut = inl (still_same old new (refused (λ e. cc)))

  -- before the first flush
  pub shows_none : (first : Point) (device : D) (broken : Bool) → Shows disk first device [] [] device first broken
  shows_none first device broken = record {
    moments = λ tells. steps_none disk (GrowsBy first []) device (λ image o stands cut. front_all first [] [] o image (holds_none first o image stands cut));
    leaves = λ tells image left. (image, left, λ o stands cut. inl (holds_none first o image stands cut));
    last = (refl, refl);
    tries = (omega arith, omega arith);
    sure = λ e. refl;
  }

  -- what left the disk and the cut alone
  pub shows_still : (first : Point) (begun : D) (fs tried : List Flush) (old new : Kept D) → IsStill old new → Shows disk first begun fs tried old.disk old.cut old.broken → Shows disk first begun fs tried new.disk new.cut new.broken
  shows_still first begun fs tried old new still s = record {
    moments = λ tells. subst (λ (d : D). Steps disk (GrowsBy first (fs ++ tried)) begun d) (sym still.disk) (s.moments tells);
    leaves = λ tells image left. s.leaves tells image (subst (λ (d : D). disk.may_leave d image) still.disk left);
    last = same_then new.cut old.cut (last_cut first fs) still.cut s.last;
    tries = up_to_same (last_cut first (fs ++ tried)) old.cut new.cut still.cut s.tries;
    sure = λ e. s.sure (sym still.broken ∙ e);
  }

  module _ (first : Point) (begun : D) (fs : List Flush) (f : Flush) (durable : Point) (found : Found) (old new : Kept D) (at : durable ≡ old.cut) (is : IsFlush durable found f) (a : Appends disk old (batch_of found) new) (s : Shows disk first begun fs [] old.disk old.cut old.broken) where
    abbrev HeldAll : Image → Image → Type 0
    HeldAll was image = (o : Opening) → OpensAs was o → o.cut ≡ as_cut first → Holds first fs o image

    held : IsTrue disk.tells → (image : Image) → disk.may_leave old.disk image → AfterStep disk HeldAll begun image
    held tells image left = let from = s.leaves tells image left in (from.0, from.1, λ o stands cut. holds_all first fs o image (from.2 o stands cut))

    moments_more : IsTrue disk.tells → Steps disk (GrowsBy first (fs ++ f ∷ [])) begun new.disk
    moments_more tells = steps_through (GrowsBy first (fs ++ [])) HeldAll (AtMostGrows old.ends (batch_of found)) (GrowsBy first (fs ++ f ∷ [])) begun old.disk new.disk (s.moments tells) (held tells) (a.moments tells)
        (λ was image grows o stands cut. front_more first fs f o image (grows o stands cut))
        (λ was between image all grows o stands cut. at_most_front first fs f o image (at_most first fs f durable found old.ends o between image is (all o stands cut) grows))

    cut_of : found.cut ≡ last_cut first (fs ++ f ∷ [])
    cut_of = sym is.cut ∙ sym (last_more first fs f)

    cut_now : new.broken ≡ false → SameNumbers new.cut (last_cut first (fs ++ f ∷ []))
    cut_now whole = same_then new.cut found.cut (last_cut first (fs ++ f ∷ [])) (a.cut whole) (same_numbers found.cut (last_cut first (fs ++ f ∷ [])) (sym cut_of))

    -- it was written
    pub shows_written : new.broken ≡ false → Shows disk first begun (fs ++ f ∷ []) [] new.disk new.cut new.broken
    shows_written whole = record {
      moments = λ tells. subst (λ (xs : List Flush). Steps disk (GrowsBy first xs) begun new.disk) (sym (append-nil (fs ++ f ∷ []))) (moments_more tells);
      leaves = λ tells image left.
          let from = a.whole whole tells image left in
          let before = held tells from.0 from.1 in
          (before.0, before.1, λ o stands cut. let h = before.2 o stands cut in inl (holds_more first fs f durable found old.ends o from.0 image is h (from.2 h.opening h.stands)));
      last = cut_now whole;
      tries = subst (λ (xs : List Flush). IsUpTo (last_cut first xs) new.cut) (sym (append-nil (fs ++ f ∷ []))) (up_to_itself (last_cut first (fs ++ f ∷ [])) new.cut (cut_now whole));
      sure = λ e. refl;
    }

    -- or the disk failed
    pub shows_tried : new.broken ≡ true → Shows disk first begun fs (f ∷ []) new.disk new.cut new.broken
    shows_tried failed = record {
      moments = moments_more;
      leaves = λ tells image left.
          let from = (a.moments tells).now image left in
          let before = held tells from.0 from.1 in
          (before.0, before.1, λ o stands cut. at_most first fs f durable found old.ends o from.0 image is (before.2 o stands cut) from.2);
      last = same_then new.cut old.cut (last_cut first fs) (a.stays failed) s.last;
      tries = subst (λ (p : Point). IsUpTo p new.cut) cut_of (up_to_same found.cut old.cut new.cut (a.stays failed) (subst (IsUpTo found.cut) at (is.past.0, is.past.1)));
      sure = λ e. absurd (let g = failed in cc);
    }

  -- ---- a run with its disk

  module _ (mem : MemEngine → EngineTable → List Entry → Type 0) (store : StoreEngine → EngineTable → List Entry → Type 0) where
    -- the disk was left alone, and the run has kept what it kept
    pub saves_still : (run new_run : RunState) (kept new_kept : Kept D) → KeepsStill mem store run new_run → IsStill kept new_kept → SavesOn disk mem store run kept new_run new_kept
    saves_still run new_run kept new_kept keeps still b begun lines h = record {
      flushes = h.flushes;
      tried = h.tried;
      has_kept = keeps.kept b lines (h.flushes ++ h.tried) h.has_kept;
      shows = shows_still b.first begun h.flushes h.tried kept new_kept still h.shows;
    }

    pub saves_both : (run mid new : RunState) (kept between last : Kept D) → SavesOn disk mem store run kept mid between → SavesOn disk mem store mid between new last → SavesOn disk mem store run kept new last
    saves_both run mid new kept between last one two b begun lines h = two b begun lines (one b begun lines h)

    -- what was found was written behind the other flushes, or the disk failed meanwhile
    saves_flush : (run new_run : RunState) (kept new_kept : Kept D) (durable : Point) (found : Found) → durable ≡ kept.cut → (b : Beginning) (begun : D) (lines : List RunLine) (fs : List Flush)
        → Appends disk kept (batch_of found) new_kept → Shows disk b.first begun fs [] kept.disk kept.cut kept.broken → FindsFlush mem store b lines fs durable found new_run → (broken : Bool) → new_kept.broken ≡ broken
        → HasSaved disk mem store b begun lines new_run new_kept
    saves_flush run new_run kept new_kept durable found at b begun lines fs a s finds false is = record {
      flushes = fs ++ finds.flush ∷ [];
      tried = [];
      has_kept = subst (λ (xs : List Flush). HasKept mem store b lines xs new_run) (sym (append-nil (fs ++ finds.flush ∷ []))) finds.kept;
      shows = shows_written b.first begun fs finds.flush durable found kept new_kept at finds.is a s is;
    }
    saves_flush run new_run kept new_kept durable found at b begun lines fs a s finds true is = record {
      flushes = fs;
      tried = finds.flush ∷ [];
      has_kept = finds.kept;
      shows = shows_tried b.first begun fs finds.flush durable found kept new_kept at finds.is a s is;
    }

    pub saves_found : (run new_run : RunState) (kept new_kept : Kept D) (durable : Point) (found : Found) → durable ≡ kept.cut → kept.broken ≡ false → FindsBatch mem store run durable found new_run → KeepsStill mem store run new_run
        → IsStill kept new_kept ⊎ Appends disk kept (batch_of found) new_kept → SavesOn disk mem store run kept new_run new_kept
    saves_found run new_run kept new_kept durable found at whole finds keeps writes b begun lines h = ⊎_elim
        (λ (still : IsStill kept new_kept). saves_still run new_run kept new_kept keeps still b begun lines h)
        (λ (a : Appends disk kept (batch_of found) new_kept). ⊎_elim
        (λ (none : FindsNothing durable found). absurd (let same = cut_same found.cut kept.cut (none.cut ∙ at) in let differs = a.unlike in cc))
        (λ (flush : FindsFlush mem store b lines h.flushes durable found new_run). saves_flush run new_run kept new_kept durable found at b begun lines h.flushes a shown flush new_kept.broken refl)
        (finds b lines h.flushes has (same_then durable kept.cut (last_cut b.first h.flushes) (same_numbers durable kept.cut (sym at)) h.shows.last)))
        writes
      where
        none_tried : h.tried ≡ []
        none_tried = h.shows.sure whole

        has : HasKept mem store b lines h.flushes run
        has = subst (λ (xs : List Flush). HasKept mem store b lines xs run) (ap (λ (xs : List Flush). h.flushes ++ xs) none_tried ∙ append-nil h.flushes) h.has_kept

        shown : Shows disk b.first begun h.flushes [] kept.disk kept.cut kept.broken
        shown = subst (λ (xs : List Flush). Shows disk b.first begun h.flushes xs kept.disk kept.cut kept.broken) none_tried h.shows
