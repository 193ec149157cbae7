-- What a stop leaves of a run's disk shows a prefix of its list.
use Rattle.std.specs.Prelude.{◌≡◌, ◌⊎◌, Bool, true, false, List, [], ◌++◌, IsTrue}
use Rattle.std.proofs.Common.{refl, sym, ap, subst, ◌∙◌, inl, inr, ⊎_elim}
use Rattle.std.proofs.lemmas.List.{append-nil}
use Rattle.sk_device.specs.Disk.{Image, Disk, LeavesOnly}
use Rattle.sk_device.proofs.Moments.{started, stepped}
use Rattle.sk_rows.specs.declared.table.Table.{Table}
use Rattle.sk_model.specs.declared.engine.EngineName.TheVariants.{Store}
use Rattle.sk_model.specs.declared.commit.Commit.{Commit}
use Rattle.sk_model.specs.declared.point.Point.{Point}
use Rattle.sk_model.specs.Database.{Tables}
use Rattle.sk_model.specs.Engine.{keeps}
use Rattle.sk_weave.specs.Woven.{Owned}
use Rattle.sk_log.specs.Images.{Base}
use Rattle.sk_log.specs.Stores.{Opening}
use Rattle.sk_cut.specs.Batches.{as_cut}
use Rattle.sk_recorded.specs.Flushes.{Flush, last_cut}
use Rattle.sk_recover.specs.Making.{AllImages}
use Rattle.sk_recover.specs.Opened.{IsOpened, IsOpenedAs, IsSound}
use Rattle.sk_recover.specs.Owning.{HoldOwn, LogsHoldTheirOwn}
use Rattle.sk_recover.specs.declared.opening.Opened.{Opened}
use Rattle.sk_run.specs.Ended.{ShowPrefixes}
use Rattle.sk_run.specs.Flushing.{SameNumbers}
use Rattle.sk_run.specs.declared.ended.Ended.{Ended}
use Rattle.sk_serial.specs.Showing.{Holds, GrowsBy, IsOnDisk, ShowsPrefix, ShowsSome, ShowsLater}
use Rattle.sk_serial.specs.Stored.{beginning}
use Rattle.sk_serial.proofs.Showing.{holds_none}

-- a selection is its own cut
selection_same : (p : Point) → p.commit ≡ false → p ≡ as_cut p
selection_same p is = ap (λ (c : Bool). record { a = p.a; b = p.b; commit = c }) is

-- the same numbers show the same
at_same : (catalog : List Table) (rows : Tables) (order : List Commit) (p q : Point) (image : Image) → SameNumbers p q → ShowsPrefix catalog rows order q image → ShowsPrefix catalog rows order p image
at_same catalog rows order p q image same h = record {
  opening = h.opening;
  stands = h.stands;
  is_catalog = h.is_catalog;
  is_cut = h.is_cut ∙ rw (same.0, same.1) refl;
  is_prefix = h.is_prefix ∙ rw (same.0, same.1) refl;
}

module _ (opened : Opened) (sound : IsSound opened) (law : LogsHoldTheirOwn) where
  -- where it was opened as this
  abbrev Starts : Opening → Type 0
  Starts o = IsOpened opened o × Owned (keeps Store opened.catalog) o.mem o.store × (o.cut ≡ as_cut opened.cut)

  starts : (image : Image) (is : IsOpenedAs opened image) → Starts is.opening
  starts image is =
      let own : HoldOwn opened.catalog is.opening.mem is.opening.store = subst (λ (c : List Table). HoldOwn c is.opening.mem is.opening.store) (sym is.is.catalog) (law image is.opening is.stands) in
      (is.is, record { of_mem = own.of_mem; of_store = own.of_store }, sym is.is.cut ∙ selection_same opened.cut sound.selection)

  -- an image that holds a front of the flushes shows the prefix at its last cut
  prefix_of : (order : List Commit) (fs front back : List Flush) (o : Opening) (image : Image) → Starts o → ShowPrefixes opened.catalog (beginning opened) fs order → fs ≡ front ++ back → Holds opened.cut front o image
      → ShowsPrefix opened.catalog opened.rows order (last_cut opened.cut front) image
  prefix_of order fs front back o image s shows are h = record {
    opening = h.opening;
    stands = h.stands;
    is_catalog = ap (λ (b : Base). b.catalog) h.base ∙ sym s.0.catalog;
    is_cut = h.cut;
    is_prefix = rw (h.base, h.mem, h.store) (shows front back are o.base.rows o.mem o.store s.0.rows s.1);
  }

  module _ {D : Type 0} (disk : Disk D) (begun : D) (x : Ended) (now : D) (cut : Point) (broken : Bool) (stands : AllImages disk (IsOpenedAs opened) begun) (e : IsOnDisk disk opened.catalog (beginning opened) begun x now cut broken) (tells : IsTrue disk.tells) where
    abbrev Shown : Image → Type 0
    Shown image = ShowsSome opened.catalog opened.rows x.order x.points image

    front_shows : (front back : List Flush) (o : Opening) (image : Image) → Starts o → e.flushes ++ e.tried ≡ front ++ back → Holds opened.cut front o image → Shown image
    front_shows front back o image s are h = record { at = last_cut opened.cut front; among = e.cuts front back are; shows = prefix_of x.order (e.flushes ++ e.tried) front back o image s e.prefixes are h }

    -- at each moment
    pub shows_prefixes : LeavesOnly disk Shown begun now
    shows_prefixes = stepped disk Shown (GrowsBy opened.cut (e.flushes ++ e.tried)) begun begun now
        (started disk Shown begun (λ image left.
        let is = stands image left in
        let s = starts image is in
        front_shows [] (e.flushes ++ e.tried) is.opening image s refl (holds_none opened.cut is.opening image is.stands s.2)))
        (e.shows.moments tells)
        (λ was image left grows.
        let is = stands was left in
        let s = starts was is in
        let f = grows is.opening is.stands s.2 in
        front_shows f.front f.back is.opening image s f.flushes_are f.holds)

    abbrev Later : Image → Type 0
    Later image = ShowsLater opened.catalog opened.rows x.order x.points cut image

    last_of : (o : Opening) (image : Image) → Starts o → Holds opened.cut e.flushes o image → ShowsPrefix opened.catalog opened.rows x.order cut image
    last_of o image s h = at_same opened.catalog opened.rows x.order cut (last_cut opened.cut e.flushes) image e.shows.last (prefix_of x.order (e.flushes ++ e.tried) e.flushes e.tried o image s e.prefixes refl h)

    tried_of : (o : Opening) (image : Image) → Starts o → Holds opened.cut (e.flushes ++ e.tried) o image → (b : Bool) → broken ≡ b → ShowsPrefix opened.catalog opened.rows x.order cut image ⊎ ((broken ≡ true) × Later image)
    unfolding front_shows
    tried_of o image s h false whole = inl (last_of o image s (subst (λ (fs : List Flush). Holds opened.cut fs o image) (ap (λ (fs : List Flush). e.flushes ++ fs) (e.shows.sure whole) ∙ append-nil e.flushes) h))
    tried_of o image s h true failed = inr (failed, record { some = front_shows (e.flushes ++ e.tried) [] o image s (sym (append-nil (e.flushes ++ e.tried))) h; later = e.shows.tries })

    -- at the end
    pub shows_last : (image : Image) → disk.may_leave now image → ShowsPrefix opened.catalog opened.rows x.order cut image ⊎ ((broken ≡ true) × Later image)
    shows_last image left =
        let from = e.shows.leaves tells image left in
        let is = stands from.0 from.1 in
        let s = starts from.0 is in
        ⊎_elim (λ (h : Holds opened.cut e.flushes is.opening image). inl (last_of is.opening image s h)) (λ (h : Holds opened.cut (e.flushes ++ e.tried) is.opening image). tried_of is.opening image s h broken refl)
        (from.2 is.opening is.stands s.2)
