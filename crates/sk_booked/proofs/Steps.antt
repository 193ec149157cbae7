-- Each step on a word keeps the rule.
use Rattle.std.proofs.Common.{◌≡◌, ◌≢◌, ℕ, ◌+◌, ◌%◌, ◌^◌, ◌<◌, Bool, true, false, eqb, eqb-true, List, [], ◌∷◌, ◌++◌, length, set, get_or, Option, Some, None, refl, sym, ap, ◌∙◌, subst, arith}
use Rattle.std.proofs.lemmas.List.{set-get_or, length-append}
use mathlib.Core.Option.{some, none, Option as Home}
use prog.Atomic.{either}
use lib.ListN.{get_elem?}
use Rattle.atomic_table.specs.Table.{State, Me, step, Act, keeps, takes, gives, put_back, rest, stepped, Allows, Valid, carried_after}
use Rattle.atomic_table.proofs.Lists.{set_here, set_again}
use Rattle.sk_booked.specs.declared.view.Entry.{Entry}
use Rattle.sk_booked.specs.declared.view.Own.{Own}
use Rattle.sk_booked.specs.declared.view.Stage.{Stage}
use Rattle.sk_booked.specs.declared.view.Stage.TheVariants.{Idle, Opening, Holding}
use Rattle.sk_booked.specs.declared.view.View.{View}
use Rattle.sk_booked.specs.Paths.{Path, Born, entry, items_by, items_of}
use Rattle.sk_booked.specs.Kept.{is_busy, Moment, OwnFits, IsWriter, StageFits, LiveFits, Fits, AtHome, Kept}
use Rattle.sk_booked.specs.Plays.{either_way, with_seen, with_item, at_stage, with_own, Took, Locks, Opens, Counts, Frees}
use Rattle.sk_booked.proofs.Entries.{begins-is, begins-append, items_by-own, items_by-other, no_others, items_of-snoc, each-snoc, each-map, each-none, each_set, at_below}

-- the same log and passes, and another word of the lock
abbrev pub at_lock : {V E : Type 0} → Moment V E → ℕ → ℕ → List (Home (Option V)) → Moment V E
at_lock m lock writer homes = record { log = m.log; splits = m.splits; holder = m.holder; lock = lock; writer = writer; homes = homes }

-- one entry more
abbrev pub at_entry : {V E : Type 0} → Moment V E → Entry E → Moment V E
at_entry m e = record { log = m.log ++ e ∷ []; splits = m.splits; holder = m.holder; lock = m.lock; writer = m.writer; homes = m.homes }

module _ {V E : Type 0} (journal : V → List E) (ready : V → Type 0) (kin : V → V → Type 0) (start : V) where
  -- a pass that has not the lock may stand at any moment
  pub idle_fits : (m : Moment V E) (seat : ℕ) (seen : List (Entry E)) (stage : Stage V) → is_busy stage ≡ false → StageFits journal ready kin start m seat seen stage
  idle_fits m seat seen Idle e = tt
  idle_fits m seat seen (Opening x) e = cc
  idle_fits m seat seen (Holding x) e = cc

  elsewhere_idle : (m : Moment V E) (seat : ℕ) (seen : List (Entry E)) (stage : Stage V) → seat ≢ m.writer → StageFits journal ready kin start m seat seen stage → is_busy stage ≡ false
  elsewhere_idle m seat seen Idle ne h = refl
  elsewhere_idle m seat seen (Opening x) ne h = absurd (ne h.0.seat_is)
  elsewhere_idle m seat seen (Holding x) ne h = absurd (ne h.0.seat_is)

  unlocked_idle : (m : Moment V E) (seat : ℕ) (seen : List (Entry E)) (stage : Stage V) → m.lock ≡ 0 → StageFits journal ready kin start m seat seen stage → is_busy stage ≡ false
  unlocked_idle m seat seen Idle free h = refl
  unlocked_idle m seat seen (Opening x) free h = absurd (let l = h.0.locked in omega arith)
  unlocked_idle m seat seen (Holding x) free h = absurd (let l = h.0.locked in omega arith)

  opening_fits : (m : Moment V E) (seat : ℕ) (seen : List (Entry E)) (stage : Stage V) (x : V) → stage ≡ Opening x → StageFits journal ready kin start m seat seen stage
      → IsWriter m seat seen × (x ≡ start) × (m.homes ≡ some None ∷ [])
  opening_fits m seat seen stage x is h = subst (StageFits journal ready kin start m seat seen) is h

  holding_fits : (m : Moment V E) (seat : ℕ) (seen : List (Entry E)) (stage : Stage V) (x : V) → stage ≡ Holding x → StageFits journal ready kin start m seat seen stage → IsWriter m seat seen × kin start x
  holding_fits m seat seen stage x is h = subst (StageFits journal ready kin start m seat seen) is h

  own_same : (m : Moment V E) (lock writer : ℕ) (homes : List (Home (Option V))) (seat : ℕ) (o : Own E) → OwnFits m seat o → OwnFits (at_lock m lock writer homes) seat o
  own_same m lock writer homes seat o h = record { held = h.held; splits_is = h.splits_is; born = h.born; items_are = h.items_are; seen = h.seen; all_seen = h.all_seen }

  -- a pass without the lock, where the word of the lock changes
  at_rest : (m : Moment V E) (lock writer : ℕ) (homes : List (Home (Option V))) (seat : ℕ) (u : View V E) → (u.live ≡ true → is_busy u.stage ≡ false) → Fits journal ready kin start m seat u
      → Fits journal ready kin start (at_lock m lock writer homes) seat u
  at_rest m lock writer homes seat u idle h = record {
    live = λ l. let g = h.live l in record { began = g.began; own = own_same m lock writer homes seat u.own g.own; stage = idle_fits (at_lock m lock writer homes) seat u.own.seen u.stage (idle l) };
    taken = each-map (OwnFits m seat) (OwnFits (at_lock m lock writer homes) seat) u.taken (own_same m lock writer homes seat) h.taken;
  }

  -- a pass that has seen the whole log
  own_saw : (m : Moment V E) (lock writer : ℕ) (homes : List (Home (Option V))) (seat : ℕ) (o : Own E) (seen : List (Entry E)) → seen ≡ m.log → OwnFits m seat o → OwnFits (at_lock m lock writer homes) seat (with_seen o seen)
  own_saw m lock writer homes seat o seen is h = record {
    held = h.held;
    splits_is = h.splits_is;
    born = h.born;
    items_are = h.items_are;
    seen = begins-is seen m.log is;
    all_seen = ap (items_by o.path) is ∙ h.items_are;
  }

  lock_word : (s : State (Option V) (View V E)) (k : Kept journal ready kin start s) → get_or s.words 0 0 ≡ k.now.lock
  lock_word s k = ap (λ (l : List ℕ). get_or l 0 0) k.words_are

  count_word : (s : State (Option V) (View V E)) (k : Kept journal ready kin start s) → get_or s.words 1 0 ≡ length (journal start ++ items_of k.now.log)
  count_word s k = ap (λ (l : List ℕ). get_or l 1 0) k.words_are

  -- nothing changed
  nothing : (s : State (Option V) (View V E)) (k : Kept journal ready kin start s) (ws : List ℕ) (vs : List (View V E)) → ws ≡ s.words → vs ≡ s.views → Kept journal ready kin start record { words = ws; homes = s.homes; views = vs }
  nothing s k ws vs w v = subst (λ (x : List ℕ × List (View V E)). Kept journal ready kin start record { words = x.0; homes = s.homes; views = x.1 }) (λ i. (sym w i, sym v i)) k

  module _ (s : State (Option V) (View V E)) (k : Kept journal ready kin start s) (id : ℕ) (v : View V E) (at : get_elem? s.views id ≡ some v) (live : v.live ≡ true) (alone : v.taken ≡ []) where
    abbrev g : LiveFits journal ready kin start k.now id v
    g = (k.each id v at).live live

    abbrev between : List (Entry E)
    between = g.own.seen.0

    abbrev whole : List (Entry E)
    whole = v.own.seen ++ between

    abbrev taken_out : List (Home (Option V))
    taken_out = set k.now.homes 0 none

    there : (w : View V E) → get_elem? (set s.views id w) id ≡ some w
    there w = set_here s.views id w (at_below s.views id v at)

    -- the lock is taken, and the value with it
    module _ (idle : is_busy v.stage ≡ false) (is_free : k.now.lock ≡ 0) where
      abbrev home : AtHome journal ready kin start k.now
      home = k.free is_free

      abbrev locked : Moment V E
      locked = at_lock k.now 1 id taken_out

      abbrev holder : View V E
      holder = with_own (at_stage v (Holding home.value)) (with_seen v.own whole)

      locker_fits : Fits journal ready kin start locked id holder
      locker_fits = record {
        live = λ l. record {
          began = g.began;
          own = own_saw k.now 1 id taken_out id v.own whole g.own.seen.1 g.own;
          stage = (record { locked = refl; seat_is = refl; whole = g.own.seen.1 }, home.is_kin);
        };
        taken = each-none (OwnFits locked id) v.taken alone;
      }

      pub lock_keeps : Kept journal ready kin start record { words = set s.words 0 1; homes = set s.homes 0 none; views = set s.views id holder }
      lock_keeps = record {
        now = locked;
        words_are = ap (λ (l : List ℕ). set l 0 1) k.words_are;
        homes_are = ap (λ (l : List (Home (Option V))). set l 0 none) k.homes_are;
        by_born = k.by_born;
        unborn = k.unborn;
        each = each_set (Fits journal ready kin start locked) s.views id holder locker_fits
            (λ seat u ne is. let h = k.each seat u is in at_rest k.now 1 id taken_out seat u (λ l. unlocked_idle k.now seat u.own.seen u.stage is_free (h.live l).stage) h);
        free = λ e. absurd (omega arith);
        held = λ _. record { who = holder; there = there holder; live = live; busy = refl };
      }

      pub lock_valid : get_elem? s.homes 0 ≡ some (some (Some home.value))
      lock_valid = ap (λ (l : List (Home (Option V))). get_elem? l 0) (sym k.homes_are ∙ home.home)

      pub lock_took : (slots : List (ℕ × Option V)) → slots ≡ [] → Took journal ready v (holder, (0, Some home.value) ∷ slots)
      lock_took slots empty = record {
        value = home.value;
        between = between;
        others = no_others v.own.path v.own.seen between k.now.log g.own.seen.1 (g.own.items_are ∙ sym g.own.all_seen);
        view_is = refl;
        slot_is = ap (λ (l : List (ℕ × Option V)). (0, Some home.value) ∷ l) empty;
        is_ready = home.is_ready;
        journal_is = home.journal_is ∙ (λ i. sym g.began i ++ items_of (sym g.own.seen.1 i));
      }

    -- the maker of the book takes the empty slot
    module _ (x : V) (opening : v.stage ≡ Opening x) (kin_self : (y : V) → kin y y) where
      abbrev o : IsWriter k.now id v.own.seen × (x ≡ start) × (k.now.homes ≡ some None ∷ [])
      o = opening_fits k.now id v.own.seen v.stage x opening g.stage

      abbrev opened : Moment V E
      opened = at_lock k.now k.now.lock k.now.writer taken_out

      abbrev opener : View V E
      opener = at_stage v (Holding x)

      opener_fits : Fits journal ready kin start opened id opener
      opener_fits = record {
        live = λ l. record {
          began = g.began;
          own = own_same k.now k.now.lock k.now.writer taken_out id v.own g.own;
          stage = (record { locked = o.0.locked; seat_is = o.0.seat_is; whole = o.0.whole }, subst (λ (y : V). kin y x) o.1 (kin_self x));
        };
        taken = each-none (OwnFits opened id) v.taken alone;
      }

      pub open_keeps : (ws : List ℕ) → ws ≡ s.words → Kept journal ready kin start record { words = ws; homes = set s.homes 0 none; views = set s.views id opener }
      open_keeps ws same = record {
        now = opened;
        words_are = same ∙ k.words_are;
        homes_are = ap (λ (l : List (Home (Option V))). set l 0 none) k.homes_are;
        by_born = k.by_born;
        unborn = k.unborn;
        each = each_set (Fits journal ready kin start opened) s.views id opener opener_fits
            (λ seat u ne is. let h = k.each seat u is in at_rest k.now k.now.lock k.now.writer taken_out seat u (λ l. elsewhere_idle k.now seat u.own.seen u.stage (λ e. ne (e ∙ sym o.0.seat_is)) (h.live l).stage) h);
        free = λ e. absurd (let l = o.0.locked in omega arith);
        held = λ _. record { who = opener; there = subst (λ (j : ℕ). get_elem? (set s.views id opener) j ≡ some opener) o.0.seat_is (there opener); live = live; busy = refl };
      }

      pub open_valid : get_elem? s.homes 0 ≡ some (some None)
      open_valid = ap (λ (l : List (Home (Option V))). get_elem? l 0) (sym k.homes_are ∙ o.2)

    -- a pass with the lock
    module _ (x : V) (holding : v.stage ≡ Holding x) where
      abbrev h : IsWriter k.now id v.own.seen × kin start x
      h = holding_fits k.now id v.own.seen v.stage x holding g.stage

      not_writer : (seat : ℕ) → seat ≢ id → seat ≢ k.now.writer
      not_writer seat ne e = ne (e ∙ sym h.0.seat_is)

      -- one entry more
      module _ (item : E) where
        abbrev q : Path
        q = v.own.path

        abbrev counted : Moment V E
        counted = at_entry k.now (entry q item)

        abbrev counter : View V E
        counter = with_own v (with_item v.own item)

        own_stays : (seat : ℕ) (o : Own E) → seat ≢ id → OwnFits k.now seat o → OwnFits counted seat o
        own_stays seat o ne f = record {
          held = f.held;
          splits_is = f.splits_is;
          born = f.born;
          items_are = items_by-other o.path q k.now.log item (λ same. ne (sym f.held ∙ (ap k.now.holder same ∙ g.own.held))) ∙ f.items_are;
          seen = begins-append o.seen k.now.log (entry q item ∷ []) f.seen;
          all_seen = f.all_seen;
        }

        stays : (seat : ℕ) (u : View V E) → seat ≢ id → Fits journal ready kin start k.now seat u → Fits journal ready kin start counted seat u
        stays seat u ne f = record {
          live = λ l. let y = f.live l in record { began = y.began; own = own_stays seat u.own ne y.own; stage = idle_fits counted seat u.own.seen u.stage (elsewhere_idle k.now seat u.own.seen u.stage (not_writer seat ne) y.stage) };
          taken = each-map (OwnFits k.now seat) (OwnFits counted seat) u.taken (λ o. own_stays seat o ne) f.taken;
        }

        saw : v.own.seen ++ entry q item ∷ [] ≡ k.now.log ++ entry q item ∷ []
        saw = ap (λ (l : List (Entry E)). l ++ entry q item ∷ []) h.0.whole

        counter_fits : Fits journal ready kin start counted id counter
        counter_fits = record {
          live = λ l. record {
            began = g.began;
            own = record {
              held = g.own.held;
              splits_is = g.own.splits_is;
              born = g.own.born;
              items_are = items_by-own q k.now.log item ∙ ap (λ (l : List E). l ++ item ∷ []) g.own.items_are;
              seen = begins-is (v.own.seen ++ entry q item ∷ []) (k.now.log ++ entry q item ∷ []) saw;
              all_seen = items_by-own q v.own.seen item ∙ ap (λ (l : List E). l ++ item ∷ []) g.own.all_seen;
            };
            stage = subst (StageFits journal ready kin start counted id (v.own.seen ++ entry q item ∷ [])) (sym holding) (record { locked = h.0.locked; seat_is = h.0.seat_is; whole = saw }, h.1);
          };
          taken = each-none (OwnFits counted id) v.taken alone;
        }

        pub count_keeps : (ws : List ℕ) → ws ≡ k.now.lock ∷ length (journal start ++ items_of (k.now.log ++ entry q item ∷ [])) ∷ [] → Kept journal ready kin start record { words = ws; homes = s.homes; views = set s.views id counter }
        count_keeps ws same = record {
          now = counted;
          words_are = same;
          homes_are = k.homes_are;
          by_born = each-snoc (λ (e : Entry E). Born k.now.splits e.by) k.now.log (entry q item) k.by_born g.own.born;
          unborn = k.unborn;
          each = each_set (Fits journal ready kin start counted) s.views id counter counter_fits (λ seat u ne is. stays seat u ne (k.each seat u is));
          free = λ e. absurd (let l = h.0.locked in omega arith);
          held = λ _. record { who = counter; there = subst (λ (j : ℕ). get_elem? (set s.views id counter) j ≡ some counter) h.0.seat_is (there counter); live = live; busy = ap is_busy holding };
        }

        pub count_is : length (journal start ++ items_of (k.now.log ++ entry q item ∷ [])) ≡ length (journal start ++ items_of k.now.log) + 1
        count_is = ap length (items_of-snoc (journal start) k.now.log q item) ∙ length-append (journal start ++ items_of k.now.log) (item ∷ [])

      -- the lock is given back, and the value with it
      module _ (y : V) (is_ready : ready y) (is_kin : (first : V) → kin first x → kin first y) (journal_is : journal y ≡ v.base ++ items_of v.own.seen) (homes : List (Home (Option V))) (home : homes ≡ some (Some y) ∷ []) where
        abbrev freed : Moment V E
        freed = at_lock k.now 0 k.now.writer homes

        abbrev rested : View V E
        rested = at_stage v Idle

        rested_fits : Fits journal ready kin start freed id rested
        rested_fits = record {
          live = λ l. record { began = g.began; own = own_same k.now 0 k.now.writer homes id v.own g.own; stage = tt };
          taken = each-none (OwnFits freed id) v.taken alone;
        }

        pub free_keeps : Kept journal ready kin start record { words = set s.words 0 0; homes = homes; views = set s.views id rested }
        free_keeps = record {
          now = freed;
          words_are = ap (λ (l : List ℕ). set l 0 0) k.words_are;
          homes_are = refl;
          by_born = k.by_born;
          unborn = k.unborn;
          each = each_set (Fits journal ready kin start freed) s.views id rested rested_fits
              (λ seat u ne is. let f = k.each seat u is in at_rest k.now 0 k.now.writer homes seat u (λ l. elsewhere_idle k.now seat u.own.seen u.stage (not_writer seat ne) (f.live l).stage) f);
          free = λ _. record {
            value = y;
            home = home;
            is_ready = is_ready;
            is_kin = is_kin start h.1;
            journal_is = journal_is ∙ (λ i. g.began i ++ items_of (h.0.whole i));
          };
          held = λ ne. absurd (ne refl);
        }

  abbrev Here : Type 0
  Here = Me (Option V) (View V E)

  pub locks : (slots id : ℕ) (me : Here) → me.0.live ≡ true → me.0.taken ≡ [] → is_busy me.0.stage ≡ false → me.1 ≡ []
      → Allows (Kept journal ready kin start) slots id me 0 (λ n. either (eqb n 0) 1 n) (Locks journal ready (step slots 0 0 1 none) me)
  locks slots id me live alone idle empty s k _ at _ = go (eqb (get_or s.words 0 0) 0) refl
    where
      n : ℕ
      n = get_or s.words 0 0

      go : (b : Bool) → eqb n 0 ≡ b → (w : View V E) × (a : Act (Option V)) × Valid s.homes me.1 a × Kept journal ready kin start (stepped s 0 (either b 1 n) id me.1 w a)
          × either_way b (Took journal ready me.0 (w, carried_after me.1 a)) ((w, carried_after me.1 a) ≡ me)
      go true hit =
          let is_free : k.now.lock ≡ 0 = sym (lock_word s k) ∙ eqb-true n 0 hit in (
            holder s k id me.0 at live alone idle is_free,
            takes 0 (Some (home s k id me.0 at live alone idle is_free).value),
            lock_valid s k id me.0 at live alone idle is_free,
            lock_keeps s k id me.0 at live alone idle is_free,
            lock_took s k id me.0 at live alone idle is_free me.1 empty,
          )
      go false miss = (me.0, keeps, tt, nothing s k (set s.words 0 n) (set s.views id me.0) (set-get_or s.words 0 0) (set_again s.views id me.0 at), refl)

  abbrev opened_value : V → Stage V → V
  opened_value x Idle = x
  opened_value x (Opening y) = y
  opened_value x (Holding y) = x

  pub opens : (slots id : ℕ) (me : Here) (x : V) → me.0.live ≡ true → me.0.taken ≡ [] → me.0.stage ≡ Opening x → me.1 ≡ [] → ((y : V) → kin y y)
      → Allows (Kept journal ready kin start) slots id me 0 (λ n. n) (Opens (step slots 0 0 0 none) me)
  opens slots id me x live alone opening empty kin_self s k _ at _ = (
    opener s k id me.0 at live alone x opening kin_self,
    takes 0 None,
    open_valid s k id me.0 at live alone x opening kin_self,
    open_keeps s k id me.0 at live alone x opening kin_self (set s.words 0 (get_or s.words 0 0)) (set-get_or s.words 0 0),
    λ y is. let same : x ≡ y = ap (opened_value x) (sym opening ∙ is) in λ i. (at_stage me.0 (Holding (same i)), (0, None) ∷ empty i),
  )

  abbrev pub slot_value : V → List (ℕ × Option V) → V
  slot_value x [] = x
  slot_value x ((n, None) ∷ rest) = x
  slot_value x ((n, Some y) ∷ rest) = y

  abbrev snoc_last : E → List E → E
  snoc_last x [] = x
  snoc_last x (y ∷ ys) = snoc_last y ys

  last-snoc : (z : E) (xs : List E) (x : E) → snoc_last z (xs ++ x ∷ []) ≡ x
  last-snoc z [] x = refl
  last-snoc z (y ∷ ys) x = last-snoc y ys x

  pub counts : (slots id : ℕ) (me : Here) (x y : V) (item : E) → me.0.live ≡ true → me.0.taken ≡ [] → me.0.stage ≡ Holding x → me.1 ≡ (0, Some y) ∷ [] → journal y ≡ (me.0.base ++ items_of me.0.own.seen) ++ item ∷ []
      → length (journal y) < 2 ^ 64 → Allows (Kept journal ready kin start) slots id me 1 (λ n. (n + 1) % 2 ^ 64) (Counts journal (step slots 1 1 0 none) me)
  counts slots id me x y item live alone holding slot is small s k _ at _ =
      let g = (k.each id me.0 at).live live in
      let w = holding_fits k.now id me.0.own.seen me.0.stage x holding g.stage in
      let n : ℕ = get_or s.words 1 0 in
      let there : journal y ≡ (journal start ++ items_of k.now.log) ++ item ∷ [] = is ∙ (λ i. (g.began i ++ items_of (w.0.whole i)) ++ item ∷ []) in
      let long : length (journal y) ≡ length (journal start ++ items_of k.now.log) + 1 = ap length there ∙ length-append (journal start ++ items_of k.now.log) (item ∷ []) in
      let was : n ≡ length (journal start ++ items_of k.now.log) = count_word s k in
      let up : (n + 1) % 2 ^ 64 ≡ length (journal start ++ items_of k.now.log) + 1 = omega arith in
      let next : (n + 1) % 2 ^ 64 ≡ length (journal start ++ items_of (k.now.log ++ entry me.0.own.path item ∷ [])) = up ∙ sym (count_is s k id me.0 at live alone x holding item) in (
        counter s k id me.0 at live alone x holding item,
        keeps,
        tt,
        count_keeps s k id me.0 at live alone x holding item (set s.words 1 ((n + 1) % 2 ^ 64)) (ap (λ (l : List ℕ). set l 1 ((n + 1) % 2 ^ 64)) k.words_are ∙ ap (λ (m : ℕ). k.now.lock ∷ m ∷ []) next),
        λ z it sl js.
            let same : y ≡ z = ap (slot_value y) (sym slot ∙ sl) in
            let one : item ≡ it = sym (last-snoc item (me.0.base ++ items_of me.0.own.seen) item) ∙ (ap (snoc_last item) (sym is ∙ (ap journal same ∙ js)) ∙ last-snoc item (me.0.base ++ items_of me.0.own.seen) it) in
            λ i. (with_own me.0 (with_item me.0.own (one i)), me.1),
      )

  set_only : (hs : List (Home (Option V))) (a : Home (Option V)) → length hs ≡ 1 → set hs 0 a ≡ a ∷ []
  set_only [] a e = absurd (omega arith)
  set_only (h ∷ []) a e = refl
  set_only (h ∷ (j ∷ js)) a e = absurd (omega arith)

  pub frees : (slots id : ℕ) (me : Here) (x y : V) → slots ≡ 1 → me.0.live ≡ true → me.0.taken ≡ [] → me.0.stage ≡ Holding x → me.1 ≡ (0, Some y) ∷ [] → ready y → journal y ≡ me.0.base ++ items_of me.0.own.seen
      → ((first : V) → kin first x → kin first y) → Allows (Kept journal ready kin start) slots id me 0 (λ _. 0) (Frees (step slots 0 0 0 none) me)
  frees slots id me x y one live alone holding slot is_ready is is_kin s k len at _ =
      let back : put_back s.homes me.1 ≡ some (Some y) ∷ [] = ap (put_back s.homes) slot ∙ set_only s.homes (some (Some y)) (len ∙ one) in (
        rested s k id me.0 at live alone x holding y is_ready is_kin is (put_back s.homes me.1) back,
        gives,
        tt,
        free_keeps s k id me.0 at live alone x holding y is_ready is_kin is (put_back s.homes me.1) back,
        λ i. (at_stage me.0 Idle, rest (slot i)),
      )
