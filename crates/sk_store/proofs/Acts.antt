-- What a head shows when its version is closed, stamped or dropped, and when older versions are given up.
use Rattle.std.specs.Prelude.{◌≡◌, ℕ, ◌≤◌, List, [], ◌∷◌, ◌++◌, Option, Some, None, Bool, true, false, cond, nat_le}
use Rattle.std.proofs.Common.{refl, sym, ap, subst, ◌∙◌, arith}
use Rattle.std.proofs.lemmas.Bool.{leb-true, le-leb}
use Rattle.sk_rows.specs.declared.value.Value.{Value}
use Rattle.sk_rows.specs.declared.table.Column.{Column}
use Rattle.sk_model.specs.declared.label.Label.{Label}
use Rattle.sk_model.specs.Database.{RowOf}
use Rattle.sk_model.specs.EngineReplies.{last_in}
use Rattle.sk_chain.specs.declared.version.Version.{Version}
use Rattle.sk_chain.specs.declared.version.VersionState.{VersionState}
use Rattle.sk_chain.specs.declared.version.VersionState.TheVariants.{Open, Closed, Stamped}
use Rattle.sk_chain.specs.Chained.{Chained}
use Rattle.sk_chain.specs.Reading.{is_upto, last_upto}
use Rattle.sk_chain.specs.Writing.{past_of}
use Rattle.sk_chain.specs.Changing.{behind, closed_state, is_closed, stamped_on, with_state}
use Rattle.sk_undo.specs.Log.{Log, row_in as row_at, row_seen}
use Rattle.sk_undo.proofs.Places.{at_end}
use Rattle.sk_engine.specs.declared.act.Act.{Act}
use Rattle.sk_engine.specs.declared.act.Act.TheVariants as act
use Rattle.sk_engine.specs.Rows.{AgreeFrom, acted, row_in}
use Rattle.sk_engine.specs.Stands.{state_by}
use Rattle.sk_engine.proofs.Changing.{last_end, upto_end}
use Rattle.sk_store.specs.declared.head.Head.{Head}
use Rattle.sk_store.specs.declared.head.Spot.{Spot}
use Rattle.sk_store.specs.declared.head.Stamp.{Stamp}
use Rattle.sk_store.specs.declared.head.Holds.{Holds}
use Rattle.sk_store.specs.declared.head.Holds.TheVariants.{Settled, Pending, Dropped}
use Rattle.sk_store.specs.Cells.{Cells}
use Rattle.sk_store.specs.Heads.{acted_head, acted_holds, acted_newest, bare, bare_version, forgotten, last_of, no_head, number_of, settled_number, top_of}
use Rattle.sk_store.specs.Shown.{Finds, HoldsRow, IsCell, MayBe, RowShows, row_upto}
use Rattle.sk_store.proofs.Pushes.{past_bare}
use Rattle.sk_store.proofs.Readings.{holds_as}

abbrev by_or : Label → Option Version → Label
by_or by None = by
by_or by (Some v) = v.by

abbrev state_or : VersionState → Option Version → VersionState
state_or state None = state
state_or state (Some v) = v.state

pub none_bare : (o : Option Version) → bare o ≡ None → o ≡ None
none_bare None e = refl
none_bare (Some v) e = absurd cc

module _ (told : Bool) (cells : Cells) (columns : List Column) (key : Value) where
  abbrev Shows : Head → Chained → Type 0
  Shows = RowShows told cells columns key

  -- no version is open or closed
  resting : (h : Head) (x : Holds) (settled : List Version) (top : Option Version) → bare top ≡ None → (a : Act)
      → acted_head a h ≡ h → Shows h (record { settled = settled; top = top }) → Shows (acted_head a h) (acted a (record { settled = settled; top = top }))
  resting h x settled None e (act.Close f) same s = subst (λ g. Shows g (record { settled = settled; top = None })) (sym same) s
  resting h x settled None e (act.Stamp n) same s = subst (λ g. Shows g (record { settled = settled; top = None })) (sym same) s
  resting h x settled None e act.Void same s = subst (λ g. Shows g (record { settled = settled; top = None })) (sym same) s
  resting h x settled (Some v) e a same s = absurd cc

  module _ (cell : Option Spot) (newest : Option Stamp) (older : Option ℕ) (undo : Log) (by : Label) (settled : List Version) (v : Version) where
    abbrev head_with : Holds → Option Stamp → Head
    head_with holds stamp = record { cell = cell; holds = holds; newest = stamp; older = older; undo = undo }

    abbrev chain : Chained
    chain = record { settled = settled; top = Some v }

    dropped : (floor : Option ℕ) → Shows (head_with (Pending by floor) newest) chain → Shows (head_with Dropped newest) (record { settled = settled; top = None })
    dropped floor s = record { top = refl; last = s.last; fit = s.fit; holds = λ t. (s.holds t).1 }

    closing : (floor : Option ℕ) (new : ℕ) (then : Option ℕ) → closed_state new (state_by floor) ≡ state_by then → Shows (head_with (Pending by floor) newest) chain
        → Shows (head_with (Pending by then) newest) (record { settled = settled; top = Some (with_state (closed_state new v.state) v) })
    closing floor new then e s = record {
      top =
          let is : Some (bare_version v.by v.state) ≡ Some (bare_version by (state_by floor)) = s.top in
          let who : v.by ≡ by = ap (by_or by) is in
          let state : v.state ≡ state_by floor = ap (state_or Open) is in
          ap (λ b. Some (bare_version b (closed_state new v.state))) who ∙ ap (λ z. Some (bare_version by (closed_state new z))) state ∙ ap (λ z. Some (bare_version by z)) e;
      last = s.last;
      fit = s.fit;
      holds = s.holds;
    }

    stamping : (floor n : ℕ) → Shows (head_with (Pending by (Some floor)) newest) chain → Shows (head_with Settled (Some (record { by = by; n = n }))) (behind settled n v)
    stamping floor n s = record {
      top = refl;
      last =
          let is : Some (bare_version v.by v.state) ≡ Some (bare_version by (Closed floor)) = s.top in
          let who : v.by ≡ by = ap (by_or by) is in
          ap bare (last_end None settled (with_state (Stamped n) v)) ∙ ap (λ b. Some (bare_version b (Stamped n))) who;
      fit = s.fit;
      holds = λ t. (
        record { by = by; n = n },
        v.row,
        refl,
        (s.holds t).0,
        λ z. upto_end z None None settled (with_state (Stamped n) v) ∙ ap (λ r. cond (nat_le n z) v.row r) ((s.holds t).1 z),
      );
    }

    state_is : (floor : Option ℕ) → Shows (head_with (Pending by floor) newest) chain → v.state ≡ state_by floor
    state_is floor s = let is : Some (bare_version v.by v.state) ≡ Some (bare_version by (state_by floor)) = s.top in ap (state_or Open) is

    pending : (floor : Option ℕ) (a : Act) → Shows (head_with (Pending by floor) newest) chain → Shows (acted_head a (head_with (Pending by floor) newest)) (acted a chain)
    pending floor act.Void s = dropped floor s
    pending None (act.Close new) s = closing None new (Some new) refl s
    pending (Some f) (act.Close new) s = closing (Some f) new (Some f) refl s
    pending None (act.Stamp n) s = subst (λ b. Shows (head_with (Pending by None) newest) (cond b (behind settled n v) chain)) (sym (ap is_closed (state_is None s))) s
    pending (Some f) (act.Stamp n) s = subst (λ b. Shows (head_with Settled (Some (record { by = by; n = n }))) (cond b (behind settled n v) chain)) (sym (ap is_closed (state_is (Some f) s))) (stamping f n s)

  acts_as : (cell : Option Spot) (holds : Holds) (newest : Option Stamp) (older : Option ℕ) (undo : Log) (settled : List Version) (top : Option Version) (a : Act)
      → Shows (record { cell = cell; holds = holds; newest = newest; older = older; undo = undo }) (record { settled = settled; top = top })
      → Shows (acted_head a (record { cell = cell; holds = holds; newest = newest; older = older; undo = undo })) (acted a (record { settled = settled; top = top }))
  acts_as cell Settled newest older undo settled top a s = resting (record { cell = cell; holds = Settled; newest = newest; older = older; undo = undo }) Settled settled top s.top a refl s
  acts_as cell Dropped newest older undo settled top a s = resting (record { cell = cell; holds = Dropped; newest = newest; older = older; undo = undo }) Dropped settled top s.top a refl s
  acts_as cell (Pending by floor) newest older undo settled None a s = absurd (let no = s.top in cc)
  acts_as cell (Pending by floor) newest older undo settled (Some v) a s = pending cell newest older undo by settled v floor a s

  pub act_shows : (h : Head) (c : Chained) (a : Act) → Shows h c → Shows (acted_head a h) (acted a c)
  act_shows h c a s = acts_as h.cell h.holds h.newest h.older h.undo c.settled c.top a s

-- ---- older versions are given up

pub itself : (u : ℕ) (c : Chained) → AgreeFrom u c c
itself u c = record { top = refl; reads = λ s l. refl; last = λ s l. refl }

-- another chain, of which readers and writers from the number on find the same, and which the head shows
pub record Forgot (told : Bool) (cells : Cells) (columns : List Column) (key : Value) (upto : ℕ) (h : Head) (c : Chained) : Type 0 where
  pub then : Chained
  pub agrees : AgreeFrom upto c then
  pub shows : RowShows told cells columns key h then

pub none_seen : (s : ℕ) → row_seen [] None s ≡ None
none_seen s = ap (row_at []) (at_end [] s)

one_upto : (s : ℕ) (v : Version) → row_in (last_in None (cond (is_upto s v.state) (v ∷ []) [])) ≡ cond (is_upto s v.state) v.row None
one_upto s v = go (is_upto s v.state)
  where
    go : (b : Bool) → row_in (last_in None (cond b (v ∷ []) [])) ≡ cond b v.row None
    go true = refl
    go false = refl

module _ (cells : Cells) (columns : List Column) (key : Value) (upto : ℕ) (cell : Option Spot) (x : Stamp) (older : Option ℕ) (undo : Log) (c : Chained) where
  abbrev settled_head : Option ℕ → Log → Head
  settled_head o l = record { cell = cell; holds = Settled; newest = Some x; older = o; undo = l }

  -- of the cell's version alone
  alone : RowShows true cells columns key (settled_head older undo) c → x.n ≤ upto → Forgot true cells columns key upto (settled_head None []) c
  alone s low =
      let k = s.holds refl in
      let same : Some x ≡ Some k.0 = k.2 in
      let is : x ≡ k.0 = cc in
      let v : Version = record { by = x.by; state = Stamped x.n; row = k.1 } in
      record {
        then = record { settled = v ∷ []; top = None };
        agrees = record {
          top = sym (none_bare c.top s.top);
          reads = λ z l.
              one_upto z v ∙ ap (λ b. cond b k.1 None) (le-leb _ _ (let m : x.n ≤ z = omega arith in m))
              ∙ sym (k.4 z ∙ ap (λ m. cond (nat_le m z) k.1 (row_seen undo older z)) (ap (λ y. y.n) (sym is)) ∙ ap (λ b. cond b k.1 (row_seen undo older z)) (le-leb _ _ (let m : x.n ≤ z = omega arith in m)));
          last = λ z l. past_bare z (Some v) ∙ ap (past_of z) (sym s.last) ∙ sym (past_bare z (last_in None c.settled));
        };
        shows = record {
          top = refl;
          last = refl;
          fit = λ at. tt;
          holds = λ t. (x, k.1, refl, k.3, λ z. one_upto z v ∙ ap (λ r. cond (nat_le x.n z) k.1 r) (sym (none_seen z)));
        };
      }

  untold : RowShows false cells columns key (settled_head older undo) c → Forgot false cells columns key upto (settled_head None []) c
  untold s = record { then = c; agrees = itself upto c; shows = record { top = s.top; last = s.last; fit = λ at. tt; holds = λ t. absurd cc } }

  settled_forgets : (told : Bool) → RowShows told cells columns key (settled_head older undo) c → x.n ≤ upto → Forgot told cells columns key upto (settled_head None []) c
  settled_forgets true s low = alone s low
  settled_forgets false s low = untold s

module _ (told : Bool) (cells : Cells) (columns : List Column) (key : Value) (upto : ℕ) where
  kept : (h : Head) (c : Chained) → RowShows told cells columns key h c → Forgot told cells columns key upto h c
  kept h c s = record { then = c; agrees = itself upto c; shows = s }

  forgets_as : (cell : Option Spot) (holds : Holds) (newest : Option Stamp) (older : Option ℕ) (undo : Log) (c : Chained)
      → RowShows told cells columns key (record { cell = cell; holds = holds; newest = newest; older = older; undo = undo }) c
      → Forgot told cells columns key upto (forgotten upto (record { cell = cell; holds = holds; newest = newest; older = older; undo = undo })) c
  forgets_as cell Dropped newest older undo c s = kept _ c s
  forgets_as cell (Pending by floor) newest older undo c s = kept _ c s
  forgets_as cell Settled None older undo c s = kept _ c s
  forgets_as cell Settled (Some x) older undo c s = go (nat_le x.n upto) refl
    where
      go : (b : Bool) → nat_le x.n upto ≡ b → Forgot told cells columns key upto
          (cond b (record { cell = cell; holds = Settled; newest = Some x; older = None; undo = [] }) (record { cell = cell; holds = Settled; newest = Some x; older = older; undo = undo })) c
      go true e = settled_forgets cells columns key upto cell x older undo c told s (leb-true _ _ e)
      go false e = kept _ c s

  pub forget_shows : (h : Head) (c : Chained) → RowShows told cells columns key h c → Forgot told cells columns key upto (forgotten upto h) c
  forget_shows h c s = forgets_as h.cell h.holds h.newest h.older h.undo c s
