-- What the calls on one row leave of all that is shown.
use Rattle.std.specs.Prelude.{◌≡◌, ℕ, ◌<◌, List, Option, Some, None, Result, Ok, Err, Bool, true, false, cond, length}
use Rattle.std.proofs.Common.{refl, sym, ap, subst, ◌∙◌}
use Rattle.std.specs.BTreeMap.{BTreeMap}
use Rattle.std.proofs.lemmas.Bool.{cond-true, cond-false}
use Rattle.sk_outside.specs.Causes.{Rose}
use Rattle.sk_rows.specs.declared.value.Value.{Value}
use Rattle.sk_rows.specs.declared.table.Column.{Column}
use Rattle.sk_rows.specs.declared.table.Table.{Table}
use Rattle.sk_model.specs.declared.label.Label.{Label}
use Rattle.sk_model.specs.declared.call.EngineFault.{EngineFault}
use Rattle.sk_model.specs.declared.call.EngineFault.TheVariants as fault
use Rattle.sk_model.specs.Database.{RowOf}
use Rattle.sk_model.specs.Names.{columns_at}
use Rattle.sk_chain.specs.Chained.{Chained}
use Rattle.sk_chain.specs.Changing.{pushed}
use Rattle.sk_engine.specs.declared.act.Act.{Act}
use Rattle.sk_engine.specs.Rows.{AgreeFrom, Chains, ChainsAgree, Pushed, acted, is_row_id, with_chain}
use Rattle.sk_engine.proofs.RowIds.{row_id_is}
use Rattle.sk_store.specs.declared.head.Head.{Head}
use Rattle.sk_store.specs.declared.head.Spot.{Spot}
use Rattle.sk_store.specs.declared.head.Holds.{Holds}
use Rattle.sk_store.specs.declared.head.Holds.TheVariants.{Settled, Pending, Dropped}
use Rattle.sk_store.specs.Cells.{Cells}
use Rattle.sk_store.specs.Heads.{acted_head, forgotten, settled_number, is_upto, top_of}
use Rattle.sk_store.specs.Maps.{Shows, head_at, is_at_row}
use Rattle.sk_store.specs.Shown.{RowShows, ShowsAll, row_id}
use Rattle.sk_store.specs.Writes.{Left, RowPushed, Wrote}
use Rattle.sk_store.proofs.Acts.{Forgot, act_shows, forget_shows, itself}
use Rattle.sk_store.proofs.Lifting.{IsUsed, changed_all, here_row, row_used, same_row, written_all}
use Rattle.sk_store.proofs.Readings.{holds_as}

abbrev Maps : Type 0
Maps = List (BTreeMap Value Head)

-- a version that was written is in a cell that is in use
used_of : (told : Bool) (after : Cells) (columns : List Column) (key : Value) (h : Head) (c : Chained) (by : Label) (row : Option RowOf) → RowShows told after columns key h (pushed c by row) → told ≡ true → IsUsed after h.cell
used_of told after columns key h c by row s t = go h.holds refl
  where
    go : (x : Holds) → h.holds ≡ x → IsUsed after h.cell
    go Settled e = absurd (let no = s.top ∙ ap top_of e in cc)
    go Dropped e = absurd (let no = s.top ∙ ap top_of e in cc)
    go (Pending other floor) e = row_used after h.cell _ (holds_as told after columns key h (pushed c by row) s t (Pending other floor) e).0.0

-- the chain of a row put where it is
same_chains : (chains : Chains) (u : ℕ) (key : Value) → with_chain chains (row_id u key) (chains u key) ≡ chains
same_chains chains u key = λ i t k. at t k i
  where
    at : (t : ℕ) (k : Value) → with_chain chains (row_id u key) (chains u key) t k ≡ chains t k
    at t k = go (is_row_id t k (row_id u key)) refl
      where
        go : (b : Bool) → is_row_id t k (row_id u key) ≡ b → cond b (chains u key) (chains t k) ≡ chains t k
        go true e = let is = row_id_is t k (row_id u key) e in ap (λ n. chains n key) (sym is.0) ∙ ap (chains t) (sym is.1)
        go false e = refl

module _ (told : Bool) (has then : Cells → Type 0) (kept : List Table) (maps new : Maps) (tables : List Table) (chains : Chains) (u : ℕ) (key : Value) (columns : List Column)
    (h : Shows told has kept maps tables chains) (same_columns : columns_at tables u ≡ columns) (len : length new ≡ length maps)
    (off : (t : ℕ) (k : Value) → is_at_row t k u key ≡ false → head_at new t k ≡ head_at maps t k) where
  abbrev RowIs : Cells → Chained → Type 0
  RowIs cells c = RowShows told cells columns key (head_at new u key) c

  at_table : (cells : Cells) (c : Chained) → RowIs cells c → RowShows told cells (columns_at tables u) key (head_at new u key) c
  at_table cells c r = subst (λ cs. RowShows told cells cs key (head_at new u key) c) (sym same_columns) r

  -- the head changed, over the same cells
  changed : (c : Chained) → then h.all.cells → (head_at new u key).cell ≡ (head_at maps u key).cell → RowIs h.all.cells c → Shows told then kept new tables (with_chain chains (row_id u key) c)
  changed c has_cells cell r = record {
    catalog = h.catalog;
    count = len ∙ h.count;
    all = changed_all told then (head_at maps) (head_at new) tables chains u key c (record { cells = h.all.cells; has_cells = has_cells; rows = h.all.rows; apart = h.all.apart }) cell off (at_table h.all.cells c r);
  }

  module _ {S : Type 0} (shows : S → List Table → Chains → Type 0) (rows : S) (shown : (c : Chains) → Shows told then kept new tables c → shows rows tables c) where
    left : (was : Option Spot) → was ≡ (head_at maps u key).cell → then h.all.cells × RowIs h.all.cells (chains u key) × ((head_at new u key).cell ≡ was) → shows rows tables chains
    left was e l = shown chains (subst (λ c. Shows told then kept new tables c) (same_chains chains u key) (changed (chains u key) l.0 (l.2 ∙ e) l.1))

  pub pushed_all : {S P : Type 0} (pages_have : P → Cells → Type 0) (pages : P) (before now : ℕ) (shows : S → List Table → Chains → Type 0) (rows : S)
      → ((cells : Cells) → pages_have pages cells → then cells) → ((c : Chains) → Shows told then kept new tables c → shows rows tables c)
      → (by : Label) (s : ℕ) (row : Option RowOf) (result : Result Bool EngineFault)
      → RowPushed pages_have told before now pages h.all.cells columns key (head_at maps u key).cell (head_at new u key) (chains u key) by s row result
      → Pushed shows before now rows tables chains (row_id u key) by s row result
  pushed_all pages_have pages before now shows rows have shown by s row (Ok first) w = (
    w.0,
    w.1,
    shown (with_chain chains (row_id u key) (pushed (chains u key) by row)) (record {
      catalog = h.catalog;
      count = len ∙ h.count;
      all =
          let wrote = w.2 in
          written_all told has then (head_at maps) (head_at new) tables chains u key (pushed (chains u key) by row) h.all wrote.0 wrote.3 wrote.4 off (have wrote.0 wrote.1)
          (at_table wrote.0 (pushed (chains u key) by row) wrote.2) (used_of told wrote.0 columns key (head_at new u key) (chains u key) by row wrote.2);
    }),
  )
  pushed_all pages_have pages before now shows rows have shown by s row (Err (fault.Conflict other why)) w = (w.0, left shows rows shown (head_at maps u key).cell refl (have h.all.cells w.1.0, w.1.1, w.1.2))
  pushed_all pages_have pages before now shows rows have shown by s row (Err fault.NoMemory) w = left shows rows shown (head_at maps u key).cell refl (have h.all.cells w.0, w.1, w.2)
  pushed_all pages_have pages before now shows rows have shown by s row (Err fault.Device) w = (w.0, left shows rows shown (head_at maps u key).cell refl (have h.all.cells w.1.0, w.1.1, w.1.2))
  pushed_all pages_have pages before now shows rows have shown by s row (Err (fault.Old a b)) w = absurd w
  pushed_all pages_have pages before now shows rows have shown by s row (Err (fault.Busy other)) w = absurd w

-- ---- a head that is made another by f

module _ (told : Bool) (has : Cells → Type 0) (kept : List Table) (maps new : Maps) (tables : List Table) (chains : Chains) (u : ℕ) (key : Value)
    (h : Shows told has kept maps tables chains) (len : length new ≡ length maps) where
  made : (f : Head → Head) → ((g : Head) → (f g).cell ≡ g.cell) → ((t : ℕ) (k : Value) → head_at new t k ≡ cond (is_at_row t k u key) (f (head_at maps t k)) (head_at maps t k))
      → (c : Chained) → RowShows told h.all.cells (columns_at tables u) key (f (head_at maps u key)) c → Shows told has kept new tables (with_chain chains (row_id u key) c)
  made f cell is c r =
      let here : head_at new u key ≡ f (head_at maps u key) = is u key ∙ cond-true (is_at_row u key u key) (f (head_at maps u key)) (head_at maps u key) (here_row u key) in
      changed told has has kept maps new tables chains u key (columns_at tables u) h refl len
      (λ t k e. is t k ∙ cond-false (is_at_row t k u key) (f (head_at maps t k)) (head_at maps t k) e)
      c h.all.has_cells (ap (λ g. g.cell) here ∙ cell (head_at maps u key)) (subst (λ g. RowShows told h.all.cells (columns_at tables u) key g c) (sym here) r)

  pub acted_all : (a : Act) → ((t : ℕ) (k : Value) → head_at new t k ≡ cond (is_at_row t k u key) (acted_head a (head_at maps t k)) (head_at maps t k))
      → Shows told has kept new tables (with_chain chains (row_id u key) (acted a (chains u key)))
  acted_all a is = made (acted_head a) (λ g. refl) is (acted a (chains u key)) (act_shows told h.all.cells (columns_at tables u) key (head_at maps u key) (chains u key) a (h.all.rows u key))

  same_cell : (upto : ℕ) (g : Head) → (forgotten upto g).cell ≡ g.cell
  same_cell upto g = go (is_upto upto (settled_number g.holds g.newest))
    where
      go : (b : Bool) → (cond b (record g { older = None; undo = Rattle.std.specs.Prelude.[] }) g).cell ≡ g.cell
      go true = refl
      go false = refl

  pub forgot_all : (upto : ℕ) → ((t : ℕ) (k : Value) → head_at new t k ≡ cond (is_at_row t k u key) (forgotten upto (head_at maps t k)) (head_at maps t k))
      → (then : Chains) × ChainsAgree upto chains then × Shows told has kept new tables then
  forgot_all upto is = (with_chain chains (row_id u key) f.then, agrees, made (forgotten upto) (same_cell upto) is f.then f.shows)
    where
      f : Forgot told h.all.cells (columns_at tables u) key upto (forgotten upto (head_at maps u key)) (chains u key)
      f = forget_shows told h.all.cells (columns_at tables u) key upto (head_at maps u key) (chains u key) (h.all.rows u key)

      agrees : (t : ℕ) (k : Value) → AgreeFrom upto (chains t k) (with_chain chains (row_id u key) f.then t k)
      agrees t k = go (is_row_id t k (row_id u key)) refl
        where
          go : (b : Bool) → is_row_id t k (row_id u key) ≡ b → AgreeFrom upto (chains t k) (cond b f.then (chains t k))
          go true e =
              let at = row_id_is t k (row_id u key) e in
              subst (λ n. AgreeFrom upto (chains n k) f.then) (sym at.0) (subst (λ q. AgreeFrom upto (chains u q) f.then) (sym at.1) f.agrees)
          go false e = itself upto (chains t k)
