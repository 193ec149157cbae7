-- What is read by table and key.
use Rattle.std.specs.Prelude.{◌≡◌, ℕ, zero, suc, ◌≤◌, ◌<◌, List, [], ◌∷◌, Option, Some, None, Result, Ok, Err, Bool, true, false, T, length, map, take, get_or, slice_get}
use Rattle.std.proofs.Common.{refl, sym, ap, subst, ◌∙◌, inl, inr, arith}
use Rattle.std.specs.List.{AllByRecursion}
use Rattle.std.specs.List.Sorted.{IsStrictlySortedBy}
use Rattle.std.specs.Map.{keys_of, lookup}
use Rattle.std.specs.Option.{unwrap_or}
use Rattle.std.specs.BTreeMap.{BTreeMap, is_at}
use Rattle.sk_rows.specs.declared.value.Value.{Value}
use Rattle.sk_rows.specs.declared.table.Column.{Column}
use Rattle.sk_rows.specs.declared.table.Table.{Table}
use Rattle.sk_rows.specs.Values.{value_cmp}
use Rattle.sk_model.specs.declared.label.Label.{Label}
use Rattle.sk_model.specs.declared.engine.EngineName.TheVariants.{Store}
use Rattle.sk_model.specs.declared.call.EngineFault.{EngineFault}
use Rattle.sk_model.specs.declared.call.EngineFault.TheVariants as fault
use Rattle.sk_model.specs.declared.call.EngineReply.{EngineReply}
use Rattle.sk_model.specs.declared.call.EngineReply.TheVariants as reply
use Rattle.sk_model.specs.declared.call.EngineReply.TheVariants.{Found, Fault, Rows}
use Rattle.sk_model.specs.Database.{KeyedRows, RowOf}
use Rattle.sk_model.specs.Engine.{engine_at}
use Rattle.sk_model.specs.Names.{columns_at}
use Rattle.sk_model.specs.Resembling.{RowFits}
use Rattle.sk_model.proofs.Fitting.{fit}
use Rattle.sk_chain.specs.declared.version.Version.{Version}
use Rattle.sk_chain.specs.Chained.{Chained}
use Rattle.sk_chain.specs.Promise.{refused, replied}
use Rattle.sk_chain.specs.Reading.{Sight, Sees, Waits, found, found_over, last_upto}
use Rattle.sk_engine.specs.Rows.{AreRows, Chains, GivesReply, IsRow, IsScan, Scans, reading, row_in, sighted}
use Rattle.sk_store.specs.declared.head.Head.{Head}
use Rattle.sk_store.specs.declared.head.Sight.TheVariants.{Stamped}
use Rattle.sk_store.specs.Cells.{Cells}
use Rattle.sk_store.specs.Heads.{bare, no_head, top_of}
use Rattle.sk_store.specs.Maps.{Shows, head_at, head_of}
use Rattle.sk_store.specs.Reads.{IsRowOf}
use Rattle.sk_store.specs.Scanning.{AreRowsOf, HasRead, ScansRows, waits_for, with_sights}
use Rattle.sk_store.specs.Shown.{MayBe, RowShows}
use Rattle.sk_store.specs.Writes.{IsSmallRow}
use Rattle.sk_store.proofs.Acts.{none_bare, none_seen}
use Rattle.sk_store.proofs.Mapping.{no_heads}
use Rattle.sk_store.proofs.Readings.{gives, reading_is}
use Rattle.sk_store.proofs.Scans.{entry_found, sorted_is, stopped_scan, waits, whole_scan}

-- ---- tables by number

pub columns_here : (tables : List Table) (t : ℕ) (tab : Table) → slice_get tables t ≡ Some tab → columns_at tables t ≡ tab.columns
columns_here [] t tab e = absurd cc
columns_here (x ∷ xs) zero tab e = let is : x ≡ tab = cc in ap (λ y. y.columns) is
columns_here (x ∷ xs) (suc t) tab e = columns_here xs t tab e

pub table_past : {X : Type 0} (xs : List X) (t : ℕ) → slice_get xs t ≡ None → length xs ≤ t
table_past [] t e = omega arith
table_past (x ∷ xs) zero e = absurd cc
table_past (x ∷ xs) (suc t) e = let le = table_past xs t e in omega arith

-- ---- rows that fit

pub fits_of : (tables : List Table) (t : ℕ) (key : Value) (row : Option RowOf) → MayBe (columns_at tables t) key row → RowFits tables t key row
fits_of tables t key None m = tt
fits_of tables t key (Some row) m = (fit (engine_at Store tables [] 0) t key row).1 m

pub may_of : (tables : List Table) (t : ℕ) (key : Value) (row : Option RowOf) → RowFits tables t key row → MayBe (columns_at tables t) key row
may_of tables t key None f = tt
may_of tables t key (Some row) f = (fit (engine_at Store tables [] 0) t key row).0 f

pub small_of : (tables : List Table) (t : ℕ) (key : Value) (row : Option RowOf) → RowFits tables t key row → IsSmallRow row
small_of tables t key None f = tt
small_of tables t key (Some row) f = let m = may_of tables t key (Some row) f in (m.0.short, m.0.room)

row_of_reply : (tables : List Table) (t : ℕ) (key : Value) (x : Sight) (result : Result (Option RowOf) EngineFault) → IsRowOf (columns_at tables t) key (sighted x) (replied Found result) → IsRow tables t key (sighted x) (replied Found result)
row_of_reply tables t key (Sees v) (Ok row) m = fits_of tables t key row m
row_of_reply tables t key (Waits by) (Ok row) m = absurd m
row_of_reply tables t key (Sees v) (Err fault.NoMemory) m = absurd m
row_of_reply tables t key (Sees v) (Err fault.Device) m = absurd m
row_of_reply tables t key (Sees v) (Err (fault.Busy by)) m = absurd m
row_of_reply tables t key (Sees v) (Err (fault.Old a b)) m = absurd m
row_of_reply tables t key (Sees v) (Err (fault.Conflict by why)) m = absurd m
row_of_reply tables t key (Waits o) (Err fault.NoMemory) m = absurd m
row_of_reply tables t key (Waits o) (Err fault.Device) m = absurd m
row_of_reply tables t key (Waits o) (Err (fault.Busy by)) m = absurd m
row_of_reply tables t key (Waits o) (Err (fault.Old a b)) m = absurd m
row_of_reply tables t key (Waits o) (Err (fault.Conflict by why)) m = absurd m

reply_like : (told : Bool) (before now : ℕ) (L M : Type 0) (due : EngineReply) (reply : Option EngineReply) → (L → M) → GivesReply told before now L due reply → GivesReply told before now M due reply
reply_like told before now L M due None f g = tt
reply_like told before now L M due (Some r) f (inl g) = inl g
reply_like told before now L M due (Some r) f (inr (inl g)) = inr (inl g)
reply_like told before now L M due (Some r) f (inr (inr g)) = inr (inr (g.0, f g.1))

-- what was read of a row of these columns is read of the table's row
pub gives_row : (told : Bool) (before now : ℕ) (tables : List Table) (t : ℕ) (key : Value) (columns : List Column) (x : Sight) (result : Result (Option RowOf) EngineFault) → columns_at tables t ≡ columns
    → GivesReply told before now (IsRowOf columns key (sighted x) (replied Found result)) (sighted x) (replied Found result) → GivesReply told before now (IsRow tables t key (sighted x) (replied Found result)) (sighted x) (replied Found result)
gives_row told before now tables t key columns x result e g =
    reply_like told before now (IsRowOf columns key (sighted x) (replied Found result)) (IsRow tables t key (sighted x) (replied Found result)) (sighted x) (replied Found result)
    (λ m. row_of_reply tables t key x result (subst (λ cs. IsRowOf cs key (sighted x) (replied Found result)) (sym e) m)) g

-- ---- a row without versions

module _ (told : Bool) (cells : Cells) (columns : List Column) (key : Value) (c : Chained) (by : Label) (s : ℕ) (shows : RowShows told cells columns key no_head c) where
  bare_reading : reading c by s ≡ Found (row_in (last_upto s c.settled))
  bare_reading = reading_is c no_head.holds by s shows.top

  bare_row : told ≡ true → row_in (last_upto s c.settled) ≡ None
  bare_row t = shows.holds t s ∙ none_seen s

  pub bare_found : told ≡ true → reading c by s ≡ Found None
  bare_found t = bare_reading ∙ ap Found (bare_row t)

  pub bare_free : (other : Label) → reading c by s ≡ Fault (fault.Busy other) → ⊥
  bare_free other e = absurd (let no : Found (row_in (last_upto s c.settled)) ≡ Fault (fault.Busy other) = sym bare_reading ∙ e in cc)

-- ---- what is shown of one row

module _ (told : Bool) (has : Cells → Type 0) (kept : List Table) (maps : List (BTreeMap Value Head)) (tables : List Table) (chains : Chains) (t : ℕ) (h : Shows told has kept maps tables chains) where
  pub columns_is : (tab : Table) → slice_get kept t ≡ Some tab → columns_at tables t ≡ tab.columns
  columns_is tab e = columns_here tables t tab (ap (λ ts. slice_get ts t) (sym h.catalog) ∙ e)

  pub row_shown : (tab : Table) (key : Value) (head : Head) → slice_get kept t ≡ Some tab → head ≡ head_at maps t key → RowShows told h.all.cells tab.columns key head (chains t key)
  row_shown tab key head e f = subst (λ g. RowShows told h.all.cells tab.columns key g (chains t key)) (sym f) (subst (λ cs. RowShows told h.all.cells cs key (head_at maps t key) (chains t key)) (columns_is tab e) (h.all.rows t key))

  pub past_head : (key : Value) → slice_get kept t ≡ None → no_head ≡ head_at maps t key
  past_head key e =
      let past = table_past kept t e in
      let same = ap length h.catalog in
      let count = h.count in
      sym (no_heads maps t key (omega arith))

  bare_shown : (key : Value) → no_head ≡ head_at maps t key → RowShows told h.all.cells (columns_at tables t) key no_head (chains t key)
  bare_shown key e = subst (λ g. RowShows told h.all.cells (columns_at tables t) key g (chains t key)) (sym e) (h.all.rows t key)

  -- no row is read where there is no head
  pub none_read_at : (before now : ℕ) (key : Value) (by : Label) (s : ℕ) → no_head ≡ head_at maps t key
      → GivesReply told before now (IsRow tables t key (reading (chains t key) by s) (Some (Found None))) (reading (chains t key) by s) (Some (Found None))
  none_read_at before now key by s e = go told refl
    where
      r : RowShows told h.all.cells (columns_at tables t) key no_head (chains t key)
      r = bare_shown key e

      go : (b : Bool) → told ≡ b → GivesReply told before now (IsRow tables t key (reading (chains t key) by s) (Some (Found None))) (reading (chains t key) by s) (Some (Found None))
      go true f = inr (inl (bare_found told h.all.cells (columns_at tables t) key (chains t key) by s r f))
      go false f = inr (inr (f, subst (λ d. IsRow tables t key d (Some (Found None))) (sym (bare_reading told h.all.cells (columns_at tables t) key (chains t key) by s r)) tt))

  -- no rows are read where there are no heads
  pub nothing_scanned : (before now : ℕ) (by : Label) (s : ℕ) (rows : KeyedRows) → ((key : Value) → no_head ≡ head_at maps t key) → rows ≡ [] → Scans told before now tables t (λ q. reading (chains t q) by s) (Some (Rows rows))
  nothing_scanned before now by s rows e none = subst (λ rs. Scans told before now tables t (λ q. reading (chains t q) by s) (Some (Rows rs))) (sym none) (go told refl)
    where
      free : (q : Value) (other : Label) → reading (chains t q) by s ≡ Fault (fault.Busy other) → ⊥
      free q other f = bare_free told h.all.cells (columns_at tables t) q (chains t q) by s (bare_shown q (e q)) other f

      go : (b : Bool) → told ≡ b → Scans told before now tables t (λ q. reading (chains t q) by s) (Some (Rows []))
      go true f = inr (inl (tt, λ q. bare_found told h.all.cells (columns_at tables t) q (chains t q) by s (bare_shown q (e q)) f))
      go false f = inr (inr (f, (tt, λ q other g. free q other g)))

-- ---- rows of a scan

rows_of_reply : (tables : List Table) (t : ℕ) (sight : Value → Sight) (reply : EngineReply) → AreRowsOf (columns_at tables t) sight reply → AreRows tables t (λ q. sighted (sight q)) reply
rows_of_reply tables t sight (Rows rows) a = (all rows a.0, a.1)
  where
    all : (rows : KeyedRows) → AllByRecursion (λ (r : Value × RowOf). MayBe (columns_at tables t) r.0 (Some r.1)) rows → AllByRecursion (λ (r : Value × RowOf). RowFits tables t r.0 (Some r.1)) rows
    all [] h = tt
    all (r ∷ rs) h = (fits_of tables t r.0 (Some r.1) h.0, all rs h.1)
rows_of_reply tables t sight reply.Done a = absurd a
rows_of_reply tables t sight (Found row) a = absurd a
rows_of_reply tables t sight (reply.Number n) a = absurd a
rows_of_reply tables t sight (reply.Commits cs) a = absurd a
rows_of_reply tables t sight (Fault f) a = absurd a

pub scans_as : (told : Bool) (before now : ℕ) (tables : List Table) (t : ℕ) (columns : List Column) (sight : Value → Sight) (reply : Option EngineReply) → columns_at tables t ≡ columns
    → ScansRows told before now columns sight reply → Scans told before now tables t (λ q. sighted (sight q)) reply
scans_as told before now tables t columns sight None e g = tt
scans_as told before now tables t columns sight (Some r) e (inl g) = inl g
scans_as told before now tables t columns sight (Some r) e (inr (inl g)) = inr (inl g)
scans_as told before now tables t columns sight (Some r) e (inr (inr g)) = inr (inr (g.0, rows_of_reply tables t sight r (subst (λ cs. AreRowsOf cs sight r) (sym e) g.1)))

-- ---- a table's rows, one after another

module _ (told : Bool) (before now : ℕ) (cells : Cells) (columns : List Column) (entries : List (Value × Head)) (chain : Value → Chained) (by : Label) (s : ℕ)
    (shows : (q : Value) → RowShows told cells columns q (head_of entries q) (chain q)) (order : IsStrictlySortedBy value_cmp (keys_of entries)) where
  abbrev pub sight : Value → Sight
  sight q = found (chain q) by s

  bare_at : (q : Value) → lookup (is_at (value_cmp q)) entries ≡ None → RowShows told cells columns q no_head (chain q)
  bare_at q e = subst (λ g. RowShows told cells columns q g (chain q)) (ap (λ o. unwrap_or o no_head) e) (shows q)

  none_waits : (q : Value) → lookup (is_at (value_cmp q)) entries ≡ None → waits (sight q) ≡ None
  none_waits q e = ap (λ top. waits (found_over by s top (last_upto s (chain q).settled))) (none_bare (chain q).top (bare_at q e).top)

  none_found : told ≡ true → (q : Value) → lookup (is_at (value_cmp q)) entries ≡ None → sighted (sight q) ≡ Found None
  none_found t q e = bare_found told cells columns q (chain q) by s (bare_at q e) t

  -- the head of an entry shows the versions of its row
  pub entry_shows : (n : ℕ) (d : Value × Head) → n < length entries → d ≡ get_or entries n d → RowShows told cells columns d.0 d.1 (chain d.0)
  entry_shows n d l e = subst (λ g. RowShows told cells columns d.0 g (chain d.0)) (ap (λ o. unwrap_or o no_head) (entry_found entries (sorted_is entries order) n d l e)) (shows d.0)

  pub end_scan : (rows : KeyedRows) → HasRead told columns (with_sights sight entries) rows → ScansRows told before now columns sight (Some (Rows rows))
  end_scan rows h = whole_scan told before now columns sight entries order none_waits none_found rows h

  pub stop_scan : (n : ℕ) (d : Value × Head) (then : ℕ) (f : EngineFault) → n < length entries → d ≡ get_or entries n d → waits_for (with_sights sight (take n entries)) ≡ None → before ≤ then
      → GivesReply told then now (IsRowOf columns d.0 (sighted (sight d.0)) (refused f)) (sighted (sight d.0)) (refused f) → ScansRows told before now columns sight (refused f)
  stop_scan n d then f l e free le g = stopped_scan told before now columns sight entries order none_waits none_found n d then f l e free le g
