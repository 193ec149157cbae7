-- Where the opening rows fit and each put fits, the rows that a read finds fit.
use Rattle.std.specs.Prelude.{ℕ, List, [], ◌∷◌, Option, Some, None, true, not, ◌&&◌, ◌≡◌, ◌<◌, ◌≤◌, length, map}
use Rattle.std.proofs.Common.{refl, sym, subst, ◌∙◌, ⊎_elim, arith}
use Rattle.std.specs.List.{filter}
use Rattle.std.specs.declared.cmp.Ordering.{Ordering}
use Rattle.std.specs.declared.cmp.Ordering.TheVariants.{Less, Equal, Greater}
use Rattle.std.specs.Ordering.{eq_by_cmp}
use Rattle.std.specs.FinMap.{find, put}
use Rattle.std.proofs.lemmas.Bool.{cases_lt, cases_eq, cond_both, cond-true, and_parts}
use Rattle.std.proofs.lemmas.List.{get_or-set_same, get_or-set_other, length-set, get_or_past}
use Rattle.sk_rows.specs.declared.value.Value.{Value}
use Rattle.sk_rows.specs.declared.table.Table.{Table}
use Rattle.sk_rows.specs.Values.{value_cmp}
use Rattle.sk_rows.specs.Orders.{value_cmp-IsAntisymmetric}
use Rattle.sk_model.specs.declared.commit.Write.{Write}
use Rattle.sk_model.specs.declared.call.EngineCall.{EngineCall}
use Rattle.sk_model.specs.declared.call.EngineCall.TheVariants as call
use Rattle.sk_model.specs.declared.call.EngineFault.TheVariants as fault
use Rattle.sk_model.specs.declared.call.EngineReply.{EngineReply}
use Rattle.sk_model.specs.declared.call.EngineReply.TheVariants.{Found, Rows, Fault}
use Rattle.sk_model.specs.declared.call.Entry.{Entry}
use Rattle.sk_model.specs.Database.{RowOf, KeyedRows, Tables, rows_with, table_of, after_write, after_writes}
use Rattle.sk_model.specs.Engine.{VersionState, Closed, Stamped, Dropped, Version, EngineTable, opening_of, snapshot_of, write_at}
use Rattle.sk_model.specs.EngineReplies.{is_seen, seen, busy_or, answer_of}
use Rattle.sk_model.specs.EngineChanges.{change, restood}
use Rattle.sk_model.specs.EngineConditions.{may, is_standing, has_table, has_key, has_row, empty_of}
use Rattle.sk_model.specs.Legal.{may_fail, step, due, IsReply}
use Rattle.sk_model.specs.declared.label.Label.{Label}
use Rattle.sk_model.proofs.Lists.{Each, each_filter}
use Rattle.sk_model.proofs.Lookups.{tied_is}
use Rattle.sk_model.proofs.Quiet.{restood_write, each_map_from, each_put, step_keeps}
use Rattle.sk_linked.specs.Joining.{row_fits, TablesFit, FoundFits, GetFits, ScanFits, ReplyFits}

-- ---- tables

abbrev pub WriteFits : List Table → Write → Type 0
WriteFits catalog w = row_fits catalog w.table w.key w.row ≡ true

abbrev RowsFit : List Table → ℕ → KeyedRows → Type 0
RowsFit catalog t rows = Each (λ (p : Value × RowOf). row_fits catalog t p.0 (Some p.1) ≡ true) rows

each_put_row : (P : Value × RowOf → Type 0) (key : Value) (row : RowOf) (es : KeyedRows) → P (key, row) → Each P es → Each P (put value_cmp key row es)
each_put_row P key row [] p h = (p, tt)
each_put_row P key row (e ∷ es) p h = go (value_cmp key e.0) refl (each_put_row P key row es p h.1)
  where
    go : (r : Ordering) → value_cmp key e.0 ≡ r → Each P (put value_cmp key row es) → Each P (put value_cmp key row (e ∷ es))
    go Less q ih = rw q (p, h)
    go Equal q ih = rw q (subst (λ (k : Value). P (k, row)) (value_cmp-IsAntisymmetric key e.0 q) p, h.1)
    go Greater q ih = rw q (h.0, ih)

rows_with_fit : (catalog : List Table) (t : ℕ) (rows : KeyedRows) (key : Value) (r : Option RowOf) → row_fits catalog t key r ≡ true → RowsFit catalog t rows → RowsFit catalog t (rows_with rows key r)
rows_with_fit catalog t rows key None f h = each_filter (λ (p : Value × RowOf). row_fits catalog t p.0 (Some p.1) ≡ true) (λ (p : Value × RowOf). row_fits catalog t p.0 (Some p.1) ≡ true) (λ p. not (eq_by_cmp value_cmp key p.0)) (λ p e k. k) rows h
rows_with_fit catalog t rows key (Some row) f h = each_put_row (λ (p : Value × RowOf). row_fits catalog t p.0 (Some p.1) ≡ true) key row rows f h

after_writes_fit : (catalog : List Table) (db : Tables) (ws : List Write) → TablesFit catalog db → Each (WriteFits catalog) ws → TablesFit catalog (after_writes db ws)
after_writes_fit catalog db [] h f = h
after_writes_fit catalog db (w ∷ ws) h f = after_writes_fit catalog (after_write db w) ws one f.1
  where
    one : TablesFit catalog (after_write db w)
    one t = ⊎_elim
        (λ (lt : t < length db). ⊎_elim
        (λ (e : t ≡ w.table).
        let new : KeyedRows = rows_with (table_of db w.table) w.key w.row in
        let there : table_of (after_write db w) t ≡ new = rw e (get_or-set_same db w.table new [] (omega arith)) in
        subst (RowsFit catalog t) (sym there) (subst (λ n. RowsFit catalog n new) (sym e) (rows_with_fit catalog w.table (table_of db w.table) w.key w.row f.0 (h w.table))))
        (λ (ne : t ≡ w.table → ⊥). subst (RowsFit catalog t) (sym (get_or-set_other db w.table t _ [] ne)) (h t))
        (cases_eq t w.table))
        (λ (le : length db ≤ t). subst (RowsFit catalog t) (sym (get_or_past (after_write db w) t [] (omega (arith, length-set db w.table (rows_with (table_of db w.table) w.key w.row))))) tt)
        (cases_lt t (length db))

find_fits : (catalog : List Table) (t : ℕ) (key : Value) (es : KeyedRows) → RowsFit catalog t es → FoundFits catalog t key (find value_cmp key es)
find_fits catalog t key [] h = tt
find_fits catalog t key (e ∷ es) h = cond_both (eq_by_cmp value_cmp key e.0) (Some e.1) (find value_cmp key es) (FoundFits catalog t key)
    (λ y. subst (λ (k : Value). row_fits catalog t k (Some e.1) ≡ true) (sym (tied_is key e.0 y)) h.0)
    (λ n. find_fits catalog t key es h.1)

-- ---- the table of an engine

-- the opening rows and all versions fit
pub record AllFit (e : EngineTable) : Type 0 where
  pub rows : TablesFit e.catalog e.rows
  pub versions : Each (λ (v : Version). WriteFits e.catalog v.write) e.versions

restand_fits : (catalog : List Table) (tx : Label) (st : VersionState) (vs : List Version) → Each (λ (v : Version). WriteFits catalog v.write) vs → Each (λ (v : Version). WriteFits catalog v.write) (map (restood tx st) vs)
restand_fits catalog tx st vs h = each_map_from (λ (v : Version). WriteFits catalog v.write) (λ (v : Version). WriteFits catalog v.write) (restood tx st)
    (λ v k. subst (WriteFits catalog) (sym (restood_write tx st v)) k) vs h

change_fits : (e : EngineTable) (c : EngineCall) → may e c ≡ true → AllFit e → AllFit (change e c)
change_fits e (call.Open tx s) m h = record { rows = h.rows; versions = h.versions }
change_fits e (call.Get tx t key) m h = h
change_fits e (call.Scan tx t) m h = h
change_fits e (call.Put tx u key row) m h =
    let fit : WriteFits e.catalog (write_at u key row) = (and_parts (has_key e u key) (has_row e u key row) (and_parts (has_table e u) (has_key e u key && has_row e u key row) (and_parts (is_standing (opening_of e tx)) (has_table e u && (has_key e u key && has_row e u key row)) m).1).1).1 in
    record {
      rows = h.rows;
      versions = each_put (λ (v : Version). WriteFits e.catalog v.write) (λ (v : Version). WriteFits e.catalog v.write) tx (snapshot_of e tx) (write_at u key row) (λ v k. k) (λ v i o k. fit) fit e.versions h.versions;
    }
change_fits e (call.Close tx) m h = record { rows = h.rows; versions = restand_fits e.catalog tx (Closed e.greatest) e.versions h.versions }
change_fits e (call.Stamp tx n) m h = record { rows = h.rows; versions = restand_fits e.catalog tx (Stamped n) e.versions h.versions }
change_fits e (call.Void tx n) m h = record { rows = h.rows; versions = restand_fits e.catalog tx Dropped e.versions h.versions }
change_fits e (call.DropTx tx) m h = record { rows = h.rows; versions = restand_fits e.catalog tx Dropped e.versions h.versions }
change_fits e call.Horizon m h = h
change_fits e (call.Records from to) m h = h
change_fits e (call.Purge upto) m h = record { rows = h.rows; versions = h.versions }

pub step_fits : (e : EngineTable) (j : Entry) → AllFit e → AllFit (step e j)
step_fits e j h = step_keeps AllFit e j h (λ m r. change_fits e j.call m h)

seen_fit : (e : EngineTable) (tx : Label) (s : ℕ) → AllFit e → TablesFit e.catalog (seen e tx s)
seen_fit e tx s h = after_writes_fit e.catalog e.rows (map (λ (v : Version). v.write) (filter (is_seen tx s) e.versions)) h.rows
    (each_map_from (λ (v : Version). WriteFits e.catalog v.write) (WriteFits e.catalog) (λ (v : Version). v.write) (λ v k. k) (filter (is_seen tx s) e.versions)
    (each_filter (λ (v : Version). WriteFits e.catalog v.write) (λ (v : Version). WriteFits e.catalog v.write) (is_seen tx s) (λ v t k. k) e.versions h.versions))

busy_get : (catalog : List Table) (t : ℕ) (key : Value) (o : Option Version) (r : Option RowOf) → FoundFits catalog t key r → GetFits catalog t key (busy_or o (Found r))
busy_get catalog t key None r h = h
busy_get catalog t key (Some v) r h = tt

busy_scan : (catalog : List Table) (t : ℕ) (o : Option Version) (rows : KeyedRows) → RowsFit catalog t rows → ScanFits catalog t (busy_or o (Rows rows))
busy_scan catalog t None rows h = h
busy_scan catalog t (Some v) rows h = tt

-- the reply of the table, or the fault of a device
either_reply : (P : EngineReply → Type 0) (e : EngineTable) (c : EngineCall) (reply : EngineReply) → may e c ≡ true → IsReply e c reply → P (Fault fault.Device) → P (answer_of e c) → P reply
either_reply P e c reply m i f a = ⊎_elim
    (λ (k : (may_fail e c ≡ true) × (reply ≡ Fault fault.Device)). subst P (sym k.1) f)
    (λ (k : due e c ≡ reply). subst P (sym (cond-true (may e c) (answer_of e c) (empty_of c) m) ∙ k) a)
    i

-- the rows that a read finds fit
pub reply_fits : (e : EngineTable) (c : EngineCall) (reply : EngineReply) → may e c ≡ true → IsReply e c reply → AllFit e → ReplyFits e.catalog c reply
reply_fits e (call.Open tx s) reply m i h = tt
reply_fits e (call.Get tx t key) reply m i h = either_reply (GetFits e.catalog t key) e (call.Get tx t key) reply m i tt
    (busy_get e.catalog t key _ _ (find_fits e.catalog t key (table_of (seen e tx (snapshot_of e tx)) t) (seen_fit e tx (snapshot_of e tx) h t)))
reply_fits e (call.Scan tx t) reply m i h = either_reply (ScanFits e.catalog t) e (call.Scan tx t) reply m i tt
    (busy_scan e.catalog t _ _ (seen_fit e tx (snapshot_of e tx) h t))
reply_fits e (call.Put tx t key row) reply m i h = tt
reply_fits e (call.Close tx) reply m i h = tt
reply_fits e (call.Stamp tx n) reply m i h = tt
reply_fits e (call.Void tx n) reply m i h = tt
reply_fits e (call.DropTx tx) reply m i h = tt
reply_fits e call.Horizon reply m i h = tt
reply_fits e (call.Records from to) reply m i h = tt
reply_fits e (call.Purge upto) reply m i h = tt
