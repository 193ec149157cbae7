-- The promise of one call, from what it does to the table.
use Rattle.std.specs.Prelude.{◌≡◌, ℕ, List, Option, Some, None, [], ◌∷◌, Bool, true, false, cond, not, ◌&&◌, T, length}
use Rattle.std.proofs.Common.{inl, inr, refl, sym, ap, subst, ◌∙◌}
use Rattle.std.specs.FinMap.{is_sorted}
use Rattle.std.proofs.lemmas.Bool.{and_from, and_parts, cond-true, cond-false, and_right}
use Rattle.sk_rows.specs.declared.value.Value.{Value}
use Rattle.sk_rows.specs.declared.table.Table.{Table}
use Rattle.sk_rows.specs.Values.{value_cmp}
use Rattle.sk_model.specs.declared.commit.Write.{Write}
use Rattle.sk_model.proofs.Lists.{Each}
use Rattle.sk_model.specs.declared.engine.EngineName.{EngineName}
use Rattle.sk_model.specs.declared.call.EngineCall.{EngineCall}
use Rattle.sk_model.specs.declared.call.EngineCall.TheVariants as call
use Rattle.sk_model.specs.declared.call.EngineReply.{EngineReply}
use Rattle.sk_model.specs.declared.call.Entry.{Entry}
use Rattle.sk_model.specs.Database.{RowOf, table_of}
use Rattle.sk_model.specs.Engine.{EngineTable, Version, VersionState, Closed, Stamped, Dropped, Opening, Openings, label_cmp, opening_of, snapshot_of, write_at, is_of, is_open, is_undecided}
use Rattle.sk_model.specs.declared.label.Label.{Label}
use Rattle.sk_model.specs.Records.{same_label}
use Rattle.sk_model.proofs.Labels.{label_cmp_total}
use Rattle.std.specs.FinMap.Entries.{is_sorted-put, is_sorted-where_key}
use Rattle.sk_model.specs.EngineReplies.{answer_of}
use Rattle.sk_model.specs.EngineConditions.{may, empty_of, has_row, has_key, has_table, is_standing}
use Rattle.sk_model.specs.EngineChanges.{change, closed_in, closed_at, opening_at, put_version, restand}
use Rattle.sk_model.specs.Legal.{step, is_refusal}
use Rattle.sk_model.proofs.Order.{good_change}
use Rattle.sk_model.proofs.Listed.{listed_entries}
use Rattle.sk_model.specs.EngineInvariant.{Listed}
use Rattle.sk_model.proofs.Reading.{name_stays, catalog_stays, rows_stay}
use Rattle.sk_model.specs.Resembling.{RowFits}
use Rattle.sk_chain.specs.Promise.{Replies, Leaves, entry_of}
use Rattle.sk_engine.specs.Engines.{IsSound, VersionFits}

-- What a call leaves of an engine that keeps no journal: what it stands for does not depend on the entries.
abbrev pub LeavesTable : Bool → ℕ → ℕ → (EngineTable → Type 0) → EngineTable → EngineCall → Option EngineReply → Type 0
LeavesTable told before now stands e call None = stands e
LeavesTable told before now stands e call (Some reply) = Replies told before now e call reply × stands (step e (entry_of call reply))

pub leaves : (told : Bool) (before now : ℕ) (stands : EngineTable → Type 0) (e : EngineTable) (js : List Entry) (call : EngineCall) (reply : Option EngineReply) → LeavesTable told before now stands e call reply → Leaves told before now (λ f _. stands f) e js call reply
leaves told before now stands e js call None h = h
leaves told before now stands e js call (Some reply) h = h

pub due_reply : (told : Bool) (before now : ℕ) (e : EngineTable) (call : EngineCall) (reply : EngineReply) → may e call ≡ true → answer_of e call ≡ reply → Replies told before now e call reply
due_reply told before now e call reply m is = inr (inl (cond-true (may e call) (answer_of e call) (empty_of call) m ∙ is))

step_done : (e : EngineTable) (c : EngineCall) (reply : EngineReply) → may e c ≡ true → is_refusal reply ≡ false → step e (record { call = c; reply = reply }) ≡ change e c
step_done e c reply m r = cond-true (may e c && not (is_refusal reply)) (change e c) e (and_from _ _ m (ap not r))

pub after_done : (P : EngineTable → Type 0) (e : EngineTable) (c : EngineCall) (reply : EngineReply) → may e c ≡ true → is_refusal reply ≡ false → P (change e c) → P (step e (record { call = c; reply = reply }))
after_done P e c reply m r h = subst P (sym (step_done e c reply m r)) h

pub after_refused : (P : EngineTable → Type 0) (e : EngineTable) (c : EngineCall) (reply : EngineReply) → is_refusal reply ≡ true → P e → P (step e (record { call = c; reply = reply }))
after_refused P e c reply r h = subst P (sym (cond-false (may e c && not (is_refusal reply)) (change e c) e (and_right (may e c) (not (is_refusal reply)) (ap not r)))) h

pub after_asked : (P : EngineTable → Type 0) (e : EngineTable) (c : EngineCall) (reply : EngineReply) → change e c ≡ e → P e → P (step e (record { call = c; reply = reply }))
after_asked P e c reply same h = subst P (sym (go (may e c && not (is_refusal reply)))) h
  where
    go : (b : Bool) → cond b (change e c) e ≡ e
    go true = same
    go false = refl

start_change : (e : EngineTable) (c : EngineCall) → (change e c).start ≡ e.start
start_change e (call.Open tx s) = refl
start_change e (call.Get tx t key) = refl
start_change e (call.Scan tx t) = refl
start_change e (call.Put tx t key row) = refl
start_change e (call.Close tx) = refl
start_change e (call.Stamp tx n) = refl
start_change e (call.Void tx n) = refl
start_change e (call.DropTx tx) = refl
start_change e call.Horizon = refl
start_change e (call.Records from to) = refl
start_change e (call.Purge upto) = refl

closed_ordered : (tx : Label) (f : ℕ) (o : Option Opening) (os : Openings) → T (is_sorted label_cmp os) → T (is_sorted label_cmp (closed_in tx f o os))
closed_ordered tx f None os h = h
closed_ordered tx f (Some o) os h = is_sorted-put label_cmp label_cmp_total tx (closed_at f o) os h

ordered_change : (e : EngineTable) (c : EngineCall) → T (is_sorted label_cmp e.openings) → T (is_sorted label_cmp (change e c).openings)
ordered_change e (call.Open tx s) h = is_sorted-put label_cmp label_cmp_total tx (opening_at s) e.openings h
ordered_change e (call.Get tx t key) h = h
ordered_change e (call.Scan tx t) h = h
ordered_change e (call.Put tx t key row) h = h
ordered_change e (call.Close tx) h = closed_ordered tx e.greatest (opening_of e tx) e.openings h
ordered_change e (call.Stamp tx n) h = is_sorted-where_key label_cmp (λ l. not (same_label tx l)) e.openings h
ordered_change e (call.Void tx n) h = is_sorted-where_key label_cmp (λ l. not (same_label tx l)) e.openings h
ordered_change e (call.DropTx tx) h = is_sorted-where_key label_cmp (λ l. not (same_label tx l)) e.openings h
ordered_change e call.Horizon h = h
ordered_change e (call.Records from to) h = h
ordered_change e (call.Purge upto) h = h

row_fits : (e : EngineTable) (t : ℕ) (key : Value) (row : Option RowOf) → has_row e t key row ≡ true → RowFits e.catalog t key row
row_fits e t key None h = tt
row_fits e t key (Some row) h = h

fit_put : (tables : List Table) (tx : Label) (s : ℕ) (w : Write) (vs : List Version) → RowFits tables w.table w.key w.row → Each (VersionFits tables) vs → Each (VersionFits tables) (put_version tx s w vs)
fit_put tables tx s w [] f h = (f, tt)
fit_put tables tx s w (v ∷ vs) f h = go (fit_put tables tx s w vs f h.1) (is_of w.table w.key v && (same_label tx v.by && is_open v.standing))
  where
    go : Each (VersionFits tables) (put_version tx s w vs) → (b : Bool) → Each (VersionFits tables) (cond b (record v { write = w } ∷ vs) (v ∷ put_version tx s w vs))
    go ih true = (f, h.1)
    go ih false = (h.0, ih)

fit_restand : (tables : List Table) (tx : Label) (st : VersionState) (vs : List Version) → Each (VersionFits tables) vs → Each (VersionFits tables) (restand tx st vs)
fit_restand tables tx st [] h = tt
fit_restand tables tx st (v ∷ vs) h = (go (same_label tx v.by && is_undecided v.standing), fit_restand tables tx st vs h.1)
  where
    go : (b : Bool) → VersionFits tables (cond b (record v { standing = st }) v)
    go true = h.0
    go false = h.0

fit_change : (e : EngineTable) (c : EngineCall) → may e c ≡ true → Each (VersionFits e.catalog) e.versions → Each (VersionFits (change e c).catalog) (change e c).versions
fit_change e (call.Open tx s) m h = h
fit_change e (call.Get tx t key) m h = h
fit_change e (call.Scan tx t) m h = h
fit_change e (call.Put tx t key row) m h = fit_put e.catalog tx (snapshot_of e tx) (write_at t key row) e.versions (row_fits e t key row (and_parts (has_key e t key) (has_row e t key row) (and_parts (has_table e t) (has_key e t key && has_row e t key row) (and_parts (is_standing (opening_of e tx)) (has_table e t && (has_key e t key && has_row e t key row)) m).1).1).1) h
fit_change e (call.Close tx) m h = fit_restand e.catalog tx (Closed e.greatest) e.versions h
fit_change e (call.Stamp tx n) m h = fit_restand e.catalog tx (Stamped n) e.versions h
fit_change e (call.Void tx n) m h = fit_restand e.catalog tx Dropped e.versions h
fit_change e (call.DropTx tx) m h = fit_restand e.catalog tx Dropped e.versions h
fit_change e call.Horizon m h = h
fit_change e (call.Records from to) m h = h
fit_change e (call.Purge upto) m h = h

-- what holds of each table still holds
pub sound_change : (name : EngineName) (e : EngineTable) (c : EngineCall) → may e c ≡ true → is_refusal (answer_of e c) ≡ false → IsSound name e → IsSound name (change e c)
sound_change name e c m r h =
    let j : Entry = record { call = c; reply = answer_of e c } in
    let is : step e j ≡ change e c = step_done e c (answer_of e c) m r in
    let rows : (change e c).rows ≡ e.rows = ap (λ (f : EngineTable). f.rows) (sym is) ∙ rows_stay e (j ∷ []) in
    record {
      named = ap (λ (f : EngineTable). f.name) (sym is) ∙ name_stays e (j ∷ []) ∙ h.named;
      count = ap length rows ∙ h.count ∙ sym (ap (λ (f : EngineTable). length f.catalog) (sym is) ∙ ap length (catalog_stays e (j ∷ [])));
      sorted = λ t. subst (λ db. T (is_sorted value_cmp (table_of db t))) (sym rows) (h.sorted t);
      ordered = ordered_change e c h.ordered;
      good = good_change e c m r h.good;
      fit = fit_change e c m h.fit;
      listed = subst (λ s. Listed s (change e c)) (sym (start_change e c)) (subst (Listed e.start) is (listed_entries e.start e (j ∷ []) h.listed));
    }
