-- The promise of each call, over what its parts leave.
use Rattle.std.specs.Prelude.{◌≡◌, ℕ, ◌<◌, ◌≤◌, List, Option, Some, None, Bool, true, false, cond, not, ◌⊎◌, nat_lt, max, length, map, IfSome, Err, is_some}
use Rattle.std.proofs.Common.{inl, inr, refl, sym, ap, subst, ◌∙◌, ⊎_elim}
use Rattle.std.specs.Option.{option_map}
use Rattle.std.proofs.lemmas.Bool.{and_parts, cond-true, cond-false, false≢true, ltb-true, lt-ltb, le-ltb}
use Rattle.sk_outside.specs.Causes.{Rose}
use Rattle.sk_rows.specs.declared.value.Value.{Value}
use Rattle.sk_rows.specs.declared.table.Table.{Table}
use Rattle.sk_model.specs.declared.label.Label.{Label}
use Rattle.sk_model.specs.declared.engine.EngineName.{EngineName}
use Rattle.sk_model.specs.declared.call.EngineCall.{EngineCall}
use Rattle.sk_model.specs.declared.call.EngineCall.TheVariants as call
use Rattle.sk_model.specs.declared.call.EngineFault.{EngineFault}
use Rattle.sk_model.specs.declared.call.EngineFault.TheVariants as fault
use Rattle.sk_model.specs.declared.call.EngineReply.{EngineReply}
use Rattle.sk_model.specs.declared.call.EngineReply.TheVariants.{Done, Found, Rows, Number, Commits, Fault}
use Rattle.sk_model.specs.declared.reply.Why.{Why}
use Rattle.sk_model.specs.Database.{RowOf, row_of}
use Rattle.sk_model.specs.Records.{same_label}
use Rattle.sk_model.specs.Engine.{EngineTable, opening_of, snapshot_of, snapshot_in, write_at}
use Rattle.sk_model.specs.Engine.{Opening as Opened}
use Rattle.sk_model.specs.EngineReplies.{answer_of}
use Rattle.sk_model.specs.EngineConditions.{may, empty_of, has_table, has_key, is_standing}
use Rattle.sk_model.specs.EngineChanges.{change}
use Rattle.sk_model.specs.Legal.{is_refusal}
use Rattle.sk_model.proofs.Listed.{some_is, none_some}
use Rattle.sk_model.proofs.Quiet.{none_from}
use Rattle.sk_chain.specs.Writing.{conflict, is_by}
use Rattle.sk_chain.specs.Changing.{may_push, pushed}
use Rattle.sk_model.specs.Resembling.{Resembles, RowFits}
use Rattle.sk_chain.specs.Promise.{Replies, refused}
use Rattle.sk_engine.specs.declared.act.Act.TheVariants as act
use Rattle.sk_engine.specs.declared.row_id.RowId.{RowId}
use Rattle.sk_engine.specs.declared.book.Book.{Book}
use Rattle.sk_engine.specs.Rows.{Chains, is_row_id, reading, GivesReply, IsRow, Pushed, with_chain, acted, all_acted}
use Rattle.sk_engine.proofs.RowIds.{row_id_is, row_id_itself}
use Rattle.sk_chain.specs.declared.version.Version.{Version}
use Rattle.sk_engine.specs.Stands.{Held, Stands, held_in, timed, snapshot_by, wrote_by, opened_at, floored, noted}
use Rattle.sk_engine.specs.Counts.{Counts, used}
use Rattle.sk_engine.specs.Engines.{StandsBy, HasRoom}
use Rattle.sk_engine.proofs.Reading.{got_is}
use Rattle.sk_engine.proofs.Scanning.{blocker, blocks, scan_rows, scan_free, scan_busy}
use Rattle.sk_model.specs.Database.{KeyedRows, table_of}
use Rattle.sk_model.specs.EngineReplies.{seen, busy_or, least_key}
use Rattle.std.specs.List.{filter}
use Rattle.sk_engine.specs.Rows.{IsScan, AreRows, Scans}
use Rattle.sk_engine.proofs.Putting.{put_is, blocked_reply, push_allowed, stands_put}
use Rattle.sk_engine.proofs.Whole.{stands_open, stands_close, stands_drop, ready_void}
use Rattle.sk_engine.proofs.Serving.{LeavesTable, due_reply, after_done, after_refused, after_asked, sound_change}
use Rattle.sk_engine.proofs.Counting.{counts_open, counts_put, counts_close, counts_drop}

-- an opening that is not closed, on both sides
open_held : (o : Option Held) (r : Option Opened) → option_map timed o ≡ r → is_standing r ≡ true → (k : Held) × (o ≡ Some k) × (k.floor ≡ None) × (snapshot_in r ≡ k.snapshot)
open_held None None i s = absurd (false≢true s)
open_held None (Some x) i s = none_some i
open_held (Some k) None i s = none_some (sym i)
open_held (Some k) (Some x) i s =
    let both : timed k ≡ x = some_is i in
    (k, refl, ap (λ (y : Opened). y.floor) both ∙ no_floor x.floor s, sym (ap (λ (y : Opened). y.snapshot) both))
  where
    no_floor : (f : Option ℕ) → not (is_some f) ≡ true → f ≡ None
    no_floor None s = refl
    no_floor (Some f) s = absurd (false≢true s)

pub row_resembles : (tables : List Table) (tx : Label) (t : ℕ) (key : Value) (d reply : EngineReply) → IsRow tables t key d (Some reply) → Resembles tables (call.Get tx t key) d reply
row_resembles tables tx t key (Found d) (Found r) h = h
row_resembles tables tx t key (Found d) Done h = h
row_resembles tables tx t key (Found d) (Rows rows) h = h
row_resembles tables tx t key (Found d) (Number n) h = h
row_resembles tables tx t key (Found d) (Commits cs) h = h
row_resembles tables tx t key (Found d) (Fault f) h = h
row_resembles tables tx t key Done reply h = h
row_resembles tables tx t key (Rows rows) reply h = h
row_resembles tables tx t key (Number n) reply h = h
row_resembles tables tx t key (Commits cs) reply h = h
row_resembles tables tx t key (Fault f) reply h = h

module _ (name : EngineName) (told : Bool) (before now : ℕ) (shown then : List Table → Chains → Type 0) (b n : Book) (e : EngineTable) (tx : Label) where
  -- rows that show the same
  pub kept : ((tables : List Table) (chains : Chains) → shown tables chains → then tables chains) → StandsBy name shown b e → StandsBy name then b e
  kept shows h = record { sound = h.sound; chains = h.chains; shows = shows e.catalog h.chains h.shows; stands = h.stands; counts = h.counts; room = h.room }

  -- what stands open, on both sides
  pub standing : (h : StandsBy name shown b e) → is_standing (opening_of e tx) ≡ true
      → (k : Held) × (held_in b.openings.entries tx ≡ Some k) × (k.floor ≡ None) × (snapshot_of e tx ≡ k.snapshot) × (b.purged ≤ k.snapshot)
  standing h s =
      let o = open_held (held_in b.openings.entries tx) (opening_of e tx) (h.stands.openings tx) s in
      (o.0, o.1, o.2, o.3, subst (λ r. IfSome r (λ k. b.purged ≤ k.snapshot)) o.1 (h.stands.in_time tx))

  -- of a call that asks, over what was given
  gives_reply : (c : EngineCall) (reply due_is : EngineReply) (Like : Type 0) → may e c ≡ true → (touching : Replies told before now e c reply → Replies told before now e c reply)
      → answer_of e c ≡ due_is → (Rose before now → reply ≡ Fault fault.Device → Replies told before now e c reply)
      → (told ≡ false → Like → Resembles e.catalog c due_is reply) → GivesReply told before now Like due_is (Some reply) → Replies told before now e c reply
  gives_reply c reply due_is Like m touching is device like g = ⊎_elim
      (λ (d : (reply ≡ Fault fault.Device) × Rose before now). device d.1 d.0)
      (λ (r : (due_is ≡ reply) ⊎ ((told ≡ false) × Like)). ⊎_elim
      (λ (i : due_is ≡ reply). due_reply told before now e c reply m (is ∙ i))
      (λ (u : (told ≡ false) × Like). inr (inr (u.0, subst (λ x. Resembles e.catalog c x reply) (sym (cond-true (may e c) (answer_of e c) (empty_of c) m ∙ is)) (like u.0 u.1))))
      r)
      g

  pub serve_get : (t : ℕ) (key : Value) (s : ℕ) (o : Option EngineReply) → s ≡ snapshot_by (held_in b.openings.entries tx)
      → ((tables : List Table) (chains : Chains) → shown tables chains → then tables chains)
      → ((tables : List Table) (chains : Chains) → shown tables chains → GivesReply told before now (IsRow tables t key (reading (chains t key) tx s) o) (reading (chains t key) tx s) o)
      → StandsBy name shown b e → may e (call.Get tx t key) ≡ true → LeavesTable told before now (StandsBy name then b) e (call.Get tx t key) o
  serve_get t key s None is shows gives h m = kept shows h
  serve_get t key s (Some reply) is shows gives h m =
      let c : EngineCall = call.Get tx t key in
      let parts = and_parts _ _ m in
      let o = standing h parts.0 in
      let within : t < length e.rows = ltb-true t (length e.rows) (and_parts _ _ (and_parts _ _ parts.1).0).0 in
      let at : s ≡ snapshot_of e tx = is ∙ ap snapshot_by o.1 ∙ sym o.3 in
      let answer : answer_of e c ≡ reading (h.chains t key) tx s =
      got_is e tx (snapshot_of e tx) b.purged t key (h.chains t key) within (subst (λ n. b.purged ≤ n) (sym o.3) o.4) (h.stands.rows t key)
      ∙ ap (reading (h.chains t key) tx) (sym at) in (
        gives_reply c reply (reading (h.chains t key) tx s) (IsRow e.catalog t key (reading (h.chains t key) tx s) (Some reply)) m (λ r. r) answer
            (λ rose is. inl (refl, is, rose)) (λ u like. row_resembles e.catalog tx t key (reading (h.chains t key) tx s) reply like) (gives e.catalog h.chains h.shows),
        after_asked (StandsBy name then b) e c reply refl (kept shows h),
      )

  pub serve_open : (s : ℕ) → b.purged ≤ s → n.greatest ≡ max b.greatest s → n.purged ≡ b.purged → n.horizon ≡ b.horizon → n.numbers.items ≡ b.numbers.items
      → ((q : Label) → held_in n.openings.entries q ≡ cond (same_label tx q) (Some (opened_at s)) (held_in b.openings.entries q)) → HasRoom n
      → StandsBy name shown b e → may e (call.Open tx s) ≡ true → LeavesTable told before now (StandsBy name shown n) e (call.Open tx s) (Some Done)
  serve_open s le top p hz ns is room h m =
      let c : EngineCall = call.Open tx s in
      let answer : answer_of e c ≡ Done = cond-false (nat_lt s e.purged) (Fault (fault.Old s e.purged)) Done (subst (λ x. nat_lt s x ≡ false) h.stands.purged (le-ltb s b.purged le)) in (
        due_reply told before now e c Done m answer,
        after_done (StandsBy name shown n) e c Done m refl (record {
          sound = sound_change name e c m (subst (λ r. is_refusal r ≡ false) (sym answer) refl) h.sound;
          chains = h.chains;
          shows = h.shows;
          stands = subst (λ q. Stands n.greatest q (held_in n.openings.entries) h.chains (change e c)) (sym p)
              (subst (λ g. Stands g b.purged (held_in n.openings.entries) h.chains (change e c)) (sym top)
              (stands_open b.greatest b.purged (held_in b.openings.entries) (held_in n.openings.entries) h.chains e tx s h.stands (none_from (opening_of e tx) m) le is));
          counts = subst (λ q. Counts n.horizon q (map used n.numbers.items) (change e c)) (sym p) (subst (λ q. Counts q b.purged (map used n.numbers.items) (change e c)) (sym hz)
              (subst (λ xs. Counts b.horizon b.purged (map used xs) (change e c)) (sym ns) (counts_open b.horizon b.purged (map used b.numbers.items) e h.counts tx s)));
          room = room;
        }),
      )

  pub serve_close : n.greatest ≡ b.greatest → n.purged ≡ b.purged → n.horizon ≡ b.horizon → n.numbers.items ≡ b.numbers.items
      → ((q : Label) → held_in n.openings.entries q ≡ cond (same_label tx q) (floored b.greatest (held_in b.openings.entries tx)) (held_in b.openings.entries q)) → HasRoom n
      → ((tables : List Table) (chains : Chains) → shown tables chains → then tables (all_acted (act.Close b.greatest) (wrote_by (held_in b.openings.entries tx)) chains))
      → StandsBy name shown b e → may e (call.Close tx) ≡ true → LeavesTable told before now (StandsBy name then n) e (call.Close tx) (Some (Number b.greatest))
  serve_close top p hz ns is room shows h m =
      let c : EngineCall = call.Close tx in
      let o = standing h m in
      let late : IfSome (held_in b.openings.entries tx) (λ k. k.snapshot ≤ b.greatest) =
      subst (λ r. IfSome r (λ k. k.snapshot ≤ b.greatest)) (sym o.1) (subst (λ s. s ≤ b.greatest) o.3 (subst (λ g. snapshot_of e tx ≤ g) (sym h.stands.greatest) (h.sound.good.opens tx))) in (
        due_reply told before now e c (Number b.greatest) m (ap Number (sym h.stands.greatest)),
        after_done (StandsBy name then n) e c (Number b.greatest) m refl (record {
          sound = sound_change name e c m refl h.sound;
          chains = all_acted (act.Close b.greatest) (wrote_by (held_in b.openings.entries tx)) h.chains;
          shows = shows e.catalog h.chains h.shows;
          stands = subst (λ q. Stands n.greatest q (held_in n.openings.entries) (all_acted (act.Close b.greatest) (wrote_by (held_in b.openings.entries tx)) h.chains) (change e c)) (sym p)
              (subst (λ g. Stands g b.purged (held_in n.openings.entries) (all_acted (act.Close b.greatest) (wrote_by (held_in b.openings.entries tx)) h.chains) (change e c)) (sym top)
              (stands_close b.greatest b.purged (held_in b.openings.entries) (held_in n.openings.entries) h.chains e tx h.stands m late is));
          counts = subst (λ q. Counts n.horizon q (map used n.numbers.items) (change e c)) (sym p) (subst (λ q. Counts q b.purged (map used n.numbers.items) (change e c)) (sym hz)
              (subst (λ xs. Counts b.horizon b.purged (map used xs) (change e c)) (sym ns) (counts_close b.horizon b.purged (map used b.numbers.items) e h.counts tx)));
          room = room;
        }),
      )

  pub serve_drop : (wrote : List RowId) → n.greatest ≡ b.greatest → n.purged ≡ b.purged → n.horizon ≡ b.horizon → n.numbers.items ≡ b.numbers.items
      → ((q : Label) → held_in n.openings.entries q ≡ cond (same_label tx q) None (held_in b.openings.entries q)) → HasRoom n → wrote ≡ wrote_by (held_in b.openings.entries tx)
      → ((tables : List Table) (chains : Chains) → shown tables chains → then tables (all_acted act.Void wrote chains))
      → StandsBy name shown b e → may e (call.DropTx tx) ≡ true → LeavesTable told before now (StandsBy name then n) e (call.DropTx tx) (Some Done)
  serve_drop wrote top p hz ns is room w shows h m =
      let c : EngineCall = call.DropTx tx in
      let rows : Chains = all_acted act.Void (wrote_by (held_in b.openings.entries tx)) h.chains in (
        due_reply told before now e c Done m refl,
        after_done (StandsBy name then n) e c Done m refl (record {
          sound = sound_change name e c m refl h.sound;
          chains = rows;
          shows = subst (λ ps. then e.catalog (all_acted act.Void ps h.chains)) w (shows e.catalog h.chains h.shows);
          stands = subst (λ q. Stands n.greatest q (held_in n.openings.entries) rows (change e c)) (sym p)
              (subst (λ g. Stands g b.purged (held_in n.openings.entries) rows (change e c)) (sym top)
              (stands_drop b.greatest b.purged (held_in b.openings.entries) (held_in n.openings.entries) h.chains e tx h.stands (ready_void tx h.chains) is));
          counts = subst (λ q. Counts n.horizon q (map used n.numbers.items) (change e c)) (sym p) (subst (λ q. Counts q b.purged (map used n.numbers.items) (change e c)) (sym hz)
              (subst (λ xs. Counts b.horizon b.purged (map used xs) (change e c)) (sym ns) (counts_drop b.horizon b.purged (map used b.numbers.items) e h.counts tx)));
          room = room;
        }),
      )

  pub may_write : (t : ℕ) (key : Value) (s : ℕ) (row : Option RowOf) → s ≡ snapshot_by (held_in b.openings.entries tx) → (h : StandsBy name shown b e) → may e (call.Put tx t key row) ≡ true
      → conflict (h.chains t key) tx s ≡ None → may_push (h.chains t key) tx ≡ true
  may_write t key s row is h m free =
      let o = standing h (and_parts _ _ m).0 in
      push_allowed (held_in b.openings.entries) tx o.0 (h.chains t key) s o.1 o.2 (h.stands.tops t key) free

  row_fits : (t : ℕ) (key : Value) (row : Option RowOf) → may e (call.Put tx t key row) ≡ true → RowFits e.catalog t key row
  row_fits t key None m = tt
  row_fits t key (Some row) m = (and_parts (has_key e t key) _ (and_parts (has_table e t) _ (and_parts (is_standing (opening_of e tx)) _ m).1).1).1

  -- what a write may ask of the rows
  pub push_meets : (t : ℕ) (key : Value) (s : ℕ) (row : Option RowOf) → s ≡ snapshot_by (held_in b.openings.entries tx) → StandsBy name shown b e → may e (call.Put tx t key row) ≡ true
      → (tables : List Table) × ((chains : Chains) × shown tables chains × RowFits tables t key row × (conflict (chains t key) tx s ≡ None → may_push (chains t key) tx ≡ true) × (t < length tables))
  push_meets t key s row is h m = (e.catalog, (h.chains, h.shows, row_fits t key row m, may_write t key s row is h m, subst (λ n. t < n) h.sound.count (ltb-true t (length e.rows) (and_parts _ _ (and_parts _ _ (and_parts _ _ m).1).0).0)))

  answered_is : (t : ℕ) (key : Value) (s : ℕ) (row : Option RowOf) → s ≡ snapshot_by (held_in b.openings.entries tx) → (h : StandsBy name shown b e) → may e (call.Put tx t key row) ≡ true
      → answer_of e (call.Put tx t key row) ≡ blocked_reply (conflict (h.chains t key) tx s)
  answered_is t key s row is h m =
      let parts = and_parts _ _ m in
      let o = standing h parts.0 in
      let within : t < length e.rows = ltb-true t (length e.rows) (and_parts _ _ (and_parts _ _ parts.1).0).0 in
      let at : snapshot_of e tx ≡ s = o.3 ∙ sym (is ∙ ap snapshot_by o.1) in
      put_is e tx s b.purged (write_at t key row) (row_of e.rows t key) (h.chains t key) at (subst (λ n. b.purged ≤ n) (sym (is ∙ ap snapshot_by o.1)) o.4) (h.stands.rows t key)

  pub conflict_put : (t : ℕ) (key : Value) (s : ℕ) (row : Option RowOf) (by : Label) (why : Why) → s ≡ snapshot_by (held_in b.openings.entries tx)
      → ((tables : List Table) (chains : Chains) → shown tables chains → (conflict (chains t key) tx s ≡ Some (record { by = by; why = why })) × then tables chains)
      → StandsBy name shown b e → may e (call.Put tx t key row) ≡ true → LeavesTable told before now (StandsBy name then b) e (call.Put tx t key row) (Some (Fault (fault.Conflict by why)))
  conflict_put t key s row by why is w h m =
      let c : EngineCall = call.Put tx t key row in (
        due_reply told before now e c (Fault (fault.Conflict by why)) m (answered_is t key s row is h m ∙ ap blocked_reply (w e.catalog h.chains h.shows).0),
        after_refused (StandsBy name then b) e c (Fault (fault.Conflict by why)) refl (kept (λ tables chains k. (w tables chains k).1) h),
      )

  pub device_put : (t : ℕ) (key : Value) (row : Option RowOf) → ((tables : List Table) (chains : Chains) → shown tables chains → Rose before now × then tables chains)
      → StandsBy name shown b e → may e (call.Put tx t key row) ≡ true → LeavesTable told before now (StandsBy name then b) e (call.Put tx t key row) (Some (Fault fault.Device))
  device_put t key row w h m =
      let c : EngineCall = call.Put tx t key row in
      (inl (refl, refl, (w e.catalog h.chains h.shows).0), after_refused (StandsBy name then b) e c (Fault fault.Device) refl (kept (λ tables chains k. (w tables chains k).1) h))

  pub serve_put : (t : ℕ) (key : Value) (s : ℕ) (row : Option RowOf) (first : Bool) → s ≡ snapshot_by (held_in b.openings.entries tx)
      → n.greatest ≡ b.greatest → n.purged ≡ b.purged → n.horizon ≡ b.horizon → n.numbers.items ≡ b.numbers.items → HasRoom n
      → ((q : Label) → held_in n.openings.entries q ≡ cond first (cond (same_label tx q) (noted (record { table = t; key = key }) (held_in b.openings.entries tx)) (held_in b.openings.entries q)) (held_in b.openings.entries q))
      → ((tables : List Table) (chains : Chains) → shown tables chains
      → (conflict (chains t key) tx s ≡ None) × (first ≡ not (is_by tx (chains t key).top)) × then tables (with_chain chains (record { table = t; key = key }) (pushed (chains t key) tx row)))
      → StandsBy name shown b e → may e (call.Put tx t key row) ≡ true → LeavesTable told before now (StandsBy name then n) e (call.Put tx t key row) (Some Done)
  serve_put t key s row first is top p hz ns room notes w h m =
      let c : EngineCall = call.Put tx t key row in
      let o = standing h (and_parts _ _ m).0 in
      let at : s ≡ o.0.snapshot = is ∙ ap snapshot_by o.1 in
      let pushes = w e.catalog h.chains h.shows in
      let rows : Chains = with_chain h.chains (record { table = t; key = key }) (pushed (h.chains t key) tx row) in
      let answer : answer_of e c ≡ Done = answered_is t key s row is h m ∙ ap blocked_reply pushes.0 in (
        due_reply told before now e c Done m answer,
        after_done (StandsBy name then n) e c Done m refl (record {
          sound = sound_change name e c m (subst (λ r. is_refusal r ≡ false) (sym answer) refl) h.sound;
          chains = rows;
          shows = pushes.2;
          stands = subst (λ q. Stands n.greatest q (held_in n.openings.entries) rows (change e c)) (sym p)
              (subst (λ g. Stands g b.purged (held_in n.openings.entries) rows (change e c)) (sym top)
              (stands_put b.greatest b.purged (held_in b.openings.entries) (held_in n.openings.entries) h.chains rows e tx (record { table = t; key = key }) row first o.0 h.stands o.1 o.2
              (subst (λ x. conflict (h.chains t key) tx x ≡ None) at pushes.0) pushes.1 (λ t key. refl) notes));
          counts = subst (λ q. Counts n.horizon q (map used n.numbers.items) (change e c)) (sym p) (subst (λ q. Counts q b.purged (map used n.numbers.items) (change e c)) (sym hz)
              (subst (λ xs. Counts b.horizon b.purged (map used xs) (change e c)) (sym ns) (counts_put b.horizon b.purged (map used b.numbers.items) e h.counts tx t key row)));
          room = room;
        }),
      )

-- a push that is the first of its transaction, taken back
pub taken_back : (chains : Chains) (p : RowId) (tx : Label) (row : Option RowOf) → may_push (chains p.table p.key) tx ≡ true → true ≡ not (is_by tx (chains p.table p.key).top)
    → with_chain (with_chain chains p (pushed (chains p.table p.key) tx row)) p (acted act.Void (with_chain chains p (pushed (chains p.table p.key) tx row) p.table p.key)) ≡ chains
taken_back chains p tx row m first = λ i t key. one t key i
  where
    here : acted act.Void (with_chain chains p (pushed (chains p.table p.key) tx row) p.table p.key) ≡ chains p.table p.key
    here = ap (λ b. acted act.Void (cond b (pushed (chains p.table p.key) tx row) (chains p.table p.key))) (row_id_itself p) ∙ ap (λ o. record { settled = (chains p.table p.key).settled; top = o }) (sym (bare (chains p.table p.key).top m first))
      where
        bare : (o : Option Version) → may_push (record { settled = (chains p.table p.key).settled; top = o }) tx ≡ true → true ≡ not (is_by tx o) → o ≡ None
        bare None m f = refl
        bare (Some v) m f = absurd (false≢true (sym (f ∙ ap not (and_parts _ _ m).0)))

    one : (t : ℕ) (key : Value) → with_chain (with_chain chains p (pushed (chains p.table p.key) tx row)) p (acted act.Void (with_chain chains p (pushed (chains p.table p.key) tx row) p.table p.key)) t key ≡ chains t key
    one t key = go (is_row_id t key p) refl
      where
        go : (b : Bool) → is_row_id t key p ≡ b → cond b (acted act.Void (with_chain chains p (pushed (chains p.table p.key) tx row) p.table p.key)) (cond b (pushed (chains p.table p.key) tx row) (chains t key)) ≡ chains t key
        go true d = let is : (t ≡ p.table) × (key ≡ p.key) = row_id_is t key p d in here ∙ ap (λ u. chains u p.key) (sym is.0) ∙ ap (chains t) (sym is.1)
        go false d = refl

module _ (name : EngineName) (told : Bool) (before now : ℕ) (shown : List Table → Chains → Type 0) (b n : Book) (e : EngineTable) (tx : Label) where
  -- a refused write
  pub refused_put : {S : Type 0} (shows : S → List Table → Chains → Type 0) (rows : S) (t : ℕ) (key : Value) (s : ℕ) (row : Option RowOf) (f : EngineFault) → s ≡ snapshot_by (held_in b.openings.entries tx)
      → ((tables : List Table) (chains : Chains) → shown tables chains → Pushed shows before now rows tables chains (record { table = t; key = key }) tx s row (Err f))
      → StandsBy name shown b e → may e (call.Put tx t key row) ≡ true → LeavesTable told before now (StandsBy name (shows rows) b) e (call.Put tx t key row) (refused f)
  refused_put shows rows t key s row (fault.Conflict by why) is w h m = conflict_put name told before now shown (shows rows) b b e tx t key s row by why is w h m
  refused_put shows rows t key s row fault.NoMemory is w h m = kept name told before now shown (shows rows) b b e tx w h
  refused_put shows rows t key s row fault.Device is w h m = device_put name told before now shown (shows rows) b b e tx t key row w h m
  refused_put shows rows t key s row (fault.Old x y) is w h m = absurd (w e.catalog h.chains h.shows)
  refused_put shows rows t key s row (fault.Busy by) is w h m = absurd (w e.catalog h.chains h.shows)

  -- a write that was taken back, since there was no room to note it
  pub unnoted_put : (mid then : List Table → Chains → Type 0) (t : ℕ) (key : Value) (s : ℕ) (row : Option RowOf) (first : Bool) → s ≡ snapshot_by (held_in b.openings.entries tx) → first ≡ true
      → n.greatest ≡ b.greatest → n.purged ≡ b.purged → n.horizon ≡ b.horizon → n.numbers.items ≡ b.numbers.items → HasRoom n
      → ((q : Label) → held_in n.openings.entries q ≡ held_in b.openings.entries q)
      → ((tables : List Table) (chains : Chains) → shown tables chains
      → (conflict (chains t key) tx s ≡ None) × (first ≡ not (is_by tx (chains t key).top)) × mid tables (with_chain chains (record { table = t; key = key }) (pushed (chains t key) tx row)))
      → ((tables : List Table) (chains : Chains) → mid tables chains → then tables (with_chain chains (record { table = t; key = key }) (acted act.Void (chains t key))))
      → StandsBy name shown b e → may e (call.Put tx t key row) ≡ true → StandsBy name then n e
  unnoted_put mid then t key s row first is one top p hz ns room same w acts h m =
      let row_id : RowId = record { table = t; key = key } in
      let pushes = w e.catalog h.chains h.shows in
      let pushing : may_push (h.chains t key) tx ≡ true = may_write name told before now shown then b n e tx t key s row is h m pushes.0 in
      let held : held_in n.openings.entries ≡ held_in b.openings.entries = λ i q. same q i in
      record {
        sound = h.sound;
        chains = h.chains;
        shows = subst (λ f. then e.catalog f) (taken_back h.chains row_id tx row pushing (sym one ∙ pushes.1)) (acts e.catalog (with_chain h.chains row_id (pushed (h.chains t key) tx row)) pushes.2);
        stands = subst (λ q. Stands n.greatest q (held_in n.openings.entries) h.chains e) (sym p) (subst (λ g. Stands g b.purged (held_in n.openings.entries) h.chains e) (sym top)
            (subst (λ o. Stands b.greatest b.purged o h.chains e) (sym held) h.stands));
        counts = subst (λ q. Counts n.horizon q (map used n.numbers.items) e) (sym p) (subst (λ q. Counts q b.purged (map used n.numbers.items) e) (sym hz)
            (subst (λ xs. Counts b.horizon b.purged (map used xs) e) (sym ns) h.counts));
        room = room;
      }

scan_resembles : (tables : List Table) (tx : Label) (t : ℕ) (read : Value → EngineReply) (due_rows : KeyedRows) (reply : EngineReply) → AreRows tables t read reply → Resembles tables (call.Scan tx t) (Rows due_rows) reply
scan_resembles tables tx t read due_rows (Rows rows) h = h.0
scan_resembles tables tx t read due_rows Done h = absurd h
scan_resembles tables tx t read due_rows (Found r) h = absurd h
scan_resembles tables tx t read due_rows (Number n) h = absurd h
scan_resembles tables tx t read due_rows (Commits cs) h = absurd h
scan_resembles tables tx t read due_rows (Fault f) h = absurd h

none_waits : (tables : List Table) (t : ℕ) (read : Value → EngineReply) (reply : EngineReply) → AreRows tables t read reply → (key : Value) (by : Label) → read key ≡ Fault (fault.Busy by) → ⊥
none_waits tables t read (Rows rows) h = h.1
none_waits tables t read Done h = absurd h
none_waits tables t read (Found r) h = absurd h
none_waits tables t read (Number n) h = absurd h
none_waits tables t read (Commits cs) h = absurd h
none_waits tables t read (Fault f) h = absurd h

module _ (name : EngineName) (told : Bool) (before now : ℕ) (shown then : List Table → Chains → Type 0) (b : Book) (e : EngineTable) (tx : Label) where
  pub serve_scan : (t s : ℕ) (o : Option EngineReply) → s ≡ snapshot_by (held_in b.openings.entries tx)
      → ((tables : List Table) (chains : Chains) → shown tables chains → then tables chains)
      → ((tables : List Table) (chains : Chains) → shown tables chains → Scans told before now tables t (λ key. reading (chains t key) tx s) o)
      → StandsBy name shown b e → may e (call.Scan tx t) ≡ true → LeavesTable told before now (StandsBy name then b) e (call.Scan tx t) o
  serve_scan t s None is shows scans h m = kept name told before now shown then b b e tx shows h
  serve_scan t s (Some reply) is shows scans h m = (
    ⊎_elim
        (λ (d : (reply ≡ Fault fault.Device) × Rose before now). inl (refl, d.0, d.1))
        (λ (r : IsScan (λ key. reading (h.chains t key) tx s) reply ⊎ ((told ≡ false) × AreRows e.catalog t (λ key. reading (h.chains t key) tx s) reply)). ⊎_elim
        (λ (i : IsScan (λ key. reading (h.chains t key) tx s) reply). due_reply told before now e (call.Scan tx t) reply m (at_snapshot ∙ exact reply i))
        (λ (u : (told ≡ false) × AreRows e.catalog t (λ key. reading (h.chains t key) tx s) reply). inr (inr (
          u.0,
          subst (λ x. Resembles e.catalog (call.Scan tx t) x reply) (sym (cond-true (may e (call.Scan tx t)) (answer_of e (call.Scan tx t)) (empty_of (call.Scan tx t)) m ∙ at_snapshot ∙ scan_free e tx s t (λ key. reading (h.chains t key) tx s) h.sound.sorted got (none_waits e.catalog t (λ key. reading (h.chains t key) tx s) reply u.1)))
              (scan_resembles e.catalog tx t (λ key. reading (h.chains t key) tx s) (table_of (seen e tx s) t) reply u.1),
        )))
        r)
        (scans e.catalog h.chains h.shows),
    after_asked (StandsBy name then b) e (call.Scan tx t) reply refl (kept name told before now shown then b b e tx shows h),
  )
    where
      parts : (is_standing (opening_of e tx) ≡ true) × (has_table e t ≡ true)
      parts = and_parts _ _ m

      opened : (k : Held) × (held_in b.openings.entries tx ≡ Some k) × (k.floor ≡ None) × (snapshot_of e tx ≡ k.snapshot) × (b.purged ≤ k.snapshot)
      opened = standing name told before now shown then b b e tx h parts.0

      within : t < length e.rows
      within = ltb-true t (length e.rows) (and_parts _ _ parts.1).0

      at : s ≡ snapshot_of e tx
      at = is ∙ ap snapshot_by opened.1 ∙ sym opened.3

      late : b.purged ≤ s
      late = subst (λ n. b.purged ≤ n) (sym (is ∙ ap snapshot_by opened.1)) opened.4

      got : (key : Value) → busy_or (blocker tx s t key e.versions) (Found (row_of (seen e tx s) t key)) ≡ reading (h.chains t key) tx s
      got key = got_is e tx s b.purged t key (h.chains t key) within late (h.stands.rows t key)

      at_snapshot : answer_of e (call.Scan tx t) ≡ busy_or (least_key None (filter (blocks tx s t) e.versions)) (Rows (table_of (seen e tx s) t))
      at_snapshot = ap (λ n. busy_or (least_key None (filter (blocks tx n t) e.versions)) (Rows (table_of (seen e tx n) t))) (sym at)

      exact : (reply : EngineReply) → IsScan (λ key. reading (h.chains t key) tx s) reply → busy_or (least_key None (filter (blocks tx s t) e.versions)) (Rows (table_of (seen e tx s) t)) ≡ reply
      exact (Rows rows) i = scan_rows e tx s t (λ key. reading (h.chains t key) tx s) h.sound.sorted got rows i
      exact (Fault (fault.Busy by)) i = scan_busy e tx s t b.purged (λ key. reading (h.chains t key) tx s) (h.chains t) got (h.stands.rows t) by i
      exact Done i = absurd i
      exact (Found r) i = absurd i
      exact (Number n) i = absurd i
      exact (Commits cs) i = absurd i
      exact (Fault (fault.Old x y)) i = absurd i
      exact (Fault (fault.Conflict x y)) i = absurd i
      exact (Fault fault.Device) i = absurd i
      exact (Fault fault.NoMemory) i = absurd i
