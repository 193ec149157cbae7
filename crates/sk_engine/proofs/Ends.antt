-- The promises of a stamp, a void and the horizon.
use Rattle.std.specs.Prelude.{◌≡◌, ℕ, ◌<◌, ◌≤◌, List, Option, Some, None, Bool, true, false, cond, not, ◌&&◌, nat_lt, map, IfSome, is_some}
use Rattle.std.proofs.Common.{refl, sym, ap, subst, ◌∙◌, arith}
use Rattle.std.specs.Option.{option_map}
use Rattle.std.specs.List.Sorted.{IsStrictlySortedBy}
use Rattle.std.proofs.lemmas.Bool.{and_parts, false≢true, ltb-true}
use Rattle.sk_rows.specs.declared.table.Table.{Table}
use Rattle.sk_model.specs.declared.label.Label.{Label}
use Rattle.sk_model.specs.declared.engine.EngineName.{EngineName}
use Rattle.sk_model.specs.declared.call.EngineCall.{EngineCall}
use Rattle.sk_model.specs.declared.call.EngineCall.TheVariants as call
use Rattle.sk_model.specs.declared.call.EngineReply.TheVariants.{Done, Number}
use Rattle.sk_model.specs.Records.{same_label}
use Rattle.sk_model.specs.Engine.{EngineTable, opening_of}
use Rattle.sk_model.specs.Engine.{Opening as Opened}
use Rattle.sk_model.specs.EngineReplies.{is_used}
use Rattle.sk_model.specs.EngineConditions.{may, floor_of}
use Rattle.sk_model.specs.EngineConditions.{is_closed as has_floor}
use Rattle.sk_model.specs.EngineChanges.{change}
use Rattle.sk_model.proofs.Listed.{some_is, none_some}
use Rattle.sk_model.specs.EngineInvariant.{FloorFrom}
use Rattle.sk_engine.specs.declared.act.Act.TheVariants as act
use Rattle.sk_engine.specs.declared.row_id.RowId.{RowId}
use Rattle.sk_engine.specs.declared.book.Book.{Book}
use Rattle.sk_engine.specs.Rows.{Chains, all_acted}
use Rattle.sk_engine.specs.Stands.{Held, Stands, held_in, timed, wrote_by, row_id_cmp}
use Rattle.sk_engine.specs.Counts.{Counts, used, Entered}
use Rattle.sk_engine.specs.Engines.{StandsBy, HasRoom}
use Rattle.sk_engine.proofs.Whole.{stands_stamp, stands_void, ready_stamp, ready_void}
use Rattle.sk_engine.proofs.Serving.{LeavesTable, due_reply, after_done, after_asked, sound_change}
use Rattle.sk_engine.proofs.Entries.{counts_stamp, counts_void}

-- of a closed opening, the number is past its floor, and so past the snapshot
floor_past : (o : Option Held) (r : Option Opened) (p start m : ℕ) → option_map timed o ≡ r → has_floor r ≡ true → floor_of r < m → IfSome o (λ h. p ≤ h.snapshot) → IfSome o (λ h. IfSome h.floor (λ f. h.snapshot ≤ f)) → FloorFrom start r
    → (p < m) × (start < m)
floor_past None r p start m is c l t f s = absurd (false≢true (ap has_floor is ∙ c))
floor_past (Some h) r p start m is c l t f s =
    at h.floor refl (subst (λ x. has_floor x ≡ true) (sym is) c) (subst (λ x. floor_of x < m) (sym is) l) f (subst (FloorFrom start) (sym is) s)
  where
    at : (o : Option ℕ) → h.floor ≡ o → is_some h.floor ≡ true → floor_of (Some (timed h)) < m → IfSome h.floor (λ f. h.snapshot ≤ f) → FloorFrom start (Some (timed h)) → (p < m) × (start < m)
    at None e c l f s = absurd (false≢true (ap is_some (sym e) ∙ c))
    at (Some g) e c l f s =
        let below : g < m = subst (λ (x : Option ℕ). floor_of (Some (record { snapshot = h.snapshot; floor = x })) < m) e l in
        let timely : h.snapshot ≤ g = subst (λ x. IfSome x (λ f. h.snapshot ≤ f)) e f in
        let from : start ≤ g = s g e in
        let low : p ≤ h.snapshot = t in
        (omega arith, omega arith)

pub wrote_is : (row_ids : List RowId) (o : Option Held) → Some row_ids ≡ option_map (λ (h : Held). h.wrote) o → row_ids ≡ wrote_by o
wrote_is row_ids None e = none_some (sym e)
wrote_is row_ids (Some h) e = some_is e

module _ (name : EngineName) (told : Bool) (before now : ℕ) (shown then : List Table → Chains → Type 0) (b n : Book) (e : EngineTable) (tx : Label) where
  -- what a stamp and a void rest on
  timely : (m : ℕ) → StandsBy name shown b e → may e (call.Stamp tx m) ≡ true → (has_floor (opening_of e tx) ≡ true) × ((b.purged < m) × (e.start < m)) × (is_used e m ≡ false)
  timely m h a =
      let parts : (has_floor (opening_of e tx) ≡ true) × ((nat_lt (floor_of (opening_of e tx)) m && not (is_used e m)) ≡ true) = and_parts (has_floor (opening_of e tx)) (nat_lt (floor_of (opening_of e tx)) m && not (is_used e m)) a in
      let more = and_parts (nat_lt (floor_of (opening_of e tx)) m) (not (is_used e m)) parts.1 in (
        parts.0,
        floor_past (held_in b.openings.entries tx) (opening_of e tx) b.purged e.start m (h.stands.openings tx) parts.0 (ltb-true (floor_of (opening_of e tx)) m more.0) (h.stands.in_time tx) (h.stands.floors tx) (h.sound.listed.floors tx),
        off (is_used e m) more.1,
      )
    where
      off : (b : Bool) → not b ≡ true → b ≡ false
      off true e = sym e
      off false e = refl

  pub serve_stamp : (m : ℕ) (wrote : List RowId) → n.greatest ≡ b.greatest → n.purged ≡ b.purged
      → ((q : Label) → held_in n.openings.entries q ≡ cond (same_label tx q) None (held_in b.openings.entries q)) → HasRoom n → wrote ≡ wrote_by (held_in b.openings.entries tx)
      → IsStrictlySortedBy row_id_cmp wrote → Entered b.horizon n.horizon (map used b.numbers.items) (map used n.numbers.items) (record { n = m; by = tx; wrote = Some wrote })
      → ((tables : List Table) (chains : Chains) → shown tables chains → then tables (all_acted (act.Stamp m) wrote chains))
      → StandsBy name shown b e → may e (call.Stamp tx m) ≡ true → LeavesTable told before now (StandsBy name then n) e (call.Stamp tx m) (Some Done)
  serve_stamp m wrote top p is room w sorted en shows h a =
      let c : EngineCall = call.Stamp tx m in
      let t = timely m h a in
      let rows : Chains = all_acted (act.Stamp m) (wrote_by (held_in b.openings.entries tx)) h.chains in (
        due_reply told before now e c Done a refl,
        after_done (StandsBy name then n) e c Done a refl (record {
          sound = sound_change name e c a refl h.sound;
          chains = rows;
          shows = subst (λ ps. then e.catalog (all_acted (act.Stamp m) ps h.chains)) w (shows e.catalog h.chains h.shows);
          stands = subst (λ q. Stands n.greatest q (held_in n.openings.entries) rows (change e c)) (sym p)
              (subst (λ g. Stands g b.purged (held_in n.openings.entries) rows (change e c)) (sym top)
              (stands_stamp b.greatest b.purged (held_in b.openings.entries) (held_in n.openings.entries) h.chains e tx m h.stands
              (ready_stamp b.greatest b.purged (held_in b.openings.entries) h.chains e tx m h.stands t.0) is));
          counts = subst (λ q. Counts n.horizon q (map used n.numbers.items) (change e c)) (sym p)
              (counts_stamp b.greatest b.horizon b.purged n.horizon (map used b.numbers.items) (map used n.numbers.items) (held_in b.openings.entries) h.chains e tx m h.stands h.sound.listed h.counts t.1.0 t.1.1 t.2
              (subst (IsStrictlySortedBy row_id_cmp) w sorted)
              (subst (λ ps. Entered b.horizon n.horizon (map used b.numbers.items) (map used n.numbers.items) (record { n = m; by = tx; wrote = Some ps })) w en));
          room = room;
        }),
      )

  pub serve_void : (m : ℕ) (wrote : List RowId) → n.greatest ≡ b.greatest → n.purged ≡ b.purged
      → ((q : Label) → held_in n.openings.entries q ≡ cond (same_label tx q) None (held_in b.openings.entries q)) → HasRoom n → wrote ≡ wrote_by (held_in b.openings.entries tx)
      → Entered b.horizon n.horizon (map used b.numbers.items) (map used n.numbers.items) (record { n = m; by = tx; wrote = None })
      → ((tables : List Table) (chains : Chains) → shown tables chains → then tables (all_acted act.Void wrote chains))
      → StandsBy name shown b e → may e (call.Void tx m) ≡ true → LeavesTable told before now (StandsBy name then n) e (call.Void tx m) (Some Done)
  serve_void m wrote top p is room w en shows h a =
      let c : EngineCall = call.Void tx m in
      let t = timely m h a in
      let rows : Chains = all_acted act.Void (wrote_by (held_in b.openings.entries tx)) h.chains in (
        due_reply told before now e c Done a refl,
        after_done (StandsBy name then n) e c Done a refl (record {
          sound = sound_change name e c a refl h.sound;
          chains = rows;
          shows = subst (λ ps. then e.catalog (all_acted act.Void ps h.chains)) w (shows e.catalog h.chains h.shows);
          stands = subst (λ q. Stands n.greatest q (held_in n.openings.entries) rows (change e c)) (sym p)
              (subst (λ g. Stands g b.purged (held_in n.openings.entries) rows (change e c)) (sym top)
              (stands_void b.greatest b.purged (held_in b.openings.entries) (held_in n.openings.entries) h.chains e tx m h.stands (ready_void tx h.chains) is));
          counts = subst (λ q. Counts n.horizon q (map used n.numbers.items) (change e c)) (sym p)
              (counts_void b.greatest b.horizon b.purged n.horizon (map used b.numbers.items) (map used n.numbers.items) (held_in b.openings.entries) h.chains e tx m h.stands h.sound.listed h.counts t.1.0 t.1.1 t.2 en);
          room = room;
        }),
      )
