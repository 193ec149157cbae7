-- The Puts of a transaction in a journal are those of its talk: each engine has those to its own tables.
use Rattle.std.specs.Prelude.{ℕ, List, [], ◌∷◌, ◌++◌, Option, Some, None, Bool, true, false, cond, not, ◌&&◌, ◌≡◌, ◌⊎◌, nat_lt, length, slice_get}
use Rattle.std.proofs.Common.{refl, sym, ap, subst, ◌∙◌, inl, inr, ⊎_elim}
use Rattle.std.specs.List.{filter, find as find_first}
use Rattle.std.proofs.lemmas.Bool.{cond-true, cond-false, false≢true, and_parts, and_from, and_right}
use Rattle.std.proofs.lemmas.List.{append-nil}
use Rattle.std.proofs.lemmas.List.Elements.{filter-append}
use Rattle.std.proofs.lemmas.List.Concat.{flat_map-append}
use Rattle.sk_rows.specs.declared.value.Value.{Value}
use Rattle.sk_rows.specs.declared.table.Table.{Table}
use Rattle.sk_model.specs.declared.label.Label.{Label}
use Rattle.sk_model.specs.declared.engine.EngineName.{EngineName}
use Rattle.sk_model.specs.declared.engine.EngineName.TheVariants.{Mem, Store}
use Rattle.sk_model.specs.declared.commit.Write.{Write}
use Rattle.sk_model.specs.declared.call.EngineCall.{EngineCall}
use Rattle.sk_model.specs.declared.call.EngineCall.TheVariants as call
use Rattle.sk_model.specs.declared.call.EngineFault.{EngineFault}
use Rattle.sk_model.specs.declared.call.EngineFault.TheVariants as fault
use Rattle.sk_model.specs.declared.call.EngineReply.{EngineReply}
use Rattle.sk_model.specs.declared.call.EngineReply.TheVariants.{Done, Fault}
use Rattle.sk_model.specs.declared.call.Entry.{Entry}
use Rattle.sk_model.specs.declared.reply.Why.TheVariants as why
use Rattle.sk_model.specs.Database.{RowOf}
use Rattle.sk_model.specs.Records.{same_label}
use Rattle.sk_model.specs.Engine.{VersionState, Open, Closed, Stamped, Dropped, Version, EngineTable, is_stamped, is_of, is_kept, keeps, opening_of, snapshot_of, write_at}
use Rattle.sk_model.specs.EngineReplies.{why_undecided, past_of, past_or, conflict_or, is_rival, last_in, put_answer}
use Rattle.sk_model.specs.EngineConditions.{may, has_table, has_key, has_row, is_standing}
use Rattle.sk_model.specs.Legal.{may_fail, step, due, IsReply, Legal, Allowed}
use Rattle.sk_model.specs.Calls.{put_by, puts_of}
use Rattle.sk_model.specs.Talks.{Talk, call_in, calls_in, wrote_by, wrote_in, puts_in, tx_of, is_tx, is_by}
use Rattle.sk_model.proofs.Lists.{Each, each_front, each_end}
use Rattle.sk_model.proofs.Reading.{name_stays, catalog_stays}
use Rattle.sk_weave.specs.Woven.{own_writes}
use Rattle.sk_linked.specs.Reads.{owns}

-- done, or refused
abbrev DoneOr : EngineReply → Type 0
DoneOr r = (r ≡ Done) ⊎ ((f : EngineFault) × (r ≡ Fault f))

past_done : (s : ℕ) (by : Label) (st : VersionState) → DoneOr (past_of s by st)
past_done s by Open = inl refl
past_done s by (Closed f) = inl refl
past_done s by (Stamped n) = at (nat_lt s n)
  where
    at : (b : Bool) → DoneOr (cond b (Fault (fault.Conflict by (why.Past n s))) Done)
    at true = inr (fault.Conflict by (why.Past n s), refl)
    at false = inl refl
past_done s by Dropped = inl refl

past_or_done : (s : ℕ) (v : Option Version) → DoneOr (past_or s v)
past_or_done s None = inl refl
past_or_done s (Some v) = past_done s v.by v.standing

conflict_done : (v : Option Version) (r : EngineReply) → DoneOr r → DoneOr (conflict_or v r)
conflict_done None r h = h
conflict_done (Some v) r h = inr (fault.Conflict v.by (why_undecided v.standing), refl)

put_done : (e : EngineTable) (tx : Label) (w : Write) → DoneOr (put_answer e tx w)
put_done e tx w = conflict_done (find_first (is_rival tx w) e.versions) (past_or (snapshot_of e tx) (last_in None (filter (λ v. is_of w.table w.key v && is_stamped v.standing) e.versions)))
    (past_or_done (snapshot_of e tx) (last_in None (filter (λ v. is_of w.table w.key v && is_stamped v.standing) e.versions)))

put_replied : (e : EngineTable) (tx : Label) (t : ℕ) (key : Value) (row : Option RowOf) (reply : EngineReply) → may e (call.Put tx t key row) ≡ true → IsReply e (call.Put tx t key row) reply → DoneOr reply
put_replied e tx t key row reply m h = ⊎_elim
    (λ (k : (may_fail e (call.Put tx t key row) ≡ true) × (reply ≡ Fault fault.Device)). inr (fault.Device, k.1))
    (λ (k : due e (call.Put tx t key row) ≡ reply). subst DoneOr (sym (cond-true (may e (call.Put tx t key row)) (put_answer e tx (write_at t key row)) Done m) ∙ k) (put_done e tx (write_at t key row)))
    h

-- what an own call wrote is to tables of its engine, and is what the journal has of it
pub record PutsWell (catalog : List Table) (name : EngineName) (tx : Label) (j : Entry) : Type 0 where
  pub same : put_by tx j.call j.reply ≡ wrote_by j.call j.reply
  pub owned : Each (λ (w : Write). owns catalog name w.table ≡ true) (wrote_by j.call j.reply)

pub kept_owned : (catalog : List Table) (name : EngineName) (t : ℕ) → keeps name catalog t ≡ true → owns catalog name t ≡ true
kept_owned catalog Mem t k = mem_kept (slice_get catalog t) k
  where
    mem_kept : (o : Option Table) → is_kept Mem o ≡ true → not (is_kept Store o) ≡ true
    mem_kept None k = absurd (false≢true k)
    mem_kept (Some table) k = k
kept_owned catalog Store t k = k

put_well : (catalog : List Table) (name : EngineName) (tx other : Label) (t : ℕ) (key : Value) (row : Option RowOf) (reply : EngineReply) → same_label tx other ≡ true → keeps name catalog t ≡ true → DoneOr reply
    → PutsWell catalog name tx (record { call = call.Put other t key row; reply = reply })
put_well catalog name tx other t key row reply s k h = ⊎_elim
    (λ (d : reply ≡ Done). subst (λ r. PutsWell catalog name tx (record { call = call.Put other t key row; reply = r })) (sym d) (record {
      same = cond-true (same_label tx other && true) (write_at t key row ∷ []) [] (and_from (same_label tx other) true s refl);
      owned = (kept_owned catalog name t k, tt);
    }))
    (λ (d : (f : EngineFault) × (reply ≡ Fault f)). subst (λ r. PutsWell catalog name tx (record { call = call.Put other t key row; reply = r })) (sym d.1) (record {
      same = cond-false (same_label tx other && false) (write_at t key row ∷ []) [] (and_right (same_label tx other) false refl);
      owned = tt;
    }))
    h

calls_well : (catalog : List Table) (name : EngineName) (tx : Label) (e : EngineTable) (c : EngineCall) (reply : EngineReply) → e.name ≡ name → e.catalog ≡ catalog → may e c ≡ true → IsReply e c reply → is_tx tx (tx_of c) ≡ true
    → PutsWell catalog name tx (record { call = c; reply = reply })
calls_well catalog name tx e (call.Open other s) reply n c m h b = record { same = refl; owned = tt }
calls_well catalog name tx e (call.Get other t key) reply n c m h b = record { same = refl; owned = tt }
calls_well catalog name tx e (call.Scan other t) reply n c m h b = record { same = refl; owned = tt }
calls_well catalog name tx e (call.Put other t key row) reply n c m h b =
    let parts : (is_standing (opening_of e other) ≡ true) × ((has_table e t && (has_key e t key && has_row e t key row)) ≡ true) = and_parts (is_standing (opening_of e other)) (has_table e t && (has_key e t key && has_row e t key row)) m in
    let has : has_table e t ≡ true = (and_parts (has_table e t) (has_key e t key && has_row e t key row) parts.1).0 in
    let kept : keeps e.name e.catalog t ≡ true = (and_parts (nat_lt t (length e.rows)) (keeps e.name e.catalog t) has).1 in
    put_well catalog name tx other t key row reply b (sym (ap (λ (x : EngineName). keeps x e.catalog t) n ∙ ap (λ (x : List Table). keeps name x t) c) ∙ kept) (put_replied e other t key row reply m h)
calls_well catalog name tx e (call.Close other) reply n c m h b = record { same = refl; owned = tt }
calls_well catalog name tx e (call.Stamp other k) reply n c m h b = record { same = refl; owned = tt }
calls_well catalog name tx e (call.Void other k) reply n c m h b = record { same = refl; owned = tt }
calls_well catalog name tx e (call.DropTx other) reply n c m h b = record { same = refl; owned = tt }
calls_well catalog name tx e call.Horizon reply n c m h b = absurd (false≢true b)
calls_well catalog name tx e (call.Records from to) reply n c m h b = absurd (false≢true b)
calls_well catalog name tx e (call.Purge upto) reply n c m h b = absurd (false≢true b)

-- each own entry of a journal
pub entries_well : (catalog : List Table) (name : EngineName) (tx : Label) (e : EngineTable) (js : List Entry) → e.name ≡ name → e.catalog ≡ catalog → Legal e js → Allowed e js
    → Each (λ (j : Entry). is_by tx j ≡ true → PutsWell catalog name tx j) js
entries_well catalog name tx e [] n c l a = tt
entries_well catalog name tx e (j ∷ js) n c l a = (
  (λ b. calls_well catalog name tx e j.call j.reply n c a.0 l.0 b),
  entries_well catalog name tx (step e j) js (name_stays e (j ∷ []) ∙ n) (catalog_stays e (j ∷ []) ∙ c) l.1 a.1,
)

pub puts_are : (catalog : List Table) (name : EngineName) (tx : Label) (js : List Entry) → Each (PutsWell catalog name tx) js → puts_of tx js ≡ wrote_in js
puts_are catalog name tx [] h = refl
puts_are catalog name tx (j ∷ js) h = ap (λ ws. ws ++ puts_of tx js) h.0.same ∙ ap (λ ws. wrote_by j.call j.reply ++ ws) (puts_are catalog name tx js h.1)

all_pass : (p : Write → Bool) (ws : List Write) → Each (λ w. p w ≡ true) ws → filter p ws ≡ ws
all_pass p [] h = refl
all_pass p (w ∷ ws) h = cond-true (p w) (w ∷ filter p ws) (filter p ws) h.0 ∙ ap (λ xs. w ∷ xs) (all_pass p ws h.1)

none_pass : (p q : Write → Bool) (ws : List Write) → ((w : Write) → q w ≡ true → p w ≡ false) → Each (λ w. q w ≡ true) ws → filter p ws ≡ []
none_pass p q [] f h = refl
none_pass p q (w ∷ ws) f h = cond-false (p w) (w ∷ filter p ws) (filter p ws) (f w h.0) ∙ none_pass p q ws f h.1

-- a table is of one engine alone
pub owned_else : (catalog : List Table) (t : ℕ) → (owns catalog Mem t ≡ true → owns catalog Store t ≡ false) × (owns catalog Store t ≡ true → owns catalog Mem t ≡ false)
owned_else catalog t = at (keeps Store catalog t)
  where
    at : (b : Bool) → (not b ≡ true → b ≡ false) × (b ≡ true → not b ≡ false)
    at true = ((λ e. absurd (false≢true e)), (λ e. refl))
    at false = ((λ e. refl), (λ e. absurd (false≢true e)))

abbrev IsOwned : List Table → EngineName → Entry → Type 0
IsOwned catalog name j = Each (λ (w : Write). owns catalog name w.table ≡ true) (wrote_by j.call j.reply)

-- what a talk wrote to one engine's tables is what its calls on that engine wrote
pub own_puts : (catalog : List Table) (talk : Talk) → ((name : EngineName) → Each (IsOwned catalog name) (calls_in name talk)) → (name : EngineName) → own_writes (owns catalog name) (puts_in talk) ≡ wrote_in (calls_in name talk)
own_puts catalog [] h name = refl
own_puts catalog (c ∷ cs) h name =
    filter-append (λ (w : Write). owns catalog name w.table) (wrote_by c.entry.call c.entry.reply) (puts_in cs)
    ∙ ap (λ ws. own_writes (owns catalog name) (wrote_by c.entry.call c.entry.reply) ++ ws) (own_puts catalog cs (λ n. each_end (IsOwned catalog n) (call_in n c) (calls_in n cs) (h n)) name)
    ∙ ap (λ ws. ws ++ wrote_in (calls_in name cs)) (one name c.engine c.entry (λ n. each_front (IsOwned catalog n) (call_in n c) (calls_in n cs) (h n)))
    ∙ sym (flat_map-append (λ (j : Entry). wrote_by j.call j.reply) (call_in name c) (calls_in name cs))
  where
    one : (name engine : EngineName) (j : Entry) → ((n : EngineName) → Each (IsOwned catalog n) (call_in n (record { engine = engine; entry = j })))
        → own_writes (owns catalog name) (wrote_by j.call j.reply) ≡ wrote_in (call_in name (record { engine = engine; entry = j }))
    one Mem Mem j k = all_pass (λ (w : Write). owns catalog Mem w.table) (wrote_by j.call j.reply) (k Mem).0 ∙ sym (append-nil (wrote_by j.call j.reply))
    one Mem Store j k = none_pass (λ (w : Write). owns catalog Mem w.table) (λ (w : Write). owns catalog Store w.table) (wrote_by j.call j.reply) (λ w q. (owned_else catalog w.table).1 q) (k Store).0
    one Store Mem j k = none_pass (λ (w : Write). owns catalog Store w.table) (λ (w : Write). owns catalog Mem w.table) (wrote_by j.call j.reply) (λ w q. (owned_else catalog w.table).0 q) (k Mem).0
    one Store Store j k = all_pass (λ (w : Write). owns catalog Store w.table) (wrote_by j.call j.reply) (k Store).0 ∙ sym (append-nil (wrote_by j.call j.reply))
