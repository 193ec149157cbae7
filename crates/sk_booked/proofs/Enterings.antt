-- What an applied call enters into a journal, and what is kept of the table with which an engine was made.
use Rattle.std.specs.Prelude.{◌≡◌, ℕ, ◌<◌, ◌^◌, ◌⊎◌, List, [], ◌∷◌, ◌++◌, Option, Some, None, Bool, true, false, cond, ◌&&◌, map, length, nat_lt}
use Rattle.std.proofs.Common.{refl, sym, ap, subst, ◌∙◌, arith, inl, inr, ⊎_elim}
use Rattle.std.proofs.lemmas.Bool.{false≢true}
use Rattle.std.proofs.lemmas.List.{append-nil, length-append}
use mathlib.Core.List.{map-append}
use Rattle.std.specs.List.{find as find_first, filter}
use Rattle.sk_outside.specs.Causes.{Rose}
use Rattle.sk_rows.specs.declared.table.Table.{Table}
use Rattle.sk_rows.specs.declared.value.Value.{Value}
use Rattle.sk_model.specs.declared.label.Label.{Label}
use Rattle.sk_model.specs.declared.call.EngineCall.{EngineCall}
use Rattle.sk_model.specs.declared.call.EngineCall.TheVariants as call
use Rattle.sk_model.specs.declared.call.EngineFault.TheVariants as fault
use Rattle.sk_model.specs.declared.call.EngineReply.{EngineReply}
use Rattle.sk_model.specs.declared.call.EngineReply.TheVariants.{Done, Found, Rows, Number, Commits, Fault}
use Rattle.sk_model.specs.declared.call.Entry.{Entry}
use Rattle.sk_model.specs.Database.{RowOf, KeyedRows}
use Rattle.sk_model.specs.Engine.{EngineTable, VersionState, Open, Closed, Stamped, Dropped, Version, is_stamped, is_of, snapshot_of, write_at}
use Rattle.sk_model.specs.EngineReplies.{busy_or, past_of, past_or, conflict_or, is_rival, last_in, answer_of}
use Rattle.sk_model.specs.EngineConditions.{may}
use Rattle.sk_model.specs.Legal.{step, due, touches, may_fail, after_entries, Legal}
use Rattle.sk_model.specs.Resembling.{Resembles}
use Rattle.sk_model.specs.Journal.{most_entries}
use Rattle.sk_chain.specs.declared.noted.Noted.{Noted}
use Rattle.sk_chain.specs.Promise.{entry_of}
use Rattle.sk_chain.specs.Runs.{entered_by}
use Rattle.sk_chain.specs.Noting.{engine_of, journal_of, noted_stands}
use Rattle.sk_chain.specs.Applying.{IsInUse, entered_reply, may_want, Answers, Follows, Applies}
use Rattle.sk_chain.proofs.Applied.{applied_stays_legal}
use Rattle.sk_booked.specs.Writing.{Writes}
use Rattle.sk_booked.specs.Engines.{pair_of, pairs_of, MadeWith, Descends, Enters, Leaves}

cond_both : {X : Type 0} (b : Bool) (x y : X) (P : X → Type 0) → P x → P y → P (cond b x y)
cond_both true x y P p q = p
cond_both false x y P p q = q

-- The reply that is due is of the call's kind

waits_get : (tx : Label) (t : ℕ) (key : Value) (o : Option Version) (row : Option RowOf) → Enters (call.Get tx t key) (busy_or o (Found row))
waits_get tx t key None row = tt
waits_get tx t key (Some v) row = tt

waits_scan : (tx : Label) (t : ℕ) (o : Option Version) (rows : KeyedRows) → Enters (call.Scan tx t) (busy_or o (Rows rows))
waits_scan tx t None rows = tt
waits_scan tx t (Some v) rows = tt

past_put : (tx : Label) (t : ℕ) (key : Value) (row : Option RowOf) (s : ℕ) (by : Label) (o : VersionState) → Enters (call.Put tx t key row) (past_of s by o)
past_put tx t key row s by Open = tt
past_put tx t key row s by (Closed f) = tt
past_put tx t key row s by (Stamped n) = cond_both (nat_lt s n) _ _ (Enters (call.Put tx t key row)) tt tt
past_put tx t key row s by Dropped = tt

past_or_put : (tx : Label) (t : ℕ) (key : Value) (row : Option RowOf) (s : ℕ) (o : Option Version) → Enters (call.Put tx t key row) (past_or s o)
past_or_put tx t key row s None = tt
past_or_put tx t key row s (Some v) = past_put tx t key row s v.by v.standing

conflict_put : (tx : Label) (t : ℕ) (key : Value) (row : Option RowOf) (o : Option Version) (reply : EngineReply) → Enters (call.Put tx t key row) reply → Enters (call.Put tx t key row) (conflict_or o reply)
conflict_put tx t key row None reply h = h
conflict_put tx t key row (Some v) reply h = tt

answer_enters : (e : EngineTable) (c : EngineCall) → Enters c (answer_of e c)
answer_enters e (call.Open tx s) = cond_both (nat_lt s e.purged) _ _ (Enters (call.Open tx s)) tt tt
answer_enters e (call.Get tx t key) = waits_get tx t key _ _
answer_enters e (call.Scan tx t) = waits_scan tx t _ _
answer_enters e (call.Put tx t key row) =
    let newest = last_in None (filter (λ (v : Version). is_of t key v && is_stamped v.standing) e.versions) in
    conflict_put tx t key row (find_first (is_rival tx (write_at t key row)) e.versions) (past_or (snapshot_of e tx) newest) (past_or_put tx t key row (snapshot_of e tx) newest)
answer_enters e (call.Close tx) = tt
answer_enters e (call.Stamp tx n) = tt
answer_enters e (call.Void tx n) = tt
answer_enters e (call.DropTx tx) = tt
answer_enters e call.Horizon = tt
answer_enters e (call.Records from to) = tt
answer_enters e (call.Purge upto) = tt

due_enters : (e : EngineTable) (c : EngineCall) → Enters c (due e c)
due_enters e (call.Open tx s) = cond_both (may e (call.Open tx s)) _ _ (Enters (call.Open tx s)) (answer_enters e (call.Open tx s)) tt
due_enters e (call.Get tx t key) = cond_both (may e (call.Get tx t key)) _ _ (Enters (call.Get tx t key)) (answer_enters e (call.Get tx t key)) tt
due_enters e (call.Scan tx t) = cond_both (may e (call.Scan tx t)) _ _ (Enters (call.Scan tx t)) (answer_enters e (call.Scan tx t)) tt
due_enters e (call.Put tx t key row) = cond_both (may e (call.Put tx t key row)) _ _ (Enters (call.Put tx t key row)) (answer_enters e (call.Put tx t key row)) tt
due_enters e (call.Close tx) = cond_both (may e (call.Close tx)) _ _ (Enters (call.Close tx)) tt tt
due_enters e (call.Stamp tx n) = cond_both (may e (call.Stamp tx n)) _ _ (Enters (call.Stamp tx n)) tt tt
due_enters e (call.Void tx n) = cond_both (may e (call.Void tx n)) _ _ (Enters (call.Void tx n)) tt tt
due_enters e (call.DropTx tx) = cond_both (may e (call.DropTx tx)) _ _ (Enters (call.DropTx tx)) tt tt
due_enters e call.Horizon = tt
due_enters e (call.Records from to) = cond_both (may e (call.Records from to)) _ _ (Enters (call.Records from to)) tt tt
due_enters e (call.Purge upto) = tt

-- so is one that resembles it, and the fault of a device

found_like : (tables : List Table) (tx : Label) (t : ℕ) (key : Value) (d r : EngineReply) → Resembles tables (call.Get tx t key) d r → Enters (call.Get tx t key) r
found_like tables tx t key (Found d) (Found r) h = tt
found_like tables tx t key (Found d) Done h = absurd h
found_like tables tx t key (Found d) (Rows rows) h = absurd h
found_like tables tx t key (Found d) (Number n) h = absurd h
found_like tables tx t key (Found d) (Commits cs) h = absurd h
found_like tables tx t key (Found d) (Fault f) h = absurd h
found_like tables tx t key Done r h = absurd h
found_like tables tx t key (Rows rows) r h = absurd h
found_like tables tx t key (Number n) r h = absurd h
found_like tables tx t key (Commits cs) r h = absurd h
found_like tables tx t key (Fault f) r h = absurd h

rows_like : (tables : List Table) (tx : Label) (t : ℕ) (d r : EngineReply) → Resembles tables (call.Scan tx t) d r → Enters (call.Scan tx t) r
rows_like tables tx t (Rows d) (Rows r) h = tt
rows_like tables tx t (Rows d) Done h = absurd h
rows_like tables tx t (Rows d) (Found r) h = absurd h
rows_like tables tx t (Rows d) (Number n) h = absurd h
rows_like tables tx t (Rows d) (Commits cs) h = absurd h
rows_like tables tx t (Rows d) (Fault f) h = absurd h
rows_like tables tx t Done r h = absurd h
rows_like tables tx t (Found d) r h = absurd h
rows_like tables tx t (Number n) r h = absurd h
rows_like tables tx t (Commits cs) r h = absurd h
rows_like tables tx t (Fault f) r h = absurd h

commits_like : (tables : List Table) (from to : ℕ) (d r : EngineReply) → Resembles tables (call.Records from to) d r → Enters (call.Records from to) r
commits_like tables from to (Commits d) (Commits r) h = tt
commits_like tables from to (Commits d) Done h = absurd h
commits_like tables from to (Commits d) (Found r) h = absurd h
commits_like tables from to (Commits d) (Rows rows) h = absurd h
commits_like tables from to (Commits d) (Number n) h = absurd h
commits_like tables from to (Commits d) (Fault f) h = absurd h
commits_like tables from to Done r h = absurd h
commits_like tables from to (Found d) r h = absurd h
commits_like tables from to (Rows rows) r h = absurd h
commits_like tables from to (Number n) r h = absurd h
commits_like tables from to (Fault f) r h = absurd h

like_enters : (tables : List Table) (c : EngineCall) (d r : EngineReply) → Resembles tables c d r → Enters c r
like_enters tables (call.Open tx s) d r h = absurd h
like_enters tables (call.Get tx t key) d r h = found_like tables tx t key d r h
like_enters tables (call.Scan tx t) d r h = rows_like tables tx t d r h
like_enters tables (call.Put tx t key row) d r h = absurd h
like_enters tables (call.Close tx) d r h = absurd h
like_enters tables (call.Stamp tx n) d r h = absurd h
like_enters tables (call.Void tx n) d r h = absurd h
like_enters tables (call.DropTx tx) d r h = absurd h
like_enters tables call.Horizon d r h = absurd h
like_enters tables (call.Records from to) d r h = commits_like tables from to d r h
like_enters tables (call.Purge upto) d r h = absurd h

touching : (e : EngineTable) (c : EngineCall) → may_fail e c ≡ true → touches c ≡ true
touching e c m = by (may e c) m
  where
    by : (b : Bool) → (b && touches c) ≡ true → touches c ≡ true
    by true h = h
    by false h = absurd (false≢true h)

device_enters : (c : EngineCall) → touches c ≡ true → Enters c (Fault fault.Device)
device_enters (call.Open tx s) t = absurd (false≢true t)
device_enters (call.Get tx t key) h = tt
device_enters (call.Scan tx t) h = tt
device_enters (call.Put tx t key row) h = tt
device_enters (call.Close tx) t = absurd (false≢true t)
device_enters (call.Stamp tx n) t = absurd (false≢true t)
device_enters (call.Void tx n) t = absurd (false≢true t)
device_enters (call.DropTx tx) t = absurd (false≢true t)
device_enters call.Horizon t = absurd (false≢true t)
device_enters (call.Records from to) h = tt
device_enters (call.Purge upto) h = tt

answers_enter : (told : Bool) (before now : ℕ) (e : EngineTable) (c : EngineCall) (r : EngineReply) → Answers told before now e c r → Enters c r
answers_enter told before now e c r a = ⊎_elim
    (λ (d : (may_fail e c ≡ true) × (r ≡ Fault fault.Device) × Rose before now). subst (Enters c) (sym d.1) (device_enters c (touching e c d.0)))
    (λ (k : (due e c ≡ r) ⊎ ((told ≡ false) × (may e c ≡ true) × Resembles e.catalog c (due e c) r)). ⊎_elim
    (λ (d : due e c ≡ r). subst (Enters c) d (due_enters e c))
    (λ (n : (told ≡ false) × (may e c ≡ true) × Resembles e.catalog c (due e c) r). like_enters e.catalog c (due e c) r n.2)
    k)
    a

-- a call that may want memory is no Horizon
memory_leaves : (e : EngineTable) (c : EngineCall) → may_want e c ≡ true → Leaves c (Fault fault.NoMemory)
memory_leaves e (call.Open tx s) w = tt
memory_leaves e (call.Get tx t key) w = tt
memory_leaves e (call.Scan tx t) w = tt
memory_leaves e (call.Put tx t key row) w = tt
memory_leaves e (call.Close tx) w = tt
memory_leaves e (call.Stamp tx n) w = tt
memory_leaves e (call.Void tx n) w = tt
memory_leaves e (call.DropTx tx) w = tt
memory_leaves e call.Horizon w = absurd (false≢true w)
memory_leaves e (call.Records from to) w = tt
memory_leaves e (call.Purge upto) w = tt

-- a reply is entered, or it is want of memory
entered_or : (r : EngineReply) → (entered_reply r ≡ Some r) ⊎ ((entered_reply r ≡ None) × (r ≡ Fault fault.NoMemory))
entered_or Done = inl refl
entered_or (Found row) = inl refl
entered_or (Rows rows) = inl refl
entered_or (Number n) = inl refl
entered_or (Commits cs) = inl refl
entered_or (Fault (fault.Old s h)) = inl refl
entered_or (Fault (fault.Busy by)) = inl refl
entered_or (Fault (fault.Conflict by why)) = inl refl
entered_or (Fault fault.Device) = inl refl
entered_or (Fault fault.NoMemory) = inr (refl, refl)

after_entries-snoc : (e : EngineTable) (js : List Entry) (j : Entry) → after_entries e (js ++ j ∷ []) ≡ step (after_entries e js) j
after_entries-snoc e [] j = refl
after_entries-snoc e (x ∷ xs) j = after_entries-snoc (step e x) xs j

module _ {G : Type 0} (told : Bool) (faults : G → ℕ) (stands : G → EngineTable → List Entry → Type 0) where
  abbrev Stood : Noted G → EngineTable → List Entry → Type 0
  Stood = noted_stands stands

  -- an engine stands for its table behind the journal that it has
  rebased : (x : Noted G) (e : EngineTable) (js : List Entry) → Stood x e js → Stood x e (journal_of x)
  rebased x e js h = record { behind = h.behind; engine = h.engine; entries = λ l. refl; room = h.room; sorted = h.sorted; goes = h.goes }

  module _ (old new : Noted G) (c : EngineCall) (r : EngineReply) (few : length (journal_of old) < most_entries) (a : Applies told (λ x. faults (engine_of x)) Stood old new c (entered_reply r)) where
    abbrev Left : EngineTable → Option EngineReply → Type 0
    Left e x = Follows told (faults (engine_of old)) (faults (engine_of new)) (Stood new) e (journal_of old) c x

    left_as : (e : EngineTable) (x : Option EngineReply) → entered_reply r ≡ x → Stood old e (journal_of old) → Left e x
    left_as e x is st = subst (Left e) is (a.holds e (journal_of old) st)

    -- where it was entered, the entry stands behind the others
    entered_is : (e : EngineTable) → Left e (Some r) → journal_of new ≡ journal_of old ++ entry_of c r ∷ []
    entered_is e f = f.1.entries (let long = length-append (journal_of old) (entry_of c r ∷ []) in omega arith)

    left_is : (e : EngineTable) → Left e None → journal_of new ≡ journal_of old
    left_is e f = f.1.entries (omega arith)

    pub writes : IsInUse Stood old → Writes Enters Leaves (pairs_of old) c r (pairs_of new)
    writes u = ⊎_elim
        (λ (is : entered_reply r ≡ Some r).
        let f = left_as u.0 (Some r) is (rebased old u.0 u.1 u.2) in
        inl (ap (map pair_of) (entered_is u.0 f) ∙ map-append pair_of (journal_of old) (entry_of c r ∷ []), answers_enter told (faults (engine_of old)) (faults (engine_of new)) u.0 c r f.0))
        (λ (is : (entered_reply r ≡ None) × (r ≡ Fault fault.NoMemory)).
        let f = left_as u.0 None is.0 (rebased old u.0 u.1 u.2) in
        inr (ap (map pair_of) (left_is u.0 f), subst (Leaves c) (sym is.1) (memory_leaves u.0 c f.0)))
        (entered_or r)

    made_on : (first : EngineTable) (js : List Entry) → journal_of new ≡ js → Stood new (after_entries first js) js → (told ≡ true → Legal first js) → MadeWith told stands new first
    made_on first js is st legal = record { stood = subst (λ l. Stood new (after_entries first l) l) (sym is) st; legal = λ t. subst (Legal first) (sym is) (legal t) }

    -- the engine has the legal entries that it had, and the new one
    legal_on : (first : EngineTable) (m : MadeWith told stands old first) (x : Option EngineReply) → entered_reply r ≡ x → told ≡ true → Legal first (journal_of old ++ entered_by c x)
    legal_on first m x is t = subst (λ (o : Option EngineReply). Legal first (journal_of old ++ entered_by c o)) is
        (applied_stays_legal told (λ y. faults (engine_of y)) Stood t old new c (entered_reply r) first (journal_of old) (record { legal = m.legal t; stood = m.stood }) a).legal

    pub descends : Descends told faults stands old new
    descends = record {
      later = a.later;
      made = λ first m. ⊎_elim
          (λ (is : entered_reply r ≡ Some r).
          let e = after_entries first (journal_of old) in
          let f = left_as e (Some r) is m.stood in
          made_on first (journal_of old ++ entry_of c r ∷ []) (entered_is e f)
          (subst (λ z. Stood new z (journal_of old ++ entry_of c r ∷ [])) (sym (after_entries-snoc first (journal_of old) (entry_of c r))) f.1) (legal_on first m (Some r) is))
          (λ (is : (entered_reply r ≡ None) × (r ≡ Fault fault.NoMemory)).
          let e = after_entries first (journal_of old) in
          let f = left_as e None is.0 m.stood in
          made_on first (journal_of old) (left_is e f) f.1 (λ t. subst (Legal first) (append-nil (journal_of old)) (legal_on first m None is.0 t)))
          (entered_or r);
    }

-- a journal whose length is a number that is not the greatest has fewer entries than there may be
pub few_entries : {G : Type 0} (x : Noted G) (n : ℕ) → n ≡ length (journal_of x) → n < 2 ^ 64 → (n ≡ 18446744073709551615 → ⊥) → length (journal_of x) < most_entries
few_entries x n is small ne = omega arith
