-- The calls that statements make fit the tables, as long as the rows that they found do.
use Rattle.std.specs.Prelude.{ℕ, Bool, true, false, cond, not, ◌≡◌, ◌⊎◌, ◌<◌, List, [], ◌∷◌, ◌++◌, map, length, nat_lt, zero, suc, Option, Some, None}
use Rattle.std.proofs.Common.{refl, sym, ap, subst, ◌∙◌, inl, inr, ⊎_elim, arith}
use Rattle.std.specs.List.{list_all, position_or_len}
use Rattle.std.specs.Str.{bytes_eq}
use Rattle.std.proofs.lemmas.Bool.{and_parts, and_from, cases_Bool, false≢true, lt-ltb, ltb-true}
use Rattle.std.proofs.lemmas.List.Concat.{flat_map-append}
use Rattle.sk_rows.specs.declared.value.Value.{Value}
use Rattle.sk_rows.specs.declared.table.Column.{Column}
use Rattle.sk_rows.specs.declared.table.Table.{Table}
use Rattle.sk_rows.specs.declared.statement.Statement.{Statement}
use Rattle.sk_rows.specs.declared.statement.Statement.TheVariants as statement
use Rattle.sk_rows.specs.Catalog.{is_table, are_columns, are_named}
use Rattle.sk_model.specs.declared.label.Label.{Label}
use Rattle.sk_model.specs.declared.engine.EngineName.{EngineName}
use Rattle.sk_model.specs.declared.engine.EngineName.TheVariants.{Mem, Store}
use Rattle.sk_model.specs.declared.commit.Write.{Write}
use Rattle.sk_model.specs.declared.record.Said.{Said}
use Rattle.sk_model.specs.declared.record.TxKind.{TxKind}
use Rattle.sk_model.specs.declared.reply.ErrWord.{ErrWord}
use Rattle.sk_model.specs.declared.reply.ErrWord.TheVariants as err
use Rattle.sk_model.specs.declared.reply.Reply.{Reply}
use Rattle.sk_model.specs.declared.reply.Reply.TheVariants as reply
use Rattle.sk_model.specs.declared.call.EngineCall.{EngineCall}
use Rattle.sk_model.specs.declared.call.EngineCall.TheVariants as call
use Rattle.sk_model.specs.declared.call.EngineReply.{EngineReply}
use Rattle.sk_model.specs.declared.call.EngineReply.TheVariants as answer
use Rattle.sk_model.specs.Database.{KeyedRows, RowOf, Tables}
use Rattle.sk_model.specs.Engine.{is_kept, keeps, engine_at}
use Rattle.sk_model.specs.EngineConditions.{has_table, fits_key}
use Rattle.sk_model.specs.Names.{table_at, columns_at}
use Rattle.sk_model.specs.Reads.{one_row}
use Rattle.sk_model.specs.Replies.{Answer, comes_to, key_read, refusal_in}
use Rattle.sk_model.specs.Talks.{OwnCall, Talk, call_in, calls_in, opened, same_engine}
use Rattle.sk_model.specs.Asking.{keeper, keeper_of, may_use, first_engine, Rest, Answers, Starves, Asks, IfDone, Opens, IfRead, Reads, put_call, Puts, Makes, Works, AsksAt, AsksOf, Begins, Asked}
use Rattle.sk_model.specs.RecordTalks.{Converses}
use Rattle.sk_model.proofs.Lists.{Each, each_both, each_weaker}
use Rattle.sk_model.proofs.Answered.{answer_writes}
use Rattle.sk_linked.specs.Joining.{fits, ReplyFits, CallsFit}
use Rattle.sk_model.specs.Texts.{texts_are_short}
use Rattle.sk_linked.proofs.Coming.{Placed, PutFits, HasColumns, call_fits}
use Rattle.sk_linked.proofs.Checking.{key_read_fits, comes_to_fits}
use Rattle.sk_linked.proofs.Sharing.{calls_fit_more}
use Rattle.sk_linked.proofs.Speaking.{asked_is}

-- ---- a table of the catalog

-- its engine keeps it, and it has columns whose names differ
record TableAt (catalog : List Table) (t : ℕ) : Type 0 where
  kept : keeps (keeper catalog t) catalog t ≡ true
  here : HasColumns (columns_at catalog t)
  named : are_named (columns_at catalog t) ≡ true

some_columns : (cs : List Column) → nat_lt 0 (length cs) ≡ true → HasColumns cs
some_columns [] n = absurd (false≢true n)
some_columns (c ∷ cs) n = tt

good_columns : (table : Table) → is_table table ≡ true → HasColumns table.columns × (are_named table.columns ≡ true)
unfolding is_table are_columns
good_columns table e =
    let columns : are_columns table.columns ≡ true = (and_parts _ _ (and_parts _ _ e).0).1 in
    (some_columns table.columns (and_parts _ _ (and_parts _ _ columns).0).0, (and_parts _ _ columns).1)

is_kept_by : (table : Table) → is_kept (keeper_of table.store) (Some table) ≡ true
is_kept_by table = go table.store refl
  where
    go : (b : Bool) → table.store ≡ b → is_kept (keeper_of b) (Some table) ≡ true
    go true e = e
    go false e = ap not e

table_at_place : (catalog : List Table) (t : ℕ) → list_all is_table catalog ≡ true → t < length catalog → TableAt catalog t
table_at_place [] t good inside = absurd (omega arith)
table_at_place (table ∷ more) zero good inside =
    let columns : HasColumns table.columns × (are_named table.columns ≡ true) = good_columns table (and_parts _ _ good).0 in
    record { kept = is_kept_by table; here = columns.0; named = columns.1 }
table_at_place (table ∷ more) (suc t) good inside =
    let there : TableAt more t = table_at_place more t (and_parts _ _ good).1 (omega arith) in
    record { kept = there.kept; here = there.here; named = there.named }

named_place : (catalog : List Table) (name : List ℕ) (t : ℕ) → table_at catalog name ≡ Some t → t < length catalog
named_place catalog name t e = go (position_or_len (λ (table : Table). bytes_eq table.name name) catalog) e
  where
    go : (i : ℕ) → cond (nat_lt i (length catalog)) (Some i) None ≡ Some t → t < length catalog
    go i e = ⊎_elim
        (λ (l : nat_lt i (length catalog) ≡ true). let is : i ≡ t = same l in subst (λ j. j < length catalog) is (ltb-true i (length catalog) l))
        (λ (f : nat_lt i (length catalog) ≡ false). absurd (none f))
        (cases_Bool (nat_lt i (length catalog)))
      where
        same : nat_lt i (length catalog) ≡ true → i ≡ t
        same l = some_is (sym (ap (λ b. cond b (Some i) None) l) ∙ e)
          where
            some_is : {x y : ℕ} → Some x ≡ Some y → x ≡ y
            some_is e = cc

        none : nat_lt i (length catalog) ≡ false → ⊥
        none f = none_some (sym (ap (λ b. cond b (Some i) None) f) ∙ e)
          where
            none_some : {y : ℕ} → None ≡ Some y → ⊥
            none_some e = cc

-- ---- one statement

module _ (catalog : List Table) (rows : Tables) (tx : Label) where
  -- the calls are all of one engine, and fit there where P holds
  abbrev FitIn : EngineName → Type 0 → Talk → Type 0
  FitIn e P calls = Each (λ (c : OwnCall). c.engine ≡ e) calls × (P → CallsFit e catalog rows (map (λ (c : OwnCall). c.entry) calls))

  abbrev Fitting : EngineName → Type 0 → Rest → Type 0
  Fitting e P Then = (calls : Talk) (r : Reply) → Then calls r → FitIn e P calls

  no_calls : (e : EngineName) (P : Type 0) (calls : Talk) → calls ≡ [] → FitIn e P calls
  no_calls e P calls none = subst (FitIn e P) (sym none) (tt, λ p. tt)

  -- a call that fits, and then these, as long as what it found does
  one_call : (e : EngineName) (P Q : Type 0) (k : EngineCall) (x : EngineReply) (c : OwnCall) (calls : Talk) → Asks e k c → c.entry.reply ≡ x → (P → fits e catalog rows k ≡ true) → (P → ReplyFits catalog k x → Q) → FitIn e Q calls → FitIn e P (c ∷ calls)
  one_call e P Q k x c calls a is f found h = subst (λ (d : OwnCall). FitIn e P (d ∷ calls)) (sym (asked_is e k x c a is)) ((refl, h.0), λ p. (f p, λ r. h.1 (found p r)))

  opens_fit : (e : EngineName) (anchor snapshot : Option ℕ) (P : Type 0) (Then : Rest) → Fitting e P Then → Fitting e P (Opens tx e anchor snapshot Then)
  opens_fit e anchor (Some s) P Then h calls r o = h calls r o
  opens_fit e anchor None P Then h [] r o = (tt, λ p. tt)
  opens_fit e anchor None P Then h (c ∷ calls) r o = one_call e P P (call.Open tx o.0.0) c.entry.reply c calls o.0.1 refl (λ p. refl) (λ p u. p) (go c.entry.reply o.1)
    where
      go : (x : EngineReply) → IfDone e Then x calls r → FitIn e P calls
      go answer.Done d = h calls r d
      go (answer.Fault f) d = no_calls e P calls d.1.0
      go (answer.Found row) d = absurd d
      go (answer.Rows rows) d = absurd d
      go (answer.Number n) d = absurd d
      go (answer.Commits cs) d = absurd d

  -- a write of a table of the engine
  abbrev IsPut : EngineName → Write → Type 0
  IsPut e w = (has_table (engine_at e catalog rows 0) w.table ≡ true) × PutFits catalog w

  puts_fit : (e : EngineName) (said : Reply) (ws : List Write) → Fitting e (Each (IsPut e) ws) (Puts tx e said ws)
  puts_fit e said [] calls r h = no_calls e _ calls h.0
  puts_fit e said (w ∷ ws) [] r h = (tt, λ p. tt)
  puts_fit e said (w ∷ ws) (c ∷ calls) r h =
      one_call e (Each (IsPut e) (w ∷ ws)) (Each (IsPut e) ws) (put_call tx w) c.entry.reply c calls h.0 refl (λ p. call_fits e catalog rows tx w p.0.0 p.0.1) (λ p u. p.1) (go c.entry.reply (λ d. puts_fit e said ws calls r d) h.1)
    where
      go : (x : EngineReply) → (Puts tx e said ws calls r → FitIn e (Each (IsPut e) ws) calls) → IfDone e (Puts tx e said ws) x calls r → FitIn e (Each (IsPut e) ws) calls
      go answer.Done ih d = ih d
      go (answer.Fault f) ih d = no_calls e _ calls d.1.0
      go (answer.Found row) ih d = absurd d
      go (answer.Rows rows) ih d = absurd d
      go (answer.Number n) ih d = absurd d
      go (answer.Commits cs) ih d = absurd d

  makes_fit : (e : EngineName) (a : Answer) → Fitting e (Each (IsPut e) a.1) (Makes tx e a)
  makes_fit e a calls r (inl h) = no_calls e _ calls h.0
  makes_fit e a calls r (inr h) = puts_fit e a.0 a.1 calls r h

  module _ (t : ℕ) (kept : has_table (engine_at (keeper catalog t) catalog rows 0) t ≡ true) where
    reads_fit : (key : Option Value) (Then : KeyedRows → Rest) → ((v : Value) → key ≡ Some v → fits_key (columns_at catalog t) v ≡ true)
        → ((found : KeyedRows) → Fitting (keeper catalog t) (Each (Placed catalog t) found) (Then found)) → Fitting (keeper catalog t) (Unit {0}) (Reads tx (keeper catalog t) t key Then)
    reads_fit key Then k h [] r d = (tt, λ p. tt)
    reads_fit None Then k h (c ∷ calls) r d = go c.entry.reply refl d.1
      where
        go : (x : EngineReply) → c.entry.reply ≡ x → IfRead (keeper catalog t) None Then x calls r → FitIn (keeper catalog t) (Unit {0}) (c ∷ calls)
        go (answer.Rows found) is d2 = one_call (keeper catalog t) (Unit {0}) (Each (Placed catalog t) found) (call.Scan tx t) (answer.Rows found) c calls d.0 is (λ p. kept) (λ p f. f) (h found calls r d2)
        go (answer.Fault f) is d2 = one_call (keeper catalog t) (Unit {0}) (Unit {0}) (call.Scan tx t) (answer.Fault f) c calls d.0 is (λ p. kept) (λ p f. tt) (no_calls (keeper catalog t) (Unit {0}) calls d2.0)
        go answer.Done is d2 = absurd d2
        go (answer.Found row) is d2 = absurd d2
        go (answer.Number n) is d2 = absurd d2
        go (answer.Commits cs) is d2 = absurd d2
    reads_fit (Some v) Then k h (c ∷ calls) r d = go c.entry.reply refl d.1
      where
        may_get : fits (keeper catalog t) catalog rows (call.Get tx t v) ≡ true
        may_get = and_from _ _ kept (k v refl)

        is_placed : (row : Option RowOf) → ReplyFits catalog (call.Get tx t v) (answer.Found row) → Each (Placed catalog t) (one_row v row)
        is_placed None f = tt
        is_placed (Some row) f = (f, tt)

        go : (x : EngineReply) → c.entry.reply ≡ x → IfRead (keeper catalog t) (Some v) Then x calls r → FitIn (keeper catalog t) (Unit {0}) (c ∷ calls)
        go (answer.Found row) is d2 = one_call (keeper catalog t) (Unit {0}) (Each (Placed catalog t) (one_row v row)) (call.Get tx t v) (answer.Found row) c calls d.0 is (λ p. may_get) (λ p f. is_placed row f) (h (one_row v row) calls r d2)
        go (answer.Fault f) is d2 = one_call (keeper catalog t) (Unit {0}) (Unit {0}) (call.Get tx t v) (answer.Fault f) c calls d.0 is (λ p. may_get) (λ p f. tt) (no_calls (keeper catalog t) (Unit {0}) calls d2.0)
        go answer.Done is d2 = absurd d2
        go (answer.Rows found) is d2 = absurd d2
        go (answer.Number n) is d2 = absurd d2
        go (answer.Commits cs) is d2 = absurd d2

    -- a statement over the table that nothing refuses
    works_fit : (s : Statement) (anchor snapshot : Option ℕ) → TableAt catalog t → refusal_in (columns_at catalog t) s ≡ None → texts_are_short s ≡ true → Fitting (keeper catalog t) (Unit {0}) (Works catalog tx anchor snapshot s t)
    works_fit s anchor snapshot at e short = opens_fit (keeper catalog t) anchor snapshot (Unit {0}) _
        (reads_fit (key_read (columns_at catalog t) s) _ (λ v k. key_read_fits (columns_at catalog t) s v at.here e k)
        (λ found calls r h. weaker calls (put found) (makes_fit (keeper catalog t) (comes_to (columns_at catalog t) t s found) calls r h)))
      where
        weaker : {P Q : Type 0} (calls : Talk) → (P → Q) → FitIn (keeper catalog t) Q calls → FitIn (keeper catalog t) P calls
        weaker calls f h = (h.0, λ p. h.1 (f p))

        put : (found : KeyedRows) → Each (Placed catalog t) found → Each (IsPut (keeper catalog t)) (comes_to (columns_at catalog t) t s found).1
        put found h = each_both (λ (w : Write). has_table (engine_at (keeper catalog t) catalog rows 0) w.table ≡ true) (PutFits catalog) (comes_to (columns_at catalog t) t s found).1
            (each_weaker (λ (w : Write). w.table ≡ t) _ (λ w is. subst (λ u. has_table (engine_at (keeper catalog t) catalog rows 0) u ≡ true) (sym is) kept) _ (answer_writes (columns_at catalog t) t s found).1)
            (comes_to_fits catalog t s found at.here at.named e short h)

  -- in each engine the calls fit
  abbrev FitAll : Talk → Type 0
  FitAll calls = (n : EngineName) → CallsFit n catalog rows (calls_in n calls)

  of_one : (e : EngineName) (calls : Talk) → FitIn e (Unit {0}) calls → FitAll calls
  of_one e calls h n = go e n h
    where
      here : (e : EngineName) → same_engine e e ≡ true
      here Mem = refl
      here Store = refl

      all : (e : EngineName) (calls : Talk) → Each (λ (c : OwnCall). c.engine ≡ e) calls → calls_in e calls ≡ map (λ (c : OwnCall). c.entry) calls
      all e [] k = refl
      all e (c ∷ calls) k = let is : same_engine e c.engine ≡ true = ap (same_engine e) k.0 ∙ here e in rw is (ap (λ js. c.entry ∷ js) (all e calls k.1))

      none : (n e : EngineName) → same_engine n e ≡ false → (calls : Talk) → Each (λ (c : OwnCall). c.engine ≡ e) calls → calls_in n calls ≡ []
      none n e f [] k = refl
      none n e f (c ∷ calls) k = let is : same_engine n c.engine ≡ false = ap (same_engine n) k.0 ∙ f in rw is (none n e f calls k.1)

      go : (e n : EngineName) → FitIn e (Unit {0}) calls → CallsFit n catalog rows (calls_in n calls)
      go Mem Mem h = subst (CallsFit Mem catalog rows) (sym (all Mem calls h.0)) (h.1 tt)
      go Mem Store h = subst (CallsFit Store catalog rows) (sym (none Store Mem refl calls h.0)) tt
      go Store Mem h = subst (CallsFit Mem catalog rows) (sym (none Mem Store refl calls h.0)) tt
      go Store Store h = subst (CallsFit Store catalog rows) (sym (all Store calls h.0)) (h.1 tt)

  silent_fits : (calls : Talk) → calls ≡ [] → FitAll calls
  silent_fits calls none = subst FitAll (sym none) (λ n. tt)

  module _ (good : list_all is_table catalog ≡ true) (opening : length rows ≡ length catalog) where
    at_fits : (kind : TxKind) (before : Talk) (s : Statement) (t : ℕ) → t < length catalog → (o : Option ErrWord) → refusal_in (columns_at catalog t) s ≡ o → texts_are_short s ≡ true → (calls : Talk) (r : Reply)
        → AsksAt catalog tx kind before s t o calls r → FitAll calls
    at_fits kind before s t inside (Some word) e short calls r h = silent_fits calls h.0
    at_fits kind before s t inside None e short calls r h = go (may_use kind (keeper catalog t)) h
      where
        at : TableAt catalog t
        at = table_at_place catalog t good inside

        go : (b : Bool) → cond b (Works catalog tx (opened Mem before) (opened (keeper catalog t) before) s t calls r) (Answers (reply.Refused err.Engine) calls r) → FitAll calls
        go true h = of_one (keeper catalog t) calls (works_fit t (and_from _ _ (lt-ltb t (length rows) (omega arith)) at.kept) s _ _ at e short calls r h)
        go false h = silent_fits calls h.0

    of_fits : (kind : TxKind) (before : Talk) (s : Statement) (name : List ℕ) (o : Option ℕ) → table_at catalog name ≡ o → texts_are_short s ≡ true → (calls : Talk) (r : Reply) → AsksOf catalog tx kind before s o calls r → FitAll calls
    of_fits kind before s name None e short calls r h = silent_fits calls h.0
    of_fits kind before s name (Some t) e short calls r h = at_fits kind before s t (named_place catalog name t e) (refusal_in (columns_at catalog t) s) refl short calls r h

    asked_fit : (kind : TxKind) (before : Talk) (s : Statement) → texts_are_short s ≡ true → (calls : Talk) (r : Reply) → Asked catalog tx kind before s calls r → FitAll calls
    asked_fit kind before (statement.Begin begun) short calls r h = go h.2
      where
        go : Starves calls r ⊎ Begins tx kind calls r → FitAll calls
        go (inl k) = silent_fits calls k.0
        go (inr k) = of_one (first_engine kind) calls (opens_fit (first_engine kind) None None (Unit {0}) (Answers (reply.Began tx)) (λ calls r k. no_calls (first_engine kind) (Unit {0}) calls k.0) calls r k)
    asked_fit kind before statement.Commit short calls r h = silent_fits calls h.0
    asked_fit kind before statement.Rollback short calls r h = silent_fits calls h.0
    asked_fit kind before (statement.Insert table values) short calls r (inl h) = silent_fits calls h.0
    asked_fit kind before (statement.Insert table values) short calls r (inr h) = of_fits kind before (statement.Insert table values) table (table_at catalog table) refl short calls r h
    asked_fit kind before (statement.Select table names e) short calls r (inl h) = silent_fits calls h.0
    asked_fit kind before (statement.Select table names e) short calls r (inr h) = of_fits kind before (statement.Select table names e) table (table_at catalog table) refl short calls r h
    asked_fit kind before (statement.Update table sets e) short calls r (inl h) = silent_fits calls h.0
    asked_fit kind before (statement.Update table sets e) short calls r (inr h) = of_fits kind before (statement.Update table sets e) table (table_at catalog table) refl short calls r h
    asked_fit kind before (statement.Delete table e) short calls r (inl h) = silent_fits calls h.0
    asked_fit kind before (statement.Delete table e) short calls r (inr h) = of_fits kind before (statement.Delete table e) table (table_at catalog table) refl short calls r h

    -- the calls of a record's statements fit, in each engine
    pub spoken_fit : (kind : TxKind) (said : List Said) (before talk : Talk) → Each (λ (s : Said). texts_are_short s.statement ≡ true) said → Converses catalog tx kind before said talk → FitAll talk
    spoken_fit kind [] before talk short h n = silent_fits talk h n
    spoken_fit kind (s ∷ said) before talk short h n =
        subst (CallsFit n catalog rows) (sym (ap (calls_in n) h.2 ∙ flat_map-append (call_in n) h.0 h.1))
        (calls_fit_more n catalog rows (calls_in n h.0) (calls_in n h.1) (asked_fit kind before s.statement short.0 h.0 s.reply h.3 n) (λ f. spoken_fit kind said (before ++ h.0) h.1 short.1 h.5 n))
