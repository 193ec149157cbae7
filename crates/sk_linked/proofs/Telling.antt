-- Each transaction's reads are told by the prefix of the list at its place.
use Rattle.std.specs.Prelude.{ℕ, List, [], ◌∷◌, ◌++◌, Option, true, ◌&&◌, ◌≡◌}
use Rattle.std.proofs.Common.{refl, sym, ap, subst, ◌∙◌, ⊎_elim}
use Rattle.std.proofs.lemmas.Bool.{and_parts}
use Rattle.std.proofs.lemmas.List.{append_assoc, append-nil}
use Rattle.std.proofs.lemmas.List.Concat.{flat_map-append}
use Rattle.std.proofs.lemmas.List.Sums.{fold-append}
use Rattle.sk_rows.specs.declared.value.Value.{Value}
use Rattle.sk_model.specs.declared.label.Label.{Label}
use Rattle.sk_model.specs.declared.engine.EngineName.{EngineName}
use Rattle.sk_model.specs.declared.engine.EngineName.TheVariants.{Mem, Store}
use Rattle.sk_model.specs.declared.call.EngineCall.{EngineCall}
use Rattle.sk_model.specs.declared.call.EngineCall.TheVariants as call
use Rattle.sk_model.specs.declared.call.EngineFault.TheVariants as fault
use Rattle.sk_model.specs.declared.call.EngineReply.{EngineReply}
use Rattle.sk_model.specs.declared.call.EngineReply.TheVariants.{Done, Found, Rows, Number, Commits, Fault}
use Rattle.sk_model.specs.declared.call.Entry.{Entry}
use Rattle.sk_model.specs.Database.{RowOf, KeyedRows, Tables, row_of, table_of, after_write, after_writes}
use Rattle.sk_model.specs.Engine.{EngineTable, opening_of}
use Rattle.sk_model.specs.EngineConditions.{may, has_table, has_key, is_standing}
use Rattle.sk_model.specs.Legal.{may_fail, after_entries, due, IsReply, Legal, Allowed}
use Rattle.sk_model.specs.Calls.{puts_of}
use Rattle.sk_model.specs.Stamped.{number_in, CommitsOf}
use Rattle.sk_model.specs.Talks.{OwnCall, Talk, call_in, calls_in, wrote_by, puts_in, IsRow, AreRows, Shows, TalkTold, is_by, entries_by}
use Rattle.sk_model.proofs.Lists.{Each, each_weaker, each_front, each_end}
use Rattle.sk_model.proofs.Labels.{same_is}
use Rattle.sk_model.proofs.Order.{legal_front}
use Rattle.sk_weave.specs.Woven.{own_writes}
use Rattle.sk_linked.specs.Reads.{snapshot_at, number_at, owns, AreSorted, table_after, Reader, view_at}
use Rattle.sk_linked.proofs.Keys.{get, scan}
use Rattle.sk_linked.specs.Traces.{Transaction, Traces, run_of, owed, In, IsOwn, NotAgain, Belongs, Linked}
use Rattle.sk_linked.proofs.Projection.{SplitBy, split_by, OpensAt, snapshot_is, no_ends, each_of_own, opens_at_by, puts_by, again_of_own, again_front, allowed_front, standing_snapshot}
use Rattle.sk_linked.proofs.Members.{each_call}
use Rattle.sk_linked.proofs.Puts.{PutsWell, puts_are, own_puts}
use Rattle.sk_linked.proofs.Grounds.{start, all, belongs, all_legal, all_allowed, calls_well, commits_all, is_run, filter_pass}

pub own_opens : (t : Transaction) (s : EngineName) (c : EngineCall) (reply : EngineReply) → IsOwn t s c reply → OpensAt t.label (snapshot_at s t.snapshots) c reply
own_opens t s (call.Open tx n) reply f = λ y r. f r
own_opens t s (call.Get tx u k) reply f = tt
own_opens t s (call.Scan tx u) reply f = tt
own_opens t s (call.Put tx u key row) reply f = tt
own_opens t s (call.Close tx) reply f = tt
own_opens t s (call.Stamp tx n) reply f = tt
own_opens t s (call.Void tx n) reply f = tt
own_opens t s (call.DropTx tx) reply f = tt
own_opens t s call.Horizon reply f = tt
own_opens t s (call.Records from to) reply f = tt
own_opens t s (call.Purge upto) reply f = tt

-- the calls of a talk on the engine of one of them
calls_here : (ds rest : Talk) (s : EngineName) (j : Entry) → calls_in s (ds ++ record { engine = s; entry = j } ∷ rest) ≡ calls_in s ds ++ j ∷ calls_in s rest
calls_here ds rest s j = flat_map-append (call_in s) ds (record { engine = s; entry = j } ∷ rest) ∙ ap (λ xs. calls_in s ds ++ (xs ++ calls_in s rest)) (one s)
  where
    one : (s : EngineName) → call_in s (record { engine = s; entry = j }) ≡ j ∷ []
    one Mem = refl
    one Store = refl

pub calls_front : (name : EngineName) (ds rest : Talk) → calls_in name (ds ++ rest) ≡ calls_in name ds ++ calls_in name rest
calls_front name ds rest = flat_map-append (call_in name) ds rest

module _ (h : Traces) (l : Linked h) (sorted : AreSorted h.rows) (t : Transaction) (i : In t h.transactions) where
  -- the moment of one call
  pub record Moment (s : EngineName) (ds : Talk) (j : Entry) : Type 0 where
    pub before : List Entry
    pub later : List Entry
    pub reader : Reader (run_of h) s before (j ∷ later) t.label t.snapshots (puts_in ds)
    pub lets : may (table_after (run_of h) s before) j.call ≡ true
    pub reply : IsReply (table_after (run_of h) s before) j.call j.reply
    pub mine : is_by t.label j ≡ true

  moment : (s : EngineName) (ds rest : Talk) (j : Entry) → t.talk ≡ ds ++ record { engine = s; entry = j } ∷ rest
      → ((e : EngineTable) → is_by t.label j ≡ true → may e j.call ≡ true → is_standing (opening_of e t.label) ≡ true) → Moment s ds j
  moment s ds rest j e stands =
      let b : Belongs h t = belongs h l t i in
      let first : EngineTable = start h l s in
      let here : calls_in s t.talk ≡ calls_in s ds ++ j ∷ calls_in s rest = ap (calls_in s) e ∙ calls_here ds rest s j in
      let own : entries_by t.label (h.journals s) ≡ calls_in s ds ++ j ∷ calls_in s rest = b.entries s ∙ here in
      let cut : SplitBy (is_by t.label) (h.journals s) (calls_in s ds) j (calls_in s rest) = split_by (is_by t.label) (h.journals s) (calls_in s ds) j (calls_in s rest) own in
      let whole : all h l s ≡ cut.before ++ j ∷ (cut.later ++ owed s h.transactions) = ap (λ xs. xs ++ owed s h.transactions) cut.is ∙ append_assoc cut.before (j ∷ cut.later) (owed s h.transactions) in
      let legal : Legal first (cut.before ++ j ∷ (cut.later ++ owed s h.transactions)) = subst (λ xs. Legal first xs) whole (all_legal h l s) in
      let legals : Legal first cut.before × Legal (after_entries first cut.before) (j ∷ (cut.later ++ owed s h.transactions)) = legal_front first cut.before (j ∷ (cut.later ++ owed s h.transactions)) legal in
      let alloweds : Allowed first cut.before × Allowed (after_entries first cut.before) (j ∷ (cut.later ++ owed s h.transactions)) =
      allowed_front first cut.before (j ∷ (cut.later ++ owed s h.transactions)) (subst (λ xs. Allowed first xs) whole (all_allowed h l s)) in
      let all_mine : Each (λ (x : Entry). is_by t.label x ≡ true) (calls_in s ds ++ j ∷ calls_in s rest) = subst (λ xs. Each (λ (x : Entry). is_by t.label x ≡ true) xs) own (filter_pass (is_by t.label) (h.journals s)) in
      let mine : is_by t.label j ≡ true = (each_end _ (calls_in s ds) (j ∷ calls_in s rest) all_mine).0 in
      let standing : is_standing (opening_of (after_entries first cut.before) t.label) ≡ true = stands (after_entries first cut.before) mine alloweds.1.0 in
      let own_ds : Each (λ (c : OwnCall). IsOwn t c.engine c.entry.call c.entry.reply) ds = each_front _ ds (record { engine = s; entry = j } ∷ rest) (subst (λ xs. Each (λ (c : OwnCall). IsOwn t c.engine c.entry.call c.entry.reply) xs) e b.own) in
      let opens_own : Each (λ (x : Entry). OpensAt t.label (snapshot_at s t.snapshots) x.call x.reply) (entries_by t.label cut.before) =
      subst (λ xs. Each (λ (x : Entry). OpensAt t.label (snapshot_at s t.snapshots) x.call x.reply) xs) (sym cut.front)
      (each_weaker (λ (x : Entry). IsOwn t s x.call x.reply) _ (λ x f. own_opens t s x.call x.reply f) (calls_in s ds) (each_call (λ name x. IsOwn t name x.call x.reply) s ds own_ds)) in
      let opens_at : Each (λ (x : Entry). OpensAt t.label (snapshot_at s t.snapshots) x.call x.reply) cut.before =
      each_of_own t.label (λ (x : Entry). OpensAt t.label (snapshot_at s t.snapshots) x.call x.reply) (λ x n. opens_at_by t.label (snapshot_at s t.snapshots) x.call x.reply n) cut.before opens_own in
      let again : NotAgain t.label cut.before = again_of_own t.label cut.before (subst (λ xs. NotAgain t.label xs) (sym cut.front)
      (again_front t.label (calls_in s ds) (j ∷ calls_in s rest) (subst (λ xs. NotAgain t.label xs) here (b.again s)))) in
      let well : (name : EngineName) → Each (PutsWell h.catalog name t.label) (calls_in name ds) = λ name.
      each_front _ (calls_in name ds) (calls_in name (record { engine = s; entry = j } ∷ rest)) (subst (λ xs. Each (PutsWell h.catalog name t.label) xs) (ap (calls_in name) e ∙ calls_front name ds (record { engine = s; entry = j } ∷ rest)) (calls_well h l name t i)) in
      let puts : own_writes (owns h.catalog s) (puts_in ds) ≡ puts_of t.label cut.before =
      own_puts h.catalog ds (λ name. each_weaker (PutsWell h.catalog name t.label) _ (λ x k. k.owned) (calls_in name ds) (well name)) s
      ∙ sym (puts_are h.catalog s t.label (calls_in s ds) (well s)) ∙ ap (puts_of t.label) (sym cut.front) ∙ sym (puts_by t.label cut.before) in
      record {
        before = cut.before;
        later = cut.later ++ owed s h.transactions;
        reader = record {
          legal = legal;
          allowed = alloweds.0;
          live = no_ends t.label first cut.before legals.0 alloweds.0 again standing;
          commits = subst (λ xs. CommitsOf (number_in s) (number_at s h.first) (after_entries first xs).versions ((run_of h).commits s)) whole (commits_all h l s);
          snapshot = standing_snapshot (snapshot_at s t.snapshots) (opening_of (after_entries first cut.before) t.label) (snapshot_is t.label (snapshot_at s t.snapshots) first cut.before tt opens_at) standing;
          pair = b.pair;
          own = puts;
        };
        lets = alloweds.1.0;
        reply = legals.1.0;
        mine = mine;
      }

  found_here : (s : EngineName) (ds rest : Talk) (tx : Label) (u : ℕ) (key : Value) (r : Option RowOf) → t.talk ≡ ds ++ record { engine = s; entry = record { call = call.Get tx u key; reply = Found r } } ∷ rest
      → r ≡ row_of (view_at (run_of h) t.snapshots (puts_in ds)) u key
  found_here s ds rest tx u key r e =
      let m : Moment s ds (record { call = call.Get tx u key; reply = Found r }) = moment s ds rest (record { call = call.Get tx u key; reply = Found r }) e
      (λ f y k. subst (λ (x : Label). is_standing (opening_of f x) ≡ true) (sym (same_is t.label tx y)) (and_parts (is_standing (opening_of f tx)) (has_table f u && has_key f u key) k).0) in
      let is : tx ≡ t.label = sym (same_is t.label tx m.mine) in
      get (run_of h) s m.before (record { call = call.Get tx u key; reply = Found r } ∷ m.later) t.label t.snapshots (puts_in ds) u key r (is_run h l) m.reader
      (subst (λ (x : Label). may (table_after (run_of h) s m.before) (call.Get x u key) ≡ true) is m.lets)
      (subst (λ (x : Label). due (table_after (run_of h) s m.before) (call.Get x u key) ≡ Found r) is
      (⊎_elim (λ (k : (may_fail (table_after (run_of h) s m.before) (call.Get tx u key) ≡ true) × (Found r ≡ Fault fault.Device)). absurd (clash k.1)) (λ (k : due (table_after (run_of h) s m.before) (call.Get tx u key) ≡ Found r). k) m.reply))
    where
      clash : Found r ≡ Fault fault.Device → ⊥
      clash q = cc

  rows_here : (s : EngineName) (ds rest : Talk) (tx : Label) (u : ℕ) (rows : KeyedRows) → t.talk ≡ ds ++ record { engine = s; entry = record { call = call.Scan tx u; reply = Rows rows } } ∷ rest
      → rows ≡ table_of (view_at (run_of h) t.snapshots (puts_in ds)) u
  rows_here s ds rest tx u rows e =
      let m : Moment s ds (record { call = call.Scan tx u; reply = Rows rows }) = moment s ds rest (record { call = call.Scan tx u; reply = Rows rows }) e
      (λ f y k. subst (λ (x : Label). is_standing (opening_of f x) ≡ true) (sym (same_is t.label tx y)) (and_parts (is_standing (opening_of f tx)) (has_table f u) k).0) in
      let is : tx ≡ t.label = sym (same_is t.label tx m.mine) in
      scan (run_of h) s m.before (record { call = call.Scan tx u; reply = Rows rows } ∷ m.later) t.label t.snapshots (puts_in ds) u rows (is_run h l) sorted m.reader
      (subst (λ (x : Label). may (table_after (run_of h) s m.before) (call.Scan x u) ≡ true) is m.lets)
      (subst (λ (x : Label). due (table_after (run_of h) s m.before) (call.Scan x u) ≡ Rows rows) is
      (⊎_elim (λ (k : (may_fail (table_after (run_of h) s m.before) (call.Scan tx u) ≡ true) × (Rows rows ≡ Fault fault.Device)). absurd (clash k.1)) (λ (k : due (table_after (run_of h) s m.before) (call.Scan tx u) ≡ Rows rows). k) m.reply))
    where
      clash : Rows rows ≡ Fault fault.Device → ⊥
      clash q = cc

  row_shown : (s : EngineName) (ds rest : Talk) (tx : Label) (u : ℕ) (key : Value) (reply : EngineReply) → t.talk ≡ ds ++ record { engine = s; entry = record { call = call.Get tx u key; reply = reply } } ∷ rest
      → IsRow (row_of (view_at (run_of h) t.snapshots (puts_in ds)) u key) reply
  row_shown s ds rest tx u key Done e = tt
  row_shown s ds rest tx u key (Found r) e = found_here s ds rest tx u key r e
  row_shown s ds rest tx u key (Rows rows) e = tt
  row_shown s ds rest tx u key (Number n) e = tt
  row_shown s ds rest tx u key (Commits cs) e = tt
  row_shown s ds rest tx u key (Fault f) e = tt

  rows_shown : (s : EngineName) (ds rest : Talk) (tx : Label) (u : ℕ) (reply : EngineReply) → t.talk ≡ ds ++ record { engine = s; entry = record { call = call.Scan tx u; reply = reply } } ∷ rest
      → AreRows (table_of (view_at (run_of h) t.snapshots (puts_in ds)) u) reply
  rows_shown s ds rest tx u Done e = tt
  rows_shown s ds rest tx u (Found r) e = tt
  rows_shown s ds rest tx u (Rows rows) e = rows_here s ds rest tx u rows e
  rows_shown s ds rest tx u (Number n) e = tt
  rows_shown s ds rest tx u (Commits cs) e = tt
  rows_shown s ds rest tx u (Fault f) e = tt

  shown : (s : EngineName) (ds rest : Talk) (c : EngineCall) (reply : EngineReply) → t.talk ≡ ds ++ record { engine = s; entry = record { call = c; reply = reply } } ∷ rest
      → Shows (view_at (run_of h) t.snapshots (puts_in ds)) c reply
  shown s ds rest (call.Open tx n) reply e = tt
  shown s ds rest (call.Get tx u key) reply e = row_shown s ds rest tx u key reply e
  shown s ds rest (call.Scan tx u) reply e = rows_shown s ds rest tx u reply e
  shown s ds rest (call.Put tx u key row) reply e = tt
  shown s ds rest (call.Close tx) reply e = tt
  shown s ds rest (call.Stamp tx n) reply e = tt
  shown s ds rest (call.Void tx n) reply e = tt
  shown s ds rest (call.DropTx tx) reply e = tt
  shown s ds rest call.Horizon reply e = tt
  shown s ds rest (call.Records from to) reply e = tt
  shown s ds rest (call.Purge upto) reply e = tt

  told_rest : (ds rest : Talk) → t.talk ≡ ds ++ rest → TalkTold (view_at (run_of h) t.snapshots (puts_in ds)) rest
  told_rest ds [] e = tt
  told_rest ds (c ∷ rest) e =
      let db : Tables = view_at (run_of h) t.snapshots [] in
      let more : view_at (run_of h) t.snapshots (puts_in (ds ++ c ∷ [])) ≡ after_writes (view_at (run_of h) t.snapshots (puts_in ds)) (wrote_by c.entry.call c.entry.reply) =
      ap (after_writes db) (flat_map-append (λ (x : OwnCall). wrote_by x.entry.call x.entry.reply) ds (c ∷ []) ∙ ap (λ xs. puts_in ds ++ xs) (append-nil (wrote_by c.entry.call c.entry.reply)))
      ∙ fold-append after_write db (puts_in ds) (wrote_by c.entry.call c.entry.reply) in (
        shown c.engine ds rest c.entry.call c.entry.reply e,
        subst (λ x. TalkTold x rest) more (told_rest (ds ++ c ∷ []) rest (e ∙ sym (append_assoc ds (c ∷ []) rest))),
      )

  -- its reads are those of the prefix at its place, with its own writes
  pub told : TalkTold (view_at (run_of h) t.snapshots []) t.talk
  told = told_rest [] t.talk refl
