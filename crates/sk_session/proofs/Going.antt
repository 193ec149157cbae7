-- An answer to a call of a statement: what the session then asks for, or answers, is what the statement asks for behind that call.
use Rattle.std.specs.Prelude.{◌≡◌, ℕ, ◌+◌, List, [], ◌∷◌, ◌++◌, Option, Some, None, Bool, true, false, cond, drop, is_some, slice_get}
use Rattle.std.proofs.Common.{refl, sym, ap, subst, ◌∙◌, inl, inr, append-nil}
use Rattle.sk_rows.specs.declared.table.Table.{Table}
use Rattle.sk_rows.specs.declared.value.Value.{Value}
use Rattle.sk_rows.specs.declared.statement.Statement.{Statement}
use Rattle.sk_rows.specs.declared.statement.Statement.TheVariants as statement
use Rattle.sk_model.specs.declared.label.Label.{Label}
use Rattle.sk_model.specs.declared.engine.EngineName.{EngineName}
use Rattle.sk_model.specs.declared.engine.EngineName.TheVariants.{Mem, Store}
use Rattle.sk_model.specs.declared.commit.Write.{Write}
use Rattle.sk_model.specs.declared.point.Recycled.{Recycled}
use Rattle.sk_model.specs.declared.record.Record.{Record}
use Rattle.sk_model.specs.declared.record.Ending.TheVariants as ending
use Rattle.sk_model.specs.declared.reply.Reply.{Reply}
use Rattle.sk_model.specs.declared.reply.Reply.TheVariants as reply
use Rattle.sk_model.specs.declared.reply.ErrWord.TheVariants as err
use Rattle.sk_model.specs.declared.call.EngineCall.{EngineCall}
use Rattle.sk_model.specs.declared.call.EngineCall.TheVariants as call
use Rattle.sk_model.specs.declared.call.EngineFault.{EngineFault}
use Rattle.sk_model.specs.declared.call.EngineFault.TheVariants as fault
use Rattle.sk_model.specs.declared.call.EngineReply.{EngineReply}
use Rattle.sk_model.specs.declared.call.EngineReply.TheVariants as answer
use Rattle.sk_model.specs.Database.{KeyedRows}
use Rattle.sk_model.specs.Names.{columns_at}
use Rattle.sk_model.specs.Reads.{one_row}
use Rattle.sk_model.specs.Replies.{Answer, comes_to, key_read}
use Rattle.sk_model.specs.Spoken.{is_lost}
use Rattle.sk_model.specs.Talks.{Talk, own}
use Rattle.sk_model.specs.Asking.{keeper, first_engine, table_named, fault_reply, Rest, Answers, IfDone, Unopened, Opens, read_call, IfRead, Reads, put_call, Puts, Makes}
use Rattle.sk_model.specs.RecordTalks.{number_or_none}
use Rattle.sk_weave.specs.declared.answer.Selected.{Selected}
use Rattle.sk_commit.specs.declared.asking.RegistryReply.TheVariants as told
use Rattle.sk_commit.specs.declared.asking.Wish.TheVariants as wish
use Rattle.sk_commit.specs.declared.asking.RegistryCall.TheVariants as reg
use Rattle.sk_commit.specs.declared.asking.Got.{Got}
use Rattle.sk_commit.specs.declared.asking.Got.TheVariants as given
use Rattle.sk_commit.specs.Fits.{made_call, own_call, IsLoss, CallFits, WishFits}
use Rattle.sk_session.specs.declared.live.Live.{Live}
use Rattle.sk_session.specs.declared.live.Job.{Job}
use Rattle.sk_session.specs.declared.live.Job.TheVariants as job
use Rattle.sk_session.specs.declared.live.Moved.{Moved}
use Rattle.sk_session.specs.Moving.{snapshot_of, on, counter_wish, put_wish, wished, Either, is_begin, opened_at, has_written, selects, noted_open, noted_select, noted_put, starve, lose_by, ask_open, ask_read, read_in, read_now, read_by, read_for, behind_open, count_goes, open_goes, select_goes, fault_at_read, answer_in, answer_now, answer_by, rows_come, read_goes, put_goes, GoesAs}
use Rattle.sk_session.specs.Speaks.{ReadsOf, Behind, Knows, IsOpen, Answering, Uses, Waits, Keeps}
use Rattle.sk_session.proofs.Judged.{answer_kept}
use Rattle.sk_session.proofs.Waiting.{IsFoundBy, found_then, next_write, Alike, same, alike_written, alike_opened, opened_now, open_still, still_open, knows_more, knows_read, knows_put, knows_open, goes_further, goes_on_so, selected}
use Rattle.sk_session.proofs.Saying.{starve_keeps, lost_keeps, fault_keeps, say_or_starve, puts_keep}

pub either_keeps : (P : Moved → Type 0) (x y moved : Moved) → Either x y moved → P x → P y → P moved
either_keeps P x y moved (inl is) px py = subst P (sym is) px
either_keeps P x y moved (inr is) px py = subst P (sym is) py

pub unopened : (anchor : Option ℕ) → Unopened anchor (reply.Refused err.Memory)
unopened None = refl
unopened (Some a) = inl refl

-- a statement that names a table is not BEGIN
pub names_no_begin : (catalog : List Table) (s : Statement) (t : ℕ) → table_named catalog s ≡ Some t → is_begin (Some s) ≡ false
names_no_begin catalog (statement.Begin begun) t is = absurd cc
names_no_begin catalog statement.Commit t is = refl
names_no_begin catalog statement.Rollback t is = refl
names_no_begin catalog (statement.Insert table values) t is = refl
names_no_begin catalog (statement.Select table names e) t is = refl
names_no_begin catalog (statement.Update table sets e) t is = refl
names_no_begin catalog (statement.Delete table e) t is = refl

-- behind an opening, the read of the table
reads_behind : (catalog : List Table) (tx : Label) (s : Statement) (t : ℕ) → table_named catalog s ≡ Some t → (calls : Talk) (r : Reply)
    → Reads tx (keeper catalog t) t (key_read (columns_at catalog t) s) (λ rows. Makes tx (keeper catalog t) (comes_to (columns_at catalog t) t s rows)) calls r → Behind catalog tx s calls r
reads_behind catalog tx s t named calls r h = by s (names_no_begin catalog s t named) (subst (λ o. ReadsOf catalog tx s o calls r) (sym named) h)
  where
    by : (x : Statement) → is_begin (Some x) ≡ false → ReadsOf catalog tx x (table_named catalog x) calls r → Behind catalog tx x calls r
    by (statement.Begin begun) plain h = absurd cc
    by statement.Commit plain h = h
    by statement.Rollback plain h = h
    by (statement.Insert table values) plain h = h
    by (statement.Select table names e) plain h = h
    by (statement.Update table sets e) plain h = h
    by (statement.Delete table e) plain h = h

-- an engine refused a call that has to be done
loss_keeps : (catalog : List Table) (records : List Record) (live : Live) (now : Statement) (R Then : Rest) (talk : Talk) (e : EngineName) (asked : EngineCall) (f : EngineFault) (moved : Moved) → Answering catalog live now R talk → IsLoss f
    → Knows live (talk ++ own e asked (answer.Fault f) ∷ []) → ((calls : Talk) (r : Reply) → IfDone e Then (answer.Fault f) calls r → R (own e asked (answer.Fault f) ∷ calls) r) → R [] (reply.Refused err.Memory)
    → Either (lose_by records live e f) (starve records live) moved → Keeps catalog records live.label (talk ++ made_call e asked (answer.Fault f)) moved
loss_keeps catalog records live now R Then talk e asked fault.NoMemory moved w loss knows remains memory is =
    subst (λ t. Keeps catalog records live.label t moved) (sym (append-nil talk))
    (either_keeps (Keeps catalog records live.label talk) _ _ moved is (fault_keeps catalog records live now R talk e fault.NoMemory tt w memory) (starve_keeps catalog records live now R talk w memory))
loss_keeps catalog records live now R Then talk e asked (fault.Busy by) moved w loss knows remains memory is = absurd loss
loss_keeps catalog records live now R Then talk e asked (fault.Old s n) moved w loss knows remains memory is =
    let next : Answering catalog live now (IfDone e Then (answer.Fault (fault.Old s n))) _ = goes_further catalog live live now R _ talk _ w (same live) (λ x o. o) knows remains in
    either_keeps (Keeps catalog records live.label _) _ _ moved is (fault_keeps catalog records live now _ _ e (fault.Old s n) tt next (refl, (refl, inl refl))) (starve_keeps catalog records live now _ _ next (refl, (refl, inr refl)))
loss_keeps catalog records live now R Then talk e asked (fault.Conflict by why) moved w loss knows remains memory is =
    let next : Answering catalog live now (IfDone e Then (answer.Fault (fault.Conflict by why))) _ = goes_further catalog live live now R _ talk _ w (same live) (λ x o. o) knows remains in
    either_keeps (Keeps catalog records live.label _) _ _ moved is (fault_keeps catalog records live now _ _ e (fault.Conflict by why) tt next (refl, (refl, inl refl))) (starve_keeps catalog records live now _ _ next (refl, (refl, inr refl)))
loss_keeps catalog records live now R Then talk e asked fault.Device moved w loss knows remains memory is =
    let next : Answering catalog live now (IfDone e Then (answer.Fault fault.Device)) _ = goes_further catalog live live now R _ talk _ w (same live) (λ x o. o) knows remains in
    either_keeps (Keeps catalog records live.label _) _ _ moved is (fault_keeps catalog records live now _ _ e fault.Device tt next (refl, (refl, inl refl))) (starve_keeps catalog records live now _ _ next (refl, (refl, inr refl)))

-- ---- the counter

counter : (e : EngineName) (got : Got) → WishFits (counter_wish e) got → (n : ℕ) × (got ≡ given.Reg (told.Number n)) × (own_call (counter_wish e) got ≡ [])
counter Mem (given.Reg (told.Number n)) fits = (n, refl, refl)
counter Store (given.Reg (told.Number n)) fits = (n, refl, refl)
counter Mem _ fits = absurd fits
counter Store _ fits = absurd fits

closed_first : (live : Live) (e : EngineName) → live.mem ≡ None → live.store ≡ None → snapshot_of live e ≡ None
closed_first live Mem m s = m
closed_first live Store m s = s

count_keeps : (catalog : List Table) (records : List Record) (live : Live) (talk : Talk) (got : Got) (moved : Moved) → Waits catalog live job.Count talk → WishFits (counter_wish (first_engine live.kind)) got
    → Either (count_goes records live got) (starve records live) moved → Keeps catalog records live.label (talk ++ own_call (counter_wish (first_engine live.kind)) got) moved
count_keeps catalog records live talk got moved w fits is =
    let c : (n : ℕ) × (got ≡ given.Reg (told.Number n)) × (own_call (counter_wish (first_engine live.kind)) got ≡ []) = counter (first_engine live.kind) got fits in
    subst (λ t. Keeps catalog records live.label t moved) (sym (ap (λ x. talk ++ x) c.2 ∙ append-nil talk))
    (either_keeps (Keeps catalog records live.label talk) (ask_open records live (first_engine live.kind) c.0) (starve records live) moved (subst (λ g. Either (count_goes records live g) (starve records live) moved) c.1 is)
    (refl, refl, record { now = w.now; answering = w.answering; knows = (closed_first live (first_engine live.kind) w.knows.0 w.knows.1, w.knows.2) }, refl)
    (starve_keeps catalog records live w.now _ talk w.answering (memory live.mem)))
  where
    memory : (anchor : Option ℕ) → Unopened anchor (reply.Refused err.Memory)
    memory anchor = unopened anchor

-- ---- the selection

abbrev pub Selects : List Table → Live → Statement → Rest
Selects catalog live now = Opens live.label Store live.mem None (Behind catalog live.label now)

-- the snapshot is selected, and the storage engine is to be opened at it
select_opens : (catalog : List Table) (records : List Record) (live new : Live) (now : Statement) (talk : Talk) (n : ℕ) → Answering catalog new now (Selects catalog live now) talk → new.label ≡ live.label → new.mem ≡ live.mem → new.store ≡ None → Uses catalog new.kind now Store
    → Keeps catalog records live.label talk (ask_open records new Store n)
select_opens catalog records live new now talk n w label mem store uses =
    (refl, label, record { now = now; answering = goes_on_so catalog new now _ _ talk w (λ calls r h. subst (λ m. Opens live.label Store m None (Behind catalog live.label now) calls r) mem (subst (λ l. Opens l Store new.mem None (Behind catalog l now) calls r) label h)); knows = (store, uses) }, refl)

record Selecting (live new : Live) : Type 0 where
  label : new.label ≡ live.label
  kind : new.kind ≡ live.kind
  mem : new.mem ≡ live.mem
  store : new.store ≡ live.store

selecting : (live : Live) (s : Selected) → Selecting live (selects live s)
selecting live s = by s.made
  where
    by : (made : Bool) → Selecting live (cond made (record live { selected = Some (record { a = number_or_none live.mem; b = s.b; commit = false }) }) live)
    by true = record { label = refl; kind = refl; mem = refl; store = refl }
    by false = record { label = refl; kind = refl; mem = refl; store = refl }

-- the anchor is recycled
recycled_unopened : (mem : Option ℕ) (r : Recycled) → is_some mem ≡ true → r.a ≡ number_or_none mem → Unopened mem (reply.Recycled r)
recycled_unopened None r some is = absurd cc
recycled_unopened (Some a) r some is = inr (r.oldest, ap (λ n. reply.Recycled (record { a = n; oldest = r.oldest })) is)

select_keeps : (catalog : List Table) (records : List Record) (live : Live) (talk : Talk) (got : Got) (moved : Moved) → Waits catalog live job.Select talk → WishFits (wish.Reg (reg.Select (number_or_none live.mem))) got
    → Either (select_goes records (noted_select live got) got) (starve records (noted_select live got)) moved → Keeps catalog records live.label (talk ++ []) moved
select_keeps catalog records live talk (given.Reg (told.Selected s)) moved w fits is =
    let new : Live = selects live s in
    let v : Answering catalog new w.now (Selects catalog live w.now) talk = selected catalog live w.now _ talk s w.knows.1 w.answering in
    let so : Selecting live new = selecting live s in
    subst (λ t. Keeps catalog records live.label t moved) (sym (append-nil talk))
    (either_keeps (Keeps catalog records live.label talk) _ _ moved is
    (select_opens catalog records live new w.now talk s.b v so.label so.mem (so.store ∙ w.knows.0) (subst (λ k. Uses catalog k w.now Store) (sym so.kind) w.knows.2))
    (subst (λ l. Keeps catalog records l talk (starve records new)) so.label (starve_keeps catalog records new w.now _ talk v (unopened live.mem))))
select_keeps catalog records live talk (given.Reg (told.Recycled r)) moved w fits is =
    subst (λ t. Keeps catalog records live.label t moved) (sym (append-nil talk))
    (either_keeps (Keeps catalog records live.label talk) _ _ moved is
    (lost_keeps catalog records live w.now _ talk ending.Recycled (reply.Recycled r) w.answering (recycled_unopened live.mem r w.knows.1 fits) refl refl)
    (starve_keeps catalog records live w.now _ talk w.answering (unopened live.mem)))
select_keeps catalog records live talk (given.Reg told.NoMemory) moved w fits is =
    subst (λ t. Keeps catalog records live.label t moved) (sym (append-nil talk))
    (either_keeps (Keeps catalog records live.label talk) _ _ moved is
    (starve_keeps catalog records live w.now _ talk w.answering (unopened live.mem))
    (starve_keeps catalog records live w.now _ talk w.answering (unopened live.mem)))
select_keeps catalog records live talk _ moved w fits is = absurd fits

-- ---- the opening

knows_refused : (live : Live) (talk : Talk) (e : EngineName) (n : ℕ) (f : EngineFault) → Knows live talk → Knows live (talk ++ own e (call.Open live.label n) (answer.Fault f) ∷ [])
knows_refused live talk Mem n f k = knows_more live talk _ refl refl refl refl k
knows_refused live talk Store n f k = knows_more live talk _ refl refl refl refl k

module _ (catalog : List Table) (records : List Record) where
  -- the table is read
  pub reads_keep : (new : Live) (now : Statement) (talk : Talk) (t : ℕ) (moved : Moved) → Answering catalog new now (Behind catalog new.label now) talk → table_named catalog now ≡ Some t → IsOpen new (keeper catalog t)
      → Either (read_for catalog records new) (starve records new) moved → Keeps catalog records new.label talk moved
  reads_keep new now talk t moved w named opened_it is =
      either_keeps (Keeps catalog records new.label talk) (ask_read records new (keeper catalog t) t (key_read (columns_at catalog t) now)) (starve records new) moved
      (subst (λ x. Either x (starve records new) moved) (ap (λ o. read_by records new (read_now catalog o)) w.statement_is ∙ ap (λ o. read_by records new (read_in catalog now o)) named) is)
      (refl, refl, record { now = now; answering = goes_on_so catalog new now _ _ talk w (λ calls r h. reads_behind catalog new.label now t named calls r h); knows = (named, opened_it) }, refl)
      (starve_keeps catalog records new now _ talk w (reads_behind catalog new.label now t named [] (reply.Refused err.Memory) refl))

  -- behind an opening BEGIN is answered, or the table is read
  behind_keeps : (new : Live) (now : Statement) (talk : Talk) (e : EngineName) (moved : Moved) → Answering catalog new now (Behind catalog new.label now) talk → IsOpen new e → Uses catalog new.kind now e
      → Either (behind_open catalog records new (is_begin (Some now))) (starve records new) moved → Keeps catalog records new.label talk moved
  behind_keeps new (statement.Begin begun) talk e moved w opened_it uses is =
      say_or_starve catalog records new (statement.Begin begun) _ talk e (reply.Began new.label) moved is w opened_it (λ declared. subst (IsOpen new) uses opened_it) refl (refl, inl refl) (refl, inr refl)
  behind_keeps new statement.Commit talk e moved w opened_it uses is = let no : true ≡ false = w.goes_on in absurd cc
  behind_keeps new statement.Rollback talk e moved w opened_it uses is = let no : true ≡ false = w.goes_on in absurd cc
  behind_keeps new (statement.Insert table values) talk e moved w opened_it uses is = reads_keep new (statement.Insert table values) talk uses.0 moved w uses.1 (subst (IsOpen new) (sym uses.2) opened_it) is
  behind_keeps new (statement.Select table names c) talk e moved w opened_it uses is = reads_keep new (statement.Select table names c) talk uses.0 moved w uses.1 (subst (IsOpen new) (sym uses.2) opened_it) is
  behind_keeps new (statement.Update table sets c) talk e moved w opened_it uses is = reads_keep new (statement.Update table sets c) talk uses.0 moved w uses.1 (subst (IsOpen new) (sym uses.2) opened_it) is
  behind_keeps new (statement.Delete table c) talk e moved w opened_it uses is = reads_keep new (statement.Delete table c) talk uses.0 moved w uses.1 (subst (IsOpen new) (sym uses.2) opened_it) is

  open_keeps : (live : Live) (talk : Talk) (e : EngineName) (n : ℕ) (x : EngineReply) (moved : Moved) → Waits catalog live (job.Open e n) talk → CallFits (call.Open live.label n) x
      → Either (open_goes catalog records (noted_open live e n (given.Engine x)) e (given.Engine x)) (starve records (noted_open live e n (given.Engine x))) moved
      → Keeps catalog records live.label (talk ++ made_call e (call.Open live.label n) x) moved
  open_keeps live talk e n answer.Done moved w fits is =
      let new : Live = opened_at live e n in
      let a : Alike live new = alike_opened live e n in
      let v : Answering catalog new w.now (Behind catalog new.label w.now) (talk ++ own e (call.Open live.label n) answer.Done ∷ []) =
      goes_further catalog live new w.now _ _ talk (own e (call.Open live.label n) answer.Done) w.answering a (λ x o. open_still live e x n o) (knows_open live talk e n w.knows.0 w.answering.knows)
      (λ calls r h. ((n, record { engine = refl; call = refl }), subst (λ l. Behind catalog l w.now calls r) a.label h)) in
      subst (λ l. Keeps catalog records l (talk ++ own e (call.Open live.label n) answer.Done ∷ []) moved) a.label
      (behind_keeps new w.now _ e moved v (opened_now live e n) (subst (λ k. Uses catalog k w.now e) (sym a.kind) w.knows.1)
      (subst (λ o. Either (behind_open catalog records new (is_begin o)) (starve records new) moved) v.statement_is is))
  open_keeps live talk e n (answer.Fault f) moved w fits is =
      loss_keeps catalog records live w.now _ (Behind catalog live.label w.now) talk e (call.Open live.label n) f moved w.answering fits (knows_refused live talk e n f w.answering.knows)
      (λ calls r h. ((n, record { engine = refl; call = refl }), h)) (unopened live.mem) is
  open_keeps live talk e n _ moved w fits is = absurd fits

  -- ---- the read

  abbrev ReadsNow : Live → Statement → EngineName → ℕ → Option Value → Rest
  ReadsNow live now e t key = Reads live.label e t key (λ rows. Makes live.label e (comes_to (columns_at catalog t) t now rows))

  -- the rows were read
  rows_keep : (live : Live) (now : Statement) (talk : Talk) (e : EngineName) (t : ℕ) (key : Option Value) (x : EngineReply) (rows : KeyedRows) (moved : Moved) → Answering catalog live now (ReadsNow live now e t key) talk → table_named catalog now ≡ Some t → IsOpen live e
      → IsFoundBy key x rows → Either (rows_come catalog records live e rows) (starve records live) moved → Keeps catalog records live.label (talk ++ own e (read_call live.label t key) x ∷ []) moved
  rows_keep live now talk e t key x rows moved w named opened_it found is =
      let plain : is_begin (Some now) ≡ false = names_no_begin catalog now t named in
      let a : Answer = comes_to (columns_at catalog t) t now rows in
      let v : Answering catalog live now (Puts live.label e a.0 (drop 0 a.1)) _ =
      goes_further catalog live live now _ _ talk (own e (read_call live.label t key) x) w (same live) (λ y o. o) (knows_read live talk e t key x w.knows)
      (λ calls r h. (record { engine = refl; call = refl }, found_then e key x rows (λ rs. Makes live.label e (comes_to (columns_at catalog t) t now rs)) calls r found (inr h))) in
      puts_keep catalog records live now _ e a.1 0 a.0 moved
      (subst (λ y. Either y (starve records live) moved) (ap (λ o. answer_by records live e (answer_now catalog o rows)) w.statement_is ∙ ap (λ o. answer_by records live e (answer_in catalog now rows o)) named) is)
      v opened_it (λ declared. w.first declared plain) (answer_kept (columns_at catalog t) t now rows) plain

  read_fault : (e : EngineName) (key : Option Value) (Then : KeyedRows → Rest) (f : EngineFault) (calls : Talk) (r : Reply) → Answers (fault_reply e f) calls r → IfRead e key Then (answer.Fault f) calls r
  read_fault e None Then f calls r h = h
  read_fault e (Some key) Then f calls r h = h

  -- the read was refused
  read_refused : (live : Live) (now : Statement) (talk : Talk) (e : EngineName) (t : ℕ) (key : Option Value) (f : EngineFault) (moved : Moved) → Answering catalog live now (ReadsNow live now e t key) talk → table_named catalog now ≡ Some t → IsOpen live e
      → Either (fault_at_read records live e f) (starve records live) moved → Keeps catalog records live.label (talk ++ made_call e (read_call live.label t key) (answer.Fault f)) moved
  read_refused live now talk e t key f moved w named opened_it is = by f is
    where
      next : (f : EngineFault) → Answering catalog live now (Answers (fault_reply e f)) (talk ++ own e (read_call live.label t key) (answer.Fault f) ∷ [])
      next f = goes_further catalog live live now _ _ talk (own e (read_call live.label t key) (answer.Fault f)) w (same live) (λ y o. o) (knows_read live talk e t key (answer.Fault f) w.knows)
          (λ calls r h. (record { engine = refl; call = refl }, read_fault e key _ f calls r h))

      by : (f : EngineFault) → Either (fault_at_read records live e f) (starve records live) moved → Keeps catalog records live.label (talk ++ made_call e (read_call live.label t key) (answer.Fault f)) moved
      by (fault.Busy other) is =
          say_or_starve catalog records live now _ _ e (reply.Busy other) moved is (next (fault.Busy other)) opened_it (λ declared. w.first declared (names_no_begin catalog now t named)) refl (refl, inl refl) (refl, inr refl)
      by fault.NoMemory is =
          subst (λ x. Keeps catalog records live.label x moved) (sym (append-nil talk))
          (either_keeps (Keeps catalog records live.label talk) _ _ moved is (fault_keeps catalog records live now _ talk e fault.NoMemory tt w refl) (starve_keeps catalog records live now _ talk w refl))
      by (fault.Old s n) is =
          either_keeps (Keeps catalog records live.label _) _ _ moved is (fault_keeps catalog records live now _ _ e (fault.Old s n) tt (next (fault.Old s n)) (refl, inl refl)) (starve_keeps catalog records live now _ _ (next (fault.Old s n)) (refl, inr refl))
      by (fault.Conflict other why) is =
          either_keeps (Keeps catalog records live.label _) _ _ moved is (fault_keeps catalog records live now _ _ e (fault.Conflict other why) tt (next (fault.Conflict other why)) (refl, inl refl)) (starve_keeps catalog records live now _ _ (next (fault.Conflict other why)) (refl, inr refl))
      by fault.Device is =
          either_keeps (Keeps catalog records live.label _) _ _ moved is (fault_keeps catalog records live now _ _ e fault.Device tt (next fault.Device) (refl, inl refl)) (starve_keeps catalog records live now _ _ (next fault.Device) (refl, inr refl))

  read_keeps : (live : Live) (talk : Talk) (e : EngineName) (t : ℕ) (key : Option Value) (x : EngineReply) (moved : Moved) → Waits catalog live (job.Read e t key) talk → CallFits (read_call live.label t key) x
      → Either (read_goes catalog records live e key (given.Engine x)) (starve records live) moved → Keeps catalog records live.label (talk ++ made_call e (read_call live.label t key) x) moved
  read_keeps live talk e t None (answer.Rows rows) moved w fits is = rows_keep live w.now talk e t None (answer.Rows rows) rows moved w.answering w.knows.0 w.knows.1 refl is
  read_keeps live talk e t (Some key) (answer.Found row) moved w fits is = rows_keep live w.now talk e t (Some key) (answer.Found row) (one_row key row) moved w.answering w.knows.0 w.knows.1 refl is
  read_keeps live talk e t None (answer.Fault f) moved w fits is = read_refused live w.now talk e t None f moved w.answering w.knows.0 w.knows.1 is
  read_keeps live talk e t (Some key) (answer.Fault f) moved w fits is = read_refused live w.now talk e t (Some key) f moved w.answering w.knows.0 w.knows.1 is
  read_keeps live talk e t None _ moved w fits is = absurd fits
  read_keeps live talk e t (Some key) _ moved w fits is = absurd fits

  -- ---- the put

  knows_unput : (live : Live) (talk : Talk) (e : EngineName) (v : Write) (f : EngineFault) → Knows live talk → Knows live (talk ++ own e (put_call live.label v) (answer.Fault f) ∷ [])
  knows_unput live talk Mem v f k = knows_more live talk _ refl refl refl refl k
  knows_unput live talk Store v f k = knows_more live talk _ refl refl refl refl k

  put_keeps : (live : Live) (now : Statement) (talk : Talk) (e : EngineName) (writes : List Write) (done : ℕ) (said : Reply) (v : Write) (x : EngineReply) (moved : Moved) → Answering catalog live now (Puts live.label e said (drop done writes)) talk → slice_get writes done ≡ Some v
      → is_lost said ≡ false → IsOpen live e → is_begin (Some now) ≡ false → CallFits (put_call live.label v) x → Either (put_goes records (noted_put live e (given.Engine x)) e writes done said (given.Engine x)) (starve records (noted_put live e (given.Engine x))) moved
      → Keeps catalog records live.label (talk ++ made_call e (put_call live.label v) x) moved
  put_keeps live now talk e writes done said v answer.Done moved w next kept opened_it plain fits is =
      let new : Live = has_written live e in
      let a : Alike live new = alike_written live e in
      let after : Answering catalog new now (Puts new.label e said (drop (done + 1) writes)) (talk ++ own e (put_call live.label v) answer.Done ∷ []) =
      goes_further catalog live new now _ _ talk (own e (put_call live.label v) answer.Done) w a (λ y o. still_open live e y o) (knows_put live talk e v opened_it w.knows)
      (λ calls r h. subst (λ ws. Puts live.label e said ws (own e (put_call live.label v) answer.Done ∷ calls) r) (sym (next_write writes done v next))
      (record { engine = refl; call = refl }, subst (λ l. Puts l e said (drop (done + 1) writes) calls r) a.label h)) in
      subst (λ l. Keeps catalog records l (talk ++ own e (put_call live.label v) answer.Done ∷ []) moved) a.label (puts_keep catalog records new now _ e writes (done + 1) said moved is after (still_open live e e opened_it) (λ declared. after.first declared plain) kept plain)
  put_keeps live now talk e writes done said v (answer.Fault f) moved w next kept opened_it plain fits is =
      loss_keeps catalog records live now _ (Puts live.label e said (drop (done + 1) writes)) talk e (put_call live.label v) f moved w fits (knows_unput live talk e v f w.knows)
      (λ calls r h. subst (λ ws. Puts live.label e said ws (own e (put_call live.label v) (answer.Fault f) ∷ calls) r) (sym (next_write writes done v next)) (record { engine = refl; call = refl }, h))
      (subst (λ ws. Puts live.label e said ws [] (reply.Refused err.Memory)) (sym (next_write writes done v next)) refl) is
  put_keeps live now talk e writes done said v _ moved w next kept opened_it plain fits is = absurd fits

  -- ---- all of them

  engine_made : (e : EngineName) (asked : EngineCall) (got : Got) → WishFits (on e asked) got → (x : EngineReply) × (got ≡ given.Engine x) × CallFits asked x × (own_call (on e asked) got ≡ made_call e asked x)
  engine_made Mem asked (given.Engine x) fits = (x, refl, fits, refl)
  engine_made Store asked (given.Engine x) fits = (x, refl, fits, refl)
  engine_made Mem asked (given.Reg x) fits = absurd fits
  engine_made Store asked (given.Reg x) fits = absurd fits

  -- an answer to a call of a statement
  pub take_waits : (live : Live) (doing : Job) (talk : Talk) (got : Got) (moved : Moved) → Waits catalog live doing talk → WishFits (wished live doing) got → GoesAs catalog records live doing got moved
      → Keeps catalog records live.label (talk ++ own_call (wished live doing) got) moved
  take_waits live job.Count talk got moved w fits is = count_keeps catalog records live talk got moved w fits is
  take_waits live (job.Open e n) talk got moved w fits is =
      let m : (x : EngineReply) × (got ≡ given.Engine x) × CallFits (call.Open live.label n) x × (own_call (on e (call.Open live.label n)) got ≡ made_call e (call.Open live.label n) x) = engine_made e (call.Open live.label n) got fits in
      subst (λ t. Keeps catalog records live.label (talk ++ t) moved) (sym m.3)
      (open_keeps live talk e n m.0 moved w m.2 (subst (λ g. Either (open_goes catalog records (noted_open live e n g) e g) (starve records (noted_open live e n g)) moved) m.1 is))
  take_waits live job.Select talk got moved w fits is = select_keeps catalog records live talk got moved w fits is
  take_waits live (job.Read e t key) talk got moved w fits is =
      let m : (x : EngineReply) × (got ≡ given.Engine x) × CallFits (read_call live.label t key) x × (own_call (on e (read_call live.label t key)) got ≡ made_call e (read_call live.label t key) x) = engine_made e (read_call live.label t key) got fits in
      subst (λ y. Keeps catalog records live.label (talk ++ y) moved) (sym m.3)
      (read_keeps live talk e t key m.0 moved w m.2 (subst (λ g. Either (read_goes catalog records live e key g) (starve records live) moved) m.1 is))
  take_waits live (job.Put e writes done said) talk got moved w fits is =
      let v : Write = w.knows.0 in
      let asked : put_wish live e (slice_get writes done) ≡ on e (put_call live.label v) = ap (put_wish live e) w.knows.1 in
      let m : (x : EngineReply) × (got ≡ given.Engine x) × CallFits (put_call live.label v) x × (own_call (on e (put_call live.label v)) got ≡ made_call e (put_call live.label v) x) = engine_made e (put_call live.label v) got (subst (λ y. WishFits y got) asked fits) in
      subst (λ t. Keeps catalog records live.label (talk ++ t) moved) (sym (ap (λ y. own_call y got) asked ∙ m.3))
      (put_keeps live w.now talk e writes done said v m.0 moved w.answering w.knows.1 w.knows.2 w.knows.3 w.knows.4 m.2
      (subst (λ g. Either (put_goes records (noted_put live e g) e writes done said g) (starve records (noted_put live e g)) moved) m.1 is))
  take_waits live (job.Commit c whole own) talk got moved w fits is = absurd w.knows
  take_waits live (job.Leave e how r lost) talk got moved w fits is = absurd w.knows
