-- Where a record's refusal came from: a call of its own that an engine refused, its anchor, or neither.
use Rattle.std.specs.Prelude.{◌⊎◌, ℕ, Bool, true, false, cond, ◌≡◌, List, [], ◌∷◌, ◌++◌, Option, Some, None, Result, Ok, Err}
use Rattle.std.proofs.Common.{refl, sym, ap, subst, ◌∙◌, inl, inr, ⊎_elim}
use Rattle.std.specs.List.{list_all}
use Rattle.std.proofs.lemmas.List.{append_assoc}
use Rattle.sk_rows.specs.declared.value.Value.{Value}
use Rattle.sk_rows.specs.declared.table.Column.{Column}
use Rattle.sk_rows.specs.declared.table.Table.{Table}
use Rattle.sk_rows.specs.declared.statement.Statement.{Statement}
use Rattle.sk_rows.specs.declared.statement.Statement.TheVariants as statement
use Rattle.sk_rows.specs.declared.faults.ValueFault.{ValueFault}
use Rattle.sk_rows.specs.Evaluation.{◌>>=◌}
use Rattle.sk_model.specs.declared.label.Label.{Label}
use Rattle.sk_model.specs.declared.engine.EngineName.{EngineName}
use Rattle.sk_model.specs.declared.engine.EngineName.TheVariants.{Mem}
use Rattle.sk_model.specs.declared.commit.Write.{Write}
use Rattle.sk_model.specs.declared.point.Recycled.{Recycled}
use Rattle.sk_model.specs.declared.record.Ending.{Ending}
use Rattle.sk_model.specs.declared.record.Ending.TheVariants as ending
use Rattle.sk_model.specs.declared.record.Record.{Record}
use Rattle.sk_model.specs.declared.record.Said.{Said}
use Rattle.sk_model.specs.declared.record.TxKind.{TxKind}
use Rattle.sk_model.specs.declared.reply.ErrWord.{ErrWord}
use Rattle.sk_model.specs.declared.reply.ErrWord.TheVariants as err
use Rattle.sk_model.specs.declared.reply.Reply.{Reply}
use Rattle.sk_model.specs.declared.reply.Reply.TheVariants as reply
use Rattle.sk_model.specs.declared.call.EngineCall.{EngineCall}
use Rattle.sk_model.specs.declared.call.EngineCall.TheVariants as call
use Rattle.sk_model.specs.declared.call.EngineFault.{EngineFault}
use Rattle.sk_model.specs.declared.call.EngineReply.{EngineReply}
use Rattle.sk_model.specs.declared.call.EngineReply.TheVariants as answer
use Rattle.sk_model.specs.Database.{KeyedRows}
use Rattle.sk_model.specs.Names.{table_at, columns_at}
use Rattle.sk_model.specs.Reads.{rows_met}
use Rattle.sk_model.specs.Changes.{new_rows}
use Rattle.sk_model.specs.Replies.{Answer, comes_to, key_read, refusal_in, has_room, key_of, row_put, inserted, updated, deleted, select_answer}
use Rattle.sk_model.specs.Talks.{OwnCall, Talk, own, or_else, opened}
use Rattle.sk_model.specs.Asking.{keeper, may_use, first_engine, fault_reply, Rest, Answers, Starves, Asks, IfDone, Opens, read_call, IfRead, Reads, put_call, Puts, Makes, Works, AsksAt, AsksOf, Begins, Asked}
use Rattle.sk_model.specs.RecordTalks.{Converses, CommitReply, EndReply, EndReplyTo, refuses_commit, Outdone, Talks}
use Rattle.sk_model.proofs.Lists.{Each}
use Rattle.sk_linked.specs.Traces.{In}
use Rattle.sk_linked.proofs.Members.{in_append, in_front}
use Rattle.sk_linked.proofs.Speaking.{asked_is, opened_more}

-- no engine refused it, and its anchor was there
abbrev pub is_plain : Reply → Bool
is_plain (reply.Conflict by why) = false
is_plain (reply.Busy by) = false
is_plain (reply.Old engine snapshot horizon) = false
is_plain (reply.Recycled recycled) = false
is_plain _ = true

-- where a reply came from, where this is the anchor and these are the calls
pub data Source (anchor : Option ℕ) (calls : Talk) (r : Reply) : Type 0 where
  ByFault : (e : EngineName) (c : EngineCall) (f : EngineFault) → In (own e c (answer.Fault f)) calls → r ≡ fault_reply e f → Source anchor calls r
  ByAnchor : (x : Recycled) → r ≡ reply.Recycled x → anchor ≡ Some x.a → Source anchor calls r
  Plain : is_plain r ≡ true → Source anchor calls r

behind_call : (anchor : Option ℕ) (c : OwnCall) (calls : Talk) (r : Reply) → Source anchor calls r → Source anchor (c ∷ calls) r
behind_call anchor c calls r (ByFault e k f i is) = ByFault e k f (inr i) is
behind_call anchor c calls r (ByAnchor x is a) = ByAnchor x is a
behind_call anchor c calls r (Plain p) = Plain p

plain_answer : (anchor : Option ℕ) (said : Reply) (calls : Talk) (r : Reply) → is_plain said ≡ true → Answers said calls r → Source anchor calls r
plain_answer anchor said calls r p h = Plain (⊎_elim (λ (e : r ≡ said). ap is_plain e ∙ p) (λ (e : r ≡ reply.Refused err.Memory). ap is_plain e) h.1)

fault_answer : (anchor : Option ℕ) (e : EngineName) (f : EngineFault) (c : OwnCall) (k : EngineCall) (calls : Talk) (r : Reply) → Asks e k c → c.entry.reply ≡ answer.Fault f → Answers (fault_reply e f) calls r → Source anchor (c ∷ calls) r
fault_answer anchor e f c k calls r a is h = ⊎_elim
    (λ (q : r ≡ fault_reply e f). ByFault e k f (inl (sym (asked_is e k (answer.Fault f) c a is))) q)
    (λ (q : r ≡ reply.Refused err.Memory). Plain (ap is_plain q))
    h.1

starved : (anchor : Option ℕ) (calls : Talk) (r : Reply) → r ≡ reply.Refused err.Memory → Source anchor calls r
starved anchor calls r e = Plain (ap is_plain e)

-- what the database itself answers is plain
sized_plain : (b : Bool) (n : ℕ) (ws : List Write) → is_plain (cond {A = Answer} b (reply.Count n, ws) (reply.Refused err.Size, [])).0 ≡ true
sized_plain true n ws = refl
sized_plain false n ws = refl

inserted_plain : (t : ℕ) (values : List Value) (rows : KeyedRows) → is_plain (inserted t values rows).0 ≡ true
inserted_plain t values [] = sized_plain (has_room values) 1 (row_put t (key_of values, values) ∷ [])
inserted_plain t values (r ∷ rs) = refl

comes_to_plain : (columns : List Column) (t : ℕ) (s : Statement) (rows : KeyedRows) → is_plain (comes_to columns t s rows).0 ≡ true
comes_to_plain columns t (statement.Begin begun) rows = refl
comes_to_plain columns t statement.Commit rows = refl
comes_to_plain columns t statement.Rollback rows = refl
comes_to_plain columns t (statement.Insert table values) rows = inserted_plain t values rows
comes_to_plain columns t (statement.Select table names q) rows = go (rows_met columns q rows)
  where
    go : (x : Result KeyedRows ValueFault) → is_plain (select_answer columns names x).0 ≡ true
    go (Ok found) = refl
    go (Err f) = refl
comes_to_plain columns t (statement.Update table sets q) rows = go (rows_met columns q rows >>= new_rows columns sets)
  where
    go : (x : Result KeyedRows ValueFault) → is_plain (updated t x).0 ≡ true
    go (Ok new) = sized_plain (list_all (λ r. has_room r.1) new) _ _
    go (Err f) = refl
comes_to_plain columns t (statement.Delete table q) rows = go (rows_met columns q rows)
  where
    go : (x : Result KeyedRows ValueFault) → is_plain (deleted t x).0 ≡ true
    go (Ok found) = refl
    go (Err f) = refl

module _ (tx : Label) (anchor : Option ℕ) where
  abbrev From : Rest → Type 0
  From Then = (calls : Talk) (r : Reply) → Then calls r → Source anchor calls r

  opens_from : (e : EngineName) (a snapshot : Option ℕ) (Then : Rest) → ((n : ℕ) → a ≡ Some n → anchor ≡ Some n) → From Then → From (Opens tx e a snapshot Then)
  opens_from e a (Some s) Then same h calls r o = h calls r o
  opens_from e None None Then same h [] r o = starved anchor [] r o
  opens_from e (Some n) None Then same h [] r o = ⊎_elim
      (λ (q : r ≡ reply.Refused err.Memory). starved anchor [] r q)
      (λ (q : (oldest : _) × (r ≡ reply.Recycled (record { a = n; oldest = oldest }))). ByAnchor (record { a = n; oldest = q.0 }) q.1 (same n refl))
      o
  opens_from e a None Then same h (c ∷ calls) r o = go c.entry.reply refl o.1
    where
      go : (x : EngineReply) → c.entry.reply ≡ x → IfDone e Then x calls r → Source anchor (c ∷ calls) r
      go answer.Done is d = behind_call anchor c calls r (h calls r d)
      go (answer.Fault f) is d = fault_answer anchor e f c (call.Open tx o.0.0) calls r o.0.1 is d.1
      go (answer.Found row) is d = absurd d
      go (answer.Rows rows) is d = absurd d
      go (answer.Number n) is d = absurd d
      go (answer.Commits cs) is d = absurd d

  puts_from : (e : EngineName) (said : Reply) (ws : List Write) → is_plain said ≡ true → From (Puts tx e said ws)
  puts_from e said [] p calls r h = plain_answer anchor said calls r p h
  puts_from e said (w ∷ ws) p [] r h = starved anchor [] r h
  puts_from e said (w ∷ ws) p (c ∷ calls) r h = go c.entry.reply refl (λ d. puts_from e said ws p calls r d) h.1
    where
      go : (x : EngineReply) → c.entry.reply ≡ x → (Puts tx e said ws calls r → Source anchor calls r) → IfDone e (Puts tx e said ws) x calls r → Source anchor (c ∷ calls) r
      go answer.Done is ih d = behind_call anchor c calls r (ih d)
      go (answer.Fault f) is ih d = fault_answer anchor e f c (put_call tx w) calls r h.0 is d.1
      go (answer.Found row) is ih d = absurd d
      go (answer.Rows rows) is ih d = absurd d
      go (answer.Number n) is ih d = absurd d
      go (answer.Commits cs) is ih d = absurd d

  makes_from : (e : EngineName) (a : Answer) → is_plain a.0 ≡ true → From (Makes tx e a)
  makes_from e a p calls r (inl h) = starved anchor calls r h.1
  makes_from e a p calls r (inr h) = puts_from e a.0 a.1 p calls r h

  reads_from : (e : EngineName) (t : ℕ) (key : Option Value) (Then : KeyedRows → Rest) → ((rows : KeyedRows) → From (Then rows)) → From (Reads tx e t key Then)
  reads_from e t key Then h [] r o = starved anchor [] r o
  reads_from e t key Then h (c ∷ calls) r o = go key c.entry.reply refl o.0 o.1
    where
      go : (key : Option Value) (x : EngineReply) → c.entry.reply ≡ x → Asks e (read_call tx t key) c → IfRead e key Then x calls r → Source anchor (c ∷ calls) r
      go (Some v) (answer.Found row) is a d = behind_call anchor c calls r (h _ calls r d)
      go (Some v) (answer.Fault f) is a d = fault_answer anchor e f c (call.Get tx t v) calls r a is d
      go (Some v) answer.Done is a d = absurd d
      go (Some v) (answer.Rows rows) is a d = absurd d
      go (Some v) (answer.Number n) is a d = absurd d
      go (Some v) (answer.Commits cs) is a d = absurd d
      go None (answer.Rows rows) is a d = behind_call anchor c calls r (h rows calls r d)
      go None (answer.Fault f) is a d = fault_answer anchor e f c (call.Scan tx t) calls r a is d
      go None answer.Done is a d = absurd d
      go None (answer.Found row) is a d = absurd d
      go None (answer.Number n) is a d = absurd d
      go None (answer.Commits cs) is a d = absurd d

  at_from : (catalog : List Table) (kind : TxKind) (before : Talk) (s : Statement) (t : ℕ) (o : Option ErrWord) → opened Mem before ≡ anchor → From (AsksAt catalog tx kind before s t o)
  at_from catalog kind before s t (Some word) same calls r h = plain_answer anchor (reply.Refused word) calls r refl h
  at_from catalog kind before s t None same calls r h = go (may_use kind (keeper catalog t)) h
    where
      go : (b : Bool) → cond b (Works catalog tx (opened Mem before) (opened (keeper catalog t) before) s t calls r) (Answers (reply.Refused err.Engine) calls r) → Source anchor calls r
      go true h = opens_from (keeper catalog t) (opened Mem before) (opened (keeper catalog t) before) _ (λ n q. sym same ∙ q)
          (reads_from (keeper catalog t) t (key_read (columns_at catalog t) s) _ (λ rows. makes_from (keeper catalog t) (comes_to (columns_at catalog t) t s rows) (comes_to_plain (columns_at catalog t) t s rows))) calls r h
      go false h = plain_answer anchor (reply.Refused err.Engine) calls r refl h

  of_from : (catalog : List Table) (kind : TxKind) (before : Talk) (s : Statement) (o : Option ℕ) → opened Mem before ≡ anchor → From (AsksOf catalog tx kind before s o)
  of_from catalog kind before s None same calls r h = plain_answer anchor (reply.Refused err.Table) calls r refl h
  of_from catalog kind before s (Some t) same calls r h = at_from catalog kind before s t (refusal_in (columns_at catalog t) s) same calls r h

-- COMMIT and ROLLBACK are answered plainly
commit_plain : (record_is : Record) (how : Ending) (r : Reply) → CommitReply record_is how r → is_plain r ≡ true
commit_plain x ending.Committed r h = ap is_plain h
commit_plain x ending.CheckFailed r h = ap is_plain h.1
commit_plain x ending.Spent r h = ap is_plain h.1
commit_plain x ending.NoMemory r h = ap is_plain h
commit_plain x ending.Open r h = absurd h
commit_plain x ending.RolledBack r h = absurd h
commit_plain x ending.Conflict r h = absurd h
commit_plain x ending.Recycled r h = absurd h
commit_plain x ending.Old r h = absurd h
commit_plain x ending.Device r h = absurd h

module _ (catalog : List Table) (x : Record) (tx : Label) (kind : TxKind) where
  asked_from : (before : Talk) (s : Statement) (calls : Talk) (r : Reply) → EndReplyTo x r s → Asked catalog tx kind before s calls r → Source (opened Mem before) calls r
  asked_from before (statement.Begin begun) calls r e h = ⊎_elim
      (λ (k : Starves calls r). starved (opened Mem before) calls r k.1)
      (λ (k : Begins tx kind calls r). opens_from tx (opened Mem before) (first_engine kind) None None (Answers (reply.Began tx)) (λ n q. absurd (clash q)) (λ calls r k. plain_answer (opened Mem before) (reply.Began tx) calls r refl k) calls r k)
      h.2
    where
      clash : {n : ℕ} → None ≡ Some n → ⊥
      clash q = cc
  asked_from before statement.Commit calls r e h = Plain (commit_plain x x.ending r e)
  asked_from before statement.Rollback calls r e h = Plain (ap is_plain e.1)
  asked_from before (statement.Insert table values) calls r e (inl h) = starved (opened Mem before) calls r h.1
  asked_from before (statement.Insert table values) calls r e (inr h) = of_from tx (opened Mem before) catalog kind before (statement.Insert table values) (table_at catalog table) refl calls r h
  asked_from before (statement.Select table names q) calls r e (inl h) = starved (opened Mem before) calls r h.1
  asked_from before (statement.Select table names q) calls r e (inr h) = of_from tx (opened Mem before) catalog kind before (statement.Select table names q) (table_at catalog table) refl calls r h
  asked_from before (statement.Update table sets q) calls r e (inl h) = starved (opened Mem before) calls r h.1
  asked_from before (statement.Update table sets q) calls r e (inr h) = of_from tx (opened Mem before) catalog kind before (statement.Update table sets q) (table_at catalog table) refl calls r h
  asked_from before (statement.Delete table q) calls r e (inl h) = starved (opened Mem before) calls r h.1
  asked_from before (statement.Delete table q) calls r e (inr h) = of_from tx (opened Mem before) catalog kind before (statement.Delete table q) (table_at catalog table) refl calls r h

  -- among all calls of the record
  widened : (before first more : Talk) (r : Reply) → Source (opened Mem before) first r → Source (opened Mem (before ++ (first ++ more))) (before ++ (first ++ more)) r
  widened before first more r (ByFault e c f i is) = ByFault e c f (in_append _ before (first ++ more) (in_front _ first more i)) is
  widened before first more r (ByAnchor y is a) = ByAnchor y is (opened_more Mem before (first ++ more) ∙ ap (λ o. or_else o (opened Mem (first ++ more))) a)
  widened before first more r (Plain p) = Plain p

  -- each reply of a record came from its calls
  pub sources : (said : List Said) (before talk : Talk) → Each (EndReply x) said → Converses catalog tx kind before said talk → Each (λ (s : Said). Source (opened Mem (before ++ talk)) (before ++ talk) s.reply) said
  sources [] before talk e h = tt
  sources (s ∷ said) before talk e h =
      let whole : before ++ talk ≡ before ++ (h.0 ++ h.1) = ap (λ (t : Talk). before ++ t) h.2 in (
        subst (λ (t : Talk). Source (opened Mem t) t s.reply) (sym whole) (widened before h.0 h.1 s.reply (asked_from before s.statement h.0 s.reply e.0 h.3)),
        subst (λ (t : Talk). Each (λ (s : Said). Source (opened Mem t) t s.reply) said) (append_assoc before h.0 h.1 ∙ sym whole) (sources said (before ++ h.0) h.1 e.1 h.5),
      )

refusal_plain : (r : Reply) → refuses_commit r ≡ true → is_plain r ≡ true
refusal_plain (reply.CheckFailed point mem store) e = refl
refusal_plain (reply.Spent name) e = refl
refusal_plain (reply.Refused err.Memory) e = refl
refusal_plain _ e = absurd cc

-- so each reply that a record has came from its calls, its anchor, or neither
pub said_sources : (catalog : List Table) (r : Record) (talk : Talk) (talks : Talks catalog r talk) → Each (λ (s : Said). Source (opened Mem talks.spoken) talks.spoken s.reply) r.said
said_sources catalog r talk talks = from talks.said
  where
    from : (r.said ≡ talks.heard) ⊎ Outdone r talks.heard → Each (λ (s : Said). Source (opened Mem talks.spoken) talks.spoken s.reply) r.said
    from (inl is) = subst (Each (λ (s : Said). Source (opened Mem talks.spoken) talks.spoken s.reply)) (sym is)
        (sources catalog r r.label r.kind talks.heard [] talks.spoken (subst (Each (EndReply r)) is talks.replies) talks.asked)
    from (inr o) = subst (Each (λ (s : Said). Source (opened Mem talks.spoken) talks.spoken s.reply)) (sym o.said_is) (Plain (refusal_plain o.refusal o.refuses), tt)
