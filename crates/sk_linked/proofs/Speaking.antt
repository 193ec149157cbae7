-- How the calls of a record's statements go in one engine: none, or it is opened once and then read and written, or its opening is refused.
use Rattle.std.specs.Prelude.{◌≡◌, ℕ, ◌⊎◌, List, [], ◌∷◌, ◌++◌, Option, Some, None, Bool, true, false, cond, ◌||◌}
use Rattle.std.proofs.Common.{refl, sym, ap, subst, ◌∙◌, inl, inr, ⊎_elim}
use Rattle.std.proofs.lemmas.List.{append-nil, append_assoc}
use Rattle.std.proofs.lemmas.List.Concat.{flat_map-append}
use Rattle.sk_rows.specs.declared.value.Value.{Value}
use Rattle.sk_rows.specs.declared.table.Table.{Table}
use Rattle.sk_rows.specs.declared.statement.Statement.{Statement}
use Rattle.sk_rows.specs.declared.statement.Statement.TheVariants as statement
use Rattle.sk_model.specs.declared.label.Label.{Label}
use Rattle.sk_model.specs.declared.engine.EngineName.{EngineName}
use Rattle.sk_model.specs.declared.engine.EngineName.TheVariants.{Mem, Store}
use Rattle.sk_model.specs.declared.commit.Write.{Write}
use Rattle.sk_model.specs.declared.record.Said.{Said}
use Rattle.sk_model.specs.declared.record.TxKind.{TxKind}
use Rattle.sk_model.specs.declared.reply.ErrWord.{ErrWord}
use Rattle.sk_model.specs.declared.reply.ErrWord.TheVariants as err
use Rattle.sk_model.specs.declared.reply.Reply.{Reply}
use Rattle.sk_model.specs.declared.reply.Reply.TheVariants as reply
use Rattle.sk_model.specs.declared.call.EngineCall.{EngineCall}
use Rattle.sk_model.specs.declared.call.EngineCall.TheVariants as call
use Rattle.sk_model.specs.declared.call.EngineFault.{EngineFault}
use Rattle.sk_model.specs.declared.call.EngineReply.{EngineReply}
use Rattle.sk_model.specs.declared.call.EngineReply.TheVariants as answer
use Rattle.sk_model.specs.declared.call.Entry.{Entry}
use Rattle.sk_model.specs.Database.{KeyedRows}
use Rattle.sk_model.specs.Names.{table_at, columns_at}
use Rattle.sk_model.specs.Replies.{Answer, comes_to, key_read, refusal_in}
use Rattle.sk_model.specs.Spoken.{is_lost}
use Rattle.sk_model.specs.Talks.{OwnCall, Talk, own, call_in, calls_in, opened_by, opened_in, or_else, opened}
use Rattle.sk_model.specs.Asking.{keeper, may_use, first_engine, fault_reply, Rest, Answers, Starves, Asks, IfDone, Opens, read_call, IfRead, Reads, put_call, Puts, Makes, Works, AsksAt, AsksOf, Begins, Asked}
use Rattle.sk_model.specs.RecordTalks.{is_end, Converses}
use Rattle.sk_model.proofs.Lists.{Each, each_append}
use Rattle.sk_linked.specs.Traces.{open_entry}

-- a read or a write of the transaction
abbrev pub IsWork : Label → EngineCall → Type 0
IsWork tx (call.Open l s) = ⊥
IsWork tx (call.Get l t key) = l ≡ tx
IsWork tx (call.Scan l t) = l ≡ tx
IsWork tx (call.Put l t key row) = l ≡ tx
IsWork tx (call.Close l) = ⊥
IsWork tx (call.Stamp l n) = ⊥
IsWork tx (call.Void l n) = ⊥
IsWork tx (call.DropTx l) = ⊥
IsWork tx call.Horizon = ⊥
IsWork tx (call.Records from to) = ⊥
IsWork tx (call.Purge upto) = ⊥

-- the engine is untouched, or it was opened at a snapshot and then read and written
pub data Going (tx : Label) (js : List Entry) (o : Option ℕ) : Type 0 where
  Untouched : js ≡ [] → o ≡ None → Going tx js o
  Working : (s : ℕ) (rest : List Entry) → js ≡ open_entry tx s ∷ rest → Each (λ (j : Entry). IsWork tx j.call) rest → o ≡ Some s → Going tx js o

-- its opening was refused, and no call came then
pub record RefusedIn (tx : Label) (js : List Entry) (o : Option ℕ) : Type 0 where
  pub snapshot : ℕ
  pub fault : EngineFault
  pub is : js ≡ record { call = call.Open tx snapshot; reply = answer.Fault fault } ∷ []
  pub none : o ≡ None

abbrev pub SpokenIn : Label → EngineName → Talk → Type 0
SpokenIn tx e talk = Going tx (calls_in e talk) (opened e talk) ⊎ RefusedIn tx (calls_in e talk) (opened e talk)

-- ---- one call more

or_none : (o : Option ℕ) → or_else o None ≡ o
or_none None = refl
or_none (Some n) = refl

or_in_a_row : (a b c : Option ℕ) → or_else a (or_else b c) ≡ or_else (or_else a b) c
or_in_a_row None b c = refl
or_in_a_row (Some n) b c = refl

pub opened_more : (e : EngineName) (xs ys : Talk) → opened e (xs ++ ys) ≡ or_else (opened e xs) (opened e ys)
opened_more e [] ys = refl
opened_more e (x ∷ xs) ys = ap (or_else (opened_in e x)) (opened_more e xs ys) ∙ or_in_a_row (opened_in e x) (opened e xs) (opened e ys)

calls_one : (e : EngineName) (xs : Talk) (c : OwnCall) → calls_in e (xs ++ c ∷ []) ≡ calls_in e xs ++ call_in e c
calls_one e xs c = flat_map-append (call_in e) xs (c ∷ []) ∙ ap (λ js. calls_in e xs ++ js) (append-nil (call_in e c))

opened_one : (e : EngineName) (xs : Talk) (c : OwnCall) → opened e (xs ++ c ∷ []) ≡ or_else (opened e xs) (opened_in e c)
opened_one e xs c = opened_more e xs (c ∷ []) ∙ ap (or_else (opened e xs)) (or_none (opened_in e c))

some_none : {A : Type 0} {s : ℕ} {o : Option ℕ} → o ≡ None → o ≡ Some s → A
some_none e f = absurd (clash (sym e ∙ f))
  where
    clash : {s : ℕ} → None ≡ Some s → ⊥
    clash g = cc

going_on : (tx : Label) (xs : List Entry) (o : Option ℕ) → Going tx xs o → Going tx (xs ++ []) (or_else o None)
going_on tx xs o g = subst (λ ys. Going tx ys (or_else o None)) (sym (append-nil xs)) (subst (λ p. Going tx xs p) (sym (or_none o)) g)

working_on : (tx : Label) (xs : List Entry) (o : Option ℕ) (j : Entry) (s : ℕ) → o ≡ Some s → IsWork tx j.call → Going tx xs o → Going tx (xs ++ j ∷ []) (or_else o (opened_by j.call j.reply))
working_on tx xs o j s e w (Untouched is none) = some_none none e
working_on tx xs o j s e w (Working n rest is works some) = Working n (rest ++ j ∷ []) (ap (λ ys. ys ++ j ∷ []) is) (each_append (λ (k : Entry). IsWork tx k.call) rest (j ∷ []) works (w, tt)) (ap (λ p. or_else p (opened_by j.call j.reply)) some)

opening_now : (tx : Label) (xs : List Entry) (o : Option ℕ) (s : ℕ) → o ≡ None → Going tx xs o → Going tx (xs ++ open_entry tx s ∷ []) (or_else o (Some s))
opening_now tx xs o s e (Untouched is none) = Working s [] (ap (λ ys. ys ++ open_entry tx s ∷ []) is) tt (ap (λ p. or_else p (Some s)) e)
opening_now tx xs o s e (Working n rest is works some) = some_none e some

refused_now : (tx : Label) (xs : List Entry) (o : Option ℕ) (s : ℕ) (f : EngineFault) → o ≡ None → Going tx xs o → RefusedIn tx (xs ++ record { call = call.Open tx s; reply = answer.Fault f } ∷ []) (or_else o None)
refused_now tx xs o s f e (Untouched is none) = record { snapshot = s; fault = f; is = ap (λ ys. ys ++ record { call = call.Open tx s; reply = answer.Fault f } ∷ []) is; none = or_none o ∙ e }
refused_now tx xs o s f e (Working n rest is works some) = some_none e some

pub asked_is : (e : EngineName) (k : EngineCall) (x : EngineReply) (c : OwnCall) → Asks e k c → c.entry.reply ≡ x → c ≡ own e k x
asked_is e k x c a r = λ i. record { engine = a.engine i; entry = record { call = a.call i; reply = r i } }

module _ (tx : Label) where
  -- both engines go on
  abbrev Stand : Talk → Type 0
  Stand talk = (e : EngineName) → Going tx (calls_in e talk) (opened e talk)

  -- the statement's calls behind these: the transaction goes on, or it is lost
  abbrev After : Talk → Talk → Reply → Type 0
  After acc calls r = Stand (acc ++ calls) ⊎ ((is_lost r ≡ true) × ((e : EngineName) → SpokenIn tx e (acc ++ calls)))

  abbrev Goes : Rest → Talk → Type 0
  Goes Then acc = (calls : Talk) (r : Reply) → Then calls r → After acc calls r

  worked : (acc : Talk) (n : EngineName) (k : EngineCall) (x : EngineReply) (s : ℕ) → Stand acc → opened n acc ≡ Some s → IsWork tx k → Stand (acc ++ own n k x ∷ [])
  worked acc n k x s st o w e = subst (λ js. Going tx js (opened e (acc ++ own n k x ∷ []))) (sym (calls_one e acc (own n k x)))
      (subst (λ p. Going tx (calls_in e acc ++ call_in e (own n k x)) p) (sym (opened_one e acc (own n k x))) (go e n st o))
    where
      go : (e n : EngineName) → Stand acc → opened n acc ≡ Some s → Going tx (calls_in e acc ++ call_in e (own n k x)) (or_else (opened e acc) (opened_in e (own n k x)))
      go Mem Mem st o = working_on tx (calls_in Mem acc) (opened Mem acc) (record { call = k; reply = x }) s o w (st Mem)
      go Mem Store st o = going_on tx (calls_in Mem acc) (opened Mem acc) (st Mem)
      go Store Mem st o = going_on tx (calls_in Store acc) (opened Store acc) (st Store)
      go Store Store st o = working_on tx (calls_in Store acc) (opened Store acc) (record { call = k; reply = x }) s o w (st Store)

  still_open : (acc : Talk) (n : EngineName) (c : OwnCall) (s : ℕ) → opened n acc ≡ Some s → opened n (acc ++ c ∷ []) ≡ Some s
  still_open acc n c s o = opened_one n acc c ∙ ap (λ p. or_else p (opened_in n c)) o

  opens_now : (acc : Talk) (n : EngineName) (s : ℕ) → Stand acc → opened n acc ≡ None → Stand (acc ++ own n (call.Open tx s) answer.Done ∷ [])
  opens_now acc n s st o e = subst (λ js. Going tx js (opened e (acc ++ own n (call.Open tx s) answer.Done ∷ []))) (sym (calls_one e acc (own n (call.Open tx s) answer.Done)))
      (subst (λ p. Going tx (calls_in e acc ++ call_in e (own n (call.Open tx s) answer.Done)) p) (sym (opened_one e acc (own n (call.Open tx s) answer.Done))) (go e n st o))
    where
      go : (e n : EngineName) → Stand acc → opened n acc ≡ None → Going tx (calls_in e acc ++ call_in e (own n (call.Open tx s) answer.Done)) (or_else (opened e acc) (opened_in e (own n (call.Open tx s) answer.Done)))
      go Mem Mem st o = opening_now tx (calls_in Mem acc) (opened Mem acc) s o (st Mem)
      go Mem Store st o = going_on tx (calls_in Mem acc) (opened Mem acc) (st Mem)
      go Store Mem st o = going_on tx (calls_in Store acc) (opened Store acc) (st Store)
      go Store Store st o = opening_now tx (calls_in Store acc) (opened Store acc) s o (st Store)

  is_open_now : (acc : Talk) (n : EngineName) (s : ℕ) → opened n acc ≡ None → opened n (acc ++ own n (call.Open tx s) answer.Done ∷ []) ≡ Some s
  is_open_now acc Mem s o = opened_one Mem acc (own Mem (call.Open tx s) answer.Done) ∙ ap (λ p. or_else p (Some s)) o
  is_open_now acc Store s o = opened_one Store acc (own Store (call.Open tx s) answer.Done) ∙ ap (λ p. or_else p (Some s)) o

  refuses_now : (acc : Talk) (n : EngineName) (s : ℕ) (f : EngineFault) → Stand acc → opened n acc ≡ None → (e : EngineName) → SpokenIn tx e (acc ++ own n (call.Open tx s) (answer.Fault f) ∷ [])
  refuses_now acc n s f st o e = subst (λ js. Going tx js (opened e (acc ++ c ∷ [])) ⊎ RefusedIn tx js (opened e (acc ++ c ∷ []))) (sym (calls_one e acc c))
      (subst (λ p. Going tx (calls_in e acc ++ call_in e c) p ⊎ RefusedIn tx (calls_in e acc ++ call_in e c) p) (sym (opened_one e acc c)) (go e n st o))
    where
      c : OwnCall
      c = own n (call.Open tx s) (answer.Fault f)

      go : (e n : EngineName) → Stand acc → opened n acc ≡ None → Going tx (calls_in e acc ++ call_in e (own n (call.Open tx s) (answer.Fault f))) (or_else (opened e acc) (opened_in e (own n (call.Open tx s) (answer.Fault f))))
          ⊎ RefusedIn tx (calls_in e acc ++ call_in e (own n (call.Open tx s) (answer.Fault f))) (or_else (opened e acc) (opened_in e (own n (call.Open tx s) (answer.Fault f))))
      go Mem Mem st o = inr (refused_now tx (calls_in Mem acc) (opened Mem acc) s f o (st Mem))
      go Mem Store st o = inl (going_on tx (calls_in Mem acc) (opened Mem acc) (st Mem))
      go Store Mem st o = inl (going_on tx (calls_in Store acc) (opened Store acc) (st Store))
      go Store Store st o = inr (refused_now tx (calls_in Store acc) (opened Store acc) s f o (st Store))

  -- ---- the parts of a statement

  none_more : (acc : Talk) (r : Reply) → Stand acc → After acc [] r
  none_more acc r st = inl (subst Stand (sym (append-nil acc)) st)

  one_more : (acc : Talk) (c : OwnCall) (calls : Talk) (r : Reply) → After (acc ++ c ∷ []) calls r → After acc (c ∷ calls) r
  one_more acc c calls r a = subst (λ (t : Talk). Stand t ⊎ ((is_lost r ≡ true) × ((e : EngineName) → SpokenIn tx e t))) (append_assoc acc (c ∷ []) calls) a

  ends_here : (acc calls : Talk) (r : Reply) → Stand acc → calls ≡ [] → After acc calls r
  ends_here acc calls r st e = subst (λ (cs : Talk). After acc cs r) (sym e) (none_more acc r st)

  opens_go : (e : EngineName) (anchor snapshot : Option ℕ) (Then : Rest) (acc : Talk) → Stand acc → opened e acc ≡ snapshot
      → ((acc : Talk) (s : ℕ) → Stand acc → opened e acc ≡ Some s → Goes Then acc) → Goes (Opens tx e anchor snapshot Then) acc
  opens_go e anchor (Some s) Then acc st o goes calls r h = goes acc s st o calls r h
  opens_go e anchor None Then acc st o goes [] r h = none_more acc r st
  opens_go e anchor None Then acc st o goes (c ∷ calls) r h = go c.entry.reply refl h.1
    where
      go : (x : EngineReply) → c.entry.reply ≡ x → IfDone e Then x calls r → After acc (c ∷ calls) r
      go answer.Done q d =
          let is : c ≡ own e (call.Open tx h.0.0) answer.Done = asked_is e (call.Open tx h.0.0) answer.Done c h.0.1 q in
          one_more acc c calls r (subst (λ (x : OwnCall). After (acc ++ x ∷ []) calls r) (sym is)
          (goes (acc ++ own e (call.Open tx h.0.0) answer.Done ∷ []) h.0.0 (opens_now acc e h.0.0 st o) (is_open_now acc e h.0.0 o) calls r d))
      go (answer.Fault f) q d =
          let is : c ≡ own e (call.Open tx h.0.0) (answer.Fault f) = asked_is e (call.Open tx h.0.0) (answer.Fault f) c h.0.1 q in
          inr (
            ⊎_elim (λ (k : r ≡ fault_reply e f). ap is_lost k ∙ d.0) (λ (k : r ≡ _). ap is_lost k) d.1.1,
            subst (λ (cs : Talk). (n : EngineName) → SpokenIn tx n (acc ++ c ∷ cs)) (sym d.1.0) (subst (λ (x : OwnCall). (n : EngineName) → SpokenIn tx n (acc ++ x ∷ [])) (sym is) (refuses_now acc e h.0.0 f st o)),
          )
      go (answer.Found row) q d = absurd d
      go (answer.Rows rows) q d = absurd d
      go (answer.Number n) q d = absurd d
      go (answer.Commits cs) q d = absurd d

  is_read : (t : ℕ) (key : Option Value) → IsWork tx (read_call tx t key)
  is_read t None = refl
  is_read t (Some key) = refl

  -- a call of the open engine
  works_one : (e : EngineName) (k : EngineCall) (acc : Talk) (s : ℕ) (c : OwnCall) → Stand acc → opened e acc ≡ Some s → IsWork tx k → Asks e k c → Stand (acc ++ c ∷ []) × (opened e (acc ++ c ∷ []) ≡ Some s)
  works_one e k acc s c st o w a = (subst (λ (x : OwnCall). Stand (acc ++ x ∷ [])) (sym (asked_is e k c.entry.reply c a refl)) (worked acc e k c.entry.reply s st o w), still_open acc e c s o)

  reads_go : (e : EngineName) (t : ℕ) (key : Option Value) (Then : KeyedRows → Rest) (acc : Talk) (s : ℕ) → Stand acc → opened e acc ≡ Some s
      → ((rows : KeyedRows) (acc : Talk) → Stand acc → opened e acc ≡ Some s → Goes (Then rows) acc) → Goes (Reads tx e t key Then) acc
  reads_go e t key Then acc s st o goes [] r h = none_more acc r st
  reads_go e t key Then acc s st o goes (c ∷ calls) r h = one_more acc c calls r (go key c.entry.reply (works_one e (read_call tx t key) acc s c st o (is_read t key) h.0) h.1)
    where
      go : (key : Option Value) (x : EngineReply) → Stand (acc ++ c ∷ []) × (opened e (acc ++ c ∷ []) ≡ Some s) → IfRead e key Then x calls r → After (acc ++ c ∷ []) calls r
      go (Some key) (answer.Found row) k d = goes _ (acc ++ c ∷ []) k.0 k.1 calls r d
      go (Some key) (answer.Fault f) k d = ends_here (acc ++ c ∷ []) calls r k.0 d.0
      go (Some key) answer.Done k d = absurd d
      go (Some key) (answer.Rows rows) k d = absurd d
      go (Some key) (answer.Number n) k d = absurd d
      go (Some key) (answer.Commits cs) k d = absurd d
      go None (answer.Rows rows) k d = goes rows (acc ++ c ∷ []) k.0 k.1 calls r d
      go None (answer.Fault f) k d = ends_here (acc ++ c ∷ []) calls r k.0 d.0
      go None answer.Done k d = absurd d
      go None (answer.Found row) k d = absurd d
      go None (answer.Number n) k d = absurd d
      go None (answer.Commits cs) k d = absurd d

  puts_go : (e : EngineName) (said : Reply) (ws : List Write) (acc : Talk) (s : ℕ) → Stand acc → opened e acc ≡ Some s → Goes (Puts tx e said ws) acc
  puts_go e said [] acc s st o calls r h = ends_here acc calls r st h.0
  puts_go e said (w ∷ ws) acc s st o [] r h = none_more acc r st
  puts_go e said (w ∷ ws) acc s st o (c ∷ calls) r h =
      one_more acc c calls r (go c.entry.reply (works_one e (put_call tx w) acc s c st o refl h.0) (λ st o d. puts_go e said ws (acc ++ c ∷ []) s st o calls r d) h.1)
    where
      go : (x : EngineReply) → Stand (acc ++ c ∷ []) × (opened e (acc ++ c ∷ []) ≡ Some s) → (Stand (acc ++ c ∷ []) → opened e (acc ++ c ∷ []) ≡ Some s → Puts tx e said ws calls r → After (acc ++ c ∷ []) calls r)
          → IfDone e (Puts tx e said ws) x calls r → After (acc ++ c ∷ []) calls r
      go answer.Done k ih d = ih k.0 k.1 d
      go (answer.Fault f) k ih d = ends_here (acc ++ c ∷ []) calls r k.0 d.1.0
      go (answer.Found row) k ih d = absurd d
      go (answer.Rows rows) k ih d = absurd d
      go (answer.Number n) k ih d = absurd d
      go (answer.Commits cs) k ih d = absurd d

  makes_go : (e : EngineName) (a : Answer) (acc : Talk) (s : ℕ) → Stand acc → opened e acc ≡ Some s → Goes (Makes tx e a) acc
  makes_go e a acc s st o calls r (inl h) = ends_here acc calls r st h.0
  makes_go e a acc s st o calls r (inr h) = puts_go e a.0 a.1 acc s st o calls r h

  works_go : (catalog : List Table) (q : Statement) (t : ℕ) (acc : Talk) → Stand acc → Goes (Works catalog tx (opened Mem acc) (opened (keeper catalog t) acc) q t) acc
  works_go catalog q t acc st = opens_go (keeper catalog t) (opened Mem acc) (opened (keeper catalog t) acc) _ acc st refl
      (λ more s st o. reads_go (keeper catalog t) t (key_read (columns_at catalog t) q) _ more s st o
      (λ rows then st o. makes_go (keeper catalog t) (comes_to (columns_at catalog t) t q rows) then s st o))

  at_go : (catalog : List Table) (kind : TxKind) (q : Statement) (t : ℕ) (o : Option ErrWord) (acc : Talk) → Stand acc → Goes (AsksAt catalog tx kind acc q t o) acc
  at_go catalog kind q t (Some word) acc st calls r h = ends_here acc calls r st h.0
  at_go catalog kind q t None acc st calls r h = go (may_use kind (keeper catalog t)) h
    where
      go : (b : Bool) → cond b (Works catalog tx (opened Mem acc) (opened (keeper catalog t) acc) q t calls r) (Answers (reply.Refused err.Engine) calls r) → After acc calls r
      go true h = works_go catalog q t acc st calls r h
      go false h = ends_here acc calls r st h.0

  of_go : (catalog : List Table) (kind : TxKind) (q : Statement) (o : Option ℕ) (acc : Talk) → Stand acc → Goes (AsksOf catalog tx kind acc q o) acc
  of_go catalog kind q None acc st calls r h = ends_here acc calls r st h.0
  of_go catalog kind q (Some t) acc st calls r h = at_go catalog kind q t (refusal_in (columns_at catalog t) q) acc st calls r h

  begins_go : (kind : TxKind) (acc : Talk) → Stand acc → acc ≡ [] → (calls : Talk) (r : Reply) → Starves calls r ⊎ Begins tx kind calls r → After acc calls r
  begins_go kind acc st none calls r (inl h) = ends_here acc calls r st h.0
  begins_go kind acc st none calls r (inr h) =
      opens_go (first_engine kind) None None (Answers (reply.Began tx)) acc st (ap (opened (first_engine kind)) none) (λ more s st o calls r h. ends_here more calls r st h.0) calls r h

  asked_go : (catalog : List Table) (kind : TxKind) (q : Statement) (acc : Talk) → Stand acc → Goes (Asked catalog tx kind acc q) acc
  asked_go catalog kind (statement.Begin begun) acc st calls r h = begins_go kind acc st h.0 calls r h.2
  asked_go catalog kind statement.Commit acc st calls r h = ends_here acc calls r st h.0
  asked_go catalog kind statement.Rollback acc st calls r h = ends_here acc calls r st h.0
  asked_go catalog kind (statement.Insert table values) acc st calls r (inl h) = ends_here acc calls r st h.0
  asked_go catalog kind (statement.Insert table values) acc st calls r (inr h) = of_go catalog kind (statement.Insert table values) (table_at catalog table) acc st calls r h
  asked_go catalog kind (statement.Select table names e) acc st calls r (inl h) = ends_here acc calls r st h.0
  asked_go catalog kind (statement.Select table names e) acc st calls r (inr h) = of_go catalog kind (statement.Select table names e) (table_at catalog table) acc st calls r h
  asked_go catalog kind (statement.Update table sets e) acc st calls r (inl h) = ends_here acc calls r st h.0
  asked_go catalog kind (statement.Update table sets e) acc st calls r (inr h) = of_go catalog kind (statement.Update table sets e) (table_at catalog table) acc st calls r h
  asked_go catalog kind (statement.Delete table e) acc st calls r (inl h) = ends_here acc calls r st h.0
  asked_go catalog kind (statement.Delete table e) acc st calls r (inr h) = of_go catalog kind (statement.Delete table e) (table_at catalog table) acc st calls r h

  -- ---- statement by statement

  one_by_one : (catalog : List Table) (kind : TxKind) (acc : Talk) (s : Said) (said : List Said) (talk : Talk) → Stand acc
      → ((acc talk : Talk) → Stand acc → Converses catalog tx kind acc said talk → (e : EngineName) → SpokenIn tx e (acc ++ talk)) → Converses catalog tx kind acc (s ∷ said) talk → (e : EngineName) → SpokenIn tx e (acc ++ talk)
  one_by_one catalog kind acc s said talk st ih h e = go (asked_go catalog kind s.statement acc st h.0 s.reply h.3)
    where
      go : After acc h.0 s.reply → SpokenIn tx e (acc ++ talk)
      go (inl stands) = subst (λ (t : Talk). SpokenIn tx e (acc ++ t)) (sym h.2) (subst (λ (t : Talk). SpokenIn tx e t) (append_assoc acc h.0 h.1) (ih (acc ++ h.0) h.1 stands h.5 e))
      go (inr lost) =
          let none : said ≡ [] = h.4 (ap (λ b. b || is_end s.statement) lost.0) in
          let silent : h.1 ≡ [] = subst (λ (ss : List Said). Converses catalog tx kind (acc ++ h.0) ss h.1) none h.5 in
          subst (λ (t : Talk). SpokenIn tx e (acc ++ t)) (sym (h.2 ∙ ap (λ (t : Talk). h.0 ++ t) silent ∙ append-nil h.0)) (lost.1 e)

  go_on : (catalog : List Table) (kind : TxKind) (said : List Said) (acc talk : Talk) → Stand acc → Converses catalog tx kind acc said talk → (e : EngineName) → SpokenIn tx e (acc ++ talk)
  go_on catalog kind [] acc talk st h e = subst (λ (t : Talk). SpokenIn tx e (acc ++ t)) (sym h) (inl (subst Stand (sym (append-nil acc)) st e))
  go_on catalog kind (s ∷ said) acc talk st h e = one_by_one catalog kind acc s said talk st (λ acc talk st h. go_on catalog kind said acc talk st h) h e

  -- the calls of a record's statements, in one engine
  pub spoken_in : (catalog : List Table) (kind : TxKind) (said : List Said) (talk : Talk) → Converses catalog tx kind [] said talk → (e : EngineName) → SpokenIn tx e talk
  spoken_in catalog kind said talk h e = go_on catalog kind said [] talk (λ e. Untouched refl refl) h e
