-- Where a record's calls are those of its statements, and their reads are those of one database, the record's replies are those of that database, and what it wrote is what it put.
use Rattle.std.specs.Prelude.{◌≡◌, ℕ, Bool, true, false, cond, ◌⊎◌, List, [], ◌∷◌, ◌++◌, Option, Some, None}
use Rattle.std.proofs.Common.{refl, sym, ap, subst, ◌∙◌, inl, inr}
use Rattle.std.specs.List.{AllByRecursion}
use Rattle.std.specs.Option.{option_map}
use Rattle.std.proofs.lemmas.List.Sums.{fold-append}
use Rattle.std.proofs.lemmas.Grind.{flat_map-append}
use Rattle.sk_rows.specs.declared.value.Value.{Value}
use Rattle.sk_rows.specs.declared.table.Column.{Column}
use Rattle.sk_rows.specs.declared.table.Table.{Table}
use Rattle.sk_rows.specs.declared.statement.Statement.{Statement}
use Rattle.sk_rows.specs.declared.statement.Statement.TheVariants as statement
use Rattle.sk_model.specs.declared.label.Label.{Label}
use Rattle.sk_model.specs.declared.engine.EngineName.{EngineName}
use Rattle.sk_model.specs.declared.engine.EngineName.TheVariants.{Mem}
use Rattle.sk_model.specs.declared.commit.Write.{Write}
use Rattle.sk_model.specs.declared.reply.ErrWord.{ErrWord}
use Rattle.sk_model.specs.declared.reply.ErrWord.TheVariants as err
use Rattle.sk_model.specs.declared.reply.Reply.{Reply}
use Rattle.sk_model.specs.declared.reply.Reply.TheVariants as reply
use Rattle.sk_model.specs.declared.record.Said.{Said}
use Rattle.sk_model.specs.declared.record.TxKind.{TxKind}
use Rattle.sk_model.specs.declared.call.EngineCall.TheVariants as call
use Rattle.sk_model.specs.declared.call.EngineFault.{EngineFault}
use Rattle.sk_model.specs.declared.call.EngineFault.TheVariants as fault
use Rattle.sk_model.specs.declared.call.EngineReply.{EngineReply}
use Rattle.sk_model.specs.declared.call.EngineReply.TheVariants as answer
use Rattle.sk_model.specs.Database.{KeyedRows, Tables, table_of, after_write, after_writes}
use Rattle.sk_model.specs.Names.{table_at, columns_at}
use Rattle.sk_model.specs.Reads.{one_row, rows_read}
use Rattle.sk_model.specs.Replies.{Answer, refused, comes_to, key_read, refusal_in, answer_in, answer_on, answer_of, reply_of, writes_of, writes_in, is_judged, is_count}
use Rattle.sk_model.specs.Spoken.{is_lost}
use Rattle.sk_model.specs.Records.{writes_said, after_said, Told, written}
use Rattle.sk_model.specs.Talks.{OwnCall, Talk, wrote_by, writes_in_call, puts_in, Shows, TalkTold, opened}
use Rattle.sk_model.specs.Asking.{keeper, may_use, fault_reply, Rest, Answers, Starves, Asks, IfDone, Unopened, Opens, IfFound, IfRows, Reads, put_call, Puts, Makes, Works, AsksAt, AsksOf, Begins, Asked}
use Rattle.sk_model.specs.RecordTalks.{is_last, Converses}
use Rattle.sk_model.proofs.Answered.{answer_writes}

-- ---- calls, one behind the others

pub puts_append : (xs ys : Talk) → puts_in (xs ++ ys) ≡ puts_in xs ++ puts_in ys
puts_append xs ys = flat_map-append writes_in_call xs ys

pub told_parts : (db : Tables) (xs ys : Talk) → TalkTold db (xs ++ ys) → TalkTold db xs × TalkTold (after_writes db (puts_in xs)) ys
told_parts db [] ys h = (tt, h)
told_parts db (c ∷ xs) ys h =
    let rest : TalkTold (after_writes db (writes_in_call c)) xs × TalkTold (after_writes (after_writes db (writes_in_call c)) (puts_in xs)) ys = told_parts (after_writes db (writes_in_call c)) xs ys h.1 in
    ((h.0, rest.0), subst (λ (d : Tables). TalkTold d ys) (sym (fold-append after_write db (writes_in_call c) (puts_in xs))) rest.1)

-- ---- replies

lost_is_not_judged : (r : Reply) → is_lost r ≡ true → is_judged r ≡ false
lost_is_not_judged (reply.Conflict by why) e = refl
lost_is_not_judged (reply.Recycled recycled) e = refl
lost_is_not_judged (reply.Old engine snapshot horizon) e = refl
lost_is_not_judged (reply.Refused err.Device) e = refl
lost_is_not_judged (reply.Refused err.Memory) e = refl
lost_is_not_judged _ e = absurd cc

fault_is_not_judged : (e : EngineName) (f : EngineFault) → is_judged (fault_reply e f) ≡ false
fault_is_not_judged e (fault.Old s h) = refl
fault_is_not_judged e (fault.Busy by) = refl
fault_is_not_judged e (fault.Conflict by why) = refl
fault_is_not_judged e fault.Device = refl
fault_is_not_judged e fault.NoMemory = refl

counts_are_judged : (r : Reply) → is_judged r ≡ false → is_count r ≡ false
counts_are_judged (reply.Count n) e = absurd cc
counts_are_judged _ e = refl

-- ---- one statement

-- how a statement went, by what the database answers: the transaction is lost; or the reply is not the database's, and nothing is written; or the reply and the writes are the database's
data Went (a : Option Answer) (calls : Talk) (r : Reply) : Type 0 where
  Lost : is_lost r ≡ true → Went a calls r
  Apart : is_judged r ≡ false → puts_in calls ≡ [] → Went a calls r
  Given : (b : Answer) → a ≡ Some b → r ≡ b.0 → puts_in calls ≡ b.1 → Went a calls r

-- one more call in front, which writes nothing
quiet : (a : Option Answer) (c : OwnCall) (calls : Talk) (r : Reply) → writes_in_call c ≡ [] → Went a calls r → Went a (c ∷ calls) r
quiet a c calls r e (Lost l) = Lost l
quiet a c calls r e (Apart j p) = Apart j (ap (λ ws. ws ++ puts_in calls) e ∙ p)
quiet a c calls r e (Given b is said p) = Given b is said (ap (λ ws. ws ++ puts_in calls) e ∙ p)

answers_apart : (a : Option Answer) (said : Reply) (calls : Talk) (r : Reply) → is_judged said ≡ false → Answers said calls r → Went a calls r
answers_apart a said calls r e (none, inl is) = Apart (ap is_judged is ∙ e) (ap puts_in none)
answers_apart a said calls r e (none, inr is) = Lost (ap is_lost is)

-- the database's answer, which comes with no writes
answers_given : (b : Answer) (calls : Talk) (r : Reply) → b.1 ≡ [] → Answers b.0 calls r → Went (Some b) calls r
answers_given b calls r e (none, inl is) = Given b refl is (ap puts_in none ∙ sym e)
answers_given b calls r e (none, inr is) = Lost (ap is_lost is)

-- a part of a statement after which it went so, over each database that the calls show
abbrev Goes : Option Answer → Tables → Rest → Type 0
Goes a db Then = (calls : Talk) (r : Reply) → TalkTold db calls → Then calls r → Went a calls r

-- a fault that loses the transaction
fault_loses : (e : EngineName) (f : EngineFault) (calls : Talk) (r : Reply) → (is_lost (fault_reply e f) ≡ true) × Answers (fault_reply e f) calls r → is_lost r ≡ true
fault_loses e f calls r (l, (none, inl is)) = ap is_lost is ∙ l
fault_loses e f calls r (l, (none, inr is)) = ap is_lost is

-- a put, and what comes behind it
put_goes : (tx : Label) (e : EngineName) (said : Reply) (w : Write) (ws : List Write) (c : OwnCall) (calls : Talk) (r : Reply) → Asks e (put_call tx w) c
    → (Puts tx e said ws calls r → (is_lost r ≡ true) ⊎ ((r ≡ said) × (puts_in calls ≡ ws)))
    → (x : EngineReply) → c.entry.reply ≡ x → IfDone e (Puts tx e said ws) x calls r → (is_lost r ≡ true) ⊎ ((r ≡ said) × (puts_in (c ∷ calls) ≡ w ∷ ws))
put_goes tx e said w ws c calls r asks behind answer.Done is then =
    elim (behind then) [
      | inl l ↦ inl l
      | inr g ↦ inr (g.0, ap (λ us. us ++ puts_in calls) (ap (λ k. wrote_by k c.entry.reply) asks.call ∙ ap (wrote_by (put_call tx w)) is) ∙ ap (λ us. w ∷ us) g.1)
    ]
put_goes tx e said w ws c calls r asks behind (answer.Fault f) is then = inl (fault_loses e f calls r then)
put_goes tx e said w ws c calls r asks behind _ is then = absurd then

puts_go : (a : Option Answer) (tx : Label) (e : EngineName) (said : Reply) (ws : List Write) (db : Tables) (calls : Talk) (r : Reply) → Puts tx e said ws calls r → (is_lost r ≡ true) ⊎ ((r ≡ said) × (puts_in calls ≡ ws))
puts_go a tx e said [] db calls r (none, inl is) = inr (is, ap puts_in none)
puts_go a tx e said [] db calls r (none, inr is) = inl (ap is_lost is)
puts_go a tx e said (w ∷ ws) db [] r h = inl (ap is_lost h)
puts_go a tx e said (w ∷ ws) db (c ∷ calls) r h = put_goes tx e said w ws c calls r h.0 (λ then. puts_go a tx e said ws db calls r then) c.entry.reply refl h.1

done_goes : (a : Option Answer) (db : Tables) (e : EngineName) (Then : Rest) → Goes a db Then → (x : EngineReply) (calls : Talk) (r : Reply) → TalkTold db calls → IfDone e Then x calls r → Went a calls r
done_goes a db e Then goes answer.Done calls r told then = goes calls r told then
done_goes a db e Then goes (answer.Fault f) calls r told then = Lost (fault_loses e f calls r then)
done_goes a db e Then goes _ calls r told then = absurd then

unopened_goes : (a : Option Answer) (anchor : Option ℕ) (r : Reply) → Unopened anchor r → Went a [] r
unopened_goes a None r h = Lost (ap is_lost h)
unopened_goes a (Some n) r (inl h) = Lost (ap is_lost h)
unopened_goes a (Some n) r (inr h) = Lost (ap is_lost h.1)

-- a call that writes nothing shows the same database behind it
same_behind : (db : Tables) (c : OwnCall) (calls : Talk) → writes_in_call c ≡ [] → TalkTold db (c ∷ calls) → TalkTold db calls
same_behind db c calls e told = subst (λ ws. TalkTold (after_writes db ws) calls) e told.1

opens_go : (a : Option Answer) (db : Tables) (tx : Label) (e : EngineName) (anchor snapshot : Option ℕ) (Then : Rest) → Goes a db Then → Goes a db (Opens tx e anchor snapshot Then)
opens_go a db tx e anchor (Some s) Then goes calls r told h = goes calls r told h
opens_go a db tx e anchor None Then goes [] r told h = unopened_goes a anchor r h
opens_go a db tx e anchor None Then goes (c ∷ calls) r told h =
    let nothing : writes_in_call c ≡ [] = ap (λ k. wrote_by k c.entry.reply) h.0.1.call in
    quiet a c calls r nothing (done_goes a db e Then goes c.entry.reply calls r (same_behind db c calls nothing told) h.1)

-- the rows that a read finds, and what comes then over them
module _ (a : Option Answer) (db : Tables) (e : EngineName) (t : ℕ) (Then : KeyedRows → Rest) where
  found_goes : (tx : Label) (key : Value) → Goes a db (Then (rows_read (table_of db t) (Some key))) → (x : EngineReply) (calls : Talk) (r : Reply) → TalkTold db calls → Shows db (call.Get tx t key) x → IfFound e key Then x calls r → Went a calls r
  found_goes tx key goes (answer.Found row) calls r told is then = goes calls r told (subst (λ o. Then (one_row key o) calls r) is then)
  found_goes tx key goes (answer.Fault f) calls r told is then = answers_apart a (fault_reply e f) calls r (fault_is_not_judged e f) then
  found_goes tx key goes _ calls r told is then = absurd then

  rows_go : (tx : Label) → Goes a db (Then (table_of db t)) → (x : EngineReply) (calls : Talk) (r : Reply) → TalkTold db calls → Shows db (call.Scan tx t) x → IfRows e Then x calls r → Went a calls r
  rows_go tx goes (answer.Rows rows) calls r told is then = goes calls r told (subst (λ rs. Then rs calls r) is then)
  rows_go tx goes (answer.Fault f) calls r told is then = answers_apart a (fault_reply e f) calls r (fault_is_not_judged e f) then
  rows_go tx goes _ calls r told is then = absurd then

  reads_go : (tx : Label) (key : Option Value) → Goes a db (Then (rows_read (table_of db t) key)) → Goes a db (Reads tx e t key Then)
  reads_go tx key goes [] r told h = Lost (ap is_lost h)
  reads_go tx None goes (c ∷ calls) r told h =
      let nothing : writes_in_call c ≡ [] = ap (λ k. wrote_by k c.entry.reply) h.0.call in
      quiet a c calls r nothing (rows_go tx goes c.entry.reply calls r (same_behind db c calls nothing told) (subst (λ k. Shows db k c.entry.reply) h.0.call told.0) h.1)
  reads_go tx (Some key) goes (c ∷ calls) r told h =
      let nothing : writes_in_call c ≡ [] = ap (λ k. wrote_by k c.entry.reply) h.0.call in
      quiet a c calls r nothing (found_goes tx key goes c.entry.reply calls r (same_behind db c calls nothing told) (subst (λ k. Shows db k c.entry.reply) h.0.call told.0) h.1)

makes_go : (db : Tables) (tx : Label) (e : EngineName) (b : Answer) → Goes (Some b) db (Makes tx e b)
makes_go db tx e b calls r told (inl h) = Lost (ap is_lost h.1)
makes_go db tx e b calls r told (inr h) = elim (puts_go (Some b) tx e b.0 b.1 db calls r h) [ inl l ↦ Lost l | inr g ↦ Given b refl g.0 g.1 ]

works_go : (catalog : List Table) (db : Tables) (tx : Label) (anchor snapshot : Option ℕ) (s : Statement) (t : ℕ)
    → Goes (Some (comes_to (columns_at catalog t) t s (rows_read (table_of db t) (key_read (columns_at catalog t) s)))) db (Works catalog tx anchor snapshot s t)
works_go catalog db tx anchor snapshot s t =
    let columns : List Column = columns_at catalog t in
    let e : EngineName = keeper catalog t in
    let rows : KeyedRows = rows_read (table_of db t) (key_read columns s) in
    let b : Answer = comes_to columns t s rows in
    let Then : KeyedRows → Rest = λ rs. Makes tx e (comes_to columns t s rs) in
    opens_go (Some b) db tx e anchor snapshot (Reads tx e t (key_read columns s) Then)
    (reads_go (Some b) db e t Then tx (key_read columns s) (makes_go db tx e b))

asks_at_go : (catalog : List Table) (db : Tables) (tx : Label) (kind : TxKind) (before : Talk) (s : Statement) (t : ℕ) (word : Option ErrWord)
    → Goes (Some (answer_in (columns_at catalog t) t s (table_of db t) word)) db (AsksAt catalog tx kind before s t word)
asks_at_go catalog db tx kind before s t (Some word) calls r told h = answers_given (refused word) calls r refl h
asks_at_go catalog db tx kind before s t None calls r told h = by (may_use kind (keeper catalog t)) h
  where
    b : Answer
    b = comes_to (columns_at catalog t) t s (rows_read (table_of db t) (key_read (columns_at catalog t) s))

    by : (u : Bool) → cond u (Works catalog tx (opened Mem before) (opened (keeper catalog t) before) s t calls r) (Answers (reply.Refused err.Engine) calls r) → Went (Some b) calls r
    by true w = works_go catalog db tx (opened Mem before) (opened (keeper catalog t) before) s t calls r told w
    by false w = answers_apart (Some b) (reply.Refused err.Engine) calls r refl w

asks_of_go : (catalog : List Table) (db : Tables) (tx : Label) (kind : TxKind) (before : Talk) (s : Statement) (t : Option ℕ)
    → Goes (Some (answer_on catalog db s t)) db (AsksOf catalog tx kind before s t)
asks_of_go catalog db tx kind before s None calls r told h = answers_given (refused err.Table) calls r refl h
asks_of_go catalog db tx kind before s (Some t) calls r told h = asks_at_go catalog db tx kind before s t (refusal_in (columns_at catalog t) s) calls r told h

-- no answer comes with writes but a count
abbrev Sound : Option Answer → Type 0
Sound a = (b : Answer) → a ≡ Some b → cond (is_count b.0) b.1 [] ≡ b.1

starves_or : (a : Option Answer) (db : Tables) (Then : Rest) → Goes a db Then → (calls : Talk) (r : Reply) → TalkTold db calls → Starves calls r ⊎ Then calls r → Went a calls r
starves_or a db Then goes calls r told (inl h) = Lost (ap is_lost h.1)
starves_or a db Then goes calls r told (inr h) = goes calls r told h

asked_goes : (catalog : List Table) (db : Tables) (tx : Label) (kind : TxKind) (before : Talk) (s : Statement) → Goes (answer_of catalog db s) db (Asked catalog tx kind before s)
asked_goes catalog db tx kind before (statement.Begin begun) calls r told h =
    starves_or None db (Begins tx kind) (opens_go None db tx _ None None (Answers (reply.Began tx)) (λ calls r told h. answers_apart None (reply.Began tx) calls r refl h)) calls r told h.2
asked_goes catalog db tx kind before statement.Commit calls r told h = Apart h.1 (ap puts_in h.0)
asked_goes catalog db tx kind before statement.Rollback calls r told h = Apart h.1 (ap puts_in h.0)
asked_goes catalog db tx kind before (statement.Insert table values) calls r told h =
    let s : Statement = statement.Insert table values in
    starves_or (answer_of catalog db s) db (AsksOf catalog tx kind before s (table_at catalog table)) (asks_of_go catalog db tx kind before s (table_at catalog table)) calls r told h
asked_goes catalog db tx kind before (statement.Select table names e) calls r told h =
    let s : Statement = statement.Select table names e in
    starves_or (answer_of catalog db s) db (AsksOf catalog tx kind before s (table_at catalog table)) (asks_of_go catalog db tx kind before s (table_at catalog table)) calls r told h
asked_goes catalog db tx kind before (statement.Update table sets e) calls r told h =
    let s : Statement = statement.Update table sets e in
    starves_or (answer_of catalog db s) db (AsksOf catalog tx kind before s (table_at catalog table)) (asks_of_go catalog db tx kind before s (table_at catalog table)) calls r told h
asked_goes catalog db tx kind before (statement.Delete table e) calls r told h =
    let s : Statement = statement.Delete table e in
    starves_or (answer_of catalog db s) db (AsksOf catalog tx kind before s (table_at catalog table)) (asks_of_go catalog db tx kind before s (table_at catalog table)) calls r told h

-- what the database answers comes with writes only where it is a count
in_sound : (columns : List Column) (t : ℕ) (s : Statement) (rows : KeyedRows) (word : Option ErrWord) → cond (is_count (answer_in columns t s rows word).0) (answer_in columns t s rows word).1 [] ≡ (answer_in columns t s rows word).1
in_sound columns t s rows (Some word) = refl
in_sound columns t s rows None = (answer_writes columns t s (rows_read rows (key_read columns s))).0

on_sound : (catalog : List Table) (db : Tables) (s : Statement) (t : Option ℕ) → cond (is_count (answer_on catalog db s t).0) (answer_on catalog db s t).1 [] ≡ (answer_on catalog db s t).1
on_sound catalog db s None = refl
on_sound catalog db s (Some t) = in_sound (columns_at catalog t) t s (table_of db t) (refusal_in (columns_at catalog t) s)

sound_at : (c b : Answer) → cond (is_count c.0) c.1 [] ≡ c.1 → Some c ≡ Some b → cond (is_count b.0) b.1 [] ≡ b.1
sound_at c b h e = let same : c ≡ b = (cc) in subst (λ (a : Answer). cond (is_count a.0) a.1 [] ≡ a.1) same h

of_sound : (catalog : List Table) (db : Tables) (s : Statement) → Sound (answer_of catalog db s)
of_sound catalog db (statement.Begin begun) b e = absurd cc
of_sound catalog db statement.Commit b e = absurd cc
of_sound catalog db statement.Rollback b e = absurd cc
of_sound catalog db (statement.Insert table values) b e = sound_at _ b (on_sound catalog db (statement.Insert table values) (table_at catalog table)) e
of_sound catalog db (statement.Select table names c) b e = sound_at _ b (on_sound catalog db (statement.Select table names c) (table_at catalog table)) e
of_sound catalog db (statement.Update table sets c) b e = sound_at _ b (on_sound catalog db (statement.Update table sets c) (table_at catalog table)) e
of_sound catalog db (statement.Delete table c) b e = sound_at _ b (on_sound catalog db (statement.Delete table c) (table_at catalog table)) e

-- ---- one statement, told

pub judged_none : (j : Bool) (P : Type 0) → j ≡ false → cond j P (Unit {0})
judged_none true P e = absurd cc
judged_none false P e = tt

judged_some : (j : Bool) (P : Type 0) → P → cond j P (Unit {0})
judged_some true P p = p
judged_some false P p = tt

told_one : (catalog : List Table) (db : Tables) (s : Said) (calls : Talk) → Went (answer_of catalog db s.statement) calls s.reply → cond (is_judged s.reply) (reply_of catalog db s.statement ≡ Some s.reply) (Unit {0})
told_one catalog db s calls (Lost l) = judged_none (is_judged s.reply) _ (lost_is_not_judged s.reply l)
told_one catalog db s calls (Apart j p) = judged_none (is_judged s.reply) _ j
told_one catalog db s calls (Given b is said p) = judged_some (is_judged s.reply) _ (ap (option_map (λ (a : Answer). a.0)) is ∙ ap Some (sym said))

wrote_one : (catalog : List Table) (db : Tables) (s : Said) (calls : Talk) → Went (answer_of catalog db s.statement) calls s.reply → is_lost s.reply ≡ false → writes_said catalog db s ≡ puts_in calls
wrote_one catalog db s calls (Lost l) kept = absurd (cc (l, kept))
wrote_one catalog db s calls (Apart j p) kept = ap (λ c. cond c (writes_of catalog db s.statement) []) (counts_are_judged s.reply j) ∙ sym p
wrote_one catalog db s calls (Given b is said p) kept =
    ap (λ o. cond (is_count s.reply) (writes_in o) []) is ∙ ap (λ (r : Reply). cond (is_count r) b.1 []) said ∙ of_sound catalog db s.statement b is ∙ sym p

-- ---- all statements

by_bool : {P : Type 0} (b : Bool) → (b ≡ true → P) → (b ≡ false → P) → P
by_bool true f g = f refl
by_bool false f g = g refl

last_is_lost : (s : Said) → is_lost s.reply ≡ true → is_last s ≡ true
last_is_lost s e = rw e refl

pub spoken_told : (catalog : List Table) (tx : Label) (kind : TxKind) (before : Talk) (said : List Said) (talk : Talk) (db : Tables) → Converses catalog tx kind before said talk → TalkTold db talk → Told catalog db said
spoken_told catalog tx kind before [] talk db h told = tt
spoken_told catalog tx kind before (s ∷ said) talk db h told =
    let first : Talk = h.0 in
    let more : Talk = h.1 in
    let parts : TalkTold db first × TalkTold (after_writes db (puts_in first)) more = told_parts db first more (subst (TalkTold db) h.2 told) in
    let went : Went (answer_of catalog db s.statement) first s.reply = asked_goes catalog db tx kind before s.statement first s.reply parts.0 h.3 in (
      told_one catalog db s first went,
      by_bool (is_lost s.reply)
          (λ l. subst (Told catalog (after_said catalog db s)) (sym (h.4 (last_is_lost s l))) tt)
          (λ kept. spoken_told catalog tx kind (before ++ first) said more (after_said catalog db s) h.5 (subst (λ ws. TalkTold (after_writes db ws) more) (sym (wrote_one catalog db s first went kept)) parts.1)),
    )

pub spoken_writes : (catalog : List Table) (tx : Label) (kind : TxKind) (before : Talk) (said : List Said) (talk : Talk) (db : Tables) → Converses catalog tx kind before said talk → TalkTold db talk → AllByRecursion (λ (s : Said). is_lost s.reply ≡ false) said → written catalog db said ≡ puts_in talk
spoken_writes catalog tx kind before [] talk db h told kept = sym (ap puts_in h)
spoken_writes catalog tx kind before (s ∷ said) talk db h told kept =
    let first : Talk = h.0 in
    let more : Talk = h.1 in
    let parts : TalkTold db first × TalkTold (after_writes db (puts_in first)) more = told_parts db first more (subst (TalkTold db) h.2 told) in
    let went : Went (answer_of catalog db s.statement) first s.reply = asked_goes catalog db tx kind before s.statement first s.reply parts.0 h.3 in
    let same : writes_said catalog db s ≡ puts_in first = wrote_one catalog db s first went kept.0 in
    let rest : written catalog (after_said catalog db s) said ≡ puts_in more = spoken_writes catalog tx kind (before ++ first) said more (after_said catalog db s) h.5 (subst (λ ws. TalkTold (after_writes db ws) more) (sym same) parts.1) kept.1 in
    ap (λ ws. ws ++ written catalog (after_said catalog db s) said) same ∙ ap (λ ws. puts_in first ++ ws) rest ∙ sym (puts_append first more) ∙ sym (ap puts_in h.2)
