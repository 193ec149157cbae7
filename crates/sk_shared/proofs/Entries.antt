-- The call of a transaction on an engine: its reply is of the kind that was asked for, and its entry keeps the journal legal.
use Rattle.std.specs.Prelude.{◌≡◌, ℕ, ◌<◌, ◌≤◌, List, [], ◌∷◌, ◌++◌, Option, Some, None, Bool, true, false, cond, ◌&&◌, ◌||◌, ◌⊎◌, length, is_some, nat_lt}
use Rattle.std.proofs.Common.{refl, sym, ap, subst, ◌∙◌, arith, ⊎_elim, append-nil}
use Rattle.std.proofs.lemmas.Bool.{cond_both, false≢true}
use Rattle.std.proofs.lemmas.List.{length_push}
use Rattle.std.specs.List.{filter, find as find_first}
use Rattle.sk_outside.specs.Causes.{Rose}
use Rattle.sk_model.specs.declared.label.Label.{Label}
use Rattle.sk_model.specs.declared.engine.EngineName.{EngineName}
use Rattle.sk_model.specs.declared.engine.EngineName.TheVariants.{Mem, Store}
use Rattle.sk_model.specs.declared.call.EngineCall.{EngineCall}
use Rattle.sk_model.specs.declared.call.EngineCall.TheVariants as call
use Rattle.sk_model.specs.declared.call.EngineFault.{EngineFault}
use Rattle.sk_model.specs.declared.call.EngineFault.TheVariants as fault
use Rattle.sk_model.specs.declared.call.EngineReply.{EngineReply}
use Rattle.sk_model.specs.declared.call.EngineReply.TheVariants.{Done, Found, Rows, Number, Commits, Fault}
use Rattle.sk_model.specs.declared.call.Entry.{Entry}
use Rattle.sk_model.specs.Engine.{VersionState, Open, Closed, Stamped, Dropped, Version, EngineTable, is_of, is_stamped, snapshot_of, write_at}
use Rattle.sk_model.specs.EngineReplies.{busy_or, conflict_or, is_rival, last_in, past_of, past_or, answer_of}
use Rattle.sk_model.specs.EngineConditions.{may, empty_of}
use Rattle.sk_model.specs.Legal.{due, touches, may_fail, after_entries}
use Rattle.sk_model.specs.Resembling.{Resembles}
use Rattle.sk_model.specs.Journal.{most_entries}
use Rattle.sk_model.specs.Talks.{own, same_engine, calls_in}
use Rattle.sk_chain.specs.declared.noted.Noted.{Noted}
use Rattle.sk_chain.specs.Promise.{refused}
use Rattle.sk_chain.specs.Runs.{entered_by}
use Rattle.sk_chain.specs.Noting.{engine_of, journal_of, noted_stands}
use Rattle.sk_chain.specs.Applying.{IsInUse, entered_reply, takes_memory, Answers, Follows, Applies}
use Rattle.sk_chain.proofs.Applied.{applied_stays_legal}
use Rattle.sk_commit.specs.Fits.{CallFits, made_call}
use Rattle.sk_session.specs.Conversing.{is_of_transaction}
use Rattle.sk_shared.specs.Kept.{Keeps, IsKept, is_close}

-- ---- the reply that is due is of the kind of its call

get_fits : (tx : Label) (t : ℕ) (key : _) (o : Option Version) (row : _) → CallFits (call.Get tx t key) (busy_or o (Found row))
get_fits tx t key None row = tt
get_fits tx t key (Some v) row = tt

scan_fits : (tx : Label) (t : ℕ) (o : Option Version) (rows : _) → CallFits (call.Scan tx t) (busy_or o (Rows rows))
scan_fits tx t None rows = tt
scan_fits tx t (Some v) rows = tt

past_fits : (tx : Label) (t : ℕ) (key row : _) (s : ℕ) (by : Label) (standing : VersionState) → CallFits (call.Put tx t key row) (past_of s by standing)
past_fits tx t key row s by Open = tt
past_fits tx t key row s by (Closed f) = tt
past_fits tx t key row s by (Stamped n) = cond_both (nat_lt s n) _ _ (λ x. CallFits (call.Put tx t key row) x) (λ _. tt) (λ _. tt)
past_fits tx t key row s by Dropped = tt

put_fits : (tx : Label) (t : ℕ) (key row : _) (rival : Option Version) (s : ℕ) (last : Option Version) → CallFits (call.Put tx t key row) (conflict_or rival (past_or s last))
put_fits tx t key row None s None = tt
put_fits tx t key row None s (Some v) = past_fits tx t key row s v.by v.standing
put_fits tx t key row (Some v) s last = tt

answer_fits : (e : EngineTable) (c : EngineCall) → is_of_transaction c ≡ true → CallFits c (answer_of e c)
answer_fits e (call.Open tx s) is = cond_both (nat_lt s e.purged) _ _ (λ x. CallFits (call.Open tx s) x) (λ _. tt) (λ _. tt)
answer_fits e (call.Get tx t key) is = get_fits tx t key _ _
answer_fits e (call.Scan tx t) is = scan_fits tx t _ _
answer_fits e (call.Put tx t key row) is =
    put_fits tx t key row (find_first (is_rival tx (write_at t key row)) e.versions) (snapshot_of e tx) (last_in None (filter (λ v. is_of t key v && is_stamped v.standing) e.versions))
answer_fits e (call.Close tx) is = tt
answer_fits e (call.Stamp tx n) is = tt
answer_fits e (call.Void tx n) is = tt
answer_fits e (call.DropTx tx) is = tt
answer_fits e call.Horizon is = absurd (false≢true is)
answer_fits e (call.Records from to) is = absurd (false≢true is)
answer_fits e (call.Purge upto) is = absurd (false≢true is)

empty_fits : (c : EngineCall) → is_of_transaction c ≡ true → CallFits c (empty_of c)
empty_fits (call.Open tx s) is = tt
empty_fits (call.Get tx t key) is = tt
empty_fits (call.Scan tx t) is = tt
empty_fits (call.Put tx t key row) is = tt
empty_fits (call.Close tx) is = tt
empty_fits (call.Stamp tx n) is = tt
empty_fits (call.Void tx n) is = tt
empty_fits (call.DropTx tx) is = tt
empty_fits call.Horizon is = absurd (false≢true is)
empty_fits (call.Records from to) is = absurd (false≢true is)
empty_fits (call.Purge upto) is = absurd (false≢true is)

due_fits : (e : EngineTable) (c : EngineCall) → is_of_transaction c ≡ true → CallFits c (due e c)
due_fits e c is = cond_both (may e c) (answer_of e c) (empty_of c) (λ x. CallFits c x) (λ _. answer_fits e c is) (λ _. empty_fits c is)

-- so is the fault of a device, and want of memory

touching : (e : EngineTable) (c : EngineCall) → may_fail e c ≡ true → touches c ≡ true
touching e c m = by (may e c) m
  where
    by : (b : Bool) → (b && touches c) ≡ true → touches c ≡ true
    by true h = h
    by false h = absurd (false≢true h)

device_fits : (c : EngineCall) → touches c ≡ true → is_of_transaction c ≡ true → CallFits c (Fault fault.Device)
device_fits (call.Open tx s) t is = absurd (false≢true t)
device_fits (call.Get tx t key) h is = tt
device_fits (call.Scan tx t) h is = tt
device_fits (call.Put tx t key row) h is = tt
device_fits (call.Close tx) t is = absurd (false≢true t)
device_fits (call.Stamp tx n) t is = absurd (false≢true t)
device_fits (call.Void tx n) t is = absurd (false≢true t)
device_fits (call.DropTx tx) t is = absurd (false≢true t)
device_fits call.Horizon t is = absurd (false≢true is)
device_fits (call.Records from to) t is = absurd (false≢true is)
device_fits (call.Purge upto) t is = absurd (false≢true is)

memory_fits : (c : EngineCall) → takes_memory c ≡ true → is_of_transaction c ≡ true → CallFits c (Fault fault.NoMemory)
memory_fits (call.Open tx s) t is = tt
memory_fits (call.Get tx t key) h is = tt
memory_fits (call.Scan tx t) h is = tt
memory_fits (call.Put tx t key row) h is = tt
memory_fits (call.Close tx) t is = tt
memory_fits (call.Stamp tx n) t is = absurd (false≢true t)
memory_fits (call.Void tx n) t is = absurd (false≢true t)
memory_fits (call.DropTx tx) t is = absurd (false≢true t)
memory_fits call.Horizon t is = absurd (false≢true is)
memory_fits (call.Records from to) t is = absurd (false≢true is)
memory_fits (call.Purge upto) t is = absurd (false≢true is)

right_fits : (told : Bool) (before now : ℕ) (e : EngineTable) (c : EngineCall) (x : EngineReply) → told ≡ true → is_of_transaction c ≡ true → Answers told before now e c x → CallFits c x
right_fits told before now e c x t is a = ⊎_elim
    (λ (d : (may_fail e c ≡ true) × (x ≡ Fault fault.Device) × Rose before now). subst (CallFits c) (sym d.1) (device_fits c (touching e c d.0) is))
    (λ (k : (due e c ≡ x) ⊎ ((told ≡ false) × (may e c ≡ true) × Resembles e.catalog c (due e c) x)). ⊎_elim
    (λ (d : due e c ≡ x). subst (CallFits c) d (due_fits e c is))
    (λ (n : (told ≡ false) × (may e c ≡ true) × Resembles e.catalog c (due e c) x). absurd (false≢true (sym n.0 ∙ t)))
    k)
    a

module _ (told : Bool) (before now : ℕ) (Stood : EngineTable → List Entry → Type 0) (e : EngineTable) (js : List Entry) (c : EngineCall) (t : told ≡ true) (is : is_of_transaction c ≡ true) where
  fault_fits : (f : EngineFault) → (takes_memory c || is_some (refused f)) ≡ true → Follows told before now Stood e js c (refused f) → CallFits c (Fault f)
  fault_fits (fault.Old s h) entered a = right_fits told before now e c _ t is a.0
  fault_fits (fault.Busy by) entered a = right_fits told before now e c _ t is a.0
  fault_fits (fault.Conflict by why) entered a = right_fits told before now e c _ t is a.0
  fault_fits fault.Device entered a = right_fits told before now e c _ t is a.0
  fault_fits fault.NoMemory entered a = memory_fits c (takes (takes_memory c) entered) is
    where
      takes : (b : Bool) → (b || false) ≡ true → b ≡ true
      takes true h = refl
      takes false h = h

  reply_fits : (reply : EngineReply) → (takes_memory c || is_some (entered_reply reply)) ≡ true → Follows told before now Stood e js c (entered_reply reply) → CallFits c reply
  reply_fits Done entered a = right_fits told before now e c _ t is a.0
  reply_fits (Found row) entered a = right_fits told before now e c _ t is a.0
  reply_fits (Rows rows) entered a = right_fits told before now e c _ t is a.0
  reply_fits (Number n) entered a = right_fits told before now e c _ t is a.0
  reply_fits (Commits commits) entered a = right_fits told before now e c _ t is a.0
  reply_fits (Fault f) entered a = fault_fits f entered a

-- ---- the journal behind a call

module _ {G : Type 0} (told : Bool) (faults : G → ℕ) (stands : G → EngineTable → List Entry → Type 0) (t : told ≡ true) where
  abbrev pub Applied : Noted G → Noted G → EngineCall → Option EngineReply → Type 0
  Applied old new c reply = Applies told (λ (s : Noted G). faults (engine_of s)) (noted_stands stands) old new c reply

  -- an engine that keeps its journal is in use
  pub in_use : (x : Noted G) → IsKept stands x → IsInUse (noted_stands stands) x
  in_use x u = (after_entries u.0 u.1, u.1, u.2.from.stood)

  -- a reply that is entered, or of a call that may want memory, is of the kind that was asked for
  pub call_fits : (old new : Noted G) (c : EngineCall) (reply : EngineReply) → IsKept stands old → is_of_transaction c ≡ true → (takes_memory c || is_some (entered_reply reply)) ≡ true → Applied old new c (entered_reply reply)
      → CallFits c reply
  call_fits old new c reply u is entered a = reply_fits told (faults (engine_of old)) (faults (engine_of new)) (noted_stands stands new) (after_entries u.0 u.1) u.1 c t is reply entered (a.holds (after_entries u.0 u.1) u.1 u.2.from.stood)

  -- the journal has the entry behind the others, where there is room for one
  pub entry_kept : (old new : Noted G) (c : EngineCall) (o : Option EngineReply) (first : EngineTable) (js : List Entry) → length (journal_of old) < most_entries → Applied old new c o → Keeps stands old first js
      → Keeps stands new first (js ++ entered_by c o)
  entry_kept old new c o first js room a k =
      let from = applied_stays_legal told (λ (s : Noted G). faults (engine_of s)) (noted_stands stands) t old new c o first js k.from a in
      let few : length (js ++ entered_by c o) ≤ most_entries = count o (subst (λ xs. length xs < most_entries) k.journal room) in
      record { from = from; few = few; journal = from.stood.entries few }
    where
      count : (x : Option EngineReply) → length js < most_entries → length (js ++ entered_by c x) ≤ most_entries
      count None l = subst (λ xs. length xs ≤ most_entries) (sym (append-nil js)) (omega (arith, l))
      count (Some x) l = let n = length_push js (record { call = c; reply = x }) in omega (arith, n, l)

  -- nothing was entered
  pub none_kept : (old new : Noted G) (c : EngineCall) (o : Option EngineReply) → is_some o ≡ false → length (journal_of old) < most_entries → Applied old new c o
      → (first : EngineTable) (js : List Entry) → Keeps stands old first js → Keeps stands new first (js ++ [])
  none_kept old new c None n room a first js k = entry_kept old new c None first js room a k
  none_kept old new c (Some x) n room a first js k = absurd (false≢true (sym n))

-- a journal that is not full has a place for one entry more
pub has_place : {G : Type 0} (stands : G → EngineTable → List Entry → Type 0) (x : Noted G) (n : ℕ) → IsKept stands x → n ≡ length (journal_of x) → (n ≡ most_entries → ⊥) → length (journal_of x) < most_entries
has_place stands x n u is not_full =
    let few : length (journal_of x) ≤ most_entries = subst (λ xs. length xs ≤ most_entries) (sym u.2.journal) u.2.few in
    let other : length (journal_of x) ≡ most_entries → ⊥ = λ all. not_full (is ∙ all) in
    grind (arith, few, other)

-- of a reply that is none, nothing was entered
pub is_stopped : (b d : Bool) → (b || d) ≡ false → d ≡ false
is_stopped true d h = absurd (false≢true (sym h))
is_stopped false d h = h

-- an engine that no call was made of
pub begins : {G : Type 0} (stands : G → EngineTable → List Entry → Type 0) (x : Noted G) (g : G) (e first : EngineTable) → e ≡ first → ((js : List Entry) → stands g e js)
    → ((t : EngineTable) (js : List Entry) → stands g t js → t.openings ≡ [] → noted_stands stands x t []) → first.openings ≡ [] → journal_of x ≡ [] → Keeps stands x first []
begins stands x g e first is stood noted none empty =
    record { from = record { legal = tt; stood = noted first [] (subst (λ t. stands g t []) is (stood [])) none }; few = omega arith; journal = empty }

-- the calls that are made on an engine are those that are entered
pub own_entries : (name : EngineName) (c : EngineCall) (reply : EngineReply) → entered_by c (entered_reply reply) ≡ calls_in name (made_call name c reply)
own_entries Mem c Done = refl
own_entries Mem c (Found row) = refl
own_entries Mem c (Rows rows) = refl
own_entries Mem c (Number n) = refl
own_entries Mem c (Commits commits) = refl
own_entries Mem c (Fault (fault.Old s h)) = refl
own_entries Mem c (Fault (fault.Busy by)) = refl
own_entries Mem c (Fault (fault.Conflict by why)) = refl
own_entries Mem c (Fault fault.Device) = refl
own_entries Mem c (Fault fault.NoMemory) = refl
own_entries Store c Done = refl
own_entries Store c (Found row) = refl
own_entries Store c (Rows rows) = refl
own_entries Store c (Number n) = refl
own_entries Store c (Commits commits) = refl
own_entries Store c (Fault (fault.Old s h)) = refl
own_entries Store c (Fault (fault.Busy by)) = refl
own_entries Store c (Fault (fault.Conflict by why)) = refl
own_entries Store c (Fault fault.Device) = refl
own_entries Store c (Fault fault.NoMemory) = refl

one : (name other : EngineName) (c : EngineCall) (reply : EngineReply) → same_engine other name ≡ false → calls_in other (own name c reply ∷ []) ≡ []
one name other c reply is = ap (λ b. cond b (record { call = c; reply = reply } ∷ []) [] ++ []) is

-- and none on the other
pub other_entries : (name other : EngineName) (c : EngineCall) (reply : EngineReply) → same_engine other name ≡ false → calls_in other (made_call name c reply) ≡ []
other_entries name other c Done is = one name other c Done is
other_entries name other c (Found row) is = one name other c (Found row) is
other_entries name other c (Rows rows) is = one name other c (Rows rows) is
other_entries name other c (Number n) is = one name other c (Number n) is
other_entries name other c (Commits commits) is = one name other c (Commits commits) is
other_entries name other c (Fault (fault.Old s h)) is = one name other c (Fault (fault.Old s h)) is
other_entries name other c (Fault (fault.Busy by)) is = one name other c (Fault (fault.Busy by)) is
other_entries name other c (Fault (fault.Conflict by why)) is = one name other c (Fault (fault.Conflict by why)) is
other_entries name other c (Fault fault.Device) is = one name other c (Fault fault.Device) is
other_entries name other c (Fault fault.NoMemory) is = refl
