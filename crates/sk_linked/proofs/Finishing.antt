-- What comes behind the calls of a record's statements: the steps of its commit, and what ends its openings.
use Rattle.std.specs.Prelude.{ℕ, Bool, true, false, cond, not, ◌&&◌, ◌||◌, ◌≡◌, ◌⊎◌, ◌<◌, IfSome, List, [], ◌∷◌, ◌++◌, Option, Some, None}
use Rattle.std.proofs.Common.{refl, sym, ap, subst, ◌∙◌}
use Rattle.std.specs.List.{list_any}
use Rattle.std.proofs.lemmas.Bool.{and_parts, false≢true}
use Rattle.std.proofs.Math.Bool.{or-true}
use Rattle.sk_model.specs.declared.label.Label.{Label}
use Rattle.sk_model.specs.declared.engine.EngineName.{EngineName}
use Rattle.sk_model.specs.declared.engine.EngineName.TheVariants.{Mem, Store}
use Rattle.sk_model.specs.declared.step.StepName.{StepName}
use Rattle.sk_model.specs.declared.step.StepName.TheVariants.{CloseMem, CloseStore, DrawMem, DrawStore, Check, StampMem, StampStore}
use Rattle.sk_model.specs.declared.record.Record.{Record}
use Rattle.sk_model.specs.declared.record.Ending.{Ending}
use Rattle.sk_model.specs.declared.record.Ending.TheVariants as ending
use Rattle.sk_model.specs.declared.commit.Write.{Write}
use Rattle.sk_model.specs.declared.call.EngineCall.{EngineCall}
use Rattle.sk_model.specs.declared.call.EngineCall.TheVariants as call
use Rattle.sk_model.specs.declared.call.EngineReply.TheVariants as answer
use Rattle.sk_model.specs.declared.call.Entry.{Entry}
use Rattle.sk_model.specs.Records.{is_committed, some_writes}
use Rattle.sk_model.specs.Shapes.{EngineEnd, StillOpen, Dropped, Closed, ClosedDropped, StampedAt, VoidedAt}
use Rattle.sk_model.specs.Talks.{OwnCall, Talk, same_engine, calls_in, writes_in_call, wrote_in, wrote}
use Rattle.sk_model.specs.RecordTalks.{Numbered, commit_steps, steps_calls, left_by, is_draw_mem, is_draw_store, is_check, is_stamp, begins_with, EndsAt}
use Rattle.sk_model.proofs.EngineEnds.{in_engine}
use Rattle.sk_model.proofs.Lists.{Each}
use Rattle.sk_linked.specs.Traces.{close_entry, stamp_entry}

-- ---- one engine or the other

abbrev pub draws : EngineName → StepName → Bool
draws Mem s = is_draw_mem s
draws Store s = is_draw_store s

abbrev pub drew_in : EngineName → Record → Option ℕ
drew_in Mem r = r.drew_mem
drew_in Store r = r.drew_store

-- an engine was written where one of its Puts was done
pub wrote_is : (e : EngineName) (talk : Talk) → wrote e talk ≡ some_writes (wrote_in (calls_in e talk))
wrote_is e [] = refl
wrote_is e (c ∷ cs) = go (same_engine e c.engine) refl (wrote_is e cs)
  where
    some_more : (ws vs : List Write) → some_writes (ws ++ vs) ≡ (some_writes ws || some_writes vs)
    some_more [] vs = refl
    some_more (w ∷ ws) vs = refl

    go : (b : Bool) → same_engine e c.engine ≡ b → wrote e cs ≡ some_writes (wrote_in (calls_in e cs))
        → ((b && some_writes (writes_in_call c)) || wrote e cs) ≡ some_writes (wrote_in (cond b (c.entry ∷ []) [] ++ calls_in e cs))
    go false f ih = ih
    go true t ih = ap (λ b. some_writes (writes_in_call c) || b) ih ∙ sym (some_more (writes_in_call c) (wrote_in (calls_in e cs)))

-- ---- how far a commit came

-- the test passes for each way to cut a list of steps in two
abbrev all_cuts : (List StepName → List StepName → Bool) → List StepName → Bool
all_cuts test [] = test [] []
all_cuts test (s ∷ ss) = test [] (s ∷ ss) && all_cuts (λ taken rest. test (s ∷ taken) rest) ss

at_cut : (test : List StepName → List StepName → Bool) (taken rest : List StepName) → all_cuts test (taken ++ rest) ≡ true → test taken rest ≡ true
at_cut test [] [] h = h
at_cut test [] (s ∷ ss) h = (and_parts _ _ h).0
at_cut test (s ∷ ss) rest h = at_cut (λ taken rest. test (s ∷ taken) rest) ss rest (and_parts _ _ h).1

abbrev implies : Bool → Bool → Bool
implies a b = not a || b

then : (a b : Bool) → implies a b ≡ true → a ≡ true → b ≡ true
then true b h e = h
then false b h e = absurd (false≢true e)

abbrev pub written : Bool → Bool → EngineName → Bool
written wm ws Mem = wm
written wm ws Store = ws

module _ (wrote_mem wrote_store : Bool) (taken rest : List StepName) (steps : commit_steps wrote_mem wrote_store ≡ taken ++ rest) where
  cut : (test : List StepName → List StepName → Bool) → all_cuts test (commit_steps wrote_mem wrote_store) ≡ true → test taken rest ≡ true
  cut test h = at_cut test taken rest (subst (λ ss. all_cuts test ss ≡ true) steps h)

-- a number is drawn only where the engine was written
pub draws_where_written : (e : EngineName) (wm ws : Bool) (taken rest : List StepName) → commit_steps wm ws ≡ taken ++ rest → list_any (draws e) taken ≡ true → written wm ws e ≡ true
draws_where_written e wm ws taken rest steps d = then _ _ (cut wm ws taken rest steps (λ taken rest. implies (list_any (draws e) taken) (written wm ws e)) (all e wm ws)) d
  where
    all : (e : EngineName) (wm ws : Bool) → all_cuts (λ taken rest. implies (list_any (draws e) taken) (written wm ws e)) (commit_steps wm ws) ≡ true
    all Mem true true = refl
    all Mem true false = refl
    all Mem false true = refl
    all Mem false false = refl
    all Store true true = refl
    all Store true false = refl
    all Store false true = refl
    all Store false false = refl

-- behind the check both numbers are drawn
pub check_drew : (e : EngineName) (wm ws : Bool) (taken rest : List StepName) → commit_steps wm ws ≡ taken ++ rest → list_any is_check taken ≡ true → list_any (draws e) taken ≡ true
check_drew e wm ws taken rest steps d = then _ _ (cut wm ws taken rest steps (λ taken rest. implies (list_any is_check taken) (list_any (draws e) taken)) (all e wm ws)) d
  where
    all : (e : EngineName) (wm ws : Bool) → all_cuts (λ taken rest. implies (list_any is_check taken) (list_any (draws e) taken)) (commit_steps wm ws) ≡ true
    all Mem true true = refl
    all Mem true false = refl
    all Mem false true = refl
    all Mem false false = refl
    all Store true true = refl
    all Store true false = refl
    all Store false true = refl
    all Store false false = refl

-- the check and a stamp come behind a draw, and then neither a draw nor the check is left
abbrev may_fail : StepName → Bool
may_fail s = is_check s || (is_draw_mem s || is_draw_store s)

abbrev is_late : (StepName → Bool) → List StepName → List StepName → Bool
is_late decides taken rest = implies (list_any decides taken) ((list_any is_draw_mem taken || list_any is_draw_store taken) && not (begins_with may_fail rest))

late : (decides : StepName → Bool) (wm ws : Bool) (taken rest : List StepName) → all_cuts (is_late decides) (commit_steps wm ws) ≡ true → commit_steps wm ws ≡ taken ++ rest → list_any decides taken ≡ true
    → ((list_any is_draw_mem taken || list_any is_draw_store taken) ≡ true) × (begins_with may_fail rest ≡ false)
late decides wm ws taken rest all steps s =
    let both : ((list_any is_draw_mem taken || list_any is_draw_store taken) ≡ true) × (not (begins_with may_fail rest) ≡ true) = and_parts _ _ (then _ _ (cut wm ws taken rest steps (is_late decides) all) s) in
    (both.0, not_true _ both.1)
  where
    not_true : (b : Bool) → not b ≡ true → b ≡ false
    not_true false e = refl
    not_true true e = absurd (false≢true e)

stamps_late : (wm ws : Bool) → all_cuts (is_late is_stamp) (commit_steps wm ws) ≡ true
stamps_late true true = refl
stamps_late true false = refl
stamps_late false true = refl
stamps_late false false = refl

checks_late : (wm ws : Bool) → all_cuts (is_late is_check) (commit_steps wm ws) ≡ true
checks_late true true = refl
checks_late true false = refl
checks_late false true = refl
checks_late false false = refl

-- a step of the engine is taken only where the engine was written
abbrev pub is_step_of : EngineName → StepName → Bool
is_step_of Mem CloseMem = true
is_step_of Mem DrawMem = true
is_step_of Mem StampMem = true
is_step_of Store CloseStore = true
is_step_of Store DrawStore = true
is_step_of Store StampStore = true
is_step_of _ _ = false

pub steps_where_written : (e : EngineName) (wm ws : Bool) (taken rest : List StepName) → commit_steps wm ws ≡ taken ++ rest → written wm ws e ≡ false → list_any (is_step_of e) taken ≡ false
steps_where_written e wm ws taken rest steps w =
    not_true _ (then _ _ (cut wm ws taken rest steps (λ taken rest. implies (not (written wm ws e)) (not (list_any (is_step_of e) taken))) (all e wm ws)) (ap not w))
  where
    all : (e : EngineName) (wm ws : Bool) → all_cuts (λ taken rest. implies (not (written wm ws e)) (not (list_any (is_step_of e) taken))) (commit_steps wm ws) ≡ true
    all Mem true true = refl
    all Mem true false = refl
    all Mem false true = refl
    all Mem false false = refl
    all Store true true = refl
    all Store true false = refl
    all Store false true = refl
    all Store false false = refl

    not_true : (b : Bool) → not b ≡ true → b ≡ false
    not_true false e = refl
    not_true true e = absurd (false≢true e)

-- all steps draw where the engine was written
pub all_draw : (e : EngineName) (wm ws : Bool) → list_any (draws e) (commit_steps wm ws) ≡ written wm ws e
all_draw Mem true true = refl
all_draw Mem true false = refl
all_draw Mem false true = refl
all_draw Mem false false = refl
all_draw Store true true = refl
all_draw Store true false = refl
all_draw Store false true = refl
all_draw Store false false = refl

-- a commit that is done took all steps, or its check
pub committed_end : (how : Ending) (taken rest : List StepName) → EndsAt how taken rest → is_committed how ≡ true → (rest ≡ []) ⊎ (list_any is_check taken ≡ true)
committed_end ending.Committed taken rest ends c = ends
committed_end ending.Open taken rest ends c = absurd (false≢true c)
committed_end ending.CheckFailed taken rest ends c = absurd (false≢true c)
committed_end ending.Spent taken rest ends c = absurd (false≢true c)
committed_end ending.NoMemory taken rest ends c = absurd (false≢true c)
committed_end ending.RolledBack taken rest ends c = absurd (false≢true c)
committed_end ending.Conflict taken rest ends c = absurd (false≢true c)
committed_end ending.Recycled taken rest ends c = absurd (false≢true c)
committed_end ending.Old taken rest ends c = absurd (false≢true c)
committed_end ending.Device taken rest ends c = absurd (false≢true c)

weaker : (p q : StepName → Bool) (ss : List StepName) → ((s : StepName) → p s ≡ true → q s ≡ true) → begins_with p ss ≡ true → begins_with q ss ≡ true
weaker p q [] f e = absurd (false≢true e)
weaker p q (s ∷ ss) f e = f s e

draw_may_fail : (s : StepName) → (is_draw_mem s || is_draw_store s) ≡ true → may_fail s ≡ true
draw_may_fail DrawMem e = refl
draw_may_fail DrawStore e = refl
draw_may_fail CloseMem e = e
draw_may_fail CloseStore e = e
draw_may_fail Check e = refl
draw_may_fail StampMem e = e
draw_may_fail StampStore e = e

check_may_fail : (s : StepName) → is_check s ≡ true → may_fail s ≡ true
check_may_fail Check e = refl
check_may_fail DrawMem e = refl
check_may_fail DrawStore e = refl
check_may_fail CloseMem e = absurd (false≢true e)
check_may_fail CloseStore e = absurd (false≢true e)
check_may_fail StampMem e = absurd (false≢true e)
check_may_fail StampStore e = absurd (false≢true e)

-- who has taken a step that decides is committed
decided_committed : (how : Ending) (decides : StepName → Bool) (taken rest : List StepName) → EndsAt how taken rest → list_any decides taken ≡ true
    → ((list_any is_draw_mem taken || list_any is_draw_store taken) ≡ true) × (begins_with may_fail rest ≡ false) → (list_any is_check taken || list_any is_stamp taken) ≡ true → is_committed how ≡ true
decided_committed ending.Committed decides taken rest ends d l s = refl
decided_committed ending.Open decides taken rest ends d l s = absurd (false≢true (sym ends ∙ s))
decided_committed ending.CheckFailed decides taken rest ends d l s = absurd (false≢true (sym l.1 ∙ weaker is_check may_fail rest check_may_fail ends))
decided_committed ending.Spent decides taken rest ends d l s = absurd (false≢true (sym l.1 ∙ weaker _ may_fail rest draw_may_fail ends))
decided_committed ending.NoMemory decides taken rest ends d l s = absurd (false≢true (sym ends ∙ l.0))
decided_committed ending.RolledBack decides taken rest ends d l s = absurd (false≢true (sym (ap (list_any decides) ends) ∙ d))
decided_committed ending.Conflict decides taken rest ends d l s = absurd (false≢true (sym (ap (list_any decides) ends) ∙ d))
decided_committed ending.Recycled decides taken rest ends d l s = absurd (false≢true (sym (ap (list_any decides) ends) ∙ d))
decided_committed ending.Old decides taken rest ends d l s = absurd (false≢true (sym (ap (list_any decides) ends) ∙ d))
decided_committed ending.Device decides taken rest ends d l s = absurd (false≢true (sym (ap (list_any decides) ends) ∙ d))

-- who stamped is committed
pub stamped_committed : (how : Ending) (wm ws : Bool) (taken rest : List StepName) → commit_steps wm ws ≡ taken ++ rest → EndsAt how taken rest → list_any is_stamp taken ≡ true → is_committed how ≡ true
stamped_committed how wm ws taken rest steps ends s =
    decided_committed how is_stamp taken rest ends s (late is_stamp wm ws taken rest (stamps_late wm ws) steps s) (ap (λ b. list_any is_check taken || b) s ∙ or-true (list_any is_check taken))

-- and so is who has passed its check
pub checked_committed : (how : Ending) (wm ws : Bool) (taken rest : List StepName) → commit_steps wm ws ≡ taken ++ rest → EndsAt how taken rest → list_any is_check taken ≡ true → is_committed how ≡ true
checked_committed how wm ws taken rest steps ends s =
    decided_committed how is_check taken rest ends s (late is_check wm ws taken rest (checks_late wm ws) steps s) (ap (λ b. b || list_any is_stamp taken) s)

-- ---- the calls behind the statements'

-- a stamp is of a committed transaction, and a void of another one
abbrev pub IsFinal : Bool → EngineCall → Type 0
IsFinal committed (call.Open tx s) = Unit {0}
IsFinal committed (call.Get tx t key) = Unit {0}
IsFinal committed (call.Scan tx t) = Unit {0}
IsFinal committed (call.Put tx t key row) = Unit {0}
IsFinal committed (call.Close tx) = Unit {0}
IsFinal committed (call.Stamp tx n) = committed ≡ true
IsFinal committed (call.Void tx n) = committed ≡ false
IsFinal committed (call.DropTx tx) = Unit {0}
IsFinal committed call.Horizon = Unit {0}
IsFinal committed (call.Records from to) = Unit {0}
IsFinal committed (call.Purge upto) = Unit {0}

-- How a transaction that drew so ends in an engine, behind the calls of its statements: nothing yet; it is dropped; it is closed, and its
-- number is past the floor; it is closed and dropped; or it stamps the number that it drew, or voids it, as it is committed or not.
pub data Finish (tx : Label) (drew : Option ℕ) (committed : Bool) (js : List Entry) : Type 0 where
  Stays : drew ≡ None → js ≡ [] → Finish tx drew committed js
  Leaves : drew ≡ None → js ≡ record { call = call.DropTx tx; reply = answer.Done } ∷ [] → Finish tx drew committed js
  Shuts : (floor : ℕ) → IfSome drew (λ n. floor < n) → js ≡ close_entry tx floor ∷ [] → Finish tx drew committed js
  ShutsAndLeaves : (floor : ℕ) → drew ≡ None → js ≡ close_entry tx floor ∷ record { call = call.DropTx tx; reply = answer.Done } ∷ [] → Finish tx drew committed js
  Stamps : (floor n : ℕ) → drew ≡ Some n → floor < n → committed ≡ true → js ≡ close_entry tx floor ∷ stamp_entry tx n ∷ [] → Finish tx drew committed js
  Voids : (floor n : ℕ) → drew ≡ Some n → floor < n → committed ≡ false → js ≡ close_entry tx floor ∷ record { call = call.Void tx n; reply = answer.Done } ∷ [] → Finish tx drew committed js

pub finish : (tx : Label) (e : EngineName) (drew : Option ℕ) (committed : Bool) (tail : Talk) → EngineEnd tx e drew tail → Each (λ (j : Entry). IsFinal committed j.call) (calls_in e tail) → Finish tx drew committed (calls_in e tail)
finish tx Mem drew b tail (StillOpen d is) h = Stays d (ap (calls_in Mem) is)
finish tx Mem drew b tail (Dropped d is) h = Leaves d (ap (calls_in Mem) is)
finish tx Mem drew b tail (Closed floor past is) h = Shuts floor past (ap (calls_in Mem) is)
finish tx Mem drew b tail (ClosedDropped floor d is) h = ShutsAndLeaves floor d (ap (calls_in Mem) is)
finish tx Mem drew b tail (StampedAt floor n d past is) h = Stamps floor n d past (subst (λ (t : Talk). Each (λ (j : Entry). IsFinal b j.call) (calls_in Mem t)) is h).1.0 (ap (calls_in Mem) is)
finish tx Mem drew b tail (VoidedAt floor n d past is) h = Voids floor n d past (subst (λ (t : Talk). Each (λ (j : Entry). IsFinal b j.call) (calls_in Mem t)) is h).1.0 (ap (calls_in Mem) is)
finish tx Store drew b tail (StillOpen d is) h = Stays d (ap (calls_in Store) is)
finish tx Store drew b tail (Dropped d is) h = Leaves d (ap (calls_in Store) is)
finish tx Store drew b tail (Closed floor past is) h = Shuts floor past (ap (calls_in Store) is)
finish tx Store drew b tail (ClosedDropped floor d is) h = ShutsAndLeaves floor d (ap (calls_in Store) is)
finish tx Store drew b tail (StampedAt floor n d past is) h = Stamps floor n d past (subst (λ (t : Talk). Each (λ (j : Entry). IsFinal b j.call) (calls_in Store t)) is h).1.0 (ap (calls_in Store) is)
finish tx Store drew b tail (VoidedAt floor n d past is) h = Voids floor n d past (subst (λ (t : Talk). Each (λ (j : Entry). IsFinal b j.call) (calls_in Store t)) is h).1.0 (ap (calls_in Store) is)

-- the calls of one engine are those of one engine
pub calls_of_engine : (e : EngineName) (talk : Talk) → calls_in e (in_engine e talk) ≡ calls_in e talk
calls_of_engine e [] = refl
calls_of_engine e (c ∷ cs) = go (same_engine e c.engine) refl (calls_of_engine e cs)
  where
    go : (b : Bool) → same_engine e c.engine ≡ b → calls_in e (in_engine e cs) ≡ calls_in e cs → calls_in e (cond b (c ∷ in_engine e cs) (in_engine e cs)) ≡ cond b (c.entry ∷ []) [] ++ calls_in e cs
    go true t ih = rw t (ap (λ js. c.entry ∷ js) ih)
    go false f ih = ih

pub final_steps : (tx : Label) (n : Numbered) (b : Bool) (ss : List StepName) → (list_any is_stamp ss ≡ true → b ≡ true) → Each (λ (c : OwnCall). IsFinal b c.entry.call) (steps_calls tx n ss)
final_steps tx n b [] f = tt
final_steps tx n b (CloseMem ∷ ss) f = (tt, final_steps tx n b ss f)
final_steps tx n b (CloseStore ∷ ss) f = (tt, final_steps tx n b ss f)
final_steps tx n b (DrawMem ∷ ss) f = final_steps tx n b ss f
final_steps tx n b (DrawStore ∷ ss) f = final_steps tx n b ss f
final_steps tx n b (Check ∷ ss) f = final_steps tx n b ss f
final_steps tx n b (StampMem ∷ ss) f = (f refl, final_steps tx n b ss (λ s. f refl))
final_steps tx n b (StampStore ∷ ss) f = (f refl, final_steps tx n b ss (λ s. f refl))

pub final_leave : (tx : Label) (e : EngineName) (owed b : Bool) (drew : Option ℕ) → (owed ≡ true → (n : ℕ) → drew ≡ Some n → b ≡ false) → Each (λ (c : OwnCall). IsFinal b c.entry.call) (left_by tx e owed drew)
final_leave tx e false b drew f = tt
final_leave tx e true b None f = (tt, tt)
final_leave tx e true b (Some n) f = (f refl n refl, tt)

pub engine_each : (P : EngineCall → Type 0) (e : EngineName) (talk : Talk) → Each (λ (c : OwnCall). P c.entry.call) talk → Each (λ (j : Entry). P j.call) (calls_in e talk)
engine_each P e [] h = tt
engine_each P e (c ∷ cs) h = go (same_engine e c.engine) (engine_each P e cs h.1)
  where
    go : (b : Bool) → Each (λ (j : Entry). P j.call) (calls_in e cs) → Each (λ (j : Entry). P j.call) (cond b (c.entry ∷ []) [] ++ calls_in e cs)
    go true ih = (h.0, ih)
    go false ih = ih

pub no_steps : (tx : Label) (n : Numbered) (e : EngineName) (ss : List StepName) → list_any (is_step_of e) ss ≡ false → calls_in e (steps_calls tx n ss) ≡ []
no_steps tx n e [] f = refl
no_steps tx n Mem (CloseMem ∷ ss) f = absurd (false≢true (sym f))
no_steps tx n Mem (CloseStore ∷ ss) f = no_steps tx n Mem ss f
no_steps tx n Mem (DrawMem ∷ ss) f = absurd (false≢true (sym f))
no_steps tx n Mem (DrawStore ∷ ss) f = no_steps tx n Mem ss f
no_steps tx n Mem (Check ∷ ss) f = no_steps tx n Mem ss f
no_steps tx n Mem (StampMem ∷ ss) f = absurd (false≢true (sym f))
no_steps tx n Mem (StampStore ∷ ss) f = no_steps tx n Mem ss f
no_steps tx n Store (CloseMem ∷ ss) f = no_steps tx n Store ss f
no_steps tx n Store (CloseStore ∷ ss) f = absurd (false≢true (sym f))
no_steps tx n Store (DrawMem ∷ ss) f = no_steps tx n Store ss f
no_steps tx n Store (DrawStore ∷ ss) f = absurd (false≢true (sym f))
no_steps tx n Store (Check ∷ ss) f = no_steps tx n Store ss f
no_steps tx n Store (StampMem ∷ ss) f = no_steps tx n Store ss f
no_steps tx n Store (StampStore ∷ ss) f = absurd (false≢true (sym f))
