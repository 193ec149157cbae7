-- What an applied call leaves of an engine with a journal.
use Rattle.std.specs.Prelude.{◌≡◌, ℕ, List, [], ◌∷◌, ◌++◌, Option, Some, None, Bool, true, false, cond, not, ◌&&◌, ◌||◌, ◌⊎◌, is_some}
use Rattle.std.proofs.Common.{refl, sym, ap, subst, ◌∙◌, arith, inl, inr, ⊎_elim}
use Rattle.std.proofs.lemmas.Bool.{and_from, or_right, false≢true, cond-false}
use Rattle.std.proofs.lemmas.List.{append-nil, append_assoc}
use Rattle.sk_outside.specs.Causes.{Rose}
use Rattle.sk_model.specs.declared.call.EngineCall.{EngineCall}
use Rattle.sk_model.specs.declared.call.EngineCall.TheVariants as call
use Rattle.sk_model.specs.declared.call.EngineFault.TheVariants as fault
use Rattle.sk_model.specs.declared.call.EngineReply.{EngineReply}
use Rattle.sk_model.specs.declared.call.EngineReply.TheVariants.{Fault}
use Rattle.sk_model.specs.declared.call.Entry.{Entry}
use Rattle.sk_model.specs.Engine.{EngineTable}
use Rattle.sk_model.specs.EngineConditions.{may, empty_of}
use Rattle.sk_model.specs.EngineChanges.{change}
use Rattle.sk_model.specs.EngineReplies.{answer_of}
use Rattle.sk_model.specs.Legal.{step, due, touches, may_fail, is_refusal, after_entries, Legal, IsReply}
use Rattle.sk_model.specs.Resembling.{Resembles}
use Rattle.sk_model.specs.Journal.{Written, entered, is_horizon}
use Rattle.sk_chain.specs.Promise.{entry_of, Meets, Replies, Leaves, Serves}
use Rattle.sk_chain.specs.Runs.{Made, entered_by, entries_by, engine_behind}
use Rattle.sk_chain.specs.Noting.{Notes}
use Rattle.sk_chain.specs.Applying.{IsInUse, entered_reply, takes_memory, may_want, Answers, Follows, Applies, AppliesAll, IsLegalFrom, AppliedStaysLegal}
use Rattle.sk_chain.proofs.Entering.{entered_is, goes_entered}

-- what was asked by `may` meets the condition of the call
pub meets_condition : {S : Type 0} (stands : S → EngineTable → List Entry → Type 0) (s : S) (c : EngineCall) (b : Bool) → IsInUse stands s
    → ((e : EngineTable) (js : List Entry) → stands s e js → b ≡ may e c) → b ≡ true → Meets stands s c
meets_condition stands s c b u is holds = (u.0, u.1, u.2, sym (is u.0 u.1 u.2) ∙ holds)

-- a call whose condition does not hold is no Horizon
pub no_horizon : {S : Type 0} (stands : S → EngineTable → List Entry → Type 0) (s : S) (c : EngineCall) (b : Bool) → IsInUse stands s
    → ((e : EngineTable) (js : List Entry) → stands s e js → b ≡ may e c) → b ≡ false → is_horizon c ≡ false
no_horizon stands s c b u is fails = by_call c (sym (is u.0 u.1 u.2) ∙ fails)
  where
    by_call : (d : EngineCall) → may u.0 d ≡ false → is_horizon d ≡ false
    by_call (call.Open tx n) m = refl
    by_call (call.Get tx t key) m = refl
    by_call (call.Scan tx t) m = refl
    by_call (call.Put tx t key row) m = refl
    by_call (call.Close tx) m = refl
    by_call (call.Stamp tx n) m = refl
    by_call (call.Void tx n) m = refl
    by_call (call.DropTx tx) m = refl
    by_call call.Horizon m = absurd (false≢true (sym m))
    by_call (call.Records from to) m = refl
    by_call (call.Purge upto) m = refl

-- an empty reply is entered
pub empty_entered : (c : EngineCall) → entered_reply (empty_of c) ≡ Some (empty_of c)
empty_entered (call.Open tx n) = refl
empty_entered (call.Get tx t key) = refl
empty_entered (call.Scan tx t) = refl
empty_entered (call.Put tx t key row) = refl
empty_entered (call.Close tx) = refl
empty_entered (call.Stamp tx n) = refl
empty_entered (call.Void tx n) = refl
empty_entered (call.DropTx tx) = refl
empty_entered call.Horizon = refl
empty_entered (call.Records from to) = refl
empty_entered (call.Purge upto) = refl

answers : (told : Bool) (before now : ℕ) (e : EngineTable) (c : EngineCall) (reply : EngineReply) → may e c ≡ true → Replies told before now e c reply → Answers told before now e c reply
answers told before now e c reply m r = ⊎_elim
    (λ (d : (touches c ≡ true) × (reply ≡ Fault fault.Device) × Rose before now). inl (and_from (may e c) (touches c) m d.0, d.1, d.2))
    (λ (k : (due e c ≡ reply) ⊎ ((told ≡ false) × Resembles e.catalog c (due e c) reply)). inr (⊎_elim (λ d. inl d) (λ (n : (told ≡ false) × Resembles e.catalog c (due e c) reply). inr (n.0, m, n.1)) k))
    r

wanted : (e : EngineTable) (c : EngineCall) → (takes_memory c ≡ false → false ≡ true) → may_want e c ≡ true
wanted e c steady = by_taking (takes_memory c) refl
  where
    by_taking : (b : Bool) → takes_memory c ≡ b → (b || not (may e c)) ≡ true
    by_taking true t = refl
    by_taking false t = absurd (false≢true (steady t))

-- a call that is made is applied
pub made_applies : {S : Type 0} (told : Bool) (faults : S → ℕ) (stands : S → EngineTable → List Entry → Type 0) (old new : S) (c : EngineCall) (reply : Option EngineReply)
    → ((e : EngineTable) (js : List Entry) → stands old e js → may e c ≡ true) → (takes_memory c ≡ false → is_some reply ≡ true)
    → Serves told faults stands old new c reply → Applies told faults stands old new c reply
made_applies told faults stands old new c reply m steady g = record {
  later = g.later;
  holds = λ e js st. follows reply e js steady (m e js st) (g.holds e js st (m e js st));
}
  where
    follows : (r : Option EngineReply) (e : EngineTable) (js : List Entry) → (takes_memory c ≡ false → is_some r ≡ true) → may e c ≡ true → Leaves told (faults old) (faults new) (stands new) e js c r
        → Follows told (faults old) (faults new) (stands new) e js c r
    follows None e js s y l = (wanted e c s, l)
    follows (Some x) e js s y l = (answers told (faults old) (faults new) e c x y l.0, l.1)

module _ {G S : Type 0} (told : Bool) (faults : G → ℕ) (stands : G → EngineTable → List Entry → Type 0) (engine : S → G) (journal : S → Written) where
  abbrev Stood : S → EngineTable → List Entry → Type 0
  Stood s e js = Notes (stands (engine s)) (journal s) e js

  -- a call whose condition does not hold, entered with the empty reply of its kind
  pub passed_applies : (old new : S) (c : EngineCall) → is_horizon c ≡ false → engine new ≡ engine old
      → journal new ≡ record { entries = entered (journal old).entries (entry_of c (empty_of c)); room = (journal old).room }
      → ((e : EngineTable) (js : List Entry) → Stood old e js → may e c ≡ false) → Applies told (λ s. faults (engine s)) Stood old new c (Some (empty_of c))
  passed_applies old new c o same now fails = record {
    later = let f : faults (engine new) ≡ faults (engine old) = ap faults same in omega arith;
    holds = λ e js k.
        let n : may e c ≡ false = fails e js k in
        let stays : step e (entry_of c (empty_of c)) ≡ e = ap (λ b. cond (b && not (is_refusal (empty_of c))) (change e c) e) n in (
          inr (inl (cond-false (may e c) (answer_of e c) (empty_of c) n)),
          subst (λ (v : Written). Notes (stands (engine new)) v (step e (entry_of c (empty_of c))) (js ++ entry_of c (empty_of c) ∷ [])) (sym now)
              (subst (λ x. Notes (stands (engine new)) (record { entries = entered (journal old).entries (entry_of c (empty_of c)); room = (journal old).room }) x (js ++ entry_of c (empty_of c) ∷ [])) (sym stays) record {
                behind = k.behind;
                engine = subst (λ g. stands g e k.behind) (sym same) k.engine;
                entries = λ le. entered_is js (journal old).entries (entry_of c (empty_of c)) k.entries le;
                room = k.room;
                sorted = k.sorted;
                goes = goes_entered _ (journal old).entries (entry_of c (empty_of c)) o;
              }),
        );
  }

  -- one for whose entry there was no room
  pub unmade_applies : (old new : S) (c : EngineCall) → engine new ≡ engine old → journal new ≡ journal old → ((e : EngineTable) (js : List Entry) → Stood old e js → may e c ≡ false)
      → Applies told (λ s. faults (engine s)) Stood old new c None
  unmade_applies old new c same now fails = record {
    later = let f : faults (engine new) ≡ faults (engine old) = ap faults same in omega arith;
    holds = λ e js k. (
      wants e (fails e js k),
      subst (λ g. Notes (stands g) (journal new) e js) (sym same) (subst (λ (v : Written). Notes (stands (engine old)) v e js) (sym now) k),
    );
  }
    where
      wants : (e : EngineTable) → may e c ≡ false → may_want e c ≡ true
      wants e n = or_right (takes_memory c) (not (may e c)) (ap not n)

-- of an engine that is told what its device reads
is_reply : (told : Bool) (before now : ℕ) (e : EngineTable) (c : EngineCall) (reply : EngineReply) → told ≡ true → Answers told before now e c reply → IsReply e c reply
is_reply told before now e c reply t a = ⊎_elim
    (λ (d : (may_fail e c ≡ true) × (reply ≡ Fault fault.Device) × Rose before now). inl (d.0, d.1))
    (λ (k : (due e c ≡ reply) ⊎ ((told ≡ false) × (may e c ≡ true) × Resembles e.catalog c (due e c) reply)). ⊎_elim (λ d. inr d) (λ (n : (told ≡ false) × (may e c ≡ true) × Resembles e.catalog c (due e c) reply). absurd (false≢true (sym n.0 ∙ t))) k)
    a

legal_behind : (e : EngineTable) (js : List Entry) (j : Entry) → Legal e js → IsReply (after_entries e js) j.call j.reply → Legal e (js ++ j ∷ [])
legal_behind e [] j l r = (r, tt)
legal_behind e (i ∷ js) j l r = (l.0, legal_behind (step e i) js j l.1 r)

after_one : (e : EngineTable) (js : List Entry) (j : Entry) → after_entries e (js ++ j ∷ []) ≡ step (after_entries e js) j
after_one e [] j = refl
after_one e (i ∷ js) j = after_one (step e i) js j

pub applied_stays_legal : {S : Type 0} (told : Bool) (faults : S → ℕ) (stands : S → EngineTable → List Entry → Type 0) → AppliedStaysLegal told faults stands
applied_stays_legal told faults stands t old new c reply first js was a = kept reply (a.holds (after_entries first js) js was.stood)
  where
    kept : (r : Option EngineReply) → Follows told (faults old) (faults new) (stands new) (after_entries first js) js c r → IsLegalFrom stands first (js ++ entered_by c r) new
    kept None f = subst (λ xs. IsLegalFrom stands first xs new) (sym (append-nil js)) record { legal = was.legal; stood = f.1 }
    kept (Some x) f = record {
      legal = legal_behind first js (entry_of c x) was.legal (is_reply told (faults old) (faults new) (after_entries first js) c x t f.0);
      stood = subst (λ e. stands new e (js ++ entry_of c x ∷ [])) (sym (after_one first js (entry_of c x))) f.1;
    }

-- call after call
pub all_stay_legal : {S : Type 0} (told : Bool) (faults : S → ℕ) (stands : S → EngineTable → List Entry → Type 0) → told ≡ true → (first : EngineTable) (s : S) (js : List Entry) (ms : List (Made S))
    → IsLegalFrom stands first js s → AppliesAll told faults stands s ms → IsLegalFrom stands first (js ++ entries_by ms) (engine_behind s ms)
all_stay_legal told faults stands t first s js [] l a = subst (λ xs. IsLegalFrom stands first xs s) (sym (append-nil js)) l
all_stay_legal told faults stands t first s js (m ∷ ms) l a =
    subst (λ xs. IsLegalFrom stands first xs (engine_behind m.behind ms)) (append_assoc js (entered_by m.call m.reply) (entries_by ms))
    (all_stay_legal told faults stands t first m.behind (js ++ entered_by m.call m.reply) ms (applied_stays_legal told faults stands t s m.behind m.call m.reply first js l a.0) a.1)

-- the engine is still in use
pub applied_in_use : {S : Type 0} (told : Bool) (faults : S → ℕ) (stands : S → EngineTable → List Entry → Type 0) (old new : S) (c : EngineCall) (reply : Option EngineReply) → IsInUse stands old
    → Applies told faults stands old new c reply → IsInUse stands new
applied_in_use told faults stands old new c reply u a = by_reply reply (a.holds u.0 u.1 u.2)
  where
    by_reply : (r : Option EngineReply) → Follows told (faults old) (faults new) (stands new) u.0 u.1 c r → IsInUse stands new
    by_reply None f = (u.0, u.1, f.1)
    by_reply (Some x) f = (step u.0 (entry_of c x), u.1 ++ entry_of c x ∷ [], f.1)
